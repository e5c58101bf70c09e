-- Lines that are laid out are cut into their tokens.
use Rattle.std.proofs.Common.{◌≡◌, ℕ, zero, suc, ℤ, pos, negsuc, Bool, true, false, List, [], ◌∷◌, ◌++◌, refl}
use Rattle.std.specs.Prelude.{min}
use Rattle.std.specs.List.{AllByRecursion}
use Rattle.rz_core.proofs.Lists.{all_append}
use Rattle.rz_lex.specs.Printed.{AreBytes}
use Rattle.rz_lex.specs.declared.sign.Sign.TheVariants as signs
use Rattle.rz_show_lines.specs.Page.{AreCutBack, ArePrinted, IsPrinted, IsSeenShape}
use Rattle.rz_show_lines.specs.Print.{blanks, block, by_name, comma, deeper, group_rest, in_binary, in_decimal, in_group, in_hex, in_literal, in_octal, in_text, list_lines, margin, named_block, no_prints, piece_lines, piece_written, pieces, print, print_lines, signed_written, single, single_written, Print, Prints, Single}
use Rattle.rz_show_lines.specs.Good.{AreGood, IsGood}
use Rattle.rz_show_lines.specs.Written.{a_binary, a_blank, a_hex, a_hex_byte, a_hex_text, a_literal, a_number, a_sign, a_text, a_word, an_octal, are_apart, begins_wordy, line_shapes, line_text, lines_shapes, written_shapes, IsPut, IsSeen, IsWritten, Written}

module _ (hidden : List ℕ → Bool) where
  -- Each line of what may be laid out is such a line.

  pub record IsLine (line : List Written) : Type 0 where
    pub put : AllByRecursion (IsPut hidden) line
    pub apart : are_apart line ≡ true

  -- a line with a margin in front
  blanks_line : (k : ℕ) (line : List Written) → IsLine line → IsLine (blanks k ++ line)
  blanks_line zero line is = is
  blanks_line (suc k) line is =
      let behind = blanks_line k line is in
      record { put = ((tt, tt), ((tt, tt), ((tt, tt), ((tt, tt), behind.put)))); apart = behind.apart }

  margin_line : (depth : ℕ) (line : List Written) → IsLine line → IsLine (margin depth ++ line)
  margin_line depth line is = blanks_line (min depth 8) line is

  -- what stands after an item
  pub record IsBehind (behind : List Written) : Type 0 where
    pub line : IsLine behind
    pub ends : begins_wordy behind ≡ false

  nothing_behind : IsBehind []
  nothing_behind = record { line = record { put = tt; apart = refl }; ends = refl }

  comma_behind : (ps : Prints) → IsBehind (comma ps)
  comma_behind no_prints = nothing_behind
  comma_behind (print p ps) = record { line = record { put = ((refl, tt), tt); apart = refl }; ends = refl }

  pub signed_apart : (z : ℤ) (behind : List Written) → begins_wordy behind ≡ false → are_apart behind ≡ true → are_apart (signed_written z ++ behind) ≡ true
  signed_apart (pos n) behind ends apart = rw (ends, apart) refl
  signed_apart (negsuc n) behind ends apart = rw (ends, apart) refl

  -- a signed number, and what stands after it, when something is put after both
  signed_then : (z : ℤ) (line behind : List Written) → begins_wordy (line ++ behind) ≡ false → are_apart (line ++ behind) ≡ true → are_apart ((signed_written z ++ line) ++ behind) ≡ true
  signed_then (pos n) line behind ends apart = rw (ends, apart) refl
  signed_then (negsuc n) line behind ends apart = rw (ends, apart) refl

  rest_ends : (zs : List ℤ) (behind : List Written) → begins_wordy (group_rest zs ++ behind) ≡ false
  rest_ends [] behind = refl
  rest_ends (z ∷ zs) behind = refl

  rest_apart : (zs : List ℤ) (behind : List Written) → are_apart behind ≡ true → are_apart (group_rest zs ++ behind) ≡ true
  rest_apart [] behind apart = apart
  rest_apart (z ∷ zs) behind apart = signed_then z (group_rest zs) behind (rest_ends zs behind) (rest_apart zs behind apart)

  single_apart : (s : Single) (behind : List Written) → begins_wordy behind ≡ false → are_apart behind ≡ true → are_apart (single_written s ++ behind) ≡ true
  single_apart (in_decimal z) behind ends apart = signed_apart z behind ends apart
  single_apart (in_hex digits n) behind ends apart = rw (ends, apart) refl
  single_apart (in_octal n) behind ends apart = rw (ends, apart) refl
  single_apart (in_binary digits n) behind ends apart = rw (ends, apart) refl
  single_apart (in_literal bytes) behind ends apart = apart
  single_apart (in_text bytes) behind ends apart = apart
  single_apart (by_name name) behind ends apart = rw (ends, apart) refl
  single_apart (in_group []) behind ends apart = apart
  single_apart (in_group (z ∷ zs)) behind ends apart = signed_then z (group_rest zs) behind (rest_ends zs behind) (rest_apart zs behind apart)

  abbrev pub AreLines : List (List Written) → Type 0
  AreLines lines = AllByRecursion IsLine lines

  text_line : (hex : Bool) (bytes : List ℕ) (behind : List Written) → AreBytes bytes → IsBehind behind → IsLine (piece_written hex bytes ∷ behind)
  text_line true bytes behind small is = record { put = ((small, tt), is.line.put); apart = is.line.apart }
  text_line false bytes behind small is = record { put = ((small, tt), is.line.put); apart = is.line.apart }

  pub pieces_lines : (depth : ℕ) (behind : List Written) (hex : Bool) (first : List ℕ) (others : List (List ℕ)) → AllByRecursion AreBytes (first ∷ others) → IsBehind behind → AreLines (piece_lines depth behind hex first others)
  pieces_lines depth behind hex first [] small is = (margin_line depth (piece_written hex first ∷ behind) (text_line hex first behind small.0 is), tt)
  pieces_lines depth behind hex first (second ∷ others) small is =
      (margin_line depth (piece_written hex first ∷ []) (text_line hex first [] small.0 nothing_behind), pieces_lines depth behind hex second others small.1 is)

  braces_lines : (opening : List Written) (depth : ℕ) (behind : List Written) (lines : List (List Written)) → IsLine opening → IsBehind behind → AreLines lines
      → AreLines ((margin depth ++ opening) ∷ (lines ++ (margin depth ++ a_sign signs.CloseBrace ∷ behind) ∷ []))
  braces_lines opening depth behind lines opens is all = (
    margin_line depth opening opens,
    all_append IsLine lines ((margin depth ++ a_sign signs.CloseBrace ∷ behind) ∷ []) all
        (margin_line depth (a_sign signs.CloseBrace ∷ behind) (record { put = ((refl, tt), is.line.put); apart = is.line.apart }), tt),
  )

  mutual
    print_lines_are : (p : Print) (depth : ℕ) (behind : List Written) → IsGood hidden p → IsBehind behind → AreLines (print_lines depth behind p)
    print_lines_are (single s) depth behind good is =
        (margin_line depth (single_written s ++ behind) (record { put = all_append (IsPut hidden) (single_written s) behind good is.line.put; apart = single_apart s behind is.ends is.line.apart }), tt)
    print_lines_are (pieces hex first others) depth behind good is = pieces_lines depth behind hex first others good is
    print_lines_are (block ps) depth behind good is =
        braces_lines (a_sign signs.OpenBrace ∷ []) depth behind (list_lines (deeper depth) ps) (record { put = ((refl, tt), tt); apart = refl }) is (list_lines_are ps (deeper depth) good)
    print_lines_are (named_block name ps) depth behind good is =
        braces_lines (a_word name ∷ a_blank ∷ a_sign signs.OpenBrace ∷ []) depth behind (list_lines (deeper depth) ps) (record { put = ((good.0, good.1), ((tt, tt), ((refl, tt), tt))); apart = refl }) is (list_lines_are ps (deeper depth) good.2)

    list_lines_are : (ps : Prints) (depth : ℕ) → AreGood hidden ps → AreLines (list_lines depth ps)
    list_lines_are no_prints depth good = tt
    list_lines_are (print p ps) depth good =
        all_append IsLine (print_lines depth (comma ps) p) (list_lines depth ps) (print_lines_are p depth (comma ps) good.0 (comma_behind ps)) (list_lines_are ps depth good.1)

-- no name is a live macro
abbrev pub none_live : List ℕ → Bool
none_live word = false

puts : (hidden : List ℕ → Bool) (line : List Written) → AllByRecursion (IsPut hidden) line → AllByRecursion IsWritten line
puts hidden [] all = tt
puts hidden (one ∷ line) all = (all.0.0, puts hidden line all.1)

-- The words of the tokens are no live macros.

one_seen : (hidden : List ℕ → Bool) (one : Written) → IsSeen hidden one → AllByRecursion (IsSeenShape hidden) (written_shapes one)
one_seen hidden (a_word bytes) seen = (seen, tt)
one_seen hidden (a_number n) seen = (tt, tt)
one_seen hidden (a_hex digits n) seen = (tt, tt)
one_seen hidden (an_octal n) seen = (tt, tt)
one_seen hidden (a_binary digits n) seen = (tt, tt)
one_seen hidden (a_hex_byte byte) seen = (tt, tt)
one_seen hidden (a_literal bytes) seen = (tt, tt)
one_seen hidden (a_text bytes) seen = (tt, tt)
one_seen hidden (a_hex_text bytes) seen = (tt, tt)
one_seen hidden (a_sign sign) seen = (tt, tt)
one_seen hidden a_blank seen = tt

line_seen : (hidden : List ℕ → Bool) (line : List Written) → AllByRecursion (IsPut hidden) line → AllByRecursion (IsSeenShape hidden) (line_shapes line)
line_seen hidden [] all = tt
line_seen hidden (one ∷ line) all = all_append (IsSeenShape hidden) (written_shapes one) (line_shapes line) (one_seen hidden one all.0.1) (line_seen hidden line all.1)

lines_seen : (hidden : List ℕ → Bool) (lines : List (List Written)) → AreLines hidden lines → AllByRecursion (IsSeenShape hidden) (lines_shapes lines)
lines_seen hidden [] all = tt
lines_seen hidden (line ∷ lines) all = all_append (IsSeenShape hidden) (line_shapes line) (lines_shapes lines) (line_seen hidden line all.0.put) (lines_seen hidden lines all.1)

-- a line whose words and numbers stand apart is cut into its tokens
abbrev pub IsCutBack : Type 0
IsCutBack = (line : List Written) → AllByRecursion IsWritten line → are_apart line ≡ true → IsPrinted (line_text line) (line_shapes line)

module _ (law : IsCutBack) where
  pub all_printed : (hidden : List ℕ → Bool) (lines : List (List Written)) → AreLines hidden lines → ArePrinted lines
  all_printed hidden [] all = tt
  all_printed hidden (line ∷ lines) all = (law line (puts hidden line all.0.put) all.0.apart, all_printed hidden lines all.1)

  -- each line of a list that may be laid out is cut into its tokens
  pub cut_lines : (hidden : List ℕ → Bool) (depth : ℕ) (ps : Prints) → AreGood hidden ps → AreCutBack hidden (list_lines depth ps)
  cut_lines hidden depth ps good =
      let all = list_lines_are hidden ps depth good in
      record { printed = all_printed hidden (list_lines depth ps) all; seen = lines_seen hidden (list_lines depth ps) all }
