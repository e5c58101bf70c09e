-- The tokens of the lines of printed items.
use Rattle.std.proofs.Common.{◌≡◌, ℕ, zero, suc, ℤ, List, [], ◌∷◌, ◌++◌, map, refl, sym, ap, ◌∙◌, append_assoc}
use Rattle.std.specs.Prelude.{min, Bool, true, false}
use Rattle.std.proofs.lemmas.List.{append-nil}
use Rattle.rz_lex.specs.Printed.{word_of}
use Rattle.rz_lex.specs.declared.sign.Sign.TheVariants as signs
use Rattle.rz_lex.specs.declared.token.Shape.{Shape}
use Rattle.rz_lex.specs.declared.token.Shape.TheVariants as shapes
use Rattle.rz_show_lines.specs.Print.{blanks, block, comma, deeper, group_rest, group_written, in_decimal, list_lines, margin, named_block, no_prints, piece_lines, piece_written, pieces, print, print_lines, signed_written, single, single_written, Print, Prints}
use Rattle.rz_show_lines.specs.Written.{a_blank, a_sign, a_word, line_shapes, lines_shapes, written_shapes, Written}

-- Without depths and lines.

abbrev pub braced : List Shape → List Shape
braced inside = shapes.Sign signs.OpenBrace ∷ (inside ++ shapes.Sign signs.CloseBrace ∷ [])

abbrev mutual
  pub print_shapes : Print → List Shape
  print_shapes (single one) = line_shapes (single_written one)
  print_shapes (pieces hex first others) = map (λ piece. shapes.Text piece) (first ∷ others)
  print_shapes (block items) = braced (list_shapes items)
  print_shapes (named_block name items) = word_of name ∷ braced (list_shapes items)

  pub list_shapes : Prints → List Shape
  list_shapes no_prints = []
  list_shapes (print first others) = print_shapes first ++ (line_shapes (comma others) ++ list_shapes others)

-- Lines.

pub line_both : (xs ys : List Written) → line_shapes (xs ++ ys) ≡ line_shapes xs ++ line_shapes ys
line_both [] ys = refl
line_both (x ∷ xs) ys = ap (λ (r : List Shape). written_shapes x ++ r) (line_both xs ys) ∙ sym (append_assoc (written_shapes x) (line_shapes xs) (line_shapes ys))

pub lines_both : (xs ys : List (List Written)) → lines_shapes (xs ++ ys) ≡ lines_shapes xs ++ lines_shapes ys
lines_both [] ys = refl
lines_both (x ∷ xs) ys = ap (λ (r : List Shape). line_shapes x ++ r) (lines_both xs ys) ∙ sym (append_assoc (line_shapes x) (lines_shapes xs) (lines_shapes ys))

blanks_none : (k : ℕ) (line : List Written) → line_shapes (blanks k ++ line) ≡ line_shapes line
blanks_none zero line = refl
blanks_none (suc k) line = blanks_none k line

margin_none : (depth : ℕ) (line : List Written) → line_shapes (margin depth ++ line) ≡ line_shapes line
margin_none depth line = blanks_none (min depth 8) line

-- one line alone
line_alone : (depth : ℕ) (line : List Written) → lines_shapes ((margin depth ++ line) ∷ []) ≡ line_shapes line
line_alone depth line = append-nil (line_shapes (margin depth ++ line)) ∙ margin_none depth line

-- a piece of a text is one token, in hexadecimal too
piece_token : (hex : Bool) (piece : List ℕ) (behind : List Written) → line_shapes (piece_written hex piece ∷ behind) ≡ shapes.Text piece ∷ line_shapes behind
piece_token true piece behind = refl
piece_token false piece behind = refl

pub piece_tokens : (depth : ℕ) (behind : List Written) (hex : Bool) (first : List ℕ) (others : List (List ℕ))
    → lines_shapes (piece_lines depth behind hex first others) ≡ print_shapes (pieces hex first others) ++ line_shapes behind
piece_tokens depth behind hex first [] = line_alone depth (piece_written hex first ∷ behind) ∙ piece_token hex first behind
piece_tokens depth behind hex first (second ∷ others) =
    ap (λ (r : List Shape). r ++ lines_shapes (piece_lines depth behind hex second others)) (margin_none depth (piece_written hex first ∷ []) ∙ piece_token hex first [])
    ∙ ap (λ (r : List Shape). shapes.Text first ∷ r) (piece_tokens depth behind hex second others)

-- what stands in braces, with its last line
in_braces : (opening : List Written) (depth : ℕ) (behind : List Written) (lines : List (List Written)) (inside : List Shape) → lines_shapes lines ≡ inside
    → lines_shapes ((margin depth ++ opening) ∷ (lines ++ (margin depth ++ a_sign signs.CloseBrace ∷ behind) ∷ []))
    ≡ line_shapes opening ++ ((inside ++ shapes.Sign signs.CloseBrace ∷ []) ++ line_shapes behind)
in_braces opening depth behind lines inside is =
    (λ j. margin_none depth opening j ++ lines_both lines ((margin depth ++ a_sign signs.CloseBrace ∷ behind) ∷ []) j)
    ∙ (λ j. line_shapes opening ++ (is j ++ line_alone depth (a_sign signs.CloseBrace ∷ behind) j))
    ∙ ap (λ (r : List Shape). line_shapes opening ++ r) (sym (append_assoc inside (shapes.Sign signs.CloseBrace ∷ []) (line_shapes behind)))

mutual
  print_tokens : (one : Print) (depth : ℕ) (behind : List Written) → lines_shapes (print_lines depth behind one) ≡ print_shapes one ++ line_shapes behind
  print_tokens (single one) depth behind = line_alone depth (single_written one ++ behind) ∙ line_both (single_written one) behind
  print_tokens (pieces hex first others) depth behind = piece_tokens depth behind hex first others
  print_tokens (block prints) depth behind =
      in_braces (a_sign signs.OpenBrace ∷ []) depth behind (list_lines (deeper depth) prints) (list_shapes prints) (list_tokens (deeper depth) prints)
  print_tokens (named_block name prints) depth behind =
      in_braces (a_word name ∷ a_blank ∷ a_sign signs.OpenBrace ∷ []) depth behind (list_lines (deeper depth) prints) (list_shapes prints) (list_tokens (deeper depth) prints)

  -- depths and lines are gone
  pub list_tokens : (depth : ℕ) (prints : Prints) → lines_shapes (list_lines depth prints) ≡ list_shapes prints
  list_tokens depth no_prints = refl
  list_tokens depth (print one others) =
      lines_both (print_lines depth (comma others) one) (list_lines depth others)
      ∙ (λ j. print_tokens one depth (comma others) j ++ list_tokens depth others j)
      ∙ append_assoc (print_shapes one) (line_shapes (comma others)) (list_shapes others)

-- The numbers of a point or a rectangle are a list in braces.

abbrev pub number_prints : List ℤ → Prints
number_prints [] = no_prints
number_prints (number ∷ numbers) = print (single (in_decimal number)) (number_prints numbers)

rest_tokens : (number : ℤ) (numbers : List ℤ) → line_shapes (signed_written number ++ group_rest numbers) ≡ list_shapes (number_prints (number ∷ numbers)) ++ shapes.Sign signs.CloseBrace ∷ []
rest_tokens number [] =
    line_both (signed_written number) (a_sign signs.CloseBrace ∷ [])
    ∙ ap (λ (r : List Shape). r ++ shapes.Sign signs.CloseBrace ∷ []) (sym (append-nil (line_shapes (signed_written number))))
rest_tokens number (next ∷ numbers) =
    line_both (signed_written number) (group_rest (next ∷ numbers))
    ∙ ap (λ (r : List Shape). line_shapes (signed_written number) ++ shapes.Sign signs.Comma ∷ r) (rest_tokens next numbers)
    ∙ sym (append_assoc (line_shapes (signed_written number)) (shapes.Sign signs.Comma ∷ list_shapes (number_prints (next ∷ numbers))) (shapes.Sign signs.CloseBrace ∷ []))

pub group_tokens : (numbers : List ℤ) → line_shapes (group_written numbers) ≡ braced (list_shapes (number_prints numbers))
group_tokens [] = refl
group_tokens (number ∷ numbers) = ap (λ (r : List Shape). shapes.Sign signs.OpenBrace ∷ r) (rest_tokens number numbers)
