-- Items whose tokens and pieces are short are written on short lines.
use Rattle.std.proofs.Common.{◌≡◌, ℕ, zero, suc, ◌*◌, ◌≤◌, Bool, List, [], ◌∷◌, ◌++◌, length, min, refl, arith, length-append}
use Rattle.std.specs.List.{AllByRecursion}
use Rattle.rz_core.proofs.Lists.{all_append}
use Rattle.rz_lex.specs.declared.sign.Sign.TheVariants as signs
use Rattle.rz_show_lines.specs.Cut.{IsShort}
use Rattle.rz_show_lines.specs.Print.{blanks, block, comma, deeper, list_lines, margin, named_block, no_prints, piece_lines, piece_written, pieces, print, print_lines, single, single_written, Print, Prints}
use Rattle.rz_show_lines.specs.Written.{a_blank, a_sign, a_word, line_text, Written}
use Rattle.rz_show_lines.proofs.ShortTokens.{piece_short, size, size_both, size_one}

-- a piece of a text, which stands on one line
abbrev pub IsPiece : List ℕ → Type 0
IsPiece piece = length piece ≤ 64

abbrev mutual
  -- what stands on one line of the item is short
  pub IsBrief : Print → Type 0
  IsBrief (single one) = size (single_written one) ≤ 255
  IsBrief (pieces hex first others) = AllByRecursion IsPiece (first ∷ others)
  IsBrief (block items) = AreBrief items
  IsBrief (named_block name items) = (length name ≤ 255) × AreBrief items

  pub AreBrief : Prints → Type 0
  AreBrief no_prints = Unit {0}
  AreBrief (print item others) = IsBrief item × AreBrief others

pub is_short : (line : List Written) → size line ≤ 511 → IsShort line
is_short line few = omega (arith, length-append (line_text line) (10 ∷ []), few)

-- Lines.

blanks_size : (levels : ℕ) → size (blanks levels) ≡ 4 * levels
blanks_size zero = refl
blanks_size (suc levels) = omega (arith, blanks_size levels)

-- after a margin
line_short : (depth : ℕ) (line : List Written) → size line ≤ 479 → IsShort (margin depth ++ line)
line_short depth line few = is_short (margin depth ++ line) (omega (arith, size_both (margin depth) line, blanks_size (min depth 8), few))

piece_line : (depth : ℕ) (behind : List Written) (hex : Bool) (piece : List ℕ) → size behind ≤ 69 → IsPiece piece → IsShort (margin depth ++ piece_written hex piece ∷ behind)
piece_line depth behind hex piece few small =
    line_short depth (piece_written hex piece ∷ behind) (omega (arith, size_one (piece_written hex piece) behind, piece_short hex piece, few, small))

pub pieces_short : (depth : ℕ) (behind : List Written) (hex : Bool) (first : List ℕ) (others : List (List ℕ)) → size behind ≤ 69 → AllByRecursion IsPiece (first ∷ others)
    → AllByRecursion IsShort (piece_lines depth behind hex first others)
pieces_short depth behind hex first [] few each = (piece_line depth behind hex first few each.0, tt)
pieces_short depth behind hex first (second ∷ others) few each =
    (piece_line depth [] hex first (omega arith) each.0, pieces_short depth behind hex second others few each.1)

-- Lists.

comma_size : (others : Prints) → size (comma others) ≤ 1
comma_size no_prints = omega arith
comma_size (print item others) = omega arith

-- the items of a list in braces, between the line that opens it and the one that closes it
braces_short : (depth : ℕ) (behind opening : List Written) (lines : List (List Written)) → size behind ≤ 1 → size opening ≤ 479 → AllByRecursion IsShort lines
    → AllByRecursion IsShort ((margin depth ++ opening) ∷ (lines ++ (margin depth ++ a_sign signs.CloseBrace ∷ behind) ∷ []))
braces_short depth behind opening lines few small each =
    (line_short depth opening small, all_append IsShort lines _ each (line_short depth (a_sign signs.CloseBrace ∷ behind) (omega (arith, few)), tt))

mutual
  item_short : (depth : ℕ) (behind : List Written) (item : Print) → size behind ≤ 1 → IsBrief item → AllByRecursion IsShort (print_lines depth behind item)
  item_short depth behind (single one) few brief =
      (line_short depth (single_written one ++ behind) (omega (arith, size_both (single_written one) behind, few, brief)), tt)
  item_short depth behind (pieces hex first others) few brief = pieces_short depth behind hex first others (omega (arith, few)) brief
  item_short depth behind (block items) few brief =
      braces_short depth behind (a_sign signs.OpenBrace ∷ []) (list_lines (deeper depth) items) few (omega arith) (list_short (deeper depth) items brief)
  item_short depth behind (named_block name items) few brief =
      let opening = a_blank ∷ a_sign signs.OpenBrace ∷ [] in
      braces_short depth behind (a_word name ∷ opening) (list_lines (deeper depth) items) few (omega (arith, size_one (a_word name) opening, brief.0))
      (list_short (deeper depth) items brief.1)

  pub list_short : (depth : ℕ) (items : Prints) → AreBrief items → AllByRecursion IsShort (list_lines depth items)
  list_short depth no_prints brief = tt
  list_short depth (print item others) brief =
      all_append IsShort (print_lines depth (comma others) item) (list_lines depth others) (item_short depth (comma others) item (comma_size others) brief.0)
      (list_short depth others brief.1)
