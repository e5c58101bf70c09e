-- Items as they are written: a tree that is laid out on lines. (As MPW DeRez shows them.)
use Rattle.std.specs.Prelude.{ℕ, zero, suc, ◌+◌, ◌-◌, ◌^◌, min, nat_lt, ℤ, pos, negsuc, Bool, true, false, if◌then◌else◌, List, [], ◌∷◌, ◌++◌}
use Rattle.rz_lex.specs.declared.sign.Sign.TheVariants as signs
use Rattle.rz_show_lines.specs.Pieces.{text_pieces}
use Rattle.rz_show_lines.specs.Written.{a_binary, a_blank, a_hex, a_hex_text, a_literal, a_number, a_sign, a_text, a_word, an_octal, Written}

-- what stands on one line
pub data Single : Type 0 where
  in_decimal : (number : ℤ) → Single
  in_hex : (digits number : ℕ) → Single
  in_octal : (number : ℕ) → Single
  in_binary : (digits number : ℕ) → Single
  in_literal : (bytes : List ℕ) → Single
  in_text : (bytes : List ℕ) → Single
  by_name : (name : List ℕ) → Single
  in_group : (numbers : List ℤ) → Single  -- a point or a rectangle

mutual
  pub data Print : Type 0 where
    single : (one : Single) → Print
    pieces : (hex : Bool) → (first : List ℕ) → (others : List (List ℕ)) → Print  -- a text: at least one piece
    block : (items : Prints) → Print  -- the rows of an array
    named_block : (name : List ℕ) → (items : Prints) → Print  -- a case

  -- items, in order
  pub data Prints : Type 0 where
    no_prints : Prints
    print : (item : Print) → (others : Prints) → Prints

-- One line.

-- two's complement
abbrev pub signed_number : (width number : ℕ) → ℤ
signed_number width number = if nat_lt number (2 ^ (width - 1)) then pos number else negsuc (2 ^ width - number - 1)

abbrev pub signed_written : ℤ → List Written
signed_written (pos number) = a_number number ∷ []
signed_written (negsuc number) = a_sign signs.Minus ∷ a_number (suc number) ∷ []

abbrev pub group_rest : List ℤ → List Written
group_rest [] = a_sign signs.CloseBrace ∷ []
group_rest (number ∷ numbers) = a_sign signs.Comma ∷ a_blank ∷ (signed_written number ++ group_rest numbers)

abbrev pub group_written : List ℤ → List Written
group_written [] = a_sign signs.OpenBrace ∷ a_sign signs.CloseBrace ∷ []
group_written (number ∷ numbers) = a_sign signs.OpenBrace ∷ (signed_written number ++ group_rest numbers)

abbrev pub single_written : Single → List Written
single_written (in_decimal number) = signed_written number
single_written (in_hex digits number) = a_hex digits number ∷ []
single_written (in_octal number) = an_octal number ∷ []
single_written (in_binary digits number) = a_binary digits number ∷ []
single_written (in_literal bytes) = a_literal bytes ∷ []
single_written (in_text bytes) = a_text bytes ∷ []
single_written (by_name name) = a_word name ∷ []
single_written (in_group numbers) = group_written numbers

-- a piece of a text
abbrev pub piece_written : (hex : Bool) → List ℕ → Written
piece_written true bytes = a_hex_text bytes
piece_written false bytes = a_text bytes

-- Lines.

abbrev pub blanks : ℕ → List Written
blanks zero = []
blanks (suc levels) = a_blank ∷ a_blank ∷ a_blank ∷ a_blank ∷ blanks levels

-- four blanks for each level, at most 32
abbrev pub margin : (depth : ℕ) → List Written
margin depth = blanks (min depth 8)

-- one level deeper, as far as it shows
abbrev pub deeper : (depth : ℕ) → ℕ
deeper depth = min (depth + 1) 8

-- every item but the last of its list is followed by a comma
abbrev pub comma : Prints → List Written
comma no_prints = []
comma (print item others) = a_sign signs.Comma ∷ []

-- the pieces of a text, each on a line of its own; what stands after the text stands after the last
abbrev pub piece_lines : (depth : ℕ) → (behind : List Written) → (hex : Bool) → List ℕ → List (List ℕ) → List (List Written)
piece_lines depth behind hex first [] = (margin depth ++ piece_written hex first ∷ behind) ∷ []
piece_lines depth behind hex first (second ∷ others) = (margin depth ++ piece_written hex first ∷ []) ∷ piece_lines depth behind hex second others

-- a text, or what is left of it, in pieces, with what stands after it
abbrev pub text_lines : (depth : ℕ) → (behind : List Written) → (hex : Bool) → List ℕ → List (List Written)
text_lines depth behind hex bytes = piece_lines depth behind hex (text_pieces hex bytes).first (text_pieces hex bytes).others

abbrev mutual
  -- an item at this depth, with what stands after it; the items of a list in braces stand one level deeper
  pub print_lines : (depth : ℕ) → (behind : List Written) → Print → List (List Written)
  print_lines depth behind (single one) = (margin depth ++ (single_written one ++ behind)) ∷ []
  print_lines depth behind (pieces hex first others) = piece_lines depth behind hex first others
  print_lines depth behind (block items) =
      (margin depth ++ a_sign signs.OpenBrace ∷ []) ∷ (list_lines (deeper depth) items ++ (margin depth ++ a_sign signs.CloseBrace ∷ behind) ∷ [])
  print_lines depth behind (named_block name items) =
      (margin depth ++ a_word name ∷ a_blank ∷ a_sign signs.OpenBrace ∷ []) ∷ (list_lines (deeper depth) items ++ (margin depth ++ a_sign signs.CloseBrace ∷ behind) ∷ [])

  -- the items of a list
  pub list_lines : (depth : ℕ) → Prints → List (List Written)
  list_lines depth no_prints = []
  list_lines depth (print item others) = print_lines depth (comma others) item ++ list_lines depth others
