-- The lines that begin a statement. (As MPW DeRez shows them.)
use Rattle.std.specs.Prelude.{ℕ, ℤ, nat_le, ◌==◌, if◌then◌else◌, false, List, [], ◌∷◌, ◌++◌, length}
use Rattle.rz_lex.specs.declared.sign.Sign.TheVariants as signs
use Rattle.rz_show_lines.specs.Head.{after_comma, attr_written, head_front}
use Rattle.rz_show_lines.specs.Pieces.{text_pieces}
use Rattle.rz_show_lines.specs.Print.{piece_lines}
use Rattle.rz_show_lines.specs.Written.{a_blank, a_sign, a_text, Written}

-- the attributes, and the brace that the items stand in
unfoldable pub head_end : (attr : ℕ) → List Written
head_end attr = attr_written attr ++ a_sign signs.CloseParen ∷ a_blank ∷ a_sign signs.OpenBrace ∷ []

-- the pieces of a name that is longer than a line, each on a line of its own, and what stands after it
abbrev pub name_lines : (name : List ℕ) → (attr : ℕ) → List (List Written)
name_lines name attr = piece_lines 1 (head_end attr) false (text_pieces false name).first (text_pieces false name).others

-- the lines with this word, a type, an id, a name where there is one, and attributes: one line, or more where the name has more
-- than 64 bytes
unfoldable pub head_lines : (word : List ℕ) → (code : ℕ) → (id : ℤ) → (name : List ℕ) → (attr : ℕ) → List (List Written)
head_lines word code id name attr =
    if length name == 0 then (head_front word code id ++ head_end attr) ∷ []
    else if nat_le (length name) 64 then (head_front word code id ++ after_comma (a_text name ∷ head_end attr)) ∷ []
    else (head_front word code id ++ a_sign signs.Comma ∷ []) ∷ name_lines name attr
