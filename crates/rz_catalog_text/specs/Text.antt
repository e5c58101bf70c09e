-- Entries as text.
use Rattle.std.specs.Prelude.{ℕ, false, codes, List, [], ◌∷◌, ◌++◌, flat_map}
use Rattle.rz_core.specs.Decimal.{decimal_of, signed_of}
use Rattle.rz_core.specs.Numbers.{be}
use Rattle.rz_core.specs.Quoted.{literal_text, quoted}
use Rattle.rz_lex.specs.declared.sign.Sign.TheVariants.{Semicolon}
use Rattle.rz_catalog_text.specs.declared.entry.Entry.{Entry}
use Rattle.rz_show_lines.specs.Print.{signed_written, text_lines}
use Rattle.rz_show_lines.specs.Written.{a_blank, a_literal, a_number, a_sign, lines_text, Written}

-- the type, the id and the place of the text, with a blank between
abbrev pub head_line : Entry → List Written
head_line entry = a_literal (be 4 entry.kind.code) ∷ a_blank ∷ (signed_written entry.id ++ a_blank ∷ a_number entry.leaf ∷ [])

-- after them the text, one level deep, in pieces that stand on lines of their own; `;` stands after the last one
abbrev pub entry_lines : Entry → List (List Written)
entry_lines entry = head_line entry ∷ text_lines 1 (a_sign Semicolon ∷ []) false entry.text

abbrev pub entries_text : List Entry → List ℕ
entries_text entries = lines_text (flat_map entry_lines entries)

-- As the code writes them.

abbrev pub head_text : Entry → List ℕ
head_text entry = literal_text entry.kind.code ++ 32 ∷ (signed_of entry.id ++ 32 ∷ (decimal_of entry.leaf ++ 10 ∷ []))

abbrev pub pieces_text : List ℕ → List ℕ
pieces_text text = lines_text (text_lines 1 (a_sign Semicolon ∷ []) false text)

abbrev pub piece_text : List ℕ → List ℕ → List ℕ
piece_text piece end = codes "    " ++ (quoted 34 piece ++ end)
