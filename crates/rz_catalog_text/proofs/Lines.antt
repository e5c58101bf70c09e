-- The lines of an entry, one by one.
use Rattle.std.proofs.Common.{◌≡◌, ℕ, ◌<◌, ◌≤◌, ℤ, false, List, [], ◌∷◌, ◌++◌, length, refl, sym, ap, ◌∙◌, append_assoc}
use Rattle.std.proofs.lemmas.List.{append-nil}
use Rattle.std.proofs.lemmas.Grind.{flat_map-append}
use Rattle.std.specs.Prelude.{codes, flat_map}
use Rattle.rz_core.specs.Decimal.{decimal_of, signed_of}
use Rattle.rz_core.specs.Numbers.{be}
use Rattle.rz_core.specs.Quoted.{quoted}
use Rattle.rz_lex.specs.declared.sign.Sign.TheVariants.{Semicolon}
use Rattle.rz_show_lines.proofs.Pieces.{first_piece, last_piece}
use Rattle.rz_show_lines.proofs.Writes.{signed_is, text_both}
use Rattle.rz_show_lines.specs.Print.{signed_written}
use Rattle.rz_show_lines.specs.Written.{a_blank, a_number, a_sign, line_text, lines_text, Written}
use Rattle.rz_catalog_text.specs.declared.entry.Entry.{Entry}
use Rattle.rz_catalog_text.specs.Text.{entries_text, entry_lines, head_line, head_text, piece_text, pieces_text}

last_text : (text : List ℕ) → length text ≤ 64 → pieces_text text ≡ piece_text text (59 ∷ 10 ∷ [])
last_text text fits =
    ap lines_text (last_piece 1 (a_sign Semicolon ∷ []) false text fits) ∙ ap (λ (x : List ℕ). codes "    " ++ x) (append_assoc (quoted 34 text) (59 ∷ []) (10 ∷ []))

first_text : (text piece others : List ℕ) → text ≡ piece ++ others → length piece ≡ 64 → 0 < length others → pieces_text text ≡ piece_text piece (10 ∷ []) ++ pieces_text others
first_text text piece others are long some =
    ap lines_text (first_piece 1 (a_sign Semicolon ∷ []) false text piece others are long some)
    ∙ ap (λ (x : List ℕ). codes "    " ++ (x ++ 10 ∷ pieces_text others)) (append-nil (quoted 34 piece))
    ∙ ap (λ (x : List ℕ). codes "    " ++ x) (sym (append_assoc (quoted 34 piece) (10 ∷ []) (pieces_text others)))

id_text : (id : ℤ) → line_text (signed_written id) ≡ signed_of id
unfolding signed_of
id_text id = signed_is id

-- the first line
head_is : (entry : Entry) → line_text (head_line entry) ++ 10 ∷ [] ≡ head_text entry
head_is entry =
    let number = append-nil (decimal_of entry.leaf) in
    let behind = text_both (signed_written entry.id) (a_blank ∷ a_number entry.leaf ∷ []) ∙ (λ j. id_text entry.id j ++ 32 ∷ number j) in
    ap (λ (x : List ℕ). (quoted 39 (be 4 entry.kind.code) ++ 32 ∷ x) ++ 10 ∷ []) behind
    ∙ append_assoc (quoted 39 (be 4 entry.kind.code)) (32 ∷ (signed_of entry.id ++ 32 ∷ decimal_of entry.leaf)) (10 ∷ [])
    ∙ ap (λ (x : List ℕ). quoted 39 (be 4 entry.kind.code) ++ 32 ∷ x) (append_assoc (signed_of entry.id) (32 ∷ decimal_of entry.leaf) (10 ∷ []))

pub entry_text : (entry : Entry) → entries_text (entry ∷ []) ≡ head_text entry ++ pieces_text entry.text
entry_text entry =
    ap lines_text (append-nil (entry_lines entry)) ∙ sym (append_assoc (line_text (head_line entry)) (10 ∷ []) (pieces_text entry.text))
    ∙ ap (λ (x : List ℕ). x ++ pieces_text entry.text) (head_is entry)

-- Pieces, one by one.

pub goes_on : (whole into next text piece others : List ℕ) → whole ≡ into ++ pieces_text text → next ≡ into ++ piece_text piece (10 ∷ []) → text ≡ piece ++ others → length piece ≡ 64 → 0 < length others
    → whole ≡ next ++ pieces_text others
goes_on whole into next text piece others so_far put are long some =
    so_far ∙ ap (λ (x : List ℕ). into ++ x) (first_text text piece others are long some) ∙ sym (append_assoc into (piece_text piece (10 ∷ [])) (pieces_text others))
    ∙ ap (λ (x : List ℕ). x ++ pieces_text others) (sym put)

pub ends : (whole into next text : List ℕ) → whole ≡ into ++ pieces_text text → length text ≤ 64 → next ≡ into ++ piece_text text (59 ∷ 10 ∷ []) → next ≡ whole
ends whole into next text so_far fits put = put ∙ ap (λ (x : List ℕ). into ++ x) (sym (last_text text fits)) ∙ sym so_far

-- Entries, one after the other.

lines_go_on : (front back : List (List Written)) → lines_text (front ++ back) ≡ lines_text front ++ lines_text back
lines_go_on [] back = refl
lines_go_on (line ∷ front) back = ap (λ (x : List ℕ). line_text line ++ 10 ∷ x) (lines_go_on front back) ∙ sym (append_assoc (line_text line) (10 ∷ lines_text front) (lines_text back))

pub texts_go_on : (front back : List Entry) → entries_text (front ++ back) ≡ entries_text front ++ entries_text back
texts_go_on front back = ap lines_text (flat_map-append entry_lines front back) ∙ lines_go_on (flat_map entry_lines front) (flat_map entry_lines back)
