-- Entries that are written and read.
use Rattle.std.proofs.Common.{◌≡◌, ℕ, suc, ◌^◌, ◌<◌, ℤ, pos, negsuc, FitsSigned, Bool, true, false, List, [], ◌∷◌, ◌++◌, map, None, Some, refl, sym, ap, subst, ◌∙◌, arith, append_assoc, inl}
use Rattle.std.specs.Prelude.{flat_map, Ok}
use Rattle.std.specs.Int.{w16}
use Rattle.std.specs.List.{AllByRecursion}
use Rattle.std.proofs.lemmas.List.{append-nil}
use Rattle.std.proofs.lemmas.List.Concat.{concat_is}
use Rattle.std.proofs.lemmas.Nat.{from_be_bytes-to_be_bytes_4}
use Rattle.rz_core.proofs.Lists.{all_append}
use Rattle.rz_core.specs.Numbers.{be, length-be_4}
use Rattle.rz_core.specs.Resources.{kind_of}
use Rattle.rz_core.specs.declared.fault.Mark.{Mark}
use Rattle.rz_core.specs.declared.resource.OsType.{OsType}
use Rattle.rz_lex.specs.Joined.{joined}
use Rattle.rz_lex.specs.Lines.{HasLines}
use Rattle.rz_lex.specs.Page.{lines_from, page, StandsOnPage}
use Rattle.rz_lex.specs.Token.{is_the_sign}
use Rattle.rz_lex.specs.declared.sign.Sign.TheVariants.{Semicolon}
use Rattle.rz_lex.specs.declared.token.Shape.{Shape}
use Rattle.rz_lex.specs.declared.token.Shape.TheVariants as shapes
use Rattle.rz_lex.specs.declared.token.Token.{Token}
use Rattle.rz_catalog_text.specs.Entries.{chunks, first_mark, id_shapes, id_value, in_first, AreEntries, IsEntry, IsEntryAnswer}
use Rattle.rz_catalog_text.specs.InOrder.{EachInOrder}
use Rattle.rz_catalog_text.specs.Stored.{unmarked, IsStored}
use Rattle.rz_catalog_text.specs.declared.entry.Entry.{Entry}
use Rattle.rz_catalog_text.specs.Text.{entries_text, entry_lines, head_line}
use Rattle.rz_catalog_text.specs.Back.{AreReadBack, AreThese}
use Rattle.rz_show_lines.specs.Pieces.{text_pieces}
use Rattle.rz_show_lines.specs.Print.{signed_written}
use Rattle.rz_show_lines.specs.Written.{a_blank, a_number, a_sign, are_apart, line_shapes, lines_shapes, lines_text, IsWritten, Written}
use Rattle.rz_show_lines.specs.Page.{ArePrinted, IsPage}
use Rattle.rz_show_lines.proofs.CutLines.{all_printed, none_live, pieces_lines, IsCutBack}
use Rattle.rz_show_lines.proofs.Pages.{has_tokens}
use Rattle.rz_show_lines.proofs.Split.{front_and_back, none_left, one_and_more, shapes_in}
use Rattle.rz_show_lines.proofs.Texts.{all_pieces, four_bytes, pieces_join, pieces_small}
use Rattle.rz_show_lines.proofs.Tokens.{lines_both, piece_tokens}

-- The tokens of an entry.

is_minus : ℤ → Bool
is_minus (pos n) = false
is_minus (negsuc n) = true

amount : ℤ → ℕ
amount (pos n) = n
amount (negsuc n) = suc n

abbrev texts_of : Entry → List (List ℕ)
texts_of entry = all_pieces (text_pieces false entry.text)

-- a type, an id and a place in front of other tokens
abbrev in_front : Entry → List Shape → List Shape
in_front entry more = shapes.Literal (be 4 entry.kind.code) ∷ (id_shapes (is_minus entry.id) (amount entry.id) ++ shapes.Number entry.leaf ∷ more)

abbrev entry_shapes : Entry → List Shape
entry_shapes entry = in_front entry (map shapes.Text (texts_of entry) ++ shapes.Sign Semicolon ∷ [])

id_tokens : (id : ℤ) (rest : List Written) → line_shapes (signed_written id ++ rest) ≡ id_shapes (is_minus id) (amount id) ++ line_shapes rest
unfolding is_minus amount
id_tokens (pos n) rest = refl
id_tokens (negsuc n) rest = refl

front_is : (entry : Entry) (more end : List Shape) → in_front entry (more ++ end) ≡ in_front entry more ++ end
front_is entry more end = ap (λ (x : List Shape). shapes.Literal (be 4 entry.kind.code) ∷ x) (sym (append_assoc (id_shapes (is_minus entry.id) (amount entry.id)) (shapes.Number entry.leaf ∷ more) end))

tokens_are : (entry : Entry) → lines_shapes (entry_lines entry) ≡ entry_shapes entry
tokens_are entry =
    let cut = text_pieces false entry.text in
    (λ j. (shapes.Literal (be 4 entry.kind.code) ∷ id_tokens entry.id (a_blank ∷ a_number entry.leaf ∷ []) j) ++ piece_tokens 1 (a_sign Semicolon ∷ []) false cut.first cut.others j)
    ∙ sym (front_is entry [] (map shapes.Text (texts_of entry) ++ shapes.Sign Semicolon ∷ []))

-- The lines are cut into them.

id_written : (id : ℤ) → FitsSigned w16 id → AllByRecursion IsWritten (signed_written id)
id_written (pos n) fits = (omega (arith, fits), tt)
id_written (negsuc n) fits = (refl, (omega (arith, fits), tt))

id_apart : (id : ℤ) (leaf : ℕ) → are_apart (signed_written id ++ a_blank ∷ a_number leaf ∷ []) ≡ true
id_apart (pos n) leaf = refl
id_apart (negsuc n) leaf = refl

printed : IsCutBack → (entry : Entry) → IsStored entry → ArePrinted (entry_lines entry)
printed law entry stored =
    let cut = text_pieces false entry.text in
    let size = length-be_4 entry.kind.code in (
      law (head_line entry)
          ((four_bytes entry.kind.code, omega (arith, size), omega (arith, size)), (tt, all_append IsWritten (signed_written entry.id) (a_blank ∷ a_number entry.leaf ∷ []) (id_written entry.id stored.id) (tt, (stored.leaf, tt))))
          (id_apart entry.id entry.leaf),
      all_printed law none_live _
          (pieces_lines none_live 1 (a_sign Semicolon ∷ []) false cut.first cut.others (pieces_small 64 64 entry.text stored.text)
          (record { line = record { put = ((refl, tt), tt); apart = refl }; ends = refl })),
    )

all_are_printed : IsCutBack → (entries : List Entry) → AllByRecursion IsStored entries → ArePrinted (flat_map entry_lines entries)
all_are_printed law [] stored = tt
all_are_printed law (entry ∷ entries) stored = all_append _ (entry_lines entry) (flat_map entry_lines entries) (printed law entry stored.0) (all_are_printed law entries stored.1)

all_tokens : (entries : List Entry) → lines_shapes (flat_map entry_lines entries) ≡ flat_map entry_shapes entries
all_tokens [] = refl
all_tokens (entry ∷ entries) = lines_both (entry_lines entry) (flat_map entry_lines entries) ∙ (λ j. tokens_are entry j ++ all_tokens entries j)

line_by_line : (lines : List (List Written)) → flat_map (λ (line : List Shape). line) (map line_shapes lines) ≡ lines_shapes lines
line_by_line [] = refl
line_by_line (line ∷ lines) = ap (λ (x : List Shape). line_shapes line ++ x) (line_by_line lines)

-- They are read.

-- a chunk is cut after its `;`
cut_off : (front rest : List Token) (before : List Shape) → shapes_in front ≡ before ++ shapes.Sign Semicolon ∷ [] → AllByRecursion (λ shape. is_the_sign Semicolon shape ≡ false) before
    → chunks (front ++ rest) ≡ front ∷ chunks rest
cut_off [] rest [] are others = absurd cc
cut_off [] rest (shape ∷ before) are others = absurd cc
cut_off (token ∷ front) rest [] are others =
    let one = one_and_more (token ∷ front) (shapes.Sign Semicolon) [] are in
    let sign : token.shape ≡ shapes.Sign Semicolon = cc in
    let none : front ≡ [] = none_left front cc in
    let ends : is_the_sign Semicolon token.shape ≡ true = ap (is_the_sign Semicolon) sign in
    rw (ends, none) refl
cut_off (token ∷ front) rest (shape ∷ before) are others =
    let same : token.shape ≡ shape = cc in
    let goes_on : is_the_sign Semicolon token.shape ≡ false = ap (is_the_sign Semicolon) same ∙ others.0 in
    let more : shapes_in front ≡ before ++ shapes.Sign Semicolon ∷ [] = cc in
    rw goes_on (ap (in_first token) (cut_off front rest before more others.1))

texts_go_on : (texts : List (List ℕ)) → AllByRecursion (λ shape. is_the_sign Semicolon shape ≡ false) (map shapes.Text texts)
texts_go_on [] = tt
texts_go_on (text ∷ texts) = (refl, texts_go_on texts)

ids_go_on : (minus : Bool) (number : ℕ) → AllByRecursion (λ shape. is_the_sign Semicolon shape ≡ false) (id_shapes minus number)
ids_go_on false number = (refl, tt)
ids_go_on true number = (refl, (refl, tt))

goes_on : (entry : Entry) → AllByRecursion (λ shape. is_the_sign Semicolon shape ≡ false) (in_front entry (map shapes.Text (texts_of entry)))
goes_on entry = (refl, all_append _ (id_shapes (is_minus entry.id) (amount entry.id)) (shapes.Number entry.leaf ∷ map shapes.Text (texts_of entry)) (ids_go_on (is_minus entry.id) (amount entry.id)) (refl, texts_go_on (texts_of entry)))

kind_is : (kind : OsType) → kind.code < 2 ^ 32 → kind_of (be 4 kind.code) ≡ Some kind
unfolding be
kind_is kind fits = ap (λ (x : ℕ). Some (record { code = x })) (from_be_bytes-to_be_bytes_4 kind.code fits)

id_is : (id : ℤ) → id ≡ id_value (is_minus id) (amount id)
unfolding is_minus amount
id_is (pos n) = refl
id_is (negsuc n) = refl

abbrev marked : Mark → Entry → Entry
marked mark entry = record { kind = entry.kind; id = entry.id; leaf = entry.leaf; text = entry.text; mark = mark }

entry_is : (entry : Entry) → IsStored entry → (mark : Mark) (chunk : List Token) → first_mark chunk ≡ Some mark → shapes_in chunk ≡ entry_shapes entry → IsEntry chunk (marked mark entry)
entry_is entry stored mark chunk first are =
    record {
      kind = be 4 entry.kind.code;
      minus = is_minus entry.id;
      number = amount entry.id;
      texts = texts_of entry;
      are = are;
      is_kind = kind_is entry.kind stored.code;
      is_id = id_is entry.id;
      fits = stored.id;
      some = λ none. absurd cc;
      joined = sym (concat_is (texts_of entry) ∙ pieces_join 64 64 entry.text);
      is_mark = first;
    }

mark_of : (chunk : List Token) (shape : Shape) (more : List Shape) → shapes_in chunk ≡ shape ∷ more → (mark : Mark) × (first_mark chunk ≡ Some mark)
mark_of [] shape more are = absurd cc
mark_of (token ∷ chunk) shape more are = (token.mark, refl)

read_again : (entries : List Entry) → AllByRecursion IsStored entries → (read : List Token) → shapes_in read ≡ flat_map entry_shapes entries → AreThese read entries
read_again [] stored read are = record { back = []; are = subst (λ (ts : List Token). AreEntries ts (Ok [])) (sym (none_left read are)) refl; same = refl }
read_again (entry ∷ entries) stored read are =
    let parts = front_and_back read (entry_shapes entry) (flat_map entry_shapes entries) are in
    let others = read_again entries stored.1 parts.back parts.back_is in
    let texts = map shapes.Text (texts_of entry) in
    let mark = mark_of parts.front (shapes.Literal (be 4 entry.kind.code)) (id_shapes (is_minus entry.id) (amount entry.id) ++ shapes.Number entry.leaf ∷ (texts ++ shapes.Sign Semicolon ∷ [])) parts.front_is in
    let one = entry_is entry stored.0 mark.0 parts.front mark.1 parts.front_is in
    let cut = cut_off parts.front parts.back (in_front entry texts) (parts.front_is ∙ front_is entry texts (shapes.Sign Semicolon ∷ [])) (goes_on entry) in
    record {
      back = marked mark.0 entry ∷ others.back;
      are = subst (λ (cs : List (List Token)). EachInOrder IsEntryAnswer cs (Ok (marked mark.0 entry ∷ others.back))) (sym (ap chunks parts.are ∙ cut)) (inl (marked mark.0 entry, one, inl (others.back, others.are, refl)));
      same = ap (λ (es : List Entry). unmarked entry ∷ es) others.same;
    }

-- what is said of lines and pages
pub record Laws : Type 0 where
  pub cut : IsCutBack
  pub lines : (file first : ℕ) (lines : List (List ℕ)) → AllByRecursion StandsOnPage lines → HasLines file (joined first (page lines)) (lines_from file first lines) None
  pub in_front : (lines : List (List Written)) (text : List ℕ) (more : List (List Shape)) → ArePrinted lines → IsPage text more
      → IsPage (lines_text lines ++ text) (map line_shapes lines ++ more)

pub read_back : Laws → (entries : List Entry) → AllByRecursion IsStored entries → AreReadBack entries
read_back law entries stored =
    let lines = flat_map entry_lines entries in
    let page : IsPage (lines_text lines) (map line_shapes lines) =
    subst (λ (x : List ℕ). IsPage x (map line_shapes lines)) (append-nil (lines_text lines))
    (subst (IsPage (lines_text lines ++ [])) (append-nil (map line_shapes lines)) (law.in_front lines [] [] (all_are_printed law.cut entries stored) refl)) in
    record {
      tokens = flat_map (λ (line : List Shape). line) (map line_shapes lines);
      has = has_tokens law.lines (entries_text entries) (map line_shapes lines) page;
      read = λ read are. read_again entries stored read (are ∙ (line_by_line lines ∙ all_tokens entries));
    }
