-- The lines of a statement, by its head, its items and its end.
use Rattle.std.proofs.Common.{◌≡◌, ℕ, suc, ◌+◌, ◌≤◌, ℤ, Bool, true, false, List, [], ◌∷◌, ◌++◌, length, Option, Some, None, map, refl, sym, ap, subst, ◌∙◌, arith, append_assoc}
use Rattle.std.specs.List.{concat}
use Rattle.std.specs.Option.{is_none}
use Rattle.std.specs.Prelude.{codes, nat_le, ◌==◌}
use Rattle.std.proofs.lemmas.Bool.Decides.{nat_tests}
use Rattle.std.proofs.lemmas.List.{append-nil}
use Rattle.rz_core.proofs.Tests.{both, by_test}
use Rattle.rz_types_fields.specs.declared.field.Field.{Field}
use Rattle.rz_types_fields.specs.declared.tree.Tree.{Tree}
use Rattle.rz_types.specs.Field.{plain_body, PlainBody}
use Rattle.rz_types.specs.Shape.{are_shaped, body_depth, deepest_body, is_well_shaped}
use Rattle.rz_show.specs.Head.{head_end, head_lines}
use Rattle.rz_show_lines.specs.Head.{head_front}
use Rattle.rz_show.specs.declared.items.Items.{Items}
use Rattle.rz_show.specs.declared.lines.Part.{Part}
use Rattle.rz_show.specs.declared.lines.Part.TheVariants as parts
use Rattle.rz_show.specs.declared.lines.Rest.{Rest}
use Rattle.rz_show.specs.declared.open_list.OpenList.{OpenList}
use Rattle.rz_show_lines.specs.declared.text.Text.{Text}
use Rattle.rz_show.specs.Height.{heights}
use Rattle.rz_show_lines.specs.Texts.{behind_piece, pending_lines}
use Rattle.rz_show.specs.Lines.{closing, end_if, end_left, hidden_in, is_settled, items_left, left, level, lines_left, named, names_behind, outside, part_behind, part_left, AreItemsReady, AreReady, IsBehindHead, IsOpen, IsSound, IsWithout}
use Rattle.rz_show_lines.specs.Print.{comma, list_lines, margin, no_prints, piece_written, print, text_lines, Prints}
use Rattle.rz_show.specs.Shown.{row_prints, text_print}
use Rattle.rz_show.specs.Statement.{close_lines, data_items, data_lines, statement_lines}
use Rattle.rz_show_lines.specs.Written.{as_line, line_text, lines_text, Written}
use Rattle.rz_show.proofs.RowHeight.{row_low}

-- an empty name is no long one
empty_is_short : (n : ℕ) → (n == 0) ≡ true → nat_le n 64 ≡ true
empty_is_short n is = grind (arith, nat_tests)

pub head_is : (word : List ℕ) (code : ℕ) (id : ℤ) (name : List ℕ) (attr : ℕ) → head_lines word code id name attr ≡ (head_front word code id ++ named name attr) ∷ names_behind name attr
unfolding head_lines
head_is word code id name attr =
    by_test (head_lines word code id name attr ≡ (head_front word code id ++ named name attr) ∷ names_behind name attr) (length name == 0)
    (λ h. let few = empty_is_short (length name) h in rw (h, few) refl)
    (λ h. by_test (head_lines word code id name attr ≡ (head_front word code id ++ named name attr) ∷ names_behind name attr) (nat_le (length name) 64)
    (λ k. rw (h, k) refl)
    (λ k. rw (h, k) refl))

-- what stands after the first line
pub behind_head_is : (rest : Rest) (part : Part) → IsBehindHead rest.facts.now.name part → part_left rest part ≡ names_behind rest.facts.now.name rest.facts.now.attr ++ end_left rest
behind_head_is rest parts.Items is = rw is refl
behind_head_is rest (parts.Name text) is = rw (is.0, is.1, is.2) refl
behind_head_is rest parts.Head is = absurd is
behind_head_is rest parts.Blank is = absurd is
behind_head_is rest parts.Done is = absurd is

-- no items
pub without_left : (hidden : List ℕ → Bool) (list : OpenList) → IsWithout list → left hidden list ≡ no_prints
without_left hidden list is = rw (is.fields, is.rows) refl

-- The line of a name's piece, and what is left after it.
pub name_front : (rest : Rest) (text : Text) (piece : List ℕ) (more : Option Text)
    → text_lines 1 (head_end rest.facts.now.attr) text.hex text.bytes.now
    ≡ (margin 1 ++ piece_written text.hex piece ∷ behind_piece more (head_end rest.facts.now.attr)) ∷ pending_lines 1 (head_end rest.facts.now.attr) more
    → part_left rest (parts.Name text) ≡ (margin 1 ++ piece_written text.hex piece ∷ end_if (is_none more) rest.facts.now.attr) ∷ part_left rest (part_behind more)
name_front rest text piece None is = ap (λ (r : List (List Written)). r ++ end_left rest) is
name_front rest text piece (Some more) is = ap (λ (r : List (List Written)). r ++ end_left rest) is

-- what comes first is no part of what stands after it
pub same_part : (rest : Rest) (first part : Part) → part_left (record rest { part = first }) part ≡ part_left rest part
same_part rest first parts.Head = refl
same_part rest first (parts.Name text) = refl
same_part rest first parts.Items = refl
same_part rest first parts.Blank = refl
same_part rest first parts.Done = refl

-- Whole statements.

pub statement_is : (hidden : List ℕ → Bool) (items : Items) (shown : Prints) (word : List ℕ) (code : ℕ) (id : ℤ) (name : List ℕ) (attr : ℕ) → items_left hidden items ≡ list_lines 1 shown
    → head_lines word code id name attr ++ (items_left hidden items ++ close_lines) ≡ statement_lines word code id name attr shown
unfolding statement_lines
statement_is hidden items shown word code id name attr is = ap (λ (r : List (List Written)). head_lines word code id name attr ++ (r ++ close_lines)) is

pub text_left : (hidden : List ℕ → Bool) (items : Items) (text : Text) → items.text ≡ Some text → left hidden items.list ≡ no_prints → outside items ≡ []
    → items_left hidden items ≡ list_lines 1 (print (text_print text.hex text.bytes.now) no_prints)
text_left hidden items text text-is none outer-is =
    (λ i. pending_lines (level (length (outer-is i))) (comma (none i)) (text-is i) ++ (list_lines (level (length (outer-is i))) (none i) ++ closing hidden (outer-is i)))

pub row_left : (hidden : List ℕ → Bool) (items : Items) (shown : Prints) → items.text ≡ None → left hidden items.list ≡ shown → outside items ≡ [] → items_left hidden items ≡ list_lines 1 shown
row_left hidden items shown text-is is outer-is =
    (λ i. pending_lines (level (length (outer-is i))) (comma (is i)) (text-is i) ++ (list_lines (level (length (outer-is i))) (is i) ++ closing hidden (outer-is i)))
    ∙ append-nil (list_lines 1 shown)

pub ready_first : (hidden : List ℕ → Bool) (items : Items) → outside items ≡ [] → IsOpen items.list → heights (left hidden items.list) ≤ 61 → AreItemsReady hidden items
ready_first hidden items outer-is is low =
    subst (λ (outer : List OpenList). IsOpen items.list × (length outer + heights (left hidden items.list) ≤ 61) × AreReady hidden outer) (sym outer-is) (is, omega (arith, low), tt)

without_open : (list : OpenList) → IsWithout list → IsOpen list
without_open list is = record {
  fields = subst (λ (fields : List Field). IsSound (plain_body fields)) (sym is.fields) (tt, tt, tt);
  row = subst (λ (fields : List Field). IsSound (plain_body fields)) (sym is.row) (tt, tt, tt);
  settled = (λ i. is_settled (plain_body (is.fields i)) (is.rows i));
}

pub ready_without : (hidden : List ℕ → Bool) (items : Items) → outside items ≡ [] → IsWithout items.list → AreItemsReady hidden items
ready_without hidden items outer-is is =
    let low = ap heights (without_left hidden items.list is) in ready_first hidden items outer-is (without_open items.list is) (omega (arith, low))

pub row_fits : (hidden : List ℕ → Bool) (body : PlainBody) (row : List Tree) → is_well_shaped body ≡ true → heights (row_prints hidden body row no_prints) ≤ 61
row_fits hidden body row shaped =
    row_low hidden body row no_prints 61 (deep (body_depth body) (both (are_shaped false body) (nat_le (body_depth body) deepest_body) shaped).1) (omega arith)
  where
    deep : (n : ℕ) → nat_le n 60 ≡ true → suc n ≤ 61
    deep n is = grind (arith, nat_tests)

-- the lines of a `data` statement
pub data_left : (rest : Rest) (text : Text) → rest.part ≡ parts.Head → rest.word.now ≡ codes "data" → text.hex ≡ true → rest.items.text ≡ Some text → IsWithout rest.items.list → outside rest.items ≡ []
    → lines_left rest ≡ data_lines rest.facts.now text.bytes.now
data_left rest text part-is word-is hex-is text-is without outer-is =
    let facts = rest.facts.now in
    ap (part_left rest) part-is
    ∙ ap (λ (word : List ℕ). head_lines word facts.kind.code facts.id facts.name facts.attr ++ end_left rest) word-is
    ∙ statement_is (hidden_in rest) rest.items (data_items text.bytes.now) (codes "data") facts.kind.code facts.id facts.name facts.attr
    (text_left (hidden_in rest) rest.items text text-is (without_left (hidden_in rest) rest.items.list without) outer-is
    ∙ ap (λ (hex : Bool). list_lines 1 (print (text_print hex text.bytes.now) no_prints)) hex-is)

-- the lines of a `resource` statement
pub resource_left : (rest : Rest) (shown : Prints) → rest.part ≡ parts.Head → rest.word.now ≡ codes "resource" → rest.items.text ≡ None → left (hidden_in rest) rest.items.list ≡ shown → outside rest.items ≡ []
    → lines_left rest ≡ statement_lines (codes "resource") rest.facts.now.kind.code rest.facts.now.id rest.facts.now.name rest.facts.now.attr shown
resource_left rest shown part-is word-is text-is left-is outer-is =
    let facts = rest.facts.now in
    ap (part_left rest) part-is
    ∙ ap (λ (word : List ℕ). head_lines word facts.kind.code facts.id facts.name facts.attr ++ end_left rest) word-is
    ∙ statement_is (hidden_in rest) rest.items shown (codes "resource") facts.kind.code facts.id facts.name facts.attr (row_left (hidden_in rest) rest.items shown text-is left-is outer-is)

-- lines one after the other
pub lines_are : (lines : List (List Written)) → concat (map as_line lines) ≡ lines_text lines
lines_are [] = refl
lines_are (line ∷ lines) = append_assoc (line_text line) (10 ∷ []) (concat (map as_line lines)) ∙ ap (λ (r : List ℕ). line_text line ++ 10 ∷ r) (lines_are lines)
