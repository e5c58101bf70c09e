-- Late numbers stand among the bits that are laid, with widths that may be.
use Rattle.std.proofs.Common.{◌≡◌, ℕ, zero, suc, ◌+◌, ◌≤◌, Bool, true, false, ℤ, pos, List, [], ◌∷◌, ◌++◌, length, map, Result, Ok, Err, Option, Some, None, refl, ap, subst, ◌∙◌, arith, rules}
use Rattle.std.specs.List.{AllByRecursion}
use Rattle.std.specs.Prelude.{if◌then◌else◌, nat_abs, nat_lt, replicate}
use Rattle.std.proofs.lemmas.List.{length-append, length-replicate}
use Rattle.rz_core.specs.Stop.{◌>>=◌}
use Rattle.rz_core.specs.declared.facts.Facts.{Facts}
use Rattle.rz_bits.specs.BitBuf.{zeros}
use Rattle.rz_expr.specs.Environment.{Environment}
use Rattle.rz_expr.specs.Term.{Term}
use Rattle.rz_expr.specs.Value.{value_of}
use Rattle.rz_expr.specs.declared.value.EvalFault.{EvalFault}
use Rattle.rz_layout.specs.Laid.{IsWithin}
use Rattle.rz_layout.specs.Sound.{AreSound, IsCaseSound, IsSound, IsWidth}
use Rattle.rz_types_fields.specs.declared.field.NumForm.{NumForm}
use Rattle.rz_types_fields.specs.declared.tree.Tree.{Tree}
use Rattle.rz_types_fields.specs.Field.{case_and, field_and, no_cases, no_fields, takes_value, Align, Array, Fill, Label, Number, PlainBody, PlainCases, PlainField, Points, Switch, Text}
use Rattle.rz_types_fields.specs.Laid.{array_laid, body_laid, case_laid, closing, draft_sight, enter, field_laid, first_value, fixed_form, grown, in_order, late_at, later, lay, line_in, met_in, nothing_laid, now, number_form, other_values, piece_form, ranged, reads_late, row_ended, row_laid, rows_in, rows_laid, takes_one, text_laid, too_long, value_refusal, with_form, with_room, AllRows, Draft, Ended, Form, LateNumber, Refusal}
use Rattle.rz_types_fields.specs.RowLabels.{row_of, RowOf}
use Rattle.rz_layout.proofs.EachRow.{array_parts, row_parts, rows_parts}
use Rattle.rz_core.specs.declared.resource.Word.{Word}
use Rattle.rz_types_fields.specs.Piece.{fixed_integer, free_integer, integers, pieces_of, Filler, OneNumber, OneText, Piece, Place, Zeros}
use Rattle.rz_types_fields.specs.Sees.{names_later}
use Rattle.rz_types_fields.specs.Shape.{numbers_of}
use Rattle.rz_types_fields.specs.Spells.{is_case, most_bits, values_for}

-- steps

then_ok : {X Y : Type 0} (r : Result X Refusal) (next : X → Result Y Refusal) (y : Y) → (r >>= next) ≡ Ok y → (x : X) × ((r ≡ Ok x) × (next x ≡ Ok y))
then_ok (Ok x) next y is = (x, (refl, is))
then_ok (Err fault) next y is = absurd cc

abbrev fine : {X : Type 0} → X → Result X Refusal
fine x = Ok x

same_ok : {X : Type 0} (x y : X) → fine x ≡ fine y → x ≡ y
same_ok x y is = cc

no_ok : {X : Type 0} (fault : Refusal) (y : X) → Err fault ≡ Ok y → ⊥
no_ok fault y is = cc

-- late numbers among more bits

within_more : (n m : ℕ) → n ≤ m → (numbers : List LateNumber) → AllByRecursion (IsWithin n) numbers → AllByRecursion (IsWithin m) numbers
within_more n m more [] are = tt
within_more n m more (one ∷ numbers) are = (record { width = are.0.width; stands = let it = are.0.stands in omega (arith, it, more) }, within_more n m more numbers are.1)

within_both : (n : ℕ) (one other : List LateNumber) → AllByRecursion (IsWithin n) one → AllByRecursion (IsWithin n) other → AllByRecursion (IsWithin n) (one ++ other)
within_both n [] other are more = more
within_both n (number ∷ one) other are more = (are.0, within_both n one other are.1 more)

within_closing : (n : ℕ) (which : Option RowOf) (body : PlainBody) (names : Environment) (numbers : List LateNumber) → AllByRecursion (IsWithin n) numbers
    → AllByRecursion (IsWithin n) (map (closing which body names) numbers)
within_closing n which body names [] are = tt
within_closing n which body names (one ∷ numbers) are = (record { width = are.0.width; stands = are.0.stands }, within_closing n which body names numbers are.1)

record Keeps (draft next : Draft) : Type 0 where
  more : length draft.bits ≤ length next.bits
  within : AllByRecursion (IsWithin (length draft.bits)) draft.numbers → AllByRecursion (IsWithin (length next.bits)) next.numbers

keeps_itself : (draft next : Draft) → draft ≡ next → Keeps draft next
keeps_itself draft next is = subst (Keeps draft) is (record { more = omega arith; within = λ are. are })

keeps_both : (one mid other : Draft) → Keeps one mid → Keeps mid other → Keeps one other
keeps_both one mid other first second = record {
  more = (let a = first.more in let b = second.more in omega (arith, a, b));
  within = λ are. second.within (first.within are);
}

-- pieces

abbrev IsPieceSound : Piece → Type 0
IsPieceSound (OneNumber number) = IsWidth number.width
IsPieceSound piece = Unit {0}

abbrev IsFormSound : Form → Type 0
IsFormSound (now bits) = Unit {0}
IsFormSound (later form width term) = IsWidth width

now_sound : (bits : List Bool) (form : Form) → fine (now bits) ≡ fine form → IsFormSound form
now_sound bits form is = subst IsFormSound (same_ok (now bits) form is) tt

later_sound : (kind : NumForm) (width : ℤ) (term : Term) (form : Form) → IsWidth width → fine (later kind width term) ≡ fine form → IsFormSound form
later_sound kind width term form may is = subst IsFormSound (same_ok (later kind width term) form is) may

fixed_sound : (draft : Draft) (kind : NumForm) (width : ℤ) (term : Term) (form : Form) → IsWidth width → (value : Result ℤ EvalFault)
    → fixed_form draft kind width term value ≡ Ok form → IsFormSound form
fixed_sound draft kind width term form may (Ok value) is =
    let step = then_ok (ranged draft.piece kind width value) (λ bits. Ok (now bits)) form is in now_sound step.0 form step.1.1
fixed_sound draft kind width term form may (Err fault) is = by (reads_late (length draft.bits) fault) is
  where
    by : (test : Bool) → (if test then Ok (later kind width term) else Err (value_refusal draft.piece fault)) ≡ Ok form → IsFormSound form
    by true so = later_sound kind width term form may so
    by false so = absurd (no_ok (value_refusal draft.piece fault) form so)

number_sound : (facts : Facts) (draft : Draft) (kind : NumForm) (width : ℤ) (fixed : Option Term) (value : Option Tree) (form : Form) → IsWidth width
    → number_form facts draft kind width fixed value ≡ Ok form → IsFormSound form
number_sound facts draft kind width None value form may is = now_sound _ form is
number_sound facts draft kind width (Some term) value form may is = by (names_later (met_in draft.known) term) is
  where
    by : (test : Bool) → (if test then Ok (later kind width term) else fixed_form draft kind width term (value_of term (draft_sight facts draft))) ≡ Ok form → IsFormSound form
    by true so = later_sound kind width term form may so
    by false so = fixed_sound draft kind width term form may (value_of term (draft_sight facts draft)) so

form_sound : (facts : Facts) (draft : Draft) (piece : Piece) (value : Option Tree) (form : Form) → IsPieceSound piece → piece_form facts draft piece value ≡ Ok form → IsFormSound form
form_sound facts draft (OneNumber number) value form may is = number_sound facts draft number.form number.width number.fixed value form may is
form_sound facts draft (OneText text) value form may is =
    let step = then_ok (text_laid facts draft text value) (λ bits. Ok (now bits)) form is in now_sound step.0 form step.1.1
form_sound facts draft (Zeros count) value form may is = now_sound _ form is
form_sound facts draft (Filler unit) value form may is = now_sound _ form is
form_sound facts draft (Place name) value form may is = now_sound _ form is

room_kept : (draft : Draft) (count : ℕ) (next after : Draft) → with_room draft count next ≡ Ok after → next ≡ after
room_kept draft count next after is = by (nat_lt most_bits (length draft.bits + count)) is
  where
    by : (test : Bool) → (if test then Err (too_long draft (length draft.bits + count)) else Ok next) ≡ Ok after → next ≡ after
    by true so = absurd (no_ok (too_long draft (length draft.bits + count)) after so)
    by false so = same_ok next after so

form_keeps : (draft : Draft) (piece : Piece) (form : Form) (next : Draft) → IsFormSound form → with_form draft piece form ≡ Ok next → Keeps draft next
form_keeps draft piece (now bits) next may is =
    subst (Keeps draft) (room_kept draft (length bits) (grown piece draft bits false []) next is) (record {
      more = (let sum = length-append draft.bits bits in omega (arith, sum));
      within = λ are. within_both (length (draft.bits ++ bits)) draft.numbers []
          (within_more (length draft.bits) (length (draft.bits ++ bits)) (let sum = length-append draft.bits bits in omega (arith, sum)) draft.numbers are) tt;
    })
form_keeps draft piece (later kind width term) next may is =
    let own = zeros (nat_abs width) in
    let sum : length (draft.bits ++ own) ≡ length draft.bits + nat_abs width =
    length-append draft.bits own ∙ ap (λ (n : ℕ). length draft.bits + n) (length-replicate (nat_abs width) false) in
    subst (Keeps draft) (room_kept draft (nat_abs width) (grown piece draft own true (late_at draft kind width term ∷ [])) next is) (record {
      more = omega (arith, sum);
      within = λ are. within_both (length (draft.bits ++ own)) draft.numbers (late_at draft kind width term ∷ [])
          (within_more (length draft.bits) (length (draft.bits ++ own)) (omega (arith, sum)) draft.numbers are)
          (record { width = may; stands = omega (arith, sum) }, tt);
    })

piece_keeps : (facts : Facts) (draft : Draft) (piece : Piece) (value : Option Tree) (next : Draft) → IsPieceSound piece → lay facts draft piece value ≡ Ok next → Keeps draft next
piece_keeps facts draft piece value next may is =
    let step = then_ok (piece_form facts draft piece value) (with_form draft piece) next is in
    form_keeps draft piece step.0 next (form_sound facts draft piece value step.0 may step.1.0) step.1.1

pieces_keep : (facts : Facts) (pieces : List Piece) → AllByRecursion IsPieceSound pieces → (draft : Draft) (values : List Tree) (next : Draft)
    → in_order takes_one (lay facts) draft pieces values ≡ Ok next → Keeps draft next
pieces_keep facts [] may draft values next is = keeps_itself draft next (same_ok draft next is)
pieces_keep facts (piece ∷ pieces) may draft values next is =
    let value = first_value (takes_one piece) values in
    let others = other_values (takes_one piece) values in
    let step = then_ok (lay facts draft piece value) (λ mid. in_order takes_one (lay facts) mid pieces others) next is in
    keeps_both draft step.0 next (piece_keeps facts draft piece value step.0 may.0 step.1.0) (pieces_keep facts pieces may.1 step.0 others next step.1.1)

sixteen : IsWidth (pos 16)
sixteen = search rules

frees_sound : (count : ℕ) → AllByRecursion IsPieceSound (replicate count free_integer)
frees_sound zero = tt
frees_sound (suc count) = (sixteen, frees_sound count)

fixed_sounds : (terms : List Term) → AllByRecursion IsPieceSound (map fixed_integer terms)
fixed_sounds [] = tt
fixed_sounds (term ∷ terms) = (sixteen, fixed_sounds terms)

points_sound : (rect : Bool) (fixed : Option (List Term)) → AllByRecursion IsPieceSound (integers rect fixed)
points_sound rect None = frees_sound (numbers_of rect)
points_sound rect (Some terms) = fixed_sounds terms

-- fields, rows, cases and bodies

abbrev BodyKeeps : Facts → PlainBody → Type 0
BodyKeeps facts body = (draft : Draft) (values : List Tree) (next : Draft) → AreSound body values → body_laid facts draft body values ≡ Ok next → Keeps draft next

ended_keeps : (facts : Facts) (which : Option RowOf) (row : PlainBody) → BodyKeeps facts row → (draft : Draft) (line : List Tree) (one : Ended) → AreSound row line
    → row_ended facts which row draft line ≡ Ok one → Keeps draft one.draft
ended_keeps facts which row each draft line one sound is =
    let it = row_parts facts which row draft line one is in
    let kept = each (enter which row line draft) line it.inner sound it.is in
    subst (λ (e : Ended). Keeps draft e.draft) it.ended (record {
      more = kept.more;
      within = λ are. within_both (length it.inner.bits) draft.numbers (map (closing which row it.inner.known) it.inner.numbers)
          (within_more (length draft.bits) (length it.inner.bits) kept.more draft.numbers are)
          (within_closing (length it.inner.bits) which row it.inner.known it.inner.numbers (kept.within tt));
    })

inside_keeps : (facts : Facts) (which : Option RowOf) (row : PlainBody) → BodyKeeps facts row → (draft : Draft) (line : List Tree) (next : Draft) → AreSound row line
    → row_laid facts which row draft line ≡ Ok next → Keeps draft next
inside_keeps facts which row each draft line next sound is =
    let step = then_ok (row_ended facts which row draft line) (λ one. Ok one.draft) next is in
    subst (Keeps draft) (same_ok step.0.draft next step.1.1) (ended_keeps facts which row each draft line step.0 sound step.1.0)

abbrev row_at : Facts → Option Word → PlainBody → ℕ → Draft → List Tree → Result Ended Refusal
row_at facts name row number draft line = row_ended facts (row_of name number) row draft line

rows_keep : (facts : Facts) (name : Option Word) (row : PlainBody) → BodyKeeps facts row → (rows : List (List Tree)) (number : ℕ) (draft : Draft) (all : AllRows) → AllByRecursion (AreSound row) rows
    → rows_laid (row_at facts name row) number draft rows ≡ Ok all → Keeps draft all.draft
rows_keep facts name row each [] number draft all sound is = keeps_itself draft all.draft (ap (λ (rows : AllRows). rows.draft) (same_ok (record { draft = draft; ends = [] }) all is))
rows_keep facts name row each (line ∷ rows) number draft all sound is =
    let it = rows_parts (row_at facts name row) number draft line rows all is in
    subst (λ (all : AllRows). Keeps draft all.draft) it.whole
    (keeps_both draft it.one.draft it.others.draft (ended_keeps facts (row_of name number) row each draft line it.one sound.0 it.first)
    (rows_keep facts name row each rows (number + 1) it.one.draft it.others sound.1 it.more))

array_keeps : (facts : Facts) (name : Option Word) (row : PlainBody) → BodyKeeps facts row → (rows : List (List Tree)) → AllByRecursion (AreSound row) rows → (draft next : Draft)
    → array_laid (row_at facts name row) row rows draft ≡ Ok next → Keeps draft next
array_keeps facts name row each rows sound draft next is =
    let it = array_parts (row_at facts name row) row rows draft next is in
    let kept = rows_keep facts name row each rows 1 draft it.rows sound it.is in
    subst (Keeps draft) it.behind (record { more = kept.more; within = kept.within })

either_keeps : (test : Bool) (this other : Result Draft Refusal) (draft next : Draft) → (test ≡ true → this ≡ Ok next → Keeps draft next) → (other ≡ Ok next → Keeps draft next)
    → (if test then this else other) ≡ Ok next → Keeps draft next
either_keeps true this other draft next one more is = one refl is
either_keeps false this other draft next one more is = more is

mutual
  field_keeps : (facts : Facts) (field : PlainField) (draft : Draft) (value : Option Tree) (next : Draft) → IsSound field value → field_laid facts draft field value ≡ Ok next → Keeps draft next
  field_keeps facts (Number number) draft value next sound is = pieces_keep facts (pieces_of (Number number)) (sound, tt) draft (values_for (Number number) value) next is
  field_keeps facts (Text text) draft value next sound is = pieces_keep facts (pieces_of (Text text)) (tt, tt) draft (values_for (Text text) value) next is
  field_keeps facts (Points points) draft value next sound is =
      pieces_keep facts (pieces_of (Points points)) (points_sound points.rect points.fixed) draft (values_for (Points points) value) next is
  field_keeps facts (Fill unit count) draft value next sound is = pieces_keep facts (pieces_of (Fill unit count)) (tt, tt) draft (values_for (Fill unit count) value) next is
  field_keeps facts (Align unit) draft value next sound is = pieces_keep facts (pieces_of (Align unit)) (tt, tt) draft (values_for (Align unit) value) next is
  field_keeps facts (Label name) draft value next sound is = pieces_keep facts (pieces_of (Label name)) (tt, tt) draft (values_for (Label name) value) next is
  field_keeps facts (Array name count row) draft value next sound is =
      array_keeps facts name row (body_keeps facts row) (rows_in value) sound draft next is
  field_keeps facts (Switch cases) draft value next sound is = cases_keep facts cases draft value next sound.1 is

  cases_keep : (facts : Facts) (cases : PlainCases) (draft : Draft) (value : Option Tree) (next : Draft) → IsCaseSound cases value → case_laid facts draft cases value ≡ Ok next → Keeps draft next
  cases_keep facts no_cases draft value next sound is = keeps_itself draft next (same_ok draft next is)
  cases_keep facts (case_and name row others) draft value next sound is =
      either_keeps (is_case name value) (row_laid facts None row draft (line_in value)) (case_laid facts draft others value) draft next
      (λ chosen. inside_keeps facts None row (body_keeps facts row) draft (line_in value) next (sound.0 chosen))
      (cases_keep facts others draft value next sound.1) is

  body_keeps : (facts : Facts) (body : PlainBody) → BodyKeeps facts body
  body_keeps facts no_fields draft values next sound is = keeps_itself draft next (same_ok draft next is)
  body_keeps facts (field_and field fields) draft values next sound is =
      let value = first_value (takes_value field) values in
      let others = other_values (takes_value field) values in
      let step = then_ok (field_laid facts draft field value) (λ mid. body_laid facts mid fields others) next is in
      keeps_both draft step.0 next (field_keeps facts field draft value step.0 sound.0 step.1.0) (body_keeps facts fields step.0 others next sound.1 step.1.1)

pub all_within : (facts : Facts) (body : PlainBody) (row : List Tree) (draft : Draft) → AreSound body row → row_laid facts None body nothing_laid row ≡ Ok draft
    → AllByRecursion (IsWithin (length draft.bits)) draft.numbers
all_within facts body row draft sound is = (inside_keeps facts None body (body_keeps facts body) nothing_laid row draft sound is).within tt
