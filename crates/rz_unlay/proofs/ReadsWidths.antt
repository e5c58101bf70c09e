-- How wide fields are where they are spelled: at least so wide, and just so wide where their width is fixed.
use Rattle.std.proofs.Common.{◌≡◌, ℕ, zero, suc, ◌+◌, ◌*◌, ◌≤◌, ◌==◌, ℤ, pos, Bool, true, false, ◌&&◌, List, [], ◌∷◌, length, map, Option, Some, None, Result, Ok, Err, refl, sym, ap, ◌∙◌, subst, arith}
use Rattle.std.specs.Prelude.{if◌then◌else◌, min, nat_abs, option_map, replicate}
use Rattle.std.specs.List.{list_all}
use Rattle.std.specs.Option.{is_some, unwrap_or}
use Rattle.std.specs.Result.{result_ok}
use Rattle.std.specs.Str.{str_to_ascii_lowercase}
use Rattle.std.proofs.lemmas.Bool.Decides.{nat_tests}
use Rattle.std.proofs.lemmas.List.{length-append}
use Rattle.rz_core.specs.Stop.{◌>>=◌}
use Rattle.rz_core.specs.declared.facts.Facts.{Facts}
use Rattle.rz_expr.specs.Constant.{constant_of, constant_sight, is_constant}
use Rattle.rz_expr.proofs.Cases.{same_value}
use Rattle.rz_expr.specs.Environment.{predefined, Environment, Sight}
use Rattle.rz_expr.proofs.Items.{all_two}
use Rattle.rz_expr.specs.Mention.{alone, is_true_or_false, mentions}
use Rattle.rz_expr.specs.Term.{BitsAt, Constant, FactOf, Indexed, Named, OfOne, OfTwo, RowNumber, RowsOf, Term}
use Rattle.rz_expr.specs.Value.{known_value, operate, operate_one, value_of}
use Rattle.rz_expr.specs.declared.value.EvalFault.{EvalFault}
use Rattle.rz_types_fields.specs.declared.field.NumForm.{NumForm}
use Rattle.rz_types_fields.specs.declared.field.NumForm.TheVariants as forms
use Rattle.rz_types_fields.specs.declared.field.TextForm.{TextForm}
use Rattle.rz_types_fields.specs.declared.field.TextForm.TheVariants as texts
use Rattle.rz_types_fields.specs.declared.tree.Tree.{Tree}
use Rattle.rz_types_fields.specs.Row.{By, IsStated}
use Rattle.rz_types_fields.specs.RowLabels.{row_of}
use Rattle.rz_types_fields.specs.Spells.{is_case, plainly, values_for, BodySpells, CaseSpells, FieldSpells, InOrder, IsNumber, IsSize, PieceSpells, RowSpells, RowsSpell}
use Rattle.rz_types.specs.Field.{case_and, field_and, no_cases, no_fields, Align, Array, Fill, Label, Number, PlainBody, PlainCases, PlainField, Points, Switch, Text}
use Rattle.rz_types.specs.Readable.{least_case, least_of, least_rows, least_text, least_width, least_widths}
use Rattle.rz_types.specs.Shape.{are_cases_shaped, are_fixed_points, are_shaped, is_none_or, is_own_name, is_shaped, numbers_of}
use Rattle.rz_types.specs.Passed.{at_field, at_front, behind, behind_piece, Passed}
use Rattle.rz_types.specs.Piece.{fixed_integer, free_integer, integers, Filler, OneNumber, OneText, Place, Zeros}
use Rattle.rz_types.specs.Stored.{before_zero, stored_text, to_size}
use Rattle.rz_types.specs.Sees.{bits_before, sees}
use Rattle.rz_types.specs.Value.{see}
use Rattle.rz_types.specs.Width.{constant_size, fixed_width, fixed_widths, plus, rows_width, sized_bytes, text_width}
use Rattle.rz_unlay.proofs.Ahead.{HasPlaces}
use Rattle.rz_unlay.proofs.OnePiece.{single}
use Rattle.rz_unlay.proofs.ReadsBits.{length_bits, length_number, length_zeros}
use Rattle.rz_unlay.proofs.ReadsNames.{places_inside}
use Rattle.rz_unlay.proofs.ReadsTests.{both_true, some_is}
use Rattle.rz_unlay.proofs.ReadsText.{length_with_size}

-- Constants have the same value everywhere.

value_there : (o : Option ℤ) → is_some o ≡ true → (v : ℤ) × (o ≡ Some v)
value_there None is = absurd cc
value_there (Some v) is = (v, refl)

module _ (facts : Facts) (bits : ℤ → ℤ → Option ℤ) (env : Environment) (has : HasPlaces env) where
  same_constant : (term : Term) → is_constant term ≡ true → value_of term constant_sight ≡ value_of term (see facts bits env)
  same_constant (Constant number) is = refl
  same_constant (Named name) is =
      let there = value_there (predefined (str_to_ascii_lowercase name)) (sym (ap is_some (same_value name)) ∙ (both_true (is_true_or_false (alone name)) true is).0) in
      ap (known_value name) (there.1 ∙ sym (has (str_to_ascii_lowercase name) there.0 there.1))
  same_constant (Indexed name index) is = absurd cc
  same_constant (RowsOf name) is = absurd cc
  same_constant (RowNumber name) is = absurd cc
  same_constant (BitsAt name start width) is = absurd cc
  same_constant (FactOf which) is = absurd cc
  same_constant (OfOne op operand) is = λ i. same_constant operand is i >>= λ value. Ok (operate_one op value)
  same_constant (OfTwo op left right) is =
      let each = all_two is_true_or_false (mentions left) (mentions right) is in
      λ i. same_constant left each.0 i >>= λ one. same_constant right each.1 i >>= λ other. operate op one other

  ok_is : (r : Result ℤ EvalFault) (c : ℤ) → result_ok r ≡ Some c → r ≡ Ok c
  ok_is (Ok v) c is = ap (λ (x : ℤ). Ok x) (let same : v ≡ c = cc in same)
  ok_is (Err fault) c is = absurd cc

  pub constant_value : (term : Term) (c : ℤ) → constant_of term ≡ Some c → value_of term (see facts bits env) ≡ Ok c
  constant_value term c is = by (is_constant term) refl is
    where
      by : (test : Bool) → is_constant term ≡ test → (if test then result_ok (value_of term constant_sight) else None) ≡ Some c → value_of term (see facts bits env) ≡ Ok c
      by true constant is = sym (same_constant term constant) ∙ ok_is (value_of term constant_sight) c is
      by false constant is = absurd cc

-- Widths.

pub record Wide (least : ℕ) (fixed : Option ℕ) (at after : ℕ) : Type 0 where
  pub grows : at + least ≤ after
  pub is : (width : ℕ) → fixed ≡ Some width → after ≡ at + width

just_so : (width at after : ℕ) → after ≡ at + width → Wide width (Some width) at after
just_so width at after ends = record {
  grows = omega (arith, ends);
  is = λ other is. ends ∙ ap (λ (n : ℕ). at + n) (some_is width other is);
}

not_fixed : (least at after : ℕ) → at + least ≤ after → Wide least None at after
not_fixed least at after grows = record { grows = grows; is = λ width is. absurd (none width is) }
  where
    none : (width : ℕ) → ◌≡◌ {A = Option ℕ} None (Some width) → ⊥
    none width is = cc is

-- Pieces.

number_long : (sight : Sight) (passed : Passed) (form : NumForm) (width : ℤ) (fixed : Option Term) (value : Option Tree) (bits : List Bool)
    → IsNumber form width fixed sight value bits → length bits ≡ nat_abs width
number_long sight passed form width None value bits it = ap length it.3 ∙ length_number (nat_abs width) it.0
number_long sight passed form width (Some term) value bits it = ap length it.4 ∙ length_number (nat_abs width) _

least_length : (form : TextForm) (size : Option ℕ) (bytes : List ℕ) → least_text form ≤ 8 * length (stored_text form size bytes)
least_length texts.Open size bytes = omega (arith)
least_length texts.Pascal size bytes = omega (arith)
least_length texts.WordLong size bytes = omega (arith)
least_length texts.Zero size bytes = let it = length-append (to_size (before_zero size) bytes) (0 ∷ []) in omega (arith, it)

text_wide : (facts : Facts) (seen : ℤ → ℤ → Option ℤ) (env : Environment) → HasPlaces env → (form : TextForm) (term : Option Term) (size : Option ℕ) (bytes : List ℕ) (at after : ℕ)
    → IsSize form (see facts seen env) term size → after ≡ at + 8 * length (stored_text form size bytes)
    → Wide (unwrap_or (text_width form term) (least_text form)) (text_width form term) at after
text_wide facts seen env has form None size bytes at after sized ends =
    not_fixed (least_text form) at after (let least = least_length form size bytes in omega (arith, least, ends))
text_wide facts seen env has form (Some term) size bytes at after (n, valued, may, is) ends = by (constant_of term) refl
  where
    number : (c : ℤ) → ◌≡◌ {A = Result ℤ EvalFault} (Ok c) (Ok (pos n)) → c ≡ pos n
    number c same = cc

    long : length (stored_text form size bytes) ≡ sized_bytes form n
    long = ap (λ (o : Option ℕ). length (stored_text form o bytes)) is ∙ length_with_size form n bytes

    by : (o : Option ℤ) → constant_of term ≡ o → Wide (unwrap_or (constant_size form o) (least_text form)) (constant_size form o) at after
    by None constant = not_fixed (least_text form) at after (let least = least_length form size bytes in omega (arith, least, ends))
    by (Some c) constant =
        just_so (8 * sized_bytes form (nat_abs c)) at after
        (ends ∙ ap (λ (l : ℕ). at + 8 * l) long
        ∙ ap (λ (z : ℤ). at + 8 * sized_bytes form (nat_abs z)) (sym (number c (sym (constant_value facts seen env has term c constant) ∙ valued))))

module _ (known : Facts) (all : List Bool) (env : Environment) where
  free_long : (count : ℕ) (passed : Passed) (values : List Tree) (at : ℕ) (late : List Bool) (after : ℕ) (late_after : List Bool)
      → InOrder (PieceSpells plainly known all env) passed (replicate count free_integer) values at late after late_after → after ≡ at + 16 * count
  free_long zero passed values at late after late_after it = let e = it.1 in omega (arith, e)
  free_long (suc count) passed values at late after late_after it =
      let one = it.5 in
      let long = number_long (sees known all env at) passed forms.Integer (pos 16) None it.0 one.bits one.stored in
      let rest = free_long count (behind_piece free_integer passed) it.1 it.2 it.3 after late_after it.6 in
      let ends = one.ends in
      omega (arith, long, rest, ends)

  fixed_long : (terms : List Term) (passed : Passed) (values : List Tree) (at : ℕ) (late : List Bool) (after : ℕ) (late_after : List Bool)
      → InOrder (PieceSpells plainly known all env) passed (map fixed_integer terms) values at late after late_after → after ≡ at + 16 * length terms
  fixed_long [] passed values at late after late_after it = let e = it.1 in omega (arith, e)
  fixed_long (term ∷ terms) passed values at late after late_after it =
      let one = it.5 in
      let long = number_long (sees known all env at) passed forms.Integer (pos 16) (Some term) it.0 one.bits one.stored in
      let rest = fixed_long terms (behind_piece (fixed_integer term) passed) it.1 it.2 it.3 after late_after it.6 in
      let ends = one.ends in
      omega (arith, long, rest, ends)

  points_long : (rect : Bool) (fixed : Option (List Term)) (passed : Passed) (values : List Tree) (at : ℕ) (late : List Bool) (after : ℕ) (late_after : List Bool)
      → is_none_or (are_fixed_points rect) fixed ≡ true → InOrder (PieceSpells plainly known all env) passed (integers rect fixed) values at late after late_after
      → after ≡ at + 16 * numbers_of rect
  points_long rect None passed values at late after late_after shaped it = free_long (numbers_of rect) passed values at late after late_after it
  points_long rect (Some terms) passed values at late after late_after shaped it =
      let test = both_true (length terms == numbers_of rect) (list_all _ terms) shaped in
      let number : length terms ≡ numbers_of rect = same (length terms) (numbers_of rect) test.0 in
      fixed_long terms passed values at late after late_after it ∙ ap (λ (n : ℕ). at + 16 * n) number
    where
      same : (a b : ℕ) → (a == b) ≡ true → a ≡ b
      same a b is = grind (arith, nat_tests)

-- Rows.

pub rows_wide : (Row : ℕ → List Tree → RowSpells) (least : ℕ) (fixed : Option ℕ)
    → ((number : ℕ) (line : List Tree) (at : ℕ) (late : List Bool) (after : ℕ) (late_after : List Bool) → Row number line at late after late_after → Wide least fixed at after)
    → (number : ℕ) (rows : List (List Tree)) (at : ℕ) (late : List Bool) (after : ℕ) (late_after : List Bool) → RowsSpell Row number rows at late after late_after
    → (at + length rows * least ≤ after) × ((width : ℕ) → fixed ≡ Some width → after ≡ at + length rows * width)
rows_wide Row least fixed one number [] at late after late_after it = let e = it.0 in (omega (arith, e), λ width is. omega (arith, e))
rows_wide Row least fixed one number (row ∷ rows) at late after late_after it =
    let first = one number row at late it.0 it.1 it.2 in
    let rest = rows_wide Row least fixed one (number + 1) rows it.0 it.1 after late_after it.3 in
    let grows = first.grows in
    let more = rest.0 in (
      omega (arith, grows, more),
      λ width is. (let a = first.is width is in let b = rest.1 width is in omega (arith, a, b)),
    )

array_wide : (count : Option ℤ) (rows least : ℕ) (fixed : Option ℕ) (at after : ℕ) → IsStated count rows → at + rows * least ≤ after → ((width : ℕ) → fixed ≡ Some width → after ≡ at + rows * width)
    → Wide (least_rows count least) (rows_width count fixed) at after
array_wide None rows least fixed at after stated grows is = not_fixed 0 at after (omega (arith, grows))
array_wide (Some count) rows least fixed at after stated grows is =
    let number : nat_abs count ≡ rows = ap nat_abs stated in
    record {
      grows = subst (λ (n : ℕ). at + n * least ≤ after) (sym number) grows;
      is = λ width so. by fixed is width so number;
    }
  where
    by : (o : Option ℕ) → ((width : ℕ) → o ≡ Some width → after ≡ at + rows * width) → (width : ℕ) → option_map (λ bits. nat_abs count * bits) o ≡ Some width → nat_abs count ≡ rows → after ≡ at + width
    by None each width so number = absurd cc
    by (Some bits) each width so number = each bits refl ∙ ap (λ (n : ℕ). at + n * bits) (sym number) ∙ ap (λ (n : ℕ). at + n) (some_is (nat_abs count * bits) width so)

both_wide : (one other : ℕ) (fixed more : Option ℕ) (at mid after : ℕ) → Wide one fixed at mid → Wide other more mid after → Wide (one + other) (plus fixed more) at after
both_wide one other fixed more at mid after first rest =
    let a = first.grows in
    let b = rest.grows in
    record { grows = omega (arith, a, b); is = by fixed more first.is rest.is }
  where
    by : (o m : Option ℕ) → ((width : ℕ) → o ≡ Some width → mid ≡ at + width) → ((width : ℕ) → m ≡ Some width → after ≡ mid + width) → (width : ℕ) → plus o m ≡ Some width → after ≡ at + width
    by None m one other width is = absurd cc
    by (Some x) None one other width is = absurd cc
    by (Some x) (Some y) one other width is =
        let a = one x refl in let b = other y refl in let c = some_is (x + y) width is in omega (arith, a, b, c)

pub by_choice : (P This Other : Type 0) → (This → P) → (Other → P) → (test : Bool) → By test This Other → P
by_choice P This Other this other true it = this it
by_choice P This Other this other false it = other it

-- the least case is no wider than the one that is chosen
abbrev LeastAt : PlainCases → ℕ → ℕ → Type 0
LeastAt cases at after = (least : ℕ) × (least_case cases ≡ Some least) × (at + least ≤ after)

case_least : (o : Option ℕ) (least : ℕ) (at after : ℕ) → o ≡ Some least → at + least ≤ after → at + unwrap_or o 0 ≤ after
case_least o least at after is grows = subst (λ (o : Option ℕ). at + unwrap_or o 0 ≤ after) (sym is) grows

least_own : (least : ℕ) (o : Option ℕ) (at after : ℕ) → at + least ≤ after → (l : ℕ) × (Some (least_of least o) ≡ Some l) × (at + l ≤ after)
least_own least None at after grows = (least, refl, grows)
least_own least (Some other) at after grows = (min least other, refl, omega (arith, grows))

least_other : (least : ℕ) (o : Option ℕ) (other : ℕ) (at after : ℕ) → o ≡ Some other → at + other ≤ after → (l : ℕ) × (Some (least_of least o) ≡ Some l) × (at + l ≤ after)
least_other least o other at after is grows = (min least other, ap (λ (o : Option ℕ). Some (least_of least o)) is, omega (arith, grows))

module _ (known : Facts) (all : List Bool) where
  mutual
    pub field_wide : (in_case : Bool) (field : PlainField) (env : Environment) (passed : Passed) (value : Option Tree) (at : ℕ) (late : List Bool) (after : ℕ) (late_after : List Bool)
        → is_shaped in_case field ≡ true → HasPlaces env → FieldSpells plainly known all field env passed value at late after late_after → Wide (least_width field) (fixed_width field) at after
    field_wide in_case (Number number) env passed value at late after late_after shaped has it =
        let one = single known all env passed (OneNumber number) (values_for (Number number) value) at late after late_after it.1 in
        just_so (nat_abs number.width) at after
        (one.spelled.ends ∙ ap (λ (n : ℕ). at + n) (number_long (sees known all env at) passed number.form number.width number.fixed one.value one.spelled.bits one.spelled.stored))
    field_wide in_case (Text text) env passed value at late after late_after shaped has it =
        let one = single known all env passed (OneText text) (values_for (Text text) value) at late after late_after it.1 in
        let stored = one.spelled.stored in
        text_wide known (bits_before all at) env has text.form text.size stored.size stored.bytes at after stored.has_size
        (one.spelled.ends ∙ ap (λ (n : ℕ). at + n) (ap length stored.are_bits ∙ length_bits (stored_text text.form stored.size stored.bytes)))
    field_wide in_case (Points points) env passed value at late after late_after shaped has it =
        just_so (16 * numbers_of points.rect) at after
        (points_long known all env points.rect points.fixed passed (values_for (Points points) value) at late after late_after shaped it.1)
    field_wide in_case (Fill unit count) env passed value at late after late_after shaped has it =
        let one = single known all env passed (Zeros (unit * nat_abs count)) (values_for (Fill unit count) value) at late after late_after it.1 in
        just_so (unit * nat_abs count) at after
        (one.spelled.ends ∙ ap (λ (n : ℕ). at + n) (ap length one.spelled.stored.1 ∙ length_zeros (unit * nat_abs count)))
    field_wide in_case (Align unit) env passed value at late after late_after shaped has it =
        let one = single known all env passed (Filler unit) (values_for (Align unit) value) at late after late_after it.1 in
        let ends = one.spelled.ends in
        not_fixed 0 at after (omega (arith, ends))
    field_wide in_case (Label name) env passed value at late after late_after shaped has it =
        let one = single known all env passed (Place name) (values_for (Label name) value) at late after late_after it.1 in
        just_so 0 at after (one.spelled.ends ∙ ap (λ (n : ℕ). at + n) (ap length one.spelled.stored.2))
    field_wide in_case (Array name count row) env passed value at late after late_after shaped has it =
        let test = both_true (is_none_or is_own_name name) (are_shaped false row) shaped in
        let wide = rows_wide _ (least_widths row) (fixed_widths row)
        (λ number line at late after late_after inside.
        body_wide false row inside.0 (at_front row passed) line at late after late_after test.1
        (places_inside false row (row_of name number) env inside.0 test.1 inside.1 has) inside.2)
        1 it.0 at late after late_after it.5 in
        array_wide count (length it.0) (least_widths row) (fixed_widths row) at after it.2 wide.0 wide.1
    field_wide in_case (Switch cases) env passed value at late after late_after shaped has it =
        let least = cases_wide cases env passed value at late after late_after shaped has it in
        not_fixed (unwrap_or (least_case cases) 0) at after (case_least (least_case cases) least.0 at after least.1 least.2)

    cases_wide : (cases : PlainCases) (env : Environment) (passed : Passed) (value : Option Tree) (at : ℕ) (late : List Bool) (after : ℕ) (late_after : List Bool)
        → are_cases_shaped cases ≡ true → HasPlaces env → CaseSpells plainly known all cases env passed value at late after late_after → LeastAt cases at after
    cases_wide no_cases env passed value at late after late_after shaped has it = absurd it
    cases_wide (case_and name row others) env passed value at late after late_after shaped has it =
        let test = both_true (is_own_name name) (are_shaped true row && are_cases_shaped others) shaped in
        let both = both_true (are_shaped true row) (are_cases_shaped others) test.1 in
        by_choice (LeastAt (case_and name row others) at after) _ _
        (λ this.
        let inside = this.2 in
        let wide = body_wide true row inside.0 (at_front row passed) this.0 at late after late_after both.0 (places_inside true row None env inside.0 both.0 inside.1 has) inside.2 in
        least_own (least_widths row) (least_case others) at after wide.grows)
        (λ other.
        let least = cases_wide others env passed value at late after late_after both.1 has other in
        least_other (least_widths row) (least_case others) least.0 at after least.1 least.2)
        (is_case name value) it

    pub body_wide : (in_case : Bool) (body : PlainBody) (env : Environment) (passed : Passed) (line : List Tree) (at : ℕ) (late : List Bool) (after : ℕ) (late_after : List Bool)
        → are_shaped in_case body ≡ true → HasPlaces env → BodySpells plainly known all body env passed line at late after late_after → Wide (least_widths body) (fixed_widths body) at after
    body_wide in_case no_fields env passed line at late after late_after shaped has it = just_so 0 at after (let e = it.1 in omega (arith, e))
    body_wide in_case (field_and field fields) env passed line at late after late_after shaped has it =
        let test = both_true (is_shaped in_case field) (are_shaped in_case fields) shaped in
        let here = at_field (field_and field fields) passed in
        both_wide (least_width field) (least_widths fields) (fixed_width field) (fixed_widths fields) at it.2 after
        (field_wide in_case field env here it.0 at late it.2 it.3 test.0 has it.5)
        (body_wide in_case fields env (behind field here) it.1 it.2 it.3 after late_after test.1 has it.6)
