-- What stands ahead of a field where its body is spelled: the places of labels, near, told or only declared.
use Rattle.std.proofs.Common.{◌≡◌, ℕ, ◌+◌, ◌≤◌, ℤ, pos, Bool, true, false, List, length, Option, Some, None, refl, sym, ap, ◌∙◌, arith}
use Rattle.std.specs.Prelude.{if◌then◌else◌, nat_le, negsuc, option_and_then, option_map}
use Rattle.rz_core.specs.Lists.{or_else}
use Rattle.rz_core.specs.declared.facts.Facts.{Facts}
use Rattle.rz_core.specs.declared.resource.Word.{Word}
use Rattle.rz_expr.specs.Environment.{place_key, place_of, Environment, IsPartOf, Key}
use Rattle.rz_bits.specs.BitBuf.{missing}
use Rattle.rz_types_fields.specs.declared.tree.Tree.{Tree}
use Rattle.rz_types_fields.specs.Field.{field_and, no_fields, Align, Array, Fill, Label, Number, PlainBody, PlainField, Points, Switch, Text}
use Rattle.rz_types_fields.specs.Passed.{at_field, behind, declares, gives_key, is_label, Passed}
use Rattle.rz_types_fields.specs.Piece.{Filler, Place}
use Rattle.rz_types_fields.specs.Shape.{are_shaped, is_shaped}
use Rattle.rz_types_fields.specs.Spells.{plainly, values_for, BodySpells, FieldSpells}
use Rattle.rz_types_fields.specs.Width.{fixed_width}
use Rattle.rz_types_fields.proofs.SameNames.{key_is}
use Rattle.rz_unlay_pieces.specs.Ahead.{behind_measured, label_place, near_place, place_within, told_label, wider, Told}
use Rattle.rz_unlay.proofs.Ahead.{Ahead, HasPlaces}
use Rattle.rz_unlay.proofs.OnePiece.{single}
use Rattle.rz_unlay.proofs.ReadsBits.{length_zeros}
use Rattle.rz_unlay.proofs.ReadsTests.{and_then, both_true, either_of, mapped, none_is, some_is}
use Rattle.rz_unlay.proofs.ReadsWidths.{body_wide, field_wide}

-- One field.

-- where a label is spelled its name has that place, and it takes no bits
pub record StandsAt (env : Environment) (name : Word) (at after : ℕ) : Type 0 where
  pub is : env.give (place_key name.bytes) ≡ Some (pos at)
  pub ends : after ≡ at

nat_same : (a b : ℕ) → pos a ≡ pos b → a ≡ b
nat_same a b is = cc

-- a place that is told of a label is where it stands
place_told : (len : ℕ) (o : Option ℤ) (place : ℕ) → place_within len o ≡ Some place → o ≡ Some (pos place)
place_told len None place is = absurd cc
place_told len (Some (negsuc n)) place is = absurd cc
place_told len (Some (pos p)) place is = by (nat_le p len) is
  where
    by : (test : Bool) → (if test then Some p else None) ≡ Some place → Some (pos p) ≡ Some (pos place)
    by true is = ap (λ (n : ℕ). Some (pos n)) (some_is p place is)
    by false is = absurd (none_is place is)

-- a key by whether it is this name
by_name : {P : Type 0} (test : Bool) (here : Option ℕ) (there : Option ℕ) (place : ℕ) → (test ≡ true → here ≡ Some place → P) → (there ≡ Some place → P)
    → (if test then here else there) ≡ Some place → P
by_name true here there place one other is = one refl is
by_name false here there place one other is = other is

-- the place that is told of a label, or what is told of those after the field
either_told : {P : Type 0} (o : Option ℕ) (more : Option Told) (told : Told) → ((place : ℕ) → o ≡ Some place → record { place = place; width = 0 } ≡ told → P) → (more ≡ Some told → P)
    → or_else (option_map (λ place. record { place = place; width = 0 }) o) more ≡ Some told → P
either_told None more told one other is = other is
either_told (Some place) more told one other is = one place refl (some_is (record { place = place; width = 0 }) told is)

module _ (known : Facts) (all : List Bool) (env : Environment) (has : HasPlaces env) where
  label_stands : (name : Word) (passed : Passed) (value : Option Tree) (at : ℕ) (late : List Bool) (after : ℕ) (late_after : List Bool)
      → FieldSpells plainly known all (Label name) env passed value at late after late_after → StandsAt env name at after
  label_stands name passed value at late after late_after it =
      let one = single known all env passed (Place name) (values_for (Label name) value) at late after late_after it.1 in
      let ends : after ≡ at + 0 = one.spelled.ends ∙ ap (λ (n : ℕ). at + n) (ap length one.spelled.stored.2) in
      record { is = one.spelled.stored.1; ends = omega (arith, ends) }

  -- a field that is a label of this name gives it its place
  label_is : (field : PlainField) (passed : Passed) (value : Option Tree) (at : ℕ) (late : List Bool) (after : ℕ) (late_after : List Bool)
      → FieldSpells plainly known all field env passed value at late after late_after → (key : Key) → is_label field key ≡ true → env.give key ≡ Some (pos at)
  label_is (Number number) passed value at late after late_after it key is = absurd cc
  label_is (Text text) passed value at late after late_after it key is = absurd cc
  label_is (Points points) passed value at late after late_after it key is = absurd cc
  label_is (Fill unit count) passed value at late after late_after it key is = absurd cc
  label_is (Align unit) passed value at late after late_after it key is = absurd cc
  label_is (Label name) passed value at late after late_after it key is =
      sym (ap env.give (key_is (place_key name.bytes) key is)) ∙ (label_stands name passed value at late after late_after it).is
  label_is (Array name count row) passed value at late after late_after it key is = absurd cc
  label_is (Switch cases) passed value at late after late_after it key is = absurd cc

  -- only a label gives a place
  gives_label : (field : PlainField) (name : List ℕ) → gives_key field (place_of name) ≡ true → is_label field (place_of name) ≡ true
  gives_label (Number number) name is = absurd cc
  gives_label (Text text) name is = absurd cc
  gives_label (Points points) name is = absurd cc
  gives_label (Fill unit count) name is = absurd cc
  gives_label (Align unit) name is = absurd cc
  gives_label (Label own) name is = is
  gives_label (Array None count row) name is = absurd cc
  gives_label (Array (Some own) count row) name is = absurd cc
  gives_label (Switch cases) name is = absurd cc

  -- the place after a field is that at its distance
  fixed_ends : (in_case : Bool) (field : PlainField) (passed : Passed) (value : Option Tree) (at : ℕ) (late : List Bool) (after : ℕ) (late_after : List Bool)
      → is_shaped in_case field ≡ true → FieldSpells plainly known all field env passed value at late after late_after
      → (next : ℕ) → option_map (λ width. at + width) (fixed_width field) ≡ Some next → after ≡ next
  fixed_ends in_case field passed value at late after late_after shaped it next is =
      let width = mapped (λ width. at + width) (fixed_width field) next is in
      (field_wide known all in_case field env passed value at late after late_after shaped has it).is width.0 width.1 ∙ width.2

  measured_ends : (in_case : Bool) (field : PlainField) (passed : Passed) (value : Option Tree) (at : ℕ) (late : List Bool) (after : ℕ) (late_after : List Bool)
      → is_shaped in_case field ≡ true → FieldSpells plainly known all field env passed value at late after late_after
      → (next : ℕ) → behind_measured field at ≡ Some next → after ≡ next
  measured_ends in_case (Number number) passed value at late after late_after shaped it next is = fixed_ends in_case (Number number) passed value at late after late_after shaped it next is
  measured_ends in_case (Text text) passed value at late after late_after shaped it next is = fixed_ends in_case (Text text) passed value at late after late_after shaped it next is
  measured_ends in_case (Points points) passed value at late after late_after shaped it next is = fixed_ends in_case (Points points) passed value at late after late_after shaped it next is
  measured_ends in_case (Fill unit count) passed value at late after late_after shaped it next is = fixed_ends in_case (Fill unit count) passed value at late after late_after shaped it next is
  measured_ends in_case (Align unit) passed value at late after late_after shaped it next is =
      let one = single known all env passed (Filler unit) (values_for (Align unit) value) at late after late_after it.1 in
      one.spelled.ends ∙ ap (λ (n : ℕ). at + n) (ap length one.spelled.stored.1 ∙ length_zeros (missing unit at)) ∙ some_is (at + missing unit at) next is
  measured_ends in_case (Label name) passed value at late after late_after shaped it next is = fixed_ends in_case (Label name) passed value at late after late_after shaped it next is
  measured_ends in_case (Array name count row) passed value at late after late_after shaped it next is = fixed_ends in_case (Array name count row) passed value at late after late_after shaped it next is
  measured_ends in_case (Switch cases) passed value at late after late_after shaped it next is = fixed_ends in_case (Switch cases) passed value at late after late_after shaped it next is

  -- a label whose place is told stands there
  told_stands : (len : ℕ) (names : Environment) → IsPartOf names env → (field : PlainField) (passed : Passed) (value : Option Tree) (at : ℕ) (late : List Bool) (after : ℕ) (late_after : List Bool)
      → FieldSpells plainly known all field env passed value at late after late_after → (place : ℕ) → label_place len field names ≡ Some place → place ≡ at
  told_stands len names part (Number number) passed value at late after late_after it place is = absurd cc
  told_stands len names part (Text text) passed value at late after late_after it place is = absurd cc
  told_stands len names part (Points points) passed value at late after late_after it place is = absurd cc
  told_stands len names part (Fill unit count) passed value at late after late_after it place is = absurd cc
  told_stands len names part (Align unit) passed value at late after late_after it place is = absurd cc
  told_stands len names part (Label name) passed value at late after late_after it place is =
      let given = part.give (place_key name.bytes) (pos place) (place_told len (names.give (place_key name.bytes)) place is) in
      nat_same place at (some_is (pos place) (pos at) (sym given ∙ (label_stands name passed value at late after late_after it).is))
  told_stands len names part (Array name count row) passed value at late after late_after it place is = absurd cc
  told_stands len names part (Switch cases) passed value at late after late_after it place is = absurd cc

  -- Bodies.

  abbrev LiesBefore : Key → ℕ → Type 0
  LiesBefore key after = (place : ℕ) × (env.give key ≡ Some (pos place)) × (place ≤ after)

  -- a label at a known distance stands there
  near_is : (in_case : Bool) (body : PlainBody) (passed : Passed) (line : List Tree) (at : ℕ) (late : List Bool) (after : ℕ) (late_after : List Bool)
      → are_shaped in_case body ≡ true → BodySpells plainly known all body env passed line at late after late_after
      → (key : Key) (place : ℕ) → near_place body at key ≡ Some place → (env.give key ≡ Some (pos place)) × (place ≤ after)
  near_is in_case no_fields passed line at late after late_after shaped it key place is = absurd (none_is place is)
  near_is in_case (field_and field fields) passed line at late after late_after shaped it key place is =
      let test = both_true (is_shaped in_case field) (are_shaped in_case fields) shaped in
      let here = at_field (field_and field fields) passed in
      let grows = (body_wide known all in_case (field_and field fields) env passed line at late after late_after shaped has it).grows in
      by_name (is_label field key) (Some at) (option_and_then (λ next. near_place fields next key) (behind_measured field at)) place
      (λ label so.
      let same = some_is at place so in
      (label_is field here it.0 at late it.2 it.3 it.5 key label ∙ ap (λ (n : ℕ). Some (pos n)) same, omega (arith, grows, same)))
      (λ later.
      let next = and_then (λ next. near_place fields next key) (behind_measured field at) place later in
      let same = measured_ends in_case field here it.0 at late it.2 it.3 test.0 it.5 next.0 next.1 in
      near_is in_case fields (behind field here) it.1 it.2 it.3 after late_after test.1 it.6 key place (ap (λ (n : ℕ). near_place fields n key) same ∙ next.2)) is

  -- each label stands before the end
  label_lies : (in_case : Bool) (body : PlainBody) (passed : Passed) (line : List Tree) (at : ℕ) (late : List Bool) (after : ℕ) (late_after : List Bool)
      → are_shaped in_case body ≡ true → BodySpells plainly known all body env passed line at late after late_after
      → (name : List ℕ) → declares body (place_of name) ≡ true → LiesBefore (place_of name) after
  label_lies in_case no_fields passed line at late after late_after shaped it name is = absurd cc
  label_lies in_case (field_and field fields) passed line at late after late_after shaped it name is =
      let test = both_true (is_shaped in_case field) (are_shaped in_case fields) shaped in
      let here = at_field (field_and field fields) passed in
      let grows = (body_wide known all in_case (field_and field fields) env passed line at late after late_after shaped has it).grows in
      either_of (gives_key field (place_of name)) (declares fields (place_of name))
      (λ own. (at, label_is field here it.0 at late it.2 it.3 it.5 (place_of name) (gives_label field name own), omega (arith, grows)))
      (label_lies in_case fields (behind field here) it.1 it.2 it.3 after late_after test.1 it.6 name) is

  -- a label whose place is told stands after fields of that width
  told_is : (in_case : Bool) (body : PlainBody) (passed : Passed) (line : List Tree) (at : ℕ) (late : List Bool) (after : ℕ) (late_after : List Bool)
      → are_shaped in_case body ≡ true → BodySpells plainly known all body env passed line at late after late_after
      → (len : ℕ) (names : Environment) → IsPartOf names env → (told : Told) → told_label len body names ≡ Some told → told.place ≡ at + told.width
  told_is in_case no_fields passed line at late after late_after shaped it len names part told is = absurd (none_is told is)
  told_is in_case (field_and field fields) passed line at late after late_after shaped it len names part told is =
      let test = both_true (is_shaped in_case field) (are_shaped in_case fields) shaped in
      let here = at_field (field_and field fields) passed in
      either_told (label_place len field names) (option_and_then (λ width. option_map (wider width) (told_label len fields names)) (fixed_width field)) told
      (λ place so same.
      let stands = told_stands len names part field here it.0 at late it.2 it.3 it.5 place so in
      let own : told.place ≡ place = sym (ap (λ (t : Told). t.place) same) in
      let bits : told.width ≡ 0 = sym (ap (λ (t : Told). t.width) same) in
      omega (arith, stands, own, bits))
      (λ later.
      let width = and_then (λ width. option_map (wider width) (told_label len fields names)) (fixed_width field) told later in
      let ahead = mapped (wider width.0) (told_label len fields names) told width.2 in
      let wide = (field_wide known all in_case field env here it.0 at late it.2 it.3 test.0 has it.5).is width.0 width.1 in
      let stands = told_is in_case fields (behind field here) it.1 it.2 it.3 after late_after test.1 it.6 len names part ahead.0 ahead.1 in
      let own : told.place ≡ ahead.0.place = sym (ap (λ (t : Told). t.place) ahead.2) in
      let bits : told.width ≡ width.0 + ahead.0.width = sym (ap (λ (t : Told). t.width) ahead.2) in
      omega (arith, wide, stands, own, bits)) is

  -- so it is ahead of the first field of a body
  pub ahead_of : (in_case : Bool) (field : PlainField) (rest : PlainBody) (passed : Passed) (line : List Tree) (at : ℕ) (late : List Bool) (after : ℕ) (late_after : List Bool)
      → are_shaped in_case (field_and field rest) ≡ true → (it : BodySpells plainly known all (field_and field rest) env passed line at late after late_after) → after ≤ length all
      → Ahead all field rest env at it.2
  ahead_of in_case field rest passed line at late after late_after shaped it within =
      let test = both_true (is_shaped in_case field) (are_shaped in_case rest) shaped in
      let here = at_field (field_and field rest) passed in
      record {
        near = λ key place is. (let there = near_is in_case (field_and field rest) passed line at late after late_after shaped it key place is in let below = there.1 in (there.0, omega (arith, below, within)));
        lies = λ name is. (let there = label_lies in_case rest (behind field here) it.1 it.2 it.3 after late_after test.1 it.6 name is in let below = there.2 in (there.0, there.1, omega (arith, below, within)));
        stops = λ names part told is. told_is in_case rest (behind field here) it.1 it.2 it.3 after late_after test.1 it.6 (length all) names part told is;
      }
