-- Labels that stand ahead, at a known distance or at a place that is told.
use Rattle.std.proofs.Common.{◌≡◌, ℕ, ◌+◌, ◌≤◌, ℤ, pos, Bool, true, false, ◌&&◌, ◌||◌, List, length, Option, Some, None, refl, sym, ap, ◌∙◌}
use Rattle.std.specs.Prelude.{if◌then◌else◌, option_and_then, option_map}
use Rattle.std.specs.Option.{is_some}
use Rattle.std.specs.Str.{str_to_ascii_lowercase}
use Rattle.rz_core.specs.Lists.{or_else}
use Rattle.rz_core.specs.declared.facts.Facts.{Facts}
use Rattle.rz_expr.specs.Environment.{place_key, place_of, Environment, IsPartOf, Key}
use Rattle.rz_bits.specs.BitBuf.{missing}
use Rattle.rz_types.specs.Readable.{ends_at_label, is_told_label}
use Rattle.rz_types_fields.specs.Field.{field_and, no_fields, Align, Array, Fill, Label, Number, PlainBody, PlainField, Points, Switch, Text}
use Rattle.rz_types_fields.specs.Passed.{declares, gives_key, is_held, is_known, is_label, is_measured, is_near, Names, Passed}
use Rattle.rz_types_fields.specs.Width.{fixed_width, text_width}
use Rattle.rz_types_fields.proofs.SameNames.{key_itself}
use Rattle.rz_unlay_pieces.specs.Ahead.{behind_measured, in_resource, label_place, near_place, place_within, told_label, wider, Told}
use Rattle.rz_unlay_pieces.specs.Pieces.{here_at, with_near}
use Rattle.rz_unlay.proofs.Ahead.{Ahead}
use Rattle.rz_unlay.proofs.Asked.{not_near, rows_no_place}
use Rattle.rz_unlay.proofs.ReadsTests.{at_most, both_true, either_of, left_true, right_true, some_same, there_is}
use Rattle.rz_unlay.proofs.Sees.{rows_kept, Covers, IsKnownOf}
use Rattle.rz_unlay.proofs.Told.{Widens}

-- the names that are held have values
abbrev pub Knows : Passed → Environment → Type 0
Knows passed names = Covers (is_held passed) names

-- Near labels.

no_number : (o : Option ℕ) → is_some o ≡ false → o ≡ None
no_number None is = refl
no_number (Some n) is = absurd cc

measured_width : (width : Option ℕ) (at : ℕ) → is_some width ≡ true → (behind : ℕ) × (option_map (λ width. at + width) width ≡ Some behind)
measured_width width at is = let it = there_is width is in (at + it.0, ap (option_map (λ width. at + width)) it.1)

measured : (field : PlainField) (at : ℕ) → is_measured field ≡ true → (behind : ℕ) × (behind_measured field at ≡ Some behind)
measured (Number number) at is = measured_width (fixed_width (Number number)) at is
measured (Text text) at is = measured_width (text_width text.form text.size) at is
measured (Points points) at is = measured_width (fixed_width (Points points)) at is
measured (Fill unit count) at is = measured_width (fixed_width (Fill unit count)) at is
measured (Align unit) at is = (at + missing unit at, refl)
measured (Label name) at is = measured_width (fixed_width (Label name)) at is
measured (Array name count row) at is = measured_width (fixed_width (Array name count row)) at is
measured (Switch cases) at is = absurd cc

unmeasured_width : (width : Option ℕ) (at : ℕ) → is_some width ≡ false → option_map (λ width. at + width) width ≡ None
unmeasured_width width at is = ap (option_map (λ width. at + width)) (no_number width is)

unmeasured : (field : PlainField) (at : ℕ) → is_measured field ≡ false → behind_measured field at ≡ None
unmeasured (Number number) at is = absurd cc
unmeasured (Text text) at is = unmeasured_width (text_width text.form text.size) at is
unmeasured (Points points) at is = absurd cc
unmeasured (Fill unit count) at is = absurd cc
unmeasured (Align unit) at is = absurd cc
unmeasured (Label name) at is = absurd cc
unmeasured (Array name count row) at is = unmeasured_width (fixed_width (Array name count row)) at is
unmeasured (Switch cases) at is = refl

first_some : (here distant near : Bool) (at : ℕ) (behind : Option ℕ) (next : ℕ → Option ℕ) → (distant ≡ true → (n : ℕ) × (behind ≡ Some n)) → ((n : ℕ) → near ≡ true → (p : ℕ) × (next n ≡ Some p))
    → (here || (distant && near)) ≡ true → (p : ℕ) × ((if here then Some at else option_and_then next behind) ≡ Some p)
first_some true distant near at behind next there others is = (at, refl)
first_some false distant near at behind next there others is =
    let each = both_true distant near is in
    let one = there each.0 in
    let other = others one.0 each.1 in
    (other.0, ap (option_and_then next) one.1 ∙ other.1)

first_none : (here distant near : Bool) (at : ℕ) (behind : Option ℕ) (next : ℕ → Option ℕ) → (distant ≡ true → (n : ℕ) × (behind ≡ Some n)) → (distant ≡ false → behind ≡ None) → ((n : ℕ) → near ≡ false → next n ≡ None)
    → (here || (distant && near)) ≡ false → (if here then Some at else option_and_then next behind) ≡ None
first_none true distant near at behind next there absent others is = absurd cc
first_none false true near at behind next there absent others is = let one = there refl in ap (option_and_then next) one.1 ∙ others one.0 is
first_none false false near at behind next there absent others is = ap (option_and_then next) (absent refl)

-- a label that is near has a place
pub near_some : (body : PlainBody) (key : Key) (at : ℕ) → is_near body key ≡ true → (place : ℕ) × (near_place body at key ≡ Some place)
near_some no_fields key at is = absurd cc
near_some (field_and field fields) key at is =
    first_some (is_label field key) (is_measured field) (is_near fields key) at (behind_measured field at) (λ next. near_place fields next key) (measured field at) (λ next near. near_some fields key next near) is

-- and no other
pub near_none : (body : PlainBody) (key : Key) (at : ℕ) → is_near body key ≡ false → near_place body at key ≡ None
near_none no_fields key at is = refl
near_none (field_and field fields) key at is =
    first_none (is_label field key) (is_measured field) (is_near fields key) at (behind_measured field at) (λ next. near_place fields next key) (measured field at) (unmeasured field at) (λ next near. near_none fields key next near) is

-- Places in the resource.

pub place_within_is : (len place : ℕ) → place ≤ len → place_within len (Some (pos place)) ≡ Some place
place_within_is len place within = ap (λ (test : Bool). if test then Some place else None) (at_most place len within)

pub in_resource_is : (len place : ℕ) → place ≤ len → in_resource len (Some (pos place)) ≡ Some (pos place)
in_resource_is len place within = ap (option_map (λ p. pos p)) (place_within_is len place within)

-- What is known of names with the labels that are near.

first_given : (one other : Option ℤ) (value : ℤ) → one ≡ Some value → or_else one other ≡ Some value
first_given one other value is = ap (λ (o : Option ℤ). or_else o other) is

or_nothing : (one : Option ℤ) → or_else one None ≡ one
or_nothing None = refl
or_nothing (Some value) = refl

either_given : (one other : Option ℤ) (value : ℤ) → other ≡ Some value → (v : ℤ) × (or_else one other ≡ Some v)
either_given None other value is = (value, is)
either_given (Some x) other value is = (x, refl)

still_given : (one more other : Option ℤ) → ((x : ℤ) → one ≡ Some x → more ≡ Some x) → (value : ℤ) → or_else one other ≡ Some value → (v : ℤ) × (or_else more other ≡ Some v)
still_given None more other kept value is = either_given more other value is
still_given (Some x) more other kept value is = (x, first_given more other x (kept x refl))

-- no other name than those that are near has another value by that
pub near_alone : (facts : Facts) (all : List Bool) (field : PlainField) (rest : PlainBody) (at : ℕ) (met : Names) (names : Environment) (key : Key) → is_near (field_and field rest) key ≡ false
    → (with_near (here_at facts all field rest at met) names).give key ≡ names.give key
near_alone facts all field rest at met names key absent =
    ap (λ (o : Option ℕ). or_else (names.give key) (in_resource (length all) (option_map (λ p. pos p) o))) (near_none (field_and field rest) key at absent) ∙ or_nothing (names.give key)

module _ (facts : Facts) (all : List Bool) (field : PlainField) (rest : PlainBody) (env : Environment) (at after : ℕ) (met : Names) (ahead : Ahead all field rest env at after) where
  near_given : (key : Key) (place : Option ℕ) (value : ℤ) → near_place (field_and field rest) at key ≡ place → in_resource (length all) (option_map (λ p. pos p) place) ≡ Some value → env.give key ≡ Some value
  near_given key None value so is = absurd cc
  near_given key (Some place) value so is = let it = ahead.near key place so in it.0 ∙ sym (in_resource_is (length all) place it.1) ∙ is

  given_there : (names : Environment) → IsPartOf names env → (key : Key) (value : ℤ) (own : Option ℤ) → names.give key ≡ own
      → or_else own (in_resource (length all) (option_map (λ p. pos p) (near_place (field_and field rest) at key))) ≡ Some value → env.give key ≡ Some value
  given_there names part key value None so is = near_given key (near_place (field_and field rest) at key) value refl is
  given_there names part key value (Some x) so is = part.give key x so ∙ is

  pub near_part : (names : Environment) → IsKnownOf names env → IsKnownOf (with_near (here_at facts all field rest at met) names) env
  near_part names stands = rows_kept names (with_near (here_at facts all field rest at met) names) env stands
      (record { give = λ key of. near_alone facts all field rest at met names key (not_near (field_and field rest) key (rows_no_place key of)) })
      (record { give = λ key value is. given_there names stands.part key value (names.give key) refl is })

  pub near_widens : Widens env (with_near (here_at facts all field rest at met))
  near_widens = record {
    more = λ names. record { give = λ key value is. first_given (names.give key) _ value is };
    wider = λ names others kept key value is. still_given (names.give key) (others.give key) _ (λ x there. kept.give key x there) value is;
    part = λ names part. near_part names part;
  }

  pub near_covers : (passed : Passed) (names : Environment) → Knows passed names → passed.near ≡ is_near (field_and field rest) → Covers (is_known passed) (with_near (here_at facts all field rest at met) names)
  near_covers passed names knows near key asked known =
      either_of (passed.near key) (is_held passed key)
      (λ is.
      let there = near_some (field_and field rest) key at (sym (ap (λ (near : Names). near key) near) ∙ is) in
      either_given (names.give key) _ (pos there.0) (ap (λ (o : Option ℕ). in_resource (length all) (option_map (λ p. pos p) o)) there.1 ∙ in_resource_is (length all) there.0 (ahead.near key there.0 there.1).1))
      (λ held. let it = knows key asked held in (it.0, first_given (names.give key) _ it.0 it.1))
      known

-- Told labels.

module _ (len : ℕ) (told : Names) (names env : Environment) (covers : Covers told names) (part : IsPartOf names env) where
  label_told : (field : PlainField) (fields : PlainBody)
      → ((name : List ℕ) → declares (field_and field fields) (place_of name) ≡ true → (place : ℕ) × (env.give (place_of name) ≡ Some (pos place)) × (place ≤ len))
      → is_told_label field told ≡ true → (place : ℕ) × (label_place len field names ≡ Some place)
  label_told (Label name) fields lies is =
      let key = place_key name.bytes in
      let it = covers key refl is in
      let there = lies (str_to_ascii_lowercase name.bytes) (left_true (gives_key (Label name) key) (declares fields key) (key_itself key)) in
      let same : it.0 ≡ pos there.0 = some_same it.0 (pos there.0) (sym (part.give key it.0 it.1) ∙ there.1) in
      (there.0, ap (place_within len) (it.1 ∙ ap (λ (v : ℤ). Some v) same) ∙ place_within_is len there.0 there.2)
  label_told (Number number) _ lies is = absurd cc
  label_told (Text text) _ lies is = absurd cc
  label_told (Points points) _ lies is = absurd cc
  label_told (Fill unit count) _ lies is = absurd cc
  label_told (Align unit) _ lies is = absurd cc
  label_told (Array name count row) _ lies is = absurd cc
  label_told (Switch cases) _ lies is = absurd cc

  first_told : (place width : Option ℕ) (others : Option Told) (here fixed ends : Bool) → (here ≡ true → (p : ℕ) × (place ≡ Some p)) → (fixed ≡ true → (w : ℕ) × (width ≡ Some w))
      → (ends ≡ true → (t : Told) × (others ≡ Some t)) → (here || (fixed && ends)) ≡ true
      → (t : Told) × (or_else (option_map (λ place. record { place = place; width = 0 }) place) (option_and_then (λ width. option_map (wider width) others) width) ≡ Some t)
  first_told (Some place) width others here fixed ends stands has leads is = (record { place = place; width = 0 }, refl)
  first_told None width others true fixed ends stands has leads is = absurd (let wrong = (stands refl).1 in cc)
  first_told None width others false fixed ends stands has leads is =
      let each = both_true fixed ends is in
      let one = has each.0 in
      let other = leads each.1 in
      (wider one.0 other.0, ap (option_and_then (λ width. option_map (wider width) others)) one.1 ∙ ap (option_map (wider one.0)) other.1)

  -- a label that ends a field is told
  pub told_there : (rest : PlainBody) → ((name : List ℕ) → declares rest (place_of name) ≡ true → (place : ℕ) × (env.give (place_of name) ≡ Some (pos place)) × (place ≤ len))
      → ends_at_label rest told ≡ true → (t : Told) × (told_label len rest names ≡ Some t)
  told_there no_fields lies is = absurd cc
  told_there (field_and field fields) lies is =
      first_told (label_place len field names) (fixed_width field) (told_label len fields names) (is_told_label field told) (is_some (fixed_width field)) (ends_at_label fields told)
      (label_told field fields lies) (there_is (fixed_width field)) (told_there fields (λ name declared. lies name (right_true (gives_key field (place_of name)) (declares fields (place_of name)) declared))) is
