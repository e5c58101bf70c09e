-- What is known of names inside a body, and outside of all fields.
use Rattle.std.proofs.Common.{◌≡◌, ℕ, ◌==◌, ℤ, pos, Bool, true, false, ◌&&◌, ◌||◌, not, List, [], ◌∷◌, length, Option, Some, None, refl, sym, ap, ◌∙◌, subst}
use Rattle.std.specs.Prelude.{codes, if◌then◌else◌, int_le}
use Rattle.std.specs.Option.{is_some}
use Rattle.std.specs.Str.{str_to_ascii_lowercase}
use Rattle.std.proofs.lemmas.Bool.{eqb-true}
use Rattle.rz_core.specs.Lists.{or_else}
use Rattle.rz_core.specs.declared.facts.Facts.{Facts}
use Rattle.rz_core.specs.declared.resource.Word.{Word}
use Rattle.rz_words.specs.Attribute.{attribute_word}
use Rattle.rz_expr.specs.Environment.{count_key, place_in, place_key, place_of, predefined, row_in, rows_of, Environment, IsPartOf, Key}
use Rattle.rz_words.specs.Keyword.{keyword_of}
use Rattle.rz_words.specs.Words.{is_label}
use Rattle.rz_words.specs.Words as words
use Rattle.rz_words.specs.declared.words.Role.{Role}
use Rattle.rz_words.specs.declared.words.Role.TheVariants.{OtherName}
use Rattle.rz_expr.proofs.Cases.{same_value}
use Rattle.rz_types_fields.specs.declared.tree.Tree.{Tree}
use Rattle.rz_types_fields.specs.Field.{field_and, no_fields, Align, Array, Fill, Label, Number, PlainBody, PlainField, Points, Switch, Text}
use Rattle.rz_types_fields.specs.Front.{names_inside, stated_in}
use Rattle.rz_types.specs.Names.{FillsRows}
use Rattle.rz_types_fields.specs.Passed.{at_field, at_front, behind, declares, gives_count, gives_key, nothing_passed, outside, states, Passed}
use Rattle.rz_types_fields.specs.Shape.{are_shaped, is_shaped}
use Rattle.rz_types_fields.specs.Solve.{is_same_key}
use Rattle.rz_types_fields.specs.RowLabels.{is_row, row_number, RowOf}
use Rattle.rz_types_fields.specs.Spells.{plainly, BodySpells, IsCounted, Within}
use Rattle.rz_types_fields.proofs.RowKeys.{entered_place_in, entered_row, entered_rows, placed_none, undeclared}
use Rattle.rz_types_fields.proofs.SameNames.{key_is}
use Rattle.rz_unlay.proofs.Ahead.{HasPlaces}
use Rattle.rz_unlay.proofs.Asked.{asked_no_row}
use Rattle.rz_unlay.proofs.Near.{Knows}
use Rattle.rz_unlay.proofs.ReadsTests.{both_true, if_false, neither, some_is}
use Rattle.rz_unlay.proofs.Sees.{IsKnownOf}
use Rattle.rz_unlay.proofs.Told.{same_part}

-- Inside a body.

stated_first : (test : Bool) (count : ℤ) (more : Option ℤ) (others : Bool) → (others ≡ true → (v : ℤ) × (more ≡ Some v)) → (test || others) ≡ true
    → (v : ℤ) × (or_else (if test then Some count else None) more ≡ Some v)
stated_first true count more others later is = (count, refl)
stated_first false count more others later is = later is

stated_has : (body : PlainBody) (key : Key) → states body key ≡ true → (v : ℤ) × (stated_in body key ≡ Some v)
stated_has no_fields key is = absurd cc
stated_has (field_and (Number number) fields) key is = stated_has fields key is
stated_has (field_and (Text text) fields) key is = stated_has fields key is
stated_has (field_and (Points points) fields) key is = stated_has fields key is
stated_has (field_and (Fill unit count) fields) key is = stated_has fields key is
stated_has (field_and (Align unit) fields) key is = stated_has fields key is
stated_has (field_and (Label name) fields) key is = stated_has fields key is
stated_has (field_and (Array name None row) fields) key is = stated_has fields key is
stated_has (field_and (Array name (Some count) row) fields) key is =
    stated_first (gives_count name key) count (stated_in fields key) (states fields key) (stated_has fields key) is
stated_has (field_and (Switch cases) fields) key is = stated_has fields key is

pub knows_inside : (body : PlainBody) (which : Option RowOf) (passed : Passed) (names : Environment) → Knows passed names → Knows (at_front body passed) (names_inside which body names)
knows_inside body which passed names knows key asked is =
    let own = by (declares body key) is in
    (own.0, if_false (is_row which key) (row_number which) (if declares body key then stated_in body key else names.give key) (asked_no_row which key asked) ∙ own.1)
  where
    by : (test : Bool) → ((not test && passed.met key) || (if test then states body key else passed.told key)) ≡ true
        → (v : ℤ) × ((if test then stated_in body key else names.give key) ≡ Some v)
    by true is = stated_has body key is
    by false is = knows key asked is

pub counted_at : (name : Option Word) (rows : ℕ) (own : Environment) (key : Key) → IsCounted name rows own → gives_count name key ≡ true → own.give key ≡ Some (pos rows)
counted_at None rows own key counted gives = absurd cc
counted_at (Some name) rows own key counted gives = sym (ap own.give (key_is (count_key name.bytes) key gives)) ∙ counted

first_stated : (P : ℤ → Type 0) (test : Bool) (count : ℤ) (more : Option ℤ) (v : ℤ) → (test ≡ true → P count) → (more ≡ Some v → P v) → or_else (if test then Some count else None) more ≡ Some v → P v
first_stated P true count more v here later is = subst P (some_is count v is) (here refl)
first_stated P false count more v here later is = later is

-- labels in rows, of which the number is known inside a body, are those outside of it
rows_inside : (body : PlainBody) (which : Option RowOf) (names : Environment) → FillsRows names → FillsRows (names_inside which body names)
rows_inside body which names fills = record {
  give = λ label rows number is low high. by label rows number low high (declares body (rows_of label)) refl (sym (entered_rows which body label (names.give (rows_of label))) ∙ is);
}
  where
    by : (label : List ℕ) (rows number : ℤ) → int_le (pos 1) number ≡ true → int_le number rows ≡ true → (test : Bool) → declares body (rows_of label) ≡ test
        → (if test then None else names.give (rows_of label)) ≡ Some rows → (place : ℤ) × ((names_inside which body names).give (place_in label number) ≡ Some place)
    by label rows number low high true given is = absurd cc
    by label rows number low high false none is =
        let it = fills.give label rows number is low high in
        (it.0, entered_place_in which body label number (names.give (place_in label number)) ∙ if_false (declares body (rows_of label)) None (names.give (place_in label number)) none ∙ it.1)

module _ (known : Facts) (all : List Bool) where
  -- what a body states is so where it is spelled
  stated_holds : (body : PlainBody) (own : Environment) (passed : Passed) (line : List Tree) (at : ℕ) (late : List Bool) (after : ℕ) (late_after : List Bool)
      → BodySpells plainly known all body own passed line at late after late_after → (key : Key) (v : ℤ) → stated_in body key ≡ Some v → own.give key ≡ Some v
  stated_holds no_fields own passed line at late after late_after it key v is = absurd cc
  stated_holds (field_and (Number number) fields) own passed line at late after late_after it key v is =
      stated_holds fields own (behind (Number number) (at_field (field_and (Number number) fields) passed)) it.1 it.2 it.3 after late_after it.6 key v is
  stated_holds (field_and (Text text) fields) own passed line at late after late_after it key v is =
      stated_holds fields own (behind (Text text) (at_field (field_and (Text text) fields) passed)) it.1 it.2 it.3 after late_after it.6 key v is
  stated_holds (field_and (Points points) fields) own passed line at late after late_after it key v is =
      stated_holds fields own (behind (Points points) (at_field (field_and (Points points) fields) passed)) it.1 it.2 it.3 after late_after it.6 key v is
  stated_holds (field_and (Fill unit count) fields) own passed line at late after late_after it key v is =
      stated_holds fields own (behind (Fill unit count) (at_field (field_and (Fill unit count) fields) passed)) it.1 it.2 it.3 after late_after it.6 key v is
  stated_holds (field_and (Align unit) fields) own passed line at late after late_after it key v is =
      stated_holds fields own (behind (Align unit) (at_field (field_and (Align unit) fields) passed)) it.1 it.2 it.3 after late_after it.6 key v is
  stated_holds (field_and (Label name) fields) own passed line at late after late_after it key v is =
      stated_holds fields own (behind (Label name) (at_field (field_and (Label name) fields) passed)) it.1 it.2 it.3 after late_after it.6 key v is
  stated_holds (field_and (Array name None row) fields) own passed line at late after late_after it key v is =
      stated_holds fields own (behind (Array name None row) (at_field (field_and (Array name None row) fields) passed)) it.1 it.2 it.3 after late_after it.6 key v is
  stated_holds (field_and (Array name (Some count) row) fields) own passed line at late after late_after it key v is =
      let one = it.5 in
      first_stated (λ v. own.give key ≡ Some v) (gives_count name key) count (stated_in fields key) v
      (λ gives. counted_at name (length one.0) own key one.3 gives ∙ sym (ap (λ (n : ℤ). Some n) one.2))
      (λ later. stated_holds fields own (behind (Array name (Some count) row) (at_field (field_and (Array name (Some count) row) fields) passed)) it.1 it.2 it.3 after late_after it.6 key v later) is
  stated_holds (field_and (Switch cases) fields) own passed line at late after late_after it key v is =
      stated_holds fields own (behind (Switch cases) (at_field (field_and (Switch cases) fields) passed)) it.1 it.2 it.3 after late_after it.6 key v is

  part_inside : (body : PlainBody) (which : Option RowOf) (names env own : Environment) (passed : Passed) (line : List Tree) (at : ℕ) (late : List Bool) (after : ℕ) (late_after : List Bool)
      → IsPartOf names env → Within body which env own → BodySpells plainly known all body own passed line at late after late_after → IsPartOf (names_inside which body names) own
  part_inside body which names env own passed line at late after late_after part within it = record {
    give = λ key v is. around key v (is_row which key) refl is;
  }
    where
      by : (key : Key) (v : ℤ) → is_row which key ≡ false → (test : Bool) → declares body key ≡ test → (if test then stated_in body key else names.give key) ≡ Some v → own.give key ≡ Some v
      by key v other true declared is = stated_holds body own passed line at late after late_after it key v is
      by key v other false none is = within.give key none other ∙ part.give key v is

      around : (key : Key) (v : ℤ) (test : Bool) → is_row which key ≡ test → (if test then row_number which else if declares body key then stated_in body key else names.give key) ≡ Some v → own.give key ≡ Some v
      around key v true number is = within.number key number ∙ is
      around key v false other is = by key v other (declares body key) refl is

  -- what is known at the front of a body is known so inside
  pub known_inside : (body : PlainBody) (which : Option RowOf) (names env own : Environment) (passed : Passed) (line : List Tree) (at : ℕ) (late : List Bool) (after : ℕ) (late_after : List Bool)
      → IsKnownOf names env → Within body which env own → BodySpells plainly known all body own passed line at late after late_after → IsKnownOf (names_inside which body names) own
  known_inside body which names env own passed line at late after late_after stands within it = record {
    part = part_inside body which names env own passed line at late after late_after stands.part within it;
    rows = rows_inside body which names stands.rows;
    around = λ array. entered_row which body array (names.give (row_in array)) ∙ by array (is_row which (row_in array)) refl;
  }
    where
      by : (array : List ℕ) (test : Bool) → is_row which (row_in array) ≡ test → (if test then row_number which else names.give (row_in array)) ≡ own.give (row_in array)
      by array true number = sym (within.number (row_in array) number)
      by array false other = stands.around array ∙ sym (within.give (row_in array) (undeclared body array) other)

-- `true` and `false` have their values everywhere.

unnamed : (test : Bool) (role : Role) → is_label (if test then OtherName else role) ≡ true → test ≡ false
unnamed true role is = absurd cc
unnamed false role is = refl

plain_label : (name : List ℕ) → is_label (words.plain_role name) ≡ true → predefined name ≡ None
plain_label name is =
    let two = neither (is_some (attribute_word name) || words.is (codes "true") name) (words.is (codes "false") name) (unnamed (words.is_other_name name) (words.keyword_role (keyword_of name)) is) in
    let one = neither (is_some (attribute_word name)) (words.is (codes "true") name) two.0 in
    λ i. if one.1 i then Some (pos 1) else if two.1 i then Some (pos 0) else None

-- no label is named so
pub no_label : (name : List ℕ) → is_label (words.role_of name) ≡ true → predefined name ≡ None
no_label [] is = refl
no_label (byte ∷ bytes) is = by (byte == 36) refl is
  where
    by : (test : Bool) → (byte == 36) ≡ test → is_label (if test then words.dollar_role (byte ∷ bytes) bytes else words.plain_role (byte ∷ bytes)) ≡ true → predefined (byte ∷ bytes) ≡ None
    by true so is = subst (λ (first : ℕ). predefined (first ∷ bytes) ≡ None) (sym (eqb-true byte 36 so)) refl
    by false so is = plain_label (byte ∷ bytes) is

not_given : (in_case : Bool) (field : PlainField) (name : List ℕ) (value : ℤ) → is_shaped in_case field ≡ true → predefined name ≡ Some value → gives_key field (place_of name) ≡ false
not_given in_case (Number number) name value shaped is = refl
not_given in_case (Text text) name value shaped is = refl
not_given in_case (Points points) name value shaped is = refl
not_given in_case (Fill unit count) name value shaped is = refl
not_given in_case (Align unit) name value shaped is = refl
not_given in_case (Label own) name value shaped is = by (is_same_key (place_key own.bytes) (place_of name)) refl
  where
    same_place : (one other : List ℕ) → place_of one ≡ place_of other → one ≡ other
    same_place one other same = cc

    by : (test : Bool) → is_same_key (place_key own.bytes) (place_of name) ≡ test → test ≡ false
    by false so = refl
    by true so =
        let same = same_place (str_to_ascii_lowercase own.bytes) name (key_is (place_key own.bytes) (place_of name) so) in
        let absent = no_label own.bytes (both_true _ (is_label (words.role_of own.bytes)) shaped).1 in
        absurd (let wrong = sym is ∙ ap predefined (sym same) ∙ sym (same_value own.bytes) ∙ absent in cc)
not_given in_case (Array None count row) name value shaped is = refl
not_given in_case (Array (Some own) count row) name value shaped is = refl
not_given in_case (Switch cases) name value shaped is = refl

pub not_declared : (in_case : Bool) (body : PlainBody) (name : List ℕ) (value : ℤ) → are_shaped in_case body ≡ true → predefined name ≡ Some value → declares body (place_of name) ≡ false
not_declared in_case no_fields name value shaped is = refl
not_declared in_case (field_and field fields) name value shaped is =
    let each = both_true (is_shaped in_case field) (are_shaped in_case fields) shaped in
    λ i. not_given in_case field name value each.0 is i || not_declared in_case fields name value each.1 is i

pub places_inside : (in_case : Bool) (body : PlainBody) (which : Option RowOf) (env own : Environment) → are_shaped in_case body ≡ true → Within body which env own → HasPlaces env → HasPlaces own
places_inside in_case body which env own shaped within has name value is = within.give (place_of name) (not_declared in_case body name value shaped is) (placed_none which name) ∙ has name value is

-- Outside of all fields.

pub knows_outside : Knows nothing_passed outside
knows_outside key asked is = some_has (outside.give key) (met (is_some (outside.give key)) is)
  where
    met : (some : Bool) → (some || false) ≡ true → some ≡ true
    met true is = refl
    met false is = absurd cc

    some_has : (o : Option ℤ) → is_some o ≡ true → (v : ℤ) × (o ≡ Some v)
    some_has None is = absurd cc
    some_has (Some v) is = (v, refl)

pub known_outside : IsKnownOf outside outside
known_outside = record {
  part = same_part outside;
  rows = record { give = λ label rows number is low high. absurd cc };
  around = λ array. refl;
}

pub places_outside : HasPlaces outside
places_outside name value is = is
