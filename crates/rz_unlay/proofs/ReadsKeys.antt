-- A case is found by its key: the bits at its place are its own, and not those of another case.
use Rattle.std.proofs.Common.{◌≡◌, ◌≢◌, ℕ, ◌+◌, ◌<◌, ◌≤◌, ◌^◌, ◌==◌, ℤ, pos, Bool, true, false, ◌&&◌, List, [], ◌∷◌, length, Option, Some, None, Result, Ok, refl, sym, ap, ◌∙◌, subst, arith}
use Rattle.std.specs.Prelude.{if◌then◌else◌, min, nat_abs, option_map}
use Rattle.std.specs.List.{AllByRecursion}
use Rattle.std.specs.Option.{is_some, unwrap_or}
use Rattle.std.proofs.lemmas.Bool.Decides.{nat_tests}
use Rattle.std.proofs.lemmas.Nat.{pow_pos}
use Rattle.std.proofs.Math.Nat.{mod-lt}
use Rattle.rz_core.specs.declared.facts.Facts.{Facts}
use Rattle.rz_expr.specs.Constant.{constant_of}
use Rattle.rz_expr.specs.Environment.{Environment}
use Rattle.rz_expr.specs.Term.{Term}
use Rattle.rz_expr.specs.declared.value.EvalFault.{EvalFault}
use Rattle.rz_bits.specs.Bits.{number_bits, number_of}
use Rattle.rz_types_fields.specs.declared.field.NumForm.{NumForm}
use Rattle.rz_types_fields.specs.declared.keys.CaseKey.{CaseKey}
use Rattle.rz_types_fields.specs.declared.tree.Tree.{Tree}
use Rattle.rz_types_fields.specs.Spells.{is_case, plainly, values_for, BodySpells, CaseSpells, FieldSpells, IsNumber, PieceSpells}
use Rattle.rz_types.specs.Field.{case_and, field_and, no_cases, no_fields, Align, Array, Fill, Label, Number, PlainBody, PlainCases, PlainField, PlainNumber, Points, Switch, Text}
use Rattle.rz_types.specs.Kept.{AreCasesApart, HasKey, IsApartFrom, StandApart}
use Rattle.rz_types.specs.Shape.{are_cases_shaped, are_shaped, has_value, is_key_shaped, is_number_shaped, is_own_name, is_shaped}
use Rattle.rz_types.specs.Passed.{at_field, at_front, behind, Passed}
use Rattle.rz_types.specs.Piece.{OneNumber}
use Rattle.rz_types.specs.Stored.{stored_number}
use Rattle.rz_types.specs.Sees.{bits_before}
use Rattle.rz_types.specs.Value.{see}
use Rattle.rz_types.specs.Width.{capped, case_keys, field_key, fixed_width, key_bits, keys_from, number_key, plus}
use Rattle.rz_unlay.specs.Cursor.{has_bits, has_key_at, has_keys, key_at}
use Rattle.rz_bits.specs.View.{number_at}
use Rattle.rz_unlay.proofs.Ahead.{HasPlaces}
use Rattle.rz_unlay.proofs.OnePiece.{single}
use Rattle.rz_unlay.proofs.ReadsBits.{all_append, length_number, number_found}
use Rattle.rz_unlay.proofs.ReadsNames.{places_inside}
use Rattle.rz_unlay.proofs.ReadsTests.{both_true, itself, some_is, there_is}
use Rattle.rz_unlay.proofs.ReadsWidths.{body_wide, by_choice, constant_value, field_wide}

-- The bits of a key.

-- the bits at the place of a key, from the front of its case, are its own
abbrev pub KeyThere : List Bool → ℕ → CaseKey → Type 0
KeyThere all start key = (distance : ℕ) → key.distance ≡ Some distance → number_at all (start + distance) key.width ≡ Some key.bits

-- the number of a key is that of its constant
record KeyBits (width : ℤ) (fixed : Option Term) (bits : List Bool) : Type 0 where
  are : bits ≡ number_bits (nat_abs width) (key_bits width fixed)
  small : key_bits width fixed < 2 ^ nat_abs width

key_number : (facts : Facts) (seen : ℤ → ℤ → Option ℤ) (env : Environment) → HasPlaces env → (passed : Passed) (form : NumForm) (width : ℤ) (fixed : Option Term) (value : Option Tree) (bits : List Bool)
    → has_value fixed ≡ true → IsNumber form width fixed (see facts seen env) value bits → KeyBits width fixed bits
key_number facts seen env has passed form width None value bits there it = absurd cc
key_number facts seen env has passed form width (Some term) value bits there (v, is, valued, fits, are) = by (constant_of term) refl there
  where
    same : (c : ℤ) → ◌≡◌ {A = Result ℤ EvalFault} (Ok c) (Ok v) → c ≡ v
    same c is = cc

    by : (o : Option ℤ) → constant_of term ≡ o → is_some o ≡ true → KeyBits width (Some term) bits
    by None constant there = absurd cc
    by (Some c) constant there =
        let value : unwrap_or (constant_of term) (pos 0) ≡ v = ap (λ (o : Option ℤ). unwrap_or o (pos 0)) constant ∙ same c (sym (constant_value facts seen env has term c constant) ∙ valued) in
        record {
          are = are ∙ ap (λ (z : ℤ). number_bits (nat_abs width) (stored_number (nat_abs width) z)) (sym value);
          small = mod-lt _ (pow_pos (nat_abs width));
        }

distance_is : (before : Option ℕ) (distance : ℕ) → option_map capped before ≡ Some distance → (b : ℕ) × (before ≡ Some b) × (min b 134217697 ≡ distance)
distance_is None distance is = absurd cc
distance_is (Some b) distance is = (b, refl, some_is (min b 134217697) distance is)

module _ (back : (width number : ℕ) → number < 2 ^ width → number_of (number_bits width number) ≡ number) (known : Facts) (all : List Bool) where
  number_key_there : (in_case : Bool) (number : PlainNumber) (before : Option ℕ) (start : ℕ) (env : Environment) (passed : Passed) (value : Option Tree) (at : ℕ) (late : List Bool) (after : ℕ) (late_after : List Bool)
      → is_number_shaped in_case number ≡ true → HasPlaces env → PieceSpells plainly known all env passed (OneNumber number) value at late after late_after → after ≤ length all
      → ((b : ℕ) → before ≡ Some b → at ≡ start + b) → AllByRecursion (KeyThere all start) (number_key before number)
  number_key_there in_case number before start env passed value at late after late_after shaped has it within place =
      by number.key refl (both_true _ (if number.key then is_key_shaped in_case number else true) shaped).1
    where
      by : (test : Bool) → number.key ≡ test → (if test then is_key_shaped in_case number else true) ≡ true
          → AllByRecursion (KeyThere all start)
          (if test then record { width = nat_abs number.width; distance = option_map capped before; bits = key_bits number.width number.fixed } ∷ [] else [])
      by false is shaped = tt
      by true is shaped = (there, tt)
        where
          there : (distance : ℕ) → option_map capped before ≡ Some distance → number_at all (start + distance) (nat_abs number.width) ≡ Some (key_bits number.width number.fixed)
          there distance is =
              let own = distance_is before distance is in
              let from = place own.0 own.1 in
              let cap = own.2 in
              let short = it.short in
              let ends = it.ends in
              let key = key_number known (bits_before all at) env has passed number.form number.width number.fixed value it.bits (both_true _ (has_value number.fixed) shaped).1 it.stored in
              let here : start + distance ≡ at = omega (arith, from, cap, short, ends) in
              ap (λ (n : ℕ). number_at all n (nat_abs number.width)) here
              ∙ number_found all at (nat_abs number.width) it.bits (ap length key.are ∙ length_number (nat_abs number.width) (key_bits number.width number.fixed)) (omega (arith, within, ends)) it.there
              ∙ ap (λ (n : ℕ). Some n) (ap number_of key.are ∙ back (nat_abs number.width) (key_bits number.width number.fixed) key.small)

  field_keys_there : (in_case : Bool) (field : PlainField) (before : Option ℕ) (start : ℕ) (env : Environment) (passed : Passed) (value : Option Tree) (at : ℕ) (late : List Bool) (after : ℕ) (late_after : List Bool)
      → is_shaped in_case field ≡ true → HasPlaces env → FieldSpells plainly known all field env passed value at late after late_after → after ≤ length all
      → ((b : ℕ) → before ≡ Some b → at ≡ start + b) → AllByRecursion (KeyThere all start) (field_key before field)
  field_keys_there in_case (Number number) before start env passed value at late after late_after shaped has it within place =
      let one = single known all env passed (OneNumber number) (values_for (Number number) value) at late after late_after it.1 in
      number_key_there in_case number before start env passed one.value at late after late_after shaped has one.spelled within place
  field_keys_there in_case (Text text) before start env passed value at late after late_after shaped has it within place = tt
  field_keys_there in_case (Points points) before start env passed value at late after late_after shaped has it within place = tt
  field_keys_there in_case (Fill unit count) before start env passed value at late after late_after shaped has it within place = tt
  field_keys_there in_case (Align unit) before start env passed value at late after late_after shaped has it within place = tt
  field_keys_there in_case (Label name) before start env passed value at late after late_after shaped has it within place = tt
  field_keys_there in_case (Array name count row) before start env passed value at late after late_after shaped has it within place = tt
  field_keys_there in_case (Switch cases) before start env passed value at late after late_after shaped has it within place = tt

  next_place : (before fixed : Option ℕ) (start at mid : ℕ) → ((b : ℕ) → before ≡ Some b → at ≡ start + b) → ((width : ℕ) → fixed ≡ Some width → mid ≡ at + width)
      → (b : ℕ) → plus before fixed ≡ Some b → mid ≡ start + b
  next_place None fixed start at mid place wide b is = absurd cc
  next_place (Some x) None start at mid place wide b is = absurd cc
  next_place (Some x) (Some y) start at mid place wide b is =
      let one = place x refl in let other = wide y refl in let sum = some_is (x + y) b is in omega (arith, one, other, sum)

  keys_there : (in_case : Bool) (body : PlainBody) (before : Option ℕ) (start : ℕ) (env : Environment) (passed : Passed) (line : List Tree) (at : ℕ) (late : List Bool) (after : ℕ) (late_after : List Bool)
      → are_shaped in_case body ≡ true → HasPlaces env → BodySpells plainly known all body env passed line at late after late_after → after ≤ length all
      → ((b : ℕ) → before ≡ Some b → at ≡ start + b) → AllByRecursion (KeyThere all start) (keys_from before body)
  keys_there in_case no_fields before start env passed line at late after late_after shaped has it within place = tt
  keys_there in_case (field_and field fields) before start env passed line at late after late_after shaped has it within place =
      let test = both_true (is_shaped in_case field) (are_shaped in_case fields) shaped in
      let here = at_field (field_and field fields) passed in
      let first = field_wide known all in_case field env here it.0 at late it.2 it.3 test.0 has it.5 in
      let rest = body_wide known all in_case fields env (behind field here) it.1 it.2 it.3 after late_after test.1 has it.6 in
      let grows = rest.grows in
      all_append (KeyThere all start) (field_key before field) (keys_from (plus before (fixed_width field)) fields)
      (field_keys_there in_case field before start env here it.0 at late it.2 it.3 test.0 has it.5 (omega (arith, grows, within)) place)
      (keys_there in_case fields (plus before (fixed_width field)) start env (behind field here) it.1 it.2 it.3 after late_after test.1 has it.6 within
      (next_place before (fixed_width field) start at it.2 place first.is))

  -- those of a case
  pub case_keys_there : (row : PlainBody) (env : Environment) (passed : Passed) (line : List Tree) (at : ℕ) (late : List Bool) (after : ℕ) (late_after : List Bool)
      → are_shaped true row ≡ true → HasPlaces env → BodySpells plainly known all row env passed line at late after late_after → after ≤ length all → AllByRecursion (KeyThere all at) (case_keys row)
  case_keys_there row env passed line at late after late_after shaped has it within =
      keys_there true row (Some 0) at env passed line at late after late_after shaped has it within (λ b is. (let e = some_is 0 b is in omega (arith, e)))

-- The key of a case.

record KeyFound (all : List Bool) (at : ℕ) (key : CaseKey) : Type 0 where
  distance : ℕ
  is : key.distance ≡ Some distance
  there : number_at all (at + distance) key.width ≡ Some key.bits

key_found : (all : List Bool) (at : ℕ) (row : PlainBody) (others : PlainCases) (has : HasKey row others) → AllByRecursion (KeyThere all at) (case_keys row) → KeyFound all at has.key
key_found all at row others has there =
    let own = subst (λ (keys : List CaseKey). AllByRecursion (KeyThere all at) keys) has.alone there in
    let some = there_is has.key.distance has.fixed in
    record { distance = some.0; is = some.1; there = own.0 some.0 some.1 }

key_bits_at : (all : List Bool) (at : ℕ) (key : CaseKey) → KeyFound all at key → key_at all at key.width key.distance ≡ Some key.bits
key_bits_at all at key found = ap (key_at all at key.width) found.is ∙ found.there

pub keys_found : (all : List Bool) (at : ℕ) (row : PlainBody) (others : PlainCases) → HasKey row others → AllByRecursion (KeyThere all at) (case_keys row) → has_keys all at (case_keys row) ≡ true
keys_found all at row others has there =
    let own = key_bits_at all at has.key (key_found all at row others has there) in
    let same : (has.key.bits == has.key.bits) ≡ true = itself has.key.bits in
    ap (has_keys all at) has.alone
    ∙ ap (λ (b : Bool). b && true) (ap (λ (o : Option ℕ). has_bits o has.key.bits) own ∙ same)

other_key : (all : List Bool) (at : ℕ) (one other : CaseKey) → StandApart one other → KeyFound all at other → has_key_at all at one ≡ false
other_key all at one other apart found =
    ap (λ (o : Option ℕ). has_bits o one.bits)
    ((λ i. key_at all at (apart.width i) (apart.distance i)) ∙ key_bits_at all at other found)
    ∙ differ other.bits one.bits (λ same. apart.bits (sym same))
  where
    differ : (a b : ℕ) → a ≢ b → (a == b) ≡ false
    differ a b apart = grind (arith, nat_tests, apart)

module _ (back : (width number : ℕ) → number < 2 ^ width → number_of (number_bits width number) ≡ number) (known : Facts) (all : List Bool) where
  -- a key that stands apart from those of all these cases isn't there, where one of these is spelled
  key_apart : (cases : PlainCases) (key : CaseKey) (env : Environment) (passed : Passed) (value : Option Tree) (at : ℕ) (late : List Bool) (after : ℕ) (late_after : List Bool)
      → are_cases_shaped cases ≡ true → HasPlaces env → AreCasesApart cases → IsApartFrom key cases → CaseSpells plainly known all cases env passed value at late after late_after → after ≤ length all
      → has_key_at all at key ≡ false
  key_apart no_cases key env passed value at late after late_after shaped has apart from it within = absurd it
  key_apart (case_and name row others) key env passed value at late after late_after shaped has apart from it within =
      let test = both_true (is_own_name name) (are_shaped true row && are_cases_shaped others) shaped in
      let both = both_true (are_shaped true row) (are_cases_shaped others) test.1 in
      by_choice (has_key_at all at key ≡ false) _ _
      (λ this.
      let inside = this.2 in
      let there = case_keys_there back known all row inside.0 (at_front row passed) this.0 at late after late_after both.0 (places_inside true row None env inside.0 both.0 inside.1 has) inside.2 within in
      other_key all at key apart.0.key (subst (λ (keys : List CaseKey). AllByRecursion (StandApart key) keys) apart.0.alone from.0).0 (key_found all at row others apart.0 there))
      (λ other. key_apart others key env passed value at late after late_after both.1 has apart.2 from.1 other within)
      (is_case name value) it

  -- so the keys of a case aren't there where another after it is spelled
  pub keys_absent : (row : PlainBody) (others : PlainCases) (own : HasKey row others) (env : Environment) (passed : Passed) (value : Option Tree) (at : ℕ) (late : List Bool) (after : ℕ) (late_after : List Bool)
      → are_cases_shaped others ≡ true → HasPlaces env → AreCasesApart others → CaseSpells plainly known all others env passed value at late after late_after → after ≤ length all
      → has_keys all at (case_keys row) ≡ false
  keys_absent row others own env passed value at late after late_after shaped has apart it within =
      ap (has_keys all at) own.alone
      ∙ ap (λ (b : Bool). b && true) (key_apart others own.key env passed value at late after late_after shaped has apart own.apart it within)
