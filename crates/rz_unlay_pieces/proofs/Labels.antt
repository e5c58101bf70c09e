-- Labels that stand ahead, one field more at a time.
use Rattle.std.proofs.Common.{◌≡◌, ◌⊎◌, inl, inr, ℕ, ◌+◌, ◌<◌, ◌≤◌, Bool, true, false, ℤ, pos, List, length, get_or, drop, Option, Some, None, refl, sym, ap, ◌∙◌, arith}
use Rattle.std.specs.Prelude.{if◌then◌else◌, nat_le, option_and_then, option_map}
use Rattle.std.proofs.lemmas.Bool.Decides.{leb_tells, nat_tests}
use Rattle.rz_core.specs.Lists.{or_else}
use Rattle.rz_bits.specs.BitBuf.{missing}
use Rattle.rz_bits.specs.View.{seen}
use Rattle.rz_expr.specs.Environment.{count_key, place_in_key, row_key, rows_key, Environment, Key}
use Rattle.rz_types_fields.specs.Field.{field_and, no_fields, plain_body, plain_field, Align, Array, Fill, Label, Number, PlainBody, PlainField, Points, Switch, Text}
use Rattle.rz_types_fields.specs.Passed.{is_label, stands_at}
use Rattle.rz_types_fields.specs.Width.{capped, fixed_width}
use Rattle.rz_types_fields.specs.declared.field.Field.{Field}
use Rattle.rz_types_fields.proofs.Bodies.{body_end, body_next}
use Rattle.rz_unlay_pieces.specs.Ahead.{behind_measured, label_place, near_place, place_within, told_label, wider, Told}
use Rattle.rz_unlay_pieces.specs.Seen.{behind_capped, near_value, told_capped}
use Rattle.rz_unlay_pieces.specs.declared.spot.Spot.{Spot}

some_is : (a b : ℕ) → ◌≡◌ {A = Option ℕ} (Some a) (Some b) → a ≡ b
some_is a b is = cc

-- Places after fields.

-- a place after a field isn't before it

map_grows : (width : Option ℕ) (at next : ℕ) → option_map (λ bits. at + bits) width ≡ Some next → at ≤ next
map_grows None at next is = absurd cc
map_grows (Some bits) at next is = let e = some_is (at + bits) next is in omega (arith, e)

behind_grows : (field : PlainField) (at next : ℕ) → behind_measured field at ≡ Some next → at ≤ next
behind_grows (Number number) at next is = map_grows (fixed_width (Number number)) at next is
behind_grows (Text text) at next is = map_grows (fixed_width (Text text)) at next is
behind_grows (Points points) at next is = map_grows (fixed_width (Points points)) at next is
behind_grows (Fill unit count) at next is = map_grows (fixed_width (Fill unit count)) at next is
behind_grows (Align unit) at next is = let e = some_is (at + missing unit at) next is in omega (arith, e)
behind_grows (Label name) at next is = map_grows (fixed_width (Label name)) at next is
behind_grows (Array name count row) at next is = map_grows (fixed_width (Array name count row)) at next is
behind_grows (Switch cases) at next is = map_grows (fixed_width (Switch cases)) at next is

-- where widths are capped the place is the same, or both are after the most bits
record Capped (field : PlainField) (at next : ℕ) : Type 0 where
  place : ℕ
  is : behind_measured field at ≡ Some place
  same : (place ≡ next) ⊎ ((134217696 < place) × (134217696 < next))

capped_same : (at bits next : ℕ) → next ≡ at + capped bits → (at + bits ≡ next) ⊎ ((134217696 < at + bits) × (134217696 < next))
capped_same at bits next is = by (leb_tells bits 134217697)
  where
    by : ((nat_le bits 134217697 ≡ true) × (bits ≤ 134217697)) ⊎ ((nat_le bits 134217697 ≡ false) × (134217697 < bits)) → (at + bits ≡ next) ⊎ ((134217696 < at + bits) × (134217696 < next))
    by (inl (test, few)) = inl (omega (arith, few, is))
    by (inr (test, many)) = inr (omega (arith, many), omega (arith, many, is))

map_capped : (field : PlainField) (width : Option ℕ) (at next : ℕ) → behind_measured field at ≡ option_map (λ bits. at + bits) width → Some next ≡ option_map (λ bits. at + capped bits) width → Capped field at next
map_capped field None at next exact is = absurd cc
map_capped field (Some bits) at next exact is = record { place = at + bits; is = exact; same = capped_same at bits next (some_is next (at + capped bits) is) }

behind_same : (field : PlainField) (at next : ℕ) → Some next ≡ behind_capped field at → Capped field at next
behind_same (Number number) at next is = map_capped (Number number) (fixed_width (Number number)) at next refl is
behind_same (Text text) at next is = map_capped (Text text) (fixed_width (Text text)) at next refl is
behind_same (Points points) at next is = map_capped (Points points) (fixed_width (Points points)) at next refl is
behind_same (Fill unit count) at next is = map_capped (Fill unit count) (fixed_width (Fill unit count)) at next refl is
behind_same (Align unit) at next is = record { place = at + missing unit at; is = refl; same = inl (sym (some_is next (at + missing unit at) is)) }
behind_same (Label name) at next is = map_capped (Label name) (fixed_width (Label name)) at next refl is
behind_same (Array name count row) at next is = map_capped (Array name count row) (fixed_width (Array name count row)) at next refl is
behind_same (Switch cases) at next is = map_capped (Switch cases) (fixed_width (Switch cases)) at next refl is

map_none : (width : Option ℕ) (at : ℕ) → None ≡ option_map (λ bits. at + capped bits) width → option_map (λ bits. at + bits) width ≡ None
map_none None at is = refl
map_none (Some bits) at is = absurd cc

none_behind : (field : PlainField) (at : ℕ) → None ≡ behind_capped field at → behind_measured field at ≡ None
none_behind (Number number) at is = map_none (fixed_width (Number number)) at is
none_behind (Text text) at is = map_none (fixed_width (Text text)) at is
none_behind (Points points) at is = map_none (fixed_width (Points points)) at is
none_behind (Fill unit count) at is = map_none (fixed_width (Fill unit count)) at is
none_behind (Align unit) at is = absurd cc
none_behind (Label name) at is = map_none (fixed_width (Label name)) at is
none_behind (Array name count row) at is = map_none (fixed_width (Array name count row)) at is
none_behind (Switch cases) at is = map_none (fixed_width (Switch cases)) at is

-- Near labels.

abbrev pub near_within : ℕ → PlainBody → ℕ → Key → Option ℕ
near_within len body at key = place_within len (option_map (λ p. pos p) (near_place body at key))

abbrev near_step : ℕ → PlainBody → Key → ℕ → Bool → Option ℕ → Option ℕ
near_step len fields key at test next = place_within len (option_map (λ p. pos p) (if test then Some at else option_and_then (λ n. near_place fields n key) next))

-- after the end of the resource none is looked for
pub near_over : (len : ℕ) (body : PlainBody) (at : ℕ) (key : Key) → len < at → None ≡ near_within len body at key
near_over len no_fields at key over = refl
near_over len (field_and field fields) at key over = by (is_label field key) (behind_measured field at) (behind_grows field at) (λ n. near_over len fields n key)
  where
    by : (test : Bool) (next : Option ℕ) → ((n : ℕ) → next ≡ Some n → at ≤ n) → ((n : ℕ) → len < n → None ≡ near_within len fields n key) → None ≡ near_step len fields key at test next
    by true next grows further = let e : nat_le at len ≡ false = grind (arith, nat_tests) in ap (λ (b : Bool). if b then Some at else None) (sym e)
    by false None grows further = refl
    by false (Some n) grows further = let more = grows n refl in further n (omega (arith, over, more))

-- only labels by themselves are near
module _ (key : Key) (other : (name : List ℕ) → stands_at name key ≡ false) where
  no_label : (field : PlainField) → is_label field key ≡ false
  no_label (Number number) = refl
  no_label (Text text) = refl
  no_label (Points points) = refl
  no_label (Fill unit count) = refl
  no_label (Align unit) = refl
  no_label (Label name) = other name.bytes
  no_label (Array name count row) = refl
  no_label (Switch cases) = refl

  none_near : (body : PlainBody) (at : ℕ) → near_place body at key ≡ None
  none_near no_fields at = refl
  none_near (field_and field fields) at =
      ap (λ (test : Bool). if test then Some at else option_and_then (λ n. near_place fields n key) (behind_measured field at)) (no_label field)
      ∙ by (behind_measured field at) (λ n. none_near fields n)
    where
      by : (next : Option ℕ) → ((n : ℕ) → near_place fields n key ≡ None) → option_and_then (λ n. near_place fields n key) next ≡ None
      by None further = refl
      by (Some n) further = further n

  pub not_near : (spot : Spot) → None ≡ near_value spot key
  not_near spot =
      sym (ap (λ (p : Option ℕ). option_map (λ q. pos q) (place_within (length (seen spot.view.now)) (option_map (λ q. pos q) p))) (none_near (plain_body spot.fields.now) spot.first))

pub count_far : (spot : Spot) (name : List ℕ) → None ≡ near_value spot (count_key name)
count_far spot name = not_near (count_key name) (λ label. refl) spot

pub rows_far : (spot : Spot) (label : List ℕ) → None ≡ near_value spot (rows_key label)
rows_far spot label = not_near (rows_key label) (λ other. refl) spot

pub place_in_far : (spot : Spot) (label : List ℕ) (number : ℤ) → None ≡ near_value spot (place_in_key label number)
place_in_far spot label number = not_near (place_in_key label number) (λ other. refl) spot

pub row_far : (spot : Spot) (array : List ℕ) → None ≡ near_value spot (row_key array)
row_far spot array = not_near (row_key array) (λ label. refl) spot

module _ (len : ℕ) (fields : List Field) (i : ℕ) (field : Field) (less : i < length fields) (item : field ≡ get_or fields i field) (at : ℕ) (key : Key) (total : Option ℕ)
    (so : near_within len (plain_body (drop i fields)) at key ≡ total) where
  abbrev others : PlainBody
  others = plain_body (drop (i + 1) fields)

  near_is : near_step len others key at (is_label (plain_field field) key) (behind_measured (plain_field field) at) ≡ total
  near_is = ap (λ (body : PlainBody). near_within len body at key) (sym (body_next fields i field less item)) ∙ so

  pub near_here : at ≤ len → true ≡ is_label (plain_field field) key → Some at ≡ total
  near_here within is =
      (let e : nat_le at len ≡ true = grind (arith, nat_tests) in ap (λ (b : Bool). if b then Some at else None) (sym e))
      ∙ ap (λ (test : Bool). near_step len others key at test (behind_measured (plain_field field) at)) is
      ∙ near_is

  pub near_more : (next : ℕ) → len ≤ 134217696 → false ≡ is_label (plain_field field) key → Some next ≡ behind_capped (plain_field field) at → near_within len others next key ≡ total
  near_more next short not_label is =
      let one = behind_same (plain_field field) at next is in
      by one.place one.same
      ∙ ap (near_step len others key at false) (sym one.is)
      ∙ ap (λ (test : Bool). near_step len others key at test (behind_measured (plain_field field) at)) not_label
      ∙ near_is
    where
      by : (place : ℕ) → (place ≡ next) ⊎ ((134217696 < place) × (134217696 < next)) → near_within len others next key ≡ near_within len others place key
      by place (inl same) = ap (λ (n : ℕ). near_within len others n key) (sym same)
      by place (inr (one, other)) = sym (near_over len others next key (omega (arith, short, other))) ∙ near_over len others place key (omega (arith, short, one))

  pub no_near : false ≡ is_label (plain_field field) key → None ≡ behind_capped (plain_field field) at → None ≡ total
  no_near not_label is =
      ap (near_step len others key at false) (sym (none_behind (plain_field field) at is))
      ∙ ap (λ (test : Bool). near_step len others key at test (behind_measured (plain_field field) at)) not_label
      ∙ near_is

  pub near_behind : len < at → None ≡ total
  near_behind over = near_over len (plain_body (drop i fields)) at key over ∙ so

pub near_end : (len : ℕ) (fields : List Field) (i at : ℕ) (key : Key) (total : Option ℕ) → length fields ≤ i → near_within len (plain_body (drop i fields)) at key ≡ total → None ≡ total
near_end len fields i at key total past so = ap (λ (body : PlainBody). near_within len body at key) (sym (body_end fields i past)) ∙ so

-- Told labels.

abbrev pub told_behind : ℕ → Environment → ℕ → PlainBody → Option Told
told_behind len names width body = option_map told_capped (option_map (wider width) (told_label len body names))

pub told_first : (len : ℕ) (names : Environment) (body : PlainBody) → told_behind len names 0 body ≡ option_map told_capped (told_label len body names)
told_first len names body = by (told_label len body names)
  where
    by : (told : Option Told) → option_map told_capped (option_map (wider 0) told) ≡ option_map told_capped told
    by None = refl
    by (Some told) = let e : capped (0 + told.width) ≡ capped told.width = omega arith in ap (λ (w : ℕ). Some (record { place = told.place; width = w })) e

module _ (len : ℕ) (names : Environment) (fields : List Field) (i : ℕ) (field : Field) (less : i < length fields) (item : field ≡ get_or fields i field) (width : ℕ) (total : Option Told)
    (so : told_behind len names width (plain_body (drop i fields)) ≡ total) where
  abbrev told_rest : Option Told
  told_rest = told_label len (plain_body (drop (i + 1) fields)) names

  abbrev told_step : Option ℕ → Option ℕ → Option Told
  told_step place own =
      option_map told_capped (option_map (wider width) (or_else (option_map (λ p. record { place = p; width = 0 }) place) (option_and_then (λ w. option_map (wider w) told_rest) own)))

  told_is : told_step (label_place len (plain_field field) names) (fixed_width (plain_field field)) ≡ total
  told_is = ap (told_behind len names width) (sym (body_next fields i field less item)) ∙ so

  pub told_here : (place : ℕ) → width ≤ 134217697 → Some place ≡ label_place len (plain_field field) names → Some (record { place = place; width = width }) ≡ total
  told_here place few is =
      (let e : width ≡ capped (width + 0) = omega (arith, few) in ap (λ (w : ℕ). Some (record { place = place; width = w })) e)
      ∙ ap (λ (p : Option ℕ). told_step p (fixed_width (plain_field field))) is
      ∙ told_is

  pub told_more : (own : ℕ) → None ≡ label_place len (plain_field field) names → Some own ≡ option_map capped (fixed_width (plain_field field))
      → told_behind len names (capped (width + own)) (plain_body (drop (i + 1) fields)) ≡ total
  told_more own none is = by (fixed_width (plain_field field)) is ∙ ap (λ (p : Option ℕ). told_step p (fixed_width (plain_field field))) none ∙ told_is
    where
      same : (own exact : ℕ) → own ≡ capped exact → (told : Option Told)
          → option_map told_capped (option_map (wider (capped (width + own))) told) ≡ option_map told_capped (option_map (wider width) (option_map (wider exact) told))
      same own exact is None = refl
      same own exact is (Some told) =
          let e : capped (capped (width + own) + told.width) ≡ capped (width + (exact + told.width)) = omega (arith, is) in ap (λ (w : ℕ). Some (record { place = told.place; width = w })) e

      by : (exact : Option ℕ) → Some own ≡ option_map capped exact → told_behind len names (capped (width + own)) (plain_body (drop (i + 1) fields)) ≡ told_step None exact
      by None is = absurd cc
      by (Some exact) is = same own exact (some_is own (capped exact) is) told_rest

  pub no_told : None ≡ label_place len (plain_field field) names → None ≡ option_map capped (fixed_width (plain_field field)) → None ≡ total
  no_told none is = by (fixed_width (plain_field field)) is ∙ ap (λ (p : Option ℕ). told_step p (fixed_width (plain_field field))) none ∙ told_is
    where
      by : (exact : Option ℕ) → None ≡ option_map capped exact → None ≡ told_step None exact
      by None is = refl
      by (Some exact) is = absurd cc

pub told_end : (len : ℕ) (names : Environment) (fields : List Field) (i width : ℕ) (total : Option Told) → length fields ≤ i
    → told_behind len names width (plain_body (drop i fields)) ≡ total → None ≡ total
told_end len names fields i width total past so = ap (told_behind len names width) (sym (body_end fields i past)) ∙ so
