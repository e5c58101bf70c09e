-- How many bytes an open text has, in widths that are capped.
use Rattle.std.proofs.Common.{◌≡◌, ◌≢◌, ◌⊎◌, inl, inr, ℕ, suc, ◌+◌, ◌-◌, ◌/◌, ◌%◌, ◌<◌, ◌≤◌, ◌==◌, Bool, true, false, Option, Some, None, refl, sym, ap, ◌∙◌, arith}
use Rattle.std.specs.Prelude.{nat_le, nat_lt, if◌then◌else◌, option_map}
use Rattle.std.proofs.lemmas.Bool.Decides.{leb_tells, nat_tests}
use Rattle.rz_types_fields.specs.Width.{capped}
use Rattle.rz_unlay_pieces.specs.Ahead.{bytes_before, bytes_left, open_size, Told}
use Rattle.rz_unlay_pieces.specs.Seen.{told_capped}

-- Sizes up to the end.

pub left_capped : (len : ℕ) (width : Option ℕ) (at : ℕ) → len ≤ 134217696 → bytes_left len (option_map capped width) at ≡ bytes_left len width at
left_capped len None at short = refl
left_capped len (Some width) at short = by (leb_tells (suc len) (at + width))
  where
    by : ((nat_le (suc len) (at + width) ≡ true) × (suc len ≤ at + width)) ⊎ ((nat_le (suc len) (at + width) ≡ false) × (at + width < suc len))
        → bytes_left len (Some (capped width)) at ≡ bytes_left len (Some width) at
    by (inl (is, over)) =
        let one : nat_lt len (at + capped width) ≡ true = grind (arith, nat_tests) in
        let other : nat_lt len (at + width) ≡ true = grind (arith, nat_tests) in
        ap (λ (test : Bool). if test then None else Some ((len - capped width - at) / 8)) one
        ∙ sym (ap (λ (test : Bool). if test then None else Some ((len - width - at) / 8)) other)
    by (inr (is, within)) =
        let same : capped width ≡ width = omega arith in
        ap (λ w. bytes_left len (Some w) at) same

-- Sizes up to a label.

abbrev whole_bytes : ℕ → Bool → Option ℕ
whole_bytes room whole = if whole then Some (room / 8) else None

abbrev to_label : Told → ℕ → Bool → Option ℕ
to_label told at over = if over then None else whole_bytes (told.place - told.width - at) ((told.place - told.width - at) % 8 == 0)

module _ (told : Told) (at : ℕ) where
  pub before_over : told.place < at + told.width → None ≡ bytes_before told at
  before_over over = let one : nat_lt told.place (at + told.width) ≡ true = grind (arith, nat_tests) in ap (to_label told at) (sym one)

  pub before_whole : at + told.width ≤ told.place → (told.place - at - told.width) % 8 ≡ 0 → Some ((told.place - at - told.width) / 8) ≡ bytes_before told at
  before_whole within whole =
      let one : nat_lt told.place (at + told.width) ≡ false = grind (arith, nat_tests) in
      let e : told.place - at - told.width ≡ told.place - told.width - at = omega arith in
      let other : ((told.place - told.width - at) % 8 == 0) ≡ true = grind (arith, nat_tests) in
      ap (λ (n : ℕ). Some (n / 8)) e ∙ ap (whole_bytes (told.place - told.width - at)) (sym other) ∙ ap (to_label told at) (sym one)

  pub before_part : at + told.width ≤ told.place → (told.place - at - told.width) % 8 ≢ 0 → None ≡ bytes_before told at
  before_part within part =
      let one : nat_lt told.place (at + told.width) ≡ false = grind (arith, nat_tests) in
      let e : told.place - at - told.width ≡ told.place - told.width - at = omega arith in
      let other : ((told.place - told.width - at) % 8 == 0) ≡ false = grind (arith, nat_tests) in
      ap (whole_bytes (told.place - told.width - at)) (sym other) ∙ ap (to_label told at) (sym one)

-- one of a width that is capped
pub before_capped : (told : Told) (at : ℕ) → told.place ≤ 134217696 → bytes_before (told_capped told) at ≡ bytes_before told at
before_capped told at short = by (leb_tells told.width 134217697)
  where
    by : ((nat_le told.width 134217697 ≡ true) × (told.width ≤ 134217697)) ⊎ ((nat_le told.width 134217697 ≡ false) × (134217697 < told.width)) → bytes_before (told_capped told) at ≡ bytes_before told at
    by (inl (is, few)) =
        let same : capped told.width ≡ told.width = omega (arith, few) in
        ap (λ (w : ℕ). bytes_before (record { place = told.place; width = w }) at) same
    by (inr (is, many)) =
        let one : nat_lt told.place (at + capped told.width) ≡ true = grind (arith, nat_tests) in
        let other : nat_lt told.place (at + told.width) ≡ true = grind (arith, nat_tests) in
        ap (λ (test : Bool). if test then None else if (told.place - capped told.width - at) % 8 == 0 then Some ((told.place - capped told.width - at) / 8) else None) one
        ∙ sym (ap (λ (test : Bool). if test then None else if (told.place - told.width - at) % 8 == 0 then Some ((told.place - told.width - at) / 8) else None) other)

told_some : (one other : Told) → ◌≡◌ {A = Option Told} (Some one) (Some other) → one ≡ other
told_some one other is = cc

pub open_told : (len : ℕ) (told : Option Told) (label : Told) (width : Option ℕ) (at : ℕ) → label.place ≤ 134217696 → Some label ≡ option_map told_capped told → bytes_before label at ≡ open_size len told width at
open_told len None label width at short is = absurd cc
open_told len (Some told) label width at short is =
    let same = told_some label (told_capped told) is in
    let place : label.place ≡ told.place = ap (λ (t : Told). t.place) same in
    ap (λ (t : Told). bytes_before t at) same ∙ before_capped told at (omega (arith, short, place))

pub open_left : (len : ℕ) (told : Option Told) (width : Option ℕ) (at : ℕ) → None ≡ option_map told_capped told → bytes_left len width at ≡ open_size len told width at
open_left len None width at is = refl
open_left len (Some told) width at is = absurd cc
