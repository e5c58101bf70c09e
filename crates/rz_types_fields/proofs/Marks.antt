-- What is seen of bits, of which some are late.
use Rattle.std.proofs.Common.{◌≡◌, ℕ, zero, suc, ◌+◌, ◌-◌, ◌<◌, ◌≤◌, ◌||◌, Bool, true, false, ℤ, pos, negsuc, List, [], ◌∷◌, ◌++◌, length, take, drop, Option, Some, None, ◌+ℤ◌, ◌≤ℤ◌, refl, sym, ap, ◌∙◌, arith}
use Rattle.std.specs.Prelude.{if◌then◌else◌, min, nat_abs, nat_le, nat_lt, option_map, replicate}
use Rattle.std.proofs.lemmas.Bool.{ltb-false, ltb-true}
use Rattle.std.proofs.lemmas.Bool.Decides.{nat_tests}
use Rattle.std.proofs.lemmas.List.{length-take}
use Rattle.std.proofs.lemmas.Int.{ints}
use lib.Signed.{lt_z}
use Rattle.rz_core.specs.declared.facts.Facts.{Facts}
use Rattle.rz_bits.specs.Bits.{number_of}
use Rattle.rz_bits.specs.View.{number_at}
use Rattle.rz_bits.proofs.Any.{any_set, cut_taken}
use Rattle.rz_expr.specs.Environment.{Sight}
use Rattle.rz_types_fields.specs.Known.{known}
use Rattle.rz_types_fields.specs.Sees.{beside, bits_before, hit, marked, sees}
use Rattle.rz_types_fields.specs.declared.names.Note.{Note}

-- Marks after which no bit is late.

none_taken : (width count : ℕ) → any_set (take width (replicate count false)) ≡ false
none_taken zero count = refl
none_taken (suc width) zero = refl
none_taken (suc width) (suc count) = none_taken width count

none_set : (width first count : ℕ) → any_set (take width (drop first (replicate count false))) ≡ false
none_set width zero count = none_taken width count
none_set zero (suc first) zero = refl
none_set (suc width) (suc first) zero = refl
none_set width (suc first) (suc count) = none_set width first count

nothing_set : (width first : ℕ) → any_set (take width (drop first [])) ≡ false
nothing_set width first = none_set width first 0

set_behind : (marks : List Bool) (first width count : ℕ) → any_set (take width (drop first (marks ++ replicate count false))) ≡ any_set (take width (drop first marks))
set_behind [] first width count = none_set width first count ∙ sym (nothing_set width first)
set_behind (mark ∷ marks) zero zero count = refl
set_behind (mark ∷ marks) zero (suc width) count = ap (λ (b : Bool). mark || b) (set_behind marks zero width count)
set_behind (mark ∷ marks) (suc first) width count = set_behind marks first width count

pub hit_behind : (marks : List Bool) (count : ℕ) (first width : ℤ) → hit (marks ++ replicate count false) first width ≡ hit marks first width
hit_behind marks count (pos first) (pos width) = set_behind marks first width count
hit_behind marks count (pos first) (negsuc width) = refl
hit_behind marks count (negsuc first) (pos width) = refl
hit_behind marks count (negsuc first) (negsuc width) = refl

hit_nothing : (first width : ℤ) → hit [] first width ≡ false
hit_nothing (pos first) (pos width) = nothing_set width first
hit_nothing (pos first) (negsuc width) = refl
hit_nothing (negsuc first) (pos width) = refl
hit_nothing (negsuc first) (negsuc width) = refl

abbrev without : Option ℤ → Bool → Option ℤ
without seen late = if late then None else seen

pub beside_marked : (marks : List Bool) (count : ℕ) (sight : Sight) → beside marks sight ≡ beside (marked count marks) sight
beside_marked marks count sight = λ i. record {
  names = sight.names;
  bits = λ first width. without (sight.bits first width) (sym (hit_behind marks (count - length marks) first width) i);
  fact = sight.fact;
}

beside_nothing : (sight : Sight) → beside [] sight ≡ sight
beside_nothing sight = λ i. record {
  names = sight.names;
  bits = λ first width. ap (without (sight.bits first width)) (hit_nothing first width) i;
  fact = sight.fact;
}

pub beside_none : (none : List Bool) (sight : Sight) → none ≡ [] → beside none sight ≡ sight
beside_none none sight is = ap (λ (marks : List Bool). beside marks sight) is ∙ beside_nothing sight

pub sight_is : (facts : Facts) (bits marks : List Bool) (notes slice : List Note) (at : ℕ) → slice ≡ notes → at ≡ length bits
    → beside marks (sees facts bits (known slice) at) ≡ beside (marked (length bits) marks) (sees facts bits (known notes) (length bits))
sight_is facts bits marks notes slice at same end =
    (λ i. beside marks (sees facts bits (known (same i)) (end i))) ∙ beside_marked marks (length bits) (sees facts bits (known notes) (length bits))

-- Bits before a place.

pub none_either : (test : Bool) (seen : Option ℤ) → seen ≡ None → None ≡ (if test then None else seen)
none_either true seen none = refl
none_either false seen none = sym none

is_le : (a b : ℕ) → a ≤ b → nat_le a b ≡ true
is_le a b within = grind (arith, nat_tests)

not_le : (a b : ℕ) → b < a → nat_le a b ≡ false
not_le a b over = grind (arith, nat_tests)

same_test : (k at long : ℕ) → k ≤ at → nat_le k long ≡ nat_le k (min at long)
same_test k at long within = by (nat_lt long k) refl
  where
    by : (test : Bool) → nat_lt long k ≡ test → nat_le k long ≡ nat_le k (min at long)
    by true is = let less = ltb-true long k is in not_le k long less ∙ sym (not_le k (min at long) (omega (arith, less)))
    by false is = let most = ltb-false long k is in is_le k long most ∙ sym (is_le k (min at long) (omega (arith, most, within)))

-- a number that ends before a place stands among the bits before it
pub cut_number : (bits : List Bool) (at first width : ℕ) → first + width ≤ at → number_at bits first width ≡ number_at (take at bits) first width
cut_number bits at first width within =
    let long : length (take at bits) ≡ min at (length bits) = length-take at bits in
    (λ i. option_map number_of (if same_test (first + width) at (length bits) within i then Some (cut_taken bits at first width within i) else None))
    ∙ ap (λ (n : ℕ). option_map number_of (if nat_le (first + width) n then Some (take width (drop first (take at bits))) else None)) (sym long)

pub not_less : (a b : ℤ) → lt_z a b ≡ false → b ≤ℤ a
not_less a b is = grind (arith, ints)

pub width_back : (width : ℤ) → pos 1 ≤ℤ width → pos (nat_abs width) ≡ width
width_back (pos n) some = refl
width_back (negsuc n) some = absurd (omega (arith, ints, some))

-- the number in so many bits that stand before a place, none of them late
pub seen_number : (bits marks : List Bool) (at : ℕ) (first : ℤ) (width : ℕ) (number : Option ℕ) → number ≡ number_at bits (nat_abs first) width
    → false ≡ any_set (take width (drop (nat_abs first) marks)) → pos 0 ≤ℤ first → (first +ℤ pos width) ≤ℤ pos at
    → option_map (λ n. pos n) number ≡ (if hit marks first (pos width) then None else bits_before bits at first (pos width))
seen_number bits marks at (pos first) width number is not_hit low most =
    ap (option_map (λ n. pos n)) (is ∙ cut_number bits at first width (omega (arith, ints, most)))
    ∙ ap (without (bits_before bits at (pos first) (pos width))) not_hit
seen_number bits marks at (negsuc first) width number is not_hit low most = absurd (omega (arith, ints, low))
