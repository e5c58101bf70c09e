-- Late numbers, written one after the other.
use Rattle.std.proofs.Common.{◌≡◌, ℕ, ◌+◌, ◌≤◌, Bool, ℤ, List, [], ◌∷◌, ◌++◌, length, take, drop, map, Result, Ok, Err, refl, sym, ap, ◌∙◌, arith}
use Rattle.std.specs.Prelude.{max}
use Rattle.std.specs.List.{AllByRecursion}
use Rattle.std.proofs.lemmas.List.{append_assoc, append-nil, length-append, length-drop, length-take-le}
use Rattle.rz_core.specs.Stop.{◌>>=◌, Gives, fault_seen, left}
use Rattle.rz_core.specs.declared.facts.Facts.{Facts}
use Rattle.rz_core.specs.declared.stop.Stop.{Stop}
use Rattle.rz_core.specs.declared.stop.Stop.TheVariants.{NoMemory, Refused}
use Rattle.rz_expr.specs.Environment.{Environment}
use Rattle.rz_layout.specs.Fault.{refusal_of}
use Rattle.rz_layout.specs.Laid.{IsWithin}
use Rattle.rz_layout.specs.Late.{behind_notes, closed_by, late_step, number_held, numbers_in, numbers_of}
use Rattle.rz_layout.specs.declared.fault.LayFault.{LayFault}
use Rattle.rz_layout.specs.declared.late.Late.{Late}
use denote.Param.Weighed.{most, most-append}
use Rattle.rz_layout.specs.declared.late.Late.TheFolds.{fold-roll-Late}
use Rattle.rz_layout.specs.declared.late.Late.TheViews.{size-Late}
use Rattle.rz_layout.specs.declared.late.Late.TheOpen.{Late-F}
use Rattle.rz_layout.specs.declared.late.Late.TheVariants as lates
use Rattle.rz_layout.specs.declared.late.Late.TheVariants.{rolls-Inside, rolls-Number}
use Rattle.rz_layout.specs.declared.late.LateNumber.{LateNumber as HeldNumber}
use Rattle.std.proofs.Common.{Global, Vec}
use Rattle.rz_expr.specs.Value.{value_of}
use Rattle.rz_expr.specs.declared.value.EvalFault.{EvalFault}
use Rattle.rz_types_fields.specs.Sees.{sees}
use Rattle.rz_bits.specs.Bits.{number_bits}
use Rattle.rz_types_fields.proofs.Fronts.{noted_append}
use Rattle.rz_layout.proofs.Room.{length_number}
use Rattle.rz_types_fields.specs.Known.{known}
use Rattle.rz_types_fields.specs.Laid.{fill, late_bits, patched, ranged, valued, LateNumber, Refusal}
use Rattle.rz_types_fields.specs.Passed.{outside}
use Rattle.rz_types_fields.specs.declared.names.Note.{Note}

-- What late numbers are.

pub number_is : (one : Late) (held : HeldNumber) → one ≡ lates.Number held → numbers_of one ≡ number_held held ∷ []
number_is one held is = ap numbers_of (is ∙ sym (rolls-Number held)) ∙ fold-roll-Late (List LateNumber) late_step (Late-F.Number held)

pub inside_is : (one : Late) (notes : Vec Note Global) (inner : List Late) → one ≡ lates.Inside notes inner → numbers_of one ≡ map (closed_by notes.items) (numbers_in inner)
inside_is one notes inner is = ap numbers_of (is ∙ sym (rolls-Inside notes inner)) ∙ fold-roll-Late (List LateNumber) late_step (Late-F.Inside notes inner)

pub numbers_more : (late : List Late) (one : Late) → numbers_in (late ++ one ∷ []) ≡ numbers_in late ++ numbers_of one
numbers_more [] one = append-nil (numbers_of one)
numbers_more (first ∷ late) one =
    ap (λ (others : List LateNumber). numbers_of first ++ others) (numbers_more late one) ∙ sym (append_assoc (numbers_of first) (numbers_in late) (numbers_of one))

pub numbers_append : (late others : List Late) → numbers_in (late ++ others) ≡ numbers_in late ++ numbers_in others
numbers_append [] others = refl
numbers_append (first ∷ late) others =
    ap (λ (behind : List LateNumber). numbers_of first ++ behind) (numbers_append late others) ∙ sym (append_assoc (numbers_of first) (numbers_in late) (numbers_in others))

-- Names.

pub known_behind : (old own : List Note) → behind_notes own (known old) ≡ known (old ++ own)
known_behind old own = λ i. record { give = λ key. sym (noted_append (outside.give key) old own key) i }

-- Several numbers.

pub fill_append : (facts : Facts) (names : Environment) (one other : List LateNumber) (bits : List Bool)
    → fill facts names (one ++ other) bits ≡ (fill facts names one bits >>= λ next. fill facts names other next)
fill_append facts names [] other bits = refl
fill_append facts names (number ∷ one) other bits = by (late_bits facts names number bits) (λ own. fill_append facts names one other (patched number.at own bits))
  where
    by : (own : Result (List Bool) Refusal) → ((o : List Bool) → fill facts names (one ++ other) (patched number.at o bits) ≡ (fill facts names one (patched number.at o bits) >>= λ next. fill facts names other next))
        → (own >>= λ o. fill facts names (one ++ other) (patched number.at o bits)) ≡ ((own >>= λ o. fill facts names one (patched number.at o bits)) >>= λ next. fill facts names other next)
    by (Ok own) rest = rest own
    by (Err fault) rest = refl

pub fill_closed : (facts : Facts) (names : Environment) (notes : List Note) (numbers : List LateNumber) (bits : List Bool)
    → fill facts names (map (closed_by notes) numbers) bits ≡ fill facts (behind_notes notes names) numbers bits
fill_closed facts names notes [] bits = refl
fill_closed facts names notes (number ∷ numbers) bits =
    by (late_bits facts (behind_notes notes names) number bits) (λ own. fill_closed facts names notes numbers (patched number.at own bits))
  where
    by : (own : Result (List Bool) Refusal)
        → ((o : List Bool) → fill facts names (map (closed_by notes) numbers) (patched number.at o bits) ≡ fill facts (behind_notes notes names) numbers (patched number.at o bits))
        → (own >>= λ o. fill facts names (map (closed_by notes) numbers) (patched number.at o bits)) ≡ (own >>= λ o. fill facts (behind_notes notes names) numbers (patched number.at o bits))
    by (Ok own) rest = rest own
    by (Err fault) rest = refl

-- those of a body within
pub fill_inside : (facts : Facts) (one : Late) (notes : Vec Note Global) (inner : List Late) (old after : List Note) (bits : List Bool) → one ≡ lates.Inside notes inner
    → after ≡ old ++ notes.items → fill facts (known old) (numbers_of one) bits ≡ fill facts (known after) (numbers_in inner) bits
fill_inside facts one notes inner old after bits is behind =
    ap (λ (numbers : List LateNumber). fill facts (known old) numbers bits) (inside_is one notes inner is)
    ∙ fill_closed facts (known old) notes.items (numbers_in inner) bits
    ∙ ap (λ (names : Environment). fill facts names (numbers_in inner) bits) (known_behind old notes.items ∙ ap known (sym behind))

-- the value of a late number
pub late_value : (facts : Facts) (names : Environment) (one : LateNumber) (bits : List Bool) (value : Result ℤ EvalFault) → value_of one.term (sees facts bits (one.names names) one.at) ≡ value
    → late_bits facts names one bits ≡ (valued one.piece value >>= λ number. ranged one.piece one.form one.width number)
late_value facts names one bits value is = ap (λ (r : Result ℤ EvalFault). valued one.piece r >>= λ number. ranged one.piece one.form one.width number) is

-- one more
module _ (facts : Facts) (one : Late) (others : List Late) (names : Environment) (bits : List Bool) (all : Result (List Bool) Refusal)
    (so : fill facts names (numbers_in (one ∷ others)) bits ≡ all) where
  abbrev pub fill_behind : List Bool → Result (List Bool) Refusal
  fill_behind next = fill facts names (numbers_in others) next

  all_is : (fill facts names (numbers_of one) bits >>= fill_behind) ≡ all
  all_is = sym (fill_append facts names (numbers_of one) (numbers_in others) bits) ∙ so

  pub fill_refused : (stop : Stop LayFault) (after : List Bool) → Gives (fill facts names (numbers_of one) bits) (fault_seen refusal_of (left after (Err stop)))
      → (other : List Bool) → Gives all (fault_seen refusal_of (left other (Err stop)))
  fill_refused NoMemory after filled other = tt
  fill_refused (Refused fault) after filled other = sym all_is ∙ ap (λ (r : Result (List Bool) Refusal). r >>= fill_behind) filled

  pub fill_more : (next : List Bool) → fill facts names (numbers_of one) bits ≡ Ok next → fill_behind next ≡ all
  fill_more next filled = sym (ap (λ (r : Result (List Bool) Refusal). r >>= fill_behind) filled) ∙ all_is

-- Where late numbers stand.

pub within_front : (count : ℕ) (one other : List LateNumber) → AllByRecursion (IsWithin count) (one ++ other) → AllByRecursion (IsWithin count) one
within_front count [] other are = tt
within_front count (number ∷ one) other are = (are.0, within_front count one other are.1)

pub within_back : (count : ℕ) (one other : List LateNumber) → AllByRecursion (IsWithin count) (one ++ other) → AllByRecursion (IsWithin count) other
within_back count [] other are = are
within_back count (number ∷ one) other are = within_back count one other are.1

pub within_closed : (count : ℕ) (notes : List Note) (numbers : List LateNumber) → AllByRecursion (IsWithin count) (map (closed_by notes) numbers) → AllByRecursion (IsWithin count) numbers
within_closed count notes [] are = tt
within_closed count notes (number ∷ numbers) are = (record { width = are.0.width; stands = are.0.stands }, within_closed count notes numbers are.1)

pub patched_long : (at : ℕ) (own bits : List Bool) → at + length own ≤ length bits → length (patched at own bits) ≡ length bits
patched_long at own bits within =
    length-append (take at bits) (own ++ drop (at + length own) bits)
    ∙ (let front : length (take at bits) ≡ at = length-take-le at bits (omega (arith, within)) in
    let behind : length (own ++ drop (at + length own) bits) ≡ length own + length (drop (at + length own) bits) = length-append own (drop (at + length own) bits) in
    let rest = length-drop (at + length own) bits in
    omega (arith, front, behind, rest, within))

-- a number that is written over the bits that stand for it
pub patched_is : (at width w number : ℕ) (bits after : List Bool) → w ≡ width → after ≡ take at bits ++ (number_bits w number ++ drop (at + w) bits) → patched at (number_bits width number) bits ≡ after
patched_is at width w number bits after same is =
    ap (λ (n : ℕ). take at bits ++ (number_bits width number ++ drop (at + n) bits)) (length_number width number)
    ∙ ap (λ (n : ℕ). take at bits ++ (number_bits n number ++ drop (at + n) bits)) (sym same)
    ∙ sym is

-- How deep they lie.

pub one_within : (before rest all : List Late) (one : Late) → all ≡ before ++ one ∷ rest → size-Late one ≤ most size-Late all
one_within before rest all one is =
    let parts : most size-Late all ≡ max (most size-Late before) (max (size-Late one) (most size-Late rest)) = ap (most size-Late) is ∙ most-append size-Late before (one ∷ rest) in
    omega (arith, parts)
