-- Placed pieces one after the other, of which late ones needn't have a value, and the late numbers that are left of them.
use Rattle.std.proofs.Common.{◌≡◌, ℕ, suc, ◌+◌, ◌≤◌, Bool, true, false, List, [], ◌∷◌, ◌++◌, length, take, drop, map, replicate, Some, None, Option, refl, ap, sym, subst, ◌∙◌, arith}
use Rattle.std.specs.Prelude.{if◌then◌else◌, min, nat_abs, nat_lt}
use Rattle.std.proofs.lemmas.Bool.Decides.{nat_tests}
use Rattle.std.proofs.lemmas.List.{append_assoc, append-nil, drop-drop, length-append}
use Rattle.rz_core.specs.declared.facts.Facts.{Facts}
use Rattle.rz_expr.specs.Environment.{Environment}
use Rattle.rz_layout.proofs.Masks.{take-plus}
use Rattle.rz_laws.specs.Placed.{bits_in, marks_in, Placed}
use Rattle.rz_types_fields.specs.Field.{PlainBody, PlainNumber}
use Rattle.rz_types_fields.specs.Laid.{closing, most_kept, one_more, outside_of, LateNumber}
use Rattle.rz_types_fields.specs.Piece.{OneNumber}
use Rattle.rz_types_fields.specs.RowLabels.{RowOf}
use Rattle.rz_types_fields.specs.Sees.{sees, Late}
use Rattle.rz_types_fields.specs.Spells.{is_late_piece, is_late_size, most_bits, IsStored, RowSpells}

-- Pieces from a place on.

module _ (known : Facts) (all : List Bool) where
  -- a piece from a place to the next
  pub record Goes (one : Placed) (at : ℕ) (late : Late) (after : ℕ) (late_after : Late) : Type 0 where
    pub begins : one.at ≡ at
    pub late_is : one.late ≡ is_late_piece one.passed.met late one.piece (sees known all one.names at)
    pub early : is_late_size one.passed.met late one.piece (sees known all one.names at) ≡ false
    pub stored : one.late ≡ false → IsStored one.piece known at (sees known all one.names at) one.value one.bits
    pub wide : (number : PlainNumber) → one.piece ≡ OneNumber number → length one.bits ≡ nat_abs number.width
    pub there : take (length one.bits) (drop at all) ≡ one.bits
    pub ends : after ≡ at + length one.bits
    pub short : after ≤ most_bits
    pub marked : late_after ≡ late ++ replicate (length one.bits) one.late

  abbrev pub Run : List Placed → RowSpells
  Run [] at late after late_after = (after ≡ at) × (late_after ≡ late)
  Run (one ∷ others) at late after late_after = (mid : ℕ) × (late_mid : Late) × Goes one at late mid late_mid × Run others mid late_mid after late_after

  pub run_and : (front back : List Placed) (at : ℕ) (late : Late) (mid : ℕ) (late_mid : Late) (after : ℕ) (late_after : Late)
      → Run front at late mid late_mid → Run back mid late_mid after late_after → Run (front ++ back) at late after late_after
  run_and [] back at late mid late_mid after late_after first more =
      subst (λ (k : ℕ). Run back k late after late_after) first.0 (subst (λ (m : Late). Run back mid m after late_after) first.1 more)
  run_and (one ∷ front) back at late mid late_mid after late_after first more =
      (first.0, first.1, first.2, run_and front back first.0 first.1 mid late_mid after late_after first.3 more)

  abbrev Parts : List Placed → List Placed → RowSpells
  Parts front back at late after late_after = (mid : ℕ) × (late_mid : Late) × Run front at late mid late_mid × Run back mid late_mid after late_after

  pub run_parts : (front back : List Placed) (at : ℕ) (late : Late) (after : ℕ) (late_after : Late) → Run (front ++ back) at late after late_after → Parts front back at late after late_after
  run_parts [] back at late after late_after run = (at, late, (refl, refl), run)
  run_parts (one ∷ front) back at late after late_after run =
      let more = run_parts front back run.0 run.1 after late_after run.3 in
      (more.0, more.1, (run.0, run.1, run.2, more.2), more.3)

  -- so far it comes, with these marks
  pub run_ends : (pieces : List Placed) (at : ℕ) (late : Late) (after : ℕ) (late_after : Late) → Run pieces at late after late_after
      → (after ≡ at + length (bits_in pieces)) × (late_after ≡ late ++ marks_in pieces)
  run_ends [] at late after late_after run = (let same = run.0 in omega (arith, same), run.1 ∙ sym (append-nil late))
  run_ends (one ∷ others) at late after late_after run =
      let more = run_ends others run.0 run.1 after late_after run.3 in
      let ends = run.2.ends in
      let far = more.0 in
      let long = length-append one.bits (bits_in others) in (
        omega (arith, ends, far, long),
        more.1 ∙ ap (λ (m : Late). m ++ marks_in others) run.2.marked ∙ append_assoc late (replicate (length one.bits) one.late) (marks_in others),
      )

  -- and these bits stand there
  pub run_there : (pieces : List Placed) (at : ℕ) (late : Late) (after : ℕ) (late_after : Late) → Run pieces at late after late_after
      → take (length (bits_in pieces)) (drop at all) ≡ bits_in pieces
  run_there [] at late after late_after run = refl
  run_there (one ∷ others) at late after late_after run =
      let behind : take (length (bits_in others)) (drop (length one.bits) (drop at all)) ≡ bits_in others =
      ap (take (length (bits_in others))) (drop-drop (length one.bits) at all ∙ ap (λ (k : ℕ). drop k all) (sym run.2.ends))
      ∙ run_there others run.0 run.1 after late_after run.3 in
      ap (λ (n : ℕ). take n (drop at all)) (length-append one.bits (bits_in others))
      ∙ take-plus (length one.bits) (length (bits_in others)) (drop at all)
      ∙ (λ i. run.2.there i ++ behind i)

-- How many pieces there are, as a draft counts them.

abbrev pub counted : ℕ → List Placed → ℕ
counted count [] = count
counted count (one ∷ others) = counted (one_more count) others

pub counted_and : (count : ℕ) (front back : List Placed) → counted count (front ++ back) ≡ counted (counted count front) back
counted_and count [] back = refl
counted_and count (one ∷ front) back = counted_and (one_more count) front back

abbrev next_up : ℕ → ℕ → ℕ
next_up most count = if nat_lt count most then count + 1 else count

capped : (most count more : ℕ) → count ≤ most → (min (next_up most count + more) most ≡ min (count + (more + 1)) most) × (next_up most count ≤ most)
capped most count more within = (grind (arith, nat_tests), grind (arith, nat_tests))

at_most : (most count : ℕ) → count ≤ most → count ≡ min (count + 0) most
at_most most count within = grind (arith, nat_tests)

counted_is : (count : ℕ) (pieces : List Placed) → count ≤ most_kept → counted count pieces ≡ min (count + length pieces) most_kept
counted_is count [] within = at_most most_kept count within
counted_is count (one ∷ others) within =
    let it = capped most_kept count (length others) within in
    let next : length others + 1 ≡ suc (length others) = omega arith in
    counted_is (one_more count) others it.1 ∙ it.0 ∙ ap (λ (n : ℕ). min (count + n) most_kept) next

pub counted_all : (pieces : List Placed) → counted 0 pieces ≡ min (length pieces) most_kept
counted_all pieces = let it : counted 0 pieces ≡ min (0 + length pieces) most_kept = counted_is 0 pieces (omega arith) in omega (arith, it)

-- The late numbers that are left of them.

-- a late number is that of a piece, with so many pieces before it
pub record IsOf (names : Environment) (count : ℕ) (late : LateNumber) (one : Placed) : Type 0 where
  pub number : PlainNumber
  pub is : one.piece ≡ OneNumber number
  pub fixed : number.fixed ≡ Some late.term
  pub form : late.form ≡ number.form
  pub width : late.width ≡ number.width
  pub empty : one.value ≡ None
  pub at : late.at ≡ one.at
  pub finished : late.names names ≡ one.names
  pub before : late.piece ≡ count

abbrev pub Leaves : Bool → Environment → ℕ → Placed → List LateNumber → List LateNumber → Type 0
Leaves false names count one numbers rest = numbers ≡ rest
Leaves true names count one numbers rest = (late : LateNumber) × (numbers ≡ late ∷ rest) × IsOf names count late one

abbrev pub Tally : Environment → ℕ → List Placed → List LateNumber → Type 0
Tally names count [] numbers = numbers ≡ []
Tally names count (one ∷ others) numbers = (rest : List LateNumber) × Leaves one.late names count one numbers rest × Tally names (one_more count) others rest

leaves_more : (test : Bool) (names : Environment) (count : ℕ) (one : Placed) (numbers rest more : List LateNumber) → Leaves test names count one numbers rest → Leaves test names count one (numbers ++ more) (rest ++ more)
leaves_more false names count one numbers rest more is = ap (λ (l : List LateNumber). l ++ more) is
leaves_more true names count one numbers rest more (late, are, is) = (late, ap (λ (l : List LateNumber). l ++ more) are, is)

pub tally_and : (names : Environment) (count : ℕ) (front back : List Placed) (numbers more : List LateNumber) → Tally names count front numbers → Tally names (counted count front) back more → Tally names count (front ++ back) (numbers ++ more)
tally_and names count [] back numbers more first second = subst (λ (l : List LateNumber). Tally names count back (l ++ more)) (sym first) second
tally_and names count (one ∷ front) back numbers more (rest, leaves, first) second =
    (rest ++ more, leaves_more one.late names count one numbers rest more leaves, tally_and names (one_more count) front back rest more first second)

module _ (which : Option RowOf) (body : PlainBody) (own names : Environment) where
  abbrev close : List LateNumber → List LateNumber
  close numbers = map (closing which body own) numbers

  leaves_closing : (test : Bool) (count : ℕ) (one : Placed) (numbers rest : List LateNumber) → Leaves test (outside_of which body own names) count one numbers rest → Leaves test names count one (close numbers) (close rest)
  leaves_closing false count one numbers rest is = ap close is
  leaves_closing true count one numbers rest (late, are, is) = (
    closing which body own late,
    ap close are,
    record { number = is.number; is = is.is; fixed = is.fixed; form = is.form; width = is.width; empty = is.empty; at = is.at; finished = is.finished; before = is.before },
  )

  pub tally_closing : (count : ℕ) (pieces : List Placed) (numbers : List LateNumber) → Tally (outside_of which body own names) count pieces numbers → Tally names count pieces (close numbers)
  tally_closing count [] numbers tally = ap close tally
  tally_closing count (one ∷ others) numbers (rest, leaves, tally) = (close rest, leaves_closing one.late count one numbers rest leaves, tally_closing (one_more count) others rest tally)

-- where one of them is found, its piece is
pub record Found (names : Environment) (count : ℕ) (pieces : List Placed) (before : List LateNumber) (late : LateNumber) : Type 0 where
  pub front : List Placed
  pub one : Placed
  pub back : List Placed
  pub are : pieces ≡ front ++ one ∷ back
  pub tally : Tally names count front before
  pub is : IsOf names (counted count front) late one
  pub is_late : one.late ≡ true

same_first : (one other : LateNumber) (rest more : List LateNumber) → one ∷ rest ≡ other ∷ more → one ≡ other
same_first one other rest more is = cc is

same_rest : (one other : LateNumber) (rest more : List LateNumber) → one ∷ rest ≡ other ∷ more → rest ≡ more
same_rest one other rest more is = cc is

module _ (names : Environment) (late : LateNumber) (others : List LateNumber) where
  found_behind : (count : ℕ) (one : Placed) (pieces : List Placed) (before rest : List LateNumber) → Leaves one.late names count one before rest → Found names (one_more count) pieces rest late → Found names count (one ∷ pieces) before late
  found_behind count one pieces before rest leaves it = record {
    front = one ∷ it.front;
    one = it.one;
    back = it.back;
    are = ap (λ (ps : List Placed). one ∷ ps) it.are;
    tally = (rest, leaves, it.tally);
    is = it.is;
    is_late = it.is_late;
  }

  abbrev FoundAmong : ℕ → List Placed → Type 0
  FoundAmong count pieces = (before : List LateNumber) → Tally names count pieces (before ++ late ∷ others) → Found names count pieces before late

  pub tally_found : (count : ℕ) (pieces : List Placed) (before : List LateNumber) → Tally names count pieces (before ++ late ∷ others) → Found names count pieces before late
  tally_found count [] [] tally = absurd cc
  tally_found count [] (other ∷ before) tally = absurd cc
  tally_found count (one ∷ pieces) before (rest, leaves, tally) = by (λ before tally. tally_found (one_more count) pieces before tally) one.late refl leaves
    where
      here : FoundAmong (one_more count) pieces → (before : List LateNumber) (number : LateNumber) → before ++ late ∷ others ≡ number ∷ rest → IsOf names count number one → one.late ≡ true → Found names count (one ∷ pieces) before late
      here more [] number are is so = record {
        front = [];
        one = one;
        back = pieces;
        are = refl;
        tally = refl;
        is = subst (λ (n : LateNumber). IsOf names count n one) (sym (same_first late number others rest are)) is;
        is_late = so;
      }
      here more (other ∷ before) number are is so =
          found_behind count one pieces (other ∷ before) before
          (subst (λ (test : Bool). Leaves test names count one (other ∷ before) before) (sym so)
          (other, refl, subst (λ (n : LateNumber). IsOf names count n one) (sym (same_first other number (before ++ late ∷ others) rest are)) is))
          (more before (subst (Tally names (one_more count) pieces) (sym (same_rest other number (before ++ late ∷ others) rest are)) tally))

      by : FoundAmong (one_more count) pieces → (test : Bool) → one.late ≡ test → Leaves test names count one (before ++ late ∷ others) rest → Found names count (one ∷ pieces) before late
      by more false so are =
          found_behind count one pieces before before (subst (λ (test : Bool). Leaves test names count one before before) (sym so) refl)
          (more before (subst (Tally names (one_more count) pieces) (sym are) tally))
      by more true so (number, are, is) = here more before number are is so
