-- All bytes are cut.
use Rattle.std.proofs.Common.{◌≡◌, ℕ, zero, suc, ◌+◌, ◌-◌, ◌≤◌, Bool, true, false, List, [], ◌∷◌, length, take, drop, Option, Some, None, Ok, Err, refl, subst, ◌∙◌, arith, length-drop}
use Rattle.std.specs.Prelude.{◌==◌, nat_lt, if◌then◌else◌}
use Rattle.std.specs.declared.result.Result.{Result}
use Rattle.std.proofs.lemmas.Bool.Decides.{nat_tests}
use Rattle.rz_tmpl.specs.Bodies.{IsNext}
use Rattle.rz_tmpl.specs.Cut.{broken, code_fault, entry_fault, fault_behind, most_open, standing_at, whole, IsCut, Standing, Stands}
use Rattle.rz_tmpl.specs.Entry.{entry_of}
use Rattle.rz_tmpl.specs.Items.{at, has_value, innermost, none, waiting_outside, waits, Items, Place}
use Rattle.rz_tmpl.specs.declared.entry.Entry.{Entry}
use Rattle.rz_tmpl.specs.declared.fault.TmplFault.{TmplFault}
use Rattle.rz_tmpl.proofs.Fronts.{closed, stands_next, whole_next}
use Rattle.rz_tmpl.proofs.Shown.{fault_is, place_behind}

abbrev Cut : List ℕ → Type 0
Cut bytes = (cut : Result Items TmplFault) × IsCut bytes cut

sound_code : (torn : Bool) (s : Standing) (found : Option Entry) → (if torn then Some 451 else code_fault s found) ≡ None
    → (torn ≡ false) × ((entry : Entry) × (found ≡ Some entry) × (entry_fault s entry ≡ None))
sound_code true s found is = absurd cc
sound_code false s None is = absurd cc
sound_code false s (Some entry) is = (refl, (entry, refl, is))

-- where there is no fault, the place after the next entry
record Next (bytes : List ℕ) (most : ℕ) : Type 0 where
  pub place : Place
  pub rest : List ℕ
  pub fewer : length rest ≤ most
  pub stands : Stands bytes place rest

next : (bytes : List ℕ) (place : Place) (label : ℕ) (more : List ℕ) → Stands bytes place (label ∷ more) → fault_behind place (label ∷ more) ≡ None → Next bytes (length more)
next bytes place label more stands sound =
    let found = sound_code (nat_lt (length more) (label + 4)) (standing_at place) (entry_of (take 4 (drop label more))) sound in
    let entry = found.1.0 in
    let fits : label + 4 ≤ length more = let torn = found.0 in grind (arith, nat_tests) in
    let is : IsNext (label ∷ more) (record { entry = entry; length = label + 5 }) = record { label = label; more = more; whole = refl; fits = fits; known = found.1.1; length = refl } in
    let one = whole_next (label ∷ more) (record { entry = entry; length = label + 5 }) is in
    let there = place_behind (length (waiting_outside place) == most_open) (waits false (innermost place)) (has_value (innermost place)) place entry found.1.2 in
    record {
      place = there.0;
      rest = drop (label + 5) (label ∷ more);
      fewer = omega (arith, length-drop (label + 5) (label ∷ more));
      stands = stands_next bytes (label ∷ more) (drop (label + 5) (label ∷ more)) place there.0 entry one.one stands one.is one.cut one.known there.1
          (fault_is most_open true place entry stands.kept ∙ found.1.2);
    }

ended : (bytes : List ℕ) (place : Place) → Stands bytes place [] → (fault : Option ℕ) → fault_behind place [] ≡ fault → Cut bytes
ended bytes place stands (Some number) is = (Err (record { number = number; offset = length bytes - 0 }), broken place [] number stands is)
ended bytes place stands None is = let last = closed place is in (Ok last.0, whole last.0 (subst (λ (p : Place). Stands bytes p []) last.1 stands) last.2)

cut_from : (n : ℕ) (bytes : List ℕ) (place : Place) (rest : List ℕ) → length rest ≤ n → Stands bytes place rest → Cut bytes
cut_from n bytes place [] few stands = ended bytes place stands (fault_behind place []) refl
cut_from zero bytes place (label ∷ more) few stands = absurd (omega (arith, few))
cut_from (suc n) bytes place (label ∷ more) few stands = by (λ on. cut_from n bytes on.place on.rest (let fewer = on.fewer in omega (arith, few, fewer)) on.stands) (fault_behind place (label ∷ more)) refl
  where
    by : (Next bytes (length more) → Cut bytes) → (fault : Option ℕ) → fault_behind place (label ∷ more) ≡ fault → Cut bytes
    by goes (Some number) is = (Err (record { number = number; offset = length bytes - length (label ∷ more) }), broken place (label ∷ more) number stands is)
    by goes None is = goes (next bytes place label more stands is)

pub every_cut : (bytes : List ℕ) → Cut bytes
every_cut bytes = cut_from (length bytes) bytes (at none) bytes (omega arith) record { front = []; whole = tt; cut = refl; known = refl; kept = refl }
