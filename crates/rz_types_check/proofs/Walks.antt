-- A walk over the fields of a body, one more at a time.
use Rattle.std.proofs.Common.{◌≡◌, ℕ, ◌+◌, ◌<◌, List, ◌++◌, length, get_or, drop, map, take, Bor, None, Ok, Err, refl, sym, ap, ◌∙◌}
use Rattle.std.specs.declared.result.Result.{Result}
use Rattle.std.proofs.lemmas.List.{length-map, take-map}
use Rattle.std.proofs.Math.Seq.{take-append_seam}
use Rattle.rz_core.specs.Lists.{unless_fault}
use Rattle.rz_core.specs.Stop.{◌>>=◌, Gives}
use Rattle.rz_core.specs.declared.resource.Word.{Word}
use Rattle.rz_core.specs.declared.stop.Stop.{Stop}
use Rattle.rz_core.specs.declared.stop.Stop.TheVariants.{NoMemory, Refused}
use Rattle.rz_types_fields.specs.Field.{plain_body, plain_field, PlainBody}
use Rattle.rz_types_fields.specs.declared.field.Field.{Field}
use Rattle.rz_types_fields.proofs.Bodies.{body_next}
use Rattle.rz_types.specs.Rules.{broken}
use Rattle.rz_types.specs.Walk.{and_names, names_of, no_names, Own}
use Rattle.rz_types.specs.declared.rules.TypeFault.{TypeFault}
use Rattle.rz_types_check.specs.Walked.{all_met, body_met, counts_in, field_met, first_names, met_of, own_of, scope_of, within_met, Met, Walks}
use Rattle.rz_types_check.specs.declared.names.Counts.{Counts}
use Rattle.rz_types_check.specs.declared.names.Names.{Names}
use Rattle.rz_types_check.specs.declared.walk.Walk.{Walk}
use Rattle.rz_types_check.proofs.Walking.{all_checked}

bound_twice : {X Y Z F : Type 0} (first : Result X F) (next : X → Result Y F) (last : Y → Result Z F) → (first >>= λ x. next x >>= last) ≡ ((first >>= next) >>= last)
bound_twice (Ok x) next last = refl
bound_twice (Err fault) next last = refl

abbrev now_of : Bor Word → Word
now_of name = name.now

-- names that were appended are cut off again
cut_back : (names : List (Bor Word)) (own : List Word) → take (length names) (map now_of names ++ own) ≡ map now_of names
cut_back names own = ap (λ n. take n (map now_of names ++ own)) (sym (length-map names now_of)) ∙ take-append_seam (map now_of names) own

all_cut : (names : Names) (own : Own) → first_names (counts_in names) (and_names (own_of names) own) ≡ own_of names
all_cut names own = λ i. record {
  labels = cut_back names.labels.list.items own.labels i;
  arrays = cut_back names.arrays.list.items own.arrays i;
  indexed = cut_back names.indexed.list.items own.indexed i;
  around = cut_back names.around.list.items own.around i;
}

pub cut_again : (names : Names) (own more new : Own) (counts : Counts) → counts ≡ counts_in names → more ≡ and_names (own_of names) own → new ≡ first_names counts more
    → new ≡ own_of names
cut_again names own more new counts many is cut = cut ∙ (λ i. first_names (many i) (is i)) ∙ all_cut names own

-- the first so many of each kind
pub cut_one : (names new : List (Bor Word)) (count : ℕ) → new ≡ take count names → map (λ name. name.now) new ≡ take count (map (λ name. name.now) names)
cut_one names new count is = ap (map now_of) is ∙ sym (take-map now_of count names)

module _ (fields : List Field) (i : ℕ) (field : Field) (less : i < length fields) (item : field ≡ get_or fields i field) (scope : Own) (met : Met) (whole : Result Met TypeFault)
    (so : body_met scope met (plain_body (drop i fields)) ≡ whole) where
  next_is : (all_met scope met (plain_field field) >>= λ next. body_met scope next (plain_body (drop (i + 1) fields))) ≡ whole
  next_is =
      sym (bound_twice (field_met scope met (plain_field field)) (λ next. within_met scope met.position next (plain_field field)) (λ next. body_met scope next (plain_body (drop (i + 1) fields))))
      ∙ ap (body_met scope met) (sym (body_next fields i field less item))
      ∙ so

  pub walked_more : (next : Met) → all_met scope met (plain_field field) ≡ Ok next → body_met scope next (plain_body (drop (i + 1) fields)) ≡ whole
  walked_more next is = ap (λ (r : Result Met TypeFault). r >>= λ next. body_met scope next (plain_body (drop (i + 1) fields))) (sym is) ∙ next_is

  pub walk_refused : (old new start last : Walk) (stop : Stop TypeFault) → Walks (all_met scope met (plain_field field)) old (Err stop) new → Walks whole start (Err stop) last
  walk_refused old new start last NoMemory is = tt
  walk_refused old new start last (Refused fault) is =
      sym next_is ∙ ap (λ (r : Result Met TypeFault). r >>= λ next. body_met scope next (plain_body (drop (i + 1) fields))) is

-- The whole walk.

module _ (body : PlainBody) (start : Walk) (here : scope_of start ≡ no_names) (none : own_of start.names ≡ no_names) (first : start.position ≡ 0) (known : start.unknown ≡ None) where
  abbrev end_of : Result Met TypeFault → Result (Unit {0}) TypeFault
  end_of met = met >>= λ met. unless_fault met.unknown (tt {0})

  start_is : end_of (body_met (and_names (scope_of start) (names_of body)) (met_of start) body) ≡ unless_fault (broken body) (tt {0})
  start_is =
      (λ i. end_of (body_met (and_names (here i) (names_of body)) (record { position = first i; names = none i; unknown = known i }) body)) ∙ all_checked body

  pub check_refused : (new : Walk) (stop : Stop TypeFault) → Walks (body_met (and_names (scope_of start) (names_of body)) (met_of start) body) start (Err stop) new
      → Gives (unless_fault (broken body) (tt {0})) (Err stop)
  check_refused new NoMemory is = tt
  check_refused new (Refused fault) is = sym start_is ∙ ap end_of is

  pub check_done : (next : Met) → body_met (and_names (scope_of start) (names_of body)) (met_of start) body ≡ Ok next → unless_fault (broken body) (tt {0}) ≡ unless_fault next.unknown (tt {0})
  check_done next is = sym start_is ∙ ap end_of is
