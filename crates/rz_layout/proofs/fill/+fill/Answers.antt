use Rattle.std.proofs.Common.{◌≡◌, ◌∷◌, ◌++◌, ℕ, arith, List, Bool, length, sym, ap, subst, ◌∙◌, append_assoc, [], Err, Result}
use Rattle.std.specs.List.{AllByRecursion}
use Rattle.rz_core.specs.Stop.{Gives, fault_seen, left}
use Rattle.rz_layout.specs.Fault.{refusal_of}
use Rattle.rz_layout.specs.Laid.{IsWithin}
use Rattle.rz_layout.specs.Late.{numbers_in, numbers_of}
use Rattle.rz_layout.specs.declared.late.Late.{Late}
use Rattle.rz_layout.specs.declared.late.Late.TheVariants as lates
use Rattle.rz_layout.specs.declared.late.Late.TheViews.{size-Late, sized-Inside}
use Rattle.rz_types_fields.specs.Known.{known}
use Rattle.rz_types_fields.specs.Laid.{fill, LateNumber, Refusal}
use Rattle.rz_types_fields.specs.declared.names.Note.{Note}
use Rattle.rz_layout.proofs.Fills.{fill_inside, fill_more, fill_refused, inside_is, number_is, one_within, within_back, within_closed, within_front}
use Rattle.rz_layout.proofs.fill.+fill.Goals as goal

pub fill-fill_one-requires : goal.fill-fill_one-requires
fill-fill_one-requires t c =
    let within : AllByRecursion (IsWithin (length c.loop-one.bits)) (numbers_of c.in-Some.one) =
    within_front (length c.loop-one.bits) (numbers_of c.in-Some.one) (numbers_in c.next.new.self.rest.items)
    (subst (λ (late : List Late). AllByRecursion (IsWithin (length c.loop-one.bits)) (numbers_in late)) c.in-Some.ensures.steps.0 c.loop-one.invariant.within) in
    let all : c.args.late ≡ c.loop-one.yielded ++ c.in-Some.one ∷ c.next.new.self.rest.items =
    c.loop-one.invariant.rest ∙ ap (λ (l : List Late). c.loop-one.yielded ++ l) c.in-Some.ensures.steps.0 in
    let most_is = one_within c.loop-one.yielded c.next.new.self.rest.items c.args.late c.in-Some.one all in
    (omega (arith, c.decreases, most_is), (c.requires.none, within))

pub fill-returns-in-Err-clause-filled : goal.fill-returns-in-Err-clause-filled
fill-returns-in-Err-clause-filled t c =
    fill_refused c.args.facts.now c.in-Some.one c.next.new.self.rest.items (known c.loop-one.notes.items) c.loop-one.bits _
    (ap (λ (late : List Late). fill c.args.facts.now (known c.loop-one.notes.items) (numbers_in late) c.loop-one.bits) (sym c.in-Some.ensures.steps.0) ∙ c.loop-one.invariant.filled)
    c.in-Err.stop c.fill_one.new.bits c.in-Err.ensures.filled c.fill_one.new.bits

pub fill-loop-one-preserved : goal.fill-loop-one-preserved
fill-loop-one-preserved t c =
    let one = c.in-Some.one in
    let rest = c.next.new.self.rest.items in
    record {
      filled = ap (λ (notes : List Note). fill c.args.facts.now (known notes) (numbers_in rest) c.fill_one.new.bits) c.in-Ok.ensures.notes
          ∙ fill_more c.args.facts.now one rest (known c.loop-one.notes.items) c.loop-one.bits _
          (ap (λ (late : List Late). fill c.args.facts.now (known c.loop-one.notes.items) (numbers_in late) c.loop-one.bits) (sym c.in-Some.ensures.steps.0) ∙ c.loop-one.invariant.filled)
          c.fill_one.new.bits c.in-Ok.ensures.filled;
      within = subst (λ (n : ℕ). AllByRecursion (IsWithin n) (numbers_in rest)) (sym c.in-Ok.ensures.length)
          (within_back (length c.loop-one.bits) (numbers_of one) (numbers_in rest)
          (subst (λ (late : List Late). AllByRecursion (IsWithin (length c.loop-one.bits)) (numbers_in late)) c.in-Some.ensures.steps.0 c.loop-one.invariant.within));
      rest = c.loop-one.invariant.rest ∙ ap (λ (l : List Late). c.loop-one.yielded ++ l) c.in-Some.ensures.steps.0 ∙ sym (append_assoc c.loop-one.yielded (one ∷ []) rest);
      notes = c.in-Ok.ensures.notes ∙ c.loop-one.invariant.notes;
      length = c.in-Ok.ensures.length ∙ c.loop-one.invariant.length;
    }

pub fill_one-fill-requires : goal.fill_one-fill-requires
fill_one-fill-requires t c =
    let deep = sized-Inside c.in-Inside.own c.in-Inside.inner in
    let is : size-Late c.args.one ≡ size-Late (lates.Inside c.in-Inside.own c.in-Inside.inner) = ap size-Late c.in-Inside.is in (
      omega (arith, c.decreases, deep, is),
      (
        c.requires.none,
        within_closed (length c.args.bits.now) c.in-Inside.own.items (numbers_in c.in-Inside.inner)
            (subst (AllByRecursion (IsWithin (length c.args.bits.now))) (inside_is c.args.one c.in-Inside.own c.in-Inside.inner c.in-Inside.is) c.requires.within),
      ),
    )

pub fill_one-returns-in-Err-clause-filled : goal.fill_one-returns-in-Err-clause-filled
fill_one-returns-in-Err-clause-filled t c =
    subst (λ (r : Result (List Bool) Refusal). Gives r (fault_seen {X = List Bool} refusal_of (Err c.in-Err.stop)))
    (sym (fill_inside c.args.facts.now c.args.one c.in-Inside.own c.in-Inside.inner c.args.notes.now.items c.push_notes.new.into.items c.args.bits.now c.in-Inside.is
    c.in_ok-push_notes-in-Inside.ensures))
    c.in-Err.ensures.filled

pub fill_one-returns-in-Ok-clause-filled : goal.fill_one-returns-in-Ok-clause-filled
fill_one-returns-in-Ok-clause-filled t c =
    fill_inside c.args.facts.now c.args.one c.in-Inside.own c.in-Inside.inner c.args.notes.now.items c.push_notes.new.into.items c.args.bits.now c.in-Inside.is
    c.in_ok-push_notes-in-Inside.ensures
    ∙ c.in-Ok.ensures.filled

pub fill_one-returns-in-Number-clause-filled : goal.fill_one-returns-in-Number-clause-filled
fill_one-returns-in-Number-clause-filled t c =
    let end = fault_seen refusal_of (left c.fill_number.new.bits c.fill_number.result) in
    subst (λ (numbers : List LateNumber). Gives (fill c.args.facts.now (known c.args.notes.now.items) numbers c.args.bits.now) end) (sym (number_is c.args.one c.in-Number.number c.in-Number.is))
    c.fill_number.ensures.filled
