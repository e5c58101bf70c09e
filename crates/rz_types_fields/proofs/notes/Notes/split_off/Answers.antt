use Rattle.std.proofs.Common.{◌≡◌, ◌≤◌, ℕ, List, length, take, drop, sym, ap, subst, ◌∙◌, arith}
use Rattle.std.specs.Prelude.{min, OnErr, OnOk, Ok, Err, Vec, vec_len}
use Rattle.std.specs.declared.result.Result.{Result}
use Rattle.std.proofs.lemmas.List.{drop_min, take_min, take-take}
use Rattle.rz_types_fields.specs.Newest.{AreHeld}
use Rattle.rz_types_fields.specs.declared.names.Note.{Note}
use Rattle.rz_types_fields.proofs.notes.Notes.split_off.Goals as goal

-- the first so many are kept, whether or not memory is refused
first_kept : {A O E : Type 0} (count at : ℕ) (old new : Vec Note A) (own : Result O E) → at ≡ min count (length old.items) → OnOk own (new.items ≡ take at old.items)
    → OnErr own (new ≡ old) → take count new.items ≡ take count old.items
first_kept count at old new (Ok tail) is cut same =
    let within : count ≤ count = omega arith in
    ap (take count) (cut ∙ ap (λ (n : ℕ). take n old.items) is ∙ take_min count old.items) ∙ take-take count count old.items within
first_kept count at old new (Err refused) is cut same = ap (λ (notes : Vec Note _). take count notes.items) same

-- how long a list is, is how many items it has
as_long : {A : Type 0} (notes : Vec Note A) → vec_len notes ≡ length notes.items
as_long notes = omega (arith, notes.ok.0)

pub forget-requires : goal.forget-requires
forget-requires c = subst (λ (l : List Note). AreHeld (drop 16 l) c.args.self.now.places) (sym c.as_slice.ensures) c.args.self.now.held

pub invariant_of-self : goal.invariant_of-self
invariant_of-self c = record {
  held = subst (λ (l : List Note). AreHeld (drop 16 l) c.forget.new.places)
      (ap (take c.args.count) (c.as_slice.ensures ∙ sym (c.into_vec-notes.ensures ∙ c.replace.ensures.value))
      ∙ sym (c.replace-none.ensures.after ∙ c.from_vec.ensures ∙ c.truncate.ensures.items
      ∙ first_kept c.args.count c.min.result c.into_vec-notes.result c.split_off-own.new.self c.split_off-own.result (c.min.ensures ∙ ap (min c.args.count) (c.len.ensures ∙ as_long c.into_vec-notes.result)) c.split_off-own.ensures.items c.split_off-own.ensures.err))
      c.forget.ensures;
}

pub returns-clause-items : goal.returns-clause-items
returns-clause-items c =
    c.replace-none.ensures.after ∙ c.from_vec.ensures ∙ c.truncate.ensures.items
    ∙ first_kept c.args.count c.min.result c.into_vec-notes.result c.split_off-own.new.self c.split_off-own.result (c.min.ensures ∙ ap (min c.args.count) (c.len.ensures ∙ as_long c.into_vec-notes.result)) c.split_off-own.ensures.items c.split_off-own.ensures.err
    ∙ ap (take c.args.count) (c.into_vec-notes.ensures ∙ c.replace.ensures.value)

pub returns-clause-tail : goal.returns-clause-tail
returns-clause-tail c =
    c.in_ok-own.ensures.tail ∙ ap (λ n. drop n c.into_vec-notes.result.items) (c.min.ensures ∙ ap (min c.args.count) (c.len.ensures ∙ as_long c.into_vec-notes.result)) ∙ drop_min c.args.count c.into_vec-notes.result.items
    ∙ ap (drop c.args.count) (c.into_vec-notes.ensures ∙ c.replace.ensures.value)
