use Rattle.std.proofs.Common.{◌≡◌, ◌++◌, ◌∷◌, [], ◌∙◌, ℕ, ap, sym, subst, arith, Bool, List, map, take, is_some}
use Rattle.std.specs.HashMap.{get}
use Rattle.std.specs.List.{list_any}
use Rattle.std.proofs.lemmas.Option.{slice_get_within}
use Rattle.rz_core.proofs.Lists.{first_in_more, first_in_stop}
use Rattle.rz_catalog.specs.Apply.{entry_fault, fault_for, first_such, is_entry_for, same_leaf}
use Rattle.rz_catalog.specs.Held.{entry_key, key_eq, leaf_eq, leaf_key, AreFirst}
use Rattle.rz_catalog.proofs.Holding.{is_twice, map_more, taken_length}
use Rattle.rz_catalog.proofs.check.note_entries.Goals as goal

pub loop-k-preserved : goal.loop-k-preserved
loop-k-preserved c =
    let entries = c.args.entries.now in
    let e = c.at-entry.result.now in
    let at = c.at-entry.ensures in
    let front = take c.loop-k.k entries in
    record {
      within = let lt = slice_get_within entries c.loop-k.k e at in omega (arith, lt);
      firsts = subst (λ (keys : List (ℕ × ℕ)). AreFirst key_eq keys c.note.new.places)
          (ap (λ (k : ℕ × ℕ). map entry_key front ++ k ∷ []) c.entry_key.ensures ∙ sym (map_more entry_key entries c.loop-k.k e at))
          (c.in_ok-note.ensures (map entry_key front) (taken_length entry_key entries c.loop-k.k e at) c.loop-k.invariant.firsts);
      leaves = subst (λ (keys : List (ℕ × ℕ × ℕ)). AreFirst leaf_eq keys c.note_leaf.new.places)
          (ap (λ (k : ℕ × ℕ × ℕ). map leaf_key front ++ k ∷ []) c.leaf_key-in-loop-k.ensures ∙ sym (map_more leaf_key entries c.loop-k.k e at))
          (c.in_ok-note_leaf.ensures (map leaf_key front) (taken_length leaf_key entries c.loop-k.k e at) c.loop-k.invariant.leaves);
      none = λ stock held.
          let found = first_such (λ s. is_entry_for s.resource e) stock in
          let twice : c.contains_key-twice.result ≡ list_any (same_leaf e) front =
          c.contains_key-twice.ensures ∙ ap (λ (k : ℕ × ℕ × ℕ). is_some (get leaf_eq c.loop-k.leaves k)) c.leaf_key.ensures
          ∙ ap is_some (c.loop-k.invariant.leaves (leaf_key e)) ∙ is_twice front e in
          first_in_more (entry_fault c.args.over stock) entries c.loop-k.k e at
          (sym (c.entry_fault.ensures found (c.find.ensures stock held) ∙ ap (λ (t : Bool). fault_for c.args.over found t e) twice) ∙ c.in-None.is)
          ∙ c.loop-k.invariant.none stock held;
    }

pub returns-in-Some-clause-fault : goal.returns-in-Some-clause-fault
returns-in-Some-clause-fault c stock held =
    let entries = c.args.entries.now in
    let e = c.at-entry.result.now in
    let front = take c.loop-k.k entries in
    let found = first_such (λ s. is_entry_for s.resource e) stock in
    let twice : c.contains_key-twice.result ≡ list_any (same_leaf e) front =
    c.contains_key-twice.ensures ∙ ap (λ (k : ℕ × ℕ × ℕ). is_some (get leaf_eq c.loop-k.leaves k)) c.leaf_key.ensures
    ∙ ap is_some (c.loop-k.invariant.leaves (leaf_key e)) ∙ is_twice front e in
    sym (c.loop-k.invariant.none stock held)
    ∙ first_in_stop (entry_fault c.args.over stock) entries c.loop-k.k e c.at-entry.ensures c.in-Some.fault
    (sym (c.entry_fault.ensures found (c.find.ensures stock held) ∙ ap (λ (t : Bool). fault_for c.args.over found t e) twice) ∙ c.in-Some.is)
