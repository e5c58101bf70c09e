use Rattle.std.proofs.Common.{ℕ, ℤ, Option, get_or, sym, ap, ◌∙◌}
use Rattle.std.specs.Prelude.{None, set}
use Rattle.rz_types_table.specs.Listed.{declaration_of, groups_of, listed}
use Rattle.rz_types_table.specs.Positions.{held, of_group, positions}
use Rattle.rz_types_table.specs.Table.{stands_at}
use Rattle.rz_types_table.specs.declared.table.Declared.{Declared}
use Rattle.rz_types_table.proofs.Found.{any_there, nothing_out, taken_out}
use Rattle.rz_types_table.proofs.Placed.{own_kept}
use Rattle.rz_types_table.proofs.table.TypeTable.declare.Goals as goal

pub index_of-old-requires : goal.index_of-old-requires
index_of-old-requires c =
    let is = c.held.ensures ∙ c.args.self.now.placed c.group_of-group.result
    ∙ ap (λ (group : ℕ × Option ℤ). positions (of_group group) (groups_of c.args.self.now.declared.items)) c.group_of-group.ensures in
    rw (sym c.deref.ensures.value) at is

pub take_out-requires : goal.take_out-requires
take_out-requires c =
    let group = c.group_of-group.result in
    let first = rw (c.in-Some.is, c.deref.ensures.value, c.held.ensures) at c.index_of-old.ensures in
    let new : Declared = record { kind = c.args.kind; scope = c.args.scope; template = c.args.template } in
    let after = c.append.new.self.placed group ∙ ap (λ slots. positions (of_group group) (groups_of slots)) c.in_ok-append.ensures.ok in
    (own_kept c.args.self.now.declared.items new group c.in-Some.index (held group c.args.self.now.places) (held group c.append.new.self.places)
    (c.args.self.now.placed group) after first.1).0

pub returns-in-Some-clause-again : goal.returns-in-Some-clause-again
returns-in-Some-clause-again c =
    let first = rw (c.in-Some.is, c.deref.ensures.value, c.held.ensures) at c.index_of-old.ensures in
    sym (any_there (stands_at c.args.kind c.args.scope) declaration_of c.args.self.now.declared.items
    (get_or (held c.group_of-group.result c.args.self.now.places) c.in-Some.index 0) first.0 first.2 first.3)

pub returns-in-Some-clause-table : goal.returns-in-Some-clause-table
returns-in-Some-clause-table c =
    let group = c.group_of-group.result in
    let slots = c.args.self.now.declared.items in
    let own = held group c.args.self.now.places in
    let first = rw (c.in-Some.is, c.deref.ensures.value, c.held.ensures) at c.index_of-old.ensures in
    let new : Declared = record { kind = c.args.kind; scope = c.args.scope; template = c.args.template } in
    let after = c.append.new.self.placed group ∙ ap (λ slots. positions (of_group group) (groups_of slots)) c.in_ok-append.ensures.ok in
    let kept = own_kept slots new group c.in-Some.index own (held group c.append.new.self.places) (c.args.self.now.placed group) after first.1 in
    ap listed (c.take_out.ensures ∙ (λ j. set (c.in_ok-append.ensures.ok j) (kept.1 j) None))
    ∙ taken_out declaration_of (stands_at c.args.kind c.args.scope) slots (get_or own c.in-Some.index 0) first.0 new first.2 first.3 first.4

pub returns-in-None-clause-table : goal.returns-in-None-clause-table
returns-in-None-clause-table c =
    let none = rw (c.in-None.is, c.deref.ensures.value) at c.index_of-old.ensures in
    let new : Declared = record { kind = c.args.kind; scope = c.args.scope; template = c.args.template } in
    ap listed c.in_ok-append.ensures.ok
    ∙ nothing_out declaration_of (stands_at c.args.kind c.args.scope) c.args.self.now.declared.items new none
