use Rattle.std.proofs.Common.{Bool, sym, ap, ◌∙◌, Some}
use Rattle.rz_fork.specs.Rules.{broken, fault}
use Rattle.rz_fork.proofs.repeats.type_repeats.Goals as goal

pub returns-then-has_code-clause-rule : goal.returns-then-has_code-clause-rule
returns-then-has_code-clause-rule c =
    let t = c.args.entry in
    ap (λ f. Some f) c.fault.ensures ∙ sym (ap (λ (b : Bool). broken b (fault 410 t.place t.code)) (sym c.has_code.ensures ∙ c.if-has_code.true))

pub returns-clause-rule : goal.returns-clause-rule
returns-clause-rule c =
    let t = c.args.entry in
    sym (ap (λ (b : Bool). broken b (fault 410 t.place t.code)) (sym c.has_code.ensures ∙ c.if-has_code.false))
