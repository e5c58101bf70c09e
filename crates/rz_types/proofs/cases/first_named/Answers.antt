use Rattle.std.proofs.Common.{ap, sym, ◌∙◌}
use Rattle.std.specs.Str.{str_eq_ignore_ascii_case}
use Rattle.rz_types_fields.specs.declared.field.Case.{Case}
use Rattle.rz_types_fields.specs.declared.field.Field.TheViews.{out-Case}
use Rattle.rz_types.proofs.Cased.{named_here, named_later, named_never}
use Rattle.rz_types.proofs.cases.first_named.Goals as goal

pub returns-then-is-clause-named : goal.returns-then-is-clause-named
returns-then-is-clause-named c =
    named_here c.args.name.now c.args.cases.now c.loop-position.position c.index-cases-position.result c.loop-position-test.true c.index-cases-position.is _
    c.loop-position.invariant (ap (λ (one : Case). str_eq_ignore_ascii_case (out-Case one).name.bytes c.args.name.now) c.index-cases-position.is ∙ sym c.is.ensures ∙ c.if-is.true)

pub loop-position-preserved : goal.loop-position-preserved
loop-position-preserved c =
    named_later c.args.name.now c.args.cases.now c.loop-position.position c.index-cases-position.result c.loop-position-test.true c.index-cases-position.is _
    c.loop-position.invariant (ap (λ (one : Case). str_eq_ignore_ascii_case (out-Case one).name.bytes c.args.name.now) c.index-cases-position.is ∙ sym c.is.ensures ∙ c.if-is.false)

pub returns-clause-named : goal.returns-clause-named
returns-clause-named c = named_never c.args.name.now c.args.cases.now c.loop-position.position _ c.loop-position-test.false c.loop-position.invariant
