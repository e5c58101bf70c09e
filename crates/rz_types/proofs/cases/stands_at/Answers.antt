use Rattle.std.proofs.Common.{Option, sym, ap, ◌∙◌}
use Rattle.std.proofs.lemmas.Option.{slice_get_past}
use Rattle.std.specs.Prelude.{option_map}
use Rattle.std.specs.Str.{str_eq_ignore_ascii_case}
use Rattle.rz_types_fields.proofs.Bodies.{case_is}
use Rattle.rz_types_fields.specs.declared.field.Case.{Case}
use Rattle.rz_types_fields.specs.Field.{plain_case, PlainCase}
use Rattle.rz_types.specs.Cases.{is_named}
use Rattle.rz_types.proofs.Cased.{case_at}
use Rattle.rz_types.proofs.cases.stands_at.Goals as goal

pub returns-in-Some : goal.returns-in-Some
returns-in-Some c =
    c.is.ensures
    ∙ sym (ap (is_named c.args.name.now) (case_at c.args.cases.now c.args.position c.in-Some.case.now c.in-Some.ensures.lookup.3.0 c.in-Some.ensures.lookup.1)
    ∙ ap (λ (one : PlainCase). str_eq_ignore_ascii_case one.name.bytes c.args.name.now) (case_is c.in-Some.case.now))

pub returns-in-None : goal.returns-in-None
returns-in-None c =
    sym (ap (λ (o : Option Case). is_named c.args.name.now (option_map plain_case o)) (slice_get_past c.args.cases.now c.args.position c.in-None.ensures.lookup.3))
