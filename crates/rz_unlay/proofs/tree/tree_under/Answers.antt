use Rattle.std.proofs.Common.{List, Option, sym, ap, subst}
use Rattle.std.specs.Prelude.{option_map, IfOk}
use Rattle.rz_core.specs.Decided.{Decided}
use Rattle.rz_types.specs.Field.{PlainBody}
use Rattle.rz_types.specs.Template.{template_of}
use Rattle.rz_types_fields.specs.declared.tree.Tree.{Tree}
use Rattle.rz_unlay.specs.Reading.{IsTree}
use Rattle.rz_unlay.proofs.tree.tree_under.Goals as goal

pub returns-in-Some-clause-told : goal.returns-in-Some-clause-told
returns-in-Some-clause-told c =
    subst (λ (fields : Option PlainBody). IfOk c.row_under.result (Decided {X = List Tree} (λ row. (body : PlainBody) × IsTree fields c.args.facts.now c.args.bytes.now body row)))
    (sym (ap (option_map (λ one. template_of one.now)) c.in-Some.is)) c.row_under.ensures.told

pub returns-in-Some-clause-every : goal.returns-in-Some-clause-every
returns-in-Some-clause-every c = λ body row tree.
    c.row_under.ensures.every body row
    (subst (λ (fields : Option PlainBody). IsTree fields c.args.facts.now c.args.bytes.now body row) (ap (option_map (λ one. template_of one.now)) c.in-Some.is) tree)
