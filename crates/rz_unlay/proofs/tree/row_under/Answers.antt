use Rattle.std.proofs.Common.{Some, refl, sym, ap, ◌∙◌}
use Rattle.std.proofs.lemmas.Option.{none-some}
use Rattle.rz_types.specs.Template.{template_of}
use Rattle.rz_unlay.specs.Reading.{row_in}
use Rattle.rz_unlay.proofs.Trees.{tree_told}
use Rattle.rz_unlay.proofs.tree.row_under.Goals as goal

pub returns-in-Tree-clause-every : goal.returns-in-Tree-clause-every
returns-in-Tree-clause-every c = λ body row tree.
    let own = template_of c.args.template.now in
    sym (ap row_in c.in-Tree.is) ∙ c.in_ok-row.ensures.every row (tree_told (Some own) c.args.facts.now c.args.bytes.now own refl body row tree)

pub returns-in-NoTree-clause-every : goal.returns-in-NoTree-clause-every
returns-in-NoTree-clause-every c = λ body row tree.
    let own = template_of c.args.template.now in
    sym (ap row_in c.in-NoTree.is) ∙ c.in_ok-row.ensures.every row (tree_told (Some own) c.args.facts.now c.args.bytes.now own refl body row tree)

pub returns-in-NoTree-clause-told : goal.returns-in-NoTree-clause-told
returns-in-NoTree-clause-told c = λ row (body, tree). none-some row (returns-in-NoTree-clause-every c body row tree)
