use Rattle.std.proofs.Common.{◌≡◌, List, Option, subst}
use Rattle.rz_core.specs.Decided.{Decided}
use Rattle.rz_core.specs.declared.facts.Facts.{Facts}
use Rattle.rz_catalog.specs.Catalogue.{entries_of}
use Rattle.rz_catalog.specs.Stock.{texts_in}
use Rattle.rz_catalog_text.specs.declared.entry.Entry.{Entry}
use Rattle.rz_fork.specs.View.{lent}
use Rattle.rz_types.specs.Field.{PlainBody}
use Rattle.rz_types_fields.specs.declared.tree.Tree.{Tree}
use Rattle.rz_types_table.specs.Table.{declared_for}
use Rattle.rz_types_table.specs.TypeTable.{table_of}
use Rattle.rz_unlay.specs.Reading.{facts_of, IsTree}
use Rattle.rz_tools.proofs.ListedAll.{text_added}
use Rattle.rz_tools.proofs.listed.append_one.Goals as goal

pub returns : goal.returns
returns c =
    let one = lent c.args.view.now in
    let Lists : Option PlainBody → Facts → List Entry → Type 0 = λ fields known entries.
    (row : Option (List Tree)) → Decided (λ row. (body : PlainBody) × IsTree fields known c.args.view.now.bytes.now body row) row → entries ≡ entries_of known.kind known.id (texts_in row) in
    let listed : Lists (declared_for (table_of c.args.types.now) one) (facts_of c.args.moment one) c.in_ok-entries.entries =
    subst (λ (known : Facts). Lists (declared_for (table_of c.args.types.now) one) known c.in_ok-entries.entries) c.in_ok-facts.ensures
    (subst (λ (fields : Option PlainBody). Lists fields c.in_ok-facts.facts c.in_ok-entries.entries) c.template_for.ensures c.in_ok-entries.ensures) in
    text_added c.append_text.result c.args.text.now c.append_text.new.text c.in_ok-entries.entries c.append_text.ensures
    (λ row. Decided (λ row. (body : PlainBody) × IsTree (declared_for (table_of c.args.types.now) one) (facts_of c.args.moment one) one.bytes body row) row)
    (λ row. entries_of one.kind one.id (texts_in row)) listed
