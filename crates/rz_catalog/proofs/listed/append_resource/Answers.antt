use Rattle.std.proofs.Common.{◌≡◌, ◌++◌, ℕ, List, Option, subst}
use Rattle.std.specs.Prelude.{OnOk}
use Rattle.rz_core.specs.Decided.{Decided}
use Rattle.rz_core.specs.declared.facts.Facts.{Facts}
use Rattle.rz_types.specs.Field.{PlainBody}
use Rattle.rz_types_fields.specs.declared.tree.Tree.{Tree}
use Rattle.rz_types_table.specs.Table.{declared_for}
use Rattle.rz_types_table.specs.TypeTable.{table_of}
use Rattle.rz_unlay.specs.Reading.{facts_of}
use Rattle.rz_catalog.specs.Catalogue.{entries_of}
use Rattle.rz_catalog.specs.Stock.{texts_in}
use Rattle.rz_catalog.proofs.Told.{HasRow}
use Rattle.rz_catalog.proofs.listed.append_resource.Goals as goal

pub returns : goal.returns
returns c =
    let Appends : Option PlainBody → Facts → List ℕ → Type 0 = λ fields known bytes.
    OnOk c.append_entries.result ((row : Option (List Tree)) → Decided (HasRow fields known bytes) row → c.append_entries.new.into ≡ c.args.into.now ++ entries_of known.kind known.id (texts_in row)) in
    subst (λ (bytes : List ℕ). Appends (declared_for (table_of c.args.types.now) c.args.resource.now) (facts_of c.args.moment c.args.resource.now) bytes) c.as_slice.ensures
    (subst (λ (known : Facts). Appends (declared_for (table_of c.args.types.now) c.args.resource.now) known c.as_slice.result.now) c.in_ok-facts.ensures
    (subst (λ (fields : Option PlainBody). Appends fields c.in_ok-facts.facts c.as_slice.result.now) c.template_for.ensures c.append_entries.ensures))
