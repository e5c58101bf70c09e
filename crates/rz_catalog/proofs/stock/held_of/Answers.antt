use Rattle.std.proofs.Common.{◌≡◌, ◌∙◌, ℕ, List, Option, ap, length, subst}
use Rattle.rz_core.specs.Decided.{Decided}
use Rattle.rz_core.specs.declared.facts.Facts.{Facts}
use Rattle.rz_types.specs.Field.{PlainBody}
use Rattle.rz_types_fields.specs.declared.tree.Tree.{Tree}
use Rattle.rz_types_table.specs.Table.{declared_for}
use Rattle.rz_types_table.specs.TypeTable.{table_of}
use Rattle.rz_unlay.specs.Reading.{facts_of}
use Rattle.rz_catalog.specs.Stock.{texts_in}
use Rattle.rz_catalog.proofs.Told.{HasRow}
use Rattle.rz_catalog.proofs.stock.held_of.Goals as goal

pub returns : goal.returns
returns c row decided =
    let Texts : Option PlainBody → Facts → List ℕ → Type 0 = λ fields known bytes.
    (row : Option (List Tree)) → Decided (HasRow fields known bytes) row → c.in_ok-texts.texts ≡ texts_in row in
    let texts : Texts (declared_for (table_of c.args.types.now) c.args.resource.now) (facts_of c.args.moment c.args.resource.now) c.args.resource.now.bytes =
    subst (λ (bytes : List ℕ). Texts (declared_for (table_of c.args.types.now) c.args.resource.now) (facts_of c.args.moment c.args.resource.now) bytes) c.as_slice.ensures
    (subst (λ (known : Facts). Texts (declared_for (table_of c.args.types.now) c.args.resource.now) known c.as_slice.result.now) c.in_ok-facts.ensures
    (subst (λ (fields : Option PlainBody). Texts fields c.in_ok-facts.facts c.as_slice.result.now) c.template_for.ensures c.in_ok-texts.ensures.texts)) in
    let count = c.len.ensures ∙ ap length (texts row decided) in
    λ i. record { leaves = count i; protected = c.is_protected.ensures i }
