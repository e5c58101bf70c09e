use Rattle.std.proofs.Common.{◌≡◌, Ok, Err, sym, ap}
use Rattle.std.proofs.lemmas.Option.{IfSome_then}
use Rattle.std.proofs.lemmas.Result.{err_from_is_err_and}
use Rattle.rz_core.specs.declared.resource.Resource.{Resource}
use Rattle.rz_stmt_data.specs.Head.{head_of}
use Rattle.rz_stmt_items.specs.Item.{plain_items}
use Rattle.rz_folder.proofs.Found.{if_some}
use Rattle.rz_tools_values.specs.Contents.{with_bytes}
use Rattle.rz_tools_values.specs.Head.{facts_of}
use Rattle.rz_tools_resource.specs.Resource.{AreBytes, IsMade}
use Rattle.rz_types_table.specs.TypeTable.{table_of}
use Rattle.rz_core.proofs.Stops.{then_halts, then_yields}
use Rattle.rz_tools_values.proofs.Behind.{gives_halt}
use Rattle.rz_tools_resource.proofs.resource.resource_of_items.Goals as goal

pub returns-clause-resource : goal.returns-clause-resource
returns-clause-resource g c = IfSome_then (g.F.Folder.files c.args.folder.now) c.in_ok-bytes.ensures.bytes (λ files yields.
    then_yields (λ answer. answer ≡ facts_of c.args.around.setting c.args.around.mark c.args.stmt.kind.code (head_of c.args.stmt.head))
    (IsMade c.args.around.paths.now files c.args.around.mark (table_of c.args.types.now) (plain_items c.args.stmt.items)) c.in_ok-known.known (sym c.in_ok-known.ensures.facts) (Ok c.with_bytes.result)
    (then_yields (AreBytes c.args.around.paths.now files c.args.around.mark (table_of c.args.types.now) (plain_items c.args.stmt.items) c.in_ok-known.known)
    (λ bytes answer. answer ≡ Ok (with_bytes c.in_ok-known.known bytes)) c.in_ok-bytes.bytes yields (Ok c.with_bytes.result) (ap (λ (r : Resource). Ok r) c.with_bytes.ensures)))

pub returns-in_err-bytes-clause-resource : goal.returns-in_err-bytes-clause-resource
returns-in_err-bytes-clause-resource g c = IfSome_then (g.F.Folder.files c.args.folder.now) c.in_err-bytes.ensures.bytes (λ files yields.
    let p = err_from_is_err_and c.from_residual-in_err-bytes.result c.from_residual-in_err-bytes.ensures.1 in
    rw (p.1, p.2) (then_yields (λ answer. answer ≡ facts_of c.args.around.setting c.args.around.mark c.args.stmt.kind.code (head_of c.args.stmt.head))
    (IsMade c.args.around.paths.now files c.args.around.mark (table_of c.args.types.now) (plain_items c.args.stmt.items)) c.in_ok-known.known (sym c.in_ok-known.ensures.facts) (Err c.in_err-bytes.field-0.0)
    (then_halts (AreBytes c.args.around.paths.now files c.args.around.mark (table_of c.args.types.now) (plain_items c.args.stmt.items) c.in_ok-known.known)
    (λ bytes answer. answer ≡ Ok (with_bytes c.in_ok-known.known bytes)) c.in_err-bytes.field-0.0 yields)))

pub returns-in_err-known-clause-resource : goal.returns-in_err-known-clause-resource
returns-in_err-known-clause-resource g c = if_some (g.F.Folder.files c.args.folder.now) _ (λ files told.
    let p = err_from_is_err_and c.from_residual.result c.from_residual.ensures.1 in
    rw (p.1, p.2) (gives_halt (facts_of c.args.around.setting c.args.around.mark c.args.stmt.kind.code (head_of c.args.stmt.head))
    (IsMade c.args.around.paths.now files c.args.around.mark (table_of c.args.types.now) (plain_items c.args.stmt.items)) c.in_err-known.field-0.0 c.in_err-known.ensures.facts))
