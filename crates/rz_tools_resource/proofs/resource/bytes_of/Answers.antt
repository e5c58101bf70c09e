use Rattle.std.proofs.Common.{◌≡◌, ℕ, List, Option, Ok, Err, ap}
use Rattle.std.specs.Option.{ok_or}
use Rattle.std.proofs.lemmas.Option.{IfSome_then}
use Rattle.std.proofs.lemmas.Result.{err_from_is_err_and}
use Rattle.rz_core.specs.Message.{IsNameable}
use Rattle.rz_folder.proofs.Found.{if_some}
use Rattle.rz_pre.proofs.Going.{at_some}
use Rattle.rz_stmt_items.specs.Item.{plain_items}
use Rattle.rz_tools_resource.specs.Items.{items_given, items_read}
use Rattle.rz_tools_resource.specs.Resource.{fields_for, no_type, AreItemBytes, AreReadBytes}
use Rattle.rz_tools_values.proofs.Behind.{meets_yields}
use Rattle.rz_tools_values.proofs.Calls.{refuses_so}
use Rattle.rz_types.specs.Field.{PlainBody}
use Rattle.rz_types.specs.Template.{template_of}
use Rattle.rz_types_table.specs.TypeTable.{table_of}
use Rattle.rz_core.proofs.Stops.{then_halts, then_yields, halt_so}
use Rattle.rz_tools_resource.proofs.resource.bytes_of.Goals as goal

pub returns-in_ok-bytes_under-in-Some-clause-bytes : goal.returns-in_ok-bytes_under-in-Some-clause-bytes
returns-in_ok-bytes_under-in-Some-clause-bytes g c =
    let mark = c.args.around.mark in
    let known = c.args.known.now in
    let items = plain_items c.args.items in
    let body = template_of c.in-Some.template.now in
    IfSome_then (g.F.Folder.files c.args.folder.now) c.in_ok-items-in-Some.ensures.read (λ files yields.
    then_yields (λ answer. answer ≡ fields_for mark (table_of c.args.types.now) known) (AreReadBytes c.args.around.paths.now files mark known items)
    body (ap (λ (o : Option PlainBody). ok_or o (no_type mark known)) c.in-Some.ensures) (Ok c.in_ok-bytes_under-in-Some.field-0)
    (then_yields (λ answer. answer ≡ items_read c.args.around.paths.now files mark known items) (λ items. AreItemBytes mark known items body)
    (plain_items c.in_ok-items-in-Some.items) yields (Ok c.in_ok-bytes_under-in-Some.field-0) c.in_ok-bytes_under-in-Some.ensures.bytes))

pub returns-in_err-bytes_under-in-Some-clause-bytes : goal.returns-in_err-bytes_under-in-Some-clause-bytes
returns-in_err-bytes_under-in-Some-clause-bytes g c =
    let mark = c.args.around.mark in
    let known = c.args.known.now in
    let items = plain_items c.args.items in
    let body = template_of c.in-Some.template.now in
    let result = c.from_residual-in_err-bytes_under-in-Some.result in
    let p = err_from_is_err_and result c.from_residual-in_err-bytes_under-in-Some.ensures.1 in
    if_some (g.F.Folder.files c.args.folder.now) _ (λ files told.
    then_yields (λ answer. answer ≡ fields_for mark (table_of c.args.types.now) known) (AreReadBytes c.args.around.paths.now files mark known items)
    body (ap (λ (o : Option PlainBody). ok_or o (no_type mark known)) c.in-Some.ensures) result
    (rw (p.1, p.2) (meets_yields (λ answer. answer ≡ items_read c.args.around.paths.now files mark known items) (λ items. AreItemBytes mark known items body)
    (plain_items c.in_ok-items-in-Some.items) (at_some (g.F.Folder.files c.args.folder.now) files told _ c.in_ok-items-in-Some.ensures.read)
    c.in_err-bytes_under-in-Some.field-0.0 c.in_err-bytes_under-in-Some.ensures.bytes)))

pub returns-in_err-items-in-Some-clause-bytes : goal.returns-in_err-items-in-Some-clause-bytes
returns-in_err-items-in-Some-clause-bytes g c =
    let mark = c.args.around.mark in
    let known = c.args.known.now in
    let items = plain_items c.args.items in
    let body = template_of c.in-Some.template.now in
    let halt = c.in_err-items-in-Some.field-0.0 in
    let p = err_from_is_err_and c.from_residual.result c.from_residual.ensures.1 in
    IfSome_then (g.F.Folder.files c.args.folder.now) c.in_err-items-in-Some.ensures.read (λ files yields.
    then_yields (λ answer. answer ≡ fields_for mark (table_of c.args.types.now) known) (AreReadBytes c.args.around.paths.now files mark known items)
    body (ap (λ (o : Option PlainBody). ok_or o (no_type mark known)) c.in-Some.ensures) c.from_residual.result
    (rw (p.1, p.2) (then_halts (λ answer. answer ≡ items_read c.args.around.paths.now files mark known items) (λ items. AreItemBytes mark known items body) halt
    (halt_so halt (λ answer. items_given answer ≡ items_read c.args.around.paths.now files mark known items)
    (λ answer. answer ≡ items_read c.args.around.paths.now files mark known items) (λ fault is. is) yields))))

pub returns-in_err-bytes_under-in-Some-clause-nameable : goal.returns-in_err-bytes_under-in-Some-clause-nameable
returns-in_err-bytes_under-in-Some-clause-nameable g c files within items =
    let p = err_from_is_err_and c.from_residual-in_err-bytes_under-in-Some.result c.from_residual-in_err-bytes_under-in-Some.ensures.1 in
    rw p.1 (refuses_so (List ℕ) (List ℕ) c.in_err-bytes_under-in-Some.field-0.0 p.0 (IsNameable files) p.2
    (c.in_err-bytes_under-in-Some.ensures.nameable files within (c.in_ok-items-in-Some.ensures.within files items)))
