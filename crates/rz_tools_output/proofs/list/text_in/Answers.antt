use Rattle.std.proofs.Common.{ap, ◌∙◌}
use Rattle.std.proofs.lemmas.Result.{err_from_is_err_and}
use Rattle.rz_bridge_files.specs.Contents.{form_or}
use Rattle.rz_tools_output.proofs.Telling.{is_whole, listed_refused, listed_told, listed_torn}
use Rattle.rz_tools_output.proofs.list.text_in.Goals as goal

pub returns-in_err-file-clause-text : goal.returns-in_err-file-clause-text
returns-in_err-file-clause-text c =
    let of_form = c.form_or-form.ensures ∙ ap (form_or c.args.from) c.as_slice.ensures in
    let p = err_from_is_err_and c.from_residual.result c.from_residual.ensures.1 in
    rw (p.1, p.2) (listed_refused c.args.from c.args.bytes c.form_or-form.result of_form c.new.result c.new.ensures c.in_err-file.field-0.0 c.in_err-file.ensures.file)

pub returns-in-Ok-clause-text : goal.returns-in-Ok-clause-text
returns-in-Ok-clause-text c =
    let of_form = c.form_or-form.ensures ∙ ap (form_or c.args.from) c.as_slice.ensures in
    listed_told c.args.from c.args.bytes c.form_or-form.result of_form c.new.result c.new.ensures c.in_ok-file.file c.in_ok-file.ensures.file
    c.as_slice-2.result.now c.as_slice-2.ensures c.in-Ok.ensures.ok

pub returns-in-Ok-clause-whole : goal.returns-in-Ok-clause-whole
returns-in-Ok-clause-whole c =
    let of_form = c.form_or-form.ensures ∙ ap (form_or c.args.from) c.as_slice.ensures in
    is_whole c.args.from c.args.bytes c.form_or-form.result of_form c.new.result c.new.ensures c.in_ok-file.file c.in_ok-file.ensures.file
    c.as_slice-2.result.now c.as_slice-2.ensures c.in_ok-file.ensures.res_fork c.in-Ok.ensures.ok

pub returns-in-Err-clause-text : goal.returns-in-Err-clause-text
returns-in-Err-clause-text c =
    let of_form = c.form_or-form.ensures ∙ ap (form_or c.args.from) c.as_slice.ensures in
    listed_torn c.args.from c.args.bytes c.form_or-form.result of_form c.new.result c.new.ensures c.in_ok-file.file c.in_ok-file.ensures.file
    c.as_slice-2.result.now c.as_slice-2.ensures c.in-Err.fault c.in-Err.ensures.err
