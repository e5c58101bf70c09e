use Rattle.std.proofs.Common.{◌≡◌, ◌≢◌, [], refl, rules}
use Rattle.rz_bridge_files.specs.declared.form.Form.TheVariants as forms
use Rattle.rz_tools_output.specs.Bridge.{bridge}
use Rattle.rz_tools_output.proofs.Bridging.{two_writes}
use Rattle.rz_tools_output.proofs.bridge.listed.Goals as goal
use Rattle.rz_tools_output.proofs.bridge.listed.Goals.{in-AppleDouble, in_default}

pub returns-clause-writes : goal.returns-clause-writes
returns-clause-writes c =
    let double : c.args.words.now.to ≡ forms.AppleDouble = elim c.match-matches.branch [ in-AppleDouble w ↦ w.in-AppleDouble.is | in_default w ↦ absurd (cc (w.matches-is, c.if-not-matches.false)) ] in
    let some : c.args.file.data_fork ≢ [] = search rules in
    two_writes (bridge c.args.words.now) c.args.file (record { name = c.in_ok-data_file_name.field-0; bytes = c.args.file.data_fork })
    (record { name = c.in_ok-to_string.field-0; bytes = c.args.bytes }) c.new-writes.result c.push-2.new.self c.push-3.new.self
    c.new-writes.ensures c.in_ok-push-2.ensures.ok c.in_ok-push-3.ensures.ok double some c.in_ok-data_file_name.ensures refl c.in_ok-to_string.ensures.ok
