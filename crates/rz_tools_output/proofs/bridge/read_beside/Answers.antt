use Rattle.std.proofs.Common.{◌≡◌, ◌≢◌, subst, sym}
use Rattle.rz_bridge_files.specs.DataFile.{IsDataFile}
use Rattle.rz_bridge_files.specs.declared.form.Form.TheVariants as forms
use Rattle.rz_folder.proofs.Finding.{finds_none, finds_so}
use Rattle.rz_folder.proofs.Reading.{reads_nothing}
use Rattle.rz_tools_output.proofs.Bridging.{none_beside, one_beside}
use Rattle.rz_tools_output.proofs.bridge.read_beside.Goals as goal
use Rattle.rz_tools_output.proofs.bridge.read_beside.Goals.{in-AppleDouble, in_default}

pub read_or_empty-requires : goal.read_or_empty-requires
read_or_empty-requires g c = c.requires c.as_str.result.now (subst (IsDataFile c.args.header.now) (sym c.as_str.ensures.value) c.in_ok-name.ensures)

pub returns-then-not-matches : goal.returns-then-not-matches
returns-then-not-matches g c =
    let other : c.args.form ≢ forms.AppleDouble = elim c.match-matches.branch [ in-AppleDouble w ↦ absurd (cc (w.matches-is, c.if-not-matches.true)) | in_default w ↦ w.in_default.not-AppleDouble ] in
    record {
      answered = none_beside c.args.form other c.args.header.now c.new.result c.new.ensures (g.F.Folder.files c.args.folder.now);
      good = tt;
      bad = tt;
      reads = reads_nothing g.F.Folder c.args.folder.now;
    }

pub returns-in_err-name : goal.returns-in_err-name
returns-in_err-name g c = finds_none g.F.Folder c.from_residual.result c.from_residual.ensures.1

pub returns : goal.returns
returns g c =
    let double : c.args.form ≡ forms.AppleDouble = elim c.match-matches.branch [ in-AppleDouble w ↦ w.in-AppleDouble.is | in_default w ↦ absurd (cc (w.matches-is, c.if-not-matches.false)) ] in
    finds_so g.F.Folder c.read_or_empty.result c.read_or_empty.ensures
    (one_beside c.args.form double c.args.header.now c.as_str.result.now (subst (IsDataFile c.args.header.now) (sym c.as_str.ensures.value) c.in_ok-name.ensures))
    (λ bytes short. tt) (λ fault bad. bad)
