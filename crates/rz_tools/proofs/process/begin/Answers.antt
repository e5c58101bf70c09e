use Rattle.std.proofs.Common.{map, refl, string_bytes, ap}
use Rattle.rz_tools.specs.Begin.{hindered, runs}
use Rattle.rz_tools.proofs.Beginning.{asked_by, lent_words, says_line}
use Rattle.rz_tools.proofs.process.begin.Goals as goal

pub run-requires : goal.run-requires
run-requires g c =
    let start = c.in-Ok.start in
    let given = lent_words (g.H.Host.process c.args.host.now) start.moment _ _ (ap (map string_bytes) c.as_slice-words.ensures.value) c.in-Ok.ensures.begins in
    λ name asks. c.requires name (asked_by (g.H.Host.process c.args.host.now) (g.F.Folder.files c.args.folder.now) _ start.moment given name asks)

pub returns-in-Ok : goal.returns-in-Ok
returns-in-Ok g c =
    let start = c.in-Ok.start in
    let given = lent_words (g.H.Host.process c.args.host.now) start.moment _ _ (ap (map string_bytes) c.as_slice-words.ensures.value) c.in-Ok.ensures.begins in
    runs (map string_bytes c.as_slice-words.result.now) start.moment c.run.result given c.run.ensures c.status.ensures

pub returns-in-Err : goal.returns-in-Err
returns-in-Err g c =
    hindered c.in-Err.hindrance c.in-Err.ensures.hindered (record { untouched = refl; says = says_line _ _ c.line.ensures _ _ _ _ c.put_line.ensures }) c.status-in-Err.ensures
