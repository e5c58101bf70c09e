use Rattle.rz_expr.specs.NameKey.{key_of}
use Rattle.rz_types_fields.proofs.HeldNotes.{still_all, still_first, still_heard, still_more}
use Rattle.rz_types_fields.proofs.notes.newest_walked.Goals as goal

pub loop-newer-init : goal.loop-newer-init
loop-newer-init c = still_first c.args.told (key_of c.args.key) c.args.notes.now

pub returns-then-is_heard : goal.returns-then-is_heard
returns-then-is_heard c =
    still_heard c.args.told (key_of c.args.key) c.args.notes.now c.loop-newer.newer c.index-notes-notes.result c.loop-newer-test.true c.index-notes-notes.is
    c.loop-newer.invariant c.if-is_heard.ensures

pub loop-newer-preserved : goal.loop-newer-preserved
loop-newer-preserved c =
    still_more c.args.told (key_of c.args.key) c.args.notes.now c.loop-newer.newer c.index-notes-notes.result c.loop-newer-test.true c.index-notes-notes.is
    c.loop-newer.invariant c.if-is_heard.ensures

pub returns : goal.returns
returns c = still_all c.args.told (key_of c.args.key) c.args.notes.now c.loop-newer.newer c.loop-newer-test.false c.loop-newer.invariant
