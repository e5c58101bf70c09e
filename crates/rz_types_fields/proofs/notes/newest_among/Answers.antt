use Rattle.std.proofs.Common.{rules, ◌-◌, ◌<◌, get_or, length, arith}
use Rattle.rz_expr.specs.NameKey.{key_of}
use Rattle.rz_types_fields.proofs.HeldNotes.{all_quiet, is_newest, none_newest, own_within, still_quiet}
use Rattle.rz_types_fields.proofs.notes.newest_among.Goals as goal

pub bounds-notes-place : goal.bounds-notes-place
bounds-notes-place c =
    own_within c.args.told (key_of c.args.key) c.args.notes.now c.args.own.now c.requires (length c.args.own.now - 1 - c.loop-newer.newer)
    (omega (arith, c.loop-newer-test.true))

pub offset_bounds-notes-place : goal.offset_bounds-notes-place
offset_bounds-notes-place c =
    let within : get_or c.args.own.now (length c.args.own.now - 1 - c.loop-newer.newer) 0 < length c.args.notes.now =
    own_within c.args.told (key_of c.args.key) c.args.notes.now c.args.own.now c.requires (length c.args.own.now - 1 - c.loop-newer.newer)
    (omega (arith, c.loop-newer-test.true)) in
    search rules

pub loop-newer-init : goal.loop-newer-init
loop-newer-init c = all_quiet c.args.told (key_of c.args.key) c.args.notes.now c.args.own.now c.requires

pub returns-then-is_heard : goal.returns-then-is_heard
returns-then-is_heard c =
    is_newest c.args.told (key_of c.args.key) c.args.notes.now c.args.own.now c.requires c.loop-newer.newer c.index-notes-place.result
    c.loop-newer-test.true c.index-notes-place.is c.loop-newer.invariant c.if-is_heard.ensures

pub loop-newer-preserved : goal.loop-newer-preserved
loop-newer-preserved c =
    still_quiet c.args.told (key_of c.args.key) c.args.notes.now c.args.own.now c.requires c.loop-newer.newer c.index-notes-place.result
    c.loop-newer-test.true c.index-notes-place.is c.loop-newer.invariant c.if-is_heard.ensures

pub returns : goal.returns
returns c =
    none_newest c.args.told (key_of c.args.key) c.args.notes.now c.args.own.now c.requires c.loop-newer.newer c.loop-newer-test.false c.loop-newer.invariant
