use Rattle.std.proofs.Common.{length, refl}
use Rattle.std.specs.Prelude.{◌==◌}
use Rattle.rz_folder.specs.RealSink.{put_of}
use Rattle.rz_folder.proofs.Writers.{none_put, piece_written, then_put}
use Rattle.rz_folder.proofs.real_sink.put_behind.Goals as goal

pub returns-then-not-write_held : goal.returns-then-not-write_held
returns-then-not-write_held g c = none_put _ _ c.args.piece.now c.write_held.ensures.told

pub returns : goal.returns
returns g c =
    let piece = c.args.piece.now in
    let count = c.write_out-count.result in
    then_put _ _ _ piece (put_of (count == length piece)) c.write_held.ensures.told
    (piece_written _ _ c.write_held.new.held.items piece count (c.if-not-write_held.ensures.all refl) c.write_out-count.ensures.within c.write_out-count.ensures.written)
