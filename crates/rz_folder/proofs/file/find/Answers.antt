use Rattle.std.proofs.Common.{◌∙◌, arith}
use Rattle.std.proofs.lemmas.Option.{slice_get_within}
use Rattle.rz_folder.proofs.Found.{found_here, found_later, if_some, reads_bytes, reads_missing}
use Rattle.rz_folder.proofs.file.find.Goals as goal

pub read-requires : goal.read-requires
read-requires g c = c.loop-k.invariant.reads.allowed c.at-name.result.now (c.requires c.at-name.result.now (c.loop-k.k, c.at-name.ensures))

pub returns-in-Bytes-clause-found : goal.returns-in-Bytes-clause-found
returns-in-Bytes-clause-found g c = if_some (g.F.Folder.files c.args.folder.now) _ (λ files told.
    found_here files c.args.names.now c.loop-k.k c.at-name.result.now c.at-name.ensures c.in-Bytes.bytes (c.loop-k.invariant.left files told)
    (reads_bytes c.at-name.result.now _ files c.in-Bytes.bytes (c.loop-k.invariant.reads.unchanged ∙ told) c.in-Bytes.ensures.told))

pub loop-k-preserved : goal.loop-k-preserved
loop-k-preserved g c = record {
  left = λ files told. found_later files c.args.names.now c.loop-k.k c.at-name.result.now c.at-name.ensures (c.loop-k.invariant.left files told)
      (reads_missing c.at-name.result.now _ files (c.loop-k.invariant.reads.unchanged ∙ told) c.in-Missing.ensures.told);
  within = let lt = slice_get_within c.args.names.now c.loop-k.k c.at-name.result.now c.at-name.ensures in omega (arith, lt);
  reads = record {
    unchanged = c.in-Missing.ensures.unchanged ∙ c.loop-k.invariant.reads.unchanged;
    counted = omega (arith, c.in-Missing.ensures.counted, c.loop-k.invariant.reads.counted);
    other_count = c.in-Missing.ensures.other_count ∙ c.loop-k.invariant.reads.other_count;
    unwritten = c.in-Missing.ensures.unwritten ∙ c.loop-k.invariant.reads.unwritten;
    cause = λ never. absurd never;
    allowed = λ name may. c.in-Missing.ensures.allowed name (c.loop-k.invariant.reads.allowed name may);
  };
}
