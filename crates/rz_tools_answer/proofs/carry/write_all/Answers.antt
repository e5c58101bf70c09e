use Rattle.std.proofs.Common.{◌≡◌, ◌∙◌, ◌+◌, List, map, take, drop, sym, subst, arith}
use Rattle.rz_tools_answer.specs.Answer.{count_after, Write}
use Rattle.rz_tools_answer.specs.Plan.{write_of}
use Rattle.rz_tools_answer.proofs.Carried.{counted_more, cut_there, front_more, next_done, next_failed, writable_there, AreSoFar}
use Rattle.rz_tools_answer.proofs.carry.write_all.Goals as goal

pub write-requires : goal.write-requires
write-requires g c =
    rw c.as_slice.ensures (writable_there write_of c.as_slice-write-items.result.now c.loop-write.write-index c.write-item.result c.loop-write-test.true c.write-item.is
    (rw c.as_slice-write-items.ensures c.requires))

pub returns-in-Failed-clause-told : goal.returns-in-Failed-clause-told
returns-in-Failed-clause-told g c =
    let items = c.as_slice-write-items.result.now in
    let index = c.loop-write.write-index in (
      map write_of (take index items),
      write_of c.write-item.result,
      map write_of (drop (index + 1) items),
      rw (← c.as_slice-write-items.ensures) (cut_there write_of items index c.write-item.result c.loop-write-test.true c.write-item.is),
      next_failed (map write_of (take index items)) (write_of c.write-item.result) _ _ _ _ _ c.deref.ensures c.as_slice.ensures c.loop-write.invariant.so_far c.in-Failed.ensures.told,
      counted_more (map write_of (take index items)) (write_of c.write-item.result) _ _ _ c.loop-write.invariant.writes c.in-Failed.ensures.once,
    )

pub loop-write-preserved : goal.loop-write-preserved
loop-write-preserved g c =
    let items = c.as_slice-write-items.result.now in
    let index = c.loop-write.write-index in
    record {
      so_far = subst (λ (l : List Write). AreSoFar l (g.F.Folder.files c.args.folder.now) (g.F.Folder.files c.write.new.self))
          (sym (front_more write_of items index c.write-item.result c.loop-write-test.true c.write-item.is))
          (next_done (map write_of (take index items)) (write_of c.write-item.result) _ _ _ _ _ c.deref.ensures c.as_slice.ensures c.loop-write.invariant.so_far c.in-Done.ensures.told);
      writes = subst (λ (l : List Write). g.F.Folder.writes c.write.new.self ≡ count_after l (g.F.Folder.writes c.args.folder.now))
          (sym (front_more write_of items index c.write-item.result c.loop-write-test.true c.write-item.is))
          (counted_more (map write_of (take index items)) (write_of c.write-item.result) _ _ _ c.loop-write.invariant.writes c.in-Done.ensures.once);
      untouched = λ none. absurd (omega (arith, none));
      counted = omega (arith, c.loop-write.invariant.counted, c.in-Done.ensures.counted);
      other_count = c.in-Done.ensures.other_count ∙ c.loop-write.invariant.other_count;
    }
