-- Calls that only read, one after the other.
use Rattle.std.proofs.Common.{refl, ◌∙◌, arith}
use Rattle.rz_folder.specs.OnlyReads.{OnlyReads}
use Rattle.rz_folder.specs.declared.folder.Folder.{Ghosts}

module _ {F : Type 0} (g : Ghosts F) where
  -- no call
  pub reads_nothing : (s : F) → OnlyReads g s s ⊥
  reads_nothing s = record {
    unchanged = refl;
    counted = omega arith;
    other_count = refl;
    unwritten = refl;
    cause = λ never. absurd never;
    allowed = λ name may. may;
  }

  -- a call after others
  pub reads_on : (s t u : F) (P Q R : Type 0) → OnlyReads g s t P → OnlyReads g t u Q → (R → Q) → OnlyReads g s u R
  reads_on s t u P Q R first second so = record {
    unchanged = second.unchanged ∙ first.unchanged;
    counted = omega (arith, first.counted, second.counted);
    other_count = second.other_count ∙ first.other_count;
    unwritten = second.unwritten ∙ first.unwritten;
    cause = λ failed. (let rose = second.cause (so failed) in omega (arith, rose, first.counted));
    allowed = λ name may. second.allowed name (first.allowed name may);
  }

  -- a call that failed to read only where another did
  pub reads_as : {A B : Type 0} (old new : F) → (B → A) → OnlyReads g old new A → OnlyReads g old new B
  reads_as old new so reads = record {
    unchanged = reads.unchanged;
    counted = reads.counted;
    other_count = reads.other_count;
    unwritten = reads.unwritten;
    cause = λ failed. reads.cause (so failed);
    allowed = reads.allowed;
  }
