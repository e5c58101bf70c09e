-- What contracts see of a folder of the host's: writes and faults.
use Rattle.std.specs.Prelude.{ℕ}
use Rattle.rz_folder.specs.Counts.{next}
use Rattle.rz_folder.specs.declared.folder.Read.{Read}
use Rattle.rz_folder.specs.declared.folder.Read.TheVariants as read
use Rattle.rz_folder.specs.declared.folder.Written.{Written}
use Rattle.rz_folder.specs.declared.folder.Written.TheVariants as written

-- the numbers of reads and of writes that failed, and that of all writes
pub record RealCounts : Type 0 where
  pub read_faults : ℕ
  pub write_faults : ℕ
  pub writes : ℕ

-- the counts after a read that gave this: a failure counts, and nothing else does
abbrev pub after_read : RealCounts → Read → RealCounts
after_read s (read.Bytes bytes) = s
after_read s read.Missing = s
after_read s read.Failed = record s { read_faults = next s.read_faults }
after_read s read.NoMemory = s

-- the counts after a write that ended so: every write counts as a write, and one that failed also as a failure
abbrev pub after_write : RealCounts → Written → RealCounts
after_write s written.Done = record s { writes = next s.writes }
after_write s written.Failed = record s { write_faults = next s.write_faults; writes = next s.writes }
