-- Counts that stop at the last value of their type.
use Rattle.std.specs.Prelude.{ℕ, ◌+◌, ◌-◌, ◌^◌, ◌≤◌, min}
use Rattle.rz_folder.specs.declared.sink.Put.{Put}
use Rattle.rz_folder.specs.declared.sink.Put.TheVariants.{Done, Failed}

-- the count after one more; at its last value it stays
abbrev pub next : ℕ → ℕ
next count = min (count + 1) (2 ^ 64 - 1)

-- the count went up, or stands at its last value
abbrev pub Rose : ℕ → ℕ → Type 0
Rose before now = next before ≤ now

-- the faults that a sink counts after a call that ended so: one that failed is one more, and one that is done is none
abbrev pub faults_with : ℕ → Put → ℕ
faults_with faults Done = faults
faults_with faults Failed = next faults
