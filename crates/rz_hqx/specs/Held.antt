-- What the reader and the writer hold, by what comes of it with what is still to come.
use Rattle.std.specs.Prelude.{◌<◌, ℕ, ◌+◌, ◌-◌, ◌==◌, if◌then◌else◌, List, [], ◌∷◌, ◌++◌, drop, get_or, length, replicate, Ok, Err}
use Rattle.std.specs.declared.result.Result.{Result}
use Rattle.rz_core.specs.Stop.{◌>>=◌}
use Rattle.rz_bridge.specs.Faults.{fault}
use Rattle.rz_bridge.specs.declared.fault.BridgeFault.{BridgeFault}
use Rattle.rz_hqx.specs.Letters.{eights}
use Rattle.rz_hqx.specs.Runs.{unpacked}
use Rattle.rz_hqx.specs.Text.{numbers_in}
use Rattle.rz_hqx.specs.declared.body.Group.{Group}
use Rattle.rz_hqx.specs.declared.body.Group.TheVariants.{Empty, One, Two, Three}
use Rattle.rz_hqx.specs.declared.body.Letters.{Letters}
use Rattle.rz_hqx.specs.declared.decoded.Before.{Before}
use Rattle.rz_hqx.specs.declared.decoded.Before.TheVariants.{Whole, Mark, Fault}
use Rattle.rz_hqx.specs.declared.decoded.Undoing.{Undoing}

-- Codes that are read.

-- the last of some bytes
abbrev pub last_of : List ℕ → ℕ
last_of bytes = get_or bytes (length bytes - 1) 0

-- the bytes that codes from a place on stand for, after bytes that are known; and the same after a 90 at that place
abbrev mutual
  pub unpacked_behind : List ℕ → ℕ → List ℕ → Result (List ℕ) BridgeFault
  unpacked_behind front place [] = Ok front
  unpacked_behind front place (x ∷ xs) =
      if x == 144 then run_behind front place xs else unpacked_behind (front ++ x ∷ []) (place + 1) xs

  pub run_behind : List ℕ → ℕ → List ℕ → Result (List ℕ) BridgeFault
  run_behind front place [] = Err (fault 445 place 1)
  run_behind front place (count ∷ xs) =
      if count == 0 then unpacked_behind (front ++ 144 ∷ []) (place + 2) xs
      else if length front == 0 then Err (fault 446 place count)
      else unpacked_behind (front ++ replicate (count - 1) (last_of front)) (place + 2) xs

-- what is read of codes after this
abbrev pub undone_after : Before → List ℕ → ℕ → List ℕ → Result (List ℕ) BridgeFault
undone_after Whole front place codes = unpacked_behind front place codes
undone_after Mark front place codes = run_behind front place codes
undone_after (Fault count) front place codes = Err (fault 446 place count)

-- what is read of codes after those that were taken
abbrev pub undone : Undoing → List ℕ → Result (List ℕ) BridgeFault
undone undoing codes = undone_after undoing.before undoing.out undoing.place codes

-- Letters that are read.

-- the bytes of the letters of a text that begin at a place, up to the next colon, with the runs undone
abbrev pub decoded_in : ℕ → List ℕ → Result (List ℕ) BridgeFault
decoded_in place body = numbers_in place body >>= (λ numbers. unpacked (eights numbers))

-- the bytes still to come of the numbers of letters after these of their group
abbrev pub eights_after : Group → List ℕ → List ℕ
eights_after Empty numbers = eights numbers
eights_after (One first) numbers = eights (first ∷ numbers)
eights_after (Two second) numbers = drop 1 (eights (0 ∷ second ∷ numbers))
eights_after (Three third) numbers = drop 2 (eights (0 ∷ 0 ∷ third ∷ numbers))

-- what is read of the numbers of letters after those that were taken
abbrev pub read_on : Letters → List ℕ → Result (List ℕ) BridgeFault
read_on letters numbers = undone letters.codes (eights_after letters.group numbers)

-- the first number of a group has six bits
abbrev pub IsSix : Group → Type 0
IsSix Empty = Unit {0}
IsSix (One first) = first < 64
IsSix (Two second) = Unit {0}
IsSix (Three third) = Unit {0}
