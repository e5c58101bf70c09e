-- Where tokens and faults stand.
use Rattle.std.specs.Prelude.{◌≡◌, ◌<◌, ℕ, true, List, length}
use Rattle.std.specs.List.{AllByRecursion}
use Rattle.rz_lex.specs.Within.{AreWithin}
use Rattle.rz_core.specs.Message.{is_between, IsNameable}
use Rattle.rz_core.specs.declared.fault.Fault.{Fault}
use Rattle.rz_core.specs.declared.fault.Mark.{Mark}
use Rattle.rz_lex.specs.declared.token.Token.{Token}
use Rattle.rz_pre.specs.declared.act.Act.{Act}
use Rattle.rz_pre.specs.declared.act.Act.TheVariants.{Put}
use Rattle.rz_pre.specs.declared.conditional.Open.{Open}
use Rattle.rz_pre.specs.declared.reading.Reading.{Reading}

-- the tokens stand on one line
abbrev pub AreOn : Mark → List Token → Type 0
AreOn mark tokens = AllByRecursion (λ token. token.mark ≡ mark) tokens

-- what a line puts out stands on it
abbrev pub PutsOn : Mark → Act → Type 0
PutsOn mark (Put tokens) = AreOn mark tokens
PutsOn mark act = Unit {0}

-- each conditional that is open began in one of so many files
abbrev pub AreOpenIn : ℕ → List Open → Type 0
AreOpenIn files opens = AllByRecursion (λ (one : Open). one.mark.file < files) opens

-- each token that was put out stands in a file that was opened
abbrev pub IsPlaced : Reading → Type 0
IsPlaced reading = AreWithin (length reading.files) reading.tokens

-- a fault of sources, 101 to 115, that can be named by so many files
pub record IsSourceFault (files : ℕ) (fault : Fault) : Type 0 where
  pub number : is_between 101 115 fault.number ≡ true
  pub nameable : IsNameable files fault
