-- What a process is given by its host, and what the calls of a host give of it.
use Rattle.std.specs.Prelude.{◌≡◌, ℕ, ℤ, List, Option, Ok, Err, IsSomeAnd, IsUtf8}
use Rattle.std.specs.List.{All}
use Rattle.std.specs.declared.result.Result.{Result}
use Rattle.rz_core.specs.declared.stop.Stop.{Stop}
use Rattle.rz_core.specs.declared.stop.Stop.TheVariants.{Refused, NoMemory}
use Rattle.rz_tools_host.specs.declared.host.NotText.{NotText}

-- What a process is given: the bytes of its arguments, of which the first is the program's name; the bytes that its
-- environment has for a name, where it has any; and the whole seconds since the first second of 1970 that its clock
-- tells, where it tells them.
pub record Process : Type 0 where
  pub args : List (List ℕ)
  pub variables : List ℕ → Option (List ℕ)
  pub clock : Option ℤ

-- each of these is a text
abbrev pub AreTexts : List (List ℕ) → Type 0
AreTexts all = All IsUtf8 all

-- A call gave these bytes as a text, or refused them, which are none. Where memory was refused, nothing is said.
abbrev pub GivesText : List ℕ → Result (List ℕ) (Stop NotText) → Type 0
GivesText bytes (Ok text) = text ≡ bytes
GivesText bytes (Err (Refused not_text)) = IsUtf8 bytes → ⊥
GivesText bytes (Err NoMemory) = Unit {0}

-- the same of several texts, which are refused if one of them is none
abbrev pub GivesTexts : List (List ℕ) → Result (List (List ℕ)) (Stop NotText) → Type 0
GivesTexts all (Ok texts) = texts ≡ all
GivesTexts all (Err (Refused not_text)) = AreTexts all → ⊥
GivesTexts all (Err NoMemory) = Unit {0}

-- the same of what a variable has, where it has anything
abbrev pub GivesValue : Option (List ℕ) → Result (Option (List ℕ)) (Stop NotText) → Type 0
GivesValue held (Ok value) = value ≡ held
GivesValue held (Err (Refused not_text)) = IsSomeAnd held (λ bytes. IsUtf8 bytes → ⊥)
GivesValue held (Err NoMemory) = Unit {0}
