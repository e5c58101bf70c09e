-- What the code holds while it reads, and what its calls leave.
use Rattle.std.specs.Prelude.{◌≡◌, ℕ, Bool, true, false, List, [], ◌∷◌, Option, Some, None, Ok, Err, if◌then◌else◌, is_some}
use Rattle.std.specs.Str.{bytes_eq}
use Rattle.std.specs.declared.result.Result.{Result}
use Rattle.rz_core.specs.declared.fault.Fault.{Fault}
use Rattle.rz_core.specs.declared.resource.Word.{Word}
use Rattle.rz_core.specs.declared.stop.Stop.{Stop}
use Rattle.rz_core.specs.declared.stop.Stop.TheVariants as stops
use Rattle.rz_lex.specs.declared.raw_line.RawLine.{RawLine}
use Rattle.rz_core.specs.Stop.{refusal_seen, seen, IsReadFault, Yields}
use Rattle.rz_core.specs.declared.stop.Halt.{Halt}
use Rattle.rz_core.specs.declared.stop.Halt.TheVariants.{NoMemory, ReadFault, Refused}
use Rattle.rz_pre.specs.Line.{Does}
use Rattle.rz_pre.specs.Live.{live_in}
use Rattle.rz_pre.specs.Macros.{rows_of}
use Rattle.rz_pre.specs.Program.{fails, innermost, opens_after, state_after, State}
use Rattle.rz_pre.specs.declared.program.Failure.{Failure}
use Rattle.rz_pre.specs.declared.act.Act.{Act}
use Rattle.rz_pre.specs.declared.act.Act.TheVariants.{Include}
use Rattle.rz_pre.specs.declared.condition.Tool.{Tool}
use Rattle.rz_pre.specs.declared.conditional.Open.{Open}
use Rattle.rz_pre.specs.declared.program.Program.{Program}
use Rattle.rz_pre.specs.declared.reading.Reading.{Reading}

abbrev pub state_of : Reading → State
state_of reading = record { live = live_in (rows_of reading.macros); tokens = reading.tokens; files = reading.files }

-- what a call gave, with the state that it left, or its fault with the files that were opened until then
abbrev pub with_state : {X Y : Type 0} → (X → State → Y) → State → Result X (Halt Fault) → Result Y (Halt Failure)
with_state make s result = seen (λ value. make value s) (refusal_seen (λ fault. record { fault = fault; files = s.files }) result)

-- the state alone
abbrev pub alone : Unit {0} → State → State
alone nothing s = s

-- a value and the state
abbrev pub together : {X : Type 0} → X → State → X × State
together value s = (value, s)

-- the name of the file that a line includes
abbrev pub included_in : Act → Option (List ℕ)
included_in (Include name) = Some name
included_in other = None

-- what the line does, but for the file that it includes: what the call gave, and the conditionals and the state after
abbrev pub Steps : Tool → RawLine → List Open → State → Result (Option (List ℕ)) (Stop Fault) → List Open → State → Type 0
Steps tool line opens s (Ok name) after t =
    (act : Act) × Does s.live tool (innermost opens) line (Ok act)
    × (name ≡ included_in act) × (after ≡ opens_after line.mark act opens) × (t ≡ state_after act s)
Steps tool line opens s (Err (stops.Refused fault)) after t = Does s.live tool (innermost opens) line (Err fault) × (t ≡ s)
Steps tool line opens s (Err stops.NoMemory) after t = Unit {0}

-- a name is among these
abbrev pub is_among : List ℕ → List Word → Bool
is_among name [] = false
is_among name (word ∷ words) = if bytes_eq name word.bytes then true else is_among name words

-- the program is the one that was read: its names are those that are live
pub record IsProgram (program : Program) (s : State) : Type 0 where
  pub files : program.files ≡ s.files
  pub tokens : program.tokens ≡ s.tokens
  pub macros : (name : List ℕ) → is_among name program.macros ≡ is_some (s.live name)

-- what is answered holds of what the program is, or of the failure
abbrev pub OfProgram : {F : Type 0} → (Result State F → Type 0) → Result Program F → Type 0
OfProgram answers (Ok program) = (s : State) × IsProgram program s × answers (Ok s)
OfProgram answers (Err failure) = answers (Err failure)

-- the program is this one, or the failure is
abbrev pub IsAnswer : Result State Failure → Result Program Failure → Type 0
IsAnswer (Ok s) (Ok program) = IsProgram program s
IsAnswer (Ok s) (Err given) = ⊥
IsAnswer (Err failure) (Ok program) = ⊥
IsAnswer (Err failure) (Err given) = given ≡ failure

-- what the whole call gives, where reading ended so in this state
abbrev pub Finishes : Result (Unit {0}) (Halt Fault) → State → Result Program (Halt Failure) → Type 0
Finishes (Ok nothing) s gave = Yields gave (IsAnswer (Ok s)) × (IsReadFault gave → ⊥)
Finishes (Err (Refused fault)) s gave = Yields gave (IsAnswer (fails fault s)) × (IsReadFault gave → ⊥)
Finishes (Err ReadFault) s gave = IsReadFault gave
Finishes (Err NoMemory) s gave = gave ≡ Err NoMemory
