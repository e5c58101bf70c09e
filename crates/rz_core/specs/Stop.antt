-- What a call gives, against what it is to answer. Where memory was refused or a file could not be read, nothing is
-- said of the answer.
use Rattle.std.specs.Prelude.{◌≡◌, Ok, Err}
use Rattle.std.specs.declared.result.Result.{Result}
use Rattle.rz_core.specs.declared.stop.Halt.{Halt}
use Rattle.rz_core.specs.declared.stop.Halt.TheVariants as halts
use Rattle.rz_core.specs.declared.stop.Stop.{Stop}
use Rattle.rz_core.specs.declared.stop.Stop.TheVariants.{Refused, NoMemory}

-- the call gave exactly this value or exactly this fault, or memory was refused
abbrev pub Gives : {X F : Type 0} → Result X F → Result X (Stop F) → Type 0
Gives answer (Ok value) = answer ≡ Ok value
Gives answer (Err (Refused fault)) = answer ≡ Err fault
Gives answer (Err NoMemory) = Unit {0}

-- the call gave what is answered, or memory was refused
abbrev pub Meets : {X F : Type 0} → Result X (Stop F) → (Result X F → Type 0) → Type 0
Meets (Ok value) answers = answers (Ok value)
Meets (Err (Refused fault)) answers = answers (Err fault)
Meets (Err NoMemory) answers = Unit {0}

-- where the call refused, this holds of the fault
abbrev pub OnFault : {X F : Type 0} → Result X (Stop F) → (F → Type 0) → Type 0
OnFault (Ok value) P = Unit {0}
OnFault (Err (Refused fault)) P = P fault
OnFault (Err NoMemory) P = Unit {0}

-- The same of calls that read files.

-- the call gave what is answered; a read fault and want of memory say nothing
abbrev pub Yields : {X F : Type 0} → Result X (Halt F) → (Result X F → Type 0) → Type 0
Yields (Ok value) answers = answers (Ok value)
Yields (Err (halts.Refused fault)) answers = answers (Err fault)
Yields (Err halts.ReadFault) answers = Unit {0}
Yields (Err halts.NoMemory) answers = Unit {0}

-- where the call refused, this holds of the fault
abbrev pub OnRefusal : {X F : Type 0} → Result X (Halt F) → (F → Type 0) → Type 0
OnRefusal (Ok value) P = Unit {0}
OnRefusal (Err (halts.Refused fault)) P = P fault
OnRefusal (Err halts.ReadFault) P = Unit {0}
OnRefusal (Err halts.NoMemory) P = Unit {0}

-- a read failed
abbrev pub IsReadFault : {X F : Type 0} → Result X (Halt F) → Type 0
IsReadFault (Ok value) = ⊥
IsReadFault (Err (halts.Refused fault)) = ⊥
IsReadFault (Err halts.ReadFault) = Unit {0}
IsReadFault (Err halts.NoMemory) = ⊥

-- the end of a call that reads no files, as that of one that does
abbrev pub halt_of : {F : Type 0} → Stop F → Halt F
halt_of (Refused fault) = halts.Refused fault
halt_of NoMemory = halts.NoMemory

abbrev pub halted : {X F : Type 0} → Result X (Stop F) → Result X (Halt F)
halted (Ok value) = Ok value
halted (Err stop) = Err (halt_of stop)

-- Views: what a call gave, as the definitions see it.

-- its value, seen so
abbrev pub seen : {X Y E : Type 0} → (Y → X) → Result Y E → Result X E
seen view (Ok value) = Ok (view value)
seen view (Err stop) = Err stop

-- what it left, where it gives nothing else
abbrev pub left : {X E : Type 0} → X → Result (Unit {0}) E → Result X E
left there (Ok nothing) = Ok there
left there (Err stop) = Err stop

-- its fault, seen so
abbrev pub fault_seen : {X F G : Type 0} → (F → G) → Result X (Stop F) → Result X (Stop G)
fault_seen view (Ok value) = Ok value
fault_seen view (Err (Refused fault)) = Err (Refused (view fault))
fault_seen view (Err NoMemory) = Err NoMemory

abbrev pub refusal_seen : {X F G : Type 0} → (F → G) → Result X (Halt F) → Result X (Halt G)
refusal_seen view (Ok value) = Ok value
refusal_seen view (Err (halts.Refused fault)) = Err (halts.Refused (view fault))
refusal_seen view (Err halts.ReadFault) = Err halts.ReadFault
refusal_seen view (Err halts.NoMemory) = Err halts.NoMemory

-- what is made of a value, where there is one, and else the fault
infixl 10 ◌>>=◌
abbrev pub ◌>>=◌ : {X Y F : Type 0} → Result X F → (X → Result Y F) → Result Y F
(Ok value) >>= next = next value
(Err fault) >>= next = Err fault
