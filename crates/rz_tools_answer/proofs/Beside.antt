-- What is made, with the lines of the warnings.
use Rattle.std.proofs.Common.{◌≡◌, ℕ, List, length, Ok, Err, refl, sym, subst}
use Rattle.std.specs.declared.result.Result.{Result}
use Rattle.rz_core.specs.declared.fault.Fault.{Fault}
use Rattle.rz_core.specs.declared.stop.Halt.{Halt}
use Rattle.rz_core.specs.declared.stop.Halt.TheVariants as halts
use Rattle.rz_tools_answer.specs.declared.made.Failing.{Failing}
use Rattle.rz_tools_answer.specs.Made.{IsBeside, IsSayable, SaysBeside}
use Rattle.rz_tools_answer.specs.Warning.{warning_lines, AreWarnings}

nothing_said : (files : List (List ℕ)) (warnings : List Fault) (output : Result (List ℕ) (Halt Fault)) → (output ≡ Err halts.ReadFault → ⊥) → SaysBeside files warnings output (Err halts.NoMemory)
nothing_said files warnings (Ok bytes) read = tt
nothing_said files warnings (Err (halts.Refused fault)) read = tt
nothing_said files warnings (Err halts.ReadFault) read = absurd (read refl)
nothing_said files warnings (Err halts.NoMemory) read = refl

module _ (files : List (List ℕ)) (warnings : List Fault) (output : Result (List ℕ) (Halt Fault)) where
  pub beside_bytes : (bytes said : List ℕ) → output ≡ Ok bytes → AreWarnings (length files) warnings → said ≡ warning_lines files warnings
      → IsBeside files warnings output (Ok (record { bytes = bytes; said = said }))
  beside_bytes bytes said is are lines = record {
    said = subst (λ (o : Result (List ℕ) (Halt Fault)). SaysBeside files warnings o (Ok (record { bytes = bytes; said = said }))) (sym is)
        (λ i. Ok (record { bytes = bytes; said = lines i }));
    bytes = is;
    sayable = tt;
    warned = (files, warnings, are, lines);
    read_fault = λ never. absurd never;
  }

  pub beside_nothing : (output ≡ Err halts.ReadFault → ⊥) → IsBeside files warnings output (Err halts.NoMemory)
  beside_nothing read = record { said = nothing_said files warnings output read; bytes = tt; sayable = tt; warned = tt; read_fault = λ never. absurd never }

module _ (files : List (List ℕ)) (warnings : List Fault) (halt : Halt Fault) where
  pub beside_fault : (fault : Fault) (failing : Failing) → halt ≡ halts.Refused fault
      → failing ≡ record { fault = fault; files = files; said = warning_lines files warnings } → IsSayable failing → IsBeside files warnings (Err halt) (Err (halts.Refused failing))
  beside_fault fault failing is refuses sayable =
      subst (λ (h : Halt Fault). IsBeside files warnings (Err h) (Err (halts.Refused failing))) (sym is)
      (record { said = λ i. Err (refuses i); bytes = tt; sayable = sayable; warned = tt; read_fault = λ never. absurd never })

  pub beside_no_memory : (fault : Fault) → halt ≡ halts.Refused fault → IsBeside files warnings (Err halt) (Err halts.NoMemory)
  beside_no_memory fault is =
      subst (λ (h : Halt Fault). IsBeside files warnings (Err h) (Err halts.NoMemory)) (sym is) (record { said = tt; bytes = tt; sayable = tt; warned = tt; read_fault = λ never. absurd never })

  pub beside_read_fault : halt ≡ halts.ReadFault → IsBeside files warnings (Err halt) (Err halts.ReadFault)
  beside_read_fault is =
      subst (λ (h : Halt Fault). IsBeside files warnings (Err h) (Err halts.ReadFault)) (sym is) (record { said = refl; bytes = tt; sayable = tt; warned = tt; read_fault = λ failed. failed })

  pub beside_halted : halt ≡ halts.NoMemory → IsBeside files warnings (Err halt) (Err halts.NoMemory)
  beside_halted is =
      subst (λ (h : Halt Fault). IsBeside files warnings (Err h) (Err halts.NoMemory)) (sym is) (record { said = refl; bytes = tt; sayable = tt; warned = tt; read_fault = λ never. absurd never })
