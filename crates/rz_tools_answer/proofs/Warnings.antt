-- What is said before the line of an outcome is the lines of warnings; there is a line for each, and none of them refuses.
use Rattle.std.proofs.Common.{◌≡◌, ◌≢◌, ℕ, true, [], refl, sym, ap, subst, ◌∙◌}
use Rattle.rz_core.specs.Message.{is_fault, is_named, HasLine, IsNameable}
use Rattle.rz_core.proofs.Names.{has_line}
use Rattle.rz_core.specs.declared.fault.Fault.{Fault}
use Rattle.rz_tools_answer.specs.Answer.{Answer}
use Rattle.rz_tools_answer.specs.Warning.{IsWarning, IsWarningText}
use Rattle.rz_tools_answer.specs.WellFormed.{FitsOutcome, IsWellFormed}
use Rattle.rz_tools_answer.specs.declared.outcome.Outcome.{Outcome}
use Rattle.rz_tools_answer.specs.declared.outcome.Outcome.TheVariants.{Refused}

pub no_lines : IsWarningText []
no_lines = ([], [], tt, refl)

pub refusal_line : (files : ℕ) (fault : Fault) → IsNameable files fault → HasLine files fault
refusal_line = has_line

pub warning_line : (files : ℕ) (fault : Fault) → IsWarning files fault → HasLine files fault
warning_line files fault is = record { number = subst (λ n. is_named n ≡ true) (sym is.number) refl; place = is.place }

other : (number : ℕ) → is_fault number ≡ true → number ≢ 240
other number is same = absurd_so (subst (λ n. is_fault n ≡ true) same is)
  where
    absurd_so : is_fault 240 ≡ true → ⊥
    absurd_so is = cc

pub no_warning : (answer : Answer) (fault : Fault) → IsWellFormed answer → answer.outcome ≡ Refused fault → fault.number ≢ 240
no_warning answer fault fits is = told (subst (λ (o : Outcome). FitsOutcome o answer) is fits)
  where
    told : FitsOutcome (Refused fault) answer → fault.number ≢ 240
    told (failing, same, nameable, warned) =
        let held : Refused failing.fault ≡ Refused fault = sym (ap (λ (a : Answer). a.outcome) same) ∙ is in
        let one : failing.fault ≡ fault = cc in
        other fault.number (subst (λ (f : Fault). is_fault f.number ≡ true) one nameable.number)
