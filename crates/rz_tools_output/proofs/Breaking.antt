-- A text that is told beside no warning, or its refusal.
use Rattle.std.proofs.Common.{◌≡◌, ℕ, List, [], Ok, Err, sym, ap, ◌∙◌}
use Rattle.std.specs.declared.result.Result.{Result}
use Rattle.rz_core.specs.declared.fault.Fault.{Fault}
use Rattle.rz_tools_answer.proofs.Planning.{SaidWith}
use Rattle.rz_tools_answer.specs.Answer.{or_refused, shown, Answer, Answered}
use Rattle.rz_tools_answer.specs.Warning.{said_beside}
use Rattle.rz_tools_output.specs.Det.{told}

-- beside no warning nothing is said
alone : (text : Result (List ℕ) Fault) → or_refused shown (said_beside [] [] text) ≡ told text
alone (Ok bytes) = λ i. told (Ok bytes)
alone (Err fault) = λ i. told (Err fault)

module _ (names : List (List ℕ)) (warnings : List Fault) (no_names : names ≡ []) (no_warnings : warnings ≡ []) where
  pub told_alone : (text : Result (List ℕ) Fault) (answer : Answer) → Answered shown (SaidWith names warnings (λ output. text ≡ output)) answer → answer ≡ told text
  told_alone text answer (made, (output, same, is), says) =
      says ∙ ap (or_refused shown) is ∙ ap (λ (ws : List Fault). or_refused shown (said_beside names ws output)) no_warnings
      ∙ ap (λ (ns : List (List ℕ)). or_refused shown (said_beside ns [] output)) no_names ∙ alone output ∙ ap told (sym same)
