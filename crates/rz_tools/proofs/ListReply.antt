-- The reply of `list`, from what its calls gave.
use Rattle.std.proofs.Common.{◌≡◌, ℕ, List, [], length, Option, Some, None, Ok, Err, refl, sym, ap, ◌∙◌}
use Rattle.std.specs.FinMap as finite
use Rattle.std.specs.Prelude.{IfOk, IfSome}
use Rattle.std.specs.declared.result.Result.{Result}
use Rattle.rz_core.specs.declared.fault.Fault.{Fault}
use Rattle.rz_core.specs.declared.stop.Halt.{Halt}
use Rattle.rz_core.specs.declared.stop.Halt.TheVariants as halts
use Rattle.rz_folder.proofs.Reading.{reads_as}
use Rattle.rz_folder.specs.Finds.{Finds}
use Rattle.rz_folder.specs.Folder.{Files}
use Rattle.rz_folder.specs.declared.folder.Folder.{Ghosts}
use Rattle.rz_folder.proofs.Present.{finds_at}
use Rattle.rz_folder.specs.Names.{IsUnplaced}
use Rattle.rz_told.specs.Held.{text_of, IsWhole}
use Rattle.rz_told.specs.declared.text.FileText.{FileText}
use Rattle.rz_tools_answer.proofs.Planning.{concludes_stopped, finds_beside, plans_as, plans_made, SaidWith}
use Rattle.rz_tools_answer.specs.Answer.{shown}
use Rattle.rz_tools_answer.specs.Made.{IsBeside}
use Rattle.rz_tools_answer.specs.Plan.{answer_of, EndsIn, IsRefused}
use Rattle.rz_tools_answer.specs.Plans.{Plans}
use Rattle.rz_tools_answer.specs.WellFormed.{AreWritable, IsWellFormed}
use Rattle.rz_tools_answer.specs.declared.made.Failing.{Failing}
use Rattle.rz_tools_answer.specs.declared.plan.Plan.{Plan}
use Rattle.rz_tools_output.proofs.Breaking.{told_alone}
use Rattle.rz_tools_output.specs.Det.{told, DetAsked}
use Rattle.rz_tools_output.specs.List.{listed_of, AnswersList, HasList}
use Rattle.rz_tools.proofs.Commands.{never_usage}
use Rattle.rz_tools.specs.Reply.{EachAnswer, IsReplyOf}
use Rattle.rz_tools.specs.declared.reply.Reply.TheVariants as replies

module _ {F E : Type 0} (g : Ghosts F) (asked : DetAsked) {old new : F} where
  -- the text of a file
  pub list_replies : (file : FileText) → Finds g old new (Ok (text_of file)) (HasList asked) (λ text. Unit {0}) IsUnplaced → IsWhole file
      → IsReplyOf {E = E} g old new (Ok (replies.List file)) (AnswersList asked)
  list_replies file finds whole = record {
    answered = by (g.files old) finds.answered;
    sound = whole;
    usage = never_usage _ tt;
    reads = reads_as g old new (λ never. absurd never) finds.reads;
  }
    where
      by : (before : Option Files) → IfSome before (λ files. listed_of asked (finite.get files asked.file) ≡ Ok (text_of file)) → IfSome before (λ files. EachAnswer (replies.List file) (AnswersList asked files))
      by None is = tt
      by (Some files) is = λ answer same. same ∙ ap told (sym is)

  -- what stopped the command
  pub list_stopped : (names : List (List ℕ)) (warnings : List Fault) → names ≡ [] → warnings ≡ [] → (halt : Halt Fault) (stop : Halt Failing) → IsBeside names warnings (Err halt) (Err stop)
      → (plan : Result Plan (Halt E)) → IfOk plan (λ plan. EndsIn stop (answer_of plan)) → IfOk plan (λ plan. IsWellFormed (answer_of plan)) → IfOk plan (λ plan. AreWritable (answer_of plan).writes)
      → IfOk plan (λ plan. IsRefused plan.outcome) → (plan ≡ Err halts.ReadFault → stop ≡ halts.ReadFault) → Finds g old new (Err halt) (HasList asked) (λ text. Unit {0}) IsUnplaced
      → Plans g old new plan (AnswersList asked)
  list_stopped names warnings no_names no_warnings halt stop beside plan ends fits writes refused read finds =
      plans_as g plan
      (plans_made g shown (λ files. SaidWith names warnings (HasList asked files)) (Err stop) (finds_beside g (Err stop) (finds_at g (length names) finds) beside)
      (concludes_stopped shown (Err stop) stop refl plan ends fits writes refused read))
      (λ files answer is. told_alone names warnings no_names no_warnings (listed_of asked (finite.get files asked.file)) answer is)
