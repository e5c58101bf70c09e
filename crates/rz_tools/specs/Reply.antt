-- What is to be carried out, and the answers that it stands for.
use Rattle.std.specs.Prelude.{◌≡◌, List, [], ℕ, IfOk, IfSome}
use Rattle.std.specs.declared.result.Result.{Result}
use Rattle.rz_core.specs.Stop.{IsReadFault}
use Rattle.rz_core.specs.declared.stop.Halt.{Halt}
use Rattle.rz_folder.specs.Folder.{Files}
use Rattle.rz_folder.specs.OnlyReads.{OnlyReads}
use Rattle.rz_folder.specs.declared.folder.Folder.{Ghosts}
use Rattle.rz_told.specs.Held.{text_of, IsWhole}
use Rattle.rz_tools_answer.specs.Answer.{shown, Answer}
use Rattle.rz_tools_answer.specs.Plan.{answer_of}
use Rattle.rz_tools_answer.specs.WellFormed.{AreWritable, IsWellFormed}
use Rattle.rz_tools_answer.specs.declared.outcome.Outcome.{Outcome}
use Rattle.rz_tools_answer.specs.declared.outcome.Outcome.TheVariants.{Done, Usage}
use Rattle.rz_tools_text.specs.Put.{IsTextOf}
use Rattle.rz_tools.specs.Held.{making_with, IsShown}
use Rattle.rz_tools.specs.declared.reply.Reply.{Reply}
use Rattle.rz_tools.specs.declared.reply.Reply.TheVariants as replies

-- it stands for this answer: a plan for its own, and the text of a fork or of a file for that which puts the text out
abbrev pub IsReply : Reply → Answer → Type 0
IsReply (replies.Plan plan) answer = answer ≡ answer_of plan
IsReply (replies.List text) answer = answer ≡ shown (record { bytes = text_of text; said = [] })
IsReply (replies.Text fork) answer = (text : List ℕ) × IsTextOf fork.text text × (answer ≡ shown (making_with text fork))

-- each answer that it stands for is such a one
abbrev pub EachAnswer : Reply → (Answer → Type 0) → Type 0
EachAnswer reply P = (answer : Answer) → IsReply reply answer → P answer

-- how its answers end
abbrev pub outcome_of : Reply → Outcome
outcome_of (replies.Plan plan) = plan.outcome
outcome_of (replies.Text fork) = Done
outcome_of (replies.List text) = Done

-- it is the text of a fork, which is put line by line
abbrev pub IsText : Reply → Type 0
IsText (replies.Plan plan) = ⊥
IsText (replies.Text fork) = Unit {0}
IsText (replies.List text) = ⊥

-- it can be carried out
abbrev pub IsSound : Reply → Type 0
IsSound (replies.Plan plan) = IsWellFormed (answer_of plan) × AreWritable (answer_of plan).writes
IsSound (replies.Text fork) = IsShown fork
IsSound (replies.List text) = IsWhole text

-- The reply of a call that only read: where the folder tells its files, each answer that it stands for is one of these.
-- It can be carried out, and it is Usage only with the position of a misplaced word.
pub record Replies {F E : Type 0} (g : Ghosts F) (old new : F) (result : Result Reply (Halt E)) (answers : Files → Answer → Type 0) (Misplaced : ℕ → Type 0) : Type 0 where
  pub answered : IfSome (g.files old) (λ files. IfOk result (λ reply. EachAnswer reply (answers files)))
  pub sound : IfOk result IsSound
  pub usage : IfOk result (λ reply. (position : ℕ) → outcome_of reply ≡ Usage (record { position = position }) → Misplaced position)
  pub reads : OnlyReads g old new (IsReadFault result)

-- that of a command, which is never Usage
abbrev pub IsReplyOf : {F E : Type 0} → Ghosts F → F → F → Result Reply (Halt E) → (Files → Answer → Type 0) → Type 0
IsReplyOf g old new result answers = Replies g old new result answers (λ position. ⊥)
