-- What a command plans, of what it makes.
use Rattle.std.specs.Prelude.{Ok, Err, ◌≡◌, IfOk, IfSome}
use Rattle.std.specs.declared.result.Result.{Result}
use Rattle.rz_core.specs.Stop.{IsReadFault}
use Rattle.rz_core.specs.declared.stop.Halt.{Halt}
use Rattle.rz_folder.specs.Folder.{Files}
use Rattle.rz_folder.specs.OnlyReads.{OnlyReads}
use Rattle.rz_folder.specs.declared.folder.Folder.{Ghosts}
use Rattle.rz_tools_answer.specs.Answer.{Answer, Making}
use Rattle.rz_tools_answer.specs.Made.{making_of}
use Rattle.rz_tools_answer.specs.Plan.{answer_of, EndsIn, IsNoUsage}
use Rattle.rz_tools_answer.specs.WellFormed.{AreWritable, IsWellFormed}
use Rattle.rz_tools_answer.specs.declared.made.Failing.{Failing}
use Rattle.rz_tools_answer.specs.declared.made.Made.{Made}
use Rattle.rz_tools_answer.specs.declared.plan.Plan.{Plan}

-- The plan of a command: where the folder tells its files, it is for an answer of the command. It can be carried out, it is
-- not that the words are no command, and the command only read.
pub record Plans {F E : Type 0} (g : Ghosts F) (old new : F) (result : Result Plan (Halt E)) (answers : Files → Answer → Type 0) : Type 0 where
  pub answered : IfSome (g.files old) (λ files. IfOk result (λ plan. answers files (answer_of plan)))
  pub well_formed : IfOk result (λ plan. IsWellFormed (answer_of plan))
  pub writable : IfOk result (λ plan. AreWritable (answer_of plan).writes)
  pub no_usage : IfOk result (λ plan. IsNoUsage plan.outcome)
  pub reads : OnlyReads g old new (IsReadFault result)

-- what is done with what was made, or the refusal that stopped it
abbrev pub EndsAs : (Making → Answer) → Result Made (Halt Failing) → Answer → Type 0
EndsAs done (Ok made) answer = answer ≡ done (making_of made)
EndsAs done (Err halt) answer = EndsIn halt answer

-- the plan that does this with what a command made
pub record Concludes {E : Type 0} (done : Making → Answer) (made : Result Made (Halt Failing)) (result : Result Plan (Halt E)) : Type 0 where
  pub answered : IfOk result (λ plan. EndsAs done made (answer_of plan))
  pub well_formed : IfOk result (λ plan. IsWellFormed (answer_of plan))
  pub writable : IfOk result (λ plan. AreWritable (answer_of plan).writes)
  pub no_usage : IfOk result (λ plan. IsNoUsage plan.outcome)
  pub read_fault : IsReadFault result → IsReadFault made
