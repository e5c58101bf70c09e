-- Each fork is shown: a resource by its row, or by its bytes.
use Rattle.std.proofs.Common.{ℕ, List, Option, Some, None, Ok, Err, refl}
use Rattle.std.specs.declared.result.Result.{Result}
use Rattle.rz_core.proofs.Has.{has_is, Has}
use Rattle.rz_core.specs.declared.fault.Fault.{Fault}
use Rattle.rz_core.specs.declared.resource.Resource.{Resource}
use Rattle.rz_bridge_files.specs.Contents.{fork_in}
use Rattle.rz_fork.specs.Contents.{Fork}
use Rattle.rz_folder.specs.Names.{missing_file}
use Rattle.rz_tools_text.specs.Chosen.{chosen}
use Rattle.rz_tools_text.specs.Text.{ShowsEach}
use Rattle.rz_tools_text.specs.Shown.{Known}
use Rattle.rz_tools.specs.DeRez.{DeRezAsked, HasFileText, HasForkText}

module _ (every : (known : Known) (list : List Resource) → (text : List ℕ) × ShowsEach known list text) (known : Known) where
  has_fork_text : (asked : DeRezAsked) (fork : Result Fork Fault) → Has (HasForkText known asked fork)
  has_fork_text asked (Ok fork) = let text = every known (chosen asked.only asked.skip fork.list) in (Ok text.0, (text.0, text.1, refl))
  has_fork_text asked (Err fault) = has_is (Err fault)

  pub has_file_text : (asked : DeRezAsked) (entry : Option (List ℕ)) → Has (HasFileText known asked entry)
  has_file_text asked None = has_is (Err (missing_file None asked.file))
  has_file_text asked (Some bytes) = has_fork_text asked (fork_in None asked.from bytes)
