-- What a call that only reads files gives, and what it leaves.
use Rattle.std.specs.Prelude.{IfOk, IfSome}
use Rattle.std.specs.declared.result.Result.{Result}
use Rattle.rz_core.specs.Stop.{IsReadFault, OnRefusal, Yields}
use Rattle.rz_core.specs.declared.stop.Halt.{Halt}
use Rattle.rz_folder.specs.Folder.{Files}
use Rattle.rz_folder.specs.OnlyReads.{OnlyReads}
use Rattle.rz_folder.specs.declared.folder.Folder.{Ghosts}

-- Where the folder tells its files, the call gave what is answered of them. Good holds of its value, Bad of its
-- refusal, and it only read.
pub record Finds {F X E : Type 0} (g : Ghosts F) (old new : F) (result : Result X (Halt E)) (answers : Files → Result X E → Type 0) (Good : X → Type 0) (Bad : E → Type 0) : Type 0 where
  pub answered : IfSome (g.files old) (λ files. Yields result (answers files))
  pub good : IfOk result Good
  pub bad : OnRefusal result Bad
  pub reads : OnlyReads g old new (IsReadFault result)
