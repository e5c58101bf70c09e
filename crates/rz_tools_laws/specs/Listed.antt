-- `strings` of the file that `restring` wrote.
use Rattle.std.specs.Prelude.{◌≡◌, ℕ, List, Ok, Some}
use Rattle.std.specs.FinMap as finite
use Rattle.rz_bridge_files.specs.Contents.{form_or}
use Rattle.rz_bridge_files.specs.declared.form.Form.{Form}
use Rattle.rz_core.specs.declared.moment.Moment.{Moment}
use Rattle.rz_folder.specs.Folder.{Files}
use Rattle.rz_tools.specs.Restring.{RestringAsked}
use Rattle.rz_tools.specs.Sources.{Compiled}
use Rattle.rz_tools.specs.Strings.{StringsAsked}
use Rattle.rz_tools.specs.Types.{TypesAre}

-- The file that was written, these bytes, stands where `strings` reads it; it is read in the form in which it was
-- written; and the type files mean there what they meant to `restring`.
pub record ListsOutput (moment : Moment) (written : Form) (asked : RestringAsked) (files : Files) (listed : StringsAsked) (after : Files) (output : List ℕ) : Type 0 where
  pub there : finite.get after listed.file ≡ Some output
  pub form : form_or listed.from output ≡ written
  pub types : (compiled : Compiled) → TypesAre moment asked.types files (Ok compiled) → TypesAre moment listed.types after (Ok compiled)
