-- The resource of a `data` statement: its head, then the files that its text names, and then the text, or the first fault.
-- (MPW Rez.)
use Rattle.std.specs.Prelude.{ℕ, List, Ok}
use Rattle.std.specs.declared.result.Result.{Result}
use Rattle.rz_core.specs.Stop.{◌>>=◌}
use Rattle.rz_core.specs.declared.facts.Facts.{Facts}
use Rattle.rz_core.specs.declared.fault.Fault.{Fault}
use Rattle.rz_core.specs.declared.fault.Mark.{Mark}
use Rattle.rz_core.specs.declared.resource.Resource.{Resource}
use Rattle.rz_stmt_data.specs.Raw.{Raw}
use Rattle.rz_types_fields.specs.Text.{PlainPart}
use Rattle.rz_folder.specs.Folder.{Files}
use Rattle.rz_tools_values.specs.Around.{Around}
use Rattle.rz_tools_values.specs.Contents.{contents_of, with_bytes}
use Rattle.rz_tools_values.specs.Head.{facts_of}
use Rattle.rz_tools_values.specs.Texts.{texts_read}

-- the contents of a text, with what the files give that it names
abbrev pub contents_read : List (List ℕ) → Files → Mark → Facts → List PlainPart → Result (List ℕ) Fault
contents_read paths files mark known parts = texts_read paths files mark known parts >>= contents_of mark known

-- the resource of which this is known, with the contents that a text is
abbrev pub with_text : List (List ℕ) → Files → Mark → List PlainPart → Facts → Result Resource Fault
with_text paths files mark parts known = contents_read paths files mark known parts >>= λ bytes. Ok (with_bytes known bytes)

-- the resource of a statement on this line
abbrev pub resource_of : Around → Mark → Raw → Result Resource Fault
resource_of around mark raw = facts_of around.setting mark raw.kind raw.head >>= with_text around.paths around.files mark raw.texts
