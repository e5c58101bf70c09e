-- What the code holds of what is known where resources are shown.
use Rattle.std.specs.Prelude.{ℕ, Bool, List}
use Rattle.std.specs.Str.{str_to_ascii_lowercase}
use Rattle.rz_core.specs.declared.resource.Word.{Word}
use Rattle.rz_pre.specs.Reading.{is_among}
use Rattle.rz_show.specs.Hidden.{hides}
use Rattle.rz_tools_text.specs.Shown as shown
use Rattle.rz_tools_text.specs.declared.shown.Known.{Known}
use Rattle.rz_types_table.specs.TypeTable.{table_of}

-- a name, in whatever case, is one of these in lower case
abbrev pub macros_held : List Word → List ℕ → Bool
macros_held macros name = is_among (str_to_ascii_lowercase name) macros

abbrev pub known_of : Known → shown.Known
known_of known = record { types = table_of known.types; is_macro = hides known.macros; moment = known.moment }
