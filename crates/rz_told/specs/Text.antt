-- What `list` tells of a file: a line for each fact that its form carries, and a line for each resource of its fork.
use Rattle.std.specs.Prelude.{ℕ, ◌==◌, if◌then◌else◌, List, [], ◌++◌, length, codes}
use Rattle.std.specs.List.{flat_map}
use Rattle.rz_bridge.specs.declared.file.MacFile.{MacFile}
use Rattle.rz_bridge_files.specs.Forms.{form_word}
use Rattle.rz_bridge_files.specs.declared.form.Form.{Form}
use Rattle.rz_bridge_files.specs.declared.form.Form.TheVariants.{Raw, AppleDouble, AppleSingle, MacBinary, BinHex}
use Rattle.rz_core.specs.Decimal.{decimal_of, signed_of}
use Rattle.rz_core.specs.Quoted.{literal_text, quoted}
use Rattle.rz_core.specs.declared.resource.Resource.{Resource}
use Rattle.rz_lex.specs.Spelled.{digits_of}
use Rattle.rz_show_lines.specs.Head.{attr_written}
use Rattle.rz_show_lines.specs.Written.{line_text}
use Rattle.rz_told.specs.Date.{date_told}

-- Facts.

-- a fact on a line of its own
unfoldable pub fact : (word value : List ℕ) → List ℕ
fact word value = word ++ codes " " ++ value ++ codes "\n"

-- the name, and what the Finder keeps
unfoldable pub finder_facts : MacFile → List ℕ
finder_facts file =
    fact (codes "name") (quoted 34 file.name) ++ fact (codes "type") (literal_text file.finder.kind.code)
    ++ fact (codes "creator") (literal_text file.finder.creator.code) ++ fact (codes "flags") (codes "0x" ++ digits_of 16 4 file.finder.flags)

unfoldable pub date_facts : MacFile → List ℕ
date_facts file = fact (codes "created") (date_told file.created) ++ fact (codes "modified") (date_told file.modified)

unfoldable pub data_fact : MacFile → List ℕ
data_fact file = fact (codes "data") (decimal_of (length file.data_fork))

-- the facts that a form carries; of AppleDouble the data fork is a file of its own
abbrev pub carried_facts : Form → MacFile → List ℕ
carried_facts Raw file = []
carried_facts AppleDouble file = finder_facts file ++ date_facts file
carried_facts AppleSingle file = finder_facts file ++ date_facts file ++ data_fact file
carried_facts MacBinary file =
    finder_facts file ++ fact (codes "locked") (if file.locked then codes "true" else codes "false") ++ date_facts file ++ data_fact file
carried_facts BinHex file = finder_facts file ++ data_fact file

-- Resources.

-- a name, where there is one, after a comma; it is never broken
unfoldable pub name_told : (name : List ℕ) → List ℕ
name_told name = if length name == 0 then [] else codes ", " ++ quoted 34 name

-- a resource: its type; in brackets its id, its name and its attributes; and its length
unfoldable pub resource_line : Resource → List ℕ
resource_line r =
    literal_text r.kind.code ++ codes " (" ++ signed_of r.id ++ name_told r.name ++ line_text (attr_written r.attr) ++ codes ") "
    ++ decimal_of (length r.bytes) ++ codes "\n"

-- The whole.

-- the form, the facts that it carries, the length of the fork, its resources in map order, and how many these are
unfoldable pub file_text : Form → MacFile → List Resource → List ℕ
file_text form file list =
    fact (codes "form") (form_word form) ++ carried_facts form file ++ fact (codes "fork") (decimal_of (length file.res_fork))
    ++ flat_map resource_line list ++ fact (codes "resources") (decimal_of (length list))
