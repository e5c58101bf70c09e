-- The parts of the text in which the code writes it: what stands before a name, and what stands after it.
use Rattle.std.specs.Prelude.{ℕ, if◌then◌else◌, List, [], ◌++◌, length, codes}
use Rattle.std.specs.List.{flat_map}
use Rattle.rz_bridge.specs.declared.file.MacFile.{MacFile}
use Rattle.rz_bridge_files.specs.declared.form.Form.{Form}
use Rattle.rz_bridge_files.specs.declared.form.Form.TheVariants.{Raw, AppleDouble, AppleSingle, MacBinary, BinHex}
use Rattle.rz_core.specs.Decimal.{decimal_of, signed_of}
use Rattle.rz_core.specs.Quoted.{literal_text, shown_byte}
use Rattle.rz_core.specs.declared.resource.Resource.{Resource}
use Rattle.rz_lex.specs.Spelled.{digits_of}
use Rattle.rz_show_lines.specs.Head.{attr_written}
use Rattle.rz_show_lines.specs.Written.{line_text}
use Rattle.rz_told.specs.Text.{data_fact, date_facts, fact}

-- up to the name of a file, where the form has one
abbrev pub before_name : Form → List ℕ
before_name Raw = codes "form raw\n"
before_name AppleDouble = codes "form double\nname \""
before_name AppleSingle = codes "form single\nname \""
before_name MacBinary = codes "form macbin\nname \""
before_name BinHex = codes "form hqx\nname \""

-- the name as it is shown, where the form has one
abbrev pub shown_name : Form → MacFile → List ℕ
shown_name Raw file = []
shown_name AppleDouble file = flat_map (shown_byte 34) file.name
shown_name AppleSingle file = flat_map (shown_byte 34) file.name
shown_name MacBinary file = flat_map (shown_byte 34) file.name
shown_name BinHex file = flat_map (shown_byte 34) file.name

-- what the Finder keeps, after the name
unfoldable pub finder_rest : MacFile → List ℕ
finder_rest file =
    codes "\"\n" ++ fact (codes "type") (literal_text file.finder.kind.code) ++ fact (codes "creator") (literal_text file.finder.creator.code)
    ++ fact (codes "flags") (codes "0x" ++ digits_of 16 4 file.finder.flags)

unfoldable pub lock_fact : MacFile → List ℕ
lock_fact file = fact (codes "locked") (if file.locked then codes "true" else codes "false")

unfoldable pub fork_fact : MacFile → List ℕ
fork_fact file = fact (codes "fork") (decimal_of (length file.res_fork))

-- the other facts after the name
abbrev pub carried_rest : Form → MacFile → List ℕ
carried_rest Raw file = []
carried_rest AppleDouble file = finder_rest file ++ date_facts file
carried_rest AppleSingle file = finder_rest file ++ date_facts file ++ data_fact file
carried_rest MacBinary file = finder_rest file ++ lock_fact file ++ date_facts file ++ data_fact file
carried_rest BinHex file = finder_rest file ++ data_fact file

-- what stands after the name, up to the line of the fork
abbrev pub after_name : Form → MacFile → List ℕ
after_name form file = carried_rest form file ++ fork_fact file

-- a resource up to its name: its type and its id
unfoldable pub resource_front : Resource → List ℕ
resource_front r = literal_text r.kind.code ++ codes " (" ++ signed_of r.id

-- what stands after it: its attributes and its length
unfoldable pub resource_end : Resource → List ℕ
resource_end r = line_text (attr_written r.attr) ++ codes ") " ++ decimal_of (length r.bytes) ++ codes "\n"
