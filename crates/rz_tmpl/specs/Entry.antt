-- What the codes of a template's entries mean, and which of the entries take a value.
use Rattle.std.specs.Prelude.{ℕ, Bool, true, false, if◌then◌else◌, List, Option, Some, None, codes}
use Rattle.std.specs.Str.{bytes_eq}
use Rattle.rz_tmpl.specs.declared.entry.CountForm.TheVariants.{LessOne, Rows}
use Rattle.rz_tmpl.specs.declared.entry.Entry.{Entry}
use Rattle.rz_tmpl.specs.declared.entry.Entry.TheVariants.{Count, End, One, Start}
use Rattle.rz_tmpl.specs.declared.entry.ListForm.TheVariants.{Counted, Uncounted}
use Rattle.rz_tmpl.specs.declared.entry.Plain.{Plain}
use Rattle.rz_tmpl.specs.declared.entry.Size.TheVariants.{Byte, Long, Word}
use Rattle.rz_tmpl.specs.declared.entry.Plain.TheVariants.{Aligned, Character, Number, Pascal, Rectangle, Rest, TypeName, ZeroEnded, Zeros}

abbrev pub list_entry : List ℕ → Option Entry
list_entry code =
    if bytes_eq code (codes "OCNT") then Some (Count Rows)
    else if bytes_eq code (codes "ZCNT") then Some (Count LessOne)
    else if bytes_eq code (codes "LSTC") then Some (Start Counted)
    else if bytes_eq code (codes "LSTB") then Some (Start Uncounted)
    else if bytes_eq code (codes "LSTE") then Some End
    else None

abbrev pub text_entry : List ℕ → Option Entry
text_entry code =
    if bytes_eq code (codes "PSTR") then Some (One Pascal)
    else if bytes_eq code (codes "CSTR") then Some (One ZeroEnded)
    else if bytes_eq code (codes "CHAR") then Some (One Character)
    else if bytes_eq code (codes "TNAM") then Some (One TypeName)
    else if bytes_eq code (codes "RECT") then Some (One Rectangle)
    else if bytes_eq code (codes "HEXD") then Some (One Rest)
    else list_entry code

abbrev pub space_entry : List ℕ → Option Entry
space_entry code =
    if bytes_eq code (codes "FBYT") then Some (One (Zeros Byte))
    else if bytes_eq code (codes "FWRD") then Some (One (Zeros Word))
    else if bytes_eq code (codes "FLNG") then Some (One (Zeros Long))
    else if bytes_eq code (codes "AWRD") then Some (One (Aligned Word))
    else if bytes_eq code (codes "ALNG") then Some (One (Aligned Long))
    else text_entry code

-- the entry of a code, where this project takes it
abbrev pub entry_of : List ℕ → Option Entry
entry_of code =
    if bytes_eq code (codes "DBYT") then Some (One (Number Byte false))
    else if bytes_eq code (codes "DWRD") then Some (One (Number Word false))
    else if bytes_eq code (codes "DLNG") then Some (One (Number Long false))
    else if bytes_eq code (codes "HBYT") then Some (One (Number Byte true))
    else if bytes_eq code (codes "HWRD") then Some (One (Number Word true))
    else if bytes_eq code (codes "HLNG") then Some (One (Number Long true))
    else space_entry code

-- a row has a value of the entry
abbrev pub takes : Plain → Bool
takes (Zeros size) = false
takes (Aligned size) = false
takes plain = true
