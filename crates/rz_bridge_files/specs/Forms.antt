-- The forms of a file: which one its bytes have, what they hold, what is written, and their words.
use Rattle.std.specs.Prelude.{ℕ, pos, false, ◌==◌, ◌&&◌, not, nat_eq, nat_le, Bool, if◌then◌else◌, List, [], ◌∷◌, length, replicate, codes, Ok}
use Rattle.std.specs.List.{starts_with}
use Rattle.std.specs.declared.result.Result.{Result}
use Rattle.rz_bridge.specs.Apple.{double_content, single_content, apple_written, apple_carried}
use Rattle.rz_bridge.specs.MacBinary.{macbin_content, macbin_written, macbin_carried}
use Rattle.rz_core.specs.Numbers.{number}
use Rattle.rz_bridge.specs.declared.apple.AppleForm.TheVariants.{Double, Single}
use Rattle.rz_bridge.specs.declared.fault.BridgeFault.{BridgeFault}
use Rattle.rz_bridge.specs.declared.file.Finder.{Finder}
use Rattle.rz_bridge.specs.declared.file.MacFile.{MacFile}
use Rattle.rz_hqx.specs.BinHex.{hqx_content, hqx_written, hqx_carried}
use Rattle.rz_bridge_files.specs.declared.form.Form.{Form}
use Rattle.rz_bridge_files.specs.declared.form.Form.TheVariants.{Raw, AppleDouble, AppleSingle, MacBinary, BinHex}

-- Which form.

-- the first four bytes of AppleDouble, 00051607
abbrev pub double_magic : List ℕ
double_magic = 0 ∷ 5 ∷ 22 ∷ 7 ∷ []

-- the first four bytes of AppleSingle, 00051600
abbrev pub single_magic : List ℕ
single_magic = 0 ∷ 5 ∷ 22 ∷ 0 ∷ []

-- a header of MacBinary: a name of 1 to 63 bytes, the bytes 74 and 82 zero, and the versions at 122 and 123 at least
-- 129
abbrev pub is_header : List ℕ → Bool
is_header bytes =
    nat_le 1 (number 1 bytes 1) && nat_le (number 1 bytes 1) 63 && (number 1 bytes 74 == 0) && (number 1 bytes 82 == 0)
    && nat_le 129 (number 1 bytes 122) && nat_le 129 (number 1 bytes 123)

-- the form of a file's bytes
abbrev pub form_of : List ℕ → Form
form_of bytes =
    if length bytes == 0 then Raw
    else if starts_with nat_eq bytes double_magic then AppleDouble
    else if starts_with nat_eq bytes single_magic then AppleSingle
    else if not (number 1 bytes 0 == 0) then BinHex
    else if nat_le 128 (length bytes) && is_header bytes then MacBinary
    else Raw

-- What it holds.

-- the Finder's fields of a file that has none: type and creator are `????`
abbrev pub raw_finder : Finder
raw_finder = record {
  kind = record { code = 1061109567 };
  creator = record { code = 1061109567 };
  flags = 0;
  vertical = pos 0;
  horizontal = pos 0;
  folder = pos 0;
  extra = replicate 16 0;
}

-- the file whose resource fork is all of the bytes
abbrev pub raw_file : List ℕ → MacFile
raw_file bytes = record {
  name = [];
  finder = raw_finder;
  locked = false;
  created = 0;
  modified = 0;
  data_fork = [];
  res_fork = bytes;
}

-- what bytes of a form hold, beside a data file that AppleDouble alone has, or their first broken rule
abbrev pub content_of : Form → List ℕ → List ℕ → Result MacFile BridgeFault
content_of Raw bytes data_file = Ok (raw_file bytes)
content_of AppleDouble bytes data_file = double_content bytes data_file
content_of AppleSingle bytes data_file = single_content bytes
content_of MacBinary bytes data_file = macbin_content bytes
content_of BinHex bytes data_file = hqx_content bytes

-- What is written.

-- the one file of a form that is written, or why it is refused; of AppleDouble the header file
abbrev pub written_of : Form → MacFile → Result (List ℕ) BridgeFault
written_of Raw file = Ok file.res_fork
written_of AppleDouble file = apple_written Double file
written_of AppleSingle file = apple_written Single file
written_of MacBinary file = macbin_written file
written_of BinHex file = hqx_written file

-- what a form carries of a file
abbrev pub carried_of : Form → MacFile → MacFile
carried_of Raw file = raw_file file.res_fork
carried_of AppleDouble file = apple_carried file
carried_of AppleSingle file = apple_carried file
carried_of MacBinary file = macbin_carried file
carried_of BinHex file = hqx_carried file

-- Words.

-- the word that a form has in arguments and in the list of a file
abbrev pub form_word : Form → List ℕ
form_word Raw = codes "raw"
form_word AppleDouble = codes "double"
form_word AppleSingle = codes "single"
form_word MacBinary = codes "macbin"
form_word BinHex = codes "hqx"
