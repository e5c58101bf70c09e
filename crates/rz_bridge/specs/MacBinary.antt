-- The form MacBinary: the rules of a file of version II or III, what its fields say, and the one file of version III
-- that is written. A header of 128 bytes, a secondary header that is skipped, the data fork and the resource fork each
-- begin at a multiple of 128.
use Rattle.std.specs.Prelude.{ℕ, ◌+◌, ◌-◌, ◌*◌, ◌/◌, ◌%◌, ◌==◌, ◌&&◌, ◌||◌, not, nat_lt, if◌then◌else◌, List, [], ◌∷◌, ◌++◌, length, take, replicate}
use Rattle.std.specs.Int.{cast_unsigned, w16}
use Rattle.std.specs.declared.option.Option.{Option}
use Rattle.std.specs.declared.result.Result.{Result}
use Rattle.rz_core.specs.Lists.{first_of, unless_fault}
use Rattle.rz_core.specs.Numbers.{be, number}
use Rattle.rz_core.specs.declared.fault.Kept.TheVariants as kept
use Rattle.rz_bridge.specs.Check.{crc_of}
use Rattle.rz_bridge.specs.Faults.{fault, broken, file_refused}
use Rattle.rz_bridge.specs.Places.{signed, piece, filled, with_filler}
use Rattle.rz_bridge.specs.declared.fault.BridgeFault.{BridgeFault}
use Rattle.rz_bridge.specs.declared.file.Finder.{Finder}
use Rattle.rz_bridge.specs.declared.file.MacFile.{MacFile}

-- Where the forks stand.

-- the data fork begins after the header and the secondary header, whose length stands at 120
unfoldable pub data_place : List ℕ → ℕ
data_place bytes = 128 + filled (number 2 bytes 120)

-- its length stands at 83
unfoldable pub data_length : List ℕ → ℕ
data_length bytes = number 4 bytes 83

-- the resource fork begins after the data fork
unfoldable pub resource_place : List ℕ → ℕ
resource_place bytes = data_place bytes + filled (data_length bytes)

-- its length stands at 87
unfoldable pub resource_length : List ℕ → ℕ
resource_length bytes = number 4 bytes 87

-- The rules.

-- ShortHeader: the file has fewer than 128 bytes
unfoldable pub short_header : List ℕ → Option BridgeFault
short_header bytes = broken (nat_lt (length bytes) 128) (fault 421 0 (length bytes))

-- BadMagic: a byte isn't zero
unfoldable pub not_zero : List ℕ → ℕ → Option BridgeFault
not_zero bytes place = let byte = number 1 bytes place in broken (nat_lt 0 byte) (fault 422 place byte)

-- BadMagic: a byte is below 129
unfoldable pub below_129 : List ℕ → ℕ → Option BridgeFault
below_129 bytes place = let byte = number 1 bytes place in broken (nat_lt byte 129) (fault 422 place byte)

-- NewerVersion: the least version that a reader must know is above 129
unfoldable pub newer_version : List ℕ → Option BridgeFault
newer_version bytes = let byte = number 1 bytes 123 in broken (nat_lt 129 byte) (fault 427 123 byte)

-- BadCrc: the check at 124 isn't that of the bytes before it
unfoldable pub bad_crc : List ℕ → Option BridgeFault
bad_crc bytes =
    let stored = number 2 bytes 124 in
    let computed = crc_of 0 (take 124 bytes) in
    broken (not (stored == computed)) (record { number = 424; offset = 124; kept = kept.Check 0 stored computed })

-- BadName: the length of the name isn't 1 to 63
unfoldable pub bad_length : List ℕ → Option BridgeFault
bad_length bytes = let byte = number 1 bytes 1 in broken (nat_lt byte 1 || nat_lt 63 byte) (fault 425 1 byte)

-- Truncated: a fork with bytes, from this place on and of this length, ends after the file
unfoldable pub truncated : List ℕ → ℕ → ℕ → Option BridgeFault
truncated bytes place count =
    broken (nat_lt 0 count && nat_lt (length bytes) (place + count)) (fault 426 place count)

-- the first broken rule on the header
unfoldable pub header_torn : List ℕ → Option BridgeFault
header_torn bytes = first_of (
    short_header bytes
    ∷ not_zero bytes 0
    ∷ not_zero bytes 74
    ∷ not_zero bytes 82
    ∷ below_129 bytes 122
    ∷ below_129 bytes 123
    ∷ newer_version bytes
    ∷ bad_crc bytes
    ∷ bad_length bytes
    ∷ []
    )

-- the first broken rule
unfoldable pub macbin_torn : List ℕ → Option BridgeFault
macbin_torn bytes = first_of (
    header_torn bytes
    ∷ truncated bytes (data_place bytes) (data_length bytes)
    ∷ truncated bytes (resource_place bytes) (resource_length bytes)
    ∷ []
    )

-- The fields.

-- 16 bytes of which the form has only two, the script and further flags; zeros stand around them
unfoldable pub around : List ℕ → List ℕ
around two = replicate 8 0 ++ two ++ replicate 6 0

-- the last 16 bytes of the Finder's fields: where "mBIN" stands at 102 the form is of version III and has two of them
-- at 106, else all are zeros
unfoldable pub macbin_extra : List ℕ → List ℕ
macbin_extra bytes = if number 4 bytes 102 == 1833060686 then around (piece bytes 106 2) else replicate 16 0

-- the Finder's fields of a header: the high byte of the flags stands at 73 and the low one at 101
unfoldable pub macbin_finder : List ℕ → Finder
macbin_finder bytes = record {
  kind = record { code = number 4 bytes 65 };
  creator = record { code = number 4 bytes 69 };
  flags = 256 * number 1 bytes 73 + number 1 bytes 101;
  vertical = signed bytes 75;
  horizontal = signed bytes 77;
  folder = signed bytes 79;
  extra = macbin_extra bytes;
}

-- the file that the fields make; its lock is the lowest bit at 81
unfoldable pub macbin_fields : List ℕ → MacFile
macbin_fields bytes = record {
  name = piece bytes 2 (number 1 bytes 1);
  finder = macbin_finder bytes;
  locked = number 1 bytes 81 % 2 == 1;
  created = number 4 bytes 91;
  modified = number 4 bytes 95;
  data_fork = piece bytes (data_place bytes) (data_length bytes);
  res_fork = piece bytes (resource_place bytes) (resource_length bytes);
}

-- what the bytes hold, or their first broken rule
abbrev pub macbin_content : List ℕ → Result MacFile BridgeFault
macbin_content bytes = unless_fault (macbin_torn bytes) (macbin_fields bytes)

-- What is written.

-- bytes 0 to 72: zero, the length of the name, the name in 63 bytes, the type and the creator
unfoldable pub macbin_names : MacFile → List ℕ
macbin_names file =
    0 ∷ [] ++ length file.name ∷ [] ++ file.name ++ replicate (63 - length file.name) 0
    ++ be 4 file.finder.kind.code ++ be 4 file.finder.creator.code

-- bytes 73 to 82: the high byte of the flags, zero, the position, the folder, the lock, zero
unfoldable pub macbin_place : MacFile → List ℕ
macbin_place file =
    (file.finder.flags / 256) ∷ [] ++ 0 ∷ [] ++ be 2 (cast_unsigned w16 file.finder.vertical)
    ++ be 2 (cast_unsigned w16 file.finder.horizontal) ++ be 2 (cast_unsigned w16 file.finder.folder)
    ++ (if file.locked then 1 else 0) ∷ [] ++ 0 ∷ []

-- bytes 83 to 100: the lengths of both forks, the dates, and the length of a comment, which is 0
unfoldable pub macbin_lengths : MacFile → List ℕ
macbin_lengths file =
    be 4 (length file.data_fork) ++ be 4 (length file.res_fork) ++ be 4 file.created ++ be 4 file.modified ++ be 2 0

-- bytes 101 to 123: the low byte of the flags, "mBIN", the script and further flags, 12 zeros, the length of a
-- secondary header, which is 0, and the versions: III, and II, which a reader must know
unfoldable pub macbin_versions : MacFile → List ℕ
macbin_versions file =
    (file.finder.flags % 256) ∷ [] ++ be 4 1833060686 ++ piece file.finder.extra 8 2 ++ replicate 12 0 ++ be 2 0
    ++ 130 ∷ [] ++ 129 ∷ []

-- the header without its check
abbrev pub macbin_header : MacFile → List ℕ
macbin_header file = macbin_names file ++ macbin_place file ++ macbin_lengths file ++ macbin_versions file

-- the whole: the header, its check, two zeros, and both forks, filled
unfoldable pub macbin_image : MacFile → List ℕ
macbin_image file =
    macbin_header file ++ be 2 (crc_of 0 (macbin_header file)) ++ be 2 0
    ++ with_filler file.data_fork ++ with_filler file.res_fork

-- the one file that is written, or why it is refused
abbrev pub macbin_written : MacFile → Result (List ℕ) BridgeFault
macbin_written file = unless_fault (file_refused file) (macbin_image file)

-- what the form carries of a file: all, but of the last 16 bytes of the Finder's fields only two
abbrev pub macbin_carried : MacFile → MacFile
macbin_carried file = record {
  name = file.name;
  finder = record file.finder { extra = around (piece file.finder.extra 8 2) };
  locked = file.locked;
  created = file.created;
  modified = file.modified;
  data_fork = file.data_fork;
  res_fork = file.res_fork;
}
