-- The forms AppleDouble and AppleSingle: the rules of a file, what its entries say, and the one file that is written.
-- The file of AppleDouble is a header file, and the data fork is a data file beside it; in AppleSingle the data fork is
-- an entry like the others. (RFC 1740.)
use Rattle.std.specs.Prelude.{ℕ, false, ◌+◌, ◌-◌, ◌*◌, ◌%◌, ◌==◌, ◌&&◌, ◌||◌, not, nat_lt, if◌then◌else◌, List, [], ◌∷◌, ◌++◌, length, map, take, replicate}
use Rattle.std.specs.Int.{cast_unsigned, w16}
use Rattle.std.specs.List.{find, flat_map}
use Rattle.std.specs.declared.option.Option.{Option}
use Rattle.std.specs.declared.option.Option.TheVariants.{Some, None}
use Rattle.std.specs.declared.result.Result.{Result}
use Rattle.rz_core.specs.Lists.{each_with_front, first_of, unless_fault}
use Rattle.rz_core.specs.Numbers.{be, number, items_from}
use Rattle.rz_bridge.specs.Faults.{fault, broken, forks_refused}
use Rattle.rz_bridge.specs.Places.{signed, piece}
use Rattle.rz_bridge.specs.declared.fault.BridgeFault.{BridgeFault}
use Rattle.rz_bridge.specs.declared.apple.AppleForm.{AppleForm}
use Rattle.rz_bridge.specs.declared.apple.AppleForm.TheVariants.{Double, Single}
use Rattle.rz_bridge.specs.declared.apple_out.PartRef.{PartRef}
use Rattle.rz_bridge.specs.declared.entry.Entry.{Entry}
use Rattle.rz_bridge.specs.declared.file.Finder.{Finder}
use Rattle.rz_bridge.specs.declared.file.MacFile.{MacFile}

-- The entries.

-- the entry at a place: its id, and the offset and the length of its bytes
unfoldable pub entry_at : List ℕ → ℕ → Entry
entry_at bytes place = record {
  place = place;
  id = number 4 bytes place;
  offset = number 4 bytes (place + 4);
  length = number 4 bytes (place + 8);
}

-- how many entries there are
unfoldable pub entry_count : List ℕ → ℕ
entry_count bytes = number 2 bytes 24

-- the entries, from 26 on, each in 12 bytes
unfoldable pub entries : List ℕ → List Entry
entries bytes = items_from (entry_at bytes) 12 26 (entry_count bytes)

-- The rules.

-- ShortHeader: the file has fewer than 26 bytes
unfoldable pub short_header : List ℕ → Option BridgeFault
short_header bytes = broken (nat_lt (length bytes) 26) (fault 421 0 (length bytes))

-- the first number of a form: 00051607 of AppleDouble, 00051600 of AppleSingle
abbrev pub magic_of : AppleForm → ℕ
magic_of Double = 333319
magic_of Single = 333312

-- BadMagic: the first number isn't that of the form
unfoldable pub bad_magic : AppleForm → List ℕ → Option BridgeFault
bad_magic form bytes = let magic = number 4 bytes 0 in broken (not (magic == magic_of form)) (fault 422 0 magic)

-- NewerVersion: the version is neither 00020000 nor 00010000
unfoldable pub newer_version : List ℕ → Option BridgeFault
newer_version bytes =
    let version = number 4 bytes 4 in
    broken (not ((version == 131072) || (version == 65536))) (fault 427 4 version)

-- EntryOutside: the entries end after the file
unfoldable pub entries_outside : List ℕ → Option BridgeFault
entries_outside bytes =
    let count = entry_count bytes in
    broken (nat_lt (length bytes) (26 + 12 * count)) (fault 423 24 count)

-- EntryOutside: an entry has bytes, and they end after the file
unfoldable pub entry_outside : List ℕ → Entry → Option BridgeFault
entry_outside bytes entry =
    broken (nat_lt 0 entry.length && nat_lt (length bytes) (entry.offset + entry.length)) (fault 423 entry.place entry.id)

-- the first broken rule
unfoldable pub apple_torn : AppleForm → List ℕ → Option BridgeFault
apple_torn form bytes = first_of (
    short_header bytes
    ∷ bad_magic form bytes
    ∷ newer_version bytes
    ∷ entries_outside bytes
    ∷ first_of (map (entry_outside bytes) (entries bytes))
    ∷ []
    )

-- What the entries say.

-- the bytes of an entry; an absent entry has none
abbrev pub entry_bytes : List ℕ → Option Entry → List ℕ
entry_bytes bytes None = []
entry_bytes bytes (Some entry) = piece bytes entry.offset entry.length

-- the bytes of the first entry with an id
unfoldable pub part : List ℕ → ℕ → List ℕ
part bytes id = entry_bytes bytes (find (λ entry. entry.id == id) (entries bytes))

-- the Finder's fields in 32 bytes
unfoldable pub finder_of : List ℕ → Finder
finder_of info = record {
  kind = record { code = number 4 info 0 };
  creator = record { code = number 4 info 4 };
  flags = number 2 info 8;
  vertical = signed info 10;
  horizontal = signed info 12;
  folder = signed info 14;
  extra = piece info 16 16;
}

-- 32 bytes: the first of these, filled with zeros
unfoldable pub info_of : List ℕ → List ℕ
info_of bytes = take 32 (bytes ++ replicate 32 0)

-- the seconds since the first of 1904 that a stored date means. It counts from the first of 2000, with a sign in its
-- highest bit. 80000000 is no date, and neither is one that 32 bits can't count from 1904 on; no date is 0
unfoldable pub mac_date : ℕ → ℕ
mac_date stored =
    if nat_lt 2147483648 stored then stored - 1265437696
    else if nat_lt 1265437695 stored then 0
    else stored + 3029529600

-- a date among the dates of a file; fewer than 8 bytes have none
unfoldable pub date_at : List ℕ → ℕ → ℕ
date_at dates place = if nat_lt (length dates) 8 then 0 else mac_date (number 4 dates place)

-- the data fork: the data file in AppleDouble, where an entry 1 passes unread, and the entry 1 in AppleSingle
abbrev pub data_of : AppleForm → List ℕ → List ℕ → List ℕ
data_of Double bytes data_file = data_file
data_of Single bytes data_file = part bytes 1

-- the file that the entries 3 (name), 8 (dates), 9 (Finder info) and 2 (resource fork) make with a data fork
unfoldable pub apple_fields : List ℕ → List ℕ → MacFile
apple_fields bytes data_fork = record {
  name = take 255 (part bytes 3);
  finder = finder_of (info_of (part bytes 9));
  locked = false;
  created = date_at (part bytes 8) 0;
  modified = date_at (part bytes 8) 4;
  data_fork = data_fork;
  res_fork = part bytes 2;
}

-- what bytes of a form hold beside a data file, or their first broken rule
abbrev pub apple_content : AppleForm → List ℕ → List ℕ → Result MacFile BridgeFault
apple_content form bytes data_file = unless_fault (apple_torn form bytes) (apple_fields bytes (data_of form bytes data_file))

-- what a header file and a data file hold, or the header's first broken rule
abbrev pub double_content : List ℕ → List ℕ → Result MacFile BridgeFault
double_content = apple_content Double

-- what a file of AppleSingle holds, beside which there is no data file, or its first broken rule
abbrev pub single_content : List ℕ → Result MacFile BridgeFault
single_content bytes = apple_content Single bytes []

-- What is written.

-- the bytes of an id
pub record Part : Type 0 where
  pub id : ℕ
  pub bytes : List ℕ

-- the Finder's fields as 32 bytes
unfoldable pub finder_bytes : Finder → List ℕ
finder_bytes finder =
    be 4 finder.kind.code ++ be 4 finder.creator.code ++ be 2 finder.flags
    ++ be 2 (cast_unsigned w16 finder.vertical) ++ be 2 (cast_unsigned w16 finder.horizontal)
    ++ be 2 (cast_unsigned w16 finder.folder) ++ finder.extra

-- how a date is stored; the forms have none before 882045953
unfoldable pub stored_date : ℕ → ℕ
stored_date seconds = if nat_lt seconds 882045953 then 2147483648 else (seconds + 1265437696) % 4294967296

-- the dates as 16 bytes: when the file was made and changed, and no date of a copy and of a reading
unfoldable pub dates_bytes : MacFile → List ℕ
dates_bytes file = be 4 (stored_date file.created) ++ be 4 (stored_date file.modified) ++ be 4 2147483648 ++ be 4 2147483648

-- the name, as far as the forms have room for it
unfoldable pub short_name : MacFile → List ℕ
short_name file = take 255 file.name

-- parts of which the first one, the name, is left out where it is empty
abbrev pub named : List Part → List Part
named [] = []
named (name ∷ parts) = if length name.bytes == 0 then parts else name ∷ parts

-- the data fork, which is a part in AppleSingle alone
abbrev pub data_part : AppleForm → List ℕ → List Part
data_part Double fork = []
data_part Single fork = record { id = 1; bytes = fork } ∷ []

-- the parts of a file: the name, the dates, the Finder info, the data fork and the resource fork
abbrev pub parts_of : AppleForm → MacFile → List Part
parts_of form file = named (
    record { id = 3; bytes = short_name file }
    ∷ record { id = 8; bytes = dates_bytes file }
    ∷ record { id = 9; bytes = finder_bytes file.finder }
    ∷ data_part form file.data_fork
    ++ record { id = 2; bytes = file.res_fork }
    ∷ []
    )

-- a part that is lent
abbrev pub part_shown : PartRef → Part
part_shown p = record { id = p.id; bytes = p.bytes.now }

-- the parts that are lent
abbrev pub parts_shown : List PartRef → List Part
parts_shown parts = map part_shown parts

-- the bytes of parts, one after the other
abbrev pub bytes_of : List Part → List ℕ
bytes_of parts = flat_map (λ p. p.bytes) parts

-- an entry: the id, the offset and the length
unfoldable pub entry_of : ℕ → ℕ → ℕ → List ℕ
entry_of id offset count = be 4 id ++ be 4 offset ++ be 4 count

-- the entry of a part, among so many and after those before it
abbrev pub part_entry : ℕ → List Part → Part → List ℕ
part_entry count before p = entry_of p.id (26 + 12 * count + length (bytes_of before)) (length p.bytes)

-- the magic number, the version, 16 bytes of filler and the number of entries
unfoldable pub apple_start : AppleForm → ℕ → List ℕ
apple_start form count = be 4 (magic_of form) ++ be 4 131072 ++ replicate 16 0 ++ be 2 count

-- the start and the entries
abbrev pub heads_of : AppleForm → List Part → List ℕ
heads_of form parts = apple_start form (length parts) ++ each_with_front (part_entry (length parts)) parts

-- the whole: the start, the entries, and their bytes in the same order
abbrev pub image_of : AppleForm → List Part → List ℕ
image_of form parts = heads_of form parts ++ bytes_of parts

-- the bytes of a file in a form; of AppleDouble those of the header file
abbrev pub apple_image : AppleForm → MacFile → List ℕ
apple_image form file = image_of form (parts_of form file)

-- the data file that stands beside them; AppleSingle has none
abbrev pub data_beside : AppleForm → MacFile → List ℕ
data_beside Double file = file.data_fork
data_beside Single file = []

-- the one file that is written in a form, or why it is refused
abbrev pub apple_written : AppleForm → MacFile → Result (List ℕ) BridgeFault
apple_written form file = unless_fault (forks_refused file) (apple_image form file)

-- what the forms carry of a date
unfoldable pub carried_date : ℕ → ℕ
carried_date seconds = if nat_lt seconds 882045953 then 0 else seconds

-- what the forms carry of a file: the first 255 bytes of the name, the Finder's fields, dates from 882045953 on, and
-- both forks
abbrev pub apple_carried : MacFile → MacFile
apple_carried file = record {
  name = take 255 file.name;
  finder = file.finder;
  locked = false;
  created = carried_date file.created;
  modified = carried_date file.modified;
  data_fork = file.data_fork;
  res_fork = file.res_fork;
}
