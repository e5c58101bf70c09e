-- The form BinHex 4.0: what the text, its codes and its fields say, the first broken rule, and the one text that is
-- written. (RFC 1741.)
use Rattle.std.specs.Prelude.{ℕ, pos, false, ◌+◌, ◌-◌, ◌^◌, ◌<◌, ◌==◌, ◌||◌, not, nat_lt, List, [], ◌∷◌, ◌++◌, length, replicate, Option}
use Rattle.std.specs.declared.result.Result.{Result}
use Rattle.rz_core.specs.Lists.{first_of, unless_fault}
use Rattle.rz_core.specs.Numbers.{be, number}
use Rattle.rz_core.specs.Stop.{◌>>=◌}
use Rattle.rz_core.specs.declared.fault.Kept.TheVariants as kept
use Rattle.rz_bridge.specs.Check.{crc_of}
use Rattle.rz_bridge.specs.Faults.{fault, broken, file_refused}
use Rattle.rz_bridge.specs.Places.{piece}
use Rattle.rz_bridge.specs.declared.fault.BridgeFault.{BridgeFault}
use Rattle.rz_bridge.specs.declared.file.Finder.{Finder}
use Rattle.rz_bridge.specs.declared.file.MacFile.{MacFile}
use Rattle.rz_hqx.specs.Letters.{eights}
use Rattle.rz_hqx.specs.Runs.{packed, unpacked}
use Rattle.rz_hqx.specs.Text.{body_of, numbers_in, text_of}

-- Where the fields stand in the decoded bytes.

-- the length of the name
unfoldable pub name_length : List ℕ → ℕ
name_length bytes = number 1 bytes 0

-- the type stands after the name and the version, and the creator, the flags, both lengths and the check after it
unfoldable pub kind_place : List ℕ → ℕ
kind_place bytes = name_length bytes + 2

-- the length of the data fork
unfoldable pub data_length : List ℕ → ℕ
data_length bytes = number 4 bytes (kind_place bytes + 10)

-- the length of the resource fork
unfoldable pub resource_length : List ℕ → ℕ
resource_length bytes = number 4 bytes (kind_place bytes + 14)

-- the data fork stands after the check of the header
unfoldable pub data_place : List ℕ → ℕ
data_place bytes = kind_place bytes + 20

-- the resource fork stands after the check of the data fork
unfoldable pub resource_place : List ℕ → ℕ
resource_place bytes = data_place bytes + data_length bytes + 2

-- The rules.

-- Truncated: a field of so many bytes ends after the last byte
unfoldable pub cut : List ℕ → ℕ → ℕ → Option BridgeFault
cut bytes place count = broken (nat_lt (length bytes) (place + count)) (fault 445 place (length bytes - place))

-- BadName: the length of the name isn't 1 to 63
unfoldable pub bad_length : List ℕ → Option BridgeFault
bad_length bytes =
    let count = name_length bytes in broken (nat_lt count 1 || nat_lt 63 count) (fault 447 0 count)

-- BadCrc: the check after so many bytes from a place on isn't theirs
unfoldable pub bad_crc : List ℕ → ℕ → ℕ → ℕ → Option BridgeFault
bad_crc bytes which place count =
    let stored = number 2 bytes (place + count) in
    let computed = crc_of 0 (piece bytes place count) in
    broken (not (stored == computed)) (record { number = 444; offset = place + count; kept = kept.Check which stored computed })

-- a piece that ends after the last byte, or whose check does, or isn't its check
unfoldable pub checked : List ℕ → ℕ → ℕ → ℕ → Option BridgeFault
checked bytes which place count = first_of (cut bytes place count ∷ cut bytes (place + count) 2 ∷ bad_crc bytes which place count ∷ [])

-- the first broken rule on the fields up to the header's check
unfoldable pub header_torn : List ℕ → Option BridgeFault
header_torn bytes = first_of (
    cut bytes 0 1
    ∷ bad_length bytes
    ∷ cut bytes 1 (name_length bytes)
    ∷ cut bytes (kind_place bytes - 1) 1
    ∷ cut bytes (kind_place bytes) 4
    ∷ cut bytes (kind_place bytes + 4) 4
    ∷ cut bytes (kind_place bytes + 8) 2
    ∷ cut bytes (kind_place bytes + 10) 4
    ∷ cut bytes (kind_place bytes + 14) 4
    ∷ cut bytes (kind_place bytes + 18) 2
    ∷ bad_crc bytes 1 0 (kind_place bytes + 18)
    ∷ []
    )

-- the first broken rule
unfoldable pub fields_torn : List ℕ → Option BridgeFault
fields_torn bytes = first_of (
    header_torn bytes
    ∷ checked bytes 2 (data_place bytes) (data_length bytes)
    ∷ checked bytes 3 (resource_place bytes) (resource_length bytes)
    ∷ []
    )

-- the Finder's fields; what the form doesn't have is zero
unfoldable pub hqx_finder : List ℕ → Finder
hqx_finder bytes = record {
  kind = record { code = number 4 bytes (kind_place bytes) };
  creator = record { code = number 4 bytes (kind_place bytes + 4) };
  flags = number 2 bytes (kind_place bytes + 8);
  vertical = pos 0;
  horizontal = pos 0;
  folder = pos 0;
  extra = replicate 16 0;
}

-- the file that the fields make
unfoldable pub hqx_fields : List ℕ → MacFile
hqx_fields bytes = record {
  name = piece bytes 1 (name_length bytes);
  finder = hqx_finder bytes;
  locked = false;
  created = 0;
  modified = 0;
  data_fork = piece bytes (data_place bytes) (data_length bytes);
  res_fork = piece bytes (resource_place bytes) (resource_length bytes);
}

-- what decoded bytes hold, or their first broken rule
abbrev pub decoded_content : List ℕ → Result MacFile BridgeFault
decoded_content bytes = unless_fault (fields_torn bytes) (hqx_fields bytes)

-- what a text holds, or its first broken rule
abbrev pub hqx_content : List ℕ → Result MacFile BridgeFault
hqx_content text =
    body_of text >>= (λ body. numbers_in (length text - length body) body >>= (λ numbers. unpacked (eights numbers) >>= decoded_content))

-- What is written.

-- the fields up to the header's check
unfoldable pub hqx_header : MacFile → List ℕ
hqx_header file =
    length file.name ∷ [] ++ file.name ++ 0 ∷ [] ++ be 4 file.finder.kind.code ++ be 4 file.finder.creator.code
    ++ be 2 file.finder.flags ++ be 4 (length file.data_fork) ++ be 4 (length file.res_fork)

-- bytes with their check
abbrev pub with_check : List ℕ → List ℕ
with_check bytes = bytes ++ be 2 (crc_of 0 bytes)

-- the bytes of a file
unfoldable pub hqx_bytes : MacFile → List ℕ
hqx_bytes file = with_check (hqx_header file) ++ with_check file.data_fork ++ with_check file.res_fork

-- the one text that is written, or why it is refused
abbrev pub hqx_written : MacFile → Result (List ℕ) BridgeFault
hqx_written file = unless_fault (file_refused file) (text_of (packed (hqx_bytes file)))

-- what the form carries of a file: name, type, creator, flags and both forks
abbrev pub hqx_carried : MacFile → MacFile
hqx_carried file = record {
  name = file.name;
  finder = record {
    kind = file.finder.kind;
    creator = file.finder.creator;
    flags = file.finder.flags;
    vertical = pos 0;
    horizontal = pos 0;
    folder = pos 0;
    extra = replicate 16 0;
  };
  locked = false;
  created = 0;
  modified = 0;
  data_fork = file.data_fork;
  res_fork = file.res_fork;
}

-- the numbers of a file as the code holds them: those of the form, and the three checks
pub record IsCarried (file : MacFile) : Type 0 where
  pub kind : file.finder.kind.code < 2 ^ 32
  pub creator : file.finder.creator.code < 2 ^ 32
  pub flags : file.finder.flags < 2 ^ 16
  pub header : crc_of 0 (hqx_header file) < 2 ^ 16
  pub data_fork : crc_of 0 file.data_fork < 2 ^ 16
  pub res_fork : crc_of 0 file.res_fork < 2 ^ 16
