-- The numbers of a file that is read have their widths, and its texts and forks are bytes.
use Rattle.std.proofs.Common.{◌≡◌, ℕ, ◌+◌, ◌-◌, ◌*◌, ◌^◌, ◌<◌, ◌≤◌, ◌==◌, nat_lt, if◌then◌else◌, Bool, true, false, List, [], ◌∷◌, ◌++◌, length, replicate, take, drop, Option, Some, None, Ok, Result, refl, sym, ap, subst, ◌∙◌, arith, length-append}
use Rattle.std.proofs.lemmas.Bool.{ltb-false}
use Rattle.std.proofs.lemmas.Bool.Decides.{nat_tests}
use Rattle.std.proofs.lemmas.List.{length-drop, length-replicate, length-take}
use Rattle.std.specs.List.{find}
use Rattle.rz_bridge.proofs.Sizes.{length-piece}
use Rattle.rz_bridge.specs.Apple.{apple_fields, apple_torn, data_of, date_at, entries, entry_bytes, finder_of, info_of, mac_date, part}
use Rattle.rz_bridge.specs.Faults.{fault}
use Rattle.rz_bridge.specs.MacBinary.{around, data_length, data_place, header_torn, macbin_extra, macbin_fields, macbin_finder, macbin_torn, resource_length, resource_place, short_header, truncated}
use Rattle.rz_bridge.specs.Places.{piece}
use Rattle.rz_bridge.specs.Ranges.{IsStored}
use Rattle.rz_bridge.specs.declared.apple.AppleForm.{AppleForm}
use Rattle.rz_bridge.specs.declared.apple.AppleForm.TheVariants.{Double, Single}
use Rattle.rz_bridge.specs.declared.entry.Entry.{Entry}
use Rattle.rz_bridge.specs.declared.fault.BridgeFault.{BridgeFault}
use Rattle.rz_bridge.specs.declared.file.MacFile.{MacFile}
use Rattle.rz_bridge_files.specs.Forms.{content_of, raw_file}
use Rattle.rz_bridge_files.specs.declared.form.Form.{Form}
use Rattle.rz_bridge_files.specs.declared.form.Form.TheVariants.{AppleDouble, AppleSingle, BinHex, MacBinary, Raw}
use Rattle.rz_laws.proofs.Bytes.{equal_bytes, four_small, front_bytes, one_small, piece_bytes, signed_fits, signed_small, together, two_small}
use Rattle.rz_laws.proofs.Coded.{eights_bytes, numbers_small, unpacked_bytes}
use Rattle.rz_laws.proofs.Faults.{first_step, passes, unfaulted}
use Rattle.rz_laws.specs.Kept.{AreBytes, IsKept}
use Rattle.rz_core.proofs.Lists.{or_else_none}
use Rattle.rz_core.specs.Lists.{unless_fault}
use Rattle.rz_core.specs.Numbers.{number}
use Rattle.rz_core.specs.Stop.{◌>>=◌}
use Rattle.rz_hqx.specs.BinHex as hqx
use Rattle.rz_hqx.specs.Letters.{eights}
use Rattle.rz_hqx.specs.Runs.{unpacked}
use Rattle.rz_hqx.specs.Text.{body_of, numbers_in}

-- AppleDouble and AppleSingle.

entry_part : (bytes : List ℕ) (entry : Option Entry) → AreBytes bytes → AreBytes (entry_bytes bytes entry)
entry_part bytes None small = tt
entry_part bytes (Some entry) small = piece_bytes bytes entry.offset entry.length small

part_bytes : (bytes : List ℕ) (id : ℕ) → AreBytes bytes → AreBytes (part bytes id)
unfolding part
part_bytes bytes id small = entry_part bytes (find (λ entry. entry.id == id) (entries bytes)) small

date_small : (stored : ℕ) → stored < 2 ^ 32 → mac_date stored < 2 ^ 32
unfolding mac_date
date_small stored small = grind (arith, nat_tests)

dated : (dates : List ℕ) (place : ℕ) → AreBytes dates → date_at dates place < 2 ^ 32
unfolding date_at
dated dates place small = by (nat_lt (length dates) 8)
  where
    by : (t : Bool) → (if t then 0 else mac_date (number 4 dates place)) < 2 ^ 32
    by true = omega arith
    by false = date_small (number 4 dates place) (four_small dates place small)

-- the Finder's fields of 32 bytes
finder_stored : (info : List ℕ) → AreBytes info → length info ≡ 32 → IsStored (finder_of info)
unfolding finder_of
finder_stored info small size = record {
  kind = four_small info 0 small;
  creator = four_small info 4 small;
  flags = two_small info 8 small;
  vertical = signed_small info 10 small;
  horizontal = signed_small info 12 small;
  folder = signed_small info 14 small;
  extra = length-piece info 16 16 (omega (arith, size));
}

finder_extra : (info : List ℕ) → AreBytes info → AreBytes (finder_of info).extra
unfolding finder_of
finder_extra info small = piece_bytes info 16 16 small

info_size : (bytes : List ℕ) → length (info_of bytes) ≡ 32
unfolding info_of
info_size bytes = omega (arith, length-take 32 (bytes ++ replicate 32 0), length-append bytes (replicate 32 0), length-replicate {A = ℕ} 32 0)

info_bytes : (bytes : List ℕ) → AreBytes bytes → AreBytes (info_of bytes)
unfolding info_of
info_bytes bytes small = front_bytes 32 (bytes ++ replicate 32 0) (together bytes (replicate 32 0) small (equal_bytes 32 0 (omega arith)))

apple_kept : (bytes data_fork : List ℕ) → AreBytes bytes → AreBytes data_fork → IsKept (apple_fields bytes data_fork)
unfolding apple_fields
apple_kept bytes data_fork small data_small =
    let info = info_of (part bytes 9) in
    let info_small = info_bytes (part bytes 9) (part_bytes bytes 9 small) in
    let dates_small = part_bytes bytes 8 small in
    record {
      stored = finder_stored info info_small (info_size (part bytes 9));
      dates = record { created = dated (part bytes 8) 0 dates_small; modified = dated (part bytes 8) 4 dates_small };
      name = front_bytes 255 (part bytes 3) (part_bytes bytes 3 small);
      extra = finder_extra info info_small;
      data_fork = data_small;
      res_fork = part_bytes bytes 2 small;
    }

-- MacBinary.

module _ (bytes : List ℕ) (small : AreBytes bytes) where
  extra_bytes : AreBytes (macbin_extra bytes)
  unfolding macbin_extra around
  extra_bytes = by (number 4 bytes 102 == 1833060686)
    where
      by : (t : Bool) → AreBytes (if t then around (piece bytes 106 2) else replicate 16 0)
      by true = together (replicate 8 0) (piece bytes 106 2 ++ replicate 6 0) (equal_bytes 8 0 (omega arith))
          (together (piece bytes 106 2) (replicate 6 0) (piece_bytes bytes 106 2 small) (equal_bytes 6 0 (omega arith)))
      by false = equal_bytes 16 0 (omega arith)

  extra_size : 128 ≤ length bytes → length (macbin_extra bytes) ≡ 16
  unfolding macbin_extra around
  extra_size long = by (number 4 bytes 102 == 1833060686)
    where
      by : (t : Bool) → length (if t then around (piece bytes 106 2) else replicate 16 0) ≡ 16
      by true =
          omega (arith, length-append (replicate 8 0) (piece bytes 106 2 ++ replicate 6 0), length-append (piece bytes 106 2) (replicate 6 0), length-piece bytes 106 2 (omega (arith, long)), length-replicate {A = ℕ} 8 0, length-replicate {A = ℕ} 6 0)
      by false = length-replicate {A = ℕ} 16 0

  finder_kept : 128 ≤ length bytes → IsStored (macbin_finder bytes)
  unfolding macbin_finder
  finder_kept long = record {
    kind = four_small bytes 65 small;
    creator = four_small bytes 69 small;
    flags = omega (arith, one_small bytes 73 small, one_small bytes 101 small);
    vertical = signed_small bytes 75 small;
    horizontal = signed_small bytes 77 small;
    folder = signed_small bytes 79 small;
    extra = extra_size long;
  }

  finder_bytes_kept : AreBytes (macbin_finder bytes).extra
  unfolding macbin_finder
  finder_bytes_kept = extra_bytes

  macbin_kept : 128 ≤ length bytes → IsKept (macbin_fields bytes)
  unfolding macbin_fields
  macbin_kept long = record {
    stored = finder_kept long;
    dates = record { created = four_small bytes 91 small; modified = four_small bytes 95 small };
    name = piece_bytes bytes 2 (number 1 bytes 1) small;
    extra = finder_bytes_kept;
    data_fork = piece_bytes bytes (data_place bytes) (data_length bytes) small;
    res_fork = piece_bytes bytes (resource_place bytes) (resource_length bytes) small;
  }

  header_there : short_header bytes ≡ None → 128 ≤ length bytes
  unfolding short_header
  header_there is = ltb-false (length bytes) 128 (passes (nat_lt (length bytes) 128) (fault 421 0 (length bytes)) is)

  long_enough : macbin_torn bytes ≡ None → 128 ≤ length bytes
  unfolding macbin_torn header_torn
  long_enough is = header_there (or_else_none (short_header bytes) _ (or_else_none (header_torn bytes) _ is).0).0

-- BinHex.

zero_finder : (bytes : List ℕ) → AreBytes bytes → IsStored (hqx.hqx_finder bytes)
unfolding hqx.hqx_finder
zero_finder bytes small = record {
  kind = four_small bytes (hqx.kind_place bytes) small;
  creator = four_small bytes (hqx.kind_place bytes + 4) small;
  flags = two_small bytes (hqx.kind_place bytes + 8) small;
  vertical = signed_fits 0 (omega arith);
  horizontal = signed_fits 0 (omega arith);
  folder = signed_fits 0 (omega arith);
  extra = length-replicate {A = ℕ} 16 0;
}

zero_extra : (bytes : List ℕ) → AreBytes (hqx.hqx_finder bytes).extra
unfolding hqx.hqx_finder
zero_extra bytes = equal_bytes 16 0 (omega arith)

hqx_kept : (bytes : List ℕ) → AreBytes bytes → IsKept (hqx.hqx_fields bytes)
unfolding hqx.hqx_fields
hqx_kept bytes small = record {
  stored = zero_finder bytes small;
  dates = record { created = omega arith; modified = omega arith };
  name = piece_bytes bytes 1 (hqx.name_length bytes) small;
  extra = zero_extra bytes;
  data_fork = piece_bytes bytes (hqx.data_place bytes) (hqx.data_length bytes) small;
  res_fork = piece_bytes bytes (hqx.resource_place bytes) (hqx.resource_length bytes) small;
}

decoded_kept : (text : List ℕ) (file : MacFile) → hqx.hqx_content text ≡ Ok file → IsKept file
decoded_kept text file is =
    let body = first_step (body_of text) _ file is in
    let numbers = first_step (numbers_in (length text - length body.0) body.0) _ file body.2 in
    let coded = eights_bytes numbers.0 (numbers_small (length text - length body.0) body.0 numbers.0 numbers.1) in
    let bytes = first_step (unpacked (eights numbers.0)) hqx.decoded_content file numbers.2 in
    let fields = unfaulted (hqx.fields_torn bytes.0) (hqx.hqx_fields bytes.0) file bytes.2 in
    subst IsKept fields.1 (hqx_kept bytes.0 (unpacked_bytes (eights numbers.0) bytes.0 coded bytes.1))

-- All forms.

raw_kept : (bytes : List ℕ) → AreBytes bytes → IsKept (raw_file bytes)
raw_kept bytes small = record {
  stored = record {
    kind = omega arith;
    creator = omega arith;
    flags = omega arith;
    vertical = signed_fits 0 (omega arith);
    horizontal = signed_fits 0 (omega arith);
    folder = signed_fits 0 (omega arith);
    extra = length-replicate {A = ℕ} 16 0;
  };
  dates = record { created = omega arith; modified = omega arith };
  name = tt;
  extra = equal_bytes 16 0 (omega arith);
  data_fork = tt;
  res_fork = small;
}

pub read_kept : (form : Form) (bytes data_file : List ℕ) (file : MacFile) → AreBytes bytes → AreBytes data_file → content_of form bytes data_file ≡ Ok file → IsKept file
read_kept Raw bytes data_file file small data_small is = let same : raw_file bytes ≡ file = cc is in subst IsKept same (raw_kept bytes small)
read_kept AppleDouble bytes data_file file small data_small is =
    subst IsKept (unfaulted (apple_torn Double bytes) (apple_fields bytes data_file) file is).1 (apple_kept bytes data_file small data_small)
read_kept AppleSingle bytes data_file file small data_small is =
    subst IsKept (unfaulted (apple_torn Single bytes) (apple_fields bytes (part bytes 1)) file is).1 (apple_kept bytes (part bytes 1) small (part_bytes bytes 1 small))
read_kept MacBinary bytes data_file file small data_small is =
    let read = unfaulted (macbin_torn bytes) (macbin_fields bytes) file is in
    subst IsKept read.1 (macbin_kept bytes small (long_enough bytes small read.0))
read_kept BinHex bytes data_file file small data_small is = decoded_kept bytes file is

-- The resource fork without the data file.

same_fork : (bytes one other : List ℕ) → (apple_fields bytes one).res_fork ≡ (apple_fields bytes other).res_fork
unfolding apple_fields
same_fork bytes one other = refl

abbrev Alone : Form → List ℕ → MacFile → Type 0
Alone form bytes file = (alone : MacFile) × (content_of form bytes [] ≡ Ok alone) × (alone.res_fork ≡ file.res_fork)

pub read_alone : (form : Form) (bytes data_file : List ℕ) (file : MacFile) → content_of form bytes data_file ≡ Ok file → Alone form bytes file
read_alone Raw bytes data_file file is = (file, is, refl)
read_alone AppleDouble bytes data_file file is =
    let read = unfaulted (apple_torn Double bytes) (apple_fields bytes data_file) file is in (
      apple_fields bytes [],
      ap (λ (torn : Option BridgeFault). unless_fault torn (apple_fields bytes [])) read.0,
      same_fork bytes [] data_file ∙ ap (λ (f : MacFile). f.res_fork) read.1,
    )
read_alone AppleSingle bytes data_file file is = (file, is, refl)
read_alone MacBinary bytes data_file file is = (file, is, refl)
read_alone BinHex bytes data_file file is = (file, is, refl)
