-- What is written in a form is read as what the form carries.
use Rattle.std.proofs.Common.{◌≡◌, ℕ, ◌-◌, ◌/◌, ◌%◌, ◌<◌, ◌≤◌, if◌then◌else◌, Bool, true, false, List, [], ◌∷◌, ◌++◌, length, replicate, Option, Ok, sym, ap, subst, ◌∙◌, arith}
use Rattle.std.specs.Int.{cast_unsigned, w16}
use Rattle.rz_bridge.proofs.Again.{apple_again}
use Rattle.rz_bridge.proofs.Image as macbin
use Rattle.rz_bridge.specs.Apple.{apple_carried, apple_content, apple_image, apple_written, data_beside}
use Rattle.rz_bridge.specs.Check.{crc_of}
use Rattle.rz_bridge.specs.Faults.{file_refused, forks_refused}
use Rattle.rz_bridge.specs.MacBinary.{macbin_content, macbin_header, macbin_image, macbin_lengths, macbin_names, macbin_place, macbin_versions}
use Rattle.rz_bridge.specs.Places.{piece}
use Rattle.rz_bridge.specs.declared.apple.AppleForm.{AppleForm}
use Rattle.rz_bridge.specs.declared.apple.AppleForm.TheVariants.{Double, Single}
use Rattle.rz_bridge.specs.declared.file.MacFile.{MacFile}
use Rattle.rz_bridge_files.specs.Forms.{carried_of, content_of, raw_file, written_of}
use Rattle.rz_bridge_files.specs.declared.form.Form.{Form}
use Rattle.rz_bridge_files.specs.declared.form.Form.TheVariants.{AppleDouble, AppleSingle, BinHex, MacBinary, Raw}
use Rattle.rz_laws.proofs.Bytes.{be_bytes, equal_bytes, piece_bytes, then_number, together}
use Rattle.rz_laws.proofs.Checks.{check_small}
use Rattle.rz_laws.proofs.Coded.{packed_bytes}
use Rattle.rz_laws.proofs.Faults.{file_short, forks_short, unfaulted, IsShort}
use Rattle.rz_laws.specs.Kept.{AreBytes, IsKept}
use Rattle.rz_core.specs.Numbers.{be}
use Rattle.rz_hqx.proofs.Again.{hqx_again}
use Rattle.rz_hqx.proofs.Fielded as hqx
use Rattle.rz_hqx.specs.BinHex.{hqx_bytes, hqx_content, hqx_header, with_check, IsCarried}
use Rattle.rz_hqx.specs.Runs.{packed}
use Rattle.rz_hqx.specs.Text.{text_of}

lock_byte : (locked : Bool) → (if locked then 1 else 0) < 256
lock_byte true = omega arith
lock_byte false = omega arith

module _ (file : MacFile) (kept : IsKept file) (short : IsShort file) where
  -- MacBinary.

  names_bytes : AreBytes (macbin_names file)
  unfolding macbin_names
  names_bytes = (
    omega arith,
    (
      omega (arith, short.name),
      then_number _ 4 file.finder.creator.code
          (then_number _ 4 file.finder.kind.code
          (together file.name (replicate (63 - length file.name) 0) kept.name (equal_bytes (63 - length file.name) 0 (omega arith)))),
    ),
  )

  place_bytes : AreBytes (macbin_place file)
  unfolding macbin_place
  place_bytes =
      let flags = kept.stored.flags in
      let position =
      then_number _ 2 (cast_unsigned w16 file.finder.folder)
      (then_number _ 2 (cast_unsigned w16 file.finder.horizontal) (be_bytes 2 (cast_unsigned w16 file.finder.vertical))) in (
        omega (arith, flags),
        (omega arith, together _ (0 ∷ []) (together _ ((if file.locked then 1 else 0) ∷ []) position (lock_byte file.locked, tt)) (omega arith, tt)),
      )

  lengths_bytes : AreBytes (macbin_lengths file)
  unfolding macbin_lengths
  lengths_bytes =
      then_number _ 2 0
      (then_number _ 4 file.modified
      (then_number _ 4 file.created (then_number _ 4 (length file.res_fork) (be_bytes 4 (length file.data_fork)))))

  versions_bytes : AreBytes (macbin_versions file)
  unfolding macbin_versions
  versions_bytes =
      let extra = together _ (piece file.finder.extra 8 2) (be_bytes 4 1833060686) (piece_bytes file.finder.extra 8 2 kept.extra) in
      let zeros = then_number _ 2 0 (together _ (replicate 12 0) extra (equal_bytes 12 0 (omega arith))) in
      (omega arith, together _ (129 ∷ []) (together _ (130 ∷ []) zeros (omega arith, tt)) (omega arith, tt))

  header_bytes : AreBytes (macbin_header file)
  header_bytes =
      together _ (macbin_versions file)
      (together _ (macbin_lengths file) (together (macbin_names file) (macbin_place file) names_bytes place_bytes) lengths_bytes) versions_bytes

  pub macbin_writable : macbin.IsWritable file
  macbin_writable = record {
    stored = kept.stored;
    dates = kept.dates;
    check = check_small 0 (macbin_header file) (omega arith) header_bytes;
    some = short.some;
    name = short.name;
    data_fork = short.data_fork;
    res_fork = short.res_fork;
  }

  -- BinHex.

  fields_bytes : AreBytes (hqx_header file)
  unfolding hqx_header
  fields_bytes = (
    omega (arith, short.name),
    then_number _ 4 (length file.res_fork)
        (then_number _ 4 (length file.data_fork)
        (then_number _ 2 file.finder.flags
        (then_number _ 4 file.finder.creator.code
        (then_number _ 4 file.finder.kind.code (together file.name (0 ∷ []) kept.name (omega arith, tt)))))),
  )

  checked_bytes : (bytes : List ℕ) → AreBytes bytes → AreBytes (with_check bytes)
  checked_bytes bytes are = then_number bytes 2 (crc_of 0 bytes) are

  file_bytes : AreBytes (hqx_bytes file)
  unfolding hqx_bytes
  file_bytes =
      together _ (with_check file.res_fork)
      (together (with_check (hqx_header file)) (with_check file.data_fork) (checked_bytes (hqx_header file) fields_bytes) (checked_bytes file.data_fork kept.data_fork))
      (checked_bytes file.res_fork kept.res_fork)

  carried : IsCarried file
  carried = record {
    kind = kept.stored.kind;
    creator = kept.stored.creator;
    flags = kept.stored.flags;
    header = check_small 0 (hqx_header file) (omega arith) fields_bytes;
    data_fork = check_small 0 file.data_fork (omega arith) kept.data_fork;
    res_fork = check_small 0 file.res_fork (omega arith) kept.res_fork;
  }

  pub hqx_writable : hqx.IsWritable file
  hqx_writable = record { carried = carried; some = short.some; name = short.name; data_fork = short.data_fork; res_fork = short.res_fork }

-- All forms.

module _ (file : MacFile) (bytes : List ℕ) (kept : IsKept file) where
  apple_back : (form : AppleForm) → apple_written form file ≡ Ok bytes → apple_content form bytes (data_beside form file) ≡ Ok (apple_carried file)
  apple_back form is =
      let written = unfaulted (forks_refused file) (apple_image form file) bytes is in
      let short = forks_short file written.0 in
      ap (λ (l : List ℕ). apple_content form l (data_beside form file)) (sym written.1)
      ∙ apple_again form file kept.stored kept.dates short.0 short.1

  pub read_back : (form : Form) → written_of form file ≡ Ok bytes → content_of form bytes file.data_fork ≡ Ok (carried_of form file)
  read_back Raw is = let same : file.res_fork ≡ bytes = cc is in ap (λ (l : List ℕ). Ok (raw_file l)) (sym same)
  read_back AppleDouble is = apple_back Double is
  read_back AppleSingle is = apple_back Single is
  read_back MacBinary is =
      let written = unfaulted (file_refused file) (macbin_image file) bytes is in
      ap macbin_content (sym written.1) ∙ macbin.macbin_again file (macbin_writable file kept (file_short file written.0))
  read_back BinHex is =
      let written = unfaulted (file_refused file) (text_of (packed (hqx_bytes file))) bytes is in
      let short = file_short file written.0 in
      ap hqx_content (sym written.1) ∙ hqx_again file (hqx_writable file kept short) (packed_bytes (hqx_bytes file) (file_bytes file kept short))
