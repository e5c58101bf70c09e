-- What is read of the bytes of a BinHex that was written.
use Rattle.std.proofs.Common.{◌≡◌, ℕ, pos, ◌+◌, ◌-◌, ◌^◌, ◌<◌, ◌≤◌, ◌==◌, ◌||◌, nat_lt, not, false, List, [], ◌∷◌, ◌++◌, length, replicate, None, Ok, refl, sym, ap, ◌∙◌, arith, length-append}
use Rattle.std.proofs.lemmas.Bool.{eq-eqb, le-ltb}
use Rattle.rz_core.specs.Lists.{or_else, unless_fault}
use Rattle.rz_core.specs.Numbers.{be, length-be_2, length-be_4, number}
use Rattle.rz_core.specs.declared.fault.Kept.TheVariants as kept
use Rattle.rz_bridge.specs.Check.{crc_of}
use Rattle.rz_bridge.specs.Faults.{fault, broken}
use Rattle.rz_bridge.specs.Places.{piece}
use Rattle.rz_bridge.specs.declared.file.MacFile.{MacFile}
use Rattle.rz_bridge.proofs.Holds.{unbroken}
use Rattle.rz_core.proofs.Placed.{Has, has_all, has_left, has_right, has_at, number_is, byte_is}
use Rattle.rz_bridge.proofs.Standing.{AreAt, all_at, piece_is}
use Rattle.rz_hqx.specs.BinHex.{name_length, kind_place, data_length, resource_length, data_place, resource_place, cut, bad_length, bad_crc, checked, header_torn, fields_torn, hqx_finder, hqx_fields, decoded_content, hqx_header, with_check, hqx_bytes, hqx_carried, IsCarried}

-- Rules that hold.

uncut : (bytes : List ℕ) (place count : ℕ) → place + count ≤ length bytes → cut bytes place count ≡ None
unfolding cut
uncut bytes place count within =
    unbroken (nat_lt (length bytes) (place + count)) (fault 445 place (length bytes - place)) (le-ltb (length bytes) (place + count) within)

named : (bytes : List ℕ) (count : ℕ) → name_length bytes ≡ count → 1 ≤ count → count ≤ 63 → bad_length bytes ≡ None
unfolding bad_length
named bytes count is some most =
    ap (λ (n : ℕ). broken (nat_lt n 1 || nat_lt 63 n) (fault 447 0 n)) is
    ∙ unbroken (nat_lt count 1 || nat_lt 63 count) (fault 447 0 count) (λ i. le-ltb count 1 some i || le-ltb 63 count most i)

-- a piece and its check after it
right : (bytes : List ℕ) (which place : ℕ) (some : List ℕ) → Has bytes place some → Has bytes (place + length some) (be 2 (crc_of 0 some)) → crc_of 0 some < 2 ^ 16
    → bad_crc bytes which place (length some) ≡ None
unfolding bad_crc
right bytes which place some has check small =
    let stored = number 2 bytes (place + length some) in
    let computed = crc_of 0 (piece bytes place (length some)) in
    let same : stored ≡ computed =
    number_is bytes 2 (place + length some) (crc_of 0 some) check (omega arith) ∙ ap (crc_of 0) (sym (piece_is bytes place some has)) in
    unbroken (not (stored == computed)) (record { number = 444; offset = place + length some; kept = kept.Check which stored computed })
    (ap not (eq-eqb stored computed same))

whole_checked : (bytes : List ℕ) (which place : ℕ) (some : List ℕ) → Has bytes place some → Has bytes (place + length some) (be 2 (crc_of 0 some)) → crc_of 0 some < 2 ^ 16
    → place + length some + 2 ≤ length bytes → checked bytes which place (length some) ≡ None
unfolding checked
whole_checked bytes which place some has check small within =
    let first = uncut bytes place (length some) (omega arith) in
    let second = uncut bytes (place + length some) 2 within in
    let third = right bytes which place some has check small in
    λ i. or_else (first i) (or_else (second i) (or_else (third i) None))

length-with_check : (bytes : List ℕ) → length (with_check bytes) ≡ length bytes + 2
length-with_check bytes = length-append bytes (be 2 (crc_of 0 bytes)) ∙ omega (arith, length-be_2 (crc_of 0 bytes))

length-hqx_header : (file : MacFile) → length (hqx_header file) ≡ length file.name + 20
unfolding hqx_header
length-hqx_header file = simp (length-append, length-be_2, length-be_4) (omega arith)

-- what can be written
pub record IsWritable (file : MacFile) : Type 0 where
  pub carried : IsCarried file
  pub some : 1 ≤ length file.name
  pub name : length file.name ≤ 63
  pub data_fork : length file.data_fork ≤ 33554432
  pub res_fork : length file.res_fork ≤ 33554432

module _ (file : MacFile) (writable : IsWritable file) where
  abbrev bytes : List ℕ
  bytes = hqx_bytes file

  abbrev count : ℕ
  count = length file.name

  whole : Has bytes 0 (with_check (hqx_header file)) × AreAt bytes (0 + length (with_check (hqx_header file))) (with_check file.data_fork ∷ with_check file.res_fork ∷ [])
  unfolding hqx_bytes
  whole = all_at bytes 0 (with_check (hqx_header file)) (with_check file.data_fork ∷ with_check file.res_fork ∷ []) (has_all bytes)

  pub size : length bytes ≡ count + 26 + length file.data_fork + length file.res_fork
  unfolding hqx_bytes
  size =
      length-append (with_check (hqx_header file) ++ with_check file.data_fork) (with_check file.res_fork)
      ∙ omega (
        arith,
        length-append (with_check (hqx_header file)) (with_check file.data_fork),
        length-with_check (hqx_header file),
        length-with_check file.data_fork,
        length-with_check file.res_fork,
        length-hqx_header file,
      )

  -- The header.

  header_at : Has bytes 0 (hqx_header file)
  header_at = has_left bytes 0 (hqx_header file) (be 2 (crc_of 0 (hqx_header file))) whole.0

  header_check : Has bytes (0 + length (hqx_header file)) (be 2 (crc_of 0 (hqx_header file)))
  header_check = has_right bytes 0 (0 + length (hqx_header file)) (hqx_header file) (be 2 (crc_of 0 (hqx_header file))) refl whole.0

  fields : Has bytes 0 (length file.name ∷ [])
      × AreAt bytes 1 (file.name ∷ (0 ∷ []) ∷ be 4 file.finder.kind.code ∷ be 4 file.finder.creator.code ∷ be 2 file.finder.flags ∷ be 4 (length file.data_fork) ∷ be 4 (length file.res_fork) ∷ [])
  unfolding hqx_header
  fields =
      all_at bytes 0 (length file.name ∷ [])
      (file.name ∷ (0 ∷ []) ∷ be 4 file.finder.kind.code ∷ be 4 file.finder.creator.code ∷ be 2 file.finder.flags ∷ be 4 (length file.data_fork) ∷ be 4 (length file.res_fork) ∷ [])
      header_at

  name_length_is : name_length bytes ≡ count
  unfolding name_length
  name_length_is = byte_is bytes 0 count fields.0

  name_is : piece bytes 1 (name_length bytes) ≡ file.name
  name_is = ap (piece bytes 1) name_length_is ∙ piece_is bytes 1 file.name fields.1.0

  kind_place_is : kind_place bytes ≡ count + 2
  unfolding kind_place
  kind_place_is = ap (λ (n : ℕ). n + 2) name_length_is

  kind_is : number 4 bytes (kind_place bytes) ≡ file.finder.kind.code
  kind_is =
      ap (number 4 bytes) kind_place_is
      ∙ number_is bytes 4 (count + 2) file.finder.kind.code (has_at bytes _ (count + 2) (be 4 file.finder.kind.code) (omega arith) fields.1.1.1.0) (omega (arith, writable.carried.kind))

  creator_is : number 4 bytes (kind_place bytes + 4) ≡ file.finder.creator.code
  creator_is =
      ap (λ (n : ℕ). number 4 bytes (n + 4)) kind_place_is
      ∙ number_is bytes 4 (count + 2 + 4) file.finder.creator.code
      (has_at bytes _ (count + 2 + 4) (be 4 file.finder.creator.code) (omega (arith, length-be_4)) fields.1.1.1.1.0) (omega (arith, writable.carried.creator))

  flags_is : number 2 bytes (kind_place bytes + 8) ≡ file.finder.flags
  flags_is =
      ap (λ (n : ℕ). number 2 bytes (n + 8)) kind_place_is
      ∙ number_is bytes 2 (count + 2 + 8) file.finder.flags
      (has_at bytes _ (count + 2 + 8) (be 2 file.finder.flags) (omega (arith, length-be_4)) fields.1.1.1.1.1.0) (omega (arith, writable.carried.flags))

  data_length_is : data_length bytes ≡ length file.data_fork
  unfolding data_length
  data_length_is =
      ap (λ (n : ℕ). number 4 bytes (n + 10)) kind_place_is
      ∙ number_is bytes 4 (count + 2 + 10) (length file.data_fork)
      (has_at bytes _ (count + 2 + 10) (be 4 (length file.data_fork)) (omega (arith, length-be_4, length-be_2)) fields.1.1.1.1.1.1.0) (omega (arith, writable.data_fork))

  resource_length_is : resource_length bytes ≡ length file.res_fork
  unfolding resource_length
  resource_length_is =
      ap (λ (n : ℕ). number 4 bytes (n + 14)) kind_place_is
      ∙ number_is bytes 4 (count + 2 + 14) (length file.res_fork)
      (has_at bytes _ (count + 2 + 14) (be 4 (length file.res_fork)) (omega (arith, length-be_4, length-be_2)) fields.1.1.1.1.1.1.1.0) (omega (arith, writable.res_fork))

  -- The forks.

  data_place_is : data_place bytes ≡ count + 22
  unfolding data_place
  data_place_is = ap (λ (n : ℕ). n + 20) kind_place_is ∙ omega arith

  resource_place_is : resource_place bytes ≡ count + 24 + length file.data_fork
  unfolding resource_place
  resource_place_is = omega (arith, data_place_is, data_length_is)

  data_checked : Has bytes (count + 22) (with_check file.data_fork)
  data_checked = has_at bytes _ (count + 22) (with_check file.data_fork) (omega (arith, length-with_check (hqx_header file), length-hqx_header file)) whole.1.0

  resource_checked : Has bytes (count + 24 + length file.data_fork) (with_check file.res_fork)
  resource_checked =
      has_at bytes _ (count + 24 + length file.data_fork) (with_check file.res_fork)
      (omega (arith, length-with_check (hqx_header file), length-hqx_header file, length-with_check file.data_fork)) whole.1.1.0

  data_at : Has bytes (count + 22) file.data_fork
  data_at = has_left bytes (count + 22) file.data_fork (be 2 (crc_of 0 file.data_fork)) data_checked

  data_check : Has bytes (count + 22 + length file.data_fork) (be 2 (crc_of 0 file.data_fork))
  data_check = has_right bytes (count + 22) (count + 22 + length file.data_fork) file.data_fork (be 2 (crc_of 0 file.data_fork)) refl data_checked

  resource_at : Has bytes (count + 24 + length file.data_fork) file.res_fork
  resource_at = has_left bytes (count + 24 + length file.data_fork) file.res_fork (be 2 (crc_of 0 file.res_fork)) resource_checked

  resource_check : Has bytes (count + 24 + length file.data_fork + length file.res_fork) (be 2 (crc_of 0 file.res_fork))
  resource_check =
      has_right bytes (count + 24 + length file.data_fork) (count + 24 + length file.data_fork + length file.res_fork) file.res_fork (be 2 (crc_of 0 file.res_fork)) refl resource_checked

  data_is : piece bytes (data_place bytes) (data_length bytes) ≡ file.data_fork
  data_is = (λ i. piece bytes (data_place_is i) (data_length_is i)) ∙ piece_is bytes (count + 22) file.data_fork data_at

  resource_is : piece bytes (resource_place bytes) (resource_length bytes) ≡ file.res_fork
  resource_is = (λ i. piece bytes (resource_place_is i) (resource_length_is i)) ∙ piece_is bytes (count + 24 + length file.data_fork) file.res_fork resource_at

  -- The rules.

  header_right : bad_crc bytes 1 0 (kind_place bytes + 18) ≡ None
  header_right =
      let length_is : kind_place bytes + 18 ≡ length (hqx_header file) = omega (arith, kind_place_is, length-hqx_header file) in
      ap (bad_crc bytes 1 0) length_is ∙ right bytes 1 0 (hqx_header file) header_at header_check writable.carried.header

  header_holds : header_torn bytes ≡ None
  unfolding header_torn
  header_holds =
      let a = uncut bytes 0 1 (omega (arith, size)) in
      let b = named bytes count name_length_is writable.some writable.name in
      let c = uncut bytes 1 (name_length bytes) (omega (arith, size, name_length_is)) in
      let d = uncut bytes (kind_place bytes - 1) 1 (omega (arith, size, kind_place_is)) in
      let e = uncut bytes (kind_place bytes) 4 (omega (arith, size, kind_place_is)) in
      let f = uncut bytes (kind_place bytes + 4) 4 (omega (arith, size, kind_place_is)) in
      let g = uncut bytes (kind_place bytes + 8) 2 (omega (arith, size, kind_place_is)) in
      let h = uncut bytes (kind_place bytes + 10) 4 (omega (arith, size, kind_place_is)) in
      let j = uncut bytes (kind_place bytes + 14) 4 (omega (arith, size, kind_place_is)) in
      let k = uncut bytes (kind_place bytes + 18) 2 (omega (arith, size, kind_place_is)) in
      λ i. or_else (a i) (or_else (b i) (or_else (c i) (or_else (d i) (or_else (e i) (or_else (f i) (or_else (g i) (or_else (h i) (or_else (j i) (or_else (k i) (or_else (header_right i) None))))))))))

  data_holds : checked bytes 2 (data_place bytes) (data_length bytes) ≡ None
  data_holds =
      (λ i. checked bytes 2 (data_place_is i) (data_length_is i))
      ∙ whole_checked bytes 2 (count + 22) file.data_fork data_at data_check writable.carried.data_fork (omega (arith, size))

  resource_holds : checked bytes 3 (resource_place bytes) (resource_length bytes) ≡ None
  resource_holds =
      (λ i. checked bytes 3 (resource_place_is i) (resource_length_is i))
      ∙ whole_checked bytes 3 (count + 24 + length file.data_fork) file.res_fork resource_at resource_check writable.carried.res_fork (omega (arith, size))

  holds : fields_torn bytes ≡ None
  unfolding fields_torn
  holds = λ i. or_else (header_holds i) (or_else (data_holds i) (or_else (resource_holds i) None))

  read : hqx_fields bytes ≡ hqx_carried file
  unfolding hqx_fields hqx_finder
  read = λ i. record {
    name = name_is i;
    finder = record {
      kind = record { code = kind_is i };
      creator = record { code = creator_is i };
      flags = flags_is i;
      vertical = pos 0;
      horizontal = pos 0;
      folder = pos 0;
      extra = replicate 16 0;
    };
    locked = false;
    created = 0;
    modified = 0;
    data_fork = data_is i;
    res_fork = resource_is i;
  }

  pub fields_again : decoded_content (hqx_bytes file) ≡ Ok (hqx_carried file)
  fields_again = λ i. unless_fault (holds i) (read i)
