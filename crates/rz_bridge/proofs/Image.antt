-- What is read of a MacBinary that was written.
use Rattle.std.proofs.Common.{◌≡◌, ℕ, ◌+◌, ◌-◌, ◌*◌, ◌/◌, ◌%◌, ◌^◌, ◌<◌, ◌≤◌, ◌==◌, if◌then◌else◌, Bool, true, false, List, [], ◌∷◌, length, take, replicate, None, Ok, refl, sym, ap, ◌∙◌, arith, length-append}
use Rattle.std.proofs.lemmas.List.{length-replicate, take_at}
use Rattle.std.specs.Int.{cast_unsigned, w16}
use Rattle.rz_core.specs.Lists.{or_else, unless_fault}
use Rattle.rz_core.specs.Numbers.{be, length-be_2, length-be_4, number}
use Rattle.rz_bridge.specs.Check.{crc_of}
use Rattle.rz_bridge.specs.Places.{signed, piece, filled, with_filler}
use Rattle.rz_bridge.specs.Ranges.{IsStored, AreDates}
use Rattle.rz_bridge.specs.MacBinary.{data_place, data_length, resource_place, resource_length, header_torn, truncated, macbin_torn, around, macbin_extra, macbin_finder, macbin_fields, macbin_content, macbin_names, macbin_place, macbin_lengths, macbin_versions, macbin_header, macbin_image, macbin_carried}
use Rattle.rz_bridge.specs.declared.file.MacFile.{MacFile}
use Rattle.rz_core.proofs.Placed.{Has, has_all, has_left, has_at, number_is, byte_is, has_within}
use Rattle.rz_bridge.proofs.Standing.{AreAt, all_at, piece_is, signed_is}
use Rattle.rz_bridge.proofs.Sizes.{length-piece, length-macbin_names, length-macbin_place, length-macbin_lengths, length-macbin_header, length-with_filler, filled_most}
use Rattle.rz_bridge.proofs.Holds.{long_holds, zero_holds, version_holds, known_holds, check_holds, name_holds, fork_holds}

-- what can be written, with the numbers as the code holds them
pub record IsWritable (file : MacFile) : Type 0 where
  pub stored : IsStored file.finder
  pub dates : AreDates file
  pub check : crc_of 0 (macbin_header file) < 2 ^ 16
  pub some : 1 ≤ length file.name
  pub name : length file.name ≤ 63
  pub data_fork : length file.data_fork ≤ 33554432
  pub res_fork : length file.res_fork ≤ 33554432

module _ (file : MacFile) (writable : IsWritable file) where
  abbrev image : List ℕ
  image = macbin_image file

  -- The parts.

  whole : Has image 0 (macbin_header file)
      × AreAt image (0 + length (macbin_header file)) (be 2 (crc_of 0 (macbin_header file)) ∷ be 2 0 ∷ with_filler file.data_fork ∷ with_filler file.res_fork ∷ [])
  unfolding macbin_image
  whole =
      all_at image 0 (macbin_header file) (be 2 (crc_of 0 (macbin_header file)) ∷ be 2 0 ∷ with_filler file.data_fork ∷ with_filler file.res_fork ∷ []) (has_all image)

  header_size : length (macbin_header file) ≡ 124
  header_size = length-macbin_header file writable.name writable.stored.extra

  header : Has image 0 (macbin_names file) × AreAt image (0 + length (macbin_names file)) (macbin_place file ∷ macbin_lengths file ∷ macbin_versions file ∷ [])
  header = all_at image 0 (macbin_names file) (macbin_place file ∷ macbin_lengths file ∷ macbin_versions file ∷ []) whole.0

  names_at : Has image 0 (macbin_names file)
  names_at = header.0

  place_at : Has image 73 (macbin_place file)
  place_at = has_at image _ 73 (macbin_place file) (omega (arith, length-macbin_names file writable.name)) header.1.0

  lengths_at : Has image 83 (macbin_lengths file)
  lengths_at = has_at image _ 83 (macbin_lengths file) (omega (arith, length-macbin_names file writable.name, length-macbin_place file)) header.1.1.0

  versions_at : Has image 101 (macbin_versions file)
  versions_at =
      has_at image _ 101 (macbin_versions file) (omega (arith, length-macbin_names file writable.name, length-macbin_place file, length-macbin_lengths file)) header.1.1.1.0

  check_at : Has image 124 (be 2 (crc_of 0 (macbin_header file)))
  check_at = has_at image _ 124 (be 2 (crc_of 0 (macbin_header file))) (omega (arith, header_size)) whole.1.0

  data_at : Has image 128 (with_filler file.data_fork)
  data_at = has_at image _ 128 (with_filler file.data_fork) (omega (arith, header_size, length-be_2)) whole.1.1.1.0

  resource_at : Has image (128 + filled (length file.data_fork)) (with_filler file.res_fork)
  resource_at =
      has_at image _ (128 + filled (length file.data_fork)) (with_filler file.res_fork)
      (omega (arith, header_size, length-be_2, length-with_filler file.data_fork)) whole.1.1.1.1.0

  -- The names.

  names : Has image 0 (0 ∷ [])
      × AreAt image 1 ((length file.name ∷ []) ∷ file.name ∷ replicate (63 - length file.name) 0 ∷ be 4 file.finder.kind.code ∷ be 4 file.finder.creator.code ∷ [])
  unfolding macbin_names
  names =
      all_at image 0 (0 ∷ []) ((length file.name ∷ []) ∷ file.name ∷ replicate (63 - length file.name) 0 ∷ be 4 file.finder.kind.code ∷ be 4 file.finder.creator.code ∷ []) names_at

  first_is : number 1 image 0 ≡ 0
  first_is = byte_is image 0 0 names.0

  name_length_is : number 1 image 1 ≡ length file.name
  name_length_is = byte_is image 1 (length file.name) names.1.0

  name_is : piece image 2 (number 1 image 1) ≡ file.name
  name_is = ap (piece image 2) name_length_is ∙ piece_is image 2 file.name names.1.1.0

  kind_is : number 4 image 65 ≡ file.finder.kind.code
  kind_is =
      let small = writable.name in
      number_is image 4 65 file.finder.kind.code (has_at image _ 65 (be 4 file.finder.kind.code) (omega (arith, length-replicate {A = ℕ})) names.1.1.1.1.0)
      (omega (arith, writable.stored.kind))

  creator_is : number 4 image 69 ≡ file.finder.creator.code
  creator_is =
      let small = writable.name in
      number_is image 4 69 file.finder.creator.code
      (has_at image _ 69 (be 4 file.finder.creator.code) (omega (arith, length-replicate {A = ℕ}, length-be_4)) names.1.1.1.1.1.0) (omega (arith, writable.stored.creator))

  -- The place.

  places : Has image 73 ((file.finder.flags / 256) ∷ [])
      × AreAt image 74 ((0 ∷ []) ∷ be 2 (cast_unsigned w16 file.finder.vertical) ∷ be 2 (cast_unsigned w16 file.finder.horizontal) ∷ be 2 (cast_unsigned w16 file.finder.folder) ∷ ((if file.locked then 1 else 0) ∷ []) ∷ (0 ∷ []) ∷ [])
  unfolding macbin_place
  places =
      all_at image 73 ((file.finder.flags / 256) ∷ [])
      ((0 ∷ []) ∷ be 2 (cast_unsigned w16 file.finder.vertical) ∷ be 2 (cast_unsigned w16 file.finder.horizontal) ∷ be 2 (cast_unsigned w16 file.finder.folder) ∷ ((if file.locked then 1 else 0) ∷ []) ∷ (0 ∷ []) ∷ [])
      place_at

  high_is : number 1 image 73 ≡ file.finder.flags / 256
  high_is = byte_is image 73 (file.finder.flags / 256) places.0

  second_is : number 1 image 74 ≡ 0
  second_is = byte_is image 74 0 places.1.0

  vertical_is : signed image 75 ≡ file.finder.vertical
  vertical_is = signed_is image 75 file.finder.vertical places.1.1.0 writable.stored.vertical

  horizontal_is : signed image 77 ≡ file.finder.horizontal
  horizontal_is =
      signed_is image 77 file.finder.horizontal
      (has_at image _ 77 (be 2 (cast_unsigned w16 file.finder.horizontal)) (omega (arith, length-be_2)) places.1.1.1.0) writable.stored.horizontal

  folder_is : signed image 79 ≡ file.finder.folder
  folder_is =
      signed_is image 79 file.finder.folder
      (has_at image _ 79 (be 2 (cast_unsigned w16 file.finder.folder)) (omega (arith, length-be_2)) places.1.1.1.1.0) writable.stored.folder

  lock_is : number 1 image 81 ≡ (if file.locked then 1 else 0)
  lock_is =
      byte_is image 81 (if file.locked then 1 else 0)
      (has_at image _ 81 ((if file.locked then 1 else 0) ∷ []) (omega (arith, length-be_2)) places.1.1.1.1.1.0)

  third_is : number 1 image 82 ≡ 0
  third_is = byte_is image 82 0 (has_at image _ 82 (0 ∷ []) (omega (arith, length-be_2)) places.1.1.1.1.1.1.0)

  -- The lengths.

  lengths : Has image 83 (be 4 (length file.data_fork))
      × AreAt image (83 + length (be 4 (length file.data_fork))) (be 4 (length file.res_fork) ∷ be 4 file.created ∷ be 4 file.modified ∷ be 2 0 ∷ [])
  unfolding macbin_lengths
  lengths =
      all_at image 83 (be 4 (length file.data_fork)) (be 4 (length file.res_fork) ∷ be 4 file.created ∷ be 4 file.modified ∷ be 2 0 ∷ []) lengths_at

  data_length_is : data_length image ≡ length file.data_fork
  unfolding data_length
  data_length_is = number_is image 4 83 (length file.data_fork) lengths.0 (omega (arith, writable.data_fork))

  resource_length_is : resource_length image ≡ length file.res_fork
  unfolding resource_length
  resource_length_is =
      number_is image 4 87 (length file.res_fork) (has_at image _ 87 (be 4 (length file.res_fork)) (omega (arith, length-be_4)) lengths.1.0)
      (omega (arith, writable.res_fork))

  created_is : number 4 image 91 ≡ file.created
  created_is =
      number_is image 4 91 file.created (has_at image _ 91 (be 4 file.created) (omega (arith, length-be_4)) lengths.1.1.0) (omega (arith, writable.dates.created))

  modified_is : number 4 image 95 ≡ file.modified
  modified_is =
      number_is image 4 95 file.modified (has_at image _ 95 (be 4 file.modified) (omega (arith, length-be_4)) lengths.1.1.1.0) (omega (arith, writable.dates.modified))

  -- The versions.

  versions : Has image 101 ((file.finder.flags % 256) ∷ []) × AreAt image 102 (be 4 1833060686 ∷ piece file.finder.extra 8 2 ∷ replicate 12 0 ∷ be 2 0 ∷ (130 ∷ []) ∷ (129 ∷ []) ∷ [])
  unfolding macbin_versions
  versions =
      all_at image 101 ((file.finder.flags % 256) ∷ []) (be 4 1833060686 ∷ piece file.finder.extra 8 2 ∷ replicate 12 0 ∷ be 2 0 ∷ (130 ∷ []) ∷ (129 ∷ []) ∷ []) versions_at

  low_is : number 1 image 101 ≡ file.finder.flags % 256
  low_is = byte_is image 101 (file.finder.flags % 256) versions.0

  two_size : length (piece file.finder.extra 8 2) ≡ 2
  two_size = length-piece file.finder.extra 8 2 (omega (arith, writable.stored.extra))

  secondary_is : number 2 image 120 ≡ 0
  secondary_is =
      number_is image 2 120 0 (has_at image _ 120 (be 2 0) (omega (arith, length-be_4, two_size, length-replicate {A = ℕ})) versions.1.1.1.1.0) (omega arith)

  version_is : number 1 image 122 ≡ 130
  version_is =
      byte_is image 122 130 (has_at image _ 122 (130 ∷ []) (omega (arith, length-be_4, two_size, length-replicate {A = ℕ}, length-be_2)) versions.1.1.1.1.1.0)

  least_is : number 1 image 123 ≡ 129
  least_is =
      byte_is image 123 129 (has_at image _ 123 (129 ∷ []) (omega (arith, length-be_4, two_size, length-replicate {A = ℕ}, length-be_2)) versions.1.1.1.1.1.1.0)

  -- the two bytes of the last 16
  signature_is : number 4 image 102 ≡ 1833060686
  signature_is = number_is image 4 102 1833060686 versions.1.0 (omega arith)

  two_is : piece image 106 2 ≡ piece file.finder.extra 8 2
  two_is =
      ap (piece image 106) (sym two_size)
      ∙ piece_is image 106 (piece file.finder.extra 8 2) (has_at image _ 106 (piece file.finder.extra 8 2) (omega (arith, length-be_4)) versions.1.1.0)

  extra_is : macbin_extra image ≡ around (piece file.finder.extra 8 2)
  unfolding macbin_extra
  extra_is = λ i. if signature_is i == 1833060686 then around (two_is i) else replicate 16 0

  -- The check.

  check_is : number 2 image 124 ≡ crc_of 0 (take 124 image)
  check_is =
      number_is image 2 124 (crc_of 0 (macbin_header file)) check_at (omega (arith, writable.check))
      ∙ ap (crc_of 0) (sym (ap (take 124) whole.0.is ∙ take_at (macbin_header file) whole.0.rest 124 header_size))

  -- The forks.

  data_place_is : data_place image ≡ 128
  unfolding data_place filled
  data_place_is = ap (λ (n : ℕ). 128 + (n + 127) / 128 * 128) secondary_is

  resource_place_is : resource_place image ≡ 128 + filled (length file.data_fork)
  unfolding resource_place
  resource_place_is = λ i. data_place_is i + filled (data_length_is i)

  data_has : Has image 128 file.data_fork
  unfolding with_filler
  data_has = has_left image 128 file.data_fork (replicate (filled (length file.data_fork) - length file.data_fork) 0) data_at

  resource_has : Has image (128 + filled (length file.data_fork)) file.res_fork
  unfolding with_filler
  resource_has =
      has_left image (128 + filled (length file.data_fork)) file.res_fork (replicate (filled (length file.res_fork) - length file.res_fork) 0) resource_at

  data_is : piece image (data_place image) (data_length image) ≡ file.data_fork
  data_is = (λ i. piece image (data_place_is i) (data_length_is i)) ∙ piece_is image 128 file.data_fork data_has

  resource_is : piece image (resource_place image) (resource_length image) ≡ file.res_fork
  resource_is =
      (λ i. piece image (resource_place_is i) (resource_length_is i)) ∙ piece_is image (128 + filled (length file.data_fork)) file.res_fork resource_has

  -- The rules.

  long : 128 ≤ length image
  unfolding macbin_image
  long = omega (arith, length-append {A = ℕ}, header_size, length-be_2)

  data_inside : truncated image (data_place image) (data_length image) ≡ None
  data_inside =
      (λ i. truncated image (data_place_is i) (data_length_is i))
      ∙ fork_holds image 128 (length file.data_fork) (λ some. has_within image 128 file.data_fork some data_has)

  resource_inside : truncated image (resource_place image) (resource_length image) ≡ None
  resource_inside =
      (λ i. truncated image (resource_place_is i) (resource_length_is i))
      ∙ fork_holds image (128 + filled (length file.data_fork)) (length file.res_fork)
      (λ some. has_within image (128 + filled (length file.data_fork)) file.res_fork some resource_has)

  header_holds : header_torn image ≡ None
  unfolding header_torn
  header_holds =
      let a = long_holds image long in
      let b = zero_holds image 0 first_is in
      let c = zero_holds image 74 second_is in
      let d = zero_holds image 82 third_is in
      let e = version_holds image 122 (omega (arith, version_is)) in
      let f = version_holds image 123 (omega (arith, least_is)) in
      let g = known_holds image least_is in
      let h = check_holds image check_is in
      let j = name_holds image (length file.name) name_length_is writable.some writable.name in
      λ i. or_else (a i) (or_else (b i) (or_else (c i) (or_else (d i) (or_else (e i) (or_else (f i) (or_else (g i) (or_else (h i) (or_else (j i) None))))))))

  holds : macbin_torn image ≡ None
  unfolding macbin_torn
  holds = λ i. or_else (header_holds i) (or_else (data_inside i) (or_else (resource_inside i) None))

  locked_is : (number 1 image 81 % 2 == 1) ≡ file.locked
  locked_is = ap (λ (n : ℕ). n % 2 == 1) lock_is ∙ by_lock file.locked
    where
      by_lock : (lock : Bool) → ((if lock then 1 else 0) % 2 == 1) ≡ lock
      by_lock true = refl
      by_lock false = refl

  flags_is : 256 * number 1 image 73 + number 1 image 101 ≡ file.finder.flags
  flags_is = omega (arith, high_is, low_is)

  fields : macbin_fields image ≡ macbin_carried file
  unfolding macbin_fields macbin_finder
  fields = λ i. record {
    name = name_is i;
    finder = record {
      kind = record { code = kind_is i };
      creator = record { code = creator_is i };
      flags = flags_is i;
      vertical = vertical_is i;
      horizontal = horizontal_is i;
      folder = folder_is i;
      extra = extra_is i;
    };
    locked = locked_is i;
    created = created_is i;
    modified = modified_is i;
    data_fork = data_is i;
    res_fork = resource_is i;
  }

  pub macbin_again : macbin_content (macbin_image file) ≡ Ok (macbin_carried file)
  macbin_again = λ i. unless_fault (holds i) (fields i)

  -- how long it is
  pub macbin_short : length (macbin_image file) < 2 ^ 32
  unfolding macbin_image
  macbin_short =
      omega (
        arith,
        length-append {A = ℕ},
        header_size,
        length-be_2,
        length-with_filler file.data_fork,
        length-with_filler file.res_fork,
        filled_most (length file.data_fork),
        filled_most (length file.res_fork),
        writable.data_fork,
        writable.res_fork,
      )
