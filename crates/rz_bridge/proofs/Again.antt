-- What is read of a file of AppleDouble or AppleSingle that was written.
use Rattle.std.proofs.Common.{◌≡◌, ℕ, ◌+◌, ◌*◌, ◌^◌, ◌<◌, ◌≤◌, ◌==◌, nat_lt, if◌then◌else◌, Bool, true, false, List, [], ◌∷◌, ◌++◌, length, take, replicate, Ok, refl, sym, ap, ◌∙◌, arith, length-append}
use Rattle.std.proofs.lemmas.Bool.{eqb-true}
use Rattle.std.proofs.lemmas.Bool.Decides.{nat_tests}
use Rattle.std.proofs.lemmas.List.{length-take, take-take, take_at, nil_from_length}
use Rattle.std.specs.Int.{cast_unsigned, w16}
use Rattle.std.specs.List.{AllByRecursion}
use Rattle.rz_core.specs.Lists.{unless_fault}
use Rattle.rz_core.specs.Numbers.{be, length-be_2, length-be_4, number}
use Rattle.rz_bridge.specs.Places.{signed, piece}
use Rattle.rz_bridge.specs.Ranges.{IsStored, AreDates}
use Rattle.rz_bridge.specs.Apple.{part, finder_of, info_of, mac_date, date_at, data_of, apple_fields, apple_content, stored_date, carried_date, dates_bytes, finder_bytes, short_name, Part, named, data_part, parts_of, bytes_of, apple_image, data_beside, apple_carried}
use Rattle.rz_bridge.specs.declared.apple.AppleForm.{AppleForm}
use Rattle.rz_bridge.specs.declared.apple.AppleForm.TheVariants.{Double, Single}
use Rattle.rz_bridge.specs.declared.file.Finder.{Finder}
use Rattle.rz_bridge.specs.declared.file.MacFile.{MacFile}
use Rattle.rz_core.proofs.Placed.{Has, has_all, has_at, number_is}
use Rattle.rz_bridge.proofs.Standing.{AreAt, all_at, piece_is, signed_is}
use Rattle.rz_bridge.proofs.Parts.{HasId, bytes_with, part_of_image, holds, length-image_of}

-- The Finder's fields.

pub length-finder_bytes : (finder : Finder) → length finder.extra ≡ 16 → length (finder_bytes finder) ≡ 32
unfolding finder_bytes
length-finder_bytes finder extra = omega (arith, length-append {A = ℕ}, length-be_2, length-be_4)

module _ (finder : Finder) (stored : IsStored finder) where
  abbrev info : List ℕ
  info = finder_bytes finder

  fields : Has info 0 (be 4 finder.kind.code)
      × AreAt info (0 + length (be 4 finder.kind.code)) (be 4 finder.creator.code ∷ be 2 finder.flags ∷ be 2 (cast_unsigned w16 finder.vertical) ∷ be 2 (cast_unsigned w16 finder.horizontal) ∷ be 2 (cast_unsigned w16 finder.folder) ∷ finder.extra ∷ [])
  unfolding finder_bytes
  fields =
      all_at info 0 (be 4 finder.kind.code)
      (be 4 finder.creator.code ∷ be 2 finder.flags ∷ be 2 (cast_unsigned w16 finder.vertical) ∷ be 2 (cast_unsigned w16 finder.horizontal) ∷ be 2 (cast_unsigned w16 finder.folder) ∷ finder.extra ∷ [])
      (has_all info)

  kind_is : number 4 info 0 ≡ finder.kind.code
  kind_is = number_is info 4 0 finder.kind.code fields.0 (omega (arith, stored.kind))

  creator_is : number 4 info 4 ≡ finder.creator.code
  creator_is =
      number_is info 4 4 finder.creator.code (has_at info _ 4 (be 4 finder.creator.code) (omega (arith, length-be_4)) fields.1.0) (omega (arith, stored.creator))

  flags_is : number 2 info 8 ≡ finder.flags
  flags_is = number_is info 2 8 finder.flags (has_at info _ 8 (be 2 finder.flags) (omega (arith, length-be_4)) fields.1.1.0) (omega (arith, stored.flags))

  vertical_is : signed info 10 ≡ finder.vertical
  vertical_is =
      signed_is info 10 finder.vertical (has_at info _ 10 (be 2 (cast_unsigned w16 finder.vertical)) (omega (arith, length-be_4, length-be_2)) fields.1.1.1.0)
      stored.vertical

  horizontal_is : signed info 12 ≡ finder.horizontal
  horizontal_is =
      signed_is info 12 finder.horizontal
      (has_at info _ 12 (be 2 (cast_unsigned w16 finder.horizontal)) (omega (arith, length-be_4, length-be_2)) fields.1.1.1.1.0) stored.horizontal

  folder_is : signed info 14 ≡ finder.folder
  folder_is =
      signed_is info 14 finder.folder (has_at info _ 14 (be 2 (cast_unsigned w16 finder.folder)) (omega (arith, length-be_4, length-be_2)) fields.1.1.1.1.1.0)
      stored.folder

  extra_is : piece info 16 16 ≡ finder.extra
  extra_is =
      ap (piece info 16) (sym stored.extra)
      ∙ piece_is info 16 finder.extra (has_at info _ 16 finder.extra (omega (arith, length-be_4, length-be_2)) fields.1.1.1.1.1.1.0)

  finder_is : finder_of info ≡ finder
  unfolding finder_of
  finder_is = λ i. record {
    kind = record { code = kind_is i };
    creator = record { code = creator_is i };
    flags = flags_is i;
    vertical = vertical_is i;
    horizontal = horizontal_is i;
    folder = folder_is i;
    extra = extra_is i;
  }

  -- 32 bytes are neither filled nor cut
  info_is : info_of info ≡ info
  unfolding info_of
  info_is = take_at info (replicate 32 0) 32 (length-finder_bytes finder stored.extra)

  pub finder_again : finder_of (info_of (finder_bytes finder)) ≡ finder
  finder_again = ap finder_of info_is ∙ finder_is

-- The dates.

date_fits : (seconds : ℕ) → stored_date seconds < 2 ^ 32
unfolding stored_date
date_fits seconds = grind (arith, nat_tests)

stored_again : (seconds : ℕ) → seconds < 2 ^ 32 → mac_date (stored_date seconds) ≡ carried_date seconds
unfolding mac_date stored_date carried_date
stored_again seconds small = grind (arith, nat_tests)

pub length-dates_bytes : (file : MacFile) → length (dates_bytes file) ≡ 16
unfolding dates_bytes
length-dates_bytes file = omega (arith, length-append {A = ℕ}, length-be_4)

module _ (file : MacFile) (dates : AreDates file) where
  abbrev dated : List ℕ
  dated = dates_bytes file

  both : Has dated 0 (be 4 (stored_date file.created))
      × AreAt dated (0 + length (be 4 (stored_date file.created))) (be 4 (stored_date file.modified) ∷ be 4 2147483648 ∷ be 4 2147483648 ∷ [])
  unfolding dates_bytes
  both =
      all_at dated 0 (be 4 (stored_date file.created)) (be 4 (stored_date file.modified) ∷ be 4 2147483648 ∷ be 4 2147483648 ∷ []) (has_all dated)

  date_is : (place seconds : ℕ) → seconds < 2 ^ 32 → Has dated place (be 4 (stored_date seconds)) → date_at dated place ≡ carried_date seconds
  unfolding date_at
  date_is place seconds small has =
      ap (λ (t : Bool). if t then 0 else mac_date (number 4 dated place)) (ap (λ (n : ℕ). nat_lt n 8) (length-dates_bytes file))
      ∙ ap mac_date (number_is dated 4 place (stored_date seconds) has (omega (arith, date_fits seconds)))
      ∙ stored_again seconds small

  pub created_again : date_at dated 0 ≡ carried_date file.created
  created_again = date_is 0 file.created dates.created both.0

  pub modified_again : date_at dated 4 ≡ carried_date file.modified
  modified_again =
      date_is 4 file.modified dates.modified (has_at dated _ 4 (be 4 (stored_date file.modified)) (omega (arith, length-be_4 (stored_date file.created))) both.1.0)

-- The parts.

-- the first part may be left out where it is empty
named_bytes : (parts : List Part) → length (bytes_of (named parts)) ≡ length (bytes_of parts)
named_bytes [] = refl
named_bytes (p ∷ ps) = by (length p.bytes == 0) refl
  where
    by : (empty : Bool) → (length p.bytes == 0) ≡ empty → length (bytes_of (if empty then ps else p ∷ ps)) ≡ length (bytes_of (p ∷ ps))
    by true is = omega (arith, length-append p.bytes (bytes_of ps), eqb-true (length p.bytes) 0 is)
    by false is = refl

named_few : (parts : List Part) → length (named parts) ≤ length parts
named_few [] = omega arith
named_few (p ∷ ps) = by (length p.bytes == 0)
  where
    by : (empty : Bool) → length (if empty then ps else p ∷ ps) ≤ length (p ∷ ps)
    by true = omega arith
    by false = omega arith

named_ids : (parts : List Part) → AllByRecursion HasId parts → AllByRecursion HasId (named parts)
named_ids [] ids = tt
named_ids (p ∷ ps) ids = by (length p.bytes == 0)
  where
    by : (empty : Bool) → AllByRecursion HasId (if empty then ps else p ∷ ps)
    by true = ids.1
    by false = ids

named_with : (id : ℕ) (p : Part) (ps : List Part) → (p.id == id) ≡ false → bytes_with id (named (p ∷ ps)) ≡ bytes_with id ps
named_with id p ps other = by (length p.bytes == 0)
  where
    by : (empty : Bool) → bytes_with id (if empty then ps else p ∷ ps) ≡ bytes_with id ps
    by true = refl
    by false = ap (λ (t : Bool). if t then p.bytes else bytes_with id ps) other

named_first : (name : List ℕ) (ps : List Part) → bytes_with 3 ps ≡ [] → bytes_with 3 (named (record { id = 3; bytes = name } ∷ ps)) ≡ name
named_first name ps none = by (length name == 0) refl
  where
    by : (empty : Bool) → (length name == 0) ≡ empty → bytes_with 3 (if empty then ps else record { id = 3; bytes = name } ∷ ps) ≡ name
    by true is = none ∙ sym (nil_from_length name (eqb-true (length name) 0 is))
    by false is = refl

-- the parts of the forks
abbrev forks : AppleForm → List ℕ → List ℕ → List Part
forks form data_fork res_fork = data_part form data_fork ++ record { id = 2; bytes = res_fork } ∷ []

-- what is needed and read of them
record AreForks (form : AppleForm) (data_fork res_fork : List ℕ) : Type 0 where
  ids : AllByRecursion HasId (forks form data_fork res_fork)
  few : length (forks form data_fork res_fork) ≤ 2
  size : length (bytes_of (forks form data_fork res_fork)) ≤ length data_fork + length res_fork
  no_name : bytes_with 3 (forks form data_fork res_fork) ≡ []
  fork_bytes : bytes_with 2 (forks form data_fork res_fork) ≡ res_fork

are_forks : (form : AppleForm) (data_fork res_fork : List ℕ) → AreForks form data_fork res_fork
are_forks Double data_fork res_fork =
    record { ids = (omega arith, tt); few = omega arith; size = omega (arith, length-append res_fork []); no_name = refl; fork_bytes = refl }
are_forks Single data_fork res_fork = record {
  ids = (omega arith, (omega arith, tt));
  few = omega arith;
  size = omega (arith, length-append data_fork (res_fork ++ []), length-append res_fork []);
  no_name = refl;
  fork_bytes = refl;
}

-- the data fork is read where it stands
data_again : (form : AppleForm) (file : MacFile) (bytes : List ℕ) → part bytes 1 ≡ bytes_with 1 (forks form file.data_fork file.res_fork)
    → data_of form bytes (data_beside form file) ≡ file.data_fork
data_again Double file bytes is = refl
data_again Single file bytes is = is

module _ (form : AppleForm) (file : MacFile) (stored : IsStored file.finder) (dates : AreDates file) (data_small : length file.data_fork ≤ 33554432) (fork_small : length file.res_fork ≤ 33554432) where
  abbrev name : Part
  name = record { id = 3; bytes = short_name file }

  -- the parts after the name
  abbrev rest : List Part
  rest = record { id = 8; bytes = dates_bytes file } ∷ record { id = 9; bytes = finder_bytes file.finder } ∷ forks form file.data_fork file.res_fork

  two : AreForks form file.data_fork file.res_fork
  two = are_forks form file.data_fork file.res_fork

  ids : AllByRecursion HasId (parts_of form file)
  ids = named_ids (name ∷ rest) (omega arith, (omega arith, (omega arith, two.ids)))

  few : length (parts_of form file) ≤ 5
  few = omega (arith, named_few (name ∷ rest), two.few)

  name_small : length (short_name file) ≤ 255
  unfolding short_name
  name_small = omega (arith, length-take 255 file.name)

  size : length (bytes_of (parts_of form file)) ≤ 67109167
  size =
      omega (
        arith,
        named_bytes (name ∷ rest),
        length-append (short_name file) (bytes_of rest),
        length-append (dates_bytes file) (finder_bytes file.finder ++ bytes_of (forks form file.data_fork file.res_fork)),
        length-append (finder_bytes file.finder) (bytes_of (forks form file.data_fork file.res_fork)),
        name_small,
        length-dates_bytes file,
        length-finder_bytes file.finder stored.extra,
        two.size,
        data_small,
        fork_small,
      )

  small : 26 + 12 * length (parts_of form file) + length (bytes_of (parts_of form file)) < 2 ^ 32
  small = omega (arith, few, size)

  pub apple_short : length (apple_image form file) < 2 ^ 32
  apple_short = omega (arith, length-image_of form (parts_of form file), small)

  at : (id : ℕ) → part (apple_image form file) id ≡ bytes_with id (parts_of form file)
  at = part_of_image form (parts_of form file) ids (omega (arith, few)) small

  name_is : take 255 (part (apple_image form file) 3) ≡ take 255 file.name
  unfolding short_name
  name_is = ap (take 255) (at 3 ∙ named_first (short_name file) rest two.no_name) ∙ take-take 255 255 file.name (omega arith)

  dates_are : part (apple_image form file) 8 ≡ dates_bytes file
  dates_are = at 8 ∙ named_with 8 name rest refl

  finder_is_again : finder_of (info_of (part (apple_image form file) 9)) ≡ file.finder
  finder_is_again = ap (λ (l : List ℕ). finder_of (info_of l)) (at 9 ∙ named_with 9 name rest refl) ∙ finder_again file.finder stored

  fork_is : part (apple_image form file) 2 ≡ file.res_fork
  fork_is = at 2 ∙ named_with 2 name rest refl ∙ two.fork_bytes

  data_is : data_of form (apple_image form file) (data_beside form file) ≡ file.data_fork
  data_is = data_again form file (apple_image form file) (at 1 ∙ named_with 1 name rest refl)

  fields_again : apple_fields (apple_image form file) (data_of form (apple_image form file) (data_beside form file)) ≡ apple_carried file
  unfolding apple_fields
  fields_again = λ i. record {
    name = name_is i;
    finder = finder_is_again i;
    locked = false;
    created = (ap (λ (l : List ℕ). date_at l 0) dates_are ∙ created_again file dates) i;
    modified = (ap (λ (l : List ℕ). date_at l 4) dates_are ∙ modified_again file dates) i;
    data_fork = data_is i;
    res_fork = fork_is i;
  }

  pub apple_again : apple_content form (apple_image form file) (data_beside form file) ≡ Ok (apple_carried file)
  apple_again =
      let rules = holds form (parts_of form file) ids (omega (arith, few)) small in λ i. unless_fault (rules i) (fields_again i)
