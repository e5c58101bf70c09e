-- The fork of resources that a fork can hold is bytes.
use Rattle.std.proofs.Common.{◌≡◌, ℕ, ◌+◌, ◌-◌, ◌<◌, ◌==◌, if◌then◌else◌, Bool, true, false, List, [], ◌∷◌, ◌++◌, length, replicate, Ok, arith, subst}
use Rattle.std.specs.List.{flat_map, AllByRecursion}
use Rattle.rz_core.specs.Lists.{with_front}
use Rattle.rz_core.specs.Resources.{id_bits}
use Rattle.rz_core.specs.declared.resource.Resource.{Resource}
use Rattle.rz_fork.proofs.Regroup.{all_grouped}
use Rattle.rz_fork.specs.Contents.{FitsFork}
use Rattle.rz_fork.specs.Image.{data_area, entry_of, first_limit, fork_of, front, group_of, grouped, header, image, kinds_of, list_offset, lists_of, map_fields, map_tail, name_list, name_offset, reference, reference_lists, reference_to, stored_data, stored_name, type_entries, type_entry}
use Rattle.rz_laws.proofs.Again.{unlimited}
use Rattle.rz_laws.proofs.Bytes.{be_bytes, equal_bytes, then_number, together}
use Rattle.rz_laws.specs.Kept.{AreBytes}

-- pieces of items, each of which sees those before it
module _ {A : Type 0} (Q : A → Type 0) (piece : List A → A → List ℕ) (each : (before : List A) (x : A) → Q x → AreBytes (piece before x)) where
  pieces_bytes : (before xs : List A) → AllByRecursion Q xs → AreBytes (with_front piece before xs)
  pieces_bytes before [] all = tt
  pieces_bytes before (x ∷ xs) all =
      together (piece before x) (with_front piece (before ++ x ∷ []) xs) (each before x all.0) (pieces_bytes (before ++ x ∷ []) xs all.1)

abbrev Anything : ℕ → Type 0
Anything n = Unit {0}

anything : (ns : List ℕ) → AllByRecursion Anything ns
anything [] = tt
anything (n ∷ ns) = (tt, anything ns)

-- Parts.

data_bytes : (rs : List Resource) → AllByRecursion FitsFork rs → AreBytes (data_area rs)
data_bytes [] all = tt
data_bytes (r ∷ rs) all = together (stored_data r) (data_area rs) (together _ r.bytes (be_bytes 4 (length r.bytes)) all.0.bytes) (data_bytes rs all.1)

name_bytes : (r : Resource) → FitsFork r → AreBytes (stored_name r)
name_bytes r fits = by (length r.name == 0)
  where
    by : (t : Bool) → AreBytes (if t then [] else length r.name ∷ r.name)
    by true = tt
    by false = (fits.name, fits.name_bytes)

names_bytes : (rs : List Resource) → AllByRecursion FitsFork rs → AreBytes (name_list rs)
names_bytes [] all = tt
names_bytes (r ∷ rs) all = together (stored_name r) (name_list rs) (name_bytes r all.0) (names_bytes rs all.1)

reference_bytes : (name_at data_at : ℕ) (r : Resource) → FitsFork r → AreBytes (reference_to name_at data_at r)
unfolding reference_to
reference_bytes name_at data_at r fits =
    then_number _ 4 0 (then_number _ 3 data_at (together _ (r.attr ∷ []) (then_number _ 2 name_at (be_bytes 2 (id_bits r))) (fits.attr, tt)))

entry_bytes : (code count list_at : ℕ) → AreBytes (entry_of code count list_at)
unfolding entry_of
entry_bytes code count list_at = then_number _ 2 list_at (then_number _ 2 (count + 65535) (be_bytes 4 code))

header_bytes : (data_length map_length : ℕ) → AreBytes (header data_length map_length)
unfolding header
header_bytes data_length map_length = then_number _ 4 map_length (then_number _ 4 data_length (then_number _ 4 (256 + data_length) (be_bytes 4 256)))

fields_bytes : (attributes lists_length : ℕ) → AreBytes (map_fields attributes lists_length)
unfolding map_fields
fields_bytes attributes lists_length =
    then_number _ 2 (28 + lists_length) (then_number _ 2 28 (then_number _ 2 attributes (then_number _ 2 0 (be_bytes 4 0))))

-- The whole.

module _ (list : List Resource) (attributes : ℕ) (reserved : List ℕ) (fit : AllByRecursion FitsFork list) (room : AreBytes reserved) where
  abbrev rs : List Resource
  rs = grouped list

  rs_fit : AllByRecursion FitsFork rs
  rs_fit = all_grouped FitsFork list fit

  references_bytes : AreBytes (reference_lists rs)
  references_bytes = pieces_bytes FitsFork reference (λ before r fits. reference_bytes (name_offset before r) (length (data_area before)) r fits) [] rs rs_fit

  entries_bytes : AreBytes (type_entries list)
  entries_bytes =
      pieces_bytes Anything (type_entry list (length (kinds_of list)))
      (λ before code any. entry_bytes code (length (group_of list code)) (list_offset list (length (kinds_of list)) before)) [] (kinds_of list) (anything (kinds_of list))

  lists_bytes : AreBytes (lists_of list)
  lists_bytes = together _ (reference_lists rs) (together _ (type_entries list) (be_bytes 2 (length (kinds_of list) + 65535)) entries_bytes) references_bytes

  tail_bytes : AreBytes (map_tail list attributes)
  tail_bytes = together _ (name_list rs) (together _ (lists_of list) (fields_bytes attributes (length (lists_of list))) lists_bytes) (names_bytes rs rs_fit)

  front_bytes : (map_length : ℕ) → AreBytes (front rs reserved map_length)
  front_bytes map_length =
      let head = header_bytes (length (data_area rs)) map_length in
      let zeros = equal_bytes (240 - length reserved) 0 (omega arith) in
      together _ (header (length (data_area rs)) map_length)
      (together _ (data_area rs) (together _ (replicate (240 - length reserved) 0) (together _ reserved head room) zeros) (data_bytes rs rs_fit)) head

  pub image_bytes : AreBytes (image list attributes reserved)
  image_bytes = together (front rs reserved (16 + length (map_tail list attributes))) (map_tail list attributes) (front_bytes (16 + length (map_tail list attributes))) tail_bytes

pub fork_bytes : (list : List Resource) (attributes : ℕ) (reserved bytes : List ℕ) → AllByRecursion FitsFork list → AreBytes reserved → fork_of list attributes reserved ≡ Ok bytes → AreBytes bytes
fork_bytes list attributes reserved bytes fit room is =
    subst AreBytes (unlimited (first_limit list) (image list attributes reserved) bytes is).1 (image_bytes list attributes reserved fit room)
