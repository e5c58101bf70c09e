-- Labels that stand ahead: those at a known distance, and those whose place is told, where open texts end. (MPW Rez.)
use Rattle.std.specs.Prelude.{ℕ, ◌+◌, ◌-◌, ◌/◌, ◌%◌, ◌==◌, ℤ, pos, nat_le, nat_lt, if◌then◌else◌, Option, Some, None, option_and_then, option_map}
use Rattle.rz_core.specs.Lists.{or_else}
use Rattle.rz_expr.specs.Environment.{place_key, Environment, Key}
use Rattle.rz_bits.specs.BitBuf.{missing}
use Rattle.rz_types_fields.specs.Field.{field_and, no_fields, Align, Label, PlainBody, PlainField}
use Rattle.rz_types_fields.specs.Passed.{is_label}
use Rattle.rz_types_fields.specs.Width.{fixed_width}

-- a place, where it lies in a resource of so many bits
abbrev pub place_within : ℕ → Option ℤ → Option ℕ
place_within len (Some (pos place)) = if nat_le place len then Some place else None
place_within len other = None

abbrev pub in_resource : ℕ → Option ℤ → Option ℤ
in_resource len place = option_map (λ p. pos p) (place_within len place)

-- Near labels.

-- the place after a field at a place, where it is at a known distance
abbrev pub behind_measured : PlainField → ℕ → Option ℕ
behind_measured (Align unit) at = Some (at + missing unit at)
behind_measured field at = option_map (λ width. at + width) (fixed_width field)

-- the place of a label of this name, which stands at a known distance in fields that begin at a place
abbrev pub near_place : PlainBody → ℕ → Key → Option ℕ
near_place no_fields at key = None
near_place (field_and field fields) at key =
    if is_label field key then Some at else option_and_then (λ next. near_place fields next key) (behind_measured field at)

-- Told labels.

-- the place that is known of the label that a field is
abbrev pub label_place : ℕ → PlainField → Environment → Option ℕ
label_place len (Label name) names = place_within len (names.give (place_key name.bytes))
label_place len field names = None

-- a label ahead: its place, and how many bits stand before it
pub record Told : Type 0 where
  pub place : ℕ
  pub width : ℕ

abbrev pub wider : ℕ → Told → Told
wider bits told = record { place = told.place; width = bits + told.width }

-- the first label after fields of fixed width of which the place is known
abbrev pub told_label : ℕ → PlainBody → Environment → Option Told
told_label len no_fields names = None
told_label len (field_and field fields) names =
    or_else (option_map (λ place. record { place = place; width = 0 }) (label_place len field names))
    (option_and_then (λ width. option_map (wider width) (told_label len fields names)) (fixed_width field))

-- Open texts.

-- how many whole bytes stand from a place up to fields of this width at the end
abbrev pub bytes_left : ℕ → Option ℕ → ℕ → Option ℕ
bytes_left len None at = None
bytes_left len (Some width) at = if nat_lt len (at + width) then None else Some ((len - width - at) / 8)

-- how many whole bytes stand from a place up to just so many bits before a label
abbrev pub bytes_before : Told → ℕ → Option ℕ
bytes_before told at =
    if nat_lt told.place (at + told.width) then None else if (told.place - told.width - at) % 8 == 0 then Some ((told.place - told.width - at) / 8) else None

-- how many bytes an open text has: up to a told label, or as many as are left
abbrev pub open_size : ℕ → Option Told → Option ℕ → ℕ → Option ℕ
open_size len (Some told) width at = bytes_before told at
open_size len None width at = bytes_left len width at
