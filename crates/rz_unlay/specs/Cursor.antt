-- What is read from left to right: rows of arrays, cases by their keys, fields one after the other, and the row that bytes tell.
-- (Inside Macintosh: More Macintosh Toolbox, Resource Manager; MPW Rez.)
use Rattle.std.specs.Prelude.{ℕ, zero, suc, ◌+◌, ◌-◌, ◌==◌, ℤ, pos, negsuc, nat_le, nat_lt, Bool, true, false, ◌&&◌, if◌then◌else◌, List, [], ◌∷◌, length, drop, Option, Some, None, option_and_then, option_map}
use Rattle.rz_core.specs.declared.facts.Facts.{Facts}
use Rattle.rz_core.specs.declared.resource.Word.{Word}
use Rattle.rz_expr.specs.Environment.{Environment}
use Rattle.rz_bits.specs.Bits.{bits_of, number_of}
use Rattle.rz_types_fields.specs.declared.keys.CaseKey.{CaseKey}
use Rattle.rz_types_fields.specs.declared.tree.Tree.{Tree}
use Rattle.rz_types_fields.specs.declared.tree.Tree.TheVariants as trees
use Rattle.rz_types_fields.specs.Spells.{values_in}
use Rattle.rz_types.specs.Field.{case_and, field_and, no_cases, no_fields, Align, Array, Fill, Label, Number, PlainBody, PlainCase, PlainCases, PlainField, Points, Switch, Text}
use Rattle.rz_types.specs.Passed.{at_front, met_behind, met_inside, nothing_passed, outside, Names}
use Rattle.rz_types.specs.Sees.{Late}
use Rattle.rz_types.specs.Width.{case_keys, fixed_widths}
use Rattle.rz_bits.specs.View.{number_at}
use Rattle.rz_unlay_pieces.specs.Ahead.{told_label, Told}
use Rattle.rz_unlay.specs.Pieces.{field_of_pieces, with_value, Found}
use Rattle.rz_unlay.specs.declared.rows.Until.{Until}
use Rattle.rz_unlay.specs.declared.rows.Until.TheVariants as ends
use Rattle.rz_unlay_pieces.specs.Pieces.{claim_count, here_at, known_count, Step}
use Rattle.rz_types_fields.specs.Front.{names_inside}
use Rattle.rz_types_fields.specs.RowLabels.{also_rows, row_of}

-- Rows.

-- a row of an array, what names have at its end, the place after it, and the late bits before that
pub record Line : Type 0 where
  pub row : List Tree
  pub own : Environment
  pub after : ℕ
  pub late : Late

-- rows, with what names have at the end of each
pub record Lines : Type 0 where
  pub rows : List (List Tree)
  pub ends : List Environment
  pub after : ℕ
  pub late : Late

abbrev pub line_of : Option Found → Option Line
line_of found = option_map (λ f. record { row = f.row; own = f.names; after = f.after; late = f.late }) found

-- how a row is read that has this number, from 1, from a place on, with the late bits before it
abbrev pub ReadsRow : Type 0
ReadsRow = ℕ → ℕ → Late → Option Line

abbrev pub no_lines : ℕ → Late → Lines
no_lines at late = record { rows = []; ends = []; after = at; late = late }

abbrev pub and_lines : Line → Lines → Lines
and_lines line lines = record { rows = line.row ∷ lines.rows; ends = line.own ∷ lines.ends; after = lines.after; late = lines.late }

-- whether one row more is read at a place, where so many rows are done
abbrev pub goes_on : Until → (done at : ℕ) → Bool
goes_on (ends.Count count) done at = nat_lt done count
goes_on (ends.Before stop) done at = nat_le (at + 8) stop
goes_on (ends.At stop) done at = nat_lt at stop

-- the rows end at a place: so many are done, fewer than eight bits stand before the stop, or the place is the stop
abbrev pub is_over : Until → (done at : ℕ) → Bool
is_over (ends.Count count) done at = done == count
is_over (ends.Before stop) done at = nat_lt stop (at + 8)
is_over (ends.At stop) done at = at == stop

-- how many rows are read at most: so many as are counted, or as the resource has bits, since rows without bits never come to
-- a place
abbrev pub most_rows : Until → (len : ℕ) → ℕ
most_rows (ends.Count count) len = count
most_rows (ends.Before stop) len = len
most_rows (ends.At stop) len = len

-- no further rows, where the rows end here
abbrev pub rows_over : Until → (done at : ℕ) → Late → Option Lines
rows_over until done at late = if is_over until done at then Some (no_lines at late) else None

-- the rows after those that are done, as long as they go on and at most so many: where they stop they must be over
abbrev pub rows_until : ReadsRow → Until → (most done at : ℕ) → Late → Option Lines
rows_until row until zero done at late = rows_over until done at late
rows_until row until (suc most) done at late =
    if goes_on until done at
    then option_and_then (λ line. option_map (and_lines line) (rows_until row until most (done + 1) line.after line.late)) (row (done + 1) at late)
    else rows_over until done at late

-- the place that is so many bits before another
abbrev pub place_before : (place width : ℕ) → Option ℕ
place_before place width = if nat_lt place width then None else Some (place - width)

-- where rows end whose number isn't known: at a label whose place is told, or at the end of the resource
abbrev pub open_until : ℕ → Option Told → Option ℕ → Option Until
open_until len (Some told) width = option_map (λ stop. ends.At stop) (place_before told.place told.width)
open_until len None width = option_map (λ stop. ends.Before stop) (option_and_then (place_before len) width)

-- the number of rows, where it is stated or known
abbrev pub count_known : Environment → Option Word → Option ℤ → Option ℤ
count_known names name (Some count) = Some count
count_known names name None = known_count name names

-- where rows end after which these fields stand: after as many as are known, or at a label or the end of the resource
abbrev pub until_of : ℕ → PlainBody → Environment → Option ℤ → Option Until
until_of len rest names (Some (pos count)) = Some (ends.Count count)
until_of len rest names (Some (negsuc n)) = None
until_of len rest names None = open_until len (told_label len rest names) (fixed_widths rest)

abbrev pub rows_by : ReadsRow → ℕ → PlainBody → Environment → Option ℤ → ℕ → Late → Option Lines
rows_by row len rest names count at late = option_and_then (λ until. rows_until row until (most_rows until len) 0 at late) (until_of len rest names count)

-- the bits at the place of a key are its own
abbrev pub has_bits : Option ℕ → ℕ → Bool
has_bits None bits = false
has_bits (Some found) bits = found == bits

abbrev pub key_at : List Bool → ℕ → ℕ → Option ℕ → Option ℕ
key_at all at width None = None
key_at all at width (Some distance) = number_at all (at + distance) width

abbrev pub has_key_at : List Bool → ℕ → CaseKey → Bool
has_key_at all at key = has_bits (key_at all at key.width key.distance) key.bits

abbrev pub has_keys : List Bool → ℕ → List CaseKey → Bool
has_keys all at [] = true
has_keys all at (key ∷ keys) = has_key_at all at key && has_keys all at keys

-- the first case whose key stands there
abbrev pub case_there : List Bool → ℕ → PlainCases → Option PlainCase
case_there all at no_cases = None
case_there all at (case_and name row others) =
    if has_keys all at (case_keys row) then Some (record { name = name; row = row }) else case_there all at others

-- the key of a case that is there stands there
abbrev pub has_case_keys : List Bool → ℕ → Option PlainCase → Bool
has_case_keys all at None = false
has_case_keys all at (Some one) = has_keys all at (case_keys one.row)

abbrev mutual
  -- a field, where these labels stand before it
  pub field_found : Facts → List Bool → PlainBody → Names → PlainField → Environment → ℕ → Late → Option Step
  field_found known all rest met (Number number) names at late = field_of_pieces (here_at known all (Number number) rest at met) (Number number) names at late
  field_found known all rest met (Text text) names at late = field_of_pieces (here_at known all (Text text) rest at met) (Text text) names at late
  field_found known all rest met (Points points) names at late = field_of_pieces (here_at known all (Points points) rest at met) (Points points) names at late
  field_found known all rest met (Fill unit count) names at late = field_of_pieces (here_at known all (Fill unit count) rest at met) (Fill unit count) names at late
  field_found known all rest met (Align unit) names at late = field_of_pieces (here_at known all (Align unit) rest at met) (Align unit) names at late
  field_found known all rest met (Label name) names at late = field_of_pieces (here_at known all (Label name) rest at met) (Label name) names at late
  field_found known all rest met (Array name count row) names at late =
      option_and_then (λ lines. option_map (λ more. record { value = Some (trees.Rows lines.rows); after = lines.after; names = also_rows row lines.ends more; late = lines.late }) (claim_count name (length lines.rows) names))
      (rows_by (λ number place marks. line_of (body_found known all (met_inside row met) row (names_inside (row_of name number) row names) place marks)) (length all) rest names (count_known names name count) at late)
  field_found known all rest met (Switch cases) names at late = case_found known all met cases names at late

  -- the first case whose key stands there
  pub case_found : Facts → List Bool → Names → PlainCases → Environment → ℕ → Late → Option Step
  case_found known all met no_cases names at late = None
  case_found known all met (case_and name row others) names at late =
      if has_keys all at (case_keys row)
      then option_map (λ f. record { value = Some (trees.Choice name f.row); after = f.after; names = names; late = f.late }) (body_found known all (met_inside row met) row (names_inside None row names) at late)
      else case_found known all met others names at late

  pub body_found : Facts → List Bool → Names → PlainBody → Environment → ℕ → Late → Option Found
  body_found known all met no_fields names at late = Some (record { row = []; after = at; names = names; late = late })
  body_found known all met (field_and field fields) names at late =
      option_and_then (λ step. with_value step.value (body_found known all (met_behind field met) fields step.names step.after step.late)) (field_found known all fields met field names at late)

-- the row that bytes tell: after it are fewer than eight bits, all zero, and it has at most 1,048,576 values
abbrev pub ended : List Bool → Option Found → Option (List Tree)
ended all None = None
ended all (Some found) =
    if nat_le found.after (length all) && nat_lt (length all) (found.after + 8) && (number_of (drop found.after all) == 0) && nat_le (values_in found.row) 1048576
    then Some found.row else None

abbrev pub reading : Facts → PlainBody → List ℕ → Option (List Tree)
reading known body bytes = ended (bits_of bytes) (body_found known (bits_of bytes) (at_front body nothing_passed).met body (names_inside None body outside) 0 [])
