-- Which declarations can be read: those by which the bytes of a resource say where each field ends, and how many rows each
-- array has. (Inside Macintosh: More Macintosh Toolbox, Resource Manager; MPW Rez.)
use Rattle.std.specs.Prelude.{ℕ, ◌+◌, ◌*◌, min, ℤ, nat_abs, nat_le, Bool, true, false, ◌&&◌, ◌||◌, List, [], ◌∷◌, Option, Some, None}
use Rattle.std.specs.List.{list_all, list_any}
use Rattle.std.specs.Option.{is_some, unwrap_or}
use Rattle.rz_core.specs.declared.resource.Word.{Word}
use Rattle.rz_expr.specs.Environment.{count_key, place_key, rows_key, Key}
use Rattle.rz_expr.specs.Mention.{alone, counted, indexed, mentions, with_bits, Mention}
use Rattle.rz_expr.specs.Term.{Term}
use Rattle.rz_types_fields.specs.Field.{case_and, field_and, no_cases, no_fields, Align, Array, Fill, Label, Number, PlainBody, PlainCases, PlainField, PlainText, Points, Switch, Text}
use Rattle.rz_types_fields.specs.Shape.{numbers_of}
use Rattle.rz_types_fields.specs.Solve.{can_solve, is_same_key, keys_in}
use Rattle.rz_types_fields.specs.Passed.{at_field, at_front, behind, behind_piece, declares, is_known, nothing_passed, Names, Passed}
use Rattle.rz_types_fields.specs.Piece.{pieces_of, terms_of_text, Filler, OneNumber, OneText, Piece, Place, Zeros}
use Rattle.rz_types_fields.specs.Width.{fixed_width, fixed_widths, text_width}
use Rattle.rz_types_fields.specs.declared.field.TextForm.{TextForm}
use Rattle.rz_types_fields.specs.declared.field.TextForm.TheVariants as texts

-- The least width, in bits.

-- that of the length of a text, or of the zero byte at its end
abbrev pub least_text : TextForm → ℕ
least_text texts.Open = 0
least_text texts.Pascal = 8
least_text texts.WordLong = 16
least_text texts.Zero = 8

abbrev pub least_rows : Option ℤ → ℕ → ℕ
least_rows None width = 0
least_rows (Some count) width = nat_abs count * width

-- the less of two, where there is another
abbrev pub least_of : ℕ → Option ℕ → ℕ
least_of width None = width
least_of width (Some other) = min width other

abbrev mutual
  -- the width that a field has at least: that of a text with a constant size, and of its length or its zero byte without one;
  -- that of the stated rows of an array, and nothing without a count; that of the least case of a switch
  pub least_width : PlainField → ℕ
  least_width (Number number) = nat_abs number.width
  least_width (Text text) = unwrap_or (text_width text.form text.size) (least_text text.form)
  least_width (Points points) = 16 * numbers_of points.rect
  least_width (Fill unit count) = unit * nat_abs count
  least_width (Align unit) = 0
  least_width (Label name) = 0
  least_width (Array name count row) = least_rows count (least_widths row)
  least_width (Switch cases) = unwrap_or (least_case cases) 0

  pub least_widths : PlainBody → ℕ
  least_widths no_fields = 0
  least_widths (field_and field fields) = least_width field + least_widths fields

  pub least_case : PlainCases → Option ℕ
  least_case no_cases = None
  least_case (case_and name row others) = Some (least_of (least_widths row) (least_case others))

-- Names that an expression has.

-- it is known; a label at which bits are asked for is met; the number of a row around always is known, and so is a fact
abbrev pub is_known_there : (met known : Names) → Mention → Bool
is_known_there met known (alone name) = known (place_key name)
is_known_there met known (indexed name) = known (rows_key name)
is_known_there met known (counted name) = known (count_key name)
is_known_there met known (with_bits name) = met (place_key name)
is_known_there met known other = true

-- all of them are
abbrev pub all_known : (met known : Names) → Term → Bool
all_known met known term = list_all (is_known_there met known) (mentions term)

-- it has no other unknown name than this, which is given by a field after it in its body, and can be solved
abbrev pub tells : PlainBody → (met known : Names) → Term → Key → Bool
tells rest met known term key = declares rest key && can_solve key term && all_known met (λ other. is_same_key key other || known other) term

-- one of its names is so
abbrev pub tells_one : PlainBody → (met known : Names) → Term → Bool
tells_one rest met known term = list_any (tells rest met known term) (keys_in term)

-- Fields.

-- a fixed number's names are all known, or it tells the one that isn't
abbrev pub is_number_read : PlainBody → Passed → Option Term → Bool
is_number_read rest passed None = true
is_number_read rest passed (Some term) =
    all_known passed.met (is_known passed) term || tells_one rest passed.met (is_known passed) term

-- the end of the resource ends a field: of the outermost body, with only fields of fixed width after it
abbrev pub ends_at_end : (outermost : Bool) → PlainBody → Bool
ends_at_end outermost rest = outermost && is_some (fixed_widths rest)

-- the field is a label whose place is told
abbrev pub is_told_label : PlainField → Names → Bool
is_told_label (Label name) told = told (place_key name.bytes)
is_told_label field told = false

-- a label ends a field: its place is told, and only fields of fixed width stand before it
abbrev pub ends_at_label : PlainBody → Names → Bool
ends_at_label no_fields told = false
ends_at_label (field_and field fields) told = is_told_label field told || (is_some (fixed_width field) && ends_at_label fields told)

-- a text ends by its own form, or a `string` by its size, at a label, or at the end of the resource
abbrev pub text_ends : (outermost : Bool) → PlainBody → Names → TextForm → Option Term → Bool
text_ends outermost rest told texts.Open size = is_some size || ends_at_label rest told || ends_at_end outermost rest
text_ends outermost rest told form size = true

-- all names of its size and of its formats are known
abbrev pub is_text_read : (outermost : Bool) → PlainBody → Passed → PlainText → Bool
is_text_read outermost rest passed text =
    text_ends outermost rest passed.told text.form text.size && list_all (all_known passed.met (is_known passed)) (terms_of_text text)

abbrev pub is_piece_read : (outermost : Bool) → PlainBody → Passed → Piece → Bool
is_piece_read outermost rest passed (OneNumber number) = is_number_read rest passed number.fixed
is_piece_read outermost rest passed (OneText text) = is_text_read outermost rest passed text
is_piece_read outermost rest passed (Zeros count) = true
is_piece_read outermost rest passed (Filler unit) = true
is_piece_read outermost rest passed (Place name) = true

abbrev pub are_pieces_read : (outermost : Bool) → PlainBody → Passed → List Piece → Bool
are_pieces_read outermost rest passed [] = true
are_pieces_read outermost rest passed (piece ∷ pieces) =
    is_piece_read outermost rest passed piece && are_pieces_read outermost rest (behind_piece piece passed) pieces

-- the number of rows is known
abbrev pub is_count_known : Passed → Option Word → Bool
is_count_known passed None = false
is_count_known passed (Some name) = is_known passed (count_key name.bytes)

-- rows end by a stated number; by a known one or at a label, where each has one bit at least; or at the end of the resource,
-- where each has eight bits at least
abbrev pub rows_end : (outermost : Bool) → PlainBody → Passed → Option Word → Option ℤ → PlainBody → Bool
rows_end outermost rest passed name (Some count) row = true
rows_end outermost rest passed name None row =
    (is_count_known passed name && nat_le 1 (least_widths row)) || (ends_at_label rest passed.told && nat_le 1 (least_widths row))
    || (ends_at_end outermost rest && nat_le 8 (least_widths row))

abbrev mutual
  -- a field can be read where these fields stand after it in its body and so much is known before it
  pub is_read : (outermost : Bool) → PlainBody → Passed → PlainField → Bool
  is_read outermost rest passed (Number number) = are_pieces_read outermost rest passed (pieces_of (Number number))
  is_read outermost rest passed (Text text) = are_pieces_read outermost rest passed (pieces_of (Text text))
  is_read outermost rest passed (Points points) = are_pieces_read outermost rest passed (pieces_of (Points points))
  is_read outermost rest passed (Fill unit count) = true
  is_read outermost rest passed (Align unit) = true
  is_read outermost rest passed (Label name) = true
  is_read outermost rest passed (Array name count row) = rows_end outermost rest passed name count row && are_read false (at_front row passed) row
  is_read outermost rest passed (Switch cases) = are_cases_read passed cases

  pub are_cases_read : Passed → PlainCases → Bool
  are_cases_read passed no_cases = true
  are_cases_read passed (case_and name row others) = are_read false (at_front row passed) row && are_cases_read passed others

  -- so can all fields of a body
  pub are_read : (outermost : Bool) → Passed → PlainBody → Bool
  are_read outermost passed no_fields = true
  are_read outermost passed (field_and field fields) =
      is_read outermost fields (at_field (field_and field fields) passed) field && are_read outermost (behind field (at_field (field_and field fields) passed)) fields

-- all fields of a declaration can be read
abbrev pub is_readable : PlainBody → Bool
is_readable body = are_read true (at_front body nothing_passed) body
