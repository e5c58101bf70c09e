-- Fields that have the same width in every row, and the keys that stand after such fields in cases. (MPW Rez.)
use Rattle.std.specs.Prelude.{ℕ, ◌+◌, ◌-◌, ◌*◌, min, ℤ, pos, nat_abs, if◌then◌else◌, List, [], ◌∷◌, ◌++◌, Option, Some, None, option_map}
use Rattle.std.specs.Option.{unwrap_or}
use Rattle.rz_expr.specs.Constant.{constant_of}
use Rattle.rz_expr.specs.Term.{Term}
use Rattle.rz_types_fields.specs.Field.{field_and, no_fields, Align, Array, Fill, Label, Number, PlainBody, PlainField, PlainNumber, Points, Switch, Text}
use Rattle.rz_types_fields.specs.Shape.{numbers_of}
use Rattle.rz_types_fields.specs.Stored.{stored_number}
use Rattle.rz_types_fields.specs.declared.field.TextForm.{TextForm}
use Rattle.rz_types_fields.specs.declared.field.TextForm.TheVariants as texts
use Rattle.rz_types_fields.specs.declared.keys.CaseKey.{CaseKey}

-- Widths in bits.

-- the sum of two widths, where both are known
abbrev pub plus : Option ℕ → Option ℕ → Option ℕ
plus None other = None
plus (Some one) None = None
plus (Some one) (Some other) = Some (one + other)

-- the bytes of the stored form of a text with this size
abbrev pub sized_bytes : TextForm → ℕ → ℕ
sized_bytes texts.Open size = size
sized_bytes texts.Pascal size = size + 1
sized_bytes texts.WordLong size = size + 2
sized_bytes texts.Zero size = size - 1 + 1

-- a text has a width of its own where its size is a constant
abbrev pub constant_size : TextForm → Option ℤ → Option ℕ
constant_size form None = None
constant_size form (Some size) = Some (8 * sized_bytes form (nat_abs size))

abbrev pub text_width : TextForm → Option Term → Option ℕ
text_width form None = None
text_width form (Some size) = constant_size form (constant_of size)

-- rows of this width, where their number is stated
abbrev pub rows_width : Option ℤ → Option ℕ → Option ℕ
rows_width None width = None
rows_width (Some count) width = option_map (λ bits. nat_abs count * bits) width

abbrev mutual
  -- the width of a field in every row, where it is the same: that of a number, a point, a rectangle or a fill, of a text with a
  -- constant size, and of an array with a stated count of rows of such fields; a label has no bits
  pub fixed_width : PlainField → Option ℕ
  fixed_width (Number number) = Some (nat_abs number.width)
  fixed_width (Text text) = text_width text.form text.size
  fixed_width (Points points) = Some (16 * numbers_of points.rect)
  fixed_width (Fill unit count) = Some (unit * nat_abs count)
  fixed_width (Align unit) = None
  fixed_width (Label name) = Some 0
  fixed_width (Array name count row) = rows_width count (fixed_widths row)
  fixed_width (Switch cases) = None

  pub fixed_widths : PlainBody → Option ℕ
  fixed_widths no_fields = Some 0
  fixed_widths (field_and field fields) = plus (fixed_width field) (fixed_widths fields)

-- Keys.

-- more bits than any resource has are as good as one more than it can have
abbrev pub capped : ℕ → ℕ
capped bits = min bits 134217697

-- the number that stands for the value of a key, which is a constant
abbrev pub key_bits : ℤ → Option Term → ℕ
key_bits width None = 0
key_bits width (Some term) = stored_number (nat_abs width) (unwrap_or (constant_of term) (pos 0))

-- the key that a number is, after so many bits, where these are known
abbrev pub number_key : Option ℕ → PlainNumber → List CaseKey
number_key before number =
    if number.key then record { width = nat_abs number.width; distance = option_map capped before; bits = key_bits number.width number.fixed } ∷ [] else []

abbrev pub field_key : Option ℕ → PlainField → List CaseKey
field_key before (Number number) = number_key before number
field_key before field = []

-- the keys among the fields of a case, each with the bits before it
abbrev pub keys_from : Option ℕ → PlainBody → List CaseKey
keys_from before no_fields = []
keys_from before (field_and field fields) = field_key before field ++ keys_from (plus before (fixed_width field)) fields

abbrev pub case_keys : PlainBody → List CaseKey
case_keys row = keys_from (Some 0) row
