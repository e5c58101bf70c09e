-- The widths, ranges and sizes of the types of fields. (MPW Rez.)
use Rattle.std.specs.Prelude.{◌-◌, ◌^◌, ℤ, pos, negsuc, neg_ℤ, int_le, int_lt, Bool, true, ◌&&◌, if◌then◌else◌, Option, Some, None}
use lib.IntN.{nat_abs}
use Rattle.rz_types_fields.specs.declared.field.NumForm.{NumForm}
use Rattle.rz_types_fields.specs.declared.field.NumForm.TheVariants.{Bits, Boolean, Byte, Char, Integer, Longint}
use Rattle.rz_types_fields.specs.declared.field.TextForm.{TextForm}
use Rattle.rz_types_fields.specs.declared.field.TextForm.TheVariants.{Open, Pascal, WordLong, Zero}

-- a number from the least to the most
abbrev pub is_between : ℤ → ℤ → ℤ → Bool
is_between least most value = int_le least value && int_le value most

-- how many bits a number of a type has; that of a bitstring is written
abbrev pub own_width : NumForm → Option ℤ
own_width Bits = None
own_width Boolean = Some (pos 1)
own_width Byte = Some (pos 8)
own_width Char = Some (pos 8)
own_width Integer = Some (pos 16)
own_width Longint = Some (pos 32)

-- a number of so many bits, with a sign or without; where so many bits can't be, every number
abbrev pub fits_bits : ℤ → ℤ → Bool
fits_bits width value =
    if is_between (pos 1) (pos 32) width then int_le (neg_ℤ (pos (2 ^ (nat_abs width - 1)))) value && int_lt value (pos (2 ^ nat_abs width)) else true

-- the values that a number of this type and width may have
abbrev pub fits_number : NumForm → ℤ → ℤ → Bool
fits_number Bits width value = fits_bits width value
fits_number Byte width value = is_between (negsuc 127) (pos 255) value
fits_number Integer width value = is_between (negsuc 32767) (pos 65535) value
fits_number Longint width value = true
fits_number Boolean width value = is_between (pos 0) (pos 1) value
fits_number Char width value = is_between (pos 0) (pos 255) value

-- the sizes that a text may have
abbrev pub may_be_size : TextForm → ℤ → Bool
may_be_size Open size = int_le (pos 0) size
may_be_size Pascal size = is_between (pos 0) (pos 255) size
may_be_size WordLong size = is_between (pos 0) (pos 65535) size
may_be_size Zero size = int_le (pos 1) size
