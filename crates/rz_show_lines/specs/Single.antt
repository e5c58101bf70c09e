-- What the code says is shown on one line.
use Rattle.std.specs.Prelude.{[], ◌∷◌, map}
use Rattle.rz_core.specs.Numbers.{be}
use Rattle.rz_show_lines.specs.declared.single.Single.{Single as Shown}
use Rattle.rz_show_lines.specs.declared.single.Single.TheVariants as shown
use Rattle.rz_show_lines.specs.Print.{by_name, in_binary, in_decimal, in_group, in_hex, in_literal, in_octal, in_text, signed_number, Single}

abbrev pub single_of : Shown → Single
single_of (shown.Decimal number) = in_decimal number
single_of (shown.Hex digits number) = in_hex digits number
single_of (shown.Octal number) = in_octal number
single_of (shown.Binary digits number) = in_binary digits number
single_of (shown.Literal count number) = in_literal (be count number)
single_of (shown.Text byte) = in_text (byte ∷ [])
single_of (shown.Name name) = by_name name.now
single_of (shown.Group numbers) = in_group (map (signed_number 16) numbers.now)
