-- Tokens as they are written: examples that compute.
use Rattle.std.proofs.Common.{◌≡◌, refl, [], ◌∷◌}
use Rattle.std.specs.Prelude.{codes}
use Rattle.rz_show_lines.specs.Print.{in_binary, in_hex, in_octal, single_written}
use Rattle.rz_show_lines.specs.Written.{a_hex_text, line_text, octal_count, written_text}

hex_word : line_text (single_written (in_hex 3 171)) ≡ codes "0x0AB"
hex_word = refl

octal_word : line_text (single_written (in_octal 64)) ≡ codes "0100"
unfolding octal_count
octal_word = refl

octal_zero : line_text (single_written (in_octal 0)) ≡ codes "0"
unfolding octal_count
octal_zero = refl

binary_word : line_text (single_written (in_binary 5 6)) ≡ codes "0B00110"
binary_word = refl

hex_piece : written_text (a_hex_text (1 ∷ 2 ∷ 3 ∷ [])) ≡ codes "$\"0102 03\""
hex_piece = refl
