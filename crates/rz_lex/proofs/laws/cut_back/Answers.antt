use Rattle.std.proofs.Common.{refl, []}
use Rattle.rz_lex.proofs.QuotedBack.{text_back, literal_back}
use Rattle.rz_lex.proofs.HexBack.{hex_back, dollar_back}
use Rattle.rz_lex.proofs.DigitsBack.{binary_back, dollar_digits_back, hex_bytes_back, hexadecimal_back, octal_back}
use Rattle.rz_lex.proofs.WordsBack.{word_back, digits_back, number_back, sign_back, token_more, blank_more}
use Rattle.rz_lex.proofs.laws.cut_back.Goals as goal

pub returns-clause-word : goal.returns-clause-word
returns-clause-word c = word_back

pub returns-clause-number : goal.returns-clause-number
returns-clause-number c = number_back

pub returns-clause-literal : goal.returns-clause-literal
returns-clause-literal c = literal_back

pub returns-clause-text : goal.returns-clause-text
returns-clause-text c = text_back

pub returns-clause-sign : goal.returns-clause-sign
returns-clause-sign c = sign_back

pub returns-clause-empty : goal.returns-clause-empty
returns-clause-empty c = λ mark. ([], refl, refl)

pub returns-clause-token : goal.returns-clause-token
returns-clause-token c = token_more

pub returns-clause-blank : goal.returns-clause-blank
returns-clause-blank c = blank_more

pub returns-clause-spelled : goal.returns-clause-spelled
returns-clause-spelled c = digits_back

pub returns-clause-dollar : goal.returns-clause-dollar
returns-clause-dollar c = dollar_back

pub returns-clause-hex : goal.returns-clause-hex
returns-clause-hex c = hex_back

pub returns-clause-octal : goal.returns-clause-octal
returns-clause-octal c = octal_back

pub returns-clause-hexadecimal : goal.returns-clause-hexadecimal
returns-clause-hexadecimal c = hexadecimal_back

pub returns-clause-binary : goal.returns-clause-binary
returns-clause-binary c = binary_back

pub returns-clause-dollar_digits : goal.returns-clause-dollar_digits
returns-clause-dollar_digits c = dollar_digits_back

pub returns-clause-hex_bytes : goal.returns-clause-hex_bytes
returns-clause-hex_bytes c = hex_bytes_back
