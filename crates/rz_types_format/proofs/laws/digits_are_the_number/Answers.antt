use Rattle.std.proofs.Common.{arith}
use Rattle.std.specs.Prelude.{false}
use Rattle.std.proofs.lemmas.Fmt.{digits_is_IsNumeral}
use Rattle.rz_types_format.proofs.Leading.{hexadecimal_leads, octal_leads}
use Rattle.rz_types_format.proofs.laws.digits_are_the_number.Goals as goal

pub returns-clause-hexadecimal : goal.returns-clause-hexadecimal
returns-clause-hexadecimal c number small = (digits_is_IsNumeral 16 false (omega arith) (omega arith) number (omega arith)).1

pub returns-clause-octal : goal.returns-clause-octal
returns-clause-octal c number small = (digits_is_IsNumeral 8 false (omega arith) (omega arith) number (omega arith)).1

pub returns-clause-hexadecimal_begins : goal.returns-clause-hexadecimal_begins
returns-clause-hexadecimal_begins c = hexadecimal_leads

pub returns-clause-octal_begins : goal.returns-clause-octal_begins
returns-clause-octal_begins c = octal_leads
