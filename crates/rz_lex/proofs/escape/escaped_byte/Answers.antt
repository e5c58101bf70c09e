use Rattle.std.proofs.Common.{sym}
use Rattle.rz_lex.proofs.Befores.{escape_read}
use Rattle.rz_lex.proofs.escape.escaped_byte.Goals as goal

pub returns-in-Some-clause-byte : goal.returns-in-Some-clause-byte
returns-in-Some-clause-byte c = escape_read c.args.bytes.now c.rest_at.result.now c.in-Some.byte c.in-Some.size (sym c.in-Some.ensures.value) c.rest_at.ensures
