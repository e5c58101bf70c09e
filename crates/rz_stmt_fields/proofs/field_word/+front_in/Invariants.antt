use Rattle.std.proofs.Common.{length}
use Rattle.rz_stmt_fields.proofs.field_word.+front_in.Given as goal

abbrev pub decreases-front_in : goal.decreases-front_in
decreases-front_in l = length l.tokens.now
