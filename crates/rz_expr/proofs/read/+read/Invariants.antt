use Rattle.std.proofs.Common.{◌+◌, ◌-◌, ◌*◌, length}
use Rattle.rz_expr.specs.Term.{term_of}
use Rattle.rz_expr.proofs.Steps.{SoFar}
use Rattle.rz_expr.proofs.read.+read.Given as goal

abbrev pub invariant-read_level-operands : goal.invariant-read_level-operands
invariant-read_level-operands l = SoFar l.level l.tokens l.length (term_of l.expr)

abbrev pub decreases-read_level-operands : goal.decreases-read_level-operands
decreases-read_level-operands l = length l.tokens - l.length

-- at one place the readers call one another in this order
abbrev pub decreases-read_until : goal.decreases-read_until
decreases-read_until l = 32 * length l.tokens.now + 20

abbrev pub decreases-read_level : goal.decreases-read_level
decreases-read_level l = 32 * length l.tokens.now + l.level + 6

abbrev pub decreases-read_prefixed : goal.decreases-read_prefixed
decreases-read_prefixed l = 32 * length l.tokens.now + 5

abbrev pub decreases-read_operand : goal.decreases-read_operand
decreases-read_operand l = 32 * length l.tokens.now + 4

abbrev pub decreases-read_word : goal.decreases-read_word
decreases-read_word l = 32 * length l.tokens.now + 3

abbrev pub decreases-read_sign : goal.decreases-read_sign
decreases-read_sign l = 32 * length l.tokens.now + 3

abbrev pub decreases-read_group : goal.decreases-read_group
decreases-read_group l = 32 * length l.tokens.now + 2

abbrev pub decreases-read_bit_field : goal.decreases-read_bit_field
decreases-read_bit_field l = 32 * length l.tokens.now + 2

abbrev pub decreases-read_label : goal.decreases-read_label
decreases-read_label l = 32 * length l.tokens.now + 2
