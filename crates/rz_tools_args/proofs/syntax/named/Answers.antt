use Rattle.std.proofs.Common.{◌+◌, Bool, Some, drop, ap, ◌∙◌}
use Rattle.std.specs.Prelude.{if◌then◌else◌}
use Rattle.rz_tools_args.specs.Held.{words_of}
use Rattle.rz_tools_args.specs.Syntax.{named}
use Rattle.rz_tools_args.proofs.Tables.{named_step}
use Rattle.rz_tools_args.proofs.syntax.named.Goals as goal

pub returns-then-eq : goal.returns-then-eq
returns-then-eq g c =
    ap (λ (b : Bool). if b then Some c.loop-spelled-item.result.1 else named (words_of (drop (c.loop-spelled.spelled-index + 1) c.args.table.now)) c.args.word.now) (c.if-eq.ensures)
    ∙ named_step c.args.table.now c.loop-spelled.spelled-index c.loop-spelled-item.result c.args.word.now c.loop-spelled-test.true c.loop-spelled-item.is
    ∙ c.loop-spelled.invariant

pub loop-spelled-preserved : goal.loop-spelled-preserved
loop-spelled-preserved g c =
    ap (λ (b : Bool). if b then Some c.loop-spelled-item.result.1 else named (words_of (drop (c.loop-spelled.spelled-index + 1) c.args.table.now)) c.args.word.now) (c.if-eq.ensures)
    ∙ named_step c.args.table.now c.loop-spelled.spelled-index c.loop-spelled-item.result c.args.word.now c.loop-spelled-test.true c.loop-spelled-item.is
    ∙ c.loop-spelled.invariant
