use Rattle.std.proofs.Common.{◌∙◌, sym, arith}
use Rattle.rz_hqx.proofs.Spoken.{begins, head_found}
use Rattle.rz_hqx.proofs.text.behind_head.Goals as goal

pub loop-rest-init : goal.loop-rest-init
loop-rest-init c = record { so_far = begins c.args.bytes.now; within = omega arith }

pub returns-then-starts_with-clause-bytes : goal.returns-then-starts_with-clause-bytes
returns-then-starts_with-clause-bytes c =
    c.behind_line.ensures.bytes ∙ head_found c.loop-rest.rest.now _ c.loop-rest.first c.loop-rest.invariant.so_far c.if-first.true (sym c.if-starts_with.ensures.value)
