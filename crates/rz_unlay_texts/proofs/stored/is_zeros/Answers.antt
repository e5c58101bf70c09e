use Rattle.rz_unlay_texts.proofs.TextSteps.{zeros_length}
use Rattle.rz_unlay_texts.proofs.stored.is_zeros.Goals as goal

pub returns-then-bytes-count : goal.returns-then-bytes-count
returns-then-bytes-count c = zeros_length c.args.count c.args.bytes.now c.if-bytes-count.true
