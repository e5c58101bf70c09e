use Rattle.std.proofs.Common.{ap}
use Rattle.rz_pre_source.specs.declared.source.BadText.{BadText}
use Rattle.rz_pre_source.proofs.Turned.{one_fault, one_text_of, text_or_fault}
use Rattle.rz_pre_source.proofs.laws.one_text.Goals as goal

pub returns-clause-text : goal.returns-clause-text
returns-clause-text c = one_text_of

pub returns-clause-fault : goal.returns-clause-fault
returns-clause-fault c source offset other bad also =
    ap (λ (fault : BadText). fault.offset) (one_fault source (record { offset = offset }) (record { offset = other }) bad also)

pub returns-clause-not_both : goal.returns-clause-not_both
returns-clause-not_both c source text offset is bad = text_or_fault source text (record { offset = offset }) is bad
