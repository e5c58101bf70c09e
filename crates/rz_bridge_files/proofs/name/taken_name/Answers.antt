use Rattle.std.proofs.Common.{ℕ, List, ◌++◌, ap, refl, subst}
use Rattle.rz_core.proofs.Once.{err}
use Rattle.rz_core.specs.declared.fault.Fault.{Fault}
use Rattle.rz_pre_source.specs.Source.{mark, IsBadAt, IsTextOf}
use Rattle.rz_bridge_files.specs.Names.TakesName.{foreign, roman}
use Rattle.rz_bridge_files.proofs.name.taken_name.Goals as goal

pub returns-in-Ok-clause-name : goal.returns-in-Ok-clause-name
returns-in-Ok-clause-name c =
    let parted = c.last_name-last.ensures in
    roman parted.0 c.last_name-last.result.now c.in-Ok.name parted.1 (subst (λ (source : List ℕ). IsTextOf source c.in-Ok.name) c.in_ok-marked.ensures c.in-Ok.ensures.text) refl

pub returns-in-Err-Refused-clause-name : goal.returns-in-Err-Refused-clause-name
returns-in-Err-Refused-clause-name c =
    let parted = c.last_name-last.ensures in
    let last = c.last_name-last.result.now in
    let bad = subst (λ (source : List ℕ). IsBadAt source c.in-Err-Refused.field-0-0.offset) c.in_ok-marked.ensures (rw c.in-Err-Refused.field-0-is at c.in-Err-Refused.ensures.bad) in
    foreign parted.0 last parted.1 (λ name text. c.one_text.ensures.not_both (mark ++ last) name c.in-Err-Refused.field-0-0.offset text bad)
    (ap (λ (f : Fault). err f) c.bad_name.ensures.fault)
