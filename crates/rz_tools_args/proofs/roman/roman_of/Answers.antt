use Rattle.std.proofs.Common.{◌≡◌, ℕ, List, ◌++◌, sym, subst, ◌∙◌}
use Rattle.rz_pre_source.specs.Source.{mark, IsTextOf}
use Rattle.rz_tools_args.proofs.Found.{never}
use Rattle.rz_tools_args.proofs.roman.roman_of.Goals as goal

pub returns-in-Ok : goal.returns-in-Ok
returns-in-Ok c =
    let same : c.append.new.self ≡ mark ++ c.args.word.now = c.in_ok-append.ensures.ok ∙ (λ i. c.in_ok-source.ensures i ++ c.as_bytes.ensures.value i) in
    subst (λ (s : List ℕ). IsTextOf s c.in-Ok.bytes) same c.in-Ok.ensures.text

pub returns-in-Err-Refused : goal.returns-in-Err-Refused
returns-in-Err-Refused c bytes is =
    let same : c.append.new.self ≡ mark ++ c.args.word.now = c.in_ok-append.ensures.ok ∙ (λ i. c.in_ok-source.ensures i ++ c.as_bytes.ensures.value i) in
    never bytes _ _ (c.in-Err-Refused.ensures.every_text bytes (subst (λ (s : List ℕ). IsTextOf s bytes) (sym same) is)) c.in-Err-Refused.field-0-is
