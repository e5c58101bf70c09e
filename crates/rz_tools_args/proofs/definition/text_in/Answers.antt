use Rattle.std.proofs.Common.{ℕ, List, ◌++◌, sym, subst}
use Rattle.rz_lex.specs.Cutting.{Cuts}
use Rattle.rz_pre_source.specs.Source.{mark, IsTextOf}
use Rattle.rz_tools_args.specs.Definition.{nowhere, IsText}
use Rattle.rz_tools_args.proofs.Found.{decided_all, found_so, none_so}
use Rattle.rz_tools_args.proofs.definition.text_in.Goals as goal

pub returns-in-Some : goal.returns-in-Some
returns-in-Some c =
    let roman = found_so (IsTextOf (mark ++ c.args.text.now)) _ c.in-Some.bytes c.in_ok-bytes.ensures c.in-Some.is in
    decided_all (Cuts nowhere c.in-Some.bytes) (IsText c.args.text.now)
    (λ tokens cuts. record { bytes = c.in-Some.bytes; roman = roman; cut = cuts })
    (λ tokens is. subst (λ (b : List ℕ). Cuts nowhere b tokens) (sym (c.one_text.ensures.text (mark ++ c.args.text.now) c.in-Some.bytes is.bytes roman is.roman)) is.cut)
    c.tokens_in.result c.tokens_in.ensures

pub returns-in-None : goal.returns-in-None
returns-in-None c tokens is = none_so (IsTextOf (mark ++ c.args.text.now)) _ c.in_ok-bytes.ensures c.in-None.is is.bytes is.roman
