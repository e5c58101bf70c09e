use Rattle.std.proofs.Common.{◌++◌, ap, ◌∙◌}
use Rattle.rz_pre_source.specs.Source.{mark, IsTextOf}
use Rattle.rz_core.specs.Resources.{kind_of}
use Rattle.rz_tools_args.proofs.Found.{found_so, none_so}
use Rattle.rz_tools_args.proofs.KindFound.{decided_kind}
use Rattle.rz_tools_args.proofs.kind.kind_in.Goals as goal

pub returns-in-Some : goal.returns-in-Some
returns-in-Some c =
    let roman = found_so (IsTextOf (mark ++ c.args.word.now)) _ c.in-Some.bytes c.in_ok-bytes.ensures c.in-Some.is in
    decided_kind c.args.word.now c.in-Some.bytes roman (λ bytes is. c.one_text.ensures.text (mark ++ c.args.word.now) bytes c.in-Some.bytes is roman) c.of_bytes.result (c.of_bytes.ensures ∙ ap kind_of c.as_slice.ensures)

pub returns-in-None : goal.returns-in-None
returns-in-None c kind is = none_so (IsTextOf (mark ++ c.args.word.now)) _ c.in_ok-bytes.ensures c.in-None.is is.bytes is.roman
