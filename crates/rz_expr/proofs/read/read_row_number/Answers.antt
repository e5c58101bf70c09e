use Rattle.std.proofs.Common.{List, ℕ, sym, ap, subst, ◌∙◌}
use Rattle.std.specs.Option.{option_copied}
use Rattle.rz_core.specs.declared.resource.Word.{Word}
use Rattle.rz_expr.specs.Grammar.{argument}
use Rattle.rz_expr.specs.Reading.{IsFront}
use Rattle.rz_expr.specs.Term.{RowNumber}
use Rattle.rz_words.specs.declared.words.Function.TheVariants.{ArrayIndex}
use Rattle.rz_expr.proofs.Steps.{named_tokens, numbered_front}
use Rattle.rz_expr.proofs.read.read_row_number.Goals as goal

pub returns-in_ok-copy-in-Some : goal.returns-in_ok-copy-in-Some
returns-in_ok-copy-in-Some c =
    let name = ap (argument ArrayIndex) (sym c.behind.ensures) ∙ sym c.argument.ensures ∙ ap option_copied c.in-Some.is in
    subst (λ (bytes : List ℕ). IsFront 0 c.args.tokens.now 4 (RowNumber bytes)) (sym (ap (λ (word : Word). word.bytes) c.in_ok-copy-in-Some.ensures))
    (numbered_front c.in-Some.name.now c.args.tokens.now (named_tokens ArrayIndex c.in-Some.name.now c.args.tokens.now c.requires name))
