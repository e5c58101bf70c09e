use Rattle.std.proofs.Common.{sym, ap, subst, ◌∙◌}
use Rattle.std.specs.Option.{option_copied}
use Rattle.rz_expr.specs.Grammar.{argument}
use Rattle.rz_expr.specs.Reading.{IsFront}
use Rattle.rz_words.specs.declared.words.Function.TheVariants.{Data}
use Rattle.rz_expr.proofs.Steps.{named_tokens, data_front}
use Rattle.rz_expr.proofs.read.read_data.Goals as goal

pub returns-in_ok-data_at-in-Some : goal.returns-in_ok-data_at-in-Some
returns-in_ok-data_at-in-Some c =
    let name = ap (argument (Data c.args.width)) (sym c.behind.ensures) ∙ sym c.argument.ensures ∙ ap option_copied c.in-Some.is in
    subst (IsFront 0 c.args.tokens.now 4) (sym c.in_ok-data_at-in-Some.ensures)
    (data_front c.args.width c.in-Some.name.now c.args.tokens.now (named_tokens (Data c.args.width) c.in-Some.name.now c.args.tokens.now c.requires name))
