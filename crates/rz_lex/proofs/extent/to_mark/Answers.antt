use Rattle.std.proofs.Common.{ap, arith, sym, ◌∙◌}
use Rattle.rz_lex.specs.Scan.{after_quote}
use Rattle.rz_lex.proofs.Places.{quote_further, quote_nowhere}
use Rattle.rz_lex.proofs.extent.to_mark.Goals as goal

pub returns-in-None-clause-rest : goal.returns-in-None-clause-rest
returns-in-None-clause-rest c = quote_nowhere c.args.quote c.args.bytes.now (λ k below. c.in-None.ensures k (omega arith) below)

pub returns-in-Some-clause-rest : goal.returns-in-Some-clause-rest
returns-in-Some-clause-rest c =
    quote_further c.args.quote c.in-Some.size c.args.bytes.now (omega arith) (λ k below. c.in-Some.ensures.0.before k (omega arith) below)
    ∙ ap (after_quote c.args.quote) (sym c.split_at.ensures.back)
