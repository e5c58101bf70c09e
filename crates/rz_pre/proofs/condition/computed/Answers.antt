use Rattle.std.proofs.Common.{ℤ, List, Option, sym, ap, ◌∙◌, arith}
use Rattle.std.specs.Prelude.{MatchOption}
use Rattle.rz_lex.specs.declared.token.Token.{Token}
use Rattle.rz_pre.specs.Condition.{numbered, Computes, HasValue}
use Rattle.rz_pre.proofs.Computing.{computes, if_ok_so}
use Rattle.rz_pre.proofs.condition.computed.Goals as goal

pub returns-in-Some : goal.returns-in-Some
returns-in-Some c =
    if_ok_so (λ (o : Option ℤ). MatchOption o ((value : ℤ) → HasValue c.in-Some.numbers value → ⊥) (HasValue c.in-Some.numbers))
    (λ (o : Option ℤ). MatchOption o ((value : ℤ) → Computes c.args.tool c.args.tokens.now value → ⊥) (Computes c.args.tool c.args.tokens.now))
    (λ o has. computes c.args.tool c.args.tokens.now c.in-Some.numbers o (omega (arith, c.if-len-gt-MOST.false, c.len.ensures))
    (sym c.in-Some.is ∙ c.in_ok-numbers.ensures ∙ ap (λ (ts : List Token). numbered c.args.tool ts) c.as_slice.ensures) has)
    c.value_of.result c.value_of.ensures
