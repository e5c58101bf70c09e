use Rattle.std.proofs.Common.{List, length, sym, ap, subst, ◌∙◌}
use Rattle.std.proofs.lemmas.Bool.{eqb-false}
use Rattle.rz_lex.specs.declared.token.Token.{Token}
use Rattle.rz_stmt_brackets.specs.Held.{held_split}
use Rattle.rz_stmt_brackets.specs.Pieces.{Parted}
use Rattle.rz_stmt_brackets.specs.declared.bracket.Bracket.TheVariants.{Curly}
use Rattle.rz_stmt_fields.specs.FieldForm.{AreNumbers, IsPoints}
use Rattle.rz_stmt_brackets.proofs.OneBracket.{never_within, same_within}
use Rattle.rz_stmt_fields.proofs.field.read_points.Goals as goal

pub returns-in_default-bracketed : goal.returns-in_default-bracketed
returns-in_default-bracketed c points all =
    let is = subst (λ (ts : List Token). IsPoints c.args.rect ts points) c.in-Some.ensures.cases.0 all in
    never_within Curly c.in-Some.rest.now c.in_default-bracketed.ensures.every is.0 is.3

pub returns-then-not-is_empty : goal.returns-then-not-is_empty
returns-then-not-is_empty c points all =
    let is = subst (λ (ts : List Token). IsPoints c.args.rect ts points) c.in-Some.ensures.cases.0 all in
    let same = same_within Curly c.in-Some.rest.now (held_split c.in-Some-bracketed.split) c.in-Some-bracketed.ensures.every is.0 is.3 in
    eqb-false (length c.in-Some-bracketed.split.behind.now) 0 (sym c.if-not-is_empty.ensures) (ap (λ (p : Parted). length p.behind) same ∙ is.4)

pub returns-in-None : goal.returns-in-None
returns-in-None c points all =
    let is = subst (λ (ts : List Token). IsPoints c.args.rect ts points) c.in-Some.ensures.cases.0 all in
    let same = same_within Curly c.in-Some.rest.now (held_split c.in-Some-bracketed.split) c.in-Some-bracketed.ensures.every is.0 is.3 in
    let never = rw c.in-None.is at c.in_ok-exprs.ensures in
    never is.1 (subst (λ (p : Parted). AreNumbers c.args.rect p.front is.1) (sym same) is.5)
