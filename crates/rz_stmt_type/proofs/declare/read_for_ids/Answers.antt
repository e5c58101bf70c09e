use Rattle.std.proofs.Common.{refl, sym, subst}
use Rattle.rz_stmt_brackets.specs.Held.{held_split}
use Rattle.rz_stmt_brackets.specs.Pieces.{Parted}
use Rattle.rz_stmt_brackets.specs.declared.bracket.Bracket.TheVariants.{Round}
use Rattle.rz_stmt_type.specs.Declare.{IsMade, IsScope}
use Rattle.rz_stmt_fields.specs.Form.{made_form, scope_form}
use Rattle.rz_stmt_brackets.proofs.OneBracket.{never_within, same_within}
use Rattle.rz_stmt_type.proofs.declare.read_for_ids.Goals as goal

pub returns-in_default : goal.returns-in_default
returns-in_default c parts is = never_within Round c.args.tokens.now c.in_default.ensures.every is.0 is.3

pub returns-in_default-2 : goal.returns-in_default-2
returns-in_default-2 c parts is =
    let same = same_within Round c.args.tokens.now (held_split c.in-Some.split) c.in-Some.ensures.every is.0 is.3 in
    let never = rw c.in_default-2.is at c.in_ok-scope.ensures in
    never is.1 (subst (λ (p : Parted). IsScope p.front is.1) (sym same) is.4)

pub returns-in-Ok-None : goal.returns-in-Ok-None
returns-in-Ok-None c parts is =
    let same = same_within Round c.args.tokens.now (held_split c.in-Some.split) c.in-Some.ensures.every is.0 is.3 in
    let never = rw c.in-Ok-None.field-0-is at c.in-Ok-None.ensures in
    never is.2 (subst (λ (p : Parted). IsMade p.behind is.2) (sym same) is.5)

pub returns-in-Ok-Some : goal.returns-in-Ok-Some
returns-in-Ok-Some c = (
  held_split c.in-Some.split,
  scope_form c.in-Some-2.scope,
  made_form c.in-Ok-Some.made,
  c.in-Some.ensures.found,
  rw c.in-Some-2.is at c.in_ok-scope.ensures,
  rw c.in-Ok-Some.field-0-is at c.in-Ok-Some.ensures,
  refl,
)
