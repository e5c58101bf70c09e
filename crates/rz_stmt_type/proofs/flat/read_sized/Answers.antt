use Rattle.std.proofs.Common.{sym, subst}
use Rattle.rz_stmt_brackets.specs.Held.{held_split}
use Rattle.rz_stmt_brackets.specs.Pieces.{Parted}
use Rattle.rz_stmt_brackets.specs.declared.bracket.Bracket.TheVariants.{Square}
use Rattle.rz_stmt_type.specs.Flat.{IsFixed}
use Rattle.rz_stmt_fields.specs.FieldValue.{IsSizeExpression}
use Rattle.rz_stmt_brackets.proofs.OneBracket.{never_within, same_within}
use Rattle.rz_stmt_type.proofs.flat.read_sized.Goals as goal

pub returns-in_default : goal.returns-in_default
returns-in_default c text is = never_within Square c.args.tokens.now c.in_default.ensures.every is.0 is.3

pub returns-in_default-2 : goal.returns-in_default-2
returns-in_default-2 c text is =
    let same = same_within Square c.args.tokens.now (held_split c.in-Some.split) c.in-Some.ensures.every is.0 is.3 in
    let never = rw c.in_default-2.is at c.in_ok-size.ensures in
    never is.1 (subst (λ (p : Parted). IsSizeExpression p.front is.1) (sym same) is.4)

pub returns-in-Ok-None : goal.returns-in-Ok-None
returns-in-Ok-None c text is =
    let same = same_within Square c.args.tokens.now (held_split c.in-Some.split) c.in-Some.ensures.every is.0 is.3 in
    let never = rw c.in-Ok-None.field-0-is at c.in-Ok-None.ensures in
    never is.2 (subst (λ (p : Parted). IsFixed p.behind is.2) (sym same) is.5)
