use Rattle.std.proofs.Common.{sym, subst}
use Rattle.rz_stmt_brackets.specs.Held.{held_split}
use Rattle.rz_stmt_brackets.specs.Pieces.{Parted}
use Rattle.rz_stmt_brackets.specs.declared.bracket.Bracket.TheVariants.{Square}
use Rattle.rz_expr.specs.Constant.{IsConstant}
use Rattle.rz_stmt_fields.specs.NumberField.{IsTail}
use Rattle.rz_stmt_brackets.proofs.OneBracket.{never_within, same_within}
use Rattle.rz_stmt_fields.proofs.number_field.read_bits.Goals as goal

pub returns-in_default : goal.returns-in_default
returns-in_default c number is = never_within Square c.args.front.now.tail.now c.in_default.ensures.every is.0 is.3

pub returns-in_default-2 : goal.returns-in_default-2
returns-in_default-2 c number is =
    let same = same_within Square c.args.front.now.tail.now (held_split c.in-Some.split) c.in-Some.ensures.every is.0 is.3 in
    let never = rw c.in_default-2.is at c.in_ok-width.ensures in
    never is.1 (subst (λ (p : Parted). IsConstant p.front is.1) (sym same) is.4)

pub returns-in-None : goal.returns-in-None
returns-in-None c number is =
    let same = same_within Square c.args.front.now.tail.now (held_split c.in-Some.split) c.in-Some.ensures.every is.0 is.3 in
    let never = rw c.in-None.is at c.in_ok-tail.ensures in
    never is.2 (subst (λ (p : Parted). IsTail c.args.form p.behind is.2) (sym same) is.5)
