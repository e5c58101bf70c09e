use Rattle.std.proofs.Common.{sym, subst}
use Rattle.rz_stmt_brackets.specs.Held.{held_split}
use Rattle.rz_stmt_brackets.specs.Pieces.{Parted}
use Rattle.rz_stmt_brackets.specs.declared.bracket.Bracket.TheVariants.{Square}
use Rattle.rz_expr.specs.Constant.{IsConstant}
use Rattle.rz_stmt_type.specs.Head.{IsBraced}
use Rattle.rz_stmt_brackets.proofs.OneBracket.{never_within, same_within}
use Rattle.rz_stmt_type.proofs.head.read_counted.Goals as goal

pub returns-in_default : goal.returns-in_default
returns-in_default c front is = never_within Square c.args.tokens.now c.in_default.ensures.every is.0 is.3

pub returns-in_default-braced : goal.returns-in_default-braced
returns-in_default-braced c front is =
    let same = same_within Square c.args.tokens.now (held_split c.in-Some.split) c.in-Some.ensures.every is.0 is.3 in
    c.in_default-braced.ensures is.2 (subst (λ (p : Parted). IsBraced p.behind is.2) (sym same) is.5)

pub returns-in-None : goal.returns-in-None
returns-in-None c front is =
    let same = same_within Square c.args.tokens.now (held_split c.in-Some.split) c.in-Some.ensures.every is.0 is.3 in
    let never = rw c.in-None.is at c.in_ok-count.ensures in
    never is.1 (subst (λ (p : Parted). IsConstant p.front is.1) (sym same) is.4)
