use Rattle.std.proofs.Common.{sym, subst}
use Rattle.rz_stmt_brackets.proofs.OneBracket.{never_within, same_within}
use Rattle.rz_stmt_brackets.specs.Held.{held_split}
use Rattle.rz_stmt_brackets.specs.Pieces.{Parted}
use Rattle.rz_stmt_brackets.specs.declared.bracket.Bracket.TheVariants.{Round}
use Rattle.rz_stmt_data.specs.declared.head.Subject.TheVariants.{New}
use Rattle.rz_stmt_lists.proofs.One.{read_brackets}
use Rattle.rz_stmt_lists.specs.Read.{IsNamed}
use Rattle.rz_stmt_lists.specs.Renaming.{IsHeadIn}
use Rattle.rz_stmt_lists.proofs.read.read_read.Goals as goal

pub returns-in_default : goal.returns-in_default
returns-in_default c read is = c.in_default.ensures _ is.typed

pub returns-in_default-bracketed : goal.returns-in_default-bracketed
returns-in_default-bracketed c read is =
    never_within Round c.in-Some.typed.behind.now c.in_default-bracketed.ensures.every is.parted (read_brackets c.args.tokens.now read is _ c.in-Some.ensures)

pub returns-in_default-2 : goal.returns-in_default-2
returns-in_default-2 c read is =
    let same = same_within Round c.in-Some.typed.behind.now (held_split c.in-Some-bracketed.split) c.in-Some-bracketed.ensures.every is.parted
    (read_brackets c.args.tokens.now read is _ c.in-Some.ensures) in
    let never = rw c.in_default-2.is at c.in_ok-head.ensures in
    never read.head (subst (λ (p : Parted). IsHeadIn New p.front read.head) (sym same) is.has_head)

pub returns-in-Ok-None : goal.returns-in-Ok-None
returns-in-Ok-None c read is =
    let same = same_within Round c.in-Some.typed.behind.now (held_split c.in-Some-bracketed.split) c.in-Some-bracketed.ensures.every is.parted
    (read_brackets c.args.tokens.now read is _ c.in-Some.ensures) in
    let never = rw c.in-Ok-None.field-0-is at c.in-Ok-None.ensures in
    never read.file (subst (λ (p : Parted). IsNamed p.behind read.file) (sym same) is.names)
