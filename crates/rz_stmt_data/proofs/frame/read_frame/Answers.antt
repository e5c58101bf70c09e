use Rattle.std.proofs.Common.{List, sym, subst}
use Rattle.rz_lex.specs.declared.token.Token.{Token}
use Rattle.rz_stmt_brackets.proofs.OneBracket.{never_within, same_within}
use Rattle.rz_stmt_brackets.specs.Held.{held_split}
use Rattle.rz_stmt_brackets.specs.Pieces.{AreCut, Parted}
use Rattle.rz_stmt_brackets.specs.declared.bracket.Bracket.TheVariants.{Round}
use Rattle.rz_stmt_brackets.specs.declared.pieces.Divider.TheVariants.{Comma}
use Rattle.rz_stmt_data.proofs.Frames.{brackets_behind}
use Rattle.rz_stmt_data.specs.Frame.{IsBody}
use Rattle.rz_stmt_data.specs.Head.{IsHead}
use Rattle.rz_stmt_data.proofs.frame.read_frame.Goals as goal

pub returns-in_default : goal.returns-in_default
returns-in_default c frame is = c.in_default.ensures _ is.typed

pub returns-in_default-bracketed : goal.returns-in_default-bracketed
returns-in_default-bracketed c frame is =
    never_within Round c.in-Some.typed.behind.now c.in_default-bracketed.ensures.every is.brackets (brackets_behind c.args.keyword c.args.tokens.now frame is _ c.in-Some.ensures)

pub returns-in_default-in_braces : goal.returns-in_default-in_braces
returns-in_default-in_braces c frame is =
    let same = same_within Round c.in-Some.typed.behind.now (held_split c.in-Some-bracketed.split) c.in-Some-bracketed.ensures.every is.brackets
    (brackets_behind c.args.keyword c.args.tokens.now frame is _ c.in-Some.ensures) in
    c.in_default-in_braces.ensures frame.inside (subst (λ (p : Parted). IsBody p.behind frame.inside) (sym same) is.has_body)

pub returns : goal.returns
returns c frame is =
    let same = same_within Round c.in-Some.typed.behind.now (held_split c.in-Some-bracketed.split) c.in-Some-bracketed.ensures.every is.brackets
    (brackets_behind c.args.keyword c.args.tokens.now frame is _ c.in-Some.ensures) in
    let never = rw (c.in-None.is, c.deref.ensures.value) at c.in_ok-head.ensures in
    never frame.head (subst (λ (ps : List (List Token)). IsHead ps frame.head)
    (sym (c.in_ok-pieces.ensures.every is.pieces (subst (λ (p : Parted). AreCut Comma p.front is.pieces) (sym same) is.are_cut))) is.has_head)
