use Rattle.std.proofs.Common.{◌∙◌, List, ℕ, length, subst, sym, ap, arith, length-append}
use Rattle.rz_lex.specs.Extent.{is_lexeme, Longest}
use Rattle.rz_lex.proofs.Ends.{Ends, ends_lexeme, front_is}
use Rattle.rz_lex.proofs.extent.lexeme_at.Goals as goal

pub overflow_sub-size : goal.overflow_sub-size
overflow_sub-size c =
    let ends = subst (Ends is_lexeme c.args.rest.now) (sym c.in-Some.ensures) (ends_lexeme c.args.rest.now) in
    omega (arith, ap length ends.1.whole, length-append ends.0 c.in-Some.after.now)

pub returns-in-None : goal.returns-in-None
returns-in-None c = subst (Ends is_lexeme c.args.rest.now) (sym c.in-None.ensures) (ends_lexeme c.args.rest.now)

pub returns-in-Some : goal.returns-in-Some
returns-in-Some c =
    let ends = subst (Ends is_lexeme c.args.rest.now) (sym c.in-Some.ensures) (ends_lexeme c.args.rest.now) in
    let front = c.split_at.ensures.front ∙ front_is c.args.rest.now ends.0 c.in-Some.after.now ends.1.whole in
    subst (λ (x : List ℕ). Longest is_lexeme c.args.rest.now x c.in-Some.after.now) (sym front) ends.1
