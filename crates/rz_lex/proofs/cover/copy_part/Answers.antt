use Rattle.std.proofs.Common.{sym, ◌∙◌}
use Rattle.rz_lex.specs.Joined.{ahead}
use Rattle.rz_lex.proofs.Takes.{single_part, quoted_part}
use Rattle.rz_lex.proofs.cover.copy_part.Goals as goal

pub returns-then-is_quote-clause-taken : goal.returns-then-is_quote-clause-taken
returns-then-is_quote-clause-taken c =
    let r = c.requires in
    quoted_part (ahead c.args.start) (ahead c.in-Some.after) c.in-Some.byte c.in-Some.ensures.byte r.block r.slashes r.inside _ _ c.push.new.self _
    (sym c.is_quote.ensures ∙ c.if-is_quote.true) c.in_ok-rest.ensures.rest c.in_ok-push.ensures.ok c.in_ok-rest.ensures.copied

pub returns-clause-taken : goal.returns-clause-taken
returns-clause-taken c =
    let r = c.requires in
    single_part (ahead c.args.start) (ahead c.in-Some.after) c.in-Some.byte c.in-Some.ensures.byte r.block r.slashes r.inside _ _
    (sym c.is_quote.ensures ∙ c.if-is_quote.false) c.in_ok-push.ensures.ok
