use Rattle.std.proofs.Common.{sym, ◌∙◌}
use Rattle.rz_lex.proofs.Takes.{block_part, slashes_part}
use Rattle.rz_lex.proofs.cover.take_part.Goals as goal

pub returns-then-begins-clause-taken : goal.returns-then-begins-clause-taken
returns-then-begins-clause-taken c = block_part _ _ _ _ (sym c.begins.ensures ∙ c.if-begins.true) c.in-Some.ensures.rest c.in_ok-push.ensures.ok

pub returns-then-begins-2-clause-taken : goal.returns-then-begins-2-clause-taken
returns-then-begins-2-clause-taken c = slashes_part _ _ _ _ (sym c.begins-2.ensures ∙ c.if-begins-2.true) c.skip_slashes-rest.ensures.rest c.in_ok-push-2.ensures.ok
