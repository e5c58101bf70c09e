use Rattle.std.proofs.Common.{sym, ap, ◌∙◌}
use Rattle.rz_lex.specs.Cutting.{after_blanks}
use Rattle.rz_lex.proofs.Steps.{reaches_end, reaches_more, reaches_start, refused_after}
use Rattle.rz_lex.proofs.cutting.cut_line.Goals as goal

pub lexemes-init : goal.lexemes-init
lexemes-init c = reaches_start c.args.line.now.mark c.args.line.now.bytes c.in_ok-tokens.tokens c.after_blanks-rest.result.now c.in_ok-tokens.ensures (c.after_blanks-rest.ensures.rest ∙ ap after_blanks c.as_slice.ensures)

pub lexemes-preserved : goal.lexemes-preserved
lexemes-preserved c = rw c.in_ok-push.ensures.ok
    (reaches_more c.args.line.now.mark c.args.line.now.bytes c.lexemes.tokens c.lexemes.rest.now _ c.after_blanks-rest-in-lexemes.result.now c.in_ok-token.token
    c.lexemes.invariant c.in_ok-token.ensures.token c.after_blanks-rest-in-lexemes.ensures.rest)

pub returns-in_err-token-clause-fault : goal.returns-in_err-token-clause-fault
returns-in_err-token-clause-fault c = refused_after c.args.line.now.mark c.args.line.now.bytes c.lexemes.tokens c.lexemes.rest.now c.in_err-token.field-0.0 c.lexemes.invariant
    (sym c.lexemes-test.true ∙ c.is_empty-in-lexemes.ensures) c.in_err-token.ensures.fault c.from_residual-in_err-token.result c.from_residual-in_err-token.ensures.1

pub returns-clause-tokens : goal.returns-clause-tokens
returns-clause-tokens c = reaches_end c.args.line.now.mark c.args.line.now.bytes c.lexemes.tokens c.lexemes.rest.now c.lexemes.invariant (sym c.lexemes-test.false ∙ c.is_empty-in-lexemes.ensures)
