use Rattle.std.proofs.Common.{◌≡◌, ◌≢◌, ◌-◌, ◌∷◌, [], List, length, refl, sym, ap, ◌∙◌, arith, length-append}
use Rattle.rz_stmt_brackets.specs.Statements.{is_end, open_behind}
use Rattle.rz_lex.specs.declared.token.Token.{Token}
use Rattle.rz_stmt.proofs.First.{ended, last_read, no_statement, one_read, rest}
use Rattle.rz_stmt.proofs.next.next_statement.Goals as goal
use Rattle.rz_stmt.proofs.next.next_statement.Goals.{After-at-last}

last_is : (c : After-at-last) → c.at-last.result.now ≡ c.in-Some.token
last_is c =
    last_read c.loop-tokens.tokens c.push.new.self c.in-Some.token c.at-last.result.now (c.len.result - 1) c.in_ok-push.ensures.ok
    (omega (arith, c.len.ensures, ap (λ (ts : List Token). length ts) c.in_ok-push.ensures.ok, length-append c.loop-tokens.tokens (c.in-Some.token ∷ []))) c.at-last.ensures

left_is : (c : After-at-last) → c.loop-tokens.reader ≡ c.in-Some.token ∷ c.next.new.self
left_is c = rw c.in-Some.is at c.in_ok-token.ensures.ok

pub returns-then-is_end-clause-first : goal.returns-then-is_end-clause-first
returns-then-is_end-clause-first c =
    ended c.one_cutting.ensures c.all_tokens_are_statements.ensures c.args.reader.now c.loop-tokens.tokens c.loop-tokens.reader c.loop-tokens.depth c.loop-tokens.invariant
    c.in-Some.token c.next.new.self c.push.new.self (left_is (goal.at.returns-then-is_end-clause-first c).After-at-last) c.in_ok-push.ensures.ok
    (ap (λ (token : Token). is_end token.shape c.loop-tokens.depth) (sym (last_is (goal.at.returns-then-is_end-clause-first c).After-at-last)) ∙ sym c.if-is_end.ensures)

pub loop-tokens-preserved : goal.loop-tokens-preserved
loop-tokens-preserved c =
    one_read c.args.reader.now c.loop-tokens.tokens c.loop-tokens.reader c.loop-tokens.depth c.loop-tokens.invariant
    c.in-Some.token c.next.new.self c.push.new.self (left_is (goal.at.loop-tokens-preserved c).After-at-last) c.in_ok-push.ensures.ok
    (ap (λ (token : Token). is_end token.shape c.loop-tokens.depth) (sym (last_is (goal.at.loop-tokens-preserved c).After-at-last)) ∙ sym c.if-is_end.ensures)
    c.open_behind-depth.result
    (c.open_behind-depth.ensures.count ∙ ap (λ (token : Token). open_behind token.shape c.loop-tokens.depth) (last_is (goal.at.loop-tokens-preserved c).After-at-last))
    c.open_behind-depth.ensures.slow

pub returns-then-is_empty-clause-first : goal.returns-then-is_empty-clause-first
returns-then-is_empty-clause-first c =
    let none = rw c.in_default.is at c.in_ok-token.ensures.ok in
    no_statement c.one_cutting.ensures c.all_tokens_are_statements.ensures c.args.reader.now c.loop-tokens.tokens c.loop-tokens.reader c.loop-tokens.depth c.loop-tokens.invariant
    none.0 c.next.new.self (c.if-is_empty.ensures.0 refl)

pub returns-else-is_empty-clause-first : goal.returns-else-is_empty-clause-first
returns-else-is_empty-clause-first c =
    let none = rw c.in_default.is at c.in_ok-token.ensures.ok in
    let held : c.loop-tokens.tokens ≢ [] = λ (nothing : c.loop-tokens.tokens ≡ []). cc (c.if-is_empty.ensures.1 nothing) in
    rest c.one_cutting.ensures c.all_tokens_are_statements.ensures c.args.reader.now c.loop-tokens.tokens c.loop-tokens.reader c.loop-tokens.depth c.loop-tokens.invariant
    none.0 c.next.new.self none.1 held
