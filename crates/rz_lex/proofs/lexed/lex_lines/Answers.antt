use Rattle.std.proofs.Common.{arith}
use Rattle.rz_lex.specs.Joined.{ahead, joined}
use Rattle.rz_lex.proofs.LexedTo.{lexed_all, lexed_more, stopped_in_line, stopped_at_comment}
use Rattle.rz_lex.proofs.lexed.lex_lines.Goals as goal

pub returns-in-Ok-None-clause-tokens : goal.returns-in-Ok-None-clause-tokens
returns-in-Ok-None-clause-tokens c =
    lexed_all c.args.file (joined 1 c.args.text.now) (ahead c.lines.place) c.lines.tokens c.lines.invariant.lexed (rw c.in-Ok-None.field-0-is at c.in-Ok-None.ensures.end)

pub returns-in-Err-of_line-clause-fault : goal.returns-in-Err-of_line-clause-fault
returns-in-Err-of_line-clause-fault c =
    stopped_in_line c.args.file (joined 1 c.args.text.now) (ahead c.lines.place) c.lines.tokens c.lines.invariant.lexed (ahead c.in-Ok-Some.after) c.in-Ok-Some.line c.in-Err-of_line.stop
    (rw c.in-Ok-Some.field-0-is at c.in-Ok-Some.ensures.line) c.in-Err-of_line.ensures.fault

pub returns-in-Err-clause-fault : goal.returns-in-Err-clause-fault
returns-in-Err-clause-fault c =
    stopped_at_comment c.args.file (joined 1 c.args.text.now) (ahead c.lines.place) c.lines.tokens c.lines.invariant.lexed c.in-Err.stop c.in-Err.ensures.comment

pub lines-preserved : goal.lines-preserved
lines-preserved c = record {
  lexed = rw c.in_ok-append-in-Ok.ensures
      (lexed_more c.args.file (joined 1 c.args.text.now) (ahead c.lines.place) c.lines.tokens c.lines.invariant.lexed (ahead c.in-Ok-Some.after) c.in-Ok-Some.line c.in-Ok.of_line
      (rw c.in-Ok-Some.field-0-is at c.in-Ok-Some.ensures.line) c.in-Ok.ensures.tokens);
  within = let on = rw c.in-Ok-Some.field-0-is at c.in-Ok-Some.ensures.further in omega (arith, on.within, c.lines.invariant.within);
}
