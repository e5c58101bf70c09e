use Rattle.std.proofs.Common.{rules, [], Some, None, Ok}
use Rattle.rz_lex.specs.Joined.{ahead}
use Rattle.rz_lex.specs.Lines.{StandsBefore}
use Rattle.rz_lex.proofs.Only.{only_end, only_comment}
use Rattle.rz_lex.proofs.lexer.Lexer.next.Goals as goal

pub returns-in_err-line-clause-at_end : goal.returns-in_err-line-clause-at_end
returns-in_err-line-clause-at_end c = only_end c.args.self.now.file c.args.self.now.ahead [] c.from_residual.result (search rules) (search rules)

pub returns-in_err-line-clause-in_comment : goal.returns-in_err-line-clause-in_comment
returns-in_err-line-clause-in_comment c = only_comment c.args.self.now.file c.args.self.now.ahead [] c.from_residual.result (search rules) (search rules) (search rules)

pub returns-in-Some-clause-at_end : goal.returns-in-Some-clause-at_end
returns-in-Some-clause-at_end c =
    let stands : StandsBefore c.args.self.now.file c.args.self.now.ahead c.in-Some.line (ahead c.in-Some.after) = search rules in
    only_end c.args.self.now.file c.args.self.now.ahead (ahead c.in-Some.after) (Ok (Some c.in-Some.line)) stands tt

pub returns-in-Some-clause-in_comment : goal.returns-in-Some-clause-in_comment
returns-in-Some-clause-in_comment c =
    let stands : StandsBefore c.args.self.now.file c.args.self.now.ahead c.in-Some.line (ahead c.in-Some.after) = search rules in
    only_comment c.args.self.now.file c.args.self.now.ahead (ahead c.in-Some.after) (Ok (Some c.in-Some.line)) stands tt tt

pub returns-in-None-clause-in_comment : goal.returns-in-None-clause-in_comment
returns-in-None-clause-in_comment c = only_comment c.args.self.now.file c.args.self.now.ahead [] (Ok None) tt (search rules) tt
