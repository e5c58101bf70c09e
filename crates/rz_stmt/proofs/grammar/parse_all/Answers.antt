use Rattle.std.proofs.Common.{refl, sym}
use Rattle.rz_stmt.specs.Grammar.{alone, data_statement, statement}
use Rattle.rz_stmt.specs.Raw.{raw_of}
use Rattle.rz_stmt.proofs.Parsed.{first_mark, parsed}
use Rattle.rz_stmt.proofs.grammar.parse_all.Goals as goal

pub returns-then-is_empty_statement-clause-parsed : goal.returns-then-is_empty_statement-clause-parsed
returns-then-is_empty_statement-clause-parsed c = statement (sym c.if-not-is_within_limits.ensures) (alone (sym c.if-is_empty_statement.ensures) refl)

pub returns-in-Some-clause-parsed : goal.returns-in-Some-clause-parsed
returns-in-Some-clause-parsed c =
    statement (sym c.if-not-is_within_limits.ensures) (data_statement (raw_of c.in-Some.raw) (rw c.in-Some.is at c.in_ok-raw.ensures) refl)

pub returns-in-None-clause-parsed : goal.returns-in-None-clause-parsed
returns-in-None-clause-parsed c =
    parsed _ c.args.tokens.now (first_mark c.args.tokens.now c.index-tokens-0.result c.requires) (sym c.if-not-is_within_limits.ensures) (sym c.if-is_empty_statement.ensures) (rw c.in-None.is at c.in_ok-raw.ensures)
    c.parse_list.result c.parse_list.ensures.parsed
