use Rattle.std.proofs.Common.{Bool, subst}
use Rattle.std.specs.Prelude.{IfOk, option_map}
use Rattle.rz_expr.specs.Term.{term_of}
use Rattle.rz_core.specs.Decided.{Decided}
use Rattle.rz_stmt_type.specs.DeclareSteps.{IsCopyIdBy}
use Rattle.rz_stmt_type.proofs.declare.read_copy_id.Goals as goal

pub returns-else-is_empty_statement : goal.returns-else-is_empty_statement
returns-else-is_empty_statement c =
    subst (λ (b : Bool). IfOk c.read_given_id.result (λ id. Decided (IsCopyIdBy b c.args.tokens.now) (option_map (option_map term_of) id)))
    c.if-is_empty_statement.ensures c.read_given_id.ensures
