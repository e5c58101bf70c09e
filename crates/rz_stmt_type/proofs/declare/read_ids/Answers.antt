use Rattle.std.proofs.Common.{List, map, sym, ap, subst}
use Rattle.std.specs.Prelude.{IfOk, option_map}
use Rattle.rz_lex.specs.declared.token.Token.{Token}
use Rattle.rz_core.specs.Decided.{Decided}
use Rattle.rz_stmt_type.specs.Declare.{AreIds}
use Rattle.rz_stmt_fields.specs.Form.{scope_form}
use Rattle.rz_stmt_brackets.proofs.Slices.{only_one, only_two}
use Rattle.rz_stmt_type.proofs.declare.read_ids.Goals as goal

pub returns-in-len1 : goal.returns-in-len1
returns-in-len1 c =
    subst (λ (ps : List (List Token)). IfOk c.read_one.result (λ scope. Decided (AreIds ps) (option_map scope_form scope)))
    (sym (ap (map (λ piece. piece.now)) (only_one c.args.pieces.now c.id-item.result c.in-len1.len_at_least c.in-len1.len_below c.id-item.is))) c.read_one.ensures

pub returns-in-len2 : goal.returns-in-len2
returns-in-len2 c =
    subst (λ (ps : List (List Token)). IfOk c.read_two.result (λ scope. Decided (AreIds ps) (option_map scope_form scope)))
    (sym (ap (map (λ piece. piece.now))
    (only_two c.args.pieces.now c.first-item.result c.last-item.result c.in-len2.len_at_least c.in-len2.len_below c.first-item.is c.last-item.is))) c.read_two.ensures
