-- What `type` statements make is well shaped.
use Rattle.std.proofs.Common.{◌≡◌, ℕ, ◌≤◌, nat_le, true, false, List, Ok, sym, subst, arith}
use Rattle.std.proofs.lemmas.Bool.Decides.{nat_tests}
use Rattle.rz_core.proofs.Tests.{and_so}
use Rattle.rz_core.specs.declared.fault.Mark.{Mark}
use Rattle.rz_lex.specs.Lexeme.{AreLexed}
use Rattle.rz_lex.specs.declared.token.Token.{Token}
use Rattle.rz_stmt_brackets.specs.Limit.{deepest_type, is_within_limits}
use Rattle.rz_stmt_brackets.specs.declared.bracket.Bracket.TheVariants.{Curly, Round}
use Rattle.rz_stmt_type.specs.Constants.{body_value, declared, given_value, made_value, scope_value, CopyOf, Declare, Fields, PlainMade}
use Rattle.rz_stmt_type.specs.Declare.{copied, copied_of, for_any, for_ids, in_braces, IsDeclare, IsMade, IsScoped}
use Rattle.rz_stmt_fields.specs.Form as form
use Rattle.rz_stmt_fields.specs.Form.{DeclareForm, MadeForm, ScopeForm}
use Rattle.rz_stmt_type.specs.Shaped.{IsShapedMade}
use Rattle.rz_stmt_fields.proofs.Answering.{same_ok, then_ok}
use Rattle.rz_stmt_type.proofs.Depth.{declare_fits, IsMadeWithin}
use Rattle.rz_stmt_fields.proofs.Pieces.{after_lexed, within_lexed}
use Rattle.rz_stmt_type.proofs.ShapedBody.{body_formed, body_shaped}
use Rattle.rz_stmt_fields.proofs.ShapedField.{IsBodyFormed}
use Rattle.rz_types_fields.specs.Shape.{are_shaped, body_depth, deepest_body}

-- Statements as they are written.

abbrev IsMadeFormed : MadeForm → Type 0
IsMadeFormed (form.Fields body) = IsBodyFormed false body
IsMadeFormed (form.CopyOf kind id) = Unit {0}

made_formed : (tokens : List Token) (made : MadeForm) → IsMade tokens made → AreLexed tokens → IsMadeFormed made
made_formed tokens made (in_braces parted body is none fields so) are =
    subst IsMadeFormed (sym so) (body_formed false parted.front body fields (within_lexed Curly tokens parted is are))
made_formed tokens made (copied behind code typed none so) are = subst IsMadeFormed (sym so) tt
made_formed tokens made (copied_of behind code parted id typed is none constant so) are = subst IsMadeFormed (sym so) tt

scoped_formed : (tokens : List Token) (scope : ScopeForm) (made : MadeForm) → IsScoped tokens scope made → AreLexed tokens → IsMadeFormed made
scoped_formed tokens scope made (for_any any is) are = made_formed tokens made is are
scoped_formed tokens scope made (for_ids parted is scoped made_so) are = made_formed parted.behind made made_so (after_lexed Round tokens parted is are)

-- Statements with their values.

-- whatever their depth
abbrev AreShapedFields : PlainMade → Type 0
AreShapedFields (Fields body) = are_shaped false body ≡ true
AreShapedFields (CopyOf kind id) = Unit {0}

made_shaped : (mark : Mark) (own : MadeForm) → IsMadeFormed own → (made : PlainMade) → made_value mark own ≡ Ok made → AreShapedFields made
made_shaped mark (form.Fields body) formed made is =
    let fields = then_ok (body_value mark body) _ made is in
    subst AreShapedFields (same_ok (Fields fields.0) made fields.2) (body_shaped mark false body formed fields.0 fields.1)
made_shaped mark (form.CopyOf kind id) formed made is =
    let value = then_ok (given_value mark id) _ made is in
    subst AreShapedFields (same_ok (CopyOf kind value.0) made value.2) tt

within : (depth most : ℕ) → depth ≤ most → nat_le depth most ≡ true
within depth most is = grind (arith, nat_tests, is)

shaped_within : (made : PlainMade) → AreShapedFields made → IsMadeWithin deepest_type made → IsShapedMade made
shaped_within (Fields body) shaped low = and_so (are_shaped false body) (nat_le (body_depth body) deepest_body) shaped (within (body_depth body) deepest_body low)
shaped_within (CopyOf kind id) shaped low = tt

fields_shaped : (tokens : List Token) (stmt : DeclareForm) (mark : Mark) (declare : Declare) → AreLexed tokens → IsDeclare tokens stmt → declared mark stmt ≡ Ok declare
    → AreShapedFields declare.made
fields_shaped tokens stmt mark declare are is has =
    let bounds = then_ok (scope_value mark stmt.scope) _ declare has in
    let made = then_ok (made_value mark stmt.made) _ declare bounds.2 in
    let formed = scoped_formed is.behind stmt.scope stmt.made is.scoped (subst AreLexed is.typed.are are).1.1 in
    subst (λ (d : Declare). AreShapedFields d.made) (same_ok (record { kind = stmt.kind; bounds = bounds.0; made = made.0 }) declare made.2)
    (made_shaped mark stmt.made formed made.0 made.1)

pub declare_shaped : (tokens : List Token) (stmt : DeclareForm) (mark : Mark) (declare : Declare) → AreLexed tokens → is_within_limits tokens ≡ true → IsDeclare tokens stmt
    → declared mark stmt ≡ Ok declare → IsShapedMade declare.made
declare_shaped tokens stmt mark declare are limits is has =
    shaped_within declare.made (fields_shaped tokens stmt mark declare are is has) (declare_fits tokens stmt mark declare limits is has)
