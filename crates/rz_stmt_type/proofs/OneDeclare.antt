-- `type` statements are one at most.
use Rattle.std.proofs.Common.{◌≡◌, Bool, true, false, List, [], ◌∷◌, Option, Some, refl, sym, ap, subst, ◌∙◌}
use Rattle.rz_expr.proofs.OneTerm.{OneExpression}
use Rattle.rz_stmt_brackets.specs.Bracket.{begins}
use Rattle.rz_stmt_brackets.specs.Pieces.{Parted}
use Rattle.rz_stmt_brackets.specs.Statements.{is_empty}
use Rattle.rz_stmt_brackets.specs.declared.bracket.Bracket.TheVariants.{Curly, Round}
use Rattle.rz_stmt_brackets.specs.declared.pieces.Divider.TheVariants.{Colon}
use Rattle.rz_expr.specs.Term.{Term}
use Rattle.rz_words.specs.declared.keyword.Keyword.TheVariants.{As, Kind}
use Rattle.rz_lex.specs.declared.token.Token.{Token}
use Rattle.rz_stmt_data.proofs.InFront.{one_typed}
use Rattle.rz_stmt_data.specs.Typed.{Typed}
use Rattle.rz_stmt_type.specs.Body.{IsBody}
use Rattle.rz_stmt_type.specs.Declare.{AreIds, IsDeclare, IsMade, IsScope, IsScoped}
use Rattle.rz_stmt_type.specs.DeclareSteps.{AreFieldsMade, AreForAny, AreForIds, AreScoped, IsCopy, IsCopyId, IsCopyIdBy, IsGivenId}
use Rattle.rz_expr.specs.Constant.{IsConstant}
use Rattle.rz_stmt_fields.specs.Form.{Any, BodyForm, CopyOf, DeclareForm, Fields, MadeForm, One, ScopeForm, Two}
use Rattle.rz_stmt_type.proofs.MadeSo.{any_back, copy_back, fields_back, ids_back}
use Rattle.rz_stmt_type.proofs.OneBody.{one_body}
use Rattle.rz_stmt_fields.proofs.OneTerm.{OneCut, OneWithin}
use Rattle.rz_stmt_fields.proofs.OneValue.{one_constant}

abbrev pair_any : MadeForm → ScopeForm × MadeForm
pair_any made = (Any, made)

module _ (one : OneExpression) (cut : OneCut) (within : OneWithin) where
  one_ids : (pieces : List (List Token)) (a b : ScopeForm) → AreIds pieces a → AreIds pieces b → a ≡ b
  one_ids [] a b is also = absurd is
  one_ids (id ∷ []) a b is also = is.2 ∙ ap (λ (t : Term). One t) (one_constant one id is.0 also.0 is.1 also.1) ∙ sym also.2
  one_ids (first ∷ last ∷ []) a b is also =
      is.4 ∙ (λ i. Two (one_constant one first is.0 also.0 is.2 also.2 i) (one_constant one last is.1 also.1 is.3 also.3 i)) ∙ sym also.4
  one_ids (first ∷ last ∷ other ∷ others) a b is also = absurd is

  one_scope : (tokens : List Token) (a b : ScopeForm) → IsScope tokens a → IsScope tokens b → a ≡ b
  one_scope tokens a b is also =
      one_ids also.0 a b (subst (λ (ps : List (List Token)). AreIds ps a) (cut Colon tokens is.0 also.0 is.1 also.1) is.2) also.2

  fields_made : (tokens : List Token) (a b : MadeForm) → AreFieldsMade tokens a → AreFieldsMade tokens b → a ≡ b
  fields_made tokens a b is also =
      let parted = within Curly tokens is.0 also.0 is.2 also.2 in
      let body = one_body one cut within false also.0.front is.1 also.1 (subst (λ (p : Parted). IsBody false p.front is.1) parted is.4) also.4 in
      is.5 ∙ ap (λ (fields : BodyForm). Fields fields) body ∙ sym also.5

  given_id : (tokens : List Token) (a b : Option Term) → IsGivenId tokens a → IsGivenId tokens b → a ≡ b
  given_id tokens a b is also =
      let parted = within Round tokens is.0 also.0 is.2 also.2 in
      let term = one_constant one also.0.front is.1 also.1 (subst (λ (p : Parted). IsConstant p.front is.1) parted is.4) also.4 in
      is.5 ∙ ap (λ (t : Term). Some t) term ∙ sym also.5

  copy_id_by : (empty : Bool) (tokens : List Token) (a b : Option Term) → IsCopyIdBy empty tokens a → IsCopyIdBy empty tokens b → a ≡ b
  copy_id_by true tokens a b is also = is ∙ sym also
  copy_id_by false tokens a b is also = given_id tokens a b is also

  one_copy : (tokens : List Token) (a b : MadeForm) → IsCopy tokens a → IsCopy tokens b → a ≡ b
  one_copy tokens a b is also =
      let same = one_typed As tokens _ _ is.typed also.typed in
      let id : is.id ≡ also.id = copy_id_by (is_empty also.behind) also.behind is.id also.id (subst (λ (t : Typed). IsCopyId t.behind is.id) same is.has_id) also.has_id in
      is.made_so ∙ (λ i. CopyOf (same i).kind (id i)) ∙ sym also.made_so

  one_made : (tokens : List Token) (a b : MadeForm) → IsMade tokens a → IsMade tokens b → a ≡ b
  one_made tokens a b is also = by (begins Curly tokens) refl
    where
      by : (curly : Bool) → begins Curly tokens ≡ curly → a ≡ b
      by true begin = fields_made tokens a b (fields_back tokens begin a is) (fields_back tokens begin b also)
      by false begin = one_copy tokens a b (copy_back tokens begin a is) (copy_back tokens begin b also)

  for_any_id : (tokens : List Token) (a b : ScopeForm × MadeForm) → AreForAny tokens a → AreForAny tokens b → a ≡ b
  for_any_id tokens a b is also = is.2 ∙ ap pair_any (one_made tokens is.0 also.0 is.1 also.1) ∙ sym also.2

  for_these_ids : (tokens : List Token) (a b : ScopeForm × MadeForm) → AreForIds tokens a → AreForIds tokens b → a ≡ b
  for_these_ids tokens a b is also =
      let parted = within Round tokens is.0 also.0 is.3 also.3 in
      let scope = one_scope also.0.front is.1 also.1 (subst (λ (p : Parted). IsScope p.front is.1) parted is.4) also.4 in
      let made = one_made also.0.behind is.2 also.2 (subst (λ (p : Parted). IsMade p.behind is.2) parted is.5) also.5 in
      is.6 ∙ (λ i. (scope i, made i)) ∙ sym also.6

  one_scoped : (tokens : List Token) (a b : ScopeForm × MadeForm) → AreScoped tokens a → AreScoped tokens b → a ≡ b
  one_scoped tokens a b is also = by (begins Round tokens) refl
    where
      by : (round : Bool) → begins Round tokens ≡ round → a ≡ b
      by true begin = for_these_ids tokens a b (ids_back tokens begin a is) (ids_back tokens begin b also)
      by false begin = for_any_id tokens a b (any_back tokens begin a is) (any_back tokens begin b also)

  pub one_type_statement : (tokens : List Token) (a b : DeclareForm) → IsDeclare tokens a → IsDeclare tokens b → a ≡ b
  one_type_statement tokens a b is also =
      let same = one_typed Kind tokens _ _ is.typed also.typed in
      let parts = one_scoped also.behind (a.scope, a.made) (b.scope, b.made) (subst (λ (t : Typed). IsScoped t.behind a.scope a.made) same is.scoped) also.scoped in
      λ i. record { kind = (same i).kind; scope = (parts i).0; made = (parts i).1 }
