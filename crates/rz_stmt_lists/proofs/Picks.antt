-- Picks are one at most.
use Rattle.std.proofs.Common.{◌≡◌, Bool, true, false, List, [], ◌∷◌, Option, Some, None, sym, ap, subst, ◌∙◌}
use Rattle.rz_stmt_brackets.proofs.OneCut.{one_cut}
use Rattle.rz_stmt_brackets.specs.declared.pieces.Divider.TheVariants.{Colon}
use Rattle.rz_stmt_data.proofs.OneText.{one_parts}
use Rattle.rz_stmt_data.specs.Texts.{begins_text}
use Rattle.rz_expr.proofs.OneTerm.{OneExpression}
use Rattle.rz_expr.specs.Term.{Term}
use Rattle.rz_types_fields.specs.Text.{PlainPart}
use Rattle.rz_lex.specs.declared.token.Token.{Token}
use Rattle.rz_stmt_lists.specs.Pick.{AreIds, Id, IsPickBy, IsPicked, Name, Pick, Range}

module _ (one : OneExpression) where
  are_ids : (pieces : List (List Token)) (a b : Pick) → AreIds pieces a → AreIds pieces b → a ≡ b
  are_ids [] a b is also = absurd is
  are_ids (id ∷ []) a b is also = is.2 ∙ ap (λ (t : Term). Id t) (one id is.0 also.0 is.1.0 also.1.0) ∙ sym also.2
  are_ids (first ∷ last ∷ []) a b is also =
      is.4 ∙ (λ i. Range (one first is.0 also.0 is.2.0 also.2.0 i) (one last is.1 also.1 is.3.0 also.3.0 i)) ∙ sym also.4
  are_ids (first ∷ last ∷ other ∷ others) a b is also = absurd is

  pick_by : (begins : Bool) (tokens : List Token) (a b : Pick) → IsPickBy begins tokens a → IsPickBy begins tokens b → a ≡ b
  pick_by true tokens a b is also =
      is.2 ∙ ap (λ (parts : List PlainPart). Name parts) (one_parts one tokens is.0 also.0 is.1.are also.1.are) ∙ sym also.2
  pick_by false tokens a b is also = are_ids also.0 a b (subst (λ (ps : List (List Token)). AreIds ps a) (one_cut Colon tokens is.0 also.0 is.1 also.1) is.2) also.2

  pub one_pick : (inside : Option (List Token)) (a b : Pick) → IsPicked inside a → IsPicked inside b → a ≡ b
  one_pick None a b is also = is ∙ sym also
  one_pick (Some tokens) a b is also = pick_by (begins_text tokens) tokens a b is also
