-- What chosen resources become is one thing at most.
use Rattle.std.proofs.Common.{◌≡◌, List, Option, Some, None, sym, ap, subst, ◌∙◌}
use Rattle.rz_stmt_brackets.proofs.OneCut.{one_cut}
use Rattle.rz_stmt_brackets.specs.declared.pieces.Divider.TheVariants.{Comma}
use Rattle.rz_stmt_data.proofs.OneHead.{one_head_for}
use Rattle.rz_stmt_data.specs.Head.{Head, IsHeadFor}
use Rattle.rz_stmt_data.specs.declared.head.Subject.{Subject}
use Rattle.rz_stmt_data.specs.declared.head.Subject.TheVariants.{Chosen}
use Rattle.rz_expr.proofs.OneTerm.{OneExpression}
use Rattle.rz_words.specs.declared.keyword.Keyword.{Keyword}
use Rattle.rz_lex.specs.declared.token.Token.{Token}
use Rattle.rz_stmt_lists.proofs.Clauses.{one_clause}
use Rattle.rz_stmt_lists.specs.Clause.{Clause}
use Rattle.rz_stmt_lists.specs.Pick.{Pick}
use Rattle.rz_stmt_lists.specs.Renaming.{IsHeadIn, IsNewHead, IsRenaming, Renaming}

module _ (one : OneExpression) where
  pub one_head_in : (subject : Subject) (tokens : List Token) (a b : Head) → IsHeadIn subject tokens a → IsHeadIn subject tokens b → a ≡ b
  one_head_in subject tokens a b is also =
      one_head_for one subject also.0 a b (subst (λ (ps : List (List Token)). IsHeadFor subject ps a) (one_cut Comma tokens is.0 also.0 is.1 also.1) is.2) also.2

  one_new_head : (pick : Pick) (inside : Option (List Token)) (a b : Option Head) → IsNewHead pick inside a → IsNewHead pick inside b → a ≡ b
  one_new_head pick None a b is also = is ∙ sym also
  one_new_head pick (Some tokens) a b is also = is.3 ∙ ap (λ (head : Head). Some head) (one_head_in Chosen tokens is.1 also.1 is.2 also.2) ∙ sym also.3

  pub one_renaming : (keyword : Keyword) (pick : Pick) (tokens : List Token) (a b : Renaming) → IsRenaming keyword pick tokens a → IsRenaming keyword pick tokens b → a ≡ b
  one_renaming keyword pick tokens a b is also =
      let same = one_clause keyword tokens _ _ is.clause also.clause in
      let head = one_new_head pick also.inside a.head b.head (subst (λ (c : Clause). IsNewHead pick c.inside a.head) same is.has_head) also.has_head in
      λ i. record { kind = (same i).kind; head = head i }

-- no head stands there
pub no_new_head : (pick : Pick) (inside : Option (List Token)) (tokens : List Token) → inside ≡ Some tokens → ((head : Head) → IsHeadIn Chosen tokens head → ⊥)
    → (head : Option Head) → IsNewHead pick inside head → ⊥
no_new_head pick inside tokens same never head is = let it = subst (λ (o : Option (List Token)). IsNewHead pick o head) same is in never it.1 it.2
