-- The cases of a switch, one more at a time.
use Rattle.std.proofs.Common.{◌≡◌, List, [], ◌∷◌, ◌++◌, Some, refl, sym, ap, subst, ◌∙◌}
use Rattle.rz_stmt_brackets.specs.Pieces.{AreCut}
use Rattle.rz_stmt_brackets.specs.declared.pieces.Divider.TheVariants.{Case}
use Rattle.rz_lex.specs.declared.token.Token.{Token}
use Rattle.rz_stmt_type.specs.Body.{case_more, cut_cases, no_case, AreCases, AreEachCase, IsCase}
use Rattle.rz_stmt_fields.specs.Form.{case_and, cases_of, no_cases, CaseForm, CasesForm}
use Rattle.rz_stmt_type.specs.Head.{behind_empty}
use Rattle.rz_core.proofs.SoFar.{before}
use Rattle.rz_stmt_fields.proofs.Each.{leads_all, leads_first, leads_more, Leads}

abbrev with_case : CaseForm → CasesForm → CasesForm
with_case one cases = case_and one.name one.row cases

abbrev pub CaseLeads : List (List Token) → List (List Token) → List CaseForm → Type 0
CaseLeads all rest so_far = Leads no_cases with_case AreEachCase all rest so_far

pub cases_first : (all : List (List Token)) → CaseLeads all all []
cases_first all = leads_first no_cases with_case AreEachCase all

pub case_split : (piece : List Token) (pieces : List (List Token)) (cases : CasesForm) → AreEachCase (piece ∷ pieces) cases
    → (one : CaseForm) × (others : CasesForm) × IsCase piece one × AreEachCase pieces others
case_split piece pieces cases (case_more own rest front row others begins is are) =
    (record { name = front.name; row = row }, others, (front, row, begins, is, refl), are)

module _ (all rest behind : List (List Token)) (so_far : List CaseForm) (piece : List Token) (leads : CaseLeads all rest so_far) (are : rest ≡ piece ∷ behind) where
  pub one_case_more : (one : CaseForm) (after : List CaseForm) → IsCase piece one → after ≡ so_far ++ one ∷ [] → CaseLeads all behind after
  one_case_more one after is pushed =
      leads_more no_cases with_case AreEachCase all rest behind so_far leads
      (λ cases so. let split = case_split piece behind cases (subst (λ (ps : List (List Token)). AreEachCase ps cases) are so) in (split.1, split.3))
      one
      (λ cases so. subst (λ (ps : List (List Token)). AreEachCase ps (with_case one cases)) (sym are)
      (subst (λ (o : CaseForm). AreEachCase (piece ∷ behind) (with_case o cases)) (sym is.4) (case_more piece behind is.0 is.1 cases is.2 is.3 so)))
      after pushed

  pub case_nowhere : ((one : CaseForm) → IsCase piece one → ⊥) → (cases : CasesForm) → AreEachCase all cases → ⊥
  case_nowhere never cases is =
      let found = leads.back cases is in
      let split = case_split piece behind found.0 (subst (λ (ps : List (List Token)). AreEachCase ps found.0) are found.1) in
      never split.0 split.2

pub cases_all : (all rest : List (List Token)) (so_far : List CaseForm) → CaseLeads all rest so_far → rest ≡ [] → AreEachCase all (cases_of so_far)
cases_all all rest so_far leads done =
    leads_all no_cases with_case AreEachCase all rest so_far leads (subst (λ (ps : List (List Token)). AreEachCase ps no_cases) (sym done) no_case) (cases_of so_far)
    (same so_far)
  where
    same : (cases : List CaseForm) → before with_case cases no_cases ≡ cases_of cases
    same [] = refl
    same (one ∷ cases) = ap (with_case one) (same cases)

-- The first piece is empty.

pub first_empty : (pieces others : List (List Token)) → behind_empty pieces ≡ Some others → pieces ≡ [] ∷ others
first_empty [] others is = cc
first_empty ([] ∷ pieces) others is = cc
first_empty ((token ∷ tokens) ∷ pieces) others is = cc

module _ (tokens : List Token) (pieces : List (List Token)) (every : (others : List (List Token)) → AreCut Case tokens others → pieces ≡ others) where
  -- no switch has a piece that is no case
  pub no_cases_here : (others : List (List Token)) → behind_empty pieces ≡ Some others → ((cases : CasesForm) → AreEachCase others cases → ⊥)
      → (cases : CasesForm) → AreCases tokens cases → ⊥
  no_cases_here others behind never cases (cut_cases all rest own is are) =
      never cases (subst (λ (ps : List (List Token)). AreEachCase ps cases) (same (sym (every ([] ∷ rest) is) ∙ first_empty pieces others behind)) are)
    where
      same : ◌≡◌ {A = List (List Token)} ([] ∷ rest) ([] ∷ others) → rest ≡ others
      same e = cc e
