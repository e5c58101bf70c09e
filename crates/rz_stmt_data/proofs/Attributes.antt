-- Attributes, one more at a time.
use Rattle.std.proofs.Common.{◌≡◌, List, [], ◌∷◌, ◌++◌, refl, sym, ap, subst, ◌∙◌, append_assoc}
use Rattle.std.proofs.lemmas.List.{append-nil}
use Rattle.rz_lex.specs.declared.token.Token.{Token}
use Rattle.rz_stmt_data.specs.Head.{AreAttributesFor, Attribute, IsAttributeFor}
use Rattle.rz_stmt_data.specs.declared.head.Subject.{Subject}

-- whatever the rest is, all are so, and the other way round
pub record Leads (subject : Subject) (all rest : List (List Token)) (so_far : List Attribute) : Type 0 where
  pub forth : (more : List Attribute) → AreAttributesFor subject rest more → AreAttributesFor subject all (so_far ++ more)
  pub back : (attributes : List Attribute) → AreAttributesFor subject all attributes → (more : List Attribute) × AreAttributesFor subject rest more × (attributes ≡ so_far ++ more)

pub leads_first : (subject : Subject) (all : List (List Token)) → Leads subject all all []
leads_first subject all = record { forth = λ more are. are; back = λ attributes are. (attributes, are, refl) }

module _ (subject : Subject) (one : (piece : List Token) (a b : Attribute) → IsAttributeFor subject piece a → IsAttributeFor subject piece b → a ≡ b)
    (all rest behind : List (List Token)) (so_far : List Attribute) (piece : List Token) (leads : Leads subject all rest so_far) (are : rest ≡ piece ∷ behind) where
  pub leads_more : (attribute : Attribute) (after : List Attribute) → IsAttributeFor subject piece attribute → after ≡ so_far ++ attribute ∷ [] → Leads subject all behind after
  leads_more attribute after is pushed = subst (Leads subject all behind) (sym pushed) (record {
    forth = λ more are_more. subst (AreAttributesFor subject all) (sym (append_assoc so_far (attribute ∷ []) more))
        (leads.forth (attribute ∷ more) (subst (λ (ps : List (List Token)). AreAttributesFor subject ps (attribute ∷ more)) (sym are) (attribute, more, is, are_more, refl)));
    back = λ attributes are_all. back attributes (leads.back attributes are_all);
  })
    where
      back : (attributes : List Attribute) → (more : List Attribute) × AreAttributesFor subject rest more × (attributes ≡ so_far ++ more)
          → (more : List Attribute) × AreAttributesFor subject behind more × (attributes ≡ (so_far ++ attribute ∷ []) ++ more)
      back attributes found =
          let split = subst (λ (ps : List (List Token)). AreAttributesFor subject ps found.0) are found.1 in
          let same = one piece split.0 attribute split.2 is in (
            split.1,
            split.3,
            found.2
                ∙ ap (λ (l : List Attribute). so_far ++ l) (split.4 ∙ ap (λ (a : Attribute). a ∷ split.1) same)
                ∙ sym (append_assoc so_far (attribute ∷ []) split.1),
          )

  pub leads_nowhere : ((attribute : Attribute) → IsAttributeFor subject piece attribute → ⊥) → (attributes : List Attribute) → AreAttributesFor subject all attributes → ⊥
  leads_nowhere never attributes are_all =
      let found = leads.back attributes are_all in
      let split = subst (λ (ps : List (List Token)). AreAttributesFor subject ps found.0) are found.1 in
      never split.0 split.2

pub leads_all : (subject : Subject) (all rest : List (List Token)) (so_far : List Attribute) → Leads subject all rest so_far → rest ≡ [] → AreAttributesFor subject all so_far
leads_all subject all rest so_far leads none =
    subst (AreAttributesFor subject all) (append-nil so_far) (leads.forth [] (subst (λ (ps : List (List Token)). AreAttributesFor subject ps []) (sym none) refl))
