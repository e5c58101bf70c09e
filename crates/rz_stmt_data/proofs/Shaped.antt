-- What can't be the head of a statement.
use Rattle.std.proofs.Common.{◌≡◌, Bool, false, List, ◌∷◌, Option, sym, subst}
use Rattle.rz_types_fields.specs.Text.{PlainPart}
use Rattle.rz_lex.specs.declared.token.Token.{Token}
use Rattle.rz_stmt_data.specs.Head.{AreAttributesFor, Attribute, Head, IsHeadFor, IsRestBy, IsRestOf}
use Rattle.rz_stmt_data.specs.Texts.{begins_text}
use Rattle.rz_stmt_data.specs.declared.head.Subject.{Subject}

module _ (subject : Subject) (pieces others : List (List Token)) (first : List Token) (are : pieces ≡ first ∷ others) where
  -- what stands after the id, by whether a text begins there
  pub rest_forth : (begins : Bool) → begins_text first ≡ begins → (rest : Option (List PlainPart) × List Attribute)
      → IsRestBy subject begins first others rest.0 rest.1 → IsRestOf subject pieces rest
  rest_forth begins on rest is =
      subst (λ (ps : List (List Token)). IsRestOf subject ps rest) (sym are) (subst (λ (b : Bool). IsRestBy subject b first others rest.0 rest.1) (sym on) is)

  pub rest_back : (begins : Bool) → begins_text first ≡ begins → (rest : Option (List PlainPart) × List Attribute)
      → IsRestOf subject pieces rest → IsRestBy subject begins first others rest.0 rest.1
  rest_back begins on rest is =
      subst (λ (b : Bool). IsRestBy subject b first others rest.0 rest.1) on (subst (λ (ps : List (List Token)). IsRestOf subject ps rest) are is)

  pub no_rest : begins_text first ≡ false → ((attributes : List Attribute) → AreAttributesFor subject pieces attributes → ⊥)
      → (rest : Option (List PlainPart) × List Attribute) → IsRestOf subject pieces rest → ⊥
  no_rest off never rest is =
      let split = rest_back false off rest is in
      never rest.1 (subst (λ (ps : List (List Token)). AreAttributesFor subject ps rest.1) (sym are) split.1)

  pub no_head : ((rest : Option (List PlainPart) × List Attribute) → IsRestOf subject others rest → ⊥) → (head : Head) → IsHeadFor subject pieces head → ⊥
  no_head never head is =
      let split = subst (λ (ps : List (List Token)). IsHeadFor subject ps head) are is in
      never (head.name, head.attributes) split.1
