-- Pieces are one head at most.
use Rattle.std.proofs.Common.{◌≡◌, Bool, true, false, List, [], ◌∷◌, Option, Some, None, sym, ap, ◌∙◌}
use Rattle.rz_expr.proofs.OneTerm.{OneExpression}
use Rattle.rz_lex.specs.declared.token.Token.{Token}
use Rattle.rz_types_fields.specs.Text.{PlainPart}
use Rattle.rz_stmt_data.proofs.OneText.{one_parts}
use Rattle.rz_stmt_data.specs.Head.{word_attribute, AreAttributesFor, Attribute, Head, IsAttributeBy, IsAttributeFor, IsHead, IsHeadFor, IsRestBy, IsRestFor, Value}
use Rattle.rz_stmt_data.specs.Texts.{begins_text}
use Rattle.rz_stmt_data.specs.declared.head.Subject.{Subject}
use Rattle.rz_stmt_data.specs.declared.head.Subject.TheVariants.{New}

module _ (one : OneExpression) where
  module _ (subject : Subject) where
    by_word : (found : Option Attribute) (piece : List Token) (a b : Attribute) → IsAttributeBy subject found piece a → IsAttributeBy subject found piece b → a ≡ b
    by_word (Some found) piece a b is also = is ∙ sym also
    by_word None piece a b is also = is.2 ∙ ap Value (one piece is.0 also.0 is.1.0 also.1.0) ∙ sym also.2

    pub one_attribute : (piece : List Token) (a b : Attribute) → IsAttributeFor subject piece a → IsAttributeFor subject piece b → a ≡ b
    one_attribute piece a b is also = by_word (word_attribute piece) piece a b is also

    one_attributes : (pieces : List (List Token)) (a b : List Attribute) → AreAttributesFor subject pieces a → AreAttributesFor subject pieces b → a ≡ b
    one_attributes [] a b is also = is ∙ sym also
    one_attributes (piece ∷ pieces) a b is also =
        is.4
        ∙ (λ i. one_attribute piece is.0 also.0 is.2 also.2 i ∷ one_attributes pieces is.1 also.1 is.3 also.3 i)
        ∙ sym also.4

    rest_by : (begins : Bool) (piece : List Token) (pieces : List (List Token)) (name other : Option (List PlainPart)) (a b : List Attribute)
        → IsRestBy subject begins piece pieces name a → IsRestBy subject begins piece pieces other b → (name ≡ other) × (a ≡ b)
    rest_by true piece pieces name other a b is also =
        (is.3 ∙ ap (λ (parts : List PlainPart). Some parts) (one_parts one piece is.0 also.0 is.1.are also.1.are) ∙ sym also.3, one_attributes pieces a b is.2 also.2)
    rest_by false piece pieces name other a b is also = (is.0 ∙ sym also.0, one_attributes (piece ∷ pieces) a b is.1 also.1)

    one_rest : (pieces : List (List Token)) (name other : Option (List PlainPart)) (a b : List Attribute)
        → IsRestFor subject pieces name a → IsRestFor subject pieces other b → (name ≡ other) × (a ≡ b)
    one_rest [] name other a b is also = (is.0 ∙ sym also.0, is.1 ∙ sym also.1)
    one_rest (piece ∷ pieces) name other a b is also = rest_by (begins_text piece) piece pieces name other a b is also

    pub one_head_for : (pieces : List (List Token)) (a b : Head) → IsHeadFor subject pieces a → IsHeadFor subject pieces b → a ≡ b
    one_head_for [] a b is also = absurd is
    one_head_for (first ∷ others) a b is also =
        let rest = one_rest others a.name b.name a.attributes b.attributes is.1 also.1 in
        λ i. record { id = one first a.id b.id is.0.0 also.0.0 i; name = rest.0 i; attributes = rest.1 i }

  pub one_head : (pieces : List (List Token)) (a b : Head) → IsHead pieces a → IsHead pieces b → a ≡ b
  one_head = one_head_for New
