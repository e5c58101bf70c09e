-- Of all pieces it is decided which head they are.
use Rattle.std.proofs.Common.{◌≡◌, Bool, true, false, List, [], ◌∷◌, Option, Some, None, refl}
use Rattle.std.proofs.Math.Decide.{map_dec}
use Rattle.rz_core.proofs.EveryCut.{answer_of, both, is_true, known_of, known_with}
use Rattle.rz_core.specs.Decided.{Decided}
use Rattle.rz_expr.proofs.OneTerm.{OneExpression}
use Rattle.rz_expr.specs.Grammar.{IsExpression}
use Rattle.rz_expr.specs.Term.{Term}
use Rattle.rz_lex.specs.declared.token.Token.{Token}
use Rattle.rz_stmt_brackets.specs.Bracket.{IsBracketed}
use Rattle.rz_stmt_brackets.specs.Pieces.{Parted}
use Rattle.rz_stmt_brackets.specs.declared.bracket.Bracket.{Bracket}
use Rattle.rz_types_fields.specs.Place.{may_say}
use Rattle.rz_types_fields.specs.Text.{PlainPart}
use Rattle.rz_stmt_data.proofs.EveryText.{is_text}
use Rattle.rz_stmt_data.specs.Head.{place_of, word_attribute, AreAttributesFor, Attribute, Head, IsAttributeBy, IsAttributeFor, IsHeadFor, IsRestBy, IsRestFor, IsSaidFor, Value}
use Rattle.rz_stmt_data.specs.Texts.{begins_text, IsText}
use Rattle.rz_stmt_data.specs.declared.head.Subject.{Subject}

module _ (one : OneExpression) (expression : (tokens : List Token) → (answer : Option Term) × Decided (IsExpression tokens) answer)
    (within : (bracket : Bracket) (tokens : List Token) → (answer : Option Parted) × Decided (IsBracketed bracket tokens) answer) where
  module _ (subject : Subject) where
    is_said : (tokens : List Token) → Dec ((term : Term) × IsSaidFor subject tokens term)
    is_said tokens =
        map_dec to from (known_with (IsExpression tokens) (λ term. may_say (place_of subject) term ≡ true) (one tokens)
        (known_of (IsExpression tokens) (expression tokens)) (λ term is. is_true (may_say (place_of subject) term)))
      where
        to : (term : Term) × IsExpression tokens term × (may_say (place_of subject) term ≡ true) → (term : Term) × IsSaidFor subject tokens term
        to h = (h.0, (h.1, h.2))

        from : (term : Term) × IsSaidFor subject tokens term → (term : Term) × IsExpression tokens term × (may_say (place_of subject) term ≡ true)
        from h = (h.0, h.1.0, h.1.1)

    abbrev HasAttributes : List (List Token) → Type 0
    HasAttributes pieces = (attributes : List Attribute) × AreAttributesFor subject pieces attributes

    by_word : (found : Option Attribute) (piece : List Token) → Dec ((attribute : Attribute) × IsAttributeBy subject found piece attribute)
    by_word (Some found) piece = yes (found, refl)
    by_word None piece = map_dec to from (is_said piece)
      where
        to : (term : Term) × IsSaidFor subject piece term → (attribute : Attribute) × IsAttributeBy subject None piece attribute
        to said = (Value said.0, (said.0, said.1, refl))

        from : (attribute : Attribute) × IsAttributeBy subject None piece attribute → (term : Term) × IsSaidFor subject piece term
        from h = (h.1.0, h.1.1)

    are_attributes : (pieces : List (List Token)) → Dec (HasAttributes pieces)
    are_attributes [] = yes ([], refl)
    are_attributes (piece ∷ pieces) = map_dec to from (both (by_word (word_attribute piece) piece) (are_attributes pieces))
      where
        to : ((attribute : Attribute) × IsAttributeFor subject piece attribute) × HasAttributes pieces → HasAttributes (piece ∷ pieces)
        to (first, others) = (first.0 ∷ others.0, (first.0, others.0, first.1, others.1, refl))

        from : HasAttributes (piece ∷ pieces) → ((attribute : Attribute) × IsAttributeFor subject piece attribute) × HasAttributes pieces
        from h = ((h.1.0, h.1.2), (h.1.1, h.1.3))

    abbrev HasRestBy : Bool → List Token → List (List Token) → Type 0
    HasRestBy begins piece pieces = (name : Option (List PlainPart)) × (attributes : List Attribute) × IsRestBy subject begins piece pieces name attributes

    rest_by : (begins : Bool) (piece : List Token) (pieces : List (List Token)) → Dec (HasRestBy begins piece pieces)
    rest_by true piece pieces = map_dec to from (both (is_text expression within one (place_of subject) piece) (are_attributes pieces))
      where
        to : ((parts : List PlainPart) × IsText (place_of subject) piece parts) × HasAttributes pieces → HasRestBy true piece pieces
        to (text, others) = (Some text.0, others.0, (text.0, text.1, others.1, refl))

        from : HasRestBy true piece pieces → ((parts : List PlainPart) × IsText (place_of subject) piece parts) × HasAttributes pieces
        from h = ((h.2.0, h.2.1), (h.1, h.2.2))
    rest_by false piece pieces = map_dec to from (are_attributes (piece ∷ pieces))
      where
        to : HasAttributes (piece ∷ pieces) → HasRestBy false piece pieces
        to all = (None, all.0, (refl, all.1))

        from : HasRestBy false piece pieces → HasAttributes (piece ∷ pieces)
        from h = (h.1, h.2.1)

    abbrev HasRest : List (List Token) → Type 0
    HasRest pieces = (name : Option (List PlainPart)) × (attributes : List Attribute) × IsRestFor subject pieces name attributes

    is_rest : (pieces : List (List Token)) → Dec (HasRest pieces)
    is_rest [] = yes (None, [], (refl, refl))
    is_rest (piece ∷ pieces) = rest_by (begins_text piece) piece pieces

    pub is_head_for : (pieces : List (List Token)) → Dec ((head : Head) × IsHeadFor subject pieces head)
    is_head_for [] = no (λ h. h.1)
    is_head_for (first ∷ others) = map_dec to from (both (is_said first) (is_rest others))
      where
        to : ((term : Term) × IsSaidFor subject first term) × HasRest others → (head : Head) × IsHeadFor subject (first ∷ others) head
        to (id, rest) = (record { id = id.0; name = rest.0; attributes = rest.1 }, (id.1, rest.2))

        from : (head : Head) × IsHeadFor subject (first ∷ others) head → ((term : Term) × IsSaidFor subject first term) × HasRest others
        from h = ((h.0.id, h.1.0), (h.0.name, h.0.attributes, h.1.1))

  pub every_head_for : (subject : Subject) (pieces : List (List Token)) → (answer : Option Head) × Decided (IsHeadFor subject pieces) answer
  every_head_for subject pieces = answer_of (IsHeadFor subject pieces) (is_head_for subject pieces)
