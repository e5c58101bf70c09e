-- Fields with no fields of their own are formed as they should be.
use Rattle.std.proofs.Common.{◌≡◌, ◌≢◌, ◌&&◌, Bool, true, false, List, [], ◌∷◌, Option, Some, None, refl, sym, subst}
use Rattle.rz_stmt_brackets.specs.Bracket.{begins}
use Rattle.rz_stmt_brackets.specs.declared.bracket.Bracket.TheVariants.{Square}
use Rattle.rz_stmt_type.specs.Flat.{IsFixed, IsFlat, IsFlatBy, IsTextBy}
use Rattle.rz_types_fields.specs.Field.{PlainText}
use Rattle.rz_types_fields.specs.Place.{may_stand}
use Rattle.rz_types_fields.specs.Shape.{is_fixed_text, is_none_or, is_text_shaped}
use Rattle.rz_types_fields.specs.Text.{PlainPart}
use Rattle.rz_types_fields.specs.declared.field.TextForm.{TextForm}
use Rattle.rz_types_fields.specs.declared.place.TextPlace.TheVariants.{Fixed}
use Rattle.rz_stmt_fields.proofs.ShapedField.{field_formed, tail_lexed, IsFieldFormed}
use Rattle.rz_stmt_fields.specs.FieldWord.{text_form, FieldFront}
use Rattle.rz_stmt_fields.specs.Form.{FieldForm}
use Rattle.rz_lex.specs.Lexeme.{AreLexed}
use Rattle.rz_lex.specs.declared.token.Token.{Token}

text_shaped : (parts : List PlainPart) → parts ≢ [] → may_stand Fixed parts ≡ true → is_fixed_text parts ≡ true
text_shaped [] some may = absurd (some refl)
text_shaped (part ∷ parts) some may = may

fixed_shaped : (tokens : List Token) (fixed : Option (List PlainPart)) → IsFixed tokens fixed → is_none_or is_fixed_text fixed ≡ true
fixed_shaped [] fixed is = subst (λ (o : Option (List PlainPart)). is_none_or is_fixed_text o ≡ true) (sym is) refl
fixed_shaped (token ∷ tokens) fixed is =
    subst (λ (o : Option (List PlainPart)). is_none_or is_fixed_text o ≡ true) (sym is.3) (text_shaped is.0 is.2.some is.2.may)

text_by : (sized hex : Bool) (form : TextForm) (tokens : List Token) (text : PlainText) → IsTextBy sized hex form tokens text → is_text_shaped text ≡ true
text_by true hex form tokens text is =
    subst (λ (t : PlainText). is_text_shaped t ≡ true) (sym is.6)
    (λ i. is.4.1 i && fixed_shaped is.0.behind is.2 is.5 i)
text_by false hex form tokens text is =
    subst (λ (t : PlainText). is_text_shaped t ≡ true) (sym is.2) (λ i. true && fixed_shaped tokens is.0 is.1 i)

module _ (in_case : Bool) where
  flat_by : (form : Option TextForm) (front : FieldFront) (field : FieldForm) → IsFlatBy form front field → AreLexed front.tail → IsFieldFormed in_case field
  flat_by (Some form) front field is are = subst (IsFieldFormed in_case) (sym is.4) (text_by (begins Square front.tail) is.0 form front.tail is.1 is.3)
  flat_by None front field is are = field_formed in_case front field is are

  pub flat_formed : (tokens : List Token) (field : FieldForm) → IsFlat tokens field → AreLexed tokens → IsFieldFormed in_case field
  flat_formed tokens field is are = flat_by (text_form is.0.word) is.0 field is.2 (tail_lexed tokens is.0 is.1 are)
