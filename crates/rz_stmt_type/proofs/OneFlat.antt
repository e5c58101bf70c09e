-- Fields with no fields of their own are one at most.
use Rattle.std.proofs.Common.{◌≡◌, Bool, true, false, List, [], ◌∷◌, Option, Some, None, sym, ap, subst, ◌∙◌}
use Rattle.rz_core.proofs.Tests.{same_some}
use Rattle.rz_stmt_brackets.specs.Bracket.{begins}
use Rattle.rz_stmt_brackets.specs.Pieces.{Parted}
use Rattle.rz_stmt_brackets.specs.declared.bracket.Bracket.TheVariants.{Square}
use Rattle.rz_stmt_data.proofs.OneText.{one_parts}
use Rattle.rz_stmt_type.specs.Flat.{IsFixed, IsFlat, IsFlatBy, IsFlatFront, IsSized, IsText, IsTextBy, IsTextField, IsUnsized}
use Rattle.rz_expr.proofs.OneTerm.{OneExpression}
use Rattle.rz_types_fields.specs.Field.{PlainText}
use Rattle.rz_types_fields.specs.Text.{PlainPart}
use Rattle.rz_types_fields.specs.declared.field.TextForm.{TextForm}
use Rattle.rz_stmt_fields.proofs.Fronts.{fronts}
use Rattle.rz_stmt_fields.proofs.OneField.{one_front}
use Rattle.rz_stmt_fields.proofs.OneTerm.{OneCut, OneWithin}
use Rattle.rz_stmt_fields.proofs.OneValue.{one_size_expression}
use Rattle.rz_stmt_fields.specs.FieldValue.{IsSizeExpression}
use Rattle.rz_stmt_fields.specs.FieldWord.{front_in, hex_of, text_form, FieldFront}
use Rattle.rz_stmt_fields.specs.Form.{FieldForm, Text}
use Rattle.rz_lex.specs.declared.token.Token.{Token}

module _ (one : OneExpression) (cut : OneCut) (within : OneWithin) where
  one_fixed : (tokens : List Token) (a b : Option (List PlainPart)) → IsFixed tokens a → IsFixed tokens b → a ≡ b
  one_fixed [] a b is also = is ∙ sym also
  one_fixed (token ∷ tokens) a b is also =
      is.3 ∙ ap (λ (parts : List PlainPart). Some parts) (one_parts one tokens is.0 also.0 is.2.are also.2.are) ∙ sym also.3

  one_sized : (hex : Bool) (form : TextForm) (tokens : List Token) (a b : PlainText) → IsSized hex form tokens a → IsSized hex form tokens b → a ≡ b
  one_sized hex form tokens a b is also =
      let parted = within Square tokens is.0 also.0 is.3 also.3 in
      let size = one_size_expression one also.0.front is.1 also.1 (subst (λ (p : Parted). IsSizeExpression p.front is.1) parted is.4) also.4 in
      let fixed = one_fixed also.0.behind is.2 also.2 (subst (λ (p : Parted). IsFixed p.behind is.2) parted is.5) also.5 in
      is.6 ∙ (λ i. record { form = form; hex = hex; size = Some (size i); fixed = fixed i }) ∙ sym also.6

  one_unsized : (hex : Bool) (form : TextForm) (tokens : List Token) (a b : PlainText) → IsUnsized hex form tokens a → IsUnsized hex form tokens b → a ≡ b
  one_unsized hex form tokens a b is also =
      is.2
      ∙ ap (λ (fixed : Option (List PlainPart)). record { form = form; hex = hex; size = None; fixed = fixed }) (one_fixed tokens is.0 also.0 is.1 also.1)
      ∙ sym also.2

  text_by : (sized hex : Bool) (form : TextForm) (tokens : List Token) (a b : PlainText) → IsTextBy sized hex form tokens a → IsTextBy sized hex form tokens b → a ≡ b
  text_by true hex form tokens a b is also = one_sized hex form tokens a b is also
  text_by false hex form tokens a b is also = one_unsized hex form tokens a b is also

  one_text_field : (form : TextForm) (front : FieldFront) (a b : FieldForm) → IsTextField form front a → IsTextField form front b → a ≡ b
  one_text_field form front a b is also =
      let hex : is.0 ≡ also.0 = same_some (hex_of front.unsigned front.radix) is.0 also.0 is.2 also.2 in
      let text = text_by (begins Square front.tail) also.0 form front.tail is.1 also.1 (subst (λ (h : Bool). IsText h form front.tail is.1) hex is.3) also.3 in
      is.4 ∙ ap (λ (t : PlainText). Text t) text ∙ sym also.4

  flat_by : (form : Option TextForm) (front : FieldFront) (a b : FieldForm) → IsFlatBy form front a → IsFlatBy form front b → a ≡ b
  flat_by (Some form) front a b is also = one_text_field form front a b is also
  flat_by None front a b is also = one_front one cut within front a b is also

  pub one_flat : (tokens : List Token) (a b : FieldForm) → IsFlat tokens a → IsFlat tokens b → a ≡ b
  one_flat tokens a b is also =
      let front = same_some (front_in false None tokens) is.0 also.0 ((fronts tokens is.0).1 is.1) ((fronts tokens also.0).1 also.1) in
      flat_by (text_form also.0.word) also.0 a b (subst (λ (f : FieldFront). IsFlatFront f a) front is.2) also.2
