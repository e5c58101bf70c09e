-- Keys are one at most.
use Rattle.std.proofs.Common.{◌≡◌, false, List, None, sym, ap, subst, ◌∙◌}
use Rattle.rz_expr.proofs.OneTerm.{OneExpression}
use Rattle.rz_core.proofs.Tests.{same_some}
use Rattle.rz_lex.specs.declared.token.Token.{Token}
use Rattle.rz_stmt_fields.specs.FieldWord.{front_in, FieldFront}
use Rattle.rz_stmt_fields.specs.Form.{FieldForm, Number, NumberForm}
use Rattle.rz_stmt_fields.specs.Key.{as_key, IsKey, IsKeyFront, IsKeyNumber, IsKeyOf}
use Rattle.rz_stmt_fields.specs.declared.field_word.FieldWord.{FieldWord}
use Rattle.rz_stmt_fields.specs.declared.field_word.FieldWord.TheVariants as words
use Rattle.rz_stmt_fields.proofs.Fronts.{fronts}
use Rattle.rz_stmt_fields.proofs.OneNumber.{one_number}
use Rattle.rz_stmt_fields.proofs.OneTerm.{OneCut, OneWithin}
use Rattle.rz_types_fields.specs.declared.field.NumForm.{NumForm}

module _ (one : OneExpression) (cut : OneCut) (within : OneWithin) where
  one_key_number : (form : NumForm) (front : FieldFront) (a b : FieldForm) → IsKeyNumber form front a → IsKeyNumber form front b → a ≡ b
  one_key_number form front a b is also =
      is.3 ∙ ap (λ (n : NumberForm). Number (as_key n)) (one_number one cut within form front is.0 also.0 is.1 also.1) ∙ sym also.3

  key_of : (word : FieldWord) (front : FieldFront) (a b : FieldForm) → IsKeyOf word front a → IsKeyOf word front b → a ≡ b
  key_of (words.Number form) front a b is also = one_key_number form front a b is.1 also.1
  key_of word front a b is also = absurd is

  pub one_key : (tokens : List Token) (a b : FieldForm) → IsKey tokens a → IsKey tokens b → a ≡ b
  one_key tokens a b is also =
      let front = same_some (front_in false None tokens) is.0 also.0 ((fronts tokens is.0).1 is.1) ((fronts tokens also.0).1 also.1) in
      key_of also.0.word also.0 a b (subst (λ (f : FieldFront). IsKeyFront f a) front is.2) also.2
