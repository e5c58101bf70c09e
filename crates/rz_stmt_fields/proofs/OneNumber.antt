-- Numbers are one at most.
use Rattle.std.proofs.Common.{◌≡◌, ℤ, Bool, true, false, List, [], ◌∷◌, Option, Some, None, sym, ap, subst, ◌∙◌}
use Rattle.rz_expr.proofs.OneTerm.{OneExpression}
use Rattle.rz_stmt_brackets.specs.Pieces.{Parted}
use Rattle.rz_stmt_brackets.specs.declared.bracket.Bracket.TheVariants.{Square}
use Rattle.rz_stmt_brackets.specs.declared.pieces.Divider.TheVariants.{Comma}
use Rattle.rz_expr.specs.Term.{Term}
use Rattle.rz_lex.specs.declared.token.Token.{Token}
use Rattle.rz_stmt_fields.specs.Each.{AreEach}
use Rattle.rz_expr.specs.Constant.{IsConstant}
use Rattle.rz_stmt_fields.specs.FieldValue.{is_equals}
use Rattle.rz_stmt_fields.specs.FieldWord.{FieldFront}
use Rattle.rz_stmt_fields.specs.Form.{NamedTerm, NumberForm, Own, Written}
use Rattle.rz_types_fields.specs.Range.{own_width}
use Rattle.rz_stmt_fields.specs.NumberField.{numbered, AreNamed, IsBits, IsFixed, IsNumber, IsNumberBy, IsOfWidth, IsTail, IsTailBy, NumberTail}
use Rattle.rz_stmt_fields.specs.Symbols.{IsSymbol}
use Rattle.rz_stmt_fields.proofs.Each.{one_each}
use Rattle.rz_stmt_fields.proofs.OneTerm.{OneCut, OneWithin}
use Rattle.rz_stmt_fields.proofs.OneValue.{one_constant, one_fixed_value}
use Rattle.rz_stmt_fields.proofs.OneSymbol.{one_symbol}
use Rattle.rz_types_fields.specs.declared.field.NumForm.{NumForm}

module _ (one : OneExpression) (cut : OneCut) (within : OneWithin) (form : NumForm) where
  one_fixed : (tokens : List Token) (a b : NumberTail) → IsFixed form tokens a → IsFixed form tokens b → a ≡ b
  one_fixed tokens a b is also =
      is.2 ∙ ap (λ (t : Term). record { symbols = []; fixed = Some t }) (one_fixed_value one form tokens is.0 also.0 is.1 also.1) ∙ sym also.2

  one_named : (tokens : List Token) (a b : NumberTail) → AreNamed form tokens a → AreNamed form tokens b → a ≡ b
  one_named tokens a b is also =
      let pieces = cut Comma tokens is.0 also.0 is.2 also.2 in
      is.4
      ∙ ap (λ (l : List NamedTerm). record { symbols = l; fixed = None })
      (one_each (IsSymbol form) (one_symbol one form) also.0 is.1 also.1 (subst (λ (ps : List (List Token)). AreEach (IsSymbol form) ps is.1) pieces is.3) also.3)
      ∙ sym also.4

  tail_by : (equals : Bool) (tokens behind : List Token) (a b : NumberTail) → IsTailBy equals form tokens behind a → IsTailBy equals form tokens behind b → a ≡ b
  tail_by true tokens behind a b is also = one_fixed behind a b is also
  tail_by false tokens behind a b is also = one_named tokens a b is also

  pub one_tail : (tokens : List Token) (a b : NumberTail) → IsTail form tokens a → IsTail form tokens b → a ≡ b
  one_tail [] a b is also = is ∙ sym also
  one_tail (token ∷ tokens) a b is also = tail_by (is_equals token.shape) (token ∷ tokens) tokens a b is also

  module _ (front : FieldFront) where
    one_of_width : (width : ℤ) (a b : NumberForm) → IsOfWidth form width front a → IsOfWidth form width front b → a ≡ b
    one_of_width width a b is also = is.2 ∙ ap (numbered form (Own width) front) (one_tail front.tail is.0 also.0 is.1 also.1) ∙ sym also.2

    one_bits : (a b : NumberForm) → IsBits form front a → IsBits form front b → a ≡ b
    one_bits a b is also =
        let parted = within Square front.tail is.0 also.0 is.3 also.3 in
        let width = one_constant one also.0.front is.1 also.1 (subst (λ (p : Parted). IsConstant p.front is.1) parted is.4) also.4 in
        let tail = one_tail also.0.behind is.2 also.2 (subst (λ (p : Parted). IsTail form p.behind is.2) parted is.5) also.5 in
        is.6 ∙ (λ i. numbered form (Written (width i)) front (tail i)) ∙ sym also.6

    number_by : (width : Option ℤ) (a b : NumberForm) → IsNumberBy width form front a → IsNumberBy width form front b → a ≡ b
    number_by (Some width) a b is also = one_of_width width a b is also
    number_by None a b is also = one_bits a b is also

    pub one_number : (a b : NumberForm) → IsNumber form front a → IsNumber form front b → a ≡ b
    one_number a b is also = number_by (own_width form) a b is also
