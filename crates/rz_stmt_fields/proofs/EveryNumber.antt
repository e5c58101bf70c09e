-- Of each front of a field it is decided which number it begins.
use Rattle.std.proofs.Common.{ℤ, Bool, true, false, List, [], ◌∷◌, Option, Some, None, refl}
use Rattle.std.proofs.Math.Decide.{map_dec}
use Rattle.rz_core.proofs.EveryCut.{both}
use Rattle.rz_expr.proofs.OneTerm.{OneExpression}
use Rattle.rz_expr.specs.Constant.{IsConstant}
use Rattle.rz_lex.specs.declared.token.Token.{Token}
use Rattle.rz_stmt_brackets.specs.Bracket.{IsBracketed}
use Rattle.rz_stmt_brackets.specs.Pieces.{AreCut, Parted}
use Rattle.rz_stmt_brackets.specs.declared.bracket.Bracket.TheVariants.{Square}
use Rattle.rz_stmt_brackets.specs.declared.pieces.Divider.TheVariants.{Comma}
use Rattle.rz_stmt_fields.specs.Each.{AreEach}
use Rattle.rz_stmt_fields.specs.FieldValue.{is_equals, IsFixedValue}
use Rattle.rz_stmt_fields.specs.FieldWord.{FieldFront}
use Rattle.rz_stmt_fields.specs.Form.{NamedTerm, NumberForm, Own, Written}
use Rattle.rz_stmt_fields.specs.NumberField.{numbered, AreNamed, IsBits, IsFixed, IsNumber, IsNumberBy, IsOfWidth, IsTail, IsTailBy, NumberTail}
use Rattle.rz_stmt_fields.specs.Symbols.{IsSymbol}
use Rattle.rz_stmt_fields.proofs.Each.{are_each}
use Rattle.rz_stmt_fields.proofs.EverySymbol.{has_symbol}
use Rattle.rz_stmt_fields.proofs.EveryTerm.{cut_with, within_with, EveryExpression, EveryWithin, SomePieces}
use Rattle.rz_stmt_fields.proofs.EveryValue.{has_constant, has_fixed_value, HasTerm}
use Rattle.rz_stmt_fields.proofs.OneTerm.{OneCut, OneWithin}
use Rattle.rz_types_fields.specs.Range.{own_width}
use Rattle.rz_types_fields.specs.declared.field.NumForm.{NumForm}

module _ (one : OneExpression) (expression : EveryExpression) (cut : OneCut) (some : SomePieces) (within : OneWithin) (bracket : EveryWithin) (form : NumForm) where
  -- What stands after the type.

  abbrev HasTail : List Token → Type 0
  HasTail tokens = (tail : NumberTail) × IsTail form tokens tail

  abbrev HasNamed : List (List Token) → Type 0
  HasNamed pieces = (symbols : List NamedTerm) × AreEach (IsSymbol form) pieces symbols

  has_fixed : (tokens : List Token) → Dec ((tail : NumberTail) × IsFixed form tokens tail)
  has_fixed tokens = map_dec to from (has_fixed_value one expression form tokens)
    where
      to : HasTerm (IsFixedValue form) tokens → (tail : NumberTail) × IsFixed form tokens tail
      to value = (record { symbols = []; fixed = Some value.0 }, (value.0, value.1, refl))

      from : (tail : NumberTail) × IsFixed form tokens tail → HasTerm (IsFixedValue form) tokens
      from h = (h.1.0, h.1.1)

  has_named : (tokens : List Token) → Dec ((tail : NumberTail) × AreNamed form tokens tail)
  has_named tokens = map_dec to from (cut_with cut some Comma tokens HasNamed (are_each (IsSymbol form) (has_symbol one expression form)))
    where
      to : (pieces : List (List Token)) × AreCut Comma tokens pieces × HasNamed pieces → (tail : NumberTail) × AreNamed form tokens tail
      to (pieces, are_cut, (symbols, are)) = (record { symbols = symbols; fixed = None }, (pieces, symbols, are_cut, are, refl))

      from : (tail : NumberTail) × AreNamed form tokens tail → (pieces : List (List Token)) × AreCut Comma tokens pieces × HasNamed pieces
      from (tail, (pieces, symbols, are_cut, are, so)) = (pieces, are_cut, (symbols, are))

  tail_by : (equals : Bool) (tokens behind : List Token) → Dec ((tail : NumberTail) × IsTailBy equals form tokens behind tail)
  tail_by true tokens behind = has_fixed behind
  tail_by false tokens behind = has_named tokens

  has_tail : (tokens : List Token) → Dec (HasTail tokens)
  has_tail [] = yes (record { symbols = []; fixed = None }, refl)
  has_tail (token ∷ tokens) = tail_by (is_equals token.shape) (token ∷ tokens) tokens

  -- The number.

  module _ (front : FieldFront) where
    has_of_width : (width : ℤ) → Dec ((number : NumberForm) × IsOfWidth form width front number)
    has_of_width width = map_dec to from (has_tail front.tail)
      where
        to : HasTail front.tail → (number : NumberForm) × IsOfWidth form width front number
        to tail = (numbered form (Own width) front tail.0, (tail.0, tail.1, refl))

        from : (number : NumberForm) × IsOfWidth form width front number → HasTail front.tail
        from h = (h.1.0, h.1.1)

    abbrev HasWidth : Parted → Type 0
    HasWidth parted = HasTerm IsConstant parted.front × HasTail parted.behind

    has_bits : Dec ((number : NumberForm) × IsBits form front number)
    has_bits = map_dec to from (within_with within bracket Square front.tail HasWidth (λ parted. both (has_constant one expression parted.front) (has_tail parted.behind)))
      where
        to : (parted : Parted) × IsBracketed Square front.tail parted × HasWidth parted → (number : NumberForm) × IsBits form front number
        to (parted, brackets, ((width, constant), (tail, is))) = (numbered form (Written width) front tail, (parted, width, tail, brackets, constant, is, refl))

        from : (number : NumberForm) × IsBits form front number → (parted : Parted) × IsBracketed Square front.tail parted × HasWidth parted
        from (number, (parted, width, tail, brackets, constant, is, so)) = (parted, brackets, ((width, constant), (tail, is)))

    number_by : (width : Option ℤ) → Dec ((number : NumberForm) × IsNumberBy width form front number)
    number_by (Some width) = has_of_width width
    number_by None = has_bits

    pub has_number : Dec ((number : NumberForm) × IsNumber form front number)
    has_number = number_by (own_width form)
