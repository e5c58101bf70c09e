-- One number: the item is of it, or has a fault, exactly as is computed.
use Rattle.std.proofs.Common.{◌≡◌, ℕ, ℤ, pos, nat_abs, Bool, true, false, List, [], ◌∷◌, inl, inr, refl, sym, ap, ◌∙◌}
use Rattle.std.specs.Prelude.{Ok, Err, if◌then◌else◌}
use Rattle.std.specs.declared.result.Result.{Result}
use Rattle.rz_core.specs.Stop.{◌>>=◌}
use Rattle.rz_core.specs.declared.facts.Facts.{Facts}
use Rattle.rz_core.specs.declared.fault.Fault.{Fault}
use Rattle.rz_core.specs.declared.fault.Mark.{Mark}
use Rattle.rz_expr.specs.Term.{Term}
use Rattle.rz_stmt_items.specs.Item.{Braced, Named, Number, PlainItem, Text}
use Rattle.rz_stmt_items.specs.Fits.{is_char, IsLetter, IsNumberOf, IsNumberValue}
use Rattle.rz_stmt_items.specs.Matched.{char_value, expression_value, in_range, letter_value, number_for, value_for}
use Rattle.rz_stmt_items.specs.Unfit.{out_of_range, too_long, wrong_kind, IsCharFault, IsExpressionFault, IsLetterFault, IsLongLetter, IsNumberFault}
use Rattle.rz_stmt_items.proofs.Results.{if_err, if_ok, ok_err, same_err, same_ok, then_err, then_ok}
use Rattle.rz_types.specs.Field.{PlainNumber}
use Rattle.rz_types.specs.Range.{fits_number}
use Rattle.rz_types.specs.Stored.{stored_number}
use Rattle.rz_types.specs.Text.{bytes_of, PlainPart}
use Rattle.rz_types.specs.Value.{symbol_number_of}

-- a fault is one value of its kind
blame : {X : Type 0} (fault other : Fault) → ◌≡◌ {A = Result X Fault} (Err fault) (Err other) → other ≡ fault
blame {X} fault other e = sym (same_err {X = X} fault other e)

-- Expressions.

module _ (known : Facts) (number : PlainNumber) (term : Term) (mark : Mark) where
  ranged : (value : ℤ) → Result ℤ Fault
  ranged value = if fits_number number.form number.width value then Ok value else Err (out_of_range mark value)

  expression_sound : (value : ℤ) → expression_value known number term mark ≡ Ok value → IsNumberValue known number (Number term mark) value
  expression_sound value e =
      let first = then_ok (symbol_number_of mark known number.symbols term) (in_range number mark) value e in
      let fits = if_ok (fits_number number.form number.width first.0) first.0 value (out_of_range mark first.0) first.2 in
      (first.1 ∙ ap (λ (v : ℤ). Ok v) fits.1, ap (fits_number number.form number.width) (sym fits.1) ∙ fits.0)

  expression_complete : (value : ℤ) → IsNumberValue known number (Number term mark) value → expression_value known number term mark ≡ Ok value
  expression_complete value is =
      ap (λ (r : Result ℤ Fault). r >>= in_range number mark) is.0
      ∙ ap (λ (fits : Bool). if fits then Ok value else Err (out_of_range mark value)) is.1

  expression_blamed : (fault : Fault) → expression_value known number term mark ≡ Err fault → IsExpressionFault known number term mark fault
  expression_blamed fault e =
      elim (then_err (symbol_number_of mark known number.symbols term) (in_range number mark) fault e) [
        | inl broken ↦ inl broken
        | inr first ↦
            let fits = if_err (fits_number number.form number.width first.0) first.0 (out_of_range mark first.0) fault first.2 in
            inr (first.0, first.1, fits.0, sym fits.1)
      ]

  expression_blames : (fault : Fault) → IsExpressionFault known number term mark fault → expression_value known number term mark ≡ Err fault
  expression_blames fault (inl broken) = ap (λ (r : Result ℤ Fault). r >>= in_range number mark) broken
  expression_blames fault (inr is) =
      ap (λ (r : Result ℤ Fault). r >>= in_range number mark) is.1
      ∙ ap (λ (fits : Bool). if fits then Ok is.0 else Err (out_of_range mark is.0)) is.2
      ∙ ap (λ (f : Fault). Err f) (sym is.3)

-- Texts for a `char`.

letter_sound : (mark : Mark) (bytes : List ℕ) (value : ℤ) → letter_value mark bytes ≡ Ok value → IsLetter bytes value
letter_sound mark [] value e = sym (same_ok (pos 0) value e)
letter_sound mark (byte ∷ []) value e = sym (same_ok (pos byte) value e)
letter_sound mark (byte ∷ next ∷ bytes) value e = ok_err value (too_long mark (byte ∷ next ∷ bytes)) (sym e)

letter_complete : (mark : Mark) (bytes : List ℕ) (value : ℤ) → IsLetter bytes value → letter_value mark bytes ≡ Ok value
letter_complete mark [] value is = ap (λ (v : ℤ). Ok v) (sym is)
letter_complete mark (byte ∷ []) value is = ap (λ (v : ℤ). Ok v) (sym is)
letter_complete mark (byte ∷ next ∷ bytes) value is = absurd is

letter_blamed : (mark : Mark) (bytes : List ℕ) (fault : Fault) → letter_value mark bytes ≡ Err fault → IsLongLetter mark bytes fault
letter_blamed mark [] fault e = ok_err (pos 0) fault e
letter_blamed mark (byte ∷ []) fault e = ok_err (pos byte) fault e
letter_blamed mark (byte ∷ next ∷ bytes) fault e = blame (too_long mark (byte ∷ next ∷ bytes)) fault e

letter_blames : (mark : Mark) (bytes : List ℕ) (fault : Fault) → IsLongLetter mark bytes fault → letter_value mark bytes ≡ Err fault
letter_blames mark [] fault is = absurd is
letter_blames mark (byte ∷ []) fault is = absurd is
letter_blames mark (byte ∷ next ∷ bytes) fault is = ap (λ (f : Fault). Err f) (sym is)

module _ (known : Facts) (position : ℕ) (parts : List PlainPart) (mark : Mark) where
  char_sound : (char : Bool) (value : ℤ) → char_value char known position parts mark ≡ Ok value
      → (bytes : List ℕ) × (char ≡ true) × (bytes_of mark known parts ≡ Ok bytes) × IsLetter bytes value
  char_sound true value e =
      let first = then_ok (bytes_of mark known parts) (letter_value mark) value e in
      (first.0, refl, first.1, letter_sound mark first.0 value first.2)
  char_sound false value e = absurd (ok_err value (wrong_kind position mark) (sym e))

  char_complete : (char : Bool) (value : ℤ) → (bytes : List ℕ) × (char ≡ true) × (bytes_of mark known parts ≡ Ok bytes) × IsLetter bytes value
      → char_value char known position parts mark ≡ Ok value
  char_complete true value is = ap (λ (r : Result (List ℕ) Fault). r >>= letter_value mark) is.2 ∙ letter_complete mark is.0 value is.3
  char_complete false value is = cc is.1

  char_blamed : (char : Bool) (fault : Fault) → char_value char known position parts mark ≡ Err fault → IsCharFault char known position parts mark fault
  char_blamed true fault e =
      elim (then_err (bytes_of mark known parts) (letter_value mark) fault e) [
        | inl broken ↦ inl broken
        | inr first ↦ inr (first.0, first.1, letter_blamed mark first.0 fault first.2)
      ]
  char_blamed false fault e = blame (wrong_kind position mark) fault e

  letters_blame : (fault : Fault) → IsLetterFault known parts mark fault → char_value true known position parts mark ≡ Err fault
  letters_blame fault (inl broken) = ap (λ (r : Result (List ℕ) Fault). r >>= letter_value mark) broken
  letters_blame fault (inr is) = ap (λ (r : Result (List ℕ) Fault). r >>= letter_value mark) is.1 ∙ letter_blames mark is.0 fault is.2

  char_blames : (char : Bool) (fault : Fault) → IsCharFault char known position parts mark fault → char_value char known position parts mark ≡ Err fault
  char_blames true fault is = letters_blame fault is
  char_blames false fault is = ap (λ (f : Fault). Err f) (sym is)

-- Items.

module _ (known : Facts) (position : ℕ) (number : PlainNumber) where
  value_sound : (item : PlainItem) (value : ℤ) → value_for known position number item ≡ Ok value → IsNumberValue known number item value
  value_sound (Number term mark) value e = expression_sound known number term mark value e
  value_sound (Text parts mark) value e = char_sound known position parts mark (is_char number.form) value e
  value_sound (Braced items mark) value e = ok_err value (wrong_kind position mark) (sym e)
  value_sound (Named name items mark) value e = ok_err value (wrong_kind position mark) (sym e)

  value_complete : (item : PlainItem) (value : ℤ) → IsNumberValue known number item value → value_for known position number item ≡ Ok value
  value_complete (Number term mark) value is = expression_complete known number term mark value is
  value_complete (Text parts mark) value is = char_complete known position parts mark (is_char number.form) value is
  value_complete (Braced items mark) value is = absurd is
  value_complete (Named name items mark) value is = absurd is

  value_blamed : (item : PlainItem) (fault : Fault) → value_for known position number item ≡ Err fault → IsNumberFault known position number item fault
  value_blamed (Number term mark) fault e = expression_blamed known number term mark fault e
  value_blamed (Text parts mark) fault e = char_blamed known position parts mark (is_char number.form) fault e
  value_blamed (Braced items mark) fault e = blame (wrong_kind position mark) fault e
  value_blamed (Named name items mark) fault e = blame (wrong_kind position mark) fault e

  value_blames : (item : PlainItem) (fault : Fault) → IsNumberFault known position number item fault → value_for known position number item ≡ Err fault
  value_blames (Number term mark) fault is = expression_blames known number term mark fault is
  value_blames (Text parts mark) fault is = char_blames known position parts mark (is_char number.form) fault is
  value_blames (Braced items mark) fault is = ap (λ (f : Fault). Err f) (sym is)
  value_blames (Named name items mark) fault is = ap (λ (f : Fault). Err f) (sym is)

module _ (known : Facts) where
  stored : PlainNumber → ℤ → Result ℕ Fault
  stored number value = Ok (stored_number (nat_abs number.width) value)

  pub number_sound : (position : ℕ) (number : PlainNumber) (item : PlainItem) (n : ℕ) → number_for known position number item ≡ Ok n → IsNumberOf known number item n
  number_sound position number item n e =
      let first = then_ok (value_for known position number item) (λ value. Ok (stored_number (nat_abs number.width) value)) n e in
      (first.0, value_sound known position number item first.0 first.1, sym (same_ok (stored_number (nat_abs number.width) first.0) n first.2))

  pub number_complete : (position : ℕ) (number : PlainNumber) (item : PlainItem) (n : ℕ) → IsNumberOf known number item n → number_for known position number item ≡ Ok n
  number_complete position number item n is =
      ap (λ (r : Result ℤ Fault). r >>= λ value. Ok (stored_number (nat_abs number.width) value)) (value_complete known position number item is.0 is.1)
      ∙ ap (λ (m : ℕ). Ok m) (sym is.2)

  pub number_blamed : (position : ℕ) (number : PlainNumber) (item : PlainItem) (fault : Fault)
      → number_for known position number item ≡ Err fault → IsNumberFault known position number item fault
  number_blamed position number item fault e =
      elim (then_err (value_for known position number item) (λ value. Ok (stored_number (nat_abs number.width) value)) fault e) [
        | inl broken ↦ value_blamed known position number item fault broken
        | inr first ↦ absurd (ok_err (stored_number (nat_abs number.width) first.0) fault first.2)
      ]

  pub number_blames : (position : ℕ) (number : PlainNumber) (item : PlainItem) (fault : Fault)
      → IsNumberFault known position number item fault → number_for known position number item ≡ Err fault
  number_blames position number item fault is =
      ap (λ (r : Result ℤ Fault). r >>= λ value. Ok (stored_number (nat_abs number.width) value)) (value_blames known position number item fault is)
