-- A number that is shown is read back as it was.
use Rattle.std.proofs.Common.{◌≡◌, ℕ, zero, suc, ◌+◌, ◌-◌, ◌/◌, ◌%◌, ◌^◌, ◌<◌, ◌≤◌, ℤ, pos, negsuc, nat_abs, neg_ℤ, ◌≤ℤ◌, ◌<ℤ◌, int_le, int_lt, nat_lt, ◌==◌, if◌then◌else◌, T, Bool, true, false, ◌&&◌, codes, List, [], ◌∷◌, length, map, Option, Some, None, Ok, refl, sym, ap, subst, ◌∙◌, arith, mod-eq_of_lt}
use Rattle.std.specs.Prelude.{replicate}
use Rattle.std.specs.List.{list_all, AllByRecursion}
use Rattle.std.specs.Ordering.{int_eq}
use Rattle.std.specs.Str.{str_eq_ignore_ascii_case, str_to_ascii_lowercase}
use Rattle.std.proofs.lemmas.Bool.{eqb-true}
use Rattle.std.proofs.lemmas.Bool.Decides.{nat_tests, Decides-int_eq}
use Rattle.std.proofs.lemmas.Int.{ints}
use Rattle.std.proofs.Math.Pow.{pow_mono}
use Rattle.rz_core.proofs.Tests.{and_so, both, by_test}
use Rattle.rz_core.specs.Numbers.{be}
use Rattle.rz_core.specs.declared.facts.Facts.{Facts}
use Rattle.rz_core.specs.declared.fault.Mark.{Mark}
use Rattle.rz_core.specs.declared.resource.Word.{Word}
use Rattle.rz_expr.specs.Environment.{predefined}
use Rattle.rz_expr.specs.Grammar.{bytes_number}
use Rattle.rz_expr.specs.Term.{Constant, Named, Term}
use Rattle.rz_expr.specs.Value.{known_value, reduced}
use Rattle.rz_types_fields.proofs.SymbolNames.{as_symbol}
use Rattle.rz_types_fields.specs.Text as parts
use Rattle.rz_types_fields.specs.declared.field.NumForm.{NumForm}
use Rattle.rz_types_fields.specs.declared.field.NumForm.TheVariants.{Bits, Boolean, Byte, Char, Integer, Longint}
use Rattle.rz_types_fields.specs.declared.field.Radix.{Radix}
use Rattle.rz_types_fields.specs.declared.field.Radix.TheVariants.{Binary, Decimal, Hex, Literal, Octal, Plain}
use Rattle.rz_types_fields.specs.declared.field.Symbol.{Symbol}
use Rattle.rz_stmt_items.specs.Item as item
use Rattle.rz_stmt_items.specs.Item.{PlainItem}
use Rattle.rz_stmt_items.specs.Fits.{is_char, FitAll, IsNumberOf}
use Rattle.rz_types.specs.Field.{Number, PlainNumber}
use Rattle.rz_types.specs.Range.{fits_number, is_between}
use Rattle.rz_types.specs.Rules.{bad_width}
use Rattle.rz_types.specs.Shape.{is_fixed_number, is_key_shaped, is_number_shaped, is_own_width, is_symbol_name, is_symbol_of}
use Rattle.rz_types.specs.Piece.{integer}
use Rattle.rz_types.specs.Stored.{stored_number}
use Rattle.rz_types.specs.Value.{symbol_number_of, symbol_value, with_fault}
use Rattle.rz_show_laws.proofs.Items.{signed_term, AreTermItems, IsSingleItem, IsTermItem}
use Rattle.rz_show.specs.Number.{by_decimal, by_form, by_hex, by_literal, by_radix, by_truth, by_value, is_literal_width, is_stored, named_or, number_shown, symbol_for, truth}
use Rattle.rz_show_lines.specs.Print.{by_name, in_binary, in_decimal, in_group, in_hex, in_literal, in_octal, in_text, signed_number, Single}
use Rattle.rz_show.specs.Printable.{IsWidth}
use Rattle.rz_show_laws.proofs.Reduced.{half, in_bits_constant, in_bits_negative, in_bits_reduced, minus_wraps, small_stays, stored_constant, stored_negative, wrap_small, InBits}
use Rattle.rz_show.proofs.Widths.{number_width}

-- Widths.

-- a width that a number of this form has
pub record HasSize (form : NumForm) (width : ℤ) : Type 0 where
  pub is : pos (nat_abs width) ≡ width
  pub some : 0 < nat_abs width
  pub most : nat_abs width ≤ 32
  pub own : is_own_width form width ≡ true

sized : (form : NumForm) (width : ℤ) → is_own_width form width ≡ true → IsWidth width → HasSize form width
sized form (pos n) own is = record { is = refl; some = omega (arith, ints, is.0); most = omega (arith, ints, is.1); own = own }
sized form (negsuc n) own is = absurd (omega (arith, ints, is.0))

-- what the shape of a number says
pub record IsFormed (number : PlainNumber) : Type 0 where
  pub size : HasSize number.form number.width
  pub symbols : list_all (is_symbol_of number.form number.width) number.symbols ≡ true

parts_of : (in_case : Bool) (number : PlainNumber) → is_number_shaped in_case number ≡ true
    → (is_own_width number.form number.width ≡ true) × (list_all (is_symbol_of number.form number.width) number.symbols ≡ true)
parts_of in_case number is =
    let own : Bool = is_own_width number.form number.width in
    let all : Bool = list_all (is_symbol_of number.form number.width) number.symbols in
    let one = both (own && all && is_fixed_number number.symbols number.fixed) (if number.key then is_key_shaped in_case number else true) is in
    both own all (both (own && all) (is_fixed_number number.symbols number.fixed) one.0).0

pub all_symbols : (in_case : Bool) (number : PlainNumber) → is_number_shaped in_case number ≡ true → list_all (is_symbol_of number.form number.width) number.symbols ≡ true
all_symbols in_case number is = (parts_of in_case number is).1

pub formed : (in_case : Bool) (number : PlainNumber) → is_number_shaped in_case number ≡ true → bad_width (Number number) ≡ None → IsFormed number
formed in_case number is kept = record {
  size = sized number.form number.width (parts_of in_case number is).0 (number_width in_case number is kept);
  symbols = (parts_of in_case number is).1;
}

width_is : (width own : ℤ) → int_eq width own ≡ true → width ≡ own
width_is width own is = (Decides-int_eq width own).0 is

-- Ranges.

passes : (b : Bool) → T b → b ≡ true
passes true t = refl
passes false t = absurd t

le_true : (x y : ℤ) → x ≤ℤ y → int_le x y ≡ true
le_true x y is = passes (int_le x y) is.le

lt_true : (x y : ℤ) → x <ℤ y → int_lt x y ≡ true
lt_true x y is = passes (int_lt x y) is.lt

between : (least most value : ℤ) → least ≤ℤ value → value ≤ℤ most → is_between least most value ≡ true
between least most value low high = and_so (int_le least value) (int_le value most) (le_true least value low) (le_true value most high)

-- the forms whose numbers may have a sign
abbrev IsSigned : NumForm → Type 0
IsSigned Bits = Unit {0}
IsSigned Byte = Unit {0}
IsSigned Integer = Unit {0}
IsSigned Longint = Unit {0}
IsSigned Boolean = ⊥
IsSigned Char = ⊥

bits_ranged : (width : ℕ) (value : ℤ) → InBits width value → fits_number Bits (pos width) value ≡ true
bits_ranged width value range = by_test (fits_number Bits (pos width) value ≡ true) (is_between (pos 1) (pos 32) (pos width))
    (λ h. ap (λ (b : Bool). if b then int_le (neg_ℤ (pos (2 ^ (width - 1)))) value && int_lt value (pos (2 ^ width)) else true) h
    ∙ and_so (int_le (neg_ℤ (pos (2 ^ (width - 1)))) value) (int_lt value (pos (2 ^ width))) (le_true (neg_ℤ (pos (2 ^ (width - 1)))) value range.least) (lt_true value (pos (2 ^ width)) range.most))
    (λ h. ap (λ (b : Bool). if b then int_le (neg_ℤ (pos (2 ^ (width - 1)))) value && int_lt value (pos (2 ^ width)) else true) h)

below_is : (value : ℤ) (most : ℕ) → value <ℤ pos (suc most) → value ≤ℤ pos most
below_is value most is = omega (arith, ints, is)

in_range : (form : NumForm) (width : ℤ) (value : ℤ) → IsSigned form → HasSize form width → InBits (nat_abs width) value → fits_number form width value ≡ true
in_range Bits width value signed size range = subst (λ (x : ℤ). fits_number Bits x value ≡ true) size.is (bits_ranged (nat_abs width) value range)
in_range Byte width value signed size range =
    let here : InBits 8 value = subst (λ (x : ℤ). InBits (nat_abs x) value) (width_is width (pos 8) size.own) range in
    between (negsuc 127) (pos 255) value here.least (below_is value 255 here.most)
in_range Integer width value signed size range =
    let here : InBits 16 value = subst (λ (x : ℤ). InBits (nat_abs x) value) (width_is width (pos 16) size.own) range in
    between (negsuc 32767) (pos 65535) value here.least (below_is value 65535 here.most)
in_range Longint width value signed size range = refl
in_range Boolean width value signed size range = absurd signed
in_range Char width value signed size range = absurd signed

-- A symbol's value in range, reduced.

le_so : (x y : ℤ) → int_le x y ≡ true → x ≤ℤ y
le_so x y is = record { le = subst T (sym is) tt }

lt_so : (x y : ℤ) → int_lt x y ≡ true → x <ℤ y
lt_so x y is = record { lt = subst T (sym is) tt }

in_between : (least most value : ℤ) → is_between least most value ≡ true → (least ≤ℤ value) × (value ≤ℤ most)
in_between least most value is = let each = both (int_le least value) (int_le value most) is in (le_so least value each.0, le_so value most each.1)

bits_in : (width : ℕ) (value : ℤ) → 0 < width → width ≤ 32 → fits_number Bits (pos width) value ≡ true → InBits width value
bits_in width value some most is =
    let low = neg_ℤ (pos (2 ^ (width - 1))) in
    let wide : is_between (pos 1) (pos 32) (pos width) ≡ true = between (pos 1) (pos 32) (pos width) (omega (arith, ints, some)) (omega (arith, ints, most)) in
    let is_in : (int_le (neg_ℤ (pos (2 ^ (width - 1)))) value && int_lt value (pos (2 ^ width))) ≡ true =
    sym (ap (λ (b : Bool). if b then int_le (neg_ℤ (pos (2 ^ (width - 1)))) value && int_lt value (pos (2 ^ width)) else true) wide) ∙ is in
    let each = both (int_le (neg_ℤ (pos (2 ^ (width - 1)))) value) (int_lt value (pos (2 ^ width))) is_in in
    record { least = le_so low value each.0; most = lt_so value (pos (2 ^ width)) each.1 }

small_ranged : (form : NumForm) (width least most value : ℤ) → negsuc 32767 ≤ℤ least → most ≤ℤ pos 65535 → is_between least most value ≡ true → fits_number form width value ≡ true
    → fits_number form width (reduced value) ≡ true
small_ranged form width least most value low high range is =
    let inside = in_between least most value range in
    let stays = small_stays value (omega (arith, ints, low, inside.0)) (omega (arith, ints, high, inside.1)) in
    subst (λ (v : ℤ). fits_number form width v ≡ true) (sym stays) is

symbol_ranged : (form : NumForm) (width value : ℤ) → HasSize form width → fits_number form width value ≡ true → fits_number form width (reduced value) ≡ true
symbol_ranged Bits width value size is =
    let range = bits_in (nat_abs width) value size.some size.most (subst (λ (x : ℤ). fits_number Bits x value ≡ true) (sym size.is) is) in
    subst (λ (x : ℤ). fits_number Bits x (reduced value) ≡ true) size.is (bits_ranged (nat_abs width) (reduced value) (in_bits_reduced (nat_abs width) value size.some size.most range))
symbol_ranged Byte width value size is = small_ranged Byte width (negsuc 127) (pos 255) value (omega (arith, ints)) (omega (arith, ints)) is is
symbol_ranged Integer width value size is = small_ranged Integer width (negsuc 32767) (pos 65535) value (omega (arith, ints)) (omega (arith, ints)) is is
symbol_ranged Longint width value size is = refl
symbol_ranged Boolean width value size is = small_ranged Boolean width (pos 0) (pos 1) value (omega (arith, ints)) (omega (arith, ints)) is is
symbol_ranged Char width value size is = small_ranged Char width (pos 0) (pos 255) value (omega (arith, ints)) (omega (arith, ints)) is is

-- Literals.

one_byte : (n : ℕ) → n < 2 ^ 8 → bytes_number 0 (be 1 n) ≡ n
unfolding be
one_byte n less = omega (arith, less)

two_bytes : (n : ℕ) → n < 2 ^ 16 → bytes_number 0 (be 2 n) ≡ n
unfolding be
two_bytes n less = omega (arith, less)

four_bytes : (n : ℕ) → n < 2 ^ 32 → bytes_number 0 (be 4 n) ≡ n
unfolding be
four_bytes n less = omega (arith, less)

literal_is : (width n : ℕ) → is_literal_width width ≡ true → n < 2 ^ width → bytes_number 0 (be (width / 8) n) ≡ n
literal_is width n is less = by_test (bytes_number 0 (be (width / 8) n) ≡ n) (width == 8)
    (λ h. by_width 8 (eqb-true width 8 h) (one_byte n (below 8 (eqb-true width 8 h))))
    (λ h. by_test (bytes_number 0 (be (width / 8) n) ≡ n) (width == 16)
    (λ k. by_width 16 (eqb-true width 16 k) (two_bytes n (below 16 (eqb-true width 16 k))))
    (λ k. let it : width ≡ 32 = eqb-true width 32 (rw (h, k) at is) in by_width 32 it (four_bytes n (below 32 it))))
  where
    by_width : (x : ℕ) → width ≡ x → bytes_number 0 (be (x / 8) n) ≡ n → bytes_number 0 (be (width / 8) n) ≡ n
    by_width x e it = subst (λ (y : ℕ). bytes_number 0 (be (y / 8) n) ≡ n) (sym e) it

    below : (x : ℕ) → width ≡ x → n < 2 ^ x
    below x e = subst (λ (y : ℕ). n < 2 ^ y) e less

at_least : (n m : ℕ) → nat_lt n m ≡ false → m ≤ n
at_least n m h = grind (arith, nat_tests)

module _ (known : Facts) where
  -- Expressions.

  -- the term has a value that is in range and stands for the number
  pub record Gives (form : NumForm) (width : ℤ) (symbols : List Symbol) (n : ℕ) (term : Term) : Type 0 where
    pub value : ℤ
    pub given : (mark : Mark) → symbol_number_of mark known symbols term ≡ Ok value
    pub ranged : fits_number form width value ≡ true
    pub stored : n ≡ stored_number (nat_abs width) value

  term_item : (number : PlainNumber) (n : ℕ) (term : Term) (one : PlainItem) → Gives number.form number.width number.symbols n term → IsTermItem term one → IsNumberOf known number one n
  term_item number n term one gives (mark, is) =
      subst (λ (x : PlainItem). IsNumberOf known number x n) (sym is) (gives.value, (gives.given mark, gives.ranged), gives.stored)

  -- what is shown gives the number
  abbrev pub Tells : NumForm → ℤ → List Symbol → ℕ → Single → Type 0
  Tells form width symbols n (in_decimal number) = Gives form width symbols n (signed_term number)
  Tells form width symbols n (in_hex digits number) = Gives form width symbols n (Constant (reduced (pos number)))
  Tells form width symbols n (in_octal number) = Gives form width symbols n (Constant (reduced (pos number)))
  Tells form width symbols n (in_binary digits number) = Gives form width symbols n (Constant (reduced (pos number)))
  Tells form width symbols n (in_literal bytes) = Gives form width symbols n (Constant (reduced (pos (bytes_number 0 bytes))))
  Tells form width symbols n (in_text bytes) = (byte : ℕ) × (bytes ≡ byte ∷ []) × (is_char form ≡ true) × (n ≡ stored_number (nat_abs width) (pos byte))
  Tells form width symbols n (by_name name) = Gives form width symbols n (Named name)
  Tells form width symbols n (in_group numbers) = ⊥

  letter_item : (number : PlainNumber) (n byte : ℕ) (mark : Mark) (bytes : List ℕ) (one : PlainItem) → bytes ≡ byte ∷ [] → is_char number.form ≡ true → n ≡ stored_number (nat_abs number.width) (pos byte)
      → one ≡ item.Text (parts.Plain bytes ∷ []) mark → IsNumberOf known number one n
  letter_item number n byte mark bytes one are is stored same =
      subst (λ (x : PlainItem). IsNumberOf known number x n) (sym (same ∙ ap (λ (bs : List ℕ). item.Text (parts.Plain bs ∷ []) mark) are)) (pos byte, (byte ∷ [], is, refl, refl), stored)

  pub single_item : (number : PlainNumber) (n : ℕ) (single : Single) (one : PlainItem) → Tells number.form number.width number.symbols n single → IsSingleItem single one → IsNumberOf known number one n
  single_item number n (in_decimal z) one tells is = term_item number n (signed_term z) one tells is
  single_item number n (in_hex digits m) one tells is = term_item number n (Constant (reduced (pos m))) one tells is
  single_item number n (in_octal m) one tells is = term_item number n (Constant (reduced (pos m))) one tells is
  single_item number n (in_binary digits m) one tells is = term_item number n (Constant (reduced (pos m))) one tells is
  single_item number n (in_literal bytes) one tells is = term_item number n (Constant (reduced (pos (bytes_number 0 bytes)))) one tells is
  single_item number n (in_text bytes) one (byte, are, char, stored) (mark, is) = letter_item number n byte mark bytes one are char stored is
  single_item number n (by_name name) one tells is = term_item number n (Named name) one tells is
  single_item number n (in_group numbers) one tells is = absurd tells

  -- By value.

  constant_gives : (form : NumForm) (width : ℤ) (symbols : List Symbol) (n : ℕ) → IsSigned form → HasSize form width → n < 2 ^ nat_abs width → Gives form width symbols n (Constant (reduced (pos n)))
  constant_gives form width symbols n signed size less = record {
    value = reduced (pos n);
    given = λ mark. refl;
    ranged = in_range form width (reduced (pos n)) signed size (in_bits_constant (nat_abs width) n size.most less);
    stored = stored_constant (nat_abs width) n size.most less;
  }

  negative_gives : (form : NumForm) (width : ℤ) (symbols : List Symbol) (n k : ℕ) → IsSigned form → HasSize form width → suc k + n ≡ 2 ^ nat_abs width → k < 2 ^ (nat_abs width - 1)
      → Gives form width symbols n (signed_term (negsuc k))
  negative_gives form width symbols n k signed size sum small = record {
    value = negsuc k;
    given = λ mark. ap (λ (v : ℤ). Ok v) (minus_wraps k (omega (arith, small, pow_mono {i = nat_abs width - 1} {j = 31} (omega (arith, size.most)))));
    ranged = in_range form width (negsuc k) signed size (in_bits_negative (nat_abs width) k small);
    stored = stored_negative (nat_abs width) k n size.most sum;
  }

  signed_gives : (form : NumForm) (width : ℤ) (symbols : List Symbol) (n : ℕ) → IsSigned form → HasSize form width → n < 2 ^ nat_abs width
      → Gives form width symbols n (signed_term (signed_number (nat_abs width) n))
  signed_gives form width symbols n signed size less = by_test (Gives form width symbols n (signed_term (signed_number (nat_abs width) n))) (nat_lt n (2 ^ (nat_abs width - 1)))
      (λ h. subst (λ (z : ℤ). Gives form width symbols n (signed_term z)) (sym (chosen h)) (constant_gives form width symbols n signed size less))
      (λ h. let large : 2 ^ (nat_abs width - 1) ≤ n = at_least n (2 ^ (nat_abs width - 1)) h in
      let whole = half (nat_abs width) size.some in
      let sum : suc (2 ^ nat_abs width - n - 1) + n ≡ 2 ^ nat_abs width = omega (arith, less) in
      let small : 2 ^ nat_abs width - n - 1 < 2 ^ (nat_abs width - 1) = omega (arith, whole, large, less) in
      subst (λ (z : ℤ). Gives form width symbols n (signed_term z)) (sym (chosen h)) (negative_gives form width symbols n (2 ^ nat_abs width - n - 1) signed size sum small))
    where
      chosen : {b : Bool} → nat_lt n (2 ^ (nat_abs width - 1)) ≡ b → signed_number (nat_abs width) n ≡ (if b then pos n else negsuc (2 ^ nat_abs width - n - 1))
      chosen h = ap (λ (b : Bool). if b then pos n else negsuc (2 ^ nat_abs width - n - 1)) h

  literal_tells : (form : NumForm) (width : ℤ) (symbols : List Symbol) (n : ℕ) → IsSigned form → HasSize form width → n < 2 ^ nat_abs width → Tells form width symbols n (by_literal (nat_abs width) n)
  literal_tells form width symbols n signed size less = by_test (Tells form width symbols n (by_literal (nat_abs width) n)) (is_literal_width (nat_abs width))
      (λ h. subst (Tells form width symbols n) (sym (chosen h))
      (subst (λ (m : ℕ). Gives form width symbols n (Constant (reduced (pos m)))) (sym (literal_is (nat_abs width) n h less)) (constant_gives form width symbols n signed size less)))
      (λ h. subst (Tells form width symbols n) (sym (chosen h)) (constant_gives form width symbols n signed size less))
    where
      chosen : {b : Bool} → is_literal_width (nat_abs width) ≡ b → by_literal (nat_abs width) n ≡ (if b then in_literal (be (nat_abs width / 8) n) else by_hex (nat_abs width) n)
      chosen h = ap (λ (b : Bool). if b then in_literal (be (nat_abs width / 8) n) else by_hex (nat_abs width) n) h

  decimal_tells : (form : NumForm) (width : ℤ) (symbols : List Symbol) (unsigned : Bool) (n : ℕ) → IsSigned form → HasSize form width → n < 2 ^ nat_abs width
      → Tells form width symbols n (by_decimal unsigned (nat_abs width) n)
  decimal_tells form width symbols true n signed size less = constant_gives form width symbols n signed size less
  decimal_tells form width symbols false n signed size less = signed_gives form width symbols n signed size less

  radix_tells : (form : NumForm) (width : ℤ) (symbols : List Symbol) (radix : Radix) (unsigned : Bool) (n : ℕ) → IsSigned form → HasSize form width → n < 2 ^ nat_abs width
      → Tells form width symbols n (by_radix radix unsigned (nat_abs width) n)
  radix_tells form width symbols Plain unsigned n signed size less = decimal_tells form width symbols unsigned n signed size less
  radix_tells form width symbols Decimal unsigned n signed size less = decimal_tells form width symbols unsigned n signed size less
  radix_tells form width symbols Hex unsigned n signed size less = constant_gives form width symbols n signed size less
  radix_tells form width symbols Octal unsigned n signed size less = constant_gives form width symbols n signed size less
  radix_tells form width symbols Binary unsigned n signed size less = constant_gives form width symbols n signed size less
  radix_tells form width symbols Literal unsigned n signed size less = literal_tells form width symbols n signed size less

  -- Booleans.

  word_gives : (n : ℕ) (word : List ℕ) → n < 2 → predefined (str_to_ascii_lowercase word) ≡ Some (pos n) → Gives Boolean (pos 1) [] n (Named word)
  word_gives n word less is = record {
    value = pos n;
    given = λ mark. ap (λ (o : Option ℤ). with_fault mark (known_value word o)) is ∙ ap (λ (v : ℤ). Ok v) (wrap_small n (omega (arith, less)));
    ranged = between (pos 0) (pos 1) (pos n) (omega (arith, ints)) (omega (arith, ints, less));
    stored = sym (mod-eq_of_lt less);
  }

  truth_gives : (n : ℕ) → n < 2 → Tells Boolean (pos 1) [] n (truth n)
  truth_gives zero less = word_gives 0 (codes "false") less refl
  truth_gives (suc zero) less = word_gives 1 (codes "true") less refl
  truth_gives (suc (suc n)) less = absurd (omega (arith, less))

  digit_gives : (symbols : List Symbol) (n : ℕ) → n < 2 → Gives Boolean (pos 1) symbols n (Constant (reduced (pos n)))
  digit_gives symbols n less = record {
    value = pos n;
    given = λ mark. ap (λ (v : ℤ). Ok v) (wrap_small n (omega (arith, less)));
    ranged = between (pos 0) (pos 1) (pos n) (omega (arith, ints)) (omega (arith, ints, less));
    stored = sym (mod-eq_of_lt less);
  }

  boolean_tells : (symbols : List Symbol) (n : ℕ) → n < 2 → Tells Boolean (pos 1) symbols n (by_truth symbols n)
  boolean_tells [] n less = truth_gives n less
  boolean_tells (symbol ∷ symbols) n less = digit_gives (symbol ∷ symbols) n less

  -- a `char`
  byte_stored : (n : ℕ) → n < 2 ^ 8 → n ≡ stored_number 8 (pos (n % 256))
  byte_stored n less = omega (arith, less)

  char_tells : (symbols : List Symbol) (n : ℕ) → n < 2 ^ 8 → Tells Char (pos 8) symbols n (in_text ((n % 256) ∷ []))
  char_tells symbols n less = (n % 256, refl, refl, byte_stored n less)

  form_tells : (form : NumForm) (number : PlainNumber) (n : ℕ) → HasSize form number.width → n < 2 ^ nat_abs number.width → Tells form number.width number.symbols n (by_form form number n)
  form_tells Bits number n size less = radix_tells Bits number.width number.symbols number.radix number.unsigned n tt size less
  form_tells Byte number n size less = radix_tells Byte number.width number.symbols number.radix number.unsigned n tt size less
  form_tells Integer number n size less = radix_tells Integer number.width number.symbols number.radix number.unsigned n tt size less
  form_tells Longint number n size less = radix_tells Longint number.width number.symbols number.radix number.unsigned n tt size less
  form_tells Boolean number n size less =
      let is = width_is number.width (pos 1) size.own in
      subst (λ (x : ℤ). Tells Boolean x number.symbols n (by_truth number.symbols n)) (sym is) (boolean_tells number.symbols n (subst (λ (x : ℤ). n < 2 ^ nat_abs x) is less))
  form_tells Char number n size less =
      let is = width_is number.width (pos 8) size.own in
      subst (λ (x : ℤ). Tells Char x number.symbols n (in_text ((n % 256) ∷ []))) (sym is) (char_tells number.symbols n (subst (λ (x : ℤ). n < 2 ^ nat_abs x) is less))

  -- By a symbol.

  symbol_is : (all symbols : List Symbol) (width n : ℕ) (name : Word) → symbol_for all width n symbols ≡ Some name → is_stored width n (symbol_value all name.bytes) ≡ true
  symbol_is all [] width n name is = absurd cc
  symbol_is all (s ∷ symbols) width n name is = by_test (is_stored width n (symbol_value all name.bytes) ≡ true) (is_stored width n (symbol_value all s.name.bytes))
      (λ h. subst (λ (x : Word). is_stored width n (symbol_value all x.bytes) ≡ true) (same s.name name (rw h at is)) h)
      (λ h. symbol_is all symbols width n name (rw h at is))
    where
      same : (a b : Word) → ◌≡◌ {A = Option Word} (Some a) (Some b) → a ≡ b
      same a b e = cc

  found : (form : NumForm) (width : ℤ) (symbols : List Symbol) (name : List ℕ) (value : ℤ) → list_all (is_symbol_of form width) symbols ≡ true → symbol_value symbols name ≡ Some value
      → fits_number form width value ≡ true
  found form width [] name value all is = absurd cc
  found form width (s ∷ symbols) name value all is =
      let each = both (is_symbol_of form width s) (list_all (is_symbol_of form width) symbols) all in
      let own = both (is_symbol_name s.name.bytes) (fits_number form width s.value) each.0 in
      by_test (fits_number form width value ≡ true) (str_eq_ignore_ascii_case s.name.bytes name)
      (λ h. subst (λ (v : ℤ). fits_number form width v ≡ true) (same s.value value (rw h at is)) own.1)
      (λ h. found form width symbols name value each.1 (rw h at is))
    where
      same : (a b : ℤ) → ◌≡◌ {A = Option ℤ} (Some a) (Some b) → a ≡ b
      same a b e = cc

  named_gives : (form : NumForm) (width : ℤ) (symbols : List Symbol) (n : ℕ) (name : List ℕ) → HasSize form width → list_all (is_symbol_of form width) symbols ≡ true
      → is_stored (nat_abs width) n (symbol_value symbols name) ≡ true → Gives form width symbols n (Named name)
  named_gives form width symbols n name size all holds = go (symbol_value symbols name) refl holds
    where
      go : (o : Option ℤ) → symbol_value symbols name ≡ o → is_stored (nat_abs width) n o ≡ true → Gives form width symbols n (Named name)
      go None e h = absurd cc
      go (Some v) e h = record {
        value = reduced v;
        given = λ mark. ap (λ (o : Option ℤ). with_fault mark (known_value name o)) (sym (as_symbol symbols name v e));
        ranged = symbol_ranged form width v size (found form width symbols name v all e);
        stored = sym (eqb-true (stored_number (nat_abs width) (reduced v)) n h);
      }

  shown_tells : (hidden : List ℕ → Bool) (number : PlainNumber) (n : ℕ) → IsFormed number → n < 2 ^ nat_abs number.width
      → Tells number.form number.width number.symbols n (number_shown hidden number n)
  shown_tells hidden number n formed less = go (symbol_for number.symbols (nat_abs number.width) n number.symbols) refl
    where
      value_tells : Tells number.form number.width number.symbols n (by_value number n)
      value_tells = form_tells number.form number n formed.size less

      chosen : (name : Word) {b : Bool} → hidden name.bytes ≡ b → named_or hidden (Some name) (by_value number n) ≡ (if b then by_value number n else by_name name.bytes)
      chosen name h = ap (λ (b : Bool). if b then by_value number n else by_name name.bytes) h

      go : (o : Option Word) → symbol_for number.symbols (nat_abs number.width) n number.symbols ≡ o → Tells number.form number.width number.symbols n (named_or hidden o (by_value number n))
      go None e = value_tells
      go (Some name) e = by_test (Tells number.form number.width number.symbols n (named_or hidden (Some name) (by_value number n))) (hidden name.bytes)
          (λ h. subst (Tells number.form number.width number.symbols n) (sym (chosen name h)) value_tells)
          (λ h. subst (Tells number.form number.width number.symbols n) (sym (chosen name h))
          (named_gives number.form number.width number.symbols n name.bytes formed.size formed.symbols (symbol_is number.symbols number.symbols (nat_abs number.width) n name e)))

  -- the item of a number that is shown has that number
  pub number_item : (hidden : List ℕ → Bool) (number : PlainNumber) (n : ℕ) (one : PlainItem) → IsFormed number → n < 2 ^ nat_abs number.width
      → IsSingleItem (number_shown hidden number n) one → IsNumberOf known number one n
  number_item hidden number n one formed less is = single_item number n (number_shown hidden number n) one (shown_tells hidden number n formed less) is

  -- Points.

  integer_size : HasSize Integer (pos 16)
  integer_size = record { is = refl; some = omega arith; most = omega arith; own = refl }

  pub group_items : (count : ℕ) (numbers : List ℕ) (items : List PlainItem) → length numbers ≡ count → AllByRecursion (λ n. n < 65536) numbers → AreTermItems (map (signed_number 16) numbers) items
      → FitAll (IsNumberOf known) (replicate count (integer None)) items numbers
  group_items zero [] items long all are = subst (λ (xs : List PlainItem). FitAll (IsNumberOf known) [] xs []) (sym are) tt
  group_items zero (n ∷ numbers) items long all are = absurd (omega (arith, long))
  group_items (suc count) [] items long all are = absurd (omega (arith, long))
  group_items (suc count) (n ∷ numbers) items long all (first, rest, are, is, others) =
      let same : length numbers ≡ count = omega (arith, long) in
      subst (λ (xs : List PlainItem). FitAll (IsNumberOf known) (replicate (suc count) (integer None)) xs (n ∷ numbers)) (sym are)
      (term_item (integer None) n (signed_term (signed_number 16 n)) first (signed_gives Integer (pos 16) [] n tt integer_size all.0) is, group_items count numbers rest same all.1 others)
