-- What expressions see beside the bits of late numbers.
use Rattle.std.proofs.Common.{◌≡◌, ℕ, ◌+◌, ℤ, pos, negsuc, ◌+ℤ◌, Bool, true, false, ◌||◌, not, List, ◌++◌, length, take, drop, Option, Some, None, Result, Ok, Err, ◌⊎◌, inl, inr, refl, sym, ap, ◌∙◌, subst}
use Rattle.std.specs.Prelude.{if◌then◌else◌, nat_le, option_map, int_lt}
use Rattle.std.specs.List.{list_any}
use Rattle.rz_core.proofs.Tests.{or_false, true_false}
use Rattle.rz_core.specs.Stop.{◌>>=◌}
use Rattle.rz_core.specs.declared.facts.Facts.{Facts}
use Rattle.rz_bits.specs.Bits.{number_of}
use Rattle.std.specs.Str.{str_to_ascii_lowercase}
use Rattle.rz_expr.specs.Environment.{count_key, count_of, place_in, place_in_key, place_key, place_of, row_in, row_key, rows_key, rows_of, Environment, Key, Sight}
use Rattle.rz_expr.specs.Mention.{alone, around, counted, fact, indexed, mentions, with_bits, Mention}
use Rattle.rz_expr.specs.Term.{BitsAt, Constant, FactOf, Indexed, Named, OfOne, OfTwo, RowNumber, RowsOf, Term}
use Rattle.rz_expr.specs.Value.{known_bits, known_value, number_at, operate, operate_one, place_in_row, reduced, value_of}
use Rattle.rz_expr.specs.declared.value.EvalFault.{EvalFault}
use Rattle.rz_expr.specs.declared.value.EvalFault.TheVariants.{BadIndex, DataWidth, LaterData}
use Rattle.rz_words.specs.declared.words.FactWord.{FactWord}
use Rattle.rz_types_fields.specs.Laid.{reads_late}
use Rattle.rz_types_fields.specs.Passed.{Names}
use Rattle.rz_expr.proofs.Items.{none_any, none_two}
use Rattle.rz_types_fields.specs.Sees as later
use Rattle.rz_types_fields.specs.Sees.{beside, bits_before, hit, names_later, sees, Late}
use Rattle.rz_layout.proofs.Later.{is_later}

-- Environments that are alike.

-- the place of a label in a row
abbrev pub is_in_row : Key → Bool
is_in_row (place_of name) = false
is_in_row (count_of name) = false
is_in_row (rows_of name) = false
is_in_row (place_in name number) = true
is_in_row (row_in name) = false

-- the number is that of one of so many rows
abbrev pub IsRowIn : (rows number : ℤ) → Type 0
IsRowIn rows number = (int_lt number (pos 1) || int_lt rows number) ≡ false

-- what doesn't stand later has the same values in both: names by themselves, and labels in rows in each of these
pub record Alike (met : Names) (one other : Environment) : Type 0 where
  pub names : (key : Key) → is_in_row key ≡ false → is_later met key ≡ false → one.give key ≡ other.give key
  pub places : (label : List ℕ) (rows number : ℤ) → met (rows_of label) ≡ true → other.give (rows_of label) ≡ Some rows → IsRowIn rows number
      → one.give (place_in label number) ≡ other.give (place_in label number)

pub not_false : (b : Bool) → not b ≡ false → b ≡ true
not_false true is = refl
not_false false is = absurd (true_false is)

pub not_true : (b : Bool) → not b ≡ true → b ≡ false
not_true true is = absurd (true_false (sym is))
not_true false is = refl

-- Names that are alike, the same bits and facts: the same value.

module _ (met : Names) (one other : Sight) (names : Alike met one.names other.names)
    (bits : (first width : ℤ) → one.bits first width ≡ other.bits first width) (facts : (which : FactWord) → one.fact which ≡ other.fact which) where
  data_same : (place start width : Result ℤ EvalFault)
      → (place >>= λ p. start >>= λ s. width >>= λ w. number_at one (p +ℤ s) w) ≡ (place >>= λ p. start >>= λ s. width >>= λ w. number_at other (p +ℤ s) w)
  data_same (Err fault) start width = refl
  data_same (Ok place) (Err fault) width = refl
  data_same (Ok place) (Ok start) (Err fault) = refl
  data_same (Ok place) (Ok start) (Ok width) =
      ap (λ (found : Option ℤ). if int_lt width (pos 1) || int_lt (pos 32) width then Err (DataWidth width) else known_bits (place +ℤ start) width found) (bits (place +ℤ start) width)

  index_same : (name : List ℕ) (rows : Option ℤ) → met (rows_key name) ≡ true → other.names.give (rows_key name) ≡ rows → (number : ℤ)
      → place_in_row name one.names number rows ≡ place_in_row name other.names number rows
  index_same name None was is number = refl
  index_same name (Some rows) was is number = by (int_lt number (pos 1) || int_lt rows number) refl
    where
      by : (test : Bool) → (int_lt number (pos 1) || int_lt rows number) ≡ test
          → (if test then Err (BadIndex number) else known_value name (one.names.give (place_in_key name number))) ≡ (if test then Err (BadIndex number) else known_value name (other.names.give (place_in_key name number)))
      by true out = refl
      by false within = ap (known_value name) (names.places (str_to_ascii_lowercase name) rows number was is within)

  row_same : (name : List ℕ) → met (rows_key name) ≡ true → (index : Result ℤ EvalFault)
      → (index >>= λ number. place_in_row name one.names number (other.names.give (rows_key name))) ≡ (index >>= λ number. place_in_row name other.names number (other.names.give (rows_key name)))
  row_same name was (Ok number) = index_same name (other.names.give (rows_key name)) was refl number
  row_same name was (Err fault) = refl

  pub value_same : (term : Term) → names_later met term ≡ false → value_of term one ≡ value_of term other
  value_same (Constant number) none = refl
  value_same (Named name) none = ap (known_value name) (names.names (place_key name) refl (or_false (is_later met (place_key name)) false none).0)
  value_same (Indexed name index) none =
      let each = or_false (is_later met (rows_key name)) (names_later met index) none in
      ap (λ (r : Result ℤ EvalFault). r >>= λ number. place_in_row name one.names number (one.names.give (rows_key name))) (value_same index each.1)
      ∙ ap (λ (o : Option ℤ). value_of index other >>= λ number. place_in_row name one.names number o) (names.names (rows_key name) refl each.0)
      ∙ row_same name (not_false (met (rows_key name)) each.0) (value_of index other)
  value_same (RowsOf name) none = ap (known_value name) (names.names (count_key name) refl refl)
  value_same (RowNumber name) none = ap (known_value name) (names.names (row_key name) refl refl)
  value_same (BitsAt name start width) none =
      let here = or_false (is_later met (place_key name)) (list_any (later.is_later met) (mentions start ++ mentions width)) none in
      let each = none_two (later.is_later met) (mentions start) (mentions width) here.1 in
      ap (λ (o : Option ℤ). known_value name o >>= λ p. value_of start one >>= λ s. value_of width one >>= λ w. number_at one (p +ℤ s) w) (names.names (place_key name) refl here.0)
      ∙ ap (λ (o : Result ℤ EvalFault). known_value name (other.names.give (place_key name)) >>= λ p. o >>= λ s. value_of width one >>= λ w. number_at one (p +ℤ s) w) (value_same start each.0)
      ∙ ap (λ (o : Result ℤ EvalFault). known_value name (other.names.give (place_key name)) >>= λ p. value_of start other >>= λ s. o >>= λ w. number_at one (p +ℤ s) w) (value_same width each.1)
      ∙ data_same (known_value name (other.names.give (place_key name))) (value_of start other) (value_of width other)
  value_same (FactOf which) none = ap (λ (z : ℤ). Ok (reduced z)) (facts which)
  value_same (OfOne op operand) none = ap (λ (r : Result ℤ EvalFault). r >>= λ v. Ok (operate_one op v)) (value_same operand none)
  value_same (OfTwo op left right) none =
      let each = none_two (later.is_later met) (mentions left) (mentions right) none in
      ap (λ (r : Result ℤ EvalFault). r >>= λ a. value_of right one >>= λ b. operate op a b) (value_same left each.0)
      ∙ ap (λ (r : Result ℤ EvalFault). value_of left other >>= λ a. r >>= λ b. operate op a b) (value_same right each.1)

-- where all names were met none stands later
abbrev pub every : Names
every key = true

pub every_early : (key : Key) → is_later every key ≡ false
every_early (place_of name) = refl
every_early (count_of name) = refl
every_early (rows_of name) = refl
every_early (place_in name number) = refl
every_early (row_in name) = refl

none_later : (one : Mention) → later.is_later every one ≡ false
none_later (alone name) = refl
none_later (indexed name) = refl
none_later (counted name) = refl
none_later (around name) = refl
none_later (with_bits name) = refl
none_later (fact which) = refl

pub nothing_later : (term : Term) → names_later every term ≡ false
nothing_later term = none_any (later.is_later every) none_later (mentions term)

-- Beside late bits the value is the same, or a late bit is read.

abbrev pub Hides : ℕ → Result ℤ EvalFault → Result ℤ EvalFault → Type 0
Hides at found value = (found ≡ value) ⊎ ((fault : EvalFault) × (found ≡ Err fault) × (reads_late at fault ≡ true))

hides_then : (at : ℕ) (found value : Result ℤ EvalFault) (one other : ℤ → Result ℤ EvalFault) → Hides at found value → ((z : ℤ) → Hides at (one z) (other z)) → Hides at (found >>= one) (value >>= other)
hides_then at found value one other (inl same) next = subst (λ (r : Result ℤ EvalFault). Hides at (r >>= one) (value >>= other)) (sym same) (over value)
  where
    over : (value : Result ℤ EvalFault) → Hides at (value >>= one) (value >>= other)
    over (Ok z) = next z
    over (Err fault) = inl refl
hides_then at found value one other (inr late) next = inr (late.0, ap (λ (r : Result ℤ EvalFault). r >>= one) late.1, late.2)

module _ (late : Late) (all : List Bool) (at : ℕ) (within : length (take at all) ≡ at) where
  abbrev window : Bool → ℕ → ℕ → Option ℤ
  window there first width = option_map (λ (number : ℕ). pos number) (option_map number_of (if there then Some (take width (drop first (take at all))) else None))

  hides_window : (first width : ℕ) (touched there : Bool) → nat_le (first + width) (length (take at all)) ≡ there
      → Hides at (known_bits (pos first) (pos width) (if touched then None else window there first width)) (known_bits (pos first) (pos width) (window there first width))
  hides_window first width false there is = inl refl
  hides_window first width true false is = inl refl
  hides_window first width true true is = inr (LaterData (pos first) (pos (first + width)), refl, ap (nat_le (first + width)) (sym within) ∙ is)

  hides_bits : (first width : ℤ) → Hides at (known_bits first width (if hit late first width then None else bits_before all at first width)) (known_bits first width (bits_before all at first width))
  hides_bits (pos first) (pos width) = hides_window first width (hit late (pos first) (pos width)) (nat_le (first + width) (length (take at all))) refl
  hides_bits (pos first) (negsuc width) = inl refl
  hides_bits (negsuc first) (pos width) = inl refl
  hides_bits (negsuc first) (negsuc width) = inl refl

  hides_width : (test : Bool) (width : ℤ) (found value : Result ℤ EvalFault) → Hides at found value → Hides at (if test then Err (DataWidth width) else found) (if test then Err (DataWidth width) else value)
  hides_width true width found value is = inl refl
  hides_width false width found value is = is

  module _ (known : Facts) (names : Environment) where
    pub hidden : (term : Term) → Hides at (value_of term (beside late (sees known all names at))) (value_of term (sees known all names at))
    hidden (Constant number) = inl refl
    hidden (Named name) = inl refl
    hidden (Indexed name index) = hides_then at _ _ _ _ (hidden index) (λ z. inl refl)
    hidden (RowsOf name) = inl refl
    hidden (RowNumber name) = inl refl
    hidden (BitsAt name start width) =
        hides_then at (known_value name (names.give (place_key name))) (known_value name (names.give (place_key name))) _ _ (inl refl)
        (λ p. hides_then at _ _ _ _ (hidden start) (λ s. hides_then at _ _ _ _ (hidden width)
        (λ w. hides_width (int_lt w (pos 1) || int_lt (pos 32) w) w _ _ (hides_bits (p +ℤ s) w))))
    hidden (FactOf which) = inl refl
    hidden (OfOne op operand) = hides_then at _ _ _ _ (hidden operand) (λ z. inl refl)
    hidden (OfTwo op left right) = hides_then at _ _ _ _ (hidden left) (λ a. hides_then at _ _ _ _ (hidden right) (λ b. inl refl))
