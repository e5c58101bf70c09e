-- What is known of names is enough for the expressions that have them.
use Rattle.std.proofs.Common.{◌≡◌, ℕ, ℤ, pos, negsuc, Bool, true, false, ◌&&◌, ◌||◌, not, List, [], ◌∷◌, ◌++◌, Option, Some, None, Result, Ok, Err, refl, sym, ap, ◌∙◌, subst, arith}
use Rattle.std.specs.Prelude.{◌+ℤ◌, if◌then◌else◌, int_le, int_lt, option_and_then}
use Rattle.std.specs.List.{flat_map, list_all, list_any}
use Rattle.std.specs.Result.{is_ok, result_ok}
use Rattle.std.specs.Str.{str_to_ascii_lowercase}
use Rattle.std.proofs.lemmas.Bool.Decides.{nat_tests}
use Rattle.rz_core.specs.Stop.{◌>>=◌}
use Rattle.rz_core.specs.declared.facts.Facts.{Facts}
use Rattle.rz_expr.proofs.Grows as sights
use Rattle.rz_expr.specs.Environment.{count_key, place_in, place_in_key, place_key, row_in, row_key, rows_key, rows_of, Environment, IsPartOf, Key}
use Rattle.rz_expr.proofs.Items.{all_more, all_two, none_two}
use Rattle.rz_expr.specs.Mention.{alone, around, counted, fact, indexed, mentions, with_bits, Mention}
use Rattle.rz_expr.specs.Term.{BitsAt, Constant, FactOf, Indexed, Named, OfOne, OfTwo, RowNumber, RowsOf, Term}
use Rattle.rz_expr.specs.Value.{known_value, number_at, operate, operate_one, place_in_row, value_of}
use Rattle.rz_expr.specs.declared.value.EvalFault.{EvalFault}
use Rattle.rz_expr.specs.declared.value.EvalFault.TheVariants.{BadIndex}
use Rattle.rz_types.specs.Names.{FillsRows}
use Rattle.rz_types.proofs.Unknown.{has_known}
use Rattle.rz_types.specs.Readable.{all_known, is_known_there}
use Rattle.rz_types_fields.specs.Solve.{can_solve, has_key, in_64_bits, is_same_key, solve, tellable, undo_left, undo_one, undo_right, undoes_left, undoes_one, undoes_right}
use Rattle.rz_types_fields.specs.Passed.{is_held, is_known, Names, Passed}
use Rattle.rz_types_fields.specs.Sees.{hit, is_late, names_later, Late}
use Rattle.rz_types_fields.specs.Value.{see}
use Rattle.rz_types_fields.proofs.KeysIn.{has_one}
use Rattle.rz_unlay.proofs.Asked.{apart_from_rows, is_asked, of_rows}
pub use Rattle.rz_unlay.proofs.ReadsTests.{both_true, by_test, not_true}
use Rattle.rz_unlay.proofs.ReadsTests.{left_true, right_true}

-- each of these names that is asked for has a value
abbrev pub Covers : Names → Environment → Type 0
Covers known names = (key : Key) → is_asked key ≡ true → known key ≡ true → (value : ℤ) × (names.give key ≡ Some value)

-- names are known as they are in the end: a part of these, with the number of each row around, and with the places of a label in
-- all rows where their number is known
pub record IsKnownOf (known finished : Environment) : Type 0 where
  pub part : IsPartOf known finished
  pub rows : FillsRows known
  pub around : (array : List ℕ) → known.give (row_in array) ≡ finished.give (row_in array)

-- of rows as much is known as before
pub record KeepsRows (names more : Environment) : Type 0 where
  pub give : (key : Key) → of_rows key ≡ true → more.give key ≡ names.give key

pub rows_kept : (names more env : Environment) → IsKnownOf names env → KeepsRows names more → IsPartOf more env → IsKnownOf more env
rows_kept names more env stands keeps part = record {
  part = part;
  rows = record {
    give = λ label rows number is low high.
        let it = stands.rows.give label rows number (sym (keeps.give (rows_of label) refl) ∙ is) low high in (it.0, keeps.give (place_in label number) refl ∙ it.1);
  };
  around = λ array. keeps.give (row_in array) refl ∙ stands.around array;
}

not_less : (a b : ℤ) → int_lt a b ≡ false → int_le b a ≡ true
not_less (pos a) (pos b) is = grind (arith, nat_tests, is)
not_less (pos a) (negsuc b) is = refl
not_less (negsuc a) (pos b) is = absurd cc
not_less (negsuc a) (negsuc b) is = grind (arith, nat_tests, is)

-- what stands before a field is known there
pub met_known : (passed : Passed) (key : Key) → passed.met key ≡ true → is_known passed key ≡ true
met_known passed key is = right_true (passed.near key) (is_held passed key) (left_true (passed.met key) (passed.told key) is)

module _ (facts : Facts) (bits : ℤ → ℤ → Option ℤ) (met known : Names) (leads : (key : Key) → met key ≡ true → known key ≡ true) (part whole : Environment) (covers : Covers known part) (stands : IsKnownOf part whole) where
  pub name_same : (key : Key) → is_asked key ≡ true → known key ≡ true → part.give key ≡ whole.give key
  name_same key asked is = let it = covers key asked is in it.1 ∙ sym (stands.part.give key it.0 it.1)

  -- with a number of rows a label has its place in each of them
  row_same : (name : List ℕ) (number : ℤ) (rows : Option ℤ) → part.give (rows_key name) ≡ rows → place_in_row name part number rows ≡ place_in_row name whole number rows
  row_same name number None is = refl
  row_same name number (Some rows) is = by (int_lt number (pos 1)) (int_lt rows number) refl refl
    where
      by : (low high : Bool) → int_lt number (pos 1) ≡ low → int_lt rows number ≡ high
          → (if low || high then Err (BadIndex number) else known_value name (part.give (place_in_key name number)))
          ≡ (if low || high then Err (BadIndex number) else known_value name (whole.give (place_in_key name number)))
      by true high few many = refl
      by false true few many = refl
      by false false few many =
          let it = stands.rows.give (str_to_ascii_lowercase name) rows number is (not_less number (pos 1) few) (not_less rows number many) in
          ap (known_value name) (it.1 ∙ sym (stands.part.give (place_in_key name number) it.0 it.1))

  pub value_same : (term : Term) → all_known met known term ≡ true → value_of term (see facts bits part) ≡ value_of term (see facts bits whole)
  value_same (Constant number) is = refl
  value_same (Named name) is = ap (known_value name) (name_same (place_key name) refl (both_true (known (place_key name)) true is).0)
  value_same (Indexed name index) is =
      let each = both_true (known (rows_key name)) (all_known met known index) is in
      (λ i. value_same index each.1 i >>= λ number. place_in_row name part number (part.give (rows_key name)))
      ∙ (λ i. value_of index (see facts bits whole) >>= λ number. row_same name number (part.give (rows_key name)) refl i)
      ∙ (λ i. value_of index (see facts bits whole) >>= λ number. place_in_row name whole number (name_same (rows_key name) refl each.0 i))
  value_same (RowsOf name) is = ap (known_value name) (name_same (count_key name) refl (both_true (known (count_key name)) true is).0)
  value_same (RowNumber name) is = ap (known_value name) (stands.around (str_to_ascii_lowercase name))
  value_same (BitsAt name start width) is =
      let one = both_true (met (place_key name)) (list_all (is_known_there met known) (mentions start ++ mentions width)) is in
      let two = all_two (is_known_there met known) (mentions start) (mentions width) one.1 in
      λ i. known_value name (name_same (place_key name) refl (leads (place_key name) one.0) i)
      >>= λ place. value_same start two.0 i
      >>= λ behind. value_same width two.1 i
      >>= λ size. number_at (see facts bits part) (place +ℤ behind) size
  value_same (FactOf which) is = refl
  value_same (OfOne op operand) is = ap (λ (r : Result ℤ EvalFault). r >>= λ value. Ok (operate_one op value)) (value_same operand is)
  value_same (OfTwo op left right) is =
      let each = all_two (is_known_there met known) (mentions left) (mentions right) is in
      λ i. value_same left each.0 i >>= λ one. value_same right each.1 i >>= λ other. operate op one other

-- so they are late there where they are late here
module _ (facts : Facts) (bits : ℤ → ℤ → Option ℤ) (met known : Names) (leads : (key : Key) → met key ≡ true → known key ≡ true) (part whole : Environment) (covers : Covers known part) (stands : IsKnownOf part whole) where
  pub late_same : (later : Names) (late : Late) (term : Term) → all_known met known term ≡ true → is_late later late term (see facts bits part) ≡ is_late later late term (see facts bits whole)
  late_same later late term is =
      ap (λ (found : Result ℤ EvalFault). names_later later term || not (is_ok found))
      (value_same facts (λ first width. if hit late first width then None else bits first width) met known leads part whole covers stands term is)

-- Where an expression has a value, whatever else comes to be known.

pub parts_have : {X Y : Type 0} (first : Result X EvalFault) (next : X → Result Y EvalFault) (value : Y) → (first >>= next) ≡ Ok value → (x : X) × (first ≡ Ok x) × (next x ≡ Ok value)
parts_have (Ok x) next value is = (x, refl, is)
parts_have (Err fault) next value is = absurd cc

pub name_has : (name : List ℕ) (found : Option ℤ) (value : ℤ) → known_value name found ≡ Ok value → (v : ℤ) × (found ≡ Some v)
name_has name None value is = absurd cc
name_has name (Some v) value is = (v, refl)

same_ok : (a b : ℤ) → ◌≡◌ {A = Result ℤ EvalFault} (Ok a) (Ok b) → a ≡ b
same_ok a b is = cc

module _ (facts : Facts) (bits fewer : ℤ → ℤ → Option ℤ) (less : (first width value : ℤ) → fewer first width ≡ Some value → bits first width ≡ Some value) (part whole : Environment) (is_part : IsPartOf part whole) where
  same_given : (name : List ℕ) (key : Key) (value : ℤ) → known_value name (part.give key) ≡ Ok value → part.give key ≡ whole.give key
  same_given name key value is = let it = name_has name (part.give key) value is in it.1 ∙ sym (is_part.give key it.0 it.1)

  same_row : (name : List ℕ) (number value : ℤ) (rows : Option ℤ) → part.give (rows_key name) ≡ rows → place_in_row name part number rows ≡ Ok value
      → place_in_row name part number rows ≡ place_in_row name whole number (whole.give (rows_key name))
  same_row name number value None so is = absurd cc
  same_row name number value (Some rows) so is =
      by (int_lt number (pos 1) || int_lt rows number) is ∙ ap (place_in_row name whole number) (sym (is_part.give (rows_key name) rows so))
    where
      by : (bad : Bool) → (if bad then Err (BadIndex number) else known_value name (part.give (place_in_key name number))) ≡ Ok value
          → (if bad then Err (BadIndex number) else known_value name (part.give (place_in_key name number)))
          ≡ (if bad then Err (BadIndex number) else known_value name (whole.give (place_in_key name number)))
      by true is = absurd cc
      by false is = ap (known_value name) (same_given name (place_in_key name number) value is)

  -- it has the same value, or none, with fewer bits
  pub hidden_same : (term : Term) (value : ℤ) → value_of term (see facts bits part) ≡ Ok value → value_of term (see facts fewer part) ≡ value_of term (see facts fewer whole)
  hidden_same (Constant number) value is = refl
  hidden_same (Named name) value is = ap (known_value name) (same_given name (place_key name) value is)
  hidden_same (Indexed name index) value is =
      let one = parts_have (value_of index (see facts bits part)) _ value is in
      let same = hidden_same index one.0 one.1 in
      by one.0 one.1 one.2 (value_of index (see facts fewer part)) refl ∙ ap (λ (r : Result ℤ EvalFault). r >>= λ number. place_in_row name whole number (whole.give (rows_key name))) same
    where
      by : (n : ℤ) → value_of index (see facts bits part) ≡ Ok n → place_in_row name part n (part.give (rows_key name)) ≡ Ok value
          → (found : Result ℤ EvalFault) → value_of index (see facts fewer part) ≡ found
          → (found >>= λ number. place_in_row name part number (part.give (rows_key name))) ≡ (found >>= λ number. place_in_row name whole number (whole.give (rows_key name)))
      by n own there (Err fault) so = refl
      by n own there (Ok number) so =
          let grown = sights.value_grows (see facts fewer part) (see facts bits part)
          (record { names = record { give = λ key v found. found }; bits = less; fact = λ which. refl }) index number so in
          let one : n ≡ number = same_ok n number (sym own ∙ grown) in
          same_row name number value (part.give (rows_key name)) refl (subst (λ (m : ℤ). place_in_row name part m (part.give (rows_key name)) ≡ Ok value) one there)
  hidden_same (RowsOf name) value is = ap (known_value name) (same_given name (count_key name) value is)
  hidden_same (RowNumber name) value is = ap (known_value name) (same_given name (row_key name) value is)
  hidden_same (BitsAt name start width) value is =
      let one = parts_have (known_value name (part.give (place_key name))) _ value is in
      let two = parts_have (value_of start (see facts bits part)) _ value one.2 in
      let three = parts_have (value_of width (see facts bits part)) _ value two.2 in
      λ i. known_value name (same_given name (place_key name) one.0 one.1 i)
      >>= λ place. hidden_same start two.0 two.1 i
      >>= λ behind. hidden_same width three.0 three.1 i
      >>= λ size. number_at (see facts fewer part) (place +ℤ behind) size
  hidden_same (FactOf which) value is = refl
  hidden_same (OfOne op operand) value is =
      let one = parts_have (value_of operand (see facts bits part)) _ value is in
      ap (λ (r : Result ℤ EvalFault). r >>= λ value. Ok (operate_one op value)) (hidden_same operand one.0 one.1)
  hidden_same (OfTwo op left right) value is =
      let one = parts_have (value_of left (see facts bits part)) _ value is in
      let two = parts_have (value_of right (see facts bits part)) _ value one.2 in
      λ i. hidden_same left one.0 one.1 i >>= λ one. hidden_same right two.0 two.1 i >>= λ other. operate op one other

-- so it is late in the end where it is late before that
module _ (facts : Facts) (bits : ℤ → ℤ → Option ℤ) (part whole : Environment) (is_part : IsPartOf part whole) where
  pub late_hidden : (later : Names) (late : Late) (term : Term) (value : ℤ) → value_of term (see facts bits part) ≡ Ok value
      → is_late later late term (see facts bits part) ≡ is_late later late term (see facts bits whole)
  late_hidden later late term value is =
      ap (λ (found : Result ℤ EvalFault). names_later later term || not (is_ok found))
      (hidden_same facts bits (λ first width. if hit late first width then None else bits first width) (λ first width v. shown (hit late first width) (bits first width) v) part whole is_part term value is)
    where
      shown : (test : Bool) (own : Option ℤ) (v : ℤ) → (if test then None else own) ≡ Some v → own ≡ Some v
      shown true own v is = absurd cc
      shown false own v is = is

-- Names that are known.

-- where more is known, the names of an expression still are
module _ (met known more_met more : Names) (one : (key : Key) → met key ≡ true → more_met key ≡ true) (other : (key : Key) → known key ≡ true → more key ≡ true) where
  one_still : (name : Mention) → is_known_there met known name ≡ true → is_known_there more_met more name ≡ true
  one_still (alone name) is = other (place_key name) is
  one_still (indexed name) is = other (rows_key name) is
  one_still (counted name) is = other (count_key name) is
  one_still (around name) is = refl
  one_still (with_bits name) is = one (place_key name) is
  one_still (fact which) is = refl

  pub still_known : (term : Term) → all_known met known term ≡ true → all_known more_met more term ≡ true
  still_known term is = all_more (is_known_there met known) (is_known_there more_met more) one_still (mentions term) is

-- an expression without a name knows the others
module _ (met known : Names) (key : Key) (plain : of_rows key ≡ false) where
  abbrev with_key : Names
  with_key other = is_same_key key other || known other

  without : (other : Key) → is_same_key key other ≡ false → with_key other ≡ true → known other ≡ true
  without other differ is = sym (ap (λ (b : Bool). b || known other) differ) ∙ is

  one_other : (one : Mention) → list_any (is_same_key key) (tellable one) ≡ false → is_known_there met with_key one ≡ true → is_known_there met known one ≡ true
  one_other (alone name) absent is = without (place_key name) (sym (has_one key (place_key name)) ∙ absent) is
  one_other (indexed name) absent is = without (rows_key name) (apart_from_rows key (rows_key name) plain refl) is
  one_other (counted name) absent is = without (count_key name) (sym (has_one key (count_key name)) ∙ absent) is
  one_other (around name) absent is = refl
  one_other (with_bits name) absent is = is
  one_other (fact which) absent is = refl

  each_other : (all : List Mention) → list_any (is_same_key key) (flat_map tellable all) ≡ false → list_all (is_known_there met with_key) all ≡ true → list_all (is_known_there met known) all ≡ true
  each_other [] absent is = refl
  each_other (one ∷ others) absent is =
      let none = none_two (is_same_key key) (tellable one) (flat_map tellable others) absent in
      let each = both_true (is_known_there met with_key one) (list_all (is_known_there met with_key) others) is in
      rw (one_other one none.0 each.0, each_other others none.1 each.1) refl

  pub others_known : (term : Term) → has_key key term ≡ false → all_known met (λ other. is_same_key key other || known other) term ≡ true → all_known met known term ≡ true
  others_known term absent is = each_other (mentions term) absent is

-- a name of an expression whose names are known is known
pub its_known : (met known : Names) (leads : (key : Key) → met key ≡ true → known key ≡ true) (key : Key) (term : Term) → all_known met known term ≡ true → has_key key term ≡ true → known key ≡ true
its_known met known leads key term is has = has_known met known leads term key is has

-- What is solved is the same.

module _ (facts : Facts) (bits : ℤ → ℤ → Option ℤ) (met known : Names) (leads : (key : Key) → met key ≡ true → known key ≡ true) (part whole : Environment) (covers : Covers known part) (stands : IsKnownOf part whole) (key : Key) (plain : of_rows key ≡ false) where
  pub solve_same : (term : Term) → can_solve key term ≡ true → all_known met (λ other. is_same_key key other || known other) term ≡ true → (number : ℤ)
      → solve key (see facts bits part) term number ≡ solve key (see facts bits whole) term number
  solve_same (Constant other) can is number = refl
  solve_same (Named name) can is number = refl
  solve_same (Indexed name index) can is number = refl
  solve_same (RowsOf name) can is number = refl
  solve_same (RowNumber name) can is number = refl
  solve_same (BitsAt name start width) can is number = refl
  solve_same (FactOf which) can is number = refl
  solve_same (OfOne op operand) can is number =
      let each = both_true (undoes_one op) (can_solve key operand) can in
      ap (λ (solved : ℤ → Option ℤ). option_and_then solved (option_and_then in_64_bits (undo_one op number)))
      (λ i n. solve_same operand each.1 is n i)
  solve_same (OfTwo op left right) can is number =
      let sides = all_two (is_known_there met (λ other. is_same_key key other || known other)) (mentions left) (mentions right) is in
      by_test (has_key key left) _ _
      (λ there one.
      let second = both_true (undoes_left op && not (has_key key right)) (can_solve key left) one in
      let first = both_true (undoes_left op) (not (has_key key right)) second.0 in
      let side = value_same facts bits met known leads part whole covers stands right (others_known met known key plain right (not_true (has_key key right) first.1) sides.1) in
      (λ i. if there i then option_and_then (λ side. option_and_then (solve key (see facts bits part) left) (option_and_then in_64_bits (undo_left op side number))) (result_ok (value_of right (see facts bits part)))
      else option_and_then (λ side. option_and_then (solve key (see facts bits part) right) (option_and_then in_64_bits (undo_right op side number))) (result_ok (value_of left (see facts bits part))))
      ∙ (λ i. option_and_then (λ side. option_and_then (λ n. solve_same left second.1 sides.0 n i) (option_and_then in_64_bits (undo_left op side number))) (result_ok (side i)))
      ∙ sym (λ i. if there i then option_and_then (λ side. option_and_then (solve key (see facts bits whole) left) (option_and_then in_64_bits (undo_left op side number))) (result_ok (value_of right (see facts bits whole)))
      else option_and_then (λ side. option_and_then (solve key (see facts bits whole) right) (option_and_then in_64_bits (undo_right op side number))) (result_ok (value_of left (see facts bits whole)))))
      (λ absent other.
      let first = both_true (undoes_right op) _ other in
      let side = value_same facts bits met known leads part whole covers stands left (others_known met known key plain left absent sides.0) in
      (λ i. if absent i then option_and_then (λ side. option_and_then (solve key (see facts bits part) left) (option_and_then in_64_bits (undo_left op side number))) (result_ok (value_of right (see facts bits part)))
      else option_and_then (λ side. option_and_then (solve key (see facts bits part) right) (option_and_then in_64_bits (undo_right op side number))) (result_ok (value_of left (see facts bits part))))
      ∙ (λ i. option_and_then (λ side. option_and_then (λ n. solve_same right first.1 sides.1 n i) (option_and_then in_64_bits (undo_right op side number))) (result_ok (side i)))
      ∙ sym (λ i. if absent i then option_and_then (λ side. option_and_then (solve key (see facts bits whole) left) (option_and_then in_64_bits (undo_left op side number))) (result_ok (value_of right (see facts bits whole)))
      else option_and_then (λ side. option_and_then (solve key (see facts bits whole) right) (option_and_then in_64_bits (undo_right op side number))) (result_ok (value_of left (see facts bits whole)))))
      can
