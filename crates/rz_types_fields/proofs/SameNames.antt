-- Names of expressions, compared in whatever case or in lower case.
use Rattle.std.proofs.Common.{◌≡◌, ℕ, ◌==◌, ◌&&◌, ◌||◌, ℤ, Bool, true, false, List, [], ◌∷◌, refl, sym, ap}
use Rattle.std.specs.Option.{is_some}
use Rattle.std.specs.Char.{eq_ignore_ascii_case, to_ascii_lowercase}
use Rattle.std.specs.Ordering.{int_eq}
use Rattle.std.specs.Str.{str_eq_ignore_ascii_case, str_to_ascii_lowercase}
use Rattle.std.proofs.lemmas.Bool.{and_parts, eqb-true, eq-eqb}
use Rattle.std.proofs.lemmas.Bool.Decides.{Decides-int_eq}
use Rattle.std.proofs.lemmas.Str.Ascii.{lowercase-lowercase}
use Rattle.rz_core.proofs.Tests.{and_so}
use Rattle.rz_expr.specs.Constant.{predefined_key}
use Rattle.rz_expr.specs.Environment.{count_of, place_in, place_of, predefined, row_in, rows_of, Key}
use Rattle.rz_types_fields.specs.Solve.{is_same_key, is_same_name}
use Rattle.rz_types_fields.specs.Passed.{is_known, nothing_passed}

-- Names.

pub same_name : (one other : List ℕ) → str_eq_ignore_ascii_case one other ≡ is_same_name (str_to_ascii_lowercase one) (str_to_ascii_lowercase other)
same_name [] [] = refl
same_name [] (o ∷ other) = refl
same_name (n ∷ one) [] = refl
same_name (n ∷ one) (o ∷ other) = ap (λ (same : Bool). eq_ignore_ascii_case n o && same) (same_name one other)

same_byte : (a b : ℕ) → eq_ignore_ascii_case a (to_ascii_lowercase b) ≡ eq_ignore_ascii_case a b
same_byte a b = ap (λ n. to_ascii_lowercase a == n) (lowercase-lowercase b)

pub lower_name : (own name : List ℕ) → str_eq_ignore_ascii_case own (str_to_ascii_lowercase name) ≡ str_eq_ignore_ascii_case own name
lower_name [] [] = refl
lower_name [] (n ∷ name) = refl
lower_name (o ∷ own) [] = refl
lower_name (o ∷ own) (n ∷ name) = λ i. same_byte o n i && lower_name own name i

or_false : (a : Bool) → (a || false) ≡ a
or_false true = refl
or_false false = refl

-- what has a value outside of all fields is known there
pub outside_is : (key : Key) → is_some (predefined_key key) ≡ is_known nothing_passed key
outside_is (place_of name) = sym (or_false (is_some (predefined name)))
outside_is (count_of name) = refl
outside_is (rows_of label) = refl
outside_is (place_in label number) = refl
outside_is (row_in array) = refl

-- Keys.

name_is : (one other : List ℕ) → is_same_name one other ≡ true → one ≡ other
name_is [] [] is = refl
name_is [] (o ∷ other) is = absurd cc
name_is (n ∷ one) [] is = absurd cc
name_is (n ∷ one) (o ∷ other) is =
    let parts = and_parts (n == o) (is_same_name one other) is in
    λ i. eqb-true n o parts.0 i ∷ name_is one other parts.1 i

number_is : (one other : ℤ) → int_eq one other ≡ true → one ≡ other
number_is one other is = (Decides-int_eq one other).0 is

number_itself : (number : ℤ) → int_eq number number ≡ true
number_itself number = (Decides-int_eq number number).1 refl

-- keys that are found the same are one
pub key_is : (one other : Key) → is_same_key one other ≡ true → one ≡ other
key_is (place_of one) (place_of other) is = ap place_of (name_is one other is)
key_is (place_of one) (count_of other) is = absurd cc
key_is (place_of one) (rows_of other) is = absurd cc
key_is (place_of one) (place_in other number) is = absurd cc
key_is (place_of one) (row_in other) is = absurd cc
key_is (count_of one) (place_of other) is = absurd cc
key_is (count_of one) (count_of other) is = ap count_of (name_is one other is)
key_is (count_of one) (rows_of other) is = absurd cc
key_is (count_of one) (place_in other number) is = absurd cc
key_is (count_of one) (row_in other) is = absurd cc
key_is (rows_of one) (place_of other) is = absurd cc
key_is (rows_of one) (count_of other) is = absurd cc
key_is (rows_of one) (rows_of other) is = ap rows_of (name_is one other is)
key_is (rows_of one) (place_in other number) is = absurd cc
key_is (rows_of one) (row_in other) is = absurd cc
key_is (place_in one row) (place_of other) is = absurd cc
key_is (place_in one row) (count_of other) is = absurd cc
key_is (place_in one row) (rows_of other) is = absurd cc
key_is (place_in one row) (place_in other number) is =
    let parts = and_parts (is_same_name one other) (int_eq row number) is in
    λ i. place_in (name_is one other parts.0 i) (number_is row number parts.1 i)
key_is (place_in one row) (row_in other) is = absurd cc
key_is (row_in one) (place_of other) is = absurd cc
key_is (row_in one) (count_of other) is = absurd cc
key_is (row_in one) (rows_of other) is = absurd cc
key_is (row_in one) (place_in other number) is = absurd cc
key_is (row_in one) (row_in other) is = ap row_in (name_is one other is)

name_itself : (name : List ℕ) → is_same_name name name ≡ true
name_itself [] = refl
name_itself (n ∷ name) = and_so (n == n) (is_same_name name name) (eq-eqb n n refl) (name_itself name)

pub key_itself : (key : Key) → is_same_key key key ≡ true
key_itself (place_of name) = name_itself name
key_itself (count_of name) = name_itself name
key_itself (rows_of label) = name_itself label
key_itself (place_in label number) = and_so (is_same_name label label) (int_eq number number) (name_itself label) (number_itself number)
key_itself (row_in array) = name_itself array
