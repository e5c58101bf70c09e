-- What a count stores, and how many rows that tells.
use Rattle.std.proofs.Common.{◌≡◌, ℕ, zero, suc, ◌+◌, ◌%◌, ◌^◌, ◌≤◌, ℤ, pos, negsuc, Bool, true, false, ◌||◌, Option, Some, None, Ok, refl, sym, ap, subst, ◌∙◌, arith}
use Rattle.std.specs.Prelude.{◌-ℤ◌, ◌+ℤ◌, nat_le, if◌then◌else◌, option_and_then, option_map}
use Rattle.std.specs.Result.{result_ok}
use Rattle.std.specs.Int.{cast_unsigned, int_wrap, w32, w64}
use Rattle.std.proofs.Math.IntN.{ -ℤ_one}
use Rattle.std.proofs.lemmas.Bool.Decides.{nat_tests}
use Rattle.std.proofs.lemmas.Int.{int_wrap_fits}
use Rattle.rz_core.specs.Stop.{◌>>=◌}
use Rattle.rz_expr.specs.Environment.{Key, Sight}
use Rattle.rz_expr.specs.Term.{Constant}
use Rattle.rz_expr.specs.Value.{known_value, reduced, value_of}
use Rattle.rz_tmpl.specs.Body.{list_name, rows_term}
use Rattle.rz_expr.specs.declared.expr.BinaryOp.TheVariants.{Minus}
use Rattle.rz_tmpl.proofs.Closed.{list_key, same_list}
use Rattle.rz_tmpl.proofs.Kept.{no_more}
use Rattle.rz_tmpl.specs.declared.entry.CountForm.{CountForm}
use Rattle.rz_tmpl.specs.declared.entry.CountForm.TheVariants.{LessOne, Rows}
use Rattle.rz_tmpl_laws.specs.Says.{stored_count}
use Rattle.rz_types_fields.specs.Range.{fits_number}
use Rattle.rz_types_fields.specs.Solve.{found_if, in_64_bits, solve, solved_count, undo_right, IsSolvedTo, SolvesBack}
use Rattle.rz_types_fields.specs.Stored.{stored_number}
use Rattle.rz_types_fields.specs.declared.field.NumForm.TheVariants.{Integer}

abbrev pub count_value : (less : CountForm) → ℕ → ℤ
count_value Rows rows = pos rows
count_value LessOne zero = negsuc 0
count_value LessOne (suc rows) = pos rows

small_reduced : (rows : ℕ) → rows ≤ 65535 → reduced (pos rows) ≡ pos rows
small_reduced rows few = int_wrap_fits w32 (pos rows) (omega (arith, few))

one_before : (rows : ℕ) → pos rows -ℤ pos 1 ≡ count_value LessOne rows
one_before zero = refl
one_before (suc rows) = -ℤ_one (pos (suc rows))

less_fits : (rows : ℕ) → rows ≤ 65535 → int_wrap w32 (count_value LessOne rows) ≡ count_value LessOne rows
less_fits zero few = int_wrap_fits w32 (negsuc 0) (omega arith)
less_fits (suc rows) few = int_wrap_fits w32 (pos rows) (omega (arith, few))

one_less : (rows : ℕ) → rows ≤ 65535 → reduced (pos rows -ℤ pos 1) ≡ count_value LessOne rows
one_less rows few = ap reduced (one_before rows) ∙ less_fits rows few

pub value_is : (less : CountForm) (n rows : ℕ) (sight : Sight) → sight.names.give (list_key n) ≡ Some (pos rows) → rows ≤ 65535
    → value_of (rows_term less n) sight ≡ Ok (count_value less rows)
value_is Rows n rows sight given few = ap (known_value (list_name n).bytes) given ∙ ap Ok (small_reduced rows few)
value_is LessOne n rows sight given few =
    ap (λ (o : Option ℤ). known_value (list_name n).bytes o >>= λ one. Ok (reduced (one -ℤ pos 1))) given
    ∙ ap (λ (z : ℤ). Ok (reduced (z -ℤ pos 1))) (small_reduced rows few) ∙ ap Ok (one_less rows few)

pub fits_is : (less : CountForm) (rows : ℕ) → rows ≤ 65535 → fits_number Integer (pos 16) (count_value less rows) ≡ true
fits_is Rows rows few = grind (arith, nat_tests, few)
fits_is LessOne zero few = refl
fits_is LessOne (suc rows) few = grind (arith, nat_tests, few)

pub stored_is : (less : CountForm) (rows : ℕ) → rows ≤ 65535 → stored_number 16 (count_value less rows) ≡ stored_count less rows
stored_is Rows rows few = omega (arith, few)
stored_is LessOne zero few = refl
stored_is LessOne (suc rows) few = omega (arith, few)

-- What it tells.

abbrev told_count : ℤ → ℤ
told_count count = pos (cast_unsigned w64 count % 2 ^ 16)

below_all : (known : Bool) (solved : Option ℤ) (rows : ℕ) → known ≡ false → IsSolvedTo known (option_map told_count solved) (Some (pos rows)) → rows ≤ 65535
below_all true solved rows unknown is = no_more unknown
below_all false None rows unknown is = absurd cc
below_all false (Some count) rows unknown is =
    let same : cast_unsigned w64 count % 65536 ≡ rows = cc in
    omega (arith, same)

-- a count that wasn't known before is told by 16 bits
pub few_rows : (less : CountForm) (n rows stored : ℕ) (known : Key → Bool) (sight : Sight) → known (list_key n) ≡ false → sight.names.give (list_key n) ≡ Some (pos rows)
    → SolvesBack known 16 sight (rows_term less n) stored → rows ≤ 65535
few_rows Rows n rows stored known sight unknown given solves =
    below_all (known (list_key n)) (solve (list_key n) sight (rows_term Rows n) (pos stored)) rows unknown
    (subst (λ (o : Option ℤ). IsSolvedTo (known (list_key n)) (solved_count 16 (list_key n) sight (rows_term Rows n) stored) o) given solves.0)
few_rows LessOne n rows stored known sight unknown given solves =
    below_all (known (list_key n)) (solve (list_key n) sight (rows_term LessOne n) (pos stored)) rows unknown
    (subst (λ (o : Option ℤ). IsSolvedTo (known (list_key n)) (solved_count 16 (list_key n) sight (rows_term LessOne n) stored) o) given solves.0)

solved_to : (known : Bool) (solved value : Option ℤ) → solved ≡ value → IsSolvedTo known solved value
solved_to true solved value is = tt
solved_to false solved value is = is

in_range : (n : ℕ) → n ≤ 65536 → in_64_bits (pos n) ≡ Some (pos n)
in_range n few = let fits : nat_le n 9223372036854775807 ≡ true = grind (arith, nat_tests, few) in ap (λ (t : Bool). if t then Some (pos n) else None) fits

told_rows : (rows : ℕ) → rows ≤ 65535 → stored_count Rows rows % 65536 ≡ rows
told_rows rows few = omega (arith, few)

told_less : (rows : ℕ) → rows ≤ 65535 → (stored_count LessOne rows + 1) % 65536 ≡ rows
told_less rows few = omega (arith, few)

solved_is : (less : CountForm) (n rows : ℕ) (sight : Sight) → rows ≤ 65535 → solved_count 16 (list_key n) sight (rows_term less n) (stored_count less rows) ≡ Some (pos rows)
solved_is Rows n rows sight few =
    ap (λ (t : Bool). option_map told_count (found_if t (pos rows))) (same_list n) ∙ ap (λ (m : ℕ). Some (pos m)) (told_rows rows few)
solved_is LessOne n rows sight few =
    let stored = stored_count LessOne rows in
    let left = solve (list_key n) sight (rows_term Rows n) in
    let other : Option ℤ = option_and_then (λ side. option_and_then (solve (list_key n) sight (Constant (pos 1))) (option_and_then in_64_bits (undo_right Minus side (pos stored))))
    (result_ok (value_of (rows_term Rows n) sight)) in
    ap (λ (t : Bool). option_map told_count (if t || false then option_and_then left (in_64_bits (pos stored +ℤ pos 1)) else other)) (same_list n)
    ∙ ap (λ (o : Option ℤ). option_map told_count (option_and_then left o)) (in_range (stored + 1) (omega (arith, few)))
    ∙ ap (λ (t : Bool). option_map told_count (found_if t (pos (stored + 1)))) (same_list n) ∙ ap (λ (m : ℕ). Some (pos m)) (told_less rows few)

pub solves_back : (less : CountForm) (n rows : ℕ) (known : Key → Bool) (sight : Sight) → sight.names.give (list_key n) ≡ Some (pos rows) → rows ≤ 65535
    → SolvesBack known 16 sight (rows_term less n) (stored_count less rows)
solves_back Rows n rows known sight given few = (solved_to (known (list_key n)) _ _ (solved_is Rows n rows sight few ∙ sym given), tt)
solves_back LessOne n rows known sight given few = (solved_to (known (list_key n)) _ _ (solved_is LessOne n rows sight few ∙ sym given), tt)
