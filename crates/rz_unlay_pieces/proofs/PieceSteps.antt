-- Numbers and zero bits at a place.
use Rattle.std.proofs.Common.{◌≡◌, ℕ, ◌+◌, ◌*◌, ◌<◌, ◌≤◌, ◌==◌, Bool, true, false, ℤ, List, length, take, drop, Option, Some, None, Ok, Err, refl, sym, ap, ◌∙◌}
use Rattle.std.specs.Prelude.{if◌then◌else◌, nat_abs, option_and_then}
use Rattle.std.specs.Result.{result_ok}
use Rattle.std.specs.declared.result.Result.{Result}
use Rattle.rz_bits.specs.Bits.{bits_of, number_of}
use Rattle.rz_bits.specs.View.{number_at}
use Rattle.rz_bits.proofs.Windows.{bits_length, number_there, no_number}
use Rattle.rz_expr.specs.Environment.{Environment, Sight}
use Rattle.rz_expr.specs.Term.{Term}
use Rattle.rz_expr.specs.Value.{value_of}
use Rattle.rz_expr.specs.declared.value.EvalFault.{EvalFault}
use Rattle.rz_types_fields.specs.declared.field.NumForm.{NumForm}
use Rattle.rz_types_fields.specs.Passed.{Names}
use Rattle.rz_types_fields.specs.Sees.{is_late, Late}
use Rattle.rz_unlay_pieces.specs.Numbers.{stored_step}
use Rattle.rz_unlay_pieces.specs.Pieces.{is_stored, late_behind, number_step, seen_at, solve_all, solved_at, with_near, zeros_step, Here, Step}

-- how many bits bytes have
pub seen_length : (bytes : List ℕ) → length (bits_of bytes) ≡ 8 * length bytes
seen_length bytes = bits_length bytes

-- A number with a fixed value.

module _ (here : Here) (form : NumForm) (width : ℤ) (term : Term) (names : Environment) (at n : ℕ) (late : Late) (there : Some n ≡ number_at here.all at (nat_abs width)) where
  abbrev pub solved_names : ℕ → Option Environment
  solved_names n = solve_all (with_near here) (λ key now. solved_at (length here.all) (nat_abs width) key (seen_at here now at) term n) term names

  abbrev pub stored_with : ℕ → Environment → Option Step
  stored_with n more = stored_step here.met form width term n (seen_at here more at) more at late

  abbrev solved_with : ℕ → Option Step
  solved_with n = option_and_then (stored_with n) (solved_names n)

  pub number_solved : (more : Environment) → Some more ≡ solved_names n → stored_with n more ≡ number_step here form width (Some term) names at late
  number_solved more solved = ap (option_and_then (stored_with n)) solved ∙ ap (option_and_then solved_with) there

  pub not_solved : None ≡ solved_names n → None ≡ number_step here form width (Some term) names at late
  not_solved solved = ap (option_and_then (stored_with n)) solved ∙ ap (option_and_then solved_with) there

-- one whose value is known

module _ (met : Names) (form : NumForm) (width : ℤ) (term : Term) (n : ℕ) (sight : Sight) (names : Environment) (at : ℕ) (late : Late) where
  abbrev stored_as : Bool → Option Step
  stored_as test =
      if test then Some (record { value = None; after = at + nat_abs width; names = names; late = late_behind late (nat_abs width) (is_late met late term sight) }) else None

  pub not_valued : None ≡ result_ok (value_of term sight) → None ≡ stored_step met form width term n sight names at late
  not_valued none = by (value_of term sight) none
    where
      by : (value : Result ℤ EvalFault) → None ≡ result_ok value → None ≡ stored_as (is_stored form width value n)
      by (Ok value) none = absurd cc
      by (Err fault) none = refl

  pub value_stored : (value : ℤ) (test : Bool) → Some value ≡ result_ok (value_of term sight) → test ≡ is_stored form width (Ok value) n
      → stored_as test ≡ stored_step met form width term n sight names at late
  value_stored value test valued is = ap stored_as is ∙ by (value_of term sight) valued
    where
      same : (one other : ℤ) → Some one ≡ Some other → one ≡ other
      same one other is = cc

      by : (result : Result ℤ EvalFault) → Some value ≡ result_ok result → stored_as (is_stored form width (Ok value) n) ≡ stored_as (is_stored form width result n)
      by (Ok other) valued = ap (λ (v : ℤ). stored_as (is_stored form width (Ok v) n)) (same value other valued)
      by (Err fault) valued = absurd cc

-- Zero bits.

module _ (all : List Bool) (count : ℕ) (names : Environment) (at : ℕ) (late : Late) where
  abbrev zeros_as : Bool → Option Step
  zeros_as test = if test then Some (record { value = None; after = at + count; names = names; late = late_behind late count false }) else None

  pub zeros_here : at + count ≤ length all → (number_of (take count (drop at all)) == 0) ≡ true
      → Some (record { value = None; after = at + count; names = names; late = late_behind late count false }) ≡ zeros_step all count names at late
  zeros_here there none = ap zeros_as (sym none) ∙ ap (option_and_then (λ n. zeros_as (n == 0))) (number_there all at count _ there refl)

  pub other_here : at + count ≤ length all → (number_of (take count (drop at all)) == 0) ≡ false → None ≡ zeros_step all count names at late
  other_here there other = ap zeros_as (sym other) ∙ ap (option_and_then (λ n. zeros_as (n == 0))) (number_there all at count _ there refl)

  pub none_here : length all < at + count → None ≡ zeros_step all count names at late
  none_here over = ap (option_and_then (λ n. zeros_as (n == 0))) (no_number all at count over)
