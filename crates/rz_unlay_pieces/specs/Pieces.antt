-- What stands at a place: numbers, zero bits and labels, where they end, and what is known after them. (MPW Rez.)
use Rattle.rz_core.specs.Lists.{or_else}
use Rattle.std.specs.Prelude.{ℕ, ◌+◌, ◌==◌, ◌++◌, ℤ, pos, nat_abs, Bool, true, false, ◌&&◌, if◌then◌else◌, List, length, replicate, Option, Some, None, option_and_then, option_map, Ok, Err}
use Rattle.std.specs.Ordering.{int_eq}
use Rattle.std.specs.declared.result.Result.{Result}
use Rattle.rz_core.specs.declared.facts.Facts.{Facts}
use Rattle.rz_core.specs.declared.resource.Word.{Word}
use Rattle.rz_expr.specs.Environment.{count_key, place_key, place_of, Environment, Key, Sight}
use Rattle.rz_expr.specs.Term.{BitsAt, Constant, FactOf, Indexed, Named, OfOne, OfTwo, RowNumber, RowsOf, Term}
use Rattle.rz_expr.specs.Value.{value_of}
use Rattle.rz_expr.specs.declared.value.EvalFault.{EvalFault}
use Rattle.rz_types_fields.specs.declared.field.NumForm.{NumForm}
use Rattle.rz_types_fields.specs.Field.{field_and, PlainBody, PlainField}
use Rattle.rz_types_fields.specs.Range.{fits_number}
use Rattle.rz_types_fields.specs.Passed.{Names}
use Rattle.rz_types_fields.specs.Sees.{is_late, sees, Late}
use Rattle.rz_types_fields.specs.Solve.{is_same_key, solved_value}
use Rattle.rz_types_fields.specs.Stored.{stored_number}
use Rattle.rz_types_fields.specs.declared.tree.Tree.{Tree}
use Rattle.rz_types_fields.specs.declared.tree.Tree.TheVariants as trees
use Rattle.rz_bits.specs.View.{number_at}
use Rattle.rz_unlay_pieces.specs.Ahead.{in_resource, near_place}

-- What is known.

abbrev pub also : Key → ℤ → Environment → Environment
also key value names = record { give = λ other. if is_same_key key other then Some value else names.give other }

-- no other value of it is known
abbrev pub agrees : Option ℤ → ℤ → Bool
agrees None value = true
agrees (Some known) value = int_eq known value

-- a name has a value, unless another is known
abbrev pub claim : Key → ℤ → Environment → Option Environment
claim key value names = if agrees (names.give key) value then Some (also key value names) else None

-- the name of an array has the number of its rows
abbrev pub claim_count : Option Word → ℕ → Environment → Option Environment
claim_count None rows names = Some names
claim_count (Some name) rows names = claim (count_key name.bytes) (pos rows) names

abbrev pub known_count : Option Word → Environment → Option ℤ
known_count None names = None
known_count (Some name) names = names.give (count_key name.bytes)

-- Where a field is read: what is known of the resource, its bits, the field with those after it in its body, the place of the
-- field, and the labels that stand before it.
pub record Here : Type 0 where
  pub known : Facts
  pub all : List Bool
  pub fields : PlainBody
  pub rest : PlainBody
  pub first : ℕ
  pub met : Names

abbrev pub here_at : Facts → List Bool → PlainField → PlainBody → ℕ → Names → Here
here_at known all field rest first met = record { known = known; all = all; fields = field_and field rest; rest = rest; first = first; met = met }

-- what is known of names there, with the labels that are near
abbrev pub with_near : Here → Environment → Environment
with_near here names = record {
  give = λ key. or_else (names.give key) (in_resource (length here.all) (option_map (λ place. pos place) (near_place here.fields here.first key)));
}

-- what an expression sees there at a place
abbrev pub seen_at : Here → Environment → ℕ → Sight
seen_at here names at = sees here.known here.all (with_near here names) at

-- Numbers.

-- what stands at a piece: its value or none, the place after it, and what is known there of names and of late bits
pub record Step : Type 0 where
  pub value : Option Tree
  pub after : ℕ
  pub names : Environment
  pub late : Late

-- the value that a number tells of a name; a place lies in the resource
abbrev pub solved_at : ℕ → ℕ → Key → Sight → Term → ℕ → Option ℤ
solved_at len width (place_of name) sight term stored = in_resource len (solved_value width (place_of name) sight term stored)
solved_at len width key sight term stored = solved_value width key sight term stored

-- the names in an expression that have no value are solved, one after the other
abbrev pub solve_key : (Key → Environment → Option ℤ) → Key → Option ℤ → Environment → Option Environment
solve_key solved key (Some value) names = Some names
solve_key solved key None names = option_and_then (λ value. Some (also key value names)) (solved key names)

abbrev pub solve_all : (Environment → Environment) → (Key → Environment → Option ℤ) → Term → Environment → Option Environment
solve_all near solved (Constant number) names = Some names
solve_all near solved (Named name) names = solve_key solved (place_key name) ((near names).give (place_key name)) names
solve_all near solved (Indexed name index) names = solve_all near solved index names
solve_all near solved (RowNumber name) names = Some names
solve_all near solved (RowsOf name) names = solve_key solved (count_key name) ((near names).give (count_key name)) names
solve_all near solved (BitsAt name start width) names = Some names
solve_all near solved (FactOf which) names = Some names
solve_all near solved (OfOne op operand) names = solve_all near solved operand names
solve_all near solved (OfTwo op left right) names = option_and_then (solve_all near solved right) (solve_all near solved left names)

-- the value is in range and is stored so
abbrev pub is_stored : NumForm → ℤ → Result ℤ EvalFault → ℕ → Bool
is_stored form width (Err fault) stored = false
is_stored form width (Ok value) stored = fits_number form width value && (stored_number (nat_abs width) value == stored)

-- the marks after so many bits more, late or not
abbrev pub late_behind : Late → ℕ → Bool → Late
late_behind late count is_late = late ++ replicate count is_late

abbrev pub number_step : Here → NumForm → ℤ → Option Term → Environment → ℕ → Late → Option Step
number_step here form width None names at late =
    option_map (λ n. record { value = Some (trees.Number n); after = at + nat_abs width; names = names; late = late_behind late (nat_abs width) false }) (number_at here.all at (nat_abs width))
number_step here form width (Some term) names at late =
    option_and_then (λ n. option_and_then (λ more.
    if is_stored form width (value_of term (seen_at here more at)) n
    then Some (record { value = None; after = at + nat_abs width; names = more; late = late_behind late (nat_abs width) (is_late here.met late term (seen_at here more at)) }) else None)
    (solve_all (with_near here) (λ key now. solved_at (length here.all) (nat_abs width) key (seen_at here now at) term n) term names))
    (number_at here.all at (nat_abs width))

-- Zero bits.

abbrev pub zeros_step : List Bool → ℕ → Environment → ℕ → Late → Option Step
zeros_step all count names at late =
    option_and_then (λ n. if n == 0 then Some (record { value = None; after = at + count; names = names; late = late_behind late count false }) else None) (number_at all at count)

-- a label has the place where it stands, unless another was told
abbrev pub label_step : Word → Environment → ℕ → Late → Option Step
label_step name names at late =
    option_map (λ more. record { value = None; after = at; names = more; late = late }) (claim (place_key name.bytes) (pos at) names)
