-- Names in expressions that have values.
use Rattle.std.proofs.Common.{◌≡◌, ℕ, ℤ, pos, Bool, true, false, ◌||◌, List, Option, Some, None, Result, Ok, Err, refl, sym, ap, arith}
use Rattle.std.specs.Prelude.{◌+ℤ◌, [], ◌∷◌, ◌++◌, if◌then◌else◌, int_le, int_lt, not, option_and_then}
use Rattle.std.specs.List.{find, list_all, list_any}
use Rattle.std.specs.Option.{is_some}
use Rattle.std.specs.Str.{str_to_ascii_lowercase}
use Rattle.std.proofs.lemmas.Int.{ints}
use Rattle.rz_core.proofs.Tests.{and_so, both, none_some, or_false, true_false}
use Rattle.rz_core.specs.Stop.{◌>>=◌}
use Rattle.rz_core.specs.declared.resource.Word.{Word}
use Rattle.rz_expr.specs.Environment.{count_key, place_in_key, place_key, predefined, row_key, rows_key, Environment, Sight}
use Rattle.rz_expr.specs.Mention.{alone, around, counted, fact, indexed, mentions, name_mentioned, with_bits, Mention}
use Rattle.rz_expr.specs.Mention as terms
use Rattle.rz_expr.specs.Term.{BitsAt, Constant, FactOf, Indexed, Named, OfOne, OfTwo, RowNumber, RowsOf, Term}
use Rattle.rz_expr.specs.Value.{known_bits, known_value, number_at, operate, operate_one, place_in_row, value_of}
use Rattle.rz_expr.specs.declared.expr.BinaryOp.{BinaryOp}
use Rattle.rz_expr.specs.declared.value.EvalFault.{EvalFault}
use Rattle.rz_expr.specs.declared.value.EvalFault.TheVariants.{BadIndex, BadShift, DataWidth, LaterData, UnknownName, ZeroDivisor}
use Rattle.rz_expr.proofs.Items.{all_more, all_two, found_there, none_all, none_found}
use Rattle.rz_types_fields.specs.Laid.{met_in}
use Rattle.rz_types_fields.specs.Sees.{is_later, names_later}
use Rattle.rz_types_fields.specs.Value.{IsArithmetic}
use Rattle.rz_types_fields.proofs.Arithmetic.{operate_sound}
use Rattle.rz_types.specs.Names.{FillsRows, GivesCounts, GivesNumbers, GivesOwn, GivesRows, NamesNothing}
use Rattle.rz_types.specs.Readable.{all_known, is_known_there}
use Rattle.rz_types.specs.Rules.{is_named_there, unknown_name}
use Rattle.rz_types.specs.Walk.{is_among, Own}

-- Values.

chained : (first : Result ℤ EvalFault) (next : ℤ → Result ℤ EvalFault) → NamesNothing first → ((x : ℤ) → NamesNothing (next x)) → NamesNothing (first >>= next)
chained (Ok x) next one rest = rest x
chained (Err fault) next one rest = one

-- what an operator gives
arithmetic_known : (value : Result ℤ EvalFault) → IsArithmetic value → NamesNothing value
arithmetic_known (Ok number) is = tt
arithmetic_known (Err ZeroDivisor) is = tt
arithmetic_known (Err (UnknownName name)) is = absurd is
arithmetic_known (Err (BadIndex number)) is = tt
arithmetic_known (Err (LaterData first end)) is = tt
arithmetic_known (Err (DataWidth width)) is = tt
arithmetic_known (Err (BadShift count)) is = tt

operate_known : (op : BinaryOp) (left right : ℤ) → NamesNothing (operate op left right)
operate_known op left right = arithmetic_known (operate op left right) (operate_sound op left right)

value_known : (name : List ℕ) (given : Option ℤ) → is_some given ≡ true → NamesNothing (known_value name given)
value_known name (Some value) is = tt
value_known name None is = absurd cc

bits_known : (first width : ℤ) (found : Option ℤ) → NamesNothing (known_bits first width found)
bits_known first width (Some number) = tt
bits_known first width None = tt

in_width : (bad : Bool) (first width : ℤ) (found : Option ℤ) → NamesNothing (if bad then Err (DataWidth width) else known_bits first width found)
in_width true first width found = tt
in_width false first width found = bits_known first width found

number_known : (sight : Sight) (first width : ℤ) → NamesNothing (number_at sight first width)
number_known sight first width = in_width (int_lt width (pos 1) || int_lt (pos 32) width) first width (sight.bits first width)

-- Names that are there.

is_met : (names : Environment) (given : Option ℤ) (value : ℤ) → given ≡ Some value → is_some given ≡ true
is_met names given value is = ap is_some is

something : (given : Option ℤ) → is_some given ≡ true → (value : ℤ) × (given ≡ Some value)
something (Some value) is = (value, refl)
something None is = absurd cc

not_true : (holds : Bool) → not holds ≡ false → holds ≡ true
not_true true is = refl
not_true false is = absurd cc

-- a name that isn't there has a name
unnamed : (scope : Own) (one : Mention) → not (is_named_there scope one) ≡ true → option_and_then name_mentioned (Some one) ≡ None → ⊥
unnamed scope (alone name) is none = none_some name (sym none)
unnamed scope (indexed name) is none = none_some name (sym none)
unnamed scope (counted name) is none = none_some name (sym none)
unnamed scope (around name) is none = none_some name (sym none)
unnamed scope (with_bits name) is none = none_some name (sym none)
unnamed scope (fact which) is none = true_false (sym is)

-- where there is no such name, all are there
pub all_there : (scope : Own) (term : Term) → unknown_name scope term ≡ None → list_all (is_named_there scope) (mentions term) ≡ true
all_there scope term none = by (find (λ one. not (is_named_there scope one)) (mentions term)) refl none
  where
    by : (first : Option Mention) → find (λ one. not (is_named_there scope one)) (mentions term) ≡ first → option_and_then name_mentioned first ≡ None
        → list_all (is_named_there scope) (mentions term) ≡ true
    by None is none =
        none_all (λ one. not (is_named_there scope one)) (is_named_there scope) (λ one. not_true (is_named_there scope one)) (mentions term)
        (none_found (λ one. not (is_named_there scope one)) (mentions term) is)
    by (Some one) is none = absurd (unnamed scope one (found_there (λ one. not (is_named_there scope one)) (mentions term) one is).passes none)

-- an index that is the number of a row has a place there
not_less : (one other : ℤ) → int_lt one other ≡ false → int_le other one ≡ true
not_less one other is = grind (arith, ints, is)

in_rows : (name : List ℕ) (names : Environment) (number rows : ℤ) → FillsRows names → names.give (rows_key name) ≡ Some rows → (bad : Bool)
    → (int_lt number (pos 1) || int_lt rows number) ≡ bad → NamesNothing (if bad then Err (BadIndex number) else known_value name (names.give (place_in_key name number)))
in_rows name names number rows fills is true bad = tt
in_rows name names number rows fills is false bad =
    let sides = or_false (int_lt number (pos 1)) (int_lt rows number) bad in
    let given = fills.give (str_to_ascii_lowercase name) rows number is (not_less number (pos 1) sides.0) (not_less rows number sides.1) in
    value_known name (names.give (place_in_key name number)) (is_met names (names.give (place_in_key name number)) given.0 given.1)

place_known : (name : List ℕ) (names : Environment) (number : ℤ) → FillsRows names → (given : Option ℤ) → names.give (rows_key name) ≡ given → is_some given ≡ true
    → NamesNothing (place_in_row name names number given)
place_known name names number fills (Some rows) is there = in_rows name names number rows fills is (int_lt number (pos 1) || int_lt rows number) refl
place_known name names number fills None is there = absurd cc

-- an expression of which each name has a value names nothing that has none
module _ (scope : Own) (sight : Sight) (around : GivesNumbers scope.around sight.names) (fills : FillsRows sight.names) where
  abbrev own : Mention → Bool
  own = is_named_there scope

  abbrev known : Mention → Bool
  known = is_known_there (met_in sight.names) (met_in sight.names)

  there : (term : Term) → list_all own (mentions term) ≡ true → list_all known (mentions term) ≡ true → NamesNothing (value_of term sight)
  there (Constant number) named all = tt
  there (Named name) named all = value_known name (sight.names.give (place_key name)) (both (known (alone name)) true all).0
  there (Indexed name index) named all =
      let own_parts = both (own (indexed name)) (list_all own (mentions index)) named in
      let each = both (known (indexed name)) (list_all known (mentions index)) all in
      chained (value_of index sight) (λ number. place_in_row name sight.names number (sight.names.give (rows_key name))) (there index own_parts.1 each.1)
      (λ number. place_known name sight.names number fills (sight.names.give (rows_key name)) refl each.0)
  there (RowsOf name) named all = value_known name (sight.names.give (count_key name)) (both (known (counted name)) true all).0
  there (RowNumber name) named all =
      let given = around.give name (both (own (terms.around name)) true named).0 in
      value_known name (sight.names.give (row_key name)) (is_met sight.names (sight.names.give (row_key name)) given.0 given.1)
  there (BitsAt name start width) named all =
      let own_parts = both (own (with_bits name)) (list_all own (mentions start ++ mentions width)) named in
      let own_two = all_two own (mentions start) (mentions width) own_parts.1 in
      let each = both (known (with_bits name)) (list_all known (mentions start ++ mentions width)) all in
      let each_two = all_two known (mentions start) (mentions width) each.1 in
      chained (known_value name (sight.names.give (place_key name)))
      (λ place. value_of start sight >>= λ behind. value_of width sight >>= λ size. number_at sight (place +ℤ behind) size)
      (value_known name (sight.names.give (place_key name)) each.0)
      (λ place. chained (value_of start sight) (λ behind. value_of width sight >>= λ size. number_at sight (place +ℤ behind) size)
      (there start own_two.0 each_two.0)
      (λ behind. chained (value_of width sight) (λ size. number_at sight (place +ℤ behind) size)
      (there width own_two.1 each_two.1) (λ size. number_known sight (place +ℤ behind) size)))
  there (FactOf which) named all = tt
  there (OfOne op operand) named all = chained (value_of operand sight) (λ value. Ok (operate_one op value)) (there operand named all) (λ x. tt)
  there (OfTwo op left right) named all =
      let own_two = all_two own (mentions left) (mentions right) named in
      let each_two = all_two known (mentions left) (mentions right) all in
      chained (value_of left sight) (λ one. value_of right sight >>= λ other. operate op one other) (there left own_two.0 each_two.0)
      (λ one. chained (value_of right sight) (λ other. operate op one other) (there right own_two.1 each_two.1) (λ other. operate_known op one other))

pub known_there : (scope : Own) (sight : Sight) (term : Term) → GivesNumbers scope.around sight.names → FillsRows sight.names → unknown_name scope term ≡ None
    → all_known (met_in sight.names) (met_in sight.names) term ≡ true → NamesNothing (value_of term sight)
known_there scope sight term numbers fills none all = there scope sight numbers fills term (all_there scope term none) all

-- Names.

label_met : (scope : Own) (names : Environment) → GivesOwn scope names → (name : List ℕ) → is_among name scope.labels ≡ true → met_in names (place_key name) ≡ true
label_met scope names gives name is = let given = gives.places.give name is in is_met names (names.give (place_key name)) given.0 given.1

-- a name by itself: `true`, `false`, or a label of these
name_met : (scope : Own) (names : Environment) → GivesOwn scope names → (name : List ℕ) (word : Bool) → is_some (predefined name) ≡ word → (word || is_among name scope.labels) ≡ true
    → met_in names (place_key name) ≡ true
name_met scope names gives name true is there =
    let own = something (predefined name) is in
    let given = gives.outside.give name own.0 own.1 in
    is_met names (names.give (place_key name)) given.0 given.1
name_met scope names gives name false is there = label_met scope names gives name there

rows_met : (arrays : List Word) (names : Environment) → GivesCounts arrays names → (name : List ℕ) → is_among name arrays ≡ true → met_in names (count_key name) ≡ true
rows_met arrays names gives name is = let given = gives.give name is in is_met names (names.give (count_key name)) given.0 given.1

labelled_met : (labels : List Word) (names : Environment) → GivesRows labels names → (name : List ℕ) → is_among name labels ≡ true → met_in names (rows_key name) ≡ true
labelled_met labels names gives name is = let given = gives.give name is in is_met names (names.give (rows_key name)) given.0 given.1

-- in the end all labels and arrays have values
one_own : (scope : Own) (names : Environment) → GivesOwn scope names → (one : Mention) → is_named_there scope one ≡ true → is_known_there (met_in names) (met_in names) one ≡ true
one_own scope names gives (alone name) is = name_met scope names gives name (is_some (predefined name)) refl is
one_own scope names gives (indexed name) is = labelled_met scope.indexed names gives.rows name is
one_own scope names gives (counted name) is = rows_met scope.arrays names gives.counts name is
one_own scope names gives (around name) is = refl
one_own scope names gives (with_bits name) is = label_met scope names gives name is
one_own scope names gives (fact which) is = refl

pub known_own : (scope : Own) (names : Environment) (term : Term) → GivesOwn scope names → unknown_name scope term ≡ None → all_known (met_in names) (met_in names) term ≡ true
known_own scope names term gives none =
    all_more (is_named_there scope) (is_known_there (met_in names) (met_in names)) (one_own scope names gives) (mentions term) (all_there scope term none)

-- before that all arrays have, and so have the labels that don't stand later
one_early : (scope : Own) (names : Environment) → GivesCounts scope.arrays names → (one : Mention) → is_named_there scope one ≡ true → is_later (met_in names) one ≡ false
    → is_known_there (met_in names) (met_in names) one ≡ true
one_early scope names gives (alone name) is here = not_true (met_in names (place_key name)) here
one_early scope names gives (indexed name) is here = not_true (met_in names (rows_key name)) here
one_early scope names gives (counted name) is here = rows_met scope.arrays names gives name is
one_early scope names gives (around name) is here = refl
one_early scope names gives (with_bits name) is here = not_true (met_in names (place_key name)) here
one_early scope names gives (fact which) is here = refl

each_early : (scope : Own) (names : Environment) → GivesCounts scope.arrays names → (all : List Mention) → list_all (is_named_there scope) all ≡ true → list_any (is_later (met_in names)) all ≡ false
    → list_all (is_known_there (met_in names) (met_in names)) all ≡ true
each_early scope names gives [] named here = refl
each_early scope names gives (one ∷ others) named here =
    let each = both (is_named_there scope one) (list_all (is_named_there scope) others) named in
    let early = or_false (is_later (met_in names) one) (list_any (is_later (met_in names)) others) here in
    and_so (is_known_there (met_in names) (met_in names) one) (list_all (is_known_there (met_in names) (met_in names)) others) (one_early scope names gives one each.0 early.0)
    (each_early scope names gives others each.1 early.1)

pub known_early : (scope : Own) (names : Environment) (term : Term) → GivesCounts scope.arrays names → unknown_name scope term ≡ None
    → names_later (met_in names) term ≡ false → all_known (met_in names) (met_in names) term ≡ true
known_early scope names term gives none here = each_early scope names gives (mentions term) (all_there scope term none) here
