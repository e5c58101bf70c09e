-- A number that is spelled plainly is read.
use Rattle.std.proofs.Common.{◌≡◌, inl, inr, ℕ, ◌+◌, ◌<◌, ◌≤◌, ◌^◌, ◌%◌, ◌==◌, ℤ, pos, Bool, true, false, ◌&&◌, ◌||◌, List, ◌++◌, length, take, drop, Option, Some, None, Result, Ok, refl, sym, ap, ◌∙◌, subst}
use Rattle.std.specs.Prelude.{if◌then◌else◌, nat_abs, not, option_and_then, option_map, replicate}
use Rattle.std.specs.Int.{cast_unsigned, w64}
use Rattle.std.proofs.lemmas.Nat.{pow_pos}
use Rattle.std.proofs.Math.Nat.{mod-lt}
use Rattle.rz_core.specs.declared.facts.Facts.{Facts}
use Rattle.rz_expr.specs.Environment.{count_key, count_of, place_in, place_key, place_of, row_in, rows_key, rows_of, Environment, IsPartOf, Key, Sight}
use Rattle.rz_expr.proofs.Items.{all_two}
use Rattle.rz_expr.specs.Mention.{mentions}
use Rattle.rz_expr.specs.Term.{BitsAt, Constant, FactOf, Indexed, Named, OfOne, OfTwo, RowNumber, RowsOf, Term}
use Rattle.rz_expr.specs.Value.{known_value, place_in_row, value_of}
use Rattle.rz_expr.specs.declared.value.EvalFault.{EvalFault}
use Rattle.rz_bits.specs.Bits.{number_bits, number_of}
use Rattle.rz_types_fields.specs.declared.field.NumForm.{NumForm}
use Rattle.rz_types_fields.specs.declared.tree.Tree.{Tree}
use Rattle.rz_types_fields.specs.declared.tree.Tree.TheVariants as trees
use Rattle.rz_types_fields.specs.Field.{field_and, PlainBody, PlainField}
use Rattle.rz_types_fields.specs.Passed.{declares, is_held, is_known, is_near, told_by, Names, Passed}
use Rattle.rz_types_fields.specs.Sees.{bits_before, is_late, sees, Late}
use Rattle.rz_types_fields.specs.Solve.{can_solve, has_key, is_same_key, keys_in, solved_value, undoes_left, undoes_one, undoes_right, AreSolved, IsSolvedTo, SolvesBack}
use Rattle.rz_types_fields.specs.Spells.{is_late_value, IsNumber, IsPlainNumber}
use Rattle.rz_types_fields.specs.Stored.{stored_number}
use Rattle.rz_types_fields.specs.Value.{see}
use Rattle.rz_types_fields.proofs.KeysIn.{has_bits, has_one, has_two, key_there}
use Rattle.rz_types_fields.proofs.SameNames.{key_is}
use Rattle.rz_types.specs.Readable.{all_known, is_known_there, is_number_read, tells_one}
use Rattle.rz_unlay_pieces.specs.Ahead.{in_resource}
use Rattle.rz_unlay_pieces.specs.Pieces.{here_at, is_stored, late_behind, number_step, seen_at, solve_all, solved_at, with_near, Step}
use Rattle.rz_unlay.proofs.Ahead.{Ahead}
use Rattle.rz_unlay.proofs.Asked.{of_rows, plain_in}
use Rattle.rz_unlay.proofs.Near.{in_resource_is, near_alone, near_covers, near_part, near_widens}
pub use Rattle.rz_unlay.proofs.Near.{Knows}
use Rattle.rz_unlay.proofs.ReadsBits.{length_number, number_found}
use Rattle.rz_unlay.proofs.ReadsTests.{both_true, by_test, either_of, itself, left_true, neither, not_true, right_true, some_same}
use Rattle.rz_unlay.proofs.Sees.{late_same, met_known, name_has, others_known, parts_have, solve_same, still_known, value_same, Covers, IsKnownOf}
use Rattle.rz_unlay.proofs.Teller.{teller}
use Rattle.rz_unlay.proofs.Told.{all_told, AreTold, IsTold, Widens}

-- Names of an expression.

-- a name that can be solved stands in it
solved_there : (key : Key) (term : Term) → can_solve key term ≡ true → has_key key term ≡ true
solved_there key (Constant number) can = absurd cc
solved_there key (Named name) can = has_one key (place_key name) ∙ can
solved_there key (Indexed name index) can = absurd cc
solved_there key (RowNumber name) can = absurd cc
solved_there key (RowsOf name) can = has_one key (count_key name) ∙ can
solved_there key (BitsAt name start width) can = absurd cc
solved_there key (FactOf which) can = absurd cc
solved_there key (OfOne op operand) can = solved_there key operand (both_true (undoes_one op) (can_solve key operand) can).1
solved_there key (OfTwo op left right) can =
    has_two key op left right
    ∙ by_test (has_key key left) _ _ (λ there is. left_true (has_key key left) (has_key key right) there)
    (λ absent is. right_true (has_key key left) (has_key key right) (solved_there key right (both_true (undoes_right op) (can_solve key right) is).1)) can

-- so it is none of rows
solved_plain : (key : Key) (term : Term) → can_solve key term ≡ true → of_rows key ≡ false
solved_plain key term can = plain_in key term (solved_there key term can)

solved_to : (test : Bool) (solved value : Option ℤ) → test ≡ false → IsSolvedTo test solved value → solved ≡ value
solved_to true solved value is to = absurd cc
solved_to false solved value is to = to

-- a name in it that isn't known is solved to its value
solved_back : (known : Names) (solved : Key → Option ℤ) (names : Environment) (key : Key) → known key ≡ false → (term : Term) → AreSolved known solved names term → has_key key term ≡ true
    → solved key ≡ names.give key
solved_back known solved names key unknown term are has =
    solved_to (known key) (solved key) (names.give key) unknown (key_there (λ key. IsSolvedTo (known key) (solved key) (names.give key)) (keys_in term) key are has)

-- in an expression with a value each name has one
pub has_value : (facts : Facts) (bits : ℤ → ℤ → Option ℤ) (names : Environment) (key : Key) (term : Term) (value : ℤ) → value_of term (see facts bits names) ≡ Ok value → has_key key term ≡ true
    → (v : ℤ) × (names.give key ≡ Some v)
has_value facts bits names key (Constant number) value is has = absurd cc
has_value facts bits names key (Named name) value is has =
    let it = name_has name (names.give (place_key name)) value is in (it.0, ap names.give (key_is key (place_key name) (sym (has_one key (place_key name)) ∙ has)) ∙ it.1)
has_value facts bits names key (Indexed name index) value is has =
    let one = parts_have (value_of index (see facts bits names)) (λ number. place_in_row name names number (names.give (rows_key name))) value is in
    has_value facts bits names key index one.0 one.1 has
has_value facts bits names key (RowNumber name) value is has = absurd cc
has_value facts bits names key (RowsOf name) value is has =
    let it = name_has name (names.give (count_key name)) value is in (it.0, ap names.give (key_is key (count_key name) (sym (has_one key (count_key name)) ∙ has)) ∙ it.1)
has_value facts bits names key (BitsAt name start width) value is has =
    let one = parts_have (known_value name (names.give (place_key name))) _ value is in
    let two = parts_have (value_of start (see facts bits names)) _ value one.2 in
    let three = parts_have (value_of width (see facts bits names)) _ value two.2 in
    either_of (is_same_key key (place_key name)) (has_key key start || has_key key width)
    (λ same. let it = name_has name (names.give (place_key name)) one.0 one.1 in (it.0, ap names.give (key_is key (place_key name) same) ∙ it.1))
    (either_of (has_key key start) (has_key key width) (λ there. has_value facts bits names key start two.0 two.1 there)
    (λ there. has_value facts bits names key width three.0 three.1 there))
    (sym (has_bits key name start width) ∙ has)
has_value facts bits names key (FactOf which) value is has = absurd cc
has_value facts bits names key (OfOne op operand) value is has =
    let one = parts_have (value_of operand (see facts bits names)) _ value is in has_value facts bits names key operand one.0 one.1 has
has_value facts bits names key (OfTwo op left right) value is has =
    let one = parts_have (value_of left (see facts bits names)) _ value is in
    let two = parts_have (value_of right (see facts bits names)) _ value one.2 in
    either_of (has_key key left) (has_key key right) (λ there. has_value facts bits names key left one.0 one.1 there)
    (λ there. has_value facts bits names key right two.0 two.1 there) (sym (has_two key op left right) ∙ has)

-- What a number tells.

-- each name of an expression, whose names are known but for one that it tells
module _ (met known : Names) (env : Environment) (near : Environment → Environment) (solved : Key → Environment → Option ℤ) where
  all_are_known : (term : Term) → all_known met known term ≡ true → AreTold met known env near solved term
  all_are_known (Constant number) is = tt
  all_are_known (Named name) is = inl (both_true (known (place_key name)) true is).0
  all_are_known (Indexed name index) is = all_are_known index (both_true (known (rows_key name)) (all_known met known index) is).1
  all_are_known (RowNumber name) is = tt
  all_are_known (RowsOf name) is = inl (both_true (known (count_key name)) true is).0
  all_are_known (BitsAt name start width) is = is
  all_are_known (FactOf which) is = tt
  all_are_known (OfOne op operand) is = all_are_known operand is
  all_are_known (OfTwo op left right) is =
      let each = all_two (is_known_there met known) (mentions left) (mentions right) is in (all_are_known left each.0, all_are_known right each.1)

  each_told : (key : Key) → of_rows key ≡ false → IsTold known env near solved key → (term : Term) → can_solve key term ≡ true
      → all_known met (λ other. is_same_key key other || known other) term ≡ true → AreTold met known env near solved term
  each_told key plain told (Constant number) can is = absurd cc
  each_told key plain told (Named name) can is = subst (IsTold known env near solved) (key_is key (place_key name) can) told
  each_told key plain told (Indexed name index) can is = absurd cc
  each_told key plain told (RowNumber name) can is = absurd cc
  each_told key plain told (RowsOf name) can is = subst (IsTold known env near solved) (key_is key (count_key name) can) told
  each_told key plain told (BitsAt name start width) can is = absurd cc
  each_told key plain told (FactOf which) can is = absurd cc
  each_told key plain told (OfOne op operand) can is = each_told key plain told operand (both_true (undoes_one op) (can_solve key operand) can).1 is
  each_told key plain told (OfTwo op left right) can is =
      let each = all_two (is_known_there met (λ other. is_same_key key other || known other)) (mentions left) (mentions right) is in
      by_test (has_key key left) _ _
      (λ there one.
      let second = both_true (undoes_left op && not (has_key key right)) (can_solve key left) one in
      let first = both_true (undoes_left op) (not (has_key key right)) second.0 in
      (each_told key plain told left second.1 each.0, all_are_known right (others_known met known key plain right (not_true (has_key key right) first.1) each.1)))
      (λ absent other.
      (all_are_known left (others_known met known key plain left absent each.0), each_told key plain told right (both_true (undoes_right op) (can_solve key right) other).1 each.1))
      can

module _ (facts : Facts) (bits : ℤ → ℤ → Option ℤ) (rest : PlainBody) (len : ℕ) (met known : Names) (leads : (key : Key) → met key ≡ true → known key ≡ true) (env : Environment) (near : Environment → Environment) (widens : Widens env near)
    (lies : (name : List ℕ) → declares rest (place_of name) ≡ true → (place : ℕ) × (env.give (place_of name) ≡ Some (pos place)) × (place ≤ len))
    (width : ℕ) (term : Term) (stored : ℕ) (value : ℤ) (is_value : value_of term (see facts bits env) ≡ Ok value) (back : SolvesBack known width (see facts bits env) term stored) where
  abbrev solved : Key → Environment → Option ℤ
  solved key names = solved_at len width key (see facts bits (near names)) term stored

  solved_same : (key : Key) → can_solve key term ≡ true → all_known met (λ other. is_same_key key other || known other) term ≡ true
      → (names : Environment) → Covers known (near names) → IsKnownOf names env → solved_value width key (see facts bits (near names)) term stored ≡ solved_value width key (see facts bits env) term stored
  solved_same (place_of name) can others names covers part = solve_same facts bits met known leads (near names) env covers (widens.part names part) (place_of name) refl term can others (pos stored)
  solved_same (count_of name) can others names covers part =
      ap (λ (o : Option ℤ). option_map (λ count. pos (cast_unsigned w64 count % 2 ^ width)) o)
      (solve_same facts bits met known leads (near names) env covers (widens.part names part) (count_of name) refl term can others (pos stored))
  solved_same (rows_of label) can others names covers part = absurd (let wrong = solved_plain (rows_of label) term can in cc)
  solved_same (place_in label number) can others names covers part = absurd (let wrong = solved_plain (place_in label number) term can in cc)
  solved_same (row_in array) can others names covers part = absurd (let wrong = solved_plain (row_in array) term can in cc)

  -- the value of a place lies in the resource
  solved_in : (key : Key) (sight : Sight) (v : ℤ) → declares rest key ≡ true → env.give key ≡ Some v → solved_value width key sight term stored ≡ Some v → solved_at len width key sight term stored ≡ Some v
  solved_in (place_of name) sight v declared has is =
      let it = lies name declared in
      let same : pos it.0 ≡ v = some_same (pos it.0) v (sym it.1 ∙ has) in
      ap (in_resource len) is ∙ subst (λ (x : ℤ). in_resource len (Some x) ≡ Some x) same (in_resource_is len it.0 it.2)
  solved_in (count_of name) sight v declared has is = is
  solved_in (rows_of label) sight v declared has is = is
  solved_in (place_in label number) sight v declared has is = is
  solved_in (row_in array) sight v declared has is = is

  key_told : (key : Key) → declares rest key ≡ true → can_solve key term ≡ true → all_known met (λ other. is_same_key key other || known other) term ≡ true → IsTold known env near solved key
  key_told key declared can others = by (known key) refl
    where
      by : (test : Bool) → known key ≡ test → IsTold known env near solved key
      by true is = inl is
      by false is =
          let there = solved_there key term can in
          let has = has_value facts bits env key term value is_value there in
          inr (
            has.0,
            has.1,
            λ names covers part.
                solved_in key (see facts bits (near names)) has.0 declared has.1
                (solved_same key can others names covers part ∙ solved_back known (λ key. solved_value width key (see facts bits env) term stored) env key is term back there ∙ has.1),
          )

  pub names_told : (all_known met known term || tells_one rest met known term) ≡ true → AreTold met known env near solved term
  names_told is = either_of (all_known met known term) (tells_one rest met known term) (all_are_known met known env near solved term)
      (λ tells_it.
      let it = teller rest met known term tells_it in
      let one = both_true (declares rest it.key && can_solve it.key term) _ it.is in
      let two = both_true (declares rest it.key) (can_solve it.key term) one.0 in
      each_told met known env near solved it.key (solved_plain it.key term two.1) (key_told it.key two.0 two.1 one.1) term two.1 one.1)
      is

-- the names that stand in an expression, beside those that are known
abbrev names_with : Term → Passed → Names
names_with term passed key = has_key key term || is_known passed key

-- are all its names, where it is read
its_names : (rest : PlainBody) (term : Term) (passed : Passed) → is_number_read rest passed (Some term) ≡ true → all_known (names_with term passed) (names_with term passed) term ≡ true
its_names rest term passed reads =
    let its = names_with term passed in
    let known = is_known passed in
    let still : (key : Key) → known key ≡ true → its key ≡ true = (λ key is. right_true (has_key key term) (known key) is) in
    let met : (key : Key) → passed.met key ≡ true → its key ≡ true = (λ key is. still key (met_known passed key is)) in
    either_of (all_known passed.met known term) (tells_one rest passed.met known term)
    (λ all. still_known passed.met known its its met still term all)
    (λ tells_it.
    let it = teller rest passed.met known term tells_it in
    let one = both_true (declares rest it.key && can_solve it.key term) _ it.is in
    let can = (both_true (declares rest it.key) (can_solve it.key term) one.0).1 in
    still_known passed.met (λ other. is_same_key it.key other || known other) its its met
    (λ other is. either_of (is_same_key it.key other) (known other)
    (λ same. left_true (has_key other term) (known other) (sym (ap (λ (key : Key). has_key key term) (key_is it.key other same)) ∙ solved_there it.key term can))
    (still other) is) term one.1)
    reads

-- Reading it.

-- the reader is after a piece or a field, with its value and the late bits, and knows a part of the finished names
pub record Steps (passed : Passed) (env : Environment) (value : Option Tree) (after : ℕ) (late_after : Late) (step : Option Step) : Type 0 where
  pub names : Environment
  pub is : step ≡ Some (record { value = value; after = after; names = names; late = late_after })
  pub knows : Knows passed names
  pub part : IsKnownOf names env

told_knows : (term : Term) (passed : Passed) (names more : Environment) → Knows passed names → IsPartOf names more
    → ((key : Key) → has_key key term ≡ true → is_known passed key ≡ false → (value : ℤ) × (more.give key ≡ Some value)) → Knows (told_by (Some term) passed) more
told_knows term passed names more knows kept has key asked is =
    either_of (passed.met key) ((has_key key term && not (is_known passed key)) || passed.told key)
    (λ met. before (left_true (passed.met key) (passed.told key) met))
    (either_of (has_key key term && not (is_known passed key)) (passed.told key)
    (λ new. let each = both_true (has_key key term) (not (is_known passed key)) new in has key each.0 (not_true (is_known passed key) each.1))
    (λ told. before (right_true (passed.met key) (passed.told key) told)))
    is
  where
    before : is_held passed key ≡ true → (value : ℤ) × (more.give key ≡ Some value)
    before known = let it = knows key asked known in (it.0, kept.give key it.0 it.1)

module _ (back : (width number : ℕ) → number < 2 ^ width → number_of (number_bits width number) ≡ number) (facts : Facts) (all : List Bool) (field : PlainField) (rest : PlainBody) (env : Environment) (first after : ℕ)
    (met : Names) (ahead : Ahead all field rest env first after) where
  abbrev near : Environment → Environment
  near = with_near (here_at facts all field rest first met)

  abbrev lateness : Passed → Late → Option Term → ℕ → Bool
  lateness passed late fixed at = is_late_value passed.met late fixed (sees facts all env at)

  free_steps : (passed : Passed) (names : Environment) → Knows passed names → IsKnownOf names env → (form : NumForm) (width : ℤ) (value : Option Tree) (bits : List Bool) (at : ℕ) (late : Late)
      → IsNumber form width None (sees facts all env at) value bits → take (length bits) (drop at all) ≡ bits → at + length bits ≤ length all
      → Steps passed env value (at + length bits) (late ++ replicate (length bits) false) (number_step (here_at facts all field rest first met) form width None names at late)
  free_steps passed names knows part form width value bits at late (n, is, small, are) there within =
      let w = nat_abs width in
      let long : length bits ≡ w = ap length are ∙ length_number w n in
      let found = number_found all at w bits long within there ∙ ap (λ (bs : List Bool). Some (number_of bs)) are ∙ ap (λ (n : ℕ). Some n) (back w n small) in
      record {
        names = names;
        is = ap (option_map (λ n. record { value = Some (trees.Number n); after = at + w; names = names; late = late_behind late w false })) found
            ∙ sym (λ i. Some (record { value = is i; after = at + long i; names = names; late = late ++ replicate (long i) false }));
        knows = knows;
        part = part;
      }

  -- of the names that it tells, none is near
  newly : (passed : Passed) → passed.near ≡ is_near (field_and field rest) → (term : Term) (more : Environment) → ((key : Key) → has_key key term ≡ true → (value : ℤ) × ((near more).give key ≡ Some value))
      → (key : Key) → has_key key term ≡ true → is_known passed key ≡ false → (value : ℤ) × (more.give key ≡ Some value)
  newly passed near_is term more has key there unknown =
      let it = has key there in
      let absent = (neither (passed.near key) (is_held passed key) unknown).0 in
      (it.0, sym (near_alone facts all field rest first met more key (sym (ap (λ (near : Names). near key) near_is) ∙ absent)) ∙ it.1)

  -- all names of an expression have values then
  its_covered : (passed : Passed) (names : Environment) → passed.near ≡ is_near (field_and field rest) → Knows passed names → IsKnownOf names env → (term : Term) (more : Environment) → IsPartOf names more
      → ((key : Key) → has_key key term ≡ true → (value : ℤ) × ((near more).give key ≡ Some value)) → Covers (names_with term passed) (near more)
  its_covered passed names near_is knows part term more kept has key asked is =
      either_of (has_key key term) (is_known passed key) (has key)
      (λ known.
      let it = near_covers facts all field rest env first after met ahead passed names knows near_is key asked known in
      (near_widens facts all field rest env first after met ahead).wider names more kept key it.0 it.1) is

  fixed_steps : (passed : Passed) (names : Environment) → passed.met ≡ met → passed.near ≡ is_near (field_and field rest) → Knows passed names → IsKnownOf names env
      → (form : NumForm) (width : ℤ) (term : Term) (value : Option Tree) (bits : List Bool) (at : ℕ) (late : Late) → is_number_read rest passed (Some term) ≡ true
      → IsNumber form width (Some term) (sees facts all env at) value bits → IsPlainNumber passed width (Some term) (sees facts all env at) → take (length bits) (drop at all) ≡ bits → at + length bits ≤ length all
      → Steps (told_by (Some term) passed) env value (at + length bits) (late ++ replicate (length bits) (lateness passed late (Some term) at))
      (number_step (here_at facts all field rest first met) form width (Some term) names at late)
  fixed_steps passed names met_is near_is knows part form width term value bits at late reads (v, is, valued, fits, are) plain there within =
      let w = nat_abs width in
      let here = here_at facts all field rest first met in
      let n = stored_number w v in
      let long : length bits ≡ w = ap length are ∙ length_number w n in
      let small : n < 2 ^ w = mod-lt _ (pow_pos w) in
      let found = number_found all at w bits long within there ∙ ap (λ (bs : List Bool). Some (number_of bs)) are ∙ ap (λ (n : ℕ). Some n) (back w n small) in
      let seen = bits_before all at in
      let widens = near_widens facts all field rest env first after met ahead in
      let told = names_told facts seen rest (length all) passed.met (is_known passed) (met_known passed) env near widens ahead.lies w term n v valued (plain v valued) reads in
      let goes = all_told passed.met (is_known passed) (met_known passed) env near widens (λ key now. solved_at (length all) w key (seen_at here now at) term n) term names
      (near_covers facts all field rest env first after met ahead passed names knows near_is) part told in
      let its = names_with term passed in
      let covers = its_covered passed names near_is knows part term goes.more goes.kept goes.has in
      let whole = near_part facts all field rest env first after met ahead goes.more goes.part in
      let all_its = its_names rest term passed reads in
      let now : value_of term (seen_at here goes.more at) ≡ Ok v = value_same facts seen its its (λ key has. has) (near goes.more) env covers whole term all_its ∙ valued in
      let later : is_late met late term (seen_at here goes.more at) ≡ lateness passed late (Some term) at =
      ap (λ (m : Names). is_late m late term (seen_at here goes.more at)) (sym met_is) ∙ late_same facts seen its its (λ key has. has) (near goes.more) env covers whole passed.met late term all_its in
      let same : (n == n) ≡ true = itself n in
      let stored : is_stored form width (value_of term (seen_at here goes.more at)) n ≡ true =
      ap (λ (r : Result ℤ EvalFault). is_stored form width r n) now ∙ ap (λ (b : Bool). b && (n == n)) fits ∙ same in
      let answer = λ (more : Environment).
      let it : Step = record { value = None; after = at + w; names = more; late = late_behind late w (is_late met late term (seen_at here more at)) } in it in
      record {
        names = goes.more;
        is = ap (option_and_then (λ n. option_and_then (λ more.
            if is_stored form width (value_of term (seen_at here more at)) n then Some (answer more) else None)
            (solve_all near (λ key now. solved_at (length all) w key (seen_at here now at) term n) term names))) found
            ∙ ap (option_and_then (λ more. if is_stored form width (value_of term (seen_at here more at)) n then Some (answer more) else None)) goes.is
            ∙ ap (λ (b : Bool). if b then Some (answer goes.more) else None) stored
            ∙ sym (λ i. Some (record { value = is i; after = at + long i; names = goes.more; late = late ++ replicate (long i) (sym later i) }));
        knows = told_knows term passed names goes.more knows goes.kept (newly passed near_is term goes.more goes.has);
        part = goes.part;
      }

  pub number_steps : (passed : Passed) (names : Environment) → passed.met ≡ met → passed.near ≡ is_near (field_and field rest) → Knows passed names → IsKnownOf names env
      → (form : NumForm) (width : ℤ) (fixed : Option Term) (value : Option Tree) (bits : List Bool) (at : ℕ) (late : Late) → is_number_read rest passed fixed ≡ true
      → IsNumber form width fixed (sees facts all env at) value bits → IsPlainNumber passed width fixed (sees facts all env at) → take (length bits) (drop at all) ≡ bits → at + length bits ≤ length all
      → Steps (told_by fixed passed) env value (at + length bits) (late ++ replicate (length bits) (lateness passed late fixed at))
      (number_step (here_at facts all field rest first met) form width fixed names at late)
  number_steps passed names met_is near_is knows part form width None value bits at late reads it plain there within =
      free_steps passed names knows part form width value bits at late it there within
  number_steps passed names met_is near_is knows part form width (Some term) value bits at late reads it plain there within =
      fixed_steps passed names met_is near_is knows part form width term value bits at late reads it plain there within
