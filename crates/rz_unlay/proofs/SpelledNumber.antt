-- A number that is read is spelled plainly.
use Rattle.std.proofs.Common.{◌≡◌, ◌⊎◌, inl, inr, ℕ, ◌+◌, ◌<◌, ◌≤◌, ◌^◌, ◌%◌, ◌==◌, ℤ, Bool, true, false, ◌&&◌, ◌||◌, List, ◌++◌, length, take, drop, Option, Some, None, Result, Ok, Err, refl, sym, ap, ◌∙◌, subst, arith}
use Rattle.std.specs.Prelude.{if◌then◌else◌, nat_abs, nat_le, not, option_and_then, replicate}
use Rattle.std.proofs.lemmas.Bool.Decides.{nat_tests}
use Rattle.std.proofs.lemmas.List.{length-drop, length-take}
use Rattle.std.proofs.lemmas.Nat.{pow_pos}
use Rattle.std.proofs.Math.Nat.{mod-lt}
use Rattle.rz_core.specs.declared.facts.Facts.{Facts}
use Rattle.rz_expr.specs.Environment.{count_of, place_in, place_of, row_in, rows_of, Environment, IsPartOf, Key, Sight}
use Rattle.rz_expr.specs.Term.{Term}
use Rattle.rz_expr.specs.Value.{value_of}
use Rattle.rz_expr.specs.declared.value.EvalFault.{EvalFault}
use Rattle.rz_bits.specs.Bits.{number_bits, number_of}
use Rattle.rz_bits.specs.View.{bits_at, number_at}
use Rattle.rz_types_fields.specs.declared.field.NumForm.{NumForm}
use Rattle.rz_types_fields.specs.declared.tree.Tree.{Tree}
use Rattle.rz_types_fields.specs.declared.tree.Tree.TheVariants as trees
use Rattle.rz_types_fields.specs.Field.{field_and, PlainBody, PlainField}
use Rattle.rz_types_fields.specs.Passed.{declares, is_held, is_known, is_near, told_by, Names, Passed}
use Rattle.rz_types_fields.specs.Range.{fits_number}
use Rattle.rz_types_fields.specs.Sees.{bits_before, is_late, sees, Late}
use Rattle.rz_types_fields.specs.Solve.{can_solve, has_key, is_same_key, keys_in, solved_value, AreSolved, IsSolvedTo, SolvesBack}
use Rattle.rz_types_fields.specs.Spells.{is_late_value, IsNumber, IsPlainNumber}
use Rattle.rz_types_fields.specs.Stored.{stored_number}
use Rattle.rz_types_fields.proofs.KeysIn.{each_key}
use Rattle.rz_types_fields.proofs.SameNames.{key_is}
use Rattle.rz_types.specs.Readable.{all_known, is_number_read, tells_one}
use Rattle.rz_unlay_pieces.specs.Pieces.{here_at, is_stored, late_behind, number_step, seen_at, solve_all, solved_at, with_near, Here, Step}
use Rattle.rz_unlay.proofs.Near.{near_alone}
use Rattle.rz_unlay.proofs.Asked.{asked_in, is_asked}
use Rattle.rz_unlay.proofs.ReadsNumber.{has_value}
use Rattle.rz_unlay.proofs.ReadsTests.{and_then, both_true, by_case, either_of, if_some, left_true, mapped, neither, none_is, not_both, right_true}
use Rattle.rz_unlay.proofs.Solved.{all_solved, Solved, WasSolved}
use Rattle.rz_unlay.proofs.SpelledNames.{solved_grows, value_grows, Grows, Knows, NearIn, NearShort}
use Rattle.rz_unlay.proofs.SpelledNear.{absent_far, near_keeps, resource_place, with_part}
use Rattle.rz_unlay.proofs.Sees.{its_known, late_hidden, met_known, Covers}
use Rattle.rz_unlay.proofs.Teller.{teller}
use Rattle.rz_unlay.proofs.Told.{part_of_part, same_part}

same_ok : (a b : ℤ) → ◌≡◌ {A = Result ℤ EvalFault} (Ok a) (Ok b) → a ≡ b
same_ok a b is = cc

-- Bits at a place.

pub record Stand (all : List Bool) (at count : ℕ) (bits : List Bool) : Type 0 where
  pub long : length bits ≡ count
  pub there : take count (drop at all) ≡ bits
  pub within : at + count ≤ length all

pub bits_stand : (all : List Bool) (at count : ℕ) (bits : List Bool) → bits_at all at count ≡ Some bits → Stand all at count bits
bits_stand all at count bits is =
    let it = if_some (nat_le (at + count) (length all)) (take count (drop at all)) bits is in
    let test = it.0 in
    let fits : at + count ≤ length all = grind (arith, nat_tests, test) in
    let one = length-drop at all in
    let two = length-take count (drop at all) in
    let long : length (take count (drop at all)) ≡ count = omega (arith, one, two, fits) in
    record { long = sym (ap length it.1) ∙ long; there = it.1; within = fits }

-- a number at a place
pub record NumberThere (all : List Bool) (at width n : ℕ) : Type 0 where
  pub bits : List Bool
  pub stand : Stand all at width bits
  pub is : number_of bits ≡ n

pub number_stands : (all : List Bool) (at width n : ℕ) → number_at all at width ≡ Some n → NumberThere all at width n
number_stands all at width n is =
    let it = mapped number_of (bits_at all at width) n is in
    record { bits = it.0; stand = bits_stand all at width it.0 it.1; is = it.2 }

-- what was read of a piece of a field, whose first place this is: its bits, what is known after it, and the marks of its bits
pub record PieceRead (all : List Bool) (body : PlainBody) (first : ℕ) (declared : Names) (behind : Passed) (names : Environment) (at : ℕ) (late : Late)
    (Is : Environment → Option Tree → List Bool → Type 0) (marks : Environment → ℕ → Late) (step : Step) : Type 0 where
  pub count : ℕ
  pub bits : List Bool
  pub stand : Stand all at count bits
  pub ends : step.after ≡ at + count
  pub grows : Grows declared names step.names
  pub knows : Knows (is_held behind) step.names
  pub stored : (env : Environment) → IsPartOf step.names env → NearIn all body first env → Is env step.value bits
  pub marked : (env : Environment) → IsPartOf step.names env → NearIn all body first env → step.late ≡ late ++ marks env (length bits)

-- Names of an expression that is read.

-- each of its names is known, or the fields after it give it
known_or_given : (rest : PlainBody) (met known : Names) → ((key : Key) → met key ≡ true → known key ≡ true) → (term : Term)
    → (all_known met known term || tells_one rest met known term) ≡ true → (key : Key) → has_key key term ≡ true → (declares rest key || known key) ≡ true
known_or_given rest met known leads term reads key has =
    either_of (all_known met known term) (tells_one rest met known term)
    (λ are. right_true (declares rest key) (known key) (its_known met known leads key term are has))
    (λ tells_it.
    let it = teller rest met known term tells_it in
    let one = both_true (declares rest it.key && can_solve it.key term) (all_known met (λ other. is_same_key it.key other || known other) term) it.is in
    let two = both_true (declares rest it.key) (can_solve it.key term) one.0 in
    either_of (is_same_key it.key key) (known key)
    (λ same. left_true (declares rest key) (known key) (ap (declares rest) (sym (key_is it.key key same)) ∙ two.0))
    (λ known_key. right_true (declares rest key) (known key) known_key)
    (its_known met (λ other. is_same_key it.key other || known other) (λ other is. right_true (is_same_key it.key other) (known other) (leads other is)) key term one.1 has))
    reads

each_solved : (known : Names) (solved : Key → Option ℤ) (names : Environment) (term : Term) → ((key : Key) → has_key key term ≡ true → IsSolvedTo (known key) (solved key) (names.give key))
    → AreSolved known solved names term
each_solved known solved names term each = each_key (λ key. IsSolvedTo (known key) (solved key) (names.give key)) (keys_in term) each

-- After a fixed number.

-- what is told by the number is held, and so is what was held before it
newly_held : (met test told : Bool) → test ≡ true → (met || (test || told)) ≡ true
newly_held true test told is = refl
newly_held false test told is = left_true test told is

still_held : (met test told : Bool) → (met || told) ≡ true → (met || (test || told)) ≡ true
still_held true test told is = refl
still_held false test told is = right_true test told is

-- and nothing else is
held_by : (met test told : Bool) → (met || told) ≡ false → (met || (test || told)) ≡ true → test ≡ true
held_by true test told none is = absurd cc
held_by false true told none is = refl
held_by false false told none is = absurd (let wrong = sym none ∙ is in cc)

has_not : (has known : Bool) → (has && not known) ≡ true → (has ≡ true) × (known ≡ false)
has_not true true is = absurd cc
has_not true false is = (refl, refl)
has_not false known is = absurd cc

-- a place that is solved lies in the resource
solved_place : (len width : ℕ) (key : Key) (seen : Sight) (term : Term) (stored : ℕ) (value : ℤ) → solved_at len width key seen term stored ≡ Some value → solved_value width key seen term stored ≡ Some value
solved_place len width (place_of name) seen term stored value is = resource_place len (solved_value width (place_of name) seen term stored) value is
solved_place len width (count_of name) seen term stored value is = is
solved_place len width (rows_of label) seen term stored value is = is
solved_place len width (place_in label number) seen term stored value is = is
solved_place len width (row_in array) seen term stored value is = is

module _ (facts : Facts) (all : List Bool) (field : PlainField) (rest : PlainBody) (first at width : ℕ) (passed : Passed) (term : Term) (n : ℕ) (names more : Environment) where
  abbrev here : Here
  here = here_at facts all field rest first passed.met

  abbrev body : PlainBody
  body = field_and field rest

  abbrev solves : Key → Environment → Option ℤ
  solves key now = solved_at (length all) width key (seen_at here now at) term n

  module _ (near_is : (key : Key) → passed.near key ≡ is_near body key) (near : NearShort all body first) (knows : Knows (is_held passed) names)
      (it : Solved (with_near here) solves (λ key. has_key key term) names more) where
    -- a name that was solved wasn't known
    solved_unknown : (key : Key) (value : ℤ) → is_asked key ≡ true → WasSolved (with_near here) solves names more key value → is_known passed key ≡ false
    solved_unknown key value asked was = by (is_held passed key) refl
      where
        far : is_near body key ≡ false
        far = absent_far facts all field rest first passed.met near was.mid key was.absent

        by : (test : Bool) → is_held passed key ≡ test → (passed.near key || test) ≡ false
        by false none = ap (λ (b : Bool). b || false) (near_is key ∙ far)
        by true held =
            let old = knows.covers key asked held in
            absurd (none_is old.0 (sym (near_keeps here was.mid key was.absent) ∙ was.behind.give key old.0 old.1))

    known_same : (key : Key) → is_asked key ≡ true → is_known passed key ≡ true → more.give key ≡ names.give key
    known_same key asked known = by (more.give key) refl (names.give key) refl
      where
        of_value : (value : ℤ) → more.give key ≡ Some value → (names.give key ≡ Some value) ⊎ WasSolved (with_near here) solves names more key value → more.give key ≡ names.give key
        of_value value found (inl was) = found ∙ sym was
        of_value value found (inr was) = not_both (is_known passed key) known (solved_unknown key value asked was)

        by : (now : Option ℤ) → more.give key ≡ now → (before : Option ℤ) → names.give key ≡ before → more.give key ≡ names.give key
        by (Some value) found before was = of_value value found (it.had key value found)
        by None found None was = found ∙ sym was
        by None found (Some value) was = absurd (none_is value (sym found ∙ it.kept.give key value was))

    told_grows : is_number_read rest passed (Some term) ≡ true → Grows (declares rest) names more
    told_grows reads = record {
      kept = it.kept;
      same = λ key none. by_case (has_key key term)
          (λ has. known_same key (asked_in key term has) (either_of (declares rest key) (is_known passed key) (λ given. not_both (declares rest key) given none) (λ known. known)
          (known_or_given rest passed.met (is_known passed) (met_known passed) term reads key has)))
          (λ absent. it.same key absent);
    }

    module _ (value : ℤ) (valued : value_of term (seen_at here more at) ≡ Ok value) where
      its_values : Covers (λ key. has_key key term) (with_near here more)
      its_values key asked has = has_value facts (bits_before all at) (with_near here more) key term value valued has

      -- a name of the expression that wasn't known has its value now
      own_given : (key : Key) → has_key key term ≡ true → is_known passed key ≡ false → (value : ℤ) × (more.give key ≡ Some value)
      own_given key has none =
          let one = its_values key (asked_in key term has) has in
          let far : is_near body key ≡ false = sym (near_is key) ∙ (neither (passed.near key) (is_held passed key) none).0 in
          (one.0, sym (near_alone facts all field rest first passed.met more key far) ∙ one.1)

      told_knows : Knows (is_held (told_by (Some term) passed)) more
      told_knows = record { covers = covers; only = only }
        where
          covers : (key : Key) → is_asked key ≡ true → is_held (told_by (Some term) passed) key ≡ true → (value : ℤ) × (more.give key ≡ Some value)
          covers key asked known =
              by_case (is_held passed key)
              (λ held. let old = knows.covers key asked held in (old.0, it.kept.give key old.0 old.1))
              (λ none.
              let told = has_not (has_key key term) (is_known passed key) (held_by (passed.met key) (has_key key term && not (is_known passed key)) (passed.told key) none known) in
              own_given key told.0 told.1)

          of_value : (key : Key) (value : ℤ) → is_asked key ≡ true → more.give key ≡ Some value → (names.give key ≡ Some value) ⊎ WasSolved (with_near here) solves names more key value
              → is_held (told_by (Some term) passed) key ≡ true
          of_value key value asked found (inl was) = still_held (passed.met key) (has_key key term && not (is_known passed key)) (passed.told key) (knows.only key value asked was)
          of_value key value asked found (inr was) =
              by_case (has_key key term)
              (λ has. newly_held (passed.met key) (has_key key term && not (is_known passed key)) (passed.told key) (λ i. has i && not (solved_unknown key value asked was i)))
              (λ absent. still_held (passed.met key) (has_key key term && not (is_known passed key)) (passed.told key) (knows.only key value asked (sym (it.same key absent) ∙ found)))

          only : (key : Key) (value : ℤ) → is_asked key ≡ true → more.give key ≡ Some value → is_held (told_by (Some term) passed) key ≡ true
          only key value asked found = of_value key value asked found (it.had key value found)

      told_back : (env : Environment) → IsPartOf more env → NearIn all body first env → SolvesBack (is_known passed) width (sees facts all env at) term n
      told_back env part near_in = each_solved (is_known passed) (λ key. solved_value width key (sees facts all env at) term n) env term (λ key has. by key has (is_known passed key) refl)
        where
          of_value : (key : Key) (value : ℤ) → is_asked key ≡ true → is_known passed key ≡ false → more.give key ≡ Some value → (names.give key ≡ Some value) ⊎ WasSolved (with_near here) solves names more key value
              → solved_value width key (sees facts all env at) term n ≡ env.give key
          of_value key value asked none found (inl was) = not_both (is_known passed key) (right_true (passed.near key) (is_held passed key) (knows.only key value asked was)) none
          of_value key value asked none found (inr was) =
              solved_grows facts (bits_before all at) (with_near here was.mid) env
              (with_part facts all field rest first passed.met was.mid env (part_of_part was.mid more env was.before part) near_in) width key term n value
              (solved_place (length all) width key (seen_at here was.mid at) term n value was.is)
              ∙ sym (part.give key value found)

          by : (key : Key) → has_key key term ≡ true → (test : Bool) → is_known passed key ≡ test → IsSolvedTo test (solved_value width key (sees facts all env at) term n) (env.give key)
          by key has true known = tt
          by key has false none = let one = own_given key has none in of_value key one.0 (asked_in key term has) none one.1 (it.had key one.0 one.1)

      -- it is late in the finished names where it is late here
      same_late : (env : Environment) → IsPartOf more env → NearIn all body first env → (met : Names) (late : Late) → is_late met late term (seen_at here more at) ≡ is_late met late term (sees facts all env at)
      same_late env part near_in met late =
          late_hidden facts (bits_before all at) (with_near here more) env (with_part facts all field rest first passed.met more env part near_in) met late term value valued

-- The value that is stored.

-- how a number with an expression is read, where its bits are known, and then its names
abbrev pub fixed_step : Here → NumForm → ℤ → Term → ℕ → Late → ℕ → Environment → Option Step
fixed_step here form width term at late n more =
    if is_stored form width (value_of term (seen_at here more at)) n
    then Some (record { value = None; after = at + nat_abs width; names = more; late = late_behind late (nat_abs width) (is_late here.met late term (seen_at here more at)) }) else None

abbrev pub fixed_steps : Here → NumForm → ℤ → Term → Environment → ℕ → Late → ℕ → Option Step
fixed_steps here form width term names at late n =
    option_and_then (fixed_step here form width term at late n) (solve_all (with_near here) (λ key now. solved_at (length here.all) (nat_abs width) key (seen_at here now at) term n) term names)

record Valued (form : NumForm) (width : ℤ) (result : Result ℤ EvalFault) (n : ℕ) : Type 0 where
  value : ℤ
  is : result ≡ Ok value
  fits : fits_number form width value ≡ true
  stored : stored_number (nat_abs width) value ≡ n

valued : (form : NumForm) (width : ℤ) (result : Result ℤ EvalFault) (n : ℕ) → is_stored form width result n ≡ true → Valued form width result n
valued form width (Err fault) n is = absurd cc
valued form width (Ok value) n is =
    let each = both_true (fits_number form width value) (stored_number (nat_abs width) value == n) is in
    record { value = value; is = refl; fits = each.0; stored = same_number (stored_number (nat_abs width) value) n each.1 }
  where
    same_number : (a b : ℕ) → (a == b) ≡ true → a ≡ b
    same_number a b is = grind (arith, nat_tests, is)

module _ (read : (width number : ℕ) → number_of (number_bits width number) ≡ number % 2 ^ width) (written : (bits : List Bool) → number_bits (length bits) (number_of bits) ≡ bits) where
  pub below : (bits : List Bool) → number_of bits < 2 ^ length bits
  below bits =
      subst (λ n. n < 2 ^ length bits) (sym (ap number_of (sym (written bits)) ∙ read (length bits) (number_of bits))) (mod-lt (number_of bits) (pow_pos (length bits)))

  bits_are : (all : List Bool) (at width n : ℕ) (it : NumberThere all at width n) → it.bits ≡ number_bits width n
  bits_are all at width n it = sym (written it.bits) ∙ (λ i. number_bits (it.stand.long i) (it.is i))

  small_is : (all : List Bool) (at width n : ℕ) → NumberThere all at width n → n < 2 ^ width
  small_is all at width n it = subst (λ m. m < 2 ^ width) it.is (subst (λ w. number_of it.bits < 2 ^ w) it.stand.long (below it.bits))

  module _ (facts : Facts) (all : List Bool) (field : PlainField) (rest : PlainBody) (first at : ℕ) (late : Late) (passed : Passed) (names : Environment) (form : NumForm) (width : ℤ) where
    abbrev own : Here
    own = here_at facts all field rest first passed.met

    abbrev Read : Option Term → Step → Type 0
    Read fixed step = PieceRead all (field_and field rest) first (declares rest) (told_by fixed passed) names at late
        (λ env value bits. IsNumber form width fixed (sees facts all env at) value bits × IsPlainNumber passed width fixed (sees facts all env at)) (λ env count. replicate count (is_late_value passed.met late fixed (sees facts all env at))) step

    free_came : (n : ℕ) (step : Step) → Knows (is_held passed) names → NumberThere all at (nat_abs width) n
        → record { value = Some (trees.Number n); after = at + nat_abs width; names = names; late = late_behind late (nat_abs width) false } ≡ step → Read None step
    free_came n step knows number made = subst (Read None) made (record {
      count = nat_abs width;
      bits = number.bits;
      stand = number.stand;
      ends = refl;
      grows = record { kept = same_part names; same = λ key none. refl };
      knows = knows;
      stored = λ env part near_in. ((n, refl, small_is all at (nat_abs width) n number, bits_are all at (nat_abs width) n number), tt);
      marked = λ env part near_in. ap (λ (count : ℕ). late ++ replicate count false) (sym number.stand.long);
    })

    module _ (near_is : (key : Key) → passed.near key ≡ is_near (field_and field rest) key) (near : NearShort all (field_and field rest) first) (knows : Knows (is_held passed) names) where
      fixed_came : (term : Term) (more : Environment) (n : ℕ) (step : Step) → is_number_read rest passed (Some term) ≡ true → NumberThere all at (nat_abs width) n
          → Solved (with_near own) (λ key now. solved_at (length all) (nat_abs width) key (seen_at own now at) term n) (λ key. has_key key term) names more
          → is_stored form width (value_of term (seen_at own more at)) n ≡ true
          → record { value = None; after = at + nat_abs width; names = more; late = late_behind late (nat_abs width) (is_late passed.met late term (seen_at own more at)) } ≡ step → Read (Some term) step
      fixed_came term more n step reads number solved stored made =
          let it = valued form width (value_of term (seen_at own more at)) n stored in
          let finished = with_part facts all field rest first passed.met more in
          subst (Read (Some term)) made (record {
            count = nat_abs width;
            bits = number.bits;
            stand = number.stand;
            ends = refl;
            grows = told_grows facts all field rest first at (nat_abs width) passed term n names more near_is near knows solved reads;
            knows = told_knows facts all field rest first at (nat_abs width) passed term n names more near_is near knows solved it.value it.is;
            stored = λ env part near_in.
                let valued = value_grows facts (bits_before all at) (with_near own more) env (finished env part near_in) term it.value it.is in (
                  (
                    it.value,
                    refl,
                    valued,
                    it.fits,
                    bits_are all at (nat_abs width) n number ∙ ap (number_bits (nat_abs width)) (sym it.stored),
                  ),
                  λ v is. subst (SolvesBack (is_known passed) (nat_abs width) (sees facts all env at) term) (sym it.stored ∙ ap (stored_number (nat_abs width)) (same_ok it.value v (sym valued ∙ is)))
                      (told_back facts all field rest first at (nat_abs width) passed term n names more near_is near knows solved it.value it.is env part near_in),
                );
            marked = λ env part near_in i. late ++ replicate (sym number.stand.long i) (same_late facts all field rest first at (nat_abs width) passed term n names more near_is near knows solved it.value it.is env part near_in passed.met late i);
          })

      pub number_came : (fixed : Option Term) (step : Step) → is_number_read rest passed fixed ≡ true → number_step own form width fixed names at late ≡ Some step → Read fixed step
      number_came None step reads is =
          let it = mapped (λ n. record { value = Some (trees.Number n); after = at + nat_abs width; names = names; late = late_behind late (nat_abs width) false }) (number_at all at (nat_abs width)) step is in
          free_came it.0 step knows (number_stands all at (nat_abs width) it.0 it.1) it.2
      number_came (Some term) step reads is =
          let one = and_then (fixed_steps own form width term names at late) (number_at all at (nat_abs width)) step is in
          let n : ℕ = one.0 in
          let two = and_then (fixed_step own form width term at late n) (solve_all (with_near own) (λ key now. solved_at (length all) (nat_abs width) key (seen_at own now at) term n) term names) step one.2 in
          let more : Environment = two.0 in
          let three = if_some (is_stored form width (value_of term (seen_at own more at)) n)
          (record { value = None; after = at + nat_abs width; names = more; late = late_behind late (nat_abs width) (is_late passed.met late term (seen_at own more at)) }) step two.2 in
          fixed_came term more n step reads (number_stands all at (nat_abs width) n one.1)
          (all_solved (with_near own) (λ key now. solved_at (length all) (nat_abs width) key (seen_at own now at) term n) (near_keeps own) term names more two.1) three.0 three.1
