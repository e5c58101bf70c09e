-- Cases by their keys: the case whose key stands at a place is the only one, since keys stand apart.
use Rattle.std.proofs.Common.{◌≡◌, ◌≢◌, ℕ, zero, suc, ◌+◌, ◌<◌, ◌≤◌, ◌==◌, ◌&&◌, Bool, true, false, if◌then◌else◌, List, [], ◌∷◌, length, map, drop, get_or, Option, Some, None, refl, sym, ap, subst, ◌∙◌, arith}
use Rattle.std.specs.Prelude.{option_map, slice_get}
use Rattle.std.specs.List.{AllByRecursion}
use Rattle.std.proofs.lemmas.Bool.Decides.{nat_tests}
use Rattle.std.proofs.lemmas.Option.{slice_get-map, slice_get_read}
use Rattle.rz_core.proofs.Tests.{both}
use Rattle.rz_core.specs.declared.facts.Facts.{Facts}
use Rattle.rz_expr.specs.Environment.{Environment}
use Rattle.rz_types_fields.proofs.Bodies.{case_is, cases_end, cases_next}
use Rattle.rz_types_fields.specs.declared.field.Case.{Case}
use Rattle.rz_types_fields.specs.declared.field.Field.TheViews.{out-Case}
use Rattle.rz_types_fields.specs.declared.keys.CaseKey.{CaseKey}
use Rattle.rz_types_fields.specs.declared.tree.Tree.TheVariants as trees
use Rattle.rz_types_fields.specs.Field.{case_and, cases_of, no_cases, plain_body, plain_case, plain_cases, PlainBody, PlainCase, PlainCases}
use Rattle.rz_types_fields.specs.Front.{names_inside}
use Rattle.rz_types_fields.specs.Passed.{met_inside, Names}
use Rattle.rz_types_fields.specs.Sees.{Late}
use Rattle.rz_types.specs.Kept.{IsApartFrom, StandApart}
use Rattle.rz_types.specs.Width.{case_keys}
use Rattle.rz_unlay.specs.Came.{chosen, line_at}
use Rattle.rz_unlay.specs.Cursor.{body_found, case_found, case_there, has_bits, has_case_keys, has_key_at, has_keys, key_at, line_of}
use Rattle.rz_unlay.specs.Fits.{AreFit, CasesFit, HasKeyFrom}
use Rattle.rz_unlay.specs.Pieces.{Found}
use Rattle.rz_unlay_pieces.specs.Pieces.{Step}

-- Keys.

-- where one key is, no other that stands apart from it is
apart_absent : (all : List Bool) (at : ℕ) (one other : CaseKey) → StandApart one other → has_key_at all at other ≡ true → has_key_at all at one ≡ false
apart_absent all at one other apart there =
    (λ i. has_bits (key_at all at (apart.width i) (apart.distance i)) one.bits) ∙ by (key_at all at other.width other.distance) there
  where
    differ : (found mine yours : ℕ) → mine ≢ yours → (found == yours) ≡ true → (found == mine) ≡ false
    differ found mine yours apart is = grind (arith, nat_tests, apart)

    by : (o : Option ℕ) → has_bits o other.bits ≡ true → has_bits o one.bits ≡ false
    by None is = absurd cc
    by (Some found) is = differ found one.bits other.bits apart.bits is

apart_at : (key : CaseKey) (cases : List PlainCase) (k : ℕ) (one : PlainCase) → IsApartFrom key (cases_of cases) → slice_get cases k ≡ Some one → AllByRecursion (StandApart key) (case_keys one.row)
apart_at key [] k one apart is = absurd cc
apart_at key (first ∷ cases) zero one apart is = let same : first ≡ one = cc is in subst (λ (c : PlainCase). AllByRecursion (StandApart key) (case_keys c.row)) same apart.0
apart_at key (first ∷ cases) (suc k) one apart is = apart_at key cases k one apart.1 is

-- a case has one key
key_of : (cases : List PlainCase) (k : ℕ) (one : PlainCase) → CasesFit (cases_of cases) → slice_get cases k ≡ Some one → HasKeyFrom (Some 0) one.row
key_of [] k one fits is = absurd cc
key_of (first ∷ cases) zero one fits is =
    let same : first ≡ one = cc is in
    subst (λ (c : PlainCase). HasKeyFrom (Some 0) c.row) same (record { key = fits.0.key; alone = fits.0.alone; fixed = fits.0.fixed })
key_of (first ∷ cases) (suc k) one fits is = key_of cases k one fits.2 is

-- Cases.

fit_row : (cases : List PlainCase) (k : ℕ) (one : PlainCase) → CasesFit (cases_of cases) → slice_get cases k ≡ Some one → AreFit one.row
fit_row [] k one fits is = absurd cc
fit_row (first ∷ cases) zero one fits is = let same : first ≡ one = cc is in subst (λ (c : PlainCase). AreFit c.row) same fits.1
fit_row (first ∷ cases) (suc k) one fits is = fit_row cases k one fits.2 is

only : (all : List Bool) (at : ℕ) (cases : List PlainCase) (k : ℕ) (one : PlainCase) → CasesFit (cases_of cases) → slice_get cases k ≡ Some one → has_keys all at (case_keys one.row) ≡ true
    → case_there all at (cases_of cases) ≡ Some one
only all at [] k one fits is there = absurd cc
only all at (first ∷ cases) zero one fits is there =
    let same : first ≡ one = cc is in
    ap (λ (b : Bool). if b then Some first else case_there all at (cases_of cases)) (subst (λ (c : PlainCase). has_keys all at (case_keys c.row) ≡ true) (sym same) there)
    ∙ ap (λ (c : PlainCase). Some c) same
only all at (first ∷ cases) (suc k) one fits is there =
    let other = key_of cases k one fits.2 is in
    let apart = (subst (λ (keys : List CaseKey). AllByRecursion (StandApart fits.0.key) keys) other.alone (apart_at fits.0.key cases k one fits.0.apart is)).0 in
    let found = (both (has_key_at all at other.key) true (ap (has_keys all at) (sym other.alone) ∙ there)).0 in
    ap (λ (b : Bool). if b then Some first else case_there all at (cases_of cases))
    (ap (has_keys all at) fits.0.alone ∙ ap (λ (b : Bool). b && true) (apart_absent all at fits.0.key other.key apart found))
    ∙ only all at cases k one fits.2 is there

found_so : (all : List Bool) (at : ℕ) (cases : List PlainCase) (k : ℕ) → CasesFit (cases_of cases) → (o : Option PlainCase) → slice_get cases k ≡ o → has_case_keys all at o ≡ true
    → case_there all at (cases_of cases) ≡ o
found_so all at cases k fits None is there = absurd cc
found_so all at cases k fits (Some one) is there = only all at cases k one fits is there

-- a case whose key stands there is the first such
pub there_so : (all : List Bool) (at : ℕ) (cases : List Case) (k : ℕ) → CasesFit (plain_cases cases) → has_case_keys all at (option_map plain_case (slice_get cases k)) ≡ true
    → case_there all at (plain_cases cases) ≡ option_map plain_case (slice_get cases k)
there_so all at cases k fits there = found_so all at (map plain_case cases) k fits (option_map plain_case (slice_get cases k)) (slice_get-map plain_case cases k) there

pub there_within : (all : List Bool) (at : ℕ) (cases : List Case) (k : ℕ) → has_case_keys all at (option_map plain_case (slice_get cases k)) ≡ true → k < length cases
there_within all at [] k there = absurd cc
there_within all at (one ∷ cases) zero there = omega arith
there_within all at (one ∷ cases) (suc k) there = let n = there_within all at cases k there in omega (arith, n)

-- the case at a position
module _ (cases : List Case) (k : ℕ) (one : Case) (less : k < length cases) (item : one ≡ get_or cases k one) where
  there_is : slice_get cases k ≡ Some one
  there_is = slice_get_read cases (length cases) k one refl less item

  pub case_is_at : option_map plain_case (slice_get cases k) ≡ Some (plain_case one)
  case_is_at = ap (option_map plain_case) there_is

  pub fit_at : CasesFit (plain_cases cases) → AreFit (plain_case one).row
  fit_at fits = fit_row (map plain_case cases) k (plain_case one) fits (slice_get-map plain_case cases k ∙ case_is_at)

  -- its row, as the code reads it there
  abbrev own_row : PlainBody
  own_row = plain_body (out-Case (get_or cases k one)).row

  row_is : plain_body (out-Case one).row ≡ own_row
  row_is = ap (λ (c : Case). plain_body (out-Case c).row) item

  pub fit_here : CasesFit (plain_cases cases) → AreFit own_row
  fit_here fits = subst AreFit row_is (subst (λ (c : PlainCase). AreFit c.row) (case_is one) (fit_at fits))

  pub key_here : CasesFit (plain_cases cases) → HasKeyFrom (Some 0) own_row
  key_here fits =
      subst (HasKeyFrom (Some 0)) row_is
      (subst (λ (c : PlainCase). HasKeyFrom (Some 0) c.row) (case_is one)
      (key_of (map plain_case cases) k (plain_case one) fits (slice_get-map plain_case cases k ∙ case_is_at)))

  pub keys_here : (all : List Bool) (at : ℕ) → has_case_keys all at (option_map plain_case (slice_get cases k)) ≡ has_keys all at (case_keys own_row)
  keys_here all at =
      ap (has_case_keys all at) case_is_at
      ∙ ap (λ (c : PlainCase). has_keys all at (case_keys c.row)) (case_is one)
      ∙ ap (λ (b : PlainBody). has_keys all at (case_keys b)) row_is

  -- one case after the other
  module _ (all : List Bool) (at : ℕ) (total : Option PlainCase) (so : case_there all at (plain_cases (drop k cases)) ≡ total) where
    abbrev this : PlainCase
    this = record { name = (out-Case one).name; row = plain_body (out-Case one).row }

    first : (if has_keys all at (case_keys own_row) then Some this else case_there all at (plain_cases (drop (k + 1) cases))) ≡ total
    first =
        ap (λ (b : PlainBody). if has_keys all at (case_keys b) then Some this else case_there all at (plain_cases (drop (k + 1) cases))) (sym row_is)
        ∙ ap (case_there all at) (sym (cases_next cases k one less item))
        ∙ so

    pub there_here : has_keys all at (case_keys own_row) ≡ true → total ≡ option_map plain_case (slice_get cases k)
    there_here is =
        sym first
        ∙ ap (λ (b : Bool). if b then Some this else case_there all at (plain_cases (drop (k + 1) cases))) is
        ∙ ap (λ (c : PlainCase). Some c) (sym (case_is one))
        ∙ sym case_is_at

    pub there_later : has_keys all at (case_keys own_row) ≡ false → case_there all at (plain_cases (drop (k + 1) cases)) ≡ total
    there_later is = sym (ap (λ (b : Bool). if b then Some this else case_there all at (plain_cases (drop (k + 1) cases))) is) ∙ first

pub there_never : (all : List Bool) (at : ℕ) (cases : List Case) (i : ℕ) (total : Option PlainCase) → length cases ≤ i → case_there all at (plain_cases (drop i cases)) ≡ total → total ≡ None
there_never all at cases i total past so = sym so ∙ ap (case_there all at) (cases_end cases i past)

pub none_there : (all : List Bool) (at : ℕ) (cases : List Case) (k : ℕ) → length cases ≤ k → false ≡ has_case_keys all at (option_map plain_case (slice_get cases k))
none_there all at [] k past = refl
none_there all at (one ∷ cases) zero past = absurd (omega (arith, past))
none_there all at (one ∷ cases) (suc k) past = none_there all at cases k (omega (arith, past))

-- What is read of the case.

module _ (known : Facts) (all : List Bool) (met : Names) (names : Environment) (at : ℕ) (late : Late) where
  abbrev made : PlainCase → Option Step
  made one = chosen one.name names (line_at known all None one.row met names at late)

  made_is : (one : PlainCase) → made one ≡ option_map (λ (f : Found). record { value = Some (trees.Choice one.name f.row); after = f.after; names = names; late = f.late }) (body_found known all (met_inside one.row met) one.row (names_inside None one.row names) at late)
  made_is one = by (body_found known all (met_inside one.row met) one.row (names_inside None one.row names) at late)
    where
      by : (found : Option Found) → chosen one.name names (line_of found) ≡ option_map (λ (f : Found). record { value = Some (trees.Choice one.name f.row); after = f.after; names = names; late = f.late }) found
      by None = refl
      by (Some f) = refl

  pub case_read : (cases : PlainCases) (one : PlainCase) → case_there all at cases ≡ Some one → case_found known all met cases names at late ≡ made one
  case_read no_cases one is = absurd cc
  case_read (case_and name row others) one is = by (case_read others one) (has_keys all at (case_keys row)) is
    where
      own : PlainCase
      own = record { name = name; row = row }

      by : (case_there all at others ≡ Some one → case_found known all met others names at late ≡ made one) → (b : Bool) → (if b then Some own else case_there all at others) ≡ Some one
          → (if b then option_map (λ (f : Found). record { value = Some (trees.Choice name f.row); after = f.after; names = names; late = f.late }) (body_found known all (met_inside row met) row (names_inside None row names) at late)
          else case_found known all met others names at late) ≡ made one
      by later true is = let same : own ≡ one = cc is in sym (made_is own) ∙ ap made same
      by later false is = later is

  pub no_case_read : (cases : PlainCases) → case_there all at cases ≡ None → case_found known all met cases names at late ≡ None
  no_case_read no_cases is = refl
  no_case_read (case_and name row others) is = by (no_case_read others) (has_keys all at (case_keys row)) is
    where
      by : (case_there all at others ≡ None → case_found known all met others names at late ≡ None) → (b : Bool)
          → (if b then Some (record { name = name; row = row }) else case_there all at others) ≡ None
          → (if b then option_map (λ (f : Found). record { value = Some (trees.Choice name f.row); after = f.after; names = names; late = f.late }) (body_found known all (met_inside row met) row (names_inside None row names) at late)
          else case_found known all met others names at late) ≡ None
      by later true is = absurd cc
      by later false is = later is
