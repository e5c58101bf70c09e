-- What is read with at most so many values, one part after the other.
use Rattle.std.proofs.Common.{◌≡◌, ◌⊎◌, inl, inr, ℕ, ◌+◌, ◌-◌, ◌<◌, ◌≤◌, Bool, true, false, List, [], ◌∷◌, ◌++◌, length, map, Option, Some, None, refl, sym, ap, ◌∙◌, subst, arith}
use Rattle.std.specs.Prelude.{nat_le, if◌then◌else◌, option_and_then, option_map}
use Rattle.std.specs.List.{sum_by}
use Rattle.std.proofs.lemmas.Bool.Decides.{leb_tells}
use Rattle.std.proofs.lemmas.List.{length-append, length-map}
use Rattle.std.proofs.lemmas.List.Sums.{sum_by-cons, sum_by_push, sum-map}
use Rattle.rz_core.specs.declared.resource.Word.{Word}
use Rattle.rz_types_fields.specs.declared.tree.Tree.{Tree}
use Rattle.rz_types_fields.specs.declared.tree.Tree.TheFolds.{fold-roll-Tree}
use Rattle.rz_types_fields.specs.declared.tree.Tree.TheOpen.{Tree-F}
use Rattle.rz_types_fields.specs.declared.tree.Tree.TheVariants as trees
use Rattle.rz_types_fields.specs.declared.tree.Tree.TheVariants.{rolls-Choice, rolls-Rows}
use Rattle.rz_types_fields.specs.Spells.{count_in, count_step, put, values_in}
use Rattle.rz_unlay.specs.Pieces.{with_value, Found}
use Rattle.rz_unlay.specs.Cursor.{and_lines, Line, Lines}
use Rattle.rz_unlay.specs.Rows.{pushed}
use Rattle.rz_unlay_pieces.specs.Few.{few, value_count}
use Rattle.rz_unlay.specs.Few.{found_count, line_count, lines_count, rows_count}

-- How many values there are.

sums : (rows : List (List Tree)) → sum_by (λ counts. sum_by (λ count. count) counts) (map (map count_in) rows) ≡ sum_by values_in rows
sums [] = refl
sums (row ∷ rows) =
    sum_by-cons (λ counts. sum_by (λ count. count) counts) (map count_in row) (map (map count_in) rows)
    ∙ ap (λ n. n + sum_by (λ counts. sum_by (λ count. count) counts) (map (map count_in) rows)) (sum-map count_in row)
    ∙ ap (λ n. values_in row + n) (sums rows)
    ∙ sym (sum_by-cons values_in row rows)

pub count_rows : (rows : List (List Tree)) → count_in (trees.Rows rows) ≡ rows_count rows
count_rows rows =
    ap count_in (sym (rolls-Rows rows)) ∙ fold-roll-Tree ℕ count_step (Tree-F.Rows rows)
    ∙ ap (λ n. n + sum_by (λ counts. sum_by (λ count. count) counts) (map (map count_in) rows)) (length-map rows (map count_in))
    ∙ ap (λ n. length rows + n) (sums rows)

pub count_choice : (name : Word) (row : List Tree) → count_in (trees.Choice name row) ≡ values_in row
count_choice name row = ap count_in (sym (rolls-Choice name row)) ∙ fold-roll-Tree ℕ count_step (Tree-F.Choice name row) ∙ sum-map count_in row

put_count : (value : Option Tree) (row : List Tree) → values_in (put value row) ≡ value_count value + values_in row
put_count None row = omega arith
put_count (Some value) row = sum_by-cons count_in value row

row_count : (row : List Tree) (rows : List (List Tree)) → rows_count (row ∷ rows) ≡ 1 + values_in row + rows_count rows
row_count row rows = let s = sum_by-cons values_in row rows in let l : length (row ∷ rows) ≡ 1 + length rows = omega arith in omega (arith, s, l)

-- Within a bound.

pub some_same : {X : Type 0} (one other : X) → ◌≡◌ {A = Option X} (Some one) (Some other) → one ≡ other
some_same one other is = cc

module _ {X : Type 0} (count : X → ℕ) where
  pub few_fits : (most : ℕ) (x : X) → count x ≤ most → few count most (Some x) ≡ Some x
  few_fits most x fits = by (leb_tells (count x) most)
    where
      by : ((nat_le (count x) most ≡ true) × (count x ≤ most)) ⊎ ((nat_le (count x) most ≡ false) × (most < count x)) → few count most (Some x) ≡ Some x
      by (inl (is, le)) = ap (λ (test : Bool). if test then Some x else None) is
      by (inr (is, over)) = absurd (omega (arith, fits, over))

  pub few_over : (most : ℕ) (x : X) → most < count x → few count most (Some x) ≡ None
  few_over most x over = by (leb_tells (count x) most)
    where
      by : ((nat_le (count x) most ≡ true) × (count x ≤ most)) ⊎ ((nat_le (count x) most ≡ false) × (most < count x)) → few count most (Some x) ≡ None
      by (inl (is, le)) = absurd (omega (arith, le, over))
      by (inr (is, more)) = ap (λ (test : Bool). if test then Some x else None) is

  pub is_over : (most : ℕ) (x : X) → None ≡ few count most (Some x) → most < count x
  is_over most x none = by (leb_tells (count x) most)
    where
      by : ((nat_le (count x) most ≡ true) × (count x ≤ most)) ⊎ ((nat_le (count x) most ≡ false) × (most < count x)) → most < count x
      by (inl (is, le)) = absurd (let wrong = none ∙ ap (λ (test : Bool). if test then Some x else None) is in cc)
      by (inr (is, more)) = more

  pub first_within : (most : ℕ) (o : Option X) (x : X) → Some x ≡ few count most o → (o ≡ Some x) × (count x ≤ most)
  first_within most None x is = absurd cc
  first_within most (Some y) x is = by (leb_tells (count y) most)
    where
      by : ((nat_le (count y) most ≡ true) × (count y ≤ most)) ⊎ ((nat_le (count y) most ≡ false) × (most < count y)) → (Some y ≡ Some x) × (count x ≤ most)
      by (inl (test, le)) =
          let same : Some x ≡ Some y = is ∙ ap (λ (b : Bool). if b then Some y else None) test in
          (sym same, subst (λ (z : X). count z ≤ most) (sym (some_same x y same)) le)
      by (inr (test, over)) = absurd (let wrong = is ∙ ap (λ (b : Bool). if b then Some y else None) test in cc)

module _ {X Y : Type 0} (count : X → ℕ) (total : Y → ℕ) where
  -- where the first is too many, so is the whole
  pub none_behind : (low most : ℕ) (o : Option X) (next : X → Option Y) → ((x : X) (y : Y) → next x ≡ Some y → low < count x → most < total y)
      → None ≡ few count low o → None ≡ few total most (option_and_then next o)
  none_behind low most None next more none = refl
  none_behind low most (Some x) next more none = by (next x) refl
    where
      by : (o : Option Y) → next x ≡ o → None ≡ few total most o
      by None is = refl
      by (Some y) is = sym (few_over total most y (more x y is (is_over count low x none)))

  -- what is after the first
  pub some_behind : (low most : ℕ) (o : Option X) (x : X) (next : X → Option Y) → Some x ≡ few count low o
      → few total most (option_and_then next o) ≡ few total most (next x)
  some_behind low most o x next is = ap (λ (p : Option X). few total most (option_and_then next p)) (first_within count low o x is).0

  -- the same value in another form
  pub few_map : (more most : ℕ) (turn : X → Y) (o : Option X) → ((x : X) → count x ≤ more → total (turn x) ≤ most) → ((x : X) → more < count x → most < total (turn x))
      → few total most (option_map turn o) ≡ option_map turn (few count more o)
  few_map more most turn None fits over = refl
  few_map more most turn (Some x) fits over = by (leb_tells (count x) more)
    where
      by : ((nat_le (count x) more ≡ true) × (count x ≤ more)) ⊎ ((nat_le (count x) more ≡ false) × (more < count x))
          → few total most (Some (turn x)) ≡ option_map turn (few count more (Some x))
      by (inl (is, le)) = few_fits total most (turn x) (fits x le) ∙ ap (option_map turn) (sym (few_fits count more x le))
      by (inr (is, less)) = few_over total most (turn x) (over x less) ∙ ap (option_map turn) (sym (few_over count more x less))

-- Fields of a body.

-- a value in front of those that are left
pub value_behind : (value : Option Tree) (found : Option Found) (most more : ℕ) → more + value_count value ≡ most
    → few found_count most (with_value value found) ≡ with_value value (few found_count more found)
value_behind value found most more is =
    few_map found_count found_count more most (λ f. record { row = put value f.row; after = f.after; names = f.names; late = f.late }) found
    (λ f le. let n = put_count value f.row in omega (arith, n, le, is)) (λ f less. let n = put_count value f.row in omega (arith, n, less, is))

pub value_less : (value : Option Tree) (found : Option Found) (whole : Found) → with_value value found ≡ Some whole → value_count value ≤ found_count whole
value_less value None whole is = absurd cc
value_less value (Some f) whole is =
    let same : record { row = put value f.row; after = f.after; names = f.names; late = f.late } ≡ whole = some_same _ _ is in
    subst (λ (w : Found). value_count value ≤ found_count w) same (let n = put_count value f.row in omega (arith, n))

-- Rows of an array.

module _ (row : Option Line) (behind : Line → Option Lines) where
  -- a row, and those after it
  abbrev pub one_and : Option Lines
  one_and = option_and_then (λ line. option_map (and_lines line) (behind line)) row

  front_less : (line : Line) (lines : Option Lines) (whole : Lines) → option_map (and_lines line) lines ≡ Some whole → 1 + line_count line ≤ lines_count whole
  front_less line None whole is = absurd cc
  front_less line (Some lines) whole is =
      let same : and_lines line lines ≡ whole = some_same _ _ is in
      subst (λ (w : Lines). 1 + line_count line ≤ lines_count w) same (let n = row_count line.row lines.rows in omega (arith, n))

  pub no_line : (most : ℕ) → 0 < most → None ≡ few line_count (most - 1) row → None ≡ few lines_count most one_and
  no_line most some none =
      none_behind line_count lines_count (most - 1) most row (λ line. option_map (and_lines line) (behind line))
      (λ line whole is over. let n = front_less line (behind line) whole is in omega (arith, n, over, some)) none

  pub no_more : (most : ℕ) → most ≡ 0 → None ≡ few lines_count most one_and
  no_more most none = by row
    where
      at_line : (line : Line) (lines : Option Lines) → None ≡ few lines_count most (option_map (and_lines line) lines)
      at_line line None = refl
      at_line line (Some lines) = sym (few_over lines_count most (and_lines line lines) (let n = row_count line.row lines.rows in omega (arith, n, none)))

      by : (o : Option Line) → None ≡ few lines_count most (option_and_then (λ line. option_map (and_lines line) (behind line)) o)
      by None = refl
      by (Some line) = at_line line (behind line)

  pub line_behind : (most more : ℕ) (line : Line) → 0 < most → Some line ≡ few line_count (most - 1) row → more + values_in line.row ≡ most - 1
      → few lines_count most one_and ≡ option_map (and_lines line) (few lines_count more (behind line))
  line_behind most more line some is left =
      some_behind line_count lines_count (most - 1) most row line (λ line. option_map (and_lines line) (behind line)) is
      ∙ few_map lines_count lines_count more most (and_lines line) (behind line)
      (λ lines le. let n = row_count line.row lines.rows in omega (arith, n, le, left, some)) (λ lines less. let n = row_count line.row lines.rows in omega (arith, n, less, left, some))

-- One more.

pub rows_push : (rows : List (List Tree)) (row : List Tree) → rows_count (rows ++ row ∷ []) ≡ rows_count rows + 1 + values_in row
rows_push rows row =
    let l = length-append rows (row ∷ []) in let s = sum_by_push values_in rows row in omega (arith, l, s)

pub row_push : (row : List Tree) (value : Option Tree) → values_in (pushed row value) ≡ values_in row + value_count value
row_push row None = omega arith
row_push row (Some value) = sum_by_push count_in row value
