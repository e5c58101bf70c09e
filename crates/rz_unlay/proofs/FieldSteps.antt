-- Fields of a body, rows of an array and cases of a switch, one more at a time.
use Rattle.std.proofs.Common.{◌≡◌, ℕ, zero, suc, ◌+◌, ◌-◌, ◌<◌, ◌≤◌, ◌||◌, ◌⊎◌, inl, inr, Bool, true, false, ℤ, List, [], ◌∷◌, ◌++◌, length, get_or, drop, IfSome, Option, Some, None, refl, sym, ap, ◌∙◌, subst, append_assoc, arith}
use Rattle.std.specs.Prelude.{nat_le, if◌then◌else◌, option_and_then, option_map}
use Rattle.std.proofs.lemmas.List.{append-nil}
use Rattle.rz_core.specs.declared.facts.Facts.{Facts}
use Rattle.rz_core.specs.declared.resource.Word.{Word}
use Rattle.rz_expr.specs.Environment.{Environment}
use Rattle.rz_types_fields.specs.declared.field.Field.{Field}
use Rattle.rz_types_fields.specs.declared.field.Field.TheVariants as fields
use Rattle.rz_types_fields.specs.declared.field.NumField.{NumField}
use Rattle.rz_types_fields.specs.declared.field.PointField.{PointField}
use Rattle.rz_types_fields.specs.declared.field.TextField.{TextField}
use Rattle.rz_types_fields.proofs.Bodies.{body_end, body_next}
use Rattle.rz_types_fields.specs.declared.tree.Tree.{Tree}
use Rattle.rz_types_fields.specs.declared.tree.Tree.TheVariants as trees
use Rattle.rz_types_fields.specs.FlatRows.{AllPlacesAre, PlacesAre}
use Rattle.rz_types_fields.specs.RowLabels.{also_rows}
use Rattle.rz_types_fields.specs.Spells.{put, values_in}
use Rattle.rz_types_fields.specs.Field.{field_and, plain_body, plain_field, Align, Array, Fill, Label, Number, PlainBody, PlainField, Points, Switch, Text}
use Rattle.rz_unlay.specs.Came.{chosen, found_of, AreLines, IsLine}
use Rattle.rz_unlay.specs.Cursor.{and_lines, body_found, field_found, goes_on, is_over, line_of, no_lines, rows_over, rows_until, Line, Lines, ReadsRow}
use Rattle.rz_unlay.specs.Pieces.{field_of_pieces, with_value, met_past, Found}
use Rattle.rz_unlay_pieces.specs.Pieces.{claim_count, here_at, Step}
use Rattle.rz_unlay_pieces.specs.Came.{met_in, met_of}
use Rattle.rz_unlay_pieces.specs.declared.came.Met.{Met}
use Rattle.rz_unlay.proofs.LeafSteps.{align_is, fill_is, label_is, num_is, points_is, text_is}
use Rattle.rz_types_fields.specs.Known.{known}
use Rattle.rz_unlay_pieces.specs.Few.{few, step_count, value_count}
use Rattle.rz_unlay.specs.Few.{found_count, line_count, lines_count}
use Rattle.rz_unlay.specs.Fits.{AreFit, Fits}
use Rattle.rz_unlay.specs.declared.came.RowCame.{RowCame}
use Rattle.rz_unlay.specs.declared.came.RowsCame.{RowsCame}
use Rattle.rz_unlay.specs.declared.rows.Until.{Until}
use Rattle.rz_types_fields.specs.Passed.{gives_count, gives_rows, met_behind, Names}
use Rattle.rz_types_fields.specs.Sees.{marked, Late}
use Rattle.rz_unlay_pieces.specs.Seen.{met_counted, met_in_rows}
use Rattle.rz_unlay_pieces.specs.declared.learnt.Learnt.{Learnt}
use Rattle.rz_unlay.specs.Rows.{pushed}
use Rattle.rz_unlay.proofs.FewValues.{count_choice, count_rows, few_fits, first_within, line_behind, no_line, no_more, none_behind, some_behind, some_same, value_behind, value_less}

-- Fields.

-- after a row that was read
abbrev pub with_row : List Tree → Option Found → Option Found
with_row row found = option_map (λ f. record { row = row ++ f.row; after = f.after; names = f.names; late = f.late }) found

pub none_before : (row : List Tree) (found : Option Found) → row ≡ [] → with_row row found ≡ found
none_before row found none = ap (λ (r : List Tree). with_row r found) none ∙ by found
  where
    by : (found : Option Found) → with_row [] found ≡ found
    by None = refl
    by (Some f) = refl

pushed_front : (row : List Tree) (value : Option Tree) (others : List Tree) → pushed row value ++ others ≡ row ++ put value others
pushed_front row None others = refl
pushed_front row (Some value) others = append_assoc row (value ∷ []) others

pushed_row : (row : List Tree) (value : Option Tree) (found : Option Found) → with_row (pushed row value) found ≡ with_row row (with_value value found)
pushed_row row value None = refl
pushed_row row value (Some f) = λ i. Some (record { row = pushed_front row value f.row i; after = f.after; names = f.names; late = f.late })

module _ (known : Facts) (all : List Bool) (met : Names) (fields : List Field) (i : ℕ) (field : Field) (less : i < length fields) (item : field ≡ get_or fields i field)
    (row : List Tree) (names : Environment) (at : ℕ) (late : Late) (most : ℕ) (total : Option Found)
    (so : with_row row (few found_count most (body_found known all met (plain_body (drop i fields)) names at late)) ≡ total) where
  abbrev others : PlainBody
  others = plain_body (drop (i + 1) fields)

  abbrev this : Option Step
  this = field_found known all others met (plain_field field) names at late

  abbrev behind_it : Step → Option Found
  behind_it step = body_found known all (met_behind (plain_field field) met) others step.names step.after step.late

  abbrev next : Step → Option Found
  next step = with_value step.value (behind_it step)

  first_is : with_row row (few found_count most (option_and_then next this)) ≡ total
  first_is = ap (λ (b : PlainBody). with_row row (few found_count most (body_found known all met b names at late))) (sym (body_next fields i field less item)) ∙ so

  pub field_more : (more : ℕ) (step : Step) → Some step ≡ few step_count most this → more + value_count step.value ≡ most
      → with_row (pushed row step.value) (few found_count more (behind_it step)) ≡ total
  field_more more step is left =
      pushed_row row step.value (few found_count more (behind_it step))
      ∙ ap (with_row row) (sym (value_behind step.value (behind_it step) most more left))
      ∙ ap (with_row row) (sym (some_behind step_count found_count most most this step next is))
      ∙ first_is

  pub no_field : None ≡ few step_count most this → None ≡ total
  no_field none =
      ap (with_row row) (none_behind step_count found_count most most this next
      (λ step whole is over. let n = value_less step.value (behind_it step) whole is in omega (arith, n, over)) none)
      ∙ first_is

pub fields_over : (known : Facts) (all : List Bool) (met : Names) (fields : List Field) (i : ℕ) → length fields ≤ i → (row : List Tree) (names : Environment) (at : ℕ) (late : Late) (most : ℕ) (total : Option Found)
    → with_row row (few found_count most (body_found known all met (plain_body (drop i fields)) names at late)) ≡ total
    → Some (record { row = row; after = at; names = names; late = late }) ≡ total
fields_over known all met fields i past row names at late most total so =
    (λ i. Some (record { row = sym (append-nil row) i; after = at; names = names; late = late }))
    ∙ ap (with_row row) (sym (few_fits found_count most (record { row = []; after = at; names = names; late = late }) (omega arith)))
    ∙ ap (λ (b : PlainBody). with_row row (few found_count most (body_found known all met b names at late))) (sym (body_end fields i past))
    ∙ so

pub fits_next : (fields : List Field) (i : ℕ) (field : Field) → i < length fields → field ≡ get_or fields i field → AreFit (plain_body (drop i fields))
    → Fits (plain_field field) × AreFit (plain_body (drop (i + 1) fields))
fits_next fields i field less item fits = subst AreFit (body_next fields i field less item) fits

-- the row of a body, without what is known after it
pub line_few : (most : ℕ) (found : Option Found) → few line_count most (line_of found) ≡ line_of (few found_count most found)
line_few most None = refl
line_few most (Some f) = open_test (nat_le (values_in f.row) most)
  where
    open_test : (test : Bool) → (if test then Some (record { row = f.row; own = f.names; after = f.after; late = f.late }) else None) ≡ line_of (if test then Some f else None)
    open_test true = refl
    open_test false = refl

pub body_line : (body : PlainBody) (learnt : Learnt) (came : Option RowCame) (most : ℕ) (found : Option Found) → option_map (found_of learnt) came ≡ few found_count most found
    → IfSome came (λ r. PlacesAre (known learnt.notes.items) body r.places.items) → IsLine body learnt.marks came (few line_count most (line_of found))
body_line body learnt None most found is are = ap line_of is ∙ sym (line_few most found)
body_line body learnt (Some c) most found is are = (known learnt.notes.items, ap line_of is ∙ sym (line_few most found), are)

-- the same row that came
pub is_line : (body : PlainBody) (marks : List Bool) (one other : Option RowCame) (found : Option Line) → one ≡ other → IsLine body marks one found → IsLine body marks other found
is_line body marks one other found is it = subst (λ (came : Option RowCame). IsLine body marks came found) is it

-- A field without fields within it.

abbrev pub IsLeaf : PlainField → Type 0
IsLeaf (Array name count row) = ⊥
IsLeaf (Switch cases) = ⊥
IsLeaf field = Unit {0}

pub leaf_of : (field : Field)
    → ((number : NumField) × (field ≡ fields.Num number)) ⊎ (((text : TextField) × (field ≡ fields.Text text)) ⊎ (((points : PointField) × (field ≡ fields.Points points))
    ⊎ (((unit : ℕ) × (count : ℤ) × (field ≡ fields.Fill unit count)) ⊎ (((unit : ℕ) × (field ≡ fields.Align unit)) ⊎ ((name : Word) × (field ≡ fields.Label name))))))
    → IsLeaf (plain_field field)
leaf_of field (inl (number, is)) = subst IsLeaf (sym (num_is field number is)) tt
leaf_of field (inr (inl (text, is))) = subst IsLeaf (sym (text_is field text is)) tt
leaf_of field (inr (inr (inl (points, is)))) = subst IsLeaf (sym (points_is field points is)) tt
leaf_of field (inr (inr (inr (inl (unit, count, is))))) = subst IsLeaf (sym (fill_is field unit count is)) tt
leaf_of field (inr (inr (inr (inr (inl (unit, is)))))) = subst IsLeaf (sym (align_is field unit is)) tt
leaf_of field (inr (inr (inr (inr (inr (name, is)))))) = subst IsLeaf (sym (label_is field name is)) tt

pub leaf_found : (known : Facts) (all : List Bool) (here rest : PlainBody) (met : Names) (field : PlainField) (names : Environment) (at : ℕ) (late : Late) → IsLeaf field → here ≡ field_and field rest
    → field_of_pieces (record { known = known; all = all; fields = here; rest = rest; first = at; met = met }) field names at late ≡ field_found known all rest met field names at late
leaf_found known all here rest met field names at late leaf is =
    ap (λ (fs : PlainBody). field_of_pieces (record { known = known; all = all; fields = fs; rest = rest; first = at; met = met }) field names at late) is ∙ by field leaf
  where
    by : (field : PlainField) → IsLeaf field → field_of_pieces (here_at known all field rest at met) field names at late ≡ field_found known all rest met field names at late
    by (Number number) leaf = refl
    by (Text text) leaf = refl
    by (Points points) leaf = refl
    by (Fill unit count) leaf = refl
    by (Align unit) leaf = refl
    by (Label name) leaf = refl
    by (Array name count row) leaf = absurd leaf
    by (Switch cases) leaf = absurd leaf

-- after it a label is met, and no other name
pub leaf_met : (field : PlainField) (met : Names) → IsLeaf field → met_past field met ≡ met_behind field met
leaf_met (Number number) met leaf = refl
leaf_met (Text text) met leaf = refl
leaf_met (Points points) met leaf = refl
leaf_met (Fill unit count) met leaf = refl
leaf_met (Align unit) met leaf = refl
leaf_met (Label name) met leaf = refl
leaf_met (Array name count row) met leaf = absurd leaf
leaf_met (Switch cases) met leaf = absurd leaf

-- what was read ends at this place, up to which bits are marked
pub spent_late : (learnt : Learnt) (found : Option Met) (after : ℕ) → IfSome found (λ m. m.after ≡ after)
    → option_map (met_of learnt) found ≡ option_map (met_in (known learnt.notes.items) (marked after learnt.marks)) found
spent_late learnt None after is = refl
spent_late learnt (Some m) after is = ap (λ n. Some (met_in (known learnt.notes.items) (marked n learnt.marks) m)) is

-- Rows.

-- after rows that were read
abbrev pub with_lines : List (List Tree) → List Environment → Option Lines → Option Lines
with_lines rows ends lines = option_map (λ l. record { rows = rows ++ l.rows; ends = ends ++ l.ends; after = l.after; late = l.late }) lines

pub no_lines_before : (lines : Option Lines) → with_lines [] [] lines ≡ lines
no_lines_before None = refl
no_lines_before (Some l) = refl

-- before the first
pub rows_start : (body : PlainBody) (rows : List (List Tree)) (places : List ℤ) (lines : Option Lines) → rows ≡ [] → places ≡ [] → (ends : List Environment) × AllPlacesAre body ends places × (with_lines rows ends lines ≡ lines)
rows_start body rows places lines none nowhere = ([], nowhere, ap (λ (rs : List (List Tree)). with_lines rs [] lines) none ∙ no_lines_before lines)

pushed_lines : (rows : List (List Tree)) (ends : List Environment) (line : Line) (lines : Option Lines)
    → with_lines (rows ++ line.row ∷ []) (ends ++ line.own ∷ []) lines ≡ with_lines rows ends (option_map (and_lines line) lines)
pushed_lines rows ends line None = refl
pushed_lines rows ends line (Some l) =
    λ i. Some (record { rows = append_assoc rows (line.row ∷ []) l.rows i; ends = append_assoc ends (line.own ∷ []) l.ends i; after = l.after; late = l.late })

-- no rows more
none_left : (rows : List (List Tree)) (ends : List Environment) (at : ℕ) (late : Late) (most : ℕ)
    → Some (record { rows = rows; ends = ends; after = at; late = late }) ≡ with_lines rows ends (few lines_count most (Some (no_lines at late)))
none_left rows ends at late most =
    (λ i. Some (record { rows = sym (append-nil rows) i; ends = sym (append-nil ends) i; after = at; late = late }))
    ∙ ap (with_lines rows ends) (sym (few_fits lines_count most (no_lines at late) (omega arith)))

module _ (row : ReadsRow) (until : Until) (rows : List (List Tree)) (ends : List Environment) (total : Option Lines) where
  abbrev rest : ℕ → ℕ → Line → Option Lines
  rest n done line = rows_until row until n (done + 1) line.after line.late

  abbrev by_test : ℕ → ℕ → ℕ → Late → ℕ → Bool → Option Lines
  by_test n done at late most test =
      with_lines rows ends (few lines_count most (if test then option_and_then (λ line. option_map (and_lines line) (rest n done line)) (row (done + 1) at late) else rows_over until done at late))

  pub row_more : (n done at : ℕ) (late : Late) (most more : ℕ) (line : Line) → 0 < n → 0 < most → goes_on until done at ≡ true
      → Some line ≡ few line_count (most - 1) (row (done + 1) at late) → more + values_in line.row ≡ most - 1
      → with_lines rows ends (few lines_count most (rows_until row until n done at late)) ≡ total
      → with_lines (rows ++ line.row ∷ []) (ends ++ line.own ∷ []) (few lines_count more (rows_until row until (n - 1) (done + 1) line.after line.late)) ≡ total
  row_more zero done at late most more line some left test is sum so = absurd (omega arith)
  row_more (suc n) done at late most more line some left test is sum so =
      let e : suc n - 1 ≡ n = omega arith in
      ap (λ k. with_lines (rows ++ line.row ∷ []) (ends ++ line.own ∷ []) (few lines_count more (rest k done line))) e
      ∙ pushed_lines rows ends line (few lines_count more (rest n done line))
      ∙ ap (with_lines rows ends) (sym (line_behind (row (done + 1) at late) (rest n done) most more line left is sum))
      ∙ ap (by_test n done at late most) (sym test)
      ∙ so

  pub no_row : (n done at : ℕ) (late : Late) (most : ℕ) → 0 < n → 0 < most → goes_on until done at ≡ true → None ≡ few line_count (most - 1) (row (done + 1) at late)
      → with_lines rows ends (few lines_count most (rows_until row until n done at late)) ≡ total → None ≡ total
  no_row zero done at late most some left test none so = absurd (omega arith)
  no_row (suc n) done at late most some left test none so =
      ap (with_lines rows ends) (no_line (row (done + 1) at late) (rest n done) most left none) ∙ ap (by_test n done at late most) (sym test) ∙ so

  pub rows_out : (n done at : ℕ) (late : Late) (most : ℕ) → 0 < n → most ≡ 0 → goes_on until done at ≡ true
      → with_lines rows ends (few lines_count most (rows_until row until n done at late)) ≡ total → None ≡ total
  rows_out zero done at late most some out test so = absurd (omega arith)
  rows_out (suc n) done at late most some out test so =
      ap (with_lines rows ends) (no_more (row (done + 1) at late) (rest n done) most out) ∙ ap (by_test n done at late most) (sym test) ∙ so

  rows_stop : (n done at : ℕ) (late : Late) (most : ℕ) → (n ≡ 0) ⊎ (goes_on until done at ≡ false)
      → with_lines rows ends (few lines_count most (rows_until row until n done at late)) ≡ total
      → with_lines rows ends (few lines_count most (rows_over until done at late)) ≡ total
  rows_stop zero done at late most stops so = so
  rows_stop (suc n) done at late most (inl none) so = absurd (omega (arith, none))
  rows_stop (suc n) done at late most (inr test) so = ap (by_test n done at late most) (sym test) ∙ so

-- the same rows that came
pub are_lines : (body : PlainBody) (marks : List Bool) (one other : Option RowsCame) (found : Option Lines) → one ≡ other → AreLines body marks one found → AreLines body marks other found
are_lines body marks one other found is it = subst (λ (came : Option RowsCame). AreLines body marks came found) is it

-- rows that don't go on are all that are read, where they end as they must
pub rows_ended : (body : PlainBody) (row : ReadsRow) (until : Until) (marks : List Bool) (came : RowsCame) (n : ℕ) (total : Option Lines) → (n ≡ 0) ⊎ (goes_on until (length came.rows) came.after ≡ false)
    → (ends : List Environment) → AllPlacesAre body ends came.places.items → with_lines came.rows ends (few lines_count came.left (rows_until row until n (length came.rows) came.after (marked came.after marks))) ≡ total
    → AreLines body marks (if is_over until (length came.rows) came.after then Some came else None) total
rows_ended body row until marks came n total stops ends are so =
    by (is_over until (length came.rows) came.after) (rows_stop row until came.rows ends total n (length came.rows) came.after (marked came.after marks) came.left stops so)
  where
    by : (test : Bool) → with_lines came.rows ends (few lines_count came.left (if test then Some (no_lines came.after (marked came.after marks)) else None)) ≡ total
        → AreLines body marks (if test then Some came else None) total
    by true is = (ends, none_left came.rows ends came.after (marked came.after marks) came.left ∙ is, are)
    by false is = is

-- Arrays.

module _ (name : Option Word) (row : PlainBody) (names : Environment) (lines : Option Lines) (most : ℕ) where
  -- after the rows
  abbrev rows_step : Lines → Environment → Step
  rows_step l more = record { value = Some (trees.Rows l.rows); after = l.after; names = also_rows row l.ends more; late = l.late }

  abbrev pub array_step : Lines → Option Step
  array_step l = option_map (λ more. rows_step l more) (claim_count name (length l.rows) names)

  pub array_came : (came : Lines) (more : Environment) → Some came ≡ few lines_count most lines → Some more ≡ claim_count name (length came.rows) names
      → Some (record { value = Some (trees.Rows came.rows); after = came.after; names = also_rows row came.ends more; late = came.late })
      ≡ few step_count most (option_and_then array_step lines)
  array_came came more is claimed =
      let fits = (first_within lines_count most lines came is).1 in
      sym (few_fits step_count most (rows_step came more) (let n = count_rows came.rows in omega (arith, n, fits)))
      ∙ ap (λ (o : Option Environment). few step_count most (option_map (λ more. rows_step came more) o)) claimed
      ∙ sym (some_behind lines_count step_count most most lines came array_step is)

  pub not_claimed : (came : Lines) → Some came ≡ few lines_count most lines → None ≡ claim_count name (length came.rows) names
      → None ≡ few step_count most (option_and_then array_step lines)
  not_claimed came is claimed =
      ap (λ (o : Option Environment). few step_count most (option_map (λ more. rows_step came more) o)) claimed
      ∙ sym (some_behind lines_count step_count most most lines came array_step is)

  array_less : (l : Lines) (step : Step) (claimed : Option Environment) → option_map (λ more. rows_step l more) claimed ≡ Some step → lines_count l ≤ step_count step
  array_less l step None is = absurd cc
  array_less l step (Some more) is =
      subst (λ (s : Step). lines_count l ≤ step_count s) (some_same (rows_step l more) step is) (let n = count_rows l.rows in omega (arith, n))

  pub no_array : None ≡ few lines_count most lines → None ≡ few step_count most (option_and_then array_step lines)
  no_array none =
      none_behind lines_count step_count most most lines array_step
      (λ l step is over. let n = array_less l step (claim_count name (length l.rows) names) is in omega (arith, n, over)) none

-- after them the name of the array and the labels in its rows are met
pub array_met : (name : Option Word) (count : Option ℤ) (row : PlainBody) (met : Names) → met_in_rows row (met_counted name met) ≡ met_behind (Array name count row) met
array_met name count row met = λ i key. both (gives_rows row key) (gives_count name key) (met key) i
  where
    both : (one other before : Bool) → (one || (other || before)) ≡ ((other || one) || before)
    both true true before = refl
    both true false before = refl
    both false true before = refl
    both false false before = refl

-- Cases.

pub choice_few : (name : Word) (names : Environment) (line : Option Line) (most : ℕ) → few step_count most (chosen name names line) ≡ chosen name names (few line_count most line)
choice_few name names None most = refl
choice_few name names (Some l) most =
    ap (λ n. if nat_le n most then Some (record { value = Some (trees.Choice name l.row); after = l.after; names = names; late = l.late }) else None) (count_choice name l.row)
    ∙ open_test (nat_le (values_in l.row) most)
  where
    open_test : (test : Bool) → (if test then Some (record { value = Some (trees.Choice name l.row); after = l.after; names = names; late = l.late }) else None)
        ≡ chosen name names (if test then Some l else None)
    open_test true = refl
    open_test false = refl
