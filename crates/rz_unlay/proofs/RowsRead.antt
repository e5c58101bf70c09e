-- Rows that are read, one after the other, and their number.
use Rattle.std.proofs.Common.{◌≡◌, ℕ, zero, suc, ◌+◌, ◌≤◌, ◌==◌, ℤ, pos, negsuc, Bool, true, false, List, [], ◌∷◌, length, Option, Some, None, refl, ap, subst, arith}
use Rattle.std.specs.Prelude.{if◌then◌else◌, nat_lt, option_and_then, option_map}
use Rattle.std.proofs.lemmas.Bool.Decides.{nat_tests}
use Rattle.rz_core.specs.declared.resource.Word.{Word}
use Rattle.rz_expr.specs.Environment.{Environment}
use Rattle.rz_types_fields.specs.Field.{PlainBody}
use Rattle.rz_types_fields.specs.Row.{IsStated}
use Rattle.rz_types_fields.specs.Sees.{Late}
use Rattle.rz_types_fields.specs.Spells.{RowsSpell, RowSpells}
use Rattle.rz_types_fields.specs.declared.tree.Tree.{Tree}
use Rattle.rz_unlay_pieces.specs.Pieces.{known_count}
use Rattle.rz_unlay.specs.Cursor.{and_lines, count_known, goes_on, is_over, most_rows, no_lines, rows_by, rows_over, rows_until, until_of, Line, Lines, ReadsRow}
use Rattle.rz_unlay.specs.declared.rows.Until.{Until}
use Rattle.rz_unlay.specs.declared.rows.Until.TheVariants as ends
use Rattle.rz_unlay.proofs.ReadsTests.{and_then, if_some, mapped, none_is, some_same}

pub if_either : {A P : Type 0} (test : Bool) (x y : Option A) (z : A) → (x ≡ Some z → P) → (y ≡ Some z → P) → (if test then x else y) ≡ Some z → P
if_either true x y z one other is = one is
if_either false x y z one other is = other is

-- rows that were read one after the other, each as a line, and what names have at the end of each
abbrev pub LinesRead : (ℕ → Line → ℕ → Late → Type 0) → ℕ → List (List Tree) → List Environment → RowSpells
LinesRead Read number [] lasts at late after late_after = (lasts ≡ []) × (after ≡ at) × (late_after ≡ late)
LinesRead Read number (row ∷ rows) lasts at late after late_after =
    (line : Line) × (others : List Environment) × (line.row ≡ row) × (lasts ≡ line.own ∷ others) × Read number line at late × LinesRead Read (number + 1) rows others line.after line.late after late_after

-- as many ends as rows
abbrev pub AsLong : Lines → Type 0
AsLong lines = length lines.ends ≡ length lines.rows

module _ (row : ReadsRow) where
  over_long : (until : Until) (done at : ℕ) (late : Late) (lines : Lines) → rows_over until done at late ≡ Some lines → AsLong lines
  over_long until done at late lines is = subst AsLong (if_some (is_over until done at) (no_lines at late) lines is).1 refl

  pub until_long : (until : Until) (most done at : ℕ) (late : Late) (lines : Lines) → rows_until row until most done at late ≡ Some lines → AsLong lines
  until_long until zero done at late lines is = over_long until done at late lines is
  until_long until (suc most) done at late lines is =
      let next : Line → Option Lines = λ line. rows_until row until most (done + 1) line.after line.late in
      if_either (goes_on until done at) (option_and_then (λ line. option_map (and_lines line) (next line)) (row (done + 1) at late)) (rows_over until done at late) lines
      (λ more.
      let first = and_then (λ line. option_map (and_lines line) (next line)) (row (done + 1) at late) lines more in
      let line : Line = first.0 in
      let others = mapped (and_lines line) (next line) lines first.2 in
      subst AsLong others.2 (ap suc (until_long until most (done + 1) line.after line.late others.0 others.1)))
      (over_long until done at late lines) is

  pub by_long : (len : ℕ) (rest : PlainBody) (names : Environment) (count : Option ℤ) (at : ℕ) (late : Late) (lines : Lines) → rows_by row len rest names count at late ≡ Some lines → AsLong lines
  by_long len rest names count at late lines is =
      let it = and_then (λ until. rows_until row until (most_rows until len) 0 at late) (until_of len rest names count) lines is in
      until_long it.0 (most_rows it.0 len) 0 at late lines it.2

-- what each row that is read is, where it ends in the resource, all rows are
module _ (len : ℕ) (row : ReadsRow) (Read : ℕ → Line → ℕ → Late → Type 0)
    (one : (number at : ℕ) (late : Late) (line : Line) → at ≤ len → row number at late ≡ Some line → (line.after ≤ len) × Read number line at late) where
  abbrev Come : ℕ → ℕ → Late → Lines → Type 0
  Come number at late lines = (lines.after ≤ len) × LinesRead Read number lines.rows lines.ends at late lines.after lines.late

  no_rows : (number at : ℕ) (late : Late) (lines : Lines) → at ≤ len → Some (no_lines at late) ≡ Some lines → Come number at late lines
  no_rows number at late lines inside is = subst (Come number at late) (some_same (no_lines at late) lines is) (inside, (refl, refl, refl))

  row_and : (number at : ℕ) (late : Late) (next : Line → Option Lines) (lines : Lines) → at ≤ len
      → ((line : Line) (others : Lines) → line.after ≤ len → next line ≡ Some others → Come (number + 1) line.after line.late others)
      → option_and_then (λ line. option_map (and_lines line) (next line)) (row number at late) ≡ Some lines → Come number at late lines
  row_and number at late next lines inside more is =
      let first = and_then (λ line. option_map (and_lines line) (next line)) (row number at late) lines is in
      let line : Line = first.0 in
      let behind = mapped (and_lines line) (next line) lines first.2 in
      let here = one number at late line inside first.1 in
      let others = more line behind.0 here.0 behind.1 in
      subst (Come number at late) behind.2 (others.0, (line, behind.0.ends, refl, refl, here.1, others.1))

  over_came : (until : Until) (done at : ℕ) (late : Late) (lines : Lines) → at ≤ len → rows_over until done at late ≡ Some lines → Come (done + 1) at late lines
  over_came until done at late lines inside is =
      if_either (is_over until done at) (Some (no_lines at late)) None lines (no_rows (done + 1) at late lines inside) (λ none. absurd (none_is lines none)) is

  until_came : (until : Until) (most done at : ℕ) (late : Late) (lines : Lines) → at ≤ len → rows_until row until most done at late ≡ Some lines → Come (done + 1) at late lines
  until_came until zero done at late lines inside is = over_came until done at late lines inside is
  until_came until (suc most) done at late lines inside is =
      if_either (goes_on until done at) _ (rows_over until done at late) lines
      (row_and (done + 1) at late (λ line. rows_until row until most (done + 1) line.after line.late) lines inside
      (λ line others within found. until_came until most (done + 1) line.after line.late others within found))
      (over_came until done at late lines inside) is

  over_counted : (count done at : ℕ) (late : Late) (lines : Lines) → rows_over (ends.Count count) done at late ≡ Some lines → count ≡ done + length lines.rows
  over_counted count done at late lines is =
      let it = if_some (done == count) (no_lines at late) lines is in
      let same : done ≡ count = (let test = it.0 in grind (arith, nat_tests, test)) in
      subst (λ (ls : Lines). count ≡ done + length ls.rows) it.1 (omega (arith, same))

  rows_counted : (count most done at : ℕ) (late : Late) (lines : Lines) → rows_until row (ends.Count count) most done at late ≡ Some lines → count ≡ done + length lines.rows
  rows_counted count zero done at late lines is = over_counted count done at late lines is
  rows_counted count (suc most) done at late lines is =
      let next : Line → Option Lines = λ line. rows_until row (ends.Count count) most (done + 1) line.after line.late in
      if_either (nat_lt done count) (option_and_then (λ line. option_map (and_lines line) (next line)) (row (done + 1) at late)) (rows_over (ends.Count count) done at late) lines
      (λ more.
      let first = and_then (λ line. option_map (and_lines line) (next line)) (row (done + 1) at late) lines more in
      let line : Line = first.0 in
      let others = mapped (and_lines line) (next line) lines first.2 in
      let sum = rows_counted count most (done + 1) line.after line.late others.0 others.1 in
      subst (λ (ls : Lines). count ≡ done + length ls.rows) others.2 (omega (arith, sum)))
      (over_counted count done at late lines) is

  abbrev CountedRows : Option ℤ → ℕ → Late → Lines → Type 0
  CountedRows count at late lines = IsStated count (length lines.rows) × Come 1 at late lines

  by_came : (rest : PlainBody) (names : Environment) (count : Option ℤ) (at : ℕ) (late : Late) (lines : Lines) → at ≤ len → rows_by row len rest names count at late ≡ Some lines → CountedRows count at late lines
  by_came rest names count at late lines inside is =
      let it = and_then (λ until. rows_until row until (most_rows until len) 0 at late) (until_of len rest names count) lines is in
      (stated count is, until_came it.0 (most_rows it.0 len) 0 at late lines inside it.2)
    where
      stated : (count : Option ℤ) → rows_by row len rest names count at late ≡ Some lines → IsStated count (length lines.rows)
      stated None is = tt
      stated (Some (pos count)) is =
          let all : count ≡ length lines.rows = (let sum = rows_counted count count 0 at late lines is in omega (arith, sum)) in ap (λ (n : ℕ). pos n) all
      stated (Some (negsuc n)) is = absurd (none_is lines is)

  pub lines_read : (rest : PlainBody) (names : Environment) (name : Option Word) (count : Option ℤ) (at : ℕ) (late : Late) (lines : Lines) → at ≤ len
      → rows_by row len rest names (count_known names name count) at late ≡ Some lines → CountedRows count at late lines
  lines_read rest names name None at late lines inside is = (tt, (by_came rest names (known_count name names) at late lines inside is).1)
  lines_read rest names name (Some count) at late lines inside is = by_came rest names (Some count) at late lines inside is

-- as rows alone
module _ (len : ℕ) (row : ReadsRow) (Row : ℕ → List Tree → RowSpells)
    (one : (number at : ℕ) (late : Late) (line : Line) → at ≤ len → row number at late ≡ Some line → (line.after ≤ len) × Row number line.row at late line.after line.late) where
  abbrev AsRow : ℕ → Line → ℕ → Late → Type 0
  AsRow number line at late = Row number line.row at late line.after line.late

  rows_spelled : (number : ℕ) (rows : List (List Tree)) (lasts : List Environment) (at : ℕ) (late : Late) (after : ℕ) (late_after : Late) → LinesRead AsRow number rows lasts at late after late_after
      → RowsSpell Row number rows at late after late_after
  rows_spelled number [] lasts at late after late_after it = (it.1, it.2)
  rows_spelled number (line ∷ rows) lasts at late after late_after it =
      let own : Line = it.0 in
      (own.after, own.late, subst (λ (values : List Tree). Row number values at late own.after own.late) it.2 it.4, rows_spelled (number + 1) rows it.1 own.after own.late after late_after it.5)

  abbrev RowsCome : ℕ → Late → Lines → Type 0
  RowsCome at late lines = (lines.after ≤ len) × RowsSpell Row 1 lines.rows at late lines.after lines.late

  abbrev CountedCome : Option ℤ → ℕ → Late → Lines → Type 0
  CountedCome count at late lines = IsStated count (length lines.rows) × RowsCome at late lines

  pub lines_came : (rest : PlainBody) (names : Environment) (name : Option Word) (count : Option ℤ) (at : ℕ) (late : Late) (lines : Lines) → at ≤ len
      → rows_by row len rest names (count_known names name count) at late ≡ Some lines → CountedCome count at late lines
  lines_came rest names name count at late lines inside is =
      let it = lines_read len row AsRow one rest names name count at late lines inside is in
      (it.0, (it.1.0, rows_spelled 1 lines.rows lines.ends at late lines.after lines.late it.1.1))
