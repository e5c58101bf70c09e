-- The rows of an array are read, and their number is known after it.
use Rattle.std.proofs.Common.{◌≡◌, ℕ, zero, suc, ◌+◌, ◌-◌, ◌<◌, ◌≤◌, ◌==◌, ℤ, pos, negsuc, Bool, true, false, ◌&&◌, ◌||◌, List, [], ◌∷◌, length, Option, Some, None, refl, sym, ap, ◌∙◌, subst, arith}
use Rattle.std.specs.Prelude.{if◌then◌else◌, int_le, nat_le, nat_lt, option_and_then, option_map, slice_get}
use Rattle.std.specs.Option.{is_some}
use Rattle.std.specs.Str.{str_to_ascii_lowercase}
use Rattle.std.proofs.lemmas.Bool.Decides.{Decides-int_eq, nat_tests}
use Rattle.rz_core.specs.declared.resource.Word.{Word}
use Rattle.rz_expr.specs.Environment.{count_key, count_of, place_in, place_of, row_in, rows_of, Environment, IsPartOf, Key}
use Rattle.rz_types_fields.specs.declared.tree.Tree.{Tree}
use Rattle.rz_types_fields.specs.Row.{IsStated}
use Rattle.rz_types_fields.specs.Sees.{Late}
use Rattle.rz_types_fields.specs.RowLabels.{also_rows, rows_give}
use Rattle.rz_types_fields.specs.Spells.{AreRows, IsCounted, RowSpells, RowsSpell}
use Rattle.rz_types_fields.specs.Field.{Array, PlainBody}
use Rattle.rz_types_fields.specs.Passed.{behind, declares, gives_count, gives_rows, has_label, is_held, Passed}
use Rattle.rz_types_fields.specs.Width.{fixed_widths}
use Rattle.rz_types.specs.Readable.{ends_at_end, ends_at_label, is_count_known, least_widths, rows_end}
use Rattle.rz_unlay_pieces.specs.Ahead.{told_label, Told}
use Rattle.rz_unlay_pieces.specs.Pieces.{agrees, also, claim_count, known_count}
use Rattle.rz_unlay.specs.Cursor.{and_lines, count_known, goes_on, is_over, most_rows, no_lines, open_until, rows_by, rows_over, rows_until, until_of, Line, Lines, ReadsRow}
use Rattle.rz_unlay.specs.declared.rows.Until.{Until}
use Rattle.rz_unlay.specs.declared.rows.Until.TheVariants as ends
use Rattle.rz_unlay.proofs.Asked.{is_asked}
use Rattle.rz_unlay.proofs.Near.{told_there}
use Rattle.rz_unlay.proofs.ReadsNumber.{Knows}
use Rattle.rz_unlay.proofs.ReadsTests.{and_then, below, both_true, either_of, if_false, if_true, itself, none_is, not_below, right_true, some_is, some_same, there_is}
use Rattle.rz_unlay.proofs.ReadsText.{EndsAt}
use Rattle.rz_unlay.proofs.Sees.{IsKnownOf}
use Rattle.rz_unlay.proofs.Told.{also_known}

-- the labels in a row have places by what names have at its end, and outside of it they have them by its number
pub record RowHas (row : PlainBody) (names : Environment) (number : ℕ) (own : Environment) : Type 0 where
  pub give : (label : List ℕ) → has_label row label ≡ true → (place : ℤ) × (own.give (place_of label) ≡ Some place) × (names.give (place_in label (pos number)) ≡ Some place)

-- so have those in rows, of which the first has this number
pub record RowsHave (row : PlainBody) (names : Environment) (number : ℕ) (lasts : List Environment) : Type 0 where
  pub give : (label : List ℕ) (j : ℕ) (own : Environment) → has_label row label ≡ true → slice_get lasts j ≡ Some own
      → (place : ℤ) × (own.give (place_of label) ≡ Some place) × (names.give (place_in label (pos (number + j))) ≡ Some place)

rows_have : (row : PlainBody) (names : Environment) (number : ℕ) (own : Environment) (lasts : List Environment) → RowHas row names number own → RowsHave row names (number + 1) lasts → RowsHave row names number (own ∷ lasts)
rows_have row names number own lasts one others = record { give = by }
  where
    by : (label : List ℕ) (j : ℕ) (last : Environment) → has_label row label ≡ true → slice_get (own ∷ lasts) j ≡ Some last
        → (place : ℤ) × (last.give (place_of label) ≡ Some place) × (names.give (place_in label (pos (number + j))) ≡ Some place)
    by label zero last has is =
        let it = one.give label has in
        let first : number + 0 ≡ number = omega (arith) in
        (it.0, ap (λ (names : Environment). names.give (place_of label)) (sym (some_same own last is)) ∙ it.1, ap (λ (n : ℕ). names.give (place_in label (pos n))) first ∙ it.2)
    by label (suc j) last has is =
        let it = others.give label j last has is in
        let next : number + suc j ≡ number + 1 + j = omega (arith) in
        (it.0, it.1, ap (λ (n : ℕ). names.give (place_in label (pos n))) next ∙ it.2)

-- a row is read
pub record LineFound (row : PlainBody) (names : Environment) (number : ℕ) (line : List Tree) (after : ℕ) (late : Late) (found : Option Line) : Type 0 where
  pub own : Environment
  pub is : found ≡ Some (record { row = line; own = own; after = after; late = late })
  pub has : RowHas row names number own

-- so are rows, of which the first has this number
pub record LinesFound (row : PlainBody) (names : Environment) (number : ℕ) (rows : List (List Tree)) (after : ℕ) (late : Late) (found : Option Lines) : Type 0 where
  pub lasts : List Environment
  pub is : found ≡ Some (record { rows = rows; ends = lasts; after = after; late = late })
  pub have : RowsHave row names number lasts
  pub long : length lasts ≡ length rows

none_found : (row : PlainBody) (names : Environment) (number at : ℕ) (late : Late) (after : ℕ) (late_after : Late) (found : Option Lines) → found ≡ Some (no_lines at late) → after ≡ at → late_after ≡ late
    → LinesFound row names number [] after late_after found
none_found row names number at late after late_after found is over marks = record {
  lasts = [];
  is = is ∙ (λ i. Some (record { rows = []; ends = []; after = sym over i; late = sym marks i }));
  have = record { give = λ label j own has there. absurd (none_is own there) };
  long = refl;
}

-- one row and those after it
and_found : (row : PlainBody) (names : Environment) (number : ℕ) (line : List Tree) (rows : List (List Tree)) (mid : ℕ) (late_mid : Late) (after : ℕ) (late : Late) (first : Option Line) (next : Line → Option Lines) (found : Option Lines)
    → found ≡ option_and_then (λ line. option_map (and_lines line) (next line)) first → LineFound row names number line mid late_mid first
    → ((own : Environment) → LinesFound row names (number + 1) rows after late (next (record { row = line; own = own; after = mid; late = late_mid })))
    → LinesFound row names number (line ∷ rows) after late found
and_found row names number line rows mid late_mid after late first next found so one others =
    let own : Line = record { row = line; own = one.own; after = mid; late = late_mid } in
    let more = others one.own in
    record {
      lasts = one.own ∷ more.lasts;
      is = so ∙ ap (option_and_then (λ line. option_map (and_lines line) (next line))) one.is ∙ ap (option_map (and_lines own)) more.is;
      have = rows_have row names number one.own more.lasts one.has more.have;
      long = ap suc more.long;
    }

-- Rows one after the other.

-- rows end so after so many at a place: before it, each so wide at least, they go on
record EndsThere (until : Until) (least total after : ℕ) : Type 0 where
  goes : (done at : ℕ) → done < total → at + least ≤ after → goes_on until done at ≡ true
  stops : goes_on until total after ≡ false
  over : is_over until total after ≡ true

module _ (row : PlainBody) (env : Environment) (f : ReadsRow) (Row : ℕ → List Tree → RowSpells) (least last : ℕ)
    (one : (number : ℕ) (line : List Tree) (at : ℕ) (late : Late) (after : ℕ) (late_after : Late) → after ≤ last → Row number line at late after late_after
    → LineFound row env number line after late_after (f number at late))
    (rise : (number : ℕ) (line : List Tree) (at : ℕ) (late : Late) (after : ℕ) (late_after : Late) → Row number line at late after late_after → at + least ≤ after) where
  rows_rise : (number : ℕ) (rows : List (List Tree)) (at : ℕ) (late : Late) (after : ℕ) (late_after : Late) → RowsSpell Row number rows at late after late_after → at ≤ after
  rows_rise number [] at late after late_after it = let e = it.0 in omega (arith, e)
  rows_rise number (row ∷ rows) at late after late_after it =
      let first = rise number row at late it.0 it.1 it.2 in
      let rest = rows_rise (number + 1) rows it.0 it.1 after late_after it.3 in
      omega (arith, first, rest)

  rows_long : 1 ≤ least → (number : ℕ) (rows : List (List Tree)) (at : ℕ) (late : Late) (after : ℕ) (late_after : Late) → RowsSpell Row number rows at late after late_after → at + length rows ≤ after
  rows_long wide number [] at late after late_after it = let e = it.0 in omega (arith, e)
  rows_long wide number (row ∷ rows) at late after late_after it =
      let first = rise number row at late it.0 it.1 it.2 in
      let rest = rows_long wide (number + 1) rows it.0 it.1 after late_after it.3 in
      omega (arith, wide, first, rest)

  stops_there : (until : Until) (total most done at : ℕ) (late : Late) (after : ℕ) → EndsThere until least total after → total ≡ done → after ≡ at → rows_until f until most done at late ≡ Some (no_lines at late)
  stops_there until total most done at late after there same ends = by most
    where
      over : rows_over until done at late ≡ Some (no_lines at late)
      over = if_true (is_over until done at) (Some (no_lines at late)) None ((λ i. is_over until (sym same i) (sym ends i)) ∙ there.over)

      by : (most : ℕ) → rows_until f until most done at late ≡ Some (no_lines at late)
      by zero = over
      by (suc most) =
          if_false (goes_on until done at) (option_and_then (λ line. option_map (and_lines line) (rows_until f until most (done + 1) line.after line.late)) (f (done + 1) at late)) (rows_over until done at late)
          ((λ i. goes_on until (sym same i) (sym ends i)) ∙ there.stops)
          ∙ over

  until_again : (until : Until) (total : ℕ) (rows : List (List Tree)) (most done at : ℕ) (late : Late) (after : ℕ) (late_after : Late) → after ≤ last → RowsSpell Row (done + 1) rows at late after late_after
      → EndsThere until least total after → total ≡ done + length rows → length rows ≤ most → LinesFound row env (done + 1) rows after late_after (rows_until f until most done at late)
  until_again until total [] most done at late after late_after within it there sum fuel =
      none_found row env (done + 1) at late after late_after (rows_until f until most done at late) (stops_there until total most done at late after there (omega (arith, sum)) it.0) it.0 it.1
  until_again until total (line ∷ rows) zero done at late after late_after within it there sum fuel = absurd (omega (arith, fuel))
  until_again until total (line ∷ rows) (suc most) done at late after late_after within it there sum fuel =
      let first = rise (done + 1) line at late it.0 it.1 it.2 in
      let rest = rows_rise (done + 1 + 1) rows it.0 it.1 after late_after it.3 in
      let on : goes_on until done at ≡ true = there.goes done at (omega (arith, sum)) (omega (arith, first, rest)) in
      and_found row env (done + 1) line rows it.0 it.1 after late_after (f (done + 1) at late) (λ line. rows_until f until most (done + 1) line.after line.late) (rows_until f until (suc most) done at late)
      (if_true (goes_on until done at) (option_and_then (λ line. option_map (and_lines line) (rows_until f until most (done + 1) line.after line.late)) (f (done + 1) at late)) (rows_over until done at late) on)
      (one (done + 1) line at late it.0 it.1 (omega (arith, rest, within)) it.2)
      (λ own. until_again until total rows most (done + 1) it.0 it.1 after late_after within it.3 there (omega (arith, sum)) (omega (arith, fuel)))

-- Their number.

-- a number that is known is that of the rows
known_is : (name : Option Word) (rows : ℕ) (names env : Environment) (v : ℤ) → IsPartOf names env → IsCounted name rows env → known_count name names ≡ Some v → v ≡ pos rows
known_is None rows names env v part counted is = absurd cc
known_is (Some name) rows names env v part counted is = some_is v (pos rows) (sym (part.give (count_key name.bytes) v is) ∙ counted)

-- no number of rows is near
count_given : (passed : Passed) (name : Option Word) (names : Environment) → ((own : List ℕ) → passed.near (count_of own) ≡ false) → Knows passed names → is_count_known passed name ≡ true
    → (v : ℤ) × (known_count name names ≡ Some v)
count_given passed None names apart knows is = absurd cc
count_given passed (Some name) names apart knows is =
    knows (count_key name.bytes) refl (held (passed.near (count_key name.bytes)) (apart (str_to_ascii_lowercase name.bytes)) (is_held passed (count_key name.bytes)) is)
  where
    held : (near : Bool) → near ≡ false → (others : Bool) → (near || others) ≡ true → others ≡ true
    held true none others is = absurd cc
    held false none others is = is

le_is : (a b : ℕ) → nat_le a b ≡ true → a ≤ b
le_is a b is = grind (arith, nat_tests)

le_so : (a b : ℕ) → a ≤ b → nat_le a b ≡ true
le_so a b less = grind (arith, nat_tests)

not_le : (a b : ℕ) → b < a → nat_le a b ≡ false
not_le a b over = grind (arith, nat_tests)

-- what is asked of the field that ends rows
abbrev pub Lies : List Bool → PlainBody → Environment → Type 0
Lies all rest env = (name : List ℕ) → declares rest (place_of name) ≡ true → (place : ℕ) × (env.give (place_of name) ≡ Some (pos place)) × (place ≤ length all)

abbrev pub Stops : List Bool → PlainBody → Environment → ℕ → Type 0
Stops all rest env after = (names : Environment) → IsPartOf names env → (told : Told) → told_label (length all) rest names ≡ Some told → told.place ≡ after + told.width

module _ (row : PlainBody) (env : Environment) (f : ReadsRow) (Row : ℕ → List Tree → RowSpells) (least last : ℕ)
    (one : (number : ℕ) (line : List Tree) (at : ℕ) (late : Late) (after : ℕ) (late_after : Late) → after ≤ last → Row number line at late after late_after
    → LineFound row env number line after late_after (f number at late))
    (rise : (number : ℕ) (line : List Tree) (at : ℕ) (late : Late) (after : ℕ) (late_after : Late) → Row number line at late after late_after → at + least ≤ after)
    (outermost : Bool) (all : List Bool) (rest : PlainBody) (name : Option Word) (rows : List (List Tree)) (names : Environment) (passed : Passed)
    (at : ℕ) (late : Late) (after : ℕ) (late_after : Late) (low : least ≡ least_widths row) (apart : (own : List ℕ) → passed.near (count_of own) ≡ false) (knows : Knows passed names) (part : IsKnownOf names env)
    (it : RowsSpell Row 1 rows at late after late_after) (within : after ≤ last) (inside : after ≤ length all) where
  abbrev AreFound : Option Lines → Type 0
  AreFound found = LinesFound row env 1 rows after late_after found

  ends_by : (until : Until) (count : Option ℤ) → until_of (length all) rest names count ≡ Some until → EndsThere until least (length rows) after → length rows ≤ most_rows until (length all)
      → AreFound (rows_by f (length all) rest names count at late)
  ends_by until count is there fuel =
      subst AreFound (sym (ap (option_and_then (λ until. rows_until f until (most_rows until (length all)) 0 at late)) is))
      (until_again row env f Row least last one rise until (length rows) rows (most_rows until (length all)) 0 at late after late_after within it there (omega arith) fuel)

  -- as many as are known
  at_count : (count : ℤ) → count ≡ pos (length rows) → AreFound (rows_by f (length all) rest names (Some count) at late)
  at_count count is =
      ends_by (ends.Count (length rows)) (Some count) (ap (λ (c : ℤ). until_of (length all) rest names (Some c)) is)
      (record { goes = λ done at less reach. below done (length rows) less; stops = not_below (length rows) (length rows) (omega arith); over = itself (length rows) })
      (omega arith)

  -- up to a label whose place is told
  at_label : (told : Told) → told_label (length all) rest names ≡ Some told → told.place ≡ after + told.width → 1 ≤ least → AreFound (rows_by f (length all) rest names None at late)
  at_label told is stands wide =
      let fits : nat_lt told.place told.width ≡ false = not_below told.place told.width (omega (arith, stands)) in
      let same : after ≡ told.place - told.width = omega (arith, stands) in
      let long = rows_long row env f Row least last one rise wide 1 rows at late after late_after it in
      ends_by (ends.At (told.place - told.width)) None
      (ap (λ (o : Option Told). open_until (length all) o (fixed_widths rest)) is
      ∙ ap (option_map (λ stop. ends.At stop)) (if_false (nat_lt told.place told.width) None (Some (told.place - told.width)) fits))
      (record {
        goes = λ done at less reach. below at (told.place - told.width) (omega (arith, reach, same, wide));
        stops = not_below after (told.place - told.width) (omega (arith, same));
        over = ap (λ (n : ℕ). n == (told.place - told.width)) same ∙ itself (told.place - told.width);
      })
      (omega (arith, long, inside))

  -- up to the end of the resource
  at_end : told_label (length all) rest names ≡ None → EndsAt outermost all rest after → ends_at_end outermost rest ≡ true → 8 ≤ least → AreFound (rows_by f (length all) rest names None at late)
  at_end is end last_one wide =
      let outer = both_true outermost (is_some (fixed_widths rest)) last_one in
      let width = there_is (fixed_widths rest) outer.1 in
      let there = end width.0 outer.0 width.1 in
      let a = there.0 in
      let b = there.1 in
      let fits : nat_lt (length all) width.0 ≡ false = not_below (length all) width.0 (omega (arith, a)) in
      let long = rows_long row env f Row least last one rise (omega (arith, wide)) 1 rows at late after late_after it in
      ends_by (ends.Before (length all - width.0)) None
      (ap (λ (o : Option Told). open_until (length all) o (fixed_widths rest)) is ∙ ap (λ (o : Option ℕ). open_until (length all) None o) width.1
      ∙ ap (option_map (λ stop. ends.Before stop)) (if_false (nat_lt (length all) width.0) None (Some (length all - width.0)) fits))
      (record {
        goes = λ done at less reach. le_so (at + 8) (length all - width.0) (omega (arith, reach, wide, a));
        stops = not_le (after + 8) (length all - width.0) (omega (arith, a, b));
        over = below (length all - width.0) (after + 8) (omega (arith, a, b));
      })
      (omega (arith, long, inside))

  -- where no label is told no label ends them
  no_label : (told_label (length all) rest names ≡ None) → Lies all rest env → ends_at_label rest passed.told ≡ true → ⊥
  no_label is lies ends =
      let there = told_there (length all) passed.told names env (λ key asked told. knows key asked (right_true (passed.met key) (passed.told key) told)) part.part rest lies ends in
      let wrong = sym is ∙ there.1 in cc

  -- whatever ends them, each is at least so wide
  low_label : (ends_at_label rest passed.told && nat_le 1 (least_widths row)) ≡ true → 1 ≤ least
  low_label is = let wide = le_is 1 (least_widths row) (both_true (ends_at_label rest passed.told) (nat_le 1 (least_widths row)) is).1 in omega (arith, wide, low)

  low_end : (ends_at_end outermost rest && nat_le 8 (least_widths row)) ≡ true → 8 ≤ least
  low_end is = let wide = le_is 8 (least_widths row) (both_true (ends_at_end outermost rest) (nat_le 8 (least_widths row)) is).1 in omega (arith, wide, low)

  -- up to a label or to the end
  open_go : known_count name names ≡ None → rows_end outermost rest passed name None row ≡ true → Lies all rest env → Stops all rest env after → EndsAt outermost all rest after
      → AreFound (rows_by f (length all) rest names None at late)
  open_go unknown ends lies stops end = by (told_label (length all) rest names) refl
    where
      known_one : (is_count_known passed name && nat_le 1 (least_widths row)) ≡ true → ⊥
      known_one is =
          let given = count_given passed name names apart knows (both_true (is_count_known passed name) (nat_le 1 (least_widths row)) is).0 in let wrong = sym given.1 ∙ unknown in cc

      wide_one : 1 ≤ least
      wide_one =
          either_of ((is_count_known passed name && nat_le 1 (least_widths row)) || (ends_at_label rest passed.told && nat_le 1 (least_widths row))) (ends_at_end outermost rest && nat_le 8 (least_widths row))
          (either_of (is_count_known passed name && nat_le 1 (least_widths row)) (ends_at_label rest passed.told && nat_le 1 (least_widths row)) (λ is. absurd (known_one is)) low_label)
          (λ is. (let wide = low_end is in omega (arith, wide))) ends

      by : (o : Option Told) → told_label (length all) rest names ≡ o → AreFound (rows_by f (length all) rest names None at late)
      by (Some told) is = at_label told is (stops names part.part told is) wide_one
      by None is =
          either_of ((is_count_known passed name && nat_le 1 (least_widths row)) || (ends_at_label rest passed.told && nat_le 1 (least_widths row))) (ends_at_end outermost rest && nat_le 8 (least_widths row))
          (either_of (is_count_known passed name && nat_le 1 (least_widths row)) (ends_at_label rest passed.told && nat_le 1 (least_widths row)) (λ known. absurd (known_one known))
          (λ ends. absurd (no_label is lies (both_true (ends_at_label rest passed.told) (nat_le 1 (least_widths row)) ends).0)))
          (λ last_one. at_end is end (both_true (ends_at_end outermost rest) (nat_le 8 (least_widths row)) last_one).0 (low_end last_one)) ends

  pub rows_go : (count : Option ℤ) → rows_end outermost rest passed name count row ≡ true → IsStated count (length rows) → IsCounted name (length rows) env
      → Lies all rest env → Stops all rest env after → EndsAt outermost all rest after → AreFound (rows_by f (length all) rest names (count_known names name count) at late)
  rows_go (Some count) ends stated counted lies stops end = at_count count stated
  rows_go None ends stated counted lies stops end = by (known_count name names) refl
    where
      by : (o : Option ℤ) → known_count name names ≡ o → AreFound (rows_by f (length all) rest names o at late)
      by (Some v) is = at_count v (known_is name (length rows) names env v part.part counted is)
      by None is = open_go is ends lies stops end

-- After the array.

abbrev pub passed_behind : Passed → Option Word → Passed
passed_behind passed name = record { met = λ key. gives_count name key || passed.met key; told = passed.told; near = λ key. false }

pub record Claims (passed : Passed) (env : Environment) (name : Option Word) (rows : ℕ) (names : Environment) : Type 0 where
  pub more : Environment
  pub is : claim_count name rows names ≡ Some more
  pub knows : Knows (passed_behind passed name) more
  pub part : IsKnownOf more env

without_own : (own met told : Bool) → own ≡ false → ((own || met) || told) ≡ true → (met || told) ≡ true
without_own true met told none is = absurd cc
without_own false met told none is = is

-- the number that is known agrees with that of the rows
agrees_there : (o : Option ℤ) (value : ℤ) → ((v : ℤ) → o ≡ Some v → v ≡ value) → agrees o value ≡ true
agrees_there None value same = refl
agrees_there (Some v) value same = (Decides-int_eq v value).1 (same v refl)

pub count_claims : (passed : Passed) (env : Environment) (name : Option Word) (rows : ℕ) (names : Environment) → Knows passed names → IsKnownOf names env → IsCounted name rows env
    → Claims passed env name rows names
count_claims passed env None rows names knows part counted = record { more = names; is = refl; knows = knows; part = part }
count_claims passed env (Some name) rows names knows part counted = record {
  more = also (count_key name.bytes) (pos rows) names;
  is = ap (λ (b : Bool). if b then Some (also (count_key name.bytes) (pos rows) names) else None)
      (agrees_there (names.give (count_key name.bytes)) (pos rows) (λ v is. known_is (Some name) rows names env v part.part counted is));
  knows = λ key asked is. by key asked (gives_count (Some name) key) refl is;
  part = also_known (count_key name.bytes) (pos rows) names env refl part counted;
}
  where
    by : (key : Key) → is_asked key ≡ true → (own : Bool) → gives_count (Some name) key ≡ own → ((gives_count (Some name) key || passed.met key) || passed.told key) ≡ true
        → (v : ℤ) × ((if own then Some (pos rows) else names.give key) ≡ Some v)
    by key asked true gives is = (pos rows, refl)
    by key asked false none is = knows key asked (without_own (gives_count (Some name) key) (passed.met key) (passed.told key) none is)

-- The labels in its rows.

last_there : (lasts : List Environment) (j : ℕ) → j < length lasts → (own : Environment) × (slice_get lasts j ≡ Some own)
last_there [] j less = absurd (omega (arith, less))
last_there (own ∷ lasts) zero less = (own, refl)
last_there (own ∷ lasts) (suc j) less = last_there lasts j (omega (arith, less))

-- they are known by the number of the rows and by their places in them
pub rows_known : (row : PlainBody) (lasts : List Environment) (names env : Environment) → AreRows row (length lasts) env → RowsHave row env 1 lasts → IsKnownOf names env → IsKnownOf (also_rows row lasts names) env
rows_known row lasts names env are have stands = record {
  part = record { give = λ key v is. from key v (gives_rows row key) refl is };
  rows = record { give = λ label rows number is low high. fills label rows number low high (has_label row label) refl is };
  around = stands.around;
}
  where
    placed : (label : List ℕ) (number v : ℤ) → has_label row label ≡ true → rows_give lasts (place_in label number) ≡ Some v → env.give (place_in label number) ≡ Some v
    placed label (negsuc n) v given is = absurd (none_is v is)
    placed label (pos zero) v given is = absurd (none_is v is)
    placed label (pos (suc j)) v given is =
        let last = and_then (λ own. own.give (place_of label)) (slice_get lasts j) v is in
        let it = have.give label j last.0 given last.1 in
        let number : suc j ≡ 1 + j = omega (arith) in
        ap (λ (n : ℕ). env.give (place_in label (pos n))) number ∙ it.2 ∙ sym it.1 ∙ last.2

    in_rows : (key : Key) (v : ℤ) → gives_rows row key ≡ true → rows_give lasts key ≡ Some v → env.give key ≡ Some v
    in_rows (place_of name) v given is = absurd cc
    in_rows (count_of name) v given is = absurd cc
    in_rows (rows_of label) v given is = are.give label given ∙ is
    in_rows (place_in label number) v given is = placed label number v given is
    in_rows (row_in array) v given is = absurd cc

    from : (key : Key) (v : ℤ) (test : Bool) → gives_rows row key ≡ test → (if test then rows_give lasts key else names.give key) ≡ Some v → env.give key ≡ Some v
    from key v true given is = in_rows key v given is
    from key v false none is = stands.part.give key v is

    there : (label : List ℕ) (number : ℤ) → has_label row label ≡ true → int_le (pos 1) number ≡ true → int_le number (pos (length lasts)) ≡ true → (place : ℤ) × (rows_give lasts (place_in label number) ≡ Some place)
    there label (negsuc n) given low high = absurd cc
    there label (pos zero) given low high = absurd cc
    there label (pos (suc j)) given low high =
        let short : j < length lasts = grind (arith, nat_tests, high) in
        let last = last_there lasts j short in
        let it = have.give label j last.0 given last.1 in
        (it.0, ap (option_and_then (λ (own : Environment). own.give (place_of label))) last.1 ∙ it.1)

    fills : (label : List ℕ) (rows number : ℤ) → int_le (pos 1) number ≡ true → int_le number rows ≡ true → (test : Bool) → has_label row label ≡ test
        → (if test then Some (pos (length lasts)) else names.give (rows_of label)) ≡ Some rows
        → (place : ℤ) × ((if test then rows_give lasts (place_in label number) else names.give (place_in label number)) ≡ Some place)
    fills label rows number low high true given is = there label number given low (ap (int_le number) (some_is (pos (length lasts)) rows is) ∙ high)
    fills label rows number low high false none is = stands.rows.give label rows number is low high

-- and so they are met
pub rows_met : (row : PlainBody) (lasts : List Environment) (passed : Passed) (name : Option Word) (stated : Option ℤ) (names : Environment) → Knows (passed_behind passed name) names
    → Knows (behind (Array name stated row) passed) (also_rows row lasts names)
rows_met row lasts passed name stated names knows key asked is = by (gives_rows row key) refl
  where
    in_rows : (key : Key) → is_asked key ≡ true → gives_rows row key ≡ true → (v : ℤ) × (rows_give lasts key ≡ Some v)
    in_rows (place_of name) asked given = absurd cc
    in_rows (count_of name) asked given = absurd cc
    in_rows (rows_of label) asked given = (pos (length lasts), refl)
    in_rows (place_in label number) asked given = absurd cc
    in_rows (row_in array) asked given = absurd cc

    without_rows : (own rows met told : Bool) → rows ≡ false → (((own || rows) || met) || told) ≡ true → ((own || met) || told) ≡ true
    without_rows true rows met told none is = refl
    without_rows false true met told none is = absurd cc
    without_rows false false met told none is = is

    by : (test : Bool) → gives_rows row key ≡ test → (v : ℤ) × ((if test then rows_give lasts key else names.give key) ≡ Some v)
    by true given = in_rows key asked given
    by false none = knows key asked (without_rows (gives_count name key) (gives_rows row key) (passed.met key) (passed.told key) none is)
