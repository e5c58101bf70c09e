-- What is said of a row is spelled by the fields of kept entries.
use Rattle.std.proofs.Common.{◌≡◌, ℕ, zero, suc, ◌+◌, ◌*◌, ◌^◌, ◌<◌, ◌≤◌, ℤ, pos, Bool, true, false, List, [], ◌∷◌, length, drop, Option, Some, None, refl, sym, ap, ◌∙◌, arith}
use Rattle.std.specs.Prelude.{nat_lt, if◌then◌else◌, ◌||◌}
use Rattle.std.proofs.lemmas.Bool.Decides.{nat_tests}
use Rattle.rz_bits.specs.Bits.{bits_of}
use Rattle.rz_core.proofs.Tests.{or_false}
use Rattle.rz_core.specs.declared.facts.Facts.{Facts}
use Rattle.rz_expr.specs.Environment.{Environment, Key}
use Rattle.rz_tmpl.proofs.Closed.{list_key, same_list}
use Rattle.rz_tmpl.proofs.Kept.{listed, no, no_more}
use Rattle.rz_tmpl.specs.Body.{body_from, count_field, field_of, list_name, lists_of, next_named}
use Rattle.rz_tmpl.specs.Entry.{takes}
use Rattle.rz_tmpl.specs.Items.{count, is_kept, list, none, one, waits, Items}
use Rattle.rz_tmpl.specs.declared.entry.ListForm.TheVariants.{Counted, Uncounted}
use Rattle.rz_tmpl_laws.proofs.Bytes.{there_within, AreSmall}
use Rattle.rz_tmpl_laws.proofs.Counted.{of_count, others_are, shape_of}
use Rattle.rz_tmpl_laws.proofs.Names.{next_in, no_row, other_key, unlabelled}
use Rattle.rz_tmpl_laws.proofs.Pieces.{of_piece}
use Rattle.rz_tmpl_laws.specs.Says.{rows_ahead, rows_first, rows_of, BodySays, RowsSay}
use Rattle.rz_types_fields.specs.Field.{Array, PlainBody}
use Rattle.rz_types_fields.specs.Passed.{at_field, at_front, behind, declares, gives_key, gives_rows, has_label, Passed}
use Rattle.rz_types_fields.specs.RowLabels.{is_row, row_number, row_of, RowOf}
use Rattle.rz_types_fields.specs.Sees.{Late}
use Rattle.rz_types_fields.specs.Solve.{is_same_key}
use Rattle.rz_types_fields.specs.Spells.{plainly, BodySpells, HasPlace, Inside, RowSpells, RowsSpell, Within}
use Rattle.rz_types_fields.specs.declared.tree.Tree.{Tree}
use Rattle.rz_types_fields.specs.declared.tree.Tree.TheOpen.{Tree-F}
use Rattle.rz_types_fields.specs.declared.tree.Tree.TheVariants as trees

-- Names.

-- the rows of the counted lists of a body, in the values of a row
abbrev own_rows : ℕ → Items → List Tree → Key → Option ℕ
own_rows k none row key = None
own_rows k (one entry rest) row key = own_rows k rest (if takes entry then drop 1 row else row) key
own_rows k (count less rest) row key = own_rows k rest row key
own_rows k (list Counted inner rest) row key = if is_same_key (list_key k) key then Some (rows_first row) else own_rows (k + 1 + lists_of inner) rest (drop 1 row) key
own_rows k (list Uncounted inner rest) row key = own_rows (k + lists_of inner) rest (drop 1 row) key

own_low : (k : ℕ) (items : Items) (row : List Tree) (j n : ℕ) → k + lists_of items ≤ 2 ^ 64 → j < 2 ^ 64 → own_rows k items row (list_key j) ≡ Some n → k ≤ j
own_low k none row j n few small is = absurd cc
own_low k (one entry rest) row j n few small is = own_low k rest (if takes entry then drop 1 row else row) j n few small is
own_low k (count less rest) row j n few small is = own_low k rest row j n few small is
own_low k (list Counted inner rest) row j n few small is =
    by (is_same_key (list_key k) (list_key j)) refl (λ so. own_low (k + 1 + lists_of inner) rest (drop 1 row) j n (omega (arith, few)) small so)
  where
    equal : (low : Bool) → nat_lt j k ≡ low → is_same_key (list_key k) (list_key j) ≡ true → k ≤ j
    equal true low same =
        let less : j < k = grind (arith, nat_tests, low) in
        no_more (sym same ∙ other_key k j (omega (arith, few)) small (λ one. absurd (omega (arith, less, one))))
    equal false low same = grind (arith, nat_tests, low)

    by : (same : Bool) → is_same_key (list_key k) (list_key j) ≡ same → (own_rows (k + 1 + lists_of inner) rest (drop 1 row) (list_key j) ≡ Some n → k + 1 + lists_of inner ≤ j) → k ≤ j
    by true same deep = equal (nat_lt j k) refl same
    by false same deep =
        let low = deep (sym (ap (λ (t : Bool). if t then Some (rows_first row) else own_rows (k + 1 + lists_of inner) rest (drop 1 row) (list_key j)) same) ∙ is) in
        omega (arith, low)
own_low k (list Uncounted inner rest) row j n few small is =
    let low = own_low (k + lists_of inner) rest (drop 1 row) j n (omega (arith, few)) small is in omega (arith, low)

own_ahead : (left k : ℕ) (items : Items) (row : List Tree) → is_kept left true items ≡ true → waits true items ≡ false
    → own_rows k items row (list_key (next_named k items)) ≡ Some (rows_ahead items row)
own_ahead left k none row kept ends = no_more ends
own_ahead left k (one entry rest) row kept ends = own_ahead left k rest (if takes entry then drop 1 row else row) kept ends
own_ahead left k (count less rest) row kept ends = no kept
own_ahead zero k (list form inner rest) row kept ends = no kept
own_ahead (suc left) k (list Counted inner rest) row kept ends =
    ap (λ (t : Bool). if t then Some (rows_first row) else own_rows (k + 1 + lists_of inner) rest (drop 1 row) (list_key k)) (same_list k)
own_ahead (suc left) k (list Uncounted inner rest) row kept ends = own_ahead (suc left) (k + lists_of inner) rest (drop 1 row) (listed left Uncounted true inner rest kept).others ends

undeclared : (k : ℕ) (items : Items) (row : List Tree) (key : Key) → declares (body_from k items) key ≡ false → own_rows k items row key ≡ None
undeclared k none row key is = refl
undeclared k (one entry rest) row key is = undeclared k rest (if takes entry then drop 1 row else row) key (or_false (gives_key (field_of entry) key) (declares (body_from k rest) key) is).1
undeclared k (count less rest) row key is = undeclared k rest row key is
undeclared k (list Counted inner rest) row key is =
    let parts = or_false (is_same_key (list_key k) key || gives_rows (body_from (k + 1) inner) key) (declares (body_from (k + 1 + lists_of inner) rest) key) is in
    let own = or_false (is_same_key (list_key k) key) (gives_rows (body_from (k + 1) inner) key) parts.0 in
    ap (λ (t : Bool). if t then Some (rows_first row) else own_rows (k + 1 + lists_of inner) rest (drop 1 row) key) own.0
    ∙ undeclared (k + 1 + lists_of inner) rest (drop 1 row) key parts.1
undeclared k (list Uncounted inner rest) row key is =
    undeclared (k + lists_of inner) rest (drop 1 row) key (or_false (gives_rows (body_from k inner) key) (declares (body_from (k + lists_of inner) rest) key) is).1

abbrev or_outer : Option ℕ → Option ℤ → Option ℤ
or_outer None value = value
or_outer (Some rows) value = Some (pos rows)

-- the names of a row, within those outside
abbrev give_for : ℕ → Items → List Tree → Option RowOf → Environment → Key → Option ℤ
give_for k items row which outer key = if is_row which key then row_number which else or_outer (own_rows k items row key) (outer.give key)

abbrev pub names_for : ℕ → Items → List Tree → Option RowOf → Environment → Environment
names_for k items row which outer = record { give = give_for k items row which outer }

no_place : (k : ℕ) (items : Items) (row : List Tree) (which : Option RowOf) (outer : Environment) (label : List ℕ)
    → has_label (body_from k items) label ≡ true → HasPlace which label outer (names_for k items row which outer)
no_place k items row which outer label is = no (sym (unlabelled k items label) ∙ is)

pub within_for : (k : ℕ) (items : Items) (row : List Tree) (which : Option RowOf) (outer : Environment) → Within (body_from k items) which outer (names_for k items row which outer)
within_for k items row which outer = record {
  give = λ key is other.
      ap (λ (t : Bool). if t then row_number which else or_outer (own_rows k items row key) (outer.give key)) other ∙ ap (λ (o : Option ℕ). or_outer o (outer.give key)) (undeclared k items row key is);
  number = λ key is. ap (λ (t : Bool). if t then row_number which else or_outer (own_rows k items row key) (outer.give key)) is;
  places = no_place k items row which outer;
}

abbrev pub Has : ℕ → Items → List Tree → Environment → Type 0
Has k items row names = (j n : ℕ) → j < 2 ^ 64 → own_rows k items row (list_key j) ≡ Some n → names.give (list_key j) ≡ Some (pos n)

pub has_for : (k : ℕ) (items : Items) (row : List Tree) (which : Option RowOf) (outer : Environment) → Has k items row (names_for k items row which outer)
has_for k items row which outer j n small is =
    ap (λ (t : Bool). if t then row_number which else or_outer (own_rows k items row (list_key j)) (outer.give (list_key j))) (no_row which j) ∙ ap (λ (o : Option ℕ). or_outer o (outer.give (list_key j))) is

-- Bodies.

module _ (known : Facts) (bytes : List ℕ) (small : AreSmall bytes) (short : length bytes ≤ 16777212) where
  abbrev Body : PlainBody → Environment → Passed → List Tree → RowSpells
  Body body names passed row = BodySpells plainly known (bits_of bytes) body names passed row

  -- to the place that is said, which stands in the bytes
  abbrev To : RowSpells → ℕ → Late → ℕ → Type 0
  To Spells place late after = (late_after : Late) × (after ≤ length bytes) × Spells (8 * place) late (8 * after) late_after

  rows_spelled : (inner : Items) (Row : ℕ → List Tree → RowSpells)
      → ((number : ℕ) (line : List Tree) (place : ℕ) (late : Late) (after : ℕ) → place ≤ length bytes → BodySays bytes inner line place after → To (Row number line) place late after)
      → (rows : List (List Tree)) (number place : ℕ) (late : Late) (after : ℕ) → place ≤ length bytes → RowsSay (BodySays bytes inner) rows place after → To (RowsSpell Row number rows) place late after
  rows_spelled inner Row turn [] number place late after within is = (late, omega (arith, is, within), (ap (λ (n : ℕ). 8 * n) is, refl))
  rows_spelled inner Row turn (line ∷ rows) number place late after within (next, this, others) =
      let first = turn number line place late next within this in
      let more = rows_spelled inner Row turn rows (number + 1) next first.0 after first.1 others in
      (more.0, more.1, (8 * next, first.0, first.2, more.2))

  pub spelled : (left k : ℕ) (w : Bool) (items : Items) (names : Environment) (passed : Passed) (row : List Tree) (place : ℕ) (late : Late) (after : ℕ)
      → is_kept left w items ≡ true → waits w items ≡ false → k + lists_of items ≤ 2 ^ 64 → place ≤ length bytes → Has k items row names
      → BodySays bytes items row place after → To (Body (body_from k items) names passed row) place late after
  spelled left k w none names passed row place late after kept ends few within has (empty, end) = (late, omega (arith, end, within), (empty, ap (λ (n : ℕ). 8 * n) end, refl))
  spelled left k w (one entry rest) names passed row place late after kept ends few within has (value, r, piece, next, whole, is, there, others) =
      let here = at_field (body_from k (one entry rest)) passed in
      let inside = there_within bytes place piece next there within in
      let first = of_piece known bytes small entry names here value place late piece next is there (omega (arith, inside, short)) in
      let shape = shape_of known bytes entry names here value (8 * place) late (8 * next) first.0 first.1 in
      let more = spelled left k w rest names (behind (field_of entry) here) r next first.0 after kept ends few inside
      (λ j n low own. has j n low (ap (λ (x : List Tree). own_rows k rest x (list_key j)) (others_are (takes entry) value row r shape whole) ∙ own)) others in
      (more.0, more.1, (value, r, 8 * next, first.0, whole, first.1, more.2))
  spelled left k true (count less rest) names passed row place late after kept ends few within has is = no kept
  spelled left k false (count less rest) names passed row place late after kept ends few within has (next, rows_few, there, others) =
      let n = next_named k rest in
      let here = at_field (body_from k (count less rest)) passed in
      let high = (next_in left k rest kept ends).high in
      let inside = there_within bytes place _ next there within in
      let given = has n (rows_ahead rest row) (omega (arith, high, few)) (own_ahead left k rest row kept ends) in
      let first = of_count known bytes small less n (rows_ahead rest row) names given here place late next rows_few there (omega (arith, inside, short)) in
      let more = spelled left k true rest names (behind (count_field less n) here) row next first.0 after kept ends few inside has others in
      (more.0, more.1, (None, row, 8 * next, first.0, refl, first.1, more.2))
  spelled zero k w (list form inner rest) names passed row place late after kept ends few within has is = no kept
  spelled (suc left) k w (list Counted inner rest) names passed row place late after kept ends few within has (rows, r, next, whole, lines, others) =
      let is = listed left Counted w inner rest kept in
      let here = at_field (body_from k (list Counted inner rest)) passed in
      let own = body_from (k + 1) inner in
      let which : ℕ → Option RowOf = row_of (Some (list_name k)) in
      let first = rows_spelled inner (λ number line. Inside own (which number) names (λ env. Body own env (at_front own here) line))
      (λ number line p l a in_bytes says.
      let env = names_for (k + 1) inner line (which number) names in
      let it = spelled left (k + 1) false inner env (at_front own here) line p l a is.inside is.ends (omega (arith, few)) in_bytes (has_for (k + 1) inner line (which number) names) says in
      (it.0, it.1, (env, within_for (k + 1) inner line (which number) names, it.2)))
      rows 1 place late next within lines in
      let counted : names.give (list_key k) ≡ Some (pos (length rows)) = has k (length rows) (omega (arith, few))
      (ap (λ (t : Bool). if t then Some (rows_first row) else own_rows (k + 1 + lists_of inner) rest (drop 1 row) (list_key k)) (same_list k)
      ∙ ap (λ (x : List Tree). Some (rows_first x)) whole ∙ ap (λ (x : Tree-F Tree). Some (rows_of x)) (trees.outs-Rows rows)) in
      let more = spelled (suc left) (k + 1 + lists_of inner) false rest names (behind (Array (Some (list_name k)) None own) here) r next first.0 after is.others ends (omega (arith, few)) first.1
      (λ j n low so. has j n low
      (let late = own_low (k + 1 + lists_of inner) rest r j n (omega (arith, few)) low so in
      ap (λ (t : Bool). if t then Some (rows_first row) else own_rows (k + 1 + lists_of inner) rest (drop 1 row) (list_key j))
      (other_key k j (omega (arith, few)) low (λ equal. absurd (omega (arith, late, equal))))
      ∙ ap (λ (x : List Tree). own_rows (k + 1 + lists_of inner) rest (drop 1 x) (list_key j)) whole ∙ so)) others in
      (more.0, more.1, (Some (trees.Rows rows), r, 8 * next, first.0, whole, (rows, refl, tt, counted, record { give = λ label has. no (sym (unlabelled (k + 1) inner label) ∙ has) }, first.2), more.2))
  spelled (suc left) k w (list Uncounted inner rest) names passed row place late after kept ends few within has (rows, r, next, whole, lines, others) =
      let is = listed left Uncounted w inner rest kept in
      let here = at_field (body_from k (list Uncounted inner rest)) passed in
      let own = body_from k inner in
      let which : ℕ → Option RowOf = row_of None in
      let first = rows_spelled inner (λ number line. Inside own (which number) names (λ env. Body own env (at_front own here) line))
      (λ number line p l a in_bytes says.
      let env = names_for k inner line (which number) names in
      let it = spelled left k false inner env (at_front own here) line p l a is.inside is.ends (omega (arith, few)) in_bytes (has_for k inner line (which number) names) says in
      (it.0, it.1, (env, within_for k inner line (which number) names, it.2)))
      rows 1 place late next within lines in
      let more = spelled (suc left) (k + lists_of inner) w rest names (behind (Array None None own) here) r next first.0 after is.others ends (omega (arith, few)) first.1
      (λ j n low so. has j n low (ap (λ (x : List Tree). own_rows (k + lists_of inner) rest (drop 1 x) (list_key j)) whole ∙ so)) others in
      (more.0, more.1, (Some (trees.Rows rows), r, 8 * next, first.0, whole, (rows, refl, tt, tt, record { give = λ label has. no (sym (unlabelled k inner label) ∙ has) }, first.2), more.2))
