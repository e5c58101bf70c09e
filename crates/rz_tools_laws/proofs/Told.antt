-- The bytes of each resource of a sample tell its rows.
use Rattle.std.proofs.Common.{◌≡◌, ℕ, zero, suc, ◌+◌, ◌*◌, ◌%◌, ◌^◌, ◌<◌, ◌≤◌, ℤ, pos, Bool, true, false, List, [], ◌∷◌, ◌++◌, map, length, take, drop, replicate, Option, Some, None, Ok, refl, sym, ap, subst, ◌∙◌, arith, append_assoc}
use Rattle.std.specs.Prelude.{codes, ◌||◌, if◌then◌else◌, nat_lt, slice_index}
use Rattle.std.specs.List.{flat_map, range_with_len, sum_by, AllByRecursion}
use Rattle.std.specs.Int.{cast_unsigned, w32, w64}
use Rattle.std.proofs.lemmas.Bool.{le-leb}
use Rattle.std.proofs.lemmas.Int.{int_wrap_fits}
use Rattle.std.specs.declared.result.Result.{Result}
use Rattle.std.proofs.lemmas.Bool.Decides.{nat_tests}
use Rattle.std.proofs.lemmas.List.{append-nil, drop-drop, length-append, length-map, length-replicate, take_all}
use Rattle.std.proofs.lemmas.List.FromFn.{length-range_with_len}
use Rattle.std.proofs.lemmas.List.Sums.{sum_by-cons}
use Rattle.std.proofs.Math.Seq.{drop-append_seam, take-append_seam}
use Rattle.rz_bits.specs.Bits.{bits_of, number_bits}
use Rattle.rz_bits.specs.BitBuf.{filled, missing, zeros}
use Rattle.rz_bits.proofs.Bytes.{bits_of-append, bits_of-number, length-bits_of}
use Rattle.rz_bits.proofs.Numbers.{length-number_bits}
use Rattle.rz_core.proofs.Lists.{all_append}
use Rattle.rz_core.specs.Numbers.{be, length-be_2}
use Rattle.rz_core.specs.declared.facts.Facts.{Facts}
use Rattle.rz_expr.specs.Environment.{count_key, row_key, Environment}
use Rattle.rz_expr.specs.Term.{RowsOf}
use Rattle.rz_expr.specs.Value.{reduced, value_of}
use Rattle.rz_expr.specs.declared.value.EvalFault.{EvalFault}
use Rattle.rz_tools_laws.specs.Fields.{count_of_rows, one_byte, one_text, row_bytes, row_fields, row_letters, row_number, row_values, rows_name, sample_bytes, sample_fields, sample_values}
use Rattle.rz_types_fields.specs.Field.{field_and, no_fields, Array, Number, Text}
use Rattle.rz_types_fields.specs.Passed.{at_field, at_front, behind, is_known, nothing_passed, outside, Passed}
use Rattle.rz_types_fields.specs.Range.{fits_number}
use Rattle.rz_types_fields.specs.RowLabels.{row_of}
use Rattle.rz_types_fields.specs.Sees.{sees, Late}
use Rattle.rz_types_fields.specs.Solve.{is_same_key, SolvesBack}
use Rattle.rz_types_fields.specs.Spells.{count_in, count_step, marks, most_bits, plainly, values_in, BodySpells, Inside, IsPlainText, RowSpells, RowsSpell, SpellsPlainly, Within}
use Rattle.rz_types_fields.specs.Stored.{stored_number}
use Rattle.rz_types_fields.specs.Piece.{OneNumber, OneText}
use Rattle.rz_types_fields.specs.declared.field.NumForm.TheVariants.{Integer}
use Rattle.rz_types_fields.specs.declared.field.TextForm.TheVariants.{Pascal}
use Rattle.rz_types_fields.specs.declared.tree.Tree.{Tree}
use Rattle.rz_types_fields.specs.declared.tree.Tree.TheFolds.{fold-roll-Tree}
use Rattle.rz_types_fields.specs.declared.tree.Tree.TheOpen.{Tree-F}
use Rattle.rz_types_fields.specs.declared.tree.Tree.TheVariants as trees
use Rattle.rz_unlay.proofs.FewValues.{count_rows}
use Rattle.rz_unlay.specs.Reading.{IsTold}

-- Bits that stand at a place.

record Stand (all : List Bool) (at : ℕ) (piece rest : List Bool) : Type 0 where
  there : take (length piece) (drop at all) ≡ piece
  after : drop (at + length piece) all ≡ rest

stand : (all : List Bool) (at : ℕ) (piece rest : List Bool) → drop at all ≡ piece ++ rest → Stand all at piece rest
stand all at piece rest is = record {
  there = ap (λ (l : List Bool). take (length piece) l) is ∙ take-append_seam piece rest;
  after = sym (drop-drop (length piece) at all) ∙ ap (λ (l : List Bool). drop (length piece) l) is ∙ drop-append_seam piece rest;
}

-- Names.

-- outside of the rows the array has so many
abbrev counted : ℕ → Environment
counted n = record { give = λ key. if is_same_key (count_key (codes "r")) key then Some (pos n) else outside.give key }

-- in a row the array has the number of it
abbrev numbered : ℕ → Environment → Environment
numbered number outer = record { give = λ key. if is_same_key (row_key (codes "r")) key then Some (pos number) else outer.give key }

counted_within : (n : ℕ) → Within sample_fields None outside (counted n)
counted_within n = record {
  give = λ key undeclared no_row. ap (λ (t : Bool). if t then Some (pos n) else outside.give key) (first (is_same_key (count_key (codes "r")) key) _ undeclared);
  number = λ key is. absurd cc;
  places = λ label is. tt;
}
  where
    first : (a b : Bool) → ((a || b) || false) ≡ false → a ≡ false
    first true b is = absurd cc
    first false b is = refl

numbered_within : (number : ℕ) (outer : Environment) → Within row_fields (row_of (Some rows_name) number) outer (numbered number outer)
numbered_within number outer = record {
  give = λ key undeclared no_row. ap (λ (t : Bool). if t then Some (pos number) else outer.give key) no_row;
  number = λ key is. ap (λ (t : Bool). if t then Some (pos number) else outer.give key) is;
  places = λ label is. absurd cc;
}

-- A row.

-- the bits of the number and of the text in a row
abbrev number_there : ℕ → ℕ → List Bool
number_there k j = number_bits 8 (row_number k j)

abbrev text_there : ℕ → ℕ → List Bool
text_there k j = bits_of (length (row_letters k j) ∷ row_letters k j)

-- where a row ends
abbrev row_end : ℕ → ℕ → ℕ → ℕ
row_end k j at = at + length (number_there k j) + length (text_there k j)

-- where rows end
abbrev rows_end : ℕ → List ℕ → ℕ → ℕ
rows_end k [] at = at
rows_end k (j ∷ js) at = rows_end k js (row_end k j at)

abbrev rows_there : ℕ → List ℕ → List Bool
rows_there k js = bits_of (flat_map (row_bytes k) js)

letters_few : (k j : ℕ) → length (row_letters k j) ≤ 4
letters_few k j = let long = length-replicate {A = ℕ} ((k + j) % 5) 97 in omega (arith, long)

letters_small : (count : ℕ) → AllByRecursion (λ byte. byte < 256) (replicate count 97)
letters_small zero = tt
letters_small (suc count) = (omega arith, letters_small count)

not_long : (count : ℕ) → count ≤ 4 → nat_lt 255 count ≡ false
not_long count few = grind (arith, nat_tests)

rows_far : (k : ℕ) (js : List ℕ) (at : ℕ) → at ≤ rows_end k js at
rows_far k [] at = omega arith
rows_far k (j ∷ js) at = let far = rows_far k js (row_end k j at) in omega (arith, far)

rows_are : (k : ℕ) (js : List ℕ) (at : ℕ) → rows_end k js at ≡ at + 8 * length (flat_map (row_bytes k) js)
rows_are k [] at = omega arith
rows_are k (j ∷ js) at =
    let others = rows_are k js (row_end k j at) in
    let sum = length-append (row_bytes k j) (flat_map (row_bytes k) js) in
    let number = length-number_bits 8 (row_number k j) in
    let text = length-bits_of (length (row_letters k j) ∷ row_letters k j) in
    omega (arith, others, sum, number, text)

module _ (known : Facts) (all : List Bool) (k : ℕ) where
  abbrev Row : Environment → Passed → ℕ → List Tree → RowSpells
  Row outer passed number line =
      Inside row_fields (row_of (Some rows_name) number) outer (λ own. BodySpells plainly known all row_fields own (at_front row_fields passed) line)

  record IsRowThere (outer : Environment) (passed : Passed) (number j at : ℕ) (late : Late) (rest : List Bool) : Type 0 where
    late_after : Late
    after : drop (row_end k j at) all ≡ rest
    spells : Row outer passed number (row_values k j) at late (row_end k j at) late_after

  row_spelled : (outer : Environment) (passed : Passed) (number j at : ℕ) (late : Late) (rest : List Bool)
      → drop at all ≡ bits_of (row_bytes k j) ++ rest → row_end k j at ≤ most_bits → IsRowThere outer passed number j at late rest
  row_spelled outer passed number j at late rest is short =
      let own = numbered number outer in
      let mid = at + length (number_there k j) in
      let first = stand all at (number_there k j) (text_there k j ++ rest) (is ∙ append_assoc (number_there k j) (text_there k j) rest) in
      let second = stand all mid (text_there k j) rest first.after in
      let front = at_field row_fields (at_front row_fields passed) in
      let next = at_field (field_and (Text one_text) no_fields) (behind (Number one_byte) front) in
      let late_mid : Late = late ++ marks front.met late (OneNumber one_byte) (sees known all own at) (length (number_there k j)) in
      let late_end : Late = late_mid ++ marks next.met late_mid (OneText one_text) (sees known all own mid) (length (text_there k j)) in
      record {
        late_after = late_end;
        after = second.after;
        spells = (
          own,
          numbered_within number outer,
          (
            Some (trees.Number (row_number k j)),
            trees.Text (row_letters k j) ∷ [],
            mid,
            late_mid,
            refl,
            (
              tt,
              (
                Some (trees.Number (row_number k j)),
                [],
                mid,
                late_mid,
                refl,
                record {
                  bits = number_there k j;
                  stored = (row_number k j, refl, omega arith, refl);
                  manner = tt;
                  early = refl;
                  there = first.there;
                  ends = refl;
                  short = omega (arith, short);
                  marked = refl;
                },
                (refl, refl, refl),
              ),
            ),
            (
              Some (trees.Text (row_letters k j)),
              [],
              row_end k j at,
              late_end,
              refl,
              (
                tt,
                (
                  Some (trees.Text (row_letters k j)),
                  [],
                  row_end k j at,
                  late_end,
                  refl,
                  record {
                    bits = text_there k j;
                    stored = record {
                      size = None;
                      has_size = refl;
                      bytes = row_letters k j;
                      are_bytes = refl;
                      short = not_long (length (row_letters k j)) (letters_few k j);
                      are_bits = refl;
                    };
                    manner = λ size bytes sized value. plain_text size bytes sized value;
                    early = refl;
                    there = second.there;
                    ends = refl;
                    short = short;
                    marked = refl;
                  },
                  (refl, refl, refl),
                ),
              ),
              (refl, refl, refl),
            ),
          ),
        );
      }
    where
      plain_text : (size : Option ℕ) (bytes : List ℕ) → size ≡ None → ◌≡◌ {A = Option Tree} (Some (trees.Text (row_letters k j))) (Some (trees.Text bytes)) → IsPlainText Pascal size bytes
      plain_text (Some n) bytes sized value = absurd cc
      plain_text None bytes sized value = let same : row_letters k j ≡ bytes = cc in (subst (AllByRecursion (λ byte. byte < 256)) same (letters_small ((k + j) % 5)), tt, tt, tt)

  record AreRowsThere (outer : Environment) (passed : Passed) (number : ℕ) (js : List ℕ) (at : ℕ) (late : Late) : Type 0 where
    late_after : Late
    spell : RowsSpell (Row outer passed) number (map (row_values k) js) at late (rows_end k js at) late_after

  rows_spelled : (outer : Environment) (passed : Passed) (number : ℕ) (js : List ℕ) (at : ℕ) (late : Late)
      → drop at all ≡ rows_there k js → rows_end k js at ≤ most_bits → AreRowsThere outer passed number js at late
  rows_spelled outer passed number [] at late is short = record { late_after = late; spell = (refl, refl) }
  rows_spelled outer passed number (j ∷ js) at late is short =
      let far = rows_far k js (row_end k j at) in
      let one = row_spelled outer passed number j at late (rows_there k js) (is ∙ bits_of-append (row_bytes k j) (flat_map (row_bytes k) js)) (omega (arith, far, short)) in
      let others = rows_spelled outer passed (number + 1) js (row_end k j at) one.late_after one.after short in
      record { late_after = others.late_after; spell = (row_end k j at, one.late_after, one.spells, others.spell) }

-- The count in front.

-- what is computed of a count of rows
record IsCountOf (n : ℕ) : Type 0 where
  is_value : reduced (pos n) ≡ pos n
  fits : fits_number Integer (pos 16) (pos n) ≡ true
  is_stored : stored_number 16 (pos n) ≡ n
  is_solved : cast_unsigned w64 (pos n) % 2 ^ 16 ≡ n

count_of_few : (n : ℕ) → n < 8 → IsCountOf n
count_of_few n few = record {
  is_value = int_wrap_fits w32 (pos n) (omega (arith, few));
  fits = rw (le-leb n 65535 (omega (arith, few))) refl;
  is_stored = let is : n % 65536 ≡ n = omega (arith, few) in is;
  is_solved = let is : n % 65536 ≡ n = omega (arith, few) in is;
}

same_value : (v w : ℤ) → ◌≡◌ {A = Result ℤ EvalFault} (Ok v) (Ok w) → v ≡ w
same_value v w is = cc

-- The whole.

front_passed : Passed
front_passed = at_field sample_fields (at_front sample_fields nothing_passed)

rows_few : (k : ℕ) (js : List ℕ) → length (flat_map (row_bytes k) js) ≤ 6 * length js
rows_few k [] = omega arith
rows_few k (j ∷ js) =
    let sum = length-append (row_bytes k j) (flat_map (row_bytes k) js) in
    let few = letters_few k j in
    omega (arith, sum, few, rows_few k js)

number_counts : (n : ℕ) → count_in (trees.Number n) ≡ 1
number_counts n = ap count_in (sym (trees.rolls-Number n)) ∙ fold-roll-Tree ℕ count_step (Tree-F.Number n)

text_counts : (bytes : List ℕ) → count_in (trees.Text bytes) ≡ 1
text_counts bytes = ap count_in (sym (trees.rolls-Text bytes)) ∙ fold-roll-Tree ℕ count_step (Tree-F.Text bytes)

-- a row has two values
row_few : (k j : ℕ) → values_in (row_values k j) ≡ 2
row_few k j =
    let number = number_counts (row_number k j) in
    let text = text_counts (row_letters k j) in
    let turn = sum_by-cons count_in (trees.Number (row_number k j)) (trees.Text (row_letters k j) ∷ []) in
    let last = sum_by-cons count_in (trees.Text (row_letters k j)) [] in
    omega (arith, number, text, turn, last)

values_few : (k : ℕ) (js : List ℕ) → sum_by values_in (map (row_values k) js) ≡ 2 * length js
values_few k [] = omega arith
values_few k (j ∷ js) =
    let turn = sum_by-cons values_in (row_values k j) (map (row_values k) js) in
    omega (arith, turn, row_few k j, values_few k js)

rows_small : (k : ℕ) (js : List ℕ) → AllByRecursion (λ byte. byte < 256) (flat_map (row_bytes k) js)
rows_small k [] = tt
rows_small k (j ∷ js) =
    (omega arith, (let few = letters_few k j in omega (arith, few), all_append (λ byte. byte < 256) (row_letters k j) (flat_map (row_bytes k) js) (letters_small ((k + j) % 5)) (rows_small k js)))

each_small : (bytes : List ℕ) → AllByRecursion (λ byte. byte < 256) bytes → (i : ℕ) → slice_index bytes i < 256
each_small [] all zero = omega arith
each_small [] all (suc i) = omega arith
each_small (byte ∷ bytes) all zero = all.0
each_small (byte ∷ bytes) all (suc i) = each_small bytes all.1 i

full : (bytes : List ℕ) (end : ℕ) → end ≡ 8 * length bytes → bits_of bytes ≡ filled 8 (take end (bits_of bytes))
full bytes end is =
    let long = length-bits_of bytes in
    let front : take end (bits_of bytes) ≡ bits_of bytes = take_all end (bits_of bytes) (omega (arith, long, is)) in
    let none : missing 8 (length (bits_of bytes)) ≡ 0 = omega (arith, long) in
    sym (ap (filled 8) front ∙ ap (λ (n : ℕ). bits_of bytes ++ zeros n) none ∙ append-nil (bits_of bytes))

two_small : (n : ℕ) → n < 8 → AllByRecursion (λ byte. byte < 256) (be 2 n)
unfolding be
two_small n few = (omega arith, (omega arith, tt))

pub bytes_small : (k : ℕ) → AllByRecursion (λ byte. byte < 256) (sample_bytes k)
bytes_small k = all_append (λ byte. byte < 256) (be 2 (k % 8)) (flat_map (row_bytes k) (range_with_len 0 (k % 8))) (two_small (k % 8) (omega arith)) (rows_small k (range_with_len 0 (k % 8)))

pub bytes_few : (k : ℕ) → length (sample_bytes k) ≤ 44
bytes_few k =
    let rows = rows_few k (range_with_len 0 (k % 8)) in
    let sum = length-append (be 2 (k % 8)) (flat_map (row_bytes k) (range_with_len 0 (k % 8))) in
    omega (arith, rows, sum, length-be_2 (k % 8), length-range_with_len 0 (k % 8))

module _ (known : Facts) (k : ℕ) where
  numbers : List ℕ
  numbers = range_with_len 0 (k % 8)

  all_bits : List Bool
  all_bits = bits_of (sample_bytes k)

  all_are : all_bits ≡ number_bits 16 (k % 8) ++ rows_there k (range_with_len 0 (k % 8))
  unfolding be all_bits
  all_are = bits_of-append (be 2 (k % 8)) (flat_map (row_bytes k) (range_with_len 0 (k % 8))) ∙ ap (λ (l : List Bool). l ++ rows_there k (range_with_len 0 (k % 8))) (bits_of-number 2 (k % 8))

  spelled : SpellsPlainly known sample_fields (sample_values k) (sample_bytes k)
  unfolding all_bits numbers front_passed
  spelled =
      let count = count_of_few (k % 8) (omega arith) in
      let names = counted (k % 8) in
      let first = stand all_bits 0 (number_bits 16 (k % 8)) (rows_there k numbers) all_are in
      let mid = 0 + length (number_bits 16 (k % 8)) in
      let size : length (number_bits 16 (k % 8)) ≡ 16 = length-number_bits 16 (k % 8) in
      let ends = rows_are k numbers mid in
      let long = length-bits_of (sample_bytes k) in
      let sum = length-append (be 2 (k % 8)) (flat_map (row_bytes k) numbers) in
      let two = length-be_2 (k % 8) in
      let few = bytes_few k in
      let end_is : rows_end k numbers mid ≡ 8 * length (sample_bytes k) = omega (arith, ends, size, sum, two) in
      let seen = sees known all_bits names 0 in
      let late : Late = [] ++ marks front_passed.met [] (OneNumber count_of_rows) seen (length (number_bits 16 (k % 8))) in
      let behind_count = at_field (field_and (Array (Some rows_name) None row_fields) no_fields) (behind (Number count_of_rows) front_passed) in
      let rows = rows_spelled known all_bits k names behind_count 1 numbers mid late first.after (omega (arith, end_is, few)) in
      let has_value : value_of (RowsOf (codes "r")) seen ≡ Ok (pos (k % 8)) = ap (λ (v : ℤ). Ok v) count.is_value in
      let many : pos (k % 8) ≡ pos (length (map (row_values k) numbers)) = ap (λ (m : ℕ). pos m) (sym (length-map numbers (row_values k) ∙ length-range_with_len 0 (k % 8))) in
      record {
        spelling = record {
          names = names;
          own = counted_within (k % 8);
          end = rows_end k numbers mid;
          late = rows.late_after;
          fields = (
            None,
            sample_values k,
            mid,
            late,
            refl,
            (
              tt,
              (
                None,
                [],
                mid,
                late,
                refl,
                record {
                  bits = number_bits 16 (k % 8);
                  stored = (pos (k % 8), refl, has_value, count.fits, ap (number_bits 16) (sym count.is_stored));
                  manner = λ v is. subst (λ (w : ℤ). SolvesBack (is_known front_passed) 16 seen (RowsOf (codes "r")) (stored_number 16 w)) (same_value (pos (k % 8)) v (sym has_value ∙ is))
                      (ap (λ (m : ℕ). Some (pos m)) (ap (λ (m : ℕ). cast_unsigned w64 (pos m) % 2 ^ 16) count.is_stored ∙ count.is_solved), tt);
                  early = refl;
                  there = first.there;
                  ends = refl;
                  short = omega (arith, size);
                  marked = refl;
                },
                (refl, refl, refl),
              ),
            ),
            (
              Some (trees.Rows (map (row_values k) numbers)),
              [],
              rows_end k numbers mid,
              rows.late_after,
              refl,
              (
                map (row_values k) numbers,
                refl,
                tt,
                ap (λ (v : ℤ). Some v) many,
                record { give = λ label is. absurd cc },
                rows.spell,
              ),
              (refl, refl, refl),
            ),
          );
          filled = full (sample_bytes k) (rows_end k numbers mid) end_is;
          within = omega (arith, end_is, long);
          are_bytes = each_small (sample_bytes k) (bytes_small k);
        };
        few = few_values;
      }
    where
      few_values : values_in (sample_values k) ≤ 1048576
      few_values =
          let list = range_with_len 0 (k % 8) in
          let rows = values_few k list in
          let many = length-range_with_len 0 (k % 8) in
          let each = length-map list (row_values k) in
          let turn = sum_by-cons count_in (trees.Rows (map (row_values k) list)) [] in
          let whole = count_rows (map (row_values k) list) in
          omega (arith, rows, many, each, turn, whole)

pub told : (known : Facts) (k : ℕ) → IsTold known sample_fields (sample_bytes k) (sample_values k)
told known k = (refl, spelled known k)
