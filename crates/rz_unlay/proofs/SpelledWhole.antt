-- The row that is read of all bytes is spelled plainly.
use Rattle.std.proofs.Common.{◌≡◌, ℕ, ◌+◌, ◌-◌, ◌*◌, ◌<◌, ◌≤◌, ◌==◌, ℤ, Bool, true, false, ◌&&◌, ◌||◌, List, [], ◌++◌, length, take, drop, Option, Some, None, refl, sym, ap, ◌∙◌, subst, arith}
use Rattle.std.specs.Prelude.{if◌then◌else◌, nat_le, nat_lt, slice_index}
use Rattle.std.specs.Option.{is_some}
use Rattle.std.proofs.lemmas.Bool.Decides.{nat_tests}
use Rattle.std.proofs.lemmas.List.{length-drop, length-take, take-append-drop}
use Rattle.rz_core.specs.declared.facts.Facts.{Facts}
use Rattle.rz_expr.specs.Environment.{Key}
use Rattle.rz_bits.specs.Bits.{bits_of, number_of}
use Rattle.rz_bits.specs.BitBuf.{filled, missing, zeros}
use Rattle.rz_types_fields.specs.Field.{PlainBody}
use Rattle.rz_types_fields.specs.Front.{names_inside, stated_in}
use Rattle.rz_types_fields.specs.Passed.{at_front, declares, is_held, nothing_passed, outside, Passed}
use Rattle.rz_types_fields.specs.Shape.{are_shaped}
use Rattle.rz_types_fields.specs.Spells.{most_bits, values_in, SpellsPlainly}
use Rattle.rz_types_fields.specs.declared.tree.Tree.{Tree}
use Rattle.rz_types.specs.Kept.{IsKept}
use Rattle.rz_types.specs.Readable.{is_readable}
use Rattle.rz_types.specs.Walk.{names_of}
use Rattle.rz_unlay.specs.Pieces.{Found}
use Rattle.rz_unlay.specs.Cursor.{body_found, ended, reading}
use Rattle.rz_unlay.proofs.Asked.{is_asked}
use Rattle.rz_unlay.proofs.Fresh.{fresh_front}
use Rattle.rz_unlay.proofs.Onward.{places_within}
use Rattle.rz_unlay.proofs.ReadsBits.{length_bits}
use Rattle.rz_unlay.proofs.ReadsNames.{places_outside}
use Rattle.rz_unlay.proofs.ReadsTests.{if_false, left_true, none_is, some_same}
use Rattle.rz_unlay.proofs.SpelledFields.{body_came}
use Rattle.rz_unlay.proofs.SpelledNames.{Knows}
use Rattle.rz_unlay.proofs.SpelledPieces.{Tells}
use Rattle.rz_unlay.proofs.SpelledRows.{inside_knows}
use Rattle.rz_unlay.proofs.SpelledText.{zero_bits}
use Rattle.rz_unlay.proofs.Told.{same_part}

-- The end.

record Ended (all : List Bool) (found : Found) (row : List Tree) : Type 0 where
  same : found.row ≡ row
  within : found.after ≤ length all
  near : length all < found.after + 8
  none : (number_of (drop found.after all) == 0) ≡ true
  few : values_in found.row ≤ 1048576

is_le : (a b : ℕ) → nat_le a b ≡ true → a ≤ b
is_le a b is = grind (arith, nat_tests, is)

is_lt : (a b : ℕ) → nat_lt a b ≡ true → a < b
is_lt a b is = grind (arith, nat_tests, is)

ended_is : (a b c d : Bool) (row other : List Tree) → (if a && b && c && d then Some row else None) ≡ Some other → (a ≡ true) × (b ≡ true) × (c ≡ true) × (d ≡ true) × (row ≡ other)
ended_is true true true true row other is = (refl, refl, refl, refl, some_same row other is)
ended_is true true true false row other is = absurd (none_is other is)
ended_is true true false d row other is = absurd (none_is other is)
ended_is true false c d row other is = absurd (none_is other is)
ended_is false b c d row other is = absurd (none_is other is)

end_is : (all : List Bool) (found : Found) (row : List Tree) → ended all (Some found) ≡ Some row → Ended all found row
end_is all found row is =
    let it = ended_is (nat_le found.after (length all)) (nat_lt (length all) (found.after + 8)) (number_of (drop found.after all) == 0) (nat_le (values_in found.row) 1048576) found.row row is in
    record {
      same = it.4;
      within = is_le found.after (length all) it.0;
      near = is_lt (length all) (found.after + 8) it.1;
      none = it.2;
      few = is_le (values_in found.row) 1048576 it.3;
    }

missing_is : (end long count : ℕ) → long ≡ 8 * count → end ≤ long → long < end + 8 → long - end ≡ missing 8 end
missing_is end long count whole within near = omega (arith, whole, within, near)

filled_is : (all : List Bool) (end count : ℕ) → length all ≡ 8 * count → end ≤ length all → length all < end + 8 → (number_of (drop end all) == 0) ≡ true → all ≡ filled 8 (take end all)
filled_is all end count whole within near none =
    let front : length (take end all) ≡ end = (let long = length-take end all in omega (arith, long, within)) in
    sym (take-append-drop end all)
    ∙ ap (λ (bits : List Bool). take end all ++ bits) (zero_bits (drop end all) none ∙ ap zeros (length-drop end all ∙ missing_is end (length all) count whole within near ∙ ap (missing 8) (sym front)))

outside_knows : Knows (is_held nothing_passed) outside
outside_knows = record { covers = has; only = λ key value asked is. left_true (is_some (outside.give key)) false (ap is_some is) }
  where
    has : (key : Key) → is_asked key ≡ true → (is_some (outside.give key) || false) ≡ true → (value : ℤ) × (outside.give key ≡ Some value)
    has key asked = by (outside.give key)
      where
        by : (found : Option ℤ) → (is_some found || false) ≡ true → (value : ℤ) × (found ≡ Some value)
        by None is = absurd cc
        by (Some value) is = (value, refl)

pub was_read : (tells : Tells) (facts : Facts) (body : PlainBody) (row : List Tree) (bytes : List ℕ) → are_shaped false body ≡ true → IsKept body → is_readable body ≡ true → length bytes ≤ 16777212
    → ((k : ℕ) → slice_index bytes k < 256) → reading facts body bytes ≡ Some row → SpellsPlainly facts body row bytes
was_read tells facts body row bytes shaped kept reads few are is = by (body_found facts all front.met body (names_inside None body outside) 0 []) refl is
  where
    all : List Bool
    all = bits_of bytes

    front : Passed
    front = at_front body nothing_passed

    by : (o : Option Found) → body_found facts all front.met body (names_inside None body outside) 0 [] ≡ o → ended all o ≡ Some row → SpellsPlainly facts body row bytes
    by None so is = absurd (none_is row is)
    by (Some found) so is =
        let end = end_is all found row is in
        let long = length_bits bytes in
        let short : length all ≤ most_bits = omega (arith, long, few) in
        let came = body_came tells facts all short (names_of body) false true front body kept.0 kept.1 shaped reads (names_inside None body outside) 0 [] found
        (record { knows = inside_knows body None nothing_passed outside outside_knows; has = places_within false None body outside shaped places_outside; inside = omega (arith) }) (fresh_front None body outside) so in
        let spelled = came in
        subst (λ (r : List Tree). SpellsPlainly facts body r bytes) end.same (record {
          spelling = record {
            names = found.names;
            own = record {
              give = λ key none other. spelled.grows.same key none ∙ if_false (declares body key) (stated_in body key) (outside.give key) none;
              number = λ key is. absurd cc;
              places = λ label has. tt;
            };
            end = found.after;
            late = found.late;
            fields = spelled.spells found.names (same_part found.names);
            filled = filled_is all found.after (length bytes) long end.within end.near end.none;
            within = end.within;
            are_bytes = are;
          };
          few = end.few;
        })
