-- After the whole row.
use Rattle.std.proofs.Common.{◌≡◌, ◌⊎◌, inl, inr, ℕ, ◌+◌, ◌<◌, ◌≤◌, ◌==◌, ◌&&◌, Bool, true, false, List, length, drop, Option, Some, None, refl, sym, ap, ◌∙◌, arith}
use Rattle.std.specs.Prelude.{nat_le, nat_lt, if◌then◌else◌}
use Rattle.std.proofs.lemmas.Bool.Decides.{leb_tells}
use Rattle.rz_bits.specs.Bits.{number_of}
use Rattle.rz_types_fields.specs.Spells.{values_in}
use Rattle.rz_unlay.specs.Cursor.{ended, line_of, Line}
use Rattle.rz_unlay.specs.Pieces.{Found}
use Rattle.rz_unlay_pieces.specs.Few.{few}
use Rattle.rz_unlay.specs.Few.{line_count}
use Rattle.rz_unlay.specs.Rows.{is_end}
use Rattle.rz_unlay.proofs.FewValues.{first_within, is_over, some_same}

le_true : (a b : ℕ) → a ≤ b → nat_le a b ≡ true
le_true a b le = by (leb_tells a b)
  where
    by : ((nat_le a b ≡ true) × (a ≤ b)) ⊎ ((nat_le a b ≡ false) × (b < a)) → nat_le a b ≡ true
    by (inl (is, fits)) = is
    by (inr (is, over)) = absurd (omega (arith, le, over))

le_false : (a b : ℕ) → b < a → nat_le a b ≡ false
le_false a b over = by (leb_tells a b)
  where
    by : ((nat_le a b ≡ true) × (a ≤ b)) ⊎ ((nat_le a b ≡ false) × (b < a)) → nat_le a b ≡ false
    by (inl (is, fits)) = absurd (omega (arith, fits, over))
    by (inr (is, more)) = is

four : (a b c d : Bool) → a ≡ true → d ≡ true → (((a && b) && c) && d) ≡ (b && c)
four true b c true is also = all b c
  where
    all : (b c : Bool) → ((b && c) && true) ≡ (b && c)
    all true true = refl
    all true false = refl
    all false c = refl
four true b c false is also = absurd cc
four false b c d is also = absurd cc

none_of : (a d : Bool) → d ≡ false → (a && d) ≡ false
none_of true d is = is
none_of false d is = refl

abbrev line_is : Found → Line
line_is f = record { row = f.row; own = f.names; after = f.after; late = f.late }

module _ (all : List Bool) where
  by_end : (f : Found) (line : Line) → line ≡ line_is f → line.after ≤ length all → values_in line.row ≤ 1048576
      → ended all (Some f) ≡ (if is_end all line.after then Some line.row else None)
  by_end f line is within fits =
      ap (λ (test : Bool). if test then Some f.row else None)
      (four (nat_le f.after (length all)) (nat_lt (length all) (f.after + 8)) (number_of (drop f.after all) == 0) (nat_le (values_in f.row) 1048576)
      (le_true f.after (length all) (let e = ap (λ (l : Line). l.after) is in omega (arith, e, within)))
      (le_true (values_in f.row) 1048576 (let e = ap (λ (l : Line). values_in l.row) is in omega (arith, e, fits))))
      ∙ ap (λ (l : Line). if is_end all l.after then Some l.row else None) (sym is)

  at_end : (found : Option Found) (line : Line) → Some line ≡ few line_count 1048576 (line_of found) → line.after ≤ length all
      → ended all found ≡ (if is_end all line.after then Some line.row else None)
  at_end None line is within = absurd cc
  at_end (Some f) line is within =
      let it = first_within line_count 1048576 (Some (line_is f)) line is in by_end f line (sym (some_same (line_is f) line it.0)) within it.1

  pub ended_so : (found : Option Found) (line : Line) → Some line ≡ few line_count 1048576 (line_of found) → line.after ≤ length all → is_end all line.after ≡ true
      → Some line.row ≡ ended all found
  ended_so found line is within end = ap (λ (test : Bool). if test then Some line.row else None) (sym end) ∙ sym (at_end found line is within)

  pub not_ended : (found : Option Found) (line : Line) → Some line ≡ few line_count 1048576 (line_of found) → line.after ≤ length all → is_end all line.after ≡ false
      → None ≡ ended all found
  not_ended found line is within end = ap (λ (test : Bool). if test then Some line.row else None) (sym end) ∙ sym (at_end found line is within)

  pub none_ended : (found : Option Found) → None ≡ few line_count 1048576 (line_of found) → None ≡ ended all found
  none_ended None none = refl
  none_ended (Some f) none =
      sym (ap (λ (test : Bool). if test then Some f.row else None)
      (none_of ((nat_le f.after (length all) && nat_lt (length all) (f.after + 8)) && (number_of (drop f.after all) == 0)) (nat_le (values_in f.row) 1048576)
      (le_false (values_in f.row) 1048576 (is_over line_count 1048576 (line_is f) none))))
