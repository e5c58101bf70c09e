-- Bits that are laid as a piece, and those for which there is no room.
use Rattle.std.proofs.Common.{◌≡◌, ℕ, zero, suc, ◌+◌, ◌-◌, ◌<◌, ◌≤◌, Bool, true, false, List, [], ◌∷◌, ◌++◌, length, ℤ, pos, negsuc, of_z, Result, Ok, Err, refl, sym, ap, subst, ◌∙◌, arith}
use Rattle.rz_layout.specs.Fault.{refusal_of}
use Rattle.rz_core.specs.Stop.{Gives, fault_seen, left}
use Rattle.std.specs.Prelude.{if◌then◌else◌, nat_abs, nat_lt, replicate}
use Rattle.std.proofs.lemmas.Int.{ints}
use mir.Syntax.{Width}
use Rattle.std.proofs.lemmas.Bool.{le-ltb, ltb-false, ltb-true}
use Rattle.rz_core.specs.declared.stop.Stop.{Stop}
use Rattle.rz_core.specs.declared.stop.Stop.TheVariants.{NoMemory, Refused}
use Rattle.std.proofs.lemmas.List.{append_assoc, append-nil, length-append, length-replicate, replicate-append-replicate}
use Rattle.rz_bits.specs.BitBuf.{zeros}
use Rattle.rz_bits.specs.Bits.{number_bits}
use Rattle.rz_expr.specs.Environment.{Environment}
use Rattle.rz_types_fields.specs.Sees.{marked}
use Rattle.rz_layout.specs.Laid.{with_bits, with_late, HasRoom}
use Rattle.rz_layout.specs.Sound.{IsWidth}
use Rattle.rz_expr.specs.Term.{Term}
use Rattle.rz_types_fields.specs.declared.field.NumForm.{NumForm}
use Rattle.rz_layout.specs.declared.fault.LayFault.{LayFault}
use Rattle.rz_types_fields.specs.Laid.{grown, late_at, most_kept, one_more, too_long, with_room, Draft, LateNumber, Refusal}
use Rattle.rz_types_fields.specs.Piece.{Zeros}
use Rattle.rz_types_fields.specs.Spells.{most_bits}

pub length_number : (width number : ℕ) → length (number_bits width number) ≡ width
unfolding number_bits
length_number zero number = refl
length_number (suc width) number = ap suc (length_number width number)

abbrev over : Draft → ℕ → Draft → Bool → Result Draft Refusal
over draft end next test = if test then Err (too_long draft end) else Ok next

abbrev no : Refusal → Result Draft Refusal
no fault = Err fault

pub room_in : (draft : Draft) (count : ℕ) (next : Draft) → length draft.bits + count ≤ most_bits → with_room draft count next ≡ Ok next
room_in draft count next fits = ap (over draft (length draft.bits + count) next) (le-ltb most_bits (length draft.bits + count) fits)

test_over : (a b : ℕ) → a < b → nat_lt a b ≡ true
test_over a b less = by (nat_lt a b) refl
  where
    by : (test : Bool) → nat_lt a b ≡ test → nat_lt a b ≡ true
    by true is = is
    by false is = let most = ltb-false a b is in absurd (omega (arith, less, most))

pub no_room : (draft : Draft) (count : ℕ) (next : Draft) (stop : Stop LayFault) → HasRoom draft count (Err stop) → (after : Draft)
    → Gives (with_room draft count next) (fault_seen refusal_of (left after (Err stop)))
no_room draft count next NoMemory room after = tt
no_room draft count next (Refused fault) room after =
    ap (over draft (length draft.bits + count) next) (test_over most_bits (length draft.bits + count) room.0) ∙ ap no (sym room.1)

pub no_bits_room : (draft : Draft) (bits : List Bool) (count : ℕ) → length bits ≡ count → (stop : Stop LayFault) → HasRoom draft count (Err stop) → (after : Draft)
    → Gives (with_bits draft bits) (fault_seen refusal_of (left after (Err stop)))
no_bits_room draft bits count size stop room after =
    no_room draft (length bits) (grown (Zeros 0) draft bits false []) stop (subst (λ n. HasRoom draft n (Err stop)) (sym size) room) after

-- Marks.

pub marked_more : (marks : List Bool) (count more : ℕ) → length marks ≤ count → marked count marks ++ replicate more false ≡ marked (count + more) marks
marked_more marks count more short =
    append_assoc marks (replicate (count - length marks) false) (replicate more false)
    ∙ ap (λ (z : List Bool). marks ++ z) (replicate-append-replicate (count - length marks) more false)
    ∙ ap (λ (n : ℕ). marks ++ replicate n false) (let e : count - length marks + more ≡ count + more - length marks = omega (arith, short) in e)

pub marks_behind : (bits more after marks : List Bool) → length marks ≤ length bits → after ≡ bits ++ more
    → marked (length bits) marks ++ replicate (length more) false ≡ marked (length after) marks
marks_behind bits more after marks short is =
    marked_more marks (length bits) (length more) short
    ∙ ap (λ (n : ℕ). marked n marks) (sym (ap length is ∙ length-append bits more))

-- Bits that are laid.

module _ (piece after_piece : ℕ) (bits more after marks : List Bool) (known : Environment) (numbers : List LateNumber)
    (counted : after_piece ≡ one_more piece) (is : after ≡ bits ++ more) (short : length marks ≤ length bits) (count : ℕ) (size : length more ≡ count)
    (fits : length bits + count ≤ most_bits) where
  abbrev pub before : Draft
  before = record { piece = piece; bits = bits; late = marked (length bits) marks; known = known; numbers = numbers }

  pub put_draft : with_bits before more ≡ Ok (record { piece = after_piece; bits = after; late = marked (length after) marks; known = known; numbers = numbers })
  put_draft =
      room_in before (length more) (grown (Zeros 0) before more false []) (subst (λ (n : ℕ). length bits + n ≤ most_bits) (sym size) fits)
      ∙ (λ i. Ok (record {
        piece = sym counted i;
        bits = sym is i;
        late = marks_behind bits more after marks short is i;
        known = known;
        numbers = append-nil numbers i;
      }))

pub few_after : (bits more after : List Bool) (count : ℕ) → length more ≡ count → length bits + count ≤ most_bits → after ≡ bits ++ more → length after ≤ most_bits
few_after bits more after count size fits is =
    subst (λ n. n ≤ most_bits) (sym (ap length is ∙ length-append bits more ∙ ap (λ n. length bits + n) size)) fits

pub marks_after : (bits more after marks : List Bool) → length marks ≤ length bits → after ≡ bits ++ more → length marks ≤ length after
marks_after bits more after marks short is =
    let sum : length after ≡ length bits + length more = ap length is ∙ length-append bits more in omega (arith, sum, short)

pub pieces_after : (piece after : ℕ) → after ≡ one_more piece → piece ≤ most_kept → after ≤ most_kept
pieces_after piece after is most = subst (λ n. n ≤ most_kept) (sym is) (by (nat_lt piece most_kept) refl)
  where
    by : (test : Bool) → nat_lt piece most_kept ≡ test → (if nat_lt piece most_kept then piece + 1 else piece) ≤ most_kept
    by true less = subst (λ (t : Bool). (if t then piece + 1 else piece) ≤ most_kept) (sym less) (let so = ltb-true piece most_kept less in omega (arith, so))
    by false less = subst (λ (t : Bool). (if t then piece + 1 else piece) ≤ most_kept) (sym less) most

-- Late numbers.

module _ (marks middle after bits after_bits : List Bool) (width : ℕ) (short : length marks ≤ length bits) (zero_marks : middle ≡ marks ++ zeros (length bits - length marks))
    (ones : after ≡ middle ++ replicate width true) (is : after_bits ≡ bits ++ zeros width) where
  long_marks : length after ≡ length bits + width
  long_marks =
      ap length ones ∙ length-append middle (replicate width true)
      ∙ (let ones_long : length (replicate width true) ≡ width = length-replicate width true in
      let middle_long : length middle ≡ length marks + (length bits - length marks) =
      ap length zero_marks ∙ length-append marks (zeros (length bits - length marks)) ∙ ap (λ (n : ℕ). length marks + n) (length-replicate (length bits - length marks) false) in
      omega (arith, ones_long, middle_long, short))

  long_bits : length after_bits ≡ length bits + width
  long_bits = ap length is ∙ length-append bits (zeros width) ∙ ap (λ (n : ℕ). length bits + n) (length-replicate width false)

  pub late_marks : marked (length bits) marks ++ replicate (length (zeros width)) true ≡ marked (length after_bits) after
  late_marks =
      ap (λ (n : ℕ). marked (length bits) marks ++ replicate n true) (length-replicate width false)
      ∙ ap (λ (front : List Bool). front ++ replicate width true) (sym zero_marks)
      ∙ sym ones
      ∙ sym (append-nil after)
      ∙ ap (λ (n : ℕ). after ++ replicate n false) (let one = long_marks in let other = long_bits in let e : 0 ≡ length after_bits - length after = omega (arith, one, other) in e)

  pub late_short : length after ≤ length after_bits
  late_short = let one = long_marks in let other = long_bits in omega (arith, one, other)

-- a width, however it is cast
pub width_is : (w : Width) (width : ℤ) → IsWidth width → of_z w width ≡ nat_abs width
width_is w (pos n) may = refl
width_is w (negsuc n) may = absurd (let low = may.0 in omega (arith, ints, low))

module _ (piece after_piece : ℕ) (bits marks middle after_marks after_bits : List Bool) (known : Environment) (numbers after_numbers : List LateNumber) (form : NumForm) (width : ℤ) (term : Term)
    (before one other : ℕ) (counted : after_piece ≡ one_more piece) (short : length marks ≤ length bits) (zero_marks : middle ≡ marks ++ zeros before) (same : before ≡ length bits - length marks)
    (ones : after_marks ≡ middle ++ replicate one true) (one_is : one ≡ nat_abs width) (is : after_bits ≡ bits ++ zeros other) (other_is : other ≡ nat_abs width)
    (fits : length bits + nat_abs width ≤ most_bits) where
  abbrev pub late_before : Draft
  late_before = record { piece = piece; bits = bits; late = marked (length bits) marks; known = known; numbers = numbers }

  all_bits : after_bits ≡ bits ++ zeros (nat_abs width)
  all_bits = is ∙ ap (λ (n : ℕ). bits ++ zeros n) other_is

  pub late_draft : after_numbers ≡ numbers ++ late_at late_before form width term ∷ []
      → with_late late_before form width term ≡ Ok (record { piece = after_piece; bits = after_bits; late = marked (length after_bits) after_marks; known = known; numbers = after_numbers })
  late_draft added =
      room_in late_before (nat_abs width) (grown (Zeros 0) late_before (zeros (nat_abs width)) true (late_at late_before form width term ∷ [])) fits
      ∙ (λ i. Ok (record {
        piece = sym counted i;
        bits = sym all_bits i;
        late = late_marks marks middle after_marks bits after_bits (nat_abs width) short (zero_marks ∙ ap (λ (n : ℕ). marks ++ zeros n) same)
            (ones ∙ ap (λ (n : ℕ). middle ++ replicate n true) one_is) all_bits i;
        known = known;
        numbers = sym added i;
      }))
