-- Where a late number is refused: the row as a list of its pieces, of which it is the first without a value.
use Rattle.std.proofs.Common.{◌≡◌, ℕ, zero, suc, ◌+◌, ◌≤◌, ℤ, Bool, true, false, List, [], ◌∷◌, ◌++◌, length, take, drop, replicate, None, Option, Some, Result, Ok, Err, refl, ap, sym, subst, ◌∙◌, arith}
use Rattle.std.specs.Prelude.{nat_abs}
use Rattle.std.proofs.lemmas.List.{append-nil, length-append, take_all}
use Rattle.rz_core.specs.Lists.{unless_fault}
use Rattle.rz_core.specs.Stop.{◌>>=◌}
use Rattle.rz_core.specs.declared.facts.Facts.{Facts}
use Rattle.rz_bits.specs.Bits.{number_bits}
use Rattle.rz_expr.specs.Environment.{place_in, Environment}
use Rattle.rz_expr.specs.Term.{Term}
use Rattle.rz_expr.specs.Value.{value_of}
use Rattle.rz_expr.specs.declared.value.EvalFault.{EvalFault}
use Rattle.rz_layout.proofs.Adding.{adds_marks, FitsAll, IsAny}
use Rattle.rz_layout.proofs.Counts.{AreApart}
use Rattle.rz_layout.proofs.Filled.{fill_came, late_value, same_ok, Each, Filled}
use Rattle.rz_layout.proofs.Masks.{length-marks, masked}
use Rattle.rz_layout.proofs.Tracks.{room_of, Holds, Tracks}
use Rattle.rz_laws.proofs.Chains.{Chain}
use Rattle.rz_laws.proofs.Drafting.{row_drafted}
use Rattle.rz_laws.proofs.Goes.{counted, counted_all, run_ends, run_parts, run_there, tally_found, Found, Goes, IsOf, Leaves, Run, Tally}
use Rattle.rz_laws.proofs.Leaving.{no_end, LaysOut}
use Rattle.rz_laws.proofs.Lying.{body_lays, row_lays}
use Rattle.rz_laws.proofs.Standing.{stands_after}
use Rattle.rz_laws.proofs.Stands.{InRows}
use Rattle.rz_laws.specs.Flat.{alone, flat_row, nothing_drafted, Drafts, Step}
use Rattle.rz_laws.specs.Placed.{bits_in, BodyPlaced, InsidePlaced, Placed, RowPlaced, StandsAfter}
use Rattle.rz_laws.specs.RefusedAt.{IsRefusedNumber}
use Rattle.rz_laws.specs.RefusedNumber.{HasNoValue, HasPlaceAfter, IsWithoutValue}
use Rattle.rz_laws.specs.Shown.{AreShown}
use Rattle.rz_types_fields.specs.Field.{PlainBody}
use Rattle.rz_types_fields.specs.Laid.{nothing_laid, one_more, ranged, refusal, row_laid, unless, valued, Draft, LateNumber, Refusal}
use Rattle.rz_types_fields.specs.Passed.{at_front, nothing_passed, outside}
use Rattle.rz_types_fields.specs.Piece.{Piece}
use Rattle.rz_types_fields.specs.Range.{fits_number}
use Rattle.rz_types_fields.specs.Row.{IsRow}
use Rattle.rz_types_fields.specs.Sees.{sees, Late}
use Rattle.rz_types_fields.specs.Spells.{anyhow, is_late_piece, is_late_size, most_bits, IsNumber, IsStored}
use Rattle.rz_types_fields.specs.Stored.{stored_number}
use Rattle.rz_types_fields.specs.declared.tree.Tree.{Tree}

module _ (known : Facts) (all : List Bool) where
  -- Each piece of a run has its place after those before it.

  abbrev IsThere : Placed → ℕ → Late → Type 0
  IsThere one at late =
      (one.late ≡ is_late_piece one.passed.met late one.piece (sees known all one.names at))
      × (is_late_size one.passed.met late one.piece (sees known all one.names at) ≡ false)
      × (one.late ≡ false → IsStored one.piece known at (sees known all one.names at) one.value one.bits)

  places_after : (pieces : List Placed) (end : ℕ) (late : Late) → Run known all pieces 0 [] end late
      → (front : List Placed) (one : Placed) (back : List Placed) → pieces ≡ front ++ one ∷ back → HasPlaceAfter known all front one
  places_after pieces end late run front one back are =
      let parts = run_parts known all front (one ∷ back) 0 [] end late (subst (λ (ps : List Placed). Run known all ps 0 [] end late) are run) in
      let ends = run_ends known all front 0 [] parts.0 parts.1 parts.2 in
      let goes = parts.3.2 in
      let far = ends.0 in
      let place : parts.0 ≡ length (bits_in front) = omega (arith, far) in
      let it = subst (IsThere one one.at) ends.1 (subst (λ (k : ℕ). IsThere one k parts.1) (sym goes.begins) (goes.late_is, goes.early, goes.stored)) in
      record { at = goes.begins ∙ place; late = it.0; early = it.1; stored = it.2; wide = goes.wide }

  -- Where the late numbers of a run hold, its pieces are spelled.

  late_stored : (one : Placed) (count : ℕ) (number : LateNumber) → IsOf outside count number one → Holds known all outside number → (at : ℕ) (late : Late) (after : ℕ) (late_after : Late)
      → Goes known all one at late after late_after → IsStored one.piece known at (sees known all one.names at) one.value one.bits
  late_stored one count number is holds at late after late_after goes =
      let v = late_value known outside number all holds.bits holds.value in
      let at_is : number.at ≡ at = is.at ∙ goes.begins in
      let size : length one.bits ≡ length holds.bits = goes.wide is.number is.is ∙ ap nat_abs (sym is.width) ∙ sym holds.width in
      let bits_are : holds.bits ≡ one.bits =
      sym holds.there ∙ ap (λ (k : ℕ). take (length holds.bits) (drop k all)) at_is ∙ ap (λ (n : ℕ). take n (drop at all)) (sym size) ∙ goes.there in
      let value : value_of number.term (sees known all one.names at) ≡ Ok v.value =
      sym (ap (λ (names : Environment). value_of number.term (sees known all names number.at)) is.finished ∙ ap (λ (k : ℕ). value_of number.term (sees known all one.names k)) at_is) ∙ v.is in
      let own : IsNumber is.number.form is.number.width (Some number.term) (sees known all one.names at) None one.bits = (
        v.value,
        refl,
        value,
        sym (λ i. fits_number (is.form i) (is.width i) v.value) ∙ v.fits,
        sym bits_are ∙ sym v.bits_are ∙ ap (λ (w : ℤ). number_bits (nat_abs w) (stored_number (nat_abs w) v.value)) is.width,
      )
      in
      subst (λ (p : Piece). IsStored p known at (sees known all one.names at) one.value one.bits) (sym is.is)
      (subst (λ (fixed : Option Term). IsNumber is.number.form is.number.width fixed (sees known all one.names at) one.value one.bits) (sym is.fixed)
      (subst (λ (o : Option Tree). IsNumber is.number.form is.number.width (Some number.term) (sees known all one.names at) o one.bits) (sym is.empty) own))

  abbrev Hold : List LateNumber → Type 0
  Hold numbers = Each (Holds known all outside) numbers

  piece_stored : (one : Placed) (count : ℕ) (numbers rest : List LateNumber) (at : ℕ) (late : Late) (after : ℕ) (late_after : Late) → Goes known all one at late after late_after → Hold numbers
      → (test : Bool) → one.late ≡ test → Leaves test outside count one numbers rest → IsStored one.piece known at (sees known all one.names at) one.value one.bits × Hold rest
  piece_stored one count numbers rest at late after late_after goes holds false so are = (goes.stored so, subst Hold are holds)
  piece_stored one count numbers rest at late after late_after goes holds true so (number, are, is) =
      let each = subst Hold are holds in (late_stored one count number is each.0 at late after late_after goes, each.1)

  holds_chain : (pieces : List Placed) (count : ℕ) (numbers : List LateNumber) → Tally outside count pieces numbers → Hold numbers → (at : ℕ) (late : Late) (after : ℕ) (late_after : Late)
      → Run known all pieces at late after late_after → Chain anyhow known all pieces at late after late_after
  holds_chain [] count numbers tally holds at late after late_after run = run
  holds_chain (one ∷ others) count numbers (rest, leaves, tally) holds at late after late_after (mid, late_mid, goes, run) =
      let it = piece_stored one count numbers rest at late mid late_mid goes holds one.late refl leaves in (
        mid,
        late_mid,
        record { begins = goes.begins; is = (it.0, tt, goes.late_is, goes.early); there = goes.there; ends = goes.ends; short = goes.short; marked = goes.marked },
        holds_chain others (one_more count) rest tally it.1 mid late_mid after late_after run,
      )

-- A number that is refused has no value in range.

unranged : (found : Result ℤ EvalFault) (one : LateNumber) (fault : Refusal) → (valued one.piece found >>= λ value. ranged one.piece one.form one.width value) ≡ Err fault
    → (value : ℤ) → found ≡ Ok value → fits_number one.form one.width value ≡ false
unranged found one fault is value so = by (fits_number one.form one.width value) refl
  where
    own : List Bool
    own = number_bits (nat_abs one.width) (stored_number (nat_abs one.width) value)

    refused : unless_fault (unless (fits_number one.form one.width value) (refusal 207 one.piece value)) own ≡ Err fault
    refused = sym (ap (λ (r : Result ℤ EvalFault). valued one.piece r >>= λ value. ranged one.piece one.form one.width value) so) ∙ is

    by : (test : Bool) → fits_number one.form one.width value ≡ test → fits_number one.form one.width value ≡ false
    by false none = none
    by true fits = absurd (differ (sym (ap (λ (test : Bool). unless_fault (unless test (refusal 207 one.piece value)) own) fits) ∙ refused))
      where
        differ : ◌≡◌ {A = Result (List Bool) Refusal} (Ok own) (Err fault) → ⊥
        differ is = cc

-- Bits that are zero where one of two marks says it, and where both do.

abbrev Below : Late → Late → Type 0
Below own marks = (bits : List Bool) → masked marks (masked own bits) ≡ masked marks bits

masked_false : (count : ℕ) (bits : List Bool) → masked (replicate count false) bits ≡ bits
masked_false zero bits = refl
masked_false (suc count) [] = refl
masked_false (suc count) (bit ∷ bits) = ap (λ (rest : List Bool). bit ∷ rest) (masked_false count bits)

below_behind : (count : ℕ) (mark : Bool) (own marks : Late) → Below own marks → Below (replicate count mark ++ own) (replicate count mark ++ marks)
below_behind zero mark own marks below bits = below bits
below_behind (suc count) mark own marks below [] = refl
below_behind (suc count) true own marks below (bit ∷ bits) = ap (λ (rest : List Bool). false ∷ rest) (below_behind count true own marks below bits)
below_behind (suc count) false own marks below (bit ∷ bits) = ap (λ (rest : List Bool). bit ∷ rest) (below_behind count false own marks below bits)

-- the marks of numbers before others
record Before (from : ℕ) (numbers : List LateNumber) (marks : Late) : Type 0 where
  own : Late
  len : length own ≡ length marks
  tracks : Tracks IsAny from numbers own
  below : Below own marks

tracks_before : (numbers others : List LateNumber) (from : ℕ) (marks : Late) → Tracks IsAny from (numbers ++ others) marks → Before from numbers marks
tracks_before [] others from marks t = record {
  own = replicate (length marks) false;
  len = length-marks (length marks) false;
  tracks = ap (λ (n : ℕ). replicate n false) (sym (length-marks (length marks) false));
  below = λ bits. ap (masked marks) (masked_false (length marks) bits);
}
tracks_before (one ∷ numbers) others from marks t =
    let more = tracks_before numbers others (one.at + room_of one) t.1 t.5 in
    record {
      own = replicate t.0 false ++ (replicate (room_of one) true ++ more.own);
      len =
          length-append (replicate t.0 false) (replicate (room_of one) true ++ more.own)
          ∙ ap (λ (n : ℕ). length (replicate t.0 false) + n) (length-append (replicate (room_of one) true) more.own ∙ ap (λ (n : ℕ). length (replicate (room_of one) true) + n) more.len ∙ sym (length-append (replicate (room_of one) true) t.1))
          ∙ sym (length-append (replicate t.0 false) (replicate (room_of one) true ++ t.1))
          ∙ ap length (sym t.3);
      tracks = (t.0, more.own, t.2, refl, t.4, more.tracks);
      below = subst (Below (replicate t.0 false ++ (replicate (room_of one) true ++ more.own))) (sym t.3)
          (below_behind t.0 false (replicate (room_of one) true ++ more.own) (replicate (room_of one) true ++ t.1) (below_behind (room_of one) true more.own t.1 more.below));
    }

nothing_in_rows : InRows outside
nothing_in_rows label number value is = absurd cc

alone_ok : (found : Result Draft Refusal) (drafts : Drafts) → alone found ≡ Ok drafts → found ≡ Ok drafts.inner
alone_ok (Err fault) drafts is = absurd cc
alone_ok (Ok draft) drafts is = ap (λ (d : Drafts). Ok d.inner) (same_ok (record { inner = draft; around = []; ends = [] }) drafts is)

module _ (known : Facts) (body : PlainBody) (apart : AreApart body) (row : List Tree) (is_row : IsRow body row) (fault : Refusal) (it : IsRefusedNumber known body row fault) where
  no_value : (one : Placed) (count : ℕ) → IsOf outside count it.one one → HasNoValue known it.bits one
  no_value one count is = record {
    number = is.number;
    term = it.one.term;
    is = is.is;
    fixed = is.fixed;
    empty = is.empty;
    none = λ value so. sym (λ i. fits_number (is.form i) (is.width i) value)
        ∙ unranged (value_of it.one.term (sees known it.bits (it.one.names outside) it.one.at)) it.one fault it.refused value
        (ap (λ (names : Environment). value_of it.one.term (sees known it.bits names it.one.at)) is.finished ∙ ap (λ (k : ℕ). value_of it.one.term (sees known it.bits one.names k)) is.at ∙ so);
  }

  -- The pieces that are laid, where all bits are those of the row with the late numbers before the refused one in their places.
  module _ (end : ℕ) (marks : Late) (far : length it.bits ≡ end) (fits : end ≤ most_bits) (pieces : List Placed) (of_row : RowPlaced body row pieces) (run : Run known it.bits pieces 0 [] end marks)
      (tally : Tally outside 0 pieces (it.before ++ it.one ∷ it.others)) (holds : Each (Holds known it.bits outside) it.before) (seen : AreShown known it.bits nothing_drafted (flat_row body row) pieces) where
    found : Found outside 0 pieces it.before it.one
    found = tally_found outside it.one it.others 0 pieces it.before tally

    long : end ≡ length (bits_in pieces)
    long = let is = (run_ends known it.bits pieces 0 [] end marks run).0 in omega (arith, is)

    same : it.bits ≡ bits_in pieces
    same = sym (take_all (length (bits_in pieces)) it.bits (omega (arith, far, long))) ∙ run_there known it.bits pieces 0 [] end marks run

    stands : (front : List Placed) (one : Placed) (back : List Placed) → found.front ≡ front ++ one ∷ back → StandsAfter anyhow known it.bits front one
    stands front one back are =
        let parts = run_parts known it.bits found.front (found.one ∷ found.back) 0 [] end marks (subst (λ (ps : List Placed). Run known it.bits ps 0 [] end marks) found.are run) in
        stands_after anyhow known it.bits found.front parts.0 parts.1 (holds_chain known it.bits found.front 0 it.before found.tally holds 0 [] parts.0 parts.1 parts.2) front one back are

    in_places : IsWithoutValue known body row fault
    in_places = record {
      pieces = pieces;
      of_row = of_row;
      places = λ front one back are. subst (λ (a : List Bool). HasPlaceAfter known a front one) same (places_after known it.bits pieces end marks run front one back are);
      shown = subst (λ (a : List Bool). AreShown known a nothing_drafted (flat_row body row) pieces) same seen;
      short = subst (λ (n : ℕ). n ≤ most_bits) long fits;
      before = found.front;
      one = found.one;
      others = found.back;
      are = found.are;
      stand = λ front one back are. subst (λ (a : List Bool). StandsAfter anyhow known a front one) same (stands front one back are);
      late = found.is_late;
      none = subst (λ (a : List Bool). HasNoValue known a found.one) same (no_value found.one (counted 0 found.front) found.is);
      at = it.at ∙ found.is.before ∙ counted_all found.front;
    }

  abbrev draft : Draft
  draft = it.drafts.inner

  -- What is laid fits these bits.
  module _ (lay : LaysOut known (λ key. false) nothing_passed.met (λ names. Unit {0}) nothing_laid draft (flat_row body row) no_end
      (λ names. InsidePlaced body None names (λ own. BodyPlaced body own (at_front body nothing_passed) row))) where
    size : length draft.late ≡ length draft.bits
    size = adds_marks (λ key. false) nothing_laid draft lay.adds refl

    tracks : Tracks IsAny 0 (it.before ++ it.one ∷ it.others) draft.late
    tracks =
        subst (λ (n : List LateNumber). Tracks IsAny 0 n draft.late) (sym lay.adds.numbers_are ∙ it.numbers)
        (subst (Tracks IsAny 0 lay.adds.numbers) (sym lay.adds.marks_are) lay.adds.tracks)

    zeros : draft.bits ≡ masked draft.late draft.bits
    zeros = lay.adds.bits_are ∙ lay.adds.is_zero ∙ (λ i. masked (sym lay.adds.marks_are i) (sym lay.adds.bits_are i))

    module _ (marks : Before 0 it.before draft.late) (came : Filled known outside it.before marks.own [] draft.bits it.bits []) where
      far : length it.bits ≡ length draft.bits
      far = ap length came.all_is ∙ came.len

      kept : draft.bits ≡ masked draft.late (take (length draft.bits) it.bits)
      kept =
          sym (ap (masked draft.late) came.all_is ∙ sym (marks.below came.rest) ∙ ap (masked draft.late) came.same ∙ marks.below draft.bits ∙ sym zeros)
          ∙ ap (masked draft.late) (sym (take_all (length draft.bits) it.bits (omega (arith, far))))

      fits : FitsAll known it.bits outside nothing_passed.met draft
      fits = record {
        bits = kept;
        len = refl;
        late_is = refl;
        marks = size;
        within = omega (arith, far);
        names_are = record { names = λ key single early. lay.adds.names_are key refl; places = λ label rows number was has inside. lay.adds.names_are (place_in label number) refl };
      }

      from_laid : IsWithoutValue known body row fault
      from_laid =
          let found = lay.lists it.bits outside fits tt in
          in_places (length draft.bits) draft.late far lay.adds.short found.pieces found.are found.run (subst (Tally outside 0 found.pieces) (sym lay.numbers_are ∙ it.numbers) found.tally)
          (subst (λ (a : List Bool). Each (Holds known a outside) it.before) (append-nil it.bits) came.holds)
          (subst (λ (ss : List Step). AreShown known it.bits nothing_drafted ss found.pieces) (append-nil (flat_row body row))
          (subst (AreShown known it.bits nothing_drafted (flat_row body row ++ [])) (append-nil found.pieces)
          (found.shown nothing_in_rows [] [] [] [] refl)))

    filled_up : IsWithoutValue known body row fault
    filled_up =
        let marks = tracks_before it.before (it.one ∷ it.others) 0 draft.late tracks in
        from_laid marks (fill_came known IsAny it.bits [] outside it.before marks.own [] draft.bits 0 refl (marks.len ∙ size) marks.tracks it.filled)

  pub without_value : IsWithoutValue known body row fault
  without_value =
      filled_up (row_lays known body apart (body_lays known body apart) nothing_passed row is_row nothing_laid draft refl (omega (arith)) (λ in_rows name. refl)
      (alone_ok (row_laid known None body nothing_laid row) it.drafts (sym (row_drafted known body row) ∙ it.drafted)))
