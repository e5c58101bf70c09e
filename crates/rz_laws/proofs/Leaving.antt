-- Which pieces are left for later as a row is laid, and the places of both kinds.
use Rattle.std.proofs.Common.{◌≡◌, ℕ, ◌+◌, ◌≤◌, ℤ, Bool, true, false, ◌||◌, not, List, [], ◌∷◌, ◌++◌, length, take, drop, replicate, Option, Some, None, Result, Ok, Err, refl, sym, ap, subst, ◌∙◌, arith}
use Rattle.std.specs.Prelude.{if◌then◌else◌, nat_abs}
use Rattle.std.specs.Result.{is_ok}
use Rattle.std.proofs.lemmas.List.{length-append, length-drop, length-take-le}
use Rattle.rz_core.proofs.Tests.{true_false}
use Rattle.rz_core.specs.Stop.{◌>>=◌}
use Rattle.rz_core.specs.declared.facts.Facts.{Facts}
use Rattle.rz_bits.specs.BitBuf.{zeros}
use Rattle.rz_expr.specs.Environment.{Environment, Key, Sight}
use Rattle.rz_expr.specs.Term.{Term}
use Rattle.rz_expr.specs.Value.{value_of}
use Rattle.rz_expr.specs.declared.value.EvalFault.{EvalFault}
use Rattle.rz_layout.proofs.Adding.{adds_later, back, later_is, now_is, Adds, Came, FitsAll}
use Rattle.rz_layout.proofs.Coming.{piece_came, still_piece, Fresh, PieceIs}
use Rattle.rz_layout.proofs.Complete.{is_place}
use Rattle.rz_layout.proofs.Fed.{NumberValue, PieceValue}
use Rattle.rz_layout.proofs.Filled.{chained, length_number, same_ok, Each}
use Rattle.rz_layout.proofs.Fitting.{first_seen, met_piece, piece_is}
use Rattle.rz_layout.proofs.Labels.{names_known, MetKnown}
use Rattle.rz_layout.proofs.Masks.{length-marks}
use Rattle.rz_layout.proofs.Tracks.{Holds}
use Rattle.rz_laws.proofs.Drafting.{with_around}
use Rattle.rz_laws.proofs.Goes.{counted, Run, Tally}
use Rattle.rz_laws.proofs.Stands.{lay_known, placed_in_rows, seen_so, InRows}
use Rattle.rz_laws.specs.Flat.{within_bodies, Lays, Step}
use Rattle.rz_laws.specs.Placed.{ArePieces, OnePlaced, Placed}
use Rattle.rz_laws.specs.Shown.{AreShown}
use Rattle.rz_types_fields.specs.Field.{PlainNumber}
use Rattle.rz_types_fields.specs.Laid.{draft_sight, fixed_form, grown, late_at, later, lay, met_in, now, number_form, piece_form, ranged, reads_late, text_laid, value_refusal, with_form, Draft, Form, LateNumber, Refusal}
use Rattle.rz_types_fields.specs.Passed.{Names, Passed}
use Rattle.rz_types_fields.specs.Piece.{Filler, OneNumber, OneText, Piece, Place, Zeros}
use Rattle.rz_types_fields.specs.Sees.{beside, is_late, names_later, sees}
use Rattle.rz_types_fields.specs.Spells.{anyhow, is_late_piece, is_late_size, is_late_value, IsNumber, IsStored, most_bits, PieceSpells}
use Rattle.rz_types_fields.specs.Stored.{stored_number}
use Rattle.rz_types_fields.specs.declared.field.NumForm.{NumForm}
use Rattle.rz_types_fields.specs.declared.tree.Tree.{Tree}

-- Which pieces are left.

module _ (known : Facts) (all : List Bool) (names : Environment) (passed : Passed) (draft : Draft) (fits : FitsAll known all names passed.met draft) (met_known : MetKnown passed.met draft.known) where
  abbrev sight : Sight
  sight = sees known all names (length draft.bits)

  abbrev IsKind : NumForm → ℤ → Term → Form → Type 0
  IsKind form width term (now bits) = is_late passed.met draft.late term sight ≡ false
  IsKind form width term (later f w t) = (is_late passed.met draft.late term sight ≡ true) × (f ≡ form) × (w ≡ width) × (t ≡ term)

  late_by : (term : Term) (test : Bool) → names_later passed.met term ≡ test → is_late passed.met draft.late term sight ≡ (test || not (is_ok (value_of term (beside draft.late sight))))
  late_by term test is = ap (λ (c : Bool). c || not (is_ok (value_of term (beside draft.late sight)))) is

  by_value : (term : Term) → names_later passed.met term ≡ false → (seen : Result ℤ EvalFault) → value_of term (draft_sight known draft) ≡ seen → is_late passed.met draft.late term sight ≡ not (is_ok seen)
  by_value term none seen is =
      late_by term false none
      ∙ ap (λ (r : Result ℤ EvalFault). not (is_ok r)) (sym (first_seen known all names passed.met (length draft.bits) draft.late draft fits term none) ∙ is)

  kind_of : (form : NumForm) (width : ℤ) (term : Term) (found : Form) → (test : Bool) → names_later passed.met term ≡ test → (seen : Result ℤ EvalFault) → value_of term (draft_sight known draft) ≡ seen
      → (if test then Ok (later form width term) else fixed_form draft form width term seen) ≡ Ok found → IsKind form width term found
  kind_of form width term found true so seen is laid = subst (IsKind form width term) (same_ok (later form width term) found laid) (late_by term true so, refl, refl, refl)
  kind_of form width term found false so (Ok v) is laid =
      let inner = chained (ranged draft.piece form width v) (λ bits. Ok (now bits)) found laid in
      subst (IsKind form width term) (same_ok (now inner.value) found inner.leads) (by_value term so (Ok v) is)
  kind_of form width term found false so (Err fault) is laid = by (reads_late (length draft.bits) fault) laid
    where
      by : (test : Bool) → (if test then Ok (later form width term) else Err (value_refusal draft.piece fault)) ≡ Ok found → IsKind form width term found
      by true laid = subst (IsKind form width term) (same_ok (later form width term) found laid) (by_value term so (Err fault) is, refl, refl, refl)
      by false laid = absurd cc

  -- a number that is left
  pub record IsLeft (piece : Piece) (value : Option Tree) (form : NumForm) (width : ℤ) (term : Term) : Type 0 where
    pub number : PlainNumber
    pub is : piece ≡ OneNumber number
    pub fixed : number.fixed ≡ Some term
    pub has_form : form ≡ number.form
    pub has_width : width ≡ number.width
    pub empty : value ≡ None
    pub late : is_late_piece passed.met draft.late piece sight ≡ true

  abbrev IsPieceKind : Piece → Option Tree → Form → Type 0
  IsPieceKind piece value (now bits) = is_late_piece passed.met draft.late piece sight ≡ false
  IsPieceKind piece value (later form width term) = IsLeft piece value form width term

  now_kind : (piece : Piece) (value : Option Tree) → is_late_piece passed.met draft.late piece sight ≡ false → (bits : List Bool) (found : Form) → ◌≡◌ {A = Result Form Refusal} (Ok (now bits)) (Ok found) → IsPieceKind piece value found
  now_kind piece value none bits found is = subst (IsPieceKind piece value) (same_ok (now bits) found is) none

  late_as : (number : PlainNumber) (fixed : Option Term) → number.fixed ≡ fixed → is_late_piece passed.met draft.late (OneNumber number) sight ≡ is_late_value passed.met draft.late fixed sight
  late_as number fixed is = ap (λ (o : Option Term). is_late_value passed.met draft.late o sight) is

  number_kind : (number : PlainNumber) (fixed : Option Term) → number.fixed ≡ fixed → (value : Option Tree) → NumberValue number.width fixed value → (found : Form) → number_form known draft number.form number.width fixed value ≡ Ok found
      → IsPieceKind (OneNumber number) value found
  number_kind number None free value has found laid = now_kind (OneNumber number) value (late_as number None free) _ found laid
  number_kind number (Some term) fixed value has found laid =
      by found (kind_of number.form number.width term found (names_later (met_in draft.known) term) (sym (names_known passed.met draft.known met_known term)) (value_of term (draft_sight known draft)) refl laid)
    where
      by : (found : Form) → IsKind number.form number.width term found → IsPieceKind (OneNumber number) value found
      by (now bits) is = late_as number (Some term) fixed ∙ is
      by (later f w t) is = record {
        number = number;
        is = refl;
        fixed = fixed ∙ ap (λ (t : Term). Some t) (sym is.3);
        has_form = is.1;
        has_width = is.2;
        empty = has;
        late = late_as number (Some term) fixed ∙ is.0;
      }

  pub piece_kind : (piece : Piece) (value : Option Tree) → PieceValue piece value → (found : Form) → piece_form known draft piece value ≡ Ok found → IsPieceKind piece value found
  piece_kind (OneNumber number) value has found laid = number_kind number number.fixed refl value has found laid
  piece_kind (OneText text) value has found laid =
      let inner = chained (text_laid known draft text value) (λ bits. Ok (now bits)) found laid in now_kind (OneText text) value refl inner.value found inner.leads
  piece_kind (Zeros count) value has found laid = now_kind (Zeros count) value refl _ found laid
  piece_kind (Filler unit) value has found laid = now_kind (Filler unit) value refl _ found laid
  piece_kind (Place name) value has found laid = now_kind (Place name) value refl _ found laid

-- Their places.

-- what names have at the ends of rows, after steps
abbrev pub Ending : Type 0
Ending = List (List Environment) → List (List Environment)

abbrev pub no_end : Ending
no_end ends = ends

-- what steps lay: what they add to the draft, and their pieces, where all bits fit the draft after them and their arrays are counted
pub record Drafted (known : Facts) (draft next : Draft) (steps : List Step) (ending : Ending) (numbers : List LateNumber) (all : List Bool) (names : Environment) (Are : ArePieces) : Type 0 where
  pub pieces : List Placed
  pub are : Are pieces
  pub run : Run known all pieces (length draft.bits) draft.late (length next.bits) next.late
  pub count : next.piece ≡ counted draft.piece pieces
  pub tally : Tally names draft.piece pieces numbers
  pub shown : InRows draft.known → (around : List Draft) (ends : List (List Environment)) (more : List Step) (others : List Placed)
      → AreShown known all (with_around around (ending ends) next) more others → AreShown known all (with_around around ends draft) (steps ++ more) (pieces ++ others)

pub record LaysOut (known : Facts) (labels : Key → Bool) (met : Names) (Counted : Environment → Type 0) (draft next : Draft) (steps : List Step) (ending : Ending) (Are : Environment → ArePieces) : Type 0 where
  pub adds : Adds labels draft next
  pub numbers : List LateNumber
  pub numbers_are : next.numbers ≡ draft.numbers ++ numbers
  pub in_rows : InRows draft.known → InRows next.known
  pub lists : (all : List Bool) (names : Environment) → FitsAll known all names met next → Counted names → Drafted known draft next steps ending numbers all names (Are names)

none_after : (front more : List LateNumber) → front ++ [] ≡ front ++ more → more ≡ []
none_after front [] is = refl
none_after front (one ∷ more) is =
    let a = ap length is in
    let b = length-append front [] in
    let c = length-append front (one ∷ more) in
    absurd (omega (arith, a, b, c))

number_wide : (form : NumForm) (width : ℤ) (fixed : Option Term) (seen : Sight) (value : Option Tree) (bits : List Bool) → IsNumber form width fixed seen value bits → length bits ≡ nat_abs width
number_wide form width None seen value bits (n, is, small, are) = ap length are ∙ length_number (nat_abs width) n
number_wide form width (Some term) seen value bits (v, none, is, fits, are) = ap length are ∙ length_number (nat_abs width) (stored_number (nat_abs width) v)

wide_of : (known : Facts) (piece : Piece) (at : ℕ) (seen : Sight) (value : Option Tree) (bits : List Bool) → IsStored piece known at seen value bits → (number : PlainNumber) → piece ≡ OneNumber number → length bits ≡ nat_abs number.width
wide_of known piece at seen value bits stored number is =
    number_wide number.form number.width number.fixed seen value bits (subst (λ (p : Piece). IsStored p known at seen value bits) is stored)

same_number : (one other : PlainNumber) → OneNumber one ≡ OneNumber other → one ≡ other
same_number one other is = cc is

module _ (known : Facts) where
  abbrev NoCount : Environment → Type 0
  NoCount names = Unit {0}

  module _ (passed : Passed) (piece : Piece) (value : Option Tree) (has : PieceValue piece value) (draft : Draft) (fresh : Fresh (piece_is piece) passed.met) (marks : length draft.late ≡ length draft.bits)
      (met_known : MetKnown passed.met draft.known) where
    abbrev Comes : Draft → Type 0
    Comes next = LaysOut known (piece_is piece) (met_piece piece passed.met) NoCount draft next (Lays piece value ∷ []) no_end (λ names. OnePlaced names passed piece value)

    lets_in : (next : Draft) → lay known draft piece value ≡ Ok next → InRows draft.known → InRows next.known
    lets_in next laid rows = subst InRows (sym (lay_known known draft piece value next laid)) (placed_in_rows piece (length draft.bits) draft.known rows)

    shows : (all : List Bool) (names : Environment) (bits : List Bool) (late : Bool) → FitsAll known all names passed.met draft → (next : Draft) → lay known draft piece value ≡ Ok next
        → InRows draft.known → (around : List Draft) (ends : List (List Environment)) (more : List Step) (others : List Placed) → AreShown known all (with_around around ends next) more others
        → AreShown known all (with_around around ends draft) (Lays piece value ∷ more)
        (record { piece = piece; value = value; names = names; passed = passed; at = length draft.bits; bits = bits; late = late } ∷ others)
    shows all names bits late fits next laid rows around ends more others shown = (
      others,
      (
        record { piece = piece; value = value; names = names; passed = passed; at = length draft.bits; bits = bits; late = late },
        refl,
        refl,
        refl,
        seen_so known all names passed.met (length draft.bits) draft.late draft (record { fits = fits; met_known = met_known; in_rows = rows }),
      ),
      with_around around ends next,
      ap (λ (r : Result Draft Refusal). r >>= λ next. Ok (within_bodies (with_around around ends draft) next)) laid,
      shown,
    )

    before : (all : List Bool) (names : Environment) (next : Draft) → Adds (piece_is piece) draft next → FitsAll known all names (met_piece piece passed.met) next → FitsAll known all names passed.met draft
    before all names next adds fits = back known all names passed.met (met_piece piece passed.met) (piece_is piece) draft next adds marks fits (still_piece piece passed.met known fresh)

    now_lays : (own : List Bool) → piece_form known draft piece value ≡ Ok (now own)
        → Came known (piece_is piece) (met_piece piece passed.met) NoCount draft (grown piece draft own false []) (PieceIs known passed piece value) → lay known draft piece value ≡ Ok (grown piece draft own false [])
        → Comes (grown piece draft own false [])
    now_lays own made came laid = record {
      adds = came.adds;
      numbers = [];
      numbers_are = refl;
      in_rows = lets_in (grown piece draft own false []) laid;
      lists = λ all names fits counts.
          let kind : is_late_piece passed.met draft.late piece (sees known all names (length draft.bits)) ≡ false =
          piece_kind known all names passed draft (before all names (grown piece draft own false []) came.adds fits) met_known piece value has (now own) made in
          let it : PieceSpells anyhow known all names passed piece value (length draft.bits) draft.late (length (draft.bits ++ own)) (draft.late ++ replicate (length own) false) =
          came.spells all names fits (subst (Each (Holds known all names)) (sym (none_after draft.numbers came.adds.numbers came.adds.numbers_are)) tt) tt in
          let one : Placed = record { piece = piece; value = value; names = names; passed = passed; at = length draft.bits; bits = it.bits; late = false } in
          record {
            pieces = one ∷ [];
            are = (length draft.bits, it.bits, false, refl);
            run = (
              length (draft.bits ++ own),
              draft.late ++ replicate (length own) false,
              record {
                begins = refl;
                late_is = sym kind;
                early = it.early;
                stored = λ none. it.stored;
                wide = wide_of known piece (length draft.bits) (sees known all names (length draft.bits)) value it.bits it.stored;
                there = it.there;
                ends = it.ends;
                short = it.short;
                marked = it.marked ∙ ap (λ (test : Bool). draft.late ++ replicate (length it.bits) test) kind;
              },
              (refl, refl),
            );
            count = refl;
            tally = ([], refl, refl);
            shown = shows all names it.bits false (before all names (grown piece draft own false []) came.adds fits) (grown piece draft own false []) laid;
          };
    }

    later_lays : (form : NumForm) (width : ℤ) (term : Term) → piece_form known draft piece value ≡ Ok (later form width term) → length draft.bits + nat_abs width ≤ most_bits
        → lay known draft piece value ≡ Ok (grown piece draft (zeros (nat_abs width)) true (late_at draft form width term ∷ [])) → Comes (grown piece draft (zeros (nat_abs width)) true (late_at draft form width term ∷ []))
    later_lays form width term made room laid = record {
      adds = adds_later piece form width term draft room;
      numbers = late_at draft form width term ∷ [];
      numbers_are = refl;
      in_rows = lets_in (grown piece draft (zeros (nat_abs width)) true (late_at draft form width term ∷ [])) laid;
      lists = λ all names fits counts.
          let w = nat_abs width in
          let own = take w (drop (length draft.bits) all) in
          let here = before all names (grown piece draft (zeros w) true (late_at draft form width term ∷ [])) (adds_later piece form width term draft room) fits in
          let kind : IsLeft known all names passed draft here met_known piece value form width term = piece_kind known all names passed draft here met_known piece value has (later form width term) made in
          let zero = length-marks w false in
          let far = length-append draft.bits (zeros w) in
          let within = fits.within in
          let rest = length-drop (length draft.bits) all in
          let size : length own ≡ w = length-take-le w (drop (length draft.bits) all) (omega (arith, zero, far, within, rest)) in
          let one : Placed = record { piece = piece; value = value; names = names; passed = passed; at = length draft.bits; bits = own; late = true } in
          record {
            pieces = one ∷ [];
            are = (length draft.bits, own, true, refl);
            run = (
              length (draft.bits ++ zeros w),
              draft.late ++ replicate (length (zeros w)) true,
              record {
                begins = refl;
                late_is = sym kind.late;
                early = subst (λ (p : Piece). is_late_size passed.met draft.late p (sees known all names (length draft.bits)) ≡ false) (sym kind.is) refl;
                stored = λ none. absurd (true_false none);
                wide = λ number is. size ∙ ap nat_abs (kind.has_width ∙ ap (λ (n : PlainNumber). n.width) (same_number kind.number number (sym kind.is ∙ is)));
                there = ap (λ (k : ℕ). take k (drop (length draft.bits) all)) size;
                ends = omega (arith, far, zero, size);
                short = omega (arith, far, zero, room);
                marked = ap (λ (k : ℕ). draft.late ++ replicate k true) (zero ∙ sym size);
              },
              (refl, refl),
            );
            count = refl;
            tally = (
              [],
              (
                late_at draft form width term,
                refl,
                record { number = kind.number; is = kind.is; fixed = kind.fixed; form = kind.has_form; width = kind.has_width; empty = kind.empty; at = refl; finished = refl; before = refl },
              ),
              refl,
            );
            shown = shows all names own true here (grown piece draft (zeros w) true (late_at draft form width term ∷ [])) laid;
          };
    }

    form_lays : (form : Form) → piece_form known draft piece value ≡ Ok form → (next : Draft) → with_form draft piece form ≡ Ok next → lay known draft piece value ≡ Ok next → Comes next
    form_lays (now own) made next laid is =
        let it = now_is draft piece own next laid in
        let so : lay known draft piece value ≡ Ok (grown piece draft own false []) = is ∙ ap (λ (d : Draft). Ok d) (sym it.1) in
        subst Comes it.1 (now_lays own made (piece_came known passed piece value has draft (grown piece draft own false []) fresh marks met_known so) so)
    form_lays (later form width term) made next laid is =
        let it = later_is draft piece form width term next laid in
        subst Comes it.1 (later_lays form width term made it.0 (is ∙ ap (λ (d : Draft). Ok d) (sym it.1)))

  pub piece_lays : (passed : Passed) (piece : Piece) (value : Option Tree) → PieceValue piece value → (draft next : Draft) → Fresh (piece_is piece) passed.met → length draft.late ≡ length draft.bits
      → MetKnown passed.met draft.known → lay known draft piece value ≡ Ok next
      → LaysOut known (piece_is piece) (met_piece piece passed.met) NoCount draft next (Lays piece value ∷ []) no_end (λ names. OnePlaced names passed piece value)
  piece_lays passed piece value has draft next fresh marks met_known is =
      let inner = chained (piece_form known draft piece value) (with_form draft piece) next is in
      form_lays passed piece value has draft fresh marks met_known inner.value inner.is next inner.leads is

-- a piece that is no label gives no name a place
pub unplaced_none : (piece : Piece) → is_place piece ≡ false → (key : Key) → piece_is piece key ≡ false
unplaced_none (OneNumber number) none key = refl
unplaced_none (OneText text) none key = refl
unplaced_none (Zeros count) none key = refl
unplaced_none (Filler unit) none key = refl
unplaced_none (Place name) none key = absurd (true_false none)
