-- A draft that fits bits, and what is laid after it that is spelled there.
use Rattle.std.proofs.Common.{◌≡◌, ℕ, ◌+◌, ◌≤◌, ℤ, pos, Bool, true, false, ◌||◌, not, List, [], ◌∷◌, ◌++◌, length, take, drop, replicate, Option, Some, None, Result, Ok, Err, ◌⊎◌, inl, inr, refl, sym, ap, subst, ◌∙◌, arith}
use Rattle.std.specs.Prelude.{if◌then◌else◌, nat_abs}
use Rattle.std.specs.List.{list_any, AllByRecursion}
use Rattle.std.specs.Option.{is_some}
use Rattle.std.specs.Result.{is_ok}
use Rattle.std.proofs.lemmas.Bool.{le-ltb}
use Rattle.std.proofs.lemmas.List.{append_assoc, append-nil, length-append, length-drop, length-take-le, take-append-drop}
use Rattle.rz_core.proofs.Tests.{or_false, true_false}
use Rattle.rz_core.specs.Lists.{unless_fault}
use Rattle.rz_core.specs.Stop.{◌>>=◌}
use Rattle.rz_core.specs.declared.facts.Facts.{Facts}
use Rattle.rz_core.specs.declared.resource.Word.{Word}
use Rattle.rz_bits.specs.Bits.{number_bits}
use Rattle.rz_bits.specs.BitBuf.{missing, zeros}
use Rattle.rz_expr.specs.Environment.{count_of, place_in, place_key, place_of, row_in, rows_of, Environment, Key, Sight}
use Rattle.rz_expr.specs.Term.{Term}
use Rattle.rz_expr.specs.Value.{value_of}
use Rattle.rz_expr.specs.declared.value.EvalFault.{EvalFault}
use Rattle.rz_types.proofs.Texts.{Keeps}
use Rattle.rz_types_fields.proofs.SameNames.{key_is}
use Rattle.rz_types_fields.specs.declared.field.NumForm.{NumForm}
use Rattle.rz_types_fields.specs.declared.tree.Tree.{Tree}
use Rattle.rz_types_fields.specs.Laid.{behind_rows, draft_sight, fixed_form, grown, late_at, late_bits, later, lay, met_in, now, number_form, number_in, piece_form, placed, ranged, reads_late, refusal, too_long, unless, valued, value_refusal, with_form, with_room, AllRows, Draft, Form, LateNumber, Refusal}
use Rattle.rz_types_fields.specs.Passed.{gives_rows, stands_at, Names, Passed}
use Rattle.rz_types_fields.specs.Piece.{terms_of_text, Filler, OneNumber, OneText, Piece, Place, Zeros}
use Rattle.rz_types_fields.specs.Range.{fits_number}
use Rattle.rz_types_fields.specs.Sees.{beside, bits_before, hit, is_late, names_later, sees, Late}
use Rattle.rz_types_fields.specs.Spells.{anyhow, is_late_piece, is_late_size, is_late_value, is_one_late, most_bits, AreRows, IsNumber, IsStored, PieceSpells}
use Rattle.rz_types_fields.specs.Stored.{stored_number}
use Rattle.rz_layout.proofs.Filled.{length_number}
use Rattle.rz_layout.proofs.Later.{is_later}
use Rattle.rz_layout.proofs.Masks.{hidden_bits, length-marks, masked, masked-append, masked_all, masked_none, take-plus}
use Rattle.rz_layout.proofs.Labels.{label_given, label_key, label_none, met_more, met_rows, names_known, MetKnown}
use Rattle.rz_layout.proofs.Placing.{alike_rows, EndsAre}
use Rattle.rz_types_fields.specs.Field.{PlainBody}
use Rattle.rz_layout.proofs.Trees.{number_is}
use Rattle.rz_layout.proofs.Sees.{every, hidden, is_in_row, nothing_later, value_same, Alike, Hides}
use Rattle.rz_layout.proofs.Texts.{text_spelled}
use Rattle.rz_layout.proofs.Tracks.{tracks-append, Holds, Tracks}

-- The place of a piece.

abbrev pub piece_is : Piece → Key → Bool
piece_is (OneNumber number) key = false
piece_is (OneText text) key = false
piece_is (Zeros count) key = false
piece_is (Filler unit) key = false
piece_is (Place name) key = stands_at name.bytes key

pub placed_is : (piece : Piece) (at : ℕ) (names : Environment) (key : Key) → piece_is piece key ≡ true → (placed piece at names).give key ≡ Some (pos at)
placed_is (OneNumber number) at names key is = absurd (true_false (sym is))
placed_is (OneText text) at names key is = absurd (true_false (sym is))
placed_is (Zeros count) at names key is = absurd (true_false (sym is))
placed_is (Filler unit) at names key is = absurd (true_false (sym is))
placed_is (Place name) at names key is = label_given name at names key is

pub placed_none : (piece : Piece) (at : ℕ) (names : Environment) (key : Key) → piece_is piece key ≡ false → (placed piece at names).give key ≡ names.give key
placed_none (OneNumber number) at names key is = refl
placed_none (OneText text) at names key is = refl
placed_none (Zeros count) at names key is = refl
placed_none (Filler unit) at names key is = refl
placed_none (Place name) at names key is = label_none name at names key is

abbrev pub met_piece : Piece → Names → Names
met_piece piece met key = piece_is piece key || met key

-- it is that of a label by itself
abbrev pub is_alone : Key → Bool
is_alone (place_of name) = true
is_alone (count_of name) = false
is_alone (rows_of name) = false
is_alone (place_in name number) = false
is_alone (row_in name) = false

label_alone : (own : Word) (key : Key) → is_alone key ≡ false → stands_at own.bytes key ≡ false
label_alone own (place_of name) other = absurd (true_false other)
label_alone own (count_of name) other = refl
label_alone own (rows_of name) other = refl
label_alone own (place_in name number) other = refl
label_alone own (row_in name) other = refl

pub piece_alone : (piece : Piece) (key : Key) → is_alone key ≡ false → piece_is piece key ≡ false
piece_alone (OneNumber number) key other = refl
piece_alone (OneText text) key other = refl
piece_alone (Zeros count) key other = refl
piece_alone (Filler unit) key other = refl
piece_alone (Place own) key other = label_alone own key other

pub later_piece : (piece : Piece) (met : Names) (key : Key) → piece_is piece key ≡ false → is_later (met_piece piece met) key ≡ is_later met key
later_piece piece met (place_of name) none = ap (λ (test : Bool). not (test || met (place_of name))) none
later_piece piece met (count_of name) none = refl
later_piece piece met (rows_of name) none = ap (λ (test : Bool). not (test || met (rows_of name))) none
later_piece piece met (place_in name number) none = ap (λ (test : Bool). not (test || met (rows_of name))) (piece_alone piece (rows_of name) refl)
later_piece piece met (row_in name) none = refl

pub known_piece : (piece : Piece) (met : Names) (at : ℕ) (known : Environment) → MetKnown met known → MetKnown (met_piece piece met) (placed piece at known)
known_piece piece met at known is = met_more (piece_is piece) met known (placed piece at known) is (placed_none piece at known) (λ in_rows name own. ap is_some (placed_is piece at known (label_key in_rows name) own))

-- The same labels.

abbrev pub SamePlaces : Names → Names → Type 0
SamePlaces one other = (in_rows : Bool) (name : List ℕ) → one (label_key in_rows name) ≡ other (label_key in_rows name)

later_same : (one other : Names) → SamePlaces one other → (key : Key) → is_later one key ≡ is_later other key
later_same one other same (place_of name) = ap not (same false name)
later_same one other same (count_of name) = refl
later_same one other same (rows_of name) = ap not (same true name)
later_same one other same (place_in name number) = ap not (same true name)
later_same one other same (row_in name) = refl

alike_same : (one other : Names) → SamePlaces one other → (known names : Environment) → Alike one known names → Alike other known names
alike_same one other same known names alike = record {
  names = λ key own early. alike.names key own (later_same one other same key ∙ early);
  places = λ label rows number was. alike.places label rows number (same true label ∙ was);
}

-- Room.

pub room_ok : (draft : Draft) (count : ℕ) (next : Draft) → length draft.bits + count ≤ most_bits → with_room draft count next ≡ Ok next
room_ok draft count next fits = ap (λ (test : Bool). if test then Err (too_long draft (length draft.bits + count)) else Ok next) (le-ltb most_bits (length draft.bits + count) fits)

pub there_within : (all own : List Bool) (at : ℕ) → take (length own) (drop at all) ≡ own → at ≤ length all → at + length own ≤ length all
there_within all own at is within =
    let a = ap length (take-append-drop (length own) (drop at all)) in
    let b = length-append (take (length own) (drop at all)) (drop (length own) (drop at all)) in
    let c = length-drop at all in
    let d = ap length is in
    omega (arith, a, b, c, d, within)

-- the bits that are laid of a piece
abbrev pub pushed : Bool → List Bool → List Bool
pushed true bits = zeros (length bits)
pushed false bits = bits

pushed_length : (is_late : Bool) (bits : List Bool) → length (pushed is_late bits) ≡ length bits
pushed_length true bits = length-marks (length bits) false
pushed_length false bits = refl

pushed_masked : (is_late : Bool) (bits : List Bool) → pushed is_late bits ≡ masked (replicate (length bits) is_late) bits
pushed_masked true bits = sym (masked_all bits)
pushed_masked false bits = sym (masked_none bits)

module _ (known : Facts) (all : List Bool) where
  -- a draft of the bits up to a place
  pub record Fits (names : Environment) (met : Names) (at : ℕ) (late : Late) (draft : Draft) : Type 0 where
    pub bits : draft.bits ≡ masked late (take at all)
    pub len : length draft.bits ≡ at
    pub late_is : draft.late ≡ late
    pub marks : length late ≡ at
    pub within : at ≤ length all
    pub names_are : Alike met draft.known names

  -- a late number holds, with all names that are alike
  abbrev pub HoldsIn : Environment → LateNumber → Type 0
  HoldsIn names one = (own : Environment) → Alike every own names → Holds known all own one

  -- a step of the first pass to a draft that fits again
  pub record Goes (names : Environment) (met : Names) (at : ℕ) (late : Late) (after : ℕ) (late_after : Late) (draft : Draft) (result : Result Draft Refusal) : Type 0 where
    pub next : Draft
    pub is : result ≡ Ok next
    pub fits : Fits names met after late_after next
    pub met_known : MetKnown met next.known
    pub more : Late
    pub more_is : late_after ≡ late ++ more
    pub numbers : List LateNumber
    pub numbers_are : next.numbers ≡ draft.numbers ++ numbers
    pub tracks : Tracks (HoldsIn names) at numbers more

  pub fits_met : (names : Environment) (one other : Names) → SamePlaces one other → (at : ℕ) (late : Late) (draft : Draft) → Fits names one at late draft → Fits names other at late draft
  fits_met names one other same at late draft fits = record {
    bits = fits.bits;
    len = fits.len;
    late_is = fits.late_is;
    marks = fits.marks;
    within = fits.within;
    names_are = alike_same one other same draft.known names fits.names_are;
  }

  pub goes_met : (names : Environment) (one other : Names) → SamePlaces one other → (at : ℕ) (late : Late) (after : ℕ) (late_after : Late) (draft : Draft) (result : Result Draft Refusal)
      → Goes names one at late after late_after draft result → Goes names other at late after late_after draft result
  goes_met names one other same at late after late_after draft result it = record {
    next = it.next;
    is = it.is;
    fits = fits_met names one other same after late_after it.next it.fits;
    met_known = λ in_rows name. sym (same in_rows name) ∙ it.met_known in_rows name;
    more = it.more;
    more_is = it.more_is;
    numbers = it.numbers;
    numbers_are = it.numbers_are;
    tracks = it.tracks;
  }

  -- the value in the first pass of an expression that names no label that stands later
  pub first_seen : (names : Environment) (met : Names) (at : ℕ) (late : Late) (draft : Draft) → Fits names met at late draft → (term : Term) → names_later met term ≡ false
      → value_of term (draft_sight known draft) ≡ value_of term (beside late (sees known all names at))
  first_seen names met at late draft fits term none = value_same met (draft_sight known draft) (beside late (sees known all names at)) fits.names_are
      (λ first width.
      ap (λ (marks : Late). if hit marks first width then None else bits_before draft.bits (length draft.bits) first width) fits.late_is
      ∙ ap (λ (k : ℕ). if hit late first width then None else bits_before draft.bits k first width) fits.len
      ∙ ap (λ (bits : List Bool). if hit late first width then None else bits_before bits at first width) fits.bits
      ∙ hidden_bits late all at fits.within first width)
      (λ which. refl) term none

  pub hidden_seen : (names : Environment) (at : ℕ) (late : Late) → at ≤ length all → (term : Term)
      → Hides at (value_of term (beside late (sees known all names at))) (value_of term (sees known all names at))
  hidden_seen names at late within term = hidden late all at (length-take-le at all within) known names term

  -- a piece more
  grown_fits : (names : Environment) (met : Names) (at : ℕ) (late : Late) (draft : Draft) → Fits names met at late draft → (piece : Piece) (own : List Bool) (is_late : Bool) (numbers : List LateNumber)
      → take (length own) (drop at all) ≡ own → ((key : Key) → piece_is piece key ≡ true → names.give key ≡ Some (pos at))
      → Fits names (met_piece piece met) (at + length own) (late ++ replicate (length own) is_late) (grown piece draft (pushed is_late own) is_late numbers)
  grown_fits names met at late draft fits piece own is_late numbers there labels =
      let long : length (take at all) ≡ at = length-take-le at all fits.within in
      let size = pushed_length is_late own in
      record {
        bits = (λ i. fits.bits i ++ pushed_masked is_late own i)
            ∙ sym (masked-append late (replicate (length own) is_late) (take at all) own (fits.marks ∙ sym long))
            ∙ ap (masked (late ++ replicate (length own) is_late)) (ap (λ (r : List Bool). take at all ++ r) (sym there) ∙ sym (take-plus at (length own) all));
        len = length-append draft.bits (pushed is_late own) ∙ (let a = fits.len in omega (arith, a, size));
        late_is = (λ i. fits.late_is i ++ replicate (size i) is_late);
        marks = length-append late (replicate (length own) is_late) ∙ (let a = fits.marks in let b = length-marks (length own) is_late in omega (arith, a, b));
        within = there_within all own at there fits.within;
        names_are = record {
          names = λ key own early. by key own early (piece_is piece key) refl;
          places = λ label rows number was is inside.
              placed_none piece (length draft.bits) draft.known (place_in label number) (piece_alone piece (place_in label number) refl)
              ∙ fits.names_are.places label rows number (sym (ap (λ (test : Bool). test || met (rows_of label)) (piece_alone piece (rows_of label) refl)) ∙ was) is inside;
        };
      }
    where
      by : (key : Key) → is_in_row key ≡ false → is_later (met_piece piece met) key ≡ false → (test : Bool) → piece_is piece key ≡ test → (placed piece (length draft.bits) draft.known).give key ≡ names.give key
      by key own early true is = placed_is piece (length draft.bits) draft.known key is ∙ ap (λ (n : ℕ). Some (pos n)) fits.len ∙ sym (labels key is)
      by key own early false is = placed_none piece (length draft.bits) draft.known key is ∙ fits.names_are.names key own (sym (later_piece piece met key is) ∙ early)

  -- What the first pass makes of a piece that is spelled.

  record LateForm (names : Environment) (draft : Draft) (found : Result Form Refusal) (own : List Bool) : Type 0 where
    form : NumForm
    width : ℤ
    term : Term
    is : found ≡ Ok (later form width term)
    size : length own ≡ nat_abs width
    value : (others : Environment) → Alike every others names → late_bits known others (late_at draft form width term) all ≡ Ok own

  abbrev Formed : Environment → Draft → Result Form Refusal → Bool → List Bool → Type 0
  Formed names draft found is_late own = ((is_late ≡ false) × (found ≡ Ok (now own))) ⊎ ((is_late ≡ true) × LateForm names draft found own)

  ranged_ok : (piece : ℕ) (form : NumForm) (width v : ℤ) → fits_number form width v ≡ true → ranged piece form width v ≡ Ok (number_bits (nat_abs width) (stored_number (nat_abs width) v))
  ranged_ok piece form width v is = ap (λ (test : Bool). unless_fault (unless test (refusal 207 piece v)) (number_bits (nat_abs width) (stored_number (nat_abs width) v))) is

  module _ (names : Environment) (passed : Passed) (at : ℕ) (late : Late) (draft : Draft) (fits : Fits names passed.met at late draft) (met_known : MetKnown passed.met draft.known) where
    abbrev sight : Sight
    sight = sees known all names at

    late_value : (form : NumForm) (width : ℤ) (term : Term) (v : ℤ) → value_of term sight ≡ Ok v → fits_number form width v ≡ true → (others : Environment) → Alike every others names
        → late_bits known others (late_at draft form width term) all ≡ Ok (number_bits (nat_abs width) (stored_number (nat_abs width) v))
    late_value form width term v is range others alike =
        ap (λ (n : ℕ). valued draft.piece (value_of term (sees known all others n)) >>= λ value. ranged draft.piece form width value) fits.len
        ∙ ap (λ (r : Result ℤ EvalFault). valued draft.piece r >>= λ value. ranged draft.piece form width value)
        (value_same every (sees known all others at) sight alike (λ first width. refl) (λ which. refl) term (nothing_later term) ∙ is)
        ∙ ranged_ok draft.piece form width v range

    abbrev by_later : NumForm → ℤ → Term → Bool → Result Form Refusal
    by_later form width term test = if test then Ok (later form width term) else fixed_form draft form width term (value_of term (draft_sight known draft))

    fixed_formed : (form : NumForm) (width : ℤ) (term : Term) (v : ℤ) → value_of term sight ≡ Ok v → fits_number form width v ≡ true → (value : Option Tree)
        → Formed names draft (number_form known draft form width (Some term) value) (is_late passed.met late term sight) (number_bits (nat_abs width) (stored_number (nat_abs width) v))
    fixed_formed form width term v is range value = by (names_later passed.met term) refl (hidden_seen names at late fits.within term)
      where
        own : List Bool
        own = number_bits (nat_abs width) (stored_number (nat_abs width) v)

        is_later_by : (test : Bool) → names_later passed.met term ≡ test → number_form known draft form width (Some term) value ≡ by_later form width term test
        is_later_by test so = ap (by_later form width term) (names_known passed.met draft.known met_known term ∙ so)

        by : (test : Bool) → names_later passed.met term ≡ test → Hides at (value_of term (beside late sight)) (value_of term sight)
            → Formed names draft (number_form known draft form width (Some term) value) (is_late passed.met late term sight) own
        by true so hides = inr (
          ap (λ (b : Bool). b || not (is_ok (value_of term (beside late sight)))) so,
          record {
            form = form;
            width = width;
            term = term;
            is = is_later_by true so;
            size = length_number (nat_abs width) (stored_number (nat_abs width) v);
            value = late_value form width term v is range;
          },
        )
        by false so (inl same) = inl (
          ap (λ (b : Bool). b || not (is_ok (value_of term (beside late sight)))) so ∙ ap (λ (r : Result ℤ EvalFault). not (is_ok r)) (same ∙ is),
          is_later_by false so ∙ ap (fixed_form draft form width term) (first_seen names passed.met at late draft fits term so ∙ same ∙ is)
              ∙ ap (λ (r : Result (List Bool) Refusal). r >>= λ bits. Ok (now bits)) (ranged_ok draft.piece form width v range),
        )
        by false so (inr hides) = inr (
          ap (λ (b : Bool). b || not (is_ok (value_of term (beside late sight)))) so ∙ ap (λ (r : Result ℤ EvalFault). not (is_ok r)) hides.1,
          record {
            form = form;
            width = width;
            term = term;
            is = is_later_by false so ∙ ap (fixed_form draft form width term) (first_seen names passed.met at late draft fits term so ∙ hides.1)
                ∙ ap (λ (test : Bool). if test then Ok (later form width term) else Err (value_refusal draft.piece hides.0)) (ap (λ (n : ℕ). reads_late n hides.0) fits.len ∙ hides.2);
            size = length_number (nat_abs width) (stored_number (nat_abs width) v);
            value = late_value form width term v is range;
          },
        )

    number_formed : (form : NumForm) (width : ℤ) (fixed : Option Term) (value : Option Tree) (own : List Bool) → IsNumber form width fixed sight value own
        → Formed names draft (number_form known draft form width fixed value) (is_late_value passed.met late fixed sight) own
    number_formed form width None value own it = inl (
      refl,
      ap (λ (o : Option Tree). Ok (now (number_bits (nat_abs width) (number_in o)))) it.1 ∙ ap (λ (n : ℕ). Ok (now (number_bits (nat_abs width) n))) (number_is it.0) ∙ ap (λ (bits : List Bool). Ok (now bits)) (sym it.3),
    )
    number_formed form width (Some term) value own it =
        subst (Formed names draft (number_form known draft form width (Some term) value) (is_late passed.met late term sight)) (sym it.4) (fixed_formed form width term it.0 it.2 it.3 value)

    -- the expressions of a text that isn't late
    early_terms : (terms : List Term) → is_one_late passed.met late terms sight ≡ false
        → (list_any (names_later (met_in draft.known)) terms ≡ false) × AllByRecursion (Keeps sight (draft_sight known draft)) terms
    early_terms [] none = (refl, tt)
    early_terms (term ∷ terms) none =
        let each = or_false (is_late passed.met late term sight) (is_one_late passed.met late terms sight) none in
        let two = or_false (names_later passed.met term) (not (is_ok (value_of term (beside late sight)))) each.0 in
        let rest = early_terms terms each.1 in (
          (λ i. (names_known passed.met draft.known met_known term ∙ two.0) i || rest.0 i),
          ((λ v is. first_seen names passed.met at late draft fits term two.0 ∙ by v is two.1 (hidden_seen names at late fits.within term)), rest.1),
        )
      where
        by : (v : ℤ) → value_of term sight ≡ Ok v → not (is_ok (value_of term (beside late sight))) ≡ false → Hides at (value_of term (beside late sight)) (value_of term sight) → value_of term (beside late sight) ≡ Ok v
        by v is some (inl same) = same ∙ is
        by v is some (inr hides) = absurd (true_false (sym (ap (λ (r : Result ℤ EvalFault). not (is_ok r)) hides.1) ∙ some))

    formed : (piece : Piece) (value : Option Tree) (own : List Bool) → IsStored piece known at sight value own → is_late_size passed.met late piece sight ≡ false
        → Formed names draft (piece_form known draft piece value) (is_late_piece passed.met late piece sight) own
    formed (OneNumber number) value own it early = number_formed number.form number.width number.fixed value own it
    formed (OneText text) value own it early =
        let terms = early_terms (terms_of_text text) early in
        inl (refl, ap (λ (r : Result (List Bool) Refusal). r >>= λ bits. Ok (now bits)) (text_spelled known draft sight text value own terms.0 terms.1 it))
    formed (Zeros count) value own it early = inl (refl, ap (λ (bits : List Bool). Ok (now bits)) (sym it.1))
    formed (Filler unit) value own it early = inl (refl, ap (λ (n : ℕ). Ok (now (zeros (missing unit n)))) fits.len ∙ ap (λ (bits : List Bool). Ok (now bits)) (sym it.1))
    formed (Place name) value own it early = inl (refl, ap (λ (bits : List Bool). Ok (now bits)) (sym it.2))

    labels : (piece : Piece) (value : Option Tree) (own : List Bool) → IsStored piece known at sight value own → (key : Key) → piece_is piece key ≡ true → names.give key ≡ Some (pos at)
    labels (OneNumber number) value own it key is = absurd (true_false (sym is))
    labels (OneText text) value own it key is = absurd (true_false (sym is))
    labels (Zeros count) value own it key is = absurd (true_false (sym is))
    labels (Filler unit) value own it key is = absurd (true_false (sym is))
    labels (Place name) value own it key is = sym (ap names.give (key_is (place_key name.bytes) key is)) ∙ it.1

    pub piece_goes : (piece : Piece) (value : Option Tree) (after : ℕ) (late_after : Late) → PieceSpells anyhow known all names passed piece value at late after late_after
        → Goes names (met_piece piece passed.met) at late after late_after draft (lay known draft piece value)
    piece_goes piece value after late_after it = by (is_late_piece passed.met late piece sight) refl (formed piece value it.bits it.stored it.early)
      where
        own : List Bool
        own = it.bits

        room : length draft.bits + length own ≤ most_bits
        room = let a = fits.len in let b = it.ends in let c = it.short in omega (arith, a, b, c)

        fits_with : (test : Bool) → is_late_piece passed.met late piece sight ≡ test → (numbers : List LateNumber)
            → Fits names (met_piece piece passed.met) after late_after (grown piece draft (pushed test own) test numbers)
        fits_with test is numbers = subst (λ (k : ℕ). Fits names (met_piece piece passed.met) k late_after (grown piece draft (pushed test own) test numbers)) (sym it.ends)
            (subst (λ (m : Late). Fits names (met_piece piece passed.met) (at + length own) m (grown piece draft (pushed test own) test numbers))
            (ap (λ (c : Bool). late ++ replicate (length own) c) (sym is) ∙ sym it.marked)
            (grown_fits names passed.met at late draft fits piece own test numbers it.there (labels piece value own it.stored)))

        by : (test : Bool) → is_late_piece passed.met late piece sight ≡ test → Formed names draft (piece_form known draft piece value) test own
            → Goes names (met_piece piece passed.met) at late after late_after draft (lay known draft piece value)
        by test is (inl so) = record {
          next = grown piece draft own false [];
          is = ap (λ (r : Result Form Refusal). r >>= with_form draft piece) so.1 ∙ room_ok draft (length own) (grown piece draft own false []) room;
          fits = fits_with false (is ∙ so.0) [];
          met_known = known_piece piece passed.met (length draft.bits) draft.known met_known;
          more = replicate (length own) false;
          more_is = it.marked ∙ ap (λ (c : Bool). late ++ replicate (length own) c) (is ∙ so.0);
          numbers = [];
          numbers_are = refl;
          tracks = ap (λ (n : ℕ). replicate n false) (sym (length-marks (length own) false));
        }
        by test is (inr so) =
            let form = so.1 in
            let one = late_at draft form.form form.width form.term in
            let next = grown piece draft (zeros (nat_abs form.width)) true (one ∷ []) in
            record {
              next = next;
              is = ap (λ (r : Result Form Refusal). r >>= with_form draft piece) form.is
                  ∙ room_ok draft (nat_abs form.width) next (subst (λ (n : ℕ). length draft.bits + n ≤ most_bits) form.size room);
              fits = subst (λ (n : ℕ). Fits names (met_piece piece passed.met) after late_after (grown piece draft (zeros n) true (one ∷ []))) form.size (fits_with true (is ∙ so.0) (one ∷ []));
              met_known = known_piece piece passed.met (length draft.bits) draft.known met_known;
              more = replicate (nat_abs form.width) true;
              more_is = it.marked ∙ ap (λ (c : Bool). late ++ replicate (length own) c) (is ∙ so.0) ∙ ap (λ (n : ℕ). late ++ replicate n true) form.size;
              numbers = one ∷ [];
              numbers_are = refl;
              tracks = (
                0,
                [],
                fits.len ∙ omega arith,
                sym (append-nil (replicate (nat_abs form.width) true)),
                (λ others alike. record {
                  bits = own;
                  value = form.value others alike;
                  there = ap (λ (n : ℕ). take (length own) (drop n all)) fits.len ∙ it.there;
                  width = form.size;
                }),
                refl,
              );
            }

  -- One after the other.

  pub goes_done : (names : Environment) (met : Names) (at : ℕ) (late : Late) (after : ℕ) (late_after : Late) (draft : Draft) → after ≡ at → late_after ≡ late → Fits names met at late draft → MetKnown met draft.known
      → Goes names met at late after late_after draft (Ok draft)
  goes_done names met at late after late_after draft same also fits met_known = record {
    next = draft;
    is = refl;
    fits = subst (λ (k : ℕ). Fits names met k late_after draft) (sym same) (subst (λ (m : Late). Fits names met at m draft) (sym also) fits);
    met_known = met_known;
    more = [];
    more_is = also ∙ sym (append-nil late);
    numbers = [];
    numbers_are = sym (append-nil draft.numbers);
    tracks = refl;
  }

  pub goes_both : (names : Environment) (one two : Names) (at : ℕ) (late : Late) (mid : ℕ) (late_mid : Late) (after : ℕ) (late_after : Late) (draft : Draft) (result : Result Draft Refusal)
      → (others : Draft → Result Draft Refusal) → length late ≡ at → (first : Goes names one at late mid late_mid draft result) → Goes names two mid late_mid after late_after first.next (others first.next)
      → Goes names two at late after late_after draft (result >>= others)
  goes_both names one two at late mid late_mid after late_after draft result others marks first more = record {
    next = more.next;
    is = ap (λ (r : Result Draft Refusal). r >>= others) first.is ∙ more.is;
    fits = more.fits;
    met_known = more.met_known;
    more = first.more ++ more.more;
    more_is = more.more_is ∙ ap (λ (m : Late). m ++ more.more) first.more_is ∙ append_assoc late first.more more.more;
    numbers = first.numbers ++ more.numbers;
    numbers_are = more.numbers_are ∙ ap (λ (n : List LateNumber). n ++ more.numbers) first.numbers_are ∙ append_assoc draft.numbers first.numbers more.numbers;
    tracks = tracks-append (HoldsIn names) at first.numbers more.numbers first.more more.more first.tracks
        (subst (λ (k : ℕ). Tracks (HoldsIn names) k more.numbers more.more)
        (let a = first.fits.marks in let b = ap length first.more_is in let c = length-append late first.more in omega (arith, a, b, c, marks)) more.tracks);
  }

  -- After all rows of an array.

  -- rows that go, of which the first has this number
  pub record RowsGo (row : PlainBody) (names : Environment) (met : Names) (at : ℕ) (late : Late) (after : ℕ) (late_after : Late) (draft : Draft) (number count : ℕ) (result : Result AllRows Refusal) : Type 0 where
    pub rows : AllRows
    pub is : result ≡ Ok rows
    pub many : length rows.ends ≡ count
    pub ends : EndsAre row names number rows.ends
    pub goes : Goes names met at late after late_after draft (Ok rows.draft)

  pub goes_behind : (row : PlainBody) (names : Environment) (met : Names) (at : ℕ) (late : Late) (after : ℕ) (late_after : Late) (draft : Draft) (count : ℕ) (result : Result AllRows Refusal)
      → AreRows row count names → RowsGo row names met at late after late_after draft 1 count result
      → Goes names (λ key. gives_rows row key || met key) at late after late_after draft (result >>= λ rows. Ok (behind_rows row rows))
  goes_behind row names met at late after late_after draft count result are found =
      let it = found.goes in
      let ends = found.rows.ends in
      record {
        next = behind_rows row (record { draft = it.next; ends = ends });
        is = ap (λ (r : Result AllRows Refusal). r >>= λ rows. Ok (behind_rows row rows)) found.is
            ∙ ap (λ (r : Result Draft Refusal). r >>= λ next. Ok (behind_rows row (record { draft = next; ends = ends }))) it.is;
        fits = record {
          bits = it.fits.bits;
          len = it.fits.len;
          late_is = it.fits.late_is;
          marks = it.fits.marks;
          within = it.fits.within;
          names_are = alike_rows row ends met it.next.known names (subst (λ (n : ℕ). AreRows row n names) (sym found.many) are) found.ends it.fits.names_are;
        };
        met_known = met_rows row ends met it.next.known it.met_known;
        more = it.more;
        more_is = it.more_is;
        numbers = it.numbers;
        numbers_are = it.numbers_are;
        tracks = it.tracks;
      }
