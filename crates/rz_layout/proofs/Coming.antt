-- A piece that is laid is spelled, where the draft after it fits.
use Rattle.std.proofs.Common.{◌≡◌, ℕ, ◌+◌, ◌≤◌, ℤ, pos, Bool, true, false, ◌||◌, not, List, [], ◌∷◌, ◌++◌, length, take, drop, replicate, Option, Some, None, Result, Ok, Err, ◌⊎◌, inl, inr, refl, sym, ap, subst, ◌∙◌, arith}
use Rattle.std.specs.Prelude.{if◌then◌else◌, nat_abs}
use Rattle.std.specs.List.{list_any, AllByRecursion}
use Rattle.std.specs.Result.{is_ok}
use Rattle.std.proofs.lemmas.List.{length-append, length-drop, length-take-le}
use Rattle.rz_core.proofs.Tests.{or_false, true_false}
use Rattle.rz_core.specs.Stop.{◌>>=◌}
use Rattle.rz_core.specs.declared.facts.Facts.{Facts}
use Rattle.rz_bits.specs.Bits.{number_bits}
use Rattle.rz_bits.specs.BitBuf.{zeros}
use Rattle.rz_expr.specs.Environment.{count_of, place_in, place_key, place_of, row_in, rows_of, Environment, Key, Sight}
use Rattle.rz_expr.specs.Term.{Term}
use Rattle.rz_expr.specs.Value.{value_of}
use Rattle.rz_expr.specs.declared.value.EvalFault.{EvalFault}
use Rattle.rz_types.proofs.Texts.{Keeps}
use Rattle.rz_types_fields.proofs.SameNames.{key_itself}
use Rattle.rz_types_fields.specs.Field.{PlainNumber, PlainText}
use Rattle.rz_types_fields.specs.declared.field.NumForm.{NumForm}
use Rattle.rz_types_fields.specs.declared.tree.Tree.{Tree}
use Rattle.rz_types_fields.specs.Laid.{draft_sight, fixed_form, grown, late_at, later, lay, met_in, now, number_form, number_in, piece_form, ranged, reads_late, text_laid, value_refusal, with_form, Draft, Form, Refusal}
use Rattle.rz_types_fields.specs.Passed.{stands_at, Names, Passed}
use Rattle.rz_types_fields.specs.Piece.{terms_of_text, Filler, OneNumber, OneText, Piece, Place, Zeros}
use Rattle.rz_types_fields.specs.Sees.{beside, is_late, names_later, sees}
use Rattle.rz_types_fields.specs.Spells.{anyhow, is_late_piece, is_late_size, is_late_value, is_one_late, most_bits, IsNumber, IsStored, IsText, PieceSpells, RowSpells}
use Rattle.rz_layout.proofs.Adding.{adds_later, adds_now, back, front_of, later_is, now_is, Came, FitsAll, Still}
use Rattle.rz_layout.proofs.Fed.{NumberValue, PieceValue}
use Rattle.rz_layout.proofs.Filled.{chained, late_value, ranged_is, same_ok}
use Rattle.rz_layout.proofs.Fitting.{first_seen, hidden_seen, later_piece, met_piece, piece_alone, piece_is}
use Rattle.rz_layout.proofs.Later.{is_later}
use Rattle.rz_layout.proofs.Masks.{length-marks, masked_none, masked}
use Rattle.rz_layout.proofs.Labels.{label_given, names_known, MetKnown}
use Rattle.rz_layout.proofs.Trees.{number_is}
use Rattle.rz_layout.proofs.Sees.{Hides}
use Rattle.rz_layout.proofs.Texts.{text_sound, IsFound, TextSound, TextValue}
use Rattle.rz_layout.proofs.Tracks.{Holds}

same_form : (one other : Form) → ◌≡◌ {A = Result Form Refusal} (Ok one) (Ok other) → one ≡ other
same_form one other is = same_ok one other is

module _ (known : Facts) (all : List Bool) (names : Environment) (passed : Passed) (draft : Draft) (fits : FitsAll known all names passed.met draft) (met_known : MetKnown passed.met draft.known) where
  abbrev sight : Sight
  sight = sees known all names (length draft.bits)

  -- the value of an expression in the draft, beside late bits in the end, and in the end
  beside_is : (term : Term) → names_later passed.met term ≡ false → (found : Result ℤ EvalFault) → value_of term (draft_sight known draft) ≡ found → value_of term (beside draft.late sight) ≡ found
  beside_is term none found is = sym (first_seen known all names passed.met (length draft.bits) draft.late draft fits term none) ∙ is

  seen_is : (term : Term) (v : ℤ) → value_of term (beside draft.late sight) ≡ Ok v → value_of term sight ≡ Ok v
  seen_is term v is = by (hidden_seen known all names (length draft.bits) draft.late fits.within term)
    where
      by : Hides (length draft.bits) (value_of term (beside draft.late sight)) (value_of term sight) → value_of term sight ≡ Ok v
      by (inl same) = sym same ∙ is
      by (inr hides) = absurd (let z : Err hides.0 ≡ Ok v = sym hides.1 ∙ is in cc)

  late_by : (term : Term) (test : Bool) → names_later passed.met term ≡ test → is_late passed.met draft.late term sight ≡ (test || not (is_ok (value_of term (beside draft.late sight))))
  late_by term test is = ap (λ (c : Bool). c || not (is_ok (value_of term (beside draft.late sight)))) is

  -- the form of a number
  record IsNow (form : NumForm) (width : ℤ) (fixed : Option Term) (value : Option Tree) (found : Form) : Type 0 where
    bits : List Bool
    is : found ≡ now bits
    stored : IsNumber form width fixed sight value bits
    early : is_late_value passed.met draft.late fixed sight ≡ false

  record IsLater (form : NumForm) (width : ℤ) (fixed : Option Term) (value : Option Tree) (found : Form) : Type 0 where
    term : Term
    whole : fixed ≡ Some term
    none : value ≡ None
    is : found ≡ later form width term
    late : is_late_value passed.met draft.late fixed sight ≡ true

  abbrev FormCame : NumForm → ℤ → Option Term → Option Tree → Form → Type 0
  FormCame form width fixed value found = IsNow form width fixed value found ⊎ IsLater form width fixed value found

  fixed_came : (form : NumForm) (width : ℤ) (term : Term) (value : Option Tree) → value ≡ None → (found : Form) → (test : Bool) → names_later passed.met term ≡ test
      → (seen : Result ℤ EvalFault) → value_of term (draft_sight known draft) ≡ seen
      → (if test then Ok (later form width term) else fixed_form draft form width term seen) ≡ Ok found → FormCame form width (Some term) value found
  fixed_came form width term value none found true so seen is laid = inr (record { term = term; whole = refl; none = none; is = sym (same_form _ found laid); late = late_by term true so })
  fixed_came form width term value none found false so (Ok v) is laid =
      let inner = chained (ranged draft.piece form width v) (λ bits. Ok (now bits)) found laid in
      let range = ranged_is draft.piece form width v inner.value inner.is in
      let here = beside_is term so (Ok v) is in
      inl (record {
        bits = inner.value;
        is = sym (same_form _ found inner.leads);
        stored = (v, none, seen_is term v here, range.0, sym range.1);
        early = late_by term false so ∙ ap (λ (r : Result ℤ EvalFault). not (is_ok r)) here;
      })
  fixed_came form width term value none found false so (Err fault) is laid = by (reads_late (length draft.bits) fault) laid
    where
      by : (test : Bool) → (if test then Ok (later form width term) else Err (value_refusal draft.piece fault)) ≡ Ok found → FormCame form width (Some term) value found
      by true laid = inr (record {
        term = term;
        whole = refl;
        none = none;
        is = sym (same_form _ found laid);
        late = late_by term false so ∙ ap (λ (r : Result ℤ EvalFault). not (is_ok r)) (beside_is term so (Err fault) is);
      })
      by false laid = absurd cc

  number_came : (form : NumForm) (width : ℤ) (fixed : Option Term) (value : Option Tree) → NumberValue width fixed value → (found : Form) → number_form known draft form width fixed value ≡ Ok found → FormCame form width fixed value found
  number_came form width None value has found laid = inl (record {
    bits = number_bits (nat_abs width) has.0;
    is = sym (same_form _ found laid) ∙ ap (λ (o : Option Tree). now (number_bits (nat_abs width) (number_in o))) has.1 ∙ ap (λ (n : ℕ). now (number_bits (nat_abs width) n)) (number_is has.0);
    stored = (has.0, has.1, has.2, refl);
    early = refl;
  })
  number_came form width (Some term) value none found laid =
      fixed_came form width term value none found (names_later (met_in draft.known) term) (sym (names_known passed.met draft.known met_known term)) (value_of term (draft_sight known draft)) refl laid

  -- the expressions of a text
  keeps : (term : Term) → names_later (met_in draft.known) term ≡ false → Keeps (draft_sight known draft) sight term
  keeps term none v is = seen_is term v (beside_is term (sym (names_known passed.met draft.known met_known term) ∙ none) (Ok v) is)

  none_late : (terms : List Term) → list_any (names_later (met_in draft.known)) terms ≡ false → AllByRecursion (IsFound known draft sight) terms → is_one_late passed.met draft.late terms sight ≡ false
  none_late [] none found = refl
  none_late (term ∷ terms) none found =
      let each = or_false (names_later (met_in draft.known) term) (list_any (names_later (met_in draft.known)) terms) none in
      let so = sym (names_known passed.met draft.known met_known term) ∙ each.0 in
      (λ i. (late_by term false so ∙ ap (λ (r : Result ℤ EvalFault). not (is_ok r)) (beside_is term so (Ok found.0.0) found.0.1)) i || is_one_late passed.met draft.late terms sight)
      ∙ none_late terms each.1 found.1

  -- What is spelled.

  now_bits : (own bits : List Bool) → ◌≡◌ {A = Result Form Refusal} (Ok (now own)) (Ok (now bits)) → own ≡ bits
  now_bits own bits is = cc is

  text_now : (text : PlainText) (value : Option Tree) → TextValue text.fixed value → (found : Form) → (text_laid known draft text value >>= λ bits. Ok (now bits)) ≡ Ok found
      → (bits : List Bool) × (found ≡ now bits) × TextSound known draft sight text value bits
  text_now text value has found made =
      let inner = chained (text_laid known draft text value) (λ bits. Ok (now bits)) found made in
      (inner.value, sym (same_form _ found inner.leads), text_sound known draft sight text value has inner.value keeps inner.is)

  record NowStored (piece : Piece) (value : Option Tree) (own : List Bool) : Type 0 where
    stored : IsStored piece known (length draft.bits) sight value own
    early : is_late_size passed.met draft.late piece sight ≡ false
    not_late : is_late_piece passed.met draft.late piece sight ≡ false

  number_now : (number : PlainNumber) (value : Option Tree) (own : List Bool) → FormCame number.form number.width number.fixed value (now own) → NowStored (OneNumber number) value own
  number_now number value own (inl it) = record {
    stored = subst (IsNumber number.form number.width number.fixed sight value) (sym (now_bits own it.bits (ap (λ (f : Form). Ok f) it.is))) it.stored;
    early = refl;
    not_late = it.early;
  }
  number_now number value own (inr it) = absurd (let z : now own ≡ later number.form number.width it.term = it.is in cc)

  stored_now : (piece : Piece) (value : Option Tree) → PieceValue piece value → (own : List Bool) → piece_form known draft piece value ≡ Ok (now own)
      → FitsAll known all names (met_piece piece passed.met) (grown piece draft own false []) → NowStored piece value own
  stored_now (OneNumber number) value has own made after = number_now number value own (number_came number.form number.width number.fixed value has (now own) made)
  stored_now (OneText text) value has own made after =
      let it = text_now text value has (now own) made in
      let same : own ≡ it.0 = now_bits own it.0 (ap (λ (f : Form). Ok f) it.1) in
      record {
        stored = subst (λ (bits : List Bool). IsText text known sight value bits) (sym same) it.2.is;
        early = none_late (terms_of_text text) it.2.early it.2.found;
        not_late = refl;
      }
  stored_now (Zeros count) value has own made after = record { stored = (has, sym (now_bits _ own made)); early = refl; not_late = refl }
  stored_now (Filler unit) value has own made after = record { stored = (has, sym (now_bits _ own made)); early = refl; not_late = refl }
  stored_now (Place name) value has own made after =
      let key : Key = place_key name.bytes in
      let itself : stands_at name.bytes key ≡ true = key_itself key in
      record {
        stored = (
          has,
          sym (after.names_are.names key refl (ap (λ (test : Bool). not (test || passed.met key)) itself)) ∙ label_given name (length draft.bits) draft.known key itself,
          sym (now_bits [] own made),
        );
        early = refl;
        not_late = refl;
      }

  now_spells : (piece : Piece) (value : Option Tree) → PieceValue piece value → (own : List Bool) → piece_form known draft piece value ≡ Ok (now own) → length draft.bits + length own ≤ most_bits
      → FitsAll known all names (met_piece piece passed.met) (grown piece draft own false [])
      → PieceSpells anyhow known all names passed piece value (length draft.bits) draft.late (length (draft.bits ++ own)) (draft.late ++ replicate (length own) false)
  now_spells piece value has own made room after =
      let it = stored_now piece value has own made after in
      let front = front_of all draft own (replicate (length own) false) (draft.bits ++ own) (draft.late ++ replicate (length own) false) fits.marks (length-marks (length own) false) refl refl after.bits after.within in
      let a = length-append draft.bits own in
      let b = length-drop (length draft.bits) all in
      let c = after.within in
      let there_len : length (take (length own) (drop (length draft.bits) all)) ≡ length own = length-take-le (length own) (drop (length draft.bits) all) (omega (arith, a, b, c)) in
      record {
        bits = own;
        stored = it.stored;
        manner = tt;
        early = it.early;
        there = sym (front.behind ∙ ap (λ (k : ℕ). masked (replicate k false) (take (length own) (drop (length draft.bits) all))) (sym there_len) ∙ masked_none (take (length own) (drop (length draft.bits) all)));
        ends = a;
        short = omega (arith, a, room);
        marked = ap (λ (test : Bool). draft.late ++ replicate (length own) test) (sym it.not_late);
      }

  -- A late number that holds.

  record LateStored (piece : Piece) (value : Option Tree) (width : ℤ) : Type 0 where
    own : List Bool
    there : take (length own) (drop (length draft.bits) all) ≡ own
    stored : IsStored piece known (length draft.bits) sight value own
    early : is_late_size passed.met draft.late piece sight ≡ false
    late : is_late_piece passed.met draft.late piece sight ≡ true
    size : length own ≡ nat_abs width

  abbrev FormHolds : Form → Type 0
  FormHolds (now bits) = ⊥
  FormHolds (later form width term) = Holds known all names (late_at draft form width term)

  abbrev width_in : Form → ℤ
  width_in (now bits) = pos 0
  width_in (later form width term) = width

  number_later : (number : PlainNumber) (value : Option Tree) (form : NumForm) (width : ℤ) (term : Term) → FormCame number.form number.width number.fixed value (later form width term)
      → Holds known all names (late_at draft form width term) → LateStored (OneNumber number) value width
  number_later number value form width term (inl it) holds = absurd (let z : later form width term ≡ now it.bits = it.is in cc)
  number_later number value form width term (inr it) holds =
      let own : Holds known all names (late_at draft number.form number.width it.term) = subst FormHolds it.is holds in
      let found = late_value known names (late_at draft number.form number.width it.term) all own.bits own.value in
      record {
        own = own.bits;
        there = own.there;
        stored = subst (λ (fixed : Option Term). IsNumber number.form number.width fixed sight value own.bits) (sym it.whole) (found.value, it.none, found.is, found.fits, sym found.bits_are);
        early = refl;
        late = it.late;
        size = own.width ∙ ap nat_abs (sym (ap width_in it.is));
      }

  stored_later : (piece : Piece) (value : Option Tree) → PieceValue piece value → (form : NumForm) (width : ℤ) (term : Term) → piece_form known draft piece value ≡ Ok (later form width term)
      → Holds known all names (late_at draft form width term) → LateStored piece value width
  stored_later (OneNumber number) value has form width term made holds =
      number_later number value form width term (number_came number.form number.width number.fixed value has (later form width term) made) holds
  stored_later (OneText text) value has form width term made holds =
      let it = text_now text value has (later form width term) made in absurd (let z : later form width term ≡ now it.0 = it.1 in cc)
  stored_later (Zeros count) value has form width term made holds = absurd cc
  stored_later (Filler unit) value has form width term made holds = absurd cc
  stored_later (Place name) value has form width term made holds = absurd cc

  late_spells : (piece : Piece) (value : Option Tree) → PieceValue piece value → (form : NumForm) (width : ℤ) (term : Term) → piece_form known draft piece value ≡ Ok (later form width term) → length draft.bits + nat_abs width ≤ most_bits
      → Holds known all names (late_at draft form width term)
      → PieceSpells anyhow known all names passed piece value (length draft.bits) draft.late (length (draft.bits ++ zeros (nat_abs width))) (draft.late ++ replicate (length (zeros (nat_abs width))) true)
  late_spells piece value has form width term made room holds =
      let it = stored_later piece value has form width term made holds in
      let n = length-marks (nat_abs width) false in
      let a = length-append draft.bits (zeros (nat_abs width)) in
      let size = it.size in
      record {
        bits = it.own;
        stored = it.stored;
        manner = tt;
        early = it.early;
        there = it.there;
        ends = omega (arith, a, n, size);
        short = omega (arith, a, n, room);
        marked = ap (λ (k : ℕ). draft.late ++ replicate k true) (n ∙ sym it.size) ∙ ap (λ (test : Bool). draft.late ++ replicate (length it.own) test) (sym it.late);
      }

-- Labels that weren't met.

abbrev pub Fresh : (Key → Bool) → Names → Type 0
Fresh labels met = (key : Key) → labels key ≡ true → met key ≡ false

pub still_piece : (piece : Piece) (met : Names) (known : Facts) → Fresh (piece_is piece) met → Still known met (piece_is piece) (met_piece piece met)
still_piece piece met known fresh key early = by key early (piece_is piece key) refl
  where
    unmet : (key : Key) → is_later met key ≡ false → piece_is piece key ≡ true → met key ≡ false → ⊥
    unmet (place_of name) early is none = true_false (sym (ap not none) ∙ early)
    unmet (count_of name) early is none = true_false (sym is ∙ piece_alone piece (count_of name) refl)
    unmet (rows_of name) early is none = true_false (sym is ∙ piece_alone piece (rows_of name) refl)
    unmet (place_in name number) early is none = true_false (sym is ∙ piece_alone piece (place_in name number) refl)
    unmet (row_in name) early is none = true_false (sym is ∙ piece_alone piece (row_in name) refl)

    by : (key : Key) → is_later met key ≡ false → (test : Bool) → piece_is piece key ≡ test → (piece_is piece key ≡ false) × (is_later (met_piece piece met) key ≡ false)
    by key early true is = absurd (unmet key early is (fresh key is))
    by key early false is = (is, later_piece piece met key is ∙ early)

module _ (known : Facts) where
  abbrev pub PieceIs : Passed → Piece → Option Tree → List Bool → Environment → RowSpells
  PieceIs passed piece value all names = PieceSpells anyhow known all names passed piece value

  form_came : (passed : Passed) (piece : Piece) (value : Option Tree) → PieceValue piece value → (draft : Draft) → Fresh (piece_is piece) passed.met → length draft.late ≡ length draft.bits → MetKnown passed.met draft.known
      → (form : Form) → piece_form known draft piece value ≡ Ok form → (next : Draft) → with_form draft piece form ≡ Ok next
      → Came known (piece_is piece) (met_piece piece passed.met) (λ names. Unit {0}) draft next (PieceIs passed piece value)
  form_came passed piece value has draft fresh marks met_known (now own) made next laid =
      let it = now_is draft piece own next laid in
      let adds = adds_now piece own draft it.0 in
      subst (λ (d : Draft). Came known (piece_is piece) (met_piece piece passed.met) (λ names. Unit {0}) draft d (PieceIs passed piece value)) it.1 (record {
        adds = adds;
        spells = λ all names fits holds counted.
            let here = back known all names passed.met (met_piece piece passed.met) (piece_is piece) draft (grown piece draft own false []) adds marks fits (still_piece piece passed.met known fresh) in
            now_spells known all names passed draft here met_known piece value has own made it.0 fits;
      })
  form_came passed piece value has draft fresh marks met_known (later form width term) made next laid =
      let it = later_is draft piece form width term next laid in
      let adds = adds_later piece form width term draft it.0 in
      let grew = grown piece draft (zeros (nat_abs width)) true (late_at draft form width term ∷ []) in
      subst (λ (d : Draft). Came known (piece_is piece) (met_piece piece passed.met) (λ names. Unit {0}) draft d (PieceIs passed piece value)) it.1 (record {
        adds = adds;
        spells = λ all names fits holds counted.
            let here = back known all names passed.met (met_piece piece passed.met) (piece_is piece) draft grew adds marks fits (still_piece piece passed.met known fresh) in
            late_spells known all names passed draft here met_known piece value has form width term made it.0 holds.0;
      })

  pub piece_came : (passed : Passed) (piece : Piece) (value : Option Tree) → PieceValue piece value → (draft next : Draft) → Fresh (piece_is piece) passed.met → length draft.late ≡ length draft.bits
      → MetKnown passed.met draft.known → lay known draft piece value ≡ Ok next
      → Came known (piece_is piece) (met_piece piece passed.met) (λ names. Unit {0}) draft next (PieceIs passed piece value)
  piece_came passed piece value has draft next fresh marks met_known is =
      let inner = chained (piece_form known draft piece value) (with_form draft piece) next is in
      form_came passed piece value has draft fresh marks met_known inner.value inner.is next inner.leads
