-- What a step of the first pass adds to a draft.
use Rattle.std.proofs.Common.{◌≡◌, ℕ, ◌+◌, ◌≤◌, ℤ, Bool, true, false, ◌||◌, not, List, [], ◌∷◌, ◌++◌, length, take, drop, replicate, Option, Ok, Err, refl, sym, ap, subst, ◌∙◌, arith}
use Rattle.std.specs.Prelude.{if◌then◌else◌, nat_abs, nat_lt}
use Rattle.std.specs.Option.{is_some}
use Rattle.std.proofs.lemmas.Bool.{ltb-false}
use Rattle.std.proofs.lemmas.List.{append_assoc, append-nil, drop_at, length-append, length-take-le, take_at}
use Rattle.rz_core.proofs.Tests.{or_false, true_false}
use Rattle.rz_core.specs.declared.facts.Facts.{Facts}
use Rattle.rz_bits.specs.BitBuf.{zeros}
use Rattle.rz_expr.specs.Environment.{place_in, rows_of, Environment, Key}
use Rattle.rz_expr.specs.Term.{Term}
use Rattle.rz_types_fields.specs.declared.field.NumForm.{NumForm}
use Rattle.rz_types_fields.specs.Laid.{grown, late_at, later, now, too_long, with_form, with_room, Draft, LateNumber}
use Rattle.rz_types_fields.specs.Passed.{Names}
use Rattle.rz_types_fields.specs.Piece.{Piece}
use Rattle.rz_types_fields.specs.Sees.{Late}
use Rattle.rz_types_fields.specs.Spells.{most_bits, put, RowSpells, Then}
use Rattle.rz_types_fields.specs.declared.tree.Tree.{Tree}
use Rattle.rz_layout.proofs.Filled.{each_both, same_ok, Each}
use Rattle.rz_layout.proofs.Fitting.{fits_met, piece_is, placed_is, placed_none, Fits, SamePlaces}
use Rattle.rz_layout.proofs.Later.{is_later}
use Rattle.rz_layout.proofs.Masks.{length-marks, length-masked, masked, masked-append, masked_all, masked_none, take-plus}
use Rattle.rz_layout.proofs.Labels.{label_key, met_more, MetKnown}
use Rattle.rz_layout.proofs.Sees.{not_false, Alike}
use Rattle.rz_layout.proofs.Tracks.{tracks-append, Holds, Tracks}

abbrev pub IsAny : LateNumber → Type 0
IsAny one = Unit {0}

pub record Adds (labels : Key → Bool) (draft next : Draft) : Type 0 where
  pub bits : List Bool
  pub marks : Late
  pub bits_are : next.bits ≡ draft.bits ++ bits
  pub marks_are : next.late ≡ draft.late ++ marks
  pub same : length marks ≡ length bits
  pub is_zero : bits ≡ masked marks bits
  pub numbers : List LateNumber
  pub numbers_are : next.numbers ≡ draft.numbers ++ numbers
  pub tracks : Tracks IsAny (length draft.bits) numbers marks
  pub short : length next.bits ≤ most_bits
  pub names_are : (key : Key) → labels key ≡ false → next.known.give key ≡ draft.known.give key
  pub given : (in_rows : Bool) (name : List ℕ) → labels (label_key in_rows name) ≡ true → is_some (next.known.give (label_key in_rows name)) ≡ true

abbrev pub adds_none : (draft : Draft) → length draft.bits ≤ most_bits → Adds (λ key. false) draft draft
adds_none draft short = record {
  bits = [];
  marks = [];
  bits_are = sym (append-nil draft.bits);
  marks_are = sym (append-nil draft.late);
  same = refl;
  is_zero = refl;
  numbers = [];
  numbers_are = sym (append-nil draft.numbers);
  tracks = refl;
  short = short;
  names_are = λ key none. refl;
  given = λ in_rows name is. absurd (true_false (sym is));
}

both_given : (one two : Key → Bool) (draft mid next : Draft) → Adds one draft mid → Adds two mid next → (in_rows : Bool) (name : List ℕ) → (one (label_key in_rows name) || two (label_key in_rows name)) ≡ true
    → is_some (next.known.give (label_key in_rows name)) ≡ true
both_given one two draft mid next a b in_rows name is = by (two (label_key in_rows name)) (one (label_key in_rows name)) refl refl is
  where
    by : (x y : Bool) → two (label_key in_rows name) ≡ x → one (label_key in_rows name) ≡ y → (one (label_key in_rows name) || two (label_key in_rows name)) ≡ true → is_some (next.known.give (label_key in_rows name)) ≡ true
    by true y is also so = b.given in_rows name is
    by false true is also so = ap is_some (b.names_are (label_key in_rows name) is) ∙ a.given in_rows name also
    by false false is also so = absurd (true_false (sym so ∙ ap (λ (c : Bool). c || two (label_key in_rows name)) also ∙ is))

abbrev adds_both : (one two : Key → Bool) (draft mid next : Draft) → Adds one draft mid → Adds two mid next → Adds (λ key. one key || two key) draft next
adds_both one two draft mid next a b = record {
  bits = a.bits ++ b.bits;
  marks = a.marks ++ b.marks;
  bits_are = b.bits_are ∙ ap (λ (x : List Bool). x ++ b.bits) a.bits_are ∙ append_assoc draft.bits a.bits b.bits;
  marks_are = b.marks_are ∙ ap (λ (x : Late). x ++ b.marks) a.marks_are ∙ append_assoc draft.late a.marks b.marks;
  same = length-append a.marks b.marks ∙ (let x = a.same in let y = b.same in let z = length-append a.bits b.bits in omega (arith, x, y, z));
  is_zero = (λ i. a.is_zero i ++ b.is_zero i) ∙ sym (masked-append a.marks b.marks a.bits b.bits a.same);
  numbers = a.numbers ++ b.numbers;
  numbers_are = b.numbers_are ∙ ap (λ (x : List LateNumber). x ++ b.numbers) a.numbers_are ∙ append_assoc draft.numbers a.numbers b.numbers;
  tracks = tracks-append IsAny (length draft.bits) a.numbers b.numbers a.marks b.marks a.tracks
      (subst (λ (k : ℕ). Tracks IsAny k b.numbers b.marks) (ap length a.bits_are ∙ length-append draft.bits a.bits ∙ ap (λ (k : ℕ). length draft.bits + k) (sym a.same)) b.tracks);
  short = b.short;
  names_are = λ key none. let each = or_false (one key) (two key) none in b.names_are key each.1 ∙ a.names_are key each.0;
  given = both_given one two draft mid next a b;
}

pub adds_marks : (labels : Key → Bool) (draft next : Draft) → Adds labels draft next → length draft.late ≡ length draft.bits → length next.late ≡ length next.bits
adds_marks labels draft next a marks =
    let x = ap length a.bits_are in let y = ap length a.marks_are in let z = length-append draft.bits a.bits in let w = length-append draft.late a.marks in let s = a.same in omega (arith, x, y, z, w, s, marks)

-- other words for the labels
abbrev pub adds_labels : (one two : Key → Bool) (draft next : Draft) → ((key : Key) → one key ≡ two key) → Adds one draft next → Adds two draft next
adds_labels one two draft next same a = record {
  bits = a.bits;
  marks = a.marks;
  bits_are = a.bits_are;
  marks_are = a.marks_are;
  same = a.same;
  is_zero = a.is_zero;
  numbers = a.numbers;
  numbers_are = a.numbers_are;
  tracks = a.tracks;
  short = a.short;
  names_are = λ key none. a.names_are key (same key ∙ none);
  given = λ in_rows name is. a.given in_rows name (same (label_key in_rows name) ∙ is);
}

-- A piece.

room_is : (draft : Draft) (count : ℕ) (next after : Draft) → with_room draft count next ≡ Ok after → (length draft.bits + count ≤ most_bits) × (next ≡ after)
room_is draft count next after is = by (nat_lt most_bits (length draft.bits + count)) refl is
  where
    by : (test : Bool) → nat_lt most_bits (length draft.bits + count) ≡ test → (if test then Err (too_long draft (length draft.bits + count)) else Ok next) ≡ Ok after
        → (length draft.bits + count ≤ most_bits) × (next ≡ after)
    by true over so = absurd cc
    by false over so = (ltb-false most_bits (length draft.bits + count) over, same_ok next after so)

pub now_is : (draft : Draft) (piece : Piece) (bits : List Bool) (next : Draft) → with_form draft piece (now bits) ≡ Ok next → (length draft.bits + length bits ≤ most_bits) × (grown piece draft bits false [] ≡ next)
now_is draft piece bits next is = room_is draft (length bits) (grown piece draft bits false []) next is

pub later_is : (draft : Draft) (piece : Piece) (form : NumForm) (width : ℤ) (term : Term) (next : Draft) → with_form draft piece (later form width term) ≡ Ok next
    → (length draft.bits + nat_abs width ≤ most_bits) × (grown piece draft (zeros (nat_abs width)) true (late_at draft form width term ∷ []) ≡ next)
later_is draft piece form width term next is = room_is draft (nat_abs width) (grown piece draft (zeros (nat_abs width)) true (late_at draft form width term ∷ [])) next is

abbrev pub adds_now : (piece : Piece) (bits : List Bool) (draft : Draft) → length draft.bits + length bits ≤ most_bits → Adds (piece_is piece) draft (grown piece draft bits false [])
adds_now piece bits draft short = record {
  bits = bits;
  marks = replicate (length bits) false;
  bits_are = refl;
  marks_are = refl;
  same = length-marks (length bits) false;
  is_zero = sym (masked_none bits);
  numbers = [];
  numbers_are = refl;
  tracks = ap (λ (n : ℕ). replicate n false) (sym (length-marks (length bits) false));
  short = (let n = length-append draft.bits bits in omega (arith, n, short));
  names_are = placed_none piece (length draft.bits) draft.known;
  given = λ in_rows name is. ap is_some (placed_is piece (length draft.bits) draft.known (label_key in_rows name) is);
}

abbrev pub adds_later : (piece : Piece) (form : NumForm) (width : ℤ) (term : Term) (draft : Draft) → length draft.bits + nat_abs width ≤ most_bits
    → Adds (piece_is piece) draft (grown piece draft (zeros (nat_abs width)) true (late_at draft form width term ∷ []))
adds_later piece form width term draft short =
    let w = nat_abs width in
    let n = length-marks w false in
    record {
      bits = zeros w;
      marks = replicate w true;
      bits_are = refl;
      marks_are = ap (λ (k : ℕ). draft.late ++ replicate k true) n;
      same = length-marks w true ∙ sym n;
      is_zero = sym (ap (λ (k : ℕ). masked (replicate k true) (zeros w)) (sym n) ∙ masked_all (zeros w) ∙ ap zeros n);
      numbers = late_at draft form width term ∷ [];
      numbers_are = refl;
      tracks = (0, [], omega arith, sym (append-nil (replicate w true)), tt, refl);
      short = (let m = length-append draft.bits (zeros w) in omega (arith, m, short, n));
      names_are = placed_none piece (length draft.bits) draft.known;
      given = λ in_rows name is. ap is_some (placed_is piece (length draft.bits) draft.known (label_key in_rows name) is);
    }

-- Where the draft after a step fits, the one before it does.

pub record Front (all : List Bool) (draft : Draft) (bits : List Bool) (marks : Late) : Type 0 where
  pub front : draft.bits ≡ masked draft.late (take (length draft.bits) all)
  pub behind : bits ≡ masked marks (take (length bits) (drop (length draft.bits) all))
  pub within : length draft.bits ≤ length all

pub front_of : (all : List Bool) (draft : Draft) (bits marks xs late : List Bool) → length draft.late ≡ length draft.bits → length marks ≡ length bits → xs ≡ draft.bits ++ bits → late ≡ draft.late ++ marks
    → xs ≡ masked late (take (length xs) all) → length xs ≤ length all → Front all draft bits marks
front_of all draft bits marks xs late n m x l f w =
    let a = length draft.bits in
    let len : length xs ≡ a + length bits = ap length x ∙ length-append draft.bits bits in
    let front_len : length (take a all) ≡ a = length-take-le a all (omega (arith, len, w)) in
    let both : draft.bits ++ bits ≡ masked draft.late (take a all) ++ masked marks (take (length bits) (drop a all)) =
    sym x ∙ f ∙ ap (masked late) (ap (λ (k : ℕ). take k all) len ∙ take-plus a (length bits) all) ∙ ap (λ (k : Late). masked k (take a all ++ take (length bits) (drop a all))) l
    ∙ masked-append draft.late marks (take a all) (take (length bits) (drop a all)) (n ∙ sym front_len) in
    let masked_len : length (masked draft.late (take a all)) ≡ a = length-masked draft.late (take a all) ∙ front_len in
    record {
      front = sym (take_at draft.bits bits a refl) ∙ ap (take a) both ∙ take_at (masked draft.late (take a all)) (masked marks (take (length bits) (drop a all))) a masked_len;
      behind = sym (drop_at draft.bits bits a refl) ∙ ap (drop a) both ∙ drop_at (masked draft.late (take a all)) (masked marks (take (length bits) (drop a all))) a masked_len;
      within = omega (arith, len, w);
    }

-- What a step came from.

module _ (known : Facts) where
  abbrev pub FitsAll : List Bool → Environment → Names → Draft → Type 0
  FitsAll all names met draft = Fits known all names met (length draft.bits) draft.late draft

  -- what was met before a step is met after it, and isn't among its labels
  abbrev pub Still : Names → (Key → Bool) → Names → Type 0
  Still met labels after = (key : Key) → is_later met key ≡ false → (labels key ≡ false) × (is_later after key ≡ false)

  -- names that are alike after a step were so before it
  pub alike_back : (labels : Key → Bool) (met after : Names) (draft next names : Environment) → ((key : Key) → labels key ≡ false → next.give key ≡ draft.give key) → Still met labels after → Alike after next names
      → Alike met draft names
  alike_back labels met after draft next names same still alike = record {
    names = λ key single early. let each = still key early in sym (same key each.0) ∙ alike.names key single each.1;
    places = λ label rows number was is inside.
        let key : Key = place_in label number in
        let each = still key (ap not was) in
        sym (same key each.0) ∙ alike.places label rows number (not_false (after (rows_of label)) each.1) is inside;
  }

  pub back : (all : List Bool) (names : Environment) (met after : Names) (labels : Key → Bool) (draft next : Draft) → Adds labels draft next → length draft.late ≡ length draft.bits → FitsAll all names after next
      → Still met labels after → FitsAll all names met draft
  back all names met after labels draft next a marks fits still =
      let w = front_of all draft a.bits a.marks next.bits next.late marks a.same a.bits_are a.marks_are fits.bits fits.within in
      record {
        bits = w.front;
        len = refl;
        late_is = refl;
        marks = marks;
        within = w.within;
        names_are = alike_back labels met after draft.known next.known names a.names_are still fits.names_are;
      }

  -- where all bits fit the draft after it, hold its late numbers, and its arrays are counted, they spell it
  pub record Came (labels : Key → Bool) (met : Names) (Counted : Environment → Type 0) (draft next : Draft) (Is : List Bool → Environment → RowSpells) : Type 0 where
    pub adds : Adds labels draft next
    pub spells : (all : List Bool) (names : Environment) → FitsAll all names met next → Each (Holds known all names) adds.numbers → Counted names
        → Is all names (length draft.bits) draft.late (length next.bits) next.late

  pub came_met : (labels : Key → Bool) (one two : Names) (Counted : Environment → Type 0) (draft next : Draft) (Is : List Bool → Environment → RowSpells) → SamePlaces one two
      → Came labels one Counted draft next Is → Came labels two Counted draft next Is
  came_met labels one two Counted draft next Is same came = record {
    adds = came.adds;
    spells = λ all names fits holds counted. came.spells all names (fits_met known all names two one (λ in_rows name. sym (same in_rows name)) (length next.bits) next.late next fits) holds counted;
  }

  pub came_labels : (one two : Key → Bool) (met : Names) (Counted : Environment → Type 0) (draft next : Draft) (Is : List Bool → Environment → RowSpells) → ((key : Key) → one key ≡ two key)
      → Came one met Counted draft next Is → Came two met Counted draft next Is
  came_labels one two met Counted draft next Is same came = record { adds = adds_labels one two draft next same came.adds; spells = came.spells }

  pub then_came : (one two : Key → Bool) (met after : Names) (CountedOne CountedTwo : Environment → Type 0) (value : Option Tree) (rest values : List Tree) → values ≡ put value rest
      → (One : List Bool → Environment → Option Tree → RowSpells) (Others : List Bool → Environment → List Tree → RowSpells) (draft mid next : Draft) → length draft.late ≡ length draft.bits
      → Came one met CountedOne draft mid (λ all names. One all names value) → Came two after CountedTwo mid next (λ all names. Others all names rest) → Still met two after
      → Came (λ key. one key || two key) after (λ names. CountedOne names × CountedTwo names) draft next (λ all names. Then (One all names) (Others all names) values)
  then_came one two met after CountedOne CountedTwo value rest values are One Others draft mid next marks a b still = record {
    adds = adds_both one two draft mid next a.adds b.adds;
    spells = λ all names fits holds counted.
        let each = each_both (Holds known all names) a.adds.numbers b.adds.numbers holds in
        let front = back all names met after two mid next b.adds (adds_marks one draft mid a.adds marks) fits still in
        (value, rest, length mid.bits, mid.late, are, a.spells all names front each.0 counted.0, b.spells all names fits each.1 counted.1);
  }

  -- rows one after the other, and what is known after a step
  pub known_behind : (labels : Key → Bool) (met : Names) (draft next : Draft) → Adds labels draft next → MetKnown met draft.known → MetKnown (λ key. labels key || met key) next.known
  known_behind labels met draft next a met_known = met_more labels met draft.known next.known met_known a.names_are a.given

  pub both_came : (one two : Key → Bool) (met after : Names) (CountedOne CountedTwo : Environment → Type 0) (draft mid next : Draft) (One Others Both : List Bool → Environment → RowSpells) → length draft.late ≡ length draft.bits
      → ((all : List Bool) (names : Environment) → One all names (length draft.bits) draft.late (length mid.bits) mid.late → Others all names (length mid.bits) mid.late (length next.bits) next.late
      → Both all names (length draft.bits) draft.late (length next.bits) next.late)
      → Came one met CountedOne draft mid One → Came two after CountedTwo mid next Others → Still met two after
      → Came (λ key. one key || two key) after (λ names. CountedOne names × CountedTwo names) draft next Both
  both_came one two met after CountedOne CountedTwo draft mid next One Others Both marks joined a b still = record {
    adds = adds_both one two draft mid next a.adds b.adds;
    spells = λ all names fits holds counted.
        let each = each_both (Holds known all names) a.adds.numbers b.adds.numbers holds in
        let front = back all names met after two mid next b.adds (adds_marks one draft mid a.adds marks) fits still in
        joined all names (a.spells all names front each.0 counted.0) (b.spells all names fits each.1 counted.1);
  }

  -- other words for what is counted, and for what is spelled
  pub came_counted : (labels : Key → Bool) (met : Names) (One Two : Environment → Type 0) (draft next : Draft) (Is : List Bool → Environment → RowSpells) → ((names : Environment) → Two names → One names)
      → Came labels met One draft next Is → Came labels met Two draft next Is
  came_counted labels met One Two draft next Is so came = record { adds = came.adds; spells = λ all names fits holds counted. came.spells all names fits holds (so names counted) }

  pub came_is : (labels : Key → Bool) (met : Names) (Counted : Environment → Type 0) (draft next : Draft) (One Two : List Bool → Environment → RowSpells)
      → ((all : List Bool) (names : Environment) → Counted names → One all names (length draft.bits) draft.late (length next.bits) next.late → Two all names (length draft.bits) draft.late (length next.bits) next.late)
      → Came labels met Counted draft next One → Came labels met Counted draft next Two
  came_is labels met Counted draft next One Two so came = record { adds = came.adds; spells = λ all names fits holds counted. so all names counted (came.spells all names fits holds counted) }
