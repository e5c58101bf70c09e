-- Notes of names: which names they give, and what the body that is left with them keeps.
use Rattle.std.proofs.Common.{◌≡◌, ℕ, zero, suc, ◌+◌, ◌<◌, ◌≤◌, ◌||◌, Bor, Bool, true, false, ℤ, pos, List, [], ◌∷◌, ◌++◌, length, get_or, take, drop, map, Option, Some, None, Result, Ok, Err, refl, sym, ap, subst, ◌∙◌, arith}
use Rattle.std.specs.Prelude.{if◌then◌else◌, nat_lt, IfOk}
use Rattle.std.specs.Option.{is_some}
use Rattle.std.proofs.lemmas.Bool.{ltb-false}
use Rattle.std.proofs.Math.Seq.{drop-append_seam, take-append_seam}
use Rattle.std.proofs.lemmas.List.{append_assoc, append-nil}
use Rattle.rz_core.specs.Stop.{◌>>=◌, Gives, Meets, fault_seen, left}
use Rattle.rz_core.specs.declared.facts.Facts.{Facts}
use Rattle.rz_core.specs.declared.stop.Stop.{Stop}
use Rattle.rz_core.specs.declared.stop.Stop.TheVariants.{NoMemory, Refused}
use Rattle.rz_layout.specs.Sound.{AreSound}
use Rattle.rz_layout.specs.Fault.{refusal_of}
use Rattle.rz_layout.specs.declared.fault.LayFault.{LayFault}
use Rattle.rz_types_fields.specs.Spells.{most_bits}
use Rattle.rz_types_fields.specs.declared.tree.Tree.{Tree}
use Rattle.rz_expr.specs.Environment.{Environment, Key}
use Rattle.rz_types_fields.specs.Sees.{marked}
use Rattle.rz_layout.specs.Laid.{draft_of, has_name, has_names, is_in_named, kept_late, IsEntered, IsLeft, IsNotedBy, IsShort}
use Rattle.rz_layout.specs.Late.{behind_notes, closed_by, numbers_in}
use Rattle.rz_layout.specs.Places.{IsRowLaid}
use Rattle.rz_layout.specs.declared.laid.Laid.{Laid}
use Rattle.rz_layout.specs.declared.late.Late.{Late as HeldLate}
use Rattle.rz_layout.proofs.EachRow.{row_drafted, row_end}
use Rattle.rz_types_fields.proofs.Bodies.{body_next}
use Rattle.rz_types_fields.proofs.RowKeys.{no_labels}
use Rattle.rz_types_fields.specs.Field.{field_and, no_fields, plain_body, plain_field, takes_value, Align, Array, Fill, Label, Number, Points, Switch, Text, PlainBody, PlainField}
use Rattle.rz_types_fields.specs.Front.{stated_in, value_inside}
use Rattle.rz_types_fields.specs.Known.{known, noted, noting, which_of, IsFront}
use Rattle.rz_types_fields.specs.RowLabels.{is_row, numbers_row, row_number, RowOf}
use Rattle.rz_types_fields.specs.FlatRows.{labels_count}
use Rattle.rz_types_fields.specs.declared.names.InRow.{InRow}
use Rattle.rz_types_fields.specs.Laid.{body_laid, closing, counted, enter, entered, field_laid, first_value, leave, most_kept, other_values, outside_of, placed, row_ended, row_laid, with_field, Draft, Ended, LateNumber, Refusal}
use Rattle.rz_types_fields.specs.Passed.{declares, gives_key, outside, stands_at, Names}
use Rattle.rz_core.specs.declared.resource.Word.{Word}
use Rattle.rz_types_fields.proofs.Fronts.{noted_append}
use Rattle.rz_types_fields.proofs.Noting.{known_more}
use Rattle.rz_types_fields.specs.Piece.{Place}
use Rattle.rz_types_fields.specs.declared.field.Field.{Field}
use Rattle.rz_types_fields.specs.declared.names.Note.{Note}
use Rattle.rz_types_fields.specs.declared.names.Note.TheVariants.{Placed}

pub noted_none : (gives : Names) (notes : List Note) → IsNotedBy gives notes notes
noted_none gives notes = record { more = []; grew = sym (append-nil notes); others = λ key before not_given. refl }

pub noted_same : (gives : Names) (old new : List Note) → new ≡ old → IsNotedBy gives old new
noted_same gives old new is = record { more = []; grew = is ∙ sym (append-nil old); others = λ key before not_given. refl }

pub noted_if : (gives : Names) (old new : List Note) (result : Result (Unit {0}) (Stop LayFault)) → IfOk result (λ nothing. new ≡ old) → IfOk result (λ nothing. IsNotedBy gives old new)
noted_if gives old new (Ok nothing) is = noted_same gives old new is
noted_if gives old new (Err stop) is = tt

pub noted_one : (gives : Names) (old new : List Note) (note : Note) → new ≡ old ++ note ∷ [] → ((key : Key) (before : Option ℤ) → gives key ≡ false → noting note key before ≡ before)
    → IsNotedBy gives old new
noted_one gives old new note is same = record { more = note ∷ []; grew = is; others = same }

pub counted_else : (test : Bool) (rows : ℤ) (before : Option ℤ) → test ≡ false → (if test then Some rows else before) ≡ before
counted_else test rows before none = ap (λ (t : Bool). if t then Some rows else before) none

pub noted_wider : (gives wider : Names) (old new : List Note) → ((key : Key) → wider key ≡ false → gives key ≡ false) → IsNotedBy gives old new → IsNotedBy wider old new
noted_wider gives wider old new within it = record { more = it.more; grew = it.grew; others = λ key before not_given. it.others key before (within key not_given) }

pub noted_both : (gives : Names) (old mid new : List Note) → IsNotedBy gives old mid → IsNotedBy gives mid new → IsNotedBy gives old new
noted_both gives old mid new one other = record {
  more = one.more ++ other.more;
  grew = other.grew ∙ ap (λ (front : List Note). front ++ other.more) one.grew ∙ append_assoc old one.more other.more;
  others = λ key before not_given.
      noted_append before one.more other.more key ∙ other.others key (noted before one.more key) not_given ∙ one.others key before not_given;
}

pub noted_back : (gives : Names) (old mid new : List Note) → mid ≡ old → IsNotedBy gives mid new → IsNotedBy gives old new
noted_back gives old mid new is it = record { more = it.more; grew = it.grew ∙ ap (λ (front : List Note). front ++ it.more) is; others = it.others }

pub entered_more : (which : Option RowOf) (body : PlainBody) (old mid new : List Note) → IsFront which body old mid → IsNotedBy (declares body) mid new → IsEntered which body old new
entered_more which body old mid new is it = record {
  front = is.more;
  more = it.more;
  grew = it.grew ∙ ap (λ (front : List Note). front ++ it.more) is.grew;
  values = is.values_are;
  others = it.others;
}

pub note_placed : (name : Bor Word) (old new : List Note) (place : ℤ) (at : ℕ) → new ≡ old ++ Placed name place ∷ [] → place ≡ pos at → known new ≡ placed (Place name.now) at (known old)
note_placed name old new place at is same =
    ap known is ∙ known_more old (Placed name place)
    ∙ (λ i. record { give = λ key. if stands_at name.now.bytes key then Some (same i) else (known old).give key })

-- What the fields of a body give, its first ones and each of them.

or_left : (a b : Bool) → (a || b) ≡ false → a ≡ false
or_left true b none = none
or_left false b none = refl

or_right : (a b : Bool) → (a || b) ≡ false → b ≡ false
or_right true b none = absurd cc
or_right false b none = none

others_declare : (fields : List Field) (i : ℕ) (key : Key) → declares (plain_body fields) key ≡ false → declares (plain_body (drop i fields)) key ≡ false
others_declare fields zero key none = none
others_declare [] (suc i) key none = none
others_declare (field ∷ fields) (suc i) key none =
    others_declare fields i key (or_right (gives_key (plain_field field) key) (declares (plain_body fields) key) none)

pub each_declares : (fields : List Field) (i : ℕ) (field : Field) → i < length fields → field ≡ get_or fields i field → (key : Key)
    → declares (plain_body fields) key ≡ false → gives_key (plain_field field) key ≡ false
each_declares fields i field less item key none =
    or_left (gives_key (plain_field field) key) (declares (plain_body (drop (i + 1) fields)) key)
    (ap (λ (body : PlainBody). declares body key) (sym (body_next fields i field less item)) ∙ others_declare fields i key none)

-- one more field of a body that is entered
pub counted_next : (fields : List Field) (i : ℕ) (field : Field) → i < length fields → field ≡ get_or fields i field → (values others : List Tree) (value : Option Tree) (takes : Bool)
    (before after all : Environment) → takes ≡ takes_value (plain_field field) → value ≡ first_value takes values → others ≡ other_values takes values
    → after ≡ with_field (plain_field field) value before → counted (plain_body (drop i fields)) values before ≡ all → counted (plain_body (drop (i + 1) fields)) others after ≡ all
counted_next fields i field less item values others value takes before after all same first rest is so =
    let behind = plain_body (drop (i + 1) fields) in
    ap (counted behind others) is
    ∙ (λ j. counted behind ((rest ∙ ap (λ (t : Bool). other_values t values) same) j) (with_field (plain_field field) ((first ∙ ap (λ (t : Bool). first_value t values) same) j) before))
    ∙ sym (ap (λ (body : PlainBody). counted body values before) (body_next fields i field less item))
    ∙ so

-- one more field of a body that is laid
pub fields_next : (facts : Facts) (fields : List Field) (i : ℕ) (field : Field) → i < length fields → field ≡ get_or fields i field → (values others : List Tree) (value : Option Tree) (takes : Bool)
    (draft next : Draft) (all : Result Draft Refusal) → takes ≡ takes_value (plain_field field) → value ≡ first_value takes values → others ≡ other_values takes values
    → field_laid facts draft (plain_field field) value ≡ Ok next → body_laid facts draft (plain_body (drop i fields)) values ≡ all
    → body_laid facts next (plain_body (drop (i + 1) fields)) others ≡ all
fields_next facts fields i field less item values others value takes draft next all same first rest is so =
    let behind = plain_body (drop (i + 1) fields) in
    sym (ap (λ (r : Result Draft Refusal). r >>= λ n. body_laid facts n behind others) is)
    ∙ (λ j. field_laid facts draft (plain_field field) ((first ∙ ap (λ (t : Bool). first_value t values) same) j) >>= λ n. body_laid facts n behind ((rest ∙ ap (λ (t : Bool). other_values t values) same) j))
    ∙ sym (ap (λ (body : PlainBody). body_laid facts draft body values) (body_next fields i field less item))
    ∙ so

pub sound_next : (fields : List Field) (i : ℕ) (field : Field) → i < length fields → field ≡ get_or fields i field → (values others : List Tree) (takes : Bool)
    → takes ≡ takes_value (plain_field field) → others ≡ other_values takes values → AreSound (plain_body (drop i fields)) values → AreSound (plain_body (drop (i + 1) fields)) others
sound_next fields i field less item values others takes same rest sound =
    let all : AreSound (field_and (plain_field field) (plain_body (drop (i + 1) fields))) values =
    subst (λ (body : PlainBody). AreSound body values) (body_next fields i field less item) sound in
    subst (AreSound (plain_body (drop (i + 1) fields))) (sym (rest ∙ ap (λ (t : Bool). other_values t values) same)) all.1

-- A body without names, which is no row of an array that has one.

not_more : (count : ℕ) → nat_lt 0 count ≡ false → count ≡ 0
not_more count none = let most = ltb-false 0 count none in omega (arith, most)

nameless_field : (field : PlainField) → has_name field ≡ false → (key : Key) → gives_key field key ≡ false
nameless_field (Number number) none key = refl
nameless_field (Text text) none key = refl
nameless_field (Points points) none key = refl
nameless_field (Fill unit count) none key = refl
nameless_field (Align unit) none key = refl
nameless_field (Label name) none key = absurd cc
nameless_field (Array None count row) none key = no_labels row (not_more (labels_count row) none) key
nameless_field (Array (Some name) count row) none key = absurd cc
nameless_field (Switch cases) none key = refl

nameless : (body : PlainBody) → has_names body ≡ false → (key : Key) → declares body key ≡ false
nameless no_fields none key = refl
nameless (field_and field fields) none key =
    (λ i. nameless_field field (or_left (has_name field) (has_names fields) none) key i || nameless fields (or_right (has_name field) (has_names fields) none) key i)

unnumbered : (name : Option Word) → is_some name ≡ false → (key : Key) → numbers_row name key ≡ false
unnumbered None none key = refl
unnumbered (Some name) none key = absurd cc

no_row : (which : Option RowOf) → is_in_named which ≡ false → (key : Key) → is_row which key ≡ false
no_row None none key = refl
no_row (Some row) none key = unnumbered row.name none key

-- the key is a name of a body: one of its own, or the number of the row that it is
abbrev is_own : Option RowOf → PlainBody → Key → Bool
is_own which body key = is_row which key || declares body key

module _ (which : Option RowOf) (body : PlainBody) (none : (is_in_named which || has_names body) ≡ false) (own : Environment) where
  nothing_own : (key : Key) → is_own which body key ≡ false
  nothing_own key =
      (λ i. no_row which (or_left (is_in_named which) (has_names body) none) key i || nameless body (or_right (is_in_named which) (has_names body) none) key i)

  nothing_outside : (outer : Environment) → outside_of which body own outer ≡ outer
  nothing_outside outer = λ i. record { give = λ key. (if nothing_own key i then own.give key else outer.give key) }

  nothing_closed : (one : LateNumber) → closing which body own one ≡ one
  nothing_closed one = λ i. record {
    piece = one.piece;
    at = one.at;
    form = one.form;
    width = one.width;
    term = one.term;
    names = λ outer. one.names (nothing_outside outer i);
  }

  none_closed : (numbers : List LateNumber) → map (closing which body own) numbers ≡ numbers
  none_closed [] = refl
  none_closed (one ∷ numbers) = λ i. nothing_closed one i ∷ none_closed numbers i

-- A body that is left.

by_own : (row own : Bool) (number stated one other : Option ℤ) → (row || own) ≡ true
    → (if row then number else if own then stated else one) ≡ (if row then number else if own then stated else other)
by_own true own number stated one other is = refl
by_own false true number stated one other is = refl
by_own false false number stated one other is = absurd cc

by_outer : (row own : Bool) (number stated one : Option ℤ) → (row || own) ≡ false → (if row then number else if own then stated else one) ≡ one
by_outer true own number stated one is = absurd cc
by_outer false true number stated one is = absurd cc
by_outer false false number stated one is = refl

module _ (place : Option RowOf) (body : PlainBody) (old front more : List Note)
    (values : (key : Key) (before : Option ℤ) → noted before front key ≡ value_inside place body key before)
    (others : (key : Key) (before : Option ℤ) → declares body key ≡ false → noted before more key ≡ before) where
  abbrev own : List Note
  own = front ++ more

  own_noted : (before : Option ℤ) (key : Key) → noted before own key ≡ noted (value_inside place body key before) more key
  own_noted before key = noted_append before front more key ∙ ap (λ (v : Option ℤ). noted v more key) (values key before)

  abbrev chosen : Environment → Key → Bool → Option ℤ
  chosen outer key test = if test then (known (old ++ own)).give key else outer.give key

  value_is : (outer : Environment) (key : Key) → chosen outer key (is_own place body key) ≡ noted (outer.give key) own key
  value_is outer key = by (is_own place body key) refl
    where
      by : (test : Bool) → is_own place body key ≡ test → chosen outer key (is_own place body key) ≡ noted (outer.give key) own key
      by true is =
          ap (chosen outer key) is
          ∙ noted_append (outside.give key) old own key
          ∙ own_noted (noted (outside.give key) old key) key
          ∙ ap (λ (v : Option ℤ). noted v more key)
          (by_own (is_row place key) (declares body key) (row_number place) (stated_in body key) (noted (outside.give key) old key) (outer.give key) is)
          ∙ sym (own_noted (outer.give key) key)
      by false is =
          ap (chosen outer key) is
          ∙ sym (own_noted (outer.give key) key
          ∙ ap (λ (v : Option ℤ). noted v more key) (by_outer (is_row place key) (declares body key) (row_number place) (stated_in body key) (outer.give key) is)
          ∙ others key (outer.give key) (or_right (is_row place key) (declares body key) is))

  names_are : (outer : Environment) → outside_of place body (known (old ++ own)) outer ≡ behind_notes own outer
  names_are outer = λ i. record { give = λ key. value_is outer key i }

  pub closing_is : (one : LateNumber) → closing place body (known (old ++ own)) one ≡ closed_by own one
  closing_is one = λ i. record {
    piece = one.piece;
    at = one.at;
    form = one.form;
    width = one.width;
    term = one.term;
    names = λ outer. one.names (names_are outer i);
  }

  all_closed : (numbers : List LateNumber) → map (closing place body (known (old ++ own))) numbers ≡ map (closed_by own) numbers
  all_closed [] = refl
  all_closed (one ∷ numbers) = λ i. closing_is one i ∷ all_closed numbers i

  pub all_kept : (has : Bool) → (is_in_named place || has_names body) ≡ has → (numbers : List LateNumber)
      → map (closing place body (known (old ++ own))) numbers ≡ kept_late has own numbers
  all_kept true is numbers = all_closed numbers
  all_kept false is numbers = none_closed place body is (known (old ++ own)) numbers

-- what was laid before a body, at its front, after its fields, and after its end
module _ (facts : Facts) (fields : Bor (List Field)) (which : Option InRow) (row : List Tree) (before start after new : Laid) (same_piece : start.piece ≡ before.piece)
    (same_bits : start.bits ≡ before.bits) (same_marks : start.marks ≡ before.marks)
    (known_is : known start.notes.items ≡ entered (which_of which) (plain_body fields.now) row (known before.notes.items)) (none : start.late ≡ []) where
  enter_is : enter (which_of which) (plain_body fields.now) row (draft_of before) ≡ draft_of start
  enter_is = λ i. record {
    piece = sym same_piece i;
    bits = sym same_bits i;
    late = marked (length (sym same_bits i)) (sym same_marks i);
    known = sym known_is i;
    numbers = sym (ap numbers_in none) i;
  }

  abbrev end_of : Draft → Ended
  end_of next = row_end (which_of which) (plain_body fields.now) (draft_of before) next

  ended_of : (body : Result Draft Refusal) → body_laid facts (draft_of start) (plain_body fields.now) row ≡ body
      → row_ended facts (which_of which) (plain_body fields.now) (draft_of before) row ≡ (body >>= λ next. Ok (end_of next))
  ended_of body is =
      ap (λ (draft : Draft). body_laid facts draft (plain_body fields.now) row >>= λ next. Ok (end_of next)) enter_is ∙ ap (λ (r : Result Draft Refusal). r >>= λ next. Ok (end_of next)) is

  pub row_refused : (stop : Stop LayFault) (draft : Draft) (old : List ℤ) → Gives (body_laid facts (draft_of start) (plain_body fields.now) row) (fault_seen refusal_of (left (draft_of after) (Err stop)))
      → Meets (fault_seen {X = List ℤ} refusal_of (Err stop)) (IsRowLaid (row_ended facts (which_of which) (plain_body fields.now) (draft_of before) row) (plain_body fields.now) draft old)
  row_refused NoMemory draft old laid = tt
  row_refused (Refused fault) draft old laid = ended_of (Err (refusal_of fault)) laid

  pub body_refused : (stop : Stop LayFault) (other : Draft) → Gives (body_laid facts (draft_of start) (plain_body fields.now) row) (fault_seen refusal_of (left (draft_of after) (Err stop)))
      → Gives (row_laid facts (which_of which) (plain_body fields.now) (draft_of before) row) (fault_seen refusal_of (left other (Err stop)))
  body_refused NoMemory other laid = tt
  body_refused (Refused fault) other laid = ap row_drafted (ended_of (Err (refusal_of fault)) laid)

  module _ (outer : List HeldLate) (within : IsEntered (which_of which) (plain_body fields.now) before.notes.items start.notes.items)
      (grew : IsNotedBy (declares (plain_body fields.now)) start.notes.items after.notes.items) (is_outer : outer ≡ before.late)
      (around : ℕ) (count : around ≡ length before.notes.items) (is : IsLeft (which_of which) (plain_body fields.now) outer around after new) where
    abbrev old : List Note
    old = before.notes.items

    abbrev more : List Note
    more = within.more ++ grew.more

    abbrev added : List Note
    added = within.front ++ more

    abbrev has : Bool
    has = is_in_named (which_of which) || has_names (plain_body fields.now)

    grown : after.notes.items ≡ old ++ added
    grown =
        grew.grew
        ∙ ap (λ (front : List Note). front ++ grew.more) within.grew
        ∙ append_assoc (old ++ within.front) within.more grew.more
        ∙ append_assoc old within.front more

    others : (key : Key) (value : Option ℤ) → declares (plain_body fields.now) key ≡ false → noted value more key ≡ value
    others key value not_given =
        noted_append value within.more grew.more key ∙ grew.others key (noted value within.more key) not_given ∙ within.others key value not_given

    pub notes_back : new.notes.items ≡ old
    notes_back = is.notes ∙ ap (λ (n : ℕ). take n after.notes.items) count ∙ ap (take (length old)) grown ∙ take-append_seam old added

    own_back : drop around after.notes.items ≡ added
    own_back = ap (λ (n : ℕ). drop n after.notes.items) count ∙ ap (drop (length old)) grown ∙ drop-append_seam old added

    numbers_left : numbers_in before.late ++ map (closing (which_of which) (plain_body fields.now) (known after.notes.items)) (numbers_in after.late) ≡ numbers_in new.late
    numbers_left =
        ap (λ (notes : List Note). numbers_in before.late ++ map (closing (which_of which) (plain_body fields.now) (known notes)) (numbers_in after.late)) grown
        ∙ ap (λ (kept : List LateNumber). numbers_in before.late ++ kept) (all_kept (which_of which) (plain_body fields.now) old within.front more within.values others has refl (numbers_in after.late))
        ∙ ap (λ (notes : List Note). numbers_in before.late ++ kept_late has notes (numbers_in after.late)) (sym own_back)
        ∙ ap (λ (lates : List HeldLate). numbers_in lates ++ kept_late has (drop around after.notes.items) (numbers_in after.late)) (sym is_outer)
        ∙ sym is.late

    left_is : leave (which_of which) (plain_body fields.now) (draft_of before) (draft_of after) ≡ draft_of new
    left_is = λ i. record {
      piece = sym is.piece i;
      bits = sym is.bits i;
      late = marked (length (sym is.bits i)) (sym is.marks i);
      known = known (sym notes_back i);
      numbers = numbers_left i;
    }

    -- what names have at the end of the body is what is noted there
    pub ended_is : body_laid facts (draft_of start) (plain_body fields.now) row ≡ Ok (draft_of after)
        → row_ended facts (which_of which) (plain_body fields.now) (draft_of before) row ≡ Ok (record { draft = draft_of new; own = known after.notes.items })
    ended_is laid = ended_of (Ok (draft_of after)) laid ∙ ap (λ (draft : Draft). Ok (record { draft = draft; own = known after.notes.items })) left_is

    pub body_is : body_laid facts (draft_of start) (plain_body fields.now) row ≡ Ok (draft_of after)
        → row_laid facts (which_of which) (plain_body fields.now) (draft_of before) row ≡ Ok (draft_of new)
    body_is laid = ap row_drafted (ended_is laid)

pub short_left : (which : Option RowOf) (row : PlainBody) (outer : List HeldLate) (around : ℕ) (after new : Laid) → IsLeft which row outer around after new → IsShort after → IsShort new
short_left which row outer around after new is short = record {
  few = subst (λ (bits : List Bool). length bits ≤ most_bits) (sym is.bits) short.few;
  marks = subst (λ (bits : List Bool). length new.marks ≤ length bits) (sym is.bits) (subst (λ (marks : List Bool). length marks ≤ length after.bits) (sym is.marks) short.marks);
  pieces = subst (λ (n : ℕ). n ≤ most_kept) (sym is.piece) short.pieces;
}
