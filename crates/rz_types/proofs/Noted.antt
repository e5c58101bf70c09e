-- What notes tell, one more at a time, and the fields that can be read after them.
use Rattle.std.proofs.Common.{◌≡◌, ℕ, ℤ, ◌+◌, ◌<◌, Bool, true, false, ◌&&◌, ◌||◌, List, [], ◌∷◌, ◌++◌, length, get_or, take, drop, map, append_assoc, Option, Some, None, refl, sym, ap, subst, ◌∙◌}
use Rattle.std.specs.Option.{is_some}
use Rattle.std.specs.Prelude.{if◌then◌else◌}
use Rattle.std.proofs.Math.Seq.{take-append_seam}
use Rattle.std.proofs.lemmas.List.{append-nil, drop_more}
use Rattle.rz_core.specs.Lists.{or_else}
use Rattle.rz_core.specs.declared.resource.Word.{Word}
use Rattle.rz_expr.specs.Environment.{Key}
use Rattle.rz_expr.specs.Term.{term_of, Term}
use Rattle.rz_expr.specs.declared.expr.Expr.{Expr}
use Rattle.rz_types_fields.specs.Field.{case_and, field_and, no_cases, no_fields, Align, Array, Fill, Label, Number, plain_body, plain_field, PlainBody, PlainCases, PlainField, Points, Switch, Text}
use Rattle.rz_types_fields.specs.Front.{stated_in, stated_value}
use Rattle.rz_types_fields.specs.Solve.{can_solve, is_same_key}
use Rattle.rz_types_fields.specs.Known.{meeting, met, met_noted, noted, noting, Grew, IsFront}
use Rattle.rz_types_fields.specs.Passed.{at_field, at_front, behind, behind_pieces, between, declares, gives_count, gives_key, is_known, is_near, met_behind, outside, states, states_count, told_by, Names, Passed}
use Rattle.rz_types_fields.specs.Piece.{fixed_integer, Piece}
use Rattle.rz_types_fields.specs.declared.field.Field.{Field}
use Rattle.rz_types_fields.specs.declared.names.Note.{Note}
use Rattle.rz_types_fields.proofs.Fronts.{front_met, met_append, noted_append}
use Rattle.rz_types.specs.Notes.{also_met, also_told, known, passed, passed_at, AreSame, GrewBoth, Meets}
use Rattle.rz_types.specs.Readable.{all_known, are_cases_read, are_pieces_read, are_read, is_number_read, is_read, tells}
use Rattle.rz_types.specs.declared.passed.PassedNotes.{PassedNotes}

-- Lists that grew.

pub grew_same : {A : Type 0} (old new : List A) → new ≡ old → Grew old new
grew_same old new same = ([], same ∙ sym (append-nil old))

pub grew_more : {A : Type 0} (a b c : List A) → Grew a b → Grew b c → Grew a c
grew_more a b c one other = (one.0 ++ other.0, other.1 ∙ ap (λ (l : List _). l ++ other.0) one.1 ∙ append_assoc a one.0 other.0)

pub cut_back : {A : Type 0} (old mid new : List A) (count : ℕ) → count ≡ length old → Grew old mid → Grew mid new → take count new ≡ old
cut_back old mid new count long one other =
    let all = grew_more old mid new one other in
    (λ i. take (long i) (all.1 i)) ∙ take-append_seam old all.0

pub both_none : (notes : PassedNotes) → GrewBoth notes notes
both_none notes = (grew_same notes.met.items notes.met.items refl, grew_same notes.told.items notes.told.items refl)

pub both_same : (old new : PassedNotes) → AreSame old new → GrewBoth old new
both_same old new same = (grew_same old.met.items new.met.items same.0, grew_same old.told.items new.told.items same.1)

pub both_more : (a b c : PassedNotes) → GrewBoth a b → GrewBoth b c → GrewBoth a c
both_more a b c one other = (grew_more a.met.items b.met.items c.met.items one.0 other.0, grew_more a.told.items b.told.items c.told.items one.1 other.1)

-- Notes.

pub same_passed : (old new : PassedNotes) → AreSame old new → passed new ≡ passed old
same_passed old new same = λ i. record { met = met (same.0 i); told = λ key. is_some (noted None (same.1 i) key); near = λ key. false }

-- the front of a body

some_stated : (name : Option Word) (count : Option ℤ) (key : Key) → is_some (stated_value name count key) ≡ states_count name count key
some_stated name None key = refl
some_stated name (Some count) key = by (gives_count name key)
  where
    by : (b : Bool) → is_some (if b then Some count else None) ≡ b
    by true = refl
    by false = refl

some_either : (a b : Option ℤ) → is_some (or_else a b) ≡ (is_some a || is_some b)
some_either None b = refl
some_either (Some value) b = refl

states_is : (body : PlainBody) (key : Key) → is_some (stated_in body key) ≡ states body key
states_is no_fields key = refl
states_is (field_and (Number number) fields) key = states_is fields key
states_is (field_and (Text text) fields) key = states_is fields key
states_is (field_and (Points points) fields) key = states_is fields key
states_is (field_and (Fill unit count) fields) key = states_is fields key
states_is (field_and (Align unit) fields) key = states_is fields key
states_is (field_and (Label name) fields) key = states_is fields key
states_is (field_and (Array name count row) fields) key =
    some_either (stated_value name count key) (stated_in fields key) ∙ (λ i. some_stated name count key i || states_is fields key i)
states_is (field_and (Switch cases) fields) key = states_is fields key

module _ (body : PlainBody) (old new : PassedNotes) (met_front : IsFront None body old.met.items new.met.items) (told_front : IsFront None body old.told.items new.told.items) where
  told_there : (key : Key) → is_some (noted None new.told.items key) ≡ (if declares body key then states body key else is_some (noted None old.told.items key))
  told_there key =
      ap (λ (notes : List Note). is_some (noted None notes key)) told_front.grew
      ∙ ap is_some (noted_append None old.told.items told_front.more key ∙ told_front.values_are key (noted None old.told.items key))
      ∙ by (declares body key)
    where
      by : (b : Bool) → is_some (if b then stated_in body key else noted None old.told.items key) ≡ (if b then states body key else is_some (noted None old.told.items key))
      by true = states_is body key
      by false = refl

  pub front_passed : passed new ≡ at_front body (passed old)
  front_passed = λ i. record { met = front_met None body old.met.items new.met.items met_front i; told = λ key. told_there key i; near = λ key. false }

  pub front_grew : GrewBoth old new
  front_grew = ((met_front.more, met_front.grew), (told_front.more, told_front.grew))

-- what is met

pub meets_none : (gives : Names) (notes : List Note) → ((key : Key) → gives key ≡ false) → Meets gives notes notes
meets_none gives notes none = ([], sym (append-nil notes), λ key before. ap (λ (b : Bool). b || before) (sym (none key)))

pub meets_one : (gives : Names) (old new : List Note) (note : Note) → new ≡ old ++ note ∷ [] → ((key : Key) (before : Bool) → meeting note key before ≡ (gives key || before))
    → Meets gives old new
meets_one gives old new note is so = (note ∷ [], is, so)

or_both : (a b before : Bool) → (b || (a || before)) ≡ ((a || b) || before)
or_both true true before = refl
or_both true false before = refl
or_both false true before = refl
or_both false false before = refl

pub meets_both : (one other : Names) (old mid new : List Note) → Meets one old mid → Meets other mid new → Meets (λ key. one key || other key) old new
meets_both one other old mid new first behind = (
  first.0 ++ behind.0,
  behind.1 ∙ ap (λ (front : List Note). front ++ behind.0) first.1 ∙ append_assoc old first.0 behind.0,
  λ key before. met_append before first.0 behind.0 key ∙ behind.2 key (met_noted before first.0 key) ∙ ap (λ (b : Bool). other key || b) (first.2 key before) ∙ or_both (one key) (other key) before,
)

module _ (field : PlainField) (old new : PassedNotes) (meets : Meets (gives_key field) old.met.items new.met.items) (same : new.told.items ≡ old.told.items) where
  met_there : (key : Key) → met new.met.items key ≡ met_behind field (met old.met.items) key
  met_there key =
      ap (λ (notes : List Note). met notes key) meets.1 ∙ met_append (is_some (outside.give key)) old.met.items meets.0 key ∙ meets.2 key (met old.met.items key)

  pub meets_passed : passed new ≡ also_met field (passed old)
  meets_passed = λ i. record { met = λ key. met_there key i; told = λ key. is_some (noted None (same i) key); near = λ key. false }

  pub meets_grew : GrewBoth old new
  meets_grew = ((meets.0, meets.1), grew_same old.told.items new.told.items same)

-- what is told

pub tells_where : (test : Bool) (value : ℤ) (before : Option ℤ) → is_some (if test then Some value else before) ≡ (test || is_some before)
tells_where true value before = refl
tells_where false value before = refl

module _ (key : Key) (note : Note) (old new : PassedNotes) (same : new.met.items ≡ old.met.items) (is : new.told.items ≡ old.told.items ++ note ∷ [])
    (tells : (other : Key) (before : Option ℤ) → is_some (noting note other before) ≡ (is_same_key key other || is_some before)) where
  told_at : (other : Key) → is_some (noted None new.told.items other) ≡ (is_same_key key other || is_some (noted None old.told.items other))
  told_at other =
      ap (λ (notes : List Note). is_some (noted None notes other)) is ∙ ap is_some (noted_append None old.told.items (note ∷ []) other) ∙ tells other (noted None old.told.items other)

  pub tells_passed : passed new ≡ also_told key (passed old)
  tells_passed = λ i. record { met = met (same i); told = λ other. told_at other i; near = λ other. false }

  pub tells_grew : GrewBoth old new
  tells_grew = (grew_same old.met.items new.met.items same, (note ∷ [], is))

or_swap : (a b c d : Bool) → (d || (a || (b || c))) ≡ (b || (d || (a || c)))
or_swap true true c true = refl
or_swap true true c false = refl
or_swap true false c true = refl
or_swap true false c false = refl
or_swap false true c true = refl
or_swap false true c false = refl
or_swap false false c d = refl

-- a name that is told is known
pub known_told : (fields : PlainBody) (notes more : PassedNotes) (key : Key) → passed more ≡ also_told key (passed notes)
    → known fields more ≡ (λ other. is_same_key key other || known fields notes other)
known_told fields notes more key is =
    ap (λ (p : Passed). is_known (at_field fields p)) is
    ∙ (λ i other. or_swap ((passed notes).met other) (is_same_key key other) ((passed notes).told other) (is_near fields other) i)

-- a number tells the name that is told after it
pub told_by_it : (rest fields : PlainBody) (old new : PassedNotes) (term : Term) (key : Key) → declares rest key ≡ true → can_solve key term ≡ true
    → passed new ≡ also_told key (passed old) → all_known (passed new).met (known fields new) term ≡ tells rest (passed old).met (known fields old) term key
told_by_it rest fields old new term key declared solved is =
    (λ i. all_known (is i).met (known_told fields old new key is i) term)
    ∙ (λ i. (sym declared i && sym solved i) && all_known (passed old).met (λ other. is_same_key key other || known fields old other) term)

-- Fields.

-- what is near at a switch isn't in its cases
pub cases_at : (body : PlainBody) (before : Passed) (cases : PlainCases) → are_cases_read before cases ≡ are_cases_read (at_field body before) cases
cases_at body before no_cases = refl
cases_at body before (case_and name row others) = ap (λ (read : Bool). are_read false (at_front row before) row && read) (cases_at body before others)

-- One field more.

module _ (fields ahead : List Field) (i : ℕ) (field : Field) (less : i < length fields) (item : field ≡ get_or fields i field) (here : ahead ≡ drop i fields) where
  front_is : drop i fields ≡ field ∷ drop (i + 1) fields
  front_is = drop_more fields i field less ∙ ap (λ (f : Field). f ∷ drop (i + 1) fields) (sym item)

  pub ahead_next : drop 1 ahead ≡ drop (i + 1) fields
  ahead_next = ap (drop 1) (here ∙ front_is)

  -- the others are read after it, where it is
  pub next_read : (outermost read total : Bool) (old new : PassedNotes) → read ≡ true
      → read ≡ is_read outermost (plain_body (drop 1 ahead)) (passed_at (plain_body ahead) old) (plain_field field)
      → passed new ≡ behind (plain_field field) (passed_at (plain_body ahead) old) → are_read outermost (passed old) (plain_body (drop i fields)) ≡ total
      → are_read outermost (passed new) (plain_body (drop (i + 1) fields)) ≡ total
  next_read outermost read total old new so is after all =
      let others = plain_body (drop (i + 1) fields) in
      let body = field_and (plain_field field) others in
      let told : passed new ≡ behind (plain_field field) (at_field body (passed old)) =
      subst (λ (l : List Field). passed new ≡ behind (plain_field field) (passed_at (plain_body l) old)) (here ∙ front_is) after in
      let good : is_read outermost others (at_field body (passed old)) (plain_field field) ≡ true =
      sym (subst (λ (l : List Field). read ≡ is_read outermost (plain_body (drop 1 l)) (passed_at (plain_body l) old) (plain_field field)) (here ∙ front_is) is) ∙ so in
      ap (λ (p : Passed). are_read outermost p others) told
      ∙ ap (λ (b : Bool). b && are_read outermost (behind (plain_field field) (at_field body (passed old))) others) (sym good)
      ∙ ap (λ (l : List Field). are_read outermost (passed old) (plain_body l)) (sym front_is)
      ∙ all

-- One number more of a point or a rectangle.

abbrev pub pieces_with : List Expr → List Piece
pieces_with exprs = map fixed_integer (map term_of exprs)

module _ (exprs : List Expr) (i : ℕ) (expr : Expr) (less : i < length exprs) (item : expr ≡ get_or exprs i expr) where
  pieces_more : pieces_with (drop i exprs) ≡ fixed_integer (term_of expr) ∷ pieces_with (drop (i + 1) exprs)
  pieces_more =
      ap pieces_with (drop_more exprs i expr less) ∙ ap (λ (e : Expr). fixed_integer (term_of e) ∷ pieces_with (drop (i + 1) exprs)) (sym item)

  -- the others are read after it, where it is
  pub others_read : (outermost : Bool) (rest : PlainBody) (before after : Passed) (total : Bool) → is_number_read rest before (Some (term_of expr)) ≡ true
      → after ≡ told_by (Some (term_of expr)) before → are_pieces_read outermost rest before (pieces_with (drop i exprs)) ≡ total
      → are_pieces_read outermost rest after (pieces_with (drop (i + 1) exprs)) ≡ total
  others_read outermost rest before after total read told is =
      ap (λ (passed : Passed). are_pieces_read outermost rest passed (pieces_with (drop (i + 1) exprs))) told
      ∙ ap (λ (test : Bool). test && are_pieces_read outermost rest (told_by (Some (term_of expr)) before) (pieces_with (drop (i + 1) exprs))) (sym read)
      ∙ ap (are_pieces_read outermost rest before) (sym pieces_more) ∙ is

  -- and so much is told by all of them
  pub others_tell : (before after total : Passed) → after ≡ told_by (Some (term_of expr)) before → between (behind_pieces (pieces_with (drop i exprs)) before) ≡ total
      → between (behind_pieces (pieces_with (drop (i + 1) exprs)) after) ≡ total
  others_tell before after total told is =
      ap (λ (passed : Passed). between (behind_pieces (pieces_with (drop (i + 1) exprs)) passed)) told
      ∙ ap (λ (pieces : List Piece). between (behind_pieces pieces before)) (sym pieces_more) ∙ is
