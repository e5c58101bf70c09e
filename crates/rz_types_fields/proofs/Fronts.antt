-- Notes that were added, one after the other, and those of the front of a body.
use Rattle.std.proofs.Common.{◌≡◌, ℕ, ◌+◌, ◌-◌, ◌<◌, ◌≤◌, ◌&&◌, ◌||◌, Bool, true, false, ℤ, List, [], ◌∷◌, ◌++◌, length, get_or, drop, take, Option, Some, None, refl, sym, ap, subst, ◌∙◌, arith, append_assoc}
use Rattle.std.specs.Option.{is_some}
use Rattle.std.specs.Prelude.{if◌then◌else◌, not}
use Rattle.std.proofs.lemmas.List.{append-nil, drop_all, take_all, take_more}
use Rattle.rz_core.proofs.Tests.{by_test, or_false}
use Rattle.rz_core.specs.Lists.{or_else}
use Rattle.rz_core.specs.declared.resource.Word.{Word}
use Rattle.rz_expr.specs.Environment.{Key}
use Rattle.rz_types_fields.specs.Field.{field_and, no_fields, plain_body, plain_field, Align, Array, Fill, Label, Number, PlainBody, PlainField, Points, Switch, Text}
use Rattle.rz_types_fields.specs.Front.{names_inside, stated_by, stated_in, stated_value, value_inside}
use Rattle.rz_types_fields.specs.Known.{known, meeting, met, met_noted, noted, noting, Adds, Hides, IsFront, Tells}
use Rattle.rz_types_fields.specs.Passed.{declares, gives_count, gives_key, gives_rows, met_inside, outside}
use Rattle.rz_types_fields.specs.RowLabels.{is_row, row_number, RowOf}
use Rattle.rz_types_fields.specs.declared.field.Field.{Field}
use Rattle.rz_types_fields.specs.declared.names.Note.{Note}
use Rattle.rz_types_fields.proofs.Bodies.{body_next}
use Rattle.rz_types_fields.proofs.RowKeys.{row_keys}

-- Notes that were added.

pub noted_append : (before : Option ℤ) (one other : List Note) (key : Key) → noted before (one ++ other) key ≡ noted (noted before one key) other key
noted_append before [] other key = refl
noted_append before (note ∷ one) other key = noted_append (noting note key before) one other key

pub met_append : (before : Bool) (one other : List Note) (key : Key) → met_noted before (one ++ other) key ≡ met_noted (met_noted before one key) other key
met_append before [] other key = refl
met_append before (note ∷ one) other key = met_append (meeting note key before) one other key

abbrev pub Values : Type 0
Values = Key → Option ℤ → Option ℤ

abbrev pub Mets : Type 0
Mets = Key → Bool → Bool

pub adds_none : (notes : List Note) → Adds (λ key before. before) (λ key before. before) notes notes
adds_none notes = record { more = []; grew = sym (append-nil notes); values_are = λ key before. refl; mets_are = λ key before. refl }

pub adds_one : (old new : List Note) (note : Note) → new ≡ old ++ note ∷ [] → Adds (noting note) (meeting note) old new
adds_one old new note is = record { more = note ∷ []; grew = is; values_are = λ key before. refl; mets_are = λ key before. refl }

pub adds_both : (values others : Values) (mets met_others : Mets) (old mid new : List Note) → Adds values mets old mid → Adds others met_others mid new
    → Adds (λ key before. others key (values key before)) (λ key before. met_others key (mets key before)) old new
adds_both values others mets met_others old mid new one other = record {
  more = one.more ++ other.more;
  grew = other.grew ∙ ap (λ (front : List Note). front ++ other.more) one.grew ∙ append_assoc old one.more other.more;
  values_are = λ key before.
      noted_append before one.more other.more key ∙ other.values_are key (noted before one.more key) ∙ ap (others key) (one.values_are key before);
  mets_are = λ key before. met_append before one.more other.more key ∙ other.mets_are key (met_noted before one.more key) ∙ ap (met_others key) (one.mets_are key before);
}

pub adds_as : (values others : Values) (mets met_others : Mets) (old new : List Note) → ((key : Key) (before : Option ℤ) → values key before ≡ others key before)
    → ((key : Key) (before : Bool) → mets key before ≡ met_others key before) → Adds values mets old new → Adds others met_others old new
adds_as values others mets met_others old new same met_same adds = record {
  more = adds.more;
  grew = adds.grew;
  values_are = λ key before. adds.values_are key before ∙ same key before;
  mets_are = λ key before. adds.mets_are key before ∙ met_same key before;
}

-- Names that are hidden.

abbrev pub hide : (Key → Bool) → Values
hide gives key before = if gives key then None else before

abbrev pub unmeet : (Key → Bool) → Mets
unmeet gives key before = not (gives key) && before

hide_or : (a b : Bool) (before : Option ℤ) → (if b then None else if a then None else before) ≡ (if a || b then None else before)
hide_or true true before = refl
hide_or true false before = refl
hide_or false true before = refl
hide_or false false before = refl

unmeet_or : (a b before : Bool) → (not b && (not a && before)) ≡ (not (a || b) && before)
unmeet_or true true before = refl
unmeet_or true false before = refl
unmeet_or false true before = refl
unmeet_or false false before = refl

pub hides_none : (gives : Key → Bool) (notes : List Note) → ((key : Key) → gives key ≡ false) → Hides gives notes notes
hides_none gives notes none =
    adds_as (λ key before. before) (hide gives) (λ key before. before) (unmeet gives) notes notes
    (λ key before. ap (λ (b : Bool). if b then None else before) (sym (none key)))
    (λ key before. ap (λ (b : Bool). not b && before) (sym (none key)))
    (adds_none notes)

pub hides_both : (one other all : Key → Bool) (old mid new : List Note) → ((key : Key) → (one key || other key) ≡ all key) → Hides one old mid → Hides other mid new → Hides all old new
hides_both one other all old mid new same first behind =
    adds_as (λ key before. hide other key (hide one key before)) (hide all) (λ key before. unmeet other key (unmeet one key before)) (unmeet all) old new
    (λ key before. hide_or (one key) (other key) before ∙ ap (λ (b : Bool). if b then None else before) (same key))
    (λ key before. unmeet_or (one key) (other key) before ∙ ap (λ (b : Bool). not b && before) (same key))
    (adds_both (hide one) (hide other) (unmeet one) (unmeet other) old mid new first behind)

-- the names of the first fields, and of one more

or_assoc : (a b c : Bool) → (a || (b || c)) ≡ ((a || b) || c)
or_assoc true b c = refl
or_assoc false b c = refl

or_false_right : (a : Bool) → (a || false) ≡ a
or_false_right true = refl
or_false_right false = refl

declares_push : (fields : List Field) (field : Field) (key : Key) → (declares (plain_body fields) key || gives_key (plain_field field) key) ≡ declares (plain_body (fields ++ field ∷ [])) key
declares_push [] field key = sym (or_false_right (gives_key (plain_field field) key))
declares_push (first ∷ fields) field key =
    sym (or_assoc (gives_key (plain_field first) key) (declares (plain_body fields) key) (gives_key (plain_field field) key))
    ∙ ap (λ (b : Bool). gives_key (plain_field first) key || b) (declares_push fields field key)

module _ (fields : List Field) (old : List Note) where
  -- those of the first so many fields are hidden
  abbrev pub FrontHides : ℕ → List Note → Type 0
  FrontHides i new = Hides (declares (plain_body (take i fields))) old new

  pub front_none : FrontHides 0 old
  front_none = hides_none (declares no_fields) old (λ key. refl)

  pub front_more : (i : ℕ) (field : Field) (mid new : List Note) → i < length fields → field ≡ get_or fields i field → FrontHides i mid → Hides (gives_key (plain_field field)) mid new
      → FrontHides (i + 1) new
  front_more i field mid new less item first behind =
      hides_both (declares (plain_body (take i fields))) (gives_key (plain_field field)) (declares (plain_body (take (i + 1) fields))) old mid new
      (λ key. declares_push (take i fields) field key
      ∙ ap (λ (l : List Field). declares (plain_body l) key) (ap (λ (f : Field). take i fields ++ f ∷ []) item ∙ sym (take_more fields i field less)))
      first behind

  pub front_all : (i : ℕ) (new : List Note) → length fields ≤ i → FrontHides i new → Hides (declares (plain_body fields)) old new
  front_all i new past hides = subst (λ (l : List Field). Hides (declares (plain_body l)) old new) (take_all i fields past) hides

-- Numbers of rows that are stated.

abbrev pub tell : (Key → Option ℤ) → Values
tell stated key before = or_else (stated key) before

or_else_assoc : (a b c : Option ℤ) → or_else a (or_else b c) ≡ or_else (or_else a b) c
or_else_assoc None b c = refl
or_else_assoc (Some value) b c = refl

pub tells_none : (stated : Key → Option ℤ) (notes : List Note) → ((key : Key) → stated key ≡ None) → Tells stated notes notes
tells_none stated notes none =
    adds_as (λ key before. before) (tell stated) (λ key before. before) (λ key before. before) notes notes
    (λ key before. ap (λ (o : Option ℤ). or_else o before) (sym (none key))) (λ key before. refl)
    (adds_none notes)

tells_both : (one other all : Key → Option ℤ) (old mid new : List Note) → ((key : Key) → or_else (other key) (one key) ≡ all key) → Tells one old mid → Tells other mid new → Tells all old new
tells_both one other all old mid new same first behind =
    adds_as (λ key before. tell other key (tell one key before)) (tell all) (λ key before. before) (λ key before. before) old new
    (λ key before. or_else_assoc (other key) (one key) before ∙ ap (λ (o : Option ℤ). or_else o before) (same key)) (λ key before. refl)
    (adds_both (tell one) (tell other) (λ key before. before) (λ key before. before) old mid new first behind)

pub told_is : (test : Bool) (rows : ℤ) (before : Option ℤ) → (if test then Some rows else before) ≡ or_else (if test then Some rows else None) before
told_is true rows before = refl
told_is false rows before = refl

stated_first : (field : PlainField) (fields : PlainBody) (key : Key) → or_else (stated_by field key) (stated_in fields key) ≡ stated_in (field_and field fields) key
stated_first (Number number) others key = refl
stated_first (Text text) others key = refl
stated_first (Points points) others key = refl
stated_first (Fill unit count) others key = refl
stated_first (Align unit) others key = refl
stated_first (Label name) others key = refl
stated_first (Array name count row) others key = refl
stated_first (Switch cases) others key = refl

module _ (fields : List Field) (old : List Note) where
  -- those of the last so many fields are told
  abbrev pub BackTells : ℕ → List Note → Type 0
  BackTells later new = Tells (stated_in (plain_body (drop (length fields - later) fields))) old new

  pub back_none : BackTells 0 old
  back_none =
      subst (λ (body : PlainBody). Tells (stated_in body) old old) (ap plain_body (sym (drop_all (length fields - 0) fields (omega arith))))
      (tells_none (stated_in no_fields) old (λ key. refl))

  pub back_more : (later : ℕ) (field : Field) (mid new : List Note) → later < length fields → field ≡ get_or fields (length fields - 1 - later) field
      → BackTells later mid → Tells (stated_by (plain_field field)) mid new → BackTells (later + 1) new
  back_more later field mid new less item first behind =
      let i = length fields - 1 - later in
      let within : i < length fields = omega arith in
      let same : i ≡ length fields - (later + 1) = omega arith in
      let next : i + 1 ≡ length fields - later = omega arith in
      let rest = plain_body (drop (length fields - later) fields) in
      tells_both (stated_in rest) (stated_by (plain_field field)) (stated_in (plain_body (drop (length fields - (later + 1)) fields))) old mid new
      (λ key. stated_first (plain_field field) rest key
      ∙ ap (λ (n : ℕ). stated_in (field_and (plain_field field) (plain_body (drop n fields))) key) (sym next)
      ∙ ap (λ (body : PlainBody). stated_in body key) (sym (body_next fields i field within item))
      ∙ ap (λ (n : ℕ). stated_in (plain_body (drop n fields)) key) same)
      first behind

  pub back_all : (later : ℕ) (new : List Note) → length fields ≤ later → BackTells later new → Tells (stated_in (plain_body fields)) old new
  back_all later new past tells =
      let none : length fields - later ≡ 0 = omega (arith, past) in
      subst (λ (n : ℕ). Tells (stated_in (plain_body (drop n fields))) old new) none tells

-- The front of a body.

unstated : (name : Option Word) (count : Option ℤ) (key : Key) → gives_count name key ≡ false → stated_value name count key ≡ None
unstated name None key none = refl
unstated name (Some count) key none = ap (λ (b : Bool). if b then Some count else None) none

-- what isn't declared isn't stated
undeclared_unstated : (body : PlainBody) (key : Key) → declares body key ≡ false → stated_in body key ≡ None
undeclared_unstated no_fields key none = refl
undeclared_unstated (field_and (Number number) fields) key none = undeclared_unstated fields key none
undeclared_unstated (field_and (Text text) fields) key none = undeclared_unstated fields key none
undeclared_unstated (field_and (Points points) fields) key none = undeclared_unstated fields key none
undeclared_unstated (field_and (Fill unit count) fields) key none = undeclared_unstated fields key none
undeclared_unstated (field_and (Align unit) fields) key none = undeclared_unstated fields key none
undeclared_unstated (field_and (Label name) fields) key none =
    undeclared_unstated fields key (or_false (gives_key (Label name) key) (declares fields key) none).1
undeclared_unstated (field_and (Array name count row) fields) key none =
    let parts = or_false (gives_count name key || gives_rows row key) (declares fields key) none in
    ap (λ (o : Option ℤ). or_else o (stated_in fields key)) (unstated name count key (or_false (gives_count name key) (gives_rows row key) parts.0).0)
    ∙ undeclared_unstated fields key parts.1
undeclared_unstated (field_and (Switch cases) fields) key none = undeclared_unstated fields key none

abbrev pub number : Option RowOf → Values
number which key before = if is_row which key then row_number which else before

front_value : (which : Option RowOf) (body : PlainBody) (key : Key) (before : Option ℤ)
    → or_else (stated_in body key) (if declares body key then None else if is_row which key then row_number which else before) ≡ value_inside which body key before
front_value which body key before =
    by_test (or_else (stated_in body key) (if declares body key then None else if is_row which key then row_number which else before) ≡ value_inside which body key before) (is_row which key)
    (λ row. let none = row_keys which key body row in
    (λ i. or_else (undeclared_unstated body key none i) (if none i then None else if row i then row_number which else before))
    ∙ (λ i. if sym row i then row_number which else if declares body key then stated_in body key else before))
    (λ other. (λ i. or_else (stated_in body key) (if declares body key then None else if other i then row_number which else before))
    ∙ by (declares body key) refl
    ∙ (λ i. if sym other i then row_number which else if declares body key then stated_in body key else before))
  where
    alone : (o : Option ℤ) → or_else o None ≡ o
    alone None = refl
    alone (Some value) = refl

    by : (b : Bool) → declares body key ≡ b → or_else (stated_in body key) (if b then None else before) ≡ (if b then stated_in body key else before)
    by true is = alone (stated_in body key)
    by false is = ap (λ (o : Option ℤ). or_else o before) (undeclared_unstated body key is)

pub front_is : (which : Option RowOf) (body : PlainBody) (old mid behind new : List Note) → Adds (number which) (λ key before. before) old mid
    → Hides (declares body) mid behind → Tells (stated_in body) behind new → IsFront which body old new
front_is which body old mid behind new numbered hidden told =
    adds_as (λ key before. tell (stated_in body) key (hide (declares body) key (number which key before))) (value_inside which body)
    (λ key before. unmeet (declares body) key before) (unmeet (declares body)) old new
    (front_value which body) (λ key before. refl)
    (adds_both (λ key before. hide (declares body) key (number which key before)) (tell (stated_in body)) (unmeet (declares body)) (λ key before. before) old behind new
    (adds_both (number which) (hide (declares body)) (λ key before. before) (unmeet (declares body)) old mid behind numbered hidden)
    told)

-- so what is known and met there
module _ (which : Option RowOf) (body : PlainBody) (old new : List Note) (is : IsFront which body old new) where
  pub front_known : known new ≡ names_inside which body (known old)
  front_known =
      ap known is.grew
      ∙ (λ i. record { give = λ key. (noted_append (outside.give key) old is.more key ∙ is.values_are key ((known old).give key)) i })

  pub front_met : met new ≡ met_inside body (met old)
  front_met = ap met is.grew ∙ (λ i key. (met_append (is_some (outside.give key)) old is.more key ∙ is.mets_are key (met old key)) i)
