-- What is known and met after notes more, and by the newest of them.
use Rattle.std.proofs.Common.{◌≡◌, ℕ, ◌&&◌, ◌||◌, ◌==◌, Bool, true, false, ℤ, List, [], ◌∷◌, ◌++◌, length, drop, filter, take, Option, Some, None, refl, sym, ap, ◌∙◌, append_assoc}
use Rattle.std.specs.Option.{is_some}
use Rattle.std.specs.Prelude.{if◌then◌else◌, not}
use Rattle.std.proofs.Math.Seq.{take-append_seam}
use Rattle.std.proofs.lemmas.List.{take-append-drop}
use Rattle.std.proofs.lemmas.Bool.{eq-eqb}
use Rattle.rz_core.proofs.Tests.{by_test, true_false}
use Rattle.rz_core.specs.Lists.{or_else}
use Rattle.rz_expr.specs.Constant.{predefined_key}
use Rattle.rz_expr.specs.Environment.{count_key, count_of, place_in, place_key, place_of, row_in, row_key, rows_of, Key}
use Rattle.rz_expr.specs.NameKey.{key_of}
use Rattle.rz_types_fields.specs.Field.{plain_body, PlainBody}
use Rattle.rz_types_fields.specs.Passed.{gives_rows, outside}
use Rattle.rz_types_fields.specs.Known.{known, meeting, met, met_noted, noted, noting, said, speaks, Grew}
use Rattle.rz_types_fields.specs.Newest.{code_of, has_code, heard, meets, newest}
use Rattle.rz_types_fields.specs.Solve.{is_same_key}
use Rattle.rz_types_fields.specs.declared.names.Note.{Note}
use Rattle.rz_types_fields.specs.declared.names.Note.TheVariants.{Coming, Counted, Hidden, Numbered, Placed, PlaceTold, Rows, Told}
use Rattle.rz_types_fields.proofs.SameNames.{key_is}

-- One more.

noted_more : (other : Option ℤ) (notes : List Note) (note : Note) (key : Key) → noted other (notes ++ note ∷ []) key ≡ noting note key (noted other notes key)
noted_more other [] note key = refl
noted_more other (first ∷ notes) note key = noted_more (noting first key other) notes note key

pub known_more : (notes : List Note) (note : Note) → known (notes ++ note ∷ []) ≡ record { give = λ key. noting note key ((known notes).give key) }
known_more notes note = λ i. record { give = λ key. noted_more (outside.give key) notes note key i }

-- what was only added is cut off again
pub cut_back : {A : Type 0} (old new : List A) (note : A) (count : ℕ) → count ≡ length old → Grew (old ++ note ∷ []) new → take count new ≡ old
cut_back old new note count long grew =
    (λ i. take (long i) ((grew.1 ∙ append_assoc old (note ∷ []) grew.0) i)) ∙ take-append_seam old (note ∷ grew.0)

pub grew_more : {A : Type 0} (old mid new : List A) → Grew old mid → Grew mid new → Grew old new
grew_more old mid new one other = (one.0 ++ other.0, other.1 ∙ ap (λ (front : List _). front ++ other.0) one.1 ∙ append_assoc old one.0 other.0)

-- where no note says it, a key has the value of `true` and `false`, or none
given_outside : (key : Key) → predefined_key key ≡ outside.give key
given_outside (place_of name) = refl
given_outside (count_of name) = refl
given_outside (rows_of label) = refl
given_outside (place_in label number) = refl
given_outside (row_in array) = refl

-- By the newest note.

abbrev said_by : Option Note → Key → Option ℤ → Option ℤ
said_by None key other = other
said_by (Some note) key other = said note key

abbrev met_by : Option Note → Bool → Bool
met_by None before = before
met_by (Some note) before = meets note

heard_told : (note : Note) (key : Key) → heard true note key ≡ speaks note key
heard_told (Told name rows) key = refl
heard_told (Counted name rows) key = refl
heard_told (PlaceTold name at) key = refl
heard_told (Placed name at) key = refl
heard_told (Numbered name number) key = refl
heard_told (Hidden own) key = refl
heard_told (Rows row count places) key = refl
heard_told (Coming row) key = refl

known_newest : (key : Key) (found : Option Note) (other : Option ℤ) (notes : List Note) → noted (said_by found key other) notes key ≡ said_by (newest true key found notes) key other
known_newest key found other [] = refl
known_newest key found other (note ∷ notes) =
    ap (λ (v : Option ℤ). noted v notes key) (ap (λ (b : Bool). if b then said note key else said_by found key other) (sym (heard_told note key)) ∙ by (heard true note key))
    ∙ known_newest key (if heard true note key then Some note else found) other notes
  where
    by : (b : Bool) → (if b then said note key else said_by found key other) ≡ said_by (if b then Some note else found) key other
    by true = refl
    by false = refl

or_met : (a before : Bool) → (a || before) ≡ (if a then true else before)
or_met true before = refl
or_met false before = refl

not_met : (a before : Bool) → (not a && before) ≡ (if a then false else before)
not_met true before = refl
not_met false before = refl

meeting_is : (note : Note) (key : Key) (before : Bool) → meeting note key before ≡ (if heard false note key then meets note else before)
meeting_is (Told name rows) key before = refl
meeting_is (Counted name rows) key before = or_met (speaks (Counted name rows) key) before
meeting_is (PlaceTold name at) key before = refl
meeting_is (Placed name at) key before = or_met (speaks (Placed name at) key) before
meeting_is (Numbered name number) key before = refl
meeting_is (Hidden own) key before = not_met (speaks (Hidden own) key) before
meeting_is (Rows row count places) key before = or_met (speaks (Rows row count places) key) before
meeting_is (Coming row) key before = not_met (speaks (Coming row) key) before

met_newest : (key : Key) (found : Option Note) (before : Bool) (notes : List Note) → met_noted (met_by found before) notes key ≡ met_by (newest false key found notes) before
met_newest key found before [] = refl
met_newest key found before (note ∷ notes) =
    ap (λ (b : Bool). met_noted b notes key) (meeting_is note key (met_by found before) ∙ by (heard false note key))
    ∙ met_newest key (if heard false note key then Some note else found) before notes
  where
    by : (b : Bool) → (if b then meets note else met_by found before) ≡ met_by (if b then Some note else found) before
    by true = refl
    by false = refl

module _ (notes : List Note) (key : Key) where
  pub value_said : (note : Note) → newest true key None notes ≡ Some note → said note key ≡ (known notes).give key
  value_said note is = sym (known_newest key None (outside.give key) notes ∙ ap (λ (o : Option Note). said_by o key (outside.give key)) is)

  pub value_none : newest true key None notes ≡ None → predefined_key key ≡ (known notes).give key
  value_none is =
      given_outside key ∙ sym (known_newest key None (outside.give key) notes ∙ ap (λ (o : Option Note). said_by o key (outside.give key)) is)

  -- by the notes alone
  pub noted_said : (note : Note) → newest true key None notes ≡ Some note → is_some (said note key) ≡ is_some (noted None notes key)
  noted_said note is = sym (ap is_some (known_newest key None None notes ∙ ap (λ (o : Option Note). said_by o key None) is))

  pub noted_none : newest true key None notes ≡ None → false ≡ is_some (noted None notes key)
  noted_none is = sym (ap is_some (known_newest key None None notes ∙ ap (λ (o : Option Note). said_by o key None) is))

  pub met_said : (note : Note) → newest false key None notes ≡ Some note → meets note ≡ met notes key
  met_said note is = sym (met_newest key None (is_some (outside.give key)) notes ∙ ap (λ (o : Option Note). met_by o (is_some (outside.give key))) is)

  pub met_none : newest false key None notes ≡ None → is_some (predefined_key key) ≡ met notes key
  met_none is =
      ap is_some (given_outside key)
      ∙ sym (met_newest key None (is_some (outside.give key)) notes ∙ ap (λ (o : Option Note). met_by o (is_some (outside.give key))) is)

-- The notes that may speak of a key.

-- one note more
pub newest_more : (told : Bool) (key : Key) (found : Option Note) (notes : List Note) (note : Note)
    → newest told key found (notes ++ note ∷ []) ≡ (if heard told note key then Some note else newest told key found notes)
newest_more told key found [] note = refl
newest_more told key found (first ∷ notes) note = newest_more told key (if heard told first key then Some first else found) notes note

-- first those of the one list, then those of the other
newest_append : (told : Bool) (key : Key) (found : Option Note) (one other : List Note)
    → newest told key found (one ++ other) ≡ newest told key (newest told key found one) other
newest_append told key found [] other = refl
newest_append told key found (note ∷ one) other = newest_append told key (if heard told note key then Some note else found) one other

-- what was found before counts where nothing is heard
first_found : (a found : Option Note) (note : Note) → or_else a (Some note) ≡ or_else (or_else a (Some note)) found
first_found None found note = refl
first_found (Some one) found note = refl

newest_found : (told : Bool) (key : Key) (found : Option Note) (notes : List Note) → newest told key found notes ≡ or_else (newest told key None notes) found
newest_found told key found [] = refl
newest_found told key found (note ∷ notes) = by (λ one. newest_found told key one notes) (heard told note key)
  where
    by : ((one : Option Note) → newest told key one notes ≡ or_else (newest told key None notes) one) → (b : Bool)
        → newest told key (if b then Some note else found) notes ≡ or_else (newest told key (if b then Some note else None) notes) found
    by same true = same (Some note) ∙ first_found (newest told key None notes) found note ∙ ap (λ (o : Option Note). or_else o found) (sym (same (Some note)))
    by same false = same found

-- the newest of all is that of the later ones, or else that of the first so many
pub newest_parts : (told : Bool) (key : Key) (few : ℕ) (notes : List Note)
    → or_else (newest told key None (drop few notes)) (newest told key None (take few notes)) ≡ newest told key None notes
newest_parts told key few notes =
    sym (newest_found told key (newest told key None (take few notes)) (drop few notes))
    ∙ sym (newest_append told key None (take few notes) (drop few notes))
    ∙ ap (newest told key None) (take-append-drop few notes)

-- a note with another code doesn't speak of the key
apart_code : (own key : Key) → (code_of own == code_of key) ≡ false → is_same_key own key ≡ false
apart_code own key apart = by_test (is_same_key own key ≡ false) (is_same_key own key)
    (λ same. absurd (true_false (sym (eq-eqb (code_of own) (code_of key) (ap code_of (key_is own key same))) ∙ apart)))
    (λ other. other)

apart_rows : (row : PlainBody) (key : Key) → (0 == code_of key) ≡ false → gives_rows row key ≡ false
apart_rows row (place_of name) apart = refl
apart_rows row (count_of name) apart = refl
apart_rows row (rows_of label) apart = absurd (true_false apart)
apart_rows row (place_in label number) apart = absurd (true_false apart)
apart_rows row (row_in array) apart = refl

unspoken : (note : Note) (key : Key) → has_code (code_of key) note ≡ false → speaks note key ≡ false
unspoken (Told name rows) key apart = apart_code (count_key name.now.bytes) key apart
unspoken (Counted name rows) key apart = apart_code (count_key name.now.bytes) key apart
unspoken (PlaceTold name at) key apart = apart_code (place_key name.now.bytes) key apart
unspoken (Placed name at) key apart = apart_code (place_key name.now.bytes) key apart
unspoken (Numbered name number) key apart = apart_code (row_key name.now.bytes) key apart
unspoken (Hidden own) key apart = apart_code (key_of own) key apart
unspoken (Rows row count places) key apart = apart_rows (plain_body row.now) key apart
unspoken (Coming row) key apart = apart_rows (plain_body row.now) key apart

no_more : (a b : Bool) → b ≡ false → (a && b) ≡ false
no_more true b is = is
no_more false b is = refl

unheard : (told : Bool) (note : Note) (key : Key) → speaks note key ≡ false → heard told note key ≡ false
unheard told (Told name rows) key none = no_more told (speaks (Told name rows) key) none
unheard told (Counted name rows) key none = none
unheard told (PlaceTold name at) key none = no_more told (speaks (PlaceTold name at) key) none
unheard told (Placed name at) key none = none
unheard told (Numbered name number) key none = no_more told (speaks (Numbered name number) key) none
unheard told (Hidden own) key none = none
unheard told (Rows row count places) key none = none
unheard told (Coming row) key none = none

-- so the newest is found among those with its code
own_by : (told : Bool) (key : Key) (found : Option Note) (note : Note) (notes : List Note)
    → ((one : Option Note) → newest told key one (filter (has_code (code_of key)) notes) ≡ newest told key one notes) → (b : Bool) → has_code (code_of key) note ≡ b
    → newest told key found (if b then note ∷ filter (has_code (code_of key)) notes else filter (has_code (code_of key)) notes) ≡ newest told key found (note ∷ notes)
own_by told key found note notes same true is = same (if heard told note key then Some note else found)
own_by told key found note notes same false is =
    same found ∙ ap (λ (b : Bool). newest told key (if b then Some note else found) notes) (sym (unheard told note key (unspoken note key is)))

pub newest_own : (told : Bool) (key : Key) (found : Option Note) (notes : List Note) → newest told key found (filter (has_code (code_of key)) notes) ≡ newest told key found notes
newest_own told key found [] = refl
newest_own told key found (note ∷ notes) = own_by told key found note notes (λ one. newest_own told key one notes) (has_code (code_of key) note) refl
