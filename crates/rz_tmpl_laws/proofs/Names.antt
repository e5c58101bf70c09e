-- The names of the lists of a template, and what is known of them.
use Rattle.std.proofs.Common.{◌≡◌, ℕ, zero, suc, ◌+◌, ◌^◌, ◌<◌, ◌≤◌, Bool, true, false, List, Option, Some, None, refl, sym, ap, subst, ◌∙◌, arith}
use Rattle.std.specs.Prelude.{not, nat_lt, if◌then◌else◌, ◌&&◌, ◌||◌}
use Rattle.std.proofs.lemmas.Bool.Decides.{nat_tests}
use Rattle.rz_core.specs.declared.resource.Word.{Word}
use Rattle.rz_expr.specs.Environment.{place_of, Key}
use Rattle.rz_tmpl.proofs.Closed.{list_key, nameless, no_near, same_list}
use Rattle.rz_tmpl.proofs.Kept.{listed, no, no_more}
use Rattle.rz_tmpl.proofs.Names.{apart, untrue}
use Rattle.rz_tmpl.specs.Body.{body_from, count_field, field_of, list_name, lists_of, next_named, rows_term}
use Rattle.rz_tmpl.specs.Items.{count, is_kept, list, none, one, waits, Items}
use Rattle.rz_tmpl.specs.declared.entry.CountForm.{CountForm}
use Rattle.rz_tmpl.specs.declared.entry.CountForm.TheVariants.{LessOne, Rows}
use Rattle.rz_tmpl.specs.declared.entry.ListForm.TheVariants.{Counted, Uncounted}
use Rattle.rz_tmpl.specs.declared.entry.Plain.{Plain}
use Rattle.rz_tmpl.specs.declared.entry.Plain.TheVariants as plain
use Rattle.rz_types_fields.proofs.SameNames.{key_is, same_name}
use Rattle.rz_types_fields.specs.Field.{Array, PlainBody}
use Rattle.rz_types_fields.specs.Passed.{at_field, at_front, behind, declares, has_label, is_held, is_known, nothing_passed, states, states_key, Passed}
use Rattle.rz_types_fields.specs.RowLabels.{is_row, numbers_row, RowOf}
use Rattle.rz_types_fields.specs.Solve.{has_key, is_same_key}

-- Keys.

below : (k j : ℕ) → k < j → j < 2 ^ 64 → is_same_key (list_key k) (list_key j) ≡ false
below k j less small = sym (same_name (list_name k).bytes (list_name j).bytes) ∙ apart k j less small

above : (k j : ℕ) → j < k → k < 2 ^ 64 → is_same_key (list_key k) (list_key j) ≡ false
above k j less small = untrue _ (λ is.
    no_more (sym (subst (λ (key : Key). is_same_key (list_key j) key ≡ true) (sym (key_is (list_key k) (list_key j) is)) (same_list j)) ∙ below j k less small))

pub other_key : (k j : ℕ) → k < 2 ^ 64 → j < 2 ^ 64 → (k ≡ j → ⊥) → is_same_key (list_key k) (list_key j) ≡ false
other_key k j small also differ = by (nat_lt k j) (nat_lt j k) refl refl
  where
    by : (low high : Bool) → nat_lt k j ≡ low → nat_lt j k ≡ high → is_same_key (list_key k) (list_key j) ≡ false
    by true high is other = below k j (grind (arith, nat_tests, is)) also
    by false true is other = above k j (grind (arith, nat_tests, other)) small
    by false false is other = absurd (differ (grind (arith, nat_tests, is, other)))

-- a list's key is the number of no row
pub no_row : (which : Option RowOf) (n : ℕ) → is_row which (list_key n) ≡ false
no_row None n = refl
no_row (Some row) n = by row.name
  where
    by : (name : Option Word) → numbers_row name (list_key n) ≡ false
    by None = refl
    by (Some name) = refl

-- Bodies.

pub unlabelled : (k : ℕ) (items : Items) (label : List ℕ) → has_label (body_from k items) label ≡ false
unlabelled k none label = refl
unlabelled k (one entry rest) label =
    ap (λ (t : Bool). t || has_label (body_from k rest) label) ((nameless entry).1 (place_of label)) ∙ unlabelled k rest label
unlabelled k (count less rest) label = unlabelled k rest label
unlabelled k (list Counted row rest) label = unlabelled (k + 1 + lists_of row) rest label
unlabelled k (list Uncounted row rest) label = unlabelled (k + lists_of row) rest label

states_plain : (entry : Plain) (key : Key) → states_key (field_of entry) key ≡ false
states_plain (plain.Number size hex) key = refl
states_plain plain.Character key = refl
states_plain plain.TypeName key = refl
states_plain plain.Rectangle key = refl
states_plain (plain.Zeros size) key = refl
states_plain (plain.Aligned size) key = refl
states_plain plain.Pascal key = refl
states_plain plain.ZeroEnded key = refl
states_plain plain.Rest key = refl

unstated : (k : ℕ) (items : Items) (key : Key) → states (body_from k items) key ≡ false
unstated k none key = refl
unstated k (one entry rest) key = ap (λ (t : Bool). t || states (body_from k rest) key) (states_plain entry key) ∙ unstated k rest key
unstated k (count less rest) key = unstated k rest key
unstated k (list Counted row rest) key = unstated (k + 1 + lists_of row) rest key
unstated k (list Uncounted row rest) key = unstated (k + lists_of row) rest key

-- Numbers of lists.

pub record Among (k n end : ℕ) : Type 0 where
  pub low : k ≤ n
  pub high : n < end

pub next_in : (left k : ℕ) (items : Items) → is_kept left true items ≡ true → waits true items ≡ false → Among k (next_named k items) (k + lists_of items)
next_in left k none kept ends = no_more ends
next_in left k (one entry rest) kept ends = next_in left k rest kept ends
next_in left k (count less rest) kept ends = no kept
next_in zero k (list form row rest) kept ends = no kept
next_in (suc left) k (list Counted row rest) kept ends = record { low = omega arith; high = omega arith }
next_in (suc left) k (list Uncounted row rest) kept ends =
    let deep = next_in (suc left) (k + lists_of row) rest (listed left Uncounted true row rest kept).others ends in
    let low = deep.low in
    let high = deep.high in
    record { low = omega (arith, low); high = omega (arith, high) }

-- What is known.

-- of the lists that are still to come nothing is known, but of the one that a count waits for
abbrev pub Fresh : ℕ → Bool → Items → Passed → Type 0
Fresh k w items passed = (j : ℕ) → k ≤ j → j < k + lists_of items → (w ≡ true → j ≡ next_named k items → ⊥) → is_held passed (list_key j) ≡ false

front_free : (declared met told stated : Bool) → (met || told) ≡ false → stated ≡ false → ((not declared && met) || (if declared then stated else told)) ≡ false
front_free true met told stated is other = other
front_free false met told stated is other = is

pub front_held : (k : ℕ) (items : Items) (passed : Passed) (j : ℕ) → is_held passed (list_key j) ≡ false → is_held (at_front (body_from k items) passed) (list_key j) ≡ false
front_held k items passed j is = front_free (declares (body_from k items) (list_key j)) (passed.met (list_key j)) (passed.told (list_key j)) _ is (unstated k items (list_key j))

pub start_held : (k : ℕ) (items : Items) (j : ℕ) → is_held (at_front (body_from k items) nothing_passed) (list_key j) ≡ false
start_held k items j = front_held k items nothing_passed j refl

pub known_at : (k : ℕ) (items : Items) (passed : Passed) (j : ℕ) → is_held passed (list_key j) ≡ false → is_known (at_field (body_from k items) passed) (list_key j) ≡ false
known_at k items passed j is = ap (λ (t : Bool). t || is_held passed (list_key j)) (no_near k items (list_key j)) ∙ is

other_term : (less : CountForm) (n j : ℕ) → n < 2 ^ 64 → j < 2 ^ 64 → (j ≡ n → ⊥) → has_key (list_key j) (rows_term less n) ≡ false
other_term LessOne n j small also differ = ap (λ (t : Bool). t || false) (other_key j n also small differ)
other_term Rows n j small also differ = ap (λ (t : Bool). t || false) (other_key j n also small differ)

still_free : (met told has other : Bool) → (met || told) ≡ false → has ≡ false → (met || ((has && other) || told)) ≡ false
still_free met told true other is so = no_more so
still_free met told false other is so = is

pub count_held : (less : CountForm) (n : ℕ) (body : PlainBody) (passed : Passed) (j : ℕ) → n < 2 ^ 64 → j < 2 ^ 64 → (j ≡ n → ⊥) → is_held passed (list_key j) ≡ false
    → is_held (behind (count_field less n) (at_field body passed)) (list_key j) ≡ false
count_held less n body passed j small also differ is =
    still_free (passed.met (list_key j)) (passed.told (list_key j)) (has_key (list_key j) (rows_term less n)) _ is (other_term less n j small also differ)

pub list_held : (k : ℕ) (row body : PlainBody) (passed : Passed) (j : ℕ) → k < 2 ^ 64 → j < 2 ^ 64 → (k ≡ j → ⊥) → is_held passed (list_key j) ≡ false
    → is_held (behind (Array (Some (list_name k)) None row) (at_field body passed)) (list_key j) ≡ false
list_held k row body passed j small also differ is =
    ap (λ (t : Bool). ((t || false) || passed.met (list_key j)) || passed.told (list_key j)) (other_key k j small also differ) ∙ is
