-- A symbol whose own value isn't the number is passed: what its name gives is its value, or that of one before it.
use Rattle.std.proofs.Common.{◌≡◌, ℕ, suc, ◌+◌, ◌<◌, Bool, true, false, List, [], ◌∷◌, ◌++◌, length, take, drop, get_or, Some, refl, sym, ap, ◌∙◌, add-one, drop-cons}
use Rattle.std.specs.Prelude.{◌||◌, if◌then◌else◌}
use Rattle.std.specs.List.{list_any}
use Rattle.std.specs.Str.{bytes_eq, str_eq_ignore_ascii_case, str_to_ascii_lowercase}
use Rattle.std.proofs.lemmas.List.{take-append-drop}
use Rattle.std.proofs.lemmas.List.Folds.{list_any_more}
use Rattle.rz_core.proofs.Folds.{same_lower}
use Rattle.rz_core.proofs.Tests.{by_test, or_false}
use Rattle.rz_types_fields.specs.declared.field.Symbol.{Symbol}
use Rattle.rz_types_fields.specs.Symbols.{is_stored, symbol_for}
use Rattle.rz_types_fields.specs.Value.{symbol_value}

-- what a name gives is what the same name gives in another case
same_value : (one other : List ℕ) → str_to_ascii_lowercase one ≡ str_to_ascii_lowercase other → (symbols : List Symbol) → symbol_value symbols one ≡ symbol_value symbols other
same_value one other same [] = refl
same_value one other same (s ∷ symbols) =
    (λ i. if bytes_eq (str_to_ascii_lowercase s.name.bytes) (same i) then Some s.value else same_value one other same symbols i)

same_name : (name : List ℕ) → str_eq_ignore_ascii_case name name ≡ true
same_name name = (same_lower name name).1 refl

module _ (all : List Symbol) (width n : ℕ) where
  abbrev pub gives : Symbol → Bool
  gives s = is_stored width n (symbol_value all s.name.bytes)

  passed : (front back : List Symbol) (s : Symbol) → symbol_value all s.name.bytes ≡ symbol_value (front ++ s ∷ back) s.name.bytes → list_any gives front ≡ false
      → is_stored width n (Some s.value) ≡ false → gives s ≡ false
  passed [] back s is before none =
      ap (is_stored width n) is
      ∙ ap (λ (b : Bool). is_stored width n (if b then Some s.value else symbol_value back s.name.bytes)) (same_name s.name.bytes)
      ∙ none
  passed (t ∷ front) back s is before none =
      let each = or_false (gives t) (list_any gives front) before in
      by_test (gives s ≡ false) (str_eq_ignore_ascii_case t.name.bytes s.name.bytes)
      (λ h. ap (is_stored width n) (same_value s.name.bytes t.name.bytes (sym ((same_lower t.name.bytes s.name.bytes).0 h)) all) ∙ each.0)
      (λ h. passed front back s (is ∙ ap (λ (b : Bool). if b then Some t.value else symbol_value (front ++ s ∷ back) s.name.bytes) h) each.1 none)

  -- those that were looked at
  pub record Looked (i : ℕ) : Type 0 where
    pub same : symbol_for all width n (drop i all) ≡ symbol_for all width n all
    pub before : list_any gives (take i all) ≡ false

  first_is : (i : ℕ) (d : Symbol) → i < length all → d ≡ get_or all i d → symbol_for all width n (drop i all) ≡ (if gives d then Some d.name else symbol_for all width n (drop (i + 1) all))
  first_is i d within d-is =
      rw (add-one, drop-cons all i d within) refl ∙ ap (λ (s : Symbol). if gives s then Some s.name else symbol_for all width n (drop (i + 1) all)) (sym d-is)

  pub found : (i : ℕ) (d : Symbol) → i < length all → d ≡ get_or all i d → Looked i → gives d ≡ true → Some d.name ≡ symbol_for all width n all
  found i d within d-is so_far is =
      sym (ap (λ (b : Bool). if b then Some d.name else symbol_for all width n (drop (i + 1) all)) is) ∙ sym (first_is i d within d-is) ∙ so_far.same

  pub looked : (i : ℕ) (d : Symbol) → i < length all → d ≡ get_or all i d → Looked i → gives d ≡ false → Looked (i + 1)
  looked i d within d-is so_far is = record {
    same = sym (ap (λ (b : Bool). if b then Some d.name else symbol_for all width n (drop (i + 1) all)) is) ∙ sym (first_is i d within d-is) ∙ so_far.same;
    before = list_any_more gives all i d within ∙ ap (λ (b : Bool). b || gives (get_or all i d)) so_far.before ∙ ap gives (sym d-is) ∙ is;
  }

  drop_is : (i : ℕ) (d : Symbol) → i < length all → d ≡ get_or all i d → drop i all ≡ d ∷ drop (i + 1) all
  drop_is i d within d-is = rw (add-one, drop-cons all i d within) (ap (λ (s : Symbol). s ∷ drop (suc i) all) (sym d-is))

  whole : (i : ℕ) (d : Symbol) → i < length all → d ≡ get_or all i d → all ≡ take i all ++ d ∷ drop (i + 1) all
  whole i d within d-is = sym (take-append-drop i all) ∙ ap (λ (r : List Symbol). take i all ++ r) (drop_is i d within d-is)

  -- one whose own value isn't the number
  pub other_value : (i : ℕ) (d : Symbol) → i < length all → d ≡ get_or all i d → Looked i → is_stored width n (Some d.value) ≡ false → Looked (i + 1)
  other_value i d within d-is so_far none =
      looked i d within d-is so_far (passed (take i all) (drop (i + 1) all) d (ap (λ (xs : List Symbol). symbol_value xs d.name.bytes) (whole i d within d-is)) so_far.before none)
