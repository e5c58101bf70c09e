-- The names of the macros that are live.
use Rattle.std.proofs.Common.{◌≡◌, ℕ, zero, suc, Vec, Global, arith, ◌+◌, ◌<◌, Bool, true, false, List, [], ◌∷◌, ◌++◌, map, take, length, ◌≤◌, append-nil, Option, Some, None, refl, sym, ap, subst, ◌∙◌, is_some}
use Rattle.std.specs.Prelude.{if◌then◌else◌, option_map, slice_get}
use Rattle.std.specs.List.{AllByRecursion, IsDistinct}
use Rattle.std.specs.Str.{bytes_eq}
use Rattle.std.proofs.lemmas.Slice.Eq.{bytes_eq-Decides}
use Rattle.std.proofs.lemmas.List.{take_all}
use Rattle.std.proofs.lemmas.Option.{same_Some}
use Rattle.rz_core.proofs.Lists.{take_at_more}
use Rattle.rz_core.specs.declared.resource.Word.{Word}
use Rattle.rz_lex.specs.declared.token.Shape.{Shape}
use Rattle.rz_lex.specs.declared.token.Token.{Token}
use Rattle.rz_pre.proofs.Rows.{row, Entry}
use Rattle.rz_pre.specs.Live.{live_in, shapes_of, Row}
use Rattle.rz_pre.specs.Reading.{is_among}

abbrev pub live_words : List Row → List Word
live_words [] = []
live_words (row ∷ rows) = if is_some row.1 then record { bytes = row.0 } ∷ live_words rows else live_words rows

pub live_words-append : (rows : List Row) (row : Row) → live_words (rows ++ row ∷ []) ≡ live_words rows ++ live_words (row ∷ [])
live_words-append [] row = refl
live_words-append (first ∷ rows) row = by (is_some first.1) (live_words-append rows row)
  where
    by : (b : Bool) → live_words (rows ++ row ∷ []) ≡ live_words rows ++ live_words (row ∷ [])
        → (if b then record { bytes = first.0 } ∷ live_words (rows ++ row ∷ []) else live_words (rows ++ row ∷ []))
        ≡ (if b then record { bytes = first.0 } ∷ live_words rows else live_words rows) ++ live_words (row ∷ [])
    by true same = ap (λ (words : List Word). record { bytes = first.0 } ∷ words) same
    by false same = same

-- a name that no row has is not among them
not_among : (name : List ℕ) (rows : List Row) → AllByRecursion (λ (key : List ℕ). bytes_eq name key ≡ false) (map (λ row. row.0) rows) → is_among name (live_words rows) ≡ false
not_among name [] all = refl
not_among name (row ∷ rows) all = by (is_some row.1) (not_among name rows all.1)
  where
    by : (b : Bool) → is_among name (live_words rows) ≡ false → is_among name (if b then record { bytes = row.0 } ∷ live_words rows else live_words rows) ≡ false
    by true so = ap (λ (b : Bool). if b then true else is_among name (live_words rows)) all.0 ∙ so
    by false so = so

-- a row in front of others: its name, or one of theirs
row_first : (row : Row) (rows : List Row) (name : List ℕ) (b : Bool) (body : Option (List Shape)) → bytes_eq name row.0 ≡ b → row.1 ≡ body
    → (b ≡ true → is_among name (live_words rows) ≡ false) → is_among name (live_words rows) ≡ is_some (live_in rows name)
    → is_among name (if is_some body then record { bytes = row.0 } ∷ live_words rows else live_words rows) ≡ is_some (if b then body else live_in rows name)
row_first row rows name true (Some body) is has alone later = ap (λ (b : Bool). if b then true else is_among name (live_words rows)) is
row_first row rows name true None is has alone later = alone refl
row_first row rows name false (Some body) is has alone later = ap (λ (b : Bool). if b then true else is_among name (live_words rows)) is ∙ later
row_first row rows name false None is has alone later = later

pub names_live : (rows : List Row) → IsDistinct bytes_eq (map (λ row. row.0) rows) → (name : List ℕ) → is_among name (live_words rows) ≡ is_some (live_in rows name)
unfolding IsDistinct
names_live [] distinct name = refl
names_live (row ∷ rows) distinct name = row_first row rows name (bytes_eq name row.0) row.1 refl refl
    (λ is. not_among name rows (subst (λ (n : List ℕ). AllByRecursion (λ (key : List ℕ). bytes_eq n key ≡ false) (map (λ row. row.0) rows)) (sym ((bytes_eq-Decides name row.0).0 is)) distinct.0))
    (names_live rows distinct.1 name)

abbrev same_key : Vec ℕ Global → Vec ℕ Global → Bool
same_key one other = bytes_eq one.items other.items

-- One row more.

module _ (rows : List Row) (k : ℕ) (row : Row) (is : slice_get rows k ≡ Some row) where
  pub live_row_more : (words after : List Word) → words ≡ live_words (take k rows) → is_some row.1 ≡ true → after ≡ words ++ record { bytes = row.0 } ∷ []
      → after ≡ live_words (take (k + 1) rows)
  live_row_more words after so_far has more =
      more ∙ ap (λ (ws : List Word). ws ++ record { bytes = row.0 } ∷ []) so_far
      ∙ ap (λ (b : Bool). live_words (take k rows) ++ (if b then record { bytes = row.0 } ∷ [] else [])) (sym has)
      ∙ sym (live_words-append (take k rows) row) ∙ ap live_words (sym (take_at_more rows k row is))

  pub dead_row_more : (words : List Word) → words ≡ live_words (take k rows) → is_some row.1 ≡ false → words ≡ live_words (take (k + 1) rows)
  dead_row_more words so_far has =
      so_far ∙ sym (append-nil (live_words (take k rows)))
      ∙ ap (λ (b : Bool). live_words (take k rows) ++ (if b then record { bytes = row.0 } ∷ [] else [])) (sym has)
      ∙ sym (live_words-append (take k rows) row) ∙ ap live_words (sym (take_at_more rows k row is))

-- The rows of the map.

pub row_at_index : (es : List Entry) (k : ℕ) (e : Entry) → slice_get es k ≡ Some e → slice_get (map row es) k ≡ Some (row e)
row_at_index [] k e is = absurd cc
row_at_index (first ∷ es) zero e is = ap (λ (x : Entry). Some (row x)) (same_Some first e is)
row_at_index (first ∷ es) (suc k) e is = row_at_index es k e is

pub none_within : (es : List Entry) (k : ℕ) → slice_get es k ≡ None → k < length es → ⊥
none_within [] k is within = omega (arith, within)
none_within (first ∷ es) zero is within = cc
none_within (first ∷ es) (suc k) is within = none_within es k is (omega (arith, within))

pub is_some_row : (e : Entry) → is_some (row e).1 ≡ is_some e.1
is_some_row e = by e.1
  where
    by : (o : Option (List Token)) → is_some (option_map shapes_of o) ≡ is_some o
    by None = refl
    by (Some tokens) = refl

pub distinct_rows : (es : List Entry) → IsDistinct same_key (map (λ e. e.0) es) → IsDistinct bytes_eq (map (λ row. row.0) (map row es))
unfolding IsDistinct
distinct_rows [] distinct = tt
distinct_rows (e ∷ es) distinct = (keys e es distinct.0, distinct_rows es distinct.1)
  where
    keys : (e : Entry) (es : List Entry) → AllByRecursion (λ key. same_key e.0 key ≡ false) (map (λ e. e.0) es)
        → AllByRecursion (λ (name : List ℕ). bytes_eq e.0.items name ≡ false) (map (λ row. row.0) (map row es))
    keys e [] all = tt
    keys e (other ∷ es) all = (all.0, keys e es all.1)

pub all_live : (rows : List Row) (k : ℕ) (words : List Word) → words ≡ live_words (take k rows) → length rows ≤ k → words ≡ live_words rows
all_live rows k words so_far past = so_far ∙ ap live_words (take_all k rows past)
