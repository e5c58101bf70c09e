-- A draft at a place of a row that is spelled, and what it shows.
use Rattle.std.proofs.Common.{◌≡◌, ℕ, zero, suc, ◌<◌, ◌+◌, ℤ, pos, negsuc, Bool, true, false, not, List, [], ◌∷◌, length, Option, Some, None, Result, Ok, Err, refl, sym, ap, ◌∙◌, subst, arith}
use Rattle.std.specs.Prelude.{if◌then◌else◌, option_and_then, slice_get, nat_abs, nat_lt}
use Rattle.std.specs.Option.{is_some}
use Rattle.rz_core.proofs.Tests.{true_false}
use Rattle.rz_core.specs.Stop.{◌>>=◌}
use Rattle.rz_core.specs.declared.facts.Facts.{Facts}
use Rattle.rz_bits.specs.BitBuf.{zeros}
use Rattle.rz_expr.specs.Environment.{count_of, place_in, place_of, row_in, rows_of, Environment, IsSeenIn, Key}
use Rattle.rz_types_fields.proofs.RowKeys.{placed_as_counted}
use Rattle.rz_types_fields.specs.Field.{PlainBody}
use Rattle.rz_types_fields.specs.Front.{names_inside, stated_in}
use Rattle.rz_types_fields.specs.Laid.{draft_sight, entered, grown, late_at, later, lay, now, piece_form, placed, too_long, with_form, Draft, Form, Refusal}
use Rattle.rz_types_fields.specs.Passed.{declares, has_label, Names}
use Rattle.rz_types_fields.specs.Piece.{Piece}
use Rattle.rz_types_fields.specs.RowLabels.{also_rows, row_number, rows_give, RowOf}
use Rattle.rz_types_fields.specs.Sees.{bits_before, hit, sees, Late}
use Rattle.rz_types_fields.specs.Spells.{most_bits}
use Rattle.rz_types_fields.specs.declared.tree.Tree.{Tree}
use Rattle.rz_layout.proofs.Fitting.{fits_met, piece_alone, placed_none, Fits, SamePlaces}
use Rattle.rz_layout.proofs.Labels.{counted_other, entered_none, label_key, no_row, stated_other, MetKnown}
use Rattle.rz_layout.proofs.Masks.{hidden_bits}
use Rattle.rz_layout.proofs.Placing.{row_in_rows}
use Rattle.rz_layout.proofs.Sees.{IsRowIn}

-- Labels in rows have places in each row, and in no others.

abbrev pub InRows : Environment → Type 0
InRows known = (label : List ℕ) (number value : ℤ) → known.give (place_in label number) ≡ Some value → (rows : ℤ) × (known.give (rows_of label) ≡ Some rows) × IsRowIn rows number

none_some : {P : Type 0} (o : Option ℤ) (value : ℤ) → o ≡ None → o ≡ Some value → P
none_some o value none some = absurd (true_false (sym (ap is_some some) ∙ ap is_some none))

abbrev SameRows : Environment → Environment → List ℕ → ℤ → Type 0
SameRows one other label number = (one.give (place_in label number) ≡ other.give (place_in label number)) × (one.give (rows_of label) ≡ other.give (rows_of label))

same_rows : (one other : Environment) (label : List ℕ) (number value : ℤ) → SameRows one other label number → InRows other → one.give (place_in label number) ≡ Some value
    → (rows : ℤ) × (one.give (rows_of label) ≡ Some rows) × IsRowIn rows number
same_rows one other label number value same in_rows is = let it = in_rows label number value (sym same.0 ∙ is) in (it.0, same.1 ∙ it.1, it.2)

pub placed_in_rows : (piece : Piece) (at : ℕ) (names : Environment) → InRows names → InRows (placed piece at names)
placed_in_rows piece at names in_rows label number value is =
    same_rows (placed piece at names) names label number value
    (placed_none piece at names (place_in label number) (piece_alone piece (place_in label number) refl), placed_none piece at names (rows_of label) (piece_alone piece (rows_of label) refl))
    in_rows is

pub entered_in_rows : (which : Option RowOf) (body : PlainBody) (values : List Tree) (outer : Environment) → InRows outer → InRows (entered which body values outer)
entered_in_rows which body values outer in_rows label number value is = by (declares body (place_in label number)) refl
  where
    key : Key
    key = place_in label number

    hidden : declares body key ≡ true → (entered which body values outer).give key ≡ None
    hidden own =
        counted_other body values (names_inside which body outer) key refl
        ∙ (λ i. if no_row which key refl i then row_number which else if own i then stated_in body key else outer.give key)
        ∙ stated_other body key refl

    by : (test : Bool) → declares body key ≡ test → (rows : ℤ) × ((entered which body values outer).give (rows_of label) ≡ Some rows) × IsRowIn rows number
    by true own = none_some ((entered which body values outer).give key) value (hidden own) is
    by false none =
        same_rows (entered which body values outer) outer label number value (
          entered_none which body values outer key none (no_row which key refl),
          entered_none which body values outer (rows_of label) (sym (placed_as_counted body label number) ∙ none) (no_row which (rows_of label) refl),
        )
        in_rows is

got_less : (ends : List Environment) (n : ℕ) (own : Environment) → slice_get ends n ≡ Some own → n < length ends
got_less [] n own is = absurd cc
got_less (one ∷ ends) zero own is = omega arith
got_less (one ∷ ends) (suc n) own is = let less = got_less ends n own is in omega (arith, less)

ended_in_rows : (ends : List Environment) (label : List ℕ) (number value : ℤ) → rows_give ends (place_in label number) ≡ Some value → IsRowIn (pos (length ends)) number
ended_in_rows ends label (negsuc n) value is = none_some (rows_give ends (place_in label (negsuc n))) value refl is
ended_in_rows ends label (pos zero) value is = none_some (rows_give ends (place_in label (pos zero))) value refl is
ended_in_rows ends label (pos (suc n)) value is = by (slice_get ends n) refl
  where
    by : (found : Option Environment) → slice_get ends n ≡ found → IsRowIn (pos (length ends)) (pos (suc n))
    by None none = none_some (option_and_then (λ own. own.give (place_of label)) (slice_get ends n)) value (ap (option_and_then (λ (own : Environment). own.give (place_of label))) none) is
    by (Some own) some =
        let next : 1 + n ≡ suc n = omega arith in
        subst (λ (k : ℕ). IsRowIn (pos (length ends)) (pos k)) next (row_in_rows (length ends) n (got_less ends n own some))

pub behind_in_rows : (row : PlainBody) (ends : List Environment) (names : Environment) → InRows names → InRows (also_rows row ends names)
behind_in_rows row ends names in_rows label number value is = by (has_label row label) refl
  where
    after : Environment
    after = also_rows row ends names

    by : (test : Bool) → has_label row label ≡ test → (rows : ℤ) × (after.give (rows_of label) ≡ Some rows) × IsRowIn rows number
    by true own = (
      pos (length ends),
      ap (λ (test : Bool). if test then Some (pos (length ends)) else names.give (rows_of label)) own,
      ended_in_rows ends label number value (sym (ap (λ (test : Bool). if test then rows_give ends (place_in label number) else names.give (place_in label number)) own) ∙ is),
    )
    by false none =
        same_rows after names label number value (
          ap (λ (test : Bool). if test then rows_give ends (place_in label number) else names.give (place_in label number)) none,
          ap (λ (test : Bool). if test then Some (pos (length ends)) else names.give (rows_of label)) none,
        )
        in_rows is

-- A piece adds its own place to the names of its draft.

abbrev KnownIs : Environment → Result Draft Refusal → Type 0
KnownIs names (Ok next) = next.known ≡ names
KnownIs names (Err fault) = Unit {0}

then_known : {X : Type 0} (names : Environment) (first : Result X Refusal) (next : X → Result Draft Refusal) → ((x : X) → KnownIs names (next x)) → KnownIs names (first >>= next)
then_known names (Ok x) next each = each x
then_known names (Err fault) next each = tt

either_known : (names : Environment) (test : Bool) (fault : Refusal) (next : Draft) → next.known ≡ names → KnownIs names (if test then Err fault else Ok next)
either_known names true fault next is = tt
either_known names false fault next is = is

form_known : (draft : Draft) (piece : Piece) (form : Form) → KnownIs (placed piece (length draft.bits) draft.known) (with_form draft piece form)
form_known draft piece (now bits) =
    either_known (placed piece (length draft.bits) draft.known) (nat_lt most_bits (length draft.bits + length bits)) (too_long draft (length draft.bits + length bits)) (grown piece draft bits false []) refl
form_known draft piece (later form width term) =
    either_known (placed piece (length draft.bits) draft.known) (nat_lt most_bits (length draft.bits + nat_abs width)) (too_long draft (length draft.bits + nat_abs width))
    (grown piece draft (zeros (nat_abs width)) true (late_at draft form width term ∷ [])) refl

pub lay_known : (known : Facts) (draft : Draft) (piece : Piece) (value : Option Tree) (next : Draft) → lay known draft piece value ≡ Ok next → next.known ≡ placed piece (length draft.bits) draft.known
lay_known known draft piece value next is =
    subst (KnownIs (placed piece (length draft.bits) draft.known)) is
    (then_known (placed piece (length draft.bits) draft.known) (piece_form known draft piece value) (with_form draft piece) (form_known draft piece))

-- A draft that fits shows a part of what is finished.

unhidden : (test : Bool) (o : Option ℤ) (value : ℤ) → (if test then None else o) ≡ Some value → o ≡ Some value
unhidden true o value is = none_some None value refl is
unhidden false o value is = is

module _ (known : Facts) (all : List Bool) where
  pub record Stands (names : Environment) (met : Names) (at : ℕ) (late : Late) (draft : Draft) : Type 0 where
    pub fits : Fits known all names met at late draft
    pub met_known : MetKnown met draft.known
    pub in_rows : InRows draft.known

  pub stands_met : (names : Environment) (one other : Names) → SamePlaces one other → (at : ℕ) (late : Late) (draft : Draft) → Stands names one at late draft → Stands names other at late draft
  stands_met names one other same at late draft it = record {
    fits = fits_met known all names one other same at late draft it.fits;
    met_known = λ in_rows name. sym (same in_rows name) ∙ it.met_known in_rows name;
    in_rows = it.in_rows;
  }

  module _ (names : Environment) (met : Names) (at : ℕ) (late : Late) (draft : Draft) (it : Stands names met at late draft) where
    -- what was met has a value
    met_some : (in_rows : Bool) (name : List ℕ) (value : ℤ) → draft.known.give (label_key in_rows name) ≡ Some value → met (label_key in_rows name) ≡ true
    met_some in_rows name value is = it.met_known in_rows name ∙ ap is_some is

    part : (key : Key) (value : ℤ) → draft.known.give key ≡ Some value → names.give key ≡ Some value
    part (place_of name) value is = sym (it.fits.names_are.names (place_of name) refl (ap not (met_some false name value is))) ∙ is
    part (count_of name) value is = sym (it.fits.names_are.names (count_of name) refl refl) ∙ is
    part (rows_of name) value is = sym (it.fits.names_are.names (rows_of name) refl (ap not (met_some true name value is))) ∙ is
    part (place_in label number) value is =
        let row = it.in_rows label number value is in
        let was = met_some true label row.0 row.1 in
        let rows_are = sym (it.fits.names_are.names (rows_of label) refl (ap not was)) ∙ row.1 in
        sym (it.fits.names_are.places label row.0 number was rows_are row.2) ∙ is
    part (row_in name) value is = sym (it.fits.names_are.names (row_in name) refl refl) ∙ is

    bits_are : (first width : ℤ) → (draft_sight known draft).bits first width ≡ (if hit late first width then None else bits_before all at first width)
    bits_are first width =
        ap (λ (marks : Late). if hit marks first width then None else bits_before draft.bits (length draft.bits) first width) it.fits.late_is
        ∙ ap (λ (k : ℕ). if hit late first width then None else bits_before draft.bits k first width) it.fits.len
        ∙ ap (λ (bits : List Bool). if hit late first width then None else bits_before bits at first width) it.fits.bits
        ∙ hidden_bits late all at it.fits.within first width

    pub seen_so : IsSeenIn (draft_sight known draft) (sees known all names at)
    seen_so = record {
      names = record { give = part };
      bits = λ first width value is. unhidden (hit late first width) (bits_before all at first width) value (sym (bits_are first width) ∙ is);
      fact = λ which. refl;
    }
