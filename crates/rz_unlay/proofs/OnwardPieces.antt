-- What is read of pieces goes on from left to right: names only grow, places stay in the resource, and a piece that has the
-- same width in every row has it.
use Rattle.std.proofs.Common.{◌≡◌, ℕ, zero, suc, ◌+◌, ◌*◌, ◌≤◌, ◌==◌, ℤ, pos, Bool, true, false, List, [], ◌∷◌, length, map, Option, Some, None, Ok, refl, sym, ap, ◌∙◌, subst, arith}
use Rattle.std.specs.Prelude.{if◌then◌else◌, nat_abs, option_and_then, option_map, replicate}
use Rattle.std.specs.List.{list_all}
use Rattle.std.proofs.lemmas.Bool.Decides.{nat_tests}
use Rattle.rz_core.specs.Lists.{or_else}
use Rattle.rz_core.specs.declared.resource.Word.{Word}
use Rattle.rz_bits.specs.BitBuf.{missing}
use Rattle.rz_bits.specs.Bits.{bytes_of}
use Rattle.rz_bits.specs.View.{bits_at, bytes_at, number_at}
use Rattle.rz_expr.specs.Constant.{constant_of}
use Rattle.rz_expr.specs.Environment.{place_key, Environment, IsPartOf}
use Rattle.rz_expr.specs.Term.{Term}
use Rattle.rz_expr.specs.Value.{value_of}
use Rattle.rz_types_fields.specs.Field.{PlainField, PlainText}
use Rattle.rz_types_fields.specs.Piece.{fixed_integer, free_integer, integers, pieces_of, terms_of_text, Filler, OneNumber, OneText, Piece, Place, Zeros}
use Rattle.rz_types_fields.specs.Range.{may_be_size}
use Rattle.rz_types_fields.specs.Sees.{is_late, Late}
use Rattle.rz_types_fields.specs.Shape.{are_fixed_points, is_none_or, numbers_of}
use Rattle.rz_types_fields.specs.Spells.{is_one_late, put}
use Rattle.rz_types_fields.specs.Stored.{stored_text}
use Rattle.rz_types_fields.specs.Text.{PlainPart}
use Rattle.rz_types_fields.specs.Width.{constant_size, sized_bytes, text_width}
use Rattle.rz_types_fields.specs.declared.field.NumForm.{NumForm}
use Rattle.rz_types_fields.specs.declared.field.TextForm.{TextForm}
use Rattle.rz_types_fields.specs.declared.tree.Tree.{Tree}
use Rattle.rz_types_fields.specs.declared.tree.Tree.TheVariants as trees
use Rattle.rz_unlay_pieces.specs.Ahead.{in_resource, near_place}
use Rattle.rz_unlay.specs.Pieces.{early_text, field_of_pieces, piece_step, pieces_found, size_here, sized_step, sized_text, text_step, value_of_field, with_value, Found}
use Rattle.rz_unlay_pieces.specs.Pieces.{is_stored, label_step, late_behind, number_step, seen_at, solve_all, solved_at, with_near, zeros_step, claim, Here, Step}
use Rattle.rz_unlay_texts.specs.Texts.{size_found, size_read, stored_value, text_value}
use Rattle.rz_unlay.proofs.Ahead.{HasPlaces}
use Rattle.rz_unlay.proofs.Claims.{claim_came}
use Rattle.rz_unlay.proofs.ReadsText.{length_with_size}
use Rattle.rz_unlay.proofs.ReadsWidths.{constant_value}
use Rattle.rz_unlay.proofs.ReadsTests.{and_then, both_true, if_some, mapped, none_is, some_same}
use Rattle.rz_unlay.proofs.Solved.{all_solved}
use Rattle.rz_unlay.proofs.SpelledNear.{near_keeps}
use Rattle.rz_unlay.proofs.SpelledNumber.{bits_stand, number_stands}
use Rattle.rz_unlay.proofs.Told.{part_of_part, same_part}

-- what was read: more is known after it, and its end lies in the resource, just there where it is known
pub record Onward (len : ℕ) (names more : Environment) (after : ℕ) (known : Option ℕ) : Type 0 where
  pub kept : IsPartOf names more
  pub within : after ≤ len
  pub is : (next : ℕ) → known ≡ Some next → after ≡ next

-- `true` and `false` keep their values
pub places_kept : (names more : Environment) → IsPartOf names more → HasPlaces names → HasPlaces more
places_kept names more kept has = λ name value is. kept.give _ value (has name value is)

bytes_within : (all : List Bool) (at count : ℕ) (bytes : List ℕ) → bytes_at all at count ≡ Some bytes → at + 8 * count ≤ length all
bytes_within all at count bytes is = let it = mapped bytes_of (bits_at all at (8 * count)) bytes is in (bits_stand all at (8 * count) it.0 it.1).within

-- The names that are known stay so beside near labels.

near_part : (here : Here) (names : Environment) → IsPartOf names (with_near here names)
near_part here names = record {
  give = λ key value is. ap (λ (o : Option ℤ). or_else o (in_resource (length here.all) (option_map (λ place. pos place) (near_place here.fields here.first key)))) is;
}

-- Sizes of texts.

module _ (here : Here) (form : TextForm) (fixed : Option (List PlainPart)) (names : Environment) (at count : ℕ) where
  sized_count : (size : Option (List PlainPart)) (n : ℕ) → size_here here names form (Some n) size at ≡ Some count → count ≡ sized_bytes form n
  sized_count None n is = some_same count (sized_bytes form n) (sym is)
  sized_count (Some parts) n is =
      let it = mapped (λ bytes. length (stored_text form (Some n) bytes)) _ count is in
      sym it.2 ∙ length_with_size form n it.0

  read_size : (term : Term) (size : Option ℕ) (c : ℤ) → value_of term (seen_at here names at) ≡ Ok c → size_read form (Some term) (seen_at here names at) ≡ Some size → size ≡ Some (nat_abs c)
  read_size term size c valued is =
      let found : size_found form (Ok c) ≡ Some size = ap (size_found form) (sym valued) ∙ is in
      let it = if_some (may_be_size form c) (Some (nat_abs c)) size found in
      sym it.1

  text_just : HasPlaces names → (size_term : Option Term) (size : Option ℕ) → size_read form size_term (seen_at here names at) ≡ Some size
      → size_here here names form size fixed at ≡ Some count → (width : ℕ) → text_width form size_term ≡ Some width → 8 * count ≡ width
  text_just has None size sized counted width is = absurd (none_is width is)
  text_just has (Some term) size sized counted width is = by (constant_of term) refl is
    where
      by : (o : Option ℤ) → constant_of term ≡ o → constant_size form o ≡ Some width → 8 * count ≡ width
      by None so is = absurd (none_is width is)
      by (Some c) so is =
          let places = places_kept names (with_near here names) (near_part here names) has in
          let valued = constant_value here.known _ (with_near here names) places term c so in
          let n_is = read_size term size c valued sized in
          let same = sized_count fixed (nat_abs c) (ap (λ (o : Option ℕ). size_here here names form o fixed at) (sym n_is) ∙ counted) in
          ap (λ (n : ℕ). 8 * n) same ∙ some_same (8 * sized_bytes form (nat_abs c)) width is

-- One piece.

-- the place after a piece at a place, where it is at a known distance
abbrev pub behind_one : Piece → ℕ → Option ℕ
behind_one (OneNumber number) at = Some (at + nat_abs number.width)
behind_one (OneText text) at = option_map (λ width. at + width) (text_width text.form text.size)
behind_one (Zeros count) at = Some (at + count)
behind_one (Filler unit) at = Some (at + missing unit at)
behind_one (Place name) at = Some at

abbrev pub Goes : ℕ → Environment → Option ℕ → Step → Type 0
Goes len names known step = Onward len names step.names step.after known

zeros_go : (all : List Bool) (count : ℕ) (names : Environment) (at : ℕ) (late : Late) (step : Step) → zeros_step all count names at late ≡ Some step → Goes (length all) names (Some (at + count)) step
zeros_go all count names at late step is =
    let one = and_then _ (number_at all at count) step is in
    let two = if_some (one.0 == 0) (record { value = None; after = at + count; names = names; late = late_behind late count false }) step one.2 in
    subst (Goes (length all) names (Some (at + count))) two.1 (record {
      kept = same_part names;
      within = (number_stands all at count one.0 one.1).stand.within;
      is = λ next so. some_same (at + count) next so;
    })

label_goes : (len : ℕ) (name : Word) (names : Environment) (at : ℕ) (late : Late) (step : Step) → at ≤ len → label_step name names at late ≡ Some step → Goes len names (Some at) step
label_goes len name names at late step inside is =
    let it = mapped (λ more. record { value = None; after = at; names = more; late = late }) (claim (place_key name.bytes) (pos at) names) step is in
    subst (Goes len names (Some at)) it.2 (record {
      kept = (claim_came (place_key name.bytes) (pos at) names it.0 it.1).kept;
      within = inside;
      is = λ next so. some_same at next so;
    })

module _ (here : Here) where
  abbrev On : Environment → Option ℕ → Step → Type 0
  On names known step = Goes (length here.all) names known step

  number_goes : (form : NumForm) (width : ℤ) (fixed : Option Term) (names : Environment) (at : ℕ) (late : Late) (step : Step)
      → number_step here form width fixed names at late ≡ Some step → On names (Some (at + nat_abs width)) step
  number_goes form width None names at late step is =
      let it = mapped (λ n. record { value = Some (trees.Number n); after = at + nat_abs width; names = names; late = late_behind late (nat_abs width) false }) (number_at here.all at (nat_abs width)) step is in
      subst (On names (Some (at + nat_abs width))) it.2 (record {
        kept = same_part names;
        within = (number_stands here.all at (nat_abs width) it.0 it.1).stand.within;
        is = λ next so. some_same (at + nat_abs width) next so;
      })
  number_goes form width (Some term) names at late step is =
      let one = and_then _ (number_at here.all at (nat_abs width)) step is in
      let two = and_then _ (solve_all (with_near here) (λ key now. solved_at (length here.all) (nat_abs width) key (seen_at here now at) term one.0) term names) step one.2 in
      let more : Environment = two.0 in
      let three = if_some (is_stored form width (value_of term (seen_at here more at)) one.0)
      (record { value = None; after = at + nat_abs width; names = more; late = late_behind late (nat_abs width) (is_late here.met late term (seen_at here more at)) }) step two.2 in
      subst (On names (Some (at + nat_abs width))) three.1 (record {
        kept = (all_solved (with_near here) (λ key now. solved_at (length here.all) (nat_abs width) key (seen_at here now at) term one.0) (near_keeps here) term names more two.1).kept;
        within = (number_stands here.all at (nat_abs width) one.0 one.1).stand.within;
        is = λ next so. some_same (at + nat_abs width) next so;
      })

  -- a text of so many bytes, which its size told
  bytes_go : (text : PlainText) (names : Environment) (at : ℕ) (late : Late) (size : Option ℕ) (count : ℕ) (raw : List ℕ) (value : Option Tree) → HasPlaces names
      → size_read text.form text.size (seen_at here names at) ≡ Some size → size_here here names text.form size text.fixed at ≡ Some count → bytes_at here.all at count ≡ Some raw
      → On names (behind_one (OneText text) at) (record { value = value; after = at + 8 * count; names = names; late = late })
  bytes_go text names at late size count raw value has sized counted there = record {
    kept = same_part names;
    within = bytes_within here.all at count raw there;
    is = λ next so.
        let width = mapped (λ width. at + width) (text_width text.form text.size) next so in
        ap (λ (n : ℕ). at + n) (text_just here text.form text.fixed names at count has text.size size sized counted width.0 width.1) ∙ width.2;
  }

  early_goes : (text : PlainText) (names : Environment) (at : ℕ) (late : Late) (step : Step) → HasPlaces names → early_text here text names at late ≡ Some step
      → On names (behind_one (OneText text) at) step
  early_goes text names at late step has is =
      let one = and_then (λ size. sized_text here text size names at late) (size_read text.form text.size (seen_at here names at)) step is in
      let two = and_then (sized_step here text one.0 names at late) (size_here here names text.form one.0 text.fixed at) step one.2 in
      let came = mapped (λ value. record { value = value; after = at + 8 * two.0; names = names; late = late_behind late (8 * two.0) false })
      (text_value here.known (seen_at here names at) here.all text one.0 two.0 at) step two.2 in
      let raw = and_then (stored_value here.known (seen_at here names at) text one.0) (bytes_at here.all at two.0) came.0 came.1 in
      subst (On names (behind_one (OneText text) at)) came.2 (bytes_go text names at (late_behind late (8 * two.0) false) one.0 two.0 raw.0 came.0 has one.1 two.1 raw.1)

  text_goes : (text : PlainText) (names : Environment) (at : ℕ) (late : Late) (step : Step) → HasPlaces names → text_step here text names at late ≡ Some step
      → On names (behind_one (OneText text) at) step
  text_goes text names at late step has = by (is_one_late here.met late (terms_of_text text) (seen_at here names at))
    where
      by : (test : Bool) → (if test then None else early_text here text names at late) ≡ Some step → On names (behind_one (OneText text) at) step
      by true is = absurd (none_is step is)
      by false is = early_goes text names at late step has is

  piece_goes : (piece : Piece) (names : Environment) (at : ℕ) (late : Late) (step : Step) → HasPlaces names → at ≤ length here.all → piece_step here piece names at late ≡ Some step
      → On names (behind_one piece at) step
  piece_goes (OneNumber number) names at late step has inside is = number_goes number.form number.width number.fixed names at late step is
  piece_goes (OneText text) names at late step has inside is = text_goes text names at late step has is
  piece_goes (Zeros count) names at late step has inside is = zeros_go here.all count names at late step is
  piece_goes (Filler unit) names at late step has inside is = zeros_go here.all (missing unit at) names at late step is
  piece_goes (Place name) names at late step has inside is = label_goes (length here.all) name names at late step inside is

-- One after the other.

abbrev pub behind_all : List Piece → ℕ → Option ℕ
behind_all [] at = Some at
behind_all (piece ∷ pieces) at = option_and_then (behind_all pieces) (behind_one piece at)

abbrev pub GoesOn : ℕ → Environment → Option ℕ → Found → Type 0
GoesOn len names known found = Onward len names found.names found.after known

module _ (here : Here) where
  pieces_go : (pieces : List Piece) (names : Environment) (at : ℕ) (late : Late) (found : Found) → HasPlaces names → at ≤ length here.all → pieces_found here pieces names at late ≡ Some found
      → GoesOn (length here.all) names (behind_all pieces at) found
  pieces_go [] names at late found has inside is =
      subst (GoesOn (length here.all) names (Some at)) (some_same (record { row = []; after = at; names = names; late = late }) found is)
      (record { kept = same_part names; within = inside; is = λ next so. some_same at next so })
  pieces_go (piece ∷ pieces) names at late found has inside is =
      let one = and_then (λ step. with_value step.value (pieces_found here pieces step.names step.after step.late)) (piece_step here piece names at late) found is in
      let step : Step = one.0 in
      let more = mapped (λ f. record { row = put step.value f.row; after = f.after; names = f.names; late = f.late }) (pieces_found here pieces step.names step.after step.late) found one.2 in
      let inner : Found = more.0 in
      let first = piece_goes here piece names at late step has inside one.1 in
      let others = pieces_go pieces step.names step.after step.late inner (places_kept names step.names first.kept has) first.within more.1 in
      subst (GoesOn (length here.all) names (behind_all (piece ∷ pieces) at)) more.2 (record {
        kept = part_of_part names step.names inner.names first.kept others.kept;
        within = others.within;
        is = λ next so.
            let mid = and_then (behind_all pieces) (behind_one piece at) next so in
            others.is next (ap (behind_all pieces) (first.is mid.0 mid.1) ∙ mid.2);
      })

  pub field_goes : (field : PlainField) (names : Environment) (at : ℕ) (late : Late) (step : Step) → HasPlaces names → at ≤ length here.all → field_of_pieces here field names at late ≡ Some step
      → Goes (length here.all) names (behind_all (pieces_of field) at) step
  field_goes field names at late step has inside is =
      let it = mapped (λ f. record { value = value_of_field field f.row; after = f.after; names = f.names; late = f.late }) (pieces_found here (pieces_of field) names at late) step is in
      let found : Found = it.0 in
      subst (Goes (length here.all) names (behind_all (pieces_of field) at)) it.2 (pieces_go (pieces_of field) names at late found has inside it.1)

-- The numbers of a point or a rectangle.

frees_behind : (count at : ℕ) → behind_all (replicate count free_integer) at ≡ Some (at + 16 * count)
frees_behind zero at = ap (λ (n : ℕ). Some n) (omega (arith))
frees_behind (suc count) at = frees_behind count (at + 16) ∙ ap (λ (n : ℕ). Some n) (omega (arith))

fixed_behind : (terms : List Term) (at : ℕ) → behind_all (map fixed_integer terms) at ≡ Some (at + 16 * length terms)
fixed_behind [] at = ap (λ (n : ℕ). Some n) (omega (arith))
fixed_behind (term ∷ terms) at = fixed_behind terms (at + 16) ∙ ap (λ (n : ℕ). Some n) (omega (arith))

pub points_behind : (rect : Bool) (fixed : Option (List Term)) (at : ℕ) → is_none_or (are_fixed_points rect) fixed ≡ true
    → behind_all (integers rect fixed) at ≡ Some (at + 16 * numbers_of rect)
points_behind rect None at shaped = frees_behind (numbers_of rect) at
points_behind rect (Some terms) at shaped =
    let test = both_true (length terms == numbers_of rect) (list_all _ terms) shaped in
    let number : length terms ≡ numbers_of rect = same (length terms) (numbers_of rect) test.0 in
    fixed_behind terms at ∙ ap (λ (n : ℕ). Some (at + 16 * n)) number
  where
    same : (a b : ℕ) → (a == b) ≡ true → a ≡ b
    same a b is = grind (arith, nat_tests)
