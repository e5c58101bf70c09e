-- The refusal of a piece has the number of the piece.
use Rattle.std.proofs.Common.{◌≡◌, ℕ, ℤ, Bool, true, false, List, [], ◌∷◌, Option, Some, None, Result, Ok, Err, refl}
use Rattle.std.specs.Prelude.{◌+◌, if◌then◌else◌, map, length, nat_abs, nat_lt, not, option_map, pos}
use Rattle.std.specs.List.{list_any}
use Rattle.rz_core.specs.Lists.{first_of, or_else, unless_fault}
use Rattle.rz_core.specs.Stop.{◌>>=◌}
use Rattle.rz_core.specs.declared.facts.Facts.{Facts}
use Rattle.rz_core.specs.declared.fault.Fault.{Fault}
use Rattle.rz_expr.specs.Term.{Term}
use Rattle.rz_expr.specs.Value.{value_of}
use Rattle.rz_expr.specs.declared.value.EvalFault.{EvalFault}
use Rattle.rz_expr.specs.declared.value.EvalFault.TheVariants.{BadIndex, BadShift, DataWidth, LaterData, UnknownName, ZeroDivisor}
use Rattle.rz_bits.specs.Bits.{bits_of, number_bits}
use Rattle.rz_bits.specs.BitBuf.{zeros}
use Rattle.rz_types_fields.specs.Field.{PlainText}
use Rattle.rz_types_fields.specs.Laid.{bad_length, bad_size, behind_refusal, bytes_given, bytes_laid, draft_sight, early, early_value, fixed_form, grown, joined, late_at, late_bits, later, later_size, lay, met_in, now, number_form, piece_form, ranged, reads_late, refusal, refusal_in, size_in, text_laid, text_refusal, too_long, unless, unvalued, valued, value_refusal, with_form, with_room, Draft, Form, LateNumber, Refusal}
use Rattle.rz_types_fields.specs.Passed.{outside}
use Rattle.rz_types_fields.specs.Piece.{terms_of_text, Filler, OneNumber, OneText, Piece, Place, Zeros}
use Rattle.rz_types_fields.specs.Range.{fits_number, may_be_size}
use Rattle.rz_types_fields.specs.Spells.{most_bits, nowhere}
use Rattle.rz_types_fields.specs.Stored.{is_too_long, stored_number, stored_text}
use Rattle.rz_types_fields.specs.Sees.{names_later, sees}
use Rattle.rz_types_fields.specs.Text.{bytes_seen, text_terms, PlainPart}
use Rattle.rz_types_fields.specs.declared.field.NumForm.{NumForm}
use Rattle.rz_types_fields.specs.declared.field.TextForm.{TextForm}
use Rattle.rz_types_fields.specs.declared.tree.Tree.{Tree}

-- a refusal, where there is one, has this number of a piece
abbrev pub StandsAt : {X : Type 0} → ℕ → Result X Refusal → Type 0
StandsAt at (Ok x) = Unit {0}
StandsAt at (Err fault) = fault.piece ≡ at

abbrev pub FoundAt : ℕ → Option Refusal → Type 0
FoundAt at None = Unit {0}
FoundAt at (Some fault) = fault.piece ≡ at

pub stands : {X : Type 0} (at : ℕ) (found : Result X Refusal) (fault : Refusal) → StandsAt at found → found ≡ Err fault → fault.piece ≡ at
stands at (Ok x) fault is same = absurd cc
stands at (Err other) fault is same = cc

then_at : {X Y : Type 0} (at : ℕ) (first : Result X Refusal) (next : X → Result Y Refusal) → StandsAt at first → ((x : X) → StandsAt at (next x)) → StandsAt at (first >>= next)
then_at at (Ok x) next one more = more x
then_at at (Err fault) next one more = one

unless_at : {X : Type 0} (at : ℕ) (found : Option Refusal) (x : X) → FoundAt at found → StandsAt at (unless_fault found x)
unless_at at None x is = tt
unless_at at (Some fault) x is = is

test_at : (at : ℕ) (test : Bool) (fault : Refusal) → fault.piece ≡ at → FoundAt at (unless test fault)
test_at at true fault is = tt
test_at at false fault is = is

or_at : (at : ℕ) (one other : Option Refusal) → FoundAt at one → FoundAt at other → FoundAt at (or_else one other)
or_at at None other is also = also
or_at at (Some fault) other is also = is

behind_at : {X : Type 0} (at : ℕ) (found : Option Refusal) (other : Result X Refusal) → FoundAt at found → StandsAt at other → StandsAt at (behind_refusal found other)
behind_at at None other is also = also
behind_at at (Some fault) other is also = is

refusal_at : (at : ℕ) (fault : EvalFault) → (value_refusal at fault).piece ≡ at
refusal_at at ZeroDivisor = refl
refusal_at at (UnknownName word) = refl
refusal_at at (BadIndex number) = refl
refusal_at at (LaterData first end) = refl
refusal_at at (DataWidth width) = refl
refusal_at at (BadShift count) = refl

valued_at : (at : ℕ) (found : Result ℤ EvalFault) → StandsAt at (valued at found)
valued_at at (Ok value) = tt
valued_at at (Err fault) = refusal_at at fault

ranged_at : (at : ℕ) (form : NumForm) (width value : ℤ) → StandsAt at (ranged at form width value)
ranged_at at form width value =
    unless_at at (unless (fits_number form width value) (refusal 207 at value)) (number_bits (nat_abs width) (stored_number (nat_abs width) value))
    (test_at at (fits_number form width value) (refusal 207 at value) refl)

joined_at : (at : ℕ) (bytes : Result (List ℕ) Fault) → StandsAt at (joined at bytes)
joined_at at (Ok bytes) = tt
joined_at at (Err fault) = refl

pub late_at_its_piece : (known : Facts) (one : LateNumber) (bits : List Bool) → StandsAt one.piece (late_bits known outside one bits)
late_at_its_piece known one bits =
    then_at one.piece (valued one.piece (value_of one.term (sees known bits (one.names outside) one.at))) (λ value. ranged one.piece one.form one.width value)
    (valued_at one.piece (value_of one.term (sees known bits (one.names outside) one.at))) (λ value. ranged_at one.piece one.form one.width value)

either_at : {X : Type 0} (at : ℕ) (test : Bool) (one other : Result X Refusal) → StandsAt at one → StandsAt at other → StandsAt at (if test then one else other)
either_at at true one other is also = is
either_at at false one other is also = also

module _ (known : Facts) (draft : Draft) where
  fixed_at : (form : NumForm) (width : ℤ) (term : Term) (found : Result ℤ EvalFault) → StandsAt draft.piece (fixed_form draft form width term found)
  fixed_at form width term (Ok value) =
      then_at draft.piece (ranged draft.piece form width value) (λ bits. Ok (now bits)) (ranged_at draft.piece form width value) (λ bits. tt)
  fixed_at form width term (Err fault) =
      either_at draft.piece (reads_late (length draft.bits) fault) (Ok (later form width term)) (Err (value_refusal draft.piece fault)) tt (refusal_at draft.piece fault)

  number_at : (form : NumForm) (width : ℤ) (fixed : Option Term) (value : Option Tree) → StandsAt draft.piece (number_form known draft form width fixed value)
  number_at form width None value = tt
  number_at form width (Some term) value =
      either_at draft.piece (names_later (met_in draft.known) term) (Ok (later form width term)) (fixed_form draft form width term (value_of term (draft_sight known draft)))
      tt (fixed_at form width term (value_of term (draft_sight known draft)))

  early_at : (found : Result ℤ EvalFault) → StandsAt draft.piece (early_value draft found)
  early_at (Ok value) = tt
  early_at (Err fault) = either_of (reads_late (length draft.bits) fault)
    where
      either_of : (test : Bool) → (if test then refusal 214 draft.piece (pos draft.piece) else value_refusal draft.piece fault).piece ≡ draft.piece
      either_of true = refl
      either_of false = refusal_at draft.piece fault

  size_at : (size : Option Term) → StandsAt draft.piece (size_in known draft size)
  size_at None = tt
  size_at (Some term) = then_at draft.piece (early known draft term) (λ size. Ok (Some size)) (early_at (value_of term (draft_sight known draft))) (λ size. tt)

  refused_in : (found : Result ℤ Refusal) → StandsAt draft.piece found → FoundAt draft.piece (refusal_in found)
  refused_in (Ok value) is = tt
  refused_in (Err fault) is = is

  terms_at : (terms : List Term) → FoundAt draft.piece (first_of (map (unvalued known draft) terms))
  terms_at [] = tt
  terms_at (term ∷ terms) =
      or_at draft.piece (unvalued known draft term) (first_of (map (unvalued known draft) terms))
      (refused_in (early known draft term) (early_at (value_of term (draft_sight known draft)))) (terms_at terms)

  bytes_at : (fixed : Option (List PlainPart)) (value : Option Tree) → StandsAt draft.piece (bytes_given known draft fixed value)
  bytes_at None value = tt
  bytes_at (Some parts) value =
      behind_at draft.piece (first_of (map (unvalued known draft) (text_terms parts))) (joined draft.piece (bytes_seen nowhere known (draft_sight known draft) parts))
      (terms_at (text_terms parts)) (joined_at draft.piece (bytes_seen nowhere known (draft_sight known draft) parts))

  bad_size_at : (form : TextForm) (size : Option ℤ) → FoundAt draft.piece (bad_size draft.piece form size)
  bad_size_at form None = tt
  bad_size_at form (Some size) = test_at draft.piece (may_be_size form size) (refusal 207 draft.piece size) refl

  laid_at : (form : TextForm) (size : Option ℤ) (bytes : List ℕ) → StandsAt draft.piece (bytes_laid draft.piece form size bytes)
  laid_at form size bytes =
      unless_at draft.piece (text_refusal draft.piece form size (length bytes)) (bits_of (stored_text form (option_map nat_abs size) bytes))
      (or_at draft.piece (bad_size draft.piece form size) (or_else (bad_length draft.piece form size (length bytes)) None) (bad_size_at form size)
      (or_at draft.piece (bad_length draft.piece form size (length bytes)) None
      (test_at draft.piece (not (is_too_long form (option_map nat_abs size) (length bytes))) (refusal 216 draft.piece (pos (length bytes))) refl) tt))

  text_at : (text : PlainText) (value : Option Tree) → StandsAt draft.piece (text_laid known draft text value)
  text_at text value =
      behind_at draft.piece (later_size draft (terms_of_text text))
      (size_in known draft text.size >>= λ size. bytes_given known draft text.fixed value >>= λ bytes. bytes_laid draft.piece text.form size bytes)
      (test_at draft.piece (not (list_any (names_later (met_in draft.known)) (terms_of_text text))) (refusal 214 draft.piece (pos draft.piece)) refl)
      (then_at draft.piece (size_in known draft text.size) (λ size. bytes_given known draft text.fixed value >>= λ bytes. bytes_laid draft.piece text.form size bytes)
      (size_at text.size)
      (λ size. then_at draft.piece (bytes_given known draft text.fixed value) (λ bytes. bytes_laid draft.piece text.form size bytes) (bytes_at text.fixed value)
      (λ bytes. laid_at text.form size bytes)))

  form_at : (piece : Piece) (value : Option Tree) → StandsAt draft.piece (piece_form known draft piece value)
  form_at (OneNumber number) value = number_at number.form number.width number.fixed value
  form_at (OneText text) value = then_at draft.piece (text_laid known draft text value) (λ bits. Ok (now bits)) (text_at text value) (λ bits. tt)
  form_at (Zeros count) value = tt
  form_at (Filler unit) value = tt
  form_at (Place name) value = tt

  room_at : (count : ℕ) (next : Draft) → StandsAt draft.piece (with_room draft count next)
  room_at count next =
      either_at draft.piece (nat_lt most_bits (length draft.bits + count)) (Err (too_long draft (length draft.bits + count))) (Ok next) refl tt

  with_form_at : (piece : Piece) (form : Form) → StandsAt draft.piece (with_form draft piece form)
  with_form_at piece (now bits) = room_at (length bits) (grown piece draft bits false [])
  with_form_at piece (later form width term) =
      room_at (nat_abs width) (grown piece draft (zeros (nat_abs width)) true (late_at draft form width term ∷ []))

  pub lay_at : (piece : Piece) (value : Option Tree) → StandsAt draft.piece (lay known draft piece value)
  lay_at piece value = then_at draft.piece (piece_form known draft piece value) (with_form draft piece) (form_at piece value) (with_form_at piece)
