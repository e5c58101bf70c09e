-- The faults of pieces: the refusal of a piece whose expressions name nothing without a value is one of a row's.
use Rattle.std.proofs.Common.{◌≡◌, ℕ, zero, suc, ℤ, pos, Bool, true, false, List, [], ◌∷◌, length, map, Option, Some, None, Result, Ok, Err, refl}
use Rattle.std.specs.Prelude.{if◌then◌else◌, not, replicate}
use Rattle.std.specs.List.{list_any, AllByRecursion}
use Rattle.std.specs.Option.{option_to_list}
use Rattle.rz_core.specs.Lists.{first_of, or_else, unless_fault}
use Rattle.rz_core.specs.Stop.{◌>>=◌}
use Rattle.rz_core.specs.declared.facts.Facts.{Facts}
use Rattle.rz_core.specs.declared.fault.Fault.{Fault}
use Rattle.rz_expr.specs.Term.{Term}
use Rattle.rz_expr.specs.Value.{value_of}
use Rattle.rz_expr.specs.declared.value.EvalFault.{EvalFault}
use Rattle.rz_expr.specs.declared.value.EvalFault.TheVariants.{BadIndex, BadShift, DataWidth, LaterData, UnknownName, ZeroDivisor}
use Rattle.rz_types_fields.specs.declared.field.NumForm.{NumForm}
use Rattle.rz_types_fields.specs.declared.field.TextForm.{TextForm}
use Rattle.rz_types_fields.specs.declared.tree.Tree.{Tree}
use Rattle.rz_types_fields.specs.Field.{PlainText}
use Rattle.rz_types_fields.specs.Laid.{bad_length, bad_size, behind_refusal, bytes_given, bytes_laid, draft_sight, early, early_value, joined, later_size, met_in, ranged, reads_late, refusal, refusal_in, size_in, text_laid, text_refusal, unless, unvalued, value_refusal, valued, Draft, Refusal}
use Rattle.rz_types_fields.specs.Piece.{fixed_integer, fixed_terms, free_integer, integers, points_terms, terms_of_text, Filler, OneNumber, OneText, Piece, Place, Zeros}
use Rattle.rz_types_fields.specs.Range.{fits_number, may_be_size}
use Rattle.rz_types_fields.specs.Sees.{names_later}
use Rattle.rz_types_fields.specs.Shape.{numbers_of}
use Rattle.rz_types_fields.specs.Spells.{nowhere}
use Rattle.rz_types_fields.specs.Text.{bytes_seen, text_terms, PlainPart}
use Rattle.rz_types_fields.specs.Value.{IsArithmetic}
use Rattle.rz_types.proofs.Texts.{each_append as each_part, text_one, OnlyOne}
use Rattle.rz_types.specs.Names.{NamesNothing}
use Rattle.rz_types.specs.Rules.{unknown_name}
use Rattle.rz_types.specs.Walk.{Own}
use Rattle.rz_layout.specs.Compiled.{is_compile_fault}

-- The expressions of a piece, of which each names only names of a scope.

abbrev pub IsNamed : Own → Term → Type 0
IsNamed scope term = unknown_name scope term ≡ None

abbrev pub HasTerms : Own → Piece → Type 0
HasTerms scope (OneNumber number) = AllByRecursion (IsNamed scope) (option_to_list number.fixed)
HasTerms scope (OneText text) = AllByRecursion (IsNamed scope) (terms_of_text text)
HasTerms scope (Zeros count) = Unit {0}
HasTerms scope (Filler unit) = Unit {0}
HasTerms scope (Place name) = Unit {0}

no_first : {A : Type 0} (one other : Option A) → or_else one other ≡ None → (one ≡ None) × (other ≡ None)
no_first None other is = (refl, is)
no_first (Some x) other is = absurd cc

pub each_named : (scope : Own) (terms : List Term) → first_of (map (unknown_name scope) terms) ≡ None → AllByRecursion (IsNamed scope) terms
each_named scope [] none = tt
each_named scope (term ∷ terms) none =
    let each = no_first (unknown_name scope term) (first_of (map (unknown_name scope) terms)) none in (each.0, each_named scope terms each.1)

free_terms : (scope : Own) (count : ℕ) → AllByRecursion (HasTerms scope) (replicate count free_integer)
free_terms scope zero = tt
free_terms scope (suc count) = (tt, free_terms scope count)

fixed_pieces : (scope : Own) (terms : List Term) → AllByRecursion (IsNamed scope) terms → AllByRecursion (HasTerms scope) (map fixed_integer terms)
fixed_pieces scope [] each = tt
fixed_pieces scope (term ∷ terms) each = ((each.0, tt), fixed_pieces scope terms each.1)

pub point_pieces : (scope : Own) (rect : Bool) (fixed : Option (List Term)) → AllByRecursion (IsNamed scope) (points_terms fixed) → AllByRecursion (HasTerms scope) (integers rect fixed)
point_pieces scope rect None each = free_terms scope (numbers_of rect)
point_pieces scope rect (Some terms) each = fixed_pieces scope terms each

-- A refusal, where there is one, is such a fault.

abbrev pub Known : {X : Type 0} → Result X Refusal → Type 0
Known (Ok x) = Unit {0}
Known (Err fault) = is_compile_fault fault.number ≡ true

pub then_known : {X Y : Type 0} (first : Result X Refusal) (next : X → Result Y Refusal) → Known first → ((x : X) → Known (next x)) → Known (first >>= next)
then_known (Ok x) next one more = more x
then_known (Err fault) next one more = one

abbrev KnownFault : Option Refusal → Type 0
KnownFault None = Unit {0}
KnownFault (Some fault) = is_compile_fault fault.number ≡ true

unless_known : {X : Type 0} (found : Option Refusal) (x : X) → KnownFault found → Known (unless_fault found x)
unless_known None x is = tt
unless_known (Some fault) x is = is

test_known : (test : Bool) (fault : Refusal) → is_compile_fault fault.number ≡ true → KnownFault (unless test fault)
test_known true fault is = tt
test_known false fault is = is

or_known : (one other : Option Refusal) → KnownFault one → KnownFault other → KnownFault (or_else one other)
or_known None other is also = also
or_known (Some fault) other is also = is

pub value_known : (piece : ℕ) (fault : EvalFault) → NamesNothing (Err fault) → is_compile_fault (value_refusal piece fault).number ≡ true
value_known piece ZeroDivisor is = refl
value_known piece (BadShift count) is = refl
value_known piece (UnknownName word) is = absurd is
value_known piece (BadIndex number) is = refl
value_known piece (LaterData first end) is = refl
value_known piece (DataWidth width) is = refl

pub valued_known : (piece : ℕ) (found : Result ℤ EvalFault) → NamesNothing found → Known (valued piece found)
valued_known piece (Ok value) is = tt
valued_known piece (Err fault) is = value_known piece fault is

pub ranged_known : (piece : ℕ) (form : NumForm) (width value : ℤ) → Known (ranged piece form width value)
ranged_known piece form width value = unless_known (unless (fits_number form width value) (refusal 207 piece value)) _ (test_known (fits_number form width value) (refusal 207 piece value) refl)

-- Bytes.

bad_size_known : (piece : ℕ) (form : TextForm) (size : Option ℤ) → KnownFault (bad_size piece form size)
bad_size_known piece form None = tt
bad_size_known piece form (Some size) = test_known (may_be_size form size) (refusal 207 piece size) refl

laid_known : (piece : ℕ) (form : TextForm) (size : Option ℤ) (bytes : List ℕ) → Known (bytes_laid piece form size bytes)
laid_known piece form size bytes =
    unless_known (text_refusal piece form size (length bytes)) _
    (or_known (bad_size piece form size) (or_else (bad_length piece form size (length bytes)) None) (bad_size_known piece form size)
    (or_known (bad_length piece form size (length bytes)) None (test_known _ (refusal 216 piece (pos (length bytes))) refl) tt))

joined_known : (piece : ℕ) (found : Result (List ℕ) Fault) → OnlyOne (λ number. is_compile_fault number ≡ true) found → Known (joined piece found)
joined_known piece (Ok bytes) is = tt
joined_known piece (Err fault) is = is

behind_known : {X : Type 0} (found : Option Refusal) (given : Result X Refusal) → KnownFault found → (found ≡ None → Known given) → Known (behind_refusal found given)
behind_known None given is also = also refl
behind_known (Some fault) given is also = is

refusal_known : (found : Result ℤ Refusal) → Known found → KnownFault (refusal_in found)
refusal_known (Ok value) is = tt
refusal_known (Err fault) is = is

module _ (known : Facts) (draft : Draft) where
  -- the value of an expression that names nothing without a value
  abbrev pub HasNames : Term → Type 0
  HasNames term = NamesNothing (value_of term (draft_sight known draft))

  early_known : (found : Result ℤ EvalFault) → NamesNothing found → Known (early_value draft found)
  early_known (Ok value) is = tt
  early_known (Err fault) is = by (reads_late (length draft.bits) fault)
    where
      by : (test : Bool) → is_compile_fault (if test then refusal 214 draft.piece (pos draft.piece) else value_refusal draft.piece fault).number ≡ true
      by true = refl
      by false = value_known draft.piece fault is

  size_known : (size : Option Term) → AllByRecursion HasNames (option_to_list size) → Known (size_in known draft size)
  size_known None each = tt
  size_known (Some term) each = then_known (early known draft term) (λ size. Ok (Some size)) (early_known (value_of term (draft_sight known draft)) each.0) (λ v. tt)

  terms_known : (terms : List Term) → AllByRecursion HasNames terms → KnownFault (first_of (map (unvalued known draft) terms))
  terms_known [] each = tt
  terms_known (term ∷ terms) each =
      or_known (unvalued known draft term) (first_of (map (unvalued known draft) terms))
      (refusal_known (early known draft term) (early_known (value_of term (draft_sight known draft)) each.0)) (terms_known terms each.1)

  found_value : (found : Result ℤ EvalFault) → refusal_in (early_value draft found) ≡ None → IsArithmetic found
  found_value (Ok value) is = tt
  found_value (Err fault) is = absurd cc

  all_found : (terms : List Term) → first_of (map (unvalued known draft) terms) ≡ None → AllByRecursion (λ term. IsArithmetic (value_of term (draft_sight known draft))) terms
  all_found [] none = tt
  all_found (term ∷ terms) none =
      let each = no_first (unvalued known draft term) (first_of (map (unvalued known draft) terms)) none in
      (found_value (value_of term (draft_sight known draft)) each.0, all_found terms each.1)

  bytes_known : (fixed : Option (List PlainPart)) → AllByRecursion HasNames (fixed_terms fixed) → (value : Option Tree) → Known (bytes_given known draft fixed value)
  bytes_known None each value = tt
  bytes_known (Some parts) each value =
      behind_known (first_of (map (unvalued known draft) (text_terms parts))) (joined draft.piece (bytes_seen nowhere known (draft_sight known draft) parts))
      (terms_known (text_terms parts) each)
      (λ none. joined_known draft.piece (bytes_seen nowhere known (draft_sight known draft) parts)
      (text_one (λ number. is_compile_fault number ≡ true) refl refl refl nowhere known (draft_sight known draft) parts (all_found (text_terms parts) none)))

  later_none : (test : Bool) → unless (not test) (refusal 214 draft.piece (pos draft.piece)) ≡ None → test ≡ false
  later_none true is = absurd cc
  later_none false is = refl

  pub text_known : (text : PlainText) (value : Option Tree) → (list_any (names_later (met_in draft.known)) (terms_of_text text) ≡ false → AllByRecursion HasNames (terms_of_text text)) → Known (text_laid known draft text value)
  text_known text value names =
      behind_known (later_size draft (terms_of_text text)) (size_in known draft text.size >>= λ size. bytes_given known draft text.fixed value >>= λ bytes. bytes_laid draft.piece text.form size bytes)
      (test_known (not (list_any (names_later (met_in draft.known)) (terms_of_text text))) (refusal 214 draft.piece (pos draft.piece)) refl)
      (λ none.
      let each = each_part HasNames (option_to_list text.size) (fixed_terms text.fixed) (names (later_none (list_any (names_later (met_in draft.known)) (terms_of_text text)) none)) in
      then_known (size_in known draft text.size) _ (size_known text.size each.0)
      (λ size. then_known (bytes_given known draft text.fixed value) _ (bytes_known text.fixed each.1 value) (λ bytes. laid_known draft.piece text.form size bytes)))
