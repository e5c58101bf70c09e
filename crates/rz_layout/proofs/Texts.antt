-- A text that is spelled is laid, and the other way round.
use Rattle.std.proofs.Common.{◌≡◌, ℕ, ℤ, pos, negsuc, Bool, true, false, List, [], ◌∷◌, ◌++◌, length, Option, Some, None, Result, Ok, Err, refl, sym, ap, subst, ◌∙◌}
use Rattle.std.specs.Prelude.{map, not, nat_abs, option_map}
use Rattle.std.specs.List.{list_any, AllByRecursion}
use Rattle.std.specs.Option.{option_to_list}
use Rattle.rz_core.proofs.Tests.{or_false}
use Rattle.rz_core.specs.Lists.{first_of, or_else, unless_fault}
use Rattle.rz_core.specs.Stop.{◌>>=◌}
use Rattle.rz_core.specs.declared.facts.Facts.{Facts}
use Rattle.rz_expr.specs.Environment.{Sight}
use Rattle.rz_expr.specs.Term.{Term}
use Rattle.rz_expr.specs.Value.{value_of}
use Rattle.rz_expr.specs.declared.value.EvalFault.{EvalFault}
use Rattle.rz_bits.specs.Bits.{bits_of}
use Rattle.rz_types.proofs.Texts.{bytes_kept, bytes_valued, each_append, Keeps}
use Rattle.rz_types_fields.specs.Field.{PlainText}
use Rattle.rz_types_fields.specs.declared.field.TextForm.{TextForm}
use Rattle.rz_types_fields.specs.declared.field.TextForm.TheVariants as forms
use Rattle.rz_types_fields.specs.declared.tree.Tree.{Tree}
use Rattle.rz_types_fields.specs.declared.tree.Tree.TheVariants as trees
use Rattle.rz_types_fields.specs.Laid.{bad_length, bad_size, behind_refusal, bytes_given, bytes_laid, draft_sight, early, early_value, joined, met_in, refusal, refusal_in, size_in, text_in, text_laid, text_refusal, unless, unvalued, Draft, Refusal}
use Rattle.rz_types_fields.specs.Piece.{fixed_terms, terms_of_text}
use Rattle.rz_types_fields.specs.Range.{may_be_size}
use Rattle.rz_types_fields.specs.Sees.{names_later}
use Rattle.rz_types_fields.specs.Spells.{nowhere, AreBytes, IsSize, IsText}
use Rattle.rz_types_fields.specs.Stored.{is_too_long, stored_text}
use Rattle.rz_types_fields.specs.Text.{bytes_seen, text_terms, PlainPart}
use Rattle.rz_layout.proofs.Trees.{text_is}
use Rattle.rz_layout.proofs.Filled.{chained, held, same_ok, unrefused}

abbrev pub good : {X : Type 0} → X → Result X Refusal
good x = Ok x

-- no bytes are read of a text that a row gives, but of its fixed parts
abbrev pub TextValue : Option (List PlainPart) → Option Tree → Type 0
TextValue None value = (bytes : List ℕ) × (value ≡ Some (trees.Text bytes))
TextValue (Some parts) value = value ≡ None

module _ (known : Facts) (draft : Draft) (sight : Sight) where
  -- What is spelled is laid.

  -- an expression that has a value in the end has it in the draft
  abbrev pub IsEarly : Term → Type 0
  IsEarly term = Keeps sight (draft_sight known draft) term

  -- the size of a text, as it is laid
  record HasSize (form : TextForm) (term : Option Term) (size : Option ℕ) : Type 0 where
    found : Option ℤ
    is : size_in known draft term ≡ Ok found
    same : option_map nat_abs found ≡ size
    allowed : bad_size draft.piece form found ≡ None

  size_spelled : (form : TextForm) (term : Option Term) (size : Option ℕ) → AllByRecursion IsEarly (option_to_list term) → IsSize form sight term size → HasSize form term size
  size_spelled form None size keeps it = record { found = None; is = refl; same = sym it; allowed = refl }
  size_spelled form (Some term) size keeps it = record {
    found = Some (pos it.0);
    is = ap (λ (r : Result ℤ EvalFault). early_value draft r >>= λ size. good (Some size)) (keeps.0 (pos it.0) it.1);
    same = sym it.3;
    allowed = ap (λ (b : Bool). unless b (refusal 207 draft.piece (pos it.0))) it.2;
  }

  terms_spelled : (terms : List Term) → AllByRecursion (λ term. (v : ℤ) × (value_of term (draft_sight known draft) ≡ Ok v)) terms
      → first_of (map (unvalued known draft) terms) ≡ None
  terms_spelled [] each = refl
  terms_spelled (term ∷ terms) each =
      ap (λ (r : Result ℤ EvalFault). or_else (refusal_in (early_value draft r)) (first_of (map (unvalued known draft) terms))) each.0.1
      ∙ terms_spelled terms each.1

  bytes_spelled : (form : TextForm) (fixed : Option (List PlainPart)) (size : Option ℕ) (value : Option Tree) (bytes : List ℕ) → AllByRecursion IsEarly (fixed_terms fixed)
      → AreBytes known sight fixed value bytes → bytes_given known draft fixed value ≡ Ok bytes
  bytes_spelled form None size value bytes keeps it = ap (λ (o : Option Tree). good (text_in o)) it ∙ ap good (text_is bytes)
  bytes_spelled form (Some parts) size value bytes keeps it =
      let seen : bytes_seen nowhere known (draft_sight known draft) parts ≡ Ok bytes = bytes_kept nowhere known sight (draft_sight known draft) parts keeps bytes it.1 in
      ap (λ (o : Option Refusal). behind_refusal o (joined draft.piece (bytes_seen nowhere known (draft_sight known draft) parts)))
      (terms_spelled (text_terms parts) (bytes_valued nowhere known (draft_sight known draft) parts bytes seen))
      ∙ ap (joined draft.piece) seen

  pub text_spelled : (text : PlainText) (value : Option Tree) (bits : List Bool) → list_any (names_later (met_in draft.known)) (terms_of_text text) ≡ false
      → AllByRecursion IsEarly (terms_of_text text) → IsText text known sight value bits → text_laid known draft text value ≡ Ok bits
  text_spelled text value bits none keeps it =
      let each = each_append IsEarly (option_to_list text.size) (fixed_terms text.fixed) keeps in
      let s = size_spelled text.form text.size it.size each.0 it.has_size in
      let b = bytes_spelled text.form text.fixed it.size value it.bytes each.1 it.are_bytes in
      let too : is_too_long text.form (option_map nat_abs s.found) (length it.bytes) ≡ false =
      ap (λ (o : Option ℕ). is_too_long text.form o (length it.bytes)) s.same ∙ it.short in
      ap (λ (test : Bool). behind_refusal (unless (not test) (refusal 214 draft.piece (pos draft.piece)))
      (size_in known draft text.size >>= λ size. bytes_given known draft text.fixed value >>= λ bytes. bytes_laid draft.piece text.form size bytes)) none
      ∙ (λ i. s.is i >>= λ size. b i >>= λ bytes. bytes_laid draft.piece text.form size bytes)
      ∙ (λ i. unless_fault (or_else (s.allowed i) (or_else (unless (not (too i)) (refusal 216 draft.piece (pos (length it.bytes)))) None))
      (bits_of (stored_text text.form (s.same i) it.bytes)))
      ∙ ap good (sym it.are_bits)

  -- What is laid is spelled.

  -- it has a value in the draft
  abbrev pub IsFound : Term → Type 0
  IsFound term = (v : ℤ) × (value_of term (draft_sight known draft) ≡ Ok v)

  early_is : (found : Result ℤ EvalFault) (v : ℤ) → early_value draft found ≡ Ok v → found ≡ Ok v
  early_is (Ok value) v is = ap (λ (z : ℤ). Ok z) (same_ok value v is)
  early_is (Err fault) v is = absurd cc

  first_none : (one later : Option Refusal) → or_else one later ≡ None → (one ≡ None) × (later ≡ None)
  first_none None later is = (refl, is)
  first_none (Some fault) later is = absurd cc

  not_true : (b : Bool) → not b ≡ true → b ≡ false
  not_true true is = absurd cc
  not_true false is = refl

  may_be_natural : (form : TextForm) (z : ℤ) → may_be_size form z ≡ true → pos (nat_abs z) ≡ z
  may_be_natural form (pos n) is = refl
  may_be_natural form (negsuc n) is = absurd (negative form is)
    where
      negative : (form : TextForm) → may_be_size form (negsuc n) ≡ true → ⊥
      negative forms.Open is = cc
      negative forms.Pascal is = cc
      negative forms.WordLong is = cc
      negative forms.Zero is = cc

  record SizeSound (form : TextForm) (term : Option Term) (size : Option ℕ) : Type 0 where
    is : IsSize form sight term size
    found : AllByRecursion IsFound (option_to_list term)

  size_sound : (form : TextForm) (term : Option Term) (found : Option ℤ) → AllByRecursion (Keeps (draft_sight known draft) sight) (option_to_list term) → size_in known draft term ≡ Ok found
      → bad_size draft.piece form found ≡ None → SizeSound form term (option_map nat_abs found)
  size_sound form None found keeps is allowed = record { is = ap (option_map nat_abs) (sym (same_ok None found is)); found = tt }
  size_sound form (Some term) found keeps is allowed =
      let inner = chained (early known draft term) (λ size. Ok (Some size)) found is in
      let same : Some inner.value ≡ found = same_ok _ found inner.leads in
      let fits : may_be_size form inner.value ≡ true =
      held (may_be_size form inner.value) (refusal 207 draft.piece inner.value) (subst (λ (o : Option ℤ). bad_size draft.piece form o ≡ None) (sym same) allowed) in
      let natural = may_be_natural form inner.value fits in
      let value = early_is (value_of term (draft_sight known draft)) inner.value inner.is in
      record {
        is = (
          nat_abs inner.value,
          keeps.0 inner.value value ∙ ap (λ (z : ℤ). Ok z) (sym natural),
          subst (λ (z : ℤ). may_be_size form z ≡ true) (sym natural) fits,
          ap (option_map nat_abs) (sym same),
        );
        found = ((inner.value, value), tt);
      }

  joined_is : (piece : ℕ) (found : Result (List ℕ) _) (bytes : List ℕ) → joined piece found ≡ Ok bytes → found ≡ Ok bytes
  joined_is piece (Ok value) bytes is = ap (λ (bs : List ℕ). Ok bs) (same_ok value bytes is)
  joined_is piece (Err fault) bytes is = absurd cc

  unrefused_bytes : (found : Option Refusal) (given : Result (List ℕ) Refusal) (bytes : List ℕ) → behind_refusal found given ≡ Ok bytes → given ≡ Ok bytes
  unrefused_bytes None given bytes is = is
  unrefused_bytes (Some fault) given bytes is = absurd cc

  bytes_sound : (form : TextForm) (fixed : Option (List PlainPart)) (size : Option ℕ) (value : Option Tree) → TextValue fixed value → (bytes : List ℕ)
      → AllByRecursion (Keeps (draft_sight known draft) sight) (fixed_terms fixed)
      → bytes_given known draft fixed value ≡ Ok bytes → AreBytes known sight fixed value bytes × AllByRecursion IsFound (fixed_terms fixed)
  bytes_sound form None size value has bytes keeps is =
      (has.1 ∙ ap (λ (bs : List ℕ). Some (trees.Text bs)) (sym (ap text_in has.1 ∙ text_is has.0) ∙ same_ok (text_in value) bytes is), tt)
  bytes_sound form (Some parts) size value has bytes keeps is =
      let seen = joined_is draft.piece (bytes_seen nowhere known (draft_sight known draft) parts) bytes
      (unrefused_bytes (first_of (map (unvalued known draft) (text_terms parts))) (joined draft.piece (bytes_seen nowhere known (draft_sight known draft) parts)) bytes is) in
      ((has, bytes_kept nowhere known (draft_sight known draft) sight parts keeps bytes seen), bytes_valued nowhere known (draft_sight known draft) parts bytes seen)

  each_found : (xs ys : List Term) → AllByRecursion IsFound xs → AllByRecursion IsFound ys → AllByRecursion IsFound (xs ++ ys)
  each_found [] ys here more = more
  each_found (x ∷ xs) ys here more = (here.0, each_found xs ys here.1 more)

  -- none names a label that stands later, all have values in the draft, and the text is spelled
  pub record TextSound (text : PlainText) (value : Option Tree) (bits : List Bool) : Type 0 where
    pub early : list_any (names_later (met_in draft.known)) (terms_of_text text) ≡ false
    pub found : AllByRecursion IsFound (terms_of_text text)
    pub is : IsText text known sight value bits

  all_keep : ((term : Term) → names_later (met_in draft.known) term ≡ false → Keeps (draft_sight known draft) sight term) → (terms : List Term)
      → list_any (names_later (met_in draft.known)) terms ≡ false → AllByRecursion (Keeps (draft_sight known draft) sight) terms
  all_keep keep [] none = tt
  all_keep keep (term ∷ terms) none =
      let each = or_false (names_later (met_in draft.known) term) (list_any (names_later (met_in draft.known)) terms) none in (keep term each.0, all_keep keep terms each.1)

  text_rest : (text : PlainText) (value : Option Tree) → TextValue text.fixed value → (bits : List Bool) → list_any (names_later (met_in draft.known)) (terms_of_text text) ≡ false
      → AllByRecursion (Keeps (draft_sight known draft) sight) (terms_of_text text)
      → (size_in known draft text.size >>= λ size. bytes_given known draft text.fixed value >>= λ bytes. bytes_laid draft.piece text.form size bytes) ≡ Ok bits
      → TextSound text value bits
  text_rest text value has bits none keeps is =
      let each = each_append (Keeps (draft_sight known draft) sight) (option_to_list text.size) (fixed_terms text.fixed) keeps in
      let one = chained (size_in known draft text.size) (λ size. bytes_given known draft text.fixed value >>= λ bytes. bytes_laid draft.piece text.form size bytes) bits is in
      let two = chained (bytes_given known draft text.fixed value) (λ bytes. bytes_laid draft.piece text.form one.value bytes) bits one.leads in
      let free = unrefused (text_refusal draft.piece text.form one.value (length two.value)) (bits_of (stored_text text.form (option_map nat_abs one.value) two.value)) bits two.leads in
      let parts = first_none (bad_size draft.piece text.form one.value) (or_else (bad_length draft.piece text.form one.value (length two.value)) None) free.0 in
      let short = first_none (bad_length draft.piece text.form one.value (length two.value)) None parts.1 in
      let size = size_sound text.form text.size one.value each.0 one.is parts.0 in
      let bytes = bytes_sound text.form text.fixed (option_map nat_abs one.value) value has two.value each.1 two.is in
      record {
        early = none;
        found = each_found (option_to_list text.size) (fixed_terms text.fixed) size.found bytes.1;
        is = record {
          size = option_map nat_abs one.value;
          has_size = size.is;
          bytes = two.value;
          are_bytes = bytes.0;
          short = not_true _ (held _ (refusal 216 draft.piece (pos (length two.value))) short.0);
          are_bits = sym free.1;
        };
      }

  pub text_sound : (text : PlainText) (value : Option Tree) → TextValue text.fixed value → (bits : List Bool)
      → ((term : Term) → names_later (met_in draft.known) term ≡ false → Keeps (draft_sight known draft) sight term)
      → text_laid known draft text value ≡ Ok bits → TextSound text value bits
  text_sound text value has bits keep is = by (list_any (names_later (met_in draft.known)) (terms_of_text text)) refl is
    where
      by : (test : Bool) → list_any (names_later (met_in draft.known)) (terms_of_text text) ≡ test
          → behind_refusal (unless (not test) (refusal 214 draft.piece (pos draft.piece)))
          (size_in known draft text.size >>= λ size. bytes_given known draft text.fixed value >>= λ bytes. bytes_laid draft.piece text.form size bytes) ≡ Ok bits
          → TextSound text value bits
      by true later so = absurd cc
      by false none so = text_rest text value has bits none (all_keep keep (terms_of_text text) none) so
