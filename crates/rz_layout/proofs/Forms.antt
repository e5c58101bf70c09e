-- The forms of pieces, and what is laid for each.
use Rattle.std.proofs.Common.{◌≡◌, ℕ, ℤ, Bool, List, Result, Ok, Err, Option, Some, None, refl, ap, ◌∙◌}
use Rattle.rz_core.specs.Stop.{◌>>=◌, Gives, fault_seen, left}
use Rattle.rz_core.specs.declared.stop.Stop.{Stop}
use Rattle.rz_core.specs.declared.stop.Stop.TheVariants.{NoMemory, Refused}
use Rattle.rz_bits.specs.BitBuf.{filled}
use Rattle.rz_bits.specs.Bits.{bytes_of}
use Rattle.rz_layout.specs.Fault.{refusal_of}
use Rattle.rz_layout.specs.declared.fault.LayFault.{LayFault}
use Rattle.rz_types_fields.specs.Passed.{outside}
use Rattle.rz_core.specs.declared.facts.Facts.{Facts}
use Rattle.rz_expr.specs.Term.{Term}
use Rattle.rz_layout.specs.Laid.{form_put, placed_put, sized_put, text_put, value_put, with_bits}
use Rattle.rz_types_fields.specs.declared.tree.Tree.{Tree}
use Rattle.rz_types_fields.specs.Field.{PlainBody, PlainNumber, PlainText, Text}
use Rattle.rz_types_fields.specs.Text.{PlainPart}
use Rattle.rz_types_fields.specs.declared.field.TextForm.{TextForm}
use Rattle.rz_types_fields.specs.Laid.{behind_refusal, bytes_given, bytes_laid, field_laid, fill, laid, later, later_size, lay, nothing_laid, now, number_form, row_laid, size_in, with_form, Draft, Form, Refusal}
use Rattle.rz_types_fields.specs.Piece.{terms_of_text, OneNumber, OneText}

put_is : (draft : Draft) (number : PlainNumber) (form : Form) → with_form draft (OneNumber number) form ≡ form_put draft form
put_is draft number (now bits) = refl
put_is draft number (later form width term) = refl

-- a number with an expression
pub value_is : (facts : Facts) (draft : Draft) (number : PlainNumber) (term : Term) (value : Option Tree) → number.fixed ≡ Some term
    → lay facts draft (OneNumber number) value ≡ value_put facts draft number.form number.width term
value_is facts draft number term value is =
    ap (λ (fixed : Option Term). number_form facts draft number.form number.width fixed value >>= with_form draft (OneNumber number)) is
    ∙ by (number_form facts draft number.form number.width (Some term) value)
  where
    by : (r : Result Form Refusal) → (r >>= with_form draft (OneNumber number)) ≡ (r >>= form_put draft)
    by (Ok form) = put_is draft number form
    by (Err fault) = refl

-- a text, whose expressions name no label that stands later
module _ (facts : Facts) (draft : Draft) (text : PlainText) (value : Option Tree) where
  steps_are : (sizes : Result (Option ℤ) Refusal) → (((sizes >>= λ size. bytes_given facts draft text.fixed value >>= λ bytes. bytes_laid draft.piece text.form size bytes) >>= λ bits. Ok (now bits))
      >>= with_form draft (OneText text)) ≡ (sizes >>= λ size. sized_put facts draft text size value)
  steps_are (Err fault) = refl
  steps_are (Ok size) = given (bytes_given facts draft text.fixed value)
    where
      stored : (bits : Result (List Bool) Refusal) → ((bits >>= λ own. Ok (now own)) >>= with_form draft (OneText text)) ≡ (bits >>= with_bits draft)
      stored (Err fault) = refl
      stored (Ok bits) = refl

      given : (bytes : Result (List ℕ) Refusal) → (((bytes >>= λ own. bytes_laid draft.piece text.form size own) >>= λ bits. Ok (now bits)) >>= with_form draft (OneText text))
          ≡ (bytes >>= λ own. text_put draft text.form size own)
      given (Err fault) = refl
      given (Ok bytes) = stored (bytes_laid draft.piece text.form size bytes)

  abbrev sized : Result (List Bool) Refusal
  sized = size_in facts draft text.size >>= λ size. bytes_given facts draft text.fixed value >>= λ bytes. bytes_laid draft.piece text.form size bytes

  abbrev behind : Option Refusal → Result Draft Refusal
  behind first = (behind_refusal first sized >>= λ bits. Ok (now bits)) >>= with_form draft (OneText text)

  pub text_is : later_size draft (terms_of_text text) ≡ None → lay facts draft (OneText text) value ≡ placed_put facts draft text value
  text_is none = ap behind none ∙ steps_are (size_in facts draft text.size)

  pub text_later : (fault : Refusal) → later_size draft (terms_of_text text) ≡ Some fault → lay facts draft (OneText text) value ≡ Err fault
  text_later fault some = ap behind some

again : (r : Result Draft Refusal) → (r >>= λ next. Ok next) ≡ r
again (Ok draft) = refl
again (Err fault) = refl

pub text_field : (facts : Facts) (draft : Draft) (text : PlainText) (value : Option Tree) → field_laid facts draft (Text text) value ≡ lay facts draft (OneText text) value
text_field facts draft text value = by text.form text.hex text.size text.fixed value
  where
    by : (form : TextForm) (hex : Bool) (size : Option Term) (fixed : Option (List PlainPart)) (value : Option Tree)
        → field_laid facts draft (Text (record { form = form; hex = hex; size = size; fixed = fixed })) value ≡ lay facts draft (OneText (record { form = form; hex = hex; size = size; fixed = fixed })) value
    by form hex size None None = again (lay facts draft (OneText (record { form = form; hex = hex; size = size; fixed = None })) None)
    by form hex size None (Some own) = again (lay facts draft (OneText (record { form = form; hex = hex; size = size; fixed = None })) (Some own))
    by form hex size (Some parts) None = again (lay facts draft (OneText (record { form = form; hex = hex; size = size; fixed = Some parts })) None)
    by form hex size (Some parts) (Some own) = again (lay facts draft (OneText (record { form = form; hex = hex; size = size; fixed = Some parts })) (Some own))

-- a row that is laid, with its late numbers in their places
module _ (facts : Facts) (body : PlainBody) (row : List Tree) (draft : Draft) (is : row_laid facts None body nothing_laid row ≡ Ok draft) where
  abbrev bytes_made : List Bool → Result (List ℕ) Refusal
  bytes_made bits = Ok (bytes_of (filled 8 bits))

  abbrev with_late_numbers : Draft → Result (List ℕ) Refusal
  with_late_numbers next = fill facts outside next.numbers next.bits >>= bytes_made

  pub laid_is : (bits : List Bool) → fill facts outside draft.numbers draft.bits ≡ Ok bits → laid facts body row ≡ Ok (bytes_of (filled 8 bits))
  laid_is bits so = ap (λ (r : Result Draft Refusal). r >>= with_late_numbers) is ∙ ap (λ (r : Result (List Bool) Refusal). r >>= bytes_made) so

  pub laid_refused : (stop : Stop LayFault) (after : List Bool) → Gives (fill facts outside draft.numbers draft.bits) (fault_seen refusal_of (left after (Err stop)))
      → Gives (laid facts body row) (fault_seen {X = List ℕ} refusal_of (Err stop))
  laid_refused NoMemory after so = tt
  laid_refused (Refused fault) after so = ap (λ (r : Result Draft Refusal). r >>= with_late_numbers) is ∙ ap (λ (r : Result (List Bool) Refusal). r >>= bytes_made) so
