-- A text that is laid as a piece.
use Rattle.std.proofs.Common.{◌≡◌, ℕ, ℤ, ◌*◌, ◌++◌, Bool, List, length, Option, None, sym, ap, ◌∙◌}
use Rattle.std.specs.Prelude.{nat_abs, option_map}
use Rattle.rz_core.specs.Lists.{unless_fault}
use Rattle.rz_core.specs.Stop.{◌>>=◌}
use Rattle.rz_bits.specs.Bits.{bits_of}
use Rattle.rz_layout.specs.Laid.{text_put, with_bits}
use Rattle.rz_layout.specs.Text.{stored_length}
use Rattle.rz_types_fields.specs.declared.field.TextForm.{TextForm}
use Rattle.rz_types_fields.specs.Laid.{text_refusal, Draft, Refusal}
use Rattle.rz_types_fields.specs.Stored.{stored_text}
use Rattle.rz_layout.proofs.Stores.{bits_stored}

module _ (draft : Draft) (form : TextForm) (size : Option ℤ) (bytes : List ℕ) where
  abbrev pub text_bits : List Bool
  text_bits = bits_of (stored_text form (option_map nat_abs size) bytes)

  pub put_is : None ≡ text_refusal draft.piece form size (length bytes) → text_put draft form size bytes ≡ with_bits draft text_bits
  put_is none = ap (λ (o : Option Refusal). unless_fault o text_bits >>= with_bits draft) (sym none)

  pub text_count : (plain : Option ℕ) (count : ℕ) → plain ≡ option_map nat_abs size → count ≡ stored_length form plain (length bytes) → length text_bits ≡ 8 * count
  text_count plain count is so = bits_stored form (option_map nat_abs size) bytes
      ∙ ap (λ n. 8 * n) (ap (λ (s : Option ℕ). stored_length form s (length bytes)) (sym is) ∙ sym so)

  pub pushed : (plain : Option ℕ) (after : List Bool) → plain ≡ option_map nat_abs size → after ≡ draft.bits ++ bits_of (stored_text form plain bytes) → after ≡ draft.bits ++ text_bits
  pushed plain after is so = so ∙ ap (λ (s : Option ℕ). draft.bits ++ bits_of (stored_text form s bytes)) is
