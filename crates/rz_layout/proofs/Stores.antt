-- Zero bits and the bits of bytes, one part after the other.
use Rattle.std.proofs.Common.{◌≡◌, ℕ, zero, suc, ◌+◌, ◌-◌, ◌*◌, ◌<◌, ◌≤◌, Bool, false, List, [], ◌∷◌, ◌++◌, length, take, Result, Ok, Err, Option, Some, None, refl, sym, ap, subst, ◌∙◌, arith}
use Rattle.std.specs.Prelude.{replicate, OnOk}
use Rattle.std.proofs.lemmas.List.{append_assoc, append-nil, length-append, length-replicate, length-take, replicate-append-replicate, take_all}
use Rattle.rz_bits.specs.Bits.{bits_of, number_bits}
use Rattle.rz_bits.specs.BitBuf.{zeros}
use Rattle.rz_bits.proofs.Numbers.{number_bits-zero}
use Rattle.rz_layout.specs.Text.{sized_length, stored_length}
use Rattle.rz_types_fields.specs.declared.field.TextForm.{TextForm}
use Rattle.rz_types_fields.specs.declared.field.TextForm.TheVariants as forms
use Rattle.rz_types_fields.specs.Stored.{before_zero, sized, stored_text, to_size}
use Rattle.rz_layout.proofs.Room.{length_number}

pub append_bits : (one other : List ℕ) → bits_of (one ++ other) ≡ bits_of one ++ bits_of other
append_bits [] other = refl
append_bits (byte ∷ one) other = ap (λ bs. number_bits 8 byte ++ bs) (append_bits one other) ∙ sym (append_assoc (number_bits 8 byte) (bits_of one) (bits_of other))

pub length_bits : (bytes : List ℕ) → length (bits_of bytes) ≡ 8 * length bytes
length_bits [] = refl
length_bits (byte ∷ bytes) =
    length-append (number_bits 8 byte) (bits_of bytes)
    ∙ (let one = length_number 8 byte in let more = length_bits bytes in omega (arith, one, more))

pub zero_bytes : (count : ℕ) → bits_of (replicate count 0) ≡ zeros (8 * count)
zero_bytes zero = refl
zero_bytes (suc count) =
    (λ i. number_bits-zero 8 i ++ zero_bytes count i) ∙ replicate-append-replicate 8 (8 * count) false ∙ ap zeros (omega (arith))

-- a size cuts or fills
pub length_sized : (size : ℕ) (bytes : List ℕ) → length (sized size bytes) ≡ size
length_sized size bytes =
    length-append (take size bytes) (replicate (size - length bytes) 0)
    ∙ (let one = length-take size bytes in let zero : ℕ = 0 in let more = length-replicate (size - length bytes) zero in omega (arith, one, more))

pub length_to_size : (size : Option ℕ) (bytes : List ℕ) → length (to_size size bytes) ≡ sized_length size (length bytes)
length_to_size None bytes = refl
length_to_size (Some size) bytes = length_sized size bytes

pub length_stored : (form : TextForm) (size : Option ℕ) (bytes : List ℕ) → length (stored_text form size bytes) ≡ stored_length form size (length bytes)
length_stored forms.Open size bytes = length_to_size size bytes
length_stored forms.Pascal size bytes = (let it = length_to_size size bytes in omega (arith, it))
length_stored forms.WordLong size bytes = (let it = length_to_size size bytes in omega (arith, it))
length_stored forms.Zero size bytes = length-append (to_size (before_zero size) bytes) (0 ∷ []) ∙ ap (λ n. n + 1) (length_to_size (before_zero size) bytes)

pub bits_stored : (form : TextForm) (size : Option ℕ) (bytes : List ℕ) → length (bits_of (stored_text form size bytes)) ≡ 8 * stored_length form size (length bytes)
bits_stored form size bytes = length_bits (stored_text form size bytes) ∙ ap (λ n. 8 * n) (length_stored form size bytes)

-- one more part, and the room that is left
pub room_after : (bits more after : List Bool) (count left : ℕ) → length more ≡ count → after ≡ bits ++ more → length bits + (count + left) < 2147483648 → length after + left < 2147483648
room_after bits more after count left size is room =
    let sum : length after ≡ length bits + count = ap length is ∙ length-append bits more ∙ ap (λ n. length bits + n) size in omega (arith, sum, room)

-- cut or filled
pub cut_bits : (size : ℕ) (bytes : List ℕ) → size ≤ length bytes → bits_of (take size bytes) ≡ bits_of (sized size bytes)
cut_bits size bytes within =
    ap bits_of (sym (append-nil (take size bytes)))
    ∙ ap (λ n. bits_of (take size bytes ++ replicate n 0)) no_more
  where
    no_more : 0 ≡ size - length bytes
    no_more = omega (arith, within)

pub filled_bits : (bits middle after : List Bool) (size : ℕ) (bytes : List ℕ) → length bytes < size → middle ≡ bits ++ bits_of bytes
    → after ≡ middle ++ zeros (8 * (size - length bytes)) → after ≡ bits ++ bits_of (sized size bytes)
filled_bits bits middle after size bytes less is so =
    so ∙ ap (λ bs. bs ++ zeros (8 * (size - length bytes))) is
    ∙ append_assoc bits (bits_of bytes) (zeros (8 * (size - length bytes)))
    ∙ ap (λ bs. bits ++ bs) (
    (λ i. bits_of (sym (take_all size bytes (omega (arith, less))) i) ++ sym (zero_bytes (size - length bytes)) i)
    ∙ sym (append_bits (take size bytes) (replicate (size - length bytes) 0)))

pub zero_end : (bits middle after : List Bool) (bytes : List ℕ) → middle ≡ bits ++ bits_of bytes → after ≡ middle ++ bits_of (0 ∷ []) → after ≡ bits ++ bits_of (bytes ++ 0 ∷ [])
zero_end bits middle after bytes is so =
    so ∙ ap (λ bs. bs ++ bits_of (0 ∷ [])) is ∙ append_assoc bits (bits_of bytes) (bits_of (0 ∷ [])) ∙ ap (λ bs. bits ++ bs) (sym (append_bits bytes (0 ∷ [])))

pub on_ok : {X E : Type 0} (r : Result X E) (P Q : Type 0) → (P → Q) → OnOk r P → OnOk r Q
on_ok (Ok x) P Q turn holds = turn holds
on_ok (Err e) P Q turn holds = tt

-- room by the form of a text
module _ (bits after : List Bool) (size : Option ℕ) (count : ℕ) (form : TextForm) (room : length bits + 8 * stored_length form size count < 2147483648) where
  pub pascal_room : (number : ℕ) → form ≡ forms.Pascal → after ≡ bits ++ number_bits 8 number → length after + 8 * sized_length size count < 2147483648
  pascal_room number is so =
      let most : length bits + 8 * (sized_length size count + 1) < 2147483648 = subst (λ (f : TextForm). length bits + 8 * stored_length f size count < 2147483648) is room in
      room_after bits (number_bits 8 number) after 8 (8 * sized_length size count) (length_number 8 number) so (omega (arith, most))

  pub word_room : (number : ℕ) → form ≡ forms.WordLong → after ≡ bits ++ number_bits 8 number → length after + (8 + 8 * sized_length size count) < 2147483648
  word_room number is so =
      let most : length bits + 8 * (sized_length size count + 2) < 2147483648 = subst (λ (f : TextForm). length bits + 8 * stored_length f size count < 2147483648) is room in
      room_after bits (number_bits 8 number) after 8 (8 + 8 * sized_length size count) (length_number 8 number) so (omega (arith, most))

  pub zero_room : (bytes : List ℕ) → length bytes ≡ sized_length (before_zero size) count → form ≡ forms.Zero → after ≡ bits ++ bits_of bytes → length after + 8 < 2147483648
  zero_room bytes long is so =
      let most : length bits + 8 * (sized_length (before_zero size) count + 1) < 2147483648 = subst (λ (f : TextForm). length bits + 8 * stored_length f size count < 2147483648) is room in
      room_after bits (bits_of bytes) after (8 * length bytes) 8 (length_bits bytes) so (omega (arith, most, long))
