-- The bytes of a plain text are told by its stored form.
use Rattle.std.proofs.Common.{◌≡◌, ◌≢◌, ℕ, zero, suc, ◌+◌, ◌-◌, ◌*◌, ◌/◌, ◌%◌, ◌≤◌, ◌==◌, Bool, false, List, [], ◌∷◌, ◌++◌, length, take, Option, Some, None, refl, sym, ap, ◌∙◌, arith}
use Rattle.std.specs.Prelude.{if◌then◌else◌, option_map, replicate}
use Rattle.std.specs.List.{AllByRecursion}
use Rattle.std.proofs.lemmas.Bool.Decides.{nat_tests}
use Rattle.std.proofs.Math.Seq.{take-append_seam}
use Rattle.rz_unlay_texts.specs.Plain.{before_zeros, or_none, plain_text, trimmed, up_to_zero}
use Rattle.rz_types_fields.specs.declared.field.TextForm.{TextForm}
use Rattle.rz_types_fields.specs.declared.field.TextForm.TheVariants as texts
use Rattle.rz_types_fields.specs.Spells.{IsPlainShort, IsPlainText}
use Rattle.rz_types_fields.specs.Stored.{before_zero, in_size, stored_text, to_size}

-- Sizes.

take_short : (size : ℕ) (bytes : List ℕ) → length bytes ≤ size → take size bytes ≡ bytes
take_short zero [] short = refl
take_short zero (byte ∷ bytes) short = absurd (omega (arith, short))
take_short (suc size) [] short = refl
take_short (suc size) (byte ∷ bytes) short = ap (λ (bs : List ℕ). byte ∷ bs) (take_short size bytes (omega (arith, short)))

in_size_is : (size : Option ℕ) (bytes : List ℕ) → IsPlainShort size bytes → in_size size bytes ≡ bytes
in_size_is None bytes short = refl
in_size_is (Some size) bytes short = take_short size bytes short

-- the bytes stand at the front, and zero bytes after them
record Behind (size : Option ℕ) (bytes : List ℕ) : Type 0 where
  count : ℕ
  is : to_size size bytes ≡ bytes ++ replicate count 0

no_more : (bytes : List ℕ) → bytes ++ [] ≡ bytes
no_more [] = refl
no_more (byte ∷ bytes) = ap (λ (bs : List ℕ). byte ∷ bs) (no_more bytes)

behind_is : (size : Option ℕ) (bytes : List ℕ) → IsPlainShort size bytes → Behind size bytes
behind_is None bytes short = record { count = 0; is = sym (no_more bytes) }
behind_is (Some size) bytes short = record { count = size - length bytes; is = ap (λ (bs : List ℕ). bs ++ replicate (size - length bytes) 0) (take_short size bytes short) }

front_is : (size : Option ℕ) (bytes : List ℕ) → IsPlainShort size bytes → take (length bytes) (to_size size bytes) ≡ bytes
front_is size bytes short = let it = behind_is size bytes short in ap (take (length bytes)) it.is ∙ take-append_seam bytes (replicate it.count 0)

-- Zero bytes.

up_to_zero_is : (bytes others : List ℕ) → AllByRecursion (λ byte. byte ≢ 0) bytes → up_to_zero (bytes ++ 0 ∷ others) ≡ Some bytes
up_to_zero_is [] others none = refl
up_to_zero_is (byte ∷ bytes) others none =
    let test : (byte == 0) ≡ false = not_same byte none.0 in
    ap (λ (b : Bool). if b then Some [] else option_map (λ front. byte ∷ front) (up_to_zero (bytes ++ 0 ∷ others))) test
    ∙ ap (option_map (λ front. byte ∷ front)) (up_to_zero_is bytes others none.1)
  where
    not_same : (byte : ℕ) → byte ≢ 0 → (byte == 0) ≡ false
    not_same zero differ = absurd (differ refl)
    not_same (suc byte) differ = grind (arith, nat_tests)

trimmed_zeros : (count : ℕ) → trimmed (replicate count 0) ≡ []
trimmed_zeros zero = refl
trimmed_zeros (suc count) = ap (before_zeros 0) (trimmed_zeros count)

-- bytes that don't end in a zero byte
trimmed_is : (bytes : List ℕ) (count : ℕ) → ((front : List ℕ) → bytes ≢ front ++ 0 ∷ []) → trimmed (bytes ++ replicate count 0) ≡ bytes
trimmed_is [] count ends = trimmed_zeros count
trimmed_is (byte ∷ []) count ends = ap (before_zeros byte) (trimmed_zeros count) ∙ last byte (λ is. ends [] (ap (λ (b : ℕ). b ∷ []) is))
  where
    last : (byte : ℕ) → byte ≢ 0 → (if byte == 0 then [] else byte ∷ []) ≡ byte ∷ []
    last zero differ = absurd (differ refl)
    last (suc byte) differ = let test : (suc byte == 0) ≡ false = grind (arith, nat_tests) in ap (λ (b : Bool). if b then [] else suc byte ∷ []) test
trimmed_is (byte ∷ next ∷ bytes) count ends =
    ap (before_zeros byte) (trimmed_is (next ∷ bytes) count (λ front is. ends (byte ∷ front) (ap (λ (bs : List ℕ). byte ∷ bs) is)))

two_is : (count : ℕ) → count / 256 * 256 + count % 256 ≡ count
two_is count = omega (arith)

to_zero_is : (size : Option ℕ) (bytes : List ℕ) → IsPlainShort size bytes → AllByRecursion (λ byte. byte ≢ 0) bytes → up_to_zero (to_size size bytes ++ 0 ∷ []) ≡ Some bytes
to_zero_is size bytes short none =
    let it = behind_is size bytes short in
    ap (λ (bs : List ℕ). up_to_zero (bs ++ 0 ∷ [])) it.is ∙ by it.count
  where
    joined : (bytes others more : List ℕ) → (bytes ++ others) ++ more ≡ bytes ++ (others ++ more)
    joined [] others more = refl
    joined (byte ∷ bytes) others more = ap (λ (bs : List ℕ). byte ∷ bs) (joined bytes others more)

    by : (count : ℕ) → up_to_zero ((bytes ++ replicate count 0) ++ 0 ∷ []) ≡ Some bytes
    by zero = ap up_to_zero (joined bytes [] (0 ∷ [])) ∙ up_to_zero_is bytes [] none
    by (suc count) = ap up_to_zero (joined bytes (0 ∷ replicate count 0) (0 ∷ [])) ∙ up_to_zero_is bytes (replicate count 0 ++ 0 ∷ []) none

pub plain_text_is : (form : TextForm) (size : Option ℕ) (bytes : List ℕ) → IsPlainText form size bytes → plain_text form size (stored_text form size bytes) ≡ bytes
plain_text_is texts.Open None bytes it = refl
plain_text_is texts.Open (Some size) bytes it = let behind = behind_is (Some size) bytes it.2 in ap trimmed behind.is ∙ trimmed_is bytes behind.count it.3
plain_text_is texts.Pascal size bytes it =
    ap (λ (n : ℕ). take n (to_size size bytes)) (ap length (in_size_is size bytes it.2)) ∙ front_is size bytes it.2
plain_text_is texts.WordLong size bytes it =
    ap (λ (n : ℕ). take n (to_size size bytes)) (two_is (length (in_size size bytes)) ∙ ap length (in_size_is size bytes it.2)) ∙ front_is size bytes it.2
plain_text_is texts.Zero size bytes it = ap or_none (to_zero_is (before_zero size) bytes it.2 it.1)
