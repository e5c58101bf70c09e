-- What was read so far, before what is read from here on.
use Rattle.std.proofs.Common.{◌≡◌, ℕ, zero, suc, false, List, [], ◌∷◌, ◌++◌, drop, length, Option, Some, None, refl, ap, subst, append_assoc, arith}
use Rattle.std.proofs.lemmas.List.{take_all}
use Rattle.std.specs.Option.{is_some}
use Rattle.std.specs.List.{AllByRecursion}
use Rattle.memchr.specs.Find.{is_byte, IsFirstByte}
use Rattle.rz_lex.specs.Escape.{before, text_value, escape_at}
use Rattle.rz_lex.proofs.Places.{front_fails}

-- a byte goes from what is to come to what was read
pub before_one_more : (front : List ℕ) (byte : ℕ) (more : Option (List ℕ)) → before (front ++ byte ∷ []) more ≡ before front (before (byte ∷ []) more)
before_one_more front byte None = refl
before_one_more front byte (Some bs) = ap (λ (ys : List ℕ). Some ys) (append_assoc front (byte ∷ []) bs)

-- bytes that are passed are as if they did not stand there
pub passed_over : (size : ℕ) (bs : List ℕ) → text_value size bs ≡ text_value 0 (drop size bs)
passed_over zero bs = refl
passed_over (suc size) [] = refl
passed_over (suc size) (b ∷ bs) = passed_over size bs

-- an escape, and what is read after it
pub escape_read : (bs left : List ℕ) (byte size : ℕ) → escape_at bs ≡ Some (byte, size) → left ≡ drop size bs → text_value 0 (92 ∷ bs) ≡ before (byte ∷ []) (text_value 0 left)
escape_read bs left byte size is rest = rw (is, rest) (ap (before (byte ∷ [])) (passed_over size bs))

-- bytes without a backslash stand for themselves
pub plain_value : (bytes : List ℕ) → AllByRecursion (λ b. is_byte 92 b ≡ false) bytes → text_value 0 bytes ≡ Some bytes
plain_value [] all = refl
plain_value (b ∷ bytes) all = rw all.0 (ap (before (b ∷ [])) (plain_value bytes all.1))

pub no_backslash : (place : Option ℕ) (bytes : List ℕ) → IsFirstByte (is_byte 92) bytes place → is_some place ≡ false → text_value 0 bytes ≡ Some bytes
no_backslash None bytes nowhere none =
    plain_value bytes (subst (λ (all : List ℕ). AllByRecursion (λ b. is_byte 92 b ≡ false) all) (take_all (length bytes) bytes (omega arith))
    (front_fails (is_byte 92) (length bytes) bytes (omega arith) (λ k below. nowhere k (omega arith) below)))
no_backslash (Some k) bytes first none = absurd cc
