-- The bytes of a text, taken from its stored form. (MPW Rez.)
use Rattle.std.specs.Prelude.{ℕ, ◌+◌, ◌*◌, ◌==◌, Bool, true, false, ◌&&◌, if◌then◌else◌, List, [], ◌∷◌, take, drop, Option, Some, None, option_map}
use Rattle.rz_types_fields.specs.declared.field.TextForm.{TextForm}
use Rattle.rz_types_fields.specs.declared.field.TextForm.TheVariants as texts

-- bytes up to the first zero byte, where there is one
abbrev pub up_to_zero : List ℕ → Option (List ℕ)
up_to_zero [] = None
up_to_zero (byte ∷ bytes) = if byte == 0 then Some [] else option_map (λ front. byte ∷ front) (up_to_zero bytes)

-- without the zero bytes at the end
abbrev pub before_zeros : ℕ → List ℕ → List ℕ
before_zeros byte [] = if byte == 0 then [] else byte ∷ []
before_zeros byte (next ∷ bytes) = byte ∷ next ∷ bytes

abbrev pub trimmed : List ℕ → List ℕ
trimmed [] = []
trimmed (byte ∷ bytes) = before_zeros byte (trimmed bytes)

abbrev pub two_byte_size : List ℕ → ℕ
two_byte_size (high ∷ low ∷ bytes) = high * 256 + low
two_byte_size bytes = 0

abbrev pub one_byte_size : List ℕ → ℕ
one_byte_size (byte ∷ bytes) = byte
one_byte_size bytes = 0

abbrev pub or_none : Option (List ℕ) → List ℕ
or_none None = []
or_none (Some bytes) = bytes

-- the only bytes that can be stored so plainly
abbrev pub plain_text : TextForm → Option ℕ → List ℕ → List ℕ
plain_text texts.Open None raw = raw
plain_text texts.Open (Some size) raw = trimmed raw
plain_text texts.Pascal size raw = take (one_byte_size raw) (drop 1 raw)
plain_text texts.WordLong size raw = take (two_byte_size raw) (drop 2 raw)
plain_text texts.Zero size raw = or_none (up_to_zero raw)

abbrev pub same_bytes : List ℕ → List ℕ → Bool
same_bytes [] [] = true
same_bytes (one ∷ ones) (other ∷ others) = (one == other) && same_bytes ones others
same_bytes ones others = false
