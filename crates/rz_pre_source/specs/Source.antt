-- The text of a source: Mac Roman as it stands, or UTF-8 after a mark. (Unicode Standard, table 3-7; Inside
-- Macintosh: Text.)
use Rattle.std.specs.Prelude.{◌≡◌, ◌≢◌, ℕ, ◌+◌, ◌⊎◌, true, List, [], ◌∷◌, ◌++◌, map, length, Some, None}
use Rattle.std.specs.Char.{encode_utf8, IsScalar}
use Rattle.std.specs.Str.{all_scalars, encode_utf8_all, StartsWithNoChar}
use Rattle.rz_core.specs.Roman.{roman_byte}

-- the mark of UTF-8 at the front of a file
abbrev pub mark : List ℕ
mark = 239 ∷ 187 ∷ 191 ∷ []

-- the UTF-8 of characters that have these bytes in Mac Roman, one each
pub record Spells (utf8 bytes : List ℕ) : Type 0 where
  pub characters : List ℕ
  pub scalars : all_scalars characters ≡ true
  pub encoded : utf8 ≡ encode_utf8_all characters
  pub each : map roman_byte characters ≡ map Some bytes

-- UTF-8 after the mark that has characters with these bytes in front of an offset in the file, and then the rest
pub record Reaches (utf8 : List ℕ) (offset : ℕ) (bytes rest : List ℕ) : Type 0 where
  pub front : List ℕ
  pub split : utf8 ≡ front ++ rest
  pub place : offset ≡ length mark + length front
  pub good : Spells front bytes

-- in front of this offset all is good, and a character without a byte begins there
pub record LacksByteAt (utf8 : List ℕ) (offset : ℕ) : Type 0 where
  pub bytes : List ℕ
  pub character : ℕ
  pub rest : List ℕ
  pub scalar : IsScalar character
  pub lacks : roman_byte character ≡ None
  pub front : Reaches utf8 offset bytes (encode_utf8 character ++ rest)

-- in front of this offset all is good, and bytes stand there that no character begins
pub record NoCharacterAt (utf8 : List ℕ) (offset : ℕ) : Type 0 where
  pub bytes : List ℕ
  pub rest : List ℕ
  pub some : rest ≢ []
  pub none : StartsWithNoChar rest
  pub front : Reaches utf8 offset bytes rest

-- the first fault is at this offset
abbrev pub StopsAt : List ℕ → ℕ → Type 0
StopsAt utf8 offset = LacksByteAt utf8 offset ⊎ NoCharacterAt utf8 offset

-- the source does not begin with the mark
abbrev pub IsUnmarked : List ℕ → Type 0
IsUnmarked source = (utf8 : List ℕ) → source ≢ mark ++ utf8

-- a source and its text in Mac Roman
pub data IsTextOf (source text : List ℕ) : Type 0 where
  unmarked : IsUnmarked source → text ≡ source → IsTextOf source text
  marked : (utf8 : List ℕ) → source ≡ mark ++ utf8 → Spells utf8 text → IsTextOf source text

-- the source is marked, and the first bad sequence or character begins at this offset
pub record IsBadAt (source : List ℕ) (offset : ℕ) : Type 0 where
  pub utf8 : List ℕ
  pub marked : source ≡ mark ++ utf8
  pub stops : StopsAt utf8 offset
