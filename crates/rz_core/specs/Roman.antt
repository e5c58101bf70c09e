-- Mac Roman, the encoding of all text of the classic Macintosh. (Inside Macintosh: Text; the character DB is the
-- euro sign, as since Mac OS 8.5.)
use Rattle.std.specs.Prelude.{◌≡◌, ◌≢◌, ℕ, ◌+◌, ◌-◌, ◌<◌, nat_lt, nat_le, ◌==◌, ◌&&◌, if◌then◌else◌, List, [], ◌∷◌, Option, Some, None, get_or}

-- the characters of the bytes 80 to FF, sixteen a line
abbrev pub upper_half : List ℕ
upper_half =
    196 ∷ 197 ∷ 199 ∷ 201 ∷ 209 ∷ 214 ∷ 220 ∷ 225 ∷ 224 ∷ 226 ∷ 228 ∷ 227 ∷ 229 ∷ 231 ∷ 233 ∷ 232 ∷
    234 ∷ 235 ∷ 237 ∷ 236 ∷ 238 ∷ 239 ∷ 241 ∷ 243 ∷ 242 ∷ 244 ∷ 246 ∷ 245 ∷ 250 ∷ 249 ∷ 251 ∷ 252 ∷
    8224 ∷ 176 ∷ 162 ∷ 163 ∷ 167 ∷ 8226 ∷ 182 ∷ 223 ∷ 174 ∷ 169 ∷ 8482 ∷ 180 ∷ 168 ∷ 8800 ∷ 198 ∷ 216 ∷
    8734 ∷ 177 ∷ 8804 ∷ 8805 ∷ 165 ∷ 181 ∷ 8706 ∷ 8721 ∷ 8719 ∷ 960 ∷ 8747 ∷ 170 ∷ 186 ∷ 937 ∷ 230 ∷ 248 ∷
    191 ∷ 161 ∷ 172 ∷ 8730 ∷ 402 ∷ 8776 ∷ 8710 ∷ 171 ∷ 187 ∷ 8230 ∷ 160 ∷ 192 ∷ 195 ∷ 213 ∷ 338 ∷ 339 ∷
    8211 ∷ 8212 ∷ 8220 ∷ 8221 ∷ 8216 ∷ 8217 ∷ 247 ∷ 9674 ∷ 255 ∷ 376 ∷ 8260 ∷ 8364 ∷ 8249 ∷ 8250 ∷ 64257 ∷ 64258 ∷
    8225 ∷ 183 ∷ 8218 ∷ 8222 ∷ 8240 ∷ 194 ∷ 202 ∷ 193 ∷ 203 ∷ 200 ∷ 205 ∷ 206 ∷ 207 ∷ 204 ∷ 211 ∷ 212 ∷
    63743 ∷ 210 ∷ 218 ∷ 219 ∷ 217 ∷ 305 ∷ 710 ∷ 732 ∷ 175 ∷ 728 ∷ 729 ∷ 730 ∷ 184 ∷ 733 ∷ 731 ∷ 711 ∷ []

-- the character of a byte
abbrev pub roman_char : ℕ → ℕ
roman_char byte = if nat_lt byte 128 then byte else get_or upper_half (byte - 128) 0

-- the place of a character in a list whose first place has this number
abbrev pub place_from : ℕ → List ℕ → ℕ → Option ℕ
place_from place [] char = None
place_from place (c ∷ cs) char = if c == char then Some place else place_from (place + 1) cs char

-- the byte of a character, where it has one
abbrev pub roman_byte : ℕ → Option ℕ
roman_byte char = if nat_lt char 128 then Some char else place_from 128 upper_half char

-- the upper-case letters A to Z in lower case, and all other bytes as they are
abbrev pub folded : ℕ → ℕ
folded byte = if nat_le 65 byte && nat_le byte 90 then byte + 32 else byte

-- the byte of each byte's character is that byte; a character's byte has that character; a character without a byte
-- is that of no byte; and two characters with one byte are equal
pub record IsOneToOne : Type 0 where
  pub back : (byte : ℕ) → byte < 256 → roman_byte (roman_char byte) ≡ Some byte
  pub stands : (char byte : ℕ) → roman_byte char ≡ Some byte → (byte < 256) × (roman_char byte ≡ char)
  pub none : (char byte : ℕ) → roman_byte char ≡ None → byte < 256 → roman_char byte ≢ char
  pub same : (char other byte : ℕ) → roman_byte char ≡ Some byte → roman_byte other ≡ Some byte → char ≡ other
