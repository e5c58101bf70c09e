-- A source has a text or a first fault.
use Rattle.std.proofs.Common.{◌≡◌, ℕ, zero, suc, ◌+◌, Bool, true, false, ◌⊎◌, inl, inr, List, [], ◌∷◌, ◌++◌, length, take, drop, Option, Some, None, refl, sym, ap, subst, ◌∙◌, arith, append-nil, length-take-le, take-append-drop}
use Rattle.std.specs.Prelude.{if◌then◌else◌, IsUtf8}
use Rattle.std.specs.Char.{encode_utf8}
use Rattle.std.specs.Str.{bytes_eq, encode_utf8_all, is_utf8}
use Rattle.std.specs.Str.Lossy.{utf8_valid_len, valid_len_up_to}
use Rattle.std.proofs.lemmas.List.{append_assoc}
use Rattle.std.proofs.lemmas.Str.{is_utf8-from_IsUtf8, utf8_valid_len_le, IsUtf8-from_is_utf8, IsUtf8-nil}
use Rattle.rz_core.specs.Roman.{roman_byte}
use Rattle.rz_core.proofs.Tests.{by_test}
use Rattle.rz_pre_source.specs.Source.{mark, IsBadAt, IsTextOf, LacksByteAt, Spells, StopsAt, marked, unmarked}
use Rattle.rz_pre_source.proofs.Turned.{has_mark, has_none, turned_all, turned_lacks, turned_more, turned_none, turned_stops, Turned}

-- The longest front that is UTF-8.

front_up_to : (bs : List ℕ) (n : ℕ) → is_utf8 (take (valid_len_up_to bs n) bs) ≡ true
front_up_to bs zero = is_utf8-from_IsUtf8 [] IsUtf8-nil
front_up_to bs (suc n) = by (is_utf8 (take (suc n) bs)) refl (front_up_to bs n)
  where
    by : (b : Bool) → is_utf8 (take (suc n) bs) ≡ b → is_utf8 (take (valid_len_up_to bs n) bs) ≡ true
        → is_utf8 (take (if b then suc n else valid_len_up_to bs n) bs) ≡ true
    by true whole shorter = whole
    by false whole shorter = shorter

front_is_utf8 : (bs : List ℕ) → IsUtf8 (take (utf8_valid_len bs) bs)
unfolding utf8_valid_len
front_is_utf8 bs = IsUtf8-from_is_utf8 (take (valid_len_up_to bs (length bs)) bs) (front_up_to bs (length bs))

-- All characters have a byte, or there is a first one without.

abbrev Walked : List ℕ → Type 0
Walked text = ((bytes : List ℕ) × Spells text bytes) ⊎ ((offset : ℕ) × LacksByteAt text offset)

walk : (text bytes : List ℕ) (offset : ℕ) (characters : List ℕ) → Turned text offset bytes (encode_utf8_all characters) → Walked text
walk text bytes offset [] turned = inl (bytes, turned_all text bytes [] offset turned refl)
walk text bytes offset (c ∷ cs) turned =
    by (roman_byte c) refl (λ byte has. walk text (bytes ++ byte ∷ []) (offset + length (encode_utf8 c)) cs
    (turned_more text bytes (encode_utf8 c ++ encode_utf8_all cs) (encode_utf8_all cs) offset (offset + length (encode_utf8 c)) c byte turned refl refl has))
  where
    by : (found : Option ℕ) → roman_byte c ≡ found → ((byte : ℕ) → roman_byte c ≡ Some byte → Walked text) → Walked text
    by (Some byte) is more = more byte is
    by None is more = inr (offset, turned_lacks text bytes (encode_utf8 c ++ encode_utf8_all cs) (encode_utf8_all cs) offset offset c turned refl refl is)

walk_all : (text : List ℕ) → IsUtf8 text → Walked text
walk_all text is = walk text [] 3 is.0 (turned_none text [] (encode_utf8_all is.0) 0 is is.1.1 refl refl)

lacks_before : (utf8 front rest : List ℕ) (offset : ℕ) → utf8 ≡ front ++ rest → LacksByteAt front offset → LacksByteAt utf8 offset
lacks_before utf8 front rest offset split l = record {
  bytes = l.bytes;
  character = l.character;
  rest = l.rest ++ rest;
  scalar = l.scalar;
  lacks = l.lacks;
  front = record {
    front = l.front.front;
    split = split ∙ ap (λ (bs : List ℕ). bs ++ rest) l.front.split ∙ append_assoc l.front.front (encode_utf8 l.character ++ l.rest) rest
        ∙ ap (λ (bs : List ℕ). l.front.front ++ bs) (append_assoc (encode_utf8 l.character) l.rest rest);
    place = l.front.place;
    good = l.front.good;
  };
}

-- What stands after the mark.

abbrev Behind : List ℕ → Type 0
Behind utf8 = ((text : List ℕ) × Spells utf8 text) ⊎ ((offset : ℕ) × StopsAt utf8 offset)

behind_front : (utf8 front rest : List ℕ) → utf8 ≡ front ++ rest → IsUtf8 front → length front ≡ utf8_valid_len utf8 → Walked front → Behind utf8
behind_front utf8 front [] split is most (inl (bytes, good)) =
    inl (bytes, subst (λ (bs : List ℕ). Spells bs bytes) (sym (split ∙ append-nil front)) good)
behind_front utf8 front (x ∷ rest) split is most (inl (bytes, good)) =
    inr (3 + length front, turned_stops utf8 front (x ∷ []) rest bytes (3 + length front) split is most (omega arith) good refl)
behind_front utf8 front rest split is most (inr (offset, lacks)) = inr (offset, inl (lacks_before utf8 front rest offset split lacks))

behind : (utf8 : List ℕ) → Behind utf8
behind utf8 =
    let size = utf8_valid_len utf8 in
    let is = front_is_utf8 utf8 in
    behind_front utf8 (take size utf8) (drop size utf8) (sym (take-append-drop size utf8)) is (length-take-le size utf8 (utf8_valid_len_le utf8)) (walk_all (take size utf8) is)

-- A source.

pub every_source : (source : List ℕ) → ((text : List ℕ) × IsTextOf source text) ⊎ ((offset : ℕ) × IsBadAt source offset)
every_source source =
    by_test (((text : List ℕ) × IsTextOf source text) ⊎ ((offset : ℕ) × IsBadAt source offset)) (bytes_eq (take 3 source) mark)
    (λ same. by (has_mark source same) (behind (drop 3 source))) (λ differs. inl (source, unmarked (has_none source differs) refl))
  where
    by : source ≡ mark ++ drop 3 source → Behind (drop 3 source) → ((text : List ℕ) × IsTextOf source text) ⊎ ((offset : ℕ) × IsBadAt source offset)
    by is (inl (text, good)) = inl (text, marked (drop 3 source) is good)
    by is (inr (offset, stops)) = inr (offset, record { utf8 = drop 3 source; marked = is; stops = stops })
