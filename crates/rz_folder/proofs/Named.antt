-- Names in UTF-8, one byte more and one path more.
use Rattle.std.proofs.Common.{◌≡◌, ℕ, ◌+◌, ◌<◌, List, [], ◌∷◌, ◌++◌, map, take, get_or, length, Some, sym, ap, ◌∙◌, append-nil}
use Rattle.std.specs.Prelude.{slice_get}
use Rattle.std.specs.Char.{encode_utf8}
use Rattle.std.specs.Str.{encode_utf8_all}
use Rattle.std.proofs.lemmas.List.{map-append, take_more}
use Rattle.std.proofs.lemmas.Str.{encodes-append}
use Rattle.rz_core.proofs.Lists.{take_at_more}
use Rattle.rz_core.specs.Roman.{roman_char}

pub utf8_more : (name : List ℕ) (i : ℕ) (before after : List ℕ) (c : ℕ) → i < length name → before ≡ encode_utf8_all (map roman_char (take i name))
    → after ≡ before ++ encode_utf8 c → c ≡ roman_char (get_or name i 0) → after ≡ encode_utf8_all (map roman_char (take (i + 1) name))
utf8_more name i before after c within so_far more is =
    more ∙ ap (λ (l : List ℕ). l ++ encode_utf8 c) so_far
    ∙ ap (λ (d : ℕ). encode_utf8_all (map roman_char (take i name)) ++ encode_utf8 d) is
    ∙ ap (λ (l : List ℕ). encode_utf8_all (map roman_char (take i name)) ++ l) (sym (append-nil (encode_utf8 (roman_char (get_or name i 0)))))
    ∙ sym (encodes-append (map roman_char (take i name)) (roman_char (get_or name i 0) ∷ []))
    ∙ ap encode_utf8_all (sym (map-append roman_char (take i name) (get_or name i 0 ∷ [])))
    ∙ ap (λ (l : List ℕ). encode_utf8_all (map roman_char l)) (sym (take_more name i 0 within))

pub named_more : (own : List ℕ) (paths names after : List (List ℕ)) (k : ℕ) (path whole : List ℕ) → slice_get paths k ≡ Some path
    → names ≡ own ∷ map (λ path. path ++ 47 ∷ own) (take k paths) → whole ≡ path ++ 47 ∷ own → after ≡ names ++ whole ∷ []
    → after ≡ own ∷ map (λ path. path ++ 47 ∷ own) (take (k + 1) paths)
named_more own paths names after k path whole is so_far built more =
    more ∙ ap (λ (l : List (List ℕ)). l ++ whole ∷ []) so_far
    ∙ ap (λ (w : List ℕ). own ∷ map (λ path. path ++ 47 ∷ own) (take k paths) ++ w ∷ []) built
    ∙ ap (λ (l : List (List ℕ)). own ∷ l) (sym (map-append (λ (path : List ℕ). path ++ 47 ∷ own) (take k paths) (path ∷ [])))
    ∙ ap (λ (l : List (List ℕ)). own ∷ map (λ path. path ++ 47 ∷ own) l) (sym (take_at_more paths k path is))
