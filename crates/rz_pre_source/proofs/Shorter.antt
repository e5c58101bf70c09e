-- A text in Mac Roman is not longer than its source.
use Rattle.std.proofs.Common.{◌≡◌, ℕ, suc, ◌≤◌, List, [], ◌∷◌, ◌++◌, map, length, Some, Ok, Err, IfOk, refl, ap, arith, length-append}
use Rattle.std.specs.Char.{encode_utf8}
use Rattle.std.specs.Str.{encode_utf8_all}
use Rattle.std.specs.declared.result.Result.{Result}
use Rattle.std.proofs.lemmas.Str.{len_utf8_bounds, length-encode}
use Rattle.rz_core.specs.Roman.{roman_byte}
use Rattle.rz_core.specs.declared.stop.Stop.{Stop}
use Rattle.rz_pre_source.specs.Source.{mark, Spells}
use Rattle.rz_pre_source.specs.declared.source.BadText.{BadText}

encodes_longer : (cs : List ℕ) → length cs ≤ length (encode_utf8_all cs)
encodes_longer [] = omega arith
encodes_longer (c ∷ cs) =
    let one = len_utf8_bounds c in
    omega (arith, length-append (encode_utf8 c) (encode_utf8_all cs), length-encode c, one.0, encodes_longer cs)

each_one : (cs bytes : List ℕ) → map roman_byte cs ≡ map Some bytes → length bytes ≡ length cs
each_one [] [] e = refl
each_one [] (b ∷ bytes) e = absurd (cc e)
each_one (c ∷ cs) [] e = absurd (cc e)
each_one (c ∷ cs) (b ∷ bytes) e =
    let later : map roman_byte cs ≡ map Some bytes = cc e in
    ap (λ n. suc n) (each_one cs bytes later)

spells_shorter : (utf8 bytes : List ℕ) → Spells utf8 bytes → length bytes ≤ length utf8
spells_shorter utf8 bytes s = omega (arith, each_one s.characters bytes s.each, encodes_longer s.characters, ap length s.encoded)

pub text_shorter : (source utf8 : List ℕ) (result : Result (List ℕ) (Stop BadText)) → source ≡ mark ++ utf8 → IfOk result (Spells utf8) → IfOk result (λ text. length text ≤ length source)
text_shorter source utf8 (Ok text) is spells = omega (arith, spells_shorter utf8 text spells, ap length is, length-append mark utf8)
text_shorter source utf8 (Err stop) is spells = tt
