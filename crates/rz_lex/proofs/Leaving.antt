-- What is left of a text after some of its bytes.
use Rattle.std.proofs.Common.{◌≡◌, ℕ, zero, suc, ◌+◌, ◌-◌, List, [], ◌∷◌, take, drop, length, refl, ap, sym, ◌∙◌, arith}
use Rattle.std.proofs.lemmas.List.{take_all, length-drop, drop-drop}

-- what is left after some bytes is told by its length
left_by_length : (n : ℕ) (text : List ℕ) → drop n text ≡ drop (length text - length (drop n text)) text
left_by_length zero text = ap (λ (k : ℕ). drop k text) {x = 0} {y = length text - length text} (omega arith)
left_by_length (suc n) [] = refl
left_by_length (suc n) (b ∷ bs) =
    left_by_length n bs ∙ ap (λ (k : ℕ). drop k (b ∷ bs)) {x = suc (length bs - length (drop n bs))} {y = suc (length bs) - length (drop n bs)} (omega (arith, length-drop n bs))

module _ (text middle rest : List ℕ) (left : middle ≡ drop (length text - length middle) text) where
  -- what stands after so many bytes of what is left is left too
  behind : (n : ℕ) → rest ≡ drop n middle → rest ≡ drop (length text - length rest) text
  behind n is =
      let at : rest ≡ drop (length text - length middle + n) text = is ∙ ap (drop n) left ∙ drop-drop n (length text - length middle) text in
      at ∙ left_by_length (length text - length middle + n) text ∙ ap (λ (bytes : List ℕ). drop (length text - length bytes) text) (sym at)

  pub left_part : (n : ℕ) → rest ≡ take (length middle - n) (drop n middle) → rest ≡ drop (length text - length rest) text
  left_part n is = behind n (is ∙ take_all (length middle - n) (drop n middle) (omega (arith, length-drop n middle)))

  pub left_on : rest ≡ drop (length middle - length rest) middle → rest ≡ drop (length text - length rest) text
  left_on is = behind (length middle - length rest) is
