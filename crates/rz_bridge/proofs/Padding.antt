-- 32 bytes made of fewer or more.
use Rattle.std.proofs.Common.{◌≡◌, ℕ, ◌+◌, ◌-◌, ◌≤◌, ◌<◌, List, ◌++◌, length, take, drop, replicate, sym, ap, ◌∙◌, ⊎_elim, arith}
use Rattle.std.proofs.lemmas.Bool.{cases_lt}
use Rattle.std.proofs.lemmas.List.{take_all, drop-replicate, take-replicate, take-append-le, append-nil, length-take-le}
use Rattle.std.proofs.Math.Seq.{take-append-add}
use Rattle.rz_bridge.specs.Apple.{info_of}

-- few bytes are filled
pub filled_info : (bytes : List ℕ) → length bytes ≤ 32 → bytes ++ drop (length bytes) (replicate 32 0) ≡ info_of bytes
unfolding info_of
filled_info bytes few =
    let rest = 32 - length bytes in
    let size : length bytes + rest ≡ 32 = omega arith in
    ap (λ (l : List ℕ). bytes ++ l) (drop-replicate (length bytes) 32 0 ∙ sym (take-replicate rest 32 0 (omega arith)))
    ∙ sym (take-append-add bytes (replicate 32 0) rest) ∙ ap (λ (n : ℕ). take n (bytes ++ replicate 32 0)) size

-- many are cut
pub cut_info : (bytes : List ℕ) → 32 ≤ length bytes → take 32 bytes ++ drop 32 (replicate 32 0) ≡ info_of bytes
unfolding info_of
cut_info bytes many = append-nil (take 32 bytes) ∙ sym (take-append-le 32 bytes (replicate 32 0) many)

-- the first bytes, before zeros
pub info_is : (bytes given : List ℕ) → given ≡ take 32 bytes → given ++ drop (length given) (replicate 32 0) ≡ info_of bytes
info_is bytes given is = ⊎_elim few many (cases_lt (length bytes) 32)
  where
    few : length bytes < 32 → given ++ drop (length given) (replicate 32 0) ≡ info_of bytes
    few below =
        let whole = is ∙ take_all 32 bytes (omega arith) in
        (λ i. whole i ++ drop (length (whole i)) (replicate 32 0)) ∙ filled_info bytes (omega arith)

    many : 32 ≤ length bytes → given ++ drop (length given) (replicate 32 0) ≡ info_of bytes
    many above =
        (λ i. is i ++ drop (length (is i)) (replicate 32 0)) ∙ ap (λ (n : ℕ). take 32 bytes ++ drop n (replicate 32 0)) (length-take-le 32 bytes above)
        ∙ cut_info bytes above
