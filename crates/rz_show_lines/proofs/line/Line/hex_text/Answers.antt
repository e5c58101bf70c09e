use Rattle.std.proofs.Common.{◌≡◌, ℕ, ◌+◌, ◌<◌, List, [], ◌∷◌, ◌++◌, length, take, drop, get_or, sym, ap, ◌∙◌, arith, append_assoc, length-take}
use Rattle.std.proofs.lemmas.List.{take_more}
use Rattle.rz_core.specs.Lists.{with_front}
use Rattle.rz_core.specs.Quoted.{hex_byte}
use Rattle.rz_show_lines.specs.Cut.{cut}
use Rattle.rz_show_lines.specs.Written.{group_gap, grouped_byte}
use Rattle.rz_show_lines.proofs.Writes.{go_on, next_is}
use Rattle.rz_show_lines.proofs.line.Line.hex_text.Goals as goal

abbrev groups_left : List ℕ → ℕ → List ℕ
groups_left bytes i = with_front grouped_byte (take i bytes) (drop i bytes)

next_group : (bytes : List ℕ) (i : ℕ) → i < length bytes → groups_left bytes i ≡ group_gap i ++ (hex_byte (get_or bytes i 0) ++ groups_left bytes (i + 1))
next_group bytes i within =
    let front : length (take i bytes) ≡ i = omega (arith, length-take i bytes, within) in
    let one = hex_byte (get_or bytes i 0) in
    ap (with_front grouped_byte (take i bytes)) (next_is bytes i within)
    ∙ ap (λ (n : ℕ). (group_gap n ++ one) ++ with_front grouped_byte (take i bytes ++ get_or bytes i 0 ∷ []) (drop (i + 1) bytes)) front
    ∙ ap (λ (r : List ℕ). (group_gap i ++ one) ++ with_front grouped_byte r (drop (i + 1) bytes)) (sym (take_more bytes i 0 within))
    ∙ append_assoc (group_gap i) one (groups_left bytes (i + 1))

pub loop-k-preserved : goal.loop-k-preserved
loop-k-preserved c =
    let bytes = c.args.bytes.now in
    let i = c.loop-k.k in
    let one = hex_byte (get_or bytes i 0) in
    let rest = groups_left bytes (i + 1) in
    go_on c.gap.new.self c.hex_byte.new.self one (rest ++ 34 ∷ []) _ c.hex_byte.ensures
    (go_on c.loop-k.self c.gap.new.self (group_gap i) (one ++ (rest ++ 34 ∷ [])) _ c.gap.ensures
    (regroup c.loop-k.self (group_gap i) one rest
    ∙ ap (λ (r : List ℕ). cut (c.loop-k.self ++ (r ++ 34 ∷ []))) (sym (next_group bytes i c.loop-k-test.true))
    ∙ c.loop-k.invariant))
  where
    regroup : (a b c d : List ℕ) → cut (a ++ (b ++ (c ++ (d ++ 34 ∷ [])))) ≡ cut (a ++ ((b ++ (c ++ d)) ++ 34 ∷ []))
    regroup a b c d = simp append_assoc
