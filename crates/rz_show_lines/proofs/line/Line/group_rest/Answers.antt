use Rattle.std.proofs.Common.{rules, ◌≡◌, ℕ, ◌+◌, ◌<◌, ℤ, List, [], ◌∷◌, ◌++◌, length, drop, get_or, map, sym, ap, ◌∙◌}
use Rattle.rz_show_lines.specs.Cut.{cut}
use Rattle.rz_show_lines.specs.Print.{group_rest, signed_number, signed_written}
use Rattle.rz_show_lines.specs.Written.{line_text}
use Rattle.rz_show_lines.proofs.Writes.{go_on, next_is, text_both}
use Rattle.rz_show_lines.proofs.line.Line.group_rest.Goals as goal

abbrev numbers_left : List ℕ → List ℕ
numbers_left numbers = line_text (group_rest (map (signed_number 16) numbers))

next_number : (numbers : List ℕ) (i : ℕ) → i < length numbers
    → numbers_left (drop i numbers) ≡ 44 ∷ 32 ∷ (line_text (signed_written (signed_number 16 (get_or numbers i 0))) ++ numbers_left (drop (i + 1) numbers))
next_number numbers i within =
    ap numbers_left (next_is numbers i within)
    ∙ ap (λ (r : List ℕ). 44 ∷ 32 ∷ r) (text_both (signed_written (signed_number 16 (get_or numbers i 0))) (group_rest (map (signed_number 16) (drop (i + 1) numbers))))

pub loop-number-preserved : goal.loop-number-preserved
loop-number-preserved c =
    let numbers = c.args.numbers.now in
    let i = c.loop-number.number-index in
    let rest = numbers_left (drop (i + 1) numbers) in
    let number-is : c.signed_number.result ≡ signed_number 16 (get_or numbers i 0) = c.signed_number.ensures ∙ ap (signed_number 16) c.from.ensures in
    let put : c.decimal.new.self ≡ cut (c.append.new.self ++ line_text (signed_written c.signed_number.result)) = search rules in
    go_on c.append.new.self c.decimal.new.self (line_text (signed_written c.signed_number.result)) rest _ put
    (go_on c.loop-number.self c.append.new.self (44 ∷ 32 ∷ []) (line_text (signed_written c.signed_number.result) ++ rest) _ c.append.ensures
    (ap (λ (z : ℤ). cut (c.loop-number.self ++ 44 ∷ 32 ∷ (line_text (signed_written z) ++ rest))) number-is
    ∙ ap (λ (r : List ℕ). cut (c.loop-number.self ++ r)) (sym (next_number numbers i c.loop-number-test.true))
    ∙ c.loop-number.invariant))
