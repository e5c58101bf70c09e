use Rattle.std.proofs.Common.{ℕ, List, [], ◌∷◌, ◌++◌, ap, ◌∙◌}
use Rattle.std.specs.Prelude.{codes}
use Rattle.rz_lex.specs.Spelled.{digits_of}
use Rattle.rz_show_lines.specs.Cut.{cut}
use Rattle.rz_told.proofs.Parted.{flags_are}
use Rattle.rz_told.proofs.Sizes.{three_on}
use Rattle.rz_told.proofs.facts.flags_fact.Goals as goal

pub returns : goal.returns
returns c =
    three_on c.args.line.now c.append.new.self c.hex.new.self c.push.new.self (codes "flags ") (48 ∷ 120 ∷ digits_of 16 4 c.from.result) (10 ∷ []) c.append.ensures c.hex.ensures c.push.ensures
    ∙ ap (λ (n : ℕ). cut (c.args.line.now ++ (codes "flags " ++ 48 ∷ 120 ∷ digits_of 16 4 n ++ 10 ∷ []))) c.from.ensures
    ∙ ap (λ (t : List ℕ). cut (c.args.line.now ++ t)) (flags_are c.args.flags)
