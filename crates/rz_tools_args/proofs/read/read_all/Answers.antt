use Rattle.std.proofs.Common.{◌≡◌, List, ℕ, map, ◌∷◌, sym, ap, subst, ◌∙◌}
use Rattle.std.specs.String.{string_bytes}
use Rattle.std.proofs.lemmas.List.{nil_from_length}
use Rattle.rz_tools_args.specs.Command.{IsMisplaced}
use Rattle.rz_tools_args.proofs.Positions.{at_position, no_words, other_word}
use Rattle.rz_tools_args.proofs.read.read_all.Goals as goal

pub returns-in_default-clause-misplaced : goal.returns-in_default-clause-misplaced
returns-in_default-clause-misplaced c =
    at_position (IsMisplaced (map string_bytes c.args.words.now)) c.misplaced.result 1 c.misplaced.ensures
    (subst (λ ws. IsMisplaced (map string_bytes ws) 1) (sym (nil_from_length c.args.words.now c.in_default.ensures.cases)) no_words)

pub returns-in-None-clause-misplaced : goal.returns-in-None-clause-misplaced
returns-in-None-clause-misplaced c =
    let are : map string_bytes c.args.words.now ≡ c.as_str.result.now ∷ map string_bytes c.in-Some.behind.now =
    ap (λ ws. map string_bytes ws) c.in-Some.ensures.cases.0 ∙ ap (λ (v : List ℕ). v ∷ map string_bytes c.in-Some.behind.now) (sym c.as_str.ensures.value) in
    at_position (IsMisplaced (map string_bytes c.args.words.now)) c.misplaced-in-None.result 1 c.misplaced-in-None.ensures
    (subst (λ (ws : List (List ℕ)). IsMisplaced ws 1) (sym are)
    (other_word c.as_str.result.now (map string_bytes c.in-Some.behind.now) (sym c.command_named.ensures ∙ c.in-None.is)))
