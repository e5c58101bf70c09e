use Rattle.std.proofs.Common.{◌≡◌, ℕ, ◌≤◌, List, ◌++◌, length, sym, ap, ◌∙◌, arith}
use Rattle.std.specs.Prelude.{codes}
use Rattle.std.specs.List.{flat_map}
use Rattle.std.proofs.lemmas.List.{append-nil, at_drop_all}
use Rattle.rz_tools_args.specs.Syntax.{commands}
use Rattle.rz_tools_answer.specs.Help.{help_text, usage_of}
use Rattle.rz_tools_answer.proofs.help.help_text.Goals as goal

pub returns : goal.returns
unfolding help_text
returns c =
    let text = c.loop-command.text in
    let past : length commands ≤ c.loop-command.command-index = omega arith in
    let usages : text ≡ codes "usage:\n" ++ flat_map usage_of commands =
    sym (append-nil text) ∙ ap (λ (l : List ℕ). text ++ l) (sym (at_drop_all (flat_map usage_of) commands c.loop-command.command-index past)) ∙ c.loop-command.invariant
    in
    c.in_ok-append.ensures.ok ∙ ap (λ (l : List ℕ). l ++ c.explanation.result.now) usages ∙ ap (λ (l : List ℕ). (codes "usage:\n" ++ flat_map usage_of commands) ++ l) c.explanation.ensures
