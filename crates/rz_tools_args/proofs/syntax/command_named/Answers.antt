use Rattle.std.proofs.Common.{◌+◌, Bool, List, Some, drop, get_or, sym, ap, ◌∙◌}
use Rattle.std.specs.Prelude.{if◌then◌else◌}
use Rattle.std.specs.Str.{bytes_eq}
use Rattle.std.proofs.lemmas.List.{at_drop_more}
use Rattle.rz_tools_args.specs.Syntax.{commands, name_in, Syntax}
use Rattle.rz_tools_args.specs.declared.name.CommandName.{CommandName}
use Rattle.rz_tools_args.specs.declared.name.CommandName.TheVariants as names
use Rattle.rz_tools_args.proofs.syntax.command_named.Goals as goal

pub loop-name-preserved : goal.loop-name-preserved
loop-name-preserved c =
    let behind = name_in (drop (c.loop-name.name-index + 1) commands) c.args.word.now in
    ap (λ (b : Bool). if b then Some (get_or commands c.loop-name.name-index names.Rez) else behind)
    (c.if-eq.ensures ∙ ap (λ (s : Syntax). bytes_eq c.args.word.now s.name) c.syntax_of.ensures)
    ∙ sym (at_drop_more (λ (names : List CommandName). name_in names c.args.word.now) commands c.loop-name.name-index names.Rez c.loop-name-test.true)
    ∙ c.loop-name.invariant
