use Rattle.std.proofs.Common.{◌∙◌}
use Rattle.std.specs.Global.{Vec}
use Rattle.std.specs.Prelude.{ℕ}
use Rattle.std.specs.Str.{str_to_ascii_lowercase}
use Rattle.rz_show.proofs.Held.{among_more, held_more}
use Rattle.rz_show.proofs.hidden.Hidden.of.Goals as goal

pub loop-name-preserved : goal.loop-name-preserved
loop-name-preserved c = λ name.
    among_more c.args.names.now c.loop-name.name-index c.name-item.result name c.in_ok-name.name.items _ _ c.loop-name-test.true c.name-item.is
    (c.in_ok-name.ensures ∙ c.as_slice.ensures)
    (held_more (λ (v : Vec ℕ). v.items) c.in_ok-name.name c.loop-name.held.keys c.insert.new.self.keys c.in_ok-insert.field-0 (str_to_ascii_lowercase name) c.in_ok-insert.ensures.added c.in_ok-insert.ensures.keys)
    (c.loop-name.invariant name)
