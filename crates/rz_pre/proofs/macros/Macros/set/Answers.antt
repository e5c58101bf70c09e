use Rattle.std.proofs.Common.{ℕ, List, ap, ◌∙◌}
use Rattle.std.specs.Prelude.{map, option_map}
use Rattle.std.proofs.Math.Path.{fun_ext}
use Rattle.rz_pre.specs.Live.{live_in, put, shapes_of}
use Rattle.rz_pre.proofs.Puts.{put_live}
use Rattle.rz_pre.proofs.Rows.{row, Entry}
use Rattle.rz_pre.proofs.macros.Macros.set.Goals as goal

pub returns : goal.returns
returns c = fun_ext (λ other.
    ap (λ (es : List Entry). live_in (map row es) other) c.in_ok-insert.ensures.entries
    ∙ put_live c.args.self.now.held.entries c.in_ok-key.key c.args.body other
    ∙ ap (λ (name : List ℕ). put name (option_map shapes_of c.args.body) (live_in (map row c.args.self.now.held.entries)) other) c.in_ok-key.ensures)
