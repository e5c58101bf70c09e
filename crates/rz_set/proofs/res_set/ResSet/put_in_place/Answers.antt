use Rattle.std.proofs.Common.{ap, ◌∙◌}
use Rattle.rz_core.specs.Resources.{put}
use Rattle.rz_set.proofs.Puts.{put_keyed, put_values}
use Rattle.rz_set.proofs.res_set.ResSet.put_in_place.Goals as goal

pub invariant_of-self-2 : goal.invariant_of-self-2
invariant_of-self-2 c =
    put_keyed c.self.inside.map.entries c.insert.new.self.entries c.args.resource c.self.invariant c.key_of-key.result c.key_of-key.ensures c.in_ok-insert.ensures.entries c.requires

pub returns-clause-ok : goal.returns-clause-ok
returns-clause-ok c =
    put_values c.self.inside.map.entries c.insert.new.self.entries c.args.resource c.self.invariant c.key_of-key.result c.key_of-key.ensures c.in_ok-insert.ensures.entries
    ∙ ap (λ list. put list c.args.resource) c.self.view_is
