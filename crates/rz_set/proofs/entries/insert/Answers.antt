use Rattle.rz_set.proofs.Puts.{put_keyed, put_values}
use Rattle.rz_set.proofs.entries.insert.Goals as goal

pub returns-clause-keyed : goal.returns-clause-keyed
returns-clause-keyed c =
    put_keyed c.args.map.now.entries c.insert.new.self.entries c.args.resource c.requires.keyed c.key_of-key.result c.key_of-key.ensures c.in-Ok.ensures.entries c.requires.named

pub returns-clause-values : goal.returns-clause-values
returns-clause-values c =
    put_values c.args.map.now.entries c.insert.new.self.entries c.args.resource c.requires.keyed c.key_of-key.result c.key_of-key.ensures c.in-Ok.ensures.entries
