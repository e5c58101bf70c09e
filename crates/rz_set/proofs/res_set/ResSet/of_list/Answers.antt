use Rattle.std.proofs.Common.{◌∙◌}
use Rattle.rz_core.specs.Resources.{put_all}
use Rattle.rz_set.specs.ResSet.{values_of}
use Rattle.rz_set.proofs.Fresh.{put_fresh}
use Rattle.rz_set.proofs.res_set.ResSet.of_list.Goals as goal

pub returns : goal.returns
returns c =
    c.insert_all.ensures.values
    ∙ (λ i. put_all (values_of (c.in_ok-map.ensures.empty i)) (c.into_vec-news.ensures i))
    ∙ put_fresh c.args.list c.requires.keys
