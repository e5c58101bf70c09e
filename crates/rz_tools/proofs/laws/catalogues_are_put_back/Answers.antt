use Rattle.rz_tools.proofs.PutBack.{put_back}
use Rattle.rz_tools.proofs.laws.catalogues_are_put_back.Goals as goal

pub returns : goal.returns
returns c = put_back c.admitted_forks_fit.ensures c.catalogues_are_stored.ensures c.written_catalogues_are_read.ensures c.own_catalogue.ensures
