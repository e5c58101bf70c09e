use Rattle.std.proofs.Common.{vec_len}
use Rattle.rz_pre_source.proofs.Pieces.{is_nil}
use Rattle.rz_pre_source.proofs.store.TokenStore.is_empty.Goals as goal

pub returns : goal.returns
returns c =
    is_nil c.self.inside.pieces.items c.self.inside.bytes.items c.args.self.now (vec_len c.self.inside.pieces) c.is_empty.result c.self.view_is c.self.inside.pieces.ok.0 c.is_empty.ensures
