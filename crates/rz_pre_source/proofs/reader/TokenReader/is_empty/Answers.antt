use Rattle.std.proofs.Common.{drop, reverse, sym, ◌∙◌, vec_len}
use Rattle.std.proofs.lemmas.List.{length-reverse}
use Rattle.rz_pre_source.proofs.Pieces.{is_nil}
use Rattle.rz_pre_source.proofs.reader.TokenReader.is_empty.Goals as goal

pub returns : goal.returns
returns c =
    let pieces = c.self.inside.pieces in
    is_nil (reverse pieces.items) (drop c.self.inside.start c.self.inside.bytes.items) c.args.self.now (vec_len pieces) c.is_empty.result c.self.view_is
    (pieces.ok.0 ∙ sym (length-reverse pieces.items)) c.is_empty.ensures
