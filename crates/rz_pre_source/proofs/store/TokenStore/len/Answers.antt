use Rattle.std.proofs.Common.{List, length, sym, ap, ◌∙◌}
use Rattle.rz_lex.specs.declared.token.Token.{Token}
use Rattle.rz_pre_source.proofs.Pieces.{length-tokens_of}
use Rattle.rz_pre_source.proofs.store.TokenStore.len.Goals as goal

pub returns : goal.returns
returns c =
    c.len.ensures ∙ c.self.inside.pieces.ok.0 ∙ sym (length-tokens_of c.self.inside.pieces.items c.self.inside.bytes.items) ∙ ap (λ (tokens : List Token). length tokens) c.self.view_is
