use Rattle.std.proofs.Common.{◌≡◌, ◌++◌, ℕ, List, length, sym, ap, ◌∙◌}
use Rattle.rz_lex.specs.declared.token.Token.{Token}
use Rattle.rz_pre_source.specs.Store.{bytes_of, pieces_of, size_of_all, tokens_of}
use Rattle.rz_pre_source.specs.declared.piece.Piece.{Piece}
use Rattle.rz_pre_source.proofs.Pieces.{added, sizes_added}
use Rattle.rz_pre_source.proofs.store.TokenStore.append.Goals as goal
use Rattle.rz_pre_source.proofs.store.TokenStore.append.Goals.{After-append_reserved}

pieces_are : (c : After-append_reserved) → c.append_reserved.new.pieces.items ≡ c.self.inside.pieces.items ++ pieces_of c.args.tokens.now
pieces_are c = c.append_reserved.ensures.pieces ∙ ap (λ (pieces : List Piece). pieces ++ pieces_of c.args.tokens.now) c.in_ok-reserve.ensures.items

bytes_are : (c : After-append_reserved) → c.append_reserved.new.bytes.items ≡ c.self.inside.bytes.items ++ bytes_of c.args.tokens.now
bytes_are c = c.append_reserved.ensures.bytes ∙ ap (λ (bytes : List ℕ). bytes ++ bytes_of c.args.tokens.now) c.in_ok-reserve-2.ensures.items

pub invariant_of-self-2 : goal.invariant_of-self-2
invariant_of-self-2 c =
    ap size_of_all (pieces_are c) ∙ sizes_added c.self.inside.pieces.items c.self.inside.bytes.items c.args.tokens.now c.self.invariant ∙ ap (λ (bytes : List ℕ). length bytes) (sym (bytes_are c))

pub returns-clause-ok : goal.returns-clause-ok
returns-clause-ok c =
    (λ i. tokens_of (pieces_are c i) (bytes_are c i)) ∙ added c.self.inside.pieces.items c.self.inside.bytes.items c.args.tokens.now c.self.invariant
    ∙ ap (λ (tokens : List Token). tokens ++ c.args.tokens.now) c.self.view_is
