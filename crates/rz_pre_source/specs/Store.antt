-- Tokens as pieces and as one store of bytes.
use Rattle.std.specs.Prelude.{ℕ, zero, ◌+◌, List, [], ◌∷◌, ◌++◌, drop, map, take}
use Rattle.std.specs.List.{AllByRecursion}
use Rattle.rz_lex.specs.declared.token.Token.{Token}
use Rattle.rz_pre_source.specs.Piece.{held_of, mark_of, piece_of, shape_of, size_of, IsShort}
use Rattle.rz_pre_source.specs.declared.piece.Piece.{Piece}

-- the tokens of these pieces, whose bytes stand in the store one after the other
abbrev pub tokens_of : List Piece → List ℕ → List Token
tokens_of [] bytes = []
tokens_of (piece ∷ pieces) bytes =
    record { shape = shape_of piece.kind (take (size_of piece.kind) bytes); mark = mark_of piece } ∷ tokens_of pieces (drop (size_of piece.kind) bytes)

-- how many bytes all of them have
abbrev pub size_of_all : List Piece → ℕ
size_of_all [] = zero
size_of_all (piece ∷ pieces) = size_of piece.kind + size_of_all pieces

-- the pieces and the bytes of tokens
abbrev pub pieces_of : List Token → List Piece
pieces_of tokens = map piece_of tokens

abbrev pub bytes_of : List Token → List ℕ
bytes_of [] = []
bytes_of (token ∷ tokens) = held_of token.shape ++ bytes_of tokens

-- pieces have room for each token
abbrev pub AreShort : List Token → Type 0
AreShort tokens = AllByRecursion IsShort tokens
