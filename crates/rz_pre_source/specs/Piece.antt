-- A token without its bytes, and the bytes that it has.
use Rattle.std.specs.Prelude.{ℕ, zero, ◌<◌, ◌^◌, List, [], length}
use Rattle.rz_core.specs.declared.fault.Mark.{Mark}
use Rattle.rz_lex.specs.declared.token.Shape.{Shape}
use Rattle.rz_lex.specs.declared.token.Shape.TheVariants as shapes
use Rattle.rz_lex.specs.declared.token.Token.{Token}
use Rattle.rz_pre_source.specs.declared.piece.Kind.{Kind}
use Rattle.rz_pre_source.specs.declared.piece.Kind.TheVariants as kinds
use Rattle.rz_pre_source.specs.declared.piece.Piece.{Piece}

-- the bytes of a word, a literal or a text
abbrev pub held_of : Shape → List ℕ
held_of (shapes.Word word) = word.bytes
held_of (shapes.Number value) = []
held_of (shapes.Literal bytes) = bytes
held_of (shapes.Text bytes) = bytes
held_of (shapes.Sign sign) = []

-- what is left without them
abbrev pub kind_of : Shape → Kind
kind_of (shapes.Word word) = kinds.Word (length word.bytes)
kind_of (shapes.Number value) = kinds.Number value
kind_of (shapes.Literal bytes) = kinds.Literal (length bytes)
kind_of (shapes.Text bytes) = kinds.Text (length bytes)
kind_of (shapes.Sign sign) = kinds.Sign sign

-- how many bytes there are
abbrev pub size_of : Kind → ℕ
size_of (kinds.Word size) = size
size_of (kinds.Number value) = zero
size_of (kinds.Literal size) = size
size_of (kinds.Text size) = size
size_of (kinds.Sign sign) = zero

-- with its bytes again
abbrev pub shape_of : Kind → List ℕ → Shape
shape_of (kinds.Word size) held = shapes.Word (record { bytes = held })
shape_of (kinds.Number value) held = shapes.Number value
shape_of (kinds.Literal size) held = shapes.Literal held
shape_of (kinds.Text size) held = shapes.Text held
shape_of (kinds.Sign sign) held = shapes.Sign sign

abbrev pub piece_of : Token → Piece
piece_of token = record { file = token.mark.file; line = token.mark.line; kind = kind_of token.shape }

-- where it stands
abbrev pub mark_of : Piece → Mark
mark_of piece = record { file = piece.file; line = piece.line }

-- a piece has room for it: fewer than 2^32 bytes, and a file at a position below 2^32
pub record IsShort (token : Token) : Type 0 where
  pub size : length (held_of token.shape) < 2 ^ 32
  pub file : token.mark.file < 2 ^ 32
