-- Where a row is refused: at the first piece that isn't laid, or else at the first late number that has no bits. (MPW Rez.)
use Rattle.std.specs.Prelude.{◌≡◌, ◌⊎◌, min, Bool, List, ◌∷◌, ◌++◌, length, Option, Ok, Err}
use Rattle.rz_core.specs.declared.facts.Facts.{Facts}
use Rattle.rz_laws.specs.Flat.{flat_row, nothing_drafted, pieces_in, steps_drafted, Drafts, Lays, Step}
use Rattle.rz_types_fields.specs.Field.{PlainBody}
use Rattle.rz_types_fields.specs.Laid.{fill, late_bits, later, lay, most_kept, piece_form, LateNumber, Refusal}
use Rattle.rz_types_fields.specs.Passed.{outside}
use Rattle.rz_types_fields.specs.Piece.{Piece}
use Rattle.rz_types_fields.specs.declared.tree.Tree.{Tree}

-- those before a piece are drafted, and the piece isn't laid after them; the refusal has the number of pieces before it
pub record IsRefusedPiece (known : Facts) (body : PlainBody) (row : List Tree) (fault : Refusal) : Type 0 where
  pub front : List Step
  pub piece : Piece
  pub value : Option Tree
  pub behind : List Step
  pub drafts : Drafts
  pub steps : flat_row body row ≡ front ++ Lays piece value ∷ behind
  pub drafted : steps_drafted known nothing_drafted front ≡ Ok drafts
  pub refused : lay known drafts.inner piece value ≡ Err fault
  pub at : fault.piece ≡ min (pieces_in front) most_kept

-- a late number is that of a piece: those before it are drafted, and after them the piece is left for later with this type, width
-- and expression; the number has the number of pieces before it, and its place is after their bits
pub record IsOfPiece (known : Facts) (body : PlainBody) (row : List Tree) (one : LateNumber) : Type 0 where
  pub front : List Step
  pub piece : Piece
  pub value : Option Tree
  pub behind : List Step
  pub drafts : Drafts
  pub steps : flat_row body row ≡ front ++ Lays piece value ∷ behind
  pub drafted : steps_drafted known nothing_drafted front ≡ Ok drafts
  pub left : piece_form known drafts.inner piece value ≡ Ok (later one.form one.width one.term)
  pub counted : one.piece ≡ min (pieces_in front) most_kept
  pub at : one.at ≡ length drafts.inner.bits

-- all pieces are drafted, the late numbers before one are in their places, and the one, which is that of a piece, has no value
-- there, or none in the range of its field; the refusal has the number of its piece
pub record IsRefusedNumber (known : Facts) (body : PlainBody) (row : List Tree) (fault : Refusal) : Type 0 where
  pub drafts : Drafts
  pub before : List LateNumber
  pub one : LateNumber
  pub others : List LateNumber
  pub bits : List Bool
  pub drafted : steps_drafted known nothing_drafted (flat_row body row) ≡ Ok drafts
  pub numbers : drafts.inner.numbers ≡ before ++ one ∷ others
  pub of_piece : IsOfPiece known body row one
  pub filled : fill known outside before drafts.inner.bits ≡ Ok bits
  pub refused : late_bits known outside one bits ≡ Err fault
  pub at : fault.piece ≡ one.piece

abbrev pub IsRefusedAt : Facts → PlainBody → List Tree → Refusal → Type 0
IsRefusedAt known body row fault = IsRefusedPiece known body row fault ⊎ IsRefusedNumber known body row fault
