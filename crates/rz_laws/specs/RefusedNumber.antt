-- A row that is refused at a late number, as a list of its pieces, each at its place. (MPW Rez.)
use Rattle.std.specs.Prelude.{◌≡◌, ◌≤◌, min, ℤ, nat_abs, Bool, true, false, List, ◌∷◌, ◌++◌, length, Some, None, Ok}
use Rattle.rz_core.specs.declared.facts.Facts.{Facts}
use Rattle.rz_expr.specs.Term.{Term}
use Rattle.rz_expr.specs.Value.{value_of}
use Rattle.rz_laws.specs.Flat.{flat_row, nothing_drafted}
use Rattle.rz_laws.specs.Placed.{bits_in, marks_in, seen_from, Placed, RowPlaced, StandsAfter}
use Rattle.rz_laws.specs.Shown.{AreShown}
use Rattle.rz_types_fields.specs.Field.{PlainBody, PlainNumber}
use Rattle.rz_types_fields.specs.Laid.{most_kept, Refusal}
use Rattle.rz_types_fields.specs.Piece.{OneNumber}
use Rattle.rz_types_fields.specs.Range.{fits_number}
use Rattle.rz_types_fields.specs.Spells.{anyhow, is_late_piece, is_late_size, most_bits, IsStored}
use Rattle.rz_types_fields.specs.declared.tree.Tree.{Tree}

-- a piece has its place after those before it, and its bits if it isn't late; a number has as many bits as its field
pub record HasPlaceAfter (known : Facts) (all : List Bool) (before : List Placed) (one : Placed) : Type 0 where
  pub at : one.at ≡ length (bits_in before)
  pub late : one.late ≡ is_late_piece one.passed.met (marks_in before) one.piece (seen_from known all one)
  pub early : is_late_size one.passed.met (marks_in before) one.piece (seen_from known all one) ≡ false
  pub stored : one.late ≡ false → IsStored one.piece known one.at (seen_from known all one) one.value one.bits
  pub wide : (number : PlainNumber) → one.piece ≡ OneNumber number → length one.bits ≡ nat_abs number.width

-- it is a number whose expression has, as seen from its place, no value in the range of the field
pub record HasNoValue (known : Facts) (all : List Bool) (one : Placed) : Type 0 where
  pub number : PlainNumber
  pub term : Term
  pub is : one.piece ≡ OneNumber number
  pub fixed : number.fixed ≡ Some term
  pub empty : one.value ≡ None
  pub none : (value : ℤ) → value_of term (seen_from known all one) ≡ Ok value → fits_number number.form number.width value ≡ false

-- There is a list of the row's pieces, in bodies with finished names, each at its place after those before it. One is late and
-- has no value; each before it stands there, late or not. While the row is laid, all that a piece is shown is so in the end. The
-- refusal has the number of pieces before it.
pub record IsWithoutValue (known : Facts) (body : PlainBody) (row : List Tree) (fault : Refusal) : Type 0 where
  pub pieces : List Placed
  pub of_row : RowPlaced body row pieces
  pub places : (front : List Placed) (piece : Placed) (back : List Placed) → pieces ≡ front ++ piece ∷ back → HasPlaceAfter known (bits_in pieces) front piece
  pub shown : AreShown known (bits_in pieces) nothing_drafted (flat_row body row) pieces
  pub short : length (bits_in pieces) ≤ most_bits
  pub before : List Placed
  pub one : Placed
  pub others : List Placed
  pub are : pieces ≡ before ++ one ∷ others
  pub stand : (front : List Placed) (piece : Placed) (back : List Placed) → before ≡ front ++ piece ∷ back → StandsAfter anyhow known (bits_in pieces) front piece
  pub late : one.late ≡ true
  pub none : HasNoValue known (bits_in pieces) one
  pub at : fault.piece ≡ min (length before) most_kept
