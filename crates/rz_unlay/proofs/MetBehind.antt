-- What is met after a field: what was met before it, and its own name.
use Rattle.std.proofs.Common.{◌≡◌, List, [], ◌∷◌, Option, Some, None, refl, ◌∙◌}
use Rattle.rz_expr.specs.Term.{Term}
use Rattle.rz_types_fields.specs.Field.{PlainField}
use Rattle.rz_types_fields.specs.Passed.{behind, behind_piece, behind_pieces, met_behind, told_by, Passed}
use Rattle.rz_types_fields.specs.Piece.{pieces_of, Filler, OneNumber, OneText, Piece, Place, Zeros}

met_told : (fixed : Option Term) (passed : Passed) → (told_by fixed passed).met ≡ passed.met
met_told None passed = refl
met_told (Some term) passed = refl

pub met_piece : (piece : Piece) (passed : Passed) → (behind_piece piece passed).met ≡ passed.met
met_piece (OneNumber number) passed = met_told number.fixed passed
met_piece (OneText text) passed = refl
met_piece (Zeros count) passed = refl
met_piece (Filler unit) passed = refl
met_piece (Place name) passed = refl

pub met_pieces : (pieces : List Piece) (passed : Passed) → (behind_pieces pieces passed).met ≡ passed.met
met_pieces [] passed = refl
met_pieces (piece ∷ pieces) passed = met_pieces pieces (behind_piece piece passed) ∙ met_piece piece passed

pub met_field : (field : PlainField) (passed : Passed) → (behind field passed).met ≡ met_behind field passed.met
met_field field passed = met_pieces (pieces_of field) (record { met = met_behind field passed.met; told = passed.told; near = passed.near })
