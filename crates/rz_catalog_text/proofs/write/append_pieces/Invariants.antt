use Rattle.std.proofs.Common.{◌≡◌, ◌++◌, length}
use Rattle.rz_catalog_text.specs.Text.{pieces_text}
use Rattle.rz_catalog_text.proofs.write.append_pieces.Given as goal

abbrev pub invariant-pieces : goal.invariant-pieces
invariant-pieces l = l.fn.into ++ pieces_text l.text ≡ l.into ++ pieces_text l.rest

abbrev pub decreases-pieces : goal.decreases-pieces
decreases-pieces l = length l.rest
