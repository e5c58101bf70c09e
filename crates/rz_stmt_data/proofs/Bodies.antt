-- What stands in the braces of a `data` statement.
use Rattle.std.proofs.Common.{◌≡◌, List, Option, Some, None, sym, subst}
use Rattle.rz_stmt_brackets.specs.Pieces.{AreCut}
use Rattle.rz_stmt_brackets.specs.declared.pieces.Divider.TheVariants.{Semicolon}
use Rattle.rz_core.specs.Decided.{Decided}
use Rattle.rz_types_fields.specs.Text.{PlainPart}
use Rattle.rz_lex.specs.declared.token.Token.{Token}
use Rattle.rz_stmt_data.specs.Raw.{AreTexts, IsInside}

-- the texts of the pieces are those in the braces
pub inside_decided : (tokens : List Token) (pieces : List (List Token)) → AreCut Semicolon tokens pieces
    → ((others : List (List Token)) → AreCut Semicolon tokens others → pieces ≡ others)
    → (found : Option (List PlainPart)) → Decided (AreTexts pieces) found → Decided (IsInside tokens) found
inside_decided tokens pieces cut every None never = λ texts is.
    never texts (subst (λ (ps : List (List Token)). AreTexts ps texts) (sym (every is.0 is.1)) is.2)
inside_decided tokens pieces cut every (Some texts) are = (pieces, cut, are)
