use Rattle.std.proofs.Common.{Bor, List, subst, sym, ap, ◌∙◌}
use Rattle.std.specs.Prelude.{option_map}
use Rattle.rz_stmt_brackets.specs.Pieces.{AreCut}
use Rattle.rz_stmt_brackets.specs.declared.pieces.Divider.TheVariants.{Semicolon}
use Rattle.rz_core.specs.Decided.{Decided}
use Rattle.rz_types_fields.specs.Text.{plain_parts}
use Rattle.rz_lex.specs.declared.token.Token.{Token}
use Rattle.rz_stmt_data.proofs.Answering.{ok_so}
use Rattle.rz_stmt_data.proofs.Bodies.{inside_decided}
use Rattle.rz_stmt_data.proofs.Reading.{now_of}
use Rattle.rz_stmt_data.specs.Raw.{AreTexts, IsInside}
use Rattle.rz_stmt_data.proofs.raw.read_inside.Goals as goal

pub returns : goal.returns
returns c =
    ok_so (λ texts. Decided (AreTexts (now_of c.deref.result.now)) (option_map plain_parts texts)) (λ texts. Decided (IsInside c.args.tokens.now) (option_map plain_parts texts))
    (λ texts. inside_decided c.args.tokens.now (now_of c.deref.result.now)
    (subst (λ (ps : List (Bor (List Token))). AreCut Semicolon c.args.tokens.now (now_of ps)) (sym c.deref.ensures.value) c.in_ok-pieces.ensures.cut)
    (λ others is. ap now_of c.deref.ensures.value ∙ c.in_ok-pieces.ensures.every others is) (option_map plain_parts texts))
    c.read_texts.result c.read_texts.ensures
