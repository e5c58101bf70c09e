-- Of all tokens it is decided which `data` statement they are.
use Rattle.std.proofs.Common.{List, [], ◌∷◌, length, Option, refl, arith}
use Rattle.std.proofs.Math.Decide.{map_dec}
use Rattle.rz_core.proofs.EveryCut.{answer_of, known_with}
use Rattle.rz_core.specs.Decided.{Decided}
use Rattle.rz_expr.proofs.OneTerm.{OneExpression}
use Rattle.rz_expr.specs.Grammar.{IsExpression}
use Rattle.rz_expr.specs.Term.{Term}
use Rattle.rz_words.specs.declared.keyword.Keyword.TheVariants as keywords
use Rattle.rz_lex.specs.declared.token.Token.{Token}
use Rattle.rz_stmt_brackets.proofs.OneCut.{one_cut, some_pieces}
use Rattle.rz_stmt_brackets.specs.Bracket.{IsBracketed}
use Rattle.rz_stmt_brackets.specs.Pieces.{AreCut, Parted}
use Rattle.rz_stmt_brackets.specs.declared.bracket.Bracket.{Bracket}
use Rattle.rz_stmt_brackets.specs.declared.pieces.Divider.TheVariants.{Semicolon}
use Rattle.rz_types_fields.specs.Text.{PlainPart}
use Rattle.rz_types_fields.specs.declared.place.TextPlace.TheVariants.{Data}
use Rattle.rz_stmt_data.proofs.EveryText.{is_text}
use Rattle.rz_stmt_data.proofs.Frames.{is_frame, one_frame}
use Rattle.rz_stmt_data.specs.Frame.{Frame, IsFrame}
use Rattle.rz_stmt_data.specs.Raw.{AreTexts, IsInside, IsMaybeText, IsRaw, Raw}

module _ (one : OneExpression) (expression : (tokens : List Token) → (answer : Option Term) × Decided (IsExpression tokens) answer)
    (within : (bracket : Bracket) (tokens : List Token) → (answer : Option Parted) × Decided (IsBracketed bracket tokens) answer) where
  is_maybe : (tokens : List Token) → Dec ((texts : List PlainPart) × IsMaybeText tokens texts)
  is_maybe [] = yes ([], refl)
  is_maybe (token ∷ tokens) = is_text expression within one Data (token ∷ tokens)

  are_texts : (pieces : List (List Token)) → Dec ((texts : List PlainPart) × AreTexts pieces texts)
  are_texts [] = no (λ h. h.1)
  are_texts (piece ∷ []) = is_maybe piece
  are_texts (piece ∷ [] ∷ []) = is_maybe piece
  are_texts (piece ∷ (token ∷ tokens) ∷ []) = no (λ h. h.1)
  are_texts (piece ∷ [] ∷ other ∷ others) = no (λ h. h.1)
  are_texts (piece ∷ (token ∷ tokens) ∷ other ∷ others) = no (λ h. h.1)

  abbrev Texts : List (List Token) → Type 0
  Texts pieces = (texts : List PlainPart) × AreTexts pieces texts

  abbrev Inside : List Token → Type 0
  Inside tokens = (texts : List PlainPart) × IsInside tokens texts

  is_inside : (tokens : List Token) → Dec (Inside tokens)
  is_inside tokens = map_dec to from (known_with (AreCut Semicolon tokens) (λ pieces. Texts pieces) (one_cut Semicolon tokens) (yes (some_pieces Semicolon (length tokens) tokens (omega arith))) (λ pieces cut. are_texts pieces))
    where
      to : (pieces : List (List Token)) × AreCut Semicolon tokens pieces × Texts pieces → Inside tokens
      to (pieces, cut, (texts, are)) = (texts, (pieces, cut, are))

      from : Inside tokens → (pieces : List (List Token)) × AreCut Semicolon tokens pieces × Texts pieces
      from (texts, (pieces, cut, are)) = (pieces, cut, (texts, are))

  is_raw : (tokens : List Token) → Dec ((raw : Raw) × IsRaw tokens raw)
  is_raw tokens =
      map_dec to from (known_with (IsFrame keywords.Data tokens) (λ frame. Inside frame.inside) (one_frame one keywords.Data tokens) (is_frame one expression within keywords.Data tokens)
      (λ frame is. is_inside frame.inside))
    where
      to : (frame : Frame) × IsFrame keywords.Data tokens frame × Inside frame.inside → (raw : Raw) × IsRaw tokens raw
      to (frame, is, (texts, inside)) = (record { kind = frame.kind; head = frame.head; texts = texts }, record { inside = frame.inside; frame = is; texts = inside })

      from : (raw : Raw) × IsRaw tokens raw → (frame : Frame) × IsFrame keywords.Data tokens frame × Inside frame.inside
      from (raw, h) = (_, h.frame, (raw.texts, h.texts))

  pub every_raw : (tokens : List Token) → (answer : Option Raw) × Decided (IsRaw tokens) answer
  every_raw tokens = answer_of (IsRaw tokens) (is_raw tokens)
