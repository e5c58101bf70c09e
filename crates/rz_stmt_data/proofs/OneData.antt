-- Tokens are one `data` statement at most.
use Rattle.std.proofs.Common.{◌≡◌, List, [], ◌∷◌, sym, ap, subst, ◌∙◌}
use Rattle.rz_expr.proofs.OneTerm.{OneExpression}
use Rattle.rz_words.specs.declared.keyword.Keyword.TheVariants as keywords
use Rattle.rz_lex.specs.declared.token.Token.{Token}
use Rattle.rz_stmt_brackets.proofs.OneCut.{one_cut}
use Rattle.rz_stmt_brackets.specs.declared.pieces.Divider.TheVariants.{Semicolon}
use Rattle.rz_types_fields.specs.Text.{PlainPart}
use Rattle.rz_stmt_data.proofs.Frames.{one_frame}
use Rattle.rz_stmt_data.proofs.OneText.{one_parts}
use Rattle.rz_stmt_data.specs.Frame.{Frame}
use Rattle.rz_stmt_data.specs.Raw.{AreTexts, IsInside, IsMaybeText, IsRaw, Raw}

module _ (one : OneExpression) where
  one_maybe : (tokens : List Token) (a b : List PlainPart) → IsMaybeText tokens a → IsMaybeText tokens b → a ≡ b
  one_maybe [] a b is also = is ∙ sym also
  one_maybe (token ∷ tokens) a b is also = one_parts one (token ∷ tokens) a b is.are also.are

  one_texts : (pieces : List (List Token)) (a b : List PlainPart) → AreTexts pieces a → AreTexts pieces b → a ≡ b
  one_texts [] a b is also = absurd is
  one_texts (piece ∷ []) a b is also = one_maybe piece a b is also
  one_texts (piece ∷ [] ∷ []) a b is also = one_maybe piece a b is also
  one_texts (piece ∷ (token ∷ tokens) ∷ []) a b is also = absurd is
  one_texts (piece ∷ [] ∷ other ∷ others) a b is also = absurd is
  one_texts (piece ∷ (token ∷ tokens) ∷ other ∷ others) a b is also = absurd is

  one_inside : (tokens : List Token) (a b : List PlainPart) → IsInside tokens a → IsInside tokens b → a ≡ b
  one_inside tokens a b is also =
      one_texts is.0 a b is.2 (subst (λ (ps : List (List Token)). AreTexts ps b) (sym (one_cut Semicolon tokens is.0 also.0 is.1 also.1)) also.2)

  pub one_raw : (tokens : List Token) (a b : Raw) → IsRaw tokens a → IsRaw tokens b → a ≡ b
  one_raw tokens a b is also =
      let same = one_frame one keywords.Data tokens _ _ is.frame also.frame in
      let texts = one_inside is.inside a.texts b.texts is.texts (subst (λ (ts : List Token). IsInside ts b.texts) (sym (ap (λ (f : Frame). f.inside) same)) also.texts) in
      λ i. record { kind = (same i).kind; head = (same i).head; texts = texts i }
