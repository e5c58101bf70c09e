-- A file has one answer.
use Rattle.std.proofs.Common.{◌≡◌, ◌⊎◌, ℕ, List, Ok, Err, inl, inr, refl, sym, ap, ◌∙◌}
use Rattle.rz_core.proofs.Has.{has_then, Has}
use Rattle.rz_core.proofs.Once.{once_by, once_then, Once}
use Rattle.rz_core.specs.declared.fault.Fault.{Fault}
use Rattle.rz_lex.specs.Joined.{joined}
use Rattle.rz_lex.specs.Lexed.{Lexes, LexFails}
use Rattle.rz_lex.specs.declared.joined.Placed.{Placed}
use Rattle.rz_lex.specs.declared.token.Token.{Token}
use Rattle.rz_pre.specs.Program.{bad_text, HasText}
use Rattle.rz_pre_source.specs.Source.{IsBadAt, IsTextOf}
use Rattle.rz_catalog_text.specs.Entries.{AreEntries}
use Rattle.rz_catalog_text.specs.Source.{HasEntries, HasTokens, HaveEntries}

-- One at most.

module _ (one_text : (source one other : List ℕ) → IsTextOf source one → IsTextOf source other → one ≡ other)
    (one_bad : (source : List ℕ) (offset other : ℕ) → IsBadAt source offset → IsBadAt source other → offset ≡ other)
    (text_or_bad : (source text : List ℕ) (offset : ℕ) → IsTextOf source text → IsBadAt source offset → ⊥)
    (one_lex : (file : ℕ) (text : List Placed) (tokens others : List Token) → Lexes file text tokens → Lexes file text others → tokens ≡ others)
    (one_fault : (file : ℕ) (text : List Placed) (fault other : Fault) → LexFails file text fault → LexFails file text other → fault ≡ other)
    (lex_or_fail : (file : ℕ) (text : List Placed) (tokens : List Token) (fault : Fault) → Lexes file text tokens → LexFails file text fault → ⊥)
    (one_list : (tokens : List Token) → Once (AreEntries tokens)) (file : ℕ) where
  once_text : (source : List ℕ) → Once (HasText file source)
  once_text source = once_by (HasText file source) (one_text source)
      (λ f g a b. a.2 ∙ ap (bad_text file) (one_bad source a.0 b.0 a.1 b.1) ∙ sym b.2)
      (λ text fault a b. text_or_bad source text b.0 a b.1)

  once_tokens : (text : List ℕ) → Once (HasTokens file text)
  once_tokens text = once_by (HasTokens file text) (one_lex file (joined 1 text)) (one_fault file (joined 1 text)) (lex_or_fail file (joined 1 text))

  pub once_entries : (source : List ℕ) → Once (HasEntries file source)
  once_entries source = once_then (HasText file source) (HaveEntries file) (once_text source)
      (λ text. once_then (HasTokens file text) AreEntries (once_tokens text) one_list)

-- One at least.

module _ (every_text : (source : List ℕ) → ((text : List ℕ) × IsTextOf source text) ⊎ ((offset : ℕ) × IsBadAt source offset))
    (every_lex : (file : ℕ) (text : List Placed) → ((tokens : List Token) × Lexes file text tokens) ⊎ ((fault : Fault) × LexFails file text fault))
    (every_list : (tokens : List Token) → Has (AreEntries tokens)) (file : ℕ) where
  has_text : (source : List ℕ) → Has (HasText file source)
  has_text source = by (every_text source)
    where
      by : ((text : List ℕ) × IsTextOf source text) ⊎ ((offset : ℕ) × IsBadAt source offset) → Has (HasText file source)
      by (inl good) = (Ok good.0, good.1)
      by (inr bad) = (Err (bad_text file bad.0), (bad.0, bad.1, refl))

  has_tokens : (text : List ℕ) → Has (HasTokens file text)
  has_tokens text = by (every_lex file (joined 1 text))
    where
      by : ((tokens : List Token) × Lexes file (joined 1 text) tokens) ⊎ ((fault : Fault) × LexFails file (joined 1 text) fault) → Has (HasTokens file text)
      by (inl good) = (Ok good.0, good.1)
      by (inr bad) = (Err bad.0, bad.1)

  pub has_entries : (source : List ℕ) → Has (HasEntries file source)
  has_entries source = has_then (HasText file source) (HaveEntries file) (has_text source)
      (λ text is. has_then (HasTokens file text) AreEntries (has_tokens text) (λ tokens are. every_list tokens))
