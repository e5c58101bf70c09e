-- Of each token it is known what stands in its place, or that too many tokens are handled for it; and so each line has
-- its macros replaced, or has a first word that is too long.
use Rattle.std.proofs.Common.{◌⊎◌, inl, inr, ℕ, ◌<◌, List, [], ◌∷◌, ◌++◌, map, Ok, Err, refl, subst}
use Rattle.std.specs.Prelude.{nat_le}
use Rattle.std.proofs.lemmas.Bool.{leb-false, leb-true}
use Rattle.rz_core.proofs.Has.{Has}
use Rattle.rz_core.proofs.Tests.{by_test}
use Rattle.rz_lex.specs.Printed.{token_of}
use Rattle.rz_lex.specs.declared.token.Shape.{Shape}
use Rattle.rz_lex.specs.declared.token.Token.{Token}
use Rattle.rz_pre.specs.Expand.{limit, Expansion, ExpandsTo, IsTooLong}
use Rattle.rz_pre.specs.Expanded.{too_long}
use Rattle.rz_pre.specs.Line.{IsReplaced}
use Rattle.rz_pre.specs.Live.{live_in, Row}
use Rattle.rz_pre_laws.proofs.Expands.{every_token_expands}
use Rattle.rz_pre.proofs.One.{one_expansion}

module _ (rows : List Row) where
  abbrev InPlace : Token → Type 0
  InPlace token = ((front : List Token) × ExpandsTo (live_in rows) token front) ⊎ IsTooLong (live_in rows) token

  -- a token has one expansion, for which few enough tokens are handled, or too many
  in_place : (token : Token) → InPlace token
  in_place token = by (every_token_expands rows token.shape)
    where
      by : (shapes : List Shape) × (work : ℕ) × Expansion (live_in rows) token.shape shapes work → InPlace token
      by (shapes, work, is) = by_test (InPlace token) (nat_le work limit)
          (λ few. inl (map (token_of token.mark) shapes, record { shapes = shapes; work = work; expansion = is; few = leb-true work limit few; placed = refl }))
          (λ many. inr (λ others count other. subst (λ (n : ℕ). limit < n) (one_expansion is other).1 (leb-false work limit many)))

  pub every_line_expands : (tokens : List Token) → Has (IsReplaced (live_in rows) tokens)
  every_line_expands [] = (Ok [], refl)
  every_line_expands (token ∷ tokens) = by (in_place token) (every_line_expands tokens)
    where
      by : InPlace token → Has (IsReplaced (live_in rows) tokens) → Has (IsReplaced (live_in rows) (token ∷ tokens))
      by (inl (front, is)) (Ok back, are) = (Ok (front ++ back), (front, back, refl, is, are))
      by (inl (front, is)) (Err fault, long) = (Err fault, inr (front, is, long))
      by (inr long) rest = (Err (too_long token), inl (long, refl))
