-- The number of a draft is the number of pieces that are laid.
use Rattle.std.proofs.Common.{◌≡◌, ℕ, ◌+◌, ◌≤◌, Bool, true, false, List, [], ◌∷◌, Option, Result, Ok, Err, refl, ap, sym, subst, ◌∙◌, arith}
use Rattle.std.proofs.lemmas.Bool.Decides.{nat_tests}
use Rattle.std.specs.Prelude.{if◌then◌else◌, min, nat_lt, length, nat_abs}
use Rattle.rz_core.specs.Stop.{◌>>=◌}
use Rattle.rz_core.specs.declared.facts.Facts.{Facts}
use Rattle.rz_bits.specs.BitBuf.{zeros}
use Rattle.rz_expr.specs.Environment.{Environment}
use Rattle.rz_laws.specs.Flat.{ended, nothing_drafted, pieces_in, rows_ended, steps_drafted, within_bodies, Begins, BeginsRows, Drafts, Ends, EndsRows, Lays, Step}
use Rattle.rz_types_fields.specs.Field.{PlainBody}
use Rattle.rz_types_fields.specs.Laid.{enter, grown, late_at, later, lay, most_kept, now, one_more, piece_form, too_long, with_form, Draft, Form, Refusal}
use Rattle.rz_types_fields.specs.RowLabels.{RowOf}
use Rattle.rz_types_fields.specs.Piece.{Piece}
use Rattle.rz_types_fields.specs.Spells.{most_bits}
use Rattle.rz_types_fields.specs.declared.tree.Tree.{Tree}

-- what is laid, where something is, has this number of pieces
abbrev Counts : ℕ → Result Draft Refusal → Type 0
Counts count (Ok next) = next.piece ≡ count
Counts count (Err fault) = Unit {0}

either_counts : (count : ℕ) (test : Bool) (fault : Refusal) (next : Draft) → next.piece ≡ count → Counts count (if test then Err fault else Ok next)
either_counts count true fault next is = tt
either_counts count false fault next is = is

then_counts : {X : Type 0} (count : ℕ) (first : Result X Refusal) (next : X → Result Draft Refusal) → ((x : X) → Counts count (next x)) → Counts count (first >>= next)
then_counts count (Ok x) next each = each x
then_counts count (Err fault) next each = tt

form_counts : (draft : Draft) (piece : Piece) (form : Form) → Counts (one_more draft.piece) (with_form draft piece form)
form_counts draft piece (now bits) =
    either_counts (one_more draft.piece) (nat_lt most_bits (length draft.bits + length bits)) (too_long draft (length draft.bits + length bits))
    (grown piece draft bits false []) refl
form_counts draft piece (later form width term) =
    either_counts (one_more draft.piece) (nat_lt most_bits (length draft.bits + nat_abs width)) (too_long draft (length draft.bits + nat_abs width))
    (grown piece draft (zeros (nat_abs width)) true (late_at draft form width term ∷ [])) refl

lay_counts : (known : Facts) (draft : Draft) (piece : Piece) (value : Option Tree) → Counts (one_more draft.piece) (lay known draft piece value)
lay_counts known draft piece value = then_counts (one_more draft.piece) (piece_form known draft piece value) (with_form draft piece) (form_counts draft piece)

-- one more, at most the most
abbrev next_up : ℕ → ℕ → ℕ
next_up most count = if nat_lt count most then count + 1 else count

abbrev Capped : ℕ → ℕ → ℕ → Type 0
Capped most count more = (min (next_up most count + more) most ≡ min (count + (more + 1)) most) × (next_up most count ≤ most)

capped : (most count more : ℕ) → count ≤ most → Capped most count more
capped most count more within = (grind (arith, nat_tests), grind (arith, nat_tests))

-- what is drafted, where something is, has so many pieces more
abbrev Has : ℕ → Result Drafts Refusal → Type 0
Has count (Ok next) = next.inner.piece ≡ count
Has count (Err fault) = Unit {0}

has_same : (count other : ℕ) (drafted : Result Drafts Refusal) → count ≡ other → Has count drafted → Has other drafted
has_same count other (Ok next) same is = is ∙ same
has_same count other (Err fault) same is = tt

ended_has : (which : Option RowOf) (body : PlainBody) (inner : Draft) (around : List Draft) (ends : List (List Environment)) → (ended which body inner around ends).inner.piece ≡ inner.piece
ended_has which body inner [] ends = refl
ended_has which body inner (outer ∷ others) ends = refl

rows_ended_has : (row : PlainBody) (inner : Draft) (around : List Draft) (ends : List (List Environment)) → (rows_ended row inner around ends).inner.piece ≡ inner.piece
rows_ended_has row inner around [] = refl
rows_ended_has row inner around (nearest ∷ others) = refl

has_is : (count : ℕ) (found : Result Drafts Refusal) (next : Drafts) → Has count found → found ≡ Ok next → next.inner.piece ≡ count
has_is count (Ok other) next is same =
    let one : next ≡ other = cc in
    ap (λ (drafts : Drafts). drafts.inner.piece) one ∙ is
has_is count (Err fault) next is same = absurd cc

module _ (known : Facts) where
  -- after a step that lays nothing
  same_count : (steps : List Step) (drafts next : Drafts) → drafts.inner.piece ≤ most_kept → next.inner.piece ≡ drafts.inner.piece
      → (next.inner.piece ≤ most_kept → Has (min (next.inner.piece + pieces_in steps) most_kept) (steps_drafted known next steps))
      → Has (min (drafts.inner.piece + pieces_in steps) most_kept) (steps_drafted known next steps)
  same_count steps drafts next within same more =
      has_same (min (next.inner.piece + pieces_in steps) most_kept) (min (drafts.inner.piece + pieces_in steps) most_kept) (steps_drafted known next steps)
      (ap (λ (c : ℕ). min (c + pieces_in steps) most_kept) same) (more (subst (λ (c : ℕ). c ≤ most_kept) (sym same) within))

  steps_count : (steps : List Step) (drafts : Drafts) → drafts.inner.piece ≤ most_kept → Has (min (drafts.inner.piece + pieces_in steps) most_kept) (steps_drafted known drafts steps)
  steps_count [] drafts within = omega arith
  steps_count (Lays piece value ∷ steps) drafts within =
      goes_on (λ next within. steps_count steps (within_bodies drafts next) within) (lay known drafts.inner piece value) (lay_counts known drafts.inner piece value)
    where
      step : Capped most_kept drafts.inner.piece (pieces_in steps)
      step = capped most_kept drafts.inner.piece (pieces_in steps) within

      goes_on : ((next : Draft) → next.piece ≤ most_kept → Has (min (next.piece + pieces_in steps) most_kept) (steps_drafted known (within_bodies drafts next) steps))
          → (first : Result Draft Refusal) → Counts (one_more drafts.inner.piece) first
          → Has (min (drafts.inner.piece + (pieces_in steps + 1)) most_kept) ((first >>= λ next. Ok (within_bodies drafts next)) >>= λ next. steps_drafted known next steps)
      goes_on more (Err fault) is = tt
      goes_on more (Ok next) is =
          has_same (min (next.piece + pieces_in steps) most_kept) (min (drafts.inner.piece + (pieces_in steps + 1)) most_kept)
          (steps_drafted known (within_bodies drafts next) steps) (ap (λ (c : ℕ). min (c + pieces_in steps) most_kept) is ∙ step.0)
          (more next (subst (λ (c : ℕ). c ≤ most_kept) (sym is) step.1))
  steps_count (Begins which body values ∷ steps) drafts within =
      steps_count steps (record { inner = enter which body values drafts.inner; around = drafts.inner ∷ drafts.around; ends = drafts.ends }) within
  steps_count (Ends which body ∷ steps) drafts within =
      let next : Drafts = ended which body drafts.inner drafts.around drafts.ends in
      same_count steps drafts next within (ended_has which body drafts.inner drafts.around drafts.ends) (λ within. steps_count steps next within)
  steps_count (BeginsRows ∷ steps) drafts within = steps_count steps (record { inner = drafts.inner; around = drafts.around; ends = [] ∷ drafts.ends }) within
  steps_count (EndsRows row ∷ steps) drafts within =
      let next : Drafts = rows_ended row drafts.inner drafts.around drafts.ends in
      same_count steps drafts next within (rows_ended_has row drafts.inner drafts.around drafts.ends) (λ within. steps_count steps next within)

  pub front_counts : (front : List Step) (drafts : Drafts) → steps_drafted known nothing_drafted front ≡ Ok drafts → drafts.inner.piece ≡ min (pieces_in front) most_kept
  front_counts front drafts is =
      let counted : drafts.inner.piece ≡ min (0 + pieces_in front) most_kept = has_is (min (0 + pieces_in front) most_kept) (steps_drafted known nothing_drafted front) drafts (steps_count front nothing_drafted (omega arith)) is in
      omega (arith, counted)
