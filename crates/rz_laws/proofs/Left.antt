-- Each late number is that of a piece that is left for later.
use Rattle.std.proofs.Common.{◌≡◌, ℤ, Bool, true, false, List, [], ◌∷◌, ◌++◌, Option, Result, Ok, Err, refl, ap, subst, ◌∙◌}
use Rattle.std.specs.Prelude.{◌+◌, if◌then◌else◌, length, map, nat_abs, nat_lt}
use Rattle.rz_core.specs.Stop.{◌>>=◌}
use Rattle.rz_core.specs.declared.facts.Facts.{Facts}
use Rattle.rz_bits.specs.BitBuf.{zeros}
use Rattle.rz_expr.specs.Environment.{Environment}
use Rattle.rz_expr.specs.Term.{Term}
use Rattle.rz_laws.proofs.Counts.{front_counts}
use Rattle.rz_laws.specs.Flat.{ended, flat_row, nothing_drafted, rows_ended, step_drafted, steps_drafted, within_bodies, Begins, BeginsRows, Drafts, Ends, EndsRows, Lays, Step}
use Rattle.rz_laws.specs.RefusedAt.{IsOfPiece}
use Rattle.rz_types_fields.specs.Field.{PlainBody}
use Rattle.rz_types_fields.specs.Laid.{closing, enter, grown, late_at, later, lay, now, piece_form, too_long, with_form, Draft, Form, LateNumber, Refusal}
use Rattle.rz_types_fields.specs.RowLabels.{RowOf}
use Rattle.rz_types_fields.specs.Piece.{Piece}
use Rattle.rz_types_fields.specs.Spells.{most_bits}
use Rattle.rz_types_fields.specs.declared.field.NumForm.{NumForm}
use Rattle.rz_types_fields.specs.declared.tree.Tree.{Tree}

-- a late number of one of the steps that are drafted after these drafts
record LeftFrom (known : Facts) (drafts : Drafts) (steps : List Step) (one : LateNumber) : Type 0 where
  pub front : List Step
  pub piece : Piece
  pub value : Option Tree
  pub behind : List Step
  pub there : Drafts
  pub are : steps ≡ front ++ Lays piece value ∷ behind
  pub drafted : steps_drafted known drafts front ≡ Ok there
  pub left : piece_form known there.inner piece value ≡ Ok (later one.form one.width one.term)
  pub counted : one.piece ≡ there.inner.piece
  pub at : one.at ≡ length there.inner.bits

later_step : (known : Facts) (drafts : Drafts) (step : Step) (steps : List Step) (next : Drafts) (one : LateNumber)
    → step_drafted known drafts step ≡ Ok next → LeftFrom known next steps one → LeftFrom known drafts (step ∷ steps) one
later_step known drafts step steps next one stepped it = record {
  front = step ∷ it.front;
  piece = it.piece;
  value = it.value;
  behind = it.behind;
  there = it.there;
  are = ap (λ (others : List Step). step ∷ others) it.are;
  drafted = ap (λ (r : Result Drafts Refusal). r >>= λ next. steps_drafted known next it.front) stepped ∙ it.drafted;
  left = it.left;
  counted = it.counted;
  at = it.at;
}

module _ (So : LateNumber → Type 0) where
  -- each of late numbers
  abbrev Each : List LateNumber → Type 0
  Each [] = Unit {0}
  Each (one ∷ others) = So one × Each others

  each_and : (front behind : List LateNumber) → Each front → Each behind → Each (front ++ behind)
  each_and [] behind is also = also
  each_and (one ∷ front) behind is also = (is.0, each_and front behind is.1 also)

  each_at : (before : List LateNumber) (one : LateNumber) (others : List LateNumber) → Each (before ++ one ∷ others) → So one
  each_at [] one others is = is.0
  each_at (first ∷ before) one others is = each_at before one others is.1

  -- each of the late numbers of a draft, and of drafts
  abbrev Around : List Draft → Type 0
  Around [] = Unit {0}
  Around (outer ∷ others) = Each outer.numbers × Around others

  abbrev Drafted : Drafts → Type 0
  Drafted drafts = Each drafts.inner.numbers × Around drafts.around

  abbrev Laid : Result Draft Refusal → Type 0
  Laid (Ok next) = Each next.numbers
  Laid (Err fault) = Unit {0}

  abbrev Found : Result Drafts Refusal → Type 0
  Found (Ok next) = Drafted next
  Found (Err fault) = Unit {0}

  found_is : (found : Result Drafts Refusal) (next : Drafts) → Found found → found ≡ Ok next → Drafted next
  found_is found next is same = subst Found same is

  either_laid : (test : Bool) (fault : Refusal) (next : Draft) → Each next.numbers → Laid (if test then Err fault else Ok next)
  either_laid true fault next is = tt
  either_laid false fault next is = is

  form_laid : (draft : Draft) (piece : Piece) (form : Form) → Each draft.numbers
      → ((kind : NumForm) (width : ℤ) (term : Term) → form ≡ later kind width term → So (late_at draft kind width term)) → Laid (with_form draft piece form)
  form_laid draft piece (now bits) is left =
      either_laid (nat_lt most_bits (length draft.bits + length bits)) (too_long draft (length draft.bits + length bits))
      (grown piece draft bits false []) (each_and draft.numbers [] is tt)
  form_laid draft piece (later form width term) is left =
      either_laid (nat_lt most_bits (length draft.bits + nat_abs width)) (too_long draft (length draft.bits + nat_abs width))
      (grown piece draft (zeros (nat_abs width)) true (late_at draft form width term ∷ []))
      (each_and draft.numbers (late_at draft form width term ∷ []) is (left form width term refl, tt))

  module _ (ends : (which : Option RowOf) (body : PlainBody) (own : Environment) (one : LateNumber) → So one → So (closing which body own one)) where
    each_closed : (which : Option RowOf) (body : PlainBody) (own : Environment) (numbers : List LateNumber) → Each numbers → Each (map (closing which body own) numbers)
    each_closed which body own [] is = tt
    each_closed which body own (one ∷ others) is = (ends which body own one is.0, each_closed which body own others is.1)

    ended_drafted : (which : Option RowOf) (body : PlainBody) (inner : Draft) (around : List Draft) (rows : List (List Environment)) → Each inner.numbers → Around around → Drafted (ended which body inner around rows)
    ended_drafted which body inner [] rows is also = (is, tt)
    ended_drafted which body inner (outer ∷ others) rows is also =
        (each_and outer.numbers (map (closing which body inner.known) inner.numbers) also.0 (each_closed which body inner.known inner.numbers is), also.1)

    rows_drafted : (row : PlainBody) (inner : Draft) (around : List Draft) (rows : List (List Environment)) → Each inner.numbers → Around around → Drafted (rows_ended row inner around rows)
    rows_drafted row inner around [] is also = (is, also)
    rows_drafted row inner around (nearest ∷ others) is also = (is, also)

    module _ (known : Facts) where
      -- what is drafted after a piece has such late numbers too
      abbrev GoesOn : Drafts → List Step → Type 0
      GoesOn drafts steps = (next : Draft) → Each next.numbers → ((one : LateNumber) → LeftFrom known (within_bodies drafts next) steps one → So one)
          → Found (steps_drafted known (within_bodies drafts next) steps)

      steps_left : (steps : List Step) (drafts : Drafts) → Drafted drafts → ((one : LateNumber) → LeftFrom known drafts steps one → So one)
          → Found (steps_drafted known drafts steps)
      steps_left [] drafts is left = is
      steps_left (Lays piece value ∷ steps) drafts is left =
          by (λ next is left. steps_left steps (within_bodies drafts next) (is, is_around) left) (piece_form known drafts.inner piece value) refl
        where
          is_around : Around drafts.around
          is_around = is.1

          goes_on : GoesOn drafts steps
              → (found : Result Draft Refusal) → lay known drafts.inner piece value ≡ found → Laid found
              → Found ((found >>= λ next. Ok (within_bodies drafts next)) >>= λ next. steps_drafted known next steps)
          goes_on more (Err fault) was is = tt
          goes_on more (Ok next) was is =
              more next is (λ one it. left one (later_step known drafts (Lays piece value) steps (within_bodies drafts next) one
              (ap (λ (r : Result Draft Refusal). r >>= λ next. Ok (within_bodies drafts next)) was) it))

          by : GoesOn drafts steps
              → (found : Result Form Refusal) → piece_form known drafts.inner piece value ≡ found
              → Found (((found >>= with_form drafts.inner piece) >>= λ next. Ok (within_bodies drafts next)) >>= λ next. steps_drafted known next steps)
          by more (Err fault) was = tt
          by more (Ok form) was =
              goes_on more (with_form drafts.inner piece form) (ap (λ (r : Result Form Refusal). r >>= with_form drafts.inner piece) was)
              (form_laid drafts.inner piece form is.0 (λ kind width term same. left (late_at drafts.inner kind width term) (record {
                front = [];
                piece = piece;
                value = value;
                behind = steps;
                there = drafts;
                are = refl;
                drafted = refl;
                left = was ∙ ap Ok same;
                counted = refl;
                at = refl;
              })))
      steps_left (Begins which body values ∷ steps) drafts is left =
          let next : Drafts = record { inner = enter which body values drafts.inner; around = drafts.inner ∷ drafts.around; ends = drafts.ends } in
          steps_left steps next (tt, is) (λ one it. left one (later_step known drafts (Begins which body values) steps next one refl it))
      steps_left (Ends which body ∷ steps) drafts is left =
          let next : Drafts = ended which body drafts.inner drafts.around drafts.ends in
          steps_left steps next (ended_drafted which body drafts.inner drafts.around drafts.ends is.0 is.1) (λ one it. left one (later_step known drafts (Ends which body) steps next one refl it))
      steps_left (BeginsRows ∷ steps) drafts is left =
          let next : Drafts = record { inner = drafts.inner; around = drafts.around; ends = [] ∷ drafts.ends } in
          steps_left steps next (is.0, is.1) (λ one it. left one (later_step known drafts BeginsRows steps next one refl it))
      steps_left (EndsRows row ∷ steps) drafts is left =
          let next : Drafts = rows_ended row drafts.inner drafts.around drafts.ends in
          steps_left steps next (rows_drafted row drafts.inner drafts.around drafts.ends is.0 is.1) (λ one it. left one (later_step known drafts (EndsRows row) steps next one refl it))

module _ (known : Facts) (body : PlainBody) (row : List Tree) where
  abbrev Of_piece : LateNumber → Type 0
  Of_piece one = IsOfPiece known body row one

  closed_so : (which : Option RowOf) (within : PlainBody) (own : Environment) (one : LateNumber) → Of_piece one → Of_piece (closing which within own one)
  closed_so which within own one it = record {
    front = it.front;
    piece = it.piece;
    value = it.value;
    behind = it.behind;
    drafts = it.drafts;
    steps = it.steps;
    drafted = it.drafted;
    left = it.left;
    counted = it.counted;
    at = it.at;
  }

  from_front : (one : LateNumber) → LeftFrom known nothing_drafted (flat_row body row) one → Of_piece one
  from_front one it = record {
    front = it.front;
    piece = it.piece;
    value = it.value;
    behind = it.behind;
    drafts = it.there;
    steps = it.are;
    drafted = it.drafted;
    left = it.left;
    counted = it.counted ∙ front_counts known it.front it.there it.drafted;
    at = it.at;
  }

  -- a late number of the drafts of the row
  pub number_of_piece : (drafts : Drafts) (before : List LateNumber) (one : LateNumber) (others : List LateNumber)
      → steps_drafted known nothing_drafted (flat_row body row) ≡ Ok drafts → drafts.inner.numbers ≡ before ++ one ∷ others → IsOfPiece known body row one
  number_of_piece drafts before one others drafted are =
      let all : Drafted Of_piece drafts = found_is Of_piece (steps_drafted known nothing_drafted (flat_row body row)) drafts
      (steps_left Of_piece closed_so known (flat_row body row) nothing_drafted (tt, tt) from_front) drafted in
      each_at Of_piece before one others (subst (Each Of_piece) are all.0)
