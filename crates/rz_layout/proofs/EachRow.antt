-- The rows of an array that are laid, the first and the others.
use Rattle.std.proofs.Common.{◌≡◌, ℕ, suc, ◌+◌, List, [], ◌∷◌, length, Option, Result, Ok, Err, refl, sym, ap, ◌∙◌}
use Rattle.rz_core.specs.Stop.{◌>>=◌}
use Rattle.rz_core.specs.declared.facts.Facts.{Facts}
use Rattle.rz_types_fields.specs.declared.tree.Tree.{Tree}
use Rattle.rz_types_fields.specs.Field.{PlainBody}
use Rattle.rz_types_fields.specs.Laid.{and_row, array_laid, behind_rows, body_laid, enter, leave, row_ended, rows_laid, AllRows, Draft, Ended, Refusal}
use Rattle.rz_types_fields.specs.RowLabels.{RowOf}
use Rattle.rz_layout.proofs.Filled.{chained, same_ok}
use Rattle.rz_layout.proofs.Texts.{good}

-- A row.

abbrev pub row_end : Option RowOf → PlainBody → Draft → Draft → Ended
row_end which row draft inner = record { draft = leave which row draft inner; own = inner.known }

-- what is laid of its fields
pub record RowParts (known : Facts) (which : Option RowOf) (row : PlainBody) (draft : Draft) (line : List Tree) (one : Ended) : Type 0 where
  pub inner : Draft
  pub is : body_laid known (enter which row line draft) row line ≡ Ok inner
  pub ended : row_end which row draft inner ≡ one

pub row_parts : (known : Facts) (which : Option RowOf) (row : PlainBody) (draft : Draft) (line : List Tree) (one : Ended) → row_ended known which row draft line ≡ Ok one → RowParts known which row draft line one
row_parts known which row draft line one is =
    let it = chained (body_laid known (enter which row line draft) row line) (λ next. good (row_end which row draft next)) one is in
    record { inner = it.value; is = it.is; ended = same_ok (row_end which row draft it.value) one it.leads }

-- Rows.

abbrev pub drafted : Result AllRows Refusal → Result Draft Refusal
drafted result = result >>= λ rows. Ok rows.draft

abbrev pub row_drafted : Result Ended Refusal → Result Draft Refusal
row_drafted result = result >>= λ one. Ok one.draft

module _ (lay : ℕ → Draft → List Tree → Result Ended Refusal) where
  pub record RowsParts (number : ℕ) (draft : Draft) (line : List Tree) (lines : List (List Tree)) (all : AllRows) : Type 0 where
    pub one : Ended
    pub others : AllRows
    pub first : lay number draft line ≡ Ok one
    pub more : rows_laid lay (number + 1) one.draft lines ≡ Ok others
    pub whole : and_row one others ≡ all

  pub rows_parts : (number : ℕ) (draft : Draft) (line : List Tree) (lines : List (List Tree)) (all : AllRows) → rows_laid lay number draft (line ∷ lines) ≡ Ok all → RowsParts number draft line lines all
  rows_parts number draft line lines all is =
      let one = chained (lay number draft line) (λ one. rows_laid lay (number + 1) one.draft lines >>= λ others. good (and_row one others)) all is in
      let others = chained (rows_laid lay (number + 1) one.value.draft lines) (λ others. good (and_row one.value others)) all one.leads in
      record { one = one.value; others = others.value; first = one.is; more = others.is; whole = same_ok (and_row one.value others.value) all others.leads }

  -- there is an end of each
  pub ends_length : (number : ℕ) (draft : Draft) (lines : List (List Tree)) (all : AllRows) → rows_laid lay number draft lines ≡ Ok all → length all.ends ≡ length lines
  ends_length number draft [] all is = ap (λ (rows : AllRows). length rows.ends) (sym (same_ok (record { draft = draft; ends = [] }) all is))
  ends_length number draft (line ∷ lines) all is =
      let it = rows_parts number draft line lines all is in
      ap (λ (rows : AllRows). length rows.ends) (sym it.whole) ∙ ap suc (ends_length (number + 1) it.one.draft lines it.others it.more)

  pub record ArrayParts (row : PlainBody) (lines : List (List Tree)) (draft next : Draft) : Type 0 where
    pub rows : AllRows
    pub is : rows_laid lay 1 draft lines ≡ Ok rows
    pub behind : behind_rows row rows ≡ next

  pub array_parts : (row : PlainBody) (lines : List (List Tree)) (draft next : Draft) → array_laid lay row lines draft ≡ Ok next → ArrayParts row lines draft next
  array_parts row lines draft next is =
      let it = chained (rows_laid lay 1 draft lines) (λ rows. good (behind_rows row rows)) next is in
      record { rows = it.value; is = it.is; behind = same_ok (behind_rows row it.value) next it.leads }

-- the drafts of rows are those of the first and then of the others
others_drafted : (one : Ended) (rest : Result AllRows Refusal) → drafted (rest >>= λ others. Ok (and_row one others)) ≡ drafted rest
others_drafted one (Ok others) = refl
others_drafted one (Err fault) = refl

pub rows_drafted : (first : Result Ended Refusal) (rest : Draft → Result AllRows Refusal)
    → drafted (first >>= λ one. rest one.draft >>= λ others. Ok (and_row one others)) ≡ (row_drafted first >>= λ next. drafted (rest next))
rows_drafted (Ok one) rest = others_drafted one (rest one.draft)
rows_drafted (Err fault) rest = refl
