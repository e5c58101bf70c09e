-- The first refusal of steps, and of late numbers.
use Rattle.std.proofs.Common.{◌≡◌, ℕ, Bool, List, [], ◌∷◌, ◌++◌, Option, None, Result, Ok, Err, refl, ap, sym, ◌∙◌, inl, inr, ⊎_elim}
use Rattle.std.specs.Prelude.{◌↔◌}
use Rattle.rz_core.specs.Stop.{◌>>=◌}
use Rattle.rz_core.specs.declared.facts.Facts.{Facts}
use Rattle.rz_bits.specs.Bits.{bytes_of}
use Rattle.rz_bits.specs.BitBuf.{filled}
use Rattle.rz_laws.proofs.Counts.{front_counts}
use Rattle.rz_laws.proofs.Drafting.{parted, row_drafted}
use Rattle.rz_laws.proofs.Left.{number_of_piece}
use Rattle.rz_laws.proofs.Where.{late_at_its_piece, lay_at, stands}
use Rattle.rz_laws.specs.Flat.{alone, ended, flat_row, nothing_drafted, rows_ended, step_drafted, steps_drafted, within_bodies, Begins, BeginsRows, Drafts, Ends, EndsRows, Lays, Step}
use Rattle.rz_laws.specs.RefusedAt.{IsRefusedAt, IsRefusedNumber, IsRefusedPiece}
use Rattle.rz_types_fields.specs.Field.{PlainBody}
use Rattle.rz_types_fields.specs.Laid.{enter, fill, laid, late_bits, lay, nothing_laid, patched, row_laid, Draft, LateNumber, Refusal}
use Rattle.rz_types_fields.specs.Passed.{outside}
use Rattle.rz_types_fields.specs.Piece.{Piece}
use Rattle.rz_types_fields.specs.declared.tree.Tree.{Tree}

-- The first piece that isn't laid.
record FirstPiece (known : Facts) (drafts : Drafts) (steps : List Step) (fault : Refusal) : Type 0 where
  pub front : List Step
  pub piece : Piece
  pub value : Option Tree
  pub behind : List Step
  pub there : Drafts
  pub are : steps ≡ front ++ Lays piece value ∷ behind
  pub drafted : steps_drafted known drafts front ≡ Ok there
  pub refused : lay known there.inner piece value ≡ Err fault

module _ (known : Facts) (fault : Refusal) where
  one_before : (drafts : Drafts) (step : Step) (steps : List Step) (next : Drafts) → step_drafted known drafts step ≡ Ok next
      → FirstPiece known next steps fault → FirstPiece known drafts (step ∷ steps) fault
  one_before drafts step steps next stepped it = record {
    front = step ∷ it.front;
    piece = it.piece;
    value = it.value;
    behind = it.behind;
    there = it.there;
    are = ap (λ (others : List Step). step ∷ others) it.are;
    drafted = ap (λ (r : Result Drafts Refusal). r >>= λ next. steps_drafted known next it.front) stepped ∙ it.drafted;
    refused = it.refused;
  }

  first_piece : (steps : List Step) (drafts : Drafts) → steps_drafted known drafts steps ≡ Err fault → FirstPiece known drafts steps fault
  first_piece [] drafts is = absurd cc
  first_piece (Lays piece value ∷ steps) drafts is = by (λ next is. first_piece steps (within_bodies drafts next) is) (lay known drafts.inner piece value) refl is
    where
      by : ((next : Draft) → steps_drafted known (within_bodies drafts next) steps ≡ Err fault → FirstPiece known (within_bodies drafts next) steps fault) → (found : Result Draft Refusal) → lay known drafts.inner piece value ≡ found
          → ((found >>= λ next. Ok (within_bodies drafts next)) >>= λ next. steps_drafted known next steps) ≡ Err fault → FirstPiece known drafts (Lays piece value ∷ steps) fault
      by more (Err other) was is = record { front = []; piece = piece; value = value; behind = steps; there = drafts; are = refl; drafted = refl; refused = was ∙ cc is }
      by more (Ok next) was is =
          one_before drafts (Lays piece value) steps (within_bodies drafts next) (ap (λ (r : Result Draft Refusal). r >>= λ next. Ok (within_bodies drafts next)) was) (more next is)
  first_piece (Begins which body values ∷ steps) drafts is =
      let next : Drafts = record { inner = enter which body values drafts.inner; around = drafts.inner ∷ drafts.around; ends = drafts.ends } in
      one_before drafts (Begins which body values) steps next refl (first_piece steps next is)
  first_piece (Ends which body ∷ steps) drafts is =
      let next : Drafts = ended which body drafts.inner drafts.around drafts.ends in one_before drafts (Ends which body) steps next refl (first_piece steps next is)
  first_piece (BeginsRows ∷ steps) drafts is =
      let next : Drafts = record { inner = drafts.inner; around = drafts.around; ends = [] ∷ drafts.ends } in one_before drafts BeginsRows steps next refl (first_piece steps next is)
  first_piece (EndsRows row ∷ steps) drafts is =
      let next : Drafts = rows_ended row drafts.inner drafts.around drafts.ends in one_before drafts (EndsRows row) steps next refl (first_piece steps next is)

  piece_first : (drafts : Drafts) (front : List Step) (piece : Piece) (value : Option Tree) (behind : List Step) (there : Drafts)
      → steps_drafted known drafts front ≡ Ok there → lay known there.inner piece value ≡ Err fault
      → steps_drafted known drafts (front ++ Lays piece value ∷ behind) ≡ Err fault
  piece_first drafts front piece value behind there drafted refused =
      parted known front (Lays piece value ∷ behind) drafts
      ∙ ap (λ (r : Result Drafts Refusal). r >>= λ next. steps_drafted known next (Lays piece value ∷ behind)) drafted
      ∙ ap (λ (r : Result Draft Refusal). (r >>= λ next. Ok (within_bodies there next)) >>= λ next. steps_drafted known next behind) refused

-- The first late number without bits.
record FirstNumber (known : Facts) (numbers : List LateNumber) (bits : List Bool) (fault : Refusal) : Type 0 where
  pub before : List LateNumber
  pub one : LateNumber
  pub others : List LateNumber
  pub there : List Bool
  pub are : numbers ≡ before ++ one ∷ others
  pub filled : fill known outside before bits ≡ Ok there
  pub refused : late_bits known outside one there ≡ Err fault

module _ (known : Facts) (fault : Refusal) where
  first_number : (numbers : List LateNumber) (bits : List Bool) → fill known outside numbers bits ≡ Err fault → FirstNumber known numbers bits fault
  first_number [] bits is = absurd cc
  first_number (one ∷ others) bits is =
      by (λ own is. first_number others (patched one.at own bits) is) (late_bits known outside one bits) refl is
    where
      by : ((own : List Bool) → fill known outside others (patched one.at own bits) ≡ Err fault → FirstNumber known others (patched one.at own bits) fault) → (found : Result (List Bool) Refusal) → late_bits known outside one bits ≡ found
          → (found >>= λ own. fill known outside others (patched one.at own bits)) ≡ Err fault → FirstNumber known (one ∷ others) bits fault
      by more (Err other) was is = record { before = []; one = one; others = others; there = bits; are = refl; filled = refl; refused = was ∙ is }
      by more (Ok own) was is =
          let it : FirstNumber known others (patched one.at own bits) fault = more own is in
          record {
            before = one ∷ it.before;
            one = it.one;
            others = it.others;
            there = it.there;
            are = ap (λ (more : List LateNumber). one ∷ more) it.are;
            filled = ap (λ (r : Result (List Bool) Refusal). r >>= λ own. fill known outside it.before (patched one.at own bits)) was ∙ it.filled;
            refused = it.refused;
          }

  number_first : (before : List LateNumber) (one : LateNumber) (others : List LateNumber) (bits there : List Bool)
      → fill known outside before bits ≡ Ok there → late_bits known outside one there ≡ Err fault → fill known outside (before ++ one ∷ others) bits ≡ Err fault
  number_first [] one others bits there filled refused =
      ap (λ (at : List Bool). fill known outside (one ∷ others) at) (cc filled)
      ∙ ap (λ (r : Result (List Bool) Refusal). r >>= λ own. fill known outside others (patched one.at own there)) refused
  number_first (first ∷ before) one others bits there filled refused =
      by (λ own filled. number_first before one others (patched first.at own bits) there filled refused) (late_bits known outside first bits) filled
    where
      by : ((own : List Bool) → fill known outside before (patched first.at own bits) ≡ Ok there → fill known outside (before ++ one ∷ others) (patched first.at own bits) ≡ Err fault)
          → (found : Result (List Bool) Refusal) → (found >>= λ own. fill known outside before (patched first.at own bits)) ≡ Ok there
          → (found >>= λ own. fill known outside (before ++ one ∷ others) (patched first.at own bits)) ≡ Err fault
      by more (Ok own) filled = more own filled
      by more (Err other) filled = absurd cc

-- The refusal of a row.

abbrev behind_draft : Facts → Draft → Result (List ℕ) Refusal
behind_draft known draft = fill known outside draft.numbers draft.bits >>= λ bits. Ok (bytes_of (filled 8 bits))

module _ (known : Facts) (body : PlainBody) (row : List Tree) (fault : Refusal) where
  refused_piece : row_laid known None body nothing_laid row ≡ Err fault → IsRefusedPiece known body row fault
  refused_piece is =
      let it : FirstPiece known nothing_drafted (flat_row body row) fault = first_piece known fault (flat_row body row) nothing_drafted (row_drafted known body row ∙ ap alone is) in
      record {
        front = it.front;
        piece = it.piece;
        value = it.value;
        behind = it.behind;
        drafts = it.there;
        steps = it.are;
        drafted = it.drafted;
        refused = it.refused;
        at = stands it.there.inner.piece (lay known it.there.inner it.piece it.value) fault (lay_at known it.there.inner it.piece it.value) it.refused
            ∙ front_counts known it.front it.there it.drafted;
      }

  refused_number : (draft : Draft) → row_laid known None body nothing_laid row ≡ Ok draft → fill known outside draft.numbers draft.bits ≡ Err fault → IsRefusedNumber known body row fault
  refused_number draft was is =
      let it : FirstNumber known draft.numbers draft.bits fault = first_number known fault draft.numbers draft.bits is in
      record {
        drafts = record { inner = draft; around = []; ends = [] };
        before = it.before;
        one = it.one;
        others = it.others;
        bits = it.there;
        drafted = row_drafted known body row ∙ ap alone was;
        numbers = it.are;
        of_piece = number_of_piece known body row (record { inner = draft; around = []; ends = [] }) it.before it.one it.others (row_drafted known body row ∙ ap alone was) it.are;
        filled = it.filled;
        refused = it.refused;
        at = stands it.one.piece (late_bits known outside it.one it.there) fault (late_at_its_piece known it.one it.there) it.refused;
      }

  to : laid known body row ≡ Err fault → IsRefusedAt known body row fault
  to is = by (row_laid known None body nothing_laid row) refl is
    where
      by_numbers : (draft : Draft) → row_laid known None body nothing_laid row ≡ Ok draft → (found : Result (List Bool) Refusal) → fill known outside draft.numbers draft.bits ≡ found
          → (found >>= λ bits. Ok (bytes_of (filled 8 bits))) ≡ Err fault → IsRefusedAt known body row fault
      by_numbers draft was (Ok bits) filled is = absurd cc
      by_numbers draft was (Err other) filled is = inr (refused_number draft was (filled ∙ cc is))

      by : (found : Result Draft Refusal) → row_laid known None body nothing_laid row ≡ found → (found >>= behind_draft known) ≡ Err fault → IsRefusedAt known body row fault
      by (Ok draft) was is = by_numbers draft was (fill known outside draft.numbers draft.bits) refl is
      by (Err other) was is = inl (refused_piece (was ∙ cc is))

  from_piece : IsRefusedPiece known body row fault → laid known body row ≡ Err fault
  from_piece it = by (row_laid known None body nothing_laid row) (sym (row_drafted known body row) ∙ ap (steps_drafted known nothing_drafted) it.steps
      ∙ piece_first known fault nothing_drafted it.front it.piece it.value it.behind it.drafts it.drafted it.refused)
    where
      by : (found : Result Draft Refusal) → alone found ≡ Err fault → (found >>= behind_draft known) ≡ Err fault
      by (Ok draft) is = absurd cc
      by (Err other) is = cc is

  from_number : IsRefusedNumber known body row fault → laid known body row ≡ Err fault
  from_number it = by (row_laid known None body nothing_laid row) (sym (row_drafted known body row) ∙ it.drafted)
    where
      unfilled : fill known outside it.drafts.inner.numbers it.drafts.inner.bits ≡ Err fault
      unfilled = ap (λ (numbers : List LateNumber). fill known outside numbers it.drafts.inner.bits) it.numbers
          ∙ number_first known fault it.before it.one it.others it.drafts.inner.bits it.bits it.filled it.refused

      by : (found : Result Draft Refusal) → alone found ≡ Ok it.drafts → (found >>= behind_draft known) ≡ Err fault
      by (Ok draft) is =
          let same : record { inner = draft; around = []; ends = [] } ≡ it.drafts = cc in
          ap (λ (drafts : Drafts). behind_draft known drafts.inner) same
          ∙ ap (λ (r : Result (List Bool) Refusal). r >>= λ bits. Ok (bytes_of (filled 8 bits))) unfilled
      by (Err other) is = absurd cc

  pub refused_so : (laid known body row ≡ Err fault) ↔ IsRefusedAt known body row fault
  refused_so = (to, λ it. ⊎_elim from_piece from_number it)
