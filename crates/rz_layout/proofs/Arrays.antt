-- The rows of an array, laid one after the other, and the places of the labels in them.
use Rattle.std.proofs.Common.{◌≡◌, ℕ, ◌+◌, ◌<◌, ◌≤◌, ℤ, Bool, List, [], ◌∷◌, ◌++◌, length, get_or, drop, Option, Result, Ok, Err, refl, sym, ap, subst, ◌∙◌}
use Rattle.std.specs.List.{AllByRecursion}
use Rattle.std.specs.Prelude.{if◌then◌else◌}
use Rattle.std.proofs.lemmas.List.{append_assoc, append-nil, drop_all, drop_more}
use Rattle.rz_core.specs.Stop.{◌>>=◌, Gives, Meets, fault_seen, left}
use Rattle.rz_core.specs.declared.stop.Stop.{Stop}
use Rattle.rz_core.specs.declared.stop.Stop.TheVariants.{NoMemory, Refused}
use Rattle.rz_layout.specs.Fault.{refusal_of}
use Rattle.rz_layout.specs.declared.fault.LayFault.{LayFault}
use Rattle.rz_core.specs.declared.facts.Facts.{Facts}
use Rattle.rz_core.specs.declared.resource.Word.{Word}
use Rattle.rz_expr.specs.Environment.{Environment}
use Rattle.rz_layout.specs.Laid.{draft_of, IsNotedBy}
use Rattle.rz_layout.specs.Sound.{AreSound}
use Rattle.rz_layout.specs.declared.laid.Laid.{Laid}
use Rattle.rz_types_fields.specs.Field.{PlainBody}
use Rattle.rz_types_fields.specs.FlatRows.{AllPlacesAre}
use Rattle.rz_types_fields.specs.Known.{known, noted, AreRowsNoted}
use Rattle.rz_types_fields.specs.Laid.{all_laid, and_row, behind_rows, each_laid, row_ended, rows_laid, AllRows, Draft, Ended, Refusal}
use Rattle.rz_types_fields.specs.Passed.{gives_rows, outside}
use Rattle.rz_types_fields.specs.RowLabels.{also_rows, row_of, rows_give}
use Rattle.rz_types_fields.specs.declared.names.Note.{Note}
use Rattle.rz_types_fields.specs.declared.tree.Tree.{Tree}
use Rattle.rz_types_fields.proofs.Fronts.{noted_append}
use Rattle.rz_types_fields.proofs.RowEnds.{and_row_places}
use Rattle.rz_layout.proofs.EachRow.{ends_length}
use Rattle.rz_layout.specs.Places.{AreRowsLaid, IsRowLaid}

-- Rows.

-- rows after others with these ends
abbrev pub more_rows : List Environment → AllRows → AllRows
more_rows ends others = record { draft = others.draft; ends = ends ++ others.ends }

more_rows_both : (ends : List Environment) (one : Ended) (rest : Result AllRows Refusal)
    → (rest >>= λ others. Ok (more_rows (ends ++ one.own ∷ []) others)) ≡ ((rest >>= λ others. Ok (and_row one others)) >>= λ others. Ok (more_rows ends others))
more_rows_both ends one (Ok others) = λ i. Ok (record { draft = others.draft; ends = append_assoc ends (one.own ∷ []) others.ends i })
more_rows_both ends one (Err fault) = refl

-- before a row: what is laid from there on, the ends of the rows before it, and the places in them
pub record RowsSoFar (facts : Facts) (name : Option Word) (row : PlainBody) (rows : List (List Tree)) (start : Draft) (before : ℕ) (draft : Draft) (places : List ℤ) : Type 0 where
  pub ends : List Environment
  pub laid : (rows_laid (λ number. row_ended facts (row_of name number) row) (before + 1) draft (drop before rows) >>= λ others. Ok (more_rows ends others)) ≡ each_laid facts name row rows start
  pub are : AllPlacesAre row ends places

module _ (facts : Facts) (name : Option Word) (row : PlainBody) (rows : List (List Tree)) (start : Draft) where
  abbrev row_at : ℕ → Draft → List Tree → Result Ended Refusal
  row_at number = row_ended facts (row_of name number) row

  none_after : (result : Result AllRows Refusal) → (result >>= λ others. Ok (more_rows [] others)) ≡ result
  none_after (Ok others) = refl
  none_after (Err fault) = refl

  pub no_rows_so_far : RowsSoFar facts name row rows start 0 start []
  no_rows_so_far = record { ends = []; laid = none_after (each_laid facts name row rows start); are = refl }

  -- after all rows
  pub all_rows : (before : ℕ) (draft : Draft) (places : List ℤ) → length rows ≤ before → RowsSoFar facts name row rows start before draft places
      → (ends : List Environment) × (each_laid facts name row rows start ≡ Ok (record { draft = draft; ends = ends })) × AllPlacesAre row ends places
  all_rows before draft places past it = (
    it.ends,
    sym it.laid ∙ ap (λ (lines : List (List Tree)). rows_laid row_at (before + 1) draft lines >>= λ others. Ok (more_rows it.ends others)) (drop_all before rows past)
        ∙ ap (λ (ends : List Environment). Ok (record { draft = draft; ends = ends })) (append-nil it.ends),
    it.are,
  )

  -- one more row
  module _ (i : ℕ) (line : List Tree) (less : i < length rows) (item : line ≡ get_or rows i line) where
    split : drop i rows ≡ line ∷ drop (i + 1) rows
    split = drop_more rows i line less ∙ ap (λ (l : List Tree). l ∷ drop (i + 1) rows) (sym item)

    pub rows_sound : AllByRecursion (AreSound row) (drop i rows) → AreSound row line × AllByRecursion (AreSound row) (drop (i + 1) rows)
    rows_sound sound = subst (AllByRecursion (AreSound row)) split sound

    module _ (draft : Draft) (places : List ℤ) (it : RowsSoFar facts name row rows start i draft places) where
      abbrev others_behind : Result Ended Refusal → Result AllRows Refusal
      others_behind first = (first >>= λ one. rows_laid row_at (i + 1 + 1) one.draft (drop (i + 1) rows) >>= λ others. Ok (and_row one others)) >>= λ others. Ok (more_rows it.ends others)

      all_is : others_behind (row_at (i + 1) draft line) ≡ each_laid facts name row rows start
      all_is = sym (ap (λ (lines : List (List Tree)). rows_laid row_at (i + 1) draft lines >>= λ others. Ok (more_rows it.ends others)) split) ∙ it.laid

      pub rows_refused : (stop : Stop LayFault) (after other : Draft) (old : List ℤ) → Meets (fault_seen {X = List ℤ} refusal_of (Err stop)) (IsRowLaid (row_at (i + 1) draft line) row after old)
          → Meets (fault_seen {X = List ℤ} refusal_of (Err stop)) (AreRowsLaid (each_laid facts name row rows start) row other)
      rows_refused NoMemory after other old is = tt
      rows_refused (Refused fault) after other old is = sym all_is ∙ ap others_behind is

      pub row_more : (next : Draft) (new : List ℤ) → IsRowLaid (row_at (i + 1) draft line) row next places (Ok new) → RowsSoFar facts name row rows start (i + 1) next new
      row_more next new (own, is, (more, added, are)) = record {
        ends = it.ends ++ own ∷ [];
        laid = more_rows_both it.ends (record { draft = next; own = own }) (rows_laid row_at (i + 1 + 1) next (drop (i + 1) rows)) ∙ ap others_behind (sym is) ∙ all_is;
        are = subst (AllPlacesAre row (it.ends ++ own ∷ [])) (sym added) (and_row_places row it.ends own places more it.are are);
      }

-- Notes.

module _ (row : PlainBody) (count : ℕ) (places : List ℤ) (old new : List Note) (is : AreRowsNoted row count places old new) (ends : List Environment) (long : length ends ≡ count) (are : AllPlacesAre row ends places) where
  pub rows_noted : IsNotedBy (gives_rows row) old new
  rows_noted = record {
    more = is.more;
    grew = is.grew;
    others = λ key before none. is.values ends long are key before ∙ ap (λ (t : Bool). if t then rows_give ends key else before) none;
  }

  pub rows_known : known new ≡ also_rows row ends (known old)
  rows_known = λ i. record {
    give = λ key. (ap (λ (notes : List Note). noted (outside.give key) notes key) is.grew
        ∙ noted_append (outside.give key) old is.more key
        ∙ is.values ends long are key (noted (outside.give key) old key)) i;
  }

-- An array.

module _ (facts : Facts) (name : Option Word) (row : PlainBody) (rows : List (List Tree)) (draft : Draft) where
  pub array_refused : (stop : Stop LayFault) (after other : Draft) → Meets (fault_seen {X = List ℤ} refusal_of (Err stop)) (AreRowsLaid (each_laid facts name row rows draft) row after)
      → Gives (all_laid facts name row rows draft) (fault_seen refusal_of (left other (Err stop)))
  array_refused NoMemory after other is = tt
  array_refused (Refused fault) after other is = ap (λ (r : Result AllRows Refusal). r >>= λ rows. Ok (behind_rows row rows)) is

  pub ends_many : (next : Draft) (ends : List Environment) → each_laid facts name row rows draft ≡ Ok (record { draft = next; ends = ends }) → length ends ≡ length rows
  ends_many next ends is = ends_length (λ number. row_ended facts (row_of name number) row) 1 draft rows (record { draft = next; ends = ends }) is

  pub array_is : (after new : Laid) (count : ℕ) (places : List ℤ) (ends : List Environment) → new.piece ≡ after.piece → new.bits ≡ after.bits → new.marks ≡ after.marks → new.late ≡ after.late
      → AreRowsNoted row count places after.notes.items new.notes.items → length ends ≡ count → AllPlacesAre row ends places → each_laid facts name row rows draft ≡ Ok (record { draft = draft_of after; ends = ends })
      → all_laid facts name row rows draft ≡ Ok (draft_of new)
  array_is after new count places ends same_piece same_bits same_marks same_late is_noted long are is =
      ap (λ (r : Result AllRows Refusal). r >>= λ rows. Ok (behind_rows row rows)) is
      ∙ (λ i. Ok (record {
        piece = sym same_piece i;
        bits = sym same_bits i;
        late = (draft_of (record { piece = new.piece; bits = sym same_bits i; marks = sym same_marks i; notes = new.notes; late = new.late })).late;
        known = sym (rows_known row count places after.notes.items new.notes.items is_noted ends long are) i;
        numbers = (draft_of (record { piece = new.piece; bits = new.bits; marks = new.marks; notes = new.notes; late = sym same_late i })).numbers;
      }))
