-- Rows of items: what is computed of them one item after the other, and what fits or doesn't.
use Rattle.std.proofs.Common.{◌≡◌, ℕ, ◌+◌, Bool, true, false, List, [], ◌∷◌, ◌++◌, length, inl, inr, refl, sym, ap, subst, ◌∙◌, arith}
use Rattle.std.specs.Prelude.{Ok, Err}
use Rattle.std.specs.declared.result.Result.{Result}
use Rattle.rz_core.specs.Stop.{◌>>=◌}
use Rattle.rz_core.specs.declared.fault.Fault.{Fault}
use Rattle.rz_core.specs.declared.fault.Mark.{Mark}
use Rattle.rz_stmt_items.specs.Item.{PlainItem}
use Rattle.rz_stmt_items.specs.Fits.{NextFits}
use Rattle.rz_stmt_items.specs.Matched.{next_matched, with_value, Line}
use Rattle.rz_stmt_items.specs.Unfit.{too_few, Asked, Listed, NextUnfit}
use Rattle.rz_stmt_items.proofs.Results.{ok_err, same_err, same_ok, then_err, then_ok}
use Rattle.rz_types_fields.specs.declared.tree.Tree.{Tree}

abbrev pub OneMatched : Type 0
OneMatched = ℕ → PlainItem → Result Tree Fault

abbrev pub RowMatched : Type 0
RowMatched = ℕ → List PlainItem → Result Line Fault

-- What is computed and what is said agree: of one item, and of a row.

pub record OneGiven (one : OneMatched) (IsOne : PlainItem → Tree → Type 0) (IsFault : ℕ → PlainItem → Fault → Type 0) : Type 0 where
  pub complete : (position : ℕ) (item : PlainItem) (value : Tree) → IsOne item value → one position item ≡ Ok value
  pub blames : (position : ℕ) (item : PlainItem) (fault : Fault) → IsFault position item fault → one position item ≡ Err fault

pub record OneSound (one : OneMatched) (IsOne : PlainItem → Tree → Type 0) (IsFault : ℕ → PlainItem → Fault → Type 0) : Type 0 where
  pub sound : (position : ℕ) (item : PlainItem) (value : Tree) → one position item ≡ Ok value → IsOne item value
  pub blamed : (position : ℕ) (item : PlainItem) (fault : Fault) → one position item ≡ Err fault → IsFault position item fault

-- the items of a row that was computed
pub record Used (IsRow : List PlainItem → List Tree → Type 0) (before : ℕ) (items : List PlainItem) (line : Line) : Type 0 where
  pub front : List PlainItem
  pub are : items ≡ front ++ line.rest
  pub fits : IsRow front line.row
  pub behind : line.before ≡ before + length front

abbrev pub line_at : List Tree → ℕ → List PlainItem → Line
line_at row before rest = record { row = row; before = before; rest = rest }

pub record RowGiven (row : RowMatched) (IsRow : List PlainItem → List Tree → Type 0) (IsFault : ℕ → List PlainItem → Fault → Type 0) : Type 0 where
  pub complete : (before : ℕ) (front rest : List PlainItem) (values : List Tree) → IsRow front values → row before (front ++ rest) ≡ Ok (line_at values (before + length front) rest)
  pub blames : (before : ℕ) (items : List PlainItem) (fault : Fault) → IsFault before items fault → row before items ≡ Err fault

pub record RowSound (row : RowMatched) (IsRow : List PlainItem → List Tree → Type 0) (IsFault : ℕ → List PlainItem → Fault → Type 0) : Type 0 where
  pub sound : (before : ℕ) (items : List PlainItem) (line : Line) → row before items ≡ Ok line → Used IsRow before items line
  pub blamed : (before : ℕ) (items : List PlainItem) (fault : Fault) → row before items ≡ Err fault → IsFault before items fault

-- One field more.

module _ (one : OneMatched) (IsOne : PlainItem → Tree → Type 0) (IsFault : ℕ → PlainItem → Fault → Type 0)
    (others : RowMatched) (IsOthers : List PlainItem → List Tree → Type 0) (IsOtherFault : ℕ → List PlainItem → Fault → Type 0) (place : Mark) (all : List PlainItem) where
  abbrev asked : Bool → Asked
  asked takes = record { takes = takes; IsOne = IsOne; IsFaultOf = IsFault }

  abbrev list : Listed
  list = record { place = place; all = all }

  abbrev behind_one : ℕ → List PlainItem → Tree → Result Line Fault
  behind_one before rest value = others (before + 1) rest >>= λ line. Ok (with_value value line)

  module _ (agrees : OneSound one IsOne IsFault) (agree : RowSound others IsOthers IsOtherFault) where
    next_sound : (takes : Bool) (before : ℕ) (items : List PlainItem) (line : Line) → next_matched takes one others place all before items ≡ Ok line
        → Used (NextFits takes IsOne IsOthers) before items line
    next_sound false before items line e = let used = agree.sound before items line e in record { front = used.front; are = used.are; fits = used.fits; behind = used.behind }
    next_sound true before [] line e = absurd (ok_err line (too_few place all) (sym e))
    next_sound true before (item ∷ rest) line e =
        let first = then_ok (one (before + 1) item) (behind_one before rest) line e in
        let second = then_ok (others (before + 1) rest) (λ line. Ok (with_value first.0 line)) line first.2 in
        let used = agree.sound (before + 1) rest second.0 second.1 in
        let same : with_value first.0 second.0 ≡ line = same_ok (with_value first.0 second.0) line second.2 in
        let there : second.0.before ≡ before + length (item ∷ used.front) = (let far = used.behind in omega (arith, far)) in
        subst (Used (NextFits true IsOne IsOthers) before (item ∷ rest)) same
        (record {
          front = item ∷ used.front;
          are = ap (λ (xs : List PlainItem). item ∷ xs) used.are;
          fits = (item, used.front, first.0, second.0.row, refl, refl, agrees.sound (before + 1) item first.0 first.1, used.fits);
          behind = there;
        })

    next_blamed : (takes : Bool) (before : ℕ) (items : List PlainItem) (fault : Fault) → next_matched takes one others place all before items ≡ Err fault
        → NextUnfit (asked takes) IsOtherFault list before items fault
    next_blamed false before items fault e = agree.blamed before items fault e
    next_blamed true before [] fault e = sym (same_err {X = Line} (too_few place all) fault e)
    next_blamed true before (item ∷ rest) fault e =
        elim (then_err (one (before + 1) item) (behind_one before rest) fault e) [
          | inl broken ↦ inl (agrees.blamed (before + 1) item fault broken)
          | inr first ↦
              elim (then_err (others (before + 1) rest) (λ line. Ok (with_value first.0 line)) fault first.2) [
                | inl broken ↦ inr (first.0, agrees.sound (before + 1) item first.0 first.1, agree.blamed (before + 1) rest fault broken)
                | inr second ↦ absurd (ok_err (with_value first.0 second.0) fault second.2)
              ]
        ]

    pub next_sounds : (takes : Bool) → RowSound (next_matched takes one others place all) (NextFits takes IsOne IsOthers) (NextUnfit (asked takes) IsOtherFault list)
    next_sounds takes = record { sound = next_sound takes; blamed = next_blamed takes }

  module _ (agrees : OneGiven one IsOne IsFault) (agree : RowGiven others IsOthers IsOtherFault) where
    next_complete : (takes : Bool) (before : ℕ) (front rest : List PlainItem) (values : List Tree) → NextFits takes IsOne IsOthers front values
        → next_matched takes one others place all before (front ++ rest) ≡ Ok (line_at values (before + length front) rest)
    next_complete false before front rest values fits = agree.complete before front rest values fits
    next_complete true before front rest values (item, left, value, more, are, has, is, fits) =
        let there : (before + 1) + length left ≡ before + length (item ∷ left) = omega arith in
        (λ i. next_matched true one others place all before (are i ++ rest))
        ∙ ap (λ (r : Result Tree Fault). r >>= behind_one before (left ++ rest)) (agrees.complete (before + 1) item value is)
        ∙ ap (λ (r : Result Line Fault). r >>= λ line. Ok (with_value value line)) (agree.complete (before + 1) left rest more fits)
        ∙ (λ i. Ok (line_at (value ∷ more) (there i) rest))
        ∙ (λ i. Ok (line_at (sym has i) (before + length (sym are i)) rest))

    next_blames : (takes : Bool) (before : ℕ) (items : List PlainItem) (fault : Fault) → NextUnfit (asked takes) IsOtherFault list before items fault
        → next_matched takes one others place all before items ≡ Err fault
    next_blames false before items fault is = agree.blames before items fault is
    next_blames true before [] fault is = λ i. Err (sym is i)
    next_blames true before (item ∷ rest) fault (inl broken) =
        ap (λ (r : Result Tree Fault). r >>= behind_one before rest) (agrees.blames (before + 1) item fault broken)
    next_blames true before (item ∷ rest) fault (inr (value, is, broken)) =
        ap (λ (r : Result Tree Fault). r >>= behind_one before rest) (agrees.complete (before + 1) item value is)
        ∙ ap (λ (r : Result Line Fault). r >>= λ line. Ok (with_value value line)) (agree.blames (before + 1) rest fault broken)

    pub next_given : (takes : Bool) → RowGiven (next_matched takes one others place all) (NextFits takes IsOne IsOthers) (NextUnfit (asked takes) IsOtherFault list)
    next_given takes = record { complete = next_complete takes; blames = next_blames takes }

-- No field more.

abbrev pub IsEnd : List PlainItem → List Tree → Type 0
IsEnd items row = (items ≡ []) × (row ≡ [])

pub end_sounds : RowSound (λ before items. Ok (line_at [] before items)) IsEnd (λ before items fault. ⊥)
end_sounds = record {
  sound = λ before items line e.
      let same : line_at [] before items ≡ line = same_ok (line_at [] before items) line e in
      subst (Used IsEnd before items) same (record { front = []; are = refl; fits = (refl, refl); behind = omega arith });
  blamed = λ before items fault e. ok_err (line_at [] before items) fault e;
}

pub end_given : RowGiven (λ before items. Ok (line_at [] before items)) IsEnd (λ before items fault. ⊥)
end_given = record {
  complete = λ before front rest values fits.
      let none : before ≡ before + length front = (let length_is : length front ≡ 0 = ap length fits.0 in omega (arith, length_is)) in
      λ i. Ok (line_at (sym fits.1 i) (none i) (fits.0 i ++ rest));
  blames = λ before items fault is. absurd is;
}
