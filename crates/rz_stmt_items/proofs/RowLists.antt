-- Rows one after the other, and rows of whole lists.
use Rattle.std.proofs.Common.{◌≡◌, ℕ, zero, suc, ◌+◌, ◌<◌, ◌≤◌, List, [], ◌∷◌, ◌++◌, length, inl, inr, refl, sym, ap, subst, ◌∙◌, append_assoc, length-append, arith}
use Rattle.std.specs.Prelude.{Ok, Err}
use Rattle.std.specs.declared.result.Result.{Result}
use Rattle.rz_core.specs.Stop.{◌>>=◌}
use Rattle.rz_core.specs.declared.fault.Fault.{Fault}
use Rattle.rz_stmt_items.specs.Item.{PlainItem}
use Rattle.rz_stmt_items.specs.Fits.{RowsFit}
use Rattle.rz_stmt_items.specs.Matched.{nothing_left, rows_matched, whole_matched, Line}
use Rattle.rz_stmt_items.specs.Unfit.{too_many, WholeUnfit}
use Rattle.rz_stmt_items.proofs.Lines.{RowGiven, RowMatched, RowSound}
use Rattle.rz_stmt_items.proofs.Results.{ok_err, same_err, same_ok, then_err, then_ok}
use Rattle.rz_types_fields.specs.declared.tree.Tree.{Tree}
use Rattle.std.proofs.lemmas.List.{append-nil}

module _ (row : RowMatched) (IsRow : List PlainItem → List Tree → Type 0) (IsFault : ℕ → List PlainItem → Fault → Type 0) where
  abbrev more_rows : ℕ → Line → Result (List (List Tree)) Fault
  more_rows count line = rows_matched row count line.before line.rest >>= λ rows. Ok (line.row ∷ rows)

  -- the rows before a fault
  pub record Broken (before : ℕ) (items : List PlainItem) (fault : Fault) : Type 0 where
    pub front : List PlainItem
    pub item : PlainItem
    pub rest : List PlainItem
    pub rows : List (List Tree)
    pub are : items ≡ front ++ item ∷ rest
    pub fit : RowsFit IsRow front rows
    pub breaks : IsFault (before + length front) (item ∷ rest) fault

  abbrev left_of : List PlainItem → Line → Result (List Tree) Fault
  left_of items line = nothing_left items line.row line.rest

  -- What is computed is so.

  module _ (agrees : RowSound row IsRow IsFault) where
    -- a row that uses an item
    record Taken (before : ℕ) (items : List PlainItem) (line : Line) : Type 0 where
      first : PlainItem
      others : List PlainItem
      are : items ≡ (first ∷ others) ++ line.rest
      fits : IsRow (first ∷ others) line.row
      behind : line.before ≡ before + suc (length others)

    module _ (uses : (front : List PlainItem) (values : List Tree) → IsRow front values → 0 < length front) where
      taken : (before : ℕ) (items : List PlainItem) (line : Line) → row before items ≡ Ok line → Taken before items line
      taken before items line e = let used = agrees.sound before items line e in by used.front used.are used.fits used.behind
        where
          by : (front : List PlainItem) → items ≡ front ++ line.rest → IsRow front line.row → line.before ≡ before + length front → Taken before items line
          by [] are fits behind = absurd (let some = uses [] line.row fits in omega (arith, some))
          by (first ∷ others) are fits behind = record { first = first; others = others; are = are; fits = fits; behind = behind }

      long_of : (before : ℕ) (items : List PlainItem) (line : Line) (one : Taken before items line) → length items ≡ suc (length one.others + length line.rest)
      long_of before items line one = ap length one.are ∙ ap suc (length-append one.others line.rest)

      pub rows_sound : (count before : ℕ) (items : List PlainItem) (rows : List (List Tree)) → length items ≤ count → rows_matched row count before items ≡ Ok rows → RowsFit IsRow items rows
      rows_sound count before [] rows enough e = subst (RowsFit IsRow []) (same_ok [] rows e) refl
      rows_sound zero before (item ∷ items) rows enough e = absurd (omega (arith, enough))
      rows_sound (suc count) before (item ∷ items) rows enough e =
          let first = then_ok (row before (item ∷ items)) (more_rows count) rows e in
          let one = taken before (item ∷ items) first.0 first.1 in
          let second = then_ok (rows_matched row count first.0.before first.0.rest) (λ rows. Ok (first.0.row ∷ rows)) rows first.2 in
          let long = long_of before (item ∷ items) first.0 one in
          subst (RowsFit IsRow (item ∷ items)) (same_ok (first.0.row ∷ second.0) rows second.2)
          (one.first, one.others, first.0.rest, one.are, one.fits, rows_sound count first.0.before first.0.rest second.0 (omega (arith, enough, long)) second.1)

      rows_first : (before : ℕ) (item : PlainItem) (items : List PlainItem) (fault : Fault) → IsFault before (item ∷ items) fault → Broken before (item ∷ items) fault
      rows_first before item items fault is = record {
        front = [];
        item = item;
        rest = items;
        rows = [];
        are = refl;
        fit = refl;
        breaks = let here : before ≡ before + length {A = PlainItem} [] = omega arith in subst (λ n. IsFault n (item ∷ items) fault) here is;
      }

      rows_later : (before : ℕ) (items : List PlainItem) (line : Line) (fault : Fault) → Taken before items line → Broken line.before line.rest fault → Broken before items fault
      rows_later before items line fault one broken = record {
        front = (one.first ∷ one.others) ++ broken.front;
        item = broken.item;
        rest = broken.rest;
        rows = line.row ∷ broken.rows;
        are = one.are ∙ ap (λ (xs : List PlainItem). (one.first ∷ one.others) ++ xs) broken.are ∙ sym (append_assoc (one.first ∷ one.others) broken.front (broken.item ∷ broken.rest));
        fit = (one.first, one.others, broken.front, refl, one.fits, broken.fit);
        breaks =
            let long = length-append one.others broken.front in
            let behind = one.behind in
            let there : line.before + length broken.front ≡ before + length ((one.first ∷ one.others) ++ broken.front) = omega (arith, behind, long) in
            subst (λ n. IsFault n (broken.item ∷ broken.rest) fault) there broken.breaks;
      }

      pub rows_blamed : (count before : ℕ) (items : List PlainItem) (fault : Fault) → length items ≤ count → rows_matched row count before items ≡ Err fault → Broken before items fault
      rows_blamed count before [] fault enough e = absurd (ok_err {X = List (List Tree)} [] fault e)
      rows_blamed zero before (item ∷ items) fault enough e = absurd (omega (arith, enough))
      rows_blamed (suc count) before (item ∷ items) fault enough e =
          elim (then_err (row before (item ∷ items)) (more_rows count) fault e) [
            | inl broken ↦ rows_first before item items fault (agrees.blamed before (item ∷ items) fault broken)
            | inr first ↦
                let one = taken before (item ∷ items) first.0 first.1 in
                let long = long_of before (item ∷ items) first.0 one in
                elim (then_err (rows_matched row count first.0.before first.0.rest) (λ rows. Ok (first.0.row ∷ rows)) fault first.2) [
                  | inl broken ↦
                      rows_later before (item ∷ items) first.0 fault one (rows_blamed count first.0.before first.0.rest fault (omega (arith, enough, long)) broken)
                  | inr second ↦ absurd (ok_err (first.0.row ∷ second.0) fault second.2)
                ]
          ]

    left_ok : (all rest : List PlainItem) (values given : List Tree) → nothing_left all values rest ≡ Ok given → (rest ≡ []) × (values ≡ given)
    left_ok all [] values given e = (refl, same_ok values given e)
    left_ok all (item ∷ rest) values given e = absurd (ok_err given (too_many item all) (sym e))

    pub whole_sound : (items : List PlainItem) (values : List Tree) → whole_matched row items ≡ Ok values → IsRow items values
    whole_sound items values e =
        let first = then_ok (row 0 items) (left_of items) values e in
        let used = agrees.sound 0 items first.0 first.1 in
        let none = left_ok items first.0.rest first.0.row values first.2 in
        let same : items ≡ used.front = used.are ∙ ap (λ (xs : List PlainItem). used.front ++ xs) none.0 ∙ append-nil used.front in
        subst (λ (xs : List PlainItem). IsRow xs values) (sym same) (subst (IsRow used.front) none.1 used.fits)

    left_err : (all rest : List PlainItem) (values : List Tree) (fault : Fault) → nothing_left all values rest ≡ Err fault
        → (item : PlainItem) × (behind : List PlainItem) × (rest ≡ item ∷ behind) × (fault ≡ too_many item all)
    left_err all [] values fault e = absurd (ok_err values fault e)
    left_err all (item ∷ rest) values fault e = (item, rest, refl, sym (same_err {X = List Tree} (too_many item all) fault e))

    pub whole_blamed : (items : List PlainItem) (fault : Fault) → whole_matched row items ≡ Err fault → WholeUnfit IsRow IsFault items fault
    whole_blamed items fault e =
        elim (then_err (row 0 items) (left_of items) fault e) [
          | inl broken ↦ inl (agrees.blamed 0 items fault broken)
          | inr first ↦
              let used = agrees.sound 0 items first.0 first.1 in
              let left = left_err items first.0.rest first.0.row fault first.2 in
              inr (used.front, left.0, left.1, first.0.row, used.are ∙ ap (λ (xs : List PlainItem). used.front ++ xs) left.2, used.fits, left.3)
        ]

  -- What is so is computed.

  module _ (agrees : RowGiven row IsRow IsFault) where
    rows_step : (count before : ℕ) (first : PlainItem) (others rest : List PlainItem) (values : List Tree) → IsRow (first ∷ others) values
        → rows_matched row (suc count) before ((first ∷ others) ++ rest) ≡ (rows_matched row count (before + suc (length others)) rest >>= λ rows. Ok (values ∷ rows))
    rows_step count before first others rest values fits = ap (λ (r : Result Line Fault). r >>= more_rows count) (agrees.complete before (first ∷ others) rest values fits)

    -- so many items are enough for a row in front of others
    enough_left : (count : ℕ) (first : PlainItem) (others rest : List PlainItem) → length ((first ∷ others) ++ rest) ≤ count → (left : ℕ) × (count ≡ suc left) × (length rest ≤ left)
    enough_left zero first others rest enough = absurd (omega (arith, enough))
    enough_left (suc left) first others rest enough = (left, refl, let long = length-append others rest in omega (arith, long, enough))

    pub rows_complete : (count before : ℕ) (items : List PlainItem) (rows : List (List Tree)) → length items ≤ count → RowsFit IsRow items rows → rows_matched row count before items ≡ Ok rows
    rows_complete count before items [] enough fit = ap (rows_matched row count before) fit
    rows_complete count before items (values ∷ rows) enough (first, others, rest, are, fits, fit) =
        let left = enough_left count first others rest (subst (λ (xs : List PlainItem). length xs ≤ count) are enough) in
        (λ i. rows_matched row (left.1 i) before (are i))
        ∙ rows_step left.0 before first others rest values fits
        ∙ ap (λ (r : Result (List (List Tree)) Fault). r >>= λ rows. Ok (values ∷ rows)) (rows_complete left.0 (before + suc (length others)) rest rows left.2 fit)

    first_blames : (count before : ℕ) (item : PlainItem) (rest : List PlainItem) (fault : Fault) → length (item ∷ rest) ≤ count → IsFault before (item ∷ rest) fault
        → rows_matched row count before (item ∷ rest) ≡ Err fault
    first_blames zero before item rest fault enough breaks = absurd (omega (arith, enough))
    first_blames (suc count) before item rest fault enough breaks = ap (λ (r : Result Line Fault). r >>= more_rows count) (agrees.blames before (item ∷ rest) fault breaks)

    pub rows_blames : (count before : ℕ) (front : List PlainItem) (item : PlainItem) (rest : List PlainItem) (rows : List (List Tree)) (fault : Fault) → length (front ++ item ∷ rest) ≤ count
        → RowsFit IsRow front rows → IsFault (before + length front) (item ∷ rest) fault → rows_matched row count before (front ++ item ∷ rest) ≡ Err fault
    rows_blames count before front item rest [] fault enough fit breaks =
        let none : before + length front ≡ before = (let length_is : length front ≡ 0 = ap length fit in omega (arith, length_is)) in
        ap (λ (xs : List PlainItem). rows_matched row count before (xs ++ item ∷ rest)) fit
        ∙ first_blames count before item rest fault (subst (λ (xs : List PlainItem). length (xs ++ item ∷ rest) ≤ count) fit enough)
        (subst (λ n. IsFault n (item ∷ rest) fault) none breaks)
    rows_blames count before front item rest (values ∷ rows) fault enough (first, others, behind, are, fits, fit) breaks =
        let same : front ++ item ∷ rest ≡ (first ∷ others) ++ (behind ++ item ∷ rest) = ap (λ (xs : List PlainItem). xs ++ item ∷ rest) are ∙ append_assoc (first ∷ others) behind (item ∷ rest) in
        let left = enough_left count first others (behind ++ item ∷ rest) (subst (λ (xs : List PlainItem). length xs ≤ count) same enough) in
        let parts : length front ≡ suc (length others + length behind) = ap length are ∙ ap suc (length-append others behind) in
        let there : before + length front ≡ (before + suc (length others)) + length behind = omega (arith, parts) in
        (λ i. rows_matched row (left.1 i) before (same i))
        ∙ rows_step left.0 before first others (behind ++ item ∷ rest) values fits
        ∙ ap (λ (r : Result (List (List Tree)) Fault). r >>= λ rows. Ok (values ∷ rows))
        (rows_blames left.0 (before + suc (length others)) behind item rest rows fault left.2 fit (subst (λ n. IsFault n (item ∷ rest) fault) there breaks))

    pub whole_complete : (items : List PlainItem) (values : List Tree) → IsRow items values → whole_matched row items ≡ Ok values
    whole_complete items values fits =
        ap (λ (xs : List PlainItem). row 0 xs >>= left_of items) (sym (append-nil items))
        ∙ ap (λ (r : Result Line Fault). r >>= left_of items) (agrees.complete 0 items [] values fits)

    pub whole_blames : (items : List PlainItem) (fault : Fault) → WholeUnfit IsRow IsFault items fault → whole_matched row items ≡ Err fault
    whole_blames items fault (inl broken) = ap (λ (r : Result Line Fault). r >>= left_of items) (agrees.blames 0 items fault broken)
    whole_blames items fault (inr (front, item, rest, values, are, fits, is)) =
        ap (λ (xs : List PlainItem). row 0 xs >>= left_of items) are
        ∙ ap (λ (r : Result Line Fault). r >>= left_of items) (agrees.complete 0 front (item ∷ rest) values fits)
        ∙ ap (λ (f : Fault). Err f) (sym is)
