-- Lists of items that fit their fields, or don't, and what is computed of them.
use Rattle.std.proofs.Common.{◌≡◌, ℕ, ◌+◌, List, [], ◌∷◌, ◌++◌, length, inl, inr, refl, sym, ap, subst, ◌∙◌, arith}
use Rattle.std.specs.Prelude.{Ok, Err}
use Rattle.std.specs.declared.result.Result.{Result}
use Rattle.rz_core.specs.Stop.{◌>>=◌}
use Rattle.rz_core.specs.declared.fault.Fault.{Fault}
use Rattle.rz_core.specs.declared.fault.Mark.{Mark}
use Rattle.rz_stmt_items.specs.Item.{PlainItem}
use Rattle.rz_stmt_items.specs.Fits.{FitAll}
use Rattle.rz_stmt_items.specs.Matched.{matched_all}
use Rattle.rz_stmt_items.specs.Unfit.{too_few, too_many, BreaksAt, UnfitAll}
use Rattle.rz_stmt_items.proofs.Results.{ok_err, same_err, same_ok, then_err, then_ok}

module _ {F V : Type 0} (one : ℕ → F → PlainItem → Result V Fault) (IsOf : F → PlainItem → V → Type 0) (IsFaultOf : ℕ → F → PlainItem → Fault → Type 0)
    (place : Mark) (all : List PlainItem) where
  -- what is computed fits
  module _ (sound : (position : ℕ) (field : F) (item : PlainItem) (value : V) → one position field item ≡ Ok value → IsOf field item value) where
    pub fit_of : (before : ℕ) (fields : List F) (items : List PlainItem) (values : List V)
        → matched_all one place all before fields items ≡ Ok values → FitAll IsOf fields items values
    fit_of before [] [] [] e = tt
    fit_of before [] [] (value ∷ values) e = cc
    fit_of before [] (item ∷ items) values e = absurd (ok_err values (too_many item all) (sym e))
    fit_of before (field ∷ fields) [] values e = absurd (ok_err values (too_few place all) (sym e))
    fit_of before (field ∷ fields) (item ∷ items) values e =
        let first = then_ok (one (before + 1) field item) (λ value. matched_all one place all (before + 1) fields items >>= λ values. Ok (value ∷ values)) values e in
        let others = then_ok (matched_all one place all (before + 1) fields items) (λ values. Ok (first.0 ∷ values)) values first.2 in
        subst (λ (vs : List V). FitAll IsOf (field ∷ fields) (item ∷ items) vs) (same_ok (first.0 ∷ others.0) values others.2)
        (sound (before + 1) field item first.0 first.1, fit_of (before + 1) fields items others.0 others.1)

  -- and what fits is computed
  module _ (complete : (position : ℕ) (field : F) (item : PlainItem) (value : V) → IsOf field item value → one position field item ≡ Ok value) where
    pub of_fit : (before : ℕ) (fields : List F) (items : List PlainItem) (values : List V)
        → FitAll IsOf fields items values → matched_all one place all before fields items ≡ Ok values
    of_fit before [] [] [] fit = refl
    of_fit before [] [] (value ∷ values) fit = absurd fit
    of_fit before [] (item ∷ items) values fit = absurd fit
    of_fit before (field ∷ fields) [] values fit = absurd fit
    of_fit before (field ∷ fields) (item ∷ items) [] fit = absurd fit
    of_fit before (field ∷ fields) (item ∷ items) (value ∷ values) fit =
        ap (λ (r : Result V Fault). r >>= λ value. matched_all one place all (before + 1) fields items >>= λ values. Ok (value ∷ values))
        (complete (before + 1) field item value fit.0)
        ∙ ap (λ (r : Result (List V) Fault). r >>= λ values. Ok (value ∷ values)) (of_fit (before + 1) fields items values fit.1)

    -- what breaks after what fits is the fault
    module _ (blames : (position : ℕ) (field : F) (item : PlainItem) (fault : Fault) → IsFaultOf position field item fault → one position field item ≡ Err fault) where
      of_break : (before : ℕ) (others : List F) (rest : List PlainItem) (fault : Fault)
          → BreaksAt IsFaultOf place all (before + 1) others rest fault → matched_all one place all before others rest ≡ Err fault
      of_break before [] [] fault breaks = absurd breaks
      of_break before [] (item ∷ rest) fault breaks = λ i. Err (sym breaks i)
      of_break before (field ∷ others) [] fault breaks = λ i. Err (sym breaks i)
      of_break before (field ∷ others) (item ∷ rest) fault breaks =
          ap (λ (r : Result V Fault). r >>= λ value. matched_all one place all (before + 1) others rest >>= λ values. Ok (value ∷ values))
          (blames (before + 1) field item fault breaks)

      of_front : (before : ℕ) (served others : List F) (used rest : List PlainItem) (values : List V) (fault : Fault) → FitAll IsOf served used values
          → BreaksAt IsFaultOf place all (before + length used + 1) others rest fault → matched_all one place all before (served ++ others) (used ++ rest) ≡ Err fault
      of_front before [] others [] rest [] fault fit breaks =
          of_break before others rest fault (subst (λ (n : ℕ). BreaksAt IsFaultOf place all (n + 1) others rest fault) (omega arith) breaks)
      of_front before [] others [] rest (value ∷ values) fault fit breaks = absurd fit
      of_front before [] others (item ∷ used) rest values fault fit breaks = absurd fit
      of_front before (field ∷ served) others [] rest values fault fit breaks = absurd fit
      of_front before (field ∷ served) others (item ∷ used) rest [] fault fit breaks = absurd fit
      of_front before (field ∷ served) others (item ∷ used) rest (value ∷ values) fault fit breaks =
          let there : before + length (item ∷ used) ≡ (before + 1) + length used = omega arith in
          ap (λ (r : Result V Fault). r >>= λ value. matched_all one place all (before + 1) (served ++ others) (used ++ rest) >>= λ values. Ok (value ∷ values))
          (complete (before + 1) field item value fit.0)
          ∙ ap (λ (r : Result (List V) Fault). r >>= λ values. Ok (value ∷ values))
          (of_front (before + 1) served others used rest values fault fit.1 (subst (λ (n : ℕ). BreaksAt IsFaultOf place all (n + 1) others rest fault) there breaks))

  -- a fault that is computed is the first one
  record From (before : ℕ) (fields : List F) (items : List PlainItem) (fault : Fault) : Type 0 where
    served : List F
    others : List F
    used : List PlainItem
    rest : List PlainItem
    values : List V
    are_fields : fields ≡ served ++ others
    are_items : items ≡ used ++ rest
    fit : FitAll IsOf served used values
    breaks : BreaksAt IsFaultOf place all (before + length used + 1) others rest fault

  at_once : (before : ℕ) (fields : List F) (items : List PlainItem) (fault : Fault) → BreaksAt IsFaultOf place all (before + 1) fields items fault
      → From before fields items fault
  at_once before fields items fault breaks = record {
    served = [];
    others = fields;
    used = [];
    rest = items;
    values = [];
    are_fields = refl;
    are_items = refl;
    fit = tt;
    breaks = let there : before ≡ before + length {A = PlainItem} [] = omega arith in subst (λ (n : ℕ). BreaksAt IsFaultOf place all (n + 1) fields items fault) there breaks;
  }

  later : (before : ℕ) (field : F) (fields : List F) (item : PlainItem) (items : List PlainItem) (value : V) (fault : Fault) → IsOf field item value
      → From (before + 1) fields items fault → From before (field ∷ fields) (item ∷ items) fault
  later before field fields item items value fault is from = record {
    served = field ∷ from.served;
    others = from.others;
    used = item ∷ from.used;
    rest = from.rest;
    values = value ∷ from.values;
    are_fields = ap (λ (fs : List F). field ∷ fs) from.are_fields;
    are_items = ap (λ (xs : List PlainItem). item ∷ xs) from.are_items;
    fit = (is, from.fit);
    breaks = let there : (before + 1) + length from.used ≡ before + length (item ∷ from.used) = omega arith in
        subst (λ (n : ℕ). BreaksAt IsFaultOf place all (n + 1) from.others from.rest fault) there from.breaks;
  }

  module _ (sound : (position : ℕ) (field : F) (item : PlainItem) (value : V) → one position field item ≡ Ok value → IsOf field item value)
      (blamed : (position : ℕ) (field : F) (item : PlainItem) (fault : Fault) → one position field item ≡ Err fault → IsFaultOf position field item fault) where
    from_of : (before : ℕ) (fields : List F) (items : List PlainItem) (fault : Fault)
        → matched_all one place all before fields items ≡ Err fault → From before fields items fault
    from_of before [] [] fault e = absurd (ok_err {X = List V} [] fault e)
    from_of before [] (item ∷ items) fault e = at_once before [] (item ∷ items) fault (sym (same_err {X = List V} (too_many item all) fault e))
    from_of before (field ∷ fields) [] fault e = at_once before (field ∷ fields) [] fault (sym (same_err {X = List V} (too_few place all) fault e))
    from_of before (field ∷ fields) (item ∷ items) fault e =
        elim (then_err (one (before + 1) field item) (λ value. matched_all one place all (before + 1) fields items >>= λ values. Ok (value ∷ values)) fault e) [
          | inl broken ↦ at_once before (field ∷ fields) (item ∷ items) fault (blamed (before + 1) field item fault broken)
          | inr first ↦
              elim (then_err (matched_all one place all (before + 1) fields items) (λ values. Ok (first.0 ∷ values)) fault first.2) [
                | inl broken ↦ later before field fields item items first.0 fault (sound (before + 1) field item first.0 first.1) (from_of (before + 1) fields items fault broken)
                | inr others ↦ absurd (ok_err (first.0 ∷ others.0) fault others.2)
              ]
        ]

module _ {F V : Type 0} (one : ℕ → F → PlainItem → Result V Fault) (IsOf : F → PlainItem → V → Type 0) (IsFaultOf : ℕ → F → PlainItem → Fault → Type 0)
    (place : Mark) (fields : List F) (items : List PlainItem) (fault : Fault) where
  pub unfit_of : ((position : ℕ) (field : F) (item : PlainItem) (value : V) → one position field item ≡ Ok value → IsOf field item value)
      → ((position : ℕ) (field : F) (item : PlainItem) (fault : Fault) → one position field item ≡ Err fault → IsFaultOf position field item fault)
      → matched_all one place items 0 fields items ≡ Err fault → UnfitAll IsOf IsFaultOf place fields items fault
  unfit_of sound blamed e =
      let from = from_of one IsOf IsFaultOf place items sound blamed 0 fields items fault e in
      let there : 0 + length from.used ≡ length from.used = omega arith in record {
        served = from.served;
        others = from.others;
        used = from.used;
        rest = from.rest;
        values = from.values;
        are_fields = from.are_fields;
        are_items = from.are_items;
        fit = from.fit;
        breaks = subst (λ (n : ℕ). BreaksAt IsFaultOf place items (n + 1) from.others from.rest fault) there from.breaks;
      }

  pub of_unfit : ((position : ℕ) (field : F) (item : PlainItem) (value : V) → IsOf field item value → one position field item ≡ Ok value)
      → ((position : ℕ) (field : F) (item : PlainItem) (fault : Fault) → IsFaultOf position field item fault → one position field item ≡ Err fault)
      → UnfitAll IsOf IsFaultOf place fields items fault → matched_all one place items 0 fields items ≡ Err fault
  of_unfit complete blames unfit =
      let there : length unfit.used ≡ 0 + length unfit.used = omega arith in
      (λ i. matched_all one place items 0 (unfit.are_fields i) (unfit.are_items i))
      ∙ of_front one IsOf IsFaultOf place items complete blames 0 unfit.served unfit.others unfit.used unfit.rest unfit.values fault unfit.fit
      (subst (λ (n : ℕ). BreaksAt IsFaultOf place items (n + 1) unfit.others unfit.rest fault) there unfit.breaks)
