-- One field: the item is of it, or has a fault, exactly as is computed.
use Rattle.std.proofs.Common.{◌≡◌, ℕ, Bool, List, inl, inr, sym, ap, ◌∙◌}
use Rattle.std.specs.Prelude.{Ok, Err, None, replicate, if◌then◌else◌}
use Rattle.std.specs.declared.result.Result.{Result}
use Rattle.rz_core.specs.Stop.{◌>>=◌}
use Rattle.rz_core.specs.declared.facts.Facts.{Facts}
use Rattle.rz_core.specs.declared.fault.Fault.{Fault}
use Rattle.rz_stmt_items.specs.Item.{Braced, Named, Number, PlainItem, Text}
use Rattle.rz_stmt_items.specs.Fits.{exceeds, list_of, AreNumbersOf, IsItemOf, IsNumberOf, IsTextOf}
use Rattle.rz_stmt_items.specs.Matched.{group_for, item_for, number_for, short_text, text_for}
use Rattle.rz_stmt_items.specs.Unfit.{mark_of, too_long, wrong_kind, IsGroupFault, IsItemFault, IsNumberFault, IsTextFault}
use Rattle.rz_stmt_items.proofs.Lines.{OneGiven, OneSound}
use Rattle.rz_stmt_items.proofs.Lists.{fit_of, of_fit, of_unfit, unfit_of}
use Rattle.rz_stmt_items.proofs.Numbers.{number_blamed, number_blames, number_complete, number_sound}
use Rattle.rz_stmt_items.proofs.Results.{ok_err, same_err, same_ok, then_err, then_ok, unless_err, unless_ok}
use Rattle.rz_types_fields.specs.declared.tree.Tree.{Tree}
use Rattle.rz_types_fields.specs.declared.tree.Tree.TheVariants as trees
use Rattle.rz_types.specs.Field.{PlainNumber, PlainPoints, PlainText}
use Rattle.rz_types.specs.Field as fields
use Rattle.rz_types.specs.Shape.{numbers_of}
use Rattle.rz_types.specs.Piece.{integer}
use Rattle.rz_types.specs.Text.{bytes_of}

blame : {X : Type 0} (fault other : Fault) → ◌≡◌ {A = Result X Fault} (Err fault) (Err other) → other ≡ fault
blame {X} fault other e = sym (same_err {X = X} fault other e)

-- Texts.

module _ (known : Facts) (position : ℕ) (text : PlainText) where
  text_sound : (item : PlainItem) (bytes : List ℕ) → text_for known position text item ≡ Ok bytes → IsTextOf known text item bytes
  text_sound (Text parts mark) bytes e =
      let first = then_ok (bytes_of mark known parts) (short_text text mark) bytes e in
      let short = unless_ok (exceeds text first.0) first.0 bytes (too_long mark first.0) first.2 in
      (first.1 ∙ ap (λ (bs : List ℕ). Ok bs) short.1, ap (exceeds text) (sym short.1) ∙ short.0)
  text_sound (Number term mark) bytes e = ok_err bytes (wrong_kind position mark) (sym e)
  text_sound (Braced items mark) bytes e = ok_err bytes (wrong_kind position mark) (sym e)
  text_sound (Named name items mark) bytes e = ok_err bytes (wrong_kind position mark) (sym e)

  text_complete : (item : PlainItem) (bytes : List ℕ) → IsTextOf known text item bytes → text_for known position text item ≡ Ok bytes
  text_complete (Text parts mark) bytes is =
      ap (λ (r : Result (List ℕ) Fault). r >>= short_text text mark) is.0 ∙ ap (λ (long : Bool). if long then Err (too_long mark bytes) else Ok bytes) is.1
  text_complete (Number term mark) bytes is = absurd is
  text_complete (Braced items mark) bytes is = absurd is
  text_complete (Named name items mark) bytes is = absurd is

  text_blamed : (item : PlainItem) (fault : Fault) → text_for known position text item ≡ Err fault → IsTextFault known position text item fault
  text_blamed (Text parts mark) fault e =
      elim (then_err (bytes_of mark known parts) (short_text text mark) fault e) [
        | inl broken ↦ inl broken
        | inr first ↦
            let long = unless_err (exceeds text first.0) first.0 (too_long mark first.0) fault first.2 in
            inr (first.0, first.1, long.0, sym long.1)
      ]
  text_blamed (Number term mark) fault e = blame (wrong_kind position mark) fault e
  text_blamed (Braced items mark) fault e = blame (wrong_kind position mark) fault e
  text_blamed (Named name items mark) fault e = blame (wrong_kind position mark) fault e

  text_blames : (item : PlainItem) (fault : Fault) → IsTextFault known position text item fault → text_for known position text item ≡ Err fault
  text_blames (Text parts mark) fault (inl broken) = ap (λ (r : Result (List ℕ) Fault). r >>= short_text text mark) broken
  text_blames (Text parts mark) fault (inr is) =
      ap (λ (r : Result (List ℕ) Fault). r >>= short_text text mark) is.1
      ∙ ap (λ (long : Bool). if long then Err (too_long mark is.0) else Ok is.0) is.2
      ∙ ap (λ (f : Fault). Err f) (sym is.3)
  text_blames (Number term mark) fault is = ap (λ (f : Fault). Err f) (sym is)
  text_blames (Braced items mark) fault is = ap (λ (f : Fault). Err f) (sym is)
  text_blames (Named name items mark) fault is = ap (λ (f : Fault). Err f) (sym is)

-- Points and rectangles.

module _ (known : Facts) (position : ℕ) (rect : Bool) where
  group_sound : (item : PlainItem) (numbers : List ℕ) → group_for known position rect item ≡ Ok numbers → AreNumbersOf known rect item numbers
  group_sound (Braced items mark) numbers e =
      fit_of (number_for known) (IsNumberOf known) (IsNumberFault known) mark (list_of items) (number_sound known) 0
      (replicate (numbers_of rect) (integer None)) (list_of items) numbers e
  group_sound (Number term mark) numbers e = ok_err numbers (wrong_kind position mark) (sym e)
  group_sound (Text parts mark) numbers e = ok_err numbers (wrong_kind position mark) (sym e)
  group_sound (Named name items mark) numbers e = ok_err numbers (wrong_kind position mark) (sym e)

  group_complete : (item : PlainItem) (numbers : List ℕ) → AreNumbersOf known rect item numbers → group_for known position rect item ≡ Ok numbers
  group_complete (Braced items mark) numbers are =
      of_fit (number_for known) (IsNumberOf known) (IsNumberFault known) mark (list_of items) (number_complete known) 0
      (replicate (numbers_of rect) (integer None)) (list_of items) numbers are
  group_complete (Number term mark) numbers are = absurd are
  group_complete (Text parts mark) numbers are = absurd are
  group_complete (Named name items mark) numbers are = absurd are

  group_blamed : (item : PlainItem) (fault : Fault) → group_for known position rect item ≡ Err fault → IsGroupFault known position rect item fault
  group_blamed (Braced items mark) fault e =
      unfit_of (number_for known) (IsNumberOf known) (IsNumberFault known) mark (replicate (numbers_of rect) (integer None)) (list_of items) fault
      (number_sound known) (number_blamed known) e
  group_blamed (Number term mark) fault e = blame (wrong_kind position mark) fault e
  group_blamed (Text parts mark) fault e = blame (wrong_kind position mark) fault e
  group_blamed (Named name items mark) fault e = blame (wrong_kind position mark) fault e

  group_blames : (item : PlainItem) (fault : Fault) → IsGroupFault known position rect item fault → group_for known position rect item ≡ Err fault
  group_blames (Braced items mark) fault is =
      of_unfit (number_for known) (IsNumberOf known) (IsNumberFault known) mark (replicate (numbers_of rect) (integer None)) (list_of items) fault
      (number_complete known) (number_blames known) is
  group_blames (Number term mark) fault is = ap (λ (f : Fault). Err f) (sym is)
  group_blames (Text parts mark) fault is = ap (λ (f : Fault). Err f) (sym is)
  group_blames (Named name items mark) fault is = ap (λ (f : Fault). Err f) (sym is)

-- Fields.

-- a value that is wrapped
module _ {X : Type 0} (wrap : X → Tree) (given : Result X Fault) where
  wrapped_ok : (value : Tree) → (given >>= λ x. Ok (wrap x)) ≡ Ok value → (x : X) × (given ≡ Ok x) × (value ≡ wrap x)
  wrapped_ok value e = let first = then_ok given (λ x. Ok (wrap x)) value e in (first.0, first.1, sym (same_ok (wrap first.0) value first.2))

  wrapped_err : (fault : Fault) → (given >>= λ x. Ok (wrap x)) ≡ Err fault → given ≡ Err fault
  wrapped_err fault e =
      elim (then_err given (λ x. Ok (wrap x)) fault e) [ inl broken ↦ broken | inr first ↦ absurd (ok_err (wrap first.0) fault first.2) ]

  ok_wrapped : (x : X) (value : Tree) → given ≡ Ok x → value ≡ wrap x → (given >>= λ x. Ok (wrap x)) ≡ Ok value
  ok_wrapped x value e is = ap (λ (r : Result X Fault). r >>= λ x. Ok (wrap x)) e ∙ ap (λ (t : Tree). Ok t) (sym is)

  err_wrapped : (fault : Fault) → given ≡ Err fault → (given >>= λ x. Ok (wrap x)) ≡ Err fault
  err_wrapped fault e = ap (λ (r : Result X Fault). r >>= λ x. Ok (wrap x)) e

-- Numbers, texts and points.

module _ (known : Facts) where
  pub number_sounds : (number : PlainNumber) → OneSound (item_for known (fields.Number number)) (IsItemOf known (fields.Number number)) (IsItemFault known (fields.Number number))
  number_sounds number = record {
    sound = λ position item value e.
        let is = wrapped_ok trees.Number (number_for known position number item) value e in (is.0, number_sound known position number item is.0 is.1, is.2);
    blamed = λ position item fault e. number_blamed known position number item fault (wrapped_err trees.Number (number_for known position number item) fault e);
  }

  pub number_given : (number : PlainNumber) → OneGiven (item_for known (fields.Number number)) (IsItemOf known (fields.Number number)) (IsItemFault known (fields.Number number))
  number_given number = record {
    complete = λ position item value is.
        ok_wrapped trees.Number (number_for known position number item) is.0 value (number_complete known position number item is.0 is.1) is.2;
    blames = λ position item fault is. err_wrapped trees.Number (number_for known position number item) fault (number_blames known position number item fault is);
  }

  pub text_sounds : (text : PlainText) → OneSound (item_for known (fields.Text text)) (IsItemOf known (fields.Text text)) (IsItemFault known (fields.Text text))
  text_sounds text = record {
    sound = λ position item value e.
        let is = wrapped_ok trees.Text (text_for known position text item) value e in (is.0, text_sound known position text item is.0 is.1, is.2);
    blamed = λ position item fault e. text_blamed known position text item fault (wrapped_err trees.Text (text_for known position text item) fault e);
  }

  pub text_given : (text : PlainText) → OneGiven (item_for known (fields.Text text)) (IsItemOf known (fields.Text text)) (IsItemFault known (fields.Text text))
  text_given text = record {
    complete = λ position item value is. ok_wrapped trees.Text (text_for known position text item) is.0 value (text_complete known position text item is.0 is.1) is.2;
    blames = λ position item fault is. err_wrapped trees.Text (text_for known position text item) fault (text_blames known position text item fault is);
  }

  pub points_sound : (points : PlainPoints) → OneSound (item_for known (fields.Points points)) (IsItemOf known (fields.Points points)) (IsItemFault known (fields.Points points))
  points_sound points = record {
    sound = λ position item value e.
        let is = wrapped_ok trees.Group (group_for known position points.rect item) value e in (is.0, group_sound known position points.rect item is.0 is.1, is.2);
    blamed = λ position item fault e. group_blamed known position points.rect item fault (wrapped_err trees.Group (group_for known position points.rect item) fault e);
  }

  pub points_given : (points : PlainPoints) → OneGiven (item_for known (fields.Points points)) (IsItemOf known (fields.Points points)) (IsItemFault known (fields.Points points))
  points_given points = record {
    complete = λ position item value is.
        ok_wrapped trees.Group (group_for known position points.rect item) is.0 value (group_complete known position points.rect item is.0 is.1) is.2;
    blames = λ position item fault is. err_wrapped trees.Group (group_for known position points.rect item) fault (group_blames known position points.rect item fault is);
  }

-- a field that takes no item
abbrev NoneMatched : ℕ → PlainItem → Result Tree Fault
NoneMatched position item = Err (wrong_kind position (mark_of item))

pub none_sounds : OneSound NoneMatched (λ item value. ⊥) (λ position item fault. fault ≡ wrong_kind position (mark_of item))
none_sounds = record {
  sound = λ position item value e. ok_err value (wrong_kind position (mark_of item)) (sym e);
  blamed = λ position item fault e. blame (wrong_kind position (mark_of item)) fault e;
}

pub none_given : OneGiven NoneMatched (λ item value. ⊥) (λ position item fault. fault ≡ wrong_kind position (mark_of item))
none_given = record {
  complete = λ position item value is. absurd is;
  blames = λ position item fault is. ap (λ (f : Fault). Err f) (sym is);
}
