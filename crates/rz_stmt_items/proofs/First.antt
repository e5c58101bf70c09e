-- The first tokens of an item tell which it is.
use Rattle.std.proofs.Common.{◌≡◌, ℕ, Bool, true, false, if◌then◌else◌, List, ◌∷◌, Option, Some, None, refl, sym, ap, subst, ◌∙◌}
use Rattle.std.specs.Prelude.{option_map}
use Rattle.rz_stmt_brackets.specs.Bracket.{begins, opens, IsBracketed}
use Rattle.rz_stmt_brackets.specs.Pieces.{Parted}
use Rattle.rz_stmt_brackets.specs.declared.bracket.Bracket.TheVariants.{Curly}
use Rattle.rz_core.proofs.Tests.{none_some, true_false}
use Rattle.rz_core.specs.Decided.{Decided}
use Rattle.rz_lex.specs.declared.token.Shape.{Shape}
use Rattle.rz_lex.specs.declared.token.Shape.TheVariants as shapes
use Rattle.rz_lex.specs.declared.token.Token.{Token}
use Rattle.rz_stmt_items.specs.Item.{items_of, Braced, Named, PlainItem}
use Rattle.rz_stmt_items.specs.Items.{listed, name_before, name_in, named, simple, AreBraced, IsItem}
use Rattle.rz_stmt_items.specs.Simple.{IsSimple}

pub bracket_begins : (tokens : List Token) (parted : Parted) → IsBracketed Curly tokens parted → begins Curly tokens ≡ true
bracket_begins tokens parted is = ap (begins Curly) is.are ∙ is.opens

pub no_name_opens : (shape : Shape) (name : List ℕ) → name_in shape ≡ Some name → opens Curly shape ≡ false
no_name_opens (shapes.Word word) name is = refl
no_name_opens (shapes.Number number) name is = cc
no_name_opens (shapes.Literal bytes) name is = cc
no_name_opens (shapes.Text bytes) name is = cc
no_name_opens (shapes.Sign sign) name is = cc

pub name_stands : (shape : Shape) (rest : List Token) (name : List ℕ) → name_in shape ≡ Some name → begins Curly rest ≡ true → name_before shape rest ≡ Some name
name_stands shape rest name is starts = ap (λ (b : Bool). if b then name_in shape else None) starts ∙ is

-- the name before braces is the name that the token is
pub name_read : (shape : Shape) (rest : List Token) (name : List ℕ) → name_before shape rest ≡ Some name → name_in shape ≡ Some name
name_read shape rest name is = by (begins Curly rest) is
  where
    by : (b : Bool) → (if b then name_in shape else None) ≡ Some name → name_in shape ≡ Some name
    by true so = so
    by false so = cc

-- Which of the three it is.

pub listed_only : (first : Token) (rest : List Token) (one : PlainItem) → begins Curly (first ∷ rest) ≡ true → IsItem (first ∷ rest) one
    → (items : List PlainItem) × AreBraced (first ∷ rest) items × (one ≡ Braced (items_of items) first.mark)
listed_only first rest one starts (listed same others parted items is none are) = (items, (parted, is, none, are), refl)
listed_only first rest one starts (named same others name parted items has is none are) = absurd (true_false (sym starts ∙ no_name_opens first.shape name has))
listed_only first rest one starts (simple same others it off none so) = absurd (true_false (sym starts ∙ off))

pub named_only : (first : Token) (rest : List Token) (name : List ℕ) (one : PlainItem) → begins Curly (first ∷ rest) ≡ false → name_before first.shape rest ≡ Some name
    → IsItem (first ∷ rest) one → (items : List PlainItem) × AreBraced rest items × (one ≡ Named name (items_of items) first.mark)
named_only first rest name one off before (listed same others parted items is none are) =
    absurd (true_false (sym (bracket_begins (first ∷ rest) parted is) ∙ off))
named_only first rest name one off before (named same others word parted items has is none are) =
    (items, (parted, is, none, are), λ i. Named (same_name i) (items_of items) first.mark)
  where
    same_name : word ≡ name
    same_name = by (sym (name_stands first.shape rest word has (bracket_begins rest parted is)) ∙ before)
      where
        by : ◌≡◌ {A = Option (List ℕ)} (Some word) (Some name) → word ≡ name
        by e = cc e
named_only first rest name one off before (simple same others it off_too none so) = absurd (none_some name (sym none ∙ before))

pub simple_only : (first : Token) (rest : List Token) (one : PlainItem) → begins Curly (first ∷ rest) ≡ false → name_before first.shape rest ≡ None
    → IsItem (first ∷ rest) one → IsSimple first.mark (first ∷ rest) one
simple_only first rest one off before (listed same others parted items is none are) =
    absurd (true_false (sym (bracket_begins (first ∷ rest) parted is) ∙ off))
simple_only first rest one off before (named same others name parted items has is none are) =
    absurd (none_some name (sym before ∙ name_stands first.shape rest name has (bracket_begins rest parted is)))
simple_only first rest one off before (simple same others it off_too none so) = so

-- What is decided of each is decided of the item.

pub listed_decided : (first : Token) (rest : List Token) → begins Curly (first ∷ rest) ≡ true → (found : Option (List PlainItem)) → Decided (AreBraced (first ∷ rest)) found
    → Decided (IsItem (first ∷ rest)) (option_map (λ items. Braced (items_of items) first.mark) found)
listed_decided first rest starts None never = λ one is. let it = listed_only first rest one starts is in never it.0 it.1
listed_decided first rest starts (Some items) are = listed first rest are.0 items are.1 are.2 are.3

pub named_decided : (first : Token) (rest : List Token) (name : List ℕ) → begins Curly (first ∷ rest) ≡ false → name_before first.shape rest ≡ Some name
    → (found : Option (List PlainItem)) → Decided (AreBraced rest) found
    → Decided (IsItem (first ∷ rest)) (option_map (λ items. Named name (items_of items) first.mark) found)
named_decided first rest name off before None never = λ one is. let it = named_only first rest name one off before is in never it.0 it.1
named_decided first rest name off before (Some items) are =
    named first rest name are.0 items (name_read first.shape rest name before) are.1 are.2 are.3

pub simple_decided : (first : Token) (rest : List Token) → begins Curly (first ∷ rest) ≡ false → name_before first.shape rest ≡ None
    → (found : Option PlainItem) → Decided (IsSimple first.mark (first ∷ rest)) found → Decided (IsItem (first ∷ rest)) found
simple_decided first rest off before None never = λ one is. never one (simple_only first rest one off before is)
simple_decided first rest off before (Some one) is = simple first rest one off before is

-- The same of tokens that begin so.

module _ (tokens rest : List Token) (first : Token) (are : tokens ≡ first ∷ rest) (given : Option PlainItem) where
  again : Decided (IsItem (first ∷ rest)) given → Decided (IsItem tokens) given
  again = subst (λ (ts : List Token). Decided (IsItem ts) given) (sym are)

  pub listed_here : begins Curly tokens ≡ true → (found : Option (List PlainItem)) → Decided (AreBraced tokens) found
      → given ≡ option_map (λ items. Braced (items_of items) first.mark) found → Decided (IsItem tokens) given
  listed_here starts found decided same =
      again (subst (Decided (IsItem (first ∷ rest))) (sym same)
      (listed_decided first rest (ap (begins Curly) (sym are) ∙ starts) found (subst (λ (ts : List Token). Decided (AreBraced ts) found) are decided)))

  pub named_here : (name : List ℕ) → begins Curly tokens ≡ false → name_before first.shape rest ≡ Some name → (found : Option (List PlainItem)) → Decided (AreBraced rest) found
      → given ≡ option_map (λ items. Named name (items_of items) first.mark) found → Decided (IsItem tokens) given
  named_here name off before found decided same =
      again (subst (Decided (IsItem (first ∷ rest))) (sym same) (named_decided first rest name (ap (begins Curly) (sym are) ∙ off) before found decided))

  pub simple_here : begins Curly tokens ≡ false → name_before first.shape rest ≡ None → Decided (IsSimple first.mark tokens) given → Decided (IsItem tokens) given
  simple_here off before decided =
      again (simple_decided first rest (ap (begins Curly) (sym are) ∙ off) before given (subst (λ (ts : List Token). Decided (IsSimple first.mark ts) given) are decided))
