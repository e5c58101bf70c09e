-- Of all tokens it is decided which items they are.
use Rattle.std.proofs.Common.{◌≡◌, ◌≢◌, ℕ, zero, suc, ◌≤◌, Bool, true, false, List, [], ◌∷◌, length, Option, Some, None, refl, arith}
use Rattle.std.proofs.Math.Decide.{map_dec}
use Rattle.std.specs.Prelude.{option_map}
use Rattle.rz_core.proofs.EveryCut.{answer_of, both, is_nothing, is_true, known_of, known_with}
use Rattle.rz_core.specs.Decided.{Decided}
use Rattle.rz_core.specs.declared.fault.Mark.{Mark}
use Rattle.rz_lex.specs.declared.token.Token.{Token}
use Rattle.rz_expr.proofs.OneTerm.{OneExpression}
use Rattle.rz_expr.specs.Grammar.{IsExpression}
use Rattle.rz_expr.specs.Term.{Term}
use Rattle.rz_stmt_brackets.proofs.OneBracket.{one_bracketed}
use Rattle.rz_stmt_brackets.proofs.OneCut.{one_cut, some_pieces}
use Rattle.rz_stmt_brackets.proofs.Short.{bracket_sizes, cut_short, no_longer, AreShort}
use Rattle.rz_stmt_brackets.specs.Bracket.{begins, IsBracketed}
use Rattle.rz_stmt_brackets.specs.Pieces.{last, AreCut, Parted}
use Rattle.rz_stmt_brackets.specs.declared.bracket.Bracket.{Bracket}
use Rattle.rz_stmt_brackets.specs.declared.bracket.Bracket.TheVariants.{Curly}
use Rattle.rz_stmt_brackets.specs.declared.pieces.Divider.TheVariants.{Separator}
use Rattle.rz_types_fields.specs.Text.{PlainPart}
use Rattle.rz_types_fields.specs.Value.{is_item_expression}
use Rattle.rz_types_fields.specs.declared.place.TextPlace.{TextPlace}
use Rattle.rz_types_fields.specs.declared.place.TextPlace.TheVariants as places
use Rattle.rz_stmt_data.specs.Texts.{begins_text, IsText}
use Rattle.rz_stmt_items.proofs.Each.{each_split, stripped_short}
use Rattle.rz_stmt_items.proofs.First.{listed_decided, named_decided, simple_decided}
use Rattle.rz_stmt_items.specs.Item.{items_of, Braced, Named, Number, PlainItem, Text}
use Rattle.rz_stmt_items.specs.Items.{cut, listed, name_before, named, no_more, one_more, simple, stripped, AreBraced, AreEach, AreItems, IsItem}
use Rattle.rz_stmt_items.specs.Simple.{IsSimple, IsSimpleBy}

abbrev HasItem : List Token → Type 0
HasItem tokens = (item : PlainItem) × IsItem tokens item

abbrev ItemAnswer : List Token → Type 0
ItemAnswer tokens = (answer : Option PlainItem) × Decided (IsItem tokens) answer

abbrev HasEach : List (List Token) → Type 0
HasEach pieces = (items : List PlainItem) × AreEach pieces items

abbrev pub HasItems : List Token → Type 0
HasItems tokens = (items : List PlainItem) × AreItems tokens items

abbrev HasBraced : List Token → Type 0
HasBraced tokens = (items : List PlainItem) × AreBraced tokens items

no_item : (tokens : List Token) (item : PlainItem) → IsItem tokens item → tokens ≢ []
no_item tokens item (listed first rest parted items is none are) empty = cc empty
no_item tokens item (named first rest name parted items has is none are) empty = cc empty
no_item tokens item (simple first rest one off before so) empty = cc empty

pieces_in : {tokens : List Token} {items : List PlainItem} → AreItems tokens items → (pieces : List (List Token)) × AreCut Separator tokens pieces × HasEach (stripped pieces)
pieces_in (cut tokens pieces items is each) = (pieces, is, (items, each))

module _ (one : OneExpression) (expression : (tokens : List Token) → (answer : Option Term) × Decided (IsExpression tokens) answer)
    (within : (bracket : Bracket) (tokens : List Token) → (answer : Option Parted) × Decided (IsBracketed bracket tokens) answer)
    (text : (place : TextPlace) (tokens : List Token) → (answer : Option (List PlainPart)) × Decided (IsText place tokens) answer) where
  -- A text, or an expression that may stand in an item.

  simple_by : (begins : Bool) (mark : Mark) (tokens : List Token) → Dec ((item : PlainItem) × IsSimpleBy begins mark tokens item)
  simple_by true mark tokens = map_dec to from (known_of (IsText places.Item tokens) (text places.Item tokens))
    where
      to : (parts : List PlainPart) × IsText places.Item tokens parts → (item : PlainItem) × IsSimpleBy true mark tokens item
      to (parts, is) = (Text parts mark, (parts, is, refl))

      from : (item : PlainItem) × IsSimpleBy true mark tokens item → (parts : List PlainPart) × IsText places.Item tokens parts
      from h = (h.1.0, h.1.1)
  simple_by false mark tokens =
      map_dec to from (known_with (IsExpression tokens) (λ term. is_item_expression term ≡ true) (one tokens) (known_of (IsExpression tokens) (expression tokens))
      (λ term is. is_true (is_item_expression term)))
    where
      to : (term : Term) × IsExpression tokens term × (is_item_expression term ≡ true) → (item : PlainItem) × IsSimpleBy false mark tokens item
      to (term, is, may) = (Number term mark, (term, (is, may), refl))

      from : (item : PlainItem) × IsSimpleBy false mark tokens item → (term : Term) × IsExpression tokens term × (is_item_expression term ≡ true)
      from h = (h.1.0, h.1.1.0, h.1.1.1)

  -- Fewer tokens first.

  module _ (n : ℕ) (fewer : (tokens : List Token) → length tokens ≤ n → Dec (HasItems tokens)) where
    are_braced : (tokens : List Token) → length tokens ≤ suc n → Dec (HasBraced tokens)
    are_braced tokens few =
        map_dec to from (known_with (IsBracketed Curly tokens) (λ parted. (parted.behind ≡ []) × HasItems parted.front) (one_bracketed Curly tokens)
        (known_of (IsBracketed Curly tokens) (within Curly tokens))
        (λ parted brackets. both (is_nothing parted.behind) (fewer parted.front (omega (arith, few, bracket_sizes Curly tokens parted brackets)))))
      where
        to : (parted : Parted) × IsBracketed Curly tokens parted × ((parted.behind ≡ []) × HasItems parted.front) → HasBraced tokens
        to (parted, brackets, (none, (items, are))) = (items, (parted, brackets, none, are))

        from : HasBraced tokens → (parted : Parted) × IsBracketed Curly tokens parted × ((parted.behind ≡ []) × HasItems parted.front)
        from (items, (parted, brackets, none, are)) = (parted, brackets, (none, (items, are)))

    -- the first tokens tell which it is
    is_item : (tokens : List Token) → length tokens ≤ suc n → Dec (HasItem tokens)
    is_item [] few = no (λ h. no_item [] h.0 h.1 refl)
    is_item (first ∷ rest) few = known_of (IsItem (first ∷ rest)) (by_brace (begins Curly (first ∷ rest)) refl)
      where
        by_name : begins Curly (first ∷ rest) ≡ false → (name : Option (List ℕ)) → name_before first.shape rest ≡ name → ItemAnswer (first ∷ rest)
        by_name off (Some name) before =
            let inner = answer_of (AreBraced rest) (are_braced rest (omega (arith, few))) in
            (option_map (λ items. Named name (items_of items) first.mark) inner.0, named_decided first rest name off before inner.0 inner.1)
        by_name off None before =
            let answer = answer_of (IsSimple first.mark (first ∷ rest)) (simple_by (begins_text (first ∷ rest)) first.mark (first ∷ rest)) in
            (answer.0, simple_decided first rest off before answer.0 answer.1)

        by_brace : (starts : Bool) → begins Curly (first ∷ rest) ≡ starts → ItemAnswer (first ∷ rest)
        by_brace true on =
            let inner = answer_of (AreBraced (first ∷ rest)) (are_braced (first ∷ rest) few) in
            (option_map (λ items. Braced (items_of items) first.mark) inner.0, listed_decided first rest on inner.0 inner.1)
        by_brace false off = by_name off (name_before first.shape rest) refl

    are_each : (pieces : List (List Token)) → AreShort (suc n) pieces → Dec (HasEach pieces)
    are_each [] short = yes ([], no_more)
    are_each (piece ∷ pieces) short = map_dec to from (both (is_item piece short.0) (are_each pieces short.1))
      where
        to : HasItem piece × HasEach pieces → HasEach (piece ∷ pieces)
        to (first, others) = (first.0 ∷ others.0, one_more piece pieces first.0 others.0 first.1 others.1)

        from : HasEach (piece ∷ pieces) → HasItem piece × HasEach pieces
        from h = let split = each_split piece pieces h.0 h.1 in ((split.0, split.2), (split.1, split.3))

    are_items : (tokens : List Token) → length tokens ≤ suc n → Dec (HasItems tokens)
    are_items tokens few =
        map_dec to from (known_with (AreCut Separator tokens) (λ pieces. HasEach (stripped pieces)) (one_cut Separator tokens)
        (yes (some_pieces Separator (length tokens) tokens (omega arith)))
        (λ pieces is. are_each (stripped pieces) (stripped_short (suc n) pieces (no_longer (length tokens) (suc n) pieces few (cut_short Separator tokens pieces is)))))
      where
        to : (pieces : List (List Token)) × AreCut Separator tokens pieces × HasEach (stripped pieces) → HasItems tokens
        to (pieces, is, (items, each)) = (items, cut tokens pieces items is each)

        from : HasItems tokens → (pieces : List (List Token)) × AreCut Separator tokens pieces × HasEach (stripped pieces)
        from h = pieces_in h.1

  all_items : (n : ℕ) (tokens : List Token) → length tokens ≤ n → Dec (HasItems tokens)
  all_items zero [] few = yes ([], cut [] ([] ∷ []) [] (last [] refl) no_more)
  all_items zero (first ∷ rest) few = absurd (omega (arith, few))
  all_items (suc n) tokens few = are_items n (all_items n) tokens few

  pub every_items : (tokens : List Token) → Dec (HasItems tokens)
  every_items tokens = all_items (length tokens) tokens (omega arith)
