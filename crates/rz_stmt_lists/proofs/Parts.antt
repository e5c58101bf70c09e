-- What stands after the file of an `include` statement, part by part, and in the words of the language.
use Rattle.std.proofs.Common.{◌≡◌, ℕ, Bool, true, false, List, [], ◌∷◌, Option, Some, None, refl, sym, ap, subst, ◌∙◌}
use Rattle.std.specs.Option.{is_some}
use Rattle.rz_core.proofs.Tests.{none_some, same_some, true_false}
use Rattle.rz_stmt_brackets.specs.Kind.{kind_in}
use Rattle.rz_stmt_brackets.specs.Statements.{is_empty, is_semicolon}
use Rattle.rz_expr.specs.Keyword.{is_keyword}
use Rattle.rz_words.specs.declared.keyword.Keyword.{Keyword}
use Rattle.rz_words.specs.declared.keyword.Keyword.TheVariants as keywords
use Rattle.rz_lex.specs.declared.token.Shape.{Shape}
use Rattle.rz_lex.specs.declared.token.Shape.TheVariants as shapes
use Rattle.rz_lex.specs.declared.token.Token.{Token}
use Rattle.rz_stmt_lists.proofs.Texts.{end_no_text}
use Rattle.rz_stmt_lists.specs.Brackets.{IsMaybe}
use Rattle.rz_stmt_lists.specs.Include.{all, all_but, chosen, renamed, All, Chosen, IsPart, Part, Renamed}
use Rattle.rz_stmt_lists.specs.Pick.{IsPicked, Pick}
use Rattle.rz_stmt_lists.specs.Renaming.{IsRenaming, Renaming}
use Rattle.rz_stmt_data.specs.Files.{begins_with_text, text_of}
use Rattle.rz_stmt_lists.specs.Steps.{IsGoneOn, IsOfType, IsOthers}

-- Tokens that are one thing alone.

keyword_no_kind : (keyword : Keyword) (shape : Shape) (code : ℕ) → is_keyword keyword shape ≡ true → kind_in shape ≡ Some code → ⊥
keyword_no_kind keyword (shapes.Word word) code is has = none_some code has
keyword_no_kind keyword (shapes.Number number) code is has = true_false (sym is)
keyword_no_kind keyword (shapes.Literal bytes) code is has = true_false (sym is)
keyword_no_kind keyword (shapes.Text bytes) code is has = true_false (sym is)
keyword_no_kind keyword (shapes.Sign sign) code is has = true_false (sym is)

semicolon_no_kind : (shape : Shape) (code : ℕ) → is_semicolon shape ≡ true → kind_in shape ≡ Some code → ⊥
semicolon_no_kind (shapes.Word word) code is has = none_some code has
semicolon_no_kind (shapes.Number number) code is has = none_some code has
semicolon_no_kind (shapes.Literal bytes) code is has = true_false (sym is)
semicolon_no_kind (shapes.Text bytes) code is has = none_some code has
semicolon_no_kind (shapes.Sign sign) code is has = none_some code has

keyword_no_text : (keyword : Keyword) (shape : Shape) → is_keyword keyword shape ≡ true → is_some (text_of shape) ≡ false
keyword_no_text keyword (shapes.Word word) is = refl
keyword_no_text keyword (shapes.Number number) is = refl
keyword_no_text keyword (shapes.Literal bytes) is = refl
keyword_no_text keyword (shapes.Text bytes) is = absurd (true_false (sym is))
keyword_no_text keyword (shapes.Sign sign) is = refl

kind_no_text : (shape : Shape) (code : ℕ) → kind_in shape ≡ Some code → is_some (text_of shape) ≡ false
kind_no_text (shapes.Word word) code has = refl
kind_no_text (shapes.Number number) code has = refl
kind_no_text (shapes.Literal bytes) code has = refl
kind_no_text (shapes.Text bytes) code has = absurd (none_some code has)
kind_no_text (shapes.Sign sign) code has = refl

-- what stands after a file begins with no text
pub part_no_text : (rest : List Token) (part : Part) → IsPart rest part → begins_with_text rest ≡ false
part_no_text rest part (all ends so) = end_no_text rest ends
part_no_text rest part (all_but word kind behind code are is has ends so) = ap (λ (ts : List Token). begins_with_text ts) are ∙ keyword_no_text keywords.Not word.shape is
part_no_text rest part (chosen kind behind code inside more pick are has maybe picked ends so) = ap (λ (ts : List Token). begins_with_text ts) are ∙ kind_no_text kind.shape code has
part_no_text rest part (renamed kind behind code inside more pick renaming are has maybe picked becomes so) =
    ap (λ (ts : List Token). begins_with_text ts) are ∙ kind_no_text kind.shape code has

kind_not_empty : (kind : Token) (behind : List Token) (code : ℕ) → kind_in kind.shape ≡ Some code → is_empty (kind ∷ behind) ≡ true → ⊥
kind_not_empty kind [] code has ends = semicolon_no_kind kind.shape code ends has
kind_not_empty kind (t ∷ ts) code has ends = true_false (sym ends)

-- By the first token.

module _ (tokens : List Token) where
  pub ended : is_empty tokens ≡ true → (part : Part) → IsPart tokens part → part ≡ All
  ended empty part (all ends so) = so
  ended empty part (all_but word kind behind code are is has ends so) = absurd (true_false (sym empty ∙ ap is_empty are))
  ended empty part (chosen kind behind code inside more pick are has maybe picked ends so) = absurd (kind_not_empty kind behind code has (ap is_empty (sym are) ∙ empty))
  ended empty part (renamed kind behind code inside more pick renaming are has maybe picked becomes so) =
      absurd (kind_not_empty kind behind code has (ap is_empty (sym are) ∙ empty))

  pub nothing_there : tokens ≡ [] → is_empty tokens ≡ false → (part : Part) → IsPart tokens part → ⊥
  nothing_there none empty part (all ends so) = true_false (sym ends ∙ empty)
  nothing_there none empty part (all_but word kind behind code are is has ends so) = cc (sym none ∙ are)
  nothing_there none empty part (chosen kind behind code inside more pick are has maybe picked ends so) = cc (sym none ∙ are)
  nothing_there none empty part (renamed kind behind code inside more pick renaming are has maybe picked becomes so) = cc (sym none ∙ are)

  module _ (first : Token) (rest : List Token) (here : tokens ≡ first ∷ rest) (empty : is_empty tokens ≡ false) where
    same : (x : Token) (xs : List Token) → tokens ≡ x ∷ xs → (x ≡ first) × (xs ≡ rest)
    same x xs are = (heads (sym are ∙ here), tails (sym are ∙ here))
      where
        heads : x ∷ xs ≡ first ∷ rest → x ≡ first
        heads e = cc e

        tails : x ∷ xs ≡ first ∷ rest → xs ≡ rest
        tails e = cc e

    no_kind_here : is_keyword keywords.Not first.shape ≡ true → (kind : Token) (behind : List Token) (code : ℕ) → tokens ≡ kind ∷ behind → kind_in kind.shape ≡ Some code → ⊥
    no_kind_here word kind behind code are has =
        keyword_no_kind keywords.Not kind.shape code (ap (λ (t : Token). is_keyword keywords.Not t.shape) (same kind behind are).0 ∙ word) has

    -- `not`
    pub others_back : is_keyword keywords.Not first.shape ≡ true → (part : Part) → IsPart tokens part → IsOthers rest part
    others_back word part (all ends so) = absurd (true_false (sym ends ∙ empty))
    others_back word part (all_but x kind behind code are is has ends so) = (kind, behind, code, sym (same x (kind ∷ behind) are).1, has, ends, so)
    others_back word part (chosen kind behind code inside more pick are has maybe picked ends so) = absurd (no_kind_here word kind behind code are has)
    others_back word part (renamed kind behind code inside more pick renaming are has maybe picked becomes so) = absurd (no_kind_here word kind behind code are has)

    pub others_forth : is_keyword keywords.Not first.shape ≡ true → (part : Part) → IsOthers rest part → IsPart tokens part
    others_forth word part is = all_but first is.0 is.1 is.2 (here ∙ ap (λ (ts : List Token). first ∷ ts) is.3) word is.4 is.5 is.6

    -- a type
    module _ (off : is_keyword keywords.Not first.shape ≡ false) where
      same_kind : (code : ℕ) → kind_in first.shape ≡ Some code → (kind : Token) (behind : List Token) (other : ℕ) → tokens ≡ kind ∷ behind → kind_in kind.shape ≡ Some other
          → other ≡ code
      same_kind code has kind behind other are also = same_some (kind_in first.shape) other code (ap (λ (t : Token). kind_in t.shape) (sym (same kind behind are).0) ∙ also) has

      gone_on : (ends : Bool) (kind : ℕ) (pick : Pick) (more : List Token) (part : Part) → is_empty more ≡ ends → IsGoneOn ends kind pick more part
          → IsGoneOn (is_empty more) kind pick more part
      gone_on ends kind pick more part is so = subst (λ (b : Bool). IsGoneOn b kind pick more part) (sym is) so

      pub of_type_back : (code : ℕ) → kind_in first.shape ≡ Some code → (part : Part) → IsPart tokens part → IsOfType code rest part
      of_type_back code has part (all ends so) = absurd (true_false (sym ends ∙ empty))
      of_type_back code has part (all_but x kind behind other are is also ends so) =
          absurd (true_false (sym is ∙ ap (λ (t : Token). is_keyword keywords.Not t.shape) (same x (kind ∷ behind) are).0 ∙ off))
      of_type_back code has part (chosen kind behind other inside more pick are also maybe picked ends so) = (
        inside,
        more,
        pick,
        subst (λ (ts : List Token). IsMaybe ts inside more) (same kind behind are).1 maybe,
        picked,
        gone_on true code pick more part ends (so ∙ ap (λ (n : ℕ). Chosen n pick) (same_kind code has kind behind other are also)),
      )
      of_type_back code has part (renamed kind behind other inside more pick renaming are also maybe picked becomes so) = (
        inside,
        more,
        pick,
        subst (λ (ts : List Token). IsMaybe ts inside more) (same kind behind are).1 maybe,
        picked,
        gone_on false code pick more part (ap is_empty becomes.clause.typed.are)
            (renaming, becomes, so ∙ ap (λ (n : ℕ). Renamed n pick renaming.kind renaming.head) (same_kind code has kind behind other are also)),
      )

      pub of_type_forth : (code : ℕ) → kind_in first.shape ≡ Some code → (part : Part) → IsOfType code rest part → IsPart tokens part
      of_type_forth code has part (inside, more, pick, maybe, picked, on) = by (is_empty more) refl on
        where
          by : (ends : Bool) → is_empty more ≡ ends → IsGoneOn ends code pick more part → IsPart tokens part
          by true ends so = chosen first rest code inside more pick here has maybe picked ends so
          by false ends (renaming, becomes, so) = renamed first rest code inside more pick renaming here has maybe picked becomes so

      -- neither
      pub none_here : kind_in first.shape ≡ None → (part : Part) → IsPart tokens part → ⊥
      none_here none part (all ends so) = true_false (sym ends ∙ empty)
      none_here none part (all_but x kind behind other are is also ends so) =
          true_false (sym is ∙ ap (λ (t : Token). is_keyword keywords.Not t.shape) (same x (kind ∷ behind) are).0 ∙ off)
      none_here none part (chosen kind behind other inside more pick are also maybe picked ends so) =
          none_some other (sym none ∙ ap (λ (t : Token). kind_in t.shape) (sym (same kind behind are).0) ∙ also)
      none_here none part (renamed kind behind other inside more pick renaming are also maybe picked becomes so) =
          none_some other (sym none ∙ ap (λ (t : Token). kind_in t.shape) (sym (same kind behind are).0) ∙ also)

-- What stands after a type.

pub no_gone_on : (kind : ℕ) (pick : Pick) (tokens : List Token) → is_empty tokens ≡ false → ((renaming : Renaming) → IsRenaming keywords.As pick tokens renaming → ⊥)
    → (part : Part) → IsGoneOn (is_empty tokens) kind pick tokens part → ⊥
no_gone_on kind pick tokens off never part is = let it = subst (λ (b : Bool). IsGoneOn b kind pick tokens part) off is in never it.0 it.1

abbrev pub IsBehindPick : ℕ → Part → Option (List Token) × List Token → Type 0
IsBehindPick kind part pair = (pick : Pick) × IsPicked pair.0 pick × IsGoneOn (is_empty pair.1) kind pick pair.1 part

pub of_type_after : (kind : ℕ) (tokens : List Token) (part : Part) → IsOfType kind tokens part → (pair : Option (List Token) × List Token)
    → ((other : Option (List Token) × List Token) → IsMaybe tokens other.0 other.1 → ◌≡◌ {A = Option (Option (List Token) × List Token)} (Some pair) (Some other))
    → IsBehindPick kind part pair
of_type_after kind tokens part is pair every = subst (IsBehindPick kind part) (sym (same_pair (every (is.0, is.1) is.3))) (is.2, is.4, is.5)
  where
    same_pair : {A : Type 0} {a b : A} → ◌≡◌ {A = Option A} (Some a) (Some b) → a ≡ b
    same_pair e = cc e
