-- The questions of a condition.
use Rattle.std.proofs.Common.{◌≡◌, ℕ, List, [], ◌∷◌, ◌++◌, Option, Some, None, refl, sym, ap, subst, ◌∙◌, append_assoc}
use Rattle.std.proofs.lemmas.List.{append-nil}
use Rattle.std.specs.Option.{is_some}
use Rattle.rz_lex.specs.Printed.{token_of}
use Rattle.rz_lex.specs.declared.token.Shape.TheVariants as shapes
use Rattle.rz_lex.specs.declared.token.Token.{Token}
use Rattle.rz_pre.specs.Condition.{answer, asked, nothing, question, stays, Asked, Tells}
use Rattle.rz_pre.specs.Live.{live_in, live_row, Live, Row}
use Rattle.rz_pre.proofs.Frames.{row_is, row_is_not}

pub found_is_live : (rows : List Row) (name : List ℕ) → is_some (live_row rows name) ≡ is_some (live_in rows name)
found_is_live rows name = by (live_row rows name) refl
  where
    by : (o : Option ℕ) → live_row rows name ≡ o → is_some (live_row rows name) ≡ is_some (live_in rows name)
    by None none = ap is_some none ∙ sym (ap is_some (row_is_not rows name none))
    by (Some k) found = ap is_some found ∙ sym (ap is_some (row_is rows name k found).1)

-- what is told so far, and what is left
pub record Telling (live : Live) (tokens rest told : List Token) : Type 0 where
  pub into : (back : List Token) → Tells live rest back → Tells live tokens (told ++ back)

module _ (live : Live) (tokens : List Token) where
  pub none_told : Telling live tokens tokens []
  none_told = record { into = λ back x. x }

  pub all_told : (told : List Token) → Telling live tokens [] told → Tells live tokens told
  all_told told t = subst (Tells live tokens) (append-nil told) (t.into [] (nothing refl))

  module _ (first : Token) (rest told : List Token) (t : Telling live tokens (first ∷ rest) told) where
    pub one_question : (name : List ℕ) (behind : List Token) → asked (first ∷ rest) ≡ Some (name, behind)
        → Telling live tokens behind (told ++ token_of first.mark (shapes.Number (answer live name)) ∷ [])
    one_question name behind is = record {
      into = λ back x. subst (Tells live tokens) (sym (append_assoc told (token_of first.mark (shapes.Number (answer live name)) ∷ []) back))
          (t.into (token_of first.mark (shapes.Number (answer live name)) ∷ back) (question name behind back is x refl));
    }

    pub one_other : asked (first ∷ rest) ≡ None → Telling live tokens rest (told ++ first ∷ [])
    one_other is = record {
      into = λ back x. subst (Tells live tokens) (sym (append_assoc told (first ∷ []) back)) (t.into (first ∷ back) (stays back is x refl));
    }

-- Tokens are told in one way.

abbrev name_of : Asked → List ℕ
name_of None = []
name_of (Some p) = p.0

abbrev rest_of : Asked → List Token
rest_of None = []
rest_of (Some p) = p.1

one_asked : (o : Asked) (name other : List ℕ) (behind rest : List Token) → o ≡ Some (name, behind) → o ≡ Some (other, rest) → (name ≡ other) × (behind ≡ rest)
one_asked o name other behind rest is also = (ap name_of (sym is ∙ also), ap rest_of (sym is ∙ also))

not_asked : (o : Asked) (name : List ℕ) (behind : List Token) → o ≡ None → o ≡ Some (name, behind) → ⊥
not_asked o name behind none some = cc

pub one_telling : {live : Live} {tokens one other : List Token} → Tells live tokens one → Tells live tokens other → one ≡ other
one_telling (nothing is) (nothing also) = is ∙ sym also
one_telling {live} (question {first} name behind back is x told) (question {told = told_too} name_too behind_too back_too is_too y also) =
    let same = one_asked _ name_too name behind_too behind is_too is in
    told
    ∙ ap (λ (n : List ℕ). token_of first.mark (shapes.Number (answer live n)) ∷ back) (sym same.0)
    ∙ ap (λ (ts : List Token). token_of first.mark (shapes.Number (answer live name_too)) ∷ ts) (one_telling x (subst (λ (ts : List Token). Tells live ts back_too) same.1 y))
    ∙ sym also
one_telling (question name behind back is x told) (stays back_too none y also) = absurd (not_asked _ name behind none is)
one_telling (stays back none x told) (question name behind back_too is y also) = absurd (not_asked _ name behind none is)
one_telling (stays {first} back none x told) (stays back_too none_too y also) = told ∙ ap (λ (ts : List Token). first ∷ ts) (one_telling x y) ∙ sym also
