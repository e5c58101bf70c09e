-- A word and a type in front are one type at most, and of all tokens it is decided whether they stand there.
use Rattle.std.proofs.Common.{◌≡◌, ℕ, true, List, [], ◌∷◌, Some, refl, sym, ap, subst, ◌∙◌}
use Rattle.std.proofs.Math.Decide.{map_dec}
use Rattle.std.specs.List.{AllByRecursion}
use Rattle.rz_core.proofs.EveryCut.{both, is_true, some_of}
use Rattle.rz_core.proofs.Tests.{same_some}
use Rattle.rz_expr.specs.Keyword.{is_keyword}
use Rattle.rz_words.specs.declared.keyword.Keyword.{Keyword}
use Rattle.rz_lex.specs.declared.token.Token.{Token}
use Rattle.rz_stmt_brackets.specs.Kind.{kind_in}
use Rattle.rz_stmt_data.specs.Typed.{IsTyped, Typed}

-- the word, the type, and what stands after them
pub same_tokens : (a b x y : Token) (us vs : List Token) → a ∷ b ∷ us ≡ x ∷ y ∷ vs → (a ≡ x) × (b ≡ y) × (us ≡ vs)
same_tokens a b x y us vs is = (cc is, cc is, cc is)

module _ (keyword : Keyword) where
  pub one_typed : (tokens : List Token) (a b : Typed) → IsTyped keyword tokens a → IsTyped keyword tokens b → a ≡ b
  one_typed tokens a b is also =
      let same = same_tokens is.word is.kind also.word also.kind a.behind b.behind (sym is.are ∙ also.are) in
      let kind = same_some (kind_in also.kind.shape) a.kind b.kind (ap (λ (t : Token). kind_in t.shape) (sym same.1) ∙ is.has_kind) also.has_kind in
      λ i. record { kind = kind i; behind = same.2 i }

  pub is_typed : (tokens : List Token) → Dec ((typed : Typed) × IsTyped keyword tokens typed)
  is_typed [] = no (λ h. none h.1.word h.1.kind h.0.behind h.1.are)
    where
      none : (x y : Token) (us : List Token) → [] ≡ x ∷ y ∷ us → ⊥
      none x y us is = cc is
  is_typed (token ∷ []) = no (λ h. none h.1.word h.1.kind h.0.behind h.1.are)
    where
      none : (x y : Token) (us : List Token) → token ∷ [] ≡ x ∷ y ∷ us → ⊥
      none x y us is = cc is
  is_typed (word ∷ kind ∷ behind) = map_dec to from (both (is_true (is_keyword keyword word.shape)) (some_of (kind_in kind.shape)))
    where
      to : (is_keyword keyword word.shape ≡ true) × ((code : ℕ) × (kind_in kind.shape ≡ Some code)) → (typed : Typed) × IsTyped keyword (word ∷ kind ∷ behind) typed
      to (is, code) = (record { kind = code.0; behind = behind }, record { word = word; kind = kind; are = refl; is_word = is; has_kind = code.1 })

      from : (typed : Typed) × IsTyped keyword (word ∷ kind ∷ behind) typed → (is_keyword keyword word.shape ≡ true) × ((code : ℕ) × (kind_in kind.shape ≡ Some code))
      from h =
          let same = same_tokens word kind h.1.word h.1.kind behind h.0.behind h.1.are in
          (ap (λ (t : Token). is_keyword keyword t.shape) same.0 ∙ h.1.is_word, (h.0.kind, ap (λ (t : Token). kind_in t.shape) same.1 ∙ h.1.has_kind))

  -- what holds of each token holds of each after them
  pub typed_each : (P : Token → Type 0) (tokens : List Token) (typed : Typed) → IsTyped keyword tokens typed → AllByRecursion P tokens → AllByRecursion P typed.behind
  typed_each P tokens typed is are = (subst (AllByRecursion P) is.are are).1.1
