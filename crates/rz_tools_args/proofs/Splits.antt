-- Where a definition is split.
use Rattle.std.proofs.Common.{◌≡◌, ℕ, suc, List, [], ◌∷◌, ◌++◌, length, get_or, Some, None, refl, sym, ap, subst, ◌∙◌, arith, length-append}
use Rattle.std.specs.Borrow.{Bor}
use Rattle.std.specs.Prelude.{Option, MatchOption}
use Rattle.std.proofs.lemmas.Str.Pattern.{split_after, split_parts, IsSplitOnceResult}
use Rattle.rz_pre.specs.declared.program.Def.{Def}
use Rattle.rz_tools_args.specs.Definition.{Alone, Defines, HasNoSign, WithText}
use Rattle.rz_tools_args.specs.Definition.Defines.{alone, with_text}

at_end : (front behind : List ℕ) (b : ℕ) → get_or (front ++ b ∷ behind) (length front) 0 ≡ b
at_end [] behind b = refl
at_end (x ∷ front) behind b = at_end front behind b

-- bytes with an `=` after some have one
pub has_sign : (value front behind : List ℕ) → value ≡ front ++ 61 ∷ behind → HasNoSign value → ⊥
has_sign value front behind is lacks =
    lacks (length front) (omega (arith, ap (λ (bs : List ℕ). length bs) is, length-append front (61 ∷ behind)))
    (ap (λ (bs : List ℕ). get_or bs (length front) 0) is ∙ at_end front behind 61)

-- bytes are split at their first `=` in one way
no_sign_ahead : (b : ℕ) (name text rest : List ℕ) → 61 ∷ text ≡ b ∷ rest → HasNoSign (b ∷ name) → ⊥
no_sign_ahead b name text rest is lacks = lacks 0 (omega arith) (cc is)

behind_first : (b : ℕ) (name : List ℕ) → HasNoSign (b ∷ name) → HasNoSign name
behind_first b name lacks i within = lacks (suc i) (omega (arith, within))

pub one_split : (name other text behind : List ℕ) → HasNoSign name → HasNoSign other → name ++ 61 ∷ text ≡ other ++ 61 ∷ behind → (name ≡ other) × (text ≡ behind)
one_split [] [] text behind lacks lacks_too is = (refl, cc is)
one_split [] (b ∷ other) text behind lacks lacks_too is = absurd (no_sign_ahead b other text (other ++ 61 ∷ behind) is lacks_too)
one_split (a ∷ name) [] text behind lacks lacks_too is = absurd (no_sign_ahead a name behind (name ++ 61 ∷ text) (sym is) lacks)
one_split (a ∷ name) (b ∷ other) text behind lacks lacks_too is =
    let rest = one_split name other text behind (behind_first a name lacks) (behind_first b other lacks_too) (cc is) in
    let first : a ≡ b = cc is in
    ((λ i. first i ∷ rest.0 i), rest.1)

module _ (value : List ℕ) (result : Option (Bor (List ℕ) × Bor (List ℕ))) (splits : IsSplitOnceResult 61 value result) where
  -- it is split into these
  module _ (name text : Bor (List ℕ)) (is : result ≡ Some (name, text)) where
    parts : (value ≡ name.now ++ 61 ∷ text.now) × HasNoSign name.now
    parts = subst (λ (r : Option (Bor (List ℕ) × Bor (List ℕ))).
        MatchOption r (HasNoSign value) (λ x. (value ≡ x.0.now ++ (61 ∷ x.1.now)) × HasNoSign x.0.now)) is (split_parts 61 value result splits (omega arith))

    pub text_there : (def : Def) → WithText name.now text.now def → Defines value def
    text_there def it = with_text name.now text.now parts.1 parts.0 it

    pub text_back : (def : Def) → Defines value def → WithText name.now text.now def
    text_back def (alone lacks it) = absurd (has_sign value name.now text.now parts.0 lacks)
    text_back def (with_text other behind lacks eq it) =
        let same : (name.now ≡ other) × (text.now ≡ behind) = subst (λ (r : Option (Bor (List ℕ) × Bor (List ℕ))).
        MatchOption r ⊥ (λ x. (x.0.now ≡ other) × (x.1.now ≡ behind))) is (split_after 61 value other behind result splits (omega arith) eq lacks) in
        subst (λ (n : List ℕ). WithText n text.now def) (sym same.0) (subst (λ (t : List ℕ). WithText other t def) (sym same.1) it)

  -- it isn't split
  module _ (is : result ≡ None) where
    pub alone_there : (def : Def) → Alone value def → Defines value def
    alone_there def it = alone (subst (λ (r : Option (Bor (List ℕ) × Bor (List ℕ))).
        MatchOption r (HasNoSign value) (λ x. (value ≡ x.0.now ++ (61 ∷ x.1.now)) × HasNoSign x.0.now)) is (split_parts 61 value result splits (omega arith))) it

    pub alone_back : (def : Def) → Defines value def → Alone value def
    alone_back def (alone lacks it) = it
    alone_back def (with_text other behind lacks eq it) = absurd (subst (λ (r : Option (Bor (List ℕ) × Bor (List ℕ))).
        MatchOption r ⊥ (λ x. (x.0.now ≡ other) × (x.1.now ≡ behind))) is (split_after 61 value other behind result splits (omega arith) eq lacks))
