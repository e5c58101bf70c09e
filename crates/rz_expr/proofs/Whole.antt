-- Tokens that are an expression, whole.
use Rattle.std.proofs.Common.{◌≡◌, ◌≢◌, ◌⊎◌, inl, inr, ℕ, zero, suc, ◌≤◌, Bool, List, [], ◌∷◌, ◌++◌, drop, length, refl, sym, ap, subst, ◌∙◌, arith}
use Rattle.std.proofs.lemmas.Bool.{false≢true}
use Rattle.std.proofs.lemmas.List.{append-nil, drop_all, length-drop}
use Rattle.rz_lex.specs.declared.token.Token.{Token}
use Rattle.rz_expr.specs.declared.operators.Frame.{Frame}
use Rattle.rz_expr.specs.declared.operators.Frame.TheVariants.{InIndex}
use Rattle.rz_expr.specs.Grammar.{loosest, Derives, tighter, IsExpression, LongestExpression}
use Rattle.rz_expr.specs.Reading.{IsFront}
use Rattle.rz_expr.specs.Term.{Term}
use Rattle.rz_expr.proofs.Steps.{longest, none_at_all, none_in_nothing}
use Rattle.rz_expr.specs.Fronts.{ends_labelled, NoneBegins, NoneEnds, Stops}

-- Two tokens at most have no operator between operands.

none_left : (t : Token) (left : List Token) → length (t ∷ left) ≤ 1 → [] ≡ left
none_left t [] few = refl
none_left t (u ∷ left) few = absurd (omega (arith, few))

none_ends_nothing : (frame : Frame) → NoneEnds frame []
none_ends_nothing frame [] left below whole h = false≢true h
none_ends_nothing frame (t ∷ front) left below whole h = cc

-- before one token at most an expression of any level stops
stops_before_one : (level : ℕ) (label : Bool) (rest : List Token) → length rest ≤ 1 → Stops level label rest
stops_before_one level label rest few = record {
  operator = λ t left op is operates low. subst NoneBegins (none_left t left (subst (λ (l : List Token). length l ≤ 1) is few)) none_in_nothing;
  index = λ t left named is begins. subst (NoneEnds InIndex) (none_left t left (subst (λ (l : List Token). length l ≤ 1) is few)) (none_ends_nothing InIndex);
}

loosened : (level : ℕ) {ts : List Token} {e : Term} → Derives 0 ts e → Derives level ts e
loosened zero d = d
loosened (suc level) d = tighter (loosened level d)

few_front : (ts : List Token) (n : ℕ) (e : Term) → length ts ≤ 2 → IsFront 0 ts n e → IsFront loosest ts n e
few_front ts n e few f = record {
  some = f.some;
  within = f.within;
  reads = record {
    front = f.reads.front;
    whole = f.reads.whole;
    derives = loosened loosest f.reads.derives;
    stops = stops_before_one loosest (ends_labelled (loosened loosest f.reads.derives)) (drop n ts) (omega (arith, few, f.some, length-drop n ts));
  };
}

-- what was read with the operators that these tokens can have
pub front_in : (level : ℕ) (ts : List Token) (n : ℕ) (e : Term) → (level ≡ loosest) ⊎ ((level ≡ 0) × (length ts ≤ 2)) → IsFront level ts n e → IsFront loosest ts n e
front_in level ts n e (inl is) f = subst (λ (l : ℕ). IsFront l ts n e) is f
front_in level ts n e (inr is) f = few_front ts n e is.1 (subst (λ (l : ℕ). IsFront l ts n e) is.0 f)

module _ (ts : List Token) (n : ℕ) (e : Term) (f : IsFront loosest ts n e) where
  all : LongestExpression ts (drop n ts) e
  all = longest ts n e f

  pub whole : n ≡ length ts → IsExpression ts e
  whole same =
      let rest : drop n ts ≡ [] = drop_all n ts (omega (arith, same)) in
      subst (λ (l : List Token). IsExpression l e) (sym (all.whole ∙ ap (λ (l : List Token). all.front ++ l) rest ∙ append-nil all.front)) all.is

  pub not_whole : n ≢ length ts → (term : Term) → IsExpression ts term → ⊥
  not_whole other term is =
      all.longest (drop n ts) [] term (sym (append-nil (drop n ts)))
      (λ rest. other (omega (arith, f.within, length-drop n ts, ap (λ (l : List Token). length l) rest)))
      (subst (λ (l : List Token). IsExpression l term) all.whole is)

pub none_whole : (ts : List Token) → NoneBegins ts → (term : Term) → IsExpression ts term → ⊥
none_whole ts none term is = none_at_all ts none ts [] term (sym (append-nil ts)) is
