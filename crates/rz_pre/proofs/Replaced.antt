-- The tokens of a line while they are replaced.
use Rattle.std.proofs.Common.{◌≡◌, ℕ, true, false, Option, Some, None, inl, inr, List, [], ◌∷◌, ◌++◌, map, refl, sym, ap, subst, ◌∙◌, arith, append_assoc, length}
use Rattle.std.proofs.lemmas.List.{append-nil}
use Rattle.rz_core.specs.declared.fault.Fault.{Fault}
use Rattle.rz_lex.specs.Printed.{token_of}
use Rattle.rz_lex.specs.declared.token.Shape.{Shape}
use Rattle.rz_lex.specs.declared.token.Token.{Token}
use Rattle.rz_pre.specs.Expand.{ExpandsTo, IsTooLong}
use Rattle.rz_pre.specs.Expanded.{too_long, ExpandInto, FirstTooLong, PutsInPlace}
use Rattle.rz_pre.specs.Live.{are_bare, live_in, token_row, Live, Row}
use Rattle.rz_pre.proofs.Made.{made_plain}
use Rattle.rz_pre.proofs.One.{one_expansion}

-- what was replaced so far, and what is left
pub record Replacing (live : Live) (tokens rest done : List Token) : Type 0 where
  pub into : (out : List Token) → ExpandInto live rest out → ExpandInto live tokens (done ++ out)
  pub fails : (fault : Fault) → FirstTooLong live rest fault → FirstTooLong live tokens fault

module _ (live : Live) (tokens : List Token) where
  pub none_replaced : Replacing live tokens tokens []
  none_replaced = record {
    into = λ out x. x;
    fails = λ fault x. x;
  }

  pub all_replaced : (done : List Token) → Replacing live tokens [] done → ExpandInto live tokens done
  all_replaced done r = subst (ExpandInto live tokens) (append-nil done) (r.into [] refl)

  module _ (token : Token) (rest done : List Token) (r : Replacing live tokens (token ∷ rest) done) where
    pub one_more : (front : List Token) → ExpandsTo live token front → Replacing live tokens rest (done ++ front)
    one_more front e = record {
      into = λ out x. subst (ExpandInto live tokens) (sym (append_assoc done front out)) (r.into (front ++ out) (front, out, refl, e, x));
      fails = λ fault x. r.fails fault (inr (front, e, x));
    }

    -- the next token is replaced, and what stands in its place is put after what was put out before
    pub one_more_put : (after : List Token) → PutsInPlace live token done after → Replacing live tokens rest after
    one_more_put after (front, e, is) = subst (Replacing live tokens rest) (sym is) (one_more front e)

    pub stopped : (fault : Fault) → IsTooLong live token → fault ≡ too_long token → FirstTooLong live tokens fault
    stopped fault long is = r.fails fault (inl (long, is))

-- tokens of which none is a live macro are replaced by themselves
pub all_bare : (rows : List Row) (tokens : List Token) → are_bare rows tokens ≡ true → ExpandInto (live_in rows) tokens tokens
all_bare rows [] is = refl
all_bare rows (token ∷ tokens) is = by (token_row rows token.shape) refl (all_bare rows tokens)
  where
    by : (o : Option ℕ) → token_row rows token.shape ≡ o → (are_bare rows tokens ≡ true → ExpandInto (live_in rows) tokens tokens)
        → ExpandInto (live_in rows) (token ∷ tokens) (token ∷ tokens)
    by None none more =
        let later : are_bare rows tokens ≡ true = rw none at is in
        (token ∷ [], tokens, refl, made_plain rows token (token ∷ []) none refl, more later)
    by (Some k) some more = (let never : false ≡ true = rw some at is in absurd cc)

-- At most one answer.

pub one_in_place : (live : Live) (token : Token) (one other : List Token) → ExpandsTo live token one → ExpandsTo live token other → one ≡ other
one_in_place live token one other e f = e.placed ∙ ap (λ (shapes : List Shape). map (token_of token.mark) shapes) (one_expansion e.expansion f.expansion).0 ∙ sym f.placed

never_long : (live : Live) (token : Token) (out : List Token) → ExpandsTo live token out → IsTooLong live token → ⊥
never_long live token out e long = let over = long e.shapes e.work e.expansion in omega (arith, e.few, over)

pub one_line : (live : Live) (tokens one other : List Token) → ExpandInto live tokens one → ExpandInto live tokens other → one ≡ other
one_line live [] one other x y = x ∙ sym y
one_line live (token ∷ tokens) one other x y =
    x.2 ∙ ap (λ (ts : List Token). ts ++ x.1) (one_in_place live token x.0 y.0 x.3 y.3)
    ∙ ap (λ (ts : List Token). y.0 ++ ts) (one_line live tokens x.1 y.1 x.4 y.4) ∙ sym y.2

pub line_or_fault : (live : Live) (tokens out : List Token) (fault : Fault) → ExpandInto live tokens out → FirstTooLong live tokens fault → ⊥
line_or_fault live [] out fault x y = y
line_or_fault live (token ∷ tokens) out fault x (inl y) = never_long live token x.0 x.3 y.0
line_or_fault live (token ∷ tokens) out fault x (inr y) = line_or_fault live tokens x.1 fault x.4 y.2

pub one_fault : (live : Live) (tokens : List Token) (one other : Fault) → FirstTooLong live tokens one → FirstTooLong live tokens other → one ≡ other
one_fault live [] one other x y = absurd x
one_fault live (token ∷ tokens) one other (inl x) (inl y) = x.1 ∙ sym y.1
one_fault live (token ∷ tokens) one other (inl x) (inr y) = absurd (never_long live token y.0 y.1 x.0)
one_fault live (token ∷ tokens) one other (inr x) (inl y) = absurd (never_long live token x.0 x.1 y.0)
one_fault live (token ∷ tokens) one other (inr x) (inr y) = one_fault live tokens one other x.2 y.2

pub no_rest : (tokens : List Token) → length tokens ≡ 0 → tokens ≡ []
no_rest [] none = refl
no_rest (token ∷ tokens) none = absurd (omega (arith, none))
