-- Words that become numbers.
use Rattle.std.proofs.Common.{◌≡◌, List, [], ◌∷◌, ◌++◌, Option, Some, None, refl, sym, ap, ◌∙◌, append_assoc}
use Rattle.std.specs.Prelude.{option_map}
use Rattle.std.proofs.lemmas.List.{append-nil}
use Rattle.rz_lex.specs.Printed.{token_of}
use Rattle.rz_lex.specs.declared.token.Shape.{Shape}
use Rattle.rz_lex.specs.declared.token.Token.{Token}
use Rattle.rz_pre.specs.Condition.{numbered, numbered_shape, put_front}
use Rattle.rz_pre.specs.declared.condition.Tool.{Tool}

-- after these
abbrev behind : List Token → Option (List Token) → Option (List Token)
behind front rest = option_map (λ (ts : List Token). front ++ ts) rest

-- what is a number so far, and what is left
pub record Numbering (tool : Tool) (tokens rest numbers : List Token) : Type 0 where
  pub so_far : numbered tool tokens ≡ behind numbers (numbered tool rest)

no_front : (o : Option (List Token)) → o ≡ behind [] o
no_front None = refl
no_front (Some ts) = refl

one_behind : (numbers : List Token) (t : Token) (o : Option (List Token)) → behind numbers (option_map (λ (ts : List Token). t ∷ ts) o) ≡ behind (numbers ++ t ∷ []) o
one_behind numbers t None = refl
one_behind numbers t (Some ts) = ap (λ (xs : List Token). Some xs) (sym (append_assoc numbers (t ∷ []) ts))

module _ (tool : Tool) (tokens : List Token) where
  pub none_numbered : Numbering tool tokens tokens []
  none_numbered = record { so_far = no_front (numbered tool tokens) }

  pub all_numbered : (numbers : List Token) → Numbering tool tokens [] numbers → Some numbers ≡ numbered tool tokens
  all_numbered numbers n = sym (n.so_far ∙ ap (λ (xs : List Token). Some xs) (append-nil numbers))

  module _ (first : Token) (rest numbers : List Token) (n : Numbering tool tokens (first ∷ rest) numbers) where
    pub one_number : (shape : Shape) → Some shape ≡ numbered_shape tool first.shape → Numbering tool tokens rest (numbers ++ token_of first.mark shape ∷ [])
    one_number shape is = record {
      so_far = n.so_far
          ∙ ap (λ (o : Option Shape). behind numbers (put_front first.mark o (numbered tool rest))) (sym is)
          ∙ one_behind numbers (token_of first.mark shape) (numbered tool rest);
    }

    pub a_function : None ≡ numbered_shape tool first.shape → None ≡ numbered tool tokens
    a_function is = sym (n.so_far ∙ ap (λ (o : Option Shape). behind numbers (put_front first.mark o (numbered tool rest))) (sym is))
