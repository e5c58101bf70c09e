-- What each kind of part takes is the front of the text.
use Rattle.std.proofs.Common.{◌≡◌, ℕ, Bool, true, false, List, [], ◌∷◌, ◌++◌, drop, Option, Some, ap, subst}
use Rattle.std.specs.Prelude.{◌==◌, ◌&&◌, if◌then◌else◌}
use Rattle.rz_lex.specs.declared.joined.Placed.{Placed}
use Rattle.rz_lex.specs.Classes.{is_quote}
use Rattle.rz_lex.specs.Joined.{is_at}
use Rattle.rz_lex.specs.Cover.{after_close, after_part, after_quote, after_taken, after_text, begins}

-- something stands before the rest, and nothing else
abbrev pub Front : List Placed → List Placed → Type 0
Front text rest = (front : List Placed) × (text ≡ front ++ rest)

abbrev pub one_more : (first : Placed) (text rest : List Placed) → Front text rest → Front (first ∷ text) rest
one_more first text rest f = (first ∷ f.0, ap (λ (ys : List Placed). first ∷ ys) f.1)

abbrev pub nothing : (text : List Placed) → Front text text
nothing text = ([], refl_of text)
  where
    refl_of : (xs : List Placed) → xs ≡ [] ++ xs
    refl_of xs = λ i. xs

abbrev pub one : (first : Placed) (text : List Placed) → Front (first ∷ text) text
one first text = (first ∷ [], λ i. first ∷ text)

either_rest : (b : Bool) (text y z : List Placed) → Front text y → Front text z → Front text (if b then y else z)
either_rest true text y z f g = f
either_rest false text y z f g = g

pub text_front : (text : List Placed) → Front text (after_text text)
text_front [] = nothing []
text_front (a ∷ rest) =
    either_rest (a.byte == 10) (a ∷ rest) (a ∷ rest) (after_text rest) (nothing (a ∷ rest)) (one_more a rest (after_text rest) (text_front rest))

mutual
  pub quote_front : (quote : ℕ) (text : List Placed) → Front text (after_quote quote text)
  quote_front quote [] = nothing []
  quote_front quote (a ∷ rest) =
      either_rest (a.byte == 10) (a ∷ rest) (a ∷ rest) (if a.byte == quote then rest else if a.byte == 92 then after_taken quote rest else after_quote quote rest) (nothing (a ∷ rest))
      (either_rest (a.byte == quote) (a ∷ rest) rest (if a.byte == 92 then after_taken quote rest else after_quote quote rest) (one a rest)
      (either_rest (a.byte == 92) (a ∷ rest) (after_taken quote rest) (after_quote quote rest)
      (one_more a rest (after_taken quote rest) (taken_front quote rest)) (one_more a rest (after_quote quote rest) (quote_front quote rest))))

  pub taken_front : (quote : ℕ) (text : List Placed) → Front text (after_taken quote text)
  taken_front quote [] = nothing []
  taken_front quote (a ∷ rest) =
      either_rest (a.byte == 10) (a ∷ rest) (a ∷ rest) (after_quote quote rest) (nothing (a ∷ rest)) (one_more a rest (after_quote quote rest) (quote_front quote rest))

drop_one : (text : List Placed) → Front text (drop 1 text)
drop_one [] = nothing []
drop_one (a ∷ rest) = one a rest

close_step : (b : Bool) (a : Placed) (text rest : List Placed) (later : Option (List Placed)) → (later ≡ Some rest → Front text rest)
    → (if b then Some (drop 1 text) else later) ≡ Some rest → Front (a ∷ text) rest
close_step true a text rest later f e =
    let same : drop 1 text ≡ rest = cc in one_more a text rest (subst (λ (y : List Placed). Front text y) same (drop_one text))
close_step false a text rest later f e = one_more a text rest (f e)

pub close_front : (text rest : List Placed) → after_close text ≡ Some rest → Front text rest
close_front [] rest e = absurd cc
close_front (a ∷ text) rest e = close_step (a.byte == 42 && is_at 47 text) a text rest (after_close text) (close_front text rest) e

-- Any part.

close_behind : (text rest : List Placed) → after_close (drop 1 text) ≡ Some rest → Front text rest
close_behind [] rest e = absurd cc
close_behind (a ∷ text) rest e = one_more a text rest (close_front text rest e)

front_is : (text y z : List Placed) → Front text y → y ≡ z → Front text z
front_is text y z f e = subst (λ (x : List Placed). Front text x) e f

some_is : (y z : List Placed) → Some y ≡ Some z → y ≡ z
some_is y z e = cc

by_kind : (block slashes quoted : Bool) (quote : ℕ) (text rest : List Placed)
    → (if block then after_close (drop 1 text) else if slashes then Some (after_text text) else if quoted then Some (after_quote quote text) else Some text) ≡ Some rest
    → Front text rest
by_kind true slashes quoted quote text rest e = close_behind text rest e
by_kind false true quoted quote text rest e = front_is text (after_text text) rest (text_front text) (some_is (after_text text) rest e)
by_kind false false true quote text rest e = front_is text (after_quote quote text) rest (quote_front quote text) (some_is (after_quote quote text) rest e)
by_kind false false false quote text rest e = front_is text text rest (nothing text) (some_is text rest e)

-- what a part leaves stands after its first byte
pub part_front : (first : Placed) (text rest : List Placed) → after_part (first ∷ text) ≡ Some rest → Front text rest
part_front first text rest e = by_kind (begins 47 42 (first ∷ text)) (begins 47 47 (first ∷ text)) (is_quote first.byte) first.byte text rest e
