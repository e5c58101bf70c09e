-- A message can say every fault of a line or a text.
use Rattle.std.proofs.Common.{◌≡◌, ℕ, ◌+◌, Bool, false, List, [], ◌∷◌, Option, Some, None, length, true, inl, inr, Result, Ok, Err, refl, arith, subst, sym}
use Rattle.std.specs.Prelude.{nat_lt, nat_le, ◌==◌, ◌&&◌, if◌then◌else◌}
use Rattle.rz_core.specs.Message.{is_fault, IsNameable}
use Rattle.rz_core.specs.declared.fault.Mark.{Mark}
use Rattle.rz_core.specs.declared.fault.Fault.{Fault}
use Rattle.rz_core.specs.declared.fault.Kept.{Kept}
use Rattle.rz_lex.specs.Classes.{is_digit, is_word_byte}
use Rattle.rz_lex.specs.Cutting.{IsBad, Refuses}
use Rattle.rz_lex.specs.Digits.{number_value}
use Rattle.rz_lex.specs.Escape.{text_value}
use Rattle.rz_lex.specs.Hex.{hex_value}
use Rattle.rz_lex.specs.Shape.{dollar_shape, fault_at, hex_shape, inside, is_long, literal_shape, no_lexeme_fault, number_shape, opens_quote, shape_of, sign_shape, text_shape, valued_shape, word_shape}
use Rattle.rz_lex.specs.Sign.{sign_of}
use Rattle.rz_lex.specs.declared.sign.Sign.{Sign}
use Rattle.rz_lex.specs.declared.token.Shape.{Shape}
use Rattle.rz_core.proofs.Tests.{by_test}

pub marked : (mark : Mark) (number : ℕ) (kept : Kept) → is_fault number ≡ true → IsNameable (mark.file + 1) (fault_at mark number kept)
marked mark number kept named = record { number = named; place = omega arith }

-- where there is a fault, a message can say it
abbrev IsSaid : Mark → Result Shape Fault → Type 0
IsSaid mark (Ok shape) = Unit {0}
IsSaid mark (Err fault) = IsNameable (mark.file + 1) fault

if_said : (mark : Mark) (test : Bool) (one other : Result Shape Fault) → IsSaid mark one → IsSaid mark other → IsSaid mark (if test then one else other)
if_said mark true one other said also = said
if_said mark false one other said also = also

word_said : (mark : Mark) (bs : List ℕ) → IsSaid mark (word_shape mark bs)
word_said mark bs = if_said mark (is_long bs) _ _ (marked mark 115 _ refl) tt

valued_said : (mark : Mark) (bs : List ℕ) (value : Option ℕ) → IsSaid mark (valued_shape mark bs value)
valued_said mark bs (Some value) = tt
valued_said mark bs None = marked mark 110 _ refl

number_said : (mark : Mark) (bs : List ℕ) → IsSaid mark (number_shape mark bs)
number_said mark bs = if_said mark (is_long bs) _ _ (marked mark 115 _ refl) (valued_said mark bs (number_value bs))

literal_said : (mark : Mark) (bs : List ℕ) (value : Option (List ℕ)) → IsSaid mark (literal_shape mark bs value)
literal_said mark bs None = marked mark 109 _ refl
literal_said mark bs (Some value) = if_said mark (nat_lt 0 (length value) && nat_le (length value) 4) _ _ tt (marked mark 110 _ refl)

text_said : (mark : Mark) (bs : List ℕ) (value : Option (List ℕ)) → IsSaid mark (text_shape mark bs value)
text_said mark bs None = marked mark 109 _ refl
text_said mark bs (Some value) = tt

hex_said : (mark : Mark) (value : Option (List ℕ)) → IsSaid mark (hex_shape mark value)
hex_said mark None = marked mark 113 _ refl
hex_said mark (Some value) = tt

dollar_said : (mark : Mark) (bs behind : List ℕ) → IsSaid mark (dollar_shape mark bs behind)
dollar_said mark bs [] = word_said mark bs
dollar_said mark bs (c ∷ cs) =
    if_said mark (c == 34) _ _ (hex_said mark (hex_value (inside 2 bs))) (if_said mark (c == 36) _ _ (word_said mark bs) (number_said mark bs))

sign_said : (mark : Mark) (first : ℕ) (sign : Option Sign) → IsSaid mark (sign_shape mark first sign)
sign_said mark first (Some sign) = tt
sign_said mark first None = marked mark 111 _ refl

shape_said : (mark : Mark) (bs : List ℕ) → IsSaid mark (shape_of mark bs)
shape_said mark [] = marked mark 111 _ refl
shape_said mark (b ∷ bs) =
    if_said mark (is_digit b) _ _ (number_said mark (b ∷ bs))
    (if_said mark (is_word_byte b) _ _ (word_said mark (b ∷ bs))
    (if_said mark (b == 39) _ _ (literal_said mark (b ∷ bs) (text_value 0 (inside 1 (b ∷ bs))))
    (if_said mark (b == 34) _ _ (text_said mark (b ∷ bs) (text_value 0 (inside 1 (b ∷ bs))))
    (if_said mark (b == 36) _ _ (dollar_said mark (b ∷ bs) bs) (sign_said mark b (sign_of (b ∷ bs)))))))

no_lexeme_said : (mark : Mark) (rest : List ℕ) → IsNameable (mark.file + 1) (no_lexeme_fault mark rest)
no_lexeme_said mark [] = marked mark 111 _ refl
no_lexeme_said mark (b ∷ bs) = by_test (IsNameable (mark.file + 1) (no_lexeme_fault mark (b ∷ bs))) (opens_quote b bs) (λ h. rw h (marked mark 108 _ refl)) (λ h. rw h (marked mark 111 _ refl))

bad_said : (mark : Mark) (rest : List ℕ) (fault : Fault) → IsBad mark rest fault → IsNameable (mark.file + 1) fault
bad_said mark rest fault (inl none) = subst (λ (x : Fault). IsNameable (mark.file + 1) x) (sym none.1) (no_lexeme_said mark rest)
bad_said mark rest fault (inr read) = subst (IsSaid mark) read.3 (shape_said mark read.0)

-- the first fault of a line
pub refused_said : (mark : Mark) (line : List ℕ) (fault : Fault) → Refuses mark line fault → IsNameable (mark.file + 1) fault
refused_said mark line fault bad = bad_said mark _ fault bad.bad
