-- The numbers of the faults of a line.
use Rattle.std.proofs.Common.{◌≡◌, ◌+◌, ℕ, Bool, false, true, List, [], ◌∷◌, Option, Some, None, length, inl, inr, Result, Ok, Err, refl, ap, subst, sym}
use Rattle.std.specs.Prelude.{nat_lt, nat_le, ◌==◌, ◌&&◌, if◌then◌else◌}
use Rattle.rz_core.specs.Message.{is_between, IsNameable}
use Rattle.rz_core.specs.Stop.{OnFault}
use Rattle.rz_core.specs.declared.fault.Fault.{Fault}
use Rattle.rz_core.specs.declared.fault.Mark.{Mark}
use Rattle.rz_core.specs.declared.stop.Stop.{Stop}
use Rattle.rz_core.specs.declared.stop.Stop.TheVariants as stops
use Rattle.rz_lex.specs.Classes.{is_digit, is_word_byte}
use Rattle.rz_lex.specs.Cutting.{IsBad, Refuses}
use Rattle.rz_lex.specs.Digits.{number_value}
use Rattle.rz_lex.specs.Escape.{text_value}
use Rattle.rz_lex.specs.Hex.{hex_value}
use Rattle.rz_lex.specs.Lines.{HasOpenComment}
use Rattle.rz_lex.specs.Shape.{dollar_shape, hex_shape, inside, is_long, literal_shape, no_lexeme_fault, number_shape, opens_quote, shape_of, sign_shape, text_shape, valued_shape, word_shape}
use Rattle.rz_lex.specs.Sign.{sign_of}
use Rattle.rz_lex.specs.declared.joined.Placed.{Placed}
use Rattle.rz_lex.specs.declared.sign.Sign.{Sign}
use Rattle.rz_lex.specs.declared.token.Shape.{Shape}
use Rattle.rz_pre.specs.Placed.{IsSourceFault}

-- a fault of sources
abbrev IsOne : Fault → Type 0
IsOne fault = is_between 101 115 fault.number ≡ true

abbrev IfFault : Result Shape Fault → Type 0
IfFault (Ok shape) = Unit {0}
IfFault (Err fault) = IsOne fault

either : (test : Bool) (one other : Result Shape Fault) → IfFault one → IfFault other → IfFault (if test then one else other)
either true one other is also = is
either false one other is also = also

word : (mark : Mark) (bs : List ℕ) → IfFault (word_shape mark bs)
word mark bs = either (is_long bs) _ _ refl tt

valued : (mark : Mark) (bs : List ℕ) (value : Option ℕ) → IfFault (valued_shape mark bs value)
valued mark bs (Some value) = tt
valued mark bs None = refl

number : (mark : Mark) (bs : List ℕ) → IfFault (number_shape mark bs)
number mark bs = either (is_long bs) _ _ refl (valued mark bs (number_value bs))

literal : (mark : Mark) (bs : List ℕ) (value : Option (List ℕ)) → IfFault (literal_shape mark bs value)
literal mark bs None = refl
literal mark bs (Some value) = either (nat_lt 0 (length value) && nat_le (length value) 4) _ _ tt refl

text : (mark : Mark) (bs : List ℕ) (value : Option (List ℕ)) → IfFault (text_shape mark bs value)
text mark bs None = refl
text mark bs (Some value) = tt

hex : (mark : Mark) (value : Option (List ℕ)) → IfFault (hex_shape mark value)
hex mark None = refl
hex mark (Some value) = tt

dollar : (mark : Mark) (bs behind : List ℕ) → IfFault (dollar_shape mark bs behind)
dollar mark bs [] = word mark bs
dollar mark bs (c ∷ cs) = either (c == 34) _ _ (hex mark (hex_value (inside 2 bs))) (either (c == 36) _ _ (word mark bs) (number mark bs))

signed : (mark : Mark) (first : ℕ) (found : Option Sign) → IfFault (sign_shape mark first found)
signed mark first (Some found) = tt
signed mark first None = refl

shape : (mark : Mark) (bs : List ℕ) → IfFault (shape_of mark bs)
shape mark [] = refl
shape mark (b ∷ bs) =
    either (is_digit b) _ _ (number mark (b ∷ bs))
    (either (is_word_byte b) _ _ (word mark (b ∷ bs))
    (either (b == 39) _ _ (literal mark (b ∷ bs) (text_value 0 (inside 1 (b ∷ bs))))
    (either (b == 34) _ _ (text mark (b ∷ bs) (text_value 0 (inside 1 (b ∷ bs))))
    (either (b == 36) _ _ (dollar mark (b ∷ bs) bs) (signed mark b (sign_of (b ∷ bs)))))))

no_lexeme : (mark : Mark) (rest : List ℕ) → IsOne (no_lexeme_fault mark rest)
no_lexeme mark [] = refl
no_lexeme mark (b ∷ bs) = by (opens_quote b bs) refl
  where
    by : (test : Bool) → opens_quote b bs ≡ test → IsOne (no_lexeme_fault mark (b ∷ bs))
    by true is = rw is refl
    by false is = rw is refl

bad : (mark : Mark) (rest : List ℕ) (fault : Fault) → IsBad mark rest fault → IsOne fault
bad mark rest fault (inl none) = subst IsOne (sym none.1) (no_lexeme mark rest)
bad mark rest fault (inr read) = subst IfFault read.3 (shape mark read.0)

pub cut_source : {X : Type 0} (mark : Mark) (line : List ℕ) (result : Result X (Stop Fault)) → OnFault result (Refuses mark line) → OnFault result (IsNameable (mark.file + 1))
    → OnFault result (IsSourceFault (mark.file + 1))
cut_source mark line (Ok value) refuses nameable = tt
cut_source mark line (Err (stops.Refused fault)) refuses nameable = record { number = bad mark _ fault refuses.bad; nameable = nameable }
cut_source mark line (Err stops.NoMemory) refuses nameable = tt

pub comment_source : (X : Type 0) (file : ℕ) (ahead : List Placed) (stop : Stop Fault) → OnFault {X = X} (Err stop) (HasOpenComment file ahead []) → OnFault {X = X} (Err stop) (IsNameable (file + 1))
    → OnFault {X = X} (Err stop) (IsSourceFault (file + 1))
comment_source X file ahead (stops.Refused fault) has nameable = record { number = ap (λ (f : Fault). is_between 101 115 f.number) has.is; nameable = nameable }
comment_source X file ahead stops.NoMemory has nameable = tt
