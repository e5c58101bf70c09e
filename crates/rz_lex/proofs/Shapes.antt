-- The tokens of a line are such as a line can be cut into.
use Rattle.std.proofs.Common.{◌≡◌, ℕ, ◌^◌, Bool, true, false, List, [], ◌∷◌, Option, Some, None, length, Result, refl, sym, ap, ◌∙◌, subst}
use Rattle.std.specs.Prelude.{IfOk, IfSome, nat_lt, nat_le, ◌==◌, ◌&&◌, ◌||◌, if◌then◌else◌}
use Rattle.std.proofs.lemmas.Bool.{and_parts, false≢true, eqb-true, ne_eqb, ltb-false, le-leb}
use Rattle.rz_core.specs.declared.fault.Mark.{Mark}
use Rattle.rz_core.specs.declared.fault.Fault.{Fault}
use Rattle.rz_lex.specs.Classes.{is_digit, is_word_byte}
use Rattle.rz_lex.specs.Cutting.{Leads, Next, Cuts}
use Rattle.rz_lex.specs.Digits.{are_digits, digits_value, number_value, spelled_from, value_behind_0}
use Rattle.rz_lex.specs.Escape.{text_value}
use Rattle.rz_lex.specs.Extent.{are_word_bytes, ends_dollar_word, is_lexeme}
use Rattle.rz_lex.specs.Hex.{hex_value}
use Rattle.rz_lex.specs.Lexeme.{is_lexed, AreLexed}
use Rattle.rz_lex.specs.Printed.{is_word}
use Rattle.rz_lex.specs.Shape.{dollar_shape, hex_shape, inside, is_long, literal_shape, number_shape, shape_of, sign_shape, text_shape, valued_shape, word_shape}
use Rattle.rz_lex.specs.Sign.{sign_of}
use Rattle.rz_lex.specs.declared.sign.Sign.{Sign}
use Rattle.rz_lex.specs.declared.token.Shape.{Shape}
use Rattle.rz_lex.specs.declared.token.Token.{Token}

-- where there is a shape, a line can be cut into it
abbrev IsLexed : Result Shape Fault → Type 0
IsLexed result = IfOk result (λ shape. is_lexed shape ≡ true)

if_lexed : (test : Bool) (one other : Result Shape Fault) → (test ≡ true → IsLexed one) → (test ≡ false → IsLexed other) → IsLexed (if test then one else other)
if_lexed true one other here there = here refl
if_lexed false one other here there = there refl

-- numbers

abbrev IsBelow : Option ℕ → Type 0
IsBelow value = IfSome value (λ number. nat_lt number (2 ^ 32) ≡ true)

if_below : (test : Bool) (one other : Option ℕ) → (test ≡ true → IsBelow one) → (test ≡ false → IsBelow other) → IsBelow (if test then one else other)
if_below true one other here there = here refl
if_below false one other here there = there refl

digits_below : (base : ℕ) (ds : List ℕ) → IsBelow (digits_value base ds)
digits_below base ds = if_below (nat_lt 0 (length ds) && are_digits base ds && nat_lt (spelled_from base 0 ds) (2 ^ 32)) (Some (spelled_from base 0 ds)) None
    (λ h. (and_parts (nat_lt 0 (length ds) && are_digits base ds) (nat_lt (spelled_from base 0 ds) (2 ^ 32)) h).1) (λ h. tt)

below_behind_0 : (bs : List ℕ) → IsBelow (value_behind_0 bs)
below_behind_0 [] = refl
below_behind_0 (b ∷ bs) = if_below (b == 120 || b == 88) _ _ (λ h. digits_below 16 bs)
    (λ h. if_below (b == 98 || b == 66) _ _ (λ k. digits_below 2 bs) (λ k. digits_below 8 (b ∷ bs)))

number_below : (bs : List ℕ) → IsBelow (number_value bs)
number_below [] = tt
number_below (b ∷ bs) = if_below (b == 36) _ _ (λ h. digits_below 16 bs) (λ h. if_below (b == 48) _ _ (λ k. below_behind_0 bs) (λ k. digits_below 10 (b ∷ bs)))

valued_lexed : (mark : Mark) (bs : List ℕ) (value : Option ℕ) → IsBelow value → IsLexed (valued_shape mark bs value)
valued_lexed mark bs (Some value) below = below
valued_lexed mark bs None below = tt

number_lexed : (mark : Mark) (bs : List ℕ) → IsLexed (number_shape mark bs)
number_lexed mark bs = if_lexed (is_long bs) _ _ (λ h. tt) (λ h. valued_lexed mark bs (number_value bs) (number_below bs))

-- words

not_long : (n : ℕ) → nat_lt 255 n ≡ false → nat_le n 255 ≡ true
not_long n h = le-leb n 255 (ltb-false 255 n h)

word_lexed : (mark : Mark) (bs : List ℕ) → is_word bs ≡ true → IsLexed (word_shape mark bs)
word_lexed mark bs word = if_lexed (is_long bs) _ _ (λ h. tt) (λ h. rw (word, not_long (length bs) h) refl)

plain_is_word : (b : ℕ) (bs : List ℕ) → is_digit b ≡ false → is_word_byte b ≡ true → is_lexeme (b ∷ bs) ≡ true → is_word (b ∷ bs) ≡ true
plain_is_word b bs digit word lexeme =
    let all : are_word_bytes bs ≡ true = rw word at lexeme in
    rw (ne_eqb b 36 (λ e. false≢true (ap is_word_byte (sym e) ∙ word)), word, digit, all) refl

dollars_are_word : (b : ℕ) (bs : List ℕ) → (b == 36) ≡ true → is_lexeme (36 ∷ b ∷ bs) ≡ true → is_word (36 ∷ b ∷ bs) ≡ true
dollars_are_word b bs dollar lexeme =
    let same : b ≡ 36 = eqb-true b 36 dollar in
    let ends : ends_dollar_word bs ≡ true = subst (λ (x : ℕ). is_lexeme (36 ∷ x ∷ bs) ≡ true) same lexeme in
    rw (dollar, ends) refl

-- the others

literal_lexed : (mark : Mark) (bs : List ℕ) (value : Option (List ℕ)) → IsLexed (literal_shape mark bs value)
literal_lexed mark bs None = tt
literal_lexed mark bs (Some value) = if_lexed (nat_lt 0 (length value) && nat_le (length value) 4) _ _ (λ h. h) (λ h. tt)

text_lexed : (mark : Mark) (bs : List ℕ) (value : Option (List ℕ)) → IsLexed (text_shape mark bs value)
text_lexed mark bs None = tt
text_lexed mark bs (Some value) = refl

hex_lexed : (mark : Mark) (value : Option (List ℕ)) → IsLexed (hex_shape mark value)
hex_lexed mark None = tt
hex_lexed mark (Some value) = refl

sign_lexed : (mark : Mark) (first : ℕ) (sign : Option Sign) → IsLexed (sign_shape mark first sign)
sign_lexed mark first (Some sign) = refl
sign_lexed mark first None = tt

dollar_lexed : (mark : Mark) (behind : List ℕ) → is_lexeme (36 ∷ behind) ≡ true → IsLexed (dollar_shape mark (36 ∷ behind) behind)
dollar_lexed mark [] lexeme = absurd (false≢true lexeme)
dollar_lexed mark (b ∷ bs) lexeme =
    if_lexed (b == 34) _ _ (λ h. hex_lexed mark (hex_value (inside 2 (36 ∷ b ∷ bs))))
    (λ h. if_lexed (b == 36) _ _ (λ k. word_lexed mark (36 ∷ b ∷ bs) (dollars_are_word b bs k lexeme)) (λ k. number_lexed mark (36 ∷ b ∷ bs)))

dollar_first : (mark : Mark) (b : ℕ) (bs : List ℕ) → b ≡ 36 → is_lexeme (b ∷ bs) ≡ true → IsLexed (dollar_shape mark (b ∷ bs) bs)
dollar_first mark b bs is lexeme =
    subst (λ (x : ℕ). IsLexed (dollar_shape mark (x ∷ bs) bs)) (sym is) (dollar_lexed mark bs (subst (λ (x : ℕ). is_lexeme (x ∷ bs) ≡ true) is lexeme))

shape_lexed : (mark : Mark) (bs : List ℕ) → is_lexeme bs ≡ true → IsLexed (shape_of mark bs)
shape_lexed mark [] lexeme = tt
shape_lexed mark (b ∷ bs) lexeme =
    if_lexed (is_digit b) _ _ (λ h. number_lexed mark (b ∷ bs))
    (λ digit. if_lexed (is_word_byte b) _ _ (λ word. word_lexed mark (b ∷ bs) (plain_is_word b bs digit word lexeme))
    (λ other. if_lexed (b == 39) _ _ (λ h. literal_lexed mark (b ∷ bs) (text_value 0 (inside 1 (b ∷ bs))))
    (λ h. if_lexed (b == 34) _ _ (λ k. text_lexed mark (b ∷ bs) (text_value 0 (inside 1 (b ∷ bs))))
    (λ k. if_lexed (b == 36) _ _ (λ l. dollar_first mark b bs (eqb-true b 36 l) lexeme) (λ l. sign_lexed mark b (sign_of (b ∷ bs)))))))

token_lexed : (mark : Mark) (line after : List ℕ) (token : Token) → Next mark line token after → is_lexed token.shape ≡ true
token_lexed mark line after token next = subst IsLexed next.shape (shape_lexed mark next.lexeme next.longest.passes)

leads_lexed : (mark : Mark) (line : List ℕ) (tokens : List Token) (rest : List ℕ) → Leads mark line tokens rest → AreLexed tokens
leads_lexed mark line [] rest leads = tt
leads_lexed mark line (token ∷ tokens) rest leads = (token_lexed mark line leads.0 token leads.1, leads_lexed mark leads.0 tokens rest leads.2)

pub cuts_lexed : (mark : Mark) (line : List ℕ) (tokens : List Token) → Cuts mark line tokens → AreLexed tokens
cuts_lexed mark line tokens cuts = leads_lexed mark line tokens cuts.0 cuts.1
