-- Numbers are read letter by letter.
use Rattle.std.proofs.Common.{◌≡◌, ℕ, suc, ◌+◌, ◌==◌, ◌||◌, not, if◌then◌else◌, Bool, true, false, cond, List, [], ◌∷◌, ◌++◌, length, take, Option, Some, None, Ok, Err, Result, refl, sym, ap, ◌∙◌, arith, append_assoc}
use Rattle.std.proofs.lemmas.Bool.{eqb-true}
use Rattle.std.proofs.lemmas.List.{append-nil}
use Rattle.std.specs.Prelude.{option_map}
use Rattle.std.specs.List.{before_first, cons_option, enumerate_from, filter_map, find, list_any, position_or_len}
use Rattle.std.specs.Option.{is_some}
use Rattle.rz_core.proofs.Tests.{by_test, true_false}
use Rattle.rz_core.specs.Lists.{or_else, unless_fault}
use Rattle.rz_bridge.specs.Faults.{broken, fault}
use Rattle.rz_bridge.specs.declared.fault.BridgeFault.{BridgeFault}
use Rattle.rz_hqx.specs.Letters.{number_of}
use Rattle.rz_hqx.specs.Text.{bad_letter, is_blank, is_stray, no_end, numbers_in}

-- what goes on with a letter's number, or the fault where there is none
abbrev pub with_number : Option ℕ → BridgeFault → (ℕ → Result (List ℕ) BridgeFault) → Result (List ℕ) BridgeFault
with_number None fault next = Err fault
with_number (Some number) fault next = next number

-- the numbers of the letters from a place on up to the next colon, after numbers that are known
abbrev pub numbers_behind : List ℕ → ℕ → List ℕ → Result (List ℕ) BridgeFault
numbers_behind front place [] = Err (fault 443 place place)
numbers_behind front place (b ∷ bs) =
    if b == 58 then Ok front
    else if is_blank b then numbers_behind front (place + 1) bs
    else with_number (number_of b) (fault 442 place b) (λ number. numbers_behind (front ++ number ∷ []) (place + 1) bs)

-- the bytes before the first colon
abbrev letters : List ℕ → List ℕ
letters bytes = before_first (λ b. b == 58) bytes

-- how many bytes stand before it
abbrev count_of : List ℕ → ℕ
count_of bytes = position_or_len (λ b. b == 58) bytes

abbrev has_colon : List ℕ → Bool
has_colon bytes = list_any (λ b. b == 58) bytes

-- what is read where this is the first fault, after numbers that are known
abbrev said : List ℕ → Option BridgeFault → List ℕ → Result (List ℕ) BridgeFault
said front fault numbers = unless_fault fault (front ++ numbers)

abbrev first_fault : ℕ → List ℕ → Option BridgeFault
first_fault place bytes = or_else (bad_letter place (letters bytes)) (no_end place bytes)

abbrev all_said : List ℕ → ℕ → List ℕ → Result (List ℕ) BridgeFault
all_said front place bytes = said front (first_fault place bytes) (filter_map number_of (letters bytes))

-- the first stray byte, with its place
abbrev stray : ℕ → List ℕ → Option (ℕ × ℕ)
stray place bytes = find (λ one. is_stray one.1) (enumerate_from place bytes)

abbrev told : ℕ × ℕ → BridgeFault
told one = fault 442 one.0 one.1

-- a blank is no letter
pub blank_none : (b : ℕ) → is_blank b ≡ true → number_of b ≡ None
blank_none b blank =
    by_test (number_of b ≡ None) (b == 32) (λ is. ap number_of (eqb-true b 32 is))
    (λ a. by_test (number_of b ≡ None) (b == 9) (λ is. ap number_of (eqb-true b 9 is))
    (λ c. by_test (number_of b ≡ None) (b == 10) (λ is. ap number_of (eqb-true b 10 is))
    (λ d. by_test (number_of b ≡ None) (b == 13) (λ is. ap number_of (eqb-true b 13 is))
    (λ e. let none : is_blank b ≡ false = λ i. (a i || c i) || (d i || e i) in absurd (true_false (sym blank ∙ none))))))

module _ (front : List ℕ) (place b : ℕ) (bs : List ℕ) (colon : (b == 58) ≡ false) where
  abbrev later : List ℕ
  later = letters bs

  -- the byte stands before the colon
  before : letters (b ∷ bs) ≡ b ∷ later
  before =
      let more : 1 + count_of bs ≡ suc (count_of bs) = omega arith in
      ap (λ (t : Bool). take (cond (not t) (1 + count_of bs) 0) (b ∷ bs)) colon ∙ ap (λ (n : ℕ). take n (b ∷ bs)) more

  -- whether the colon comes is as before
  ends : no_end place (b ∷ bs) ≡ no_end (place + 1) bs
  ends =
      let size : place + suc (length bs) ≡ place + 1 + length bs = omega arith in
      ap (λ (t : Bool). broken (not (t || has_colon bs)) (fault 443 (place + suc (length bs)) (place + suc (length bs)))) colon
      ∙ ap (λ (n : ℕ). broken (not (has_colon bs)) (fault 443 n n)) size

  -- a byte that isn't stray is passed
  passed : is_stray b ≡ false → all_said front place (b ∷ bs) ≡ said front (first_fault (place + 1) bs) (cons_option (number_of b) (filter_map number_of later))
  passed fits =
      let numbers = cons_option (number_of b) (filter_map number_of later) in
      ap (λ (l : List ℕ). said front (or_else (bad_letter place l) (no_end place (b ∷ bs))) (filter_map number_of l)) before
      ∙ ap (λ (t : Bool). said front (or_else (option_map told (cond t (Some (place, b)) (stray (place + 1) later))) (no_end place (b ∷ bs))) numbers) fits
      ∙ ap (λ (f : Option BridgeFault). said front (or_else (bad_letter (place + 1) later) f) numbers) ends

  -- one that is stray is the fault
  told_here : is_stray b ≡ true → all_said front place (b ∷ bs) ≡ Err (fault 442 place b)
  told_here is =
      ap (λ (l : List ℕ). said front (or_else (bad_letter place l) (no_end place (b ∷ bs))) (filter_map number_of l)) before
      ∙ ap (λ (t : Bool). said front (or_else (option_map told (cond t (Some (place, b)) (stray (place + 1) later))) (no_end place (b ∷ bs))) (cons_option (number_of b) (filter_map number_of later))) is

module _ (front : List ℕ) (place b : ℕ) (bs : List ℕ) (known : (front : List ℕ) → numbers_behind front (place + 1) bs ≡ all_said front (place + 1) bs) where
  abbrev numbers : List ℕ
  numbers = filter_map number_of (letters bs)

  abbrev later_fault : Option BridgeFault
  later_fault = first_fault (place + 1) bs

  abbrev next : ℕ → Result (List ℕ) BridgeFault
  next number = numbers_behind (front ++ number ∷ []) (place + 1) bs

  abbrev blank_on : Result (List ℕ) BridgeFault
  blank_on = numbers_behind front (place + 1) bs

  abbrev letter_on : Result (List ℕ) BridgeFault
  letter_on = with_number (number_of b) (fault 442 place b) next

  abbrev here : Result (List ℕ) BridgeFault
  here = all_said front place (b ∷ bs)

  by_letter : (b == 58) ≡ false → is_blank b ≡ false → (o : Option ℕ) → number_of b ≡ o → letter_on ≡ here
  by_letter colon other None none =
      let wrong : is_stray b ≡ true = λ i. not (other i || is_some (none i)) in
      ap (λ (o : Option ℕ). with_number o (fault 442 place b) next) none ∙ sym (told_here front place b bs colon wrong)
  by_letter colon other (Some number) has =
      let fits : is_stray b ≡ false = λ i. not (other i || is_some (has i)) in
      ap (λ (o : Option ℕ). with_number o (fault 442 place b) next) has
      ∙ known (front ++ number ∷ [])
      ∙ ap (unless_fault later_fault) (append_assoc front (number ∷ []) numbers)
      ∙ sym (passed front place b bs colon fits ∙ ap (λ (o : Option ℕ). said front later_fault (cons_option o numbers)) has)

  by_byte : (b == 58) ≡ false → (if is_blank b then blank_on else letter_on) ≡ here
  by_byte colon =
      by_test ((if is_blank b then blank_on else letter_on) ≡ here) (is_blank b)
      (λ blank.
      let fits : is_stray b ≡ false = ap (λ (t : Bool). not (t || is_some (number_of b))) blank in
      ap (λ (t : Bool). if t then blank_on else letter_on) blank
      ∙ known front
      ∙ sym (passed front place b bs colon fits ∙ ap (λ (o : Option ℕ). said front later_fault (cons_option o numbers)) (blank_none b blank)))
      (λ other. ap (λ (t : Bool). if t then blank_on else letter_on) other ∙ by_letter colon other (number_of b) refl)

  abbrev kept : Bool → List ℕ
  kept t = take (cond (not t) (1 + count_of bs) 0) (b ∷ bs)

  abbrev so_far : Bool → Result (List ℕ) BridgeFault
  so_far t =
      said front (or_else (bad_letter place (kept t)) (broken (not (t || has_colon bs)) (fault 443 (place + suc (length bs)) (place + suc (length bs)))))
      (filter_map number_of (kept t))

  one_byte : numbers_behind front place (b ∷ bs) ≡ here
  one_byte =
      by_test (numbers_behind front place (b ∷ bs) ≡ here) (b == 58)
      (λ is. ap (λ (t : Bool). if t then Ok front else if is_blank b then blank_on else letter_on) is ∙ ap Ok (sym (append-nil front)) ∙ sym (ap so_far is))
      (λ colon. ap (λ (t : Bool). if t then Ok front else if is_blank b then blank_on else letter_on) colon ∙ by_byte colon)

said_so : (bs front : List ℕ) (place : ℕ) → numbers_behind front place bs ≡ all_said front place bs
said_so [] front place = let end : place ≡ place + 0 = omega arith in ap (λ (n : ℕ). Err (fault 443 n n)) end
said_so (b ∷ bs) front place = one_byte front place b bs (λ known. said_so bs known (place + 1))

pub numbers_are : (body : List ℕ) (place : ℕ) → numbers_behind [] place body ≡ numbers_in place body
unfolding numbers_in
numbers_are body place = said_so body [] place
