-- What is made of the numbers of letters, letter by letter.
use Rattle.std.proofs.Common.{◌≡◌, ℕ, ◌+◌, ◌<◌, ◌==◌, if◌then◌else◌, Bool, true, false, List, [], ◌∷◌, ◌++◌, length, drop, get_or, Option, Some, None, Ok, Err, Result, refl, sym, ap, ◌∙◌, append_assoc}
use Rattle.std.proofs.lemmas.Bool.{eqb-true, ne_eqb}
use Rattle.std.proofs.lemmas.List.{append-nil, at_drop_more}
use Rattle.rz_core.proofs.Tests.{by_test}
use Rattle.rz_core.specs.Stop.{◌>>=◌}
use Rattle.rz_bridge.specs.Faults.{fault}
use Rattle.rz_bridge.specs.declared.fault.BridgeFault.{BridgeFault}
use Rattle.rz_hqx.specs.Letters.{number_of}
use Rattle.rz_hqx.specs.Text.{is_blank, numbers_in}
use Rattle.rz_hqx.proofs.Numbered.{blank_none, numbers_are, numbers_behind, with_number}

abbrev pub Read : Type 0
Read = Result (List ℕ) BridgeFault

-- what is made of the numbers of the letters from a place on up to the next colon
abbrev pub made_behind : (List ℕ → Read) → ℕ → List ℕ → Read
made_behind next place [] = Err (fault 443 place place)
made_behind next place (b ∷ bs) =
    if b == 58 then next []
    else if is_blank b then made_behind next (place + 1) bs
    else with_number (number_of b) (fault 442 place b) (λ number. made_behind (λ numbers. next (number ∷ numbers)) (place + 1) bs)

module _ (front : List ℕ) (place b : ℕ) (bs : List ℕ) (next : List ℕ → Read) (known : (front : List ℕ) → made_behind (λ numbers. next (front ++ numbers)) (place + 1) bs ≡ (numbers_behind front (place + 1) bs >>= next)) where
  abbrev made_of : ℕ → Read
  made_of number = made_behind (λ numbers. next (front ++ (number ∷ numbers))) (place + 1) bs

  abbrev numbers_of : ℕ → Read
  numbers_of number = numbers_behind (front ++ number ∷ []) (place + 1) bs

  abbrev made_letter : Read
  made_letter = with_number (number_of b) (fault 442 place b) made_of

  abbrev numbers_letter : Read
  numbers_letter = with_number (number_of b) (fault 442 place b) numbers_of

  by_letter : (o : Option ℕ) → with_number o (fault 442 place b) made_of ≡ (with_number o (fault 442 place b) numbers_of >>= next)
  by_letter None = refl
  by_letter (Some number) =
      (λ i. made_behind (λ numbers. next (sym (append_assoc front (number ∷ []) numbers) i)) (place + 1) bs) ∙ known (front ++ number ∷ [])

  abbrev made_on : Read
  made_on = if is_blank b then made_behind (λ numbers. next (front ++ numbers)) (place + 1) bs else made_letter

  abbrev numbers_on : Read
  numbers_on = if is_blank b then numbers_behind front (place + 1) bs else numbers_letter

  by_blank : made_on ≡ (numbers_on >>= next)
  by_blank =
      let made = made_behind (λ numbers. next (front ++ numbers)) (place + 1) bs in
      let read = numbers_behind front (place + 1) bs in
      by_test (made_on ≡ (numbers_on >>= next)) (is_blank b)
      (λ is. ap (λ (t : Bool). if t then made else made_letter) is ∙ known front ∙ sym (ap (λ (t : Bool). (if t then read else numbers_letter) >>= next) is))
      (λ differs. ap (λ (t : Bool). if t then made else made_letter) differs ∙ by_letter (number_of b) ∙ sym (ap (λ (t : Bool). (if t then read else numbers_letter) >>= next) differs))

  one_made : made_behind (λ numbers. next (front ++ numbers)) place (b ∷ bs) ≡ (numbers_behind front place (b ∷ bs) >>= next)
  one_made =
      by_test (made_behind (λ numbers. next (front ++ numbers)) place (b ∷ bs) ≡ (numbers_behind front place (b ∷ bs) >>= next)) (b == 58)
      (λ is. ap (λ (t : Bool). if t then next (front ++ []) else made_on) is ∙ ap next (append-nil front) ∙ sym (ap (λ (t : Bool). (if t then Ok front else numbers_on) >>= next) is))
      (λ differs. ap (λ (t : Bool). if t then next (front ++ []) else made_on) differs ∙ by_blank ∙ sym (ap (λ (t : Bool). (if t then Ok front else numbers_on) >>= next) differs))

made_so : (bs front : List ℕ) (place : ℕ) (next : List ℕ → Read) → made_behind (λ numbers. next (front ++ numbers)) place bs ≡ (numbers_behind front place bs >>= next)
made_so [] front place next = refl
made_so (b ∷ bs) front place next = one_made front place b bs next (λ known. made_so bs known (place + 1) next)

pub made_is : (body : List ℕ) (place : ℕ) (next : List ℕ → Read) → made_behind next place body ≡ (numbers_in place body >>= next)
made_is body place next = made_so body [] place next ∙ ap (λ (r : Read). r >>= next) (numbers_are body place)

-- One byte more between the colons.

-- a letter is neither a colon nor a blank
letter_colon : (b number : ℕ) → number_of b ≡ Some number → (b == 58) ≡ false
letter_colon b number has =
    by_test ((b == 58) ≡ false) (b == 58)
    (λ is. let none : number_of b ≡ None = ap number_of (eqb-true b 58 is) in absurd (some_none number (sym has ∙ none)))
    (λ differs. differs)
  where
    some_none : (n : ℕ) → Some n ≡ None → ⊥
    some_none n same = absurd cc

letter_blank : (b number : ℕ) → number_of b ≡ Some number → is_blank b ≡ false
letter_blank b number has =
    by_test (is_blank b ≡ false) (is_blank b) (λ is. absurd (some_none number (sym has ∙ blank_none b is))) (λ differs. differs)
  where
    some_none : (n : ℕ) → Some n ≡ None → ⊥
    some_none n same = absurd cc

module _ (body : List ℕ) (index at : ℕ) (next : List ℕ → Read) (all : Read) (below : index < length body) (so_far : made_behind next at (drop index body) ≡ all) where
  abbrev byte : ℕ
  byte = get_or body index 0

  abbrev blank_on : Read
  blank_on = made_behind next (at + 1) (drop (index + 1) body)

  abbrev number_on : ℕ → Read
  number_on number = made_behind (λ numbers. next (number ∷ numbers)) (at + 1) (drop (index + 1) body)

  abbrev letter_on : Read
  letter_on = with_number (number_of byte) (fault 442 at byte) number_on

  abbrev byte_on : Read
  byte_on = if is_blank byte then blank_on else letter_on

  here : (if byte == 58 then next [] else byte_on) ≡ all
  here = sym (at_drop_more (made_behind next at) body index 0 below) ∙ so_far

  pub colon_here : (byte == 58) ≡ true → next [] ≡ all
  colon_here is = sym (ap (λ (t : Bool). if t then next [] else byte_on) is) ∙ here

  no_colon : (byte == 58) ≡ false → byte_on ≡ all
  no_colon differs = sym (ap (λ (t : Bool). if t then next [] else byte_on) differs) ∙ here

  no_blank : (byte == 58) ≡ false → is_blank byte ≡ false → letter_on ≡ all
  no_blank differs other = sym (ap (λ (t : Bool). if t then blank_on else letter_on) other) ∙ no_colon differs

  pub blank_more : (byte == 58) ≡ false → is_blank byte ≡ true → blank_on ≡ all
  blank_more differs is = sym (ap (λ (t : Bool). if t then blank_on else letter_on) is) ∙ no_colon differs

  pub letter_more : (number : ℕ) → number_of byte ≡ Some number → number_on number ≡ all
  letter_more number has =
      sym (ap (λ (o : Option ℕ). with_number o (fault 442 at byte) number_on) has)
      ∙ no_blank (letter_colon byte number has) (letter_blank byte number has)

  pub letter_bad : (byte == 58) ≡ false → is_blank byte ≡ false → number_of byte ≡ None → Err (fault 442 at byte) ≡ all
  letter_bad differs other none = sym (ap (λ (o : Option ℕ). with_number o (fault 442 at byte) number_on) none) ∙ no_blank differs other

-- no colon comes
pub none_more : (body : List ℕ) (index at : ℕ) (next : List ℕ → Read) (all : Read) → made_behind next at (drop index body) ≡ all → drop index body ≡ [] → Err (fault 443 at at) ≡ all
none_more body index at next all so_far ended = sym (ap (made_behind next at) ended) ∙ so_far
