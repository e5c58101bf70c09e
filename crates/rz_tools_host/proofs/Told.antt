-- What a host that tells gives: words and a moment, or none.
use Rattle.std.proofs.Common.{◌≡◌, ℕ, ◌+◌, suc, zero, ℤ, pos, negsuc, List, [], ◌∷◌, ◌++◌, map, take, drop, length, Option, Some, None, Err, arith, refl, sym, ap, subst, ◌∙◌}
use Rattle.std.specs.Prelude.{IfSome, IsSomeAnd, IsUtf8, option_map}
use Rattle.std.specs.Fmt.{decimal}
use Rattle.std.specs.List.{All}
use Rattle.std.proofs.lemmas.Fmt.{IsAscii-decimal}
use Rattle.std.proofs.lemmas.Int.{ints}
use Rattle.std.proofs.lemmas.Str.{IsUtf8-from_ascii}
use Rattle.rz_core.specs.Decimal.{decimal_of}
use Rattle.rz_core.specs.declared.moment.Moment.{Moment}
use Rattle.rz_core.specs.declared.stop.Stop.{Stop}
use Rattle.rz_core.specs.declared.stop.Stop.TheVariants.{Refused}
use Rattle.rz_tools_host.specs.Clock.{IsMomentAt}
use Rattle.rz_tools_host.specs.Epoch.{Tells}
use Rattle.rz_tools_host.specs.Given.{words_of, IsMomentBy}
use Rattle.rz_tools_host.specs.Process.{GivesValue}
use Rattle.rz_tools_host.specs.declared.host.NotText.{NotText}

-- what holds of each process that a host may tell holds of the one that it tells
pub over : {X : Type 0} {P Q : X → Type 0} (told : Option X) → ((one : X) → P one → Q one) → IfSome told P → IfSome told Q
over None more is = tt
over (Some one) more is = more one is

pub over_both : {X : Type 0} {P Q R : X → Type 0} (told : Option X) → ((one : X) → P one → Q one → R one) → IfSome told P → IfSome told Q → IfSome told R
over_both None more is so = tt
over_both (Some one) more is so = more one is so

-- Words.

-- texts are UTF-8
pub are_texts : {X : Type 0} (bytes : X → List ℕ) → ((text : X) → IsUtf8 (bytes text)) → (texts : List X) → All IsUtf8 (map bytes texts)
are_texts bytes are [] k d within = absurd (omega (arith, within))
are_texts bytes are (text ∷ texts) zero d within = are text
are_texts bytes are (text ∷ texts) (suc k) d within = are_texts bytes are texts k d (omega (arith, within))

-- the words are all texts but the first
pub words_left : {X : Type 0} (bytes : X → List ℕ) (all left : List X) → left ≡ take 0 all ++ drop 1 all → map bytes left ≡ words_of (map bytes all)
words_left bytes [] left is = ap (map bytes) is
words_left bytes (name ∷ words) left is = ap (map bytes) is

pub no_words : {X : Type 0} (bytes : X → List ℕ) (all : List X) → length all ≡ 0 → map bytes all ≡ words_of (map bytes all)
no_words bytes [] none = refl
no_words bytes (name ∷ words) none = absurd (omega (arith, none))

-- The moment.

-- bytes that aren't UTF-8 tell none
nothing_in : (bytes : List ℕ) → (IsUtf8 bytes → ⊥) → (seconds : ℤ) → Tells bytes seconds → ⊥
unfolding decimal_of
nothing_in bytes none (pos seconds) told =
    none (subst IsUtf8 (sym told.0) (IsUtf8-from_ascii (decimal seconds) (IsAscii-decimal seconds (omega (arith, ints, told.1.1)))))
nothing_in bytes none (negsuc seconds) told = told

nothing_held : (held : Option (List ℕ)) (clock : Option ℤ) → IsSomeAnd held (λ bytes. IsUtf8 bytes → ⊥) → (moment : Moment) → IsMomentBy held clock moment → ⊥
nothing_held (Some bytes) clock none moment told = nothing_in bytes none moment.unix told
nothing_held None clock none moment told = none

pub no_text : (stop : Stop NotText) (not_text : NotText) → stop ≡ Refused not_text → (held : Option (List ℕ)) (clock : Option ℤ) → GivesValue held (Err stop)
    → (moment : Moment) → IsMomentBy held clock moment → ⊥
no_text stop not_text is held clock gives = nothing_held held clock (subst (λ (stop : Stop NotText). GivesValue held (Err stop)) is gives)

-- where the environment has no such variable, the clock is asked
pub by_clock : {X : Type 0} (bytes : X → List ℕ) (given : Option X) → given ≡ None → (held : Option (List ℕ)) → option_map bytes given ≡ held
    → (seconds clock : Option ℤ) → seconds ≡ clock → (moment : Moment) → IsMomentAt seconds moment → IsMomentBy held clock moment
by_clock {X} bytes given none held is seconds clock told moment at =
    subst (λ (held : Option (List ℕ)). IsMomentBy held clock moment) (ap (λ (given : Option X). option_map bytes given) (sym none) ∙ is)
    (subst (λ (clock : Option ℤ). IsMomentAt clock moment) told at)
