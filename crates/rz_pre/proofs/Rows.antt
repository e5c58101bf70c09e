-- The rows of a map.
use Rattle.std.proofs.Common.{◌≡◌, ℕ, zero, suc, Bool, true, false, List, [], ◌∷◌, Option, Some, None, Vec, Global, refl, sym, ap, ◌∙◌}
use Rattle.std.specs.Prelude.{◌+◌, nat_lt, length, if◌then◌else◌, map, position, option_map}
use Rattle.std.specs.List.{position_or_len}
use Rattle.std.proofs.Common.{arith}
use Rattle.std.proofs.lemmas.Bool.{ltb-true, ltb-false, lt-ltb, le-ltb}
use Rattle.std.specs.Map.{keys_of, lookup}
use Rattle.std.specs.Option.{is_some}
use Rattle.std.specs.Str.{bytes_eq}
use Rattle.rz_lex.specs.declared.token.Token.{Token}
use Rattle.rz_pre.specs.Live.{live_row, shapes_of, Row}

abbrev pub Entry : Type 0
Entry = Vec ℕ Global × Option (List Token)

abbrev pub row : Entry → Row
row entry = (entry.0.items, option_map shapes_of entry.1)

abbrev pub test : List ℕ → Vec ℕ Global → Bool
test name key = bytes_eq name key.items

-- the position of an entry that has tokens
abbrev pub live_from : Option ℕ → Option (Option (List Token)) → Option ℕ
live_from (Some k) (Some (Some tokens)) = Some k
live_from (Some k) (Some None) = None
live_from (Some k) None = None
live_from None found = None

one_further : (o : Option ℕ) (found : Option (Option (List Token))) → option_map (λ k. suc k) (live_from o found) ≡ live_from (option_map (λ k. suc k) o) found
one_further (Some k) (Some (Some tokens)) = refl
one_further (Some k) (Some None) = refl
one_further (Some k) None = refl
one_further None found = refl

first : (body : Option (List Token)) → option_map (λ (b : _). zero) (option_map shapes_of body) ≡ live_from (Some 0) (Some body)
first (Some tokens) = refl
first None = refl

-- a position after one that fails the test
further : (n size : ℕ) → (if nat_lt (1 + n) (suc size) then Some (1 + n) else None) ≡ option_map (λ k. suc k) (if nat_lt n size then Some n else None)
further n size = by (nat_lt n size) refl
  where
    by : (b : Bool) → nat_lt n size ≡ b → (if nat_lt (1 + n) (suc size) then Some (1 + n) else None) ≡ option_map (λ k. suc k) (if b then Some n else None)
    by true is =
        let small = ltb-true n size is in
        let more : nat_lt (1 + n) (suc size) ≡ true = lt-ltb (1 + n) (suc size) (omega (arith, small)) in
        rw more (ap (λ (k : ℕ). Some k) {y = suc n} (omega arith))
    by false is =
        let large = ltb-false n size is in
        let more : nat_lt (1 + n) (suc size) ≡ false = le-ltb (1 + n) (suc size) (omega (arith, large)) in
        rw more refl

next_position : (t : Vec ℕ Global → Bool) (x : Vec ℕ Global) (xs : List (Vec ℕ Global)) → t x ≡ false → position t (x ∷ xs) ≡ option_map (λ k. suc k) (position t xs)
next_position t x xs is = rw is (further (position_or_len t xs) (length xs))

first_position : (t : Vec ℕ Global → Bool) (x : Vec ℕ Global) (xs : List (Vec ℕ Global)) → t x ≡ true → position t (x ∷ xs) ≡ Some 0
first_position t x xs is = rw (is, lt-ltb 0 (suc (length xs)) (omega arith)) refl

pub live_by : (es : List Entry) (name : List ℕ) → live_row (map row es) name ≡ live_from (position (test name) (keys_of es)) (lookup (test name) es)
live_by [] name = refl
live_by (e ∷ es) name = by (test name e.0) refl (live_by es name)
  where
    here : test name e.0 ≡ true → live_row (map row (e ∷ es)) name ≡ live_from (Some 0) (lookup (test name) (e ∷ es))
    here is = rw is (first e.1)

    behind : test name e.0 ≡ false → live_row (map row es) name ≡ live_from (position (test name) (keys_of es)) (lookup (test name) es)
        → live_row (map row (e ∷ es)) name ≡ live_from (option_map (λ k. suc k) (position (test name) (keys_of es))) (lookup (test name) (e ∷ es))
    behind is more = rw is (ap (option_map (λ k. suc k)) more ∙ one_further (position (test name) (keys_of es)) (lookup (test name) es))

    by : (b : Bool) → test name e.0 ≡ b → live_row (map row es) name ≡ live_from (position (test name) (keys_of es)) (lookup (test name) es)
        → live_row (map row (e ∷ es)) name ≡ live_from (position (test name) (keys_of (e ∷ es))) (lookup (test name) (e ∷ es))
    by true is more = here is ∙ ap (λ o. live_from o (lookup (test name) (e ∷ es))) (sym (first_position (test name) e.0 (keys_of es) is))
    by false is more = behind is more ∙ ap (λ o. live_from o (lookup (test name) (e ∷ es))) (sym (next_position (test name) e.0 (keys_of es) is))

none_absent : (o : Option ℕ) (found : Option (Option (List Token))) → found ≡ None → live_from o found ≡ None
none_absent (Some k) found is = ap (live_from (Some k)) is
none_absent None found is = refl

from_some : (k : ℕ) (body : Option (List Token)) → true ≡ is_some body → live_from (Some k) (Some body) ≡ Some k
from_some k (Some tokens) is = refl
from_some k None is = absurd cc

from_none : (o : Option ℕ) (body : Option (List Token)) → false ≡ is_some body → live_from o (Some body) ≡ None
from_none None body is = refl
from_none (Some k) None is = refl
from_none (Some k) (Some tokens) is = absurd cc

pub found_live : (es : List Entry) (name : List ℕ) (k : ℕ) (body : Option (List Token)) → position (test name) (keys_of es) ≡ Some k → lookup (test name) es ≡ Some body → true ≡ is_some body
    → live_row (map row es) name ≡ Some k
found_live es name k body at is some = live_by es name ∙ ap (λ o. live_from o (lookup (test name) es)) at ∙ ap (live_from (Some k)) is ∙ from_some k body some

pub found_undefined : (es : List Entry) (name : List ℕ) (body : Option (List Token)) → lookup (test name) es ≡ Some body → false ≡ is_some body → live_row (map row es) name ≡ None
found_undefined es name body is none = live_by es name ∙ ap (live_from (position (test name) (keys_of es))) is ∙ from_none (position (test name) (keys_of es)) body none

pub found_nothing : (es : List Entry) (name : List ℕ) → lookup (test name) es ≡ None → live_row (map row es) name ≡ None
found_nothing es name is = live_by es name ∙ none_absent (position (test name) (keys_of es)) (lookup (test name) es) is
