-- What is live after a name gets other tokens.
use Rattle.std.proofs.Common.{◌≡◌, ℕ, Bool, true, false, List, [], ◌∷◌, map, Option, Vec, Global, refl, sym, ap, subst, ◌∙◌, true≢false}
use Rattle.std.specs.Prelude.{if◌then◌else◌, option_map}
use Rattle.std.specs.Str.{bytes_eq}
use Rattle.std.proofs.lemmas.Slice.Eq.{bytes_eq-Decides}
use Rattle.indexmap.specs.IndexMap.{insert_entry}
use Rattle.rz_core.proofs.Tests.{by_test}
use Rattle.rz_lex.specs.declared.token.Shape.{Shape}
use Rattle.rz_lex.specs.declared.token.Token.{Token}
use Rattle.rz_pre.specs.Live.{live_in, put, shapes_of}
use Rattle.rz_pre.proofs.Rows.{row, Entry}

abbrev same_key : Vec ℕ Global → Vec ℕ Global → Bool
same_key one other = bytes_eq one.items other.items

same_name : (one other : List ℕ) → bytes_eq one other ≡ true → one ≡ other
same_name one other is = (bytes_eq-Decides one other).0 is

-- one choice above another, of which at most one is made
either_first : {X : Type 0} (a b : Bool) (x y z : X) → (a ≡ true → b ≡ true → ⊥) → (if a then x else if b then y else z) ≡ (if b then y else if a then x else z)
either_first true true x y z never = absurd (never refl refl)
either_first true false x y z never = refl
either_first false b x y z never = refl

shadowed : {X : Type 0} (a : Bool) (x y z : X) → (if a then x else z) ≡ (if a then x else if a then y else z)
shadowed true x y z = refl
shadowed false x y z = refl

pub put_live : (es : List Entry) (key : Vec ℕ Global) (body : Option (List Token)) (other : List ℕ)
    → live_in (map row (insert_entry same_key es key body)) other ≡ put key.items (option_map shapes_of body) (live_in (map row es)) other
put_live [] key body other = refl
put_live (e ∷ es) key body other = by_test (live_in (map row (insert_entry same_key (e ∷ es) key body)) other ≡ put key.items (option_map shapes_of body) (live_in (map row (e ∷ es))) other)
    (bytes_eq key.items e.0.items)
    (λ h. rw h (subst (λ (name : List ℕ). (if bytes_eq other e.0.items then now else before) ≡ (if bytes_eq other name then now else if bytes_eq other e.0.items then old else before))
    (sym (same_name key.items e.0.items h)) (shadowed (bytes_eq other e.0.items) now old before)))
    (λ h. rw h (ap (λ (found : Option (List Shape)). if bytes_eq other e.0.items then old else found) (put_live es key body other)
    ∙ either_first (bytes_eq other e.0.items) (bytes_eq other key.items) old now before (λ a b. differs h a b)))
  where
    now : Option (List Shape)
    now = option_map shapes_of body

    old : Option (List Shape)
    old = option_map shapes_of e.1

    before : Option (List Shape)
    before = live_in (map row es) other

    differs : bytes_eq key.items e.0.items ≡ false → bytes_eq other e.0.items ≡ true → bytes_eq other key.items ≡ true → ⊥
    differs h a b =
        let same : key.items ≡ e.0.items = sym (same_name other key.items b) ∙ same_name other e.0.items a in
        absurd (true≢false (sym ((bytes_eq-Decides key.items e.0.items).1 same) ∙ h))
