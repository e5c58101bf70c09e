-- Names in whatever case.
use Rattle.std.proofs.Common.{◌≡◌, ℕ, ◌==◌, ◌&&◌, true, List, [], ◌∷◌, map, refl, sym, ap, ◌∙◌, arith}
use Rattle.std.specs.Prelude.{◌↔◌}
use Rattle.std.specs.Char.{eq_ignore_ascii_case, to_ascii_lowercase}
use Rattle.std.specs.Str.{str_eq_ignore_ascii_case, str_to_ascii_lowercase}
use Rattle.std.proofs.lemmas.Bool.Decides.{nat_tests}
use Rattle.std.proofs.lemmas.Slice.Eq.{bytes_eq-Decides}
use Rattle.std.proofs.lemmas.Str.Ascii.{lowercase-lowercase}
use Rattle.rz_core.specs.Roman.{folded}

one_fold : (byte : ℕ) → folded byte ≡ to_ascii_lowercase byte
one_fold byte = grind (arith, nat_tests)

pub each_fold : (name : List ℕ) → map folded name ≡ str_to_ascii_lowercase name
each_fold [] = refl
each_fold (byte ∷ name) = λ i. one_fold byte i ∷ each_fold name i

pub same_lower : (one other : List ℕ) → (str_eq_ignore_ascii_case one other ≡ true) ↔ (str_to_ascii_lowercase one ≡ str_to_ascii_lowercase other)
same_lower one other = bytes_eq-Decides (str_to_ascii_lowercase one) (str_to_ascii_lowercase other)

pub same_fold : (one other : List ℕ) → (str_eq_ignore_ascii_case one other ≡ true) ↔ (map folded one ≡ map folded other)
same_fold one other = (
  λ is. each_fold one ∙ (same_lower one other).0 is ∙ sym (each_fold other),
  λ is. (same_lower one other).1 (sym (each_fold one) ∙ is ∙ each_fold other),
)

-- a name is itself
pub own_name : (name : List ℕ) → str_eq_ignore_ascii_case name name ≡ true
own_name name = (same_lower name name).1 refl

-- a name is like another exactly where it is like that one in lower case

lower_byte : (a b : ℕ) → eq_ignore_ascii_case a (to_ascii_lowercase b) ≡ eq_ignore_ascii_case a b
lower_byte a b = ap (λ n. to_ascii_lowercase a == n) (lowercase-lowercase b)

pub lower_eq : (own name : List ℕ) → str_eq_ignore_ascii_case own (str_to_ascii_lowercase name) ≡ str_eq_ignore_ascii_case own name
lower_eq [] [] = refl
lower_eq [] (n ∷ name) = refl
lower_eq (o ∷ own) [] = refl
lower_eq (o ∷ own) (n ∷ name) = λ i. lower_byte o n i && lower_eq own name i
