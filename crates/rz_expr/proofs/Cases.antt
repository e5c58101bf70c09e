-- Names in whatever case.
use Rattle.std.proofs.Common.{◌≡◌, ℕ, ◌==◌, ◌&&◌, if◌then◌else◌, List, [], ◌∷◌, refl, sym, ap}
use Rattle.std.specs.Prelude.{codes, pos, None, Some}
use Rattle.std.proofs.lemmas.Str.Ascii.{lowercase-lowercase}
use Rattle.std.specs.Char.{eq_ignore_ascii_case, to_ascii_lowercase}
use Rattle.std.specs.Str.{str_eq_ignore_ascii_case, str_to_ascii_lowercase}
use Rattle.rz_expr.specs.Environment.{predefined}

same_byte : (a b : ℕ) → eq_ignore_ascii_case (to_ascii_lowercase a) b ≡ eq_ignore_ascii_case a b
same_byte a b = ap (λ n. n == to_ascii_lowercase b) (lowercase-lowercase a)

same_name : (name word : List ℕ) → str_eq_ignore_ascii_case (str_to_ascii_lowercase name) word ≡ str_eq_ignore_ascii_case name word
same_name [] [] = refl
same_name [] (w ∷ word) = refl
same_name (n ∷ name) [] = refl
same_name (n ∷ name) (w ∷ word) = λ i. same_byte n w i && same_name name word i

pub same_value : (name : List ℕ) → predefined name ≡ predefined (str_to_ascii_lowercase name)
same_value name = λ i.
    if sym (same_name name (codes "true")) i then Some (pos 1)
    else if sym (same_name name (codes "false")) i then Some (pos 0)
    else None
