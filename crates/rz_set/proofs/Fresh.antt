-- Resources whose keys differ are put one after the other.
use Rattle.std.proofs.Common.{◌≡◌, Bool, false, if◌then◌else◌, List, [], ◌∷◌, ◌++◌, refl, sym, ap, ◌∙◌, append_assoc, append-nil}
use Rattle.std.specs.List.{list_any}
use Rattle.rz_core.proofs.Tests.{or_false}
use Rattle.rz_core.specs.Resources.{same_key, put, put_all, KeysDiffer}
use Rattle.rz_core.specs.declared.resource.Resource.{Resource}
use Rattle.rz_set.proofs.Puts.{flipped}

put_last : (list : List Resource) (r : Resource) → list_any (λ b. same_key b r) list ≡ false → put list r ≡ list ++ r ∷ []
put_last [] r none = refl
put_last (x ∷ xs) r none =
    let parts = or_false (same_key x r) (list_any (λ b. same_key b r) xs) none in
    ap (λ (b : Bool). if b then r ∷ xs else x ∷ put xs r) (flipped r x ∙ parts.0) ∙ ap (λ (l : List Resource). x ∷ l) (put_last xs r parts.1)

put_behind : (before list : List Resource) → KeysDiffer before list → put_all before list ≡ before ++ list
put_behind before [] differ = sym (append-nil before)
put_behind before (x ∷ xs) differ =
    ap (λ (l : List Resource). put_all l xs) (put_last before x differ.0)
    ∙ put_behind (before ++ x ∷ []) xs differ.1
    ∙ append_assoc before (x ∷ []) xs

pub put_fresh : (list : List Resource) → KeysDiffer [] list → put_all [] list ≡ list
put_fresh list differ = put_behind [] list differ
