-- Entries, their keys, and the resources that they are for.
use Rattle.std.proofs.Common.{◌≡◌, Bool, true, false, List, [], ◌∷◌, refl, sym, ap, ◌∙◌}
use Rattle.std.specs.Prelude.{◌==◌, ◌&&◌, ◌||◌}
use Rattle.std.specs.List.{list_any}
use Rattle.rz_catalog.proofs.Lookups.{tested}
use Rattle.rz_catalog.specs.Apply.{id_bits_of, is_entry_for, same_leaf}
use Rattle.rz_catalog_text.specs.declared.entry.Entry.{Entry}
use Rattle.rz_laws.specs.Apart.{same_resource, AreApart}
use Rattle.rz_core.proofs.Tests.{both, by_test, or_false, true_false}
use Rattle.rz_core.specs.Resources.{id_bits}
use Rattle.rz_core.specs.declared.resource.Resource.{Resource}

-- what is for the resource of an entry has the entry's type and id
pub for_same : (r : Resource) (e b : Entry) → is_entry_for r e ≡ true → is_entry_for r b ≡ same_resource e b
for_same r e b is =
    let each = both (r.kind.code == e.kind.code) (id_bits r == id_bits_of e) is in
    let code = tested r.kind.code e.kind.code each.0 in
    let bits = tested (id_bits r) (id_bits_of e) each.1 in
    λ i. (code i == b.kind.code) && (bits i == id_bits_of b)

-- the resource of an entry that is apart has none of these entries
pub none_for : (r : Resource) (e : Entry) (entries : List Entry) → is_entry_for r e ≡ true → list_any (same_resource e) entries ≡ false → list_any (is_entry_for r) entries ≡ false
none_for r e entries is apart = (λ i. list_any (λ b. for_same r e b is i) entries) ∙ apart

pub others_none : (r : Resource) (entries others : List Entry) → AreApart entries others → list_any (is_entry_for r) entries ≡ true → list_any (is_entry_for r) others ≡ false
others_none r entries [] apart some = refl
others_none r entries (e ∷ others) apart some =
    by_test (list_any (is_entry_for r) (e ∷ others) ≡ false) (is_entry_for r e)
    (λ is. absurd (true_false (sym some ∙ none_for r e entries is apart.0)))
    (λ other. ap (λ (b : Bool). b || list_any (is_entry_for r) others) other ∙ others_none r entries others apart.1 some)

and_false : (a b : Bool) → a ≡ false → (a && b) ≡ false
and_false a b is = ap (λ (c : Bool). c && b) is

-- an entry that is apart has no leaf of these entries
pub no_leaf : (e : Entry) (entries : List Entry) → list_any (same_resource e) entries ≡ false → list_any (same_leaf e) entries ≡ false
no_leaf e [] apart = refl
no_leaf e (b ∷ entries) apart =
    let each = or_false (same_resource e b) (list_any (same_resource e) entries) apart in
    λ i. and_false (same_resource e b) (e.leaf == b.leaf) each.0 i || no_leaf e entries each.1 i
