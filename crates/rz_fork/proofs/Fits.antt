-- The numbers of a fork fit their widths.
use Rattle.std.proofs.Common.{◌≡◌, ℕ, zero, suc, ◌+◌, ◌%◌, ◌^◌, ◌<◌, ◌==◌, if◌then◌else◌, Bool, true, false, FitsSigned, ◌+ℤ◌, List, [], ◌∷◌, length, map, take, drop, get_or, sym, ap, ◌∙◌, arith, subst}
use Rattle.std.proofs.lemmas.Int.{wrapping_add-bits, SFits-int_wrap}
use Rattle.std.proofs.lemmas.List.{get_or-drop, length-take}
use Rattle.std.specs.Int.{cast_signed, w16}
use Rattle.std.specs.List.{flat_map, AllByRecursion}
use Rattle.rz_core.proofs.Placed.{number_fits}
use Rattle.rz_core.proofs.Lists.{all_append}
use Rattle.rz_fork.specs.declared.layout.Outline.{Outline}
use Rattle.rz_fork.specs.declared.layout.TypeEntry.{TypeEntry}
use Rattle.rz_fork.specs.declared.layout.Reference.{Reference}
use Rattle.rz_core.specs.Numbers.{number}
use Rattle.rz_fork.specs.Layout.{types_place, entry_at, entries, reference_at, references}
use Rattle.rz_fork.specs.Contents.{data_of, data_place, name_of, name_at, resource_of, resources_of, resources, FitsFork}
use Rattle.rz_fork.proofs.Items.{all_items}

-- every item is a byte
abbrev pub AreBytes : List ℕ → Type 0
AreBytes bytes = (i : ℕ) → get_or bytes i 0 < 256

-- the 16 bits of an id
abbrev pub HasId : Reference → Type 0
HasId r = r.id < 2 ^ 16

pub ids_fit : (bytes : List ℕ) (t : TypeEntry) → AreBytes bytes → AllByRecursion HasId (references bytes t)
unfolding references reference_at
ids_fit bytes t small = all_items HasId (reference_at bytes) 12 t.list t.count (λ place. omega (arith, number_fits 2 bytes place small))

-- the attribute byte
abbrev HasAttr : Reference → Type 0
HasAttr r = r.attr < 256

attrs_fit : (bytes : List ℕ) (t : TypeEntry) → AreBytes bytes → AllByRecursion HasAttr (references bytes t)
unfolding references reference_at
attrs_fit bytes t small = all_items HasAttr (reference_at bytes) 12 t.list t.count (λ place. omega (arith, number_fits 1 bytes (place + 4) small))

signed_fits : (n : ℕ) → n < 2 ^ 16 → FitsSigned w16 (cast_signed w16 n)
signed_fits n small =
    let wrapped = wrapping_add-bits w16 n 0 small (omega arith) in
    let same : n ≡ (n + 0) % 2 ^ 16 = omega arith in
    subst (FitsSigned w16) (sym (ap (cast_signed w16) same ∙ wrapped)) (SFits-int_wrap w16 (cast_signed w16 n +ℤ cast_signed w16 0))

all_take : (n : ℕ) (bytes : List ℕ) → AreBytes bytes → AllByRecursion (λ b. b < 256) (take n bytes)
all_take zero bytes small = tt
all_take (suc n) [] small = tt
all_take (suc n) (b ∷ bs) small = (small 0, all_take n bs (λ i. small (suc i)))

drop_small : (n : ℕ) (bytes : List ℕ) → AreBytes bytes → AreBytes (drop n bytes)
drop_small n bytes small i = subst (λ (x : ℕ). x < 256) (sym (get_or-drop n bytes i 0)) (small (n + i))

name_by : (b : Bool) (count : ℕ) (xs : List ℕ) → count < 256 → length (if b then [] else take count xs) < 256
name_by true count xs small = omega arith
name_by false count xs small = omega (arith, length-take count xs)

name_fits : (bytes : List ℕ) (o : Outline) (r : Reference) → AreBytes bytes → length (name_of bytes o r) < 256
unfolding name_of
name_fits bytes o r small =
    let place = o.header.map_at + name_at o r in
    name_by (r.name == 65535) (number 1 bytes place) (drop (place + 1) bytes) (omega (arith, number_fits 1 bytes place small))

name_bytes_by : (b : Bool) (xs : List ℕ) → AllByRecursion (λ b. b < 256) xs → AllByRecursion (λ b. b < 256) (if b then [] else xs)
name_bytes_by true xs small = tt
name_bytes_by false xs small = small

name_bytes : (bytes : List ℕ) (o : Outline) (r : Reference) → AreBytes bytes → AllByRecursion (λ b. b < 256) (name_of bytes o r)
unfolding name_of
name_bytes bytes o r small =
    let place = o.header.map_at + name_at o r in
    name_bytes_by (r.name == 65535) (take (number 1 bytes place) (drop (place + 1) bytes)) (all_take (number 1 bytes place) (drop (place + 1) bytes) (drop_small (place + 1) bytes small))

resource_fits : (bytes : List ℕ) (o : Outline) (t : TypeEntry) (r : Reference) → AreBytes bytes → t.code < 2 ^ 32 → HasId r → HasAttr r → FitsFork (resource_of bytes o t r)
unfolding resource_of data_of
resource_fits bytes o t r small code id attr = record {
  code = code;
  id = signed_fits r.id id;
  name = name_fits bytes o r small;
  name_bytes = name_bytes bytes o r small;
  attr = attr;
  bytes = all_take (number 4 bytes (data_place o r)) (drop (data_place o r + 4) bytes) (drop_small (data_place o r + 4) bytes small);
}

resources_fit : (bytes : List ℕ) (o : Outline) (t : TypeEntry) (rs : List Reference) → AreBytes bytes → t.code < 2 ^ 32 → AllByRecursion HasId rs → AllByRecursion HasAttr rs → AllByRecursion FitsFork (map (resource_of bytes o t) rs)
resources_fit bytes o t [] small code ids attrs = tt
resources_fit bytes o t (r ∷ rs) small code ids attrs = (resource_fits bytes o t r small code ids.0 attrs.0, resources_fit bytes o t rs small code ids.1 attrs.1)

-- the code of an entry
abbrev HasCode : TypeEntry → Type 0
HasCode t = t.code < 2 ^ 32

codes_fit : (bytes : List ℕ) (o : Outline) → AreBytes bytes → AllByRecursion HasCode (entries bytes o)
unfolding entries entry_at
codes_fit bytes o small = all_items HasCode (entry_at bytes o) 8 (types_place o + 2) o.count (λ place. omega (arith, number_fits 4 bytes place small))

types_fit : (bytes : List ℕ) (o : Outline) (ts : List TypeEntry) → AreBytes bytes → AllByRecursion HasCode ts → AllByRecursion FitsFork (flat_map (resources_of bytes o) ts)
types_fit bytes o [] small codes = tt
types_fit bytes o (t ∷ ts) small codes =
    all_append FitsFork (resources_of bytes o t) (flat_map (resources_of bytes o) ts)
    (resources_fit bytes o t (references bytes t) small codes.0 (ids_fit bytes t small) (attrs_fit bytes t small)) (types_fit bytes o ts small codes.1)

-- every resource that bytes hold fits
pub all_fit : (bytes : List ℕ) (o : Outline) → AreBytes bytes → AllByRecursion FitsFork (resources bytes o)
all_fit bytes o small = types_fit bytes o (entries bytes o) small (codes_fit bytes o small)
