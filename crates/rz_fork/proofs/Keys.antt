-- The pairs of type and id of an admitted fork differ.
use Rattle.std.proofs.Common.{◌≡◌, ℕ, ◌==◌, ◌||◌, ◌&&◌, Bool, true, false, List, [], ◌∷◌, ◌++◌, map, None, refl, sym, ap, ◌∙◌, arith, append_assoc, subst}
use Rattle.std.proofs.lemmas.Bool.{or_parts}
use Rattle.std.proofs.lemmas.Bool.Decides.{nat_tests}
use Rattle.std.proofs.lemmas.Int.{of_z-to_z}
use Rattle.std.proofs.lemmas.List.{append-nil, map-append}
use Rattle.std.proofs.lemmas.List.Concat.{flat_map-append}
use Rattle.std.proofs.lemmas.List.Folds.{list_any-append}
use Rattle.std.specs.Int.{w16}
use Rattle.std.specs.List.{flat_map, AllByRecursion, list_any}
use Rattle.rz_core.specs.Lists.{first_in}
use Rattle.rz_core.proofs.Lists.{or_else_none, all_append}
use Rattle.rz_core.specs.Resources.{id_bits, same_key, KeysDiffer}
use Rattle.rz_core.specs.declared.resource.Resource.{Resource}
use Rattle.rz_fork.specs.declared.fault.ForkFault.{ForkFault}
use Rattle.rz_fork.specs.declared.layout.Outline.{Outline}
use Rattle.rz_fork.specs.declared.layout.TypeEntry.{TypeEntry}
use Rattle.rz_fork.specs.declared.layout.Reference.{Reference}
use Rattle.rz_fork.specs.Layout.{entries, references}
use Rattle.rz_fork.specs.Contents.{resource_of, resources_of, resources}
use Rattle.rz_fork.specs.Rules.{id_rule, type_rule, broken, fault, Id}
use Rattle.rz_fork.specs.Code.{in_type}
use Rattle.rz_fork.proofs.Fits.{AreBytes, HasId, ids_fit}
use Rattle.rz_fork.proofs.Holding.{HoldLists}

pub differ_append : (front xs ys : List Resource) → KeysDiffer front xs → KeysDiffer (front ++ xs) ys → KeysDiffer front (xs ++ ys)
differ_append front [] ys first later = subst (λ (l : List Resource). KeysDiffer l ys) (append-nil front) later
differ_append front (x ∷ xs) ys first later =
    (first.0, differ_append (front ++ x ∷ []) xs ys first.1 (subst (λ (l : List Resource). KeysDiffer l ys) (sym (append_assoc front (x ∷ []) xs)) later))

-- a test that no item passes, with another one beside it
pub any_and : {X : Type 0} (p q : X → Bool) (xs : List X) → list_any p xs ≡ false → list_any (λ x. p x && q x) xs ≡ false
any_and p q [] none = refl
any_and p q (x ∷ xs) none =
    let parts = or_parts (p x) (list_any p xs) none in (λ i. (parts.0 i && q x) || any_and p q xs parts.1 i)

pub unbroken : (b : Bool) (f : ForkFault) → broken b f ≡ None → b ≡ false
unbroken true f h = cc
unbroken false f h = refl

module _ (bytes : List ℕ) (o : Outline) (small : AreBytes bytes) where
  -- ids tell the resources of a type apart
  same_ids : (t : TypeEntry) (seen : List Reference) (r : Reference) → AllByRecursion HasId seen → HasId r
      → list_any (λ b. same_key b (resource_of bytes o t r)) (map (resource_of bytes o t) seen) ≡ list_any (λ b. b.id == r.id) seen
  unfolding resource_of
  same_ids t [] r seen_fit fits = refl
  same_ids t (b ∷ seen) r seen_fit fits =
      let alike : (t.code == t.code) ≡ true = grind (arith, nat_tests) in
      λ i. (alike i && (of_z-to_z w16 b.id seen_fit.0 i == of_z-to_z w16 r.id fits i)) || same_ids t seen r seen_fit.1 fits i

  code_is : (t : TypeEntry) (r : Reference) → (resource_of bytes o t r).kind.code ≡ t.code
  unfolding resource_of
  code_is t r = refl

  -- the resources of one type differ from each other and from those of other types
  type_differs : (t : TypeEntry) (front : List Resource) (seen rs : List Reference) → list_any (λ b. b.kind.code == t.code) front ≡ false
      → first_in id_rule seen rs ≡ None → AllByRecursion HasId seen → AllByRecursion HasId rs
      → KeysDiffer (front ++ map (resource_of bytes o t) seen) (map (resource_of bytes o t) rs)
  type_differs t front seen [] new holds seen_fit fit = tt
  type_differs t front seen (r ∷ rs) new holds seen_fit fit =
      let own = resource_of bytes o t r in
      let before = map (resource_of bytes o t) seen in
      let parts = or_else_none (id_rule seen r) (first_in id_rule (seen ++ r ∷ []) rs) holds in
      let here : list_any (λ b. b.id == r.id) seen ≡ false = unbroken (list_any (λ b. b.id == r.id) seen) (fault 410 r.place r.id) parts.0 in
      let apart : list_any (λ b. same_key b own) front ≡ false =
      any_and (λ b. b.kind.code == own.kind.code) (λ b. id_bits b == id_bits own) front
      (ap (λ (c : ℕ). list_any (λ b. b.kind.code == c) front) (code_is t r) ∙ new) in
      let later = type_differs t front (seen ++ r ∷ []) rs new parts.1 (all_append HasId seen (r ∷ []) seen_fit (fit.0, tt)) fit.1 in (
        list_any-append (λ b. same_key b own) front before ∙ (λ i. apart i || (same_ids t seen r seen_fit fit.0 ∙ here) i),
        subst (λ (l : List Resource). KeysDiffer l (map (resource_of bytes o t) rs))
            (ap (λ l. front ++ l) (map-append (resource_of bytes o t) seen (r ∷ [])) ∙ sym (append_assoc front before (own ∷ []))) later,
      )

  -- the resources of a type have its code
  codes_among : (t : TypeEntry) (code : ℕ) (rs : List Reference) → (t.code == code) ≡ false → list_any (λ b. b.kind.code == code) (map (resource_of bytes o t) rs) ≡ false
  unfolding resource_of
  codes_among t code [] other = refl
  codes_among t code (r ∷ rs) other = λ i. other i || codes_among t code rs other i

  codes_before : (code : ℕ) (seen : List TypeEntry) → list_any (λ b. b.code == code) seen ≡ false → list_any (λ b. b.kind.code == code) (flat_map (resources_of bytes o) seen) ≡ false
  codes_before code [] none = refl
  codes_before code (t ∷ ts) none =
      let parts = or_parts (t.code == code) (list_any (λ b. b.code == code) ts) none in
      list_any-append (λ b. b.kind.code == code) (resources_of bytes o t) (flat_map (resources_of bytes o) ts)
      ∙ (λ i. codes_among t code (references bytes t) parts.0 i || codes_before code ts parts.1 i)

  ids_hold : (t : TypeEntry) → in_type Id bytes o t ≡ None → first_in id_rule [] (references bytes t) ≡ None
  unfolding in_type
  ids_hold t h = h

  types_differ : (seen ts : List TypeEntry) → first_in type_rule seen ts ≡ None → first_in (λ (before : List TypeEntry) (t : TypeEntry). in_type Id bytes o t) seen ts ≡ None
      → KeysDiffer (flat_map (resources_of bytes o) seen) (flat_map (resources_of bytes o) ts)
  types_differ seen [] types ids = tt
  types_differ seen (t ∷ ts) types ids =
      let rule = λ (before : List TypeEntry) (t : TypeEntry). in_type Id bytes o t in
      let type_parts = or_else_none (type_rule seen t) (first_in type_rule (seen ++ t ∷ []) ts) types in
      let id_parts = or_else_none (in_type Id bytes o t) (first_in rule (seen ++ t ∷ []) ts) ids in
      let front = flat_map (resources_of bytes o) seen in
      let own = resources_of bytes o t in
      let later = flat_map (resources_of bytes o) ts in
      let new = unbroken (list_any (λ b. b.code == t.code) seen) (fault 410 t.place t.code) type_parts.0 in
      differ_append front own later
      (subst (λ (l : List Resource). KeysDiffer l own) (append-nil front)
      (type_differs t front [] (references bytes t) (codes_before t.code seen new) (ids_hold t id_parts.0) tt (ids_fit bytes t small)))
      (subst (λ (l : List Resource). KeysDiffer l later)
      (flat_map-append (resources_of bytes o) seen (t ∷ []) ∙ ap (λ l. front ++ l) (append-nil own))
      (types_differ (seen ++ t ∷ []) ts type_parts.1 id_parts.1))

  pub keys_differ : HoldLists bytes o → KeysDiffer [] (resources bytes o)
  keys_differ holds = types_differ [] (entries bytes o) holds.codes holds.ids
