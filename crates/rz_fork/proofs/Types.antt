-- The types of an image: the rules that hold of them, and what is read of their resources.
use Rattle.std.proofs.Common.{◌≡◌, ℕ, ◌+◌, ◌*◌, ◌≤◌, ◌==◌, ◌||◌, cond, filter, Bool, true, false, List, [], ◌∷◌, ◌++◌, length, map, None, refl, sym, ap, ◌∙◌, arith, append_assoc, length-append, subst}
use Rattle.std.proofs.lemmas.Bool.{or_parts, eqb-true}
use Rattle.std.proofs.lemmas.Bool.Decides.{nat_tests}
use Rattle.std.proofs.lemmas.List.{append-nil}
use Rattle.std.proofs.lemmas.List.Concat.{flat_map-append}
use Rattle.std.proofs.lemmas.List.Elements.{filter-append}
use Rattle.std.proofs.lemmas.List.Folds.{list_any-append}
use Rattle.std.proofs.lemmas.List.Sums.{sum_by_push}
use Rattle.std.specs.List.{flat_map, AllByRecursion, list_any}
use Rattle.rz_core.proofs.Tests.{by_test}
use Rattle.rz_core.specs.Lists.{with_front, first_in, or_else}
use Rattle.rz_core.proofs.Lists.{length-with_front, all_split}
use Rattle.rz_core.specs.Resources.{same_key, KeysDiffer}
use Rattle.rz_core.specs.declared.resource.Resource.{Resource}
use Rattle.rz_fork.specs.declared.layout.Outline.{Outline}
use Rattle.rz_fork.specs.declared.layout.TypeEntry.{TypeEntry}
use Rattle.rz_fork.specs.declared.layout.Reference.{Reference}
use Rattle.rz_fork.specs.Image as image
use Rattle.rz_fork.specs.Image.{new_kind, group_of, name_offset, data_area, list_offset}
use Rattle.rz_fork.specs.Layout.{types_place, references}
use Rattle.rz_fork.specs.Contents.{resource_of, resources_of}
use Rattle.rz_fork.specs.Rules.{references_outside, count_of, list_rule, type_rule, reference_rule, broken, fault, Data, Name, Id}
use Rattle.rz_fork.specs.Code.{in_type}
use Rattle.rz_fork.proofs.Grouping.{with_front_append}
use Rattle.rz_fork.proofs.Lengths.{length-reference_to}
use Rattle.rz_core.proofs.Placed.{Has, has_left, has_right}
use Rattle.rz_fork.proofs.Resources.{Stands, HasKind, ids_hold, type_reads}
use Rattle.rz_fork.proofs.Written.{written_entry, written_entries, written_references, references_are, groups_append, AreSmall, HasShortId}

-- Groups.

group_codes : (list : List Resource) (k : ℕ) → AllByRecursion (HasKind k) (group_of list k)
group_codes [] k = tt
group_codes (r ∷ rs) k =
    by_test _ (r.kind.code == k)
    (λ is. subst (λ (b : Bool). AllByRecursion (HasKind k) (cond b (r ∷ group_of rs k) (group_of rs k))) (sym is) (eqb-true r.kind.code k is, group_codes rs k))
    (λ is. subst (λ (b : Bool). AllByRecursion (HasKind k) (cond b (r ∷ group_of rs k) (group_of rs k))) (sym is) (group_codes rs k))

any_filter : {X : Type 0} (q p : X → Bool) (xs : List X) → list_any q xs ≡ false → list_any q (filter p xs) ≡ false
any_filter q p [] none = refl
any_filter q p (x ∷ xs) none =
    let parts = or_parts (q x) (list_any q xs) none in
    by_test _ (p x)
    (λ is. ap (λ b. list_any q (cond b (x ∷ filter p xs) (filter p xs))) is ∙ (λ i. parts.0 i || any_filter q p xs parts.1 i))
    (λ is. ap (λ b. list_any q (cond b (x ∷ filter p xs) (filter p xs))) is ∙ any_filter q p xs parts.1)

filter_push : {X : Type 0} (p : X → Bool) (xs : List X) (x : X) (b : Bool) → p x ≡ b → filter p (xs ++ x ∷ []) ≡ filter p xs ++ cond b (x ∷ []) []
filter_push p xs x b is = filter-append p xs (x ∷ []) ∙ ap (λ b. filter p xs ++ cond b (x ∷ []) []) is

keys_filter : (p : Resource → Bool) (front rs : List Resource) → KeysDiffer front rs → KeysDiffer (filter p front) (filter p rs)
keys_filter p front [] differ = tt
keys_filter p front (r ∷ rs) differ =
    by_test _ (p r)
    (λ is. subst (λ (b : Bool). KeysDiffer (filter p front) (cond b (r ∷ filter p rs) (filter p rs))) (sym is) (
      any_filter (λ b. same_key b r) p front differ.0,
      subst (λ (l : List Resource). KeysDiffer l (filter p rs)) (filter_push p front r true is) (keys_filter p (front ++ r ∷ []) rs differ.1),
    ))
    (λ is. subst (λ (b : Bool). KeysDiffer (filter p front) (cond b (r ∷ filter p rs) (filter p rs))) (sym is)
    (subst (λ (l : List Resource). KeysDiffer l (filter p rs)) (filter_push p front r false is ∙ append-nil (filter p front)) (keys_filter p (front ++ r ∷ []) rs differ.1)))

-- each type differs from those before
abbrev pub KindsDiffer : List ℕ → List ℕ → Type 0
KindsDiffer before [] = Unit {0}
KindsDiffer before (k ∷ ks) = (list_any (λ b. b == k) before ≡ false) × KindsDiffer (before ++ k ∷ []) ks

absorbed : (a b : Bool) → (b ≡ true → a ≡ true) → a ≡ (a || (b || false))
absorbed true b h = refl
absorbed false true h = h refl
absorbed false false h = refl

-- a resource of a type that is known makes no type known
known : (ks : List ℕ) (front : List Resource) (r : Resource) (x : ℕ) → list_any (λ k. k == x) ks ≡ list_any (λ b. b.kind.code == x) front
    → list_any (λ b. b.kind.code == r.kind.code) front ≡ true → list_any (λ k. k == x) ks ≡ list_any (λ b. b.kind.code == x) (front ++ r ∷ [])
known ks front r x same old =
    same ∙ absorbed (list_any (λ b. b.kind.code == x) front) (r.kind.code == x) (λ is. ap (λ (c : ℕ). list_any (λ b. b.kind.code == c) front) (sym (eqb-true r.kind.code x is)) ∙ old)
    ∙ sym (list_any-append (λ b. b.kind.code == x) front (r ∷ []))

pub kinds_differ : (front rs : List Resource) (ks : List ℕ) → ((x : ℕ) → list_any (λ k. k == x) ks ≡ list_any (λ b. b.kind.code == x) front)
    → KindsDiffer ks (with_front new_kind front rs)
kinds_differ front [] ks same = tt
kinds_differ front (r ∷ rs) ks same =
    let code = r.kind.code in
    let tail = with_front new_kind (front ++ r ∷ []) rs in
    by_test _ (list_any (λ b. b.kind.code == code) front)
    (λ old. subst (λ (b : Bool). KindsDiffer ks (cond b [] (code ∷ []) ++ tail)) (sym old)
    (kinds_differ (front ++ r ∷ []) rs ks (λ x. known ks front r x (same x) old)))
    (λ new. subst (λ (b : Bool). KindsDiffer ks (cond b [] (code ∷ []) ++ tail)) (sym new) (
      same code ∙ new,
      kinds_differ (front ++ r ∷ []) rs (ks ++ code ∷ [])
          (λ x. list_any-append (λ k. k == x) ks (code ∷ []) ∙ ap (λ (b : Bool). b || ((code == x) || false)) (same x) ∙ sym (list_any-append (λ b. b.kind.code == x) front (r ∷ []))),
    ))

-- What is read of types, and of their resources.

module _ (bytes : List ℕ) (o : Outline) (list : List Resource) (kinds : ℕ) (differ : KeysDiffer [] list) where
  abbrev base : ℕ
  base = types_place o

  abbrev groups : List ℕ → List Resource
  groups ks = flat_map (group_of list) ks

  -- where the references of the type after these stand
  abbrev list_place : List ℕ → ℕ
  list_place before = base + list_offset list kinds before

  abbrev entry_after : ℕ → List ℕ → ℕ → TypeEntry
  entry_after place before k = written_entry base place k (length (group_of list k)) (list_offset list kinds before)

  abbrev references_after : List ℕ → ℕ → List Reference
  references_after before k = written_references (list_place before) (groups before) (group_of list k)

  -- the references of these types stand after those of the types before
  abbrev pub HasLists : List ℕ → List ℕ → Type 0
  HasLists before ks = Has bytes (list_place before) (with_front image.reference (groups before) (groups ks))

  types_split : (before : List ℕ) (k : ℕ) (ks : List ℕ) → groups (before ++ k ∷ ks) ≡ groups before ++ (group_of list k ++ groups ks)
  types_split before k ks = flat_map-append (group_of list) before (k ∷ ks)

  own_references : (before : List ℕ) (k : ℕ) (ks : List ℕ) → HasLists before (k ∷ ks)
      → Has bytes (list_place before) (with_front image.reference (groups before) (group_of list k) ++ with_front image.reference (groups before ++ group_of list k) (groups ks))
  own_references before k ks has = subst (Has bytes (list_place before)) (with_front_append image.reference (groups before) (group_of list k) (groups ks)) has

  type_references : (place : ℕ) (before : List ℕ) (k : ℕ) (ks : List ℕ) → HasLists before (k ∷ ks)
      → AllByRecursion HasShortId (group_of list k) → AreSmall (groups (before ++ k ∷ ks)) → references bytes (entry_after place before k) ≡ references_after before k
  unfolding references
  type_references place before k ks has ids small =
      let here = has_left bytes (list_place before) (with_front image.reference (groups before) (group_of list k)) (with_front image.reference (groups before ++ group_of list k) (groups ks)) (own_references before k ks has) in
      references_are bytes (list_place before) (groups before) (group_of list k) (groups ks) here ids (subst AreSmall (types_split before k ks) small)

  later_references : (before : List ℕ) (k : ℕ) (ks : List ℕ) → HasLists before (k ∷ ks) → HasLists (before ++ k ∷ []) ks
  later_references before k ks has =
      let first = with_front image.reference (groups before) (group_of list k) in
      let more : groups (before ++ k ∷ []) ≡ groups before ++ group_of list k = flat_map-append (group_of list) before (k ∷ []) ∙ ap (λ l. groups before ++ l) (append-nil (group_of list k)) in
      let size : length first ≡ 12 * length (group_of list k) = length-with_front image.reference 12 (λ front r. length-reference_to (name_offset front r) (length (data_area front)) r) (groups before) (group_of list k) in
      let there = has_right bytes (list_place before) (list_place (before ++ k ∷ [])) first (with_front image.reference (groups before ++ group_of list k) (groups ks))
      (omega (arith, size, ap length more, length-append (groups before) (group_of list k))) (own_references before k ks has) in
      subst (λ (l : List Resource). Has bytes (list_place (before ++ k ∷ [])) (with_front image.reference l (groups ks))) (sym more) there

  -- what is read of a type
  pub record TypeReads (t : TypeEntry) (k : ℕ) : Type 0 where
    pub areas : in_type Data bytes o t ≡ None
    pub names : in_type Name bytes o t ≡ None
    pub ids : in_type Id bytes o t ≡ None
    pub resources : resources_of bytes o t ≡ group_of list k

  type_is : (place : ℕ) (before : List ℕ) (k : ℕ) (ks : List ℕ) → HasLists before (k ∷ ks) → Stands bytes o (groups (before ++ k ∷ ks))
      → AllByRecursion HasShortId (group_of list k) → TypeReads (entry_after place before k) k
  unfolding in_type
  type_is place before k ks has stands short =
      let own = entry_after place before k in
      let refs = type_references place before k ks has short stands.small in
      let reads = type_reads bytes o own (list_place before) (groups before) (group_of list k) (groups ks) [] (subst (Stands bytes o) (types_split before k ks) stands) short (group_codes list k) in
      let apart = ids_hold (list_place before) (groups before) [] (group_of list k) [] (keys_filter (λ r. r.kind.code == k) [] list differ) k tt (group_codes list k) (λ x. refl) in
      record {
        areas = ap (λ (l : List Reference). first_in (reference_rule Data bytes o) [] l) refs ∙ reads.0;
        names = ap (λ (l : List Reference). first_in (reference_rule Name bytes o) [] l) refs ∙ reads.1;
        ids = ap (λ (l : List Reference). first_in (reference_rule Id bytes o) [] l) refs ∙ apart;
        resources = ap (map (resource_of bytes o own)) refs ∙ reads.2;
      }

  -- what is read of these types, after those before
  pub record TypesRead (seen : List TypeEntry) (ts : List TypeEntry) (ks : List ℕ) : Type 0 where
    pub lists : first_in (list_rule o) seen ts ≡ None
    pub areas : first_in (λ (before : List TypeEntry) (t : TypeEntry). in_type Data bytes o t) seen ts ≡ None
    pub names : first_in (λ (before : List TypeEntry) (t : TypeEntry). in_type Name bytes o t) seen ts ≡ None
    pub types : first_in type_rule seen ts ≡ None
    pub ids : first_in (λ (before : List TypeEntry) (t : TypeEntry). in_type Id bytes o t) seen ts ≡ None
    pub resources : flat_map (resources_of bytes o) ts ≡ groups ks

  list_holds : (so_far : ℕ) (t : TypeEntry) → t.list + 12 * t.count ≤ o.header.map_at + o.header.map_length → so_far + t.count ≤ 16384 → references_outside o so_far t ≡ None
  unfolding references_outside
  list_holds so_far t within few = grind (arith, nat_tests)

  -- the bounds of the lists of these types
  pub record AreWithin (ks : List ℕ) : Type 0 where
    pub map : o.types + list_offset list kinds ks ≤ o.header.map_length
    pub few : length (groups ks) ≤ 16384

  pub types_are : (place : ℕ) (before ks : List ℕ) (seen : List TypeEntry) → HasLists before ks → Stands bytes o (groups (before ++ ks)) → AreWithin (before ++ ks)
      → AllByRecursion HasShortId (groups ks) → KindsDiffer before ks → count_of seen ≡ length (groups before) → ((x : ℕ) → list_any (λ b. b.code == x) seen ≡ list_any (λ k. k == x) before)
      → TypesRead seen (written_entries list kinds base place before ks) ks
  types_are place before [] seen has stands within short apart count codes = record { lists = refl; areas = refl; names = refl; types = refl; ids = refl; resources = refl }
  types_are place before (k ∷ ks) seen has stands within short apart count codes =
      let own = entry_after place before k in
      let ids = all_split HasShortId (group_of list k) (groups ks) short in
      let reads = type_is place before k ks has stands ids.0 in
      let shift = sym (append_assoc before (k ∷ []) ks) in
      let size = groups_append list before (k ∷ ks) in
      let one = length-append (group_of list k) (groups ks) in
      let more : length (groups (before ++ k ∷ [])) ≡ length (groups before) + length (group_of list k) = groups_append list before (k ∷ []) ∙ omega (arith, length-append (group_of list k) []) in
      let later = types_are (place + 8) (before ++ k ∷ []) ks (seen ++ own ∷ []) (later_references before k ks has)
      (subst (λ (l : List ℕ). Stands bytes o (groups l)) shift stands) (subst AreWithin shift within) ids.1 apart.1
      (sum_by_push (λ t. t.count) seen own ∙ omega (arith, count, more))
      (λ x. list_any-append (λ b. b.code == x) seen (own ∷ []) ∙ ap (λ (b : Bool). b || ((k == x) || false)) (codes x) ∙ sym (list_any-append (λ k. k == x) before (k ∷ []))) in
      let list_is : list_rule o seen own ≡ None = list_holds (count_of seen) own (omega (arith, size, one, within.map)) (omega (arith, size, one, count, within.few)) in
      let new : list_any (λ b. b.code == k) seen ≡ false = codes k ∙ apart.0 in
      record {
        lists = (λ i. or_else (list_is i) (later.lists i));
        areas = (λ i. or_else (reads.areas i) (later.areas i));
        names = (λ i. or_else (reads.names i) (later.names i));
        types = (λ i. or_else (broken (new i) (fault 410 place k)) (later.types i));
        ids = (λ i. or_else (reads.ids i) (later.ids i));
        resources = (λ i. reads.resources i ++ later.resources i);
      }
