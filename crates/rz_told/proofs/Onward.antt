-- What is left after one more reference or type.
use Rattle.std.proofs.Common.{◌≡◌, ◌⊎◌, inl, inr, ℕ, ◌+◌, ◌*◌, ◌≤◌, ◌<◌, true, false, if◌then◌else◌, is_some, Bool, List, [], ◌∷◌, ◌++◌, length, take, drop, slice_get, IfNone, Some, None, refl, sym, ap, ◌∙◌, arith}
use Rattle.std.proofs.lemmas.List.{append_assoc, at_drop_more, at_drop_all}
use Rattle.std.proofs.lemmas.Option.{slice_get_within, get_or_from_slice_get}
use Rattle.std.specs.List.{flat_map}
use Rattle.std.specs.declared.option.Option.{Option}
use Rattle.rz_core.specs.Lists.{with_front}
use Rattle.rz_core.proofs.Lists.{take_at_more}
use Rattle.rz_fork.specs.declared.fault.ForkFault.{ForkFault}
use Rattle.rz_fork.specs.declared.layout.Outline.{Outline}
use Rattle.rz_fork.specs.declared.layout.TypeEntry.{TypeEntry}
use Rattle.rz_fork.specs.declared.layout.Reference.{Reference}
use Rattle.rz_fork.specs.Layout.{entries, references}
use Rattle.rz_fork.specs.Rules.{Tested, list_rule, count_of}
use Rattle.rz_fork.specs.Rules as rules
use Rattle.rz_fork.specs.Breaks.{listed, holds, type_faults, whole_faults}
use Rattle.rz_fork.proofs.Items.{count_more, length-entries, length-references}
use Rattle.rz_told.specs.declared.lists.Cursor.{Cursor}
use Rattle.rz_told.specs.declared.lists.Pass.{Pass}
use Rattle.rz_told.specs.declared.lists.Pass.TheVariants.{Lists, Data, Names, Ids}
use Rattle.rz_told.specs.Left.{in_type, in_types, on_type, references_left, types_left, left_here, left_in, left_of, lists_of, behind, IsAt}

if_holds : {A F : Type 0} (rule : Option F) (found : List A) → is_some rule ≡ false → (if holds rule then found else []) ≡ found
if_holds None found is = refl
if_holds (Some x) found is = cc

if_fails : {A F : Type 0} (rule : Option F) (found : List A) → is_some rule ≡ true → (if holds rule then found else []) ≡ []
if_fails None found is = cc
if_fails (Some x) found is = refl

-- the pieces from an item on begin with its own
front_at : {A B : Type 0} (piece : List A → A → List B) (xs : List A) (i : ℕ) (x : A) → slice_get xs i ≡ Some x
    → with_front piece (take i xs) (drop i xs) ≡ piece (take i xs) x ++ with_front piece (take (i + 1) xs) (drop (i + 1) xs)
front_at {A} piece xs i x is =
    at_drop_more (with_front piece (take i xs)) xs i x (slice_get_within xs i x is)
    ∙ ap (λ (y : A). piece (take i xs) y ++ with_front piece (take i xs ++ y ∷ []) (drop (i + 1) xs)) (get_or_from_slice_get xs i x x is)
    ∙ ap (λ (front : List A). piece (take i xs) x ++ with_front piece front (drop (i + 1) xs)) (sym (take_at_more xs i x is))

module _ (pass : Pass) (bytes : List ℕ) (o : Outline) where
  pub one_reference : (t : TypeEntry) (next : ℕ) (r : Reference) → slice_get (references bytes t) next ≡ Some r
      → references_left pass bytes o t next ≡ listed (in_type pass bytes o (take next (references bytes t)) r) ++ references_left pass bytes o t (next + 1)
  one_reference t next r is = front_at (λ (before : List Reference) (x : Reference). listed (in_type pass bytes o before x)) (references bytes t) next r is

  pub no_reference : (t : TypeEntry) (next : ℕ) → t.count ≤ next → references_left pass bytes o t next ≡ []
  no_reference t next past =
      at_drop_all (with_front (λ (before : List Reference) (x : Reference). listed (in_type pass bytes o before x)) (take next (references bytes t))) (references bytes t) next
      (omega (arith, past, length-references bytes t))

  pub one_type : (begun : ℕ) (t : TypeEntry) → slice_get (entries bytes o) begun ≡ Some t
      → types_left pass bytes o begun ≡ on_type pass bytes o (take begun (entries bytes o)) t ++ types_left pass bytes o (begun + 1)
  one_type begun t is = front_at (on_type pass bytes o) (entries bytes o) begun t is

  pub no_type : (begun : ℕ) → o.count ≤ begun → types_left pass bytes o begun ≡ []
  no_type begun past = at_drop_all (with_front (on_type pass bytes o) (take begun (entries bytes o))) (entries bytes o) begun (omega (arith, past, length-entries bytes o))

  -- where no reference of the type that is begun is left, the next type comes
  pub next_type : (at : Cursor) (t : TypeEntry) → at.entry.count ≤ at.next → slice_get (entries bytes o) at.begun ≡ Some t
      → left_here pass bytes o at ≡ on_type pass bytes o (take at.begun (entries bytes o)) t ++ types_left pass bytes o (at.begun + 1)
  next_type at t past is = λ i. no_reference at.entry at.next past i ++ one_type at.begun t is i

  pub nothing_here : (at : Cursor) → at.entry.count ≤ at.next → o.count ≤ at.begun → left_here pass bytes o at ≡ []
  nothing_here at past over = λ i. no_reference at.entry at.next past i ++ no_type at.begun over i

  -- a reference that is tested
  pub past_reference : (t : TypeEntry) (next : ℕ) (r : Reference) (fault : Option ForkFault) → slice_get (references bytes t) next ≡ Some r → fault ≡ in_type pass bytes o (take next (references bytes t)) r
      → references_left pass bytes o t next ≡ listed fault ++ references_left pass bytes o t (next + 1)
  past_reference t next r fault is rule =
      one_reference t next r is ∙ ap (λ (f : Option ForkFault). listed f ++ references_left pass bytes o t (next + 1)) (sym rule)

  -- a type that is tested, with none of its references
  pub past_type : (at : Cursor) (t : TypeEntry) (fault : Option ForkFault) (n : ℕ) → at.entry.count ≤ at.next → slice_get (entries bytes o) at.begun ≡ Some t
      → on_type pass bytes o (take at.begun (entries bytes o)) t ≡ listed fault
      → left_here pass bytes o at ≡ listed fault ++ left_here pass bytes o (record { entry = at.entry; next = at.next; begun = at.begun + 1; so_far = n })
  past_type at t fault n past is found =
      next_type at t past is
      ∙ (λ i. found i ++ (sym (no_reference at.entry at.next past) i ++ types_left pass bytes o (at.begun + 1)))

  -- a type whose references are tested from here on
  pub begun_type : (at : Cursor) (t : TypeEntry) (n : ℕ) → at.entry.count ≤ at.next → slice_get (entries bytes o) at.begun ≡ Some t
      → on_type pass bytes o (take at.begun (entries bytes o)) t ≡ references_left pass bytes o t 0
      → left_here pass bytes o at ≡ left_here pass bytes o (record { entry = t; next = 0; begun = at.begun + 1; so_far = n })
  begun_type at t n past is found = next_type at t past is ∙ ap (λ (first : List ForkFault). first ++ types_left pass bytes o (at.begun + 1)) found

  -- the references of the type that is begun, as far as the next fault
  pub onward : (at : Cursor) (next : ℕ) (fault : Option ForkFault) → references_left pass bytes o at.entry at.next ≡ listed fault ++ references_left pass bytes o at.entry next
      → left_here pass bytes o at ≡ listed fault ++ left_here pass bytes o (record { entry = at.entry; next = next; begun = at.begun; so_far = at.so_far })
  onward at next fault found =
      ap (λ (first : List ForkFault). first ++ types_left pass bytes o at.begun) found
      ∙ append_assoc (listed fault) (references_left pass bytes o at.entry next) (types_left pass bytes o at.begun)

  -- no reference is tested of a type whose list is broken, and all are of another
  whole : (tested : Tested) (before : List TypeEntry) (t : TypeEntry) → is_some (list_rule o before t) ≡ false → whole_faults tested bytes o before t ≡ type_faults tested bytes o t
  whole tested before t holds = if_holds (list_rule o before t) (type_faults tested bytes o t) holds

  pub whole_type : (before : List TypeEntry) (t : TypeEntry) → (pass ≡ Data) ⊎ ((pass ≡ Names) ⊎ (pass ≡ Ids)) → is_some (list_rule o before t) ≡ false
      → on_type pass bytes o before t ≡ references_left pass bytes o t 0
  whole_type before t (inl e) holds = rw e (whole rules.Data before t holds)
  whole_type before t (inr (inl e)) holds = rw e (whole rules.Name before t holds)
  whole_type before t (inr (inr e)) holds = rw e (whole rules.Id before t holds)

  pub broken_type : (before : List TypeEntry) (t : TypeEntry) → (pass ≡ Data) ⊎ ((pass ≡ Names) ⊎ (pass ≡ Ids)) → is_some (list_rule o before t) ≡ true
      → on_type pass bytes o before t ≡ []
  broken_type before t (inl e) fails = rw e (if_fails (list_rule o before t) (type_faults rules.Data bytes o t) fails)
  broken_type before t (inr (inl e)) fails = rw e (if_fails (list_rule o before t) (type_faults rules.Name bytes o t) fails)
  broken_type before t (inr (inr e)) fails = rw e (if_fails (list_rule o before t) (type_faults rules.Id bytes o t) fails)

  -- a rule that begins finds what it finds in all types
  pub from_start : (at : Cursor) → at.entry.count ≤ at.next → at.begun ≡ 0 → left_here pass bytes o at ≡ in_types pass bytes o
  from_start at past is = (λ i. no_reference at.entry at.next past i ++ types_left pass bytes o (is i))

module _ (bytes : List ℕ) (o : Outline) (at : Cursor) (t : TypeEntry) (is : slice_get (entries bytes o) at.begun ≡ Some t) (here : IsAt bytes o at) (more : at.begun < o.count) (small : t.count < 65536) where
  counted : at.so_far + t.count ≡ count_of (take (at.begun + 1) (entries bytes o))
  counted = omega (arith, count_more (entries bytes o) at.begun t is, here.so_far)

  -- the place after a type whose references aren't tested
  pub at_past : IsAt bytes o (record { entry = at.entry; next = at.next; begun = at.begun + 1; so_far = at.so_far + t.count })
  at_past = record { list = here.list; begun = omega arith; so_far = counted; few = omega (arith, here.few) }

  -- the place at one whose references are
  pub at_begun : t.list + 12 * t.count ≤ length bytes → IsAt bytes o (record { entry = t; next = 0; begun = at.begun + 1; so_far = at.so_far + t.count })
  at_begun list = record { list = λ some. list; begun = omega arith; so_far = counted; few = omega (arith, here.few) }

pub at_start : (bytes : List ℕ) (o : Outline) (t : TypeEntry) → t.count ≡ 0 → IsAt bytes o (record { entry = t; next = 0; begun = 0; so_far = 0 })
at_start bytes o t none = record { list = λ some. absurd (omega (arith, some, none)); begun = omega arith; so_far = refl; few = omega arith }

-- the place at the next fault of the type that is begun
pub at_onward : (bytes : List ℕ) (o : Outline) (at : Cursor) (next : ℕ) → IsAt bytes o at → at.next ≤ next
    → IsAt bytes o (record { entry = at.entry; next = next; begun = at.begun; so_far = at.so_far })
at_onward bytes o at next here onward = record { list = λ some. here.list (omega (arith, some, onward)); begun = here.begun; so_far = here.so_far; few = here.few }

-- the place where a rule begins
abbrev pub start : Cursor
start = record { entry = record { place = 0; code = 0; count = 0; list = 0 }; next = 0; begun = 0; so_far = 0 }

-- at first all is left
pub all_left : (bytes : List ℕ) (outline : Option Outline) (area : Bool) → left_of bytes outline area Lists start ≡ lists_of bytes outline area
all_left bytes None area = refl
all_left bytes (Some o) area = ap (λ (first : List ForkFault). first ++ flat_map (λ pass. in_types pass bytes o) (behind area Lists)) (from_start Lists bytes o start (omega arith) refl)

-- after a rule that finds nothing more the next begins
pub next_rule : (bytes : List ℕ) (o : Outline) (area : Bool) (pass next : Pass) (at : Cursor) → left_here pass bytes o at ≡ [] → behind area pass ≡ next ∷ behind area next
    → left_in area pass bytes o at ≡ left_in area next bytes o start
next_rule bytes o area pass next at none is =
    (λ i. none i ++ flat_map (λ later. in_types later bytes o) (is i))
    ∙ ap (λ (first : List ForkFault). first ++ flat_map (λ later. in_types later bytes o) (behind area next)) (sym (from_start next bytes o start (omega arith) refl))

-- what a search that ends leaves

pub ends_some : {F : Type 0} (fault : Option F) (P : Type 0) → is_some fault ≡ true → IfNone fault P
ends_some None P is = cc
ends_some (Some x) P is = tt

pub ends_with : {F : Type 0} (fault : Option F) (P Q : Type 0) → IfNone fault Q → (Q → P) → IfNone fault P
ends_with None P Q q more = more q
ends_with (Some x) P Q q more = tt

pub finds_none : {F : Type 0} (fault : Option F) (before after : List F) → is_some fault ≡ false → before ≡ listed fault ++ after → IfNone fault (after ≡ []) → before ≡ []
finds_none None before after is gives none = gives ∙ none
finds_none (Some x) before after is gives none = cc
