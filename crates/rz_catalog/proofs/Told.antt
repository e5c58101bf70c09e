-- What bytes tell, and which bytes tell a row.
use Rattle.std.proofs.Common.{◌≡◌, ◌≤◌, ℕ, true, false, List, [], ◌∷◌, ◌++◌, length, refl, arith, Option, Some, None, sym, ap, subst, ◌∙◌}
use Rattle.std.specs.Prelude.{IfOk, Ok, Err}
use Rattle.std.specs.declared.result.Result.{Result}
use Rattle.std.proofs.lemmas.Option.{none-some, same_Some}
use Rattle.rz_core.proofs.EveryCut.{one_answer}
use Rattle.rz_core.proofs.Once.{same_ok}
use Rattle.rz_core.specs.Decided.{Decided}
use Rattle.rz_core.specs.declared.facts.Facts.{Facts}
use Rattle.rz_core.proofs.Lists.{length-with_front}
use Rattle.rz_core.specs.declared.fault.Fault.{Fault}
use Rattle.rz_core.specs.declared.moment.Moment.{Moment}
use Rattle.rz_core.specs.declared.resource.Resource.{Resource}
use Rattle.rz_catalog_text.specs.declared.entry.Entry.{Entry}
use Rattle.rz_types_table.specs.Table.{declared_for, Declaration}
use Rattle.rz_layout.specs.Compiled.{IsCompiled}
use Rattle.rz_types.specs.Field.{PlainBody}
use Rattle.rz_types_fields.specs.Laid.{Refusal}
use Rattle.rz_types_fields.specs.Row.{IsRow}
use Rattle.rz_types_fields.specs.Spells.{Spells}
use Rattle.rz_types_fields.specs.declared.tree.Tree.{Tree}
use Rattle.rz_unlay.specs.Reading.{facts_of, IsTree}
use Rattle.rz_catalog.proofs.Applied.{PlainIsSpelled, SpelledIsRow}
use Rattle.rz_catalog.proofs.Stocks.{OneTree}
use Rattle.rz_catalog.specs.Apply.{placed, text_for, with_bytes, IsPut}
use Rattle.rz_catalog.specs.Held.{IsPutUnder}
use Rattle.rz_catalog.specs.Leaves.{blank, leaves, HasTexts}
use Rattle.rz_catalog.specs.Stock.{texts_in, HasTree}

pub ok_so : {X E : Type 0} (P Q : X → Type 0) → ((x : X) → P x → Q x) → (result : Result X E) → IfOk result P → IfOk result Q
ok_so P Q so (Ok x) is = so x is
ok_so P Q so (Err stop) is = tt

module _ (fields : Option PlainBody) (known : Facts) (bytes : List ℕ) where
  abbrev pub HasRow : List Tree → Type 0
  HasRow row = (body : PlainBody) × IsTree fields known bytes body row

  pub one_told : OneTree → (row other : List Tree) → HasRow row → HasRow other → row ≡ other
  one_told one row other (body, tree) (another, also) = (one fields known bytes body another row other tree also).1

  pub one_row : OneTree → (found other : Option (List Tree)) → Decided HasRow found → Decided HasRow other → found ≡ other
  one_row one = one_answer HasRow (one_told one)

  pub same_texts : OneTree → (found other : Option (List Tree)) → Decided HasRow found → Decided HasRow other → texts_in found ≡ texts_in other
  same_texts one found other is also = ap texts_in (one_row one found other is also)

-- bytes that tell a row as a tree under fields are those that it spells
module _ (spelled : PlainIsSpelled) (known : Facts) (body : PlainBody) (row : List Tree) where
  pub compiled : (bytes : List ℕ) → HasRow (Some body) known bytes row → IsCompiled known body row (Ok bytes)
  compiled bytes (own, tree) =
      subst (λ (b : PlainBody). Spells known b row bytes) (sym (same_Some body own tree.declared)) (spelled known own row bytes tree.told.1)

  -- where these are they
  pub its_bytes : (bytes others : List ℕ) → (IsCompiled known body row (Ok others) → ◌≡◌ {A = Result (List ℕ) Refusal} (Ok others) (Ok bytes)) → HasRow (Some body) known others row → HasRow (Some body) known bytes row
  its_bytes bytes others every told = subst (λ (b : List ℕ). HasRow (Some body) known b row) (same_ok {F = Refusal} others bytes (every (compiled others told))) told

pub never_refused : (bytes : List ℕ) (fault : Refusal) → ◌≡◌ {A = Result (List ℕ) Refusal} (Ok bytes) (Err fault) → ⊥
never_refused bytes fault is = cc is

-- What is put under fields.

module _ (types : List Declaration) (moment : Moment) (r : Resource) where
  pub put_under : (tree : Option (List Tree)) (entries : List Entry) (answer : Result Resource Fault) → IsPutUnder (declared_for types r) (facts_of moment r) r tree entries answer → IsPut types moment r tree entries answer
  put_under tree [] answer is = is
  put_under None (first ∷ others) answer is = is
  put_under (Some row) (first ∷ others) answer is = is

-- all texts are put where there are as many as leaves
pub all_put : {Y : Type 0} (own rest texts : List Y) → own ++ rest ≡ texts → length own ≡ length texts → own ≡ texts
all_put [] [] texts is many = is
all_put [] (y ∷ rest) texts is many = let n : length (y ∷ rest) ≡ length texts = ap length is in absurd (omega (arith, n, many))
all_put (x ∷ own) rest [] is many = absurd cc
all_put (x ∷ own) rest (y ∷ texts) is many =
    let first : x ≡ y = cc in
    let behind : own ++ rest ≡ texts = cc in
    let others = all_put own rest texts behind (omega (arith, many)) in
    cc

-- the texts of entries are as many as the leaves
pub length-placed : (entries : List Entry) (texts : List (List ℕ)) → length (placed entries texts) ≡ length texts
length-placed entries texts = let n = length-with_front (λ before own. text_for entries (length before) own ∷ []) 1 (λ before own. refl) [] texts in omega (arith, n)

-- texts that are put in place are those of the changed row
pub changed_texts : (entries : List Entry) (row new : List Tree) (texts rest : List (List ℕ)) → blank new ≡ blank row → length (leaves new) ≡ length (leaves row)
    → texts ≡ placed entries (leaves row) → (length (leaves row) ≤ length texts → leaves new ++ rest ≡ texts) → HasTexts (placed entries (leaves row)) row new
changed_texts entries row new texts rest same many own put =
    let size : length texts ≡ length (leaves row) = ap length own ∙ length-placed entries (leaves row) in
    record { same = same; are = all_put (leaves new) rest texts (put (omega (arith, size))) (many ∙ sym size) ∙ own }

pub told_is_row : SpelledIsRow → (known : Facts) (body : PlainBody) (row : List Tree) (bytes : List ℕ) → HasRow (Some body) known bytes row → IsRow body row
told_is_row is_row known body row bytes (own, tree) = subst (λ (b : PlainBody). IsRow b row) (sym (same_Some body own tree.declared)) (is_row known own row bytes tree.told.1)

-- a copy with its own bytes
pub own_bytes : (r copy : Resource) (bytes : List ℕ) → copy ≡ with_bytes r bytes → bytes ≡ r.bytes → copy ≡ r
own_bytes r copy bytes is same = is ∙ ap (with_bytes r) same

-- a resource for which nothing is declared stays
pub stays_put : (types : List Declaration) (moment : Moment) (r : Resource) (tree : Option (List Tree)) (first : Entry) (others : List Entry) (copy : Resource)
    → declared_for types r ≡ None → Decided (HasTree types moment r) tree → copy ≡ r → IsPut types moment r tree (first ∷ others) (Ok copy)
stays_put types moment r None first others copy none decided same = ap (λ x. Ok x) same
stays_put types moment r (Some row) first others copy none (body, tree) same = absurd (none-some body (sym none ∙ tree.declared))
