-- What the entries of a template are.
use Rattle.std.proofs.Common.{◌≡◌, ℕ, ◌+◌, ◌^◌, ◌≤◌, true, false, List, Ok, Err, refl, sym, ap, subst, ◌∙◌}
use Rattle.std.specs.declared.result.Result.{Result}
use Rattle.rz_tmpl.specs.Cut.{broken, entries_in, whole, IsCut, Reads}
use Rattle.rz_tmpl.specs.Items.{entries_of, is_kept, waits, Items}
use Rattle.rz_tmpl.specs.declared.entry.Entry.{Entry}
use Rattle.rz_tmpl.specs.declared.fault.TmplFault.{TmplFault}
use Rattle.rz_tmpl.specs.Body.{lists_of}
use Rattle.rz_tmpl.specs.Parts.{starts_in}
use Rattle.rz_tmpl.proofs.Ends.{lists_are}

-- the bytes are the entries of a body without a fault
pub record Whole (bytes : List ℕ) (entries : List Entry) : Type 0 where
  pub items : Items
  pub cut : IsCut bytes (Ok items)
  pub are : entries ≡ entries_of items
  pub kept : is_kept 60 false items ≡ true
  pub ends : waits false items ≡ false

kept_in : (bytes : List ℕ) (answer : Result Items TmplFault) (items : Items) → IsCut bytes answer → answer ≡ Ok items → (is_kept 60 false items ≡ true) × (waits false items ≡ false)
kept_in bytes answer items (whole more stands ends) is =
    let same : more ≡ items = cc in (subst (λ (i : Items). is_kept 60 false i ≡ true) same stands.kept, subst (λ (i : Items). waits false i ≡ false) same ends)
kept_in bytes answer items (broken place rest number stands fault) is = absurd cc

whole_of : (bytes : List ℕ) (entries : List Entry) (cut : Result Items TmplFault) → IsCut bytes cut → entries_in cut ≡ Ok entries → Whole bytes entries
whole_of bytes entries (Ok items) cut is =
    let kept = kept_in bytes (Ok items) items cut refl in
    let same : entries_of items ≡ entries = cc in
    record { items = items; cut = cut; are = sym same; kept = kept.0; ends = kept.1 }
whole_of bytes entries (Err fault) cut is = absurd cc

pub are_whole : (bytes : List ℕ) (entries : List Entry) → Reads bytes (Ok entries) → Whole bytes entries
are_whole bytes entries read = whole_of bytes entries read.0 read.1 read.2

pub few_lists : (bytes : List ℕ) (entries : List Entry) → (cut : Whole bytes entries) → 1 + starts_in entries ≤ 2 ^ 64 → 1 + lists_of cut.items ≤ 2 ^ 64
few_lists bytes entries cut few = subst (λ (n : ℕ). 1 + n ≤ 2 ^ 64) (ap starts_in cut.are ∙ lists_are cut.items) few
