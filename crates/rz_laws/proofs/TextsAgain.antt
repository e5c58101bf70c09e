-- The fork of changed resources is admitted as these.
use Rattle.std.proofs.Common.{◌≡◌, ℕ, suc, ◌<◌, ◌≤◌, ◌^◌, Bool, List, [], ◌∷◌, length, map, Option, Some, None, Ok, slice_index, sym, subst, ◌∙◌}
use Rattle.std.specs.List.{AllByRecursion}
use Rattle.rz_catalog.proofs.Pairs.{AreBy}
use Rattle.rz_catalog.proofs.Stocks.{TreesAreDecided}
use Rattle.rz_catalog.specs.Apply.{Applied}
use Rattle.rz_catalog.specs.Became.{with_text, Became, BecameEach}
use Rattle.rz_catalog.specs.Catalogue.{IsCatalogue}
use Rattle.rz_catalog.specs.Stock.{HasTree}
use Rattle.rz_catalog_text.specs.declared.entry.Entry.{Entry}
use Rattle.rz_laws.proofs.TextsRead.{fork_fits}
use Rattle.rz_laws.proofs.Regrouped.{keys_stay, stays_grouped, Rebyted}
use Rattle.rz_core.specs.Decided.{Decided}
use Rattle.rz_core.specs.Resources.{KeysDiffer}
use Rattle.rz_core.specs.declared.moment.Moment.{Moment}
use Rattle.rz_core.specs.declared.resource.Resource.{Resource}
use Rattle.rz_fork.specs.Admit.{admitted}
use Rattle.rz_fork.specs.Contents.{FitsFork, Fork}
use Rattle.rz_fork.specs.Image.{fork_of, grouped}
use Rattle.rz_laws.specs.Kept.{AreBytes}
use Rattle.rz_types_fields.specs.declared.tree.Tree.{Tree}
use Rattle.rz_types_table.specs.Table.{declared_for, Declaration}
use Rattle.rz_unlay.specs.Reading.{facts_of}

-- The laws below.

abbrev pub ForksFit : Type 0
ForksFit = (bytes : List ℕ) → AllByRecursion (λ b. b < 256) bytes → (fork : Fork) → admitted bytes ≡ Ok fork → KeysDiffer [] fork.list × AllByRecursion FitsFork fork.list

abbrev pub AreGrouped : Type 0
AreGrouped = (bytes : List ℕ) (fork : Fork) → admitted bytes ≡ Ok fork → grouped fork.list ≡ fork.list

abbrev pub WrittenAreRead : Type 0
WrittenAreRead = (list : List Resource) (attributes : ℕ) (reserved bytes : List ℕ) → KeysDiffer [] list → AllByRecursion FitsFork list
    → attributes < 2 ^ 16 → length reserved ≤ 240 → fork_of list attributes reserved ≡ Ok bytes
    → (fork : Fork) × (admitted bytes ≡ Ok fork) × (fork.list ≡ grouped list) × (fork_of fork.list attributes reserved ≡ Ok bytes)

abbrev pub OthersStay : Type 0
OthersStay = (types : List Declaration) (moment : Moment) (over : Bool) (list new : List Resource) (entries : List Entry)
    → Applied types moment over list entries (Ok new) → BecameEach types moment entries list new

abbrev pub ChangedCatalogue : Type 0
ChangedCatalogue = (types : List Declaration) (moment : Moment) (over : Bool) (list new : List Resource) (entries own : List Entry)
    → Applied types moment over list entries (Ok new) → IsCatalogue types moment list own → IsCatalogue types moment new (map (with_text entries) own)

abbrev pub WrittenAreBytes : Type 0
WrittenAreBytes = (list : List Resource) (attributes : ℕ) (reserved bytes : List ℕ) → AllByRecursion FitsFork list → AreBytes reserved
    → fork_of list attributes reserved ≡ Ok bytes → AreBytes bytes

all_bytes : (bytes : List ℕ) → ((k : ℕ) → slice_index bytes k < 256) → AllByRecursion (λ b. b < 256) bytes
all_bytes [] small = tt
all_bytes (b ∷ bs) small = (small 0, all_bytes bs (λ k. small (suc k)))

module _ (decided : TreesAreDecided) (types : List Declaration) (moment : Moment) (entries : List Entry) where
  -- a changed resource has bytes: those that spell its row, or its own
  has_bytes : (r n : Resource) → Became types moment entries r n → AllByRecursion (λ b. b < 256) r.bytes → AllByRecursion (λ b. b < 256) n.bytes
  has_bytes r n became own = let answer = decided (declared_for types r) (facts_of moment r) r.bytes in by answer.0 answer.1
    where
      by : (tree : Option (List Tree)) → Decided (HasTree types moment r) tree → AllByRecursion (λ b. b < 256) n.bytes
      by None none = ap_bytes (became.bare none)
        where
          ap_bytes : n ≡ r → AllByRecursion (λ b. b < 256) n.bytes
          ap_bytes is = subst (λ (x : Resource). AllByRecursion (λ b. b < 256) x.bytes) (sym is) own
      by (Some row) has = let changed = became.tree row has in all_bytes n.bytes changed.2.1.told.1.spelling.are_bytes

  still_fits : (r n : Resource) → Became types moment entries r n → FitsFork r → FitsFork n
  still_fits r n became fits =
      subst FitsFork (sym became.same) (record {
        code = fits.code;
        id = fits.id;
        name = fits.name;
        name_bytes = fits.name_bytes;
        attr = fits.attr;
        bytes = has_bytes r n became fits.bytes;
      })

  rebyted : (list new : List Resource) → BecameEach types moment entries list new → AreBy Rebyted list new
  rebyted [] [] each = tt
  rebyted [] (n ∷ new) each = absurd each
  rebyted (r ∷ list) [] each = absurd each
  rebyted (r ∷ list) (n ∷ new) each = (each.0.same, rebyted list new each.1)

  all_fit : (list new : List Resource) → BecameEach types moment entries list new → AllByRecursion FitsFork list → AllByRecursion FitsFork new
  all_fit [] [] each fit = tt
  all_fit [] (n ∷ new) each fit = absurd each
  all_fit (r ∷ list) [] each fit = absurd each
  all_fit (r ∷ list) (n ∷ new) each fit = (still_fits r n each.0 fit.0, all_fit list new each.1 fit.1)

module _ (fit : ForksFit) (are_grouped : AreGrouped) (read : WrittenAreRead) (are_bytes : WrittenAreBytes) (decided : TreesAreDecided) (stay : OthersStay) (texts : ChangedCatalogue) where
  pub changed_again : (types : List Declaration) (moment : Moment) (over : Bool) (bytes output : List ℕ) (fork : Fork) (entries own : List Entry) (new : List Resource)
      → AllByRecursion (λ b. b < 256) bytes → admitted bytes ≡ Ok fork → Applied types moment over fork.list entries (Ok new)
      → fork_of new fork.attributes fork.reserved ≡ Ok output → IsCatalogue types moment fork.list own
      → (again : Fork) × (admitted output ≡ Ok again) × (again.list ≡ new) × IsCatalogue types moment again.list (map (with_text entries) own) × AreBytes output
  changed_again types moment over bytes output fork entries own new small admits applied written catalogue =
      let fits = fit bytes small fork admits in
      let each = stay types moment over fork.list new entries applied in
      let by = rebyted decided types moment entries fork.list new each in
      let keys = keys_stay [] [] fork.list new tt by fits.0 in
      let short = fork_fits bytes small fork admits in
      let new_fit = all_fit decided types moment entries fork.list new each fits.1 in
      let again = read new fork.attributes fork.reserved output keys new_fit short.attributes short.room written in
      let same : again.0.list ≡ new = again.2 ∙ stays_grouped fork.list new by keys (are_grouped bytes fork admits) in (
        again.0,
        again.1,
        same,
        subst (λ (l : List Resource). IsCatalogue types moment l (map (with_text entries) own)) (sym same) (texts types moment over fork.list new entries own applied catalogue),
        are_bytes new fork.attributes fork.reserved output new_fit short.bytes written,
      )
