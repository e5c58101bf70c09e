-- What `strings` answers is put back.
use Rattle.std.proofs.Common.{◌≡◌, ◌<◌, ◌++◌, inl, inr, ℕ, Bool, true, List, [], ◌∷◌, length, map, Option, Some, None, Ok, Err, refl, sym, ap, subst, ◌∙◌}
use Rattle.std.specs.Prelude.{IfSome}
use Rattle.std.specs.FinMap as finite
use Rattle.std.specs.List.{AllByRecursion}
use Rattle.std.specs.declared.result.Result.{Result}
use Rattle.std.proofs.lemmas.List.{map-append}
use Rattle.rz_bridge_files.specs.Contents.{fork_in, IsFile}
use Rattle.rz_catalog.specs.Apply.{Applied}
use Rattle.rz_catalog.specs.Catalogue.{catalogue, entries_of, entry_of, HasKey, IsCatalogue}
use Rattle.rz_catalog.specs.Own.{own_answer}
use Rattle.rz_catalog.specs.Stock.{texts_of, Stocked}
use Rattle.rz_catalog_text.specs.Stored.{unmarked, IsStored}
use Rattle.rz_catalog_text.specs.declared.entry.Entry.{Entry}
use Rattle.rz_catalog_text.specs.Source.{HasEntries}
use Rattle.rz_catalog_text.specs.Text.{entries_text}
use Rattle.rz_core.specs.Lists.{first_of, unless_fault, with_front}
use Rattle.rz_core.specs.Resources.{KeysDiffer}
use Rattle.rz_core.specs.Stop.{◌>>=◌}
use Rattle.rz_core.specs.declared.fault.Fault.{Fault}
use Rattle.rz_core.specs.declared.moment.Moment.{Moment}
use Rattle.rz_core.specs.declared.resource.OsType.{OsType}
use Rattle.rz_core.specs.declared.resource.Resource.{Resource}
use Rattle.rz_folder.specs.Folder.{Files}
use Rattle.rz_folder.specs.Sink.{IsOut, Told}
use Rattle.rz_fork.specs.Admit.{admitted}
use Rattle.rz_fork.specs.Contents.{Fork, FitsFork}
use Rattle.rz_tools.proofs.OneAnswer.{OneCommand}
use Rattle.rz_tools.proofs.Showing.{same_making}
use Rattle.rz_tools.proofs.ShownAgain.{at_some, fork_parts, made_or_not, not_refused, of_asked, same_text}
use Rattle.rz_tools.specs.Again.{HoldsFile}
use Rattle.rz_tools.specs.Catalogues.{IsPutBack, ListsBack}
use Rattle.rz_tools.specs.Program.{Answers}
use Rattle.rz_tools.specs.Shown.{AnswersWords, ShowsFile}
use Rattle.rz_tools.specs.Sources.{Compiled}
use Rattle.rz_tools.specs.Strings.{AnswersStrings, HasCatalogue, HasFileCatalogue, IsStrings, StringsAsked}
use Rattle.rz_tools.specs.Types.{TypesAre}
use Rattle.rz_tools_answer.specs.Answer.{Answer, Making}
use Rattle.rz_tools_answer.specs.Carried.{CarriesOut}
use Rattle.rz_tools_answer.specs.World.{World}
use Rattle.rz_tools_answer.specs.declared.outcome.Outcome.{Outcome}
use Rattle.rz_tools_answer.specs.declared.outcome.Outcome.TheVariants.{Done}
use Rattle.rz_tools_args.specs.declared.name.CommandName.TheVariants as names
use Rattle.rz_tools_output.specs.Base.{limited, too_long}
use Rattle.rz_types_table.specs.Table.{Declaration}

-- The entries of a catalogue have no place.

plain_front : (kind : OsType) (id : _) (before texts : List (List ℕ))
    → map unmarked (with_front (λ before text. entry_of kind id (length before) text ∷ []) before texts) ≡ with_front (λ before text. entry_of kind id (length before) text ∷ []) before texts
plain_front kind id before [] = refl
plain_front kind id before (text ∷ texts) = ap (λ (rest : List Entry). entry_of kind id (length before) text ∷ rest) (plain_front kind id (before ++ text ∷ []) texts)

plain_catalogue : (stock : List Stocked) → map unmarked (catalogue stock) ≡ catalogue stock
plain_catalogue [] = refl
plain_catalogue (s ∷ stock) =
    map-append unmarked (entries_of s.resource.kind s.resource.id (texts_of s)) (catalogue stock)
    ∙ (λ i. plain_front s.resource.kind s.resource.id [] (texts_of s) i ++ plain_catalogue stock i)

-- The laws below.

abbrev pub ForksFit : Type 0
ForksFit = (bytes : List ℕ) → AllByRecursion (λ b. b < 256) bytes → (fork : Fork) → admitted bytes ≡ Ok fork → KeysDiffer [] fork.list × AllByRecursion FitsFork fork.list

abbrev pub CataloguesAreStored : Type 0
CataloguesAreStored =
    (types : List Declaration) (moment : Moment) (list : List Resource) (entries : List Entry) → AllByRecursion HasKey list → IsCatalogue types moment list entries
    → AllByRecursion IsStored entries

abbrev pub CataloguesAreRead : Type 0
CataloguesAreRead =
    (entries : List Entry) → AllByRecursion IsStored entries → (file : ℕ)
    → (back : List Entry) × HasEntries file (entries_text entries) (Ok back) × (map unmarked back ≡ map unmarked entries)

abbrev pub OwnCatalogue : Type 0
OwnCatalogue =
    (types : List Declaration) (moment : Moment) (over : Bool) (list : List Resource) (entries : List Entry) → KeysDiffer [] list
    → IsCatalogue types moment list (map unmarked entries) → Applied types moment over list entries (own_answer over list entries)

abbrev pub CataloguesArePutBack : Type 0
CataloguesArePutBack =
    (types : List Declaration) (moment : Moment) (bytes : List ℕ) → IsFile bytes → (fork : Fork) → admitted bytes ≡ Ok fork
    → (entries : List Entry) → IsCatalogue types moment fork.list entries → IsPutBack types moment fork.list (entries_text entries)

have_keys : (list : List Resource) → AllByRecursion FitsFork list → AllByRecursion HasKey list
have_keys [] all = tt
have_keys (r ∷ list) all = ((all.0.code, all.0.id), have_keys list all.1)

module _ (fit : ForksFit) (stored : CataloguesAreStored) (read : CataloguesAreRead) (own : OwnCatalogue) where
  pub put_back : CataloguesArePutBack
  put_back types moment bytes is fork admits entries (stock, are, same) file =
      let fits = fit bytes is.0 fork admits in
      let back = read entries (stored types moment fork.list entries (have_keys fork.list fits.1) (stock, are, same)) file in
      (back.0, back.1, λ over. own types moment over fork.list back.0 fits.0 (stock, are, back.2 ∙ ap (map unmarked) same ∙ plain_catalogue stock))

-- The answer's text.

-- the catalogue of a fork that a name holds
listed_in : (moment : Moment) (types : List Declaration) (fork : Fork) (text : List ℕ) → HasCatalogue moment types (limited true fork) (Ok text)
    → (entries : List Entry) × IsCatalogue types moment fork.list entries × (text ≡ entries_text entries)
listed_in moment types fork text has = by (first_of (map too_long fork.list)) has
  where
    by : (long : Option Fault) → HasCatalogue moment types (unless_fault long fork) (Ok text)
        → (entries : List Entry) × IsCatalogue types moment fork.list entries × (text ≡ entries_text entries)
    by None (entries, is, same) = (entries, is, same_text text (entries_text entries) same)
    by (Some fault) has = absurd (cc has)

listed_of : (moment : Moment) (types : List Declaration) (asked : StringsAsked) (entry : Option (List ℕ)) (bytes : List ℕ) (fork : Fork) (text : List ℕ) → entry ≡ Some bytes
    → fork_in None asked.from bytes ≡ Ok fork → HasFileCatalogue moment types asked entry (Ok text)
    → (entries : List Entry) × IsCatalogue types moment fork.list entries × (text ≡ entries_text entries)
listed_of moment types asked entry bytes fork text held admits has =
    listed_in moment types fork text
    (subst (λ (a : Result Fork Fault). HasCatalogue moment types (a >>= limited true) (Ok text)) admits
    (subst (λ (e : Option (List ℕ)). HasFileCatalogue moment types asked e (Ok text)) held has))

pub record Listed (moment : Moment) (asked : StringsAsked) (files : Files) (fork : Fork) (text : List ℕ) : Type 0 where
  pub compiled : Compiled
  pub types : TypesAre moment asked.types files (Ok compiled)
  pub entries : List Entry
  pub is : IsCatalogue compiled.work.types moment fork.list entries
  pub same : text ≡ entries_text entries

pub listed_answer : (moment : Moment) (asked : StringsAsked) (files : Files) (bytes : List ℕ) (fork : Fork) (wanted : Answer) → AnswersStrings asked files moment wanted → wanted.outcome ≡ Done
    → finite.get files asked.file ≡ Some bytes → fork_in None asked.from bytes ≡ Ok fork → Listed moment asked files fork wanted.out
listed_answer moment asked files bytes fork wanted (Err failing, makes, is) done held admits = absurd (not_refused failing.fault (sym (ap (λ (a : Answer). a.outcome) is) ∙ done))
listed_answer moment asked files bytes fork wanted (Ok making, inr (failing, first, same), is) done held admits = absurd (made_or_not making failing same)
listed_answer moment asked files bytes fork wanted (Ok making, inl (compiled, types, (Err fault, has, same)), is) done held admits = absurd (made_or_not making _ same)
listed_answer moment asked files bytes fork wanted (Ok making, inl (compiled, types, (Ok text, has, same)), is) done held admits =
    let listed = listed_of moment compiled.work.types asked (finite.get files asked.file) bytes fork text held admits has in
    record {
      compiled = compiled;
      types = types;
      entries = listed.0;
      is = listed.1;
      same = ap (λ (a : Answer). a.out) is ∙ ap (λ (m : Making). m.bytes) (same_making making _ same) ∙ listed.2;
    }

-- the answer to words that are `strings`
pub strings_answered : (commands : OneCommand) (words : List (List ℕ)) (asked : StringsAsked) → IsStrings words asked → (files : Files) (moment : Moment) (wanted : Answer)
    → Answers words files moment wanted → AnswersStrings asked files moment wanted
strings_answered commands words asked (items, is, same) files moment wanted answers =
    subst (λ (a : StringsAsked). AnswersStrings a files moment wanted) (sym same) (of_asked commands words (record { name = names.Strings; items = items }) is files moment wanted answers)

-- a run that is done
module _ (law : CataloguesArePutBack) (commands : OneCommand) (words : List (List ℕ)) (moment : Moment) (before after : World) (done : Answer) where
  pub lists_back : (result : Outcome) → result ≡ Done → CarriesOut done before after result → (asked : StringsAsked) → IsStrings words asked
      → IfSome before.files (λ files. AnswersWords words moment files done) → IfSome before.files (λ files. ListsBack moment asked files before.out after.out)
  lists_back result is carried asked as_asked answers =
      let ends = (subst (λ r. CarriesOut done before after r) is carried).ends in
      by before.files ends.0 ends.1.out answers
    where
      held : (files : Files) → AnswersWords words moment files done → ShowsFile asked.file asked.from files done
      held files so =
          subst (λ (a : StringsAsked). ShowsFile a.file a.from files done) (sym as_asked.2) (so.1 (record { name = names.Strings; items = as_asked.0 }) as_asked.1)

      by : (b : Option Files) → done.outcome ≡ Done → Told (IsOut done.out) before.out after.out → IfSome b (λ files. AnswersWords words moment files done)
          → IfSome b (λ files. ListsBack moment asked files before.out after.out)
      by None ended written answers = tt
      by (Some files) ended written answers = λ bytes there fork admits.
          let parts = fork_parts asked.from bytes fork admits in
          let listed = listed_answer moment asked files bytes fork done (strings_answered commands words asked as_asked files moment done answers.0) ended there admits in
          let file = at_some (HoldsFile asked.from) (finite.get files asked.file) bytes there (held files answers ended) parts.0 parts.1 in (
            listed.compiled,
            listed.entries,
            listed.types,
            listed.is,
            subst (λ (text : List ℕ). Told (IsOut text) before.out after.out) listed.same written,
            law listed.compiled.work.types moment parts.0.res_fork file fork parts.2 listed.entries listed.is,
          )
