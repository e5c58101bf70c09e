-- `strings` of what `restring` wrote.
use Rattle.std.proofs.Common.{◌≡◌, inl, ℕ, Bool, true, List, [], ◌∷◌, length, map, Option, Some, None, Ok, refl, sym, ap, subst, ◌∙◌}
use Rattle.std.specs.FinMap as finite
use Rattle.std.specs.List.{AllByRecursion}
use Rattle.std.specs.Prelude.{◌<◌}
use Rattle.std.specs.declared.result.Result.{Result}
use Rattle.rz_bridge_files.specs.Contents.{admit_fork, fork_in, form_or, IsFile}
use Rattle.rz_bridge_files.specs.Faults.{or_broken, or_torn}
use Rattle.rz_bridge_files.specs.Forms.{content_of}
use Rattle.rz_bridge.specs.declared.fault.BridgeFault.{BridgeFault}
use Rattle.rz_bridge.specs.declared.file.MacFile.{MacFile}
use Rattle.rz_bridge_files.specs.declared.form.Form.{Form}
use Rattle.rz_catalog.proofs.Stocks.{TreesAreDecided}
use Rattle.rz_catalog.specs.Apply.{Applied}
use Rattle.rz_catalog.specs.Became.{with_text, BecameEach}
use Rattle.rz_catalog.specs.Catalogue.{IsCatalogue}
use Rattle.rz_catalog_text.specs.declared.entry.Entry.{Entry}
use Rattle.rz_catalog_text.specs.Text.{entries_text}
use Rattle.rz_core.specs.Lists.{first_of, unless_fault}
use Rattle.rz_core.specs.Roman.{IsOneToOne}
use Rattle.rz_core.specs.Stop.{◌>>=◌}
use Rattle.rz_core.specs.declared.fault.Fault.{Fault}
use Rattle.rz_core.specs.declared.moment.Moment.{Moment}
use Rattle.rz_core.specs.declared.resource.Resource.{Resource}
use Rattle.rz_folder.specs.Folder.{Files}
use Rattle.rz_fork.specs.Admit.{admitted}
use Rattle.rz_fork.specs.Contents.{Fork}
use Rattle.rz_fork.specs.Image.{fork_of}
use Rattle.rz_laws.specs.Kept.{AreBytes}
use Rattle.rz_tools.proofs.OneAnswer.{OneCommand}
use Rattle.rz_tools.proofs.ShownAgain.{of_asked}
use Rattle.rz_tools.specs.Program.{command, Answers}
use Rattle.rz_tools.specs.Restring.{AnswersRestring, HasCatalogueFile, IsRestring, RestringAsked}
use Rattle.rz_tools.specs.Sources.{Compiled}
use Rattle.rz_tools.specs.Strings.{short_fork_in, AnswersStrings, HasCatalogue, HasFileCatalogue, IsStrings, StringsAsked}
use Rattle.rz_tools.specs.Types.{TypesAre}
use Rattle.rz_tools_answer.specs.Answer.{shown, Answer}
use Rattle.rz_tools_answer.specs.Warning.{said_beside, warning_lines}
use Rattle.rz_tools_answer.specs.declared.outcome.Outcome.TheVariants.{Done}
use Rattle.rz_tools_args.specs.declared.name.CommandName.TheVariants as names
use Rattle.rz_tools_output.specs.Base.{base_in, limited, too_long, Base}
use Rattle.rz_tools_laws.proofs.Short.{all_short, SpelledAreFew}
use Rattle.rz_tools_laws.proofs.Written.{base_kept, begun, output_fork, restrung, FilesAreKept, ForksAreAlone, FormsAreRead, HasFork}
use Rattle.rz_tools_laws.specs.Listed.{ListsOutput}
use Rattle.rz_types_table.specs.Table.{Declaration}

-- The laws below.

abbrev pub ForksHaveTheTexts : Type 0
ForksHaveTheTexts = (types : List Declaration) (moment : Moment) (over : Bool) (bytes output : List ℕ) (fork : Fork) (entries own : List Entry) (new : List Resource)
    → AllByRecursion (λ b. b < 256) bytes → admitted bytes ≡ Ok fork → Applied types moment over fork.list entries (Ok new)
    → fork_of new fork.attributes fork.reserved ≡ Ok output → IsCatalogue types moment fork.list own
    → (again : Fork) × (admitted output ≡ Ok again) × (again.list ≡ new) × IsCatalogue types moment again.list (map (with_text entries) own) × AreBytes output

abbrev pub EveryCatalogue : Type 0
EveryCatalogue = (types : List Declaration) (moment : Moment) (list : List Resource) → (entries : List Entry) × IsCatalogue types moment list entries

abbrev pub OthersStay : Type 0
OthersStay = (types : List Declaration) (moment : Moment) (over : Bool) (list new : List Resource) (entries : List Entry)
    → Applied types moment over list entries (Ok new) → BecameEach types moment entries list new

-- The fork that is read.

form_fork : (form : Form) (from : Option Form) (output fork : List ℕ) (again : Fork) → form_or from output ≡ form → HasFork form output fork → admitted fork ≡ Ok again
    → fork_in None from output ≡ Ok again
form_fork form from output fork again is (file, read, same) admits =
    ap (λ (form : Form). or_broken None (content_of form output []) >>= λ (file : MacFile). admit_fork None file.res_fork) is
    ∙ ap (λ (held : Result MacFile BridgeFault). or_broken None held >>= λ (file : MacFile). admit_fork None file.res_fork) read
    ∙ ap (admit_fork None) same
    ∙ ap (or_torn None) admits

short_fork : (from : Option Form) (output : List ℕ) (again : Fork) → fork_in None from output ≡ Ok again → first_of (map too_long again.list) ≡ None → short_fork_in from output ≡ Ok again
short_fork from output again is short =
    ap (λ (held : Result Fork Fault). held >>= limited true) is ∙ ap (λ (long : Option Fault). unless_fault long again) short

module _ (texts : ForksHaveTheTexts) (every : EveryCatalogue) (stay : OthersStay) (decided : TreesAreDecided) (few : SpelledAreFew) (commands : OneCommand)
    (table : IsOneToOne) (files_kept : FilesAreKept) (alone : ForksAreAlone) (back : FormsAreRead) where
  pub listed_again : (words others : List (List ℕ)) (asked : RestringAsked) (listed : StringsAsked) (files after : Files) (moment : Moment) (bytes output : List ℕ) (base : Base) (answer : Answer)
      → IsRestring words asked → Answers words files moment answer → answer.outcome ≡ Done
      → finite.get files asked.file ≡ Some bytes → IsFile bytes → base_in true asked.from bytes ≡ Ok base
      → answer.writes ≡ record { name = asked.output; bytes = output } ∷ []
      → IsStrings others listed → ListsOutput moment base.form asked files listed after output
      → (compiled : Compiled) × TypesAre moment asked.types files (Ok compiled)
      × (entries : List Entry) × (own : List Entry) × HasCatalogueFile (length compiled.files) asked.catalogue (finite.get files asked.catalogue) (Ok entries)
      × IsCatalogue compiled.work.types moment base.fork.list own
      × Answers others after moment
      (shown (record { bytes = entries_text (map (with_text entries) own); said = warning_lines compiled.files compiled.work.warnings }))
  listed_again words others asked listed files after moment bytes output base answer (items, is, same) answers done there are begins writes (more, is_more, same_more) lists =
      let answered = subst (λ (a : RestringAsked). AnswersRestring a files moment answer) (sym same)
      (of_asked commands words (record { name = names.Restring; items = items }) is files moment answer answers) in
      let it = restrung asked files moment bytes base there begins answer output answered done writes in
      let types = it.compiled.work.types in
      let start = begun asked.from bytes base begins in
      let kept = files_kept (form_or asked.from bytes) bytes [] start.file are.0 tt start.read in
      let own = every types moment base.fork.list in
      let made = output_fork table back alone asked.output moment base (base_kept asked.from bytes base start kept) it.new output it.is in
      let again = texts types moment asked.over start.file.res_fork made.0 base.fork it.entries own.0 it.new kept.res_fork start.admits it.applied made.1 own.1 in
      let news_short = all_short few decided types moment it.entries base.fork.list it.new (stay types moment asked.over base.fork.list it.new it.entries it.applied) start.short in
      let short = ap (λ (l : List Resource). first_of (map too_long l)) again.2 ∙ news_short in
      let read = form_fork base.form listed.from output made.0 again.0 lists.form (made.2 again.4) again.1 in
      let held = short_fork listed.from output again.0 read short in
      let catalogue : HasCatalogue moment types (short_fork_in listed.from output) (Ok (entries_text (map (with_text it.entries) own.0))) =
      subst (λ (r : Result Fork Fault). HasCatalogue moment types r (Ok (entries_text (map (with_text it.entries) own.0)))) (sym held)
      (map (with_text it.entries) own.0, again.3, refl) in
      let in_file = subst (λ (entry : Option (List ℕ)). HasFileCatalogue moment types listed entry (Ok (entries_text (map (with_text it.entries) own.0)))) (sym lists.there) catalogue in
      let wanted : Answer = shown (record { bytes = entries_text (map (with_text it.entries) own.0); said = warning_lines it.compiled.files it.compiled.work.warnings }) in
      let says : AnswersStrings listed after moment wanted = (
        said_beside it.compiled.files it.compiled.work.warnings (Ok (entries_text (map (with_text it.entries) own.0))),
        inl (it.compiled, lists.types it.compiled it.types, (Ok (entries_text (map (with_text it.entries) own.0)), in_file, refl)),
        refl,
      ) in (
        it.compiled,
        it.types,
        it.entries,
        own.0,
        it.read,
        own.1,
        command (record { name = names.Strings; items = more }) is_more (subst (λ (a : StringsAsked). AnswersStrings a after moment wanted) same_more says),
      )
