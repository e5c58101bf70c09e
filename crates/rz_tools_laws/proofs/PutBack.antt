-- The catalogue that `strings` wrote, put back by `restring`, changes nothing.
use Rattle.std.proofs.Common.{◌≡◌, ◌==◌, inl, inr, ℕ, Bool, true, false, if◌then◌else◌, map, bit_and, List, [], ◌∷◌, ◌++◌, length, Option, Some, None, Ok, Err, refl, sym, ap, subst, ◌∙◌}
use Rattle.std.specs.FinMap as finite
use Rattle.std.specs.declared.result.Result.{Result}
use Rattle.rz_bridge.specs.declared.file.MacFile.{MacFile}
use Rattle.rz_bridge_files.specs.Contents.{admit_fork, file_in, fork_in, form_or}
use Rattle.rz_bridge_files.specs.declared.form.Form.{Form}
use Rattle.rz_catalog.specs.Apply.{Applied}
use Rattle.rz_catalog.specs.Own.{own_answer}
use Rattle.rz_catalog_text.specs.declared.entry.Entry.{Entry}
use Rattle.rz_catalog_text.specs.Source.{HasEntries}
use Rattle.rz_core.specs.Answers.{Then}
use Rattle.rz_core.specs.Lists.{first_of, unless_fault}
use Rattle.rz_core.specs.Stop.{◌>>=◌}
use Rattle.rz_core.specs.declared.fault.Fault.{Fault}
use Rattle.rz_core.specs.declared.moment.Moment.{Moment}
use Rattle.rz_core.specs.declared.resource.Resource.{Resource}
use Rattle.rz_folder.specs.Folder.{Files}
use Rattle.rz_fork.specs.Contents.{Fork}
use Rattle.rz_tools.proofs.OneAnswer.{OneCommand}
use Rattle.rz_tools.proofs.PutBack.{listed_answer, strings_answered, CataloguesArePutBack}
use Rattle.rz_tools.proofs.ShownAgain.{fork_parts}
use Rattle.rz_tools.specs.Again.{HoldsFile}
use Rattle.rz_tools.specs.Program.{command, Answers}
use Rattle.rz_tools.specs.Restring.{target_named, AnswersRestring, HasCatalogueFile, IsRestring, RestringAsked}
use Rattle.rz_tools.specs.Sources.{Compiled}
use Rattle.rz_tools.specs.Strings.{IsStrings, StringsAsked}
use Rattle.rz_tools.specs.Types.{TypesAre, TypesAsked}
use Rattle.rz_tools_answer.specs.Answer.{or_refused, written, Answer}
use Rattle.rz_tools_answer.specs.Warning.{said_beside}
use Rattle.rz_tools_answer.specs.declared.outcome.Outcome.TheVariants.{Done}
use Rattle.rz_tools_args.specs.declared.name.CommandName.TheVariants as names
use Rattle.rz_tools_laws.specs.Behind.{TypesStay}
use Rattle.rz_tools_laws.specs.Texts.{IsAnswerAgain, IsOfSame}
use Rattle.rz_tools_output.specs.Base.{base_held, base_in, begun_with, limited, read_only, too_long, Base}
use Rattle.rz_tools_output.specs.Output.{IsOutput}

-- What there is to begin with is of the fork in the bytes.

ok_is : {X : Type 0} (value other : X) → ◌≡◌ {A = Result X Fault} (Ok value) (Ok other) → value ≡ other
ok_is value other is = cc is

module _ (form : Option Form) (bytes : List ℕ) (base : Base) where
  abbrev Begin : MacFile → Fork → Result Base Fault
  Begin file fork = limited true fork >>= begun_with (form_or form bytes) file

  when_free : (file : MacFile) (fork : Fork) (free : Bool)
      → (if free then Ok (record { form = form_or form bytes; file = record file { res_fork = [] }; fork = fork }) else Err (read_only fork.attributes)) ≡ Ok base → base.fork ≡ fork
  when_free file fork true is = sym (ap (λ (b : Base). b.fork) (ok_is _ base is))
  when_free file fork false is = absurd (cc is)

  when_short : (file : MacFile) (fork : Fork) (long : Option Fault) → (unless_fault long fork >>= begun_with (form_or form bytes) file) ≡ Ok base → base.fork ≡ fork
  when_short file fork None is = when_free file fork (bit_and fork.attributes 128 == 0) is
  when_short file fork (Some fault) is = absurd (cc is)

  when_admitted : (file : MacFile) (held : Result Fork Fault) → (held >>= Begin file) ≡ Ok base → held ≡ Ok base.fork
  when_admitted file (Ok fork) is = ap (λ (f : Fork). Ok f) (sym (when_short file fork (first_of (map too_long fork.list)) is))
  when_admitted file (Err fault) is = absurd (cc is)

  when_read : (held : Result MacFile Fault) → (held >>= λ file. admit_fork None file.res_fork >>= Begin file) ≡ Ok base → (held >>= λ file. admit_fork None file.res_fork) ≡ Ok base.fork
  when_read (Ok file) is = when_admitted file (admit_fork None file.res_fork) is
  when_read (Err fault) is = absurd (cc is)

  pub begun_of_fork : base_in true form bytes ≡ Ok base → fork_in None form bytes ≡ Ok base.fork
  begun_of_fork is = when_read (file_in None form bytes []) is

-- The answer.

module _ (others : List (List ℕ)) (asked : RestringAsked) (after : Files) (moment : Moment) (bytes text : List ℕ) (base : Base) (compiled : Compiled) (entries : List Entry)
    (there : finite.get after asked.file ≡ Some bytes) (written_there : finite.get after asked.catalogue ≡ Some text) (types : TypesAre moment asked.types after (Ok compiled))
    (begins : base_in true asked.from bytes ≡ Ok base) (read : HasEntries (length compiled.files) text (Ok entries))
    (applied : Applied compiled.work.types moment asked.over base.fork.list entries (own_answer asked.over base.fork.list entries)) where
  abbrev Own : Result (List Resource) Fault → Type 0
  Own list = list ≡ own_answer asked.over base.fork.list entries

  abbrev Put : Result (List Resource) Fault → Type 0
  Put = Applied compiled.work.types moment asked.over base.fork.list entries

  put_so : (output : Result (List ℕ) Fault) → Then Own (IsOutput (target_named asked.output) moment base) output → Then Put (IsOutput (target_named asked.output) moment base) output
  put_so output (inl (list, is, so)) = inl (list, subst Put (sym is) applied, so)
  put_so output (inr (fault, is, so)) = inr (fault, subst Put (sym is) applied, so)

  pub answered_again : IsRestring others asked → IsAnswerAgain others asked after moment compiled base entries
  answered_again (items, is, same) output so =
      let answer = or_refused (written asked.output) (said_beside (compiled.files ++ asked.catalogue ∷ []) compiled.work.warnings output) in
      let held : base_held asked.from asked.file (finite.get after asked.file) ≡ Ok base = ap (base_held asked.from asked.file) there ∙ begins in
      let listed : HasCatalogueFile (length compiled.files) asked.catalogue (finite.get after asked.catalogue) (Ok entries) =
      subst (λ (entry : Option (List ℕ)). HasCatalogueFile (length compiled.files) asked.catalogue entry (Ok entries)) (sym written_there) read in
      command (record { name = names.Restring; items = items }) is
      (subst (λ (a : RestringAsked). AnswersRestring a after moment answer) same (
        said_beside (compiled.files ++ asked.catalogue ∷ []) compiled.work.warnings output,
        inl (compiled, types, (output, inl (base, held, inl (entries, listed, put_so output so)), refl)),
        refl,
      ))

module _ (law : CataloguesArePutBack) (commands : OneCommand) (words others : List (List ℕ)) (listed : StringsAsked) (asked : RestringAsked) (files after : Files) (moment : Moment)
    (bytes : List ℕ) (base : Base) (answer : Answer) where
  pub put_back_again : IsStrings words listed → Answers words files moment answer → answer.outcome ≡ Done → finite.get files listed.file ≡ Some bytes → HoldsFile listed.from bytes
      → TypesStay moment listed.types files after → IsRestring others asked → IsOfSame listed asked → finite.get after asked.file ≡ Some bytes → finite.get after asked.catalogue ≡ Some answer.out
      → base_in true asked.from bytes ≡ Ok base
      → (compiled : Compiled) × TypesAre moment asked.types after (Ok compiled)
      × (entries : List Entry) × HasEntries (length compiled.files) answer.out (Ok entries) × IsAnswerAgain others asked after moment compiled base entries
  put_back_again is answers done held file stay is_restring same there written_there begins =
      let admits = subst (λ (from : Option Form). fork_in None from bytes ≡ Ok base.fork) same.from (begun_of_fork asked.from bytes base begins) in
      let it = listed_answer moment listed files bytes base.fork answer (strings_answered commands words listed is files moment answer answers) done held admits in
      let parts = fork_parts listed.from bytes base.fork admits in
      let back = law it.compiled.work.types moment parts.0.res_fork (file parts.0 parts.1) base.fork parts.2 it.entries it.is (length it.compiled.files) in
      let types = subst (λ (t : TypesAsked). TypesAre moment t after (Ok it.compiled)) (sym same.types) (stay it.compiled it.types) in
      let read = subst (λ (t : List ℕ). HasEntries (length it.compiled.files) t (Ok back.0)) (sym it.same) back.1 in (
        it.compiled,
        types,
        back.0,
        read,
        answered_again others asked after moment bytes answer.out base it.compiled back.0 there written_there types begins read (back.2 asked.over) is_restring,
      )
