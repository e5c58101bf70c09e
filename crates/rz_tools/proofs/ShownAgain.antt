-- What derez answers for a fork means again the resources that are shown.
use Rattle.std.proofs.Common.{◌≡◌, inl, inr, ℕ, List, [], Option, Some, None, Ok, Err, refl, sym, ap, subst, ◌∙◌}
use Rattle.std.specs.Prelude.{IfSome}
use Rattle.std.specs.FinMap as finite
use Rattle.std.specs.declared.result.Result.{Result}
use Rattle.rz_core.specs.declared.fault.Fault.{Fault}
use Rattle.rz_core.specs.declared.moment.Moment.{Moment}
use Rattle.rz_core.specs.declared.resource.OsType.{OsType}
use Rattle.rz_folder.specs.Folder.{Files}
use Rattle.rz_folder.specs.Sink.{IsOut, Told}
use Rattle.rz_bridge.specs.declared.file.MacFile.{MacFile}
use Rattle.rz_core.specs.Stop.{◌>>=◌}
use Rattle.rz_bridge_files.specs.Contents.{admit_fork, file_in, fork_in, IsFile}
use Rattle.rz_fork.specs.Admit.{admitted}
use Rattle.rz_bridge_files.specs.declared.form.Form.{Form}
use Rattle.rz_fork.specs.Contents.{Fork}
use Rattle.rz_tools_args.specs.Command.{Asked, IsCommand}
use Rattle.rz_tools_args.specs.declared.name.CommandName.TheVariants as names
use Rattle.rz_tools_work.specs.Work.{begun, Work}
use Rattle.rz_tools.specs.Again.{AreShort, HoldsFile, MeansAgain, ShowsAgain, SparesWords}
use Rattle.rz_tools_answer.specs.Answer.{Answer, Making}
use Rattle.rz_tools_answer.specs.declared.made.Failing.{Failing}
use Rattle.rz_tools_text.specs.Chosen.{chosen}
use Rattle.rz_tools.specs.DeRez.{AnswersDeRez, DeRezAsked, HasFileText, HasForkText, IsDeRez}
use Rattle.rz_tools.specs.Types.{known_by, types_around, TypesAre}
use Rattle.rz_tools_text.specs.Text.{ShowsEach}
use Rattle.rz_tools.specs.Sources.{AreCompiled, Compiled}
use Rattle.rz_tools_values.specs.Around.{Around}
use Rattle.rz_pre_laws.specs.Definitions.{AreFree}
use Rattle.rz_pre.specs.declared.program.Def.{Def}
use Rattle.rz_tools.specs.Program.{command, misplaced, Answers, AnswersTo}
use Rattle.rz_tools.specs.Shown.{AnswersWords, ShowsFile}
use Rattle.rz_tools_answer.specs.Carried.{CarriesOut}
use Rattle.rz_tools_text.specs.Shown.{Known}
use Rattle.rz_tools_answer.specs.World.{World}
use Rattle.rz_tools_answer.specs.declared.outcome.Outcome.{Outcome}
use Rattle.rz_tools_answer.specs.declared.outcome.Outcome.TheVariants.{Done, Refused}
use Rattle.rz_tools.proofs.OneAnswer.{OneCommand}
use Rattle.rz_tools.proofs.Showing.{admits, same_making}
use Rattle.rz_tools.proofs.Typing.{types_behind}

-- the law of the text of a fork
abbrev pub ForksAreReadAgain : Type 0
ForksAreReadAgain =
    (bytes : List ℕ) → IsFile bytes → (fork : Fork) → admitted bytes ≡ Ok fork → (only skip : List OsType) → AreShort (chosen only skip fork.list)
    → (known : Known) → SparesWords known.is_macro → (text : List ℕ) → ShowsEach known (chosen only skip fork.list) text → MeansAgain known text (chosen only skip fork.list)

-- the law of the macros after type files
abbrev pub WordsAreSpared : Type 0
WordsAreSpared =
    (around : Around) (start : Work) (names paths : List (List ℕ)) (defs : List Def) (compiled : Compiled) → AreFree defs
    → AreCompiled around start names paths defs (Ok compiled) → SparesWords compiled.is_macro

pub of_asked : (commands : OneCommand) (words : List (List ℕ)) (asked : Asked) → IsCommand words asked → (files : Files) (moment : Moment) (wanted : Answer)
    → Answers words files moment wanted → AnswersTo asked files moment wanted
of_asked commands words asked is files moment wanted (command others also to) = subst (λ (x : Asked). AnswersTo x files moment wanted) (commands words others asked also is) to
of_asked commands words asked is files moment wanted (misplaced position also says) = absurd (also.none asked is)

-- the answer to words that are `derez`
pub derez_answered : (commands : OneCommand) (words : List (List ℕ)) (asked : DeRezAsked) → IsDeRez words asked → (files : Files) (moment : Moment) (wanted : Answer)
    → Answers words files moment wanted → AnswersDeRez asked files moment wanted
derez_answered commands words asked (items, is, same) files moment wanted answers =
    subst (λ (a : DeRezAsked). AnswersDeRez a files moment wanted) (sym same)
    (of_asked commands words (record { name = names.DeRez; items = items }) is files moment wanted answers)

-- The answer's text.

-- a refusal isn't Done
pub not_refused : (fault : Fault) → Refused fault ≡ Done → ⊥
not_refused fault is = cc is

pub made_or_not : (making : Making) (failing : Failing) → ◌≡◌ {A = Result Making Failing} (Ok making) (Err failing) → ⊥
made_or_not making failing is = cc is

pub same_text : (text others : List ℕ) → ◌≡◌ {A = Result (List ℕ) Fault} (Ok text) (Ok others) → text ≡ others
same_text text others is = cc is

-- the file that holds a fork
pub fork_parts : (form : Option Form) (bytes : List ℕ) (fork : Fork) → fork_in None form bytes ≡ Ok fork
    → (file : MacFile) × (file_in None form bytes [] ≡ Ok file) × (admitted file.res_fork ≡ Ok fork)
fork_parts form bytes fork is = by (file_in None form bytes []) refl is
  where
    by : (held : Result MacFile Fault) → file_in None form bytes [] ≡ held → (held >>= λ file. admit_fork None file.res_fork) ≡ Ok fork
        → (file : MacFile) × (file_in None form bytes [] ≡ Ok file) × (admitted file.res_fork ≡ Ok fork)
    by (Ok file) same is = (file, same, admits (admitted file.res_fork) fork is)
    by (Err fault) same is = cc is

-- the text of a fork that a name holds
text_in_file : (known : Known) (asked : DeRezAsked) (entry : Option (List ℕ)) (bytes : List ℕ) (fork : Fork) (text : List ℕ) → entry ≡ Some bytes → fork_in None asked.from bytes ≡ Ok fork
    → HasFileText known asked entry (Ok text) → ShowsEach known (chosen asked.only asked.skip fork.list) text
text_in_file known asked entry bytes fork text held admits has =
    let so =
    subst (λ (a : Result Fork Fault). HasForkText known asked a (Ok text)) admits (subst (λ (e : Option (List ℕ)). HasFileText known asked e (Ok text)) held has) in
    subst (λ (t : List ℕ). ShowsEach known (chosen asked.only asked.skip fork.list) t) (sym (same_text text so.0 so.2)) so.1

pub text_of_answer : (moment : Moment) (asked : DeRezAsked) (files : Files) (bytes : List ℕ) (fork : Fork) (wanted : Answer) → AnswersDeRez asked files moment wanted → wanted.outcome ≡ Done
    → finite.get files asked.file ≡ Some bytes → fork_in None asked.from bytes ≡ Ok fork → (compiled : Compiled) × TypesAre moment asked.types files (Ok compiled) × ShowsEach (known_by moment compiled) (chosen asked.only asked.skip fork.list) wanted.out
text_of_answer moment asked files bytes fork wanted (Err failing, makes, is) done held admits =
    absurd (not_refused failing.fault (sym (ap (λ (a : Answer). a.outcome) is) ∙ done))
text_of_answer moment asked files bytes fork wanted (Ok making, inr (failing, first, same), is) done held admits = absurd (made_or_not making failing same)
text_of_answer moment asked files bytes fork wanted (Ok making, inl (compiled, types, (Err fault, has, same)), is) done held admits = absurd (made_or_not making _ same)
text_of_answer moment asked files bytes fork wanted (Ok making, inl (compiled, types, (Ok text, has, same)), is) done held admits = (
  compiled,
  types,
  subst (λ (t : List ℕ). ShowsEach (known_by moment compiled) (chosen asked.only asked.skip fork.list) t)
      (sym (ap (λ (a : Answer). a.out) is ∙ ap (λ (m : Making). m.bytes) (same_making making _ same)))
      (text_in_file (known_by moment compiled) asked (finite.get files asked.file) bytes fork text held admits has),
)

pub at_some : (P : List ℕ → Type 0) (o : Option (List ℕ)) (x : List ℕ) → o ≡ Some x → IfSome o P → P x
at_some P o x is holds = subst (λ (o : Option (List ℕ)). IfSome o P) is holds

-- a run that is done
module _ (commands : OneCommand) (law : ForksAreReadAgain) (spared : WordsAreSpared) (words : List (List ℕ)) (moment : Moment) (before after : World) (done : Answer) where
  pub shows_again : (result : Outcome) → result ≡ Done → CarriesOut done before after result → (asked : DeRezAsked) → IsDeRez words asked → AreFree asked.types.defs
      → IfSome before.files (λ files. AnswersWords words moment files done) → IfSome before.files (λ files. ShowsAgain moment asked files before.out after.out)
  shows_again result is carried asked as_asked free answers =
      let ends = (subst (λ r. CarriesOut done before after r) is carried).ends in
      by before.files ends.0 ends.1.out answers
    where
      held : (files : Files) → AnswersWords words moment files done → ShowsFile asked.file asked.from files done
      held files so =
          subst (λ (a : DeRezAsked). ShowsFile a.file a.from files done) (sym as_asked.2) (so.1 (record { name = names.DeRez; items = as_asked.0 }) as_asked.1)

      by : (b : Option Files) → done.outcome ≡ Done → Told (IsOut done.out) before.out after.out → IfSome b (λ files. AnswersWords words moment files done)
          → IfSome b (λ files. ShowsAgain moment asked files before.out after.out)
      by None ended written answers = tt
      by (Some files) ended written answers = λ bytes there fork admits short.
          let parts = fork_parts asked.from bytes fork admits in
          let shows = text_of_answer moment asked files bytes fork done (derez_answered commands words asked as_asked files moment done answers.0) ended there admits in (
            shows.0,
            done.out,
            shows.1,
            written,
            law parts.0.res_fork
                (at_some (HoldsFile asked.from) (finite.get files asked.file) bytes there (held files answers ended) parts.0 parts.1)
                fork parts.2 asked.only asked.skip short (known_by moment shows.0)
                (let typed = types_behind moment asked.types files shows.0 shows.1 in
                spared (types_around moment asked.types files) (begun typed.types []) asked.types.files asked.types.paths asked.types.defs shows.0 free typed.compiled) done.out shows.2,
          )
