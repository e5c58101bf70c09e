-- What `derez` writes is read back by `rez` after the same type files.
use Rattle.std.proofs.Common.{◌≡◌, ℕ, List, [], Option, Some, None, Ok, refl, sym, subst}
use Rattle.std.specs.FinMap as finite
use Rattle.rz_core.specs.declared.moment.Moment.{Moment}
use Rattle.rz_folder.specs.Folder.{Files}
use Rattle.rz_bridge_files.specs.Contents.{fork_in, IsFile}
use Rattle.rz_core.specs.declared.resource.OsType.{OsType}
use Rattle.rz_fork.specs.Admit.{admitted}
use Rattle.rz_fork.specs.Contents.{Fork}
use Rattle.rz_pre.specs.declared.condition.Tool.TheVariants as tools
use Rattle.rz_pre.specs.declared.program.Def.{Def}
use Rattle.rz_pre_laws.specs.Definitions.{AreFree}
use Rattle.rz_show_laws.specs.Statement.{shown_words}
use Rattle.rz_tools.proofs.OneAnswer.{OneCommand}
use Rattle.rz_tools.proofs.ShownAgain.{derez_answered, fork_parts, text_of_answer, ForksAreReadAgain, WordsAreSpared}
use Rattle.rz_tools.specs.Again.{AreShort, HoldsFile}
use Rattle.rz_tools_text.specs.Chosen.{chosen}
use Rattle.rz_tools.specs.DeRez.{DeRezAsked, IsDeRez}
use Rattle.rz_tools.specs.Program.{Answers}
use Rattle.rz_tools.specs.Rez.{around_of, IsRez, RezAsked}
use Rattle.rz_tools.specs.Types.{known_by, types_around}
use Rattle.rz_tools_text.specs.Shown.{Known}
use Rattle.rz_tools_text.specs.Text.{ShowsEach}
use Rattle.rz_tools.specs.Sources.{AreCompiled, Compiled}
use Rattle.rz_tools_answer.specs.Answer.{Answer}
use Rattle.rz_tools_answer.specs.declared.outcome.Outcome.TheVariants.{Done}
use Rattle.rz_tools_laws.proofs.Agreeing.{agreed}
use Rattle.rz_tools_laws.proofs.Behind.{answers_made, compiled_behind, spared_too, GoOn}
use Rattle.rz_tools_laws.proofs.Parsed.{EndsParsed}
use Rattle.rz_tools.proofs.Typing.{types_behind}
use Rattle.rz_tools_output.specs.Templates.{TypesOf}
use Rattle.rz_tools_work.specs.Work.{begun}
use Rattle.rz_types_table.specs.Table.{Declaration}
use Rattle.rz_tools_laws.specs.Behind.{with_file, with_warnings, AreTypesAlone, CompilesBehind, IsAnswerBehind, ReadsBehind, TypesStay}

abbrev pub DefinitionsAreFree : Type 0
DefinitionsAreFree = (words : List (List ℕ)) (asked : RezAsked) → IsRez words asked → AreFree asked.defs

module _ (law : ForksAreReadAgain) (spared : WordsAreSpared) (free : DefinitionsAreFree) (ended : EndsParsed) (on : GoOn) where
  pub compiles_behind : (bytes : List ℕ) → IsFile bytes → (fork : Fork) → admitted bytes ≡ Ok fork → (only skip : List OsType) → AreShort (chosen only skip fork.list)
      → (known : Known) (text : List ℕ) → ShowsEach known (chosen only skip fork.list) text → CompilesBehind known text (chosen only skip fork.list)
  compiles_behind bytes file fork admits only skip short known text shows words asked files declared types name made is new declares sources held makes none knows output is_output =
      let list = chosen only skip fork.list in
      let around = around_of known.moment asked files in
      let spares = spared_too made.is_macro known.is_macro knows.macros shown_words (spared around (begun declared []) types asked.paths asked.defs made (free words asked is) makes) in
      let again = law bytes file fork admits only skip short known spares text shows in
      answers_made words asked files known.moment declared (with_file made name list) output is new declares
      (subst (λ (names : List (List ℕ)). AreCompiled around (begun declared []) names asked.paths asked.defs (Ok (with_file made name list))) (sym sources)
      (compiled_behind ended on around (begun declared []) types asked.paths name asked.defs known text list refl refl held again made makes none knows)) is_output

  module _ (commands : OneCommand) (words others : List (List ℕ)) (shown : DeRezAsked) (asked : RezAsked) (files after : Files) (moment : Moment) (name bytes : List ℕ) (fork : Fork)
      (answer : Answer) where
    pub read_back : IsDeRez words shown → Answers words files moment answer → answer.outcome ≡ Done
        → finite.get files shown.file ≡ Some bytes → HoldsFile shown.from bytes → fork_in None shown.from bytes ≡ Ok fork → AreShort (chosen shown.only shown.skip fork.list)
        → TypesStay moment shown.types files after → AreTypesAlone after tools.DeRez shown.types.files shown.types.paths shown.types.defs
        → IsRez others asked → ReadsBehind shown asked name → finite.get after name ≡ Some answer.out
        → (types : List Declaration) × TypesOf asked.tmpl after (Ok types)
        × (compiled : Compiled) × AreCompiled (around_of moment asked after) (begun types []) shown.types.files asked.paths asked.defs (Ok compiled)
        × IsAnswerBehind others asked after moment name compiled (chosen shown.only shown.skip fork.list)
    read_back is answers done held file admits short stay alone is_rez reads again =
        let text = text_of_answer moment shown files bytes fork answer (derez_answered commands words shown is files moment answer answers) done held admits in
        let compiled = text.0 in
        let parts = fork_parts shown.from bytes fork admits in
        let typed = types_behind moment shown.types after compiled (stay compiled text.1) in
        let start = begun typed.types [] in
        let both = agreed (types_around moment shown.types after) (around_of moment asked after) start shown.types.files shown.types.paths shown.types.defs compiled refl alone
        typed.compiled in
        let declares = subst (λ (name : Option (List ℕ)). TypesOf name after (Ok typed.types)) (sym reads.tmpl) typed.declared in
        let made = with_warnings compiled both.1 in
        let makes : AreCompiled (around_of moment asked after) start shown.types.files asked.paths asked.defs (Ok made) =
        subst (λ (paths : List (List ℕ)). AreCompiled (around_of moment asked after) start shown.types.files paths asked.defs (Ok made)) (sym reads.paths)
        (subst (λ (defs : List Def). AreCompiled (around_of moment asked after) start shown.types.files shown.types.paths defs (Ok made)) (sym reads.defs) both.2) in (
          typed.types,
          declares,
          made,
          makes,
          compiles_behind parts.0.res_fork (file parts.0 parts.1) fork parts.2 shown.only shown.skip short (known_by moment compiled) answer.out text.2
              others asked after typed.types shown.types.files name made is_rez reads.new declares reads.files again makes both.0 (record { types = refl; macros = λ name. refl }),
        )
