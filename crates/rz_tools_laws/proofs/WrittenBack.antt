-- What `derez` writes of the fork of a list, `rez` writes as the same bytes again.
use Rattle.std.proofs.Common.{◌≡◌, inl, ℕ, Bool, false, List, [], ◌∷◌, ◌++◌, Some, None, Ok, refl, sym, ap, subst, ◌∙◌}
use Rattle.std.specs.FinMap as finite
use Rattle.rz_core.specs.declared.moment.Moment.{Moment}
use Rattle.rz_core.specs.declared.resource.Resource.{Resource}
use Rattle.rz_folder.specs.Folder.{Files}
use Rattle.rz_bridge_files.specs.Contents.{fork_in}
use Rattle.rz_bridge_files.specs.Names.{raw}
use Rattle.rz_bridge_files.specs.Written.{written_as}
use Rattle.rz_bridge_files.specs.declared.form.Form.{Form}
use Rattle.rz_bridge_files.specs.declared.form.Form.TheVariants.{Raw}
use Rattle.rz_fork.specs.Contents.{Fork}
use Rattle.rz_fork.specs.Image.{fork_of}
use Rattle.rz_pre.specs.declared.condition.Tool.TheVariants as tools
use Rattle.rz_tools.specs.Again.{AreShort, HoldsFile}
use Rattle.rz_tools.specs.DeRez.{DeRezAsked, IsDeRez}
use Rattle.rz_tools.specs.Program.{Answers, IsOnlyAnswer}
use Rattle.rz_tools.specs.Rez.{around_of, IsRez, RezAsked}
use Rattle.rz_tools.specs.Sources.{AreCompiled, Compiled}
use Rattle.rz_tools_answer.specs.Answer.{written, Answer}
use Rattle.rz_tools_answer.specs.Warning.{warning_lines}
use Rattle.rz_tools_answer.specs.declared.outcome.Outcome.TheVariants.{Done}
use Rattle.rz_tools_laws.specs.Behind.{AreTypesAlone, IsAnswerBehind, ReadsBehind, ShowsAll, TypesStay, WritesRaw}
use Rattle.rz_tools_output.specs.Base.{attributes_asked, new_base}
use Rattle.rz_tools_output.specs.Output.{file_of, fork_or_fault, form_asked, list_fork, IsOutput, Target}
use Rattle.rz_tools_text.specs.Chosen.{chosen}
use Rattle.rz_tools_output.specs.Templates.{TypesOf}
use Rattle.rz_tools_work.specs.Work.{begun}
use Rattle.rz_types_table.specs.Table.{Declaration}

-- all resources are shown
each_chosen : (list : List Resource) → chosen [] [] list ≡ list
each_chosen [] = refl
each_chosen (r ∷ rs) = ap (λ (l : List Resource). r ∷ l) (each_chosen rs)

all_chosen : (shown : DeRezAsked) (list : List Resource) → ShowsAll shown → chosen shown.only shown.skip list ≡ list
all_chosen shown list all = (λ i. chosen (all.only i) (all.skip i) list) ∙ each_chosen list

-- the fork of a list is the file that is written of it
fork_made : (read_only : Bool) (list : List Resource) (bytes : List ℕ) → read_only ≡ false → fork_of list 0 [] ≡ Ok bytes
    → Ok bytes ≡ list_fork (attributes_asked read_only new_base) [] list
unfolding list_fork
fork_made read_only list bytes free is = sym (ap (λ (b : Bool). list_fork (attributes_asked b new_base) [] list) free ∙ ap fork_or_fault is)

raw_output : (asked : Target) (moment : Moment) (list : List Resource) (bytes : List ℕ) → form_asked asked new_base ≡ Raw → asked.read_only ≡ false
    → fork_of list 0 [] ≡ Ok bytes → IsOutput asked moment new_base list (Ok bytes)
raw_output asked moment list bytes form free is =
    let file = file_of asked moment new_base.file bytes in
    inl (bytes, fork_made asked.read_only list bytes free is, inl (file, raw form refl, sym (ap (λ (f : Form). written_as f file) form)))

abbrev pub ReadBack : Type 0
ReadBack = (words others : List (List ℕ)) (shown : DeRezAsked) (asked : RezAsked) (files after : Files) (moment : Moment) (name bytes : List ℕ) (fork : Fork) (answer : Answer)
    → IsDeRez words shown → Answers words files moment answer → answer.outcome ≡ Done
    → finite.get files shown.file ≡ Some bytes → HoldsFile shown.from bytes → fork_in None shown.from bytes ≡ Ok fork → AreShort (chosen shown.only shown.skip fork.list)
    → TypesStay moment shown.types files after → AreTypesAlone after tools.DeRez shown.types.files shown.types.paths shown.types.defs
    → IsRez others asked → ReadsBehind shown asked name → finite.get after name ≡ Some answer.out
    → (types : List Declaration) × TypesOf asked.tmpl after (Ok types)
    × (compiled : Compiled) × AreCompiled (around_of moment asked after) (begun types []) shown.types.files asked.paths asked.defs (Ok compiled)
    × IsAnswerBehind others asked after moment name compiled (chosen shown.only shown.skip fork.list)

abbrev pub OneAnswer : Type 0
OneAnswer = (words : List (List ℕ)) (files : Files) (moment : Moment) (answer another : Answer) → Answers words files moment answer → Answers words files moment another → answer ≡ another

module _ (law : ReadBack) (one : OneAnswer) (words others : List (List ℕ)) (shown : DeRezAsked) (asked : RezAsked) (files after : Files) (moment : Moment) (name bytes : List ℕ) (fork : Fork)
    (answer : Answer) where
  pub written_back : IsDeRez words shown → Answers words files moment answer → answer.outcome ≡ Done
      → finite.get files shown.file ≡ Some bytes → HoldsFile shown.from bytes → fork_in None shown.from bytes ≡ Ok fork → ShowsAll shown → AreShort fork.list
      → TypesStay moment shown.types files after → AreTypesAlone after tools.DeRez shown.types.files shown.types.paths shown.types.defs
      → IsRez others asked → ReadsBehind shown asked name → WritesRaw asked → finite.get after name ≡ Some answer.out
      → fork_of fork.list 0 [] ≡ Ok bytes
      → (said : List ℕ) × IsOnlyAnswer others after moment (written asked.target.name (record { bytes = bytes; said = said }))
  written_back is answers done held file admits all short stay alone is_rez reads writes again own =
      let every = all_chosen shown fork.list all in
      let back = law words others shown asked files after moment name bytes fork answer is answers done held file admits (subst AreShort (sym every) short) stay alone is_rez reads again in
      let said = warning_lines (back.2.files ++ name ∷ []) back.2.work.warnings in
      let behind = subst (λ (list : List Resource). IsAnswerBehind others asked after moment name back.2 list) every back.4 in
      let answers_so : Answers others after moment (written asked.target.name (record { bytes = bytes; said = said })) =
      behind (Ok bytes) (raw_output asked.target moment fork.list bytes writes.form writes.free own) in
      (said, record { answers = answers_so; only = λ other so. one others after moment other (written asked.target.name (record { bytes = bytes; said = said })) so answers_so })
