-- No word of statements and attributes is a macro after sources.
use Rattle.std.proofs.Common.{◌≡◌, ◌⊎◌, inl, inr, ℕ, List, Ok, Err, None, sym, subst}
use Rattle.std.specs.declared.result.Result.{Result}
use Rattle.rz_folder.specs.Folder.{Files}
use Rattle.rz_pre_laws.specs.Definitions.{AreFree, IsFreeName}
use Rattle.rz_pre.specs.Program.{ProgramGoes, State}
use Rattle.rz_pre.specs.declared.condition.Tool.{Tool}
use Rattle.rz_pre.specs.declared.program.Def.{Def}
use Rattle.rz_tools.specs.Again.{SparesWords}
use Rattle.rz_tools_answer.specs.declared.made.Failing.{Failing}
use Rattle.rz_tools.specs.Sources.{AreCompiled, Compiled}
use Rattle.rz_tools_values.specs.Around.{Around}
use Rattle.rz_tools_work.specs.Work.{Work}
use Rattle.rz_tools.proofs.Reserved.{words_spared, AttributesAreSpelled, KeywordsAreSpelled}

-- the law of what is live after a program
abbrev pub LiveNamesAreFree : Type 0
LiveNamesAreFree =
    (files : Files) (tool : Tool) (names paths : List (List ℕ)) (defs : List Def) (state : State) → AreFree defs
    → ProgramGoes files tool names paths defs (Ok state) → (name : List ℕ) → (state.live name ≡ None) ⊎ IsFreeName name

not_both : (compiled : Compiled) (failing : Failing) → ◌≡◌ {A = Result Compiled Failing} (Ok compiled) (Err failing) → ⊥
not_both compiled failing is = cc is

pub compiled_spared : LiveNamesAreFree → KeywordsAreSpelled → AttributesAreSpelled → (around : Around) (start : Work) (names paths : List (List ℕ)) (defs : List Def)
    (compiled : Compiled) → AreFree defs → AreCompiled around start names paths defs (Ok compiled) → SparesWords compiled.is_macro
compiled_spared live keywords attributes around start names paths defs compiled free (inl (state, goes, (statements, are, (work, means, is)))) =
    subst (λ (c : Compiled). SparesWords c.is_macro) (sym is)
    (words_spared state.live (live around.files around.setting.tool names paths defs state free goes) keywords attributes)
compiled_spared live keywords attributes around start names paths defs compiled free (inr (failing, goes, is)) = absurd (not_both compiled failing is)
