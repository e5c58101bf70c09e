-- A text after the sources that declare its types.
use Rattle.std.proofs.Common.{◌≡◌, inl, inr, ℕ, Bool, true, false, if◌then◌else◌, List, [], ◌∷◌, ◌++◌, Some, None, Ok, refl, sym, ap, subst, ◌∙◌}
use Rattle.std.specs.FinMap as finite
use Rattle.std.specs.List.{AllByRecursion}
use Rattle.std.specs.declared.result.Result.{Result}
use Rattle.rz_core.proofs.Once.{ok_or_err}
use Rattle.rz_core.specs.declared.fault.Fault.{Fault}
use Rattle.rz_core.specs.declared.moment.Moment.{Moment}
use Rattle.rz_core.specs.declared.resource.Resource.{Resource}
use Rattle.rz_folder.specs.Folder.{Files}
use Rattle.rz_lex.specs.declared.token.Token.{Token}
use Rattle.rz_pre.specs.Program.{start, NamedGoes, NamesGo, State}
use Rattle.rz_pre.specs.declared.condition.Tool.{Tool}
use Rattle.rz_pre.specs.declared.condition.Tool.TheVariants as tools
use Rattle.rz_pre.specs.declared.program.Def.{Def}
use Rattle.rz_pre_laws.proofs.Onward.{both_go}
use Rattle.rz_stmt.specs.Statements.{AreStatements}
use Rattle.rz_stmt_brackets.specs.Statements.{has_end}
use Rattle.rz_tools.specs.Again.{MeansAgain}
use Rattle.rz_tools.specs.Program.{command, Answers}
use Rattle.rz_tools.specs.Rez.{around_of, AnswersRez, IsRez, RezAsked}
use Rattle.rz_tools_output.specs.Templates.{TypesOf}
use Rattle.rz_types_table.specs.Table.{Declaration}
use Rattle.rz_tools_text.specs.Shown.{Known}
use Rattle.rz_tools.specs.Sources.{compiled, AreCompiled, Compiled}
use Rattle.rz_tools.specs.Step.{Means}
use Rattle.rz_tools_answer.specs.Answer.{or_refused, written}
use Rattle.rz_tools_answer.specs.Warning.{said_beside}
use Rattle.rz_tools_args.specs.declared.name.CommandName.TheVariants as names
use Rattle.rz_tools_output.specs.Base.{base_in, base_of, new_base, or_empty}
use Rattle.rz_tools_output.specs.Output.{IsOutput}
use Rattle.rz_tools_laws.proofs.Parsed.{meant_end, means_on, EndsParsed}
use Rattle.rz_tools_laws.specs.Behind.{with_file, IsKnown}
use Rattle.rz_tools_values.specs.Around.{Around}
use Rattle.rz_tools_work.specs.Work.{begun, Work}

-- the law of statements one after the other
abbrev pub GoOn : Type 0
GoOn =
    (front back : List Token) (statements others : List (List Token)) → AreStatements front statements → AreStatements back others
    → AllByRecursion (λ tokens. has_end 0 tokens ≡ true) statements → AreStatements (front ++ back) (statements ++ others)

-- The sources, and the file after them.

module _ (ended : EndsParsed) (on : GoOn) (around : Around) (first : Work) (types paths : List (List ℕ)) (name : List ℕ) (defs : List Def) (known : Known) (text : List ℕ) (list : List Resource)
    (rez : around.setting.tool ≡ tools.Rez) (at : around.setting.moment ≡ known.moment) (held : finite.get around.files name ≡ Some text) (again : MeansAgain known text list) where
  behind : (program : State) (work : Work) (statements : List (List Token)) → NamesGo around.setting.tool around.files paths types (start defs) (Ok program)
      → AreStatements program.tokens statements → work.list ≡ [] → IsKnown (compiled program work) known
      → Means around first statements (Ok work)
      → AreCompiled around first (types ++ name ∷ []) paths defs (Ok (with_file (compiled program work) name list))
  behind program work statements goes are none is means =
      let read = again.read around.files name paths program held is.macros in
      let after : State = record { live = program.live; tokens = program.tokens ++ read.0; files = program.files ++ name ∷ [] } in
      let named : NamedGoes around.setting.tool around.files paths name program (Ok after) =
      subst (λ (tool : Tool). NamedGoes tool around.files paths name program (Ok after)) (sym rez) read.1 in
      let more = read.2.2 around work.warnings rez at in
      let made : Work = record { types = known.types; list = list; warnings = work.warnings } in
      let from : Means around work read.2.0 (Ok made) =
      subst (λ (w : Work). Means around w read.2.0 (Ok made)) (λ i. record { types = sym is.types i; list = sym none i; warnings = work.warnings }) more in
      inl (
        after,
        both_go around.setting.tool around.files paths (name ∷ []) types (start defs) (Ok after) (inl (program, goes, inl (after, named, refl))),
        (
          statements ++ read.2.0,
          on program.tokens read.0 statements read.2.0 are read.2.1 (meant_end ended around first work statements means),
          (
            made,
            means_on around first work statements read.2.0 (Ok made) means from,
            λ i. record {
              work = record { types = is.types i; list = list; warnings = work.warnings };
              is_macro = (compiled program work).is_macro;
              files = program.files ++ name ∷ [];
            },
          ),
        ),
      )

  pub compiled_behind : (made : Compiled) → AreCompiled around first types paths defs (Ok made) → made.work.list ≡ [] → IsKnown made known
      → AreCompiled around first (types ++ name ∷ []) paths defs (Ok (with_file made name list))
  compiled_behind made (inl (program, goes, (statements, are, (work, means, is)))) none knows =
      subst (λ (m : Compiled). AreCompiled around first (types ++ name ∷ []) paths defs (Ok (with_file m name list))) (sym is)
      (behind program work statements goes are (ap (λ (m : Compiled). m.work.list) (sym is) ∙ none) (subst (λ (m : Compiled). IsKnown m known) is knows) means)
  compiled_behind made (inr (failing, goes, is)) none knows = absurd (ok_or_err made failing is)

-- The answer of rez.

begins_new : (asked : RezAsked) (files : Files) → asked.append ≡ false → base_of asked.append asked.target.name files ≡ Ok new_base
begins_new asked files new = ap (λ (append : Bool). if append then base_in false None (or_empty (finite.get files asked.target.name)) else Ok new_base) new

pub answers_made : (words : List (List ℕ)) (asked : RezAsked) (files : Files) (moment : Moment) (types : List Declaration) (made : Compiled) (output : Result (List ℕ) Fault)
    → IsRez words asked → asked.append ≡ false → TypesOf asked.tmpl files (Ok types) → AreCompiled (around_of moment asked files) (begun types []) asked.files asked.paths asked.defs (Ok made)
    → IsOutput asked.target moment new_base made.work.list output
    → Answers words files moment (or_refused (written asked.target.name) (said_beside made.files made.work.warnings output))
answers_made words asked files moment types made output (items, is, same) new declares (inl (program, goes, has)) is_output =
    let answer = or_refused (written asked.target.name) (said_beside made.files made.work.warnings output) in
    command (record { name = names.Rez; items = items }) is
    (subst (λ (a : RezAsked). AnswersRez a files moment answer) same (
      said_beside made.files made.work.warnings output,
      inl (program, goes, inl (types, declares, inl (new_base, begins_new asked files new, inl (made, has, (output, is_output, refl))))),
      refl,
    ))
answers_made words asked files moment types made output is new declares (inr (failing, goes, so)) is_output = absurd (ok_or_err made failing so)

-- what is spared by macros is spared by the same macros
pub spared_too : (one other : List ℕ → Bool) → ((name : List ℕ) → one name ≡ other name) → (words : List (List ℕ))
    → AllByRecursion (λ word. one word ≡ false) words → AllByRecursion (λ word. other word ≡ false) words
spared_too one other same [] all = tt
spared_too one other same (word ∷ words) all = (sym (same word) ∙ all.0, spared_too one other same words all.1)
