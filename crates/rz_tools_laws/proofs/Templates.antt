-- What statements declare is a template.
use Rattle.std.proofs.Common.{◌≡◌, inl, inr, ℕ, true, List, [], ◌∷◌, map, Option, Ok, Err, refl, sym, subst}
use Rattle.std.specs.List.{AllByRecursion}
use Rattle.std.specs.declared.result.Result.{Result}
use Rattle.rz_core.proofs.Once.{ok_or_err, same_ok}
use Rattle.rz_core.specs.Stop.{◌>>=◌}
use Rattle.rz_core.specs.declared.fault.Fault.{Fault}
use Rattle.rz_core.specs.declared.fault.Mark.{Mark}
use Rattle.rz_core.specs.declared.moment.Moment.{Moment}
use Rattle.rz_core.specs.declared.resource.Resource.{Resource}
use Rattle.rz_folder.specs.Folder.{Files}
use Rattle.rz_lex.specs.Lexeme.{AreLexed}
use Rattle.rz_lex.specs.declared.token.Token.{Token}
use Rattle.rz_pre.specs.Lexed.{HaveLexedTexts}
use Rattle.rz_pre.specs.Program.{ProgramGoes, State}
use Rattle.rz_pre.specs.declared.condition.Tool.{Tool}
use Rattle.rz_pre.specs.declared.program.Def.{Def}
use Rattle.rz_stmt.specs.Grammar.{alone, beyond, data_statement, list_statement, mark_of, none, resource_statement, statement, type_statement, Compiles, Data, Declares, Empty, IsShapedStatement, IsStatement, Lists, Parses, Statement}
use Rattle.rz_stmt.specs.Statements.{AreStatements}
use Rattle.rz_stmt_brackets.specs.Limit.{is_within_limits}
use Rattle.rz_stmt_fields.specs.Form.{DeclareForm}
use Rattle.rz_stmt_type.specs.Constants.{declared, Declare, Fields, PlainMade}
use Rattle.rz_stmt_type.specs.Declare.{IsDeclare}
use Rattle.rz_stmt_type.specs.Shaped.{IsShapedMade}
use Rattle.rz_types.specs.Field.{PlainBody}
use Rattle.rz_tools.proofs.EveryMeaning.{steps_so, HoldsOf}
use Rattle.rz_tools.proofs.EveryResource.{IsKept}
use Rattle.rz_tools.proofs.Stepping.{lexed_parts}
use Rattle.rz_tools.specs.DeRez.{DeRezAsked, IsDeRez}
use Rattle.rz_tools.specs.Rez.{around_of, IsRez, RezAsked}
use Rattle.rz_tools.specs.Types.{types_around, TypesAre}
use Rattle.rz_tools.specs.Sources.{Compiled, HasWork, IsProgramOf}
use Rattle.rz_tools.specs.Step.{Means, WarnedFault}
use Rattle.rz_tools_args.specs.Command.{Asked, IsCommand}
use Rattle.rz_tools_args.specs.Items.{defs_of}
use Rattle.rz_tools_args.specs.declared.name.CommandName.TheVariants as names
use Rattle.rz_tools_output.specs.Templates.{AreTemplates, IsTemplate, TypesOf}
use Rattle.rz_types_table.specs.Table.{Declaration}
use Rattle.rz_tools_work.proofs.Numbered.{still_lexed}
use Rattle.rz_tools_values.specs.Around.{Around}
use Rattle.rz_tools_work.specs.ToolWords.{numbered}
use Rattle.rz_tools_work.specs.Work.{begun, Work}

-- The laws below.

abbrev DeclarationsAreShaped : Type 0
DeclarationsAreShaped =
    (tokens : List Token) (form : DeclareForm) (mark : Mark) (declare : Declare) → AreLexed tokens → is_within_limits tokens ≡ true → IsDeclare tokens form
    → declared mark form ≡ Ok declare → IsShapedMade declare.made

abbrev ProgramsAreLexed : Type 0
ProgramsAreLexed =
    (files : Files) (tool : Tool) (names paths : List (List ℕ)) (defs : List Def) (state : State) → HaveLexedTexts defs
    → ProgramGoes files tool names paths defs (Ok state) → AreLexed state.tokens

abbrev DefinitionsAreLexed : Type 0
DefinitionsAreLexed = (words : List (List ℕ)) (asked : Asked) → IsCommand words asked → HaveLexedTexts (defs_of asked.items)

abbrev TypesAreTemplates : Type 0
TypesAreTemplates = (name : Option (List ℕ)) (files : Files) (types : List Declaration) → TypesOf name files (Ok types) → AreTemplates types

-- A statement.

same_statement : (one other : Statement) → ◌≡◌ {A = Result Statement Fault} (Ok one) (Ok other) → IsShapedStatement other → IsShapedStatement one
same_statement one other is shaped = subst IsShapedStatement (sym (same_ok {F = Fault} one other is)) shaped

module _ (law : DeclarationsAreShaped) (tokens : List Token) (lexed : AreLexed tokens) (within : is_within_limits tokens ≡ true) where
  declared_shaped : (form : DeclareForm) → IsDeclare tokens form → (mark : Mark) (given : Result Declare Fault) → declared mark form ≡ given
      → (one : Statement) → Ok one ≡ given >>= (λ made. Ok (Declares made)) → IsShapedStatement one
  declared_shaped form is mark (Ok made) gives one so = same_statement one (Declares made) so (law tokens form mark made lexed within is gives)
  declared_shaped form is mark (Err fault) gives one so = absurd (ok_or_err {F = Fault} one fault so)

  statement_shaped : (one : Statement) → IsStatement tokens (Ok one) → IsShapedStatement one
  statement_shaped one (alone empty is) = same_statement one Empty is tt
  statement_shaped one (data_statement raw so is) = same_statement one (Data raw) is tt
  statement_shaped one (list_statement form so is) = same_statement one (Lists form) is tt
  statement_shaped one (resource_statement form so is) = same_statement one (Compiles form) is tt
  statement_shaped one (type_statement form so is) = declared_shaped form so (mark_of tokens) (declared (mark_of tokens) form) refl one is

-- tokens that lines can be cut into are a statement whose fields are well shaped
shaped_statement : DeclarationsAreShaped → (tokens : List Token) → AreLexed tokens → (one : Statement) → Parses tokens (Ok one) → IsShapedStatement one
shaped_statement law tokens lexed one (beyond past is) = absurd (ok_or_err {F = Fault} one _ is)
shaped_statement law tokens lexed one (statement within so) = statement_shaped law tokens lexed within one so
shaped_statement law tokens lexed one (none within other is) = absurd (ok_or_err {F = Fault} one _ is)

-- its fields, where they keep the rules, are a template
made_template : (made : PlainMade) → IsShapedMade made → (own : PlainBody) → made ≡ Fields own → IsKept own → IsTemplate own
made_template made shaped own is kept = record { shaped = subst IsShapedMade is shaped; kept = kept }

holds_template : (one : Statement) → IsShapedStatement one → HoldsOf IsTemplate one
holds_template Empty shaped = tt
holds_template (Data raw) shaped = tt
holds_template (Compiles form) shaped = tt
holds_template (Lists form) shaped = tt
holds_template (Declares declare) shaped = made_template declare.made shaped

-- All statements.

not_both : {X F : Type 0} (value : X) (fault : F) → ◌≡◌ {A = Result X F} (Ok value) (Err fault) → ⊥
not_both value fault is = ok_or_err value fault is

module _ (law : DeclarationsAreShaped) where
  meaning_templates : (around : Around) (statements : List (List Token)) (start work : Work) → AllByRecursion AreLexed statements → AreTemplates start.types
      → Means around start statements (Ok work) → AreTemplates work.types
  meaning_templates around [] start work lexed all is = subst (λ (w : Work). AreTemplates w.types) (sym (same_ok {F = WarnedFault} work start is)) all
  meaning_templates around (tokens ∷ statements) start work lexed all (inl (next, steps, means)) =
      meaning_templates around statements next work lexed.1
      (steps_so IsTemplate around start (map (numbered around.setting.tool) tokens) next steps
      (λ one parses. holds_template one (shaped_statement law (map (numbered around.setting.tool) tokens)
      (still_lexed around.setting.tool tokens (map (numbered around.setting.tool) tokens) refl lexed.0) one parses))
      all)
      means
  meaning_templates around (tokens ∷ statements) start work lexed all (inr (stopped, steps, is)) = absurd (not_both work stopped is)

  pub statements_templates : (around : Around) (types : List Declaration) (list : List Resource) (statements : List (List Token)) (work : Work) → AreTemplates types
      → AllByRecursion AreLexed statements → Means around (begun types list) statements (Ok work) → AreTemplates work.types
  statements_templates around types list statements work before lexed means = meaning_templates around statements (begun types list) work lexed before means

  -- each statement of lexed tokens is lexed
  statements_lexed : (tokens : List Token) (statements : List (List Token)) → AreStatements tokens statements → AreLexed tokens → AllByRecursion AreLexed statements
  statements_lexed tokens [] are lexed = tt
  statements_lexed tokens (one ∷ statements) (behind, are, inl (is, others)) lexed =
      let parts = lexed_parts one behind (subst AreLexed are lexed) in
      (parts.0, statements_lexed behind statements others parts.1)
  statements_lexed tokens (one ∷ statements) (behind, are, inr (is, nothing, last)) lexed =
      let parts = lexed_parts one behind (subst AreLexed are lexed) in
      (parts.0, subst (λ (ss : List (List Token)). AllByRecursion AreLexed ss) (sym last) tt)

  work_templates : (around : Around) (program : State) (types : List Declaration) (list : List Resource) (made : Compiled) → AreTemplates types → AreLexed program.tokens
      → HasWork around (begun types list) program (Ok made) → AreTemplates made.work.types
  work_templates around program types list made before lexed (statements, are, (work, means, is)) =
      subst (λ (c : Compiled). AreTemplates c.work.types) (sym is)
      (statements_templates around types list statements work before (statements_lexed program.tokens statements are lexed) means)

  pub sources_templates : ProgramsAreLexed → (around : Around) (names paths : List (List ℕ)) (defs : List Def) (program : State) (types : List Declaration) (list : List Resource)
      (made : Compiled) → AreTemplates types → HaveLexedTexts defs → IsProgramOf around names paths defs (Ok program) → HasWork around (begun types list) program (Ok made)
      → AreTemplates made.work.types
  sources_templates programs around names paths defs program types list made before lexed goes has =
      work_templates around program types list made before (programs around.files around.setting.tool names paths defs program lexed goes) has

  pub rez_templates : ProgramsAreLexed → DefinitionsAreLexed → TypesAreTemplates
      → (words : List (List ℕ)) (asked : RezAsked) (files : Files) (moment : Moment) (program : State) (types : List Declaration) (list : List Resource) (made : Compiled)
      → IsRez words asked → IsProgramOf (around_of moment asked files) asked.files asked.paths asked.defs (Ok program) → TypesOf asked.tmpl files (Ok types)
      → HasWork (around_of moment asked files) (begun types list) program (Ok made) → AreTemplates made.work.types
  rez_templates programs definitions templates words asked files moment program types list made command goes declares has =
      sources_templates programs (around_of moment asked files) asked.files asked.paths asked.defs program types list made (templates asked.tmpl files types declares)
      (subst (λ (a : RezAsked). HaveLexedTexts a.defs) (sym command.2) (definitions words (record { name = names.Rez; items = command.0 }) command.1)) goes has

  pub derez_templates : ProgramsAreLexed → DefinitionsAreLexed → TypesAreTemplates
      → (words : List (List ℕ)) (asked : DeRezAsked) (files : Files) (moment : Moment) (made : Compiled) → IsDeRez words asked
      → TypesAre moment asked.types files (Ok made) → AreTemplates made.work.types
  derez_templates programs definitions templates words asked files moment made command (inl (program, goes, inl (types, declares, has))) =
      sources_templates programs (types_around moment asked.types files) asked.types.files asked.types.paths asked.types.defs program types [] made
      (templates asked.types.tmpl files types declares)
      (subst (λ (a : DeRezAsked). HaveLexedTexts a.types.defs) (sym command.2) (definitions words (record { name = names.DeRez; items = command.0 }) command.1)) goes has
  derez_templates programs definitions templates words asked files moment made command (inl (program, goes, inr (failing, begins, is))) = absurd (not_both made failing is)
  derez_templates programs definitions templates words asked files moment made command (inr (failing, goes, is)) = absurd (not_both made failing is)
