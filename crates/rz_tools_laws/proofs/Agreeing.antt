-- Statements that only declare types mean the same to both tools.
use Rattle.std.proofs.Common.{◌≡◌, inl, inr, ℕ, true, false, List, [], ◌∷◌, ◌++◌, map, None, Ok, Err, refl, sym, ap, subst, ◌∙◌}
use Rattle.std.specs.Prelude.{◌&&◌, not, if◌then◌else◌}
use Rattle.std.specs.List.{AllByRecursion}
use Rattle.std.specs.declared.result.Result.{Result}
use Rattle.rz_core.proofs.Once.{ok_or_err, same_ok}
use Rattle.rz_core.proofs.Tests.{or_false, true_false}
use Rattle.rz_core.specs.Answers.{Then}
use Rattle.rz_core.specs.Stop.{◌>>=◌}
use Rattle.rz_core.specs.declared.fault.Fault.{Fault}
use Rattle.rz_core.specs.declared.fault.Mark.{Mark}
use Rattle.rz_expr.specs.Keyword.{is_keyword}
use Rattle.rz_words.specs.declared.keyword.Keyword.TheVariants as keywords
use Rattle.rz_folder.specs.Folder.{Files}
use Rattle.rz_lex.specs.declared.token.Shape.{Shape}
use Rattle.rz_lex.specs.declared.token.Token.{Token}
use Rattle.rz_pre.specs.Program as pre
use Rattle.rz_pre.specs.Program.{NamesGo}
use Rattle.rz_pre.specs.declared.condition.Tool.{Tool}
use Rattle.rz_pre.specs.declared.condition.Tool.TheVariants as tools
use Rattle.rz_pre.specs.declared.program.Def.{Def}
use Rattle.rz_pre_laws.proofs.Tools.{goes_too}
use Rattle.rz_pre_laws.specs.Tools.{is_tool, NameNoTool}
use Rattle.rz_stmt.specs.Grammar.{mark_of, Compiles, Data, Declares, Empty, Lists, Parses, Statement}
use Rattle.rz_stmt.specs.Statements.{AreStatements}
use Rattle.rz_stmt_type.specs.Constants as declare
use Rattle.rz_tools.specs.Sources.{AreCompiled, Compiled}
use Rattle.rz_tools.specs.Step.{done_by, IsBehind, Means, Steps, WarnedFault}
use Rattle.rz_tools_laws.specs.Behind.{only_declares, with_warnings, AreTypesAlone, OnlyDeclare}
use Rattle.rz_tools_values.specs.Around.{Around}
use Rattle.rz_tools_values.specs.declared.setting.Setting.{Setting}
use Rattle.rz_tools_work.specs.Declare.{redeclared, scope_of, template_of}
use Rattle.rz_tools_work.specs.ToolWords.{numbered, tool_in}
use Rattle.rz_tools_work.specs.Work.{declared, with_type, Work}
use Rattle.rz_types.specs.Field.{PlainBody}
use Rattle.rz_types_table.specs.Table.{has_place}
use Rattle.rz_types_table.specs.declared.table.Scope.{Scope}

-- Tokens that name no tool stay as they are.

untold : (shape : Shape) → is_tool shape ≡ false → tool_in shape ≡ None
untold shape unnamed =
    let parts = or_false (is_keyword keywords.Rez shape) (is_keyword keywords.DeRez shape) unnamed in
    rw (parts.0, parts.1) refl

numbered_same : (tool : Tool) (tokens : List Token) → NameNoTool tokens → map (numbered tool) tokens ≡ tokens
numbered_same tool [] unnamed = refl
numbered_same tool (token ∷ tokens) unnamed = λ i. same token unnamed.0 i ∷ numbered_same tool tokens unnamed.1 i
  where
    same : (token : Token) → is_tool token.shape ≡ false → numbered tool token ≡ token
    same token is = rw (untold token.shape is) refl

front_unnamed : (front rest : List Token) → NameNoTool (front ++ rest) → NameNoTool front × NameNoTool rest
front_unnamed [] rest all = (tt, all)
front_unnamed (token ∷ front) rest all = let parts = front_unnamed front rest all.1 in ((all.0, parts.0), parts.1)

each_unnamed : (tokens : List Token) (statements : List (List Token)) → AreStatements tokens statements → NameNoTool tokens → AllByRecursion NameNoTool statements
each_unnamed tokens [] are all = tt
each_unnamed tokens (statement ∷ statements) (behind, are, inl (is, others)) all =
    let parts = front_unnamed statement behind (subst NameNoTool are all) in
    (parts.0, each_unnamed behind statements others parts.1)
each_unnamed tokens (statement ∷ statements) (behind, are, inr (rest, last, no_others)) all =
    let parts = front_unnamed statement behind (subst NameNoTool are all) in
    (parts.0, subst (AllByRecursion NameNoTool) (sym no_others) tt)

-- A declaration.

-- the work with other warnings
abbrev pub warned_by : Work → List Fault → Work
warned_by work warnings = record { types = work.types; list = work.list; warnings = warnings }

-- what a declaration adds
record Adds (setting : Setting) (mark : Mark) (work next : Work) (one : declare.Declare) : Type 0 where
  scope : Scope
  template : PlainBody
  has_scope : scope_of mark one.bounds ≡ Ok scope
  has_template : template_of mark work.types one.made ≡ Ok template
  is : next ≡ with_type setting mark work (record { code = one.kind }) scope template

adds : (setting : Setting) (mark : Mark) (work next : Work) (one : declare.Declare) → Ok next ≡ declared setting mark work one → Adds setting mark work next one
adds setting mark work next one is = by (scope_of mark one.bounds) refl is
  where
    templates : (scope : Scope) → scope_of mark one.bounds ≡ Ok scope → (given : Result PlainBody Fault) → template_of mark work.types one.made ≡ given
        → Ok next ≡ given >>= (λ template. Ok (with_type setting mark work (record { code = one.kind }) scope template)) → Adds setting mark work next one
    templates scope has (Ok template) gives so = record { scope = scope; template = template; has_scope = has; has_template = gives; is = same_ok {F = Fault} next _ so }
    templates scope has (Err fault) gives so = absurd (ok_or_err {F = Fault} next fault so)

    by : (given : Result Scope Fault) → scope_of mark one.bounds ≡ given
        → Ok next ≡ given >>= (λ scope. template_of mark work.types one.made >>= (λ template. Ok (with_type setting mark work (record { code = one.kind }) scope template))) → Adds setting mark work next one
    by (Ok scope) gives so = templates scope gives (template_of mark work.types one.made) refl so
    by (Err fault) gives so = absurd (ok_or_err {F = Fault} next fault so)

module _ (around other : Around) where
  -- where the tools warn of the same, what was warned of stays the same
  abbrev Alike : List Fault → List Fault → Type 0
  Alike warnings others = around.setting.redeclare ≡ other.setting.redeclare → warnings ≡ others

  -- the same step of the other tool, after whatever was warned of
  record Twin (work next : Work) (tokens : List Token) (warnings : List Fault) : Type 0 where
    after : List Fault
    steps : Steps other (warned_by work warnings) tokens (Ok (warned_by next after))
    list : next.list ≡ work.list
    alike : Alike warnings work.warnings → Alike after next.warnings

  declared_twin : (mark : Mark) (work next : Work) (one : declare.Declare) (warnings : List Fault) → Ok next ≡ declared around.setting mark work one
      → (after : List Fault) × (Ok (warned_by next after) ≡ declared other.setting mark (warned_by work warnings) one) × (next.list ≡ work.list)
      × (Alike warnings work.warnings → Alike after next.warnings)
  declared_twin mark work next one warnings is =
      let added = adds around.setting mark work next one is in
      let scope = added.scope in
      let twin = with_type other.setting mark (warned_by work warnings) (record { code = one.kind }) scope added.template in (
        twin.warnings,
        rw (added.has_scope, added.has_template) (ap (λ (w : Work). Ok (warned_by w twin.warnings)) added.is),
        ap (λ (w : Work). w.list) added.is,
        λ alike same. (λ i. if has_place (record { code = one.kind }) scope work.types && not (sym same i)
            then alike same i ++ redeclared mark (record { code = one.kind }) scope ∷ [] else alike same i)
            ∙ sym (ap (λ (w : Work). w.warnings) added.is),
      )

  -- both tools do the same of such a statement
  done_same : (tool : Tool) (statement : Statement) → only_declares statement ≡ true → done_by tool statement ≡ statement
  done_same tools.Rez statement declares = refl
  done_same tools.DeRez Empty declares = refl
  done_same tools.DeRez (Declares one) declares = refl
  done_same tools.DeRez (Data raw) declares = absurd (true_false (sym declares))
  done_same tools.DeRez (Lists one) declares = absurd (true_false (sym declares))
  done_same tools.DeRez (Compiles one) declares = absurd (true_false (sym declares))

  step_twin : (work next : Work) (tokens : List Token) (warnings : List Fault) → ((statement : Statement) → Parses tokens (Ok statement) → only_declares statement ≡ true)
      → Steps around work tokens (Ok next) → Twin work next tokens warnings
  step_twin work next tokens warnings only (inr (fault, parses, is)) = absurd (ok_or_err {F = Fault} next fault is)
  step_twin work next tokens warnings only (inl (statement, parses, behind)) =
      let declares = only statement parses in
      by statement parses declares (subst (λ (s : Statement). IsBehind around (mark_of tokens) work s (Ok next)) (done_same around.setting.tool statement declares) behind)
    where
      steps : (statement : Statement) (answer : Result Work Fault) → Parses tokens (Ok statement) → only_declares statement ≡ true
          → IsBehind other (mark_of tokens) (warned_by work warnings) statement answer
          → Then (Parses tokens) (λ one. IsBehind other (mark_of tokens) (warned_by work warnings) (done_by other.setting.tool one)) answer
      steps statement answer parses declares behind =
          inl (statement, parses, subst (λ (s : Statement). IsBehind other (mark_of tokens) (warned_by work warnings) s answer) (sym (done_same other.setting.tool statement declares)) behind)

      by : (statement : Statement) → Parses tokens (Ok statement) → only_declares statement ≡ true → IsBehind around (mark_of tokens) work statement (Ok next)
          → Twin work next tokens warnings
      by Empty parses declares is =
          let same = same_ok {F = Fault} next work is in record {
            after = warnings;
            steps = steps Empty (Ok (warned_by next warnings)) parses refl (ap (λ (w : Work). Ok (warned_by w warnings)) same);
            list = ap (λ (w : Work). w.list) same;
            alike = λ alike both. alike both ∙ sym (ap (λ (w : Work). w.warnings) same);
          }
      by (Declares one) parses declares is =
          let twin = declared_twin (mark_of tokens) work next one warnings is in record {
            after = twin.0;
            steps = steps (Declares one) (Ok (warned_by next twin.0)) parses refl twin.1;
            list = twin.2;
            alike = twin.3;
          }
      by (Data raw) parses declares is = absurd (true_false (sym declares))
      by (Lists one) parses declares is = absurd (true_false (sym declares))
      by (Compiles one) parses declares is = absurd (true_false (sym declares))

  means_twin : (work last : Work) (statements : List (List Token)) (warnings : List Fault) → AllByRecursion NameNoTool statements → OnlyDeclare statements
      → Means around work statements (Ok last) → (after : List Fault) × Means other (warned_by work warnings) statements (Ok (warned_by last after))
      × (last.list ≡ work.list) × (Alike warnings work.warnings → Alike after last.warnings)
  means_twin work last [] warnings unnamed only is =
      let same = same_ok {F = WarnedFault} last work is in (
        warnings,
        ap (λ (w : Work). Ok (warned_by w warnings)) same,
        ap (λ (w : Work). w.list) same,
        λ alike both. alike both ∙ sym (ap (λ (w : Work). w.warnings) same),
      )
  means_twin work last (tokens ∷ statements) warnings unnamed only (inl (next, steps, means)) =
      let twin = step_twin work next tokens warnings only.0
      (subst (λ (ts : List Token). Steps around work ts (Ok next)) (numbered_same around.setting.tool tokens unnamed.0) steps) in
      let more = means_twin next last statements twin.after unnamed.1 only.1 means in (
        more.0,
        inl (
          warned_by next twin.after,
          subst (λ (ts : List Token). Steps other (warned_by work warnings) ts (Ok (warned_by next twin.after))) (sym (numbered_same other.setting.tool tokens unnamed.0)) twin.steps,
          more.1,
        ),
        more.2 ∙ twin.list,
        λ alike. more.3 (twin.alike alike),
      )
  means_twin work last (tokens ∷ statements) warnings unnamed only (inr (stopped, steps, is)) = absurd (ok_or_err last stopped is)

  pub agreed : (start : Work) (names paths : List (List ℕ)) (defs : List Def) (made : Compiled) → around.files ≡ other.files
      → AreTypesAlone around.files around.setting.tool names paths defs → AreCompiled around start names paths defs (Ok made)
      → (made.work.list ≡ start.list) × (warnings : List Fault) × AreCompiled other start names paths defs (Ok (with_warnings made warnings))
      × (around.setting.redeclare ≡ other.setting.redeclare → warnings ≡ made.work.warnings)
  agreed start names paths defs made same alone (inr (failing, goes, is)) = absurd (ok_or_err made failing is)
  agreed start names paths defs made same alone (inl (program, goes, (statements, are, (work, means, is)))) =
      let twin = means_twin start work statements start.warnings (each_unnamed program.tokens statements are (alone.names_none program goes))
      (alone.only_types program statements goes are) means in
      let too : NamesGo other.setting.tool around.files paths names (pre.start defs) (Ok program) =
      goes_too around.setting.tool other.setting.tool around.files paths names defs program alone.asks_none goes in (
        ap (λ (m : Compiled). m.work.list) is ∙ twin.2,
        twin.0,
        inl (
          program,
          subst (λ (files : Files). NamesGo other.setting.tool files paths names (pre.start defs) (Ok program)) same too,
          (statements, are, (warned_by work twin.0, twin.1, ap (λ (m : Compiled). with_warnings m twin.0) is)),
        ),
        λ both. twin.3 (λ again. refl) both ∙ sym (ap (λ (m : Compiled). m.work.warnings) is),
      )
