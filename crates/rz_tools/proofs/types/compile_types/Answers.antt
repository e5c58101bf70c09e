use Rattle.std.proofs.Common.{ℕ, List, [], length, Err, inl, refl, ap, subst, ◌∙◌}
use Rattle.rz_core.specs.Stop.{seen}
use Rattle.rz_folder.proofs.Allowed.{may_read_fewer}
use Rattle.rz_folder.proofs.Finding.{finds_none, seen_end}
use Rattle.rz_folder.specs.Finds.{Finds}
use Rattle.rz_folder.specs.Folder.{Files}
use Rattle.rz_folder.specs.MayRead.{IsIt, IsOneOf}
use Rattle.rz_folder.proofs.Present.{halt_placed}
use Rattle.rz_pre.specs.Program.{State}
use Rattle.rz_pre.specs.Reached.{IsReached}
use Rattle.rz_pre.specs.declared.condition.Tool.TheVariants.{DeRez}
use Rattle.rz_tools_answer.specs.Made.{IsSayable}
use Rattle.rz_tools_answer.specs.declared.made.Failing.{Failing}
use Rattle.rz_tools_output.specs.Templates.{TypesOf}
use Rattle.rz_tools_values.specs.Around.{around}
use Rattle.rz_tools_work.specs.Work.{begun, Work}
use Rattle.rz_types_table.specs.Table.{Declaration}
use Rattle.rz_types_table.specs.TypeTable.{table_of}
use Rattle.std.specs.declared.result.Result.{Result}
use Rattle.rz_core.specs.declared.moment.Moment.{Moment}
use Rattle.rz_tools.specs.Asked.{TypesAsk}
use Rattle.rz_tools.specs.Held.{compiled_of, types_asked, HasWarnings, OfState}
use Rattle.rz_tools.specs.Sources.{Begins, Compiled, HasWork, IsProgramOf}
use Rattle.rz_tools.specs.Types.{types_around, types_setting, AreTyped, TypesAsked}
use Rattle.rz_tools.proofs.Asking.{may_ask_after, none_asked}
use Rattle.rz_tools.proofs.Sourced.{begun_stop, begun_then, program_stop, program_then, states_stop, states_then}
use Rattle.rz_tools.proofs.types.compile_types.Goals as goal

-- the parts of what type files mean
abbrev Reads : Moment → TypesAsked → Files → Result State Failing → Type 0
Reads moment asked files = IsProgramOf (types_around moment asked files) asked.files asked.paths asked.defs

abbrev Declares : TypesAsked → Files → State → Result (List Declaration) Failing → Type 0
Declares asked files s = Begins s (TypesOf asked.tmpl files)

abbrev Compiles : Moment → TypesAsked → Files → State → List Declaration → Result Compiled Failing → Type 0
Compiles moment asked files s types = HasWork (types_around moment asked files) (begun types []) s

pub read_program-requires-clause-may : goal.read_program-requires-clause-may
read_program-requires-clause-may g c =
    let asked = types_asked c.args.words.now in
    may_read_fewer g.F.Folder (TypesAsk asked) c.requires.may (λ files. IsReached asked.paths files (IsOneOf asked.files)) (λ files told name is. inl is)

pub read_templates-requires : goal.read_templates-requires
read_templates-requires g c =
    let asked = types_asked c.args.words.now in
    may_ask_after g.F.Folder DeRez asked.files asked.paths asked.defs (λ tokens. IsIt asked.tmpl) c.in_ok-program.program c.in_ok-program.ensures.reads c.in_ok-program.ensures.answered c.requires.may

pub unsaid-requires : goal.unsaid-requires
unsaid-requires g c = halt_placed (List Declaration) (List ℕ) (length c.in_ok-program.program.files) c.in-Err.halt c.in-Err.ensures.bad

pub compile_program-requires-clause-may : goal.compile_program-requires-clause-may
compile_program-requires-clause-may g c = λ name asks. absurd (none_asked c.new-searches.result c.in_ok-program.program.tokens name asks)

pub returns-in_err-program : goal.returns-in_err-program
returns-in_err-program g c =
    let asked = types_asked c.args.words.now in
    program_stop g.F.Folder (Reads c.args.moment asked) (AreTyped c.args.moment asked) (seen compiled_of c.from_residual.result) (seen_end compiled_of c.from_residual.result _ c.from_residual.ensures.1)
    c.in_err-program.ensures

pub returns-in-Err : goal.returns-in-Err
returns-in-Err g c =
    let asked = types_asked c.args.words.now in
    let program = c.in_ok-program.program in
    program_then g.F.Folder (Reads c.args.moment asked) (AreTyped c.args.moment asked) c.in_ok-program.ensures
    (states_stop g.F.Folder program (Declares asked) (Compiles c.args.moment asked) (Err c.unsaid.result) refl
    (begun_stop g.F.Folder program (TypesOf asked.tmpl) c.in-Err.ensures c.unsaid.ensures))

pub returns-in_err-start : goal.returns-in_err-start
returns-in_err-start g c =
    let asked = types_asked c.args.words.now in
    let program = c.in_ok-program.program in
    let result = c.from_residual-in_err-start.result in
    program_then g.F.Folder (Reads c.args.moment asked) (AreTyped c.args.moment asked) c.in_ok-program.ensures
    (states_then g.F.Folder program (Declares asked) (Compiles c.args.moment asked) (begun_then g.F.Folder program (TypesOf asked.tmpl) {Bad = IsSayable} c.in-Ok.ensures)
    (finds_none g.F.Folder (seen compiled_of result) (seen_end compiled_of result _ c.from_residual-in_err-start.ensures.1)))

pub returns : goal.returns
returns g c =
    let asked = types_asked c.args.words.now in
    let program = c.in_ok-program.program in
    let types = table_of c.in-Ok.types in
    let mid = c.read_templates.new.folder in
    let end = c.compile_program.new.folder in
    let result = c.compile_program.result in
    program_then g.F.Folder (Reads c.args.moment asked) (AreTyped c.args.moment asked) c.in_ok-program.ensures
    (states_then g.F.Folder program (Declares asked) (Compiles c.args.moment asked) (begun_then g.F.Folder program (TypesOf asked.tmpl) {Bad = IsSayable} c.in-Ok.ensures)
    (subst (λ (paths : List (List ℕ)). Finds g.F.Folder mid end (seen compiled_of result) (λ files. OfState program (HasWork (around (types_setting c.args.moment asked) paths files) (begun types []))) HasWarnings IsSayable)
    c.new-searches.ensures
    (subst (λ (w : Work). Finds g.F.Folder mid end (seen compiled_of result) (λ files. OfState program (HasWork (around (types_setting c.args.moment asked) c.new-searches.result files) w)) HasWarnings IsSayable)
    (c.in_ok-start.ensures ∙ ap (begun types) c.new.ensures) c.compile_program.ensures)))
