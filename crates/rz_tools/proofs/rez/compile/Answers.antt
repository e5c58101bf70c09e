use Rattle.std.proofs.Common.{◌≡◌, ℕ, List, length, Ok, Err, inl, inr, refl, subst}
use Rattle.std.specs.declared.result.Result.{Result}
use Rattle.rz_core.specs.Stop.{seen}
use Rattle.rz_core.specs.declared.moment.Moment.{Moment}
use Rattle.rz_folder.proofs.Allowed.{may_read_fewer}
use Rattle.rz_folder.proofs.Finding.{finds_as, finds_none, finds_pure, seen_end}
use Rattle.rz_folder.specs.Finds.{Finds}
use Rattle.rz_folder.specs.Folder.{Files}
use Rattle.rz_folder.specs.MayRead.{IsOneOf}
use Rattle.rz_folder.proofs.Present.{halt_placed}
use Rattle.rz_pre.specs.Program.{State}
use Rattle.rz_pre.specs.Reached.{IsReached}
use Rattle.rz_pre.specs.declared.condition.Tool.TheVariants.{Rez}
use Rattle.rz_tools_answer.specs.Answer.{Making}
use Rattle.rz_tools_answer.specs.Made.{making_of, IsSayable}
use Rattle.rz_tools_answer.specs.declared.made.Failing.{Failing}
use Rattle.rz_tools_output.specs.Base.{base_of, begun_of, Base}
use Rattle.rz_tools_output.specs.Templates.{TypesOf}
use Rattle.rz_tools_work.specs.Work.{begun, Work}
use Rattle.rz_types_table.specs.Table.{Declaration}
use Rattle.rz_types_table.specs.TypeTable.{table_of}
use Rattle.rz_core.specs.declared.fault.Fault.{Fault}
use Rattle.rz_tools.specs.Asked.{RezAsks, RezAsksAfter}
use Rattle.rz_tools.specs.Held.{compiled_of, rez, HasWarnings, OfState}
use Rattle.rz_tools.specs.Rez.{around_of, HasOutput, IsMadeBehind, IsMadeOf, IsMadeUnder, RezAsked}
use Rattle.rz_tools.specs.Sources.{Begins, Compiled, HasWork, IsProgramOf}
use Rattle.rz_tools.proofs.Asking.{may_ask_after}
use Rattle.rz_tools.proofs.Sourced.{begun_stop, begun_then, program_stop, program_then, states_stop, states_then}
use Rattle.rz_tools.proofs.rez.compile.Goals as goal

-- the parts of what sources mean
abbrev Reads : Moment → RezAsked → Files → Result State Failing → Type 0
Reads moment asked files = IsProgramOf (around_of moment asked files) asked.files asked.paths asked.defs

abbrev Declares : RezAsked → Files → State → Result (List Declaration) Failing → Type 0
Declares asked files s = Begins s (TypesOf asked.tmpl files)

abbrev IsBase : RezAsked → Files → Result Base Fault → Type 0
IsBase asked files base = base_of asked.append asked.target.name files ≡ base

abbrev BeginsWith : RezAsked → Files → State → Result Base Failing → Type 0
BeginsWith asked files s = Begins s (IsBase asked files)

abbrev Works : Moment → RezAsked → List Declaration → Base → Files → State → Result Compiled Failing → Type 0
Works moment asked types base files = HasWork (around_of moment asked files) (begun types base.fork.list)

abbrev Writes : Moment → RezAsked → Base → Files → State → Compiled → Result Making Failing → Type 0
Writes moment asked base files s compiled = HasOutput moment asked.target base compiled

pub read_program-requires-clause-may : goal.read_program-requires-clause-may
read_program-requires-clause-may g c =
    let asked = rez c.args.words.now in
    may_read_fewer g.F.Folder (RezAsks asked) c.requires.may (λ files. IsReached asked.paths files (IsOneOf asked.files)) (λ files told name is. inl is)

pub read_templates-requires : goal.read_templates-requires
read_templates-requires g c =
    let asked = rez c.args.words.now in
    λ name is. may_ask_after g.F.Folder Rez asked.files asked.paths asked.defs (RezAsksAfter asked) c.in_ok-program.program c.in_ok-program.ensures.reads c.in_ok-program.ensures.answered c.requires.may
    name (inl is)

pub unsaid-requires : goal.unsaid-requires
unsaid-requires g c = halt_placed (List Declaration) (List ℕ) (length c.in_ok-program.program.files) c.in-Err.halt c.in-Err.ensures.bad

pub read_base-requires : goal.read_base-requires
read_base-requires g c =
    let asked = rez c.args.words.now in
    λ appends. c.in-Ok.ensures.reads.allowed asked.target.name
    (may_ask_after g.F.Folder Rez asked.files asked.paths asked.defs (RezAsksAfter asked) c.in_ok-program.program c.in_ok-program.ensures.reads c.in_ok-program.ensures.answered c.requires.may
    asked.target.name (inr (inl (appends, refl))))

pub unsaid-requires-in-Err-read_base : goal.unsaid-requires-in-Err-read_base
unsaid-requires-in-Err-read_base g c = halt_placed Base (List ℕ) (length c.in_ok-program.program.files) c.in-Err-read_base.halt c.in-Err-read_base.ensures.bad

pub compile_program-requires-clause-may : goal.compile_program-requires-clause-may
compile_program-requires-clause-may g c =
    let asked = rez c.args.words.now in
    λ name is. c.in-Ok-read_base.ensures.reads.allowed name (c.in-Ok.ensures.reads.allowed name
    (may_ask_after g.F.Folder Rez asked.files asked.paths asked.defs (RezAsksAfter asked) c.in_ok-program.program c.in_ok-program.ensures.reads c.in_ok-program.ensures.answered c.requires.may
    name (inr (inr is))))

pub returns-in_err-program : goal.returns-in_err-program
returns-in_err-program g c =
    let asked = rez c.args.words.now in
    program_stop g.F.Folder (Reads c.args.moment asked) (IsMadeOf c.args.moment asked) (seen making_of c.from_residual.result) (seen_end making_of c.from_residual.result _ c.from_residual.ensures.1)
    c.in_err-program.ensures

pub returns-in-Err : goal.returns-in-Err
returns-in-Err g c =
    let asked = rez c.args.words.now in
    let program = c.in_ok-program.program in
    program_then g.F.Folder (Reads c.args.moment asked) (IsMadeOf c.args.moment asked) c.in_ok-program.ensures
    (states_stop g.F.Folder program (Declares asked) (IsMadeUnder c.args.moment asked) (Err c.unsaid.result) refl
    (begun_stop g.F.Folder program (TypesOf asked.tmpl) c.in-Err.ensures c.unsaid.ensures))

pub returns-in-Err-read_base : goal.returns-in-Err-read_base
returns-in-Err-read_base g c =
    let asked = rez c.args.words.now in
    let program = c.in_ok-program.program in
    let types = table_of c.in-Ok.types in
    program_then g.F.Folder (Reads c.args.moment asked) (IsMadeOf c.args.moment asked) c.in_ok-program.ensures
    (states_then g.F.Folder program (Declares asked) (IsMadeUnder c.args.moment asked) (begun_then g.F.Folder program (TypesOf asked.tmpl) {Bad = IsSayable} c.in-Ok.ensures)
    (states_stop g.F.Folder program (BeginsWith asked) (λ files s. IsMadeBehind c.args.moment asked files s types) (Err c.unsaid-in-Err-read_base.result) refl
    (begun_stop g.F.Folder program (IsBase asked) c.in-Err-read_base.ensures c.unsaid-in-Err-read_base.ensures)))

pub returns-in_err-start : goal.returns-in_err-start
returns-in_err-start g c =
    let asked = rez c.args.words.now in
    let program = c.in_ok-program.program in
    let types = table_of c.in-Ok.types in
    let result = c.from_residual-in_err-start.result in
    program_then g.F.Folder (Reads c.args.moment asked) (IsMadeOf c.args.moment asked) c.in_ok-program.ensures
    (states_then g.F.Folder program (Declares asked) (IsMadeUnder c.args.moment asked) (begun_then g.F.Folder program (TypesOf asked.tmpl) {Bad = IsSayable} c.in-Ok.ensures)
    (states_then g.F.Folder program (BeginsWith asked) (λ files s. IsMadeBehind c.args.moment asked files s types)
    (begun_then g.F.Folder program (IsBase asked) {Bad = IsSayable} c.in-Ok-read_base.ensures)
    (finds_none g.F.Folder (seen making_of result) (seen_end making_of result _ c.from_residual-in_err-start.ensures.1))))

pub returns-in_err-compiled : goal.returns-in_err-compiled
returns-in_err-compiled g c =
    let asked = rez c.args.words.now in
    let program = c.in_ok-program.program in
    let types = table_of c.in-Ok.types in
    let base = begun_of c.in-Ok-read_base.begun in
    let result = c.from_residual-in_err-compiled.result in
    program_then g.F.Folder (Reads c.args.moment asked) (IsMadeOf c.args.moment asked) c.in_ok-program.ensures
    (states_then g.F.Folder program (Declares asked) (IsMadeUnder c.args.moment asked) (begun_then g.F.Folder program (TypesOf asked.tmpl) {Bad = IsSayable} c.in-Ok.ensures)
    (states_then g.F.Folder program (BeginsWith asked) (λ files s. IsMadeBehind c.args.moment asked files s types)
    (begun_then g.F.Folder program (IsBase asked) {Bad = IsSayable} c.in-Ok-read_base.ensures)
    (states_stop g.F.Folder program (Works c.args.moment asked types base) (Writes c.args.moment asked base) (seen making_of result)
    (seen_end making_of result _ c.from_residual-in_err-compiled.ensures.1)
    (subst (λ (w : Work). Finds g.F.Folder c.read_base.new.folder c.compile_program.new.folder (Err c.in_err-compiled.field-0.0)
    (λ files. OfState program (HasWork (around_of c.args.moment asked files) w)) HasWarnings IsSayable) c.in_ok-start.ensures c.in_err-compiled.ensures))))

pub returns : goal.returns
returns g c =
    let asked = rez c.args.words.now in
    let program = c.in_ok-program.program in
    let types = table_of c.in-Ok.types in
    let begun = c.in-Ok-read_base.begun in
    let base = begun_of begun in
    let compiled = compiled_of c.in_ok-compiled.compiled in
    let result = c.write_compiled.result in
    program_then g.F.Folder (Reads c.args.moment asked) (IsMadeOf c.args.moment asked) c.in_ok-program.ensures
    (states_then g.F.Folder program (Declares asked) (IsMadeUnder c.args.moment asked) (begun_then g.F.Folder program (TypesOf asked.tmpl) {Bad = IsSayable} c.in-Ok.ensures)
    (states_then g.F.Folder program (BeginsWith asked) (λ files s. IsMadeBehind c.args.moment asked files s types)
    (begun_then g.F.Folder program (IsBase asked) {Bad = IsSayable} c.in-Ok-read_base.ensures)
    (states_then g.F.Folder program (Works c.args.moment asked types base) (Writes c.args.moment asked base)
    (subst (λ (w : Work). Finds g.F.Folder c.read_base.new.folder c.compile_program.new.folder (Ok compiled)
    (λ files. OfState program (HasWork (around_of c.args.moment asked files) w)) HasWarnings IsSayable) c.in_ok-start.ensures c.in_ok-compiled.ensures)
    (finds_as g.F.Folder (seen making_of result)
    (finds_pure g.F.Folder (HasOutput c.args.moment asked.target base compiled) (seen making_of result) (c.write_compiled.ensures.made begun.list) c.write_compiled.ensures.good
    c.write_compiled.ensures.bad c.write_compiled.ensures.unread)
    (λ files answer is s reads. is)))))
