-- What the statements of a program do, one after the other. (MPW Rez.)
use Rattle.std.specs.Prelude.{◌≡◌, List, [], ◌∷◌, map, Ok, Err}
use Rattle.std.specs.declared.result.Result.{Result}
use Rattle.rz_core.specs.Answers.{Then}
use Rattle.rz_core.specs.Stop.{left, refusal_seen}
use Rattle.rz_core.specs.declared.fault.Fault.{Fault}
use Rattle.rz_core.specs.declared.fault.Mark.{Mark}
use Rattle.rz_core.specs.declared.resource.Resource.{Resource}
use Rattle.rz_stmt_items.specs.Compile.{Compile}
use Rattle.rz_lex.specs.declared.token.Token.{Token}
use Rattle.rz_core.specs.declared.stop.Halt.{Halt}
use Rattle.rz_pre.specs.declared.condition.Tool.{Tool}
use Rattle.rz_pre.specs.declared.condition.Tool.TheVariants as tools
use Rattle.rz_stmt.specs.Grammar.{mark_of, Compiles, Data, Declares, Empty, Lists, Parses, Statement}
use Rattle.rz_types_table.specs.Table.{Declaration}
use Rattle.rz_tools_values.specs.Around.{Around}
use Rattle.rz_tools_work.specs.Lists.{list_after}
use Rattle.rz_tools_work.specs.Put.{list_with}
use Rattle.rz_tools_work.specs.ToolWords.{numbered}
use Rattle.rz_tools_work.specs.Work.{declared, with_list, Work}
use Rattle.rz_stmt_data.specs.Raw.{Raw}
use Rattle.rz_core.specs.Stop.{◌>>=◌}
use Rattle.rz_tools_resource.specs.Raw.{resource_of}
use Rattle.rz_tools_resource.specs.Resource.{IsResource}

-- what a tool does of a statement: DeRez declares types, and nothing else
abbrev pub done_by : Tool → Statement → Statement
done_by tools.Rez statement = statement
done_by tools.DeRez Empty = Empty
done_by tools.DeRez (Data raw) = Empty
done_by tools.DeRez (Lists one) = Empty
done_by tools.DeRez (Compiles one) = Empty
done_by tools.DeRez (Declares one) = Declares one

-- the list after a `data` statement on this line
abbrev pub list_behind : Around → Mark → List Resource → Raw → Result (List Resource) Fault
list_behind around mark list raw = resource_of around mark raw >>= list_with mark around.setting.over list

-- the list after a `resource` statement on this line
abbrev pub IsListBehind : Around → Mark → List Declaration → List Resource → Compile → Result (List Resource) Fault → Type 0
IsListBehind around mark types list one =
    Then (IsResource around mark types one) (λ resource answer. answer ≡ list_with mark around.setting.over list resource)

-- what is made after a statement on this line
abbrev pub IsBehind : Around → Mark → Work → Statement → Result Work Fault → Type 0
IsBehind around mark work Empty = λ answer. answer ≡ Ok work
IsBehind around mark work (Data raw) = λ answer. answer ≡ with_list work (list_behind around mark work.list raw)
IsBehind around mark work (Lists one) = λ answer. answer ≡ with_list work (list_after around mark work.list one)
IsBehind around mark work (Compiles one) = λ answer.
    (list : Result (List Resource) Fault) × IsListBehind around mark work.types work.list one list × (answer ≡ with_list work list)
IsBehind around mark work (Declares one) = λ answer. answer ≡ declared around.setting mark work one

-- a fault, and what was warned of before it
pub record WarnedFault : Type 0 where
  pub fault : Fault
  pub warnings : List Fault

-- an answer whose fault comes after these warnings
abbrev pub WithWarnings : {X : Type 0} → List Fault → (Result X Fault → Type 0) → Result X WarnedFault → Type 0
WithWarnings warnings answers (Ok value) = answers (Ok value)
WithWarnings warnings answers (Err stopped) = answers (Err stopped.fault) × (stopped.warnings ≡ warnings)

abbrev pub Steps : Around → Work → List Token → Result Work WarnedFault → Type 0
Steps around work tokens =
    WithWarnings work.warnings (Then (Parses tokens) (λ statement. IsBehind around (mark_of tokens) work (done_by around.setting.tool statement)))

-- what is made after all statements, or the first fault; in each the words `rez` and `derez` are numbers
abbrev pub Means : Around → Work → List (List Token) → Result Work WarnedFault → Type 0
Means around work [] answer = answer ≡ Ok work
Means around work (tokens ∷ statements) answer =
    Then (Steps around work (map (numbered around.setting.tool) tokens)) (λ next. Means around next statements) answer

-- What the code does at one statement.

-- what a call gave, with the work that it left, or its fault after the warnings that are left
abbrev pub with_work : Work → Result (Unit {0}) (Halt Fault) → Result Work (Halt WarnedFault)
with_work work result = left work (refusal_seen (λ fault. record { fault = fault; warnings = work.warnings }) result)
