-- Statements, each with the tokens that are it, or the first fault. (MPW Rez.)
use Rattle.std.specs.Prelude.{◌≡◌, ◌⊎◌, ℕ, true, false, Some, List, [], ◌∷◌, Ok, Err}
use Rattle.std.specs.declared.result.Result.{Result}
use Rattle.rz_core.specs.Stop.{◌>>=◌}
use Rattle.rz_core.specs.declared.fault.Fault.{Fault}
use Rattle.rz_core.specs.declared.fault.Kept.TheVariants.{Nothing}
use Rattle.rz_core.specs.declared.fault.Mark.{Mark}
use Rattle.rz_lex.specs.declared.token.Token.{Token}
use Rattle.rz_stmt_type.specs.Constants.{declare_of, declared, Declare}
use Rattle.rz_stmt_type.specs.Declare.{IsDeclare}
use Rattle.rz_stmt_fields.specs.Form.{DeclareForm}
use Rattle.rz_stmt_type.specs.Shaped.{IsShapedMade}
use Rattle.rz_stmt_items.specs.Compile.{compile_of, Compile, IsCompile}
use Rattle.rz_stmt_items.specs.Places.{AreItemsWithin}
use Rattle.rz_stmt_lists.specs.Lists.{list_of, IsListed, ListForm}
use Rattle.rz_stmt_brackets.specs.Limit.{is_within_limits}
use Rattle.rz_stmt_data.specs.Raw.{raw_of, IsRaw, Raw}
use Rattle.rz_stmt_brackets.specs.Statements.{is_empty}
use Rattle.rz_stmt.specs.declared.grammar.Stmt.{Stmt}
use Rattle.rz_stmt.specs.declared.grammar.Stmt.TheVariants as forms

pub data Statement : Type 0 where
  Empty : Statement
  Data : (raw : Raw) → Statement
  Lists : (one : ListForm) → Statement
  Compiles : (one : Compile) → Statement
  Declares : (declare : Declare) → Statement

abbrev pub statement_of : Stmt → Statement
statement_of forms.Empty = Empty
statement_of (forms.Raw raw) = Data (raw_of raw)
statement_of (forms.List stmt) = Lists (list_of stmt)
statement_of (forms.Compile stmt) = Compiles (compile_of stmt)
statement_of (forms.Declare stmt) = Declares (declare_of stmt)

-- 221 and 201
abbrev pub too_deep : Mark → Fault
too_deep mark = record { number = 221; mark = Some mark; kept = Nothing }

abbrev pub syntax : Mark → Fault
syntax mark = record { number = 201; mark = Some mark; kept = Nothing }

-- the mark of a statement is that of its first token
abbrev pub mark_of : List Token → Mark
mark_of [] = record { file = 0; line = 0 }
mark_of (first ∷ rest) = first.mark

-- the tokens are a statement: it, or the first fault of its constants
pub data IsStatement (tokens : List Token) (answer : Result Statement Fault) : Type 0 where
  alone : is_empty tokens ≡ true → answer ≡ Ok Empty → IsStatement tokens answer
  data_statement : (one : Raw) → IsRaw tokens one → answer ≡ Ok (Data one) → IsStatement tokens answer
  list_statement : (one : ListForm) → IsListed tokens one → answer ≡ Ok (Lists one) → IsStatement tokens answer
  resource_statement : (one : Compile) → IsCompile tokens one → answer ≡ Ok (Compiles one) → IsStatement tokens answer
  type_statement : (form : DeclareForm) → IsDeclare tokens form → answer ≡ (declared (mark_of tokens) form >>= (λ made. Ok (Declares made))) → IsStatement tokens answer

-- the statement that tokens within the limits are, 221 for tokens beyond them, or 201 for tokens that are none
pub data Parses (tokens : List Token) (answer : Result Statement Fault) : Type 0 where
  beyond : is_within_limits tokens ≡ false → answer ≡ Err (too_deep (mark_of tokens)) → Parses tokens answer
  statement : is_within_limits tokens ≡ true → IsStatement tokens answer → Parses tokens answer
  none : is_within_limits tokens ≡ true → ((other : Result Statement Fault) → IsStatement tokens other → ⊥) → answer ≡ Err (syntax (mark_of tokens)) → Parses tokens answer

-- the `type` statement that the tokens are, or else 201
abbrev pub Declared : Mark → List Token → Result Statement Fault → Type 0
Declared mark tokens answer =
    ((form : DeclareForm) × IsDeclare tokens form × (answer ≡ (declared mark form >>= (λ made. Ok (Declares made)))))
    ⊎ (((form : DeclareForm) → IsDeclare tokens form → ⊥) × (answer ≡ Err (syntax mark)))

-- the `resource` statement that the tokens are, or else the `type` statement, or 201
abbrev pub Compiled : Mark → List Token → Result Statement Fault → Type 0
Compiled mark tokens answer =
    ((one : Compile) × IsCompile tokens one × (answer ≡ Ok (Compiles one)))
    ⊎ (((one : Compile) → IsCompile tokens one → ⊥) × Declared mark tokens answer)

-- the statement over lists of resources that the tokens are, or else the `resource` or `type` statement, or 201
abbrev pub Listed : Mark → List Token → Result Statement Fault → Type 0
Listed mark tokens answer =
    ((one : ListForm) × IsListed tokens one × (answer ≡ Ok (Lists one)))
    ⊎ (((one : ListForm) → IsListed tokens one → ⊥) × Compiled mark tokens answer)

-- the fields that it declares are well shaped; no other statement has any
abbrev pub IsShapedStatement : Statement → Type 0
IsShapedStatement Empty = Unit {0}
IsShapedStatement (Data raw) = Unit {0}
IsShapedStatement (Lists one) = Unit {0}
IsShapedStatement (Compiles one) = Unit {0}
IsShapedStatement (Declares declare) = IsShapedMade declare.made

-- the items of a `resource` statement stand in some of so many files; no other statement has any
abbrev pub IsPlacedStatement : ℕ → Statement → Type 0
IsPlacedStatement files Empty = Unit {0}
IsPlacedStatement files (Data raw) = Unit {0}
IsPlacedStatement files (Lists one) = Unit {0}
IsPlacedStatement files (Compiles one) = AreItemsWithin files one.items
IsPlacedStatement files (Declares declare) = Unit {0}
