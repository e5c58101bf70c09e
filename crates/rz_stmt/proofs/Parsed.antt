-- A statement over lists, a `resource` statement, a `type` statement or none, as a statement.
use Rattle.std.proofs.Common.{◌≡◌, ◌<◌, true, false, inl, inr, List, [], ◌∷◌, get_or, length, Ok, Err, arith, refl, sym, ap, ◌∙◌}
use Rattle.std.specs.declared.result.Result.{Result}
use Rattle.rz_core.specs.declared.fault.Fault.{Fault}
use Rattle.rz_core.specs.declared.fault.Mark.{Mark}
use Rattle.rz_core.specs.declared.stop.Stop.{Stop}
use Rattle.rz_core.specs.declared.stop.Stop.TheVariants.{NoMemory, Refused}
use Rattle.rz_lex.specs.declared.token.Token.{Token}
use Rattle.rz_core.specs.Stop.{◌>>=◌, Gives, seen, Meets}
use Rattle.rz_stmt_type.specs.Constants.{declare_of, declared, Declare}
use Rattle.rz_stmt_type.specs.Declare.{IsDeclare}
use Rattle.rz_stmt_fields.specs.Form.{DeclareForm}
use Rattle.rz_stmt_type.specs.declared.constants.TypeStmt.{TypeStmt}
use Rattle.rz_stmt.specs.Grammar.{alone, data_statement, list_statement, mark_of, none, resource_statement, statement, statement_of, syntax, type_statement, Compiled, Declared, Declares, IsStatement, Listed, Parses, Statement}
use Rattle.rz_stmt_brackets.specs.Limit.{is_within_limits}
use Rattle.rz_stmt_data.specs.Raw.{IsRaw, Raw}
use Rattle.rz_stmt_items.specs.Compile.{Compile, IsCompile}
use Rattle.rz_stmt_lists.specs.Lists.{IsListed, ListForm}
use Rattle.rz_stmt_brackets.specs.Statements.{is_empty}
use Rattle.rz_stmt.specs.declared.grammar.Stmt.{Stmt}

abbrev declare_fault : Mark → DeclareForm → Result Statement Fault
declare_fault mark form = declared mark form >>= (λ made. Ok (Declares made))

-- what was answered, as another answer
pub gave_so : (P Q : Result Statement Fault → Type 0) → ((answer : Result Statement Fault) → P answer → Q answer) → (result : Result Stmt (Stop Fault)) → Meets (seen statement_of result) P → Meets (seen statement_of result) Q
gave_so P Q so (Ok one) gave = so (Ok (statement_of one)) gave
gave_so P Q so (Err (Refused fault)) gave = so (Err fault) gave
gave_so P Q so (Err NoMemory) gave = tt

module _ (mark : Mark) (tokens : List Token) (same : mark ≡ mark_of tokens) (within : is_within_limits tokens ≡ true) (some : is_empty tokens ≡ false)
    (no_raw : (raw : Raw) → IsRaw tokens raw → ⊥) where
  declares : ((one : ListForm) → IsListed tokens one → ⊥) → ((one : Compile) → IsCompile tokens one → ⊥) → (answer : Result Statement Fault) → Declared mark tokens answer
      → Parses tokens answer
  declares no_list no_compile answer (inl (form, is, says)) = statement within (type_statement form is (says ∙ ap (λ (m : Mark). declare_fault m form) same))
  declares no_list no_compile answer (inr (never, says)) = none within nothing (says ∙ ap (λ (m : Mark). Err (syntax m)) same)
    where
      nothing : (other : Result Statement Fault) → IsStatement tokens other → ⊥
      nothing other (alone empty tells) = let wrong : true ≡ false = sym empty ∙ some in cc
      nothing other (data_statement raw is tells) = no_raw raw is
      nothing other (list_statement one is tells) = no_list one is
      nothing other (resource_statement one is tells) = no_compile one is
      nothing other (type_statement form is tells) = never form is

  compiles : ((one : ListForm) → IsListed tokens one → ⊥) → (answer : Result Statement Fault) → Compiled mark tokens answer → Parses tokens answer
  compiles no_list answer (inl (one, is, says)) = statement within (resource_statement one is says)
  compiles no_list answer (inr (never, declared)) = declares no_list never answer declared

  lists : (answer : Result Statement Fault) → Listed mark tokens answer → Parses tokens answer
  lists answer (inl (one, is, says)) = statement within (list_statement one is says)
  lists answer (inr (never, compiled)) = compiles never answer compiled

  pub parsed : (result : Result Stmt (Stop Fault)) → Meets (seen statement_of result) (Listed mark tokens) → Meets (seen statement_of result) (Parses tokens)
  parsed = gave_so (Listed mark tokens) (Parses tokens) lists

pub first_mark : (tokens : List Token) (default : Token) → 0 < length tokens → (get_or tokens 0 default).mark ≡ mark_of tokens
first_mark [] default some = absurd (omega (arith, some))
first_mark (token ∷ tokens) default some = refl

-- the values of a `type` statement, or their fault, as a statement
pub valued : (mark : Mark) (tokens : List Token) (form : DeclareForm) → IsDeclare tokens form → (stmt : TypeStmt) → declared mark form ≡ Ok (declare_of stmt)
    → Declared mark tokens (Ok (Declares (declare_of stmt)))
valued mark tokens form is stmt gives = inl (form, is, ap (λ (r : Result Declare Fault). r >>= (λ made. Ok (Declares made))) (sym gives))

pub faulty : (mark : Mark) (tokens : List Token) (form : DeclareForm) → IsDeclare tokens form → (stop : Stop Fault)
    → Gives {X = Declare} (declared mark form) (Err stop) → Meets (seen statement_of (Err stop)) (Declared mark tokens)
faulty mark tokens form is (Refused fault) gives = inl (form, is, ap (λ (r : Result Declare Fault). r >>= (λ made. Ok (Declares made))) (sym gives))
faulty mark tokens form is NoMemory gives = tt
