-- All tokens are a statement, or have a fault.
use Rattle.std.proofs.Common.{◌≡◌, ◌⊎◌, inl, inr, true, List, Option, Ok, Err, refl}
use Rattle.std.proofs.Math.Decide.{map_dec}
use Rattle.std.specs.declared.result.Result.{Result}
use Rattle.rz_core.proofs.EveryCut.{is_true, known_of, one_of}
use Rattle.rz_core.proofs.Tests.{by_test}
use Rattle.rz_core.specs.Decided.{Decided}
use Rattle.rz_core.specs.Stop.{◌>>=◌}
use Rattle.rz_core.specs.declared.fault.Fault.{Fault}
use Rattle.rz_lex.specs.declared.token.Token.{Token}
use Rattle.rz_stmt_brackets.specs.Limit.{is_within_limits}
use Rattle.rz_stmt_brackets.specs.Statements.{is_empty}
use Rattle.rz_stmt_data.specs.Raw.{IsRaw, Raw}
use Rattle.rz_stmt_type.specs.Constants.{declared}
use Rattle.rz_stmt_type.specs.Declare.{IsDeclare}
use Rattle.rz_stmt_fields.specs.Form.{DeclareForm}
use Rattle.rz_stmt_items.specs.Compile.{Compile, IsCompile}
use Rattle.rz_stmt_lists.specs.Lists.{IsListed, ListForm}
use Rattle.rz_stmt.specs.Grammar.{alone, beyond, data_statement, list_statement, mark_of, none, resource_statement, statement, syntax, too_deep, type_statement, Compiles, Data, Declares, Empty, IsStatement, Lists, Parses, Statement}

abbrev HasStatement : List Token → Type 0
HasStatement tokens = (answer : Result Statement Fault) × IsStatement tokens answer

-- a `;` alone, or a statement of one of the kinds
abbrev IsOneOf : List Token → Type 0
IsOneOf tokens =
    (is_empty tokens ≡ true)
    ⊎ (((raw : Raw) × IsRaw tokens raw)
    ⊎ (((one : ListForm) × IsListed tokens one) ⊎ (((one : Compile) × IsCompile tokens one) ⊎ ((form : DeclareForm) × IsDeclare tokens form))))

module _ (raw : (tokens : List Token) → (answer : Option Raw) × Decided (IsRaw tokens) answer)
    (list : (tokens : List Token) → (answer : Option ListForm) × Decided (IsListed tokens) answer)
    (compile : (tokens : List Token) → (answer : Option Compile) × Decided (IsCompile tokens) answer)
    (declare : (tokens : List Token) → (answer : Option DeclareForm) × Decided (IsDeclare tokens) answer) where
  is_statement : (tokens : List Token) → Dec (HasStatement tokens)
  is_statement tokens =
      map_dec to from (one_of (is_true (is_empty tokens)) (one_of (known_of (IsRaw tokens) (raw tokens)) (one_of (known_of (IsListed tokens) (list tokens))
      (one_of (known_of (IsCompile tokens) (compile tokens)) (known_of (IsDeclare tokens) (declare tokens))))))
    where
      to : IsOneOf tokens → HasStatement tokens
      to (inl empty) = (Ok Empty, alone empty refl)
      to (inr (inl (one, is))) = (Ok (Data one), data_statement one is refl)
      to (inr (inr (inl (one, is)))) = (Ok (Lists one), list_statement one is refl)
      to (inr (inr (inr (inl (one, is))))) = (Ok (Compiles one), resource_statement one is refl)
      to (inr (inr (inr (inr (form, is))))) = (declared (mark_of tokens) form >>= (λ made. Ok (Declares made)), type_statement form is refl)

      from : HasStatement tokens → IsOneOf tokens
      from (answer, alone empty says) = inl empty
      from (answer, data_statement one is says) = inr (inl (one, is))
      from (answer, list_statement one is says) = inr (inr (inl (one, is)))
      from (answer, resource_statement one is says) = inr (inr (inr (inl (one, is))))
      from (answer, type_statement form is says) = inr (inr (inr (inr (form, is))))

  pub every_statement : (tokens : List Token) → (answer : Result Statement Fault) × Parses tokens answer
  every_statement tokens =
      by_test ((answer : Result Statement Fault) × Parses tokens answer) (is_within_limits tokens) (λ within. by within (is_statement tokens))
      (λ past. (Err (too_deep (mark_of tokens)), beyond past refl))
    where
      by : is_within_limits tokens ≡ true → Dec (HasStatement tokens) → (answer : Result Statement Fault) × Parses tokens answer
      by within (yes (answer, is)) = (answer, statement within is)
      by within (no never) = (Err (syntax (mark_of tokens)), none within (λ other is. never (other, is)) refl)
