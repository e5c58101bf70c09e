-- What a part of a program asks for, the whole asks for.
use Rattle.std.proofs.Common.{◌≡◌, ℕ, List, [], ◌∷◌, ◌++◌, map, Some, Ok, IfSome, inr, ap, subst, ◌∙◌}
use Rattle.rz_folder.proofs.Allowed.{may_read_these}
use Rattle.rz_folder.specs.MayRead.{MayRead, MayReadOf}
use Rattle.rz_folder.specs.OnlyReads.{OnlyReads}
use Rattle.rz_folder.specs.declared.folder.Folder.{Ghosts}
use Rattle.rz_folder.specs.Names.{LooksFor}
use Rattle.rz_lex.specs.declared.token.Token.{Token}
use Rattle.rz_pre.proofs.Going.{at_some}
use Rattle.rz_pre.specs.Program.{ProgramGoes}
use Rattle.rz_pre.specs.Reading.{OfProgram}
use Rattle.rz_pre.specs.declared.condition.Tool.{Tool}
use Rattle.rz_pre.specs.declared.program.Def.{Def}
use Rattle.rz_pre.specs.declared.program.Program.{Program}
use Rattle.rz_pre.specs.declared.condition.Tool.TheVariants as tools
use Rattle.rz_stmt.specs.Grammar.{Compiles, Data, Declares, Empty, Lists, Statement}
use Rattle.rz_stmt.specs.Next.{BeginsWith}
use Rattle.rz_stmt.specs.Statements.{AreStatements}
use Rattle.rz_tools_answer.specs.declared.made.Failing.{Failing}
use Rattle.rz_tools_work.specs.ToolWords.{numbered}
use Rattle.rz_tools.specs.Asked.{AnyAsks, ParsedAsk, SourcesAsk, StatementAsks}
use Rattle.rz_tools.specs.Sources.{Unsaid}
use Rattle.rz_tools.specs.Step.{done_by}

-- Statements, the first of which is given.

module _ (all : (tokens : List Token) → (statements : List (List Token)) × AreStatements tokens statements) where
  pub any_here : (tool : Tool) (here rest first : List Token) → ((statements : List (List Token)) → AreStatements here statements → BeginsWith (Some first) statements rest)
      → (own : List ℕ) → ParsedAsk tool (map (numbered tool) first) own → AnyAsks tool here own
  any_here tool here rest first begins own asks =
      let cut = all here in
      let parts = begins cut.0 cut.1 in
      ([], first, parts.0, subst (AreStatements here) parts.1 cut.1, asks)

  pub any_later : ((tokens : List Token) (statements others : List (List Token)) → AreStatements tokens statements → AreStatements tokens others → statements ≡ others)
      → (tool : Tool) (here rest first : List Token) → ((statements : List (List Token)) → AreStatements here statements → BeginsWith (Some first) statements rest)
      → (own : List ℕ) → AnyAsks tool rest own → AnyAsks tool here own
  any_later once tool here rest first begins own (before, one, after, are, asks) =
      let cut = all here in
      let parts = begins cut.0 cut.1 in
      let same = once rest parts.0 (before ++ one ∷ after) parts.2 are in
      (first ∷ before, one, after, subst (AreStatements here) (parts.1 ∙ ap (λ (l : List (List Token)). first ∷ l) same) cut.1, asks)

-- What DeRez does of a statement names no file.
no_type_asks : (statement : Statement) (own : List ℕ) → StatementAsks (done_by tools.DeRez statement) own → ⊥
no_type_asks Empty own asks = asks
no_type_asks (Data raw) own asks = asks
no_type_asks (Lists one) own asks = asks
no_type_asks (Compiles one) own asks = asks
no_type_asks (Declares one) own asks = asks

pub none_asked : (paths : List (List ℕ)) (tokens : List Token) (name : List ℕ) → LooksFor paths (AnyAsks tools.DeRez tokens) name → ⊥
none_asked paths tokens name (own, (before, one, after, are, (statement, parsed, asks)), is) = no_type_asks statement own asks

-- What sources ask for after their program, where that was read.
module _ {F : Type 0} (g : Ghosts F) (tool : Tool) (sources paths : List (List ℕ)) (defs : List Def) (AskedAfter : List Token → List ℕ → Type 0) where
  pub may_ask_after : {old new : F} {P : Type 0} (program : Program) → OnlyReads g old new P
      → IfSome (g.files old) (λ files. OfProgram {F = Failing} (Unsaid (ProgramGoes files tool sources paths defs)) (Ok program))
      → MayReadOf g old (SourcesAsk tool sources paths defs AskedAfter) → MayRead g new (AskedAfter program.tokens)
  may_ask_after {old} program reads goes may name is = reads.allowed name
      (may_read_these g (SourcesAsk tool sources paths defs AskedAfter) may (AskedAfter program.tokens) (λ files told name is.
      let found = at_some (g.files old) files told (λ files. OfProgram {F = Failing} (Unsaid (ProgramGoes files tool sources paths defs)) (Ok program)) goes in
      inr (found.0, found.2, subst (λ (tokens : List Token). AskedAfter tokens name) found.1.tokens is)) name is)
