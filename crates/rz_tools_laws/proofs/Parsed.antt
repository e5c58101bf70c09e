-- Statements that mean something end, and those of tokens one after the other mean what the first do and then the others.
use Rattle.std.proofs.Common.{◌≡◌, inl, inr, ℕ, true, false, List, [], ◌∷◌, ◌++◌, map, Option, Some, None, Ok, refl, sym, subst, ◌∙◌}
use Rattle.std.specs.List.{AllByRecursion}
use Rattle.std.specs.declared.result.Result.{Result}
use Rattle.rz_core.proofs.Once.{ok_or_err, same_ok}
use Rattle.rz_core.specs.declared.resource.Word.{Word}
use Rattle.rz_lex.specs.declared.token.Shape.{Shape}
use Rattle.rz_lex.specs.declared.token.Shape.TheVariants as shapes
use Rattle.rz_lex.specs.declared.token.Token.{Token}
use Rattle.rz_pre.specs.declared.condition.Tool.{Tool}
use Rattle.rz_stmt.specs.Grammar.{Parses, Statement}
use Rattle.rz_stmt_brackets.specs.Statements.{has_end, is_semicolon, open_behind}
use Rattle.rz_tools.specs.Step.{Means, WarnedFault}
use Rattle.rz_tools_values.specs.Around.{Around}
use Rattle.rz_tools_work.specs.ToolWords.{number_in, numbered, shape_or}
use Rattle.rz_tools_work.specs.Work.{Work}

-- A number in place of a word ends nothing, and opens and closes nothing.

word_ends : (word : Word) (number : Option ℕ) → is_semicolon (shape_or (shapes.Word word) number) ≡ false
word_ends word None = refl
word_ends word (Some number) = refl

word_opens : (word : Word) (number : Option ℕ) (count : ℕ) → open_behind (shape_or (shapes.Word word) number) count ≡ count
word_opens word None count = refl
word_opens word (Some number) count = refl

module _ (tool : Tool) where
  same_semicolon : (shape : Shape) → is_semicolon (shape_or shape (number_in tool shape)) ≡ is_semicolon shape
  same_semicolon (shapes.Word word) = word_ends word (number_in tool (shapes.Word word))
  same_semicolon _ = refl

  same_open : (shape : Shape) (count : ℕ) → open_behind (shape_or shape (number_in tool shape)) count ≡ open_behind shape count
  same_open (shapes.Word word) count = word_opens word (number_in tool (shapes.Word word)) count
  same_open _ count = refl

  numbered_end : (tokens : List Token) (count : ℕ) → has_end count (map (numbered tool) tokens) ≡ has_end count tokens
  numbered_end [] count = refl
  numbered_end (token ∷ tokens) count =
      rw (same_semicolon token.shape, same_open token.shape count, numbered_end tokens (open_behind token.shape count)) refl

-- what a statement is parsed as, where it means something
abbrev pub EndsParsed : Type 0
EndsParsed = (tokens : List Token) (statement : Statement) → Parses tokens (Ok statement) → has_end 0 tokens ≡ true

module _ (ended : EndsParsed) (around : Around) where
  pub meant_end : (work after : Work) (statements : List (List Token)) → Means around work statements (Ok after)
      → AllByRecursion (λ tokens. has_end 0 tokens ≡ true) statements
  meant_end work after [] means = tt
  meant_end work after (tokens ∷ statements) (inl (next, inl (statement, parses, behind), means)) =
      (sym (numbered_end around.setting.tool tokens 0) ∙ ended (map (numbered around.setting.tool) tokens) statement parses, meant_end next after statements means)
  meant_end work after (tokens ∷ statements) (inl (next, inr (fault, parses, is), means)) = absurd (ok_or_err next fault is)
  meant_end work after (tokens ∷ statements) (inr (stopped, steps, is)) = absurd (ok_or_err after stopped is)

module _ (around : Around) where
  pub means_on : (work mid : Work) (statements others : List (List Token)) (answer : Result Work WarnedFault) → Means around work statements (Ok mid)
      → Means around mid others answer → Means around work (statements ++ others) answer
  means_on work mid [] others answer means more = subst (λ (w : Work). Means around w others answer) (same_ok {F = WarnedFault} mid work means) more
  means_on work mid (tokens ∷ statements) others answer (inl (next, steps, means)) more = inl (next, steps, means_on next mid statements others answer means more)
  means_on work mid (tokens ∷ statements) others answer (inr (stopped, steps, is)) more = absurd (ok_or_err mid stopped is)
