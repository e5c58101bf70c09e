-- The tokens of a program are such as lines can be cut into.
use Rattle.std.proofs.Common.{ℕ, List, [], ◌∷◌, Option, Some, None, Ok, Err, refl, sym, subst}
use Rattle.std.specs.declared.result.Result.{Result}
use Rattle.rz_core.specs.declared.fault.Fault.{Fault}
use Rattle.rz_core.specs.declared.fault.Mark.{Mark}
use Rattle.rz_folder.specs.Folder.{Files}
use Rattle.rz_lex.specs.Cutting.{Cuts}
use Rattle.rz_lex.specs.Lexeme.{AreLexed}
use Rattle.rz_lex.specs.declared.raw_line.RawLine.{RawLine}
use Rattle.rz_lex.specs.declared.token.Token.{Token}
use Rattle.rz_pre.proofs.Lexing.{start_lexed, steps_lexed}
use Rattle.rz_pre.specs.Lexed.{HaveLexedTexts, IsLexed}
use Rattle.rz_pre.specs.Line.{Does}
use Rattle.rz_pre.specs.Program.{opens_after, start, state_after, with_file, ProgramGoes, State}
use Rattle.rz_pre.specs.declared.program.Failure.{Failure}
use Rattle.rz_pre.specs.Reading.{included_in}
use Rattle.rz_pre.specs.declared.act.Act.{Act}
use Rattle.rz_pre.specs.declared.condition.Tool.{Tool}
use Rattle.rz_pre.specs.declared.conditional.Open.{Open}
use Rattle.rz_pre.specs.declared.program.Def.{Def}
use Rattle.rz_pre_laws.specs.Unfolding.{behind_all, outcome, EachActs, Entry, Line, Opened}
use Rattle.rz_pre_laws.proofs.Unfolded.{all_names}

-- what was read so far is lexed, and so is what stands in place of each name
abbrev StateLexed : State → Type 0
StateLexed s = IsLexed s.live s.tokens

abbrev AnswerLexed : Result State Failure → Type 0
AnswerLexed (Ok s) = StateLexed s
AnswerLexed (Err failure) = Unit {0}

module _ (cut_lexed : (mark : Mark) (line : List ℕ) (tokens : List Token) → Cuts mark line tokens → AreLexed tokens) (tool : Tool) where
  -- after a line, in whatever conditional it stands
  line_lexed : (around : Option Open) (line : RawLine) (act : Act) (s : State) → Does s.live tool around line (Ok act) → StateLexed s → StateLexed (state_after act s)
  line_lexed None line act s does all =
      steps_lexed cut_lexed tool line [] s (included_in act) (opens_after line.mark act []) (state_after act s) (act, does, refl, refl, refl) all
  line_lexed (Some one) line act s does all =
      steps_lexed cut_lexed tool line (one ∷ []) s (included_in act) (opens_after line.mark act (one ∷ [])) (state_after act s) (act, does, refl, refl, refl) all

  entries_lexed : (entries : List Entry) (s : State) → EachActs tool entries s → StateLexed s → StateLexed (behind_all entries s)
  entries_lexed [] s each all = all
  entries_lexed (Opened name ∷ entries) s each all = entries_lexed entries (with_file name s) each all
  entries_lexed (Line level around line act ∷ entries) s each all =
      entries_lexed entries (state_after act s) each.1 (line_lexed around line act s each.0 all)

  outcome_lexed : (entries : List Entry) (fault : Option Fault) (s : State) → EachActs tool entries s → StateLexed s → AnswerLexed (outcome entries fault s)
  outcome_lexed entries None s each all = entries_lexed entries s each all
  outcome_lexed entries (Some fault) s each all = tt

pub program_lexed : ((mark : Mark) (line : List ℕ) (tokens : List Token) → Cuts mark line tokens → AreLexed tokens)
    → (files : Files) (tool : Tool) (names paths : List (List ℕ)) (defs : List Def) (state : State) → HaveLexedTexts defs
    → ProgramGoes files tool names paths defs (Ok state) → AreLexed state.tokens
program_lexed cut_lexed files tool names paths defs state lexed goes =
    let u = all_names tool files paths names (start defs) (Ok state) goes in
    let all : StateLexed state = subst AnswerLexed (sym u.is) (outcome_lexed cut_lexed tool u.entries u.fault (start defs) u.each (start_lexed defs (start defs) lexed refl)) in
    all.tokens_lexed
