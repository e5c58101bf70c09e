-- Lines in groups: each conditional with its parts, of which one is read. (MPW Rez.)
use Rattle.std.specs.Prelude.{◌≡◌, Bool, true, false, ◌&&◌, ◌||◌, not, List, [], ◌∷◌, Option, Some, None, Ok, Err}
use Rattle.std.specs.declared.result.Result.{Result}
use Rattle.rz_core.specs.declared.fault.Fault.{Fault}
use Rattle.rz_core.specs.declared.fault.Mark.{Mark}
use Rattle.rz_lex.specs.declared.raw_line.RawLine.{RawLine}
use Rattle.rz_pre_source.specs.Directive.{directive_of}
use Rattle.rz_pre_source.specs.declared.directive.Directive.{Directive}
use Rattle.rz_pre_source.specs.declared.directive.Directive.TheVariants as directives
use Rattle.rz_core.specs.Answers.{Then}
use Rattle.rz_pre.specs.Line.{part_where, Does}
use Rattle.rz_pre.specs.Program.{Includes, LineGoes, State, WithFiles}
use Rattle.rz_pre.specs.declared.program.Failure.{Failure}
use Rattle.rz_pre.specs.declared.act.Act.{Act}
use Rattle.rz_pre.specs.declared.act.Act.TheVariants.{Begin, Turn}
use Rattle.rz_pre.specs.declared.condition.Tool.{Tool}
use Rattle.rz_pre.specs.declared.conditional.Open.{Open}
use Rattle.rz_pre.specs.declared.conditional.Part.{Part}
use Rattle.rz_pre.specs.declared.conditional.Part.TheVariants.{Waiting}

mutual
  -- nothing; a line that is no directive of a conditional, before a group; or a conditional, before a group
  pub data Group : Type 0 where
    Done : Group
    Line : RawLine → Group → Group
    Choice : (test : RawLine) → (first : Group) → (others : Others) → (behind : Group) → Group

  -- what stands after the first part: the `#endif`; `#else`, its part and the `#endif`; or `#elif`, its part and what
  -- stands after that
  pub data Others : Type 0 where
    End : RawLine → Others
    Else : RawLine → Group → RawLine → Others
    Elif : (test : RawLine) → (body : Group) → (others : Others) → Others

abbrev mutual
  -- the lines as they stand, before these
  pub lines_of : Group → List RawLine → List RawLine
  lines_of Done lines = lines
  lines_of (Line line group) lines = line ∷ lines_of group lines
  lines_of (Choice test first others behind) lines = test ∷ lines_of first (lines_of_others others (lines_of behind lines))

  pub lines_of_others : Others → List RawLine → List RawLine
  lines_of_others (End last) lines = last ∷ lines
  lines_of_others (Else line body last) lines = line ∷ lines_of body (last ∷ lines)
  lines_of_others (Elif test body others) lines = test ∷ lines_of body (lines_of_others others lines)

-- the same without the `#endif`, where the file ends
abbrev pub lines_unclosed : Others → List RawLine
lines_unclosed (End last) = []
lines_unclosed (Else line body last) = line ∷ lines_of body []
lines_unclosed (Elif test body others) = test ∷ lines_of body (lines_unclosed others)

-- Each line is in its place by the word after its `#`.

abbrev pub kind : RawLine → Option Directive
kind line = directive_of line.bytes

abbrev pub is_opening : Option Directive → Bool
is_opening (Some directives.If) = true
is_opening (Some directives.Ifdef) = true
is_opening (Some directives.Ifndef) = true
is_opening directive = false

abbrev pub is_elif : Option Directive → Bool
is_elif (Some directives.Elif) = true
is_elif directive = false

abbrev pub is_else : Option Directive → Bool
is_else (Some directives.Else) = true
is_else directive = false

abbrev pub is_endif : Option Directive → Bool
is_endif (Some directives.Endif) = true
is_endif directive = false

-- no directive of a conditional
abbrev pub is_plain : Option Directive → Bool
is_plain directive = not (is_opening directive || is_elif directive || is_else directive || is_endif directive)

abbrev mutual
  -- each line stands where its directive belongs
  pub is_group : Group → Bool
  is_group Done = true
  is_group (Line line group) = is_plain (kind line) && is_group group
  is_group (Choice test first others behind) = is_opening (kind test) && is_group first && are_others others && is_group behind

  pub are_others : Others → Bool
  are_others (End last) = is_endif (kind last)
  are_others (Else line body last) = is_else (kind line) && is_group body && is_endif (kind last)
  are_others (Elif test body others) = is_elif (kind test) && is_group body && are_others others

-- What the chosen parts mean.

-- a conditional in which a later part may be chosen; where it began makes no difference to the lines in it
abbrev pub waiting : Mark → Open
waiting mark = record { mark = mark; part = Waiting; is_last = false }

-- whether the test of a line holds, or its fault: it holds where the line goes on with a part that is chosen
abbrev pub Holds : (Result Act Fault → Type 0) → (Part → Act) → Result Bool Fault → Type 0
Holds does act (Ok holds) = does (Ok (act (part_where holds)))
Holds does act (Err fault) = does (Err fault)

-- the part where the test holds, and otherwise the others
abbrev pub Chooses : (Result State Failure → Type 0) → (Result State Failure → Type 0) → Bool → Result State Failure → Type 0
Chooses part others true = part
Chooses part others false = others

abbrev mutual
  -- a line does what it does outside of conditionals; of a conditional the first part is read whose test holds, and
  -- nothing of the others
  pub GroupGoes : Includes → Tool → Group → State → Result State Failure → Type 0
  GroupGoes Reads tool Done s answer = answer ≡ Ok s
  GroupGoes Reads tool (Line line group) s answer =
      Then (LineGoes Reads tool line [] s) (λ next. GroupGoes Reads tool group next.1) answer
  GroupGoes Reads tool (Choice test first others behind) s answer =
      Then (Then (WithFiles s.files (Holds (Does s.live tool None test) (λ part. Begin part)))
      (Chooses (GroupGoes Reads tool first s) (OthersGo Reads tool others s)))
      (λ after. GroupGoes Reads tool behind after) answer

  pub OthersGo : Includes → Tool → Others → State → Result State Failure → Type 0
  OthersGo Reads tool (End last) s answer = answer ≡ Ok s
  OthersGo Reads tool (Else line body last) s answer = GroupGoes Reads tool body s answer
  OthersGo Reads tool (Elif test body others) s answer =
      Then (WithFiles s.files (Holds (Does s.live tool (Some (waiting test.mark)) test) (λ part. Turn part false)))
      (Chooses (GroupGoes Reads tool body s) (OthersGo Reads tool others s)) answer
