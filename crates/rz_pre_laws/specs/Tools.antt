-- Programs in which no condition asks which tool reads them. (MPW Rez; MPW DeRez.)
use Rattle.std.specs.Prelude.{◌≡◌, ℕ, Bool, true, false, ◌||◌, List, [], ◌∷◌, Option, Some, None, unwrap_or, IfSome}
use Rattle.std.specs.List.{AllByRecursion}
use Rattle.rz_expr.specs.Keyword.{is_keyword}
use Rattle.rz_words.specs.declared.keyword.Keyword.TheVariants as keywords
use Rattle.rz_folder.specs.Folder.{Files}
use Rattle.rz_lex.specs.Cutting.{Cuts}
use Rattle.rz_lex.specs.declared.raw_line.RawLine.{RawLine}
use Rattle.rz_lex.specs.declared.token.Shape.{Shape}
use Rattle.rz_lex.specs.declared.token.Token.{Token}
use Rattle.rz_pre.specs.Condition.{Tells}
use Rattle.rz_pre.specs.Expanded.{ExpandInto}
use Rattle.rz_pre.specs.Line.{behind_first, is_kept, open_part}
use Rattle.rz_pre.specs.Live.{Live}
use Rattle.rz_pre.specs.Program.{start, state_after, with_file, State}
use Rattle.rz_pre.specs.declared.condition.Tool.{Tool}
use Rattle.rz_pre.specs.declared.conditional.Open.{Open}
use Rattle.rz_pre.specs.declared.conditional.Part.{Part}
use Rattle.rz_pre.specs.declared.conditional.Part.TheVariants.{Waiting}
use Rattle.rz_pre.specs.declared.program.Def.{Def}
use Rattle.rz_pre_source.specs.Directive.{behind_hash, directive_in, unblanked}
use Rattle.rz_pre_source.specs.declared.directive.Directive.{Directive}
use Rattle.rz_pre_source.specs.declared.directive.Directive.TheVariants as directives
use Rattle.rz_pre_laws.specs.Unfolding.{EachActs, Entry, Line, Opened, ProgramUnfolds}

-- the token is the word `rez` or `derez`, in whatever case
abbrev pub is_tool : Shape → Bool
is_tool shape = is_keyword keywords.Rez shape || is_keyword keywords.DeRez shape

-- none of the tokens is
abbrev pub NameNoTool : List Token → Type 0
NameNoTool tokens = AllByRecursion (λ token. is_tool token.shape ≡ false) tokens

-- a line asks a condition: an `#if` that is read, and an `#elif` that may be chosen
abbrev pub may_choose : Option Part → Bool
may_choose (Some Waiting) = true
may_choose part = false

abbrev pub asks : Option Open → Directive → Bool
asks around directives.If = is_kept around
asks around directives.Elif = may_choose (open_part around)
asks around directive = false

-- no such word is left in a condition once its questions are answered and its macros are replaced
abbrev pub ConditionNamesNoTool : Live → List Token → Type 0
ConditionNamesNoTool live tokens = (told out : List Token) → Tells live tokens told → ExpandInto live told out → NameNoTool out

-- nor in that of a line, where it asks one
abbrev pub LineAsksNoTool : Live → Option Open → RawLine → Type 0
LineAsksNoTool live around line =
    (text : List ℕ) (tokens : List Token) → behind_hash (unblanked line.bytes) ≡ Some text → asks around (directive_in (unblanked text)) ≡ true
    → Cuts line.mark text tokens → ConditionNamesNoTool live (behind_first tokens)

-- nor in those of the lines of entries, each under what is live after the entries before it
abbrev pub EachAsksNoTool : List Entry → State → Type 0
EachAsksNoTool [] s = Unit {0}
EachAsksNoTool (Opened name ∷ entries) s = EachAsksNoTool entries (with_file name s)
EachAsksNoTool (Line level around line act ∷ entries) s = LineAsksNoTool s.live around line × EachAsksNoTool entries (state_after act s)

-- nor in those of a program that is read to its end
abbrev pub AsksNoTool : Files → Tool → List (List ℕ) → List (List ℕ) → List Def → Type 0
AsksNoTool files tool names paths defs =
    (entries : List Entry) → ProgramUnfolds files tool names paths defs entries None → EachActs tool entries (start defs) → EachAsksNoTool entries (start defs)

-- No line that is read has such a word, whether it counts or not, nor has a definition of the words.

-- what is cut of a line is what stands after its `#`, or all of it
abbrev pub LineNamesNoTool : RawLine → Type 0
LineNamesNoTool line = (tokens : List Token) → Cuts line.mark (unwrap_or (behind_hash (unblanked line.bytes)) line.bytes) tokens → NameNoTool tokens

abbrev pub EachNamesNoTool : List Entry → Type 0
EachNamesNoTool [] = Unit {0}
EachNamesNoTool (Opened name ∷ entries) = EachNamesNoTool entries
EachNamesNoTool (Line level around line act ∷ entries) = LineNamesNoTool line × EachNamesNoTool entries

abbrev pub HaveNoToolTexts : List Def → Type 0
HaveNoToolTexts defs = AllByRecursion (λ (def : Def). IfSome def.text NameNoTool) defs

abbrev pub NamesNoTool : Files → Tool → List (List ℕ) → List (List ℕ) → List Def → Type 0
NamesNoTool files tool names paths defs =
    HaveNoToolTexts defs × ((entries : List Entry) → ProgramUnfolds files tool names paths defs entries None → EachNamesNoTool entries)
