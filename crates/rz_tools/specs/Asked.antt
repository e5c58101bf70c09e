-- Which files a command may read: those that its words name, those that its sources include, and those that their
-- statements name. (MPW Rez.)
use Rattle.std.specs.Prelude.{◌≡◌, ◌⊎◌, ℕ, true, List, ◌∷◌, ◌++◌, map, Ok}
use Rattle.rz_folder.specs.Folder.{Files}
use Rattle.rz_folder.specs.MayRead.{IsIt, IsOneOf}
use Rattle.rz_folder.specs.Names.{LooksFor}
use Rattle.rz_lex.specs.declared.token.Token.{Token}
use Rattle.rz_pre.specs.Program.{ProgramGoes, State}
use Rattle.rz_pre.specs.Reached.{IsReached}
use Rattle.rz_pre.specs.declared.condition.Tool.{Tool}
use Rattle.rz_pre.specs.declared.condition.Tool.TheVariants as tools
use Rattle.rz_pre.specs.declared.program.Def.{Def}
use Rattle.rz_stmt.specs.Grammar.{Compiles, Data, Declares, Empty, Lists, Parses, Statement}
use Rattle.rz_stmt.specs.Statements.{AreStatements}
use Rattle.rz_tools_args.specs.Command.{Asked, IsCommand, Item}
use Rattle.rz_tools_args.specs.declared.name.CommandName.{CommandName}
use Rattle.rz_tools_args.specs.declared.name.CommandName.TheVariants as names
use Rattle.rz_tools_output.specs.Bridge.{bridge_asked, BridgeAsks}
use Rattle.rz_tools_output.specs.Det.{det_asked}
use Rattle.rz_tools_resource.specs.Asked.{ItemsAsk}
use Rattle.rz_tools_values.specs.Asked.{TextsAsk}
use Rattle.rz_tools_work.specs.Asked.{ListAsks}
use Rattle.rz_tools_work.specs.ToolWords.{numbered}
use Rattle.rz_tools.specs.DeRez.{derez_asked, DeRezAsked}
use Rattle.rz_tools.specs.Restring.{restring_asked, RestringAsked}
use Rattle.rz_tools.specs.Rez.{rez_asked, RezAsked}
use Rattle.rz_tools.specs.Step.{done_by}
use Rattle.rz_tools.specs.Strings.{strings_asked, StringsAsked}
use Rattle.rz_tools.specs.Types.{TypesAsked}

-- Statements.

-- the statement names the file
abbrev pub StatementAsks : Statement → List ℕ → Type 0
StatementAsks Empty own = ⊥
StatementAsks (Data raw) own = TextsAsk raw.texts own
StatementAsks (Lists one) own = ListAsks one own
StatementAsks (Compiles one) own = ItemsAsk one.items own
StatementAsks (Declares one) own = ⊥

-- the tokens are a statement that the tool does, and it names the file
abbrev pub ParsedAsk : Tool → List Token → List ℕ → Type 0
ParsedAsk tool tokens own = (statement : Statement) × Parses tokens (Ok statement) × StatementAsks (done_by tool statement) own

-- one of the statements that the tokens are names it; in each the words `rez` and `derez` are numbers
abbrev pub AnyAsks : Tool → List Token → List ℕ → Type 0
AnyAsks tool tokens own =
    (before : List (List Token)) × (one : List Token) × (after : List (List Token))
    × AreStatements tokens (before ++ one ∷ after) × ParsedAsk tool (map (numbered tool) one) own

-- Sources.

-- The sources of these names and what they include; and, where these are a program, what is asked for after it.
abbrev pub SourcesAsk : Tool → List (List ℕ) → List (List ℕ) → List Def → (List Token → List ℕ → Type 0) → Files → List ℕ → Type 0
SourcesAsk tool sources paths defs AskedAfter files name =
    IsReached paths files (IsOneOf sources) name
    ⊎ ((program : State) × ProgramGoes files tool sources paths defs (Ok program) × AskedAfter program.tokens name)

-- the type files, what they include, and the file of templates; no statement that DeRez does names a file
abbrev pub TypesAsk : TypesAsked → Files → List ℕ → Type 0
TypesAsk asked = SourcesAsk tools.DeRez asked.files asked.paths asked.defs (λ tokens. IsIt asked.tmpl)

-- Commands.

-- the file of templates, with `-a` the file of the output's name, and the files that the statements name
abbrev pub RezAsksAfter : RezAsked → List Token → List ℕ → Type 0
RezAsksAfter asked tokens name =
    IsIt asked.tmpl name ⊎ ((asked.append ≡ true) × (name ≡ asked.target.name)) ⊎ LooksFor asked.searches (AnyAsks tools.Rez tokens) name

abbrev pub RezAsks : RezAsked → Files → List ℕ → Type 0
RezAsks asked = SourcesAsk tools.Rez asked.files asked.paths asked.defs (RezAsksAfter asked)

-- the fork, and what the type files ask for
abbrev pub DeRezAsks : DeRezAsked → Files → List ℕ → Type 0
DeRezAsks asked files name = TypesAsk asked.types files name ⊎ (name ≡ asked.file)

abbrev pub StringsAsk : StringsAsked → Files → List ℕ → Type 0
StringsAsk asked files name = TypesAsk asked.types files name ⊎ (name ≡ asked.file)

-- the fork and the catalogue, and what the type files ask for
abbrev pub RestringAsksAfter : RestringAsked → List ℕ → Type 0
RestringAsksAfter asked name = (name ≡ asked.file) ⊎ (name ≡ asked.catalogue)

abbrev pub RestringAsks : RestringAsked → Files → List ℕ → Type 0
RestringAsks asked files name = TypesAsk asked.types files name ⊎ RestringAsksAfter asked name

-- which files a command of these items may read; each command is one case
abbrev pub CommandAsks : CommandName → List Item → Files → List ℕ → Type 0
CommandAsks names.Rez items = RezAsks (rez_asked items)
CommandAsks names.DeRez items = DeRezAsks (derez_asked items)
CommandAsks names.Bridge items = λ files. BridgeAsks (bridge_asked items)
CommandAsks names.Det items = λ files name. name ≡ (det_asked items).file
CommandAsks names.List items = λ files name. name ≡ (det_asked items).file
CommandAsks names.Strings items = StringsAsk (strings_asked items)
CommandAsks names.Restring items = RestringAsks (restring_asked items)
CommandAsks names.Sample items = λ files name. ⊥
CommandAsks names.Help items = λ files name. ⊥
CommandAsks names.Version items = λ files name. ⊥

-- which files the words may read: those of the command that they are
abbrev pub WordsAsk : List (List ℕ) → Files → List ℕ → Type 0
WordsAsk words files name = (asked : Asked) × IsCommand words asked × CommandAsks asked.name asked.items files name
