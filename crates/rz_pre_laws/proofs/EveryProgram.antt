-- Each program has an answer.
use Rattle.std.proofs.Common.{◌≡◌, inl, inr, ℕ, zero, suc, List, [], ◌∷◌, ◌++◌, Option, Some, None, Ok, Err, refl, sym, ap, subst}
use Rattle.std.specs.Prelude.{◌⊎◌, length, option_map, reverse, IfOk}
use Rattle.std.specs.Str.{str_to_ascii_lowercase}
use Rattle.std.specs.declared.result.Result.{Result}
use Rattle.rz_core.proofs.Has.{Has}
use Rattle.rz_core.specs.Answers.{Then}
use Rattle.rz_core.specs.declared.fault.Fault.{Fault}
use Rattle.rz_core.specs.declared.fault.Mark.{Mark}
use Rattle.rz_folder.specs.Folder.{Files}
use Rattle.rz_lex.specs.Joined.{joined}
use Rattle.rz_lex.specs.Lines.{HasLines}
use Rattle.rz_lex.specs.declared.joined.Placed.{Placed}
use Rattle.rz_lex.specs.declared.raw_line.RawLine.{RawLine}
use Rattle.rz_folder.specs.Names.{file_of, missing_file, names_of, utf8_name}
use Rattle.rz_pre_source.specs.Source.{IsBadAt, IsTextOf}
use Rattle.rz_pre_laws.specs.Definitions.{definitions}
use Rattle.rz_pre.specs.Line.{Does}
use Rattle.rz_pre.specs.Live.{live_in, put, shapes_of, Live, Row}
use Rattle.rz_pre.specs.Program.{bad_text, fails, innermost, levels_below, open_if, opens_after, start, state_after, too_deep, with_file}
use Rattle.rz_pre.specs.Program.{Enters, Follows, HasText, IncludedGoes, Includes, LineGoes, LinesGo, NamedGoes, NamesGo}
use Rattle.rz_pre.specs.Program.{Opens, OpensAs, ProgramGoes, State, TextGoes, WithFiles}
use Rattle.rz_pre.specs.declared.act.Act.{Act}
use Rattle.rz_pre.specs.declared.act.Act.TheVariants as acts
use Rattle.rz_pre.specs.declared.condition.Tool.{Tool}
use Rattle.rz_pre.specs.declared.conditional.Open.{Open}
use Rattle.rz_pre.specs.declared.program.Def.{Def}
use Rattle.rz_pre_laws.proofs.LastOne.{all_rows}

-- An answer of whose value more holds.

abbrev HasWhere : {X F : Type 0} → (X → Type 0) → (Result X F → Type 0) → Type 0
HasWhere {X} {F} Holds answers = (answer : Result X F) × answers answer × IfOk answer Holds

is_where : {X F : Type 0} (Holds : X → Type 0) (answer : Result X F) → IfOk answer Holds → HasWhere Holds (λ given. given ≡ answer)
is_where Holds answer holds = (answer, refl, holds)

-- the next call has such an answer for each such value of the first one
where_then : {X Y F : Type 0} (First : X → Type 0) (Next : Y → Type 0) (first : Result X F → Type 0) (next : X → Result Y F → Type 0)
    → HasWhere First first → ((x : X) → First x → HasWhere Next (next x)) → HasWhere Next (Then first next)
where_then {X} {Y} {F} First Next first next (Ok x, is, holds) after =
    let found : HasWhere Next (next x) = after x holds in
    (found.0, inl (x, is, found.1), found.2)
where_then First Next first next (Err f, is, holds) after = (Err f, inr (f, is, refl), tt)

-- where any value of the first call will do
has_where : {X Y F : Type 0} (Next : Y → Type 0) (first : Result X F → Type 0) (next : X → Result Y F → Type 0)
    → Has first → ((x : X) → HasWhere Next (next x)) → HasWhere Next (Then first next)
has_where {X} {Y} {F} Next first next (Ok x, is) after =
    let found : HasWhere Next (next x) = after x in
    (found.0, inl (x, is, found.1), found.2)
has_where Next first next (Err f, is) after = (Err f, inr (f, is, refl), tt)

has_with_files : {X : Type 0} (files : List (List ℕ)) (answers : Result X Fault → Type 0) → Has answers → Has (WithFiles files answers)
has_with_files files answers (Ok value, is) = (Ok value, is)
has_with_files files answers (Err fault, is) = (Err (record { fault = fault; files = files }), (is, refl))

-- what is live is some rows, so each line does something
abbrev HasRows : State → Type 0
HasRows s = (rows : List Row) × (s.live ≡ live_in rows)

start_rows : (defs : List Def) → HasRows (start defs)
start_rows defs = (reverse (definitions defs []), all_rows defs [])

-- The laws of the crates below, and that each line does something.

abbrev pub EveryLineActs : Type 0
EveryLineActs = (rows : List Row) (tool : Tool) (around : Option Open) (line : RawLine) → Has (Does (live_in rows) tool around line)

abbrev pub EveryTextHasLines : Type 0
EveryTextHasLines = (file : ℕ) (text : List Placed) → (lines : List RawLine) × (ending : Option Fault) × HasLines file text lines ending

abbrev pub EverySourceIsRead : Type 0
EverySourceIsRead = (source : List ℕ) → ((text : List ℕ) × IsTextOf source text) ⊎ ((offset : ℕ) × IsBadAt source offset)

module _ (every_line : EveryLineActs) (every_text : EveryTextHasLines) (every_source : EverySourceIsRead) (tool : Tool) where
  does : (s : State) → HasRows s → (around : Option Open) (line : RawLine) → Has (Does s.live tool around line)
  does s kept around line = subst (λ (live : Live). Has (Does live tool around line)) (sym kept.1) (every_line kept.0 tool around line)

  abbrev Lands : List Open × State → Type 0
  Lands next = HasRows next.1

  module _ (Reads : Includes) (read : (name : List ℕ) (mark : Mark) (s : State) → HasRows s → HasWhere HasRows (Reads name mark s)) where
    follows : (mark : Mark) (act : Act) (opens : List Open) (s : State) → HasRows s → HasWhere Lands (Follows Reads mark act opens s)
    follows mark (acts.Include name) opens s kept = where_then HasRows Lands (Reads name mark s) _ (read name mark s kept) (λ after also. is_where Lands (Ok (opens, after)) also)
    follows mark (acts.Set word body) opens s kept =
        let name = str_to_ascii_lowercase word.bytes in
        let own = option_map shapes_of body in
        is_where Lands (Ok (opens, state_after (acts.Set word body) s)) ((name, own) ∷ kept.0, ap (λ (live : Live). put name own live) kept.1)
    follows mark acts.Nothing opens s kept = is_where Lands (Ok (opens, s)) kept
    follows mark (acts.Put tokens) opens s kept = is_where Lands (Ok (opens, state_after (acts.Put tokens) s)) kept
    follows mark (acts.Begin first) opens s kept = is_where Lands (Ok (opens_after mark (acts.Begin first) opens, s)) kept
    follows mark (acts.Turn next is_last) opens s kept = is_where Lands (Ok (opens_after mark (acts.Turn next is_last) opens, s)) kept
    follows mark acts.End opens s kept = is_where Lands (Ok (opens_after mark acts.End opens, s)) kept

    line_goes : (line : RawLine) (opens : List Open) (s : State) → HasRows s → HasWhere Lands (LineGoes Reads tool line opens s)
    line_goes line opens s kept = has_where Lands (WithFiles s.files (Does s.live tool (innermost opens) line)) _
        (has_with_files s.files (Does s.live tool (innermost opens) line) (does s kept (innermost opens) line)) (λ act. follows line.mark act opens s kept)

    lines_go : (lines : List RawLine) (ending : Option Fault) (opens : List Open) (s : State) → HasRows s → HasWhere HasRows (LinesGo Reads tool lines ending opens s)
    lines_go [] None [] s kept = is_where HasRows (Ok s) kept
    lines_go [] None (one ∷ opens) s kept = is_where HasRows (fails (open_if one) s) tt
    lines_go [] (Some fault) opens s kept = is_where HasRows (fails fault s) tt
    lines_go (line ∷ lines) ending opens s kept =
        where_then Lands HasRows (LineGoes Reads tool line opens s) _ (line_goes line opens s kept) (λ next also. lines_go lines ending next.0 next.1 also)

    text_goes : (file : ℕ) (text : List ℕ) (s : State) → HasRows s → HasWhere HasRows (TextGoes Reads tool file text s)
    text_goes file text s kept =
        let all = every_text file (joined 1 text) in
        let found = lines_go all.0 all.1 [] s kept in
        (found.0, (all.0, all.1, all.2, found.1), found.2)

  has_text : (file : ℕ) (source : List ℕ) → Has (HasText file source)
  has_text file source = by (every_source source)
    where
      by : ((text : List ℕ) × IsTextOf source text) ⊎ ((offset : ℕ) × IsBadAt source offset) → Has (HasText file source)
      by (inl good) = (Ok good.0, good.1)
      by (inr bad) = (Err (bad_text file bad.0), (bad.0, bad.1, refl))

  abbrev Opened : List ℕ × State → Type 0
  Opened opened = HasRows opened.1

  opens_as : (missing : Fault) (s : State) → HasRows s → (found : Option (List ℕ × List ℕ)) → HasWhere Opened (OpensAs missing s found)
  opens_as missing s kept None = is_where Opened (fails missing s) tt
  opens_as missing s kept (Some found) = has_where Opened (WithFiles (s.files ++ found.0 ∷ []) (HasText (length s.files) found.1)) _
      (has_with_files (s.files ++ found.0 ∷ []) (HasText (length s.files) found.1) (has_text (length s.files) found.1))
      (λ text. is_where Opened (Ok (text, with_file found.0 s)) kept)

  module _ (files : Files) (paths : List (List ℕ)) where
    opens : (names : List (List ℕ)) (missing : Fault) (s : State) → HasRows s → HasWhere Opened (Opens files names missing s)
    opens names missing s kept = opens_as missing s kept (file_of files names)

    included : (levels : ℕ) (name : List ℕ) (mark : Mark) (s : State) → HasRows s → HasWhere HasRows (IncludedGoes tool files paths levels name mark s)
    included zero name mark s kept = is_where HasRows (fails (too_deep mark) s) tt
    included (suc levels) name mark s kept = where_then Opened HasRows (Enters files paths (suc levels) name mark s) _
        (opens (names_of paths (utf8_name name)) (missing_file (Some mark) name) s kept)
        (λ opened also. text_goes (IncludedGoes tool files paths levels) (included levels) (length s.files) opened.0 opened.1 also)

    named : (name : List ℕ) (s : State) → HasRows s → HasWhere HasRows (NamedGoes tool files paths name s)
    named name s kept = where_then Opened HasRows (Opens files (name ∷ []) (missing_file None name) s) _ (opens (name ∷ []) (missing_file None name) s kept)
        (λ opened also. text_goes (IncludedGoes tool files paths levels_below) (included levels_below) (length s.files) opened.0 opened.1 also)

    names_go : (names : List (List ℕ)) (s : State) → HasRows s → HasWhere HasRows (NamesGo tool files paths names s)
    names_go [] s kept = is_where HasRows (Ok s) kept
    names_go (name ∷ names) s kept = where_then HasRows HasRows (NamedGoes tool files paths name s) _ (named name s kept) (λ after also. names_go names after also)

    pub every_program : (names : List (List ℕ)) (defs : List Def) → Has (ProgramGoes files tool names paths defs)
    every_program names defs =
        let found = names_go names (start defs) (start_rows defs) in
        (found.0, found.1)
