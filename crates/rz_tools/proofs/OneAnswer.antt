-- Words have one answer at most.
use Rattle.std.proofs.Common.{◌≡◌, inl, inr, ℕ, Bool, true, length, List, [], ◌∷◌, map, Option, Some, None, Ok, Err, sym, ap, subst, ◌∙◌}
use Rattle.std.specs.FinMap as finite
use Rattle.std.specs.declared.result.Result.{Result}
use Rattle.rz_core.specs.declared.facts.Facts.{Facts}
use Rattle.rz_core.specs.declared.fault.Fault.{Fault}
use Rattle.rz_core.specs.declared.fault.Mark.{Mark}
use Rattle.rz_core.specs.declared.moment.Moment.{Moment}
use Rattle.rz_core.specs.declared.resource.Resource.{Resource}
use Rattle.rz_folder.specs.Folder.{Files}
use Rattle.rz_lex.specs.declared.token.Token.{Token}
use Rattle.rz_folder.specs.Names.{missing_file}
use Rattle.rz_pre.specs.Program.{ProgramGoes, State}
use Rattle.rz_pre.specs.declared.program.Failure.{Failure}
use Rattle.rz_pre.specs.declared.condition.Tool.{Tool}
use Rattle.rz_pre.specs.declared.program.Def.{Def}
use Rattle.rz_stmt.specs.Statements.{AreStatements}
use Rattle.rz_tools.proofs.Sampling.{one_sample}
use Rattle.rz_tools_args.specs.Command.{places_of, Asked, IsCommand, IsMisplaced, Item}
use Rattle.rz_tools_args.specs.declared.name.CommandName.{CommandName}
use Rattle.rz_tools_args.specs.declared.name.CommandName.TheVariants as names
use Rattle.rz_tools_answer.specs.Answer.{misused, or_refused, shown, written, Answer, Write}
use Rattle.rz_catalog.specs.Apply.{Applied}
use Rattle.rz_catalog.specs.Catalogue.{IsCatalogue}
use Rattle.rz_catalog_text.specs.declared.entry.Entry.{Entry}
use Rattle.rz_catalog_text.specs.Source.{HasEntries}
use Rattle.rz_catalog_text.specs.Text.{entries_text}
use Rattle.rz_tools.specs.Restring.{restring_asked, target_named, with_file, HasCatalogueFile, HasRestrung, IsChangedBy, IsRestrungUnder, RestringAsked, Restrings}
use Rattle.rz_tools.specs.Strings.{strings_asked, HasCatalogue, HasFileCatalogue, HasStrings, Lists as ListsTexts, StringsAsked}
use Rattle.rz_tools.specs.Program.{Answers, AnswersItems, AnswersTo, command, misplaced}
use Rattle.rz_bridge.specs.declared.file.MacFile.{MacFile}
use Rattle.rz_bridge_files.specs.Contents.{file_in, fork_in, form_or}
use Rattle.rz_bridge_files.specs.Names.{Named}
use Rattle.rz_bridge_files.specs.DataFile.{IsDataFile}
use Rattle.rz_bridge_files.specs.Written.{written_as}
use Rattle.rz_bridge_files.specs.declared.form.Form.{Form}
use Rattle.rz_bridge_files.specs.declared.form.Form.TheVariants as forms
use Rattle.rz_fork.specs.Contents.{Fork}
use Rattle.rz_tools_text.specs.Chosen.{chosen}
use Rattle.rz_tools.specs.DeRez.{derez_asked, DeRezAsked, HasFileText, HasForkText, HasText, Shows}
use Rattle.rz_tools.specs.Types.{known_by, types_around, AreTyped, TypesAre, TypesAsked}
use Rattle.rz_tools_text.specs.Text.{ShowsEach}
use Rattle.rz_tools_output.specs.Base.{attributes_asked, base_held, base_of, limited, or_empty, Base}
use Rattle.rz_tools_output.specs.Bridge.{bridge_asked, bridged, BridgeAsked, one as one_write, two as two_writes, AreWrites, Bridges, HasBeside, IsRead, IsWrittenAs}
use Rattle.rz_tools_output.specs.Output.{file_of, form_asked, list_fork, IsFileOf, IsOutput, Target}
use Rattle.rz_tools.specs.Rez.{around_of, rez_asked, Compiles, HasOutput, IsMadeBehind, IsMadeOf, IsMadeUnder, RezAsked}
use Rattle.rz_tools_text.specs.Shown.{Known}
use Rattle.rz_tools.specs.Sources.{compiled, unsaid, Begins, Compiled, HasWork, InProgram, IsProgramOf, SaidBeside, Unsaid}
use Rattle.rz_tools_output.specs.Templates.{TypesOf}
use Rattle.rz_types_table.specs.Table.{Declaration}
use Rattle.rz_tools_answer.specs.Warning.{said_beside, warning_lines}
use Rattle.rz_tools_values.specs.Around.{Around}
use Rattle.rz_tools_work.specs.Lists.{list_after}
use Rattle.rz_tools_work.specs.Work.{begun, declared, with_list, Work}
use Rattle.rz_tools.specs.Step.{done_by, list_behind, IsBehind, Means, Steps, WarnedFault, WithWarnings}
use Rattle.rz_stmt.specs.Grammar.{mark_of, Compiles as compiled_statement, Data, Declares, Empty, Lists, Parses, Statement}
use Rattle.rz_core.specs.Answers.{Then}
use Rattle.rz_core.specs.Stop.{◌>>=◌}
use Rattle.rz_tools_work.specs.ToolWords.{numbered}
use Rattle.rz_stmt_items.specs.Item.{PlainItem}
use Rattle.rz_layout.specs.Compiled.{IsCompiled}
use Rattle.rz_stmt_items.specs.Match.{IsMatch}
use Rattle.rz_types_fields.specs.declared.tree.Tree.{Tree}
use Rattle.rz_types_fields.specs.Laid.{Refusal}
use Rattle.rz_types.specs.Field.{PlainBody}
use Rattle.rz_tools.proofs.Resources.{once_list}
use Rattle.rz_core.proofs.Once.{err, ok, ok_or_err, once_is, once_then, same_err, same_ok, Once}

-- The laws of the crates below.

abbrev pub OneProgram : Type 0
OneProgram =
    (files : Files) (tool : Tool) (names paths : List (List ℕ)) (defs : List Def) (one other : Result State Failure)
    → ProgramGoes files tool names paths defs one → ProgramGoes files tool names paths defs other → one ≡ other

abbrev pub OneCutting : Type 0
OneCutting =
    (tokens : List Token) (statements others : List (List Token)) → AreStatements tokens statements → AreStatements tokens others → statements ≡ others

abbrev pub OneCommand : Type 0
OneCommand = (words : List (List ℕ)) (asked others : Asked) → IsCommand words asked → IsCommand words others → asked ≡ others

abbrev pub OnePosition : Type 0
OnePosition = (words : List (List ℕ)) (position another : ℕ) → IsMisplaced words position → IsMisplaced words another → position ≡ another

abbrev pub OneStatement : Type 0
OneStatement = (tokens : List Token) (answer another : Result Statement Fault) → Parses tokens answer → Parses tokens another → answer ≡ another

once_with : {X : Type 0} (warnings : List Fault) (answers : Result X Fault → Type 0) → Once answers → Once (WithWarnings warnings answers)
once_with warnings answers once (Ok a) (Ok b) is also = ap ok (same_ok {F = Fault} a b (once (Ok a) (Ok b) is also))
once_with warnings answers once (Ok a) (Err b) is also = absurd (ok_or_err a b.fault (once (Ok a) (Err b.fault) is also.0))
once_with warnings answers once (Err a) (Ok b) is also = absurd (ok_or_err b a.fault (once (Ok b) (Err a.fault) also is.0))
once_with {X} warnings answers once (Err a) (Err b) is also =
    let fault : a.fault ≡ b.fault = same_err {X = X} a.fault b.fault (once (Err a.fault) (Err b.fault) is.0 also.0) in
    λ i. Err (record { fault = fault i; warnings = (is.1 ∙ sym also.1) i })

once_in : (program : State) (answers : Result Work WarnedFault → Type 0) → Once answers → Once (InProgram program answers)
once_in program answers once (Ok a) (Ok b) is also =
    ap ok (is.2 ∙ ap (compiled program) (same_ok {F = WarnedFault} is.0 also.0 (once (Ok is.0) (Ok also.0) is.1 also.1)) ∙ sym also.2)
once_in program answers once (Ok a) (Err b) is also = absurd (ok_or_err is.0 also.0 (once (Ok is.0) (Err also.0) is.1 also.1))
once_in program answers once (Err a) (Ok b) is also = absurd (ok_or_err also.0 is.0 (once (Ok also.0) (Err is.0) also.1 is.1))
once_in program answers once (Err a) (Err b) is also =
    let same : is.0 ≡ also.0 = same_err {X = Work} is.0 also.0 (once (Err is.0) (Err also.0) is.1 also.1) in
    ap err (is.2 ∙ ap (λ (s : WarnedFault). record { fault = s.fault; files = program.files; said = warning_lines program.files s.warnings }) same ∙ sym also.2)

once_beside : (made : Compiled) (answers : Result (List ℕ) Fault → Type 0) → Once answers → Once (SaidBeside made answers)
once_beside made answers once a b is also = is.2 ∙ ap (said_beside made.files made.work.warnings) (once is.0 also.0 is.1 also.1) ∙ sym also.2

-- The text of a fork.

abbrev pub OneText : Type 0
OneText = (known : Known) (list : List Resource) (text others : List ℕ) → ShowsEach known list text → ShowsEach known list others → text ≡ others

once_fork_text : OneText → (known : Known) (asked : DeRezAsked) (fork : Result Fork Fault) → Once (HasForkText known asked fork)
once_fork_text texts known asked (Ok fork) a b is also =
    is.2 ∙ ap ok (texts known (chosen asked.only asked.skip fork.list) is.0 also.0 is.1 also.1) ∙ sym also.2
once_fork_text texts known asked (Err fault) a b is also = is ∙ sym also

once_file_text : OneText → (known : Known) (asked : DeRezAsked) (entry : Option (List ℕ)) → Once (HasFileText known asked entry)
once_file_text texts known asked None = once_is (Err (missing_file None asked.file))
once_file_text texts known asked (Some bytes) = once_fork_text texts known asked (fork_in None asked.from bytes)

once_unsaid : {X : Type 0} (answers : Result X Failure → Type 0) → Once answers → Once (Unsaid answers)
once_unsaid answers once (Ok a) (Ok b) is also = ap ok (same_ok {F = Failure} a b (once (Ok a) (Ok b) is also))
once_unsaid answers once (Ok a) (Err b) is also =
    absurd (ok_or_err {F = Failure} a (record { fault = b.fault; files = b.files }) (once (Ok a) (Err (record { fault = b.fault; files = b.files })) is also.0))
once_unsaid answers once (Err a) (Ok b) is also =
    absurd (ok_or_err {F = Failure} b (record { fault = a.fault; files = a.files }) (once (Ok b) (Err (record { fault = a.fault; files = a.files })) also is.0))
once_unsaid {X} answers once (Err a) (Err b) is also =
    let same : ◌≡◌ {A = Failure} (record { fault = a.fault; files = a.files }) (record { fault = b.fault; files = b.files }) =
    same_err {X = X} _ _ (once (Err (record { fault = a.fault; files = a.files })) (Err (record { fault = b.fault; files = b.files })) is.0 also.0) in
    λ i. Err (record { fault = (same i).fault; files = (same i).files; said = (is.1 ∙ sym also.1) i })

abbrev pub OneMatch : Type 0
OneMatch = (known : Facts) (place : Mark) (body : PlainBody) (items : List PlainItem) (answer another : Result (List Tree) Fault)
    → IsMatch known place body items answer → IsMatch known place body items another → answer ≡ another

abbrev pub OneSpelling : Type 0
OneSpelling = (known : Facts) (body : PlainBody) (row : List Tree) (answer another : Result (List ℕ) Refusal)
    → IsCompiled known body row answer → IsCompiled known body row another → answer ≡ another

-- The file that rez writes, and the files of bridge.

abbrev pub OneNamed : Type 0
OneNamed = (form : Form) (path : List ℕ) (file : MacFile) (one other : Result MacFile Fault) → Named form path file one → Named form path file other → one ≡ other

abbrev pub OneDataFile : Type 0
OneDataFile = (header name also : List ℕ) → IsDataFile header name → IsDataFile header also → name ≡ also

abbrev pub OneTypes : Type 0
OneTypes = (name : Option (List ℕ)) (files : Files) (one other : Result (List Declaration) Fault) → TypesOf name files one → TypesOf name files other → one ≡ other

once_begins : {X : Type 0} (program : State) (answers : Result X Fault → Type 0) → Once answers → Once (Begins program answers)
once_begins program answers once (Ok a) (Ok b) is also = ap ok (same_ok {F = Fault} a b (once (Ok a) (Ok b) is also))
once_begins program answers once (Ok a) (Err b) is also = absurd (ok_or_err a b.fault (once (Ok a) (Err b.fault) is also.0))
once_begins program answers once (Err a) (Ok b) is also = absurd (ok_or_err b a.fault (once (Ok b) (Err a.fault) also is.0))
once_begins {X} program answers once (Err a) (Err b) is also =
    ap err (is.1 ∙ ap (unsaid program.files) (same_err {X = X} a.fault b.fault (once (Err a.fault) (Err b.fault) is.0 also.0)) ∙ sym also.1)

once_given : {X : Type 0} (given : Result X Fault) → Once (λ answer. given ≡ answer)
once_given given a b is also = sym is ∙ also

once_output : OneNamed → (asked : Target) (moment : Moment) (base : Base) (list : List Resource) → Once (IsOutput asked moment base list)
once_output named asked moment base list =
    once_then (λ fork. fork ≡ list_fork (attributes_asked asked.read_only base) base.fork.reserved list) (IsFileOf asked moment base)
    (once_is (list_fork (attributes_asked asked.read_only base) base.fork.reserved list))
    (λ fork. once_then (Named (form_asked asked base) asked.name (file_of asked moment base.file fork))
    (λ file bytes. bytes ≡ written_as (form_asked asked base) file)
    (named (form_asked asked base) asked.name (file_of asked moment base.file fork))
    (λ file. once_is (written_as (form_asked asked base) file)))

once_read : OneDataFile → (asked : BridgeAsked) (files : Files) (entry : Option (List ℕ)) → Once (IsRead asked files entry)
once_read beside asked files None a b is also = is ∙ sym also
once_read beside asked files (Some bytes) a b is also =
    is.2 ∙ ap (file_in None asked.from bytes) (one_beside (form_or asked.from bytes) is.0 also.0 is.1 also.1) ∙ sym also.2
  where
    one_beside : (form : Form) (x y : List ℕ) → HasBeside form asked.file files x → HasBeside form asked.file files y → x ≡ y
    one_beside forms.AppleDouble x y (name, is, so) (other, also, too) =
        so ∙ ap (λ (n : List ℕ). or_empty (finite.get files n)) (beside asked.file name other is also) ∙ sym too
    one_beside forms.Raw x y so too = so ∙ sym too
    one_beside forms.AppleSingle x y so too = so ∙ sym too
    one_beside forms.MacBinary x y so too = so ∙ sym too
    one_beside forms.BinHex x y so too = so ∙ sym too

once_writes : OneDataFile → (asked : BridgeAsked) (file : MacFile) (bytes : List ℕ) (x y : List Write) → AreWrites asked file bytes x → AreWrites asked file bytes y → x ≡ y
once_writes named_file asked file bytes x y (one_write why is) (one_write also so) = is ∙ sym so
once_writes named_file asked file bytes x y (one_write (inl other) is) (two_writes name to some named so) = absurd (other to)
once_writes named_file asked file bytes x y (one_write (inr none) is) (two_writes name to some named so) = absurd (some none)
once_writes named_file asked file bytes x y (two_writes name to some named so) (one_write (inl other) is) = absurd (other to)
once_writes named_file asked file bytes x y (two_writes name to some named so) (one_write (inr none) is) = absurd (some none)
once_writes named_file asked file bytes x y (two_writes name to some named is) (two_writes other too more also so) =
    is
    ∙ ap (λ (n : List ℕ). let writes : List Write = record { name = n; bytes = file.data_fork } ∷ record { name = asked.output; bytes = bytes } ∷ [] in writes) (named_file asked.output name other named also)
    ∙ sym so

once_bridges : OneNamed → OneDataFile → (asked : BridgeAsked) (files : Files) → Once (Bridges asked files)
once_bridges named beside asked files =
    once_then (IsRead asked files (finite.get files asked.file)) (λ file. Then (Named asked.to asked.output file) (IsWrittenAs asked))
    (once_read beside asked files (finite.get files asked.file))
    (λ file. once_then (Named asked.to asked.output file) (IsWrittenAs asked) (named asked.to asked.output file)
    (λ file. once_then (λ bytes. bytes ≡ written_as asked.to file) (λ bytes answer. (writes : List Write) × AreWrites asked file bytes writes × (answer ≡ Ok writes))
    (once_is (written_as asked.to file))
    (λ bytes a b is also. is.2 ∙ ap ok (once_writes beside asked file bytes is.0 also.0 is.1 also.1) ∙ sym also.2)))

-- The catalogue of a fork, and a fork with the texts of a catalogue.

abbrev pub OneCatalogue : Type 0
OneCatalogue = (types : List Declaration) (moment : Moment) (list : List Resource) (entries others : List Entry)
    → IsCatalogue types moment list entries → IsCatalogue types moment list others → entries ≡ others

abbrev pub OneSource : Type 0
OneSource = (file : ℕ) (source : List ℕ) (one other : Result (List Entry) Fault) → HasEntries file source one → HasEntries file source other → one ≡ other

abbrev pub OneApplication : Type 0
OneApplication = (types : List Declaration) (moment : Moment) (over : Bool) (list : List Resource) (entries : List Entry) (answer other : Result (List Resource) Fault)
    → Applied types moment over list entries answer → Applied types moment over list entries other → answer ≡ other

once_catalogue : OneCatalogue → (moment : Moment) (types : List Declaration) (fork : Result Fork Fault) → Once (HasCatalogue moment types fork)
once_catalogue catalogues moment types (Ok fork) a b is also =
    is.2 ∙ ap (λ (entries : List Entry). ok (entries_text entries)) (catalogues types moment fork.list is.0 also.0 is.1 also.1) ∙ sym also.2
once_catalogue catalogues moment types (Err fault) a b is also = is ∙ sym also

once_file_catalogue : OneCatalogue → (moment : Moment) (types : List Declaration) (asked : StringsAsked) (entry : Option (List ℕ)) → Once (HasFileCatalogue moment types asked entry)
once_file_catalogue catalogues moment types asked None = once_is (Err (missing_file None asked.file))
once_file_catalogue catalogues moment types asked (Some bytes) = once_catalogue catalogues moment types (fork_in None asked.from bytes >>= limited true)

once_source : OneSource → (file : ℕ) (name : List ℕ) (entry : Option (List ℕ)) → Once (HasCatalogueFile file name entry)
once_source sources file name None = once_is (Err (missing_file None name))
once_source sources file name (Some source) = sources file source

once_restrung : OneSource → OneApplication → OneNamed → (moment : Moment) (types : List Declaration) (file : ℕ) (asked : RestringAsked) (files : Files)
    → Once (IsRestrungUnder moment types file asked files)
once_restrung sources applications named moment types file asked files =
    let held = base_held asked.from asked.file (finite.get files asked.file) in
    once_then (λ base. held ≡ base) (λ base. Then (HasCatalogueFile file asked.catalogue (finite.get files asked.catalogue)) (IsChangedBy moment types asked base)) (once_given held)
    (λ base. once_then (HasCatalogueFile file asked.catalogue (finite.get files asked.catalogue)) (IsChangedBy moment types asked base)
    (once_source sources file asked.catalogue (finite.get files asked.catalogue))
    (λ entries. once_then (Applied types moment asked.over base.fork.list entries) (IsOutput (target_named asked.output) moment base)
    (applications types moment asked.over base.fork.list entries) (once_output named (target_named asked.output) moment base)))

module _ (cutting : OneCutting) (statement_law : OneStatement) (matching : OneMatch) (spelling : OneSpelling) (texts : OneText) where
  once_behind : (around : Around) (mark : Mark) (work : Work) (statement : Statement) → Once (IsBehind around mark work statement)
  once_behind around mark work Empty = once_is (Ok work)
  once_behind around mark work (Data raw) = once_is (with_list work (list_behind around mark work.list raw))
  once_behind around mark work (Lists one) = once_is (with_list work (list_after around mark work.list one))
  once_behind around mark work (compiled_statement one) = λ a b is also.
      is.2 ∙ ap (with_list work) (once_list matching spelling around mark work.types work.list one is.0 also.0 is.1 also.1) ∙ sym also.2
  once_behind around mark work (Declares one) = once_is (declared around.setting mark work one)

  one_step : (around : Around) (work : Work) (tokens : List Token) → Once (Steps around work tokens)
  one_step around work tokens =
      let behind = λ (statement : Statement). IsBehind around (mark_of tokens) work (done_by around.setting.tool statement) in
      once_with work.warnings (Then (Parses tokens) behind)
      (once_then (Parses tokens) behind (statement_law tokens) (λ statement. once_behind around (mark_of tokens) work (done_by around.setting.tool statement)))

  one_meaning : (around : Around) (work : Work) (statements : List (List Token)) → Once (Means around work statements)
  one_meaning around work [] = once_is (Ok work)
  one_meaning around work (tokens ∷ statements) =
      once_then (Steps around work (map (numbered around.setting.tool) tokens)) (λ next. Means around next statements)
      (one_step around work (map (numbered around.setting.tool) tokens)) (λ next. one_meaning around next statements)

  once_work : (around : Around) (start : Work) (program : State) → Once (HasWork around start program)
  once_work around start program a b is also =
      once_in program (Means around start is.0) (one_meaning around start is.0) a b is.2
      (subst (λ (ss : List (List Token)). InProgram program (Means around start ss) b) (sym (cutting program.tokens is.0 also.0 is.1 also.1)) also.2)

  module _ (program : OneProgram) (named : OneNamed) (data_file : OneDataFile) (types : OneTypes)
      (catalogues : OneCatalogue) (sources : OneSource) (applications : OneApplication) where
    once_program : (around : Around) (names paths : List (List ℕ)) (defs : List Def) → Once (IsProgramOf around names paths defs)
    once_program around names paths defs =
        once_unsaid (ProgramGoes around.files around.setting.tool names paths defs) (program around.files around.setting.tool names paths defs)

    once_types : (moment : Moment) (asked : TypesAsked) (files : Files) → Once (TypesAre moment asked files)
    once_types moment asked files =
        let around = types_around moment asked files in
        once_then (IsProgramOf around asked.files asked.paths asked.defs) (AreTyped moment asked files) (once_program around asked.files asked.paths asked.defs)
        (λ state. once_then (Begins state (TypesOf asked.tmpl files)) (λ declared. HasWork around (begun declared []) state)
        (once_begins state (TypesOf asked.tmpl files) (types asked.tmpl files)) (λ declared. once_work around (begun declared []) state))

    once_made_of : (moment : Moment) (asked : RezAsked) (files : Files) (state : State) → Once (IsMadeOf moment asked files state)
    once_made_of moment asked files state =
        let base_is = λ (base : Result Base Fault). base_of asked.append asked.target.name files ≡ base in
        once_then (Begins state (TypesOf asked.tmpl files)) (IsMadeUnder moment asked files state) (once_begins state (TypesOf asked.tmpl files) (types asked.tmpl files))
        (λ declared. once_then (Begins state base_is) (IsMadeBehind moment asked files state declared)
        (once_begins state base_is (once_given (base_of asked.append asked.target.name files)))
        (λ base. once_then (HasWork (around_of moment asked files) (begun declared base.fork.list) state) (HasOutput moment asked.target base)
        (once_work (around_of moment asked files) (begun declared base.fork.list) state)
        (λ made. once_beside made (IsOutput asked.target moment base made.work.list) (once_output named asked.target moment base made.work.list))))

    once_rez : (moment : Moment) (asked : RezAsked) (files : Files) → Once (Compiles moment asked files)
    once_rez moment asked files =
        once_then (IsProgramOf (around_of moment asked files) asked.files asked.paths asked.defs) (IsMadeOf moment asked files)
        (once_program (around_of moment asked files) asked.files asked.paths asked.defs) (once_made_of moment asked files)

    once_shows : (moment : Moment) (asked : DeRezAsked) (files : Files) → Once (Shows moment asked files)
    once_shows moment asked files =
        once_then (TypesAre moment asked.types files) (HasText moment asked files)
        (once_types moment asked.types files)
        (λ made. once_beside made (HasFileText (known_by moment made) asked (finite.get files asked.file))
        (once_file_text texts (known_by moment made) asked (finite.get files asked.file)))

    once_lists : (moment : Moment) (asked : StringsAsked) (files : Files) → Once (ListsTexts moment asked files)
    once_lists moment asked files =
        once_then (TypesAre moment asked.types files) (HasStrings moment asked files) (once_types moment asked.types files)
        (λ made. once_beside made (HasFileCatalogue moment made.work.types asked (finite.get files asked.file))
        (once_file_catalogue catalogues moment made.work.types asked (finite.get files asked.file)))

    once_restrings : (moment : Moment) (asked : RestringAsked) (files : Files) → Once (Restrings moment asked files)
    once_restrings moment asked files =
        once_then (TypesAre moment asked.types files) (HasRestrung moment asked files) (once_types moment asked.types files)
        (λ made. once_beside (with_file made asked.catalogue) (IsRestrungUnder moment made.work.types (length made.files) asked files)
        (once_restrung sources applications named moment made.work.types (length made.files) asked files))

    one_to : (name : CommandName) (items : List Item) (files : Files) (moment : Moment) (a b : Answer)
        → AnswersItems name items files moment a → AnswersItems name items files moment b → a ≡ b
    one_to names.Rez items files moment a b is also =
        let asked = rez_asked items in
        is.2 ∙ ap (or_refused (written asked.target.name)) (once_rez moment asked files is.0 also.0 is.1 also.1) ∙ sym also.2
    one_to names.DeRez items files moment a b is also =
        is.2 ∙ ap (or_refused shown) (once_shows moment (derez_asked items) files is.0 also.0 is.1 also.1) ∙ sym also.2
    one_to names.Bridge items files moment a b is also =
        is.2 ∙ ap bridged (once_bridges named data_file (bridge_asked items) files is.0 also.0 is.1 also.1) ∙ sym also.2
    one_to names.Det items files moment a b is also = is ∙ sym also
    one_to names.List items files moment a b is also = is ∙ sym also
    one_to names.Strings items files moment a b is also =
        is.2 ∙ ap (or_refused shown) (once_lists moment (strings_asked items) files is.0 also.0 is.1 also.1) ∙ sym also.2
    one_to names.Restring items files moment a b is also =
        let asked = restring_asked items in
        is.2 ∙ ap (or_refused (written asked.output)) (once_restrings moment asked files is.0 also.0 is.1 also.1) ∙ sym also.2
    one_to names.Sample items files moment a b is also = one_sample once_rez once_shows (places_of items) moment a b is also
    one_to names.Help items files moment a b is also = is ∙ sym also
    one_to names.Version items files moment a b is also = is ∙ sym also

    pub one_answer : OneCommand → OnePosition → (words : List (List ℕ)) (files : Files) (moment : Moment) (a b : Answer)
        → Answers words files moment a → Answers words files moment b → a ≡ b
    one_answer commands positions words files moment a b (command asked is to) (command others also to_others) =
        one_to asked.name asked.items files moment a b to (subst (λ (x : Asked). AnswersTo x files moment b) (sym (commands words asked others is also)) to_others)
    one_answer commands positions words files moment a b (command asked is to) (misplaced position also says) = absurd (also.none asked is)
    one_answer commands positions words files moment a b (misplaced position is says) (command others also to_others) = absurd (is.none others also)
    one_answer commands positions words files moment a b (misplaced position is says) (misplaced another also tells) =
        says ∙ ap misused (positions words position another is also) ∙ sym tells
