-- Words have an answer.
use Rattle.std.proofs.Common.{◌≡◌, ◌⊎◌, inl, inr, ℕ, Bool, true, length, List, [], ◌∷◌, Option, Some, None, Ok, Err, refl}
use Rattle.std.specs.FinMap as finite
use Rattle.std.specs.declared.result.Result.{Result}
use Rattle.rz_tools_answer.specs.Answer.{misused, or_refused, shown, written, Answer, Write}
use Rattle.rz_tools_answer.specs.Help.{help_text, version_text}
use Rattle.rz_bridge.specs.declared.file.MacFile.{MacFile}
use Rattle.rz_core.proofs.EveryCut.{is_nothing}
use Rattle.rz_core.proofs.Has.{has_is, has_then, Has}
use Rattle.rz_core.specs.Answers.{Then}
use Rattle.rz_core.specs.Stop.{◌>>=◌}
use Rattle.rz_core.specs.declared.fault.Fault.{Fault}
use Rattle.rz_core.specs.declared.moment.Moment.{Moment}
use Rattle.rz_core.specs.declared.resource.Resource.{Resource}
use Rattle.rz_bridge_files.specs.Contents.{file_in, fork_in, form_or}
use Rattle.rz_bridge_files.specs.Names.{Named}
use Rattle.rz_bridge_files.specs.Written.{written_as}
use Rattle.rz_fork.specs.Contents.{Fork}
use Rattle.rz_folder.specs.Folder.{Files}
use Rattle.rz_bridge_files.specs.DataFile.{IsDataFile}
use Rattle.rz_bridge_files.specs.declared.form.Form.{Form}
use Rattle.rz_bridge_files.specs.declared.form.Form.TheVariants as forms
use Rattle.rz_folder.specs.Names.{missing_file}
use Rattle.rz_pre.specs.Program.{ProgramGoes, State}
use Rattle.rz_pre.specs.declared.condition.Tool.{Tool}
use Rattle.rz_pre.specs.declared.program.Def.{Def}
use Rattle.rz_tools.proofs.EveryMeaning.{has_beside, has_unsaid}
use Rattle.rz_tools.proofs.EveryText.{has_file_text}
use Rattle.rz_tools_output.specs.Base.{attributes_asked, base_held, base_of, limited, or_empty, Base}
use Rattle.rz_tools_output.specs.Bridge.{bridge_asked, bridged, BridgeAsked, one, two, AreWrites, Bridges, HasBeside, IsRead, IsWrittenAs}
use Rattle.rz_tools_output.specs.Det.{breaks_of, det_asked, told}
use Rattle.rz_tools_output.specs.List.{listed_of}
use Rattle.rz_catalog.specs.Apply.{Applied}
use Rattle.rz_catalog.specs.Catalogue.{IsCatalogue}
use Rattle.rz_catalog_text.specs.declared.entry.Entry.{Entry}
use Rattle.rz_catalog_text.specs.Source.{HasEntries}
use Rattle.rz_catalog_text.specs.Text.{entries_text}
use Rattle.rz_tools.specs.Restring.{restring_asked, target_named, with_file, HasCatalogueFile, HasRestrung, IsChangedBy, IsRestrungUnder, RestringAsked, Restrings}
use Rattle.rz_tools.specs.Strings.{strings_asked, HasCatalogue, HasFileCatalogue, HasStrings, Lists, StringsAsked}
use Rattle.rz_tools.specs.DeRez.{derez_asked, DeRezAsked, HasFileText, HasText, Shows}
use Rattle.rz_tools.specs.Types.{known_by, types_around, AreTyped, TypesAre, TypesAsked}
use Rattle.rz_tools_output.specs.Output.{file_of, form_asked, list_fork, IsFileOf, IsOutput, Target}
use Rattle.rz_tools.specs.Program.{command, misplaced, Answers, AnswersItems}
use Rattle.rz_tools.specs.Rez.{around_of, rez_asked, Compiles, HasOutput, IsMadeBehind, IsMadeOf, IsMadeUnder, RezAsked}
use Rattle.rz_tools.specs.Sources.{unsaid, Begins, HasWork, IsProgramOf}
use Rattle.rz_tools_output.specs.Templates.{TypesOf}
use Rattle.rz_types_table.specs.Table.{Declaration}
use Rattle.rz_tools_text.specs.Shown.{Known}
use Rattle.rz_tools_text.specs.Text.{ShowsEach}
use Rattle.rz_tools_values.specs.Around.{Around}
use Rattle.rz_tools_args.specs.Command.{places_of, ArePlaces, Asked, IsCommand, IsMisplaced, Item}
use Rattle.rz_tools.proofs.Sampling.{has_sample}
use Rattle.rz_tools_args.specs.Syntax.{syntax_of}
use Rattle.rz_tools_args.specs.declared.name.CommandName.{CommandName}
use Rattle.rz_tools_args.specs.declared.name.CommandName.TheVariants as names
use Rattle.rz_tools_work.specs.Work.{begun}

module _ (name : (form : Form) (path : List ℕ) (file : MacFile) → Has (Named form path file)) where
  has_output : (asked : Target) (moment : Moment) (base : Base) (list : List Resource) → Has (IsOutput asked moment base list)
  has_output asked moment base list =
      has_then (λ fork. fork ≡ list_fork (attributes_asked asked.read_only base) base.fork.reserved list) (IsFileOf asked moment base)
      (has_is (list_fork (attributes_asked asked.read_only base) base.fork.reserved list))
      (λ fork is. has_then (Named (form_asked asked base) asked.name (file_of asked moment base.file fork))
      (λ file bytes. bytes ≡ written_as (form_asked asked base) file)
      (name (form_asked asked base) asked.name (file_of asked moment base.file fork))
      (λ file named. has_is (written_as (form_asked asked base) file)))

  -- What `bridge` reads and writes.

  module _ (data_file : (header : List ℕ) → (name : List ℕ) × IsDataFile header name) (asked : BridgeAsked) (files : Files) where
    has_data : (form : Form) (header : List ℕ) → (bytes : List ℕ) × HasBeside form header files bytes
    has_data forms.AppleDouble header = let beside = data_file header in (or_empty (finite.get files beside.0), (beside.0, beside.1, refl))
    has_data forms.Raw header = ([], refl)
    has_data forms.AppleSingle header = ([], refl)
    has_data forms.MacBinary header = ([], refl)
    has_data forms.BinHex header = ([], refl)

    has_file : (entry : Option (List ℕ)) → Has (IsRead asked files entry)
    has_file None = has_is (Err (missing_file None asked.file))
    has_file (Some bytes) =
        let beside = has_data (form_or asked.from bytes) asked.file in
        (file_in None asked.from bytes beside.0, (beside.0, beside.1, refl))

    is_double : (form : Form) → Dec (form ≡ forms.AppleDouble)
    is_double forms.AppleDouble = yes refl
    is_double forms.Raw = no (λ is. cc is)
    is_double forms.AppleSingle = no (λ is. cc is)
    is_double forms.MacBinary = no (λ is. cc is)
    is_double forms.BinHex = no (λ is. cc is)

    has_writes : (file : MacFile) (bytes : List ℕ) → (writes : List Write) × AreWrites asked file bytes writes
    has_writes file bytes = by (is_double asked.to) (is_nothing file.data_fork)
      where
        by : Dec (asked.to ≡ forms.AppleDouble) → Dec (file.data_fork ≡ []) → (writes : List Write) × AreWrites asked file bytes writes
        by (no other) nothing = (record { name = asked.output; bytes = bytes } ∷ [], one (inl other) refl)
        by (yes double) (yes nothing) = (record { name = asked.output; bytes = bytes } ∷ [], one (inr nothing) refl)
        by (yes double) (no something) =
            let beside = data_file asked.output in (
              record { name = beside.0; bytes = file.data_fork } ∷ record { name = asked.output; bytes = bytes } ∷ [],
              two beside.0 double something beside.1 refl,
            )

    has_written : (file : MacFile) → Has (IsWrittenAs asked file)
    has_written file =
        has_then (λ bytes. bytes ≡ written_as asked.to file) (λ bytes answer. (writes : List Write) × AreWrites asked file bytes writes × (answer ≡ Ok writes))
        (has_is (written_as asked.to file))
        (λ bytes is. let made = has_writes file bytes in (Ok made.0, (made.0, made.1, refl)))

    has_bridged : Has (Bridges asked files)
    has_bridged =
        has_then (IsRead asked files (finite.get files asked.file)) (λ file. Then (Named asked.to asked.output file) (IsWrittenAs asked)) (has_file (finite.get files asked.file))
        (λ file is. has_then (Named asked.to asked.output file) (IsWrittenAs asked) (name asked.to asked.output file) (λ named so. has_written named))

  -- What `rez` and `derez` mean.

  module _ (programs : (files : Files) (tool : Tool) (names paths : List (List ℕ)) (defs : List Def) → Has (ProgramGoes files tool names paths defs))
      (types : (name : Option (List ℕ)) (files : Files) → Has (TypesOf name files))
      (works : (around : Around) (name : Option (List ℕ)) (files : Files) (types : List Declaration) → TypesOf name files (Ok types) → (list : List Resource) (program : State)
      → Has (HasWork around (begun types list) program))
      (texts : (known : Known) (list : List Resource) → (text : List ℕ) × ShowsEach known list text) where
    has_program : (around : Around) (names paths : List (List ℕ)) (defs : List Def) → Has (IsProgramOf around names paths defs)
    has_program around names paths defs =
        has_unsaid (ProgramGoes around.files around.setting.tool names paths defs) (programs around.files around.setting.tool names paths defs)

    has_begun : {X : Type 0} (program : State) (answers : Result X Fault → Type 0) → Has answers → Has (Begins program answers)
    has_begun program answers (Ok begun, is) = (Ok begun, is)
    has_begun program answers (Err fault, is) = (Err (unsaid program.files fault), (is, refl))

    has_made_of : (moment : Moment) (asked : RezAsked) (files : Files) (program : State) → Has (IsMadeOf moment asked files program)
    has_made_of moment asked files program =
        let base_is = λ (base : Result Base Fault). base_of asked.append asked.target.name files ≡ base in
        has_then (Begins program (TypesOf asked.tmpl files)) (IsMadeUnder moment asked files program) (has_begun program (TypesOf asked.tmpl files) (types asked.tmpl files))
        (λ declared are. has_then (Begins program base_is) (IsMadeBehind moment asked files program declared)
        (has_begun program base_is (base_of asked.append asked.target.name files, refl))
        (λ base is. has_then (HasWork (around_of moment asked files) (begun declared base.fork.list) program) (HasOutput moment asked.target base)
        (works (around_of moment asked files) asked.tmpl files declared are base.fork.list program)
        (λ made so. has_beside made (IsOutput asked.target moment base made.work.list) (has_output asked.target moment base made.work.list))))

    has_rez : (moment : Moment) (asked : RezAsked) (files : Files) → Has (Compiles moment asked files)
    has_rez moment asked files =
        has_then (IsProgramOf (around_of moment asked files) asked.files asked.paths asked.defs) (IsMadeOf moment asked files)
        (has_program (around_of moment asked files) asked.files asked.paths asked.defs) (λ program is. has_made_of moment asked files program)

    has_types : (moment : Moment) (asked : TypesAsked) (files : Files) → Has (TypesAre moment asked files)
    has_types moment asked files =
        let around = types_around moment asked files in
        has_then (IsProgramOf around asked.files asked.paths asked.defs) (AreTyped moment asked files) (has_program around asked.files asked.paths asked.defs)
        (λ program is. has_then (Begins program (TypesOf asked.tmpl files)) (λ declared. HasWork around (begun declared []) program)
        (has_begun program (TypesOf asked.tmpl files) (types asked.tmpl files)) (λ declared are. works around asked.tmpl files declared are [] program))

    has_shows : (moment : Moment) (asked : DeRezAsked) (files : Files) → Has (Shows moment asked files)
    has_shows moment asked files =
        has_then (TypesAre moment asked.types files) (HasText moment asked files) (has_types moment asked.types files)
        (λ made is. has_beside made (HasFileText (known_by moment made) asked (finite.get files asked.file))
        (has_file_text texts (known_by moment made) asked (finite.get files asked.file)))

    module _ (data_file : (header : List ℕ) → (name : List ℕ) × IsDataFile header name)
        (catalogues : (types : List Declaration) (moment : Moment) (list : List Resource) → (entries : List Entry) × IsCatalogue types moment list entries)
        (sources : (file : ℕ) (source : List ℕ) → Has (HasEntries file source))
        (applications : (types : List Declaration) (moment : Moment) (over : Bool) (list : List Resource) (entries : List Entry) → Has (Applied types moment over list entries)) where
      has_catalogue : (moment : Moment) (types : List Declaration) (fork : Result Fork Fault) → Has (HasCatalogue moment types fork)
      has_catalogue moment types (Ok fork) = let made = catalogues types moment fork.list in (Ok (entries_text made.0), (made.0, made.1, refl))
      has_catalogue moment types (Err fault) = (Err fault, refl)

      has_file_catalogue : (moment : Moment) (types : List Declaration) (asked : StringsAsked) (entry : Option (List ℕ)) → Has (HasFileCatalogue moment types asked entry)
      has_file_catalogue moment types asked None = has_is (Err (missing_file None asked.file))
      has_file_catalogue moment types asked (Some bytes) = has_catalogue moment types (fork_in None asked.from bytes >>= limited true)

      has_source : (file : ℕ) (name : List ℕ) (entry : Option (List ℕ)) → Has (HasCatalogueFile file name entry)
      has_source file name None = has_is (Err (missing_file None name))
      has_source file name (Some source) = sources file source

      has_restrung : (moment : Moment) (types : List Declaration) (file : ℕ) (asked : RestringAsked) (files : Files) → Has (IsRestrungUnder moment types file asked files)
      has_restrung moment types file asked files =
          let held = base_held asked.from asked.file (finite.get files asked.file) in
          has_then (λ base. held ≡ base) (λ base. Then (HasCatalogueFile file asked.catalogue (finite.get files asked.catalogue)) (IsChangedBy moment types asked base)) (held, refl)
          (λ base is. has_then (HasCatalogueFile file asked.catalogue (finite.get files asked.catalogue)) (IsChangedBy moment types asked base)
          (has_source file asked.catalogue (finite.get files asked.catalogue))
          (λ entries are. has_then (Applied types moment asked.over base.fork.list entries) (IsOutput (target_named asked.output) moment base)
          (applications types moment asked.over base.fork.list entries) (λ list so. has_output (target_named asked.output) moment base list)))

      has_lists : (moment : Moment) (asked : StringsAsked) (files : Files) → Has (Lists moment asked files)
      has_lists moment asked files =
          has_then (TypesAre moment asked.types files) (HasStrings moment asked files) (has_types moment asked.types files)
          (λ made is. has_beside made (HasFileCatalogue moment made.work.types asked (finite.get files asked.file))
          (has_file_catalogue moment made.work.types asked (finite.get files asked.file)))

      has_restrings : (moment : Moment) (asked : RestringAsked) (files : Files) → Has (Restrings moment asked files)
      has_restrings moment asked files =
          has_then (TypesAre moment asked.types files) (HasRestrung moment asked files) (has_types moment asked.types files)
          (λ made is. has_beside (with_file made asked.catalogue) (IsRestrungUnder moment made.work.types (length made.files) asked files)
          (has_restrung moment made.work.types (length made.files) asked files))

      has_answer : (name : CommandName) (items : List Item) (files : Files) (moment : Moment) → ArePlaces (syntax_of name).places (places_of items)
          → (answer : Answer) × AnswersItems name items files moment answer
      has_answer names.Rez items files moment places =
          let asked = rez_asked items in
          let made = has_rez moment asked files in
          (or_refused (written asked.target.name) made.0, (made.0, made.1, refl))
      has_answer names.DeRez items files moment places =
          let made = has_shows moment (derez_asked items) files in
          (or_refused shown made.0, (made.0, made.1, refl))
      has_answer names.Bridge items files moment places =
          let made = has_bridged data_file (bridge_asked items) files in
          (bridged made.0, (made.0, made.1, refl))
      has_answer names.Det items files moment places = let asked = det_asked items in (told (breaks_of asked (finite.get files asked.file)), refl)
      has_answer names.List items files moment places = let asked = det_asked items in (told (listed_of asked (finite.get files asked.file)), refl)
      has_answer names.Strings items files moment places =
          let made = has_lists moment (strings_asked items) files in
          (or_refused shown made.0, (made.0, made.1, refl))
      has_answer names.Restring items files moment places =
          let asked = restring_asked items in
          let made = has_restrings moment asked files in
          (or_refused (written asked.output) made.0, (made.0, made.1, refl))
      has_answer names.Sample items files moment places = has_sample has_rez has_shows (places_of items) moment places
      has_answer names.Help items files moment places = (shown (record { bytes = help_text; said = [] }), refl)
      has_answer names.Version items files moment places = (shown (record { bytes = version_text; said = [] }), refl)

      pub every_answer : ((words : List (List ℕ)) → ((asked : Asked) × IsCommand words asked) ⊎ ((position : ℕ) × IsMisplaced words position))
          → (words : List (List ℕ)) (files : Files) (moment : Moment) → (answer : Answer) × Answers words files moment answer
      every_answer commands words files moment = by (commands words)
        where
          by : ((asked : Asked) × IsCommand words asked) ⊎ ((position : ℕ) × IsMisplaced words position) → (answer : Answer) × Answers words files moment answer
          by (inl (asked, is)) = let answers = has_answer asked.name asked.items files moment is.places in (answers.0, command asked is answers.1)
          by (inr (position, is)) = (misused position, misplaced position is refl)
