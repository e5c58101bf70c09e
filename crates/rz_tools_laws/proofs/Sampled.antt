-- A sample is made, shown and made again.
use Rattle.std.proofs.Common.{◌≡◌, inl, inr, ℕ, ◌<◌, ◌≤◌, ◌==◌, Bool, true, false, List, [], ◌∷◌, ◌++◌, map, Option, Some, None, Ok, refl, sym, ap, subst, ◌∙◌, arith, append_assoc}
use Rattle.std.specs.Prelude.{codes, replicate}
use Rattle.std.specs.FinMap as finite
use Rattle.std.specs.FinMap.{get-insert}
use Rattle.std.proofs.lemmas.Cmp.{nat_list_cmp_total}
use Rattle.std.specs.List.{flat_map, range_with_len, AllByRecursion}
use Rattle.std.specs.declared.result.Result.{Result}
use Rattle.std.proofs.lemmas.Bool.{false≢true}
use Rattle.rz_bridge.specs.declared.file.MacFile.{MacFile}
use Rattle.rz_bridge_files.specs.Contents.{admit_fork, file_in, fork_in}
use Rattle.rz_bridge_files.specs.Faults.{or_broken, or_torn}
use Rattle.rz_bridge_files.specs.Names.{Named}
use Rattle.rz_bridge_files.specs.Forms.{content_of, form_of, raw_file}
use Rattle.rz_bridge_files.specs.declared.form.Form.{Form}
use Rattle.rz_bridge_files.specs.declared.form.Form.TheVariants.{Raw}
use Rattle.rz_core.proofs.Once.{ok_or_err}
use Rattle.rz_core.specs.Lists.{unless_fault}
use Rattle.rz_core.specs.Stop.{◌>>=◌}
use Rattle.rz_core.specs.declared.fault.Fault.{Fault}
use Rattle.rz_core.specs.declared.fault.Mark.{Mark}
use Rattle.rz_core.specs.declared.moment.Moment.{Moment}
use Rattle.rz_core.specs.declared.resource.Resource.{Resource}
use Rattle.rz_folder.specs.Folder.{Files}
use Rattle.rz_fork.specs.Contents.{Fork}
use Rattle.rz_fork.specs.Image.{image}
use Rattle.rz_fork.specs.declared.fault.LimitFault.{LimitFault}
use Rattle.rz_lex.specs.Joined.{joined}
use Rattle.rz_lex.specs.Lines.{HasLines}
use Rattle.rz_lex.specs.Page.{lines_from, page, StandsOnPage}
use Rattle.rz_lex.specs.declared.token.Shape.{Shape}
use Rattle.rz_lex.specs.declared.token.Token.{Token}
use Rattle.rz_pre.specs.Program.{nothing_live, start, NamesGo, State}
use Rattle.rz_pre.specs.declared.condition.Tool.{Tool}
use Rattle.rz_pre.specs.declared.condition.Tool.TheVariants as tools
use Rattle.rz_pre_source.specs.Source.{IsUnmarked}
use Rattle.rz_tools_laws.proofs.Declares.{type_declared, type_parses, type_statement, type_tokens}
use Rattle.rz_tools_laws.proofs.Image.{admitted_as, all_fit, all_short, keys_differ, no_limit}
use Rattle.rz_tools_laws.proofs.Reading.{cut_all, named_read, shapes_of, texts_of, ArePrintedLines, Line}
use Rattle.rz_tools_laws.proofs.Statements.{all_stored, lines_printed, page_is, range_ids, sample_declaration, sample_known, shown_by, shows_each, statement_lines, whole_all, words_all, RowLaws}
use Rattle.rz_tools_laws.proofs.TypeLine.{type_line, type_line_is, type_shapes}
use Rattle.rz_tools_laws.specs.Fields.{sample_list}
use Rattle.rz_tools_laws.specs.Sampled.{alone, no_macro, sample_fork, sample_showing, sample_text, IsMadeAgain}
use Rattle.rz_tools_output.specs.SampleSource.{sample_source, sample_types}
use Rattle.rz_show_lines.specs.Written.{are_apart, line_shapes, line_text, IsWritten, Written}
use Rattle.rz_show_lines.proofs.Pages.{shapes_of_lines, tokens_of}
use Rattle.rz_show_lines.proofs.Split.{shapes_in}
use Rattle.rz_show_lines.specs.Page.{IsPrinted}
use Rattle.rz_show_laws.specs.Statement.{is_shown, shown_words}
use Rattle.rz_stmt.specs.Grammar.{Declares}
use Rattle.rz_tools.proofs.Again.{mean_resources, means_again}
use Rattle.rz_tools.specs.Again.{MeanResources, MeansAgain}
use Rattle.rz_tools.specs.DeRez.{HasFileText, HasForkText}
use Rattle.rz_tools.specs.Rez.{around_of, Compiles}
use Rattle.rz_tools.specs.Sample.{derez_of, in_memory, rez_of, CompilesAgain, CompilesSample, ShowsSample}
use Rattle.rz_tools.specs.Sources.{AreCompiled, Compiled, HasWork}
use Rattle.rz_tools.specs.Step.{done_by, IsBehind, Means, Steps}
use Rattle.rz_tools.specs.Types.{types_around}
use Rattle.rz_tools_laws.proofs.Behind.{compiled_behind, GoOn}
use Rattle.rz_tools_laws.proofs.Parsed.{EndsParsed}
use Rattle.rz_tools_laws.specs.Behind.{with_file}
use Rattle.rz_tools_answer.specs.Warning.{said_beside}
use Rattle.rz_tools_output.specs.Base.{new_base}
use Rattle.rz_tools_output.specs.Output.{file_of, fork_or_fault, list_fork, IsOutput, Target}
use Rattle.rz_tools_text.specs.Chosen.{chosen}
use Rattle.rz_tools_text.specs.Text.{ShowsEach}
use Rattle.rz_tools_values.specs.Around.{Around}
use Rattle.rz_tools_work.specs.ToolWords.{numbered}
use Rattle.rz_tools_work.specs.Work.{begun, Work}

-- The type.

-- the first line of a file
abbrev first_line : Mark
first_line = record { file = 0; line = 1 }

abbrev type_work : Work
type_work = record { types = sample_declaration ∷ []; list = []; warnings = [] }

numbered_same : (tool : Tool) → map (numbered tool) (type_tokens first_line) ≡ type_tokens first_line
numbered_same tool = refl

type_step : (around : Around) → Steps around (begun [] []) (map (numbered around.setting.tool) (type_tokens first_line)) (Ok type_work)
type_step around =
    subst (λ (tokens : List Token). Steps around (begun [] []) tokens (Ok type_work)) (sym (numbered_same around.setting.tool))
    (inl (Declares type_declared, type_parses first_line, by around.setting.tool))
  where
    by : (tool : Tool) → IsBehind around first_line (begun [] []) (done_by tool (Declares type_declared)) (Ok type_work)
    by tools.Rez = refl
    by tools.DeRez = refl

-- with these statements after that of the type
type_then : (around : Around) (statements : List (List Token)) (work : Work) → Means around type_work statements (Ok work) → Means around (begun [] []) (type_tokens first_line ∷ statements) (Ok work)
type_then around statements work means = inl (type_work, type_step around, means)

-- what is compiled of a type alone, in a file of this name, and with resources
abbrev compiled_in : List ℕ → List Resource → Compiled
compiled_in name list = record { work = record { types = sample_declaration ∷ []; list = list; warnings = [] }; is_macro = no_macro; files = name ∷ [] }

-- The laws below.

pub record SampleLaws : Type 0 where
  pub rows : RowLaws
  pub lines : (file first : ℕ) (lines : List (List ℕ)) → AllByRecursion StandsOnPage lines → HasLines file (joined first (page lines)) (lines_from file first lines) None
  pub written : (line : List Written) → AllByRecursion IsWritten line → are_apart line ≡ true → IsPrinted (line_text line) (line_shapes line)
  pub type_line : IsPrinted type_line type_shapes
  pub found : (list : List Resource) (attributes : ℕ) (reserved : List ℕ) → form_of (image list attributes reserved) ≡ Raw
  pub ended : EndsParsed
  pub on : GoOn

-- no mark of UTF-8 stands before the type
begins_mark : List ℕ → Bool
begins_mark [] = false
begins_mark (byte ∷ bytes) = byte == 239

unmarked : (rest : List ℕ) → IsUnmarked (type_line ++ 10 ∷ rest)
unfolding begins_mark
unmarked rest utf8 is = false≢true (ap begins_mark is)

module _ (law : SampleLaws) where
  type_lines : List Line
  type_lines = (type_line, type_shapes) ∷ []

  -- the file of the type alone
  type_program : (tool : Tool) (files : Files) (name : List ℕ) → finite.get files name ≡ Some sample_types
      → NamesGo tool files [] (name ∷ []) (start []) (Ok (record { live = nothing_live; tokens = type_tokens first_line; files = name ∷ [] }))
  unfolding type_lines
  type_program tool files name holds =
      inl (
        record { live = nothing_live; tokens = type_tokens first_line; files = name ∷ [] },
        named_read law.lines type_lines (law.type_line, tt) (unmarked []) tool files [] name (holds ∙ ap (λ (text : List ℕ). Some text) (sym type_line_is)) [] [],
        refl,
      )

  type_has_work : (around : Around) (name : List ℕ)
      → HasWork around (begun [] []) (record { live = nothing_live; tokens = type_tokens first_line; files = name ∷ [] }) (Ok (compiled_in name []))
  type_has_work around name =
      (type_tokens first_line ∷ [], ([], refl, inl (type_statement first_line, refl)), (type_work, type_then around [] type_work refl, refl))

  type_compiled : (around : Around) (name : List ℕ) → finite.get around.files name ≡ Some sample_types
      → AreCompiled around (begun [] []) (name ∷ []) [] [] (Ok (compiled_in name []))
  type_compiled around name holds = inl (
    record { live = nothing_live; tokens = type_tokens first_line; files = name ∷ [] },
    type_program around.setting.tool around.files name holds,
    type_has_work around name,
  )

  -- The file that is made.

  module _ (count : ℕ) (some : 0 < count) (few : count ≤ 5000) (moment : Moment) where
    abbrev ks : List ℕ
    ks = range_with_len 0 count

    abbrev target : Target
    target = record { name = codes "fork"; form = None; kind = None; creator = None; read_only = false }

    fork_is : Ok (sample_fork count) ≡ list_fork 0 [] (sample_list count)
    unfolding list_fork
    fork_is = sym (ap (λ (limit : Option LimitFault). fork_or_fault (unless_fault limit (sample_fork count))) (no_limit count some few))

    output_is : IsOutput target moment new_base (sample_list count) (Ok (sample_fork count))
    output_is = inl (sample_fork count, fork_is, inl (file_of target moment new_base.file (sample_fork count), Named.raw refl refl, refl))

    -- sources that are compiled to these resources
    compiles : (files : Files) (names : List (List ℕ)) (made : Compiled) → made.work.list ≡ sample_list count → made.work.warnings ≡ []
        → AreCompiled (around_of moment (rez_of names) files) (begun [] []) names [] [] (Ok made) → Compiles moment (rez_of names) files (Ok (alone (sample_fork count)))
    compiles files names made is silent (inl (program, goes, has)) = inl (
      program,
      goes,
      inl (
        [],
        refl,
        inl (
          new_base,
          refl,
          inl (
            made,
            has,
            (
              Ok (sample_fork count),
              subst (λ (list : List Resource). IsOutput target moment new_base list (Ok (sample_fork count))) (sym is) output_is,
              ap (λ (warnings : List Fault). said_beside made.files warnings (Ok (sample_fork count))) (sym silent),
            ),
          ),
        ),
      ),
    )
    compiles files names made is silent (inr (failing, goes, other)) = absurd (ok_or_err made failing other)

    -- The source.

    abbrev source_lines : List Line
    source_lines = (type_line, type_shapes) ∷ statement_lines ks

    source_is : page (texts_of source_lines) ≡ sample_source count
    unfolding sample_source
    source_is = sym (append_assoc type_line (10 ∷ []) (page (texts_of (statement_lines ks)))) ∙ (λ i. type_line_is i ++ page_is ks i)

    source_printed : ArePrintedLines source_lines
    source_printed = (law.type_line, lines_printed law.written ks (range_ids 0 count (omega (arith, few))))

    -- the tokens after those of the type
    behind : List Token
    behind = tokens_of (lines_from 0 2 (texts_of (statement_lines ks))) (shapes_of (statement_lines ks))

    behind_shapes : shapes_in behind ≡ flat_map (λ (line : List Shape). line) (shapes_of (statement_lines ks))
    unfolding behind
    behind_shapes = shapes_of_lines (lines_from 0 2 (texts_of (statement_lines ks))) (shapes_of (statement_lines ks)) (cut_all (statement_lines ks) source_printed.1 0 2)

    source_means : MeanResources (sample_known moment) behind (sample_list count)
    source_means =
        mean_resources law.rows.again (sample_known moment) (sample_list count) (map sample_showing ks) behind (shown_by moment ks)
        (whole_all law.rows moment ks (range_ids 0 count (omega (arith, few))) behind behind_shapes)
        (subst (AllByRecursion (λ (shape : Shape). is_shown no_macro shape ≡ true)) (sym behind_shapes) (words_all law.rows moment ks))
        (record { stored = all_stored ks (range_ids 0 count (omega (arith, few))); fits = all_fit count few; short = all_short count few }) (keys_differ count)

    source_compiled : (files : Files) (name : List ℕ) → finite.get files name ≡ Some (sample_source count)
        → AreCompiled (around_of moment (rez_of (name ∷ [])) files) (begun [] []) (name ∷ []) [] [] (Ok (compiled_in name (sample_list count)))
    unfolding behind
    source_compiled files name holds =
        let around = around_of moment (rez_of (name ∷ [])) files in
        let program : State = record { live = nothing_live; tokens = type_tokens first_line ++ behind; files = name ∷ [] } in
        let work : Work = record { types = sample_declaration ∷ []; list = sample_list count; warnings = [] } in
        inl (
          program,
          inl (
            program,
            named_read law.lines source_lines source_printed (unmarked (page (texts_of (statement_lines ks)))) tools.Rez files [] name
                (holds ∙ ap (λ (text : List ℕ). Some text) (sym source_is)) [] [],
            refl,
          ),
          (
            type_tokens first_line ∷ source_means.0,
            (behind, refl, inl (type_statement first_line, source_means.1)),
            (work, type_then around source_means.0 work (source_means.2 around [] refl refl), refl),
          ),
        )

    made : CompilesSample count moment (Ok (alone (sample_fork count)))
    made =
        let files = in_memory ((codes "source", sample_source count) ∷ []) in
        compiles files (codes "source" ∷ []) (compiled_in (codes "source") (sample_list count)) refl refl
        (source_compiled files (codes "source") (get-insert nat_list_cmp_total finite.empty (codes "source") (sample_source count) (codes "source")))

    -- The text.

    all_chosen : (list : List Resource) → chosen [] [] list ≡ list
    all_chosen [] = refl
    all_chosen (r ∷ list) = ap (λ (l : List Resource). r ∷ l) (all_chosen list)

    abbrev held : Fork
    held = record { list = sample_list count; attributes = 0; reserved = replicate 240 0 }

    fork_held : fork_in None None (sample_fork count) ≡ Ok held
    fork_held =
        let file : file_in None None (sample_fork count) [] ≡ Ok (raw_file (sample_fork count)) =
        ap (λ (form : Form). or_broken None (content_of form (sample_fork count) [])) (law.found (sample_list count) 0 []) in
        ap (λ (held : Result MacFile Fault). held >>= (λ file. admit_fork None file.res_fork)) file ∙ ap (or_torn None) (admitted_as count some few)

    text_held : HasForkText (sample_known moment) (derez_of (codes "fork") (codes "types")) (Ok held) (Ok (sample_text count))
    text_held = (
      sample_text count,
      subst (λ (list : List Resource). ShowsEach (sample_known moment) list (sample_text count)) (sym (all_chosen (sample_list count))) (shows_each moment ks),
      refl,
    )

    showed : ShowsSample moment (sample_fork count) (Ok (alone (sample_text count)))
    showed =
        let asked = derez_of (codes "fork") (codes "types") in
        let alone_there : Files = in_memory ((codes "fork", sample_fork count) ∷ []) in
        let files : Files = in_memory ((codes "fork", sample_fork count) ∷ (codes "types", sample_types) ∷ []) in
        let types_there : finite.get files (codes "types") ≡ Some sample_types = get-insert nat_list_cmp_total alone_there (codes "types") sample_types (codes "types") in
        let fork_there : finite.get files (codes "fork") ≡ Some (sample_fork count) =
        get-insert nat_list_cmp_total alone_there (codes "types") sample_types (codes "fork") ∙ get-insert nat_list_cmp_total finite.empty (codes "fork") (sample_fork count) (codes "fork") in
        let around = types_around moment asked.types files in
        inl (
          compiled_in (codes "types") [],
          inl (
            record { live = nothing_live; tokens = type_tokens first_line; files = codes "types" ∷ [] },
            type_program tools.DeRez files (codes "types") types_there,
            inl ([], refl, type_has_work around (codes "types")),
          ),
          (
            Ok (sample_text count),
            subst (λ (entry : Option (List ℕ)). HasFileText (sample_known moment) asked entry (Ok (sample_text count))) (sym fork_there)
                (subst (λ (fork : Result Fork Fault). HasForkText (sample_known moment) asked fork (Ok (sample_text count))) (sym fork_held) text_held),
            refl,
          ),
        )

    -- And again.

    spared : AllByRecursion (λ (word : List ℕ). no_macro word ≡ false) shown_words
    spared = (refl, (refl, (refl, (refl, (refl, (refl, (refl, (refl, (refl, (refl, tt))))))))))

    means : MeansAgain (sample_known moment) (sample_text count) (sample_list count)
    means = means_again law.rows.again (sample_known moment) spared (sample_list count) (sample_text count) (shows_each moment ks) (all_fit count few) (all_short count few) (keys_differ count)

    made_again : CompilesAgain moment (sample_text count) (Ok (alone (sample_fork count)))
    made_again =
        let first : Files = in_memory ((codes "types", sample_types) ∷ []) in
        let files : Files = in_memory ((codes "types", sample_types) ∷ (codes "text", sample_text count) ∷ []) in
        let text_there : finite.get files (codes "text") ≡ Some (sample_text count) = get-insert nat_list_cmp_total first (codes "text") (sample_text count) (codes "text") in
        let types_there : finite.get files (codes "types") ≡ Some sample_types =
        get-insert nat_list_cmp_total first (codes "text") (sample_text count) (codes "types") ∙ get-insert nat_list_cmp_total finite.empty (codes "types") sample_types (codes "types") in
        let names : List (List ℕ) = codes "types" ∷ codes "text" ∷ [] in
        let around = around_of moment (rez_of names) files in
        let one = compiled_in (codes "types") [] in
        compiles files names (with_file one (codes "text") (sample_list count)) refl refl
        (compiled_behind law.ended law.on around (begun [] []) (codes "types" ∷ []) [] (codes "text") [] (sample_known moment) (sample_text count) (sample_list count) refl refl text_there means one
        (type_compiled around (codes "types") types_there) refl (record { types = refl; macros = λ name. refl }))

    pub made_all : IsMadeAgain count moment
    made_all = record { made = made; shown = showed; again = made_again }
