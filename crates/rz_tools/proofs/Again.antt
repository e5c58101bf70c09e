-- The text that is shown of a list means the list again.
use Rattle.std.proofs.Common.{◌≡◌, ◌≢◌, ◌≤◌, ℕ, Bool, true, false, List, [], ◌∷◌, ◌++◌, map, length, Option, Some, None, Ok, inl, refl, sym, ap, subst, ◌∙◌, append_assoc}
use Rattle.std.specs.Prelude.{◌==◌, ◌&&◌, ◌||◌, not, is_some, nat_le, ℤ, codes}
use Rattle.std.specs.List.{flat_map, list_any, AllByRecursion}
use Rattle.std.specs.Option.{ok_or}
use Rattle.std.specs.Str.{bytes_eq, str_to_ascii_lowercase}
use Rattle.std.proofs.lemmas.Bool.{not-true, or_parts, false≢true}
use Rattle.std.proofs.lemmas.List.{append-nil, map-append}
use Rattle.std.proofs.lemmas.List.Concat.{flat_map-cons}
use Rattle.std.proofs.lemmas.Slice.Eq.{bytes_eq-Decides}
use Rattle.rz_show_lines.proofs.Pages.{shapes_of_lines, tokens_of}
use Rattle.rz_show_lines.proofs.Split.{shapes_in}
use Rattle.rz_core.specs.Resources.{put, same_key, KeysDiffer}
use Rattle.rz_core.specs.Stop.{◌>>=◌}
use Rattle.rz_core.specs.declared.facts.Facts.{Facts}
use Rattle.rz_core.specs.declared.fault.Fault.{Fault}
use Rattle.rz_core.specs.declared.fault.Mark.{Mark}
use Rattle.rz_core.specs.declared.moment.Moment.{Moment}
use Rattle.rz_core.specs.declared.resource.Resource.{Resource}
use Rattle.rz_words.specs.Words.{is_name, role_of}
use Rattle.rz_stmt_data.specs.Texts.{call_in}
use Rattle.rz_types_fields.specs.declared.tree.Tree.{Tree}
use Rattle.rz_fork.specs.Contents.{FitsFork}
use Rattle.rz_stmt_items.specs.Item.{PlainItem}
use Rattle.rz_lex.specs.Printed.{word_of}
use Rattle.rz_lex.specs.declared.token.Shape.{Shape}
use Rattle.rz_lex.specs.declared.token.Shape.TheVariants as shapes
use Rattle.rz_lex.specs.declared.token.Token.{Token}
use Rattle.rz_pre.specs.Live.{body_of, Live}
use Rattle.rz_pre.specs.declared.condition.Tool.{Tool}
use Rattle.rz_pre.specs.declared.condition.Tool.TheVariants as tools
use Rattle.rz_folder.specs.Names.{file_of}
use Rattle.rz_pre.specs.Program.{levels_below, IncludedGoes, State}
use Rattle.rz_show.specs.Printable.{AreOfBytes, SparesTruth}
use Rattle.rz_show.specs.Head.{head_lines}
use Rattle.rz_show_lines.specs.Head.{head_front}
use Rattle.rz_show_lines.specs.Print.{list_lines}
use Rattle.rz_show_laws.specs.Short.{AreShortTexts}
use Rattle.rz_show.specs.Showing.{by_bytes, by_row, showing_text, showings_text, Showing}
use Rattle.rz_show.specs.Statement.{close_lines, data_items, row_items, statement_lines}
use Rattle.rz_show_lines.specs.Written.{lines_text, Written}
use Rattle.rz_show_laws.specs.Showable.{CanBeShown, IsStored}
use Rattle.rz_show_laws.specs.Statement.{is_shown, shown_compile, shown_raw, shown_words, AreWhole, IsPrintedAs, IsWholeData, IsWholeOf, IsWholeRow}
use Rattle.rz_pre_source.specs.Source.{mark, IsTextOf, IsUnmarked}
use Rattle.rz_stmt.specs.Grammar.{mark_of, Compiles, Data, IsStatement, Parses}
use Rattle.rz_stmt.specs.Raw.{Raw}
use Rattle.rz_stmt.specs.Statements.{AreStatements}
use Rattle.rz_set.proofs.Puts.{flipped}
use Rattle.rz_tools.specs.Again.{AreShort, HasMacros, MeanResources, MeansAgain, SparesWords}
use Rattle.rz_tools_text.proofs.Showings.{shown_each, AreShownBy}
use Rattle.rz_tools_text.specs.Text.{ShowsEach}
use Rattle.rz_tools_resource.specs.Items.{items_read}
use Rattle.rz_tools_resource.specs.Resource.{no_type, IsMade, IsResource}
use Rattle.rz_tools_text.specs.Shown.{its_bytes, its_row, IsShownBy, Known, TellsRow}
use Rattle.rz_unlay.specs.Reading.{facts_of}
use Rattle.rz_set.specs.After.{forbidden}
use Rattle.rz_tools_values.specs.Around.{Around}
use Rattle.rz_tools_work.specs.Put.{list_with}
use Rattle.rz_tools_work.specs.Work.{with_list, Work}
use Rattle.rz_tools.specs.Step.{Means, Steps}
use Rattle.rz_set.specs.ResSet.{found}
use Rattle.rz_types_fields.specs.Row.{IsRow}
use Rattle.rz_types_fields.specs.Spells.{Spells, SpellsPlainly}
use Rattle.rz_types.specs.Field.{PlainBody}
use Rattle.rz_types_table.specs.Table.{Declaration}
use Rattle.rz_tools_work.specs.ToolWords.{number_in, numbered, tool_in}
use Rattle.rz_tools_work.proofs.Named.{names_no_tool}
use Rattle.rz_tools.proofs.PutOut.{lines_go, AreBare}
use Rattle.rz_tools.proofs.Fileless.{compile_same, names_call_none, shown_call_none, CallsNone}
use Rattle.rz_tools.proofs.Stepping.{rez_behind}
use Rattle.rz_core.proofs.Tests.{both, by_test}
use Rattle.rz_tools.proofs.Values.{facts_again, resource_again}

-- Words that are shown are no macros, and name no tool.

among : (P : List ℕ → Type 0) (word : List ℕ) (words : List (List ℕ)) → AllByRecursion P words → list_any (λ shown. bytes_eq shown word) words ≡ true → P word
among P word [] all is = absurd (false≢true is)
among P word (shown ∷ words) all is = by_test (P word) (bytes_eq shown word)
    (λ h. subst P ((bytes_eq-Decides shown word).0 h) all.0)
    (λ h. among P word words all.1 (rw h at is))

shown_tools : AllByRecursion (λ word. tool_in (word_of word) ≡ None) shown_words
shown_tools = (refl, (refl, (refl, (refl, (refl, (refl, (refl, (refl, (refl, (refl, tt))))))))))

module _ (is_macro : List ℕ → Bool) where
  -- what is shown, by one test
  abbrev Passes : Shape → Type 0
  Passes shape = is_shown is_macro shape ≡ true

  module _ (P : List ℕ → Type 0) (word : List ℕ) where
    -- a word that is shown is one of those of statements and attributes, or a name that is no macro
    word_shown : AllByRecursion P shown_words → (is_name (role_of word) ≡ true → is_macro word ≡ false → P word) → Passes (word_of word) → P word
    word_shown all named is = by (list_any (λ shown. bytes_eq shown word) shown_words) refl is
      where
        by : (test : Bool) → list_any (λ shown. bytes_eq shown word) shown_words ≡ test → (test || (is_name (role_of word) && not (is_macro word))) ≡ true → P word
        by true found is = among P word shown_words all found
        by false none is = let each = both (is_name (role_of word)) (not (is_macro word)) is in named each.0 (not-true (is_macro word) each.1)

  none_live : (o : Option (List Shape)) → is_some o ≡ false → o ≡ None
  none_live None is = refl
  none_live (Some body) is = absurd (false≢true (sym is))

  bare_shape : SparesWords is_macro → (live : Live) → HasMacros is_macro live → (shape : Shape) → Passes shape → body_of live shape ≡ None
  bare_shape spares live has (shapes.Word word) is =
      none_live (live (str_to_ascii_lowercase word.bytes))
      (has word.bytes ∙ word_shown (λ word. is_macro word ≡ false) word.bytes spares (λ named none. none) is)
  bare_shape spares live has _ is = refl

  untold : (tool : Tool) (shape : Shape) → Passes shape → number_in tool shape ≡ None
  untold tool (shapes.Word word) is =
      let none = word_shown (λ word. tool_in (word_of word) ≡ None) word.bytes shown_tools (λ named bare. names_no_tool word.bytes named) is in
      rw none refl
  untold tool _ is = refl

  call_none : (tokens : List Token) → AllByRecursion Passes (shapes_in tokens) → AllByRecursion CallsNone tokens
  call_none [] are = tt
  call_none (t ∷ tokens) are = (of_shape t.shape are.0, call_none tokens are.1)
    where
      of_shape : (shape : Shape) → Passes shape → call_in shape ≡ None
      of_shape (shapes.Word word) is =
          word_shown (λ word. call_in (word_of word) ≡ None) word.bytes shown_call_none (λ named bare. names_call_none word.bytes named) is
      of_shape _ is = refl

  all_apart : (front back : List Shape) → AllByRecursion Passes (front ++ back) → AllByRecursion Passes front × AllByRecursion Passes back
  all_apart [] back are = (tt, are)
  all_apart (shape ∷ front) back are = let rest = all_apart front back are.1 in ((are.0, rest.0), rest.1)

  module _ (spares : SparesWords is_macro) (live : Live) (has : HasMacros is_macro live) where
    bare_all : (shapes : List Shape) → AllByRecursion Passes shapes → AreBare live shapes
    bare_all [] are = tt
    bare_all (shape ∷ shapes) are = (bare_shape spares live has shape are.0, bare_all shapes are.1)

    -- each of the lines
    bare_lines : (lines : List (List Shape)) → AllByRecursion Passes (flat_map (λ line. line) lines) → AllByRecursion (AreBare live) lines
    bare_lines [] are = tt
    bare_lines (line ∷ lines) are =
        let parts = all_apart line (flat_map (λ line. line) lines) (subst (AllByRecursion Passes) (flat_map-cons (λ line. line) line lines) are) in
        (bare_all line parts.0, bare_lines lines parts.1)

  numbered_same : (tool : Tool) (tokens : List Token) → AllByRecursion Passes (shapes_in tokens) → map (numbered tool) tokens ≡ tokens
  numbered_same tool [] are = refl
  numbered_same tool (t ∷ tokens) are = λ i. same t are.0 i ∷ numbered_same tool tokens are.1 i
    where
      same : (t : Token) → Passes t.shape → numbered tool t ≡ t
      same t is = rw (untold tool t.shape is) refl

-- Putting resources whose keys differ.

new_name : (front : List Resource) (r : Resource) → list_any (λ b. same_key b r) front ≡ false → found r.kind r.id front ≡ None
new_name [] r new = refl
new_name (x ∷ front) r new =
    let parts = or_parts (same_key x r) (list_any (λ b. same_key b r) front) new in
    rw (flipped r x ∙ parts.0) (new_name front r parts.1)

put_new : (front : List Resource) (r : Resource) → list_any (λ b. same_key b r) front ≡ false → put front r ≡ front ++ r ∷ []
put_new [] r new = refl
put_new (x ∷ front) r new =
    let parts = or_parts (same_key x r) (list_any (λ b. same_key b r) front) new in
    rw (flipped r x ∙ parts.0) (ap (λ (l : List Resource). x ∷ l) (put_new front r parts.1))

-- where none is replaced, none is protected
none_forbidden : (over : Bool) → forbidden over [] ≡ None
none_forbidden true = refl
none_forbidden false = refl

put_behind : (mark : Mark) (over : Bool) (front : List Resource) (r : Resource) → list_any (λ b. same_key b r) front ≡ false → list_with mark over front r ≡ Ok (front ++ r ∷ [])
put_behind mark over front r new = rw (new_name front r new, none_forbidden over, put_new front r new) refl

-- The laws of the crates below.

abbrev pub RowsAreRows : Type 0
RowsAreRows = (known : Facts) (body : PlainBody) (row : List Tree) (bytes : List ℕ) → SpellsPlainly known body row bytes → IsRow body row

abbrev pub PlainIsSpelled : Type 0
PlainIsSpelled = (known : Facts) (body : PlainBody) (row : List Tree) (bytes : List ℕ) → SpellsPlainly known body row bytes → Spells known body row bytes

abbrev pub TextsAreShort : Type 0
TextsAreShort = (known : Facts) (body : PlainBody) (row : List Tree) (bytes : List ℕ) → SpellsPlainly known body row bytes → AreShortTexts body row

abbrev pub TextsAreBytes : Type 0
TextsAreBytes = (known : Facts) (body : PlainBody) (row : List Tree) (bytes : List ℕ) → SpellsPlainly known body row bytes → AreOfBytes body row

abbrev pub ArePrintedAs : Type 0
ArePrintedAs = (hidden : List ℕ → Bool) (list : List Showing) → SparesTruth hidden → AllByRecursion (CanBeShown hidden) list → IsPrintedAs hidden (showings_text hidden list) list

pub record Laws : Type 0 where
  pub rows : RowsAreRows
  pub plain : PlainIsSpelled
  pub short : TextsAreShort
  pub bytes : TextsAreBytes
  pub printed : ArePrintedAs

-- How each resource is shown.

module _ (laws : Laws) (known : Known) where
  one_can_be_shown : (r : Resource) (showing : Showing) → IsStored r → IsShownBy known r showing → CanBeShown known.is_macro showing
  one_can_be_shown r showing stored (its_row body row tells is) =
      let spelled = tells.tree.told.1 in
      subst (CanBeShown known.is_macro) (sym is) (
        stored,
        record {
          shaped = tells.tree.shaped;
          kept = tells.tree.kept;
          is = laws.rows (facts_of known.moment r) body row r.bytes spelled;
          bytes = laws.bytes (facts_of known.moment r) body row r.bytes spelled;
          short = laws.short (facts_of known.moment r) body row r.bytes spelled;
          uses = tells.bare;
        },
      )
  one_can_be_shown r showing stored (its_bytes none is) = subst (CanBeShown known.is_macro) (sym is) stored

  can_be_shown : (list : List Resource) (showings : List Showing) → AllByRecursion IsStored list → AreShownBy known list showings → AllByRecursion (CanBeShown known.is_macro) showings
  can_be_shown [] [] stored by = tt
  can_be_shown [] (showing ∷ showings) stored by = absurd by
  can_be_shown (r ∷ rs) [] stored by = absurd by
  can_be_shown (r ∷ rs) (showing ∷ showings) stored by = (one_can_be_shown r showing stored.0 by.0, can_be_shown rs showings stored.1 by.1)

-- The statements of a list.

-- the work with these resources
work : List Declaration → List Fault → List Resource → Work
work types warnings list = record { types = types; list = list; warnings = warnings }

module _ (laws : Laws) (known : Known) (around : Around) (warnings : List Fault) (rez : around.setting.tool ≡ tools.Rez) (at : around.setting.moment ≡ known.moment) where
  abbrev OneStep : List Resource → List Token → Resource → Type 0
  OneStep front tokens r = Steps around (work known.types warnings front) tokens (Ok (work known.types warnings (front ++ r ∷ [])))

  -- the step of a `data` statement
  data_step : (front : List Resource) (tokens : List Token) (r : Resource) → IsWholeData tokens r → IsStored r → FitsFork r → length r.bytes ≤ 16777212
      → list_any (λ b. same_key b r) front ≡ false → OneStep front tokens r
  unfolding work
  data_step front tokens r whole stored fits short new =
      let raw : Raw = shown_raw r whole.name whole.bytes in
      let value = resource_again (mark_of tokens) around r whole.name whole.bytes stored whole.whole_name whole.whole_bytes fits.name short in
      inl (
        Data raw,
        Parses.statement whole.is.within (IsStatement.data_statement raw whole.is.is refl),
        rez_behind around (mark_of tokens) (work known.types warnings front) (Data raw) (Ok (work known.types warnings (front ++ r ∷ []))) rez
            (ap (with_list (work known.types warnings front)) (sym (ap (λ o. o >>= list_with (mark_of tokens) around.setting.over front) value ∙ put_behind (mark_of tokens) around.setting.over front r new))),
      )

  -- what is known of the resource where its statement is read
  known_there : Resource → Facts
  known_there r = record { kind = r.kind; id = r.id; name = r.name; attr = r.attr; moment = around.setting.moment }

  row_made : (mark : Mark) (r : Resource) (body : PlainBody) (row : List Tree) (items : List PlainItem) → TellsRow known r body row
      → ((facts : Facts) → items_read around.paths around.files mark facts items ≡ Ok items) → ((facts : Facts) → Rattle.rz_stmt_items.specs.Fits.Fits facts body items row)
      → IsMade around.paths around.files mark known.types items (record { kind = r.kind; id = r.id; name = r.name; attr = r.attr; moment = around.setting.moment }) (Ok r)
  row_made mark r body row items tells same fits =
      let there : Facts = record { kind = r.kind; id = r.id; name = r.name; attr = r.attr; moment = around.setting.moment } in
      let spelled : Spells there body row r.bytes =
      subst (λ (m : Moment). Spells (record { kind = r.kind; id = r.id; name = r.name; attr = r.attr; moment = m }) body row r.bytes) (sym at)
      (laws.plain (facts_of known.moment r) body row r.bytes tells.tree.told.1) in
      inl (r.bytes, inl (body, sym (ap (λ (o : Option PlainBody). ok_or o (no_type mark there)) tells.tree.declared), inl (items, sym (same there), inl (row, fits there, spelled))), refl)

  -- and that of a `resource` statement
  row_step : (front : List Resource) (tokens : List Token) (r : Resource) (body : PlainBody) (row : List Tree) → IsWholeRow tokens r body row → TellsRow known r body row
      → AllByRecursion (Passes known.is_macro) (shapes_in tokens) → IsStored r → FitsFork r → list_any (λ b. same_key b r) front ≡ false → OneStep front tokens r
  unfolding work
  row_step front tokens r body row whole tells words stored fits new =
      let one = shown_compile r whole.name whole.items in
      let facts = facts_again (mark_of tokens) around.setting r whole.name stored whole.whole_name fits.name in
      let same : (facts : Facts) → items_read around.paths around.files (mark_of tokens) facts whole.items ≡ Ok whole.items =
      λ facts. compile_same around.paths around.files (mark_of tokens) facts tokens one whole.is (call_none known.is_macro tokens words) in
      let is : IsResource around (mark_of tokens) known.types one (Ok r) = inl (_, sym facts, row_made (mark_of tokens) r body row whole.items tells same whole.fits) in
      inl (
        Compiles one,
        Parses.statement whole.within (IsStatement.resource_statement one whole.is refl),
        rez_behind around (mark_of tokens) (work known.types warnings front) (Compiles one) (Ok (work known.types warnings (front ++ r ∷ []))) rez
            (Ok (front ++ r ∷ []), inl (r, is, sym (put_behind (mark_of tokens) around.setting.over front r new)), refl),
      )

  one_step : (front : List Resource) (tokens : List Token) (r : Resource) (showing : Showing) → IsShownBy known r showing → IsWholeOf tokens showing
      → AllByRecursion (Passes known.is_macro) (shapes_in tokens) → IsStored r → FitsFork r → length r.bytes ≤ 16777212 → list_any (λ b. same_key b r) front ≡ false → OneStep front tokens r
  one_step front tokens r showing (its_row body row tells is) whole words stored fits short new =
      row_step front tokens r body row (subst (IsWholeOf tokens) is whole) tells words stored fits new
  one_step front tokens r showing (its_bytes none is) whole words stored fits short new =
      data_step front tokens r (subst (IsWholeOf tokens) is whole) stored fits short new

record HasStatements (known : Known) (list : List Resource) (tokens : List Token) : Type 0 where
  statements : List (List Token)
  are : AreStatements tokens statements
  mean : (around : Around) (warnings : List Fault) (front : List Resource) → around.setting.tool ≡ tools.Rez → around.setting.moment ≡ known.moment → KeysDiffer front list
      → Means around (work known.types warnings front) statements (Ok (work known.types warnings (front ++ list)))

module _ (laws : Laws) (known : Known) where
  -- each resource is one that a fork holds and rez takes
  pub record IsFit (list : List Resource) : Type 0 where
    pub stored : AllByRecursion IsStored list
    pub fits : AllByRecursion FitsFork list
    pub short : AreShort list

  has_statements : (list : List Resource) (showings : List Showing) (tokens : List Token) → AreShownBy known list showings → AreWhole tokens showings
      → AllByRecursion (Passes known.is_macro) (shapes_in tokens) → IsFit list → HasStatements known list tokens
  has_statements [] [] tokens by whole words fit = record {
    statements = [];
    are = whole;
    mean = λ around warnings front rez at differ. ap (λ (l : List Resource). Ok (work known.types warnings l)) (append-nil front);
  }
  has_statements [] (showing ∷ showings) tokens by whole words fit = absurd by
  has_statements (r ∷ rs) [] tokens by whole words fit = absurd by
  has_statements (r ∷ rs) (showing ∷ showings) tokens by whole words fit =
      let front_tokens : List Token = whole.0 in
      let parts = all_apart known.is_macro (shapes_in whole.0) (shapes_in whole.1)
      (subst (AllByRecursion (Passes known.is_macro)) (ap shapes_in whole.2 ∙ map-append (λ (token : Token). token.shape) whole.0 whole.1) words) in
      let behind = has_statements rs showings whole.1 by.1 whole.4 parts.1 (record { stored = fit.stored.1; fits = fit.fits.1; short = fit.short.1 }) in
      record {
        statements = whole.0 ∷ behind.statements;
        are = (whole.1, whole.2, inl (statement_of showing whole.0 whole.3, behind.are));
        mean = λ around warnings front rez at differ. inl (
          work known.types warnings (front ++ r ∷ []),
          subst (λ (ts : List Token). Steps around (work known.types warnings front) ts (Ok (work known.types warnings (front ++ r ∷ []))))
              (sym (numbered_same known.is_macro around.setting.tool whole.0 parts.0))
              (one_step laws known around warnings rez at front whole.0 r showing by.0 whole.3 parts.0 fit.stored.0 fit.fits.0 fit.short.0 differ.0),
          subst (λ (l : List Resource). Means around (work known.types warnings (front ++ r ∷ [])) behind.statements (Ok (work known.types warnings l))) (append_assoc front (r ∷ []) rs)
              (behind.mean around warnings (front ++ r ∷ []) rez at differ.1),
        );
      }
    where
      statement_of : (showing : Showing) (tokens : List Token) → IsWholeOf tokens showing → Rattle.rz_stmt_brackets.specs.Statements.IsStatement tokens
      statement_of (by_bytes resource) tokens whole = whole.is.statement
      statement_of (by_row resource body row) tokens whole = whole.statement

  pub mean_resources : (list : List Resource) (showings : List Showing) (tokens : List Token) → AreShownBy known list showings → AreWhole tokens showings
      → AllByRecursion (Passes known.is_macro) (shapes_in tokens) → IsFit list → KeysDiffer [] list → MeanResources known tokens list
  unfolding work
  mean_resources list showings tokens by whole words fit differ =
      let all = has_statements list showings tokens by whole words fit in
      (all.statements, all.are, λ around warnings rez at. all.mean around warnings [] rez at differ)

-- The text.

truth_spared : (is_macro : List ℕ → Bool) → SparesWords is_macro → SparesTruth is_macro
truth_spared is_macro spares = record { of_true = spares.1.1.1.1.1.1.1.1.0; of_false = spares.1.1.1.1.1.1.1.1.1.0 }

-- what a fork can hold is what a resource has
stored_all : (list : List Resource) → AllByRecursion FitsFork list → AllByRecursion IsStored list
stored_all [] fits = tt
stored_all (r ∷ rs) fits = (record { code = fits.0.code; id = fits.0.id; name = fits.0.name_bytes; attr = fits.0.attr; bytes = fits.0.bytes }, stored_all rs fits.1)

-- the first byte is that of the mark of UTF-8
begins_mark : List ℕ → Bool
begins_mark [] = false
begins_mark (b ∷ bytes) = b == 239

module _ (b : ℕ) (word : List ℕ) (code : ℕ) (id : ℤ) (name : List ℕ) (attr : ℕ) (others : List (List Written)) (rest : List ℕ) where
  abbrev Begins : Type 0
  Begins = begins_mark (lines_text (head_lines (b ∷ word) code id name attr ++ others) ++ rest) ≡ (b == 239)

  head_begins : Begins
  unfolding head_lines head_front begins_mark
  head_begins = by_test Begins (length name == 0) (λ h. rw h refl) (λ h. by_test Begins (nat_le (length name) 64) (λ k. rw (h, k) refl) (λ k. rw (h, k) refl))

not_marked : (is_macro : List ℕ → Bool) (showing : Showing) (rest utf8 : List ℕ) → showing_text is_macro showing ++ rest ≢ mark ++ utf8
unfolding statement_lines begins_mark
not_marked is_macro (by_bytes r) rest utf8 e =
    false≢true (sym (head_begins 100 (codes "ata") r.kind.code r.id r.name r.attr (list_lines 1 (data_items r.bytes) ++ close_lines) rest) ∙ ap begins_mark e)
not_marked is_macro (by_row r body row) rest utf8 e =
    false≢true (sym (head_begins 114 (codes "esource") r.kind.code r.id r.name r.attr (list_lines 1 (row_items is_macro body row) ++ close_lines) rest) ∙ ap begins_mark e)

unmarked : (is_macro : List ℕ → Bool) (showings : List Showing) → IsUnmarked (showings_text is_macro showings)
unmarked is_macro [] utf8 e = cc
unmarked is_macro (showing ∷ showings) utf8 e = not_marked is_macro showing (showings_text is_macro showings) utf8 e

pub means_again : Laws → (known : Known) → SparesWords known.is_macro → (list : List Resource) (text : List ℕ) → ShowsEach known list text
    → AllByRecursion FitsFork list → AreShort list → KeysDiffer [] list → MeansAgain known text list
means_again laws known spares list text shows fits short differ = record {
  read = λ files name paths before holds has.
      let each = shown_each known list text shows in
      let showings = each.0 in
      let stored = stored_all list fits in
      let printed = laws.printed known.is_macro showings (truth_spared known.is_macro spares) (can_be_shown laws known list showings stored each.1) in
      let file = length before.files in
      let lines = printed.has.read file 1 in
      let tokens = tokens_of lines.0 printed.has.lines in
      let shapes_are : shapes_in tokens ≡ printed.tokens = shapes_of_lines lines.0 printed.has.lines lines.2 ∙ sym printed.has.are in
      let opened : State = record { live = before.live; tokens = before.tokens; files = before.files ++ name ∷ [] } in
      let bare = bare_lines known.is_macro spares before.live has printed.has.lines (subst (AllByRecursion (Passes known.is_macro)) printed.has.are printed.words) in
      let found_there : file_of files (name ∷ []) ≡ Some (name, showings_text known.is_macro showings) = rw (holds ∙ ap (λ (t : List ℕ). Some t) each.2) refl in (
        tokens,
        inl (
          (showings_text known.is_macro showings, opened),
          rw found_there (inl (showings_text known.is_macro showings, IsTextOf.unmarked (unmarked known.is_macro showings) refl, refl)),
          (lines.0, None, lines.1, lines_go (IncludedGoes tools.Rez files paths levels_below) tools.Rez lines.0 printed.has.lines opened lines.2 bare),
        ),
        mean_resources laws known list showings tokens each.1 (printed.statements tokens shapes_are)
            (subst (AllByRecursion (Passes known.is_macro)) (sym shapes_are) printed.words) (record { stored = stored; fits = fits; short = short }) differ,
      );
}
