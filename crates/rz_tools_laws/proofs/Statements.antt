-- The statements of a sample's source are those of its resources.
use Rattle.std.proofs.Common.{◌≡◌, ℕ, zero, suc, ◌+◌, ◌<◌, ◌≤◌, Bool, true, false, List, [], ◌∷◌, ◌++◌, map, refl, sym, subst, ◌∙◌, arith, append_assoc}
use Rattle.std.specs.Prelude.{codes}
use Rattle.std.specs.List.{flat_map, range_with_len, AllByRecursion}
use Rattle.rz_core.proofs.Lists.{all_append}
use Rattle.rz_core.specs.declared.facts.Facts.{Facts}
use Rattle.rz_core.specs.declared.moment.Moment.{Moment}
use Rattle.rz_lex.specs.Page.{page}
use Rattle.rz_lex.specs.declared.token.Shape.{Shape}
use Rattle.rz_lex.specs.declared.token.Token.{Token}
use Rattle.rz_tools_laws.proofs.Image.{fits_fork}
use Rattle.rz_tools_laws.proofs.Lines.{bare, line_apart, line_can, line_is, line_tokens, statement_written}
use Rattle.rz_tools_laws.proofs.Reading.{shapes_of, texts_of, ArePrintedLines, Line}
use Rattle.rz_tools_laws.proofs.Told.{told}
use Rattle.rz_tools_laws.specs.Fields.{sample_fields, sample_kind, sample_resource, sample_values}
use Rattle.rz_tools_laws.specs.Sampled.{no_macro, sample_showing}
use Rattle.rz_show.proofs.RowHeight.{row_low}
use Rattle.rz_show.proofs.Widths.{fields_shaped}
use Rattle.rz_show.specs.Printable.{AreOfBytes, SparesTruth}
use Rattle.rz_show.specs.Showing.{showing_text, showings_text}
use Rattle.rz_show.specs.Shown.{row_prints, row_uses}
use Rattle.rz_show.specs.Statement.{row_items}
use Rattle.rz_show_laws.proofs.Fitting.{fitting}
use Rattle.rz_show_laws.proofs.Naming.{row_naming}
use Rattle.rz_show_laws.proofs.Whole.{whole_row}
use Rattle.rz_show_laws.proofs.Words.{list_words, statement_words}
use Rattle.rz_show_laws.specs.Showable.{IsStored}
use Rattle.rz_show_laws.specs.Statement.{is_shown, AreWhole, IsWholeRow}
use Rattle.rz_show_lines.specs.Print.{no_prints, Prints}
use Rattle.rz_show_lines.specs.Written.{are_apart, line_shapes, line_text, IsWritten, Written}
use Rattle.rz_show_lines.proofs.Split.{front_and_back, none_left, shapes_in}
use Rattle.rz_show_lines.proofs.Tokens.{list_shapes}
use Rattle.rz_show_lines.specs.Good.{AreGood}
use Rattle.rz_show_lines.specs.Page.{IsPrinted}
use Rattle.rz_tools_output.specs.SampleSource.{sample_statement}
use Rattle.rz_tools.proofs.Again.{Laws}
use Rattle.rz_tools_text.proofs.Showings.{AreShownBy}
use Rattle.rz_tools_text.specs.Shown.{its_row, Known, TellsRow}
use Rattle.rz_tools_text.specs.Text.{ShowsEach}
use Rattle.rz_types.specs.Kept.{IsKept}
use Rattle.rz_types.specs.Rules.{keeps_rules}
use Rattle.rz_types.specs.Shape.{is_well_shaped}
use Rattle.rz_types_fields.specs.Field.{PlainBody}
use Rattle.rz_types_fields.specs.Row.{IsRow}
use Rattle.rz_types_fields.specs.Spells.{SpellsPlainly}
use Rattle.rz_types_fields.specs.declared.tree.Tree.{Tree}
use Rattle.rz_words.specs.Attribute.{attribute_word}
use Rattle.rz_words.specs.Keyword.{keyword_of}
use Rattle.rz_types_table.specs.Table.{Declaration}
use Rattle.rz_types_table.specs.declared.table.Scope.TheVariants.{Any}
use Rattle.rz_unlay.specs.Reading.{facts_of}

-- Their lines.

abbrev pub statement_line : ℕ → Line
statement_line k = (line_text (statement_written k), line_shapes (statement_written k))

abbrev pub statement_lines : List ℕ → List Line
statement_lines ks = map statement_line ks

-- numbers that are ids
abbrev pub AreIds : List ℕ → Type 0
AreIds ks = AllByRecursion (λ k. k < 32768) ks

pub range_ids : (a n : ℕ) → a + n ≤ 32768 → AreIds (range_with_len a n)
range_ids a zero few = tt
range_ids a (suc n) few = (omega (arith, few), range_ids (a + 1) n (omega (arith, few)))

pub page_is : (ks : List ℕ) → page (texts_of (statement_lines ks)) ≡ flat_map sample_statement ks
page_is [] = refl
page_is (k ∷ ks) = sym (append_assoc (line_text (statement_written k)) (10 ∷ []) (page (texts_of (statement_lines ks)))) ∙ (λ i. line_is k i ++ page_is ks i)

pub lines_printed : ((line : List Written) → AllByRecursion IsWritten line → are_apart line ≡ true → IsPrinted (line_text line) (line_shapes line))
    → (ks : List ℕ) → AreIds ks → ArePrintedLines (statement_lines ks)
lines_printed law [] few = tt
lines_printed law (k ∷ ks) few = (law (statement_written k) (line_can k (let here : k < 32768 = few.0 in omega (arith, here))) (line_apart k), lines_printed law ks few.1)

-- What is known, and how the resources are shown.

abbrev pub sample_declaration : Declaration
sample_declaration = record { kind = sample_kind; scope = Any; template = sample_fields }

abbrev pub sample_known : Moment → Known
sample_known moment = record { types = sample_declaration ∷ []; is_macro = no_macro; moment = moment }

shaped : is_well_shaped sample_fields ≡ true
unfolding attribute_word keyword_of
shaped = refl

pub tells : (moment : Moment) (k : ℕ) → TellsRow (sample_known moment) (sample_resource k) sample_fields (sample_values k)
tells moment k = record {
  tree = record { declared = refl; shaped = shaped; kept = refl; told = told (facts_of moment (sample_resource k)) k };
  bare = bare no_macro k;
}

pub shown_by : (moment : Moment) (ks : List ℕ) → AreShownBy (sample_known moment) (map sample_resource ks) (map sample_showing ks)
shown_by moment [] = tt
shown_by moment (k ∷ ks) = (its_row sample_fields (sample_values k) (tells moment k) refl, shown_by moment ks)

pub shows_each : (moment : Moment) (ks : List ℕ) → ShowsEach (sample_known moment) (map sample_resource ks) (showings_text no_macro (map sample_showing ks))
shows_each moment [] = refl
shows_each moment (k ∷ ks) = (
  showing_text no_macro (sample_showing k),
  showings_text no_macro (map sample_showing ks),
  refl,
  (sample_showing k, its_row sample_fields (sample_values k) (tells moment k) refl, refl),
  shows_each moment ks,
)

stored : (k : ℕ) → k < 32768 → IsStored (sample_resource k)
stored k few = let fits = fits_fork k few in record { code = fits.code; id = fits.id; name = fits.name_bytes; attr = fits.attr; bytes = fits.bytes }

pub all_stored : (ks : List ℕ) → AreIds ks → AllByRecursion IsStored (map sample_resource ks)
all_stored [] few = tt
all_stored (k ∷ ks) few = (stored k few.0, all_stored ks few.1)

pub truth : SparesTruth no_macro
truth = record { of_true = refl; of_false = refl }

-- Their tokens.

-- what is said below, beside the laws of a text that is read again
pub record RowLaws : Type 0 where
  pub again : Laws
  pub kept : (body : PlainBody) → keeps_rules body ≡ true → IsKept body
  pub good : (hidden : List ℕ → Bool) (body : PlainBody) (row : List Tree) (more : Prints) → SparesTruth hidden
      → is_well_shaped body ≡ true → keeps_rules body ≡ true → IsRow body row → AreOfBytes body row
      → row_uses hidden body row ≡ false → AreGood hidden more → AreGood hidden (row_prints hidden body row more)

module _ (law : RowLaws) (moment : Moment) where
  facts : ℕ → Facts
  facts k = facts_of moment (sample_resource k)

  spells : (k : ℕ) → SpellsPlainly (facts k) sample_fields (sample_values k) (sample_resource k).bytes
  spells k = (told (facts k) k).1

  abbrev items : ℕ → Prints
  items k = row_items no_macro sample_fields (sample_values k)

  whole_one : (k : ℕ) → k < 32768 → (tokens : List Token) → shapes_in tokens ≡ line_shapes (statement_written k) → IsWholeRow tokens (sample_resource k) sample_fields (sample_values k)
  whole_one k few tokens is =
      whole_row (sample_resource k) [] (items k) sample_fields (sample_values k) refl (stored k few)
      (row_naming no_macro false sample_fields (sample_values k) no_prints (fields_shaped sample_fields shaped) tt)
      (row_low no_macro sample_fields (sample_values k) no_prints 63 (omega arith) (omega arith))
      (λ known read printed. fitting known no_macro sample_fields (sample_values k) read shaped (law.kept sample_fields refl)
      (law.again.rows (facts k) sample_fields (sample_values k) (sample_resource k).bytes (spells k))
      (law.again.short (facts k) sample_fields (sample_values k) (sample_resource k).bytes (spells k)) printed)
      tokens (is ∙ line_tokens no_macro k)

  pub whole_all : (ks : List ℕ) → AreIds ks → (tokens : List Token) → shapes_in tokens ≡ flat_map (λ (line : List Shape). line) (shapes_of (statement_lines ks))
      → AreWhole tokens (map sample_showing ks)
  whole_all [] few tokens is = none_left tokens is
  whole_all (k ∷ ks) few tokens is =
      let parts = front_and_back tokens (line_shapes (statement_written k)) (flat_map (λ (line : List Shape). line) (shapes_of (statement_lines ks))) is in
      (parts.front, parts.back, parts.are, whole_one k few.0 parts.front parts.front_is, whole_all ks few.1 parts.back parts.back_is)

  words_one : (k : ℕ) → AllByRecursion (λ (shape : Shape). is_shown no_macro shape ≡ true) (line_shapes (statement_written k))
  words_one k =
      let rows = law.again.rows (facts k) sample_fields (sample_values k) (sample_resource k).bytes (spells k) in
      let bytes = law.again.bytes (facts k) sample_fields (sample_values k) (sample_resource k).bytes (spells k) in
      let good = law.good no_macro sample_fields (sample_values k) no_prints truth shaped refl rows bytes (bare no_macro k) tt in
      let naming = row_naming no_macro false sample_fields (sample_values k) no_prints (fields_shaped sample_fields shaped) tt in
      subst (AllByRecursion (λ (shape : Shape). is_shown no_macro shape ≡ true)) (sym (line_tokens no_macro k))
      (statement_words no_macro (codes "resource") refl (sample_resource k) [] (list_shapes (items k)) (list_words no_macro (items k) good naming)).each

  pub words_all : (ks : List ℕ) → AllByRecursion (λ (shape : Shape). is_shown no_macro shape ≡ true) (flat_map (λ (line : List Shape). line) (shapes_of (statement_lines ks)))
  words_all [] = tt
  words_all (k ∷ ks) =
      all_append (λ (shape : Shape). is_shown no_macro shape ≡ true) (line_shapes (statement_written k)) (flat_map (λ (line : List Shape). line) (shapes_of (statement_lines ks)))
      (words_one k) (words_all ks)
