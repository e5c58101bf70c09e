-- The text of a list of resources, as it is printed.
use Rattle.std.proofs.Common.{◌≡◌, ℕ, ◌≤◌, Bool, true, false, List, [], ◌∷◌, ◌++◌, map, length, None, refl, sym, ap, subst, ◌∙◌, arith, append_assoc}
use Rattle.std.specs.Prelude.{codes, nat_le}
use Rattle.std.specs.List.{flat_map, AllByRecursion}
use Rattle.std.proofs.lemmas.Bool.Decides.{nat_tests}
use Rattle.std.proofs.lemmas.Grind.{flat_map-append}
use Rattle.rz_core.proofs.Lists.{all_append}
use Rattle.rz_core.proofs.Tests.{both}
use Rattle.rz_core.specs.Numbers.{be}
use Rattle.rz_core.specs.declared.resource.Resource.{Resource}
use Rattle.rz_types_fields.specs.declared.tree.Tree.{Tree}
use Rattle.rz_lex.specs.Joined.{joined}
use Rattle.rz_lex.specs.Lines.{HasLines}
use Rattle.rz_lex.specs.Page.{lines_from, page, StandsOnPage}
use Rattle.rz_lex.specs.Printed.{is_word, word_of}
use Rattle.rz_lex.specs.declared.sign.Sign.TheVariants as signs
use Rattle.rz_lex.specs.declared.token.Shape.{Shape}
use Rattle.rz_lex.specs.declared.token.Shape.TheVariants as shapes
use Rattle.rz_lex.specs.declared.token.Token.{Token}
use Rattle.rz_show_lines.specs.Page.{AreCutBack, ArePrinted, IsPage}
use Rattle.rz_show.specs.Head.{head_lines}
use Rattle.rz_show_lines.specs.Print.{list_lines, no_prints, Prints}
use Rattle.rz_show_lines.specs.Good.{AreGood}
use Rattle.rz_show.specs.Printable.{AreOfBytes, SparesTruth}
use Rattle.rz_show.specs.Showing.{by_bytes, by_row, showing_lines, showings_text, Showing}
use Rattle.rz_show.specs.Shown.{row_prints, row_uses}
use Rattle.rz_show.specs.Statement.{close_lines, data_items, row_items, statement_lines}
use Rattle.rz_show_lines.specs.Written.{line_shapes, lines_shapes, lines_text, Written}
use Rattle.rz_show.specs.Height.{heights}
use Rattle.rz_show.proofs.RowHeight.{row_low}
use Rattle.rz_show.proofs.Widths.{fields_shaped}
use Rattle.rz_types_fields.specs.Row.{IsRow}
use Rattle.rz_types.specs.Field.{PlainBody}
use Rattle.rz_types.specs.Kept.{IsKept}
use Rattle.rz_types.specs.Rules.{keeps_rules}
use Rattle.rz_types.specs.Shape.{are_shaped, body_depth, deepest_body, is_well_shaped}
use Rattle.rz_show_laws.specs.Showable.{CanBeShown, IsShowable, IsStored}
use Rattle.rz_show_laws.specs.Statement.{attributes_of, is_shown, AreWhole, IsPrintedAs, IsWholeOf}
use Rattle.rz_show_lines.proofs.CutLines.{all_printed, none_live, IsCutBack}
use Rattle.rz_show_laws.proofs.Fitting.{fitting}
use Rattle.rz_show_laws.proofs.Good.{text_good}
use Rattle.rz_show_laws.proofs.Heads.{front_shapes, end_shapes, head_is}
use Rattle.rz_show_lines.proofs.Tokens.{lines_both, list_shapes, list_tokens}
use Rattle.rz_show_laws.proofs.Items.{AreNamingPrints}
use Rattle.rz_show_laws.proofs.Naming.{row_naming}
use Rattle.rz_show_lines.proofs.Pages.{has_tokens}
use Rattle.rz_show_laws.proofs.Shapes.{attribute_tokens, after_commas, id_shapes, name_pieces, shape_alone, statement_shapes}
use Rattle.rz_show_lines.proofs.Split.{front_and_back, none_left, shapes_in}
use Rattle.rz_show_laws.proofs.Whole.{whole_data, whole_row}
use Rattle.rz_show_laws.proofs.Words.{list_words, statement_words, words_both, AreWords}

-- what is said below: lines of pages, rules of types, and printed lines and rows
pub record Laws : Type 0 where
  pub cut : IsCutBack
  pub lines : (file first : ℕ) (lines : List (List ℕ)) → AllByRecursion StandsOnPage lines → HasLines file (joined first (page lines)) (lines_from file first lines) None
  pub kept : (body : PlainBody) → keeps_rules body ≡ true → IsKept body
  pub rows : (hidden : List ℕ → Bool) (body : PlainBody) (row : List Tree) (more : Prints) → SparesTruth hidden
      → is_well_shaped body ≡ true → keeps_rules body ≡ true → IsRow body row → AreOfBytes body row
      → row_uses hidden body row ≡ false → AreGood hidden more → AreGood hidden (row_prints hidden body row more)
  pub printed : (hidden : List ℕ → Bool) (depth : ℕ) (items : Prints) → AreGood hidden items → AreCutBack hidden (list_lines depth items)
  pub in_front : (lines : List (List Written)) (text : List ℕ) (more : List (List Shape)) → ArePrinted lines → IsPage text more
      → IsPage (lines_text lines ++ text) (map line_shapes lines ++ more)

-- A statement.

regroup : (id named attributes : List Shape) (a b : Shape) (within : List Shape) (c d : Shape)
    → (id ++ (named ++ (attributes ++ a ∷ b ∷ []))) ++ (within ++ c ∷ d ∷ []) ≡ id ++ ((named ++ attributes) ++ a ∷ b ∷ (within ++ c ∷ d ∷ []))
regroup id named attributes a b within c d = simp append_assoc

-- a head, what stands in braces, and the end
tokens_are : (said : List ℕ) (r : Resource) (name : List (List ℕ)) (within : List Shape)
    → front_shapes said r.kind.code r.id (after_commas (name_pieces name) ++ end_shapes r.attr) ++ (within ++ shapes.Sign signs.CloseBrace ∷ shapes.Sign signs.Semicolon ∷ [])
    ≡ statement_shapes said r name within
tokens_are said r name within =
    let parts = flat_map-append (λ (piece : List Shape). shapes.Sign signs.Comma ∷ piece) (name_pieces name) (map shape_alone (attributes_of r.attr)) in
    ap (λ (x : List Shape). word_of said ∷ shapes.Literal (be 4 r.kind.code) ∷ shapes.Sign signs.OpenParen ∷ x)
    (regroup (id_shapes r.id) (after_commas (name_pieces name)) (attribute_tokens (attributes_of r.attr)) (shapes.Sign signs.CloseParen) (shapes.Sign signs.OpenBrace) within
    (shapes.Sign signs.CloseBrace) (shapes.Sign signs.Semicolon)
    ∙ ap (λ (x : List Shape). id_shapes r.id ++ (x ++ shapes.Sign signs.CloseParen ∷ shapes.Sign signs.OpenBrace
    ∷ (within ++ shapes.Sign signs.CloseBrace ∷ shapes.Sign signs.Semicolon ∷ []))) (sym parts))

-- the lines are cut into tokens, and these are what is meant
record AreShown (hidden : List ℕ → Bool) (lines : List (List Written)) (IsMeant : List Token → Type 0) : Type 0 where
  printed : ArePrinted lines
  words : AreWords hidden (lines_shapes lines)
  is : (read : List Token) → shapes_in read ≡ lines_shapes lines → IsMeant read

at_most : (n : ℕ) → nat_le n 60 ≡ true → n ≤ 60
at_most n is = grind (arith, nat_tests)

low_rows : (hidden : List ℕ → Bool) (body : PlainBody) (row : List Tree) → is_well_shaped body ≡ true → heights (row_prints hidden body row no_prints) ≤ 63
low_rows hidden body row shaped =
    let low = at_most (body_depth body) (both (are_shaped false body) (nat_le (body_depth body) deepest_body) shaped).1 in
    row_low hidden body row no_prints 63 (omega (arith, low)) (omega arith)

-- A list.

-- the tokens of lines in front of more
all_tokens : (lines : List (List Written)) (more : List (List Shape)) → flat_map (λ line. line) (map line_shapes lines ++ more) ≡ lines_shapes lines ++ flat_map (λ line. line) more
all_tokens [] more = refl
all_tokens (line ∷ lines) more =
    ap (λ (x : List Shape). line_shapes line ++ x) (all_tokens lines more) ∙ sym (append_assoc (line_shapes line) (lines_shapes lines) (flat_map (λ line. line) more))

record IsListPage (hidden : List ℕ → Bool) (list : List Showing) : Type 0 where
  lines : List (List Shape)
  page : IsPage (showings_text hidden list) lines
  words : AreWords hidden (flat_map (λ line. line) lines)
  are : (read : List Token) → shapes_in read ≡ flat_map (λ line. line) lines → AreWhole read list

module _ (law : Laws) (hidden : List ℕ → Bool) where
  -- a statement with such items, which its tokens mean in whatever pieces its name is
  statement : (said : List ℕ) → is_word said ≡ true → length said ≤ 255 → is_shown hidden (word_of said) ≡ true → (r : Resource) → IsStored r
      → (items : Prints) → AreGood hidden items → AreNamingPrints items → (IsMeant : List Token → Type 0)
      → ((name : List (List ℕ)) → flat_map (λ piece. piece) name ≡ r.name → (read : List Token) → shapes_in read ≡ statement_shapes said r name (list_shapes items) → IsMeant read)
      → AreShown hidden (statement_lines said r.kind.code r.id r.name r.attr items) IsMeant
  unfolding statement_lines
  statement said is short shown r stored items good naming IsMeant means =
      let head = head_is said is short r stored in
      let front = head_lines said r.kind.code r.id r.name r.attr in
      let inner = list_lines 1 items in
      let tokens = lines_both front (inner ++ close_lines) ∙ (λ j. head.tokens j ++ lines_both inner close_lines j)
      ∙ ap (λ (x : List Shape). front_shapes said r.kind.code r.id (after_commas (name_pieces head.pieces) ++ end_shapes r.attr) ++ (x ++ lines_shapes close_lines)) (list_tokens 1 items)
      ∙ tokens_are said r head.pieces (list_shapes items) in
      record {
        printed = all_append _ front (inner ++ close_lines) (all_printed law.cut none_live front head.lines_are)
            (all_append _ inner close_lines (law.printed hidden 1 items good).printed
            (all_printed law.cut none_live close_lines (record { put = ((refl, tt), ((refl, tt), tt)); apart = refl }, (record { put = tt; apart = refl }, tt))));
        words = subst (AreWords hidden) (sym tokens) (statement_words hidden said shown r head.pieces (list_shapes items) (list_words hidden items good naming));
        is = λ read are. means head.pieces head.are read (are ∙ tokens);
      }

  data_shown : (r : Resource) → IsStored r → AreShown hidden (showing_lines hidden (by_bytes r)) (λ read. IsWholeOf read (by_bytes r))
  data_shown r stored =
      statement (codes "data") refl (omega arith) refl r stored (data_items r.bytes) (text_good hidden true r.bytes stored.bytes, tt) (tt, tt) (λ read. IsWholeOf read (by_bytes r))
      (λ name name_is. whole_data r name name_is stored)

  row_shown : SparesTruth hidden → (r : Resource) (body : PlainBody) (row : List Tree) → IsStored r → IsShowable hidden body row
      → AreShown hidden (showing_lines hidden (by_row r body row)) (λ read. IsWholeOf read (by_row r body row))
  row_shown spares r body row stored can =
      let items = row_items hidden body row in
      let good = law.rows hidden body row no_prints spares can.shaped can.kept can.is can.bytes can.uses tt in
      let naming = row_naming hidden false body row no_prints (fields_shaped body can.shaped) tt in
      statement (codes "resource") refl (omega arith) refl r stored items good naming (λ read. IsWholeOf read (by_row r body row))
      (λ name name_is. whole_row r name items body row name_is stored naming (low_rows hidden body row can.shaped)
      (λ known read meant. fitting known hidden body row read can.shaped (law.kept body can.kept) can.is can.short meant))

  shown : SparesTruth hidden → (one : Showing) → CanBeShown hidden one → AreShown hidden (showing_lines hidden one) (λ read. IsWholeOf read one)
  shown spares (by_bytes r) can = data_shown r can
  shown spares (by_row r body row) can = row_shown spares r body row can.0 can.1

  all_shown : SparesTruth hidden → (list : List Showing) → AllByRecursion (CanBeShown hidden) list → IsListPage hidden list
  all_shown spares [] can = record { lines = []; page = refl; words = record { each = tt }; are = λ read is. none_left read is }
  all_shown spares (one ∷ list) can =
      let here = shown spares one can.0 in
      let behind = all_shown spares list can.1 in
      let front = showing_lines hidden one in
      let tokens = all_tokens front behind.lines in
      record {
        lines = map line_shapes front ++ behind.lines;
        page = law.in_front front (showings_text hidden list) behind.lines here.printed behind.page;
        words = subst (AreWords hidden) (sym tokens) (words_both hidden here.words behind.words);
        are = λ read is.
            let parts = front_and_back read (lines_shapes front) (flat_map (λ line. line) behind.lines) (is ∙ tokens) in
            (parts.front, parts.back, parts.are, here.is parts.front parts.front_is, behind.are parts.back parts.back_is);
      }

pub printed_as : Laws → (hidden : List ℕ → Bool) (list : List Showing) → SparesTruth hidden → AllByRecursion (CanBeShown hidden) list → IsPrintedAs hidden (showings_text hidden list) list
printed_as law hidden list spares can =
    let all = all_shown law hidden spares list can in
    record {
      tokens = flat_map (λ line. line) all.lines;
      has = has_tokens law.lines (showings_text hidden list) all.lines all.page;
      words = all.words.each;
      statements = all.are;
    }
