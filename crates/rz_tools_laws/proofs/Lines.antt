-- Each statement of a sample's source is a line of written tokens, which are those that its resource is shown by.
use Rattle.std.proofs.Common.{◌≡◌, ℕ, zero, suc, ◌+◌, ◌%◌, ◌<◌, ◌≤◌, ◌^◌, pos, Bool, true, false, List, [], ◌∷◌, ◌++◌, map, length, replicate, refl, sym, ap, ◌∙◌, arith, append_assoc}
use Rattle.std.specs.Prelude.{codes, nat_lt, ◌||◌, Some}
use Rattle.std.specs.List.{flat_map, list_any, range_with_len, AllByRecursion}
use Rattle.std.proofs.lemmas.Bool.Decides.{nat_tests}
use Rattle.std.proofs.lemmas.List.{append-nil, length-replicate}
use Rattle.rz_core.specs.Decimal.{decimal_of}
use Rattle.rz_core.specs.Numbers.{be}
use Rattle.rz_core.specs.Quoted.{shown_byte}
use Rattle.rz_lex.specs.Printed.{word_of, AreBytes}
use Rattle.rz_lex.specs.declared.sign.Sign.TheVariants as signs
use Rattle.rz_lex.specs.declared.token.Shape.{Shape}
use Rattle.rz_lex.specs.declared.token.Shape.TheVariants as shapes
use Rattle.rz_tools_laws.specs.Fields.{one_byte, row_fields, row_letters, row_number, row_values, sample_fields, sample_resource, sample_values}
use Rattle.rz_tools_output.specs.SampleSource.{rows_text, sample_row, sample_rows, sample_statement}
use Rattle.rz_show.proofs.Trees as Trees
use Rattle.rz_show.proofs.Trees.{number_is, text_is}
use Rattle.rz_show.specs.Number.{number_shown}
use Rattle.rz_show.specs.Shown.{row_prints, row_uses, rows_prints, text_print}
use Rattle.rz_types_fields.specs.Laid.{number_in, rows_in, text_in}
use Rattle.rz_types_fields.specs.declared.tree.Tree.{Tree}
use Rattle.rz_types_fields.specs.declared.tree.Tree.TheVariants as trees
use Rattle.rz_show.specs.Statement.{row_items}
use Rattle.rz_show_lines.specs.Pieces.{in_pieces, text_pieces, Pieces}
use Rattle.rz_show_lines.specs.Print.{block, comma, in_decimal, no_prints, pieces, print, single, Prints}
use Rattle.rz_show_lines.specs.Written.{a_blank, a_literal, a_number, a_sign, a_text, a_word, are_apart, line_shapes, line_text, IsWritten, Written}
use Rattle.rz_show_lines.proofs.Tokens.{list_shapes}
use Rattle.rz_show_laws.proofs.Shapes.{statement_shapes}

-- The line.

abbrev comma_then : List Written → List Written
comma_then more = a_sign signs.Comma ∷ a_blank ∷ more

-- a row, in front of more
abbrev row_written : ℕ → ℕ → List Written → List Written
row_written k j more = a_number (row_number k j) ∷ comma_then (a_text (row_letters k j) ∷ more)

-- rows, each after a comma
abbrev others_written : ℕ → List ℕ → List Written → List Written
others_written k [] more = more
others_written k (j ∷ js) more = comma_then (row_written k j (others_written k js more))

-- rows with commas between them
abbrev rows_written : ℕ → List ℕ → List Written → List Written
rows_written k [] more = more
rows_written k (j ∷ js) more = row_written k j (others_written k js more)

abbrev end_written : List Written
end_written = a_blank ∷ a_sign signs.CloseBrace ∷ a_blank ∷ a_sign signs.CloseBrace ∷ a_sign signs.Semicolon ∷ []

-- the statement of resource k
abbrev pub statement_written : ℕ → List Written
statement_written k =
    a_word (codes "resource") ∷ a_blank ∷ a_literal (codes "Samp") ∷ a_blank ∷ a_sign signs.OpenParen ∷ a_number k ∷ a_sign signs.CloseParen ∷ a_blank
    ∷ a_sign signs.OpenBrace ∷ a_blank ∷ a_sign signs.OpenBrace ∷ a_blank ∷ rows_written k (range_with_len 0 (k % 8)) end_written

-- It is the line of the source.

letters_shown : (count : ℕ) (more : List ℕ) → flat_map (shown_byte 34) (replicate count 97) ++ more ≡ replicate count 97 ++ more
letters_shown zero more = refl
letters_shown (suc count) more = ap (λ (l : List ℕ). 97 ∷ l) (letters_shown count more)

regrouped : (digits letters text : List ℕ) → (digits ++ codes ", \"" ++ letters ++ codes "\"") ++ text ≡ digits ++ 44 ∷ 32 ∷ 34 ∷ ((letters ++ 34 ∷ []) ++ text)
regrouped digits letters text = simp append_assoc

module _ (k : ℕ) where
  row_is : (j : ℕ) (more : List Written) (text : List ℕ) → line_text more ≡ text → line_text (row_written k j more) ≡ sample_row k j ++ text
  unfolding sample_row
  row_is j more text is =
      let digits : List ℕ = decimal_of (row_number k j) in
      let letters : List ℕ = row_letters k j in
      ap (λ (l : List ℕ). digits ++ 44 ∷ 32 ∷ 34 ∷ ((flat_map (shown_byte 34) letters ++ 34 ∷ []) ++ l)) is
      ∙ ap (λ (l : List ℕ). digits ++ 44 ∷ 32 ∷ 34 ∷ (l ++ text)) (letters_shown ((k + j) % 5) (34 ∷ []))
      ∙ sym (regrouped digits letters text)

  others_are : (js : List ℕ) (more : List Written) (text : List ℕ) → line_text more ≡ text
      → line_text (others_written k js more) ≡ flat_map (λ (next : List ℕ). codes ", " ++ next) (map (sample_row k) js) ++ text
  others_are [] more text is = is
  others_are (j ∷ js) more text is =
      ap (λ (l : List ℕ). 44 ∷ 32 ∷ l)
      (row_is j (others_written k js more) _ (others_are js more text is) ∙ sym (append_assoc (sample_row k j) (flat_map (λ (next : List ℕ). codes ", " ++ next) (map (sample_row k) js)) text))

  rows_are : (js : List ℕ) (more : List Written) (text : List ℕ) → line_text more ≡ text → line_text (rows_written k js more) ≡ rows_text (map (sample_row k) js) ++ text
  rows_are [] more text is = is
  rows_are (j ∷ js) more text is =
      row_is j (others_written k js more) _ (others_are js more text is) ∙ sym (append_assoc (sample_row k j) (flat_map (λ (next : List ℕ). codes ", " ++ next) (map (sample_row k) js)) text)

  ends_so : (digits rows : List ℕ)
      → (codes "resource 'Samp' (" ++ (digits ++ (codes ") { { " ++ (rows ++ codes " } };")))) ++ 10 ∷ [] ≡ codes "resource 'Samp' (" ++ digits ++ codes ") { { " ++ rows ++ codes " } };\n"
  ends_so digits rows = simp append_assoc

  pub line_is : line_text (statement_written k) ++ 10 ∷ [] ≡ sample_statement k
  unfolding sample_statement
  line_is =
      ap (λ (l : List ℕ). (codes "resource 'Samp' (" ++ (decimal_of k ++ (codes ") { { " ++ l))) ++ 10 ∷ []) (rows_are (range_with_len 0 (k % 8)) end_written (codes " } };") refl)
      ∙ ends_so (decimal_of k) (rows_text (sample_rows k))

-- It may be written.

bytes_of_letters : (count : ℕ) → AreBytes (replicate count 97)
bytes_of_letters zero = tt
bytes_of_letters (suc count) = (omega arith, bytes_of_letters count)

module _ (k : ℕ) where
  others_can : (js : List ℕ) (more : List Written) → AllByRecursion IsWritten more → AllByRecursion IsWritten (others_written k js more)
  others_can [] more can = can
  others_can (j ∷ js) more can = (refl, (tt, (omega arith, (refl, (tt, (bytes_of_letters ((k + j) % 5), others_can js more can))))))

  rows_can : (js : List ℕ) (more : List Written) → AllByRecursion IsWritten more → AllByRecursion IsWritten (rows_written k js more)
  rows_can [] more can = can
  rows_can (j ∷ js) more can = (omega arith, (refl, (tt, (bytes_of_letters ((k + j) % 5), others_can js more can))))

  end_can : AllByRecursion IsWritten end_written
  end_can = (tt, (refl, (tt, (refl, (refl, tt)))))

  pub line_can : k < 2 ^ 32 → AllByRecursion IsWritten (statement_written k)
  line_can few = (
    (refl, omega arith),
    (
      tt,
      (
        ((omega arith, (omega arith, (omega arith, (omega arith, tt)))), omega arith, omega arith),
        (tt, (refl, (few, (refl, (tt, (refl, (tt, (refl, (tt, rows_can (range_with_len 0 (k % 8)) end_written end_can))))))))),
      ),
    ),
  )

  others_apart : (js : List ℕ) → are_apart (others_written k js end_written) ≡ true
  others_apart [] = refl
  others_apart (j ∷ js) = others_apart js

  rows_apart : (js : List ℕ) → are_apart (rows_written k js end_written) ≡ true
  rows_apart [] = refl
  rows_apart (j ∷ js) = others_apart js

  pub line_apart : are_apart (statement_written k) ≡ true
  line_apart = rows_apart (range_with_len 0 (k % 8))

-- Its tokens are those of the shown resource.

one_piece : (size room : ℕ) (bytes : List ℕ) → length bytes ≤ room → in_pieces size room bytes ≡ record { first = bytes; others = [] }
one_piece size room [] few = refl
one_piece size zero (byte ∷ bytes) few = absurd (omega (arith, few))
one_piece size (suc room) (byte ∷ bytes) few = ap (λ (p : Pieces). record { first = byte ∷ p.first; others = p.others }) (one_piece size room bytes (omega (arith, few)))

letters_in_one : (k j : ℕ) → text_pieces false (row_letters k j) ≡ record { first = row_letters k j; others = [] }
letters_in_one k j = let long = length-replicate {A = ℕ} ((k + j) % 5) 97 in one_piece 64 64 (row_letters k j) (omega (arith, long))

small_number : (n : ℕ) → n < 128 → nat_lt n 128 ≡ true
small_number n few = grind (arith, nat_tests)

module _ (hidden : List ℕ → Bool) (k : ℕ) where
  -- the items of rows
  abbrev prints_of : List ℕ → Prints
  prints_of js = rows_prints (row_prints hidden row_fields) (map (row_values k) js)

  -- a row in decimal, and its text in one piece
  abbrev row_print : ℕ → Prints → Prints
  row_print j more = print (single (in_decimal (pos (row_number k j)))) (print (pieces false (row_letters k j) []) more)

  row_printed : (j : ℕ) (more : Prints) → row_prints hidden row_fields (row_values k j) more ≡ row_print j more
  row_printed j more =
      let number : number_in (Some (trees.Number (row_number k j))) ≡ row_number k j = number_is (row_number k j) in
      let small : nat_lt (row_number k j) 128 ≡ true = small_number (row_number k j) (omega arith) in
      let text : text_in (Some (trees.Text (row_letters k j))) ≡ row_letters k j = text_is (row_letters k j) in
      (λ i. print (single (number_shown hidden one_byte (number i))) (print (text_print false (text i)) more))
      ∙ rw small (ap (λ (p : Pieces). print (single (in_decimal (pos (row_number k j)))) (print (pieces false p.first p.others) more)) (letters_in_one k j))

  others_shapes : (js : List ℕ) (behind : List Written)
      → line_shapes (others_written k js behind) ≡ (line_shapes (comma (prints_of js)) ++ list_shapes (prints_of js)) ++ line_shapes behind
  others_shapes [] behind = refl
  others_shapes (j ∷ js) behind =
      ap (λ (l : List Shape). shapes.Sign signs.Comma ∷ shapes.Number (row_number k j) ∷ shapes.Sign signs.Comma ∷ shapes.Text (row_letters k j) ∷ l) (others_shapes js behind)
      ∙ sym (ap (λ (p : Prints). (line_shapes (comma p) ++ list_shapes p) ++ line_shapes behind) (row_printed j (prints_of js)))

  rows_shapes : (js : List ℕ) (behind : List Written) → line_shapes (rows_written k js behind) ≡ list_shapes (prints_of js) ++ line_shapes behind
  rows_shapes [] behind = refl
  rows_shapes (j ∷ js) behind =
      ap (λ (l : List Shape). shapes.Number (row_number k j) ∷ shapes.Sign signs.Comma ∷ shapes.Text (row_letters k j) ∷ l) (others_shapes js behind)
      ∙ sym (ap (λ (p : Prints). list_shapes p ++ line_shapes behind) (row_printed j (prints_of js)))

  braces : (inside : List Shape) (close end : Shape) → inside ++ close ∷ close ∷ end ∷ [] ≡ ((inside ++ close ∷ []) ++ []) ++ close ∷ end ∷ []
  braces inside close end = sym (ap (λ (l : List Shape). l ++ close ∷ end ∷ []) (append-nil (inside ++ close ∷ [])) ∙ append_assoc inside (close ∷ []) (close ∷ end ∷ []))

  kind_is : be 4 1398893936 ≡ codes "Samp"
  unfolding be
  kind_is = refl

  items_are : row_items hidden sample_fields (sample_values k) ≡ print (block (prints_of (range_with_len 0 (k % 8)))) no_prints
  items_are = ap (λ (rows : List (List Tree)). print (block (rows_prints (row_prints hidden row_fields) rows)) no_prints) (Trees.rows_are (map (row_values k) (range_with_len 0 (k % 8))))

  pub line_tokens : line_shapes (statement_written k) ≡ statement_shapes (codes "resource") (sample_resource k) [] (list_shapes (row_items hidden sample_fields (sample_values k)))
  line_tokens =
      ap (λ (l : List Shape). word_of (codes "resource") ∷ shapes.Literal (codes "Samp") ∷ shapes.Sign signs.OpenParen ∷ shapes.Number k ∷ shapes.Sign signs.CloseParen
      ∷ shapes.Sign signs.OpenBrace ∷ shapes.Sign signs.OpenBrace ∷ l)
      (rows_shapes (range_with_len 0 (k % 8)) end_written ∙ braces (list_shapes (prints_of (range_with_len 0 (k % 8)))) (shapes.Sign signs.CloseBrace) (shapes.Sign signs.Semicolon))
      ∙ ap (λ (l : List ℕ). word_of (codes "resource") ∷ shapes.Literal l ∷ shapes.Sign signs.OpenParen ∷ shapes.Number k ∷ shapes.Sign signs.CloseParen
      ∷ shapes.Sign signs.OpenBrace ∷ shapes.Sign signs.OpenBrace
      ∷ (((list_shapes (prints_of (range_with_len 0 (k % 8))) ++ shapes.Sign signs.CloseBrace ∷ []) ++ []) ++ shapes.Sign signs.CloseBrace ∷ shapes.Sign signs.Semicolon ∷ []))
      (sym kind_is)
      ∙ ap (λ (p : Prints). statement_shapes (codes "resource") (sample_resource k) [] (list_shapes p)) (sym items_are)

  -- no case is chosen
  uses_none : (js : List ℕ) → list_any (row_uses hidden row_fields) (map (row_values k) js) ≡ false
  uses_none [] = refl
  uses_none (j ∷ js) = uses_none js

  rows_there : rows_in (Some (trees.Rows (map (row_values k) (range_with_len 0 (k % 8))))) ≡ map (row_values k) (range_with_len 0 (k % 8))
  rows_there = Trees.rows_are (map (row_values k) (range_with_len 0 (k % 8)))

  pub bare : row_uses hidden sample_fields (sample_values k) ≡ false
  bare = ap (λ (rows : List (List Tree)). list_any (row_uses hidden row_fields) rows || false) rows_there ∙ ap (λ (b : Bool). b || false) (uses_none (range_with_len 0 (k % 8)))
