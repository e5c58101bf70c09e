-- Printed items keep the limits of a statement.
use Rattle.std.proofs.Common.{◌≡◌, ℕ, suc, ◌+◌, ◌-◌, ◌≤◌, ℤ, pos, negsuc, List, [], ◌∷◌, ◌++◌, map, refl, ap, ◌∙◌, arith, append_assoc}
use Rattle.std.specs.Prelude.{true, max, nat_le, ◌&&◌}
use Rattle.std.proofs.lemmas.Bool.{le-leb}
use Rattle.rz_stmt_brackets.specs.Limit.{longest_row}
use Rattle.rz_lex.specs.declared.sign.Sign.TheVariants as signs
use Rattle.rz_lex.specs.declared.token.Shape.{Shape}
use Rattle.rz_lex.specs.declared.token.Shape.TheVariants as shapes
use Rattle.rz_show.specs.Height.{height, heights}
use Rattle.rz_show_lines.proofs.Tokens.{braced, group_tokens, list_shapes, number_prints, print_shapes}
use Rattle.rz_show_lines.specs.Print.{block, by_name, in_binary, in_decimal, in_group, in_hex, in_literal, in_octal, in_text, named_block, no_prints, pieces, print, single, Print, Prints, Single}
use Rattle.rz_show_laws.proofs.Walks.{kept}

-- what stands after keeps the limits, where the row has a few tokens
abbrev pub KeepsBehind : ℕ → ℕ → List Shape → Type 0
KeepsBehind most depth rest = (row : ℕ) → row ≤ 3 → kept most depth row rest ≡ true

-- a token that neither opens nor ends a row
one_more : (most depth row : ℕ) (rest : List Shape) → depth ≤ most → row ≤ 2 → KeepsBehind most depth rest
    → (nat_le depth most && (nat_le (suc row) longest_row && kept most depth (suc row) rest)) ≡ true
one_more most depth row rest shallow low behind = rw (le-leb depth most shallow, le-leb (suc row) 1024 (omega (arith, low)), behind (suc row) (omega (arith, low))) refl

number_keeps : (number : ℤ) (most depth row : ℕ) (rest : List Shape) → depth ≤ most → row ≤ 1 → KeepsBehind most depth rest
    → kept most depth row (print_shapes (single (in_decimal number)) ++ rest) ≡ true
number_keeps (pos number) most depth row rest shallow low behind = one_more most depth row rest shallow (omega (arith, low)) behind
number_keeps (negsuc number) most depth row rest shallow low behind =
    rw (le-leb depth most shallow, le-leb (suc row) 1024 (omega (arith, low)), le-leb (suc (suc row)) 1024 (omega (arith, low)), behind (suc (suc row)) (omega (arith, low))) refl

-- Braces and commas, which end a row.

lower : (depth : ℕ) → depth + 1 - 1 ≡ depth
lower depth = omega arith

pub close_keeps : (most depth row : ℕ) (rest : List Shape) → depth ≤ most → kept most depth 0 rest ≡ true → kept most (depth + 1) row (shapes.Sign signs.CloseBrace ∷ rest) ≡ true
close_keeps most depth row rest shallow behind = rw (lower depth, le-leb depth most shallow) behind

pub open_keeps : (most depth row : ℕ) (rest : List Shape) → depth + 1 ≤ most → kept most (depth + 1) 0 rest ≡ true → kept most depth row (shapes.Sign signs.OpenBrace ∷ rest) ≡ true
open_keeps most depth row rest shallow behind = rw (le-leb (depth + 1) most shallow) behind

comma_keeps : (most depth row : ℕ) (rest : List Shape) → depth ≤ most → kept most depth 0 rest ≡ true → kept most depth row (shapes.Sign signs.Comma ∷ rest) ≡ true
comma_keeps most depth row rest shallow behind = rw (le-leb depth most shallow) behind

-- Items and lists.

-- an item after a brace or a comma, and after one word too
abbrev IsKept : Print → Type 0
IsKept one = (most depth row : ℕ) (rest : List Shape) → depth + height one ≤ most → row ≤ 1 → KeepsBehind most depth rest → kept most depth row (print_shapes one ++ rest) ≡ true

abbrev AreKept : Prints → Type 0
AreKept prints = (most depth : ℕ) (rest : List Shape) → depth + heights prints ≤ most → KeepsBehind most depth rest → kept most depth 0 (list_shapes prints ++ rest) ≡ true

most_of : (a b depth most : ℕ) → depth + max a b ≤ most → (depth + a ≤ most) × (depth + b ≤ most)
most_of a b depth most h = (omega (arith, h), omega (arith, h))

first_kept : (one : Print) (others : Prints) → IsKept one → AreKept others → AreKept (print one others)
first_kept one no_prints first behind most depth rest shallow last =
    ap (kept most depth 0) (append_assoc (print_shapes one) [] rest) ∙ first most depth 0 rest (most_of (height one) 0 depth most shallow).0 (omega arith) last
first_kept one (print next others) first behind most depth rest shallow last =
    let both = most_of (height one) (heights (print next others)) depth most shallow in
    let tokens = list_shapes (print next others) in
    let all = behind most depth rest both.1 last in
    ap (kept most depth 0) (append_assoc (print_shapes one) (shapes.Sign signs.Comma ∷ tokens) rest)
    ∙ first most depth 0 (shapes.Sign signs.Comma ∷ (tokens ++ rest)) both.0 (omega arith) (λ row low. comma_keeps most depth row (tokens ++ rest) (omega (arith, both.0)) all)

braces_keep : (prints : Prints) → AreKept prints → (most depth row : ℕ) (rest : List Shape) → depth + suc (heights prints) ≤ most → KeepsBehind most depth rest
    → kept most depth row (braced (list_shapes prints) ++ rest) ≡ true
braces_keep prints within most depth row rest shallow behind =
    let tokens = list_shapes prints in
    open_keeps most depth row ((tokens ++ shapes.Sign signs.CloseBrace ∷ []) ++ rest) (omega (arith, shallow))
    (ap (kept most (depth + 1) 0) (append_assoc tokens (shapes.Sign signs.CloseBrace ∷ []) rest)
    ∙ within most (depth + 1) (shapes.Sign signs.CloseBrace ∷ rest) (omega (arith, shallow))
    (λ row low. close_keeps most depth row rest (omega (arith, shallow)) (behind 0 (omega arith))))

none_kept : AreKept no_prints
none_kept most depth rest shallow behind = behind 0 (omega arith)

decimal_kept : (number : ℤ) → IsKept (single (in_decimal number))
decimal_kept number most depth row rest shallow low behind = number_keeps number most depth row rest (omega (arith, shallow)) low behind

numbers_kept : (numbers : List ℤ) → AreKept (number_prints numbers)
numbers_kept [] = none_kept
numbers_kept (number ∷ numbers) = first_kept (single (in_decimal number)) (number_prints numbers) (decimal_kept number) (numbers_kept numbers)

numbers_flat : (numbers : List ℤ) → heights (number_prints numbers) ≡ 0
numbers_flat [] = refl
numbers_flat (number ∷ numbers) = omega (arith, numbers_flat numbers)

texts_keep : (texts : List (List ℕ)) (most depth row : ℕ) (rest : List Shape) → depth ≤ most → row ≤ 1 → KeepsBehind most depth rest
    → kept most depth row (map (λ piece. shapes.Text piece) texts ++ rest) ≡ true
texts_keep [] most depth row rest shallow low behind = behind row (omega (arith, low))
texts_keep (text ∷ texts) most depth row rest shallow low behind =
    rw (le-leb depth most shallow, le-leb row 1024 (omega (arith, low))) (texts_keep texts most depth row rest shallow low behind)

single_kept : (one : Single) → IsKept (single one)
single_kept (in_decimal number) = decimal_kept number
single_kept (in_hex digits number) = λ most depth row rest shallow low behind. one_more most depth row rest (omega (arith, shallow)) (omega (arith, low)) behind
single_kept (in_octal number) = λ most depth row rest shallow low behind. one_more most depth row rest (omega (arith, shallow)) (omega (arith, low)) behind
single_kept (in_binary digits number) = λ most depth row rest shallow low behind. one_more most depth row rest (omega (arith, shallow)) (omega (arith, low)) behind
single_kept (in_literal bytes) = λ most depth row rest shallow low behind. one_more most depth row rest (omega (arith, shallow)) (omega (arith, low)) behind
single_kept (in_text bytes) = λ most depth row rest shallow low behind. texts_keep (bytes ∷ []) most depth row rest (omega (arith, shallow)) low behind
single_kept (by_name name) = λ most depth row rest shallow low behind. one_more most depth row rest (omega (arith, shallow)) (omega (arith, low)) behind
single_kept (in_group numbers) = λ most depth row rest shallow low behind.
    ap (λ (x : List Shape). kept most depth row (x ++ rest)) (group_tokens numbers)
    ∙ braces_keep (number_prints numbers) (numbers_kept numbers) most depth row rest (omega (arith, shallow, numbers_flat numbers)) behind

mutual
  print_kept : (one : Print) → IsKept one
  print_kept (single one) = single_kept one
  print_kept (pieces hex first others) = λ most depth row rest shallow low behind. texts_keep (first ∷ others) most depth row rest (omega (arith, shallow)) low behind
  print_kept (block prints) = λ most depth row rest shallow low behind. braces_keep prints (list_kept prints) most depth row rest shallow behind
  print_kept (named_block name prints) = λ most depth row rest shallow low behind.
      one_more most depth row (braced (list_shapes prints) ++ rest) (omega (arith, shallow)) (omega (arith, low))
      (λ row low. braces_keep prints (list_kept prints) most depth row rest shallow behind)

  -- after a brace or a comma
  pub list_kept : (prints : Prints) (most depth : ℕ) (rest : List Shape) → depth + heights prints ≤ most → KeepsBehind most depth rest
      → kept most depth 0 (list_shapes prints ++ rest) ≡ true
  list_kept no_prints = none_kept
  list_kept (print one others) = first_kept one others (print_kept one) (list_kept others)
