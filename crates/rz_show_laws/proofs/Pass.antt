-- The tokens of printed items divide nothing.
use Rattle.std.proofs.Common.{ℤ, pos, negsuc, List, [], ◌∷◌, ◌++◌, refl, sym, subst}
use Rattle.rz_lex.specs.Printed.{word_of}
use Rattle.rz_lex.specs.declared.token.Shape.TheVariants as shapes
use Rattle.rz_show_laws.proofs.HeadTokens.{texts_are_inner}
use Rattle.rz_show_lines.proofs.Tokens.{braced, group_tokens, list_shapes, number_prints, print_shapes}
use Rattle.rz_show_lines.specs.Print.{block, by_name, comma, in_binary, in_decimal, in_group, in_hex, in_literal, in_octal, in_text, named_block, no_prints, pieces, print, single, Print, Prints, Single}
use Rattle.rz_show_lines.specs.Written.{line_shapes}
use Rattle.rz_show_laws.proofs.Walks.{anywhere, braced_passes, comma_passes, inner_passes, inside, passes_both, passes_inside, passes_none, Passes}

number_passes : (number : ℤ) → Passes anywhere (print_shapes (single (in_decimal number)))
number_passes (pos number) = inner_passes (shapes.Number number ∷ []) (refl, tt)
number_passes (negsuc number) = inner_passes (print_shapes (single (in_decimal (negsuc number)))) (refl, (refl, tt))

behind_passes : (others : Prints) → Passes inside (line_shapes (comma others))
behind_passes no_prints = passes_none
behind_passes (print one others) = comma_passes

-- an item in front of others
first_passes : (one : Print) (others : Prints) → Passes anywhere (print_shapes one) → Passes inside (list_shapes others) → Passes inside (list_shapes (print one others))
first_passes one others first rest =
    passes_both (print_shapes one) (line_shapes (comma others) ++ list_shapes others) (passes_inside (print_shapes one) first)
    (passes_both (line_shapes (comma others)) (list_shapes others) (behind_passes others) rest)

numbers_pass : (numbers : List ℤ) → Passes inside (list_shapes (number_prints numbers))
numbers_pass [] = passes_none
numbers_pass (number ∷ numbers) = first_passes (single (in_decimal number)) (number_prints numbers) (number_passes number) (numbers_pass numbers)

single_passes : (one : Single) → Passes anywhere (print_shapes (single one))
single_passes (in_decimal number) = number_passes number
single_passes (in_hex digits number) = inner_passes (shapes.Number number ∷ []) (refl, tt)
single_passes (in_octal number) = inner_passes (shapes.Number number ∷ []) (refl, tt)
single_passes (in_binary digits number) = inner_passes (shapes.Number number ∷ []) (refl, tt)
single_passes (in_literal bytes) = inner_passes (shapes.Literal bytes ∷ []) (refl, tt)
single_passes (in_text bytes) = inner_passes (shapes.Text bytes ∷ []) (refl, tt)
single_passes (by_name name) = inner_passes (word_of name ∷ []) (refl, tt)
single_passes (in_group numbers) =
    subst (Passes anywhere) (sym (group_tokens numbers)) (braced_passes (list_shapes (number_prints numbers)) (numbers_pass numbers))

mutual
  pub print_passes : (one : Print) → Passes anywhere (print_shapes one)
  print_passes (single one) = single_passes one
  print_passes (pieces hex first others) = inner_passes (print_shapes (pieces hex first others)) (texts_are_inner (first ∷ others))
  print_passes (block prints) = braced_passes (list_shapes prints) (list_passes prints)
  print_passes (named_block name prints) =
      passes_both (word_of name ∷ []) (braced (list_shapes prints)) (inner_passes (word_of name ∷ []) (refl, tt)) (braced_passes (list_shapes prints) (list_passes prints))

  pub list_passes : (prints : Prints) → Passes inside (list_shapes prints)
  list_passes no_prints = passes_none
  list_passes (print one others) = first_passes one others (print_passes one) (list_passes others)
