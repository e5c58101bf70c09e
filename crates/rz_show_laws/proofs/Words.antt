-- The words of statements that are shown.
use Rattle.std.proofs.Common.{◌≡◌, ℕ, ℤ, pos, negsuc, Bool, true, false, ◌&&◌, List, [], ◌∷◌, ◌++◌, map, refl, sym, ap, subst}
use Rattle.std.specs.Prelude.{◌==◌, ◌||◌, ◌/◌, ◌%◌, nat_le, not}
use Rattle.std.specs.List.{list_any, AllByRecursion}
use Rattle.std.specs.Str.{bytes_eq}
use Rattle.std.proofs.lemmas.List.Concat.{flat_map-cons}
use Rattle.rz_core.proofs.Lists.{all_append}
use Rattle.rz_core.proofs.Tests.{and_so, by_test}
use Rattle.rz_core.specs.declared.resource.Resource.{Resource}
use Rattle.rz_stmt_data.specs.Head.{Attribute}
use Rattle.rz_words.specs.Attribute.{bit_of, setting_word}
use Rattle.rz_words.specs.Words.{is_name, role_of}
use Rattle.rz_words.specs.declared.attribute.Attribute as words
use Rattle.rz_words.specs.declared.attribute.Attribute.TheVariants.{Changed, Locked, Preload, Protected, Purgeable, SystemHeap}
use Rattle.rz_lex.specs.Printed.{word_of}
use Rattle.rz_lex.specs.declared.sign.Sign.TheVariants as signs
use Rattle.rz_lex.specs.declared.token.Shape.{Shape}
use Rattle.rz_lex.specs.declared.token.Shape.TheVariants as shapes
use Rattle.rz_show_lines.specs.Print.{block, by_name, comma, in_binary, in_decimal, in_group, in_hex, in_literal, in_octal, in_text, named_block, no_prints, pieces, print, single, single_written, Print, Prints, Single}
use Rattle.rz_show_lines.specs.Good.{AreGood, IsGood}
use Rattle.rz_show_lines.specs.Written.{line_shapes, IsPut}
use Rattle.rz_show_laws.specs.Statement.{attribute_part, attributes_of, is_shown, shown_words}
use Rattle.rz_show_lines.proofs.Tokens.{braced, group_tokens, list_shapes, number_prints, print_shapes}
use Rattle.rz_show_laws.proofs.Items.{AreNamingPrints, IsNaming, IsNamingPrint, IsNamingSingle}
use Rattle.rz_show_laws.proofs.Shapes.{attribute_tokens, after_commas, id_shapes, name_pieces, shape_alone, statement_shapes, text_shapes}

or_so : (a b : Bool) → b ≡ true → (a || b) ≡ true
or_so true b is = refl
or_so false b is = is

module _ (hidden : List ℕ → Bool) where
  pub record AreWords (tokens : List Shape) : Type 0 where
    pub each : AllByRecursion (λ shape. is_shown hidden shape ≡ true) tokens

  pub words_both : {front back : List Shape} → AreWords front → AreWords back → AreWords (front ++ back)
  words_both {front} {back} first second = record { each = all_append (λ shape. is_shown hidden shape ≡ true) front back first.each second.each }

  words_first : {shape : Shape} {tokens : List Shape} → is_shown hidden shape ≡ true → AreWords tokens → AreWords (shape ∷ tokens)
  words_first is rest = record { each = (is, rest.each) }

  no_words : AreWords []
  no_words = record { each = tt }

  text_words : (texts : List (List ℕ)) → AreWords (text_shapes texts)
  text_words [] = no_words
  text_words (text ∷ texts) = words_first refl (text_words texts)

  id_words : (id : ℤ) → AreWords (id_shapes id)
  id_words (pos n) = words_first refl no_words
  id_words (negsuc n) = words_first refl (words_first refl no_words)

  record AreAttributeWords (attributes : List (Shape × Attribute)) : Type 0 where
    each : AreWords (attribute_tokens attributes)

  attribute_words_both : {front back : List (Shape × Attribute)} → AreAttributeWords front → AreAttributeWords back → AreAttributeWords (front ++ back)
  attribute_words_both {front} {back} first second = record { each = go front first.each }
    where
      go : (front : List (Shape × Attribute)) → AreWords (attribute_tokens front) → AreWords (attribute_tokens (front ++ back))
      go [] first = second.each
      go (a ∷ front) first = words_first refl (words_first first.each.1.0 (go front (record { each = first.each.1.1 })))

  one_attribute_word : (attr : ℕ) (attribute : words.Attribute) → is_shown hidden (word_of (setting_word attribute)) ≡ true → AreAttributeWords (attribute_part attr attribute)
  one_attribute_word attr attribute is = by_test (AreAttributeWords (attribute_part attr attribute)) (attr / bit_of attribute % 2 == 1)
      (λ h. rw h (record { each = words_first refl (words_first is no_words) }))
      (λ h. rw h (record { each = no_words }))

  attribute_words : (attr : ℕ) → AreAttributeWords (attributes_of attr)
  attribute_words attr = by_test (AreAttributeWords (attributes_of attr)) (attr == 0)
      (λ h. rw h (record { each = no_words }))
      (λ h. by_test (AreAttributeWords (attributes_of attr)) (nat_le 128 attr || (attr % 2 == 1))
      (λ k. rw (h, k) (record { each = words_first refl (words_first refl no_words) }))
      (λ k. rw (h, k) (attribute_words_both (attribute_words_both (attribute_words_both (attribute_words_both (attribute_words_both
      (one_attribute_word attr SystemHeap refl) (one_attribute_word attr Purgeable refl))
      (one_attribute_word attr Locked refl)) (one_attribute_word attr Protected refl))
      (one_attribute_word attr Preload refl)) (one_attribute_word attr Changed refl))))

  head_words : (name : List (List ℕ)) (attributes : List (Shape × Attribute)) → AreAttributeWords attributes → AreWords (after_commas (name_pieces name ++ map shape_alone attributes))
  head_words [] attributes words = words.each
  head_words (piece ∷ name) attributes words =
      subst AreWords (sym (flat_map-cons (λ (piece : List Shape). shapes.Sign signs.Comma ∷ piece) (text_shapes (piece ∷ name)) (map shape_alone attributes)))
      (words_first refl (words_both (text_words (piece ∷ name)) words.each))

  pub statement_words : (said : List ℕ) → is_shown hidden (word_of said) ≡ true → (r : Resource) (name : List (List ℕ)) (inside : List Shape) → AreWords inside → AreWords (statement_shapes said r name inside)
  statement_words said is r name inside words =
      words_first is (words_first refl (words_first refl (words_both (id_words r.id) (words_both (head_words name (attributes_of r.attr) (attribute_words r.attr))
      (words_first refl (words_first refl (words_both words (words_first refl (words_first refl no_words)))))))))

  -- Printed items.

  name_shown : (name : List ℕ) → IsNaming name → hidden name ≡ false → is_shown hidden (word_of name) ≡ true
  name_shown name naming seen =
      or_so (list_any (λ shown. bytes_eq shown name) shown_words) (is_name (role_of name) && not (hidden name)) (and_so (is_name (role_of name)) (not (hidden name)) naming (ap not seen))

  decimal_words : (number : ℤ) → AreWords (print_shapes (single (in_decimal number)))
  decimal_words (pos n) = words_first refl no_words
  decimal_words (negsuc n) = words_first refl (words_first refl no_words)

  comma_words : (others : Prints) → AreWords (line_shapes (comma others))
  comma_words no_prints = no_words
  comma_words (print one others) = words_first refl no_words

  in_front : (one : Print) (others : Prints) → AreWords (print_shapes one) → AreWords (list_shapes others) → AreWords (list_shapes (print one others))
  in_front one others first rest = words_both first (words_both (comma_words others) rest)

  braced_words : {inside : List Shape} → AreWords inside → AreWords (braced inside)
  braced_words words = words_first refl (words_both words (words_first refl no_words))

  numbers_words : (numbers : List ℤ) → AreWords (list_shapes (number_prints numbers))
  numbers_words [] = no_words
  numbers_words (number ∷ numbers) = in_front (single (in_decimal number)) (number_prints numbers) (decimal_words number) (numbers_words numbers)

  single_words : (one : Single) → AllByRecursion (IsPut hidden) (single_written one) → IsNamingSingle one → AreWords (print_shapes (single one))
  single_words (in_decimal number) good naming = decimal_words number
  single_words (in_hex digits number) good naming = words_first refl no_words
  single_words (in_octal number) good naming = words_first refl no_words
  single_words (in_binary digits number) good naming = words_first refl no_words
  single_words (in_literal bytes) good naming = words_first refl no_words
  single_words (in_text bytes) good naming = words_first refl no_words
  single_words (by_name name) good naming = words_first (name_shown name naming good.0.1) no_words
  single_words (in_group numbers) good naming = subst AreWords (sym (group_tokens numbers)) (braced_words (numbers_words numbers))

  mutual
    print_words : (one : Print) → IsGood hidden one → IsNamingPrint one → AreWords (print_shapes one)
    print_words (single one) good naming = single_words one good naming
    print_words (pieces hex first others) good naming = text_words (first ∷ others)
    print_words (block items) good naming = braced_words (list_words items good naming)
    print_words (named_block name items) good naming = words_first (name_shown name naming.0 good.1) (braced_words (list_words items good.2 naming.1))

    pub list_words : (prints : Prints) → AreGood hidden prints → AreNamingPrints prints → AreWords (list_shapes prints)
    list_words no_prints good naming = no_words
    list_words (print one others) good naming = in_front one others (print_words one good.0 naming.0) (list_words others good.1 naming.1)
