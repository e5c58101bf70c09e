-- The attributes and the id of a head: how many bytes they have at most.
use Rattle.std.proofs.Common.{ℕ, ◌≤◌, ℤ, pos, negsuc, [], ◌++◌, length, arith}
use Rattle.std.specs.Prelude.{nat_le, ◌==◌, ◌||◌, ◌%◌, ◌/◌, FitsSigned}
use Rattle.std.specs.Int.{w16}
use Rattle.std.proofs.lemmas.Int.{ints}
use Rattle.rz_core.proofs.Tests.{by_test}
use Rattle.rz_words.specs.Attribute.{bit_of, setting_word}
use Rattle.rz_words.specs.declared.attribute.Attribute.{Attribute}
use Rattle.rz_words.specs.declared.attribute.Attribute.TheVariants.{Changed, Locked, Preload, Protected, Purgeable, SystemHeap}
use Rattle.rz_show_lines.specs.Head.{attr_written, word_written}
use Rattle.rz_show_lines.specs.Print.{signed_written}
use Rattle.rz_show_lines.specs.Written.{a_word}
use Rattle.rz_show_lines.proofs.ShortTokens.{negative_short, positive_short, size, size_both, size_one}

-- Attributes.

setting_size : (attribute : Attribute) → length (setting_word attribute) ≤ 9
setting_size SystemHeap = omega arith
setting_size Purgeable = omega arith
setting_size Locked = omega arith
setting_size Protected = omega arith
setting_size Preload = omega arith
setting_size Changed = omega arith

word_size : (attr : ℕ) (attribute : Attribute) → size (word_written attr attribute) ≤ 11
word_size attr attribute = by_test (size (word_written attr attribute) ≤ 11) (attr / bit_of attribute % 2 == 1)
    (λ h. rw h (omega (arith, size_one (a_word (setting_word attribute)) [], setting_size attribute)))
    (λ h. rw h (omega arith))

words_size : (attr : ℕ)
    → size (word_written attr SystemHeap ++ word_written attr Purgeable ++ word_written attr Locked ++ word_written attr Protected ++ word_written attr Preload ++ word_written attr Changed) ≤ 66
words_size attr =
    let two = word_written attr SystemHeap ++ word_written attr Purgeable in
    let three = two ++ word_written attr Locked in
    let four = three ++ word_written attr Protected in
    let five = four ++ word_written attr Preload in
    omega (
      arith,
      size_both (word_written attr SystemHeap) (word_written attr Purgeable),
      size_both two (word_written attr Locked),
      size_both three (word_written attr Protected),
      size_both four (word_written attr Preload),
      size_both five (word_written attr Changed),
      word_size attr SystemHeap,
      word_size attr Purgeable,
      word_size attr Locked,
      word_size attr Protected,
      word_size attr Preload,
      word_size attr Changed,
    )

pub attr_size : (attr : ℕ) → size (attr_written attr) ≤ 66
attr_size attr = by_test (size (attr_written attr) ≤ 66) (attr == 0)
    (λ h. rw h (omega arith))
    (λ h. by_test (size (attr_written attr) ≤ 66) (nat_le 128 attr || (attr % 2 == 1)) (λ k. rw (h, k) (omega arith)) (λ k. rw (h, k) (words_size attr)))

-- Ids.

pub id_size : (id : ℤ) → FitsSigned w16 id → size (signed_written id) ≤ 11
id_size (pos n) fits = positive_short n (omega (arith, ints, fits))
id_size (negsuc n) fits = negative_short n (omega (arith, ints, fits))
