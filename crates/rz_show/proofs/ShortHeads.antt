-- The lines that begin a statement are short, and so are those of a text.
use Rattle.std.proofs.Common.{◌≡◌, ℕ, zero, suc, ◌-◌, ◌<◌, ◌≤◌, ℤ, pos, negsuc, Bool, true, false, List, [], ◌∷◌, ◌++◌, length, arith}
use Rattle.std.specs.Prelude.{nat_le, ◌==◌, ◌||◌, ◌%◌, ◌/◌, FitsSigned}
use Rattle.std.specs.Int.{w16}
use Rattle.std.specs.List.{AllByRecursion}
use Rattle.std.proofs.lemmas.Bool.Decides.{nat_tests}
use Rattle.std.proofs.lemmas.Int.{ints}
use Rattle.rz_core.proofs.Tests.{by_test}
use Rattle.rz_core.specs.Numbers.{be, length-be_4}
use Rattle.rz_lex.specs.declared.sign.Sign.TheVariants as signs
use Rattle.rz_words.specs.Attribute.{bit_of, setting_word}
use Rattle.rz_words.specs.declared.attribute.Attribute.{Attribute}
use Rattle.rz_words.specs.declared.attribute.Attribute.TheVariants.{Changed, Locked, Preload, Protected, Purgeable, SystemHeap}
use Rattle.rz_show.specs.Head.{head_end, head_lines, name_lines}
use Rattle.rz_show_lines.specs.Head.{after_comma, attr_written, head_front, word_written}
use Rattle.rz_show_lines.specs.Cut.{IsShort}
use Rattle.rz_show_lines.specs.Pieces.{in_pieces, text_pieces}
use Rattle.rz_show_lines.specs.Print.{signed_written}
use Rattle.rz_show_lines.specs.Written.{a_blank, a_literal, a_sign, a_text, a_word}
use Rattle.rz_show_lines.proofs.ShortItems.{is_short, pieces_short, IsPiece}
use Rattle.rz_show_lines.proofs.ShortTokens.{negative_short, positive_short, quoted_short, size, size_both, size_one}

-- Pieces.

-- the first piece has no more bytes than its room, and the others no more than their size
pieces_few : (most size room : ℕ) (bytes : List ℕ) → 0 < size → size ≤ most
    → (length (in_pieces size room bytes).first ≤ room) × AllByRecursion (λ piece. length piece ≤ most) (in_pieces size room bytes).others
pieces_few most size room [] some small = (omega arith, tt)
pieces_few most size (suc room) (b ∷ bytes) some small = let rest = pieces_few most size room bytes some small in (omega (arith, rest.0), rest.1)
pieces_few most size zero (b ∷ bytes) some small =
    let rest = pieces_few most size (size - 1) bytes some small in (omega arith, (omega (arith, rest.0, some, small), rest.1))

pub text_few : (hex : Bool) (bytes : List ℕ) → AllByRecursion IsPiece ((text_pieces hex bytes).first ∷ (text_pieces hex bytes).others)
text_few true bytes = let each = pieces_few 64 16 16 bytes (omega arith) (omega arith) in (omega (arith, each.0), each.1)
text_few false bytes = pieces_few 64 64 64 bytes (omega arith) (omega arith)

-- Attributes.

setting_size : (attribute : Attribute) → length (setting_word attribute) ≤ 9
setting_size SystemHeap = omega arith
setting_size Purgeable = omega arith
setting_size Locked = omega arith
setting_size Protected = omega arith
setting_size Preload = omega arith
setting_size Changed = omega arith

word_size : (attr : ℕ) (attribute : Attribute) → size (word_written attr attribute) ≤ 11
word_size attr attribute = by_test (size (word_written attr attribute) ≤ 11) (attr / bit_of attribute % 2 == 1)
    (λ h. rw h (omega (arith, size_one (a_word (setting_word attribute)) [], setting_size attribute)))
    (λ h. rw h (omega arith))

words_size : (attr : ℕ)
    → size (word_written attr SystemHeap ++ word_written attr Purgeable ++ word_written attr Locked ++ word_written attr Protected ++ word_written attr Preload ++ word_written attr Changed) ≤ 66
words_size attr =
    let two = word_written attr SystemHeap ++ word_written attr Purgeable in
    let three = two ++ word_written attr Locked in
    let four = three ++ word_written attr Protected in
    let five = four ++ word_written attr Preload in
    omega (
      arith,
      size_both (word_written attr SystemHeap) (word_written attr Purgeable),
      size_both two (word_written attr Locked),
      size_both three (word_written attr Protected),
      size_both four (word_written attr Preload),
      size_both five (word_written attr Changed),
      word_size attr SystemHeap,
      word_size attr Purgeable,
      word_size attr Locked,
      word_size attr Protected,
      word_size attr Preload,
      word_size attr Changed,
    )

attr_size : (attr : ℕ) → size (attr_written attr) ≤ 66
attr_size attr = by_test (size (attr_written attr) ≤ 66) (attr == 0)
    (λ h. rw h (omega arith))
    (λ h. by_test (size (attr_written attr) ≤ 66) (nat_le 128 attr || (attr % 2 == 1)) (λ k. rw (h, k) (omega arith)) (λ k. rw (h, k) (words_size attr)))

end_size : (attr : ℕ) → size (head_end attr) ≤ 69
unfolding head_end
end_size attr = omega (arith, size_both (attr_written attr) (a_sign signs.CloseParen ∷ a_blank ∷ a_sign signs.OpenBrace ∷ []), attr_size attr)

-- Heads.

id_size : (id : ℤ) → FitsSigned w16 id → size (signed_written id) ≤ 11
id_size (pos n) fits = positive_short n (omega (arith, ints, fits))
id_size (negsuc n) fits = negative_short n (omega (arith, ints, fits))

front_size : (word : List ℕ) (code : ℕ) (id : ℤ) → length word ≤ 8 → FitsSigned w16 id → size (head_front word code id) ≤ 44
unfolding head_front
front_size word code id few fits =
    let number = a_blank ∷ a_sign signs.OpenParen ∷ signed_written id in
    let kind = a_blank ∷ a_literal (be 4 code) ∷ number in
    omega (arith, size_one (a_word word) kind, size_one (a_literal (be 4 code)) number, quoted_short 39 (be 4 code), length-be_4 code, id_size id fits, few)

name_short : (attr : ℕ) (name : List ℕ) → AllByRecursion IsShort (name_lines name attr)
name_short attr name = pieces_short 1 (head_end attr) false (text_pieces false name).first (text_pieces false name).others (end_size attr) (text_few false name)

pub head_short : (word : List ℕ) (code : ℕ) (id : ℤ) (name : List ℕ) (attr : ℕ) → length word ≤ 8 → FitsSigned w16 id → AllByRecursion IsShort (head_lines word code id name attr)
unfolding head_lines
head_short word code id name attr few fits =
    let front = head_front word code id in
    let front_few = front_size word code id few fits in
    by_test (AllByRecursion IsShort (head_lines word code id name attr)) (length name == 0)
    (λ h. rw h (is_short (front ++ head_end attr) (omega (arith, size_both front (head_end attr), front_few, end_size attr)), tt))
    (λ h. by_test (AllByRecursion IsShort (head_lines word code id name attr)) (nat_le (length name) 64)
    (λ k. let rest = a_text name ∷ head_end attr in
    let small : length name ≤ 64 = low (length name) k in
    rw (h, k) (is_short (front ++ after_comma rest) (omega (arith, size_both front (after_comma rest), size_one (a_text name) (head_end attr), quoted_short 34 name, front_few, end_size attr, small)), tt))
    (λ k. rw (h, k) (is_short (front ++ a_sign signs.Comma ∷ []) (omega (arith, size_both front (a_sign signs.Comma ∷ []), front_few)), name_short attr name)))
  where
    low : (n : ℕ) → nat_le n 64 ≡ true → n ≤ 64
    low n is = grind (arith, nat_tests)
