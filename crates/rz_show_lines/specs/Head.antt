-- The parts of a header that stand on one line: the word, the type and the id, and the attributes. (As MPW DeRez shows
-- them.)
use Rattle.std.specs.Prelude.{ℕ, ℤ, ◌/◌, ◌%◌, nat_le, ◌==◌, ◌||◌, if◌then◌else◌, List, [], ◌∷◌, ◌++◌}
use Rattle.rz_core.specs.Numbers.{be}
use Rattle.rz_lex.specs.declared.sign.Sign.TheVariants as signs
use Rattle.rz_words.specs.Attribute.{bit_of, setting_word}
use Rattle.rz_words.specs.declared.attribute.Attribute.{Attribute}
use Rattle.rz_words.specs.declared.attribute.Attribute.TheVariants.{Changed, Locked, Preload, Protected, Purgeable, SystemHeap}
use Rattle.rz_show_lines.specs.Print.{signed_written}
use Rattle.rz_show_lines.specs.Written.{a_blank, a_hex_byte, a_literal, a_sign, a_word, Written}

-- something more stands after a comma
abbrev pub after_comma : List Written → List Written
after_comma more = a_sign signs.Comma ∷ a_blank ∷ more

-- the word of an attribute, where its bit is set
abbrev pub word_written : ℕ → Attribute → List Written
word_written attr attribute = if attr / bit_of attribute % 2 == 1 then after_comma (a_word (setting_word attribute) ∷ []) else []

-- the attributes that are set: by their words, or as a number where the bit 80 or 01 is set, which have no word
abbrev pub attr_written : ℕ → List Written
attr_written attr =
    if attr == 0 then []
    else if nat_le 128 attr || (attr % 2 == 1) then after_comma (a_hex_byte attr ∷ [])
    else word_written attr SystemHeap ++ word_written attr Purgeable ++ word_written attr Locked
    ++ word_written attr Protected ++ word_written attr Preload ++ word_written attr Changed

-- the word, the type and the id
unfoldable pub head_front : (word : List ℕ) → (code : ℕ) → (id : ℤ) → List Written
head_front word code id = a_word word ∷ a_blank ∷ a_literal (be 4 code) ∷ a_blank ∷ a_sign signs.OpenParen ∷ signed_written id
