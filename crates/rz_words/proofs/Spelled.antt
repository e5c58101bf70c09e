-- The words of the tables are read as what they are, in whatever case.
use Rattle.std.proofs.Common.{◌≡◌, ℕ, Bool, true, false, if◌then◌else◌, List, [], ◌∷◌, Option, Some, refl, sym, ap, ◌∙◌}
use Rattle.std.specs.Prelude.{◌↔◌}
use Rattle.std.proofs.lemmas.Option.{same_Some}
use Rattle.std.proofs.lemmas.Slice.Eq.{bytes_eq-Decides}
use Rattle.std.specs.Str.{bytes_eq, str_eq_ignore_ascii_case, str_to_ascii_lowercase}
use Rattle.rz_words.specs.Attribute.{attribute_among, attribute_word, bit_of, clearing_word, every_attribute, said_by, setting_word, IsSaid}
use Rattle.rz_words.specs.Keyword.{every_keyword, keyword_of, spelled_among, spelling}
use Rattle.rz_words.specs.Words.{role_of}
use Rattle.rz_words.specs.declared.attribute.Attribute.{Attribute}
use Rattle.rz_words.specs.declared.attribute.Attribute.TheVariants as attributes
use Rattle.rz_words.specs.declared.attribute.AttributeWord.{AttributeWord}
use Rattle.rz_words.specs.declared.keyword.Keyword.{Keyword}
use Rattle.rz_words.specs.declared.keyword.Keyword.TheVariants as keywords
use Rattle.rz_words.specs.declared.words.Role.TheVariants.{OtherName, Reserved}

pub same_lower : (name other : List ℕ) → str_eq_ignore_ascii_case name other ≡ true → str_to_ascii_lowercase name ≡ str_to_ascii_lowercase other
same_lower name other is = (bytes_eq-Decides (str_to_ascii_lowercase name) (str_to_ascii_lowercase other)).0 is

-- Keywords.

among_same : (ks : List Keyword) (name other : List ℕ) → str_to_ascii_lowercase name ≡ str_to_ascii_lowercase other → spelled_among ks name ≡ spelled_among ks other
among_same [] name other same = refl
among_same (k ∷ ks) name other same = λ j. if bytes_eq (same j) (str_to_ascii_lowercase (spelling k)) then Some k else among_same ks name other same j

pub keyword_same : (name other : List ℕ) → str_eq_ignore_ascii_case name other ≡ true → keyword_of name ≡ keyword_of other
unfolding keyword_of
keyword_same name other is = among_same every_keyword name other (same_lower name other is)

first_or : (x k : Keyword) (name : List ℕ) (rest : Option Keyword) (test : Bool) → str_eq_ignore_ascii_case name (spelling x) ≡ test
    → (if test then Some x else rest) ≡ Some k → (rest ≡ Some k → str_eq_ignore_ascii_case name (spelling k) ≡ true) → str_eq_ignore_ascii_case name (spelling k) ≡ true
first_or x k name rest true is found others = ap (λ (y : Keyword). str_eq_ignore_ascii_case name (spelling y)) (sym (same_Some x k found)) ∙ is
first_or x k name rest false is found others = others found

among_spelled : (ks : List Keyword) (name : List ℕ) (k : Keyword) → spelled_among ks name ≡ Some k → str_eq_ignore_ascii_case name (spelling k) ≡ true
among_spelled [] name k found = cc
among_spelled (x ∷ ks) name k found =
    first_or x k name (spelled_among ks name) (str_eq_ignore_ascii_case name (spelling x)) refl found (λ later. among_spelled ks name k later)

own_spelling : (k : Keyword) → keyword_of (spelling k) ≡ Some k
unfolding keyword_of
own_spelling keywords.Kind = refl
own_spelling keywords.Resource = refl
own_spelling keywords.Data = refl
own_spelling keywords.Include = refl
own_spelling keywords.Read = refl
own_spelling keywords.Change = refl
own_spelling keywords.Delete = refl
own_spelling keywords.As = refl
own_spelling keywords.To = refl
own_spelling keywords.Not = refl
own_spelling keywords.Array = refl
own_spelling keywords.Wide = refl
own_spelling keywords.Switch = refl
own_spelling keywords.Case = refl
own_spelling keywords.Key = refl
own_spelling keywords.Fill = refl
own_spelling keywords.Align = refl
own_spelling keywords.Bit = refl
own_spelling keywords.Nibble = refl
own_spelling keywords.Byte = refl
own_spelling keywords.Word = refl
own_spelling keywords.Long = refl
own_spelling keywords.Integer = refl
own_spelling keywords.Longint = refl
own_spelling keywords.Bitstring = refl
own_spelling keywords.Boolean = refl
own_spelling keywords.Char = refl
own_spelling keywords.String = refl
own_spelling keywords.Pstring = refl
own_spelling keywords.Wstring = refl
own_spelling keywords.Cstring = refl
own_spelling keywords.Point = refl
own_spelling keywords.Rect = refl
own_spelling keywords.Hex = refl
own_spelling keywords.Decimal = refl
own_spelling keywords.Octal = refl
own_spelling keywords.Binary = refl
own_spelling keywords.Literal = refl
own_spelling keywords.Unsigned = refl
own_spelling keywords.Defined = refl
own_spelling keywords.Rez = refl
own_spelling keywords.DeRez = refl

spelled_so : (name : List ℕ) (k : Keyword) → keyword_of name ≡ Some k → str_eq_ignore_ascii_case name (spelling k) ≡ true
unfolding keyword_of
spelled_so name k found = among_spelled every_keyword name k found

pub keyword_is : (name : List ℕ) (k : Keyword) → (keyword_of name ≡ Some k) ↔ (str_eq_ignore_ascii_case name (spelling k) ≡ true)
keyword_is name k = (spelled_so name k, λ is. keyword_same name (spelling k) is ∙ own_spelling k)

pub one_keyword : (one other : Keyword) → str_eq_ignore_ascii_case (spelling one) (spelling other) ≡ true → one ≡ other
one_keyword one other is = same_Some one other (sym (own_spelling one) ∙ keyword_same (spelling one) (spelling other) is ∙ own_spelling other)

pub keyword_reserved : (k : Keyword) → role_of (spelling k) ≡ Reserved k
unfolding keyword_of attribute_word
keyword_reserved keywords.Kind = refl
keyword_reserved keywords.Resource = refl
keyword_reserved keywords.Data = refl
keyword_reserved keywords.Include = refl
keyword_reserved keywords.Read = refl
keyword_reserved keywords.Change = refl
keyword_reserved keywords.Delete = refl
keyword_reserved keywords.As = refl
keyword_reserved keywords.To = refl
keyword_reserved keywords.Not = refl
keyword_reserved keywords.Array = refl
keyword_reserved keywords.Wide = refl
keyword_reserved keywords.Switch = refl
keyword_reserved keywords.Case = refl
keyword_reserved keywords.Key = refl
keyword_reserved keywords.Fill = refl
keyword_reserved keywords.Align = refl
keyword_reserved keywords.Bit = refl
keyword_reserved keywords.Nibble = refl
keyword_reserved keywords.Byte = refl
keyword_reserved keywords.Word = refl
keyword_reserved keywords.Long = refl
keyword_reserved keywords.Integer = refl
keyword_reserved keywords.Longint = refl
keyword_reserved keywords.Bitstring = refl
keyword_reserved keywords.Boolean = refl
keyword_reserved keywords.Char = refl
keyword_reserved keywords.String = refl
keyword_reserved keywords.Pstring = refl
keyword_reserved keywords.Wstring = refl
keyword_reserved keywords.Cstring = refl
keyword_reserved keywords.Point = refl
keyword_reserved keywords.Rect = refl
keyword_reserved keywords.Hex = refl
keyword_reserved keywords.Decimal = refl
keyword_reserved keywords.Octal = refl
keyword_reserved keywords.Binary = refl
keyword_reserved keywords.Literal = refl
keyword_reserved keywords.Unsigned = refl
keyword_reserved keywords.Defined = refl
keyword_reserved keywords.Rez = refl
keyword_reserved keywords.DeRez = refl

-- Attribute words.

said_same : (attributes : List Attribute) (name other : List ℕ) → str_to_ascii_lowercase name ≡ str_to_ascii_lowercase other
    → attribute_among attributes name ≡ attribute_among attributes other
said_same [] name other same = refl
said_same (a ∷ others) name other same = λ j.
    if bytes_eq (same j) (str_to_ascii_lowercase (setting_word a)) then Some (record { bit = bit_of a; sets = true })
    else if bytes_eq (same j) (str_to_ascii_lowercase (clearing_word a)) then Some (record { bit = bit_of a; sets = false })
    else said_same others name other same j

attribute_same : (name other : List ℕ) → str_eq_ignore_ascii_case name other ≡ true → attribute_word name ≡ attribute_word other
unfolding attribute_word
attribute_same name other is = said_same every_attribute name other (same_lower name other is)

own_word : (a : Attribute) (sets : Bool) → attribute_word (said_by a sets) ≡ Some (record { bit = bit_of a; sets = sets })
unfolding attribute_word
own_word attributes.SystemHeap true = refl
own_word attributes.SystemHeap false = refl
own_word attributes.Purgeable true = refl
own_word attributes.Purgeable false = refl
own_word attributes.Locked true = refl
own_word attributes.Locked false = refl
own_word attributes.Protected true = refl
own_word attributes.Protected false = refl
own_word attributes.Preload true = refl
own_word attributes.Preload false = refl
own_word attributes.Changed true = refl
own_word attributes.Changed false = refl

is_said : (a : Attribute) (sets : Bool) (name : List ℕ) (word : AttributeWord) → str_eq_ignore_ascii_case name (said_by a sets) ≡ true
    → Some (record { bit = bit_of a; sets = sets }) ≡ Some word → IsSaid name word
is_said a sets name word is same = (a, sets, is, sym (same_Some (record { bit = bit_of a; sets = sets }) word same))

said_or : (a : Attribute) (name : List ℕ) (word : AttributeWord) (rest : Option AttributeWord) (sets clears : Bool)
    → str_eq_ignore_ascii_case name (setting_word a) ≡ sets → str_eq_ignore_ascii_case name (clearing_word a) ≡ clears
    → (if sets then Some (record { bit = bit_of a; sets = true }) else if clears then Some (record { bit = bit_of a; sets = false }) else rest) ≡ Some word
    → (rest ≡ Some word → IsSaid name word) → IsSaid name word
said_or a name word rest true clears is_set is_cleared found others = is_said a true name word is_set found
said_or a name word rest false true is_set is_cleared found others = is_said a false name word is_cleared found
said_or a name word rest false false is_set is_cleared found others = others found

among_said : (attributes : List Attribute) (name : List ℕ) (word : AttributeWord) → attribute_among attributes name ≡ Some word → IsSaid name word
among_said [] name word found = cc
among_said (a ∷ others) name word found =
    said_or a name word (attribute_among others name) (str_eq_ignore_ascii_case name (setting_word a)) (str_eq_ignore_ascii_case name (clearing_word a)) refl refl found
    (λ later. among_said others name word later)

said_so : (name : List ℕ) (word : AttributeWord) → attribute_word name ≡ Some word → IsSaid name word
unfolding attribute_word
said_so name word found = among_said every_attribute name word found

pub attribute_is : (name : List ℕ) (word : AttributeWord) → (attribute_word name ≡ Some word) ↔ IsSaid name word
attribute_is name word = (
  said_so name word,
  λ said.
      attribute_same name (said_by said.0 said.1) said.2 ∙ own_word said.0 said.1 ∙ ap (λ (w : AttributeWord). Some w) (sym said.3),
)

pub attribute_other_name : (a : Attribute) (sets : Bool) → role_of (said_by a sets) ≡ OtherName
unfolding attribute_word
attribute_other_name attributes.SystemHeap true = refl
attribute_other_name attributes.SystemHeap false = refl
attribute_other_name attributes.Purgeable true = refl
attribute_other_name attributes.Purgeable false = refl
attribute_other_name attributes.Locked true = refl
attribute_other_name attributes.Locked false = refl
attribute_other_name attributes.Protected true = refl
attribute_other_name attributes.Protected false = refl
attribute_other_name attributes.Preload true = refl
attribute_other_name attributes.Preload false = refl
attribute_other_name attributes.Changed true = refl
attribute_other_name attributes.Changed false = refl
