-- A word that names what isn't necessarily a label names no tool: `rez` and `derez` are reserved, in whatever case.
use Rattle.std.proofs.Common.{◌≡◌, ℕ, Bool, true, false, if◌then◌else◌, List, [], ◌∷◌, Some, None, refl, sym, ap, ◌∙◌}
use Rattle.std.specs.Prelude.{◌==◌, ◌||◌, codes, is_some}
use Rattle.std.specs.Char.{to_ascii_lowercase}
use Rattle.std.specs.Str.{bytes_eq, str_eq_ignore_ascii_case, str_to_ascii_lowercase}
use Rattle.std.proofs.lemmas.Bool.{eqb-true, false≢true}
use Rattle.std.proofs.lemmas.Slice.Eq.{bytes_eq-Decides}
use Rattle.rz_words.specs.Attribute.{attribute_among, attribute_word, bit_of, clearing_word, every_attribute, setting_word}
use Rattle.rz_words.specs.Keyword.{every_keyword, keyword_of, spelled_among, spelling}
use Rattle.rz_words.specs.Words.{dollar_role, is_name, keyword_role, plain_role, role_of}
use Rattle.rz_words.specs.declared.attribute.Attribute.{Attribute}
use Rattle.rz_words.specs.declared.keyword.Keyword.{Keyword}
use Rattle.rz_words.specs.declared.words.Role.TheVariants.{OtherName}
use Rattle.rz_lex.specs.Printed.{word_of}
use Rattle.rz_tools_work.specs.ToolWords.{tool_in}

-- What a plain word may be doesn't depend on case.

module _ (name other : List ℕ) (same : str_to_ascii_lowercase name ≡ str_to_ascii_lowercase other) where
  same_test : (word : List ℕ) → str_eq_ignore_ascii_case name word ≡ str_eq_ignore_ascii_case other word
  same_test word = ap (λ (x : List ℕ). bytes_eq x (str_to_ascii_lowercase word)) same

  same_attribute : (attributes : List Attribute) → attribute_among attributes name ≡ attribute_among attributes other
  same_attribute [] = refl
  same_attribute (attribute ∷ others) = λ i.
      if same_test (setting_word attribute) i then Some (record { bit = bit_of attribute; sets = true })
      else if same_test (clearing_word attribute) i then Some (record { bit = bit_of attribute; sets = false })
      else same_attribute others i

  same_keyword : (words : List Keyword) → spelled_among words name ≡ spelled_among words other
  same_keyword [] = refl
  same_keyword (keyword ∷ others) = λ i. if same_test (spelling keyword) i then Some keyword else same_keyword others i

  same_role : plain_role name ≡ plain_role other
  unfolding attribute_word keyword_of
  same_role = λ i.
      if is_some (same_attribute every_attribute i) || same_test (codes "true") i || same_test (codes "false") i
      then OtherName else keyword_role (same_keyword every_keyword i)

-- The words of the tools.

rez_role : is_name (plain_role (codes "rez")) ≡ false
unfolding attribute_word keyword_of
rez_role = refl

derez_role : is_name (plain_role (codes "derez")) ≡ false
unfolding attribute_word keyword_of
derez_role = refl

-- a word that begins with a letter has the role of a plain word
plain_name : (word : List ℕ) (first : ℕ) (rest : List ℕ) → str_to_ascii_lowercase word ≡ first ∷ rest → (36 ≡ first → ⊥) → is_name (role_of word) ≡ true
    → is_name (plain_role word) ≡ true
plain_name [] first rest is other named = cc
plain_name (b ∷ bs) first rest is other named = by (b == 36) refl named
  where
    head_is : to_ascii_lowercase b ≡ first
    head_is = cc

    by : (test : Bool) → (b == 36) ≡ test → is_name (if test then dollar_role (b ∷ bs) bs else plain_role (b ∷ bs)) ≡ true → is_name (plain_role (b ∷ bs)) ≡ true
    by true is named = absurd (other (sym (ap to_ascii_lowercase (eqb-true b 36 is)) ∙ head_is))
    by false is named = named

not_named : (word tool : List ℕ) (first : ℕ) (rest : List ℕ) → tool ≡ first ∷ rest → (36 ≡ first → ⊥) → str_to_ascii_lowercase tool ≡ tool → is_name (plain_role tool) ≡ false
    → is_name (role_of word) ≡ true → str_eq_ignore_ascii_case word tool ≡ false
not_named word tool first rest spelled other lower none named = by (str_eq_ignore_ascii_case word tool) refl
  where
    by : (test : Bool) → str_eq_ignore_ascii_case word tool ≡ test → test ≡ false
    by false is = refl
    by true is =
        let same : str_to_ascii_lowercase word ≡ str_to_ascii_lowercase tool = (bytes_eq-Decides (str_to_ascii_lowercase word) (str_to_ascii_lowercase tool)).0 is in
        let plain = plain_name word first rest (same ∙ lower ∙ spelled) other named in
        absurd (false≢true (sym none ∙ sym (ap is_name (same_role word tool same)) ∙ plain))

pub names_no_tool : (word : List ℕ) → is_name (role_of word) ≡ true → tool_in (word_of word) ≡ None
names_no_tool word named =
    rw (
      not_named word (codes "rez") 114 _ refl (λ e. cc) refl rez_role named,
      not_named word (codes "derez") 100 _ refl (λ e. cc) refl derez_role named,
    ) refl
