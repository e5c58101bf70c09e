-- Words that are shown are reserved, so none of them is live after a program.
use Rattle.std.proofs.Common.{◌≡◌, ◌↔◌, ◌⊎◌, inl, inr, ℕ, Bool, true, false, if◌then◌else◌, List, [], ◌∷◌, Option, Some, None, refl, sym, ap, subst, ◌∙◌}
use Rattle.std.specs.Prelude.{◌==◌, ◌||◌, codes, is_some}
use Rattle.std.specs.Char.{to_ascii_lowercase}
use Rattle.std.specs.List.{AllByRecursion}
use Rattle.std.specs.Str.{bytes_eq, str_eq_ignore_ascii_case, str_to_ascii_lowercase}
use Rattle.std.proofs.lemmas.Bool.{eqb-true, false≢true}
use Rattle.rz_words.specs.Attribute.{attribute_word, bit_of, said_by, IsSaid}
use Rattle.rz_words.specs.Keyword.{keyword_of, spelling}
use Rattle.rz_words.specs.Words.{dollar_role, is_label, is_other_name, keyword_role, plain_role, role_of}
use Rattle.rz_words.specs.declared.attribute.Attribute.{Attribute}
use Rattle.rz_words.specs.declared.attribute.Attribute.TheVariants.{SystemHeap, Purgeable, Locked, Protected, Preload, Changed}
use Rattle.rz_words.specs.declared.attribute.AttributeWord.{AttributeWord}
use Rattle.rz_words.specs.declared.keyword.Keyword.{Keyword}
use Rattle.rz_words.specs.declared.keyword.Keyword.TheVariants as keywords
use Rattle.rz_words.specs.declared.words.Role.TheVariants.{OtherName}
use Rattle.rz_pre_laws.specs.Definitions.{IsFree, IsFreeName}
use Rattle.rz_pre.specs.Live.{Live}
use Rattle.rz_show_laws.specs.Statement.{shown_words}
use Rattle.rz_tools.specs.Again.{SparesWords}

-- The laws of the tables of words.

abbrev pub KeywordsAreSpelled : Type 0
KeywordsAreSpelled = (name : List ℕ) (keyword : Keyword) → (keyword_of name ≡ Some keyword) ↔ (str_eq_ignore_ascii_case name (spelling keyword) ≡ true)

abbrev pub AttributesAreSpelled : Type 0
AttributesAreSpelled = (name : List ℕ) (word : AttributeWord) → (attribute_word name ≡ Some word) ↔ IsSaid name word

-- a word that begins with a letter has the role of a plain word
plain_label : (word : List ℕ) (first : ℕ) (rest : List ℕ) → str_to_ascii_lowercase word ≡ first ∷ rest → (36 ≡ first → ⊥) → is_label (role_of word) ≡ true
    → is_label (plain_role word) ≡ true
plain_label [] first rest is other label = cc
plain_label (b ∷ bs) first rest is other label = by (b == 36) refl label
  where
    head_is : to_ascii_lowercase b ≡ first
    head_is = cc

    by : (test : Bool) → (b == 36) ≡ test → is_label (if test then dollar_role (b ∷ bs) bs else plain_role (b ∷ bs)) ≡ true → is_label (plain_role (b ∷ bs)) ≡ true
    by true is label = absurd (other (sym (ap to_ascii_lowercase (eqb-true b 36 is)) ∙ head_is))
    by false is label = label

no_keyword : (word : List ℕ) (keyword : Keyword) → keyword_of word ≡ Some keyword → is_label (plain_role word) ≡ true → ⊥
no_keyword word keyword is label = by (is_other_name word) label
  where
    by : (test : Bool) → is_label (if test then OtherName else keyword_role (keyword_of word)) ≡ true → ⊥
    by true label = false≢true label
    by false label = false≢true (subst (λ (o : Option Keyword). is_label (keyword_role o) ≡ true) is label)

no_attribute : (word : List ℕ) (said : AttributeWord) → attribute_word word ≡ Some said → is_label (plain_role word) ≡ true → ⊥
no_attribute word said is label = false≢true (rw is at label)

-- a word that isn't reserved isn't shown in any case
module _ (keywords_law : KeywordsAreSpelled) (attributes_law : AttributesAreSpelled) (word : List ℕ) (label : is_label (role_of word) ≡ true) where
  not_data : str_to_ascii_lowercase word ≡ codes "data" → ⊥
  not_data is =
      no_keyword word keywords.Data ((keywords_law word keywords.Data).1 (ap (λ (x : List ℕ). bytes_eq x (codes "data")) is))
      (plain_label word 100 _ is (λ e. cc) label)

  not_resource : str_to_ascii_lowercase word ≡ codes "resource" → ⊥
  not_resource is =
      no_keyword word keywords.Resource ((keywords_law word keywords.Resource).1 (ap (λ (x : List ℕ). bytes_eq x (codes "resource")) is))
      (plain_label word 114 _ is (λ e. cc) label)

  not_said : (attribute : Attribute) (first : ℕ) (rest : List ℕ) → said_by attribute true ≡ first ∷ rest → (36 ≡ first → ⊥)
      → bytes_eq (first ∷ rest) (str_to_ascii_lowercase (said_by attribute true)) ≡ true → str_to_ascii_lowercase word ≡ first ∷ rest → ⊥
  not_said attribute first rest spelled other same is =
      no_attribute word (record { bit = bit_of attribute; sets = true })
      ((attributes_law word (record { bit = bit_of attribute; sets = true })).1
      (attribute, true, ap (λ (x : List ℕ). bytes_eq x (str_to_ascii_lowercase (said_by attribute true))) is ∙ same, refl))
      (plain_label word first rest is other label)

  -- `true` and `false` aren't free either
  not_truth : (truth : List ℕ) (first : ℕ) (rest : List ℕ) → truth ≡ first ∷ rest → (36 ≡ first → ⊥) → is_other_name word ≡ true → str_to_ascii_lowercase word ≡ truth → ⊥
  not_truth truth first rest spelled other named is =
      false≢true (sym (ap (λ (test : Bool). is_label (if test then OtherName else keyword_role (keyword_of word))) named) ∙ plain_label word first rest (is ∙ spelled) other label)

  other_or : (first second third : Bool) → (second ≡ true) ⊎ (third ≡ true) → (first || second || third) ≡ true
  other_or true second third is = refl
  other_or false true third is = refl
  other_or false false third (inl is) = absurd (false≢true is)
  other_or false false third (inr is) = is

  not_true : str_to_ascii_lowercase word ≡ codes "true" → ⊥
  not_true is =
      not_truth (codes "true") 116 _ refl (λ e. cc) (other_or (is_some (attribute_word word)) _ _ (inl (ap (λ (x : List ℕ). bytes_eq x (codes "true")) is))) is

  not_false : str_to_ascii_lowercase word ≡ codes "false" → ⊥
  not_false is =
      not_truth (codes "false") 102 _ refl (λ e. cc) (other_or (is_some (attribute_word word)) _ _ (inr (ap (λ (x : List ℕ). bytes_eq x (codes "false")) is))) is

  pub not_shown : AllByRecursion (λ shown. str_to_ascii_lowercase word ≡ shown → ⊥) shown_words
  not_shown = (
    not_data,
    (
      not_resource,
      (
        not_said SystemHeap 115 _ refl (λ e. cc) refl,
        (
          not_said Purgeable 112 _ refl (λ e. cc) refl,
          (
            not_said Locked 108 _ refl (λ e. cc) refl,
            (
              not_said Protected 112 _ refl (λ e. cc) refl,
              (not_said Preload 112 _ refl (λ e. cc) refl, (not_said Changed 99 _ refl (λ e. cc) refl, (not_true, (not_false, tt)))),
            ),
          ),
        ),
      ),
    ),
  )

-- What is live.

module _ (live : Live) (free : (name : List ℕ) → (live name ≡ None) ⊎ IsFreeName name) where
  spared : (name : List ℕ) → ((word : List ℕ) → IsFree word → str_to_ascii_lowercase word ≡ name → ⊥) → is_some (live name) ≡ false
  spared name not = by (free name)
    where
      by : (live name ≡ None) ⊎ IsFreeName name → is_some (live name) ≡ false
      by (inl none) = ap is_some none
      by (inr (word, same, label)) = absurd (not word label same)

  -- each of these words, which are in lower case
  spared_each : (words : List (List ℕ)) → AllByRecursion (λ name. str_to_ascii_lowercase name ≡ name) words
      → ((word : List ℕ) → IsFree word → AllByRecursion (λ name. str_to_ascii_lowercase word ≡ name → ⊥) words)
      → AllByRecursion (λ name. is_some (live (str_to_ascii_lowercase name)) ≡ false) words
  spared_each [] lower not = tt
  spared_each (name ∷ names) lower not = (
    ap (λ (n : List ℕ). is_some (live n)) lower.0 ∙ spared name (λ word label. (not word label).0),
    spared_each names lower.1 (λ word label. (not word label).1),
  )

  pub words_spared : KeywordsAreSpelled → AttributesAreSpelled → SparesWords (λ name. is_some (live (str_to_ascii_lowercase name)))
  words_spared keywords_law attributes_law =
      spared_each shown_words (refl, (refl, (refl, (refl, (refl, (refl, (refl, (refl, (refl, (refl, tt))))))))))
      (λ word label. not_shown keywords_law attributes_law word label)
