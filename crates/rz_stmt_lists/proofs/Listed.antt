-- Statements over lists of resources are one at most, by their first words.
use Rattle.std.proofs.Common.{◌≡◌, ◌↔◌, ℕ, true, List, ◌∷◌, Some, sym, ap, subst, ◌∙◌}
use Rattle.std.specs.Str.{str_eq_ignore_ascii_case}
use Rattle.rz_core.proofs.Tests.{same_some, true_false}
use Rattle.rz_words.specs.Keyword.{keyword_of, spelling}
use Rattle.rz_expr.specs.Keyword.{is_keyword}
use Rattle.rz_words.specs.declared.keyword.Keyword.{Keyword}
use Rattle.rz_words.specs.declared.keyword.Keyword.TheVariants as keywords
use Rattle.rz_lex.specs.declared.token.Shape.{Shape}
use Rattle.rz_lex.specs.declared.token.Shape.TheVariants as shapes
use Rattle.rz_lex.specs.declared.token.Token.{Token}
use Rattle.rz_stmt_data.specs.Typed.{IsTyped, Typed}
use Rattle.rz_stmt_lists.specs.Change.{Change, IsChange}
use Rattle.rz_stmt_lists.specs.Delete.{Delete, IsDelete}
use Rattle.rz_stmt_lists.specs.Include.{Include, IsInclude}
use Rattle.rz_stmt_lists.specs.Lists.{changes, deletes, includes, reads, word_of, BeginsWith, Changes, Deletes, Includes, IsListed, ListForm, Reads}
use Rattle.rz_stmt_lists.specs.Read.{IsRead, Read}

-- a word and a type begin with the word
pub typed_begins : (keyword : Keyword) (tokens : List Token) (typed : Typed) → IsTyped keyword tokens typed → BeginsWith keyword tokens
typed_begins keyword tokens typed is = (is.word, is.kind ∷ typed.behind, is.are, is.is_word)

as_word : (tokens : List Token) (one form : ListForm) → one ≡ form → BeginsWith (word_of form) tokens → BeginsWith (word_of one) tokens
as_word tokens one form so begins = subst (λ (l : ListForm). BeginsWith (word_of l) tokens) (sym so) begins

pub begins_so : (tokens : List Token) (one : ListForm) → IsListed tokens one → BeginsWith (word_of one) tokens
begins_so tokens one (includes include is so) = as_word tokens one (Includes include) so (is.word, is.behind, is.are, is.is_word)
begins_so tokens one (reads read is so) = as_word tokens one (Reads read) so (typed_begins keywords.Read tokens _ is.typed)
begins_so tokens one (changes change is so) = as_word tokens one (Changes change) so (typed_begins keywords.Change tokens _ is.clause.typed)
begins_so tokens one (deletes delete is so) = as_word tokens one (Deletes delete) so (typed_begins keywords.Delete tokens _ is.clause.typed)

-- no reader found its statement
pub no_list : (tokens : List Token) → ((include : Include) → IsInclude tokens include → ⊥) → ((read : Read) → IsRead tokens read → ⊥)
    → ((change : Change) → IsChange tokens change → ⊥) → ((delete : Delete) → IsDelete tokens delete → ⊥) → (one : ListForm) → IsListed tokens one → ⊥
no_list tokens no_include no_read no_change no_delete one (includes include is so) = no_include include is
no_list tokens no_include no_read no_change no_delete one (reads read is so) = no_read read is
no_list tokens no_include no_read no_change no_delete one (changes change is so) = no_change change is
no_list tokens no_include no_read no_change no_delete one (deletes delete is so) = no_delete delete is

module _ (spelled : (name : List ℕ) (keyword : Keyword) → (keyword_of name ≡ Some keyword) ↔ (str_eq_ignore_ascii_case name (spelling keyword) ≡ true)) where
  -- a token is one keyword at most
  one_keyword : (a b : Keyword) (shape : Shape) → is_keyword a shape ≡ true → is_keyword b shape ≡ true → a ≡ b
  one_keyword a b (shapes.Word word) is also = same_some (keyword_of word.bytes) a b ((spelled word.bytes a).1 is) ((spelled word.bytes b).1 also)
  one_keyword a b (shapes.Number number) is also = absurd (true_false (sym is))
  one_keyword a b (shapes.Literal bytes) is also = absurd (true_false (sym is))
  one_keyword a b (shapes.Text bytes) is also = absurd (true_false (sym is))
  one_keyword a b (shapes.Sign sign) is also = absurd (true_false (sym is))

  -- tokens begin with one keyword at most
  pub one_beginning : (tokens : List Token) (a b : Keyword) → BeginsWith a tokens → BeginsWith b tokens → a ≡ b
  one_beginning tokens a b is also =
      one_keyword a b also.0.shape (ap (λ (t : Token). is_keyword a t.shape) (sym (heads (sym is.2 ∙ also.2))) ∙ is.3) also.3
    where
      heads : is.0 ∷ is.1 ≡ also.0 ∷ also.1 → is.0 ≡ also.0
      heads e = cc e

  -- both words, as they are known
  apart : (tokens : List Token) (a b : ListForm) → IsListed tokens a → IsListed tokens b → {x y : ListForm} → a ≡ x → b ≡ y → word_of x ≡ word_of y
  apart tokens a b is also so too = sym (ap word_of so) ∙ one_beginning tokens (word_of a) (word_of b) (begins_so tokens a is) (begins_so tokens b also) ∙ ap word_of too

  no_include_read : keywords.Include ≡ keywords.Read → ⊥
  no_include_read is = cc is

  no_include_change : keywords.Include ≡ keywords.Change → ⊥
  no_include_change is = cc is

  no_include_delete : keywords.Include ≡ keywords.Delete → ⊥
  no_include_delete is = cc is

  no_read_change : keywords.Read ≡ keywords.Change → ⊥
  no_read_change is = cc is

  no_read_delete : keywords.Read ≡ keywords.Delete → ⊥
  no_read_delete is = cc is

  no_change_delete : keywords.Change ≡ keywords.Delete → ⊥
  no_change_delete is = cc is

  module _ (one_include : (tokens : List Token) (a b : Include) → IsInclude tokens a → IsInclude tokens b → a ≡ b)
      (one_read : (tokens : List Token) (a b : Read) → IsRead tokens a → IsRead tokens b → a ≡ b)
      (one_change : (tokens : List Token) (a b : Change) → IsChange tokens a → IsChange tokens b → a ≡ b)
      (one_delete : (tokens : List Token) (a b : Delete) → IsDelete tokens a → IsDelete tokens b → a ≡ b) where
    pub one_listed : (tokens : List Token) (a b : ListForm) → IsListed tokens a → IsListed tokens b → a ≡ b
    one_listed tokens a b (includes x is so) (includes y also too) = so ∙ ap Includes (one_include tokens x y is also) ∙ sym too
    one_listed tokens a b (reads x is so) (reads y also too) = so ∙ ap Reads (one_read tokens x y is also) ∙ sym too
    one_listed tokens a b (changes x is so) (changes y also too) = so ∙ ap Changes (one_change tokens x y is also) ∙ sym too
    one_listed tokens a b (deletes x is so) (deletes y also too) = so ∙ ap Deletes (one_delete tokens x y is also) ∙ sym too
    one_listed tokens a b (includes x is so) (reads y also too) = absurd (no_include_read (apart tokens a b (includes x is so) (reads y also too) so too))
    one_listed tokens a b (includes x is so) (changes y also too) = absurd (no_include_change (apart tokens a b (includes x is so) (changes y also too) so too))
    one_listed tokens a b (includes x is so) (deletes y also too) = absurd (no_include_delete (apart tokens a b (includes x is so) (deletes y also too) so too))
    one_listed tokens a b (reads x is so) (includes y also too) = absurd (no_include_read (sym (apart tokens a b (reads x is so) (includes y also too) so too)))
    one_listed tokens a b (reads x is so) (changes y also too) = absurd (no_read_change (apart tokens a b (reads x is so) (changes y also too) so too))
    one_listed tokens a b (reads x is so) (deletes y also too) = absurd (no_read_delete (apart tokens a b (reads x is so) (deletes y also too) so too))
    one_listed tokens a b (changes x is so) (includes y also too) = absurd (no_include_change (sym (apart tokens a b (changes x is so) (includes y also too) so too)))
    one_listed tokens a b (changes x is so) (reads y also too) = absurd (no_read_change (sym (apart tokens a b (changes x is so) (reads y also too) so too)))
    one_listed tokens a b (changes x is so) (deletes y also too) = absurd (no_change_delete (apart tokens a b (changes x is so) (deletes y also too) so too))
    one_listed tokens a b (deletes x is so) (includes y also too) = absurd (no_include_delete (sym (apart tokens a b (deletes x is so) (includes y also too) so too)))
    one_listed tokens a b (deletes x is so) (reads y also too) = absurd (no_read_delete (sym (apart tokens a b (deletes x is so) (reads y also too) so too)))
    one_listed tokens a b (deletes x is so) (changes y also too) = absurd (no_change_delete (sym (apart tokens a b (deletes x is so) (changes y also too) so too)))
