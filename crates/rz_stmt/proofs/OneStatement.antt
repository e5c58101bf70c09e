-- Tokens are one statement at most, by their first words.
use Rattle.std.proofs.Common.{◌≡◌, ◌↔◌, ◌⊎◌, ℕ, true, false, inl, inr, List, [], ◌∷◌, Some, Ok, refl, sym, ap, subst, ◌∙◌}
use Rattle.std.specs.declared.result.Result.{Result}
use Rattle.std.specs.Str.{str_eq_ignore_ascii_case}
use Rattle.rz_core.proofs.Tests.{true_false}
use Rattle.rz_core.specs.Stop.{◌>>=◌}
use Rattle.rz_core.specs.declared.fault.Fault.{Fault}
use Rattle.rz_lex.specs.declared.token.Shape.{Shape}
use Rattle.rz_lex.specs.declared.token.Shape.TheVariants as shapes
use Rattle.rz_lex.specs.declared.token.Token.{Token}
use Rattle.rz_stmt_brackets.specs.Statements.{is_empty, is_semicolon}
use Rattle.rz_stmt_data.specs.Raw.{IsRaw, Raw}
use Rattle.rz_stmt_items.specs.Compile.{Compile, IsCompile}
use Rattle.rz_stmt_lists.proofs.Listed.{one_beginning, typed_begins}
use Rattle.rz_stmt_lists.specs.Lists.{word_of, BeginsWith, Changes, Deletes, Includes, IsListed, ListForm, Reads}
use Rattle.rz_stmt_type.specs.Constants.{declared}
use Rattle.rz_stmt_type.specs.Declare.{IsDeclare}
use Rattle.rz_stmt_fields.specs.Form.{DeclareForm}
use Rattle.rz_words.specs.Keyword.{keyword_of, spelling}
use Rattle.rz_expr.specs.Keyword.{is_keyword}
use Rattle.rz_words.specs.declared.keyword.Keyword.{Keyword}
use Rattle.rz_words.specs.declared.keyword.Keyword.TheVariants as keywords
use Rattle.rz_stmt.specs.Grammar.{alone, beyond, data_statement, list_statement, mark_of, none, resource_statement, statement, type_statement, Compiles, Data, Declares, Empty, IsStatement, Lists, Parses, Statement}

-- The kind of a statement, by its first word.

data Kind : Type 0 where
  OfData : Kind
  OfList : Kind
  OfResource : Kind
  OfType : Kind

abbrev kind_by : Keyword → Kind
kind_by keywords.Data = OfData
kind_by keywords.Resource = OfResource
kind_by keywords.Kind = OfType
kind_by keyword = OfList

kind_of_list : (one : ListForm) → kind_by (word_of one) ≡ OfList
kind_of_list (Includes include) = refl
kind_of_list (Reads read) = refl
kind_of_list (Changes change) = refl
kind_of_list (Deletes delete) = refl

-- the tokens are a statement of the kind: it, or the first fault of its constants
abbrev Says : Kind → List Token → Result Statement Fault → Type 0
Says OfData tokens answer = (one : Raw) × IsRaw tokens one × (answer ≡ Ok (Data one))
Says OfList tokens answer = (one : ListForm) × IsListed tokens one × (answer ≡ Ok (Lists one))
Says OfResource tokens answer = (one : Compile) × IsCompile tokens one × (answer ≡ Ok (Compiles one))
Says OfType tokens answer = (form : DeclareForm) × IsDeclare tokens form × (answer ≡ (declared (mark_of tokens) form >>= (λ made. Ok (Declares made))))

-- they are a `;` alone, or begin with a word and are a statement of its kind
abbrev IsAlone : List Token → Result Statement Fault → Type 0
IsAlone tokens answer = (is_empty tokens ≡ true) × (answer ≡ Ok Empty)

abbrev IsWorded : List Token → Result Statement Fault → Type 0
IsWorded tokens answer = (keyword : Keyword) × BeginsWith keyword tokens × Says (kind_by keyword) tokens answer

-- a word is no `;`
no_semicolon : (keyword : Keyword) (shape : Shape) → is_keyword keyword shape ≡ true → is_semicolon shape ≡ false
no_semicolon keyword (shapes.Word word) is = refl
no_semicolon keyword (shapes.Number number) is = refl
no_semicolon keyword (shapes.Literal bytes) is = refl
no_semicolon keyword (shapes.Text bytes) is = refl
no_semicolon keyword (shapes.Sign sign) is = absurd (true_false (sym is))

behind_word : (keyword : Keyword) (word : Token) (rest : List Token) → is_keyword keyword word.shape ≡ true → is_empty (word ∷ rest) ≡ false
behind_word keyword word [] is = no_semicolon keyword word.shape is
behind_word keyword word (next ∷ others) is = refl

no_empty : (tokens : List Token) (keyword : Keyword) → BeginsWith keyword tokens → is_empty tokens ≡ true → ⊥
no_empty tokens keyword begins empty = true_false (sym empty ∙ ap is_empty begins.2 ∙ behind_word keyword begins.0 begins.1 begins.3)

module _ (spelled : (name : List ℕ) (keyword : Keyword) → (keyword_of name ≡ Some keyword) ↔ (str_eq_ignore_ascii_case name (spelling keyword) ≡ true))
    (one_raw : (tokens : List Token) (a b : Raw) → IsRaw tokens a → IsRaw tokens b → a ≡ b)
    (one_list : (tokens : List Token) (a b : ListForm) → IsListed tokens a → IsListed tokens b → a ≡ b)
    (one_compile : (tokens : List Token) (a b : Compile) → IsCompile tokens a → IsCompile tokens b → a ≡ b)
    (one_declare : (tokens : List Token) (a b : DeclareForm) → IsDeclare tokens a → IsDeclare tokens b → a ≡ b)
    (list_begins : (tokens : List Token) (one : ListForm) → IsListed tokens one → BeginsWith (word_of one) tokens) where
  worded : (tokens : List Token) (a : Result Statement Fault) → IsStatement tokens a → IsAlone tokens a ⊎ IsWorded tokens a
  worded tokens a (alone is says) = inl (is, says)
  worded tokens a (data_statement one is says) = inr (keywords.Data, typed_begins keywords.Data tokens _ is.frame.typed, (one, is, says))
  worded tokens a (list_statement one is says) = inr (word_of one, list_begins tokens one is, subst (λ (kind : Kind). Says kind tokens a) (sym (kind_of_list one)) (one, is, says))
  worded tokens a (resource_statement one is says) = inr (keywords.Resource, typed_begins keywords.Resource tokens _ is.frame.typed, (one, is, says))
  worded tokens a (type_statement form is says) = inr (keywords.Kind, typed_begins keywords.Kind tokens _ is.typed, (form, is, says))

  -- two statements of one kind
  one_said : (kind : Kind) (tokens : List Token) (a b : Result Statement Fault) → Says kind tokens a → Says kind tokens b → a ≡ b
  one_said OfData tokens a b (one, is, says) (other, also, tells) = says ∙ ap (λ (r : Raw). Ok (Data r)) (one_raw tokens one other is also) ∙ sym tells
  one_said OfList tokens a b (one, is, says) (other, also, tells) = says ∙ ap (λ (l : ListForm). Ok (Lists l)) (one_list tokens one other is also) ∙ sym tells
  one_said OfResource tokens a b (one, is, says) (other, also, tells) = says ∙ ap (λ (r : Compile). Ok (Compiles r)) (one_compile tokens one other is also) ∙ sym tells
  one_said OfType tokens a b (one, is, says) (other, also, tells) =
      says ∙ ap (λ (f : DeclareForm). declared (mark_of tokens) f >>= (λ made. Ok (Declares made))) (one_declare tokens one other is also) ∙ sym tells

  one_by : (tokens : List Token) (a b : Result Statement Fault) → IsAlone tokens a ⊎ IsWorded tokens a → IsAlone tokens b ⊎ IsWorded tokens b → a ≡ b
  one_by tokens a b (inl (is, says)) (inl (also, tells)) = says ∙ sym tells
  one_by tokens a b (inl (is, says)) (inr (keyword, begins, also)) = absurd (no_empty tokens keyword begins is)
  one_by tokens a b (inr (keyword, begins, is)) (inl (also, tells)) = absurd (no_empty tokens keyword begins also)
  one_by tokens a b (inr (keyword, begins, is)) (inr (word, starts, also)) =
      let same : keyword ≡ word = one_beginning spelled tokens keyword word begins starts in
      one_said (kind_by word) tokens a b (subst (λ (k : Keyword). Says (kind_by k) tokens a) same is) also

  one_of : (tokens : List Token) (a b : Result Statement Fault) → IsStatement tokens a → IsStatement tokens b → a ≡ b
  one_of tokens a b is also = one_by tokens a b (worded tokens a is) (worded tokens b also)

  pub one_answer : (tokens : List Token) (a b : Result Statement Fault) → Parses tokens a → Parses tokens b → a ≡ b
  one_answer tokens a b (beyond past says) (beyond also tells) = says ∙ sym tells
  one_answer tokens a b (beyond past says) (statement within is) = let never : true ≡ false = sym within ∙ past in cc
  one_answer tokens a b (beyond past says) (none within never tells) = let never : true ≡ false = sym within ∙ past in cc
  one_answer tokens a b (statement within is) (beyond past tells) = let never : true ≡ false = sym within ∙ past in cc
  one_answer tokens a b (statement within is) (statement also_within also) = one_of tokens a b is also
  one_answer tokens a b (statement within is) (none also_within never tells) = absurd (never a is)
  one_answer tokens a b (none within never says) (beyond past tells) = let never : true ≡ false = sym within ∙ past in cc
  one_answer tokens a b (none within never says) (statement also_within also) = absurd (never b also)
  one_answer tokens a b (none within never says) (none also_within also tells) = says ∙ sym tells
