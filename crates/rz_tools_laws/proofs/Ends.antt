-- What is a statement has a `;` outside all brackets.
use Rattle.std.proofs.Common.{◌≡◌, ◌≤◌, ℕ, ◌+◌, true, inl, inr, List, [], ◌∷◌, ◌++◌, map, Option, Some, Ok, refl, sym, subst, ◌∙◌, arith, append_assoc}
use Rattle.std.specs.Prelude.{◌==◌}
use Rattle.std.specs.List.{AllByRecursion}
use Rattle.std.specs.declared.result.Result.{Result}
use Rattle.std.proofs.lemmas.Bool.{eqb-true, or_right}
use Rattle.rz_core.proofs.Tests.{both, none_some, true_false}
use Rattle.rz_core.specs.declared.fault.Fault.{Fault}
use Rattle.rz_expr.specs.Keyword.{is_keyword}
use Rattle.rz_words.specs.declared.keyword.Keyword.{Keyword}
use Rattle.rz_words.specs.declared.keyword.Keyword.TheVariants as keywords
use Rattle.rz_lex.specs.declared.sign.Sign.TheVariants as signs
use Rattle.rz_lex.specs.declared.token.Shape.{Shape}
use Rattle.rz_lex.specs.declared.token.Shape.TheVariants as shapes
use Rattle.rz_lex.specs.declared.token.Token.{Token}
use Rattle.rz_stmt.specs.Grammar.{alone, beyond, data_statement, list_statement, none, resource_statement, statement, type_statement, Parses, Statement}
use Rattle.rz_stmt.specs.Grammar as grammar
use Rattle.rz_stmt_brackets.specs.Bracket.{closer, opens, IsBracketed}
use Rattle.rz_stmt_brackets.specs.Kind.{kind_in}
use Rattle.rz_stmt_brackets.specs.Pieces.{divides, Parted}
use Rattle.rz_stmt_brackets.specs.Statements.{has_end, is_empty, is_end, open_behind, open_behind_all, AreStatements}
use Rattle.rz_stmt_brackets.specs.declared.bracket.Bracket.{Bracket}
use Rattle.rz_stmt_brackets.specs.declared.bracket.Bracket.TheVariants.{Curly, Round, Square}
use Rattle.rz_stmt_data.specs.Frame.{Frame, IsFrame}
use Rattle.rz_stmt_data.specs.Typed.{IsTyped, Typed}
use Rattle.rz_stmt_fields.specs.Form.{MadeForm, ScopeForm}
use Rattle.rz_stmt_lists.specs.Brackets.{given, left_out, IsMaybe}
use Rattle.rz_stmt_lists.specs.Clause.{Clause, IsClause}
use Rattle.rz_stmt_lists.specs.Include.{all, all_but, chosen, renamed, Include, IsInclude, IsPart, Part}
use Rattle.rz_stmt_lists.specs.Lists.{changes, deletes, includes, reads, IsListed, ListForm}
use Rattle.rz_stmt_lists.specs.Pick.{Pick}
use Rattle.rz_stmt_lists.specs.Read.{IsRead, Read}
use Rattle.rz_stmt_lists.specs.Renaming.{IsRenaming, Renaming}
use Rattle.rz_stmt_type.specs.Declare.{copied, copied_of, for_any, for_ids, in_braces, IsMade, IsScoped}

-- such a `;` is among the tokens
abbrev Ends : List Token → Type 0
Ends tokens = has_end 0 tokens ≡ true

-- What stands in front of it.

empty_ends : (tokens : List Token) → is_empty tokens ≡ true → Ends tokens
empty_ends [] is = absurd (true_false (sym is))
empty_ends (token ∷ []) is = rw is refl
empty_ends (token ∷ next ∷ rest) is = absurd (true_false (sym is))

-- some tokens, after which no bracket is open
front_ends : (front rest : List Token) (count : ℕ) → has_end (open_behind_all front count) rest ≡ true → has_end count (front ++ rest) ≡ true
front_ends [] rest count ends = ends
front_ends (token ∷ front) rest count ends = or_right (is_end token.shape count) _ (front_ends front rest (open_behind token.shape count) ends)

-- a token that is no bracket
one_ends : (token : Token) (rest : List Token) → open_behind token.shape 0 ≡ 0 → Ends rest → Ends (token ∷ rest)
one_ends token rest flat ends = or_right (is_end token.shape 0) _ (rw flat ends)

word_flat : (keyword : Keyword) (shape : Shape) → is_keyword keyword shape ≡ true → open_behind shape 0 ≡ 0
word_flat keyword (shapes.Word word) is = refl
word_flat keyword (shapes.Number number) is = refl
word_flat keyword (shapes.Literal bytes) is = refl
word_flat keyword (shapes.Text bytes) is = refl
word_flat keyword (shapes.Sign sign) is = absurd (true_false (sym is))

kind_flat : (shape : Shape) (code : ℕ) → kind_in shape ≡ Some code → open_behind shape 0 ≡ 0
kind_flat (shapes.Word word) code is = refl
kind_flat (shapes.Number number) code is = refl
kind_flat (shapes.Literal bytes) code is = refl
kind_flat (shapes.Text bytes) code is = refl
kind_flat (shapes.Sign sign) code is = absurd (none_some code is)

-- Brackets.

-- where one bracket more is open in front, at most one more is open after
one_more : (shape : Shape) (n m : ℕ) → n ≤ 1 + m → open_behind shape n ≤ 1 + open_behind shape m
one_more (shapes.Sign signs.OpenParen) n m few = omega (arith, few)
one_more (shapes.Sign signs.OpenBracket) n m few = omega (arith, few)
one_more (shapes.Sign signs.OpenBrace) n m few = omega (arith, few)
one_more (shapes.Sign signs.CloseParen) n m few = omega (arith, few)
one_more (shapes.Sign signs.CloseBracket) n m few = omega (arith, few)
one_more (shapes.Sign signs.CloseBrace) n m few = omega (arith, few)
one_more _ n m few = few

all_more : (tokens : List Token) (n m : ℕ) → n ≤ 1 + m → open_behind_all tokens n ≤ 1 + open_behind_all tokens m
all_more [] n m few = few
all_more (token ∷ tokens) n m few = all_more tokens (open_behind token.shape n) (open_behind token.shape m) (one_more token.shape n m few)

opened_one : (bracket : Bracket) (shape : Shape) → opens bracket shape ≡ true → open_behind shape 0 ≡ 1
opened_one Round (shapes.Sign signs.OpenParen) is = refl
opened_one Square (shapes.Sign signs.OpenBracket) is = refl
opened_one Curly (shapes.Sign signs.OpenBrace) is = refl
opened_one Round _ is = absurd (true_false (sym is))
opened_one Square _ is = absurd (true_false (sym is))
opened_one Curly _ is = absurd (true_false (sym is))

closed_one : (bracket : Bracket) (shape : Shape) (count : ℕ) → divides (closer bracket) shape ≡ true → count ≤ 1 → open_behind shape count ≡ 0
closed_one Round (shapes.Sign signs.CloseParen) count is few = omega (arith, few)
closed_one Square (shapes.Sign signs.CloseBracket) count is few = omega (arith, few)
closed_one Curly (shapes.Sign signs.CloseBrace) count is few = omega (arith, few)
closed_one Round _ count is few = absurd (true_false (sym is))
closed_one Square _ count is few = absurd (true_false (sym is))
closed_one Curly _ count is few = absurd (true_false (sym is))

-- what stands in brackets, and a `;` after them
bracketed_ends : (bracket : Bracket) (tokens : List Token) (parted : Parted) → IsBracketed bracket tokens parted → Ends parted.behind → Ends tokens
bracketed_ends bracket tokens parted is ends =
    let sign = is.closes.sign in
    let parts = both (divides (closer bracket) sign.shape) (open_behind_all parted.front 0 == 0) is.closes.divides in
    let shut : open_behind sign.shape (open_behind_all parted.front 1) ≡ 0 =
    closed_one bracket sign.shape (open_behind_all parted.front 1) parts.0
    (omega (arith, all_more parted.front 1 0 (omega arith), eqb-true (open_behind_all parted.front 0) 0 parts.1)) in
    let within : has_end 1 (parted.front ++ sign ∷ parted.behind) ≡ true =
    front_ends parted.front (sign ∷ parted.behind) 1 (or_right (is_end sign.shape (open_behind_all parted.front 1)) _ (rw shut ends)) in
    subst Ends (sym is.are)
    (or_right (is_end is.opener.shape 0) _ (rw (opened_one bracket is.opener.shape is.opens) (subst (λ (ts : List Token). has_end 1 ts ≡ true) (sym is.closes.are) within)))

-- brackets, or none
maybe_ends : (tokens : List Token) (inside : Option (List Token)) (rest : List Token) → IsMaybe tokens inside rest → Ends rest → Ends tokens
maybe_ends tokens inside rest (left_out begins inside_is is) ends = subst Ends is ends
maybe_ends tokens inside rest (given parted brackets inside_is is) ends = bracketed_ends Round tokens parted brackets (subst Ends is ends)

-- a word and a type
typed_ends : (keyword : Keyword) (tokens : List Token) (typed : Typed) → IsTyped keyword tokens typed → Ends typed.behind → Ends tokens
typed_ends keyword tokens typed is ends =
    subst Ends (sym is.are)
    (one_ends is.word (is.kind ∷ typed.behind) (word_flat keyword is.word.shape is.is_word)
    (one_ends is.kind typed.behind (kind_flat is.kind.shape typed.kind is.has_kind) ends))

clause_ends : (keyword : Keyword) (tokens : List Token) (clause : Clause) → IsClause keyword tokens clause → Ends clause.rest → Ends tokens
clause_ends keyword tokens clause is ends =
    typed_ends keyword tokens (record { kind = clause.kind; behind = is.behind }) is.typed (maybe_ends is.behind clause.inside clause.rest is.in_brackets ends)

-- the texts of a file
texts_ends : (file rest : List Token) (texts : List (List ℕ)) → map (λ token. token.shape) file ≡ map shapes.Text texts → Ends rest → Ends (file ++ rest)
texts_ends [] rest texts are ends = ends
texts_ends (token ∷ file) rest [] are ends = absurd (cc are)
texts_ends (token ∷ file) rest (text ∷ texts) are ends =
    let first : token.shape ≡ shapes.Text text = cc are in
    one_ends token (file ++ rest) (rw first refl) (texts_ends file rest texts (cc are) ends)

-- The statements.

frame_ends : (keyword : Keyword) (tokens : List Token) (frame : Frame) → IsFrame keyword tokens frame → Ends tokens
frame_ends keyword tokens frame is =
    let body = is.has_body in
    typed_ends keyword tokens (record { kind = frame.kind; behind = is.behind }) is.typed
    (bracketed_ends Round is.behind is.brackets is.in_brackets
    (bracketed_ends Curly is.brackets.behind body.0 body.1 (empty_ends body.0.behind body.2)))

renaming_ends : (keyword : Keyword) (pick : Pick) (tokens : List Token) (renaming : Renaming)
    → IsRenaming keyword pick tokens renaming → Ends tokens
renaming_ends keyword pick tokens renaming is = clause_ends keyword tokens _ is.clause (empty_ends is.rest is.ends)

part_ends : (tokens : List Token) (part : Part) → IsPart tokens part → Ends tokens
part_ends tokens part (all is so) = empty_ends tokens is
part_ends tokens part (all_but word kind behind code are is_word has_kind is so) =
    subst Ends (sym are) (one_ends word (kind ∷ behind) (word_flat keywords.Not word.shape is_word) (one_ends kind behind (kind_flat kind.shape code has_kind) (empty_ends behind is)))
part_ends tokens part (chosen kind behind code inside rest pick are has_kind maybe picked is so) =
    subst Ends (sym are) (one_ends kind behind (kind_flat kind.shape code has_kind) (maybe_ends behind inside rest maybe (empty_ends rest is)))
part_ends tokens part (renamed kind behind code inside rest pick renaming are has_kind maybe picked becomes so) =
    subst Ends (sym are) (one_ends kind behind (kind_flat kind.shape code has_kind) (maybe_ends behind inside rest maybe (renaming_ends _ pick rest renaming becomes)))

include_ends : (tokens : List Token) (include : Include) → IsInclude tokens include → Ends tokens
include_ends tokens include is =
    subst Ends (sym is.are)
    (one_ends is.word is.behind (word_flat keywords.Include is.word.shape is.is_word)
    (subst Ends (sym is.names) (texts_ends is.file is.rest is.has_file.texts is.has_file.are (part_ends is.rest include.part is.has_part))))

read_ends : (tokens : List Token) (read : Read) → IsRead tokens read → Ends tokens
read_ends tokens read is =
    let named = is.names in
    typed_ends _ tokens (record { kind = read.kind; behind = is.behind }) is.typed
    (bracketed_ends Round is.behind is.parted is.in_brackets
    (subst Ends (sym named.are) (texts_ends named.file named.rest named.has_file.texts named.has_file.are (empty_ends named.rest named.ends))))

listed_ends : (tokens : List Token) (one : ListForm) → IsListed tokens one → Ends tokens
listed_ends tokens one (includes include is so) = include_ends tokens include is
listed_ends tokens one (reads read is so) = read_ends tokens read is
listed_ends tokens one (changes change is so) = clause_ends _ tokens _ is.clause (renaming_ends _ change.pick is.rest _ is.becomes)
listed_ends tokens one (deletes delete is so) = clause_ends _ tokens _ is.clause (empty_ends is.rest is.ends)

made_ends : (tokens : List Token) (made : MadeForm) → IsMade tokens made → Ends tokens
made_ends tokens made (in_braces parted body is empty fields so) = bracketed_ends Curly tokens parted is (empty_ends parted.behind empty)
made_ends tokens made (copied behind code typed empty so) = typed_ends _ tokens _ typed (empty_ends behind empty)
made_ends tokens made (copied_of behind code parted id typed is empty constant so) =
    typed_ends _ tokens _ typed (bracketed_ends Round behind parted is (empty_ends parted.behind empty))

scoped_ends : (tokens : List Token) (scope : ScopeForm) (made : MadeForm) → IsScoped tokens scope made → Ends tokens
scoped_ends tokens scope made (for_any so is) = made_ends tokens made is
scoped_ends tokens scope made (for_ids parted brackets ids is) = bracketed_ends Round tokens parted brackets (made_ends parted.behind made is)

statement_ends : (tokens : List Token) (answer : Result Statement Fault) → grammar.IsStatement tokens answer → Ends tokens
statement_ends tokens answer (alone is so) = empty_ends tokens is
statement_ends tokens answer (data_statement one is so) = frame_ends _ tokens _ is.frame
statement_ends tokens answer (list_statement one is so) = listed_ends tokens one is
statement_ends tokens answer (resource_statement one is so) = frame_ends _ tokens _ is.frame
statement_ends tokens answer (type_statement form is so) = typed_ends _ tokens _ is.typed (scoped_ends is.behind form.scope form.made is.scoped)

pub parsed_ends : (tokens : List Token) (parsed : Statement) → Parses tokens (Ok parsed) → has_end 0 tokens ≡ true
parsed_ends tokens parsed (beyond out so) = absurd (cc so)
parsed_ends tokens parsed (statement within is) = statement_ends tokens (Ok parsed) is
parsed_ends tokens parsed (none within never so) = absurd (cc so)

-- One after the other.

pub go_on : (front back : List Token) (statements others : List (List Token)) → AreStatements front statements → AreStatements back others
    → AllByRecursion (λ tokens. has_end 0 tokens ≡ true) statements → AreStatements (front ++ back) (statements ++ others)
go_on front back [] others are more end = subst (λ (ts : List Token). AreStatements (ts ++ back) others) (sym are) more
go_on front back (first ∷ statements) others (behind, are, inl (is, rest)) more end =
    (behind ++ back, (λ i. are i ++ back) ∙ append_assoc first behind back, inl (is, go_on behind back statements others rest more end.1))
go_on front back (first ∷ statements) others (behind, are, inr (rest, last, no_others)) more end = absurd (true_false (sym end.0 ∙ rest.goes_on))
