-- Tokens after which as many brackets are open as before them: expressions, and what stands in brackets.
use Rattle.std.proofs.Common.{◌≡◌, ℕ, ◌+◌, ◌-◌, ◌&&◌, Bool, true, false, if◌then◌else◌, List, [], ◌∷◌, ◌++◌, Some, None, refl, sym, ap, subst, ◌∙◌, append_assoc, arith}
use Rattle.std.specs.List.{AllByRecursion}
use Rattle.rz_core.proofs.Tests.{both}
use Rattle.rz_core.specs.declared.resource.Word.{Word}
use Rattle.rz_expr.specs.Grammar.{after_of, argument, closes, ends_name, is_bracket, named_by, separates, start_of, word_start, Calls, Derives, EndsIndex, Indexes, Label, Operand, Operates, Prefix}
use Rattle.rz_expr.specs.Grammar.{binary, bits_at, counted, data_at, grouped, indexed, labelled, numbered, operand, prefixed, tighter}
use Rattle.rz_expr.specs.Term.{Term}
use Rattle.rz_words.specs.Words.{role_of}
use Rattle.rz_expr.specs.declared.expr.BinaryOp.{BinaryOp}
use Rattle.rz_expr.specs.declared.expr.UnaryOp.{UnaryOp}
use Rattle.rz_words.specs.declared.words.Function.{Function}
use Rattle.rz_words.specs.declared.words.Function.TheVariants.{ArrayIndex, BitField, CountOf, Data}
use Rattle.rz_words.specs.declared.words.Role.{Role}
use Rattle.rz_words.specs.declared.words.Role.TheVariants as roles
use Rattle.rz_lex.specs.declared.sign.Sign.TheVariants as signs
use Rattle.rz_lex.specs.declared.token.Shape.{Shape}
use Rattle.rz_lex.specs.declared.token.Shape.TheVariants as shapes
use Rattle.rz_lex.specs.declared.token.Token.{Token}
use Rattle.rz_stmt_brackets.specs.Bracket as brackets
use Rattle.rz_stmt_brackets.specs.Bracket.{closer, IsBracketed}
use Rattle.rz_stmt_brackets.specs.Pieces.{divides, last, more, AreCut, Parted}
use Rattle.rz_stmt_brackets.specs.Statements.{open_behind, open_behind_all}
use Rattle.rz_stmt_brackets.specs.declared.bracket.Bracket as kinds
use Rattle.rz_stmt_brackets.specs.declared.bracket.Bracket.TheVariants.{Curly, Round, Square}
use Rattle.rz_stmt_brackets.specs.declared.pieces.Divider.{Divider}

-- Tokens.

-- no bracket
abbrev pub IsPlain : Shape → Type 0
IsPlain shape = (n : ℕ) → open_behind shape n ≡ n

abbrev pub IsLevel : List Token → Type 0
IsLevel tokens = (n : ℕ) → open_behind_all tokens n ≡ n

-- what holds of no bracket
abbrev pub OfNone : (Shape → Type 0) → Type 0
OfNone P =
    (P (shapes.Sign signs.OpenParen) → ⊥) × (P (shapes.Sign signs.OpenBracket) → ⊥) × (P (shapes.Sign signs.OpenBrace) → ⊥)
    × (P (shapes.Sign signs.CloseParen) → ⊥) × (P (shapes.Sign signs.CloseBracket) → ⊥) × (P (shapes.Sign signs.CloseBrace) → ⊥)

pub plain_by : (P : Shape → Type 0) → OfNone P → (shape : Shape) → P shape → IsPlain shape
plain_by P none (shapes.Sign signs.OpenParen) is = absurd (none.0 is)
plain_by P none (shapes.Sign signs.OpenBracket) is = absurd (none.1 is)
plain_by P none (shapes.Sign signs.OpenBrace) is = absurd (none.2 is)
plain_by P none (shapes.Sign signs.CloseParen) is = absurd (none.3 is)
plain_by P none (shapes.Sign signs.CloseBracket) is = absurd (none.4 is)
plain_by P none (shapes.Sign signs.CloseBrace) is = absurd (none.5 is)
plain_by P none shape is = λ n. refl

pub level_nil : IsLevel []
level_nil = λ n. refl

pub level_more : (t : Token) (ts : List Token) → IsPlain t.shape → IsLevel ts → IsLevel (t ∷ ts)
level_more t ts plain level = λ n. ap (open_behind_all ts) (plain n) ∙ level n

pub open_join : (xs ys : List Token) (n : ℕ) → open_behind_all (xs ++ ys) n ≡ open_behind_all ys (open_behind_all xs n)
open_join [] ys n = refl
open_join (x ∷ xs) ys n = open_join xs ys (open_behind x.shape n)

pub level_join : (xs ys : List Token) → IsLevel xs → IsLevel ys → IsLevel (xs ++ ys)
level_join xs ys first others = λ n. open_join xs ys n ∙ ap (open_behind_all ys) (first n) ∙ others n

-- Brackets.

-- one opens and another closes them
abbrev pub Opens : Shape → Type 0
Opens shape = (n : ℕ) → open_behind shape n ≡ n + 1

abbrev ClosesOne : Shape → Type 0
ClosesOne shape = (n : ℕ) → open_behind shape n ≡ n - 1

one_less : (n : ℕ) → n + 1 - 1 ≡ n
one_less n = omega arith

level_within : (first close : Token) (ts rest : List Token) → Opens first.shape → IsLevel ts → ClosesOne close.shape → IsLevel rest → IsLevel (first ∷ (ts ++ close ∷ rest))
level_within first close ts rest opens level closes after = λ n.
    open_join ts (close ∷ rest) (open_behind first.shape n)
    ∙ ap (open_behind_all (close ∷ rest)) (level (open_behind first.shape n) ∙ opens n)
    ∙ ap (open_behind_all rest) (closes (n + 1) ∙ one_less n)
    ∙ after n

pub bracket_opens : (bracket : kinds.Bracket) (shape : Shape) → brackets.opens bracket shape ≡ true → Opens shape
bracket_opens Round (shapes.Sign signs.OpenParen) is = λ n. refl
bracket_opens Square (shapes.Sign signs.OpenBracket) is = λ n. refl
bracket_opens Curly (shapes.Sign signs.OpenBrace) is = λ n. refl
bracket_opens bracket shape is = absurd cc

bracket_closes : (bracket : kinds.Bracket) (shape : Shape) → divides (closer bracket) shape ≡ true → ClosesOne shape
bracket_closes Round (shapes.Sign signs.CloseParen) is = λ n. refl
bracket_closes Square (shapes.Sign signs.CloseBracket) is = λ n. refl
bracket_closes Curly (shapes.Sign signs.CloseBrace) is = λ n. refl
bracket_closes bracket shape is = absurd cc

pub bracket_level : (bracket : kinds.Bracket) (tokens : List Token) (parted : Parted) (is : IsBracketed bracket tokens parted) → IsLevel parted.front
    → IsLevel (is.opener ∷ (parted.front ++ is.closes.sign ∷ []))
bracket_level bracket tokens parted is within =
    level_within is.opener is.closes.sign parted.front [] (bracket_opens bracket is.opener.shape is.opens) within
    (bracket_closes bracket is.closes.sign.shape (both _ _ is.closes.divides).0) level_nil

pub level_bracketed : (bracket : kinds.Bracket) (tokens : List Token) (parted : Parted) → IsBracketed bracket tokens parted → IsLevel parted.front → IsLevel parted.behind → IsLevel tokens
level_bracketed bracket tokens parted is within behind =
    subst IsLevel (sym (is.are ∙ ap (λ (ts : List Token). is.opener ∷ ts) is.closes.are))
    (level_within is.opener is.closes.sign parted.front parted.behind (bracket_opens bracket is.opener.shape is.opens) within
    (bracket_closes bracket is.closes.sign.shape (both _ _ is.closes.divides).0) behind)

-- pieces, and what stands between them
pub level_cut : (divider : Divider) → OfNone (λ shape. divides divider shape ≡ true) → (tokens : List Token) (pieces : List (List Token)) → AreCut divider tokens pieces
    → AllByRecursion IsLevel pieces → IsLevel tokens
level_cut divider none tokens pieces (last piece goes_on) all = all.0
level_cut divider none tokens pieces (more whole parted rest is cut) all =
    subst IsLevel (sym is.are) (level_join parted.front (is.sign ∷ parted.behind) all.0
    (level_more is.sign parted.behind (plain_by (λ shape. divides divider shape ≡ true) none is.sign.shape (both _ _ is.divides).0)
    (level_cut divider none parted.behind rest cut all.1)))

-- Expressions.

group_opens : (shape : Shape) → is_bracket (start_of shape) ≡ true → Opens shape
group_opens (shapes.Sign signs.OpenParen) is = λ n. refl
group_opens (shapes.Word word) is = absurd (by (role_of word.bytes) is)
  where
    by : (role : Role) → is_bracket (word_start role word.bytes) ≡ true → ⊥
    by roles.Label so = cc
    by role so = cc
group_opens shape is = absurd cc

group_closes : (shape : Shape) → closes (after_of shape) ≡ true → ClosesOne shape
group_closes (shapes.Sign signs.CloseParen) is = λ n. refl
group_closes shape is = absurd cc

index_opens : (shape : Shape) → after_of shape ≡ Indexes → Opens shape
index_opens (shapes.Sign signs.OpenBracket) is = λ n. refl
index_opens shape is = absurd cc

index_closes : (shape : Shape) → after_of shape ≡ EndsIndex → ClosesOne shape
index_closes (shapes.Sign signs.CloseBracket) is = λ n. refl
index_closes shape is = absurd cc

operand_plain : (shape : Shape) (e : Term) → start_of shape ≡ Operand e → IsPlain shape
operand_plain shape e = plain_by (λ s. start_of s ≡ Operand e) ((λ h. cc), (λ h. cc), (λ h. cc), (λ h. cc), (λ h. cc), (λ h. cc)) shape

label_plain : (shape : Shape) (name : List ℕ) → start_of shape ≡ Label name → IsPlain shape
label_plain shape name = plain_by (λ s. start_of s ≡ Label name) ((λ h. cc), (λ h. cc), (λ h. cc), (λ h. cc), (λ h. cc), (λ h. cc)) shape

prefix_plain : (shape : Shape) (op : UnaryOp) → start_of shape ≡ Prefix op → IsPlain shape
prefix_plain shape op = plain_by (λ s. start_of s ≡ Prefix op) ((λ h. cc), (λ h. cc), (λ h. cc), (λ h. cc), (λ h. cc), (λ h. cc)) shape

call_plain : (shape : Shape) (function : Function) → start_of shape ≡ Calls function → IsPlain shape
call_plain shape function = plain_by (λ s. start_of s ≡ Calls function) ((λ h. cc), (λ h. cc), (λ h. cc), (λ h. cc), (λ h. cc), (λ h. cc)) shape

operator_plain : (shape : Shape) (op : BinaryOp) → after_of shape ≡ Operates op → IsPlain shape
operator_plain shape op = plain_by (λ s. after_of s ≡ Operates op) ((λ h. cc), (λ h. cc), (λ h. cc), (λ h. cc), (λ h. cc), (λ h. cc)) shape

separator_plain : (shape : Shape) → separates (after_of shape) ≡ true → IsPlain shape
separator_plain = plain_by (λ s. separates (after_of s) ≡ true) ((λ h. cc), (λ h. cc), (λ h. cc), (λ h. cc), (λ h. cc), (λ h. cc))

named_plain : (function : Function) (shape : Shape) (word : Word) → named_by function shape ≡ Some word → IsPlain shape
named_plain function shape word = plain_by (λ s. named_by function s ≡ Some word) ((λ h. cc), (λ h. cc), (λ h. cc), (λ h. cc), (λ h. cc), (λ h. cc)) shape

-- the brackets of a function up to what ends its name, or goes on after it
record IsArgument (function : Function) (a b c : Token) : Type 0 where
  opens : Opens a.shape
  name : IsPlain b.shape
  ends : ends_name function (after_of c.shape) ≡ true

argument_is : (function : Function) (a b c : Token) (word : Word) → argument function (a ∷ b ∷ c ∷ []) ≡ Some word → IsArgument function a b c
argument_is function a b c word = by (is_bracket (start_of a.shape) && ends_name function (after_of c.shape)) refl
  where
    by : (test : Bool) → (is_bracket (start_of a.shape) && ends_name function (after_of c.shape)) ≡ test → (if test then named_by function b.shape else None) ≡ Some word → IsArgument function a b c
    by false is so = absurd cc
    by true is so =
        let parts = both (is_bracket (start_of a.shape)) (ends_name function (after_of c.shape)) is in
        record { opens = group_opens a.shape parts.0; name = named_plain function b.shape word so; ends = parts.1 }

-- a function and a name in brackets
named_level : (t a b c : Token) → IsPlain t.shape → Opens a.shape → IsPlain b.shape → ClosesOne c.shape → IsLevel (t ∷ a ∷ b ∷ c ∷ [])
named_level t a b c plain opens name closes =
    level_more t (a ∷ b ∷ c ∷ []) plain (level_within a c (b ∷ []) [] opens (level_more b [] name level_nil) closes level_nil)

pub level_derives : {level : ℕ} {ts : List Token} {e : Term} → Derives level ts e → IsLevel ts
level_derives (operand {t} {e} is) = level_more t [] (operand_plain t.shape e is) level_nil
level_derives (labelled {t} {name} is) = level_more t [] (label_plain t.shape name is) level_nil
level_derives (indexed {t} {name} {ts} {e} bracket close is begins one end) =
    level_more t (bracket ∷ (ts ++ close ∷ [])) (label_plain t.shape name is)
    (level_within bracket close ts [] (index_opens bracket.shape begins) (level_derives one) (index_closes close.shape end) level_nil)
level_derives (prefixed {t} {ts} {op} {e} is one) = level_more t ts (prefix_plain t.shape op is) (level_derives one)
level_derives (grouped {t} {ts} {e} close is one end) =
    level_within t close ts [] (group_opens t.shape (ap is_bracket is)) (level_derives one) (group_closes close.shape (ap closes end)) level_nil
level_derives (counted {t} {a} {b} {c} {word} is name) =
    let named = argument_is CountOf a b c word name in
    named_level t a b c (call_plain t.shape CountOf is) named.opens named.name (group_closes c.shape named.ends)
level_derives (numbered {t} {a} {b} {c} {word} is name) =
    let named = argument_is ArrayIndex a b c word name in
    named_level t a b c (call_plain t.shape ArrayIndex is) named.opens named.name (group_closes c.shape named.ends)
level_derives (data_at {t} {a} {b} {c} {word} {width} is name) =
    let named = argument_is (Data width) a b c word name in
    named_level t a b c (call_plain t.shape (Data width) is) named.opens named.name (group_closes c.shape named.ends)
level_derives (bits_at {t} {a} {b} {c} {word} {xs} {ys} {start} {width} comma close is name left separate right end) =
    let named = argument_is BitField a b c word name in
    let both_parts = level_join xs (comma ∷ ys) (level_derives left) (level_more comma ys (separator_plain comma.shape (ap separates separate)) (level_derives right)) in
    let inside = level_more b (c ∷ (xs ++ comma ∷ ys)) named.name (level_more c (xs ++ comma ∷ ys) (separator_plain c.shape named.ends) both_parts) in
    subst (λ (zs : List Token). IsLevel (t ∷ a ∷ b ∷ c ∷ zs)) (append_assoc xs (comma ∷ ys) (close ∷ []))
    (level_more t (a ∷ b ∷ c ∷ ((xs ++ comma ∷ ys) ++ close ∷ [])) (call_plain t.shape BitField is)
    (level_within a close (b ∷ c ∷ (xs ++ comma ∷ ys)) [] named.opens inside (group_closes close.shape (ap closes end)) level_nil))
level_derives (tighter one) = level_derives one
level_derives (binary {level} {op} {left = l} {right = r} xs ys t is at left right) =
    level_join xs (t ∷ ys) (level_derives left) (level_more t ys (operator_plain t.shape op is) (level_derives right))
