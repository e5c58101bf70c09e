-- The first statement, read one token at a time.
use Rattle.std.proofs.Common.{◌≡◌, ◌≢◌, ℕ, ◌+◌, ◌≤◌, Bool, true, false, ◌||◌, inl, inr, List, [], ◌∷◌, ◌++◌, length, refl, sym, ap, subst, ◌∙◌, arith, append_assoc, append-nil, length-append, Some, None}
use Rattle.std.specs.Prelude.{slice_get}
use Rattle.rz_stmt_brackets.specs.Statements.{has_end, is_end, open_behind, open_behind_all, AreStatements, IsRest, IsStatement}
use Rattle.rz_lex.specs.declared.token.Token.{Token}
use Rattle.rz_stmt.specs.Next.{BeginsWith}

slice_get_length : (tokens : List Token) (token : Token) → slice_get (tokens ++ token ∷ []) (length tokens) ≡ Some token
slice_get_length [] token = refl
slice_get_length (first ∷ tokens) token = slice_get_length tokens token

-- the token that was read last
pub last_read : (read more : List Token) (token last : Token) (k : ℕ) → more ≡ read ++ token ∷ [] → k ≡ length read → slice_get more k ≡ Some last → last ≡ token
last_read read more token last k pushed at got =
    let e : Some token ≡ Some last = sym (slice_get_length read token) ∙ ap (slice_get (read ++ token ∷ [])) (sym at) ∙ ap (λ (ts : List Token). slice_get ts k) (sym pushed) ∙ got in
    cc

-- these tokens were read, and none ends the statement; so many brackets are open
pub record IsOpen (all read left : List Token) (depth : ℕ) : Type 0 where
  pub are : all ≡ read ++ left
  pub goes_on : has_end 0 read ≡ false
  pub deep : depth ≡ open_behind_all read 0
  pub few : depth ≤ length read

pub nothing_read : (all : List Token) → IsOpen all [] all 0
nothing_read all = record { are = refl; goes_on = refl; deep = refl; few = omega arith }

open_more : (front : List Token) (token : Token) (count : ℕ) → open_behind_all (front ++ token ∷ []) count ≡ open_behind token.shape (open_behind_all front count)
open_more [] token count = refl
open_more (first ∷ front) token count = open_more front token (open_behind first.shape count)

none_more : (count : ℕ) (front : List Token) (token : Token) → has_end count front ≡ false → is_end token.shape (open_behind_all front count) ≡ false
    → has_end count (front ++ token ∷ []) ≡ false
none_more count [] token none here = ap (λ (b : Bool). b || false) here
none_more count (first ∷ front) token none here = by (is_end first.shape count) none (λ rest. none_more (open_behind first.shape count) front token rest here)
  where
    by : (b : Bool) → (b || has_end (open_behind first.shape count) front) ≡ false
        → (has_end (open_behind first.shape count) front ≡ false → has_end (open_behind first.shape count) (front ++ token ∷ []) ≡ false)
        → (b || has_end (open_behind first.shape count) (front ++ token ∷ [])) ≡ false
    by true wrong onward = wrong
    by false rest onward = onward rest

shifted : (all read left after : List Token) (token : Token) → all ≡ read ++ left → left ≡ token ∷ after → all ≡ (read ++ token ∷ []) ++ after
shifted all read left after token are is = are ∙ ap (λ (ts : List Token). read ++ ts) is ∙ sym (append_assoc read (token ∷ []) after)

-- one token more
pub one_read : (all read left : List Token) (depth : ℕ) → IsOpen all read left depth → (token : Token) (after more : List Token) → left ≡ token ∷ after → more ≡ read ++ token ∷ []
    → is_end token.shape depth ≡ false → (opened : ℕ) → opened ≡ open_behind token.shape depth → opened ≤ depth + 1 → IsOpen all more after opened
one_read all read left depth so_far token after more is pushed here opened behind slow =
    subst (λ (ts : List Token). IsOpen all ts after opened) (sym pushed) (record {
      are = shifted all read left after token so_far.are is;
      goes_on = none_more 0 read token so_far.goes_on (ap (is_end token.shape) (sym so_far.deep) ∙ here);
      deep = behind ∙ ap (open_behind token.shape) so_far.deep ∙ sym (open_more read token 0);
      few = omega (arith, slow, so_far.few, length-append read (token ∷ []));
    })

-- What the laws say: each list of tokens is statements, in one way.
module _ (one : (tokens : List Token) (statements others : List (List Token)) → AreStatements tokens statements → AreStatements tokens others → statements ≡ others)
    (some : (tokens : List Token) → (statements : List (List Token)) × AreStatements tokens statements)
    (all read left : List Token) (depth : ℕ) (so_far : IsOpen all read left depth) where
  -- the token ends the statement
  module _ (token : Token) (after more : List Token) (is : left ≡ token ∷ after) (pushed : more ≡ read ++ token ∷ []) where
    pub ended : is_end token.shape depth ≡ true → (statements : List (List Token)) → AreStatements all statements → BeginsWith (Some more) statements after
    ended here statements are =
        let others = some after in
        let is_statement : IsStatement more = record {
          front = read;
          last = token;
          are = pushed;
          goes_on = so_far.goes_on;
          ends = ap (is_end token.shape) (sym so_far.deep) ∙ here;
        } in
        let front = shifted all read left after token so_far.are is ∙ ap (λ (ts : List Token). ts ++ after) (sym pushed) in
        (others.0, one all statements (more ∷ others.0) are (after, front, inl (is_statement, others.1)), others.1)

  -- no token is left
  module _ (none : left ≡ []) where
    whole : all ≡ read
    whole = so_far.are ∙ ap (λ (ts : List Token). read ++ ts) none ∙ append-nil read

    pub rest : (after : List Token) → after ≡ [] → read ≢ [] → (statements : List (List Token)) → AreStatements all statements → BeginsWith (Some read) statements after
    rest after empty held statements are =
        let is_rest : IsRest read = record { some = held; goes_on = so_far.goes_on } in
        ([], one all statements (read ∷ []) are ([], whole ∙ sym (append-nil read), inr (is_rest, refl, refl)), empty)

    pub no_statement : (after : List Token) → read ≡ [] → (statements : List (List Token)) → AreStatements all statements → BeginsWith None statements after
    no_statement after nothing statements are = one all statements [] are (whole ∙ nothing)
