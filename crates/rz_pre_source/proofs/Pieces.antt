-- Tokens taken apart into pieces and bytes, and put together again.
use Rattle.std.proofs.Common.{◌≡◌, ℕ, suc, ◌+◌, ◌≤◌, Bool, true, nat_eq, eq-eqb, List, [], ◌∷◌, ◌++◌, length, drop, refl, sym, ap, ◌∙◌, arith, length-append, length-drop}
use Rattle.std.proofs.lemmas.Bool.{eqb-true}
use Rattle.std.proofs.lemmas.List.{take-append-le, drop-append-le, take_at, drop_at, nil_from_length}
use Rattle.rz_lex.specs.declared.token.Shape.{Shape}
use Rattle.rz_lex.specs.declared.token.Shape.TheVariants as shapes
use Rattle.rz_lex.specs.declared.token.Token.{Token}
use Rattle.rz_pre_source.specs.Piece.{held_of, kind_of, mark_of, shape_of, size_of}
use Rattle.rz_pre_source.specs.Store.{bytes_of, pieces_of, size_of_all, tokens_of}
use Rattle.rz_pre_source.specs.declared.piece.Piece.{Piece}

-- One token.

pub sized : (shape : Shape) → size_of (kind_of shape) ≡ length (held_of shape)
sized (shapes.Word word) = refl
sized (shapes.Number value) = refl
sized (shapes.Literal bytes) = refl
sized (shapes.Text bytes) = refl
sized (shapes.Sign sign) = refl

shape_back : (shape : Shape) → shape_of (kind_of shape) (held_of shape) ≡ shape
shape_back (shapes.Word word) = refl
shape_back (shapes.Number value) = refl
shape_back (shapes.Literal bytes) = refl
shape_back (shapes.Text bytes) = refl
shape_back (shapes.Sign sign) = refl

-- Several tokens.

pub size_of_all-append : (pieces more : List Piece) → size_of_all (pieces ++ more) ≡ size_of_all pieces + size_of_all more
size_of_all-append [] more = omega arith
size_of_all-append (piece ∷ pieces) more = omega (arith, size_of_all-append pieces more)

pub size_of_all-pieces_of : (tokens : List Token) → size_of_all (pieces_of tokens) ≡ length (bytes_of tokens)
size_of_all-pieces_of [] = refl
size_of_all-pieces_of (token ∷ tokens) =
    omega (arith, sized token.shape, size_of_all-pieces_of tokens, length-append (held_of token.shape) (bytes_of tokens))

pub tokens_of-append : (pieces more : List Piece) (bytes others : List ℕ) → size_of_all pieces ≡ length bytes
    → tokens_of (pieces ++ more) (bytes ++ others) ≡ tokens_of pieces bytes ++ tokens_of more others
tokens_of-append [] more [] others is = refl
tokens_of-append [] more (b ∷ bytes) others is = absurd (omega (arith, is))
tokens_of-append (piece ∷ pieces) more bytes others is =
    let within : size_of piece.kind ≤ length bytes = omega (arith, is) in
    let held = take-append-le (size_of piece.kind) bytes others within in
    let rest = ap (tokens_of (pieces ++ more)) (drop-append-le (size_of piece.kind) bytes others within)
    ∙ tokens_of-append pieces more (drop (size_of piece.kind) bytes) others (omega (arith, is, length-drop (size_of piece.kind) bytes)) in
    λ i. record { shape = shape_of piece.kind (held i); mark = mark_of piece } ∷ rest i

pub tokens_back : (tokens : List Token) → tokens_of (pieces_of tokens) (bytes_of tokens) ≡ tokens
tokens_back [] = refl
tokens_back (token ∷ tokens) =
    let size : length (held_of token.shape) ≡ size_of (kind_of token.shape) = sym (sized token.shape) in
    let shape = ap (shape_of (kind_of token.shape)) (take_at (held_of token.shape) (bytes_of tokens) (size_of (kind_of token.shape)) size) ∙ shape_back token.shape in
    let rest = ap (tokens_of (pieces_of tokens)) (drop_at (held_of token.shape) (bytes_of tokens) (size_of (kind_of token.shape)) size) ∙ tokens_back tokens in
    λ i. record { shape = shape i; mark = token.mark } ∷ rest i

-- tokens that are added
pub added : (pieces : List Piece) (bytes : List ℕ) (tokens : List Token) → size_of_all pieces ≡ length bytes
    → tokens_of (pieces ++ pieces_of tokens) (bytes ++ bytes_of tokens) ≡ tokens_of pieces bytes ++ tokens
added pieces bytes tokens is = tokens_of-append pieces (pieces_of tokens) bytes (bytes_of tokens) is ∙ ap (λ (more : List Token). tokens_of pieces bytes ++ more) (tokens_back tokens)

pub sizes_added : (pieces : List Piece) (bytes : List ℕ) (tokens : List Token) → size_of_all pieces ≡ length bytes
    → size_of_all (pieces ++ pieces_of tokens) ≡ length (bytes ++ bytes_of tokens)
sizes_added pieces bytes tokens is =
    omega (arith, is, size_of_all-append pieces (pieces_of tokens), size_of_all-pieces_of tokens, length-append bytes (bytes_of tokens))

pub length-tokens_of : (pieces : List Piece) (bytes : List ℕ) → length (tokens_of pieces bytes) ≡ length pieces
length-tokens_of [] bytes = refl
length-tokens_of (piece ∷ pieces) bytes = ap suc (length-tokens_of pieces (drop (size_of piece.kind) bytes))

-- there are no tokens exactly where there are no pieces, and the test for it says so
pub is_nil : (pieces : List Piece) (bytes : List ℕ) (tokens : List Token) (size : ℕ) (test : Bool) → tokens_of pieces bytes ≡ tokens → size ≡ length pieces → test ≡ nat_eq size 0
    → (test ≡ true → tokens ≡ []) × (tokens ≡ [] → test ≡ true)
is_nil pieces bytes tokens size test are sized is =
    let same : length tokens ≡ size = ap (λ (ts : List Token). length ts) (sym are) ∙ length-tokens_of pieces bytes ∙ sym sized in (
      λ holds. nil_from_length tokens (same ∙ eqb-true size 0 (sym is ∙ holds)),
      λ none. is ∙ eq-eqb size 0 (sym same ∙ ap (λ (ts : List Token). length ts) none),
    )
