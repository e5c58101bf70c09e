-- Brackets, dividers and limits by the shapes of tokens alone, and shapes that divide nothing.
use Rattle.std.proofs.Common.{◌≡◌, ℕ, ◌+◌, ◌-◌, List, [], ◌∷◌, ◌++◌, refl, sym, ap, ◌∙◌, arith, append_assoc}
use Rattle.std.specs.Prelude.{Bool, true, false, not, nat_le, ◌==◌, ◌&&◌, ◌||◌}
use Rattle.std.specs.List.{AllByRecursion}
use Rattle.std.proofs.lemmas.Bool.{ne_eqb}
use Rattle.std.proofs.lemmas.List.{append-nil}
use Rattle.rz_stmt_brackets.specs.Limit.{keeps_limits, longest_row, row_behind}
use Rattle.rz_stmt_brackets.specs.Pieces.{divides, has_divider}
use Rattle.rz_stmt_brackets.specs.Statements.{has_end, is_semicolon, open_behind, open_behind_all}
use Rattle.rz_stmt_brackets.specs.declared.pieces.Divider.{Divider}
use Rattle.rz_stmt_brackets.specs.declared.pieces.Divider.TheVariants.{CloseBrace, Semicolon, Separator}
use Rattle.rz_lex.specs.declared.sign.Sign.TheVariants as signs
use Rattle.rz_lex.specs.declared.token.Shape.{Shape}
use Rattle.rz_lex.specs.declared.token.Shape.TheVariants as shapes
use Rattle.rz_lex.specs.declared.token.Token.{Token}
use Rattle.rz_show_laws.proofs.HeadTokens.{is_flat, is_inner}
use Rattle.rz_show_lines.proofs.Split.{shapes_in}
use Rattle.rz_show_lines.proofs.Tokens.{braced}

-- By shapes.

abbrev pub opened : List Shape → ℕ → ℕ
opened [] count = count
opened (shape ∷ shapes) count = opened shapes (open_behind shape count)

abbrev pub divided : Divider → ℕ → List Shape → Bool
divided divider depth [] = false
divided divider depth (shape ∷ shapes) = (divides divider shape && (depth == 0)) || divided divider (open_behind shape depth) shapes

abbrev pub kept : ℕ → ℕ → ℕ → List Shape → Bool
kept most depth row [] = true
kept most depth row (shape ∷ shapes) =
    nat_le (open_behind shape depth) most && (nat_le (row_behind shape row) longest_row && kept most (open_behind shape depth) (row_behind shape row) shapes)

pub opened_are : (tokens : List Token) (count : ℕ) → open_behind_all tokens count ≡ opened (shapes_in tokens) count
opened_are [] count = refl
opened_are (token ∷ tokens) count = opened_are tokens (open_behind token.shape count)

pub divided_are : (divider : Divider) (depth : ℕ) (tokens : List Token) → has_divider divider depth tokens ≡ divided divider depth (shapes_in tokens)
divided_are divider depth [] = refl
divided_are divider depth (token ∷ tokens) =
    ap (λ (b : Bool). (divides divider token.shape && (depth == 0)) || b) (divided_are divider (open_behind token.shape depth) tokens)

pub kept_are : (most depth row : ℕ) (tokens : List Token) → keeps_limits most depth row tokens ≡ kept most depth row (shapes_in tokens)
kept_are most depth row [] = refl
kept_are most depth row (token ∷ tokens) =
    ap (λ (b : Bool). nat_le (open_behind token.shape depth) most && (nat_le (row_behind token.shape row) longest_row && b))
    (kept_are most (open_behind token.shape depth) (row_behind token.shape row) tokens)

same_end : (shape : Shape) → is_semicolon shape ≡ divides Semicolon shape
same_end (shapes.Sign signs.Semicolon) = refl
same_end _ = refl

pub ended_are : (count : ℕ) (tokens : List Token) → has_end count tokens ≡ divided Semicolon count (shapes_in tokens)
ended_are count [] = refl
ended_are count (token ∷ tokens) =
    (λ i. (same_end token.shape i && (count == 0)) || ended_are (open_behind token.shape count) tokens i)

-- What divides items and ends them.

abbrev pub is_plain : Divider → Bool
is_plain CloseBrace = true
is_plain Semicolon = true
is_plain Separator = true
is_plain divider = false

abbrev pub anywhere : Divider → ℕ → Bool
anywhere divider depth = is_plain divider

-- not where a `,` divides
abbrev pub inside : Divider → ℕ → Bool
inside Separator depth = not (depth == 0)
inside divider depth = is_plain divider

-- such shapes change nothing for what stands after them, and nothing divides among them
pub record Passes (pass : Divider → ℕ → Bool) (shapes : List Shape) : Type 0 where
  pub opens : (rest : List Shape) (depth : ℕ) → opened (shapes ++ rest) depth ≡ opened rest depth
  pub divides : (divider : Divider) (depth : ℕ) → pass divider depth ≡ true → (rest : List Shape) → divided divider depth (shapes ++ rest) ≡ divided divider depth rest

pub passes_none : {pass : Divider → ℕ → Bool} → Passes pass []
passes_none {pass} = record { opens = λ rest depth. refl; divides = λ divider depth may rest. refl }

pub passes_both : {pass : Divider → ℕ → Bool} (front back : List Shape) → Passes pass front → Passes pass back → Passes pass (front ++ back)
passes_both {pass} front back first second = record {
  opens = λ rest depth. ap (λ (x : List Shape). opened x depth) (append_assoc front back rest) ∙ first.opens (back ++ rest) depth ∙ second.opens rest depth;
  divides = λ divider depth may rest.
      ap (divided divider depth) (append_assoc front back rest) ∙ first.divides divider depth may (back ++ rest) ∙ second.divides divider depth may rest;
}

plain_of : (divider : Divider) (depth : ℕ) → inside divider depth ≡ true → is_plain divider ≡ true
plain_of Separator depth may = refl
plain_of CloseBrace depth may = refl
plain_of Semicolon depth may = refl
plain_of divider depth may = absurd cc

pub passes_inside : (shapes : List Shape) → Passes anywhere shapes → Passes inside shapes
passes_inside shapes passes = record { opens = passes.opens; divides = λ divider depth may rest. passes.divides divider depth (plain_of divider depth may) rest }

-- no divider is among them, and all that they open they close
pub nothing_divides : {pass : Divider → ℕ → Bool} (divider : Divider) (shapes : List Shape) (tokens : List Token) → Passes pass shapes → pass divider 0 ≡ true → shapes_in tokens ≡ shapes
    → has_divider divider 0 tokens ≡ false
nothing_divides {pass} divider shapes tokens passes may is =
    divided_are divider 0 tokens ∙ ap (divided divider 0) (is ∙ sym (append-nil shapes)) ∙ passes.divides divider 0 may []

pub nothing_opens : {pass : Divider → ℕ → Bool} (shapes : List Shape) (tokens : List Token) → Passes pass shapes → shapes_in tokens ≡ shapes → open_behind_all tokens 0 ≡ 0
nothing_opens {pass} shapes tokens passes is =
    opened_are tokens 0 ∙ ap (λ (x : List Shape). opened x 0) (is ∙ sym (append-nil shapes)) ∙ passes.opens [] 0

-- Shapes that stand inside an item without braces.

pub inner_opens : (shape : Shape) (count : ℕ) → is_inner shape ≡ true → open_behind shape count ≡ count
inner_opens (shapes.Sign signs.Minus) count is = refl
inner_opens (shapes.Sign sign) count is = absurd cc
inner_opens _ count is = refl

no_brace : (shape : Shape) → is_inner shape ≡ true → divides CloseBrace shape ≡ false
no_brace (shapes.Sign signs.Minus) is = refl
no_brace (shapes.Sign sign) is = absurd cc
no_brace _ is = refl

no_semicolon : (shape : Shape) → is_inner shape ≡ true → divides Semicolon shape ≡ false
no_semicolon (shapes.Sign signs.Minus) is = refl
no_semicolon (shapes.Sign sign) is = absurd cc
no_semicolon _ is = refl

no_separator : (shape : Shape) → is_inner shape ≡ true → divides Separator shape ≡ false
no_separator (shapes.Sign signs.Minus) is = refl
no_separator (shapes.Sign sign) is = absurd cc
no_separator _ is = refl

inner_divides : (shape : Shape) (divider : Divider) → is_inner shape ≡ true → is_plain divider ≡ true → divides divider shape ≡ false
inner_divides shape CloseBrace is plain = no_brace shape is
inner_divides shape Semicolon is plain = no_semicolon shape is
inner_divides shape Separator is plain = no_separator shape is
inner_divides shape divider is plain = absurd cc

one_inner : (shape : Shape) → is_inner shape ≡ true → Passes anywhere (shape ∷ [])
one_inner shape is = record {
  opens = λ rest depth. ap (opened rest) (inner_opens shape depth is);
  divides = λ divider depth plain rest. rw (inner_divides shape divider is plain, inner_opens shape depth is) refl;
}

pub inner_passes : (shapes : List Shape) → AllByRecursion (λ shape. is_inner shape ≡ true) shapes → Passes anywhere shapes
inner_passes [] all = passes_none
inner_passes (shape ∷ shapes) all = passes_both (shape ∷ []) shapes (one_inner shape all.0) (inner_passes shapes all.1)

-- A comma.

no_test : (b : Bool) → not b ≡ true → b ≡ false
no_test true is = absurd cc
no_test false is = refl

comma_divides : (divider : Divider) (depth : ℕ) → inside divider depth ≡ true → (rest : List Shape) → divided divider depth (shapes.Sign signs.Comma ∷ rest) ≡ divided divider depth rest
comma_divides CloseBrace depth may rest = refl
comma_divides Semicolon depth may rest = refl
comma_divides Separator depth may rest = rw (no_test (depth == 0) may) refl
comma_divides divider depth may rest = absurd cc

pub comma_passes : Passes inside (shapes.Sign signs.Comma ∷ [])
comma_passes = record { opens = λ rest depth. refl; divides = comma_divides }

one_flat : (shape : Shape) → is_flat shape ≡ true → Passes inside (shape ∷ [])
one_flat (shapes.Sign signs.Minus) is = passes_inside (shapes.Sign signs.Minus ∷ []) (one_inner (shapes.Sign signs.Minus) refl)
one_flat (shapes.Sign signs.Comma) is = comma_passes
one_flat (shapes.Sign sign) is = absurd cc
one_flat (shapes.Word word) is = passes_inside (shapes.Word word ∷ []) (one_inner (shapes.Word word) refl)
one_flat (shapes.Number number) is = passes_inside (shapes.Number number ∷ []) (one_inner (shapes.Number number) refl)
one_flat (shapes.Literal bytes) is = passes_inside (shapes.Literal bytes ∷ []) (one_inner (shapes.Literal bytes) refl)
one_flat (shapes.Text bytes) is = passes_inside (shapes.Text bytes ∷ []) (one_inner (shapes.Text bytes) refl)

-- those of a head
pub flat_passes : (shapes : List Shape) → AllByRecursion (λ shape. is_flat shape ≡ true) shapes → Passes inside shapes
flat_passes [] all = passes_none
flat_passes (shape ∷ shapes) all = passes_both (shape ∷ []) shapes (one_flat shape all.0) (flat_passes shapes all.1)

-- Braces.

above : (depth : ℕ) → (depth + 1 == 0) ≡ false
above depth = ne_eqb (depth + 1) 0 (λ e. omega (arith, e))

lower : (depth : ℕ) → depth + 1 - 1 ≡ depth
lower depth = omega arith

opener_divides : (divider : Divider) (depth : ℕ) → is_plain divider ≡ true → (rest : List Shape)
    → divided divider depth (shapes.Sign signs.OpenBrace ∷ rest) ≡ divided divider (depth + 1) rest
opener_divides CloseBrace depth plain rest = refl
opener_divides Semicolon depth plain rest = refl
opener_divides Separator depth plain rest = refl
opener_divides divider depth plain rest = absurd cc

closer_divides : (divider : Divider) (depth : ℕ) → is_plain divider ≡ true → (rest : List Shape)
    → divided divider (depth + 1) (shapes.Sign signs.CloseBrace ∷ rest) ≡ divided divider depth rest
closer_divides CloseBrace depth plain rest = rw (above depth, lower depth) refl
closer_divides Semicolon depth plain rest = ap (λ (n : ℕ). divided Semicolon n rest) (lower depth)
closer_divides Separator depth plain rest = ap (λ (n : ℕ). divided Separator n rest) (lower depth)
closer_divides divider depth plain rest = absurd cc

inside_above : (divider : Divider) (depth : ℕ) → is_plain divider ≡ true → inside divider (depth + 1) ≡ true
inside_above CloseBrace depth plain = refl
inside_above Semicolon depth plain = refl
inside_above Separator depth plain = ap not (above depth)
inside_above divider depth plain = absurd cc

pub braced_passes : (within : List Shape) → Passes inside within → Passes anywhere (braced within)
braced_passes within passes = record {
  opens = λ rest depth.
      ap (λ (x : List Shape). opened x (depth + 1)) (append_assoc within (shapes.Sign signs.CloseBrace ∷ []) rest)
      ∙ passes.opens (shapes.Sign signs.CloseBrace ∷ rest) (depth + 1)
      ∙ ap (opened rest) (lower depth);
  divides = λ divider depth plain rest.
      opener_divides divider depth plain ((within ++ shapes.Sign signs.CloseBrace ∷ []) ++ rest)
      ∙ ap (divided divider (depth + 1)) (append_assoc within (shapes.Sign signs.CloseBrace ∷ []) rest)
      ∙ passes.divides divider (depth + 1) (inside_above divider depth plain) (shapes.Sign signs.CloseBrace ∷ rest)
      ∙ closer_divides divider depth plain rest;
}
