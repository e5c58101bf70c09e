use Rattle.std.proofs.Common.{◌≡◌, ◌-◌, ◌≤◌, true, List, [], ◌∷◌, length, get_or, drop, length-drop, refl, sym, ap, ◌∙◌, arith}
use Rattle.std.proofs.lemmas.List.{take_all}
use Rattle.rz_lex.specs.Token.{is_the_sign}
use Rattle.rz_lex.specs.declared.sign.Sign.TheVariants.{Minus}
use Rattle.rz_lex.specs.declared.token.Token.{Token}
use Rattle.rz_catalog_text.specs.Read.{front_in, front_of, shapes_of}
use Rattle.rz_catalog_text.proofs.read.front_in.Goals as goal

with_minus : (chunk : List Token) (kind minus number leaf : Token) → 4 ≤ length chunk → kind ≡ get_or chunk 0 kind → minus ≡ get_or chunk 1 minus → number ≡ get_or chunk 2 number
    → leaf ≡ get_or chunk 3 leaf → is_the_sign Minus minus.shape ≡ true → front_of kind.shape true number.shape leaf.shape (shapes_of (drop 4 chunk)) ≡ front_in (shapes_of chunk)
with_minus [] kind minus number leaf long k m n l is = absurd (omega arith)
with_minus (a ∷ []) kind minus number leaf long k m n l is = absurd (omega arith)
with_minus (a ∷ b ∷ []) kind minus number leaf long k m n l is = absurd (omega arith)
with_minus (a ∷ b ∷ c ∷ []) kind minus number leaf long k m n l is = absurd (omega arith)
with_minus (a ∷ b ∷ c ∷ d ∷ texts) kind minus number leaf long k m n l is =
    let sign = ap (λ (t : Token). is_the_sign Minus t.shape) (sym m) ∙ is in
    rw (k, n, l, sign) refl

pub returns-in-len4-up : goal.returns-in-len4-up
returns-in-len4-up c =
    let chunk = c.args.chunk.now in
    let whole = take_all (length chunk - 4) (drop 4 chunk) (omega (arith, length-drop 4 chunk)) in
    c.front_of.ensures ∙ ap (λ (texts : List Token). front_of c.kind-item.result.shape true c.id-item.result.shape c.leaf-item.result.shape (shapes_of texts)) whole
    ∙ with_minus chunk c.kind-item.result c.minus-item.result c.id-item.result c.leaf-item.result c.in-len4-up.len_at_least c.kind-item.is c.minus-item.is c.id-item.is c.leaf-item.is
    (sym c.if-is_sign.ensures)
