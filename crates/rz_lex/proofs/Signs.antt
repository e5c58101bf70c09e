-- A sign is known by how it is written.
use Rattle.std.proofs.Common.{◌≡◌, true, Some, refl, sym, ap, ◌∙◌}
use Rattle.std.specs.Prelude.{◌↔◌}
use Rattle.std.specs.Str.{bytes_eq}
use Rattle.std.proofs.lemmas.Bool.{false≢true}
use Rattle.std.proofs.lemmas.Slice.Eq.{bytes_eq-Decides}
use Rattle.rz_lex.specs.Sign.{sign_of, sign_text}
use Rattle.rz_lex.specs.Token.{is_the_sign}
use Rattle.rz_lex.specs.declared.sign.Sign.{Sign}
use Rattle.rz_lex.specs.declared.sign.Sign.TheVariants as signs
use Rattle.rz_lex.specs.declared.token.Shape.{Shape}
use Rattle.rz_lex.specs.declared.token.Shape.TheVariants as shapes

back : (sign : Sign) → sign_of (sign_text sign) ≡ Some sign
back signs.Comma = refl
back _ = refl

same_some : (one other : Sign) → Some one ≡ Some other → one ≡ other
same_some one other is = cc

pub same_sign : (one other : Sign) → bytes_eq (sign_text one) (sign_text other) ≡ true → one ≡ other
same_sign one other is = same_some one other (sym (back one) ∙ ap sign_of ((bytes_eq-Decides (sign_text one) (sign_text other)).0 is) ∙ back other)

pub itself : (sign : Sign) → bytes_eq (sign_text sign) (sign_text sign) ≡ true
itself sign = (bytes_eq-Decides (sign_text sign) (sign_text sign)).1 refl

is_it : (sign : Sign) (shape : Shape) → is_the_sign sign shape ≡ true → shape ≡ shapes.Sign sign
is_it sign (shapes.Sign other) is = ap (λ (s : Sign). shapes.Sign s) (same_sign other sign is)
is_it sign _ is = absurd (false≢true is)

pub told : (sign : Sign) (shape : Shape) → (is_the_sign sign shape ≡ true) ↔ (shape ≡ shapes.Sign sign)
told sign shape = (is_it sign shape, λ same. ap (is_the_sign sign) same ∙ itself sign)
