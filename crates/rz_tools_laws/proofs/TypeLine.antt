-- The line of the type of a sample is cut into its tokens.
use Rattle.std.proofs.Common.{◌≡◌, ℕ, ◌≤◌, true, false, List, [], ◌∷◌, ◌++◌, map, length, refl, arith}
use Rattle.std.specs.Prelude.{codes}
use Rattle.std.specs.List.{AllByRecursion}
use Rattle.rz_core.specs.declared.fault.Mark.{Mark}
use Rattle.rz_lex.specs.Cutting.{Next}
use Rattle.rz_lex.specs.Page.{is_slash, AreInLine}
use Rattle.rz_lex.specs.Printed.{begins_word, goes_on, is_word, token_of, word_of}
use Rattle.rz_lex.specs.Sign.{sign_text}
use Rattle.rz_lex.specs.declared.sign.Sign.{Sign}
use Rattle.rz_lex.specs.declared.sign.Sign.TheVariants as signs
use Rattle.rz_lex.specs.declared.token.Shape.{Shape}
use Rattle.rz_lex.specs.declared.token.Shape.TheVariants as shapes
use Rattle.rz_tools_output.specs.SampleSource.{sample_types}
use Rattle.rz_show_lines.specs.Written.{a_blank, a_sign, a_word, are_apart, line_shapes, line_text, IsWritten, Written}
use Rattle.rz_show_lines.proofs.CutLine.{CutBack}
use Rattle.rz_show_lines.proofs.Inside.{inside, inside_both}
use Rattle.rz_show_lines.specs.Page.{IsPrinted}

-- after the equals sign all is as lines are written
abbrev written_behind : List Written
written_behind =
    a_blank ∷ a_word (codes "$$CountOf") ∷ a_sign signs.OpenParen ∷ a_word (codes "r") ∷ a_sign signs.CloseParen ∷ a_sign signs.Semicolon ∷ a_blank ∷ a_word (codes "array")
    ∷ a_blank ∷ a_word (codes "r") ∷ a_blank ∷ a_sign signs.OpenBrace ∷ a_blank ∷ a_word (codes "byte") ∷ a_sign signs.Semicolon ∷ a_blank ∷ a_word (codes "pstring")
    ∷ a_sign signs.Semicolon ∷ a_blank ∷ a_sign signs.CloseBrace ∷ a_sign signs.Semicolon ∷ a_blank ∷ a_sign signs.CloseBrace ∷ a_sign signs.Semicolon ∷ []

abbrev pub type_shapes : List Shape
type_shapes =
    word_of (codes "type") ∷ shapes.Literal (codes "Samp") ∷ shapes.Sign signs.OpenBrace ∷ word_of (codes "integer") ∷ shapes.Sign signs.Equals ∷ line_shapes written_behind

abbrev pub type_line : List ℕ
type_line = codes "type 'Samp' { integer = $$CountOf(r); array r { byte; pstring; }; };"

pub type_line_is : type_line ++ 10 ∷ [] ≡ sample_types
unfolding sample_types
type_line_is = refl

behind_can : AllByRecursion IsWritten written_behind
behind_can = (
  tt,
  (
    (refl, omega arith),
    (
      refl,
      (
        (refl, omega arith),
        (
          refl,
          (
            refl,
            (
              tt,
              (
                (refl, omega arith),
                (
                  tt,
                  (
                    (refl, omega arith),
                    (
                      tt,
                      (
                        refl,
                        (
                          tt,
                          (
                            (refl, omega arith),
                            (
                              refl,
                              (
                                tt,
                                (
                                  (refl, omega arith),
                                  (
                                    refl,
                                    (tt, (refl, (refl, (tt, (refl, (refl, tt)))))),
                                  ),
                                ),
                              ),
                            ),
                          ),
                        ),
                      ),
                    ),
                  ),
                ),
              ),
            ),
          ),
        ),
      ),
    ),
  ),
)

module _ (law : CutBack) (lines : (line : List Written) → AllByRecursion IsWritten line → are_apart line ≡ true → IsPrinted (line_text line) (line_shapes line)) where
  -- a token in front, as it is written
  token : (written text : List ℕ) (shape : Shape) (tokens : List Shape) → AreInLine written → is_slash shape ≡ false
      → ((mark : Mark) → Next mark (written ++ text) (token_of mark shape) text) → IsPrinted text tokens → IsPrinted (written ++ text) (shape ∷ tokens)
  token written text shape tokens at bare next p = record {
    inside = inside_both written text at p.inside;
    cut = λ mark. law.token mark (written ++ text) text (token_of mark shape) (map (token_of mark) tokens) (next mark) (p.cut mark);
    bare = λ mark. rw bare (p.bare mark);
  }

  -- a token and a blank
  sign : (one : Sign) (text : List ℕ) (tokens : List Shape) → AreInLine (sign_text one) → is_slash (shapes.Sign one) ≡ false → goes_on (sign_text one) text ≡ false
      → IsPrinted text tokens → IsPrinted (sign_text one ++ text) (shapes.Sign one ∷ tokens)
  sign one text tokens at bare ends p = token (sign_text one) text (shapes.Sign one) tokens at bare (λ mark. law.sign mark one text ends) p

  word : (bytes text : List ℕ) (tokens : List Shape) → is_word bytes ≡ true → length bytes ≤ 255 → AreInLine bytes → begins_word text ≡ false
      → IsPrinted text tokens → IsPrinted (bytes ++ text) (word_of bytes ∷ tokens)
  word bytes text tokens is short at ends p = token bytes text (word_of bytes) tokens at refl (λ mark. law.word mark bytes text is short ends) p

  blank : (text : List ℕ) (tokens : List Shape) → IsPrinted text tokens → IsPrinted (32 ∷ text) tokens
  blank text tokens p = record {
    inside = ((λ e. absurd cc, λ e. absurd cc), p.inside);
    cut = λ mark. law.blank mark 32 text (map (token_of mark) tokens) refl (p.cut mark);
    bare = p.bare;
  }

  abbrev behind_count : List ℕ
  behind_count = line_text written_behind

  abbrev behind_equals : List Shape
  behind_equals = line_shapes written_behind

  from_equals : IsPrinted (61 ∷ behind_count) (shapes.Sign signs.Equals ∷ behind_equals)
  from_equals = sign signs.Equals behind_count behind_equals (inside (61 ∷ []) refl) refl refl (lines written_behind behind_can refl)

  from_integer : IsPrinted (codes "integer" ++ 32 ∷ 61 ∷ behind_count) (word_of (codes "integer") ∷ shapes.Sign signs.Equals ∷ behind_equals)
  from_integer =
      word (codes "integer") (32 ∷ 61 ∷ behind_count) (shapes.Sign signs.Equals ∷ behind_equals) refl (omega arith) (inside (codes "integer") refl) refl
      (blank (61 ∷ behind_count) (shapes.Sign signs.Equals ∷ behind_equals) from_equals)

  from_brace : IsPrinted (codes "{ integer" ++ 32 ∷ 61 ∷ behind_count) (shapes.Sign signs.OpenBrace ∷ word_of (codes "integer") ∷ shapes.Sign signs.Equals ∷ behind_equals)
  from_brace =
      sign signs.OpenBrace (codes " integer" ++ 32 ∷ 61 ∷ behind_count) (word_of (codes "integer") ∷ shapes.Sign signs.Equals ∷ behind_equals) (inside (123 ∷ []) refl) refl refl
      (blank (codes "integer" ++ 32 ∷ 61 ∷ behind_count) (word_of (codes "integer") ∷ shapes.Sign signs.Equals ∷ behind_equals) from_integer)

  from_kind : IsPrinted (codes "'Samp' { integer" ++ 32 ∷ 61 ∷ behind_count)
      (shapes.Literal (codes "Samp") ∷ shapes.Sign signs.OpenBrace ∷ word_of (codes "integer") ∷ shapes.Sign signs.Equals ∷ behind_equals)
  from_kind =
      let text : List ℕ = codes " { integer" ++ 32 ∷ 61 ∷ behind_count in
      let tokens : List Shape = shapes.Sign signs.OpenBrace ∷ word_of (codes "integer") ∷ shapes.Sign signs.Equals ∷ behind_equals in
      token (codes "'Samp'") text (shapes.Literal (codes "Samp")) tokens (inside (codes "'Samp'") refl) refl
      (λ mark. law.literal mark (codes "Samp") text (omega arith, (omega arith, (omega arith, (omega arith, tt)))) (omega arith) (omega arith))
      (blank (codes "{ integer" ++ 32 ∷ 61 ∷ behind_count) tokens from_brace)

  pub type_printed : IsPrinted type_line type_shapes
  type_printed =
      let text : List ℕ = codes " 'Samp' { integer" ++ 32 ∷ 61 ∷ behind_count in
      let tokens : List Shape = shapes.Literal (codes "Samp") ∷ shapes.Sign signs.OpenBrace ∷ word_of (codes "integer") ∷ shapes.Sign signs.Equals ∷ behind_equals in
      word (codes "type") text tokens refl (omega arith) (inside (codes "type") refl) refl (blank (codes "'Samp' { integer" ++ 32 ∷ 61 ∷ behind_count) tokens from_kind)
