-- The line of the type of a sample declares its fields, to both tools.
use Rattle.std.proofs.Common.{ℕ, pos, false, List, [], ◌∷◌, ◌++◌, map, Some, None, Ok, refl}
use Rattle.std.specs.Prelude.{codes}
use Rattle.rz_core.specs.declared.fault.Mark.{Mark}
use Rattle.rz_expr.specs.Grammar.{Derives, IsExpression}
use Rattle.rz_expr.specs.Term.{RowsOf}
use Rattle.rz_words.specs.Attribute.{attribute_word}
use Rattle.rz_words.specs.Keyword.{keyword_of}
use Rattle.rz_lex.specs.Printed.{token_of, word_of}
use Rattle.rz_lex.specs.declared.sign.Sign.{Sign}
use Rattle.rz_lex.specs.declared.sign.Sign.TheVariants as signs
use Rattle.rz_lex.specs.declared.token.Shape.TheVariants as shapes
use Rattle.rz_lex.specs.declared.token.Token.{Token}
use Rattle.rz_tools_laws.specs.Fields.{one_text, rows_name, sample_fields}
use Rattle.rz_tools_laws.proofs.TypeLine.{type_shapes}
use Rattle.rz_stmt.specs.Grammar.{Declares, Parses}
use Rattle.rz_stmt.specs.Grammar as grammar
use Rattle.rz_stmt_brackets.specs.Pieces.{AreCut, IsParted}
use Rattle.rz_stmt_brackets.specs.Statements.{IsStatement}
use Rattle.rz_stmt_brackets.specs.declared.pieces.Divider.TheVariants.{Semicolon}
use Rattle.rz_stmt_fields.specs.FieldFront.{Say}
use Rattle.rz_stmt_fields.specs.Form as form
use Rattle.rz_stmt_fields.specs.Form.{BodyForm, DeclareForm, NumberForm}
use Rattle.rz_stmt_fields.specs.declared.field_word.FieldWord.TheVariants as words
use Rattle.rz_stmt_type.specs.Body.{AreFields, IsBody, IsField}
use Rattle.rz_stmt_type.specs.Constants.{Declare, Fields}
use Rattle.rz_stmt_type.specs.Declare.{IsDeclare, IsMade, IsScoped}
use Rattle.rz_stmt_type.specs.Flat.{IsFlat}
use Rattle.rz_stmt_type.specs.Head.{IsArrayFront}
use Rattle.rz_stmt_type.specs.declared.constants.Bounds.TheVariants.{Any}
use Rattle.rz_types_fields.specs.declared.field.NumForm.TheVariants.{Byte, Integer}
use Rattle.rz_types_fields.specs.declared.field.Radix.TheVariants.{Plain}
use Rattle.rz_types_fields.specs.declared.field.TextForm.TheVariants.{Pascal}

-- The statement as it is written.

abbrev count_form : NumberForm
count_form = record { form = Integer; width = form.Own (pos 16); unsigned = false; radix = Plain; symbols = []; fixed = Some (RowsOf (codes "r")); key = false }

abbrev byte_form : NumberForm
byte_form = record { form = Byte; width = form.Own (pos 8); unsigned = false; radix = Plain; symbols = []; fixed = None; key = false }

abbrev row_form : BodyForm
row_form = form.field_and (form.Number byte_form) (form.field_and (form.Text one_text) form.no_fields)

abbrev fields_form : BodyForm
fields_form = form.field_and (form.Number count_form) (form.field_and (form.Array (Some rows_name) None row_form) form.no_fields)

abbrev type_form : DeclareForm
type_form = record { kind = 1398893936; scope = form.Any; made = form.Fields fields_form }

-- what it means
abbrev pub type_declared : Declare
type_declared = record { kind = 1398893936; bounds = Any; made = Fields sample_fields }

-- Its tokens, all on one line.

module _ (mark : Mark) where
  abbrev at_sign : Sign → Token
  at_sign sign = token_of mark (shapes.Sign sign)

  abbrev at_word : List ℕ → Token
  at_word word = token_of mark (word_of word)

  abbrev pub type_tokens : List Token
  type_tokens = map (token_of mark) type_shapes

  -- `= $$CountOf(r)`
  abbrev fixed_tokens : List Token
  fixed_tokens = at_word (codes "$$CountOf") ∷ at_sign signs.OpenParen ∷ at_word (codes "r") ∷ at_sign signs.CloseParen ∷ []

  abbrev count_tokens : List Token
  count_tokens = at_word (codes "integer") ∷ at_sign signs.Equals ∷ fixed_tokens

  abbrev byte_tokens : List Token
  byte_tokens = at_word (codes "byte") ∷ []

  abbrev text_tokens : List Token
  text_tokens = at_word (codes "pstring") ∷ []

  abbrev text_rest : List Token
  text_rest = at_word (codes "pstring") ∷ at_sign signs.Semicolon ∷ []

  abbrev row_tokens : List Token
  row_tokens = at_word (codes "byte") ∷ at_sign signs.Semicolon ∷ text_rest

  abbrev array_behind : List Token
  array_behind =
      at_word (codes "r") ∷ at_sign signs.OpenBrace ∷ at_word (codes "byte") ∷ at_sign signs.Semicolon ∷ at_word (codes "pstring") ∷ at_sign signs.Semicolon
      ∷ at_sign signs.CloseBrace ∷ []

  abbrev array_tokens : List Token
  array_tokens = at_word (codes "array") ∷ array_behind

  abbrev array_rest : List Token
  array_rest =
      at_word (codes "array") ∷ at_word (codes "r") ∷ at_sign signs.OpenBrace ∷ at_word (codes "byte") ∷ at_sign signs.Semicolon ∷ at_word (codes "pstring")
      ∷ at_sign signs.Semicolon ∷ at_sign signs.CloseBrace ∷ at_sign signs.Semicolon ∷ []

  abbrev inside : List Token
  inside = at_word (codes "integer") ∷ at_sign signs.Equals ∷ at_word (codes "$$CountOf") ∷ at_sign signs.OpenParen ∷ at_word (codes "r") ∷ at_sign signs.CloseParen
      ∷ at_sign signs.Semicolon ∷ array_rest

  abbrev behind_kind : List Token
  behind_kind = at_sign signs.OpenBrace ∷ (inside ++ at_sign signs.CloseBrace ∷ at_sign signs.Semicolon ∷ [])

  -- Pieces.

  parted : (front behind : List Token) → (tokens : List Token) → IsParted Semicolon tokens (record { front = front; behind = behind }) → (pieces : List (List Token))
      → AreCut Semicolon behind pieces → AreCut Semicolon tokens (front ∷ pieces)
  parted front behind tokens is pieces cut = AreCut.more tokens (record { front = front; behind = behind }) pieces is cut

  inside_cut : AreCut Semicolon inside (count_tokens ∷ array_tokens ∷ [] ∷ [])
  inside_cut =
      parted count_tokens array_rest inside (record { sign = at_sign signs.Semicolon; are = refl; first = refl; divides = refl }) (array_tokens ∷ [] ∷ [])
      (parted array_tokens [] array_rest (record { sign = at_sign signs.Semicolon; are = refl; first = refl; divides = refl }) ([] ∷ []) (AreCut.last [] refl))

  row_cut : AreCut Semicolon row_tokens (byte_tokens ∷ text_tokens ∷ [] ∷ [])
  row_cut =
      parted byte_tokens text_rest row_tokens (record { sign = at_sign signs.Semicolon; are = refl; first = refl; divides = refl }) (text_tokens ∷ [] ∷ [])
      (parted text_tokens [] text_rest (record { sign = at_sign signs.Semicolon; are = refl; first = refl; divides = refl }) ([] ∷ []) (AreCut.last [] refl))

  -- Fields.

  counts : IsExpression fixed_tokens (RowsOf (codes "r"))
  unfolding keyword_of attribute_word
  counts =
      let rows : Derives 0 fixed_tokens (RowsOf (codes "r")) = Derives.counted {t = at_word (codes "$$CountOf")} {a = at_sign signs.OpenParen} {b = at_word (codes "r")} {c = at_sign signs.CloseParen} {word = rows_name} refl refl in
      Derives.tighter (Derives.tighter (Derives.tighter (Derives.tighter (Derives.tighter
      (Derives.tighter (Derives.tighter (Derives.tighter (Derives.tighter (Derives.tighter rows)))))))))

  count_is : IsFlat count_tokens (form.Number count_form)
  unfolding keyword_of attribute_word
  count_is = (
    record { unsigned = false; radix = None; word = words.Number Integer; tail = at_sign signs.Equals ∷ fixed_tokens },
    record { words = []; modifiers = []; last = at_word (codes "integer"); are = refl; are_modifiers = tt; say = Say.nothing; no_modifier = refl; word = refl },
    (count_form, (record { symbols = []; fixed = Some (RowsOf (codes "r")) }, (RowsOf (codes "r"), (counts, refl), refl), refl), refl),
  )

  byte_is : IsFlat byte_tokens (form.Number byte_form)
  unfolding keyword_of attribute_word
  byte_is = (
    record { unsigned = false; radix = None; word = words.Number Byte; tail = [] },
    record { words = []; modifiers = []; last = at_word (codes "byte"); are = refl; are_modifiers = tt; say = Say.nothing; no_modifier = refl; word = refl },
    (byte_form, (record { symbols = []; fixed = None }, refl, refl), refl),
  )

  text_is : IsFlat text_tokens (form.Text one_text)
  unfolding keyword_of attribute_word
  text_is = (
    record { unsigned = false; radix = None; word = words.Text Pascal; tail = [] },
    record { words = []; modifiers = []; last = at_word (codes "pstring"); are = refl; are_modifiers = tt; say = Say.nothing; no_modifier = refl; word = refl },
    (false, one_text, refl, (None, refl, refl), refl),
  )

  row_is : IsBody false row_tokens row_form
  row_is =
      IsBody.cut false row_tokens (byte_tokens ∷ text_tokens ∷ [] ∷ []) row_form row_cut
      (AreFields.more false (at_word (codes "byte")) [] (text_tokens ∷ [] ∷ []) (form.Number byte_form) (form.field_and (form.Text one_text) form.no_fields)
      (IsField.flat false byte_tokens (form.Number byte_form) byte_is)
      (AreFields.more false (at_word (codes "pstring")) [] ([] ∷ []) (form.Text one_text) form.no_fields
      (IsField.flat false text_tokens (form.Text one_text) text_is)
      (AreFields.empty false [] form.no_fields (AreFields.none false))))

  array_is : IsField false array_tokens (form.Array (Some rows_name) None row_form)
  unfolding keyword_of attribute_word
  array_is =
      IsField.array false array_tokens array_behind (record { name = Some rows_name; count = None; row = row_tokens }) row_form refl
      (IsArrayFront.named (
        rows_name,
        row_tokens,
        refl,
        (
          record { front = row_tokens; behind = [] },
          record {
            opener = at_sign signs.OpenBrace;
            rest = at_word (codes "byte") ∷ at_sign signs.Semicolon ∷ at_word (codes "pstring") ∷ at_sign signs.Semicolon ∷ at_sign signs.CloseBrace ∷ [];
            are = refl;
            opens = refl;
            closes = record { sign = at_sign signs.CloseBrace; are = refl; first = refl; divides = refl };
          },
          refl,
          refl,
        ),
        refl,
      ))
      row_is

  fields_are : IsBody false inside fields_form
  fields_are =
      IsBody.cut false inside (count_tokens ∷ array_tokens ∷ [] ∷ []) fields_form inside_cut
      (AreFields.more false (at_word (codes "integer")) (at_sign signs.Equals ∷ fixed_tokens) (array_tokens ∷ [] ∷ []) (form.Number count_form)
      (form.field_and (form.Array (Some rows_name) None row_form) form.no_fields)
      (IsField.flat false count_tokens (form.Number count_form) count_is)
      (AreFields.more false (at_word (codes "array")) array_behind ([] ∷ []) (form.Array (Some rows_name) None row_form) form.no_fields array_is
      (AreFields.empty false [] form.no_fields (AreFields.none false))))

  type_is : IsDeclare type_tokens type_form
  unfolding keyword_of attribute_word
  type_is = record {
    behind = behind_kind;
    typed = record { word = at_word (codes "type"); kind = token_of mark (shapes.Literal (codes "Samp")); are = refl; is_word = refl; has_kind = refl };
    scoped = IsScoped.for_any refl
        (IsMade.in_braces (record { front = inside; behind = at_sign signs.Semicolon ∷ [] }) fields_form
        (record {
          opener = at_sign signs.OpenBrace;
          rest = inside ++ at_sign signs.CloseBrace ∷ at_sign signs.Semicolon ∷ [];
          are = refl;
          opens = refl;
          closes = record { sign = at_sign signs.CloseBrace; are = refl; first = refl; divides = refl };
        })
        refl fields_are refl);
  }

  -- The statement.

  pub type_parses : Parses type_tokens (Ok (Declares type_declared))
  type_parses = Parses.statement refl (grammar.IsStatement.type_statement type_form type_is refl)

  pub type_statement : IsStatement type_tokens
  type_statement = record {
    front = at_word (codes "type") ∷ token_of mark (shapes.Literal (codes "Samp")) ∷ at_sign signs.OpenBrace ∷ (inside ++ at_sign signs.CloseBrace ∷ []);
    last = at_sign signs.Semicolon;
    are = refl;
    goes_on = refl;
    ends = refl;
  }
