-- After the tokens of a text, and of a field with no fields of its own, as many brackets are open as before them.
use Rattle.std.proofs.Common.{◌≡◌, ℕ, Bool, true, false, List, [], ◌∷◌, map, Option, Some, None, ap}
use Rattle.std.specs.List.{AllByRecursion}
use Rattle.rz_stmt_brackets.specs.Bracket.{begins}
use Rattle.rz_stmt_brackets.specs.Kind.{kind_in}
use Rattle.rz_stmt_brackets.specs.Statements.{open_behind}
use Rattle.rz_stmt_brackets.specs.declared.bracket.Bracket.TheVariants.{Round, Square}
use Rattle.rz_stmt_data.specs.Files.{text_of}
use Rattle.rz_stmt_data.specs.Texts as texts
use Rattle.rz_stmt_data.specs.Texts.{alone, asks, by_number, by_text, call_in, called, formats, kind_alone, no_argument, no_part, one_argument, one_part, part_in, reads, text_alone, AreArguments, AreParts, IsArgument, IsCall}
use Rattle.rz_stmt_data.specs.declared.texts.TextCall.{TextCall}
use Rattle.rz_stmt_type.specs.Flat.{IsFixed, IsFlat, IsFlatBy, IsTextBy}
use Rattle.rz_types_fields.specs.Field.{PlainText}
use Rattle.rz_types_fields.specs.Text.{PlainArgument, PlainPart}
use Rattle.rz_types_fields.specs.declared.field.TextForm.{TextForm}
use Rattle.rz_stmt_fields.proofs.Level.{level_bracketed, level_derives, level_more, level_nil, plain_by, IsLevel, IsPlain}
use Rattle.rz_stmt_fields.proofs.LevelField.{comma_cut, equals_plain, field_level, front_level}
use Rattle.rz_stmt_fields.specs.FieldWord.{text_form, FieldFront}
use Rattle.rz_stmt_fields.specs.Form.{FieldForm}
use Rattle.rz_lex.specs.declared.token.Shape.{Shape}
use Rattle.rz_lex.specs.declared.token.Shape.TheVariants as shapes
use Rattle.rz_lex.specs.declared.token.Token.{Token}

-- Tokens.

part_plain : (part : PlainPart) (shape : Shape) → part_in shape ≡ Some part → IsPlain shape
part_plain part = plain_by (λ s. part_in s ≡ Some part) ((λ h. cc), (λ h. cc), (λ h. cc), (λ h. cc), (λ h. cc), (λ h. cc))

call_plain : (call : TextCall) (shape : Shape) → call_in shape ≡ Some call → IsPlain shape
call_plain call = plain_by (λ s. call_in s ≡ Some call) ((λ h. cc), (λ h. cc), (λ h. cc), (λ h. cc), (λ h. cc), (λ h. cc))

text_plain : (bytes : List ℕ) (shape : Shape) → text_of shape ≡ Some bytes → IsPlain shape
text_plain bytes = plain_by (λ s. text_of s ≡ Some bytes) ((λ h. cc), (λ h. cc), (λ h. cc), (λ h. cc), (λ h. cc), (λ h. cc))

kind_plain : (code : ℕ) (shape : Shape) → kind_in shape ≡ Some code → IsPlain shape
kind_plain code = plain_by (λ s. kind_in s ≡ Some code) ((λ h. cc), (λ h. cc), (λ h. cc), (λ h. cc), (λ h. cc), (λ h. cc))

-- Pieces.

file_level : (tokens : List Token) (pieces : List (List ℕ)) → map (λ token. token.shape) tokens ≡ map shapes.Text pieces → IsLevel tokens
file_level [] pieces are = level_nil
file_level (token ∷ tokens) [] are = absurd (cc are)
file_level (token ∷ tokens) (piece ∷ pieces) are =
    level_more token tokens (λ n. ap (λ (shape : Shape). open_behind shape n) (heads token.shape (shapes.Text piece) (map (λ token. token.shape) tokens) (map shapes.Text pieces) are))
    (file_level tokens pieces (tails token.shape (shapes.Text piece) (map (λ token. token.shape) tokens) (map shapes.Text pieces) are))
  where
    heads : (x y : Shape) (xs ys : List Shape) → x ∷ xs ≡ y ∷ ys → x ≡ y
    heads x y xs ys e = cc e

    tails : (x y : Shape) (xs ys : List Shape) → x ∷ xs ≡ y ∷ ys → xs ≡ ys
    tails x y xs ys e = cc e

alone_level : (tokens : List Token) (bytes : List ℕ) → text_alone tokens ≡ Some bytes → IsLevel tokens
alone_level [] bytes is = level_nil
alone_level (token ∷ []) bytes is = level_more token [] (text_plain bytes token.shape is) level_nil
alone_level (token ∷ other ∷ tokens) bytes is = absurd (cc is)

kind_level : (tokens : List Token) (code : ℕ) → kind_alone tokens ≡ Some code → IsLevel tokens
kind_level [] code is = level_nil
kind_level (token ∷ []) code is = level_more token [] (kind_plain code token.shape is) level_nil
kind_level (token ∷ other ∷ tokens) code is = absurd (cc is)

-- Texts.

mutual
  parts_level : (tokens : List Token) (parts : List PlainPart) → AreParts tokens parts → IsLevel tokens
  parts_level tokens parts no_part = level_nil
  parts_level tokens parts (one_part same behind part others is are) = part_level tokens part behind is (parts_level behind others are)

  part_level : (tokens : List Token) (part : PlainPart) (behind : List Token) → texts.IsFront tokens part behind → IsLevel behind → IsLevel tokens
  part_level tokens part behind (alone token rest same is) after = level_more token rest (part_plain part token.shape is) after
  part_level tokens part behind (called word rest call parted same has brackets so) after =
      level_more word rest (call_plain call word.shape has) (level_bracketed Round rest parted brackets (call_level call parted.front part so) after)

  call_level : (call : TextCall) (tokens : List Token) (part : PlainPart) → IsCall call tokens part → IsLevel tokens
  call_level call tokens part (reads same file is) = file_level tokens is.texts is.are
  call_level call tokens part (asks same file kind asked name code key cut is_file has_kind is_key) =
      comma_cut tokens (file ∷ kind ∷ asked ∷ []) cut (file_level file is_file.texts is_file.are, (kind_level kind code has_kind, (argument_level asked key is_key, tt)))
  call_level call tokens part (formats same said others bytes arguments cut has are) =
      comma_cut tokens (said ∷ others) cut (alone_level said bytes has, arguments_level others arguments are)

  arguments_level : (pieces : List (List Token)) (arguments : List PlainArgument) → AreArguments pieces arguments → AllByRecursion IsLevel pieces
  arguments_level pieces arguments no_argument = tt
  arguments_level pieces arguments (one_argument piece rest argument others is are) = (argument_level piece argument is, arguments_level rest others are)

  argument_level : (tokens : List Token) (argument : PlainArgument) → IsArgument tokens argument → IsLevel tokens
  argument_level tokens argument (by_number same term off is) = level_derives is
  argument_level tokens argument (by_text same parts on are) = parts_level tokens parts are

-- Fields.

fixed_level : (tokens : List Token) (fixed : Option (List PlainPart)) → IsFixed tokens fixed → IsLevel tokens
fixed_level [] fixed is = level_nil
fixed_level (token ∷ tokens) fixed is = level_more token tokens (equals_plain token.shape is.1) (parts_level tokens is.0 is.2.are)

text_by : (sized hex : Bool) (form : TextForm) (tokens : List Token) (text : PlainText) → IsTextBy sized hex form tokens text → IsLevel tokens
text_by true hex form tokens text is = level_bracketed Square tokens is.0 is.3 (level_derives is.4.0) (fixed_level is.0.behind is.2 is.5)
text_by false hex form tokens text is = fixed_level tokens is.0 is.1

flat_by : (form : Option TextForm) (front : FieldFront) (field : FieldForm) → IsFlatBy form front field → IsLevel front.tail
flat_by (Some form) front field is = text_by (begins Square front.tail) is.0 form front.tail is.1 is.3
flat_by None front field is = field_level front field is

pub flat_level : (tokens : List Token) (field : FieldForm) → IsFlat tokens field → IsLevel tokens
flat_level tokens field is = front_level tokens is.0 is.1 (flat_by (text_form is.0.word) is.0 field is.2)
