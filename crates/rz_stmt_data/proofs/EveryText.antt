-- Of all tokens it is decided which text they are.
use Rattle.std.proofs.Common.{◌≡◌, ◌≢◌, ◌⊎◌, inl, inr, ℕ, zero, suc, ◌≤◌, Bool, true, false, List, [], ◌∷◌, length, Option, Some, None, refl, sym, subst, ◌∙◌, arith}
use Rattle.std.proofs.Math.Decide.{map_dec}
use Rattle.rz_core.proofs.Tests.{same_some, true_false}
use Rattle.rz_core.specs.Decided.{Decided}
use Rattle.rz_lex.specs.declared.token.Token.{Token}
use Rattle.rz_core.proofs.EveryCut.{all_three, answer_of, both, is_nothing, is_true, known_of, known_with, one_of, some_of}
use Rattle.rz_expr.proofs.OneTerm.{OneExpression}
use Rattle.rz_expr.specs.Grammar.{IsExpression}
use Rattle.rz_expr.specs.Term.{Term}
use Rattle.rz_stmt_brackets.proofs.OneBracket.{one_bracketed}
use Rattle.rz_stmt_brackets.proofs.OneCut.{one_cut, some_pieces}
use Rattle.rz_stmt_brackets.proofs.Short.{bracket_sizes, cut_short, no_longer, AreShort}
use Rattle.rz_stmt_brackets.specs.Bracket.{IsBracketed}
use Rattle.rz_stmt_brackets.specs.Pieces.{AreCut, Parted}
use Rattle.rz_stmt_brackets.specs.declared.bracket.Bracket.{Bracket}
use Rattle.rz_stmt_brackets.specs.declared.bracket.Bracket.TheVariants.{Round}
use Rattle.rz_stmt_brackets.specs.declared.pieces.Divider.TheVariants.{Comma}
use Rattle.rz_types_fields.specs.Place.{may_stand}
use Rattle.rz_types_fields.specs.Text as plain
use Rattle.rz_types_fields.specs.Text.{arguments_of, parts_of, FileBytes, FileResource, Number, PlainArgument, PlainPart, Text}
use Rattle.rz_types_fields.specs.declared.place.TextPlace.{TextPlace}
use Rattle.rz_stmt_data.proofs.FileNames.{whole_decided, whole_so}
use Rattle.rz_stmt_data.proofs.OneText.{one_parts, same_behind}
use Rattle.rz_stmt_data.specs.Files.{behind_texts, file_in, IsFile}
use Rattle.rz_stmt_data.specs.Texts.{alone, asks, begins_text, by_number, by_text, call_in, called, formats, key_by, kind_alone, no_argument, no_part, one_argument, one_part, part_in, reads, text_alone, AreArguments, AreParts, IsArgument, IsCall, IsFront, IsText}
use Rattle.rz_stmt_data.specs.declared.texts.TextCall.{TextCall}
use Rattle.rz_stmt_data.specs.declared.texts.TextCall.TheVariants.{Format, Read, Resource}

abbrev HasFile : List Token → Type 0
HasFile tokens = (name : List ℕ) × IsFile tokens name

abbrev pub HasParts : List Token → Type 0
HasParts tokens = (parts : List PlainPart) × AreParts tokens parts

abbrev HasFront : List Token → Type 0
HasFront tokens = (part : PlainPart) × (behind : List Token) × IsFront tokens part behind

abbrev HasCall : TextCall → List Token → Type 0
HasCall call tokens = (part : PlainPart) × IsCall call tokens part

abbrev HasArguments : List (List Token) → Type 0
HasArguments pieces = (arguments : List PlainArgument) × AreArguments pieces arguments

abbrev HasArgument : List Token → Type 0
HasArgument tokens = (argument : PlainArgument) × IsArgument tokens argument

is_some : (parts : List PlainPart) → Dec (parts ≢ [])
is_some [] = no (λ some. some refl)
is_some (part ∷ parts) = yes (λ is. cc is)

is_file : (tokens : List Token) → Dec (HasFile tokens)
is_file tokens = by (is_nothing (behind_texts tokens))
  where
    by : Dec (behind_texts tokens ≡ []) → Dec (HasFile tokens)
    by (yes none) = known_of (IsFile tokens) (file_in tokens, whole_decided tokens none (file_in tokens) refl)
    by (no some) = no (λ h. some (whole_so tokens h.0 h.1).1)

pub every_file : (tokens : List Token) → (answer : Option (List ℕ)) × Decided (IsFile tokens) answer
every_file tokens = answer_of (IsFile tokens) (is_file tokens)

-- What a text is made of.

-- an argument

number_in : {tokens : List Token} {argument : PlainArgument} → IsArgument tokens argument → begins_text tokens ≡ false → (term : Term) × IsExpression tokens term
number_in (by_number tokens term off is) also = (term, is)
number_in (by_text tokens parts on are) off = absurd (true_false (sym on ∙ off))

text_in : {tokens : List Token} {argument : PlainArgument} → IsArgument tokens argument → begins_text tokens ≡ true → HasParts tokens
text_in (by_number tokens term off is) on = absurd (true_false (sym on ∙ off))
text_in (by_text tokens parts on are) also = (parts, are)

arguments_in : (piece : List Token) (pieces : List (List Token)) (arguments : List PlainArgument) → AreArguments (piece ∷ pieces) arguments → HasArgument piece × HasArguments pieces
arguments_in piece pieces arguments (one_argument same others argument more is are) = ((argument, is), (more, are))

-- what stands in the brackets of a function

-- a file, a type, and an id or a name
abbrev AreAsked : List (List Token) → Type 0
AreAsked [] = ⊥
AreAsked (file ∷ []) = ⊥
AreAsked (file ∷ kind ∷ []) = ⊥
AreAsked (file ∷ kind ∷ asked ∷ []) = HasFile file × ((code : ℕ) × (kind_alone kind ≡ Some code)) × HasArgument asked
AreAsked (file ∷ kind ∷ asked ∷ other ∷ others) = ⊥

asked_in : {tokens : List Token} {part : PlainPart} → IsCall Resource tokens part → (pieces : List (List Token)) × AreCut Comma tokens pieces × AreAsked pieces
asked_in (asks tokens file kind asked name code key cut is_file has_kind is_key) = (file ∷ kind ∷ asked ∷ [], cut, ((name, is_file), (code, has_kind), (key, is_key)))

asked_call : (tokens : List Token) → (pieces : List (List Token)) × AreCut Comma tokens pieces × AreAsked pieces → HasCall Resource tokens
asked_call tokens ([], cut, never) = absurd never
asked_call tokens (file ∷ [], cut, never) = absurd never
asked_call tokens (file ∷ kind ∷ [], cut, never) = absurd never
asked_call tokens (file ∷ kind ∷ asked ∷ [], cut, (name, code, key)) =
    (FileResource name.0 (record { code = code.0 }) (key_by key.0), asks tokens file kind asked name.0 code.0 key.0 cut name.1 code.1 key.1)
asked_call tokens (file ∷ kind ∷ asked ∷ other ∷ others, cut, never) = absurd never

-- a text, and its arguments
abbrev AreFormatted : List (List Token) → Type 0
AreFormatted [] = ⊥
AreFormatted (text ∷ others) = ((bytes : List ℕ) × (text_alone text ≡ Some bytes)) × HasArguments others

formatted_in : {tokens : List Token} {part : PlainPart} → IsCall Format tokens part → (pieces : List (List Token)) × AreCut Comma tokens pieces × AreFormatted pieces
formatted_in (formats tokens text others bytes arguments cut has_text are) = (text ∷ others, cut, ((bytes, has_text), (arguments, are)))

formatted_call : (tokens : List Token) → (pieces : List (List Token)) × AreCut Comma tokens pieces × AreFormatted pieces → HasCall Format tokens
formatted_call tokens ([], cut, never) = absurd never
formatted_call tokens (text ∷ others, cut, (bytes, arguments)) =
    (plain.Format bytes.0 (arguments_of arguments.0), formats tokens text others bytes.0 arguments.0 cut bytes.1 arguments.1)

file_called : {tokens : List Token} {part : PlainPart} → IsCall Read tokens part → HasFile tokens
file_called (reads tokens file is) = (file, is)

-- the part at the front

-- by itself, or a function with what stands in its brackets
abbrev IsAlone : Token → Type 0
IsAlone token = (part : PlainPart) × (part_in token.shape ≡ Some part)

abbrev IsCalled : Token → List Token → Type 0
IsCalled word rest =
    (call : TextCall) × (call_in word.shape ≡ Some call) × ((parted : Parted) × IsBracketed Round rest parted × HasCall call parted.front)

front_in : (first : Token) (rest : List Token) (part : PlainPart) (behind : List Token) → IsFront (first ∷ rest) part behind → IsAlone first ⊎ IsCalled first rest
front_in first rest part behind (alone same others found is) = inl (found, is)
front_in first rest part behind (called same others call parted found has brackets so) = inr (call, has, (parted, brackets, (found, so)))

front_so : (first : Token) (rest : List Token) → HasFront (first ∷ rest) → IsAlone first ⊎ IsCalled first rest
front_so first rest h = front_in first rest h.0 h.1 h.2

front_of : (first : Token) (rest : List Token) → IsAlone first ⊎ IsCalled first rest → HasFront (first ∷ rest)
front_of first rest (inl a) = (a.0, rest, alone first rest a.0 a.1)
front_of first rest (inr (call, has, (parted, brackets, so))) = (so.0, parted.behind, called first rest call parted so.0 has brackets so.1)

front_short : {tokens : List Token} {part : PlainPart} {behind : List Token} → IsFront tokens part behind → suc (length behind) ≤ length tokens
front_short (alone token behind part is) = omega arith
front_short (called word rest call parted part has brackets so) = omega (arith, bracket_sizes Round rest parted brackets)

-- and what stands after it
parts_in : (first : Token) (rest : List Token) (parts : List PlainPart) → AreParts (first ∷ rest) parts
    → (part : PlainPart) × (behind : List Token) × IsFront (first ∷ rest) part behind × HasParts behind
parts_in first rest parts (one_part same behind part others is are) = (part, behind, is, (others, are))

module _ (expression : (tokens : List Token) → (answer : Option Term) × Decided (IsExpression tokens) answer)
    (within : (bracket : Bracket) (tokens : List Token) → (answer : Option Parted) × Decided (IsBracketed bracket tokens) answer) where
  -- Fewer tokens first.

  module _ (n : ℕ) (fewer : (tokens : List Token) → length tokens ≤ n → Dec (HasParts tokens)) where
    is_argument : (tokens : List Token) → length tokens ≤ n → Dec (HasArgument tokens)
    is_argument tokens few = by (begins_text tokens) refl
      where
        number : begins_text tokens ≡ false → (answer : Option Term) × Decided (IsExpression tokens) answer → Dec (HasArgument tokens)
        number off (Some term, is) = yes (Number term, by_number tokens term off is)
        number off (None, never) = no (λ h. let is = number_in h.1 off in never is.0 is.1)

        text : begins_text tokens ≡ true → Dec (HasParts tokens) → Dec (HasArgument tokens)
        text on (yes p) = yes (Text (parts_of p.0), by_text tokens p.0 on p.1)
        text on (no never) = no (λ h. never (text_in h.1 on))

        by : (b : Bool) → begins_text tokens ≡ b → Dec (HasArgument tokens)
        by false off = number off (expression tokens)
        by true on = text on (fewer tokens few)

    are_arguments : (pieces : List (List Token)) → AreShort n pieces → Dec (HasArguments pieces)
    are_arguments [] short = yes ([], no_argument)
    are_arguments (piece ∷ pieces) short = map_dec to from (both (is_argument piece short.0) (are_arguments pieces short.1))
      where
        to : HasArgument piece × HasArguments pieces → HasArguments (piece ∷ pieces)
        to (first, others) = (first.0 ∷ others.0, one_argument piece pieces first.0 others.0 first.1 others.1)

        from : HasArguments (piece ∷ pieces) → HasArgument piece × HasArguments pieces
        from h = arguments_in piece pieces h.0 h.1

    are_asked : (pieces : List (List Token)) → AreShort n pieces → Dec (AreAsked pieces)
    are_asked [] short = no (λ never. never)
    are_asked (file ∷ []) short = no (λ never. never)
    are_asked (file ∷ kind ∷ []) short = no (λ never. never)
    are_asked (file ∷ kind ∷ asked ∷ []) short = all_three (is_file file) (some_of (kind_alone kind)) (is_argument asked short.1.1.0)
    are_asked (file ∷ kind ∷ asked ∷ other ∷ others) short = no (λ never. never)

    are_formatted : (pieces : List (List Token)) → AreShort n pieces → Dec (AreFormatted pieces)
    are_formatted [] short = no (λ never. never)
    are_formatted (text ∷ others) short = both (some_of (text_alone text)) (are_arguments others short.1)

    is_call : (call : TextCall) (tokens : List Token) → length tokens ≤ n → Dec (HasCall call tokens)
    is_call Read tokens few = map_dec to from (is_file tokens)
      where
        to : HasFile tokens → HasCall Read tokens
        to file = (FileBytes file.0, reads tokens file.0 file.1)

        from : HasCall Read tokens → HasFile tokens
        from h = file_called h.1
    is_call Resource tokens few =
        map_dec (asked_call tokens) asked (known_with (AreCut Comma tokens) (λ pieces. AreAsked pieces) (one_cut Comma tokens) (yes (some_pieces Comma (length tokens) tokens (omega arith)))
        (λ pieces cut. are_asked pieces (no_longer (length tokens) n pieces few (cut_short Comma tokens pieces cut))))
      where
        asked : HasCall Resource tokens → (pieces : List (List Token)) × AreCut Comma tokens pieces × AreAsked pieces
        asked h = asked_in h.1
    is_call Format tokens few =
        map_dec (formatted_call tokens) formatted (known_with (AreCut Comma tokens) (λ pieces. AreFormatted pieces) (one_cut Comma tokens) (yes (some_pieces Comma (length tokens) tokens (omega arith)))
        (λ pieces cut. are_formatted pieces (no_longer (length tokens) n pieces few (cut_short Comma tokens pieces cut))))
      where
        formatted : HasCall Format tokens → (pieces : List (List Token)) × AreCut Comma tokens pieces × AreFormatted pieces
        formatted h = formatted_in h.1

    is_called : (word : Token) (rest : List Token) → length rest ≤ n → Dec (IsCalled word rest)
    is_called word rest few =
        known_with (λ (call : TextCall). call_in word.shape ≡ Some call) (λ (call : TextCall). (parted : Parted) × IsBracketed Round rest parted × HasCall call parted.front)
        (same_some (call_in word.shape)) (some_of (call_in word.shape)) (λ call has. inside call)
      where
        inside : (call : TextCall) → Dec ((parted : Parted) × IsBracketed Round rest parted × HasCall call parted.front)
        inside call =
            known_with (IsBracketed Round rest) (λ parted. HasCall call parted.front) (one_bracketed Round rest) (known_of (IsBracketed Round rest) (within Round rest))
            (λ parted brackets. is_call call parted.front (omega (arith, few, bracket_sizes Round rest parted brackets)))

    is_front : (first : Token) (rest : List Token) → length rest ≤ n → Dec (HasFront (first ∷ rest))
    is_front first rest few = map_dec (front_of first rest) (front_so first rest) (one_of (some_of (part_in first.shape)) (is_called first rest few))

    are_parts : (tokens : List Token) → length tokens ≤ suc n → Dec (HasParts tokens)
    are_parts [] few = yes ([], no_part)
    are_parts (first ∷ rest) few = by (is_front first rest (omega (arith, few)))
      where
        to : (front : HasFront (first ∷ rest)) → HasParts front.1 → HasParts (first ∷ rest)
        to front more = (front.0 ∷ more.0, one_part (first ∷ rest) front.1 front.0 more.0 front.2 more.1)

        from : (front : HasFront (first ∷ rest)) → HasParts (first ∷ rest) → HasParts front.1
        from front h =
            let it = parts_in first rest h.0 h.1 in
            subst (λ (ts : List Token). HasParts ts) (same_behind (first ∷ rest) it.0 front.0 it.1 front.1 it.2 front.2) it.3

        by : Dec (HasFront (first ∷ rest)) → Dec (HasParts (first ∷ rest))
        by (no never) = no (λ h. let it = parts_in first rest h.0 h.1 in never (it.0, it.1, it.2))
        by (yes front) = map_dec (to front) (from front) (fewer front.1 (omega (arith, few, front_short front.2)))

  all_parts : (n : ℕ) (tokens : List Token) → length tokens ≤ n → Dec (HasParts tokens)
  all_parts zero [] few = yes ([], no_part)
  all_parts zero (first ∷ rest) few = absurd (omega (arith, few))
  all_parts (suc n) tokens few = are_parts n (all_parts n) tokens few

  pub every_parts : (tokens : List Token) → (answer : Option (List PlainPart)) × Decided (AreParts tokens) answer
  every_parts tokens = answer_of (AreParts tokens) (all_parts (length tokens) tokens (omega arith))

  module _ (one : OneExpression) (place : TextPlace) (tokens : List Token) where
    pub is_text : Dec ((parts : List PlainPart) × IsText place tokens parts)
    is_text =
        map_dec to from (known_with (AreParts tokens) (λ parts. (parts ≢ []) × (may_stand place parts ≡ true)) (one_parts one tokens)
        (all_parts (length tokens) tokens (omega arith)) (λ parts are. both (is_some parts) (is_true (may_stand place parts))))
      where
        to : (parts : List PlainPart) × AreParts tokens parts × ((parts ≢ []) × (may_stand place parts ≡ true)) → (parts : List PlainPart) × IsText place tokens parts
        to (parts, are, (some, may)) = (parts, record { are = are; some = some; may = may })

        from : (parts : List PlainPart) × IsText place tokens parts → (parts : List PlainPart) × AreParts tokens parts × ((parts ≢ []) × (may_stand place parts ≡ true))
        from h = (h.0, h.1.are, (h.1.some, h.1.may))

    pub every_text : (answer : Option (List PlainPart)) × Decided (IsText place tokens) answer
    every_text = answer_of (IsText place tokens) is_text
