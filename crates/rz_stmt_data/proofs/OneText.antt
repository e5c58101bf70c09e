-- Tokens are one text at most, and no expression.
use Rattle.std.proofs.Common.{◌≡◌, ◌≢◌, ℕ, Bool, true, false, List, [], ◌∷◌, ◌++◌, Some, refl, sym, ap, subst, ◌∙◌}
use Rattle.rz_stmt_brackets.proofs.OneBracket.{one_bracketed}
use Rattle.rz_stmt_brackets.proofs.OneCut.{one_cut}
use Rattle.rz_stmt_brackets.specs.Pieces.{Parted}
use Rattle.rz_stmt_brackets.specs.declared.bracket.Bracket.TheVariants.{Round}
use Rattle.rz_stmt_brackets.specs.declared.pieces.Divider.TheVariants.{Comma}
use Rattle.rz_core.proofs.Tests.{none_some, same_some, true_false}
use Rattle.rz_expr.proofs.OneTerm.{OneExpression}
use Rattle.rz_expr.specs.Grammar.{binary, bits_at, counted, data_at, grouped, indexed, labelled, numbered, operand, prefixed, start_of, tighter, word_start, Bracket, Calls, Derives, IsExpression, Label, NoStart, Operand, Prefix, Start}
use Rattle.rz_expr.specs.Term.{Term}
use Rattle.rz_words.specs.Words.{role_of}
use Rattle.rz_words.specs.declared.words.Function.TheVariants.{ArrayIndex, BitField, CountOf, Data}
use Rattle.rz_words.specs.declared.words.Role.{Role}
use Rattle.rz_words.specs.declared.words.Role.TheVariants as roles
use Rattle.rz_words.specs.declared.words.TextWord.TheVariants as words
use Rattle.rz_types_fields.specs.Text as plain
use Rattle.rz_types_fields.specs.Text.{arguments_of, parts_of, FileBytes, FileResource, Number, PlainArgument, PlainPart, Text}
use Rattle.rz_lex.specs.declared.token.Shape.{Shape}
use Rattle.rz_lex.specs.declared.token.Shape.TheVariants as shapes
use Rattle.rz_lex.specs.declared.token.Token.{Token}
use Rattle.rz_stmt_data.proofs.FileNames.{one_file}
use Rattle.rz_stmt_data.specs.Files.{IsFile}
use Rattle.rz_stmt_data.specs.Texts.{alone, asks, begins_text, by_number, by_text, call_in, called, formats, is_text_word, key_by, kind_alone, no_argument, no_part, one_argument, one_part, part_in, reads, starts_text, text_alone, word_call, word_part, AreArguments, AreParts, IsArgument, IsCall, IsFront}
use Rattle.rz_stmt_data.specs.declared.texts.TextCall.{TextCall}

-- A token is a part by itself, or a function, or neither.

role_apart : (role : Role) (part : PlainPart) (call : TextCall) → word_part role ≡ Some part → word_call role ≡ Some call → ⊥
role_apart (roles.Text words.Name) part call is also = none_some call also
role_apart (roles.Text words.Date) part call is also = none_some call also
role_apart (roles.Text words.Time) part call is also = none_some call also
role_apart (roles.Text words.Version) part call is also = none_some call also
role_apart (roles.Text words.Read) part call is also = none_some part is
role_apart (roles.Text words.Resource) part call is also = none_some part is
role_apart (roles.Text words.Format) part call is also = none_some part is
role_apart role part call is also = none_some part is

pub apart : (shape : Shape) (part : PlainPart) (call : TextCall) → part_in shape ≡ Some part → call_in shape ≡ Some call → ⊥
apart (shapes.Word word) part call is also = role_apart (role_of word.bytes) part call is also
apart shape part call is also = none_some call also

-- A text begins with either.

role_part : (role : Role) (part : PlainPart) → word_part role ≡ Some part → is_text_word role ≡ true
role_part (roles.Text which) part is = refl
role_part role part is = absurd (none_some part is)

part_starts : (shape : Shape) (part : PlainPart) → part_in shape ≡ Some part → starts_text shape ≡ true
part_starts (shapes.Text bytes) part is = refl
part_starts (shapes.Word word) part is = role_part (role_of word.bytes) part is
part_starts shape part is = absurd (none_some part is)

role_call : (role : Role) (call : TextCall) → word_call role ≡ Some call → is_text_word role ≡ true
role_call (roles.Text which) call is = refl
role_call role call is = absurd (none_some call is)

call_starts : (shape : Shape) (call : TextCall) → call_in shape ≡ Some call → starts_text shape ≡ true
call_starts (shapes.Word word) call is = role_call (role_of word.bytes) call is
call_starts shape call is = absurd (none_some call is)

pub front_begins : (tokens : List Token) (part : PlainPart) (behind : List Token) → IsFront tokens part behind → begins_text tokens ≡ true
front_begins tokens part behind (alone token rest same is) = part_starts token.shape part is
front_begins tokens part behind (called word rest call parted same has brackets so) = call_starts word.shape call has

pub front_some : (tokens : List Token) (part : PlainPart) (behind : List Token) → IsFront tokens part behind → tokens ≢ []
front_some tokens part behind is none = true_false (sym (front_begins tokens part behind is) ∙ ap begins_text none)

pub parts_begin : (tokens : List Token) (parts : List PlainPart) → AreParts tokens parts → parts ≢ [] → begins_text tokens ≡ true
parts_begin tokens parts no_part some = absurd (some refl)
parts_begin tokens parts (one_part same behind part others is are) some = front_begins tokens part behind is

-- An expression begins with neither.

abbrev is_start : Start → Bool
is_start NoStart = false
is_start start = true

role_starts : (role : Role) (name : List ℕ) → is_start (word_start role name) ≡ true → is_text_word role ≡ false
role_starts (roles.Text which) name is = absurd (true_false (sym is))
role_starts role name is = refl

start_is : (shape : Shape) → is_start (start_of shape) ≡ true → starts_text shape ≡ false
start_is (shapes.Text bytes) is = absurd (true_false (sym is))
start_is (shapes.Word word) is = role_starts (role_of word.bytes) word.bytes is
start_is shape is = refl

-- tokens, and the first begins no text
record AreBegun (tokens : List Token) : Type 0 where
  first : Token
  rest : List Token
  are : tokens ≡ first ∷ rest
  off : starts_text first.shape ≡ false

begun_by : (token : Token) (rest : List Token) (start : Start) → start_of token.shape ≡ start → is_start start ≡ true → AreBegun (token ∷ rest)
begun_by token rest start is starts = record { first = token; rest = rest; are = refl; off = start_is token.shape (ap is_start is ∙ starts) }

begun : {level : ℕ} (tokens : List Token) (term : Term) → Derives level tokens term → AreBegun tokens
begun tokens term (operand {t} {e} is) = begun_by t [] (Operand e) is refl
begun tokens term (labelled {t} {name} is) = begun_by t [] (Label name) is refl
begun tokens term (indexed {t} {name} {ts} bracket close is begins more closes) = begun_by t (bracket ∷ (ts ++ close ∷ [])) (Label name) is refl
begun tokens term (prefixed {t} {ts} {op} is more) = begun_by t ts (Prefix op) is refl
begun tokens term (grouped {t} {ts} close is more closes) = begun_by t (ts ++ close ∷ []) Bracket is refl
begun tokens term (counted {t} {a} {b} {c} is named) = begun_by t (a ∷ b ∷ c ∷ []) (Calls CountOf) is refl
begun tokens term (numbered {t} {a} {b} {c} is named) = begun_by t (a ∷ b ∷ c ∷ []) (Calls ArrayIndex) is refl
begun tokens term (data_at {t} {a} {b} {c} {word} {width} is named) = begun_by t (a ∷ b ∷ c ∷ []) (Calls (Data width)) is refl
begun tokens term (bits_at {t} {a} {b} {c} {word} {xs} {ys} comma close is named start separates width closes) =
    begun_by t (a ∷ b ∷ c ∷ (xs ++ comma ∷ (ys ++ close ∷ []))) (Calls BitField) is refl
begun tokens term (tighter more) = begun tokens term more
begun tokens term (binary xs ys t is loose left right) =
    let it = begun xs _ left in
    record { first = it.first; rest = it.rest ++ t ∷ ys; are = ap (λ (ts : List Token). ts ++ t ∷ ys) it.are; off = it.off }

pub expression_apart : (tokens : List Token) (term : Term) → IsExpression tokens term → begins_text tokens ≡ false
expression_apart tokens term is = let it = begun tokens term is in ap begins_text it.are ∙ it.off

-- What stands after a part, and the part.

pub same_behind : (tokens : List Token) (part another : PlainPart) (behind other : List Token) → IsFront tokens part behind → IsFront tokens another other → behind ≡ other
same_behind tokens part another behind other (alone token rest p is) (alone same others q also) = refl
same_behind tokens part another behind other (alone token rest p is) (called same others call parted q has brackets so) = absurd (apart token.shape part call is has)
same_behind tokens part another behind other (called word rest call parted p has brackets so) (alone same others q also) = absurd (apart word.shape another call also has)
same_behind tokens part another behind other (called word rest call parted p has brackets so) (called same others call_too parted_too q has_too brackets_too so_too) =
    ap (λ (x : Parted). x.behind) (one_bracketed Round rest parted parted_too brackets brackets_too)

pub same_three : (a b c x y z : List Token) → a ∷ b ∷ c ∷ [] ≡ x ∷ y ∷ z ∷ [] → (a ≡ x) × (b ≡ y) × (c ≡ z)
same_three a b c x y z e = (cc e, cc e, cc e)

pub same_more : (a x : List Token) (b y : List (List Token)) → a ∷ b ≡ x ∷ y → (a ≡ x) × (b ≡ y)
same_more a x b y e = (cc e, cc e)

module _ (one : OneExpression) where
  mutual
    pub one_parts : (tokens : List Token) (a b : List PlainPart) → AreParts tokens a → AreParts tokens b → a ≡ b
    one_parts tokens a b no_part no_part = refl
    one_parts tokens a b no_part (one_part same behind part others is are) = absurd (front_some [] part behind is refl)
    one_parts tokens a b (one_part same behind part others is are) no_part = absurd (front_some [] part behind is refl)
    one_parts tokens a b (one_part same behind part others is are) (one_part same_too other another more also are_too) =
        let first = one_front tokens part another behind other is also in
        let rest = one_parts behind others more are (subst (λ (ts : List Token). AreParts ts more) (sym (same_behind tokens part another behind other is also)) are_too) in
        λ i. first i ∷ rest i

    one_front : (tokens : List Token) (part another : PlainPart) (behind other : List Token) → IsFront tokens part behind → IsFront tokens another other → part ≡ another
    one_front tokens part another behind other (alone token rest p is) (alone same others q also) = same_some (part_in token.shape) part another is also
    one_front tokens part another behind other (alone token rest p is) (called same others call parted q has brackets so) = absurd (apart token.shape part call is has)
    one_front tokens part another behind other (called word rest call parted p has brackets so) (alone same others q also) = absurd (apart word.shape another call also has)
    one_front tokens part another behind other (called word rest call parted p has brackets so) (called same others call_too parted_too q has_too brackets_too so_too) =
        let calls : call ≡ call_too = same_some (call_in word.shape) call call_too has has_too in
        let inside : parted ≡ parted_too = one_bracketed Round rest parted parted_too brackets brackets_too in
        one_call call parted.front part another so
        (subst (λ (c : TextCall). IsCall c parted.front another) (sym calls) (subst (λ (x : Parted). IsCall call_too x.front another) (sym inside) so_too))

    one_call : (call : TextCall) (tokens : List Token) (a b : PlainPart) → IsCall call tokens a → IsCall call tokens b → a ≡ b
    one_call call tokens a b (reads same file is) (reads same_too other also) = ap FileBytes (one_file tokens file other is also)
    one_call call tokens a b (asks same file kind asked name code key cut is_file has_kind is_key) (asks same_too file_too kind_too asked_too name_too code_too key_too cut_too is_file_too has_kind_too is_key_too) =
        let pieces = same_three file kind asked file_too kind_too asked_too
        (one_cut Comma tokens (file ∷ kind ∷ asked ∷ []) (file_too ∷ kind_too ∷ asked_too ∷ []) cut cut_too) in
        let names = one_file file name name_too is_file (subst (λ (ts : List Token). IsFile ts name_too) (sym pieces.0) is_file_too) in
        let codes = same_some (kind_alone kind) code code_too has_kind (ap kind_alone pieces.1 ∙ has_kind_too) in
        let keys = one_key asked key key_too is_key (subst (λ (ts : List Token). IsArgument ts key_too) (sym pieces.2) is_key_too) in
        λ i. FileResource (names i) (record { code = codes i }) (key_by (keys i))
    one_call call tokens a b (formats same said others bytes arguments cut has_text are) (formats same_too said_too others_too bytes_too arguments_too cut_too has_text_too are_too) =
        let pieces = same_more said said_too others others_too (one_cut Comma tokens (said ∷ others) (said_too ∷ others_too) cut cut_too) in
        let texts = same_some (text_alone said) bytes bytes_too has_text (ap text_alone pieces.0 ∙ has_text_too) in
        let all = one_list others arguments arguments_too are (subst (λ (ps : List (List Token)). AreArguments ps arguments_too) (sym pieces.1) are_too) in
        λ i. plain.Format (texts i) (arguments_of (all i))

    one_list : (pieces : List (List Token)) (a b : List PlainArgument) → AreArguments pieces a → AreArguments pieces b → a ≡ b
    one_list pieces a b no_argument no_argument = refl
    one_list pieces a b (one_argument piece rest argument arguments is are) (one_argument same others other more also are_too) =
        λ i. one_key piece argument other is also i ∷ one_list rest arguments more are are_too i

    one_key : (tokens : List Token) (a b : PlainArgument) → IsArgument tokens a → IsArgument tokens b → a ≡ b
    one_key tokens a b (by_number same term off is) (by_number same_too other off_too also) = ap Number (one tokens term other is also)
    one_key tokens a b (by_number same term off is) (by_text same_too parts on are) = absurd (true_false (sym on ∙ off))
    one_key tokens a b (by_text same parts on are) (by_number same_too other off is) = absurd (true_false (sym on ∙ off))
    one_key tokens a b (by_text same parts on are) (by_text same_too others on_too are_too) =
        ap (λ (l : List PlainPart). Text (parts_of l)) (one_parts tokens parts others are are_too)
