-- What a logical line does. (MPW Rez.)
use Rattle.std.specs.Prelude.{◌≡◌, ℕ, ℤ, Bool, true, false, not, if◌then◌else◌, List, [], ◌∷◌, Option, Some, None, Ok, Err, option_map}
use Rattle.std.specs.declared.result.Result.{Result}
use Rattle.rz_core.specs.declared.fault.Fault.{Fault}
use Rattle.rz_core.specs.declared.fault.Kept.{Kept}
use Rattle.rz_core.specs.declared.fault.Kept.TheVariants.{Name, Nothing as NothingKept}
use Rattle.rz_core.specs.declared.fault.Mark.{Mark}
use Rattle.rz_core.specs.declared.resource.Word.{Word}
use Rattle.rz_lex.specs.Cutting.{Cuts, Refuses}
use Rattle.rz_lex.specs.declared.raw_line.RawLine.{RawLine}
use Rattle.rz_lex.specs.declared.token.Shape.{Shape}
use Rattle.rz_lex.specs.declared.token.Shape.TheVariants as shapes
use Rattle.rz_lex.specs.declared.token.Token.{Token}
use Rattle.rz_expr.specs.Value.{is_zero}
use Rattle.rz_words.specs.Words.{is_label, role_of}
use Rattle.rz_core.specs.Answers.{Then}
use Rattle.rz_pre.specs.Condition.{is_known, ConditionFails, IsCondition}
use Rattle.rz_pre_source.specs.Directive.{behind_hash, directive_in, has_parameters, unblanked}
use Rattle.rz_pre.specs.Expanded.{ExpandInto, FirstTooLong}
use Rattle.rz_pre.specs.Live.{Live}
use Rattle.rz_pre.specs.declared.act.Act.{Act}
use Rattle.rz_pre.specs.declared.act.Act.TheVariants.{Begin, End, Include, Nothing, Put, Set, Turn}
use Rattle.rz_pre.specs.declared.condition.Tool.{Tool}
use Rattle.rz_pre.specs.declared.conditional.Open.{Open}
use Rattle.rz_pre.specs.declared.conditional.Part.{Part}
use Rattle.rz_pre.specs.declared.conditional.Part.TheVariants.{Chosen, Past, Waiting}
use Rattle.rz_pre_source.specs.declared.directive.Directive.{Directive}
use Rattle.rz_pre_source.specs.declared.directive.Directive.TheVariants as directives

-- Answers of what stands below.

-- the tokens of bytes, or their first fault
abbrev pub IsCut : Mark → List ℕ → Result (List Token) Fault → Type 0
IsCut mark bytes (Ok tokens) = Cuts mark bytes tokens
IsCut mark bytes (Err fault) = Refuses mark bytes fault

-- the tokens with their macros replaced, or the fault of the first word that is replaced by too many
abbrev pub IsReplaced : Live → List Token → Result (List Token) Fault → Type 0
IsReplaced live tokens (Ok out) = ExpandInto live tokens out
IsReplaced live tokens (Err fault) = FirstTooLong live tokens fault

-- the value of a condition, or its fault
abbrev pub IsComputed : Live → Tool → Mark → List Token → Result ℤ Fault → Type 0
IsComputed live tool mark tokens (Ok value) = IsCondition live tool tokens value
IsComputed live tool mark tokens (Err fault) = ConditionFails live tool mark tokens fault

-- Conditionals. A part that is chosen is read, and of a line only the innermost conditional around it counts.

abbrev pub is_chosen : Part → Bool
is_chosen Chosen = true
is_chosen other = false

abbrev pub is_kept : Option Open → Bool
is_kept None = true
is_kept (Some one) = is_chosen one.part

-- the part after a test that holds is chosen; after one that doesn't, a later part may be
abbrev pub part_where : Bool → Part
part_where holds = if holds then Chosen else Waiting

abbrev pub part_of : ℤ → Part
part_of value = if is_zero value then Waiting else Chosen

-- Directives whose tokens say it all.

-- 104, with the word of the directive where it has one
abbrev pub word_kept : Shape → Kept
word_kept (shapes.Word word) = Name word.bytes
word_kept other = NothingKept

abbrev pub directive_word : List Token → Kept
directive_word [] = NothingKept
directive_word (first ∷ rest) = word_kept first.shape

abbrev pub bad_directive : Mark → List Token → Fault
bad_directive mark tokens = record { number = 104; mark = Some mark; kept = directive_word tokens }

abbrev pub or_bad : Mark → List Token → Option Act → Result Act Fault
or_bad mark tokens None = Err (bad_directive mark tokens)
or_bad mark tokens (Some act) = Ok act

-- the tokens after the directive's word
abbrev pub behind_first : List Token → List Token
behind_first [] = []
behind_first (first ∷ rest) = rest

-- `#include`: one text
abbrev pub text_in : Shape → Option (List ℕ)
text_in (shapes.Text bytes) = Some bytes
text_in other = None

abbrev pub included : List Token → Option Act
included (file ∷ []) = option_map (λ name. Include name) (text_in file.shape)
included other = None

-- a word, and one that may be defined
abbrev pub word_in : Shape → Option Word
word_in (shapes.Word word) = Some word
word_in other = None

abbrev pub if_free : Option Word → Option Word
if_free None = None
if_free (Some word) = if is_label (role_of word.bytes) then Some word else None

abbrev pub free_word : Shape → Option Word
free_word shape = if_free (word_in shape)

-- `#define`: such a word and its text, unless the word is written like a macro with parameters; `#undef`: such a word
-- alone
abbrev pub defined : Bool → List Token → Option Act
defined has_parameters [] = None
defined has_parameters (name ∷ text) = if has_parameters then None else option_map (λ word. Set word (Some text)) (free_word name.shape)

abbrev pub undefined : List Token → Option Act
undefined (name ∷ []) = option_map (λ word. Set word None) (free_word name.shape)
undefined other = None

-- `#ifdef` and `#ifndef`: any word, and whatever after it
abbrev pub tested : Live → Bool → List Token → Option Act
tested live wanted [] = None
tested live wanted (name ∷ rest) = option_map (λ word. Begin (part_where (if wanted then is_known live word.bytes else not (is_known live word.bytes)))) (word_in name.shape)

abbrev pub simple : Live → List ℕ → Directive → List Token → Option Act
simple live text directives.Include tokens = included tokens
simple live text directives.Define tokens = defined (has_parameters text) tokens
simple live text directives.Undefine tokens = undefined tokens
simple live text directives.Ifdef tokens = tested live true tokens
simple live text directives.Ifndef tokens = tested live false tokens
simple live text directive tokens = None

-- What a line does.

-- a line that is no directive puts its tokens out, with their macros replaced
abbrev pub PutsOut : Live → Mark → List ℕ → Result Act Fault → Type 0
PutsOut live mark bytes = Then (IsCut mark bytes) (λ tokens. Then (IsReplaced live tokens) (λ out answer. answer ≡ Ok (Put out)))

-- a directive whose tokens say it all
abbrev pub Says : Live → Mark → List ℕ → Directive → Result Act Fault → Type 0
Says live mark text directive = Then (IsCut mark text) (λ tokens answer. answer ≡ or_bad mark tokens (simple live text directive (behind_first tokens)))

-- the value of the condition of a directive
abbrev pub HasCondition : Live → Tool → Mark → List ℕ → Result ℤ Fault → Type 0
HasCondition live tool mark text = Then (IsCut mark text) (λ tokens. IsComputed live tool mark (behind_first tokens))

-- a directive with a condition, of whose value this is made
abbrev pub Asks : Live → Tool → Mark → List ℕ → (ℤ → Act) → Result Act Fault → Type 0
Asks live tool mark text act = Then (HasCondition live tool mark text) (λ value answer. answer ≡ Ok (act value))

-- a line that isn't kept does only this
abbrev pub WhereKept : Bool → (Result Act Fault → Type 0) → Act → Result Act Fault → Type 0
WhereKept true answers act answer = answers answer
WhereKept false answers act answer = answer ≡ Ok act

-- 106, without an open conditional, or after its `#else`
abbrev pub stray : Mark → Fault
stray mark = record { number = 106; mark = Some mark; kept = NothingKept }

abbrev pub open_part : Option Open → Option Part
open_part None = None
open_part (Some one) = if one.is_last then None else Some one.part

-- `#elif` asks only where a later part may be chosen, and `#else` is chosen there
abbrev pub Turns : Live → Tool → Mark → List ℕ → Option Part → Result Act Fault → Type 0
Turns live tool mark text None answer = answer ≡ Err (stray mark)
Turns live tool mark text (Some Waiting) answer = Asks live tool mark text (λ value. Turn (part_of value) false) answer
Turns live tool mark text (Some Chosen) answer = answer ≡ Ok (Turn Past false)
Turns live tool mark text (Some Past) answer = answer ≡ Ok (Turn Past false)

abbrev pub last_part : Part → Part
last_part Waiting = Chosen
last_part Chosen = Past
last_part Past = Past

abbrev pub otherwise : Mark → Option Part → Result Act Fault
otherwise mark None = Err (stray mark)
otherwise mark (Some part) = Ok (Turn (last_part part) true)

abbrev pub ended : Mark → Option Open → Result Act Fault
ended mark None = Err (stray mark)
ended mark (Some one) = Ok End

-- a directive that is kept, and one that isn't: of a conditional that begins there no part is chosen
abbrev pub Obeys : Live → Tool → Mark → List ℕ → Directive → Result Act Fault → Type 0
Obeys live tool mark text directives.If = Asks live tool mark text (λ value. Begin (part_of value))
Obeys live tool mark text directive = Says live mark text directive

abbrev pub passed_over : Directive → Act
passed_over directives.If = Begin Past
passed_over directives.Ifdef = Begin Past
passed_over directives.Ifndef = Begin Past
passed_over directive = Nothing

-- what a directive does, where this is the innermost conditional around it
abbrev pub Directs : Live → Tool → Option Open → Mark → List ℕ → Directive → Result Act Fault → Type 0
Directs live tool around mark text directives.Elif = Turns live tool mark text (open_part around)
Directs live tool around mark text directives.Else = λ answer. answer ≡ otherwise mark (open_part around)
Directs live tool around mark text directives.Endif = λ answer. answer ≡ ended mark around
Directs live tool around mark text directives.Empty = λ answer. answer ≡ Ok Nothing
Directs live tool around mark text directive = WhereKept (is_kept around) (Obeys live tool mark text directive) (passed_over directive)

-- what a line does: what stands after its `#`, or its bytes
abbrev pub Acts : Live → Tool → Option Open → Mark → List ℕ → Option (List ℕ) → Result Act Fault → Type 0
Acts live tool around mark bytes None = WhereKept (is_kept around) (PutsOut live mark bytes) Nothing
Acts live tool around mark bytes (Some text) = Directs live tool around mark text (directive_in (unblanked text))

abbrev pub Does : Live → Tool → Option Open → RawLine → Result Act Fault → Type 0
Does live tool around line = Acts live tool around line.mark line.bytes (behind_hash (unblanked line.bytes))
