-- The tokens of a line with their macros replaced, from left to right. (MPW Rez.)
use Rattle.std.specs.Prelude.{◌≡◌, ◌⊎◌, ℕ, List, [], ◌∷◌, ◌++◌, Some}
use Rattle.rz_core.specs.declared.fault.Fault.{Fault}
use Rattle.rz_core.specs.declared.fault.Kept.TheVariants.{Name}
use Rattle.rz_lex.specs.declared.token.Shape.{Shape}
use Rattle.rz_lex.specs.declared.token.Shape.TheVariants as shapes
use Rattle.rz_lex.specs.declared.token.Token.{Token}
use Rattle.rz_pre.specs.Expand.{ExpandsTo, IsTooLong}
use Rattle.rz_pre.specs.Live.{Live}

-- the bytes of a word
abbrev pub spelling : Shape → List ℕ
spelling (shapes.Word word) = word.bytes
spelling other = []

-- too many tokens are handled for this word
abbrev pub too_long : Token → Fault
too_long word = record { number = 112; mark = Some word.mark; kept = Name (spelling word.shape) }

-- the tokens are replaced by these, what stands in place of one after what stands in place of the one before
abbrev pub ExpandInto : Live → List Token → List Token → Type 0
ExpandInto live [] out = out ≡ []
ExpandInto live (token ∷ tokens) out =
    (front : List Token) × (back : List Token) × (out ≡ front ++ back) × ExpandsTo live token front × ExpandInto live tokens back

-- the first word for which too many tokens are handled is said by this fault
abbrev pub FirstTooLong : Live → List Token → Fault → Type 0
FirstTooLong live [] fault = ⊥
FirstTooLong live (token ∷ tokens) fault =
    (IsTooLong live token × (fault ≡ too_long token)) ⊎ ((front : List Token) × ExpandsTo live token front × FirstTooLong live tokens fault)

-- what stands in place of a token is put after what was put out before
abbrev pub PutsInPlace : Live → Token → List Token → List Token → Type 0
PutsInPlace live token done after = (front : List Token) × ExpandsTo live token front × (after ≡ done ++ front)
