-- What a word of the language may be. Case doesn't matter. (MPW Rez.)
use Rattle.std.specs.Prelude.{ℕ, Bool, true, false, ◌||◌, ◌==◌, if◌then◌else◌, List, [], ◌∷◌, Option, Some, None, codes}
use Rattle.std.specs.Option.{is_some}
use Rattle.std.specs.Str.{str_eq_ignore_ascii_case}
use Rattle.rz_words.specs.Attribute.{attribute_word}
use Rattle.rz_words.specs.Keyword.{keyword_of}
use Rattle.rz_words.specs.declared.keyword.Keyword.{Keyword}
use Rattle.rz_words.specs.declared.words.FactWord.TheVariants as facts
use Rattle.rz_words.specs.declared.words.Function.TheVariants.{CountOf, ArrayIndex, BitField, Data}
use Rattle.rz_words.specs.declared.words.Role.{Role}
use Rattle.rz_words.specs.declared.words.Role.TheVariants.{Label, OtherName, Fact, Call, Text, Reserved, OtherFunction}
use Rattle.rz_words.specs.declared.words.TextWord.TheVariants as texts

-- the same name, in whatever case
abbrev pub is : List ℕ → List ℕ → Bool
is word name = str_eq_ignore_ascii_case name word

-- reserved words that may still name what is no label
abbrev pub is_other_name : List ℕ → Bool
is_other_name name = is_some (attribute_word name) || is (codes "true") name || is (codes "false") name

-- a text whose name stands after `$$`
abbrev pub text_role : List ℕ → Role
text_role name =
    if is (codes "Name") name then Text texts.Name
    else if is (codes "Date") name then Text texts.Date
    else if is (codes "Time") name then Text texts.Time
    else if is (codes "Version") name then Text texts.Version
    else if is (codes "Read") name then Text texts.Read
    else if is (codes "Resource") name then Text texts.Resource
    else if is (codes "Format") name then Text texts.Format
    else OtherFunction

-- a fact whose name stands after `$$`
abbrev pub fact_role : List ℕ → Role
fact_role name =
    if is (codes "ID") name then Fact facts.Id
    else if is (codes "Type") name then Fact facts.Kind
    else if is (codes "Attributes") name then Fact facts.Attributes
    else if is (codes "Year") name then Fact facts.Year
    else if is (codes "Month") name then Fact facts.Month
    else if is (codes "Day") name then Fact facts.Day
    else if is (codes "Hour") name then Fact facts.Hour
    else if is (codes "Minute") name then Fact facts.Minute
    else if is (codes "Second") name then Fact facts.Second
    else if is (codes "Weekday") name then Fact facts.Weekday
    else text_role name

-- the function whose name stands after `$$`
abbrev pub function_role : List ℕ → Role
function_role name =
    if is (codes "CountOf") name then Call CountOf
    else if is (codes "ArrayIndex") name then Call ArrayIndex
    else if is (codes "BitField") name then Call BitField
    else if is (codes "Byte") name then Call (Data 8)
    else if is (codes "Word") name then Call (Data 16)
    else if is (codes "Long") name then Call (Data 32)
    else fact_role name

-- a word that is this keyword, or none
abbrev pub keyword_role : Option Keyword → Role
keyword_role (Some keyword) = Reserved keyword
keyword_role None = Label

-- a word that doesn't begin with `$$`
abbrev pub plain_role : List ℕ → Role
plain_role name = if is_other_name name then OtherName else keyword_role (keyword_of name)

-- what stands after a first `$`
abbrev pub dollar_role : List ℕ → List ℕ → Role
dollar_role name [] = plain_role name
dollar_role name (b ∷ bs) = if b == 36 then function_role bs else plain_role name

abbrev pub role_of : List ℕ → Role
role_of [] = Label
role_of (b ∷ bs) = if b == 36 then dollar_role (b ∷ bs) bs else plain_role (b ∷ bs)

-- it names a label
abbrev pub is_label : Role → Bool
is_label Label = true
is_label other = false

-- it names what isn't necessarily a label
abbrev pub is_name : Role → Bool
is_name Label = true
is_name OtherName = true
is_name other = false
