-- The message line of a fault.
use Rattle.std.specs.Prelude.{ℕ, ◌<◌, nat_lt, nat_le, ◌==◌, ◌≡◌, ◌&&◌, ◌||◌, Bool, true, if◌then◌else◌, List, [], ◌++◌, get_or, codes, IfSome, unwrap_or}
use Rattle.std.specs.declared.option.Option.{Option}
use Rattle.std.specs.declared.option.Option.TheVariants.{Some, None}
use Rattle.rz_core.specs.Decimal.{decimal_of, signed_of}
use Rattle.rz_core.specs.Quoted.{quoted, literal_text}
use Rattle.rz_core.specs.declared.fault.Fault.{Fault}
use Rattle.rz_core.specs.declared.fault.Mark.{Mark}
use Rattle.rz_core.specs.declared.fault.Kept.{Kept}
use Rattle.rz_core.specs.declared.fault.Kept.TheVariants as kept

-- The table of faults: each number and its name.

-- faults of sources, 101 to 115
abbrev pub source_fault : ℕ → Option (List ℕ)
source_fault number =
    if number == 101 then Some (codes "MissingFile")
    else if number == 102 then Some (codes "BadText")
    else if number == 103 then Some (codes "IncludeDepth")
    else if number == 104 then Some (codes "BadDirective")
    else if number == 105 then Some (codes "OpenIf")
    else if number == 106 then Some (codes "StrayElse")
    else if number == 107 then Some (codes "OpenComment")
    else if number == 108 then Some (codes "OpenString")
    else if number == 109 then Some (codes "BadEscape")
    else if number == 110 then Some (codes "BadNumber")
    else if number == 111 then Some (codes "BadCharacter")
    else if number == 112 then Some (codes "ExpansionTooLong")
    else if number == 113 then Some (codes "BadHex")
    else if number == 114 then Some (codes "BadCondition")
    else if number == 115 then Some (codes "WordTooLong")
    else None

-- faults of statements, 201 to 223
abbrev pub statement_fault : ℕ → Option (List ℕ)
statement_fault number =
    if number == 201 then Some (codes "Syntax")
    else if number == 202 then Some (codes "NoType")
    else if number == 203 then Some (codes "UnknownName")
    else if number == 204 then Some (codes "BadId")
    else if number == 205 then Some (codes "NeedsAppend")
    else if number == 206 then Some (codes "WrongKind")
    else if number == 207 then Some (codes "OutOfRange")
    else if number == 208 then Some (codes "TooFew")
    else if number == 209 then Some (codes "TooMany")
    else if number == 210 then Some (codes "NoCase")
    else if number == 211 then Some (codes "ZeroDivisor")
    else if number == 212 then Some (codes "UnknownLabel")
    else if number == 213 then Some (codes "LaterData")
    else if number == 214 then Some (codes "SizeLater")
    else if number == 215 then Some (codes "BadShift")
    else if number == 216 then Some (codes "TextTooLong")
    else if number == 217 then Some (codes "ArrayCount")
    else if number == 218 then Some (codes "NoSuchResource")
    else if number == 219 then Some (codes "Protected")
    else if number == 220 then Some (codes "ReadOnlyMap")
    else if number == 221 then Some (codes "TooDeep")
    else if number == 222 then Some (codes "BadFormat")
    else if number == 223 then Some (codes "BadIndex")
    else None

-- faults of type declarations, 230 to 239, and the warning 240
abbrev pub declaration_fault : ℕ → Option (List ℕ)
declaration_fault number =
    if number == 230 then Some (codes "LabelTwice")
    else if number == 231 then Some (codes "ArrayTwice")
    else if number == 232 then Some (codes "CaseTwice")
    else if number == 233 then Some (codes "KeyMissing")
    else if number == 234 then Some (codes "KeyWidth")
    else if number == 235 then Some (codes "KeyDistance")
    else if number == 236 then Some (codes "KeyTwice")
    else if number == 237 then Some (codes "ElementWithoutValues")
    else if number == 238 then Some (codes "BadWidth")
    else if number == 239 then Some (codes "NoSuchType")
    else if number == 240 then Some (codes "Redeclared")
    else None

-- limits of forks, 301 to 304, and the rules of admission, 401 to 410
abbrev pub fork_fault : ℕ → Option (List ℕ)
fork_fault number =
    if number == 301 then Some (codes "ResourceTooLong")
    else if number == 302 then Some (codes "DataFull")
    else if number == 303 then Some (codes "MapFull")
    else if number == 304 then Some (codes "NamesFull")
    else if number == 401 then Some (codes "ShortHeader")
    else if number == 402 then Some (codes "DataAreaOutside")
    else if number == 403 then Some (codes "MapOutside")
    else if number == 404 then Some (codes "ShortMap")
    else if number == 405 then Some (codes "TypeListOutside")
    else if number == 406 then Some (codes "TypesOutside")
    else if number == 407 then Some (codes "ReferencesOutside")
    else if number == 408 then Some (codes "DataOutside")
    else if number == 409 then Some (codes "NameOutside")
    else if number == 410 then Some (codes "Repeated")
    else None

-- faults of AppleDouble, AppleSingle and MacBinary, 421 to 428, and of BinHex, 441 to 447
abbrev pub bridge_fault : ℕ → Option (List ℕ)
bridge_fault number =
    if number == 421 then Some (codes "ShortHeader")
    else if number == 422 then Some (codes "BadMagic")
    else if number == 423 then Some (codes "EntryOutside")
    else if number == 424 then Some (codes "BadCrc")
    else if number == 425 then Some (codes "BadName")
    else if number == 426 then Some (codes "Truncated")
    else if number == 427 then Some (codes "NewerVersion")
    else if number == 428 then Some (codes "ForkTooLong")
    else if number == 441 then Some (codes "NoStart")
    else if number == 442 then Some (codes "BadLetter")
    else if number == 443 then Some (codes "NoEnd")
    else if number == 444 then Some (codes "BadCrc")
    else if number == 445 then Some (codes "Truncated")
    else if number == 446 then Some (codes "RunAtStart")
    else if number == 447 then Some (codes "BadName")
    else None

-- faults of 'TMPL' resources, 451 to 456, and of catalogues of texts, 461 to 464
abbrev pub entry_fault : ℕ → Option (List ℕ)
entry_fault number =
    if number == 451 then Some (codes "TornEntry")
    else if number == 452 then Some (codes "UnknownCode")
    else if number == 453 then Some (codes "ListUnbalanced")
    else if number == 454 then Some (codes "CountUnpaired")
    else if number == 455 then Some (codes "EmptyElement")
    else if number == 456 then Some (codes "ListTooDeep")
    else if number == 461 then Some (codes "BadEntry")
    else if number == 462 then Some (codes "NoLeaf")
    else if number == 463 then Some (codes "EntryTwice")
    else if number == 464 then Some (codes "TextRefused")
    else None

-- each number's name
abbrev pub fault_name : ℕ → Option (List ℕ)
fault_name number =
    if nat_lt number 200 then source_fault number
    else if nat_lt number 230 then statement_fault number
    else if nat_lt number 300 then declaration_fault number
    else if nat_lt number 420 then fork_fault number
    else if nat_lt number 450 then bridge_fault number
    else entry_fault number

-- the numbers of the faults that refuse
abbrev pub is_between : ℕ → ℕ → ℕ → Bool
is_between first last number = nat_le first number && nat_le number last

abbrev pub is_fault : ℕ → Bool
is_fault number =
    is_between 101 115 number || is_between 201 223 number || is_between 230 239 number || is_between 301 304 number
    || is_between 401 410 number || is_between 421 428 number || is_between 441 447 number
    || is_between 451 456 number || is_between 461 464 number

-- the numbers that have a name: those of faults that refuse, and that of the one warning
abbrev pub is_named : ℕ → Bool
is_named number = is_fault number || number == 240

-- 240 is a warning, and every other fault an error
abbrev pub severity : ℕ → List ℕ
severity number = if number == 240 then codes "warning " else codes "error "

-- the mark's file is one of so many files
abbrev pub IsMarked : ℕ → Option Mark → Type 0
IsMarked files mark = IfSome mark (λ mark. mark.file < files)

-- a message can name the fault of a refusal: it is no warning, the table has its number, and its mark is of one of so
-- many files
pub record IsNameable (files : ℕ) (fault : Fault) : Type 0 where
  pub number : is_fault fault.number ≡ true
  pub place : IsMarked files fault.mark

-- there is a line for the fault, whether it refuses or warns
pub record HasLine (files : ℕ) (fault : Fault) : Type 0 where
  pub number : is_named fault.number ≡ true
  pub place : IsMarked files fault.mark

-- the file and the line, where there is a mark
abbrev pub place_text : List (List ℕ) → Option Mark → List ℕ
place_text files None = []
place_text files (Some mark) = get_or files mark.file [] ++ codes ":" ++ decimal_of mark.line ++ codes ": "

-- what a fault keeps, after a colon
abbrev pub kept_text : Kept → List ℕ
kept_text kept.Nothing = []
kept_text (kept.Number number) = codes ": " ++ signed_of number
kept_text (kept.Pair first second) = codes ": " ++ signed_of first ++ codes " " ++ signed_of second
kept_text (kept.Check check stored computed) =
    codes ": " ++ decimal_of check ++ codes " " ++ decimal_of stored ++ codes " " ++ decimal_of computed
kept_text (kept.Name name) = codes ": " ++ quoted 34 name
kept_text (kept.Key kind id) = codes ": " ++ literal_text kind.code ++ codes " " ++ signed_of id

-- the severity, the number and the name
unfoldable pub rule_text : ℕ → List ℕ
rule_text number = severity number ++ decimal_of number ++ codes " " ++ unwrap_or (fault_name number) []

-- the whole line
unfoldable pub fault_line : List (List ℕ) → Fault → List ℕ
fault_line files fault =
    codes "rezkit: " ++ place_text files fault.mark ++ rule_text fault.number ++ kept_text fault.kept ++ codes "\n"
