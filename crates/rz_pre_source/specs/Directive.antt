-- Which directive a logical line is. (MPW Rez.)
use Rattle.std.specs.Prelude.{ℕ, Bool, false, ◌==◌, if◌then◌else◌, List, [], ◌∷◌, codes, Option, Some, None}
use Rattle.std.specs.List.{take_while}
use Rattle.std.specs.Str.{str_eq_ignore_ascii_case}
use Rattle.rz_lex.specs.Classes.{is_blank, is_word_byte}
use Rattle.rz_pre_source.specs.declared.directive.Directive.{Directive}
use Rattle.rz_pre_source.specs.declared.directive.Directive.TheVariants.{Define, Elif, Else, Empty, Endif, If, Ifdef, Ifndef, Include, Other, Undefine}

-- a line without the blanks at its front
abbrev pub unblanked : List ℕ → List ℕ
unblanked [] = []
unblanked (byte ∷ rest) = if is_blank byte then unblanked rest else byte ∷ rest

-- what stands after the `#` at the front
abbrev pub behind_hash : List ℕ → Option (List ℕ)
behind_hash [] = None
behind_hash (byte ∷ rest) = if byte == 35 then Some rest else None

-- the letters, digits and `_` at the front
abbrev pub front_word : List ℕ → List ℕ
front_word bytes = take_while is_word_byte bytes

-- the directive of a word, in whatever case
abbrev pub named : List ℕ → Directive
named name =
    if str_eq_ignore_ascii_case name (codes "include") then Include
    else if str_eq_ignore_ascii_case name (codes "define") then Define
    else if str_eq_ignore_ascii_case name (codes "undef") then Undefine
    else if str_eq_ignore_ascii_case name (codes "if") then If
    else if str_eq_ignore_ascii_case name (codes "elif") then Elif
    else if str_eq_ignore_ascii_case name (codes "ifdef") then Ifdef
    else if str_eq_ignore_ascii_case name (codes "ifndef") then Ifndef
    else if str_eq_ignore_ascii_case name (codes "else") then Else
    else if str_eq_ignore_ascii_case name (codes "endif") then Endif
    else Other

-- the directive of what stands after the `#`
abbrev pub directive_in : List ℕ → Directive
directive_in [] = Empty
directive_in (byte ∷ rest) = named (front_word (byte ∷ rest))

abbrev pub of_hash : Option (List ℕ) → Option Directive
of_hash None = None
of_hash (Some rest) = Some (directive_in (unblanked rest))

-- the directive of a line whose first byte other than a blank is `#`
abbrev pub directive_of : List ℕ → Option Directive
directive_of line = of_hash (behind_hash (unblanked line))

-- what follows the letters, digits and `_` at the front
abbrev pub behind_word : List ℕ → List ℕ
behind_word [] = []
behind_word (byte ∷ rest) = if is_word_byte byte then behind_word rest else byte ∷ rest

abbrev pub starts_with : ℕ → List ℕ → Bool
starts_with byte [] = false
starts_with byte (first ∷ rest) = first == byte

-- a bracket stands directly after the name, which stands after the directive's word
abbrev pub has_parameters : List ℕ → Bool
has_parameters text = starts_with 40 (behind_word (unblanked (behind_word (unblanked text))))
