-- The words that set or clear an attribute. Case doesn't matter. (MPW Rez.)
use Rattle.std.specs.Prelude.{◌≡◌, ℕ, Bool, true, false, if◌then◌else◌, List, [], ◌∷◌, Option, Some, None, codes}
use Rattle.std.specs.Str.{str_eq_ignore_ascii_case}
use Rattle.rz_words.specs.declared.attribute.Attribute.{Attribute}
use Rattle.rz_words.specs.declared.attribute.Attribute.TheVariants.{SystemHeap, Purgeable, Locked, Protected, Preload, Changed}
use Rattle.rz_words.specs.declared.attribute.AttributeWord.{AttributeWord}

-- the bit of each
abbrev pub bit_of : Attribute → ℕ
bit_of SystemHeap = 64
bit_of Purgeable = 32
bit_of Locked = 16
bit_of Protected = 8
bit_of Preload = 4
bit_of Changed = 2

-- the word that sets it
abbrev pub setting_word : Attribute → List ℕ
setting_word SystemHeap = codes "sysheap"
setting_word Purgeable = codes "purgeable"
setting_word Locked = codes "locked"
setting_word Protected = codes "protected"
setting_word Preload = codes "preload"
setting_word Changed = codes "changed"

-- the word that clears it
abbrev pub clearing_word : Attribute → List ℕ
clearing_word SystemHeap = codes "appheap"
clearing_word Purgeable = codes "nonpurgeable"
clearing_word Locked = codes "unlocked"
clearing_word Protected = codes "unprotected"
clearing_word Preload = codes "nonpreload"
clearing_word Changed = codes "unchanged"

-- all of them, from the highest bit to the lowest
abbrev pub every_attribute : List Attribute
every_attribute = SystemHeap ∷ Purgeable ∷ Locked ∷ Protected ∷ Preload ∷ Changed ∷ []

-- what a name says by the words of these
abbrev pub attribute_among : List Attribute → List ℕ → Option AttributeWord
attribute_among [] name = None
attribute_among (attribute ∷ others) name =
    if str_eq_ignore_ascii_case name (setting_word attribute) then Some (record { bit = bit_of attribute; sets = true })
    else if str_eq_ignore_ascii_case name (clearing_word attribute) then Some (record { bit = bit_of attribute; sets = false })
    else attribute_among others name

-- what a name says as an attribute word
unfoldable pub attribute_word : List ℕ → Option AttributeWord
attribute_word name = attribute_among every_attribute name

-- the word that sets it, or else the one that clears it
abbrev pub said_by : Attribute → Bool → List ℕ
said_by attribute true = setting_word attribute
said_by attribute false = clearing_word attribute

-- a name that is such a word, in whatever case
abbrev pub IsSaid : List ℕ → AttributeWord → Type 0
IsSaid name word =
    (attribute : Attribute) × (sets : Bool) × (str_eq_ignore_ascii_case name (said_by attribute sets) ≡ true)
    × (word ≡ record { bit = bit_of attribute; sets = sets })
