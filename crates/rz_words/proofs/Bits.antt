-- An attribute is set where the digit of its bit is 1.
use Rattle.std.proofs.Common.{◌≡◌, ◌/◌, ◌%◌, ℕ}
use Rattle.std.specs.Prelude.{◌==◌, bit_and}
use Rattle.rz_core.proofs.OneBit.{has_one}
use Rattle.rz_words.specs.Attribute.{bit_of}
use Rattle.rz_words.specs.declared.attribute.Attribute.{Attribute}
use Rattle.rz_words.specs.declared.attribute.Attribute.TheVariants.{SystemHeap, Purgeable, Locked, Protected, Preload, Changed}

pub is_set : (attr : ℕ) (attribute : Attribute) → (bit_and attr (bit_of attribute) == bit_of attribute) ≡ (attr / bit_of attribute % 2 == 1)
is_set attr SystemHeap = has_one attr 6
is_set attr Purgeable = has_one attr 5
is_set attr Locked = has_one attr 4
is_set attr Protected = has_one attr 3
is_set attr Preload = has_one attr 2
is_set attr Changed = has_one attr 1
