use Rattle.std.proofs.Common.{◌≡◌, drop}
use Rattle.rz_words.specs.Attribute.{attribute_among}
use Rattle.rz_words.proofs.attribute.attribute_among.Given as goal

abbrev pub invariant-loop-attribute : goal.invariant-loop-attribute
invariant-loop-attribute l = attribute_among (drop l.attribute-index l.attributes) l.name ≡ attribute_among l.attributes l.name
