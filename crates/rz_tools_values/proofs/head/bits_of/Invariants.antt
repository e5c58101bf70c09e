use Rattle.std.proofs.Common.{◌≡◌, drop, map}
use Rattle.rz_stmt_data.specs.Head.{attribute_of}
use Rattle.rz_tools_values.specs.Head.{bits_behind_all}
use Rattle.rz_tools_values.proofs.head.bits_of.Given as goal

abbrev pub invariant-loop-attribute : goal.invariant-loop-attribute
invariant-loop-attribute l =
    bits_behind_all l.mark l.facts 0 (map attribute_of l.attribute-items) ≡ bits_behind_all l.mark l.facts l.attr (map attribute_of (drop l.attribute-index l.attribute-items))
