use Rattle.std.proofs.Common.{◌≡◌, drop}
use Rattle.rz_tools_values.specs.Named.{arguments_name, texts_name}
use Rattle.rz_types_fields.specs.Text.{arguments_of, plain_arguments, plain_parts}
use Rattle.rz_tools_values.proofs.named.+named.Given as goal

abbrev pub invariant-names_file-loop-part : goal.invariant-names_file-loop-part
invariant-names_file-loop-part l = texts_name (plain_parts (drop l.part-index l.part-items)) ≡ texts_name (plain_parts l.part-items)

abbrev pub invariant-arguments_name-loop-argument : goal.invariant-arguments_name-loop-argument
invariant-arguments_name-loop-argument l =
    arguments_name (arguments_of (plain_arguments (drop l.argument-index l.argument-items))) ≡ arguments_name (arguments_of (plain_arguments l.argument-items))
