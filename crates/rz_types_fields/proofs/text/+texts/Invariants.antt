use Rattle.std.proofs.Common.{◌≡◌, ◌++◌, drop, Ok}
use Rattle.rz_core.specs.Stop.{◌>>=◌}
use Rattle.rz_types_fields.specs.Text.{argument_values, arguments_of, bytes_seen, plain_arguments, plain_parts}
use Rattle.rz_types_fields.proofs.text.+texts.Given as goal

abbrev pub invariant-text_seen-loop-part : goal.invariant-text_seen-loop-part
invariant-text_seen-loop-part g l =
    (bytes_seen l.place l.facts (g.E.Env.view l.env) (plain_parts (drop l.part-index l.part-items)) >>= λ more. Ok (l.bytes ++ more))
    ≡ bytes_seen l.place l.facts (g.E.Env.view l.env) (plain_parts l.part-items)

abbrev pub invariant-values_of-loop-argument : goal.invariant-values_of-loop-argument
invariant-values_of-loop-argument g l =
    (argument_values l.place l.facts (g.E.Env.view l.env) (arguments_of (plain_arguments (drop l.argument-index l.argument-items))) >>= λ more. Ok (l.values ++ more))
    ≡ argument_values l.place l.facts (g.E.Env.view l.env) (arguments_of (plain_arguments l.argument-items))
