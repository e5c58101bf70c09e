use Rattle.std.proofs.Common.{◌≡◌, length, map}
use Rattle.std.specs.String.{string_bytes}
use Rattle.rz_tools_args.specs.Command.{places_of}
use Rattle.rz_tools_args.specs.Held.{item, MayBegin}
use Rattle.rz_tools_args.specs.Syntax.{syntax_of}
use Rattle.rz_tools_args.proofs.Positions.{Reading}
use Rattle.rz_tools_args.proofs.read.read_items.Given as goal

abbrev pub invariant-loop-first : goal.invariant-loop-first
invariant-loop-first l = record {
  reading : Reading (syntax_of l.fn.name) (map string_bytes l.words) (map string_bytes l.rest) (map item l.items);
  may : MayBegin (syntax_of l.fn.name).places (places_of (map item l.items));
  count : l.places ≡ length (places_of (map item l.items));
}

abbrev pub decreases-loop-first : goal.decreases-loop-first
decreases-loop-first l = length l.rest
