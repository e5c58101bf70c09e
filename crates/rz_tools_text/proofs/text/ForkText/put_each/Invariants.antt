use Rattle.std.proofs.Common.{◌≡◌, ℕ, List, length}
use Rattle.rz_tools_text.specs.Chosen.{chosen}
use Rattle.rz_tools_text.specs.Held.{known_of}
use Rattle.rz_tools_text.specs.Text.{ShowsEach}
use Rattle.rz_tools_text.proofs.Lists.{HasPut}
use Rattle.rz_tools_text.proofs.text.ForkText.put_each.Given as goal

abbrev pub invariant-loop-one : goal.invariant-loop-one
invariant-loop-one g l = record {
  told : (text : List ℕ) → ShowsEach (known_of l.self.known) (chosen l.self.only l.self.skip l.fork.list) text
      → HasPut (known_of l.self.known) l.self.only l.self.skip text l.walk (g.O.Sink.stream l.fn.out) (g.O.Sink.stream l.out);
  quiet : g.O.Sink.faults l.out ≡ g.O.Sink.faults l.fn.out;
}

abbrev pub decreases-loop-one : goal.decreases-loop-one
decreases-loop-one g l = length l.walk
