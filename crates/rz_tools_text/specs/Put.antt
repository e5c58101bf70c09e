-- The text of a fork that is held.
use Rattle.std.specs.Prelude.{◌≡◌, ℕ, List, Ok}
use Rattle.rz_fork.specs.Admit.{admitted}
use Rattle.rz_fork.specs.Contents.{Fork}
use Rattle.rz_tools_text.specs.Chosen.{chosen}
use Rattle.rz_tools_text.specs.Held.{known_of}
use Rattle.rz_tools_text.specs.Text.{ShowsEach}
use Rattle.rz_tools_text.specs.declared.text.ForkText.{ForkText}

-- the text shows the resources of the fork whose types are chosen
abbrev pub IsTextOf : ForkText → List ℕ → Type 0
IsTextOf t text = (fork : Fork) × (admitted t.fork ≡ Ok fork) × ShowsEach (known_of t.known) (chosen t.only t.skip fork.list) text
