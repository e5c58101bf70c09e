-- Lines that are written by their parts.
use Rattle.std.proofs.Common.{◌≡◌, Bool, true, false, [], ◌∷◌, refl}
use Rattle.std.specs.Prelude.{if◌then◌else◌}
use Rattle.rz_show.specs.Lines.{comma_if}
use Rattle.rz_show_lines.specs.Written.{line_text}
use Rattle.rz_show_lines.proofs.Writes.{writes}

pub comma_text : (behind : Bool) → line_text (comma_if behind) ≡ (if behind then 44 ∷ [] else [])
comma_text true = refl
comma_text false = refl

pub ruleset forms = (writes, comma_text)
