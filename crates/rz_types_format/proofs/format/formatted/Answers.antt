use Rattle.std.proofs.Common.{◌≡◌, ℕ, List, [], Option, Some, None, refl}
use Rattle.std.specs.Fmt.{◌++?◌}
use Rattle.rz_types_format.specs.Format.{formatted}
use Rattle.rz_types_format.proofs.format.formatted.Goals as goal

from_start : (bytes : List ℕ) (text : Option (List ℕ)) → bytes ≡ [] → Some bytes ++? text ≡ text
from_start bytes None none = refl
from_start bytes (Some text) none = rw none refl

pub loop-byte-init : goal.loop-byte-init
loop-byte-init c = from_start c.new.result (formatted c.args.text.now c.args.arguments.now) c.new.ensures
