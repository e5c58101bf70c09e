-- What begins with two zero bytes is raw, as a fork does.
use Rattle.std.proofs.Common.{◌≡◌, ℕ, ◌&&◌, if◌then◌else◌, Bool, true, false, List, ◌∷◌, length, drop, refl, ap, ◌∙◌, arith}
use Rattle.std.proofs.lemmas.Bool.{ne_eqb}
use Rattle.std.specs.Prelude.{nat_le}
use Rattle.rz_core.specs.Numbers.{be, number}
use Rattle.rz_core.specs.declared.resource.Resource.{Resource}
use Rattle.rz_bridge_files.specs.Forms.{form_of}
use Rattle.rz_bridge_files.specs.declared.form.Form.{Form}
use Rattle.rz_bridge_files.specs.declared.form.Form.TheVariants.{MacBinary, Raw}
use Rattle.rz_fork.specs.Image.{header, image}

-- no name has no bytes, so there is no header of MacBinary, however many bytes there are
no_header : (enough : Bool) → ◌≡◌ {A = Form} (if enough && false then MacBinary else Raw) Raw
no_header true = refl
no_header false = refl

pub zeros_found : (bytes : List ℕ) → form_of (0 ∷ 0 ∷ bytes) ≡ Raw
unfolding number
zeros_found bytes =
    ap (λ (none : Bool). if none then Raw else if nat_le 128 (length (0 ∷ 0 ∷ bytes)) && false then MacBinary else Raw)
    (ne_eqb (length (0 ∷ 0 ∷ bytes)) 0 (omega arith))
    ∙ no_header (nat_le 128 (length (0 ∷ 0 ∷ bytes)))

pub fork_found : (list : List Resource) (attributes : ℕ) (reserved : List ℕ) → form_of (image list attributes reserved) ≡ Raw
unfolding header be
fork_found list attributes reserved = zeros_found (drop 2 (image list attributes reserved))
