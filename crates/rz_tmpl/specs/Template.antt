-- The template that bytes are.
use Rattle.std.specs.Prelude.{◌≡◌, ℕ, List, Ok, Err}
use Rattle.std.specs.declared.result.Result.{Result}
use Rattle.rz_tmpl.specs.Cut.{IsCut}
use Rattle.rz_tmpl.specs.Items.{Items}
use Rattle.rz_tmpl.specs.declared.fault.TmplFault.{TmplFault}
use Rattle.rz_tmpl.specs.Body.{tmpl_body}
use Rattle.rz_types_fields.specs.Field.{PlainBody}

-- the fields of items, or the fault
abbrev pub body_in : Result Items TmplFault → Result PlainBody TmplFault
body_in (Ok items) = Ok (tmpl_body items)
body_in (Err fault) = Err fault

-- the bytes are cut into the entries of this body, or have this fault
abbrev pub HasBody : List ℕ → Result PlainBody TmplFault → Type 0
HasBody bytes answer = (cut : Result Items TmplFault) × IsCut bytes cut × (body_in cut ≡ answer)
