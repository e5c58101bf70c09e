use Rattle.std.proofs.Common.{◌≡◌, true, refl}
use Rattle.rz_core.specs.Message.{is_fault}
use Rattle.rz_core.proofs.Names.{has_name}
use Rattle.rz_told.proofs.breaks.name_of.Goals as goal

pub unwrap-requires : goal.unwrap-requires
unwrap-requires c =
    let named : is_fault c.args.number ≡ true = c.requires in
    has_name c.args.number c.fault_name.result (rw named refl) c.fault_name.ensures
