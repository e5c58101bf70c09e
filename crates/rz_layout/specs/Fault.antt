-- Why a row has no bytes, as the definitions say it.
use Rattle.rz_layout.specs.declared.fault.LayFault.{LayFault}
use Rattle.rz_types_fields.specs.Laid.{Refusal}

abbrev pub refusal_of : LayFault → Refusal
refusal_of fault = record { number = fault.number; piece = fault.piece; value = fault.value }
