-- The numbers that the faults of templates have.
use Rattle.std.specs.Prelude.{◌≡◌, true}
use Rattle.rz_core.specs.Message.{is_between}
use Rattle.rz_tmpl.specs.declared.fault.TmplFault.{TmplFault}

-- it is one of the numbers of templates in the table of faults
abbrev pub IsSayable : TmplFault → Type 0
IsSayable fault = is_between 451 456 fault.number ≡ true
