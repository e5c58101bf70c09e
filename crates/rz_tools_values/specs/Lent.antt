-- What a fork lends.
use Rattle.std.specs.Prelude.{Option, option_map}
use Rattle.rz_core.specs.declared.resource.Resource.{Resource}
use Rattle.rz_fork.specs.View.{lent}
use Rattle.rz_fork.specs.declared.view.ResView.{ResView}

-- the resource that is lent, if one is
abbrev pub lent_one : Option ResView → Option Resource
lent_one one = option_map lent one
