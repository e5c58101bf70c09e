-- What expressions see of what is laid.
use Rattle.rz_expr.specs.Environment.{Sight}
use Rattle.rz_layout.specs.declared.seen.DraftEnv.{DraftEnv}
use Rattle.rz_types_fields.specs.Known.{known}
use Rattle.rz_types_fields.specs.Sees.{beside, sees}

abbrev pub env_sight : DraftEnv → Sight
env_sight env = beside env.marks.now (sees env.names.facts.now env.bits.now (known env.names.notes.now.items) env.at)
