-- What an expression sees where a field is read, as the code has it.
use Rattle.std.specs.Prelude.{ℕ, ◌+◌, ℤ, pos, Bool, false, ◌&&◌, ◌||◌, if◌then◌else◌, List, length, Option, Some, None, option_map}
use Rattle.rz_expr.specs.Environment.{Environment, Key, Sight}
use Rattle.rz_bits.specs.BitBuf.{missing}
use Rattle.rz_bits.specs.View.{seen}
use Rattle.rz_types_fields.specs.Field.{plain_body, Align, PlainBody, PlainField}
use Rattle.rz_types_fields.specs.Known.{known, met}
use Rattle.rz_types_fields.specs.Passed.{gives_count, gives_rows, stands_at, Names}
use Rattle.rz_types_fields.specs.Sees.{hit}
use Rattle.rz_types_fields.specs.Width.{capped, fixed_width}
use Rattle.rz_core.specs.declared.resource.Word.{Word}
use Rattle.rz_unlay_pieces.specs.Ahead.{in_resource, near_place, Told}
use Rattle.rz_unlay_pieces.specs.Came.{here_of}
use Rattle.rz_unlay_pieces.specs.Pieces.{seen_at, with_near}
use Rattle.rz_unlay_pieces.specs.declared.ahead.LabelAhead.{LabelAhead}
use Rattle.rz_unlay_pieces.specs.declared.learnt.Learnt.{Learnt}
use Rattle.rz_unlay_pieces.specs.declared.seen.SpotEnv.{SpotEnv}
use Rattle.rz_unlay_pieces.specs.declared.spot.Spot.{Spot}

-- what is known of names at a field, with the labels that are near
abbrev pub near_names : Spot → Environment → Environment
near_names spot names = with_near (here_of spot (λ key. false)) names

-- the place of the label that a key names, where that label is near
abbrev pub near_value : Spot → Key → Option ℤ
near_value spot key = in_resource (length (seen spot.view.now)) (option_map (λ place. pos place) (near_place (plain_body spot.fields.now) spot.first key))

-- what an expression sees at a place of a field, where so much is learnt
abbrev pub sight_at : Spot → Learnt → ℕ → Sight
sight_at spot learnt at = seen_at (here_of spot (met learnt.notes.items)) (known learnt.notes.items) at

-- the same without the late bits, where they are hidden
abbrev pub hidden_by : Bool → List Bool → Sight → Sight
hidden_by hides marks sight = record {
  names = sight.names;
  bits = λ first width. if hides && hit marks first width then None else sight.bits first width;
  fact = sight.fact;
}

abbrev pub env_sight : SpotEnv → Sight
env_sight env = hidden_by env.hides env.learnt.now.marks (sight_at env.spot.now env.learnt.now env.at)

-- Labels that are met.

-- after a label it is met
abbrev pub met_placed : Word → Names → Names
met_placed name met key = stands_at name.bytes key || met key

-- after the rows of an array its name is met
abbrev pub met_counted : Option Word → Names → Names
met_counted name met key = gives_count name key || met key

-- after the rows of an array the labels in them are met
abbrev pub met_in_rows : PlainBody → Names → Names
met_in_rows row met key = gives_rows row key || met key

-- Labels ahead.

-- a place after a field, where widths of more bits than a resource has are as good as one more than it can have
abbrev pub behind_capped : PlainField → ℕ → Option ℕ
behind_capped (Align unit) at = Some (at + missing unit at)
behind_capped field at = option_map (λ width. at + capped width) (fixed_width field)

abbrev pub told_of : LabelAhead → Told
told_of label = record { place = label.place; width = label.width }

abbrev pub told_capped : Told → Told
told_capped told = record { place = told.place; width = capped told.width }
