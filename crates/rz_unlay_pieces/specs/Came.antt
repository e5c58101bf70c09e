-- What the calls of the reader give at one piece or field, as the definitions see it.
use Rattle.rz_expr.specs.Environment.{Environment}
use Rattle.rz_bits.specs.View.{seen}
use Rattle.rz_types_fields.specs.Field.{plain_body}
use Rattle.rz_types_fields.specs.Passed.{Names}
use Rattle.rz_unlay_pieces.specs.declared.spot.Spot.{Spot}
use Rattle.rz_unlay_pieces.specs.Pieces.{Here, Step}
use Rattle.rz_types_fields.specs.Known.{known}
use Rattle.rz_unlay_pieces.specs.declared.came.Came.{Came}
use Rattle.rz_unlay_pieces.specs.declared.came.Met.{Met}
use Rattle.rz_types_fields.specs.Sees.{marked, Late}
use Rattle.rz_unlay_pieces.specs.declared.learnt.Learnt.{Learnt}

-- a value or none that stands at a piece or at a field, where so much is known after it
abbrev pub step_in : Environment → Late → Came → Step
step_in names late came = record { value = came.value; after = came.after; names = names; late = late }

abbrev pub step_of : Learnt → Came → Step
step_of learnt came = step_in (known learnt.notes.items) (marked came.after learnt.marks) came

abbrev pub met_in : Environment → Late → Met → Step
met_in names late met = record { value = met.value; after = met.after; names = names; late = late }

abbrev pub met_of : Learnt → Met → Step
met_of learnt met = met_in (known learnt.notes.items) (marked met.after learnt.marks) met

-- where a field is read, as the code has it, with the labels that stand before it
abbrev pub here_of : Spot → Names → Here
here_of spot met = record {
  known = spot.facts.now;
  all = seen spot.view.now;
  fields = plain_body spot.fields.now;
  rest = plain_body spot.rest.now;
  first = spot.first;
  met = met;
}
