use Rattle.std.proofs.Common.{rules, ◌≡◌, Bool, [], ◌∷◌, refl, sym, ap}
use Rattle.std.specs.Prelude.{◌||◌, if◌then◌else◌}
use Rattle.std.proofs.lemmas.List.{append-nil}
use Rattle.rz_types_fields.specs.Field.{plain_body}
use Rattle.rz_types_fields.specs.FlatRows.{labels_count}
use Rattle.rz_types_fields.specs.RowLabels.{rows_give}
use Rattle.rz_types_fields.proofs.RowEnds.{noted_rows}
use Rattle.rz_types_fields.proofs.RowKeys.{no_labels}
use Rattle.rz_types_fields.proofs.names.note_rows.Goals as goal

pub returns-else-labels_count-gt0 : goal.returns-else-labels_count-gt0
returns-else-labels_count-gt0 c =
    let row = plain_body c.args.row.now in
    let none : labels_count row ≡ 0 = search rules in
    record {
      more = [];
      grew = sym (append-nil c.args.notes.now.items);
      values = λ ends long are key before. ap (λ (test : Bool). if test then rows_give ends key else before) (sym (no_labels row none key));
      all_met = λ key before. ap (λ (test : Bool). test || before) (sym (no_labels row none key));
    }

pub returns-in_ok-push : goal.returns-in_ok-push
returns-in_ok-push c = record {
  more = _ ∷ [];
  grew = c.in_ok-push.ensures.items;
  values = λ ends long are key before. noted_rows (plain_body c.args.row.now) ends c.args.count c.args.places.items long are key before;
  all_met = λ key before. refl;
}
