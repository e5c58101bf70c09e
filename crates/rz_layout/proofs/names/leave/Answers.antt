use Rattle.std.proofs.Common.{◌≡◌, true, List, ◌++◌, ◌||◌, drop, refl, ap, ◌∙◌}
use Rattle.rz_layout.specs.Laid.{has_names, is_in_named, kept_late}
use Rattle.rz_layout.specs.Late.{numbers_in}
use Rattle.rz_types_fields.specs.Field.{plain_body}
use Rattle.rz_types_fields.specs.Known.{which_of}
use Rattle.rz_types_fields.specs.Laid.{LateNumber}
use Rattle.rz_layout.proofs.Fills.{inside_is, numbers_append, numbers_more}
use Rattle.rz_layout.proofs.names.leave.Goals as goal

pub returns-then-not-keeps_names : goal.returns-then-not-keeps_names
returns-then-not-keeps_names c = record {
  piece = refl;
  bits = refl;
  marks = refl;
  notes = c.truncate-then-not-keeps_names.ensures.items;
  late = ap numbers_in c.in_ok-push_lates.ensures
      ∙ numbers_append c.replace-inner.new.dest c.replace-inner.result
      ∙ (λ i. numbers_in (c.replace-inner.ensures.after i) ++ kept_late (c.if-not-keeps_names.ensures i) (drop c.args.around c.args.laid.now.notes.items) (numbers_in (c.replace-inner.ensures.value i)));
}

pub returns : goal.returns
returns c =
    let named : true ≡ (is_in_named (which_of c.args.which) || has_names (plain_body c.args.fields.now)) = c.if-not-keeps_names.ensures in
    record {
      piece = refl;
      bits = refl;
      marks = refl;
      notes = c.in_ok-own.ensures.items;
      late = ap numbers_in c.in_ok-push.ensures.ok
          ∙ numbers_more c.replace-inner.new.dest _
          ∙ ap (λ (inner : List LateNumber). numbers_in c.replace-inner.new.dest ++ inner) (inside_is _ c.in_ok-own.own c.replace-inner.result refl)
          ∙ (λ i. numbers_in (c.replace-inner.ensures.after i) ++ kept_late (named i) (c.in_ok-own.ensures.tail i) (numbers_in (c.replace-inner.ensures.value i)));
    }
