use Rattle.std.proofs.Common.{List, sym, ap, subst, ◌∙◌}
use Rattle.std.specs.Prelude.{option_map}
use Rattle.rz_types_fields.proofs.Bodies.{case_is}
use Rattle.rz_types_fields.specs.Laid.{line_in}
use Rattle.rz_types_fields.specs.declared.field.Field.{Field}
use Rattle.rz_types.specs.Field.{plain_body, PlainCase}
use Rattle.rz_show.specs.Lines.{IsSound}
use Rattle.rz_show.specs.Shown.{row_prints}
use Rattle.rz_show_lines.specs.Print.{named_block, no_prints}
use Rattle.rz_show.proofs.entry.choice_entry.Goals as goal

pub of_row-row-requires : goal.of_row-row-requires
of_row-row-requires c =
    subst (λ (fields : List Field). IsSound (plain_body fields)) (sym c.as_slice.ensures) (subst (λ (p : PlainCase). IsSound p.row) (case_is c.args.case.now) c.requires)

pub returns-clause-print : goal.returns-clause-print
returns-clause-print c = λ hidden.
    let value = option_map (λ v. v.now) c.args.value in
    (λ i. named_block (c.as_slice-2.ensures i) ((c.of_row-row.ensures.left hidden ∙ (λ j. row_prints hidden (plain_body (c.as_slice.ensures j)) (c.line_in.ensures j) no_prints)) i))
    ∙ ap (λ (p : PlainCase). named_block p.name.bytes (row_prints hidden p.row (line_in value) no_prints)) (sym (case_is c.args.case.now))
