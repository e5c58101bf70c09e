use Rattle.std.proofs.Common.{List, ap, subst, sym, ◌∙◌}
use Rattle.rz_layout.specs.Fault.{refusal_of}
use Rattle.rz_core.specs.Stop.{Gives, fault_seen}
use Rattle.rz_layout.specs.Sound.{AreSound}
use Rattle.rz_types_fields.specs.declared.tree.Tree.{Tree}
use Rattle.rz_types_fields.specs.Laid.{laid}
use Rattle.rz_types.specs.Field.{plain_body, PlainBody}
use Rattle.rz_types.specs.Template.{template_of}
use Rattle.rz_layout.proofs.Answering.{compiled, every_answer, known_number}
use Rattle.rz_layout.proofs.Numbers.{row_known}
use Rattle.rz_layout.proofs.Shapes.{sound_row}
use Rattle.rz_layout.proofs.Small.{small_bytes}
use Rattle.rz_layout.proofs.fields.lay_row.Goals as goal

pub compile_fields-requires : goal.compile_fields-requires
compile_fields-requires c =
    subst (λ (body : PlainBody). AreSound body c.as_slice-2.result.now) (sym (ap plain_body c.as_slice.ensures ∙ c.body.ensures.body))
    (subst (AreSound (template_of c.args.template.now)) (sym c.as_slice-2.ensures)
    (sound_row (template_of c.args.template.now) c.args.row.now c.body.ensures.shaped (c.rules_hold_within.ensures (template_of c.args.template.now) c.body.ensures.kept) c.requires.row))

pub returns-clause-compiled : goal.returns-clause-compiled
returns-clause-compiled c =
    let gives : Gives (laid c.args.facts.now (template_of c.args.template.now) c.args.row.now) (fault_seen refusal_of c.compile_fields.result) =
    subst (λ (body : PlainBody). Gives (laid c.args.facts.now body c.args.row.now) (fault_seen refusal_of c.compile_fields.result)) (ap plain_body c.as_slice.ensures ∙ c.body.ensures.body)
    (subst (λ (row : List Tree). Gives (laid c.args.facts.now (plain_body c.as_slice.result.now) row) (fault_seen refusal_of c.compile_fields.result)) c.as_slice-2.ensures c.compile_fields.ensures) in
    compiled c.bytes_are_read_back.ensures c.bits_are_written_back.ensures c.filled_to_a_multiple.ensures.multiple
    (small_bytes c.numbers_are_read_back.ensures c.numbers_are_written_back.ensures) c.args.facts.now (template_of c.args.template.now) c.args.row.now
    (c.rules_hold_within.ensures (template_of c.args.template.now) c.body.ensures.kept) c.requires.row c.compile_fields.result gives

pub returns-clause-every : goal.returns-clause-every
returns-clause-every c =
    let gives : Gives (laid c.args.facts.now (template_of c.args.template.now) c.args.row.now) (fault_seen refusal_of c.compile_fields.result) =
    subst (λ (body : PlainBody). Gives (laid c.args.facts.now body c.args.row.now) (fault_seen refusal_of c.compile_fields.result)) (ap plain_body c.as_slice.ensures ∙ c.body.ensures.body)
    (subst (λ (row : List Tree). Gives (laid c.args.facts.now (plain_body c.as_slice.result.now) row) (fault_seen refusal_of c.compile_fields.result)) c.as_slice-2.ensures c.compile_fields.ensures) in
    every_answer c.bytes_are_read_back.ensures c.bits_are_written_back.ensures c.filled_to_a_multiple.ensures.multiple
    (small_bytes c.numbers_are_read_back.ensures c.numbers_are_written_back.ensures) c.args.facts.now (template_of c.args.template.now) c.args.row.now
    c.compile_fields.result gives

pub returns-clause-number : goal.returns-clause-number
returns-clause-number c =
    let gives : Gives (laid c.args.facts.now (template_of c.args.template.now) c.args.row.now) (fault_seen refusal_of c.compile_fields.result) =
    subst (λ (body : PlainBody). Gives (laid c.args.facts.now body c.args.row.now) (fault_seen refusal_of c.compile_fields.result)) (ap plain_body c.as_slice.ensures ∙ c.body.ensures.body)
    (subst (λ (row : List Tree). Gives (laid c.args.facts.now (plain_body c.as_slice.result.now) row) (fault_seen refusal_of c.compile_fields.result)) c.as_slice-2.ensures c.compile_fields.ensures) in
    known_number (laid c.args.facts.now (template_of c.args.template.now) c.args.row.now)
    (row_known c.named_values_are_there.ensures.values c.named_values_are_there.ensures.names c.named_values_are_there.ensures.early c.args.facts.now (template_of c.args.template.now) c.args.row.now
    (c.rules_hold_within.ensures (template_of c.args.template.now) c.body.ensures.kept))
    c.compile_fields.result gives
