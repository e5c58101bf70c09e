use Rattle.std.proofs.Common.{◌≡◌, ◌+◌, ◌≤◌, drop, min}
use Rattle.rz_types_fields.specs.Field.{plain_body, plain_cases}
use Rattle.rz_types.specs.Readable.{least_case, least_widths}
use Rattle.rz_types.proofs.LeastWidths.{least_or}
use Rattle.rz_types.proofs.least.+least.Given as goal

abbrev pub invariant-least_widths-loop-field : goal.invariant-least_widths-loop-field
invariant-least_widths-loop-field l = record {
  width : min (l.width + least_widths (plain_body (drop l.field-index l.row))) 8 ≡ min (least_widths (plain_body l.row)) 8;
  small : l.width ≤ 8;
}

abbrev pub invariant-least_of_cases-loop-case : goal.invariant-least_of_cases-loop-case
invariant-least_of_cases-loop-case l = least_or l.least (least_case (plain_cases (drop l.case-index l.cases))) ≡ least_or 8 (least_case (plain_cases l.cases))
