use Rattle.std.proofs.Common.{ℕ, List, sym, ap, ◌∙◌}
use Rattle.std.specs.Prelude.{option_map}
use Rattle.rz_types_fields.specs.declared.field.Field.{Field}
use Rattle.rz_types_fields.specs.declared.tree.Tree.{Tree}
use Rattle.rz_types_fields.specs.Spells.{choice_in}
use Rattle.rz_types.proofs.Cased.{apart_within, found_case}
use Rattle.rz_types.specs.Cases.{case_named}
use Rattle.rz_types.specs.Field.{plain_body, plain_case, plain_cases}
use Rattle.rz_show.proofs.Cased.{named_names, named_widths, print_none, print_some}
use Rattle.rz_show.specs.Shown.{row_prints, rows_prints}
use Rattle.rz_show_lines.specs.Print.{block}
use Rattle.rz_show.proofs.entry.case_entry.Goals as goal

pub choice_entry-requires : goal.choice_entry-requires
choice_entry-requires c =
    let name = choice_in (option_map (λ v. v.now) c.args.value) in
    let cases = plain_cases c.args.cases.now in
    let one = plain_case c.index-cases-position.result in
    let found = found_case name c.choice_in.result.now c.args.cases.now c.in-Some.position c.index-cases-position.result c.in-Some.ensures.within
    c.index-cases-position.is c.choice_in.ensures (c.in-Some.ensures.named c.requires.differ) in
    (named_widths name cases one c.requires.widths found, named_names name cases one c.requires.names found, apart_within name cases one c.requires.apart found)

pub returns-in-Some-clause-print : goal.returns-in-Some-clause-print
returns-in-Some-clause-print c = λ hidden.
    let value = option_map (λ v. v.now) c.args.value in
    let found = found_case (choice_in value) c.choice_in.result.now c.args.cases.now c.in-Some.position c.index-cases-position.result c.in-Some.ensures.within
    c.index-cases-position.is c.choice_in.ensures (c.in-Some.ensures.named c.requires.differ) in
    c.choice_entry.ensures.print hidden ∙ sym (print_some hidden value (plain_cases c.args.cases.now) (plain_case c.index-cases-position.result) found)

pub returns-in-None-clause-print : goal.returns-in-None-clause-print
returns-in-None-clause-print c = λ hidden.
    let value = option_map (λ v. v.now) c.args.value in
    let list = c.default.result in
    let below = row_prints hidden (plain_body list.row.now) in
    ap (λ (fields : List Field). block (row_prints hidden (plain_body fields) list.values.now (rows_prints below list.rows.now))) c.default.ensures.fields
    ∙ ap (λ (rows : List (List Tree)). block (rows_prints below rows)) c.default.ensures.rows
    ∙ sym (print_none hidden value (plain_cases c.args.cases.now)
    (ap (λ (n : List ℕ). case_named n (plain_cases c.args.cases.now)) (sym c.choice_in.ensures) ∙ c.in-None.ensures.named c.requires.differ))
