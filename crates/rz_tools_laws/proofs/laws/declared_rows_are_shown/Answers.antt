use Rattle.rz_tools.specs.Types.{known_by}
use Rattle.rz_tools_laws.proofs.Shown.{bytes_shown, row_shown}
use Rattle.rz_tools_laws.proofs.laws.declared_rows_are_shown.Goals as goal

pub returns-clause-row : goal.returns-clause-row
returns-clause-row c words asked files moment compiled command are =
    row_shown c.one_shown_text.ensures.showing (known_by moment compiled) (c.declared_types_are_templates.ensures.derez words asked files moment compiled command are)

pub returns-clause-bytes : goal.returns-clause-bytes
returns-clause-bytes c words asked files moment compiled command are =
    bytes_shown c.one_shown_text.ensures.showing (known_by moment compiled) (c.declared_types_are_templates.ensures.derez words asked files moment compiled command are)
