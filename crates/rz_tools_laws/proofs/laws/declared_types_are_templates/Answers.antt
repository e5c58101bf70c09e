use Rattle.rz_tools_laws.proofs.Templates.{derez_templates, rez_templates, sources_templates, statements_templates}
use Rattle.rz_tools_laws.proofs.laws.declared_types_are_templates.Goals as goal

pub returns-clause-statements : goal.returns-clause-statements
returns-clause-statements c = statements_templates c.declarations_are_shaped.ensures

pub returns-clause-sources : goal.returns-clause-sources
returns-clause-sources c = sources_templates c.declarations_are_shaped.ensures c.programs_are_lexed.ensures

pub returns-clause-rez : goal.returns-clause-rez
returns-clause-rez c = rez_templates c.declarations_are_shaped.ensures c.programs_are_lexed.ensures c.definitions_are_lexed.ensures c.types_are_templates.ensures

pub returns-clause-derez : goal.returns-clause-derez
returns-clause-derez c = derez_templates c.declarations_are_shaped.ensures c.programs_are_lexed.ensures c.definitions_are_lexed.ensures c.types_are_templates.ensures
