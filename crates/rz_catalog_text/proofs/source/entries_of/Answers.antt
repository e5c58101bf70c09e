use Rattle.rz_catalog_text.proofs.Marks.{nameable, placed}
use Rattle.rz_catalog_text.proofs.source.entries_of.Goals as goal

pub returns-in-Ok-clause-placed : goal.returns-in-Ok-clause-placed
returns-in-Ok-clause-placed c =
    placed c.args.file c.args.text.now c.in-Ok.tokens c.in-Ok.ensures.tokens c.entries_are_in_files.ensures.entries c.read_entries.result c.read_entries.ensures

pub returns-in-Ok-clause-nameable : goal.returns-in-Ok-clause-nameable
returns-in-Ok-clause-nameable c =
    nameable c.args.file c.args.text.now c.in-Ok.tokens c.in-Ok.ensures.tokens c.entries_are_in_files.ensures.fault c.read_entries.result c.read_entries.ensures
