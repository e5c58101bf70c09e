use Rattle.std.proofs.Common.{Some}
use Rattle.rz_types_fields.proofs.SymbolPlaces.{bytes_put}
use Rattle.rz_types_fields.proofs.symbol_list.note_name.Goals as goal

pub returns-clause-put : goal.returns-clause-put
returns-clause-put c low = bytes_put c.args.name c.args.firsts.now c.insert.new.self (Some c.args.position) c.in_ok-insert.ensures.updates low
