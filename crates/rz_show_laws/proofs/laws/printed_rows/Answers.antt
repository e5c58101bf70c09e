use Rattle.rz_show_laws.proofs.Good.{row_good}
use Rattle.rz_show_laws.proofs.laws.printed_rows.Goals as goal

pub returns : goal.returns
returns c hidden body row more spares shaped kept = row_good hidden body row more spares shaped (c.rules_hold_within.ensures body kept)
