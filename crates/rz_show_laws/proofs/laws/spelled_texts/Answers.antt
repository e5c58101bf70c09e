use Rattle.rz_show_laws.proofs.Spelled.{plain_short, spelled_bytes, spelled_short}
use Rattle.rz_show_laws.proofs.laws.spelled_texts.Goals as goal

pub returns-clause-short : goal.returns-clause-short
returns-clause-short c = spelled_short

pub returns-clause-plain_short : goal.returns-clause-plain_short
returns-clause-plain_short c = plain_short

pub returns-clause-bytes : goal.returns-clause-bytes
returns-clause-bytes c = spelled_bytes
