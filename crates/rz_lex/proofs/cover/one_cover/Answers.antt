use Rattle.std.proofs.Common.{[], refl, sym}
use Rattle.rz_lex.proofs.OneCover.{one_row}
use Rattle.rz_lex.proofs.cover.one_cover.Goals as goal

pub returns-clause-cover : goal.returns-clause-cover
returns-clause-cover c = λ text parts others p q. (one_row text [] [] parts others p q refl refl).0

pub returns-clause-open_comment : goal.returns-clause-open_comment
returns-clause-open_comment c = λ text comment parts before p q stuck there. there (sym (one_row text comment [] parts before p q refl stuck).1)
