-- How the names in an expression are solved, as the code has it.
use Rattle.std.specs.Prelude.{ℤ, false, length, Option}
use Rattle.rz_expr.specs.Environment.{Environment, Key, Sight}
use Rattle.rz_expr.specs.Term.{term_of}
use Rattle.rz_bits.specs.View.{seen}
use Rattle.rz_unlay_pieces.specs.Came.{here_of}
use Rattle.rz_unlay_pieces.specs.Pieces.{seen_at, solved_at}
use Rattle.rz_unlay_pieces.specs.declared.solve.Asked.{Asked}

-- what an expression sees there, where so much is known
abbrev pub asked_sight : Asked → Environment → Sight
asked_sight asked names = seen_at (here_of asked.spot.now (λ key. false)) names asked.at

-- the value of a name with which the whole expression is stored so
abbrev pub solves : Asked → Key → Environment → Option ℤ
solves asked key names = solved_at (length (seen asked.spot.now.view.now)) asked.width key (asked_sight asked names) (term_of asked.whole.now) asked.stored
