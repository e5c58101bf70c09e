use Rattle.std.proofs.Common.{[], ◌∷◌, ◌++◌, List, ap}
use Rattle.rz_lex.specs.declared.sign.Sign.TheVariants.{CloseBrace, Semicolon}
use Rattle.rz_show.specs.Statement.{close_lines}
use Rattle.rz_show_lines.specs.Written.{a_sign, Written}
use Rattle.rz_show.proofs.lines.Rest.item.Goals as goal

pub returns-in-None-clause-line : goal.returns-in-None-clause-line
returns-in-None-clause-line c = (a_sign CloseBrace ∷ a_sign Semicolon ∷ [], ap (λ (r : List (List Written)). r ++ close_lines) c.in-None.ensures.line, c.end_line.ensures)
