use Rattle.std.proofs.Common.{◌≡◌, ◌∷◌, Some, None, sym, ◌∙◌, arith}
use Rattle.std.proofs.lemmas.Str.Pattern.{strip_prefix_char}
use Rattle.rz_bridge_files.proofs.DataFile.{same_behind}
use Rattle.rz_bridge_files.proofs.data_file.behind_mark.Goals as goal

pub returns-in_default : goal.returns-in_default
returns-in_default c rest some is = strip_prefix_char 46 c.args.last.now None c.in_default.ensures.cases (omega arith) (95 ∷ rest) is

pub returns-in_default-strip_prefix : goal.returns-in_default-strip_prefix
returns-in_default-strip_prefix c rest some is =
    let dot : c.args.last.now ≡ 46 ∷ c.in-Some.rest.now =
    strip_prefix_char 46 c.args.last.now (Some c.in-Some.rest) c.in-Some.ensures.cases (omega arith) in
    strip_prefix_char 95 c.in-Some.rest.now None c.in_default-strip_prefix.ensures.cases (omega arith) rest
    (same_behind 46 c.in-Some.rest.now (95 ∷ rest) (sym dot ∙ is))
