use Rattle.std.proofs.Common.{ℕ, List, sym, subst}
use Rattle.rz_folder.specs.MayRead.{IsOneOf, MayRead}
use Rattle.rz_tools_values.proofs.files.file_named.Goals as goal

pub read_file-requires : goal.read_file-requires
read_file-requires g c = subst (λ (names : List (List ℕ)). MayRead g.F.Folder c.args.folder.now (IsOneOf names)) (sym c.in_ok-names.ensures) c.requires

pub returns-clause-read : goal.returns-clause-read
returns-clause-read g c = rw c.in_ok-names.ensures at c.read_file.ensures.read
