use Rattle.std.proofs.Common.{[], ◌∷◌, ◌++◌}
use Rattle.rz_folder.proofs.FolderPart.{split_is_parted, whole_is_parted}
use Rattle.rz_bridge_files.proofs.data_file.last_name.Goals as goal

pub returns-in-Some : goal.returns-in-Some
returns-in-Some c =
    (c.in-Some.field-0-0.now ++ 47 ∷ [], split_is_parted c.args.path.now c.in-Some.field-0-0.now c.in-Some.last.now c.in-Some.ensures.cases)

pub returns-in-None : goal.returns-in-None
returns-in-None c = ([], whole_is_parted c.args.path.now c.in-None.ensures.cases)
