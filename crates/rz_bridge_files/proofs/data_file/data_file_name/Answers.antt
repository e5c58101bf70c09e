use Rattle.std.proofs.Common.{[], ◌∷◌}
use Rattle.std.specs.String.{string_bytes}
use Rattle.rz_folder.proofs.FolderPart.{split_is_parted, whole_is_parted}
use Rattle.rz_bridge_files.proofs.DataFile.{named_file}
use Rattle.rz_bridge_files.proofs.data_file.data_file_name.Goals as goal

pub returns-in-Some : goal.returns-in-Some
returns-in-Some c =
    named_file string_bytes c.in_folder.result c.in-Some.folder.now (47 ∷ []) c.in-Some.last.now c.args.header.now
    (split_is_parted c.args.header.now c.in-Some.folder.now c.in-Some.last.now c.in-Some.ensures.cases) c.in_folder.ensures

pub returns-in-None : goal.returns-in-None
returns-in-None c =
    named_file string_bytes c.in_folder-in-None.result [] [] c.args.header.now c.args.header.now
    (whole_is_parted c.args.header.now c.in-None.ensures.cases) c.in_folder-in-None.ensures
