use Rattle.rz_folder.proofs.FolderPart.{split_is_parted, whole_is_parted, named}
use Rattle.rz_folder.proofs.temporary.temporary_name.Goals as goal

pub returns-in-Some : goal.returns-in-Some
returns-in-Some c =
    let parted = split_is_parted c.args.path.now c.in-Some.folder.now c.in-Some.field-0-1.now c.in-Some.ensures.cases in
    named c.joined.result c.args.path.now c.args.number _ _ parted c.joined.ensures

pub returns-in-None : goal.returns-in-None
returns-in-None c =
    let parted = whole_is_parted c.args.path.now c.in-None.ensures.cases in
    named c.joined-in-None.result c.args.path.now c.args.number _ _ parted c.joined-in-None.ensures
