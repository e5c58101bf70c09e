use Rattle.std.proofs.Common.{◌≡◌, ◌++◌, ◌∙◌, arith, append_assoc}
use Rattle.rz_folder.specs.Entries.{files_of}
use Rattle.rz_folder.proofs.Store.{files_of-added, AreWithin-added}
use Rattle.rz_folder.proofs.mem_folder.add_entry.Goals as goal

pub returns-clause-files : goal.returns-clause-files
returns-clause-files c =
    let store : c.append_reserved-2.new.store.items ≡ c.args.store.now.items ++ (c.args.name.now ++ c.args.bytes.now) = grind (arith, append_assoc) in
    (λ i. files_of (store i) (c.push_front_reserved.ensures.items i))
    ∙ files_of-added _ _ _ _ c.requires.within _ _ _ (omega arith) (omega arith) (omega arith)

pub returns-clause-within : goal.returns-clause-within
returns-clause-within c =
    let store : c.append_reserved-2.new.store.items ≡ c.args.store.now.items ++ (c.args.name.now ++ c.args.bytes.now) = grind (arith, append_assoc) in
    rw (c.push_front_reserved.ensures.items, store)
    (AreWithin-added c.args.store.now.items c.args.name.now c.args.bytes.now _ c.requires.within c.len-name_start.result c.len-contents_start.result c.len-end.result
    (omega arith) (omega arith) (omega arith) c.requires.short)
