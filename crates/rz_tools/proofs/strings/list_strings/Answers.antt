use Rattle.std.proofs.Common.{◌≡◌, length, inl, inr, refl}
use Rattle.rz_core.specs.Stop.{seen}
use Rattle.rz_folder.proofs.Allowed.{may_read_fewer, may_read_these}
use Rattle.rz_folder.proofs.Finding.{finds_so, seen_end}
use Rattle.rz_folder.proofs.Present.{placed_at}
use Rattle.rz_tools_answer.specs.Made.{making_of}
use Rattle.rz_tools.proofs.OfFiles.{after_types, finds_said, no_types}
use Rattle.rz_tools.specs.Asked.{StringsAsk, TypesAsk}
use Rattle.rz_tools.specs.Held.{strings}
use Rattle.rz_tools.specs.Strings.{HasStrings}
use Rattle.rz_tools.specs.Types.{TypesAre}
use Rattle.rz_tools.proofs.strings.list_strings.Goals as goal

pub compile_types-requires-clause-may : goal.compile_types-requires-clause-may
compile_types-requires-clause-may g c =
    let asked = strings c.args.words.now in
    may_read_fewer g.F.Folder (StringsAsk asked) c.requires.may (TypesAsk asked.types) (λ files told name is. inl is)

pub catalogue_of-output-requires : goal.catalogue_of-output-requires
catalogue_of-output-requires g c =
    let asked = strings c.args.words.now in
    c.in_ok-compiled.ensures.reads.allowed asked.file (may_read_these g.F.Folder (StringsAsk asked) c.requires.may (λ name. name ≡ asked.file) (λ files told name is. inr is) asked.file refl)

pub say_beside-made-requires-clause-fault : goal.say_beside-made-requires-clause-fault
say_beside-made-requires-clause-fault g c = placed_at (length c.in_ok-compiled.compiled.files) c.catalogue_of-output.result c.catalogue_of-output.ensures.bad

pub say_beside-made-requires-clause-warnings : goal.say_beside-made-requires-clause-warnings
say_beside-made-requires-clause-warnings g c = c.in_ok-compiled.ensures.good

pub returns-in_err-compiled : goal.returns-in_err-compiled
returns-in_err-compiled g c =
    let asked = strings c.args.words.now in
    no_types g.F.Folder asked.from asked.file (TypesAre c.args.moment asked.types) (HasStrings c.args.moment asked) (seen making_of c.from_residual.result)
    (seen_end making_of c.from_residual.result _ c.from_residual.ensures.1) c.in_err-compiled.ensures

pub returns : goal.returns
returns g c =
    let asked = strings c.args.words.now in
    let result = seen making_of c.say_beside-made.result in
    after_types g.F.Folder asked.from asked.file (TypesAre c.args.moment asked.types) (HasStrings c.args.moment asked) result c.in_ok-compiled.ensures
    (finds_so g.F.Folder result (finds_said g.F.Folder asked.from asked.file c.say_beside-made.result c.catalogue_of-output.ensures c.say_beside-made.ensures)
    (λ files answer is. is) (λ making good. good.1) (λ failing bad. bad))
