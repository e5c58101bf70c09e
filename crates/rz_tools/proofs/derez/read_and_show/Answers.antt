use Rattle.std.proofs.Common.{◌≡◌, ℕ, List, Ok, Err, length, inl, inr, refl, sym, subst}
use Rattle.rz_folder.proofs.Allowed.{may_read_fewer, may_read_these}
use Rattle.rz_folder.proofs.Finding.{finds_as, finds_none_after}
use Rattle.rz_folder.proofs.Present.{placed_at}
use Rattle.rz_tools.proofs.OfFiles.{after_types, finds_said, no_types}
use Rattle.rz_tools.proofs.Showing.{shows_fork, shows_none, shows_then}
use Rattle.rz_tools.specs.Asked.{DeRezAsks, TypesAsk}
use Rattle.rz_tools.specs.DeRez.{HasText}
use Rattle.rz_tools.specs.Held.{compiled_of, derez, ShowsText}
use Rattle.rz_tools.specs.Types.{TypesAre}
use Rattle.rz_tools.specs.declared.reply.ForkShown.{ForkShown}
use Rattle.rz_tools.proofs.derez.read_and_show.Goals as goal

pub compile_types-compiled-requires-clause-may : goal.compile_types-compiled-requires-clause-may
compile_types-compiled-requires-clause-may g c =
    let asked = derez c.args.words in
    may_read_fewer g.F.Folder (DeRezAsks asked) c.requires.may (TypesAsk asked.types) (λ files told name is. inl is)

pub read_fork-fork-requires : goal.read_fork-fork-requires
read_fork-fork-requires g c =
    let asked = derez c.args.words in
    subst (λ (name : List ℕ). g.F.Folder.may_read c.compile_types-compiled.new.folder name) (sym c.as_str.ensures.value)
    (c.in_ok-compiled.ensures.reads.allowed asked.file (may_read_these g.F.Folder (DeRezAsks asked) c.requires.may (λ name. name ≡ asked.file) (λ files told name is. inr is) asked.file refl))

pub say_beside-requires-clause-fault : goal.say_beside-requires-clause-fault
say_beside-requires-clause-fault g c = placed_at (length c.in_ok-compiled.compiled.files) c.read_fork-fork.result c.read_fork-fork.ensures.bad

pub say_beside-requires-clause-warnings : goal.say_beside-requires-clause-warnings
say_beside-requires-clause-warnings g c = c.in_ok-compiled.ensures.good

pub returns-in_err-compiled : goal.returns-in_err-compiled
returns-in_err-compiled g c =
    let asked = derez c.args.words in
    let result = c.from_residual.result in
    finds_as g.F.Folder result
    (no_types g.F.Folder asked.from asked.file (TypesAre c.args.moment asked.types) (λ files compiled. ShowsText (HasText c.args.moment asked files compiled)) result c.from_residual.ensures.1
    c.in_err-compiled.ensures)
    (λ files answer is. (shows_then (TypesAre c.args.moment asked.types files) (HasText c.args.moment asked files) answer is.0, is.1))

pub returns-in-Err : goal.returns-in-Err
returns-in-Err g c =
    let asked = derez c.args.words in
    let compiled = compiled_of c.in_ok-compiled.compiled in
    finds_as g.F.Folder (Err c.in-Err.halt)
    (after_types g.F.Folder asked.from asked.file (TypesAre c.args.moment asked.types) (λ files compiled. ShowsText (HasText c.args.moment asked files compiled)) (Err c.in-Err.halt)
    c.in_ok-compiled.ensures
    (shows_none c.args.moment asked compiled g.F.Folder c.in-Err.halt
    (finds_said g.F.Folder asked.from asked.file (Err c.in-Err.halt) (rw c.as_str.ensures.value at c.read_fork-fork.ensures) c.in-Err.ensures)))
    (λ files answer is. (shows_then (TypesAre c.args.moment asked.types files) (HasText c.args.moment asked files) answer is.0, is.1))

pub returns-in_err-known : goal.returns-in_err-known
returns-in_err-known g c =
    let asked = derez c.args.words in
    let result = c.from_residual-in_err-known.result in
    finds_as g.F.Folder result
    (after_types g.F.Folder asked.from asked.file (TypesAre c.args.moment asked.types) (λ files compiled. ShowsText (HasText c.args.moment asked files compiled)) result
    c.in_ok-compiled.ensures (finds_none_after g.F.Folder result c.read_fork-fork.ensures.reads c.from_residual-in_err-known.ensures.1))
    (λ files answer is. (shows_then (TypesAre c.args.moment asked.types files) (HasText c.args.moment asked files) answer is.0, is.1))

pub returns : goal.returns
returns g c =
    let asked = derez c.args.words in
    let made = c.in-Ok.made in
    let fork : ForkShown = record { text = record { fork = made.bytes; only = c.args.words.only; skip = c.args.words.skip; known = c.in_ok-known.known }; said = made.said } in
    finds_as g.F.Folder (Ok fork)
    (after_types g.F.Folder asked.from asked.file (TypesAre c.args.moment asked.types) (λ files compiled. ShowsText (HasText c.args.moment asked files compiled)) (Ok fork)
    c.in_ok-compiled.ensures
    (shows_fork c.args.moment asked (compiled_of c.in_ok-compiled.compiled) g.F.Folder fork c.in_ok-known.ensures refl refl
    (finds_said g.F.Folder asked.from asked.file (Ok made) (rw c.as_str.ensures.value at c.read_fork-fork.ensures) c.in-Ok.ensures)))
    (λ files answer is. (shows_then (TypesAre c.args.moment asked.types files) (HasText c.args.moment asked files) answer is.0, is.1))
