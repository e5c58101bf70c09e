use Rattle.std.proofs.Common.{◌≡◌, ◌+◌, ◌++◌, ◌<◌, ◌^◌, [], ◌∷◌, ℕ, List, length, ap, inl, inr, subst, ◌∙◌, arith}
use Rattle.std.proofs.lemmas.List.{length_push}
use Rattle.rz_core.specs.Message.{IsNameable}
use Rattle.rz_core.specs.Stop.{seen}
use Rattle.rz_folder.proofs.Allowed.{may_read_fewer, may_read_these}
use Rattle.rz_folder.proofs.Finding.{finds_none_after, finds_so, finds_stop, finds_then, seen_end}
use Rattle.rz_folder.specs.Finds.{Finds}
use Rattle.rz_tools_answer.proofs.Planning.{finds_beside}
use Rattle.rz_tools_answer.specs.Made.{making_of, IsBeside}
use Rattle.rz_tools.proofs.Restringing.{warnings_more}
use Rattle.rz_tools.specs.Asked.{RestringAsks, RestringAsksAfter, TypesAsk}
use Rattle.rz_tools.specs.Held.{restring}
use Rattle.rz_tools.specs.Restring.{HasRestrung, IsRestrungUnder}
use Rattle.rz_tools.specs.Types.{TypesAre}
use Rattle.rz_types_table.specs.TypeTable.{table_of}
use Rattle.rz_tools.proofs.restring.restring_fork.Goals as goal

pub compile_types-requires-clause-may : goal.compile_types-requires-clause-may
compile_types-requires-clause-may g c =
    let asked = restring c.args.words.now in
    may_read_fewer g.F.Folder (RestringAsks asked) c.requires.may (TypesAsk asked.types) (λ files told name is. inl is)

pub restrung-output-requires : goal.restrung-output-requires
restrung-output-requires g c =
    let asked = restring c.args.words.now in
    λ name is. c.in_ok-compiled.ensures.reads.allowed name
    (may_read_these g.F.Folder (RestringAsks asked) c.requires.may (RestringAsksAfter asked) (λ files told other one. inr one) name is)

pub say_beside-requires-clause-fault : goal.say_beside-requires-clause-fault
say_beside-requires-clause-fault g c =
    let files = c.in_ok-compiled.compiled.files in
    let more : length c.push.new.self ≡ length files + 1 = ap (λ (l : List (List ℕ)). length l) c.in_ok-push.ensures.ok ∙ length_push files c.as_str.result.now in
    let same : c.len-file.result + 1 ≡ length c.push.new.self = omega (arith, more, c.len-file.ensures) in
    (finds_so g.F.Folder {Worse = IsNameable (length c.push.new.self)} c.restrung-output.result c.restrung-output.ensures (λ held answer is. is) (λ bytes short. short)
    (λ fault is. subst (λ (n : ℕ). IsNameable n fault) same is)).bad

pub say_beside-requires-clause-warnings : goal.say_beside-requires-clause-warnings
say_beside-requires-clause-warnings g c =
    let compiled = c.in_ok-compiled.compiled in
    let more : length c.push.new.self ≡ length compiled.files + 1 = ap (λ (l : List (List ℕ)). length l) c.in_ok-push.ensures.ok ∙ length_push compiled.files c.as_str.result.now in
    warnings_more (length compiled.files) _ compiled.work.warnings (omega (arith, more)) c.in_ok-compiled.ensures.good

pub returns-in_err-compiled : goal.returns-in_err-compiled
returns-in_err-compiled g c =
    let asked = restring c.args.words.now in
    finds_stop g.F.Folder (TypesAre c.args.moment asked.types) (HasRestrung c.args.moment asked) (seen making_of c.from_residual.result) (seen_end making_of c.from_residual.result _ c.from_residual.ensures.1)
    c.in_err-compiled.ensures

pub returns-in_err-push : goal.returns-in_err-push
returns-in_err-push g c =
    let asked = restring c.args.words.now in
    let result = c.from_residual-in_err-push.result in
    finds_then g.F.Folder (TypesAre c.args.moment asked.types) (HasRestrung c.args.moment asked) c.in_ok-compiled.ensures
    (finds_none_after g.F.Folder (seen making_of result) c.restrung-output.ensures.reads (seen_end making_of result _ c.from_residual-in_err-push.ensures.1))

pub returns : goal.returns
returns g c =
    let asked = restring c.args.words.now in
    let compiled = c.in_ok-compiled.compiled in
    let types = table_of compiled.work.types in
    let output = c.restrung-output.result in
    let result = c.say_beside.result in
    let names : c.push.new.self ≡ compiled.files ++ asked.catalogue ∷ [] = c.in_ok-push.ensures.ok ∙ ap (λ (name : List ℕ). compiled.files ++ name ∷ []) c.as_str.ensures.value in
    let count : c.len-file.result ≡ length compiled.files = c.len-file.ensures in
    let same : length compiled.files + 1 ≡ length (compiled.files ++ asked.catalogue ∷ []) = omega (arith, length_push compiled.files asked.catalogue) in
    finds_then g.F.Folder (TypesAre c.args.moment asked.types) (HasRestrung c.args.moment asked) c.in_ok-compiled.ensures
    (finds_beside g.F.Folder result
    (finds_so g.F.Folder output
    (subst (λ (file : ℕ). Finds g.F.Folder c.compile_types.new.folder c.restrung-output.new.folder output (IsRestrungUnder c.args.moment types file asked) (λ bytes. length bytes < 2 ^ 32) (IsNameable (file + 1)))
    count c.restrung-output.ensures)
    (λ held answer is. is) (λ bytes short. short) (λ fault is. subst (λ (n : ℕ). IsNameable n fault) same is))
    (subst (λ (names : List (List ℕ)). IsBeside names compiled.work.warnings output result) names c.say_beside.ensures))
