use Rattle.std.proofs.Common.{◌≡◌, ℕ, List, [], ◌∷◌, ◌++◌, sym, ap, subst, ◌∙◌}
use Rattle.rz_folder.proofs.Allowed.{may_read_of_after}
use Rattle.rz_folder.specs.MayRead.{IsOneOf, MayRead, MayReadOf}
use Rattle.rz_lex.specs.Joined.{joined}
use Rattle.rz_lex.specs.Lexer.{Source}
use Rattle.rz_pre.specs.Reached.{IsIncluded, IsReached}
use Rattle.rz_pre.proofs.Going.{at_some}
use Rattle.rz_pre.proofs.Reaching.{may_read_first, may_read_inside, opened_under}
use Rattle.rz_pre.proofs.unfolding.read_named.Goals as goal

pub open_file-requires-clause-may : goal.open_file-requires-clause-may
open_file-requires-clause-may g c =
    subst (λ (names : List (List ℕ)). MayRead g.F.Folder c.args.folder.now (IsOneOf names))
    (sym (c.in_ok-push.ensures.ok ∙ ap (λ (names : List (List ℕ)). names ++ c.args.name.now ∷ []) c.new-own.ensures))
    (may_read_first g.F.Folder c.args.setting.paths.now c.args.folder.now (IsOneOf (c.args.name.now ∷ [])) c.requires.may)

pub read_file-requires-clause-may : goal.read_file-requires-clause-may
read_file-requires-clause-may g c =
    let own : c.push.new.self ≡ c.args.name.now ∷ [] = c.in_ok-push.ensures.ok ∙ ap (λ (names : List (List ℕ)). names ++ c.args.name.now ∷ []) c.new-own.ensures in
    subst (λ (source : Source). MayReadOf g.F.Folder c.open_file.new.folder (λ files. IsReached c.args.setting.paths.now files (IsIncluded c.args.setting.paths.now source.file source.ahead)))
    (sym c.over-source.ensures)
    (may_read_of_after g.F.Folder c.in_ok-text.ensures.reads (λ files. IsReached c.args.setting.paths.now files (IsIncluded c.args.setting.paths.now c.len-file.result (joined 1 c.in_ok-text.text)))
    (may_read_inside g.F.Folder c.args.setting.paths.now c.args.folder.now (c.args.name.now ∷ []) c.in_ok-text.text c.len-file.result
    (λ files told. opened_under files (c.args.name.now ∷ []) _ _ _ c.in_ok-text.text (at_some _ files told _ (rw own at c.in_ok-text.ensures.opened)))
    c.requires.may))
