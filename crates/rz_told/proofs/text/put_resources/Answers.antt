use Rattle.std.proofs.Common.{List, [], ◌∷◌, ◌++◌, sym, ap, ◌∙◌, append_assoc, append-nil}
use Rattle.std.specs.List.{flat_map}
use Rattle.rz_core.specs.declared.resource.Resource.{Resource}
use Rattle.rz_fork.specs.View.{lent}
use Rattle.rz_told.proofs.Parted.{lines_all, lines_on}
use Rattle.rz_told.proofs.Putting.{puts_as, puts_end, puts_nothing, puts_stop, puts_then}
use Rattle.rz_told.specs.Text.{resource_line}
use Rattle.rz_told.proofs.text.put_resources.Goals as goal

pub resources-init : goal.resources-init
resources-init g c = ([], sym c.walk-walk.ensures, puts_nothing g.O.Sink c.args.out.now)

pub resources-preserved : goal.resources-preserved
resources-preserved g c =
    let front = c.resources.invariant.0 in
    let r = lent c.in-Some.view in (
      front ++ r ∷ [],
      c.resources.invariant.1 ∙ ap (λ (l : List Resource). front ++ l) c.in-Some.ensures ∙ sym (append_assoc front (r ∷ []) c.next.new.self),
      puts_as g.O.Sink _ (lines_on front r) (puts_then g.O.Sink _ c.resources.invariant.2 c.in_ok-put_resource.ensures),
    )

pub returns : goal.returns
returns g c =
    let front = c.resources.invariant.0 in
    puts_as g.O.Sink _ (ap (flat_map resource_line) (sym (c.resources.invariant.1 ∙ ap (λ (l : List Resource). front ++ l) c.in_default.ensures.0 ∙ append-nil front))) c.resources.invariant.2

pub returns-in_err-put_resource : goal.returns-in_err-put_resource
returns-in_err-put_resource g c =
    let front = c.resources.invariant.0 in
    let r = lent c.in-Some.view in
    puts_as g.O.Sink _
    (lines_all front r c.next.new.self ∙ ap (flat_map resource_line) (sym (c.resources.invariant.1 ∙ ap (λ (l : List Resource). front ++ l) c.in-Some.ensures)))
    (puts_end g.O.Sink c.from_residual.result c.from_residual.ensures.1
    (puts_then g.O.Sink _ c.resources.invariant.2 (puts_stop g.O.Sink _ c.in_err-put_resource.ensures)))
