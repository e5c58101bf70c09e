use Rattle.std.proofs.Common.{◌++◌, ◌∷◌, [], ℕ, List, sym, ap, ◌∙◌, arith}
use Rattle.std.proofs.lemmas.List.{length-set, take_all, take_more_set}
use Rattle.rz_fork.specs.Layout.{entries}
use Rattle.rz_fork.specs.declared.layout.TypeEntry.{TypeEntry}
use Rattle.rz_fork.proofs.Items.{length-entries, map_more}
use Rattle.rz_fork.proofs.Marks.{codes}
use Rattle.rz_fork.proofs.repeats.read_codes.Goals as goal

pub loop-position-preserved : goal.loop-position-preserved
loop-position-preserved c =
    let es = entries c.args.bytes.now c.args.outline in
    let place = c.loop-position.position in
    let code = c.entry_of.result.code in
    record {
      long = length-set c.loop-position.codes place code ∙ c.loop-position.invariant.long;
      read = take_more_set c.loop-position.codes place code (omega (arith, c.loop-position.invariant.long))
          ∙ ap (λ (l : List ℕ). l ++ code ∷ []) c.loop-position.invariant.read
          ∙ sym (map_more (λ (t : TypeEntry). t.code) es place c.entry_of.result c.entry_of.ensures.entry);
    }

pub returns : goal.returns
returns c =
    sym (take_all c.loop-position.position c.loop-position.codes (omega (arith, c.loop-position.invariant.long)))
    ∙ c.loop-position.invariant.read
    ∙ ap codes (take_all c.loop-position.position (entries c.args.bytes.now c.args.outline) (omega (arith, length-entries c.args.bytes.now c.args.outline)))
