use Rattle.std.proofs.Common.{◌≡◌, ◌+◌, take, is_some, None, sym, ap, ◌∙◌, arith}
use Rattle.rz_fork.specs.Rules.{list_rule, references_outside}
use Rattle.rz_fork.specs.Breaks.{listed}
use Rattle.rz_fork.specs.Layout.{entries}
use Rattle.rz_fork.proofs.Holding.{list_within}
use Rattle.rz_told.specs.Left.{on_type}
use Rattle.rz_told.proofs.Table.{none_from}
use Rattle.rz_told.proofs.Onward.{past_type, begun_type, whole_type, broken_type, at_past, at_begun}
use Rattle.rz_told.proofs.lists.begin_type.Goals.{in-Lists, in-Codes, in-Data+then-is_none, in-Data+else-is_none}
use Rattle.rz_told.proofs.lists.begin_type.Goals as goal

pub returns-clause-gives : goal.returns-clause-gives
returns-clause-gives c =
    let b = c.args.bytes.now in
    let o = c.args.outline in
    let at = c.args.cursor.now in
    let before = take at.begun (entries b o) in
    let t = c.entry_of-entry.result in
    let rule : c.references_outside-outside.result ≡ list_rule o before t =
    c.references_outside-outside.ensures.rule ∙ ap (λ n. references_outside o n t) c.requires.at.so_far in
    elim c.match-pass.branch [
      | in-Lists w ↦ rw (w.cursor-is, w.fault-is)
          (past_type c.args.pass b o at t _ (at.so_far + t.count) c.requires.done c.entry_of-entry.ensures.entry (ap (λ p. on_type p b o before t) w.in-Lists.is ∙ ap listed (sym rule)))
      | in-Codes w ↦ rw (w.cursor-is, w.fault-is)
          (past_type c.args.pass b o at t _ (at.so_far + t.count) c.requires.done c.entry_of-entry.ensures.entry (ap (λ p. on_type p b o before t) w.in-Codes.is ∙ ap listed (sym w.type_repeats-fault.ensures.rule)))
      | in-Data+then-is_none w ↦ rw (w.cursor-is, w.fault-is)
          (begun_type c.args.pass b o at t (at.so_far + t.count) c.requires.done c.entry_of-entry.ensures.entry (whole_type c.args.pass b o before t w.in-Data.is (ap is_some (sym rule) ∙ w.if-is_none.ensures)))
      | in-Data+else-is_none w ↦ rw (w.cursor-is, w.fault-is)
          (past_type c.args.pass b o at t None (at.so_far + t.count) c.requires.done c.entry_of-entry.ensures.entry (broken_type c.args.pass b o before t w.in-Data.is (ap is_some (sym rule) ∙ w.if-is_none.ensures)))
    ]

pub returns-clause-at : goal.returns-clause-at
returns-clause-at c =
    let b = c.args.bytes.now in
    let o = c.args.outline in
    let at = c.args.cursor.now in
    let t = c.entry_of-entry.result in
    let past = at_past b o at t c.entry_of-entry.ensures.entry c.requires.at c.requires.more c.entry_of-entry.ensures.count in
    elim c.match-pass.branch [
      | in-Lists w ↦ rw w.cursor-is past
      | in-Codes w ↦ rw w.cursor-is past
      | in-Data+then-is_none w ↦
          let list = list_within o at.so_far t (none_from _ _ c.references_outside-outside.ensures.rule w.if-is_none.ensures) in
          rw w.cursor-is (at_begun b o at t c.entry_of-entry.ensures.entry c.requires.at c.requires.more c.entry_of-entry.ensures.count (omega (arith, list, c.requires.types.map)))
      | in-Data+else-is_none w ↦ rw w.cursor-is past
    ]

pub returns-clause-marked : goal.returns-clause-marked
returns-clause-marked c =
    elim c.match-pass.branch [
      | in-Lists w ↦ rw w.cursor-is (λ ids more. absurd (omega (arith, c.requires.done, more)))
      | in-Codes w ↦ rw w.cursor-is (λ ids more. absurd (omega (arith, c.requires.done, more)))
      | in-Data+then-is_none w ↦ rw (w.cursor-is, w.marks-is) (λ ids more. w.clear.ensures ids)
      | in-Data+else-is_none w ↦ rw w.cursor-is (λ ids more. absurd (omega (arith, c.requires.done, more)))
    ]
