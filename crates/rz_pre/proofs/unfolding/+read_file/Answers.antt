use Rattle.std.proofs.Common.{ℕ, ◌-◌, ◌<◌, List, length, rules, reverse, sym, ap, subst, ◌∙◌, arith}
use Rattle.std.specs.declared.option.Option.{Option}
use Rattle.std.proofs.lemmas.Result.{err_from_is_err_and}
use Rattle.rz_lex.specs.Within.{AreWithin}
use Rattle.rz_lex.specs.Joined.{joined}
use Rattle.rz_lex.specs.Lexer.{Source}
use Rattle.rz_lex.specs.declared.raw_line.RawLine.{RawLine}
use Rattle.rz_pre.specs.Reading.{state_of}
use Rattle.rz_pre.proofs.Going.{at_some, left_at_end, left_in_comment, left_in_line, left_in_opening, left_inside, on_behind, on_inside}
use Rattle.rz_lex.specs.declared.token.Token.{Token}
use Rattle.rz_pre.specs.Placed.{IsPlaced}
use Rattle.rz_pre.proofs.Placing.{open_more, steps_files, steps_open, steps_within, within_more}
use Rattle.rz_folder.proofs.Allowed.{may_read_of_after}
use Rattle.rz_folder.proofs.Reading.{reads_on}
use Rattle.rz_folder.specs.MayRead.{IsOneOf, MayRead, MayReadOf}
use Rattle.rz_folder.specs.Names.{names_of, utf8_name}
use Rattle.rz_pre.proofs.Lexing.{steps_lexed}
use Rattle.rz_pre.proofs.Reaching.{included_under, lines_go_on, may_read_first, may_read_included, may_read_inside}
use Rattle.rz_pre.specs.Reached.{IsIncluded, IsReached}
use Rattle.rz_folder.proofs.Found.{if_some}
use Rattle.rz_pre.proofs.unfolding.+read_file.Goals as goal
use Rattle.rz_pre.proofs.unfolding.+read_file.Goals.{in-Some-2+in_ok-text+in_ok-read_file, in_default-2}

-- the names under which the file is looked for that the line includes
pub open_included-requires-clause-may : goal.open_included-requires-clause-may
open_included-requires-clause-may g t c =
    subst (λ (own : List ℕ). MayRead g.F.Folder c.loop-opens.folder (IsOneOf (names_of c.args.setting.paths.now (utf8_name own)))) (sym c.as_slice.ensures)
    (may_read_first g.F.Folder c.args.setting.paths.now c.loop-opens.folder (IsOneOf (names_of c.args.setting.paths.now (utf8_name c.in-Some-2.name)))
    (may_read_included g.F.Folder c.args.setting.paths.now c.loop-opens.folder c.args.setting.tool c.args.source.file c.args.source.ahead
    c.loop-opens.source.ahead c.next.new.self.ahead c.in-Some.line (reverse c.loop-opens.opens.items) _ (state_of c.loop-opens.reading) _ c.in-Some-2.name
    c.loop-opens.invariant.lines (rw c.loop-opens.invariant.file at (rw c.in-Some.is at c.in_ok-line.ensures.line))
    (c.every_text_has_lines.ensures c.args.source.file c.next.new.self.ahead) (rw c.in-Some-2.is at c.in_ok-name.ensures.steps)
    (may_read_of_after g.F.Folder c.loop-opens.invariant.reads (λ files. IsReached c.args.setting.paths.now files (IsIncluded c.args.setting.paths.now c.args.source.file c.args.source.ahead)) c.requires.may)))

pub read_file-requires : goal.read_file-requires
read_file-requires g t c =
    let names = names_of c.args.setting.paths.now (utf8_name c.in-Some-2.name) in
    let reached = may_read_included g.F.Folder c.args.setting.paths.now c.loop-opens.folder c.args.setting.tool c.args.source.file c.args.source.ahead
    c.loop-opens.source.ahead c.next.new.self.ahead c.in-Some.line (reverse c.loop-opens.opens.items) _ (state_of c.loop-opens.reading) _ c.in-Some-2.name
    c.loop-opens.invariant.lines (rw c.loop-opens.invariant.file at (rw c.in-Some.is at c.in_ok-line.ensures.line))
    (c.every_text_has_lines.ensures c.args.source.file c.next.new.self.ahead) (rw c.in-Some-2.is at c.in_ok-name.ensures.steps)
    (may_read_of_after g.F.Folder c.loop-opens.invariant.reads (λ files. IsReached c.args.setting.paths.now files (IsIncluded c.args.setting.paths.now c.args.source.file c.args.source.ahead)) c.requires.may) in
    let may : MayReadOf g.F.Folder c.open_included.new.folder (λ files. IsReached c.args.setting.paths.now files (IsIncluded c.args.setting.paths.now c.over-included.result.file c.over-included.result.ahead)) =
    subst (λ (source : Source). MayReadOf g.F.Folder c.open_included.new.folder (λ files. IsReached c.args.setting.paths.now files (IsIncluded c.args.setting.paths.now source.file source.ahead))) (sym c.over-included.ensures)
    (may_read_of_after g.F.Folder c.in_ok-text.ensures.reads (λ files. IsReached c.args.setting.paths.now files (IsIncluded c.args.setting.paths.now c.len-file.result (joined 1 c.in_ok-text.text)))
    (may_read_inside g.F.Folder c.args.setting.paths.now c.loop-opens.folder names c.in_ok-text.text c.len-file.result
    (λ files told. included_under files c.args.setting.paths.now c.args.levels c.in-Some-2.name c.in-Some.line.mark _ _ c.in_ok-text.text
    (at_some _ files told _ (rw c.as_slice.ensures at c.in_ok-text.ensures.opened))) reached)) in
    let smaller : c.args.levels - 1 < c.args.levels = omega (arith, c.in_ok-text.ensures.deep) in
    let inside : c.over-included.result.file < length c.open_included.new.reading.files = omega (arith, ap (λ (s : Source). s.file) c.over-included.ensures, c.len-file.ensures, c.in_ok-text.ensures.more) in
    let same = steps_files c.args.setting.tool c.in-Some.line (reverse c.loop-opens.opens.items) (state_of c.loop-opens.reading) c.in_ok-name.field-0 (reverse c.step.new.opens.items) (state_of c.step.new.reading) c.in_ok-name.ensures.steps in
    let stepped = steps_within c.args.setting.tool c.in-Some.line (reverse c.loop-opens.opens.items) (state_of c.loop-opens.reading) c.in_ok-name.field-0 (reverse c.step.new.opens.items) (state_of c.step.new.reading) c.in_ok-name.ensures.steps (length c.loop-opens.reading.files) (omega (arith, rw c.in-Some.is at c.in_ok-line.ensures.mark, c.loop-opens.invariant.file, c.requires.open, c.loop-opens.invariant.more)) c.loop-opens.invariant.placed in
    let placed : IsPlaced c.open_included.new.reading =
    subst (λ (tokens : List Token). AreWithin (length c.open_included.new.reading.files) tokens) (sym c.in_ok-text.ensures.tokens)
    (within_more (length c.loop-opens.reading.files) (length c.open_included.new.reading.files) c.step.new.reading.tokens
    (omega (arith, ap (λ (files : List (List ℕ)). length files) same, c.in_ok-text.ensures.more)) stepped) in
    search rules

pub returns-in_err-line-clause-read : goal.returns-in_err-line-clause-read
returns-in_err-line-clause-read g t c = if_some (g.F.Folder.files c.args.folder.now) _ (λ files told.
    let p = err_from_is_err_and c.from_residual.result c.from_residual.ensures.1 in
    rw (p.1, p.2) (left_in_comment c.args.setting.tool files c.args.setting.paths.now c.args.levels c.args.source.file c.args.source.ahead (state_of c.args.reading.now)
    c.loop-opens.source.ahead (reverse c.loop-opens.opens.items) (state_of c.loop-opens.reading) (c.loop-opens.invariant.leads files told)
    (Option RawLine) c.in_err-line.field-0.0 (rw c.loop-opens.invariant.file at c.in_err-line.ensures.comment)))

pub returns-in_err-name-clause-read : goal.returns-in_err-name-clause-read
returns-in_err-name-clause-read g t c = if_some (g.F.Folder.files c.args.folder.now) _ (λ files told.
    let p = err_from_is_err_and c.from_residual-in_err-name.result c.from_residual-in_err-name.ensures.1 in
    rw (p.1, p.2) (left_in_line c.args.setting.tool files c.args.setting.paths.now c.args.levels c.args.source.file c.args.source.ahead (state_of c.args.reading.now)
    c.loop-opens.source.ahead (reverse c.loop-opens.opens.items) (state_of c.loop-opens.reading) (c.loop-opens.invariant.leads files told)
    c.in-Some.line c.next.new.self.ahead (rw c.loop-opens.invariant.file at (rw c.in-Some.is at c.in_ok-line.ensures.line)) (c.every_text_has_lines.ensures c.args.source.file c.next.new.self.ahead)
    c.in_err-name.field-0.0 _ _ c.in_err-name.ensures.steps))

pub returns-in_err-text-clause-read : goal.returns-in_err-text-clause-read
returns-in_err-text-clause-read g t c = if_some (g.F.Folder.files c.args.folder.now) _ (λ files told.
    let p = err_from_is_err_and c.from_residual-in_err-text.result c.from_residual-in_err-text.ensures.1 in
    rw (p.1, p.2) (left_in_opening c.args.setting.tool files c.args.setting.paths.now c.args.levels c.args.source.file c.args.source.ahead (state_of c.args.reading.now)
    c.loop-opens.source.ahead (reverse c.loop-opens.opens.items) (state_of c.loop-opens.reading) (c.loop-opens.invariant.leads files told)
    c.in-Some.line c.next.new.self.ahead (rw c.loop-opens.invariant.file at (rw c.in-Some.is at c.in_ok-line.ensures.line))
    c.in-Some-2.name _ _ (rw c.in-Some-2.is at c.in_ok-name.ensures.steps) (c.every_text_has_lines.ensures c.args.source.file c.next.new.self.ahead)
    c.in_err-text.field-0.0 _ (at_some _ files (c.loop-opens.invariant.reads.unchanged ∙ told) _ (rw c.as_slice.ensures at c.in_err-text.ensures.opened))))

pub returns-in_err-read_file-clause-read : goal.returns-in_err-read_file-clause-read
returns-in_err-read_file-clause-read g t c = if_some (g.F.Folder.files c.args.folder.now) _ (λ files told.
    let p = err_from_is_err_and c.from_residual-in_err-read_file.result c.from_residual-in_err-read_file.ensures.1 in
    rw (p.1, p.2) (left_inside c.args.setting.tool files c.args.setting.paths.now c.args.levels c.args.source.file c.args.source.ahead (state_of c.args.reading.now)
    c.loop-opens.source.ahead (reverse c.loop-opens.opens.items) (state_of c.loop-opens.reading) (c.loop-opens.invariant.leads files told)
    c.in-Some.line c.next.new.self.ahead (rw c.loop-opens.invariant.file at (rw c.in-Some.is at c.in_ok-line.ensures.line))
    c.in-Some-2.name _ _ (rw c.in-Some-2.is at c.in_ok-name.ensures.steps)
    c.in_ok-text.text _ (c.args.levels - 1) (omega (arith, c.in_ok-text.ensures.deep))
    (at_some _ files (c.loop-opens.invariant.reads.unchanged ∙ told) _ (rw c.as_slice.ensures at c.in_ok-text.ensures.opened)) (c.every_text_has_lines.ensures c.args.source.file c.next.new.self.ahead)
    c.in_err-read_file.field-0.0 _ (at_some _ files (c.in_ok-text.ensures.reads.unchanged ∙ c.loop-opens.invariant.reads.unchanged ∙ told) _ (rw (c.over-included.ensures, c.len-file.ensures) at c.in_err-read_file.ensures.read))))

pub loop-opens-preserved : goal.loop-opens-preserved
loop-opens-preserved g t c = record {
  leads = elim c.match-branch-4.branch [
    | in-Some-2+in_ok-text+in_ok-read_file w ↦ λ files told.
        rw w.reading-is (on_inside c.args.setting.tool files c.args.setting.paths.now c.args.levels c.args.source.file c.args.source.ahead (state_of c.args.reading.now)
        c.loop-opens.source.ahead (reverse c.loop-opens.opens.items) (state_of c.loop-opens.reading) (c.loop-opens.invariant.leads files told)
        c.in-Some.line c.next.new.self.ahead (rw c.loop-opens.invariant.file at (rw c.in-Some.is at c.in_ok-line.ensures.line))
        w.in-Some-2.name _ _ (rw w.in-Some-2.is at c.in_ok-name.ensures.steps)
        w.in_ok-text.text _ (c.args.levels - 1) (omega (arith, w.in_ok-text.ensures.deep))
        (at_some _ files (c.loop-opens.invariant.reads.unchanged ∙ told) _ (rw w.as_slice.ensures at w.in_ok-text.ensures.opened))
        _ (at_some _ files (w.in_ok-text.ensures.reads.unchanged ∙ c.loop-opens.invariant.reads.unchanged ∙ told) _ (rw (w.over-included.ensures, w.len-file.ensures) at w.in_ok-read_file.ensures.read)))
    | in_default-2 w ↦ λ files told.
        rw w.reading-is (on_behind c.args.setting.tool files c.args.setting.paths.now c.args.levels c.args.source.file c.args.source.ahead (state_of c.args.reading.now)
        c.loop-opens.source.ahead (reverse c.loop-opens.opens.items) (state_of c.loop-opens.reading) (c.loop-opens.invariant.leads files told)
        c.in-Some.line c.next.new.self.ahead (rw c.loop-opens.invariant.file at (rw c.in-Some.is at c.in_ok-line.ensures.line))
        _ _ (rw w.in_default-2.is at c.in_ok-name.ensures.steps))
  ];
  file = c.next.ensures.file ∙ c.loop-opens.invariant.file;
  lines = lines_go_on c.args.source.file c.args.source.ahead c.loop-opens.source.ahead c.in-Some.line c.next.new.self.ahead
      c.loop-opens.invariant.lines (rw c.loop-opens.invariant.file at (rw c.in-Some.is at c.in_ok-line.ensures.line));
  reads = elim c.match-branch-4.branch [
    | in-Some-2+in_ok-text+in_ok-read_file w ↦ rw w.folder-is (reads_on g.F.Folder _ _ _ _ _ _
        (reads_on g.F.Folder _ _ _ _ _ ⊥ c.loop-opens.invariant.reads w.in_ok-text.ensures.reads (λ never. absurd never))
        w.in_ok-read_file.ensures.reads (λ never. absurd never))
    | in_default-2 w ↦ rw w.folder-is c.loop-opens.invariant.reads
  ];
  placed = elim c.match-branch-4.branch [
    | in-Some-2+in_ok-text+in_ok-read_file w ↦ rw w.reading-is w.in_ok-read_file.ensures.placed
    | in_default-2 w ↦ rw w.reading-is (subst (λ (files : List (List ℕ)). AreWithin (length files) c.step.new.reading.tokens) (sym (steps_files c.args.setting.tool c.in-Some.line (reverse c.loop-opens.opens.items) (state_of c.loop-opens.reading) c.in_ok-name.field-0 (reverse c.step.new.opens.items) (state_of c.step.new.reading) c.in_ok-name.ensures.steps))
        (steps_within c.args.setting.tool c.in-Some.line (reverse c.loop-opens.opens.items) (state_of c.loop-opens.reading) c.in_ok-name.field-0 (reverse c.step.new.opens.items) (state_of c.step.new.reading) c.in_ok-name.ensures.steps (length c.loop-opens.reading.files) (omega (arith, rw c.in-Some.is at c.in_ok-line.ensures.mark, c.loop-opens.invariant.file, c.requires.open, c.loop-opens.invariant.more)) c.loop-opens.invariant.placed))
  ];
  lexed = λ before. elim c.match-branch-4.branch [
    | in-Some-2+in_ok-text+in_ok-read_file w ↦ rw w.reading-is (w.in_ok-read_file.ensures.lexed (w.in_ok-text.ensures.lexed
        (steps_lexed c.tokens_are_lexed.ensures c.args.setting.tool c.in-Some.line (reverse c.loop-opens.opens.items) (state_of c.loop-opens.reading) c.in_ok-name.field-0 (reverse c.step.new.opens.items) (state_of c.step.new.reading) c.in_ok-name.ensures.steps
        (c.loop-opens.invariant.lexed before))))
    | in_default-2 w ↦ rw w.reading-is
        (steps_lexed c.tokens_are_lexed.ensures c.args.setting.tool c.in-Some.line (reverse c.loop-opens.opens.items) (state_of c.loop-opens.reading) c.in_ok-name.field-0 (reverse c.step.new.opens.items) (state_of c.step.new.reading) c.in_ok-name.ensures.steps
        (c.loop-opens.invariant.lexed before))
  ];
  more = elim c.match-branch-4.branch [
    | in-Some-2+in_ok-text+in_ok-read_file w ↦ rw w.reading-is (omega (
      arith,
      w.in_ok-read_file.ensures.more,
      w.in_ok-text.ensures.more,
      ap (λ (files : List (List ℕ)). length files) (steps_files c.args.setting.tool c.in-Some.line (reverse c.loop-opens.opens.items) (state_of c.loop-opens.reading) c.in_ok-name.field-0 (reverse c.step.new.opens.items) (state_of c.step.new.reading) c.in_ok-name.ensures.steps),
      c.loop-opens.invariant.more,
    ))
    | in_default-2 w ↦ rw w.reading-is (omega (arith, ap (λ (files : List (List ℕ)). length files) (steps_files c.args.setting.tool c.in-Some.line (reverse c.loop-opens.opens.items) (state_of c.loop-opens.reading) c.in_ok-name.field-0 (reverse c.step.new.opens.items) (state_of c.step.new.reading) c.in_ok-name.ensures.steps), c.loop-opens.invariant.more))
  ];
  opened = elim c.match-branch-4.branch [
    | in-Some-2+in_ok-text+in_ok-read_file w ↦ rw w.reading-is (open_more (length c.loop-opens.reading.files) (length w.read_file.new.reading.files) (reverse c.step.new.opens.items)
        (omega (arith, w.in_ok-read_file.ensures.more, w.in_ok-text.ensures.more, ap (λ (files : List (List ℕ)). length files) (steps_files c.args.setting.tool c.in-Some.line (reverse c.loop-opens.opens.items) (state_of c.loop-opens.reading) c.in_ok-name.field-0 (reverse c.step.new.opens.items) (state_of c.step.new.reading) c.in_ok-name.ensures.steps)))
        (steps_open c.args.setting.tool c.in-Some.line (reverse c.loop-opens.opens.items) (state_of c.loop-opens.reading) c.in_ok-name.field-0 (reverse c.step.new.opens.items) (state_of c.step.new.reading) c.in_ok-name.ensures.steps (length c.loop-opens.reading.files) (omega (arith, rw c.in-Some.is at c.in_ok-line.ensures.mark, c.loop-opens.invariant.file, c.requires.open, c.loop-opens.invariant.more)) c.loop-opens.invariant.opened))
    | in_default-2 w ↦ rw w.reading-is (open_more (length c.loop-opens.reading.files) (length c.step.new.reading.files) (reverse c.step.new.opens.items)
        (omega (arith, ap (λ (files : List (List ℕ)). length files) (steps_files c.args.setting.tool c.in-Some.line (reverse c.loop-opens.opens.items) (state_of c.loop-opens.reading) c.in_ok-name.field-0 (reverse c.step.new.opens.items) (state_of c.step.new.reading) c.in_ok-name.ensures.steps)))
        (steps_open c.args.setting.tool c.in-Some.line (reverse c.loop-opens.opens.items) (state_of c.loop-opens.reading) c.in_ok-name.field-0 (reverse c.step.new.opens.items) (state_of c.step.new.reading) c.in_ok-name.ensures.steps (length c.loop-opens.reading.files) (omega (arith, rw c.in-Some.is at c.in_ok-line.ensures.mark, c.loop-opens.invariant.file, c.requires.open, c.loop-opens.invariant.more)) c.loop-opens.invariant.opened))
  ];
}

pub returns-clause-read : goal.returns-clause-read
returns-clause-read g t c = if_some (g.F.Folder.files c.args.folder.now) _ (λ files told.
    left_at_end c.args.setting.tool files c.args.setting.paths.now c.args.levels c.args.source.file c.args.source.ahead (state_of c.args.reading.now)
    c.loop-opens.source.ahead (reverse c.loop-opens.opens.items) (state_of c.loop-opens.reading) (c.loop-opens.invariant.leads files told)
    (rw c.loop-opens.invariant.file at (rw c.in_default.is at c.in_ok-line.ensures.end)) c.end.result (rw c.deref.ensures.value at c.end.ensures.end (state_of c.loop-opens.reading)))
