use Rattle.std.proofs.Common.{List, subst, map}
use Rattle.std.proofs.lemmas.Result.{err_from_is_err_and}
use Rattle.std.specs.declared.option.Option.{Option}
use Rattle.rz_folder.proofs.Reading.{reads_on}
use Rattle.rz_lex.specs.Lexeme.{AreLexed}
use Rattle.rz_lex.specs.Within.{AreWithin}
use Rattle.rz_lex.specs.declared.token.Token.{Token}
use Rattle.rz_stmt.specs.Next.{BeginsWith}
use Rattle.rz_tools_work.specs.Held.{work_of}
use Rattle.rz_tools.proofs.Stepping.{leads_on, leads_to_stop, lexed_parts, within_parts}
use Rattle.rz_folder.proofs.Allowed.{may_read_after}
use Rattle.rz_folder.specs.Names.{LooksFor}
use Rattle.rz_folder.proofs.Looking.{may_look_fewer}
use Rattle.rz_tools_work.specs.ToolWords.{numbered}
use Rattle.rz_tools.specs.Asked.{AnyAsks, ParsedAsk}
use Rattle.rz_tools.proofs.Asking.{any_here, any_later}
use Rattle.rz_tools.proofs.step.compile_statements.Goals as goal

pub step-requires-clause-may : goal.step-requires-clause-may
step-requires-clause-may g c =
    may_look_fewer g.F.Folder c.args.paths.now (AnyAsks c.args.setting.tool c.args.tokens) (ParsedAsk c.args.setting.tool (map (numbered c.args.setting.tool) c.in-Some.statement))
    (may_read_after g.F.Folder c.loop-reader.invariant.reads (LooksFor c.args.paths.now (AnyAsks c.args.setting.tool c.args.tokens)) c.requires.may)
    (λ own asks. c.loop-reader.invariant.asks own
    (any_here c.all_tokens_are_statements.ensures c.args.setting.tool c.loop-reader.reader c.next_statement.new.reader c.in-Some.statement
    (λ statements are. subst (λ (o : Option (List Token)). BeginsWith o statements c.next_statement.new.reader) c.in-Some.is (c.in_ok-statement.ensures.first statements are)) own asks))

pub step-requires-clause-lexed : goal.step-requires-clause-lexed
step-requires-clause-lexed g c =
    let front = rw c.in-Some.is at c.in_ok-statement.ensures.front in
    (lexed_parts c.in-Some.statement c.next_statement.new.reader (subst AreLexed front.0 c.loop-reader.invariant.lexed)).0

pub loop-reader-preserved : goal.loop-reader-preserved
loop-reader-preserved g c =
    let front = rw c.in-Some.is at c.in_ok-statement.ensures.front in
    record {
      leads = leads_on c.args.setting c.args.paths.now (work_of c.args.work.now) c.args.tokens c.loop-reader.reader c.next_statement.new.reader c.in-Some.statement (work_of c.loop-reader.work)
          (λ statements are. subst (λ (o : Option (List Token)). BeginsWith o statements c.next_statement.new.reader) c.in-Some.is (c.in_ok-statement.ensures.first statements are))
          (g.F.Folder.files c.args.folder.now) (g.F.Folder.files c.loop-reader.folder) c.loop-reader.invariant.reads.unchanged c.loop-reader.invariant.leads
          (work_of c.step.new.work) c.in_ok-step.ensures.stepped;
      reads = reads_on g.F.Folder _ _ _ _ _ ⊥ c.loop-reader.invariant.reads c.in_ok-step.ensures.reads (λ never. absurd never);
      asks = λ own asks. c.loop-reader.invariant.asks own
          (any_later c.all_tokens_are_statements.ensures c.one_cutting.ensures c.args.setting.tool c.loop-reader.reader c.next_statement.new.reader c.in-Some.statement
          (λ statements are. subst (λ (o : Option (List Token)). BeginsWith o statements c.next_statement.new.reader) c.in-Some.is (c.in_ok-statement.ensures.first statements are)) own asks);
      lexed = (lexed_parts c.in-Some.statement c.next_statement.new.reader (subst AreLexed front.0 c.loop-reader.invariant.lexed)).1;
      within = λ files within. (within_parts files c.in-Some.statement c.next_statement.new.reader (subst (AreWithin files) front.0 (c.loop-reader.invariant.within files within))).1;
      warned = λ files within are.
          c.in_ok-step.ensures.warned files (within_parts files c.in-Some.statement c.next_statement.new.reader (subst (AreWithin files) front.0 (c.loop-reader.invariant.within files within))).0
          (c.loop-reader.invariant.warned files within are);
    }

pub returns-in_err-step-clause-work : goal.returns-in_err-step-clause-work
returns-in_err-step-clause-work g c =
    let p = err_from_is_err_and c.from_residual-in_err-step.result c.from_residual-in_err-step.ensures.1 in
    rw (p.1, p.2) (leads_to_stop c.args.setting c.args.paths.now (work_of c.args.work.now) c.args.tokens c.loop-reader.reader c.next_statement.new.reader c.in-Some.statement (work_of c.loop-reader.work)
    (λ statements are. subst (λ (o : Option (List Token)). BeginsWith o statements c.next_statement.new.reader) c.in-Some.is (c.in_ok-statement.ensures.first statements are))
    (g.F.Folder.files c.args.folder.now) (g.F.Folder.files c.loop-reader.folder) c.loop-reader.invariant.reads.unchanged c.loop-reader.invariant.leads
    c.in_err-step.field-0.0 (work_of c.step.new.work) c.in_err-step.ensures.stepped)

pub returns-in_err-step-clause-nameable : goal.returns-in_err-step-clause-nameable
returns-in_err-step-clause-nameable g c files within =
    let front = rw c.in-Some.is at c.in_ok-statement.ensures.front in
    let p = err_from_is_err_and c.from_residual-in_err-step.result c.from_residual-in_err-step.ensures.1 in
    rw (p.1, p.2) (c.in_err-step.ensures.nameable files
    (within_parts files c.in-Some.statement c.next_statement.new.reader (subst (AreWithin files) front.0 (c.loop-reader.invariant.within files within))).0)

pub returns-in_err-step-clause-warned : goal.returns-in_err-step-clause-warned
returns-in_err-step-clause-warned g c files within are =
    let front = rw c.in-Some.is at c.in_ok-statement.ensures.front in
    c.in_err-step.ensures.warned files
    (within_parts files c.in-Some.statement c.next_statement.new.reader (subst (AreWithin files) front.0 (c.loop-reader.invariant.within files within))).0
    (c.loop-reader.invariant.warned files within are)
