use Rattle.std.proofs.Common.{◌≡◌, List, Ok, Err, ap, map, refl, subst, sym}
use Rattle.std.proofs.lemmas.Option.{IfSome_then}
use Rattle.rz_core.specs.Answers.{Then}
use Rattle.rz_core.specs.Message.{IsNameable}
use Rattle.rz_core.specs.Stop.{seen, Meets}
use Rattle.rz_folder.proofs.Reading.{reads_nothing, reads_on}
use Rattle.rz_folder.proofs.Looking.{may_look_fewer}
use Rattle.rz_lex.specs.declared.token.Token.{Token}
use Rattle.rz_stmt_items.specs.Compile.{compile_of}
use Rattle.rz_stmt_lists.specs.Lists.{list_of}
use Rattle.rz_stmt.specs.Constants.{declare_of}
use Rattle.rz_stmt.specs.Grammar.{statement_of, Compiles, Data, Declares, Empty, IsPlacedStatement, IsShapedStatement, Lists, Parses, Statement}
use Rattle.rz_stmt.specs.Raw.{raw_of}
use Rattle.rz_tools_resource.specs.Asked.{ItemsAsk}
use Rattle.rz_tools_resource.specs.Raw.{resource_of}
use Rattle.rz_tools_resource.specs.Resource.{IsResource}
use Rattle.rz_tools_values.specs.Around.{around}
use Rattle.rz_tools_values.specs.Asked.{TextsAsk}
use Rattle.rz_tools_work.proofs.Calls.{halted_refuses, went_as}
use Rattle.rz_tools_work.proofs.Numbered.{still_lexed, still_within}
use Rattle.rz_tools_work.specs.Asked.{ListAsks}
use Rattle.rz_tools_work.specs.Held.{work_of}
use Rattle.rz_tools_work.specs.Lists.{list_after}
use Rattle.rz_tools_work.specs.Put.{list_with}
use Rattle.rz_tools_work.specs.ToolWords.{numbered}
use Rattle.rz_tools_work.specs.Work.{declared, with_list}
use Rattle.rz_tools.proofs.Complete.{over_files}
use Rattle.rz_tools.proofs.Resources.{put_of, put_one}
use Rattle.rz_tools.proofs.Stepping.{did, done_so, first_mark, halt_is, listed, numbered_span, stopped, within_at}
use Rattle.rz_tools.proofs.step.step.Goals as goal
use Rattle.rz_tools.specs.Asked.{ParsedAsk, StatementAsks}
use Rattle.rz_tools.specs.Step.{IsListBehind}

pub resource_of-made-requires : goal.resource_of-made-requires
resource_of-made-requires g c =
    let tool = c.args.setting.tool in
    let parsed = subst (λ (ts : List Token). Parses ts (Ok (statement_of c.in_ok-stmt.stmt)))
    (numbered_span tool c.args.statement c.number_tool_words-tokens.result c.len-end.result c.len-end.ensures c.number_tool_words-tokens.ensures) c.in_ok-stmt.ensures.parsed in
    may_look_fewer g.F.Folder c.args.paths.now (ParsedAsk tool (map (numbered tool) c.args.statement)) (TextsAsk (raw_of c.in-Raw.raw).texts) c.requires.may
    (λ own asks. (statement_of c.in_ok-stmt.stmt, parsed, subst (λ (s : Statement). StatementAsks s own) c.in-Raw.ensures asks))

pub list_step-ended-requires : goal.list_step-ended-requires
list_step-ended-requires g c =
    let tool = c.args.setting.tool in
    let parsed = subst (λ (ts : List Token). Parses ts (Ok (statement_of c.in_ok-stmt.stmt)))
    (numbered_span tool c.args.statement c.number_tool_words-tokens.result c.len-end.result c.len-end.ensures c.number_tool_words-tokens.ensures) c.in_ok-stmt.ensures.parsed in
    may_look_fewer g.F.Folder c.args.paths.now (ParsedAsk tool (map (numbered tool) c.args.statement)) (ListAsks (list_of c.in-List.stmt)) c.requires.may
    (λ own asks. (statement_of c.in_ok-stmt.stmt, parsed, subst (λ (s : Statement). StatementAsks s own) c.in-List.ensures asks))

pub resource_of_items-made-requires : goal.resource_of_items-made-requires
resource_of_items-made-requires g c =
    let tool = c.args.setting.tool in
    let parsed = subst (λ (ts : List Token). Parses ts (Ok (statement_of c.in_ok-stmt.stmt)))
    (numbered_span tool c.args.statement c.number_tool_words-tokens.result c.len-end.result c.len-end.ensures c.number_tool_words-tokens.ensures) c.in_ok-stmt.ensures.parsed in
    may_look_fewer g.F.Folder c.args.paths.now (ParsedAsk tool (map (numbered tool) c.args.statement)) (ItemsAsk (compile_of c.in-Compile.stmt).items) c.requires.may
    (λ own asks. (statement_of c.in_ok-stmt.stmt, parsed, subst (λ (s : Statement). StatementAsks s own) c.in-Compile.ensures asks))

pub returns-in-Empty-clause-stepped : goal.returns-in-Empty-clause-stepped
returns-in-Empty-clause-stepped g c =
    let tool = c.args.setting.tool in
    let tokens = c.number_tool_words-tokens.result in
    let are = c.number_tool_words-tokens.ensures in
    let parsed = subst (λ (ts : List Token). Parses ts (Ok (statement_of c.in_ok-stmt.stmt))) (numbered_span tool c.args.statement tokens c.len-end.result c.len-end.ensures are) c.in_ok-stmt.ensures.parsed in
    over_files (g.F.Folder.files c.args.folder.now) _ (λ files.
    did (around c.args.setting c.args.paths.now files) (work_of c.args.work.now) (map (numbered tool) c.args.statement) c.at.result.now.mark
    (first_mark tool c.args.statement tokens c.at.result.now are c.at.ensures) (statement_of c.in_ok-stmt.stmt) Empty parsed c.in-Empty.ensures
    (Ok tt) (work_of c.args.work.now) refl tt)

pub returns-in-Raw-clause-stepped : goal.returns-in-Raw-clause-stepped
returns-in-Raw-clause-stepped g c = IfSome_then (g.F.Folder.files c.args.folder.now) c.resource_of-made.ensures.resource (λ files so.
    let tool = c.args.setting.tool in
    let tokens = c.number_tool_words-tokens.result in
    let are = c.number_tool_words-tokens.ensures in
    let parsed = subst (λ (ts : List Token). Parses ts (Ok (statement_of c.in_ok-stmt.stmt))) (numbered_span tool c.args.statement tokens c.len-end.result c.len-end.ensures are) c.in_ok-stmt.ensures.parsed in
    let all = around c.args.setting c.args.paths.now files in
    let work = work_of c.args.work.now in
    let mark = c.at.result.now.mark in
    let one = resource_of all mark (raw_of c.in-Raw.raw) in
    listed all work (map (numbered tool) c.args.statement) mark (first_mark tool c.args.statement tokens c.at.result.now are c.at.ensures)
    (statement_of c.in_ok-stmt.stmt) (Data (raw_of c.in-Raw.raw)) parsed c.in-Raw.ensures
    (Then (λ made. made ≡ one) (λ resource answer. answer ≡ list_with mark c.args.setting.over work.list resource))
    (λ list is. ap (with_list work) (put_one mark c.args.setting.over work.list one list is)) c.put_made.result c.put_made.new.resources
    (put_of mark c.args.setting.over work.list (λ made. made ≡ one) c.resource_of-made.result c.put_made.result c.put_made.new.resources so c.put_made.ensures.put
    c.put_made.ensures.stopped))

pub returns-in-Raw-clause-nameable : goal.returns-in-Raw-clause-nameable
returns-in-Raw-clause-nameable g c files within =
    let tokens = c.number_tool_words-tokens.result in
    let place = within_at files tokens 0 c.at.result.now (still_within c.args.setting.tool files c.args.statement tokens c.number_tool_words-tokens.ensures within) c.at.ensures in
    c.put_made.ensures.nameable files place (c.resource_of-made.ensures.nameable files place)

pub returns-in-Raw-clause-reads : goal.returns-in-Raw-clause-reads
returns-in-Raw-clause-reads g c =
    reads_on g.F.Folder _ _ _ ⊥ _ _
    (reads_nothing g.F.Folder c.args.folder.now) c.resource_of-made.ensures.reads c.put_made.ensures.unread

pub returns-in-List-clause-stepped : goal.returns-in-List-clause-stepped
returns-in-List-clause-stepped g c = IfSome_then (g.F.Folder.files c.args.folder.now) c.list_step-ended.ensures.stepped (λ files so.
    let tool = c.args.setting.tool in
    let tokens = c.number_tool_words-tokens.result in
    let are = c.number_tool_words-tokens.ensures in
    let parsed = subst (λ (ts : List Token). Parses ts (Ok (statement_of c.in_ok-stmt.stmt))) (numbered_span tool c.args.statement tokens c.len-end.result c.len-end.ensures are) c.in_ok-stmt.ensures.parsed in
    let all = around c.args.setting c.args.paths.now files in
    let work = work_of c.args.work.now in
    let mark = c.at.result.now.mark in
    listed all work (map (numbered tool) c.args.statement) mark (first_mark tool c.args.statement tokens c.at.result.now are c.at.ensures)
    (statement_of c.in_ok-stmt.stmt) (Lists (list_of c.in-List.stmt)) parsed c.in-List.ensures
    (λ list. list ≡ list_after all mark work.list (list_of c.in-List.stmt)) (λ list is. ap (with_list work) is) c.list_step-ended.result c.list_step-ended.new.resources so)

pub returns-in-List-clause-nameable : goal.returns-in-List-clause-nameable
returns-in-List-clause-nameable g c files within =
    let tokens = c.number_tool_words-tokens.result in
    c.list_step-ended.ensures.nameable files
    (within_at files tokens 0 c.at.result.now (still_within c.args.setting.tool files c.args.statement tokens c.number_tool_words-tokens.ensures within) c.at.ensures)

pub returns-in-Compile-clause-stepped : goal.returns-in-Compile-clause-stepped
returns-in-Compile-clause-stepped g c = IfSome_then (g.F.Folder.files c.args.folder.now) c.resource_of_items-made.ensures.resource (λ files so.
    let tool = c.args.setting.tool in
    let tokens = c.number_tool_words-tokens.result in
    let are = c.number_tool_words-tokens.ensures in
    let parsed = subst (λ (ts : List Token). Parses ts (Ok (statement_of c.in_ok-stmt.stmt))) (numbered_span tool c.args.statement tokens c.len-end.result c.len-end.ensures are) c.in_ok-stmt.ensures.parsed in
    let all = around c.args.setting c.args.paths.now files in
    let work = work_of c.args.work.now in
    let mark = c.at.result.now.mark in
    let one = compile_of c.in-Compile.stmt in
    listed all work (map (numbered tool) c.args.statement) mark (first_mark tool c.args.statement tokens c.at.result.now are c.at.ensures)
    (statement_of c.in_ok-stmt.stmt) (Compiles one) parsed c.in-Compile.ensures
    (IsListBehind all mark work.types work.list one) (λ list is. (list, is, refl)) c.put_made-in-Compile.result c.put_made-in-Compile.new.resources
    (put_of mark c.args.setting.over work.list (IsResource all mark work.types one) c.resource_of_items-made.result
    c.put_made-in-Compile.result c.put_made-in-Compile.new.resources so c.put_made-in-Compile.ensures.put c.put_made-in-Compile.ensures.stopped))

pub returns-in-Compile-clause-nameable : goal.returns-in-Compile-clause-nameable
returns-in-Compile-clause-nameable g c files within =
    let tool = c.args.setting.tool in
    let tokens = c.number_tool_words-tokens.result in
    let all = still_within tool files c.args.statement tokens c.number_tool_words-tokens.ensures within in
    let place = within_at files tokens 0 c.at.result.now all c.at.ensures in
    c.put_made-in-Compile.ensures.nameable files place (c.resource_of_items-made.ensures.nameable files place
    (subst (IsPlacedStatement files) (sym c.in-Compile.ensures)
    (done_so (IsPlacedStatement files) tool (statement_of c.in_ok-stmt.stmt) tt (c.in_ok-stmt.ensures.placed files all))))

pub returns-in-Compile-clause-reads : goal.returns-in-Compile-clause-reads
returns-in-Compile-clause-reads g c =
    reads_on g.F.Folder _ _ _ ⊥ _ _
    (reads_nothing g.F.Folder c.args.folder.now) c.resource_of_items-made.ensures.reads c.put_made-in-Compile.ensures.unread

pub declare_type-requires : goal.declare_type-requires
declare_type-requires g c =
    let tool = c.args.setting.tool in
    record {
      shaped = subst IsShapedStatement (sym c.in-Declare.ensures)
          (done_so IsShapedStatement tool (statement_of c.in_ok-stmt.stmt) tt (c.in_ok-stmt.ensures.shaped
          (still_lexed tool c.args.statement c.number_tool_words-tokens.result c.number_tool_words-tokens.ensures c.requires.lexed)));
    }

pub returns-in_ok-declare_type-in-Declare-clause-stepped : goal.returns-in_ok-declare_type-in-Declare-clause-stepped
returns-in_ok-declare_type-in-Declare-clause-stepped g c =
    let tool = c.args.setting.tool in
    let tokens = c.number_tool_words-tokens.result in
    let are = c.number_tool_words-tokens.ensures in
    let parsed = subst (λ (ts : List Token). Parses ts (Ok (statement_of c.in_ok-stmt.stmt))) (numbered_span tool c.args.statement tokens c.len-end.result c.len-end.ensures are) c.in_ok-stmt.ensures.parsed in
    over_files (g.F.Folder.files c.args.folder.now) _ (λ files.
    did (around c.args.setting c.args.paths.now files) (work_of c.args.work.now) (map (numbered tool) c.args.statement) c.at.result.now.mark
    (first_mark tool c.args.statement tokens c.at.result.now are c.at.ensures) (statement_of c.in_ok-stmt.stmt) (Declares (declare_of c.in-Declare.stmt)) parsed c.in-Declare.ensures
    (Ok tt) (work_of c.declare_type.new.work) c.in_ok-declare_type-in-Declare.ensures.declared tt)

pub returns-in_ok-declare_type-in-Declare-clause-warned : goal.returns-in_ok-declare_type-in-Declare-clause-warned
returns-in_ok-declare_type-in-Declare-clause-warned g c files within are =
    let tokens = c.number_tool_words-tokens.result in
    c.in_ok-declare_type-in-Declare.ensures.warned files
    (within_at files tokens 0 c.at.result.now (still_within c.args.setting.tool files c.args.statement tokens c.number_tool_words-tokens.ensures within) c.at.ensures) are

pub returns-in_err-declare_type-in-Declare-clause-stepped : goal.returns-in_err-declare_type-in-Declare-clause-stepped
returns-in_err-declare_type-in-Declare-clause-stepped g c =
    let tool = c.args.setting.tool in
    let tokens = c.number_tool_words-tokens.result in
    let are = c.number_tool_words-tokens.ensures in
    let parsed = subst (λ (ts : List Token). Parses ts (Ok (statement_of c.in_ok-stmt.stmt))) (numbered_span tool c.args.statement tokens c.len-end.result c.len-end.ensures are) c.in_ok-stmt.ensures.parsed in
    let work = work_of c.args.work.now in
    let after = work_of c.declare_type.new.work in
    let stop = c.in_err-declare_type-in-Declare.field-0.0 in
    let result = c.from_residual-in_err-declare_type-in-Declare.result in
    let is = halt_is stop result c.from_residual-in_err-declare_type-in-Declare.ensures.1 in
    over_files (g.F.Folder.files c.args.folder.now) _ (λ files.
    did (around c.args.setting c.args.paths.now files) work (map (numbered tool) c.args.statement) c.at.result.now.mark
    (first_mark tool c.args.statement tokens c.at.result.now are c.at.ensures) (statement_of c.in_ok-stmt.stmt) (Declares (declare_of c.in-Declare.stmt)) parsed c.in-Declare.ensures
    result after
    (went_as (λ answer. answer ≡ declared c.args.setting c.at.result.now.mark work (declare_of c.in-Declare.stmt)) (Err stop) result after is c.in_err-declare_type-in-Declare.ensures.declared)
    (halted_refuses (Err stop) result (λ fault. after.warnings ≡ work.warnings) is c.in_err-declare_type-in-Declare.ensures.kept))

pub returns-in_err-declare_type-in-Declare-clause-nameable : goal.returns-in_err-declare_type-in-Declare-clause-nameable
returns-in_err-declare_type-in-Declare-clause-nameable g c files within =
    let tokens = c.number_tool_words-tokens.result in
    let stop = c.in_err-declare_type-in-Declare.field-0.0 in
    let result = c.from_residual-in_err-declare_type-in-Declare.result in
    halted_refuses (Err stop) result (IsNameable files) (halt_is stop result c.from_residual-in_err-declare_type-in-Declare.ensures.1) (c.in_err-declare_type-in-Declare.ensures.nameable files
    (within_at files tokens 0 c.at.result.now (still_within c.args.setting.tool files c.args.statement tokens c.number_tool_words-tokens.ensures within) c.at.ensures))

pub returns-in_err-declare_type-in-Declare-clause-warned : goal.returns-in_err-declare_type-in-Declare-clause-warned
returns-in_err-declare_type-in-Declare-clause-warned g c files within are =
    let tokens = c.number_tool_words-tokens.result in
    c.in_err-declare_type-in-Declare.ensures.warned files
    (within_at files tokens 0 c.at.result.now (still_within c.args.setting.tool files c.args.statement tokens c.number_tool_words-tokens.ensures within) c.at.ensures) are

pub returns-in_err-stmt-clause-stepped : goal.returns-in_err-stmt-clause-stepped
returns-in_err-stmt-clause-stepped g c =
    let tool = c.args.setting.tool in
    let stop = c.in_err-stmt.field-0.0 in
    let numbers = numbered_span tool c.args.statement c.number_tool_words-tokens.result c.len-end.result c.len-end.ensures c.number_tool_words-tokens.ensures in
    over_files (g.F.Folder.files c.args.folder.now) _ (λ files.
    stopped (around c.args.setting c.args.paths.now files) (work_of c.args.work.now) (map (numbered tool) c.args.statement) stop c.from_residual.result
    (subst (λ (ts : List Token). Meets (seen statement_of (Err stop)) (Parses ts)) numbers c.in_err-stmt.ensures.parsed) (halt_is stop c.from_residual.result c.from_residual.ensures.1))

pub returns-in_err-stmt-clause-nameable : goal.returns-in_err-stmt-clause-nameable
returns-in_err-stmt-clause-nameable g c files within =
    let stop = c.in_err-stmt.field-0.0 in
    halted_refuses (Err stop) c.from_residual.result (IsNameable files) (halt_is stop c.from_residual.result c.from_residual.ensures.1)
    (c.in_err-stmt.ensures.nameable files (still_within c.args.setting.tool files c.args.statement c.number_tool_words-tokens.result c.number_tool_words-tokens.ensures within))
