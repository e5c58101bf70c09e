use Rattle.std.proofs.Common.{◌≡◌, ℕ, List, [], arith, sym, ap, subst, ◌∙◌, refl}
use Rattle.std.specs.Prelude.{IfOk}
use Rattle.rz_folder.proofs.Allowed.{may_read_these}
use Rattle.rz_folder.specs.MayRead.{MayRead, MayReadOf}
use Rattle.rz_pre.specs.Lexed.{HaveLexedTexts}
use Rattle.rz_tools_answer.proofs.Planning.{plans_made}
use Rattle.rz_tools_answer.specs.Answer.{shown, written}
use Rattle.rz_tools_answer.specs.Help.{help_text, version_text}
use Rattle.rz_tools_args.specs.Command.{places_of}
use Rattle.rz_tools_args.specs.Held.{items_of}
use Rattle.rz_tools_args.specs.declared.name.CommandName.{CommandName}
use Rattle.rz_tools_args.specs.declared.name.CommandName.TheVariants as names
use Rattle.rz_tools_output.specs.Bridge.{bridge_asked, AnswersBridge, BridgeAsks, BridgeAsked}
use Rattle.rz_tools_output.specs.Det.{det_asked, AnswersDet, DetAsked}
use Rattle.rz_tools_output.specs.List.{AnswersList}
use Rattle.rz_tools.proofs.Commands.{named, planned_as, plans_shown, replies_none, sampled_answers, sampled_replies, text_replies}
use Rattle.rz_tools.specs.Asked.{CommandAsks, DeRezAsks, RestringAsks, RezAsks, StringsAsk}
use Rattle.rz_tools.specs.DeRez.{AnswersDeRez, DeRezAsked}
use Rattle.rz_tools.specs.Held.{restring, rez, strings}
use Rattle.rz_tools.specs.Program.{AnswersItems, IsFileless}
use Rattle.rz_tools.specs.Reply.{EachAnswer}
use Rattle.rz_tools.specs.Restring.{AnswersRestring, RestringAsked, Restrings}
use Rattle.rz_tools.specs.Rez.{AnswersRez, Compiles, RezAsked}
use Rattle.rz_tools.specs.Shown.{ShowsFile}
use Rattle.rz_tools.specs.Strings.{AnswersStrings, Lists, StringsAsked}
use Rattle.rz_tools.proofs.answer.answer_command.Goals as goal

pub compile-made-requires-clause-may : goal.compile-made-requires-clause-may
compile-made-requires-clause-may g c =
    subst (λ (a : RezAsked). MayReadOf g.F.Folder c.args.folder.now (RezAsks a)) (sym c.in_ok-words-in-Rez.ensures)
    (subst (λ (name : CommandName). MayReadOf g.F.Folder c.args.folder.now (CommandAsks name (items_of c.args.command))) c.in-Rez.is c.requires.may)

pub answer_derez-requires-clause-may : goal.answer_derez-requires-clause-may
answer_derez-requires-clause-may g c =
    subst (λ (a : DeRezAsked). MayReadOf g.F.Folder c.args.folder.now (DeRezAsks a)) (sym c.in_ok-of-in-DeRez.ensures)
    (subst (λ (name : CommandName). MayReadOf g.F.Folder c.args.folder.now (CommandAsks name (items_of c.args.command))) c.in-DeRez.is c.requires.may)

pub list_strings-made-requires-clause-may : goal.list_strings-made-requires-clause-may
list_strings-made-requires-clause-may g c =
    subst (λ (a : StringsAsked). MayReadOf g.F.Folder c.args.folder.now (StringsAsk a)) (sym c.in_ok-words-in-Strings.ensures)
    (subst (λ (name : CommandName). MayReadOf g.F.Folder c.args.folder.now (CommandAsks name (items_of c.args.command))) c.in-Strings.is c.requires.may)

pub restring_fork-made-requires-clause-may : goal.restring_fork-made-requires-clause-may
restring_fork-made-requires-clause-may g c =
    subst (λ (a : RestringAsked). MayReadOf g.F.Folder c.args.folder.now (RestringAsks a)) (sym c.in_ok-words-in-Restring.ensures)
    (subst (λ (name : CommandName). MayReadOf g.F.Folder c.args.folder.now (CommandAsks name (items_of c.args.command))) c.in-Restring.is c.requires.may)

pub plan_bridge-requires : goal.plan_bridge-requires
plan_bridge-requires g c =
    subst (λ (a : BridgeAsked). MayRead g.F.Folder c.args.folder.now (BridgeAsks a)) (sym c.in_ok-of-in-Bridge.ensures)
    (may_read_these g.F.Folder (CommandAsks names.Bridge (items_of c.args.command))
    (subst (λ (name : CommandName). MayReadOf g.F.Folder c.args.folder.now (CommandAsks name (items_of c.args.command))) c.in-Bridge.is c.requires.may)
    (BridgeAsks (bridge_asked (items_of c.args.command))) (λ files told name is. is))

pub plan_det-requires : goal.plan_det-requires
plan_det-requires g c =
    subst (λ (a : DetAsked). g.F.Folder.may_read c.args.folder.now a.file) (sym c.in_ok-of-in-Det.ensures)
    (may_read_these g.F.Folder (CommandAsks names.Det (items_of c.args.command))
    (subst (λ (name : CommandName). MayReadOf g.F.Folder c.args.folder.now (CommandAsks name (items_of c.args.command))) c.in-Det.is c.requires.may)
    (λ name. name ≡ (det_asked (items_of c.args.command)).file) (λ files told name is. is) (det_asked (items_of c.args.command)).file refl)

pub answer_list-requires : goal.answer_list-requires
answer_list-requires g c =
    subst (λ (a : DetAsked). g.F.Folder.may_read c.args.folder.now a.file) (sym c.in_ok-of-in-List.ensures)
    (may_read_these g.F.Folder (CommandAsks names.List (items_of c.args.command))
    (subst (λ (name : CommandName). MayReadOf g.F.Folder c.args.folder.now (CommandAsks name (items_of c.args.command))) c.in-List.is c.requires.may)
    (λ name. name ≡ (det_asked (items_of c.args.command)).file) (λ files told name is. is) (det_asked (items_of c.args.command)).file refl)

pub compile-made-requires-clause-lexed : goal.compile-made-requires-clause-lexed
compile-made-requires-clause-lexed g c = subst HaveLexedTexts (sym (ap (λ (a : RezAsked). a.defs) c.in_ok-words-in-Rez.ensures)) c.requires.lexed

pub answer_derez-requires-clause-lexed : goal.answer_derez-requires-clause-lexed
answer_derez-requires-clause-lexed g c = subst HaveLexedTexts (sym (ap (λ (a : DeRezAsked). a.types.defs) c.in_ok-of-in-DeRez.ensures)) c.requires.lexed

pub list_strings-made-requires-clause-lexed : goal.list_strings-made-requires-clause-lexed
list_strings-made-requires-clause-lexed g c = subst HaveLexedTexts (sym (ap (λ (a : StringsAsked). a.types.defs) c.in_ok-words-in-Strings.ensures)) c.requires.lexed

pub restring_fork-made-requires-clause-lexed : goal.restring_fork-made-requires-clause-lexed
restring_fork-made-requires-clause-lexed g c = subst HaveLexedTexts (sym (ap (λ (a : RestringAsked). a.types.defs) c.in_ok-words-in-Restring.ensures)) c.requires.lexed

-- Commands that read files.

pub returns-in_ok-words-in-Rez-clause-replies : goal.returns-in_ok-words-in-Rez-clause-replies
returns-in_ok-words-in-Rez-clause-replies g c =
    planned_as g.F.Folder c.args.command.name names.Rez (items_of c.args.command) c.args.moment c.in-Rez.is c.to_write-plan.result c.planned.result c.planned.ensures
    (plans_made g.F.Folder (written (rez c.in_ok-words-in-Rez.words).target.name) (Compiles c.args.moment (rez c.in_ok-words-in-Rez.words)) c.compile-made.result c.compile-made.ensures c.to_write-plan.ensures)
    (λ files answer is. (subst (λ (a : RezAsked). AnswersRez a files c.args.moment answer) c.in_ok-words-in-Rez.ensures is, tt))

pub returns-in_ok-of-in-DeRez-clause-replies : goal.returns-in_ok-of-in-DeRez-clause-replies
returns-in_ok-of-in-DeRez-clause-replies g c =
    named g.F.Folder c.args.command.name names.DeRez (items_of c.args.command) c.args.moment c.in-DeRez.is c.answer_derez.result c.answer_derez.ensures
    (λ files answer is. subst (λ (a : DeRezAsked). AnswersDeRez a files c.args.moment answer × ShowsFile a.file a.from files answer) c.in_ok-of-in-DeRez.ensures is)

pub returns-in_ok-of-in-Bridge-clause-replies : goal.returns-in_ok-of-in-Bridge-clause-replies
returns-in_ok-of-in-Bridge-clause-replies g c =
    planned_as g.F.Folder c.args.command.name names.Bridge (items_of c.args.command) c.args.moment c.in-Bridge.is c.plan_bridge.result c.planned-in-Bridge.result c.planned-in-Bridge.ensures
    c.plan_bridge.ensures (λ files answer is. (subst (λ (a : BridgeAsked). AnswersBridge a files answer) c.in_ok-of-in-Bridge.ensures is, tt))

pub returns-in_ok-of-in-Det-clause-replies : goal.returns-in_ok-of-in-Det-clause-replies
returns-in_ok-of-in-Det-clause-replies g c =
    planned_as g.F.Folder c.args.command.name names.Det (items_of c.args.command) c.args.moment c.in-Det.is c.plan_det.result c.planned-in-Det.result c.planned-in-Det.ensures
    c.plan_det.ensures (λ files answer is. (subst (λ (a : DetAsked). AnswersDet a files answer) c.in_ok-of-in-Det.ensures is, tt))

pub returns-in_ok-of-in-List-clause-replies : goal.returns-in_ok-of-in-List-clause-replies
returns-in_ok-of-in-List-clause-replies g c =
    named g.F.Folder c.args.command.name names.List (items_of c.args.command) c.args.moment c.in-List.is c.answer_list.result c.answer_list.ensures
    (λ files answer is. (subst (λ (a : DetAsked). AnswersList a files answer) c.in_ok-of-in-List.ensures is, tt))

pub returns-in_ok-words-in-Strings-clause-replies : goal.returns-in_ok-words-in-Strings-clause-replies
returns-in_ok-words-in-Strings-clause-replies g c =
    let asked = strings c.in_ok-words-in-Strings.words in
    planned_as g.F.Folder c.args.command.name names.Strings (items_of c.args.command) c.args.moment c.in-Strings.is c.to_show.result c.planned-in-Strings.result c.planned-in-Strings.ensures
    (plans_shown (Lists c.args.moment asked) asked.from asked.file g.F.Folder c.list_strings-made.result c.to_show.result c.list_strings-made.ensures c.to_show.ensures)
    (λ files answer is. subst (λ (a : StringsAsked). AnswersStrings a files c.args.moment answer × ShowsFile a.file a.from files answer) c.in_ok-words-in-Strings.ensures is)

pub returns-in_ok-words-in-Restring-clause-replies : goal.returns-in_ok-words-in-Restring-clause-replies
returns-in_ok-words-in-Restring-clause-replies g c =
    let asked = restring c.in_ok-words-in-Restring.words in
    planned_as g.F.Folder c.args.command.name names.Restring (items_of c.args.command) c.args.moment c.in-Restring.is
    c.to_write-plan-in-Restring.result c.planned-in-Restring.result c.planned-in-Restring.ensures
    (plans_made g.F.Folder (written asked.output) (Restrings c.args.moment asked) c.restring_fork-made.result c.restring_fork-made.ensures c.to_write-plan-in-Restring.ensures)
    (λ files answer is. (subst (λ (a : RestringAsked). AnswersRestring a files c.args.moment answer) c.in_ok-words-in-Restring.ensures is, tt))

pub returns-in_ok-words-in-Rez-clause-fileless : goal.returns-in_ok-words-in-Rez-clause-fileless
returns-in_ok-words-in-Rez-clause-fileless g c is = absurd (subst IsFileless c.in-Rez.is is)

pub returns-in_ok-of-in-DeRez-clause-fileless : goal.returns-in_ok-of-in-DeRez-clause-fileless
returns-in_ok-of-in-DeRez-clause-fileless g c is = absurd (subst IsFileless c.in-DeRez.is is)

pub returns-in_ok-of-in-Bridge-clause-fileless : goal.returns-in_ok-of-in-Bridge-clause-fileless
returns-in_ok-of-in-Bridge-clause-fileless g c is = absurd (subst IsFileless c.in-Bridge.is is)

pub returns-in_ok-of-in-Det-clause-fileless : goal.returns-in_ok-of-in-Det-clause-fileless
returns-in_ok-of-in-Det-clause-fileless g c is = absurd (subst IsFileless c.in-Det.is is)

pub returns-in_ok-of-in-List-clause-fileless : goal.returns-in_ok-of-in-List-clause-fileless
returns-in_ok-of-in-List-clause-fileless g c is = absurd (subst IsFileless c.in-List.is is)

pub returns-in_ok-words-in-Strings-clause-fileless : goal.returns-in_ok-words-in-Strings-clause-fileless
returns-in_ok-words-in-Strings-clause-fileless g c is = absurd (subst IsFileless c.in-Strings.is is)

pub returns-in_ok-words-in-Restring-clause-fileless : goal.returns-in_ok-words-in-Restring-clause-fileless
returns-in_ok-words-in-Restring-clause-fileless g c is = absurd (subst IsFileless c.in-Restring.is is)

-- What the plan of a command asks of what it made.

pub to_write-plan-requires-clause-good : goal.to_write-plan-requires-clause-good
to_write-plan-requires-clause-good g c = c.compile-made.ensures.good

pub to_write-plan-requires-clause-bad : goal.to_write-plan-requires-clause-bad
to_write-plan-requires-clause-bad g c = c.compile-made.ensures.bad

pub to_show-requires-clause-good : goal.to_show-requires-clause-good
to_show-requires-clause-good g c = c.list_strings-made.ensures.good

pub to_show-requires-clause-bad : goal.to_show-requires-clause-bad
to_show-requires-clause-bad g c = c.list_strings-made.ensures.bad

pub to_write-plan-requires-in-Restring-clause-good : goal.to_write-plan-requires-in-Restring-clause-good
to_write-plan-requires-in-Restring-clause-good g c = c.restring_fork-made.ensures.good

pub to_write-plan-requires-in-Restring-clause-bad : goal.to_write-plan-requires-in-Restring-clause-bad
to_write-plan-requires-in-Restring-clause-bad g c = c.restring_fork-made.ensures.bad

pub to_show-requires-in-Sample-clause-good : goal.to_show-requires-in-Sample-clause-good
to_show-requires-in-Sample-clause-good g c = c.sampled.ensures.good

pub to_show-requires-in-Sample-clause-bad : goal.to_show-requires-in-Sample-clause-bad
to_show-requires-in-Sample-clause-bad g c = c.sampled.ensures.bad

-- A sample.

pub returns-in-Sample-clause-replies : goal.returns-in-Sample-clause-replies
returns-in-Sample-clause-replies g c =
    sampled_replies g.F.Folder c.args.command.name (items_of c.args.command) c.args.moment c.in-Sample.is c.number-count.result (omega arith) c.number-count.ensures
    c.sampled.result c.sampled.ensures.lines c.sampled.ensures.unread c.to_show-in-Sample.result c.to_show-in-Sample.ensures
    c.planned-in-Sample.result c.planned-in-Sample.ensures

pub returns-in-Sample-clause-fileless : goal.returns-in-Sample-clause-fileless
returns-in-Sample-clause-fileless g c is files =
    subst (λ (n : CommandName). IfOk c.planned-in-Sample.result (λ reply. EachAnswer reply (AnswersItems n (items_of c.args.command) files c.args.moment))) (sym c.in-Sample.is)
    (sampled_answers c.number-count.result c.args.moment (omega arith) (places_of (items_of c.args.command)) c.number-count.ensures
    c.sampled.result c.sampled.ensures.lines c.to_show-in-Sample.result c.to_show-in-Sample.ensures.answered c.planned-in-Sample.result c.planned-in-Sample.ensures)

-- Texts that are there.

pub returns-in_ok-text-in-Help-clause-replies : goal.returns-in_ok-text-in-Help-clause-replies
returns-in_ok-text-in-Help-clause-replies g c =
    text_replies g.F.Folder c.args.command.name (items_of c.args.command) c.args.moment names.Help c.in-Help.is c.in_ok-text-in-Help.field-0 help_text
    (c.in_ok-text-in-Help.ensures ∙ ap (λ (text : List ℕ). shown (record { bytes = text; said = [] })) (c.as_slice-in-Help.ensures ∙ c.in_ok-help_text-in-Help.ensures))
    (λ files answer is. (is, tt))

pub returns-in_ok-text-in-Version-clause-replies : goal.returns-in_ok-text-in-Version-clause-replies
returns-in_ok-text-in-Version-clause-replies g c =
    text_replies g.F.Folder c.args.command.name (items_of c.args.command) c.args.moment names.Version c.in-Version.is c.in_ok-text-in-Version.field-0 version_text
    (c.in_ok-text-in-Version.ensures ∙ ap (λ (text : List ℕ). shown (record { bytes = text; said = [] })) c.version_text.ensures) (λ files answer is. (is, tt))

pub returns-in_ok-text-in-Help-clause-fileless : goal.returns-in_ok-text-in-Help-clause-fileless
returns-in_ok-text-in-Help-clause-fileless g c is files answer same =
    subst (λ (n : CommandName). AnswersItems n (items_of c.args.command) files c.args.moment answer) (sym c.in-Help.is)
    (same ∙ c.in_ok-text-in-Help.ensures ∙ ap (λ (text : List ℕ). shown (record { bytes = text; said = [] })) (c.as_slice-in-Help.ensures ∙ c.in_ok-help_text-in-Help.ensures))

pub returns-in_ok-text-in-Version-clause-fileless : goal.returns-in_ok-text-in-Version-clause-fileless
returns-in_ok-text-in-Version-clause-fileless g c is files answer same =
    subst (λ (n : CommandName). AnswersItems n (items_of c.args.command) files c.args.moment answer) (sym c.in-Version.is)
    (same ∙ c.in_ok-text-in-Version.ensures ∙ ap (λ (text : List ℕ). shown (record { bytes = text; said = [] })) c.version_text.ensures)

-- Memory was refused.

pub returns-in_err-words-in-Rez-clause-replies : goal.returns-in_err-words-in-Rez-clause-replies
returns-in_err-words-in-Rez-clause-replies g c = replies_none g.F.Folder c.from_residual.result c.from_residual.ensures.1

pub returns-in_err-of-in-DeRez-clause-replies : goal.returns-in_err-of-in-DeRez-clause-replies
returns-in_err-of-in-DeRez-clause-replies g c = replies_none g.F.Folder c.from_residual-in_err-of-in-DeRez.result c.from_residual-in_err-of-in-DeRez.ensures.1

pub returns-in_err-of-in-Bridge-clause-replies : goal.returns-in_err-of-in-Bridge-clause-replies
returns-in_err-of-in-Bridge-clause-replies g c = replies_none g.F.Folder c.from_residual-in_err-of-in-Bridge.result c.from_residual-in_err-of-in-Bridge.ensures.1

pub returns-in_err-of-in-Det-clause-replies : goal.returns-in_err-of-in-Det-clause-replies
returns-in_err-of-in-Det-clause-replies g c = replies_none g.F.Folder c.from_residual-in_err-of-in-Det.result c.from_residual-in_err-of-in-Det.ensures.1

pub returns-in_err-of-in-List-clause-replies : goal.returns-in_err-of-in-List-clause-replies
returns-in_err-of-in-List-clause-replies g c = replies_none g.F.Folder c.from_residual-in_err-of-in-List.result c.from_residual-in_err-of-in-List.ensures.1

pub returns-in_err-words-in-Strings-clause-replies : goal.returns-in_err-words-in-Strings-clause-replies
returns-in_err-words-in-Strings-clause-replies g c = replies_none g.F.Folder c.from_residual-in_err-words-in-Strings.result c.from_residual-in_err-words-in-Strings.ensures.1

pub returns-in_err-words-in-Restring-clause-replies : goal.returns-in_err-words-in-Restring-clause-replies
returns-in_err-words-in-Restring-clause-replies g c = replies_none g.F.Folder c.from_residual-in_err-words-in-Restring.result c.from_residual-in_err-words-in-Restring.ensures.1

pub returns-in_err-help_text-in-Help-clause-replies : goal.returns-in_err-help_text-in-Help-clause-replies
returns-in_err-help_text-in-Help-clause-replies g c = replies_none g.F.Folder c.from_residual-in_err-help_text-in-Help.result c.from_residual-in_err-help_text-in-Help.ensures.1

pub returns-in_err-text-in-Help-clause-replies : goal.returns-in_err-text-in-Help-clause-replies
returns-in_err-text-in-Help-clause-replies g c = replies_none g.F.Folder c.from_residual-in_err-text-in-Help.result c.from_residual-in_err-text-in-Help.ensures.1

pub returns-in_err-text-in-Version-clause-replies : goal.returns-in_err-text-in-Version-clause-replies
returns-in_err-text-in-Version-clause-replies g c = replies_none g.F.Folder c.from_residual-in_err-text-in-Version.result c.from_residual-in_err-text-in-Version.ensures.1
