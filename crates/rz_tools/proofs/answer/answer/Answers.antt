use Rattle.std.proofs.Common.{inr, map, ap, refl, Err, ◌∙◌}
use Rattle.std.specs.String.{string_bytes}
use Rattle.rz_core.specs.declared.stop.Halt.TheVariants.{NoMemory as no_memory}
use Rattle.rz_tools_answer.specs.Answer.{Answer}
use Rattle.rz_tools_answer.specs.declared.outcome.Outcome.TheVariants.{Usage}
use Rattle.rz_tools_args.specs.Held.{asked, items_of}
use Rattle.rz_tools.proofs.Commands.{fileless_words, misused_answers, misused_reply, replies_none, words_reply}
use Rattle.rz_folder.proofs.Allowed.{may_read_fewer}
use Rattle.rz_tools.specs.Asked.{CommandAsks, WordsAsk}
use Rattle.rz_tools.proofs.answer.answer.Goals as goal

pub answer_command-requires-clause-may : goal.answer_command-requires-clause-may
answer_command-requires-clause-may g c =
    may_read_fewer g.F.Folder (WordsAsk (map string_bytes c.args.words.now)) c.requires (CommandAsks c.in-Ok.command.name (items_of c.in-Ok.command))
    (λ files told name is. (asked c.in-Ok.command, c.in-Ok.ensures.command, is))

pub answer_command-requires-clause-lexed : goal.answer_command-requires-clause-lexed
answer_command-requires-clause-lexed g c =
    c.definitions_are_lexed.ensures (map string_bytes c.args.words.now) (asked c.in-Ok.command) c.in-Ok.ensures.command

pub answer_command-requires-clause-places : goal.answer_command-requires-clause-places
answer_command-requires-clause-places g c = c.in-Ok.ensures.command.places

pub returns-in-Ok-clause-replies : goal.returns-in-Ok-clause-replies
returns-in-Ok-clause-replies g c =
    words_reply g.F.Folder (map string_bytes c.args.words.now) c.args.moment c.one_command.ensures.command (asked c.in-Ok.command) c.in-Ok.ensures.command
    c.answer_command.result c.answer_command.ensures.replies

pub returns-in-Ok-clause-fileless : goal.returns-in-Ok-clause-fileless
returns-in-Ok-clause-fileless g c none files =
    fileless_words (map string_bytes c.args.words.now) c.args.moment (asked c.in-Ok.command) c.in-Ok.ensures.command c.answer_command.result files
    (c.answer_command.ensures.fileless (none (asked c.in-Ok.command) c.in-Ok.ensures.command) files)

pub returns-in-Ok-clause-every_usage : goal.returns-in-Ok-clause-every_usage
returns-in-Ok-clause-every_usage g c position is = absurd (is.none (asked c.in-Ok.command) c.in-Ok.ensures.command)

pub returns-in_ok-misused-in-Err-Refused-clause-replies : goal.returns-in_ok-misused-in-Err-Refused-clause-replies
returns-in_ok-misused-in-Err-Refused-clause-replies g c =
    misused_reply g.F.Folder (map string_bytes c.args.words.now) c.args.moment c.in-Err-Refused.fault (rw c.in-Err-Refused.field-0-is at c.in-Err-Refused.ensures.misplaced)
    c.in_ok-misused-in-Err-Refused.field-0 (rw c.in-Err-Refused.fault-is at c.in_ok-misused-in-Err-Refused.ensures)

pub returns-in_ok-misused-in-Err-Refused-clause-fileless : goal.returns-in_ok-misused-in-Err-Refused-clause-fileless
returns-in_ok-misused-in-Err-Refused-clause-fileless g c none files =
    misused_answers (map string_bytes c.args.words.now) c.args.moment c.in-Err-Refused.fault (rw c.in-Err-Refused.field-0-is at c.in-Err-Refused.ensures.misplaced)
    c.in_ok-misused-in-Err-Refused.field-0 (rw c.in-Err-Refused.fault-is at c.in_ok-misused-in-Err-Refused.ensures) files

pub returns-in_ok-misused-in-Err-Refused-clause-every_usage : goal.returns-in_ok-misused-in-Err-Refused-clause-every_usage
returns-in_ok-misused-in-Err-Refused-clause-every_usage g c position is =
    inr (ap (λ (a : Answer). a.outcome) (rw c.in-Err-Refused.fault-is at c.in_ok-misused-in-Err-Refused.ensures) ∙ ap (λ n. Usage (record { position = n }))
    (c.one_command.ensures.position (map string_bytes c.args.words.now) c.in-Err-Refused.fault.position position (rw c.in-Err-Refused.field-0-is at c.in-Err-Refused.ensures.misplaced) is))

pub returns-in_err-misused-in-Err-Refused-clause-replies : goal.returns-in_err-misused-in-Err-Refused-clause-replies
returns-in_err-misused-in-Err-Refused-clause-replies g c = replies_none g.F.Folder c.from_residual.result c.from_residual.ensures.1

pub returns-in-Err-NoMemory-clause-replies : goal.returns-in-Err-NoMemory-clause-replies
returns-in-Err-NoMemory-clause-replies g c = replies_none g.F.Folder (Err no_memory) refl
