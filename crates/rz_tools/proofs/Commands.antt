-- The reply of a command, and that of words, from what their calls gave.
use Rattle.std.proofs.Common.{◌≡◌, ◌<◌, ◌^◌, ℕ, List, [], ◌∷◌, Option, Some, None, Ok, Err, refl, sym, ap, subst, ◌∙◌}
use Rattle.std.specs.Prelude.{IfOk, IfSome, IsErrAnd}
use Rattle.std.specs.declared.result.Result.{Result}
use Rattle.rz_bridge_files.specs.declared.form.Form.{Form}
use Rattle.rz_core.specs.Decimal.{decimal_of}
use Rattle.rz_core.specs.Stop.{seen, IsReadFault, Yields}
use Rattle.rz_core.specs.declared.moment.Moment.{Moment}
use Rattle.rz_core.specs.declared.stop.Halt.{Halt}
use Rattle.rz_core.specs.declared.stop.Halt.TheVariants as halts
use Rattle.rz_folder.proofs.Reading.{reads_as, reads_nothing}
use Rattle.rz_folder.specs.Finds.{Finds}
use Rattle.rz_folder.specs.Folder.{Files}
use Rattle.rz_folder.specs.declared.folder.Folder.{Ghosts}
use Rattle.rz_tools_answer.proofs.Planning.{seen_failed}
use Rattle.rz_tools_answer.proofs.Warnings.{no_lines}
use Rattle.rz_tools_answer.specs.Answer.{misused, shown, Answer, Answered, Making}
use Rattle.rz_tools_answer.specs.Made.{making_of, IsSayable}
use Rattle.rz_tools_answer.specs.Plan.{answer_of, IsNoUsage}
use Rattle.rz_tools_answer.specs.Plans.{Concludes, EndsAs, Plans}
use Rattle.rz_tools_answer.specs.WellFormed.{AreWritable, IsWellFormed}
use Rattle.rz_tools_answer.specs.declared.made.Failing.{Failing}
use Rattle.rz_tools_answer.specs.declared.made.Made.{Made}
use Rattle.rz_tools_answer.specs.declared.outcome.Outcome.{Outcome}
use Rattle.rz_tools_answer.specs.declared.outcome.Outcome.TheVariants.{Done, Usage, Refused, ReadFault, NoMemory}
use Rattle.rz_tools_answer.specs.declared.plan.Plan.{Plan}
use Rattle.rz_tools_args.specs.Command.{places_of, Asked, IsCommand, IsMisplaced, Item}
use Rattle.rz_tools_args.specs.declared.name.CommandName.{CommandName}
use Rattle.rz_tools_args.specs.declared.name.CommandName.TheVariants as names
use Rattle.rz_tools_args.specs.declared.read.UsageFault.{UsageFault}
use Rattle.rz_tools.proofs.OneAnswer.{OneCommand}
use Rattle.rz_tools.proofs.ShownAgain.{not_refused}
use Rattle.rz_tools.specs.Again.{OfFile}
use Rattle.rz_tools.specs.Held.{making_with, IsShown, ShowsText}
use Rattle.rz_tools.specs.Program.{command, misplaced, Answers, AnswersItems}
use Rattle.rz_tools.specs.Reply.{outcome_of, EachAnswer, IsReplyOf, IsSound, Replies}
use Rattle.rz_tools.specs.Sample.{AnswersSample, IsSampled}
use Rattle.rz_tools.specs.Shown.{AnswersCommand, AnswersWords, ShowsFile, ShowsIts}
use Rattle.rz_tools.specs.declared.reply.ForkShown.{ForkShown}
use Rattle.rz_tools.specs.declared.reply.Reply.{Reply}
use Rattle.rz_tools.specs.declared.reply.Reply.TheVariants as replies

always : {P : Type 0} (before : Option Files) → P → IfSome before (λ files. P)
always None holds = tt
always (Some files) holds = holds

-- a command is no usage
pub never_usage : (outcome : Outcome) → IsNoUsage outcome → (position : ℕ) → outcome ≡ Usage (record { position = position }) → ⊥
never_usage outcome is position so = subst IsNoUsage so is

-- Replies.

module _ {F E : Type 0} (g : Ghosts F) where
  pub replies_as : {A B : Files → Answer → Type 0} {P Q : ℕ → Type 0} {old new : F} (result : Result Reply (Halt E)) → Replies g old new result A P
      → ((files : Files) (answer : Answer) → A files answer → B files answer) → ((position : ℕ) → P position → Q position) → Replies g old new result B Q
  replies_as {A} {B} {P} {Q} {old} {new} result replied so also = record {
    answered = by (g.files old) result replied.answered;
    sound = replied.sound;
    usage = usage result replied.usage;
    reads = replied.reads;
  }
    where
      by : (before : Option Files) (result : Result Reply (Halt E)) → IfSome before (λ files. IfOk result (λ reply. EachAnswer reply (A files)))
          → IfSome before (λ files. IfOk result (λ reply. EachAnswer reply (B files)))
      by None result is = tt
      by (Some files) (Ok reply) is = λ answer stands. so files answer (is answer stands)
      by (Some files) (Err end) is = tt

      usage : (result : Result Reply (Halt E)) → IfOk result (λ reply. (position : ℕ) → outcome_of reply ≡ Usage (record { position = position }) → P position)
          → IfOk result (λ reply. (position : ℕ) → outcome_of reply ≡ Usage (record { position = position }) → Q position)
      usage (Ok reply) is = λ position ends. also position (is position ends)
      usage (Err end) is = tt

  -- where memory was refused before a file was read
  pub replies_none : {A : Files → Answer → Type 0} {P : ℕ → Type 0} {s : F} (result : Result Reply (Halt E)) → IsErrAnd result (λ e. e ≡ halts.NoMemory) → Replies g s s result A P
  replies_none (Ok reply) is = absurd is
  replies_none {A = A} {P = P} {s = s} (Err end) is = subst (λ (e : Halt E). Replies g s s (Err e) A P) (sym is) (record {
    answered = always {P = Unit {0}} (g.files s) tt;
    sound = tt;
    usage = tt;
    reads = reads_as g s s (λ never. never) (reads_nothing g s);
  })

  -- a reply that is there whatever the files hold
  pub replies_always : {A : Files → Answer → Type 0} {s : F} (reply : Reply) → ((files : Files) → EachAnswer reply (A files)) → IsSound reply → IsNoUsage (outcome_of reply)
      → IsReplyOf {E = E} g s s (Ok reply) A
  replies_always {A = A} {s = s} reply answers sound ends = record {
    answered = by (g.files s);
    sound = sound;
    usage = never_usage (outcome_of reply) ends;
    reads = reads_as g s s (λ never. never) (reads_nothing g s);
  }
    where
      by : (before : Option Files) → IfSome before (λ files. EachAnswer reply (A files))
      by None = tt
      by (Some files) = answers files

  -- that of a plan
  pub plan_replies : {A : Files → Answer → Type 0} {old new : F} (plan : Result Plan (Halt E)) (result : Result Reply (Halt E)) → result ≡ seen (λ plan. replies.Plan plan) plan
      → Plans g old new plan A → IsReplyOf g old new result A
  plan_replies {A = A} {old = old} {new = new} plan result is plans = subst (λ (r : Result Reply (Halt E)). IsReplyOf g old new r A) (sym is) (by plan plans)
    where
      each : (plan : Plan) (before : Option Files) → IfSome before (λ files. A files (answer_of plan)) → IfSome before (λ files. EachAnswer (replies.Plan plan) (A files))
      each plan None holds = tt
      each plan (Some files) holds = λ answer same. subst (A files) (sym same) holds

      by : (plan : Result Plan (Halt E)) → Plans g old new plan A → IsReplyOf g old new (seen (λ plan. replies.Plan plan) plan) A
      by (Ok plan) plans = record {
        answered = each plan (g.files old) plans.answered;
        sound = (plans.well_formed, plans.writable);
        usage = never_usage plan.outcome plans.no_usage;
        reads = plans.reads;
      }
      by (Err (halts.Refused fault)) plans = record { answered = always {P = Unit {0}} (g.files old) tt; sound = tt; usage = tt; reads = plans.reads }
      by (Err halts.ReadFault) plans = record { answered = always {P = Unit {0}} (g.files old) tt; sound = tt; usage = tt; reads = plans.reads }
      by (Err halts.NoMemory) plans = record { answered = always {P = Unit {0}} (g.files old) tt; sound = tt; usage = tt; reads = plans.reads }

-- What is shown of a fork, and the file that holds it.

same_failed : (halt : Halt Failing) → IsReadFault {X = Making} (Err halt) → IsReadFault {X = ForkShown} (Err halt)
same_failed (halts.Refused failing) failed = failed
same_failed halts.ReadFault failed = failed
same_failed halts.NoMemory failed = failed

not_done : (failing : Failing) (answer : Answer) → EndsAs shown (Err (halts.Refused failing)) answer → answer.outcome ≡ Done → ⊥
not_done failing answer ends done = not_refused failing.fault (sym (ap (λ (a : Answer). a.outcome) ends) ∙ done)

module _ (Makes : Files → Result Making Failing → Type 0) (form : Option Form) (name : List ℕ) where
  abbrev Shows : Files → Answer → Type 0
  Shows files answer = Answered shown (Makes files) answer × ShowsFile name form files answer

  -- the text of a fork, which is made while it is put
  abbrev ShowsIn : Files → Result ForkShown Failing → Type 0
  ShowsIn = OfFile form name (λ files. ShowsText (Makes files))

  -- a text that was made
  shown_made : {E : Type 0} (made : Result Made (Halt Failing)) (plan : Result Plan (Halt E)) → IfOk plan (λ plan. EndsAs shown made (answer_of plan)) → (before : Option Files)
      → IfSome before (λ files. Yields (seen making_of made) (OfFile form name Makes files)) → IfSome before (λ files. IfOk plan (λ plan. Shows files (answer_of plan)))
  shown_made made plan ends None makes = tt
  shown_made made (Err end) ends (Some files) makes = tt
  shown_made (Ok made) (Ok plan) ends (Some files) makes = ((Ok (making_of made), makes.0, ends), λ done. makes.1)
  shown_made (Err (halts.Refused failing)) (Ok plan) ends (Some files) makes =
      ((Err failing, makes.0, ends), λ done. absurd (not_done failing (answer_of plan) ends done))
  shown_made (Err halts.ReadFault) (Ok plan) ends (Some files) makes = absurd ends
  shown_made (Err halts.NoMemory) (Ok plan) ends (Some files) makes = absurd ends

  -- what stopped the command
  halt_makes : (halt : Halt Failing) (before : Option Files) → IfSome before (λ files. Yields {X = ForkShown} (Err halt) (ShowsIn files))
      → IfSome before (λ files. Yields {X = Making} (Err halt) (OfFile form name Makes files))
  halt_makes halt None told = tt
  halt_makes (halts.Refused failing) (Some files) told = (told.0 [] tt, tt)
  halt_makes halts.ReadFault (Some files) told = tt
  halt_makes halts.NoMemory (Some files) told = tt

  module _ {F E : Type 0} (g : Ghosts F) {old new : F} where
    pub plans_shown : {Good : Making → Type 0} {Bad : Failing → Type 0} (made : Result Made (Halt Failing)) (plan : Result Plan (Halt E))
        → Finds g old new (seen making_of made) (OfFile form name Makes) Good Bad → Concludes shown made plan → Plans g old new plan Shows
    plans_shown made plan finds concludes = record {
      answered = shown_made made plan concludes.answered (g.files old) finds.answered;
      well_formed = concludes.well_formed;
      writable = concludes.writable;
      no_usage = concludes.no_usage;
      reads = reads_as g old new (λ failed. seen_failed made (concludes.read_fault failed)) finds.reads;
    }

    pub fork_replies : (fork : ForkShown) → Finds g old new (Ok fork) ShowsIn IsShown IsSayable → IsReplyOf {E = E} g old new (Ok (replies.Text fork)) Shows
    fork_replies fork finds = record {
      answered = by (g.files old) finds.answered;
      sound = finds.good;
      usage = never_usage Done tt;
      reads = reads_as g old new (λ never. absurd never) finds.reads;
    }
      where
        by : (before : Option Files) → IfSome before (λ files. ShowsIn files (Ok fork)) → IfSome before (λ files. EachAnswer (replies.Text fork) (Shows files))
        by None told = tt
        by (Some files) told = λ answer stands. ((Ok (making_with stands.0 fork), told.0 stands.0 stands.1, stands.2), λ done. told.1)

    pub fork_stopped : (halt : Halt Failing) (plan : Result Plan (Halt E)) → Finds g old new (Err halt) ShowsIn IsShown IsSayable → Concludes shown (Err halt) plan → Plans g old new plan Shows
    fork_stopped halt plan finds concludes = record {
      answered = shown_made (Err halt) plan concludes.answered (g.files old) (halt_makes halt (g.files old) finds.answered);
      well_formed = concludes.well_formed;
      writable = concludes.writable;
      no_usage = concludes.no_usage;
      reads = reads_as g old new (λ failed. same_failed halt (seen_failed (Err halt) (concludes.read_fault failed))) finds.reads;
    }

-- The command of some items, by its name.

module _ {F E : Type 0} (g : Ghosts F) (name other : CommandName) (items : List Item) (moment : Moment) (same : name ≡ other) where
  pub named : {A : Files → Answer → Type 0} {old new : F} (result : Result Reply (Halt E)) → IsReplyOf g old new result A
      → ((files : Files) (answer : Answer) → A files answer → AnswersItems other items files moment answer × ShowsIts other items files answer)
      → IsReplyOf g old new result (AnswersCommand (record { name = name; items = items }) moment)
  named {old = old} {new = new} result replied so =
      subst (λ (n : CommandName). IsReplyOf g old new result (AnswersCommand (record { name = n; items = items }) moment)) (sym same)
      (replies_as g result replied so (λ position never. never))

  -- of a plan
  pub planned_as : {A : Files → Answer → Type 0} {old new : F} (plan : Result Plan (Halt E)) (result : Result Reply (Halt E)) → result ≡ seen (λ plan. replies.Plan plan) plan → Plans g old new plan A
      → ((files : Files) (answer : Answer) → A files answer → AnswersItems other items files moment answer × ShowsIts other items files answer)
      → IsReplyOf g old new result (AnswersCommand (record { name = name; items = items }) moment)
  planned_as plan result is plans so = named result (plan_replies g plan result is plans) so

-- That of words.

abbrev position_of : Outcome → ℕ
position_of (Usage fault) = fault.position
position_of other = 0

pub same_position : (position other : ℕ) → Usage (record { position = position }) ≡ Usage (record { position = other }) → position ≡ other
same_position position other ends = ap position_of ends

pub misused_answers : (words : List (List ℕ)) (moment : Moment) (fault : UsageFault) → IsMisplaced words fault.position → (plan : Plan) → answer_of plan ≡ misused fault.position
    → (files : Files) → EachAnswer (replies.Plan plan) (Answers words files moment)
misused_answers words moment fault is plan says files answer same = misplaced fault.position is (same ∙ says)

module _ {F E : Type 0} (g : Ghosts F) (words : List (List ℕ)) (moment : Moment) where
  pub words_reply : {old new : F} (commands : OneCommand) (asked : Asked) → IsCommand words asked → (result : Result Reply (Halt E)) → IsReplyOf g old new result (AnswersCommand asked moment)
      → Replies g old new result (AnswersWords words moment) (IsMisplaced words)
  words_reply commands asked is result replied =
      replies_as g result replied
      (λ files answer so. (command asked is so.0, λ other also. subst (λ (a : Asked). ShowsIts a.name a.items files answer) (commands words asked other is also) so.1))
      (λ position never. absurd never)

  pub misused_reply : {s : F} (fault : UsageFault) → IsMisplaced words fault.position → (plan : Plan) → answer_of plan ≡ misused fault.position
      → Replies {E = E} g s s (Ok (replies.Plan plan)) (AnswersWords words moment) (IsMisplaced words)
  misused_reply {s = s} fault is plan says = record {
    answered = by (g.files s);
    sound = (subst IsWellFormed (sym says) refl, subst (λ (a : Answer). AreWritable a.writes) (sym says) tt);
    usage = λ position ends. subst (IsMisplaced words) (same_position fault.position position (sym (ap (λ (a : Answer). a.outcome) says) ∙ ends)) is;
    reads = reads_as g s s (λ never. never) (reads_nothing g s);
  }
    where
      by : (before : Option Files) → IfSome before (λ files. EachAnswer (replies.Plan plan) (AnswersWords words moment files))
      by None = tt
      by (Some files) = λ answer same. (misused_answers words moment fault is plan says files answer same, λ asked also. absurd (is.none asked also))

-- an answer over whatever files
pub fileless_words : {E : Type 0} (words : List (List ℕ)) (moment : Moment) (asked : Asked) → IsCommand words asked → (result : Result Reply E) (files : Files)
    → IfOk result (λ reply. EachAnswer reply (AnswersItems asked.name asked.items files moment)) → IfOk result (λ reply. EachAnswer reply (Answers words files moment))
fileless_words words moment asked is (Ok reply) files answers = λ answer stands. command asked is (answers answer stands)
fileless_words words moment asked is (Err end) files answers = tt

-- Commands that need no file.

-- the answer of a plan is that of its reply
plan_each : {E : Type 0} (P : Answer → Type 0) (plan : Result Plan E) (result : Result Reply E) → result ≡ seen (λ plan. replies.Plan plan) plan → IfOk plan (λ plan. P (answer_of plan))
    → IfOk result (λ reply. EachAnswer reply P)
plan_each {E} P plan result is holds = subst (λ (r : Result Reply E). IfOk r (λ reply. EachAnswer reply P)) (sym is) (by plan holds)
  where
    by : (plan : Result Plan E) → IfOk plan (λ plan. P (answer_of plan)) → IfOk (seen (λ plan. replies.Plan plan) plan) (λ reply. EachAnswer reply P)
    by (Ok plan) holds = λ answer same. subst P (sym same) holds
    by (Err end) holds = tt

-- what was made of a sample
sample_ends : {E : Type 0} (P : Result Making Failing → Type 0) (made : Result Made (Halt Failing)) → Yields (seen making_of made) P → (plan : Result Plan E)
    → IfOk plan (λ plan. EndsAs shown made (answer_of plan)) → IfOk plan (λ plan. Answered shown P (answer_of plan))
sample_ends P made makes (Err end) ends = tt
sample_ends P (Ok made) makes (Ok plan) ends = (Ok (making_of made), makes, ends)
sample_ends P (Err (halts.Refused failing)) makes (Ok plan) ends = (Err failing, makes, ends)
sample_ends P (Err halts.ReadFault) makes (Ok plan) ends = absurd ends
sample_ends P (Err halts.NoMemory) makes (Ok plan) ends = absurd ends

module _ {E : Type 0} (count : ℕ) (moment : Moment) (few : count < 2 ^ 32) (words : List (List ℕ)) (is : words ≡ decimal_of count ∷ []) where
  pub sampled_answers : (made : Result Made (Halt Failing)) → Yields (seen making_of made) (IsSampled count moment) → (plan : Result Plan E)
      → IfOk plan (λ plan. EndsAs shown made (answer_of plan)) → (result : Result Reply E) → result ≡ seen (λ plan. replies.Plan plan) plan
      → IfOk result (λ reply. EachAnswer reply (AnswersSample words moment))
  sampled_answers made makes plan ends result same =
      plan_each (AnswersSample words moment) plan result same (by plan (sample_ends (IsSampled count moment) made makes plan ends))
    where
      by : (plan : Result Plan E) → IfOk plan (λ plan. Answered shown (IsSampled count moment) (answer_of plan)) → IfOk plan (λ plan. AnswersSample words moment (answer_of plan))
      by (Ok plan) sampled = (count, (is, few), sampled)
      by (Err end) sampled = tt

module _ {F E : Type 0} (g : Ghosts F) (name : CommandName) (items : List Item) (moment : Moment) where
  pub sampled_replies : {s : F} → name ≡ names.Sample → (count : ℕ) → count < 2 ^ 32 → places_of items ≡ decimal_of count ∷ [] → (made : Result Made (Halt Failing))
      → Yields (seen making_of made) (IsSampled count moment) → (IsReadFault (seen making_of made) → ⊥) → (plan : Result Plan (Halt E)) → Concludes shown made plan
      → (result : Result Reply (Halt E)) → result ≡ seen (λ plan. replies.Plan plan) plan → IsReplyOf g s s result (AnswersCommand (record { name = name; items = items }) moment)
  sampled_replies {s = s} same count few is made makes unread plan concludes result so =
      planned_as g name names.Sample items moment same plan result so
      (record {
        answered = over (g.files s);
        well_formed = concludes.well_formed;
        writable = concludes.writable;
        no_usage = concludes.no_usage;
        reads = reads_as g s s (λ failed. unread (seen_failed made (concludes.read_fault failed))) (reads_nothing g s);
      })
      (λ files answer sampled. ((count, (is, few), sampled), tt))
    where
      over : (before : Option Files) → IfSome before (λ files. IfOk plan (λ plan. Answered shown (IsSampled count moment) (answer_of plan)))
      over None = tt
      over (Some files) = sample_ends (IsSampled count moment) made makes plan concludes.answered

  -- a text that is there
  pub text_replies : {s : F} (other : CommandName) → name ≡ other → (plan : Plan) (text : List ℕ) → answer_of plan ≡ shown (record { bytes = text; said = [] })
      → ((files : Files) (answer : Answer) → answer ≡ shown (record { bytes = text; said = [] }) → AnswersItems other items files moment answer × ShowsIts other items files answer)
      → IsReplyOf {E = E} g s s (Ok (replies.Plan plan)) (AnswersCommand (record { name = name; items = items }) moment)
  text_replies {s = s} other same plan text says so =
      named g name other items moment same (Ok (replies.Plan plan))
      (replies_always g (replies.Plan plan) (λ files answer is. is ∙ says)
      (subst IsWellFormed (sym says) no_lines, subst (λ (a : Answer). AreWritable a.writes) (sym says) tt)
      (subst (λ (a : Answer). IsNoUsage a.outcome) (sym says) tt))
      so
