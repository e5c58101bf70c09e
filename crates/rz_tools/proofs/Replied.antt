-- What is to be carried out, and what is carried out of it.
use Rattle.std.proofs.Common.{◌≡◌, ◌⊎◌, inl, inr, ℕ, List, [], Option, Some, None, Ok, Err, refl, sym, ap, subst, arith}
use Rattle.std.specs.Prelude.{IfSome}
use Rattle.std.specs.declared.result.Result.{Result}
use Rattle.rz_core.specs.declared.stop.NoMemory.{NoMemory as NoMemoryAlone}
use Rattle.rz_folder.specs.Folder.{Files}
use Rattle.rz_folder.specs.Sink.{faults_with_text, PutsOut}
use Rattle.rz_folder.specs.declared.sink.Put.{Put}
use Rattle.rz_folder.specs.declared.sink.Put.TheVariants as puts
use Rattle.rz_told.specs.Held.{text_of}
use Rattle.rz_told.specs.declared.text.FileText.{FileText}
use Rattle.rz_tools_answer.proofs.Said.{is_out}
use Rattle.rz_tools_answer.proofs.Warnings.{no_lines}
use Rattle.rz_tools_answer.specs.Answer.{shown, Answer, Making}
use Rattle.rz_tools_answer.specs.Carried.{at_text, end_of, said_behind, CarriesOut}
use Rattle.rz_tools_answer.specs.WellFormed.{IsWellFormed}
use Rattle.rz_tools_answer.specs.World.{SaysText, World}
use Rattle.rz_tools_answer.specs.declared.outcome.Outcome.{Outcome}
use Rattle.rz_tools_answer.specs.declared.outcome.Outcome.TheVariants.{Done, WriteFault, NoMemory}
use Rattle.rz_tools_text.specs.Put.{IsTextOf}
use Rattle.rz_tools.specs.Held.{making_with}
use Rattle.rz_tools.specs.Reply.{outcome_of, EachAnswer, IsReply, IsSound, IsText}
use Rattle.rz_tools.specs.declared.reply.ForkShown.{ForkShown}
use Rattle.rz_tools.specs.declared.reply.Reply.{Reply}
use Rattle.rz_tools.specs.declared.reply.Reply.TheVariants as replies

-- The answers that it stands for.

pub well_formed : (reply : Reply) → IsSound reply → (answer : Answer) → IsReply reply answer → IsWellFormed answer
well_formed (replies.Plan plan) sound answer is = subst IsWellFormed (sym is) sound.0
well_formed (replies.Text fork) sound answer (text, is, so) = subst IsWellFormed (sym so) sound.1
well_formed (replies.List text) sound answer is = subst IsWellFormed (sym is) no_lines

pub outcome_so : (reply : Reply) (answer : Answer) → IsReply reply answer → answer.outcome ≡ outcome_of reply
outcome_so (replies.Plan plan) answer is = ap (λ (a : Answer). a.outcome) is
outcome_so (replies.Text fork) answer (text, is, so) = ap (λ (a : Answer). a.outcome) so
outcome_so (replies.List text) answer is = ap (λ (a : Answer). a.outcome) is

-- each of them answers the words, so this one does
pub answers_so : (P : Files → Answer → Type 0) (reply : Reply) (answer : Answer) → IsReply reply answer → (before : Option Files)
    → IfSome before (λ files. EachAnswer reply (P files)) → IfSome before (λ files. P files answer)
answers_so P reply answer is None answers = tt
answers_so P reply answer is (Some files) answers = answers answer is

-- A text that was put, and what was said after it.

files_kept : (files left : Option Files) → left ≡ files → IfSome files (λ files. left ≡ Some files)
files_kept None left same = tt
files_kept (Some files) left same = same

module _ (making : Making) (before after : World) (files : after.files ≡ before.files) (unwritten : after.writes ≡ before.writes) where
  text_carried : (put : Result Put NoMemoryAlone) → PutsOut making.bytes before.out after.out put → after.out_faults ≡ faults_with_text before.out_faults put
      → SaysText (said_behind put making.said) before after → CarriesOut (shown making) before after (end_of put)
  text_carried (Ok puts.Done) told counted says = record {
    ends = (refl, record { files = files_kept before.files after.files files; counted = unwritten; out = is_out making.bytes before.out after.out told });
    says = says;
  }
  text_carried (Ok puts.Failed) told counted says = record {
    ends = (refl, inr (omega (arith, counted)), at_text (files_kept before.files after.files files) unwritten told);
    says = says;
  }
  text_carried (Err refused) told counted says = record { ends = record { files = files; counted = unwritten; out = inr told }; says = inr (refl, told, says) }

  pub text_ends : (put : Result Put NoMemoryAlone) (said : List ℕ) (result : Outcome) → said ≡ making.said → result ≡ end_of put → PutsOut making.bytes before.out after.out put
      → after.out_faults ≡ faults_with_text before.out_faults put → SaysText (said_behind put said) before after → CarriesOut (shown making) before after result
  text_ends put said result same is told counted says =
      subst (CarriesOut (shown making) before after) (sym is) (text_carried put told counted (subst (λ (s : List ℕ). SaysText (said_behind put s) before after) same says))

-- the same of what is to be carried out, where that is the text of a fork
module _ (reply : Reply) (fork : ForkShown) (same : reply ≡ replies.Text fork) (result : Outcome) where
  pub text_replied : (text : List ℕ) → IsTextOf fork.text text → (before after : World) → CarriesOut (shown (making_with text fork)) before after result
      → (done : Answer) × IsReply reply done × CarriesOut done before after result
  text_replied text is before after carried =
      (shown (making_with text fork), subst (λ (r : Reply). IsReply r (shown (making_with text fork))) (sym same) (text, is, refl), carried)

  pub text_ended : (put : Result Put NoMemoryAlone) → result ≡ end_of put → (result ≡ outcome_of reply) ⊎ (result ≡ WriteFault) ⊎ ((result ≡ NoMemory) × IsText reply)
  text_ended put is = subst (λ (r : Reply). (result ≡ outcome_of r) ⊎ (result ≡ WriteFault) ⊎ ((result ≡ NoMemory) × IsText r)) (sym same) (by put is)
    where
      by : (p : Result Put NoMemoryAlone) → result ≡ end_of p → (result ≡ Done) ⊎ (result ≡ WriteFault) ⊎ ((result ≡ NoMemory) × IsText (replies.Text fork))
      by (Ok puts.Done) is = inl is
      by (Ok puts.Failed) is = inr (inl is)
      by (Err refused) is = inr (inr (is, tt))

-- the same where that is the text of a file
module _ (reply : Reply) (file : FileText) (same : reply ≡ replies.List file) (result : Outcome) where
  abbrev Listed : Answer
  Listed = shown (record { bytes = text_of file; said = [] })

  pub list_replied : (before after : World) → CarriesOut Listed before after result → (done : Answer) × IsReply reply done × CarriesOut done before after result
  list_replied before after carried = (Listed, subst (λ (r : Reply). IsReply r Listed) (sym same) refl, carried)

  pub list_ended : (put : Put) → result ≡ end_of (Ok put) → (result ≡ outcome_of reply) ⊎ (result ≡ WriteFault) ⊎ ((result ≡ NoMemory) × IsText reply)
  list_ended put is = subst (λ (r : Reply). (result ≡ outcome_of r) ⊎ (result ≡ WriteFault) ⊎ ((result ≡ NoMemory) × IsText r)) (sym same) (by put is)
    where
      by : (p : Put) → result ≡ end_of (Ok p) → (result ≡ Done) ⊎ (result ≡ WriteFault) ⊎ ((result ≡ NoMemory) × IsText (replies.List file))
      by puts.Done is = inl is
      by puts.Failed is = inr (inl is)
