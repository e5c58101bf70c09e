-- A run, from the answer that was carried out after files were read.
use Rattle.std.proofs.Common.{◌≡◌, ◌≤◌, ◌⊎◌, inl, inr, ℕ, List, Err, sym, subst, ◌∙◌, arith}
use Rattle.std.specs.declared.option.Option.{Option}
use Rattle.rz_core.specs.Stop.{IsReadFault}
use Rattle.rz_core.specs.declared.moment.Moment.{Moment}
use Rattle.rz_core.specs.declared.stop.Halt.{Halt}
use Rattle.rz_core.specs.declared.stop.Halt.TheVariants as halts
use Rattle.rz_folder.specs.Counts.{Rose}
use Rattle.rz_folder.specs.Folder.{Files}
use Rattle.rz_folder.specs.Sink.{Stream}
use Rattle.rz_tools_args.specs.declared.read.UsageFault.{UsageFault}
use Rattle.rz_tools_answer.specs.Answer.{Answer, Write}
use Rattle.rz_tools_answer.specs.Carried.{at_file, at_text, CarriesOut, Ends, IsPartlyWritten, IsUntouched, SaysOf}
use Rattle.rz_tools.specs.Program.{Answers}
use Rattle.rz_tools_answer.specs.Message.{no_memory_line, read_fault_line}
use Rattle.rz_tools_answer.specs.World.{ReadFailed, SaysText, World}
use Rattle.rz_tools_answer.specs.declared.outcome.Outcome.{Outcome}
use Rattle.rz_tools_answer.specs.declared.outcome.Outcome.TheVariants.{Done, Usage, Refused, ReadFault, WriteFault, NoMemory}

-- Files were read before, which may have failed.

module _ (mid after : World) (reads : ℕ) (fewer : reads ≤ mid.read_faults) where
  before : World
  before = record mid { read_faults = reads }

  rose_before : Rose mid.read_faults after.read_faults → Rose reads after.read_faults
  rose_before rose = omega (arith, fewer, rose)

  untouched : IsUntouched mid after → IsUntouched before after
  unfolding before
  untouched is = record { files = is.files; counted = is.counted; out = is.out }

  partly : (writes : List Write) (text : List ℕ) → IsPartlyWritten writes text mid after → IsPartlyWritten writes text before after
  unfolding before
  partly writes text (at_file done one rest are cut) = at_file done one rest are (record { files = cut.files; counted = cut.counted; out = cut.out })
  partly writes text (at_text files counted out) = at_text files counted out

  ends_before : (answer : Answer) (result : Outcome) → Ends answer mid after result → Ends answer before after result
  unfolding before
  ends_before answer Done ends = (ends.0, record { files = ends.1.files; counted = ends.1.counted; out = ends.1.out })
  ends_before answer (Usage fault) ends = (ends.0, untouched ends.1)
  ends_before answer (Refused fault) ends = (ends.0, untouched ends.1)
  ends_before answer ReadFault ends = (rose_before ends.0, untouched ends.1)
  ends_before answer WriteFault ends = (ends.0, ends.1, partly answer.writes answer.out ends.2)
  ends_before answer NoMemory ends = record { files = ends.files; counted = ends.counted; out = ends.out }

  says_before : (answer : Answer) (result : Outcome) → SaysOf answer mid after result → SaysOf answer before after result
  unfolding before
  says_before answer Done says = says
  says_before answer (Usage fault) says = says
  says_before answer (Refused fault) says = says
  says_before answer ReadFault says = says
  says_before answer WriteFault says = says
  says_before answer NoMemory says = says

  pub carried_before : (answer : Answer) (result : Outcome) → CarriesOut answer mid after result → CarriesOut answer (record mid { read_faults = reads }) after result
  unfolding before
  carried_before answer result carried = record { ends = ends_before answer result carried.ends; says = says_before answer result carried.says }

module _ (answer : Answer) (after : World) (result : Outcome) (files files_mid : Option Files) (out err : Option Stream)
    (reads reads_mid writes writes_mid count count_mid out_faults err_faults : ℕ) where
  pub carried_from : files_mid ≡ files → reads ≤ reads_mid → writes_mid ≡ writes → count_mid ≡ count
      → CarriesOut answer (record { files = files_mid; out = out; err = err; read_faults = reads_mid; write_faults = writes_mid; writes = count_mid; out_faults = out_faults; err_faults = err_faults }) after result
      → CarriesOut answer (record { files = files; out = out; err = err; read_faults = reads; write_faults = writes; writes = count; out_faults = out_faults; err_faults = err_faults }) after result
  carried_from same fewer same_writes same_count carried =
      subst (λ (f : Option Files). CarriesOut answer (record { files = f; out = out; err = err; read_faults = reads; write_faults = writes; writes = count; out_faults = out_faults; err_faults = err_faults }) after result) same
      (subst (λ (w : ℕ). CarriesOut answer (record { files = files_mid; out = out; err = err; read_faults = reads; write_faults = w; writes = count; out_faults = out_faults; err_faults = err_faults }) after result) same_writes
      (subst (λ (n : ℕ). CarriesOut answer (record { files = files_mid; out = out; err = err; read_faults = reads; write_faults = writes_mid; writes = n; out_faults = out_faults; err_faults = err_faults }) after result) same_count
      (carried_before (record { files = files_mid; out = out; err = err; read_faults = reads_mid; write_faults = writes_mid; writes = count_mid; out_faults = out_faults; err_faults = err_faults }) after reads fewer answer result carried)))

-- Memory was refused before anything was put.

pub nothing_put : (answer : Answer) (before after : World) → after.files ≡ before.files → after.writes ≡ before.writes → after.out ≡ before.out
    → SaysText no_memory_line before after → CarriesOut answer before after NoMemory
nothing_put answer before after files unwritten out says = record { ends = record { files = files; counted = unwritten; out = inl out }; says = inl (out, says) }

-- A read failed before anything was put.

pub nothing_read : (answer : Answer) (before after : World) → ReadFailed before after → after.files ≡ before.files → after.writes ≡ before.writes → after.out ≡ before.out
    → SaysText read_fault_line before after → CarriesOut answer before after ReadFault
nothing_read answer before after cause files unwritten out says = record { ends = (cause, record { files = files; counted = unwritten; out = out }); says = says }

pub did_fail : (X : Type 0) {E : Type 0} (halt : Halt E) → halt ≡ halts.ReadFault → IsReadFault {X = X} (Err halt)
did_fail X {E} halt is = subst (λ (h : Halt E). IsReadFault {X = X} (Err h)) (sym is) tt

abbrev pub OneAnswer : Type 0
OneAnswer = (words : List (List ℕ)) (files : Files) (moment : Moment) (answer another : Answer) → Answers words files moment answer → Answers words files moment another → answer ≡ another

-- Usage.

module _ (before after : World) (result : Outcome) (done : Answer) (carried : CarriesOut done before after result) where
  pub usage_of : (fault : UsageFault) → result ≡ Usage fault → done.outcome ≡ Usage fault
  usage_of fault is = (subst (λ r. CarriesOut done before after r) is carried).ends.0

  pub stays_usage : (IsWhere : Type 0) (fault : UsageFault) → done.outcome ≡ Usage fault → (result ≡ done.outcome) ⊎ (result ≡ WriteFault) ⊎ ((result ≡ NoMemory) × IsWhere)
      → (result ≡ Usage fault) ⊎ (result ≡ NoMemory)
  stays_usage IsWhere fault is (inl ended) = inl (ended ∙ is)
  stays_usage IsWhere fault is (inr (inl failed)) =
      let ends : done.outcome ≡ Done = (subst (λ r. CarriesOut done before after r) failed carried).ends.0 in let e : Usage fault ≡ Done = sym is ∙ ends in cc
  stays_usage IsWhere fault is (inr (inr refused)) = inr refused.0

pub or_else : {A B C : Type 0} → A ⊎ B → (A → C) → (B → C) → C
or_else (inl a) first second = first a
or_else (inr b) first second = second b
