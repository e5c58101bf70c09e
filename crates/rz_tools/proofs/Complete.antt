-- A run ends with the one answer to its words.
use Rattle.std.proofs.Common.{◌≡◌, ◌⊎◌, inl, inr, ℕ, List, [], Option, Some, None, refl, sym, ap, subst, ◌∙◌}
use Rattle.std.specs.Prelude.{IfSome}
use Rattle.rz_core.specs.declared.moment.Moment.{Moment}
use Rattle.rz_folder.specs.Folder.{Files}
use Rattle.rz_folder.specs.Sink.{IsOut, Stream, Told}
use Rattle.rz_tools_answer.proofs.Said.{out_so_far}
use Rattle.rz_tools_answer.specs.Answer.{count_after, files_after, misused, Answer, Write}
use Rattle.rz_tools_answer.specs.Carried.{CarriesOut, EndsWith, IsUnhindered, IsUntouched}
use Rattle.rz_tools_answer.specs.Message.{no_memory_line, read_fault_line}
use Rattle.rz_tools_answer.specs.WellFormed.{FitsOutcome, IsWellFormed}
use Rattle.rz_tools_answer.specs.World.{ReadFailed, Says, SaysText, World, WriteFailed}
use Rattle.rz_tools_answer.specs.declared.outcome.Outcome.{Outcome}
use Rattle.rz_tools_answer.specs.declared.outcome.Outcome.TheVariants.{Done, Usage, Refused, ReadFault, WriteFault, NoMemory}
use Rattle.rz_tools.proofs.Running.{nothing_put, nothing_read, OneAnswer}
use Rattle.rz_tools.specs.Again.{ShowsAgain}
use Rattle.rz_tools.specs.Catalogues.{LeavesOthers, ListsBack}
use Rattle.rz_tools.specs.DeRez.{DeRezAsked, IsDeRez}
use Rattle.rz_tools.specs.Headline.{IsExact, IsHindered, IsInverse, IsWhole, Run}
use Rattle.rz_tools.specs.Program.{Answers}
use Rattle.rz_tools.specs.Restring.{IsRestring, RestringAsked}
use Rattle.rz_tools.specs.Strings.{IsStrings, StringsAsked}

abbrev pub EveryAnswer : Type 0
EveryAnswer = (words : List (List ℕ)) (files : Files) (moment : Moment) → (answer : Answer) × Answers words files moment answer

-- Nothing is written.

none_written : (files left : Option Files) (writes : List Write) → writes ≡ [] → left ≡ files → IfSome files (λ files. left ≡ Some (files_after writes files))
none_written None left writes none same = tt
none_written (Some files) left writes none same = same ∙ ap (λ (ws : List Write). Some (files_after ws files)) (sym none)

none_put : (out left : Option Stream) (text : List ℕ) → text ≡ [] → left ≡ out → Told (IsOut text) out left
none_put out left text none same = subst (Told (IsOut text) out) (sym same) (out_so_far text none out)

-- The answer that was carried out.

module _ (done : Answer) (before after : World) where
  module _ (result : Outcome) (ends : done.outcome ≡ result) (left : IsUntouched before after) where
    unwritten : done.writes ≡ [] → done.out ≡ [] → Says done.err before.err after.err before.err_faults after.err_faults → EndsWith done before after result
    unwritten no_writes no_out says = record {
      outcome = sym ends;
      files = none_written before.files after.files done.writes no_writes left.files;
      counted = left.counted ∙ ap (λ (ws : List Write). count_after ws before.writes) (sym no_writes);
      out = none_put before.out after.out done.out no_out left.out;
      err = says;
    }

  ends_with : (result : Outcome) → IsWellFormed done → IsUnhindered result → CarriesOut done before after result → EndsWith done before after result
  ends_with Done fits free carried = record { outcome = sym carried.ends.0; files = carried.ends.1.files; counted = carried.ends.1.counted; out = carried.ends.1.out; err = carried.says }
  ends_with (Usage fault) fits free carried =
      let is = subst (λ (o : Outcome). FitsOutcome o done) carried.ends.0 fits in
      unwritten (Usage fault) carried.ends.0 carried.ends.1 (ap (λ (a : Answer). a.writes) is) (ap (λ (a : Answer). a.out) is) carried.says
  ends_with (Refused fault) fits free carried =
      let is = subst (λ (o : Outcome). FitsOutcome o done) carried.ends.0 fits in
      unwritten (Refused fault) carried.ends.0 carried.ends.1 (ap (λ (a : Answer). a.writes) is.1) (ap (λ (a : Answer). a.out) is.1) carried.says
  ends_with ReadFault fits free carried = absurd free
  ends_with WriteFault fits free carried = absurd free
  ends_with NoMemory fits free carried = absurd free

-- where no read and no write failed, want of memory alone hinders a run
unfailed : (answer : Answer) (before after : World) (result : Outcome) → CarriesOut answer before after result → (ReadFailed before after → ⊥) → (WriteFailed before after → ⊥)
    → (result ≡ NoMemory) ⊎ IsUnhindered result
unfailed answer before after Done carried read wrote = inr tt
unfailed answer before after (Usage fault) carried read wrote = inr tt
unfailed answer before after (Refused fault) carried read wrote = inr tt
unfailed answer before after ReadFault carried read wrote = absurd (read carried.ends.0)
unfailed answer before after WriteFault carried read wrote = absurd (wrote carried.ends.1)
unfailed answer before after NoMemory carried read wrote = inl refl

module _ (words : List (List ℕ)) (moment : Moment) (before after : World) (result : Outcome) where
  abbrev the_run : Run
  the_run = record { words = words; moment = moment; before = before; after = after; result = result }

  ends_or : (answer : Answer) → CarriesOut answer before after result → (IsUnhindered result → EndsWith answer before after result) → (IsHindered the_run → ⊥)
      → (result ≡ NoMemory) ⊎ EndsWith answer before after result
  ends_or answer carried ends free = by (unfailed answer before after result carried (λ read. free (inl read)) (λ wrote. free (inr wrote)))
    where
      by : (result ≡ NoMemory) ⊎ IsUnhindered result → (result ≡ NoMemory) ⊎ EndsWith answer before after result
      by (inl none) = inl none
      by (inr free) = inr (ends free)

  -- an answer was carried out
  pub exact : OneAnswer → (done : Answer) → IsWellFormed done → CarriesOut done before after result → (files : Files) → Answers words files moment done → IsExact the_run files
  exact one done fits carried files answers =
      let ends : IsUnhindered result → EndsWith done before after result = λ free. ends_with done before after result fits free carried in record {
        answer = done;
        only = record { answers = answers; only = λ other is. one words files moment other done is answers };
        carried = carried;
        unhindered_outcome = ends;
        unhindered_run = ends_or done carried ends;
      }

  -- none was, so that each is carried out as far as any
  pub hindered : OneAnswer → EveryAnswer → ((wanted : Answer) → CarriesOut wanted before after result) → (IsUnhindered result → ⊥) → (files : Files) → IsExact the_run files
  hindered one every carried not files =
      let answer : Answer = (every words files moment).0 in record {
        answer = answer;
        only = record {
          answers = (every words files moment).1;
          only = λ other is. one words files moment other answer is (every words files moment).1;
        };
        carried = carried answer;
        unhindered_outcome = λ free. absurd (not free);
        unhindered_run = ends_or answer (carried answer) (λ free. absurd (not free));
      }

-- A run that no answer was carried out in: a read failed, or memory was refused.

module _ (words : List (List ℕ)) (moment : Moment) (before after : World) where
  abbrev IsSo : Outcome → Files → Type 0
  IsSo result = IsExact (record { words = words; moment = moment; before = before; after = after; result = result })

  abbrev IsWholeSo : Outcome → Type 0
  IsWholeSo result = IsWhole (record { words = words; moment = moment; before = before; after = after; result = result })

  module _ (files : after.files ≡ before.files) (unwritten : after.writes ≡ before.writes) (out : after.out ≡ before.out) where
    pub over_read : OneAnswer → EveryAnswer → ReadFailed before after → SaysText read_fault_line before after → (told : Files) → IsSo ReadFault told
    over_read one every cause says =
        hindered words moment before after ReadFault one every (λ wanted. nothing_read wanted before after cause files unwritten out says) (λ free. free)

    pub whole_read : ReadFailed before after → SaysText read_fault_line before after → IsWholeSo ReadFault
    whole_read cause says = (misused 0, refl, nothing_read (misused 0) before after cause files unwritten out says, λ never. absurd never)

    pub over_none : OneAnswer → EveryAnswer → SaysText no_memory_line before after → (told : Files) → IsSo NoMemory told
    over_none one every says = hindered words moment before after NoMemory one every (λ wanted. nothing_put wanted before after files unwritten out says) (λ free. free)

    pub whole_none : SaysText no_memory_line before after → IsWholeSo NoMemory
    whole_none says = (misused 0, refl, nothing_put (misused 0) before after files unwritten out says, λ never. absurd never)

-- The same where the files are told.

pub over_files : (before : Option Files) (P : Files → Type 0) → ((files : Files) → P files) → IfSome before P
over_files None P all = tt
over_files (Some files) P all = all files

pub over_told : (before : Option Files) (P Q : Files → Type 0) → ((files : Files) → P files → Q files) → IfSome before P → IfSome before Q
over_told None P Q so holds = tt
over_told (Some files) P Q so holds = so files holds

-- what holds for each command that is an inverse of another
module _ (words : List (List ℕ)) (moment : Moment) (before after : World) (result : Outcome) where
  pub inverse : (told : Option Files)
      → ((asked : DeRezAsked) → IsDeRez words asked → IfSome told (λ files. ShowsAgain moment asked files before.out after.out))
      → ((asked : StringsAsked) → IsStrings words asked → IfSome told (λ files. ListsBack moment asked files before.out after.out))
      → ((asked : RestringAsked) → IsRestring words asked → IfSome told (λ files. LeavesOthers moment asked files after.files))
      → IfSome told (IsInverse (record { words = words; moment = moment; before = before; after = after; result = result }))
  inverse None derez strings restring = tt
  inverse (Some files) derez strings restring = record { derez = derez; strings = strings; restring = restring }
