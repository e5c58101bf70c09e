use Rattle.std.proofs.Common.{inr, map, refl, sym, subst, ◌∙◌}
use Rattle.std.specs.Prelude.{◌≡◌, ◌⊎◌}
use Rattle.std.specs.String.{string_bytes}
use Rattle.rz_tools_answer.specs.declared.outcome.Outcome.{Outcome}
use Rattle.rz_tools_answer.specs.declared.outcome.Outcome.TheVariants.{WriteFault, NoMemory}
use Rattle.rz_tools.specs.Program.{Answers}
use Rattle.rz_tools.specs.Reply.{IsText}
use Rattle.rz_tools.specs.Shown.{AnswersWords}
use Rattle.rz_tools.specs.declared.reply.Reply.{Reply}
use Rattle.rz_tools.proofs.Complete.{exact, inverse, over_files, over_none, over_read, over_told, whole_none, whole_read}
use Rattle.rz_tools.proofs.OthersStay.{leaves_others}
use Rattle.rz_tools.proofs.PutBack.{lists_back}
use Rattle.rz_tools.proofs.Replied.{answers_so, outcome_so, well_formed}
use Rattle.rz_tools.proofs.Running.{carried_from, did_fail, or_else, stays_usage, usage_of}
use Rattle.rz_tools.proofs.ShownAgain.{shows_again}
use Rattle.rz_tools.proofs.Views.{derez_free}
use Rattle.rz_tools.proofs.program.run.Goals as goal

-- An answer was carried out.
pub returns-in-Ok : goal.returns-in-Ok
returns-in-Ok g c =
    let words = map string_bytes c.args.words.now in
    let moment = c.args.moment in
    let result = c.carry_out.result in
    let told = g.F.Folder.files c.args.folder.now in
    let replied = c.in-Ok.ensures.replies in
    let made = c.carry_out.ensures.carried in
    let carried = carried_from made.0 _ result _ _ _ _ _ _ _ _ _ _ _ _ replied.reads.unchanged replied.reads.counted replied.reads.other_count replied.reads.unwritten made.2 in
    let fits = well_formed c.in-Ok.reply replied.sound made.0 made.1 in
    let ends = outcome_so c.in-Ok.reply made.0 made.1 in
    let answers = answers_so (AnswersWords words moment) c.in-Ok.reply made.0 made.1 told replied.answered in
    let answered = over_told told (λ files. AnswersWords words moment files made.0) (λ files. Answers words files moment made.0) (λ files so. so.0) answers in record {
      whole = (made.0, fits, carried, λ is. answered);
      exact = over_told told (λ files. Answers words files moment made.0) _ (λ files so. exact words moment _ _ result c.one_answer.ensures made.0 fits carried files so) answered;
      fileless = λ none files. exact words moment _ _ result c.one_answer.ensures made.0 fits carried files (c.in-Ok.ensures.fileless none files made.0 made.1);
      usage = λ position. record {
        only = λ is. replied.usage position (sym ends ∙ usage_of _ _ result made.0 carried (record { position = position }) is);
        always = λ is. or_else (c.in-Ok.ensures.every_usage position is) (λ e. cc)
            (λ so. stays_usage _ _ result made.0 carried (IsText c.in-Ok.reply) (record { position = position }) (ends ∙ so)
            (subst (λ (o : Outcome). (result ≡ o) ⊎ (result ≡ WriteFault) ⊎ ((result ≡ NoMemory) × IsText c.in-Ok.reply)) (sym ends) c.carry_out.ensures.ended));
      };
      tried = c.carry_out.ensures.tried;
      inverse = λ is. inverse words moment _ _ result told
          (λ asked as_asked. shows_again c.one_command.ensures.command c.shown_forks_are_read_again.ensures c.reserved_words_are_spared.ensures words moment _ _ made.0 result is carried
          asked as_asked (derez_free c.definitions_are_free.ensures words asked as_asked) answers)
          (λ asked as_asked. lists_back c.catalogues_are_put_back.ensures c.one_command.ensures.command words moment _ _ made.0 result is carried asked as_asked answers)
          (λ asked as_asked. leaves_others c.others_stay.ensures c.changed_catalogue.ensures c.one_command.ensures.command words moment _ _ made.0 result is carried asked as_asked answered);
    }

-- A read failed.
pub returns-in-Err-ReadFault : goal.returns-in-Err-ReadFault
returns-in-Err-ReadFault g c =
    let words = map string_bytes c.args.words.now in
    let reads = c.in-Err-ReadFault.ensures.replies.reads in
    let cause = reads.cause (did_fail Reply c.in-Err-ReadFault.field-0 c.in-Err-ReadFault.field-0-is) in record {
      whole = whole_read words c.args.moment _ _ reads.unchanged reads.unwritten refl cause c.put_line.ensures;
      exact = over_files (g.F.Folder.files c.args.folder.now) _
          (over_read words c.args.moment _ _ reads.unchanged reads.unwritten refl c.one_answer.ensures c.every_answer.ensures cause c.put_line.ensures);
      fileless = λ none. over_read words c.args.moment _ _ reads.unchanged reads.unwritten refl c.one_answer.ensures c.every_answer.ensures cause c.put_line.ensures;
      usage = λ position. record {
        only = λ is. absurd (cc is);
        always = λ is. or_else (c.in-Err-ReadFault.ensures.every_usage position is) (λ e. cc) (λ never. absurd never);
      };
      tried = refl;
      inverse = λ is. absurd (cc is);
    }

-- Memory was refused.
pub returns-in-Err-NoMemory : goal.returns-in-Err-NoMemory
returns-in-Err-NoMemory g c =
    let words = map string_bytes c.args.words.now in
    let reads = c.in-Err-NoMemory.ensures.replies.reads in record {
      whole = whole_none words c.args.moment _ _ reads.unchanged reads.unwritten refl c.put_line-in-Err-NoMemory.ensures;
      exact = over_files (g.F.Folder.files c.args.folder.now) _
          (over_none words c.args.moment _ _ reads.unchanged reads.unwritten refl c.one_answer.ensures c.every_answer.ensures c.put_line-in-Err-NoMemory.ensures);
      fileless = λ none. over_none words c.args.moment _ _ reads.unchanged reads.unwritten refl c.one_answer.ensures c.every_answer.ensures c.put_line-in-Err-NoMemory.ensures;
      usage = λ position. record { only = λ is. absurd (cc is); always = λ is. inr refl };
      tried = refl;
      inverse = λ is. absurd (cc is);
    }
