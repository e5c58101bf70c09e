-- What `restring` writes has the texts of its catalogue, and all else stays.
use Rattle.std.proofs.Common.{◌≡◌, inl, inr, ℕ, Bool, List, [], ◌∷◌, map, Option, Some, None, Ok, Err, sym, ap, subst, ◌∙◌}
use Rattle.std.specs.Prelude.{IfSome}
use Rattle.std.specs.declared.result.Result.{Result}
use Rattle.rz_catalog.specs.Apply.{Applied}
use Rattle.rz_catalog.specs.Became.{with_text, BecameEach}
use Rattle.rz_catalog.specs.Catalogue.{IsCatalogue}
use Rattle.rz_catalog_text.specs.declared.entry.Entry.{Entry}
use Rattle.rz_core.specs.declared.fault.Fault.{Fault}
use Rattle.rz_core.specs.declared.moment.Moment.{Moment}
use Rattle.rz_core.specs.declared.resource.Resource.{Resource}
use Rattle.rz_folder.specs.Folder.{Files}
use Rattle.rz_tools.proofs.OneAnswer.{OneCommand}
use Rattle.rz_tools.proofs.Showing.{same_making}
use Rattle.rz_tools.proofs.ShownAgain.{made_or_not, not_refused, of_asked}
use Rattle.rz_tools.specs.Catalogues.{IsChangedFile, LeavesOthers}
use Rattle.rz_tools.specs.Program.{Answers}
use Rattle.rz_tools.specs.Restring.{AnswersRestring, IsRestring, RestringAsked}
use Rattle.rz_tools_answer.specs.Answer.{files_after, Answer, Making, Write}
use Rattle.rz_tools_answer.specs.Carried.{CarriesOut}
use Rattle.rz_tools_answer.specs.World.{World}
use Rattle.rz_tools_answer.specs.declared.outcome.Outcome.{Outcome}
use Rattle.rz_tools_answer.specs.declared.outcome.Outcome.TheVariants.{Done}
use Rattle.rz_tools_args.specs.declared.name.CommandName.TheVariants as names
use Rattle.rz_types_table.specs.Table.{Declaration}

abbrev pub ResourcesBecome : Type 0
ResourcesBecome =
    (types : List Declaration) (moment : Moment) (over : Bool) (list new : List Resource) (entries : List Entry) → Applied types moment over list entries (Ok new)
    → BecameEach types moment entries list new

abbrev pub CataloguesBecome : Type 0
CataloguesBecome =
    (types : List Declaration) (moment : Moment) (over : Bool) (list new : List Resource) (entries own : List Entry) → Applied types moment over list entries (Ok new)
    → IsCatalogue types moment list own → IsCatalogue types moment new (map (with_text entries) own)

ok_err : {X : Type 0} (value : X) (fault : Fault) → ◌≡◌ {A = Result X Fault} (Ok value) (Err fault) → ⊥
ok_err value fault is = cc is

module _ (law : ResourcesBecome) (listed_law : CataloguesBecome) (moment : Moment) (asked : RestringAsked) (files : Files) where
  abbrev Written : Answer → Type 0
  Written wanted = (bytes : List ℕ) × IsChangedFile moment asked files bytes × (wanted.writes ≡ record { name = asked.output; bytes = bytes } ∷ [])

  changed : (wanted : Answer) → AnswersRestring asked files moment wanted → wanted.outcome ≡ Done → Written wanted
  changed wanted (Err failing, makes, is) done = absurd (not_refused failing.fault (sym (ap (λ (a : Answer). a.outcome) is) ∙ done))
  changed wanted (Ok making, inr (failing, first, same), is) done = absurd (made_or_not making failing same)
  changed wanted (Ok making, inl (compiled, types, (Err fault, has, same)), is) done = absurd (made_or_not making _ same)
  changed wanted (Ok making, inl (compiled, types, (Ok bytes, inr (fault, first, stops), same)), is) done = absurd (ok_err bytes fault stops)
  changed wanted (Ok making, inl (compiled, types, (Ok bytes, inl (base, held, inr (fault, first, stops)), same)), is) done = absurd (ok_err bytes fault stops)
  changed wanted (Ok making, inl (compiled, types, (Ok bytes, inl (base, held, inl (entries, listed, inr (fault, first, stops))), same)), is) done = absurd (ok_err bytes fault stops)
  changed wanted (Ok making, inl (compiled, types, (Ok bytes, inl (base, held, inl (entries, listed, inl (list, applied, output))), same)), is) done = (
    bytes,
    record {
      compiled = compiled;
      types = types;
      base = base;
      held = held;
      entries = entries;
      listed = listed;
      list = list;
      applied = applied;
      became = law compiled.work.types moment asked.over base.fork.list list entries applied;
      again = λ own. listed_law compiled.work.types moment asked.over base.fork.list list entries own applied;
      output = output;
    },
    ap (λ (a : Answer). a.writes) is ∙ ap (λ (m : Making). record { name = asked.output; bytes = m.bytes } ∷ []) (same_making making _ same),
  )

-- the answer to words that are `restring`
restring_answered : (commands : OneCommand) (words : List (List ℕ)) (asked : RestringAsked) → IsRestring words asked → (files : Files) (moment : Moment) (wanted : Answer)
    → Answers words files moment wanted → AnswersRestring asked files moment wanted
restring_answered commands words asked (items, is, same) files moment wanted answers =
    subst (λ (a : RestringAsked). AnswersRestring a files moment wanted) (sym same) (of_asked commands words (record { name = names.Restring; items = items }) is files moment wanted answers)

-- a run that is done
module _ (law : ResourcesBecome) (listed_law : CataloguesBecome) (commands : OneCommand) (words : List (List ℕ)) (moment : Moment) (before after : World) (done : Answer) where
  pub leaves_others : (result : Outcome) → result ≡ Done → CarriesOut done before after result → (asked : RestringAsked) → IsRestring words asked
      → IfSome before.files (λ files. Answers words files moment done) → IfSome before.files (λ files. LeavesOthers moment asked files after.files)
  leaves_others result is carried asked as_asked answers =
      let ends = (subst (λ r. CarriesOut done before after r) is carried).ends in
      by before.files ends.0 ends.1.files answers
    where
      by : (b : Option Files) → done.outcome ≡ Done → IfSome b (λ files. after.files ≡ Some (files_after done.writes files)) → IfSome b (λ files. Answers words files moment done)
          → IfSome b (λ files. LeavesOthers moment asked files after.files)
      by None ended written answers = tt
      by (Some files) ended written answers =
          let made = changed law listed_law moment asked files done (restring_answered commands words asked as_asked files moment done answers) ended in
          (made.0, made.1, written ∙ ap (λ (writes : List Write). Some (files_after writes files)) made.2)
