-- A sample, from its steps.
use Rattle.std.proofs.Common.{◌≡◌, ℕ, List, [], ◌∷◌, ◌++◌, Option, Some, Ok, Err, inl, ap, sym, subst, ◌∙◌, arith}
use Rattle.std.specs.Prelude.{IsErrAnd}
use Rattle.std.specs.FinMap as finite
use Rattle.std.specs.declared.result.Result.{Result}
use Rattle.rz_core.proofs.Stops.{then_halts, then_yields}
use Rattle.rz_bridge_files.specs.declared.form.Form.{Form}
use Rattle.rz_core.specs.Stop.{seen, IsReadFault, OnRefusal, Yields}
use Rattle.rz_core.specs.declared.moment.Moment.{Moment}
use Rattle.rz_core.specs.declared.stop.Halt.{Halt}
use Rattle.rz_core.specs.declared.stop.Halt.TheVariants as halts
use Rattle.rz_folder.specs.Counts.{Rose}
use Rattle.rz_folder.specs.Folder.{Files}
use Rattle.rz_folder.specs.Sink.{all_out, PutsOut, Stream}
use Rattle.rz_folder.specs.declared.sink.Put.{Put}
use Rattle.rz_folder.specs.declared.sink.Put.TheVariants.{Done}
use Rattle.rz_tools_answer.specs.Answer.{Making}
use Rattle.rz_tools_answer.specs.Made.{making_of, IsSayable}
use Rattle.rz_tools_answer.specs.declared.made.Failing.{Failing}
use Rattle.rz_tools_answer.specs.declared.made.Made.{Made}
use Rattle.rz_tools.specs.Again.{OfFile}
use Rattle.rz_tools.specs.DeRez.{DeRezAsked, Shows}
use Rattle.rz_tools.specs.Held.{ShowsText}
use Rattle.rz_tools.specs.Rez.{Compiles, RezAsked}
use Rattle.rz_tools.specs.declared.reply.ForkShown.{ForkShown}
use Rattle.rz_tools_output.specs.SampleSource.{sample_lines}
use Rattle.rz_tools.specs.Sample.{in_memory, CompilesAgain, CompilesSample, IsSampled, IsSampledBehind, IsSampledWith, ShowsSample}

-- Files in memory, and names.

pub one_file : (none shelf : Files) (name piece bytes : List ℕ) → none ≡ finite.empty → piece ≡ bytes → shelf ≡ finite.insert none name piece
    → shelf ≡ in_memory ((name, bytes) ∷ [])
one_file none shelf name piece bytes empty is held =
    held ∙ ap (λ (files : Files). finite.insert files name piece) empty ∙ ap (λ (b : List ℕ). finite.insert finite.empty name b) is

pub two_files : (none first shelf : Files) (name piece bytes other more others : List ℕ) → none ≡ finite.empty → piece ≡ bytes → first ≡ finite.insert none name piece
    → more ≡ others → shelf ≡ finite.insert first other more → shelf ≡ in_memory ((name, bytes) ∷ (other, others) ∷ [])
two_files none first shelf name piece bytes other more others empty is held also holds =
    holds ∙ ap (λ (files : Files). finite.insert files other more) (one_file none first name piece bytes empty is held)
    ∙ ap (λ (b : List ℕ). finite.insert (in_memory ((name, bytes) ∷ [])) other b) also

pub one_name : (none names : List (List ℕ)) (name : List ℕ) → none ≡ [] → names ≡ none ++ name ∷ [] → names ≡ name ∷ []
one_name none names name empty is = is ∙ ap (λ (l : List (List ℕ)). l ++ name ∷ []) empty

pub two_names : (none first names : List (List ℕ)) (name other : List ℕ) → none ≡ [] → first ≡ none ++ name ∷ [] → names ≡ first ++ other ∷ [] → names ≡ name ∷ other ∷ []
two_names none first names name other empty is also = also ∙ ap (λ (l : List (List ℕ)). l ++ other ∷ []) (one_name none first name empty is)

-- what is asked for, and the files, in other words
pub compiles_so : (moment : Moment) (asked other : RezAsked) (files others : Files) → asked ≡ other → files ≡ others → (result : Result Made (Halt Failing))
    → Yields (seen making_of result) (Compiles moment asked files) → Yields (seen making_of result) (Compiles moment other others)
compiles_so moment asked other files others same are result yields =
    subst (λ (held : Files). Yields (seen making_of result) (Compiles moment other held)) are
    (subst (λ (one : RezAsked). Yields (seen making_of result) (Compiles moment one files)) same yields)

pub shows_so : (moment : Moment) (asked other : DeRezAsked) (files others : Files) → asked ≡ other → files ≡ others → (end : Result Making (Halt Failing))
    → Yields end (Shows moment asked files) → Yields end (Shows moment other others)
shows_so moment asked other files others same are end yields =
    subst (λ (held : Files). Yields end (Shows moment other held)) are (subst (λ (one : DeRezAsked). Yields end (Shows moment one files)) same yields)

-- a text that was put on a sink of its own
pub collected : (held after bytes text : List ℕ) (put : Put) → held ≡ [] → bytes ≡ after → put ≡ Done → PutsOut text (Some (all_out held)) (Some (all_out after)) (Ok put)
    → bytes ≡ text
collected held after bytes text put empty are is told =
    are ∙ ap (λ (s : Stream). s.out) (subst (λ (p : Put). PutsOut text (Some (all_out held)) (Some (all_out after)) (Ok p)) is told)
    ∙ ap (λ (l : List ℕ). (l ++ []) ++ text) empty

-- The steps.

-- a call that ends all
pub ended : (answers : Result Making Failing → Type 0) (stop : Halt Failing) → Yields {X = Making} (Err stop) answers
    → (result : Result Made (Halt Failing)) → IsErrAnd result (λ end. end ≡ stop) → Yields (seen making_of result) answers
ended answers stop stopped (Ok made) is = absurd is
ended answers stop stopped (Err end) is = subst (λ (one : Halt Failing). Yields {X = Making} (Err one) answers) (sym is) stopped

module _ (count : ℕ) (moment : Moment) (fork : Making) (compiled : CompilesSample count moment (Ok fork)) where
  behind_fork : (stop : Halt Failing) → Yields {X = Making} (Err stop) (IsSampledBehind count moment fork.bytes) → Yields {X = Making} (Err stop) (IsSampled count moment)
  behind_fork stop yields =
      then_yields (CompilesSample count moment) (λ (made : Making). IsSampledBehind count moment made.bytes) fork compiled (Err stop) yields

  -- the fork isn't shown
  pub text_stopped : (stop : Halt Failing) → Yields {X = Making} (Err stop) (ShowsSample moment fork.bytes)
      → (result : Result Made (Halt Failing)) → IsErrAnd result (λ end. end ≡ stop) → Yields (seen making_of result) (IsSampled count moment)
  text_stopped stop stopped =
      ended (IsSampled count moment) stop
      (behind_fork stop (then_halts (ShowsSample moment fork.bytes) (λ (page : Making). IsSampledWith count moment fork.bytes page.bytes) stop stopped))

module _ (count : ℕ) (moment : Moment) (fork text : Making) (compiled : CompilesSample count moment (Ok fork)) (showed : ShowsSample moment fork.bytes (Ok text)) where
  -- the text isn't compiled
  pub again_stopped : (stop : Halt Failing) → Yields {X = Making} (Err stop) (CompilesAgain moment text.bytes)
      → (result : Result Made (Halt Failing)) → IsErrAnd result (λ end. end ≡ stop) → Yields (seen making_of result) (IsSampled count moment)
  again_stopped stop stopped =
      ended (IsSampled count moment) stop
      (behind_fork count moment fork compiled stop
      (then_yields (ShowsSample moment fork.bytes) (λ (page : Making). IsSampledWith count moment fork.bytes page.bytes) text showed (Err stop)
      (then_halts (CompilesAgain moment text.bytes) (λ again answer. answer ≡ Ok (record { bytes = sample_lines count fork.bytes text.bytes again.bytes; said = [] })) stop stopped)))

  pub again_made : (again : Making) (lines said : List ℕ) → CompilesAgain moment text.bytes (Ok again) → lines ≡ sample_lines count fork.bytes text.bytes again.bytes → said ≡ []
      → IsSampled count moment (Ok (record { bytes = lines; said = said }))
  again_made again lines said made are silent =
      inl (
        fork,
        compiled,
        inl (
          text,
          showed,
          inl (
            again,
            made,
            ap (λ (bytes : List ℕ). Ok (record { bytes = bytes; said = said })) are ∙ ap (λ (none : List ℕ). Ok (record { bytes = sample_lines count fork.bytes text.bytes again.bytes; said = none })) silent,
          ),
        ),
      )

-- the end of a call, as that of another
module _ (end : Halt Failing) where
  pub ended_made : (answers : Result Making Failing → Type 0) (result : Result Made (Halt Failing)) → IsErrAnd result (λ e. e ≡ end) → Yields {X = Making} (Err end) answers
      → Yields (seen making_of result) answers
  ended_made answers result is stopped = ended answers end stopped result is

  pub end_sayable : (result : Result Made (Halt Failing)) → IsErrAnd result (λ e. e ≡ end) → OnRefusal {X = ForkShown} (Err end) IsSayable → OnRefusal (seen making_of result) IsSayable
  end_sayable (Ok made) is sayable = absurd is
  end_sayable (Err other) is sayable = subst (λ (h : Halt Failing). OnRefusal {X = Making} (Err h) IsSayable) (sym is) (by end sayable)
    where
      by : (end : Halt Failing) → OnRefusal {X = ForkShown} (Err end) IsSayable → OnRefusal {X = Making} (Err end) IsSayable
      by (halts.Refused failing) sayable = sayable
      by halts.ReadFault sayable = tt
      by halts.NoMemory sayable = tt

  pub end_unread : (result : Result Made (Halt Failing)) → IsErrAnd result (λ e. e ≡ end) → (IsReadFault {X = ForkShown} (Err end) → ⊥) → IsReadFault (seen making_of result) → ⊥
  end_unread (Ok made) is unread failed = absurd is
  end_unread (Err other) is unread failed = unread (by end (subst (λ (h : Halt Failing). IsReadFault {X = Making} (Err h)) is failed))
    where
      by : (end : Halt Failing) → IsReadFault {X = Making} (Err end) → IsReadFault {X = ForkShown} (Err end)
      by (halts.Refused failing) failed = failed
      by halts.ReadFault failed = failed
      by halts.NoMemory failed = failed

-- what a fork that isn't shown answers
pub same_end : (form : Option Form) (name : List ℕ) (answers : Files → Result Making Failing → Type 0) (files : Files) (end : Halt Failing)
    → Yields {X = ForkShown} (Err end) (OfFile form name (λ files. ShowsText (answers files)) files) → Yields {X = Making} (Err end) (answers files)
same_end form name answers files (halts.Refused failing) told = told.0 [] tt
same_end form name answers files halts.ReadFault told = tt
same_end form name answers files halts.NoMemory told = tt

-- a shelf meets no fault of a read
pub never_fails : {P : Type 0} → (P → Rose 0 0) → P → ⊥
never_fails cause failed = let rose = cause failed in omega (arith, rose)
