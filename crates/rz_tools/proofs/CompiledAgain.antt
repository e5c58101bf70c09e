-- The text that is shown of resources, as the one source of rez.
use Rattle.std.proofs.Common.{◌≡◌, inl, ℕ, Bool, false, if◌then◌else◌, List, [], ◌∷◌, None, Option, Some, Ok, refl, sym, ap, subst}
use Rattle.std.specs.Prelude.{is_some}
use Rattle.std.specs.Str.{str_to_ascii_lowercase}
use Rattle.std.specs.FinMap as finite
use Rattle.std.specs.declared.result.Result.{Result}
use Rattle.rz_core.specs.declared.fault.Fault.{Fault}
use Rattle.rz_core.specs.declared.moment.Moment.{Moment}
use Rattle.rz_core.specs.declared.resource.Resource.{Resource}
use Rattle.rz_folder.specs.Folder.{Files}
use Rattle.rz_pre.specs.Program.{NamesGo, State, start}
use Rattle.rz_pre.specs.declared.condition.Tool.TheVariants as tools
use Rattle.rz_tools.specs.Again.{MeansAgain}
use Rattle.rz_tools_text.specs.Shown.{Known}
use Rattle.rz_pre.specs.Live.{Live}
use Rattle.rz_tools_answer.specs.Answer.{or_refused, written}
use Rattle.rz_tools.specs.Program.{command, Answers}
use Rattle.rz_tools_args.specs.declared.name.CommandName.TheVariants as names
use Rattle.rz_tools_output.specs.Base.{base_in, base_of, new_base, or_empty}
use Rattle.rz_tools_output.specs.Output.{IsOutput}
use Rattle.rz_tools.specs.Rez.{around_of, AnswersRez, Compiles, IsRez, RezAsked}
use Rattle.rz_tools_output.specs.Templates.{TypesOf}
use Rattle.rz_tools.specs.Sources.{compiled}
use Rattle.rz_tools_answer.specs.Warning.{said_beside}
use Rattle.rz_tools_work.specs.Work.{Work}

-- what is known where no types are declared and these are the macros
abbrev pub bare_known : Live → Moment → Known
bare_known live moment = record { types = []; is_macro = λ name. is_some (live (str_to_ascii_lowercase name)); moment = moment }

module _ (text : List ℕ) (list : List Resource) (asked : RezAsked) (files : Files) (moment : Moment) (name : List ℕ) (new : asked.append ≡ false) (bare : asked.tmpl ≡ None)
    (again : MeansAgain (bare_known (start asked.defs).live moment) text list) (held : finite.get files name ≡ Some text)
    (output : Result (List ℕ) Fault) (is_output : IsOutput asked.target moment new_base list output) where
  after : State
  after = record { live = (start asked.defs).live; tokens = (again.read files name asked.paths (start asked.defs) held (λ word. refl)).0; files = name ∷ [] }

  work : Work
  work = record { types = []; list = list; warnings = [] }

  goes : NamesGo tools.Rez files asked.paths (name ∷ []) (start asked.defs)
      (Ok (record { live = (start asked.defs).live; tokens = (again.read files name asked.paths (start asked.defs) held (λ word. refl)).0; files = name ∷ [] }))
  goes = inl (_, (again.read files name asked.paths (start asked.defs) held (λ word. refl)).1, refl)

  -- the program begins with nothing
  declares : TypesOf asked.tmpl files (Ok [])
  declares = subst (λ (name : Option (List ℕ)). TypesOf name files (Ok [])) (sym bare) refl

  begins : base_of asked.append asked.target.name files ≡ Ok new_base
  begins = ap (λ (append : Bool). if append then base_in false None (or_empty (finite.get files asked.target.name)) else Ok new_base) new

  compiles : asked.files ≡ name ∷ [] → Compiles moment asked files (said_beside (name ∷ []) [] output)
  unfolding after work
  compiles sole =
      let read = again.read files name asked.paths (start asked.defs) held (λ word. refl) in
      inl (
        after,
        subst (λ (names : List (List ℕ)). NamesGo tools.Rez files asked.paths names (start asked.defs) (Ok after)) (sym sole) goes,
        inl (
          [],
          declares,
          inl (
            new_base,
            begins,
            inl (
              compiled after work,
              (read.2.0, read.2.1, (work, read.2.2 (around_of moment asked files) [] refl refl, refl)),
              (output, is_output, refl),
            ),
          ),
        ),
      )

  pub compiles_alone : (words : List (List ℕ)) → IsRez words asked → asked.files ≡ name ∷ []
      → Answers words files moment (or_refused (written asked.target.name) (said_beside (name ∷ []) [] output))
  compiles_alone words (items, is, same) sole =
      command (record { name = names.Rez; items = items }) is
      (subst (λ (a : RezAsked). AnswersRez a files moment (or_refused (written asked.target.name) (said_beside (name ∷ []) [] output))) same
      (said_beside (name ∷ []) [] output, compiles sole, refl))
