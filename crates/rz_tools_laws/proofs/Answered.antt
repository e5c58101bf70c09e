-- Words that ask for a sample are answered with its numbers.
use Rattle.std.proofs.Common.{◌≡◌, inl, ℕ, ◌<◌, ◌≤◌, List, [], ◌∷◌, Ok, refl, arith}
use Rattle.rz_core.specs.Decimal.{decimal_of}
use Rattle.rz_core.specs.declared.moment.Moment.{Moment}
use Rattle.rz_folder.specs.Folder.{Files}
use Rattle.rz_tools_laws.specs.Sampled.{alone, sample_fork, sample_text, sampled_lines, IsMadeAgain}
use Rattle.rz_tools.specs.Program.{command, Answers}
use Rattle.rz_tools.specs.Sample.{IsSampled}
use Rattle.rz_tools_answer.specs.Answer.{shown, Answer}
use Rattle.rz_tools_args.specs.Command.{places_of, ArePlaces, IsCommand, Item}
use Rattle.rz_tools_args.specs.declared.name.CommandName.TheVariants.{Sample}
use Rattle.rz_tools_args.specs.declared.syntax.Places.TheVariants.{Count}

sampled : (count : ℕ) (moment : Moment) → IsMadeAgain count moment → IsSampled count moment (Ok (sampled_lines count))
sampled count moment all = inl (alone (sample_fork count), all.made, inl (alone (sample_text count), all.shown, inl (alone (sample_fork count), all.again, refl)))

module _ (made : (count : ℕ) → 0 < count → count ≤ 5000 → (moment : Moment) → IsMadeAgain count moment)
    (one : (words : List (List ℕ)) (files : Files) (moment : Moment) (answer another : Answer) → Answers words files moment answer → Answers words files moment another → answer ≡ another) where
  pub answered : (words : List (List ℕ)) (items : List Item) (files : Files) (moment : Moment) (answer : Answer)
      → IsCommand words (record { name = Sample; items = items }) → Answers words files moment answer
      → (count : ℕ) × (0 < count) × (count ≤ 5000) × (places_of items ≡ decimal_of count ∷ []) × (answer ≡ shown (sampled_lines count))
  answered words items files moment answer is answers = by is.places
    where
      by : ArePlaces (Count 5000) (places_of items) → (count : ℕ) × (0 < count) × (count ≤ 5000) × (places_of items ≡ decimal_of count ∷ []) × (answer ≡ shown (sampled_lines count))
      by (count, says, some, few) =
          let more : 0 < count = omega (arith, some) in (
            count,
            more,
            few,
            says,
            one words files moment answer (shown (sampled_lines count)) answers
                (command (record { name = Sample; items = items }) is (count, (says, omega (arith, few)), (Ok (sampled_lines count), sampled count moment (made count more few moment), refl))),
          )
