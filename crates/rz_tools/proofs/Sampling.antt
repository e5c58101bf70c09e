-- A sample has one answer, and at least one.
use Rattle.std.proofs.Common.{◌≡◌, ◌<◌, ◌^◌, ℕ, List, [], ◌∷◌, Ok, refl, sym, ap, subst, ◌∙◌, arith}
use Rattle.std.specs.Prelude.{codes}
use Rattle.std.proofs.lemmas.Fmt.{decimal_injective}
use Rattle.rz_core.proofs.Has.{has_is, has_then, Has}
use Rattle.rz_core.proofs.Once.{once_is, once_then, Once}
use Rattle.rz_core.specs.Decimal.{decimal_of}
use Rattle.rz_core.specs.declared.moment.Moment.{Moment}
use Rattle.rz_folder.specs.Folder.{Files}
use Rattle.rz_tools_answer.specs.Answer.{or_refused, shown, Answer}
use Rattle.rz_tools_args.specs.Command.{ArePlaces}
use Rattle.rz_tools_args.specs.declared.syntax.Places.TheVariants.{Count}
use Rattle.rz_tools.specs.DeRez.{DeRezAsked, Shows}
use Rattle.rz_tools.specs.Rez.{Compiles, RezAsked}
use Rattle.rz_tools_output.specs.SampleSource.{sample_lines, sample_source, sample_types}
use Rattle.rz_tools.specs.Sample.{derez_of, in_memory, rez_of, AnswersSample, CompilesAgain, CompilesSample, IsCount, IsSampled, ShowsSample}

-- words are one number at most
same_decimal : (one other : ℕ) → one < 2 ^ 32 → other < 2 ^ 32 → decimal_of one ≡ decimal_of other → one ≡ other
unfolding decimal_of
same_decimal one other few fewer is = decimal_injective one other (omega (arith, few)) (omega (arith, fewer)) is

one_count : (words : List (List ℕ)) (one other : ℕ) → IsCount words one → IsCount words other → one ≡ other
one_count words one other (is, few) (also, fewer) = same_decimal one other few fewer (first (decimal_of one) (decimal_of other) (sym is ∙ also))
  where
    first : (a b : List ℕ) → a ∷ [] ≡ b ∷ [] → a ≡ b
    first a b same = cc same

module _ (rez : (moment : Moment) (asked : RezAsked) (files : Files) → Once (Compiles moment asked files))
    (derez : (moment : Moment) (asked : DeRezAsked) (files : Files) → Once (Shows moment asked files)) where
  once_sampled : (count : ℕ) (moment : Moment) → Once (IsSampled count moment)
  once_sampled count moment =
      once_then (CompilesSample count moment) _ (rez moment (rez_of (codes "source" ∷ [])) (in_memory ((codes "source", sample_source count) ∷ [])))
      (λ fork. once_then (ShowsSample moment fork.bytes) _ (derez moment (derez_of (codes "fork") (codes "types")) (in_memory ((codes "fork", fork.bytes) ∷ (codes "types", sample_types) ∷ [])))
      (λ text. once_then (CompilesAgain moment text.bytes) _ (rez moment (rez_of (codes "types" ∷ codes "text" ∷ [])) (in_memory ((codes "types", sample_types) ∷ (codes "text", text.bytes) ∷ [])))
      (λ again. once_is (Ok (record { bytes = sample_lines count fork.bytes text.bytes again.bytes; said = [] })))))

  pub one_sample : (words : List (List ℕ)) (moment : Moment) (a b : Answer) → AnswersSample words moment a → AnswersSample words moment b → a ≡ b
  one_sample words moment a b (count, told, is) (other, tells, also) =
      let same : count ≡ other = one_count words count other told tells in
      is.2 ∙ ap (or_refused shown) (once_sampled count moment is.0 also.0 is.1 (subst (λ n. IsSampled n moment also.0) (sym same) also.1)) ∙ sym also.2

module _ (rez : (moment : Moment) (asked : RezAsked) (files : Files) → Has (Compiles moment asked files))
    (derez : (moment : Moment) (asked : DeRezAsked) (files : Files) → Has (Shows moment asked files)) where
  has_sampled : (count : ℕ) (moment : Moment) → Has (IsSampled count moment)
  has_sampled count moment =
      has_then (CompilesSample count moment) _ (rez moment (rez_of (codes "source" ∷ [])) (in_memory ((codes "source", sample_source count) ∷ [])))
      (λ fork compiled. has_then (ShowsSample moment fork.bytes) _ (derez moment (derez_of (codes "fork") (codes "types")) (in_memory ((codes "fork", fork.bytes) ∷ (codes "types", sample_types) ∷ [])))
      (λ text showed. has_then (CompilesAgain moment text.bytes) _ (rez moment (rez_of (codes "types" ∷ codes "text" ∷ [])) (in_memory ((codes "types", sample_types) ∷ (codes "text", text.bytes) ∷ [])))
      (λ again made. has_is (Ok (record { bytes = sample_lines count fork.bytes text.bytes again.bytes; said = [] })))))

  pub has_sample : (words : List (List ℕ)) (moment : Moment) → ArePlaces (Count 5000) words → (answer : Answer) × AnswersSample words moment answer
  has_sample words moment (count, is, some, few) =
      let made = has_sampled count moment in
      (or_refused shown made.0, (count, (is, omega (arith, few)), (made.0, made.1, refl)))
