-- The files of names one after the other.
use Rattle.std.proofs.Common.{inl, inr, ℕ, List, [], ◌∷◌, ◌++◌, refl, sym, subst, ◌∙◌}
use Rattle.std.specs.declared.result.Result.{Result}
use Rattle.rz_core.proofs.Once.{ok_or_err, same_ok}
use Rattle.rz_core.specs.Answers.{Then}
use Rattle.rz_folder.specs.Folder.{Files}
use Rattle.rz_pre.specs.Program.{NamesGo, State}
use Rattle.rz_pre.specs.declared.condition.Tool.{Tool}
use Rattle.rz_pre.specs.declared.program.Failure.{Failure}

module _ (tool : Tool) (files : Files) (paths others : List (List ℕ)) where
  abbrev Both : List (List ℕ) → State → Result State Failure → Type 0
  Both names s = Then (NamesGo tool files paths names s) (λ t. NamesGo tool files paths others t)

  pub both_go : (names : List (List ℕ)) (s : State) (answer : Result State Failure) → Both names s answer → NamesGo tool files paths (names ++ others) s answer
  both_go [] s answer (inl (t, is, goes)) = subst (λ (t : State). NamesGo tool files paths others t answer) (same_ok {F = Failure} t s is) goes
  both_go [] s answer (inr (failure, is, so)) = absurd (ok_or_err s failure (sym is))
  both_go (name ∷ names) s answer (inl (t, inl (after, goes, further), more)) = inl (after, goes, both_go names after answer (inl (t, further, more)))
  both_go (name ∷ names) s answer (inl (t, inr (failure, goes, is), more)) = absurd (ok_or_err t failure is)
  both_go (name ∷ names) s answer (inr (failure, inl (after, goes, further), so)) = inl (after, goes, both_go names after answer (inr (failure, further, so)))
  both_go (name ∷ names) s answer (inr (failure, inr (own, goes, is), so)) = inr (own, goes, so ∙ is)

  pub both_went : (names : List (List ℕ)) (s : State) (answer : Result State Failure) → NamesGo tool files paths (names ++ others) s answer → Both names s answer
  both_went [] s answer goes = inl (s, refl, goes)
  both_went (name ∷ names) s answer (inl (after, goes, further)) = by (both_went names after answer further)
    where
      by : Both names after answer → Both (name ∷ names) s answer
      by (inl (t, first, more)) = inl (t, inl (after, goes, first), more)
      by (inr (failure, first, so)) = inr (failure, inl (after, goes, first), so)
  both_went (name ∷ names) s answer (inr (failure, goes, is)) = inr (failure, inr (failure, goes, refl), is)
