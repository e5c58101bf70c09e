-- One step of the loops over the variables and the arguments of a host in memory.
use Rattle.std.proofs.Common.{◌≡◌, ℕ, ◌+◌, ◌<◌, Bool, true, false, List, [], map, drop, get_or, length, Bor, Some, Err, sym, ap, subst, ◌∙◌}
use Rattle.std.specs.Prelude.{IsUtf8, if◌then◌else◌}
use Rattle.std.specs.Str.{bytes_eq}
use Rattle.std.proofs.lemmas.List.{at_drop_more, get_or-map, length-map}
use Rattle.rz_core.specs.declared.stop.Stop.{Stop}
use Rattle.rz_core.specs.declared.stop.Stop.TheVariants.{Refused, NoMemory}
use Rattle.rz_tools_host.specs.MemHost.{pairs_of, value_in}
use Rattle.rz_tools_host.specs.Process.{GivesText, GivesTexts}
use Rattle.rz_tools_host.specs.declared.host.NotText.{NotText}

module _ (variables : List (Bor (List ℕ) × Bor (List ℕ))) (i : ℕ) (d : Bor (List ℕ) × Bor (List ℕ)) (name : List ℕ) (within : i < length variables) where
  step : (same : Bool) → same ≡ bytes_eq name (get_or variables i d).0.now
      → (if same then Some (get_or variables i d).1.now else value_in (pairs_of (drop (i + 1) variables)) name) ≡ value_in (pairs_of (drop i variables)) name
  step same is =
      ap (λ (same : Bool). if same then Some (get_or variables i d).1.now else value_in (pairs_of (drop (i + 1) variables)) name) is
      ∙ sym (at_drop_more (λ (rest : List (Bor (List ℕ) × Bor (List ℕ))). value_in (pairs_of rest) name) variables i d within)

  -- the variable has the name
  pub value_here : true ≡ bytes_eq name (get_or variables i d).0.now → Some (get_or variables i d).1.now ≡ value_in (pairs_of (drop i variables)) name
  value_here is = step true is

  -- it has another
  pub value_after : false ≡ bytes_eq name (get_or variables i d).0.now → value_in (pairs_of (drop (i + 1) variables)) name ≡ value_in (pairs_of (drop i variables)) name
  value_after is = step false is

-- an argument that is no text
pub not_all : (args : List (Bor (List ℕ))) (i : ℕ) (d : Bor (List ℕ)) → i < length args → (stop : Stop NotText) → GivesText (get_or args i d).now (Err stop)
    → GivesTexts (map (λ (arg : Bor (List ℕ)). arg.now) args) (Err stop)
not_all args i d within (Refused not_text) none =
    λ all.
    none (subst IsUtf8 (get_or-map (λ (arg : Bor (List ℕ)). arg.now) args i d [] within)
    (all i [] (subst (λ (n : ℕ). i < n) (sym (length-map args (λ (arg : Bor (List ℕ)). arg.now))) within)))
not_all args i d within NoMemory none = tt
