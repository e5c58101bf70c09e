-- One resource more of a list of references.
use Rattle.std.proofs.Common.{◌≡◌, ℕ, ◌+◌, ◌<◌, List, [], ◌∷◌, ◌++◌, length, take, drop, get_or, sym, ap, ◌∙◌, arith, Bor, append_assoc, length-append}
use Rattle.std.proofs.lemmas.List.{at_drop_more, take_more, map-append}
use Rattle.std.proofs.lemmas.List.Concat.{flat_map-append}
use Rattle.std.specs.List.{flat_map}
use Rattle.rz_core.specs.Lists.{with_front}
use Rattle.rz_core.specs.Numbers.{be, length-be_4}
use Rattle.rz_core.specs.declared.resource.Resource.{Resource}
use Rattle.rz_fork.specs.Groups.{shown}
use Rattle.rz_fork.specs.Image.{data_area, stored_data}

module _ (rs : List (Bor Resource)) (i : ℕ) (r : Bor Resource) (within : i < length rs) (is : r ≡ get_or rs i r) where
  pub rest_step : shown (drop i rs) ≡ r.now ∷ shown (drop (i + 1) rs)
  rest_step = at_drop_more shown rs i r within ∙ ap (λ (x : Bor Resource). x.now ∷ shown (drop (i + 1) rs)) (sym is)

  pub front_step : shown (take (i + 1) rs) ≡ shown (take i rs) ++ r.now ∷ []
  front_step =
      ap shown (take_more rs i r within) ∙ map-append (λ x. x.now) (take i rs) (get_or rs i r ∷ [])
      ∙ ap (λ (x : Bor Resource). shown (take i rs) ++ x.now ∷ []) (sym is)

  -- what is made of each resource and those before it
  pub with_front_step : {B : Type 0} (f : List Resource → Resource → List B)
      → with_front f (shown (take i rs)) (shown (drop i rs)) ≡ f (shown (take i rs)) r.now ++ with_front f (shown (take (i + 1) rs)) (shown (drop (i + 1) rs))
  with_front_step f =
      ap (with_front f (shown (take i rs))) rest_step
      ∙ ap (λ (front : List Resource). f (shown (take i rs)) r.now ++ with_front f front (shown (drop (i + 1) rs))) (sym front_step)

  -- the length of what is made of each resource, still to come and after
  pub length_rest : (f : Resource → List ℕ) → length (flat_map f (shown (drop i rs))) ≡ length (f r.now) + length (flat_map f (shown (drop (i + 1) rs)))
  length_rest f = ap (λ (l : List Resource). length (flat_map f l)) rest_step ∙ length-append (f r.now) (flat_map f (shown (drop (i + 1) rs)))

  pub length_front : (f : Resource → List ℕ) → length (flat_map f (shown (take (i + 1) rs))) ≡ length (flat_map f (shown (take i rs))) + length (f r.now)
  length_front f =
      ap (λ (l : List Resource). length (flat_map f l)) front_step
      ∙ ap length (flat_map-append f (shown (take i rs)) (r.now ∷ []))
      ∙ omega (arith, length-append (flat_map f (shown (take i rs))) (f r.now ++ []), length-append (f r.now) [])

  pub data_rest : length (data_area (shown (drop i rs))) ≡ 4 + length r.now.bytes + length (data_area (shown (drop (i + 1) rs)))
  data_rest = length_rest stored_data ∙ omega (arith, length-be_4 (length r.now.bytes), length-append (be 4 (length r.now.bytes)) r.now.bytes)

  pub data_front : length (data_area (shown (take (i + 1) rs))) ≡ length (data_area (shown (take i rs))) + (4 + length r.now.bytes)
  data_front = length_front stored_data ∙ omega (arith, length-be_4 (length r.now.bytes), length-append (be 4 (length r.now.bytes)) r.now.bytes)

-- one piece more after what was written
pub written_on : (out new piece rest all : List ℕ) → new ≡ out ++ piece → out ++ (piece ++ rest) ≡ all → new ++ rest ≡ all
written_on out new piece rest all is so_far = ap (λ (l : List ℕ). l ++ rest) is ∙ append_assoc out piece rest ∙ so_far
