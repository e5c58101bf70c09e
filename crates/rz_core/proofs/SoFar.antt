-- Chains: lists, or what is like a list, of an item and a chain, or empty. They are made one item after the other, with
-- what was made so far before those that follow.
use Rattle.std.proofs.Common.{◌≡◌, List, [], ◌∷◌, ◌++◌, Ok, Err, refl, sym, ap, ◌∙◌}
use Rattle.std.specs.declared.result.Result.{Result}
use Rattle.rz_core.specs.Stop.{◌>>=◌, Gives}
use Rattle.rz_core.specs.declared.stop.Stop.{Stop}
use Rattle.rz_core.specs.declared.stop.Stop.TheVariants.{NoMemory, Refused}

module _ {X Y : Type 0} (join : X → Y → Y) where
  -- these items before a chain
  abbrev pub before : List X → Y → Y
  before [] chain = chain
  before (item ∷ items) chain = join item (before items chain)

  pub before_more : (items : List X) (item : X) (chain : Y) → before items (join item chain) ≡ before (items ++ item ∷ []) chain
  before_more [] item chain = refl
  before_more (first ∷ items) item chain = ap (join first) (before_more items item chain)

module _ {X Y F : Type 0} (join : X → Y → Y) where
  -- the values so far before those that follow
  abbrev pub so_far : List X → Result Y F → Result Y F
  so_far front more = more >>= (λ others. Ok (before join front others))

  pub none_yet : (more : Result Y F) → more ≡ so_far [] more
  none_yet (Ok others) = refl
  none_yet (Err fault) = refl

  module _ (all : Result Y F) (front : List X) (one : Result X F) (more : Result Y F)
      (is : all ≡ so_far front (one >>= (λ value. more >>= (λ others. Ok (join value others))))) where
    pub one_more : (value : X) (after : List X) → one ≡ Ok value → after ≡ front ++ value ∷ [] → all ≡ so_far after more
    one_more value after has pushed =
        is ∙ ap (λ (r : Result X F). so_far front (r >>= (λ x. more >>= (λ others. Ok (join x others))))) has ∙ by more
        ∙ ap (λ (l : List X). so_far l more) (sym pushed)
      where
        by : (r : Result Y F) → so_far front (r >>= (λ others. Ok (join value others))) ≡ so_far (front ++ value ∷ []) r
        by (Ok others) = ap (λ (chain : Y). Ok chain) (before_more join front value others)
        by (Err fault) = refl

    pub one_stops : (stop : Stop F) → Gives {X = X} one (Err stop) → Gives {X = Y} all (Err stop)
    one_stops (Refused fault) faulty = is ∙ ap (λ (r : Result X F). so_far front (r >>= (λ x. more >>= (λ others. Ok (join x others))))) faulty
    one_stops NoMemory faulty = tt
