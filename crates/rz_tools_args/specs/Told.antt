-- What the code's look at one item tells.
use Rattle.std.specs.Prelude.{◌≡◌, ◌++◌, ◌∷◌, List, Option, option_to_list}
use Rattle.rz_tools_args.specs.Command.{Item}

-- of what items come to, this one has this, or nothing
abbrev pub Tells : {X : Type 0} → (List Item → List X) → Item → Option X → Type 0
Tells told one said = (behind : List Item) → told (one ∷ behind) ≡ option_to_list said ++ told behind
