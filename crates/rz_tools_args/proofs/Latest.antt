-- The last of several that items say, where they are looked at from the first on.
use Rattle.std.proofs.Common.{◌≡◌, ℕ, ◌+◌, ◌<◌, List, [], ◌∷◌, ◌++◌, length, get_or, drop, map, Some, None, refl, sym, ap, ◌∙◌}
use Rattle.std.specs.Prelude.{option_map, option_to_list, Option}
use Rattle.std.specs.Option.{option_or}
use Rattle.std.proofs.lemmas.List.{at_drop_more}
use Rattle.rz_tools_args.specs.Command as command
use Rattle.rz_tools_args.specs.Held.{item}
use Rattle.rz_tools_args.specs.Items.{last}
use Rattle.rz_tools_args.specs.Told.{Tells}
use Rattle.rz_tools_args.specs.declared.item.Item.{Item}

module _ {X : Type 0} where
  -- where there is a last one, what was there before doesn't count
  last_there : (x : X) (xs : List X) (one other : Option X) → option_or (last (x ∷ xs)) one ≡ option_or (last (x ∷ xs)) other
  last_there x [] one other = refl
  last_there x (y ∷ xs) one other = last_there y xs one other

  -- a first one is the last so far
  last_more : (said : Option X) (xs : List X) (one : Option X) → option_or (last (option_to_list said ++ xs)) one ≡ option_or (last xs) (option_or said one)
  last_more None xs one = refl
  last_more (Some x) [] one = refl
  last_more (Some x) (y ∷ xs) one = last_there y xs one (Some x)

  -- one item more
  pub latest_more : (told : List command.Item → List X) (items : List Item) (i : ℕ) (x : Item) → i < length items → x ≡ get_or items i x
      → (said one after : Option X) → Tells told (item x) said → after ≡ option_or said one → (all : Option X)
      → option_or (last (told (map item (drop i items)))) one ≡ all → option_or (last (told (map item (drop (i + 1) items)))) after ≡ all
  latest_more told items i x within is said one after tells so all before =
      let behind = map item (drop (i + 1) items) in
      ap (λ (o : Option X). option_or (last (told behind)) o) so
      ∙ sym (last_more said (told behind) one)
      ∙ ap (λ (l : List X). option_or (last l) one) (sym (tells behind))
      ∙ ap (λ (y : Item). option_or (last (told (item y ∷ behind))) one) is
      ∙ sym (at_drop_more (λ (l : List Item). option_or (last (told (map item l))) one) items i x within)
      ∙ before

pub map_or : {X Y : Type 0} (f : X → Y) (one other : Option X) → option_map f (option_or one other) ≡ option_or (option_map f one) (option_map f other)
map_or f None other = refl
map_or f (Some x) other = refl
