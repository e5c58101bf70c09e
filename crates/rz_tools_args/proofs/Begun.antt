-- A command begins with items, as long as their words outside options may begin its own: what is missing can follow.
use Rattle.std.proofs.Common.{◌≡◌, true, List, [], ◌∷◌, ◌++◌, map, refl, sym, ap, subst, ◌∙◌, append_assoc, append-nil}
use Rattle.std.specs.List.{list_all, list_any, AllByRecursion}
use Rattle.std.proofs.lemmas.Bool.{and_from, and_parts, or_left}
use Rattle.rz_tools_args.specs.Command.{is_place, place_item, places_of, value_item, AreItems, ArePlaces, Begins, IsCommand, Item, Place, Valued}
use Rattle.rz_tools_args.specs.Held.{says, MayBegin}
use Rattle.rz_tools_args.specs.Syntax.{sort_of, syntax_of, Syntax}
use Rattle.rz_tools_args.specs.declared.flag.Flag.{Flag}
use Rattle.rz_tools_args.specs.declared.name.CommandName.{CommandName}
use Rattle.rz_tools_args.proofs.Needs.{all_behind, are_there}
use Rattle.rz_tools_args.proofs.Sound.{each_sound, is_sound, is_spelled, needs_spelled, places_can_be, word_of}
use Rattle.rz_tools_args.proofs.Standing.{fill}
use Rattle.rz_tools_args.proofs.Values.{good_value, IsCutBack}
use Rattle.rz_tools_args.proofs.Words.{append_items, places_more, Words}

-- words outside options as items

pub place_items : (syntax : Syntax) (words : Words) → AllByRecursion (λ word. is_place word ≡ true) words → AreItems syntax words (map Place words)
place_items syntax [] are = refl
place_items syntax (word ∷ words) are = (word ∷ [], words, refl, place_item word refl are.0 refl, place_items syntax words are.1)

their_places : (words : Words) → places_of (map Place words) ≡ words
their_places [] = refl
their_places (word ∷ words) = ap (λ (ws : Words). word ∷ ws) (their_places words)

-- words that are options, among them these
record Met (syntax : Syntax) (needs : List Flag) : Type 0 where
  words : Words
  items : List Item
  are : AreItems syntax words items
  none : places_of items ≡ []
  there : list_all (λ flag. list_any (says flag) items) needs ≡ true

module _ (back : IsCutBack) where
  module _ (syntax : Syntax) (sound : is_sound syntax ≡ true) where
    meet : (needs : List Flag) → list_all (is_spelled syntax) needs ≡ true → Met syntax needs
    meet [] is = record { words = []; items = []; are = refl; none = refl; there = refl }
    meet (need ∷ needs) is =
        let parts = and_parts (is_spelled syntax need) (list_all (is_spelled syntax) needs) is in
        let spelled = word_of syntax sound need parts.0 in
        let good = good_value back (sort_of spelled.other) in
        let rest = meet needs parts.1 in
        let one = Valued spelled.other good.1 in
        record {
          words = spelled.word ∷ good.0 ∷ rest.words;
          items = one ∷ rest.items;
          are = (
            spelled.word ∷ good.0 ∷ [],
            rest.words,
            refl,
            value_item spelled.word good.0 spelled.other good.1 refl spelled.is good.2 refl,
            rest.are,
          );
          none = rest.none;
          there = and_from (list_any (says need) (one ∷ rest.items)) (list_all (λ flag. list_any (says flag) (one ∷ rest.items)) needs)
              (or_left (says need one) (list_any (says need) rest.items) spelled.same) (all_behind (one ∷ []) rest.items needs rest.there);
        }

  module _ (command : CommandName) (front : Words) (items : List Item) where
    pub items_begin : AreItems (syntax_of command) front items → MayBegin (syntax_of command).places (places_of items)
        → Begins ((syntax_of command).name ∷ front)
    items_begin are may =
        let syntax = syntax_of command in
        let sound = each_sound command in
        let filled = fill syntax.places (places_of items) (places_can_be syntax sound) may in
        let met = meet syntax sound syntax.needs (needs_spelled syntax sound) in
        let behind = map Place filled.rest ++ met.items in
        let places : places_of (items ++ behind) ≡ places_of items ++ filled.rest = places_more items behind
        ∙ ap (λ (ws : Words). places_of items ++ ws) (places_more (map Place filled.rest) met.items ∙ (λ i. their_places filled.rest i ++ met.none i) ∙ append-nil filled.rest) in
        record {
          more = filled.rest ++ met.words;
          asked = record { name = command; items = items ++ behind };
          is = record {
            rest = front ++ (filled.rest ++ met.words);
            is = refl;
            are = append_items syntax front (filled.rest ++ met.words) items behind are
                (append_items syntax filled.rest met.words (map Place filled.rest) met.items (place_items syntax filled.rest filled.stand) met.are);
            places = subst (λ (ws : Words). ArePlaces syntax.places ws) (sym places) filled.are;
            needs = are_there (items ++ behind) syntax.needs
                (all_behind items behind syntax.needs (all_behind (map Place filled.rest) met.items syntax.needs met.there));
          };
        }

-- a front of words that begin a command begins it too
pub within_front : (front more : Words) → Begins (front ++ more) → Begins front
within_front front more begins =
    record { more = more ++ begins.more; asked = begins.asked; is = subst (λ (ws : Words). IsCommand ws begins.asked) (append_assoc front more begins.more) begins.is }
