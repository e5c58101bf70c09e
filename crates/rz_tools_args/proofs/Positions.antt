-- Where words stop being a command.
use Rattle.std.proofs.Common.{◌≡◌, ◌≢◌, ℕ, suc, ◌+◌, ◌≤◌, true, false, List, [], ◌∷◌, ◌++◌, length, take, drop, None, Err, refl, sym, ap, subst, ◌∙◌, arith, append_assoc, append-nil, length-append}
use Rattle.std.specs.Prelude.{codes, leb}
use Rattle.std.specs.List.{list_all, list_any, AllByRecursion}
use Rattle.std.specs.declared.result.Result.{Result}
use Rattle.std.proofs.lemmas.Bool.{and_from, and_parts, both_ways, le-leb, leb-true}
use Rattle.rz_core.specs.Stop.{OnFault}
use Rattle.rz_core.specs.declared.fault.Mark.{Mark}
use Rattle.rz_core.specs.declared.stop.Stop.{Stop}
use Rattle.rz_core.specs.declared.stop.Stop.TheVariants.{Refused}
use Rattle.rz_core.proofs.EveryCut.{head, tail}
use Rattle.rz_core.proofs.Tests.{none_some}
use Rattle.rz_lex.specs.Cutting.{Cuts}
use Rattle.rz_lex.specs.declared.token.Token.{Token}
use Rattle.rz_pre_source.specs.Source.{IsTextOf}
use Rattle.rz_tools_args.specs.Command.{place_item, places_of, switch_item, value_item, values_of, AreItems, ArePlaces, Asked, Begins, IsCommand, IsItem, IsMisplaced, Item, On, Place, Valued}
use Rattle.rz_tools_args.specs.Held.{fewest, is_whole, says, size_of, BeginsWith, IsStuck, MayBegin, MayFollow}
use Rattle.rz_tools_args.specs.Syntax.{command_named, syntax_of, Syntax}
use Rattle.rz_tools_args.specs.declared.name.CommandName.{CommandName}
use Rattle.rz_tools_args.specs.declared.name.CommandName.TheVariants as names
use Rattle.rz_tools_args.specs.declared.read.UsageFault.{UsageFault}
use Rattle.rz_tools_args.proofs.Begun.{items_begin, within_front}
use Rattle.rz_tools_args.proofs.Needs.{all_there, are_there}
use Rattle.rz_tools_args.proofs.Once.{behind_items, one_list}
use Rattle.rz_tools_args.proofs.Sound.{each_named, each_sound, same_command}
use Rattle.rz_tools_args.proofs.Standing.{are_enough, are_places, may_add, may_back, may_front}
use Rattle.rz_tools_args.proofs.Values.{IsCutBack}
use Rattle.rz_tools_args.proofs.Words.{append_items, few_places, one_of_words, places_more, shape_of, sized, take_all, take_over, Words}

-- Reading item for item.

-- so many words were read as these items, and these are left
pub record Reading (syntax : Syntax) (words rest : Words) (items : List Item) : Type 0 where
  pub front : Words
  pub are : words ≡ front ++ rest
  pub read : AreItems syntax front items

drop_front : (xs ys : Words) (n : ℕ) → length xs ≡ n → drop n (xs ++ ys) ≡ ys
drop_front [] ys n is = subst (λ k. drop k ys ≡ ys) is refl
drop_front (x ∷ xs) ys n is = subst (λ k. drop k ((x ∷ xs) ++ ys) ≡ ys) is (drop_front xs ys (length xs) refl)

pub may_item : (syntax : Syntax) (items : List Item) (one : Item) → MayBegin syntax.places (places_of items)
    → MayFollow syntax.places (length (places_of items)) one → MayBegin syntax.places (places_of (items ++ one ∷ []))
may_item syntax items (Place word) may follows =
    subst (λ (ws : Words). MayBegin syntax.places ws) (sym (places_more items (Place word ∷ []))) (may_add syntax.places (places_of items) word may follows)
may_item syntax items (Valued flag value) may follows =
    subst (λ (ws : Words). MayBegin syntax.places ws) (sym (places_more items (Valued flag value ∷ []) ∙ append-nil (places_of items))) may
may_item syntax items (On switch) may follows =
    subst (λ (ws : Words). MayBegin syntax.places ws) (sym (places_more items (On switch ∷ []) ∙ append-nil (places_of items))) may

module _ (command : CommandName) where
  pub one_read : (words rest : Words) (items : List Item) (one : Item) → Reading (syntax_of command) words rest items → BeginsWith (syntax_of command) rest one
      → Reading (syntax_of command) words (drop (size_of one) rest) (items ++ one ∷ [])
  one_read words rest items one r (f, b, eq, is) = record {
    front = r.front ++ f;
    are = r.are ∙ ap (λ (ws : Words). r.front ++ ws) eq ∙ sym (append_assoc r.front f b) ∙ ap (λ (ws : Words). (r.front ++ f) ++ ws) (sym left);
    read = append_items (syntax_of command) r.front f items (one ∷ []) r.read (one_of_words (syntax_of command) f one is);
  }
    where
      left : drop (size_of one) rest ≡ b
      left =
          ap (λ (ws : Words). drop (size_of one) ws) eq
          ∙ drop_front f b (size_of one) (sized (syntax_of command) (each_sound command) f one (shape_of (syntax_of command) (each_sound command) f one is))

-- all words were read
pub all_read : (syntax : Syntax) (words : Words) (items : List Item) → Reading syntax words [] items → AreItems syntax words items
all_read syntax words items r = subst (λ (ws : Words). AreItems syntax ws items) (sym (r.are ∙ append-nil r.front)) r.read

-- the rest isn't longer than the words
pub no_longer : (syntax : Syntax) (words rest : Words) (items : List Item) → Reading syntax words rest items → length rest ≤ length words
no_longer syntax words rest items r = omega (arith, ap (λ (ws : Words). length ws) r.are, length-append r.front rest)

-- the words outside options aren't more than the words
pub few_read : (command : CommandName) (words rest : Words) (items : List Item) → Reading (syntax_of command) words rest items
    → length (places_of items) + length rest ≤ length words
few_read command words rest items r =
    omega (
      arith,
      few_places (syntax_of command) (each_sound command) r.front items r.read,
      ap (λ (ws : Words). length ws) r.are,
      length-append r.front rest,
    )

-- The items of a command that begins with this name.

record Its (command : CommandName) (words : Words) (items : List Item) : Type 0 where
  are : AreItems (syntax_of command) words items
  places : ArePlaces (syntax_of command).places (places_of items)
  needs : AllByRecursion (λ flag. values_of flag items ≢ []) (syntax_of command).needs

its : (command : CommandName) (words : Words) (any : Asked) → IsCommand ((syntax_of command).name ∷ words) any → Its command words any.items
its command words any is =
    subst (λ (c : CommandName). Its c words any.items) (sym (same_command command any.name (head (syntax_of command).name (syntax_of any.name).name words is.rest is.is))) (record {
      are = subst (λ (ws : Words). AreItems (syntax_of any.name) ws any.items) (sym (tail (syntax_of command).name (syntax_of any.name).name words is.rest is.is)) is.are;
      places = is.places;
      needs = is.needs;
    })

no_items : (syntax : Syntax) (rest : Words) (others : List Item) → rest ≢ [] → ((one : Item) → BeginsWith syntax rest one → ⊥) → AreItems syntax rest others → ⊥
no_items syntax rest [] filled none are = filled are
no_items syntax rest (one ∷ others) filled none (f, b, eq, is, are) = none one (f, b, eq, is)

-- the words of an item that stands outside options
same_place : (word also : List ℕ) → ◌≡◌ {A = Item} (Place word) (Place also) → word ≡ also
same_place word also is = cc is

place_words : (syntax : Syntax) (front : Words) (word : List ℕ) → IsItem syntax front (Place word) → front ≡ word ∷ []
place_words syntax front word (place_item also is holds same) = is ∙ ap (λ (w : List ℕ). w ∷ []) (sym (same_place word also same))
place_words syntax front word (switch_item also switch is named_so same) = absurd (cc same)
place_words syntax front word (value_item also spelled flag value is named_so says same) = absurd (cc same)

module _ (one_text : (source text others : List ℕ) → IsTextOf source text → IsTextOf source others → text ≡ others)
    (one_cut : (at : Mark) (line : List ℕ) (tokens others : List Token) → Cuts at line tokens → Cuts at line others → tokens ≡ others)
    (back : IsCutBack) (command : CommandName) where
  abbrev syntax : Syntax
  syntax = syntax_of command

  abbrev name : List ℕ
  name = (syntax_of command).name

  -- after items no item stands
  never : (front rest : Words) (items : List Item) → AreItems syntax front items → rest ≢ [] → ((one : Item) → BeginsWith syntax rest one → ⊥)
      → (any : Asked) → IsCommand (name ∷ (front ++ rest)) any → ⊥
  never front rest items read filled none any is =
      let all = its command (front ++ rest) any is in
      let others = behind_items one_text one_cut syntax (each_sound command) front rest items any.items read all.are in
      no_items syntax rest others.0 filled none others.1

  -- the words that were read and some of the rest
  module _ (words rest : Words) (items : List Item) (r : Reading syntax words rest items) (may : MayBegin syntax.places (places_of items)) where
    sizes : length words ≡ length r.front + length rest
    sizes = ap (λ (ws : Words). length ws) r.are ∙ length-append r.front rest

    taken : (n : ℕ) → take (length r.front + n) words ≡ r.front ++ take n rest
    taken n = ap (λ (ws : Words). take (length r.front + n) ws) r.are ∙ take_over r.front rest n

    module _ (fitting : ℕ) (filled : rest ≢ []) (stuck : IsStuck syntax rest fitting) where
      stuck_begins : Begins (name ∷ take (length r.front + fitting) words)
      stuck_begins =
          let places : places_of (items ++ stuck.others) ≡ places_of items = places_more items stuck.others ∙ ap (λ (ws : Words). places_of items ++ ws) stuck.no_place ∙ append-nil (places_of items) in
          subst Begins (ap (λ (ws : Words). name ∷ ws) (sym (taken fitting)))
          (within_front (name ∷ (r.front ++ take fitting rest)) stuck.more
          (subst Begins (ap (λ (ws : Words). name ∷ ws) (sym (append_assoc r.front (take fitting rest) stuck.more)))
          (items_begin back command (r.front ++ (take fitting rest ++ stuck.more)) (items ++ stuck.others)
          (append_items syntax r.front (take fitting rest ++ stuck.more) items stuck.others r.read stuck.goes_on)
          (subst (λ (ws : Words). MayBegin syntax.places ws) (sym places) may))))

      cut_some : (ws : Words) → ws ≢ [] → (after : Words) → take (suc fitting) ws ++ after ≢ []
      cut_some [] filled after is = filled refl
      cut_some (x ∷ ws) filled after is = cc is

      stuck_longest : suc fitting ≤ length rest → Begins (name ∷ take (length r.front + suc fitting) words) → ⊥
      stuck_longest within begins =
          never r.front (take (suc fitting) rest ++ begins.more) items r.read (cut_some rest filled begins.more) (stuck.longest within begins.more) begins.asked
          (subst (λ (ws : Words). IsCommand ws begins.asked)
          (ap (λ (ws : Words). name ∷ (ws ++ begins.more)) (taken (suc fitting)) ∙ ap (λ (ws : Words). name ∷ ws) (append_assoc r.front (take (suc fitting) rest) begins.more)) begins.is)

      pub stuck_at : (position : ℕ) → position + length rest ≡ length words + 2 + fitting → IsMisplaced (name ∷ words) position
      stuck_at position place = record {
        none = λ any is. never r.front rest items r.read filled stuck.none any (subst (λ (ws : Words). IsCommand (name ∷ ws) any) r.are is);
        front = suc (length r.front + fitting);
        next = omega (arith, sizes, place);
        within = omega (arith, sizes, stuck.within);
        begins = stuck_begins;
        longest = λ within begins. stuck_longest (omega (arith, sizes, place, within)) (subst (λ n. Begins (take n (name ∷ words))) placed begins);
      }
        where
          placed : position ≡ suc (length r.front + suc fitting)
          placed = omega (arith, sizes, place)

    -- a word that may not stand there
    module _ (word : List ℕ) (b : Words) (here : rest ≡ word ∷ b) (is : IsItem syntax (word ∷ []) (Place word))
        (fails : MayFollow syntax.places (length (places_of items)) (Place word) → ⊥) where
      never_place : (after : Words) (any : Asked) → IsCommand (name ∷ (r.front ++ word ∷ after)) any → ⊥
      never_place after any is_any =
          let all = its command (r.front ++ word ∷ after) any is_any in
          let others = behind_items one_text one_cut syntax (each_sound command) (r.front ++ word ∷ []) after (items ++ Place word ∷ []) any.items
          (append_items syntax r.front (word ∷ []) items (Place word ∷ []) r.read (one_of_words syntax (word ∷ []) (Place word) is))
          (subst (λ (ws : Words). AreItems syntax ws any.items) (sym (append_assoc r.front (word ∷ []) after)) all.are) in
          let places : places_of any.items ≡ (places_of items ++ word ∷ []) ++ places_of others.0 =
          ap places_of others.2 ∙ places_more (items ++ Place word ∷ []) others.0
          ∙ ap (λ (ws : Words). ws ++ places_of others.0) (places_more items (Place word ∷ [])) in
          fails
          (may_back syntax.places (places_of items) word
          (may_front syntax.places (places_of items ++ word ∷ []) (places_of others.0) (subst (λ (ws : Words). ArePlaces syntax.places ws) places all.places)))

      place_at : (position : ℕ) → position + length rest ≡ length words + 2 → IsMisplaced (name ∷ words) position
      place_at position place = record {
        none = λ any is_any. never_place b any (subst (λ (ws : Words). IsCommand (name ∷ ws) any) (r.are ∙ ap (λ (ws : Words). r.front ++ ws) here) is_any);
        front = suc (length r.front);
        next = omega (arith, sizes, place);
        within = omega (arith, sizes);
        begins = subst Begins (ap (λ (ws : Words). name ∷ ws) (sym front_is)) (items_begin back command r.front items r.read may);
        longest = λ within begins. over (subst (λ n. Begins (take n (name ∷ words))) placed begins);
      }
        where
          nothing : length r.front ≡ length r.front + 0
          nothing = omega arith

          front_is : take (length r.front) words ≡ r.front
          front_is = ap (λ n. take n words) nothing ∙ taken 0 ∙ append-nil r.front

          placed : position ≡ suc (length r.front + 1)
          placed = omega (arith, sizes, place)

          over : Begins (name ∷ take (length r.front + 1) words) → ⊥
          over begins =
              never_place begins.more begins.asked
              (subst (λ (ws : Words). IsCommand ws begins.asked)
              (ap (λ (ws : Words). name ∷ (ws ++ begins.more)) (taken 1 ∙ ap (λ (ws : Words). r.front ++ take 1 ws) here)
              ∙ ap (λ (ws : Words). name ∷ ws) (append_assoc r.front (word ∷ []) begins.more)) begins.is)

    -- an item that may not stand there
    pub fails_at : (one : Item) (position : ℕ) → BeginsWith syntax rest one → (MayFollow syntax.places (length (places_of items)) one → ⊥)
        → position + length rest ≡ length words + 2 → IsMisplaced (name ∷ words) position
    fails_at (Place word) position (f, b, eq, is) fails place =
        let one = place_words syntax f word is in
        place_at word b (eq ∙ ap (λ (ws : Words). ws ++ b) one) (subst (λ (ws : Words). IsItem syntax ws (Place word)) one is) fails position place
    fails_at (Valued flag value) position begins fails place = absurd (fails tt)
    fails_at (On switch) position begins fails place = absurd (fails tt)

  -- All words are items.
  module _ (words : Words) (items : List Item) (are : AreItems syntax words items) (may : MayBegin syntax.places (places_of items)) where
    enough : is_whole syntax (length (places_of items)) items ≡ true → (fewest syntax.places ≤ length (places_of items)) × (list_all (λ flag. list_any (says flag) items) syntax.needs ≡ true)
    enough is =
        let parts = and_parts (leb (fewest syntax.places) (length (places_of items))) (list_all (λ flag. list_any (says flag) items) syntax.needs) is in
        (leb-true (fewest syntax.places) (length (places_of items)) parts.0, parts.1)

    pub whole_is : is_whole syntax (length (places_of items)) items ≡ true → IsCommand (name ∷ words) (record { name = command; items = items })
    whole_is is = record {
      rest = words;
      is = refl;
      are = are;
      places = are_places syntax.places (places_of items) may (enough is).0;
      needs = are_there items syntax.needs (enough is).1;
    }

    -- something is missing
    pub missing_at : is_whole syntax (length (places_of items)) items ≡ false → IsMisplaced (name ∷ words) (length words + 2)
    missing_at fails = record {
      none = none;
      front = suc (length words);
      next = omega arith;
      within = omega arith;
      begins = subst Begins (ap (λ (ws : Words). name ∷ ws) (sym (take_all words))) (items_begin back command words items are may);
      longest = λ within begins. absurd (omega (arith, within));
    }
      where
        none : (any : Asked) → IsCommand (name ∷ words) any → ⊥
        none any is =
            let all = its command words any is in
            let same : any.items ≡ items = one_list one_text one_cut syntax (each_sound command) words any.items items all.are are in
            both_ways (is_whole syntax (length (places_of items)) items) fails
            (and_from (leb (fewest syntax.places) (length (places_of items))) (list_all (λ flag. list_any (says flag) items) syntax.needs)
            (le-leb (fewest syntax.places) (length (places_of items))
            (are_enough syntax.places (places_of items) (subst (λ (its : List Item). ArePlaces syntax.places (places_of its)) same all.places)))
            (all_there items syntax.needs (subst (λ (its : List Item). AllByRecursion (λ flag. values_of flag its ≢ []) syntax.needs) same all.needs)))

-- Words that don't begin with the name of a command.

begin_nothing : Begins []
begin_nothing = record {
  more = codes "--help" ∷ [];
  asked = record { name = names.Help; items = [] };
  is = record { rest = []; is = refl; are = refl; places = refl; needs = tt };
}

pub no_words : IsMisplaced [] 1
no_words = record {
  none = λ any is. none any is.rest is.is;
  front = 0;
  next = refl;
  within = omega arith;
  begins = begin_nothing;
  longest = λ within begins. absurd (omega (arith, within));
}
  where
    none : (any : Asked) (rest : Words) → [] ≡ (syntax_of any.name).name ∷ rest → ⊥
    none any rest is = cc is

pub other_word : (word : List ℕ) (words : Words) → command_named word ≡ None → IsMisplaced (word ∷ words) 1
other_word word words none = record {
  none = λ any is. no_command words any is;
  front = 0;
  next = refl;
  within = omega arith;
  begins = begin_nothing;
  longest = λ within begins. no_command begins.more begins.asked begins.is;
}
  where
    no_command : (after : Words) (any : Asked) → IsCommand (word ∷ after) any → ⊥
    no_command after any is =
        none_some any.name (sym none ∙ ap command_named (head word (syntax_of any.name).name after is.rest is.is) ∙ each_named any.name)

-- The answers.

pub at_position : {X : Type 0} (P : ℕ → Type 0) (result : Result X (Stop UsageFault)) (position : ℕ)
    → result ≡ Err (Refused (record { position = position })) → P position → OnFault result (λ fault. P fault.position)
at_position P result position is holds = subst (λ r. OnFault r (λ fault. P fault.position)) (sym is) holds
