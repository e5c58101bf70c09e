-- All words are a command, or stop at a position.
use Rattle.std.proofs.Common.{◌≡◌, ◌⊎◌, inl, inr, ℕ, zero, suc, ◌≤◌, false, List, [], ◌∷◌, ◌++◌, Option, Some, None, length, ◌+◌, length-append, length-drop, drop, refl, sym, ap, subst, ◌∙◌, arith}
use Rattle.rz_core.specs.declared.fault.Mark.{Mark}
use Rattle.rz_core.proofs.Tests.{by_test}
use Rattle.rz_lex.specs.Cutting.{Cuts}
use Rattle.rz_lex.specs.declared.token.Token.{Token}
use Rattle.rz_pre_source.specs.Source.{IsTextOf}
use Rattle.rz_tools_args.specs.Command.{is_place, place_item, places_of, switch_item, value_item, AreItems, Asked, IsCommand, IsMisplaced, IsValue, Item, On, Place, Value, Valued}
use Rattle.rz_tools_args.specs.Held.{is_whole, size_of, BeginsWith, IsStuck, MayBegin, MayFollow}
use Rattle.rz_tools_args.specs.Syntax.{command_named, named, sort_of, syntax_of, Syntax}
use Rattle.rz_tools_args.specs.declared.flag.Flag.{Flag}
use Rattle.rz_tools_args.specs.declared.flag.Sort.{Sort}
use Rattle.rz_tools_args.specs.declared.flag.Switch.{Switch}
use Rattle.rz_tools_args.specs.declared.name.CommandName.{CommandName}
use Rattle.rz_tools_args.specs.declared.syntax.Places.{Places}
use Rattle.rz_tools_args.proofs.Items.{stuck_missing, stuck_unknown, stuck_value}
use Rattle.rz_tools_args.proofs.Positions.{all_read, fails_at, may_item, missing_at, no_words, one_read, other_word, stuck_at, whole_is, Reading}
use Rattle.rz_tools_args.proofs.Sound.{each_sound, named_back}
use Rattle.rz_tools_args.proofs.Standing.{may_stand, no_places}
use Rattle.rz_tools_args.proofs.Values.{IsCutBack}
use Rattle.rz_tools_args.proofs.Words.{more, some_size, Words}

-- the words are a command, or stop at a position
abbrev pub IsRead : Words → Type 0
IsRead words = ((asked : Asked) × IsCommand words asked) ⊎ ((position : ℕ) × IsMisplaced words position)

-- an item stands at the front of the words, or this many of them begin one
abbrev IsFront : Syntax → Words → Type 0
IsFront syntax words = ((one : Item) × BeginsWith syntax words one) ⊎ ((fitting : ℕ) × IsStuck syntax words fitting)

may_follow : (places : Places) (count : ℕ) (one : Item) → Dec (MayFollow places count one)
may_follow places count (Place word) = may_stand places count word
may_follow places count (Valued flag value) = yes tt
may_follow places count (On switch) = yes tt

module _ (one_text : (source text other : List ℕ) → IsTextOf source text → IsTextOf source other → text ≡ other)
    (one_cut : (at : Mark) (line : List ℕ) (tokens others : List Token) → Cuts at line tokens → Cuts at line others → tokens ≡ others)
    (value : (sort : Sort) (word : List ℕ) → Dec ((value : Value) × IsValue sort word value)) (back : IsCutBack) where
  -- Items.

  module _ (syntax : Syntax) (first : List ℕ) (behind : Words) where
    -- an option after which a value stands
    module _ (no_place : is_place first ≡ false) (no_switch : named syntax.switches first ≡ None) (flag : Flag) (named_so : named syntax.flags first ≡ Some flag) where
      valued : (words : Words) → IsFront syntax (first ∷ words)
      valued [] = inr (1, stuck_missing syntax back first flag no_place no_switch named_so)
      valued (word ∷ words) = by (value (sort_of flag) word)
        where
          by : Dec ((value : Value) × IsValue (sort_of flag) word value) → IsFront syntax (first ∷ word ∷ words)
          by (yes (said, is)) = inl (Valued flag said, (first ∷ word ∷ [], words, refl, value_item first word flag said refl named_so is refl))
          by (no never) = inr (1, stuck_value syntax back first flag no_place no_switch named_so word words (λ said is. never (said, is)))

    flagged : is_place first ≡ false → named syntax.switches first ≡ None → (found : Option Flag) → named syntax.flags first ≡ found → IsFront syntax (first ∷ behind)
    flagged no_place no_switch None none = inr (0, stuck_unknown syntax first behind no_place no_switch none)
    flagged no_place no_switch (Some flag) named_so = valued no_place no_switch flag named_so behind

    switched : is_place first ≡ false → (found : Option Switch) → named syntax.switches first ≡ found → IsFront syntax (first ∷ behind)
    switched no_place None none = flagged no_place none (named syntax.flags first) refl
    switched no_place (Some switch) named_so = inl (On switch, (first ∷ [], behind, refl, switch_item first switch refl named_so refl))

    every_front : IsFront syntax (first ∷ behind)
    every_front =
        by_test (IsFront syntax (first ∷ behind)) (is_place first) (λ holds. inl (Place first, (first ∷ [], behind, refl, place_item first refl holds refl)))
        (λ no_place. switched no_place (named syntax.switches first) refl)

  -- Items one after the other.

  module _ (command : CommandName) (words : Words) where
    abbrev syntax : Syntax
    syntax = syntax_of command

    -- the words after the name of a command are items, or stop at a position
    abbrev AreAllRead : Type 0
    AreAllRead =
        ((items : List Item) × AreItems syntax words items × MayBegin syntax.places (places_of items)) ⊎ ((position : ℕ) × IsMisplaced (syntax.name ∷ words) position)

    -- the item at the front, and then fewer words
    module _ (n : ℕ)
        (fewer : (rest : Words) (items : List Item) → length rest ≤ n → Reading syntax words rest items → MayBegin syntax.places (places_of items) → AreAllRead)
        (rest : Words) (items : List Item) (few : length rest ≤ suc n) (filled : rest ≡ [] → ⊥) (r : Reading syntax words rest items)
        (may : MayBegin syntax.places (places_of items)) where
      sizes : length words ≡ length r.front + length rest
      sizes = ap (λ (ws : Words). length ws) r.are ∙ length-append r.front rest

      item_read : (one : Item) → BeginsWith syntax rest one → Dec (MayFollow syntax.places (length (places_of items)) one) → AreAllRead
      item_read one begins (no fails) =
          inr (length r.front + 2, fails_at one_text one_cut back command words rest items r may one (length r.front + 2) begins fails (omega (arith, sizes)))
      item_read one begins (yes follows) =
          fewer (drop (size_of one) rest) (items ++ one ∷ [])
          (omega (arith, few, length-drop (size_of one) rest, some_size syntax (each_sound command) begins.0 one begins.3)) (one_read command words rest items one r begins)
          (may_item syntax items one may follows)

      go_on : IsFront syntax rest → AreAllRead
      go_on (inl (one, begins)) = item_read one begins (may_follow syntax.places (length (places_of items)) one)
      go_on (inr (fitting, stuck)) =
          inr (length r.front + 2 + fitting, stuck_at one_text one_cut back command words rest items r may fitting filled stuck (length r.front + 2 + fitting) (omega (arith, sizes)))

    short_rest : (n : ℕ) (rest : Words) (items : List Item) → length rest ≤ n → Reading syntax words rest items → MayBegin syntax.places (places_of items) → AreAllRead
    short_rest n [] items few r may = inl (items, all_read syntax words items r, may)
    short_rest zero (first ∷ behind) items few r may = absurd (omega (arith, few))
    short_rest (suc n) (first ∷ behind) items few r may =
        go_on n (short_rest n) (first ∷ behind) items few (more first behind) r may (every_front syntax first behind)

    every_items : IsRead (syntax.name ∷ words)
    every_items = by (short_rest (length words) words [] (omega arith) (record { front = []; are = refl; read = refl }) (no_places syntax.places))
      where
        by : AreAllRead → IsRead (syntax.name ∷ words)
        by (inl (items, are, may)) =
            by_test (IsRead (syntax.name ∷ words)) (is_whole syntax (length (places_of items)) items)
            (λ is. inl (record { name = command; items = items }, whole_is one_text one_cut back command words items are may is))
            (λ fails. inr (length words + 2, missing_at one_text one_cut back command words items are may fails))
        by (inr stops) = inr stops

  pub every_words : (words : Words) → IsRead words
  every_words [] = inr (1, no_words)
  every_words (word ∷ words) = by (command_named word) refl
    where
      by : (found : Option CommandName) → command_named word ≡ found → IsRead (word ∷ words)
      by None none = inr (1, other_word word words none)
      by (Some command) is = subst (λ (w : List ℕ). IsRead (w ∷ words)) (sym (named_back word command is)) (every_items command words)
