-- Words are one command at most.
use Rattle.std.proofs.Common.{◌≡◌, ℕ, zero, suc, ◌<◌, ◌≤◌, List, [], ◌∷◌, ◌++◌, take, drop, Some, refl, sym, ap, subst, ◌∙◌, arith, append_assoc, Ok, Err, IfOk}
use Rattle.std.specs.Prelude.{false, true}
use Rattle.std.specs.declared.option.Option.{Option}
use Rattle.std.specs.declared.result.Result.{Result}
use Rattle.rz_core.specs.Stop.{fault_seen, seen, Gives, OnFault}
use Rattle.rz_core.specs.declared.fault.Mark.{Mark}
use Rattle.rz_core.specs.declared.resource.OsType.{OsType}
use Rattle.rz_core.specs.declared.resource.Word.{Word}
use Rattle.rz_core.specs.declared.stop.Stop.{Stop}
use Rattle.rz_core.specs.declared.stop.Stop.TheVariants.{Refused, NoMemory}
use Rattle.rz_core.proofs.EveryCut.{head, tail}
use Rattle.rz_bridge_files.specs.declared.form.Form as form
use Rattle.rz_lex.specs.Cutting.{Cuts}
use Rattle.rz_lex.specs.declared.token.Token.{Token}
use Rattle.rz_pre.specs.declared.program.Def.{Def}
use Rattle.rz_pre_source.specs.Source.{mark, IsTextOf}
use Rattle.rz_tools_args.specs.Command.{is_place, place_item, switch_item, value_item, AreItems, Asked, Begins, Define, Form, IsCommand, IsItem, IsMisplaced, IsValue, Item, Kind, On, Place, Value, Valued}
use Rattle.rz_tools_args.specs.Definition.{nowhere, Defines, IsName, IsText, Undefines}
use Rattle.rz_tools_args.specs.Definition.Defines.{alone, with_text}
use Rattle.rz_tools_args.specs.Held.{asked, position_of}
use Rattle.rz_core.specs.Resources.{kind_of}
use Rattle.rz_tools_args.specs.Kind.{IsKind}
use Rattle.rz_tools_args.specs.Syntax.{named, sort_of, syntax_of, Syntax}
use Rattle.rz_tools_args.specs.declared.command.Command.{Command}
use Rattle.rz_tools_args.specs.declared.flag.Flag.{Flag}
use Rattle.rz_tools_args.specs.declared.flag.Sort.{Sort}
use Rattle.rz_tools_args.specs.declared.flag.Sort.TheVariants as sorts
use Rattle.rz_tools_args.specs.declared.flag.Switch.{Switch}
use Rattle.rz_tools_args.specs.declared.name.CommandName.{CommandName}
use Rattle.rz_tools_args.specs.declared.read.UsageFault.{UsageFault}
use Rattle.rz_tools_args.proofs.Sound.{each_sound, is_sound, same_command, switch_no_place}
use Rattle.rz_tools_args.proofs.Splits.{has_sign, one_split}
use Rattle.rz_tools_args.proofs.Words.{same_front, shape_of, some_words, Words}

-- texts in Mac Roman and tokens are one
module _ (one_text : (source text others : List ℕ) → IsTextOf source text → IsTextOf source others → text ≡ others)
    (one_cut : (at : Mark) (line : List ℕ) (tokens others : List Token) → Cuts at line tokens → Cuts at line others → tokens ≡ others) where
  same_name : (name : List ℕ) (word also : Word) → IsName name word → IsName name also → word ≡ also
  same_name name word also is too = λ i. record { bytes = (is.spelled ∙ sym too.spelled) i }

  same_text : (text : List ℕ) (tokens others : List Token) → IsText text tokens → IsText text others → tokens ≡ others
  same_text text tokens others is too =
      one_cut nowhere too.bytes tokens others (subst (λ (b : List ℕ). Cuts nowhere b tokens) (one_text (mark ++ text) is.bytes too.bytes is.roman too.roman) is.cut) too.cut

  same_define : (value : List ℕ) (def also : Def) → Defines value def → Defines value also → def ≡ also
  same_define value def also (alone lacks it) (alone lacks_too it_too) =
      λ i. record { name = same_name value def.name also.name it.0 it_too.0 i; text = (it.1 ∙ sym it_too.1) i }
  same_define value def also (alone lacks it) (with_text name text lacks_too is it_too) = absurd (has_sign value name text is lacks)
  same_define value def also (with_text name text lacks is it) (alone lacks_too it_too) = absurd (has_sign value name text is lacks_too)
  same_define value def also (with_text name text lacks is (tokens, named, texted, text_is)) (with_text other behind lacks_too is_too (others, named_too, texted_too, text_is_too)) =
      let split = one_split name other text behind lacks lacks_too (sym is ∙ is_too) in
      let tokens_same : tokens ≡ others = same_text behind tokens others (subst (λ (t : List ℕ). IsText t tokens) split.1 texted) texted_too in
      λ i. record {
        name = same_name other def.name also.name (subst (λ (n : List ℕ). IsName n def.name) split.0 named) named_too i;
        text = (text_is ∙ ap (λ (ts : List Token). Some ts) tokens_same ∙ sym text_is_too) i;
      }

  same_undefine : (value : List ℕ) (def also : Def) → Undefines value def → Undefines value also → def ≡ also
  same_undefine value def also it it_too =
      λ i. record { name = same_name value def.name also.name it.0 it_too.0 i; text = (it.1 ∙ sym it_too.1) i }

  same_kind : (word : List ℕ) (kind also : OsType) → IsKind word kind → IsKind word also → kind ≡ also
  same_kind word kind also is too = found (sym is.is ∙ ap kind_of (one_text (mark ++ word) is.bytes too.bytes is.roman too.roman) ∙ too.is)
    where
      found : ◌≡◌ {A = Option OsType} (Some kind) (Some also) → kind ≡ also
      found same = cc same

  same_form : (one also : form.Form) → ◌≡◌ {A = Option form.Form} (Some one) (Some also) → one ≡ also
  same_form one also is = cc is

  pub one_value : (sort : Sort) (word : List ℕ) (one other : Value) → IsValue sort word one → IsValue sort word other → one ≡ other
  one_value sorts.Name word one other is too = is ∙ sym too
  one_value sorts.Definition word one other (a, is, it) (b, too, it_too) = is ∙ ap (λ (d : Def). Define d) (same_define word a b it it_too) ∙ sym too
  one_value sorts.Undefinition word one other (a, is, it) (b, too, it_too) = is ∙ ap (λ (d : Def). Define d) (same_undefine word a b it it_too) ∙ sym too
  one_value sorts.Kind word one other (a, is, it) (b, too, it_too) = is ∙ ap (λ (k : OsType). Kind k) (same_kind word a b it it_too) ∙ sym too
  one_value sorts.Form word one other (a, is, it) (b, too, it_too) = is ∙ ap (λ (f : form.Form). Form f) (same_form a b (sym it ∙ it_too)) ∙ sym too

  single_double : (a f v : List ℕ) (front : Words) → front ≡ a ∷ [] → front ≡ f ∷ v ∷ [] → ⊥
  single_double a f v front is too = let eq : a ∷ [] ≡ f ∷ v ∷ [] = sym is ∙ too in cc

  same_switch : (switch also : Switch) → ◌≡◌ {A = Option Switch} (Some switch) (Some also) → switch ≡ also
  same_switch switch also is = cc is

  same_flag : (flag also : Flag) → ◌≡◌ {A = Option Flag} (Some flag) (Some also) → flag ≡ also
  same_flag flag also is = cc is

  module _ (syntax : Syntax) (sound : is_sound syntax ≡ true) where
    no_switch : (place word : List ℕ) (switch : Switch) → is_place place ≡ true → named syntax.switches word ≡ Some switch → place ≡ word → ⊥
    no_switch place word switch holds named_so is =
        let also : true ≡ false = sym holds ∙ ap is_place is ∙ switch_no_place syntax sound word switch named_so in cc

    one_item : (front : Words) (one other : Item) → IsItem syntax front one → IsItem syntax front other → one ≡ other
    one_item front one other (place_item a is holds same) (place_item b too holds_too same_too) =
        same ∙ ap (λ (w : List ℕ). Place w) (head a b [] [] (sym is ∙ too)) ∙ sym same_too
    one_item front one other (place_item a is holds same) (switch_item w switch too named_so same_too) =
        absurd (no_switch a w switch holds named_so (head a w [] [] (sym is ∙ too)))
    one_item front one other (place_item a is holds same) (value_item w v flag value too named_so says same_too) = absurd (single_double a w v front is too)
    one_item front one other (switch_item w switch is named_so same) (place_item b too holds_too same_too) =
        absurd (no_switch b w switch holds_too named_so (head b w [] [] (sym too ∙ is)))
    one_item front one other (switch_item w switch is named_so same) (switch_item x also too named_too same_too) =
        same ∙ ap (λ (s : Switch). On s) (same_switch switch also (sym named_so ∙ ap (named syntax.switches) (head w x [] [] (sym is ∙ too)) ∙ named_too)) ∙ sym same_too
    one_item front one other (switch_item x switch is named_so same) (value_item w v flag value too named_too says same_too) = absurd (single_double x w v front is too)
    one_item front one other (value_item w v flag value is named_so says same) (place_item b too holds_too same_too) = absurd (single_double b w v front too is)
    one_item front one other (value_item w v flag value is named_so says same) (switch_item x switch too named_too same_too) = absurd (single_double x w v front too is)
    one_item front one other (value_item w v flag value is named_so says same) (value_item x y also value_too too named_too says_too same_too) =
        let words_same : w ≡ x = head w x (v ∷ []) (y ∷ []) (sym is ∙ too) in
        let values_same : v ≡ y = head v y [] [] (tail w x (v ∷ []) (y ∷ []) (sym is ∙ too)) in
        let flags_same : flag ≡ also = same_flag flag also (sym named_so ∙ ap (named syntax.flags) words_same ∙ named_too) in
        let says_same : value ≡ value_too = one_value (sort_of also) y value value_too
        (subst (λ (f : Flag). IsValue (sort_of f) y value) flags_same (subst (λ (u : List ℕ). IsValue (sort_of flag) u value) values_same says)) says_too in
        same ∙ (λ i. Valued (flags_same i) (says_same i)) ∙ sym same_too

    pub one_list : (words : Words) (items others : List Item) → AreItems syntax words items → AreItems syntax words others → items ≡ others
    one_list words [] [] are too = refl
    one_list words [] (other ∷ others) none (g, c, eq, is, are) = absurd (some_words syntax sound g c other is (sym eq ∙ none))
    one_list words (one ∷ items) [] (f, b, eq, is, are) none = absurd (some_words syntax sound f b one is (sym eq ∙ none))
    one_list words (one ∷ items) (other ∷ others) (f, b, eq, is, are) (g, c, eq_too, is_too, are_too) =
        let same = same_front syntax sound f g b c one other (shape_of syntax sound f one is) (shape_of syntax sound g other is_too) (sym eq ∙ eq_too) in
        let first = one_item g one other (subst (λ (ws : Words). IsItem syntax ws one) same.0 is) is_too in
        let rest = one_list b items others are (subst (λ (ws : Words). AreItems syntax ws others) (sym same.1) are_too) in
        λ i. first i ∷ rest i

    -- after a front of items come the items of the rest
    pub behind_items : (front rest : Words) (items others : List Item) → AreItems syntax front items → AreItems syntax (front ++ rest) others
        → (behind : List Item) × AreItems syntax rest behind × (others ≡ items ++ behind)
    behind_items front rest [] others none are = (others, subst (λ (ws : Words). AreItems syntax (ws ++ rest) others) none are, refl)
    behind_items front rest (one ∷ items) [] (f, b, eq, is, are) none =
        absurd (some_words syntax sound f (b ++ rest) one is (sym (append_assoc f b rest) ∙ ap (λ (ws : Words). ws ++ rest) (sym eq) ∙ none))
    behind_items front rest (one ∷ items) (other ∷ others) (f, b, eq, is, are) (g, c, eq_too, is_too, are_too) =
        let same = same_front syntax sound f g (b ++ rest) c one other (shape_of syntax sound f one is) (shape_of syntax sound g other is_too)
        (sym (append_assoc f b rest) ∙ ap (λ (ws : Words). ws ++ rest) (sym eq) ∙ eq_too) in
        let behind = behind_items b rest items others are (subst (λ (ws : Words). AreItems syntax ws others) (sym same.1) are_too) in
        let first = one_item g one other (subst (λ (ws : Words). IsItem syntax ws one) same.0 is) is_too in
        (behind.0, behind.1, λ i. sym first i ∷ behind.2 i)

  -- Commands.

  pub one_asked : (words : Words) (asked others : Asked) → IsCommand words asked → IsCommand words others → asked ≡ others
  one_asked words asked others is too =
      let eq : (syntax_of asked.name).name ∷ is.rest ≡ (syntax_of others.name).name ∷ too.rest = sym is.is ∙ too.is in
      let name = same_command asked.name others.name (head _ _ is.rest too.rest eq) in
      let items = one_list (syntax_of others.name) (each_sound others.name) too.rest asked.items others.items
      (subst (λ (c : CommandName). AreItems (syntax_of c) too.rest asked.items) name
      (subst (λ (ws : Words). AreItems (syntax_of asked.name) ws asked.items) (tail _ _ is.rest too.rest eq) is.are)) too.are in
      λ i. record { name = name i; items = items i }

-- One position.

-- a front of a front that begins a command begins one
shorter : (words : Words) (m n : ℕ) → m ≤ n → Begins (take n words) → Begins (take m words)
shorter words m n less begins = record {
  more = drop m (take n words) ++ begins.more;
  asked = begins.asked;
  is = subst (λ (ws : Words). IsCommand ws begins.asked)
      (ap (λ (ws : Words). ws ++ begins.more) (cut words m n less) ∙ append_assoc (take m words) (drop m (take n words)) begins.more) begins.is;
}
  where
    cut : (ws : Words) (k l : ℕ) → k ≤ l → take l ws ≡ take k ws ++ drop k (take l ws)
    cut ws zero l less = refl
    cut [] (suc k) zero less = refl
    cut [] (suc k) (suc l) less = refl
    cut (w ∷ ws) (suc k) zero less = absurd (omega (arith, less))
    cut (w ∷ ws) (suc k) (suc l) less = ap (λ (vs : Words). w ∷ vs) (cut ws k l (omega (arith, less)))

not_less : (words : Words) (position another : ℕ) → IsMisplaced words position → IsMisplaced words another → position < another → ⊥
not_less words position another is too less =
    is.longest (omega (arith, less, too.next, too.within)) (shorter words position too.front (omega (arith, less, too.next)) too.begins)

pub one_position : (words : Words) (position another : ℕ) → IsMisplaced words position → IsMisplaced words another → position ≡ another
one_position words position another is too = omega (arith, not_less words position another is too, not_less words another position too is)

-- What a call answers is the one answer.

module _ (words : Words) (result : Result Command (Stop UsageFault)) (found : IfOk result (λ command. IsCommand words (asked command)))
    (refused : OnFault result (λ fault. IsMisplaced words fault.position)) where
  pub every_command : ((a b : Asked) → IsCommand words a → IsCommand words b → a ≡ b) → (wanted : Asked) → IsCommand words wanted → Gives (Ok wanted) (seen asked (fault_seen position_of result))
  every_command one wanted is = by result found refused
    where
      by : (r : Result Command (Stop UsageFault)) → IfOk r (λ command. IsCommand words (asked command)) → OnFault r (λ fault. IsMisplaced words fault.position) → Gives (Ok wanted) (seen asked (fault_seen position_of r))
      by (Ok command) it faulty = ap (λ (a : Asked). Ok a) (one wanted (asked command) is it)
      by (Err (Refused fault)) it faulty = absurd (faulty.none wanted is)
      by (Err NoMemory) it faulty = tt

  pub every_position : (position : ℕ) → IsMisplaced words position → Gives (Err position) (seen asked (fault_seen position_of result))
  every_position position is = by result found refused
    where
      by : (r : Result Command (Stop UsageFault)) → IfOk r (λ command. IsCommand words (asked command)) → OnFault r (λ fault. IsMisplaced words fault.position) → Gives (Err position) (seen asked (fault_seen position_of r))
      by (Ok command) it faulty = absurd (is.none (asked command) it)
      by (Err (Refused fault)) it faulty = ap (λ (n : ℕ). Err n) (one_position words position fault.position is faulty)
      by (Err NoMemory) it faulty = tt
