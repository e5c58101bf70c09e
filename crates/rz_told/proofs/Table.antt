-- What the rules on the header and the map leave of the table of rules.
use Rattle.std.proofs.Common.{◌≡◌, ℕ, ◌==◌, ◌<◌, ◌||◌, is_some, Bool, true, false, List, [], ◌∷◌, ◌++◌, length, Some, None, not, refl, sym, ◌∙◌, arith}
use Rattle.std.proofs.lemmas.Bool.{ne_eqb}
use Rattle.std.proofs.lemmas.List.{append-nil}
use Rattle.std.specs.List.{flat_map}
use Rattle.std.specs.declared.option.Option.{Option}
use Rattle.rz_fork.specs.declared.fault.ForkFault.{ForkFault}
use Rattle.rz_fork.specs.declared.layout.Header.{Header}
use Rattle.rz_fork.specs.declared.layout.Outline.{Outline}
use Rattle.rz_fork.specs.Layout.{header_of, types_of, the_outline}
use Rattle.rz_fork.specs.Rules.{short_header, data_area_outside, map_outside, short_map, type_list_outside, types_outside}
use Rattle.rz_fork.specs.Breaks.{Rule, ShortHeader, DataArea, MapArea, ShortMap, TypeList, Types, Lists, DataOf, NamesOf, Codes, Ids, listed, faults, where_hold, behind, rules, breaks}
use Rattle.rz_told.specs.Left.{lists_of}

-- a table with these faults
abbrev table : {F : Type 0} → (a b c d e f : Option F) (lists data_of names codes ids : List F) → Rule → List F
table a b c d e f lists data_of names codes ids ShortHeader = listed a
table a b c d e f lists data_of names codes ids DataArea = listed b
table a b c d e f lists data_of names codes ids MapArea = listed c
table a b c d e f lists data_of names codes ids ShortMap = listed d
table a b c d e f lists data_of names codes ids TypeList = listed e
table a b c d e f lists data_of names codes ids Types = listed f
table a b c d e f lists data_of names codes ids Lists = lists
table a b c d e f lists data_of names codes ids DataOf = data_of
table a b c d e f lists data_of names codes ids NamesOf = names
table a b c d e f lists data_of names codes ids Codes = codes
table a b c d e f lists data_of names codes ids Ids = ids

-- what is tested of it
abbrev rows : {F : Type 0} → (a b c d e f : Option F) (lists data_of names codes ids : List F) → List F
rows a b c d e f lists data_of names codes ids =
    flat_map (λ rule. where_hold (table a b c d e f lists data_of names codes ids) (behind rule) (table a b c d e f lists data_of names codes ids rule)) rules

module _ {F : Type 0} (lists data_of names codes ids : List F) where
  short_rows : (a b c d e f : Option F) → is_some a ≡ true
      → rows a b c d e f lists data_of names codes ids ≡ flat_map listed (a ∷ None ∷ None ∷ None ∷ None ∷ None ∷ [])
  short_rows None b c d e f is = cc
  short_rows (Some x) b c d e f is = refl

  map_rows : (b c d e f : Option F) → (is_some c || is_some d) ≡ true
      → rows None b c d e f lists data_of names codes ids ≡ flat_map listed (None ∷ b ∷ c ∷ d ∷ None ∷ None ∷ [])
  map_rows b None None e f is = cc
  map_rows None None (Some y) e f is = refl
  map_rows (Some x) None (Some y) e f is = refl
  map_rows None (Some y) None e f is = refl
  map_rows (Some x) (Some y) None e f is = refl
  map_rows None (Some y) (Some z) e f is = refl
  map_rows (Some x) (Some y) (Some z) e f is = refl

  list_rows : (b e f : Option F) → is_some e ≡ true
      → rows None b None None e f lists data_of names codes ids ≡ flat_map listed (None ∷ b ∷ None ∷ None ∷ e ∷ None ∷ [])
  list_rows b None f is = cc
  list_rows None (Some y) f is = refl
  list_rows (Some x) (Some y) f is = refl

  type_rows : (b f : Option F) → is_some f ≡ true
      → rows None b None None None f lists data_of names codes ids ≡ flat_map listed (None ∷ b ∷ None ∷ None ∷ None ∷ f ∷ [])
  type_rows b None is = cc
  type_rows None (Some y) is = refl
  type_rows (Some x) (Some y) is = refl

module _ (bytes : List ℕ) (some : 0 < length bytes) where
  abbrev h : Header
  h = header_of bytes

  all_rows : breaks bytes ≡ rows (short_header bytes) (data_area_outside bytes h) (map_outside bytes h) (short_map h) (type_list_outside h (types_of bytes h)) (types_outside (the_outline bytes))
      (faults bytes Lists) (faults bytes DataOf) (faults bytes NamesOf) (faults bytes Codes) (faults bytes Ids)
  unfolding faults
  all_rows =
      let bytes_there : (length bytes == 0) ≡ false = ne_eqb (length bytes) 0 (λ none. omega (arith, some, none)) in rw bytes_there refl

  abbrev five : Option ForkFault → Option ForkFault → Option ForkFault → Option ForkFault → Option ForkFault → Option ForkFault → List ForkFault
  five a b c d e f = rows a b c d e f (faults bytes Lists) (faults bytes DataOf) (faults bytes NamesOf) (faults bytes Codes) (faults bytes Ids)

  pub short_exit : (a : Option ForkFault) → a ≡ short_header bytes → is_some a ≡ true
      → breaks bytes ≡ flat_map listed (a ∷ None ∷ None ∷ None ∷ None ∷ None ∷ []) ++ []
  short_exit a is there =
      all_rows ∙ (λ i. five (sym is i) (data_area_outside bytes h) (map_outside bytes h) (short_map h) (type_list_outside h (types_of bytes h)) (types_outside (the_outline bytes)))
      ∙ short_rows (faults bytes Lists) (faults bytes DataOf) (faults bytes NamesOf) (faults bytes Codes) (faults bytes Ids) a (data_area_outside bytes h) (map_outside bytes h) (short_map h) (type_list_outside h (types_of bytes h)) (types_outside (the_outline bytes)) there ∙ sym (append-nil (flat_map listed (a ∷ None ∷ None ∷ None ∷ None ∷ None ∷ [])))

  pub map_exit : (b c d : Option ForkFault) → short_header bytes ≡ None → b ≡ data_area_outside bytes h → c ≡ map_outside bytes h → d ≡ short_map h → (is_some c || is_some d) ≡ true
      → breaks bytes ≡ flat_map listed (None ∷ b ∷ c ∷ d ∷ None ∷ None ∷ []) ++ []
  map_exit b c d sound is_b is_c is_d there =
      all_rows ∙ (λ i. five (sound i) (sym is_b i) (sym is_c i) (sym is_d i) (type_list_outside h (types_of bytes h)) (types_outside (the_outline bytes)))
      ∙ map_rows (faults bytes Lists) (faults bytes DataOf) (faults bytes NamesOf) (faults bytes Codes) (faults bytes Ids) b c d (type_list_outside h (types_of bytes h)) (types_outside (the_outline bytes)) there ∙ sym (append-nil (flat_map listed (None ∷ b ∷ c ∷ d ∷ None ∷ None ∷ [])))

  pub list_exit : (b e : Option ForkFault) → short_header bytes ≡ None → b ≡ data_area_outside bytes h → map_outside bytes h ≡ None → short_map h ≡ None → e ≡ type_list_outside h (types_of bytes h) → is_some e ≡ true
      → breaks bytes ≡ flat_map listed (None ∷ b ∷ None ∷ None ∷ e ∷ None ∷ []) ++ []
  list_exit b e sound is_b no_c no_d is_e there =
      all_rows ∙ (λ i. five (sound i) (sym is_b i) (no_c i) (no_d i) (sym is_e i) (types_outside (the_outline bytes)))
      ∙ list_rows (faults bytes Lists) (faults bytes DataOf) (faults bytes NamesOf) (faults bytes Codes) (faults bytes Ids) b e (types_outside (the_outline bytes)) there ∙ sym (append-nil (flat_map listed (None ∷ b ∷ None ∷ None ∷ e ∷ None ∷ [])))

  pub type_exit : (b f : Option ForkFault) → short_header bytes ≡ None → b ≡ data_area_outside bytes h → map_outside bytes h ≡ None → short_map h ≡ None → type_list_outside h (types_of bytes h) ≡ None → f ≡ types_outside (the_outline bytes) → is_some f ≡ true
      → breaks bytes ≡ flat_map listed (None ∷ b ∷ None ∷ None ∷ None ∷ f ∷ []) ++ []
  type_exit b f sound is_b no_c no_d no_e is_f there =
      all_rows ∙ (λ i. five (sound i) (sym is_b i) (no_c i) (no_d i) (no_e i) (sym is_f i))
      ∙ type_rows (faults bytes Lists) (faults bytes DataOf) (faults bytes NamesOf) (faults bytes Codes) (faults bytes Ids) b f there ∙ sym (append-nil (flat_map listed (None ∷ b ∷ None ∷ None ∷ None ∷ f ∷ [])))

  sound_rows : (b : Option ForkFault) (area : Bool) → is_some b ≡ not area
      → five None b None None None None ≡ flat_map listed (None ∷ b ∷ None ∷ None ∷ None ∷ None ∷ []) ++ lists_of bytes (Some (the_outline bytes)) area
  unfolding faults
  sound_rows None true is = refl
  sound_rows (Some x) false is = refl
  sound_rows None false is = cc
  sound_rows (Some x) true is = cc

  pub sound_exit : (b : Option ForkFault) (area : Bool) (o : Outline) → short_header bytes ≡ None → b ≡ data_area_outside bytes h → map_outside bytes h ≡ None → short_map h ≡ None → type_list_outside h (types_of bytes h) ≡ None → types_outside (the_outline bytes) ≡ None
      → is_some b ≡ not area → o ≡ the_outline bytes
      → breaks bytes ≡ flat_map listed (None ∷ b ∷ None ∷ None ∷ None ∷ None ∷ []) ++ lists_of bytes (Some o) area
  sound_exit b area o sound is_b no_c no_d no_e no_f lies is_o =
      all_rows ∙ (λ i. five (sound i) (sym is_b i) (no_c i) (no_d i) (no_e i) (no_f i)) ∙ sound_rows b area lies
      ∙ (λ i. flat_map listed (None ∷ b ∷ None ∷ None ∷ None ∷ None ∷ []) ++ lists_of bytes (Some (sym is_o i)) area)

-- a rule that was found to hold
pub none_from : {F : Type 0} (found rule : Option F) → found ≡ rule → is_some found ≡ false → rule ≡ None
none_from None rule is holds = sym is
none_from (Some x) rule is holds = cc

-- one of two rules was found broken
pub either : {F : Type 0} (c d : Option F) → is_some d ≡ true → (is_some c || is_some d) ≡ true
either None d is = is
either (Some x) d is = refl
