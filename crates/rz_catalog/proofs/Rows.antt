-- A row with other texts is still a row of its declaration.
use Rattle.std.proofs.Common.{◌≡◌, inl, inr, Bool, true, false, List, [], ◌∷◌, map, length, refl, sym, ap, subst, ◌∙◌}
use Rattle.std.specs.List.{AllByRecursion}
use Rattle.std.proofs.lemmas.List.{length-map}
use Rattle.rz_types_fields.specs.Field.{case_and, field_and, no_cases, no_fields, takes_value, Align, Array, Fill, Label, Number, PlainBody, PlainCases, PlainField, Points, Switch, Text}
use Rattle.rz_types_fields.specs.Row.{IsChoice, IsFront, IsRow, IsStated, IsValue}
use Rattle.rz_types_fields.specs.declared.tree.Tree.{Tree}
use Rattle.rz_catalog.specs.Leaves.{blank, blank_of}
use Rattle.rz_catalog.proofs.Values.{like_choice, like_group, like_number, like_rows, like_text}

-- what holds of a value or a row holds of each that is the same but for its texts
abbrev Stays : {X B : Type 0} → (X → B) → (X → Type 0) → Type 0
Stays g P = (old new : _) → g new ≡ g old → P old → P new

front_stays : (takes : Bool) (IsOne : Tree → Type 0) → Stays blank_of IsOne → (Rest : List Tree → Type 0) → Stays blank Rest → Stays blank (λ row. (rest : List Tree) × IsFront takes IsOne row rest × Rest rest)
front_stays true IsOne one Rest rest [] new same it = absurd (let is = it.1.2 in cc)
front_stays true IsOne one Rest rest (v ∷ old) [] same it = absurd cc
front_stays true IsOne one Rest rest (v ∷ old) (w ∷ new) same it =
    let is : v ∷ old ≡ it.1.0 ∷ it.0 = it.1.2 in
    let first : v ≡ it.1.0 = cc in
    let others : old ≡ it.0 = cc in
    (new, (w, one v w (cc) (subst IsOne (sym first) it.1.1), refl), rest old new (cc) (subst Rest (sym others) it.2))
front_stays false IsOne one Rest rest old new same it = (new, refl, rest old new same (subst Rest (sym it.1) it.2))

each_stays : (row : PlainBody) → Stays blank (IsRow row) → Stays (map blank) (AllByRecursion (IsRow row))
each_stays row one [] [] same it = tt
each_stays row one [] (new ∷ news) same it = absurd cc
each_stays row one (old ∷ olds) [] same it = absurd cc
each_stays row one (old ∷ olds) (new ∷ news) same it = (one old new (cc) it.0, each_stays row one olds news (cc) it.1)

stated_stays : (rows others : List (List Tree)) → map blank others ≡ map blank rows → length others ≡ length rows
stated_stays rows others same = sym (length-map others blank) ∙ ap length same ∙ length-map rows blank

mutual
  value_stays : (field : PlainField) → Stays blank_of (IsValue field)
  value_stays (Number number) old new same it = (it.0, like_number new it.0 (same ∙ ap blank_of it.1), it.2)
  value_stays (Text text) old new same it = like_text new it.0 (same ∙ ap blank_of it.1)
  value_stays (Points points) old new same it = (it.0, like_group new it.0 (same ∙ ap blank_of it.1), it.2, it.3)
  value_stays (Fill unit count) old new same it = it
  value_stays (Align unit) old new same it = it
  value_stays (Label name) old new same it = it
  value_stays (Array name count row) old new same it =
      let like = like_rows new it.0 (same ∙ ap blank_of it.1) in
      (like.0, like.1, subst (IsStated count) (sym (stated_stays it.0 like.0 like.2)) it.2, each_stays row (row_stays row) it.0 like.0 like.2 it.3)
  value_stays (Switch cases) old new same it = choice_stays cases old new same it

  choice_stays : (cases : PlainCases) → Stays blank_of (IsChoice cases)
  choice_stays no_cases old new same it = it
  choice_stays (case_and name row others) old new same (inl it) =
      let like = like_choice new name it.0 (same ∙ ap blank_of it.1) in
      inl (like.0, like.1, row_stays row it.0 like.0 like.2 it.2)
  choice_stays (case_and name row others) old new same (inr it) = inr (choice_stays others old new same it)

  pub row_stays : (body : PlainBody) → Stays blank (IsRow body)
  row_stays no_fields old [] same it = refl
  row_stays no_fields old (value ∷ new) same it = absurd cc
  row_stays (field_and field fields) old new same it = front_stays (takes_value field) (IsValue field) (value_stays field) (IsRow fields) (row_stays fields) old new same it
