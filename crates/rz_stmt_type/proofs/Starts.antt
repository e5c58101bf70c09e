-- The first word of a field tells what it is.
use Rattle.std.proofs.Common.{◌≡◌, Bool, true, false, List, [], ◌∷◌, Option, Some, None, refl, sym, subst, ◌∙◌}
use Rattle.std.specs.Prelude.{option_and_then, option_map}
use Rattle.rz_expr.specs.Keyword.{keyword_in}
use Rattle.rz_words.specs.declared.keyword.Keyword.{Keyword}
use Rattle.rz_words.specs.declared.keyword.Keyword.TheVariants as keywords
use Rattle.rz_lex.specs.declared.token.Token.{Token}
use Rattle.rz_stmt_type.specs.Body.{array, flat, key, switch, IsArray, IsField, IsSwitch}
use Rattle.rz_stmt_type.specs.Flat.{IsFlat}
use Rattle.rz_stmt_fields.specs.FieldWord.{by_modifier, field_word, front_in, modifier_word, FieldFront}
use Rattle.rz_stmt_fields.specs.Form.{FieldForm}
use Rattle.rz_stmt_fields.specs.Key.{IsKey}
use Rattle.rz_stmt_type.specs.Start.{start_of, started, Array, Flat, Key, Switch}
use Rattle.rz_stmt_fields.proofs.Fronts.{fronts}

-- a field with no fields of its own begins with none of the words of the others
flat_start : (tokens : List Token) (front : FieldFront) → front_in false None tokens ≡ Some front → start_of tokens ≡ Flat
flat_start [] front is = refl
flat_start (token ∷ tokens) front is = by (keyword_in token.shape) is
  where
    by : (word : Option Keyword) → by_modifier (option_and_then modifier_word word) false None (λ signs shown. front_in signs shown tokens)
        (option_map (λ w. record { unsigned = false; radix = None; word = w; tail = tokens }) (option_and_then field_word word)) ≡ Some front → started word tokens ≡ Flat
    by None so = refl
    by (Some keywords.Key) so = cc
    by (Some keywords.Array) so = cc
    by (Some keywords.Wide) so = cc
    by (Some keywords.Switch) so = cc
    by (Some other) so = refl

pub starts_flat : (tokens : List Token) (field : FieldForm) → IsFlat tokens field → start_of tokens ≡ Flat
starts_flat tokens field is = flat_start tokens is.0 ((fronts tokens is.0).1 is.1)

same_key : (a b : List Token) → Key a ≡ Key b → a ≡ b
same_key a b is = cc is

same_array : (a b : List Token) → Array a ≡ Array b → a ≡ b
same_array a b is = cc is

same_switch : (a b : List Token) → Switch a ≡ Switch b → a ≡ b
same_switch a b is = cc is

module _ (tokens : List Token) where
  pub flat_back : (in_case : Bool) (field : FieldForm) → start_of tokens ≡ Flat → IsField in_case tokens field → IsFlat tokens field
  flat_back in_case field starts (flat same_case all one is) = is
  flat_back in_case field starts (key all behind one start is) = absurd (cc (sym start ∙ starts))
  flat_back in_case field starts (array same_case all behind front row start is rows) = absurd (cc (sym start ∙ starts))
  flat_back in_case field starts (switch same_case all behind inside cases start is are) = absurd (cc (sym start ∙ starts))

  module _ (behind : List Token) where
    pub key_back : (in_case : Bool) (field : FieldForm) → start_of tokens ≡ Key behind → IsField in_case tokens field → (in_case ≡ true) × IsKey behind field
    key_back in_case field starts (flat same_case all one is) = absurd (cc (sym (starts_flat tokens field is) ∙ starts))
    key_back in_case field starts (key all other one start is) = (refl, subst (λ (ts : List Token). IsKey ts field) (same_key other behind (sym start ∙ starts)) is)
    key_back in_case field starts (array same_case all other front row start is rows) = absurd (cc (sym start ∙ starts))
    key_back in_case field starts (switch same_case all other inside cases start is are) = absurd (cc (sym start ∙ starts))

    pub array_back : (in_case : Bool) (field : FieldForm) → start_of tokens ≡ Array behind → IsField in_case tokens field → IsArray behind field
    array_back in_case field starts (flat same_case all one is) = absurd (cc (sym (starts_flat tokens field is) ∙ starts))
    array_back in_case field starts (key all other one start is) = absurd (cc (sym start ∙ starts))
    array_back in_case field starts (array same_case all other front row start is rows) =
        subst (λ (ts : List Token). IsArray ts field) (same_array other behind (sym start ∙ starts)) (front, row, is, rows, refl)
    array_back in_case field starts (switch same_case all other inside cases start is are) = absurd (cc (sym start ∙ starts))

    pub array_forth : (in_case : Bool) (field : FieldForm) → start_of tokens ≡ Array behind → IsArray behind field → IsField in_case tokens field
    array_forth in_case field starts is = subst (IsField in_case tokens) (sym is.4) (array in_case tokens behind is.0 is.1 starts is.2 is.3)

    pub switch_back : (in_case : Bool) (field : FieldForm) → start_of tokens ≡ Switch behind → IsField in_case tokens field → IsSwitch behind field
    switch_back in_case field starts (flat same_case all one is) = absurd (cc (sym (starts_flat tokens field is) ∙ starts))
    switch_back in_case field starts (key all other one start is) = absurd (cc (sym start ∙ starts))
    switch_back in_case field starts (array same_case all other front row start is rows) = absurd (cc (sym start ∙ starts))
    switch_back in_case field starts (switch same_case all other inside cases start is are) =
        subst (λ (ts : List Token). IsSwitch ts field) (same_switch other behind (sym start ∙ starts)) (inside, cases, is, are, refl)

    pub switch_forth : (in_case : Bool) (field : FieldForm) → start_of tokens ≡ Switch behind → IsSwitch behind field → IsField in_case tokens field
    switch_forth in_case field starts is = subst (IsField in_case tokens) (sym is.4) (switch in_case tokens behind is.0 is.1 starts is.2 is.3)
