-- Bodies of declarations are formed as they should be, and are well shaped with their values.
use Rattle.std.proofs.Common.{◌≡◌, ◌&&◌, Bool, true, false, if◌then◌else◌, List, [], ◌∷◌, Option, Some, None, Ok, refl, sym, subst}
use Rattle.std.specs.Prelude.{option_map}
use Rattle.rz_core.specs.declared.fault.Mark.{Mark}
use Rattle.rz_core.specs.declared.resource.Word.{Word}
use Rattle.rz_expr.specs.Keyword.{is_keyword, keyword_in}
use Rattle.rz_words.specs.declared.keyword.Keyword.{Keyword}
use Rattle.rz_words.specs.declared.keyword.Keyword.TheVariants as keywords
use Rattle.rz_lex.specs.Lexeme.{AreLexed}
use Rattle.rz_lex.specs.declared.token.Token.{Token}
use Rattle.rz_stmt_brackets.specs.declared.bracket.Bracket.TheVariants.{Curly, Square}
use Rattle.rz_stmt_brackets.specs.declared.pieces.Divider.TheVariants.{Case, Semicolon}
use Rattle.rz_stmt_type.specs.Body.{array, case_more, cut, cut_cases, empty, flat, key, labelled, more, no_case, none, switch, AreCases, AreEachCase, AreFields, IsBody, IsField}
use Rattle.rz_stmt_type.specs.Constants.{body_value, cases_value, count_value, field_value, given_value, number_value}
use Rattle.rz_stmt_fields.specs.Form as form
use Rattle.rz_stmt_fields.specs.Form.{BodyForm, CasesForm, FieldForm}
use Rattle.rz_stmt_type.specs.Head.{bare, case_front, counted, is_colon, named, ArrayFront, CaseFront, IsArrayFront, IsBraced, IsNamed}
use Rattle.rz_stmt_type.specs.Start.{start_of, started, wide_start, Array, FieldStart, Flat, Key, Switch}
use Rattle.rz_stmt_fields.specs.Symbols.{name_in}
use Rattle.rz_stmt_fields.proofs.Answering.{same_ok, then_ok}
use Rattle.rz_stmt_fields.proofs.Pieces.{after_lexed, cut_lexed, within_lexed, AreAllLexed}
use Rattle.rz_stmt_type.proofs.Labels.{label_formed}
use Rattle.rz_stmt_type.proofs.ShapedFlat.{flat_formed}
use Rattle.rz_stmt_fields.proofs.ShapedField.{a_key_formed, AreCasesFormed, IsBodyFormed, IsFieldFormed}
use Rattle.rz_stmt_fields.proofs.ShapedNumber.{name_of}
use Rattle.rz_stmt_type.proofs.ShapedValue.{number_shaped}
use Rattle.rz_types_fields.specs.Field as made
use Rattle.rz_types_fields.specs.Field.{PlainBody, PlainCases, PlainField}
use Rattle.rz_types_fields.specs.Shape.{are_cases_shaped, are_shaped, is_none_or, is_own_name, is_shaped}

-- Parts of fields.

abbrev IsLexedBehind : FieldStart → Type 0
IsLexedBehind (Key behind) = AreLexed behind
IsLexedBehind (Array behind) = AreLexed behind
IsLexedBehind (Switch behind) = AreLexed behind
IsLexedBehind Flat = Unit {0}

wide_lexed : (tokens : List Token) → AreLexed tokens → IsLexedBehind (wide_start tokens)
wide_lexed [] are = tt
wide_lexed (token ∷ tokens) are = by (is_keyword keywords.Array token.shape)
  where
    by : (b : Bool) → IsLexedBehind (if b then Array tokens else Flat)
    by true = are.1
    by false = tt

start_lexed : (tokens : List Token) → AreLexed tokens → IsLexedBehind (start_of tokens)
start_lexed [] are = tt
start_lexed (token ∷ tokens) are = by (keyword_in token.shape)
  where
    by : (word : Option Keyword) → IsLexedBehind (started word tokens)
    by None = tt
    by (Some keywords.Key) = are.1
    by (Some keywords.Array) = are.1
    by (Some keywords.Wide) = wide_lexed tokens are.1
    by (Some keywords.Switch) = are.1
    by (Some other) = tt

braced_lexed : (tokens inside : List Token) → IsBraced tokens inside → AreLexed tokens → AreLexed inside
braced_lexed tokens inside is are = subst AreLexed (sym is.3) (within_lexed Curly tokens is.0 is.1 are)

abbrev IsFrontFormed : ArrayFront → Type 0
IsFrontFormed front = (is_none_or is_own_name front.name ≡ true) × AreLexed front.row

named_formed : (tokens : List Token) (front : ArrayFront) → IsNamed tokens front → AreLexed tokens → IsFrontFormed front
named_formed [] front is are = absurd is
named_formed (token ∷ tokens) front is are =
    subst IsFrontFormed (sym is.4) (name_of token.shape is.0 are.0 is.2, braced_lexed tokens is.1 is.3 are.1)

front_formed : (tokens : List Token) (front : ArrayFront) → IsArrayFront tokens front → AreLexed tokens → IsFrontFormed front
front_formed tokens front (bare is) are = subst IsFrontFormed (sym is.2) (refl, braced_lexed tokens is.0 is.1 are)
front_formed tokens front (named is) are = named_formed tokens front is are
front_formed tokens front (counted is) are = subst IsFrontFormed (sym is.6) (refl, braced_lexed is.0.behind is.2 is.5 (after_lexed Square tokens is.0 is.3 are))

case_formed : (tokens : List Token) (front : CaseFront) → case_front tokens ≡ Some front → AreLexed tokens → (is_own_name front.name ≡ true) × AreLexed front.row
case_formed [] front is are = cc
case_formed (first ∷ []) front is are = cc
case_formed (first ∷ second ∷ row) front is are = by (is_colon second.shape) (name_in first.shape) refl is
  where
    by : (colon : Bool) (name : Option Word) → name_in first.shape ≡ name → (if colon then option_map (λ n. record { name = n; row = row }) name else None) ≡ Some front
        → (is_own_name front.name ≡ true) × AreLexed front.row
    by true (Some name) has so =
        subst (λ (f : CaseFront). (is_own_name f.name ≡ true) × AreLexed f.row) (same so) (name_of first.shape name are.0 has, are.1.1)
      where
        same : ◌≡◌ {A = Option CaseFront} (Some (record { name = name; row = row })) (Some front) → record { name = name; row = row } ≡ front
        same e = cc e
    by true None has so = cc
    by false name has so = cc

-- As they are written.

mutual
  field_formed : (in_case : Bool) (tokens : List Token) (field : FieldForm) → IsField in_case tokens field → AreLexed tokens → IsFieldFormed in_case field
  field_formed in_case tokens field (flat same_case all one is) are = flat_formed in_case tokens field is are
  field_formed in_case tokens field (key all behind one start is) are = a_key_formed behind field is (subst IsLexedBehind start (start_lexed tokens are))
  field_formed in_case tokens field (array same_case all behind front row start is rows) are =
      let formed = front_formed behind front is (subst IsLexedBehind start (start_lexed tokens are)) in
      (formed.0, body_formed false front.row row rows formed.1)
  field_formed in_case tokens field (switch same_case all behind inside cases start is within) are =
      cases_formed inside cases within (braced_lexed behind inside is (subst IsLexedBehind start (start_lexed tokens are)))

  pub body_formed : (in_case : Bool) (tokens : List Token) (body : BodyForm) → IsBody in_case tokens body → AreLexed tokens → IsBodyFormed in_case body
  body_formed in_case tokens body (cut same_case all pieces own is fields) are = fields_formed in_case pieces body fields (cut_lexed Semicolon tokens pieces is are)

  fields_formed : (in_case : Bool) (pieces : List (List Token)) (body : BodyForm) → AreFields in_case pieces body → AreAllLexed pieces → IsBodyFormed in_case body
  fields_formed in_case pieces body (none same_case) are = tt
  fields_formed in_case pieces body (empty same_case rest own fields) are = fields_formed in_case rest body fields are.1
  fields_formed in_case pieces body (labelled same_case piece rest front others has fields) are =
      let formed = label_formed piece front has are.0 in
      (formed.0, fields_formed in_case (front.behind ∷ rest) others fields (formed.1, are.1))
  fields_formed in_case pieces body (more same_case token tokens rest field others is fields) are =
      (field_formed in_case (token ∷ tokens) field is are.0, fields_formed in_case rest others fields are.1)

  cases_formed : (tokens : List Token) (cases : CasesForm) → AreCases tokens cases → AreLexed tokens → AreCasesFormed cases
  cases_formed tokens cases (cut_cases all pieces own is each) are = each_formed pieces cases each (cut_lexed Case tokens ([] ∷ pieces) is are).1

  each_formed : (pieces : List (List Token)) (cases : CasesForm) → AreEachCase pieces cases → AreAllLexed pieces → AreCasesFormed cases
  each_formed pieces cases no_case are = tt
  each_formed pieces cases (case_more piece rest front row others begins is each) are =
      let formed = case_formed piece front begins are.0 in
      (formed.0, body_formed true front.row row is formed.1, each_formed rest others each are.1)

-- With their values.

module _ (mark : Mark) where
  mutual
    field_shaped : (in_case : Bool) (own : FieldForm) → IsFieldFormed in_case own → (field : PlainField) → field_value mark own ≡ Ok field → is_shaped in_case field ≡ true
    field_shaped in_case (form.Number number) formed field is =
        let value = then_ok (number_value mark number) _ field is in
        subst (λ (f : PlainField). is_shaped in_case f ≡ true) (same_ok _ field value.2) (number_shaped mark in_case number formed.0 formed.1 value.0 value.1)
    field_shaped in_case (form.Text text) formed field is = subst (λ (f : PlainField). is_shaped in_case f ≡ true) (same_ok (made.Text text) field is) formed
    field_shaped in_case (form.Points points) formed field is = subst (λ (f : PlainField). is_shaped in_case f ≡ true) (same_ok (made.Points points) field is) formed
    field_shaped in_case (form.Fill unit count) formed field is =
        let value = then_ok (count_value mark count) _ field is in
        subst (λ (f : PlainField). is_shaped in_case f ≡ true) (same_ok (made.Fill unit value.0) field value.2) formed
    field_shaped in_case (form.Align unit) formed field is = subst (λ (f : PlainField). is_shaped in_case f ≡ true) (same_ok (made.Align unit) field is) formed
    field_shaped in_case (form.Label name) formed field is = subst (λ (f : PlainField). is_shaped in_case f ≡ true) (same_ok (made.Label name) field is) formed
    field_shaped in_case (form.Array name count row) formed field is =
        let rows = then_ok (given_value mark count) _ field is in
        let fields = then_ok (body_value mark row) _ field rows.2 in
        let shaped = body_shaped false row formed.1 fields.0 fields.1 in
        subst (λ (f : PlainField). is_shaped in_case f ≡ true) (same_ok (made.Array name rows.0 fields.0) field fields.2) (λ i. formed.0 i && shaped i)
    field_shaped in_case (form.Switch cases) formed field is =
        let all = then_ok (cases_value mark cases) _ field is in
        subst (λ (f : PlainField). is_shaped in_case f ≡ true) (same_ok (made.Switch all.0) field all.2) (cases_shaped cases formed all.0 all.1)

    pub body_shaped : (in_case : Bool) (own : BodyForm) → IsBodyFormed in_case own → (body : PlainBody) → body_value mark own ≡ Ok body → are_shaped in_case body ≡ true
    body_shaped in_case form.no_fields formed body is = subst (λ (b : PlainBody). are_shaped in_case b ≡ true) (same_ok made.no_fields body is) refl
    body_shaped in_case (form.field_and field fields) formed body is =
        let one = then_ok (field_value mark field) _ body is in
        let others = then_ok (body_value mark fields) _ body one.2 in
        let first = field_shaped in_case field formed.0 one.0 one.1 in
        let rest = body_shaped in_case fields formed.1 others.0 others.1 in
        subst (λ (b : PlainBody). are_shaped in_case b ≡ true) (same_ok (made.field_and one.0 others.0) body others.2) (λ i. first i && rest i)

    cases_shaped : (own : CasesForm) → AreCasesFormed own → (cases : PlainCases) → cases_value mark own ≡ Ok cases → are_cases_shaped cases ≡ true
    cases_shaped form.no_cases formed cases is = subst (λ (c : PlainCases). are_cases_shaped c ≡ true) (same_ok made.no_cases cases is) refl
    cases_shaped (form.case_and name row behind) formed cases is =
        let fields = then_ok (body_value mark row) _ cases is in
        let others = then_ok (cases_value mark behind) _ cases fields.2 in
        let first = body_shaped true row formed.1 fields.0 fields.1 in
        let rest = cases_shaped behind formed.2 others.0 others.1 in
        subst (λ (c : PlainCases). are_cases_shaped c ≡ true) (same_ok (made.case_and name fields.0 others.0) cases others.2) (λ i. formed.0 i && (first i && rest i))
