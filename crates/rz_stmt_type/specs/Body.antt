-- Bodies of type declarations: fields with `;` between them, and labels in front of them. Arrays and switches lead back to
-- bodies. (MPW Rez.)
use Rattle.std.specs.Prelude.{◌≡◌, Bool, true, false, List, [], ◌∷◌, Some}
use Rattle.rz_lex.specs.declared.token.Token.{Token}
use Rattle.rz_stmt_brackets.specs.Pieces.{AreCut}
use Rattle.rz_stmt_brackets.specs.declared.pieces.Divider.TheVariants.{Case, Semicolon}
use Rattle.rz_stmt_type.specs.Flat.{IsFlat}
use Rattle.rz_stmt_fields.specs.Form as form
use Rattle.rz_stmt_fields.specs.Form.{BodyForm, CaseForm, CasesForm, FieldForm}
use Rattle.rz_stmt_type.specs.Head.{case_front, ArrayFront, CaseFront, IsArrayFront, IsBraced}
use Rattle.rz_stmt_fields.specs.Key.{IsKey}
use Rattle.rz_stmt_type.specs.Label.{label_front, LabelFront}
use Rattle.rz_stmt_type.specs.Start.{start_of, Array, Key, Switch}

mutual
  -- the tokens are this field, which stands directly in a case or not
  pub data IsField : (in_case : Bool) → List Token → FieldForm → Type 0 where
    -- a number, a text, a point, a rectangle, a fill or an align
    flat : (in_case : Bool) (tokens : List Token) (field : FieldForm) → IsFlat tokens field → IsField in_case tokens field
    -- a key, directly in a case
    key : (tokens behind : List Token) (field : FieldForm) → start_of tokens ≡ Key behind → IsKey behind field → IsField true tokens field
    -- an array; no key may stand directly in it
    array : (in_case : Bool) (tokens behind : List Token) (front : ArrayFront) (row : BodyForm)
        → start_of tokens ≡ Array behind → IsArrayFront behind front → IsBody false front.row row
        → IsField in_case tokens (form.Array front.name front.count row)
    -- a switch: its cases in braces
    switch : (in_case : Bool) (tokens behind inside : List Token) (cases : CasesForm)
        → start_of tokens ≡ Switch behind → IsBraced behind inside → AreCases inside cases
        → IsField in_case tokens (form.Switch cases)

  -- the tokens are fields with `;` between them
  pub data IsBody : (in_case : Bool) → List Token → BodyForm → Type 0 where
    cut : (in_case : Bool) (tokens : List Token) (pieces : List (List Token)) (body : BodyForm)
        → AreCut Semicolon tokens pieces → AreFields in_case pieces body → IsBody in_case tokens body

  -- each piece is a field, or empty; labels may stand in front of it
  pub data AreFields : (in_case : Bool) → List (List Token) → BodyForm → Type 0 where
    none : (in_case : Bool) → AreFields in_case [] form.no_fields
    empty : (in_case : Bool) (pieces : List (List Token)) (body : BodyForm)
        → AreFields in_case pieces body → AreFields in_case ([] ∷ pieces) body
    labelled : (in_case : Bool) (piece : List Token) (pieces : List (List Token)) (front : LabelFront) (others : BodyForm)
        → label_front piece ≡ Some front → AreFields in_case (front.behind ∷ pieces) others
        → AreFields in_case (piece ∷ pieces) (form.field_and (form.Label front.name) others)
    more : (in_case : Bool) (token : Token) (tokens : List Token) (pieces : List (List Token)) (field : FieldForm) (others : BodyForm)
        → IsField in_case (token ∷ tokens) field → AreFields in_case pieces others
        → AreFields in_case ((token ∷ tokens) ∷ pieces) (form.field_and field others)

  -- the tokens are cases: nothing stands before the first `case`, and after each its name, `:` and its fields
  pub data AreCases : List Token → CasesForm → Type 0 where
    cut_cases : (tokens : List Token) (pieces : List (List Token)) (cases : CasesForm)
        → AreCut Case tokens ([] ∷ pieces) → AreEachCase pieces cases → AreCases tokens cases

  -- each piece is a case
  pub data AreEachCase : List (List Token) → CasesForm → Type 0 where
    no_case : AreEachCase [] form.no_cases
    case_more : (piece : List Token) (pieces : List (List Token)) (front : CaseFront) (row : BodyForm) (others : CasesForm)
        → case_front piece ≡ Some front → IsBody true front.row row → AreEachCase pieces others
        → AreEachCase (piece ∷ pieces) (form.case_and front.name row others)

-- What the parts of the reader look for.

abbrev pub IsArray : List Token → FieldForm → Type 0
IsArray tokens field =
    (front : ArrayFront) × (row : BodyForm) × IsArrayFront tokens front × IsBody false front.row row × (field ≡ form.Array front.name front.count row)

abbrev pub IsSwitch : List Token → FieldForm → Type 0
IsSwitch tokens field = (inside : List Token) × (cases : CasesForm) × IsBraced tokens inside × AreCases inside cases × (field ≡ form.Switch cases)

abbrev pub IsCase : List Token → CaseForm → Type 0
IsCase tokens one =
    (front : CaseFront) × (row : BodyForm) × (case_front tokens ≡ Some front) × IsBody true front.row row × (one ≡ record { name = front.name; row = row })
