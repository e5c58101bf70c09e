-- The places of the labels of a body, one field more at a time.
use Rattle.std.proofs.Common.{◌≡◌, ◌+◌, ◌<◌, ◌≤◌, ℕ, ℤ, List, [], ◌∷◌, ◌++◌, length, get_or, drop, refl, sym, ap, subst, ◌∙◌}
use Rattle.std.proofs.lemmas.List.{append_assoc, append-nil}
use Rattle.rz_expr.specs.Environment.{Environment}
use Rattle.rz_types_fields.specs.declared.field.Field.{Field}
use Rattle.rz_types_fields.specs.Field.{field_and, no_fields, plain_body, plain_field, Align, Array, Fill, Label, Number, PlainBody, PlainField, Points, Switch, Text}
use Rattle.rz_types_fields.specs.FlatRows.{PlacesAre}
use Rattle.rz_types_fields.proofs.Bodies.{body_end, body_next}
use Rattle.rz_layout.specs.Places.{AddsPlaces, AreStanding, IsStanding}

one_more : (names : Environment) (field : PlainField) (fields : PlainBody) (one more : List ℤ) → PlacesAre names (field_and field no_fields) one → PlacesAre names fields more → PlacesAre names (field_and field fields) (one ++ more)
one_more names (Number number) fields one more is are = subst (λ (o : List ℤ). PlacesAre names fields (o ++ more)) (sym is) are
one_more names (Text text) fields one more is are = subst (λ (o : List ℤ). PlacesAre names fields (o ++ more)) (sym is) are
one_more names (Points points) fields one more is are = subst (λ (o : List ℤ). PlacesAre names fields (o ++ more)) (sym is) are
one_more names (Fill unit count) fields one more is are = subst (λ (o : List ℤ). PlacesAre names fields (o ++ more)) (sym is) are
one_more names (Align unit) fields one more is are = subst (λ (o : List ℤ). PlacesAre names fields (o ++ more)) (sym is) are
one_more names (Label name) fields [] more is are = absurd is
one_more names (Label name) fields (place ∷ rest) more is are = (is.0, subst (λ (o : List ℤ). PlacesAre names fields (o ++ more)) (sym is.1) are)
one_more names (Array name count row) fields one more is are = subst (λ (o : List ℤ). PlacesAre names fields (o ++ more)) (sym is) are
one_more names (Switch cases) fields one more is are = subst (λ (o : List ℤ). PlacesAre names fields (o ++ more)) (sym is) are

-- with the places of the fields behind those of a whole body are added
abbrev pub WithRest : Environment → PlainBody → PlainBody → List ℤ → List ℤ → Type 0
WithRest names body rest old places = (more : List ℤ) → PlacesAre names rest more → AddsPlaces names body old (places ++ more)

pub none_placed : (names : Environment) (body : PlainBody) (old : List ℤ) → WithRest names body body old old
none_placed names body old more are = (more, refl, are)

pub field_placed : (names : Environment) (fields : List Field) (i : ℕ) (field : Field) → i < length fields → field ≡ get_or fields i field → (old places new : List ℤ)
    → AddsPlaces names (field_and (plain_field field) no_fields) places new → WithRest names (plain_body fields) (plain_body (drop i fields)) old places
    → WithRest names (plain_body fields) (plain_body (drop (i + 1) fields)) old new
field_placed names fields i field less item old places new (one, added, is) so more are =
    let rest = plain_body (drop (i + 1) fields) in
    let all = so (one ++ more) (subst (λ (body : PlainBody). PlacesAre names body (one ++ more)) (sym (body_next fields i field less item)) (one_more names (plain_field field) rest one more is are)) in
    (all.0, ap (λ (p : List ℤ). p ++ more) added ∙ append_assoc places one more ∙ all.1, all.2)

pub all_placed : (names : Environment) (fields : List Field) (i : ℕ) → length fields ≤ i → (old places : List ℤ) → WithRest names (plain_body fields) (plain_body (drop i fields)) old places
    → AddsPlaces names (plain_body fields) old places
all_placed names fields i past old places so =
    let all = so [] (subst (λ (body : PlainBody). PlacesAre names body []) (sym (body_end fields i past)) refl) in
    (all.0, sym (append-nil places) ∙ all.1, all.2)

pub standing_next : (names : Environment) (fields : List Field) (i : ℕ) (field : Field) → i < length fields → field ≡ get_or fields i field → AreStanding names (plain_body (drop i fields))
    → IsStanding names (plain_field field) × AreStanding names (plain_body (drop (i + 1) fields))
standing_next names fields i field less item stand = subst (AreStanding names) (body_next fields i field less item) stand
