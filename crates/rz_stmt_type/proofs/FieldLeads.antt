-- The fields of a body and the labels before them, one more at a time.
use Rattle.std.proofs.Common.{◌≡◌, ◌==◌, Bool, true, false, List, [], ◌∷◌, ◌++◌, length, map, Some, None, refl, sym, ap, subst, ◌∙◌, append_assoc, arith}
use Rattle.std.proofs.lemmas.Bool.{eqb-true}
use Rattle.std.proofs.lemmas.List.{append-nil}
use Rattle.rz_stmt_brackets.specs.Pieces.{AreCut}
use Rattle.rz_stmt_brackets.specs.declared.pieces.Divider.TheVariants.{Semicolon}
use Rattle.rz_lex.specs.declared.token.Token.{Token}
use Rattle.rz_stmt_type.specs.Body.{cut, empty, labelled, more, none, AreFields, IsBody, IsField}
use Rattle.rz_stmt_type.specs.Label.{label_front, label_more, no_label, AreLabels, LabelFront}
use Rattle.rz_stmt_fields.specs.Form.{body_of, field_and, no_fields, BodyForm, FieldForm, Label}
use Rattle.rz_core.proofs.SoFar.{before}
use Rattle.rz_core.proofs.Tests.{none_some, same_some}
use Rattle.rz_core.specs.declared.resource.Word.{Word}
use Rattle.rz_stmt_fields.proofs.Each.{leads_all, leads_first, leads_more, leads_on, Leads}
use Rattle.rz_stmt_type.proofs.Labels.{no_field}

abbrev pub FieldLeads : Bool → List (List Token) → List (List Token) → List FieldForm → Type 0
FieldLeads in_case all rest so_far = Leads no_fields field_and (AreFields in_case) all rest so_far

pub fields_first : (in_case : Bool) (all : List (List Token)) → FieldLeads in_case all all []
fields_first in_case all = leads_first no_fields field_and (AreFields in_case) all

-- after an empty piece, and after a field
pub skip_split : (in_case : Bool) (pieces : List (List Token)) (body : BodyForm) → AreFields in_case ([] ∷ pieces) body → AreFields in_case pieces body
skip_split in_case pieces body (empty same_case others all are) = are
skip_split in_case pieces body (labelled same_case piece rest front others has are) = absurd (none_some front has)

pub field_split : (in_case : Bool) (token : Token) (tokens : List Token) (pieces : List (List Token)) (body : BodyForm)
    → label_front (token ∷ tokens) ≡ None → AreFields in_case ((token ∷ tokens) ∷ pieces) body
    → (field : FieldForm) × (others : BodyForm) × IsField in_case (token ∷ tokens) field × AreFields in_case pieces others
field_split in_case token tokens pieces body none_here (labelled same_case piece rest front others has are) =
    absurd (none_some front (sym none_here ∙ has))
field_split in_case token tokens pieces body none_here (more same_case first rest behind field others is are) = (field, others, is, are)

-- after a label
pub label_split : (in_case : Bool) (piece : List Token) (pieces : List (List Token)) (front : LabelFront) (body : BodyForm)
    → label_front piece ≡ Some front → AreFields in_case (piece ∷ pieces) body
    → (others : BodyForm) × (body ≡ field_and (Label front.name) others) × AreFields in_case (front.behind ∷ pieces) others
label_split in_case piece pieces front body here (empty same_case rest own are) = absurd (none_some front here)
label_split in_case piece pieces front body here (labelled same_case own rest other others has are) =
    let one : other ≡ front = same_some (label_front piece) other front has here in (
      others,
      ap (λ (f : LabelFront). field_and (Label f.name) others) one,
      subst (λ (f : LabelFront). AreFields in_case (f.behind ∷ pieces) others) one are,
    )
label_split in_case piece pieces front body here (more same_case token tokens rest field others is are) =
    absurd (no_field in_case piece front field here is)

module _ (in_case : Bool) (all rest behind : List (List Token)) (so_far : List FieldForm) (leads : FieldLeads in_case all rest so_far) where
  pub skipped : (piece : List Token) → rest ≡ piece ∷ behind → (length piece == 0) ≡ true → FieldLeads in_case all behind so_far
  skipped [] are short =
      leads_on no_fields field_and (AreFields in_case) all rest behind so_far leads
      (λ body is. (body, skip_split in_case behind body (subst (λ (ps : List (List Token)). AreFields in_case ps body) are is)))
      (λ body is. subst (λ (ps : List (List Token)). AreFields in_case ps body) (sym are) (empty in_case behind body is))
  skipped (token ∷ piece) are short = absurd (omega (arith, eqb-true (length (token ∷ piece)) 0 short))

  one_label_more : (piece : List Token) → rest ≡ piece ∷ behind → (front : LabelFront) → label_front piece ≡ Some front
      → FieldLeads in_case all (front.behind ∷ behind) (so_far ++ Label front.name ∷ [])
  one_label_more piece are front here =
      leads_more no_fields field_and (AreFields in_case) all rest (front.behind ∷ behind) so_far leads
      (λ body so. let split = label_split in_case piece behind front body here (subst (λ (ps : List (List Token)). AreFields in_case ps body) are so) in (split.0, split.2))
      (Label front.name)
      (λ body so. subst (λ (ps : List (List Token)). AreFields in_case ps (field_and (Label front.name) body)) (sym are) (labelled in_case piece behind front body here so))
      (so_far ++ Label front.name ∷ []) refl

  pub field_more : (piece : List Token) → rest ≡ piece ∷ behind → (length piece == 0) ≡ false → label_front piece ≡ None → (field : FieldForm) (after : List FieldForm)
      → IsField in_case piece field → after ≡ so_far ++ field ∷ [] → FieldLeads in_case all behind after
  field_more [] are some none_here field after is pushed = let wrong : true ≡ false = some in cc
  field_more (token ∷ tokens) are some none_here field after is pushed =
      leads_more no_fields field_and (AreFields in_case) all rest behind so_far leads
      (λ body so. let split = field_split in_case token tokens behind body none_here (subst (λ (ps : List (List Token)). AreFields in_case ps body) are so) in (split.1, split.3))
      field
      (λ body so. subst (λ (ps : List (List Token)). AreFields in_case ps (field_and field body)) (sym are) (more in_case token tokens behind field body is so))
      after pushed

  pub field_nowhere : (piece : List Token) → rest ≡ piece ∷ behind → (length piece == 0) ≡ false → label_front piece ≡ None → ((field : FieldForm) → IsField in_case piece field → ⊥)
      → (body : BodyForm) → AreFields in_case all body → ⊥
  field_nowhere [] are some none_here never body is = let wrong : true ≡ false = some in cc
  field_nowhere (token ∷ tokens) are some none_here never body is =
      let found = leads.back body is in
      let split = field_split in_case token tokens behind found.0 none_here (subst (λ (ps : List (List Token)). AreFields in_case ps found.0) are found.1) in
      never split.0 split.2

-- all the labels at the front of a piece
pub labels_more : (in_case : Bool) (all behind : List (List Token)) (piece : List Token) (names : List Word) (rest : List Token) (so_far : List FieldForm)
    → AreLabels piece names rest → FieldLeads in_case all (piece ∷ behind) so_far → FieldLeads in_case all (rest ∷ behind) (so_far ++ map Label names)
labels_more in_case all behind piece names rest so_far (no_label same none_here) leads =
    subst (FieldLeads in_case all (piece ∷ behind)) (sym (append-nil so_far)) leads
labels_more in_case all behind piece names rest so_far (label_more own front others last here are) leads =
    subst (FieldLeads in_case all (rest ∷ behind)) (append_assoc so_far (Label front.name ∷ []) (map Label others))
    (labels_more in_case all behind front.behind others rest (so_far ++ Label front.name ∷ []) are
    (one_label_more in_case all (piece ∷ behind) behind so_far leads piece refl front here))

pub fields_all : (in_case : Bool) (all rest : List (List Token)) (so_far : List FieldForm) → FieldLeads in_case all rest so_far → rest ≡ []
    → AreFields in_case all (body_of so_far)
fields_all in_case all rest so_far leads done =
    leads_all no_fields field_and (AreFields in_case) all rest so_far leads
    (subst (λ (ps : List (List Token)). AreFields in_case ps no_fields) (sym done) (none in_case)) (body_of so_far) (same so_far)
  where
    same : (fields : List FieldForm) → before field_and fields no_fields ≡ body_of fields
    same [] = refl
    same (field ∷ fields) = ap (field_and field) (same fields)

-- no body has a piece that is no field
pub no_body : (in_case : Bool) (tokens : List Token) (pieces : List (List Token)) → ((others : List (List Token)) → AreCut Semicolon tokens others → pieces ≡ others)
    → ((body : BodyForm) → AreFields in_case pieces body → ⊥) → (body : BodyForm) → IsBody in_case tokens body → ⊥
no_body in_case tokens pieces every never body (cut same_case all others own is are) =
    never body (subst (λ (ps : List (List Token)). AreFields in_case ps body) (sym (every others is)) are)
