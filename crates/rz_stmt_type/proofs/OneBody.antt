-- Bodies are one at most.
use Rattle.std.proofs.Common.{◌≡◌, Bool, true, false, List, [], ◌∷◌, refl, sym, ap, subst, ◌∙◌}
use Rattle.rz_expr.proofs.OneTerm.{OneExpression}
use Rattle.rz_core.proofs.Tests.{same_some}
use Rattle.rz_stmt_brackets.specs.declared.pieces.Divider.TheVariants.{Case, Semicolon}
use Rattle.rz_lex.specs.declared.token.Token.{Token}
use Rattle.rz_stmt_type.specs.Body.{array, case_more, cut, cut_cases, empty, flat, key, labelled, more, no_case, none, switch, AreCases, AreEachCase, AreFields, IsBody, IsField}
use Rattle.rz_stmt_fields.specs.Form.{case_and, field_and, Array, BodyForm, CasesForm, FieldForm, Label, Switch}
use Rattle.rz_stmt_type.specs.Head.{case_front, ArrayFront, CaseFront}
use Rattle.rz_stmt_type.proofs.FieldLeads.{label_split, skip_split}
use Rattle.rz_stmt_type.proofs.Labels.{no_field}
use Rattle.rz_stmt_type.proofs.OneFlat.{one_flat}
use Rattle.rz_stmt_type.proofs.OneHead.{one_array_front, one_braced}
use Rattle.rz_stmt_fields.proofs.OneKey.{one_key}
use Rattle.rz_stmt_fields.proofs.OneTerm.{OneCut, OneWithin}
use Rattle.rz_stmt_type.proofs.Starts.{array_back, flat_back, key_back, starts_flat, switch_back}

module _ (one : OneExpression) (one_cut : OneCut) (within : OneWithin) where
  mutual
    one_field : (in_case : Bool) (tokens : List Token) (a b : FieldForm) → IsField in_case tokens a → IsField in_case tokens b → a ≡ b
    one_field in_case tokens a b (flat same_case all field is) also =
        one_flat one one_cut within tokens a b is (flat_back tokens in_case b (starts_flat tokens a is) also)
    one_field in_case tokens a b (key all behind field start is) also =
        one_key one one_cut within behind a b is (key_back tokens behind in_case b start also).1
    one_field in_case tokens a b (array same_case all behind front row start is rows) also =
        let it = array_back tokens behind in_case b start also in
        let front_same = one_array_front within one behind front it.0 is it.2 in
        let row_same = one_body false front.row row it.1 rows (subst (λ (f : ArrayFront). IsBody false f.row it.1) (sym front_same) it.3) in
        (λ i. Array (front_same i).name (front_same i).count (row_same i)) ∙ sym it.4
    one_field in_case tokens a b (switch same_case all behind inside cases start is are) also =
        let it = switch_back tokens behind in_case b start also in
        let inside_same = one_braced within behind inside it.0 is it.2 in
        ap (λ (c : CasesForm). Switch c) (one_cases inside cases it.1 are (subst (λ (ts : List Token). AreCases ts it.1) (sym inside_same) it.3)) ∙ sym it.4

    pub one_body : (in_case : Bool) (tokens : List Token) (a b : BodyForm) → IsBody in_case tokens a → IsBody in_case tokens b → a ≡ b
    one_body in_case tokens a b (cut same_case all pieces body is are) (cut case_too all_too others other also are_too) =
        one_fields in_case pieces a b are (subst (λ (ps : List (List Token)). AreFields in_case ps b) (sym (one_cut Semicolon tokens pieces others is also)) are_too)

    one_fields : (in_case : Bool) (pieces : List (List Token)) (a b : BodyForm) → AreFields in_case pieces a → AreFields in_case pieces b → a ≡ b
    one_fields in_case pieces a b (none same_case) (none case_too) = refl
    one_fields in_case pieces a b (empty same_case rest body are) also = one_fields in_case rest a b are (skip_split in_case rest b also)
    one_fields in_case pieces a b (labelled same_case piece rest front others has are) also =
        let it = label_split in_case piece rest front b has also in
        ap (field_and (Label front.name)) (one_fields in_case (front.behind ∷ rest) others it.0 are it.2) ∙ sym it.1
    one_fields in_case pieces a b (more same_case token tokens rest field others is are) (more case_too first behind rest_too field_too others_too is_too are_too) =
        λ i. field_and (one_field in_case (token ∷ tokens) field field_too is is_too i) (one_fields in_case rest others others_too are are_too i)
    one_fields in_case pieces a b (more same_case token tokens rest field others is are) (labelled case_too piece rest_too front others_too has are_too) =
        absurd (no_field in_case (token ∷ tokens) front field has is)

    one_cases : (tokens : List Token) (a b : CasesForm) → AreCases tokens a → AreCases tokens b → a ≡ b
    one_cases tokens a b (cut_cases all pieces cases is are) (cut_cases all_too others other also are_too) =
        one_each_case pieces a b are (subst (λ (ps : List (List Token)). AreEachCase ps b) (sym (same (one_cut Case tokens ([] ∷ pieces) ([] ∷ others) is also))) are_too)
      where
        same : ◌≡◌ {A = List (List Token)} ([] ∷ pieces) ([] ∷ others) → pieces ≡ others
        same e = cc e

    one_each_case : (pieces : List (List Token)) (a b : CasesForm) → AreEachCase pieces a → AreEachCase pieces b → a ≡ b
    one_each_case pieces a b no_case no_case = refl
    one_each_case pieces a b (case_more piece rest front row others begins is are) (case_more piece_too rest_too front_too row_too others_too begins_too is_too are_too) =
        let front_same : front ≡ front_too = same_some (case_front piece) front front_too begins begins_too in
        let row_same = one_body true front.row row row_too is (subst (λ (f : CaseFront). IsBody true f.row row_too) (sym front_same) is_too) in
        λ i. case_and (front_same i).name (row_same i) (one_each_case rest others others_too are are_too i)
