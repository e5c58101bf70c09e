-- Of all tokens it is decided which body of a type declaration they are.
use Rattle.std.proofs.Common.{◌≡◌, ℕ, zero, suc, ◌≤◌, Bool, true, false, if◌then◌else◌, List, [], ◌∷◌, length, Option, Some, None, refl, sym, subst, arith}
use Rattle.std.proofs.Math.Decide.{map_dec}
use Rattle.rz_core.proofs.EveryCut.{both, known_of, known_with, some_of}
use Rattle.rz_core.proofs.Tests.{same_some, true_false}
use Rattle.rz_core.specs.Decided.{Decided}
use Rattle.rz_stmt_brackets.proofs.OneBracket.{one_bracketed}
use Rattle.rz_stmt_brackets.proofs.Short.{cut_short, no_longer, AreShort}
use Rattle.rz_stmt_brackets.specs.Pieces.{last, AreCut}
use Rattle.rz_stmt_brackets.specs.declared.pieces.Divider.TheVariants.{Case, Semicolon}
use Rattle.rz_stmt_data.specs.Texts.{IsText}
use Rattle.rz_stmt_type.proofs.CaseLeads.{case_split}
use Rattle.rz_stmt_type.proofs.EveryFlat.{has_flat, of_pieces, Decides, HasFlat}
use Rattle.rz_stmt_type.proofs.EveryHead.{braced_short, case_short, front_short, has_braced, has_front}
use Rattle.rz_stmt_type.proofs.FieldLeads.{field_split, label_split, skip_split}
use Rattle.rz_stmt_type.proofs.Labels.{labelled_so, IsLabelled}
use Rattle.rz_stmt_type.proofs.OneHead.{one_array_front, one_braced}
use Rattle.rz_stmt_type.proofs.Starts.{array_back, array_forth, flat_back, key_back, switch_back, switch_forth}
use Rattle.rz_stmt_type.specs.Body.{case_more, cut, cut_cases, empty, flat, key, labelled, more, no_case, none, AreCases, AreEachCase, AreFields, IsArray, IsBody, IsField, IsSwitch}
use Rattle.rz_stmt_type.specs.Head.{case_front, ArrayFront, CaseFront, IsArrayFront, IsBraced}
use Rattle.rz_stmt_type.specs.Label.{label_front, LabelFront}
use Rattle.rz_stmt_type.specs.Start.{start_of, started, wide_start, Array, FieldStart, Flat, Key, Switch}
use Rattle.rz_expr.proofs.OneTerm.{OneExpression}
use Rattle.rz_expr.specs.Keyword.{is_keyword, keyword_in}
use Rattle.rz_words.specs.declared.keyword.Keyword.{Keyword}
use Rattle.rz_words.specs.declared.keyword.Keyword.TheVariants as keywords
use Rattle.rz_types_fields.specs.declared.place.TextPlace.{TextPlace}
use Rattle.rz_stmt_fields.proofs.EveryTerm.{EveryExpression, EveryWithin}
use Rattle.rz_stmt_fields.specs.FieldForm.{IsFieldFront}
use Rattle.rz_stmt_fields.specs.FieldFront.{IsFront}
use Rattle.rz_stmt_fields.specs.FieldValue.{IsSizeExpression}
use Rattle.rz_stmt_fields.specs.FieldWord.{FieldFront}
use Rattle.rz_stmt_fields.specs.Form as form
use Rattle.rz_stmt_fields.specs.Form.{BodyForm, CasesForm, FieldForm}
use Rattle.rz_stmt_fields.specs.Key.{IsKey}
use Rattle.rz_lex.specs.declared.token.Token.{Token}

-- What stands after the first word of an array or a switch is shorter.
abbrev IsShort : FieldStart → List Token → Type 0
IsShort (Array behind) tokens = suc (length behind) ≤ length tokens
IsShort (Switch behind) tokens = suc (length behind) ≤ length tokens
IsShort start tokens = Unit {0}

wide_short : (first : Token) (tokens : List Token) → IsShort (wide_start tokens) (first ∷ tokens)
wide_short first [] = tt
wide_short first (token ∷ tokens) = by (is_keyword keywords.Array token.shape)
  where
    by : (b : Bool) → IsShort (if b then Array tokens else Flat) (first ∷ token ∷ tokens)
    by true = omega arith
    by false = tt

start_short : (tokens : List Token) → IsShort (start_of tokens) tokens
start_short [] = tt
start_short (token ∷ tokens) = by (keyword_in token.shape)
  where
    by : (word : Option Keyword) → IsShort (started word tokens) (token ∷ tokens)
    by None = tt
    by (Some keywords.Key) = tt
    by (Some keywords.Array) = omega arith
    by (Some keywords.Wide) = wide_short token tokens
    by (Some keywords.Switch) = omega arith
    by (Some other) = tt

-- After two tokens.

tails : (a b c d : Token) (xs ys : List Token) → a ∷ b ∷ xs ≡ c ∷ d ∷ ys → xs ≡ ys
tails a b c d xs ys e = cc e

-- Bodies.

abbrev HasField : Bool → List Token → Type 0
HasField in_case tokens = (field : FieldForm) × IsField in_case tokens field

abbrev HasFields : Bool → List (List Token) → Type 0
HasFields in_case pieces = (body : BodyForm) × AreFields in_case pieces body

abbrev pub HasBody : Bool → List Token → Type 0
HasBody in_case tokens = (body : BodyForm) × IsBody in_case tokens body

abbrev HasArray : List Token → Type 0
HasArray tokens = (field : FieldForm) × IsArray tokens field

abbrev HasSwitch : List Token → Type 0
HasSwitch tokens = (field : FieldForm) × IsSwitch tokens field

abbrev HasCase : List Token → Type 0
HasCase piece = (front : CaseFront) × (case_front piece ≡ Some front) × HasBody true front.row

abbrev HasEachCase : List (List Token) → Type 0
HasEachCase pieces = (cases : CasesForm) × AreEachCase pieces cases

abbrev HasCases : List Token → Type 0
HasCases tokens = (cases : CasesForm) × AreCases tokens cases

-- nothing stands before the first case
abbrev HasCasesIn : List (List Token) → Type 0
HasCasesIn [] = ⊥
HasCasesIn ([] ∷ pieces) = HasEachCase pieces
HasCasesIn ((token ∷ tokens) ∷ pieces) = ⊥

cases_of : (tokens : List Token) → (pieces : List (List Token)) × AreCut Case tokens pieces × HasCasesIn pieces → HasCases tokens
cases_of tokens ([], are, never) = absurd never
cases_of tokens ([] ∷ pieces, are, cases) = (cases.0, cut_cases tokens pieces cases.0 are cases.1)
cases_of tokens ((token ∷ others) ∷ pieces, are, never) = absurd never

cases_split : (tokens : List Token) (cases : CasesForm) → AreCases tokens cases → (pieces : List (List Token)) × AreCut Case tokens pieces × HasCasesIn pieces
cases_split tokens cases (cut_cases same pieces all are each) = ([] ∷ pieces, are, (all, each))

body_split : (in_case : Bool) (tokens : List Token) (body : BodyForm) → IsBody in_case tokens body
    → (pieces : List (List Token)) × AreCut Semicolon tokens pieces × HasFields in_case pieces
body_split in_case tokens body (cut same_case all pieces fields are each) = (pieces, are, (fields, each))

no_tokens : (in_case : Bool) → AreCut Semicolon [] ([] ∷ []) → HasBody in_case []
no_tokens in_case are = (form.no_fields, cut in_case [] ([] ∷ []) form.no_fields are (empty in_case [] form.no_fields (none in_case)))

module _ (one : OneExpression) (expression : EveryExpression) (within : EveryWithin) (text : (place : TextPlace) → Decides (IsText place))
    (front : Decides IsFront) (field : (front : FieldFront) → (answer : Option FieldForm) × Decided (IsFieldFront front) answer) (keys : Decides IsKey)
    (size : Decides IsSizeExpression) where
  has_key : (in_case : Bool) (tokens behind : List Token) → start_of tokens ≡ Key behind → Dec (HasField in_case tokens)
  has_key false tokens behind starts = no (λ h. true_false (sym (key_back tokens behind false h.0 starts h.1).0))
  has_key true tokens behind starts = map_dec to from (known_of (IsKey behind) (keys behind))
    where
      to : (one : FieldForm) × IsKey behind one → HasField true tokens
      to h = (h.0, key tokens behind h.0 starts h.1)

      from : HasField true tokens → (one : FieldForm) × IsKey behind one
      from h = (h.0, (key_back tokens behind true h.0 starts h.1).1)

  -- Fewer tokens first.

  module _ (n : ℕ) (fewer : (in_case : Bool) (tokens : List Token) → length tokens ≤ n → Dec (HasBody in_case tokens)) where
    has_array : (tokens : List Token) → length tokens ≤ n → Dec (HasArray tokens)
    has_array tokens few =
        map_dec to from (known_with (IsArrayFront tokens) (λ (f : ArrayFront). HasBody false f.row) (one_array_front one_bracketed one tokens)
        (has_front one expression within tokens) (λ f is. fewer false f.row (omega (arith, few, front_short tokens f is))))
      where
        to : (f : ArrayFront) × IsArrayFront tokens f × HasBody false f.row → HasArray tokens
        to (f, is, row) = (form.Array f.name f.count row.0, (f, row.0, is, row.1, refl))

        from : HasArray tokens → (f : ArrayFront) × IsArrayFront tokens f × HasBody false f.row
        from h = (h.1.0, h.1.2, (h.1.1, h.1.3))

    has_case : (piece : List Token) → length piece ≤ n → Dec (HasCase piece)
    has_case piece few =
        known_with (λ (f : CaseFront). case_front piece ≡ Some f) (λ (f : CaseFront). HasBody true f.row) (same_some (case_front piece)) (some_of (case_front piece))
        (λ f is. fewer true f.row (omega (arith, few, case_short piece f is)))

    has_each_case : (pieces : List (List Token)) → AreShort n pieces → Dec (HasEachCase pieces)
    has_each_case [] short = yes (form.no_cases, no_case)
    has_each_case (piece ∷ pieces) short = map_dec to from (both (has_case piece short.0) (has_each_case pieces short.1))
      where
        to : HasCase piece × HasEachCase pieces → HasEachCase (piece ∷ pieces)
        to (first, others) = (
          form.case_and first.0.name first.2.0 others.0,
          case_more piece pieces first.0 first.2.0 others.0 first.1 first.2.1 others.1,
        )

        from : HasEachCase (piece ∷ pieces) → HasCase piece × HasEachCase pieces
        from h = let it = case_split piece pieces h.0 h.1 in ((it.2.0, it.2.2, (it.2.1, it.2.3)), (it.1, it.3))

    has_cases_in : (pieces : List (List Token)) → AreShort n pieces → Dec (HasCasesIn pieces)
    has_cases_in [] short = no (λ never. never)
    has_cases_in ([] ∷ pieces) short = has_each_case pieces short.1
    has_cases_in ((token ∷ tokens) ∷ pieces) short = no (λ never. never)

    has_cases : (tokens : List Token) → length tokens ≤ n → Dec (HasCases tokens)
    has_cases tokens few =
        map_dec (cases_of tokens) from (of_pieces Case tokens HasCasesIn
        (λ pieces are. has_cases_in pieces (no_longer (length tokens) n pieces few (cut_short Case tokens pieces are))))
      where
        from : HasCases tokens → (pieces : List (List Token)) × AreCut Case tokens pieces × HasCasesIn pieces
        from h = cases_split tokens h.0 h.1

    has_switch : (tokens : List Token) → length tokens ≤ n → Dec (HasSwitch tokens)
    has_switch tokens few =
        map_dec to from (known_with (IsBraced tokens) HasCases (one_braced one_bracketed tokens) (has_braced one expression within tokens)
        (λ inside is. has_cases inside (omega (arith, few, braced_short tokens inside is))))
      where
        to : (inside : List Token) × IsBraced tokens inside × HasCases inside → HasSwitch tokens
        to (inside, is, cases) = (form.Switch cases.0, (inside, cases.0, is, cases.1, refl))

        from : HasSwitch tokens → (inside : List Token) × IsBraced tokens inside × HasCases inside
        from h = (h.1.0, h.1.2, (h.1.1, h.1.3))

    has_field : (in_case : Bool) (tokens : List Token) → length tokens ≤ suc n → Dec (HasField in_case tokens)
    has_field in_case tokens few = by (start_of tokens) refl
      where
        short : (start : FieldStart) → start_of tokens ≡ start → IsShort start tokens
        short start starts = subst (λ (s : FieldStart). IsShort s tokens) starts (start_short tokens)

        by : (start : FieldStart) → start_of tokens ≡ start → Dec (HasField in_case tokens)
        by (Key behind) starts = has_key in_case tokens behind starts
        by (Array behind) starts = map_dec to from (has_array behind (omega (arith, few, short (Array behind) starts)))
          where
            to : HasArray behind → HasField in_case tokens
            to h = (h.0, array_forth tokens behind in_case h.0 starts h.1)

            from : HasField in_case tokens → HasArray behind
            from h = (h.0, array_back tokens behind in_case h.0 starts h.1)
        by (Switch behind) starts = map_dec to from (has_switch behind (omega (arith, few, short (Switch behind) starts)))
          where
            to : HasSwitch behind → HasField in_case tokens
            to h = (h.0, switch_forth tokens behind in_case h.0 starts h.1)

            from : HasField in_case tokens → HasSwitch behind
            from h = (h.0, switch_back tokens behind in_case h.0 starts h.1)
        by Flat starts = map_dec to from (has_flat within text front field size tokens)
          where
            to : HasFlat tokens → HasField in_case tokens
            to h = (h.0, flat in_case tokens h.0 h.1)

            from : HasField in_case tokens → HasFlat tokens
            from h = (h.0, flat_back tokens in_case h.0 starts h.1)

    -- a piece without a label, before pieces of which it is decided
    module _ (in_case : Bool) (pieces : List (List Token)) (others : Dec (HasFields in_case pieces)) where
      has_unlabelled : (token : Token) (tokens : List Token) → length (token ∷ tokens) ≤ suc n → label_front (token ∷ tokens) ≡ None
          → Dec (HasFields in_case ((token ∷ tokens) ∷ pieces))
      has_unlabelled token tokens few none_here = map_dec to from (both (has_field in_case (token ∷ tokens) few) others)
        where
          to : HasField in_case (token ∷ tokens) × HasFields in_case pieces → HasFields in_case ((token ∷ tokens) ∷ pieces)
          to (first, rest) = (form.field_and first.0 rest.0, more in_case token tokens pieces first.0 rest.0 first.1 rest.1)

          from : HasFields in_case ((token ∷ tokens) ∷ pieces) → HasField in_case (token ∷ tokens) × HasFields in_case pieces
          from h = let it = field_split in_case token tokens pieces h.0 none_here h.1 in ((it.0, it.2), (it.1, it.3))

      has_labelled : (piece : List Token) (front : LabelFront) → label_front piece ≡ Some front → Dec (HasFields in_case (front.behind ∷ pieces))
          → Dec (HasFields in_case (piece ∷ pieces))
      has_labelled piece front here behind = map_dec to from behind
        where
          to : HasFields in_case (front.behind ∷ pieces) → HasFields in_case (piece ∷ pieces)
          to h = (form.field_and (form.Label front.name) h.0, labelled in_case piece pieces front h.0 here h.1)

          from : HasFields in_case (piece ∷ pieces) → HasFields in_case (front.behind ∷ pieces)
          from h = let it = label_split in_case piece pieces front h.0 here h.1 in (it.0, it.2)

      has_piece : (piece : List Token) → length piece ≤ suc n → Dec (HasFields in_case (piece ∷ pieces))
      has_piece [] few = map_dec to from others
        where
          to : HasFields in_case pieces → HasFields in_case ([] ∷ pieces)
          to h = (h.0, empty in_case pieces h.0 h.1)

          from : HasFields in_case ([] ∷ pieces) → HasFields in_case pieces
          from h = (h.0, skip_split in_case pieces h.0 h.1)
      has_piece (first ∷ []) few = has_unlabelled first [] few refl
      has_piece (first ∷ second ∷ rest) few = by (has_piece rest (omega (arith, few))) (label_front (first ∷ second ∷ rest)) refl
        where
          behind_same : (front : LabelFront) → label_front (first ∷ second ∷ rest) ≡ Some front → rest ≡ front.behind
          behind_same front here = same (labelled_so (first ∷ second ∷ rest) front here)
            where
              same : IsLabelled (first ∷ second ∷ rest) front → rest ≡ front.behind
              same it = tails first second it.first it.second rest front.behind it.are

          by : Dec (HasFields in_case (rest ∷ pieces)) → (found : Option LabelFront) → label_front (first ∷ second ∷ rest) ≡ found
              → Dec (HasFields in_case ((first ∷ second ∷ rest) ∷ pieces))
          by behind None here = has_unlabelled first (second ∷ rest) few here
          by behind (Some front) here =
              has_labelled (first ∷ second ∷ rest) front here
              (subst (λ (ts : List Token). Dec (HasFields in_case (ts ∷ pieces))) (behind_same front here) behind)

    has_fields : (in_case : Bool) (pieces : List (List Token)) → AreShort (suc n) pieces → Dec (HasFields in_case pieces)
    has_fields in_case [] short = yes (form.no_fields, none in_case)
    has_fields in_case (piece ∷ pieces) short = has_piece in_case pieces (has_fields in_case pieces short.1) piece short.0

    of_body : (in_case : Bool) (tokens : List Token) → length tokens ≤ suc n → Dec (HasBody in_case tokens)
    of_body in_case tokens few =
        map_dec to from (of_pieces Semicolon tokens (λ pieces. HasFields in_case pieces)
        (λ pieces are. has_fields in_case pieces (no_longer (length tokens) (suc n) pieces few (cut_short Semicolon tokens pieces are))))
      where
        to : (pieces : List (List Token)) × AreCut Semicolon tokens pieces × HasFields in_case pieces → HasBody in_case tokens
        to (pieces, are, fields) = (fields.0, cut in_case tokens pieces fields.0 are fields.1)

        from : HasBody in_case tokens → (pieces : List (List Token)) × AreCut Semicolon tokens pieces × HasFields in_case pieces
        from h = body_split in_case tokens h.0 h.1

  all_bodies : (n : ℕ) (in_case : Bool) (tokens : List Token) → length tokens ≤ n → Dec (HasBody in_case tokens)
  all_bodies zero in_case [] few = yes (no_tokens in_case (last [] refl))
  all_bodies zero in_case (token ∷ tokens) few = absurd (omega (arith, few))
  all_bodies (suc n) in_case tokens few = of_body n (all_bodies n) in_case tokens few

  pub has_body : (in_case : Bool) (tokens : List Token) → Dec (HasBody in_case tokens)
  has_body in_case tokens = all_bodies (length tokens) in_case tokens (omega arith)
