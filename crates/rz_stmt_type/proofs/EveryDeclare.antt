-- Of all tokens it is decided which `type` statement they are.
use Rattle.std.proofs.Common.{◌≡◌, Bool, true, false, List, [], ◌∷◌, Option, Some, None, refl}
use Rattle.std.proofs.Math.Decide.{map_dec}
use Rattle.rz_core.proofs.EveryCut.{answer_of, both, is_true, known_with}
use Rattle.rz_core.specs.Decided.{Decided}
use Rattle.rz_stmt_brackets.specs.Bracket.{begins, IsBracketed}
use Rattle.rz_stmt_brackets.specs.Pieces.{AreCut, Parted}
use Rattle.rz_stmt_brackets.specs.Statements.{is_empty}
use Rattle.rz_stmt_brackets.specs.declared.bracket.Bracket.TheVariants.{Curly, Round}
use Rattle.rz_stmt_brackets.specs.declared.pieces.Divider.TheVariants.{Colon}
use Rattle.rz_stmt_data.proofs.InFront.{is_typed, one_typed}
use Rattle.rz_stmt_data.specs.Texts.{IsText}
use Rattle.rz_stmt_data.specs.Typed.{IsTyped, Typed}
use Rattle.rz_stmt_type.proofs.EveryBody.{has_body, HasBody}
use Rattle.rz_stmt_type.proofs.EveryFlat.{of_brackets, of_pieces, Decides}
use Rattle.rz_stmt_type.proofs.MadeSo.{any_back, any_forth, copy_back, copy_forth, fields_back, fields_forth, ids_back, ids_forth}
use Rattle.rz_stmt_type.specs.Declare.{AreIds, IsDeclare, IsMade, IsScope}
use Rattle.rz_stmt_type.specs.DeclareSteps.{AreScoped, IsCopy, IsCopyId, IsCopyIdBy}
use Rattle.rz_expr.proofs.OneTerm.{OneExpression}
use Rattle.rz_expr.specs.Constant.{IsConstant}
use Rattle.rz_expr.specs.Term.{Term}
use Rattle.rz_words.specs.declared.keyword.Keyword.TheVariants as keywords
use Rattle.rz_types_fields.specs.declared.place.TextPlace.{TextPlace}
use Rattle.rz_stmt_fields.proofs.EveryTerm.{EveryExpression, EveryWithin}
use Rattle.rz_stmt_fields.proofs.EveryValue.{has_constant, HasTerm}
use Rattle.rz_stmt_fields.specs.FieldForm.{IsFieldFront}
use Rattle.rz_stmt_fields.specs.FieldFront.{IsFront}
use Rattle.rz_stmt_fields.specs.FieldValue.{IsSizeExpression}
use Rattle.rz_stmt_fields.specs.FieldWord.{FieldFront}
use Rattle.rz_stmt_fields.specs.Form.{Any, CopyOf, DeclareForm, FieldForm, Fields, MadeForm, One, ScopeForm, Two}
use Rattle.rz_stmt_fields.specs.Key.{IsKey}
use Rattle.rz_lex.specs.declared.token.Token.{Token}

abbrev HasScope : List Token → Type 0
HasScope tokens = (scope : ScopeForm) × IsScope tokens scope

abbrev HasIds : List (List Token) → Type 0
HasIds pieces = (scope : ScopeForm) × AreIds pieces scope

abbrev HasCopyIdBy : Bool → List Token → Type 0
HasCopyIdBy ends tokens = (id : Option Term) × IsCopyIdBy ends tokens id

abbrev HasCopyId : List Token → Type 0
HasCopyId tokens = (id : Option Term) × IsCopyId tokens id

abbrev HasCopy : List Token → Type 0
HasCopy tokens = (made : MadeForm) × IsCopy tokens made

abbrev HasMade : List Token → Type 0
HasMade tokens = (made : MadeForm) × IsMade tokens made

abbrev HasScoped : List Token → Type 0
HasScoped tokens = (parts : ScopeForm × MadeForm) × AreScoped tokens parts

abbrev HasDeclare : List Token → Type 0
HasDeclare tokens = (form : DeclareForm) × IsDeclare tokens form

-- an id, or fields, and the `;` that ends the statement
abbrev IdAndEnd : Parted → Type 0
IdAndEnd parted = (is_empty parted.behind ≡ true) × HasTerm IsConstant parted.front

abbrev FieldsAndEnd : Parted → Type 0
FieldsAndEnd parted = (is_empty parted.behind ≡ true) × HasBody false parted.front

module _ (one : OneExpression) (expression : EveryExpression) (within : EveryWithin) where
  -- Ids.

  has_ids : (pieces : List (List Token)) → Dec (HasIds pieces)
  has_ids [] = no (λ h. h.1)
  has_ids (id ∷ []) = map_dec to from (has_constant one expression id)
    where
      to : HasTerm IsConstant id → HasIds (id ∷ [])
      to h = (One h.0, (h.0, h.1, refl))

      from : HasIds (id ∷ []) → HasTerm IsConstant id
      from h = (h.1.0, h.1.1)
  has_ids (first ∷ last ∷ []) = map_dec to from (both (has_constant one expression first) (has_constant one expression last))
    where
      to : HasTerm IsConstant first × HasTerm IsConstant last → HasIds (first ∷ last ∷ [])
      to (a, b) = (Two a.0 b.0, (a.0, b.0, a.1, b.1, refl))

      from : HasIds (first ∷ last ∷ []) → HasTerm IsConstant first × HasTerm IsConstant last
      from h = ((h.1.0, h.1.2), (h.1.1, h.1.3))
  has_ids (first ∷ last ∷ other ∷ others) = no (λ h. h.1)

  has_scope : (tokens : List Token) → Dec (HasScope tokens)
  has_scope tokens = map_dec to from (of_pieces Colon tokens HasIds (λ pieces are. has_ids pieces))
    where
      to : (pieces : List (List Token)) × AreCut Colon tokens pieces × HasIds pieces → HasScope tokens
      to (pieces, are, ids) = (ids.0, (pieces, are, ids.1))

      from : HasScope tokens → (pieces : List (List Token)) × AreCut Colon tokens pieces × HasIds pieces
      from h = (h.1.0, h.1.1, (h.0, h.1.2))

  -- Copies.

  copy_id_by : (ends : Bool) (tokens : List Token) → Dec (HasCopyIdBy ends tokens)
  copy_id_by true tokens = yes (None, refl)
  copy_id_by false tokens =
      map_dec to from (of_brackets within Round tokens IdAndEnd (λ parted brackets. both (is_true (is_empty parted.behind)) (has_constant one expression parted.front)))
    where
      to : (parted : Parted) × IsBracketed Round tokens parted × IdAndEnd parted → HasCopyIdBy false tokens
      to (parted, brackets, (ends, id)) = (Some id.0, (parted, id.0, brackets, ends, id.1, refl))

      from : HasCopyIdBy false tokens → (parted : Parted) × IsBracketed Round tokens parted × IdAndEnd parted
      from h = (h.1.0, h.1.2, (h.1.3, (h.1.1, h.1.4)))

  has_copy : (tokens : List Token) → Dec (HasCopy tokens)
  has_copy tokens =
      map_dec to from (known_with (IsTyped keywords.As tokens) (λ typed. HasCopyId typed.behind) (one_typed keywords.As tokens) (is_typed keywords.As tokens)
      (λ typed is. copy_id_by (is_empty typed.behind) typed.behind))
    where
      to : (typed : Typed) × IsTyped keywords.As tokens typed × HasCopyId typed.behind → HasCopy tokens
      to (typed, is, (id, has)) = (CopyOf typed.kind id, record { behind = typed.behind; code = typed.kind; id = id; typed = is; has_id = has; made_so = refl })

      from : HasCopy tokens → (typed : Typed) × IsTyped keywords.As tokens typed × HasCopyId typed.behind
      from (made, h) = (record { kind = h.code; behind = h.behind }, h.typed, (h.id, h.has_id))

  module _ (text : (place : TextPlace) → Decides (IsText place)) (front : Decides IsFront)
      (field : (front : FieldFront) → (answer : Option FieldForm) × Decided (IsFieldFront front) answer) (keys : Decides IsKey)
      (size : Decides IsSizeExpression) where
    -- What the type is.

    has_made : (tokens : List Token) → Dec (HasMade tokens)
    has_made tokens = by (begins Curly tokens) refl
      where
        by : (curly : Bool) → begins Curly tokens ≡ curly → Dec (HasMade tokens)
        by true begin =
            map_dec to from (of_brackets within Curly tokens FieldsAndEnd
            (λ parted brackets. both (is_true (is_empty parted.behind)) (has_body one expression within text front field keys size false parted.front)))
          where
            to : (parted : Parted) × IsBracketed Curly tokens parted × FieldsAndEnd parted → HasMade tokens
            to (parted, brackets, (ends, body)) = (Fields body.0, fields_forth tokens (Fields body.0) (parted, body.0, brackets, ends, body.1, refl))

            from : HasMade tokens → (parted : Parted) × IsBracketed Curly tokens parted × FieldsAndEnd parted
            from h = let it = fields_back tokens begin h.0 h.1 in (it.0, it.2, (it.3, (it.1, it.4)))
        by false begin = map_dec to from (has_copy tokens)
          where
            to : HasCopy tokens → HasMade tokens
            to h = (h.0, copy_forth tokens h.0 h.1)

            from : HasMade tokens → HasCopy tokens
            from h = (h.0, copy_back tokens begin h.0 h.1)

    -- For which ids.

    has_scoped : (tokens : List Token) → Dec (HasScoped tokens)
    has_scoped tokens = by (begins Round tokens) refl
      where
        by : (round : Bool) → begins Round tokens ≡ round → Dec (HasScoped tokens)
        by true begin =
            map_dec to from (of_brackets within Round tokens (λ parted. HasScope parted.front × HasMade parted.behind)
            (λ parted brackets. both (has_scope parted.front) (has_made parted.behind)))
          where
            to : (parted : Parted) × IsBracketed Round tokens parted × (HasScope parted.front × HasMade parted.behind) → HasScoped tokens
            to (parted, brackets, (scope, made)) =
                ((scope.0, made.0), ids_forth tokens (scope.0, made.0) (parted, scope.0, made.0, brackets, scope.1, made.1, refl))

            from : HasScoped tokens → (parted : Parted) × IsBracketed Round tokens parted × (HasScope parted.front × HasMade parted.behind)
            from h = let it = ids_back tokens begin h.0 h.1 in (it.0, it.3, ((it.1, it.4), (it.2, it.5)))
        by false begin = map_dec to from (has_made tokens)
          where
            to : HasMade tokens → HasScoped tokens
            to made = ((Any, made.0), any_forth tokens (Any, made.0) (made.0, made.1, refl))

            from : HasScoped tokens → HasMade tokens
            from h = let it = any_back tokens begin h.0 h.1 in (it.0, it.1)

    -- The statement.

    has_declare : (tokens : List Token) → Dec (HasDeclare tokens)
    has_declare tokens =
        map_dec to from (known_with (IsTyped keywords.Kind tokens) (λ typed. HasScoped typed.behind) (one_typed keywords.Kind tokens) (is_typed keywords.Kind tokens)
        (λ typed is. has_scoped typed.behind))
      where
        to : (typed : Typed) × IsTyped keywords.Kind tokens typed × HasScoped typed.behind → HasDeclare tokens
        to (typed, is, ((scope, made), scoped)) = (record { kind = typed.kind; scope = scope; made = made }, record { behind = typed.behind; typed = is; scoped = scoped })

        from : HasDeclare tokens → (typed : Typed) × IsTyped keywords.Kind tokens typed × HasScoped typed.behind
        from (form, h) = (record { kind = form.kind; behind = h.behind }, h.typed, ((form.scope, form.made), h.scoped))

    pub every_declare : (tokens : List Token) → (answer : Option DeclareForm) × Decided (IsDeclare tokens) answer
    every_declare tokens = answer_of (IsDeclare tokens) (has_declare tokens)
