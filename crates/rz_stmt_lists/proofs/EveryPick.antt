-- Of all tokens it is decided which resources are picked by them, and what those become.
use Rattle.std.proofs.Common.{◌≡◌, Bool, true, false, List, [], ◌∷◌, length, Option, Some, None, refl, sym, ◌∙◌, arith}
use Rattle.std.proofs.Math.Decide.{map_dec}
use Rattle.rz_core.proofs.EveryCut.{both, is_true, known_of, known_with}
use Rattle.rz_core.proofs.Tests.{by_test, true_false}
use Rattle.rz_core.specs.Decided.{Decided}
use Rattle.rz_stmt_brackets.proofs.OneCut.{one_cut, some_pieces}
use Rattle.rz_stmt_brackets.specs.Bracket.{begins, IsBracketed}
use Rattle.rz_stmt_brackets.specs.Pieces.{AreCut, Parted}
use Rattle.rz_stmt_brackets.specs.Statements.{is_empty}
use Rattle.rz_stmt_brackets.specs.declared.bracket.Bracket.{Bracket}
use Rattle.rz_stmt_brackets.specs.declared.bracket.Bracket.TheVariants.{Round}
use Rattle.rz_stmt_brackets.specs.declared.pieces.Divider.{Divider}
use Rattle.rz_stmt_brackets.specs.declared.pieces.Divider.TheVariants.{Colon, Comma}
use Rattle.rz_stmt_data.specs.Head.{Head, IsHeadFor, IsSaidFor}
use Rattle.rz_stmt_data.proofs.InFront.{is_typed, one_typed}
use Rattle.rz_stmt_data.specs.Texts.{begins_text, IsText}
use Rattle.rz_stmt_data.specs.Typed.{IsTyped, Typed}
use Rattle.rz_stmt_data.specs.declared.head.Subject.{Subject}
use Rattle.rz_stmt_data.specs.declared.head.Subject.TheVariants.{Chosen, New}
use Rattle.rz_expr.proofs.OneTerm.{OneExpression}
use Rattle.rz_expr.specs.Term.{Term}
use Rattle.rz_words.specs.declared.keyword.Keyword.{Keyword}
use Rattle.rz_types_fields.specs.Text.{PlainPart}
use Rattle.rz_types_fields.specs.declared.place.TextPlace.{TextPlace}
use Rattle.rz_types_fields.specs.declared.place.TextPlace.TheVariants as places
use Rattle.rz_lex.specs.declared.token.Token.{Token}
use Rattle.rz_stmt_lists.proofs.Clauses.{one_clause}
use Rattle.rz_stmt_lists.proofs.Maybes.{one_maybe, MaybePair}
use Rattle.rz_stmt_lists.proofs.Picks.{one_pick}
use Rattle.rz_stmt_lists.specs.Brackets.{given, left_out}
use Rattle.rz_stmt_lists.specs.Clause.{Clause, IsClause}
use Rattle.rz_stmt_lists.specs.Pick.{picks_one, All, AreIds, Id, IsPickBy, IsPicked, Name, Pick, Range}
use Rattle.rz_stmt_lists.specs.Renaming.{IsHeadIn, IsNewHead, IsRenaming, Renaming}
use Rattle.rz_stmt_lists.specs.Steps.{IsMaybePair}

-- what the laws of the crates below say
abbrev pub EveryBracket : Type 0
EveryBracket = (bracket : Bracket) (tokens : List Token) → (answer : Option Parted) × Decided (IsBracketed bracket tokens) answer

abbrev pub EveryHead : Type 0
EveryHead = (subject : Subject) (pieces : List (List Token)) → (answer : Option Head) × Decided (IsHeadFor subject pieces) answer

abbrev pub EveryText : Type 0
EveryText = (place : TextPlace) (tokens : List Token) → (answer : Option (List PlainPart)) × Decided (IsText place tokens) answer

-- Pieces.

pub cut_at : (divider : Divider) (tokens : List Token) → Dec ((pieces : List (List Token)) × AreCut divider tokens pieces)
cut_at divider tokens = yes (some_pieces divider (length tokens) tokens (omega arith))

-- Brackets that may be left out.

module _ (within : EveryBracket) where
  pub has_maybe : (tokens : List Token) → Dec ((pair : MaybePair) × IsMaybePair tokens pair)
  has_maybe tokens = by_test (Dec ((pair : MaybePair) × IsMaybePair tokens pair)) (begins Round tokens)
      (λ on. map_dec to (from on) (known_of (IsBracketed Round tokens) (within Round tokens)))
      (λ off. yes ((None, tokens), left_out off refl refl))
    where
      to : (parted : Parted) × IsBracketed Round tokens parted → (pair : MaybePair) × IsMaybePair tokens pair
      to (parted, is) = ((Some parted.front, parted.behind), given parted is refl refl)

      from : begins Round tokens ≡ true → (pair : MaybePair) × IsMaybePair tokens pair → (parted : Parted) × IsBracketed Round tokens parted
      from on (pair, left_out off none rest) = absurd (true_false (sym on ∙ off))
      from on (pair, given parted is front rest) = (parted, is)

  one_pair : (tokens : List Token) (a b : MaybePair) → IsMaybePair tokens a → IsMaybePair tokens b → a ≡ b
  one_pair tokens a b is also =
      let same = one_maybe tokens a.0 b.0 a.1 b.1 is also in
      λ i. (same.0 i, same.1 i)

  -- with more that is decided of what stands in them, and after them
  pub maybe_with : (Q : MaybePair → Type 0) → ((pair : MaybePair) → Dec (Q pair)) → (tokens : List Token) → Dec ((pair : MaybePair) × IsMaybePair tokens pair × Q pair)
  maybe_with Q each tokens = known_with (IsMaybePair tokens) Q (one_pair tokens) (has_maybe tokens) (λ pair is. each pair)

  -- Clauses.

  has_clause : (keyword : Keyword) (tokens : List Token) → Dec ((clause : Clause) × IsClause keyword tokens clause)
  has_clause keyword tokens =
      map_dec to from (known_with (IsTyped keyword tokens) (λ typed. (pair : MaybePair) × IsMaybePair typed.behind pair) (one_typed keyword tokens) (is_typed keyword tokens)
      (λ typed is. has_maybe typed.behind))
    where
      to : (typed : Typed) × IsTyped keyword tokens typed × ((pair : MaybePair) × IsMaybePair typed.behind pair) → (clause : Clause) × IsClause keyword tokens clause
      to (typed, is, (pair, maybe)) = (record { kind = typed.kind; inside = pair.0; rest = pair.1 }, record { behind = typed.behind; typed = is; in_brackets = maybe })

      from : (clause : Clause) × IsClause keyword tokens clause → (typed : Typed) × IsTyped keyword tokens typed × ((pair : MaybePair) × IsMaybePair typed.behind pair)
      from (clause, h) = (record { kind = clause.kind; behind = h.behind }, h.typed, ((clause.inside, clause.rest), h.in_brackets))

  -- with more that is decided of what stands in their brackets, and after them
  pub clause_with : (keyword : Keyword) (Q : Clause → Type 0) → ((clause : Clause) → Dec (Q clause)) → (tokens : List Token)
      → Dec ((clause : Clause) × IsClause keyword tokens clause × Q clause)
  clause_with keyword Q each tokens = known_with (IsClause keyword tokens) Q (one_clause keyword tokens) (has_clause keyword tokens) (λ clause is. each clause)

-- Picks.

module _ (text : EveryText) (heads : EveryHead) where
  -- an id is a head of one piece
  is_said : (tokens : List Token) → Dec ((term : Term) × IsSaidFor New tokens term)
  is_said tokens = map_dec to from (known_of (IsHeadFor New (tokens ∷ [])) (heads New (tokens ∷ [])))
    where
      to : (head : Head) × IsHeadFor New (tokens ∷ []) head → (term : Term) × IsSaidFor New tokens term
      to (head, is) = (head.id, is.0)

      from : (term : Term) × IsSaidFor New tokens term → (head : Head) × IsHeadFor New (tokens ∷ []) head
      from (term, is) = (record { id = term; name = None; attributes = [] }, (is, (refl, refl)))

  are_ids : (pieces : List (List Token)) → Dec ((pick : Pick) × AreIds pieces pick)
  are_ids [] = no (λ h. h.1)
  are_ids (id ∷ []) = map_dec to from (is_said id)
    where
      to : (term : Term) × IsSaidFor New id term → (pick : Pick) × AreIds (id ∷ []) pick
      to (term, is) = (Id term, (term, is, refl))

      from : (pick : Pick) × AreIds (id ∷ []) pick → (term : Term) × IsSaidFor New id term
      from h = (h.1.0, h.1.1)
  are_ids (first ∷ last ∷ []) = map_dec to from (both (is_said first) (is_said last))
    where
      to : ((term : Term) × IsSaidFor New first term) × ((term : Term) × IsSaidFor New last term) → (pick : Pick) × AreIds (first ∷ last ∷ []) pick
      to (low, high) = (Range low.0 high.0, (low.0, high.0, low.1, high.1, refl))

      from : (pick : Pick) × AreIds (first ∷ last ∷ []) pick → ((term : Term) × IsSaidFor New first term) × ((term : Term) × IsSaidFor New last term)
      from h = ((h.1.0, h.1.2), (h.1.1, h.1.3))
  are_ids (first ∷ last ∷ other ∷ others) = no (λ h. h.1)

  pick_by : (begins : Bool) (tokens : List Token) → Dec ((pick : Pick) × IsPickBy begins tokens pick)
  pick_by true tokens = map_dec to from (known_of (IsText places.New tokens) (text places.New tokens))
    where
      to : (parts : List PlainPart) × IsText places.New tokens parts → (pick : Pick) × IsPickBy true tokens pick
      to (parts, is) = (Name parts, (parts, is, refl))

      from : (pick : Pick) × IsPickBy true tokens pick → (parts : List PlainPart) × IsText places.New tokens parts
      from h = (h.1.0, h.1.1)
  pick_by false tokens =
      map_dec to from (known_with (AreCut Colon tokens) (λ pieces. (pick : Pick) × AreIds pieces pick) (one_cut Colon tokens) (cut_at Colon tokens)
      (λ pieces cut. are_ids pieces))
    where
      to : (pieces : List (List Token)) × AreCut Colon tokens pieces × ((pick : Pick) × AreIds pieces pick) → (pick : Pick) × IsPickBy false tokens pick
      to (pieces, cut, (pick, are)) = (pick, (pieces, cut, are))

      from : (pick : Pick) × IsPickBy false tokens pick → (pieces : List (List Token)) × AreCut Colon tokens pieces × ((pick : Pick) × AreIds pieces pick)
      from (pick, (pieces, cut, are)) = (pieces, cut, (pick, are))

  pub is_picked : (inside : Option (List Token)) → Dec ((pick : Pick) × IsPicked inside pick)
  is_picked None = yes (All, refl)
  is_picked (Some tokens) = pick_by (begins_text tokens) tokens

  -- with more that is decided of the pick
  pub picked_with : OneExpression → (inside : Option (List Token)) (Q : Pick → Type 0) → ((pick : Pick) → Dec (Q pick))
      → Dec ((pick : Pick) × IsPicked inside pick × Q pick)
  picked_with one inside Q each = known_with (IsPicked inside) Q (one_pick one inside) (is_picked inside) (λ pick is. each pick)

-- What picked resources become.

module _ (heads : EveryHead) where
  pub is_head_in : (subject : Subject) (tokens : List Token) → Dec ((head : Head) × IsHeadIn subject tokens head)
  is_head_in subject tokens =
      map_dec to from (known_with (AreCut Comma tokens) (λ pieces. (head : Head) × IsHeadFor subject pieces head) (one_cut Comma tokens) (cut_at Comma tokens)
      (λ pieces cut. known_of (IsHeadFor subject pieces) (heads subject pieces)))
    where
      to : (pieces : List (List Token)) × AreCut Comma tokens pieces × ((head : Head) × IsHeadFor subject pieces head) → (head : Head) × IsHeadIn subject tokens head
      to (pieces, cut, (head, is)) = (head, (pieces, cut, is))

      from : (head : Head) × IsHeadIn subject tokens head → (pieces : List (List Token)) × AreCut Comma tokens pieces × ((head : Head) × IsHeadFor subject pieces head)
      from (head, (pieces, cut, is)) = (pieces, cut, (head, is))

  module _ (pick : Pick) where
    is_new_head : (inside : Option (List Token)) → Dec ((head : Option Head) × IsNewHead pick inside head)
    is_new_head None = yes (None, refl)
    is_new_head (Some tokens) = map_dec to from (both (is_true (picks_one pick)) (is_head_in Chosen tokens))
      where
        to : (picks_one pick ≡ true) × ((head : Head) × IsHeadIn Chosen tokens head) → (head : Option Head) × IsNewHead pick (Some tokens) head
        to (picks, head) = (Some head.0, (picks, head.0, head.1, refl))

        from : (head : Option Head) × IsNewHead pick (Some tokens) head → (picks_one pick ≡ true) × ((head : Head) × IsHeadIn Chosen tokens head)
        from h = (h.1.0, (h.1.1, h.1.2))

    abbrev HasNewHead : Clause → Type 0
    HasNewHead clause = ((head : Option Head) × IsNewHead pick clause.inside head) × (is_empty clause.rest ≡ true)

    pub is_renaming : EveryBracket → (keyword : Keyword) (tokens : List Token) → Dec ((renaming : Renaming) × IsRenaming keyword pick tokens renaming)
    is_renaming within keyword tokens =
        map_dec to from (clause_with within keyword HasNewHead (λ clause. both (is_new_head clause.inside) (is_true (is_empty clause.rest))) tokens)
      where
        to : (clause : Clause) × IsClause keyword tokens clause × HasNewHead clause → (renaming : Renaming) × IsRenaming keyword pick tokens renaming
        to (clause, is, ((head, new), ends)) =
            (record { kind = clause.kind; head = head }, record { inside = clause.inside; rest = clause.rest; clause = is; has_head = new; ends = ends })

        from : (renaming : Renaming) × IsRenaming keyword pick tokens renaming → (clause : Clause) × IsClause keyword tokens clause × HasNewHead clause
        from (renaming, h) = (_, h.clause, ((renaming.head, h.has_head), h.ends))
