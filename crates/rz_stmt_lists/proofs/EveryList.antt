-- Of all tokens it is decided which statement over lists of resources they are.
use Rattle.std.proofs.Common.{◌≡◌, ◌⊎◌, inl, inr, ℕ, Bool, true, false, List, [], ◌∷◌, Option, Some, None, refl, ap, ◌∙◌}
use Rattle.std.proofs.Math.Decide.{map_dec}
use Rattle.rz_core.proofs.EveryCut.{all_three, answer_of, both, head, is_true, known_of, known_with, one_of, some_of, tail}
use Rattle.rz_core.proofs.Tests.{by_test}
use Rattle.rz_core.specs.Decided.{Decided}
use Rattle.rz_stmt_brackets.proofs.OneBracket.{one_bracketed}
use Rattle.rz_stmt_brackets.specs.Bracket.{IsBracketed}
use Rattle.rz_stmt_brackets.specs.Kind.{kind_in}
use Rattle.rz_stmt_brackets.specs.Pieces.{Parted}
use Rattle.rz_stmt_brackets.specs.Statements.{is_empty}
use Rattle.rz_stmt_brackets.specs.declared.bracket.Bracket.TheVariants.{Round}
use Rattle.rz_stmt_data.proofs.InFront.{is_typed, one_typed}
use Rattle.rz_stmt_data.specs.Files.{behind_texts, file_in}
use Rattle.rz_stmt_data.specs.Head.{Head}
use Rattle.rz_stmt_data.specs.Typed.{IsTyped, Typed}
use Rattle.rz_stmt_data.specs.declared.head.Subject.TheVariants.{New}
use Rattle.rz_expr.proofs.OneTerm.{OneExpression}
use Rattle.rz_expr.specs.Keyword.{is_keyword}
use Rattle.rz_words.specs.declared.keyword.Keyword.TheVariants as keywords
use Rattle.rz_lex.specs.declared.token.Token.{Token}
use Rattle.rz_stmt_lists.proofs.Apart.{include_is, included}
use Rattle.rz_stmt_lists.proofs.EveryPick.{clause_with, is_head_in, is_picked, is_renaming, maybe_with, picked_with, EveryBracket, EveryHead, EveryText}
use Rattle.rz_stmt_lists.proofs.Maybes.{MaybePair}
use Rattle.rz_stmt_lists.proofs.Parts.{none_here, nothing_there, of_type_back, of_type_forth, others_back, others_forth}
use Rattle.rz_stmt_lists.proofs.Texts.{named_decided, named_so}
use Rattle.rz_stmt_lists.specs.Clause.{Clause, IsClause}
use Rattle.rz_stmt_lists.specs.Change.{Change, IsChange}
use Rattle.rz_stmt_lists.specs.Delete.{Delete, IsDelete}
use Rattle.rz_stmt_lists.specs.Include.{all, All, Chosen, Include, IsInclude, IsPart, Not, Part, Renamed}
use Rattle.rz_stmt_lists.specs.Lists.{changes, deletes, includes, reads, Changes, Deletes, Includes, IsListed, ListForm, Reads}
use Rattle.rz_stmt_lists.specs.Pick.{IsPicked, Pick}
use Rattle.rz_stmt_lists.specs.Read.{IsNamed, IsRead, Read}
use Rattle.rz_stmt_lists.specs.Renaming.{IsHeadIn, IsRenaming, Renaming}
use Rattle.rz_stmt_lists.specs.Steps.{IsGoneOn, IsMaybePair, IsOfType, IsOthers}

-- a file, and the end after it
abbrev HasName : List Token → Type 0
HasName tokens = (name : List ℕ) × IsNamed tokens name

is_named : (tokens : List Token) → Dec (HasName tokens)
is_named tokens = by (is_true (is_empty (behind_texts tokens)))
  where
    by : Dec (is_empty (behind_texts tokens) ≡ true) → Dec (HasName tokens)
    by (yes ends) = known_of (IsNamed tokens) (file_in tokens, named_decided tokens ends (file_in tokens) refl)
    by (no never) = no (λ h. never (named_so tokens h.0 h.1).1)

-- what stands after `not`
is_others : (tokens : List Token) → Dec ((part : Part) × IsOthers tokens part)
is_others [] = no (λ h. none h.1.0 h.1.1 h.1.3)
  where
    none : (x : Token) (us : List Token) → [] ≡ x ∷ us → ⊥
    none x us is = cc is
is_others (kind ∷ behind) = map_dec to from (both (some_of (kind_in kind.shape)) (is_true (is_empty behind)))
  where
    to : ((code : ℕ) × (kind_in kind.shape ≡ Some code)) × (is_empty behind ≡ true) → (part : Part) × IsOthers (kind ∷ behind) part
    to (code, ends) = (Not code.0, (kind, behind, code.0, refl, code.1, ends, refl))

    from : (part : Part) × IsOthers (kind ∷ behind) part → ((code : ℕ) × (kind_in kind.shape ≡ Some code)) × (is_empty behind ≡ true)
    from h = (
      (h.1.2, ap (λ (t : Token). kind_in t.shape) (head kind h.1.0 behind h.1.1 h.1.3) ∙ h.1.4),
      ap (λ (ts : List Token). is_empty ts) (tail kind h.1.0 behind h.1.1 h.1.3) ∙ h.1.5,
    )

module _ (one : OneExpression) (within : EveryBracket) (text : EveryText) (heads : EveryHead) where
  -- `delete`

  abbrev HasPickAlone : Clause → Type 0
  HasPickAlone clause = ((pick : Pick) × IsPicked clause.inside pick) × (is_empty clause.rest ≡ true)

  is_delete : (tokens : List Token) → Dec ((delete : Delete) × IsDelete tokens delete)
  is_delete tokens =
      map_dec to from (clause_with within keywords.Delete HasPickAlone (λ clause. both (is_picked text heads clause.inside) (is_true (is_empty clause.rest))) tokens)
    where
      to : (clause : Clause) × IsClause keywords.Delete tokens clause × HasPickAlone clause → (delete : Delete) × IsDelete tokens delete
      to (clause, is, ((pick, picked), ends)) =
          (record { kind = clause.kind; pick = pick }, record { inside = clause.inside; rest = clause.rest; clause = is; has_pick = picked; ends = ends })

      from : (delete : Delete) × IsDelete tokens delete → (clause : Clause) × IsClause keywords.Delete tokens clause × HasPickAlone clause
      from (delete, h) = (_, h.clause, ((delete.pick, h.has_pick), h.ends))

  -- `change`

  abbrev HasChange : Clause → Type 0
  HasChange clause = (pick : Pick) × IsPicked clause.inside pick × ((renaming : Renaming) × IsRenaming keywords.To pick clause.rest renaming)

  has_change : (clause : Clause) → Dec (HasChange clause)
  has_change clause =
      picked_with text heads one clause.inside (λ pick. (renaming : Renaming) × IsRenaming keywords.To pick clause.rest renaming)
      (λ pick. is_renaming heads pick within keywords.To clause.rest)

  is_change : (tokens : List Token) → Dec ((change : Change) × IsChange tokens change)
  is_change tokens = map_dec to from (clause_with within keywords.Change HasChange has_change tokens)
    where
      to : (clause : Clause) × IsClause keywords.Change tokens clause × HasChange clause → (change : Change) × IsChange tokens change
      to (clause, is, (pick, picked, (renaming, becomes))) = (
        record { kind = clause.kind; pick = pick; new_kind = renaming.kind; head = renaming.head },
        record { inside = clause.inside; rest = clause.rest; clause = is; has_pick = picked; becomes = becomes },
      )

      from : (change : Change) × IsChange tokens change → (clause : Clause) × IsClause keywords.Change tokens clause × HasChange clause
      from (change, h) = (_, h.clause, (change.pick, h.has_pick, (record { kind = change.new_kind; head = change.head }, h.becomes)))

  -- `read`

  abbrev HasFront : Parted → Type 0
  HasFront parted = ((head : Head) × IsHeadIn New parted.front head) × HasName parted.behind

  abbrev IsReadBehind : List Token → Type 0
  IsReadBehind behind = (parted : Parted) × IsBracketed Round behind parted × HasFront parted

  read_behind : (behind : List Token) → Dec (IsReadBehind behind)
  read_behind behind =
      known_with (IsBracketed Round behind) HasFront (one_bracketed Round behind) (known_of (IsBracketed Round behind) (within Round behind))
      (λ parted is. both (is_head_in heads New parted.front) (is_named parted.behind))

  is_read : (tokens : List Token) → Dec ((read : Read) × IsRead tokens read)
  is_read tokens =
      map_dec to from (known_with (IsTyped keywords.Read tokens) (λ typed. IsReadBehind typed.behind) (one_typed keywords.Read tokens) (is_typed keywords.Read tokens)
      (λ typed is. read_behind typed.behind))
    where
      to : (typed : Typed) × IsTyped keywords.Read tokens typed × IsReadBehind typed.behind → (read : Read) × IsRead tokens read
      to (typed, is, (parted, brackets, ((head, heads), (file, names)))) = (
        record { kind = typed.kind; head = head; file = file },
        record { behind = typed.behind; parted = parted; typed = is; in_brackets = brackets; has_head = heads; names = names },
      )

      from : (read : Read) × IsRead tokens read → (typed : Typed) × IsTyped keywords.Read tokens typed × IsReadBehind typed.behind
      from (read, h) = (record { kind = read.kind; behind = h.behind }, h.typed, (h.parted, h.in_brackets, ((read.head, h.has_head), (read.file, h.names))))

  -- `include`

  is_gone_on : (ends : Bool) (kind : ℕ) (pick : Pick) (rest : List Token) → Dec ((part : Part) × IsGoneOn ends kind pick rest part)
  is_gone_on true kind pick rest = yes (Chosen kind pick, refl)
  is_gone_on false kind pick rest = map_dec to from (is_renaming heads pick within keywords.As rest)
    where
      to : (renaming : Renaming) × IsRenaming keywords.As pick rest renaming → (part : Part) × IsGoneOn false kind pick rest part
      to (renaming, is) = (Renamed kind pick renaming.kind renaming.head, (renaming, is, refl))

      from : (part : Part) × IsGoneOn false kind pick rest part → (renaming : Renaming) × IsRenaming keywords.As pick rest renaming
      from h = (h.1.0, h.1.1)

  abbrev HasGoneOn : ℕ → MaybePair → Type 0
  HasGoneOn kind pair = (pick : Pick) × IsPicked pair.0 pick × ((part : Part) × IsGoneOn (is_empty pair.1) kind pick pair.1 part)

  has_gone_on : (kind : ℕ) (pair : MaybePair) → Dec (HasGoneOn kind pair)
  has_gone_on kind pair =
      picked_with text heads one pair.0 (λ pick. (part : Part) × IsGoneOn (is_empty pair.1) kind pick pair.1 part) (λ pick. is_gone_on (is_empty pair.1) kind pick pair.1)

  is_of_type : (kind : ℕ) (tokens : List Token) → Dec ((part : Part) × IsOfType kind tokens part)
  is_of_type kind tokens = map_dec to from (maybe_with within (HasGoneOn kind) (has_gone_on kind) tokens)
    where
      to : (pair : MaybePair) × IsMaybePair tokens pair × HasGoneOn kind pair → (part : Part) × IsOfType kind tokens part
      to (pair, maybe, (pick, picked, (part, on))) = (part, (pair.0, pair.1, pick, maybe, picked, on))

      from : (part : Part) × IsOfType kind tokens part → (pair : MaybePair) × IsMaybePair tokens pair × HasGoneOn kind pair
      from (part, (inside, rest, pick, maybe, picked, on)) = ((inside, rest), maybe, (pick, picked, (part, on)))

  abbrev HasPart : List Token → Type 0
  HasPart tokens = (part : Part) × IsPart tokens part

  module _ (first : Token) (rest : List Token) (some : is_empty (first ∷ rest) ≡ false) where
    by_not : is_keyword keywords.Not first.shape ≡ true → Dec (HasPart (first ∷ rest))
    by_not word = map_dec to from (is_others rest)
      where
        to : (part : Part) × IsOthers rest part → HasPart (first ∷ rest)
        to (part, is) = (part, others_forth (first ∷ rest) first rest refl some word part is)

        from : HasPart (first ∷ rest) → (part : Part) × IsOthers rest part
        from (part, is) = (part, others_back (first ∷ rest) first rest refl some word part is)

    by_kind : is_keyword keywords.Not first.shape ≡ false → (found : Option ℕ) → kind_in first.shape ≡ found → Dec (HasPart (first ∷ rest))
    by_kind off None none = no (λ h. none_here (first ∷ rest) first rest refl some off none h.0 h.1)
    by_kind off (Some code) has = map_dec to from (is_of_type code rest)
      where
        to : (part : Part) × IsOfType code rest part → HasPart (first ∷ rest)
        to (part, is) = (part, of_type_forth (first ∷ rest) first rest refl some off code has part is)

        from : HasPart (first ∷ rest) → (part : Part) × IsOfType code rest part
        from (part, is) = (part, of_type_back (first ∷ rest) first rest refl some off code has part is)

  is_part : (tokens : List Token) → Dec (HasPart tokens)
  is_part [] = no (λ h. nothing_there [] refl refl h.0 h.1)
  is_part (first ∷ rest) = by_test (Dec (HasPart (first ∷ rest))) (is_empty (first ∷ rest)) (λ ends. yes (All, all ends refl)) goes_on
    where
      goes_on : is_empty (first ∷ rest) ≡ false → Dec (HasPart (first ∷ rest))
      goes_on some = by_test (Dec (HasPart (first ∷ rest))) (is_keyword keywords.Not first.shape) (by_not first rest some)
          (λ off. by_kind first rest some off (kind_in first.shape) refl)

  is_include : (tokens : List Token) → Dec ((include : Include) × IsInclude tokens include)
  is_include [] = no (λ h. none h.1.word h.1.behind h.1.are)
    where
      none : (x : Token) (us : List Token) → [] ≡ x ∷ us → ⊥
      none x us is = cc is
  is_include (word ∷ behind) = map_dec to from (all_three (is_true (is_keyword keywords.Include word.shape)) (some_of (file_in behind)) (is_part (behind_texts behind)))
    where
      to : (is_keyword keywords.Include word.shape ≡ true) × ((file : List ℕ) × (file_in behind ≡ Some file)) × HasPart (behind_texts behind)
          → (include : Include) × IsInclude (word ∷ behind) include
      to (is, file, part) =
          let include : Include = record { file = file.0; part = part.0 } in
          (include, include_is (word ∷ behind) behind word refl is include file.1 part.1)

      from : (include : Include) × IsInclude (word ∷ behind) include
          → (is_keyword keywords.Include word.shape ≡ true) × ((file : List ℕ) × (file_in behind ≡ Some file)) × HasPart (behind_texts behind)
      from h =
          let apart = included (word ∷ behind) behind word refl h.0 h.1 in (
            ap (λ (t : Token). is_keyword keywords.Include t.shape) (head word h.1.word behind h.1.behind h.1.are) ∙ h.1.is_word,
            (h.0.file, apart.0),
            (h.0.part, apart.1),
          )

  -- One of the four.

  abbrev IsOneOf : List Token → Type 0
  IsOneOf tokens =
      ((include : Include) × IsInclude tokens include)
      ⊎ (((read : Read) × IsRead tokens read) ⊎ (((change : Change) × IsChange tokens change) ⊎ ((delete : Delete) × IsDelete tokens delete)))

  is_listed : (tokens : List Token) → Dec ((form : ListForm) × IsListed tokens form)
  is_listed tokens = map_dec to from (one_of (is_include tokens) (one_of (is_read tokens) (one_of (is_change tokens) (is_delete tokens))))
    where
      to : IsOneOf tokens → (form : ListForm) × IsListed tokens form
      to (inl (include, is)) = (Includes include, includes include is refl)
      to (inr (inl (read, is))) = (Reads read, reads read is refl)
      to (inr (inr (inl (change, is)))) = (Changes change, changes change is refl)
      to (inr (inr (inr (delete, is)))) = (Deletes delete, deletes delete is refl)

      from : (form : ListForm) × IsListed tokens form → IsOneOf tokens
      from (form, includes include is so) = inl (include, is)
      from (form, reads read is so) = inr (inl (read, is))
      from (form, changes change is so) = inr (inr (inl (change, is)))
      from (form, deletes delete is so) = inr (inr (inr (delete, is)))

  pub every_list : (tokens : List Token) → (answer : Option ListForm) × Decided (IsListed tokens) answer
  every_list tokens = answer_of (IsListed tokens) (is_listed tokens)
