-- What fields spell is a list of placed pieces, and such a list is spelled.
use Rattle.std.proofs.Common.{◌≡◌, ℕ, ℤ, Bool, List, Option, Some, None}
use Rattle.rz_core.specs.declared.facts.Facts.{Facts}
use Rattle.rz_core.specs.declared.resource.Word.{Word}
use Rattle.rz_expr.specs.Environment.{Environment}
use Rattle.rz_types_fields.specs.Field.{case_and, field_and, no_cases, no_fields, Align, Array, Fill, Label, Number, PlainBody, PlainCases, PlainField, Points, Switch, Text}
use Rattle.rz_types_fields.specs.Passed.{at_field, at_front, behind, Passed}
use Rattle.rz_types_fields.specs.Piece.{pieces_of}
use Rattle.rz_types_fields.specs.RowLabels.{row_of}
use Rattle.rz_types_fields.specs.Spells.{is_case, values_for, BodySpells, CaseSpells, FieldSpells, Inside, Manner, PiecesSpell, RowSpells}
use Rattle.rz_types_fields.specs.declared.tree.Tree.{Tree}
use Rattle.rz_types_fields.specs.declared.tree.Tree.TheVariants as trees
use Rattle.rz_laws.proofs.Chains.{by_lists, by_threads, inside_lists, inside_threads, none_lists, none_threads, order_lists, order_threads, rows_lists, rows_threads, then_lists, then_threads, Lists, Threads}
use Rattle.rz_laws.specs.Placed.{ArePieces, BodyPlaced, CasePlaced, FieldPlaced, InsidePlaced, LeafPlaced}

module _ (how : Manner) (known : Facts) (all : List Bool) where
  abbrev ListsAll : RowSpells → ArePieces → Type 0
  ListsAll = Lists how known all

  abbrev ThreadsAll : RowSpells → ArePieces → Type 0
  ThreadsAll = Threads how known all

  leaf_lists : (field : PlainField) (names : Environment) (passed : Passed) (value : Option Tree) → ListsAll (PiecesSpell how known all field names passed value) (LeafPlaced field names passed value)
  leaf_lists field names passed value at late after late_after it =
      let found = order_lists how known all names (pieces_of field) passed (values_for field value) at late after late_after it.1 in
      (found.0, (it.0, found.1), found.2)

  leaf_threads : (field : PlainField) (names : Environment) (passed : Passed) (value : Option Tree) → ThreadsAll (PiecesSpell how known all field names passed value) (LeafPlaced field names passed value)
  leaf_threads field names passed value pieces at late after late_after are chain =
      (are.0, order_threads how known all names (pieces_of field) passed (values_for field value) pieces at late after late_after are.1 chain)

  -- The fields of a body within, with names of its own.

  abbrev Lines : PlainBody → Passed → List Tree → Environment → RowSpells
  Lines row passed line own = BodySpells how known all row own (at_front row passed) line

  abbrev LinesPlaced : PlainBody → Passed → List Tree → Environment → ArePieces
  LinesPlaced row passed line own = BodyPlaced row own (at_front row passed) line

  abbrev BodyLists : PlainBody → Type 0
  BodyLists body = (names : Environment) (passed : Passed) (values : List Tree) → ListsAll (BodySpells how known all body names passed values) (BodyPlaced body names passed values)

  abbrev BodyThreads : PlainBody → Type 0
  BodyThreads body = (names : Environment) (passed : Passed) (values : List Tree) → ThreadsAll (BodySpells how known all body names passed values) (BodyPlaced body names passed values)

  abbrev InRow : PlainBody → Option Word → Environment → Passed → ℕ → List Tree → RowSpells
  InRow row name names passed number line = Inside row (row_of name number) names (Lines row passed line)

  abbrev InRowPlaced : PlainBody → Option Word → Environment → Passed → ℕ → List Tree → ArePieces
  InRowPlaced row name names passed number line = InsidePlaced row (row_of name number) names (LinesPlaced row passed line)

  abbrev InCase : PlainBody → Word → Environment → Passed → Option Tree → RowSpells
  InCase row name names passed value at late after late_after =
      (line : List Tree) × (value ≡ Some (trees.Choice name line)) × Inside row None names (Lines row passed line) at late after late_after

  abbrev InCasePlaced : PlainBody → Word → Environment → Passed → Option Tree → ArePieces
  InCasePlaced row name names passed value pieces =
      (line : List Tree) × (value ≡ Some (trees.Choice name line)) × InsidePlaced row None names (LinesPlaced row passed line) pieces

  array_lists : (name : Option Word) (count : Option ℤ) (row : PlainBody) → BodyLists row → (names : Environment) (passed : Passed) (value : Option Tree)
      → ListsAll (FieldSpells how known all (Array name count row) names passed value) (FieldPlaced (Array name count row) names passed value)
  array_lists name count row body names passed value at late after late_after it =
      let found = rows_lists how known all (InRow row name names passed) (InRowPlaced row name names passed)
      (λ number line. inside_lists how known all row (row_of name number) names (Lines row passed line) (LinesPlaced row passed line) (λ own. body own (at_front row passed) line))
      it.0 1 at late after late_after it.5 in
      (found.0, (it.0, it.1, it.2, it.3, it.4, found.1), found.2)

  array_threads : (name : Option Word) (count : Option ℤ) (row : PlainBody) → BodyThreads row → (names : Environment) (passed : Passed) (value : Option Tree)
      → ThreadsAll (FieldSpells how known all (Array name count row) names passed value) (FieldPlaced (Array name count row) names passed value)
  array_threads name count row body names passed value pieces at late after late_after are chain = (
    are.0,
    are.1,
    are.2,
    are.3,
    are.4,
    rows_threads how known all (InRow row name names passed) (InRowPlaced row name names passed)
        (λ number line. inside_threads how known all row (row_of name number) names (Lines row passed line) (LinesPlaced row passed line) (λ own. body own (at_front row passed) line))
        are.0 1 pieces at late after late_after are.5 chain,
  )

  case_lists : (name : Word) (row : PlainBody) → BodyLists row → (names : Environment) (passed : Passed) (value : Option Tree)
      → ListsAll (InCase row name names passed value) (InCasePlaced row name names passed value)
  case_lists name row body names passed value at late after late_after it =
      let found = inside_lists how known all row None names (Lines row passed it.0) (LinesPlaced row passed it.0) (λ own. body own (at_front row passed) it.0) at late after late_after it.2 in
      (found.0, (it.0, it.1, found.1), found.2)

  case_threads : (name : Word) (row : PlainBody) → BodyThreads row → (names : Environment) (passed : Passed) (value : Option Tree)
      → ThreadsAll (InCase row name names passed value) (InCasePlaced row name names passed value)
  case_threads name row body names passed value pieces at late after late_after are chain = (
    are.0,
    are.1,
    inside_threads how known all row None names (Lines row passed are.0) (LinesPlaced row passed are.0) (λ own. body own (at_front row passed) are.0) pieces at late after late_after are.2 chain,
  )

  -- Fields.

  mutual
    field_lists : (field : PlainField) (names : Environment) (passed : Passed) (value : Option Tree) → ListsAll (FieldSpells how known all field names passed value) (FieldPlaced field names passed value)
    field_lists (Number number) names passed value = leaf_lists (Number number) names passed value
    field_lists (Text text) names passed value = leaf_lists (Text text) names passed value
    field_lists (Points points) names passed value = leaf_lists (Points points) names passed value
    field_lists (Fill unit count) names passed value = leaf_lists (Fill unit count) names passed value
    field_lists (Align unit) names passed value = leaf_lists (Align unit) names passed value
    field_lists (Label name) names passed value = leaf_lists (Label name) names passed value
    field_lists (Array name count row) names passed value = array_lists name count row (body_lists row) names passed value
    field_lists (Switch cases) names passed value = cases_lists cases names passed value

    cases_lists : (cases : PlainCases) (names : Environment) (passed : Passed) (value : Option Tree) → ListsAll (CaseSpells how known all cases names passed value) (CasePlaced cases names passed value)
    cases_lists no_cases names passed value = λ at late after late_after it. absurd it
    cases_lists (case_and name row others) names passed value =
        by_lists how known all (InCase row name names passed value) (CaseSpells how known all others names passed value)
        (InCasePlaced row name names passed value) (CasePlaced others names passed value)
        (case_lists name row (body_lists row) names passed value) (cases_lists others names passed value) (is_case name value)

    pub body_lists : (body : PlainBody) → BodyLists body
    body_lists no_fields names passed values = none_lists how known all values
    body_lists (field_and field fields) names passed values =
        let here = at_field (field_and field fields) passed in
        then_lists how known all (FieldSpells how known all field names here) (BodySpells how known all fields names (behind field here))
        (FieldPlaced field names here) (BodyPlaced fields names (behind field here))
        (field_lists field names here) (body_lists fields names (behind field here)) values

  mutual
    pub field_threads : (field : PlainField) (names : Environment) (passed : Passed) (value : Option Tree) → ThreadsAll (FieldSpells how known all field names passed value) (FieldPlaced field names passed value)
    field_threads (Number number) names passed value = leaf_threads (Number number) names passed value
    field_threads (Text text) names passed value = leaf_threads (Text text) names passed value
    field_threads (Points points) names passed value = leaf_threads (Points points) names passed value
    field_threads (Fill unit count) names passed value = leaf_threads (Fill unit count) names passed value
    field_threads (Align unit) names passed value = leaf_threads (Align unit) names passed value
    field_threads (Label name) names passed value = leaf_threads (Label name) names passed value
    field_threads (Array name count row) names passed value = array_threads name count row (body_threads row) names passed value
    field_threads (Switch cases) names passed value = cases_threads cases names passed value

    cases_threads : (cases : PlainCases) (names : Environment) (passed : Passed) (value : Option Tree) → ThreadsAll (CaseSpells how known all cases names passed value) (CasePlaced cases names passed value)
    cases_threads no_cases names passed value = λ pieces at late after late_after are chain. absurd are
    cases_threads (case_and name row others) names passed value =
        by_threads how known all (InCase row name names passed value) (CaseSpells how known all others names passed value)
        (InCasePlaced row name names passed value) (CasePlaced others names passed value)
        (case_threads name row (body_threads row) names passed value) (cases_threads others names passed value) (is_case name value)

    pub body_threads : (body : PlainBody) → BodyThreads body
    body_threads no_fields names passed values = none_threads how known all values
    body_threads (field_and field fields) names passed values =
        let here = at_field (field_and field fields) passed in
        then_threads how known all (FieldSpells how known all field names here) (BodySpells how known all fields names (behind field here))
        (FieldPlaced field names here) (BodyPlaced fields names (behind field here))
        (field_threads field names here) (body_threads fields names (behind field here)) values
