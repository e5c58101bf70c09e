-- Placed pieces one after the other, and what is spelled from a place on.
use Rattle.std.proofs.Common.{◌≡◌, ℕ, ◌+◌, ◌≤◌, Bool, true, false, List, [], ◌∷◌, ◌++◌, length, take, drop, replicate, Option, refl, ap, sym, subst, ◌∙◌, arith}
use Rattle.std.proofs.lemmas.List.{append_assoc, append-nil, drop-drop, length-append}
use Rattle.rz_core.specs.declared.facts.Facts.{Facts}
use Rattle.rz_expr.specs.Environment.{Environment}
use Rattle.rz_layout.proofs.Masks.{take-plus}
use Rattle.rz_types_fields.specs.Field.{PlainBody}
use Rattle.rz_types_fields.specs.Passed.{behind_piece, Passed}
use Rattle.rz_types_fields.specs.Piece.{Piece}
use Rattle.rz_types_fields.specs.Row.{By}
use Rattle.rz_types_fields.specs.RowLabels.{RowOf}
use Rattle.rz_types_fields.specs.Sees.{sees, Late}
use Rattle.rz_types_fields.specs.Spells.{is_late_piece, is_late_size, most_bits, AtEnd, InOrder, Inside, IsStored, Manner, PieceSpells, RowSpells, RowsSpell, Then}
use Rattle.rz_types_fields.specs.declared.tree.Tree.{Tree}
use Rattle.rz_laws.specs.Placed.{bits_in, marks_in, ArePieces, InOrderPlaced, InsidePlaced, NonePlaced, OneAndOthers, OnePlaced, Placed, RowsPlaced}

module _ (how : Manner) (known : Facts) (all : List Bool) where
  -- what a piece is at a place with these late marks before it
  abbrev pub IsThere : Placed → ℕ → Late → Type 0
  IsThere one at late =
      IsStored one.piece known at (sees known all one.names at) one.value one.bits × how one.passed one.piece (sees known all one.names at) one.value
      × (one.late ≡ is_late_piece one.passed.met late one.piece (sees known all one.names at))
      × (is_late_size one.passed.met late one.piece (sees known all one.names at) ≡ false)

  -- a piece from a place to the next
  pub record Links (one : Placed) (at : ℕ) (late : Late) (after : ℕ) (late_after : Late) : Type 0 where
    pub begins : one.at ≡ at
    pub is : IsThere one at late
    pub there : take (length one.bits) (drop at all) ≡ one.bits
    pub ends : after ≡ at + length one.bits
    pub short : after ≤ most_bits
    pub marked : late_after ≡ late ++ replicate (length one.bits) one.late

  abbrev pub Chain : List Placed → RowSpells
  Chain [] at late after late_after = (after ≡ at) × (late_after ≡ late)
  Chain (one ∷ others) at late after late_after =
      (mid : ℕ) × (late_mid : Late) × Links one at late mid late_mid × Chain others mid late_mid after late_after

  chain_and : (front back : List Placed) (at : ℕ) (late : Late) (mid : ℕ) (late_mid : Late) (after : ℕ) (late_after : Late)
      → Chain front at late mid late_mid → Chain back mid late_mid after late_after → Chain (front ++ back) at late after late_after
  chain_and [] back at late mid late_mid after late_after first more =
      subst (λ (k : ℕ). Chain back k late after late_after) first.0 (subst (λ (m : Late). Chain back mid m after late_after) first.1 more)
  chain_and (one ∷ front) back at late mid late_mid after late_after first more =
      (first.0, first.1, first.2, chain_and front back first.0 first.1 mid late_mid after late_after first.3 more)

  abbrev Parts : List Placed → List Placed → RowSpells
  Parts front back at late after late_after = (mid : ℕ) × (late_mid : Late) × Chain front at late mid late_mid × Chain back mid late_mid after late_after

  pub chain_parts : (front back : List Placed) (at : ℕ) (late : Late) (after : ℕ) (late_after : Late) → Chain (front ++ back) at late after late_after → Parts front back at late after late_after
  chain_parts [] back at late after late_after chain = (at, late, (refl, refl), chain)
  chain_parts (one ∷ front) back at late after late_after chain =
      let more = chain_parts front back chain.0 chain.1 after late_after chain.3 in
      (more.0, more.1, (chain.0, chain.1, chain.2, more.2), more.3)

  -- so far it comes, with these marks
  pub chain_ends : (pieces : List Placed) (at : ℕ) (late : Late) (after : ℕ) (late_after : Late) → Chain pieces at late after late_after
      → (after ≡ at + length (bits_in pieces)) × (late_after ≡ late ++ marks_in pieces)
  chain_ends [] at late after late_after chain = (let same = chain.0 in omega (arith, same), chain.1 ∙ sym (append-nil late))
  chain_ends (one ∷ others) at late after late_after chain =
      let more = chain_ends others chain.0 chain.1 after late_after chain.3 in
      let ends = chain.2.ends in
      let far = more.0 in
      let long = length-append one.bits (bits_in others) in (
        omega (arith, ends, far, long),
        more.1 ∙ ap (λ (m : Late). m ++ marks_in others) chain.2.marked ∙ append_assoc late (replicate (length one.bits) one.late) (marks_in others),
      )

  pub chain_short : (pieces : List Placed) (at : ℕ) (late : Late) (after : ℕ) (late_after : Late) → at ≤ most_bits → Chain pieces at late after late_after → after ≤ most_bits
  chain_short [] at late after late_after short chain = subst (λ (k : ℕ). k ≤ most_bits) (sym chain.0) short
  chain_short (one ∷ others) at late after late_after short chain = chain_short others chain.0 chain.1 after late_after chain.2.short chain.3

  -- and these bits stand there
  pub chain_there : (pieces : List Placed) (at : ℕ) (late : Late) (after : ℕ) (late_after : Late) → Chain pieces at late after late_after
      → take (length (bits_in pieces)) (drop at all) ≡ bits_in pieces
  chain_there [] at late after late_after chain = refl
  chain_there (one ∷ others) at late after late_after chain =
      let behind : take (length (bits_in others)) (drop (length one.bits) (drop at all)) ≡ bits_in others =
      ap (take (length (bits_in others))) (drop-drop (length one.bits) at all ∙ ap (λ (k : ℕ). drop k all) (sym chain.2.ends))
      ∙ chain_there others chain.0 chain.1 after late_after chain.3 in
      ap (λ (n : ℕ). take n (drop at all)) (length-append one.bits (bits_in others))
      ∙ take-plus (length one.bits) (length (bits_in others)) (drop at all)
      ∙ (λ i. chain.2.there i ++ behind i)

  -- What is spelled from a place on are pieces one after the other, and back.

  abbrev pub Lists : RowSpells → ArePieces → Type 0
  Lists Spelled Are = (at : ℕ) (late : Late) (after : ℕ) (late_after : Late) → Spelled at late after late_after → (pieces : List Placed) × Are pieces × Chain pieces at late after late_after

  abbrev pub Threads : RowSpells → ArePieces → Type 0
  Threads Spelled Are = (pieces : List Placed) (at : ℕ) (late : Late) (after : ℕ) (late_after : Late) → Are pieces → Chain pieces at late after late_after → Spelled at late after late_after

  pub none_lists : (values : List Tree) → Lists (AtEnd values) (NonePlaced values)
  none_lists values at late after late_after it = ([], (it.0, refl), (it.1, it.2))

  pub none_threads : (values : List Tree) → Threads (AtEnd values) (NonePlaced values)
  none_threads values pieces at late after late_after are chain =
      let ends = subst (λ (ps : List Placed). Chain ps at late after late_after) are.1 chain in (are.0, ends.0, ends.1)

  one_lists : (names : Environment) (passed : Passed) (piece : Piece) (value : Option Tree) → Lists (PieceSpells how known all names passed piece value) (OnePlaced names passed piece value)
  one_lists names passed piece value at late after late_after it =
      let is_late = is_late_piece passed.met late piece (sees known all names at) in
      let one : Placed = record { piece = piece; value = value; names = names; passed = passed; at = at; bits = it.bits; late = is_late } in (
        one ∷ [],
        (at, it.bits, is_late, refl),
        (
          after,
          late_after,
          record { begins = refl; is = (it.stored, it.manner, refl, it.early); there = it.there; ends = it.ends; short = it.short; marked = it.marked },
          (refl, refl),
        ),
      )

  pub one_threads : (names : Environment) (passed : Passed) (piece : Piece) (value : Option Tree) → Threads (PieceSpells how known all names passed piece value) (OnePlaced names passed piece value)
  one_threads names passed piece value pieces at late after late_after are chain =
      let own = subst (λ (ps : List Placed). Chain ps at late after late_after) are.3 chain in
      let link = own.2 in
      record {
        bits = are.1;
        stored = link.is.0;
        manner = link.is.1;
        early = link.is.3;
        there = link.there;
        ends = own.3.0 ∙ link.ends;
        short = subst (λ (k : ℕ). k ≤ most_bits) (sym own.3.0) link.short;
        marked = own.3.1 ∙ link.marked ∙ ap (λ (mark : Bool). late ++ replicate (length are.1) mark) link.is.2;
      }

  pub then_lists : (One : Option Tree → RowSpells) (Others : List Tree → RowSpells) (IsOne : Option Tree → ArePieces) (AreOthers : List Tree → ArePieces)
      → ((value : Option Tree) → Lists (One value) (IsOne value)) → ((values : List Tree) → Lists (Others values) (AreOthers values))
      → (values : List Tree) → Lists (Then One Others values) (OneAndOthers IsOne AreOthers values)
  then_lists One Others IsOne AreOthers one others values at late after late_after it =
      let first = one it.0 at late it.2 it.3 it.5 in
      let more = others it.1 it.2 it.3 after late_after it.6 in (
        first.0 ++ more.0,
        (it.0, it.1, first.0, more.0, it.4, refl, first.1, more.1),
        chain_and first.0 more.0 at late it.2 it.3 after late_after first.2 more.2,
      )

  pub then_threads : (One : Option Tree → RowSpells) (Others : List Tree → RowSpells) (IsOne : Option Tree → ArePieces) (AreOthers : List Tree → ArePieces)
      → ((value : Option Tree) → Threads (One value) (IsOne value)) → ((values : List Tree) → Threads (Others values) (AreOthers values))
      → (values : List Tree) → Threads (Then One Others values) (OneAndOthers IsOne AreOthers values)
  then_threads One Others IsOne AreOthers one others values pieces at late after late_after are chain =
      let parts = chain_parts are.2 are.3 at late after late_after (subst (λ (ps : List Placed). Chain ps at late after late_after) are.5 chain) in (
        are.0,
        are.1,
        parts.0,
        parts.1,
        are.4,
        one are.0 are.2 at late parts.0 parts.1 are.6 parts.2,
        others are.1 are.3 parts.0 parts.1 after late_after are.7 parts.3,
      )

  pub order_lists : (names : Environment) (pieces : List Piece) (passed : Passed) (values : List Tree)
      → Lists (InOrder (PieceSpells how known all names) passed pieces values) (InOrderPlaced names passed pieces values)
  order_lists names [] passed values = none_lists values
  order_lists names (piece ∷ pieces) passed values =
      then_lists (PieceSpells how known all names passed piece) (InOrder (PieceSpells how known all names) (behind_piece piece passed) pieces)
      (OnePlaced names passed piece) (InOrderPlaced names (behind_piece piece passed) pieces)
      (one_lists names passed piece) (order_lists names pieces (behind_piece piece passed)) values

  pub order_threads : (names : Environment) (pieces : List Piece) (passed : Passed) (values : List Tree)
      → Threads (InOrder (PieceSpells how known all names) passed pieces values) (InOrderPlaced names passed pieces values)
  order_threads names [] passed values = none_threads values
  order_threads names (piece ∷ pieces) passed values =
      then_threads (PieceSpells how known all names passed piece) (InOrder (PieceSpells how known all names) (behind_piece piece passed) pieces)
      (OnePlaced names passed piece) (InOrderPlaced names (behind_piece piece passed) pieces)
      (one_threads names passed piece) (order_threads names pieces (behind_piece piece passed)) values

  pub rows_lists : (Row : ℕ → List Tree → RowSpells) (IsRow : ℕ → List Tree → ArePieces) → ((number : ℕ) (line : List Tree) → Lists (Row number line) (IsRow number line))
      → (rows : List (List Tree)) (number : ℕ) → Lists (RowsSpell Row number rows) (RowsPlaced IsRow number rows)
  rows_lists Row IsRow each [] number at late after late_after it = ([], refl, it)
  rows_lists Row IsRow each (line ∷ rows) number at late after late_after it =
      let first = each number line at late it.0 it.1 it.2 in
      let more = rows_lists Row IsRow each rows (number + 1) it.0 it.1 after late_after it.3 in
      (first.0 ++ more.0, (first.0, more.0, refl, first.1, more.1), chain_and first.0 more.0 at late it.0 it.1 after late_after first.2 more.2)

  pub rows_threads : (Row : ℕ → List Tree → RowSpells) (IsRow : ℕ → List Tree → ArePieces) → ((number : ℕ) (line : List Tree) → Threads (Row number line) (IsRow number line))
      → (rows : List (List Tree)) (number : ℕ) → Threads (RowsSpell Row number rows) (RowsPlaced IsRow number rows)
  rows_threads Row IsRow each [] number pieces at late after late_after are chain = subst (λ (ps : List Placed). Chain ps at late after late_after) are chain
  rows_threads Row IsRow each (line ∷ rows) number pieces at late after late_after are chain =
      let parts = chain_parts are.0 are.1 at late after late_after (subst (λ (ps : List Placed). Chain ps at late after late_after) are.2 chain) in
      (parts.0, parts.1, each number line are.0 at late parts.0 parts.1 are.3 parts.2, rows_threads Row IsRow each rows (number + 1) are.1 parts.0 parts.1 after late_after are.4 parts.3)

  pub inside_lists : (body : PlainBody) (which : Option RowOf) (outer : Environment) (Body : Environment → RowSpells) (IsBody : Environment → ArePieces)
      → ((own : Environment) → Lists (Body own) (IsBody own)) → Lists (Inside body which outer Body) (InsidePlaced body which outer IsBody)
  inside_lists body which outer Body IsBody each at late after late_after it =
      let found = each it.0 at late after late_after it.2 in (found.0, (it.0, it.1, found.1), found.2)

  pub inside_threads : (body : PlainBody) (which : Option RowOf) (outer : Environment) (Body : Environment → RowSpells) (IsBody : Environment → ArePieces)
      → ((own : Environment) → Threads (Body own) (IsBody own)) → Threads (Inside body which outer Body) (InsidePlaced body which outer IsBody)
  inside_threads body which outer Body IsBody each pieces at late after late_after are chain =
      (are.0, are.1, each are.0 pieces at late after late_after are.2 chain)

  -- one of two by a test
  pub by_lists : (One Other : RowSpells) (IsOne IsOther : ArePieces) → Lists One IsOne → Lists Other IsOther → (test : Bool)
      → Lists (λ at late after late_after. By test (One at late after late_after) (Other at late after late_after)) (λ pieces. By test (IsOne pieces) (IsOther pieces))
  by_lists One Other IsOne IsOther one other true = one
  by_lists One Other IsOne IsOther one other false = other

  pub by_threads : (One Other : RowSpells) (IsOne IsOther : ArePieces) → Threads One IsOne → Threads Other IsOther → (test : Bool)
      → Threads (λ at late after late_after. By test (One at late after late_after) (Other at late after late_after)) (λ pieces. By test (IsOne pieces) (IsOther pieces))
  by_threads One Other IsOne IsOther one other true = one
  by_threads One Other IsOne IsOther one other false = other
