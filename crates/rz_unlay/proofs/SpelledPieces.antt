-- The pieces of a field that are read are spelled plainly.
use Rattle.std.proofs.Common.{◌≡◌, ℕ, zero, suc, ◌+◌, ◌*◌, ◌%◌, ◌≤◌, ◌^◌, ℤ, pos, Bool, true, false, List, [], ◌∷◌, ◌++◌, length, take, drop, map, Option, Some, None, refl, sym, ap, ◌∙◌, subst, arith}
use Rattle.std.specs.Prelude.{nat_abs, option_and_then, option_map, replicate}
use Rattle.std.specs.List.{AllByRecursion}
use Rattle.std.specs.Option.{option_to_list}
use Rattle.rz_core.specs.declared.facts.Facts.{Facts}
use Rattle.rz_core.specs.declared.resource.Word.{Word}
use Rattle.rz_expr.specs.Environment.{place_key, Environment, IsPartOf, Key}
use Rattle.rz_expr.specs.Term.{Term}
use Rattle.rz_expr.specs.Value.{value_of}
use Rattle.rz_bits.specs.Bits.{bits_of, bytes_of, number_bits, number_of}
use Rattle.rz_bits.specs.BitBuf.{missing}
use Rattle.rz_bits.specs.View.{number_at}
use Rattle.rz_types_fields.specs.declared.field.NumForm.{NumForm}
use Rattle.rz_types_fields.specs.declared.field.NumForm.TheVariants.{Integer}
use Rattle.rz_types_fields.specs.declared.tree.Tree.{Tree}
use Rattle.rz_types_fields.specs.declared.tree.Tree.TheVariants as trees
use Rattle.rz_types_fields.specs.Field.{field_and, Align, Array, Fill, Label, Number, PlainBody, PlainField, Points, Switch, Text}
use Rattle.rz_types_fields.specs.Passed.{behind, behind_piece, behind_pieces, declares, gives_key, is_held, is_near, stands_at, told_by, Names, Passed}
use Rattle.rz_types_fields.specs.Piece.{fixed_integer, free_integer, integers, pieces_of, Filler, OneNumber, OneText, Piece, Place, Zeros}
use Rattle.rz_types_fields.specs.Sees.{is_late, sees, Late}
use Rattle.rz_types_fields.specs.Shape.{numbers_of}
use Rattle.rz_types_fields.specs.Spells.{group_in, is_late_size, marks, most_bits, numbers_of_group, plainly, put, values_for, InOrder, IsGrouped, IsGroupedFor, IsStored, PieceSpells, PiecesSpell, RowSpells, Then}
use Rattle.rz_types_fields.proofs.SameNames.{key_itself}
use Rattle.rz_types.specs.Readable.{are_pieces_read, is_piece_read}
use Rattle.rz_unlay.specs.Pieces.{field_of_pieces, first_of_row, grouped, number_of_value, numbers_of_values, piece_step, pieces_found, value_of_field, with_value, Found}
use Rattle.rz_unlay_pieces.specs.Pieces.{claim, here_at, is_stored, late_behind, number_step, seen_at, solve_all, solved_at, with_near, Here, Step}
use Rattle.rz_unlay.proofs.Claims.{claim_came, claimed_knows}
use Rattle.rz_unlay.proofs.MetBehind.{met_piece}
use Rattle.rz_unlay.proofs.ReadsTests.{and_then, both_true, if_some, mapped, neither, none_is, some_same}
use Rattle.rz_unlay.proofs.SpelledNames.{grows_then, grows_wide, Came, CameNear, Knows, NearIn, NearShort}
use Rattle.rz_unlay.proofs.SpelledNumber.{fixed_step, fixed_steps, number_came, PieceRead}
use Rattle.rz_unlay.proofs.SpelledNumber as numbers
use Rattle.rz_unlay.proofs.SpelledText.{text_came, zeros_came}
use Rattle.rz_unlay.proofs.Told.{part_of_part, same_part}

-- One after the other.

pub wide : (few many : Names) → ((key : Key) → many key ≡ false → few key ≡ false) → (names more : Environment) (at : ℕ) (late : Late) (after : ℕ) (late_after : Late) (Reads : Environment → RowSpells)
    → Came few names more at late after late_after Reads → Came many names more at late after late_after Reads
wide few many leads names more at late after late_after Reads it = record { grows = grows_wide few many leads names more it.grows; spells = it.spells }

module _ (all : List Bool) (body : PlainBody) (first : ℕ) (declared : Names) (One : Environment → Option Tree → RowSpells) (Others : Environment → List Tree → RowSpells) (value : Option Tree) (rest : List Tree)
    (names mid more : Environment) (at : ℕ) (late : Late) (between : ℕ) (late_between : Late) (after : ℕ) (late_after : Late)
    (near : (env : Environment) → IsPartOf more env → NearIn all body first env) (one : CameNear all body first declared names mid at late between late_between (λ env. One env value)) where
  -- a field, and the fields after it: what is known after them tells that its near labels have their places
  pub then_came : Came declared mid more between late_between after late_after (λ env. Others env rest) → Came declared names more at late after late_after (λ env. Then (One env) (Others env) (put value rest))
  then_came others = record {
    grows = grows_then declared names mid more one.grows others.grows;
    spells = λ env part. (
      value,
      rest,
      between,
      late_between,
      refl,
      one.spells env (part_of_part mid more env others.grows.kept part) (near env part),
      others.spells env part,
    );
  }

-- what bits tell
pub record Tells : Type 0 where
  pub read : (width number : ℕ) → number_of (number_bits width number) ≡ number % 2 ^ width
  pub written : (bits : List Bool) → number_bits (length bits) (number_of bits) ≡ bits
  pub bytes : (bits : List Bool) → length bits % 8 ≡ 0 → bits_of (bytes_of bits) ≡ bits

-- Pieces with bits.

abbrev IsLaid : Piece → Type 0
IsLaid (OneNumber number) = Unit {0}
IsLaid (OneText text) = Unit {0}
IsLaid (Zeros count) = Unit {0}
IsLaid (Filler unit) = Unit {0}
IsLaid (Place name) = ⊥

near_told : (fixed : Option Term) (passed : Passed) → (told_by fixed passed).near ≡ passed.near
near_told None passed = refl
near_told (Some term) passed = refl

near_piece : (piece : Piece) (passed : Passed) → (behind_piece piece passed).near ≡ passed.near
near_piece (OneNumber number) passed = near_told number.fixed passed
near_piece (OneText text) passed = refl
near_piece (Zeros count) passed = refl
near_piece (Filler unit) passed = refl
near_piece (Place name) passed = refl

module _ (tells : Tells) (facts : Facts) (all : List Bool) (short : length all ≤ most_bits) (outermost : Bool) (field : PlainField) (rest : PlainBody) (first : ℕ)
    (near : NearShort all (field_and field rest) first) where
  abbrev body : PlainBody
  body = field_and field rest

  abbrev here : Names → Here
  here met = here_at facts all field rest first met

  abbrev IsNearTo : Passed → Type 0
  IsNearTo passed = (key : Key) → passed.near key ≡ is_near body key

  -- what was read of a piece: so much is known after it
  abbrev CamePiece : Passed → Passed → Piece → Environment → ℕ → Late → Step → Type 0
  CamePiece passed behind piece names at late step =
      CameNear all body first (declares body) names step.names at late step.after step.late (λ env. PieceSpells plainly facts all env passed piece step.value) × Knows (is_held behind) step.names

  came_of : (piece : Piece) (passed behind : Passed) (names : Environment) (at : ℕ) (late : Late) (Is : Environment → Option Tree → List Bool → Type 0) (marking : Environment → ℕ → Late) (step : Step)
      → PieceRead all body first (declares rest) behind names at late Is marking step
      → ((env : Environment) (value : Option Tree) (bits : List Bool) → Is env value bits
      → IsStored piece facts at (sees facts all env at) value bits × plainly passed piece (sees facts all env at) value × (is_late_size passed.met late piece (sees facts all env at) ≡ false))
      → ((env : Environment) (count : ℕ) → marking env count ≡ marks passed.met late piece (sees facts all env at) count) → CamePiece passed behind piece names at late step
  came_of piece passed behind names at late Is marking step it stores marking_is =
      let ends = it.ends in
      let within = it.stand.within in
      let most : step.after ≤ most_bits = omega (arith, ends, within, short) in (
        record {
          grows = grows_wide (declares rest) (declares body) (λ key none. (neither (gives_key field key) (declares rest key) none).1) names step.names it.grows;
          spells = λ env part near_in.
              let stored = stores env step.value it.bits (it.stored env part near_in) in
              record {
                bits = it.bits;
                stored = stored.0;
                manner = stored.1;
                early = stored.2;
                there = ap (λ n. take n (drop at all)) it.stand.long ∙ it.stand.there;
                ends = it.ends ∙ ap (λ n. at + n) (sym it.stand.long);
                short = most;
                marked = it.marked env part near_in ∙ ap (λ (m : Late). late ++ m) (marking_is env (length it.bits));
              };
        },
        it.knows,
      )

  piece_came : (piece : Piece) (passed : Passed) (names : Environment) (at : ℕ) (late : Late) (step : Step) → IsLaid piece → IsNearTo passed → is_piece_read outermost rest passed piece ≡ true
      → Knows (is_held passed) names → piece_step (here passed.met) piece names at late ≡ Some step → CamePiece passed (behind_piece piece passed) piece names at late step
  piece_came (OneNumber number) passed names at late step laid near_is reads knows is =
      came_of (OneNumber number) passed (behind_piece (OneNumber number) passed) names at late _ _ step
      (number_came tells.read tells.written facts all field rest first at late passed names number.form number.width near_is near knows number.fixed step reads is)
      (λ env value bits it. (it.0, it.1, refl)) (λ env count. refl)
  piece_came (OneText text) passed names at late step laid near_is reads knows is =
      came_of (OneText text) passed passed names at late _ _ step
      (text_came (numbers.below tells.read tells.written) tells.bytes tells.read tells.written facts all field rest first at late passed names text step knows is)
      (λ env value bits it. it) (λ env count. refl)
  piece_came (Zeros count) passed names at late step laid near_is reads knows is =
      came_of (Zeros count) passed passed names at late _ _ step (zeros_came facts all field rest first at late passed names count step knows is)
      (λ env value bits it. (it, tt, refl)) (λ env many. refl)
  piece_came (Filler unit) passed names at late step laid near_is reads knows is =
      came_of (Filler unit) passed passed names at late _ _ step (zeros_came facts all field rest first at late passed names (missing unit at) step knows is)
      (λ env value bits it. (it, tt, refl)) (λ env many. refl)
  piece_came (Place name) passed names at late step laid near_is reads knows is = absurd laid

  -- Pieces in order.

  abbrev CamePieces : Passed → List Piece → Environment → ℕ → Late → Found → Type 0
  CamePieces passed pieces names at late found =
      CameNear all body first (declares body) names found.names at late found.after found.late (λ env. InOrder (PieceSpells plainly facts all env) passed pieces found.row)
      × Knows (is_held (behind_pieces pieces passed)) found.names

  and_pieces : (piece : Piece) (pieces : List Piece) (passed : Passed) (names : Environment) (at : ℕ) (late : Late) (step : Step) (inner found : Found) → CamePiece passed (behind_piece piece passed) piece names at late step
      → CamePieces (behind_piece piece passed) pieces step.names step.after step.late inner
      → record { row = put step.value inner.row; after = inner.after; names = inner.names; late = inner.late } ≡ found → CamePieces passed (piece ∷ pieces) names at late found
  and_pieces piece pieces passed names at late step inner found one others made = subst (CamePieces passed (piece ∷ pieces) names at late) made (
    record {
      grows = grows_then (declares body) names step.names inner.names one.0.grows others.0.grows;
      spells = λ env part near_in. (
        step.value,
        inner.row,
        step.after,
        step.late,
        refl,
        one.0.spells env (part_of_part step.names inner.names env others.0.grows.kept part) near_in,
        others.0.spells env part near_in,
      );
    },
    others.1,
  )

  pieces_came : (pieces : List Piece) (passed : Passed) (names : Environment) (at : ℕ) (late : Late) (found : Found) → AllByRecursion IsLaid pieces → IsNearTo passed → are_pieces_read outermost rest passed pieces ≡ true
      → Knows (is_held passed) names → pieces_found (here passed.met) pieces names at late ≡ Some found → CamePieces passed pieces names at late found
  pieces_came [] passed names at late found laid near_is reads knows is =
      subst (CamePieces passed [] names at late) (some_same (record { row = []; after = at; names = names; late = late }) found is)
      (record { grows = record { kept = same_part names; same = λ key none. refl }; spells = λ env part near_in. (refl, refl, refl) }, knows)
  pieces_came (piece ∷ pieces) passed names at late found laid near_is reads knows is =
      let each = both_true (is_piece_read outermost rest passed piece) (are_pieces_read outermost rest (behind_piece piece passed) pieces) reads in
      let one = and_then (λ step. with_value step.value (pieces_found (here passed.met) pieces step.names step.after step.late)) (piece_step (here passed.met) piece names at late) found is in
      let step : Step = one.0 in
      let more = mapped (λ f. record { row = put step.value f.row; after = f.after; names = f.names; late = f.late }) (pieces_found (here passed.met) pieces step.names step.after step.late) found one.2 in
      let inner : Found = more.0 in
      let first_piece = piece_came piece passed names at late step laid.0 near_is each.0 knows one.1 in
      let others = pieces_came pieces (behind_piece piece passed) step.names step.after step.late inner laid.1 (λ key. ap (λ (n : Names). n key) (near_piece piece passed) ∙ near_is key) each.1 first_piece.1
      (subst (λ (met : Names). pieces_found (here met) pieces step.names step.after step.late ≡ Some inner) (sym (met_piece piece passed)) more.1) in
      and_pieces piece pieces passed names at late step inner found first_piece others more.2

  -- the value of a field, and the values of its pieces
  abbrev Fits : List Tree → Type 0
  Fits row = IsGroupedFor field (value_of_field field row) × (values_for field (value_of_field field row) ≡ row)

  -- a field whose pieces have bits
  abbrev CameLaid : Passed → Environment → Late → Step → Type 0
  CameLaid passed names late step =
      CameNear all body first (declares body) names step.names first late step.after step.late (λ env. PiecesSpell plainly facts all field env passed step.value) × Knows (is_held (behind_pieces (pieces_of field) passed)) step.names

  with_pieces : (passed : Passed) (names : Environment) (late : Late) (found : Found) (step : Step) → Fits found.row → CamePieces passed (pieces_of field) names first late found
      → record { value = value_of_field field found.row; after = found.after; names = found.names; late = found.late } ≡ step → CameLaid passed names late step
  with_pieces passed names late found step fit came made = subst (CameLaid passed names late) made (
    record {
      grows = came.0.grows;
      spells = λ env part near_in. (
        fit.0,
        subst (λ (row : List Tree). InOrder (PieceSpells plainly facts all env) passed (pieces_of field) row first late found.after found.late) (sym fit.1) (came.0.spells env part near_in),
      );
    },
    came.1,
  )

  laid_came : (passed : Passed) (names : Environment) (late : Late) (step : Step) → AllByRecursion IsLaid (pieces_of field) → ((found : Found) → pieces_found (here passed.met) (pieces_of field) names first late ≡ Some found → Fits found.row)
      → IsNearTo passed → are_pieces_read outermost rest passed (pieces_of field) ≡ true → Knows (is_held passed) names → field_of_pieces (here passed.met) field names first late ≡ Some step → CameLaid passed names late step
  laid_came passed names late step laid fits near_is reads knows is =
      let it = mapped (λ f. record { value = value_of_field field f.row; after = f.after; names = f.names; late = f.late }) (pieces_found (here passed.met) (pieces_of field) names first late) step is in
      with_pieces passed names late it.0 step (fits it.0 it.1) (pieces_came (pieces_of field) passed names first late it.0 laid near_is reads knows it.1) it.2

  -- Rows of values.

  single_row : (met : Names) (piece : Piece) (names : Environment) (at : ℕ) (late : Late) (found : Found) → pieces_found (here met) (piece ∷ []) names at late ≡ Some found → option_to_list (first_of_row found.row) ≡ found.row
  single_row met piece names at late found is =
      let one = and_then (λ step. with_value step.value (pieces_found (here met) [] step.names step.after step.late)) (piece_step (here met) piece names at late) found is in
      let step : Step = one.0 in
      let same = some_same (record { row = put step.value []; after = step.after; names = step.names; late = step.late }) found one.2 in
      subst (λ (f : Found). option_to_list (first_of_row f.row) ≡ f.row) same (by step.value)
    where
      by : (value : Option Tree) → option_to_list (first_of_row (put value [])) ≡ put value []
      by None = refl
      by (Some value) = refl

  -- a number in front of others
  number_and : (n : ℕ) (step : Step) (inner found : Found) → Some (trees.Number n) ≡ step.value → map trees.Number (numbers_of_values inner.row) ≡ inner.row
      → record { row = put step.value inner.row; after = inner.after; names = inner.names; late = inner.late } ≡ found → map trees.Number (numbers_of_values found.row) ≡ found.row
  number_and n step inner found value others made =
      subst (λ (f : Found). map trees.Number (numbers_of_values f.row) ≡ f.row) made
      (subst (λ (v : Option Tree). map trees.Number (numbers_of_values (put v inner.row)) ≡ put v inner.row) value
      (λ i. trees.Number (number_of_value (trees.outs-Number n i)) ∷ others i))

  numbers_row : (met : Names) (count : ℕ) (names : Environment) (at : ℕ) (late : Late) (found : Found) → pieces_found (here met) (replicate count free_integer) names at late ≡ Some found
      → map trees.Number (numbers_of_values found.row) ≡ found.row
  numbers_row met zero names at late found is =
      subst (λ (f : Found). map trees.Number (numbers_of_values f.row) ≡ f.row) (some_same (record { row = []; after = at; names = names; late = late }) found is) refl
  numbers_row met (suc count) names at late found is =
      let one = and_then (λ step. with_value step.value (pieces_found (here met) (replicate count free_integer) step.names step.after step.late)) (piece_step (here met) free_integer names at late) found is in
      let step : Step = one.0 in
      let more = mapped (λ f. record { row = put step.value f.row; after = f.after; names = f.names; late = f.late }) (pieces_found (here met) (replicate count free_integer) step.names step.after step.late) found one.2 in
      let inner : Found = more.0 in
      let number = mapped (λ n. record { value = Some (trees.Number n); after = at + nat_abs (pos 16); names = names; late = late_behind late (nat_abs (pos 16)) false }) (number_at all at (nat_abs (pos 16))) step one.1 in
      number_and number.0 step inner found (ap (λ (s : Step). s.value) number.2) (numbers_row met count step.names step.after step.late inner more.1) more.2

  fixed_value : (seen : Here) (form : NumForm) (width : ℤ) (term : Term) (at : ℕ) (late : Late) (n : ℕ) (more : Environment) (step : Step) → fixed_step seen form width term at late n more ≡ Some step → None ≡ step.value
  fixed_value seen form width term at late n more step is =
      let it = if_some (is_stored form width (value_of term (seen_at seen more at)) n)
      (record { value = None; after = at + nat_abs width; names = more; late = late_behind late (nat_abs width) (is_late seen.met late term (seen_at seen more at)) }) step is in
      ap (λ (s : Step). s.value) it.1

  no_value : (met : Names) (form : NumForm) (width : ℤ) (term : Term) (names : Environment) (at : ℕ) (late : Late) (step : Step) → number_step (here met) form width (Some term) names at late ≡ Some step → None ≡ step.value
  no_value met form width term names at late step is =
      let one = and_then (fixed_steps (here met) form width term names at late) (number_at all at (nat_abs width)) step is in
      let n : ℕ = one.0 in
      let two = and_then (fixed_step (here met) form width term at late n) (solve_all (with_near (here met)) (λ key now. solved_at (length all) (nat_abs width) key (seen_at (here met) now at) term n) term names) step one.2 in
      fixed_value (here met) form width term at late n two.0 step two.2

  nothing_and : (step : Step) (inner found : Found) → None ≡ step.value → [] ≡ inner.row
      → record { row = put step.value inner.row; after = inner.after; names = inner.names; late = inner.late } ≡ found → [] ≡ found.row
  nothing_and step inner found value others made = others ∙ ap (λ (v : Option Tree). put v inner.row) value ∙ ap (λ (f : Found). f.row) made

  fixed_row : (met : Names) (terms : List Term) (names : Environment) (at : ℕ) (late : Late) (found : Found) → pieces_found (here met) (map fixed_integer terms) names at late ≡ Some found → [] ≡ found.row
  fixed_row met [] names at late found is = ap (λ (f : Found). f.row) (some_same (record { row = []; after = at; names = names; late = late }) found is)
  fixed_row met (term ∷ terms) names at late found is =
      let one = and_then (λ step. with_value step.value (pieces_found (here met) (map fixed_integer terms) step.names step.after step.late)) (piece_step (here met) (fixed_integer term) names at late) found is in
      let step : Step = one.0 in
      let more = mapped (λ f. record { row = put step.value f.row; after = f.after; names = f.names; late = f.late }) (pieces_found (here met) (map fixed_integer terms) step.names step.after step.late) found one.2 in
      nothing_and step more.0 found (no_value met Integer (pos 16) term names at late step one.1) (fixed_row met terms step.names step.after step.late more.0 more.1) more.2

  points_fit : (met : Names) (rect : Bool) (fixed : Option (List Term)) (names : Environment) (at : ℕ) (late : Late) (found : Found) → pieces_found (here met) (integers rect fixed) names at late ≡ Some found
      → IsGrouped fixed (grouped fixed found.row) × (map trees.Number (group_in (grouped fixed found.row)) ≡ found.row)
  points_fit met rect None names at late found is = (
    (numbers_of_values found.row, refl),
    ap (λ (ns : List ℕ). map trees.Number ns) (ap numbers_of_group (trees.outs-Group (numbers_of_values found.row))) ∙ numbers_row met (numbers_of rect) names at late found is,
  )
  points_fit met rect (Some terms) names at late found is = (refl, fixed_row met terms names at late found is)

-- The pieces of points have bits.

frees_laid : (count : ℕ) → AllByRecursion IsLaid (replicate count free_integer)
frees_laid zero = tt
frees_laid (suc count) = (tt, frees_laid count)

fixed_laid : (terms : List Term) → AllByRecursion IsLaid (map fixed_integer terms)
fixed_laid [] = tt
fixed_laid (term ∷ terms) = (tt, fixed_laid terms)

points_laid : (rect : Bool) (fixed : Option (List Term)) → AllByRecursion IsLaid (integers rect fixed)
points_laid rect None = frees_laid (numbers_of rect)
points_laid rect (Some terms) = fixed_laid terms

-- A label.

no_marks : (late : Late) → late ≡ late ++ []
no_marks [] = refl
no_marks (mark ∷ late) = ap (λ (l : Late). mark ∷ l) (no_marks late)

label_found : (at : ℕ) (late : Late) (claimed : Option Environment) (step : Step)
    → option_map (λ (f : Found). record { value = first_of_row f.row; after = f.after; names = f.names; late = f.late })
    (option_and_then (λ (s : Step). with_value s.value (Some (record { row = []; after = s.after; names = s.names; late = s.late }))) (option_map (λ (more : Environment). record { value = None; after = at; names = more; late = late }) claimed)) ≡ Some step
    → (more : Environment) × (claimed ≡ Some more) × (record { value = None; after = at; names = more; late = late } ≡ step)
label_found at late None step is = absurd (none_is step is)
label_found at late (Some more) step is = (more, refl, some_same (record { value = None; after = at; names = more; late = late }) step is)

-- Fields.

abbrev pub IsOfPieces : PlainField → Type 0
IsOfPieces (Number number) = Unit {0}
IsOfPieces (Text text) = Unit {0}
IsOfPieces (Points points) = Unit {0}
IsOfPieces (Fill unit count) = Unit {0}
IsOfPieces (Align unit) = Unit {0}
IsOfPieces (Label name) = Unit {0}
IsOfPieces (Array name count row) = ⊥
IsOfPieces (Switch cases) = ⊥

module _ (tells : Tells) (facts : Facts) (all : List Bool) (short : length all ≤ most_bits) (outermost : Bool) where
  abbrev CameField : PlainField → PlainBody → Passed → Environment → ℕ → Late → Step → Type 0
  CameField field rest passed names at late step =
      CameNear all (field_and field rest) at (declares (field_and field rest)) names step.names at late step.after step.late (λ env. PiecesSpell plainly facts all field env passed step.value)
      × Knows (is_held (behind field passed)) step.names

  label_came : (name : Word) (rest : PlainBody) (passed : Passed) (names : Environment) (at : ℕ) (late : Late) (step : Step) → at ≤ length all → Knows (is_held passed) names
      → field_of_pieces (here_at facts all (Label name) rest at passed.met) (Label name) names at late ≡ Some step → CameField (Label name) rest passed names at late step
  label_came name rest passed names at late step within knows is =
      let it = label_found at late (claim (place_key name.bytes) (pos at) names) step is in
      by it.0 it.1 it.2
    where
      spelled : (more : Environment) → more.give (place_key name.bytes) ≡ Some (pos at) → (env : Environment) → IsPartOf more env → PieceSpells plainly facts all env passed (Place name) None at late at late
      spelled more has env part = record {
        bits = [];
        stored = (refl, part.give (place_key name.bytes) (pos at) has, refl);
        manner = tt;
        early = refl;
        there = refl;
        ends = omega arith;
        short = omega (arith, within, short);
        marked = no_marks late;
      }

      by : (more : Environment) → claim (place_key name.bytes) (pos at) names ≡ Some more → record { value = None; after = at; names = more; late = late } ≡ step → CameField (Label name) rest passed names at late step
      by more claimed same =
          let it = claim_came (place_key name.bytes) (pos at) names more claimed in
          subst (CameField (Label name) rest passed names at late) same (
            record {
              grows = record { kept = it.kept; same = λ key none. it.same key (neither (stands_at name.bytes key) (declares rest key) none).0 };
              spells = λ env part near_in. (tt, (None, [], at, late, refl, spelled more (it.has (place_key name.bytes) (key_itself (place_key name.bytes))) env part, (refl, refl, refl)));
            },
            claimed_knows (place_key name.bytes) (pos at) passed names more knows it,
          )

  pub field_pieces : (field : PlainField) (rest : PlainBody) (passed : Passed) (names : Environment) (at : ℕ) (late : Late) (step : Step) → IsOfPieces field
      → ((key : Key) → passed.near key ≡ is_near (field_and field rest) key) → NearShort all (field_and field rest) at → at ≤ length all
      → are_pieces_read outermost rest passed (pieces_of field) ≡ true → Knows (is_held passed) names
      → field_of_pieces (here_at facts all field rest at passed.met) field names at late ≡ Some step → CameField field rest passed names at late step
  field_pieces (Number number) rest passed names at late step pieces near_is near within reads knows is =
      laid_came tells facts all short outermost (Number number) rest at near passed names late step (tt, tt)
      (λ found so. (tt, single_row tells facts all short outermost (Number number) rest at near passed.met (OneNumber number) names at late found so)) near_is reads knows is
  field_pieces (Text text) rest passed names at late step pieces near_is near within reads knows is =
      laid_came tells facts all short outermost (Text text) rest at near passed names late step (tt, tt)
      (λ found so. (tt, single_row tells facts all short outermost (Text text) rest at near passed.met (OneText text) names at late found so)) near_is reads knows is
  field_pieces (Points points) rest passed names at late step pieces near_is near within reads knows is =
      laid_came tells facts all short outermost (Points points) rest at near passed names late step (points_laid points.rect points.fixed)
      (λ found so. points_fit tells facts all short outermost (Points points) rest at near passed.met points.rect points.fixed names at late found so) near_is reads knows is
  field_pieces (Fill unit count) rest passed names at late step pieces near_is near within reads knows is =
      laid_came tells facts all short outermost (Fill unit count) rest at near passed names late step (tt, tt)
      (λ found so. (tt, single_row tells facts all short outermost (Fill unit count) rest at near passed.met (Zeros (unit * nat_abs count)) names at late found so)) near_is reads knows is
  field_pieces (Align unit) rest passed names at late step pieces near_is near within reads knows is =
      laid_came tells facts all short outermost (Align unit) rest at near passed names late step (tt, tt)
      (λ found so. (tt, single_row tells facts all short outermost (Align unit) rest at near passed.met (Filler unit) names at late found so)) near_is reads knows is
  field_pieces (Label name) rest passed names at late step pieces near_is near within reads knows is = label_came name rest passed names at late step within knows is
  field_pieces (Array name count row) rest passed names at late step pieces near_is near within reads knows is = absurd pieces
  field_pieces (Switch cases) rest passed names at late step pieces near_is near within reads knows is = absurd pieces
