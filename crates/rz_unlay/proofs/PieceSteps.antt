-- Pieces of a field, one more at a time.
use Rattle.std.proofs.Common.{◌≡◌, ℕ, zero, suc, ◌+◌, ◌-◌, ◌*◌, ◌<◌, ◌≤◌, false, ℤ, List, [], ◌∷◌, ◌++◌, length, get_or, map, drop, Option, Some, None, refl, sym, ap, ◌∙◌, append_assoc, arith}
use Rattle.std.specs.Prelude.{nat_abs, option_and_then, option_map, replicate}
use Rattle.std.proofs.lemmas.List.{append-nil, drop_all, drop_more, map-append}
use Rattle.rz_core.specs.declared.resource.Word.{Word}
use Rattle.rz_bits.specs.BitBuf.{missing}
use Rattle.rz_bits.specs.View.{number_at}
use Rattle.rz_expr.specs.Environment.{Environment}
use Rattle.rz_expr.specs.Term.{term_of}
use Rattle.rz_expr.specs.declared.expr.Expr.{Expr}
use Rattle.rz_types_fields.specs.Field.{Align, Fill, Label, Number, PlainNumber, PlainText, Text}
use Rattle.rz_types_fields.specs.Sees.{Late}
use Rattle.rz_types_fields.specs.Piece.{fixed_integer, free_integer}
use Rattle.rz_types_fields.specs.declared.tree.Tree.{Tree}
use Rattle.rz_types_fields.specs.declared.tree.Tree.TheVariants as trees
use Rattle.rz_types_fields.specs.Spells.{put}
use Rattle.rz_unlay.specs.Pieces.{field_of_pieces, first_of_row, grouped, number_of_value, numbers_of_values, piece_step, pieces_found, text_step, with_value, Found}
use Rattle.rz_unlay.specs.Points.{behind_numbers, fixed_read, group_read}
use Rattle.rz_unlay_pieces.specs.Pieces.{label_step, late_behind, number_step, zeros_step, Here, Step}
use Rattle.rz_unlay_pieces.proofs.Marking.{late_more}

-- A field of one piece.

abbrev alone : Option Step → Option Step
alone step =
    option_map (λ f. record { value = first_of_row f.row; after = f.after; names = f.names; late = f.late })
    (option_and_then (λ s. with_value s.value (Some (record { row = []; after = s.after; names = s.names; late = s.late }))) step)

alone_is : (step : Option Step) → alone step ≡ step
alone_is None = refl
alone_is (Some s) = ap (λ (v : Option Tree). Some (record { value = v; after = s.after; names = s.names; late = s.late })) (first_put s.value)
  where
    first_put : (value : Option Tree) → first_of_row (put value []) ≡ value
    first_put None = refl
    first_put (Some value) = refl

module _ (here : Here) (names : Environment) (at : ℕ) (late : Late) where
  pub number_alone : (number : PlainNumber) → field_of_pieces here (Number number) names at late ≡ number_step here number.form number.width number.fixed names at late
  number_alone number = alone_is (number_step here number.form number.width number.fixed names at late)

  pub text_alone : (text : PlainText) → field_of_pieces here (Text text) names at late ≡ text_step here text names at late
  text_alone text = alone_is (text_step here text names at late)

  pub fill_alone : (unit : ℕ) (count : ℤ) → field_of_pieces here (Fill unit count) names at late ≡ zeros_step here.all (unit * nat_abs count) names at late
  fill_alone unit count = alone_is (zeros_step here.all (unit * nat_abs count) names at late)

  pub align_alone : (unit : ℕ) → field_of_pieces here (Align unit) names at late ≡ zeros_step here.all (missing unit at) names at late
  align_alone unit = alone_is (zeros_step here.all (missing unit at) names at late)

  pub label_alone : (name : Word) → field_of_pieces here (Label name) names at late ≡ label_step name names at late
  label_alone name = alone_is (label_step name names at late)

-- Numbers of a point or a rectangle.

pub numbers_back : (numbers : List ℕ) → numbers_of_values (map trees.Number numbers) ≡ numbers
numbers_back [] = refl
numbers_back (n ∷ numbers) = λ i. ap number_of_value (trees.outs-Number n) i ∷ numbers_back numbers i

module _ (here : Here) (names : Environment) where
  abbrev pub group_found : ℕ → ℕ → Late → Option Found
  group_found count at late = pieces_found here (replicate count free_integer) names at late

  abbrev behind_number : ℕ → Step → Option Found
  behind_number count step = with_value step.value (pieces_found here (replicate count free_integer) step.names step.after step.late)

  abbrev one_number : ℕ → Late → ℕ → Step
  one_number at late n = record { value = Some (trees.Number n); after = at + 16; names = names; late = late_behind late 16 false }

  behind_more : (numbers : List ℕ) (n : ℕ) (found : Option Found) → behind_numbers (numbers ++ n ∷ []) found ≡ behind_numbers numbers (with_value (Some (trees.Number n)) found)
  behind_more numbers n None = refl
  behind_more numbers n (Some f) =
      ap (λ r. Some (record { row = r; after = f.after; names = f.names; late = f.late }))
      (ap (λ ts. ts ++ f.row) (map-append trees.Number numbers (n ∷ [])) ∙ append_assoc (map trees.Number numbers) (trees.Number n ∷ []) f.row)

  pub group_start : (late : Late) (count at : ℕ) → behind_numbers [] (group_found (count - 0) at (late_behind late (16 * 0) false)) ≡ group_found count at late
  group_start late count at =
      let e : count - 0 ≡ count = omega arith in
      none_before (group_found (count - 0) at (late_behind late 0 false)) ∙ (λ i. group_found (e i) at (append-nil late i))
    where
      none_before : (found : Option Found) → behind_numbers [] found ≡ found
      none_before None = refl
      none_before (Some f) = refl

  pub group_more : (late : Late) (numbers : List ℕ) (count at turn n : ℕ) (total : Option Found) → 0 < count → Some n ≡ number_at here.all at 16
      → behind_numbers numbers (group_found count at (late_behind late (16 * turn) false)) ≡ total
      → behind_numbers (numbers ++ n ∷ []) (group_found (count - 1) (at + 16) (late_behind late (16 * (turn + 1)) false)) ≡ total
  group_more late numbers zero at turn n total some is so = absurd (omega arith)
  group_more late numbers (suc count) at turn n total some is so =
      let e : suc count - 1 ≡ count = omega arith in
      let f : 16 * (turn + 1) ≡ 16 * turn + 16 = omega arith in
      let mid = late_behind late (16 * turn) false in
      ap (λ k. behind_numbers (numbers ++ n ∷ []) (group_found k (at + 16) (late_behind late (16 * (turn + 1)) false))) e
      ∙ ap (λ (marks : Late). behind_numbers (numbers ++ n ∷ []) (group_found count (at + 16) marks)) (ap (λ k. late_behind late k false) f ∙ sym (late_more late (16 * turn) 16 false))
      ∙ behind_more numbers n (group_found count (at + 16) (late_behind mid 16 false))
      ∙ ap (λ (o : Option ℕ). behind_numbers numbers (option_and_then (behind_number count) (option_map (one_number at mid) o))) is
      ∙ so

  pub no_group : (late : Late) (numbers : List ℕ) (count at : ℕ) (total : Option Found) → 0 < count → None ≡ number_at here.all at 16
      → behind_numbers numbers (group_found count at late) ≡ total → None ≡ total
  no_group late numbers zero at total some is so = absurd (omega arith)
  no_group late numbers (suc count) at total some is so =
      ap (λ (o : Option ℕ). behind_numbers numbers (option_and_then (behind_number count) (option_map (one_number at late) o))) is
      ∙ so

  pub group_over : (late : Late) (numbers : List ℕ) (count at : ℕ) (total : Option Found) → count ≡ 0
      → behind_numbers numbers (group_found count at late) ≡ total
      → Some (record { row = map trees.Number numbers; after = at; names = names; late = late }) ≡ total
  group_over late numbers zero at total none so = ap (λ r. Some (record { row = r; after = at; names = names; late = late })) (sym (append-nil (map trees.Number numbers))) ∙ so
  group_over late numbers (suc count) at total none so = absurd (omega arith)

  pub grouped_is : (late late_after : Late) (count at after : ℕ) (numbers : List ℕ)
      → Some (record { row = map trees.Number numbers; after = after; names = names; late = late_after }) ≡ group_found count at late
      → Some (record { value = Some (trees.Group numbers); after = after; names = names; late = late_after }) ≡ group_read here count names at late
  grouped_is late late_after count at after numbers is =
      ap (λ ns. Some (record { value = Some (trees.Group ns); after = after; names = names; late = late_after })) (sym (numbers_back numbers))
      ∙ ap (option_map (λ f. record { value = grouped None f.row; after = f.after; names = f.names; late = f.late })) is

  pub not_grouped : (late : Late) (count at : ℕ) → None ≡ group_found count at late → None ≡ group_read here count names at late
  not_grouped late count at is = ap (option_map (λ f. record { value = grouped None f.row; after = f.after; names = f.names; late = f.late })) is

-- Numbers with fixed values.

module _ (here : Here) (exprs : List Expr) where
  abbrev pub exprs_found : ℕ → Environment → ℕ → Late → Option Found
  exprs_found i names at late = pieces_found here (map fixed_integer (map term_of (drop i exprs))) names at late

  module _ (i : ℕ) (expr : Expr) (less : i < length exprs) (item : expr ≡ get_or exprs i expr) (names : Environment) (at : ℕ) (late : Late) (total : Option Found)
      (so : exprs_found i names at late ≡ total) where
    abbrev behind_expr : Step → Option Found
    behind_expr step = with_value step.value (exprs_found (i + 1) step.names step.after step.late)

    expr_is : option_and_then behind_expr (piece_step here (fixed_integer (term_of expr)) names at late) ≡ total
    expr_is =
        ap (λ e. option_and_then behind_expr (piece_step here (fixed_integer (term_of e)) names at late)) item
        ∙ ap (λ es. pieces_found here (map fixed_integer (map term_of es)) names at late) (sym (drop_more exprs i expr less))
        ∙ so

    pub expr_more : (value : Option Tree) (after : ℕ) (more : Environment) (late_after : Late) → value ≡ None
        → Some (record { value = value; after = after; names = more; late = late_after }) ≡ piece_step here (fixed_integer (term_of expr)) names at late
        → exprs_found (i + 1) more after late_after ≡ total
    expr_more value after more late_after none is =
        plain (exprs_found (i + 1) more after late_after)
        ∙ ap (λ (v : Option Tree). with_value v (exprs_found (i + 1) more after late_after)) (sym none)
        ∙ ap (option_and_then behind_expr) is ∙ expr_is
      where
        plain : (o : Option Found) → o ≡ with_value None o
        plain None = refl
        plain (Some f) = refl

    pub no_expr : None ≡ piece_step here (fixed_integer (term_of expr)) names at late → None ≡ total
    no_expr is = ap (option_and_then behind_expr) is ∙ expr_is

  pub no_exprs : (names : Environment) (at : ℕ) (late : Late) → None ≡ exprs_found 0 names at late → None ≡ fixed_read here (map term_of exprs) names at late
  no_exprs names at late is = ap (option_map (λ f. record { value = grouped (Some (map term_of exprs)) f.row; after = f.after; names = f.names; late = f.late })) is

  pub exprs_over : (i : ℕ) → length exprs ≤ i → (more names : Environment) (after at : ℕ) (late_after late : Late)
      → exprs_found i more after late_after ≡ exprs_found 0 names at late
      → Some (record { value = None; after = after; names = more; late = late_after }) ≡ fixed_read here (map term_of exprs) names at late
  exprs_over i past more names after at late_after late so =
      ap (option_map (λ f. record { value = grouped (Some (map term_of exprs)) f.row; after = f.after; names = f.names; late = f.late }))
      (ap (λ (es : List Expr). pieces_found here (map fixed_integer (map term_of es)) more after late_after) (sym (drop_all i exprs past)) ∙ so)
