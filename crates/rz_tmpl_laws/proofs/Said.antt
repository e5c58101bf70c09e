-- What the fields of kept entries spell is said.
use Rattle.std.proofs.Common.{◌≡◌, ℕ, zero, suc, ◌+◌, ◌*◌, ◌^◌, ◌<◌, ◌≤◌, pos, Bool, true, false, List, [], ◌∷◌, length, Option, Some, None, refl, sym, ap, subst, ◌∙◌, arith}
use Rattle.rz_bits.specs.Bits.{bits_of}
use Rattle.rz_core.specs.Numbers.{be}
use Rattle.rz_core.specs.declared.facts.Facts.{Facts}
use Rattle.rz_expr.specs.Environment.{Environment}
use Rattle.rz_tmpl.proofs.Closed.{list_key, plain_held}
use Rattle.rz_tmpl.proofs.Kept.{listed, no, no_more}
use Rattle.rz_tmpl.specs.Body.{body_from, count_field, field_of, list_name, lists_of, next_named}
use Rattle.rz_tmpl.specs.Entry.{takes}
use Rattle.rz_tmpl.specs.Items.{count, is_kept, list, none, one, waits, Items}
use Rattle.rz_tmpl.specs.declared.entry.ListForm.TheVariants.{Counted, Uncounted}
use Rattle.rz_tmpl_laws.proofs.Bytes.{AreSmall}
use Rattle.rz_tmpl_laws.proofs.Counted.{count_of, others_are, shape_of}
use Rattle.rz_tmpl_laws.proofs.Names.{count_held, front_held, known_at, list_held, next_in, Fresh}
use Rattle.rz_tmpl_laws.proofs.Pieces.{piece_of}
use Rattle.rz_tmpl_laws.specs.Says.{rows_ahead, rows_first, rows_of, stored_count, BodySays, IsThere, RowsSay}
use Rattle.rz_types_fields.specs.Field.{Array, PlainBody}
use Rattle.rz_types_fields.specs.Passed.{at_field, at_front, behind, Passed}
use Rattle.rz_types_fields.specs.RowLabels.{row_of}
use Rattle.rz_types_fields.specs.Sees.{Late}
use Rattle.rz_types_fields.specs.Spells.{plainly, put, BodySpells, Inside, RowSpells, RowsSpell}
use Rattle.rz_types_fields.specs.declared.tree.Tree.{Tree}
use Rattle.rz_types_fields.specs.declared.tree.Tree.TheVariants as trees

pub rows_are : (value : Option Tree) (rows : List (List Tree)) (row rest : List Tree) → value ≡ Some (trees.Rows rows) → row ≡ put value rest → rows_first row ≡ length rows
rows_are value rows row rest some whole = ap rows_first (whole ∙ ap (λ (v : Option Tree). put v rest) some) ∙ ap rows_of (trees.outs-Rows rows)

module _ (known : Facts) (bytes : List ℕ) (small : AreSmall bytes) where
  abbrev Body : PlainBody → Environment → Passed → List Tree → RowSpells
  Body body names passed row = BodySpells plainly known (bits_of bytes) body names passed row

  -- the names give the list that a count waits for its rows
  ahead_given : (left k : ℕ) (items : Items) (names : Environment) (passed : Passed) (row : List Tree) (at : ℕ) (late : Late) (after : ℕ) (late_after : Late)
      → is_kept left true items ≡ true → waits true items ≡ false → Body (body_from k items) names passed row at late after late_after
      → names.give (list_key (next_named k items)) ≡ Some (pos (rows_ahead items row))
  ahead_given left k none names passed row at late after late_after kept ends is = no_more ends
  ahead_given left k (one entry rest) names passed row at late after late_after kept ends (value, r, mid, late_mid, whole, this, others) =
      let shape = shape_of known bytes entry names _ value at late mid late_mid this in
      ahead_given left k rest names _ r mid late_mid after late_after kept ends others
      ∙ ap (λ (x : List Tree). Some (pos (rows_ahead rest x))) (sym (others_are (takes entry) value row r shape whole))
  ahead_given left k (count less rest) names passed row at late after late_after kept ends is = no kept
  ahead_given zero k (list form inner rest) names passed row at late after late_after kept ends is = no kept
  ahead_given (suc left) k (list Counted inner rest) names passed row at late after late_after kept ends (value, r, mid, late_mid, whole, (rows, some, stated, counted, are, lines), others) =
      counted ∙ ap (λ (n : ℕ). Some (pos n)) (sym (rows_are value rows row r some whole))
  ahead_given (suc left) k (list Uncounted inner rest) names passed row at late after late_after kept ends (value, r, mid, late_mid, whole, (rows, some, stated, counted, are, lines), others) =
      ahead_given (suc left) (k + lists_of inner) rest names _ r mid late_mid after late_after (listed left Uncounted true inner rest kept).others ends others
      ∙ ap (λ (x : List Tree). Some (pos (rows_ahead rest x))) (sym (others_are true value row r (trees.Rows rows, some) whole))

  abbrev Says : Items → List Tree → ℕ → ℕ → Type 0
  Says items row place after = (next : ℕ) × (after ≡ 8 * next) × BodySays bytes items row place next

  rows_said : (inner : Items) (Row : ℕ → List Tree → RowSpells)
      → ((number : ℕ) (line : List Tree) (place : ℕ) (late : Late) (after : ℕ) (late_after : Late) → Row number line (8 * place) late after late_after → Says inner line place after)
      → (rows : List (List Tree)) (number place : ℕ) (late : Late) (after : ℕ) (late_after : Late) → RowsSpell Row number rows (8 * place) late after late_after
      → (next : ℕ) × (after ≡ 8 * next) × RowsSay (BodySays bytes inner) rows place next
  rows_said inner Row turn [] number place late after late_after (ends, marked) = (place, ends, refl)
  rows_said inner Row turn (line ∷ rows) number place late after late_after (mid, late_mid, this, others) =
      let first = turn number line place late mid late_mid this in
      let more = rows_said inner Row turn rows (number + 1) first.0 late_mid after late_after
      (subst (λ (m : ℕ). RowsSpell Row (number + 1) rows m late_mid after late_after) first.1 others) in
      (more.0, more.1, (first.0, first.2, more.2))

  pub said : (left k : ℕ) (w : Bool) (items : Items) (names : Environment) (passed : Passed) (row : List Tree) (place : ℕ) (late : Late) (after : ℕ) (late_after : Late)
      → is_kept left w items ≡ true → waits w items ≡ false → k + lists_of items ≤ 2 ^ 64 → Fresh k w items passed
      → Body (body_from k items) names passed row (8 * place) late after late_after → Says items row place after
  said left k w none names passed row place late after late_after kept ends few fresh (empty, end, marked) = (place, end, (empty, refl))
  said left k w (one entry rest) names passed row place late after late_after kept ends few fresh (value, r, mid, late_mid, whole, this, others) =
      let body = body_from k (one entry rest) in
      let here = at_field body passed in
      let next = behind (field_of entry) here in
      let first = piece_of known bytes small entry names here value place late mid late_mid this in
      let more = said left k w rest names next r first.2.0 late_mid after late_after kept ends few
      (λ j low high apart. plain_held entry body passed (list_key j) ∙ fresh j low high apart)
      (subst (λ (m : ℕ). Body (body_from k rest) names next r m late_mid after late_after) first.2.1 others) in
      (more.0, more.1, (value, r, first.0, first.2.0, whole, first.1, first.2.2, more.2))
  said left k true (count less rest) names passed row place late after late_after kept ends few fresh is = no kept
  said left k false (count less rest) names passed row place late after late_after kept ends few fresh (value, r, mid, late_mid, whole, this, others) =
      let n = next_named k rest in
      let body = body_from k (count less rest) in
      let here = at_field body passed in
      let next = behind (count_field less n) here in
      let within = next_in left k rest kept ends in
      let high = within.high in
      let rows = rows_ahead rest r in
      let given = ahead_given left k rest names next r mid late_mid after late_after kept ends others in
      let first = count_of known bytes small less n rows names given here value place late mid late_mid (known_at k (count less rest) passed n (fresh n within.low within.high (λ wrong is. no wrong))) this in
      let same : row ≡ r = whole ∙ ap (λ (v : Option Tree). put v r) first.0 in
      let more = said left k true rest names next r first.2.0 late_mid after late_after kept ends few
      (λ j low up apart. count_held less n body passed j (omega (arith, high, few)) (omega (arith, up, few)) (apart refl) (fresh j low up (λ wrong is. no wrong)))
      (subst (λ (m : ℕ). Body (body_from k rest) names next r m late_mid after late_after) first.2.1 others) in (
        more.0,
        more.1,
        subst (λ (x : List Tree). (next : ℕ) × (rows_ahead rest x ≤ 65535) × IsThere bytes place (be 2 (stored_count less (rows_ahead rest x))) next × BodySays bytes rest x next more.0) (sym same)
            (first.2.0, first.1, first.2.2, more.2),
      )
  said zero k w (list form inner rest) names passed row place late after late_after kept ends few fresh is = no kept
  said (suc left) k w (list Counted inner rest) names passed row place late after late_after kept ends few fresh (value, r, mid, late_mid, whole, (rows, some, stated, counted, are, lines), others) =
      let is = listed left Counted w inner rest kept in
      let body = body_from k (list Counted inner rest) in
      let here = at_field body passed in
      let own = body_from (k + 1) inner in
      let array = Array (Some (list_name k)) None own in
      let first = rows_said inner (λ number line. Inside own (row_of (Some (list_name k)) number) names (λ env. Body own env (at_front own here) line))
      (λ number line p l a b inside. said left (k + 1) false inner inside.0 (at_front own here) line p l a b is.inside is.ends (omega (arith, few))
      (λ j low high apart. front_held (k + 1) inner here j (fresh j (omega (arith, low)) (omega (arith, high)) (λ t equal. absurd (omega (arith, low, equal))))) inside.2)
      rows 1 place late mid late_mid lines in
      let next = behind array here in
      let more = said (suc left) (k + 1 + lists_of inner) false rest names next r first.0 late_mid after late_after is.others ends (omega (arith, few))
      (λ j low high apart. list_held k own body passed j (omega (arith, few)) (omega (arith, high, few)) (λ equal. absurd (omega (arith, low, equal)))
      (fresh j (omega (arith, low)) (omega (arith, high)) (λ t equal. absurd (omega (arith, low, equal)))))
      (subst (λ (m : ℕ). Body (body_from (k + 1 + lists_of inner) rest) names next r m late_mid after late_after) first.1 others) in
      (more.0, more.1, (rows, r, first.0, whole ∙ ap (λ (v : Option Tree). put v r) some, first.2, more.2))
  said (suc left) k w (list Uncounted inner rest) names passed row place late after late_after kept ends few fresh (value, r, mid, late_mid, whole, (rows, some, stated, counted, are, lines), others) =
      let is = listed left Uncounted w inner rest kept in
      let body = body_from k (list Uncounted inner rest) in
      let here = at_field body passed in
      let own = body_from k inner in
      let array = Array None None own in
      let first = rows_said inner (λ number line. Inside own (row_of None number) names (λ env. Body own env (at_front own here) line))
      (λ number line p l a b inside. said left k false inner inside.0 (at_front own here) line p l a b is.inside is.ends (omega (arith, few))
      (λ j low high apart. front_held k inner here j (fresh j low (omega (arith, high)) (outside w is.others ends j high))) inside.2)
      rows 1 place late mid late_mid lines in
      let next = behind array here in
      let more = said (suc left) (k + lists_of inner) w rest names next r first.0 late_mid after late_after is.others ends (omega (arith, few))
      (λ j low high apart. fresh j (omega (arith, low)) (omega (arith, high)) apart)
      (subst (λ (m : ℕ). Body (body_from (k + lists_of inner) rest) names next r m late_mid after late_after) first.1 others) in
      (more.0, more.1, (rows, r, first.0, whole ∙ ap (λ (v : Option Tree). put v r) some, first.2, more.2))
    where
      outside : (w : Bool) → is_kept (suc left) w rest ≡ true → waits w rest ≡ false → (j : ℕ) → j < k + lists_of inner → w ≡ true → j ≡ next_named (k + lists_of inner) rest → ⊥
      outside true kept ends j high t equal = let deep = next_in (suc left) (k + lists_of inner) rest kept ends in let low = deep.low in omega (arith, high, equal, low)
      outside false kept ends j high t equal = no t
