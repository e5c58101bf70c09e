-- A field of one piece.
use Rattle.std.proofs.Common.{◌≡◌, ℕ, Bool, List, [], ◌∷◌, Option, sym, ap, ◌∙◌, subst}
use Rattle.rz_core.specs.declared.facts.Facts.{Facts}
use Rattle.rz_expr.specs.Environment.{Environment}
use Rattle.rz_types_fields.specs.declared.tree.Tree.{Tree}
use Rattle.rz_types_fields.specs.Passed.{Passed}
use Rattle.rz_types_fields.specs.Piece.{Piece}
use Rattle.rz_types_fields.specs.Spells.{plainly, put, InOrder, PieceSpells}

-- one piece alone
pub record Single (known : Facts) (all : List Bool) (env : Environment) (passed : Passed) (piece : Piece) (values : List Tree) (at : ℕ) (late : List Bool) (after : ℕ) (late_after : List Bool) : Type 0 where
  pub value : Option Tree
  pub are : values ≡ put value []
  pub spelled : PieceSpells plainly known all env passed piece value at late after late_after

pub single : (known : Facts) (all : List Bool) (env : Environment) (passed : Passed) (piece : Piece) (values : List Tree) (at : ℕ) (late : List Bool) (after : ℕ) (late_after : List Bool)
    → InOrder (PieceSpells plainly known all env) passed (piece ∷ []) values at late after late_after → Single known all env passed piece values at late after late_after
single known all env passed piece values at late after late_after it = record {
  value = it.0;
  are = it.4 ∙ ap (put it.0) it.6.0;
  spelled = subst (λ (m : ℕ). PieceSpells plainly known all env passed piece it.0 at late m late_after) (sym it.6.1)
      (subst (λ (marks : List Bool). PieceSpells plainly known all env passed piece it.0 at late it.2 marks) (sym it.6.2) it.5);
}
