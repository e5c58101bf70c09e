-- The lines of statements are short.
use Rattle.std.proofs.Common.{◌≡◌, ℕ, ◌≤◌, Bool, true, List, length, arith}
use Rattle.std.specs.Prelude.{ℤ, codes, FitsSigned}
use Rattle.std.specs.Int.{w16}
use Rattle.std.specs.List.{AllByRecursion}
use Rattle.rz_core.proofs.Lists.{all_append}
use Rattle.rz_core.specs.declared.facts.Facts.{Facts}
use Rattle.rz_types_fields.specs.declared.tree.Tree.{Tree}
use Rattle.rz_types_fields.specs.Row.{IsRow}
use Rattle.rz_types.specs.Field.{PlainBody}
use Rattle.rz_types.specs.Kept.{IsKept}
use Rattle.rz_types.specs.Shape.{is_well_shaped}
use Rattle.rz_show.specs.Head.{head_lines}
use Rattle.rz_show_lines.specs.Cut.{IsShort}
use Rattle.rz_show_lines.specs.Print.{list_lines, Prints}
use Rattle.rz_show.specs.Statement.{close_lines, data_items, data_lines, row_items, row_lines, statement_lines}
use Rattle.rz_show.proofs.ShortHeads.{head_short, text_few}
use Rattle.rz_show_lines.proofs.ShortItems.{list_short, AreBrief}
use Rattle.rz_show.proofs.ShortRows.{row_brief}

statement_short : (word : List ℕ) (code : ℕ) (id : ℤ) (name : List ℕ) (attr : ℕ) (items : Prints) → length word ≤ 8 → FitsSigned w16 id → AreBrief items
    → AllByRecursion IsShort (statement_lines word code id name attr items)
unfolding statement_lines
statement_short word code id name attr items few fits brief =
    all_append IsShort (head_lines word code id name attr) _ (head_short word code id name attr few fits)
    (all_append IsShort (list_lines 1 items) close_lines (list_short 1 items brief) (omega arith, (omega arith, tt)))

pub data_short : (facts : Facts) (bytes : List ℕ) → FitsSigned w16 facts.id → AllByRecursion IsShort (data_lines facts bytes)
data_short facts bytes fits =
    statement_short (codes "data") facts.kind.code facts.id facts.name facts.attr (data_items bytes) (omega arith) fits (text_few true bytes, tt)

pub row_short : (hidden : List ℕ → Bool) (facts : Facts) (body : PlainBody) (row : List Tree) → FitsSigned w16 facts.id → is_well_shaped body ≡ true → IsKept body → IsRow body row
    → AllByRecursion IsShort (row_lines hidden facts body row)
row_short hidden facts body row fits shaped kept is =
    statement_short (codes "resource") facts.kind.code facts.id facts.name facts.attr (row_items hidden body row) (omega arith) fits (row_brief hidden body row shaped kept is)
