use Rattle.std.proofs.Common.{◌≡◌, Some, sym, ◌∙◌}
use Rattle.rz_unlay.proofs.found.one_plain_row.Goals as goal

some_same : {A : Type 0} (x y : A) → Some x ≡ Some y → x ≡ y
some_same x y is = cc

pub returns : goal.returns
returns c = λ known body row other bytes shaped keeps reads one two.
    some_same row other (sym (c.plain_rows_are_read.ensures known body row bytes shaped keeps reads one) ∙ c.plain_rows_are_read.ensures known body other bytes shaped keeps reads two)
