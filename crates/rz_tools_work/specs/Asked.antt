-- Which file a statement over lists of resources names, by its name in Mac Roman. (MPW Rez.)
use Rattle.std.specs.Prelude.{◌≡◌, ℕ, List}
use Rattle.rz_stmt_lists.specs.Lists.{Changes, Deletes, Includes, ListForm, Reads}

abbrev pub ListAsks : ListForm → List ℕ → Type 0
ListAsks (Includes one) own = own ≡ one.file
ListAsks (Reads one) own = own ≡ one.file
ListAsks (Changes one) own = ⊥
ListAsks (Deletes one) own = ⊥
