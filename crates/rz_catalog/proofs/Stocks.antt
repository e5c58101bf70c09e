-- A list of resources has exactly one stock.
use Rattle.std.proofs.Common.{◌≡◌, ℕ, List, [], ◌∷◌, Option, refl, sym, ap, ◌∙◌}
use Rattle.rz_core.proofs.EveryCut.{one_answer}
use Rattle.rz_core.specs.Decided.{Decided}
use Rattle.rz_core.specs.declared.facts.Facts.{Facts}
use Rattle.rz_core.specs.declared.moment.Moment.{Moment}
use Rattle.rz_core.specs.declared.resource.Resource.{Resource}
use Rattle.rz_types.specs.Field.{PlainBody}
use Rattle.rz_types_fields.specs.declared.tree.Tree.{Tree}
use Rattle.rz_types_table.specs.Table.{declared_for, Declaration}
use Rattle.rz_unlay.specs.Reading.{facts_of, IsTree}
use Rattle.rz_catalog_text.specs.declared.entry.Entry.{Entry}
use Rattle.rz_catalog.specs.Catalogue.{catalogue, IsCatalogue}
use Rattle.rz_catalog.specs.Stock.{AreStocked, HasTree, Stocked}

-- bytes tell one row at most as a tree
abbrev pub OneTree : Type 0
OneTree =
    (fields : Option PlainBody) (known : Facts) (bytes : List ℕ) (body another : PlainBody) (row other : List Tree)
    → IsTree fields known bytes body row → IsTree fields known bytes another other → (body ≡ another) × (row ≡ other)

-- of bytes it is decided which row they tell as a tree
abbrev pub TreesAreDecided : Type 0
TreesAreDecided =
    (fields : Option PlainBody) (known : Facts) (bytes : List ℕ) → (answer : Option (List Tree)) × Decided (λ row. (body : PlainBody) × IsTree fields known bytes body row) answer

module _ (types : List Declaration) (moment : Moment) where
  pub one_row : OneTree → (r : Resource) (row other : List Tree) → HasTree types moment r row → HasTree types moment r other → row ≡ other
  one_row one r row other (body, tree) (another, also) = (one (declared_for types r) (facts_of moment r) r.bytes body another row other tree also).1

  pub one_stock : OneTree → (list : List Resource) (stock others : List Stocked) → AreStocked types moment list stock → AreStocked types moment list others → stock ≡ others
  one_stock one [] [] [] are also = refl
  one_stock one [] [] (s ∷ others) are also = absurd also
  one_stock one [] (s ∷ stock) others are also = absurd are
  one_stock one (r ∷ list) [] others are also = absurd are
  one_stock one (r ∷ list) (s ∷ stock) [] are also = absurd also
  one_stock one (r ∷ list) (s ∷ stock) (other ∷ others) are also =
      let resource : s.resource ≡ other.resource = are.0 ∙ sym also.0 in
      let tree : s.tree ≡ other.tree = one_answer (HasTree types moment r) (one_row one r) s.tree other.tree are.1 also.1 in
      let behind : stock ≡ others = one_stock one list stock others are.2 also.2 in
      λ i. record { resource = resource i; tree = tree i } ∷ behind i

  pub every_stock : TreesAreDecided → (list : List Resource) → (stock : List Stocked) × AreStocked types moment list stock
  every_stock decided [] = ([], tt)
  every_stock decided (r ∷ list) =
      let answer = decided (declared_for types r) (facts_of moment r) r.bytes in
      let others = every_stock decided list in
      (record { resource = r; tree = answer.0 } ∷ others.0, (refl, answer.1, others.1))

  -- Catalogues.

  pub one_catalogue : OneTree → (list : List Resource) (entries others : List Entry) → IsCatalogue types moment list entries → IsCatalogue types moment list others → entries ≡ others
  one_catalogue one list entries others (stock, are, is) (other, also, so) = is ∙ ap catalogue (one_stock one list stock other are also) ∙ sym so

  pub every_catalogue : TreesAreDecided → (list : List Resource) → (entries : List Entry) × IsCatalogue types moment list entries
  every_catalogue decided list = let stock = every_stock decided list in (catalogue stock.0, (stock.0, stock.1, refl))
