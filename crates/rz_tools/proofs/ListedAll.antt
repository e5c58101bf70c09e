-- The catalogue of resources, one after the other.
use Rattle.std.proofs.Common.{◌≡◌, ℕ, List, [], ◌∷◌, ◌++◌, Option, refl, sym, ap, ◌∙◌, append_assoc}
use Rattle.std.proofs.lemmas.List.{append-nil}
use Rattle.std.specs.Prelude.{OnOk, Ok, Err}
use Rattle.std.specs.declared.result.Result.{Result}
use Rattle.rz_catalog.specs.Catalogue.{catalogue, entries_of, IsCatalogue}
use Rattle.rz_catalog.specs.Stock.{texts_in, AreStocked, HasTree, Stocked}
use Rattle.rz_catalog_text.specs.declared.entry.Entry.{Entry}
use Rattle.rz_catalog_text.specs.Text.{entries_text}
use Rattle.rz_core.specs.Decided.{Decided}
use Rattle.rz_core.specs.declared.moment.Moment.{Moment}
use Rattle.rz_core.specs.declared.resource.Resource.{Resource}
use Rattle.rz_catalog_text.proofs.Lines.{texts_go_on}
use Rattle.rz_types_fields.specs.declared.tree.Tree.{Tree}
use Rattle.rz_types_table.specs.Table.{Declaration}

-- the text of entries that are these of each such row
pub text_added : {E Row : Type 0} (result : Result (Unit {0}) E) (old new : List ℕ) (entries : List Entry) → OnOk result (new ≡ old ++ entries_text entries)
    → (P : Row → Type 0) (of : Row → List Entry) → ((row : Row) → P row → entries ≡ of row) → OnOk result ((row : Row) → P row → new ≡ old ++ entries_text (of row))
text_added (Ok done) old new entries added P of are = λ row is. added ∙ ap (λ (es : List Entry). old ++ entries_text es) (are row is)
text_added (Err stop) old new entries added P of are = tt

module _ (types : List Declaration) (moment : Moment) (list : List Resource) (before : List ℕ) where
  -- after the texts of the first resources stand those of the others
  abbrev pub IsSoFar : List Resource → List ℕ → Type 0
  IsSoFar rest text = (entries : List Entry) → IsCatalogue types moment list entries
      → (others : List Entry) × IsCatalogue types moment rest others × (before ++ entries_text entries ≡ text ++ entries_text others)

  pub begins : IsSoFar list before
  begins entries is = (entries, is, refl)

  module _ (one : Resource) (rest : List Resource) (text next : List ℕ)
      (appended : (row : Option (List Tree)) → Decided (HasTree types moment one) row → next ≡ text ++ entries_text (entries_of one.kind one.id (texts_in row))) where
    cut_first : (stock : List Stocked) → AreStocked types moment (one ∷ rest) stock
        → (others : List Entry) × IsCatalogue types moment rest others × (text ++ entries_text (catalogue stock) ≡ next ++ entries_text others)
    cut_first [] are = absurd are
    cut_first (s ∷ stock) are =
        let row : Decided (HasTree types moment one) s.tree = are.1 in
        let own = entries_of one.kind one.id (texts_in s.tree) in (
          catalogue stock,
          (stock, are.2, refl),
          ap (λ (r : Resource). text ++ entries_text (entries_of r.kind r.id (texts_in s.tree) ++ catalogue stock)) are.0
              ∙ ap (λ (t : List ℕ). text ++ t) (texts_go_on own (catalogue stock))
              ∙ sym (append_assoc text (entries_text own) (entries_text (catalogue stock)))
              ∙ ap (λ (t : List ℕ). t ++ entries_text (catalogue stock)) (sym (appended s.tree row)),
        )

    pub goes_on : IsSoFar (one ∷ rest) text → IsSoFar rest next
    goes_on so entries is =
        let there = so entries is in
        let cut = cut_first there.1.0 there.1.1 in
        (cut.0, cut.1, there.2 ∙ ap (λ (e : List Entry). text ++ entries_text e) there.1.2 ∙ cut.2)

  none_left : (others : List Entry) → IsCatalogue types moment [] others → others ≡ []
  none_left others ([], are, is) = is
  none_left others (s ∷ stock, are, is) = absurd are

  pub ends : (text : List ℕ) → IsSoFar [] text → (entries : List Entry) → IsCatalogue types moment list entries → text ≡ before ++ entries_text entries
  ends text so entries is =
      let there = so entries is in
      sym (there.2 ∙ ap (λ (e : List Entry). text ++ entries_text e) (none_left there.0 there.1) ∙ append-nil text)
