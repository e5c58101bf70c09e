-- Items that name no file: what the files give changes nothing in them.
use Rattle.std.proofs.Common.{◌≡◌, ℕ, false, List, [], ◌∷◌, Ok, refl, ap, ◌∙◌}
use Rattle.std.specs.declared.result.Result.{Result}
use Rattle.rz_core.specs.Stop.{◌>>=◌}
use Rattle.rz_core.specs.declared.facts.Facts.{Facts}
use Rattle.rz_core.specs.declared.fault.Fault.{Fault}
use Rattle.rz_core.specs.declared.fault.Mark.{Mark}
use Rattle.rz_folder.specs.Folder.{Files}
use Rattle.rz_stmt_items.specs.Item.{items_of, more, none, Braced, Named, Number, PlainItem, PlainItems, Text}
use Rattle.rz_tools_resource.specs.Items.{inner_read, item_read, items_read}
use Rattle.rz_tools_resource.specs.Named.{item_names, items_name}
use Rattle.rz_tools_values.proofs.Fileless.{neither, texts_stay}
use Rattle.rz_types_fields.specs.Text.{PlainPart}

module _ (paths : List (List ℕ)) (files : Files) (mark : Mark) (known : Facts) where
  mutual
    item_stays : (item : PlainItem) → item_names item ≡ false → item_read paths files mark known item ≡ Ok item
    item_stays (Number term place) free = refl
    item_stays (Text parts place) free = ap (λ (r : Result (List PlainPart) Fault). r >>= λ parts. Ok (Text parts place)) (texts_stay paths files mark known parts free)
    item_stays (Braced items place) free = ap (λ (r : Result PlainItems Fault). r >>= λ items. Ok (Braced items place)) (inner_stay items free)
    item_stays (Named name items place) free = ap (λ (r : Result PlainItems Fault). r >>= λ items. Ok (Named name items place)) (inner_stay items free)

    inner_stay : (items : PlainItems) → items_name items ≡ false → inner_read paths files mark known items ≡ Ok items
    inner_stay none free = refl
    inner_stay (more item items) free =
        let each = neither (item_names item) (items_name items) free in
        ap (λ (r : Result PlainItem Fault). r >>= λ item. inner_read paths files mark known items >>= λ items. Ok (more item items)) (item_stays item each.0)
        ∙ ap (λ (r : Result PlainItems Fault). r >>= λ items. Ok (more item items)) (inner_stay items each.1)

  pub items_stay : (items : List PlainItem) → items_name (items_of items) ≡ false → items_read paths files mark known items ≡ Ok items
  items_stay [] free = refl
  items_stay (item ∷ items) free =
      let each = neither (item_names item) (items_name (items_of items)) free in
      ap (λ (r : Result PlainItem Fault). r >>= λ item. items_read paths files mark known items >>= λ items. Ok (item ∷ items)) (item_stays item each.0)
      ∙ ap (λ (r : Result (List PlainItem) Fault). r >>= λ items. Ok (item ∷ items)) (items_stay items each.1)
