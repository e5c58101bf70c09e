-- Items stand where their tokens stand.
use Rattle.std.proofs.Common.{ℕ, ◌<◌, Bool, true, false, List, [], ◌∷◌, sym, subst}
use Rattle.std.specs.List.{AllByRecursion}
use Rattle.rz_stmt_brackets.proofs.Parts.{cut_each, within_each}
use Rattle.rz_stmt_brackets.specs.declared.bracket.Bracket.TheVariants.{Curly}
use Rattle.rz_stmt_brackets.specs.declared.pieces.Divider.TheVariants.{Separator}
use Rattle.rz_lex.specs.Within.{AreWithin}
use Rattle.rz_lex.specs.declared.token.Token.{Token}
use Rattle.rz_words.specs.declared.keyword.Keyword.TheVariants.{Resource}
use Rattle.rz_stmt_data.proofs.Frames.{frame_each}
use Rattle.rz_stmt_data.specs.Texts.{begins_text}
use Rattle.rz_stmt_items.specs.Compile.{Compile, IsCompile}
use Rattle.rz_stmt_items.specs.Item.{items_of, PlainItem}
use Rattle.rz_stmt_items.specs.Items.{cut, listed, named, no_more, one_more, simple, stripped, AreEach, AreItems, IsItem}
use Rattle.rz_stmt_items.specs.Places.{AreInside, AreItemsWithin, IsItemWithin}
use Rattle.rz_stmt_items.specs.Simple.{IsSimpleBy}

module _ (files : ℕ) where
  abbrev IsWithin : Token → Type 0
  IsWithin token = token.mark.file < files

  abbrev AreAllWithin : List (List Token) → Type 0
  AreAllWithin pieces = AllByRecursion (AreWithin files) pieces

  stripped_within : (pieces : List (List Token)) → AreAllWithin pieces → AreAllWithin (stripped pieces)
  stripped_within [] are = tt
  stripped_within ([] ∷ []) are = tt
  stripped_within ((token ∷ tokens) ∷ []) are = are
  stripped_within ([] ∷ next ∷ pieces) are = (are.0, stripped_within (next ∷ pieces) are.1)
  stripped_within ((token ∷ tokens) ∷ next ∷ pieces) are = (are.0, stripped_within (next ∷ pieces) are.1)

  simple_within : (begins : Bool) (first : Token) (rest : List Token) (one : PlainItem) → IsSimpleBy begins first.mark (first ∷ rest) one
      → AreWithin files (first ∷ rest) → IsItemWithin files one
  simple_within true first rest one is are = subst (IsItemWithin files) (sym is.2) are.0
  simple_within false first rest one is are = subst (IsItemWithin files) (sym is.2) are.0

  mutual
    item_within : (tokens : List Token) (one : PlainItem) → IsItem tokens one → AreWithin files tokens → IsItemWithin files one
    item_within tokens one (listed first rest parted items is none are) stand =
        (stand.0, items_inside parted.front items are (within_each IsWithin Curly (first ∷ rest) parted is stand))
    item_within tokens one (named first rest name parted items has is none are) stand =
        (stand.0, items_inside parted.front items are (within_each IsWithin Curly rest parted is stand.1))
    item_within tokens one (simple first rest it off before so) stand = simple_within (begins_text (first ∷ rest)) first rest one so stand

    items_inside : (tokens : List Token) (items : List PlainItem) → AreItems tokens items → AreWithin files tokens → AreInside files (items_of items)
    items_inside tokens items (cut same pieces all is each) stand =
        each_inside (stripped pieces) items each (stripped_within pieces (cut_each IsWithin Separator tokens pieces is stand))

    each_inside : (pieces : List (List Token)) (items : List PlainItem) → AreEach pieces items → AreAllWithin pieces → AreInside files (items_of items)
    each_inside pieces items no_more stand = tt
    each_inside pieces items (one_more piece rest x others is each) stand = (item_within piece x is stand.0, each_inside rest others each stand.1)

  all_within : (items : List PlainItem) → AreInside files (items_of items) → AreItemsWithin files items
  all_within [] are = tt
  all_within (item ∷ items) are = (are.0, all_within items are.1)

  pub compile_within : (tokens : List Token) (compile : Compile) → AreWithin files tokens → IsCompile tokens compile → AreItemsWithin files compile.items
  compile_within tokens compile stand is = all_within compile.items (items_inside is.inside compile.items is.items (frame_each IsWithin Resource tokens _ is.frame stand))
