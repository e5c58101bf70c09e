-- The tokens of a shown resource are its statement.
use Rattle.std.proofs.Common.{◌≡◌, ℕ, ◌≤◌, true, List, refl, ◌∙◌, arith}
use Rattle.std.specs.Prelude.{codes}
use Rattle.std.specs.List.{flat_map}
use Rattle.std.proofs.lemmas.List.{append-nil}
use Rattle.rz_core.specs.declared.facts.Facts.{Facts}
use Rattle.rz_core.specs.declared.resource.Resource.{Resource}
use Rattle.rz_words.specs.declared.keyword.Keyword.TheVariants as keywords
use Rattle.rz_lex.specs.declared.token.Token.{Token}
use Rattle.rz_stmt_data.proofs.Plain.{plain_inside}
use Rattle.rz_stmt_items.specs.Fits.{Fits}
use Rattle.rz_stmt_items.specs.Item.{PlainItem}
use Rattle.rz_types.specs.Field.{PlainBody}
use Rattle.rz_types_fields.specs.declared.tree.Tree.{Tree}
use Rattle.rz_show.specs.Height.{heights}
use Rattle.rz_show_lines.specs.Pieces.{text_pieces}
use Rattle.rz_show_lines.specs.Print.{Prints}
use Rattle.rz_show.specs.Statement.{data_items}
use Rattle.rz_show_laws.specs.Showable.{IsStored}
use Rattle.rz_show_laws.specs.Statement.{IsWholeData, IsWholeRow}
use Rattle.rz_show_laws.proofs.Framed.{framed}
use Rattle.rz_show_lines.proofs.Tokens.{list_shapes}
use Rattle.rz_show_laws.proofs.Items.{AreNamingPrints, ArePrintedItems}
use Rattle.rz_show_laws.proofs.Listed.{list_read}
use Rattle.rz_show_laws.proofs.Shapes.{statement_shapes, text_shapes}
use Rattle.rz_show_lines.proofs.Split.{shapes_in}
use Rattle.rz_show_lines.proofs.Texts.{all_pieces, pieces_join}

-- by its bytes
pub whole_data : (r : Resource) (name : List (List ℕ)) → flat_map (λ piece. piece) name ≡ r.name → IsStored r
    → (tokens : List Token) → shapes_in tokens ≡ statement_shapes (codes "data") r name (list_shapes (data_items r.bytes)) → IsWholeData tokens r
whole_data r name name_is stored tokens is =
    let one = framed keywords.Data (codes "data") refl refl r name (data_items r.bytes) stored tokens is (omega arith) in
    let bytes = all_pieces (text_pieces true r.bytes) in
    record {
      name = name;
      bytes = bytes;
      whole_name = name_is;
      whole_bytes = pieces_join 16 16 r.bytes;
      is = record {
        statement = one.statement;
        within = one.limits;
        is = record { inside = one.inside; frame = one.frame; texts = plain_inside bytes one.inside (one.inside_are ∙ append-nil (text_shapes bytes)) };
      };
    }

-- by a row with such items
pub whole_row : (r : Resource) (name : List (List ℕ)) (prints : Prints) (body : PlainBody) (row : List Tree) → flat_map (λ piece. piece) name ≡ r.name → IsStored r
    → AreNamingPrints prints → heights prints ≤ 63 → ((known : Facts) (items : List PlainItem) → ArePrintedItems prints items → Fits known body items row)
    → (tokens : List Token) → shapes_in tokens ≡ statement_shapes (codes "resource") r name (list_shapes prints) → IsWholeRow tokens r body row
whole_row r name prints body row name_is stored naming low fits tokens is =
    let one = framed keywords.Resource (codes "resource") refl refl r name prints stored tokens is low in
    let read = list_read prints naming one.inside one.inside_are in
    record {
      name = name;
      items = read.items;
      whole_name = name_is;
      statement = one.statement;
      within = one.limits;
      is = record { inside = one.inside; frame = one.frame; items = read.are };
      fits = λ known. fits known read.items read.meant;
    }
