-- The tokens of statements that are shown.
use Rattle.std.proofs.Common.{ℕ, suc, ℤ, pos, negsuc, List, [], ◌∷◌, ◌++◌, map}
use Rattle.std.specs.List.{flat_map}
use Rattle.rz_core.specs.Numbers.{be}
use Rattle.rz_core.specs.declared.resource.Resource.{Resource}
use Rattle.rz_stmt_data.specs.Head.{Attribute}
use Rattle.rz_lex.specs.Printed.{word_of}
use Rattle.rz_lex.specs.declared.sign.Sign.TheVariants as signs
use Rattle.rz_lex.specs.declared.token.Shape.{Shape}
use Rattle.rz_lex.specs.declared.token.Shape.TheVariants as shapes
use Rattle.rz_show_laws.specs.Statement.{attributes_of}

abbrev pub id_shapes : ℤ → List Shape
id_shapes (pos n) = shapes.Number n ∷ []
id_shapes (negsuc n) = shapes.Sign signs.Minus ∷ shapes.Number (suc n) ∷ []

-- texts, by their bytes
abbrev pub text_shapes : List (List ℕ) → List Shape
text_shapes pieces = map (λ piece. shapes.Text piece) pieces

-- attributes, each alone
abbrev pub shape_alone : Shape × Attribute → List Shape
shape_alone a = a.0 ∷ []

-- what stands after the id: the name, where there is one, and the attributes
abbrev pub name_pieces : List (List ℕ) → List (List Shape)
name_pieces [] = []
name_pieces (piece ∷ pieces) = text_shapes (piece ∷ pieces) ∷ []

abbrev pub head_pieces : Resource → List (List ℕ) → List (List Shape)
head_pieces r name = name_pieces name ++ map shape_alone (attributes_of r.attr)

-- each of them after a comma
abbrev pub after_commas : List (List Shape) → List Shape
after_commas pieces = flat_map (λ piece. shapes.Sign signs.Comma ∷ piece) pieces

-- and after commas
abbrev pub attribute_tokens : List (Shape × Attribute) → List Shape
attribute_tokens attributes = after_commas (map shape_alone attributes)

-- the statement with this word, with the name as a text of these pieces and these tokens in braces
abbrev pub statement_shapes : (word : List ℕ) → Resource → (name : List (List ℕ)) → (inside : List Shape) → List Shape
statement_shapes word r name inside =
    word_of word ∷ shapes.Literal (be 4 r.kind.code) ∷ shapes.Sign signs.OpenParen
    ∷ (id_shapes r.id ++ (after_commas (head_pieces r name) ++ shapes.Sign signs.CloseParen ∷ shapes.Sign signs.OpenBrace
    ∷ (inside ++ shapes.Sign signs.CloseBrace ∷ shapes.Sign signs.Semicolon ∷ [])))
