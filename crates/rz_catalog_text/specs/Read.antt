-- How an entry is read, by the shapes of its tokens.
use Rattle.std.specs.Prelude.{ℕ, suc, ℤ, pos, negsuc, int_le, Bool, true, false, ◌&&◌, if◌then◌else◌, List, [], ◌∷◌, ◌++◌, map, Option, Some, None, option_and_then, option_map}
use Rattle.std.specs.Option.{is_some}
use Rattle.rz_core.specs.Resources.{kind_of}
use Rattle.rz_core.specs.declared.fault.Mark.{Mark}
use Rattle.rz_core.specs.declared.resource.OsType.{OsType}
use Rattle.rz_lex.specs.Token.{is_the_sign}
use Rattle.rz_lex.specs.declared.sign.Sign.TheVariants.{Minus, Semicolon}
use Rattle.rz_lex.specs.declared.token.Shape.{Shape}
use Rattle.rz_lex.specs.declared.token.Shape.TheVariants as shapes
use Rattle.rz_lex.specs.declared.token.Token.{Token}
use Rattle.rz_catalog_text.specs.Entries.{id_value}
use Rattle.rz_catalog_text.specs.declared.entry.Entry.{Entry}
use Rattle.rz_catalog_text.specs.declared.read.Front.{Front as Read}

abbrev pub shapes_of : List Token → List Shape
shapes_of tokens = map (λ token. token.shape) tokens

-- how many tokens the first chunk has
abbrev pub chunk_size : List Token → ℕ
chunk_size [] = 0
chunk_size (token ∷ tokens) = suc (if is_the_sign Semicolon token.shape then 0 else chunk_size tokens)

-- One token.

abbrev pub kind_in : Shape → Option OsType
kind_in (shapes.Literal bytes) = kind_of bytes
kind_in shape = None

abbrev pub number_in : Shape → Option ℕ
number_in (shapes.Number number) = Some number
number_in shape = None

abbrev pub text_of : Shape → Option (List ℕ)
text_of (shapes.Text bytes) = Some bytes
text_of shape = None

-- What stands before the texts.

pub record Front : Type 0 where
  pub kind : OsType
  pub id : ℤ
  pub leaf : ℕ
  pub texts : List Shape

abbrev pub front_read : Read → Front
front_read front = record { kind = front.kind; id = front.id; leaf = front.leaf; texts = shapes_of front.texts.now }

-- an id of 16 bits
abbrev pub id_in : ℤ → Option ℤ
id_in id = if int_le (negsuc 32767) id && int_le id (pos 32767) then Some id else None

abbrev pub front_of : (kind : Shape) (minus : Bool) (number leaf : Shape) → List Shape → Option Front
front_of kind minus number leaf texts =
    option_and_then (λ kind. option_and_then (λ number. option_and_then (λ id. option_map (λ leaf. record { kind = kind; id = id; leaf = leaf; texts = texts })
    (number_in leaf)) (id_in (id_value minus number))) (number_in number)) (kind_in kind)

abbrev pub front_in : List Shape → Option Front
front_in (kind ∷ minus ∷ id ∷ leaf ∷ texts) = if is_the_sign Minus minus then front_of kind true id leaf texts else front_of kind false minus id (leaf ∷ texts)
front_in (kind ∷ id ∷ leaf ∷ []) = front_of kind false id leaf []
front_in shapes = None

-- Texts.

abbrev pub is_nothing : List Shape → Bool
is_nothing [] = true
is_nothing (shape ∷ shapes) = false

-- the bytes of a text in front of others, or nothing at a `;` at the end
abbrev pub text_or_end : Shape → (behind : List Shape) → (others : Option (List ℕ)) → Option (List ℕ)
text_or_end (shapes.Text bytes) behind others = option_map (λ more. bytes ++ more) others
text_or_end shape behind others = if is_the_sign Semicolon shape && is_nothing behind then Some [] else None

-- texts, and `;` after them
abbrev pub texts_in : List Shape → Option (List ℕ)
texts_in [] = None
texts_in (shape ∷ shapes) = text_or_end shape shapes (texts_in shapes)

-- the same, where there is a text
abbrev pub text_in : List Shape → Option (List ℕ)
text_in [] = None
text_in (shape ∷ shapes) = if is_some (text_of shape) then texts_in (shape ∷ shapes) else None

-- the entry that the tokens of a chunk are
abbrev pub entry_in : Mark → List Shape → Option Entry
entry_in mark shapes =
    option_and_then (λ front. option_map (λ text. record { kind = front.kind; id = front.id; leaf = front.leaf; text = text; mark = mark }) (text_in front.texts)) (front_in shapes)
