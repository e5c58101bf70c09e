-- What `-d` and `-u` define. (MPW Rez.)
use Rattle.std.specs.Prelude.{◌≡◌, ◌≢◌, ℕ, ◌<◌, true, List, [], ◌∷◌, ◌++◌, length, get_or, Some, None}
use Rattle.std.specs.List.{AllByRecursion}
use Rattle.rz_core.specs.declared.fault.Mark.{Mark}
use Rattle.rz_core.specs.declared.resource.Word.{Word}
use Rattle.rz_words.specs.Words.{is_label, role_of}
use Rattle.rz_lex.specs.Cutting.{Cuts}
use Rattle.rz_lex.specs.declared.token.Shape.TheVariants as shapes
use Rattle.rz_lex.specs.declared.token.Token.{Token}
use Rattle.rz_pre.specs.declared.program.Def.{Def}
use Rattle.rz_pre_source.specs.Source.{mark, IsTextOf}

-- the mark of tokens of the words
abbrev pub nowhere : Mark
nowhere = record { file = 0; line = 0 }

-- a name that may be defined: it is cut as one word, and isn't reserved
pub record IsName (name : List ℕ) (word : Word) : Type 0 where
  pub spelled : word.bytes ≡ name
  pub one : Cuts nowhere name (record { shape = shapes.Word word; mark = nowhere } ∷ [])
  pub free : is_label (role_of name) ≡ true

-- the tokens of a text, which is cut in Mac Roman as one line
pub record IsText (text : List ℕ) (tokens : List Token) : Type 0 where
  pub bytes : List ℕ
  pub roman : IsTextOf (mark ++ text) bytes
  pub cut : Cuts nowhere bytes tokens

-- a name stands for no token, for those of a text, or for nothing
abbrev pub Alone : List ℕ → Def → Type 0
Alone name def = IsName name def.name × (def.text ≡ Some [])

abbrev pub WithText : List ℕ → List ℕ → Def → Type 0
WithText name text def = (tokens : List Token) × IsName name def.name × IsText text tokens × (def.text ≡ Some tokens)

abbrev pub Undefines : List ℕ → Def → Type 0
Undefines name def = IsName name def.name × (def.text ≡ None)

-- no byte of these is `=`
abbrev pub HasNoSign : List ℕ → Type 0
HasNoSign bytes = (i : ℕ) → i < length bytes → get_or bytes i 0 ≢ 61

-- the definition of `-d`: a name, or a name, `=` and a text
pub data Defines (value : List ℕ) (def : Def) : Type 0 where
  alone : HasNoSign value → Alone value def → Defines value def
  with_text : (name text : List ℕ) → HasNoSign name → value ≡ name ++ 61 ∷ text → WithText name text def → Defines value def

-- what is defined isn't a reserved word
abbrev pub IsFree : Def → Type 0
IsFree def = is_label (role_of def.name.bytes) ≡ true

abbrev pub AreFree : List Def → Type 0
AreFree defs = AllByRecursion IsFree defs
