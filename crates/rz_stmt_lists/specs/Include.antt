-- An `include` statement: `include`, a file, and which resources of it: all, all but those of a type, or those of a
-- type that are picked, maybe as another type and with another head. (MPW Rez.)
use Rattle.std.specs.Prelude.{◌≡◌, ℕ, true, List, ◌∷◌, ◌++◌, Option, Some, option_map}
use Rattle.rz_expr.specs.Keyword.{is_keyword}
use Rattle.rz_words.specs.declared.keyword.Keyword.TheVariants as keywords
use Rattle.rz_lex.specs.declared.token.Token.{Token}
use Rattle.rz_stmt_brackets.specs.Kind.{kind_in}
use Rattle.rz_stmt_brackets.specs.Statements.{is_empty}
use Rattle.rz_stmt_data.specs.Head.{head_of, Head}
use Rattle.rz_stmt_lists.specs.Brackets.{IsMaybe}
use Rattle.rz_stmt_data.specs.Files.{IsFile}
use Rattle.rz_stmt_lists.specs.Pick.{pick_of, IsPicked, Pick}
use Rattle.rz_stmt_lists.specs.Renaming.{IsRenaming, Renaming}
use Rattle.rz_stmt_lists.specs.declared.include.IncludePart.{IncludePart}
use Rattle.rz_stmt_lists.specs.declared.include.IncludePart.TheVariants as parts
use Rattle.rz_stmt_lists.specs.declared.include.IncludeStmt.{IncludeStmt}

pub data Part : Type 0 where
  All : Part
  Not : (kind : ℕ) → Part
  Chosen : (kind : ℕ) (pick : Pick) → Part
  Renamed : (kind : ℕ) (pick : Pick) (new_kind : ℕ) (head : Option Head) → Part

pub record Include : Type 0 where
  pub file : List ℕ
  pub part : Part

abbrev pub part_of : IncludePart → Part
part_of parts.All = All
part_of (parts.Not kind) = Not kind.code
part_of (parts.Chosen kind pick) = Chosen kind.code (pick_of pick)
part_of (parts.Renamed kind pick new_kind head) = Renamed kind.code (pick_of pick) new_kind.code (option_map head_of head)

abbrev pub include_of : IncludeStmt → Include
include_of stmt = record { file = stmt.file; part = part_of stmt.part }

-- what stands after the file, with the `;` that ends the statement
pub data IsPart (tokens : List Token) (part : Part) : Type 0 where
  -- nothing: all of them
  all : is_empty tokens ≡ true → part ≡ All → IsPart tokens part
  -- `not` and a type
  all_but : (word kind : Token) (behind : List Token) (code : ℕ) → tokens ≡ word ∷ kind ∷ behind → is_keyword keywords.Not word.shape ≡ true
      → kind_in kind.shape ≡ Some code → is_empty behind ≡ true → part ≡ Not code → IsPart tokens part
  -- a type, and maybe a pick in brackets
  chosen : (kind : Token) (behind : List Token) (code : ℕ) (inside : Option (List Token)) (rest : List Token) (pick : Pick) → tokens ≡ kind ∷ behind
      → kind_in kind.shape ≡ Some code → IsMaybe behind inside rest → IsPicked inside pick → is_empty rest ≡ true → part ≡ Chosen code pick → IsPart tokens part
  -- the same, and what they become
  renamed : (kind : Token) (behind : List Token) (code : ℕ) (inside : Option (List Token)) (rest : List Token) (pick : Pick) (renaming : Renaming)
      → tokens ≡ kind ∷ behind → kind_in kind.shape ≡ Some code → IsMaybe behind inside rest → IsPicked inside pick → IsRenaming keywords.As pick rest renaming
      → part ≡ Renamed code pick renaming.kind renaming.head → IsPart tokens part

-- the tokens are this statement
pub record IsInclude (tokens : List Token) (include : Include) : Type 0 where
  pub word : Token
  pub behind : List Token
  pub file : List Token
  pub rest : List Token
  pub are : tokens ≡ word ∷ behind
  pub is_word : is_keyword keywords.Include word.shape ≡ true
  pub names : behind ≡ file ++ rest
  pub has_file : IsFile file include.file
  pub has_part : IsPart rest include.part
