-- An `include` statement, taken apart.
use Rattle.std.proofs.Common.{◌≡◌, true, List, ◌∷◌, ◌++◌, Some, sym, subst, ◌∙◌}
use Rattle.rz_expr.specs.Keyword.{is_keyword}
use Rattle.rz_words.specs.declared.keyword.Keyword.TheVariants as keywords
use Rattle.rz_lex.specs.declared.token.Token.{Token}
use Rattle.rz_stmt_data.proofs.FileNames.{file_found, file_is}
use Rattle.rz_stmt_data.specs.Files.{behind_texts, file_in, IsFile}
use Rattle.rz_stmt_lists.proofs.Parts.{part_no_text}
use Rattle.rz_stmt_lists.specs.Include.{Include, IsInclude, IsPart}

-- what stands after the word
pub record IsIncludeBehind (behind : List Token) (include : Include) : Type 0 where
  pub file : List Token
  pub rest : List Token
  pub names : behind ≡ file ++ rest
  pub has_file : IsFile file include.file
  pub has_part : IsPart rest include.part

pub include_after : (tokens behind : List Token) (word : Token) → tokens ≡ word ∷ behind → (include : Include) → IsInclude tokens include → IsIncludeBehind behind include
include_after tokens behind word are include is = record {
  file = is.file;
  rest = is.rest;
  names = sym (tails (sym is.are ∙ are)) ∙ is.names;
  has_file = is.has_file;
  has_part = is.has_part;
}
  where
    tails : is.word ∷ is.behind ≡ word ∷ behind → is.behind ≡ behind
    tails e = cc e

-- the file, and what stands after it
pub included : (tokens behind : List Token) (word : Token) → tokens ≡ word ∷ behind → (include : Include) → IsInclude tokens include
    → (file_in behind ≡ Some include.file) × IsPart (behind_texts behind) include.part
included tokens behind word are include is =
    let it = include_after tokens behind word are include is in
    let found = file_found behind it.file it.rest include.file it.names it.has_file (part_no_text it.rest include.part it.has_part) in
    (found.0, subst (λ (ts : List Token). IsPart ts include.part) (sym found.1) it.has_part)

pub include_is : (tokens behind : List Token) (word : Token) → tokens ≡ word ∷ behind → is_keyword keywords.Include word.shape ≡ true → (include : Include)
    → file_in behind ≡ Some include.file → IsPart (behind_texts behind) include.part → IsInclude tokens include
include_is tokens behind word are is include has part =
    let found = file_is behind include.file has in
    record { word = word; behind = behind; file = found.0; rest = behind_texts behind; are = are; is_word = is; names = found.1; has_file = found.2; has_part = part }
