-- Entries that are written and read.
use Rattle.std.specs.Prelude.{◌≡◌, List, map, Ok}
use Rattle.rz_lex.specs.declared.token.Shape.{Shape}
use Rattle.rz_lex.specs.declared.token.Token.{Token}
use Rattle.rz_catalog_text.specs.Entries.{AreEntries}
use Rattle.rz_catalog_text.specs.Stored.{unmarked}
use Rattle.rz_catalog_text.specs.declared.entry.Entry.{Entry}
use Rattle.rz_catalog_text.specs.Text.{entries_text}
use Rattle.rz_show_lines.specs.Page.{HasTokens}

-- tokens that are these entries, whatever marks they have
pub record AreThese (read : List Token) (entries : List Entry) : Type 0 where
  pub back : List Entry
  pub are : AreEntries read (Ok back)
  pub same : map unmarked back ≡ map unmarked entries

-- the text is lines that are cut into tokens, and these are the entries, wherever they stand
pub record AreReadBack (entries : List Entry) : Type 0 where
  pub tokens : List Shape
  pub has : HasTokens (entries_text entries) tokens
  pub read : (read : List Token) → map (λ token. token.shape) read ≡ tokens → AreThese read entries
