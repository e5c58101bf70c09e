-- The entries of the file of a catalogue. (MPW Rez.)
use Rattle.std.specs.Prelude.{ℕ, List, Ok, Err}
use Rattle.std.specs.declared.result.Result.{Result}
use Rattle.rz_core.specs.Answers.{Then}
use Rattle.rz_core.specs.declared.fault.Fault.{Fault}
use Rattle.rz_lex.specs.Joined.{joined}
use Rattle.rz_lex.specs.Lexed.{Lexes, LexFails}
use Rattle.rz_lex.specs.declared.token.Token.{Token}
use Rattle.rz_pre.specs.Program.{HasText}
use Rattle.rz_catalog_text.specs.Entries.{AreEntries}
use Rattle.rz_catalog_text.specs.declared.entry.Entry.{Entry}

-- the tokens of a text, or its first fault; no line is a directive
abbrev pub HasTokens : ℕ → List ℕ → Result (List Token) Fault → Type 0
HasTokens file text (Ok tokens) = Lexes file (joined 1 text) tokens
HasTokens file text (Err fault) = LexFails file (joined 1 text) fault

-- the entries that the tokens of a text are, or the first fault
abbrev pub HaveEntries : ℕ → List ℕ → Result (List Entry) Fault → Type 0
HaveEntries file text = Then (HasTokens file text) AreEntries

-- the entries of a file: its text in Mac Roman, and then those of the text; or the first fault
abbrev pub HasEntries : ℕ → List ℕ → Result (List Entry) Fault → Type 0
HasEntries file source = Then (HasText file source) (HaveEntries file)
