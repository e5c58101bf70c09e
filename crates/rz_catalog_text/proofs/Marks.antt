-- The tokens of a file, and the entries that they are, stand in it.
use Rattle.std.proofs.Common.{◌≡◌, ◌<◌, ◌+◌, ℕ, Bool, true, false, if◌then◌else◌, List, [], ◌∷◌, Ok, Err, refl, sym, subst, arith}
use Rattle.std.specs.Prelude.{IfOk}
use Rattle.std.specs.List.{AllByRecursion}
use Rattle.std.specs.declared.result.Result.{Result}
use Rattle.rz_core.specs.Message.{IsNameable}
use Rattle.rz_core.specs.Stop.{Meets, OnFault}
use Rattle.rz_core.specs.declared.fault.Fault.{Fault}
use Rattle.rz_core.specs.declared.fault.Mark.{Mark}
use Rattle.rz_core.specs.declared.stop.Stop.{Stop}
use Rattle.rz_core.specs.declared.stop.Stop.TheVariants.{Refused, NoMemory}
use Rattle.rz_lex.specs.Joined.{is_at, joined}
use Rattle.rz_lex.specs.Lexed.{CutInto, Lexes}
use Rattle.rz_lex.specs.Lines.{lines_of, mark_of, part_before}
use Rattle.rz_lex.specs.Within.{AreWithin}
use Rattle.rz_lex.specs.declared.joined.Placed.{Placed}
use Rattle.rz_lex.specs.declared.raw_line.RawLine.{RawLine}
use Rattle.rz_lex.specs.declared.token.Token.{Token}
use Rattle.rz_pre.proofs.Placing.{all_append, cut_on}
use Rattle.rz_pre.specs.Placed.{AreOn}
use Rattle.rz_catalog_text.specs.Entries.{AreEntries}
use Rattle.rz_catalog_text.specs.declared.entry.Entry.{Entry}
use Rattle.rz_catalog_text.specs.Stored.{AreEntriesIn}

-- Lines.

abbrev AreOf : ℕ → List RawLine → Type 0
AreOf file lines = AllByRecursion (λ line. line.mark.file ≡ file) lines

mark_in : (file : ℕ) (part : List Placed) → (mark_of file part).file ≡ file
mark_in file [] = refl
mark_in file (first ∷ rest) = refl

before_in : (file : ℕ) (part : List Placed) (lines : List RawLine) → AreOf file lines → AreOf file (part_before file part lines)
before_in file part [] all = (mark_in file part, tt)
before_in file part (line ∷ lines) all = (mark_in file part, all.1)

line_in : (file : ℕ) (part : List Placed) (lines : List RawLine) (ends : Bool) → AreOf file lines
    → AreOf file (if ends then record { bytes = []; mark = mark_of file part } ∷ lines else part_before file part lines)
line_in file part lines true all = (mark_in file part, all)
line_in file part lines false all = before_in file part lines all

lines_in : (file : ℕ) (parts : List (List Placed)) → AreOf file (lines_of file parts)
lines_in file [] = tt
lines_in file (part ∷ parts) = line_in file part (lines_of file parts) (is_at 10 part) (lines_in file parts)

-- Tokens.

within : (mark : Mark) (files : ℕ) (tokens : List Token) → mark.file < files → AreOn mark tokens → AreWithin files tokens
within mark files [] below on = tt
within mark files (token ∷ tokens) below on = (subst (λ (m : Mark). m.file < files) (sym on.0) below, within mark files tokens below on.1)

cut_within : (file : ℕ) (lines : List RawLine) (tokens : List Token) → AreOf file lines → CutInto lines tokens → AreWithin (file + 1) tokens
cut_within file [] tokens all cut = subst (AreWithin (file + 1)) (sym cut) tt
cut_within file (line ∷ lines) tokens all cut = subst (AreWithin (file + 1)) (sym cut.2)
    (all_append (λ (token : Token). token.mark.file < file + 1) cut.0 cut.1
    (within line.mark (file + 1) cut.0 (subst (λ (f : ℕ). f < file + 1) (sym all.0) (omega arith)) (cut_on line.mark line.bytes cut.0 cut.3))
    (cut_within file lines cut.1 all.1 cut.4))

lexed_within : (file : ℕ) (text : List ℕ) (tokens : List Token) → Lexes file (joined 1 text) tokens → AreWithin (file + 1) tokens
lexed_within file text tokens lexes =
    cut_within file lexes.0 tokens (subst (AreOf file) (sym lexes.1.are) (lines_in file lexes.1.parts)) lexes.2

-- Entries.

module _ (file : ℕ) (text : List ℕ) (tokens : List Token) (lexes : Lexes file (joined 1 text) tokens) where
  pub placed : ((files : ℕ) (tokens : List Token) (entries : List Entry) → AreWithin files tokens → AreEntries tokens (Ok entries) → AreEntriesIn files entries)
      → (result : Result (List Entry) (Stop Fault)) → Meets result (AreEntries tokens) → IfOk result (AreEntriesIn (file + 1))
  placed all (Ok entries) are = all (file + 1) tokens entries (lexed_within file text tokens lexes) are
  placed all (Err stop) are = tt

  pub nameable : ((files : ℕ) (tokens : List Token) (fault : Fault) → AreWithin files tokens → AreEntries tokens (Err fault) → IsNameable files fault)
      → (result : Result (List Entry) (Stop Fault)) → Meets result (AreEntries tokens) → OnFault result (IsNameable (file + 1))
  nameable all (Ok entries) are = tt
  nameable all (Err (Refused fault)) are = all (file + 1) tokens fault (lexed_within file text tokens lexes) are
  nameable all (Err NoMemory) are = tt
