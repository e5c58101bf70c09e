-- Every text has its tokens or its first fault.
use Rattle.std.proofs.Common.{◌≡◌, ℕ, ◌⊎◌, inl, inr, List, [], ◌∷◌, ◌++◌, Option, Some, None, refl, subst}
use Rattle.rz_core.specs.declared.fault.Fault.{Fault}
use Rattle.rz_lex.specs.Lexed.{CutInto, FirstBad, Lexes, LexFails}
use Rattle.rz_lex.specs.Lines.{HasLines}
use Rattle.rz_lex.specs.declared.joined.Placed.{Placed}
use Rattle.rz_lex.specs.declared.raw_line.RawLine.{RawLine}
use Rattle.rz_lex.specs.declared.token.Token.{Token}
use Rattle.rz_lex.proofs.EveryLine.{every_line, IsCut}
use Rattle.rz_lex.proofs.EveryText.{has_lines}

-- the lines, which end so, have their tokens where they end with the text, or else a first fault
abbrev Outcome : List RawLine → Option Fault → Type 0
Outcome lines ending = ((tokens : List Token) × (ending ≡ None) × CutInto lines tokens) ⊎ ((fault : Fault) × FirstBad lines ending fault)

behind_line : (line : RawLine) (lines : List RawLine) (ending : Option Fault) → IsCut line.mark line.bytes → Outcome lines ending → Outcome (line ∷ lines) ending
behind_line line lines ending (inl cut) (inl others) = inl (cut.0 ++ others.0, others.1, (cut.0, others.0, refl, cut.1, others.2))
behind_line line lines ending (inl cut) (inr bad) = inr (bad.0, inr (cut.0, cut.1, bad.1))
behind_line line lines ending (inr refused) others = inr (refused.0, inl refused.1)

of_lines : (lines : List RawLine) (ending : Option Fault) → Outcome lines ending
of_lines [] None = inl ([], refl, refl)
of_lines [] (Some open_comment) = inr (open_comment, refl)
of_lines (line ∷ lines) ending = behind_line line lines ending (every_line line.mark line.bytes) (of_lines lines ending)

of_text : (file : ℕ) (text : List Placed) (lines : List RawLine) (ending : Option Fault) → HasLines file text lines ending → Outcome lines ending
    → ((tokens : List Token) × Lexes file text tokens) ⊎ ((fault : Fault) × LexFails file text fault)
of_text file text lines ending has (inl cut) = inl (cut.0, (lines, subst (λ (e : Option Fault). HasLines file text lines e) cut.1 has, cut.2))
of_text file text lines ending has (inr bad) = inr (bad.0, (lines, ending, has, bad.1))

pub every_text : (file : ℕ) (text : List Placed) → ((tokens : List Token) × Lexes file text tokens) ⊎ ((fault : Fault) × LexFails file text fault)
every_text file text = let has = has_lines file text in of_text file text has.0 has.1 has.2 (of_lines has.0 has.1)
