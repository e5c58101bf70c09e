-- A line that is read is what the text begins with, and nothing else can be answered.
use Rattle.std.proofs.Common.{◌≡◌, ℕ, List, [], ◌∷◌, Option, Some, None, Result, Ok, Err, refl, ap}
use Rattle.std.specs.Prelude.{IfOk, IfSome, IfNone}
use Rattle.rz_core.specs.Stop.{Gives, OnFault}
use Rattle.rz_core.specs.declared.fault.Fault.{Fault}
use Rattle.rz_core.specs.declared.stop.Stop.{Stop}
use Rattle.rz_core.specs.declared.stop.Stop.TheVariants.{Refused, NoMemory}
use Rattle.rz_lex.specs.Lines.{HasLines, HasOpenComment, StandsBefore}
use Rattle.rz_lex.specs.declared.joined.Placed.{Placed}
use Rattle.rz_lex.specs.declared.raw_line.RawLine.{RawLine}
use Rattle.rz_lex.proofs.EveryText.{has_lines}
use Rattle.rz_lex.proofs.OneCover.{one_reading}

-- what is answered to the question for the next line
abbrev pub Answer : Type 0
Answer = Result (Option RawLine) (Stop Fault)

no_line : (line : RawLine) (lines : List RawLine) → [] ≡ line ∷ lines → ⊥
no_line line lines is = absurd cc

no_fault : (fault : Fault) → ◌≡◌ {A = Option Fault} None (Some fault) → ⊥
no_fault fault is = absurd cc

same_fault : (fault other : Fault) → ◌≡◌ {A = Option Fault} (Some fault) (Some other) → fault ≡ other
same_fault fault other is = cc

-- a text that begins with a line has other lines than none
module _ (file : ℕ) (text rest : List Placed) where
  not_empty : (line : RawLine) (ending : Option Fault) → StandsBefore file text line rest → HasLines file text [] ending → ⊥
  not_empty line ending stands there =
      let more = has_lines file rest in
      no_line line more.0 (one_reading file text [] (line ∷ more.0) ending more.1 there (stands more.0 more.1 more.2)).0

  pub only_end : (result : Answer)
      → IfOk result (λ read. IfSome read (λ line. StandsBefore file text line rest))
      → OnFault result (HasOpenComment file text [])
      → HasLines file text [] None → Gives (Ok None) result
  only_end (Ok None) line comment there = refl
  only_end (Ok (Some one)) line comment there = absurd (not_empty one None line there)
  only_end (Err (Refused fault)) line comment there = absurd (no_fault fault (one_reading file text [] [] None (Some fault) there comment).1)
  only_end (Err NoMemory) line comment there = tt

  pub only_comment : (result : Answer)
      → IfOk result (λ read. IfSome read (λ line. StandsBefore file text line rest))
      → IfOk result (λ read. IfNone read (HasLines file text [] None))
      → OnFault result (HasOpenComment file text [])
      → (fault : Fault) → HasOpenComment file text [] fault → Gives (Err fault) result
  only_comment (Ok None) line end comment fault there = absurd (no_fault fault (one_reading file text [] [] None (Some fault) end there).1)
  only_comment (Ok (Some one)) line end comment fault there = absurd (not_empty one (Some fault) line there)
  only_comment (Err (Refused other)) line end comment fault there =
      ap (λ (x : Fault). Err x) (same_fault fault other (one_reading file text [] [] (Some fault) (Some other) there comment).1)
  only_comment (Err NoMemory) line end comment fault there = tt
