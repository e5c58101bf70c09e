-- One line more of a text.
use Rattle.std.proofs.Common.{ℕ, inl, inr, List, [], ◌∷◌, ◌++◌, Option, Some, None, Err, refl, sym, ap, subst, ◌∙◌, append_assoc}
use Rattle.std.proofs.lemmas.List.{append-nil}
use Rattle.rz_core.specs.Stop.{OnFault}
use Rattle.rz_core.specs.declared.fault.Fault.{Fault}
use Rattle.rz_core.specs.declared.stop.Stop.{Stop}
use Rattle.rz_core.specs.declared.stop.Stop.TheVariants.{Refused, NoMemory}
use Rattle.rz_lex.specs.Cutting.{Cuts, Refuses}
use Rattle.rz_lex.specs.Lexed.{CutInto, FirstBad, Lexes, LexFails}
use Rattle.rz_lex.specs.Lines.{HasLines, HasOpenComment, StandsBefore}
use Rattle.rz_lex.specs.declared.joined.Placed.{Placed}
use Rattle.rz_lex.specs.declared.raw_line.RawLine.{RawLine}
use Rattle.rz_lex.specs.declared.token.Token.{Token}
use Rattle.rz_lex.proofs.EveryText.{has_lines}

-- the lines up to here are done, and these are their tokens
pub record LexedTo (file : ℕ) (text here : List Placed) (tokens : List Token) : Type 0 where
  pub done : List RawLine
  pub cut : CutInto done tokens
  pub reads : (lines : List RawLine) (ending : Option Fault) → HasLines file here lines ending → HasLines file text (done ++ lines) ending

pub none_lexed : (file : ℕ) (text : List Placed) → LexedTo file text text []
none_lexed file text = record { done = []; cut = refl; reads = λ lines ending has. has }

cut_more : (lines : List RawLine) (line : RawLine) (tokens more : List Token) → CutInto lines tokens → Cuts line.mark line.bytes more
    → CutInto (lines ++ line ∷ []) (tokens ++ more)
cut_more [] line tokens more cut cuts = (more, [], ap (λ (l : List Token). l ++ more) cut ∙ sym (append-nil more), cuts, refl)
cut_more (first ∷ lines) line tokens more cut cuts =
    (cut.0, cut.1 ++ more, ap (λ (l : List Token). l ++ more) cut.2 ∙ append_assoc cut.0 cut.1 more, cut.3, cut_more lines line cut.1 more cut.4 cuts)

bad_behind : (lines rest : List RawLine) (tokens : List Token) (ending : Option Fault) (fault : Fault) → CutInto lines tokens
    → FirstBad rest ending fault → FirstBad (lines ++ rest) ending fault
bad_behind [] rest tokens ending fault cut bad = bad
bad_behind (line ∷ lines) rest tokens ending fault cut bad = inr (cut.0, cut.3, bad_behind lines rest cut.1 ending fault cut.4 bad)

module _ (file : ℕ) (text here : List Placed) (tokens : List Token) (so : LexedTo file text here tokens) where
  pub lexed_all : HasLines file here [] None → Lexes file text tokens
  lexed_all has = (so.done, subst (λ (lines : List RawLine). HasLines file text lines None) (append-nil so.done) (so.reads [] None has), so.cut)

  pub lexed_more : (after : List Placed) (line : RawLine) (more : List Token) → StandsBefore file here line after → Cuts line.mark line.bytes more
      → LexedTo file text after (tokens ++ more)
  lexed_more after line more next cuts = record {
    done = so.done ++ line ∷ [];
    cut = cut_more so.done line tokens more so.cut cuts;
    reads = λ lines ending has. subst (λ (all : List RawLine). HasLines file text all ending) (sym (append_assoc so.done (line ∷ []) lines))
        (so.reads (line ∷ lines) ending (next lines ending has));
  }

  bad_line : (after : List Placed) (line : RawLine) (fault : Fault) → StandsBefore file here line after → Refuses line.mark line.bytes fault → LexFails file text fault
  bad_line after line fault next refuses =
      let rest = has_lines file after in
      (so.done ++ line ∷ rest.0, rest.1, so.reads (line ∷ rest.0) rest.1 (next rest.0 rest.1 rest.2), bad_behind so.done (line ∷ rest.0) tokens rest.1 fault so.cut (inl refuses))

  pub stopped_in_line : (after : List Placed) (line : RawLine) (stop : Stop Fault) → StandsBefore file here line after
      → OnFault {X = Unit {0}} {F = Fault} (Err stop) (Refuses line.mark line.bytes) → OnFault {X = Unit {0}} {F = Fault} (Err stop) (LexFails file text)
  stopped_in_line after line (Refused fault) next refuses = bad_line after line fault next refuses
  stopped_in_line after line NoMemory next refuses = tt

  pub stopped_at_comment : (stop : Stop Fault) → OnFault {X = Unit {0}} {F = Fault} (Err stop) (HasOpenComment file here []) → OnFault {X = Unit {0}} {F = Fault} (Err stop) (LexFails file text)
  stopped_at_comment (Refused fault) open_comment = (so.done ++ [], Some fault, so.reads [] (Some fault) open_comment, bad_behind so.done [] tokens (Some fault) fault so.cut refl)
  stopped_at_comment NoMemory open_comment = tt
