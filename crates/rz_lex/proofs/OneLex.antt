-- A text is lexed in one way.
use Rattle.std.proofs.Common.{◌≡◌, ℕ, inl, inr, List, [], ◌∷◌, ◌++◌, Option, Some, None, sym, ap, subst, ◌∙◌}
use Rattle.rz_core.specs.declared.fault.Fault.{Fault}
use Rattle.rz_lex.specs.Lexed.{CutInto, FirstBad, Lexes, LexFails}
use Rattle.rz_lex.specs.declared.joined.Placed.{Placed}
use Rattle.rz_lex.specs.declared.raw_line.RawLine.{RawLine}
use Rattle.rz_lex.specs.declared.token.Token.{Token}
use Rattle.rz_lex.proofs.OneWay as line
use Rattle.rz_lex.proofs.OneCover.{one_reading}

cut_one : (lines : List RawLine) (tokens others : List Token) → CutInto lines tokens → CutInto lines others → tokens ≡ others
cut_one [] tokens others cut also = cut ∙ sym also
cut_one (first ∷ lines) tokens others cut also =
    cut.2
    ∙ ap (λ (l : List Token). l ++ cut.1) (line.one_list first.mark first.bytes cut.0 also.0 cut.3 also.3)
    ∙ ap (λ (l : List Token). also.0 ++ l) (cut_one lines cut.1 also.1 cut.4 also.4)
    ∙ sym also.2

bad_one : (lines : List RawLine) (ending : Option Fault) (fault other : Fault) → FirstBad lines ending fault → FirstBad lines ending other → fault ≡ other
bad_one [] None fault other bad also = absurd bad
bad_one [] (Some open_comment) fault other bad also = bad ∙ sym also
bad_one (first ∷ lines) ending fault other (inl bad) (inl also) = line.one_fault first.mark first.bytes fault other bad also
bad_one (first ∷ lines) ending fault other (inl bad) (inr also) = absurd (line.not_both first.mark first.bytes also.0 fault also.1 bad)
bad_one (first ∷ lines) ending fault other (inr bad) (inl also) = absurd (line.not_both first.mark first.bytes bad.0 other bad.1 also)
bad_one (first ∷ lines) ending fault other (inr bad) (inr also) = bad_one lines ending fault other bad.2 also.2

cut_or_bad : (lines : List RawLine) (tokens : List Token) (fault : Fault) → CutInto lines tokens → FirstBad lines None fault → ⊥
cut_or_bad [] tokens fault cut bad = bad
cut_or_bad (first ∷ lines) tokens fault cut (inl bad) = line.not_both first.mark first.bytes cut.0 fault cut.3 bad
cut_or_bad (first ∷ lines) tokens fault cut (inr bad) = cut_or_bad lines cut.1 fault cut.4 bad.2

pub one_text : (file : ℕ) (text : List Placed) (tokens others : List Token) → Lexes file text tokens → Lexes file text others → tokens ≡ others
one_text file text tokens others lexes also =
    let same = one_reading file text lexes.0 also.0 None None lexes.1 also.1 in
    cut_one also.0 tokens others (subst (λ (lines : List RawLine). CutInto lines tokens) same.0 lexes.2) also.2

pub one_failure : (file : ℕ) (text : List Placed) (fault other : Fault) → LexFails file text fault → LexFails file text other → fault ≡ other
one_failure file text fault other fails also =
    let same = one_reading file text fails.0 also.0 fails.1 also.1 fails.2 also.2 in
    bad_one also.0 also.1 fault other
    (subst (λ (lines : List RawLine). FirstBad lines also.1 fault) same.0
    (subst (λ (ending : Option Fault). FirstBad fails.0 ending fault) same.1 fails.3))
    also.3

pub text_or_failure : (file : ℕ) (text : List Placed) (tokens : List Token) (fault : Fault) → Lexes file text tokens → LexFails file text fault → ⊥
text_or_failure file text tokens fault lexes fails =
    let same = one_reading file text lexes.0 fails.0 None fails.1 lexes.1 fails.2 in
    cut_or_bad fails.0 tokens fault (subst (λ (lines : List RawLine). CutInto lines tokens) same.0 lexes.2)
    (subst (λ (ending : Option Fault). FirstBad fails.0 ending fault) (sym same.1) fails.3)
