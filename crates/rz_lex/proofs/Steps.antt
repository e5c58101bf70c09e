-- One token more of a line, or its fault.
use Rattle.std.proofs.Common.{◌≡◌, ℕ, false, true, List, [], ◌∷◌, ◌++◌, Ok, Err, inr, refl, sym, subst, ap, ◌∙◌, length, ◌<◌, arith, length-append}
use Rattle.std.specs.Prelude.{◌==◌, IsErrAnd}
use Rattle.std.specs.declared.result.Result.{Result}
use Rattle.std.proofs.lemmas.Bool.{false≢true}
use Rattle.std.proofs.lemmas.Bool.Decides.{nat_tests}
use Rattle.std.proofs.lemmas.List.{nil_from_length}
use Rattle.rz_core.specs.Stop.{Gives, OnFault}
use Rattle.rz_core.specs.declared.stop.Stop.{Stop}
use Rattle.rz_core.specs.declared.stop.Stop.TheVariants.{Refused, NoMemory}
use Rattle.rz_core.specs.declared.fault.Mark.{Mark}
use Rattle.rz_core.specs.declared.fault.Fault.{Fault}
use Rattle.rz_lex.specs.Extent.{is_lexeme, Longest}
use Rattle.rz_lex.specs.Shape.{shape_of}
use Rattle.rz_lex.specs.Cutting.{after_blanks, Cuts, Leads, Next, IsBad, Refuses}
use Rattle.rz_lex.specs.declared.token.Token.{Token}

pub leads_more : (mark : Mark) (line : List ℕ) (tokens : List Token) (rest after : List ℕ) (token : Token) → Leads mark line tokens rest → Next mark rest token after → Leads mark line (tokens ++ token ∷ []) after
leads_more mark line [] rest after token leads next = (after, subst (λ r. Next mark r token after) (sym leads) next, refl)
leads_more mark line (t ∷ ts) rest after token leads next = (leads.0, leads.1, leads_more mark leads.0 ts rest after token leads.2 next)

-- a lexeme takes a byte at least
pub longest_shorter : (rest lexeme after : List ℕ) → Longest is_lexeme rest lexeme after → length after < length rest
longest_shorter rest [] after longest = absurd (false≢true longest.passes)
longest_shorter rest (b ∷ bs) after longest = omega (arith, ap length longest.whole, length-append (b ∷ bs) after)

-- a refusal for one reason is one for another, where that follows
pub refused_so : {F : Type 0} (X : Type 0) (stop : Stop F) (P Q : F → Type 0) → ((fault : F) → P fault → Q fault) → OnFault {X = Unit {0}} {F = F} (Err stop) P → OnFault {X = X} {F = F} (Err stop) Q
refused_so X (Refused fault) P Q so is = so fault is
refused_so X NoMemory P Q so is = tt

-- the fault that a lexeme has is that of the place where it stands
pub bad_lexeme : (mark : Mark) (rest lexeme after : List ℕ) (stop : Stop Fault) → Longest is_lexeme rest lexeme after → Gives (shape_of mark lexeme) (Err stop) → OnFault {X = Unit {0}} {F = Fault} (Err stop) (IsBad mark rest)
bad_lexeme mark rest lexeme after (Refused fault) longest is = inr (lexeme, after, longest, is)
bad_lexeme mark rest lexeme after NoMemory longest is = tt

-- after these tokens of the line and the blanks after them stands the rest
pub record Reaches (mark : Mark) (line : List ℕ) (tokens : List Token) (rest : List ℕ) : Type 0 where
  pub place : List ℕ
  pub leads : Leads mark line tokens place
  pub blanks : rest ≡ after_blanks place

-- before the first token
pub reaches_start : (mark : Mark) (line : List ℕ) (tokens : List Token) (rest : List ℕ) → tokens ≡ [] → rest ≡ after_blanks line → Reaches mark line tokens rest
reaches_start mark line tokens rest none same = record { place = line; leads = subst (λ (ts : List Token). Leads mark line ts line) (sym none) refl; blanks = same }

-- one token more
pub reaches_more : (mark : Mark) (line : List ℕ) (tokens : List Token) (rest after later : List ℕ) (token : Token) → Reaches mark line tokens rest
    → (lexeme : List ℕ) × Longest is_lexeme rest lexeme after × (shape_of mark lexeme ≡ Ok token.shape) × (token.mark ≡ mark)
    → later ≡ after_blanks after → Reaches mark line (tokens ++ token ∷ []) later
reaches_more mark line tokens rest after later token before read same = record {
  place = after;
  leads = leads_more mark line tokens before.place after token before.leads
      (record { lexeme = read.0; longest = subst (λ r. Longest is_lexeme r read.0 after) before.blanks read.1; shape = read.2; place = read.3 });
  blanks = same;
}

-- nothing is left: these are all tokens of the line
pub reaches_end : (mark : Mark) (line : List ℕ) (tokens : List Token) (rest : List ℕ) → Reaches mark line tokens rest → true ≡ (length rest == 0) → Cuts mark line tokens
reaches_end mark line tokens rest before empty = (before.place, before.leads, sym before.blanks ∙ nil_from_length rest (grind (arith, nat_tests, empty)))

-- a fault after some tokens is the first of the line
pub refused_after : {X : Type 0} (mark : Mark) (line : List ℕ) (tokens : List Token) (rest : List ℕ) (stop : Stop Fault) → Reaches mark line tokens rest → false ≡ (length rest == 0)
    → OnFault {X = Unit {0}} {F = Fault} (Err stop) (IsBad mark rest) → (result : Result X (Stop Fault)) → IsErrAnd result (λ end. end ≡ stop) → OnFault result (Refuses mark line)
refused_after mark line tokens rest stop before some is (Ok value) ended = absurd ended
refused_after {X} mark line tokens rest stop before some is (Err other) ended = subst (λ (s : Stop Fault). OnFault {X = X} {F = Fault} (Err s) (Refuses mark line)) (sym ended)
    (refused_so X stop (IsBad mark rest) (Refuses mark line)
    (λ fault bad. record {
      tokens = tokens;
      rest = before.place;
      leads = before.leads;
      some = λ e. false≢true (some ∙ ap (λ (x : List ℕ). length x == 0) (before.blanks ∙ e));
      bad = subst (λ (x : List ℕ). IsBad mark x fault) before.blanks bad;
    }) is)
