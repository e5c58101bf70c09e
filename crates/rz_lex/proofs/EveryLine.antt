-- Every line has its tokens or its first fault.
use Rattle.std.proofs.Common.{◌≡◌, ◌≢◌, ℕ, zero, suc, ◌<◌, ◌≤◌, Bool, true, false, ◌⊎◌, inl, inr, List, [], ◌∷◌, Option, Some, None, Result, Ok, Err, length, refl, arith}
use Rattle.std.specs.Prelude.{if◌then◌else◌}
use Rattle.rz_core.specs.declared.fault.Fault.{Fault}
use Rattle.rz_core.specs.declared.fault.Mark.{Mark}
use Rattle.rz_lex.specs.Classes.{is_blank}
use Rattle.rz_lex.specs.Cutting.{after_blanks, Cuts, IsBad, Next, Refuses}
use Rattle.rz_lex.specs.Extent.{is_lexeme, Longest}
use Rattle.rz_lex.specs.Printed.{token_of}
use Rattle.rz_lex.specs.Scan.{after_lexeme}
use Rattle.rz_lex.specs.Shape.{no_lexeme_fault, shape_of}
use Rattle.rz_lex.specs.declared.token.Shape.{Shape}
use Rattle.rz_lex.specs.declared.token.Token.{Token}
use Rattle.rz_lex.proofs.Ends.{ends_lexeme, Ends}
use Rattle.rz_lex.proofs.Steps.{longest_shorter}
use Rattle.rz_lex.proofs.WordsBack.{token_more}

-- the line has its tokens or its first fault
abbrev pub IsCut : Mark → List ℕ → Type 0
IsCut mark line = ((tokens : List Token) × Cuts mark line tokens) ⊎ ((fault : Fault) × Refuses mark line fault)

if_short : (test : Bool) (one other : List ℕ) (n : ℕ) → length one ≤ n → length other ≤ n → length (if test then one else other) ≤ n
if_short true one other n here there = here
if_short false one other n here there = there

-- after the blanks stands no more than the line
blanks_short : (line : List ℕ) → length (after_blanks line) ≤ length line
blanks_short [] = omega arith
blanks_short (b ∷ bs) =
    let less = blanks_short bs in
    if_short (is_blank b) (after_blanks bs) (b ∷ bs) (length (b ∷ bs)) (omega (arith, less)) (omega arith)

module _ (mark : Mark) (line : List ℕ) where
  -- a token, and then what has its tokens or its first fault
  behind_token : (after : List ℕ) (token : Token) → Next mark line token after → IsCut mark after → IsCut mark line
  behind_token after token next (inl cut) = inl (token ∷ cut.0, token_more mark line after token cut.0 next cut.1)
  behind_token after token next (inr refused) = inr (
    refused.0,
    record {
      tokens = token ∷ refused.1.tokens;
      rest = refused.1.rest;
      leads = (after, next, refused.1.leads);
      some = refused.1.some;
      bad = refused.1.bad;
    },
  )

  -- the first thing in the line has a fault
  at_fault : (fault : Fault) → after_blanks line ≢ [] → IsBad mark (after_blanks line) fault → IsCut mark line
  at_fault fault there bad = inr (fault, record { tokens = []; rest = line; leads = refl; some = there; bad = bad })

  -- the longest lexeme has a shape or a fault
  by_shape : (lexeme after : List ℕ) (result : Result Shape Fault) → after_blanks line ≢ [] → Longest is_lexeme (after_blanks line) lexeme after
      → shape_of mark lexeme ≡ result → IsCut mark after → IsCut mark line
  by_shape lexeme after (Ok shape) there longest is rest =
      behind_token after (token_of mark shape) (record { lexeme = lexeme; longest = longest; shape = is; place = refl }) rest
  by_shape lexeme after (Err fault) there longest is rest = at_fault fault there (inr (lexeme, after, longest, is))

  -- there is a longest lexeme or none
  by_lexeme : (end : Option (List ℕ)) → after_blanks line ≢ [] → Ends is_lexeme (after_blanks line) end
      → ((after : List ℕ) → length after < length line → IsCut mark after) → IsCut mark line
  by_lexeme None there none further = at_fault (no_lexeme_fault mark (after_blanks line)) there (inl (none, refl))
  by_lexeme (Some after) there ends further =
      let less = longest_shorter (after_blanks line) ends.0 after ends.1 in
      let short = blanks_short line in
      by_shape ends.0 after (shape_of mark ends.0) there ends.1 refl (further after (omega (arith, less, short)))

  -- after the blanks stands something or nothing
  by_rest : (rest : List ℕ) → after_blanks line ≡ rest → ((after : List ℕ) → length after < length line → IsCut mark after) → IsCut mark line
  by_rest [] is further = inl ([], (line, refl, is))
  by_rest (b ∷ bs) is further = by_lexeme (after_lexeme (after_blanks line)) (λ e. absurd cc) (ends_lexeme (after_blanks line)) further

-- a line of at most so many bytes
short_line : (n : ℕ) (mark : Mark) (line : List ℕ) → length line ≤ n → IsCut mark line
short_line zero mark line h = by_rest mark line (after_blanks line) refl (λ after less. absurd (omega (arith, less, h)))
short_line (suc n) mark line h = by_rest mark line (after_blanks line) refl (λ after less. short_line n mark after (omega (arith, less, h)))

pub every_line : (mark : Mark) (line : List ℕ) → IsCut mark line
every_line mark line = short_line (length line) mark line (omega arith)
