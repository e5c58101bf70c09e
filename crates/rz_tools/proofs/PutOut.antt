-- Lines that are cut into tokens, none of which is a live macro, put out these tokens.
use Rattle.std.proofs.Common.{◌≡◌, ℕ, true, false, List, [], ◌∷◌, ◌++◌, map, None, Ok, inl, refl, sym, ap, subst, ◌∙◌, arith, append_assoc}
use Rattle.std.specs.Prelude.{◌==◌}
use Rattle.std.specs.List.{AllByRecursion}
use Rattle.std.proofs.lemmas.Bool.{eqb-true, false≢true}
use Rattle.std.proofs.lemmas.List.{append-nil}
use Rattle.rz_core.specs.declared.fault.Mark.{Mark}
use Rattle.rz_lex.specs.Classes.{is_blank}
use Rattle.rz_lex.specs.Cutting.{after_blanks, Cuts}
use Rattle.rz_lex.specs.Extent.{is_lexeme}
use Rattle.rz_lex.specs.Printed.{token_of}
use Rattle.rz_lex.specs.Sign.{is_sign}
use Rattle.rz_lex.specs.declared.raw_line.RawLine.{RawLine}
use Rattle.rz_lex.specs.declared.token.Shape.{Shape}
use Rattle.rz_lex.specs.declared.token.Token.{Token}
use Rattle.rz_pre.specs.Expand.{Expansion}
use Rattle.rz_pre.specs.Expanded.{ExpandInto}
use Rattle.rz_pre.specs.Line.{Acts}
use Rattle.rz_pre.specs.Live.{body_of, Live}
use Rattle.rz_pre.specs.Program.{Includes, LinesGo, State}
use Rattle.rz_pre.specs.declared.act.Act.TheVariants.{Put}
use Rattle.rz_pre.specs.declared.condition.Tool.{Tool}
use Rattle.rz_show_lines.proofs.Pages.{tokens_of}
use Rattle.rz_show_lines.specs.Page.{AreCut}
use Rattle.rz_pre_source.specs.Directive.{behind_hash, unblanked}
use Rattle.rz_core.proofs.Tests.{by_test}

-- A line that has tokens is no directive.

same_blanks : (line : List ℕ) → unblanked line ≡ after_blanks line
same_blanks [] = refl
same_blanks (b ∷ line) = by_test (unblanked (b ∷ line) ≡ after_blanks (b ∷ line)) (is_blank b) (λ h. rw h (same_blanks line)) (λ h. rw h refl)

hash_alone : (bytes : List ℕ) → is_sign (35 ∷ bytes) ≡ false
hash_alone [] = refl
hash_alone (b ∷ []) = by_test (is_sign (35 ∷ b ∷ []) ≡ false) (b == 61)
    (λ h. rw h refl)
    (λ h. by_test (is_sign (35 ∷ b ∷ []) ≡ false) (35 == b) (λ k. rw (h, k) refl) (λ k. rw (h, k) refl))
hash_alone (b ∷ c ∷ bytes) = refl

no_hash : (lexeme after : List ℕ) → is_lexeme lexeme ≡ true → behind_hash (lexeme ++ after) ≡ None
no_hash [] after is = absurd (false≢true is)
no_hash (b ∷ bytes) after is = by_test (behind_hash ((b ∷ bytes) ++ after) ≡ None) (b == 35)
    (λ h. let lexeme : is_lexeme (35 ∷ bytes) ≡ true = subst (λ (x : ℕ). is_lexeme (x ∷ bytes) ≡ true) (eqb-true b 35 h) is in absurd (false≢true (sym (hash_alone bytes) ∙ lexeme)))
    (λ h. rw h refl)

no_directive : (mark : Mark) (line : List ℕ) (tokens : List Token) → Cuts mark line tokens → behind_hash (unblanked line) ≡ None
no_directive mark line [] cuts = ap behind_hash (same_blanks line ∙ ap after_blanks cuts.1 ∙ cuts.2)
no_directive mark line (token ∷ tokens) cuts =
    let longest = cuts.1.1.longest in
    ap behind_hash (same_blanks line ∙ longest.whole) ∙ no_hash cuts.1.1.lexeme cuts.1.0 longest.passes

-- Tokens that are no live macros.

abbrev pub AreBare : Live → List Shape → Type 0
AreBare live shapes = AllByRecursion (λ shape. body_of live shape ≡ None) shapes

expands : (live : Live) (mark : Mark) (shapes : List Shape) → AreBare live shapes → ExpandInto live (map (token_of mark) shapes) (map (token_of mark) shapes)
expands live mark [] bare = refl
expands live mark (shape ∷ shapes) bare = (
  token_of mark shape ∷ [],
  map (token_of mark) shapes,
  refl,
  record { shapes = shape ∷ []; work = 1; expansion = Expansion.bare bare.0 refl refl; few = omega arith; placed = refl },
  expands live mark shapes bare.1,
)

-- Lines.

abbrev pub with_tokens : State → List Token → State
with_tokens s tokens = record { live = s.live; tokens = s.tokens ++ tokens; files = s.files }

module _ (Reads : Includes) (tool : Tool) where
  pub lines_go : (lines : List RawLine) (shapes : List (List Shape)) (s : State) → AreCut lines shapes → AllByRecursion (AreBare s.live) shapes
      → LinesGo Reads tool lines None [] s (Ok (with_tokens s (tokens_of lines shapes)))
  lines_go [] [] s cut bare = ap (λ (x : List Token). Ok (record { live = s.live; tokens = x; files = s.files })) (append-nil s.tokens)
  lines_go [] (shapes ∷ more) s cut bare = absurd cut
  lines_go (line ∷ lines) [] s cut bare = absurd cut
  lines_go (line ∷ lines) (shapes ∷ more) s cut bare =
      let here = map (token_of line.mark) shapes in
      let after = with_tokens s here in
      let acts : Acts s.live tool None line.mark line.bytes (behind_hash (unblanked line.bytes)) (Ok (Put here)) =
      rw (no_directive line.mark line.bytes here cut.0) (inl (here, cut.0, inl (here, expands s.live line.mark shapes bare.0, refl))) in
      let behind = lines_go lines more after cut.1 bare.1 in
      inl (
        ([], after),
        inl (Put here, acts, refl),
        subst (λ (x : List Token). LinesGo Reads tool lines None [] after (Ok (record { live = s.live; tokens = x; files = s.files })))
            (append_assoc s.tokens here (tokens_of lines more)) behind,
      )
