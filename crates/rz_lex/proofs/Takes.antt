-- A part of each kind, taken from the front of a text.
use Rattle.std.proofs.Common.{◌≡◌, ℕ, Bool, true, false, List, [], ◌∷◌, ◌++◌, drop, Some, refl, sym, ap, subst, ◌∙◌, append_assoc}
use Rattle.std.specs.Prelude.{◌==◌, ◌&&◌, ◌||◌, if◌then◌else◌}
use Rattle.std.proofs.lemmas.Bool.{eqb-true, ne_eqb}
use Rattle.std.proofs.lemmas.List.{map-append, append_cancel_right}
use Rattle.rz_core.proofs.Tests.{both}
use Rattle.rz_lex.specs.declared.joined.Placed.{Placed}
use Rattle.rz_lex.specs.Classes.{is_quote}
use Rattle.rz_lex.specs.Joined.{is_at}
use Rattle.rz_lex.specs.Cover.{after_close, after_text, after_quote, begins, bytes_of, TakesPart}
use Rattle.rz_lex.proofs.Fronts.{close_front, text_front, quote_front}

and_false : (b : Bool) → b && false ≡ false
and_false true = refl
and_false false = refl

-- a comment up to the first `*/`
block_here : (to mid : List Placed) (a b : Placed) (old new : List ℕ) → a.byte ≡ 47 → b.byte ≡ 42 → after_close mid ≡ Some to → new ≡ old ++ 32 ∷ []
    → TakesPart (a ∷ b ∷ mid) to old new
block_here to mid a b old new slash star closed pushed =
    let f = close_front mid to closed in
    record {
      part = a ∷ b ∷ f.0;
      whole = ap (λ (ys : List Placed). a ∷ b ∷ ys) f.1;
      after = rw (slash, star) closed;
      inside = rw slash refl;
      there = λ none. absurd cc;
      left = rw (slash, star) pushed;
    }

pub block_part : (from to : List Placed) (old new : List ℕ) → begins 47 42 from ≡ true → after_close (drop 2 from) ≡ Some to → new ≡ old ++ 32 ∷ [] → TakesPart from to old new
block_part [] to old new h closed pushed = absurd cc
block_part (a ∷ []) to old new h closed pushed = absurd (let e : false ≡ true = sym (and_false (a.byte == 47)) ∙ h in cc)
block_part (a ∷ b ∷ mid) to old new h closed pushed =
    let t = both (a.byte == 47) (b.byte == 42) h in
    block_here to mid a b old new (eqb-true a.byte 47 t.0) (eqb-true b.byte 42 t.1) closed pushed

-- a comment up to the end of its line
slashes_here : (to mid : List Placed) (a b : Placed) (old new : List ℕ) → a.byte ≡ 47 → b.byte ≡ 47 → after_text (a ∷ b ∷ mid) ≡ to → new ≡ old ++ 32 ∷ []
    → TakesPart (a ∷ b ∷ mid) to old new
slashes_here to mid a b old new slash next ends pushed =
    let f = text_front mid in
    let skipped : after_text (a ∷ b ∷ mid) ≡ after_text mid = rw (slash, next) refl in
    let same : after_text mid ≡ to = sym skipped ∙ ends in
    record {
      part = a ∷ b ∷ f.0;
      whole = ap (λ (ys : List Placed). a ∷ b ∷ ys) f.1 ∙ ap (λ (ys : List Placed). a ∷ b ∷ (f.0 ++ ys)) same;
      after = rw (slash, next) (ap (λ (ys : List Placed). Some ys) same);
      inside = rw slash refl;
      there = λ none. absurd cc;
      left = rw (slash, next) pushed;
    }

pub slashes_part : (from to : List Placed) (old new : List ℕ) → begins 47 47 from ≡ true → after_text from ≡ to → new ≡ old ++ 32 ∷ [] → TakesPart from to old new
slashes_part [] to old new h ends pushed = absurd cc
slashes_part (a ∷ []) to old new h ends pushed = absurd (let e : false ≡ true = sym (and_false (a.byte == 47)) ∙ h in cc)
slashes_part (a ∷ b ∷ mid) to old new h ends pushed =
    let t = both (a.byte == 47) (b.byte == 47) h in
    slashes_here to mid a b old new (eqb-true a.byte 47 t.0) (eqb-true b.byte 47 t.1) ends pushed

-- a single byte, which is no line end
single_here : (rest : List Placed) (a : Placed) (old new : List ℕ) → begins 47 42 (a ∷ rest) ≡ false → begins 47 47 (a ∷ rest) ≡ false
    → is_quote a.byte ≡ false → is_at 10 (a ∷ rest) ≡ false → new ≡ old ++ a.byte ∷ [] → TakesPart (a ∷ rest) rest old new
single_here rest a old new block slashes bare inside pushed = record {
  part = a ∷ [];
  whole = refl;
  after = rw (block, slashes, bare) refl;
  inside = inside;
  there = λ none. absurd cc;
  left = pushed ∙ rw (and_false (a.byte == 47)) refl;
}

-- a quoted part
quote_is_no_slash : (b : ℕ) → is_quote b ≡ true → b ≡ 47 → ⊥
quote_is_no_slash b quote e = let h : is_quote 47 ≡ true = rw e at quote in cc

no_slash : (b : ℕ) (x y : List ℕ) (s t : Bool) → is_quote b ≡ true → (if (b == 47 && s) || (b == 47 && t) then x else y) ≡ y
no_slash b x y s t quote = rw (ne_eqb b 47 (quote_is_no_slash b quote)) refl

quoted_here : (to rest : List Placed) (a : Placed) (old pushed new : List ℕ) → begins 47 42 (a ∷ rest) ≡ false → begins 47 47 (a ∷ rest) ≡ false
    → is_quote a.byte ≡ true → is_at 10 (a ∷ rest) ≡ false → after_quote a.byte rest ≡ to
    → pushed ≡ old ++ a.byte ∷ [] → pushed ++ bytes_of rest ≡ new ++ bytes_of to → TakesPart (a ∷ rest) to old new
quoted_here to rest a old pushed new block slashes quote inside ends mark copied =
    let f = quote_front a.byte rest in
    let whole : rest ≡ f.0 ++ to = f.1 ∙ ap (λ (ys : List Placed). f.0 ++ ys) ends in
    let split : pushed ++ bytes_of rest ≡ (pushed ++ bytes_of f.0) ++ bytes_of to =
    ap (λ (ys : List Placed). pushed ++ bytes_of ys) whole
    ∙ ap (λ (ys : List ℕ). pushed ++ ys) (map-append (λ (i : Placed). i.byte) f.0 to)
    ∙ sym (append_assoc pushed (bytes_of f.0) (bytes_of to)) in
    let text : new ≡ pushed ++ bytes_of f.0 = append_cancel_right new (pushed ++ bytes_of f.0) (bytes_of to) (sym copied ∙ split) in
    record {
      part = a ∷ f.0;
      whole = ap (λ (ys : List Placed). a ∷ ys) whole;
      after = rw (block, slashes, quote) (ap (λ (ys : List Placed). Some ys) ends);
      inside = inside;
      there = λ none. absurd cc;
      left = text ∙ rw mark (append_assoc old (a.byte ∷ []) (bytes_of f.0))
          ∙ ap (λ (ys : List ℕ). old ++ ys) (sym (no_slash (a.byte) (32 ∷ []) (bytes_of (a ∷ f.0)) (is_at 42 f.0) (is_at 47 f.0) quote));
    }

-- The same, of a text that is its first byte and what follows.
module _ (from rest : List Placed) (a : Placed) (is : from ≡ a ∷ rest) (block : begins 47 42 from ≡ false) (slashes : begins 47 47 from ≡ false) (inside : is_at 10 from ≡ false) where
  pub single_part : (old new : List ℕ) → is_quote a.byte ≡ false → new ≡ old ++ a.byte ∷ [] → TakesPart from rest old new
  single_part old new bare pushed = subst (λ (x : List Placed). TakesPart x rest old new) (sym is)
      (single_here rest a old new (subst (λ (x : List Placed). begins 47 42 x ≡ false) is block) (subst (λ (x : List Placed). begins 47 47 x ≡ false) is slashes)
      bare (subst (λ (x : List Placed). is_at 10 x ≡ false) is inside) pushed)

  pub quoted_part : (to : List Placed) (old pushed new : List ℕ) → is_quote a.byte ≡ true → after_quote a.byte rest ≡ to
      → pushed ≡ old ++ a.byte ∷ [] → pushed ++ bytes_of rest ≡ new ++ bytes_of to → TakesPart from to old new
  quoted_part to old pushed new quote ends mark copied = subst (λ (x : List Placed). TakesPart x to old new) (sym is)
      (quoted_here to rest a old pushed new (subst (λ (x : List Placed). begins 47 42 x ≡ false) is block) (subst (λ (x : List Placed). begins 47 47 x ≡ false) is slashes)
      quote (subst (λ (x : List Placed). is_at 10 x ≡ false) is inside) ends mark copied)
