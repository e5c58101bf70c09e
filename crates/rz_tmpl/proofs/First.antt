-- The first entry of bytes, as the code reads it.
use Rattle.std.proofs.Common.{◌≡◌, ℕ, ◌+◌, ◌<◌, ◌≤◌, List, ◌∷◌, length, take, drop, get_or, Some, refl, sym, ap, ◌∙◌}
use Rattle.std.proofs.lemmas.List.{drop_more}
use Rattle.rz_tmpl.specs.Bodies.{IsNext}
use Rattle.rz_tmpl.specs.Entry.{entry_of}
use Rattle.rz_tmpl.specs.declared.entry.Entry.{Entry}

pub first_is : (bytes rest behind code : List ℕ) (label : ℕ) (entry : Entry) → 0 < length bytes → label ≡ get_or bytes 0 0 → rest ≡ drop 1 bytes → label + 4 ≤ length rest
    → behind ≡ drop label rest → code ≡ take 4 behind → entry_of code ≡ Some entry → IsNext bytes (record { entry = entry; length = label + 5 })
first_is bytes rest behind code label entry some is left fits back front known = record {
  label = label;
  more = rest;
  whole = drop_more bytes 0 0 some ∙ ap (λ (n : ℕ). n ∷ drop 1 bytes) (sym is) ∙ ap (λ (l : List ℕ). label ∷ l) (sym left);
  fits = fits;
  known = ap entry_of (sym (front ∙ ap (take 4) back)) ∙ known;
  length = refl;
}
