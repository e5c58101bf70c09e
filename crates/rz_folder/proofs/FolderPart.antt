-- The folder part of a path, from a split at the last slash, and the name of a temporary file in it.
use Rattle.std.proofs.Common.{◌≡◌, ◌≢◌, ℕ, ◌+◌, ◌<◌, ◌≤◌, List, [], ◌∷◌, ◌++◌, length, take, drop, get_or, codes, decimal, MatchOption, Some, None, refl, sym, ap, subst, ◌∙◌, inl, inr, arith, take-append-drop, append_assoc}
use Rattle.std.specs.declared.option.Option.{Option}
use Rattle.std.specs.Str.Pattern.{RFindsChar}
use Rattle.std.proofs.lemmas.Str.Pattern.{NoCharPasses-char, drop_at_char}
use Rattle.arrayvec.specs.ArrayString.{ArrayString}
use Rattle.rz_folder.specs.declared.temporary.TheConstants.{NAME_LIMIT}
use Rattle.rz_folder.specs.Temporary.{IsParted, IsNameBeside}

-- a path that was split at its last slash
pub split_is_parted : (path front back : List ℕ)
    → ((i : ℕ) × (j : ℕ) × RFindsChar 47 path (Some (i, j)) × (front ≡ take i path) × (back ≡ drop j path) × (i ≤ j) × (length front ≡ i) × (length back + j ≡ length path))
    → IsParted path (front ++ 47 ∷ []) back
split_is_parted path front back h =
    let i = h.0 in
    let j = h.1 in
    let parts : path ≡ (take i path ++ 47 ∷ []) ++ drop j path =
    sym (take-append-drop i path) ∙ ap (λ rest. take i path ++ rest) (drop_at_char 47 path i j h.2.1 (omega arith))
    ∙ sym (append_assoc (take i path) (47 ∷ []) (drop j path)) in
    record {
      whole = subst (λ f. path ≡ (f ++ 47 ∷ []) ++ back) (sym h.3) (subst (λ b. path ≡ (take i path ++ 47 ∷ []) ++ b) (sym h.4) parts);
      no_slash = subst (λ b. (k : ℕ) → k < length b → get_or b k 0 ≢ 47) (sym h.4) (λ k less. NoCharPasses-char 47 (drop j path) k h.2.0 (omega arith) less);
      ends = inr (front, refl);
    }

-- a path without a slash
pub whole_is_parted : (path : List ℕ) → RFindsChar 47 path None → IsParted path [] path
whole_is_parted path h = record {
  whole = refl;
  no_slash = λ k less. NoCharPasses-char 47 path k h (omega arith) less;
  ends = inl refl;
}

-- a name that was put together from the folder part, or is too long
pub named : (r : Option ArrayString) (path : List ℕ) (number : ℕ) (folder last : List ℕ) → IsParted path folder last
    → MatchOption r (NAME_LIMIT < length (folder ++ codes ".rezkit-" ++ decimal number)) (λ name. name.bytes ≡ folder ++ codes ".rezkit-" ++ decimal number)
    → MatchOption r ((name : List ℕ) × IsNameBeside path number name × (NAME_LIMIT < length name)) (λ name. IsNameBeside path number name.bytes)
named None path number folder last parted h =
    (folder ++ codes ".rezkit-" ++ decimal number, record { folder = folder; last = last; parted = parted; is = refl }, h)
named (Some name) path number folder last parted h = record { folder = folder; last = last; parted = parted; is = h }
