-- The name of a data file, from the parts of a path.
use Rattle.std.proofs.Common.{◌≡◌, ◌≢◌, ℕ, ◌<◌, List, [], ◌∷◌, ◌++◌, length, get_or, Ok, Err, IfOk, refl, sym, ap, subst, ◌∙◌, inl, inr, arith, append_assoc, length-append, ◌⊎◌}
use Rattle.std.specs.Prelude.{codes}
use Rattle.std.specs.declared.result.Result.{Result}
use Rattle.rz_folder.specs.Temporary.{IsParted}
use Rattle.rz_bridge_files.specs.DataFile.{IsDataFile, IsDataName}
use Rattle.rz_bridge_files.specs.DataFile.IsDataName.{plain, other}

-- a name that was put together from the parts
module _ {X E : Type 0} (text : X → List ℕ) (result : Result X E) (folder slash last header : List ℕ) (parted : IsParted header (folder ++ slash) last) where
  abbrev NamedIn : X → Type 0
  NamedIn x = (own : List ℕ) × (text x ≡ folder ++ slash ++ own) × IsDataName last own

  pub named_file : IfOk result NamedIn → IfOk result (λ x. IsDataFile header (text x))
  named_file = by result
    where
      by : (r : Result X E) → IfOk r NamedIn → IfOk r (λ x. IsDataFile header (text x))
      by (Ok x) (own, is, named) = record { folder = folder ++ slash; last = last; own = own; parted = parted; named = named; is = is }
      by (Err fault) it = tt

-- lists that go on alike after one element
pub same_behind : (x : ℕ) (xs ys : List ℕ) → x ∷ xs ≡ x ∷ ys → xs ≡ ys
same_behind x xs ys is = cc is

-- One header file has one data file.

no_slash_there : (front last : List ℕ) (path : List ℕ) → ((k : ℕ) → k < length last → get_or last k 0 ≢ 47) → last ≡ front ++ 47 ∷ path → ⊥
no_slash_there front last path none is =
    none (length front) (omega (arith, ap (λ (bs : List ℕ). length bs) is, length-append front (47 ∷ path)))
    (ap (λ (bs : List ℕ). get_or bs (length front) 0) is ∙ at_end front path)
  where
    at_end : (xs ys : List ℕ) → get_or (xs ++ 47 ∷ ys) (length xs) 0 ≡ 47
    at_end [] ys = refl
    at_end (x ∷ xs) ys = at_end xs ys

-- Two folder parts of one path are the same: of the longer one the last slash would stand in the other's last name.
same_parts : (folder last twin behind : List ℕ) → folder ++ last ≡ twin ++ behind
    → ((k : ℕ) → k < length last → get_or last k 0 ≢ 47) → ((k : ℕ) → k < length behind → get_or behind k 0 ≢ 47)
    → (folder ≡ []) ⊎ ((front : List ℕ) × (folder ≡ front ++ 47 ∷ [])) → (twin ≡ []) ⊎ ((front : List ℕ) × (twin ≡ front ++ 47 ∷ []))
    → (folder ≡ twin) × (last ≡ behind)
same_parts [] last [] behind is none none_too ends ends_too = (refl, is)
same_parts [] last (y ∷ twin) behind is none none_too ends (inl empty) = absurd (cc empty)
same_parts [] last (y ∷ twin) behind is none none_too ends (inr (front, slash)) =
    absurd (no_slash_there front last behind none (is ∙ ap (λ (f : List ℕ). f ++ behind) slash ∙ append_assoc front (47 ∷ []) behind))
same_parts (x ∷ folder) last [] behind is none none_too (inl empty) ends_too = absurd (cc empty)
same_parts (x ∷ folder) last [] behind is none none_too (inr (front, slash)) ends_too =
    absurd (no_slash_there front behind last none_too (sym is ∙ ap (λ (f : List ℕ). f ++ last) slash ∙ append_assoc front (47 ∷ []) last))
same_parts (x ∷ folder) last (y ∷ twin) behind is none none_too ends ends_too =
    let rest = same_parts folder last twin behind (cc is) none none_too (shorter x folder ends) (shorter y twin ends_too) in
    let first : x ≡ y = cc is in
    ((λ i. first i ∷ rest.0 i), rest.1)
  where
    shorter : (z : ℕ) (zs : List ℕ) → (z ∷ zs ≡ []) ⊎ ((front : List ℕ) × (z ∷ zs ≡ front ++ 47 ∷ [])) → (zs ≡ []) ⊎ ((front : List ℕ) × (zs ≡ front ++ 47 ∷ []))
    shorter z zs (inl empty) = absurd (cc empty)
    shorter z zs (inr ([], same)) = inl (cc same)
    shorter z zs (inr (w ∷ front, same)) = inr (front, cc same)

pub one_parting : (path folder last twin behind : List ℕ) → IsParted path folder last → IsParted path twin behind → (folder ≡ twin) × (last ≡ behind)
one_parting path folder last twin behind is too =
    same_parts folder last twin behind (sym is.whole ∙ too.whole) is.no_slash too.no_slash is.ends too.ends

same_name : (last name also : List ℕ) → IsDataName last name → IsDataName last also → name ≡ also
same_name last name also (plain is some) (plain too some_too) = behind_two (sym is ∙ too)
  where
    behind_two : codes "._" ++ name ≡ codes "._" ++ also → name ≡ also
    behind_two same = cc same
same_name last name also (plain is some) (other none too) = absurd (none name some is)
same_name last name also (other none is) (plain too some) = absurd (none also some too)
same_name last name also (other none is) (other none_too too) = is ∙ sym too

pub one_name : (header name also : List ℕ) → IsDataFile header name → IsDataFile header also → name ≡ also
one_name header name also is too =
    let same = same_parts is.folder is.last too.folder too.last (sym is.parted.whole ∙ too.parted.whole) is.parted.no_slash too.parted.no_slash is.parted.ends too.parted.ends in
    is.is ∙ (λ i. same.0 i ++ same_name too.last is.own too.own (subst (λ (l : List ℕ). IsDataName l is.own) same.1 is.named) too.named i) ∙ sym too.is
