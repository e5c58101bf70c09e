-- A text is read in one way.
use Rattle.std.proofs.Common.{◌≡◌, ℕ, List, [], ◌∷◌, ◌++◌, Option, Some, None, refl, sym, ap, subst, ◌∙◌}
use Rattle.std.proofs.lemmas.List.{append_cancel_right}
use Rattle.rz_core.specs.declared.fault.Fault.{Fault}
use Rattle.rz_lex.specs.declared.joined.Placed.{Placed}
use Rattle.rz_lex.specs.declared.raw_line.RawLine.{RawLine}
use Rattle.rz_lex.specs.Cover.{after_part, Parts}
use Rattle.rz_lex.specs.Lines.{lines_of, open_comment, HasLines}

same_rest : (text y z : List Placed) → after_part text ≡ Some y → after_part text ≡ Some z → y ≡ z
same_rest text y z p q = cc

-- two rows of first parts after which no part stands
pub one_row : (text rest end : List Placed) (ps qs : List (List Placed)) → Parts text ps end → Parts text qs rest → after_part end ≡ None → after_part rest ≡ None → (ps ≡ qs) × (end ≡ rest)
one_row text rest end [] [] p q done stuck = (refl, sym p ∙ q)
one_row text rest end [] (b ∷ qs) p q done stuck = absurd (let h : after_part text ≡ None = ap after_part p ∙ done in let k = q.2 in cc)
one_row text rest end (a ∷ ps) [] p q done stuck = absurd (let h : after_part text ≡ None = ap after_part q ∙ stuck in let k = p.2 in cc)
one_row text rest end (a ∷ ps) (b ∷ qs) p q done stuck =
    let e = same_rest text p.0 q.0 p.2 q.2 in
    let a-is : a ≡ b = append_cancel_right a b q.0 (ap (λ (y : List Placed). a ++ y) (sym e) ∙ sym p.1 ∙ q.1) in
    let r = one_row p.0 rest end ps qs p.3 (subst (λ (y : List Placed). Parts y qs rest) (sym e) q.3) done stuck in
    (ap (λ (x : List Placed). x ∷ ps) a-is ∙ ap (λ (xs : List (List Placed)). b ∷ xs) r.0, r.1)

same_last : (xs ys : List RawLine) (x y : RawLine) → xs ++ x ∷ [] ≡ ys ++ y ∷ [] → (xs ≡ ys) × (x ≡ y)
same_last [] [] x y e = (refl, cc)
same_last [] (b ∷ []) x y e = absurd cc
same_last [] (b ∷ c ∷ ys) x y e = absurd cc
same_last (a ∷ []) [] x y e = absurd cc
same_last (a ∷ b ∷ xs) [] x y e = absurd cc
same_last (a ∷ xs) (b ∷ ys) x y e =
    let h : a ≡ b = cc in
    let r = same_last xs ys x y cc in
    (ap (λ (k : RawLine). k ∷ xs) h ∙ ap (λ (ks : List RawLine). b ∷ ks) r.0, r.1)

pub one_reading : (file : ℕ) (text : List Placed) (lines others : List RawLine) (ending other : Option Fault) → HasLines file text lines ending → HasLines file text others other
    → (lines ≡ others) × (ending ≡ other)
one_reading file text lines others None None p q =
    (p.are ∙ ap (lines_of file) (one_row text [] [] p.parts q.parts p.cover q.cover refl refl).0 ∙ sym q.are, refl)
one_reading file text lines others None (Some g) p q = absurd (q.there (sym (one_row text q.comment [] p.parts q.parts p.cover q.before refl q.endless).1))
one_reading file text lines others (Some f) None p q = absurd (p.there (one_row text [] p.comment p.parts q.parts p.before q.cover p.endless refl).1)
one_reading file text lines others (Some f) (Some g) p q =
    let r = one_row text q.comment p.comment p.parts q.parts p.before q.before p.endless q.endless in
    let e : lines_of file (p.parts ++ p.comment ∷ []) ≡ lines_of file (q.parts ++ q.comment ∷ []) =
    ap (λ (ps : List (List Placed)). lines_of file (ps ++ p.comment ∷ [])) r.0 ∙ ap (λ (x : List Placed). lines_of file (q.parts ++ x ∷ [])) r.1 in
    let s = same_last lines others p.last q.last (sym p.are ∙ e ∙ q.are) in
    (s.0, ap (λ (x : Fault). Some x) (p.is ∙ ap (λ (l : RawLine). open_comment l.mark) s.1 ∙ sym q.is))
