-- Places are told by the entries before them.
use Rattle.std.proofs.Common.{◌≡◌, List, [], ◌∷◌, ◌++◌, Option, Some, refl, sym, ap, ◌∙◌}
use Rattle.std.specs.Prelude.{option_map, option_and_then}
use Rattle.rz_tmpl.specs.Items.{at, count, entries_before, entries_of, inside, list, none, one, Items, Place}
use Rattle.rz_tmpl.specs.Bodies.{append, behind}
use Rattle.rz_tmpl.specs.declared.entry.CountForm.{CountForm}
use Rattle.rz_tmpl.specs.declared.entry.Entry.{Entry}
use Rattle.rz_tmpl.specs.declared.entry.Entry.TheVariants.{Count, End, One, Start}
use Rattle.rz_tmpl.specs.declared.entry.ListForm.{ListForm}
use Rattle.rz_tmpl.specs.declared.entry.Plain.{Plain}

-- the place after several entries
abbrev pub behind_all : Place → List Entry → Option Place
behind_all place [] = Some place
behind_all place (entry ∷ entries) = option_and_then (λ next. behind_all next entries) (behind place entry)

pub append_none : (a : Items) → append a none ≡ a
append_none none = refl
append_none (one plain rest) = ap (one plain) (append_none rest)
append_none (count less rest) = ap (count less) (append_none rest)
append_none (list form row rest) = ap (list form row) (append_none rest)

append_append : (a b c : Items) → append (append a b) c ≡ append a (append b c)
append_append none b c = refl
append_append (one plain rest) b c = ap (one plain) (append_append rest b c)
append_append (count less rest) b c = ap (count less) (append_append rest b c)
append_append (list form row rest) b c = ap (list form row) (append_append rest b c)

-- items after a place
abbrev pub with : Place → Items → Place
with (at items) more = at (append items more)
with (inside before form place) more = inside before form (with place more)

with_none : (p : Place) → with p none ≡ p
with_none (at items) = ap at (append_none items)
with_none (inside before form place) = ap (inside before form) (with_none place)

with_with : (p : Place) (a b : Items) → with (with p a) b ≡ with p (append a b)
with_with (at items) a b = ap at (append_append items a b)
with_with (inside before form place) a b = ap (inside before form) (with_with place a b)

-- a place with a list open at its end
abbrev pub opened : Place → ListForm → Place
opened (at items) form = inside items form (at none)
opened (inside before other place) form = inside before other (opened place form)

pub plain_step : (p : Place) (plain : Plain) → behind p (One plain) ≡ Some (with p (one plain none))
plain_step (at items) plain = refl
plain_step (inside before form place) plain = ap (option_map (inside before form)) (plain_step place plain)

pub count_step : (p : Place) (less : CountForm) → behind p (Count less) ≡ Some (with p (count less none))
count_step (at items) less = refl
count_step (inside before form place) less = ap (option_map (inside before form)) (count_step place less)

pub start_step : (p : Place) (form : ListForm) → behind p (Start form) ≡ Some (opened p form)
start_step (at items) form = refl
start_step (inside before other place) form = ap (option_map (inside before other)) (start_step place form)

pub end_step : (p : Place) (form : ListForm) (row : Items) → behind (with (opened p form) row) End ≡ Some (with p (list form row none))
end_step (at items) form row = refl
end_step (inside before other (at items)) form row = refl
end_step (inside before other (inside more again place)) form row = ap (option_map (inside before other)) (end_step (inside more again place) form row)

pub items_step : (p : Place) (items : Items) (es : List Entry) → behind_all p (entries_of items ++ es) ≡ behind_all (with p items) es
items_step p none es = ap (λ q. behind_all q es) (sym (with_none p))
items_step p (one plain rest) es =
    ap (option_and_then (λ next. behind_all next (entries_of rest ++ es))) (plain_step p plain)
    ∙ items_step (with p (one plain none)) rest es ∙ ap (λ q. behind_all q es) (with_with p (one plain none) rest)
items_step p (count less rest) es =
    ap (option_and_then (λ next. behind_all next (entries_of rest ++ es))) (count_step p less)
    ∙ items_step (with p (count less none)) rest es ∙ ap (λ q. behind_all q es) (with_with p (count less none) rest)
items_step p (list form row rest) es =
    ap (option_and_then (λ next. behind_all next ((entries_of row ++ End ∷ entries_of rest) ++ es))) (start_step p form)
    ∙ ap (behind_all (opened p form)) (joined (entries_of row) (End ∷ entries_of rest) es)
    ∙ items_step (opened p form) row (End ∷ (entries_of rest ++ es))
    ∙ ap (option_and_then (λ next. behind_all next (entries_of rest ++ es))) (end_step p form row)
    ∙ items_step (with p (list form row none)) rest es ∙ ap (λ q. behind_all q es) (with_with p (list form row none) rest)
  where
    joined : (a b c : List Entry) → (a ++ b) ++ c ≡ a ++ (b ++ c)
    joined [] b c = refl
    joined (x ∷ xs) b c = ap (λ l. x ∷ l) (joined xs b c)

-- one place after another, in the innermost list
abbrev within : Place → Place → Place
within (at items) (at more) = at (append items more)
within (at items) (inside before form place) = inside (append items before) form place
within (inside before form p) q = inside before form (within p q)

within_opened : (p : Place) (before : Items) (form : ListForm) (q : Place) → within (opened (with p before) form) q ≡ within p (inside before form q)
within_opened (at items) before form (at more) = refl
within_opened (at items) before form (inside more other place) = refl
within_opened (inside more other place) before form q = ap (inside more other) (within_opened place before form q)

within_at : (p : Place) (items : Items) → with p items ≡ within p (at items)
within_at (at more) items = refl
within_at (inside before form place) items = ap (inside before form) (within_at place items)

place_step : (p q : Place) (es : List Entry) → behind_all p (entries_before q ++ es) ≡ behind_all (within p q) es
place_step p (at items) es = items_step p items es ∙ ap (λ q. behind_all q es) (within_at p items)
place_step p (inside before form q) es =
    ap (behind_all p) (joined (entries_of before) (Start form ∷ entries_before q) es)
    ∙ items_step p before (Start form ∷ (entries_before q ++ es))
    ∙ ap (option_and_then (λ next. behind_all next (entries_before q ++ es))) (start_step (with p before) form)
    ∙ place_step (opened (with p before) form) q es
    ∙ ap (λ q. behind_all q es) (within_opened p before form q)
  where
    joined : (a b c : List Entry) → (a ++ b) ++ c ≡ a ++ (b ++ c)
    joined [] b c = refl
    joined (x ∷ xs) b c = ap (λ l. x ∷ l) (joined xs b c)

all_of : (es : List Entry) → es ++ [] ≡ es
all_of [] = refl
all_of (x ∷ xs) = ap (λ l. x ∷ l) (all_of xs)

within_none : (q : Place) → within (at none) q ≡ q
within_none (at items) = refl
within_none (inside before form place) = refl

pub one_place : (q : Place) → behind_all (at none) (entries_before q) ≡ Some q
one_place q = ap (behind_all (at none)) (sym (all_of (entries_before q))) ∙ place_step (at none) q [] ∙ ap Some (within_none q)
