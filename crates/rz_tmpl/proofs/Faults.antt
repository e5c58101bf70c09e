-- What is kept after an entry was kept before it, and the entry has no fault; and so the other way round.
use Rattle.std.proofs.Common.{◌≡◌, ℕ, zero, suc, Bool, true, false, Option, Some, None, refl, sym, ap, ◌∙◌}
use Rattle.std.specs.Prelude.{◌&&◌, not, if◌then◌else◌, option_map}
use Rattle.std.specs.Option.{is_none}
use Rattle.rz_tmpl.specs.Cut.{entry_fault, Standing}
use Rattle.rz_tmpl.specs.Items.{at, count, has_value, inside, is_kept, is_place_kept, list, may_start, none, one, waits, waits_behind, Items, Place}
use Rattle.rz_tmpl.specs.Bodies.{append, behind}
use Rattle.rz_tmpl.specs.declared.entry.CountForm.{CountForm}
use Rattle.rz_tmpl.specs.declared.entry.Entry.{Entry}
use Rattle.rz_tmpl.specs.declared.entry.Entry.TheVariants.{Count, End, One, Start}
use Rattle.rz_tmpl.specs.declared.entry.ListForm.{ListForm}
use Rattle.rz_tmpl.specs.declared.entry.ListForm.TheVariants.{Counted, Uncounted}
use Rattle.rz_tmpl.specs.declared.entry.Plain.{Plain}

abbrev pub four : (full outermost waiting valued : Bool) → Standing
four full outermost waiting valued = record { full = full; outermost = outermost; waiting = waiting; valued = valued }

-- no list more may be open
abbrev pub none_left : ℕ → Bool
none_left zero = true
none_left (suc left) = false

-- the fault of an entry at a place after which so many more lists may be open, in a list or in none
abbrev pub place_fault : (left : ℕ) (outermost : Bool) → Place → Entry → Option ℕ
place_fault left outermost (at items) entry = entry_fault (four (none_left left) outermost (waits false items) (has_value items)) entry
place_fault zero outermost (inside before form place) entry = None
place_fault (suc left) outermost (inside before form place) entry = place_fault left false place entry

abbrev pub Kept : ℕ → Bool → Place → Entry → Place → Type 0
Kept left outermost p e q = is_place_kept left q ≡ (is_place_kept left p && is_none (place_fault left outermost p e))

and_and : (a b c : Bool) → ((a && b) && c) ≡ (a && (b && c))
and_and true b c = refl
and_and false b c = refl

and_true : (a : Bool) → (a && true) ≡ a
and_true true = refl
and_true false = refl

pub waits_append : (w : Bool) (a b : Items) → waits w (append a b) ≡ waits (waits w a) b
waits_append w none b = refl
waits_append w (one plain rest) b = waits_append w rest b
waits_append w (count less rest) b = waits_append true rest b
waits_append w (list Counted row rest) b = waits_append false rest b
waits_append w (list Uncounted row rest) b = waits_append w rest b

pub behind_waits : (form : ListForm) (w : Bool) (row rest : Items) → waits w (list form row rest) ≡ waits (waits_behind form w) rest
behind_waits Counted w row rest = refl
behind_waits Uncounted w row rest = refl

pub kept_append : (left : ℕ) (w : Bool) (a b : Items) → is_kept left w (append a b) ≡ (is_kept left w a && is_kept left (waits w a) b)
kept_append left w none b = refl
kept_append left w (one plain rest) b = kept_append left w rest b
kept_append left true (count less rest) b = refl
kept_append left false (count less rest) b = kept_append left true rest b
kept_append zero w (list form row rest) b = refl
kept_append (suc left) w (list form row rest) b =
    ap (λ t. may_start form w && (is_kept left false row && (not (waits false row) && (has_value row && t)))) (kept_append (suc left) (waits_behind form w) rest b
    ∙ ap (λ v. is_kept (suc left) (waits_behind form w) rest && is_kept (suc left) v b) (sym (behind_waits form w row rest)))
    ∙ five (may_start form w) (is_kept left false row) (not (waits false row)) (has_value row) (is_kept (suc left) (waits_behind form w) rest) (is_kept (suc left) (waits w (list form row rest)) b)
  where
    five : (a b c d e f : Bool) → (a && (b && (c && (d && (e && f))))) ≡ ((a && (b && (c && (d && e)))) && f)
    five true true true true e f = refl
    five false b c d e f = refl
    five true false c d e f = refl
    five true true false d e f = refl
    five true true true false e f = refl

one_more : (left : ℕ) (items : Items) (plain : Plain) → is_kept left false (append items (one plain none)) ≡ (is_kept left false items && true)
one_more left items plain = kept_append left false items (one plain none)

count_more : (left : ℕ) (items : Items) (less : CountForm)
    → is_kept left false (append items (count less none)) ≡ (is_kept left false items && is_none {T = ℕ} (if waits false items then Some 454 else None))
count_more left items less = kept_append left false items (count less none) ∙ ap (λ t. is_kept left false items && t) (turn (waits false items))
  where
    turn : (w : Bool) → (not w && true) ≡ is_none {T = ℕ} (if w then Some 454 else None)
    turn true = refl
    turn false = refl

start_more : (left : ℕ) (outermost : Bool) (items : Items) (form : ListForm) → Kept left outermost (at items) (Start form) (inside items form (at none))
start_more zero outermost items form = turn (is_kept zero false items) (may_start form (waits false items))
  where
    turn : (k m : Bool) → false ≡ (k && is_none {T = ℕ} (if not m then Some 454 else if true then Some 456 else None))
    turn true true = refl
    turn true false = refl
    turn false m = refl
start_more (suc left) outermost items form = ap (λ t. is_kept (suc left) false items && t) (turn (may_start form (waits false items)))
  where
    turn : (m : Bool) → (m && true) ≡ is_none {T = ℕ} (if not m then Some 454 else if false then Some 456 else None)
    turn true = refl
    turn false = refl

end_more : (left : ℕ) (before : Items) (form : ListForm) (items : Items)
    → is_kept (suc left) false (append before (list form items none))
    ≡ ((is_kept (suc left) false before && (may_start form (waits false before) && is_kept left false items))
    && is_none {T = ℕ} (if waits false items then Some 454 else if not (has_value items) then Some 455 else None))
end_more left before form items =
    kept_append (suc left) false before (list form items none)
    ∙ turn (is_kept (suc left) false before) (may_start form (waits false before)) (is_kept left false items) (waits false items) (has_value items)
  where
    turn : (a m k w h : Bool) → (a && (m && (k && (not w && (h && true))))) ≡ ((a && (m && k)) && is_none {T = ℕ} (if w then Some 454 else if not h then Some 455 else None))
    turn false m k w h = refl
    turn true false k w h = refl
    turn true true false w h = refl
    turn true true true true h = refl
    turn true true true false true = refl
    turn true true true false false = refl

some_same : {A : Type 0} (x y : A) → Some x ≡ Some y → x ≡ y
some_same x y is = cc

-- within an open list
deeper : (left : ℕ) (outermost : Bool) (before : Items) (form : ListForm) (place next : Place) (e : Entry)
    → ((left : ℕ) → Kept left false place e next) → Kept left outermost (inside before form place) e (inside before form next)
deeper zero outermost before form place next e inner = refl
deeper (suc left) outermost before form place next e inner =
    ap (λ t. is_kept (suc left) false before && (may_start form (waits false before) && t)) (inner left)
    ∙ three (is_kept (suc left) false before) (may_start form (waits false before)) (is_place_kept left place) (is_none (place_fault left false place e))
  where
    three : (a b c d : Bool) → (a && (b && (c && d))) ≡ ((a && (b && c)) && d)
    three true true c d = refl
    three true false c d = refl
    three false b c d = refl

mapped : (before : Items) (form : ListForm) (o : Option Place) (q : Place) → option_map (inside before form) o ≡ Some q → (next : Place) × (o ≡ Some next) × (inside before form next ≡ q)
mapped before form None q is = absurd cc
mapped before form (Some next) q is = (next, refl, some_same (inside before form next) q is)

pub kept_behind : (left : ℕ) (outermost : Bool) (p : Place) (e : Entry) (q : Place) → behind p e ≡ Some q → Kept left outermost p e q
kept_behind left outermost (at items) (One plain) q is = subst_is (some_same (at (append items (one plain none))) q is) (one_more left items plain)
  where
    subst_is : at (append items (one plain none)) ≡ q → Kept left outermost (at items) (One plain) (at (append items (one plain none))) → Kept left outermost (at items) (One plain) q
    subst_is same kept = ap (is_place_kept left) (sym same) ∙ kept
kept_behind left outermost (at items) (Count less) q is = ap (is_place_kept left) (sym (some_same (at (append items (count less none))) q is)) ∙ count_more left items less
kept_behind left outermost (at items) (Start form) q is = ap (is_place_kept left) (sym (some_same (inside items form (at none)) q is)) ∙ start_more left outermost items form
kept_behind left outermost (at items) End q is = absurd cc
kept_behind left outermost (inside before form place) (One plain) q is =
    let found = mapped before form (behind place (One plain)) q is in
    ap (is_place_kept left) (sym found.2) ∙ deeper left outermost before form place found.0 (One plain) (λ l. kept_behind l false place (One plain) found.0 found.1)
kept_behind left outermost (inside before form place) (Count less) q is =
    let found = mapped before form (behind place (Count less)) q is in
    ap (is_place_kept left) (sym found.2) ∙ deeper left outermost before form place found.0 (Count less) (λ l. kept_behind l false place (Count less) found.0 found.1)
kept_behind left outermost (inside before form place) (Start other) q is =
    let found = mapped before form (behind place (Start other)) q is in
    ap (is_place_kept left) (sym found.2) ∙ deeper left outermost before form place found.0 (Start other) (λ l. kept_behind l false place (Start other) found.0 found.1)
kept_behind zero outermost (inside before form (at items)) End q is =
    ap (is_place_kept zero) (sym (some_same (at (append before (list form items none))) q is))
    ∙ kept_append zero false before (list form items none) ∙ and_false (is_kept zero false before)
  where
    and_false : (a : Bool) → (a && false) ≡ false
    and_false true = refl
    and_false false = refl
kept_behind (suc left) outermost (inside before form (at items)) End q is =
    ap (is_place_kept (suc left)) (sym (some_same (at (append before (list form items none))) q is)) ∙ end_more left before form items
kept_behind left outermost (inside before form (inside more other place)) End q is =
    let found = mapped before form (behind (inside more other place) End) q is in
    ap (is_place_kept left) (sym found.2) ∙ deeper left outermost before form (inside more other place) found.0 End (λ l. kept_behind l false (inside more other place) End found.0 found.1)
