-- A walk over fields and items: what is computed of the rest, after the values so far.
use Rattle.std.proofs.Common.{◌≡◌, ℕ, suc, ◌+◌, ◌-◌, ◌<◌, ◌≤◌, List, [], ◌∷◌, ◌++◌, length, map, drop, get_or, refl, sym, ap, ◌∙◌, append_assoc, arith}
use Rattle.std.proofs.lemmas.List.{at_drop_more, drop_all, append-nil}
use Rattle.std.specs.Prelude.{replicate, Ok, Err}
use Rattle.std.specs.declared.result.Result.{Result}
use Rattle.rz_core.specs.Stop.{◌>>=◌, Gives}
use Rattle.rz_core.specs.declared.fault.Fault.{Fault}
use Rattle.rz_core.specs.declared.fault.Mark.{Mark}
use Rattle.rz_core.specs.declared.stop.Stop.{Stop}
use Rattle.rz_core.specs.declared.stop.Stop.TheVariants.{NoMemory, Refused}
use Rattle.rz_stmt_items.specs.Item.{PlainItem}
use Rattle.rz_stmt_items.specs.Matched.{matched_all, Line}
use Rattle.rz_stmt_items.specs.Unfit.{too_few, too_many}
use Rattle.rz_types_fields.specs.declared.tree.Tree.{Tree}

-- the values so far, in front of those of the rest
abbrev pub behind : {V : Type 0} → List V → Result (List V) Fault → Result (List V) Fault
behind front rest = rest >>= λ values. Ok (front ++ values)

behind_more : {V : Type 0} (front : List V) (value : V) (rest : Result (List V) Fault)
    → behind front (rest >>= λ values. Ok (value ∷ values)) ≡ behind (front ++ value ∷ []) rest
behind_more front value (Ok values) = ap (λ vs. Ok vs) (sym (append_assoc front (value ∷ []) values))
behind_more front value (Err fault) = refl

-- the rest of a list from a position on
pub rest_at : {A B : Type 0} (f : A → B) (xs : List A) (i : ℕ) (x : A) → i < length xs → x ≡ get_or xs i x → map f (drop i xs) ≡ f x ∷ map f (drop (i + 1) xs)
rest_at f xs i x within is = at_drop_more (map f) xs i x within ∙ ap (λ y. f y ∷ map f (drop (i + 1) xs)) (sym is)

pub rest_end : {A B : Type 0} (f : A → B) (xs : List A) (i : ℕ) → length xs ≤ i → map f (drop i xs) ≡ []
rest_end f xs i past = ap (map f) (drop_all i xs past)

-- so many fields of one kind
pub replicate_more : {A : Type 0} (count i : ℕ) (x : A) → i < count → replicate (count - i) x ≡ x ∷ replicate (count - (i + 1)) x
replicate_more count i x within = let one : count - i ≡ suc (count - (i + 1)) = omega arith in ap (λ n. replicate n x) one

pub replicate_end : {A : Type 0} (count i : ℕ) (x : A) → count ≤ i → replicate (count - i) x ≡ []
replicate_end count i x past = let none : count - i ≡ 0 = omega arith in ap (λ n. replicate n x) none

module _ {F V : Type 0} (one : ℕ → F → PlainItem → Result V Fault) (place : Mark) (all : List PlainItem) where
  -- so far no fault: the whole is what the rest gives after these values
  abbrev pub Walked : Result (List V) Fault → List V → ℕ → List F → List PlainItem → Type 0
  Walked whole values before fields items = whole ≡ behind values (matched_all one place all before fields items)

  module _ (whole : Result (List V) Fault) (values : List V) (before : ℕ) (fields : List F) (items : List PlainItem) (walked : Walked whole values before fields items) where
    pub one_more : (field : F) (others : List F) (item : PlainItem) (rest : List PlainItem) (value : V) → fields ≡ field ∷ others → items ≡ item ∷ rest
        → one (before + 1) field item ≡ Ok value → Walked whole (values ++ value ∷ []) (before + 1) others rest
    one_more field others item rest value are_fields are_items gives =
        walked
        ∙ (λ i. behind values (matched_all one place all before (are_fields i) (are_items i)))
        ∙ ap (λ (r : Result V Fault). behind values (r >>= λ value. matched_all one place all (before + 1) others rest >>= λ values. Ok (value ∷ values))) gives
        ∙ behind_more values value (matched_all one place all (before + 1) others rest)

    one_fault : (field : F) (others : List F) (item : PlainItem) (rest : List PlainItem) (fault : Fault) → fields ≡ field ∷ others → items ≡ item ∷ rest
        → one (before + 1) field item ≡ Err fault → whole ≡ Err fault
    one_fault field others item rest fault are_fields are_items breaks =
        walked
        ∙ (λ i. behind values (matched_all one place all before (are_fields i) (are_items i)))
        ∙ ap (λ (r : Result V Fault). behind values (r >>= λ value. matched_all one place all (before + 1) others rest >>= λ values. Ok (value ∷ values))) breaks

    pub one_stop : (field : F) (others : List F) (item : PlainItem) (rest : List PlainItem) (stop : Stop Fault) → fields ≡ field ∷ others → items ≡ item ∷ rest
        → Gives (one (before + 1) field item) (Err stop) → Gives whole (Err stop)
    one_stop field others item rest (Refused fault) are_fields are_items breaks = one_fault field others item rest fault are_fields are_items breaks
    one_stop field others item rest NoMemory are_fields are_items breaks = tt

    pub no_item : (field : F) (others : List F) → fields ≡ field ∷ others → items ≡ [] → whole ≡ Err (too_few place all)
    no_item field others are_fields are_items = walked ∙ (λ i. behind values (matched_all one place all before (are_fields i) (are_items i)))

    pub no_field : (item : PlainItem) (rest : List PlainItem) → fields ≡ [] → items ≡ item ∷ rest → whole ≡ Err (too_many item all)
    no_field item rest are_fields are_items = walked ∙ (λ i. behind values (matched_all one place all before (are_fields i) (are_items i)))

    pub walked_through : fields ≡ [] → items ≡ [] → whole ≡ Ok values
    walked_through are_fields are_items =
        walked ∙ (λ i. behind values (matched_all one place all before (are_fields i) (are_items i))) ∙ ap (λ vs. Ok vs) (append-nil values)

-- Rows.

-- the values so far, in front of those of the rest
abbrev pub row_behind : List Tree → Result Line Fault → Result Line Fault
row_behind front rest = rest >>= λ line. Ok (record { row = front ++ line.row; before = line.before; rest = line.rest })

-- the rows so far, in front of the others
abbrev pub rows_behind : List (List Tree) → Result (List (List Tree)) Fault → Result (List (List Tree)) Fault
rows_behind front rest = rest >>= λ rows. Ok (front ++ rows)
