-- The names in an expression whose value a number can tell.
use Rattle.std.proofs.Common.{◌≡◌, ℕ, Bool, true, false, ◌||◌, List, [], ◌∷◌, refl, sym, ap, ◌∙◌, subst}
use Rattle.std.specs.List.{list_all, list_any, AllByRecursion}
use Rattle.std.proofs.lemmas.List.Concat.{flat_map-append}
use Rattle.std.proofs.lemmas.List.Folds.{list_any-append}
use Rattle.rz_expr.specs.Environment.{place_key, Key}
use Rattle.rz_expr.specs.Mention.{mentions}
use Rattle.rz_expr.specs.Term.{BitsAt, OfTwo, Term}
use Rattle.rz_expr.specs.declared.expr.BinaryOp.{BinaryOp}
use Rattle.rz_expr.specs.declared.expr.BinaryOp.TheVariants as two
use Rattle.rz_expr.proofs.Items.{meets, or_no, there}
use Rattle.rz_types_fields.specs.Solve.{has_key, is_same_key, keys_in, tellable}
use Rattle.rz_types_fields.proofs.SameNames.{key_is, key_itself}

-- In parts of an expression.

pub has_one : (key own : Key) → list_any (is_same_key key) (own ∷ []) ≡ is_same_key key own
has_one key own = or_no (is_same_key key own)

pub has_two : (key : Key) (op : BinaryOp) (left right : Term) → has_key key (OfTwo op left right) ≡ (has_key key left || has_key key right)
has_two key op left right =
    ap (list_any (is_same_key key)) (flat_map-append tellable (mentions left) (mentions right)) ∙ list_any-append (is_same_key key) (keys_in left) (keys_in right)

pub has_bits : (key : Key) (name : List ℕ) (start width : Term) → has_key key (BitsAt name start width) ≡ (is_same_key key (place_key name) || (has_key key start || has_key key width))
has_bits key name start width = ap (λ (b : Bool). is_same_key key (place_key name) || b) (has_two key two.Plus start width)

-- Each of them.

or_first : (a b : Bool) → a ≡ true → (a || b) ≡ true
or_first a b is = ap (λ (test : Bool). test || b) is

or_next : (a b : Bool) → b ≡ true → (a || b) ≡ true
or_next true b is = refl
or_next false b is = is

-- a test that all pass, or what holds of all, is so of one
pub key_passes : (test : Key → Bool) (keys : List Key) (key : Key) → list_all test keys ≡ true → list_any (is_same_key key) keys ≡ true → test key ≡ true
key_passes test keys key all any = let it = meets test (is_same_key key) keys all any in ap test (key_is key it.item it.second) ∙ it.first

pub key_there : (P : Key → Type 0) (keys : List Key) (key : Key) → AllByRecursion P keys → list_any (is_same_key key) keys ≡ true → P key
key_there P keys key all any = let it = there P (is_same_key key) keys all any in subst P (sym (key_is key it.item it.passes)) it.holds

-- what is so of each one holds of all
pub each_key : (P : Key → Type 0) (keys : List Key) → ((key : Key) → list_any (is_same_key key) keys ≡ true → P key) → AllByRecursion P keys
each_key P [] each = tt
each_key P (own ∷ keys) each = (
  each own (or_first (is_same_key own own) (list_any (is_same_key own) keys) (key_itself own)),
  each_key P keys (λ key any. each key (or_next (is_same_key key own) (list_any (is_same_key key) keys) any)),
)
