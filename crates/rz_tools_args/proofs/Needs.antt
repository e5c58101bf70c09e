-- Options that must be there.
use Rattle.std.proofs.Common.{◌≡◌, ◌≢◌, true, false, List, [], ◌∷◌, ◌++◌, refl}
use Rattle.std.specs.Prelude.{◌||◌, Bool, if◌then◌else◌}
use Rattle.std.specs.List.{list_all, list_any, AllByRecursion}
use Rattle.std.proofs.lemmas.Bool.{and_from, and_parts, or_right, true_from_ne_false}
use Rattle.rz_tools_args.specs.Command.{is_flag, values_of, Item, On, Place, Value, Valued}
use Rattle.rz_tools_args.specs.Held.{says}
use Rattle.rz_tools_args.specs.declared.flag.Flag.{Flag}

-- One option.

if_there : (here there : Bool) (value : Value) (values : List Value) → (there ≡ true → values ≢ []) → (here || there) ≡ true
    → (if here then value ∷ values else values) ≢ []
if_there true there value values next is = λ none. cc none
if_there false there value values next is = next is

is_there : (flag : Flag) (items : List Item) → list_any (says flag) items ≡ true → values_of flag items ≢ []
is_there flag [] is = cc
is_there flag (Place word ∷ items) is = is_there flag items is
is_there flag (Valued other value ∷ items) is =
    if_there (is_flag flag other) (list_any (says flag) items) value (values_of flag items) (is_there flag items) is
is_there flag (On switch ∷ items) is = is_there flag items is

if_none : (here there : Bool) (value : Value) (values : List Value) → (there ≡ false → values ≡ []) → (here || there) ≡ false
    → (if here then value ∷ values else values) ≡ []
if_none true there value values next is = cc
if_none false there value values next is = next is

is_none : (flag : Flag) (items : List Item) → list_any (says flag) items ≡ false → values_of flag items ≡ []
is_none flag [] is = refl
is_none flag (Place word ∷ items) is = is_none flag items is
is_none flag (Valued other value ∷ items) is =
    if_none (is_flag flag other) (list_any (says flag) items) value (values_of flag items) (is_none flag items) is
is_none flag (On switch ∷ items) is = is_none flag items is

-- Several.

pub are_there : (items : List Item) (needs : List Flag) → list_all (λ flag. list_any (says flag) items) needs ≡ true
    → AllByRecursion (λ flag. values_of flag items ≢ []) needs
are_there items [] is = tt
are_there items (need ∷ needs) is =
    let parts = and_parts (list_any (says need) items) (list_all (λ flag. list_any (says flag) items) needs) is in
    (is_there need items parts.0, are_there items needs parts.1)

pub all_there : (items : List Item) (needs : List Flag) → AllByRecursion (λ flag. values_of flag items ≢ []) needs
    → list_all (λ flag. list_any (says flag) items) needs ≡ true
all_there items [] are = refl
all_there items (need ∷ needs) are =
    and_from (list_any (says need) items) (list_all (λ flag. list_any (says flag) items) needs)
    (true_from_ne_false (list_any (says need) items) (λ fails. are.0 (is_none need items fails))) (all_there items needs are.1)

-- after other items they still are
any_behind : (flag : Flag) (front items : List Item) → list_any (says flag) items ≡ true → list_any (says flag) (front ++ items) ≡ true
any_behind flag [] items is = is
any_behind flag (one ∷ front) items is = or_right (says flag one) (list_any (says flag) (front ++ items)) (any_behind flag front items is)

pub all_behind : (front items : List Item) (needs : List Flag) → list_all (λ flag. list_any (says flag) items) needs ≡ true
    → list_all (λ flag. list_any (says flag) (front ++ items)) needs ≡ true
all_behind front items [] is = refl
all_behind front items (need ∷ needs) is =
    let parts = and_parts (list_any (says need) items) (list_all (λ flag. list_any (says flag) items) needs) is in
    and_from (list_any (says need) (front ++ items)) (list_all (λ flag. list_any (says flag) (front ++ items)) needs)
    (any_behind need front items parts.0) (all_behind front items needs parts.1)
