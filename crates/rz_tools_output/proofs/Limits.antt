-- The fault of a fork that passes a limit.
use Rattle.std.proofs.Common.{◌≡◌, ℕ, Bool, true, false, nat_lt, if◌then◌else◌, List, length, Err, Some, None, refl, subst, arith}
use Rattle.std.specs.declared.result.Result.{Result}
use Rattle.std.specs.declared.option.Option.{Option}
use Rattle.rz_core.specs.Lists.{or_else, unless_fault}
use Rattle.rz_core.specs.Message.{is_fault}
use Rattle.rz_core.specs.Numbers.{kept_length}
use Rattle.rz_core.specs.declared.resource.Resource.{Resource}
use Rattle.rz_fork.specs.Image.{fork_of, first_limit, image, passed, kinds_of, grouped, data_area, name_list, lists_end}
use Rattle.rz_fork.specs.declared.fault.LimitFault.{LimitFault}
use Rattle.rz_tools_output.specs.Output.{IsLimit}
use Rattle.std.specs.Prelude.{IfSome}

one_passed : (number limit length : ℕ) → is_fault number ≡ true → IfSome (passed number limit length) IsLimit
one_passed number limit length named = by (nat_lt limit length)
  where
    by : (b : Bool) → IfSome (if b then Some (record { number = number; length = kept_length length }) else None) IsLimit
    by true = record { number = named; length = omega arith }
    by false = tt

first : (a b : Option LimitFault) → IfSome a IsLimit → IfSome b IsLimit → IfSome (or_else a b) IsLimit
first None b is_a is_b = is_b
first (Some fault) b is_a is_b = is_a

limit : (list : List Resource) → IfSome (first_limit list) IsLimit
limit list =
    let bytes = length (data_area (grouped list)) in
    let map = lists_end (length (kinds_of list)) (length (grouped list)) in
    let names = length (name_list (grouped list)) in
    first (passed 302 16777216 bytes) _ (one_passed 302 16777216 bytes refl)
    (first (passed 303 65535 map) _ (one_passed 303 65535 map refl)
    (first (passed 304 65535 names) _ (one_passed 304 65535 names refl) tt))

same_fault : (found fault : LimitFault) → ◌≡◌ {A = Result (List ℕ) LimitFault} (Err found) (Err fault) → found ≡ fault
same_fault found fault says = cc

refused : (found : Option LimitFault) (bytes : List ℕ) (fault : LimitFault) → IfSome found IsLimit → unless_fault found bytes ≡ Err fault → IsLimit fault
refused None bytes fault is says = cc
refused (Some found) bytes fault is says = subst IsLimit (same_fault found fault says) is

pub limit_fault : (list : List Resource) (attributes : ℕ) (reserved : List ℕ) (fault : LimitFault) → fork_of list attributes reserved ≡ Err fault → IsLimit fault
limit_fault list attributes reserved fault says = refused (first_limit list) (image list attributes reserved) fault (limit list) says
