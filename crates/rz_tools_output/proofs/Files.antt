-- A file of templates declares one list of types, whose fields are templates.
use Rattle.std.proofs.Common.{◌≡◌, inl, inr, ℕ, ◌<◌, ◌^◌, Bool, true, false, List, [], ◌∷◌, ◌++◌, length, Option, Some, None, Ok, Err, refl, sym, ap, subst, ◌∙◌, arith}
use Rattle.std.specs.Prelude.{◌==◌, ◌&&◌, nat_lt, if◌then◌else◌}
use Rattle.std.specs.FinMap as finite
use Rattle.std.specs.List.{AllByRecursion}
use Rattle.std.specs.declared.result.Result.{Result}
use Rattle.std.proofs.lemmas.Bool.Decides.{nat_tests}
use Rattle.rz_core.proofs.Has.{has_is, has_then, Has}
use Rattle.rz_core.proofs.Once.{ok_or_err, once_is, once_then, same_ok, Once}
use Rattle.rz_core.specs.Resources.{kind_of}
use Rattle.rz_core.specs.declared.fault.Fault.{Fault}
use Rattle.rz_core.specs.declared.resource.OsType.{OsType}
use Rattle.rz_core.specs.declared.resource.Resource.{Resource}
use Rattle.rz_bridge_files.specs.Contents.{fork_in}
use Rattle.rz_folder.specs.Folder.{Files}
use Rattle.rz_folder.specs.Names.{missing_file}
use Rattle.rz_fork.specs.Contents.{Fork}
use Rattle.rz_tmpl.specs.Template.{HasBody}
use Rattle.rz_tmpl.specs.declared.fault.TmplFault.{TmplFault}
use Rattle.rz_types_fields.specs.Field.{PlainBody}
use Rattle.rz_types_table.specs.Table.{declared_behind, stands_at, without, Declaration}
use Rattle.rz_types_table.specs.declared.table.Scope.TheVariants.{Any}
use Rattle.rz_tools_output.specs.Templates.{declared_with, declares, entry_fault, template_code, AreDeclared, AreTemplates, IsDeclared, IsTemplate, TypesAt, TypesIn, TypesOf}

-- One.

module _ (one : (bytes : List ℕ) (body other : Result PlainBody TmplFault) → HasBody bytes body → HasBody bytes other → body ≡ other) where
  once_declared : (types : List Declaration) (r : Resource) (kind : Option OsType) → Once (IsDeclared types r kind)
  once_declared types r None = once_is (Ok types)
  once_declared types r (Some kind) = λ a b is also. is.2 ∙ ap (declared_with types r kind) (one r.bytes is.0 also.0 is.1 also.1) ∙ sym also.2

  once_list : (types : List Declaration) (list : List Resource) → Once (AreDeclared types list)
  once_list types [] = once_is (Ok types)
  once_list types (r ∷ list) =
      once_then (IsDeclared types r (declares r)) (λ next. AreDeclared next list) (once_declared types r (declares r)) (λ next. once_list next list)

  once_in : (fork : Result Fork Fault) → Once (TypesIn fork)
  once_in (Ok fork) = once_list [] fork.list
  once_in (Err fault) = once_is (Err fault)

  once_at : (name : List ℕ) (entry : Option (List ℕ)) → Once (TypesAt name entry)
  once_at name None = once_is (Err (missing_file None name))
  once_at name (Some bytes) = once_in (fork_in None None bytes)

  pub once_of : (name : Option (List ℕ)) (files : Files) → Once (TypesOf name files)
  once_of None files = once_is (Ok [])
  once_of (Some name) files = once_at name (finite.get files name)

-- Some.

module _ (every : (bytes : List ℕ) → Has (HasBody bytes)) where
  has_declared : (types : List Declaration) (r : Resource) (kind : Option OsType) → Has (IsDeclared types r kind)
  has_declared types r None = has_is (Ok types)
  has_declared types r (Some kind) = let body = every r.bytes in (declared_with types r kind body.0, (body.0, body.1, refl))

  has_list : (types : List Declaration) (list : List Resource) → Has (AreDeclared types list)
  has_list types [] = has_is (Ok types)
  has_list types (r ∷ list) =
      has_then (IsDeclared types r (declares r)) (λ next. AreDeclared next list) (has_declared types r (declares r)) (λ next is. has_list next list)

  has_in : (fork : Result Fork Fault) → Has (TypesIn fork)
  has_in (Ok fork) = has_list [] fork.list
  has_in (Err fault) = has_is (Err fault)

  has_at : (name : List ℕ) (entry : Option (List ℕ)) → Has (TypesAt name entry)
  has_at name None = has_is (Err (missing_file None name))
  has_at name (Some bytes) = has_in (fork_in None None bytes)

  pub has_of : (name : Option (List ℕ)) (files : Files) → Has (TypesOf name files)
  has_of None files = has_is (Ok [])
  has_of (Some name) files = has_at name (finite.get files name)

-- Templates.

module _ {A : Type 0} (P : A → Type 0) where
  without_all : (test : A → Bool) (xs : List A) → AllByRecursion P xs → AllByRecursion P (without test xs)
  without_all test [] all = tt
  without_all test (x ∷ xs) all = by (test x) (without_all test xs all.1)
    where
      by : (passes : Bool) → AllByRecursion P (without test xs) → AllByRecursion P (if passes then xs else x ∷ without test xs)
      by true others = all.1
      by false others = (all.0, others)

  push_all : (xs : List A) (x : A) → AllByRecursion P xs → P x → AllByRecursion P (xs ++ x ∷ [])
  push_all [] x all is = (is, tt)
  push_all (y ∷ ys) x all is = (all.0, push_all ys x all.1 is)

-- what holds of all declarations of a table, and of one more, holds after it
pub declared_all : (P : Declaration → Type 0) (types : List Declaration) (one : Declaration) → AllByRecursion P types → P one → AllByRecursion P (declared_behind types one)
declared_all P types one all is =
    push_all P (without (stands_at one.kind one.scope) types) one (without_all P (stands_at one.kind one.scope) types all) is

-- a resource that declares a type has fewer than 2^64 bytes
short_one : (r : Resource) (kind : OsType) → declares r ≡ Some kind → length r.bytes < 2 ^ 64
short_one r kind is = by (r.kind.code == template_code) (nat_lt (length r.bytes) (2 ^ 64)) refl is
  where
    by : (is_template short : Bool) → nat_lt (length r.bytes) (2 ^ 64) ≡ short → (if is_template && short then kind_of r.name else None) ≡ Some kind → length r.bytes < 2 ^ 64
    by true true so is = grind (arith, nat_tests)
    by true false so is = absurd cc
    by false short so is = absurd cc

module _ (law : (bytes : List ℕ) (body : PlainBody) → length bytes < 2 ^ 64 → HasBody bytes (Ok body) → IsTemplate body) where
  with_templates : (types next : List Declaration) (r : Resource) (kind : OsType) (body : Result PlainBody TmplFault) → length r.bytes < 2 ^ 64 → HasBody r.bytes body
      → Ok next ≡ declared_with types r kind body → AreTemplates types → AreTemplates next
  with_templates types next r kind (Ok body) short has is all =
      subst AreTemplates (sym (same_ok {F = Fault} next _ is))
      (declared_all (λ one. IsTemplate one.template) types (record { kind = kind; scope = Any; template = body }) all (law r.bytes body short has))
  with_templates types next r kind (Err fault) short has is all = by (fault.number == 452) is
    where
      by : (unknown : Bool) → Ok next ≡ (if unknown then Ok types else Err (entry_fault r fault)) → AreTemplates next
      by true is = subst AreTemplates (sym (same_ok {F = Fault} next types is)) all
      by false is = absurd (ok_or_err {F = Fault} next (entry_fault r fault) is)

  one_templates : (types next : List Declaration) (r : Resource) (kind : Option OsType) → declares r ≡ kind → IsDeclared types r kind (Ok next) → AreTemplates types → AreTemplates next
  one_templates types next r None declared is all = subst AreTemplates (sym (same_ok {F = Fault} next types is)) all
  one_templates types next r (Some kind) declared (body, has, is) all = with_templates types next r kind body (short_one r kind declared) has is all

  list_templates : (types : List Declaration) (list : List Resource) (last : List Declaration) → AreDeclared types list (Ok last) → AreTemplates types → AreTemplates last
  list_templates types [] last is all = subst AreTemplates (sym (same_ok {F = Fault} last types is)) all
  list_templates types (r ∷ list) last (inl (next, one, more)) all = list_templates next list last more (one_templates types next r (declares r) refl one all)
  list_templates types (r ∷ list) last (inr (fault, one, is)) all = absurd (ok_or_err {F = Fault} last fault is)

  in_templates : (fork : Result Fork Fault) (types : List Declaration) → TypesIn fork (Ok types) → AreTemplates types
  in_templates (Ok fork) types are = list_templates [] fork.list types are tt
  in_templates (Err fault) types is = absurd (ok_or_err {F = Fault} types fault is)

  at_templates : (name : List ℕ) (entry : Option (List ℕ)) (types : List Declaration) → TypesAt name entry (Ok types) → AreTemplates types
  at_templates name None types is = absurd (ok_or_err {F = Fault} types (missing_file None name) is)
  at_templates name (Some bytes) types is = in_templates (fork_in None None bytes) types is

  pub of_templates : (name : Option (List ℕ)) (files : Files) (types : List Declaration) → TypesOf name files (Ok types) → AreTemplates types
  of_templates None files types is = subst AreTemplates (sym (same_ok {F = Fault} types [] is)) tt
  of_templates (Some name) files types is = at_templates name (finite.get files name) types is
