-- Rows: the values that fields take, and the cases that are chosen.
use Rattle.std.proofs.Common.{◌≡◌, inl, inr, ℕ, Bool, true, false, List, Option, Some, None, refl, sym, ap, ◌∙◌}
use Rattle.std.specs.List.{AllByRecursion}
use Rattle.std.specs.Str.{str_eq_ignore_ascii_case}
use Rattle.rz_core.proofs.Folds.{same_lower}
use Rattle.rz_core.proofs.Tests.{by_test, true_false}
use Rattle.rz_core.specs.declared.resource.Word.{Word}
use Rattle.rz_types_fields.specs.declared.tree.Tree.{Tree}
use Rattle.rz_types_fields.specs.declared.tree.Tree.TheVariants as trees
use Rattle.rz_types_fields.specs.Laid.{first_value, other_values}
use Rattle.rz_types_fields.specs.Row.{IsChoice, IsFront}
use Rattle.rz_types_fields.specs.Spells.{is_case, put}
use Rattle.rz_types_fields.specs.Field.{case_and, no_cases, PlainCases}
use Rattle.rz_types.specs.Rules.{case_names}
use Rattle.rz_layout.proofs.Trees.{choice_is}

-- Names in whatever case.

same_name : (name : List ℕ) → str_eq_ignore_ascii_case name name ≡ true
same_name name = (same_lower name name).1 refl

pub other_name : (one other : List ℕ) → str_eq_ignore_ascii_case one other ≡ false → str_eq_ignore_ascii_case other one ≡ false
other_name one other is =
    by_test (str_eq_ignore_ascii_case other one ≡ false) (str_eq_ignore_ascii_case other one)
    (λ same. absurd (true_false (sym ((same_lower one other).1 (sym ((same_lower other one).0 same))) ∙ is)))
    (λ no. no)

-- Values.

-- a value where one is taken, and else none
abbrev pub Takes : Bool → (Tree → Type 0) → Option Tree → Type 0
Takes true IsOne value = (v : Tree) × IsOne v × (value ≡ Some v)
Takes false IsOne value = value ≡ None

pub record Fronted (takes : Bool) (IsOne : Tree → Type 0) (row rest : List Tree) : Type 0 where
  pub one : Takes takes IsOne (first_value takes row)
  pub whole : row ≡ put (first_value takes row) (other_values takes row)
  pub others : rest ≡ other_values takes row

pub fronted : (takes : Bool) (IsOne : Tree → Type 0) (row rest : List Tree) → IsFront takes IsOne row rest → Fronted takes IsOne row rest
fronted true IsOne row rest (v, one, is) = record {
  one = (v, one, ap (first_value true) is);
  whole = is ∙ ap (λ (r : List Tree). put (first_value true r) (other_values true r)) (sym is);
  others = sym (ap (other_values true) is);
}
fronted false IsOne row rest is = record { one = refl; whole = refl; others = sym is }

-- The case that is chosen is none with a name that differs from all.
pub choice_differs : (name : Word) (cases : PlainCases) → AllByRecursion (λ later. str_eq_ignore_ascii_case name.bytes later.bytes ≡ false) (case_names cases)
    → (v : Tree) → IsChoice cases v → is_case name (Some v) ≡ false
choice_differs name no_cases differ v it = absurd it
choice_differs name (case_and own row others) differ v (inl it) =
    ap (λ (t : Tree). is_case name (Some t)) it.1 ∙ ap (str_eq_ignore_ascii_case name.bytes) (choice_is own it.0) ∙ differ.0
choice_differs name (case_and own row others) differ v (inr it) = choice_differs name others differ.1 v it

pub choice_chosen : (name : Word) (line : List Tree) → is_case name (Some (trees.Choice name line)) ≡ true
choice_chosen name line = ap (str_eq_ignore_ascii_case name.bytes) (choice_is name line) ∙ same_name name.bytes
