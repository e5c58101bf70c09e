-- What the values of rows are, and which case is chosen.
use Rattle.std.proofs.Common.{◌≡◌, inl, inr, ℕ, Bool, true, false, List, Option, Some, None, refl, sym, ap, ◌∙◌}
use Rattle.std.specs.List.{AllByRecursion}
use Rattle.std.specs.Str.{str_eq_ignore_ascii_case}
use Rattle.rz_core.proofs.Folds.{same_lower}
use Rattle.rz_core.proofs.Tests.{true_false}
use Rattle.rz_core.specs.declared.resource.Word.{Word}
use Rattle.rz_types_fields.specs.declared.tree.Tree.{Tree}
use Rattle.rz_types_fields.specs.declared.tree.Tree.TheVariants as trees
use Rattle.rz_types_fields.specs.Laid.{first_value, line_in, line_of_tree, number_in, number_of_tree, other_values, rows_in, rows_of_tree, text_in, text_of_tree}
use Rattle.rz_types_fields.specs.Row.{IsChoice, IsFront}
use Rattle.rz_types_fields.specs.Spells.{choice_in, choice_of_tree, group_in, is_case, numbers_of_group}
use Rattle.rz_types.specs.Field.{case_and, no_cases, PlainCases}
use Rattle.rz_types.specs.Rules.{case_names}

pub number_is : (n : ℕ) → number_in (Some (trees.Number n)) ≡ n
number_is n = ap number_of_tree (trees.outs-Number n)

pub text_is : (bytes : List ℕ) → text_in (Some (trees.Text bytes)) ≡ bytes
text_is bytes = ap text_of_tree (trees.outs-Text bytes)

pub group_is : (numbers : List ℕ) → group_in (Some (trees.Group numbers)) ≡ numbers
group_is numbers = ap numbers_of_group (trees.outs-Group numbers)

pub rows_are : (rows : List (List Tree)) → rows_in (Some (trees.Rows rows)) ≡ rows
rows_are rows = ap rows_of_tree (trees.outs-Rows rows)

pub choice_is : (name : Word) (line : List Tree) → choice_in (Some (trees.Choice name line)) ≡ name.bytes
choice_is name line = ap choice_of_tree (trees.outs-Choice name line)

pub line_is : (name : Word) (line : List Tree) → line_in (Some (trees.Choice name line)) ≡ line
line_is name line = ap line_of_tree (trees.outs-Choice name line)

-- a value where one is taken, and else none
abbrev pub Takes : Bool → (Tree → Type 0) → Option Tree → Type 0
Takes true IsOne value = (v : Tree) × IsOne v × (value ≡ Some v)
Takes false IsOne value = value ≡ None

pub taken : (takes : Bool) (P : Tree → Type 0) (value : Option Tree) → Takes takes P value → takes ≡ true → (v : Tree) × P v × (value ≡ Some v)
taken true P value has is = has
taken false P value has is = absurd (true_false (sym is))

pub record Fronted (takes : Bool) (IsOne : Tree → Type 0) (row rest : List Tree) : Type 0 where
  pub one : Takes takes IsOne (first_value takes row)
  pub others : rest ≡ other_values takes row

pub fronted : (takes : Bool) (IsOne : Tree → Type 0) (row rest : List Tree) → IsFront takes IsOne row rest → Fronted takes IsOne row rest
fronted true IsOne row rest (v, one, is) = record {
  one = (v, one, ap (first_value true) is);
  others = sym (ap (other_values true) is);
}
fronted false IsOne row rest is = record { one = refl; others = sym is }

pub same_name : (name : List ℕ) → str_eq_ignore_ascii_case name name ≡ true
same_name name = (same_lower name name).1 refl

-- the case that is chosen is none with a name that differs from all
pub choice_differs : (name : Word) (cases : PlainCases) → AllByRecursion (λ later. str_eq_ignore_ascii_case name.bytes later.bytes ≡ false) (case_names cases)
    → (v : Tree) → IsChoice cases v → is_case name (Some v) ≡ false
choice_differs name no_cases differ v it = absurd it
choice_differs name (case_and own row others) differ v (inl it) =
    ap (λ (t : Tree). is_case name (Some t)) it.1 ∙ ap (str_eq_ignore_ascii_case name.bytes) (choice_is own it.0) ∙ differ.0
choice_differs name (case_and own row others) differ v (inr it) = choice_differs name others differ.1 v it

pub choice_chosen : (name : Word) (line : List Tree) → is_case name (Some (trees.Choice name line)) ≡ true
choice_chosen name line = ap (str_eq_ignore_ascii_case name.bytes) (choice_is name line) ∙ same_name name.bytes
