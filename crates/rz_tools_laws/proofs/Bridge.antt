-- What a command of `bridge` asks for is said by its items.
use Rattle.std.proofs.Common.{◌≡◌, ◌≢◌, ℕ, true, false, List, [], ◌∷◌, length, get_or, refl, sym, ap, subst, ◌∙◌, arith}
use Rattle.std.specs.Prelude.{Bool, if◌then◌else◌, unwrap_or, Option, Some, ◌↔◌}
use Rattle.std.specs.List.{AllByRecursion}
use Rattle.rz_bridge_files.specs.declared.form.Form as form
use Rattle.rz_bridge_files.specs.declared.form.Form.TheVariants as forms
use Rattle.rz_tools_args.specs.Command.{is_flag, place_item, places_of, switch_item, value_item, values_of, AreItems, Form, IsCommand, IsItem, IsValue, Item, Name, Value}
use Rattle.rz_tools_args.specs.Items.{forms_in, forms_of, last, names_in, names_of}
use Rattle.rz_tools_args.specs.Syntax.{sort_of, syntax_of, Syntax}
use Rattle.rz_tools_args.specs.declared.flag.Flag.{Flag}
use Rattle.rz_tools_args.specs.declared.flag.Flag.TheVariants as flags
use Rattle.rz_tools_args.specs.declared.name.CommandName.TheVariants as names
use Rattle.rz_tools_laws.specs.Bridge.{SayAll}
use Rattle.rz_tools_output.specs.Bridge.{bridge_asked, BridgeAsked, IsBridge}

-- What holds of each value that stands after an option holds of all its values.

if_all : (P : Value → Type 0) (here : Bool) (value : Value) (values : List Value) → (here ≡ true → P value) → AllByRecursion P values
    → AllByRecursion P (if here then value ∷ values else values)
if_all P true value values holds all = (holds refl, all)
if_all P false value values holds all = all

module _ (flag : Flag) (P : Value → Type 0)
    (holds : (other : Flag) (word : List ℕ) (value : Value) → is_flag flag other ≡ true → IsValue (sort_of other) word value → P value) where
  item_all : (syntax : Syntax) (words : List (List ℕ)) (one : Item) (items : List Item) → IsItem syntax words one → AllByRecursion P (values_of flag items)
      → AllByRecursion P (values_of flag (one ∷ items))
  item_all syntax words one items (place_item word is place same) all = subst (λ (o : Item). AllByRecursion P (values_of flag (o ∷ items))) (sym same) all
  item_all syntax words one items (switch_item word switch is named same) all = subst (λ (o : Item). AllByRecursion P (values_of flag (o ∷ items))) (sym same) all
  item_all syntax words one items (value_item word spelled other value is named says same) all =
      subst (λ (o : Item). AllByRecursion P (values_of flag (o ∷ items))) (sym same)
      (if_all P (is_flag flag other) value (values_of flag items) (λ alike. holds other spelled value alike says) all)

  items_all : (syntax : Syntax) (words : List (List ℕ)) (items : List Item) → AreItems syntax words items → AllByRecursion P (values_of flag items)
  items_all syntax words [] are = tt
  items_all syntax words (one ∷ items) are = item_all syntax are.0 one items are.3 (items_all syntax are.1 items are.4)

-- So all values after `-o` are names, and all after `-to` are forms.

only_output : (other : Flag) → is_flag flags.Output other ≡ true → other ≡ flags.Output
only_output flags.Output is = refl
only_output other is = absurd cc

only_into : (other : Flag) → is_flag flags.Into other ≡ true → other ≡ flags.Into
only_into flags.Into is = refl
only_into other is = absurd cc

-- a value is made of something in this way
abbrev IsMade : {X : Type 0} → (X → Value) → Value → Type 0
IsMade {X} make value = (x : X) × (value ≡ make x)

output_name : (other : Flag) (word : List ℕ) (value : Value) → is_flag flags.Output other ≡ true → IsValue (sort_of other) word value → IsMade Name value
output_name other word value alike says = (word, subst (λ (f : Flag). IsValue (sort_of f) word value) (only_output other alike) says)

into_form : (other : Flag) (word : List ℕ) (value : Value) → is_flag flags.Into other ≡ true → IsValue (sort_of other) word value → IsMade Form value
into_form other word value alike says =
    let said = subst (λ (f : Flag). IsValue (sort_of f) word value) (only_into other alike) says in (said.0, said.1)

-- Of values that are there there is a last.

module _ {X : Type 0} (default : X) where
  last_there : (x : X) (xs : List X) → last (x ∷ xs) ≡ Some (unwrap_or (last (x ∷ xs)) default)
  last_there x [] = refl
  last_there x (y ∷ xs) = last_there y xs

  last_made : (make : X → Value) (inside : List Value → List X) → ((x : X) (values : List Value) → inside (make x ∷ values) ≡ x ∷ inside values)
      → (values : List Value) → values ≢ [] → AllByRecursion (IsMade make) values → last (inside values) ≡ Some (unwrap_or (last (inside values)) default)
  last_made make inside more [] some all = absurd (some refl)
  last_made make inside more (value ∷ values) some all =
      subst (λ (xs : List X). last xs ≡ Some (unwrap_or (last xs) default))
      (sym (ap (λ (v : Value). inside (v ∷ values)) all.0.1 ∙ more all.0.0 values)) (last_there all.0.0 (inside values))

one_word : (words : List (List ℕ)) → length words ≡ 1 → words ≡ get_or words 0 [] ∷ []
one_word [] is = absurd cc
one_word (word ∷ []) is = refl
one_word (word ∷ other ∷ words) is = absurd (omega arith)

-- The law.

pub all_said : (words : List (List ℕ)) (items : List Item) → IsCommand words (record { name = names.Bridge; items = items }) → SayAll items (bridge_asked items)
all_said words items is = record {
  file = one_word (places_of items) is.places;
  output = last_made [] Name names_in (λ name values. refl) (values_of flags.Output items) is.needs.1.0
      (items_all flags.Output (IsMade Name) output_name (syntax_of names.Bridge) is.rest items is.are);
  to = last_made forms.Raw Form forms_in (λ one values. refl) (values_of flags.Into items) is.needs.0
      (items_all flags.Into (IsMade Form) into_form (syntax_of names.Bridge) is.rest items is.are);
  from = refl;
}

-- nothing else is asked for
all_asked : (items : List Item) (asked : BridgeAsked) → SayAll items asked → asked ≡ bridge_asked items
all_asked items asked say =
    let file : get_or (places_of items) 0 [] ≡ asked.file = ap (λ (words : List (List ℕ)). get_or words 0 []) say.file in
    let output : unwrap_or (last (names_of flags.Output items)) [] ≡ asked.output = ap (λ (o : Option (List ℕ)). unwrap_or o []) say.output in
    let to : unwrap_or (last (forms_of flags.Into items)) forms.Raw ≡ asked.to = ap (λ (o : Option form.Form). unwrap_or o forms.Raw) say.to in
    sym (same file output to say.from)
  where
    same : {file file' output output' : List ℕ} {to to' : form.Form} {from from' : Option form.Form} → file ≡ file' → output ≡ output' → to ≡ to' → from ≡ from'
        → ◌≡◌ {A = BridgeAsked} (record { file = file; output = output; to = to; from = from }) (record { file = file'; output = output'; to = to'; from = from' })
    same a b c d = cc

pub bridge_said : (words : List (List ℕ)) (asked : BridgeAsked)
    → IsBridge words asked ↔ ((items : List Item) × IsCommand words (record { name = names.Bridge; items = items }) × SayAll items asked)
bridge_said words asked = (
  λ is. (is.0, is.1, subst (SayAll is.0) (sym is.2) (all_said words is.0 is.1)),
  λ said. (said.0, said.1, all_asked said.0 asked said.2),
)
