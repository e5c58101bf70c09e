-- The texts of a row that spells bytes are short, and of one that spells them plainly they are bytes.
use Rattle.std.proofs.Common.{◌≡◌, ℕ, ◌+◌, ℤ, Bool, true, false, ◌&&◌, List, [], ◌∷◌, length, Option, Some, None, refl, sym, ap, subst, ◌∙◌}
use Rattle.std.specs.List.{AllByRecursion}
use Rattle.std.specs.Option.{is_none, option_to_list}
use Rattle.rz_core.specs.declared.facts.Facts.{Facts}
use Rattle.rz_core.specs.declared.resource.Word.{Word}
use Rattle.rz_expr.specs.Environment.{Environment, Sight}
use Rattle.rz_expr.specs.Term.{Term}
use Rattle.rz_types_fields.specs.declared.field.NumForm.{NumForm}
use Rattle.rz_types_fields.specs.declared.field.TextForm.{TextForm}
use Rattle.rz_types_fields.specs.declared.field.TextForm.TheVariants as forms
use Rattle.rz_types_fields.specs.declared.tree.Tree.{Tree}
use Rattle.rz_types_fields.specs.declared.tree.Tree.TheVariants as trees
use Rattle.rz_lex.specs.Printed as printed
use Rattle.rz_stmt_items.specs.Fits.{exceeds}
use Rattle.rz_types_fields.specs.Laid.{first_value, line_in, other_values, rows_in, text_in}
use Rattle.rz_types_fields.specs.Row.{By}
use Rattle.rz_types_fields.specs.RowLabels.{row_of}
use Rattle.rz_types_fields.specs.Sees.{sees, Late}
use Rattle.rz_types_fields.specs.Spells.{anyhow, is_case, plainly, put, AreBytes, BodySpells, CaseSpells, FieldSpells, Inside, IsGrouped, IsNumber, IsPlainText, IsPlainValue, IsSize, IsText, Manner, RowsSpell, Spells, SpellsPlainly}
use Rattle.rz_types.specs.Field.{case_and, field_and, no_cases, no_fields, takes_value, Align, Array, Fill, Label, Number, PlainBody, PlainCases, PlainField, PlainText, Points, Switch, Text}
use Rattle.rz_types_fields.specs.Piece.{OneText}
use Rattle.rz_types.specs.Passed.{at_field, at_front, behind, nothing_passed, Passed}
use Rattle.rz_types.specs.Stored.{is_too_long}
use Rattle.rz_types.specs.Text.{PlainPart}
use Rattle.rz_show.specs.Printable.{AreOfBytes, IsCaseOfBytes, IsOfBytes}
use Rattle.rz_show_laws.specs.Short.{AreShortTexts, IsShortCase, IsShortText}
use Rattle.rz_show.proofs.Trees.{line_is, rows_are, text_is}

-- a value where one is taken, and else none
abbrev Has : Bool → Option Tree → Type 0
Has true value = (v : Tree) × (value ≡ Some v)
Has false value = value ≡ None

put_first : (takes : Bool) (value : Option Tree) (rest : List Tree) → Has takes value → first_value takes (put value rest) ≡ value
put_first true value rest (v, is) = ap (λ (o : Option Tree). first_value true (put o rest)) is ∙ sym is
put_first false value rest is = sym is

put_others : (takes : Bool) (value : Option Tree) (rest : List Tree) → Has takes value → other_values takes (put value rest) ≡ rest
put_others true value rest (v, is) = ap (λ (o : Option Tree). other_values true (put o rest)) is
put_others false value rest is = ap (λ (o : Option Tree). put o rest) is

one_value : (value other : Option Tree) → option_to_list value ≡ put other [] → value ≡ other
one_value None None is = refl
one_value None (Some y) is = absurd cc
one_value (Some x) None is = absurd cc
one_value (Some x) (Some y) is = cc

either_way : (test : Bool) (A B C : Type 0) → (A → C) → (B → C) → By test A B → C
either_way true A B C one other is = one is
either_way false A B C one other is = other is

each_other : {A : Type 0} (P Q : A → Type 0) → ((x : A) → P x → Q x) → (xs : List A) → AllByRecursion P xs → AllByRecursion Q xs
each_other P Q so [] all = tt
each_other P Q so (x ∷ xs) all = (so x all.0, each_other P Q so xs all.1)

either_short : (test : Bool) (A B C D : Type 0) → (A → C) → (B → D) → By test A B → By test C D
either_short true A B C D one other is = one is
either_short false A B C D one other is = other is

-- one piece has the value of its field
alone : (value other : Option Tree) (rest : List Tree) → option_to_list value ≡ put other rest → rest ≡ [] → value ≡ other
alone value other rest is none = one_value value other (is ∙ ap (put other) none)

-- in a manner that may ask for plain texts
module _ (Plain : Type 0) (how : Manner) (leads : Plain → (passed : Passed) (text : PlainText) (sight : Sight) (value : Option Tree) → how passed (OneText text) sight value → IsPlainValue text sight value) where
  has_number : (form : NumForm) (width : ℤ) (fixed : Option Term) (sight : Sight) (value : Option Tree) (bits : List Bool) → IsNumber form width fixed sight value bits
      → Has (is_none fixed) value
  has_number form width None sight value bits is = (trees.Number is.0, is.1)
  has_number form width (Some term) sight value bits is = is.1

  has_text : (form : TextForm) (known : Facts) (sight : Sight) (fixed : Option (List PlainPart)) (size : Option ℕ) (value : Option Tree) (bytes : List ℕ) → AreBytes known sight fixed value bytes → Has (is_none fixed) value
  has_text form known sight None size value bytes are = (trees.Text bytes, are)
  has_text form known sight (Some parts) size value bytes are = are.0

  -- no form is too long without bytes
  none_short : (form : TextForm) → is_too_long form None 0 ≡ false
  none_short forms.Open = refl
  none_short forms.Pascal = refl
  none_short forms.WordLong = refl
  none_short forms.Zero = refl

  bytes_short : (form : TextForm) (known : Facts) (sight : Sight) (fixed : Option (List PlainPart)) (size : Option ℕ) (value : Option Tree) (bytes : List ℕ) → AreBytes known sight fixed value bytes
      → is_too_long form None (length bytes) ≡ false → is_too_long form None (length (text_in value)) ≡ false
  bytes_short form known sight None size value bytes are short =
      ap (λ (o : Option Tree). is_too_long form None (length (text_in o))) are ∙ ap (λ (bs : List ℕ). is_too_long form None (length bs)) (text_is bytes) ∙ short
  bytes_short form known sight (Some parts) size value bytes are short = ap (λ (o : Option Tree). is_too_long form None (length (text_in o))) are.0 ∙ none_short form

  size_short : (form : TextForm) (known : Facts) (sight : Sight) (fixed : Option (List PlainPart)) (term : Option Term) (size : Option ℕ) (value : Option Tree) (bytes : List ℕ)
      → IsSize form sight term size → AreBytes known sight fixed value bytes → is_too_long form size (length bytes) ≡ false
      → (is_none term && is_too_long form None (length (text_in value))) ≡ false
  size_short form known sight fixed None size value bytes is are short =
      bytes_short form known sight fixed size value bytes are (subst (λ (o : Option ℕ). is_too_long form o (length bytes) ≡ false) is short)
  size_short form known sight fixed (Some term) size value bytes is are short = refl

  text_short : (text : PlainText) (known : Facts) (sight : Sight) (value : Option Tree) (bits : List Bool) → IsText text known sight value bits → exceeds text (text_in value) ≡ false
  text_short text known sight value bits is = size_short text.form known sight text.fixed text.size is.size value is.bytes is.has_size is.are_bytes is.short

  bytes_plain : (form : TextForm) (known : Facts) (sight : Sight) (fixed : Option (List PlainPart)) (size : Option ℕ) (value : Option Tree) (bytes : List ℕ) → AreBytes known sight fixed value bytes
      → (value ≡ Some (trees.Text bytes) → IsPlainText form size bytes)
      → printed.AreBytes (text_in value)
  bytes_plain form known sight None size value bytes are plain =
      subst (λ (o : Option Tree). printed.AreBytes (text_in o)) (sym are) (subst printed.AreBytes (sym (text_is bytes)) (plain are).0)
  bytes_plain form known sight (Some parts) size value bytes are plain = subst (λ (o : Option Tree). printed.AreBytes (text_in o)) (sym are.0) tt

  -- what is said of a value, and of a row
  record Fine (field : PlainField) (value : Option Tree) : Type 0 where
    short : IsShortText field value
    bytes : Plain → IsOfBytes field value

  record CasesFine (cases : PlainCases) (value : Option Tree) : Type 0 where
    short : IsShortCase cases value
    bytes : Plain → IsCaseOfBytes cases value

  record RowFine (body : PlainBody) (row : List Tree) : Type 0 where
    short : AreShortTexts body row
    bytes : Plain → AreOfBytes body row

  rows_fine : (name : Option Word) (count : Option ℤ) (row : PlainBody) (rows : List (List Tree)) (value : Option Tree) → rows_in value ≡ rows → AllByRecursion (RowFine row) rows → Fine (Array name count row) value
  rows_fine name count row rows value is all = record {
    short = subst (AllByRecursion (AreShortTexts row)) (sym is) (each_other (RowFine row) (AreShortTexts row) (λ line one. one.short) rows all);
    bytes = λ so. subst (AllByRecursion (AreOfBytes row)) (sym is) (each_other (RowFine row) (AreOfBytes row) (λ line one. one.bytes so) rows all);
  }

  either_fine : (name : Word) (row : PlainBody) (others : PlainCases) (value : Option Tree) (One Other : Type 0) → (One → RowFine row (line_in value)) → (Other → CasesFine others value)
      → By (is_case name value) One Other → CasesFine (case_and name row others) value
  either_fine name row others value One Other one other is = record {
    short = either_short (is_case name value) One Other (AreShortTexts row (line_in value)) (IsShortCase others value) (λ x. (one x).short) (λ x. (other x).short) is;
    bytes = λ so. either_short (is_case name value) One Other (AreOfBytes row (line_in value)) (IsCaseOfBytes others value) (λ x. (one x).bytes so) (λ x. (other x).bytes so) is;
  }

  has_group : (fixed : Option (List Term)) (value : Option Tree) → IsGrouped fixed value → Has (is_none fixed) value
  has_group None value is = (trees.Group is.0, is.1)
  has_group (Some terms) value is = is

  module _ (known : Facts) (all : List Bool) where
    has_case : (cases : PlainCases) (names : Environment) (passed : Passed) (value : Option Tree) (at : ℕ) (late : Late) (after : ℕ) (late_after : Late)
        → CaseSpells how known all cases names passed value at late after late_after → Has true value
    has_case no_cases names passed value at late after late_after is = absurd is
    has_case (case_and name row others) names passed value at late after late_after is =
        either_way (is_case name value) _ (CaseSpells how known all others names passed value at late after late_after) (Has true value)
        (λ one. (trees.Choice name one.0, one.1)) (λ other. has_case others names passed value at late after late_after other) is

    has_value : (field : PlainField) (names : Environment) (passed : Passed) (value : Option Tree) (at : ℕ) (late : Late) (after : ℕ) (late_after : Late)
        → FieldSpells how known all field names passed value at late after late_after → Has (takes_value field) value
    has_value (Number number) names passed value at late after late_after spells =
        let it = spells.1 in
        subst (Has (is_none number.fixed)) (sym (alone value it.0 it.1 it.4 it.6.0)) (has_number number.form number.width number.fixed (sees known all names at) it.0 it.5.bits it.5.stored)
    has_value (Text text) names passed value at late after late_after spells =
        let it = spells.1 in
        subst (Has (is_none text.fixed)) (sym (alone value it.0 it.1 it.4 it.6.0)) (has_text text.form known (sees known all names at) text.fixed it.5.stored.size it.0 it.5.stored.bytes it.5.stored.are_bytes)
    has_value (Points points) names passed value at late after late_after spells = has_group points.fixed value spells.0
    has_value (Fill unit count) names passed value at late after late_after spells = let it = spells.1 in alone value it.0 it.1 it.4 it.6.0 ∙ it.5.stored.0
    has_value (Align unit) names passed value at late after late_after spells = let it = spells.1 in alone value it.0 it.1 it.4 it.6.0 ∙ it.5.stored.0
    has_value (Label name) names passed value at late after late_after spells = let it = spells.1 in alone value it.0 it.1 it.4 it.6.0 ∙ it.5.stored.0
    has_value (Array name count row) names passed value at late after late_after spells = (trees.Rows spells.0, spells.1)
    has_value (Switch cases) names passed value at late after late_after spells = has_case cases names passed value at late after late_after spells

    rows_short : (P : List Tree → Type 0) (Row : ℕ → List Tree → ℕ → Late → ℕ → Late → Type 0)
        → ((number : ℕ) (row : List Tree) (at : ℕ) (late : Late) (after : ℕ) (late_after : Late) → Row number row at late after late_after → P row)
        → (number : ℕ) (rows : List (List Tree)) (at : ℕ) (late : Late) (after : ℕ) (late_after : Late) → RowsSpell Row number rows at late after late_after → AllByRecursion P rows
    rows_short P Row each number [] at late after late_after spells = tt
    rows_short P Row each number (row ∷ rows) at late after late_after (mid, late_mid, one, others) =
        (each number row at late mid late_mid one, rows_short P Row each (number + 1) rows mid late_mid after late_after others)

    mutual
      field_fine : (field : PlainField) (names : Environment) (passed : Passed) (value : Option Tree) (at : ℕ) (late : Late) (after : ℕ) (late_after : Late)
          → FieldSpells how known all field names passed value at late after late_after → Fine field value
      field_fine (Number number) names passed value at late after late_after spells = record { short = tt; bytes = λ so. tt }
      field_fine (Text text) names passed value at late after late_after spells =
          let it = spells.1 in
          let same = sym (alone value it.0 it.1 it.4 it.6.0) in
          let stored = it.5.stored in
          record {
            short = subst (λ (o : Option Tree). exceeds text (text_in o) ≡ false) same (text_short text known (sees known all names at) it.0 it.5.bits stored);
            bytes = λ so. subst (λ (o : Option Tree). printed.AreBytes (text_in o)) same (bytes_plain text.form known (sees known all names at) text.fixed stored.size it.0 stored.bytes stored.are_bytes
                (leads so passed text (sees known all names at) it.0 it.5.manner stored.size stored.bytes stored.has_size));
          }
      field_fine (Points points) names passed value at late after late_after spells = record { short = tt; bytes = λ so. tt }
      field_fine (Fill unit count) names passed value at late after late_after spells = record { short = tt; bytes = λ so. tt }
      field_fine (Align unit) names passed value at late after late_after spells = record { short = tt; bytes = λ so. tt }
      field_fine (Label name) names passed value at late after late_after spells = record { short = tt; bytes = λ so. tt }
      field_fine (Array name count row) names passed value at late after late_after (rows, is, stated, counted, are_rows, spells) =
          rows_fine name count row rows value (ap rows_in is ∙ rows_are rows)
          (rows_short (RowFine row) (λ number line. Inside row (row_of name number) names (λ own. BodySpells how known all row own (at_front row passed) line))
          (λ number line from late_from to late_to one. body_fine row one.0 (at_front row passed) line from late_from to late_to one.2) 1 rows at late after late_after spells)
      field_fine (Switch cases) names passed value at late after late_after spells =
          let it = cases_fine cases names passed value at late after late_after spells in record { short = it.short; bytes = it.bytes }

      cases_fine : (cases : PlainCases) (names : Environment) (passed : Passed) (value : Option Tree) (at : ℕ) (late : Late) (after : ℕ) (late_after : Late)
          → CaseSpells how known all cases names passed value at late after late_after → CasesFine cases value
      cases_fine no_cases names passed value at late after late_after spells = record { short = tt; bytes = λ so. tt }
      cases_fine (case_and name row others) names passed value at late after late_after spells =
          either_fine name row others value _ (CaseSpells how known all others names passed value at late after late_after)
          (λ one. subst (RowFine row) (sym (ap line_in one.1 ∙ line_is name one.0)) (body_fine row one.2.0 (at_front row passed) one.0 at late after late_after one.2.2))
          (λ other. cases_fine others names passed value at late after late_after other) spells

      body_fine : (body : PlainBody) (names : Environment) (passed : Passed) (values : List Tree) (at : ℕ) (late : Late) (after : ℕ) (late_after : Late)
          → BodySpells how known all body names passed values at late after late_after → RowFine body values
      body_fine no_fields names passed values at late after late_after spells = record { short = tt; bytes = λ so. tt }
      body_fine (field_and field fields) names passed values at late after late_after (value, rest, mid, late_mid, are, one, others) =
          let front = at_field (field_and field fields) passed in
          let has = has_value field names front value at late mid late_mid one in
          let here : first_value (takes_value field) values ≡ value = ap (first_value (takes_value field)) are ∙ put_first (takes_value field) value rest has in
          let left : other_values (takes_value field) values ≡ rest = ap (other_values (takes_value field)) are ∙ put_others (takes_value field) value rest has in
          let first = field_fine field names front value at late mid late_mid one in
          let more = body_fine fields names (behind field front) rest mid late_mid after late_after others in
          record {
            short = (subst (IsShortText field) (sym here) first.short, subst (AreShortTexts fields) (sym left) more.short);
            bytes = λ so. (subst (IsOfBytes field) (sym here) (first.bytes so), subst (AreOfBytes fields) (sym left) (more.bytes so));
          }

pub spelled_short : (known : Facts) (body : PlainBody) (row : List Tree) (bytes : List ℕ) → Spells known body row bytes → AreShortTexts body row
spelled_short known body row bytes spells =
    (body_fine ⊥ anyhow (λ none passed text sight value is. absurd none) known _ body spells.names (at_front body nothing_passed) row 0 [] spells.end spells.late spells.fields).short

plain_fine : (known : Facts) (body : PlainBody) (row : List Tree) (bytes : List ℕ) → SpellsPlainly known body row bytes → RowFine (Unit {0}) plainly (λ so passed text sight value is. is) body row
plain_fine known body row bytes plain =
    let spells = plain.spelling in
    body_fine (Unit {0}) plainly (λ so passed text sight value is. is) known _ body spells.names (at_front body nothing_passed) row 0 [] spells.end spells.late spells.fields

pub plain_short : (known : Facts) (body : PlainBody) (row : List Tree) (bytes : List ℕ) → SpellsPlainly known body row bytes → AreShortTexts body row
plain_short known body row bytes plain = (plain_fine known body row bytes plain).short

pub spelled_bytes : (known : Facts) (body : PlainBody) (row : List Tree) (bytes : List ℕ) → SpellsPlainly known body row bytes → AreOfBytes body row
spelled_bytes known body row bytes plain = (plain_fine known body row bytes plain).bytes tt
