-- A message can name each fault of items.
use Rattle.std.proofs.Common.{◌≡◌, ℕ, ◌+◌, ◌<◌, ℤ, Bool, true, false, List, [], ◌∷◌, ◌++◌, length, inl, inr, refl, sym, subst}
use Rattle.std.specs.List.{AllByRecursion}
use Rattle.std.specs.Prelude.{Option, Some, None, Ok, Err, replicate}
use Rattle.std.specs.Str.{str_eq_ignore_ascii_case}
use Rattle.std.specs.declared.result.Result.{Result}
use Rattle.rz_core.specs.Stop.{Meets, ◌>>=◌, OnFault}
use Rattle.rz_core.specs.Message.{is_fault, IsNameable}
use Rattle.rz_core.specs.declared.facts.Facts.{Facts}
use Rattle.rz_core.specs.declared.fault.Fault.{Fault}
use Rattle.rz_core.specs.declared.fault.Mark.{Mark}
use Rattle.rz_core.specs.declared.resource.Word.{Word}
use Rattle.rz_core.specs.declared.stop.Stop.{Stop}
use Rattle.rz_core.specs.declared.stop.Stop.TheVariants.{NoMemory, Refused}
use Rattle.rz_expr.specs.Environment.{Sight}
use Rattle.rz_expr.specs.Term.{Term}
use Rattle.rz_expr.specs.Value.{value_of}
use Rattle.rz_expr.specs.declared.value.EvalFault.{EvalFault}
use Rattle.rz_expr.specs.declared.value.EvalFault.TheVariants.{BadIndex, BadShift, DataWidth, LaterData, UnknownName, ZeroDivisor}
use Rattle.rz_stmt_items.specs.Item.{more, none, Braced, Named, Number, PlainItem, PlainItems, Text}
use Rattle.rz_stmt_items.specs.Places.{AreInside, IsItemWithin}
use Rattle.rz_stmt_items.specs.Fits.{is_char, list_of, Fits, IsItemOf, IsNumberOf}
use Rattle.rz_stmt_items.specs.Match.{IsMatch}
use Rattle.rz_stmt_items.specs.Unfit.{keeps, mark_of, BreaksAt, IsCaseFault, IsCharFault, IsExpressionFault, IsGroupFault, IsItemFault, IsLetterFault, IsLongLetter, IsNumberFault, IsOtherCount, IsTextFault, NextUnfit, RowsUnfit, RowUnfit, UnfitAll, WholeUnfit}
use Rattle.rz_types_fields.specs.Text as plain
use Rattle.rz_types_fields.specs.Text.{argument_and, argument_value, argument_values, bytes_of, no_arguments, no_parts, or_bad_format, part_and, part_bytes, parts_bytes, parts_of, DateFact, FileBytes, FileResource, Format, NameFact, Plain, PlainArgument, PlainArguments, PlainPart, PlainParts, TimeFact, VersionFact}
use Rattle.rz_types_fields.specs.declared.tree.Tree.{Tree}
use Rattle.rz_types_format.specs.Format.{formatted}
use Rattle.rz_types_format.specs.declared.format.Argument.TheVariants as values
use Rattle.rz_types_fields.specs.Row.{By}
use Rattle.rz_types.specs.Field.{takes_value, PlainBody, PlainCases, PlainField, PlainNumber, PlainText}
use Rattle.rz_types.specs.Field as fields
use Rattle.rz_types.specs.Shape.{numbers_of}
use Rattle.rz_types.specs.Piece.{integer}
use Rattle.rz_types.specs.Value.{field_sight, value_fault, with_fault}

module _ (files : ℕ) where
  kept_named : (number : ℕ) (mark : Mark) (value : ℤ) (fault : Fault) → is_fault number ≡ true → mark.file < files → fault ≡ keeps number mark value → IsNameable files fault
  kept_named number mark value fault there within is =
      subst (IsNameable files) (sym is) (record { number = there; place = within })

  value_named : (mark : Mark) → mark.file < files → (cause : EvalFault) → IsNameable files (value_fault mark cause)
  value_named mark within ZeroDivisor = record { number = refl; place = within }
  value_named mark within (UnknownName word) = record { number = refl; place = within }
  value_named mark within (BadIndex number) = record { number = refl; place = within }
  value_named mark within (LaterData first behind) = record { number = refl; place = within }
  value_named mark within (DataWidth width) = record { number = refl; place = within }
  value_named mark within (BadShift count) = record { number = refl; place = within }

  -- where there is no value, a message can name the fault
  abbrev CanBeNamed : {X : Type 0} → Result X Fault → Type 0
  CanBeNamed (Ok value) = Unit {0}
  CanBeNamed (Err fault) = IsNameable files fault

  so_named : {X : Type 0} (result : Result X Fault) (fault : Fault) → CanBeNamed result → result ≡ Err fault → IsNameable files fault
  so_named result fault named e = subst CanBeNamed e named

  then_named : {X Y : Type 0} (first : Result X Fault) (next : X → Result Y Fault) → CanBeNamed first → ((x : X) → CanBeNamed (next x)) → CanBeNamed (first >>= next)
  then_named (Ok x) next one rest = rest x
  then_named (Err fault) next one rest = one

  -- Expressions and texts.

  module _ (mark : Mark) (within : mark.file < files) where
    valued_named : (value : Result ℤ EvalFault) → CanBeNamed (with_fault mark value)
    valued_named (Ok value) = tt
    valued_named (Err cause) = value_named mark within cause

    filled_named : (filled : Option (List ℕ)) → CanBeNamed (or_bad_format mark filled)
    filled_named None = record { number = refl; place = within }
    filled_named (Some bytes) = tt

    module _ (known : Facts) (sight : Sight) where
      mutual
        part_named : (part : PlainPart) → CanBeNamed (part_bytes mark known sight part)
        part_named (Plain bytes) = tt
        part_named NameFact = tt
        part_named DateFact = tt
        part_named TimeFact = tt
        part_named VersionFact = tt
        part_named (FileBytes file) = tt
        part_named (FileResource file kind key) = tt
        part_named (Format text arguments) =
            then_named (argument_values mark known sight arguments) (λ values. or_bad_format mark (formatted text values)) (arguments_named arguments)
            (λ values. filled_named (formatted text values))

        parts_named : (parts : PlainParts) → CanBeNamed (parts_bytes mark known sight parts)
        parts_named no_parts = tt
        parts_named (part_and part others) =
            then_named (part_bytes mark known sight part) (λ bytes. parts_bytes mark known sight others >>= λ more. Ok (bytes ++ more)) (part_named part)
            (λ bytes. then_named (parts_bytes mark known sight others) (λ more. Ok (bytes ++ more)) (parts_named others) (λ more. tt))

        argument_named : (argument : PlainArgument) → CanBeNamed (argument_value mark known sight argument)
        argument_named (plain.Number term) =
            then_named (with_fault mark (value_of term sight)) (λ number. Ok (values.Number number)) (valued_named (value_of term sight)) (λ number. tt)
        argument_named (plain.Text parts) =
            then_named (parts_bytes mark known sight parts) (λ bytes. Ok (values.Text bytes)) (parts_named parts) (λ bytes. tt)

        arguments_named : (arguments : PlainArguments) → CanBeNamed (argument_values mark known sight arguments)
        arguments_named no_arguments = tt
        arguments_named (argument_and argument others) =
            then_named (argument_value mark known sight argument) (λ value. argument_values mark known sight others >>= λ more. Ok (value ∷ more)) (argument_named argument)
            (λ value. then_named (argument_values mark known sight others) (λ more. Ok (value ∷ more)) (arguments_named others) (λ more. tt))

  bytes_named : (known : Facts) (parts : List PlainPart) (mark : Mark) (fault : Fault) → mark.file < files → bytes_of mark known parts ≡ Err fault → IsNameable files fault
  bytes_named known parts mark fault within e =
      so_named (bytes_of mark known parts) fault (parts_named mark within known (field_sight known []) (parts_of parts)) e

  item_mark : (item : PlainItem) → IsItemWithin files item → (mark_of item).file < files
  item_mark (Number term mark) within = within
  item_mark (Text parts mark) within = within
  item_mark (Braced items mark) within = within.0
  item_mark (Named name items mark) within = within.0

  listed : (items : PlainItems) → AreInside files items → AllByRecursion (IsItemWithin files) (list_of items)
  listed none within = tt
  listed (more item items) within = (within.0, listed items within.1)

  -- Lists.

  behind_within : (used rest : List PlainItem) → AllByRecursion (IsItemWithin files) (used ++ rest) → AllByRecursion (IsItemWithin files) rest
  behind_within [] rest within = within
  behind_within (item ∷ used) rest within = behind_within used rest within.1

  module _ {F V : Type 0} (IsOf : F → PlainItem → V → Type 0) (IsFaultOf : ℕ → F → PlainItem → Fault → Type 0) (place : Mark) (there : place.file < files)
      (named : (position : ℕ) (field : F) (item : PlainItem) (fault : Fault) → IsItemWithin files item → IsFaultOf position field item fault → IsNameable files fault) where
    break_named : (all : List PlainItem) (position : ℕ) (others : List F) (rest : List PlainItem) (fault : Fault) → AllByRecursion (IsItemWithin files) rest
        → BreaksAt IsFaultOf place all position others rest fault → IsNameable files fault
    break_named all position [] [] fault within breaks = absurd breaks
    break_named all position [] (item ∷ rest) fault within breaks = kept_named 209 (mark_of item) _ fault refl (item_mark item within.0) breaks
    break_named all position (field ∷ others) [] fault within breaks = kept_named 208 place _ fault refl there breaks
    break_named all position (field ∷ others) (item ∷ rest) fault within breaks = named position field item fault within.0 breaks

    unfit_named : (fields : List F) (items : List PlainItem) (fault : Fault) → AllByRecursion (IsItemWithin files) items
        → UnfitAll IsOf IsFaultOf place fields items fault → IsNameable files fault
    unfit_named fields items fault within unfit =
        break_named items (length unfit.used + 1) unfit.others unfit.rest fault
        (behind_within unfit.used unfit.rest (subst (AllByRecursion (IsItemWithin files)) unfit.are_items within)) unfit.breaks

  -- Items.

  module _ (known : Facts) where
    expression_named : (number : PlainNumber) (term : Term) (mark : Mark) (fault : Fault) → mark.file < files
        → IsExpressionFault known number term mark fault → IsNameable files fault
    expression_named number term mark fault within (inl broken) =
        let value = value_of term (field_sight known number.symbols) in
        so_named (with_fault mark value) fault (valued_named mark within value) broken
    expression_named number term mark fault within (inr is) = kept_named 207 mark is.0 fault refl within is.3

    long_named : (mark : Mark) (bytes : List ℕ) (fault : Fault) → mark.file < files → IsLongLetter mark bytes fault → IsNameable files fault
    long_named mark [] fault within is = absurd is
    long_named mark (byte ∷ []) fault within is = absurd is
    long_named mark (byte ∷ next ∷ bytes) fault within is = kept_named 216 mark _ fault refl within is

    letter_named : (parts : List PlainPart) (mark : Mark) (fault : Fault) → mark.file < files → IsLetterFault known parts mark fault → IsNameable files fault
    letter_named parts mark fault within (inl broken) = bytes_named known parts mark fault within broken
    letter_named parts mark fault within (inr is) = long_named mark is.0 fault within is.2

    char_named : (char : Bool) (position : ℕ) (parts : List PlainPart) (mark : Mark) (fault : Fault) → mark.file < files
        → IsCharFault char known position parts mark fault → IsNameable files fault
    char_named true position parts mark fault within is = letter_named parts mark fault within is
    char_named false position parts mark fault within is = kept_named 206 mark _ fault refl within is

    number_named : (position : ℕ) (number : PlainNumber) (item : PlainItem) (fault : Fault) → IsItemWithin files item
        → IsNumberFault known position number item fault → IsNameable files fault
    number_named position number (Number term mark) fault within is = expression_named number term mark fault within is
    number_named position number (Text parts mark) fault within is = char_named (is_char number.form) position parts mark fault within is
    number_named position number (Braced items mark) fault within is = kept_named 206 mark _ fault refl within.0 is
    number_named position number (Named name items mark) fault within is = kept_named 206 mark _ fault refl within.0 is

    text_named : (position : ℕ) (text : PlainText) (item : PlainItem) (fault : Fault) → IsItemWithin files item
        → IsTextFault known position text item fault → IsNameable files fault
    text_named position text (Text parts mark) fault within (inl broken) = bytes_named known parts mark fault within broken
    text_named position text (Text parts mark) fault within (inr is) = kept_named 216 mark _ fault refl within is.3
    text_named position text (Number term mark) fault within is = kept_named 206 mark _ fault refl within is
    text_named position text (Braced items mark) fault within is = kept_named 206 mark _ fault refl within.0 is
    text_named position text (Named name items mark) fault within is = kept_named 206 mark _ fault refl within.0 is

    group_named : (position : ℕ) (rect : Bool) (item : PlainItem) (fault : Fault) → IsItemWithin files item
        → IsGroupFault known position rect item fault → IsNameable files fault
    group_named position rect (Braced items mark) fault within is =
        unfit_named (IsNumberOf known) (IsNumberFault known) mark within.0 number_named (replicate (numbers_of rect) (integer None)) (list_of items) fault
        (listed items within.1) is
    group_named position rect (Number term mark) fault within is = kept_named 206 mark _ fault refl within is
    group_named position rect (Text parts mark) fault within is = kept_named 206 mark _ fault refl within is
    group_named position rect (Named name items mark) fault within is = kept_named 206 mark _ fault refl within.0 is

    -- Rows.

    next_named : (takes : Bool) (field : PlainField) (others : PlainBody)
        → ((position : ℕ) (item : PlainItem) (fault : Fault) → IsItemWithin files item → IsItemFault known field position item fault → IsNameable files fault)
        → (place : Mark) → place.file < files → (all : List PlainItem)
        → ((before : ℕ) (items : List PlainItem) (fault : Fault) → AllByRecursion (IsItemWithin files) items → RowUnfit known others place all before items fault → IsNameable files fault)
        → (before : ℕ) (items : List PlainItem) (fault : Fault) → AllByRecursion (IsItemWithin files) items
        → NextUnfit (record { takes = takes; IsOne = IsItemOf known field; IsFaultOf = IsItemFault known field }) (RowUnfit known others place all)
        (record { place = place; all = all }) before items fault → IsNameable files fault
    next_named true field others one place there all so before [] fault within is = kept_named 208 place _ fault refl there is
    next_named true field others one place there all so before (item ∷ rest) fault within (inl broken) = one (before + 1) item fault within.0 broken
    next_named true field others one place there all so before (item ∷ rest) fault within (inr (value, is, broken)) = so (before + 1) rest fault within.1 broken
    next_named false field others one place there all so before items fault within is = so before items fault within is

    -- what a row of these fields has as a fault can be named
    abbrev RowNamed : PlainBody → Type 0
    RowNamed body =
        (place : Mark) → place.file < files → (all : List PlainItem) (before : ℕ) (items : List PlainItem) (fault : Fault) → AllByRecursion (IsItemWithin files) items
        → RowUnfit known body place all before items fault → IsNameable files fault

    whole_named : (body : PlainBody) → RowNamed body → (place : Mark) → place.file < files → (items : List PlainItem) (fault : Fault) → AllByRecursion (IsItemWithin files) items
        → WholeUnfit (Fits known body) (RowUnfit known body place items) items fault → IsNameable files fault
    whole_named body so place there items fault within (inl broken) = so place there items 0 items fault within broken
    whole_named body so place there items fault within (inr (front, item, rest, row, are, fits, is)) =
        kept_named 209 (mark_of item) _ fault refl (item_mark item (behind_within front (item ∷ rest) (subst (AllByRecursion (IsItemWithin files)) are within)).0) is

    count_named : (place : Mark) → place.file < files → (count : Option ℤ) (given : ℕ) (fault : Fault) → IsOtherCount place count given fault → IsNameable files fault
    count_named place there None given fault is = absurd is
    count_named place there (Some stated) given fault is = subst (IsNameable files) (sym is.1) (record { number = refl; place = there })

    rows_named : (body : PlainBody) → RowNamed body → (place : Mark) → place.file < files → (count : Option ℤ) (items : List PlainItem) (fault : Fault) → AllByRecursion (IsItemWithin files) items
        → RowsUnfit (Fits known body) (RowUnfit known body place items) place count items fault → IsNameable files fault
    rows_named body so place there count items fault within (inl (front, item, rest, rows, are, fit, broken)) =
        so place there items (length front) (item ∷ rest) fault (behind_within front (item ∷ rest) (subst (AllByRecursion (IsItemWithin files)) are within)) broken
    rows_named body so place there count items fault within (inr (rows, fit, is)) = count_named place there count (length rows) fault is

    array_named : (name : Option Word) (count : Option ℤ) (body : PlainBody) → RowNamed body → (position : ℕ) (item : PlainItem) (fault : Fault) → IsItemWithin files item
        → IsItemFault known (fields.Array name count body) position item fault → IsNameable files fault
    array_named name count body so position (Braced items mark) fault within is = rows_named body so mark within.0 count (list_of items) fault (listed items within.1) is
    array_named name count body so position (Number term mark) fault within is = kept_named 206 mark _ fault refl within is
    array_named name count body so position (Text parts mark) fault within is = kept_named 206 mark _ fault refl within is
    array_named name count body so position (Named own items mark) fault within is = kept_named 206 mark _ fault refl within.0 is

    abbrev CasesNamed : PlainCases → Type 0
    CasesNamed cases =
        (mark : Mark) → mark.file < files → (name : List ℕ) (items : List PlainItem) (fault : Fault) → AllByRecursion (IsItemWithin files) items
        → IsCaseFault known cases mark name items fault → IsNameable files fault

    case_named : (test : Bool) (own : Word) (body : PlainBody) (others : PlainCases) → RowNamed body → CasesNamed others → (mark : Mark) → mark.file < files
        → (name : List ℕ) (items : List PlainItem) (fault : Fault) → AllByRecursion (IsItemWithin files) items
        → By test (WholeUnfit (Fits known body) (RowUnfit known body mark items) items fault) (IsCaseFault known others mark name items fault) → IsNameable files fault
    case_named true own body others so rest mark there name items fault within is = whole_named body so mark there items fault within is
    case_named false own body others so rest mark there name items fault within is = rest mark there name items fault within is

    switch_named : (cases : PlainCases) → CasesNamed cases → (position : ℕ) (item : PlainItem) (fault : Fault) → IsItemWithin files item
        → IsItemFault known (fields.Switch cases) position item fault → IsNameable files fault
    switch_named cases so position (Named name items mark) fault within is = so mark within.0 name (list_of items) fault (listed items within.1) is
    switch_named cases so position (Number term mark) fault within is = kept_named 206 mark _ fault refl within is
    switch_named cases so position (Text parts mark) fault within is = kept_named 206 mark _ fault refl within is
    switch_named cases so position (Braced items mark) fault within is = kept_named 206 mark _ fault refl within.0 is

    mutual
      item_named : (field : PlainField) (position : ℕ) (item : PlainItem) (fault : Fault) → IsItemWithin files item
          → IsItemFault known field position item fault → IsNameable files fault
      item_named (fields.Number number) position item fault within is = number_named position number item fault within is
      item_named (fields.Text text) position item fault within is = text_named position text item fault within is
      item_named (fields.Points points) position item fault within is = group_named position points.rect item fault within is
      item_named (fields.Fill unit count) position item fault within is = kept_named 206 (mark_of item) _ fault refl (item_mark item within) is
      item_named (fields.Align unit) position item fault within is = kept_named 206 (mark_of item) _ fault refl (item_mark item within) is
      item_named (fields.Label name) position item fault within is = kept_named 206 (mark_of item) _ fault refl (item_mark item within) is
      item_named (fields.Array name count body) position item fault within is = array_named name count body (row_named body) position item fault within is
      item_named (fields.Switch cases) position item fault within is = switch_named cases (cases_named cases) position item fault within is

      cases_named : (cases : PlainCases) → CasesNamed cases
      cases_named fields.no_cases mark there name items fault within is = subst (IsNameable files) (sym is) (record { number = refl; place = there })
      cases_named (fields.case_and own body others) mark there name items fault within is =
          case_named (str_eq_ignore_ascii_case own.bytes name) own body others (row_named body) (cases_named others) mark there name items fault within is

      row_named : (body : PlainBody) → RowNamed body
      row_named fields.no_fields place there all before items fault within is = absurd is
      row_named (fields.field_and field others) place there all before items fault within is =
          next_named (takes_value field) field others (item_named field) place there all (row_named others place there all) before items fault within is

    pub met_named : (place : Mark) (body : PlainBody) (items : List PlainItem) (result : Result (List Tree) (Stop Fault)) → place.file < files
        → AllByRecursion (IsItemWithin files) items → Meets result (IsMatch known place body items) → OnFault result (IsNameable files)
    met_named place body items (Ok row) there within meets = tt
    met_named place body items (Err (Refused fault)) there within meets = whole_named body (row_named body) place there items fault within meets
    met_named place body items (Err NoMemory) there within meets = tt
