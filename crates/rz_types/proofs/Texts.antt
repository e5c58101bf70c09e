-- What the parts of a text give, by the values of the numbers in its formats.
use Rattle.std.proofs.Common.{◌≡◌, ℕ, ℤ, true, List, [], ◌∷◌, ◌++◌, Option, Some, None, Result, Ok, Err, refl, ap, ◌∙◌}
use Rattle.std.specs.List.{list_all, AllByRecursion}
use Rattle.std.proofs.lemmas.List.Folds.{list_all-append}
use Rattle.rz_core.proofs.Once.{same_ok}
use Rattle.rz_core.proofs.Tests.{and_so, both}
use Rattle.rz_core.specs.Stop.{◌>>=◌}
use Rattle.rz_core.specs.declared.facts.Facts.{Facts}
use Rattle.rz_core.specs.declared.fault.Fault.{Fault}
use Rattle.rz_core.specs.declared.fault.Mark.{Mark}
use Rattle.rz_expr.specs.Environment.{Sight}
use Rattle.rz_expr.specs.Term.{Term}
use Rattle.rz_expr.specs.Value.{value_of}
use Rattle.rz_expr.specs.declared.value.EvalFault.{EvalFault}
use Rattle.rz_expr.specs.declared.value.EvalFault.TheVariants.{BadIndex, BadShift, DataWidth, LaterData, UnknownName, ZeroDivisor}
use Rattle.rz_types_format.specs.Format.{formatted}
use Rattle.rz_types_format.specs.declared.format.Argument.{Argument}
use Rattle.rz_types_format.specs.declared.format.Argument.TheVariants as values
use Rattle.rz_types_fields.specs.Place.{may_have, may_have_argument, may_have_arguments, may_have_parts, may_say, may_stand}
use Rattle.rz_types_fields.specs.Text.{argument_and, argument_terms, argument_value, argument_values, bytes_seen, format_bytes, no_arguments, no_parts, or_bad_format, part_and, part_bytes, part_terms, parts_bytes, parts_of, parts_terms, terms_in, text_terms, DateFact, FileBytes, FileResource, Format, NameFact, Number, Plain, PlainArgument, PlainArguments, PlainPart, PlainParts, Text, TimeFact, VersionFact}
use Rattle.rz_types_fields.specs.Value.{with_fault, IsArithmetic}
use Rattle.rz_types_fields.specs.declared.place.TextPlace.{TextPlace}

-- what holds of each in two lists
pub each_append : {A : Type 0} (P : A → Type 0) (xs ys : List A) → AllByRecursion P (xs ++ ys) → AllByRecursion P xs × AllByRecursion P ys
each_append P [] ys all = (tt, all)
each_append P (x ∷ xs) ys all = let each = each_append P xs ys all.1 in ((all.0, each.0), each.1)

all_append : {A : Type 0} (P : A → Type 0) (xs ys : List A) → AllByRecursion P xs → AllByRecursion P ys → AllByRecursion P (xs ++ ys)
all_append P [] ys here more = more
all_append P (x ∷ xs) ys here more = (here.0, all_append P xs ys here.1 more)

-- The same bytes.

chained : {X Y F : Type 0} (first : Result X F) (next : X → Result Y F) (y : Y) → (first >>= next) ≡ Ok y → (x : X) × (first ≡ Ok x) × (next x ≡ Ok y)
chained (Ok x) next y is = (x, refl, is)
chained (Err fault) next y is = absurd cc

valued : (place : Mark) (found : Result ℤ EvalFault) (v : ℤ) → with_fault place found ≡ Ok v → found ≡ Ok v
valued place (Ok value) v is = ap (λ (z : ℤ). Ok z) (same_ok value v is)
valued place (Err fault) v is = absurd cc

-- the value of an expression in one sight is its value in the other
abbrev pub Keeps : (one other : Sight) → Term → Type 0
Keeps one other term = (v : ℤ) → value_of term one ≡ Ok v → value_of term other ≡ Ok v

module _ (place : Mark) (known : Facts) (one other : Sight) where
  mutual
    part_kept : (part : PlainPart) → AllByRecursion (Keeps one other) (part_terms part) → (bytes : List ℕ) → part_bytes place known one part ≡ Ok bytes → part_bytes place known other part ≡ Ok bytes
    part_kept (Plain text) keeps bytes is = is
    part_kept NameFact keeps bytes is = is
    part_kept DateFact keeps bytes is = is
    part_kept TimeFact keeps bytes is = is
    part_kept VersionFact keeps bytes is = is
    part_kept (FileBytes file) keeps bytes is = is
    part_kept (FileResource file kind key) keeps bytes is = is
    part_kept (Format text arguments) keeps bytes is =
        let it = chained (argument_values place known one arguments) (λ values. or_bad_format place (formatted text values)) bytes is in
        ap (format_bytes place text) (arguments_kept arguments keeps it.0 it.1) ∙ it.2

    parts_kept : (parts : PlainParts) → AllByRecursion (Keeps one other) (parts_terms parts) → (bytes : List ℕ) → parts_bytes place known one parts ≡ Ok bytes → parts_bytes place known other parts ≡ Ok bytes
    parts_kept no_parts keeps bytes is = is
    parts_kept (part_and part others) keeps bytes is =
        let each = each_append (Keeps one other) (part_terms part) (parts_terms others) keeps in
        let first = chained (part_bytes place known one part) (λ bytes. parts_bytes place known one others >>= λ more. Ok (bytes ++ more)) bytes is in
        let second = chained (parts_bytes place known one others) (λ more. Ok (first.0 ++ more)) bytes first.2 in
        (λ i. part_kept part each.0 first.0 first.1 i >>= λ bytes. parts_kept others each.1 second.0 second.1 i >>= λ more. Ok (bytes ++ more)) ∙ second.2

    argument_kept : (argument : PlainArgument) → AllByRecursion (Keeps one other) (terms_in argument) → (value : Argument) → argument_value place known one argument ≡ Ok value
        → argument_value place known other argument ≡ Ok value
    argument_kept (Number term) keeps value is =
        let it = chained (with_fault place (value_of term one)) (λ number. Ok (values.Number number)) value is in
        ap (λ (found : Result ℤ EvalFault). with_fault place found >>= λ number. Ok (values.Number number)) (keeps.0 it.0 (valued place (value_of term one) it.0 it.1)) ∙ it.2
    argument_kept (Text parts) keeps value is =
        let it = chained (parts_bytes place known one parts) (λ bytes. Ok (values.Text bytes)) value is in
        ap (λ (found : Result (List ℕ) Fault). found >>= λ bytes. Ok (values.Text bytes)) (parts_kept parts keeps it.0 it.1) ∙ it.2

    arguments_kept : (arguments : PlainArguments) → AllByRecursion (Keeps one other) (argument_terms arguments) → (found : List Argument) → argument_values place known one arguments ≡ Ok found
        → argument_values place known other arguments ≡ Ok found
    arguments_kept no_arguments keeps found is = is
    arguments_kept (argument_and argument others) keeps found is =
        let each = each_append (Keeps one other) (terms_in argument) (argument_terms others) keeps in
        let first = chained (argument_value place known one argument) (λ value. argument_values place known one others >>= λ more. Ok (value ∷ more)) found is in
        let second = chained (argument_values place known one others) (λ more. Ok (first.0 ∷ more)) found first.2 in
        (λ i. argument_kept argument each.0 first.0 first.1 i >>= λ value. arguments_kept others each.1 second.0 second.1 i >>= λ more. Ok (value ∷ more)) ∙ second.2

  -- a text has the same bytes where the numbers of its formats have the same values
  pub bytes_kept : (parts : List PlainPart) → AllByRecursion (Keeps one other) (text_terms parts) → (bytes : List ℕ) → bytes_seen place known one parts ≡ Ok bytes → bytes_seen place known other parts ≡ Ok bytes
  bytes_kept parts keeps bytes is = parts_kept (parts_of parts) keeps bytes is

-- Each number of its formats has a value where a text has bytes.

module _ (place : Mark) (known : Facts) (sight : Sight) where
  abbrev IsValued : Term → Type 0
  IsValued term = (v : ℤ) × (value_of term sight ≡ Ok v)

  mutual
    part_valued : (part : PlainPart) (bytes : List ℕ) → part_bytes place known sight part ≡ Ok bytes → AllByRecursion IsValued (part_terms part)
    part_valued (Plain text) bytes is = tt
    part_valued NameFact bytes is = tt
    part_valued DateFact bytes is = tt
    part_valued TimeFact bytes is = tt
    part_valued VersionFact bytes is = tt
    part_valued (FileBytes file) bytes is = tt
    part_valued (FileResource file kind key) bytes is = tt
    part_valued (Format text arguments) bytes is =
        let it = chained (argument_values place known sight arguments) (λ values. or_bad_format place (formatted text values)) bytes is in
        arguments_valued arguments it.0 it.1

    parts_valued : (parts : PlainParts) (bytes : List ℕ) → parts_bytes place known sight parts ≡ Ok bytes → AllByRecursion IsValued (parts_terms parts)
    parts_valued no_parts bytes is = tt
    parts_valued (part_and part others) bytes is =
        let first = chained (part_bytes place known sight part) (λ bytes. parts_bytes place known sight others >>= λ more. Ok (bytes ++ more)) bytes is in
        let second = chained (parts_bytes place known sight others) (λ more. Ok (first.0 ++ more)) bytes first.2 in
        all_append IsValued (part_terms part) (parts_terms others) (part_valued part first.0 first.1) (parts_valued others second.0 second.1)

    argument_valued : (argument : PlainArgument) (value : Argument) → argument_value place known sight argument ≡ Ok value → AllByRecursion IsValued (terms_in argument)
    argument_valued (Number term) value is =
        let it = chained (with_fault place (value_of term sight)) (λ number. Ok (values.Number number)) value is in
        ((it.0, valued place (value_of term sight) it.0 it.1), tt)
    argument_valued (Text parts) value is =
        let it = chained (parts_bytes place known sight parts) (λ bytes. Ok (values.Text bytes)) value is in
        parts_valued parts it.0 it.1

    arguments_valued : (arguments : PlainArguments) (found : List Argument) → argument_values place known sight arguments ≡ Ok found → AllByRecursion IsValued (argument_terms arguments)
    arguments_valued no_arguments found is = tt
    arguments_valued (argument_and argument others) found is =
        let first = chained (argument_value place known sight argument) (λ value. argument_values place known sight others >>= λ more. Ok (value ∷ more)) found is in
        let second = chained (argument_values place known sight others) (λ more. Ok (first.0 ∷ more)) found first.2 in
        all_append IsValued (terms_in argument) (argument_terms others) (argument_valued argument first.0 first.1) (arguments_valued others second.0 second.1)

  pub bytes_valued : (parts : List PlainPart) (bytes : List ℕ) → bytes_seen place known sight parts ≡ Ok bytes
      → AllByRecursion (λ term. (v : ℤ) × (value_of term sight ≡ Ok v)) (text_terms parts)
  bytes_valued parts bytes is = parts_valued (parts_of parts) bytes is

-- What may stand in a text.

module _ (spot : TextPlace) where
  both_say : (xs ys : List Term) → list_all (may_say spot) xs ≡ true → list_all (may_say spot) ys ≡ true → list_all (may_say spot) (xs ++ ys) ≡ true
  both_say xs ys one other =
      list_all-append (may_say spot) xs ys ∙ and_so (list_all (may_say spot) xs) (list_all (may_say spot) ys) one other

  mutual
    part_says : (part : PlainPart) → may_have spot part ≡ true → list_all (may_say spot) (part_terms part) ≡ true
    part_says (Plain text) may = refl
    part_says NameFact may = refl
    part_says DateFact may = refl
    part_says TimeFact may = refl
    part_says VersionFact may = refl
    part_says (FileBytes file) may = refl
    part_says (FileResource file kind key) may = refl
    part_says (Format text arguments) may = arguments_say arguments may

    parts_say : (parts : PlainParts) → may_have_parts spot parts ≡ true → list_all (may_say spot) (parts_terms parts) ≡ true
    parts_say no_parts may = refl
    parts_say (part_and part others) may =
        let each = both (may_have spot part) (may_have_parts spot others) may in
        both_say (part_terms part) (parts_terms others) (part_says part each.0) (parts_say others each.1)

    argument_says : (argument : PlainArgument) → may_have_argument spot argument ≡ true → list_all (may_say spot) (terms_in argument) ≡ true
    argument_says (Number term) may = and_so (may_say spot term) true may refl
    argument_says (Text parts) may = parts_say parts may

    arguments_say : (arguments : PlainArguments) → may_have_arguments spot arguments ≡ true → list_all (may_say spot) (argument_terms arguments) ≡ true
    arguments_say no_arguments may = refl
    arguments_say (argument_and argument others) may =
        let each = both (may_have_argument spot argument) (may_have_arguments spot others) may in
        both_say (terms_in argument) (argument_terms others) (argument_says argument each.0) (arguments_say others each.1)

  -- each number of its formats is an expression that may stand there
  pub text_says : (parts : List PlainPart) → may_stand spot parts ≡ true → list_all (may_say spot) (text_terms parts) ≡ true
  text_says parts may = parts_say (parts_of parts) may

-- The faults of a text, where the numbers of its formats have none but 211 and 215: these, and 222.

abbrev pub OnlyOne : (IsOne : ℕ → Type 0) {X : Type 0} → Result X Fault → Type 0
OnlyOne IsOne (Ok x) = Unit {0}
OnlyOne IsOne (Err fault) = IsOne fault.number

module _ (IsOne : ℕ → Type 0) (zero_divisor : IsOne 211) (bad_shift : IsOne 215) (bad_format : IsOne 222) (place : Mark) (known : Facts) (sight : Sight) where
  abbrev HasValue : Term → Type 0
  HasValue term = IsArithmetic (value_of term sight)

  then_one : {X Y : Type 0} (first : Result X Fault) (next : X → Result Y Fault) → OnlyOne IsOne first → ((x : X) → OnlyOne IsOne (next x)) → OnlyOne IsOne (first >>= next)
  then_one (Ok x) next one more = more x
  then_one (Err fault) next one more = one

  valued_one : (found : Result ℤ EvalFault) → IsArithmetic found → OnlyOne IsOne (with_fault place found)
  valued_one (Ok value) is = tt
  valued_one (Err ZeroDivisor) is = zero_divisor
  valued_one (Err (BadShift count)) is = bad_shift
  valued_one (Err (UnknownName word)) is = absurd is
  valued_one (Err (BadIndex number)) is = absurd is
  valued_one (Err (LaterData first end)) is = absurd is
  valued_one (Err (DataWidth width)) is = absurd is

  format_one : (found : Option (List ℕ)) → OnlyOne IsOne (or_bad_format place found)
  format_one None = bad_format
  format_one (Some bytes) = tt

  mutual
    part_one : (part : PlainPart) → AllByRecursion HasValue (part_terms part) → OnlyOne IsOne (part_bytes place known sight part)
    part_one (Plain text) each = tt
    part_one NameFact each = tt
    part_one DateFact each = tt
    part_one TimeFact each = tt
    part_one VersionFact each = tt
    part_one (FileBytes file) each = tt
    part_one (FileResource file kind key) each = tt
    part_one (Format text arguments) each =
        then_one (argument_values place known sight arguments) (λ values. or_bad_format place (formatted text values)) (arguments_one arguments each) (λ values. format_one (formatted text values))

    parts_one : (parts : PlainParts) → AllByRecursion HasValue (parts_terms parts) → OnlyOne IsOne (parts_bytes place known sight parts)
    parts_one no_parts each = tt
    parts_one (part_and part others) each =
        let own = each_append HasValue (part_terms part) (parts_terms others) each in
        then_one (part_bytes place known sight part) (λ bytes. parts_bytes place known sight others >>= λ more. Ok (bytes ++ more)) (part_one part own.0)
        (λ bytes. then_one (parts_bytes place known sight others) (λ more. Ok (bytes ++ more)) (parts_one others own.1) (λ more. tt))

    argument_one : (argument : PlainArgument) → AllByRecursion HasValue (terms_in argument) → OnlyOne IsOne (argument_value place known sight argument)
    argument_one (Number term) each =
        then_one (with_fault place (value_of term sight)) (λ number. Ok (values.Number number)) (valued_one (value_of term sight) each.0) (λ number. tt)
    argument_one (Text parts) each = then_one (parts_bytes place known sight parts) (λ bytes. Ok (values.Text bytes)) (parts_one parts each) (λ bytes. tt)

    arguments_one : (arguments : PlainArguments) → AllByRecursion HasValue (argument_terms arguments) → OnlyOne IsOne (argument_values place known sight arguments)
    arguments_one no_arguments each = tt
    arguments_one (argument_and argument others) each =
        let own = each_append HasValue (terms_in argument) (argument_terms others) each in
        then_one (argument_value place known sight argument) (λ value. argument_values place known sight others >>= λ more. Ok (value ∷ more)) (argument_one argument own.0)
        (λ value. then_one (argument_values place known sight others) (λ more. Ok (value ∷ more)) (arguments_one others own.1) (λ more. tt))

  pub text_one : (parts : List PlainPart) → AllByRecursion HasValue (text_terms parts) → OnlyOne IsOne (bytes_seen place known sight parts)
  text_one parts each = parts_one (parts_of parts) each
