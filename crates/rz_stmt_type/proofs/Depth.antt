-- Arrays and switches of a `type` statement stand no deeper in one another than brackets may be open.
use Rattle.std.proofs.Common.{◌≡◌, ℕ, suc, ◌+◌, ◌≤◌, nat_le, ◌&&◌, Bool, true, false, if◌then◌else◌, List, [], ◌∷◌, ◌++◌, Option, Some, None, Ok, refl, sym, ap, subst, ◌∙◌, append_assoc, arith}
use Rattle.std.specs.Prelude.{max, option_map}
use Rattle.std.specs.List.{AllByRecursion}
use Rattle.std.proofs.lemmas.Bool.Decides.{nat_tests}
use Rattle.rz_core.proofs.Tests.{both}
use Rattle.rz_core.specs.declared.fault.Mark.{Mark}
use Rattle.rz_core.specs.declared.resource.Word.{Word}
use Rattle.rz_expr.specs.Term.{Term}
use Rattle.rz_expr.specs.Keyword.{is_keyword, keyword_in}
use Rattle.rz_words.specs.declared.keyword.Keyword.{Keyword}
use Rattle.rz_words.specs.declared.keyword.Keyword.TheVariants as keywords
use Rattle.rz_lex.specs.declared.token.Shape.{Shape}
use Rattle.rz_lex.specs.declared.token.Token.{Token}
use Rattle.rz_stmt_brackets.specs.Bracket.{IsBracketed}
use Rattle.rz_stmt_brackets.specs.Limit.{deepest, deepest_type, depth_limit, is_within_limits, keeps_limits, longest_row, row_behind}
use Rattle.rz_stmt_brackets.specs.Pieces.{divides, last, AreCut, Parted}
use Rattle.rz_stmt_brackets.specs.Pieces as pieces
use Rattle.rz_stmt_brackets.specs.Statements.{open_behind, open_behind_all}
use Rattle.rz_stmt_brackets.specs.declared.bracket.Bracket.{Bracket}
use Rattle.rz_stmt_brackets.specs.declared.bracket.Bracket.TheVariants.{Curly, Round, Square}
use Rattle.rz_stmt_brackets.specs.declared.pieces.Divider.{Divider}
use Rattle.rz_stmt_brackets.specs.declared.pieces.Divider.TheVariants.{Case, Semicolon}
use Rattle.rz_stmt_type.specs.Body.{array, case_more, cut, cut_cases, empty, flat, key, labelled, more, no_case, none, switch, AreCases, AreEachCase, AreFields, IsBody, IsField}
use Rattle.rz_stmt_type.specs.Constants.{body_value, cases_value, count_value, field_value, declared, given_value, made_value, number_value, scope_value, Declare, PlainMade}
use Rattle.rz_stmt_type.specs.Constants as values
use Rattle.rz_stmt_type.specs.Declare.{copied, copied_of, for_any, for_ids, in_braces, IsDeclare, IsMade, IsScoped}
use Rattle.rz_stmt_type.specs.Flat.{IsFlatBy}
use Rattle.rz_types_fields.specs.declared.field.TextForm.{TextForm}
use Rattle.rz_stmt_fields.specs.FieldForm.{IsFieldOf, IsFill, IsFillOf}
use Rattle.rz_stmt_fields.specs.FieldWord.{text_form, FieldFront}
use Rattle.rz_stmt_fields.specs.Form as form
use Rattle.rz_stmt_fields.specs.Form.{BodyForm, CasesForm, DeclareForm, FieldForm, MadeForm, ScopeForm}
use Rattle.rz_stmt_type.specs.Head.{bare, case_front, counted, is_colon, named, ArrayFront, CaseFront, IsArrayFront, IsBraced, IsNamed}
use Rattle.rz_stmt_fields.specs.Key.{IsKeyOf}
use Rattle.rz_stmt_type.specs.Label.{label_front, label_in, LabelFront}
use Rattle.rz_stmt_type.specs.Start.{start_of, started, wide_start, Array, FieldStart, Flat, Key, Switch}
use Rattle.rz_stmt_fields.specs.Symbols.{name_in}
use Rattle.rz_stmt_fields.specs.declared.field_word.FieldWord.{FieldWord}
use Rattle.rz_stmt_fields.specs.declared.field_word.FieldWord.TheVariants as words
use Rattle.rz_stmt_fields.proofs.Answering.{same_ok, then_ok}
use Rattle.rz_stmt_fields.proofs.Level.{bracket_level, bracket_opens, level_bracketed, level_cut, level_derives, level_join, level_more, level_nil, plain_by, IsLevel, IsPlain, OfNone}
use Rattle.rz_stmt_type.proofs.Labels.{labelled_so}
use Rattle.rz_stmt_type.proofs.LevelFlat.{flat_level}
use Rattle.rz_stmt_fields.proofs.LevelField.{key_level, keyword_plain, name_plain}
use Rattle.rz_types_fields.specs.Field as made
use Rattle.rz_types_fields.specs.Field.{PlainBody, PlainCases, PlainField}
use Rattle.rz_types_fields.specs.Shape.{body_depth, cases_depth, field_depth}

-- Room: after no front of the tokens are more brackets open than may be, where so many are open before.

abbrev pub HasRoom : (most count : ℕ) → List Token → Type 0
HasRoom most count [] = Unit {0}
HasRoom most count (token ∷ tokens) = (open_behind token.shape count ≤ most) × HasRoom most (open_behind token.shape count) tokens

limits_leave : (most count row : ℕ) (tokens : List Token) → keeps_limits most count row tokens ≡ true → HasRoom most count tokens
limits_leave most count row [] is = tt
limits_leave most count row (token ∷ tokens) is =
    let first = both (nat_le (open_behind token.shape count) most) (nat_le (row_behind token.shape row) longest_row && keeps_limits most (open_behind token.shape count) (row_behind token.shape row) tokens) is in
    let others = both (nat_le (row_behind token.shape row) longest_row) (keeps_limits most (open_behind token.shape count) (row_behind token.shape row) tokens) first.1 in
    (at_most (open_behind token.shape count) first.0, limits_leave most (open_behind token.shape count) (row_behind token.shape row) tokens others.1)
  where
    at_most : (n : ℕ) → nat_le n most ≡ true → n ≤ most
    at_most n holds = grind (arith, nat_tests, holds)

room_front : (most count : ℕ) (xs ys : List Token) → HasRoom most count (xs ++ ys) → HasRoom most count xs
room_front most count [] ys room = tt
room_front most count (x ∷ xs) ys room = (room.0, room_front most (open_behind x.shape count) xs ys room.1)

room_behind : (most count : ℕ) (xs ys : List Token) → HasRoom most count (xs ++ ys) → HasRoom most (open_behind_all xs count) ys
room_behind most count [] ys room = room
room_behind most count (x ∷ xs) ys room = room_behind most (open_behind x.shape count) xs ys room.1

-- after level tokens
room_after : (most count : ℕ) (xs ys : List Token) → IsLevel xs → HasRoom most count (xs ++ ys) → HasRoom most count ys
room_after most count xs ys level room = subst (λ (n : ℕ). HasRoom most n ys) (level count) (room_behind most count xs ys room)

-- Some tokens after others, with as many brackets open; and some in braces.

record IsPassed (tokens behind : List Token) : Type 0 where
  front : List Token
  are : tokens ≡ front ++ behind
  level : IsLevel front

record IsOpened (tokens inside : List Token) : Type 0 where
  level : IsLevel inside → IsLevel tokens
  fits : (most count : ℕ) → HasRoom most count tokens → count + 1 ≤ most
  room : (most count : ℕ) → HasRoom most count tokens → HasRoom most (count + 1) inside

passed_one : (token : Token) (tokens : List Token) → IsPlain token.shape → IsPassed (token ∷ tokens) tokens
passed_one token tokens plain = record { front = token ∷ []; are = refl; level = level_more token [] plain level_nil }

passed_room : (most count : ℕ) (tokens behind : List Token) → IsPassed tokens behind → HasRoom most count tokens → HasRoom most count behind
passed_room most count tokens behind is room = room_after most count is.front behind is.level (subst (HasRoom most count) is.are room)

passed_level : (tokens behind : List Token) → IsPassed tokens behind → IsLevel behind → IsLevel tokens
passed_level tokens behind is level = subst IsLevel (sym is.are) (level_join is.front behind is.level level)

opened_behind : (tokens behind inside : List Token) → IsPassed tokens behind → IsOpened behind inside → IsOpened tokens inside
opened_behind tokens behind inside is opened = record {
  level = λ level. passed_level tokens behind is (opened.level level);
  fits = λ most count room. opened.fits most count (passed_room most count tokens behind is room);
  room = λ most count room. opened.room most count (passed_room most count tokens behind is room);
}

bracket_opened : (most count : ℕ) (bracket : Bracket) (tokens : List Token) (parted : Parted) (is : IsBracketed bracket tokens parted) → HasRoom most count tokens
    → (count + 1 ≤ most) × HasRoom most (count + 1) (parted.front ++ is.closes.sign ∷ parted.behind)
bracket_opened most count bracket tokens parted is room =
    let here = subst (HasRoom most count) is.are room in
    let opens = bracket_opens bracket is.opener.shape is.opens count in
    (subst (λ (n : ℕ). n ≤ most) opens here.0, subst (HasRoom most (count + 1)) is.closes.are (subst (λ (n : ℕ). HasRoom most n is.rest) opens here.1))

bracket_room : (most count : ℕ) (bracket : Bracket) (tokens : List Token) (parted : Parted) → IsBracketed bracket tokens parted → HasRoom most count tokens → HasRoom most (count + 1) parted.front
bracket_room most count bracket tokens parted is room =
    room_front most (count + 1) parted.front (is.closes.sign ∷ parted.behind) (bracket_opened most count bracket tokens parted is room).1

-- after brackets some are open
bracket_behind : (most count : ℕ) (bracket : Bracket) (tokens : List Token) (parted : Parted) → IsBracketed bracket tokens parted → HasRoom most count tokens
    → (n : ℕ) × HasRoom most n parted.behind
bracket_behind most count bracket tokens parted is room = (
  open_behind is.closes.sign.shape (open_behind_all parted.front (count + 1)),
  (room_behind most (count + 1) parted.front (is.closes.sign ∷ parted.behind) (bracket_opened most count bracket tokens parted is room).1).1,
)

braced : (tokens inside : List Token) → IsBraced tokens inside → IsOpened tokens inside
braced tokens inside is = record {
  level = λ level. level_bracketed Curly tokens is.0 is.1 (subst IsLevel is.3 level) (subst IsLevel (sym is.2) level_nil);
  fits = λ most count room. (bracket_opened most count Curly tokens is.0 is.1 room).0;
  room = λ most count room. subst (HasRoom most (count + 1)) (sym is.3) (bracket_room most count Curly tokens is.0 is.1 room);
}

-- Parts of fields.

abbrev IsPassedStart : FieldStart → List Token → Type 0
IsPassedStart (Key behind) tokens = IsPassed tokens behind
IsPassedStart (Array behind) tokens = IsPassed tokens behind
IsPassedStart (Switch behind) tokens = IsPassed tokens behind
IsPassedStart Flat tokens = Unit {0}

wide_passed : (first : Token) (tokens : List Token) → IsPlain first.shape → IsPassedStart (wide_start tokens) (first ∷ tokens)
wide_passed first [] plain = tt
wide_passed first (token ∷ tokens) plain = by (is_keyword keywords.Array token.shape) refl
  where
    array_plain : (shape : Shape) → is_keyword keywords.Array shape ≡ true → IsPlain shape
    array_plain = plain_by (λ s. is_keyword keywords.Array s ≡ true) ((λ h. cc), (λ h. cc), (λ h. cc), (λ h. cc), (λ h. cc), (λ h. cc))

    by : (b : Bool) → is_keyword keywords.Array token.shape ≡ b → IsPassedStart (if b then Array tokens else Flat) (first ∷ token ∷ tokens)
    by true is = record { front = first ∷ token ∷ []; are = refl; level = level_more first (token ∷ []) plain (level_more token [] (array_plain token.shape is) level_nil) }
    by false is = tt

start_passed : (tokens : List Token) → IsPassedStart (start_of tokens) tokens
start_passed [] = tt
start_passed (token ∷ tokens) = by (keyword_in token.shape) refl
  where
    by : (word : Option Keyword) → keyword_in token.shape ≡ word → IsPassedStart (started word tokens) (token ∷ tokens)
    by None is = tt
    by (Some keywords.Key) is = passed_one token tokens (keyword_plain keywords.Key token.shape is)
    by (Some keywords.Array) is = passed_one token tokens (keyword_plain keywords.Array token.shape is)
    by (Some keywords.Wide) is = wide_passed token tokens (keyword_plain keywords.Wide token.shape is)
    by (Some keywords.Switch) is = passed_one token tokens (keyword_plain keywords.Switch token.shape is)
    by (Some other) is = tt

named_opened : (tokens : List Token) (front : ArrayFront) → IsNamed tokens front → IsOpened tokens front.row
named_opened [] front is = absurd is
named_opened (token ∷ tokens) front is =
    subst (λ (f : ArrayFront). IsOpened (token ∷ tokens) f.row) (sym is.4)
    (opened_behind (token ∷ tokens) tokens is.1 (passed_one token tokens (name_plain is.0 token.shape is.2)) (braced tokens is.1 is.3))

bracket_passed : (bracket : Bracket) (tokens : List Token) (parted : Parted) → IsBracketed bracket tokens parted → IsLevel parted.front → IsPassed tokens parted.behind
bracket_passed bracket tokens parted is level = record {
  front = is.opener ∷ (parted.front ++ is.closes.sign ∷ []);
  are = is.are ∙ ap (λ (ts : List Token). is.opener ∷ ts) (is.closes.are ∙ sym (append_assoc parted.front (is.closes.sign ∷ []) parted.behind));
  level = bracket_level bracket tokens parted is level;
}

front_opened : (tokens : List Token) (front : ArrayFront) → IsArrayFront tokens front → IsOpened tokens front.row
front_opened tokens front (bare is) = subst (λ (f : ArrayFront). IsOpened tokens f.row) (sym is.2) (braced tokens is.0 is.1)
front_opened tokens front (named is) = named_opened tokens front is
front_opened tokens front (counted is) =
    subst (λ (f : ArrayFront). IsOpened tokens f.row) (sym is.6)
    (opened_behind tokens is.0.behind is.2 (bracket_passed Square tokens is.0 is.3 (level_derives is.4.0)) (braced is.0.behind is.2 is.5))

colon_plain : (shape : Shape) → is_colon shape ≡ true → IsPlain shape
colon_plain = plain_by (λ s. is_colon s ≡ true) ((λ h. cc), (λ h. cc), (λ h. cc), (λ h. cc), (λ h. cc), (λ h. cc))

label_plain : (name : Word) (shape : Shape) → label_in shape ≡ Some name → IsPlain shape
label_plain name = plain_by (λ s. label_in s ≡ Some name) ((λ h. cc), (λ h. cc), (λ h. cc), (λ h. cc), (λ h. cc), (λ h. cc))

label_passed : (tokens : List Token) (front : LabelFront) → label_front tokens ≡ Some front → IsPassed tokens front.behind
label_passed tokens front has =
    let it = labelled_so tokens front has in record {
      front = it.first ∷ it.second ∷ [];
      are = it.are;
      level = level_more it.first (it.second ∷ []) (label_plain front.name it.first.shape it.named) (level_more it.second [] (colon_plain it.second.shape it.colon) level_nil);
    }

case_passed : (tokens : List Token) (front : CaseFront) → case_front tokens ≡ Some front → IsPassed tokens front.row
case_passed [] front is = absurd cc
case_passed (first ∷ []) front is = absurd cc
case_passed (first ∷ second ∷ row) front is = by (is_colon second.shape) refl (name_in first.shape) refl is
  where
    by : (colon : Bool) → is_colon second.shape ≡ colon → (name : Option Word) → name_in first.shape ≡ name
        → (if colon then option_map (λ n. record { name = n; row = row }) name else None) ≡ Some front → IsPassed (first ∷ second ∷ row) front.row
    by true here (Some name) has so =
        subst (λ (f : CaseFront). IsPassed (first ∷ second ∷ row) f.row) (same so)
        (record { front = first ∷ second ∷ []; are = refl; level = level_more first (second ∷ []) (name_plain name first.shape has) (level_more second [] (colon_plain second.shape here) level_nil) })
      where
        same : ◌≡◌ {A = Option CaseFront} (Some (record { name = name; row = row })) (Some front) → record { name = name; row = row } ≡ front
        same e = cc e
    by true here None has so = absurd cc
    by false here name has so = absurd cc

-- Pieces.

abbrev HaveRoom : (most count : ℕ) → List (List Token) → Type 0
HaveRoom most count all = AllByRecursion (HasRoom most count) all

cut_room : (most count : ℕ) (divider : Divider) → OfNone (λ shape. divides divider shape ≡ true) → (tokens : List Token) (all : List (List Token)) → AreCut divider tokens all
    → AllByRecursion IsLevel all → HasRoom most count tokens → HaveRoom most count all
cut_room most count divider apart tokens all (last piece goes_on) level room = (room, tt)
cut_room most count divider apart tokens all (pieces.more whole parted rest is parts) level room =
    let here = subst (HasRoom most count) is.are room in
    let behind = room_after most count parted.front (is.sign ∷ parted.behind) level.0 here in
    let plain = plain_by (λ shape. divides divider shape ≡ true) apart is.sign.shape (both _ _ is.divides).0 count in (
      room_front most count parted.front (is.sign ∷ parted.behind) here,
      cut_room most count divider apart parted.behind rest parts level.1 (subst (λ (n : ℕ). HasRoom most n parted.behind) plain behind.1),
    )

no_semicolon : OfNone (λ shape. divides Semicolon shape ≡ true)
no_semicolon = ((λ h. cc), (λ h. cc), (λ h. cc), (λ h. cc), (λ h. cc), (λ h. cc))

no_case_word : OfNone (λ shape. divides Case shape ≡ true)
no_case_word = ((λ h. cc), (λ h. cc), (λ h. cc), (λ h. cc), (λ h. cc), (λ h. cc))

-- After fields as many brackets are open as before.

is_start : (tokens : List Token) (start : FieldStart) → start_of tokens ≡ start → IsPassedStart start tokens
is_start tokens start is = subst (λ (s : FieldStart). IsPassedStart s tokens) is (start_passed tokens)

array_opened : (tokens behind : List Token) (front : ArrayFront) → start_of tokens ≡ Array behind → IsArrayFront behind front → IsOpened tokens front.row
array_opened tokens behind front start is = opened_behind tokens behind front.row (is_start tokens (Array behind) start) (front_opened behind front is)

switch_opened : (tokens behind inside : List Token) → start_of tokens ≡ Switch behind → IsBraced behind inside → IsOpened tokens inside
switch_opened tokens behind inside start is = opened_behind tokens behind inside (is_start tokens (Switch behind) start) (braced behind inside is)

mutual
  field_level : (in_case : Bool) (tokens : List Token) (field : FieldForm) → IsField in_case tokens field → IsLevel tokens
  field_level in_case tokens field (flat same_case all one is) = flat_level tokens field is
  field_level in_case tokens field (key all behind one start is) = passed_level tokens behind (is_start tokens (Key behind) start) (key_level behind field is)
  field_level in_case tokens field (array same_case all behind front row start is rows) = (array_opened tokens behind front start is).level (body_level false front.row row rows)
  field_level in_case tokens field (switch same_case all behind inside cases start is within) = (switch_opened tokens behind inside start is).level (cases_level inside cases within)

  body_level : (in_case : Bool) (tokens : List Token) (body : BodyForm) → IsBody in_case tokens body → IsLevel tokens
  body_level in_case tokens body (cut same_case all own_pieces own is fields) = level_cut Semicolon no_semicolon tokens own_pieces is (fields_level in_case own_pieces body fields)

  fields_level : (in_case : Bool) (all : List (List Token)) (body : BodyForm) → AreFields in_case all body → AllByRecursion IsLevel all
  fields_level in_case all body (none same_case) = tt
  fields_level in_case all body (empty same_case rest own fields) = (level_nil, fields_level in_case rest body fields)
  fields_level in_case all body (labelled same_case piece rest front others has fields) =
      let further = fields_level in_case (front.behind ∷ rest) others fields in
      (passed_level piece front.behind (label_passed piece front has) further.0, further.1)
  fields_level in_case all body (more same_case token tokens rest field others is fields) = (field_level in_case (token ∷ tokens) field is, fields_level in_case rest others fields)

  cases_level : (tokens : List Token) (cases : CasesForm) → AreCases tokens cases → IsLevel tokens
  cases_level tokens cases (cut_cases all own_pieces own is each) = level_cut Case no_case_word tokens ([] ∷ own_pieces) is (level_nil, each_level own_pieces cases each)

  each_level : (all : List (List Token)) (cases : CasesForm) → AreEachCase all cases → AllByRecursion IsLevel all
  each_level all cases no_case = tt
  each_level all cases (case_more piece rest front row others begins is each) =
      (passed_level piece front.row (case_passed piece front begins) (body_level true front.row row is), each_level rest others each)

-- A field with no fields of its own is as deep as none.

abbrev IsFlatForm : FieldForm → Type 0
IsFlatForm (form.Array name count row) = ⊥
IsFlatForm (form.Switch cases) = ⊥
IsFlatForm field = Unit {0}

fill_of : (unit : ℕ) (tokens : List Token) (field : FieldForm) → IsFillOf unit tokens field → IsFlatForm field
fill_of unit [] field is = subst IsFlatForm (sym is) tt
fill_of unit (token ∷ tokens) field is = subst IsFlatForm (sym is.2) tt

fill_flat : (tokens : List Token) (field : FieldForm) → IsFill tokens field → IsFlatForm field
fill_flat [] field is = absurd is
fill_flat (token ∷ tokens) field is = fill_of is.0 tokens field is.2

field_of : (word : FieldWord) (front : FieldFront) (field : FieldForm) → IsFieldOf word front field → IsFlatForm field
field_of (words.Number number) front field is = subst IsFlatForm (sym is.2) tt
field_of (words.Text text) front field is = absurd is
field_of (words.Points rect) front field is = subst IsFlatForm (sym is.3) tt
field_of words.Fill front field is = fill_flat front.tail field is.1
field_of words.Align front field is = subst IsFlatForm (sym is.3) tt

flat_by : (text : Option TextForm) (front : FieldFront) (field : FieldForm) → IsFlatBy text front field → IsFlatForm field
flat_by (Some text) front field is = subst IsFlatForm (sym is.4) tt
flat_by None front field is = field_of front.word front field is

key_of : (word : FieldWord) (front : FieldFront) (field : FieldForm) → IsKeyOf word front field → IsFlatForm field
key_of (words.Number number) front field is = subst IsFlatForm (sym is.1.3) tt
key_of word front field is = absurd is

module _ (mark : Mark) where
  flat_depth : (own : FieldForm) → IsFlatForm own → (field : PlainField) → field_value mark own ≡ Ok field → field_depth field ≡ 0
  flat_depth (form.Number number) none_within field is =
      let value = then_ok (number_value mark number) _ field is in
      subst (λ (f : PlainField). field_depth f ≡ 0) (same_ok (made.Number value.0) field value.2) refl
  flat_depth (form.Text text) none_within field is = subst (λ (f : PlainField). field_depth f ≡ 0) (same_ok (made.Text text) field is) refl
  flat_depth (form.Points points) none_within field is = subst (λ (f : PlainField). field_depth f ≡ 0) (same_ok (made.Points points) field is) refl
  flat_depth (form.Fill unit count) none_within field is =
      let value = then_ok (count_value mark count) _ field is in
      subst (λ (f : PlainField). field_depth f ≡ 0) (same_ok (made.Fill unit value.0) field value.2) refl
  flat_depth (form.Align unit) none_within field is = subst (λ (f : PlainField). field_depth f ≡ 0) (same_ok (made.Align unit) field is) refl
  flat_depth (form.Label name) none_within field is = subst (λ (f : PlainField). field_depth f ≡ 0) (same_ok (made.Label name) field is) refl
  flat_depth (form.Array name count row) none_within field is = absurd none_within
  flat_depth (form.Switch cases) none_within field is = absurd none_within

  flat_fits : (most count : ℕ) (own : FieldForm) → IsFlatForm own → count ≤ most → (field : PlainField) → field_value mark own ≡ Ok field → field_depth field + count ≤ most
  flat_fits most count own none_within low field is = omega (arith, flat_depth own none_within field is)

-- Each array and switch opens braces of its own.

deeper : (depth count most : ℕ) → depth + (count + 1) ≤ most → suc depth + count ≤ most
deeper depth count most low = omega arith

deepest_of : (a b count most : ℕ) → a + count ≤ most → b + count ≤ most → max a b + count ≤ most
deepest_of a b count most first others = omega arith

module _ (mark : Mark) (most : ℕ) where
  mutual
    field_fits : (count : ℕ) (in_case : Bool) (tokens : List Token) (own : FieldForm) → IsField in_case tokens own → count ≤ most → HasRoom most count tokens
        → (field : PlainField) → field_value mark own ≡ Ok field → field_depth field + count ≤ most
    field_fits count in_case tokens own (flat same_case all one is) low room field value = flat_fits mark most count own (flat_by (text_form is.0.word) is.0 own is.2) low field value
    field_fits count in_case tokens own (key all behind one start is) low room field value = flat_fits mark most count own (key_of is.0.word is.0 own is.2) low field value
    field_fits count in_case tokens own (array same_case all behind front row start is rows) low room field value =
        let opened = array_opened tokens behind front start is in
        let counts = then_ok (given_value mark front.count) _ field value in
        let fields = then_ok (body_value mark row) _ field counts.2 in
        let inner = body_fits (count + 1) false front.row row rows (opened.fits most count room) (opened.room most count room) fields.0 fields.1 in
        subst (λ (f : PlainField). field_depth f + count ≤ most) (same_ok (made.Array front.name counts.0 fields.0) field fields.2) (deeper (body_depth fields.0) count most inner)
    field_fits count in_case tokens own (switch same_case all behind inside cases start is within) low room field value =
        let opened = switch_opened tokens behind inside start is in
        let all_cases = then_ok (cases_value mark cases) _ field value in
        let inner = cases_fit (count + 1) inside cases within (opened.fits most count room) (opened.room most count room) all_cases.0 all_cases.1 in
        subst (λ (f : PlainField). field_depth f + count ≤ most) (same_ok (made.Switch all_cases.0) field all_cases.2) (deeper (cases_depth all_cases.0) count most inner)

    body_fits : (count : ℕ) (in_case : Bool) (tokens : List Token) (own : BodyForm) → IsBody in_case tokens own → count ≤ most → HasRoom most count tokens
        → (body : PlainBody) → body_value mark own ≡ Ok body → body_depth body + count ≤ most
    body_fits count in_case tokens own (cut same_case all own_pieces this is fields) low room body value =
        fields_fit count in_case own_pieces own fields low (cut_room most count Semicolon no_semicolon tokens own_pieces is (fields_level in_case own_pieces own fields) room) body value

    fields_fit : (count : ℕ) (in_case : Bool) (all : List (List Token)) (own : BodyForm) → AreFields in_case all own → count ≤ most → HaveRoom most count all
        → (body : PlainBody) → body_value mark own ≡ Ok body → body_depth body + count ≤ most
    fields_fit count in_case all own (none same_case) low room body value = subst (λ (b : PlainBody). body_depth b + count ≤ most) (same_ok made.no_fields body value) (omega arith)
    fields_fit count in_case all own (empty same_case rest this fields) low room body value = fields_fit count in_case rest own fields low room.1 body value
    fields_fit count in_case all own (labelled same_case piece rest front others has fields) low room body value =
        let behind = then_ok (body_value mark others) _ body value in
        let further = fields_fit count in_case (front.behind ∷ rest) others fields low (passed_room most count piece front.behind (label_passed piece front has) room.0, room.1) behind.0 behind.1 in
        subst (λ (b : PlainBody). body_depth b + count ≤ most) (same_ok (made.field_and (made.Label front.name) behind.0) body behind.2)
        (deepest_of 0 (body_depth behind.0) count most (omega (arith, low)) further)
    fields_fit count in_case all own (more same_case token tokens rest field others is fields) low room body value =
        let one = then_ok (field_value mark field) _ body value in
        let behind = then_ok (body_value mark others) _ body one.2 in
        let first = field_fits count in_case (token ∷ tokens) field is low room.0 one.0 one.1 in
        let further = fields_fit count in_case rest others fields low room.1 behind.0 behind.1 in
        subst (λ (b : PlainBody). body_depth b + count ≤ most) (same_ok (made.field_and one.0 behind.0) body behind.2)
        (deepest_of (field_depth one.0) (body_depth behind.0) count most first further)

    cases_fit : (count : ℕ) (tokens : List Token) (own : CasesForm) → AreCases tokens own → count ≤ most → HasRoom most count tokens
        → (cases : PlainCases) → cases_value mark own ≡ Ok cases → cases_depth cases + count ≤ most
    cases_fit count tokens own (cut_cases all own_pieces this is each) low room cases value =
        each_fits count own_pieces own each low (cut_room most count Case no_case_word tokens ([] ∷ own_pieces) is (level_nil, each_level own_pieces own each) room).1 cases value

    each_fits : (count : ℕ) (all : List (List Token)) (own : CasesForm) → AreEachCase all own → count ≤ most → HaveRoom most count all
        → (cases : PlainCases) → cases_value mark own ≡ Ok cases → cases_depth cases + count ≤ most
    each_fits count all own no_case low room cases value = subst (λ (c : PlainCases). cases_depth c + count ≤ most) (same_ok made.no_cases cases value) (omega arith)
    each_fits count all own (case_more piece rest front row others begins is each) low room cases value =
        let fields = then_ok (body_value mark row) _ cases value in
        let behind = then_ok (cases_value mark others) _ cases fields.2 in
        let first = body_fits count true front.row row is low (passed_room most count piece front.row (case_passed piece front begins) room.0) fields.0 fields.1 in
        let further = each_fits count rest others each low room.1 behind.0 behind.1 in
        subst (λ (c : PlainCases). cases_depth c + count ≤ most) (same_ok (made.case_and front.name fields.0 behind.0) cases behind.2)
        (deepest_of (body_depth fields.0) (cases_depth behind.0) count most first further)

-- Statements.

abbrev pub IsMadeWithin : ℕ → PlainMade → Type 0
IsMadeWithin most (values.Fields body) = body_depth body ≤ most
IsMadeWithin most (values.CopyOf kind id) = Unit {0}

module _ (mark : Mark) (most : ℕ) (value : PlainMade) where
  copy_fits : (code : ℕ) (id : Option Term) → made_value mark (form.CopyOf code id) ≡ Ok value → IsMadeWithin most value
  copy_fits code id is =
      let given = then_ok (given_value mark id) _ value is in
      subst (IsMadeWithin most) (same_ok (values.CopyOf code given.0) value given.2) tt

  made_fits : (count : ℕ) (tokens : List Token) (own : MadeForm) → IsMade tokens own → HasRoom most count tokens → made_value mark own ≡ Ok value → IsMadeWithin most value
  made_fits count tokens own (in_braces parted body is ends fields so) room has =
      let found = then_ok (body_value mark body) _ value (subst (λ (o : MadeForm). made_value mark o ≡ Ok value) so has) in
      let opened = (bracket_opened most count Curly tokens parted is room).0 in
      let inner = body_fits mark most (count + 1) false parted.front body fields opened (bracket_room most count Curly tokens parted is room) found.0 found.1 in
      subst (IsMadeWithin most) (same_ok (values.Fields found.0) value found.2) (lower (body_depth found.0) inner)
    where
      lower : (n : ℕ) → n + (count + 1) ≤ most → n ≤ most
      lower n low = omega arith
  made_fits count tokens own (copied behind code typed ends so) room has =
      copy_fits code None (subst (λ (o : MadeForm). made_value mark o ≡ Ok value) so has)
  made_fits count tokens own (copied_of behind code parted id typed is ends constant so) room has =
      copy_fits code (Some id) (subst (λ (o : MadeForm). made_value mark o ≡ Ok value) so has)

  scoped_fits : (count : ℕ) (tokens : List Token) (scope : ScopeForm) (own : MadeForm) → IsScoped tokens scope own → HasRoom most count tokens → made_value mark own ≡ Ok value
      → IsMadeWithin most value
  scoped_fits count tokens scope own (for_any any is) room has = made_fits count tokens own is room has
  scoped_fits count tokens scope own (for_ids parted is scoped made_so) room has =
      let behind = bracket_behind most count Round tokens parted is room in
      made_fits behind.0 parted.behind own made_so behind.1 has

type_room : (tokens : List Token) (stmt : DeclareForm) (is : IsDeclare tokens stmt) → is_within_limits tokens ≡ true
    → HasRoom deepest_type (open_behind is.typed.kind.shape (open_behind is.typed.word.shape 0)) is.behind
type_room tokens stmt is limits =
    let here : keeps_limits (depth_limit (is.typed.word ∷ is.typed.kind ∷ is.behind)) 0 0 (is.typed.word ∷ is.typed.kind ∷ is.behind) ≡ true = subst (λ (ts : List Token). is_within_limits ts ≡ true) is.typed.are limits in
    let of_type : keeps_limits deepest_type 0 0 (is.typed.word ∷ is.typed.kind ∷ is.behind) ≡ true =
    subst (λ (b : Bool). keeps_limits (if b then deepest_type else deepest) 0 0 (is.typed.word ∷ is.typed.kind ∷ is.behind) ≡ true) is.typed.is_word here in
    (limits_leave deepest_type 0 0 (is.typed.word ∷ is.typed.kind ∷ is.behind) of_type).1.1

pub declare_fits : (tokens : List Token) (stmt : DeclareForm) (mark : Mark) (declare : Declare) → is_within_limits tokens ≡ true → IsDeclare tokens stmt → declared mark stmt ≡ Ok declare
    → IsMadeWithin deepest_type declare.made
declare_fits tokens stmt mark declare limits is has =
    let bounds = then_ok (scope_value mark stmt.scope) _ declare has in
    let made = then_ok (made_value mark stmt.made) _ declare bounds.2 in
    subst (λ (d : Declare). IsMadeWithin deepest_type d.made) (same_ok (record { kind = stmt.kind; bounds = bounds.0; made = made.0 }) declare made.2)
    (scoped_fits mark deepest_type made.0 (open_behind is.typed.kind.shape (open_behind is.typed.word.shape 0)) is.behind stmt.scope stmt.made is.scoped (type_room tokens stmt is limits) made.1)
