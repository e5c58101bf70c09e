-- Labels in front of fields: what stands there, and that no field begins so.
use Rattle.std.proofs.Common.{◌≡◌, ℕ, ◌==◌, ◌≤◌, ◌&&◌, Bool, true, false, if◌then◌else◌, List, [], ◌∷◌, length, Option, Some, None, refl, sym, ap, subst, ◌∙◌, arith}
use Rattle.std.proofs.lemmas.Bool.{eqb-true, false≢true}
use Rattle.std.specs.Prelude.{option_and_then, option_map}
use Rattle.rz_core.proofs.Tests.{none_some}
use Rattle.rz_core.specs.declared.resource.Word.{Word}
use Rattle.rz_words.specs.Keyword.{keyword_of}
use Rattle.rz_expr.specs.Keyword.{keyword_in}
use Rattle.rz_words.specs.Words.{dollar_role, is_label, is_other_name, keyword_role, plain_role, role_of}
use Rattle.rz_words.specs.declared.keyword.Keyword.{Keyword}
use Rattle.rz_words.specs.declared.words.Role.TheVariants.{OtherName}
use Rattle.rz_lex.specs.Lexeme.{is_lexed, AreLexed}
use Rattle.rz_lex.specs.declared.token.Shape.{Shape}
use Rattle.rz_lex.specs.declared.token.Shape.TheVariants as shapes
use Rattle.rz_lex.specs.declared.token.Token.{Token}
use Rattle.rz_stmt_fields.proofs.Fronts.{fronts}
use Rattle.rz_stmt_fields.specs.FieldWord.{by_modifier, field_word, front_in, modifier_word, FieldFront}
use Rattle.rz_stmt_fields.specs.Form.{FieldForm}
use Rattle.rz_stmt_type.specs.Body.{array, flat, key, switch, IsField}
use Rattle.rz_stmt_type.specs.Head.{is_colon}
use Rattle.rz_stmt_type.specs.Label.{label_front, label_in, label_more, no_label, AreLabels, LabelFront}
use Rattle.rz_stmt_type.specs.Start.{start_of, started}
use Rattle.rz_types_fields.specs.Shape.{is_label_name}

-- The first two tokens.

-- the tokens are this label, and what stands after it
pub record IsLabelled (tokens : List Token) (front : LabelFront) : Type 0 where
  pub first : Token
  pub second : Token
  pub are : tokens ≡ first ∷ second ∷ front.behind
  pub colon : is_colon second.shape ≡ true
  pub named : label_in first.shape ≡ Some front.name

pub labelled_so : (tokens : List Token) (front : LabelFront) → label_front tokens ≡ Some front → IsLabelled tokens front
labelled_so [] front is = absurd (none_some front is)
labelled_so (first ∷ []) front is = absurd (none_some front is)
labelled_so (first ∷ second ∷ behind) front is = by (is_colon second.shape) refl (label_in first.shape) refl is
  where
    by : (begins : Bool) → is_colon second.shape ≡ begins → (name : Option Word) → label_in first.shape ≡ name
        → (if begins then option_map (λ n. record { name = n; behind = behind }) name else None) ≡ Some front → IsLabelled (first ∷ second ∷ behind) front
    by true begins (Some name) has so =
        subst (IsLabelled (first ∷ second ∷ behind)) (same so) (record {
          first = first;
          second = second;
          are = refl;
          colon = begins;
          named = has;
        })
      where
        same : ◌≡◌ {A = Option LabelFront} (Some (record { name = name; behind = behind })) (Some front) → record { name = name; behind = behind } ≡ front
        same e = cc e
    by true begins None has so = absurd (none_some front so)
    by false begins name has so = absurd (none_some front so)

-- Labels at the front.

pub none_behind : (tokens : List Token) (names : List Word) (behind : List Token) → AreLabels tokens names behind → label_front behind ≡ None
none_behind tokens names behind (no_label same none) = none
none_behind tokens names behind (label_more all front others rest is are) = none_behind front.behind others behind are

pub labels_short : (tokens : List Token) (names : List Word) (behind : List Token) → AreLabels tokens names behind → length behind ≤ length tokens
labels_short tokens names behind (no_label same none) = omega arith
labels_short tokens names behind (label_more all front others rest is are) =
    let further = labels_short front.behind others behind are in
    let two = ap (λ (ts : List Token). length ts) (labelled_so tokens front is).are in
    omega (arith, further, two)

-- No field begins with the name of a label.

plain_label : (name : List ℕ) → is_label (plain_role name) ≡ true → keyword_of name ≡ None
plain_label name is = by (is_other_name name) (keyword_of name) is
  where
    by : (other : Bool) (found : Option Keyword) → is_label (if other then OtherName else keyword_role found) ≡ true → found ≡ None
    by true found so = absurd (false≢true so)
    by false None so = refl
    by false (Some keyword) so = absurd (false≢true so)

no_word : keyword_of [] ≡ None
unfolding keyword_of
no_word = refl

dollar_word : (rest : List ℕ) → keyword_of (36 ∷ rest) ≡ None
unfolding keyword_of
dollar_word rest = refl

dollar_label : (first : ℕ) (rest : List ℕ) → first ≡ 36 → keyword_of (first ∷ rest) ≡ None
dollar_label first rest is = subst (λ (n : ℕ). keyword_of (n ∷ rest) ≡ None) (sym is) (dollar_word rest)

word_label : (name : List ℕ) → is_label (role_of name) ≡ true → keyword_of name ≡ None
word_label [] is = no_word
word_label (first ∷ rest) is = by (first == 36) refl is
  where
    by : (dollar : Bool) → (first == 36) ≡ dollar → is_label (if dollar then dollar_role (first ∷ rest) rest else plain_role (first ∷ rest)) ≡ true → keyword_of (first ∷ rest) ≡ None
    by true dollar so = dollar_label first rest (eqb-true first 36 dollar)
    by false dollar so = plain_label (first ∷ rest) so

pub no_keyword : (shape : Shape) (name : Word) → label_in shape ≡ Some name → keyword_in shape ≡ None
no_keyword (shapes.Word word) name is = by (is_label (role_of word.bytes)) refl is
  where
    by : (label : Bool) → is_label (role_of word.bytes) ≡ label → (if label then Some word else None) ≡ Some name → keyword_of word.bytes ≡ None
    by true label so = word_label word.bytes label
    by false label so = absurd (none_some name so)
no_keyword (shapes.Number number) name is = refl
no_keyword (shapes.Literal bytes) name is = refl
no_keyword (shapes.Text bytes) name is = refl
no_keyword (shapes.Sign sign) name is = refl

module _ (token : Token) (tokens : List Token) (none : keyword_in token.shape ≡ None) where
  no_start : start_of (token ∷ tokens) ≡ started None tokens
  no_start = ap (λ (word : Option Keyword). started word tokens) none

  no_front : (front : FieldFront) → front_in false None (token ∷ tokens) ≡ Some front → ⊥
  no_front front is =
      none_some front (sym (ap (λ (word : Option Keyword). by_modifier (option_and_then modifier_word word) false None (λ signs shown. front_in signs shown tokens)
      (option_map (λ w. record { unsigned = false; radix = None; word = w; tail = tokens }) (option_and_then field_word word))) none) ∙ is)

  no_field_here : (in_case : Bool) (field : FieldForm) → IsField in_case (token ∷ tokens) field → ⊥
  no_field_here in_case field (flat same_case all one is) = no_front is.0 ((fronts (token ∷ tokens) is.0).1 is.1)
  no_field_here in_case field (key all behind one start is) = absurd (cc (sym start ∙ no_start))
  no_field_here in_case field (array same_case all behind front row start is rows) = absurd (cc (sym start ∙ no_start))
  no_field_here in_case field (switch same_case all behind inside cases start is are) = absurd (cc (sym start ∙ no_start))

pub no_field : (in_case : Bool) (tokens : List Token) (front : LabelFront) (field : FieldForm) → label_front tokens ≡ Some front
    → IsField in_case tokens field → ⊥
no_field in_case tokens front field has is =
    let it = labelled_so tokens front has in
    no_field_here it.first (it.second ∷ front.behind) (no_keyword it.first.shape front.name it.named) in_case field
    (subst (λ (ts : List Token). IsField in_case ts field) it.are is)

-- Its name is formed as it should be.

name_formed : (shape : Shape) (name : Word) → is_lexed shape ≡ true → label_in shape ≡ Some name → is_label_name name ≡ true
name_formed (shapes.Word own) name lexed is = by (is_label (role_of own.bytes)) refl is
  where
    by : (label : Bool) → is_label (role_of own.bytes) ≡ label → (if label then Some own else None) ≡ Some name → is_label_name name ≡ true
    by true label so = subst (λ (w : Word). is_label_name w ≡ true) (same so) (λ i. lexed i && label i)
      where
        same : ◌≡◌ {A = Option Word} (Some own) (Some name) → own ≡ name
        same e = cc e
    by false label so = absurd (none_some name so)
name_formed (shapes.Number number) name lexed is = absurd (none_some name is)
name_formed (shapes.Literal bytes) name lexed is = absurd (none_some name is)
name_formed (shapes.Text bytes) name lexed is = absurd (none_some name is)
name_formed (shapes.Sign sign) name lexed is = absurd (none_some name is)

pub label_formed : (tokens : List Token) (front : LabelFront) → label_front tokens ≡ Some front → AreLexed tokens
    → (is_label_name front.name ≡ true) × AreLexed front.behind
label_formed tokens front has are =
    let it = labelled_so tokens front has in
    let lexed = subst AreLexed it.are are in
    (name_formed it.first.shape front.name lexed.0 it.named, lexed.1.1)
