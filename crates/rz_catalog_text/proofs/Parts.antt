-- The tokens of an entry, from what is read of them and back.
use Rattle.std.proofs.Common.{◌≡◌, ◌↔◌, ℕ, ℤ, pos, negsuc, FitsSigned, Bool, true, false, List, [], ◌∷◌, ◌++◌, map, Some, None, refl, sym, subst, ap, ◌∙◌, arith}
use Rattle.std.specs.Prelude.{nat_le, int_le, ◌&&◌, if◌then◌else◌, option_map}
use Rattle.std.specs.Int.{w16}
use Rattle.std.specs.List.{concat}
use Rattle.std.specs.declared.option.Option.{Option}
use Rattle.std.proofs.lemmas.Bool.{leb-true, le-leb}
use Rattle.std.proofs.lemmas.Option.{option_and_then_some}
use Rattle.rz_core.proofs.Tests.{both}
use Rattle.rz_core.specs.Resources.{kind_of}
use Rattle.rz_core.specs.declared.resource.OsType.{OsType}
use Rattle.rz_lex.specs.Token.{is_the_sign}
use Rattle.rz_lex.specs.declared.sign.Sign.{Sign}
use Rattle.rz_lex.specs.declared.sign.Sign.TheVariants.{Minus, Semicolon}
use Rattle.rz_lex.specs.declared.token.Shape.{Shape}
use Rattle.rz_lex.specs.declared.token.Shape.TheVariants as shapes
use Rattle.rz_catalog_text.specs.Entries.{id_shapes, id_value}
use Rattle.rz_catalog_text.specs.Read.{front_in, front_of, id_in, is_nothing, kind_in, number_in, texts_in, Front}

-- a value that is made of another
pub made : {A B : Type 0} (f : A → B) (found : Option A) (y : B) → option_map f found ≡ Some y → (x : A) × (found ≡ Some x) × (f x ≡ y)
made f None y is = absurd cc
made f (Some x) y is = (x, refl, cc)

-- a value that is given where a test holds
tested : {A : Type 0} (test : Bool) (x y : A) → (if test then Some x else None) ≡ Some y → (test ≡ true) × (x ≡ y)
tested true x y is = (refl, cc)
tested false x y is = absurd cc

-- One token.

kind_back : (shape : Shape) (kind : OsType) → kind_in shape ≡ Some kind → (four : List ℕ) × (shape ≡ shapes.Literal four) × (kind_of four ≡ Some kind)
kind_back (shapes.Word word) kind is = absurd cc
kind_back (shapes.Number number) kind is = absurd cc
kind_back (shapes.Literal bytes) kind is = (bytes, refl, is)
kind_back (shapes.Text bytes) kind is = absurd cc
kind_back (shapes.Sign sign) kind is = absurd cc

number_back : (shape : Shape) (number : ℕ) → number_in shape ≡ Some number → shape ≡ shapes.Number number
number_back (shapes.Word word) number is = absurd cc
number_back (shapes.Number other) number is = cc
number_back (shapes.Literal bytes) number is = absurd cc
number_back (shapes.Text bytes) number is = absurd cc
number_back (shapes.Sign sign) number is = absurd cc

id_fits : (id : ℤ) → (int_le (negsuc 32767) id && int_le id (pos 32767)) ≡ true → FitsSigned w16 id
id_fits (pos n) is = let small = leb-true n 32767 is in record { sfits = omega (arith, small) }
id_fits (negsuc n) is = let small = leb-true n 32767 (both (nat_le n 32767) true is).0 in record { sfits = omega (arith, small) }

id_back : (value id : ℤ) → id_in value ≡ Some id → (id ≡ value) × FitsSigned w16 id
id_back value id is =
    let test = tested (int_le (negsuc 32767) value && int_le value (pos 32767)) value id is in
    (sym test.1, subst (FitsSigned w16) test.1 (id_fits value test.0))

id_there : (id : ℤ) → FitsSigned w16 id → id_in id ≡ Some id
id_there (pos n) fits = rw (le-leb n 32767 (omega (arith, fits))) refl
id_there (negsuc n) fits = rw (le-leb n 32767 (omega (arith, fits))) refl

-- What stands before the texts.

abbrev front_with : OsType → ℤ → ℕ → List Shape → Front
front_with kind id leaf texts = record { kind = kind; id = id; leaf = leaf; texts = texts }

pub record IsFront (all : List Shape) (front : Front) : Type 0 where
  pub kind : List ℕ
  pub minus : Bool
  pub number : ℕ
  pub are : all ≡ shapes.Literal kind ∷ (id_shapes minus number ++ shapes.Number front.leaf ∷ front.texts)
  pub is_kind : kind_of kind ≡ Some front.kind
  pub is_id : front.id ≡ id_value minus number
  pub fits : FitsSigned w16 front.id

-- what is read of its tokens, one by one
record IsFrontOf (kind : Shape) (minus : Bool) (number leaf : Shape) (texts : List Shape) (front : Front) : Type 0 where
  four : List ℕ
  amount : ℕ
  are_kind : kind ≡ shapes.Literal four
  is_kind : kind_of four ≡ Some front.kind
  are_number : number ≡ shapes.Number amount
  is_id : front.id ≡ id_value minus amount
  fits : FitsSigned w16 front.id
  are_leaf : leaf ≡ shapes.Number front.leaf
  are_texts : texts ≡ front.texts

front_of_back : (kind : Shape) (minus : Bool) (number leaf : Shape) (texts : List Shape) (front : Front) → front_of kind minus number leaf texts ≡ Some front
    → IsFrontOf kind minus number leaf texts front
front_of_back kind minus number leaf texts front is =
    option_and_then_some _ (kind_in kind) front is (λ code kind_is more.
    option_and_then_some _ (number_in number) front more (λ amount number_is more.
    option_and_then_some _ (id_in (id_value minus amount)) front more (λ id id_is more.
    all code amount id kind_is number_is id_is (made (λ (n : ℕ). record { kind = code; id = id; leaf = n; texts = texts }) (number_in leaf) front more))))
  where
    all : (code : OsType) (amount : ℕ) (id : ℤ) → kind_in kind ≡ Some code → number_in number ≡ Some amount → id_in (id_value minus amount) ≡ Some id
        → (n : ℕ) × (number_in leaf ≡ Some n) × (front_with code id n texts ≡ front) → IsFrontOf kind minus number leaf texts front
    all code amount id kind_is number_is id_is last =
        let read = kind_back kind code kind_is in
        let signed = id_back (id_value minus amount) id id_is in
        let same = last.2 in
        record {
          four = read.0;
          amount = amount;
          are_kind = read.1;
          is_kind = read.2 ∙ ap (λ (f : Front). Some f.kind) same;
          are_number = number_back number amount number_is;
          is_id = sym (ap (λ (f : Front). f.id) same) ∙ signed.0;
          fits = subst (λ (f : Front). FitsSigned w16 f.id) same signed.1;
          are_leaf = number_back leaf last.0 last.1 ∙ ap (λ (f : Front). shapes.Number f.leaf) same;
          are_texts = ap (λ (f : Front). f.texts) same;
        }

plain : (kind number leaf : Shape) (texts : List Shape) (front : Front) → IsFrontOf kind false number leaf texts front → IsFront (kind ∷ number ∷ leaf ∷ texts) front
plain kind number leaf texts front is =
    record { kind = is.four; minus = false; number = is.amount; are = λ j. is.are_kind j ∷ is.are_number j ∷ is.are_leaf j ∷ is.are_texts j; is_kind = is.is_kind; is_id = is.is_id; fits = is.fits }

module _ (law : (sign : Sign) (shape : Shape) → (is_the_sign sign shape ≡ true) ↔ (shape ≡ shapes.Sign sign)) where
  four_back : (test : Bool) (kind minus id leaf : Shape) (texts : List Shape) (front : Front) → (test ≡ true → minus ≡ shapes.Sign Minus)
      → (if test then front_of kind true id leaf texts else front_of kind false minus id (leaf ∷ texts)) ≡ Some front → IsFront (kind ∷ minus ∷ id ∷ leaf ∷ texts) front
  four_back true kind minus id leaf texts front sign is =
      let read = front_of_back kind true id leaf texts front is in
      let minus_is = sign refl in
      record {
        kind = read.four;
        minus = true;
        number = read.amount;
        are = λ j. read.are_kind j ∷ minus_is j ∷ read.are_number j ∷ read.are_leaf j ∷ read.are_texts j;
        is_kind = read.is_kind;
        is_id = read.is_id;
        fits = read.fits;
      }
  four_back false kind minus id leaf texts front sign is = plain kind minus id (leaf ∷ texts) front (front_of_back kind false minus id (leaf ∷ texts) front is)

  pub front_back : (all : List Shape) (front : Front) → front_in all ≡ Some front → IsFront all front
  front_back [] front is = absurd cc
  front_back (kind ∷ []) front is = absurd cc
  front_back (kind ∷ id ∷ []) front is = absurd cc
  front_back (kind ∷ id ∷ leaf ∷ []) front is = plain kind id leaf [] front (front_of_back kind false id leaf [] front is)
  front_back (kind ∷ minus ∷ id ∷ leaf ∷ texts) front is = four_back (is_the_sign Minus minus) kind minus id leaf texts front (law Minus minus).0 is

front_of_there : (kind : List ℕ) (code : OsType) (minus : Bool) (number leaf : ℕ) (id : ℤ) (texts : List Shape) → kind_of kind ≡ Some code → id ≡ id_value minus number → FitsSigned w16 id
    → front_of (shapes.Literal kind) minus (shapes.Number number) (shapes.Number leaf) texts ≡ Some (front_with code id leaf texts)
front_of_there kind code minus number leaf id texts kind_is id_is fits =
    let there : id_in (id_value minus number) ≡ Some id = subst (λ (z : ℤ). id_in z ≡ Some id) id_is (id_there id fits) in
    rw (kind_is, there) refl

-- a number is no minus sign
no_minus : (kind : Shape) (number leaf : ℕ) (texts : List Shape)
    → front_in (kind ∷ shapes.Number number ∷ shapes.Number leaf ∷ texts) ≡ front_of kind false (shapes.Number number) (shapes.Number leaf) texts
no_minus kind number leaf [] = refl
no_minus kind number leaf (text ∷ texts) = refl

there : (kind : List ℕ) (code : OsType) (minus : Bool) (number leaf : ℕ) (id : ℤ) (texts : List Shape) → kind_of kind ≡ Some code → id ≡ id_value minus number → FitsSigned w16 id
    → front_in (shapes.Literal kind ∷ (id_shapes minus number ++ shapes.Number leaf ∷ texts)) ≡ Some (front_with code id leaf texts)
there kind code false number leaf id texts kind_is id_is fits = no_minus (shapes.Literal kind) number leaf texts ∙ front_of_there kind code false number leaf id texts kind_is id_is fits
there kind code true number leaf id texts kind_is id_is fits = front_of_there kind code true number leaf id texts kind_is id_is fits

pub front_there : (all : List Shape) (front : Front) → IsFront all front → front_in all ≡ Some front
front_there all front is = ap front_in is.are ∙ there is.kind front.kind is.minus is.number front.leaf front.id front.texts is.is_kind is.is_id is.fits

-- Texts.

pub record AreTexts (all : List Shape) (text : List ℕ) : Type 0 where
  pub texts : List (List ℕ)
  pub are : all ≡ map shapes.Text texts ++ shapes.Sign Semicolon ∷ []
  pub joined : text ≡ concat texts

nothing : (all : List Shape) → is_nothing all ≡ true → all ≡ []
nothing [] is = refl
nothing (shape ∷ all) is = absurd cc

module _ (law : (sign : Sign) (shape : Shape) → (is_the_sign sign shape ≡ true) ↔ (shape ≡ shapes.Sign sign)) where
  pub texts_back : (all : List Shape) (text : List ℕ) → texts_in all ≡ Some text → AreTexts all text
  texts_back [] text is = absurd cc
  texts_back (shapes.Word word ∷ all) text is = absurd cc
  texts_back (shapes.Number number ∷ all) text is = absurd cc
  texts_back (shapes.Literal bytes ∷ all) text is = absurd cc
  texts_back (shapes.Text bytes ∷ all) text is =
      let more = made (λ (x : List ℕ). bytes ++ x) (texts_in all) text is in
      let behind = texts_back all more.0 more.1 in
      record { texts = bytes ∷ behind.texts; are = ap (λ (x : List Shape). shapes.Text bytes ∷ x) behind.are; joined = sym more.2 ∙ ap (λ (x : List ℕ). bytes ++ x) behind.joined }
  texts_back (shapes.Sign sign ∷ all) text is =
      let ends = tested (is_the_sign Semicolon (shapes.Sign sign) && is_nothing all) [] text is in
      let parts = both (is_the_sign Semicolon (shapes.Sign sign)) (is_nothing all) ends.0 in
      let sign_is = (law Semicolon (shapes.Sign sign)).0 parts.0 in
      let none = nothing all parts.1 in
      record { texts = []; are = λ j. sign_is j ∷ none j; joined = sym ends.1 }

pub texts_there : (texts : List (List ℕ)) → texts_in (map shapes.Text texts ++ shapes.Sign Semicolon ∷ []) ≡ Some (concat texts)
texts_there [] = refl
texts_there (text ∷ texts) = ap (option_map (λ (x : List ℕ). text ++ x)) (texts_there texts)
