-- What is read is the entry, and only that is.
use Rattle.std.proofs.Common.{◌≡◌, ◌≢◌, ◌↔◌, ℕ, true, List, [], ◌∷◌, ◌++◌, map, Some, None, refl, sym, subst, ap, ◌∙◌}
use Rattle.std.specs.Prelude.{option_and_then, option_map}
use Rattle.std.specs.List.{concat}
use Rattle.std.specs.declared.option.Option.{Option}
use Rattle.std.proofs.lemmas.Option.{option_and_then_some}
use Rattle.rz_core.proofs.Tests.{none_some}
use Rattle.rz_core.specs.Decided.{Decided}
use Rattle.rz_core.specs.declared.fault.Mark.{Mark}
use Rattle.rz_lex.specs.Token.{is_the_sign}
use Rattle.rz_lex.specs.declared.sign.Sign.{Sign}
use Rattle.rz_lex.specs.declared.sign.Sign.TheVariants.{Semicolon}
use Rattle.rz_lex.specs.declared.token.Shape.{Shape}
use Rattle.rz_lex.specs.declared.token.Shape.TheVariants as shapes
use Rattle.rz_lex.specs.declared.token.Token.{Token}
use Rattle.rz_catalog_text.specs.Entries.{first_mark, id_shapes, IsEntry}
use Rattle.rz_catalog_text.specs.Read.{entry_in, front_in, shapes_of, text_in, Front}
use Rattle.rz_catalog_text.specs.declared.entry.Entry.{Entry}
use Rattle.rz_catalog_text.proofs.Parts.{front_back, front_there, made, texts_back, texts_there, AreTexts, IsFront}

pub same_inside : {A : Type 0} (x y : A) → Some x ≡ Some y → x ≡ y
same_inside x y is = cc

-- There is a text at least.

text_some : (bytes : List ℕ) (all : List Shape) (texts : List (List ℕ)) → shapes.Text bytes ∷ all ≡ map shapes.Text texts ++ shapes.Sign Semicolon ∷ [] → texts ≢ []
text_some bytes all [] is = absurd cc
text_some bytes all (text ∷ texts) is = λ none. absurd cc

text_there : (texts : List (List ℕ)) → texts ≢ [] → text_in (map shapes.Text texts ++ shapes.Sign Semicolon ∷ []) ≡ Some (concat texts)
text_there [] some = absurd (some refl)
text_there (text ∷ texts) some = texts_there (text ∷ texts)

-- The whole.

abbrev entry_of : Mark → Front → List ℕ → Entry
entry_of mark front text = record { kind = front.kind; id = front.id; leaf = front.leaf; text = text; mark = mark }

module _ (law : (sign : Sign) (shape : Shape) → (is_the_sign sign shape ≡ true) ↔ (shape ≡ shapes.Sign sign)) where
  text_back : (all : List Shape) (text : List ℕ) → text_in all ≡ Some text → (is : AreTexts all text) × (is.texts ≢ [])
  text_back [] text is = absurd cc
  text_back (shapes.Word word ∷ all) text is = absurd cc
  text_back (shapes.Number number ∷ all) text is = absurd cc
  text_back (shapes.Literal bytes ∷ all) text is = absurd cc
  text_back (shapes.Text bytes ∷ all) text is =
      let texts = texts_back law (shapes.Text bytes ∷ all) text is in
      (texts, text_some bytes all texts.texts texts.are)
  text_back (shapes.Sign sign ∷ all) text is = absurd cc

  entry_back : (mark : Mark) (chunk : List Token) (entry : Entry) → first_mark chunk ≡ Some mark → entry_in mark (shapes_of chunk) ≡ Some entry → IsEntry chunk entry
  entry_back mark chunk entry marked is =
      option_and_then_some _ (front_in (shapes_of chunk)) entry is
      (λ front front_is more. all front (front_back law (shapes_of chunk) front front_is) (made (entry_of mark front) (text_in front.texts) entry more))
    where
      all : (front : Front) → IsFront (shapes_of chunk) front → (text : List ℕ) × (text_in front.texts ≡ Some text) × (entry_of mark front text ≡ entry) → IsEntry chunk entry
      all front here found =
          let texts = text_back front.texts found.0 found.1 in
          subst (IsEntry chunk) found.2 (record {
            kind = here.kind;
            minus = here.minus;
            number = here.number;
            texts = texts.0.texts;
            are = here.are ∙ ap (λ (x : List Shape). shapes.Literal here.kind ∷ (id_shapes here.minus here.number ++ shapes.Number front.leaf ∷ x)) texts.0.are;
            is_kind = here.is_kind;
            is_id = here.is_id;
            fits = here.fits;
            some = texts.1;
            joined = texts.0.joined;
            is_mark = marked;
          })

entry_there : (chunk : List Token) (entry : Entry) → IsEntry chunk entry → entry_in entry.mark (shapes_of chunk) ≡ Some entry
entry_there chunk entry is =
    let behind = map shapes.Text is.texts ++ shapes.Sign Semicolon ∷ [] in
    let front : Front = record { kind = entry.kind; id = entry.id; leaf = entry.leaf; texts = behind } in
    let here = front_there (shapes_of chunk) front (record { kind = is.kind; minus = is.minus; number = is.number; are = is.are; is_kind = is.is_kind; is_id = is.is_id; fits = is.fits }) in
    let found : text_in behind ≡ Some entry.text = text_there is.texts is.some ∙ ap (λ (x : List ℕ). Some x) (sym is.joined) in
    ap (option_and_then (λ (f : Front). option_map (entry_of entry.mark f) (text_in f.texts))) here ∙ ap (option_map (entry_of entry.mark front)) found

pub one_entry : (chunk : List Token) (one other : Entry) → IsEntry chunk one → IsEntry chunk other → one ≡ other
one_entry chunk one other is also =
    let marks = same_inside one.mark other.mark (sym is.is_mark ∙ also.is_mark) in
    same_inside one other (sym (entry_there chunk one is) ∙ (ap (λ (m : Mark). entry_in m (shapes_of chunk)) marks ∙ entry_there chunk other also))

module _ (law : (sign : Sign) (shape : Shape) → (is_the_sign sign shape ≡ true) ↔ (shape ≡ shapes.Sign sign)) where
  pub decided : (mark : Mark) (chunk : List Token) → first_mark chunk ≡ Some mark → (found : Option Entry) → found ≡ entry_in mark (shapes_of chunk) → Decided (IsEntry chunk) found
  decided mark chunk marked None is = λ entry entry_is.
      none_some entry (is ∙ (ap (λ (m : Mark). entry_in m (shapes_of chunk)) (same_inside mark entry.mark (sym marked ∙ entry_is.is_mark)) ∙ entry_there chunk entry entry_is))
  decided mark chunk marked (Some entry) is = entry_back law mark chunk entry marked (sym is)
