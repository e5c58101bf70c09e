-- Texts at the front of tokens, and the file that they name.
use Rattle.std.proofs.Common.{◌≡◌, ◌≢◌, ℕ, Bool, true, false, if◌then◌else◌, List, [], ◌∷◌, ◌++◌, map, Option, Some, None, refl, sym, ap, subst, ◌∙◌}
use Rattle.std.proofs.lemmas.List.{append-nil}
use Rattle.std.specs.List.{concat}
use Rattle.std.specs.Option.{is_some}
use Rattle.rz_core.specs.Decided.{Decided}
use Rattle.rz_core.proofs.Tests.{none_some, same_some, true_false}
use Rattle.rz_lex.specs.declared.token.Shape.{Shape}
use Rattle.rz_lex.specs.declared.token.Shape.TheVariants as shapes
use Rattle.rz_lex.specs.declared.token.Token.{Token}
use Rattle.rz_stmt_data.specs.Files.{begins_with_text, behind_texts, file_in, past_text, text_of, texts_at_front, with_text, IsFile}

-- The texts, and what stands after them.

none_at_front : (rest : List Token) → begins_with_text rest ≡ false → (texts_at_front rest ≡ []) × (behind_texts rest ≡ rest)
none_at_front [] off = (refl, refl)
none_at_front (t ∷ ts) off = by (text_of t.shape) off
  where
    by : (o : Option (List ℕ)) → is_some o ≡ false → (with_text o (texts_at_front ts) ≡ []) × (past_text o (t ∷ ts) (behind_texts ts) ≡ t ∷ ts)
    by None off = (refl, refl)
    by (Some bytes) off = absurd (true_false off)

abbrev shapes_of : List Token → List Shape
shapes_of tokens = map (λ token. token.shape) tokens

pub file_apart : (file : List Token) (texts : List (List ℕ)) → map (λ token. token.shape) file ≡ map shapes.Text texts → (rest : List Token) → begins_with_text rest ≡ false
    → (texts_at_front (file ++ rest) ≡ concat texts) × (behind_texts (file ++ rest) ≡ rest)
file_apart [] [] are rest off = none_at_front rest off
file_apart [] (b ∷ bs) are rest off = absurd (cc are)
file_apart (t ∷ ts) [] are rest off = absurd (cc are)
file_apart (t ∷ ts) (b ∷ bs) are rest off =
    let first : t.shape ≡ shapes.Text b = heads t.shape (shapes.Text b) (shapes_of ts) (map shapes.Text bs) are in
    let more = file_apart ts bs (tails t.shape (shapes.Text b) (shapes_of ts) (map shapes.Text bs) are) rest off in (
      ap (λ (shape : Shape). with_text (text_of shape) (texts_at_front (ts ++ rest))) first ∙ ap (λ (l : List ℕ). b ++ l) more.0,
      ap (λ (shape : Shape). past_text (text_of shape) (t ∷ (ts ++ rest)) (behind_texts (ts ++ rest))) first ∙ more.1,
    )
  where
    heads : (x y : Shape) (xs ys : List Shape) → x ∷ xs ≡ y ∷ ys → x ≡ y
    heads x y xs ys e = cc e

    tails : (x y : Shape) (xs ys : List Shape) → x ∷ xs ≡ y ∷ ys → xs ≡ ys
    tails x y xs ys e = cc e

begins_so : (file : List Token) (texts : List (List ℕ)) → map (λ token. token.shape) file ≡ map shapes.Text texts → texts ≢ [] → (rest : List Token)
    → begins_with_text (file ++ rest) ≡ true
begins_so [] [] are some rest = absurd (some refl)
begins_so [] (b ∷ bs) are some rest = absurd (cc are)
begins_so (t ∷ ts) [] are some rest = absurd (cc are)
begins_so (t ∷ ts) (b ∷ bs) are some rest = ap (λ (shape : Shape). is_some (text_of shape)) (heads t.shape (shapes.Text b) (shapes_of ts) (map shapes.Text bs) are)
  where
    heads : (x y : Shape) (xs ys : List Shape) → x ∷ xs ≡ y ∷ ys → x ≡ y
    heads x y xs ys e = cc e

-- the texts that stand there
pub record Fronted (tokens : List Token) : Type 0 where
  pub file : List Token
  pub texts : List (List ℕ)
  pub are : tokens ≡ file ++ behind_texts tokens
  pub shaped : map (λ token. token.shape) file ≡ map shapes.Text texts
  pub joined : texts_at_front tokens ≡ concat texts
  pub some : begins_with_text tokens ≡ true → texts ≢ []

is_text : (shape : Shape) (bytes : List ℕ) → text_of shape ≡ Some bytes → shape ≡ shapes.Text bytes
is_text (shapes.Text b) bytes is = ap shapes.Text (same_some (Some b) b bytes refl is)
is_text (shapes.Word word) bytes is = absurd (none_some bytes is)
is_text (shapes.Number number) bytes is = absurd (none_some bytes is)
is_text (shapes.Literal literal) bytes is = absurd (none_some bytes is)
is_text (shapes.Sign sign) bytes is = absurd (none_some bytes is)

pub fronted : (tokens : List Token) → Fronted tokens
fronted [] = record { file = []; texts = []; are = refl; shaped = refl; joined = refl; some = λ is. absurd (true_false (sym is)) }
fronted (t ∷ ts) = by (text_of t.shape) refl (fronted ts)
  where
    by : (o : Option (List ℕ)) → text_of t.shape ≡ o → Fronted ts → Fronted (t ∷ ts)
    by None none more = record {
      file = [];
      texts = [];
      are = ap (λ (o : Option (List ℕ)). past_text o (t ∷ ts) (behind_texts ts)) (sym none);
      shaped = refl;
      joined = ap (λ (o : Option (List ℕ)). with_text o (texts_at_front ts)) none;
      some = λ is. absurd (true_false (sym is ∙ ap (λ (o : Option (List ℕ)). is_some o) none));
    }
    by (Some bytes) has more = record {
      file = t ∷ more.file;
      texts = bytes ∷ more.texts;
      are = ap (λ (l : List Token). t ∷ l) more.are
          ∙ ap (λ (l : List Token). t ∷ (more.file ++ l)) (ap (λ (o : Option (List ℕ)). past_text o (t ∷ ts) (behind_texts ts)) (sym has));
      shaped = λ i. is_text t.shape bytes has i ∷ more.shaped i;
      joined = ap (λ (o : Option (List ℕ)). with_text o (texts_at_front ts)) has ∙ ap (λ (l : List ℕ). bytes ++ l) more.joined;
      some = λ is none. cc none;
    }

-- A file.

in_file : (b : Bool) (bytes name : List ℕ) → (if b then Some bytes else None) ≡ Some name → (b ≡ true) × (bytes ≡ name)
in_file true bytes name is = (refl, same_some (Some bytes) bytes name refl is)
in_file false bytes name is = absurd (none_some name is)

-- the file that is named there is one
pub file_is : (tokens : List Token) (name : List ℕ) → file_in tokens ≡ Some name → (file : List Token) × (tokens ≡ file ++ behind_texts tokens) × IsFile file name
file_is tokens name is =
    let front = fronted tokens in
    let parts = in_file (begins_with_text tokens) (texts_at_front tokens) name is in
    (front.file, front.are, record { texts = front.texts; are = front.shaped; some = front.some parts.0; joined = sym parts.1 ∙ front.joined })

-- and each that is one is named there
pub file_found : (tokens file rest : List Token) (name : List ℕ) → tokens ≡ file ++ rest → IsFile file name → begins_with_text rest ≡ false
    → (file_in tokens ≡ Some name) × (behind_texts tokens ≡ rest)
file_found tokens file rest name are is off =
    let apart = file_apart file is.texts is.are rest off in (
      ap (λ (ts : List Token). file_in ts) are
          ∙ ap (λ (b : Bool). if b then Some (texts_at_front (file ++ rest)) else None) (begins_so file is.texts is.are is.some rest)
          ∙ ap (λ (l : List ℕ). Some l) (apart.0 ∙ sym is.joined),
      ap (λ (ts : List Token). behind_texts ts) are ∙ apart.1,
    )

-- All of the tokens.

-- tokens that are a file are that which stands at their front, and nothing stands after
pub whole_so : (tokens : List Token) (name : List ℕ) → IsFile tokens name → (file_in tokens ≡ Some name) × (behind_texts tokens ≡ [])
whole_so tokens name is = file_found tokens tokens [] name (sym (append-nil tokens)) is refl

pub one_file : (tokens : List Token) (a b : List ℕ) → IsFile tokens a → IsFile tokens b → a ≡ b
one_file tokens a b is also = same_some (file_in tokens) a b (whole_so tokens a is).0 (whole_so tokens b also).0

whole_is : (tokens : List Token) (name : List ℕ) → behind_texts tokens ≡ [] → file_in tokens ≡ Some name → IsFile tokens name
whole_is tokens name none is =
    let found = file_is tokens name is in
    subst (λ (ts : List Token). IsFile ts name) (sym (found.1 ∙ ap (λ (ts : List Token). found.0 ++ ts) none ∙ append-nil found.0)) found.2

pub whole_decided : (tokens : List Token) → behind_texts tokens ≡ [] → (found : Option (List ℕ)) → found ≡ file_in tokens → Decided (IsFile tokens) found
whole_decided tokens none None same = λ name is. none_some name (same ∙ (whole_so tokens name is).0)
whole_decided tokens none (Some name) same = whole_is tokens name none (sym same)
