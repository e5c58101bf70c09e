-- Lines that begin with blanks and `#`, and the word after them.
use Rattle.std.proofs.Common.{◌≡◌, ◌≢◌, ℕ, true, false, List, [], ◌∷◌, ◌++◌, Option, Some, None, refl, sym, ap, ◌∙◌, append_assoc}
use Rattle.std.specs.Prelude.{◌==◌, ◌↔◌}
use Rattle.std.proofs.lemmas.Bool.{and_parts, eqb-true, false≢true}
use Rattle.std.proofs.lemmas.List.Sums.{take_while-cons}
use Rattle.rz_lex.proofs.WordsBack.{no_blank}
use Rattle.rz_core.proofs.Tests.{by_test, none_some}
use Rattle.rz_lex.specs.Classes.{is_blank, is_word_byte, AreBlanks}
use Rattle.rz_lex.specs.Extent.{are_word_bytes}
use Rattle.rz_lex.specs.Printed.{begins_word}
use Rattle.rz_pre_source.specs.Directive.{behind_hash, directive_in, front_word, named, unblanked, behind_word, has_parameters, starts_with}
use Rattle.rz_pre_source.specs.declared.directive.Directive.TheVariants.{Empty, Other}

-- blanks in front don't count
skipped : (blanks rest : List ℕ) → AreBlanks blanks → unblanked (blanks ++ rest) ≡ unblanked rest
skipped [] rest all = refl
skipped (b ∷ blanks) rest all = rw all.0 (skipped blanks rest all.1)

-- The `#`.

abbrev Hashed : List ℕ → List ℕ → Type 0
Hashed line text = (blanks : List ℕ) × AreBlanks blanks × (line ≡ blanks ++ 35 ∷ text)

hash_back : (line text : List ℕ) → Hashed line text → behind_hash (unblanked line) ≡ Some text
hash_back line text hashed = ap (λ l. behind_hash (unblanked l)) hashed.2 ∙ ap behind_hash (skipped hashed.0 (35 ∷ text) hashed.1)

same_text : (rest text : List ℕ) → Some rest ≡ Some text → rest ≡ text
same_text rest text is = cc is

hash_first : (b : ℕ) (rest text : List ℕ) → behind_hash (b ∷ rest) ≡ Some text → b ∷ rest ≡ 35 ∷ text
hash_first b rest text is = by_test (b ∷ rest ≡ 35 ∷ text) (b == 35)
    (λ h. (let same : Some rest ≡ Some text = rw h at is in λ i. eqb-true b 35 h i ∷ same_text rest text same i))
    (λ h. (let never : ◌≡◌ {A = Option (List ℕ)} None (Some text) = rw h at is in absurd (none_some text never)))

hash_found : (line text : List ℕ) → behind_hash (unblanked line) ≡ Some text → Hashed line text
hash_found [] text is = absurd (none_some text is)
hash_found (b ∷ rest) text is = by_test (Hashed (b ∷ rest) text) (is_blank b)
    (λ h. (let more : behind_hash (unblanked rest) ≡ Some text = rw h at is in
    let found = hash_found rest text more in
    (b ∷ found.0, (h, found.1), ap (λ (l : List ℕ). b ∷ l) found.2)))
    (λ h. (let here : behind_hash (b ∷ rest) ≡ Some text = rw h at is in ([], tt, hash_first b rest text here)))

pub hash_line : (line text : List ℕ) → (behind_hash (unblanked line) ≡ Some text) ↔ Hashed line text
hash_line line text = (hash_found line text, hash_back line text)

-- The word.

pub no_word : (blanks : List ℕ) → AreBlanks blanks → directive_in (unblanked blanks) ≡ Empty
no_word [] all = refl
no_word (b ∷ blanks) all = rw all.0 (no_word blanks all.1)

word_front : (word after : List ℕ) → are_word_bytes word ≡ true → begins_word after ≡ false → front_word (word ++ after) ≡ word
word_front [] [] all ends = refl
word_front [] (x ∷ after) all ends = take_while-cons is_word_byte x after ∙ rw ends refl
word_front (b ∷ word) after all ends =
    let parts = and_parts (is_word_byte b) (are_word_bytes word) all in
    take_while-cons is_word_byte b (word ++ after) ∙ rw parts.0 (ap (λ (l : List ℕ). b ∷ l) (word_front word after parts.1 ends))

first_kept : (b : ℕ) (rest : List ℕ) → is_blank b ≡ false → unblanked (b ∷ rest) ≡ b ∷ rest
first_kept b rest h = rw h refl

pub word_named : (blanks word after : List ℕ) → AreBlanks blanks → word ≢ [] → are_word_bytes word ≡ true → begins_word after ≡ false
    → directive_in (unblanked (blanks ++ word ++ after)) ≡ named word
word_named blanks [] after all some bytes ends = absurd (some refl)
word_named blanks (b ∷ word) after all some bytes ends =
    let first = and_parts (is_word_byte b) (are_word_bytes word) bytes in
    ap (λ (l : List ℕ). directive_in (unblanked l)) (append_assoc blanks (b ∷ word) after)
    ∙ ap directive_in (skipped blanks ((b ∷ word) ++ after) all ∙ first_kept b (word ++ after) (no_blank b first.0)) ∙ ap named (word_front (b ∷ word) after bytes ends)

pub byte_other : (blanks : List ℕ) (byte : ℕ) (after : List ℕ) → AreBlanks blanks → is_blank byte ≡ false → is_word_byte byte ≡ false
    → directive_in (unblanked (blanks ++ byte ∷ after)) ≡ Other
byte_other blanks byte after all solid ends =
    ap directive_in (skipped blanks (byte ∷ after) all ∙ first_kept byte after solid) ∙ ap named (word_front [] (byte ∷ after) refl ends)

-- The bracket after a name.

behind_front : (word after : List ℕ) → are_word_bytes word ≡ true → begins_word after ≡ false → behind_word (word ++ after) ≡ after
behind_front [] [] all ends = refl
behind_front [] (x ∷ after) all ends = rw ends refl
behind_front (b ∷ word) after all ends =
    let parts = and_parts (is_word_byte b) (are_word_bytes word) all in
    rw parts.0 (behind_front word after parts.1 ends)

front_kept : (word after : List ℕ) → word ≢ [] → are_word_bytes word ≡ true → unblanked (word ++ after) ≡ word ++ after
front_kept [] after some all = absurd (some refl)
front_kept (b ∷ word) after some all = first_kept b (word ++ after) (no_blank b (and_parts (is_word_byte b) (are_word_bytes word) all).0)

blank_ends : (gap after : List ℕ) → gap ≢ [] → AreBlanks gap → begins_word (gap ++ after) ≡ false
blank_ends [] after some all = absurd (some refl)
blank_ends (b ∷ gap) after some all = by_test (is_word_byte b ≡ false) (is_word_byte b) (λ yes. absurd (false≢true (sym (no_blank b yes) ∙ all.0))) (λ h. h)

pub name_bracket : (blanks word gap name after : List ℕ) → AreBlanks blanks → word ≢ [] → are_word_bytes word ≡ true → AreBlanks gap → gap ≢ [] → name ≢ []
    → are_word_bytes name ≡ true → begins_word after ≡ false → has_parameters (blanks ++ (word ++ (gap ++ (name ++ after)))) ≡ starts_with 40 after
name_bracket blanks word gap name after all some bytes between far there letters ends =
    ap (λ (l : List ℕ). starts_with 40 (behind_word (unblanked (behind_word l)))) (skipped blanks (word ++ (gap ++ (name ++ after))) all ∙ front_kept word (gap ++ (name ++ after)) some bytes)
    ∙ ap (λ (l : List ℕ). starts_with 40 (behind_word (unblanked l))) (behind_front word (gap ++ (name ++ after)) bytes (blank_ends gap (name ++ after) far between))
    ∙ ap (λ (l : List ℕ). starts_with 40 (behind_word l)) (skipped gap (name ++ after) between ∙ front_kept name after there letters)
    ∙ ap (starts_with 40) (behind_front name after letters ends)
