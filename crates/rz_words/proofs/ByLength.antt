-- A name is looked up among the keywords of its length alone.
use Rattle.std.proofs.Common.{◌≡◌, ℕ, ◌==◌, ◌&&◌, Bool, true, false, if◌then◌else◌, List, [], ◌∷◌, length, Some, None, refl, sym, ap, ◌∙◌, arith}
use Rattle.std.specs.Prelude.{nat_le}
use Rattle.std.proofs.lemmas.Bool.Decides.{Decides-eqb}
use Rattle.std.specs.List.{list_all}
use Rattle.std.specs.Str.{str_eq_ignore_ascii_case, str_to_ascii_lowercase}
use Rattle.std.proofs.lemmas.Bool.{leb-true}
use Rattle.rz_core.proofs.Tests.{both}
use Rattle.rz_words.specs.Keyword.{every_keyword, keyword_of, spelled_among, spelling}
use Rattle.rz_words.specs.declared.keyword.Keyword.{Keyword}
use Rattle.rz_words.proofs.Spelled.{same_lower}

length-lower : (name : List ℕ) → length (str_to_ascii_lowercase name) ≡ length name
length-lower [] = refl
length-lower (b ∷ name) = let rest : length (str_to_ascii_lowercase name) ≡ length name = length-lower name in omega arith

same_length : (name word : List ℕ) → str_eq_ignore_ascii_case name word ≡ true → length name ≡ length word
same_length name word is = sym (length-lower name) ∙ ap length (same_lower name word is) ∙ length-lower word

-- those with so many letters
abbrev pub of_length : ℕ → List Keyword → List Keyword
of_length n [] = []
of_length n (k ∷ ks) = if length (spelling k) == n then k ∷ of_length n ks else of_length n ks

differs : (name word : List ℕ) (test : Bool) → str_eq_ignore_ascii_case name word ≡ test → (length word == length name) ≡ false → test ≡ false
differs name word false is other = refl
differs name word true is other =
    let equal : (length word == length name) ≡ true = (Decides-eqb (length word) (length name)).1 (sym (same_length name word is)) in absurd cc

one_more : (k : Keyword) (few ks : List Keyword) (name : List ℕ) (test long : Bool) → str_eq_ignore_ascii_case name (spelling k) ≡ test → (long ≡ false → test ≡ false)
    → spelled_among few name ≡ spelled_among ks name → spelled_among (if long then k ∷ few else few) name ≡ (if test then Some k else spelled_among ks name)
one_more k few ks name test true is never same = λ j. if is j then Some k else same j
one_more k few ks name test false is never same = same ∙ sym (ap (λ b. if b then Some k else spelled_among ks name) (never refl))

among_length : (ks : List Keyword) (name : List ℕ) → spelled_among (of_length (length name) ks) name ≡ spelled_among ks name
among_length [] name = refl
among_length (k ∷ ks) name =
    one_more k (of_length (length name) ks) ks name (str_eq_ignore_ascii_case name (spelling k)) (length (spelling k) == length name) refl
    (differs name (spelling k) (str_eq_ignore_ascii_case name (spelling k)) refl) (among_length ks name)

pub by_length : (n : ℕ) (name : List ℕ) → length name ≡ n → spelled_among (of_length n every_keyword) name ≡ keyword_of name
unfolding keyword_of
by_length n name is = ap (λ m. spelled_among (of_length m every_keyword) name) (sym is) ∙ among_length every_keyword name

-- every keyword has 2 to 9 letters
is_common : ℕ → Bool
is_common n = nat_le 2 n && nat_le n 9

none_or : (k : Keyword) (ks : List Keyword) (name : List ℕ) (test : Bool) → test ≡ false → spelled_among ks name ≡ None → (if test then Some k else spelled_among ks name) ≡ None
none_or k ks name test never rest = ap (λ b. if b then Some k else spelled_among ks name) never ∙ rest

uncommon : (k : Keyword) (name : List ℕ) (test : Bool) → str_eq_ignore_ascii_case name (spelling k) ≡ test → is_common (length (spelling k)) ≡ true
    → is_common (length name) ≡ false → test ≡ false
uncommon k name false is common other = refl
uncommon k name true is common other =
    let same : is_common (length name) ≡ is_common (length (spelling k)) = ap is_common (same_length name (spelling k) is) in absurd cc

none_among : (ks : List Keyword) (name : List ℕ) → list_all (λ k. is_common (length (spelling k))) ks ≡ true → is_common (length name) ≡ false
    → spelled_among ks name ≡ None
none_among [] name common other = refl
none_among (k ∷ ks) name common other =
    let each = both (is_common (length (spelling k))) (list_all (λ k. is_common (length (spelling k))) ks) common in
    none_or k ks name (str_eq_ignore_ascii_case name (spelling k)) (uncommon k name (str_eq_ignore_ascii_case name (spelling k)) refl each.0 other)
    (none_among ks name each.1 other)

all_common : list_all (λ k. is_common (length (spelling k))) every_keyword ≡ true
unfolding is_common
all_common = refl

outside : (n : ℕ) (test : Bool) → is_common n ≡ test → (n ≡ 2 → ⊥) → (n ≡ 3 → ⊥) → (n ≡ 4 → ⊥) → (n ≡ 5 → ⊥) → (n ≡ 6 → ⊥) → (n ≡ 7 → ⊥) → (n ≡ 8 → ⊥) → (n ≡ 9 → ⊥) → test ≡ false
unfolding is_common
outside n false is a b c d e f g h = refl
outside n true is a b c d e f g h =
    let each = both (nat_le 2 n) (nat_le n 9) is in
    let low = leb-true 2 n each.0 in
    let high = leb-true n 9 each.1 in
    absurd (omega arith)

pub no_keyword : (name : List ℕ) (n : ℕ) → n ≡ length name → (n ≡ 2 → ⊥) → (n ≡ 3 → ⊥) → (n ≡ 4 → ⊥) → (n ≡ 5 → ⊥) → (n ≡ 6 → ⊥) → (n ≡ 7 → ⊥)
    → (n ≡ 8 → ⊥) → (n ≡ 9 → ⊥) → None ≡ keyword_of name
unfolding keyword_of
no_keyword name n is a b c d e f g h =
    sym (none_among every_keyword name all_common (ap is_common (sym is) ∙ outside n (is_common n) refl a b c d e f g h))
