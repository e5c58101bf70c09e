-- A text that is read is spelled plainly, and so are zero bits.
use Rattle.std.proofs.Common.{◌≡◌, ◌≢◌, ℕ, zero, suc, ◌+◌, ◌-◌, ◌*◌, ◌/◌, ◌%◌, ◌<◌, ◌≤◌, ◌^◌, ◌==◌, ℤ, pos, negsuc, Bool, true, false, ◌||◌, List, [], ◌∷◌, ◌++◌, length, map, take, drop, Option, Some, None, Result, Ok, Err, refl, sym, ap, ◌∙◌, subst, arith}
use Rattle.std.specs.Prelude.{if◌then◌else◌, not, option_map, replicate}
use Rattle.std.specs.Result.{is_ok}
use Rattle.std.specs.List.{AllByRecursion}
use Rattle.std.proofs.lemmas.Bool.{le-ltb}
use Rattle.std.proofs.lemmas.Bool.Decides.{nat_tests}
use Rattle.std.proofs.lemmas.List.{length-drop, length-map, length-take}
use Rattle.std.proofs.lemmas.Nat.{pow_pos}
use Rattle.std.proofs.Math.Pow.{pow_mono}
use Rattle.rz_core.specs.declared.facts.Facts.{Facts}
use Rattle.rz_expr.specs.Environment.{Environment, IsPartOf, Sight}
use Rattle.rz_expr.specs.Term.{Term}
use Rattle.rz_expr.specs.Value.{value_of}
use Rattle.rz_expr.specs.declared.value.EvalFault.{EvalFault}
use Rattle.rz_bits.specs.Bits.{bits_of, bytes_of, front_bytes, number_bits, number_of}
use Rattle.rz_bits.specs.BitBuf.{zeros}
use Rattle.rz_bits.specs.View.{bits_at, bytes_at, number_at}
use Rattle.rz_types_fields.specs.declared.field.TextForm.{TextForm}
use Rattle.rz_types_fields.specs.declared.field.TextForm.TheVariants as texts
use Rattle.rz_types_fields.specs.declared.tree.Tree.{Tree}
use Rattle.rz_types_fields.specs.declared.tree.Tree.TheVariants as trees
use Rattle.rz_types_fields.specs.Field.{field_and, PlainBody, PlainField, PlainText}
use Rattle.rz_types_fields.specs.Passed.{declares, is_held, Names, Passed}
use Rattle.rz_types_fields.specs.Piece.{terms_of_text}
use Rattle.rz_types_fields.specs.Range.{may_be_size}
use Rattle.rz_types_fields.specs.Sees.{beside, bits_before, hit, is_late, names_later, sees, Late}
use Rattle.rz_types_fields.specs.Laid.{text_in, text_of_tree}
use Rattle.rz_types_fields.specs.Spells.{is_one_late, nowhere, AreBytes, IsPlainText, IsPlainValue, IsSize, IsText}
use Rattle.rz_types_fields.specs.Stored.{is_too_long, stored_text}
use Rattle.rz_types_fields.specs.Text.{bytes_seen, text_terms, PlainPart}
use Rattle.rz_types_fields.specs.Value.{see}
use Rattle.rz_types_fields.specs.Width.{sized_bytes}
use Rattle.rz_types.proofs.Texts.{bytes_kept, Keeps}
use Rattle.rz_unlay.specs.Pieces.{early_text, room, size_here, sized_step, sized_text, text_step}
use Rattle.rz_unlay_pieces.specs.Pieces.{here_at, late_behind, seen_at, with_near, zeros_step, Here, Step}
use Rattle.rz_unlay_texts.specs.Plain.{before_zeros, one_byte_size, or_none, plain_text, same_bytes, trimmed, two_byte_size, up_to_zero}
use Rattle.rz_unlay_texts.specs.Texts.{fixed_read, size_found, size_read, stored_size, stored_value, text_read, text_value}
use Rattle.rz_unlay.proofs.ReadsTests.{and_then, both_true, if_false, if_some, mapped, neither, none_is, some_same}
use Rattle.rz_unlay.proofs.ReadsText.{stored_bits}
use Rattle.rz_unlay.proofs.SpelledNames.{value_grows, Knows}
use Rattle.rz_unlay.proofs.SpelledNear.{with_part}
use Rattle.rz_unlay.proofs.SpelledNumber.{bits_stand, number_stands, PieceRead, Stand}
use Rattle.rz_unlay.proofs.Told.{same_part}

-- Zero bits.

zeros_are : (bits : List Bool) → number_of bits ≡ 0 → bits ≡ zeros (length bits)
zeros_are [] is = refl
zeros_are (true ∷ bits) is = absurd (let high = pow_pos (length bits) in omega (arith, is, high))
zeros_are (false ∷ bits) is = ap (λ (bs : List Bool). false ∷ bs) (zeros_are bits (omega (arith, is)))

number_zero : (n : ℕ) → (n == 0) ≡ true → n ≡ 0
number_zero n is = grind (arith, nat_tests, is)

pub zero_bits : (bits : List Bool) → (number_of bits == 0) ≡ true → bits ≡ zeros (length bits)
zero_bits bits is = zeros_are bits (number_zero (number_of bits) is)

module _ (facts : Facts) (all : List Bool) (field : PlainField) (rest : PlainBody) (first at : ℕ) (late : Late) (passed : Passed) (names : Environment) where
  pub zeros_came : (count : ℕ) (step : Step) → Knows (is_held passed) names → zeros_step all count names at late ≡ Some step
      → PieceRead all (field_and field rest) first (declares rest) passed names at late (λ env value bits. (value ≡ None) × (bits ≡ zeros count)) (λ env many. replicate many false) step
  zeros_came count step knows is =
      let one = and_then (λ n. if n == 0 then Some (record { value = None; after = at + count; names = names; late = late_behind late count false }) else None) (number_at all at count) step is in
      let two = if_some (one.0 == 0) (record { value = None; after = at + count; names = names; late = late_behind late count false }) step one.2 in
      let number = number_stands all at count one.0 one.1 in
      let none : (number_of number.bits == 0) ≡ true = ap (λ n. n == 0) number.is ∙ two.0 in
      subst (PieceRead all (field_and field rest) first (declares rest) passed names at late (λ env value bits. (value ≡ None) × (bits ≡ zeros count)) (λ env many. replicate many false)) two.1 (record {
        count = count;
        bits = number.bits;
        stand = number.stand;
        ends = refl;
        grows = record { kept = same_part names; same = λ key none. refl };
        knows = knows;
        stored = λ env part near_in. (refl, zero_bits number.bits none ∙ ap zeros number.stand.long);
        marked = λ env part near_in. ap (λ (many : ℕ). late ++ replicate many false) (sym number.stand.long);
      })

-- Bytes.

same_bytes_are : (ones others : List ℕ) → same_bytes ones others ≡ true → ones ≡ others
same_bytes_are [] [] is = refl
same_bytes_are [] (other ∷ others) is = absurd cc
same_bytes_are (one ∷ ones) [] is = absurd cc
same_bytes_are (one ∷ ones) (other ∷ others) is =
    let each = both_true (one == other) (same_bytes ones others) is in
    let first : one ≡ other = grind (arith, nat_tests, each) in
    λ i. first i ∷ same_bytes_are ones others each.1 i

abbrev AreSmall : List ℕ → Type 0
AreSmall bytes = AllByRecursion (λ byte. byte < 256) bytes

length_fronts : (count : ℕ) (bits : List Bool) → length (front_bytes count bits) ≡ count
length_fronts zero bits = refl
length_fronts (suc count) bits = ap suc (length_fronts count (drop 8 bits))

small_take : (count : ℕ) (bytes : List ℕ) → AreSmall bytes → AreSmall (take count bytes)
small_take zero [] small = tt
small_take zero (byte ∷ bytes) small = tt
small_take (suc count) [] small = tt
small_take (suc count) (byte ∷ bytes) small = (small.0, small_take count bytes small.1)

small_drop : (count : ℕ) (bytes : List ℕ) → AreSmall bytes → AreSmall (drop count bytes)
small_drop zero [] small = tt
small_drop zero (byte ∷ bytes) small = small
small_drop (suc count) [] small = tt
small_drop (suc count) (byte ∷ bytes) small = small_drop count bytes small.1

-- Without zero bytes at the end.

small_before : (byte : ℕ) (bytes : List ℕ) → byte < 256 → AreSmall bytes → AreSmall (before_zeros byte bytes)
small_before byte [] small are = by (byte == 0)
  where
    by : (test : Bool) → AreSmall (if test then [] else byte ∷ [])
    by true = tt
    by false = (small, tt)
small_before byte (next ∷ bytes) small are = (small, are)

small_trimmed : (raw : List ℕ) → AreSmall raw → AreSmall (trimmed raw)
small_trimmed [] small = tt
small_trimmed (byte ∷ raw) small = small_before byte (trimmed raw) small.0 (small_trimmed raw small.1)

short_before : (byte : ℕ) (bytes : List ℕ) → length (before_zeros byte bytes) ≤ suc (length bytes)
short_before byte [] = by (byte == 0)
  where
    by : (test : Bool) → length (if test then [] else byte ∷ []) ≤ 1
    by true = omega (arith)
    by false = omega (arith)
short_before byte (next ∷ bytes) = omega (arith)

short_trimmed : (raw : List ℕ) → length (trimmed raw) ≤ length raw
short_trimmed [] = omega (arith)
short_trimmed (byte ∷ raw) = let one = short_before byte (trimmed raw) in let more = short_trimmed raw in omega (arith, one, more)

abbrev first_byte : List ℕ → ℕ
first_byte [] = 1
first_byte (byte ∷ bytes) = byte

abbrev later_bytes : List ℕ → List ℕ
later_bytes [] = []
later_bytes (byte ∷ bytes) = bytes

not_empty : (front : List ℕ) → [] ≡ front ++ 0 ∷ [] → ⊥
not_empty [] is = (let long = ap length is in omega (arith, long))
not_empty (byte ∷ front) is = (let long = ap length is in omega (arith, long))

one_byte : (byte : ℕ) (front : List ℕ) → suc byte ∷ [] ≡ front ++ 0 ∷ [] → ⊥
one_byte byte [] is = let first = ap first_byte is in omega (arith, first)
one_byte byte (other ∷ front) is = not_empty front (ap later_bytes is)

before_ends : (byte : ℕ) (bytes : List ℕ) → ((front : List ℕ) → bytes ≡ front ++ 0 ∷ [] → ⊥) → (front : List ℕ) → before_zeros byte bytes ≡ front ++ 0 ∷ [] → ⊥
before_ends zero [] none front is = not_empty front is
before_ends (suc byte) [] none front is =
    let test : (suc byte == 0) ≡ false = grind (arith, nat_tests) in
    one_byte byte front (sym (if_false (suc byte == 0) [] (suc byte ∷ []) test) ∙ is)
before_ends byte (next ∷ bytes) none [] is = let long = ap length is in omega (arith, long)
before_ends byte (next ∷ bytes) none (other ∷ front) is = none front (ap later_bytes is)

trimmed_ends : (raw front : List ℕ) → trimmed raw ≡ front ++ 0 ∷ [] → ⊥
trimmed_ends [] front is = not_empty front is
trimmed_ends (byte ∷ raw) front is = before_ends byte (trimmed raw) (trimmed_ends raw) front is

-- Up to the first zero byte.

record Cut (raw front : List ℕ) : Type 0 where
  small : AreSmall front
  none : AllByRecursion (λ byte. byte ≢ 0) front
  shorter : suc (length front) ≤ length raw

cut_by : (byte : ℕ) (bytes : List ℕ) → byte < 256 → ((front : List ℕ) → up_to_zero bytes ≡ Some front → Cut bytes front) → (front : List ℕ) (test : Bool) → (byte == 0) ≡ test
    → (if test then Some [] else option_map (λ front. byte ∷ front) (up_to_zero bytes)) ≡ Some front → Cut (byte ∷ bytes) front
cut_by byte bytes small cuts front true zero_byte is = subst (Cut (byte ∷ bytes)) (some_same [] front is) (record { small = tt; none = tt; shorter = omega (arith) })
cut_by byte bytes small cuts front false other is =
    let it = mapped (λ front. byte ∷ front) (up_to_zero bytes) front is in
    let inner = cuts it.0 it.1 in
    let not_zero : byte ≢ 0 = grind (arith, nat_tests, other) in
    let long = inner.shorter in
    subst (Cut (byte ∷ bytes)) it.2 (record { small = (small, inner.small); none = (not_zero, inner.none); shorter = omega (arith, long) })

cut : (raw : List ℕ) → AreSmall raw → (front : List ℕ) → up_to_zero raw ≡ Some front → Cut raw front
cut [] small front is = absurd (none_is front is)
cut (byte ∷ raw) small front is = cut_by byte raw small.0 (cut raw small.1) front (byte == 0) refl is

record ZeroCut (raw bytes : List ℕ) : Type 0 where
  small : AreSmall bytes
  none : AllByRecursion (λ byte. byte ≢ 0) bytes
  shorter : length bytes ≤ length raw - 1

zero_cut : (raw : List ℕ) → AreSmall raw → ZeroCut raw (or_none (up_to_zero raw))
zero_cut raw small = by (up_to_zero raw) refl
  where
    by : (found : Option (List ℕ)) → up_to_zero raw ≡ found → ZeroCut raw (or_none found)
    by None is = record { small = tt; none = tt; shorter = omega (arith) }
    by (Some front) is = let it = cut raw small front is in let long = it.shorter in record { small = it.small; none = it.none; shorter = omega (arith, long) }

-- What is read is plain.

abbrev IsSized : TextForm → Option ℕ → List ℕ → Type 0
IsSized form None raw = Unit {0}
IsSized form (Some size) raw = length raw ≡ sized_bytes form size

short_part : (count skip size : ℕ) (raw : List ℕ) → length raw ≡ size + skip → length (take count (drop skip raw)) ≤ size
short_part count skip size raw long = let one = length-take count (drop skip raw) in let more = length-drop skip raw in omega (arith, one, more, long)

plain_is : (form : TextForm) (size : Option ℕ) (raw : List ℕ) → AreSmall raw → IsSized form size raw → IsPlainText form size (plain_text form size raw)
plain_is texts.Open None raw small sized = (small, tt, tt, tt)
plain_is texts.Open (Some size) raw small sized = (small_trimmed raw small, tt, (let short = short_trimmed raw in omega (arith, short, sized)), trimmed_ends raw)
plain_is texts.Pascal None raw small sized = (small_take (one_byte_size raw) (drop 1 raw) (small_drop 1 raw small), tt, tt, tt)
plain_is texts.Pascal (Some size) raw small sized = (small_take (one_byte_size raw) (drop 1 raw) (small_drop 1 raw small), tt, short_part (one_byte_size raw) 1 size raw sized, tt)
plain_is texts.WordLong None raw small sized = (small_take (two_byte_size raw) (drop 2 raw) (small_drop 2 raw small), tt, tt, tt)
plain_is texts.WordLong (Some size) raw small sized = (small_take (two_byte_size raw) (drop 2 raw) (small_drop 2 raw small), tt, short_part (two_byte_size raw) 2 size raw sized, tt)
plain_is texts.Zero None raw small sized = let it = zero_cut raw small in (it.small, it.none, tt, tt)
plain_is texts.Zero (Some size) raw small sized = let it = zero_cut raw small in let short = it.shorter in (it.small, it.none, omega (arith, short, sized), tt)

not_long : (form : TextForm) (size : Option ℕ) (raw bytes : List ℕ) → AreSmall raw → stored_text form size bytes ≡ raw → is_too_long form size (length bytes) ≡ false
not_long texts.Open None raw bytes small is = refl
not_long texts.Open (Some size) raw bytes small is = refl
not_long texts.Pascal None raw bytes small is = let are = subst AreSmall (sym is) small in let first = are.0 in le-ltb 255 (length bytes) (omega (arith, first))
not_long texts.Pascal (Some size) raw bytes small is = refl
not_long texts.WordLong None raw bytes small is = let are = subst AreSmall (sym is) small in let first = are.0 in le-ltb 65535 (length bytes) (omega (arith, first))
not_long texts.WordLong (Some size) raw bytes small is = refl
not_long texts.Zero None raw bytes small is = refl
not_long texts.Zero (Some size) raw bytes small is = refl

-- Its size.

negative_size : (form : TextForm) (n : ℕ) → may_be_size form (negsuc n) ≡ true → ⊥
negative_size texts.Open n is = cc
negative_size texts.Pascal n is = cc
negative_size texts.WordLong n is = cc
negative_size texts.Zero n is = cc

size_is : (form : TextForm) (found : Result ℤ EvalFault) (size : Option ℕ) → size_found form found ≡ Some size → (n : ℕ) × (found ≡ Ok (pos n)) × (may_be_size form (pos n) ≡ true) × (size ≡ Some n)
size_is form (Err fault) size is = absurd (none_is size is)
size_is form (Ok (pos n)) size is = let it = if_some (may_be_size form (pos n)) (Some n) size is in (n, refl, it.0, sym it.1)
size_is form (Ok (negsuc n)) size is = let it = if_some (may_be_size form (negsuc n)) _ size is in absurd (negative_size form n it.0)

sized_is : (all : List Bool) (room : Option ℕ) (form : TextForm) (size : Option ℕ) (at count : ℕ) (raw : List ℕ) → stored_size all room form size at ≡ Some count → length raw ≡ count
    → IsSized form size raw
sized_is all room form None at count raw is long = tt
sized_is all room form (Some size) at count raw is long = long ∙ sym (some_same (sized_bytes form size) count is)

-- Its bytes.

-- those of a fixed text are stored by eight bits of each
fixed_is : {E : Type 0} (given : Result (List ℕ) E) (found : Option Tree × List ℕ) → fixed_read given ≡ Some found
    → (bytes : List ℕ) × (found.0 ≡ None) × (given ≡ Ok bytes) × (found.1 ≡ map (λ byte. byte % 256) bytes)
fixed_is (Err fault) found is = absurd (none_is found is)
fixed_is (Ok bytes) found is =
    let same = some_same (None, map (λ byte. byte % 256) bytes) found is in
    (bytes, sym (ap (λ (f : Option Tree × List ℕ). f.0) same), refl, sym (ap (λ (f : Option Tree × List ℕ). f.1) same))

-- texts that are one have the same bytes
same_text : (one other : List ℕ) → ◌≡◌ {A = Option Tree} (Some (trees.Text one)) (Some (trees.Text other)) → one ≡ other
same_text one other is = sym (ap text_of_tree (trees.outs-Text one)) ∙ ap text_in is ∙ ap text_of_tree (trees.outs-Text other)

-- a text has one size
one_size : (form : TextForm) (sight : Sight) (term : Option Term) (a b : Option ℕ) → IsSize form sight term a → IsSize form sight term b → a ≡ b
one_size form sight None a b one other = one ∙ sym other
one_size form sight (Some term) a b one other = one.3 ∙ ap (λ (n : ℕ). Some n) (same_size one.0 other.0 (sym one.1 ∙ other.1)) ∙ sym other.3
  where
    same_size : (m n : ℕ) → ◌≡◌ {A = Result ℤ EvalFault} (Ok (pos m)) (Ok (pos n)) → m ≡ n
    same_size m n is = cc

record BytesCame (form : TextForm) (facts : Facts) (sight : Sight) (fixed : Option (List PlainPart)) (size : Option ℕ) (found : Option Tree × List ℕ) : Type 0 where
  bytes : List ℕ
  are : AreBytes facts sight fixed found.0 bytes
  plain : (own : List ℕ) → found.0 ≡ Some (trees.Text own) → IsPlainText form size own
  long : length bytes ≡ length found.1
  same : bits_of (stored_text form size bytes) ≡ bits_of (stored_text form size found.1)

-- What is read of its expressions stays so with more names.

ok_there : (found : Result ℤ EvalFault) → not (is_ok found) ≡ false → (value : ℤ) × (found ≡ Ok value)
ok_there (Ok value) is = (value, refl)
ok_there (Err fault) is = absurd cc

module _ (facts : Facts) (bits : ℤ → ℤ → Option ℤ) (part whole : Environment) (is_part : IsPartOf part whole) where
  size_came : (form : TextForm) (term : Option Term) (size : Option ℕ) → size_read form term (see facts bits part) ≡ Some size → IsSize form (see facts bits whole) term size
  size_came form None size is = sym (some_same None size is)
  size_came form (Some term) size is =
      let it = size_is form (value_of term (see facts bits part)) size is in
      (it.0, value_grows facts bits part whole is_part term (pos it.0) it.1, it.2, it.3)

  -- a value that is known is that of the finished names
  terms_grow : (terms : List Term) → AllByRecursion (Keeps (see facts bits part) (see facts bits whole)) terms
  terms_grow [] = tt
  terms_grow (term ∷ terms) = (value_grows facts bits part whole is_part term, terms_grow terms)

  -- an expression that isn't late stays so
  still_early : (met : Names) (late : Late) (term : Term) → is_late met late term (see facts bits part) ≡ false → is_late met late term (see facts bits whole) ≡ false
  still_early met late term is =
      let each = neither (names_later met term) (not (is_ok (value_of term (beside late (see facts bits part))))) is in
      let found = ok_there (value_of term (beside late (see facts bits part))) each.1 in
      let grown : value_of term (beside late (see facts bits whole)) ≡ Ok found.0 =
      value_grows facts (λ from size. if hit late from size then None else bits from size) part whole is_part term found.0 found.1 in
      λ i. each.0 i || not (is_ok (grown i))

  all_early : (met : Names) (late : Late) (terms : List Term) → is_one_late met late terms (see facts bits part) ≡ false → is_one_late met late terms (see facts bits whole) ≡ false
  all_early met late [] is = refl
  all_early met late (term ∷ terms) is =
      let each = neither (is_late met late term (see facts bits part)) (is_one_late met late terms (see facts bits part)) is in
      λ i. still_early met late term each.0 i || all_early met late terms each.1 i

module _ (read : (width number : ℕ) → number_of (number_bits width number) ≡ number % 2 ^ width) (numbers : (bits : List Bool) → number_bits (length bits) (number_of bits) ≡ bits)
    (facts : Facts) (all : List Bool) (field : PlainField) (rest : PlainBody) (first at : ℕ) (met : Names) (names : Environment) where
  abbrev here : Here
  here = here_at facts all field rest first met

  abbrev seen : Sight
  seen = seen_at here names at

  bytes_came : (form : TextForm) (size : Option ℕ) (fixed : Option (List PlainPart)) (count : ℕ) (raw : List ℕ) (found : Option Tree × List ℕ) → AreSmall raw
      → size_here here names form size fixed at ≡ Some count → length raw ≡ count → text_read facts seen form size fixed raw ≡ Some found
      → (env : Environment) → IsPartOf (with_near here names) env → BytesCame form facts (sees facts all env at) fixed size found
  bytes_came form size None count raw found small so long is env part =
      subst (BytesCame form facts (sees facts all env at) None size) (some_same (Some (trees.Text (plain_text form size raw)), plain_text form size raw) found is)
      (record {
        bytes = plain_text form size raw;
        are = refl;
        plain = λ own is. subst (IsPlainText form size) (same_text (plain_text form size raw) own is) (plain_is form size raw small (sized_is all (room here names at) form size at count raw so long));
        long = refl;
        same = refl;
      })
  bytes_came form size (Some parts) count raw found small so long is env part =
      let it = fixed_is (bytes_seen nowhere facts seen parts) found is in
      record {
        bytes = it.0;
        are = (it.1, bytes_kept nowhere facts seen (sees facts all env at) parts (terms_grow facts (bits_before all at) (with_near here names) env part (text_terms parts)) it.0 it.2);
        plain = λ own is. absurd (none_is (trees.Text own) (sym it.1 ∙ is));
        long = sym (length-map it.0 (λ byte. byte % 256)) ∙ sym (ap length it.3);
        same = stored_bits read numbers it.0 form size ∙ ap (λ (bs : List ℕ). bits_of (stored_text form size bs)) (sym it.3);
      }

-- an answer where a test fails
fails_first : {A : Type 0} (test : Bool) (x : Option A) (y : A) → (if test then None else x) ≡ Some y → (test ≡ false) × (x ≡ Some y)
fails_first true x y is = absurd (none_is y is)
fails_first false x y is = (refl, is)

module _ (below : (bits : List Bool) → number_of bits < 2 ^ length bits) (written : (bits : List Bool) → length bits % 8 ≡ 0 → bits_of (bytes_of bits) ≡ bits) where
  byte_small : (bits : List Bool) → number_of (take 8 bits) < 256
  byte_small bits =
      let least : length (take 8 bits) ≤ 8 = (let long = length-take 8 bits in omega (arith, long)) in
      let most : 2 ^ length (take 8 bits) ≤ 256 = pow_mono least in
      let low = below (take 8 bits) in
      omega (arith, most, low)

  fronts_small : (count : ℕ) (bits : List Bool) → AreSmall (front_bytes count bits)
  fronts_small zero bits = tt
  fronts_small (suc count) bits = (byte_small bits, fronts_small count (drop 8 bits))

  -- what stands there in bits is what was read in bytes
  record RawThere (all : List Bool) (at count : ℕ) (raw : List ℕ) : Type 0 where
    bits : List Bool
    stand : Stand all at (8 * count) bits
    small : AreSmall raw
    long : length raw ≡ count
    are : bits ≡ bits_of raw

  raw_stands : (all : List Bool) (at count : ℕ) (raw : List ℕ) → bytes_at all at count ≡ Some raw → RawThere all at count raw
  raw_stands all at count raw is =
      let there = mapped bytes_of (bits_at all at (8 * count)) raw is in
      let bits : List Bool = there.0 in
      let stand = bits_stand all at (8 * count) bits there.1 in
      let long : length bits ≡ 8 * count = stand.long in
      let eighth : length bits / 8 ≡ count = omega (arith, long) in
      let whole : length bits % 8 ≡ 0 = omega (arith, long) in
      record {
        bits = bits;
        stand = stand;
        small = subst AreSmall there.2 (fronts_small (length bits / 8) bits);
        long = sym (ap length there.2) ∙ length_fronts (length bits / 8) bits ∙ eighth;
        are = sym (written bits whole) ∙ ap bits_of there.2;
      }

  module _ (read : (width number : ℕ) → number_of (number_bits width number) ≡ number % 2 ^ width) (numbers : (bits : List Bool) → number_bits (length bits) (number_of bits) ≡ bits)
      (facts : Facts) (all : List Bool) (field : PlainField) (rest : PlainBody) (first at : ℕ) (late : Late) (passed : Passed) (names : Environment) (text : PlainText) where
    abbrev own : Here
    own = here_at facts all field rest first passed.met

    abbrev Read : Step → Type 0
    Read step = PieceRead all (field_and field rest) first (declares rest) passed names at late
        (λ env value bits. IsText text facts (sees facts all env at) value bits × IsPlainValue text (sees facts all env at) value × (is_one_late passed.met late (terms_of_text text) (sees facts all env at) ≡ false)) (λ env count. replicate count false) step

    abbrev seen_here : Sight
    seen_here = seen_at own names at

    early_came : (size : Option ℕ) (count : ℕ) (raw : List ℕ) (found : Option Tree × List ℕ) (step : Step) → Knows (is_held passed) names
        → is_one_late passed.met late (terms_of_text text) seen_here ≡ false → size_read text.form text.size seen_here ≡ Some size
        → size_here own names text.form size text.fixed at ≡ Some count → bytes_at all at count ≡ Some raw → text_read facts seen_here text.form size text.fixed raw ≡ Some found
        → same_bytes (stored_text text.form size found.1) raw ≡ true
        → record { value = found.0; after = at + 8 * count; names = names; late = late_behind late (8 * count) false } ≡ step → Read step
    early_came size count raw found step knows early sized counted there is same made =
        let it = raw_stands all at count raw there in
        let stored : stored_text text.form size found.1 ≡ raw = same_bytes_are (stored_text text.form size found.1) raw same in
        let finished = with_part facts all field rest first passed.met names in
        subst Read made (record {
          count = 8 * count;
          bits = it.bits;
          stand = it.stand;
          ends = refl;
          grows = record { kept = same_part names; same = λ key none. refl };
          knows = knows;
          stored = λ env part near_in.
              let bytes = bytes_came read numbers facts all field rest first at passed.met names text.form size text.fixed count raw found it.small counted it.long is env (finished env part near_in) in
              let has_size = size_came facts (bits_before all at) (with_near own names) env (finished env part near_in) text.form text.size size sized in (
                record {
                  size = size;
                  has_size = has_size;
                  bytes = bytes.bytes;
                  are_bytes = bytes.are;
                  short = ap (is_too_long text.form size) bytes.long ∙ not_long text.form size raw found.1 it.small stored;
                  are_bits = it.are ∙ ap bits_of (sym stored) ∙ sym bytes.same;
                },
                λ other own sized_too is_text. subst (λ (o : Option ℕ). IsPlainText text.form o own) (one_size text.form (sees facts all env at) text.size size other has_size sized_too) (bytes.plain own is_text),
                all_early facts (bits_before all at) (with_near own names) env (finished env part near_in) passed.met late (terms_of_text text) early,
              );
          marked = λ env part near_in. ap (λ (many : ℕ). late ++ replicate many false) (sym it.stand.long);
        })

    pub text_came : (step : Step) → Knows (is_held passed) names → text_step own text names at late ≡ Some step → Read step
    text_came step knows is =
        let zero = fails_first (is_one_late passed.met late (terms_of_text text) seen_here) (early_text own text names at late) step is in
        let one = and_then (λ size. sized_text own text size names at late) (size_read text.form text.size seen_here) step zero.1 in
        let size : Option ℕ = one.0 in
        let two = and_then (sized_step own text size names at late) (size_here own names text.form size text.fixed at) step one.2 in
        let count : ℕ = two.0 in
        let came = mapped (λ value. record { value = value; after = at + 8 * count; names = names; late = late_behind late (8 * count) false }) (text_value facts seen_here all text size count at) step two.2 in
        let three = and_then (stored_value facts seen_here text size) (bytes_at all at count) came.0 came.1 in
        let raw : List ℕ = three.0 in
        let four = and_then (λ found. if same_bytes (stored_text text.form size found.1) raw then Some found.0 else None) (text_read facts seen_here text.form size text.fixed raw) came.0 three.2 in
        let found : Option Tree × List ℕ = four.0 in
        let five = if_some (same_bytes (stored_text text.form size found.1) raw) found.0 came.0 four.2 in
        early_came size count raw found step knows zero.0 one.1 two.1 three.1 four.1 five.0
        (ap (λ (value : Option Tree). record { value = value; after = at + 8 * count; names = names; late = late_behind late (8 * count) false }) five.1 ∙ came.2)
