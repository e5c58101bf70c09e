-- A text that is spelled plainly is read.
use Rattle.std.proofs.Common.{◌≡◌, ℕ, zero, suc, ◌+◌, ◌-◌, ◌*◌, ◌/◌, ◌%◌, ◌^◌, ◌<◌, ◌≤◌, ◌==◌, ℤ, pos, Bool, true, false, ◌&&◌, ◌||◌, List, [], ◌∷◌, ◌++◌, length, map, take, drop, Option, Some, None, Result, Ok, refl, sym, ap, ◌∙◌, subst, arith}
use Rattle.std.specs.Prelude.{if◌then◌else◌, int_le, min, nat_lt, option_and_then, option_map, replicate, slice_index}
use Rattle.std.specs.List.{list_all, AllByRecursion}
use Rattle.std.specs.Option.{is_some, option_to_list}
use Rattle.std.specs.Result.{result_ok}
use Rattle.std.proofs.lemmas.Bool.Decides.{nat_tests}
use Rattle.std.proofs.lemmas.List.{append_assoc, length-append, length-map, length-replicate, length-take}
use Rattle.rz_core.specs.declared.facts.Facts.{Facts}
use Rattle.rz_core.specs.declared.fault.Fault.{Fault}
use Rattle.rz_expr.specs.Environment.{place_of, Environment, Key, Sight}
use Rattle.rz_expr.specs.Term.{Term}
use Rattle.rz_expr.specs.Value.{value_of}
use Rattle.rz_bits.specs.Bits.{bits_of, bytes_of, number_bits, number_of}
use Rattle.rz_bits.specs.View.{bytes_at}
use Rattle.rz_types_fields.specs.declared.field.TextForm.{TextForm}
use Rattle.rz_types_fields.specs.declared.field.TextForm.TheVariants as texts
use Rattle.rz_types_fields.specs.declared.tree.Tree.{Tree}
use Rattle.rz_types_fields.specs.declared.tree.Tree.TheVariants as trees
use Rattle.rz_types_fields.specs.Field.{field_and, PlainBody, PlainField, PlainText}
use Rattle.rz_types_fields.specs.Passed.{declares, is_known, is_near, Names, Passed}
use Rattle.rz_types_fields.specs.Piece.{fixed_terms, terms_of_text}
use Rattle.rz_types_fields.specs.Range.{may_be_size}
use Rattle.rz_types_fields.specs.Sees.{bits_before, sees, Late}
use Rattle.rz_types_fields.specs.Spells.{is_one_late, nowhere, IsPlainText, IsPlainValue, IsSize, IsText}
use Rattle.rz_types_fields.specs.Spells as spells
use Rattle.rz_types_fields.specs.Stored.{before_zero, in_size, is_too_long, sized, stored_text, to_size}
use Rattle.rz_types_fields.specs.Text.{text_terms, PlainPart}
use Rattle.rz_types_fields.specs.Value.{see}
use Rattle.rz_types_fields.specs.Width.{fixed_widths, sized_bytes}
use Rattle.rz_types.specs.Readable.{all_known, ends_at_end, ends_at_label, is_text_read, text_ends}
use Rattle.rz_types.proofs.Texts.{bytes_kept, Keeps}
use Rattle.rz_unlay_pieces.specs.Ahead.{told_label, bytes_before, bytes_left, open_size, Told}
use Rattle.rz_unlay.specs.Pieces.{early_text, room, size_here, sized_step, sized_text, text_step}
use Rattle.rz_unlay_pieces.specs.Pieces.{here_at, late_behind, seen_at, with_near, Here}
use Rattle.rz_unlay_texts.specs.Plain.{same_bytes, up_to_zero}
use Rattle.rz_unlay_texts.specs.Texts.{fixed_read, size_found, size_read, stored_size, stored_value, text_read}
use Rattle.rz_unlay.proofs.Ahead.{Ahead}
use Rattle.rz_unlay.proofs.Near.{near_covers, near_part, told_there, Knows}
use Rattle.rz_unlay.proofs.PlainText.{plain_text_is}
use Rattle.rz_unlay.proofs.ReadsBits.{all_append, bits_there, each_small, front_there, length_bits, length_number, number_append, number_found, reduced_are, reduced_bits, take_are, zero_there, zeros_are, AreBytes}
use Rattle.rz_unlay.proofs.ReadsTests.{both_true, either_of, itself, not_below, right_true, some_is, there_is}
use Rattle.rz_unlay.proofs.Sees.{late_same, met_known, value_same, Covers, IsKnownOf}

-- Lengths.

length_sized : (size : ℕ) (bytes : List ℕ) → length (sized size bytes) ≡ size
length_sized size bytes =
    length-append (take size bytes) (replicate (size - length bytes) 0)
    ∙ (let one = length-take size bytes in let zero : ℕ = 0 in let more = length-replicate (size - length bytes) zero in omega (arith, one, more))

pub length_with_size : (form : TextForm) (size : ℕ) (bytes : List ℕ) → length (stored_text form (Some size) bytes) ≡ sized_bytes form size
length_with_size texts.Open size bytes = length_sized size bytes
length_with_size texts.Pascal size bytes = (let it = length_sized size bytes in omega (arith, it))
length_with_size texts.WordLong size bytes = (let it = length_sized size bytes in omega (arith, it))
length_with_size texts.Zero size bytes = length-append (sized (size - 1) bytes) (0 ∷ []) ∙ ap (λ (n : ℕ). n + 1) (length_sized (size - 1) bytes)

-- Stored bytes are bytes.

to_size_are : (size : Option ℕ) (bytes : List ℕ) → AreBytes bytes → AreBytes (to_size size bytes)
to_size_are None bytes are = are
to_size_are (Some size) bytes are = all_append (λ byte. byte < 256) (take size bytes) (replicate (size - length bytes) 0) (take_are size bytes are) (zeros_are (size - length bytes))

-- what bounds a length
abbrev MayBe : TextForm → Option ℕ → Type 0
MayBe form None = Unit {0}
MayBe form (Some size) = may_be_size form (pos size) ≡ true

take_length : (size : ℕ) (bytes : List ℕ) → length (take size bytes) ≤ size
take_length size bytes = let it = length-take size bytes in omega (arith, it)

size_most : (most size : ℕ) → (int_le (pos 0) (pos size) && int_le (pos size) (pos most)) ≡ true → size ≤ most
size_most most size is = grind (arith, nat_tests, is)

not_over : (most count : ℕ) → nat_lt most count ≡ false → count ≤ most
not_over most count is = grind (arith, nat_tests)

pascal_short : (size : Option ℕ) (bytes : List ℕ) → MayBe texts.Pascal size → is_too_long texts.Pascal size (length bytes) ≡ false → length (in_size size bytes) < 256
pascal_short None bytes may short = let it = not_over 255 (length bytes) short in omega (arith, it)
pascal_short (Some size) bytes may short = let it = size_most 255 size may in let less = take_length size bytes in omega (arith, it, less)

word_short : (size : Option ℕ) (bytes : List ℕ) → MayBe texts.WordLong size → is_too_long texts.WordLong size (length bytes) ≡ false → length (in_size size bytes) < 65536
word_short None bytes may short = let it = not_over 65535 (length bytes) short in omega (arith, it)
word_short (Some size) bytes may short = let it = size_most 65535 size may in let less = take_length size bytes in omega (arith, it, less)

stored_are : (form : TextForm) (size : Option ℕ) (bytes : List ℕ) → AreBytes bytes → MayBe form size → is_too_long form size (length bytes) ≡ false → AreBytes (stored_text form size bytes)
stored_are texts.Open size bytes are may short = to_size_are size bytes are
stored_are texts.Pascal size bytes are may short = (pascal_short size bytes may short, to_size_are size bytes are)
stored_are texts.WordLong size bytes are may short =
    let it = word_short size bytes may short in (omega (arith, it), (omega (arith), to_size_are size bytes are))
stored_are texts.Zero size bytes are may short =
    all_append (λ byte. byte < 256) (to_size (before_zero size) bytes) (0 ∷ []) (to_size_are (before_zero size) bytes are) (omega (arith), tt)

-- Eight bits of each byte.

append_bits : (one other : List ℕ) → bits_of (one ++ other) ≡ bits_of one ++ bits_of other
append_bits [] other = refl
append_bits (byte ∷ one) other = ap (λ bs. number_bits 8 byte ++ bs) (append_bits one other) ∙ sym (append_assoc (number_bits 8 byte) (bits_of one) (bits_of other))

map_take : (f : ℕ → ℕ) (count : ℕ) (bytes : List ℕ) → take count (map f bytes) ≡ map f (take count bytes)
map_take f zero bytes = refl
map_take f (suc count) [] = refl
map_take f (suc count) (byte ∷ bytes) = ap (λ (bs : List ℕ). f byte ∷ bs) (map_take f count bytes)

module _ (read : (width number : ℕ) → number_of (number_bits width number) ≡ number % 2 ^ width) (written : (bits : List Bool) → number_bits (length bits) (number_of bits) ≡ bits)
    (bytes : List ℕ) where
  abbrev reduced : List ℕ
  reduced = map (λ byte. byte % 256) bytes

  same_length : length bytes ≡ length reduced
  same_length = sym (length-map bytes (λ byte. byte % 256))

  in_size_length : (size : Option ℕ) → length (in_size size bytes) ≡ length (in_size size reduced)
  in_size_length None = same_length
  in_size_length (Some size) = length-take size bytes ∙ ap (λ (n : ℕ). min size n) same_length ∙ sym (length-take size reduced)

  to_size_bits : (size : Option ℕ) → bits_of (to_size size bytes) ≡ bits_of (to_size size reduced)
  to_size_bits None = reduced_bits read written bytes
  to_size_bits (Some size) =
      append_bits (take size bytes) (replicate (size - length bytes) 0)
      ∙ (λ i. (reduced_bits read written (take size bytes) ∙ ap bits_of (sym (map_take (λ byte. byte % 256) size bytes))) i ++ bits_of (replicate (size - same_length i) 0))
      ∙ sym (append_bits (take size reduced) (replicate (size - length reduced) 0))

  pub stored_bits : (form : TextForm) (size : Option ℕ) → bits_of (stored_text form size bytes) ≡ bits_of (stored_text form size reduced)
  stored_bits texts.Open size = to_size_bits size
  stored_bits texts.Pascal size = λ i. number_bits 8 (in_size_length size i) ++ to_size_bits size i
  stored_bits texts.WordLong size = λ i. number_bits 8 (in_size_length size i / 256) ++ (number_bits 8 (in_size_length size i % 256) ++ to_size_bits size i)
  stored_bits texts.Zero size =
      append_bits (to_size (before_zero size) bytes) (0 ∷ [])
      ∙ (λ i. to_size_bits (before_zero size) i ++ bits_of (0 ∷ []))
      ∙ sym (append_bits (to_size (before_zero size) reduced) (0 ∷ []))

-- Sizes.

same_again : (bytes : List ℕ) → same_bytes bytes bytes ≡ true
same_again [] = refl
same_again (byte ∷ bytes) = rw (itself byte, same_again bytes) refl

size_may : (form : TextForm) (sight : Sight) (term : Option Term) (size : Option ℕ) → IsSize form sight term size → MayBe form size
size_may form sight None size is = subst (λ (o : Option ℕ). MayBe form o) (sym is) tt
size_may form sight (Some term) size (n, valued, may, is) = subst (λ (o : Option ℕ). MayBe form o) (sym is) may

-- where a field ends at the end of the resource
abbrev pub EndsAt : (outermost : Bool) → List Bool → PlainBody → ℕ → Type 0
EndsAt outermost all rest after = (width : ℕ) → outermost ≡ true → fixed_widths rest ≡ Some width → (after + width ≤ length all) × (length all < after + width + 8)

count_left : (len width at count : ℕ) → at + 8 * count + width ≤ len → len < at + 8 * count + width + 8 → bytes_left len (Some width) at ≡ Some count
count_left len width at count within over =
    let test : nat_lt len (at + width) ≡ false = not_below len (at + width) (omega (arith, within)) in
    let number : (len - width - at) / 8 ≡ count = omega (arith, within, over) in
    ap (λ (b : Bool). if b then None else Some ((len - width - at) / 8)) test ∙ ap (λ (n : ℕ). Some n) number

-- where a label ends a field
count_before : (told : Told) (at count : ℕ) → told.place ≡ at + 8 * count + told.width → bytes_before told at ≡ Some count
count_before told at count ends =
    let test : nat_lt told.place (at + told.width) ≡ false = not_below told.place (at + told.width) (omega (arith, ends)) in
    let left : told.place - told.width - at ≡ 8 * count = omega (arith, ends) in
    let whole : 8 * count % 8 ≡ 0 = omega (arith) in
    let number : 8 * count / 8 ≡ count = omega (arith) in
    ap (λ (b : Bool). if b then None else if (told.place - told.width - at) % 8 == 0 then Some ((told.place - told.width - at) / 8) else None) test
    ∙ ap (λ (n : ℕ). if n % 8 == 0 then Some (n / 8) else None) left
    ∙ ap (λ (n : ℕ). if n == 0 then Some (8 * count / 8) else None) whole
    ∙ ap (λ (n : ℕ). Some n) number

-- a text without a size ends at a told label, or at the end of the resource
module _ (all : List Bool) (rest : PlainBody) (outermost : Bool) (passed : Passed) (names env : Environment) (knows : Knows passed names) (part : IsKnownOf names env)
    (lies : (name : List ℕ) → declares rest (place_of name) ≡ true → (place : ℕ) × (env.give (place_of name) ≡ Some (pos place)) × (place ≤ length all)) (at count after : ℕ) (ends : after ≡ at + 8 * count)
    (stops : (told : Told) → told_label (length all) rest names ≡ Some told → told.place ≡ after + told.width) (end : EndsAt outermost all rest after) where
  end_left : ends_at_end outermost rest ≡ true → bytes_left (length all) (fixed_widths rest) at ≡ Some count
  end_left is =
      let test = both_true outermost (is_some (fixed_widths rest)) is in
      let width = there_is (fixed_widths rest) test.1 in
      let behind = end width.0 test.0 width.1 in
      ap (λ (o : Option ℕ). bytes_left (length all) o at) width.1
      ∙ count_left (length all) width.0 at count (let a = behind.0 in omega (arith, ends, a)) (let b = behind.1 in omega (arith, ends, b))

  told_known : Covers passed.told names
  told_known key asked is = knows key asked (right_true (passed.met key) (passed.told key) is)

  open_found : (ends_at_label rest passed.told || ends_at_end outermost rest) ≡ true → open_size (length all) (told_label (length all) rest names) (fixed_widths rest) at ≡ Some count
  open_found reads = by (told_label (length all) rest names) refl
    where
      by : (told : Option Told) → told_label (length all) rest names ≡ told → open_size (length all) told (fixed_widths rest) at ≡ Some count
      by (Some told) so = count_before told at count (let it = stops told so in omega (arith, ends, it))
      by None so =
          either_of (ends_at_label rest passed.told) (ends_at_end outermost rest)
          (λ label. let it = told_there (length all) passed.told names env told_known part.part rest lies label in absurd (let wrong = sym so ∙ it.1 in cc)) end_left reads

module _ (back : (width number : ℕ) → number < 2 ^ width → number_of (number_bits width number) ≡ number) (all : List Bool) (room : Option ℕ) (at : ℕ) (bytes : List ℕ) where
  -- a free text without a size says its own length
  size_stored : (form : TextForm) (bits : List Bool) → (form ≡ texts.Open → room ≡ Some (length bytes)) → IsPlainText form None bytes
      → is_too_long form None (length bytes) ≡ false → bits ≡ bits_of (stored_text form None bytes) → at + length bits ≤ length all → take (length bits) (drop at all) ≡ bits
      → stored_size all room form None at ≡ Some (length (stored_text form None bytes))
  size_stored texts.Open bits opens plain short are within there = opens refl
  size_stored texts.Pascal bits opens plain short are within there =
      let size = not_over 255 (length bytes) short in
      let first = number_bits 8 (length bytes) in
      let front : take (length first) (drop at all) ≡ first =
      front_there (drop at all) first (bits_of bytes) (subst (λ (bs : List Bool). take (length bs) (drop at all) ≡ bs) are there) in
      let long : length bits ≡ length first + length (bits_of bytes) = ap length are ∙ length-append first (bits_of bytes) in
      ap (option_map (λ n. 1 + n)) (number_found all at 8 first (length_number 8 (length bytes)) (omega (arith, long, within)) front ∙ ap (λ (n : ℕ). Some n) (back 8 (length bytes) (omega (arith, size))))
      ∙ ap (λ (n : ℕ). Some n) (omega (arith))
  size_stored texts.WordLong bits opens plain short are within there =
      let size = not_over 65535 (length bytes) short in
      let high = number_bits 8 (length bytes / 256) in
      let low = number_bits 8 (length bytes % 256) in
      let joined : bits ≡ (high ++ low) ++ bits_of bytes = are ∙ sym (append_assoc high low (bits_of bytes)) in
      let front : take (length (high ++ low)) (drop at all) ≡ high ++ low =
      front_there (drop at all) (high ++ low) (bits_of bytes) (subst (λ (bs : List Bool). take (length bs) (drop at all) ≡ bs) joined there) in
      let long : length bits ≡ length (high ++ low) + length (bits_of bytes) = ap length joined ∙ length-append (high ++ low) (bits_of bytes) in
      let sixteen : length (high ++ low) ≡ 16 =
      length-append high low ∙ (let a = length_number 8 (length bytes / 256) in let b = length_number 8 (length bytes % 256) in omega (arith, a, b)) in
      let number : number_of (high ++ low) ≡ length bytes =
      number_append high low
      ∙ (λ i. back 8 (length bytes / 256) (omega (arith, size)) i * 2 ^ length_number 8 (length bytes % 256) i + back 8 (length bytes % 256) (omega (arith)) i)
      ∙ whole (length bytes) in
      ap (option_map (λ n. 2 + n)) (number_found all at 16 (high ++ low) sixteen (omega (arith, long, within)) front ∙ ap (λ (n : ℕ). Some n) number)
      ∙ ap (λ (n : ℕ). Some n) (omega (arith))
    where
      whole : (n : ℕ) → n / 256 * 2 ^ 8 + n % 256 ≡ n
      whole n = omega (arith)
  size_stored texts.Zero bits opens plain short are within there =
      let long : length bits ≡ 8 * (length bytes + 1) = ap length are ∙ length_bits (bytes ++ 0 ∷ []) ∙ ap (λ (n : ℕ). 8 * n) (length-append bytes (0 ∷ [])) in
      let found = zero_there back all at bytes plain.0 plain.1 (omega (arith, long, within)) (ap (λ (n : ℕ). take n (drop at all)) (sym long) ∙ there ∙ are) in
      ap (option_and_then (λ bytes. option_map (λ front. length front + 1) (up_to_zero bytes))) found.1
      ∙ ap (option_map (λ front. length front + 1)) found.2
      ∙ ap (λ (n : ℕ). Some n) (sym (length-append bytes (0 ∷ [])))

-- Reading it.

bytes_found : ((bytes : List ℕ) → ((k : ℕ) → slice_index bytes k < 256) → bytes_of (bits_of bytes) ≡ bytes) → (all : List Bool) (at : ℕ) (bytes : List ℕ) (bits : List Bool)
    → AreBytes bytes → bits ≡ bits_of bytes → at + length bits ≤ length all → take (length bits) (drop at all) ≡ bits → bytes_at all at (length bytes) ≡ Some bytes
bytes_found again all at bytes bits small are within there =
    let long : length bits ≡ 8 * length bytes = ap length are ∙ length_bits bytes in
    ap (option_map bytes_of) (bits_there all at (8 * length bytes) (omega (arith, long, within)))
    ∙ ap (λ (bs : List Bool). Some (bytes_of bs)) (ap (λ (n : ℕ). take n (drop at all)) (sym long) ∙ there ∙ are)
    ∙ ap (λ (bs : List ℕ). Some bs) (again bytes (each_small bytes small))

-- the size's expression and those of the formats have known names
module _ (met known : Names) where
  size_known : (size : Option Term) (others : List Term) → list_all (all_known met known) (option_to_list size ++ others) ≡ true → (t : Term) → size ≡ Some t → all_known met known t ≡ true
  size_known None others reads t is = absurd cc
  size_known (Some size) others reads t is =
      subst (λ (t : Term). all_known met known t ≡ true) (some_is size t is) (both_true (all_known met known size) (list_all (all_known met known) others) reads).0

  formats_known : (size : Option Term) (others : List Term) → list_all (all_known met known) (option_to_list size ++ others) ≡ true → list_all (all_known met known) others ≡ true
  formats_known None others reads = reads
  formats_known (Some size) others reads = (both_true (all_known met known size) (list_all (all_known met known) others) reads).1

-- what is known is enough for a text whose names are known
module _ (facts : Facts) (seen : ℤ → ℤ → Option ℤ) (met known : Names) (leads : (key : Key) → met key ≡ true → known key ≡ true) (some whole : Environment) (covers : Covers known some) (part : IsKnownOf some whole) where
  size_is_read : (form : TextForm) (term : Option Term) (size : Option ℕ) → ((t : Term) → term ≡ Some t → all_known met known t ≡ true)
      → IsSize form (see facts seen whole) term size → size_read form term (see facts seen some) ≡ Some size
  size_is_read form None size is_known is = ap (λ (o : Option ℕ). Some o) (sym is)
  size_is_read form (Some term) size is_known (n, valued, may, is) =
      let now : value_of term (see facts seen some) ≡ Ok (pos n) = value_same facts seen met known leads some whole covers part term (is_known term refl) ∙ valued in
      ap (size_found form) now
      ∙ ap (λ (b : Bool). if b then Some (Some n) else None) may
      ∙ ap (λ (o : Option ℕ). Some o) (sym is)

  known_terms : (terms : List Term) → list_all (all_known met known) terms ≡ true → AllByRecursion (Keeps (see facts seen whole) (see facts seen some)) terms
  known_terms [] are = tt
  known_terms (term ∷ terms) are =
      let each = both_true (all_known met known term) (list_all (all_known met known) terms) are in
      ((λ v found. value_same facts seen met known leads some whole covers part term each.0 ∙ found), known_terms terms each.1)

  -- so a text has the bytes that it has there
  bytes_there : (fixed : Option (List PlainPart)) (value : Option Tree) (bytes : List ℕ) → list_all (all_known met known) (fixed_terms fixed) ≡ true
      → spells.AreBytes facts (see facts seen whole) fixed value bytes → spells.AreBytes facts (see facts seen some) fixed value bytes
  bytes_there None value bytes are_known are = are
  bytes_there (Some parts) value bytes are_known (is, fixed) =
      (is, bytes_kept nowhere facts (see facts seen whole) (see facts seen some) parts (known_terms (text_terms parts) are_known) bytes fixed)

  early_same : (later : Names) (late : Late) (terms : List Term) → list_all (all_known met known) terms ≡ true → is_one_late later late terms (see facts seen some) ≡ is_one_late later late terms (see facts seen whole)
  early_same later late [] are = refl
  early_same later late (term ∷ terms) are =
      let each = both_true (all_known met known term) (list_all (all_known met known) terms) are in
      λ i. late_same facts seen met known leads some whole covers part later late term each.0 i || early_same later late terms each.1 i

-- a text is read where its stored form tells its bytes
raw_goes : (facts : Facts) (sight : Sight) (text : PlainText) (size : Option ℕ) (value : Option Tree) (found : List ℕ) → text_read facts sight text.form size text.fixed (stored_text text.form size found) ≡ Some (value, found)
    → stored_value facts sight text size (stored_text text.form size found) ≡ Some value
raw_goes facts sight text size value found is =
    let raw = stored_text text.form size found in
    ap (option_and_then (λ found. if same_bytes (stored_text text.form size found.1) raw then Some found.0 else None)) is
    ∙ ap (λ (b : Bool). if b then Some value else None) (same_again raw)

-- the bytes that are stored there, and those that tell them
record TextTold (here : Here) (names : Environment) (form : TextForm) (size : Option ℕ) (fixed : Option (List PlainPart)) (value : Option Tree) (at : ℕ) (bits : List Bool) : Type 0 where
  found : List ℕ
  has_size : size_here here names form size fixed at ≡ Some (length (stored_text form size found))
  has_value : text_read here.known (seen_at here names at) form size fixed (stored_text form size found) ≡ Some (value, found)
  are_bytes : AreBytes (stored_text form size found)
  are_bits : bits ≡ bits_of (stored_text form size found)

module _ (read : (width number : ℕ) → number_of (number_bits width number) ≡ number % 2 ^ width) (written : (bits : List Bool) → number_bits (length bits) (number_of bits) ≡ bits)
    (again : (bytes : List ℕ) → ((k : ℕ) → slice_index bytes k < 256) → bytes_of (bits_of bytes) ≡ bytes)
    (back : (width number : ℕ) → number < 2 ^ width → number_of (number_bits width number) ≡ number) (facts : Facts) (all : List Bool) (env : Environment) (outermost : Bool) (field : PlainField) (rest : PlainBody)
    (passed : Passed) (names : Environment) (knows : Knows passed names) (part : IsKnownOf names env) (at after : ℕ) (ahead : Ahead all field rest env at after) (end : EndsAt outermost all rest after) where
  abbrev here : Here
  here = here_at facts all field rest at passed.met

  -- an open text ends where it is found to
  opens_so : (form : TextForm) (bytes : List ℕ) (bits : List Bool) → text_ends outermost rest passed.told form None ≡ true → bits ≡ bits_of (stored_text form None bytes) → after ≡ at + length bits
      → form ≡ texts.Open → open_size (length all) (told_label (length all) rest names) (fixed_widths rest) at ≡ Some (length bytes)
  opens_so texts.Open bytes bits reads are ends is =
      let long : length bits ≡ 8 * length bytes = ap length are ∙ length_bits bytes in
      open_found all rest outermost passed names env knows part ahead.lies at (length bytes) after (ends ∙ ap (λ (n : ℕ). at + n) long) (λ told. ahead.stops names part.part told) end reads
  opens_so texts.Pascal bytes bits reads are ends is = absurd cc
  opens_so texts.WordLong bytes bits reads are ends is = absurd cc
  opens_so texts.Zero bytes bits reads are ends is = absurd cc

  -- by whether the text is fixed, and whether it has a size
  text_told : (form : TextForm) (term : Option Term) (size : Option ℕ) (fixed : Option (List PlainPart)) (value : Option Tree) (bytes : List ℕ) (bits : List Bool)
      → text_ends outermost rest passed.told form term ≡ true → IsSize form (sees facts all env at) term size → spells.AreBytes facts (seen_at here names at) fixed value bytes
      → (value ≡ Some (trees.Text bytes) → IsPlainText form size bytes) → is_too_long form size (length bytes) ≡ false → bits ≡ bits_of (stored_text form size bytes)
      → after ≡ at + length bits → at + length bits ≤ length all → take (length bits) (drop at all) ≡ bits
      → TextTold here names form size fixed value at bits
  text_told form term (Some size) None value bytes bits reads sized is plain short are ends within there = record {
    found = bytes;
    has_size = ap (λ (n : ℕ). Some n) (sym (length_with_size form size bytes));
    has_value = (λ i. Some (Some (trees.Text (plain_text_is form (Some size) bytes (plain is) i)), plain_text_is form (Some size) bytes (plain is) i)) ∙ (λ i. Some (sym is i, bytes));
    are_bytes = stored_are form (Some size) bytes (plain is).0 (size_may form (sees facts all env at) term (Some size) sized) short;
    are_bits = are;
  }
  text_told form None None None value bytes bits reads sized is plain short are ends within there = record {
    found = bytes;
    has_size = size_stored back all (room here names at) at bytes form bits (opens_so form bytes bits reads are ends) (plain is) short are within there;
    has_value = (λ i. Some (Some (trees.Text (plain_text_is form None bytes (plain is) i)), plain_text_is form None bytes (plain is) i)) ∙ (λ i. Some (sym is i, bytes));
    are_bytes = stored_are form None bytes (plain is).0 tt short;
    are_bits = are;
  }
  text_told form (Some term) None None value bytes bits reads (n, valued, may, is) text_is plain short are ends within there = absurd (let wrong = is in cc)
  text_told form term size (Some parts) value bytes bits reads sized (is, fixed) plain short are ends within there =
      let reduced = map (λ byte. byte % 256) bytes in
      let short_too : is_too_long form size (length reduced) ≡ false = ap (is_too_long form size) (length-map bytes (λ byte. byte % 256)) ∙ short in
      let same = stored_bits read written bytes form size in
      let long : length (stored_text form size bytes) ≡ length (stored_text form size reduced) =
      (let a = length_bits (stored_text form size bytes) in let b = length_bits (stored_text form size reduced) in let c : length (bits_of (stored_text form size bytes)) ≡ length (bits_of (stored_text form size reduced)) = ap length same in omega (arith, a, b, c)) in
      record {
        found = reduced;
        has_size = ap (λ (r : Result (List ℕ) Fault). option_map (λ bytes. length (stored_text form size bytes)) (result_ok r)) fixed ∙ ap (λ (n : ℕ). Some n) long;
        has_value = ap fixed_read fixed ∙ (λ i. Some (sym is i, reduced));
        are_bytes = stored_are form size reduced (reduced_are bytes) (size_may form (sees facts all env at) term size sized) short_too;
        are_bits = are ∙ same;
      }

  pub text_steps : (text : PlainText) → passed.near ≡ is_near (field_and field rest) → (value : Option Tree) (bits : List Bool) (late : Late)
      → is_text_read outermost rest passed text ≡ true → IsText text facts (sees facts all env at) value bits → IsPlainValue text (sees facts all env at) value → is_one_late passed.met late (terms_of_text text) (sees facts all env at) ≡ false
      → after ≡ at + length bits → at + length bits ≤ length all → take (length bits) (drop at all) ≡ bits
      → text_step here text names at late ≡ Some (record { value = value; after = at + length bits; names = names; late = late ++ replicate (length bits) false })
  text_steps text near_is value bits late reads it plain early ends within there =
      let each = both_true (text_ends outermost rest passed.told text.form text.size) (list_all (all_known passed.met (is_known passed)) (terms_of_text text)) reads in
      let seen = bits_before all at in
      let near = with_near here names in
      let covers = near_covers facts all field rest env at after passed.met ahead passed names knows near_is in
      let whole = near_part facts all field rest env at after passed.met ahead names part in
      let bytes_are = bytes_there facts seen passed.met (is_known passed) (met_known passed) near env covers whole text.fixed value it.bytes
      (formats_known passed.met (is_known passed) text.size (fixed_terms text.fixed) each.1) it.are_bytes in
      let told = text_told text.form text.size it.size text.fixed value it.bytes bits each.0 it.has_size bytes_are (plain it.size it.bytes it.has_size) it.short it.are_bits ends within there in
      let raw = stored_text text.form it.size told.found in
      let long : length bits ≡ 8 * length raw = ap length told.are_bits ∙ length_bits raw in
      ap (λ (b : Bool). if b then None else early_text here text names at late)
      (early_same facts seen passed.met (is_known passed) (met_known passed) near env covers whole passed.met late (terms_of_text text) each.1 ∙ early)
      ∙ ap (option_and_then (λ size. sized_text here text size names at late))
      (size_is_read facts seen passed.met (is_known passed) (met_known passed) near env covers whole text.form text.size it.size
      (size_known passed.met (is_known passed) text.size (fixed_terms text.fixed) each.1) it.has_size)
      ∙ ap (option_and_then (sized_step here text it.size names at late)) told.has_size
      ∙ ap (option_map (λ value. record { value = value; after = at + 8 * length raw; names = names; late = late_behind late (8 * length raw) false }))
      (ap (option_and_then (stored_value facts (seen_at here names at) text it.size)) (bytes_found again all at raw bits told.are_bytes told.are_bits within there)
      ∙ raw_goes facts (seen_at here names at) text it.size value told.found told.has_value)
      ∙ ap (λ (n : ℕ). Some (record { value = value; after = at + n; names = names; late = late ++ replicate n false })) (sym long)
