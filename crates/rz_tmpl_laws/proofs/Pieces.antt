-- What the field of an entry spells is the piece of the entry.
use Rattle.std.proofs.Common.{◌≡◌, ℕ, zero, suc, ◌+◌, ◌*◌, ◌^◌, ◌<◌, ◌≤◌, pos, Bool, true, false, List, [], ◌∷◌, ◌++◌, length, map, take, drop, replicate, Option, Some, None, refl, sym, ap, subst, ◌∙◌, arith}
use Rattle.std.specs.Prelude.{nat_lt}
use Rattle.std.specs.List.{flat_map, AllByRecursion}
use Rattle.std.specs.Option.{option_to_list}
use Rattle.std.proofs.Math.Seq.{take-add}
use Rattle.std.proofs.lemmas.Bool.Decides.{nat_tests}
use Rattle.std.proofs.lemmas.List.{drop_at, drop-drop, length-append, length-take-le, take_at, take-take}
use Rattle.rz_bits.specs.Bits.{bits_of, number_bits}
use Rattle.rz_bits.specs.BitBuf.{missing, zeros}
use Rattle.rz_bits.proofs.Bytes.{length-bits_of}
use Rattle.rz_core.proofs.Lists.{all_append}
use Rattle.rz_core.specs.Numbers.{be}
use Rattle.rz_core.specs.declared.facts.Facts.{Facts}
use Rattle.rz_expr.specs.Environment.{Environment, Sight}
use Rattle.rz_tmpl.specs.Body.{bits_of as width_of, field_of, free, radix_of, text_of}
use Rattle.rz_tmpl.specs.declared.entry.Plain.{Plain}
use Rattle.rz_tmpl.specs.declared.entry.Plain.TheVariants as plain
use Rattle.rz_tmpl.specs.declared.entry.Size.{Size}
use Rattle.rz_tmpl.specs.declared.entry.Size.TheVariants.{Byte, Long, Word}
use Rattle.rz_tmpl_laws.proofs.Bytes.{be_bits, be_small, bits_there, bytes_there, there_small, zeros_bits, zeros_small, AllSmall, AreSmall}
use Rattle.rz_tmpl_laws.specs.Says.{bytes_of, IsNumberIn, IsPiece, IsThere}
use Rattle.rz_types.proofs.Texts.{each_append}
use Rattle.rz_types_fields.specs.Field.{PlainField, PlainNumber}
use Rattle.rz_types_fields.specs.Passed.{Passed}
use Rattle.rz_types_fields.specs.Piece.{free_integer, Filler, OneNumber, OneText, Piece, Zeros}
use Rattle.rz_types_fields.specs.Sees.{sees, Late}
use Rattle.rz_types_fields.specs.Laid.{text_in, text_of_tree}
use Rattle.rz_types_fields.specs.Spells.{group_in, is_late_size, marks, numbers_of_group, plainly, put, FieldSpells, InOrder, IsPlainText, IsPlainValue, IsStored, IsText, PieceSpells, RowSpells}
use Rattle.rz_types_fields.specs.Stored.{is_too_long, stored_text}
use Rattle.rz_types_fields.specs.declared.field.NumForm.{NumForm}
use Rattle.rz_types_fields.specs.declared.field.NumForm.TheVariants as forms
use Rattle.rz_types_fields.specs.declared.field.Radix.{Radix}
use Rattle.rz_types_fields.specs.declared.field.Radix.TheVariants as radixes
use Rattle.rz_types_fields.specs.declared.field.TextForm.{TextForm}
use Rattle.rz_types_fields.specs.declared.field.TextForm.TheVariants as texts
use Rattle.rz_types_fields.specs.declared.tree.Tree.{out-Tree, Tree}
use Rattle.rz_types_fields.specs.declared.tree.Tree.TheOpen.{Tree-F}
use Rattle.rz_types_fields.specs.declared.tree.Tree.TheVariants as trees

-- One piece.

one_value : (value other : Option Tree) (rest : List Tree) → option_to_list value ≡ put other rest → rest ≡ [] → other ≡ value
one_value value other rest is none = by value other (is ∙ ap (put other) none)
  where
    by : (value other : Option Tree) → option_to_list value ≡ put other [] → other ≡ value
    by None None is = refl
    by None (Some other) is = absurd cc
    by (Some value) None is = absurd cc
    by (Some value) (Some other) is = let same : other ≡ value = cc in ap (λ (t : Tree). Some t) same

module _ (Spells : Passed → Piece → Option Tree → RowSpells) (passed : Passed) (piece : Piece) where
  pub only : (value : Option Tree) (at : ℕ) (late : Late) (after : ℕ) (late_after : Late)
      → InOrder Spells passed (piece ∷ []) (option_to_list value) at late after late_after → Spells passed piece value at late after late_after
  only value at late after late_after (other, rest, mid, late_mid, whole, is, (empty, ends, marked)) =
      subst (λ (v : Option Tree). Spells passed piece v at late after late_after) (one_value value other rest whole empty)
      (subst (λ (l : Late). Spells passed piece other at late after l) (sym marked) (subst (λ (m : ℕ). Spells passed piece other at late m late_mid) (sym ends) is))

  pub just : (value : Option Tree) (at : ℕ) (late : Late) (after : ℕ) (late_after : Late) → Spells passed piece value at late after late_after
      → InOrder Spells passed (piece ∷ []) (option_to_list value) at late after late_after
  just None at late after late_after is = (None, [], after, late_after, refl, is, (refl, refl, refl))
  just (Some value) at late after late_after is = (Some value, [], after, late_after, refl, is, (refl, refl, refl))

-- Places.

-- a place among the bits that is one of these bytes'
abbrev pub Ends : List ℕ → ℕ → List ℕ → ℕ → Type 0
Ends bytes place own after = (next : ℕ) × (after ≡ 8 * next) × IsThere bytes place own next

there_both : (bytes : List ℕ) (place : ℕ) (front back : List ℕ) (mid next : ℕ) → IsThere bytes place front mid → IsThere bytes mid back next → IsThere bytes place (front ++ back) next
there_both bytes place front back mid next one other =
    let long = length-append front back in
    let middle = one.ends in
    let ends = other.ends in
    record {
      there = ap (λ (n : ℕ). take n (drop place bytes)) long ∙ take-add (length front) (length back) (drop place bytes)
          ∙ (λ i. one.there i ++ take (length back) (drop-drop (length front) place bytes i))
          ∙ ap (λ (p : ℕ). front ++ take (length back) (drop p bytes)) (omega (arith, middle)) ∙ ap (λ (b : List ℕ). front ++ b) other.there;
      ends = omega (arith, long, middle, ends);
    }

there_halves : (bytes : List ℕ) (place : ℕ) (front back : List ℕ) (next : ℕ) → IsThere bytes place (front ++ back) next
    → IsThere bytes place front (place + length front) × IsThere bytes (place + length front) back next
there_halves bytes place front back next there =
    let long = length-append front back in
    let ends = there.ends in
    let whole : take (length front) (drop place bytes) ++ take (length back) (drop (place + length front) bytes) ≡ front ++ back =
    ap (λ (b : List ℕ). take (length front) (drop place bytes) ++ take (length back) b) (sym (drop-drop (length front) place bytes))
    ∙ sym (take-add (length front) (length back) (drop place bytes)) ∙ ap (λ (n : ℕ). take n (drop place bytes)) (sym long) ∙ there.there in
    let size : length (take (length front) (drop place bytes)) ≡ length front =
    sym (ap length (take-take (length front) (length front + length back) (drop place bytes) (omega arith)))
    ∙ ap (λ (b : List ℕ). length (take (length front) b)) (ap (λ (n : ℕ). take n (drop place bytes)) (sym long) ∙ there.there) ∙ length-take-le (length front) (front ++ back) (omega (arith, long)) in (
      record { there = sym (take_at (take (length front) (drop place bytes)) (take (length back) (drop (place + length front) bytes)) (length front) size) ∙ ap (take (length front)) whole ∙ take_at front back (length front) refl; ends = refl },
      record {
        there = sym (drop_at (take (length front) (drop place bytes)) (take (length back) (drop (place + length front) bytes)) (length front) size) ∙ ap (drop (length front)) whole ∙ drop_at front back (length front) refl;
        ends = omega (arith, long, ends);
      },
    )

gap : (size : Size) (place : ℕ) → missing (width_of size) (8 * place) ≡ 8 * missing (bytes_of size) place
gap Byte place = omega arith
gap Word place = omega arith
gap Long place = omega arith

-- texts that are one have the same bytes
same_text : (one other : List ℕ) → ◌≡◌ {A = Option Tree} (Some (trees.Text one)) (Some (trees.Text other)) → one ≡ other
same_text one other is = sym (ap text_of_tree (trees.outs-Text one)) ∙ ap text_in is ∙ ap text_of_tree (trees.outs-Text other)

-- a text without a size is plain by its bytes
plain_of : (form : TextForm) (hex : Bool) (sight : Sight) (value : Option Tree) (own : List ℕ) → value ≡ Some (trees.Text own) → IsPlainText form None own
    → IsPlainValue (record { form = form; hex = hex; size = None; fixed = None }) sight value
plain_of form hex sight value own is plain size bytes sized is_text =
    subst (λ (o : Option ℕ). IsPlainText form o bytes) (sym sized) (subst (IsPlainText form None) (same_text own bytes (sym is ∙ is_text)) plain)

module _ (known : Facts) (bytes : List ℕ) (small : AreSmall bytes) where
  abbrev Stands : Environment → Passed → Piece → Option Tree → RowSpells
  Stands names passed piece value = PieceSpells plainly known (bits_of bytes) names passed piece value

  abbrev Field : PlainField → Environment → Passed → Option Tree → RowSpells
  Field field names passed value = FieldSpells plainly known (bits_of bytes) field names passed value

  -- From bits.

  pub from_bits : (names : Environment) (passed : Passed) (piece : Piece) (value : Option Tree) (place : ℕ) (late : Late) (after : ℕ) (late_after : Late)
      → (is : Stands names passed piece value (8 * place) late after late_after) → (own : List ℕ) → is.bits ≡ bits_of own → AllSmall own → Ends bytes place own after
  from_bits names passed piece value place late after late_after is own same all =
      let long : length is.bits ≡ 8 * length own = ap length same ∙ length-bits_of own in
      let ends = is.ends in (
        place + length own,
        omega (arith, ends, long),
        record {
          there = bytes_there bytes place own small all (subst (λ (b : List Bool). take (length b) (drop (8 * place) (bits_of bytes)) ≡ b) same is.there);
          ends = refl;
        },
      )

  pub to_bits : (names : Environment) (passed : Passed) (piece : Piece) (value : Option Tree) (place : ℕ) (late : Late) (own : List ℕ) (next : ℕ)
      → IsStored piece known (8 * place) (sees known (bits_of bytes) names (8 * place)) value (bits_of own)
      → plainly passed piece (sees known (bits_of bytes) names (8 * place)) value → is_late_size passed.met late piece (sees known (bits_of bytes) names (8 * place)) ≡ false → IsThere bytes place own next → next ≤ 16777212
      → (late_after : Late) × Stands names passed piece value (8 * place) late (8 * next) late_after
  to_bits names passed piece value place late own next stored manner early there short =
      let long = length-bits_of own in
      let ends = there.ends in (
        late ++ marks passed.met late piece (sees known (bits_of bytes) names (8 * place)) (length (bits_of own)),
        record {
          bits = bits_of own;
          stored = stored;
          manner = manner;
          early = early;
          there = bits_there bytes place own there.there;
          ends = omega (arith, long, ends);
          short = omega (arith, short);
          marked = refl;
        },
      )

  -- Numbers.

  module _ (form : NumForm) (radix : Radix) (width count : ℕ) (eight : width ≡ 8 * count) (power : 2 ^ width ≡ 256 ^ count) where
    abbrev number : PlainNumber
    number = record { form = form; width = pos width; unsigned = false; radix = radix; symbols = []; fixed = None; key = false }

    number_stands : (names : Environment) (passed : Passed) (value : Option Tree) (place : ℕ) (late : Late) (after : ℕ) (late_after : Late)
        → Stands names passed (OneNumber number) value (8 * place) late after late_after → (piece : List ℕ) × IsNumberIn count value piece × Ends bytes place piece after
    number_stands names passed value place late after late_after is =
        let n : ℕ = is.stored.0 in
        let bits : is.bits ≡ bits_of (be count n) = is.stored.3 ∙ ap (λ (w : ℕ). number_bits w n) eight ∙ sym (be_bits count n) in
        (be count n, (n, is.stored.1, subst (λ (p : ℕ). n < p) power is.stored.2, refl), from_bits names passed (OneNumber number) value place late after late_after is (be count n) bits (be_small count n))

    stands_number : (names : Environment) (passed : Passed) (value : Option Tree) (place : ℕ) (late : Late) (piece : List ℕ) (next : ℕ) → IsNumberIn count value piece → IsThere bytes place piece next
        → next ≤ 16777212 → (late_after : Late) × Stands names passed (OneNumber number) value (8 * place) late (8 * next) late_after
    stands_number names passed value place late piece next (n, is, less, same) there short =
        to_bits names passed (OneNumber number) value place late piece next
        (n, is, subst (λ (p : ℕ). n < p) (sym power) less, ap bits_of same ∙ be_bits count n ∙ ap (λ (w : ℕ). number_bits w n) (sym eight)) tt refl there short

    from_number : (names : Environment) (passed : Passed) (value : Option Tree) (place : ℕ) (late : Late) (after : ℕ) (late_after : Late)
        → Field (free form (pos width) radix) names passed value (8 * place) late after late_after → (piece : List ℕ) × IsNumberIn count value piece × Ends bytes place piece after
    from_number names passed value place late after late_after (grouped, order) =
        number_stands names passed value place late after late_after (only (Stands names) passed (OneNumber number) value (8 * place) late after late_after order)

    to_number : (names : Environment) (passed : Passed) (value : Option Tree) (place : ℕ) (late : Late) (piece : List ℕ) (next : ℕ) → IsNumberIn count value piece → IsThere bytes place piece next
        → next ≤ 16777212 → (late_after : Late) × Field (free form (pos width) radix) names passed value (8 * place) late (8 * next) late_after
    to_number names passed value place late piece next is there short =
        let it = stands_number names passed value place late piece next is there short in
        (it.0, (tt, just (Stands names) passed (OneNumber number) value (8 * place) late (8 * next) it.0 it.1))

  -- Rectangles.

  abbrev numbers_value : Tree-F Tree → ℕ
  numbers_value (Tree-F.Number n) = n
  numbers_value value = 0

  abbrev first_number : List Tree → ℕ
  first_number [] = 0
  first_number (value ∷ values) = numbers_value (out-Tree value)

  same_number : (m n : ℕ) (values others : List Tree) → trees.Number m ∷ values ≡ trees.Number n ∷ others → m ≡ n
  same_number m n values others is = sym (ap numbers_value (trees.outs-Number m)) ∙ ap first_number is ∙ ap numbers_value (trees.outs-Number n)

  nothing_is : (value : Tree) (values : List Tree) → [] ≡ value ∷ values → ⊥
  nothing_is value values is = cc

  abbrev Numbers : Environment → Passed → ℕ → List Tree → RowSpells
  Numbers names passed count row = InOrder (Stands names) passed (replicate count free_integer) row

  integer_stands : (names : Environment) (passed : Passed) (value : Option Tree) (place : ℕ) (late : Late) (after : ℕ) (late_after : Late)
      → Stands names passed free_integer value (8 * place) late after late_after → (piece : List ℕ) × IsNumberIn 2 value piece × Ends bytes place piece after
  integer_stands names passed value place late after late_after is = number_stands forms.Integer radixes.Plain 16 2 refl refl names passed value place late after late_after is

  from_numbers : (count : ℕ) (names : Environment) (passed : Passed) (numbers : List ℕ) (row : List Tree) (place : ℕ) (late : Late) (after : ℕ) (late_after : Late)
      → map trees.Number numbers ≡ row → Numbers names passed count row (8 * place) late after late_after
      → (length numbers ≡ count) × AllByRecursion (λ n. n < 65536) numbers × Ends bytes place (flat_map (be 2) numbers) after
  from_numbers zero names passed [] row place late after late_after same (empty, ends, marked) = (refl, tt, (place, ends, record { there = refl; ends = omega arith }))
  from_numbers zero names passed (n ∷ numbers) row place late after late_after same (empty, ends, marked) = absurd (nothing_is (trees.Number n) (map trees.Number numbers) (sym (same ∙ empty)))
  from_numbers (suc count) names passed [] row place late after late_after same (value, others, mid, late_mid, whole, is, rest) =
      absurd (nothing_is (trees.Number is.stored.0) others (same ∙ whole ∙ ap (λ (o : Option Tree). put o others) is.stored.1))
  from_numbers (suc count) names passed (m ∷ numbers) row place late after late_after same (value, others, mid, late_mid, whole, is, rest) =
      let one = integer_stands names passed value place late mid late_mid is in
      let n : ℕ = one.1.0 in
      let all : trees.Number m ∷ map trees.Number numbers ≡ trees.Number n ∷ others = same ∙ whole ∙ ap (λ (o : Option Tree). put o others) one.1.1 in
      let equal : n ≡ m = sym (same_number m n (map trees.Number numbers) others all) in
      let next : ℕ = one.2.0 in
      let more = from_numbers count names passed numbers others next late_mid after late_after (ap (drop 1) all)
      (subst (λ (at : ℕ). Numbers names passed count others at late_mid after late_after) one.2.1 rest) in (
        ap suc more.0,
        (subst (λ (k : ℕ). k < 65536) equal one.1.2, more.1),
        (
          more.2.0,
          more.2.1,
          there_both bytes place (be 2 m) (flat_map (be 2) numbers) next more.2.0
              (subst (λ (own : List ℕ). IsThere bytes place own next) (one.1.3 ∙ ap (be 2) equal) one.2.2) more.2.2,
        ),
      )

  to_numbers : (names : Environment) (passed : Passed) (numbers : List ℕ) (place : ℕ) (late : Late) (next : ℕ) → AllByRecursion (λ n. n < 65536) numbers
      → IsThere bytes place (flat_map (be 2) numbers) next → next ≤ 16777212
      → (late_after : Late) × Numbers names passed (length numbers) (map trees.Number numbers) (8 * place) late (8 * next) late_after
  to_numbers names passed [] place late next are there short = let ends = there.ends in (late, (refl, omega (arith, ends), refl))
  to_numbers names passed (n ∷ numbers) place late next are there short =
      let halves = there_halves bytes place (be 2 n) (flat_map (be 2) numbers) next there in
      let within = halves.1.ends in
      let one = stands_number forms.Integer radixes.Plain 16 2 refl refl names passed (Some (trees.Number n)) place late (be 2 n) (place + length (be 2 n)) (n, refl, are.0, refl) halves.0
      (omega (arith, within, short)) in
      let more = to_numbers names passed numbers (place + length (be 2 n)) one.0 next are.1 halves.1 short in
      (more.0, (Some (trees.Number n), map trees.Number numbers, 8 * (place + length (be 2 n)), one.0, refl, one.1, more.1))

  from_rectangle : (names : Environment) (passed : Passed) (value : Option Tree) (place : ℕ) (late : Late) (after : ℕ) (late_after : Late)
      → Field (field_of plain.Rectangle) names passed value (8 * place) late after late_after
      → (piece : List ℕ) × IsPiece plain.Rectangle place value piece × Ends bytes place piece after
  from_rectangle names passed value place late after late_after ((numbers, is), order) =
      let group : group_in value ≡ numbers = ap group_in is ∙ ap numbers_of_group (trees.outs-Group numbers) in
      let are = from_numbers 4 names passed numbers (map trees.Number (group_in value)) place late after late_after (ap (λ (ns : List ℕ). map trees.Number ns) (sym group)) order in
      (flat_map (be 2) numbers, (numbers, is, are.0, are.1, refl), are.2)

  to_rectangle : (names : Environment) (passed : Passed) (value : Option Tree) (place : ℕ) (late : Late) (piece : List ℕ) (next : ℕ) → IsPiece plain.Rectangle place value piece
      → IsThere bytes place piece next → next ≤ 16777212 → (late_after : Late) × Field (field_of plain.Rectangle) names passed value (8 * place) late (8 * next) late_after
  to_rectangle names passed value place late piece next (numbers, is, four, are, same) there short =
      let group : group_in value ≡ numbers = ap group_in is ∙ ap numbers_of_group (trees.outs-Group numbers) in
      let it = to_numbers names passed numbers place late next are (subst (λ (own : List ℕ). IsThere bytes place own next) same there) short in (
        it.0,
        (
          (numbers, is),
          subst (λ (ns : List ℕ). Numbers names passed 4 (map trees.Number ns) (8 * place) late (8 * next) it.0) (sym group)
              (subst (λ (k : ℕ). Numbers names passed k (map trees.Number numbers) (8 * place) late (8 * next) it.0) four it.1),
        ),
      )

  -- Zeros.

  from_blank : (names : Environment) (passed : Passed) (piece : Piece) (value : Option Tree) (place : ℕ) (late : Late) (after : ℕ) (late_after : Late) (count bits : ℕ)
      → (is : Stands names passed piece value (8 * place) late after late_after) → is.bits ≡ zeros bits → bits ≡ 8 * count → Ends bytes place (replicate count 0) after
  from_blank names passed piece value place late after late_after count bits is are same =
      from_bits names passed piece value place late after late_after is (replicate count 0) (are ∙ ap zeros same ∙ sym (zeros_bits count)) (zeros_small count)

  from_zeros : (size : Size) (unit : ℕ) → unit ≡ 8 * bytes_of size → (names : Environment) (passed : Passed) (value : Option Tree) (place : ℕ) (late : Late) (after : ℕ) (late_after : Late)
      → InOrder (Stands names) passed (Zeros unit ∷ []) (option_to_list value) (8 * place) late after late_after
      → (piece : List ℕ) × IsPiece (plain.Zeros size) place value piece × Ends bytes place piece after
  from_zeros size unit same names passed value place late after late_after order =
      let is = only (Stands names) passed (Zeros unit) value (8 * place) late after late_after order in
      (replicate (bytes_of size) 0, (is.stored.0, refl), from_blank names passed (Zeros unit) value place late after late_after (bytes_of size) unit is is.stored.1 same)

  to_zeros : (size : Size) (unit : ℕ) → unit ≡ 8 * bytes_of size → (names : Environment) (passed : Passed) (value : Option Tree) (place : ℕ) (late : Late) (piece : List ℕ) (next : ℕ)
      → IsPiece (plain.Zeros size) place value piece → IsThere bytes place piece next → next ≤ 16777212
      → (late_after : Late) × InOrder (Stands names) passed (Zeros unit ∷ []) (option_to_list value) (8 * place) late (8 * next) late_after
  to_zeros size unit same names passed value place late piece next (is, own) there short =
      let it = to_bits names passed (Zeros unit) value place late piece next (is, ap bits_of own ∙ zeros_bits (bytes_of size) ∙ ap zeros (sym same)) tt refl there short in
      (it.0, just (Stands names) passed (Zeros unit) value (8 * place) late (8 * next) it.0 it.1)

  from_aligned : (size : Size) (names : Environment) (passed : Passed) (value : Option Tree) (place : ℕ) (late : Late) (after : ℕ) (late_after : Late)
      → Field (field_of (plain.Aligned size)) names passed value (8 * place) late after late_after
      → (piece : List ℕ) × IsPiece (plain.Aligned size) place value piece × Ends bytes place piece after
  from_aligned size names passed value place late after late_after (grouped, order) =
      let is = only (Stands names) passed (Filler (width_of size)) value (8 * place) late after late_after order in
      let count = missing (bytes_of size) place in (
        replicate count 0,
        (is.stored.0, refl),
        from_blank names passed (Filler (width_of size)) value place late after late_after count (missing (width_of size) (8 * place)) is is.stored.1 (gap size place),
      )

  to_aligned : (size : Size) (names : Environment) (passed : Passed) (value : Option Tree) (place : ℕ) (late : Late) (piece : List ℕ) (next : ℕ)
      → IsPiece (plain.Aligned size) place value piece → IsThere bytes place piece next → next ≤ 16777212
      → (late_after : Late) × Field (field_of (plain.Aligned size)) names passed value (8 * place) late (8 * next) late_after
  to_aligned size names passed value place late piece next (is, own) there short =
      let it = to_bits names passed (Filler (width_of size)) value place late piece next
      (is, ap bits_of own ∙ zeros_bits (missing (bytes_of size) place) ∙ ap zeros (sym (gap size place))) tt refl there short in
      (it.0, (tt, just (Stands names) passed (Filler (width_of size)) value (8 * place) late (8 * next) it.0 it.1))

  -- Texts.

  abbrev text : TextForm → (hex : Bool) → Piece
  text form hex = OneText (record { form = form; hex = hex; size = None; fixed = None })

  -- the stored form of a text, which isn't too long, is its own bytes
  from_text : (form : TextForm) (hex : Bool) (names : Environment) (passed : Passed) (value : Option Tree) (place : ℕ) (late : Late) (after : ℕ) (late_after : Late)
      → (is : Stands names passed (text form hex) value (8 * place) late after late_after) → AllSmall (stored_text form None is.stored.bytes)
      → Ends bytes place (stored_text form None is.stored.bytes) after
  from_text form hex names passed value place late after late_after is all =
      from_bits names passed (text form hex) value place late after late_after is (stored_text form None is.stored.bytes)
      (is.stored.are_bits ∙ ap (λ (size : Option ℕ). bits_of (stored_text form size is.stored.bytes)) is.stored.has_size) all

  not_long : (count : ℕ) → nat_lt 255 count ≡ false → count < 256
  not_long count is = grind (arith, nat_tests, is)

  from_pascal : (names : Environment) (passed : Passed) (value : Option Tree) (place : ℕ) (late : Late) (after : ℕ) (late_after : Late)
      → Field (field_of plain.Pascal) names passed value (8 * place) late after late_after → (piece : List ℕ) × IsPiece plain.Pascal place value piece × Ends bytes place piece after
  from_pascal names passed value place late after late_after (grouped, order) =
      let is = only (Stands names) passed (text texts.Pascal false) value (8 * place) late after late_after order in
      let own : List ℕ = is.stored.bytes in
      let few : length own < 256 = not_long (length own) (sym (ap (λ (size : Option ℕ). is_too_long texts.Pascal size (length own)) is.stored.has_size) ∙ is.stored.short) in
      (length own ∷ own, (own, is.stored.are_bytes, few, refl), from_text texts.Pascal false names passed value place late after late_after is (few, (is.manner is.stored.size is.stored.bytes is.stored.has_size is.stored.are_bytes).0))

  from_ended : (names : Environment) (passed : Passed) (value : Option Tree) (place : ℕ) (late : Late) (after : ℕ) (late_after : Late)
      → Field (field_of plain.ZeroEnded) names passed value (8 * place) late after late_after → (piece : List ℕ) × IsPiece plain.ZeroEnded place value piece × Ends bytes place piece after
  from_ended names passed value place late after late_after (grouped, order) =
      let is = only (Stands names) passed (text texts.Zero false) value (8 * place) late after late_after order in
      let own : List ℕ = is.stored.bytes in (
        own ++ 0 ∷ [],
        (own, is.stored.are_bytes, (is.manner is.stored.size is.stored.bytes is.stored.has_size is.stored.are_bytes).1, refl),
        from_text texts.Zero false names passed value place late after late_after is (all_append (λ byte. byte < 256) own (0 ∷ []) (is.manner is.stored.size is.stored.bytes is.stored.has_size is.stored.are_bytes).0 (omega arith, tt)),
      )

  from_rest : (names : Environment) (passed : Passed) (value : Option Tree) (place : ℕ) (late : Late) (after : ℕ) (late_after : Late)
      → Field (field_of plain.Rest) names passed value (8 * place) late after late_after → (piece : List ℕ) × IsPiece plain.Rest place value piece × Ends bytes place piece after
  from_rest names passed value place late after late_after (grouped, order) =
      let is = only (Stands names) passed (text texts.Open true) value (8 * place) late after late_after order in
      (is.stored.bytes, is.stored.are_bytes, from_text texts.Open true names passed value place late after late_after is (is.manner is.stored.size is.stored.bytes is.stored.has_size is.stored.are_bytes).0)

  there_all : (place : ℕ) (piece : List ℕ) (next : ℕ) → IsThere bytes place piece next → AllSmall piece
  there_all place piece next there = subst AllSmall there.there (there_small (length piece) place bytes small)

  not_over : (count : ℕ) → count < 256 → nat_lt 255 count ≡ false
  not_over count few = grind (arith, nat_tests, few)

  to_text : (form : TextForm) (hex : Bool) (names : Environment) (passed : Passed) (value : Option Tree) (place : ℕ) (late : Late) (own : List ℕ) (next : ℕ)
      → IsText (record { form = form; hex = hex; size = None; fixed = None }) known (sees known (bits_of bytes) names (8 * place)) value (bits_of own)
      → IsPlainValue (record { form = form; hex = hex; size = None; fixed = None }) (sees known (bits_of bytes) names (8 * place)) value
      → IsThere bytes place own next → next ≤ 16777212 → (late_after : Late) × Field (text_of form hex) names passed value (8 * place) late (8 * next) late_after
  to_text form hex names passed value place late own next is plain there short =
      let it = to_bits names passed (text form hex) value place late own next is plain refl there short in
      (it.0, (tt, just (Stands names) passed (text form hex) value (8 * place) late (8 * next) it.0 it.1))

  to_pascal : (names : Environment) (passed : Passed) (value : Option Tree) (place : ℕ) (late : Late) (piece : List ℕ) (next : ℕ) → IsPiece plain.Pascal place value piece
      → IsThere bytes place piece next → next ≤ 16777212 → (late_after : Late) × Field (field_of plain.Pascal) names passed value (8 * place) late (8 * next) late_after
  to_pascal names passed value place late piece next (own, is, few, same) there short =
      let all : AllSmall (length own ∷ own) = subst AllSmall same (there_all place piece next there) in
      to_text texts.Pascal false names passed value place late piece next
      (record { size = None; has_size = refl; bytes = own; are_bytes = is; short = not_over (length own) few; are_bits = ap bits_of same })
      (plain_of texts.Pascal false (sees known (bits_of bytes) names (8 * place)) value own is (all.1, tt, tt, tt)) there short

  to_ended : (names : Environment) (passed : Passed) (value : Option Tree) (place : ℕ) (late : Late) (piece : List ℕ) (next : ℕ) → IsPiece plain.ZeroEnded place value piece
      → IsThere bytes place piece next → next ≤ 16777212 → (late_after : Late) × Field (field_of plain.ZeroEnded) names passed value (8 * place) late (8 * next) late_after
  to_ended names passed value place late piece next (own, is, nonzero, same) there short =
      let all = each_append (λ byte. byte < 256) own (0 ∷ []) (subst AllSmall same (there_all place piece next there)) in
      to_text texts.Zero false names passed value place late piece next
      (record { size = None; has_size = refl; bytes = own; are_bytes = is; short = refl; are_bits = ap bits_of same })
      (plain_of texts.Zero false (sees known (bits_of bytes) names (8 * place)) value own is (all.0, nonzero, tt, tt)) there short

  to_rest : (names : Environment) (passed : Passed) (value : Option Tree) (place : ℕ) (late : Late) (piece : List ℕ) (next : ℕ) → IsPiece plain.Rest place value piece
      → IsThere bytes place piece next → next ≤ 16777212 → (late_after : Late) × Field (field_of plain.Rest) names passed value (8 * place) late (8 * next) late_after
  to_rest names passed value place late piece next is there short =
      to_text texts.Open true names passed value place late piece next
      (record { size = None; has_size = refl; bytes = piece; are_bytes = is; short = refl; are_bits = refl })
      (plain_of texts.Open true (sees known (bits_of bytes) names (8 * place)) value piece is (there_all place piece next there, tt, tt, tt)) there short

  -- Entries.

  pub piece_of : (entry : Plain) (names : Environment) (passed : Passed) (value : Option Tree) (place : ℕ) (late : Late) (after : ℕ) (late_after : Late)
      → Field (field_of entry) names passed value (8 * place) late after late_after → (piece : List ℕ) × IsPiece entry place value piece × Ends bytes place piece after
  piece_of (plain.Number Byte hex) names passed value place late after late_after is = from_number forms.Byte (radix_of hex) 8 1 refl refl names passed value place late after late_after is
  piece_of (plain.Number Word hex) names passed value place late after late_after is = from_number forms.Integer (radix_of hex) 16 2 refl refl names passed value place late after late_after is
  piece_of (plain.Number Long hex) names passed value place late after late_after is = from_number forms.Longint (radix_of hex) 32 4 refl refl names passed value place late after late_after is
  piece_of plain.Character names passed value place late after late_after is = from_number forms.Char radixes.Plain 8 1 refl refl names passed value place late after late_after is
  piece_of plain.TypeName names passed value place late after late_after is = from_number forms.Longint radixes.Literal 32 4 refl refl names passed value place late after late_after is
  piece_of plain.Rectangle names passed value place late after late_after is = from_rectangle names passed value place late after late_after is
  piece_of (plain.Zeros Byte) names passed value place late after late_after is = from_zeros Byte 8 refl names passed value place late after late_after is.1
  piece_of (plain.Zeros Word) names passed value place late after late_after is = from_zeros Word 16 refl names passed value place late after late_after is.1
  piece_of (plain.Zeros Long) names passed value place late after late_after is = from_zeros Long 32 refl names passed value place late after late_after is.1
  piece_of (plain.Aligned size) names passed value place late after late_after is = from_aligned size names passed value place late after late_after is
  piece_of plain.Pascal names passed value place late after late_after is = from_pascal names passed value place late after late_after is
  piece_of plain.ZeroEnded names passed value place late after late_after is = from_ended names passed value place late after late_after is
  piece_of plain.Rest names passed value place late after late_after is = from_rest names passed value place late after late_after is

  pub of_piece : (entry : Plain) (names : Environment) (passed : Passed) (value : Option Tree) (place : ℕ) (late : Late) (piece : List ℕ) (next : ℕ) → IsPiece entry place value piece
      → IsThere bytes place piece next → next ≤ 16777212 → (late_after : Late) × Field (field_of entry) names passed value (8 * place) late (8 * next) late_after
  of_piece (plain.Number Byte hex) names passed value place late piece next is there short = to_number forms.Byte (radix_of hex) 8 1 refl refl names passed value place late piece next is there short
  of_piece (plain.Number Word hex) names passed value place late piece next is there short = to_number forms.Integer (radix_of hex) 16 2 refl refl names passed value place late piece next is there short
  of_piece (plain.Number Long hex) names passed value place late piece next is there short = to_number forms.Longint (radix_of hex) 32 4 refl refl names passed value place late piece next is there short
  of_piece plain.Character names passed value place late piece next is there short = to_number forms.Char radixes.Plain 8 1 refl refl names passed value place late piece next is there short
  of_piece plain.TypeName names passed value place late piece next is there short = to_number forms.Longint radixes.Literal 32 4 refl refl names passed value place late piece next is there short
  of_piece plain.Rectangle names passed value place late piece next is there short = to_rectangle names passed value place late piece next is there short
  of_piece (plain.Zeros Byte) names passed value place late piece next is there short = let it = to_zeros Byte 8 refl names passed value place late piece next is there short in (it.0, (tt, it.1))
  of_piece (plain.Zeros Word) names passed value place late piece next is there short = let it = to_zeros Word 16 refl names passed value place late piece next is there short in (it.0, (tt, it.1))
  of_piece (plain.Zeros Long) names passed value place late piece next is there short = let it = to_zeros Long 32 refl names passed value place late piece next is there short in (it.0, (tt, it.1))
  of_piece (plain.Aligned size) names passed value place late piece next is there short = to_aligned size names passed value place late piece next is there short
  of_piece plain.Pascal names passed value place late piece next is there short = to_pascal names passed value place late piece next is there short
  of_piece plain.ZeroEnded names passed value place late piece next is there short = to_ended names passed value place late piece next is there short
  of_piece plain.Rest names passed value place late piece next is there short = to_rest names passed value place late piece next is there short
