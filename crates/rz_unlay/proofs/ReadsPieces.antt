-- A field without fields within it is read.
use Rattle.std.proofs.Common.{◌≡◌, ℕ, zero, suc, ◌+◌, ◌*◌, ◌%◌, ◌^◌, ◌<◌, ◌≤◌, ◌==◌, ℤ, pos, Bool, true, false, ◌||◌, List, [], ◌∷◌, ◌++◌, length, map, take, drop, Option, Some, None, refl, sym, ap, ◌∙◌, subst, arith}
use Rattle.std.specs.Prelude.{if◌then◌else◌, nat_abs, option_and_then, option_map, replicate, slice_index}
use Rattle.std.specs.Option.{option_to_list}
use Rattle.std.proofs.lemmas.Bool.Decides.{Decides-int_eq}
use Rattle.std.proofs.lemmas.List.{append-nil}
use Rattle.rz_core.specs.declared.facts.Facts.{Facts}
use Rattle.rz_core.specs.declared.resource.Word.{Word}
use Rattle.rz_expr.specs.Environment.{place_key, Environment, IsPartOf}
use Rattle.rz_expr.specs.Term.{Term}
use Rattle.rz_bits.specs.Bits.{bits_of, bytes_of, number_bits, number_of}
use Rattle.rz_bits.specs.BitBuf.{missing, zeros}
use Rattle.rz_types_fields.specs.declared.tree.Tree.{Tree}
use Rattle.rz_types_fields.specs.declared.tree.Tree.TheVariants as trees
use Rattle.rz_types_fields.specs.Field.{field_and, Align, Fill, Label, Number, PlainBody, PlainField, PlainNumber, PlainPoints, PlainText, Points, Text}
use Rattle.rz_types_fields.specs.Passed.{at_field, behind, behind_piece, behind_pieces, is_near, stands_at, told_by, Names, Passed}
use Rattle.rz_types_fields.specs.Piece.{fixed_integer, free_integer, integers, Filler, OneNumber, OneText, Piece, Place, Zeros}
use Rattle.rz_types_fields.specs.Sees.{Late}
use Rattle.rz_types_fields.specs.Shape.{numbers_of}
use Rattle.rz_types_fields.specs.Spells.{group_in, numbers_of_group, plainly, put, values_for, FieldSpells, InOrder, IsGrouped, PieceSpells}
use Rattle.rz_types.specs.Readable.{are_pieces_read, is_number_read, is_read, is_text_read}
use Rattle.rz_unlay.specs.Pieces.{field_of_pieces, first_of_row, grouped, number_of_value, numbers_of_values, piece_step, pieces_found, with_value, Found}
use Rattle.rz_unlay_pieces.specs.Pieces.{agrees, also, here_at, label_step, zeros_step, Here, Step}
use Rattle.rz_unlay.proofs.Ahead.{Ahead}
use Rattle.rz_unlay.proofs.OnePiece.{single}
use Rattle.rz_unlay.proofs.ReadsBits.{length_zeros, zeros_found}
use Rattle.rz_unlay.proofs.ReadsNumber.{number_steps, Knows, Steps}
use Rattle.rz_unlay.proofs.ReadsTests.{both_true, some_same}
use Rattle.rz_unlay.proofs.ReadsText.{text_steps, EndsAt}
use Rattle.rz_unlay.proofs.Sees.{IsKnownOf}
use Rattle.rz_unlay.proofs.Told.{also_known}

-- One piece.

one_value : (value v : Option Tree) → option_to_list value ≡ put v [] → value ≡ v
one_value None None is = refl
one_value None (Some x) is = absurd cc
one_value (Some x) None is = absurd cc
one_value (Some x) (Some y) is = cc

first_put : (v : Option Tree) → first_of_row (put v []) ≡ v
first_put None = refl
first_put (Some x) = refl

field_one : (here : Here) (piece : Piece) (names more : Environment) (value v : Option Tree) (at after : ℕ) (late late_after : Late)
    → piece_step here piece names at late ≡ Some (record { value = v; after = after; names = more; late = late_after }) → option_to_list value ≡ put v []
    → option_map (λ (f : Found). let it : Step = record { value = first_of_row f.row; after = f.after; names = f.names; late = f.late } in it) (pieces_found here (piece ∷ []) names at late)
    ≡ Some (record { value = value; after = after; names = more; late = late_after })
field_one here piece names more value v at after late late_after is one =
    ap (λ (o : Option Step). option_map (λ (f : Found). let it : Step = record { value = first_of_row f.row; after = f.after; names = f.names; late = f.late } in it)
    (option_and_then (λ step. with_value step.value (pieces_found here [] step.names step.after step.late)) o)) is
    ∙ (λ i. Some (record { value = (first_put v ∙ sym (one_value value v one)) i; after = after; names = more; late = late_after }))

-- Zero bits.

zeros_go : (all : List Bool) (at count after : ℕ) (late late_after : Late) (bits : List Bool) (names : Environment) (value : Option Tree) → value ≡ None → bits ≡ zeros count → after ≡ at + length bits
    → length bits ≡ count → late_after ≡ late ++ replicate (length bits) false → after ≤ length all → take (length bits) (drop at all) ≡ bits
    → zeros_step all count names at late ≡ Some (record { value = value; after = after; names = names; late = late_after })
zeros_go all at count after late late_after bits names value none are ends long marks within there =
    ap (option_and_then (λ n. if n == 0 then Some (record { value = None; after = at + count; names = names; late = late ++ replicate count false }) else None))
    (zeros_found all at count bits are (subst (λ (n : ℕ). n ≤ length all) ends within) there)
    ∙ (λ i. Some (record {
      value = sym none i;
      after = sym (ends ∙ ap (λ (n : ℕ). at + n) long) i;
      names = names;
      late = sym (marks ∙ ap (λ (n : ℕ). late ++ replicate n false) long) i;
    }))

-- Labels.

agrees_so : (o : Option ℤ) (n : ℕ) → ((x : ℤ) → o ≡ Some x → x ≡ pos n) → agrees o (pos n) ≡ true
agrees_so None n same = refl
agrees_so (Some x) n same = (Decides-int_eq x (pos n)).1 (same x refl)

label_goes : (name : Word) (names env : Environment) (at after : ℕ) (late late_after : Late) (value : Option Tree) → IsPartOf names env → env.give (place_key name.bytes) ≡ Some (pos at) → value ≡ None → after ≡ at
    → late_after ≡ late → label_step name names at late ≡ Some (record { value = value; after = after; names = also (place_key name.bytes) (pos at) names; late = late_after })
label_goes name names env at after late late_after value part has none ends marks =
    let key = place_key name.bytes in
    let test = agrees_so (names.give key) at (λ x is. some_same x (pos at) (sym (part.give key x is) ∙ has)) in
    ap (λ (b : Bool). option_map (λ more. record { value = None; after = at; names = more; late = late }) (if b then Some (also key (pos at) names) else None)) test
    ∙ (λ i. Some (record { value = sym none i; after = sym ends i; names = also key (pos at) names; late = sym marks i }))

-- Numbers one after the other.

abbrev AreNumbers : List Piece → Type 0
AreNumbers [] = Unit {0}
AreNumbers (OneNumber number ∷ pieces) = AreNumbers pieces
AreNumbers (OneText text ∷ pieces) = ⊥
AreNumbers (Zeros count ∷ pieces) = ⊥
AreNumbers (Filler unit ∷ pieces) = ⊥
AreNumbers (Place name ∷ pieces) = ⊥

frees_are : (count : ℕ) → AreNumbers (replicate count free_integer)
frees_are zero = tt
frees_are (suc count) = frees_are count

fixed_are : (terms : List Term) → AreNumbers (map fixed_integer terms)
fixed_are [] = tt
fixed_are (term ∷ terms) = fixed_are terms

integers_are : (rect : Bool) (fixed : Option (List Term)) → AreNumbers (integers rect fixed)
integers_are rect None = frees_are (numbers_of rect)
integers_are rect (Some terms) = fixed_are terms

order_grows : (facts : Facts) (all : List Bool) (env : Environment) (passed : Passed) (pieces : List Piece) (values : List Tree) (at : ℕ) (late : Late) (after : ℕ) (late_after : Late)
    → InOrder (PieceSpells plainly facts all env) passed pieces values at late after late_after → at ≤ after
order_grows facts all env passed [] values at late after late_after it = let e = it.1 in omega (arith, e)
order_grows facts all env passed (piece ∷ pieces) values at late after late_after it =
    let rest = order_grows facts all env (behind_piece piece passed) pieces it.1 it.2 it.3 after late_after it.6 in
    let ends = it.5.ends in
    omega (arith, rest, ends)

-- what is met and near after a number is what was so before it
still_met : (fixed : Option Term) (passed : Passed) → (told_by fixed passed).met ≡ passed.met
still_met None passed = refl
still_met (Some term) passed = refl

still_near : (fixed : Option Term) (passed : Passed) → (told_by fixed passed).near ≡ passed.near
still_near None passed = refl
still_near (Some term) passed = refl

-- the reader is after pieces, with their values
record Finds (passed : Passed) (env : Environment) (values : List Tree) (after : ℕ) (late_after : Late) (found : Option Found) : Type 0 where
  names : Environment
  is : found ≡ Some (record { row = values; after = after; names = names; late = late_after })
  knows : Knows passed names
  part : IsKnownOf names env

module _ (back : (width number : ℕ) → number < 2 ^ width → number_of (number_bits width number) ≡ number) (facts : Facts) (all : List Bool) (env : Environment) (outermost : Bool) (field : PlainField) (rest : PlainBody)
    (first end : ℕ) (met : Names) (ahead : Ahead all field rest env first end) where
  abbrev here : Here
  here = here_at facts all field rest first met

  one_number : (number : PlainNumber) (passed : Passed) (names : Environment) (value : Option Tree) (at : ℕ) (late : Late) (after : ℕ) (late_after : Late)
      → passed.met ≡ met → passed.near ≡ is_near (field_and field rest) → Knows passed names → IsKnownOf names env → is_number_read rest passed number.fixed ≡ true
      → PieceSpells plainly facts all env passed (OneNumber number) value at late after late_after → after ≤ length all
      → Steps (behind_piece (OneNumber number) passed) env value after late_after (piece_step here (OneNumber number) names at late)
  one_number number passed names value at late after late_after met_is near_is knows part reads it within =
      let goes = number_steps back facts all field rest env first end met ahead passed names met_is near_is knows part number.form number.width number.fixed value it.bits at late reads it.stored it.manner it.there
      (subst (λ (n : ℕ). n ≤ length all) it.ends within) in
      record {
        names = goes.names;
        is = goes.is ∙ (λ i. Some (record { value = value; after = sym it.ends i; names = goes.names; late = sym it.marked i }));
        knows = goes.knows;
        part = goes.part;
      }

  numbers_go : (pieces : List Piece) (passed : Passed) (names : Environment) (values : List Tree) (at : ℕ) (late : Late) (after : ℕ) (late_after : Late)
      → AreNumbers pieces → passed.met ≡ met → passed.near ≡ is_near (field_and field rest) → Knows passed names → IsKnownOf names env → are_pieces_read outermost rest passed pieces ≡ true
      → InOrder (PieceSpells plainly facts all env) passed pieces values at late after late_after → after ≤ length all
      → Finds (behind_pieces pieces passed) env values after late_after (pieces_found here pieces names at late)
  numbers_go [] passed names values at late after late_after are met_is near_is knows part reads it within = record {
    names = names;
    is = λ i. Some (record { row = sym it.0 i; after = sym it.1 i; names = names; late = sym it.2 i });
    knows = knows;
    part = part;
  }
  numbers_go (OneNumber number ∷ pieces) passed names values at late after late_after are met_is near_is knows part reads it within =
      let test = both_true (is_number_read rest passed number.fixed) (are_pieces_read outermost rest (behind_piece (OneNumber number) passed) pieces) reads in
      let more = order_grows facts all env (behind_piece (OneNumber number) passed) pieces it.1 it.2 it.3 after late_after it.6 in
      let one = one_number number passed names it.0 at late it.2 it.3 met_is near_is knows part test.0 it.5 (omega (arith, more, within)) in
      let others = numbers_go pieces (behind_piece (OneNumber number) passed) one.names it.1 it.2 it.3 after late_after are (still_met number.fixed passed ∙ met_is) (still_near number.fixed passed ∙ near_is) one.knows one.part test.1 it.6 within in
      record {
        names = others.names;
        is = ap (option_and_then (λ step. with_value step.value (pieces_found here pieces step.names step.after step.late))) one.is
            ∙ ap (with_value it.0) others.is
            ∙ (λ i. Some (record { row = sym it.4 i; after = after; names = others.names; late = late_after }));
        knows = others.knows;
        part = others.part;
      }
  numbers_go (OneText text ∷ pieces) passed names values at late after late_after are met_is near_is knows part reads it within = absurd are
  numbers_go (Zeros count ∷ pieces) passed names values at late after late_after are met_is near_is knows part reads it within = absurd are
  numbers_go (Filler unit ∷ pieces) passed names values at late after late_after are met_is near_is knows part reads it within = absurd are
  numbers_go (Place name ∷ pieces) passed names values at late after late_after are met_is near_is knows part reads it within = absurd are

-- A point or a rectangle.

numbers_again : (numbers : List ℕ) → numbers_of_values (map trees.Number numbers) ≡ numbers
numbers_again [] = refl
numbers_again (number ∷ numbers) = λ i. number_of_value (trees.outs-Number number i) ∷ numbers_again numbers i

group_again : (fixed : Option (List Term)) (value : Option Tree) → IsGrouped fixed value → grouped fixed (map trees.Number (group_in value)) ≡ value
group_again None value (numbers, is) =
    let group : group_in value ≡ numbers = ap group_in is ∙ ap numbers_of_group (trees.outs-Group numbers) in
    ap (λ (ns : List ℕ). Some (trees.Group ns)) (numbers_again (group_in value) ∙ group) ∙ sym is
group_again (Some terms) value is = sym is

-- Fields.

module _ (read : (width number : ℕ) → number_of (number_bits width number) ≡ number % 2 ^ width) (written : (bits : List Bool) → number_bits (length bits) (number_of bits) ≡ bits)
    (again : (bytes : List ℕ) → ((k : ℕ) → slice_index bytes k < 256) → bytes_of (bits_of bytes) ≡ bytes)
    (back : (width number : ℕ) → number < 2 ^ width → number_of (number_bits width number) ≡ number) (facts : Facts) (all : List Bool) (env : Environment) (outermost : Bool) (rest : PlainBody)
    (passed : Passed) (names : Environment) (knows : Knows passed names) (part : IsKnownOf names env) (value : Option Tree) (at : ℕ) (late : Late) (after : ℕ) (late_after : Late)
    (within : after ≤ length all) where
  -- what is passed at the field
  abbrev there : PlainField → Passed
  there field = at_field (field_and field rest) passed

  abbrev found : PlainField → Option Step
  found field = field_of_pieces (here_at facts all field rest at passed.met) field names at late

  pub number_field : (number : PlainNumber) → Ahead all (Number number) rest env at after → is_read outermost rest (there (Number number)) (Number number) ≡ true
      → FieldSpells plainly facts all (Number number) env (there (Number number)) value at late after late_after → Steps (behind (Number number) (there (Number number))) env value after late_after (found (Number number))
  number_field number ahead reads it =
      let field = Number number in
      let one = single facts all env (there field) (OneNumber number) (values_for field value) at late after late_after it.1 in
      let goes = one_number back facts all env outermost field rest at after passed.met ahead number (there field) names one.value at late after late_after refl refl knows part
      (both_true (is_number_read rest (there field) number.fixed) true reads).0 one.spelled within in
      record {
        names = goes.names;
        is = field_one (here_at facts all field rest at passed.met) (OneNumber number) names goes.names value one.value at after late late_after goes.is one.are;
        knows = goes.knows;
        part = goes.part;
      }

  pub text_field : (text : PlainText) → Ahead all (Text text) rest env at after → is_read outermost rest (there (Text text)) (Text text) ≡ true → EndsAt outermost all rest after
      → FieldSpells plainly facts all (Text text) env (there (Text text)) value at late after late_after → Steps (behind (Text text) (there (Text text))) env value after late_after (found (Text text))
  text_field text ahead reads end it =
      let field = Text text in
      let one = single facts all env (there field) (OneText text) (values_for field value) at late after late_after it.1 in
      let stands = one.spelled in
      let is = text_steps read written again back facts all env outermost field rest (there field) names knows part at after ahead end text refl one.value stands.bits late
      (both_true (is_text_read outermost rest (there field) text) true reads).0 stands.stored stands.manner stands.early stands.ends (subst (λ (n : ℕ). n ≤ length all) stands.ends within) stands.there in
      record {
        names = names;
        is = field_one (here_at facts all field rest at passed.met) (OneText text) names names value one.value at after late late_after
            (is ∙ (λ i. Some (record { value = one.value; after = sym stands.ends i; names = names; late = sym stands.marked i }))) one.are;
        knows = knows;
        part = part;
      }

  pub points_field : (points : PlainPoints) → Ahead all (Points points) rest env at after → is_read outermost rest (there (Points points)) (Points points) ≡ true
      → FieldSpells plainly facts all (Points points) env (there (Points points)) value at late after late_after → Steps (behind (Points points) (there (Points points))) env value after late_after (found (Points points))
  points_field points ahead reads it =
      let field = Points points in
      let pieces = integers points.rect points.fixed in
      let goes = numbers_go back facts all env outermost field rest at after passed.met ahead pieces (there field) names (values_for field value) at late after late_after (integers_are points.rect points.fixed)
      refl refl knows part reads it.1 within in
      record {
        names = goes.names;
        is = ap (option_map (λ (f : Found). let it : Step = record { value = grouped points.fixed f.row; after = f.after; names = f.names; late = f.late } in it)) goes.is
            ∙ (λ i. Some (record { value = group_again points.fixed value it.0 i; after = after; names = goes.names; late = late_after }));
        knows = goes.knows;
        part = goes.part;
      }

  pub fill_field : (unit : ℕ) (count : ℤ) → FieldSpells plainly facts all (Fill unit count) env (there (Fill unit count)) value at late after late_after
      → Steps (behind (Fill unit count) (there (Fill unit count))) env value after late_after (found (Fill unit count))
  fill_field unit count it =
      let field = Fill unit count in
      let one = single facts all env (there field) (Zeros (unit * nat_abs count)) (values_for field value) at late after late_after it.1 in
      let stands = one.spelled in
      record {
        names = names;
        is = field_one (here_at facts all field rest at passed.met) (Zeros (unit * nat_abs count)) names names value one.value at after late late_after
            (zeros_go all at (unit * nat_abs count) after late late_after stands.bits names one.value stands.stored.0 stands.stored.1 stands.ends
            (ap length stands.stored.1 ∙ length_zeros (unit * nat_abs count)) stands.marked within stands.there) one.are;
        knows = knows;
        part = part;
      }

  pub align_field : (unit : ℕ) → FieldSpells plainly facts all (Align unit) env (there (Align unit)) value at late after late_after
      → Steps (behind (Align unit) (there (Align unit))) env value after late_after (found (Align unit))
  align_field unit it =
      let field = Align unit in
      let one = single facts all env (there field) (Filler unit) (values_for field value) at late after late_after it.1 in
      let stands = one.spelled in
      record {
        names = names;
        is = field_one (here_at facts all field rest at passed.met) (Filler unit) names names value one.value at after late late_after
            (zeros_go all at (missing unit at) after late late_after stands.bits names one.value stands.stored.0 stands.stored.1 stands.ends
            (ap length stands.stored.1 ∙ length_zeros (missing unit at)) stands.marked within stands.there) one.are;
        knows = knows;
        part = part;
      }

  -- after a label its place is known
  label_knows : (name : Word) → Knows (behind (Label name) (there (Label name))) (also (place_key name.bytes) (pos at) names)
  label_knows name key asked is = by (stands_at name.bytes key) is
    where
      by : (test : Bool) → ((test || passed.met key) || passed.told key) ≡ true → (v : ℤ) × ((if test then Some (pos at) else names.give key) ≡ Some v)
      by true is = (pos at, refl)
      by false is = knows key asked is

  pub label_field : (name : Word) → FieldSpells plainly facts all (Label name) env (there (Label name)) value at late after late_after
      → Steps (behind (Label name) (there (Label name))) env value after late_after (found (Label name))
  label_field name it =
      let field = Label name in
      let one = single facts all env (there field) (Place name) (values_for field value) at late after late_after it.1 in
      let stands = one.spelled in
      let key = place_key name.bytes in
      let bare : length stands.bits ≡ 0 = ap length stands.stored.2 in
      let ends : after ≡ at = (let behind = stands.ends in omega (arith, behind, bare)) in
      let marks : late_after ≡ late = stands.marked ∙ ap (λ (n : ℕ). late ++ replicate n false) bare ∙ append-nil late in
      record {
        names = also key (pos at) names;
        is = field_one (here_at facts all field rest at passed.met) (Place name) names (also key (pos at) names) value one.value at after late late_after
            (label_goes name names env at after late late_after one.value part.part stands.stored.1 stands.stored.0 ends marks) one.are;
        knows = label_knows name;
        part = also_known key (pos at) names env refl part stands.stored.1;
      }
