-- What the second pass made.
use Rattle.std.proofs.Common.{◌≡◌, ℕ, zero, suc, ◌+◌, ℤ, Bool, true, false, List, [], ◌∷◌, ◌++◌, length, take, drop, map, replicate, Option, Some, None, Result, Ok, Err, refl, sym, ap, ◌∙◌, arith}
use Rattle.std.specs.Prelude.{nat_abs}
use Rattle.std.proofs.lemmas.List.{append_assoc, take_at, drop_at, length-take-le, length-drop, length-append, drop-drop}
use Rattle.rz_core.specs.Lists.{unless_fault}
use Rattle.rz_core.specs.Stop.{◌>>=◌}
use Rattle.rz_core.specs.declared.facts.Facts.{Facts}
use Rattle.rz_bits.specs.Bits.{number_bits}
use Rattle.rz_expr.specs.Environment.{Environment}
use Rattle.rz_expr.specs.Value.{value_of}
use Rattle.rz_expr.specs.declared.value.EvalFault.{EvalFault}
use Rattle.rz_types_fields.specs.declared.field.NumForm.{NumForm}
use Rattle.rz_types_fields.specs.Laid.{fill, late_bits, patched, ranged, refusal, unless, valued, LateNumber, Refusal}
use Rattle.rz_types_fields.specs.Range.{fits_number}
use Rattle.rz_types_fields.specs.Sees.{sees, Late}
use Rattle.rz_types_fields.specs.Stored.{stored_number}
use Rattle.rz_layout.proofs.Masks.{length-marks, masked}
use Rattle.rz_layout.proofs.Tracks.{late_front, masked_parts, room_of, split3, Holds, Tracks}

-- Results.

pub record Chained {X Y : Type 0} (first : Result X Refusal) (next : X → Result Y Refusal) (y : Y) : Type 0 where
  pub value : X
  pub is : first ≡ Ok value
  pub leads : next value ≡ Ok y

pub chained : {X Y : Type 0} (first : Result X Refusal) (next : X → Result Y Refusal) (y : Y) → (first >>= next) ≡ Ok y → Chained first next y
chained (Ok x) next y is = record { value = x; is = refl; leads = is }
chained (Err fault) next y is = absurd cc

pub same_ok : {X : Type 0} (x y : X) → ◌≡◌ {A = Result X Refusal} (Ok x) (Ok y) → x ≡ y
same_ok x y is = cc is

pub unrefused : {X : Type 0} (found : Option Refusal) (x y : X) → unless_fault found x ≡ Ok y → (found ≡ None) × (x ≡ y)
unrefused None x y is = (refl, same_ok x y is)
unrefused (Some fault) x y is = absurd cc

pub held : (test : Bool) (fault : Refusal) → unless test fault ≡ None → test ≡ true
held true fault is = refl
held false fault is = absurd cc

pub length_number : (width number : ℕ) → length (number_bits width number) ≡ width
unfolding number_bits
length_number zero number = refl
length_number (suc width) number = ap suc (length_number width number)

-- a value in range
pub ranged_is : (piece : ℕ) (form : NumForm) (width value : ℤ) (bits : List Bool) → ranged piece form width value ≡ Ok bits
    → (fits_number form width value ≡ true) × (number_bits (nat_abs width) (stored_number (nat_abs width) value) ≡ bits)
ranged_is piece form width value bits is =
    let free = unrefused (unless (fits_number form width value) (refusal 207 piece value)) (number_bits (nat_abs width) (stored_number (nat_abs width) value)) bits is in
    (held (fits_number form width value) (refusal 207 piece value) free.0, free.1)

pub valued_is : (piece : ℕ) (found : Result ℤ EvalFault) (value : ℤ) → valued piece found ≡ Ok value → found ≡ Ok value
valued_is piece (Ok z) value is = ap (λ (x : ℤ). Ok x) (same_ok z value is)
valued_is piece (Err fault) value is = absurd cc

pub record LateValue (known : Facts) (names : Environment) (one : LateNumber) (all bits : List Bool) : Type 0 where
  pub value : ℤ
  pub is : value_of one.term (sees known all (one.names names) one.at) ≡ Ok value
  pub fits : fits_number one.form one.width value ≡ true
  pub bits_are : number_bits (room_of one) (stored_number (room_of one) value) ≡ bits

pub late_value : (known : Facts) (names : Environment) (one : LateNumber) (all bits : List Bool) → late_bits known names one all ≡ Ok bits → LateValue known names one all bits
late_value known names one all bits is =
    let inner = chained (valued one.piece (value_of one.term (sees known all (one.names names) one.at))) (λ value. ranged one.piece one.form one.width value) bits is in
    let range = ranged_is one.piece one.form one.width inner.value bits inner.leads in
    record { value = inner.value; is = valued_is one.piece (value_of one.term (sees known all (one.names names) one.at)) inner.value inner.is; fits = range.0; bits_are = range.1 }

pub late_length : (known : Facts) (names : Environment) (one : LateNumber) (all bits : List Bool) → late_bits known names one all ≡ Ok bits → length bits ≡ room_of one
late_length known names one all bits is =
    let it = late_value known names one all bits is in ap length (sym it.bits_are) ∙ length_number (room_of one) (stored_number (room_of one) it.value)

-- Each late number.

abbrev pub Each : (LateNumber → Type 0) → List LateNumber → Type 0
Each P [] = Unit {0}
Each P (one ∷ others) = P one × Each P others

pub each_both : (P : LateNumber → Type 0) (numbers others : List LateNumber) → Each P (numbers ++ others) → Each P numbers × Each P others
each_both P [] others each = (tt, each)
each_both P (one ∷ numbers) others each = let rest = each_both P numbers others each.1 in ((each.0, rest.0), rest.1)

pub each-map : (P Q : LateNumber → Type 0) (change : LateNumber → LateNumber) → ((one : LateNumber) → Q (change one) → P one) → (numbers : List LateNumber) → Each Q (map change numbers) → Each P numbers
each-map P Q change so [] each = tt
each-map P Q change so (one ∷ numbers) each = (so one each.0, each-map P Q change so numbers each.1)

-- what the second pass left after a place; more may stand after all bits
pub record Filled (known : Facts) (names : Environment) (numbers : List LateNumber) (marks front bits all more : List Bool) : Type 0 where
  pub rest : List Bool
  pub all_is : all ≡ front ++ rest
  pub len : length rest ≡ length bits
  pub same : masked marks rest ≡ masked marks bits
  pub holds : Each (Holds known (all ++ more) names) numbers

module _ (known : Facts) (P : LateNumber → Type 0) (all more : List Bool) (names : Environment) where
  pub fill_came : (numbers : List LateNumber) (marks front bits : List Bool) (from : ℕ) → length front ≡ from → length marks ≡ length bits → Tracks P from numbers marks
      → fill known names numbers (front ++ bits) ≡ Ok all → Filled known names numbers marks front bits all more
  fill_came [] marks front bits from f l t is = record { rest = bits; all_is = sym (same_ok (front ++ bits) all is); len = refl; same = refl; holds = tt }
  fill_came (one ∷ others) marks front bits from f l t is =
      let g = t.0 in
      let w = room_of one in
      let a = take g bits in
      let b = take w (drop g bits) in
      let back = drop (g + w) bits in
      let n = length-append (replicate g false) (replicate w true ++ t.1) in
      let n2 = length-append (replicate w true) t.1 in
      let n3 = length-marks g false in
      let n4 = length-marks w true in
      let size : g + (w + length t.1) ≡ length bits = let q = ap length t.3 in omega (arith, q, n, n2, n3, n4, l) in
      let a_len : length a ≡ g = length-take-le g bits (omega (arith, size)) in
      let b_len : length b ≡ w = length-take-le w (drop g bits) (let d = length-drop g bits in omega (arith, d, size)) in
      let back_len : length back ≡ length t.1 = let d = length-drop (g + w) bits in omega (arith, d, size) in
      let here : length (front ++ a) ≡ one.at = let q = length-append front a in let c = t.2 in omega (arith, q, c, a_len, f) in
      let parts : front ++ bits ≡ (front ++ a) ++ (b ++ back) = ap (λ (r : List Bool). front ++ r) (split3 g w bits) ∙ sym (append_assoc front a (b ++ back)) in
      let x = chained (late_bits known names one (front ++ bits)) (λ ys. fill known names others (patched one.at ys (front ++ bits))) all is in
      let own = x.value in
      let own_len : length own ≡ w = late_length known names one (front ++ bits) own x.is in
      let patch : patched one.at own (front ++ bits) ≡ ((front ++ a) ++ own) ++ back =
      ap (patched one.at own) parts ∙ ap (λ (r : List Bool). r ++ (own ++ drop (one.at + length own) ((front ++ a) ++ (b ++ back)))) (take_at (front ++ a) (b ++ back) one.at here)
      ∙ ap (λ (r : List Bool). (front ++ a) ++ (own ++ r)) (ap (λ (k : ℕ). drop (one.at + k) ((front ++ a) ++ (b ++ back))) own_len ∙ sym (drop-drop w one.at ((front ++ a) ++ (b ++ back))) ∙ ap (drop w) (drop_at (front ++ a) (b ++ back) one.at here) ∙ drop_at b back w b_len)
      ∙ sym (append_assoc (front ++ a) own back) in
      let r = fill_came others t.1 ((front ++ a) ++ own) back (one.at + w) (let q = length-append (front ++ a) own in omega (arith, q, own_len, here)) (sym back_len) t.5 (ap (fill known names others) (sym patch) ∙ x.leads) in
      let all_is : all ≡ (front ++ a) ++ (own ++ r.rest) = r.all_is ∙ append_assoc (front ++ a) own r.rest in
      let all_more : all ++ more ≡ (front ++ a) ++ (own ++ (r.rest ++ more)) = ap (λ (bs : List Bool). bs ++ more) all_is ∙ append_assoc (front ++ a) (own ++ r.rest) more ∙ ap (λ (bs : List Bool). (front ++ a) ++ bs) (append_assoc own r.rest more) in
      let seen : take one.at (all ++ more) ≡ take one.at (front ++ bits) =
      ap (take one.at) all_more ∙ take_at (front ++ a) (own ++ (r.rest ++ more)) one.at here ∙ sym (ap (take one.at) parts ∙ take_at (front ++ a) (b ++ back) one.at here) in
      record {
        rest = a ++ (own ++ r.rest);
        all_is = all_is ∙ append_assoc front a (own ++ r.rest);
        len = length-append a (own ++ r.rest) ∙ (let q = length-append own r.rest in let c = r.len in omega (arith, q, c, a_len, own_len, back_len, size));
        same = ap (λ (k : Late). masked k (a ++ (own ++ r.rest))) t.3 ∙ masked_parts g w t.1 a own r.rest a_len own_len ∙ ap (λ (k : List Bool). a ++ (replicate w false ++ k)) r.same
            ∙ sym (ap (λ (k : Late). masked k bits) t.3 ∙ ap (masked (replicate g false ++ (replicate w true ++ t.1))) (split3 g w bits) ∙ masked_parts g w t.1 a b back a_len b_len);
        holds = (
          record {
            bits = own;
            value = late_front known names one (all ++ more) (front ++ bits) seen ∙ x.is;
            there = ap (λ (k : List Bool). take (length own) (drop one.at k)) all_more ∙ ap (take (length own)) (drop_at (front ++ a) (own ++ (r.rest ++ more)) one.at here) ∙ take_at own (r.rest ++ more) (length own) refl;
            width = own_len;
          },
          r.holds,
        );
      }
