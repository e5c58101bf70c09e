-- Late numbers, where their bits stand, and the second pass.
use Rattle.std.proofs.Common.{◌≡◌, ℕ, ◌+◌, Bool, true, false, List, [], ◌∷◌, ◌++◌, length, take, drop, map, replicate, Result, Ok, sym, ap, ◌∙◌, subst, arith}
use Rattle.std.specs.Prelude.{nat_abs}
use Rattle.std.proofs.lemmas.List.{append_assoc, take-append-drop, take_at, drop_at, length-take-le, length-drop, length-append, drop-drop}
use Rattle.rz_core.specs.Stop.{◌>>=◌}
use Rattle.rz_core.specs.declared.facts.Facts.{Facts}
use Rattle.rz_expr.specs.Environment.{Environment, Sight}
use Rattle.rz_expr.specs.Value.{value_of}
use Rattle.rz_types_fields.specs.Laid.{fill, late_bits, patched, ranged, valued, LateNumber, Refusal}
use Rattle.rz_types_fields.specs.Sees.{Late}
use Rattle.rz_layout.proofs.Masks.{length-marks, masked, masked-append, masked_all, masked_none, replicate-plus, sees_front}

abbrev pub room_of : LateNumber → ℕ
room_of one = nat_abs one.width

-- the marks from a place on are those of these late numbers, in order, and each has the property
abbrev pub Tracks : (LateNumber → Type 0) → ℕ → List LateNumber → Late → Type 0
Tracks P from [] marks = marks ≡ replicate (length marks) false
Tracks P from (one ∷ others) marks =
    (gap : ℕ) × (rest : Late) × (one.at ≡ from + gap) × (marks ≡ replicate gap false ++ (replicate (room_of one) true ++ rest)) × P one × Tracks P (one.at + room_of one) others rest

-- what isn't late stands in front
pub tracks_front : (P : LateNumber → Type 0) (from n : ℕ) (numbers : List LateNumber) (marks : Late) → Tracks P (from + n) numbers marks → Tracks P from numbers (replicate n false ++ marks)
tracks_front P from n [] marks t =
    ap (λ (r : Late). replicate n false ++ r) t ∙ replicate-plus n (length marks) false
    ∙ ap (λ (k : ℕ). replicate k false) (sym (length-append (replicate n false) marks ∙ ap (λ (k : ℕ). k + length marks) (length-marks n false)))
tracks_front P from n (one ∷ others) marks t = (
  n + t.0,
  t.1,
  t.2 ∙ omega arith,
  ap (λ (r : Late). replicate n false ++ r) t.3 ∙ sym (append_assoc (replicate n false) (replicate t.0 false) (replicate (room_of one) true ++ t.1))
      ∙ ap (λ (r : Late). r ++ (replicate (room_of one) true ++ t.1)) (replicate-plus n t.0 false),
  t.4,
  t.5,
)

pub tracks-append : (P : LateNumber → Type 0) (from : ℕ) (numbers others : List LateNumber) (marks more : Late) → Tracks P from numbers marks → Tracks P (from + length marks) others more
    → Tracks P from (numbers ++ others) (marks ++ more)
tracks-append P from [] others marks more t u = subst (λ (r : Late). Tracks P from others (r ++ more)) (sym t) (tracks_front P from (length marks) others more u)
tracks-append P from (one ∷ numbers) others marks more t u =
    let len : length marks ≡ t.0 + (room_of one + length t.1) = ap length t.3 ∙ length-append (replicate t.0 false) (replicate (room_of one) true ++ t.1)
    ∙ (let a = length-append (replicate (room_of one) true) t.1 in let b = length-marks t.0 false in let c = length-marks (room_of one) true in omega (arith, a, b, c)) in (
      t.0,
      t.1 ++ more,
      t.2,
      ap (λ (r : Late). r ++ more) t.3 ∙ append_assoc (replicate t.0 false) (replicate (room_of one) true ++ t.1) more ∙ ap (λ (r : Late). replicate t.0 false ++ r) (append_assoc (replicate (room_of one) true) t.1 more),
      t.4,
      tracks-append P (one.at + room_of one) numbers others t.1 more t.5 (subst (λ (k : ℕ). Tracks P k others more) (let a = t.2 in omega (arith, len, a)) u),
    )

-- a change that keeps places and widths
pub tracks-map : (P Q : LateNumber → Type 0) (change : LateNumber → LateNumber) → ((one : LateNumber) → (change one).at ≡ one.at) → ((one : LateNumber) → (change one).width ≡ one.width) → ((one : LateNumber) → P one → Q (change one))
    → (from : ℕ) (numbers : List LateNumber) (marks : Late) → Tracks P from numbers marks → Tracks Q from (map change numbers) marks
tracks-map P Q change at width so from [] marks t = t
tracks-map P Q change at width so from (one ∷ others) marks t =
    let same : room_of one ≡ room_of (change one) = ap nat_abs (sym (width one)) in (
      t.0,
      t.1,
      at one ∙ t.2,
      t.3 ∙ ap (λ (k : ℕ). replicate t.0 false ++ (replicate k true ++ t.1)) same,
      so one t.4,
      subst (λ (k : ℕ). Tracks Q k (map change others) t.1) (ap (λ (k : ℕ). k + room_of one) (sym (at one)) ∙ ap (λ (k : ℕ). (change one).at + k) same) (tracks-map P Q change at width so (one.at + room_of one) others t.1 t.5),
    )

pub tracks_so : (P Q : LateNumber → Type 0) → ((one : LateNumber) → P one → Q one) → (from : ℕ) (numbers : List LateNumber) (marks : Late) → Tracks P from numbers marks → Tracks Q from numbers marks
tracks_so P Q so from [] marks t = t
tracks_so P Q so from (one ∷ others) marks t = (t.0, t.1, t.2, t.3, so one t.4, tracks_so P Q so (one.at + room_of one) others t.1 t.5)

-- a late number sees the bits before its place
pub late_front : (known : Facts) (names : Environment) (one : LateNumber) (bits others : List Bool) → take one.at bits ≡ take one.at others → late_bits known names one bits ≡ late_bits known names one others
late_front known names one bits others same =
    ap (λ (sight : Sight). valued one.piece (value_of one.term sight) >>= λ value. ranged one.piece one.form one.width value) (sees_front known bits others (one.names names) one.at same)

-- the number has its value, and its bits stand there
pub record Holds (known : Facts) (all : List Bool) (names : Environment) (one : LateNumber) : Type 0 where
  pub bits : List Bool
  pub value : late_bits known names one all ≡ Ok bits
  pub there : take (length bits) (drop one.at all) ≡ bits
  pub width : length bits ≡ room_of one

pub split3 : (gap width : ℕ) (bits : List Bool) → bits ≡ take gap bits ++ (take width (drop gap bits) ++ drop (gap + width) bits)
split3 gap width bits = sym (take-append-drop gap bits) ∙ ap (λ (r : List Bool). take gap bits ++ r) (sym (take-append-drop width (drop gap bits)) ∙ ap (λ (r : List Bool). take width (drop gap bits) ++ r) (drop-drop width gap bits))

pub masked_parts : (gap width : ℕ) (marks a b c : List Bool) → length a ≡ gap → length b ≡ width
    → masked (replicate gap false ++ (replicate width true ++ marks)) (a ++ (b ++ c)) ≡ a ++ (replicate width false ++ masked marks c)
masked_parts gap width marks a b c one two =
    masked-append (replicate gap false) (replicate width true ++ marks) a (b ++ c) (length-marks gap false ∙ sym one)
    ∙ ap (λ (r : List Bool). r ++ masked (replicate width true ++ marks) (b ++ c)) (ap (λ (n : ℕ). masked (replicate n false) a) (sym one) ∙ masked_none a)
    ∙ ap (λ (r : List Bool). a ++ r) (masked-append (replicate width true) marks b c (length-marks width true ∙ sym two)
    ∙ ap (λ (r : List Bool). r ++ masked marks c) (ap (λ (n : ℕ). masked (replicate n true) b) (sym two) ∙ masked_all b ∙ ap (λ (n : ℕ). replicate n false) two))

masked3 : (gap width : ℕ) (marks bits : List Bool) → gap + (width + length marks) ≡ length bits
    → masked (replicate gap false ++ (replicate width true ++ marks)) bits ≡ take gap bits ++ (replicate width false ++ masked marks (drop (gap + width) bits))
masked3 gap width marks bits size =
    let d = length-drop gap bits in
    ap (masked (replicate gap false ++ (replicate width true ++ marks))) (split3 gap width bits)
    ∙ masked_parts gap width marks (take gap bits) (take width (drop gap bits)) (drop (gap + width) bits) (length-take-le gap bits (omega (arith, size))) (length-take-le width (drop gap bits) (omega (arith, size, d)))

module _ (known : Facts) (all more : List Bool) (names : Environment) where
  -- the second pass makes of a draft the bits that hold the values of all late numbers
  pub fill_goes : (numbers : List LateNumber) (marks front rest : List Bool) (from : ℕ) → all ≡ front ++ (rest ++ more) → length front ≡ from → length marks ≡ length rest
      → Tracks (Holds known all names) from numbers marks → fill known names numbers (front ++ masked marks rest) ≡ Ok (front ++ rest)
  fill_goes [] marks front rest from e f l t =
      ap (λ (r : List Bool). Ok (front ++ r)) (ap (λ (k : Late). masked k rest) (t ∙ ap (λ (n : ℕ). replicate n false) l) ∙ masked_none rest)
  fill_goes (one ∷ others) marks front rest from e f l t =
      let g = t.0 in
      let w = room_of one in
      let back = drop (g + w) rest in
      let own = t.4.bits in
      let n = length-append (replicate g false) (replicate w true ++ t.1) in
      let n2 = length-append (replicate w true) t.1 in
      let n3 = length-marks g false in
      let n4 = length-marks w true in
      let size : g + (w + length t.1) ≡ length rest = let a = ap length t.3 in omega (arith, a, n, n2, n3, n4, l) in
      let mid : length (take g rest) ≡ g = length-take-le g rest (omega (arith, size)) in
      let here : length (front ++ take g rest) ≡ one.at = let a = length-append front (take g rest) in let b = t.2 in omega (arith, a, b, mid, f) in
      let draft = (front ++ take g rest) ++ (replicate w false ++ masked t.1 back) in
      let all_is : all ≡ (front ++ take g rest) ++ (take w (drop g rest) ++ (back ++ more)) =
      e ∙ ap (λ (r : List Bool). front ++ (r ++ more)) (split3 g w rest) ∙ ap (λ (r : List Bool). front ++ r) (append_assoc (take g rest) (take w (drop g rest) ++ back) more ∙ ap (λ (r : List Bool). take g rest ++ r) (append_assoc (take w (drop g rest)) back more))
      ∙ sym (append_assoc front (take g rest) (take w (drop g rest) ++ (back ++ more))) in
      let draft_is : front ++ masked marks rest ≡ draft = ap (λ (r : List Bool). front ++ r) (ap (λ (k : Late). masked k rest) t.3 ∙ masked3 g w t.1 rest size) ∙ sym (append_assoc front (take g rest) (replicate w false ++ masked t.1 back)) in
      let seen : take one.at draft ≡ take one.at all =
      take_at (front ++ take g rest) (replicate w false ++ masked t.1 back) one.at here ∙ sym (ap (take one.at) all_is ∙ take_at (front ++ take g rest) (take w (drop g rest) ++ (back ++ more)) one.at here) in
      let bits : late_bits known names one draft ≡ Ok own = late_front known names one draft all seen ∙ t.4.value in
      let old_len : length (take w (drop g rest)) ≡ w = length-take-le w (drop g rest) (let d = length-drop g rest in omega (arith, d, size)) in
      let old : take w (drop g rest) ≡ own = sym (take_at (take w (drop g rest)) (back ++ more) w old_len) ∙ ap (take w) (sym (drop_at (front ++ take g rest) (take w (drop g rest) ++ (back ++ more)) one.at here)) ∙ ap (λ (a : List Bool). take w (drop one.at a)) (sym all_is)
      ∙ ap (λ (k : ℕ). take k (drop one.at all)) (sym t.4.width) ∙ t.4.there in
      let behind : drop (one.at + length own) draft ≡ masked t.1 back = ap (λ (k : ℕ). drop (one.at + k) draft) t.4.width ∙ sym (drop-drop w one.at draft) ∙ ap (drop w) (drop_at (front ++ take g rest) (replicate w false ++ masked t.1 back) one.at here)
      ∙ drop_at (replicate w false) (masked t.1 back) w (length-marks w false) in
      let patch : patched one.at own draft ≡ ((front ++ take g rest) ++ own) ++ masked t.1 back =
      ap (λ (r : List Bool). r ++ (own ++ drop (one.at + length own) draft)) (take_at (front ++ take g rest) (replicate w false ++ masked t.1 back) one.at here) ∙ ap (λ (r : List Bool). (front ++ take g rest) ++ (own ++ r)) behind ∙ sym (append_assoc (front ++ take g rest) own (masked t.1 back)) in
      let whole : ((front ++ take g rest) ++ own) ++ back ≡ front ++ rest =
      ap (λ (r : List Bool). ((front ++ take g rest) ++ r) ++ back) (sym old) ∙ append_assoc (front ++ take g rest) (take w (drop g rest)) back ∙ append_assoc front (take g rest) (take w (drop g rest) ++ back)
      ∙ ap (λ (r : List Bool). front ++ r) (sym (split3 g w rest)) in
      ap (fill known names (one ∷ others)) draft_is ∙ ap (λ (r : Result (List Bool) Refusal). r >>= λ ys. fill known names others (patched one.at ys draft)) bits ∙ ap (fill known names others) patch
      ∙ fill_goes others t.1 ((front ++ take g rest) ++ own) back (one.at + w)
      (all_is ∙ ap (λ (r : List Bool). (front ++ take g rest) ++ (r ++ (back ++ more))) old ∙ sym (append_assoc (front ++ take g rest) own (back ++ more)))
      (let a = length-append (front ++ take g rest) own in let b = t.4.width in omega (arith, a, b, here)) (let d = length-drop (g + w) rest in omega (arith, d, size)) t.5
      ∙ ap (λ (r : List Bool). Ok r) whole
