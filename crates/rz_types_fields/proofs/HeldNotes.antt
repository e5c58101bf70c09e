-- The positions of the notes with a code, as they are held: with one note more, with fewer, and what is heard at them.
use Rattle.std.proofs.Common.{◌≡◌, ℕ, zero, suc, ◌+◌, ◌-◌, ◌<◌, ◌≤◌, ◌==◌, Bool, true, false, if◌then◌else◌, List, [], ◌∷◌, ◌++◌, drop, get_or, length, take, Some, None, refl, sym, ap, subst, ◌∙◌, arith}
use Rattle.std.specs.HashMap.{HashMap}
use Rattle.std.specs.Prelude.{slice_get, Err, Ok, OnErr, OnOk, Vec}
use Rattle.std.specs.declared.result.Result.{Result}
use Rattle.std.proofs.Math.Seq.{take-append_seam}
use Rattle.std.proofs.lemmas.List.{append-nil, drop-append-le, drop_all, length-append, take_all, take_more}
use Rattle.std.proofs.lemmas.Option.{slice_get-get_or}
use Rattle.rz_expr.specs.Environment.{Key}
use Rattle.rz_types_fields.specs.Newest.{code_of, has_code, heard, held, newest, note_code, AreHeld}
use Rattle.rz_types_fields.specs.Positions.{positions}
use Rattle.rz_types_fields.specs.declared.names.Note.{Note}
use Rattle.rz_types_fields.proofs.Noting.{newest_more, newest_own}
use Rattle.rz_types_fields.proofs.Positions.{at_all, at_more, at_positions, positions-push, positions_within}

-- without the last of its code
back : (xs : List ℕ) (x : ℕ) → take (length (xs ++ x ∷ []) - 1) (xs ++ x ∷ []) ≡ xs
back xs x =
    let one : length (xs ++ x ∷ []) - 1 ≡ length xs = omega (arith, length-append xs (x ∷ [])) in
    ap (λ (n : ℕ). take n (xs ++ x ∷ [])) one ∙ take-append_seam xs (x ∷ [])

without_last : (own : List ℕ) (x : ℕ) (b : Bool)
    → (if b then take (length (own ++ (if b then x ∷ [] else [])) - 1) (own ++ (if b then x ∷ [] else [])) else own ++ (if b then x ∷ [] else [])) ≡ own
without_last own x true = back own x
without_last own x false = append-nil own

first_notes : (notes : List Note) (count : ℕ) → take (length notes - (length notes - count)) notes ≡ take count notes
first_notes [] zero = refl
first_notes [] (suc count) = take_all (0 - (0 - suc count)) [] (omega arith)
first_notes (note ∷ notes) zero = let none : length (note ∷ notes) - (length (note ∷ notes) - 0) ≡ 0 = omega arith in ap (λ (n : ℕ). take n (note ∷ notes)) none
first_notes (note ∷ notes) (suc count) =
    let more : length (note ∷ notes) - (length (note ∷ notes) - suc count) ≡ suc (length notes - (length notes - count)) = omega arith in
    ap (λ (n : ℕ). take n (note ∷ notes)) more ∙ ap (λ (l : List Note). note ∷ l) (first_notes notes count)

-- what of the notes after the first so many is kept
pub others_kept : {A : Type 0} (few count : ℕ) (xs : List A) → take (count - few) (drop few xs) ≡ drop few (take count xs)
others_kept zero count xs = let same : count - 0 ≡ count = omega arith in ap (λ (n : ℕ). take n xs) same
others_kept (suc few) zero xs = let none : 0 - suc few ≡ 0 = omega arith in ap (λ (n : ℕ). take n (drop (suc few) xs)) none
others_kept (suc few) (suc count) [] = take_all (suc count - suc few) [] (omega arith)
others_kept (suc few) (suc count) (x ∷ xs) =
    let same : suc count - suc few ≡ count - few = omega arith in ap (λ (n : ℕ). take n (drop few xs)) same ∙ others_kept few count xs

-- one note more after them
pub other_more : (few : ℕ) (notes : List Note) (note : Note) → few ≤ length notes → drop few (notes ++ note ∷ []) ≡ drop few notes ++ note ∷ []
other_more few notes note within = drop-append-le few notes (note ∷ []) within

-- with one note more or, where memory is refused, as many there are no more than a few
pub few_pushed : {O E : Type 0} (few : ℕ) (old new : List Note) (note : Note) (pushed : Result O E) → length old < few → OnOk pushed (new ≡ old ++ note ∷ [])
    → OnErr pushed (new ≡ old) → length new ≤ few
few_pushed few old new note (Ok done) less more same =
    let long : length new ≡ length old + 1 = ap (λ (l : List Note). length l) more ∙ length-append old (note ∷ []) in omega (arith, less, long)
few_pushed few old new note (Err refused) less more same =
    let long : length new ≡ length old = ap (λ (l : List Note). length l) same in omega (arith, less, long)

module _ {A S : Type 0} where
  -- no more than a few: none of them is held
  pub held_few : (few : ℕ) (old new : List Note) (places : HashMap ℕ (Vec ℕ A) S) → length old ≤ few → length new ≤ few → AreHeld (drop few old) places
      → AreHeld (drop few new) places
  held_few few old new places one other are =
      subst (λ (l : List Note). AreHeld l places) (drop_all few old one ∙ sym (drop_all few new other)) are

  -- one note more, where its position was added
  pub held_more : (notes : List Note) (note : Note) (old new : HashMap ℕ (Vec ℕ A) S) → AreHeld notes old
      → ((other : ℕ) → held other new ≡ held other old ++ (if note_code note == other then length notes ∷ [] else [])) → AreHeld (notes ++ note ∷ []) new
  held_more notes note old new are adds code =
      adds code ∙ ap (λ (l : List ℕ). l ++ (if has_code code note then length notes ∷ [] else [])) (are code) ∙ sym (positions-push (has_code code) notes note)

  -- one less, where the last of its code was taken out
  pub held_less : (notes : List Note) (note : Note) (old new : HashMap ℕ (Vec ℕ A) S) → AreHeld (notes ++ note ∷ []) old
      → ((other : ℕ) → held other new ≡ (if note_code note == other then take (length (held other old) - 1) (held other old) else held other old)) → AreHeld notes new
  held_less notes note old new are takes code =
      takes code
      ∙ ap (λ (l : List ℕ). if has_code code note then take (length l - 1) l else l) (are code ∙ positions-push (has_code code) notes note)
      ∙ without_last (positions (has_code code) notes) (length notes) (has_code code note)

  -- the newest of them forgotten
  pub held_older : (notes : List Note) (newer : ℕ) (note : Note) (old new : HashMap ℕ (Vec ℕ A) S) → newer < length notes → note ≡ get_or notes (length notes - 1 - newer) note
      → AreHeld (take (length notes - newer) notes) old
      → ((other : ℕ) → held other new ≡ (if note_code note == other then take (length (held other old) - 1) (held other old) else held other old))
      → AreHeld (take (length notes - (newer + 1)) notes) new
  held_older notes newer note old new less item are takes =
      let older = length notes - 1 - newer in
      let within : older < length notes = omega arith in
      let same : older ≡ length notes - (newer + 1) = omega arith in
      let next : length notes - newer ≡ older + 1 = omega arith in
      subst (λ (n : ℕ). AreHeld (take n notes) new) same
      (held_less (take older notes) note old new
      (subst (λ (l : List Note). AreHeld l old)
      (ap (λ (n : ℕ). take n notes) next ∙ take_more notes older note within ∙ ap (λ (one : Note). take older notes ++ one ∷ []) (sym item)) are) takes)

  -- all but so many forgotten
  pub held_first : (notes : List Note) (count newer : ℕ) (places : HashMap ℕ (Vec ℕ A) S) → newer ≡ length notes - count → AreHeld (take (length notes - newer) notes) places
      → AreHeld (take count notes) places
  held_first notes count newer places is are =
      subst (λ (l : List Note). AreHeld l places) (ap (λ (n : ℕ). take (length notes - n) notes) is ∙ first_notes notes count) are

-- What is read at the positions of a code, the newest first.
module _ (told : Bool) (key : Key) (notes : List Note) (own : List ℕ) (is : own ≡ positions (has_code (code_of key)) notes) where
  pub own_within : (i : ℕ) → i < length own → get_or own i 0 < length notes
  own_within i below =
      positions_within (has_code (code_of key)) notes i (get_or own i 0) (ap (λ (l : List ℕ). slice_get l i) (sym is) ∙ slice_get-get_or own i 0 below)

  pub read_all : newest told key None (at_positions notes own) ≡ newest told key None notes
  read_all =
      ap (λ (l : List ℕ). newest told key None (at_positions notes l)) is
      ∙ ap (newest told key None) (at_all (has_code (code_of key)) notes)
      ∙ newest_own told key None notes

  -- so far nothing was heard
  abbrev pub AreQuiet : ℕ → Type 0
  AreQuiet newer = newest told key None (at_positions notes (take (length own - newer) own)) ≡ newest told key None notes

  pub all_quiet : AreQuiet 0
  all_quiet = ap (λ (l : List ℕ). newest told key None (at_positions notes l)) (take_all (length own - 0) own (omega arith)) ∙ read_all

  module _ (newer : ℕ) (note : Note) (less : newer < length own) (item : note ≡ get_or notes (get_or own (length own - 1 - newer) 0) note) (quiet : AreQuiet newer) where
    one_read : (if heard told note key then Some note else newest told key None (at_positions notes (take (length own - (newer + 1)) own))) ≡ newest told key None notes
    one_read =
        let older = length own - 1 - newer in
        let within : older < length own = omega arith in
        let same : older ≡ length own - (newer + 1) = omega arith in
        let next : older + 1 ≡ length own - newer = omega arith in
        ap (λ (n : ℕ). if heard told note key then Some note else newest told key None (at_positions notes (take n own))) (sym same)
        ∙ sym (newest_more told key None (at_positions notes (take older own)) note)
        ∙ ap (newest told key None) (sym (at_more notes own older note within (own_within older within) item))
        ∙ ap (λ (n : ℕ). newest told key None (at_positions notes (take n own))) next
        ∙ quiet

    pub is_newest : true ≡ heard told note key → Some note ≡ newest told key None notes
    is_newest hears =
        ap (λ (b : Bool). if b then Some note else newest told key None (at_positions notes (take (length own - (newer + 1)) own))) hears ∙ one_read

    pub still_quiet : false ≡ heard told note key → AreQuiet (newer + 1)
    still_quiet other =
        ap (λ (b : Bool). if b then Some note else newest told key None (at_positions notes (take (length own - (newer + 1)) own))) other ∙ one_read

  pub none_newest : (newer : ℕ) → length own ≤ newer → AreQuiet newer → None ≡ newest told key None notes
  none_newest newer all quiet =
      let none : 0 ≡ length own - newer = omega (arith, all) in
      ap (λ (n : ℕ). newest told key None (at_positions notes (take n own))) none ∙ quiet

-- The same of all notes, read from the newest on.
module _ (told : Bool) (key : Key) (notes : List Note) where
  -- so far nothing was heard
  abbrev pub IsStill : ℕ → Type 0
  IsStill newer = newest told key None (take (length notes - newer) notes) ≡ newest told key None notes

  pub still_first : IsStill 0
  still_first = ap (newest told key None) (take_all (length notes - 0) notes (omega arith))

  module _ (newer : ℕ) (note : Note) (less : newer < length notes) (item : note ≡ get_or notes (length notes - 1 - newer) note) (still : IsStill newer) where
    one_walked : (if heard told note key then Some note else newest told key None (take (length notes - (newer + 1)) notes)) ≡ newest told key None notes
    one_walked =
        let older = length notes - 1 - newer in
        let within : older < length notes = omega arith in
        let same : older ≡ length notes - (newer + 1) = omega arith in
        let next : older + 1 ≡ length notes - newer = omega arith in
        ap (λ (n : ℕ). if heard told note key then Some note else newest told key None (take n notes)) (sym same)
        ∙ sym (newest_more told key None (take older notes) note)
        ∙ ap (newest told key None) (sym (take_more notes older note within ∙ ap (λ (one : Note). take older notes ++ one ∷ []) (sym item)))
        ∙ ap (λ (n : ℕ). newest told key None (take n notes)) next
        ∙ still

    pub still_heard : true ≡ heard told note key → Some note ≡ newest told key None notes
    still_heard hears = ap (λ (b : Bool). if b then Some note else newest told key None (take (length notes - (newer + 1)) notes)) hears ∙ one_walked

    pub still_more : false ≡ heard told note key → IsStill (newer + 1)
    still_more other = ap (λ (b : Bool). if b then Some note else newest told key None (take (length notes - (newer + 1)) notes)) other ∙ one_walked

  pub still_all : (newer : ℕ) → length notes ≤ newer → IsStill newer → None ≡ newest told key None notes
  still_all newer all still =
      let none : 0 ≡ length notes - newer = omega (arith, all) in ap (λ (n : ℕ). newest told key None (take n notes)) none ∙ still
