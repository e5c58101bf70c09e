-- What stands in front of the bytes that are left, from one entry to the next, and how it ends.
use Rattle.std.proofs.Common.{◌≡◌, ℕ, suc, ◌+◌, ◌-◌, ◌<◌, ◌≤◌, Bool, true, false, List, [], ◌∷◌, ◌++◌, length, map, take, drop, Option, Some, None, Ok, Err, refl, sym, ap, subst, ◌∙◌, append_assoc, arith, length-drop, take-append-drop, drop-drop}
use Rattle.std.specs.Prelude.{◌&&◌, ◌==◌}
use Rattle.std.specs.List.{flat_map, AllByRecursion}
use Rattle.std.specs.Option.{is_none}
use Rattle.std.proofs.lemmas.List.{length-take-le}
use Rattle.std.proofs.lemmas.List.Concat.{flat_map-append}
use Rattle.rz_tmpl.specs.Bodies.{behind, fault_at, fault_of, GoesOn, IsNext, Shows}
use Rattle.rz_tmpl.specs.Cut.{broken, end_fault, entry_bytes, entry_fault, fault_behind, most_open, next_fault, standing, standing_at, whole, IsLabelled, Labelled, Reads, Stands}
use Rattle.rz_tmpl.specs.Entry.{entry_of}
use Rattle.rz_tmpl.specs.Items.{at, entries_before, has_value, innermost, inside, none, waiting_outside, waits, Items, Place}
use Rattle.rz_tmpl.specs.declared.bodies.Bodies.{Bodies}
use Rattle.rz_tmpl.specs.declared.bodies.Next.{Next}
use Rattle.rz_tmpl.specs.declared.entry.Entry.{Entry}
use Rattle.rz_tmpl.proofs.Faults.{four, kept_behind, place_fault}
use Rattle.rz_tmpl.proofs.Shown.{few_open, fault_is, not_none, one_more, place_behind}

pub record Front (bytes rest : List ℕ) (bodies : Bodies) (made : List Entry) : Type 0 where
  pub place : Place
  pub stands : Stands bytes place rest
  pub shows : Shows place bodies
  pub entries : made ≡ entries_before place

pub begins : (bytes : List ℕ) (bodies : Bodies) (entries : List Entry) → Shows (at none) bodies → entries ≡ [] → Front bytes bytes bodies entries
begins bytes bodies entries shows is = record { place = at none; stands = record { front = []; whole = tt; cut = refl; known = refl; kept = refl }; shows = shows; entries = is }

-- Faults.

fault_seen : (place : Place) (bodies : Bodies) (rest : List ℕ) → Shows place bodies → fault_at bodies rest ≡ fault_behind place rest
fault_seen place bodies rest shows =
    ap (λ (l : List Bool). next_fault (standing (length l) bodies.waiting bodies.valued) rest) shows.outside
    ∙ ap (λ (w : Bool). next_fault (standing (length (waiting_outside place)) w bodies.valued) rest) shows.waiting
    ∙ ap (λ (v : Bool). next_fault (standing (length (waiting_outside place)) (waits false (innermost place)) v) rest) shows.valued

entry_seen : (place : Place) (bodies : Bodies) (entry : Entry) → Shows place bodies
    → fault_of bodies entry ≡ entry_fault (standing_at place) entry
entry_seen place bodies entry shows =
    ap (λ (l : List Bool). entry_fault (standing (length l) bodies.waiting bodies.valued) entry) shows.outside
    ∙ ap (λ (w : Bool). entry_fault (standing (length (waiting_outside place)) w bodies.valued) entry) shows.waiting
    ∙ ap (λ (v : Bool). entry_fault (standing (length (waiting_outside place)) (waits false (innermost place)) v) entry) shows.valued

pub breaks : (bytes rest : List ℕ) (bodies : Bodies) (entries : List Entry) (number : ℕ) → Front bytes rest bodies entries → fault_at bodies rest ≡ Some number
    → Reads bytes (Err (record { number = number; offset = length bytes - length rest }))
breaks bytes rest bodies entries number front fault = (
  Err (record { number = number; offset = length bytes - length rest }),
  broken front.place rest number front.stands (sym (fault_seen front.place bodies rest front.shows) ∙ fault),
  refl,
)

not_waiting : (full w valued : Bool) → end_fault (four full true w valued) ≡ None → w ≡ false
not_waiting full true valued is = absurd cc
not_waiting full false valued is = refl

not_open : (full w valued : Bool) {P : Type 0} → end_fault (four full false w valued) ≡ None → P
not_open full w valued is = absurd cc

pub closed : (place : Place) → fault_behind place [] ≡ None → (items : Items) × (place ≡ at items) × (waits false items ≡ false)
closed (at items) is = (items, refl, not_waiting (0 == most_open) (waits false items) (has_value items) is)
closed (inside before form place) is =
    let full = suc (length (waiting_outside place)) == most_open in
    not_open full (waits false (innermost place)) (has_value (innermost place))
    (ap (λ (t : Bool). end_fault (four full t (waits false (innermost place)) (has_value (innermost place)))) (sym (not_none (length (waiting_outside place)))) ∙ is)

pub ends : (bytes rest : List ℕ) (bodies : Bodies) (entries : List Entry) → Front bytes rest bodies entries → GoesOn bodies rest None → Reads bytes (Ok entries)
ends bytes rest bodies entries front on =
    let last = closed front.place (sym (ap (fault_behind front.place) on.0) ∙ sym (fault_seen front.place bodies rest front.shows) ∙ on.1) in
    let here = subst (λ (p : Place). Stands bytes p rest) last.1 front.stands in
    (Ok last.0, whole last.0 (subst (λ (l : List ℕ). Stands bytes (at last.0) l) on.0 here) last.2, ap Ok (sym (front.entries ∙ ap entries_before last.1)))

-- The next entry.

-- it is a label and a code, with the rest after them
pub record Whole (rest : List ℕ) (next : Next) : Type 0 where
  pub one : Labelled
  pub is : IsLabelled one
  pub known : entry_of one.code ≡ Some next.entry
  pub cut : rest ≡ entry_bytes one ++ drop next.length rest

cut_off : (n : ℕ) (more : List ℕ) → more ≡ (take n more ++ take 4 (drop n more)) ++ drop (n + 4) more
cut_off n more =
    sym (take-append-drop n more) ∙ ap (λ (l : List ℕ). take n more ++ l) (sym (take-append-drop 4 (drop n more)) ∙ ap (λ (l : List ℕ). take 4 (drop n more) ++ l) (drop-drop 4 n more))
    ∙ sym (append_assoc (take n more) (take 4 (drop n more)) (drop (n + 4) more))

pub whole_next : (rest : List ℕ) (next : Next) → IsNext rest next → Whole rest next
whole_next rest next is =
    let n = is.label in
    let more = is.more in
    let fits = is.fits in
    let within : n ≤ length more = omega arith in
    let four : 4 ≤ length (drop n more) = omega (arith, length-drop n more) in
    let size : length (take n more) ≡ n = length-take-le n more within in
    let five : next.length ≡ suc (n + 4) = omega (arith, is.length) in
    record {
      one = record { label = take n more; code = take 4 (drop n more) };
      is = record { code = length-take-le 4 (drop n more) four };
      known = is.known;
      cut = is.whole ∙ ap (λ (l : List ℕ). n ∷ l) (cut_off n more) ∙ ap (λ (k : ℕ). k ∷ ((take n more ++ take 4 (drop n more)) ++ drop (n + 4) more)) (sym size)
          ∙ ap (λ (l : List ℕ). length (take n more) ∷ ((take n more ++ take 4 (drop n more)) ++ l)) (sym (ap (drop next.length) is.whole ∙ ap (λ (k : ℕ). drop k (n ∷ more)) five));
    }

all_push : (front : List Labelled) (one : Labelled) → AllByRecursion IsLabelled front → IsLabelled one → AllByRecursion IsLabelled (front ++ one ∷ [])
all_push [] one all is = (is, tt)
all_push (x ∷ front) one all is = (all.0, all_push front one all.1 is)

map_push : {A B : Type 0} (f : A → B) (xs : List A) (x : A) → map f (xs ++ x ∷ []) ≡ map f xs ++ f x ∷ []
map_push f [] x = refl
map_push f (y ∷ xs) x = ap (λ (l : List _). f y ∷ l) (map_push f xs x)

none_more : {A : Type 0} (xs : List A) → xs ++ [] ≡ xs
none_more [] = refl
none_more (x ∷ xs) = ap (λ (l : List _). x ∷ l) (none_more xs)

pub stands_next : (bytes rest more : List ℕ) (place next : Place) (entry : Entry) (one : Labelled) → Stands bytes place rest → IsLabelled one → rest ≡ entry_bytes one ++ more
    → entry_of one.code ≡ Some entry → behind place entry ≡ Some next → place_fault most_open true place entry ≡ None → Stands bytes next more
stands_next bytes rest more place next entry one stands is cut known goes sound = record {
  front = stands.front ++ one ∷ [];
  whole = all_push stands.front one stands.whole is;
  cut = stands.cut ∙ ap (λ (l : List ℕ). flat_map entry_bytes stands.front ++ l) cut ∙ sym (append_assoc (flat_map entry_bytes stands.front) (entry_bytes one) more)
      ∙ ap (λ (l : List ℕ). (flat_map entry_bytes stands.front ++ l) ++ more) (sym (none_more (entry_bytes one)))
      ∙ ap (λ (l : List ℕ). l ++ more) (sym (flat_map-append entry_bytes stands.front (one ∷ [])));
  known = map_push (λ (entry : Labelled). entry_of entry.code) stands.front one ∙ ap (λ (l : List (Option Entry)). l ++ entry_of one.code ∷ []) stands.known
      ∙ ap (λ (o : Option Entry). map Some (entries_before place) ++ o ∷ []) known ∙ sym (map_push Some (entries_before place) entry) ∙ ap (map Some) (sym (one_more place entry next goes));
  kept = kept_behind most_open true place entry next goes ∙ ap (λ (t : Bool). t && is_none (place_fault most_open true place entry)) stands.kept ∙ ap is_none sound;
}

-- the code goes from places that it shows to the places after an entry
abbrev pub Moves : Bodies → Entry → Bodies → Type 0
Moves old entry new = (place next : Place) → Shows place old → behind place entry ≡ Some next → Shows next new

pub goes_on : (bytes rest more : List ℕ) (old new : Bodies) (next : Next) (before after : List Entry) → Front bytes rest old before → GoesOn old rest (Some next) → Moves old next.entry new
    → more ≡ drop next.length rest → after ≡ before ++ next.entry ∷ [] → Front bytes more new after
goes_on bytes rest more old new next before after front on moves left pushed =
    let whole = whole_next rest next on.0 in
    let seen = entry_seen front.place old next.entry front.shows in
    let sound = sym seen ∙ on.1 in
    let there = place_behind (length (waiting_outside front.place) == most_open) (waits false (innermost front.place)) (has_value (innermost front.place)) front.place next.entry sound in
    record {
      place = there.0;
      stands = stands_next bytes rest more front.place there.0 next.entry whole.one front.stands whole.is (whole.cut ∙ ap (λ (l : List ℕ). entry_bytes whole.one ++ l) (sym left))
          whole.known there.1 (fault_is most_open true front.place next.entry front.stands.kept ∙ sound);
      shows = moves front.place there.0 front.shows there.1;
      entries = pushed ∙ ap (λ (l : List Entry). l ++ next.entry ∷ []) front.entries ∙ sym (one_more front.place next.entry there.0 there.1);
    }

-- bytes are left where an entry is next
pub fewer : (rest more : List ℕ) (bodies : Bodies) (next : Next) → GoesOn bodies rest (Some next) → more ≡ drop next.length rest → length more < length rest
fewer rest more bodies next on left = let is = on.0 in let size = is.length in let fits = is.fits in
    omega (arith, length-drop next.length rest, ap (length {A = ℕ}) left, ap (length {A = ℕ}) is.whole)

-- the next entry is within the bytes
pub within : (rest : List ℕ) (bodies : Bodies) (next : Next) → GoesOn bodies rest (Some next) → next.length ≤ length rest
within rest bodies next on = let is = on.0 in let size = is.length in let fits = is.fits in omega (arith, ap (length {A = ℕ}) is.whole)

-- so few lists are open that no more than may be are
pub few : (bytes rest : List ℕ) (bodies : Bodies) (made : List Entry) → Front bytes rest bodies made → length bodies.outside.items ≤ 60
few bytes rest bodies made front = let kept = front.stands.kept in omega (arith, few_open most_open front.place kept, ap (length {A = Bool}) front.shows.outside)
