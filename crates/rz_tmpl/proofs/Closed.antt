-- Closed templates are those that can be read.
use Rattle.std.proofs.Common.{◌≡◌, ℕ, zero, suc, ◌+◌, ◌≤◌, Bool, true, false, Option, Some, None, refl, ap, ◌∙◌, arith}
use Rattle.std.specs.Prelude.{◌&&◌, ◌||◌, not, nat_le, if◌then◌else◌}
use Rattle.std.specs.Option.{is_some}
use Rattle.std.proofs.lemmas.Bool.Decides.{nat_tests}
use Rattle.rz_expr.specs.Environment.{count_key, Key}
use Rattle.rz_tmpl.specs.Items.{count, has_value, is_kept, list, none, one, waits, Items}
use Rattle.rz_tmpl.specs.declared.entry.CountForm.{CountForm}
use Rattle.rz_tmpl.specs.declared.entry.CountForm.TheVariants.{LessOne, Rows}
use Rattle.rz_tmpl.specs.declared.entry.ListForm.TheVariants.{Counted, Uncounted}
use Rattle.rz_tmpl.specs.declared.entry.Plain.{Plain}
use Rattle.rz_tmpl.specs.declared.entry.Plain.TheVariants.{Aligned, Character, Number, Pascal, Rectangle, Rest, TypeName, ZeroEnded, Zeros}
use Rattle.rz_tmpl.specs.declared.entry.Size.TheVariants.{Byte, Long, Word}
use Rattle.rz_tmpl.specs.Body.{body_from, count_field, field_of, list_name, lists_of, next_named, rows_term, tmpl_body}
use Rattle.rz_tmpl.specs.Closed.{is_closed, is_fixed, is_fixed_one, is_inner}
use Rattle.rz_tmpl.proofs.Kept.{listed, no, no_more, or_left, or_right}
use Rattle.rz_tmpl.proofs.Shape.{both}
use Rattle.rz_types_fields.specs.Field.{field_and, Array, PlainBody}
use Rattle.rz_types_fields.specs.Passed.{at_field, at_front, behind, declares, gives_key, is_held, is_known, is_label, is_measured, is_near, nothing_passed, Names, Passed}
use Rattle.rz_types_fields.specs.Solve.{has_key, is_same_key}
use Rattle.rz_types_fields.specs.Width.{fixed_width, fixed_widths, plus}
use Rattle.rz_types_fields.proofs.SameNames.{key_itself}
use Rattle.rz_types.specs.Readable.{are_read, ends_at_label, is_number_read, is_readable, is_told_label, least_width, least_widths, rows_end}

-- Bools.

pub and_false : (a : Bool) → (a && false) ≡ false
and_false true = refl
and_false false = refl

and_three : (a b c : Bool) → a ≡ true → b ≡ true → c ≡ true → (a && b && c) ≡ true
and_three true true c is other more = more
and_three true false c is other more = no other
and_three false b c is other more = no is

and_when : (a b : Bool) → (b ≡ true → a ≡ true) → (a && b) ≡ b
and_when a true so = ap (λ (t : Bool). t && true) (so refl)
and_when a false so = and_false a

and_so : (a b : Bool) → (a ≡ true → b ≡ true) → (a && b) ≡ a
and_so true b so = so refl
and_so false b so = refl

-- Fields of fixed width.

plus_some : (a b : Option ℕ) → is_some (plus a b) ≡ (is_some a && is_some b)
plus_some None b = refl
plus_some (Some x) None = refl
plus_some (Some x) (Some y) = refl

fixed_one : (plain : Plain) → is_some (fixed_width (field_of plain)) ≡ is_fixed_one plain
fixed_one (Number size hex) = refl
fixed_one Character = refl
fixed_one TypeName = refl
fixed_one Rectangle = refl
fixed_one (Zeros size) = refl
fixed_one (Aligned size) = refl
fixed_one Pascal = refl
fixed_one ZeroEnded = refl
fixed_one Rest = refl

-- a list stands after a count that waits
unfixed : (left k : ℕ) (items : Items) → is_kept left true items ≡ true → waits true items ≡ false → is_some (fixed_widths (body_from k items)) ≡ false
unfixed left k none kept ends = no_more ends
unfixed left k (one plain rest) kept ends =
    plus_some (fixed_width (field_of plain)) (fixed_widths (body_from k rest)) ∙ ap (λ (t : Bool). is_some (fixed_width (field_of plain)) && t) (unfixed left k rest kept ends)
    ∙ and_false (is_some (fixed_width (field_of plain)))
unfixed left k (count less rest) kept ends = no kept
unfixed zero k (list form row rest) kept ends = no kept
unfixed (suc left) k (list Counted row rest) kept ends = refl
unfixed (suc left) k (list Uncounted row rest) kept ends = refl

pub fixed_is : (left k : ℕ) (w : Bool) (items : Items) → is_kept left w items ≡ true → waits w items ≡ false → is_some (fixed_widths (body_from k items)) ≡ is_fixed items
fixed_is left k w none kept ends = refl
fixed_is left k w (one plain rest) kept ends =
    plus_some (fixed_width (field_of plain)) (fixed_widths (body_from k rest)) ∙ ap (λ (t : Bool). is_some (fixed_width (field_of plain)) && t) (fixed_is left k w rest kept ends)
    ∙ ap (λ (t : Bool). t && is_fixed rest) (fixed_one plain)
fixed_is left k true (count less rest) kept ends = no kept
fixed_is left k false (count less rest) kept ends = plus_some (fixed_width (count_field less (next_named k rest))) (fixed_widths (body_from k rest)) ∙ unfixed left k rest kept ends
fixed_is zero k w (list form row rest) kept ends = no kept
fixed_is (suc left) k w (list Counted row rest) kept ends = refl
fixed_is (suc left) k w (list Uncounted row rest) kept ends = refl

pub fixed_closed : (items : Items) → is_fixed items ≡ true → is_closed items ≡ true
fixed_closed none is = refl
fixed_closed (one (Number size hex) rest) is = fixed_closed rest is
fixed_closed (one Character rest) is = fixed_closed rest is
fixed_closed (one TypeName rest) is = fixed_closed rest is
fixed_closed (one Rectangle rest) is = fixed_closed rest is
fixed_closed (one (Zeros size) rest) is = fixed_closed rest is
fixed_closed (one (Aligned size) rest) is = no is
fixed_closed (one Pascal rest) is = no is
fixed_closed (one ZeroEnded rest) is = no is
fixed_closed (one Rest rest) is = no is
fixed_closed (count less rest) is = no is
fixed_closed (list form row rest) is = no is

-- The least width of a row.

at_least : (n m : ℕ) → 8 ≤ n → 8 ≤ n + m
at_least n m is = omega arith

later : (n m : ℕ) → 8 ≤ m → 8 ≤ n + m
later n m is = omega arith

eight : 8 ≤ 8
eight = omega arith

sixteen : 8 ≤ 16
sixteen = omega arith

thirty_two : 8 ≤ 32
thirty_two = omega arith

sixty_four : 8 ≤ 64
sixty_four = omega arith

pub wide : (left k : ℕ) (items : Items) → is_kept left false items ≡ true → is_inner items ≡ true → has_value items ≡ true → 8 ≤ least_widths (body_from k items)
wide left k none kept inner value = no value
wide left k (one (Number Byte hex) rest) kept inner value = at_least 8 (least_widths (body_from k rest)) eight
wide left k (one (Number Word hex) rest) kept inner value = at_least 16 (least_widths (body_from k rest)) sixteen
wide left k (one (Number Long hex) rest) kept inner value = at_least 32 (least_widths (body_from k rest)) thirty_two
wide left k (one Character rest) kept inner value = at_least 8 (least_widths (body_from k rest)) eight
wide left k (one TypeName rest) kept inner value = at_least 32 (least_widths (body_from k rest)) thirty_two
wide left k (one Rectangle rest) kept inner value = at_least 64 (least_widths (body_from k rest)) sixty_four
wide left k (one (Zeros size) rest) kept inner value = later (least_width (field_of (Zeros size))) (least_widths (body_from k rest)) (wide left k rest kept inner value)
wide left k (one (Aligned size) rest) kept inner value = later 0 (least_widths (body_from k rest)) (wide left k rest kept inner value)
wide left k (one Pascal rest) kept inner value = at_least 8 (least_widths (body_from k rest)) eight
wide left k (one ZeroEnded rest) kept inner value = at_least 8 (least_widths (body_from k rest)) eight
wide left k (one Rest rest) kept inner value = no inner
wide left k (count less rest) kept inner value = at_least 16 (least_widths (body_from k rest)) sixteen
wide zero k (list form row rest) kept inner value = no kept
wide (suc left) k (list Counted row rest) kept inner value = no kept
wide (suc left) k (list Uncounted row rest) kept inner value = no inner

has_bits : (n : ℕ) → 8 ≤ n → (nat_le 1 n ≡ true) × (nat_le 8 n ≡ true)
has_bits n is = (grind (arith, nat_tests), grind (arith, nat_tests))

-- Names.

-- the field of an entry is no label, and gives no key a value
pub nameless : (plain : Plain)
    → ((told : Names) → is_told_label (field_of plain) told ≡ false) × ((key : Key) → is_label (field_of plain) key ≡ false) × ((key : Key) → gives_key (field_of plain) key ≡ false)
nameless (Number size hex) = (λ told. refl, λ key. refl, λ key. refl)
nameless Character = (λ told. refl, λ key. refl, λ key. refl)
nameless TypeName = (λ told. refl, λ key. refl, λ key. refl)
nameless Rectangle = (λ told. refl, λ key. refl, λ key. refl)
nameless (Zeros size) = (λ told. refl, λ key. refl, λ key. refl)
nameless (Aligned size) = (λ told. refl, λ key. refl, λ key. refl)
nameless Pascal = (λ told. refl, λ key. refl, λ key. refl)
nameless ZeroEnded = (λ told. refl, λ key. refl, λ key. refl)
nameless Rest = (λ told. refl, λ key. refl, λ key. refl)

pub no_label : (k : ℕ) (items : Items) (told : Names) → ends_at_label (body_from k items) told ≡ false
no_label k none told = refl
no_label k (one plain rest) told =
    ap (λ (t : Bool). t || (is_some (fixed_width (field_of plain)) && ends_at_label (body_from k rest) told)) ((nameless plain).0 told)
    ∙ ap (λ (t : Bool). is_some (fixed_width (field_of plain)) && t) (no_label k rest told) ∙ and_false (is_some (fixed_width (field_of plain)))
no_label k (count less rest) told = no_label k rest told
no_label k (list Counted row rest) told = refl
no_label k (list Uncounted row rest) told = refl

pub no_near : (k : ℕ) (items : Items) (key : Key) → is_near (body_from k items) key ≡ false
no_near k none key = refl
no_near k (one plain rest) key =
    ap (λ (t : Bool). t || (is_measured (field_of plain) && is_near (body_from k rest) key)) ((nameless plain).1 key)
    ∙ ap (λ (t : Bool). is_measured (field_of plain) && t) (no_near k rest key) ∙ and_false (is_measured (field_of plain))
no_near k (count less rest) key = no_near k rest key
no_near k (list Counted row rest) key = refl
no_near k (list Uncounted row rest) key = refl

-- Counts.

abbrev pub list_key : ℕ → Key
list_key n = count_key (list_name n).bytes

pub same_list : (n : ℕ) → is_same_key (list_key n) (list_key n) ≡ true
same_list n = key_itself (list_key n)

pub declared : (left k : ℕ) (items : Items) → is_kept left true items ≡ true → waits true items ≡ false → declares (body_from k items) (list_key (next_named k items)) ≡ true
declared left k none kept ends = no_more ends
declared left k (one plain rest) kept ends =
    ap (λ (t : Bool). t || declares (body_from k rest) (list_key (next_named k rest))) ((nameless plain).2 (list_key (next_named k rest))) ∙ declared left k rest kept ends
declared left k (count less rest) kept ends = no kept
declared zero k (list form row rest) kept ends = no kept
declared (suc left) k (list Counted row rest) kept ends = or_left _ _ (or_left _ _ (same_list k))
declared (suc left) k (list Uncounted row rest) kept ends = declared (suc left) (k + lists_of row) rest (listed left Uncounted true row rest kept).others ends

pub has_rows : (less : CountForm) (n : ℕ) → has_key (list_key n) (rows_term less n) ≡ true
has_rows LessOne n = or_left _ _ (same_list n)
has_rows Rows n = or_left _ _ (same_list n)

solves : (rest : PlainBody) (passed : Passed) (less : CountForm) (n : ℕ) → declares rest (list_key n) ≡ true → is_number_read rest passed (Some (rows_term less n)) ≡ true
solves rest passed Rows n is =
    or_right _ _ (or_left _ _ (and_three _ _ _ is (same_list n) (ap (λ (t : Bool). t && true) (or_left (is_same_key (list_key n) (list_key n)) (is_known passed (list_key n)) (same_list n)))))
solves rest passed LessOne n is =
    or_right _ _ (or_left _ _ (and_three _ _ _ is (ap (λ (t : Bool). if t || false then t else false) (same_list n)) (ap (λ (t : Bool). t && true) (or_left (is_same_key (list_key n) (list_key n)) (is_known passed (list_key n)) (same_list n)))))

told_either : (met told near has : Bool) → near ≡ false → has ≡ true → (met || ((has && not (near || (met || told))) || told)) ≡ true
told_either true told near has no_near is = refl
told_either false true near has no_near is = or_right _ true refl
told_either false false near has no_near is = ap (λ (t : Bool). (t && not (near || false)) || false) is ∙ ap (λ (t : Bool). not (t || false) || false) no_near

pub told : (k : ℕ) (rest : Items) (passed : Passed) (less : CountForm) (n : ℕ)
    → is_held (behind (count_field less n) (at_field (field_and (count_field less n) (body_from k rest)) passed)) (list_key n) ≡ true
told k rest passed less n =
    told_either (passed.met (list_key n)) (passed.told (list_key n)) (is_near (body_from k rest) (list_key n)) (has_key (list_key n) (rows_term less n)) (no_near k rest (list_key n)) (has_rows less n)

pub plain_held : (plain : Plain) (body : PlainBody) (passed : Passed) (key : Key) → is_held (behind (field_of plain) (at_field body passed)) key ≡ is_held passed key
plain_held (Number size hex) body passed key = refl
plain_held Character body passed key = refl
plain_held TypeName body passed key = refl
plain_held Rectangle body passed key = refl
plain_held (Zeros size) body passed key = refl
plain_held (Aligned size) body passed key = refl
plain_held Pascal body passed key = refl
plain_held ZeroEnded body passed key = refl
plain_held Rest body passed key = refl

-- Bodies.

-- a row is within a list, where a text to the end and a list without a count have no end
abbrev closed_in : (outermost : Bool) → Items → Bool
closed_in outermost items = if outermost then is_closed items else is_inner items

abbrev after : Plain → ℕ → Items → Passed → Passed
after plain k rest passed = behind (field_of plain) (at_field (body_from k (one plain rest)) passed)

rest_ends : (label ends : Bool) → label ≡ false → (((false || label || ends) && true) && true) ≡ ends
rest_ends true ends is = no_more is
rest_ends false true is = refl
rest_ends false false is = refl

rows_some : (a b c : Bool) → a ≡ true → (a || b || c) ≡ true
rows_some true b c is = refl
rows_some false b c is = no is

rows_ends : (label a b ends : Bool) → label ≡ false → ((false && a) || (label && b) || ends) ≡ ends
rows_ends true a b ends is = no_more is
rows_ends false a b ends is = refl

-- the end of the resource alone ends such a list
plain_list : (fixed wide inner closed : Bool) → (inner ≡ true → wide ≡ true) → (fixed ≡ true → closed ≡ true) → (((fixed && wide) && inner) && closed) ≡ (inner && fixed)
plain_list true wide true closed wider so = ap (λ (t : Bool). (t && true) && closed) (wider refl) ∙ so refl
plain_list true true false closed wider so = refl
plain_list true false false closed wider so = refl
plain_list false wide true closed wider so = refl
plain_list false wide false closed wider so = refl

list_closed : (outermost : Bool) (row rest : Items) → (is_inner row && closed_in outermost rest) ≡ closed_in outermost (list Counted row rest)
list_closed true row rest = refl
list_closed false row rest = refl

reads : (left k : ℕ) (w outermost : Bool) (items : Items) (passed : Passed) → is_kept left w items ≡ true → waits w items ≡ false
    → (w ≡ true → is_held passed (list_key (next_named k items)) ≡ true) → are_read outermost passed (body_from k items) ≡ closed_in outermost items
reads left k w true none passed kept ends held = refl
reads left k w false none passed kept ends held = refl
reads left k w outermost (one (Number size hex) rest) passed kept ends held =
    reads left k w outermost rest (after (Number size hex) k rest passed) kept ends (λ is. plain_held (Number size hex) (body_from k (one (Number size hex) rest)) passed (list_key (next_named k rest)) ∙ held is)
reads left k w outermost (one Character rest) passed kept ends held =
    reads left k w outermost rest (after Character k rest passed) kept ends (λ is. plain_held Character (body_from k (one Character rest)) passed (list_key (next_named k rest)) ∙ held is)
reads left k w outermost (one TypeName rest) passed kept ends held =
    reads left k w outermost rest (after TypeName k rest passed) kept ends (λ is. plain_held TypeName (body_from k (one TypeName rest)) passed (list_key (next_named k rest)) ∙ held is)
reads left k w outermost (one Rectangle rest) passed kept ends held =
    reads left k w outermost rest (after Rectangle k rest passed) kept ends (λ is. plain_held Rectangle (body_from k (one Rectangle rest)) passed (list_key (next_named k rest)) ∙ held is)
reads left k w outermost (one (Zeros size) rest) passed kept ends held =
    reads left k w outermost rest (after (Zeros size) k rest passed) kept ends (λ is. plain_held (Zeros size) (body_from k (one (Zeros size) rest)) passed (list_key (next_named k rest)) ∙ held is)
reads left k w outermost (one (Aligned size) rest) passed kept ends held =
    reads left k w outermost rest (after (Aligned size) k rest passed) kept ends (λ is. plain_held (Aligned size) (body_from k (one (Aligned size) rest)) passed (list_key (next_named k rest)) ∙ held is)
reads left k w outermost (one Pascal rest) passed kept ends held =
    reads left k w outermost rest (after Pascal k rest passed) kept ends (λ is. plain_held Pascal (body_from k (one Pascal rest)) passed (list_key (next_named k rest)) ∙ held is)
reads left k w outermost (one ZeroEnded rest) passed kept ends held =
    reads left k w outermost rest (after ZeroEnded k rest passed) kept ends (λ is. plain_held ZeroEnded (body_from k (one ZeroEnded rest)) passed (list_key (next_named k rest)) ∙ held is)
reads left k w true (one Rest rest) passed kept ends held =
    let next = reads left k w true rest (after Rest k rest passed) kept ends (λ is. plain_held Rest (body_from k (one Rest rest)) passed (list_key (next_named k rest)) ∙ held is) in
    ap (λ (t : Bool). t && are_read true (after Rest k rest passed) (body_from k rest))
    (rest_ends (ends_at_label (body_from k rest) passed.told) (is_some (fixed_widths (body_from k rest))) (no_label k rest passed.told) ∙ fixed_is left k w rest kept ends)
    ∙ ap (λ (t : Bool). is_fixed rest && t) next ∙ and_so (is_fixed rest) (is_closed rest) (fixed_closed rest)
reads left k w false (one Rest rest) passed kept ends held =
    ap (λ (t : Bool). t && are_read false (after Rest k rest passed) (body_from k rest)) (rest_ends (ends_at_label (body_from k rest) passed.told) false (no_label k rest passed.told))
reads left k true outermost (count less rest) passed kept ends held = no kept
reads left k false outermost (count less rest) passed kept ends held =
    let n = next_named k rest in
    let next = behind (count_field less n) (at_field (body_from k (count less rest)) passed) in
    ap (λ (t : Bool). (t && true) && are_read outermost next (body_from k rest)) (solves (body_from k rest) (at_field (body_from k (count less rest)) passed) less n (declared left k rest kept ends))
    ∙ reads left k true outermost rest next kept ends (λ is. told k rest passed less n)
reads zero k w outermost (list form row rest) passed kept ends held = no kept
reads (suc left) k w outermost (list Counted row rest) passed kept ends held =
    let is = listed left Counted w row rest kept in
    let here = at_field (body_from k (list Counted row rest)) passed in
    let others = body_from (k + 1 + lists_of row) rest in
    let body = body_from (k + 1) row in
    let array = Array (Some (list_name k)) None body in
    ap (λ (t : Bool). (rows_end outermost others here (Some (list_name k)) None body && t) && are_read outermost (behind array here) others)
    (reads left (k + 1) false false row (at_front body here) is.inside is.ends (λ so. no so))
    ∙ ap (λ (t : Bool). t && are_read outermost (behind array here) others)
    (and_when (rows_end outermost others here (Some (list_name k)) None body) (is_inner row)
    (λ inner. rows_some _ _ _ (both _ _ (or_right (here.near (list_key k)) (is_held passed (list_key k)) (held is.starts)) (has_bits (least_widths body) (wide left (k + 1) row is.inside inner is.value)).0)))
    ∙ ap (λ (t : Bool). is_inner row && t) (reads (suc left) (k + 1 + lists_of row) false outermost rest (behind array here) is.others ends (λ so. no so))
    ∙ list_closed outermost row rest
reads (suc left) k w true (list Uncounted row rest) passed kept ends held =
    let is = listed left Uncounted w row rest kept in
    let here = at_field (body_from k (list Uncounted row rest)) passed in
    let others = body_from (k + lists_of row) rest in
    let body = body_from k row in
    let array = Array None None body in
    let bits = least_widths body in
    let next = reads (suc left) (k + lists_of row) w true rest (behind array here) is.others ends held in
    ap (λ (t : Bool). (t && are_read false (at_front body here) body) && are_read true (behind array here) others)
    (rows_ends (ends_at_label others here.told) (nat_le 1 bits) (nat_le 1 bits) (is_some (fixed_widths others) && nat_le 8 bits) (no_label (k + lists_of row) rest here.told))
    ∙ ap (λ (t : Bool). ((t && nat_le 8 bits) && are_read false (at_front body here) body) && are_read true (behind array here) others) (fixed_is (suc left) (k + lists_of row) w rest is.others ends)
    ∙ ap (λ (t : Bool). ((is_fixed rest && nat_le 8 bits) && t) && are_read true (behind array here) others) (reads left k false false row (at_front body here) is.inside is.ends (λ so. no so))
    ∙ ap (λ (t : Bool). ((is_fixed rest && nat_le 8 bits) && is_inner row) && t) next
    ∙ plain_list (is_fixed rest) (nat_le 8 bits) (is_inner row) (is_closed rest) (λ inner. (has_bits bits (wide left k row is.inside inner is.value)).1) (fixed_closed rest)
reads (suc left) k w false (list Uncounted row rest) passed kept ends held =
    let here = at_field (body_from k (list Uncounted row rest)) passed in
    let others = body_from (k + lists_of row) rest in
    let body = body_from k row in
    let array = Array None None body in
    let bits = least_widths body in
    ap (λ (t : Bool). (t && are_read false (at_front body here) body) && are_read false (behind array here) others)
    (rows_ends (ends_at_label others here.told) (nat_le 1 bits) (nat_le 1 bits) false (no_label (k + lists_of row) rest here.told))

pub closed_is : (items : Items) → is_kept 60 false items ≡ true → waits false items ≡ false → is_readable (tmpl_body items) ≡ is_closed items
closed_is items kept ends = reads 60 1 false true items (at_front (tmpl_body items) nothing_passed) kept ends (λ so. no so)
