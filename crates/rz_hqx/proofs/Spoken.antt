-- A text that was written is read as its numbers.
use Rattle.std.proofs.Common.{◌≡◌, ℕ, ◌+◌, ◌%◌, ◌==◌, ◌&&◌, not, nat_eq, if◌then◌else◌, Bool, true, false, cond, List, [], ◌∷◌, ◌++◌, map, Option, Some, Ok, Result, refl, sym, ap, ◌∙◌, append_assoc}
use Rattle.std.proofs.lemmas.List.{append-nil}
use Rattle.std.specs.List.{AllByRecursion, find, starts_with}
use Rattle.std.specs.Option.{option_map_or}
use Rattle.rz_bridge.specs.Faults.{fault}
use Rattle.rz_bridge.specs.declared.fault.BridgeFault.{BridgeFault}
use Rattle.rz_hqx.specs.Letters.{letter, number_of}
use Rattle.rz_hqx.specs.Text.{head, is_line_end, is_blank, is_head, behind_line, behind_head, body_of, later_lines, numbers_in, gap_at, in_lines, lines_of}
use Rattle.rz_hqx.proofs.Numbered.{numbers_are, numbers_behind, with_number}
use Rattle.rz_hqx.proofs.Sixes.{IsSix, IsLetter, letter_read}

-- a gap passes unread
gap_passes : (count : ℕ) (front : List ℕ) (place : ℕ) (rest : List ℕ) → (next : ℕ) × (numbers_behind front place (gap_at count ++ rest) ≡ numbers_behind front next rest)
gap_passes count front place rest = by_gap (not (count == 0) && (count % 64 == 0))
  where
    by_gap : (t : Bool) → (next : ℕ) × (numbers_behind front place ((if t then 10 ∷ [] else []) ++ rest) ≡ numbers_behind front next rest)
    by_gap true = (place + 1, refl)
    by_gap false = (place, refl)

letter_passes : (front : List ℕ) (place n : ℕ) (rest : List ℕ) → IsLetter n → numbers_behind front place (letter n ∷ rest) ≡ numbers_behind (front ++ n ∷ []) (place + 1) rest
letter_passes front place n rest is =
    let blank = numbers_behind front (place + 1) rest in
    let next : ℕ → Result (List ℕ) BridgeFault = λ number. numbers_behind (front ++ number ∷ []) (place + 1) rest in
    let found = with_number (number_of (letter n)) (fault 442 place (letter n)) next in
    ap (λ (t : Bool). if t then Ok front else if is_blank (letter n) then blank else found) is.colon
    ∙ ap (λ (t : Bool). if t then blank else found) is.blank
    ∙ ap (λ (o : Option ℕ). with_number o (fault 442 place (letter n)) next) is.number

letters_read : (ns : List ℕ) (count : ℕ) (front : List ℕ) (place : ℕ) → AllByRecursion IsSix ns
    → numbers_behind front place (in_lines count (map letter ns ++ 58 ∷ []) ++ 10 ∷ []) ≡ Ok (front ++ ns)
letters_read [] count front place small =
    let gap = gap_passes count front place (58 ∷ 10 ∷ []) in
    ap (numbers_behind front place) (append_assoc (gap_at count) (58 ∷ []) (10 ∷ [])) ∙ gap.1 ∙ ap (λ (l : List ℕ). Ok l) (sym (append-nil front))
letters_read (n ∷ ns) count front place small =
    let rest = in_lines (count + 1) (map letter ns ++ 58 ∷ []) ++ 10 ∷ [] in
    let gap = gap_passes count front place (letter n ∷ rest) in
    ap (numbers_behind front place) (append_assoc (gap_at count) (letter n ∷ in_lines (count + 1) (map letter ns ++ 58 ∷ [])) (10 ∷ [])) ∙ gap.1
    ∙ letter_passes front gap.0 n rest (letter_read n small.0) ∙ letters_read ns (count + 1) (front ++ n ∷ []) (gap.0 + 1) small.1
    ∙ ap (λ (l : List ℕ). Ok l) (append_assoc front (n ∷ []) ns)

-- what stands after the first colon
abbrev pub body_with : List ℕ → List ℕ
body_with ns = in_lines 1 (map letter ns ++ 58 ∷ []) ++ 10 ∷ []

pub body_is : (ns : List ℕ) → body_of (lines_of ns) ≡ Ok (body_with ns)
unfolding behind_head
body_is ns = refl

pub numbers_read : (ns : List ℕ) (place : ℕ) → AllByRecursion IsSix ns → numbers_in place (body_with ns) ≡ Ok ns
numbers_read ns place small = sym (numbers_are (body_with ns) place) ∙ letters_read ns 1 [] place small

-- The first line.

-- what stands after the first of these lines that begins so
abbrev pub found : List (List ℕ) → List ℕ
found lines = option_map_or behind_line (find is_head lines) []

-- the lines from here on; `first` where one begins here
abbrev pub lines_from : Bool → List ℕ → List (List ℕ)
lines_from first text = if first then text ∷ later_lines text else later_lines text

pub begins : (text : List ℕ) → found (lines_from true text) ≡ behind_head text
unfolding behind_head
begins text = refl

-- where a line begins here, and begins so, what is sought stands after its end
pub head_found : (rest all : List ℕ) (first : Bool) → found (lines_from first rest) ≡ all → first ≡ true → starts_with nat_eq rest head ≡ true → behind_line rest ≡ all
head_found rest all first so_far is starts =
    let others = later_lines rest in
    sym
    (ap (λ (t : Bool). found (if t then rest ∷ others else others)) is
    ∙ ap (λ (t : Bool). option_map_or behind_line (cond t (Some rest) (find is_head others)) []) starts)
    ∙ so_far

-- else it stands after a byte
pub byte_passed : (b : ℕ) (bs all : List ℕ) (first : Bool) → found (lines_from first (b ∷ bs)) ≡ all → (first && starts_with nat_eq (b ∷ bs) head) ≡ false
    → found (lines_from (is_line_end b) bs) ≡ all
byte_passed b bs all false so_far other = so_far
byte_passed b bs all true so_far other =
    sym (ap (λ (t : Bool). option_map_or behind_line (cond t (Some (b ∷ bs)) (find is_head (later_lines (b ∷ bs)))) []) other) ∙ so_far

-- after the last byte there is no such line
pub none_found : (rest all : List ℕ) (first : Bool) → found (lines_from first rest) ≡ all → rest ≡ [] → rest ≡ all
none_found [] all true so_far ended = so_far
none_found [] all false so_far ended = so_far
none_found (b ∷ bs) all first so_far ended = absurd cc
