-- Every text has its lines and its ending.
use Rattle.std.proofs.Common.{◌≡◌, ◌≢◌, ℕ, zero, suc, ◌≤◌, Bool, true, false, List, [], ◌∷◌, ◌++◌, length, Option, Some, None, refl, ap, arith, length-append}
use Rattle.std.specs.Prelude.{if◌then◌else◌}
use Rattle.rz_core.specs.declared.fault.Fault.{Fault}
use Rattle.rz_lex.specs.declared.joined.Placed.{Placed}
use Rattle.rz_lex.specs.declared.raw_line.RawLine.{RawLine}
use Rattle.rz_lex.specs.Joined.{is_at}
use Rattle.rz_lex.specs.Cover.{after_part, Parts}
use Rattle.rz_lex.specs.Lines.{lines_of, open_comment, part_before, HasLines}
use Rattle.rz_lex.proofs.Fronts.{part_front}

-- first parts after which no part stands
abbrev AllParts : List Placed → Type 0
AllParts text = (parts : List (List Placed)) × (rest : List Placed) × Parts text parts rest × (after_part rest ≡ None)

step : (a : Placed) (more : List Placed) → ((rest : List Placed) → length rest ≤ length more → AllParts rest) → (o : Option (List Placed)) → after_part (a ∷ more) ≡ o → AllParts (a ∷ more)
step a more further None e = ([], a ∷ more, refl, e)
step a more further (Some rest) e =
    let f = part_front a more rest e in
    let r = further rest (omega (arith, ap length f.1, length-append f.0 rest)) in
    ((a ∷ f.0) ∷ r.0, r.1, (rest, ap (λ (ys : List Placed). a ∷ ys) f.1, e, r.2), r.3)

parts_exist : (n : ℕ) (text : List Placed) → length text ≤ n → AllParts text
parts_exist n [] h = ([], [], refl, refl)
parts_exist zero (a ∷ more) h = absurd (omega (arith, h))
parts_exist (suc n) (a ∷ more) h = step a more (λ rest l. parts_exist n rest (omega (arith, l, h))) (after_part (a ∷ more)) refl

some_line : (file : ℕ) (p : List Placed) (lines : List RawLine) (b : Bool) (l : RawLine) → (if b then l ∷ lines else part_before file p lines) ≢ []
some_line file p lines true l e = cc
some_line file p [] false l e = cc
some_line file p (k ∷ lines) false l e = cc

lines_some : (file : ℕ) (ps : List (List Placed)) (p : List Placed) → lines_of file (ps ++ p ∷ []) ≢ []
lines_some file [] p = some_line file p [] (is_at 10 p) _
lines_some file (q ∷ ps) p = some_line file q (lines_of file (ps ++ p ∷ [])) (is_at 10 q) _

last_of : (lines : List RawLine) → lines ≢ [] → (front : List RawLine) × (last : RawLine) × (lines ≡ front ++ last ∷ [])
last_of [] there = absurd (there refl)
last_of (l ∷ []) there = ([], l, refl)
last_of (l ∷ k ∷ lines) there = let r = last_of (k ∷ lines) (λ e. absurd cc) in (l ∷ r.0, r.1, ap (λ (x : List RawLine). l ∷ x) r.2)

ended : (file : ℕ) (text : List Placed) (ps : List (List Placed)) (rest : List Placed) → Parts text ps rest → after_part rest ≡ None
    → (lines : List RawLine) × (ending : Option Fault) × HasLines file text lines ending
ended file text ps [] taken stuck = (lines_of file ps, None, record { parts = ps; cover = taken; are = refl })
ended file text ps (a ∷ more) taken stuck =
    let r = last_of (lines_of file (ps ++ (a ∷ more) ∷ [])) (lines_some file ps (a ∷ more)) in (
      r.0,
      Some (open_comment r.1.mark),
      record {
        parts = ps;
        comment = a ∷ more;
        before = taken;
        endless = stuck;
        there = λ e. absurd cc;
        last = r.1;
        are = r.2;
        is = refl;
      },
    )

pub has_lines : (file : ℕ) (text : List Placed) → (lines : List RawLine) × (ending : Option Fault) × HasLines file text lines ending
has_lines file text = let r = parts_exist (length text) text (omega arith) in ended file text r.0 r.1 r.2 r.3
