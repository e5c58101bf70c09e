-- Marks of late bits, where more are read.
use Rattle.std.proofs.Common.{◌≡◌, ℕ, ◌+◌, ◌-◌, ◌≤◌, Bool, true, false, List, ◌++◌, length, Option, Some, None, IfOk, IfSome, Result, Ok, Err, refl, sym, ap, ◌∙◌, append_assoc, arith}
use Rattle.std.specs.Prelude.{option_map, replicate}
use Rattle.std.proofs.lemmas.List.{append-nil, length-append, length-replicate, replicate-append-replicate}
use Rattle.rz_types_fields.specs.Known.{known}
use Rattle.rz_types_fields.specs.Sees.{marked, Late}
use Rattle.rz_unlay_pieces.specs.Came.{step_in, step_of}
use Rattle.rz_unlay_pieces.specs.Pieces.{late_behind, Step}
use Rattle.rz_unlay_pieces.specs.declared.came.Came.{Came}
use Rattle.rz_unlay_pieces.specs.declared.learnt.Learnt.{Learnt}

-- so many and then so many
pub late_more : (late : Late) (one other : ℕ) (mark : Bool) → late_behind (late_behind late one mark) other mark ≡ late_behind late (one + other) mark
late_more late one other mark =
    append_assoc late (replicate one mark) (replicate other mark) ∙ ap (λ (marks : List Bool). late ++ marks) (replicate-append-replicate one other mark)

-- after bits that aren't late no more is marked
pub marked_more : (marks : List Bool) (at count : ℕ) → length marks ≤ at → marked (at + count) marks ≡ late_behind (marked at marks) count false
marked_more marks at count few =
    let e : at + count - length marks ≡ (at - length marks) + count = omega (arith, few) in
    ap (λ (n : ℕ). marks ++ replicate n false) e ∙ sym (late_more marks (at - length marks) count false)

pub marked_long : (marks : List Bool) (at : ℕ) → length marks ≤ at → length (marked at marks) ≡ at
marked_long marks at few =
    let a = length-append marks (replicate (at - length marks) false) in
    let b = length-replicate {A = Bool} (at - length marks) false in
    omega (arith, a, b, few)

-- and late bits have each a mark
pub marked_late : (marks own : List Bool) (at count : ℕ) → length marks ≤ at → own ≡ marked at marks ++ replicate count true
    → marked (at + count) own ≡ late_behind (marked at marks) count true
marked_late marks own at count few is =
    let long = late_long marks own at count few is in
    let e : at + count - length own ≡ 0 = omega (arith, long) in
    ap (λ (n : ℕ). own ++ replicate n false) e ∙ append-nil own ∙ is
  where
    late_long : (marks own : List Bool) (at count : ℕ) → length marks ≤ at → own ≡ marked at marks ++ replicate count true → length own ≡ at + count
    late_long marks own at count few is =
        let a = length-append (marked at marks) (replicate count true) in
        let b = length-replicate {A = Bool} count true in
        let c = marked_long marks at few in
        let d = ap length is in
        omega (arith, a, b, c, d)

-- what the code pushes: marks up to the place, and then those of the late bits
pub pushed_marks : (marks gap own : List Bool) (at count : ℕ) → length marks ≤ at → gap ≡ marks ++ replicate (at - length marks) false → own ≡ gap ++ replicate count true
    → marked (at + count) own ≡ late_behind (marked at marks) count true
pushed_marks marks gap own at count few gap_is is = marked_late marks own at count few (is ∙ ap (λ (bits : List Bool). bits ++ replicate count true) gap_is)

pub pushed_long : (marks gap own : List Bool) (at count : ℕ) → length marks ≤ at → gap ≡ marks ++ replicate (at - length marks) false → own ≡ gap ++ replicate count true
    → length own ≤ at + count
pushed_long marks gap own at count few gap_is is =
    let a = length-append gap (replicate count true) in
    let b = length-replicate {A = Bool} count true in
    let c = marked_long marks at few in
    let d = ap length is in
    let e = ap length gap_is in
    omega (arith, a, b, c, d, e)

-- What came, where none of its bits is late.

pub step_behind : (learnt : Learnt) (came : Option Came) (at count : ℕ) → length learnt.marks ≤ at → IfSome came (λ c. c.after ≡ at + count)
    → option_map (step_of learnt) came ≡ option_map (step_in (known learnt.notes.items) (late_behind (marked at learnt.marks) count false)) came
step_behind learnt None at count few after = refl
step_behind learnt (Some c) at count few after =
    ap (λ (late : Late). Some (step_in (known learnt.notes.items) late c)) (ap (λ (n : ℕ). marked n learnt.marks) after ∙ marked_more learnt.marks at count few)

-- and its bits end after the marks
pub ends_behind : (came : Option Came) (at count few : ℕ) → few ≤ at → IfSome came (λ c. c.after ≡ at + count) → IfSome came (λ c. few ≤ c.after)
ends_behind None at count few short after = after
ends_behind (Some c) at count few short after = omega (arith, short, after)

-- What is so where a call didn't run out of memory.

pub ok_so : {X E : Type 0} (P Q : X → Type 0) (result : Result X E) → ((x : X) → P x → Q x) → IfOk result P → IfOk result Q
ok_so P Q (Ok x) so is = so x is
ok_so P Q (Err e) so is = tt

pub came_behind : {E : Type 0} (learnt : Learnt) (result : Result (Option Came) E) (at count : ℕ) (whole : Option Step) → length learnt.marks ≤ at
    → IfOk result (λ came. IfSome came (λ c. c.after ≡ at + count))
    → IfOk result (λ came. option_map (step_in (known learnt.notes.items) (late_behind (marked at learnt.marks) count false)) came ≡ whole)
    → IfOk result (λ came. option_map (step_of learnt) came ≡ whole)
came_behind learnt (Ok came) at count whole few after is = step_behind learnt came at count few after ∙ is
came_behind learnt (Err e) at count whole few after is = tt

pub behind_marks : (came : Option Came) (at few : ℕ) → few ≤ at → IfSome came (λ c. at ≤ c.after) → IfSome came (λ c. few ≤ c.after)
behind_marks None at few short after = after
behind_marks (Some c) at few short after = omega (arith, short, after)
