-- Texts that are put one after another.
use Rattle.std.proofs.Common.{◌≡◌, ℕ, List, [], ◌++◌, Ok, Err, refl, ap, subst, ◌∙◌}
use Rattle.std.specs.Prelude.{IsErrAnd}
use Rattle.std.specs.declared.result.Result.{Result}
use Rattle.rz_folder.proofs.Streams.{front_before, front_behind, got_nothing, got_then, told_same, told_so, told_then}
use Rattle.rz_folder.specs.Counts.{next}
use Rattle.rz_folder.specs.Sink.{Got, GotFront}
use Rattle.rz_folder.specs.declared.sink.Sink.{Ghosts}
use Rattle.rz_told.specs.Puts.{PutsText}
use Rattle.rz_told.specs.declared.put.Failed.{Failed}

module _ {O : Type 0} (g : Ghosts O) where
  -- nothing was put
  pub puts_nothing : (s : O) → PutsText g s s [] (Ok tt)
  puts_nothing s = record { told = told_same (Got []) got_nothing (g.stream s); counted = refl }

  -- a text was put, and then another one
  pub puts_then : {old mid new : O} {first second : List ℕ} {result : Result (Unit {0}) Failed} (done : Unit {0})
      → PutsText g old mid first (Ok done) → PutsText g mid new second result → PutsText g old new (first ++ second) result
  puts_then {old = old} {mid = mid} {new = new} {first = first} {second = second} {result = Ok there} done one two = record {
    told = told_then (Got first) (Got second) (Got (first ++ second)) (got_then first second) (g.stream old) (g.stream mid) (g.stream new) one.told two.told;
    counted = two.counted ∙ one.counted;
  }
  puts_then {old = old} {mid = mid} {new = new} {first = first} {second = second} {result = Err failed} done one two = record {
    told = told_then (Got first) (GotFront second) (GotFront (first ++ second)) (front_behind first second) (g.stream old) (g.stream mid) (g.stream new) one.told two.told;
    counted = two.counted ∙ ap next one.counted;
  }

  -- a put of the first text failed, and nothing of the second one is put
  pub puts_stop : {old new : O} {first : List ℕ} {failed : Failed} (second : List ℕ) → PutsText g old new first (Err failed) → PutsText g old new (first ++ second) (Err failed)
  puts_stop {old = old} {new = new} {first = first} second one = record {
    told = told_so (GotFront first) (GotFront (first ++ second)) (front_before first second) (g.stream old) (g.stream new) one.told;
    counted = one.counted;
  }

  -- the end of a `?`
  pub puts_end : {old new : O} {text : List ℕ} {failed : Failed} (result : Result (Unit {0}) Failed) → IsErrAnd result (λ e. e ≡ failed)
      → PutsText g old new text (Err failed) → PutsText g old new text result
  puts_end (Ok done) is one = absurd is
  puts_end (Err other) is one = record { told = one.told; counted = one.counted }

  -- the same text in other words
  pub puts_as : {old new : O} {text : List ℕ} {result : Result (Unit {0}) Failed} (other : List ℕ) → text ≡ other → PutsText g old new text result → PutsText g old new other result
  puts_as {old = old} {new = new} {result = result} other same one = subst (λ (t : List ℕ). PutsText g old new t result) same one
