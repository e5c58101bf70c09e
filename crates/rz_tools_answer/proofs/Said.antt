-- Puts of lines, one after the other.
use Rattle.std.proofs.Common.{◌≡◌, inl, inr, ℕ, ◌≤◌, List, [], ◌++◌, Ok, refl, sym, subst, arith}
use Rattle.std.specs.declared.option.Option.{Option}
use Rattle.rz_folder.proofs.Streams.{flushed_got, front_before, front_behind, got_all, got_nothing, then_flushed, told_same, told_so, told_then}
use Rattle.rz_folder.specs.Counts.{Rose}
use Rattle.rz_folder.specs.Sink.{Got, GotFront, IsFlushed, IsOut, Puts, PutsOut, Stream, Told}
use Rattle.rz_folder.specs.declared.sink.Put.{Put}
use Rattle.rz_folder.specs.declared.sink.Put.TheVariants.{Done, Failed}
use Rattle.rz_tools_answer.specs.World.{Says}

-- a text that is out
pub is_out : (text : List ℕ) (before after : Option Stream) → Told (IsFlushed text) before after → Told (IsOut text) before after
is_out text = told_so (IsFlushed text) (IsOut text) (λ s t is. inl is)

has_front : (text : List ℕ) (before after : Option Stream) → Told (IsFlushed text) before after → Told (GotFront text) before after
has_front text = told_so (IsFlushed text) (GotFront text) (λ s t is. got_all text s t (flushed_got text s t is))

pub done_out : (text : List ℕ) (before after : Option Stream) (put : Put) → put ≡ Done → PutsOut text before after (Ok put) → Told (IsOut text) before after
done_out text before after put is told = is_out text before after (subst (λ (p : Put). PutsOut text before after (Ok p)) is told)

pub failed_front : (text : List ℕ) (before after : Option Stream) (put : Put) → put ≡ Failed → PutsOut text before after (Ok put) → Told (GotFront text) before after
failed_front text before after put is told = subst (λ (p : Put). PutsOut text before after (Ok p)) is told

-- nothing is done, and the text is empty
pub out_so_far : (text : List ℕ) → text ≡ [] → (before : Option Stream) → Told (IsOut text) before before
out_so_far text none = told_same (IsOut text) (λ s. inr (none, refl))

pub nothing_said : (line : List ℕ) → line ≡ [] → (before : Option Stream) (faults_before faults_after : ℕ) → Says line before before faults_before faults_after
nothing_said line none before faults_before faults_after =
    subst (λ (l : List ℕ). Says l before before faults_before faults_after) (sym none)
    (told_same (GotFront []) (λ s. got_all [] s s (got_nothing s)) before, λ _. out_so_far [] refl before)

pub said : (line : List ℕ) (before after : Option Stream) (faults_before faults_after : ℕ) (result : Put)
    → PutsOut line before after (Ok result) → (result ≡ Failed → Rose faults_before faults_after) → Says line before after faults_before faults_after
said line before after faults_before faults_after Done told cause = (has_front line before after told, λ _. is_out line before after told)
said line before after faults_before faults_after Failed told cause = (told, λ kept. absurd (kept (cause refl)))

pub rises : (before mid after : ℕ) → before ≤ mid → Rose mid after → Rose before after
rises before mid after less rose = omega (arith, less, rose)

module _ (lines line : List ℕ) where
  both_out : (before mid after : Option Stream) → Puts lines before mid Done → Told (IsFlushed line) mid after → Told (IsFlushed (lines ++ line)) before after
  both_out = told_then (Got lines) (IsFlushed line) (IsFlushed (lines ++ line)) (then_flushed lines line)

  pub then_said : (before mid after : Option Stream) (faults_before faults_mid faults_after : ℕ) (result : Put) → Puts lines before mid Done → faults_before ≤ faults_mid
      → PutsOut line mid after (Ok result) → (result ≡ Failed → Rose faults_mid faults_after) → Says (lines ++ line) before after faults_before faults_after
  then_said before mid after faults_before faults_mid faults_after Done put less told cause =
      said (lines ++ line) before after faults_before faults_after Done (both_out before mid after put told) (λ e. cc)
  then_said before mid after faults_before faults_mid faults_after Failed put less told cause =
      said (lines ++ line) before after faults_before faults_after Failed
      (told_then (Got lines) (GotFront line) (GotFront (lines ++ line)) (front_behind lines line) before mid after put told)
      (λ _. rises faults_before faults_mid faults_after less (cause refl))

  pub failed_said : (before after : Option Stream) (faults_before faults_after : ℕ) → Puts lines before after Failed → Rose faults_before faults_after
      → Says (lines ++ line) before after faults_before faults_after
  failed_said before after faults_before faults_after told rose =
      said (lines ++ line) before after faults_before faults_after Failed (told_so (GotFront lines) (GotFront (lines ++ line)) (front_before lines line) before after told) (λ _. rose)
