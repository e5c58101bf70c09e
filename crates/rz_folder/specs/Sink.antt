-- What a sink tells of its bytes, and how puts and flushes change it.
use Rattle.std.specs.Prelude.{◌≡◌, ◌≢◌, ◌⊎◌, ℕ, List, [], ◌++◌, IsSomeAnd, Ok, Err}
use Rattle.std.specs.declared.option.Option.{Option}
use Rattle.std.specs.declared.option.Option.TheVariants.{Some, None}
use Rattle.std.specs.declared.result.Result.{Result}
use Rattle.rz_core.specs.declared.stop.NoMemory.{NoMemory}
use Rattle.rz_folder.specs.Counts.{faults_with}
use Rattle.rz_folder.specs.declared.sink.Put.{Put}
use Rattle.rz_folder.specs.declared.sink.Put.TheVariants.{Done, Failed}

-- The bytes of a sink: those that are out, and after them those that were put and that the sink still holds back.
pub record Stream : Type 0 where
  pub out : List ℕ
  pub held : List ℕ

-- all bytes that were put
abbrev pub written : Stream → List ℕ
written stream = stream.out ++ stream.held

-- these bytes are out, and none is held back
abbrev pub all_out : List ℕ → Stream
all_out bytes = record { out = bytes; held = [] }

-- the text begins with this front
abbrev pub IsFront : List ℕ → List ℕ → Type 0
IsFront front text = (rest : List ℕ) × (text ≡ front ++ rest)

-- The text was put after all that was put before, and no byte that was out is taken back.
pub record Got (text : List ℕ) (before after : Stream) : Type 0 where
  pub all : written after ≡ written before ++ text
  pub out : IsFront before.out after.out

-- the text was put but for this end of it
abbrev pub GotBut : List ℕ → List ℕ → Stream → Stream → Type 0
GotBut left text before after = (front : List ℕ) × (text ≡ front ++ left) × Got front before after

-- a front of the text was put: none of it, a part, or all
abbrev pub GotFront : List ℕ → Stream → Stream → Type 0
GotFront text before after = (left : List ℕ) × GotBut left text before after

-- a front of the text was put, and not the whole text
abbrev pub GotPart : List ℕ → Stream → Stream → Type 0
GotPart text before after = (left : List ℕ) × (left ≢ []) × GotBut left text before after

-- all that was put before is out, and after it the text; nothing is held back
abbrev pub IsFlushed : List ℕ → Stream → Stream → Type 0
IsFlushed text before after = after ≡ all_out (written before ++ text)

-- the text is out after all that was put before, and nothing is held back; or the text is empty, and the stream is as
-- before
abbrev pub IsOut : List ℕ → Stream → Stream → Type 0
IsOut text before after = IsFlushed text before after ⊎ ((text ≡ []) × (after ≡ before))

-- a sink that tells its bytes goes on telling them, and P holds of what it told before and what it tells after
abbrev pub Told : (Stream → Stream → Type 0) → Option Stream → Option Stream → Type 0
Told P None after = Unit {0}
Told P (Some before) after = IsSomeAnd after (P before)

-- How a put of a piece ended: one that is done has put the piece, and one that failed a front of it.
abbrev pub Puts : List ℕ → Option Stream → Option Stream → Put → Type 0
Puts piece before after Done = Told (Got piece) before after
Puts piece before after Failed = Told (GotFront piece) before after

-- How a flush ended: after one that is done all that was put is out; after one that failed the same bytes are put as
-- before, and what was out is still out.
abbrev pub Flushes : Option Stream → Option Stream → Put → Type 0
Flushes before after Done = Told (IsFlushed []) before after
Flushes before after Failed = Told (Got []) before after

-- How a text was put piece by piece: the whole text; after a put that failed a front of it; where memory was refused, a
-- front that is not the whole text.
abbrev pub PutsFront : List ℕ → Option Stream → Option Stream → Result Put NoMemory → Type 0
PutsFront text before after (Ok put) = Puts text before after put
PutsFront text before after (Err refused) = Told (GotPart text) before after

-- the same, where the sink is flushed after the text
abbrev pub PutsOut : List ℕ → Option Stream → Option Stream → Result Put NoMemory → Type 0
PutsOut text before after (Ok Done) = Told (IsFlushed text) before after
PutsOut text before after (Ok Failed) = Told (GotFront text) before after
PutsOut text before after (Err refused) = Told (GotPart text) before after

-- The faults that a sink counts after a text was put piece by piece: one more after a call that failed, for no call came
-- after that one; where memory was refused none.
abbrev pub faults_with_text : ℕ → Result Put NoMemory → ℕ
faults_with_text faults (Ok put) = faults_with faults put
faults_with_text faults (Err refused) = faults
