-- Bytes that are held back before a writer, and written.
use Rattle.std.proofs.Common.{◌≡◌, ◌≤◌, ◌+◌, ◌-◌, ℕ, Bool, true, false, List, [], ◌++◌, length, take, drop, Some, None, refl, sym, ap, subst, ◌∙◌, append_assoc, append-nil, take-append-drop, arith}
use Rattle.std.specs.Prelude.{◌==◌, if◌then◌else◌}
use Rattle.std.specs.declared.option.Option.{Option}
use Rattle.std.specs.Io.KnownBytes.{Appends, Keeps}
use Rattle.std.proofs.lemmas.Bool.{eqb-true}
use Rattle.std.proofs.lemmas.List.{take_all, take-take, drop-take}
use Rattle.rz_folder.proofs.Streams.{front_behind, front_self, got_none, got_nothing, got_then, told_same, told_so, told_then}
use Rattle.rz_folder.specs.RealSink.{put_of, stream_over}
use Rattle.rz_folder.specs.Sink.{Flushes, Got, GotFront, Puts, Stream, Told}
use Rattle.rz_folder.specs.declared.sink.Put.{Put}
use Rattle.rz_folder.specs.declared.sink.Put.TheVariants.{Done, Failed}

-- Writes, one after the other.

pub kept_self : (a : Option (List ℕ)) → Keeps a a
kept_self None = tt
kept_self (Some x) = refl

pub kept_on : (a b c : Option (List ℕ)) → Keeps a b → Keeps b c → Keeps a c
kept_on None b c first second = tt
kept_on (Some x) None c first second = absurd first
kept_on (Some x) (Some y) None first second = absurd second
kept_on (Some x) (Some y) (Some z) first second = second ∙ first

pub kept_nothing : (a b : Option (List ℕ)) → Keeps a b → Appends a b []
kept_nothing None b kept = tt
kept_nothing (Some x) None kept = absurd kept
kept_nothing (Some x) (Some y) kept = kept ∙ sym (append-nil x)

pub appends_on : (a b c : Option (List ℕ)) (bs cs : List ℕ) → Appends a b bs → Appends b c cs → Appends a c (bs ++ cs)
appends_on None b c bs cs first second = tt
appends_on (Some x) None c bs cs first second = absurd first
appends_on (Some x) (Some y) None bs cs first second = absurd second
appends_on (Some x) (Some y) (Some z) bs cs first second = second ∙ ap (λ (l : List ℕ). l ++ cs) first ∙ append_assoc x bs cs

take_then : (n m : ℕ) (xs : List ℕ) → take (n + m) xs ≡ take n xs ++ take m (drop n xs)
take_then n m xs = sym (take-append-drop n (take (n + m) xs)) ∙ (λ i. take-take n (n + m) xs (omega arith) i ++ drop-take n m xs i)

-- so many bytes were written, and then so many of the rest
pub written_more : (a b c : Option (List ℕ)) (bytes : List ℕ) (n m : ℕ) → Appends a b (take n bytes) → m ≤ length bytes - n → Appends b c (take m (take (length bytes - n) (drop n bytes)))
    → Appends a c (take (n + m) bytes)
written_more a b c bytes n m first fits second =
    subst (Appends a c) (sym (take_then n m bytes))
    (appends_on a b c (take n bytes) (take m (drop n bytes)) first
    (subst (Appends b c) (take-take m (length bytes - n) (drop n bytes) fits) second))

-- What is held back.

-- so many of the bytes that are held back were written
pub held_written : (c d : Option (List ℕ)) (held rest : List ℕ) (n : ℕ) → Appends c d (take n held) → rest ≡ drop n held → Told (Got []) (stream_over c held) (stream_over d rest)
held_written None d held rest n written is = tt
held_written (Some xs) None held rest n written is = absurd written
held_written (Some xs) (Some ys) held rest n written is = record {
  all = ap (λ (l : List ℕ). l ++ rest) written ∙ append_assoc xs (take n held) rest
      ∙ ap (λ (l : List ℕ). xs ++ l) (ap (λ (l : List ℕ). take n held ++ l) is ∙ take-append-drop n held) ∙ sym (append-nil (xs ++ held));
  out = (take n held, written);
}

-- a piece is held back, if there is memory for it
pub piece_held : (c : Option (List ℕ)) (held new piece : List ℕ) (ok : Bool) → new ≡ (if ok then held ++ piece else held)
    → Puts piece (stream_over c held) (stream_over c new) (put_of ok)
piece_held None held new piece true is = tt
piece_held None held new piece false is = tt
piece_held (Some xs) held new piece true is =
    subst (λ (l : List ℕ). Got piece (record { out = xs; held = held }) (record { out = xs; held = l })) (sym is)
    (record { all = sym (append_assoc xs held piece); out = front_self xs })
piece_held (Some xs) held new piece false is =
    subst (λ (l : List ℕ). GotFront piece (record { out = xs; held = held }) (record { out = xs; held = l })) (sym is)
    (piece, got_none piece (record { out = xs; held = held }))

-- what was held back is written, and nothing of the piece is put
pub none_put : (a b : Option Stream) (piece : List ℕ) → Told (Got []) a b → Puts piece a b Failed
none_put a b piece told = told_so (Got []) (GotFront piece) (λ s t got. (piece, ([], refl, got))) a b told

-- and then the piece is put
pub then_put : (a b c : Option Stream) (piece : List ℕ) (put : Put) → Told (Got []) a b → Puts piece b c put → Puts piece a c put
then_put a b c piece Done told puts = told_then (Got []) (Got piece) (Got piece) (got_then [] piece) a b c told puts
then_put a b c piece Failed told puts = told_then (Got []) (GotFront piece) (GotFront piece) (front_behind [] piece) a b c told puts

-- so many bytes of a piece are written where nothing is held back
front_written : (c d : Option (List ℕ)) (piece : List ℕ) (n : ℕ) → Appends c d (take n piece) → Told (Got (take n piece)) (stream_over c []) (stream_over d [])
front_written None d piece n written = tt
front_written (Some xs) None piece n written = absurd written
front_written (Some xs) (Some ys) piece n written = record {
  all = append-nil ys ∙ written ∙ ap (λ (l : List ℕ). l ++ take n piece) (sym (append-nil xs));
  out = (take n piece, written);
}

pub piece_written : (c d : Option (List ℕ)) (held piece : List ℕ) (n : ℕ) → held ≡ [] → n ≤ length piece → Appends c d (take n piece)
    → Puts piece (stream_over c held) (stream_over d held) (put_of (n == length piece))
piece_written c d held piece n none fits written =
    subst (λ (l : List ℕ). Puts piece (stream_over c l) (stream_over d l) (put_of (n == length piece))) (sym none) (by (n == length piece) refl)
  where
    by : (whole : Bool) → (n == length piece) ≡ whole → Puts piece (stream_over c []) (stream_over d []) (put_of whole)
    by true is =
        let same : n ≡ length piece = eqb-true n (length piece) is in
        subst (λ (l : List ℕ). Told (Got l) (stream_over c []) (stream_over d [])) (take_all n piece (omega (arith, same))) (front_written c d piece n written)
    by false is =
        told_so (Got (take n piece)) (GotFront piece) (λ s t got. (drop n piece, (take n piece, sym (take-append-drop n piece), got)))
        (stream_over c []) (stream_over d []) (front_written c d piece n written)

-- all that was held back is written, and the writer was flushed
pub all_written : (a : Option Stream) (d e : Option (List ℕ)) (held : List ℕ) (ok : Bool) → held ≡ [] → Told (Got []) a (stream_over d held) → Keeps d e
    → Flushes a (stream_over e held) (put_of ok)
all_written None d e held true none told kept = tt
all_written None d e held false none told kept = tt
all_written (Some s) None e held ok none told kept = absurd told
all_written (Some s) (Some ys) None held ok none told kept = absurd kept
all_written (Some s) (Some ys) (Some zs) held true none told kept =
    let whole : (zs ++ held) ≡ (s.out ++ s.held) ++ [] = ap (λ (l : List ℕ). l ++ held) kept ∙ told.all in
    (λ i. record { out = (sym (append-nil zs) ∙ ap (λ (l : List ℕ). zs ++ l) (sym none) ∙ whole) i; held = none i })
all_written (Some s) (Some ys) (Some zs) held false none told kept =
    subst (λ (l : List ℕ). Got [] s (record { out = l; held = held })) (sym kept) told

-- A call that ended.

-- what was told of its writes is told of it
pub so_ended : (P : Option Stream → Put → Type 0) (mid new : Option Stream) (put result : Put) → result ≡ put → new ≡ mid → P mid put → P new result
so_ended P mid new put result is same holds = subst (λ (r : Put). P new r) (sym is) (subst (λ (s : Option Stream). P s put) (sym same) holds)

pub stays_put : (piece : List ℕ) (a : Option Stream) → Puts piece a a Failed
stays_put piece = told_same (GotFront piece) (λ s. (piece, got_none piece s))

pub stays_flushed : (a : Option Stream) → Flushes a a Failed
stays_flushed = told_same (Got []) got_nothing
