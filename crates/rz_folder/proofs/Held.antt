-- A sink in memory that holds back what is put.
use Rattle.std.proofs.Common.{◌≡◌, ℕ, zero, suc, List, [], ◌∷◌, ◌++◌, length, take, drop, Some, refl, sym, ap, subst, ◌∙◌, append-nil, take-append-drop, arith}
use Rattle.std.proofs.lemmas.List.{drop_all, take_all}
use Rattle.rz_folder.specs.Sink.{all_out, Flushes, Got, GotFront, IsFront, Puts, Stream}
use Rattle.rz_folder.specs.declared.sink.Put.{Put}
use Rattle.rz_folder.specs.declared.sink.Put.TheVariants.{Done, Failed}

-- the first so many bytes are out
abbrev cut : ℕ → List ℕ → Stream
cut n bytes = record { out = take n bytes; held = drop n bytes }

front_taken : (n : ℕ) (xs ys : List ℕ) → IsFront (take n xs) (take n (xs ++ ys))
front_taken zero xs ys = ([], refl)
front_taken (suc n) [] ys = (take (suc n) ys, refl)
front_taken (suc n) (x ∷ xs) ys = let more = front_taken n xs ys in (more.0, ap (λ (l : List ℕ). x ∷ l) more.1)

got_bytes : (bytes new piece : List ℕ) → Got piece (all_out bytes) (all_out new) → new ≡ bytes ++ piece
got_bytes bytes new piece got = sym (append-nil new) ∙ got.all ∙ ap (λ (l : List ℕ). l ++ piece) (append-nil bytes)

got_held : (n : ℕ) (bytes new piece : List ℕ) → Got piece (all_out bytes) (all_out new) → Got piece (cut n bytes) (cut n new)
got_held n bytes new piece got =
    let is = got_bytes bytes new piece got in
    record {
      all = take-append-drop n new ∙ is ∙ ap (λ (l : List ℕ). l ++ piece) (sym (take-append-drop n bytes));
      out = subst (λ (l : List ℕ). IsFront (take n bytes) (take n l)) (sym is) (front_taken n bytes piece);
    }

pub held_puts : (n : ℕ) (bytes new piece : List ℕ) (put : Put) → Puts piece (Some (all_out bytes)) (Some (all_out new)) put
    → Puts piece (Some (cut n bytes)) (Some (cut n new)) put
held_puts n bytes new piece Done got = got_held n bytes new piece got
held_puts n bytes new piece Failed (left, (front, is, got)) = (left, (front, is, got_held n bytes new front got))

pub held_flushed : (n m : ℕ) (bytes new : List ℕ) → Puts [] (Some (all_out bytes)) (Some (all_out new)) Done → m ≡ length new
    → Flushes (Some (cut n bytes)) (Some (cut m new)) Done
held_flushed n m bytes new got all =
    let same = got_bytes bytes new [] got in
    let whole : take m new ≡ (take n bytes ++ drop n bytes) ++ [] =
    take_all m new (omega (arith, all)) ∙ same ∙ ap (λ (l : List ℕ). l ++ []) (sym (take-append-drop n bytes)) in
    (λ i. record { out = whole i; held = drop_all m new (omega (arith, all)) i })

none_got : (s t : Stream) → GotFront [] s t → Got [] s t
none_got s t (left, ([], is, got)) = got
none_got s t (left, (x ∷ front, is, got)) = cc is

pub held_stays : (n : ℕ) (bytes new : List ℕ) → Puts [] (Some (all_out bytes)) (Some (all_out new)) Failed → Flushes (Some (cut n bytes)) (Some (cut n new)) Failed
held_stays n bytes new got = none_got (cut n bytes) (cut n new) (held_puts n bytes new [] Failed got)
