-- What puts and flushes change, one after the other.
use Rattle.std.proofs.Common.{◌≡◌, ◌≢◌, inl, inr, ℕ, List, [], ◌∷◌, ◌++◌, Some, None, Ok, refl, sym, ap, subst, ◌∙◌, append_assoc, append-nil, arith}
use Rattle.std.specs.declared.option.Option.{Option}
use Rattle.rz_folder.specs.Counts.{faults_with, next, Rose}
use Rattle.rz_folder.specs.Sink.{all_out, written, Flushes, Got, GotBut, GotFront, GotPart, IsFlushed, IsFront, IsOut, Puts, PutsOut, Stream, Told}
use Rattle.rz_folder.specs.declared.sink.Put.{Put}
use Rattle.rz_folder.specs.declared.sink.Put.TheVariants.{Done, Failed}

-- Fronts.

pub front_self : (text : List ℕ) → IsFront text text
front_self text = ([], sym (append-nil text))

front_on : (a b c : List ℕ) → IsFront a b → IsFront b c → IsFront a c
front_on a b c (rest, is) (more, so) = (rest ++ more, so ∙ ap (λ (l : List ℕ). l ++ more) is ∙ append_assoc a rest more)

-- what is left of a text with more after it
pub left_on : (left behind : List ℕ) → left ≢ [] → left ++ behind ≢ []
left_on [] behind some = λ e. some refl
left_on (x ∷ left) behind some = λ e. cc e

-- Of a sink that tells.

pub got_nothing : (s : Stream) → Got [] s s
got_nothing s = record { all = sym (append-nil (written s)); out = front_self s.out }

pub got_then : (first second : List ℕ) (s t u : Stream) → Got first s t → Got second t u → Got (first ++ second) s u
got_then first second s t u one two = record {
  all = two.all ∙ ap (λ (l : List ℕ). l ++ second) one.all ∙ append_assoc (written s) first second;
  out = front_on s.out t.out u.out one.out two.out;
}

pub got_all : (text : List ℕ) (s t : Stream) → Got text s t → GotFront text s t
got_all text s t got = ([], (text, sym (append-nil text), got))

-- nothing of the text was put yet
pub got_none : (text : List ℕ) (s : Stream) → GotBut text text s s
got_none text s = ([], refl, got_nothing s)

-- a text was put, and then another but for an end of it
pub but_behind : (front text left : List ℕ) (s t u : Stream) → Got front s t → GotBut left text t u → GotBut left (front ++ text) s u
but_behind front text left s t u before (part, is, got) =
    (front ++ part, ap (λ (l : List ℕ). front ++ l) is ∙ sym (append_assoc front part left), got_then front part s t u before got)

-- a text but for an end of it is one with more after it but for that, too
pub but_before : (text behind left : List ℕ) (s t : Stream) → GotBut left text s t → GotBut (left ++ behind) (text ++ behind) s t
but_before text behind left s t (part, is, got) = (part, ap (λ (l : List ℕ). l ++ behind) is ∙ append_assoc part left behind, got)

pub front_behind : (front text : List ℕ) (s t u : Stream) → Got front s t → GotFront text t u → GotFront (front ++ text) s u
front_behind front text s t u before (left, but) = (left, but_behind front text left s t u before but)

pub front_before : (text behind : List ℕ) (s t : Stream) → GotFront text s t → GotFront (text ++ behind) s t
front_before text behind s t (left, but) = (left ++ behind, but_before text behind left s t but)

-- a front of a text in the middle of one
pub front_within : (front text behind : List ℕ) (s t u : Stream) → Got front s t → GotFront text t u → GotFront (front ++ (text ++ behind)) s u
front_within front text behind s t u before got = front_behind front (text ++ behind) s t u before (front_before text behind t u got)

pub part_within : (front text behind : List ℕ) (s t u : Stream) → Got front s t → GotPart text t u → GotPart (front ++ (text ++ behind)) s u
part_within front text behind s t u before (left, some, but) =
    (left ++ behind, left_on left behind some, but_behind front (text ++ behind) (left ++ behind) s t u before (but_before text behind left t u but))

-- Flushes.

pub flushed_got : (text : List ℕ) (s t : Stream) → IsFlushed text s t → Got text s t
flushed_got text s t is = record {
  all = ap written is ∙ append-nil (written s ++ text);
  out = subst (λ (x : Stream). IsFront s.out x.out) (sym is) (s.held ++ text, append_assoc s.out s.held text);
}

pub got_flushed : (text : List ℕ) (s t u : Stream) → Got text s t → IsFlushed [] t u → IsFlushed text s u
got_flushed text s t u got is = is ∙ ap all_out (append-nil (written t) ∙ got.all)

flush_failed : (text : List ℕ) (s t u : Stream) → Got text s t → Got [] t u → GotFront text s u
flush_failed text s t u one two = got_all text s u (subst (λ (l : List ℕ). Got l s u) (append-nil text) (got_then text [] s t u one two))

pub then_flushed : (first second : List ℕ) (s t u : Stream) → Got first s t → IsFlushed second t u → IsFlushed (first ++ second) s u
then_flushed first second s t u got is = is ∙ ap all_out (ap (λ (l : List ℕ). l ++ second) got.all ∙ append_assoc (written s) first second)

-- Of each sink.

pub told_so : (P Q : Stream → Stream → Type 0) → ((s t : Stream) → P s t → Q s t) → (a b : Option Stream) → Told P a b → Told Q a b
told_so P Q so None b told = tt
told_so P Q so (Some s) None told = absurd told
told_so P Q so (Some s) (Some t) told = so s t told

pub told_then : (P Q R : Stream → Stream → Type 0) → ((s t u : Stream) → P s t → Q t u → R s u) → (a b c : Option Stream) → Told P a b → Told Q b c → Told R a c
told_then P Q R so None b c first second = tt
told_then P Q R so (Some s) None c first second = absurd first
told_then P Q R so (Some s) (Some t) None first second = absurd second
told_then P Q R so (Some s) (Some t) (Some u) first second = so s t u first second

pub told_same : (P : Stream → Stream → Type 0) → ((s : Stream) → P s s) → (a : Option Stream) → Told P a a
told_same P so None = tt
told_same P so (Some s) = so s

-- a put that was done, and a flush after it
pub put_flushed : (text : List ℕ) (a b c : Option Stream) (result : Put) → Puts text a b Done → Flushes b c result → PutsOut text a c (Ok result)
put_flushed text a b c Done put flush = told_then (Got text) (IsFlushed []) (IsFlushed text) (got_flushed text) a b c put flush
put_flushed text a b c Failed put flush = told_then (Got text) (Got []) (GotFront text) (flush_failed text) a b c put flush

-- Counts of faults.

pub kept_with : (before after : ℕ) (put : Put) → put ≡ Done → after ≡ faults_with before put → after ≡ before
kept_with before after Done is counted = counted
kept_with before after Failed is counted = absurd (cc is)

pub failed_with : (before after : ℕ) (put : Put) → put ≡ Failed → after ≡ faults_with before put → after ≡ next before
failed_with before after Done is counted = absurd (cc is)
failed_with before after Failed is counted = counted

pub rose_with : (before after : ℕ) (put : Put) → after ≡ faults_with before put → put ≡ Failed → Rose before after
rose_with before after put counted is = (let more = failed_with before after put is counted in omega (arith, more))

-- a call after one that was done
pub then_with : (before mid after : ℕ) (put : Put) → mid ≡ before → after ≡ faults_with mid put → after ≡ faults_with before put
then_with before mid after put same counted = counted ∙ ap (λ (n : ℕ). faults_with n put) same

-- Of a sink that holds nothing back.

-- it got this text
pub all_got : (bytes text after : List ℕ) → after ≡ bytes ++ text → Got text (all_out bytes) (all_out after)
all_got bytes text after is = record { all = append-nil after ∙ is ∙ ap (λ (l : List ℕ). l ++ text) (sym (append-nil bytes)); out = (text, is) }

-- it got this front of a text
pub all_got_front : (bytes text after front : List ℕ) → IsFront front text → after ≡ bytes ++ front → GotFront text (all_out bytes) (all_out after)
all_got_front bytes text after front (rest, so) is = (rest, (front, so, all_got bytes front after is))

-- a flush has nothing to do
pub all_flushed : (bytes : List ℕ) → IsFlushed [] (all_out bytes) (all_out bytes)
all_flushed bytes = ap all_out (sym (append-nil (bytes ++ []) ∙ append-nil bytes))

-- Where nothing was held back before, a text that is out stands after what was out before.
pub out_alone : (text bytes : List ℕ) (t : Stream) → IsOut text (all_out bytes) t → t ≡ all_out (bytes ++ text)
out_alone text bytes t (inl is) = is ∙ ap (λ (l : List ℕ). all_out (l ++ text)) (append-nil bytes)
out_alone text bytes t (inr (none, same)) = same ∙ ap all_out (sym (append-nil bytes) ∙ ap (λ (l : List ℕ). bytes ++ l) (sym none))
