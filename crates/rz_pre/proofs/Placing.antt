-- Where tokens and faults stand.
use Rattle.std.proofs.Common.{◌≡◌, ℕ, ℤ, ◌+◌, ◌<◌, ◌≤◌, Bool, true, false, inl, inr, List, [], ◌∷◌, ◌++◌, map, length, Option, Some, None, Ok, Err, refl, sym, ap, subst, ◌∙◌, arith}
use Rattle.std.specs.Prelude.{if◌then◌else◌, option_map}
use Rattle.std.specs.List.{AllByRecursion}
use Rattle.std.specs.declared.result.Result.{Result}
use Rattle.rz_lex.specs.Within.{AreWithin}
use Rattle.rz_core.specs.Message as message
use Rattle.rz_core.specs.Stop.{halt_of, Meets, OnFault, OnRefusal}
use Rattle.rz_core.specs.declared.fault.Fault.{Fault}
use Rattle.rz_core.specs.declared.fault.Mark.{Mark}
use Rattle.rz_core.specs.declared.resource.Word.{Word}
use Rattle.rz_core.specs.declared.stop.Stop.{Stop}
use Rattle.rz_core.specs.declared.stop.Stop.TheVariants as stops
use Rattle.rz_lex.specs.Cutting.{Cuts, Leads}
use Rattle.rz_lex.specs.Printed.{token_of}
use Rattle.rz_lex.specs.declared.raw_line.RawLine.{RawLine}
use Rattle.rz_lex.specs.declared.token.Shape.{Shape}
use Rattle.rz_lex.specs.declared.token.Token.{Token}
use Rattle.rz_pre.specs.Condition.{Tells}
use Rattle.rz_pre.specs.Condition as condition
use Rattle.rz_pre_source.specs.Directive.{behind_hash, directive_in, has_parameters, unblanked}
use Rattle.rz_pre.specs.Expanded.{too_long, ExpandInto, FirstTooLong}
use Rattle.rz_pre.specs.Line.{Acts, Directs, Does, IsComputed, IsReplaced, Obeys, PutsOut, Says, Turns, WhereKept, behind_first, defined, ended, free_word, included, is_kept, open_part, or_bad, otherwise, passed_over, simple, tested, text_in, undefined, word_in}
use Rattle.rz_pre.specs.Live.{Live}
use Rattle.rz_pre.specs.Placed.{AreOn, AreOpenIn, IsSourceFault, PutsOn}
use Rattle.rz_pre.specs.Program.{opens_after, state_after, State}
use Rattle.rz_pre.specs.Reading.{Steps}
use Rattle.rz_core.specs.declared.stop.Halt.{Halt}
use Rattle.rz_core.specs.declared.stop.Halt.TheVariants as halts
use Rattle.rz_pre.specs.declared.act.Act.{Act}
use Rattle.rz_pre.specs.declared.act.Act.TheVariants as acts
use Rattle.rz_pre.specs.declared.condition.Tool.{Tool}
use Rattle.rz_pre.specs.declared.conditional.Open.{Open}
use Rattle.rz_pre.specs.declared.conditional.Part.{Part}
use Rattle.rz_pre.specs.declared.conditional.Part.TheVariants.{Chosen, Past, Waiting}
use Rattle.rz_pre_source.specs.declared.directive.Directive.{Directive}
use Rattle.rz_pre_source.specs.declared.directive.Directive.TheVariants as directives

pub all_append : {A : Type 0} (P : A → Type 0) (xs ys : List A) → AllByRecursion P xs → AllByRecursion P ys → AllByRecursion P (xs ++ ys)
all_append P [] ys all more = more
all_append P (x ∷ xs) ys all more = (all.0, all_append P xs ys all.1 more)

-- The tokens of a line.

leads_on : (mark : Mark) (line : List ℕ) (tokens : List Token) (rest : List ℕ) → Leads mark line tokens rest → AreOn mark tokens
leads_on mark line [] rest leads = tt
leads_on mark line (token ∷ tokens) rest leads = (leads.1.place, leads_on mark leads.0 tokens rest leads.2)

pub cut_on : (mark : Mark) (line : List ℕ) (tokens : List Token) → Cuts mark line tokens → AreOn mark tokens
cut_on mark line tokens cuts = leads_on mark line tokens cuts.0 cuts.1

shapes_on : (mark m : Mark) (shapes : List Shape) → m ≡ mark → AreOn mark (map (token_of m) shapes)
shapes_on mark m [] same = tt
shapes_on mark m (shape ∷ shapes) same = (same, shapes_on mark m shapes same)

pub expanded_on : (mark : Mark) (live : Live) (tokens out : List Token) → ExpandInto live tokens out → AreOn mark tokens → AreOn mark out
expanded_on mark live [] out x on = subst (AreOn mark) (sym x) tt
expanded_on mark live (token ∷ tokens) out x on = subst (AreOn mark) (sym x.2) (all_append (λ (t : Token). t.mark ≡ mark) x.0 x.1
    (subst (AreOn mark) (sym x.3.placed) (shapes_on mark token.mark x.3.shapes on.0)) (expanded_on mark live tokens x.1 x.4 on.1))

pub behind_on : (mark : Mark) (tokens : List Token) → AreOn mark tokens → AreOn mark (behind_first tokens)
behind_on mark [] on = tt
behind_on mark (token ∷ tokens) on = on.1

-- Faults.

too_long_nameable : (mark : Mark) (token : Token) (fault : Fault) → token.mark ≡ mark → fault ≡ too_long token → IsSourceFault (mark.file + 1) fault
too_long_nameable mark token fault same is = subst (IsSourceFault (mark.file + 1)) (sym is) (record { number = refl; nameable = record { number = refl; place = omega (arith, ap (λ (m : Mark). m.file) same) } })

long_nameable : (mark : Mark) (live : Live) (tokens : List Token) (fault : Fault) → FirstTooLong live tokens fault → AreOn mark tokens → IsSourceFault (mark.file + 1) fault
long_nameable mark live [] fault long on = absurd long
long_nameable mark live (token ∷ tokens) fault (inl long) on = too_long_nameable mark token fault on.0 long.1
long_nameable mark live (token ∷ tokens) fault (inr long) on = long_nameable mark live tokens fault long.2 on.1

pub replaced_nameable : (Y : Type 0) (mark : Mark) (live : Live) (tokens : List Token) (stop : Stop Fault) → Meets {X = List Token} (Err stop) (IsReplaced live tokens)
    → AreOn mark tokens → OnFault {X = Y} (Err stop) (IsSourceFault (mark.file + 1))
replaced_nameable Y mark live tokens (stops.Refused fault) meets on = long_nameable mark live tokens fault meets on
replaced_nameable Y mark live tokens stops.NoMemory meets on = tt

module _ (mark : Mark) where
  abbrev BehindOn : condition.Asked → Type 0
  BehindOn None = Unit {0}
  BehindOn (Some found) = AreOn mark found.1

  brackets_on : (tokens : List Token) → AreOn mark tokens → BehindOn (condition.in_brackets tokens)
  brackets_on [] on = tt
  brackets_on (name ∷ []) on = tt
  brackets_on (name ∷ close ∷ rest) on = by (condition.closes close.shape) (condition.word_name name.shape)
    where
      by : (b : Bool) (o : Option (List ℕ)) → BehindOn (if b then option_map (λ word. (word, rest)) o else None)
      by true (Some word) = on.1.1
      by true None = tt
      by false o = tt

  asked_on : (tokens : List Token) → AreOn mark tokens → BehindOn (condition.asked tokens)
  asked_on [] on = tt
  asked_on (first ∷ rest) on = by (condition.is_defined first.shape) (behind rest on.1)
    where
      named_on : (o : Option (List ℕ)) (b : Bool) (tokens : List Token) → AreOn mark tokens → BehindOn (condition.asked_name o b tokens)
      named_on (Some word) b tokens on = on
      named_on None true tokens on = brackets_on tokens on
      named_on None false tokens on = tt

      behind : (tokens : List Token) → AreOn mark tokens → BehindOn (condition.behind_defined tokens)
      behind [] on = tt
      behind (next ∷ tokens) on = named_on (condition.word_name next.shape) (condition.opens next.shape) tokens on.1

      by : (b : Bool) → BehindOn (condition.behind_defined rest) → BehindOn (if b then condition.behind_defined rest else None)
      by true so = so
      by false so = tt

  told_on : {live : Live} {tokens told : List Token} → Tells live tokens told → AreOn mark tokens → AreOn mark told
  told_on (condition.nothing is) on = subst (AreOn mark) (sym is) tt
  told_on (condition.question {first = first} {rest = rest} name behind back asks tells is) on =
      subst (AreOn mark) (sym is) (on.0, told_on tells (subst BehindOn asks (asked_on (first ∷ rest) on)))
  told_on (condition.stays back asks tells is) on = subst (AreOn mark) (sym is) (on.0, told_on tells on.1)

  pub computed_nameable : (Y : Type 0) (live : Live) (tool : Tool) (tokens : List Token) (stop : Stop Fault) → Meets {X = ℤ} (Err stop) (IsComputed live tool mark tokens)
      → AreOn mark tokens → OnFault {X = Y} (Err stop) (IsSourceFault (mark.file + 1))
  computed_nameable Y live tool tokens (stops.Refused fault) (told, tells, inl long) on = long_nameable mark live told fault long (told_on tells on)
  computed_nameable Y live tool tokens (stops.Refused fault) (told, tells, inr (out, replaced, none, is)) on =
      subst (IsSourceFault (mark.file + 1)) (sym is) (record { number = refl; nameable = record { number = refl; place = omega arith } })
  computed_nameable Y live tool tokens stops.NoMemory meets on = tt

  pub computed_so : (live : Live) (tool : Tool) (tokens : List Token) (result : Result ℤ (Stop Fault)) → Meets result (IsComputed live tool mark tokens)
      → AreOn mark tokens → OnFault result (IsSourceFault (mark.file + 1))
  computed_so live tool tokens (Ok value) meets on = tt
  computed_so live tool tokens (Err stop) meets on = computed_nameable ℤ live tool tokens stop meets on

  -- What a line puts out.

  abbrev OptionOn : Option Act → Type 0
  OptionOn None = Unit {0}
  OptionOn (Some act) = PutsOn mark act

  abbrev AnswerOn : Result Act Fault → Type 0
  AnswerOn (Ok act) = PutsOn mark act
  AnswerOn (Err fault) = Unit {0}

  included_on : (tokens : List Token) → OptionOn (included tokens)
  included_on [] = tt
  included_on (file ∷ []) = by (text_in file.shape)
    where
      by : (o : Option (List ℕ)) → OptionOn (option_map (λ name. acts.Include name) o)
      by None = tt
      by (Some name) = tt
  included_on (file ∷ more ∷ rest) = tt

  set_on : (o : Option Word) (body : Option (List Token)) → OptionOn (option_map (λ word. acts.Set word body) o)
  set_on None body = tt
  set_on (Some word) body = tt

  defined_on : (b : Bool) (tokens : List Token) → OptionOn (defined b tokens)
  defined_on b [] = tt
  defined_on true (name ∷ text) = tt
  defined_on false (name ∷ text) = set_on (free_word name.shape) (Some text)

  undefined_on : (tokens : List Token) → OptionOn (undefined tokens)
  undefined_on [] = tt
  undefined_on (name ∷ []) = set_on (free_word name.shape) None
  undefined_on (name ∷ more ∷ rest) = tt

  tested_on : (live : Live) (wanted : Bool) (tokens : List Token) → OptionOn (tested live wanted tokens)
  tested_on live wanted [] = tt
  tested_on live wanted (name ∷ rest) = by (word_in name.shape) _
    where
      by : (o : Option Word) (first : Word → Part) → OptionOn (option_map (λ word. acts.Begin (first word)) o)
      by None first = tt
      by (Some word) first = tt

  simple_on : (live : Live) (text : List ℕ) (directive : Directive) (tokens : List Token) → OptionOn (simple live text directive tokens)
  simple_on live text directives.Include tokens = included_on tokens
  simple_on live text directives.Define tokens = defined_on (has_parameters text) tokens
  simple_on live text directives.Undefine tokens = undefined_on tokens
  simple_on live text directives.Ifdef tokens = tested_on live true tokens
  simple_on live text directives.Ifndef tokens = tested_on live false tokens
  simple_on live text directives.If tokens = tt
  simple_on live text directives.Elif tokens = tt
  simple_on live text directives.Else tokens = tt
  simple_on live text directives.Endif tokens = tt
  simple_on live text directives.Empty tokens = tt
  simple_on live text directives.Other tokens = tt

  or_bad_on : (tokens : List Token) (o : Option Act) → OptionOn o → AnswerOn (or_bad mark tokens o)
  or_bad_on tokens None on = tt
  or_bad_on tokens (Some act) on = on

  module _ (live : Live) (tool : Tool) where
    put_on : (bytes : List ℕ) (answer : Result Act Fault) → PutsOut live mark bytes answer → AnswerOn answer
    put_on bytes answer (inl (tokens, cut, inl (out, replaced, is))) = subst AnswerOn (sym is) (expanded_on mark live tokens out replaced (cut_on mark bytes tokens cut))
    put_on bytes answer (inl (tokens, cut, inr (fault, bad, is))) = subst AnswerOn (sym is) tt
    put_on bytes answer (inr (fault, bad, is)) = subst AnswerOn (sym is) tt

    said_on : (text : List ℕ) (directive : Directive) (answer : Result Act Fault) → Says live mark text directive answer → AnswerOn answer
    said_on text directive answer (inl (tokens, cut, is)) = subst AnswerOn (sym is) (or_bad_on tokens _ (simple_on live text directive (behind_first tokens)))
    said_on text directive answer (inr (fault, bad, is)) = subst AnswerOn (sym is) tt

    obeyed_on : (text : List ℕ) (directive : Directive) (answer : Result Act Fault) → Obeys live tool mark text directive answer → AnswerOn answer
    obeyed_on text directives.If answer (inl (value, has, is)) = subst AnswerOn (sym is) tt
    obeyed_on text directives.If answer (inr (fault, bad, is)) = subst AnswerOn (sym is) tt
    obeyed_on text directives.Include answer so = said_on text directives.Include answer so
    obeyed_on text directives.Define answer so = said_on text directives.Define answer so
    obeyed_on text directives.Undefine answer so = said_on text directives.Undefine answer so
    obeyed_on text directives.Elif answer so = said_on text directives.Elif answer so
    obeyed_on text directives.Ifdef answer so = said_on text directives.Ifdef answer so
    obeyed_on text directives.Ifndef answer so = said_on text directives.Ifndef answer so
    obeyed_on text directives.Else answer so = said_on text directives.Else answer so
    obeyed_on text directives.Endif answer so = said_on text directives.Endif answer so
    obeyed_on text directives.Empty answer so = said_on text directives.Empty answer so
    obeyed_on text directives.Other answer so = said_on text directives.Other answer so

    turned_on : (text : List ℕ) (o : Option Part) (answer : Result Act Fault) → Turns live tool mark text o answer → AnswerOn answer
    turned_on text None answer is = subst AnswerOn (sym is) tt
    turned_on text (Some Waiting) answer (inl (value, has, is)) = subst AnswerOn (sym is) tt
    turned_on text (Some Waiting) answer (inr (fault, bad, is)) = subst AnswerOn (sym is) tt
    turned_on text (Some Chosen) answer is = subst AnswerOn (sym is) tt
    turned_on text (Some Past) answer is = subst AnswerOn (sym is) tt

    passed_on : (directive : Directive) → PutsOn mark (passed_over directive)
    passed_on directives.If = tt
    passed_on directives.Include = tt
    passed_on directives.Define = tt
    passed_on directives.Undefine = tt
    passed_on directives.Elif = tt
    passed_on directives.Ifdef = tt
    passed_on directives.Ifndef = tt
    passed_on directives.Else = tt
    passed_on directives.Endif = tt
    passed_on directives.Empty = tt
    passed_on directives.Other = tt

    kept_on : (b : Bool) (answers : Result Act Fault → Type 0) (act : Act) (answer : Result Act Fault)
        → (answers answer → AnswerOn answer) → PutsOn mark act → WhereKept b answers act answer → AnswerOn answer
    kept_on true answers act answer so on is = so is
    kept_on false answers act answer so on is = subst AnswerOn (sym is) on

    otherwise_on : (o : Option Part) → AnswerOn (otherwise mark o)
    otherwise_on None = tt
    otherwise_on (Some of) = tt

    ended_on : (o : Option Open) → AnswerOn (ended mark o)
    ended_on None = tt
    ended_on (Some one) = tt

    directed_on : (around : Option Open) (text : List ℕ) (directive : Directive) (answer : Result Act Fault) → Directs live tool around mark text directive answer → AnswerOn answer
    directed_on around text directives.Elif answer so = turned_on text (open_part around) answer so
    directed_on around text directives.Else answer is = subst AnswerOn (sym is) (otherwise_on (open_part around))
    directed_on around text directives.Endif answer is = subst AnswerOn (sym is) (ended_on around)
    directed_on around text directives.Empty answer is = subst AnswerOn (sym is) tt
    directed_on around text directives.If answer so = kept_on (is_kept around) _ _ answer (obeyed_on text directives.If answer) (passed_on directives.If) so
    directed_on around text directives.Include answer so = kept_on (is_kept around) _ _ answer (obeyed_on text directives.Include answer) (passed_on directives.Include) so
    directed_on around text directives.Define answer so = kept_on (is_kept around) _ _ answer (obeyed_on text directives.Define answer) (passed_on directives.Define) so
    directed_on around text directives.Undefine answer so = kept_on (is_kept around) _ _ answer (obeyed_on text directives.Undefine answer) (passed_on directives.Undefine) so
    directed_on around text directives.Ifdef answer so = kept_on (is_kept around) _ _ answer (obeyed_on text directives.Ifdef answer) (passed_on directives.Ifdef) so
    directed_on around text directives.Ifndef answer so = kept_on (is_kept around) _ _ answer (obeyed_on text directives.Ifndef answer) (passed_on directives.Ifndef) so
    directed_on around text directives.Other answer so = kept_on (is_kept around) _ _ answer (obeyed_on text directives.Other answer) (passed_on directives.Other) so

    acts_on : (around : Option Open) (bytes : List ℕ) (text : Option (List ℕ)) (answer : Result Act Fault) → Acts live tool around mark bytes text answer → AnswerOn answer
    acts_on around bytes None answer so = kept_on (is_kept around) _ _ answer (put_on bytes answer) tt so
    acts_on around bytes (Some text) answer so = directed_on around text (directive_in (unblanked text)) answer so

pub does_on : (live : Live) (tool : Tool) (around : Option Open) (line : RawLine) (act : Act) → Does live tool around line (Ok act) → PutsOn line.mark act
does_on live tool around line act does = acts_on line.mark live tool around line.bytes (behind_hash (unblanked line.bytes)) (Ok act) does

-- A step.

within_on : (mark : Mark) (files : ℕ) (tokens : List Token) → mark.file < files → AreOn mark tokens → AreWithin files tokens
within_on mark files [] below on = tt
within_on mark files (token ∷ tokens) below on = (subst (λ (m : Mark). m.file < files) (sym on.0) below, within_on mark files tokens below on.1)

after_within : (mark : Mark) (files : ℕ) (act : Act) (s : State) → mark.file < files → PutsOn mark act → AreWithin files s.tokens → AreWithin files (state_after act s).tokens
after_within mark files (acts.Put tokens) s below on all = all_append (λ (t : Token). t.mark.file < files) s.tokens tokens all (within_on mark files tokens below on)
after_within mark files acts.Nothing s below on all = all
after_within mark files (acts.Include name) s below on all = all
after_within mark files (acts.Set word body) s below on all = all
after_within mark files (acts.Begin first) s below on all = all
after_within mark files (acts.Turn next is_last) s below on all = all
after_within mark files acts.End s below on all = all

after_files : (act : Act) (s : State) → (state_after act s).files ≡ s.files
after_files (acts.Put tokens) s = refl
after_files acts.Nothing s = refl
after_files (acts.Include name) s = refl
after_files (acts.Set word body) s = refl
after_files (acts.Begin first) s = refl
after_files (acts.Turn next is_last) s = refl
after_files acts.End s = refl

after_open : (mark : Mark) (files : ℕ) (act : Act) (opens : List Open) → mark.file < files → AreOpenIn files opens → AreOpenIn files (opens_after mark act opens)
after_open mark files (acts.Put tokens) opens below all = all
after_open mark files acts.Nothing opens below all = all
after_open mark files (acts.Include name) opens below all = all
after_open mark files (acts.Set word body) opens below all = all
after_open mark files (acts.Begin first) opens below all = (below, all)
after_open mark files (acts.Turn next is_last) [] below all = tt
after_open mark files (acts.Turn next is_last) (one ∷ opens) below all = (all.0, all.1)
after_open mark files acts.End [] below all = tt
after_open mark files acts.End (one ∷ opens) below all = all.1

module _ (tool : Tool) (line : RawLine) (opens : List Open) (s : State) (name : Option (List ℕ)) (after : List Open) (t : State) (steps : Steps tool line opens s (Ok name) after t) where
  pub steps_files : t.files ≡ s.files
  steps_files = ap (λ (u : State). u.files) steps.4 ∙ after_files steps.0 s

  pub steps_within : (files : ℕ) → line.mark.file < files → AreWithin files s.tokens → AreWithin files t.tokens
  steps_within files below all = subst (λ (u : State). AreWithin files u.tokens) (sym steps.4)
      (after_within line.mark files steps.0 s below (does_on s.live tool _ line steps.0 steps.1) all)

  pub steps_open : (files : ℕ) → line.mark.file < files → AreOpenIn files opens → AreOpenIn files after
  steps_open files below all = subst (AreOpenIn files) (sym steps.3) (after_open line.mark files steps.0 opens below all)

-- More files.

pub within_more : (files more : ℕ) (tokens : List Token) → files ≤ more → AreWithin files tokens → AreWithin more tokens
within_more files more [] le all = tt
within_more files more (token ∷ tokens) le all = (omega (arith, le, all.0), within_more files more tokens le all.1)

pub open_more : (files more : ℕ) (opens : List Open) → files ≤ more → AreOpenIn files opens → AreOpenIn more opens
open_more files more [] le all = tt
open_more files more (one ∷ opens) le all = (omega (arith, le, all.0), open_more files more opens le all.1)

pub nameable_more : (files more : ℕ) (fault : Fault) → files ≤ more → IsSourceFault files fault → IsSourceFault more fault
nameable_more files more fault le n = record { number = n.number; nameable = record { number = n.nameable.number; place = by fault.mark n.nameable.place } }
  where
    by : (o : Option Mark) → message.IsMarked files o → message.IsMarked more o
    by None is = tt
    by (Some mark) is = omega (arith, le, is)

-- What a call that stopped leaves to be named.

pub halt_nameable : (X Y : Type 0) (stop : Stop Fault) (files more : ℕ) → OnFault {X = X} (Err stop) (IsSourceFault files) → files ≤ more → OnRefusal {X = Y} (Err (halt_of stop)) (IsSourceFault more)
halt_nameable X Y (stops.Refused fault) files more nameable le = nameable_more files more fault le nameable
halt_nameable X Y stops.NoMemory files more nameable le = tt

pub step_nameable : (tool : Tool) (line : RawLine) (opens : List Open) (s : State) (stop : Stop Fault) (after : List Open) (t : State)
    → Steps tool line opens s (Err stop) after t → OnFault {X = Option (List ℕ)} (Err stop) (IsSourceFault (line.mark.file + 1)) → line.mark.file < length s.files
    → OnRefusal {X = Unit {0}} (Err (halt_of stop)) (IsSourceFault (length t.files))
step_nameable tool line opens s (stops.Refused fault) after t steps nameable below =
    nameable_more (line.mark.file + 1) (length t.files) fault (omega (arith, below, ap (λ (u : State). length u.files) steps.1)) nameable
step_nameable tool line opens s stops.NoMemory after t steps nameable below = tt

pub unread_nameable : (X Y : Type 0) (halt : Halt Fault) (files : ℕ) → OnRefusal {X = X} (Err halt) (λ _. ⊥) → OnRefusal {X = Y} (Err halt) (IsSourceFault files)
unread_nameable X Y (halts.Refused fault) files never = absurd never
unread_nameable X Y halts.ReadFault files never = tt
unread_nameable X Y halts.NoMemory files never = tt

pub refused_again : (X Y : Type 0) (halt : Halt Fault) (files : ℕ) → OnRefusal {X = X} (Err halt) (IsSourceFault files) → OnRefusal {X = Y} (Err halt) (IsSourceFault files)
refused_again X Y (halts.Refused fault) files on = on
refused_again X Y halts.ReadFault files on = tt
refused_again X Y halts.NoMemory files on = tt
