-- Lines in groups are read as their chosen parts.
use Rattle.std.proofs.Common.{◌≡◌, ℕ, Bool, true, false, ◌&&◌, not, inl, inr, List, [], ◌∷◌, Option, Some, None, Ok, Err, refl, sym, ap, subst, ◌∙◌}
use Rattle.std.specs.Prelude.{if◌then◌else◌, option_map}
use Rattle.std.specs.declared.result.Result.{Result}
use Rattle.rz_core.proofs.Once.{ok, err, same_ok, ok_or_err}
use Rattle.rz_core.specs.declared.fault.Fault.{Fault}
use Rattle.rz_core.specs.declared.fault.Mark.{Mark}
use Rattle.rz_core.specs.declared.resource.Word.{Word}
use Rattle.rz_expr.specs.Value.{is_zero}
use Rattle.rz_lex.specs.declared.raw_line.RawLine.{RawLine}
use Rattle.rz_lex.specs.declared.token.Token.{Token}
use Rattle.rz_pre_source.specs.Directive.{behind_hash, directive_in, has_parameters, of_hash, unblanked}
use Rattle.rz_pre_source.specs.declared.directive.Directive.{Directive}
use Rattle.rz_pre_source.specs.declared.directive.Directive.TheVariants as directives
use Rattle.rz_core.specs.Answers.{Then}
use Rattle.rz_pre.specs.Condition.{is_known}
use Rattle.rz_pre_laws.specs.Groups.{are_others, is_elif, is_else, is_endif, is_group, is_opening, is_plain, kind, lines_of, lines_of_others, waiting, Chooses, Group, GroupGoes, Holds, Others, OthersGo}
use Rattle.rz_pre_laws.specs.Groups as groups
use Rattle.rz_pre.specs.Line.{bad_directive, behind_first, defined, ended, free_word, included, is_kept, open_part, or_bad, otherwise, part_of, part_where, simple, tested, text_in, undefined, word_in, Acts, Asks, Directs, Does, PutsOut, Says, Turns, WhereKept}
use Rattle.rz_pre.specs.Live.{Live}
use Rattle.rz_pre.specs.Program.{innermost, state_after, Follows, Includes, LineGoes, LinesGo, State, WithFiles}
use Rattle.rz_pre.specs.declared.program.Failure.{Failure}
use Rattle.rz_pre.specs.declared.act.Act.{Act}
use Rattle.rz_pre.specs.declared.act.Act.TheVariants as acts
use Rattle.rz_pre.specs.declared.condition.Tool.{Tool}
use Rattle.rz_pre.specs.declared.conditional.Open.{Open}
use Rattle.rz_pre.specs.declared.conditional.Part.{Part}
use Rattle.rz_pre.specs.declared.conditional.Part.TheVariants.{Chosen, Past, Waiting}

-- Answers that are the same.

pub record Same {X F : Type 0} (one two : Result X F → Type 0) : Type 0 where
  pub there : (answer : Result X F) → one answer → two answer
  pub back : (answer : Result X F) → two answer → one answer

pub same : {X F : Type 0} {one : Result X F → Type 0} → Same one one
same = record { there = λ answer a. a; back = λ answer a. a }

pub turn : {X F : Type 0} {one two : Result X F → Type 0} → Same one two → Same two one
turn is = record { there = is.back; back = is.there }

pub on : {X F : Type 0} {one two three : Result X F → Type 0} → Same one two → Same two three → Same one three
on is more = record { there = λ answer a. more.there answer (is.there answer a); back = λ answer a. is.back answer (more.back answer a) }

abbrev Is : {X F : Type 0} → X → Result X F → Type 0
Is value answer = answer ≡ Ok value

-- one call after another

then_more : {X Y F : Type 0} (one two : Result X F → Type 0) (next later : X → Result Y F → Type 0)
    → Same one two → ((x : X) → one (Ok x) → Same (next x) (later x)) → Same (Then one next) (Then two later)
then_more {X} {Y} {F} one two next later is more = record { there = there; back = back }
  where
    there : (answer : Result Y F) → Then one next answer → Then two later answer
    there answer (inl (x, o, n)) = inl (x, is.there (Ok x) o, (more x o).there answer n)
    there answer (inr (f, o, e)) = inr (f, is.there (Err f) o, e)

    back : (answer : Result Y F) → Then two later answer → Then one next answer
    back answer (inl (x, o, n)) = inl (x, is.back (Ok x) o, (more x (is.back (Ok x) o)).back answer n)
    back answer (inr (f, o, e)) = inr (f, is.back (Err f) o, e)

then_first : {X Y F : Type 0} (one two : Result X F → Type 0) (next : X → Result Y F → Type 0) → Same one two → Same (Then one next) (Then two next)
then_first one two next is = then_more one two next next is (λ x o. same)

pub then_next : {X Y F : Type 0} (one : Result X F → Type 0) (next later : X → Result Y F → Type 0)
    → ((x : X) → one (Ok x) → Same (next x) (later x)) → Same (Then one next) (Then one later)
then_next one next later more = then_more one one next later same more

pub then_then : {X Y Z F : Type 0} (one : Result X F → Type 0) (next : X → Result Y F → Type 0) (last : Y → Result Z F → Type 0)
    → Same (Then (Then one next) last) (Then one (λ x. Then (next x) last))
then_then {X} {Y} {Z} {F} one next last = record { there = there; back = back }
  where
    there : (answer : Result Z F) → Then (Then one next) last answer → Then one (λ x. Then (next x) last) answer
    there answer (inl (y, inl (x, o, n), l)) = inl (x, o, inl (y, n, l))
    there answer (inl (y, inr (f, o, e), l)) = absurd (ok_or_err y f e)
    there answer (inr (f, inl (x, o, n), e)) = inl (x, o, inr (f, n, e))
    there answer (inr (f, inr (g, o, e), d)) = inr (g, o, d ∙ failed f g e)
      where
        failed : (f g : F) → err {X = Y} f ≡ err g → err {X = Z} f ≡ err g
        failed f g e = cc

    back : (answer : Result Z F) → Then one (λ x. Then (next x) last) answer → Then (Then one next) last answer
    back answer (inl (x, o, inl (y, n, l))) = inl (y, inl (x, o, n), l)
    back answer (inl (x, o, inr (f, n, e))) = inr (f, inl (x, o, n), e)
    back answer (inr (f, o, e)) = inr (f, inr (f, o, refl), e)

-- a call that can give only one value
pub then_is : {X Y F : Type 0} (x : X) (next : X → Result Y F → Type 0) → Same (Then (Is x) next) (next x)
then_is {X} {Y} {F} x next = record { there = there; back = λ answer n. inl (x, refl, n) }
  where
    there : (answer : Result Y F) → Then (Is x) next answer → next x answer
    there answer (inl (y, e, n)) = subst (λ (y : X). next y answer) (same_ok {F = F} y x e) n
    there answer (inr (f, e, d)) = absurd (ok_or_err x f (sym e))

-- a value that is handed on
then_done : {X F : Type 0} (one : Result X F → Type 0) → Same (Then one Is) one
then_done {X} {F} one = record { there = there; back = back }
  where
    there : (answer : Result X F) → Then one Is answer → one answer
    there answer (inl (x, o, e)) = subst one (sym e) o
    there answer (inr (f, o, e)) = subst one (sym e) o

    back : (answer : Result X F) → one answer → Then one Is answer
    back (Ok x) o = inl (x, o, refl)
    back (Err f) o = inr (f, o, refl)

with_files : {X : Type 0} (files : List (List ℕ)) {one two : Result X Fault → Type 0} → Same one two → Same (WithFiles files one) (WithFiles files two)
with_files {X} files {one} {two} is = record { there = there; back = back }
  where
    there : (answer : Result X Failure) → WithFiles files one answer → WithFiles files two answer
    there (Ok x) o = is.there (Ok x) o
    there (Err f) o = (is.there (Err f.fault) o.0, o.1)

    back : (answer : Result X Failure) → WithFiles files two answer → WithFiles files one answer
    back (Ok x) o = is.back (Ok x) o
    back (Err f) o = (is.back (Err f.fault) o.0, o.1)

with_files_is : {X : Type 0} (files : List (List ℕ)) (x : X) → Same (WithFiles files (Is x)) (Is x)
with_files_is {X} files x = record { there = there; back = back }
  where
    there : (answer : Result X Failure) → WithFiles files (Is x) answer → Is x answer
    there (Ok y) e = ap ok (same_ok {F = Fault} y x e)
    there (Err f) o = absurd (ok_or_err x f.fault (sym o.0))

    back : (answer : Result X Failure) → Is x answer → WithFiles files (Is x) answer
    back (Ok y) e = ap ok (same_ok {F = Failure} y x e)
    back (Err f) e = absurd (ok_or_err x f (sym e))

-- Tests.

-- what a line does is to go on with the part of a test
abbrev Tests : (Result Act Fault → Type 0) → (Part → Act) → Type 0
Tests does act = (a : Act) → does (Ok a) → (holds : Bool) × (a ≡ act (part_where holds))

test_goes : {Y : Type 0} (files : List (List ℕ)) (does : Result Act Fault → Type 0) (act : Part → Act) (next : Bool → Result Y Failure → Type 0) (later : Act → Result Y Failure → Type 0)
    → Tests does act → ((holds : Bool) → Same (next holds) (later (act (part_where holds)))) → Same (Then (WithFiles files (Holds does act)) next) (Then (WithFiles files does) later)
test_goes {Y} files does act next later tests goes = record { there = there; back = back }
  where
    there : (answer : Result Y Failure) → Then (WithFiles files (Holds does act)) next answer → Then (WithFiles files does) later answer
    there answer (inl (holds, d, n)) = inl (act (part_where holds), d, (goes holds).there answer n)
    there answer (inr (f, d, e)) = inr (f, d, e)

    back : (answer : Result Y Failure) → Then (WithFiles files does) later answer → Then (WithFiles files (Holds does act)) next answer
    back answer (inl (a, d, l)) =
        let t = tests a d in
        inl (t.0, subst (λ (a : Act). does (Ok a)) t.1 d, (goes t.0).back answer (subst (λ (a : Act). later a answer) t.1 l))
    back answer (inr (f, d, e)) = inr (f, d, e)

pub both : (a b : Bool) → a && b ≡ true → (a ≡ true) × (b ≡ true)
both true b is = (refl, is)
both false b is = absurd cc

differ : (b : Bool) → b ≡ false → b ≡ true → ⊥
differ b one two = cc

either : (b : Bool) (act : Act) → Same (Is {F = Fault} act) (WhereKept b (Is act) act)
either true act = same
either false act = same

pub where_kept : (b : Bool) (answers : Result Act Fault → Type 0) (act : Act) → b ≡ true → Same (WhereKept b answers act) answers
where_kept true answers act kept = same
where_kept false answers act kept = absurd cc

pub where_unkept : (b : Bool) (answers : Result Act Fault → Type 0) (act : Act) → b ≡ false → Same (WhereKept b answers act) (Is act)
where_unkept true answers act unkept = absurd cc
where_unkept false answers act unkept = same

-- a conditional before its `#else`, and after it
abbrev pub later_open : Mark → Part → Open
later_open mark part = record { mark = mark; part = part; is_last = false }

abbrev pub last_open : Mark → Part → Open
last_open mark part = record { mark = mark; part = part; is_last = true }

-- no later part may be chosen
abbrev pub is_late : Part → Bool
is_late Waiting = false
is_late Chosen = true
is_late Past = true

-- it leaves the conditionals as they are
abbrev Stays : Act → Type 0
Stays (acts.Begin first) = ⊥
Stays (acts.Turn next is_last) = ⊥
Stays acts.End = ⊥
Stays act = Unit {0}

abbrev AllStay : Option Act → Type 0
AllStay None = Unit {0}
AllStay (Some act) = Stays act

included_stays : (tokens : List Token) → AllStay (included tokens)
included_stays [] = tt
included_stays (file ∷ []) = by (text_in file.shape)
  where
    by : (o : Option (List ℕ)) → AllStay (option_map (λ name. acts.Include name) o)
    by None = tt
    by (Some name) = tt
included_stays (file ∷ more ∷ rest) = tt

set_stays : (body : Option (List Token)) (o : Option Word) → AllStay (option_map (λ word. acts.Set word body) o)
set_stays body None = tt
set_stays body (Some word) = tt

defined_stays : (has_parameters : Bool) (tokens : List Token) → AllStay (defined has_parameters tokens)
defined_stays has_parameters [] = tt
defined_stays true (name ∷ text) = tt
defined_stays false (name ∷ text) = set_stays (Some text) (free_word name.shape)

undefined_stays : (tokens : List Token) → AllStay (undefined tokens)
undefined_stays [] = tt
undefined_stays (name ∷ []) = set_stays None (free_word name.shape)
undefined_stays (name ∷ more ∷ rest) = tt

or_bad_stays : (mark : Mark) (tokens : List Token) (o : Option Act) → AllStay o → (a : Act) → ok a ≡ or_bad mark tokens o → Stays a
or_bad_stays mark tokens None stays a is = absurd (ok_or_err a (bad_directive mark tokens) is)
or_bad_stays mark tokens (Some act) stays a is = subst Stays (sym (same_ok {F = Fault} a act is)) stays

module _ (Reads : Includes) (tool : Tool) where
  -- What a line does, by its kind.

  module _ (live : Live) (line : RawLine) where
    asks_tests : (mark : Mark) (text : List ℕ) (act : Part → Act) → Tests (Asks live tool mark text (λ value. act (part_of value))) act
    asks_tests mark text act a (inl (value, has, is)) = (not (is_zero value), same_ok {F = Fault} a (act (part_of value)) is ∙ ap act (by (is_zero value)))
      where
        by : (b : Bool) → (if b then Waiting else Chosen) ≡ part_where (not b)
        by true = refl
        by false = refl
    asks_tests mark text act a (inr (fault, has, is)) = absurd (ok_or_err a fault is)

    says_tests : (mark : Mark) (tokens behind : List Token) (wanted : Bool) (a : Act) → ok a ≡ or_bad mark tokens (tested live wanted behind)
        → (holds : Bool) × (a ≡ acts.Begin (part_where holds))
    says_tests mark tokens [] wanted a is = absurd (ok_or_err a (bad_directive mark tokens) is)
    says_tests mark tokens (name ∷ behind) wanted a is = by (word_in name.shape) is
      where
        by : (o : Option Word)
            → ok a ≡ or_bad mark tokens (option_map (λ word. acts.Begin (part_where (if wanted then is_known live word.bytes else not (is_known live word.bytes)))) o)
            → (holds : Bool) × (a ≡ acts.Begin (part_where holds))
        by None is = absurd (ok_or_err a (bad_directive mark tokens) is)
        by (Some word) is = (if wanted then is_known live word.bytes else not (is_known live word.bytes), same_ok {F = Fault} a _ is)

    pub opening_tests : is_opening (kind line) ≡ true → Tests (Does live tool None line) (λ part. acts.Begin part)
    opening_tests opening = acts_by (behind_hash (unblanked line.bytes)) opening
      where
        directs_by : (text : List ℕ) (directive : Directive) → is_opening (Some directive) ≡ true → Tests (Directs live tool None line.mark text directive) (λ part. acts.Begin part)
        directs_by text directives.If opening a does = asks_tests line.mark text (λ part. acts.Begin part) a does
        directs_by text directives.Ifdef opening a (inl (tokens, cut, is)) = says_tests line.mark tokens (behind_first tokens) true a is
        directs_by text directives.Ifdef opening a (inr (fault, cut, is)) = absurd (ok_or_err a fault is)
        directs_by text directives.Ifndef opening a (inl (tokens, cut, is)) = says_tests line.mark tokens (behind_first tokens) false a is
        directs_by text directives.Ifndef opening a (inr (fault, cut, is)) = absurd (ok_or_err a fault is)
        directs_by text directive opening a does = absurd cc

        acts_by : (o : Option (List ℕ)) → is_opening (of_hash o) ≡ true → Tests (Acts live tool None line.mark line.bytes o) (λ part. acts.Begin part)
        acts_by None opening = absurd cc
        acts_by (Some text) opening = directs_by text (directive_in (unblanked text)) opening

    pub elif_tests : (m : Mark) → is_elif (kind line) ≡ true → Tests (Does live tool (Some (waiting m)) line) (λ part. acts.Turn part false)
    elif_tests m again = acts_by (behind_hash (unblanked line.bytes)) again
      where
        directs_by : (text : List ℕ) (directive : Directive) → is_elif (Some directive) ≡ true → Tests (Directs live tool (Some (waiting m)) line.mark text directive) (λ part. acts.Turn part false)
        directs_by text directives.Elif again a does = asks_tests line.mark text (λ part. acts.Turn part false) a does
        directs_by text directive again a does = absurd cc

        acts_by : (o : Option (List ℕ)) → is_elif (of_hash o) ≡ true → Tests (Acts live tool (Some (waiting m)) line.mark line.bytes o) (λ part. acts.Turn part false)
        acts_by None again = absurd cc
        acts_by (Some text) again = directs_by text (directive_in (unblanked text)) again

    says_stays : (text : List ℕ) (directive : Directive) → ((tokens : List Token) → AllStay (simple live text directive tokens)) → (a : Act) → Says live line.mark text directive (Ok a) → Stays a
    says_stays text directive stays a (inl (tokens, cut, is)) = or_bad_stays line.mark tokens (simple live text directive (behind_first tokens)) (stays (behind_first tokens)) a is
    says_stays text directive stays a (inr (fault, cut, is)) = absurd (ok_or_err a fault is)

    plain_stays : is_plain (kind line) ≡ true → (a : Act) → Does live tool None line (Ok a) → Stays a
    plain_stays plain = acts_by (behind_hash (unblanked line.bytes)) plain
      where
        directs_by : (text : List ℕ) (directive : Directive) → is_plain (Some directive) ≡ true → (a : Act) → Directs live tool None line.mark text directive (Ok a) → Stays a
        directs_by text directives.Include plain a does = says_stays text directives.Include included_stays a does
        directs_by text directives.Define plain a does = says_stays text directives.Define (defined_stays (has_parameters text)) a does
        directs_by text directives.Undefine plain a does = says_stays text directives.Undefine undefined_stays a does
        directs_by text directives.Empty plain a does = subst Stays (sym (same_ok {F = Fault} a acts.Nothing does)) tt
        directs_by text directives.Other plain a does = says_stays text directives.Other (λ tokens. tt) a does
        directs_by text directive plain a does = absurd cc

        puts_by : (a : Act) → PutsOut live line.mark line.bytes (Ok a) → Stays a
        puts_by a (inl (tokens, cut, inl (out, replaced, is))) = subst Stays (sym (same_ok {F = Fault} a (acts.Put out) is)) tt
        puts_by a (inl (tokens, cut, inr (fault, replaced, is))) = absurd (ok_or_err a fault is)
        puts_by a (inr (fault, cut, is)) = absurd (ok_or_err a fault is)

        acts_by : (o : Option (List ℕ)) → is_plain (of_hash o) ≡ true → (a : Act) → Acts live tool None line.mark line.bytes o (Ok a) → Stays a
        acts_by None plain = puts_by
        acts_by (Some text) plain = directs_by text (directive_in (unblanked text)) plain

    -- such lines do the same inside whatever is kept, and else this
    plain_does : (around : Option Open) → is_plain (kind line) ≡ true → Same (Does live tool around line) (WhereKept (is_kept around) (Does live tool None line) acts.Nothing)
    plain_does around plain = acts_by (behind_hash (unblanked line.bytes)) plain
      where
        directs_by : (text : List ℕ) (directive : Directive) → is_plain (Some directive) ≡ true
            → Same (Directs live tool around line.mark text directive) (WhereKept (is_kept around) (Directs live tool None line.mark text directive) acts.Nothing)
        directs_by text directives.Include plain = same
        directs_by text directives.Define plain = same
        directs_by text directives.Undefine plain = same
        directs_by text directives.Empty plain = either (is_kept around) acts.Nothing
        directs_by text directives.Other plain = same
        directs_by text directive plain = absurd cc

        acts_by : (o : Option (List ℕ)) → is_plain (of_hash o) ≡ true
            → Same (Acts live tool around line.mark line.bytes o) (WhereKept (is_kept around) (Acts live tool None line.mark line.bytes o) acts.Nothing)
        acts_by None plain = same
        acts_by (Some text) plain = directs_by text (directive_in (unblanked text)) plain

    pub opening_does : (around : Option Open) → is_opening (kind line) ≡ true → Same (Does live tool around line) (WhereKept (is_kept around) (Does live tool None line) (acts.Begin Past))
    opening_does around opening = acts_by (behind_hash (unblanked line.bytes)) opening
      where
        directs_by : (text : List ℕ) (directive : Directive) → is_opening (Some directive) ≡ true
            → Same (Directs live tool around line.mark text directive) (WhereKept (is_kept around) (Directs live tool None line.mark text directive) (acts.Begin Past))
        directs_by text directives.If opening = same
        directs_by text directives.Ifdef opening = same
        directs_by text directives.Ifndef opening = same
        directs_by text directive opening = absurd cc

        acts_by : (o : Option (List ℕ)) → is_opening (of_hash o) ≡ true
            → Same (Acts live tool around line.mark line.bytes o) (WhereKept (is_kept around) (Acts live tool None line.mark line.bytes o) (acts.Begin Past))
        acts_by None opening = absurd cc
        acts_by (Some text) opening = directs_by text (directive_in (unblanked text)) opening

    -- a later part of a conditional, and its end
    pub elif_does : (m n : Mark) → is_elif (kind line) ≡ true → Same (Does live tool (Some (waiting m)) line) (Does live tool (Some (waiting n)) line)
    elif_does m n again = acts_by (behind_hash (unblanked line.bytes)) again
      where
        directs_by : (text : List ℕ) (directive : Directive) → is_elif (Some directive) ≡ true
            → Same (Directs live tool (Some (waiting m)) line.mark text directive) (Directs live tool (Some (waiting n)) line.mark text directive)
        directs_by text directives.Elif again = same
        directs_by text directive again = absurd cc

        acts_by : (o : Option (List ℕ)) → is_elif (of_hash o) ≡ true
            → Same (Acts live tool (Some (waiting m)) line.mark line.bytes o) (Acts live tool (Some (waiting n)) line.mark line.bytes o)
        acts_by None again = absurd cc
        acts_by (Some text) again = directs_by text (directive_in (unblanked text)) again

    of_directive : (around : Option Open) (test : Option Directive → Bool) (answers : Result Act Fault → Type 0) → test None ≡ false
        → ((text : List ℕ) (directive : Directive) → test (Some directive) ≡ true → Same (Directs live tool around line.mark text directive) answers)
        → test (kind line) ≡ true → Same (Does live tool around line) answers
    of_directive around test answers bare directs passes = by (behind_hash (unblanked line.bytes)) passes
      where
        by : (o : Option (List ℕ)) → test (of_hash o) ≡ true → Same (Acts live tool around line.mark line.bytes o) answers
        by None passes = absurd (differ (test None) bare passes)
        by (Some text) passes = directs text (directive_in (unblanked text)) passes

    pub elif_past : (m : Mark) (part : Part) → is_late part ≡ true → is_elif (kind line) ≡ true → Same (Does live tool (Some (later_open m part)) line) (Is (acts.Turn Past false))
    elif_past m part late = of_directive (Some (later_open m part)) is_elif (Is (acts.Turn Past false)) refl directs_by
      where
        turns : (text : List ℕ) (part : Part) → is_late part ≡ true → Same (Turns live tool line.mark text (Some part)) (Is (acts.Turn Past false))
        turns text Waiting late = absurd cc
        turns text Chosen late = same
        turns text Past late = same

        directs_by : (text : List ℕ) (directive : Directive) → is_elif (Some directive) ≡ true → Same (Directs live tool (Some (later_open m part)) line.mark text directive) (Is (acts.Turn Past false))
        directs_by text directives.Elif again = turns text part late
        directs_by text directive again = absurd cc

    pub else_does : (around : Option Open) → is_else (kind line) ≡ true → Same (Does live tool around line) (λ answer. answer ≡ otherwise line.mark (open_part around))
    else_does around = of_directive around is_else (λ answer. answer ≡ otherwise line.mark (open_part around)) refl directs_by
      where
        directs_by : (text : List ℕ) (directive : Directive) → is_else (Some directive) ≡ true
            → Same (Directs live tool around line.mark text directive) (λ answer. answer ≡ otherwise line.mark (open_part around))
        directs_by text directives.Else last = same
        directs_by text directive last = absurd cc

    pub else_past : (m : Mark) (part : Part) → is_late part ≡ true → is_else (kind line) ≡ true → Same (Does live tool (Some (later_open m part)) line) (Is (acts.Turn Past true))
    else_past m Waiting late last = absurd cc
    else_past m Chosen late last = else_does (Some (later_open m Chosen)) last
    else_past m Past late last = else_does (Some (later_open m Past)) last

    endif_does : (around : Option Open) → is_endif (kind line) ≡ true → Same (Does live tool around line) (λ answer. answer ≡ ended line.mark around)
    endif_does around = of_directive around is_endif (λ answer. answer ≡ ended line.mark around) refl directs_by
      where
        directs_by : (text : List ℕ) (directive : Directive) → is_endif (Some directive) ≡ true → Same (Directs live tool around line.mark text directive) (λ answer. answer ≡ ended line.mark around)
        directs_by text directives.Endif end = same
        directs_by text directive end = absurd cc

  -- Lines, one by one.

  abbrev pub pair : List Open → State → List Open × State
  pair opens s = (opens, s)

  abbrev Behind : RawLine → List Open → State → Act → Result (List Open × State) Failure → Type 0
  Behind line opens s act = Follows Reads line.mark act opens s

  abbrev Goes : List RawLine → Option Fault → List Open → State → Result State Failure → Type 0
  Goes lines ending opens s = LinesGo Reads tool lines ending opens s

  -- with the conditionals after the line, and with these
  abbrev pub GoesOn : List RawLine → Option Fault → (List Open × State) → Result State Failure → Type 0
  GoesOn lines ending next = LinesGo Reads tool lines ending next.0 next.1

  abbrev GoesIn : List RawLine → Option Fault → List Open → (List Open × State) → Result State Failure → Type 0
  GoesIn lines ending opens next = LinesGo Reads tool lines ending opens next.1

  line_goes : (line : RawLine) (lines : List RawLine) (ending : Option Fault) (opens : List Open) (s : State)
      → Same (Goes (line ∷ lines) ending opens s) (Then (WithFiles s.files (Does s.live tool (innermost opens) line)) (λ act. Then (Behind line opens s act) (GoesOn lines ending)))
  line_goes line lines ending opens s = then_then (WithFiles s.files (Does s.live tool (innermost opens) line)) (Behind line opens s) (GoesOn lines ending)

  -- a line that can do only this
  pub settled : (line : RawLine) (lines : List RawLine) (ending : Option Fault) (opens after : List Open) (s : State) (act : Act)
      → Same (Does s.live tool (innermost opens) line) (Is act) → Same (Behind line opens s act) (Is (pair after s)) → Same (Goes lines ending after s) (Goes (line ∷ lines) ending opens s)
  settled line lines ending opens after s act does follows =
      turn (on (line_goes line lines ending opens s)
      (on (then_first (WithFiles s.files (Does s.live tool (innermost opens) line)) (Is act) (λ act. Then (Behind line opens s act) (GoesOn lines ending))
      (on (with_files s.files does) (with_files_is s.files act)))
      (on (then_is act (λ act. Then (Behind line opens s act) (GoesOn lines ending)))
      (on (then_first (Behind line opens s act) (Is (pair after s)) (GoesOn lines ending) follows) (then_is (pair after s) (GoesOn lines ending))))))

  plain_goes : (line : RawLine) (lines : List RawLine) (ending : Option Fault) (opens : List Open) (s : State) → is_plain (kind line) ≡ true → is_kept (innermost opens) ≡ true
      → Same (Then (LineGoes Reads tool line [] s) (GoesIn lines ending opens)) (Goes (line ∷ lines) ending opens s)
  plain_goes line lines ending opens s plain kept =
      on (then_then (WithFiles s.files (Does s.live tool None line)) (Behind line [] s) (GoesIn lines ending opens))
      (on (then_more (WithFiles s.files (Does s.live tool None line)) (WithFiles s.files (Does s.live tool (innermost opens) line))
      (λ act. Then (Behind line [] s act) (GoesIn lines ending opens)) (λ act. Then (Behind line opens s act) (GoesOn lines ending))
      (with_files s.files (turn (on (plain_does s.live line (innermost opens) plain) (where_kept (is_kept (innermost opens)) (Does s.live tool None line) acts.Nothing kept))))
      (λ act does. by act (plain_stays s.live line plain act does)))
      (turn (line_goes line lines ending opens s)))
    where
      goes_on : (t : State) → Same (Then (Is (pair [] t)) (GoesIn lines ending opens)) (Then (Is (pair opens t)) (GoesOn lines ending))
      goes_on t = on (then_is (pair [] t) (GoesIn lines ending opens)) (turn (then_is (pair opens t) (GoesOn lines ending)))

      by : (act : Act) → Stays act → Same (Then (Behind line [] s act) (GoesIn lines ending opens)) (Then (Behind line opens s act) (GoesOn lines ending))
      by acts.Nothing stays = goes_on s
      by (acts.Put tokens) stays = goes_on (state_after (acts.Put tokens) s)
      by (acts.Set word body) stays = goes_on (state_after (acts.Set word body) s)
      by (acts.Include name) stays =
          on (then_then (Reads name line.mark s) (λ after. Is (pair [] after)) (GoesIn lines ending opens))
          (on (then_next (Reads name line.mark s) (λ after. Then (Is (pair [] after)) (GoesIn lines ending opens)) (λ after. Then (Is (pair opens after)) (GoesOn lines ending)) (λ after read. goes_on after))
          (turn (then_then (Reads name line.mark s) (λ after. Is (pair opens after)) (GoesOn lines ending))))
      by (acts.Begin first) stays = absurd stays
      by (acts.Turn next is_last) stays = absurd stays
      by acts.End stays = absurd stays

  ends_one : (last : RawLine) (lines : List RawLine) (ending : Option Fault) (one : Open) (opens : List Open) (s : State) → is_endif (kind last) ≡ true
      → Same (Goes lines ending opens s) (Goes (last ∷ lines) ending (one ∷ opens) s)
  ends_one last lines ending one opens s end = settled last lines ending (one ∷ opens) opens s acts.End (endif_does s.live last (Some one) end) same

  pub asked : (test : RawLine) (around : Option Open) (act : Part → Act) (one two : Result State Failure → Type 0) (next : State → Result State Failure → Type 0)
      (lines : List RawLine) (ending : Option Fault) (opens : List Open) (s : State)
      → Same (Does s.live tool around test) (Does s.live tool (innermost opens) test) → Tests (Does s.live tool around test) act
      → Same (Then one next) (Then (Behind test opens s (act Chosen)) (GoesOn lines ending)) → Same (Then two next) (Then (Behind test opens s (act Waiting)) (GoesOn lines ending))
      → Same (Then (Then (WithFiles s.files (Holds (Does s.live tool around test) act)) (Chooses one two)) next) (Goes (test ∷ lines) ending opens s)
  asked test around act one two next lines ending opens s does tests chosen waits =
      on (then_then (WithFiles s.files (Holds (Does s.live tool around test) act)) (Chooses one two) next)
      (on (test_goes s.files (Does s.live tool around test) act (λ holds. Then (Chooses one two holds) next) (λ a. Then (Behind test opens s a) (GoesOn lines ending)) tests by)
      (on (then_first (WithFiles s.files (Does s.live tool around test)) (WithFiles s.files (Does s.live tool (innermost opens) test)) (λ a. Then (Behind test opens s a) (GoesOn lines ending))
      (with_files s.files does)) (turn (line_goes test lines ending opens s))))
    where
      by : (holds : Bool) → Same (Then (Chooses one two holds) next) (Then (Behind test opens s (act (part_where holds))) (GoesOn lines ending))
      by true = chosen
      by false = waits

  -- Groups.

  mutual
    -- where nothing is kept the lines of a group change nothing
    pub passed : (group : Group) (lines : List RawLine) (ending : Option Fault) (opens : List Open) (s : State) → is_group group ≡ true → is_kept (innermost opens) ≡ false
        → Same (Goes lines ending opens s) (Goes (lines_of group lines) ending opens s)
    passed groups.Done lines ending opens s good unkept = same
    passed (groups.Line line group) lines ending opens s good unkept =
        let h = both (is_plain (kind line)) (is_group group) good in
        on (passed group lines ending opens s h.1 unkept)
        (settled line (lines_of group lines) ending opens opens s acts.Nothing
        (on (plain_does s.live line (innermost opens) h.0) (where_unkept (is_kept (innermost opens)) (Does s.live tool None line) acts.Nothing unkept)) same)
    passed (groups.Choice test first others behind) lines ending opens s good unkept =
        let h = both (is_opening (kind test) && is_group first && are_others others) (is_group behind) good in
        let i = both (is_opening (kind test) && is_group first) (are_others others) h.0 in
        let j = both (is_opening (kind test)) (is_group first) i.0 in
        let rest : List RawLine = lines_of behind lines in
        on (passed behind lines ending opens s h.1 unkept)
        (on (passed_others others rest ending test.mark Past opens s i.1 refl)
        (on (passed first (lines_of_others others rest) ending (later_open test.mark Past ∷ opens) s j.1 refl)
        (settled test (lines_of first (lines_of_others others rest)) ending opens (later_open test.mark Past ∷ opens) s (acts.Begin Past)
        (on (opening_does s.live test (innermost opens) j.0) (where_unkept (is_kept (innermost opens)) (Does s.live tool None test) (acts.Begin Past) unkept)) same)))

    -- and so do the other parts, where no later one may be chosen
    passed_others : (others : Others) (lines : List RawLine) (ending : Option Fault) (m : Mark) (part : Part) (opens : List Open) (s : State) → are_others others ≡ true → is_late part ≡ true
        → Same (Goes lines ending opens s) (Goes (lines_of_others others lines) ending (later_open m part ∷ opens) s)
    passed_others (groups.End last) lines ending m part opens s good late = ends_one last lines ending (later_open m part) opens s good
    passed_others (groups.Else line body last) lines ending m part opens s good late =
        let h = both (is_else (kind line) && is_group body) (is_endif (kind last)) good in
        let i = both (is_else (kind line)) (is_group body) h.0 in
        on (ends_one last lines ending (last_open m Past) opens s h.1)
        (on (passed body (last ∷ lines) ending (last_open m Past ∷ opens) s i.1 refl)
        (settled line (lines_of body (last ∷ lines)) ending (later_open m part ∷ opens) (last_open m Past ∷ opens) s (acts.Turn Past true) (else_past s.live line m part late i.0) same))
    passed_others (groups.Elif test body others) lines ending m part opens s good late =
        let h = both (is_elif (kind test) && is_group body) (are_others others) good in
        let i = both (is_elif (kind test)) (is_group body) h.0 in
        on (passed_others others lines ending m Past opens s h.1 refl)
        (on (passed body (lines_of_others others lines) ending (later_open m Past ∷ opens) s i.1 refl)
        (settled test (lines_of body (lines_of_others others lines)) ending (later_open m part ∷ opens) (later_open m Past ∷ opens) s (acts.Turn Past false) (elif_past s.live test m part late i.0) same))

  mutual
    -- of lines that are kept the chosen parts are read
    pub group_goes : (group : Group) (lines : List RawLine) (ending : Option Fault) (opens : List Open) (s : State) → is_group group ≡ true → is_kept (innermost opens) ≡ true
        → Same (Then (GroupGoes Reads tool group s) (Goes lines ending opens)) (Goes (lines_of group lines) ending opens s)
    group_goes groups.Done lines ending opens s good kept = then_is s (Goes lines ending opens)
    group_goes (groups.Line line group) lines ending opens s good kept =
        let h = both (is_plain (kind line)) (is_group group) good in
        on (then_then (LineGoes Reads tool line [] s) (λ next. GroupGoes Reads tool group next.1) (Goes lines ending opens))
        (on (then_next (LineGoes Reads tool line [] s) (λ next. Then (GroupGoes Reads tool group next.1) (Goes lines ending opens)) (GoesIn (lines_of group lines) ending opens)
        (λ next went. group_goes group lines ending opens next.1 h.1 kept))
        (plain_goes line (lines_of group lines) ending opens s h.0 kept))
    group_goes (groups.Choice test first others behind) lines ending opens s good kept =
        let h = both (is_opening (kind test) && is_group first && are_others others) (is_group behind) good in
        let i = both (is_opening (kind test) && is_group first) (are_others others) h.0 in
        let j = both (is_opening (kind test)) (is_group first) i.0 in
        let rest : List RawLine = lines_of behind lines in
        let more : List RawLine = lines_of_others others rest in
        on (then_then (Then (WithFiles s.files (Holds (Does s.live tool None test) (λ part. acts.Begin part))) (Chooses (GroupGoes Reads tool first s) (OthersGo Reads tool others s)))
        (GroupGoes Reads tool behind) (Goes lines ending opens))
        (on (then_next (Then (WithFiles s.files (Holds (Does s.live tool None test) (λ part. acts.Begin part))) (Chooses (GroupGoes Reads tool first s) (OthersGo Reads tool others s)))
        (λ t. Then (GroupGoes Reads tool behind t) (Goes lines ending opens)) (Goes rest ending opens) (λ t went. group_goes behind lines ending opens t h.1 kept))
        (asked test None (λ part. acts.Begin part) (GroupGoes Reads tool first s) (OthersGo Reads tool others s) (Goes rest ending opens) (lines_of first more) ending opens s
        (turn (on (opening_does s.live test (innermost opens) j.0) (where_kept (is_kept (innermost opens)) (Does s.live tool None test) (acts.Begin Past) kept)))
        (opening_tests s.live test j.0)
        (on (then_next (GroupGoes Reads tool first s) (Goes rest ending opens) (Goes more ending (later_open test.mark Chosen ∷ opens)) (λ t went. passed_others others rest ending test.mark Chosen opens t i.1 refl))
        (on (group_goes first more ending (later_open test.mark Chosen ∷ opens) s j.1 refl) (turn (then_is (pair (later_open test.mark Chosen ∷ opens) s) (GoesOn (lines_of first more) ending)))))
        (on (others_go others rest ending test.mark opens s i.1)
        (on (passed first more ending (later_open test.mark Waiting ∷ opens) s j.1 refl) (turn (then_is (pair (later_open test.mark Waiting ∷ opens) s) (GoesOn (lines_of first more) ending)))))))

    others_go : (others : Others) (lines : List RawLine) (ending : Option Fault) (m : Mark) (opens : List Open) (s : State) → are_others others ≡ true
        → Same (Then (OthersGo Reads tool others s) (Goes lines ending opens)) (Goes (lines_of_others others lines) ending (waiting m ∷ opens) s)
    others_go (groups.End last) lines ending m opens s good = on (then_is s (Goes lines ending opens)) (ends_one last lines ending (waiting m) opens s good)
    others_go (groups.Else line body last) lines ending m opens s good =
        let h = both (is_else (kind line) && is_group body) (is_endif (kind last)) good in
        let i = both (is_else (kind line)) (is_group body) h.0 in
        on (then_next (GroupGoes Reads tool body s) (Goes lines ending opens) (Goes (last ∷ lines) ending (last_open m Chosen ∷ opens)) (λ t went. ends_one last lines ending (last_open m Chosen) opens t h.1))
        (on (group_goes body (last ∷ lines) ending (last_open m Chosen ∷ opens) s i.1 refl)
        (settled line (lines_of body (last ∷ lines)) ending (waiting m ∷ opens) (last_open m Chosen ∷ opens) s (acts.Turn Chosen true) (else_does s.live line (Some (waiting m)) i.0) same))
    others_go (groups.Elif test body others) lines ending m opens s good =
        let h = both (is_elif (kind test) && is_group body) (are_others others) good in
        let i = both (is_elif (kind test)) (is_group body) h.0 in
        let more : List RawLine = lines_of_others others lines in
        asked test (Some (waiting test.mark)) (λ part. acts.Turn part false) (GroupGoes Reads tool body s) (OthersGo Reads tool others s) (Goes lines ending opens) (lines_of body more) ending (waiting m ∷ opens) s
        (elif_does s.live test test.mark m i.0) (elif_tests s.live test test.mark i.0)
        (on (then_next (GroupGoes Reads tool body s) (Goes lines ending opens) (Goes more ending (later_open m Chosen ∷ opens)) (λ t went. passed_others others lines ending m Chosen opens t h.1 refl))
        (on (group_goes body more ending (later_open m Chosen ∷ opens) s i.1 refl) (turn (then_is (pair (later_open m Chosen ∷ opens) s) (GoesOn (lines_of body more) ending)))))
        (on (others_go others lines ending m opens s h.1)
        (on (passed body more ending (later_open m Waiting ∷ opens) s i.1 refl) (turn (then_is (pair (later_open m Waiting ∷ opens) s) (GoesOn (lines_of body more) ending)))))

  pub read_there : (group : Group) (lines : List RawLine) (ending : Option Fault) (opens : List Open) (s : State) (answer : Result State Failure) → is_group group ≡ true
      → is_kept (innermost opens) ≡ true → Then (GroupGoes Reads tool group s) (Goes lines ending opens) answer → Goes (lines_of group lines) ending opens s answer
  read_there group lines ending opens s answer good kept = (group_goes group lines ending opens s good kept).there answer

  pub read_back : (group : Group) (lines : List RawLine) (ending : Option Fault) (opens : List Open) (s : State) (answer : Result State Failure) → is_group group ≡ true
      → is_kept (innermost opens) ≡ true → Goes (lines_of group lines) ending opens s answer → Then (GroupGoes Reads tool group s) (Goes lines ending opens) answer
  read_back group lines ending opens s answer good kept = (group_goes group lines ending opens s good kept).back answer

  pub passed_there : (group : Group) (lines : List RawLine) (ending : Option Fault) (opens : List Open) (s : State) (answer : Result State Failure) → is_group group ≡ true
      → is_kept (innermost opens) ≡ false → Goes lines ending opens s answer → Goes (lines_of group lines) ending opens s answer
  passed_there group lines ending opens s answer good unkept = (passed group lines ending opens s good unkept).there answer

  pub passed_back : (group : Group) (lines : List RawLine) (ending : Option Fault) (opens : List Open) (s : State) (answer : Result State Failure) → is_group group ≡ true
      → is_kept (innermost opens) ≡ false → Goes (lines_of group lines) ending opens s answer → Goes lines ending opens s answer
  passed_back group lines ending opens s answer good unkept = (passed group lines ending opens s good unkept).back answer
