-- No line of a program defines a reserved word, so none is live.
use Rattle.std.proofs.Common.{◌≡◌, ◌⊎◌, inl, inr, ℕ, Bool, true, false, if◌then◌else◌, List, [], ◌∷◌, Option, Some, None, Ok, Err, refl, sym, subst}
use Rattle.std.specs.Prelude.{option_map}
use Rattle.std.specs.Str.{bytes_eq, str_to_ascii_lowercase}
use Rattle.std.specs.declared.result.Result.{Result}
use Rattle.std.proofs.lemmas.Slice.Eq.{bytes_eq-Decides}
use Rattle.rz_core.specs.declared.fault.Fault.{Fault}
use Rattle.rz_core.specs.declared.fault.Mark.{Mark}
use Rattle.rz_core.specs.declared.resource.Word.{Word}
use Rattle.rz_words.specs.Words.{is_label, role_of}
use Rattle.rz_folder.specs.Folder.{Files}
use Rattle.rz_lex.specs.declared.raw_line.RawLine.{RawLine}
use Rattle.rz_lex.specs.declared.token.Shape.{Shape}
use Rattle.rz_lex.specs.declared.token.Token.{Token}
use Rattle.rz_pre_source.specs.Directive.{behind_hash, directive_in, has_parameters, unblanked}
use Rattle.rz_pre_source.specs.declared.directive.Directive.{Directive}
use Rattle.rz_pre_source.specs.declared.directive.Directive.TheVariants as directives
use Rattle.rz_pre_laws.specs.Definitions.{AreFree, IsFree, IsFreeName}
use Rattle.rz_pre.specs.Line.{behind_first, defined, ended, free_word, if_free, included, is_kept, open_part, or_bad, otherwise, passed_over, simple, tested, text_in, undefined, word_in, Acts, Directs, Does, Obeys, PutsOut, Says, Turns, WhereKept}
use Rattle.rz_pre.specs.Live.{put, shapes_of, Live}
use Rattle.rz_pre.specs.Program.{live_after, nothing_live, start, with_file, ProgramGoes, State}
use Rattle.rz_pre.specs.declared.program.Failure.{Failure}
use Rattle.rz_pre_laws.specs.Unfolding.{behind_all, outcome, EachActs, Entry, Line, Opened}
use Rattle.rz_pre.specs.declared.act.Act.{Act}
use Rattle.rz_pre.specs.declared.act.Act.TheVariants as acts
use Rattle.rz_pre.specs.declared.condition.Tool.{Tool}
use Rattle.rz_pre.specs.declared.conditional.Open.{Open}
use Rattle.rz_pre.specs.declared.conditional.Part.{Part}
use Rattle.rz_pre.specs.declared.conditional.Part.TheVariants.{Chosen, Past, Waiting}
use Rattle.rz_pre.specs.declared.program.Def.{Def}
use Rattle.rz_pre_laws.proofs.Unfolded.{all_names}

-- What a line does.

-- what it defines isn't reserved
abbrev IsFreeAct : Act → Type 0
IsFreeAct (acts.Set word body) = IsFree word.bytes
IsFreeAct act = Unit {0}

abbrev OptionFree : Option Act → Type 0
OptionFree None = Unit {0}
OptionFree (Some act) = IsFreeAct act

abbrev AnswerFree : Result Act Fault → Type 0
AnswerFree (Ok act) = IsFreeAct act
AnswerFree (Err fault) = Unit {0}

abbrev WordFree : Option Word → Type 0
WordFree None = Unit {0}
WordFree (Some word) = IsFree word.bytes

word_free : (found : Option Word) → WordFree (if_free found)
word_free None = tt
word_free (Some word) = by (is_label (role_of word.bytes)) refl
  where
    by : (test : Bool) → is_label (role_of word.bytes) ≡ test → WordFree (if test then Some word else None)
    by true is = is
    by false is = tt

set_free : (found : Option Word) (body : Option (List Token)) → WordFree found → OptionFree (option_map (λ word. acts.Set word body) found)
set_free None body free = tt
set_free (Some word) body free = free

included_free : (tokens : List Token) → OptionFree (included tokens)
included_free [] = tt
included_free (file ∷ []) = by (text_in file.shape)
  where
    by : (o : Option (List ℕ)) → OptionFree (option_map (λ name. acts.Include name) o)
    by None = tt
    by (Some name) = tt
included_free (file ∷ next ∷ rest) = tt

defined_free : (b : Bool) (tokens : List Token) → OptionFree (defined b tokens)
defined_free b [] = tt
defined_free true (name ∷ text) = tt
defined_free false (name ∷ text) = set_free (free_word name.shape) (Some text) (word_free (word_in name.shape))

undefined_free : (tokens : List Token) → OptionFree (undefined tokens)
undefined_free [] = tt
undefined_free (name ∷ []) = set_free (free_word name.shape) None (word_free (word_in name.shape))
undefined_free (name ∷ next ∷ rest) = tt

tested_free : (live : Live) (wanted : Bool) (tokens : List Token) → OptionFree (tested live wanted tokens)
tested_free live wanted [] = tt
tested_free live wanted (name ∷ rest) = by (word_in name.shape) _
  where
    by : (o : Option Word) (first : Word → Part) → OptionFree (option_map (λ word. acts.Begin (first word)) o)
    by None first = tt
    by (Some word) first = tt

simple_free : (live : Live) (text : List ℕ) (directive : Directive) (tokens : List Token) → OptionFree (simple live text directive tokens)
simple_free live text directives.Include tokens = included_free tokens
simple_free live text directives.Define tokens = defined_free (has_parameters text) tokens
simple_free live text directives.Undefine tokens = undefined_free tokens
simple_free live text directives.Ifdef tokens = tested_free live true tokens
simple_free live text directives.Ifndef tokens = tested_free live false tokens
simple_free live text directives.If tokens = tt
simple_free live text directives.Elif tokens = tt
simple_free live text directives.Else tokens = tt
simple_free live text directives.Endif tokens = tt
simple_free live text directives.Empty tokens = tt
simple_free live text directives.Other tokens = tt

module _ (mark : Mark) (live : Live) (tool : Tool) where
  or_bad_free : (tokens : List Token) (o : Option Act) → OptionFree o → AnswerFree (or_bad mark tokens o)
  or_bad_free tokens None free = tt
  or_bad_free tokens (Some act) free = free

  put_free : (bytes : List ℕ) (answer : Result Act Fault) → PutsOut live mark bytes answer → AnswerFree answer
  put_free bytes answer (inl (tokens, cut, inl (out, into, is))) = subst AnswerFree (sym is) tt
  put_free bytes answer (inl (tokens, cut, inr (fault, bad, is))) = subst AnswerFree (sym is) tt
  put_free bytes answer (inr (fault, bad, is)) = subst AnswerFree (sym is) tt

  said_free : (text : List ℕ) (directive : Directive) (answer : Result Act Fault) → Says live mark text directive answer → AnswerFree answer
  said_free text directive answer (inl (tokens, cut, is)) = subst AnswerFree (sym is) (or_bad_free tokens _ (simple_free live text directive (behind_first tokens)))
  said_free text directive answer (inr (fault, bad, is)) = subst AnswerFree (sym is) tt

  obeyed_free : (text : List ℕ) (directive : Directive) (answer : Result Act Fault) → Obeys live tool mark text directive answer → AnswerFree answer
  obeyed_free text directives.If answer (inl (value, has, is)) = subst AnswerFree (sym is) tt
  obeyed_free text directives.If answer (inr (fault, bad, is)) = subst AnswerFree (sym is) tt
  obeyed_free text directives.Include answer so = said_free text directives.Include answer so
  obeyed_free text directives.Define answer so = said_free text directives.Define answer so
  obeyed_free text directives.Undefine answer so = said_free text directives.Undefine answer so
  obeyed_free text directives.Elif answer so = said_free text directives.Elif answer so
  obeyed_free text directives.Ifdef answer so = said_free text directives.Ifdef answer so
  obeyed_free text directives.Ifndef answer so = said_free text directives.Ifndef answer so
  obeyed_free text directives.Else answer so = said_free text directives.Else answer so
  obeyed_free text directives.Endif answer so = said_free text directives.Endif answer so
  obeyed_free text directives.Empty answer so = said_free text directives.Empty answer so
  obeyed_free text directives.Other answer so = said_free text directives.Other answer so

  turned_free : (text : List ℕ) (o : Option Part) (answer : Result Act Fault) → Turns live tool mark text o answer → AnswerFree answer
  turned_free text None answer is = subst AnswerFree (sym is) tt
  turned_free text (Some Waiting) answer (inl (value, has, is)) = subst AnswerFree (sym is) tt
  turned_free text (Some Waiting) answer (inr (fault, bad, is)) = subst AnswerFree (sym is) tt
  turned_free text (Some Chosen) answer is = subst AnswerFree (sym is) tt
  turned_free text (Some Past) answer is = subst AnswerFree (sym is) tt

  passed_free : (directive : Directive) → IsFreeAct (passed_over directive)
  passed_free directives.If = tt
  passed_free directives.Include = tt
  passed_free directives.Define = tt
  passed_free directives.Undefine = tt
  passed_free directives.Elif = tt
  passed_free directives.Ifdef = tt
  passed_free directives.Ifndef = tt
  passed_free directives.Else = tt
  passed_free directives.Endif = tt
  passed_free directives.Empty = tt
  passed_free directives.Other = tt

  kept_free : (b : Bool) (answers : Result Act Fault → Type 0) (act : Act) (answer : Result Act Fault)
      → (answers answer → AnswerFree answer) → IsFreeAct act → WhereKept b answers act answer → AnswerFree answer
  kept_free true answers act answer so free is = so is
  kept_free false answers act answer so free is = subst AnswerFree (sym is) free

  otherwise_free : (o : Option Part) → AnswerFree (otherwise mark o)
  otherwise_free None = tt
  otherwise_free (Some part) = tt

  ended_free : (o : Option Open) → AnswerFree (ended mark o)
  ended_free None = tt
  ended_free (Some one) = tt

  directed_free : (around : Option Open) (text : List ℕ) (directive : Directive) (answer : Result Act Fault) → Directs live tool around mark text directive answer → AnswerFree answer
  directed_free around text directives.Elif answer so = turned_free text (open_part around) answer so
  directed_free around text directives.Else answer is = subst AnswerFree (sym is) (otherwise_free (open_part around))
  directed_free around text directives.Endif answer is = subst AnswerFree (sym is) (ended_free around)
  directed_free around text directives.Empty answer is = subst AnswerFree (sym is) tt
  directed_free around text directives.If answer so = kept_free (is_kept around) _ _ answer (obeyed_free text directives.If answer) (passed_free directives.If) so
  directed_free around text directives.Include answer so = kept_free (is_kept around) _ _ answer (obeyed_free text directives.Include answer) (passed_free directives.Include) so
  directed_free around text directives.Define answer so = kept_free (is_kept around) _ _ answer (obeyed_free text directives.Define answer) (passed_free directives.Define) so
  directed_free around text directives.Undefine answer so = kept_free (is_kept around) _ _ answer (obeyed_free text directives.Undefine answer) (passed_free directives.Undefine) so
  directed_free around text directives.Ifdef answer so = kept_free (is_kept around) _ _ answer (obeyed_free text directives.Ifdef answer) (passed_free directives.Ifdef) so
  directed_free around text directives.Ifndef answer so = kept_free (is_kept around) _ _ answer (obeyed_free text directives.Ifndef answer) (passed_free directives.Ifndef) so
  directed_free around text directives.Other answer so = kept_free (is_kept around) _ _ answer (obeyed_free text directives.Other answer) (passed_free directives.Other) so

  acts_free : (around : Option Open) (bytes : List ℕ) (text : Option (List ℕ)) (answer : Result Act Fault) → Acts live tool around mark bytes text answer → AnswerFree answer
  acts_free around bytes None answer so = kept_free (is_kept around) _ _ answer (put_free bytes answer) tt so
  acts_free around bytes (Some text) answer so = directed_free around text (directive_in (unblanked text)) answer so

does_free : (live : Live) (tool : Tool) (around : Option Open) (line : RawLine) (act : Act) → Does live tool around line (Ok act) → IsFreeAct act
does_free live tool around line act does = acts_free line.mark live tool around line.bytes (behind_hash (unblanked line.bytes)) (Ok act) does

-- What is live.

abbrev AreFreeNames : Live → Type 0
AreFreeNames live = (name : List ℕ) → (live name ≡ None) ⊎ IsFreeName name

put_names : (word : List ℕ) (body : Option (List Shape)) (live : Live) → IsFree word → AreFreeNames live → AreFreeNames (put (str_to_ascii_lowercase word) body live)
put_names word body live free names name = by (bytes_eq name (str_to_ascii_lowercase word)) refl
  where
    by : (test : Bool) → bytes_eq name (str_to_ascii_lowercase word) ≡ test → ((if test then body else live name) ≡ None) ⊎ IsFreeName name
    by true is = inr (word, sym ((bytes_eq-Decides name (str_to_ascii_lowercase word)).0 is), free)
    by false is = names name

defs_names : (defs : List Def) (live : Live) → AreFree defs → AreFreeNames live → AreFreeNames (live_after defs live)
defs_names [] live free names = names
defs_names (def ∷ defs) live free names =
    defs_names defs (put (str_to_ascii_lowercase def.name.bytes) (option_map shapes_of def.text) live) free.1
    (put_names def.name.bytes (option_map shapes_of def.text) live free.0 names)

entries_names : (tool : Tool) (entries : List Entry) (s : State) → EachActs tool entries s → AreFreeNames s.live → AreFreeNames (behind_all entries s).live
entries_names tool [] s each names = names
entries_names tool (Opened name ∷ entries) s each names = entries_names tool entries (with_file name s) each names
entries_names tool (Line level around line (acts.Set word body) ∷ entries) s each names =
    entries_names tool entries (record s { live = put (str_to_ascii_lowercase word.bytes) (option_map shapes_of body) s.live }) each.1
    (put_names word.bytes (option_map shapes_of body) s.live (does_free s.live tool around line (acts.Set word body) each.0) names)
entries_names tool (Line level around line (acts.Put tokens) ∷ entries) s each names = entries_names tool entries _ each.1 names
entries_names tool (Line level around line acts.Nothing ∷ entries) s each names = entries_names tool entries s each.1 names
entries_names tool (Line level around line (acts.Include name) ∷ entries) s each names = entries_names tool entries s each.1 names
entries_names tool (Line level around line (acts.Begin first) ∷ entries) s each names = entries_names tool entries s each.1 names
entries_names tool (Line level around line (acts.Turn next is_last) ∷ entries) s each names = entries_names tool entries s each.1 names
entries_names tool (Line level around line acts.End ∷ entries) s each names = entries_names tool entries s each.1 names

abbrev LiveFree : Result State Failure → Type 0
LiveFree (Ok one) = AreFreeNames one.live
LiveFree (Err failure) = Unit {0}

outcome_names : (tool : Tool) (entries : List Entry) (fault : Option Fault) (s : State) (state : State) → EachActs tool entries s → AreFreeNames s.live
    → Ok state ≡ outcome entries fault s → AreFreeNames state.live
outcome_names tool entries None s state each names is =
    subst (λ (r : Result State Failure). LiveFree r) (sym is) (entries_names tool entries s each names)
outcome_names tool entries (Some fault) s state each names is = absurd cc

pub program_free : (files : Files) (tool : Tool) (names paths : List (List ℕ)) (defs : List Def) (state : State) → AreFree defs
    → ProgramGoes files tool names paths defs (Ok state) → (name : List ℕ) → (state.live name ≡ None) ⊎ IsFreeName name
program_free files tool names paths defs state free goes =
    let u = all_names tool files paths names (start defs) (Ok state) goes in
    outcome_names tool u.entries u.fault (start defs) state u.each (defs_names defs nothing_live free (λ name. inl refl)) u.is
