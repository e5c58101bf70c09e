-- Where no line and no definition has a certain token, the program has none, and no condition that it asks.
use Rattle.std.proofs.Common.{◌≡◌, ℕ, Bool, true, false, inl, inr, List, [], ◌∷◌, map, Option, Some, None, Ok, Err, refl, sym, subst}
use Rattle.std.specs.Prelude.{if◌then◌else◌, option_map, unwrap_or, IfSome}
use Rattle.std.specs.List.{AllByRecursion}
use Rattle.std.specs.Str.{bytes_eq, str_to_ascii_lowercase}
use Rattle.std.specs.declared.result.Result.{Result}
use Rattle.rz_core.proofs.Tests.{none_some}
use Rattle.rz_core.specs.declared.fault.Fault.{Fault}
use Rattle.rz_core.specs.declared.fault.Mark.{Mark}
use Rattle.rz_core.specs.declared.resource.Word.{Word}
use Rattle.rz_lex.specs.Cutting.{Cuts}
use Rattle.rz_lex.specs.Printed.{token_of}
use Rattle.rz_lex.specs.declared.raw_line.RawLine.{RawLine}
use Rattle.rz_lex.specs.declared.token.Shape.{Shape}
use Rattle.rz_lex.specs.declared.token.Shape.TheVariants as shapes
use Rattle.rz_lex.specs.declared.token.Token.{Token}
use Rattle.rz_pre_source.specs.Directive.{behind_hash, directive_in, has_parameters, unblanked}
use Rattle.rz_pre_source.specs.declared.directive.Directive.{Directive}
use Rattle.rz_pre_source.specs.declared.directive.Directive.TheVariants as directives
use Rattle.rz_pre.specs.Condition.{asked, asked_name, behind_defined, closes, in_brackets, is_defined, nothing, opens, question, stays, word_name, Asked, Tells}
use Rattle.rz_pre.specs.Expand as expand
use Rattle.rz_pre.specs.Expand.{bare, more, replaced, Expansion, Expansions}
use Rattle.rz_pre.specs.Expanded.{ExpandInto}
use Rattle.rz_pre.specs.Line.{Acts, Directs, Does, Obeys, PutsOut, Says, Turns, WhereKept, behind_first, defined, ended, free_word, included, is_kept, open_part, or_bad, otherwise, passed_over, simple, tested, text_in, undefined, word_in}
use Rattle.rz_pre.specs.Live.{body_of, hide, name_of, put, shapes_of, Live}
use Rattle.rz_pre.specs.Program.{live_after, nothing_live, start, state_after, with_file, State}
use Rattle.rz_pre.proofs.Placing.{all_append}
use Rattle.rz_pre.specs.declared.act.Act.{Act}
use Rattle.rz_pre.specs.declared.act.Act.TheVariants as acts
use Rattle.rz_pre.specs.declared.condition.Tool.{Tool}
use Rattle.rz_pre.specs.declared.conditional.Open.{Open}
use Rattle.rz_pre.specs.declared.conditional.Part.{Part}
use Rattle.rz_pre.specs.declared.conditional.Part.TheVariants.{Chosen, Past, Waiting}
use Rattle.rz_pre.specs.declared.program.Def.{Def}
use Rattle.rz_pre_laws.specs.Tools.{is_tool, EachAsksNoTool, EachNamesNoTool, HaveNoToolTexts, LineAsksNoTool, LineNamesNoTool, NameNoTool}
use Rattle.rz_pre_laws.specs.Unfolding.{behind_all, EachActs, Entry, Line, Opened}

-- Shapes and tokens.

abbrev ShapesNoTool : List Shape → Type 0
ShapesNoTool shapes = AllByRecursion (λ shape. is_tool shape ≡ false) shapes

shapes_so : (tokens : List Token) → NameNoTool tokens → ShapesNoTool (shapes_of tokens)
shapes_so [] all = tt
shapes_so (token ∷ tokens) all = (all.0, shapes_so tokens all.1)

tokens_so : (mark : Mark) (shapes : List Shape) → ShapesNoTool shapes → NameNoTool (map (token_of mark) shapes)
tokens_so mark [] all = tt
tokens_so mark (shape ∷ shapes) all = (all.0, tokens_so mark shapes all.1)

behind_so : (tokens : List Token) → NameNoTool tokens → NameNoTool (behind_first tokens)
behind_so [] all = tt
behind_so (token ∷ tokens) all = all.1

-- What stands in place of names.

abbrev Bodies : Live → Type 0
Bodies live = (name : List ℕ) → IfSome (live name) ShapesNoTool

hidden_bodies : (name : List ℕ) (live : Live) → Bodies live → Bodies (hide name live)
hidden_bodies name live bodies other = by (bytes_eq name other)
  where
    by : (b : Bool) → IfSome (if b then None else live other) ShapesNoTool
    by true = tt
    by false = bodies other

put_bodies : (name : List ℕ) (new : Option (List Shape)) (live : Live) → IfSome new ShapesNoTool → Bodies live → Bodies (put name new live)
put_bodies name new live so bodies other = by (bytes_eq other name)
  where
    by : (b : Bool) → IfSome (if b then new else live other) ShapesNoTool
    by true = so
    by false = bodies other

body_so : (live : Live) (s : Shape) (body : List Shape) → Bodies live → body_of live s ≡ Some body → ShapesNoTool body
body_so live (shapes.Word word) body bodies is =
    subst (λ (o : Option (List Shape)). IfSome o ShapesNoTool) is (bodies (str_to_ascii_lowercase word.bytes))
body_so live s body bodies is = absurd (none_some body is)

text_so : (text : Option (List Token)) → IfSome text NameNoTool → IfSome (option_map shapes_of text) ShapesNoTool
text_so None so = tt
text_so (Some text) so = shapes_so text so

defs_bodies : (defs : List Def) (live : Live) → HaveNoToolTexts defs → Bodies live → Bodies (live_after defs live)
defs_bodies [] live so bodies = bodies
defs_bodies (def ∷ defs) live so bodies = defs_bodies defs _ so.1
    (put_bodies (str_to_ascii_lowercase def.name.bytes) (option_map shapes_of def.text) live (text_so def.text so.0) bodies)

-- Expansions.

mutual
  expansion_so : {live : Live} {s : Shape} {out : List Shape} {n : ℕ} → Expansion live s out n → Bodies live → is_tool s ≡ false → ShapesNoTool out
  expansion_so (bare bare_is out one) bodies is = subst ShapesNoTool (sym out) (is, tt)
  expansion_so {live} {s} (replaced body m found x count) bodies is = list_so x (hidden_bodies (name_of s) live bodies) (body_so live s body bodies found)

  list_so : {live : Live} {ss out : List Shape} {n : ℕ} → Expansions live ss out n → Bodies live → ShapesNoTool ss → ShapesNoTool out
  list_so (expand.nothing out none) bodies all = subst ShapesNoTool (sym out) tt
  list_so (more a b i j x y out count) bodies all =
      subst ShapesNoTool (sym out) (all_append (λ (shape : Shape). is_tool shape ≡ false) a b (expansion_so x bodies all.0) (list_so y bodies all.1))

expanded_so : (live : Live) (tokens out : List Token) → ExpandInto live tokens out → Bodies live → NameNoTool tokens → NameNoTool out
expanded_so live [] out x bodies all = subst NameNoTool (sym x) tt
expanded_so live (token ∷ tokens) out x bodies all = subst NameNoTool (sym x.2) (all_append (λ (t : Token). is_tool t.shape ≡ false) x.0 x.1
    (subst NameNoTool (sym x.3.placed) (tokens_so token.mark x.3.shapes (expansion_so x.3.expansion bodies all.0))) (expanded_so live tokens x.1 x.4 bodies all.1))

-- Conditions.

abbrev LeavesSo : Asked → Type 0
LeavesSo None = Unit {0}
LeavesSo (Some found) = NameNoTool found.1

brackets_so : (tokens : List Token) → NameNoTool tokens → LeavesSo (in_brackets tokens)
brackets_so [] all = tt
brackets_so (name ∷ []) all = tt
brackets_so (name ∷ close ∷ rest) all = by (closes close.shape) (word_name name.shape)
  where
    by : (b : Bool) (o : Option (List ℕ)) → LeavesSo (if b then option_map (λ word. (word, rest)) o else None)
    by true (Some word) = all.1.1
    by true None = tt
    by false o = tt

named_so : (o : Option (List ℕ)) (b : Bool) (tokens : List Token) → NameNoTool tokens → LeavesSo (asked_name o b tokens)
named_so (Some word) b tokens all = all
named_so None true tokens all = brackets_so tokens all
named_so None false tokens all = tt

defined_behind : (tokens : List Token) → NameNoTool tokens → LeavesSo (behind_defined tokens)
defined_behind [] all = tt
defined_behind (next ∷ rest) all = named_so (word_name next.shape) (opens next.shape) rest all.1

asked_so : (first : Token) (rest : List Token) → NameNoTool rest → LeavesSo (asked (first ∷ rest))
asked_so first rest all = by (is_defined first.shape) (defined_behind rest all)
  where
    by : (b : Bool) → LeavesSo (behind_defined rest) → LeavesSo (if b then behind_defined rest else None)
    by true so = so
    by false so = tt

told_so : {live : Live} {tokens told : List Token} → Tells live tokens told → NameNoTool tokens → NameNoTool told
told_so (nothing is) all = subst NameNoTool (sym is) tt
told_so (question {first = first} {rest = rest} name behind back asks tells is) all =
    subst NameNoTool (sym is) (refl, told_so tells (subst LeavesSo asks (asked_so first rest all.1)))
told_so (stays back asks tells is) all = subst NameNoTool (sym is) (all.0, told_so tells all.1)

-- What a line does.

-- what it puts out, and what a word stands for from there on
abbrev ActNamesNoTool : Act → Type 0
ActNamesNoTool (acts.Put tokens) = NameNoTool tokens
ActNamesNoTool (acts.Set word body) = IfSome body NameNoTool
ActNamesNoTool act = Unit {0}

module _ (mark : Mark) where
  abbrev OptionOn : Option Act → Type 0
  OptionOn None = Unit {0}
  OptionOn (Some act) = ActNamesNoTool act

  abbrev AnswerOn : Result Act Fault → Type 0
  AnswerOn (Ok act) = ActNamesNoTool act
  AnswerOn (Err fault) = Unit {0}

  included_so : (tokens : List Token) → OptionOn (included tokens)
  included_so [] = tt
  included_so (file ∷ []) = by (text_in file.shape)
    where
      by : (o : Option (List ℕ)) → OptionOn (option_map (λ name. acts.Include name) o)
      by None = tt
      by (Some name) = tt
  included_so (file ∷ next ∷ rest) = tt

  set_so : (o : Option Word) (body : Option (List Token)) → IfSome body NameNoTool → OptionOn (option_map (λ word. acts.Set word body) o)
  set_so None body so = tt
  set_so (Some word) body so = so

  defined_so : (b : Bool) (tokens : List Token) → NameNoTool tokens → OptionOn (defined b tokens)
  defined_so b [] all = tt
  defined_so true (name ∷ text) all = tt
  defined_so false (name ∷ text) all = set_so (free_word name.shape) (Some text) all.1

  undefined_so : (tokens : List Token) → OptionOn (undefined tokens)
  undefined_so [] = tt
  undefined_so (name ∷ []) = set_so (free_word name.shape) None tt
  undefined_so (name ∷ next ∷ rest) = tt

  tested_so : (live : Live) (wanted : Bool) (tokens : List Token) → OptionOn (tested live wanted tokens)
  tested_so live wanted [] = tt
  tested_so live wanted (name ∷ rest) = by (word_in name.shape) _
    where
      by : (o : Option Word) (first : Word → Part) → OptionOn (option_map (λ word. acts.Begin (first word)) o)
      by None first = tt
      by (Some word) first = tt

  simple_so : (live : Live) (text : List ℕ) (directive : Directive) (tokens : List Token) → NameNoTool tokens → OptionOn (simple live text directive tokens)
  simple_so live text directives.Include tokens all = included_so tokens
  simple_so live text directives.Define tokens all = defined_so (has_parameters text) tokens all
  simple_so live text directives.Undefine tokens all = undefined_so tokens
  simple_so live text directives.Ifdef tokens all = tested_so live true tokens
  simple_so live text directives.Ifndef tokens all = tested_so live false tokens
  simple_so live text directives.If tokens all = tt
  simple_so live text directives.Elif tokens all = tt
  simple_so live text directives.Else tokens all = tt
  simple_so live text directives.Endif tokens all = tt
  simple_so live text directives.Empty tokens all = tt
  simple_so live text directives.Other tokens all = tt

  or_bad_so : (tokens : List Token) (o : Option Act) → OptionOn o → AnswerOn (or_bad mark tokens o)
  or_bad_so tokens None on = tt
  or_bad_so tokens (Some act) on = on

  -- the tokens of these bytes
  abbrev CutSo : List ℕ → Type 0
  CutSo bytes = (tokens : List Token) → Cuts mark bytes tokens → NameNoTool tokens

  module _ (live : Live) (bodies : Bodies live) (tool : Tool) where
    put_so : (bytes : List ℕ) → CutSo bytes → (answer : Result Act Fault) → PutsOut live mark bytes answer → AnswerOn answer
    put_so bytes cuts answer (inl (tokens, cut, inl (out, into, is))) = subst AnswerOn (sym is) (expanded_so live tokens out into bodies (cuts tokens cut))
    put_so bytes cuts answer (inl (tokens, cut, inr (fault, bad, is))) = subst AnswerOn (sym is) tt
    put_so bytes cuts answer (inr (fault, bad, is)) = subst AnswerOn (sym is) tt

    said_so : (text : List ℕ) → CutSo text → (directive : Directive) (answer : Result Act Fault) → Says live mark text directive answer → AnswerOn answer
    said_so text cuts directive answer (inl (tokens, cut, is)) = subst AnswerOn (sym is) (or_bad_so tokens _ (simple_so live text directive (behind_first tokens) (behind_so tokens (cuts tokens cut))))
    said_so text cuts directive answer (inr (fault, bad, is)) = subst AnswerOn (sym is) tt

    obeyed_so : (text : List ℕ) → CutSo text → (directive : Directive) (answer : Result Act Fault) → Obeys live tool mark text directive answer → AnswerOn answer
    obeyed_so text cuts directives.If answer (inl (value, has, is)) = subst AnswerOn (sym is) tt
    obeyed_so text cuts directives.If answer (inr (fault, bad, is)) = subst AnswerOn (sym is) tt
    obeyed_so text cuts directives.Include answer so = said_so text cuts directives.Include answer so
    obeyed_so text cuts directives.Define answer so = said_so text cuts directives.Define answer so
    obeyed_so text cuts directives.Undefine answer so = said_so text cuts directives.Undefine answer so
    obeyed_so text cuts directives.Elif answer so = said_so text cuts directives.Elif answer so
    obeyed_so text cuts directives.Ifdef answer so = said_so text cuts directives.Ifdef answer so
    obeyed_so text cuts directives.Ifndef answer so = said_so text cuts directives.Ifndef answer so
    obeyed_so text cuts directives.Else answer so = said_so text cuts directives.Else answer so
    obeyed_so text cuts directives.Endif answer so = said_so text cuts directives.Endif answer so
    obeyed_so text cuts directives.Empty answer so = said_so text cuts directives.Empty answer so
    obeyed_so text cuts directives.Other answer so = said_so text cuts directives.Other answer so

    turned_so : (text : List ℕ) (o : Option Part) (answer : Result Act Fault) → Turns live tool mark text o answer → AnswerOn answer
    turned_so text None answer is = subst AnswerOn (sym is) tt
    turned_so text (Some Waiting) answer (inl (value, has, is)) = subst AnswerOn (sym is) tt
    turned_so text (Some Waiting) answer (inr (fault, bad, is)) = subst AnswerOn (sym is) tt
    turned_so text (Some Chosen) answer is = subst AnswerOn (sym is) tt
    turned_so text (Some Past) answer is = subst AnswerOn (sym is) tt

    passed_so : (directive : Directive) → ActNamesNoTool (passed_over directive)
    passed_so directives.If = tt
    passed_so directives.Include = tt
    passed_so directives.Define = tt
    passed_so directives.Undefine = tt
    passed_so directives.Elif = tt
    passed_so directives.Ifdef = tt
    passed_so directives.Ifndef = tt
    passed_so directives.Else = tt
    passed_so directives.Endif = tt
    passed_so directives.Empty = tt
    passed_so directives.Other = tt

    kept_so : (b : Bool) (answers : Result Act Fault → Type 0) (act : Act) (answer : Result Act Fault)
        → (answers answer → AnswerOn answer) → ActNamesNoTool act → WhereKept b answers act answer → AnswerOn answer
    kept_so true answers act answer so on is = so is
    kept_so false answers act answer so on is = subst AnswerOn (sym is) on

    otherwise_so : (o : Option Part) → AnswerOn (otherwise mark o)
    otherwise_so None = tt
    otherwise_so (Some of) = tt

    ended_so : (o : Option Open) → AnswerOn (ended mark o)
    ended_so None = tt
    ended_so (Some one) = tt

    directed_so : (around : Option Open) (text : List ℕ) → CutSo text → (directive : Directive) (answer : Result Act Fault) → Directs live tool around mark text directive answer → AnswerOn answer
    directed_so around text cuts directives.Elif answer so = turned_so text (open_part around) answer so
    directed_so around text cuts directives.Else answer is = subst AnswerOn (sym is) (otherwise_so (open_part around))
    directed_so around text cuts directives.Endif answer is = subst AnswerOn (sym is) (ended_so around)
    directed_so around text cuts directives.Empty answer is = subst AnswerOn (sym is) tt
    directed_so around text cuts directives.If answer so = kept_so (is_kept around) _ _ answer (obeyed_so text cuts directives.If answer) (passed_so directives.If) so
    directed_so around text cuts directives.Include answer so = kept_so (is_kept around) _ _ answer (obeyed_so text cuts directives.Include answer) (passed_so directives.Include) so
    directed_so around text cuts directives.Define answer so = kept_so (is_kept around) _ _ answer (obeyed_so text cuts directives.Define answer) (passed_so directives.Define) so
    directed_so around text cuts directives.Undefine answer so = kept_so (is_kept around) _ _ answer (obeyed_so text cuts directives.Undefine answer) (passed_so directives.Undefine) so
    directed_so around text cuts directives.Ifdef answer so = kept_so (is_kept around) _ _ answer (obeyed_so text cuts directives.Ifdef answer) (passed_so directives.Ifdef) so
    directed_so around text cuts directives.Ifndef answer so = kept_so (is_kept around) _ _ answer (obeyed_so text cuts directives.Ifndef answer) (passed_so directives.Ifndef) so
    directed_so around text cuts directives.Other answer so = kept_so (is_kept around) _ _ answer (obeyed_so text cuts directives.Other answer) (passed_so directives.Other) so

    acts_so : (around : Option Open) (bytes : List ℕ) (text : Option (List ℕ)) → CutSo (unwrap_or text bytes) → (answer : Result Act Fault) → Acts live tool around mark bytes text answer → AnswerOn answer
    acts_so around bytes None cuts answer so = kept_so (is_kept around) _ _ answer (put_so bytes cuts answer) tt so
    acts_so around bytes (Some text) cuts answer so = directed_so around text cuts (directive_in (unblanked text)) answer so

does_so : (live : Live) (tool : Tool) (around : Option Open) (line : RawLine) (act : Act) → Bodies live → LineNamesNoTool line → Does live tool around line (Ok act) → ActNamesNoTool act
does_so live tool around line act bodies cuts does =
    acts_so line.mark live bodies tool around line.bytes (behind_hash (unblanked line.bytes)) cuts (Ok act) does

after_bodies : (act : Act) (s : State) → ActNamesNoTool act → Bodies s.live → Bodies (state_after act s).live
after_bodies (acts.Put tokens) s so bodies = bodies
after_bodies acts.Nothing s so bodies = bodies
after_bodies (acts.Include name) s so bodies = bodies
after_bodies (acts.Set word body) s so bodies = put_bodies (str_to_ascii_lowercase word.bytes) (option_map shapes_of body) s.live (text_so body so) bodies
after_bodies (acts.Begin first) s so bodies = bodies
after_bodies (acts.Turn next is_last) s so bodies = bodies
after_bodies acts.End s so bodies = bodies

after_tokens : (act : Act) (s : State) → ActNamesNoTool act → NameNoTool s.tokens → NameNoTool (state_after act s).tokens
after_tokens (acts.Put tokens) s so all = all_append (λ (t : Token). is_tool t.shape ≡ false) s.tokens tokens all so
after_tokens acts.Nothing s so all = all
after_tokens (acts.Include name) s so all = all
after_tokens (acts.Set word body) s so all = all
after_tokens (acts.Begin first) s so all = all
after_tokens (acts.Turn next is_last) s so all = all
after_tokens acts.End s so all = all

-- a condition that it asks
line_asks : (live : Live) (around : Option Open) (line : RawLine) → Bodies live → LineNamesNoTool line → LineAsksNoTool live around line
line_asks live around line bodies cuts text tokens is asked cut told out tells into =
    let all = cuts tokens (subst (λ (o : Option (List ℕ)). Cuts line.mark (unwrap_or o line.bytes) tokens) (sym is) cut) in
    expanded_so live told out into bodies (told_so tells (behind_so tokens all))

-- What is read.

pub entries_ask : (tool : Tool) (entries : List Entry) (s : State) → EachActs tool entries s → EachNamesNoTool entries → Bodies s.live → EachAsksNoTool entries s
entries_ask tool [] s each cuts bodies = tt
entries_ask tool (Opened name ∷ entries) s each cuts bodies = entries_ask tool entries (with_file name s) each cuts bodies
entries_ask tool (Line level around line act ∷ entries) s each cuts bodies = (
  line_asks s.live around line bodies cuts.0,
  entries_ask tool entries (state_after act s) each.1 cuts.1 (after_bodies act s (does_so s.live tool around line act bodies cuts.0 each.0) bodies),
)

pub entries_put : (tool : Tool) (entries : List Entry) (s : State) → EachActs tool entries s → EachNamesNoTool entries → Bodies s.live → NameNoTool s.tokens
    → NameNoTool (behind_all entries s).tokens
entries_put tool [] s each cuts bodies all = all
entries_put tool (Opened name ∷ entries) s each cuts bodies all = entries_put tool entries (with_file name s) each cuts bodies all
entries_put tool (Line level around line act ∷ entries) s each cuts bodies all =
    let so = does_so s.live tool around line act bodies cuts.0 each.0 in
    entries_put tool entries (state_after act s) each.1 cuts.1 (after_bodies act s so bodies) (after_tokens act s so all)

pub start_bodies : (defs : List Def) → HaveNoToolTexts defs → Bodies (start defs).live
start_bodies defs so = defs_bodies defs nothing_live so (λ name. tt)
