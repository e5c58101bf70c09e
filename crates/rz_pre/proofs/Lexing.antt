-- Tokens that lines can be cut into stay so: macros are replaced by what was cut, and nothing else is put out.
use Rattle.std.proofs.Common.{◌≡◌, ℕ, Bool, true, false, inl, inr, List, [], ◌∷◌, map, Option, Some, None, Ok, Err, refl, sym, subst}
use Rattle.std.specs.Prelude.{if◌then◌else◌, option_map, IfSome}
use Rattle.std.specs.Str.{bytes_eq, str_to_ascii_lowercase}
use Rattle.std.specs.declared.result.Result.{Result}
use Rattle.rz_core.specs.declared.fault.Fault.{Fault}
use Rattle.rz_core.specs.declared.fault.Mark.{Mark}
use Rattle.rz_core.specs.declared.resource.Word.{Word}
use Rattle.rz_lex.specs.Cutting.{Cuts}
use Rattle.rz_lex.specs.Lexeme.{is_lexed, AreLexed}
use Rattle.rz_lex.specs.Printed.{token_of}
use Rattle.rz_lex.specs.declared.raw_line.RawLine.{RawLine}
use Rattle.rz_lex.specs.declared.token.Shape.{Shape}
use Rattle.rz_lex.specs.declared.token.Shape.TheVariants as shapes
use Rattle.rz_lex.specs.declared.token.Token.{Token}
use Rattle.rz_pre_source.specs.Directive.{behind_hash, directive_in, has_parameters, unblanked}
use Rattle.rz_pre_source.specs.declared.directive.Directive.{Directive}
use Rattle.rz_pre_source.specs.declared.directive.Directive.TheVariants as directives
use Rattle.rz_pre.specs.Expand.{bare, more, nothing, replaced, Expansion, Expansions}
use Rattle.rz_pre.specs.Expanded.{ExpandInto}
use Rattle.rz_pre.specs.Lexed.{AreLexedShapes, HaveLexedTexts, IsLexed}
use Rattle.rz_pre.specs.Line.{Acts, Directs, Does, Obeys, PutsOut, Says, Turns, WhereKept, behind_first, defined, ended, free_word, included, is_kept, open_part, or_bad, otherwise, passed_over, simple, tested, text_in, undefined, word_in}
use Rattle.rz_pre.specs.Live.{body_of, hide, name_of, put, shapes_of, Live}
use Rattle.rz_pre.specs.Program.{live_after, nothing_live, start, state_after, State}
use Rattle.rz_pre.specs.Reading.{Steps}
use Rattle.rz_pre.proofs.Placing.{all_append}
use Rattle.rz_pre.specs.declared.act.Act.{Act}
use Rattle.rz_pre.specs.declared.act.Act.TheVariants as acts
use Rattle.rz_pre.specs.declared.condition.Tool.{Tool}
use Rattle.rz_pre.specs.declared.conditional.Open.{Open}
use Rattle.rz_pre.specs.declared.conditional.Part.{Part}
use Rattle.rz_pre.specs.declared.conditional.Part.TheVariants.{Chosen, Past, Waiting}
use Rattle.rz_pre.specs.declared.program.Def.{Def}

-- Shapes and tokens.

shapes_lexed : (tokens : List Token) → AreLexed tokens → AreLexedShapes (shapes_of tokens)
shapes_lexed [] all = tt
shapes_lexed (token ∷ tokens) all = (all.0, shapes_lexed tokens all.1)

tokens_lexed : (mark : Mark) (shapes : List Shape) → AreLexedShapes shapes → AreLexed (map (token_of mark) shapes)
tokens_lexed mark [] all = tt
tokens_lexed mark (shape ∷ shapes) all = (all.0, tokens_lexed mark shapes all.1)

behind_lexed : (tokens : List Token) → AreLexed tokens → AreLexed (behind_first tokens)
behind_lexed [] all = tt
behind_lexed (token ∷ tokens) all = all.1

-- What stands in place of names.

abbrev Bodies : Live → Type 0
Bodies live = (name : List ℕ) (body : List Shape) → live name ≡ Some body → AreLexedShapes body

no_body : (body : List Shape) → ◌≡◌ {A = Option (List Shape)} None (Some body) → ⊥
no_body body k = cc k

same_body : (o : Option (List Shape)) (body other : List Shape) → o ≡ Some body → o ≡ Some other → body ≡ other
same_body o body other is also = cc

hidden_bodies : (name : List ℕ) (live : Live) → Bodies live → Bodies (hide name live)
hidden_bodies name live bodies other body is = by (bytes_eq name other) is
  where
    by : (b : Bool) → (if b then None else live other) ≡ Some body → AreLexedShapes body
    by true is = absurd (no_body body is)
    by false is = bodies other body is

put_bodies : (name : List ℕ) (new : Option (List Shape)) (live : Live) → IfSome new AreLexedShapes → Bodies live → Bodies (put name new live)
put_bodies name new live lexed bodies other body is = by (bytes_eq other name) new is lexed
  where
    by : (b : Bool) (new : Option (List Shape)) → (if b then new else live other) ≡ Some body → IfSome new AreLexedShapes → AreLexedShapes body
    by true None is lexed = absurd (no_body body is)
    by true (Some own) is lexed = subst AreLexedShapes (same_body (Some own) own body refl is) lexed
    by false new is lexed = bodies other body is

body_lexed : (live : Live) (s : Shape) (body : List Shape) → Bodies live → body_of live s ≡ Some body → AreLexedShapes body
body_lexed live (shapes.Word word) body bodies is = bodies (str_to_ascii_lowercase word.bytes) body is
body_lexed live s body bodies is = absurd (no_body body is)

text_shapes : (text : Option (List Token)) → IfSome text AreLexed → IfSome (option_map shapes_of text) AreLexedShapes
text_shapes None lexed = tt
text_shapes (Some text) lexed = shapes_lexed text lexed

defs_bodies : (defs : List Def) (live : Live) → HaveLexedTexts defs → Bodies live → Bodies (live_after defs live)
defs_bodies [] live lexed bodies = bodies
defs_bodies (def ∷ defs) live lexed bodies = defs_bodies defs _ lexed.1
    (put_bodies (str_to_ascii_lowercase def.name.bytes) (option_map shapes_of def.text) live (text_shapes def.text lexed.0) bodies)

-- Expansions.

mutual
  expansion_lexed : {live : Live} {s : Shape} {out : List Shape} {n : ℕ} → Expansion live s out n → Bodies live → is_lexed s ≡ true → AreLexedShapes out
  expansion_lexed (bare none out one) bodies is = subst AreLexedShapes (sym out) (is, tt)
  expansion_lexed {live} {s} (replaced body m found x count) bodies is = list_lexed x (hidden_bodies (name_of s) live bodies) (body_lexed live s body bodies found)

  list_lexed : {live : Live} {ss out : List Shape} {n : ℕ} → Expansions live ss out n → Bodies live → AreLexedShapes ss → AreLexedShapes out
  list_lexed (nothing out none) bodies all = subst AreLexedShapes (sym out) tt
  list_lexed (more a b i j x y out count) bodies all =
      subst AreLexedShapes (sym out) (all_append (λ (shape : Shape). is_lexed shape ≡ true) a b (expansion_lexed x bodies all.0) (list_lexed y bodies all.1))

expanded_lexed : (live : Live) (tokens out : List Token) → ExpandInto live tokens out → Bodies live → AreLexed tokens → AreLexed out
expanded_lexed live [] out x bodies all = subst AreLexed (sym x) tt
expanded_lexed live (token ∷ tokens) out x bodies all = subst AreLexed (sym x.2) (all_append (λ (t : Token). is_lexed t.shape ≡ true) x.0 x.1
    (subst AreLexed (sym x.3.placed) (tokens_lexed token.mark x.3.shapes (expansion_lexed x.3.expansion bodies all.0))) (expanded_lexed live tokens x.1 x.4 bodies all.1))

-- What a line does.

-- what it puts out, and what a word stands for from there on
abbrev IsLexedAct : Act → Type 0
IsLexedAct (acts.Put tokens) = AreLexed tokens
IsLexedAct (acts.Set word body) = IfSome body AreLexed
IsLexedAct act = Unit {0}

module _ (cut_lexed : (mark : Mark) (line : List ℕ) (tokens : List Token) → Cuts mark line tokens → AreLexed tokens) (mark : Mark) where
  abbrev OptionOn : Option Act → Type 0
  OptionOn None = Unit {0}
  OptionOn (Some act) = IsLexedAct act

  abbrev AnswerOn : Result Act Fault → Type 0
  AnswerOn (Ok act) = IsLexedAct act
  AnswerOn (Err fault) = Unit {0}

  included_so : (tokens : List Token) → OptionOn (included tokens)
  included_so [] = tt
  included_so (file ∷ []) = by (text_in file.shape)
    where
      by : (o : Option (List ℕ)) → OptionOn (option_map (λ name. acts.Include name) o)
      by None = tt
      by (Some name) = tt
  included_so (file ∷ next ∷ rest) = tt

  set_so : (o : Option Word) (body : Option (List Token)) → IfSome body AreLexed → OptionOn (option_map (λ word. acts.Set word body) o)
  set_so None body lexed = tt
  set_so (Some word) body lexed = lexed

  defined_so : (b : Bool) (tokens : List Token) → AreLexed tokens → OptionOn (defined b tokens)
  defined_so b [] all = tt
  defined_so true (name ∷ text) all = tt
  defined_so false (name ∷ text) all = set_so (free_word name.shape) (Some text) all.1

  undefined_so : (tokens : List Token) → OptionOn (undefined tokens)
  undefined_so [] = tt
  undefined_so (name ∷ []) = set_so (free_word name.shape) None tt
  undefined_so (name ∷ next ∷ rest) = tt

  tested_so : (live : Live) (wanted : Bool) (tokens : List Token) → OptionOn (tested live wanted tokens)
  tested_so live wanted [] = tt
  tested_so live wanted (name ∷ rest) = by (word_in name.shape) _
    where
      by : (o : Option Word) (first : Word → Part) → OptionOn (option_map (λ word. acts.Begin (first word)) o)
      by None first = tt
      by (Some word) first = tt

  simple_so : (live : Live) (text : List ℕ) (directive : Directive) (tokens : List Token) → AreLexed tokens → OptionOn (simple live text directive tokens)
  simple_so live text directives.Include tokens all = included_so tokens
  simple_so live text directives.Define tokens all = defined_so (has_parameters text) tokens all
  simple_so live text directives.Undefine tokens all = undefined_so tokens
  simple_so live text directives.Ifdef tokens all = tested_so live true tokens
  simple_so live text directives.Ifndef tokens all = tested_so live false tokens
  simple_so live text directives.If tokens all = tt
  simple_so live text directives.Elif tokens all = tt
  simple_so live text directives.Else tokens all = tt
  simple_so live text directives.Endif tokens all = tt
  simple_so live text directives.Empty tokens all = tt
  simple_so live text directives.Other tokens all = tt

  or_bad_so : (tokens : List Token) (o : Option Act) → OptionOn o → AnswerOn (or_bad mark tokens o)
  or_bad_so tokens None on = tt
  or_bad_so tokens (Some act) on = on

  module _ (live : Live) (bodies : Bodies live) (tool : Tool) where
    put_so : (bytes : List ℕ) (answer : Result Act Fault) → PutsOut live mark bytes answer → AnswerOn answer
    put_so bytes answer (inl (tokens, cut, inl (out, into, is))) = subst AnswerOn (sym is) (expanded_lexed live tokens out into bodies (cut_lexed mark bytes tokens cut))
    put_so bytes answer (inl (tokens, cut, inr (fault, bad, is))) = subst AnswerOn (sym is) tt
    put_so bytes answer (inr (fault, bad, is)) = subst AnswerOn (sym is) tt

    said_so : (text : List ℕ) (directive : Directive) (answer : Result Act Fault) → Says live mark text directive answer → AnswerOn answer
    said_so text directive answer (inl (tokens, cut, is)) = subst AnswerOn (sym is) (or_bad_so tokens _ (simple_so live text directive (behind_first tokens) (behind_lexed tokens (cut_lexed mark text tokens cut))))
    said_so text directive answer (inr (fault, bad, is)) = subst AnswerOn (sym is) tt

    obeyed_so : (text : List ℕ) (directive : Directive) (answer : Result Act Fault) → Obeys live tool mark text directive answer → AnswerOn answer
    obeyed_so text directives.If answer (inl (value, has, is)) = subst AnswerOn (sym is) tt
    obeyed_so text directives.If answer (inr (fault, bad, is)) = subst AnswerOn (sym is) tt
    obeyed_so text directives.Include answer so = said_so text directives.Include answer so
    obeyed_so text directives.Define answer so = said_so text directives.Define answer so
    obeyed_so text directives.Undefine answer so = said_so text directives.Undefine answer so
    obeyed_so text directives.Elif answer so = said_so text directives.Elif answer so
    obeyed_so text directives.Ifdef answer so = said_so text directives.Ifdef answer so
    obeyed_so text directives.Ifndef answer so = said_so text directives.Ifndef answer so
    obeyed_so text directives.Else answer so = said_so text directives.Else answer so
    obeyed_so text directives.Endif answer so = said_so text directives.Endif answer so
    obeyed_so text directives.Empty answer so = said_so text directives.Empty answer so
    obeyed_so text directives.Other answer so = said_so text directives.Other answer so

    turned_so : (text : List ℕ) (o : Option Part) (answer : Result Act Fault) → Turns live tool mark text o answer → AnswerOn answer
    turned_so text None answer is = subst AnswerOn (sym is) tt
    turned_so text (Some Waiting) answer (inl (value, has, is)) = subst AnswerOn (sym is) tt
    turned_so text (Some Waiting) answer (inr (fault, bad, is)) = subst AnswerOn (sym is) tt
    turned_so text (Some Chosen) answer is = subst AnswerOn (sym is) tt
    turned_so text (Some Past) answer is = subst AnswerOn (sym is) tt

    passed_so : (directive : Directive) → IsLexedAct (passed_over directive)
    passed_so directives.If = tt
    passed_so directives.Include = tt
    passed_so directives.Define = tt
    passed_so directives.Undefine = tt
    passed_so directives.Elif = tt
    passed_so directives.Ifdef = tt
    passed_so directives.Ifndef = tt
    passed_so directives.Else = tt
    passed_so directives.Endif = tt
    passed_so directives.Empty = tt
    passed_so directives.Other = tt

    kept_so : (b : Bool) (answers : Result Act Fault → Type 0) (act : Act) (answer : Result Act Fault)
        → (answers answer → AnswerOn answer) → IsLexedAct act → WhereKept b answers act answer → AnswerOn answer
    kept_so true answers act answer so on is = so is
    kept_so false answers act answer so on is = subst AnswerOn (sym is) on

    otherwise_so : (o : Option Part) → AnswerOn (otherwise mark o)
    otherwise_so None = tt
    otherwise_so (Some of) = tt

    ended_so : (o : Option Open) → AnswerOn (ended mark o)
    ended_so None = tt
    ended_so (Some one) = tt

    directed_so : (around : Option Open) (text : List ℕ) (directive : Directive) (answer : Result Act Fault) → Directs live tool around mark text directive answer → AnswerOn answer
    directed_so around text directives.Elif answer so = turned_so text (open_part around) answer so
    directed_so around text directives.Else answer is = subst AnswerOn (sym is) (otherwise_so (open_part around))
    directed_so around text directives.Endif answer is = subst AnswerOn (sym is) (ended_so around)
    directed_so around text directives.Empty answer is = subst AnswerOn (sym is) tt
    directed_so around text directives.If answer so = kept_so (is_kept around) _ _ answer (obeyed_so text directives.If answer) (passed_so directives.If) so
    directed_so around text directives.Include answer so = kept_so (is_kept around) _ _ answer (obeyed_so text directives.Include answer) (passed_so directives.Include) so
    directed_so around text directives.Define answer so = kept_so (is_kept around) _ _ answer (obeyed_so text directives.Define answer) (passed_so directives.Define) so
    directed_so around text directives.Undefine answer so = kept_so (is_kept around) _ _ answer (obeyed_so text directives.Undefine answer) (passed_so directives.Undefine) so
    directed_so around text directives.Ifdef answer so = kept_so (is_kept around) _ _ answer (obeyed_so text directives.Ifdef answer) (passed_so directives.Ifdef) so
    directed_so around text directives.Ifndef answer so = kept_so (is_kept around) _ _ answer (obeyed_so text directives.Ifndef answer) (passed_so directives.Ifndef) so
    directed_so around text directives.Other answer so = kept_so (is_kept around) _ _ answer (obeyed_so text directives.Other answer) (passed_so directives.Other) so

    acts_so : (around : Option Open) (bytes : List ℕ) (text : Option (List ℕ)) (answer : Result Act Fault) → Acts live tool around mark bytes text answer → AnswerOn answer
    acts_so around bytes None answer so = kept_so (is_kept around) _ _ answer (put_so bytes answer) tt so
    acts_so around bytes (Some text) answer so = directed_so around text (directive_in (unblanked text)) answer so

does_lexed : ((mark : Mark) (line : List ℕ) (tokens : List Token) → Cuts mark line tokens → AreLexed tokens)
    → (live : Live) (tool : Tool) (around : Option Open) (line : RawLine) (act : Act) → Bodies live → Does live tool around line (Ok act) → IsLexedAct act
does_lexed cut_lexed live tool around line act bodies does = acts_so cut_lexed line.mark live bodies tool around line.bytes (behind_hash (unblanked line.bytes)) (Ok act) does

after_lexed : (act : Act) (s : State) → IsLexedAct act → IsLexed s.live s.tokens → IsLexed (state_after act s).live (state_after act s).tokens
after_lexed (acts.Put tokens) s lexed all = record {
  tokens_lexed = all_append (λ (t : Token). is_lexed t.shape ≡ true) s.tokens tokens all.tokens_lexed lexed;
  bodies_lexed = all.bodies_lexed;
}
after_lexed acts.Nothing s lexed all = all
after_lexed (acts.Include name) s lexed all = all
after_lexed (acts.Set word body) s lexed all = record {
  tokens_lexed = all.tokens_lexed;
  bodies_lexed = put_bodies (str_to_ascii_lowercase word.bytes) (option_map shapes_of body) s.live (text_shapes body lexed) all.bodies_lexed;
}
after_lexed (acts.Begin first) s lexed all = all
after_lexed (acts.Turn next is_last) s lexed all = all
after_lexed acts.End s lexed all = all

pub steps_lexed : ((mark : Mark) (line : List ℕ) (tokens : List Token) → Cuts mark line tokens → AreLexed tokens)
    → (tool : Tool) (line : RawLine) (opens : List Open) (s : State) (name : Option (List ℕ)) (after : List Open) (t : State)
    → Steps tool line opens s (Ok name) after t → IsLexed s.live s.tokens → IsLexed t.live t.tokens
steps_lexed cut_lexed tool line opens s name after t steps all = subst (λ (u : State). IsLexed u.live u.tokens) (sym steps.4)
    (after_lexed steps.0 s (does_lexed cut_lexed s.live tool _ line steps.0 all.bodies_lexed steps.1) all)

-- Before any file is read.

nothing_bodies : Bodies nothing_live
nothing_bodies name body is = absurd (no_body body is)

pub start_lexed : (defs : List Def) (s : State) → HaveLexedTexts defs → s ≡ start defs → IsLexed s.live s.tokens
start_lexed defs s lexed is = subst (λ (u : State). IsLexed u.live u.tokens) (sym is)
    (record { tokens_lexed = tt; bodies_lexed = defs_bodies defs nothing_live lexed nothing_bodies })
