-- A program in which no condition asks for a tool is the same to both.
use Rattle.std.proofs.Common.{◌≡◌, inl, inr, ℕ, zero, suc, ◌-◌, ℤ, Bool, true, false, List, [], ◌∷◌, ◌++◌, Option, Some, None, Ok, refl, sym, subst, ◌∙◌}
use Rattle.rz_core.proofs.Once.{ok_or_err, same_ok}
use Rattle.rz_core.proofs.Tests.{none_some, or_false}
use Rattle.rz_core.specs.declared.fault.Fault.{Fault}
use Rattle.rz_core.specs.declared.fault.Mark.{Mark}
use Rattle.rz_words.specs.declared.keyword.Keyword.TheVariants as keywords
use Rattle.rz_folder.specs.Folder.{Files}
use Rattle.rz_folder.specs.Names.{file_of, missing_file, names_of, utf8_name}
use Rattle.rz_lex.specs.Cutting.{Cuts}
use Rattle.rz_lex.specs.declared.raw_line.RawLine.{RawLine}
use Rattle.rz_lex.specs.declared.token.Shape.{Shape}
use Rattle.rz_lex.specs.declared.token.Shape.TheVariants as shapes
use Rattle.rz_lex.specs.declared.token.Token.{Token}
use Rattle.rz_pre.specs.Condition.{is_named, numbered, numbered_shape, own_keyword, put_front, Computes}
use Rattle.rz_pre.specs.Line.{behind_first, is_kept, open_part, Acts, Asks, Directs, Does, IsComputed, Turns, WhereKept}
use Rattle.rz_pre.specs.Live.{Live}
use Rattle.rz_pre.specs.Program.{innermost, levels_below, opens_after, start, state_after, with_file, NamesGo, State}
use Rattle.rz_pre.specs.declared.act.Act.{Act}
use Rattle.rz_pre.specs.declared.act.Act.TheVariants as acts
use Rattle.rz_pre.specs.declared.condition.Tool.{Tool}
use Rattle.rz_pre.specs.declared.condition.Tool.TheVariants as tools
use Rattle.rz_pre.specs.declared.conditional.Open.{Open}
use Rattle.rz_pre.specs.declared.conditional.Part.{Part}
use Rattle.rz_pre.specs.declared.conditional.Part.TheVariants.{Chosen, Past, Waiting}
use Rattle.rz_pre.specs.declared.program.Def.{Def}
use Rattle.rz_pre.specs.declared.program.Failure.{Failure}
use Rattle.rz_pre_source.specs.Directive.{behind_hash, directive_in, unblanked}
use Rattle.rz_pre_source.specs.declared.directive.Directive.{Directive}
use Rattle.rz_pre_source.specs.declared.directive.Directive.TheVariants as directives
use Rattle.rz_pre_laws.proofs.Unfolded.{all_names, names_back}
use Rattle.rz_pre_laws.proofs.Unnamed.{entries_ask, entries_put, start_bodies}
use Rattle.rz_pre_laws.specs.Tools.{asks, is_tool, may_choose, AsksNoTool, ConditionNamesNoTool, EachAsksNoTool, LineAsksNoTool, NameNoTool, NamesNoTool}
use Rattle.rz_pre_laws.specs.Unfolding.{behind_all, outcome, BehindLine, EachActs, Entry, FileUnfolds, IncludedUnfolds, Line, LinesUnfold, NamesUnfold, Opened, Stretch}

-- Conditions.

own_unnamed : (tool : Tool) (name : List ℕ) → is_named keywords.Rez name ≡ false → is_named keywords.DeRez name ≡ false → is_named (own_keyword tool) name ≡ false
own_unnamed tools.Rez name one other = one
own_unnamed tools.DeRez name one other = other

module _ (tool other : Tool) where
  same_shape : (shape : Shape) → is_tool shape ≡ false → numbered_shape tool shape ≡ numbered_shape other shape
  same_shape (shapes.Word word) unnamed =
      let parts = or_false (is_named keywords.Rez word.bytes) (is_named keywords.DeRez word.bytes) unnamed in
      rw (own_unnamed tool word.bytes parts.0 parts.1, own_unnamed other word.bytes parts.0 parts.1) refl
  same_shape _ unnamed = refl

  same_numbers : (tokens : List Token) → NameNoTool tokens → numbered tool tokens ≡ numbered other tokens
  same_numbers [] unnamed = refl
  same_numbers (token ∷ tokens) unnamed = λ i. put_front token.mark (same_shape token.shape unnamed.0 i) (same_numbers tokens unnamed.1 i)

  computes_too : (tokens : List Token) (value : ℤ) → NameNoTool tokens → Computes tool tokens value → Computes other tokens value
  computes_too tokens value unnamed c = record { few = c.few; numbers = c.numbers; numbered = sym (same_numbers tokens unnamed) ∙ c.numbered; has = c.has }

  has_too : (live : Live) (mark : Mark) (tokens : List Token) (value : ℤ) → ConditionNamesNoTool live tokens → IsComputed live tool mark tokens (Ok value)
      → IsComputed live other mark tokens (Ok value)
  has_too live mark tokens value unnamed (told, out, tells, into, computes) = (told, out, tells, into, computes_too out value (unnamed told out tells into) computes)

  -- What a line does.

  module _ (live : Live) (mark : Mark) (text : List ℕ) where
    abbrev NoneNamed : Type 0
    NoneNamed = (tokens : List Token) → Cuts mark text tokens → ConditionNamesNoTool live (behind_first tokens)

    asks_too : (of : ℤ → Act) (act : Act) → NoneNamed → Asks live tool mark text of (Ok act) → Asks live other mark text of (Ok act)
    asks_too of act unnamed (inl (value, inl (tokens, cut, has), is)) =
        inl (value, inl (tokens, cut, has_too live mark (behind_first tokens) value (unnamed tokens cut) has), is)
    asks_too of act unnamed (inl (value, inr (fault, bad, same), is)) = absurd (ok_or_err value fault same)
    asks_too of act unnamed (inr (fault, bad, is)) = absurd (ok_or_err act fault is)

    kept_too : (kept : Bool) (passed act : Act) (of : ℤ → Act) → (kept ≡ true → NoneNamed) → WhereKept kept (Asks live tool mark text of) passed (Ok act)
        → WhereKept kept (Asks live other mark text of) passed (Ok act)
    kept_too true passed act of unnamed so = asks_too of act (unnamed refl) so
    kept_too false passed act of unnamed so = so

    turns_too : (part : Option Part) (act : Act) → (may_choose part ≡ true → NoneNamed) → Turns live tool mark text part (Ok act) → Turns live other mark text part (Ok act)
    turns_too None act unnamed so = so
    turns_too (Some Waiting) act unnamed so = asks_too _ act (unnamed refl) so
    turns_too (Some Chosen) act unnamed so = so
    turns_too (Some Past) act unnamed so = so

    directs_too : (around : Option Open) (directive : Directive) (act : Act) → (asks around directive ≡ true → NoneNamed)
        → Directs live tool around mark text directive (Ok act) → Directs live other around mark text directive (Ok act)
    directs_too around directives.If act unnamed so = kept_too (is_kept around) _ act _ unnamed so
    directs_too around directives.Elif act unnamed so = turns_too (open_part around) act unnamed so
    directs_too around directives.Else act unnamed so = so
    directs_too around directives.Endif act unnamed so = so
    directs_too around directives.Empty act unnamed so = so
    directs_too around directives.Include act unnamed so = so
    directs_too around directives.Define act unnamed so = so
    directs_too around directives.Undefine act unnamed so = so
    directs_too around directives.Ifdef act unnamed so = so
    directs_too around directives.Ifndef act unnamed so = so
    directs_too around directives.Other act unnamed so = so

  does_too : (live : Live) (around : Option Open) (line : RawLine) (act : Act) → LineAsksNoTool live around line
      → Does live tool around line (Ok act) → Does live other around line (Ok act)
  does_too live around line act unnamed does = by (behind_hash (unblanked line.bytes)) refl does
    where
      by : (text : Option (List ℕ)) → behind_hash (unblanked line.bytes) ≡ text → Acts live tool around line.mark line.bytes text (Ok act)
          → Acts live other around line.mark line.bytes text (Ok act)
      by None is so = so
      by (Some text) is so = directs_too live line.mark text around (directive_in (unblanked text)) act (λ asked tokens cut. unnamed text tokens is asked cut) so

  -- What is read.

  each_parts : (xs ys : List Entry) (s : State) → EachAsksNoTool (xs ++ ys) s → EachAsksNoTool xs s × EachAsksNoTool ys (behind_all xs s)
  each_parts [] ys s each = (tt, each)
  each_parts (Opened name ∷ xs) ys s each = each_parts xs ys (with_file name s) each
  each_parts (Line level around line act ∷ xs) ys s each = let rest = each_parts xs ys (state_after act s) each.1 in ((each.0, rest.0), rest.1)

  module _ (Inner Others : List ℕ → Mark → State → Stretch)
      (inner_too : (name : List ℕ) (mark : Mark) (s : State) (entries : List Entry) → EachAsksNoTool entries s → Inner name mark s entries None → Others name mark s entries None) where
    behind_too : (mark : Mark) (act : Act) (s : State) (entries : List Entry) → EachAsksNoTool entries s
        → BehindLine Inner mark act s entries None → BehindLine Others mark act s entries None
    behind_too mark (acts.Include name) s entries each reads = inner_too name mark s entries each reads
    behind_too mark acts.Nothing s entries each reads = reads
    behind_too mark (acts.Put tokens) s entries each reads = reads
    behind_too mark (acts.Set word body) s entries each reads = reads
    behind_too mark (acts.Begin first) s entries each reads = reads
    behind_too mark (acts.Turn next is_last) s entries each reads = reads
    behind_too mark acts.End s entries each reads = reads

    lines_too : (level : ℕ) (lines : List RawLine) (ending : Option Fault) (opens : List Open) (s : State) (entries : List Entry) → EachAsksNoTool entries s
        → LinesUnfold Inner tool level lines ending opens s entries None → LinesUnfold Others other level lines ending opens s entries None
    lines_too level [] None opens s entries each unfolds = unfolds
    lines_too level [] (Some open_comment) opens s entries each unfolds = unfolds
    lines_too level (line ∷ lines) ending opens s entries each (inl (own, does, nothing, is)) = absurd (none_some own is)
    lines_too level (line ∷ lines) ending opens s entries each (inr (inl (act, inner, own, does, reads, are, is))) = absurd (none_some own is)
    lines_too level (line ∷ lines) ending opens s entries each (inr (inr (act, inner, more, does, reads, are, further))) =
        let all = subst (λ (es : List Entry). EachAsksNoTool es s) are each in
        let parts = each_parts inner more (state_after act s) all.1 in
        inr (inr (
          act,
          inner,
          more,
          does_too s.live (innermost opens) line act all.0 does,
          behind_too line.mark act (state_after act s) inner parts.0 reads,
          are,
          lines_too level lines ending (opens_after line.mark act opens) (behind_all inner (state_after act s)) more parts.1 further,
        ))

    file_too : (level : ℕ) (missing : Fault) (s : State) (found : Option (List ℕ × List ℕ)) (entries : List Entry) → EachAsksNoTool entries s
        → FileUnfolds Inner tool level missing s found entries None → FileUnfolds Others other level missing s found entries None
    file_too level missing s None entries each unfolds = unfolds
    file_too level missing s (Some found) entries each (rest, are, inl bad) = (rest, are, inl bad)
    file_too level missing s (Some found) entries each (rest, are, inr (text, lines, ending, is, has, unfolds)) =
        (rest, are, inr (text, lines, ending, is, has, lines_too level lines ending [] (with_file found.0 s) rest (subst (λ (es : List Entry). EachAsksNoTool es s) are each) unfolds))

  module _ (files : Files) (paths : List (List ℕ)) where
    included_too : (levels : ℕ) (name : List ℕ) (mark : Mark) (s : State) (entries : List Entry) → EachAsksNoTool entries s
        → IncludedUnfolds tool files paths levels name mark s entries None → IncludedUnfolds other files paths levels name mark s entries None
    included_too zero name mark s entries each unfolds = unfolds
    included_too (suc levels) name mark s entries each unfolds =
        file_too (IncludedUnfolds tool files paths levels) (IncludedUnfolds other files paths levels) (included_too levels) (16 - levels)
        (missing_file (Some mark) name) s (file_of files (names_of paths (utf8_name name))) entries each unfolds

    pub names_too : (names : List (List ℕ)) (s : State) (entries : List Entry) → EachAsksNoTool entries s
        → NamesUnfold tool files paths names s entries None → NamesUnfold other files paths names s entries None
    names_too [] s entries each unfolds = unfolds
    names_too (name ∷ names) s entries each (inl (own, unfolds, is)) = absurd (none_some own is)
    names_too (name ∷ names) s entries each (inr (first, more, unfolds, are, further)) =
        let parts = each_parts first more s (subst (λ (es : List Entry). EachAsksNoTool es s) are each) in
        inr (
          first,
          more,
          file_too (IncludedUnfolds tool files paths levels_below) (IncludedUnfolds other files paths levels_below) (included_too levels_below) 1
              (missing_file None name) s (file_of files (name ∷ [])) first parts.0 unfolds,
          are,
          names_too names (behind_all first s) more parts.1 further,
        )

    -- a program that is read to its end
    pub goes_too : (names : List (List ℕ)) (defs : List Def) (state : State) → AsksNoTool files tool names paths defs
        → NamesGo tool files paths names (start defs) (Ok state) → NamesGo other files paths names (start defs) (Ok state)
    goes_too names defs state unnamed goes =
        let u = all_names tool files paths names (start defs) (Ok state) goes in
        by u.entries u.fault u.unfolds u.each u.is
      where
        by : (entries : List Entry) (fault : Option Fault) → NamesUnfold tool files paths names (start defs) entries fault → EachActs tool entries (start defs)
            → Ok state ≡ outcome entries fault (start defs) → NamesGo other files paths names (start defs) (Ok state)
        by entries None unfolds each is =
            subst (NamesGo other files paths names (start defs)) (sym is)
            (names_back other files paths names (start defs) entries None (names_too names (start defs) entries (unnamed entries unfolds each) unfolds))
        by entries (Some fault) unfolds each is = absurd (ok_or_err state _ is)

-- Where no line and no definition has such a word.

module _ (tool : Tool) (files : Files) (paths names : List (List ℕ)) (defs : List Def) (unnamed : NamesNoTool files tool names paths defs) where
  pub asks_none : AsksNoTool files tool names paths defs
  asks_none entries unfolds each = entries_ask tool entries (start defs) each (unnamed.1 entries unfolds) (start_bodies defs unnamed.0)

  pub puts_none : (state : State) → NamesGo tool files paths names (start defs) (Ok state) → NameNoTool state.tokens
  puts_none state goes =
      let u = all_names tool files paths names (start defs) (Ok state) goes in
      by u.entries u.fault u.unfolds u.each u.is
    where
      by : (entries : List Entry) (fault : Option Fault) → NamesUnfold tool files paths names (start defs) entries fault → EachActs tool entries (start defs)
          → Ok state ≡ outcome entries fault (start defs) → NameNoTool state.tokens
      by entries None unfolds each is =
          subst (λ (s : State). NameNoTool s.tokens) (sym (same_ok {F = Failure} state (behind_all entries (start defs)) is))
          (entries_put tool entries (start defs) each (unnamed.1 entries unfolds) (start_bodies defs unnamed.0) tt)
      by entries (Some fault) unfolds each is = absurd (ok_or_err state _ is)
