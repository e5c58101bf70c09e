-- A program has one answer.
use Rattle.std.proofs.Common.{◌≡◌, ℕ, zero, suc, Bool, true, false, List, [], ◌∷◌, Option, Some, None, Ok, Err, sym, ap, subst, ◌∙◌}
use Rattle.std.specs.declared.result.Result.{Result}
use Rattle.rz_core.proofs.Once.{Once, ok, err, same_ok, same_err, ok_or_err, once_by, once_is, once_then}
use Rattle.rz_core.specs.declared.fault.Fault.{Fault}
use Rattle.rz_core.specs.declared.fault.Mark.{Mark}
use Rattle.rz_folder.specs.Folder.{Files}
use Rattle.rz_lex.specs.Cutting.{Cuts, Refuses}
use Rattle.rz_lex.specs.Joined.{joined}
use Rattle.rz_lex.specs.Lines.{HasLines}
use Rattle.rz_lex.specs.declared.joined.Placed.{Placed}
use Rattle.rz_lex.specs.declared.raw_line.RawLine.{RawLine}
use Rattle.rz_lex.specs.declared.token.Token.{Token}
use Rattle.rz_pre.specs.Line.{Acts, Does, Directs, HasCondition, IsComputed, IsCut, IsReplaced, Obeys, PutsOut, Says, Turns, WhereKept, behind_first, is_kept, open_part}
use Rattle.rz_pre_source.specs.Directive.{behind_hash, directive_in, unblanked}
use Rattle.rz_pre.specs.Live.{Live}
use Rattle.rz_folder.specs.Names.{file_of, missing_file, names_of, utf8_name}
use Rattle.rz_pre.specs.Program.{bad_text, innermost, Enters, Follows, HasText, IncludedGoes, Includes, LineGoes, LinesGo, NamedGoes, NamesGo, Opens, OpensAs, State, TextGoes, WithFiles, levels_below}
use Rattle.rz_pre_source.specs.Source.{IsBadAt, IsTextOf}
use Rattle.rz_pre.specs.declared.act.Act.{Act}
use Rattle.rz_pre.specs.declared.act.Act.TheVariants as acts
use Rattle.rz_pre.specs.declared.condition.Tool.{Tool}
use Rattle.rz_pre.specs.declared.conditional.Open.{Open}
use Rattle.rz_pre.specs.declared.conditional.Part.{Part}
use Rattle.rz_pre.specs.declared.conditional.Part.TheVariants.{Chosen, Past, Waiting}
use Rattle.rz_pre_source.specs.declared.directive.Directive.{Directive}
use Rattle.rz_pre_source.specs.declared.directive.Directive.TheVariants as directives
use Rattle.rz_pre.proofs.OneCondition.{condition_or_fault, one_condition, one_condition_fault, OneTerm}
use Rattle.rz_pre.proofs.Replaced.{line_or_fault, one_fault, one_line}

once_with_files : {X : Type 0} (files : List (List ℕ)) (answers : Result X Fault → Type 0) → Once answers → Once (WithFiles files answers)
once_with_files files answers once (Ok x) (Ok y) a b = ap ok (same_ok {F = Fault} x y (once (Ok x) (Ok y) a b))
once_with_files files answers once (Ok x) (Err g) a b = absurd (ok_or_err x g.fault (once (Ok x) (Err g.fault) a b.0))
once_with_files files answers once (Err f) (Ok y) a b = absurd (ok_or_err y f.fault (once (Ok y) (Err f.fault) b a.0))
once_with_files {X} files answers once (Err f) (Err g) a b =
    let fault = same_err {X = X} f.fault g.fault (once (Err f.fault) (Err g.fault) a.0 b.0) in
    let same : f.files ≡ g.files = a.1 ∙ sym b.1 in
    ap err (λ i. record { fault = fault i; files = same i })

-- The laws of the crates below.

abbrev pub OneLines : Type 0
OneLines = (file : ℕ) (text : List Placed) (lines others : List RawLine) (ending other : Option Fault)
    → HasLines file text lines ending → HasLines file text others other → (lines ≡ others) × (ending ≡ other)

pub record OneCut : Type 0 where
  pub tokens : (mark : Mark) (line : List ℕ) (tokens others : List Token) → Cuts mark line tokens → Cuts mark line others → tokens ≡ others
  pub fault : (mark : Mark) (line : List ℕ) (fault other : Fault) → Refuses mark line fault → Refuses mark line other → fault ≡ other
  pub not_both : (mark : Mark) (line : List ℕ) (tokens : List Token) (fault : Fault) → Cuts mark line tokens → Refuses mark line fault → ⊥

pub record OneText : Type 0 where
  pub text : (source text other : List ℕ) → IsTextOf source text → IsTextOf source other → text ≡ other
  pub fault : (source : List ℕ) (offset other : ℕ) → IsBadAt source offset → IsBadAt source other → offset ≡ other
  pub not_both : (source text : List ℕ) (offset : ℕ) → IsTextOf source text → IsBadAt source offset → ⊥

module _ (cut : OneCut) (term : OneTerm) (tool : Tool) where
  once_cut : (mark : Mark) (bytes : List ℕ) → Once (IsCut mark bytes)
  once_cut mark bytes = once_by (IsCut mark bytes) (cut.tokens mark bytes) (cut.fault mark bytes) (cut.not_both mark bytes)

  module _ (live : Live) where
    once_replaced : (tokens : List Token) → Once (IsReplaced live tokens)
    once_replaced tokens = once_by (IsReplaced live tokens) (one_line live tokens) (one_fault live tokens) (line_or_fault live tokens)

    once_computed : (mark : Mark) (tokens : List Token) → Once (IsComputed live tool mark tokens)
    once_computed mark tokens = once_by (IsComputed live tool mark tokens) (one_condition live tool tokens term) (one_condition_fault live tool tokens mark) (condition_or_fault live tool tokens mark)

    once_put : (mark : Mark) (bytes : List ℕ) → Once (PutsOut live mark bytes)
    once_put mark bytes = once_then (IsCut mark bytes) _ (once_cut mark bytes) (λ tokens. once_then (IsReplaced live tokens) _ (once_replaced tokens) (λ out. once_is (Ok (acts.Put out))))

    once_said : (mark : Mark) (text : List ℕ) (directive : Directive) → Once (Says live mark text directive)
    once_said mark text directive = once_then (IsCut mark text) _ (once_cut mark text) (λ tokens. once_is _)

    once_asked : (mark : Mark) (text : List ℕ) → Once (HasCondition live tool mark text)
    once_asked mark text = once_then (IsCut mark text) _ (once_cut mark text) (λ tokens. once_computed mark (behind_first tokens))

    once_kept : (b : Bool) (answers : Result Act Fault → Type 0) (act : Act) → Once answers → Once (WhereKept b answers act)
    once_kept true answers act once = once
    once_kept false answers act once = once_is (Ok act)

    once_turned : (mark : Mark) (text : List ℕ) (part : Option Part) → Once (Turns live tool mark text part)
    once_turned mark text None = once_is _
    once_turned mark text (Some Waiting) = once_then (HasCondition live tool mark text) _ (once_asked mark text) (λ value. once_is _)
    once_turned mark text (Some Chosen) = once_is _
    once_turned mark text (Some Past) = once_is _

    once_obeyed : (mark : Mark) (text : List ℕ) (directive : Directive) → Once (Obeys live tool mark text directive)
    once_obeyed mark text directives.If = once_then (HasCondition live tool mark text) _ (once_asked mark text) (λ value. once_is _)
    once_obeyed mark text directives.Include = once_said mark text directives.Include
    once_obeyed mark text directives.Define = once_said mark text directives.Define
    once_obeyed mark text directives.Undefine = once_said mark text directives.Undefine
    once_obeyed mark text directives.Elif = once_said mark text directives.Elif
    once_obeyed mark text directives.Ifdef = once_said mark text directives.Ifdef
    once_obeyed mark text directives.Ifndef = once_said mark text directives.Ifndef
    once_obeyed mark text directives.Else = once_said mark text directives.Else
    once_obeyed mark text directives.Endif = once_said mark text directives.Endif
    once_obeyed mark text directives.Empty = once_said mark text directives.Empty
    once_obeyed mark text directives.Other = once_said mark text directives.Other

    once_directed : (around : Option Open) (mark : Mark) (text : List ℕ) (directive : Directive) → Once (Directs live tool around mark text directive)
    once_directed around mark text directives.If = once_kept (is_kept around) _ _ (once_obeyed mark text directives.If)
    once_directed around mark text directives.Include = once_kept (is_kept around) _ _ (once_obeyed mark text directives.Include)
    once_directed around mark text directives.Define = once_kept (is_kept around) _ _ (once_obeyed mark text directives.Define)
    once_directed around mark text directives.Undefine = once_kept (is_kept around) _ _ (once_obeyed mark text directives.Undefine)
    once_directed around mark text directives.Elif = once_turned mark text (open_part around)
    once_directed around mark text directives.Ifdef = once_kept (is_kept around) _ _ (once_obeyed mark text directives.Ifdef)
    once_directed around mark text directives.Ifndef = once_kept (is_kept around) _ _ (once_obeyed mark text directives.Ifndef)
    once_directed around mark text directives.Else = once_is _
    once_directed around mark text directives.Endif = once_is _
    once_directed around mark text directives.Empty = once_is _
    once_directed around mark text directives.Other = once_kept (is_kept around) _ _ (once_obeyed mark text directives.Other)

    once_acts : (around : Option Open) (mark : Mark) (bytes : List ℕ) (text : Option (List ℕ)) → Once (Acts live tool around mark bytes text)
    once_acts around mark bytes None = once_kept (is_kept around) _ _ (once_put mark bytes)
    once_acts around mark bytes (Some text) = once_directed around mark text (directive_in (unblanked text))

    pub once_does : (around : Option Open) (line : RawLine) → Once (Does live tool around line)
    once_does around line = once_acts around line.mark line.bytes (behind_hash (unblanked line.bytes))

  module _ (one_lines : OneLines) (turned : OneText) where
    module _ (Reads : Includes) (once_read : (name : List ℕ) (mark : Mark) (s : State) → Once (Reads name mark s)) where
      once_follows : (mark : Mark) (act : Act) (opens : List Open) (s : State) → Once (Follows Reads mark act opens s)
      once_follows mark acts.Nothing opens s = once_is _
      once_follows mark (acts.Put tokens) opens s = once_is _
      once_follows mark (acts.Include name) opens s = once_then (Reads name mark s) _ (once_read name mark s) (λ after. once_is _)
      once_follows mark (acts.Set word body) opens s = once_is _
      once_follows mark (acts.Begin first) opens s = once_is _
      once_follows mark (acts.Turn next is_last) opens s = once_is _
      once_follows mark acts.End opens s = once_is _

      once_line : (line : RawLine) (opens : List Open) (s : State) → Once (LineGoes Reads tool line opens s)
      once_line line opens s = once_then (WithFiles s.files (Does s.live tool (innermost opens) line)) _
          (once_with_files s.files (Does s.live tool (innermost opens) line) (once_does s.live (innermost opens) line)) (λ act. once_follows line.mark act opens s)

      once_lines : (lines : List RawLine) (ending : Option Fault) (opens : List Open) (s : State) → Once (LinesGo Reads tool lines ending opens s)
      once_lines [] None opens s = once_is _
      once_lines [] (Some fault) opens s = once_is _
      once_lines (line ∷ lines) ending opens s = once_then (LineGoes Reads tool line opens s) _ (once_line line opens s) (λ next. once_lines lines ending next.0 next.1)

      once_text : (file : ℕ) (text : List ℕ) (s : State) → Once (TextGoes Reads tool file text s)
      once_text file text s one other a b =
          let same = one_lines file (joined 1 text) a.0 b.0 a.1 b.1 a.2 b.2 in
          once_lines b.0 b.1 [] s one other
          (subst (λ (ending : Option Fault). LinesGo Reads tool b.0 ending [] s one) same.1 (subst (λ (lines : List RawLine). LinesGo Reads tool lines a.1 [] s one) same.0 a.3)) b.3

    once_turned_text : (file : ℕ) (source : List ℕ) → Once (HasText file source)
    once_turned_text file source = once_by (HasText file source) (turned.text source)
        (λ f g a b. a.2 ∙ ap (bad_text file) (turned.fault source a.0 b.0 a.1 b.1) ∙ sym b.2)
        (λ given fault a b. turned.not_both source given b.0 a b.1)

    once_opens_as : (missing : Fault) (s : State) (found : Option (List ℕ × List ℕ)) → Once (OpensAs missing s found)
    once_opens_as missing s None = once_is _
    once_opens_as missing s (Some found) = once_then _ _ (once_with_files _ _ (once_turned_text _ found.1)) (λ text. once_is _)

    module _ (files : Files) (paths : List (List ℕ)) where
      once_opens : (names : List (List ℕ)) (missing : Fault) (s : State) → Once (Opens files names missing s)
      once_opens names missing s = once_opens_as missing s (file_of files names)

      once_included : (levels : ℕ) (name : List ℕ) (mark : Mark) (s : State) → Once (IncludedGoes tool files paths levels name mark s)
      once_included zero name mark s = once_is _
      once_included (suc levels) name mark s = once_then (Enters files paths (suc levels) name mark s) _
          (once_opens (names_of paths (utf8_name name)) (missing_file (Some mark) name) s)
          (λ opened. once_text (IncludedGoes tool files paths levels) (once_included levels) _ opened.0 opened.1)

      once_named : (name : List ℕ) (s : State) → Once (NamedGoes tool files paths name s)
      once_named name s = once_then (Opens files (name ∷ []) (missing_file None name) s) _ (once_opens (name ∷ []) (missing_file None name) s)
          (λ opened. once_text (IncludedGoes tool files paths levels_below) (once_included levels_below) _ opened.0 opened.1)

      pub once_names : (names : List (List ℕ)) (s : State) → Once (NamesGo tool files paths names s)
      once_names [] s = once_is _
      once_names (name ∷ names) s = once_then (NamedGoes tool files paths name s) _ (once_named name s) (λ after. once_names names after)
