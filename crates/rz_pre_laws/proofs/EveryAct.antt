-- Each line does something.
use Rattle.std.proofs.Common.{◌⊎◌, inl, inr, ℕ, Bool, true, false, List, Option, Some, None, Ok, Err}
use Rattle.std.specs.declared.result.Result.{Result}
use Rattle.rz_core.proofs.Has.{has_is, has_then, Has}
use Rattle.rz_core.specs.Decided.{Decided}
use Rattle.rz_core.specs.declared.fault.Fault.{Fault}
use Rattle.rz_core.specs.declared.fault.Mark.{Mark}
use Rattle.rz_lex.specs.Cutting.{Cuts, Refuses}
use Rattle.rz_lex.specs.declared.raw_line.RawLine.{RawLine}
use Rattle.rz_lex.specs.declared.token.Token.{Token}
use Rattle.rz_expr.specs.Grammar.{IsExpression}
use Rattle.rz_expr.specs.Term.{Term}
use Rattle.rz_pre_source.specs.Directive.{behind_hash, directive_in, unblanked}
use Rattle.rz_pre_source.specs.declared.directive.Directive.{Directive}
use Rattle.rz_pre_source.specs.declared.directive.Directive.TheVariants as directives
use Rattle.rz_pre.specs.Line.{Acts, Does, Directs, HasCondition, IsCut, IsReplaced, Obeys, PutsOut, Says, Turns, WhereKept, behind_first, is_kept, open_part}
use Rattle.rz_pre.specs.Live.{live_in, Row}
use Rattle.rz_pre.specs.declared.act.Act.{Act}
use Rattle.rz_pre.specs.declared.act.Act.TheVariants as acts
use Rattle.rz_pre.specs.declared.condition.Tool.{Tool}
use Rattle.rz_pre.specs.declared.conditional.Open.{Open}
use Rattle.rz_pre.specs.declared.conditional.Part.{Part}
use Rattle.rz_pre.specs.declared.conditional.Part.TheVariants.{Chosen, Past, Waiting}
use Rattle.rz_pre_laws.proofs.EveryCondition.{every_condition}
use Rattle.rz_pre_laws.proofs.EveryExpansion.{every_line_expands}
use Rattle.rz_pre.proofs.OneCondition.{OneTerm}

-- the law of the tokens of a line
abbrev pub EveryCut : Type 0
EveryCut = (mark : Mark) (line : List ℕ) → ((tokens : List Token) × Cuts mark line tokens) ⊎ ((fault : Fault) × Refuses mark line fault)

has_kept : (b : Bool) (answers : Result Act Fault → Type 0) (act : Act) → Has answers → Has (WhereKept b answers act)
has_kept true answers act has = has
has_kept false answers act has = has_is (Ok act)

module _ (cut : EveryCut) (one : OneTerm) (expression : (tokens : List Token) → (answer : Option Term) × Decided (IsExpression tokens) answer) where
  has_cut : (mark : Mark) (bytes : List ℕ) → Has (IsCut mark bytes)
  has_cut mark bytes = by (cut mark bytes)
    where
      by : ((tokens : List Token) × Cuts mark bytes tokens) ⊎ ((fault : Fault) × Refuses mark bytes fault) → Has (IsCut mark bytes)
      by (inl (tokens, is)) = (Ok tokens, is)
      by (inr (fault, is)) = (Err fault, is)

  module _ (rows : List Row) (tool : Tool) where
    has_put : (mark : Mark) (bytes : List ℕ) → Has (PutsOut (live_in rows) mark bytes)
    has_put mark bytes = has_then (IsCut mark bytes) _ (has_cut mark bytes)
        (λ tokens cuts. has_then (IsReplaced (live_in rows) tokens) _ (every_line_expands rows tokens) (λ out into. has_is (Ok (acts.Put out))))

    has_said : (mark : Mark) (text : List ℕ) (directive : Directive) → Has (Says (live_in rows) mark text directive)
    has_said mark text directive = has_then (IsCut mark text) _ (has_cut mark text) (λ tokens cuts. has_is _)

    has_asked : (mark : Mark) (text : List ℕ) → Has (HasCondition (live_in rows) tool mark text)
    has_asked mark text = has_then (IsCut mark text) _ (has_cut mark text) (λ tokens cuts. every_condition one expression tool rows mark (behind_first tokens))

    has_turned : (mark : Mark) (text : List ℕ) (part : Option Part) → Has (Turns (live_in rows) tool mark text part)
    has_turned mark text None = has_is _
    has_turned mark text (Some Waiting) = has_then (HasCondition (live_in rows) tool mark text) _ (has_asked mark text) (λ value asks. has_is _)
    has_turned mark text (Some Chosen) = has_is _
    has_turned mark text (Some Past) = has_is _

    has_obeyed : (mark : Mark) (text : List ℕ) (directive : Directive) → Has (Obeys (live_in rows) tool mark text directive)
    has_obeyed mark text directives.If = has_then (HasCondition (live_in rows) tool mark text) _ (has_asked mark text) (λ value asks. has_is _)
    has_obeyed mark text directives.Include = has_said mark text directives.Include
    has_obeyed mark text directives.Define = has_said mark text directives.Define
    has_obeyed mark text directives.Undefine = has_said mark text directives.Undefine
    has_obeyed mark text directives.Elif = has_said mark text directives.Elif
    has_obeyed mark text directives.Ifdef = has_said mark text directives.Ifdef
    has_obeyed mark text directives.Ifndef = has_said mark text directives.Ifndef
    has_obeyed mark text directives.Else = has_said mark text directives.Else
    has_obeyed mark text directives.Endif = has_said mark text directives.Endif
    has_obeyed mark text directives.Empty = has_said mark text directives.Empty
    has_obeyed mark text directives.Other = has_said mark text directives.Other

    has_directed : (around : Option Open) (mark : Mark) (text : List ℕ) (directive : Directive) → Has (Directs (live_in rows) tool around mark text directive)
    has_directed around mark text directives.If = has_kept (is_kept around) _ _ (has_obeyed mark text directives.If)
    has_directed around mark text directives.Include = has_kept (is_kept around) _ _ (has_obeyed mark text directives.Include)
    has_directed around mark text directives.Define = has_kept (is_kept around) _ _ (has_obeyed mark text directives.Define)
    has_directed around mark text directives.Undefine = has_kept (is_kept around) _ _ (has_obeyed mark text directives.Undefine)
    has_directed around mark text directives.Elif = has_turned mark text (open_part around)
    has_directed around mark text directives.Ifdef = has_kept (is_kept around) _ _ (has_obeyed mark text directives.Ifdef)
    has_directed around mark text directives.Ifndef = has_kept (is_kept around) _ _ (has_obeyed mark text directives.Ifndef)
    has_directed around mark text directives.Else = has_is _
    has_directed around mark text directives.Endif = has_is _
    has_directed around mark text directives.Empty = has_is _
    has_directed around mark text directives.Other = has_kept (is_kept around) _ _ (has_obeyed mark text directives.Other)

    has_acts : (around : Option Open) (mark : Mark) (bytes : List ℕ) (text : Option (List ℕ)) → Has (Acts (live_in rows) tool around mark bytes text)
    has_acts around mark bytes None = has_kept (is_kept around) _ _ (has_put mark bytes)
    has_acts around mark bytes (Some text) = has_directed around mark text (directive_in (unblanked text))

    pub every_line_acts : (around : Option Open) (line : RawLine) → Has (Does (live_in rows) tool around line)
    every_line_acts around line = has_acts around line.mark line.bytes (behind_hash (unblanked line.bytes))
