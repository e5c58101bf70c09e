-- Of all tokens it is decided which `resource` statement they are.
use Rattle.std.proofs.Common.{List, Option}
use Rattle.std.proofs.Math.Decide.{map_dec}
use Rattle.rz_core.proofs.EveryCut.{answer_of, known_with}
use Rattle.rz_core.specs.Decided.{Decided}
use Rattle.rz_lex.specs.declared.token.Token.{Token}
use Rattle.rz_expr.proofs.OneTerm.{OneExpression}
use Rattle.rz_expr.specs.Grammar.{IsExpression}
use Rattle.rz_expr.specs.Term.{Term}
use Rattle.rz_words.specs.declared.keyword.Keyword.TheVariants.{Resource}
use Rattle.rz_stmt_brackets.specs.Bracket.{IsBracketed}
use Rattle.rz_stmt_brackets.specs.Pieces.{Parted}
use Rattle.rz_stmt_brackets.specs.declared.bracket.Bracket.{Bracket}
use Rattle.rz_types_fields.specs.Text.{PlainPart}
use Rattle.rz_types_fields.specs.declared.place.TextPlace.{TextPlace}
use Rattle.rz_stmt_data.proofs.Frames.{is_frame, one_frame}
use Rattle.rz_stmt_data.specs.Frame.{Frame, IsFrame}
use Rattle.rz_stmt_data.specs.Texts.{IsText}
use Rattle.rz_stmt_items.proofs.EveryItem.{every_items, HasItems}
use Rattle.rz_stmt_items.specs.Compile.{Compile, IsCompile}

module _ (one : OneExpression) (expression : (tokens : List Token) → (answer : Option Term) × Decided (IsExpression tokens) answer)
    (within : (bracket : Bracket) (tokens : List Token) → (answer : Option Parted) × Decided (IsBracketed bracket tokens) answer)
    (text : (place : TextPlace) (tokens : List Token) → (answer : Option (List PlainPart)) × Decided (IsText place tokens) answer) where
  is_compile : (tokens : List Token) → Dec ((compile : Compile) × IsCompile tokens compile)
  is_compile tokens =
      map_dec to from (known_with (IsFrame Resource tokens) (λ frame. HasItems frame.inside) (one_frame one Resource tokens) (is_frame one expression within Resource tokens)
      (λ frame is. every_items one expression within text frame.inside))
    where
      to : (frame : Frame) × IsFrame Resource tokens frame × HasItems frame.inside → (compile : Compile) × IsCompile tokens compile
      to (frame, is, (items, are)) = (record { kind = frame.kind; head = frame.head; items = items }, record { inside = frame.inside; frame = is; items = are })

      from : (compile : Compile) × IsCompile tokens compile → (frame : Frame) × IsFrame Resource tokens frame × HasItems frame.inside
      from (compile, h) = (_, h.frame, (compile.items, h.items))

  pub every_compile : (tokens : List Token) → (answer : Option Compile) × Decided (IsCompile tokens) answer
  every_compile tokens = answer_of (IsCompile tokens) (is_compile tokens)
