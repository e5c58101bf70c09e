-- Tokens are one `resource` statement at most.
use Rattle.std.proofs.Common.{◌≡◌, Bool, true, false, List, ◌∷◌, refl, sym, ap, subst, ◌∙◌}
use Rattle.rz_core.proofs.Tests.{none_some, same_some, true_false}
use Rattle.rz_stmt_brackets.proofs.OneBracket.{one_bracketed}
use Rattle.rz_stmt_brackets.proofs.OneCut.{one_cut}
use Rattle.rz_stmt_brackets.specs.Pieces.{Parted}
use Rattle.rz_stmt_brackets.specs.declared.bracket.Bracket.TheVariants.{Curly}
use Rattle.rz_stmt_brackets.specs.declared.pieces.Divider.TheVariants.{Separator}
use Rattle.rz_stmt_data.proofs.Frames.{one_frame}
use Rattle.rz_stmt_data.proofs.OneText.{one_parts}
use Rattle.rz_stmt_data.specs.Frame.{Frame}
use Rattle.rz_stmt_data.specs.Texts.{begins_text}
use Rattle.rz_expr.proofs.OneTerm.{OneExpression}
use Rattle.rz_words.specs.declared.keyword.Keyword.TheVariants.{Resource}
use Rattle.rz_lex.specs.declared.token.Token.{Token}
use Rattle.rz_types_fields.specs.Text.{PlainPart}
use Rattle.rz_core.specs.declared.fault.Mark.{Mark}
use Rattle.rz_stmt_items.specs.Compile.{Compile, IsCompile}
use Rattle.rz_stmt_items.specs.Item.{items_of, Braced, Named, Number, PlainItem, Text}
use Rattle.rz_stmt_items.specs.Items.{cut, listed, name_in, named, no_more, one_more, simple, stripped, AreEach, AreItems, IsItem}
use Rattle.rz_stmt_items.specs.Simple.{IsSimpleBy}
use Rattle.rz_stmt_items.proofs.First.{bracket_begins, name_stands, no_name_opens}

module _ (one : OneExpression) where
  simple_by : (begins : Bool) (mark : Mark) (tokens : List Token) (a b : PlainItem) → IsSimpleBy begins mark tokens a → IsSimpleBy begins mark tokens b → a ≡ b
  simple_by true mark tokens a b is also =
      is.2 ∙ ap (λ (parts : List PlainPart). Text parts mark) (one_parts one tokens is.0 also.0 is.1.are also.1.are) ∙ sym also.2
  simple_by false mark tokens a b is also = is.2 ∙ ap (λ t. Number t mark) (one tokens is.0 also.0 is.1.0 also.1.0) ∙ sym also.2

  mutual
    one_item : (tokens : List Token) (a b : PlainItem) → IsItem tokens a → IsItem tokens b → a ≡ b
    one_item tokens a b (listed first rest parted items is none are) (listed same others other more also none_too are_too) =
        ap (λ (l : List PlainItem). Braced (items_of l) first.mark)
        (one_items parted.front items more are (subst (λ (p : Parted). AreItems p.front more) (sym (one_bracketed Curly (first ∷ rest) parted other is also)) are_too))
    one_item tokens a b (listed first rest parted items is none are) (named same others name other more has also none_too are_too) =
        absurd (true_false (sym (bracket_begins (first ∷ rest) parted is) ∙ no_name_opens first.shape name has))
    one_item tokens a b (listed first rest parted items is none are) (simple same others it off before so) =
        absurd (true_false (sym (bracket_begins (first ∷ rest) parted is) ∙ off))
    one_item tokens a b (named first rest name parted items has is none are) (listed same others other more also none_too are_too) =
        absurd (true_false (sym (bracket_begins (first ∷ rest) other also) ∙ no_name_opens first.shape name has))
    one_item tokens a b (named first rest name parted items has is none are) (named same others word other more has_too also none_too are_too) =
        let inner = one_items parted.front items more are (subst (λ (p : Parted). AreItems p.front more) (sym (one_bracketed Curly rest parted other is also)) are_too) in
        let names = same_some (name_in first.shape) name word has has_too in
        λ i. Named (names i) (items_of (inner i)) first.mark
    one_item tokens a b (named first rest name parted items has is none are) (simple same others it off before so) =
        absurd (none_some name (sym before ∙ name_stands first.shape rest name has (bracket_begins rest parted is)))
    one_item tokens a b (simple first rest it off before so) (listed same others other more also none_too are_too) =
        absurd (true_false (sym (bracket_begins (first ∷ rest) other also) ∙ off))
    one_item tokens a b (simple first rest it off before so) (named same others name other more has also none_too are_too) =
        absurd (none_some name (sym before ∙ name_stands first.shape rest name has (bracket_begins rest other also)))
    one_item tokens a b (simple first rest it off before so) (simple same others that off_too before_too so_too) =
        simple_by (begins_text (first ∷ rest)) first.mark (first ∷ rest) a b so so_too

    pub one_items : (tokens : List Token) (a b : List PlainItem) → AreItems tokens a → AreItems tokens b → a ≡ b
    one_items tokens a b (cut same pieces items is each) (cut same_too others more also each_too) =
        one_each (stripped pieces) a b each (subst (λ (ps : List (List Token)). AreEach (stripped ps) b) (sym (one_cut Separator tokens pieces others is also)) each_too)

    one_each : (pieces : List (List Token)) (a b : List PlainItem) → AreEach pieces a → AreEach pieces b → a ≡ b
    one_each pieces a b no_more no_more = refl
    one_each pieces a b (one_more piece rest x items is each) (one_more same others y more also each_too) =
        λ i. one_item piece x y is also i ∷ one_each rest items more each each_too i

  pub one_compiled : (tokens : List Token) (a b : Compile) → IsCompile tokens a → IsCompile tokens b → a ≡ b
  one_compiled tokens a b is also =
      let same = one_frame one Resource tokens _ _ is.frame also.frame in
      let items = one_items is.inside a.items b.items is.items (subst (λ (ts : List Token). AreItems ts b.items) (sym (ap (λ (f : Frame). f.inside) same)) also.items) in
      λ i. record { kind = (same i).kind; head = (same i).head; items = items i }
