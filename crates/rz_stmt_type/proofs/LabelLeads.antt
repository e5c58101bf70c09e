-- Labels at the front, one more at a time.
use Rattle.std.proofs.Common.{◌≡◌, ◌<◌, List, [], ◌∷◌, ◌++◌, length, map, Some, None, sym, ap, subst, ◌∙◌, append_assoc, arith}
use Rattle.std.proofs.lemmas.List.{append-nil, map-append}
use Rattle.rz_core.specs.declared.resource.Word.{Word}
use Rattle.rz_lex.specs.declared.token.Token.{Token}
use Rattle.rz_stmt_fields.specs.Form.{FieldForm, Label}
use Rattle.rz_stmt_type.specs.Label.{label_front, label_more, no_label, AreLabels, LabelFront}
use Rattle.rz_stmt_type.proofs.Labels.{labelled_so}

-- labels stand before the rest, and are pushed
pub record HavePassed (tokens rest : List Token) (before after : List FieldForm) : Type 0 where
  pub names : List Word
  pub pushed : after ≡ before ++ map Label names
  pub onward : (others : List Word) (behind : List Token) → AreLabels rest others behind → AreLabels tokens (names ++ others) behind

pub none_passed : (tokens : List Token) (before : List FieldForm) → HavePassed tokens tokens before before
none_passed tokens before = record { names = []; pushed = sym (append-nil before); onward = λ others behind are. are }

pub one_more_passed : (tokens rest : List Token) (before middle : List FieldForm) → HavePassed tokens rest before middle
    → (front : LabelFront) → label_front rest ≡ Some front → (after : List FieldForm) → after ≡ middle ++ Label front.name ∷ []
    → HavePassed tokens front.behind before after
one_more_passed tokens rest before middle passed front here after pushed = record {
  names = passed.names ++ front.name ∷ [];
  pushed = pushed ∙ ap (λ (fields : List FieldForm). fields ++ Label front.name ∷ []) passed.pushed
      ∙ append_assoc before (map Label passed.names) (Label front.name ∷ [])
      ∙ ap (λ (fields : List FieldForm). before ++ fields) (sym (map-append Label passed.names (front.name ∷ [])));
  onward = λ others behind are.
      subst (λ (names : List Word). AreLabels tokens names behind) (sym (append_assoc passed.names (front.name ∷ []) others))
      (passed.onward (front.name ∷ others) behind (label_more rest front others behind here are));
}

pub all_passed : (tokens rest : List Token) (before after : List FieldForm) → HavePassed tokens rest before after → label_front rest ≡ None
    → (names : List Word) × AreLabels tokens names rest × (after ≡ before ++ map Label names)
all_passed tokens rest before after passed none = (
  passed.names,
  subst (λ (names : List Word). AreLabels tokens names rest) (append-nil passed.names) (passed.onward [] rest (no_label rest none)),
  passed.pushed,
)

pub behind_shorter : (rest : List Token) (front : LabelFront) → label_front rest ≡ Some front → length front.behind < length rest
behind_shorter rest front here =
    let two = ap (λ (ts : List Token). length ts) (labelled_so rest front here).are in
    omega (arith, two)
