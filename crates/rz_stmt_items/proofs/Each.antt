-- Items, one more at a time.
use Rattle.std.proofs.Common.{◌≡◌, ℕ, ◌+◌, ◌≤◌, false, List, [], ◌∷◌, ◌++◌, length, length-append, refl, sym, ap, subst, ◌∙◌, append_assoc, arith}
use Rattle.std.proofs.lemmas.List.{append-nil}
use Rattle.std.specs.Prelude.{◌==◌}
use Rattle.rz_stmt_brackets.proofs.OneCut.{never_parted, one_cut, one_parting}
use Rattle.rz_stmt_brackets.proofs.Short.{AreShort}
use Rattle.rz_stmt_brackets.specs.Pieces.{has_divider, last, more, AreCut, IsParted, Parted}
use Rattle.rz_stmt_brackets.specs.declared.pieces.Divider.{Divider}
use Rattle.rz_stmt_brackets.specs.declared.pieces.Divider.TheVariants.{Separator}
use Rattle.rz_lex.specs.declared.token.Token.{Token}
use Rattle.rz_stmt_items.specs.Item.{PlainItem}
use Rattle.rz_stmt_items.specs.Items.{cut, no_more, one_more, stripped, AreEach, AreItems, IsItem}

-- the first piece and the others
pub each_split : (piece : List Token) (pieces : List (List Token)) (items : List PlainItem) → AreEach (piece ∷ pieces) items
    → (one : PlainItem) × (others : List PlainItem) × IsItem piece one × AreEach pieces others
each_split piece pieces items (one_more same rest one others is each) = (one, others, is, each)

-- a piece in front of others stays
stripped_more : {divider : Divider} {tokens : List Token} (piece : List Token) {pieces : List (List Token)} → AreCut divider tokens pieces
    → stripped (piece ∷ pieces) ≡ piece ∷ stripped pieces
stripped_more [] (last rest none) = refl
stripped_more (token ∷ piece) (last rest none) = refl
stripped_more [] (more whole parted pieces is are) = refl
stripped_more (token ∷ piece) (more whole parted pieces is are) = refl

-- The tokens before a separator are an item, and those after it items.
module _ (tokens : List Token) (parted : Parted) (is : IsParted Separator tokens parted) where
  pub parted_short : length parted.front + length parted.behind + 1 ≤ length tokens
  parted_short = omega (arith, ap (λ (ts : List Token). length ts) is.are, length-append parted.front (is.sign ∷ parted.behind))

  items_more : (one : PlainItem) (others : List PlainItem) → IsItem parted.front one → AreItems parted.behind others → AreItems tokens (one ∷ others)
  items_more one others item (cut same pieces them are each) =
      cut tokens (parted.front ∷ pieces) (one ∷ others) (more tokens parted pieces is are)
      (subst (λ (ps : List (List Token)). AreEach ps (one ∷ others)) (sym (stripped_more parted.front are)) (one_more parted.front (stripped pieces) one others item each))

  items_split : (items : List PlainItem) → AreItems tokens items → (one : PlainItem) × (others : List PlainItem) × IsItem parted.front one × AreItems parted.behind others
  items_split items (cut same pieces them are each) = by pieces are each
    where
      by : (pieces : List (List Token)) → AreCut Separator tokens pieces → AreEach (stripped pieces) items
          → (one : PlainItem) × (others : List PlainItem) × IsItem parted.front one × AreItems parted.behind others
      by pieces (last piece none) each = absurd (never_parted Separator tokens parted none is)
      by pieces (more whole other rest also behind) each =
          let split = each_split other.front (stripped rest) items (subst (λ (ps : List (List Token)). AreEach ps items) (stripped_more other.front behind) each) in
          subst (λ (p : Parted). (one : PlainItem) × (others : List PlainItem) × IsItem p.front one × AreItems p.behind others) (one_parting Separator tokens other parted also is)
          (split.0, split.1, split.2, cut other.behind rest split.1 behind split.3)

-- Tokens without a separator are an item, where there are some.
module _ (tokens : List Token) (none : has_divider Separator 0 tokens ≡ false) (some : (length tokens == 0) ≡ false) where
  alone : stripped (tokens ∷ []) ≡ tokens ∷ []
  alone = by tokens some
    where
      by : (tokens : List Token) → (length tokens == 0) ≡ false → stripped (tokens ∷ []) ≡ tokens ∷ []
      by [] some = cc
      by (token ∷ tokens) some = refl

  items_last : (one : PlainItem) → IsItem tokens one → AreItems tokens (one ∷ [])
  items_last one is =
      cut tokens (tokens ∷ []) (one ∷ []) (last tokens none) (subst (λ (ps : List (List Token)). AreEach ps (one ∷ [])) (sym alone) (one_more tokens [] one [] is no_more))

  items_only : (items : List PlainItem) → AreItems tokens items → (one : PlainItem) × IsItem tokens one
  items_only items (cut same pieces them are each) =
      let split = each_split tokens [] items
      (subst (λ (ps : List (List Token)). AreEach ps items) (ap stripped (one_cut Separator tokens pieces (tokens ∷ []) are (last tokens none)) ∙ alone) each) in
      (split.0, split.2)

-- whatever items the rest is, all are those so far and they; and where all are items, so is the rest
pub record Leads (all rest : List Token) (so_far : List PlainItem) : Type 0 where
  pub forth : (more : List PlainItem) → AreItems rest more → AreItems all (so_far ++ more)
  pub back : (items : List PlainItem) → AreItems all items → (more : List PlainItem) × AreItems rest more

pub leads_first : (all : List Token) → Leads all all []
leads_first all = record { forth = λ more are. are; back = λ items are. (items, are) }

module _ (all rest : List Token) (so_far : List PlainItem) (leads : Leads all rest so_far) where
  -- before a separator
  module _ (parted : Parted) (is : IsParted Separator rest parted) where
    pub leads_more : (one : PlainItem) (after : List PlainItem) → IsItem parted.front one → after ≡ so_far ++ one ∷ [] → Leads all parted.behind after
    leads_more one after item pushed = subst (Leads all parted.behind) (sym pushed) (record {
      forth = λ others are. subst (AreItems all) (sym (append_assoc so_far (one ∷ []) others)) (leads.forth (one ∷ others) (items_more rest parted is one others item are));
      back = λ items are. let found = leads.back items are in let split = items_split rest parted is found.0 found.1 in (split.1, split.3);
    })

    pub leads_nowhere : ((one : PlainItem) → IsItem parted.front one → ⊥) → (items : List PlainItem) → AreItems all items → ⊥
    leads_nowhere never items are = let found = leads.back items are in let split = items_split rest parted is found.0 found.1 in never split.0 split.2

  -- at the end
  pub leads_all : rest ≡ [] → AreItems all so_far
  leads_all end = subst (AreItems all) (append-nil so_far) (leads.forth [] (subst (λ (ts : List Token). AreItems ts []) (sym end) (cut [] ([] ∷ []) [] (last [] refl) no_more)))

  module _ (none : has_divider Separator 0 rest ≡ false) (some : (length rest == 0) ≡ false) where
    pub leads_last : (one : PlainItem) (after : List PlainItem) → IsItem rest one → after ≡ so_far ++ one ∷ [] → AreItems all after
    leads_last one after item pushed = subst (AreItems all) (sym pushed) (leads.forth (one ∷ []) (items_last rest none some one item))

    pub leads_never : ((one : PlainItem) → IsItem rest one → ⊥) → (items : List PlainItem) → AreItems all items → ⊥
    leads_never never items are = let found = leads.back items are in let only = items_only rest none some found.0 found.1 in never only.0 only.1

-- Stripped pieces are no longer.

pub stripped_short : (size : ℕ) (pieces : List (List Token)) → AreShort size pieces → AreShort size (stripped pieces)
stripped_short size [] are = tt
stripped_short size ([] ∷ []) are = tt
stripped_short size ((token ∷ tokens) ∷ []) are = are
stripped_short size ([] ∷ next ∷ pieces) are = (are.0, stripped_short size (next ∷ pieces) are.1)
stripped_short size ((token ∷ tokens) ∷ next ∷ pieces) are = (are.0, stripped_short size (next ∷ pieces) are.1)
