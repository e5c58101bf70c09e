-- Pieces, one more at a time.
use Rattle.std.proofs.Common.{◌≡◌, List, [], ◌∷◌, ◌++◌, refl, sym, ap, subst, ◌∙◌}
use Rattle.std.proofs.Math.Decide.{map_dec}
use Rattle.rz_core.proofs.EveryCut.{both}
use Rattle.rz_core.proofs.SoFar.{before, before_more}
use Rattle.rz_lex.specs.declared.token.Token.{Token}
use Rattle.rz_stmt_fields.specs.Each.{AreEach}

module _ {X Y : Type 0} (none : Y) (join : X → Y → Y) (Are : List (List Token) → Y → Type 0) where
  -- whatever the rest is, all are the items so far and that; and where all are something, so is the rest
  pub record Leads (all rest : List (List Token)) (so_far : List X) : Type 0 where
    pub forth : (chain : Y) → Are rest chain → Are all (before join so_far chain)
    pub back : (chain : Y) → Are all chain → (others : Y) × Are rest others

  pub leads_first : (all : List (List Token)) → Leads all all []
  leads_first all = record { forth = λ chain are. are; back = λ chain are. (chain, are) }

  module _ (all rest behind : List (List Token)) (so_far : List X) (leads : Leads all rest so_far)
      (back : (chain : Y) → Are rest chain → (others : Y) × Are behind others) where
    -- one item more
    pub leads_more : (item : X) → ((chain : Y) → Are behind chain → Are rest (join item chain)) → (after : List X) → after ≡ so_far ++ item ∷ [] → Leads all behind after
    leads_more item forth after pushed = subst (Leads all behind) (sym pushed) (record {
      forth = λ chain are. subst (Are all) (before_more join so_far item chain) (leads.forth (join item chain) (forth chain are));
      back = λ chain are. let found = leads.back chain are in back found.0 found.1;
    })

    -- none more
    pub leads_on : ((chain : Y) → Are behind chain → Are rest chain) → Leads all behind so_far
    leads_on forth = record {
      forth = λ chain are. leads.forth chain (forth chain are);
      back = λ chain are. let found = leads.back chain are in back found.0 found.1;
    }

  pub leads_all : (all rest : List (List Token)) (so_far : List X) → Leads all rest so_far → Are rest none → (whole : Y) → before join so_far none ≡ whole → Are all whole
  leads_all all rest so_far leads are whole same = subst (Are all) same (leads.forth none are)

-- Lists of which each piece is an item.

abbrev pub EachLeads : {X : Type 0} → (List Token → X → Type 0) → List (List Token) → List (List Token) → List X → Type 0
EachLeads Is all rest so_far = Leads [] (λ item items. item ∷ items) (AreEach Is) all rest so_far

pub each_first : {X : Type 0} (Is : List Token → X → Type 0) (all : List (List Token)) → EachLeads Is all all []
each_first Is all = leads_first [] (λ item items. item ∷ items) (AreEach Is) all

module _ {X : Type 0} (Is : List Token → X → Type 0) (all rest behind : List (List Token)) (so_far : List X) (piece : List Token)
    (leads : EachLeads Is all rest so_far) (are : rest ≡ piece ∷ behind) where
  pub each_more : (item : X) (after : List X) → Is piece item → after ≡ so_far ++ item ∷ [] → EachLeads Is all behind after
  each_more item after is pushed =
      leads_more [] (λ item items. item ∷ items) (AreEach Is) all rest behind so_far leads
      (λ more are_more. let split = subst (λ (ps : List (List Token)). AreEach Is ps more) are are_more in (split.1, split.3))
      item (λ more are_more. subst (λ (ps : List (List Token)). AreEach Is ps (item ∷ more)) (sym are) (item, more, is, are_more, refl)) after pushed

  pub each_nowhere : ((item : X) → Is piece item → ⊥) → (items : List X) → AreEach Is all items → ⊥
  each_nowhere never items are_all =
      let found = leads.back items are_all in
      let split = subst (λ (ps : List (List Token)). AreEach Is ps found.0) are found.1 in
      never split.0 split.2

whole_list : {X : Type 0} (items : List X) → before {X = X} {Y = List X} (λ item others. item ∷ others) items [] ≡ items
whole_list [] = refl
whole_list (item ∷ items) = ap (λ l. item ∷ l) (whole_list items)

pub each_all : {X : Type 0} (Is : List Token → X → Type 0) (all rest : List (List Token)) (so_far : List X) → EachLeads Is all rest so_far → rest ≡ []
    → AreEach Is all so_far
each_all Is all rest so_far leads none =
    leads_all [] (λ item items. item ∷ items) (AreEach Is) all rest so_far leads (subst (λ (ps : List (List Token)). AreEach Is ps []) (sym none) refl) so_far (whole_list so_far)

-- at most one list
pub one_each : {X : Type 0} (Is : List Token → X → Type 0) → ((piece : List Token) (a b : X) → Is piece a → Is piece b → a ≡ b)
    → (pieces : List (List Token)) (a b : List X) → AreEach Is pieces a → AreEach Is pieces b → a ≡ b
one_each Is one [] a b is also = is ∙ sym also
one_each Is one (piece ∷ pieces) a b is also =
    is.4 ∙ (λ i. one piece is.0 also.0 is.2 also.2 i ∷ one_each Is one pieces is.1 also.1 is.3 also.3 i) ∙ sym also.4

-- and it is decided whether there is one, where it is decided of each piece
pub are_each : {X : Type 0} (Is : List Token → X → Type 0) → ((piece : List Token) → Dec ((item : X) × Is piece item)) → (pieces : List (List Token))
    → Dec ((items : List X) × AreEach Is pieces items)
are_each Is each [] = yes ([], refl)
are_each {X} Is each (piece ∷ pieces) = map_dec to from (both (each piece) (are_each Is each pieces))
  where
    to : ((item : X) × Is piece item) × ((items : List X) × AreEach Is pieces items) → (items : List X) × AreEach Is (piece ∷ pieces) items
    to (first, others) = (first.0 ∷ others.0, (first.0, others.0, first.1, others.1, refl))

    from : (items : List X) × AreEach Is (piece ∷ pieces) items → ((item : X) × Is piece item) × ((items : List X) × AreEach Is pieces items)
    from h = ((h.1.0, h.1.2), (h.1.1, h.1.3))
