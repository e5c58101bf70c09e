use Rattle.std.proofs.Common.{◌≡◌, List, ℕ, length, map, [], ◌∷◌, ◌++◌, drop, sym, ap, subst, ◌∙◌, arith, length-append}
use Rattle.std.specs.Prelude.{codes, refl}
use Rattle.std.specs.String.{string_bytes}
use Rattle.std.proofs.lemmas.Bool.{both_ways}
use Rattle.std.proofs.lemmas.List.{drop-map, length-map, map-append}
use Rattle.rz_tools_args.specs.Command.{places_of, Item}
use Rattle.rz_tools_args.specs.Definition.{nowhere}
use Rattle.rz_tools_args.specs.Held.{item, size_of, syntax, BeginsWith, IsStuck, MayBegin, MayFollow}
use Rattle.rz_tools_args.specs.Syntax.{syntax_of, Syntax}
use Rattle.rz_tools_args.proofs.Found.{fault_of, on_stop}
use Rattle.rz_tools_args.proofs.Positions.{fails_at, few_read, may_item, no_longer, one_read, stuck_at, Reading}
use Rattle.rz_tools_args.proofs.Words.{few_alone, more, places_more}
use Rattle.rz_tools_args.proofs.read.read_items.Goals as goal

pub returns-then-not-may_follow-clause-misplaced : goal.returns-then-not-may_follow-clause-misplaced
returns-then-not-may_follow-clause-misplaced c =
    let back = c.cut_back.ensures.word nowhere (codes "a") [] refl (omega arith) refl in
    let words = map string_bytes c.args.words.now in
    let rest = map string_bytes c.loop-first.rest.now in
    let items = map item c.loop-first.items in
    let are : map string_bytes c.loop-first.rest.now ≡ c.as_str.result.now ∷ map string_bytes c.in-Some.behind.now =
    ap (λ ws. map string_bytes ws) c.in-Some.ensures.cases.0 ∙ ap (λ (v : List ℕ). v ∷ map string_bytes c.in-Some.behind.now) (sym c.as_str.ensures.value) in
    let begins : BeginsWith (syntax_of c.args.name) rest (item c.in-Ok.item) =
    subst (λ (s : Syntax). BeginsWith s rest (item c.in-Ok.item)) c.syntax_of-takes.ensures
    (subst (λ (ws : List (List ℕ)). BeginsWith (syntax c.syntax_of-takes.result) ws (item c.in-Ok.item)) (sym are) c.in-Ok.ensures.item) in
    let fails : MayFollow (syntax_of c.args.name).places (length (places_of items)) (item c.in-Ok.item) → ⊥ =
    λ follows. both_ways c.may_follow.result c.if-not-may_follow.true
    (c.may_follow.ensures.1
    (subst (λ n. MayFollow c.syntax_of-takes.result.places n (item c.in-Ok.item)) (sym c.loop-first.invariant.count)
    (subst (λ (s : Syntax). MayFollow s.places (length (places_of items)) (item c.in-Ok.item)) (sym c.syntax_of-takes.ensures) follows))) in
    fails_at c.one_text.ensures.text c.one_cut.ensures.tokens back c.args.name words rest items c.loop-first.invariant.reading c.loop-first.invariant.may
    (item c.in-Ok.item) _ begins fails
    (omega (
      arith,
      length-map c.args.words.now string_bytes,
      length-map c.loop-first.rest.now string_bytes,
      no_longer (syntax_of c.args.name) words rest items c.loop-first.invariant.reading,
    ))

pub overflow_add-places : goal.overflow_add-places
overflow_add-places c =
    let words = map string_bytes c.args.words.now in
    let rest = map string_bytes c.loop-first.rest.now in
    let items = map item c.loop-first.items in
    let are : map string_bytes c.loop-first.rest.now ≡ c.as_str.result.now ∷ map string_bytes c.in-Some.behind.now =
    ap (λ ws. map string_bytes ws) c.in-Some.ensures.cases.0 ∙ ap (λ (v : List ℕ). v ∷ map string_bytes c.in-Some.behind.now) (sym c.as_str.ensures.value) in
    let few = few_read c.args.name words rest items c.loop-first.invariant.reading in
    omega (
      arith,
      c.loop-first.invariant.count,
      few,
      length-map c.args.words.now string_bytes,
      few_alone (item c.in-Ok.item),
      c.places-places.ensures,
      ap (λ (ws : List (List ℕ)). length ws) are,
    )

pub loop-first-preserved : goal.loop-first-preserved
loop-first-preserved c =
    let words = map string_bytes c.args.words.now in
    let rest = map string_bytes c.loop-first.rest.now in
    let items = map item c.loop-first.items in
    let are : map string_bytes c.loop-first.rest.now ≡ c.as_str.result.now ∷ map string_bytes c.in-Some.behind.now =
    ap (λ ws. map string_bytes ws) c.in-Some.ensures.cases.0 ∙ ap (λ (v : List ℕ). v ∷ map string_bytes c.in-Some.behind.now) (sym c.as_str.ensures.value) in
    let begins : BeginsWith (syntax_of c.args.name) rest (item c.in-Ok.item) =
    subst (λ (s : Syntax). BeginsWith s rest (item c.in-Ok.item)) c.syntax_of-takes.ensures
    (subst (λ (ws : List (List ℕ)). BeginsWith (syntax c.syntax_of-takes.result) ws (item c.in-Ok.item)) (sym are) c.in-Ok.ensures.item) in
    let follows : MayFollow (syntax_of c.args.name).places (length (places_of items)) (item c.in-Ok.item) =
    subst (λ (s : Syntax). MayFollow s.places (length (places_of items)) (item c.in-Ok.item)) c.syntax_of-takes.ensures
    (subst (λ n. MayFollow c.syntax_of-takes.result.places n (item c.in-Ok.item)) c.loop-first.invariant.count (c.may_follow.ensures.0 c.if-not-may_follow.false)) in
    let pushed : map item c.push.new.self ≡ items ++ item c.in-Ok.item ∷ [] =
    ap (map item) c.in_ok-push-in-Ok.ensures.ok ∙ map-append item c.loop-first.items (c.in-Ok.item ∷ []) in
    let left : drop (size_of (item c.in-Ok.item)) rest ≡ map string_bytes c.split_at.result.1.now =
    drop-map string_bytes (size_of (item c.in-Ok.item)) c.loop-first.rest.now
    ∙ ap (λ n. map string_bytes (drop n c.loop-first.rest.now)) (sym c.size-size.ensures) ∙ ap (λ ws. map string_bytes ws) (sym c.split_at.ensures.back) in
    record {
      reading = subst (λ (ws : List (List ℕ)). Reading (syntax_of c.args.name) words ws (map item c.push.new.self)) left
          (subst (λ (its : List Item). Reading (syntax_of c.args.name) words (drop (size_of (item c.in-Ok.item)) rest) its) (sym pushed)
          (one_read c.args.name words rest items (item c.in-Ok.item) c.loop-first.invariant.reading begins));
      may = subst (λ (its : List Item). MayBegin (syntax_of c.args.name).places (places_of its)) (sym pushed)
          (may_item (syntax_of c.args.name) items (item c.in-Ok.item) c.loop-first.invariant.may follows);
      count = omega (
        arith,
        c.loop-first.invariant.count,
        c.places-places.ensures,
        ap (λ (its : List Item). length (places_of its)) pushed,
        ap (λ (ws : List (List ℕ)). length ws) (places_more items (item c.in-Ok.item ∷ [])),
        length-append (places_of items) (places_of (item c.in-Ok.item ∷ [])),
      );
    }

pub returns-in-Err-Refused-clause-misplaced : goal.returns-in-Err-Refused-clause-misplaced
returns-in-Err-Refused-clause-misplaced c =
    let back = c.cut_back.ensures.word nowhere (codes "a") [] refl (omega arith) refl in
    let words = map string_bytes c.args.words.now in
    let rest = map string_bytes c.loop-first.rest.now in
    let items = map item c.loop-first.items in
    let are : map string_bytes c.loop-first.rest.now ≡ c.as_str.result.now ∷ map string_bytes c.in-Some.behind.now =
    ap (λ ws. map string_bytes ws) c.in-Some.ensures.cases.0 ∙ ap (λ (v : List ℕ). v ∷ map string_bytes c.in-Some.behind.now) (sym c.as_str.ensures.value) in
    let fitting = c.in-Err-Refused.misfit.fitting in
    let stuck = fault_of (λ misfit. IsStuck (syntax c.syntax_of-takes.result) (c.as_str.result.now ∷ map string_bytes c.in-Some.behind.now) misfit.fitting) c.in-Err-Refused.field-0 c.in-Err-Refused.misfit
    (on_stop c.read_item.result _ c.in-Err-Refused.field-0 c.read_item.ensures.stuck c.in-Err-Refused.is) c.in-Err-Refused.field-0-is in
    stuck_at c.one_text.ensures.text c.one_cut.ensures.tokens back c.args.name words rest items c.loop-first.invariant.reading c.loop-first.invariant.may
    fitting (λ none. more c.as_str.result.now (map string_bytes c.in-Some.behind.now) (sym are ∙ none))
    (subst (λ (s : Syntax). IsStuck s rest fitting) c.syntax_of-takes.ensures (subst (λ (ws : List (List ℕ)). IsStuck (syntax c.syntax_of-takes.result) ws fitting) (sym are) stuck)) _
    (omega (
      arith,
      ap (λ m. m.fitting) c.in-Err-Refused.misfit-is,
      length-map c.args.words.now string_bytes,
      length-map c.loop-first.rest.now string_bytes,
      no_longer (syntax_of c.args.name) words rest items c.loop-first.invariant.reading,
    ))

pub overflow_sub-read : goal.overflow_sub-read
overflow_sub-read c = omega (
  arith,
  length-map c.args.words.now string_bytes,
  length-map c.loop-first.rest.now string_bytes,
  no_longer (syntax_of c.args.name) (map string_bytes c.args.words.now) (map string_bytes c.loop-first.rest.now) (map item c.loop-first.items) c.loop-first.invariant.reading,
)
