use Rattle.std.proofs.Common.{◌≡◌, ℕ, List, [], ◌∷◌, map, refl, sym, ap, subst, ◌∙◌, arith}
use Rattle.std.specs.Prelude.{codes}
use Rattle.std.specs.String.{string_bytes}
use Rattle.std.proofs.lemmas.List.{nil_from_length}
use Rattle.rz_tools_args.specs.Command.{place_item, switch_item, value_item, IsValue}
use Rattle.rz_tools_args.specs.Definition.{nowhere}
use Rattle.rz_tools_args.specs.Held.{syntax, value, IsStuck}
use Rattle.rz_tools_args.specs.declared.flag.Sort.{Sort}
use Rattle.rz_tools_args.proofs.Found.{decided_none, decided_some}
use Rattle.rz_tools_args.proofs.Items.{stuck_missing, stuck_unknown, stuck_value}
use Rattle.rz_tools_args.proofs.item.read_item.Goals as goal

pub returns-then-is_place-clause-item : goal.returns-then-is_place-clause-item
returns-then-is_place-clause-item c = (c.args.first.now ∷ [], map string_bytes c.args.behind.now, refl, place_item c.args.first.now refl (sym c.if-is_place.ensures) refl)

pub returns-in-Some-clause-item : goal.returns-in-Some-clause-item
returns-in-Some-clause-item c = (
  c.args.first.now ∷ [],
  map string_bytes c.args.behind.now,
  refl,
  switch_item c.args.first.now c.in-Some.switch refl (sym c.named.ensures ∙ c.in-Some.is) refl,
)

pub returns-in_default-named-clause-stuck : goal.returns-in_default-named-clause-stuck
returns-in_default-named-clause-stuck c =
    stuck_unknown (syntax c.args.takes) c.args.first.now (map string_bytes c.args.behind.now) (sym c.if-is_place.ensures) (sym c.named.ensures ∙ c.in_default.is)
    (sym c.named-2.ensures ∙ c.in_default-named.is)

pub returns-in_default-split_first-clause-stuck : goal.returns-in_default-split_first-clause-stuck
returns-in_default-split_first-clause-stuck c =
    let back = c.cut_back.ensures.word nowhere (codes "a") [] refl (omega arith) refl in
    subst (λ ws. IsStuck (syntax c.args.takes) (c.args.first.now ∷ map string_bytes ws) 1) (sym (nil_from_length c.args.behind.now c.in_default-split_first.ensures.cases))
    (stuck_missing (syntax c.args.takes) back c.args.first.now c.in-Some-named.flag (sym c.if-is_place.ensures) (sym c.named.ensures ∙ c.in_default.is) (sym c.named-2.ensures ∙ c.in-Some-named.is))

pub returns-in-Some-2-clause-item : goal.returns-in-Some-2-clause-item
returns-in-Some-2-clause-item c =
    let are : c.args.first.now ∷ map string_bytes c.args.behind.now ≡ c.args.first.now ∷ c.as_str.result.now ∷ map string_bytes c.in-Some-split_first.field-0-1.now =
    ap (λ ws. c.args.first.now ∷ map string_bytes ws) c.in-Some-split_first.ensures.cases.0
    ∙ ap (λ (v : List ℕ). c.args.first.now ∷ v ∷ map string_bytes c.in-Some-split_first.field-0-1.now) (sym c.as_str.ensures.value) in
    let says = subst (λ (s : Sort). IsValue s c.as_str.result.now (value c.in-Some-2.value)) c.sort.ensures
    (decided_some (IsValue c.sort.result c.as_str.result.now) value c.in_ok-value.field-0 c.in-Some-2.value c.in_ok-value.ensures c.in-Some-2.is) in (
      c.args.first.now ∷ c.as_str.result.now ∷ [],
      map string_bytes c.in-Some-split_first.field-0-1.now,
      are,
      value_item c.args.first.now c.as_str.result.now c.in-Some-named.flag (value c.in-Some-2.value) refl (sym c.named-2.ensures ∙ c.in-Some-named.is) says refl,
    )

pub returns-in-None-clause-stuck : goal.returns-in-None-clause-stuck
returns-in-None-clause-stuck c =
    let back = c.cut_back.ensures.word nowhere (codes "a") [] refl (omega arith) refl in
    let are : c.args.first.now ∷ map string_bytes c.args.behind.now ≡ c.args.first.now ∷ c.as_str.result.now ∷ map string_bytes c.in-Some-split_first.field-0-1.now =
    ap (λ ws. c.args.first.now ∷ map string_bytes ws) c.in-Some-split_first.ensures.cases.0
    ∙ ap (λ (v : List ℕ). c.args.first.now ∷ v ∷ map string_bytes c.in-Some-split_first.field-0-1.now) (sym c.as_str.ensures.value) in
    subst (λ (ws : List (List ℕ)). IsStuck (syntax c.args.takes) ws 1) (sym are)
    (stuck_value (syntax c.args.takes) back c.args.first.now c.in-Some-named.flag (sym c.if-is_place.ensures) (sym c.named.ensures ∙ c.in_default.is) (sym c.named-2.ensures ∙ c.in-Some-named.is)
    c.as_str.result.now (map string_bytes c.in-Some-split_first.field-0-1.now)
    (λ said is. decided_none (IsValue c.sort.result c.as_str.result.now) value c.in_ok-value.field-0 c.in_ok-value.ensures c.in-None.is said
    (subst (λ (s : Sort). IsValue s c.as_str.result.now said) (sym c.sort.ensures) is)))
