use Rattle.std.proofs.Common.{List, [], ◌∷◌, Some, length, sym, ap, subst, ◌∙◌, arith}
use Rattle.std.proofs.lemmas.Bool.{eqb-false, eqb-true}
use Rattle.std.proofs.lemmas.List.{map-append, nil_from_length}
use Rattle.std.specs.Prelude.{option_map}
use Rattle.rz_stmt_brackets.specs.Held.{held_split}
use Rattle.rz_stmt_brackets.specs.Pieces.{Parted}
use Rattle.rz_stmt_brackets.specs.declared.bracket.Bracket.TheVariants.{Curly}
use Rattle.rz_core.specs.Decided.{Decided}
use Rattle.rz_core.specs.declared.resource.Word.{Word}
use Rattle.rz_lex.specs.declared.token.Token.{Token}
use Rattle.rz_stmt_items.specs.Item.{plain_item, plain_items}
use Rattle.rz_stmt_items.specs.Items.{IsItem}
use Rattle.rz_stmt_items.specs.Simple.{IsSimple}
use Rattle.rz_stmt_brackets.proofs.OneBracket.{never_within, same_within}
use Rattle.rz_stmt_data.proofs.Answering.{ok_so}
use Rattle.rz_stmt_items.proofs.Each.{leads_all, leads_first, leads_last, leads_more, leads_never, leads_nowhere, parted_short, Leads}
use Rattle.rz_stmt_items.proofs.First.{listed_here, named_here, simple_here}
use Rattle.rz_stmt_items.proofs.items.+items.Goals as goal

pub read_braced-returns-in_default : goal.read_braced-returns-in_default
read_braced-returns-in_default t c items is = never_within Curly c.args.tokens.now c.in_default.ensures.every is.0 is.1

pub read_braced-returns-else-is_empty : goal.read_braced-returns-else-is_empty
read_braced-returns-else-is_empty t c items is =
    let same = same_within Curly c.args.tokens.now (held_split c.in-Some.split) c.in-Some.ensures.every is.0 is.1 in
    eqb-false (length c.in-Some.split.behind.now) 0 (sym c.if-is_empty.ensures)
    (ap (λ (p : Parted). length p.behind) same ∙ ap (λ (ts : List Token). length ts) is.2)

pub read_item-returns-then-begins : goal.read_item-returns-then-begins
read_item-returns-then-begins t c =
    listed_here c.args.tokens.now c.in-Some.behind.now c.in-Some.first.now c.in-Some.ensures.cases.0 (option_map plain_item c.listed.result) (sym c.if-begins.ensures)
    (option_map plain_items c.in_ok-read_braced.field-0) c.in_ok-read_braced.ensures c.listed.ensures

pub read_item-returns-in_ok-read_braced-in-Some-name_before : goal.read_item-returns-in_ok-read_braced-in-Some-name_before
read_item-returns-in_ok-read_braced-in-Some-name_before t c =
    named_here c.args.tokens.now c.in-Some.behind.now c.in-Some.first.now c.in-Some.ensures.cases.0 (option_map plain_item c.named.result)
    c.in_ok-name-in-Some-name_before.name.bytes (sym c.if-begins.ensures)
    (sym c.in-Some-name_before.ensures ∙ ap (λ (w : Word). Some w.bytes) (sym c.in_ok-name-in-Some-name_before.ensures))
    (option_map plain_items c.in_ok-read_braced-in-Some-name_before.field-0) c.in_ok-read_braced-in-Some-name_before.ensures c.named.ensures

pub read_item-returns-in-None : goal.read_item-returns-in-None
read_item-returns-in-None t c =
    ok_so (λ item. Decided (IsSimple c.in-Some.first.now.mark c.args.tokens.now) (option_map plain_item item)) (λ item. Decided (IsItem c.args.tokens.now) (option_map plain_item item))
    (λ item. simple_here c.args.tokens.now c.in-Some.behind.now c.in-Some.first.now c.in-Some.ensures.cases.0 (option_map plain_item item) (sym c.if-begins.ensures)
    (sym c.in-None.ensures))
    c.read_simple.result c.read_simple.ensures

pub read_items-loop-split-init : goal.read_items-loop-split-init
read_items-loop-split-init t c = record {
  leads = subst (Leads c.args.tokens.now c.args.tokens.now) (sym (ap plain_items c.in_ok-items.ensures)) (leads_first c.args.tokens.now);
  short = omega arith;
}

pub read_items-read_item-requires : goal.read_items-read_item-requires
read_items-read_item-requires t c =
    let short = parted_short c.loop-split.rest.now (held_split c.in-Some.split) c.in-Some.ensures.found in
    (omega (arith, c.decreases, short, c.loop-split.invariant.short), tt)

pub read_items-loop-split-preserved : goal.read_items-loop-split-preserved
read_items-loop-split-preserved t c =
    let loop = c.loop-split in
    let short = parted_short loop.rest.now (held_split c.in-Some.split) c.in-Some.ensures.found in record {
      leads = leads_more c.args.tokens.now loop.rest.now (plain_items loop.items) loop.invariant.leads (held_split c.in-Some.split) c.in-Some.ensures.found
          (plain_item c.in-Some-2.item) (plain_items c.push.new.self) (rw c.in-Some-2.is at c.in_ok-item.ensures)
          (ap plain_items c.in_ok-push.ensures.ok ∙ map-append plain_item loop.items (c.in-Some-2.item ∷ []));
      short = omega (arith, short, loop.invariant.short);
    }

pub read_items-returns-in_default-2 : goal.read_items-returns-in_default-2
read_items-returns-in_default-2 t c =
    leads_nowhere c.args.tokens.now c.loop-split.rest.now (plain_items c.loop-split.items) c.loop-split.invariant.leads (held_split c.in-Some.split) c.in-Some.ensures.found
    (rw c.in_default-2.is at c.in_ok-item.ensures)

pub read_items-returns-then-is_empty : goal.read_items-returns-then-is_empty
read_items-returns-then-is_empty t c =
    leads_all c.args.tokens.now c.loop-split.rest.now (plain_items c.loop-split.items) c.loop-split.invariant.leads
    (nil_from_length c.loop-split.rest.now (eqb-true (length c.loop-split.rest.now) 0 (sym c.if-is_empty.ensures)))

pub read_items-returns-in_default-3 : goal.read_items-returns-in_default-3
read_items-returns-in_default-3 t c =
    leads_never c.args.tokens.now c.loop-split.rest.now (plain_items c.loop-split.items) c.loop-split.invariant.leads c.in_default.ensures.none (sym c.if-is_empty.ensures)
    (rw c.in_default-3.is at c.in_ok-item-2.ensures)

pub read_items-returns : goal.read_items-returns
read_items-returns t c =
    leads_last c.args.tokens.now c.loop-split.rest.now (plain_items c.loop-split.items) c.loop-split.invariant.leads c.in_default.ensures.none (sym c.if-is_empty.ensures)
    (plain_item c.in-Some-3.item) (plain_items c.push-2.new.self) (rw c.in-Some-3.is at c.in_ok-item-2.ensures)
    (ap plain_items c.in_ok-push-2.ensures.ok ∙ map-append plain_item c.loop-split.items (c.in-Some-3.item ∷ []))
