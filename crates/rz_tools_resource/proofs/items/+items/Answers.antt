use Rattle.std.proofs.Common.{◌≡◌, List, [], ◌∷◌, ◌++◌, Ok, Err, sym, ap, subst, ◌∙◌, append_assoc, arith}
use Rattle.std.proofs.lemmas.Result.{err_from_is_err_and}
use Rattle.std.proofs.lemmas.List.{map-append, nil_from_length}
use Rattle.rz_folder.proofs.Allowed.{may_read_after}
use Rattle.rz_folder.proofs.Reading.{reads_on}
use Rattle.rz_folder.specs.MayRead.{MayRead}
use Rattle.rz_folder.specs.Names.{LooksFor}
use Rattle.rz_types_fields.specs.Text.{plain_parts}
use Rattle.rz_stmt_items.specs.Item.{plain_item, plain_items}
use Rattle.rz_stmt_items.specs.Places.{AreItemsWithin}
use Rattle.rz_stmt_items.specs.declared.item.Item.{Item}
use Rattle.rz_folder.proofs.Found.{if_some}
use Rattle.rz_folder.proofs.Looking.{may_look_fewer}
use Rattle.rz_pre.proofs.Going.{at_some}
use Rattle.rz_tools_resource.specs.Asked.{ItemAsks, ItemsAsk}
use Rattle.rz_tools_values.specs.Asked.{TextsAsk}
use Rattle.rz_tools_resource.proofs.Asking.{inner_deeper, item_asks, item_within, list_asks, named_asks, named_deeper, text_asks}
use Rattle.rz_tools_resource.specs.Items.{item_given, item_read, items_given, items_read}
use Rattle.rz_core.proofs.Stops.{halt_so}
use Rattle.rz_tools_resource.proofs.Reading.{all_made, list_read, list_within, named_read, named_within, one_fault, one_made, within_more, Leads}
use Rattle.rz_tools_resource.proofs.items.+items.Goals as goal

-- What an item asks for.

pub read_items-read_item-requires : goal.read_items-read_item-requires
read_items-read_item-requires g t c =
    let loop = c.loop-item in
    let items : c.args.items ≡ loop.yielded ++ c.in-Some.item ∷ c.next.new.self.rest.items =
    loop.invariant.rest ∙ ap (λ (l : List Item). loop.yielded ++ l) c.in-Some.ensures.steps.0 in
    let may : MayRead g.F.Folder loop.folder (LooksFor c.args.paths.now (ItemAsks (plain_item c.in-Some.item))) =
    may_look_fewer g.F.Folder c.args.paths.now (ItemsAsk (plain_items c.args.items)) (ItemAsks (plain_item c.in-Some.item))
    (may_read_after g.F.Folder loop.invariant.reads (LooksFor c.args.paths.now (ItemsAsk (plain_items c.args.items))) c.requires)
    (λ own asks. subst (λ (l : List Item). ItemsAsk (plain_items l) own) (sym items) (item_asks loop.yielded c.in-Some.item c.next.new.self.rest.items own asks)) in
    λ κs below. (let within = item_within loop.yielded c.next.new.self.rest.items c.args.items c.in-Some.item items in omega (arith, c.decreases, within), (below, may))

pub read_item-read_texts-requires : goal.read_item-read_texts-requires
read_item-read_texts-requires g t c =
    may_look_fewer g.F.Folder c.args.paths.now (ItemAsks (plain_item c.args.item)) (TextsAsk (plain_parts c.in-Text.texts)) c.requires
    (text_asks c.args.item c.in-Text.texts c.in-Text.place c.in-Text.is)

pub read_item-read_items-requires : goal.read_item-read_items-requires
read_item-read_items-requires g t c =
    let may : MayRead g.F.Folder c.args.folder.now (LooksFor c.args.paths.now (ItemsAsk (plain_items c.in-List.items))) =
    may_look_fewer g.F.Folder c.args.paths.now (ItemAsks (plain_item c.args.item)) (ItemsAsk (plain_items c.in-List.items)) c.requires
    (list_asks c.args.item c.in-List.items c.in-List.place c.in-List.is) in
    λ κs below. (let within = inner_deeper c.args.item c.in-List.items c.in-List.place c.in-List.is in omega (arith, c.decreases, within), (below, may))

pub read_item-read_items-requires-in-Named : goal.read_item-read_items-requires-in-Named
read_item-read_items-requires-in-Named g t c =
    let may : MayRead g.F.Folder c.args.folder.now (LooksFor c.args.paths.now (ItemsAsk (plain_items c.in-Named.items))) =
    may_look_fewer g.F.Folder c.args.paths.now (ItemAsks (plain_item c.args.item)) (ItemsAsk (plain_items c.in-Named.items)) c.requires
    (named_asks c.args.item c.in-Named.name c.in-Named.items c.in-Named.place c.in-Named.is) in
    λ κs below. (let within = named_deeper c.args.item c.in-Named.name c.in-Named.items c.in-Named.place c.in-Named.is in omega (arith, c.decreases, within), (below, may))

pub read_items-loop-item-preserved : goal.read_items-loop-item-preserved
read_items-loop-item-preserved g t c =
    let loop = c.loop-item in
    let rest = c.next.new.self.rest.items in
    let grown = ap plain_items c.in_ok-push.ensures.ok ∙ map-append plain_item loop.made (c.in_ok-item.item ∷ []) in record {
      leads = λ files told.
          one_made c.args.paths.now files c.args.mark c.args.known.now (plain_items c.args.items) (plain_items loop.made) (plain_items rest) (plain_items c.push.new.self)
          (plain_item c.in-Some.item) (plain_item c.in_ok-item.item)
          (subst (λ (l : List Item). Leads c.args.paths.now files c.args.mark c.args.known.now (plain_items c.args.items) (plain_items loop.made) (plain_items l)) c.in-Some.ensures.steps.0
          (loop.invariant.leads files told))
          (at_some (g.F.Folder.files loop.folder) files (loop.invariant.reads.unchanged ∙ told)
          (λ files. Ok (plain_item c.in_ok-item.item) ≡ item_read c.args.paths.now files c.args.mark c.args.known.now (plain_item c.in-Some.item)) c.in_ok-item.ensures.read)
          grown;
      within = λ files within.
          let both = loop.invariant.within files within in
          let left = subst (λ (l : List Item). AreItemsWithin files (plain_items l)) c.in-Some.ensures.steps.0 both.1 in (
            subst (AreItemsWithin files) (sym grown) (within_more files (plain_items loop.made) (plain_item c.in_ok-item.item) both.0 (c.in_ok-item.ensures.within files left.0)),
            left.1,
          );
      reads = reads_on g.F.Folder _ _ _ _ _ ⊥ loop.invariant.reads c.in_ok-item.ensures.reads (λ never. absurd never);
      rest = loop.invariant.rest ∙ ap (λ (l : List Item). loop.yielded ++ l) c.in-Some.ensures.steps.0 ∙ sym (append_assoc loop.yielded (c.in-Some.item ∷ []) rest);
    }

pub read_items-returns-in_err-item-clause-read : goal.read_items-returns-in_err-item-clause-read
read_items-returns-in_err-item-clause-read g t c = if_some (g.F.Folder.files c.args.folder.now) _ (λ files told.
    let p = err_from_is_err_and c.from_residual.result c.from_residual.ensures.1 in
    rw (p.1, p.2) (halt_so c.in_err-item.field-0.0 (λ answer. item_given answer ≡ item_read c.args.paths.now files c.args.mark c.args.known.now (plain_item c.in-Some.item))
    (λ answer. items_given answer ≡ items_read c.args.paths.now files c.args.mark c.args.known.now (plain_items c.args.items))
    (λ fault gives. one_fault c.args.paths.now files c.args.mark c.args.known.now (plain_items c.args.items) (plain_items c.loop-item.made) (plain_items c.next.new.self.rest.items)
    (plain_item c.in-Some.item) fault
    (subst (λ (l : List Item). Leads c.args.paths.now files c.args.mark c.args.known.now (plain_items c.args.items) (plain_items c.loop-item.made) (plain_items l)) c.in-Some.ensures.steps.0
    (c.loop-item.invariant.leads files told)) gives)
    (at_some (g.F.Folder.files c.loop-item.folder) files (c.loop-item.invariant.reads.unchanged ∙ told) _ c.in_err-item.ensures.read)))

pub read_items-returns-clause-read : goal.read_items-returns-clause-read
read_items-returns-clause-read g t c = if_some (g.F.Folder.files c.args.folder.now) _ (λ files told.
    all_made c.args.paths.now files c.args.mark c.args.known.now (plain_items c.args.items) (plain_items c.loop-item.made) (plain_items c.loop-item.item-iterator.rest.items)
    (c.loop-item.invariant.leads files told)
    (ap plain_items (nil_from_length c.loop-item.item-iterator.rest.items (sym c.loop-item.item-iterator.rest.ok.0 ∙ c.in-None.ensures.steps.0))))

pub read_items-returns-clause-within : goal.read_items-returns-clause-within
read_items-returns-clause-within g t c files within = (c.loop-item.invariant.within files within).0

pub read_item-returns-in_ok-items-in-List-clause-read : goal.read_item-returns-in_ok-items-in-List-clause-read
read_item-returns-in_ok-items-in-List-clause-read g t c = if_some (g.F.Folder.files c.args.folder.now) _ (λ files told.
    list_read c.args.paths.now files c.args.mark c.args.known.now c.args.item c.in-List.items c.in-List.place c.in-List.is (Ok c.in_ok-items-in-List.items)
    (at_some (g.F.Folder.files c.args.folder.now) files told
    (λ files. items_given (Ok c.in_ok-items-in-List.items) ≡ items_read c.args.paths.now files c.args.mark c.args.known.now (plain_items c.in-List.items)) c.in_ok-items-in-List.ensures.read))

pub read_item-returns-in_ok-items-in-List-clause-within : goal.read_item-returns-in_ok-items-in-List-clause-within
read_item-returns-in_ok-items-in-List-clause-within g t c files within =
    list_within files c.args.item c.in-List.items c.in_ok-items-in-List.items c.in-List.place c.in-List.is (c.in_ok-items-in-List.ensures.within files) within

pub read_item-returns-in_err-items-in-List-clause-read : goal.read_item-returns-in_err-items-in-List-clause-read
read_item-returns-in_err-items-in-List-clause-read g t c = if_some (g.F.Folder.files c.args.folder.now) _ (λ files told.
    let p = err_from_is_err_and c.from_residual-in_err-items-in-List.result c.from_residual-in_err-items-in-List.ensures.1 in
    rw (p.1, p.2) (halt_so c.in_err-items-in-List.field-0.0 (λ answer. items_given answer ≡ items_read c.args.paths.now files c.args.mark c.args.known.now (plain_items c.in-List.items))
    (λ answer. item_given answer ≡ item_read c.args.paths.now files c.args.mark c.args.known.now (plain_item c.args.item))
    (λ fault gives. list_read c.args.paths.now files c.args.mark c.args.known.now c.args.item c.in-List.items c.in-List.place c.in-List.is (Err fault) gives)
    (at_some (g.F.Folder.files c.args.folder.now) files told _ c.in_err-items-in-List.ensures.read)))

pub read_item-returns-in_ok-items-in-Named-clause-read : goal.read_item-returns-in_ok-items-in-Named-clause-read
read_item-returns-in_ok-items-in-Named-clause-read g t c = if_some (g.F.Folder.files c.args.folder.now) _ (λ files told.
    named_read c.args.paths.now files c.args.mark c.args.known.now c.args.item c.in-Named.name c.in-Named.items c.in-Named.place c.in-Named.is (Ok c.in_ok-items-in-Named.items)
    (at_some (g.F.Folder.files c.args.folder.now) files told
    (λ files. items_given (Ok c.in_ok-items-in-Named.items) ≡ items_read c.args.paths.now files c.args.mark c.args.known.now (plain_items c.in-Named.items)) c.in_ok-items-in-Named.ensures.read))

pub read_item-returns-in_ok-items-in-Named-clause-within : goal.read_item-returns-in_ok-items-in-Named-clause-within
read_item-returns-in_ok-items-in-Named-clause-within g t c files within =
    named_within files c.args.item c.in-Named.name c.in-Named.items c.in_ok-items-in-Named.items c.in-Named.place c.in-Named.is (c.in_ok-items-in-Named.ensures.within files) within

pub read_item-returns-in_err-items-in-Named-clause-read : goal.read_item-returns-in_err-items-in-Named-clause-read
read_item-returns-in_err-items-in-Named-clause-read g t c = if_some (g.F.Folder.files c.args.folder.now) _ (λ files told.
    let p = err_from_is_err_and c.from_residual-in_err-items-in-Named.result c.from_residual-in_err-items-in-Named.ensures.1 in
    rw (p.1, p.2) (halt_so c.in_err-items-in-Named.field-0.0 (λ answer. items_given answer ≡ items_read c.args.paths.now files c.args.mark c.args.known.now (plain_items c.in-Named.items))
    (λ answer. item_given answer ≡ item_read c.args.paths.now files c.args.mark c.args.known.now (plain_item c.args.item))
    (λ fault gives. named_read c.args.paths.now files c.args.mark c.args.known.now c.args.item c.in-Named.name c.in-Named.items c.in-Named.place c.in-Named.is (Err fault) gives)
    (at_some (g.F.Folder.files c.args.folder.now) files told _ c.in_err-items-in-Named.ensures.read)))
