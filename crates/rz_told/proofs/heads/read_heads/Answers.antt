use Rattle.std.proofs.Common.{◌≡◌, ◌||◌, is_some, true, ap, ◌∙◌, sym}
use Rattle.rz_fork.specs.Rules.{data_area_outside, map_outside, short_map, type_list_outside, types_outside}
use Rattle.rz_fork.specs.Layout.{types_of, outline_of}
use Rattle.rz_told.proofs.Table.{short_exit, map_exit, list_exit, type_exit, sound_exit, none_from, either}
use Rattle.rz_told.proofs.heads.read_heads.Goals.{then-is_some-2-via-then-is_some-2, then-is_some-2-via-else-is_some-2+then-is_some-3}
use Rattle.rz_told.proofs.heads.read_heads.Goals as goal

pub returns-then-is_some-clause-breaks : goal.returns-then-is_some-clause-breaks
returns-then-is_some-clause-breaks c =
    rw (c.broken.ensures.faults, c.broken.ensures.outline) (short_exit c.args.bytes.now c.requires.some _ c.short_header-short.ensures.rule (sym c.if-is_some.ensures))

pub returns-then-is_some-2-clause-breaks : goal.returns-then-is_some-2-clause-breaks
returns-then-is_some-2-clause-breaks c =
    let head = c.read_header-header.ensures.header in
    let b = c.args.bytes.now in
    let there : (is_some c.map_outside-map.result || is_some c.short_map-long.result) ≡ true =
    elim c.then-is_some-2.branch [
      | then-is_some-2-via-then-is_some-2 w ↦ ap (λ t. t || is_some c.short_map-long.result) (sym w.if-is_some-2.ensures)
      | then-is_some-2-via-else-is_some-2+then-is_some-3 w ↦ either c.map_outside-map.result c.short_map-long.result (sym w.if-is_some-3.ensures)
    ] in
    rw (c.broken-then-is_some-2.ensures.faults, c.broken-then-is_some-2.ensures.outline)
    (map_exit b c.requires.some _ _ _
    (none_from _ _ c.short_header-short.ensures.rule (sym c.if-is_some.ensures))
    (c.data_area_outside-area.ensures.rule ∙ ap (data_area_outside b) head)
    (c.map_outside-map.ensures.rule ∙ ap (map_outside b) head)
    (c.short_map-long.ensures.rule ∙ ap short_map head)
    there)

pub returns-then-is_some-4-clause-breaks : goal.returns-then-is_some-4-clause-breaks
returns-then-is_some-4-clause-breaks c =
    let head = c.read_header-header.ensures.header in
    let b = c.args.bytes.now in
    let types = c.type_list_at-types.ensures.types ∙ ap (types_of b) head in
    rw (c.broken-then-is_some-4.ensures.faults, c.broken-then-is_some-4.ensures.outline)
    (list_exit b c.requires.some _ _
    (none_from _ _ c.short_header-short.ensures.rule (sym c.if-is_some.ensures))
    (c.data_area_outside-area.ensures.rule ∙ ap (data_area_outside b) head)
    (none_from _ _ (c.map_outside-map.ensures.rule ∙ ap (map_outside b) head) (sym c.if-is_some-2.ensures))
    (none_from _ _ (c.short_map-long.ensures.rule ∙ ap short_map head) (sym c.if-is_some-3.ensures))
    (c.type_list_outside-list.ensures.rule ∙ (λ i. type_list_outside (head i) (types i)))
    (sym c.if-is_some-4.ensures))

pub returns-then-is_some-5-clause-breaks : goal.returns-then-is_some-5-clause-breaks
returns-then-is_some-5-clause-breaks c =
    let head = c.read_header-header.ensures.header in
    let b = c.args.bytes.now in
    let types = c.type_list_at-types.ensures.types ∙ ap (types_of b) head in
    let outline = c.read_outline-outline.ensures.outline ∙ (λ i. outline_of b (head i) (types i)) in
    rw (c.broken-then-is_some-5.ensures.faults, c.broken-then-is_some-5.ensures.outline)
    (type_exit b c.requires.some _ _
    (none_from _ _ c.short_header-short.ensures.rule (sym c.if-is_some.ensures))
    (c.data_area_outside-area.ensures.rule ∙ ap (data_area_outside b) head)
    (none_from _ _ (c.map_outside-map.ensures.rule ∙ ap (map_outside b) head) (sym c.if-is_some-2.ensures))
    (none_from _ _ (c.short_map-long.ensures.rule ∙ ap short_map head) (sym c.if-is_some-3.ensures))
    (none_from _ _ (c.type_list_outside-list.ensures.rule ∙ (λ i. type_list_outside (head i) (types i))) (sym c.if-is_some-4.ensures))
    (c.types_outside-count.ensures.rule ∙ ap types_outside outline)
    (sym c.if-is_some-5.ensures))

pub returns-clause-breaks : goal.returns-clause-breaks
returns-clause-breaks c =
    let head = c.read_header-header.ensures.header in
    let b = c.args.bytes.now in
    let types = c.type_list_at-types.ensures.types ∙ ap (types_of b) head in
    let outline = c.read_outline-outline.ensures.outline ∙ (λ i. outline_of b (head i) (types i)) in
    sound_exit b c.requires.some c.data_area_outside-area.result c.is_none.result c.read_outline-outline.result
    (none_from _ _ c.short_header-short.ensures.rule (sym c.if-is_some.ensures))
    (c.data_area_outside-area.ensures.rule ∙ ap (data_area_outside b) head)
    (none_from _ _ (c.map_outside-map.ensures.rule ∙ ap (map_outside b) head) (sym c.if-is_some-2.ensures))
    (none_from _ _ (c.short_map-long.ensures.rule ∙ ap short_map head) (sym c.if-is_some-3.ensures))
    (none_from _ _ (c.type_list_outside-list.ensures.rule ∙ (λ i. type_list_outside (head i) (types i))) (sym c.if-is_some-4.ensures))
    (none_from _ _ (c.types_outside-count.ensures.rule ∙ ap types_outside outline) (sym c.if-is_some-5.ensures))
    c.is_none.ensures
    outline
