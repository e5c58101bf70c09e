use Rattle.std.proofs.Common.{◌≡◌, ◌∙◌, Option, Some, None, drop, take, sym, ap}
use Rattle.std.specs.Prelude.{option_map}
use Rattle.rz_core.specs.Lists.{or_else}
use Rattle.rz_expr.specs.NameKey.{key_of}
use Rattle.rz_types_fields.specs.Newest.{newest}
use Rattle.rz_types_fields.specs.declared.names.Note.{Note}
use Rattle.rz_types_fields.proofs.Noting.{newest_parts}
use Rattle.rz_types_fields.proofs.notes.Notes.newest.Goals as goal

pub returns-in-Some : goal.returns-in-Some
returns-in-Some c =
    let items = c.args.self.now.items in
    let found : newest c.args.told (key_of c.args.key) None (drop 16 items) ≡ Some c.in-Some.note.now =
    sym c.newest_other.ensures ∙ ap (option_map (λ note. note.now)) c.in-Some.is in
    ap (λ (o : Option Note). or_else o (newest c.args.told (key_of c.args.key) None (take 16 items))) (sym found) ∙ newest_parts c.args.told (key_of c.args.key) 16 items

pub returns-in-None : goal.returns-in-None
returns-in-None c =
    let items = c.args.self.now.items in
    let none : newest c.args.told (key_of c.args.key) None (drop 16 items) ≡ None =
    sym c.newest_other.ensures ∙ ap (option_map (λ note. note.now)) c.in-None.is in
    c.newest_walked.ensures
    ∙ ap (newest c.args.told (key_of c.args.key) None) (c.few_of.ensures ∙ ap (take 16) c.as_slice.ensures)
    ∙ ap (λ (o : Option Note). or_else o (newest c.args.told (key_of c.args.key) None (take 16 items))) (sym none)
    ∙ newest_parts c.args.told (key_of c.args.key) 16 items
