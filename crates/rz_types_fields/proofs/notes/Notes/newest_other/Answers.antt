use Rattle.std.proofs.Common.{◌≡◌, ◌∙◌, [], None, drop, length, sym, ap}
use Rattle.std.proofs.lemmas.Bool.{eqb-true}
use Rattle.std.proofs.lemmas.List.{nil_from_length}
use Rattle.rz_expr.specs.NameKey.{key_of}
use Rattle.rz_types_fields.specs.Newest.{code_of, has_code, held, newest}
use Rattle.rz_types_fields.specs.Positions.{positions}
use Rattle.rz_types_fields.proofs.notes.Notes.newest_other.Goals as goal

pub returns-then-is_empty : goal.returns-then-is_empty
returns-then-is_empty c =
    let others = c.others_of-others.result.now in
    let none : others ≡ [] = nil_from_length others (eqb-true (length others) 0 (sym c.if-is_empty.ensures)) in
    ap (newest c.args.told (key_of c.args.key) None) (sym none ∙ c.others_of-others.ensures ∙ ap (drop 16) c.as_slice.ensures)

pub newest_among-requires : goal.newest_among-requires
newest_among-requires c =
    c.held.ensures ∙ ap (λ code. held code c.args.self.now.places) c.code_of.ensures ∙ c.args.self.now.held (code_of (key_of c.args.key))
    ∙ ap (positions (has_code (code_of (key_of c.args.key)))) (sym (c.others_of-others.ensures ∙ ap (drop 16) c.as_slice.ensures))

pub returns : goal.returns
returns c = c.newest_among.ensures ∙ ap (newest c.args.told (key_of c.args.key) None) (c.others_of-others.ensures ∙ ap (drop 16) c.as_slice.ensures)
