use Rattle.std.proofs.Common.{◌≡◌, false, true, length, map, [], ◌+◌, ◌∷◌, sym, subst, ◌∙◌, arith}
use Rattle.std.specs.Prelude.{codes, refl}
use Rattle.std.specs.String.{string_bytes}
use Rattle.std.proofs.lemmas.List.{length-map}
use Rattle.rz_tools_args.specs.Command.{places_of, IsMisplaced}
use Rattle.rz_tools_args.specs.Definition.{nowhere}
use Rattle.rz_tools_args.specs.Held.{is_whole, item}
use Rattle.rz_tools_args.specs.Syntax.{syntax_of}
use Rattle.rz_tools_args.proofs.Positions.{at_position, missing_at, whole_is}
use Rattle.rz_tools_args.proofs.read.read_command.Goals as goal

pub returns-then-is_whole-clause-command : goal.returns-then-is_whole-clause-command
returns-then-is_whole-clause-command c =
    let back = c.cut_back.ensures.word nowhere (codes "a") [] refl (omega arith) refl in
    let items = map item c.in_ok-read.read.items in
    let whole : true ≡ is_whole (syntax_of c.args.name) (length (places_of items)) items =
    c.if-is_whole.ensures ∙ (λ i. is_whole (c.syntax_of.ensures i) (c.in_ok-read.ensures.places i) (map item (c.as_slice.ensures i))) in
    whole_is c.one_text.ensures.text c.one_cut.ensures.tokens back c.args.name (map string_bytes c.args.words.now) items c.in_ok-read.ensures.items
    c.in_ok-read.ensures.begin (sym whole)

pub returns-clause-misplaced : goal.returns-clause-misplaced
returns-clause-misplaced c =
    let back = c.cut_back.ensures.word nowhere (codes "a") [] refl (omega arith) refl in
    let words = map string_bytes c.args.words.now in
    let items = map item c.in_ok-read.read.items in
    let whole : false ≡ is_whole (syntax_of c.args.name) (length (places_of items)) items =
    c.if-is_whole.ensures ∙ (λ i. is_whole (c.syntax_of.ensures i) (c.in_ok-read.ensures.places i) (map item (c.as_slice.ensures i))) in
    at_position (IsMisplaced ((syntax_of c.args.name).name ∷ words)) c.misplaced.result (length c.args.words.now + 2) c.misplaced.ensures
    (subst (λ n. IsMisplaced ((syntax_of c.args.name).name ∷ words) (n + 2)) (length-map c.args.words.now string_bytes)
    (missing_at c.one_text.ensures.text c.one_cut.ensures.tokens back c.args.name words items c.in_ok-read.ensures.items c.in_ok-read.ensures.begin (sym whole)))
