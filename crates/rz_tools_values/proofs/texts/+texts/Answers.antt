use Rattle.std.proofs.Common.{◌≡◌, List, [], ◌∷◌, ◌++◌, map, sym, ap, subst, ◌∙◌, append_assoc, arith}
use denote.Param.Weighed.{most}
use Rattle.std.proofs.lemmas.List.{map-append, nil_from_length}
use Rattle.std.proofs.lemmas.Option.{IfSome_then}
use Rattle.std.proofs.lemmas.Result.{err_from_is_err_and}
use Rattle.rz_core.proofs.SoFar.{so_far}
use Rattle.rz_types_fields.specs.Text.{argument_and, arguments_of, plain_argument, plain_arguments, plain_part, plain_parts}
use Rattle.rz_types_fields.specs.declared.text.FileResource.{FileResource}
use Rattle.rz_types_fields.specs.declared.text.Format.{Format}
use Rattle.rz_types_fields.specs.declared.text.FormatArg.{FormatArg}
use Rattle.rz_types_fields.specs.declared.text.FormatArg.TheViews.{out-FileResource, out-Format, size-FormatArg}
use Rattle.rz_types_fields.specs.declared.text.TextPart.{TextPart}
use Rattle.rz_folder.proofs.Allowed.{may_read_after}
use Rattle.rz_folder.proofs.Reading.{reads_on}
use Rattle.rz_folder.specs.MayRead.{MayRead}
use Rattle.rz_folder.specs.Names.{LooksFor}
use Rattle.rz_folder.proofs.Found.{if_some}
use Rattle.rz_folder.proofs.Looking.{may_look, may_look_fewer}
use Rattle.rz_pre.proofs.Going.{at_some}
use Rattle.rz_tools_values.specs.Texts.{argument_read, arguments_read, part_read, texts_read}
use Rattle.rz_tools_values.specs.Asked.{ArgumentAsks, ArgumentsAsk, PartAsks, TextsAsk}
use Rattle.rz_tools_values.proofs.Asking.{argument_asks, argument_within, file_asked, format_asks, format_within, part_asks, part_within, resource_asked}
use Rattle.rz_tools_values.proofs.TextsRead.{all_arguments, all_parts, text_halts, text_so}
use Rattle.rz_tools_values.proofs.Turns.{turn_more}
use Rattle.rz_tools_values.proofs.texts.+texts.Goals as goal

-- What a part or an argument asks for.

pub read_texts-read_part-requires : goal.read_texts-read_part-requires
read_texts-read_part-requires g t c =
    let loop = c.loop-part in
    let parts : c.args.texts ≡ loop.yielded ++ c.in-Some.part ∷ c.next.new.self.rest.items =
    loop.invariant.rest ∙ ap (λ (l : List TextPart). loop.yielded ++ l) c.in-Some.ensures.steps.0 in
    let may : MayRead g.F.Folder loop.folder (LooksFor c.args.paths.now (PartAsks (plain_part c.in-Some.part))) =
    may_look_fewer g.F.Folder c.args.paths.now (TextsAsk (plain_parts c.args.texts)) (PartAsks (plain_part c.in-Some.part))
    (may_read_after g.F.Folder loop.invariant.reads (LooksFor c.args.paths.now (TextsAsk (plain_parts c.args.texts))) c.requires)
    (λ own asks. subst (λ (l : List TextPart). TextsAsk (plain_parts l) own) (sym parts) (part_asks loop.yielded c.in-Some.part c.next.new.self.rest.items own asks)) in
    λ κs below. (let within = part_within loop.yielded c.next.new.self.rest.items c.args.texts c.in-Some.part parts in omega (arith, c.decreases, within), (below, may))

pub read_part-file_named-requires : goal.read_part-file_named-requires
read_part-file_named-requires g t c =
    may_look g.F.Folder c.args.paths.now (PartAsks (plain_part c.args.part)) c.requires c.as_slice.result.now
    (file_asked c.args.part c.as_slice.result.now c.in-FileBytes.name c.in-FileBytes.is c.as_slice.ensures)

pub read_part-resource_named-bytes-requires : goal.read_part-resource_named-bytes-requires
read_part-resource_named-bytes-requires g t c =
    may_look g.F.Folder c.args.paths.now (PartAsks (plain_part c.args.part)) c.requires c.as_slice-name.result.now
    (resource_asked c.args.part c.as_slice-name.result.now c.in-FileResource.asked c.in-FileResource.is
    (c.as_slice-name.ensures ∙ ap (λ (asked : FileResource). (out-FileResource asked).file) c.deref.ensures))

pub read_part-read_arguments-requires : goal.read_part-read_arguments-requires
read_part-read_arguments-requires g t c =
    let arguments = (out-Format c.into_inner-format.result).arguments in
    let may : MayRead g.F.Folder c.args.folder.now (LooksFor c.args.paths.now (ArgumentsAsk (arguments_of (plain_arguments arguments)))) =
    may_look_fewer g.F.Folder c.args.paths.now (PartAsks (plain_part c.args.part)) (ArgumentsAsk (arguments_of (plain_arguments arguments))) c.requires
    (λ own asks. format_asks c.args.part c.in-Format.format c.in-Format.is own
    (subst (λ (format : Format). ArgumentsAsk (arguments_of (plain_arguments (out-Format format).arguments)) own) c.into_inner-format.ensures asks)) in
    let same = ap (λ (format : Format). most size-FormatArg (out-Format format).arguments) c.into_inner-format.ensures in
    λ κs below. (let within = format_within c.args.part c.in-Format.format c.in-Format.is in omega (arith, c.decreases, within, same), (below, may))

pub read_arguments-read_argument-requires : goal.read_arguments-read_argument-requires
read_arguments-read_argument-requires g t c =
    let loop = c.loop-argument in
    let arguments : c.args.arguments ≡ loop.yielded ++ c.in-Some.argument ∷ c.next.new.self.rest.items =
    loop.invariant.rest ∙ ap (λ (l : List FormatArg). loop.yielded ++ l) c.in-Some.ensures.steps.0 in
    let may : MayRead g.F.Folder loop.folder (LooksFor c.args.paths.now (ArgumentAsks (plain_argument c.in-Some.argument))) =
    may_look_fewer g.F.Folder c.args.paths.now (ArgumentsAsk (arguments_of (plain_arguments c.args.arguments))) (ArgumentAsks (plain_argument c.in-Some.argument))
    (may_read_after g.F.Folder loop.invariant.reads (LooksFor c.args.paths.now (ArgumentsAsk (arguments_of (plain_arguments c.args.arguments)))) c.requires)
    (λ own asks. subst (λ (l : List FormatArg). ArgumentsAsk (arguments_of (plain_arguments l)) own) (sym arguments)
    (argument_asks loop.yielded c.in-Some.argument c.next.new.self.rest.items own asks)) in
    λ κs below. (let within = argument_within loop.yielded c.next.new.self.rest.items c.args.arguments c.in-Some.argument arguments in omega (arith, c.decreases, within), (below, may))

pub read_argument-returns-in_ok-texts-in-Text-clause-read : goal.read_argument-returns-in_ok-texts-in-Text-clause-read
read_argument-returns-in_ok-texts-in-Text-clause-read g t c = IfSome_then (g.F.Folder.files c.args.folder.now) c.in_ok-texts-in-Text.ensures.read (λ files yields.
    text_so c.args.paths.now files c.args.mark c.args.known.now c.args.argument c.in-Text.texts c.in-Text.is c.in_ok-texts-in-Text.texts yields)

pub read_argument-returns-in_err-texts-in-Text-clause-read : goal.read_argument-returns-in_err-texts-in-Text-clause-read
read_argument-returns-in_err-texts-in-Text-clause-read g t c = IfSome_then (g.F.Folder.files c.args.folder.now) c.in_err-texts-in-Text.ensures.read (λ files yields.
    let p = err_from_is_err_and c.from_residual.result c.from_residual.ensures.1 in
    rw (p.1, p.2) (text_halts c.args.paths.now files c.args.mark c.args.known.now c.args.argument c.in-Text.texts c.in-Text.is c.in_err-texts-in-Text.field-0.0 yields))

pub read_arguments-loop-argument-preserved : goal.read_arguments-loop-argument-preserved
read_arguments-loop-argument-preserved g t c =
    let loop = c.loop-argument in
    let rest = c.next.new.self.rest.items in record {
      read = λ files told.
          turn_more plain_argument argument_and (arguments_read c.args.paths.now files c.args.mark c.args.known.now (arguments_of (plain_arguments c.args.arguments)))
          (plain_arguments loop.made) (argument_read c.args.paths.now files c.args.mark c.args.known.now (plain_argument c.in-Some.argument))
          (arguments_read c.args.paths.now files c.args.mark c.args.known.now (arguments_of (plain_arguments rest)))
          (loop.invariant.read files told ∙ ap (λ (l : List FormatArg). so_far argument_and (plain_arguments loop.made)
          (arguments_read c.args.paths.now files c.args.mark c.args.known.now (arguments_of (plain_arguments l)))) c.in-Some.ensures.steps.0)
          c.in_ok-argument.argument (plain_arguments c.push.new.self)
          (at_some _ files (loop.invariant.reads.unchanged ∙ told) _ c.in_ok-argument.ensures.read)
          (ap (map plain_argument) c.in_ok-push.ensures.ok ∙ map-append plain_argument loop.made (c.in_ok-argument.argument ∷ []));
      rest = loop.invariant.rest ∙ ap (λ (l : List FormatArg). loop.yielded ++ l) c.in-Some.ensures.steps.0 ∙ sym (append_assoc loop.yielded (c.in-Some.argument ∷ []) rest);
      reads = reads_on g.F.Folder _ _ _ _ _ ⊥ loop.invariant.reads c.in_ok-argument.ensures.reads (λ never. absurd never);
    }

pub read_arguments-returns-clause-read : goal.read_arguments-returns-clause-read
read_arguments-returns-clause-read g t c = if_some (g.F.Folder.files c.args.folder.now) _ (λ files told.
    let loop = c.loop-argument in
    sym (loop.invariant.read files told
    ∙ ap (λ (l : List FormatArg). so_far argument_and (plain_arguments loop.made) (arguments_read c.args.paths.now files c.args.mark c.args.known.now (arguments_of (plain_arguments l))))
    (nil_from_length loop.argument-iterator.rest.items (sym loop.argument-iterator.rest.ok.0 ∙ c.in-None.ensures.steps.0)) ∙ all_arguments (plain_arguments loop.made)))

pub read_texts-loop-part-preserved : goal.read_texts-loop-part-preserved
read_texts-loop-part-preserved g t c =
    let loop = c.loop-part in
    let rest = c.next.new.self.rest.items in record {
      read = λ files told.
          turn_more plain_part (λ part parts. part ∷ parts) (texts_read c.args.paths.now files c.args.mark c.args.known.now (plain_parts c.args.texts))
          (plain_parts loop.made) (part_read c.args.paths.now files c.args.mark c.args.known.now (plain_part c.in-Some.part))
          (texts_read c.args.paths.now files c.args.mark c.args.known.now (plain_parts rest))
          (loop.invariant.read files told ∙ ap (λ (l : List TextPart). so_far (λ part parts. part ∷ parts) (plain_parts loop.made)
          (texts_read c.args.paths.now files c.args.mark c.args.known.now (plain_parts l))) c.in-Some.ensures.steps.0)
          c.in_ok-part.part (plain_parts c.push.new.self)
          (at_some _ files (loop.invariant.reads.unchanged ∙ told) _ c.in_ok-part.ensures.read)
          (ap (map plain_part) c.in_ok-push.ensures.ok ∙ map-append plain_part loop.made (c.in_ok-part.part ∷ []));
      rest = loop.invariant.rest ∙ ap (λ (l : List TextPart). loop.yielded ++ l) c.in-Some.ensures.steps.0 ∙ sym (append_assoc loop.yielded (c.in-Some.part ∷ []) rest);
      reads = reads_on g.F.Folder _ _ _ _ _ ⊥ loop.invariant.reads c.in_ok-part.ensures.reads (λ never. absurd never);
    }

pub read_texts-returns-clause-read : goal.read_texts-returns-clause-read
read_texts-returns-clause-read g t c = if_some (g.F.Folder.files c.args.folder.now) _ (λ files told.
    let loop = c.loop-part in
    sym (loop.invariant.read files told
    ∙ ap (λ (l : List TextPart). so_far (λ part parts. part ∷ parts) (plain_parts loop.made) (texts_read c.args.paths.now files c.args.mark c.args.known.now (plain_parts l)))
    (nil_from_length loop.part-iterator.rest.items (sym loop.part-iterator.rest.ok.0 ∙ c.in-None.ensures.steps.0)) ∙ all_parts (plain_parts loop.made)))
