use Rattle.std.proofs.Common.{◌+◌, ◌≤◌, Bor, List, [], ◌∷◌, drop, length, sym, ap, subst, ◌∙◌, arith}
use Rattle.std.proofs.lemmas.Bool.{eqb-false, eqb-true}
use Rattle.std.proofs.lemmas.List.{drop_all, map-append, nil_from_length}
use Rattle.std.specs.Prelude.{option_map}
use Rattle.rz_stmt_brackets.proofs.OneBracket.{never_within, same_within}
use Rattle.rz_stmt_brackets.proofs.Short.{AreShort}
use Rattle.rz_stmt_brackets.specs.Held.{held_split}
use Rattle.rz_stmt_brackets.specs.Pieces.{AreCut}
use Rattle.rz_stmt_brackets.specs.declared.bracket.Bracket.TheVariants.{Round}
use Rattle.rz_stmt_brackets.specs.declared.pieces.Divider.TheVariants.{Comma}
use Rattle.rz_core.specs.Decided.{Decided}
use Rattle.rz_expr.specs.Term.{term_of}
use Rattle.rz_types_fields.specs.Text.{plain_argument, plain_arguments, plain_part, plain_parts}
use Rattle.rz_lex.specs.declared.token.Token.{Token}
use Rattle.rz_stmt_data.proofs.Answering.{ok_so}
use Rattle.rz_stmt_data.proofs.Built.{number_is, text_is}
use Rattle.rz_stmt_data.proofs.Calls.{alone_here, asked_decided, called_here, called_nowhere, formatted_decided}
use Rattle.rz_stmt_data.proofs.Reading.{arguments_short, asked_short, front_shorter, leads_all, leads_more, leads_nowhere, leads_on_all, leads_on_first, leads_on_more, leads_on_nowhere, longest, now_of, only_three, piece_next, short_longest, LeadsOn}
use Rattle.rz_stmt_data.specs.Steps.{held_front, IsAsked, IsCalledPair, IsFormatted, IsFrontPair}
use Rattle.rz_stmt_data.specs.Texts.{by_number, by_text, IsArgument, IsCall, IsFront}
use Rattle.rz_stmt_data.specs.declared.texts.TextCall.TheVariants.{Format, Resource}
use Rattle.rz_stmt_data.proofs.texts.+texts.Goals as goal

-- Parts.

pub read_parts-returns-in_default : goal.read_parts-returns-in_default
read_parts-returns-in_default t c =
    let never = rw c.in_default.is at c.in_ok-front.ensures in
    leads_nowhere c.args.tokens.now c.loop-rest.rest.now (plain_parts c.loop-rest.texts) c.loop-rest.invariant.leads
    (λ none. eqb-false (length c.loop-rest.rest.now) 0 (sym c.loop-rest-test.ensures) (ap (λ (ts : List Token). length ts) none))
    (λ part behind is. never (part, behind) is)

pub read_parts-loop-rest-preserved : goal.read_parts-loop-rest-preserved
read_parts-loop-rest-preserved t c =
    let front = c.in-Some.front in
    let is : IsFront c.loop-rest.rest.now (plain_part front.part) front.behind.now = rw c.in-Some.is at c.in_ok-front.ensures in
    let shorter = front_shorter c.loop-rest.rest.now (plain_part front.part) front.behind.now is in
    record {
      leads = leads_more c.args.tokens.now c.loop-rest.rest.now front.behind.now (plain_parts c.loop-rest.texts) (plain_parts c.push.new.self) (plain_part front.part)
          c.loop-rest.invariant.leads is (ap plain_parts c.in_ok-push.ensures.ok ∙ map-append plain_part c.loop-rest.texts (front.part ∷ []));
      short = omega (arith, c.loop-rest.invariant.short, shorter);
    }

pub read_parts-returns : goal.read_parts-returns
read_parts-returns t c =
    leads_all c.args.tokens.now c.loop-rest.rest.now (plain_parts c.loop-rest.texts) c.loop-rest.invariant.leads
    (nil_from_length c.loop-rest.rest.now (eqb-true (length c.loop-rest.rest.now) 0 (sym c.loop-rest-test.ensures)))

-- The part at the front.

pub read_front-returns-in-Some-2 : goal.read_front-returns-in-Some-2
read_front-returns-in-Some-2 t c =
    alone_here c.args.tokens.now c.in-Some.behind.now c.in-Some.first.now c.in-Some.ensures.cases.0 (plain_part c.in-Some-2.part)
    (sym c.in_ok-part.ensures ∙ ap (option_map plain_part) c.in-Some-2.is)

pub read_front-returns-in-Some-call_in : goal.read_front-returns-in-Some-call_in
read_front-returns-in-Some-call_in t c =
    ok_so (λ front. Decided (IsCalledPair c.in-Some-call_in.call c.in-Some.behind.now) (option_map held_front front))
    (λ front. Decided (IsFrontPair c.args.tokens.now) (option_map held_front front))
    (λ front. called_here c.args.tokens.now c.in-Some.behind.now c.in-Some.first.now c.in-Some.ensures.cases.0 c.in-Some-call_in.call
    (sym c.in_ok-part.ensures ∙ ap (option_map plain_part) c.in-None.is) (sym c.in-Some-call_in.ensures) (option_map held_front front))
    c.read_called.result c.read_called.ensures

-- The brackets of a function.

pub read_called-returns-in_default : goal.read_called-returns-in_default
read_called-returns-in_default t c pair is = never_within Round c.args.tokens.now c.in_default.ensures.every is.0 is.1

pub read_called-returns-in-None : goal.read_called-returns-in-None
read_called-returns-in-None t c =
    called_nowhere c.args.call c.args.tokens.now (held_split c.in-Some.split)
    (same_within Round c.args.tokens.now (held_split c.in-Some.split) c.in-Some.ensures.every) (rw c.in-None.is at c.in_ok-part.ensures)

-- `$$Resource`.

pub read_resource-read_asked-requires : goal.read_resource-read_asked-requires
read_resource-read_asked-requires t c =
    let pieces = c.as_slice.result.now in
    let few : length c.asked-item.result.now ≤ length c.args.tokens.now =
    asked_short c.args.tokens.now c.file-item.result.now c.kind-item.result.now c.asked-item.result.now (now_of pieces)
    (subst (λ (ps : List (Bor (List Token))). AreCut Comma c.args.tokens.now (now_of ps)) (sym c.as_slice.ensures.value) c.in_ok-pieces.ensures.cut)
    (only_three pieces c.file-item.result c.kind-item.result c.asked-item.result c.in-len3.len_at_least c.in-len3.len_below c.file-item.is c.kind-item.is c.asked-item.is) in
    (omega (arith, c.decreases, few), tt)

pub read_resource-returns-in-len3 : goal.read_resource-returns-in-len3
read_resource-returns-in-len3 t c =
    let pieces = c.as_slice.result.now in
    ok_so (λ part. Decided (IsAsked c.file-item.result.now c.kind-item.result.now c.asked-item.result.now) (option_map plain_part part))
    (λ part. Decided (IsCall Resource c.args.tokens.now) (option_map plain_part part))
    (λ part. asked_decided c.args.tokens.now (now_of pieces) (λ others is. ap now_of c.as_slice.ensures.value ∙ c.in_ok-pieces.ensures.every others is)
    c.file-item.result.now c.kind-item.result.now c.asked-item.result.now
    (subst (λ (ps : List (Bor (List Token))). AreCut Comma c.args.tokens.now (now_of ps)) (sym c.as_slice.ensures.value) c.in_ok-pieces.ensures.cut)
    (only_three pieces c.file-item.result c.kind-item.result c.asked-item.result c.in-len3.len_at_least c.in-len3.len_below c.file-item.is c.kind-item.is c.asked-item.is)
    (option_map plain_part part))
    c.read_asked.result c.read_asked.ensures

pub read_asked-returns-in_default : goal.read_asked-returns-in_default
read_asked-returns-in_default t c part is =
    let never = rw c.in_default.is at c.in_ok-file.ensures in
    never is.0 is.3

-- `$$Format`.

pub read_format-read_formatted-requires : goal.read_format-read_formatted-requires
read_format-read_formatted-requires t c =
    let few : longest (now_of c.in-Some.others.now) ≤ length c.args.tokens.now =
    arguments_short c.args.tokens.now c.in-Some.text.now.now (now_of c.in-Some.others.now) (now_of c.deref.result.now)
    (subst (λ (ps : List (Bor (List Token))). AreCut Comma c.args.tokens.now (now_of ps)) (sym c.deref.ensures.value) c.in_ok-pieces.ensures.cut)
    (ap now_of c.in-Some.ensures.cases.0) in
    (omega (arith, c.decreases, few), tt)

pub read_format-returns-in-Some : goal.read_format-returns-in-Some
read_format-returns-in-Some t c =
    ok_so (λ part. Decided (IsFormatted c.in-Some.text.now.now (now_of c.in-Some.others.now)) (option_map plain_part part))
    (λ part. Decided (IsCall Format c.args.tokens.now) (option_map plain_part part))
    (λ part. formatted_decided c.args.tokens.now (now_of c.deref.result.now) (λ others is. ap now_of c.deref.ensures.value ∙ c.in_ok-pieces.ensures.every others is)
    c.in-Some.text.now.now (now_of c.in-Some.others.now)
    (subst (λ (ps : List (Bor (List Token))). AreCut Comma c.args.tokens.now (now_of ps)) (sym c.deref.ensures.value) c.in_ok-pieces.ensures.cut)
    (ap now_of c.in-Some.ensures.cases.0) (option_map plain_part part))
    c.read_formatted.result c.read_formatted.ensures

-- Arguments.

pub read_arguments-loop-piece-init : goal.read_arguments-loop-piece-init
read_arguments-loop-piece-init t c = record {
  leads = subst (LeadsOn (now_of c.args.pieces.now) (now_of c.args.pieces.now)) (sym (ap plain_arguments c.new-arguments.ensures)) (leads_on_first (now_of c.args.pieces.now));
  short = short_longest (now_of c.args.pieces.now);
}

pub read_arguments-returns-in_default : goal.read_arguments-returns-in_default
read_arguments-returns-in_default t c =
    let pieces = c.args.pieces.now in
    let i = c.loop-piece.piece-index in
    leads_on_nowhere (now_of pieces) (now_of (drop i pieces)) (now_of (drop (i + 1) pieces)) (plain_arguments c.loop-piece.arguments) c.piece-item.result.now
    c.loop-piece.invariant.leads (piece_next pieces i c.piece-item.result c.loop-piece-test.true c.piece-item.is) (rw c.in_default.is at c.in_ok-argument.ensures)

pub read_arguments-loop-piece-preserved : goal.read_arguments-loop-piece-preserved
read_arguments-loop-piece-preserved t c =
    let pieces = c.args.pieces.now in
    let i = c.loop-piece.piece-index in
    let are = piece_next pieces i c.piece-item.result c.loop-piece-test.true c.piece-item.is in
    record {
      leads = leads_on_more (now_of pieces) (now_of (drop i pieces)) (now_of (drop (i + 1) pieces)) (plain_arguments c.loop-piece.arguments) c.piece-item.result.now
          c.loop-piece.invariant.leads are (plain_argument c.in-Some.argument) (plain_arguments c.push.new.self) (rw c.in-Some.is at c.in_ok-argument.ensures)
          (ap plain_arguments c.in_ok-push.ensures.ok ∙ map-append plain_argument c.loop-piece.arguments (c.in-Some.argument ∷ []));
      short = (subst (AreShort (longest (now_of pieces))) are c.loop-piece.invariant.short).1;
    }

pub read_arguments-returns : goal.read_arguments-returns
read_arguments-returns t c =
    leads_on_all (now_of c.args.pieces.now) (now_of (drop c.loop-piece.piece-index c.args.pieces.now)) (plain_arguments c.loop-piece.arguments) c.loop-piece.invariant.leads
    (ap now_of (drop_all c.loop-piece.piece-index c.args.pieces.now c.loop-piece-test.false))

pub read_argument-returns-in-Some : goal.read_argument-returns-in-Some
read_argument-returns-in-Some t c =
    subst (IsArgument c.args.tokens.now) (sym (text_is c.in-Some.texts))
    (by_text c.args.tokens.now (plain_parts c.in-Some.texts) (sym c.if-begins_text.ensures) (rw c.in-Some.is at c.in_ok-texts.ensures))

pub read_argument-returns-in-Some-2 : goal.read_argument-returns-in-Some-2
read_argument-returns-in-Some-2 t c =
    subst (IsArgument c.args.tokens.now) (sym (number_is c.in-Some-2.expr))
    (by_number c.args.tokens.now (term_of c.in-Some-2.expr) (sym c.if-begins_text.ensures) (rw c.in-Some-2.is at c.in_ok-expr.ensures))
