use Rattle.std.proofs.Common.{Some, take, sym, ap, ◌∙◌, arith}
use Rattle.rz_stmt_brackets.specs.Pieces.{divides_at, has_divider, Parted}
use Rattle.rz_stmt_brackets.specs.Statements.{open_behind, open_behind_all}
use Rattle.rz_stmt_brackets.proofs.Fronts.{grows, none_left, none_more, open_more, parted_here}
use Rattle.rz_stmt_brackets.proofs.OneCut.{never_parted}
use Rattle.rz_stmt_brackets.proofs.pieces.split_at.Goals as goal

pub returns-then-divides-clause-every : goal.returns-then-divides-clause-every
returns-then-divides-clause-every c parted is =
    let loop = c.loop-first.invariant in
    ap (λ (p : Parted). Some p) (c.pieces_are_cut.ensures.first c.args.divider c.args.tokens.now _ parted
    (parted_here c.args.divider c.args.tokens.now c.split_at.result.0.now c.loop-first.rest.now c.in-Some.behind.now c.in-Some.first.now c.loop-first.size c.loop-first.depth
    c.split_at.ensures.front loop.behind c.in-Some.ensures.cases.0 loop.none loop.deep (sym c.if-divides.ensures)) is)

pub returns-clause-every : goal.returns-clause-every
returns-clause-every c parted is =
    absurd (never_parted c.args.divider c.args.tokens.now parted
    (none_left c.args.divider c.args.tokens.now c.loop-first.rest.now c.loop-first.size c.loop-first.invariant.behind c.in_default.ensures.cases c.loop-first.invariant.none) is)

pub loop-first-preserved : goal.loop-first-preserved
loop-first-preserved c =
    let tokens = c.args.tokens.now in
    let first = c.in-Some.first.now in
    let loop = c.loop-first.invariant in
    let more = grows c.loop-first.size tokens c.in-Some.behind.now first (loop.behind ∙ c.in-Some.ensures.cases.0) in record {
      none = ap (has_divider c.args.divider 0) more.0
          ∙ none_more c.args.divider 0 (take c.loop-first.size tokens) first loop.none
          (ap (λ n. divides_at c.args.divider n first) (sym loop.deep) ∙ sym c.if-divides.ensures);
      deep = c.open_behind-depth.ensures.count ∙ ap (open_behind first.shape) loop.deep ∙ sym (open_more (take c.loop-first.size tokens) first 0)
          ∙ ap (λ ts. open_behind_all ts 0) (sym more.0);
      behind = more.1;
      within = omega (arith, loop.within, c.in-Some.ensures.cases.1);
      shallow = omega (arith, loop.shallow, c.in-Some.ensures.cases.1, c.open_behind-depth.ensures.slow);
    }
