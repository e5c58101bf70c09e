use Rattle.std.proofs.Common.{[], ◌∷◌, refl, sym, ◌∙◌}
use Rattle.rz_pre.specs.Macros.{rows_of}
use Rattle.rz_pre.proofs.Made.{made_plain}
use Rattle.rz_pre.proofs.expanded.put_expanded.Goals as goal

pub returns-clause-tokens : goal.returns-clause-tokens
returns-clause-tokens c = (
  c.args.token ∷ [],
  made_plain (rows_of c.args.macros.now) c.args.token (c.args.token ∷ []) (sym c.in_ok-index.ensures ∙ c.in-None.is) refl,
  c.in_ok-push-in-None.ensures.ok,
)
