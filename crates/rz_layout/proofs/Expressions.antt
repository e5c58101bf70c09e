-- Expressions of a point or a rectangle, one more at a time.
use Rattle.std.proofs.Common.{◌≡◌, ℕ, ◌+◌, ◌<◌, List, [], length, get_or, drop, map, Result, Ok, Err, sym, ap, ◌∙◌}
use Rattle.rz_layout.specs.Fault.{refusal_of}
use Rattle.std.specs.Prelude.{None}
use Rattle.std.proofs.lemmas.List.{drop_more}
use Rattle.rz_core.specs.Stop.{◌>>=◌, Gives, fault_seen, left}
use Rattle.rz_core.specs.declared.facts.Facts.{Facts}
use Rattle.rz_core.specs.declared.stop.Stop.{Stop}
use Rattle.rz_core.specs.declared.stop.Stop.TheVariants.{NoMemory, Refused}
use Rattle.rz_expr.specs.Term.{term_of}
use Rattle.rz_expr.specs.declared.expr.Expr.{Expr}
use Rattle.rz_layout.specs.declared.fault.LayFault.{LayFault}
use Rattle.rz_types_fields.specs.Laid.{in_order, lay, takes_one, Draft, Refusal}
use Rattle.rz_types_fields.specs.Piece.{fixed_integer}

module _ (known : Facts) (exprs : List Expr) (i : ℕ) (expr : Expr) (less : i < length exprs) (item : expr ≡ get_or exprs i expr) (draft : Draft) (all : Result Draft Refusal)
    (so : in_order takes_one (lay known) draft (map fixed_integer (map term_of (drop i exprs))) [] ≡ all) where
  abbrev pub behind : Draft → Result Draft Refusal
  behind next = in_order takes_one (lay known) next (map fixed_integer (map term_of (drop (i + 1) exprs))) []

  all_is : (lay known draft (fixed_integer (term_of expr)) None >>= behind) ≡ all
  all_is =
      ap (λ (e : Expr). lay known draft (fixed_integer (term_of e)) None >>= behind) item
      ∙ sym (ap (λ (es : List Expr). in_order takes_one (lay known) draft (map fixed_integer (map term_of es)) []) (drop_more exprs i expr less))
      ∙ so

  pub expression_refused : (stop : Stop LayFault) (after : Draft) → Gives (lay known draft (fixed_integer (term_of expr)) None) (fault_seen refusal_of (left after (Err stop))) → (other : Draft) → Gives all (fault_seen refusal_of (left other (Err stop)))
  expression_refused NoMemory after laid other = tt
  expression_refused (Refused fault) after laid other = sym all_is ∙ ap (λ (r : Result Draft Refusal). r >>= behind) laid

  pub expression_more : (next : Draft) → lay known draft (fixed_integer (term_of expr)) None ≡ Ok next → behind next ≡ all
  expression_more next laid = sym (ap (λ (r : Result Draft Refusal). r >>= behind) laid) ∙ all_is
