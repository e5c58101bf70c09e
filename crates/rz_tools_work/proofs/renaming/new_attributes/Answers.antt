use Rattle.std.proofs.Common.{◌≡◌, ◌∷◌, [], ℕ, List, Option, Some, Ok, Err, map, refl, sym, ap, subst, ◌∙◌}
use Rattle.std.proofs.lemmas.Bool.{false≢true}
use Rattle.std.proofs.lemmas.Result.{err_from_is_err_and}
use Rattle.std.specs.declared.result.Result.{Result}
use Rattle.rz_core.specs.Stop.{Gives, ◌>>=◌}
use Rattle.rz_core.specs.declared.fault.Fault.{Fault}
use Rattle.rz_stmt_data.specs.Head.{attribute_of}
use Rattle.rz_stmt_data.specs.declared.head.AttrPart.{AttrPart}
use Rattle.rz_tools_values.specs.Head.{bits_behind_all}
use Rattle.rz_tools_work.specs.Pick.{new_attributes}
use Rattle.rz_tools_values.proofs.Calls.{gives_stop}
use Rattle.rz_tools_work.proofs.Renamings.{given}
use Rattle.rz_tools_work.proofs.renaming.new_attributes.Goals as goal

mapped : (attributes : List AttrPart) → (attributes ≡ [] → ⊥) → map attribute_of attributes ≡ [] → ⊥
mapped [] some is = some refl
mapped (attribute ∷ attributes) some is = cc

pub returns-then-is_empty-clause-attributes : goal.returns-then-is_empty-clause-attributes
returns-then-is_empty-clause-attributes c =
    ap (λ (l : List AttrPart). new_attributes c.args.mark c.args.known.now (map attribute_of l)) (c.if-is_empty.ensures.0 refl)

pub returns-clause-attributes : goal.returns-clause-attributes
returns-clause-attributes c =
    given c.args.mark c.args.known.now (map attribute_of c.args.attributes.now) (mapped c.args.attributes.now (λ none. false≢true (c.if-is_empty.ensures.1 none)))
    ∙ ap (λ (a : Result ℕ Fault). a >>= λ byte. Ok (Some byte)) c.in_ok-attr.ensures.bits

pub returns-in_err-attr-clause-attributes : goal.returns-in_err-attr-clause-attributes
returns-in_err-attr-clause-attributes c =
    let p = err_from_is_err_and c.from_residual.result c.from_residual.ensures.1 in
    rw (p.1, p.2) (subst (λ (a : Result (Option ℕ) Fault). Gives a (Err c.in_err-attr.field-0.0))
    (sym (given c.args.mark c.args.known.now (map attribute_of c.args.attributes.now) (mapped c.args.attributes.now (λ none. false≢true (c.if-is_empty.ensures.1 none)))))
    (gives_stop (bits_behind_all c.args.mark c.args.known.now 0 (map attribute_of c.args.attributes.now)) (λ byte. Ok (Some byte)) c.in_err-attr.field-0.0 c.in_err-attr.ensures.bits))
