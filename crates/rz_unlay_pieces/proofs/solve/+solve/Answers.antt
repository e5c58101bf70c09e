use Rattle.std.proofs.Common.{◌≡◌, rules, true, false, ℤ, Option, None, Some, sym, ap, ◌∙◌}
use Rattle.std.specs.Prelude.{option_and_then}
use Rattle.std.specs.Result.{result_ok}
use Rattle.rz_expr.specs.Environment.{Key, Sight}
use Rattle.rz_expr.specs.Term.{term_of}
use Rattle.rz_expr.specs.Value.{value_of}
use Rattle.rz_expr.specs.declared.expr.Expr.{Expr}
use Rattle.rz_types_fields.specs.Solve.{has_key, in_64_bits, solve, undo_left, undo_right}
use Rattle.rz_expr.specs.NameKey.{key_of}
use Rattle.rz_unlay_pieces.specs.Seen.{env_sight}
use Rattle.rz_unlay_pieces.proofs.Undone.{left_none, left_not, left_solved, right_none, right_not, right_solved}
use Rattle.rz_unlay_pieces.proofs.solve.+solve.Goals as goal

pub returns-in-Some-undo_left : goal.returns-in-Some-undo_left
returns-in-Some-undo_left t c =
    let key : Key = key_of c.args.key in
    let sight : Sight = env_sight c.args.env.now in
    let has : has_key (key_of c.args.key) (term_of c.in-Binary.left.value) ≡ true = search rules in
    let side : ◌≡◌ {A = Option ℤ} (Some c.in-Some-known_side.side) (result_ok (value_of (term_of c.in-Binary.right.value) (env_sight c.args.env.now))) = c.in-Some-known_side.ensures ∙ ap (λ (e : Expr). result_ok (value_of (term_of e) (env_sight c.args.env.now))) c.deref-then-has_key.ensures in
    let undone : ◌≡◌ {A = Option ℤ} (Some c.in-Some-undo_left.inner) (option_and_then in_64_bits (undo_left c.in-Binary.op c.in-Some-known_side.side c.args.number)) = search rules in
    let is : c.solve-in-Some-undo_left.result ≡ solve (key_of c.args.key) (env_sight c.args.env.now) (term_of c.in-Binary.left.value) c.in-Some-undo_left.inner = search rules in
    left_solved key sight c.in-Binary.op (term_of c.in-Binary.left.value) (term_of c.in-Binary.right.value) c.args.number c.in-Some-known_side.side c.in-Some-undo_left.inner c.solve-in-Some-undo_left.result has side undone is
    ∙ ap (λ (e : Expr). solve key sight (term_of e) c.args.number) (sym c.in-Binary.is)

pub returns-in-None-undo_left : goal.returns-in-None-undo_left
returns-in-None-undo_left t c =
    let key : Key = key_of c.args.key in
    let sight : Sight = env_sight c.args.env.now in
    let has : has_key (key_of c.args.key) (term_of c.in-Binary.left.value) ≡ true = search rules in
    let side : ◌≡◌ {A = Option ℤ} (Some c.in-Some-known_side.side) (result_ok (value_of (term_of c.in-Binary.right.value) (env_sight c.args.env.now))) = c.in-Some-known_side.ensures ∙ ap (λ (e : Expr). result_ok (value_of (term_of e) (env_sight c.args.env.now))) c.deref-then-has_key.ensures in
    let none : ◌≡◌ {A = Option ℤ} None (option_and_then in_64_bits (undo_left c.in-Binary.op c.in-Some-known_side.side c.args.number)) = search rules in
    left_not key sight c.in-Binary.op (term_of c.in-Binary.left.value) (term_of c.in-Binary.right.value) c.args.number c.in-Some-known_side.side has side none
    ∙ ap (λ (e : Expr). solve key sight (term_of e) c.args.number) (sym c.in-Binary.is)

pub returns-in-None-known_side : goal.returns-in-None-known_side
returns-in-None-known_side t c =
    let key : Key = key_of c.args.key in
    let sight : Sight = env_sight c.args.env.now in
    let has : has_key (key_of c.args.key) (term_of c.in-Binary.left.value) ≡ true = search rules in
    let none : ◌≡◌ {A = Option ℤ} None (result_ok (value_of (term_of c.in-Binary.right.value) (env_sight c.args.env.now))) = search rules in
    left_none key sight c.in-Binary.op (term_of c.in-Binary.left.value) (term_of c.in-Binary.right.value) c.args.number has none
    ∙ ap (λ (e : Expr). solve key sight (term_of e) c.args.number) (sym c.in-Binary.is)

pub returns-in-Some-undo_right : goal.returns-in-Some-undo_right
returns-in-Some-undo_right t c =
    let key : Key = key_of c.args.key in
    let sight : Sight = env_sight c.args.env.now in
    let has : has_key (key_of c.args.key) (term_of c.in-Binary.left.value) ≡ false = search rules in
    let side : ◌≡◌ {A = Option ℤ} (Some c.in-Some-known_side-2.side) (result_ok (value_of (term_of c.in-Binary.left.value) (env_sight c.args.env.now))) = c.in-Some-known_side-2.ensures ∙ ap (λ (e : Expr). result_ok (value_of (term_of e) (env_sight c.args.env.now))) c.deref-else-has_key.ensures in
    let undone : ◌≡◌ {A = Option ℤ} (Some c.in-Some-undo_right.inner) (option_and_then in_64_bits (undo_right c.in-Binary.op c.in-Some-known_side-2.side c.args.number)) = search rules in
    let is : c.solve-in-Some-undo_right.result ≡ solve (key_of c.args.key) (env_sight c.args.env.now) (term_of c.in-Binary.right.value) c.in-Some-undo_right.inner = search rules in
    right_solved key sight c.in-Binary.op (term_of c.in-Binary.left.value) (term_of c.in-Binary.right.value) c.args.number c.in-Some-known_side-2.side c.in-Some-undo_right.inner c.solve-in-Some-undo_right.result has side undone is
    ∙ ap (λ (e : Expr). solve key sight (term_of e) c.args.number) (sym c.in-Binary.is)

pub returns-in-None-undo_right : goal.returns-in-None-undo_right
returns-in-None-undo_right t c =
    let key : Key = key_of c.args.key in
    let sight : Sight = env_sight c.args.env.now in
    let has : has_key (key_of c.args.key) (term_of c.in-Binary.left.value) ≡ false = search rules in
    let side : ◌≡◌ {A = Option ℤ} (Some c.in-Some-known_side-2.side) (result_ok (value_of (term_of c.in-Binary.left.value) (env_sight c.args.env.now))) = c.in-Some-known_side-2.ensures ∙ ap (λ (e : Expr). result_ok (value_of (term_of e) (env_sight c.args.env.now))) c.deref-else-has_key.ensures in
    let none : ◌≡◌ {A = Option ℤ} None (option_and_then in_64_bits (undo_right c.in-Binary.op c.in-Some-known_side-2.side c.args.number)) = search rules in
    right_not key sight c.in-Binary.op (term_of c.in-Binary.left.value) (term_of c.in-Binary.right.value) c.args.number c.in-Some-known_side-2.side has side none
    ∙ ap (λ (e : Expr). solve key sight (term_of e) c.args.number) (sym c.in-Binary.is)

pub returns-in-None-known_side-2 : goal.returns-in-None-known_side-2
returns-in-None-known_side-2 t c =
    let key : Key = key_of c.args.key in
    let sight : Sight = env_sight c.args.env.now in
    let has : has_key (key_of c.args.key) (term_of c.in-Binary.left.value) ≡ false = search rules in
    let none : ◌≡◌ {A = Option ℤ} None (result_ok (value_of (term_of c.in-Binary.left.value) (env_sight c.args.env.now))) = search rules in
    right_none key sight c.in-Binary.op (term_of c.in-Binary.left.value) (term_of c.in-Binary.right.value) c.args.number has none
    ∙ ap (λ (e : Expr). solve key sight (term_of e) c.args.number) (sym c.in-Binary.is)
