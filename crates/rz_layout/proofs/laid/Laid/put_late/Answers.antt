use Rattle.std.proofs.Common.{◌+◌, ◌≤◌, ℕ, arith, List, [], ◌∷◌, ◌++◌, length, w32, refl, ap, subst, ◌∙◌}
use Rattle.std.specs.Prelude.{nat_abs}
use Rattle.std.proofs.lemmas.Int.{to_z-of_z}
use Rattle.rz_expr.specs.Term.{term_of}
use Rattle.rz_layout.specs.Late.{numbers_in}
use Rattle.rz_types_fields.specs.Known.{known}
use Rattle.rz_types_fields.specs.Laid.{LateNumber}
use Rattle.rz_types_fields.specs.Spells.{most_bits}
use Rattle.rz_layout.proofs.Fills.{number_is, numbers_more}
use Rattle.rz_layout.proofs.Room.{late_draft}
use Rattle.rz_layout.proofs.laid.Laid.put_late.Goals as goal

pub returns-clause-laid : goal.returns-clause-laid
returns-clause-laid c =
    let wide = to_z-of_z w32 c.args.width c.ranges.width in
    late_draft c.args.self.now.piece c.one_more-self.result c.args.self.now.bits c.args.self.now.marks c.push_many.new.self c.push_many-2.new.self c.push_many-3.new.self
    (known c.args.self.now.notes.items) (numbers_in c.args.self.now.late) (numbers_in c.push.new.self) c.args.form c.args.width (term_of c.args.term.now) _ _ _
    c.one_more-self.ensures c.requires.short.marks c.in_ok-push_many.ensures.ok (omega (arith, c.len-at.ensures.is, c.len.ensures.is)) c.in_ok-push_many-2.ensures.ok (ap nat_abs wide)
    c.in_ok-push_many-3.ensures.ok (ap nat_abs wide) (subst (λ (n : ℕ). length c.args.self.now.bits + n ≤ most_bits) (ap nat_abs wide) c.in-Ok.ensures)
    (ap numbers_in c.in_ok-push.ensures.ok ∙ numbers_more c.args.self.now.late _
    ∙ ap (λ (own : List LateNumber). numbers_in c.args.self.now.late ++ own) (number_is _ _ refl
    ∙ (λ i. record { piece = c.args.self.now.piece; at = c.len-at.ensures.is i; form = c.args.form; width = wide i; term = term_of c.args.term.now; names = λ names. names } ∷ [])))
