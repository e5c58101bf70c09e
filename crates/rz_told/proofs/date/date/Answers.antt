use Rattle.std.proofs.Common.{ℕ, List, ◌++◌, refl, sym, ap, ◌∙◌, arith}
use Rattle.std.specs.Prelude.{nat_abs, codes}
use Rattle.rz_core.specs.Decimal.{decimal_of}
use Rattle.rz_show_lines.specs.Cut.{cut}
use Rattle.rz_told.proofs.Dates.{late_told, moment_told, none_told, not_early}
use Rattle.rz_told.proofs.Sizes.{three_on}
use Rattle.rz_told.specs.Date.{date_text, two_digits}
use Rattle.rz_told.proofs.date.date.Goals as goal

pub returns-then-seconds-eq0 : goal.returns-then-seconds-eq0
returns-then-seconds-eq0 c = c.append.ensures ∙ ap (λ (t : List ℕ). cut (c.args.line.now ++ t)) (sym (none_told c.args.seconds c.if-seconds-eq0.true))

pub returns-in-Some : goal.returns-in-Some
returns-in-Some c =
    let m = c.in-Some.moment in
    three_on c.args.line.now c.day.new.line c.push.new.self c.time.new.line (date_text (nat_abs m.year) m.month m.day) (codes " ")
    (two_digits m.hour ++ codes ":" ++ two_digits m.minute ++ codes ":" ++ two_digits m.second) c.day.ensures c.push.ensures c.time.ensures
    ∙ ap (λ (t : List ℕ). cut (c.args.line.now ++ t))
    (sym (moment_told c.args.seconds (omega (arith, c.if-seconds-eq0.false)) (c.in-Some.ensures.some.0 refl) m.year m.month m.day m.hour m.minute m.second
    m.civil.0 m.civil.1 m.civil.2 m.civil.3 (sym c.in-Some.ensures.unix ∙ m.civil.4)))

pub returns-in-None : goal.returns-in-None
returns-in-None c =
    c.decimal.ensures ∙ ap (λ (n : ℕ). cut (c.args.line.now ++ decimal_of n)) c.from.ensures
    ∙ ap (λ (t : List ℕ). cut (c.args.line.now ++ t)) (sym (late_told c.args.seconds (not_early c.args.seconds (λ early. cc (c.in-None.ensures.some.1 early)))))
