use Rattle.std.proofs.Common.{refl, sym, ap, ◌∙◌}
use Rattle.rz_tmpl.specs.Bodies.{behind, fault_of}
use Rattle.rz_tmpl.proofs.Shown.{has_room, shows_count, shows_end, shows_one, shows_start}
use Rattle.rz_tmpl.proofs.bodies.Bodies.take.Goals as goal

pub enter-requires : goal.enter-requires
enter-requires c = has_room c.args.self.now c.in-Start.form (ap (fault_of c.args.self.now) (sym c.in-Start.is) ∙ c.requires.sound) c.requires.few

pub returns-in-One : goal.returns-in-One
returns-in-One c = λ place next shows is.
    shows_one place c.in-One.plain next c.args.self.now c.add.new.self shows (ap (behind place) (sym c.in-One.is) ∙ is) c.add.ensures.waiting c.add.ensures.valued c.add.ensures.outside

pub returns-in-Count : goal.returns-in-Count
returns-in-Count c = λ place next shows is. shows_count place c.in-Count.field-0 next c.args.self.now _ shows (ap (behind place) (sym c.in-Count.is) ∙ is) refl refl refl

pub returns-in-Start : goal.returns-in-Start
returns-in-Start c = λ place next shows is.
    shows_start place c.in-Start.form next c.args.self.now c.enter.new.self shows (ap (behind place) (sym c.in-Start.is) ∙ is) c.enter.ensures.waiting c.enter.ensures.valued c.enter.ensures.outside

pub returns-in-End : goal.returns-in-End
returns-in-End c = λ place next shows is.
    shows_end place next c.args.self.now c.leave.new.self shows (ap (behind place) (sym c.in-End.is) ∙ is) c.leave.ensures.outside c.leave.ensures.valued
