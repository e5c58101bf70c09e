use Rattle.rz_laws.proofs.Order.{in_any_order, refused_alike}
use Rattle.rz_laws.proofs.catalog.order_plays_no_part.Goals as goal

pub returns-clause-list : goal.returns-clause-list
returns-clause-list c types moment over list new entries others = in_any_order types moment over list new entries others

pub returns-clause-refused : goal.returns-clause-refused
returns-clause-refused c = refused_alike c.one_application.ensures
