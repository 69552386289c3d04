use Rattle.std.proofs.Common.{ap}
use Rattle.kd_rows.specs.Index.{Bounds, bound_row}
use Rattle.kd_rows.proofs.Slots.{replaced_seen}
use Rattle.kd_rows.proofs.blocks.Blocks.replace.Goals as goal

pub invariant_of-self : goal.invariant_of-self
invariant_of-self c = (replaced_seen bound_row c.self.inside.slots.items c.args.self.now.rows c.self.inside.order.numbers c.args.place c.at-number.result c.args.bound c.self.invariant (ap (λ (t : Bounds). t.rows) c.self.view_is) c.at-number.ensures c.requires).0

pub returns-clause-rows : goal.returns-clause-rows
returns-clause-rows c = (replaced_seen bound_row c.self.inside.slots.items c.args.self.now.rows c.self.inside.order.numbers c.args.place c.at-number.result c.args.bound c.self.invariant (ap (λ (t : Bounds). t.rows) c.self.view_is) c.at-number.ensures c.requires).1
