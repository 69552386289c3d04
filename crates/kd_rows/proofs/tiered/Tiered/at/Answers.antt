use Rattle.std.proofs.Common.{ap}
use Rattle.std.specs.VecDeque.{deque_items}
use Rattle.kd_rows.specs.Tiers.{Roomy}
use Rattle.kd_rows.proofs.Tiers.{read_at}
use Rattle.kd_rows.proofs.tiered.Tiered.at.Goals as goal

pub returns : goal.returns
returns c = read_at deque_items c.self.inside.tiers.items c.args.self.now.numbers c.args.place c.index.result.now c.index-2.result.now c.self.invariant.stand.full (ap (λ (t : Roomy). t.numbers) c.self.view_is) c.requires c.index.ensures c.index-2.ensures
