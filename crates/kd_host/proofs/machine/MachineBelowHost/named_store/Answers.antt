use Rattle.kd_host.proofs.Started.{given_store}
use Rattle.kd_host.proofs.machine.MachineBelowHost.named_store.Goals as goal

pub returns-in-Some-clause-given : goal.returns-in-Some-clause-given
returns-in-Some-clause-given g c = given_store _ _ _ _ _ c.store_from.result c.store_from.ensures.held c.store_from.ensures.new c.store_from.ensures.opened c.store_from.ensures.refused
