use Rattle.std.proofs.Common.{[]}
use Rattle.uses.proofs.database.store_of_row.Goals as goal

pub returns-in-Ok : goal.returns-in-Ok
returns-in-Ok c clean = (c.in-Ok.ensures.put clean [] c.in_ok-store.ensures.stands).done
