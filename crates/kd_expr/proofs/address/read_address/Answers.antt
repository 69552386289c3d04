use Rattle.kd_expr.proofs.Addresses.{read_found, read_only}
use Rattle.kd_expr.proofs.address.read_address.Goals as goal

pub returns-clause-found : goal.returns-clause-found
returns-clause-found c = read_found c.args.text.now c.address_of.result c.address_of.ensures

pub returns-clause-only : goal.returns-clause-only
returns-clause-only c = read_only c.args.text.now c.address_of.result c.address_of.ensures
