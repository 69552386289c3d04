use Rattle.std.specs.Fmt.{digits}
use Rattle.kd_names.specs.Values.{addresses_behind, addresses_text, named_value}
use Rattle.uses.proofs.names.routers_line.Goals as goal

pub returns : goal.returns
unfolding named_value addresses_text addresses_behind digits
returns c = rw c.new-line.ensures.bytes at c.in_ok-put_named.ensures
