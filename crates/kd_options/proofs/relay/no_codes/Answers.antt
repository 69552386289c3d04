use Rattle.std.proofs.Common.{false, refl}
use Rattle.std.proofs.Math.ListN.{replicate}
use Rattle.kd_options.proofs.SeenCodes.{all_false}
use Rattle.kd_options.proofs.relay.no_codes.Goals as goal

pub returns-clause-none : goal.returns-clause-none
returns-clause-none c = λ k. all_false (replicate 256 false) refl k
