use Rattle.std.proofs.Common.{◌++◌, [], subst}
use Rattle.kd_lease.specs.Valuing.{HasValues}
use Rattle.kd_lease.proofs.Giving.{all_of_subnet}
use Rattle.kd_lease.proofs.given.subnet_values.Goals as goal

pub returns : goal.returns
returns c =
    let reserved = c.args.host.now in
    let pool = c.args.pool.now in
    let one = c.in_ok-put_all.ensures [] c.new-values.ensures in
    let two = c.in_ok-put_all-2.ensures reserved one in
    let three = c.in_ok-put_all-3.ensures (reserved ++ pool) two in
    let four = c.in_ok-put_all-4.ensures (reserved ++ pool ++ c.as_slice.result.now) three in
    subst (λ options. HasValues c.put_all-4.new.self.list.items options)
    (all_of_subnet c.args.part.now reserved pool c.as_slice.result.now c.as_slice-2.result.now c.as_slice.ensures c.as_slice-2.ensures) four
