use Rattle.std.proofs.Common.{rules, ◌≤◌, length}
use Rattle.kd_start.proofs.Starting.{fault_of_kea_file}
use Rattle.kd_start.proofs.start.kea_configuration.Goals as goal

pub returns-clause-refused : goal.returns-clause-refused
returns-clause-refused g c =
    let short : length c.as_slice.result.now ≤ 16777216 = search rules in
    fault_of_kea_file c.args.server c.as_slice.result.now c.kea_config_of.result short c.kea_config_of.ensures.refused
