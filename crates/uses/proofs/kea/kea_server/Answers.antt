use Rattle.std.proofs.Common.{Some}
use Rattle.kd_kea.specs.Kea.{IsKea}
use Rattle.uses.proofs.Results.{fact_of_some}
use Rattle.uses.proofs.kea.kea_server.Goals as goal

pub returns : goal.returns
returns c =
    let config = c.in_ok-config.config in
    let configured = fact_of_some (IsKea c.args.text.now (Some c.args.given)) c.read_kea.result config c.in_ok-config.ensures.value c.read_kea.ensures.found in
    (config, configured, c.server.ensures.same)
