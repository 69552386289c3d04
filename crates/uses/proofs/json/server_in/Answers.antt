use Rattle.std.proofs.Common.{[]}
use Rattle.kd_json.specs.Configured.{IsConfigured}
use Rattle.uses.proofs.Results.{fact_of_some}
use Rattle.uses.proofs.json.server_in.Goals as goal

pub returns : goal.returns
returns c =
    let config = c.in_ok-config.config in
    let configured = fact_of_some (IsConfigured c.args.text.now []) c.read_config.result config c.in_ok-config.ensures.value c.read_config.ensures.found in
    (config, configured, c.server.ensures.same)
