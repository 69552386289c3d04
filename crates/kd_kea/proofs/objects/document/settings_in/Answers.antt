use Rattle.std.proofs.lemmas.Result.{err_from_is_err_and}
use Rattle.kd_json.proofs.WhichFault.{none_accepted, first_of_rules, first_of_settings}
use Rattle.kd_kea.specs.Kea.{kea_settings}
use Rattle.kd_kea.proofs.objects.document.settings_in.Goals as goal

pub returns-in_err-settings-clause-meant : goal.returns-in_err-settings-clause-meant
returns-in_err-settings-clause-meant c =
    let p = err_from_is_err_and c.from_residual.result c.from_residual.ensures.1 in
    rw (p.1, p.2)
    (none_accepted (kea_settings c.args.text.now c.args.server) _ c.in_err-settings.ensures)

pub returns-in_err-settings-clause-first : goal.returns-in_err-settings-clause-first
returns-in_err-settings-clause-first c =
    let p = err_from_is_err_and c.from_residual.result c.from_residual.ensures.1 in
    rw (p.1, p.2)
    (first_of_settings (kea_settings c.args.text.now c.args.server) _ c.in_err-settings.ensures)

pub returns-in_err-check_subnets-clause-first : goal.returns-in_err-check_subnets-clause-first
returns-in_err-check_subnets-clause-first c =
    let at = c.from_residual-in_err-check_subnets in
    let p = err_from_is_err_and at.result at.ensures.1 in
    rw (p.1, p.2)
    (first_of_rules (kea_settings c.args.text.now c.args.server) c.in_ok-settings.settings _
    c.in_ok-settings.ensures c.in_err-check_subnets.ensures.first)
