use Rattle.std.proofs.Common.{◌++◌}
use Rattle.kd_names.specs.Table.{extensions, high_options, ip_parameters, later_options, link_parameters, more_options, more_services, services, vendor_extensions}
use Rattle.kd_names.proofs.Tables.{in_either}
use Rattle.kd_names.proofs.table.definition.Goals as goal

pub returns : goal.returns
returns c =
    let code = c.args.code in
    let two = vendor_extensions ++ ip_parameters in
    let three = two ++ link_parameters in
    let four = three ++ services in
    let five = four ++ more_services in
    let six = five ++ extensions in
    let seven = six ++ later_options in
    let eight = seven ++ more_options in
    let in_two = in_either (λ d. (d.0.now, d.1)) _ _ _ vendor_extensions ip_parameters code c.or-first.ensures c.vendor_extension.ensures c.ip_parameter.ensures in
    let in_three = in_either (λ d. (d.0.now, d.1)) _ _ _ two link_parameters code c.or.ensures in_two c.link_parameter.ensures in
    let in_four = in_either (λ d. (d.0.now, d.1)) _ _ _ three services code c.or-settings.ensures in_three c.service.ensures in
    let in_five = in_either (λ d. (d.0.now, d.1)) _ _ _ four more_services code c.or-2.ensures in_four c.more_service.ensures in
    let in_six = in_either (λ d. (d.0.now, d.1)) _ _ _ five extensions code c.or-basic.ensures in_five c.extension.ensures in
    let in_seven = in_either (λ d. (d.0.now, d.1)) _ _ _ six later_options code c.or-3.ensures in_six c.later_option.ensures in
    let in_eight = in_either (λ d. (d.0.now, d.1)) _ _ _ seven more_options code c.or-later.ensures in_seven c.more_option.ensures in
    in_either (λ d. (d.0.now, d.1)) _ _ _ eight high_options code c.or-4.ensures in_eight c.high_option.ensures
