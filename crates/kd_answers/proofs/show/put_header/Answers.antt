use Rattle.std.proofs.Common.{◌++◌, ap, ◌∙◌}
use Rattle.std.specs.Prelude.{string_bytes}
use Rattle.kd_answers.specs.Show.{len_line, numbers_line, addresses_line, mac_line, type_line, header_lines}
use Rattle.kd_answers.proofs.Shown.{five_put}
use Rattle.kd_answers.proofs.show.put_header.Goals as goal

pub returns : goal.returns
unfolding header_lines
returns c =
    let m = c.args.message.now in
    let h = c.header-header.result.now in
    let old = string_bytes c.args.out.now in
    five_put old (len_line c.len.result) (numbers_line h) (addresses_line h) (mac_line m.header) (type_line m.options) _ _ _ _ _ c.in_ok-put_len.ensures c.in_ok-put_numbers.ensures c.in_ok-put_addresses.ensures c.in_ok-put_mac.ensures c.in_ok-put_type.ensures
    ∙ ap (λ len. old ++ (len_line len ++ numbers_line h ++ addresses_line h ++ mac_line m.header ++ type_line m.options)) c.len.ensures.value
    ∙ ap (λ x. old ++ (len_line m.len ++ numbers_line x ++ addresses_line x ++ mac_line m.header ++ type_line m.options)) c.header-header.ensures
