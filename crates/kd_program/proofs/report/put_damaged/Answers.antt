use Rattle.std.proofs.Common.{◌≡◌, ◌++◌, OnOk, codes, string_bytes, subst}
use Rattle.kd_program.specs.Report.{damaged_line}
use Rattle.kd_program.proofs.Grouped.{appended, four_parts}
use Rattle.kd_program.proofs.report.put_damaged.Goals as goal

pub returns : goal.returns
unfolding damaged_line
returns c =
    let end = codes " bytes behind its last good commit\n" in
    let last : OnOk c.push_str-3.result (string_bytes c.push_str-3.new.self ≡ string_bytes c.write.new.self ++ end) = appended c.push_str-3.result _ _ end c.push_str-3.ensures.bytes in
    subst (λ text. OnOk c.push_str-3.result (string_bytes c.push_str-3.new.self ≡ text))
    (four_parts _ _ _ _ end _ _ _ c.in_ok-push_str.ensures.bytes c.in_ok-push_str-2.ensures.bytes
    c.in_ok-write.ensures.bytes)
    last
