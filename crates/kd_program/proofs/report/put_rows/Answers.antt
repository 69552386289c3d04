use Rattle.std.proofs.Common.{◌≡◌, OnOk, string_bytes, subst}
use Rattle.kd_program.specs.Report.{seen_rows_text}
use Rattle.kd_program.proofs.Grouped.{six_parts}
use Rattle.kd_program.proofs.report.put_rows.Goals as goal

pub returns : goal.returns
unfolding seen_rows_text
returns c =
    subst (λ text. OnOk c.put_behind.result (string_bytes c.put_behind.new.text ≡ text))
    (six_parts _ _ _ _ _ _ _ _ _ _ _ _ c.in_ok-push_str.ensures.bytes c.in_ok-write.ensures.bytes
    c.in_ok-push_str-2.ensures.bytes c.in_ok-write-2.ensures.bytes c.in_ok-put_ahead.ensures)
    c.put_behind.ensures
